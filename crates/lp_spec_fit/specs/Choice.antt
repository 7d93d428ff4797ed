-- Which of the cells that fit is taken (own rule; IEEE 1801-2015 use_interface_cell, map_retention_cell and map_power_switch list the cells that may be).
use Rattle.std.specs.Prelude.{◌≡◌, ◌≤◌, ◌<◌, slice_get, ℕ, nat_le, Bool, true, not, ◌&&◌, ◌||◌, List, Option, Some, None, bytes_eq}
use Rattle.std.specs.List.{list_any, list_all}
use Rattle.lp_model.specs.LibraryView.{CellView}
use Rattle.lp_spec_design.specs.Domains.{first_number}
use Rattle.lp_spec_fit.specs.Needs.{Mapped, ClampNeed, ShifterNeed, RegisterNeed, SwitchCellNeed}
use Rattle.lp_spec_fit.specs.Fits.{fits_clamp, fits_shifter, fits_register, fits_switch}

abbrev pub is_mapped : Mapped → CellView → Bool
is_mapped None c = true
is_mapped (Some names) c = list_any (bytes_eq c.name) names

-- it fits, and no cell that fits has less area
abbrev pub is_least : (CellView → Bool) → List CellView → CellView → Bool
is_least fits cells c = fits c && list_all (λ (d : CellView). not (fits d) || nat_le c.area d.area) cells

-- the place in the library of the first cell of least area that fits
abbrev pub choice : (CellView → Bool) → List CellView → Option ℕ
choice fits cells = first_number (is_least fits cells) 0 cells

-- in other words: no cell that fits has less area, and each earlier one that fits has more
pub record IsChoice (fits : CellView → Bool) (cells : List CellView) (k : ℕ) : Type 0 where
  pub cell : CellView
  pub there : slice_get cells k ≡ Some cell
  pub is_fit : fits cell ≡ true
  pub least : (j : ℕ) (other : CellView) → slice_get cells j ≡ Some other → fits other ≡ true → cell.area ≤ other.area
  pub first : (j : ℕ) (other : CellView) → j < k → slice_get cells j ≡ Some other → fits other ≡ true → cell.area < other.area

abbrev pub clamp_choice : ClampNeed → List CellView → Option ℕ
clamp_choice n cells = choice (λ c. is_mapped n.mapped c && fits_clamp n c) cells

abbrev pub shifter_choice : ShifterNeed → List CellView → Option ℕ
shifter_choice n cells = choice (λ c. is_mapped n.mapped c && fits_shifter n c) cells

abbrev pub register_choice : RegisterNeed → List CellView → Option ℕ
register_choice n cells = choice (λ c. is_mapped n.mapped c && fits_register n c) cells

abbrev pub switch_choice : SwitchCellNeed → List CellView → Option ℕ
switch_choice n cells = choice (λ c. is_mapped n.mapped c && fits_switch n c) cells
