-- The areas of the cells of a library that fit (own rule).
use Rattle.std.specs.Prelude.{ℕ, Bool, true, ◌&&◌, if◌then◌else◌, List, map, Option, Some, None, bytes_eq}
use Rattle.std.specs.List.{list_any}
use Rattle.std.specs.Option.{option_map}
use Rattle.lp_text.specs.Texts.{text_at}
use Rattle.lp_text.specs.declared.names.NameId.{NameId}
use Rattle.lp_model.specs.declared.ids.CellId.{CellId}
use Rattle.lp_model.specs.declared.library.Cell.{Cell}
use Rattle.lp_model.specs.declared.need.IsoNeed.{IsoNeed}
use Rattle.lp_model.specs.declared.need.ShiftNeed.{ShiftNeed}
use Rattle.lp_model.specs.declared.need.SwitchNeed.{SwitchNeed}
use Rattle.lp_choice.specs.Clamps.{clamp_fits}
use Rattle.lp_choice.specs.Shifts.{shift_fits}
use Rattle.lp_choice.specs.Switches.{complement, switch_fits}

-- a name is one of a list, where there is one
abbrev pub is_listed : List (List ℕ) → Option (List NameId) → NameId → Bool
is_listed texts None n = true
is_listed texts (Some names) n = list_any (λ (m : NameId). bytes_eq (text_at texts n.0) (text_at texts m.0)) names

abbrev pub clamp_area : List (List ℕ) → IsoNeed → Cell → Option ℕ
clamp_area texts n c = if is_listed texts n.list c.name && clamp_fits texts n c then Some c.area else None

abbrev pub clamp_areas : List (List ℕ) → IsoNeed → List Cell → List (Option ℕ)
clamp_areas texts n cells = map (clamp_area texts n) cells

abbrev pub shift_area : List (List ℕ) → ShiftNeed → Cell → Option ℕ
shift_area texts n c = if is_listed texts n.list c.name && shift_fits texts n c then Some c.area else None

abbrev pub shift_areas : List (List ℕ) → ShiftNeed → List Cell → List (Option ℕ)
shift_areas texts n cells = map (shift_area texts n) cells

abbrev pub switch_area : List (List ℕ) → SwitchNeed → Cell → Option ℕ
switch_area texts n c = if is_listed texts n.list c.name && switch_fits texts (complement n.on) c then Some c.area else None

abbrev pub switch_areas : List (List ℕ) → SwitchNeed → List Cell → List (Option ℕ)
switch_areas texts n cells = map (switch_area texts n) cells

-- a cell by its number
abbrev pub numbers : Option CellId → Option ℕ
numbers found = option_map (λ (k : CellId). k.0) found
