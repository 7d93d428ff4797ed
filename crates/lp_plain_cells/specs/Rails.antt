-- What the name of a power or ground pin stands for, where all power pins and all ground pins are on or not (own rule).
use Rattle.std.specs.Prelude.{ℕ, Bool, true, false, ◌&&◌, List, Option, bytes_eq}
use Rattle.std.specs.List.{find}
use Rattle.std.specs.Option.{option_map}
use Rattle.lp_text.specs.Texts.{text_at}
use Rattle.lp_text.specs.declared.names.NameId.{NameId}
use Rattle.lp_tern.specs.declared.tern.Tern.{Tern}
use Rattle.lp_model.specs.declared.library.PgPin.{PgPin}
use Rattle.lp_model.specs.declared.library.Pin.{Pin}
use Rattle.lp_model.specs.declared.library.Cell.{Cell}
use Rattle.lp_model.specs.LibraryView.{ExprView, CellView, cell_view, expr_view}
use Rattle.lp_behaviour.specs.Signals.{known}
use Rattle.lp_spec_pins.specs.Pins.{pg_named, level_by}
use Rattle.lp_spec_plain.specs.Cells.{on_with, is_down_with, follows}

-- the first power or ground pin with the text of a name
abbrev pub pg_found : List (List ℕ) → List PgPin → NameId → Option PgPin
pg_found texts pgs name = find (λ (g : PgPin). bytes_eq (text_at texts g.name.0) (text_at texts name.0)) pgs

-- the level of what a text names
abbrev pub level_named : CellView → Bool → Bool → List ℕ → Bool
level_named c power gnd n = level_by (pg_named c n) (on_with power gnd (pg_named c n))

-- the same as a value, by the number of the name
abbrev pub value_named : List (List ℕ) → Cell → Bool → Bool → NameId → Tern
value_named texts cell power gnd name = known (level_named (cell_view texts cell) power gnd (text_at texts name.0))

-- what a signal pin has as a function is lost exactly where the power or the ground is not on
abbrev pub is_lost_pin : List (List ℕ) → Cell → Pin → Bool
is_lost_pin texts cell q = follows (cell_view texts cell) (option_map (expr_view texts) q.function) (option_map (expr_view texts) q.power_down)

-- in all four cases a function is 1 exactly where the power or the ground is not on
abbrev pub is_down_always : CellView → ExprView → Bool
is_down_always c e = is_down_with c e true true && (is_down_with c e true false && (is_down_with c e false true && is_down_with c e false false))
