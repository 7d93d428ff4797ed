-- The statement of the law that joins names by text with names by number (own rule).
use Rattle.std.specs.Prelude.{◌≡◌, ℕ, List, length, true}
use Rattle.lp_text.specs.Texts.{distinct}
use Rattle.lp_tern.specs.declared.tern.Tern.{Tern}
use Rattle.lp_expr.specs.Formula.{Formula}
use Rattle.lp_model.specs.Agreement.{numbers_below}
use Rattle.lp_model.specs.declared.library.Cell.{Cell}
use Rattle.lp_model.specs.LibraryView.{cell_view, cell_numbers, expr_view, expr_numbers}
use Rattle.lp_behaviour.specs.Functions as by_number
use Rattle.lp_spec_design.specs.Keys.{Name}
use Rattle.lp_spec_design.specs.Settled as by_text
use Rattle.lp_spec_design.specs.Sees.{Sees}

-- over a table of distinct texts a function of a cell has the same value by the texts of its names as by their numbers
abbrev pub FunctionsByTexts : Type 0
FunctionsByTexts =
    (texts : List (List ℕ)) (cell : Cell) (e : Formula) (pins : List Tern) (seen : Name → Tern) (q : Tern)
    → distinct texts ≡ true → numbers_below (length texts) (cell_numbers cell) ≡ true
    → numbers_below (length texts) (expr_numbers e) ≡ true → Sees texts cell pins seen
    → by_text.function_value (cell_view texts cell) seen q (expr_view texts e)
    ≡ by_number.function_value cell pins q e
