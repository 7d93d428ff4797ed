-- What the reader of parts answers.
use Rattle.std.specs.Prelude.{◌≡◌, ℕ, List, Result, Ok, Err}
use Rattle.std.specs.Global.{Vec}
use Rattle.lp_spec_place.specs.Leaving.{Leaves}
use Rattle.lp_expr.specs.declared.dialect.Dialect.{Dialect}
use Rattle.lp_expr.specs.declared.dialect.Part.{Part}
use Rattle.lp_expr.specs.declared.parts.PartsFault.{PartsFault}
use Rattle.lp_expr.specs.declared.parts.PartsFault.TheVariants as faults
use Rattle.lp_expr.specs.Grammar.{IsExpression}
use Rattle.lp_expr.specs.Machine.{Reading, Stopped, Whole}

-- the parts, the place where the reader stopped, or want of memory
abbrev pub IsReading : Result (Vec Part) PartsFault → Reading → Type 0
IsReading (Ok parts) r = r ≡ Whole parts.items
IsReading (Err (faults.Syntax place)) r = r ≡ Stopped place
IsReading (Err faults.NoMemory) r = Unit {0}

-- a text leaves the language at the place of its fault
abbrev pub LeavesAt : Dialect → List ℕ → PartsFault → Type 0
LeavesAt d text (faults.Syntax place) = Leaves ℕ (IsExpression d) text place
LeavesAt d text faults.NoMemory = Unit {0}
