-- The statements of the laws of this crate (own rule).
use Rattle.std.specs.Prelude.{◌≡◌, nat_lt, ◌↔◌, ◌+◌, ◌≤◌, ℕ, List, true, map, Some, None, is_some, slice_get, slice_index_or, length, min, sum_by}
use Rattle.lp_text.specs.Texts.{distinct}
use Rattle.lp_model.specs.NetlistView.{ModuleView}
use Rattle.lp_order.specs.Order.{row_of, Reads, ReadsBelow, Reaches, IsOrder, HasLoop}
use Rattle.lp_spec_design.specs.Netlists.{Structure}
use Rattle.lp_spec_faults.specs.Lines.{first_of}
use Rattle.lp_spec_faults.specs.Modules.{recursive, modules_in, together}
use Rattle.lp_targets.specs.declared.target.Target.{Target}
use Rattle.lp_targets.specs.Targets.{AreTargets}
use Rattle.lp_targets.specs.Children.{children}
use Rattle.lp_loops.specs.Loops.{IsFirstLooped}

-- where the modules, whose names differ, have an order by what they contain, none contains itself
abbrev pub OrderMeansNoRecursion : Type 0
OrderMeansNoRecursion =
    (s : Structure) (rows : List (List Target)) (order : List ℕ)
    → AreTargets s rows
    → distinct (map (λ (m : ModuleView). m.name) s.modules) ≡ true
    → IsOrder (children rows) order
    → first_of (recursive s) ≡ None

-- where they have a loop, one contains itself
abbrev pub LoopMeansRecursion : Type 0
LoopMeansRecursion =
    (s : Structure) (rows : List (List Target))
    → AreTargets s rows
    → HasLoop (children rows)
    → is_some (first_of (recursive s)) ≡ true

-- a module contains itself exactly where its place leads to itself
abbrev pub RecursionByPlace : Type 0
RecursionByPlace =
    (s : Structure) (rows : List (List Target)) (a : ℕ) (m : ModuleView)
    → AreTargets s rows
    → distinct (map (λ (x : ModuleView). x.name) s.modules) ≡ true
    → slice_get s.modules a ≡ Some m
    → ((recursive s).test m ≡ true) ↔ Reaches (children rows) a a

-- the first place that leads to itself is that of the first module that contains itself
abbrev pub FirstByPlace : Type 0
FirstByPlace =
    (s : Structure) (rows : List (List Target)) (a : ℕ)
    → AreTargets s rows
    → distinct (map (λ (m : ModuleView). m.name) s.modules) ≡ true
    → IsFirstLooped (children rows) a
    → (m : ModuleView) × (slice_get s.modules a ≡ Some m) × (first_of (recursive s) ≡ Some m)

-- where no place leads to itself, no module contains itself
abbrev pub NoLoopMeansNoRecursion : Type 0
NoLoopMeansNoRecursion =
    (s : Structure) (rows : List (List Target))
    → AreTargets s rows
    → distinct (map (λ (m : ModuleView). m.name) s.modules) ≡ true
    → (HasLoop (children rows) → ⊥)
    → first_of (recursive s) ≡ None

-- where no place leads to itself, no more depth than there are modules adds to what a module has together with all below it
abbrev pub DepthOfModulesIsEnough : Type 0
DepthOfModulesIsEnough =
    (s : Structure) (rows : List (List Target)) (each : ModuleView → ℕ) (depth a : ℕ) (m : ModuleView)
    → AreTargets s rows
    → (HasLoop (children rows) → ⊥)
    → slice_get s.modules a ≡ Some m
    → length s.modules ≤ depth
    → together s each depth m ≡ together s each (length s.modules) m

-- there, what a module has together is its own and what each of its module instances has together
abbrev pub TogetherByModule : Type 0
TogetherByModule =
    (s : Structure) (rows : List (List Target)) (each : ModuleView → ℕ) (a : ℕ) (m : ModuleView)
    → AreTargets s rows
    → (HasLoop (children rows) → ⊥)
    → slice_get s.modules a ≡ Some m
    → together s each (length s.modules) m ≡ each m + sum_by (together s each (length s.modules)) (modules_in s m)

-- there, up to a limit, what a module has together is found from a table of that by place, where it is right for each module in it
abbrev pub CappedByPlace : Type 0
CappedByPlace =
    (s : Structure) (rows : List (List Target)) (each : ModuleView → ℕ) (limit : ℕ) (table : List ℕ) (a : ℕ) (m : ModuleView)
    → AreTargets s rows
    → ReadsBelow (length rows) (children rows)
    → (HasLoop (children rows) → ⊥)
    → slice_get s.modules a ≡ Some m
    → ((b : ℕ) (k : ModuleView) → Reads (children rows) a b → slice_get s.modules b ≡ Some k → slice_index_or table b 0 ≡ min limit (together s each (length s.modules) k))
    → min limit (together s each (length s.modules) m) ≡ min limit (each m + sum_by (λ b. slice_index_or table b 0) (row_of (children rows) a))

-- a count that is kept up to one more than a limit tells whether it is over the limit
abbrev pub CappedTellsOver : Type 0
CappedTellsOver = (limit n : ℕ) → nat_lt limit (min (limit + 1) n) ≡ nat_lt limit n
