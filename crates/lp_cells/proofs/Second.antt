-- A walk that ends at the second group that passes finds whether two pass.
use Rattle.std.proofs.Common.{◌≡◌, Bool, true, false, List, [], ◌∷◌, length, refl, ◌∙◌, arith, cond}
use Rattle.std.specs.Prelude.{nat_lt, if◌then◌else◌}
use Rattle.std.specs.List.{filter}
use Rattle.std.proofs.lemmas.Bool.Decides.{nat_tests}
use Rattle.lp_model.specs.GroupsView.{GroupView}
use Rattle.lp_cells.specs.Reasons.{has_two}

-- a second group passes, where one may have been met already
abbrev pub has_second : (GroupView → Bool) → Bool → List GroupView → Bool
has_second test met [] = false
has_second test met (g ∷ groups) = if test g then (if met then true else has_second test true groups) else has_second test met groups

-- where one was met
has_second_more : (test : GroupView → Bool) (groups : List GroupView) → has_second test true groups ≡ nat_lt 0 (length (filter test groups))
has_second_more test [] = refl
has_second_more test (g ∷ groups) = by (test g) (has_second_more test groups)
  where
    by : (b : Bool) → has_second test true groups ≡ nat_lt 0 (length (filter test groups))
        → (if b then (if true then true else has_second test true groups) else has_second test true groups) ≡ nat_lt 0 (length (cond b (g ∷ filter test groups) (filter test groups)))
    by true e = grind (arith, nat_tests)
    by false e = e

-- of all groups
pub has_second_whole : (test : GroupView → Bool) (groups : List GroupView) → has_second test false groups ≡ has_two test groups
has_second_whole test [] = refl
has_second_whole test (g ∷ groups) = by (test g) (has_second_whole test groups)
  where
    by : (b : Bool) → has_second test false groups ≡ has_two test groups
        → (if b then (if false then true else has_second test true groups) else has_second test false groups) ≡ nat_lt 1 (length (cond b (g ∷ filter test groups) (filter test groups)))
    by true e = has_second_more test groups ∙ grind (arith, nat_tests)
    by false e = e
