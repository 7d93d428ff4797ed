-- What an insertion asks of crossings, contents and names (own rule).
use Rattle.std.specs.Prelude.{◌≡◌, ℕ, zero, suc, Bool, true, false, List, [], ◌∷◌, Option, Some, None}
use Rattle.std.specs.List.{list_all}
use Rattle.lp_model.specs.NetlistView.{InstanceView, ModuleView}
use Rattle.lp_spec_design.specs.Intents.{SetNumber}
use Rattle.lp_spec_design.specs.Winners.{IsIn, Crossing}
use Rattle.lp_spec_written.specs.Shared.{named, same_content}

-- ---- supplies that read a crossing

abbrev pub first_reader : List (Option SetNumber) → Option (Option SetNumber)
first_reader [] = None
first_reader (r ∷ more) = Some r

-- the same supplies read, whatever their number and order, and the first is the same
pub record ReadAlike (rs qs : List (Option SetNumber)) : Type 0 where
  pub there : (r : Option SetNumber) → IsIn r rs → IsIn r qs
  pub back : (r : Option SetNumber) → IsIn r qs → IsIn r rs
  pub head : first_reader rs ≡ first_reader qs

abbrev pub read_by_these : Crossing → List (Option SetNumber) → Crossing
read_by_these c rs = record c { readers = rs }

-- ---- equal content

-- a module contains modules down to a depth at most
abbrev pub some_is_within : (ModuleView → Bool) → Option ModuleView → Bool
some_is_within within None = true
some_is_within within (Some m) = within m

abbrev pub is_within : List ModuleView → ℕ → ModuleView → Bool
is_within modules zero m = false
is_within modules (suc depth) m = list_all (λ (x : InstanceView). some_is_within (is_within modules depth) (named modules x.target)) m.instances

-- down to a depth, equal content is an equivalence
pub record IsEquivalence (modules : List ModuleView) (depth : ℕ) : Type 0 where
  pub same : (a : ModuleView) → is_within modules depth a ≡ true → same_content modules depth a a ≡ true
  pub turned : (a b : ModuleView) → same_content modules depth a b ≡ true → same_content modules depth b a ≡ true
  pub joined : (a b c : ModuleView) → same_content modules depth a b ≡ true → same_content modules depth b c ≡ true → same_content modules depth a c ≡ true
