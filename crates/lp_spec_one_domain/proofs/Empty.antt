-- What is added to a netlist of one domain: nothing.
use Rattle.std.proofs.Common.{◌≡◌, ℕ, Bool, true, false, not, ◌&&◌, List, [], ◌∷◌, ◌++◌, map, inl, inr, refl, sym, ap, ◌∙◌}
use Rattle.std.specs.Prelude.{◌+◌, ◌==◌, filter, flat_map, if◌then◌else◌}
use Rattle.std.proofs.lemmas.Bool.{false≢true}
use Rattle.lp_spec_design.specs.Keys.{Path}
use Rattle.lp_spec_design.specs.Netlists.{is_input}
use Rattle.lp_spec_design.specs.Instances.{Placed, cell_instances}
use Rattle.lp_spec_design.specs.Graph.{numbered, some_of}
use Rattle.lp_spec_design.specs.Domains.{BoundaryBit, boundary}
use Rattle.lp_spec_design.specs.Winners.{IsIn}
use Rattle.lp_spec_design.specs.Chains.{Operator}
use Rattle.lp_spec_design.proofs.Members.{of-flat, of-filter}
use Rattle.lp_spec_realises.specs.Operators.{OperatorAt, chain_of, operators_of_bit, all_operators, all_switches}
use Rattle.lp_spec_realises.specs.Implements.{Lists, is_retained}
use Rattle.lp_spec_written.specs.Places.{instances, Plan, plan, standing, kept}
use Rattle.lp_spec_written.specs.Nets.{Stretch, stretches_from, stretches}
use Rattle.lp_spec_one_domain.specs.Laws.{NothingIsPlanned}
use Rattle.lp_spec_one_domain.specs.OneDomain.{OneDomain, project_of}

-- ---- lists

pub nothing-flat : {A B : Type 0} (f : A → List B) (xs : List A) → ((x : A) → f x ≡ []) → flat_map f xs ≡ []
nothing-flat f [] none = refl
nothing-flat f (x ∷ xs) none = ap (λ ys. ys ++ flat_map f xs) (none x) ∙ nothing-flat f xs none

pub nothing-passes : {A : Type 0} (test : A → Bool) (xs : List A) → ((x : A) → test x ≡ false) → filter test xs ≡ []
nothing-passes test [] none = refl
nothing-passes test (x ∷ xs) none = ap (λ b. if b then x ∷ filter test xs else filter test xs) (none x) ∙ nothing-passes test xs none

pub nothing-in : {A : Type 0} (xs : List A) → ((x : A) → IsIn x xs → ⊥) → xs ≡ []
nothing-in [] none = refl
nothing-in (x ∷ xs) none = absurd (none x (inl refl))

pub never-both : (b c : Bool) → c ≡ false → (b && c) ≡ false
never-both true c e = e
never-both false c e = refl

-- ---- no strategy, so no operator

no-chain : (d : OneDomain) (b : BoundaryBit) → chain_of (project_of d) b ≡ []
no-chain d b = by (is_input b.port)
  where
    none : List Operator
    none = []

    by : (input : Bool) → (if input then none else none) ≡ none
    by true = refl
    by false = refl

pub no-operators : (d : OneDomain) → all_operators (project_of d) ≡ []
no-operators d = nothing-flat (operators_of_bit (project_of d)) (boundary d.structure (project_of d).intent) (λ b. ap (λ c. of_chain b c) (no-chain d b))
  where
    of_chain : BoundaryBit → List Operator → List OperatorAt
    of_chain b c = map (λ x. record { bit = b; number = x.0; operator = x.1 }) (numbered 0 c)

-- ---- no register with retention, and no switch

no-registers : (d : OneDomain) → filter (is_retained (project_of d)) (cell_instances d.structure) ≡ []
no-registers d = nothing-passes (is_retained (project_of d)) (cell_instances d.structure) (λ a. refl)

pub no-switches : (d : OneDomain) → all_switches (project_of d) ≡ []
no-switches d = refl

-- ---- so nothing is planned

abbrev pub nothing : Plan
nothing = record { operators = []; registers = []; switches = [] }

planned : (d : OneDomain) (l : Lists) → List OperatorAt → List Placed → Plan
planned d l operators registers = record { operators = some_of (standing (project_of d) l) operators; registers = some_of (kept (project_of d) l) registers; switches = [] }

pub nothing-planned : NothingIsPlanned
unfolding planned
nothing-planned d l = ap (λ o. planned d l o (filter (is_retained (project_of d)) (cell_instances d.structure))) (no-operators d) ∙ ap (planned d l []) (no-registers d)

-- ---- and no operator stands in an instance

uncounted : (d : OneDomain) (x : Path) (k : ℕ) (bits : List BoundaryBit) (s : Stretch) → IsIn s (stretches_from (project_of d) nothing x k bits) → s.count ≡ 0
uncounted d x k [] s h = absurd h
uncounted d x k (b ∷ bits) s (inl is) = ap (λ (r : Stretch). r.count) is
uncounted d x k (b ∷ bits) s (inr h) = uncounted d x (k + 0) bits s h

no-stretches : (d : OneDomain) → stretches (project_of d) nothing ≡ []
no-stretches d = nothing-in (stretches (project_of d) nothing) none
  where
    all : Path → List Stretch
    all x = stretches_from (project_of d) nothing x 0 (boundary d.structure (project_of d).intent)

    none : (s : Stretch) → IsIn s (stretches (project_of d) nothing) → ⊥
    none s h =
        let found = of-filter (λ (r : Stretch). not (r.count == 0)) s (flat_map all (instances (project_of d))) h in
        let there = of-flat all s (instances (project_of d)) found.0 in
        let zero_count = uncounted d there.0 0 (boundary d.structure (project_of d).intent) s there.2 in
        false≢true (sym (ap (λ n. not (n == 0)) zero_count) ∙ found.1)

pub no-stretches-planned : (d : OneDomain) (l : Lists) → stretches (project_of d) (plan (project_of d) l) ≡ []
no-stretches-planned d l = ap (stretches (project_of d)) (nothing-planned d l) ∙ no-stretches d
