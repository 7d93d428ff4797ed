-- The worked project is within the limits, and its intent is resolved.
use Rattle.std.proofs.Common.{◌≡◌, ◌≤◌, ◌+◌, ℕ, zero, suc, arith, Bool, true, false, List, [], ◌∷◌, ◌++◌, length, Some, None, inl, inr, refl, sym, ap, ◌∙◌, subst}
use Rattle.std.specs.Prelude.{◌==◌, bytes_eq, codes, filter, is_some, nat_le, slice_get, if◌then◌else◌, flat_map}
use Rattle.std.specs.List.{list_all, list_any}
use Rattle.std.proofs.lemmas.Bool.{false≢true, leb-true, ne_eqb}
use Rattle.std.proofs.lemmas.List.{length-append}
use Rattle.lp_model.specs.declared.intent.StrategyKind.TheVariants.{Isolation}
use Rattle.lp_model.specs.declared.library.Action.{Action}
use Rattle.lp_model.specs.declared.library.Action.TheVariants.{Rise}
use Rattle.lp_spec_design.specs.Keys.{Name, Path, same_path, Node, Inner, same_node}
use Rattle.lp_spec_design.specs.Reads.{node-true}
use Rattle.lp_spec_design.proofs.Members.{of-any}
use Rattle.lp_spec_design.specs.Netlists.{module_at}
use Rattle.lp_spec_design.specs.Nodes.{computing, nodes_in}
use Rattle.lp_spec_design.specs.Graph.{pairs}
use Rattle.lp_spec_design.specs.Intents.{SetNumber, Strategy, FromPort, FromSwitch}
use Rattle.lp_spec_design.specs.Winners.{IsIn, same_kind}
use Rattle.lp_spec_realises.specs.Projects.{network_of, functions_of}
use Rattle.lp_spec_realises.specs.Operators.{all_switches}
use Rattle.lp_spec_origins.specs.Used.{is_used_set}
use Rattle.lp_spec_written.specs.Places.{Standing, plan, Switching}
use Rattle.lp_spec_written.specs.Nets.{Stretch, stretches, stretches_in, links, with_next, Linked}
use Rattle.lp_spec_written.specs.Routes.{parts}
use Rattle.lp_spec_written_at.specs.Sources.{origin_name, HasOriginNames, HasFewAdditions, IsNetBit, HasControls}
use Rattle.lp_spec_agreement.proofs.Apart.{all_in}
use Rattle.lp_spec_proper.specs.Insertable.{StandsInside, IsResolved, IsWithinLimits}
use Rattle.lp_spec_worked.proofs.Worked.{worked, lists}

-- ---- supply ports have names of their own

-- the number of a supply port by its name
mark : Name → ℕ
mark n = if bytes_eq n (codes "VDD") then 0 else if bytes_eq n (codes "VSS") then 2 else 3

marked : (o : ℕ) → slice_get (network_of worked).origins o ≡ Some FromPort → mark (origin_name worked o) ≡ o
unfolding computing mark
marked zero e = refl
marked (suc zero) e = let other : Some (FromSwitch 3 (Inner (codes "en") None []) false) ≡ Some FromPort = e in absurd cc
marked (suc (suc zero)) e = refl
marked (suc (suc (suc zero))) e = refl
marked (suc (suc (suc (suc o)))) e = let none : None ≡ Some FromPort = e in absurd cc

origin_names : HasOriginNames worked
origin_names o r e f same = sym (marked o e) ∙ ap mark same ∙ marked r f

-- ---- what is added is not too much

abbrev stretches_of : List Stretch
stretches_of = stretches worked (plan worked lists)

few_nets : list_all (λ (s : Stretch). nat_le (s.start + s.count) 1000) stretches_of ≡ true
unfolding computing
few_nets = refl

few_parts : nat_le (length (parts worked (plan worked lists))) 1000 ≡ true
unfolding computing
few_parts = refl

few_switches : nat_le (length (all_switches worked)) 1000 ≡ true
unfolding computing
few_switches = refl

few_planned : nat_le (length (plan worked lists).switches) 1000 ≡ true
unfolding computing
few_planned = refl

few_stretched : nat_le (length (flat_map (λ (s : Stretch). s.operators) (stretches worked (plan worked lists)))) 1000 ≡ true
unfolding computing
few_stretched = refl

pairs_few : {A B : Type 0} (xs : List A) (ys : List B) → length (pairs xs ys) ≤ length xs
pairs_few [] ys = omega arith
pairs_few (x ∷ xs) [] = omega arith
pairs_few (x ∷ xs) (y ∷ ys) = let more = pairs_few xs ys in omega (arith, more)

-- no more operators stand in an instance than there are
module _ (all : List Stretch) (x : Path) where
  abbrev linked_of : Stretch → List Linked
  linked_of r = pairs r.operators (with_next (links worked all r))

  abbrev operators_of : List Stretch → List Standing
  operators_of rs = flat_map (λ (r : Stretch). r.operators) rs

  linked_few : (more : List Stretch) → length (flat_map linked_of (stretches_in more x)) ≤ length (operators_of more)
  linked_few [] = omega arith
  linked_few (s ∷ more) = by (same_path s.path x) (linked_few more)
    where
      by : (b : Bool) → length (flat_map linked_of (stretches_in more x)) ≤ length (operators_of more)
          → length (flat_map linked_of (if b then s ∷ stretches_in more x else stretches_in more x)) ≤ length (s.operators ++ operators_of more)
      by true few =
          let one = pairs_few s.operators (with_next (links worked all s)) in
          let left = length-append (linked_of s) (flat_map linked_of (stretches_in more x)) in
          let right = length-append s.operators (operators_of more) in
          omega (arith, one, few, left, right)
      by false few = let right = length-append s.operators (operators_of more) in omega (arith, few, right)

filter_few : {A : Type 0} (t : A → Bool) (xs : List A) → length (filter t xs) ≤ length xs
filter_few t [] = omega arith
filter_few t (x ∷ xs) = by (t x) (filter_few t xs)
  where
    by : (b : Bool) → length (filter t xs) ≤ length xs → length (if b then x ∷ filter t xs else filter t xs) ≤ length (x ∷ xs)
    by true few = omega (arith, few)
    by false few = omega (arith, few)

few : HasFewAdditions worked lists
few = record {
  nets = λ s h. let less = leb-true (s.start + s.count) 1000 (all_in (λ (r : Stretch). nat_le (r.start + r.count) 1000) s stretches_of few_nets h) in omega (arith, less);
  operators = λ x. let less = leb-true (length (flat_map (λ (s : Stretch). s.operators) stretches_of)) 1000 few_stretched in let more = linked_few stretches_of x stretches_of in omega (arith, less, more);
  switches = λ x. let less = leb-true (length (plan worked lists).switches) 1000 few_planned in let more = filter_few (λ (w : Switching). same_path w.path x) (plan worked lists).switches in omega (arith, less, more);
  numbers = let less = leb-true (length (all_switches worked)) 1000 few_switches in omega (arith, less);
  controls = let less = leb-true (length (parts worked (plan worked lists))) 1000 few_parts in omega (arith, less);
}

-- ---- controls

declared_in_top : (n : Name) → list_any (same_node (Inner n None [])) (nodes_in [] (module_at worked.structure [])) ≡ true → IsNetBit worked.structure (Inner n None [])
declared_in_top n e m at =
    let found = of-any (same_node (Inner n None [])) (nodes_in [] (module_at worked.structure [])) e in
    let here : IsIn (Inner n None []) (nodes_in [] (module_at worked.structure [])) = subst (λ j. IsIn j (nodes_in [] (module_at worked.structure []))) (sym (node-true (Inner n None []) found.0 found.2)) found.1 in
    subst (λ o. IsIn (Inner n None []) (nodes_in [] o)) at here

en_is : IsNetBit worked.structure (Inner (codes "en") None [])
unfolding computing
en_is = declared_in_top (codes "en") refl

sv_is : IsNetBit worked.structure (Inner (codes "sv") None [])
unfolding computing
sv_is = declared_in_top (codes "sv") refl

rs_is : IsNetBit worked.structure (Inner (codes "rs") None [])
unfolding computing
rs_is = declared_in_top (codes "rs") refl

abbrev en : Node
en = Inner (codes "en") None []

abbrev sv : Node × Action
sv = (Inner (codes "sv") None [], Rise)

abbrev rs : Node × Action
rs = (Inner (codes "rs") None [], Rise)

-- the controls of the strategies are these
enable_is : (t : Strategy) (k : Node) → IsIn t worked.intent.strategies → t.control ≡ Some k → en ≡ k
enable_is t k (inl is) e = let same : Some en ≡ Some k = ap (λ (r : Strategy). r.control) (sym is) ∙ e in cc
enable_is t k (inr (inl is)) e = let none : None ≡ Some k = ap (λ (r : Strategy). r.control) (sym is) ∙ e in absurd cc
enable_is t k (inr (inr (inl is))) e = let none : None ≡ Some k = ap (λ (r : Strategy). r.control) (sym is) ∙ e in absurd cc
enable_is t k (inr (inr (inr gone))) e = absurd gone

save_is : (t : Strategy) (k : Node × Action) → IsIn t worked.intent.strategies → t.save ≡ Some k → sv ≡ k
save_is t k (inl is) e = let none : None ≡ Some k = ap (λ (r : Strategy). r.save) (sym is) ∙ e in absurd cc
save_is t k (inr (inl is)) e = let none : None ≡ Some k = ap (λ (r : Strategy). r.save) (sym is) ∙ e in absurd cc
save_is t k (inr (inr (inl is))) e = let same : Some sv ≡ Some k = ap (λ (r : Strategy). r.save) (sym is) ∙ e in cc
save_is t k (inr (inr (inr gone))) e = absurd gone

restore_is : (t : Strategy) (k : Node × Action) → IsIn t worked.intent.strategies → t.restore ≡ Some k → rs ≡ k
restore_is t k (inl is) e = let none : None ≡ Some k = ap (λ (r : Strategy). r.restore) (sym is) ∙ e in absurd cc
restore_is t k (inr (inl is)) e = let none : None ≡ Some k = ap (λ (r : Strategy). r.restore) (sym is) ∙ e in absurd cc
restore_is t k (inr (inr (inl is))) e = let same : Some rs ≡ Some k = ap (λ (r : Strategy). r.restore) (sym is) ∙ e in cc
restore_is t k (inr (inr (inr gone))) e = absurd gone

controls : HasControls worked
controls = record {
  enables = λ t k h e. subst (IsNetBit worked.structure) (enable_is t k h e) en_is;
  saves = λ t k h e. subst (λ (r : Node × Action). IsNetBit worked.structure r.0) (save_is t k h e) sv_is;
  restores = λ t k h e. subst (λ (r : Node × Action). IsNetBit worked.structure r.0) (restore_is t k h e) rs_is;
}

isolated_is : (t : Strategy) → IsIn t worked.intent.strategies → same_kind Isolation t.kind ≡ true → t.inserts ≡ true → is_some t.control ≡ true
isolated_is t (inl is) kind e = ap (λ (r : Strategy). is_some r.control) is
isolated_is t (inr (inl is)) kind e = absurd (false≢true (sym (ap (λ (r : Strategy). same_kind Isolation r.kind) is) ∙ kind))
isolated_is t (inr (inr (inl is))) kind e = absurd (false≢true (sym (ap (λ (r : Strategy). same_kind Isolation r.kind) is) ∙ kind))
isolated_is t (inr (inr (inr gone))) kind e = absurd gone

-- ---- sets

used_sets : (k : SetNumber) → is_used_set worked.intent k ≡ true → is_some (functions_of worked (Some k)) ≡ true
used_sets zero e = refl
used_sets (suc zero) e = refl
used_sets (suc (suc k)) e = absurd (false≢true (sym none ∙ e))
  where
    zero_not : (0 == suc (suc k)) ≡ false
    zero_not = ne_eqb 0 (suc (suc k)) (λ h. omega (arith, h))

    one_not : (1 == suc (suc k)) ≡ false
    one_not = ne_eqb 1 (suc (suc k)) (λ h. omega (arith, h))

    none : is_used_set worked.intent (suc (suc k)) ≡ false
    none = rw (zero_not, one_not) refl

-- ---- together

resolved : IsResolved worked
unfolding computing
resolved = record {
  enables = λ t k h e. subst (StandsInside worked.structure) (enable_is t k h e) refl;
  saves = λ t k h e. subst (λ (r : Node × Action). StandsInside worked.structure r.0) (save_is t k h e) refl;
  restores = λ t k h e. subst (λ (r : Node × Action). StandsInside worked.structure r.0) (restore_is t k h e) refl;
  isolated = isolated_is;
  sets = used_sets;
}

pub within : IsWithinLimits worked lists
unfolding computing
within = record { cell_names = refl; free_cells = refl; origin_names = origin_names; controls = controls; resolved = resolved; scopes = λ x h. refl; few = few }
