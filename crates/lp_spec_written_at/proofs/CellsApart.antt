-- No two of the expected cell instances are one: those of the source, of the operators and of the switches.
use Rattle.std.proofs.Common.{◌≡◌, ◌⊎◌, ◌≤◌, ℕ, ◌+◌, ◌==◌, true, false, ◌&&◌, List, [], ◌∷◌, length, map, Some, inl, inr, sym, ap, ◌∙◌, subst, arith}
use Rattle.std.specs.Prelude.{decimal, drop, unwrap_or, option_and_then}
use Rattle.std.specs.List.{list_all}
use Rattle.std.proofs.lemmas.Bool.{false≢true}
use Rattle.std.proofs.lemmas.Fmt.{decimal_injective}
use Rattle.lp_model.specs.LibraryView.{CellView}
use Rattle.lp_spec_design.specs.Keys.{Name, Path, same_path}
use Rattle.lp_spec_design.specs.Netlists.{Structure, first}
use Rattle.lp_spec_design.specs.Instances.{Placed, cell_instances}
use Rattle.lp_spec_design.specs.Graph.{numbered}
use Rattle.lp_spec_design.specs.Winners.{IsIn}
use Rattle.lp_spec_design.specs.Reads.{both, path-self}
use Rattle.lp_spec_design.proofs.Members.{IsApart, in-left, in-right, in-either, in-map, of-map, of-pairs}
use Rattle.lp_spec_realises.specs.Projects.{Project, network_of}
use Rattle.lp_spec_realises.specs.ProjectNetlists.{are_apart}
use Rattle.lp_spec_faults.specs.Modules.{is_own}
use Rattle.lp_spec_realises.specs.Operators.{SwitchAt, all_operators, all_switches, placed_operator, placed_switch}
use Rattle.lp_spec_realises.specs.Realises.{are_distinct, added, expected_cells, has_placed, has_the_cells, source_cell_stands, operator_stands, switch_stands}
use Rattle.lp_spec_realises.specs.Implements.{Lists}
use Rattle.lp_spec_written.specs.Places.{Switching, plan, switches_in, operator_names}
use Rattle.lp_spec_written.specs.Nets.{Linked, linked}
use Rattle.lp_spec_written.specs.Written.{additions, named_operators, written_operator, written_operators, written_switch, written_switches}
use Rattle.lp_spec_hub.specs.Entries.{HasWaysApart, HasItsCells}
use Rattle.lp_spec_wired.specs.Contents.{IsWrittenAt}
use Rattle.lp_spec_wired.specs.Names.{switch_at, placement_of}
use Rattle.lp_spec_written_at.specs.Sources.{IsFree, HasSwitchCells, HasRegisterCells}
use Rattle.lp_spec_written_at.proofs.Instances.{apart-append}
use Rattle.lp_spec_written_at.proofs.Modules.{from-modules, free-instance, is-added, cells-listed}
use Rattle.lp_spec_written_at.proofs.Operators.{letter}
use Rattle.lp_spec_written_at.proofs.Stands.{switch-there, operators-stand, switches-stand}
use Rattle.lp_spec_written_at.proofs.Switches.{switch_name, number-from, first-kept, first-numbered, operator-letter}
use Rattle.lp_spec_written_at.proofs.SourceCells.{sources-stand}
use Rattle.lp_spec_written_at.proofs.BackSwitches.{asked_origin, origins-apart}
use Rattle.lp_spec_written_at.proofs.NoOthers.{stands-in, no-others}
use Rattle.lp_spec_written_at.proofs.Distinct.{apart-distinct, cells-apart}
use Rattle.lp_spec_written_at.proofs.OperatorsApart.{apart-map, written-for, placed-apart}

pub of-apart-map : {A B : Type 0} (f : A → B) (xs : List A) → IsApart (map f xs) → IsApart xs
of-apart-map f [] apart = tt
of-apart-map f (x ∷ xs) apart = (λ h. apart.0 (in-map f x xs h), of-apart-map f xs apart.1)

pub numbers-tell : {A : Type 0} (k : ℕ) (xs : List A) (y z : ℕ × A) → IsIn y (numbered k xs) → IsIn z (numbered k xs) → y.0 ≡ z.0 → y ≡ z
numbers-tell k [] y z h g same = absurd h
numbers-tell k (x ∷ xs) y z (inl a) (inl b) same = a ∙ sym b
numbers-tell k (x ∷ xs) y z (inl a) (inr r) same =
    let from = number-from (k + 1) xs z r in
    let number : y.0 ≡ k = ap (λ q. q.0) a in
    absurd (omega (arith, from.0, number, same))
numbers-tell k (x ∷ xs) y z (inr r) (inl b) same =
    let from = number-from (k + 1) xs y r in
    let number : z.0 ≡ k = ap (λ q. q.0) b in
    absurd (omega (arith, from.0, number, same))
numbers-tell k (x ∷ xs) y z (inr r) (inr s) same = numbers-tell (k + 1) xs y z r s same

pub name-number : (j k : ℕ) → j ≤ 1000000000 → k ≤ 1000000000 → switch_name j ≡ switch_name k → j ≡ k
name-number j k one two e =
    let same : decimal j ≡ decimal k = ap (λ (z : Name). drop 5 z) e in
    decimal_injective j k (omega (arith, one)) (omega (arith, two)) same

-- where a switch is written
record IsSwitchedFor (p : Project) (l : Lists) (x : SwitchAt) : Type 0 where
  switching : Switching
  asked : switching.asked ≡ x
  named : ℕ × Switching
  listed : IsIn named (numbered 0 (switches_in (plan p l) switching.path))
  is : named.1 ≡ switching
  place : placed_switch (placement_of p l) x ≡ record { path = switching.path; instance = switch_name named.0 }

module _ (p : Project) (l : Lists) (cells : HasSwitchCells p l) where
  switched-for : (x : SwitchAt) → IsIn x (all_switches p) → IsSwitchedFor p l x
  switched-for x h =
      let its = switch-there p l cells x h in
      let k = its.0 in
      let of_origin = λ (z : Switching). z.asked.origin == x.origin in
      let kept : first of_origin (switches_in (plan p l) k.path) ≡ _ = first-kept of_origin (λ (z : Switching). same_path z.path k.path) (plan p l).switches k its.1 (path-self k.path) in
      let found = first-numbered of_origin 0 (switches_in (plan p l) k.path) k kept in
      record {
        switching = k;
        asked = its.2.asked;
        named = found.0;
        listed = found.2;
        is = found.3;
        place = ap (switch_at (additions p l) x.origin) its.1
            ∙ ap (λ r. record { path = k.path; instance = unwrap_or (option_and_then (λ (y : ℕ × Switching). Some (switch_name y.0)) r) [] }) found.1;
      }

  module _ (few : (x : Path) → length (switches_in (plan p l) x) ≤ 1000000000) where
    switches-tell : (x y : SwitchAt) → IsIn x (all_switches p) → IsIn y (all_switches p) → placed_switch (placement_of p l) x ≡ placed_switch (placement_of p l) y → x ≡ y
    switches-tell x y h g same =
        let a = switched-for x h in
        let b = switched-for y g in
        let place = sym a.place ∙ (same ∙ b.place) in
        let path : a.switching.path ≡ b.switching.path = ap (λ (q : Placed). q.path) place in
        let name : switch_name a.named.0 ≡ switch_name b.named.0 = ap (λ (q : Placed). q.instance) place in
        let all = switches_in (plan p l) a.switching.path in
        let there : IsIn b.named (numbered 0 all) = subst (λ z. IsIn b.named (numbered 0 (switches_in (plan p l) z))) (sym path) b.listed in
        let size = few a.switching.path in
        let one = number-from 0 all a.named a.listed in
        let two = number-from 0 all b.named there in
        let number = name-number a.named.0 b.named.0 (omega (arith, one.1, size)) (omega (arith, two.1, size)) name in
        let is = numbers-tell 0 all a.named b.named a.listed there number in
        sym a.asked ∙ (ap (λ (s : Switching). s.asked) (sym a.is ∙ (ap (λ (v : ℕ × Switching). v.1) is ∙ b.is)) ∙ b.asked)

    switches-apart : IsApart (map (placed_switch (placement_of p l)) (all_switches p))
    switches-apart = apart-map (placed_switch (placement_of p l)) (all_switches p) (of-apart-map asked_origin (all_switches p) (origins-apart 0 (network_of p).origins)) switches-tell

    pub switches-distinct : are_distinct (map (placed_switch (placement_of p l)) (all_switches p)) ≡ true
    switches-distinct = apart-distinct (map (placed_switch (placement_of p l)) (all_switches p)) switches-apart

pub no-letter : (n : Name) (k : ℕ) → (letter n ≡ 105) ⊎ (letter n ≡ 108) → n ≡ switch_name k → ⊥
no-letter n k (inl is) e = let eq : ◌≡◌ {A = ℕ} 105 115 = sym is ∙ ap letter e in omega (arith, eq)
no-letter n k (inr is) e = let eq : ◌≡◌ {A = ℕ} 108 115 = sym is ∙ ap letter e in omega (arith, eq)

module _ (p : Project) (l : Lists) (f : IsFree p) (ways : HasWaysApart p) (cells : HasItsCells p l) (switched : HasSwitchCells p l)
    (few : (x : Path) → length (linked p (additions p l).chains x) ≤ 1000000000) (few_switches : (x : Path) → length (switches_in (plan p l) x) ≤ 1000000000) where
  abbrev operators : List Placed
  operators = map (placed_operator (placement_of p l)) (all_operators p)

  abbrev switches : List Placed
  switches = map (placed_switch (placement_of p l)) (all_switches p)

  kinds-apart : (z : Placed) → IsIn z operators → IsIn z switches → ⊥
  kinds-apart z h g =
      let one = of-map (placed_operator (placement_of p l)) z (all_operators p) h in
      let two = of-map (placed_switch (placement_of p l)) z (all_switches p) g in
      let a = written-for p l f ways cells one.0 one.1 in
      let b = switched-for p l switched two.0 two.1 in
      let all = linked p (additions p l).chains a.standing.path in
      let os = map (λ (v : Linked). v.0.asked.operator) all in
      let pair = of-pairs a.named (operator_names 0 0 os) all a.listed in
      let name : a.named.0 ≡ switch_name b.named.0 = ap (λ (q : Placed). q.instance) (sym (one.2 ∙ a.place) ∙ (two.2 ∙ b.place)) in
      no-letter a.named.0 b.named.0 (operator-letter 0 0 os a.named.0 pair.0) name

  added-apart : IsApart (added p (placement_of p l))
  added-apart = apart-append operators switches (placed-apart p l f ways cells few) (switches-apart p l switched few_switches) kinds-apart

  -- a name of the source is no added one
  source-free : (z : Placed) → IsIn z (cell_instances p.structure) → is_own z.instance ≡ false
  source-free z h =
      let st = stands-in p.structure z h in
      ap is_own st.named ∙ free-instance p (additions p l) f (cells-listed p l) st.owner st.instance (from-modules p.structure z.path st.owner st.at) st.among

  added-own : (z : Placed) → IsIn z (added p (placement_of p l)) → is_own z.instance ≡ true
  added-own z h = elim (in-either z operators switches h) [
    | inl g ↦
        let one = of-map (placed_operator (placement_of p l)) z (all_operators p) g in
        let a = written-for p l f ways cells one.0 one.1 in
        let x = a.standing.path in
        let y = written_operator p (additions p l) x a.named in
        let listed = in-left y (written_operators p (additions p l) x) (written_switches p (additions p l) x) (in-map (written_operator p (additions p l) x) a.named (named_operators (linked p (additions p l).chains x)) a.listed) in
        ap (λ (q : Placed). is_own q.instance) (one.2 ∙ a.place) ∙ (is-added p (additions p l) f (cells-listed p l) x y listed).own
    | inr g ↦
        let two = of-map (placed_switch (placement_of p l)) z (all_switches p) g in
        let b = switched-for p l switched two.0 two.1 in
        let x = b.switching.path in
        let y = written_switch p (additions p l) x b.named in
        let listed = in-right y (written_operators p (additions p l) x) (written_switches p (additions p l) x) (in-map (written_switch p (additions p l) x) b.named (numbered 0 (switches_in (plan p l) x)) b.listed) in
        ap (λ (q : Placed). is_own q.instance) (two.2 ∙ b.place) ∙ (is-added p (additions p l) f (cells-listed p l) x y listed).own
  ]

  expected-apart : IsApart (expected_cells p (placement_of p l))
  unfolding cell_instances
  expected-apart = apart-append (cell_instances p.structure) (added p (placement_of p l)) (cells-apart p f 64 []) added-apart (λ z h g. false≢true (sym (source-free z h) ∙ added-own z g))

  pub expected-distinct : are_distinct (expected_cells p (placement_of p l)) ≡ true
  expected-distinct = apart-distinct (expected_cells p (placement_of p l)) expected-apart

  pub cells-whole : (w : Structure) → are_apart (map (λ (k : CellView). k.name) p.structure.cells) ≡ true → HasRegisterCells p l → IsWrittenAt p (additions p l) w → has_the_cells p w (placement_of p l) ≡ true
  cells-whole w apart registers is =
      let source = list_all (source_cell_stands p w) (cell_instances p.structure) in
      let operators_there = list_all (operator_stands p w (placement_of p l)) (all_operators p) in
      let switches_there = list_all (switch_stands w (placement_of p l)) (all_switches p) in
      let distinct = are_distinct (expected_cells p (placement_of p l)) in
      let others = list_all (has_placed (expected_cells p (placement_of p l))) (cell_instances w) in
      both source (operators_there && (switches_there && (distinct && others))) (sources-stand p l w f apart registers is)
      (both operators_there (switches_there && (distinct && others)) (operators-stand p l w f apart ways cells is few)
      (both switches_there (distinct && others) (switches-stand p l switched w f apart is few_switches)
      (both distinct others expected-distinct (no-others p l w f ways cells is))))
