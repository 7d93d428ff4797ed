-- In a netlist that has the written content at each path, each switch has the instance of its number, with the cell that was chosen for it.
use Rattle.std.proofs.Common.{◌≡◌, ◌⊎◌, ◌≤◌, ◌<◌, ℕ, ◌+◌, ◌==◌, Bool, true, false, cond, List, [], ◌∷◌, ◌++◌, length, map, Some, None, inl, inr, refl, sym, ap, ◌∙◌, arith}
use Rattle.std.specs.Prelude.{drop, codes, decimal, bytes_eq, is_some, option_and_then, filter, unwrap_or, if◌then◌else◌}
use Rattle.std.proofs.lemmas.Bool.{false≢true}
use Rattle.std.proofs.lemmas.Fmt.{decimal_injective}
use Rattle.lp_model.specs.NetlistView.{InstanceView, ModuleView}
use Rattle.lp_model.specs.LibraryView.{CellView}
use Rattle.lp_spec_design.specs.Keys.{Name, Path, same_path}
use Rattle.lp_spec_design.specs.Netlists.{Structure, first, module_named, cell_named, instance_named, module_at}
use Rattle.lp_spec_design.specs.Instances.{Placed}
use Rattle.lp_spec_design.specs.Graph.{numbered}
use Rattle.lp_spec_design.specs.Chains.{Operator, Clamp, Shift}
use Rattle.lp_spec_design.specs.Winners.{IsIn}
use Rattle.lp_spec_design.specs.Reads.{name-self, path-self}
use Rattle.lp_spec_design.proofs.Members.{in-right, in-map, of-map, of-filter, of-pairs, of-numbered}
use Rattle.lp_spec_realises.specs.Projects.{Project}
use Rattle.lp_spec_realises.specs.ProjectNetlists.{are_apart}
use Rattle.lp_spec_realises.specs.Realises.{cell_of}
use Rattle.lp_spec_realises.specs.Implements.{Lists}
use Rattle.lp_spec_written.specs.Places.{Switching, plan, with_number, operator_names, switches_in}
use Rattle.lp_spec_written.specs.Supplies.{switch_of}
use Rattle.lp_spec_written.specs.Nets.{Linked, linked}
use Rattle.lp_spec_written.specs.Written.{Additions, additions, written_instance, written_operator, named_operators, written_operators, written_switch, written_switches, written_instances}
use Rattle.lp_spec_wired.specs.Contents.{IsWrittenAt}
use Rattle.lp_spec_wired.specs.Names.{switch_at, placement_of}
use Rattle.lp_spec_written_at.specs.Sources.{IsFree, HasListedCells}
use Rattle.lp_spec_written_at.proofs.Lists.{none-first, first-right, none-made}
use Rattle.lp_spec_written_at.proofs.Modules.{from-modules, free-instance, differs-own, is-added, written-name, cells-listed}
use Rattle.lp_spec_written_at.proofs.Cells.{first-cell, found-in}
use Rattle.lp_spec_written_at.proofs.Operators.{not-equal, letter}

-- ---- the first in lists

pub first-kept : {A : Type 0} (t u : A → Bool) (xs : List A) (x : A) → first t xs ≡ Some x → u x ≡ true → first t (filter u xs) ≡ Some x
first-kept t u [] x e h = absurd cc
first-kept t u (z ∷ xs) x e h = by (t z) (u z) refl refl e (λ g. first-kept t u xs x g h)
  where
    by : (b c : Bool) → t z ≡ b → u z ≡ c → cond b (Some z) (first t xs) ≡ Some x → (first t xs ≡ Some x → first t (filter u xs) ≡ Some x) → first t (cond c (z ∷ filter u xs) (filter u xs)) ≡ Some x
    by true true i j g more = ap (λ b. cond b (Some z) (first t (filter u xs))) i ∙ g
    by true false i j g more = let is : z ≡ x = cc in absurd (false≢true (sym j ∙ (ap u is ∙ h)))
    by false true i j g more = ap (λ b. cond b (Some z) (first t (filter u xs))) i ∙ more g
    by false false i j g more = more g

pub first-numbered : {A : Type 0} (t : A → Bool) (k : ℕ) (xs : List A) (x : A) → first t xs ≡ Some x → (y : ℕ × A) × (first (λ (z : ℕ × A). t z.1) (numbered k xs) ≡ Some y) × IsIn y (numbered k xs) × (y.1 ≡ x)
first-numbered t k [] x e = absurd cc
first-numbered t k (z ∷ xs) x e = by (t z) refl e (first-numbered t (k + 1) xs x)
  where
    by : (b : Bool) → t z ≡ b → cond b (Some z) (first t xs) ≡ Some x
        → (first t xs ≡ Some x → (y : ℕ × _) × (first (λ (v : ℕ × _). t v.1) (numbered (k + 1) xs) ≡ Some y) × IsIn y (numbered (k + 1) xs) × (y.1 ≡ x))
        → (y : ℕ × _) × (cond b (Some (k, z)) (first (λ (v : ℕ × _). t v.1) (numbered (k + 1) xs)) ≡ Some y) × IsIn y ((k, z) ∷ numbered (k + 1) xs) × (y.1 ≡ x)
    by true i g more = let is : z ≡ x = cc in ((k, z), refl, inl refl, is)
    by false i g more = let found = more g in (found.0, found.1, inr found.2, found.3)

pub number-from : {A : Type 0} (k : ℕ) (xs : List A) (y : ℕ × A) → IsIn y (numbered k xs) → (k ≤ y.0) × (y.0 < k + length xs)
number-from k [] y h = absurd h
number-from k (z ∷ xs) y (inl is) = let same : y.0 ≡ k = ap (λ q. q.0) is in (omega (arith, same), omega (arith, same))
number-from k (z ∷ xs) y (inr h) = let more = number-from (k + 1) xs y h in (omega (arith, more.0), omega (arith, more.1))

-- ---- names

abbrev pub switch_name : ℕ → Name
switch_name k = with_number (codes "lp_s_") k

numbers-differ : (j k : ℕ) → j < k → k ≤ 1000000000 → bytes_eq (switch_name j) (switch_name k) ≡ false
numbers-differ j k less small = not-equal (switch_name j) (switch_name k) differ
  where
    differ : switch_name j ≡ switch_name k → ⊥
    differ e =
        let same : decimal j ≡ decimal k = ap (λ (z : Name). drop 5 z) e in
        let number = decimal_injective j k (omega (arith, less, small)) (omega (arith, small)) same in
        omega (arith, number, less)

pub operator-letter : (j k : ℕ) (os : List Operator) (n : Name) → IsIn n (operator_names j k os) → (letter n ≡ 105) ⊎ (letter n ≡ 108)
operator-letter j k [] n h = absurd h
operator-letter j k (Clamp t i ∷ os) n (inl is) = inl (ap letter is)
operator-letter j k (Clamp t i ∷ os) n (inr h) = operator-letter (j + 1) (k + 0) os n h
operator-letter j k (Shift t a b ∷ os) n (inl is) = inr (ap letter is)
operator-letter j k (Shift t a b ∷ os) n (inr h) = operator-letter (j + 0) (k + 1) os n h

pub no-operator : (n : Name) (k : ℕ) → (letter n ≡ 105) ⊎ (letter n ≡ 108) → bytes_eq n (switch_name k) ≡ false
no-operator n k h = not-equal n (switch_name k) (differ h)
  where
    differ : (letter n ≡ 105) ⊎ (letter n ≡ 108) → n ≡ switch_name k → ⊥
    differ (inl is) e = let eq : ◌≡◌ {A = ℕ} 105 115 = sym is ∙ ap letter e in absurd (omega (arith, eq))
    differ (inr is) e = let eq : ◌≡◌ {A = ℕ} 108 115 = sym is ∙ ap letter e in absurd (omega (arith, eq))

module _ (p : Project) (a : Additions) (x : Path) where
  abbrev made : ℕ × Switching → InstanceView
  made y = written_switch p a x y

  first-switch : (k : ℕ) (all : List Switching) (y : ℕ × Switching) → k + length all ≤ 1000000000 → IsIn y (numbered k all) → first (λ (q : InstanceView). bytes_eq q.name (switch_name y.0)) (map made (numbered k all)) ≡ Some (made y)
  first-switch k [] y few h = absurd h
  first-switch k (z ∷ all) y few (inl is) =
      ap (λ b. if b then Some (made (k, z)) else first (λ (q : InstanceView). bytes_eq q.name (switch_name y.0)) (map made (numbered (k + 1) all))) (ap (λ (q : ℕ × Switching). bytes_eq (switch_name k) (switch_name q.0)) is ∙ name-self (switch_name k))
      ∙ ap (λ q. Some (made q)) (sym is)
  first-switch k (z ∷ all) y few (inr h) =
      let from = number-from (k + 1) all y h in
      ap (λ b. if b then Some (made (k, z)) else first (λ (q : InstanceView). bytes_eq q.name (switch_name y.0)) (map made (numbered (k + 1) all))) (numbers-differ k y.0 (omega (arith, from.0)) (omega (arith, from.1, few)))
      ∙ first-switch (k + 1) all y (omega (arith, few)) h

  no-operators : (k : ℕ) → first (λ (q : InstanceView). bytes_eq q.name (switch_name k)) (written_operators p a x) ≡ None
  no-operators k =
      none-first (λ (q : InstanceView). bytes_eq q.name (switch_name k)) (written_operators p a x)
      (λ q h.
      let one = of-map (written_operator p a x) q (named_operators (linked p a.chains x)) h in
      let pair = of-pairs one.0 (operator_names 0 0 (map (λ (z : Linked). z.0.asked.operator) (linked p a.chains x))) (linked p a.chains x) one.1 in
      ap (λ (r : InstanceView). bytes_eq r.name (switch_name k)) one.2
      ∙ no-operator one.0.0 k (operator-letter 0 0 (map (λ (z : Linked). z.0.asked.operator) (linked p a.chains x)) one.0.0 pair.0))

-- ---- its cell

module _ (p : Project) (a : Additions) (w : Structure) (f : IsFree p) (is : IsWrittenAt p a w) (listed : HasListedCells p a) (apart : are_apart (map (λ (k : CellView). k.name) p.structure.cells) ≡ true) where
  abbrev s : Structure
  s = p.structure

  module _ (x : Path) (m : ModuleView) (e : module_at s x ≡ Some m) (few : length (switches_in a.plan x) ≤ 1000000000) (y : ℕ × Switching) (h : IsIn y (numbered 0 (switches_in a.plan x))) where
    abbrev n : Name
    n = switch_name y.0

    cell-listed : IsIn y.1.cell s.cells
    cell-listed = (listed.switches y.1 (of-filter (λ (k : Switching). same_path k.path x) y.1 a.plan.switches (of-numbered 0 y (switches_in a.plan x) h)).0).listed

    not-of-source : first (λ (k : InstanceView). bytes_eq k.name n) m.instances ≡ None
    not-of-source =
        let added = is-added p a f listed x (written_switch p a x y) (in-right (written_switch p a x y) (written_operators p a x) (written_switches p a x) (in-map (written_switch p a x) y (numbered 0 (switches_in a.plan x)) h)) in
        none-first (λ (k : InstanceView). bytes_eq k.name n) m.instances (λ k g. differs-own k.name n (free-instance p a f listed m k (from-modules s x m e) g) added.own)

    first-written : first (λ (k : InstanceView). bytes_eq k.name n) (written_instances p a x m) ≡ Some (written_switch p a x y)
    first-written =
        first-right (λ (k : InstanceView). bytes_eq k.name n) (map (written_instance p a x) m.instances) (written_operators p a x ++ written_switches p a x)
        (none-made (λ (k : InstanceView). bytes_eq k.name n) (λ (k : InstanceView). bytes_eq k.name n) (written_instance p a x) (λ z. ap (λ k. bytes_eq k n) (written-name p a f listed x z)) m.instances not-of-source)
        ∙ (first-right (λ (k : InstanceView). bytes_eq k.name n) (written_operators p a x) (written_switches p a x) (no-operators p a x y.0)
        ∙ first-switch p a x 0 (switches_in a.plan x) y (omega (arith, few)) h)

    pub switch-cell : cell_of w (record { path = x; instance = n }) ≡ Some y.1.cell
    switch-cell =
        let at = is.modules x m e in
        let here = found-in w x n (written_switch p a x y) (written_instances p a x m) at.here.instances at.content.instances first-written in
        let path : module_at w (n ∷ x) ≡ None =
        is.none (n ∷ x)
        (ap (λ o. option_and_then (λ (k : ModuleView). option_and_then (λ (z : InstanceView). module_named s z.target) (instance_named k n)) o) e
        ∙ ap (λ o. option_and_then (λ (z : InstanceView). module_named s z.target) o) not-of-source) in
        let target : here.here.target ≡ y.1.cell.name = here.instance.cell path in
        let no_module : module_named w here.here.target ≡ None = here.instance.inner ∙ path in
        ap (λ o. option_and_then (λ (k : ModuleView). option_and_then (λ (z : InstanceView). cell_named w z.target) (instance_named k n)) o) at.is
        ∙ (ap (λ o. option_and_then (λ (z : InstanceView). cell_named w z.target) o) here.is
        ∙ (ap (λ o. if is_some o then None else first (λ (k : CellView). bytes_eq k.name here.here.target) w.cells) no_module
        ∙ (ap (λ cells. first (λ (k : CellView). bytes_eq k.name here.here.target) cells) is.cells
        ∙ (ap (λ n. first (λ (k : CellView). bytes_eq k.name n) s.cells) target ∙ first-cell s.cells y.1.cell apart cell-listed))))

-- ---- its place

module _ (p : Project) (l : Lists) (w : Structure) (f : IsFree p) (apart : are_apart (map (λ (k : CellView). k.name) p.structure.cells) ≡ true) (is : IsWrittenAt p (additions p l) w) where
  pub switch-placed : (o : ℕ) (k : Switching) → switch_of (plan p l) o ≡ Some k → (m : ModuleView) → module_at p.structure k.path ≡ Some m → length (switches_in (plan p l) k.path) ≤ 1000000000
      → (((placement_of p l).switch o).path ≡ k.path) × (cell_of w ((placement_of p l).switch o) ≡ Some k.cell)
  switch-placed o k at m e few =
      let of_origin = λ (z : Switching). z.asked.origin == o in
      let kept : first of_origin (switches_in (plan p l) k.path) ≡ Some k = first-kept of_origin (λ (z : Switching). same_path z.path k.path) (plan p l).switches k at (path-self k.path) in
      let found = first-numbered of_origin 0 (switches_in (plan p l) k.path) k kept in
      let where_it_is : (placement_of p l).switch o ≡ record { path = k.path; instance = switch_name found.0.0 } =
      ap (switch_at (additions p l) o) at
      ∙ ap (λ r. record { path = k.path; instance = unwrap_or (option_and_then (λ (y : ℕ × Switching). Some (switch_name y.0)) r) [] }) found.1 in (
        ap (λ (y : Placed). y.path) where_it_is,
        ap (cell_of w) where_it_is
            ∙ (switch-cell p (additions p l) w f is (cells-listed p l) apart k.path m e few found.0 found.2
            ∙ ap (λ (r : Switching). Some r.cell) found.3),
      )
