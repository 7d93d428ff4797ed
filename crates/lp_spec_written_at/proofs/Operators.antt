-- In a netlist that has the written content at each path, each operator has the instance of its name, with the cell that was chosen for it.
use Rattle.std.proofs.Common.{◌≡◌, ◌⊎◌, ◌≤◌, ◌<◌, ℕ, suc, ◌+◌, Bool, true, false, List, [], ◌∷◌, ◌++◌, length, map, Some, None, inl, inr, refl, sym, ap, ◌∙◌, arith}
use Rattle.std.specs.Prelude.{drop, codes, decimal, bytes_eq, is_some, option_and_then, if◌then◌else◌}
use Rattle.std.proofs.lemmas.Fmt.{decimal_injective}
use Rattle.lp_model.specs.NetlistView.{InstanceView, ModuleView}
use Rattle.lp_model.specs.LibraryView.{CellView}
use Rattle.lp_spec_design.specs.Keys.{Name, Path}
use Rattle.lp_spec_design.specs.Netlists.{Structure, first, module_named, cell_named, instance_named, module_at}
use Rattle.lp_spec_design.specs.Graph.{pairs}
use Rattle.lp_spec_design.specs.Chains.{Operator, Clamp, Shift}
use Rattle.lp_spec_design.specs.Winners.{IsIn}
use Rattle.lp_spec_design.specs.Reads.{name-self, name-true}
use Rattle.lp_spec_design.proofs.Members.{in-left, in-map, of-flat, of-filter, of-pairs}
use Rattle.lp_spec_realises.specs.Projects.{Project}
use Rattle.lp_spec_realises.specs.ProjectNetlists.{are_apart}
use Rattle.lp_spec_realises.specs.Realises.{cell_of}
use Rattle.lp_spec_realises.specs.Implements.{Lists}
use Rattle.lp_spec_written.specs.Places.{with_number, operator_names}
use Rattle.lp_spec_written.specs.Nets.{stretches_in, Linked, linked}
use Rattle.lp_spec_written.specs.Written.{Additions, additions, written_instance, written_operator, named_operators, written_operators, written_switches, written_instances}
use Rattle.lp_spec_wired.specs.Contents.{IsWrittenAt}
use Rattle.lp_spec_written_at.specs.Sources.{IsFree, HasListedCells}
use Rattle.lp_spec_written_at.proofs.Lists.{none-first, first-left, first-right, none-made}
use Rattle.lp_spec_written_at.proofs.Modules.{from-modules, free-instance, differs-own, is-added, written-name, cells-listed}
use Rattle.lp_spec_written_at.proofs.Cells.{first-cell, found-in}

-- ---- names of operators by their numbers

pub Numbered : ℕ → ℕ → Name → Name → Type 0
Numbered from top start n = (c : ℕ) × (from ≤ c) × (c < top) × (n ≡ with_number start c)

pub IsNamedFrom : ℕ → ℕ → ℕ → Name → Type 0
IsNamedFrom j k top n = Numbered j top (codes "lp_i_") n ⊎ Numbered k top (codes "lp_l_") n

later : (from next top : ℕ) (start n : Name) → from ≤ next → Numbered next top start n → Numbered from top start n
unfolding Numbered
later from next top start n h c = (c.0, omega (arith, h, c.1), c.2, c.3)

either-later : (j k i l top : ℕ) (n : Name) → j ≤ i → k ≤ l → IsNamedFrom i l top n → IsNamedFrom j k top n
unfolding IsNamedFrom
either-later j k i l top n h g c = elim c [ inl one ↦ inl (later j i top (codes "lp_i_") n h one) | inr two ↦ inr (later k l top (codes "lp_l_") n g two) ]

pub named-from : (j k top : ℕ) (os : List Operator) (n : Name) → j + length os ≤ top → k + length os ≤ top → IsIn n (operator_names j k os) → IsNamedFrom j k top n
unfolding Numbered IsNamedFrom
named-from j k top [] n h g at = absurd at
named-from j k top (Clamp t i ∷ os) n h g at = elim at [
  | inl is ↦ inl (j, omega arith, omega (arith, h), is)
  | inr r ↦ either-later j k (j + 1) (k + 0) top n (omega arith) (omega arith) (named-from (j + 1) (k + 0) top os n (omega (arith, h)) (omega (arith, g)) r)
]
named-from j k top (Shift t x y ∷ os) n h g at = elim at [
  | inl is ↦ inr (k, omega arith, omega (arith, g), is)
  | inr r ↦ either-later j k (j + 0) (k + 1) top n (omega arith) (omega arith) (named-from (j + 0) (k + 1) top os n (omega (arith, h)) (omega (arith, g)) r)
]

pub not-equal : (m n : Name) → (m ≡ n → ⊥) → bytes_eq m n ≡ false
not-equal m n differ = by (bytes_eq m n) refl
  where
    by : (b : Bool) → bytes_eq m n ≡ b → b ≡ false
    by false e = refl
    by true e = absurd (differ (name-true m n e))

-- the letter of the kind
abbrev pub letter : Name → ℕ
letter (a ∷ b ∷ c ∷ d ∷ rest) = d
letter _ = 0

pub clamp-apart : (j k top : ℕ) (n : Name) → j < top → top ≤ 1000000000 → IsNamedFrom (j + 1) k top n → with_number (codes "lp_i_") j ≡ n → ⊥
unfolding Numbered IsNamedFrom
clamp-apart j k top n h small (inl c) e =
    let same : decimal j ≡ decimal c.0 = ap (λ (z : Name). drop 5 z) (e ∙ c.3) in
    let number = decimal_injective j c.0 (omega (arith, h, small)) (omega (arith, c.2, small)) same in
    omega (arith, number, c.1)
clamp-apart j k top n h small (inr c) e = let eq : ◌≡◌ {A = ℕ} 105 108 = ap letter (e ∙ c.3) in absurd (omega (arith, eq))

pub shift-apart : (j k top : ℕ) (n : Name) → k < top → top ≤ 1000000000 → IsNamedFrom j (k + 1) top n → with_number (codes "lp_l_") k ≡ n → ⊥
unfolding Numbered IsNamedFrom
shift-apart j k top n h small (inr c) e =
    let same : decimal k ≡ decimal c.0 = ap (λ (z : Name). drop 5 z) (e ∙ c.3) in
    let number = decimal_injective k c.0 (omega (arith, h, small)) (omega (arith, c.2, small)) same in
    omega (arith, number, c.1)
shift-apart j k top n h small (inl c) e = let eq : ◌≡◌ {A = ℕ} 108 105 = ap letter (e ∙ c.3) in absurd (omega (arith, eq))

abbrev pub operator_of : Linked → Operator
operator_of z = z.0.asked.operator

pub operators-length : (zs : List Linked) → length (map operator_of zs) ≡ length zs
operators-length [] = refl
operators-length (q ∷ zs) = ap suc (operators-length zs)

-- ---- the instance of a name

module _ (p : Project) (a : Additions) (x : Path) where
  abbrev made : Name × Linked → InstanceView
  made y = written_operator p a x y

  head-first : (n : Name) (z : Linked) (rest : List (Name × Linked)) (y : Name × Linked) → y ≡ (n, z) → first (λ (k : InstanceView). bytes_eq k.name y.0) (map made ((n, z) ∷ rest)) ≡ Some (made y)
  head-first n z rest y is =
      ap (λ b. if b then Some (made (n, z)) else first (λ (k : InstanceView). bytes_eq k.name y.0) (map made rest)) (ap (λ (q : Name × Linked). bytes_eq n q.0) is ∙ name-self n)
      ∙ ap (λ q. Some (made q)) (sym is)

  tail-first : (n : Name) (z : Linked) (rest : List (Name × Linked)) (y : Name × Linked) → bytes_eq n y.0 ≡ false → first (λ (k : InstanceView). bytes_eq k.name y.0) (map made rest) ≡ Some (made y) → first (λ (k : InstanceView). bytes_eq k.name y.0) (map made ((n, z) ∷ rest)) ≡ Some (made y)
  tail-first n z rest y differ e = ap (λ b. if b then Some (made (n, z)) else first (λ (k : InstanceView). bytes_eq k.name y.0) (map made rest)) differ ∙ e

  first-named : (j k : ℕ) (all : List Linked) (y : Name × Linked) → j + length all ≤ 1000000000 → k + length all ≤ 1000000000
      → IsIn y (pairs (operator_names j k (map operator_of all)) all)
      → first (λ (q : InstanceView). bytes_eq q.name y.0) (map made (pairs (operator_names j k (map operator_of all)) all)) ≡ Some (made y)
  first-named j k [] y h g at = absurd at
  first-named j k (z ∷ all) y h g at = by z.0.asked.operator at (λ i l u v r. first-named i l all y u v r)
    where
      by : (o : Operator)
          → IsIn y (pairs (operator_names j k (o ∷ map operator_of all)) (z ∷ all))
          → ((i l : ℕ) → i + length all ≤ 1000000000 → l + length all ≤ 1000000000 → IsIn y (pairs (operator_names i l (map operator_of all)) all) → first (λ (q : InstanceView). bytes_eq q.name y.0) (map made (pairs (operator_names i l (map operator_of all)) all)) ≡ Some (made y))
          → first (λ (q : InstanceView). bytes_eq q.name y.0) (map made (pairs (operator_names j k (o ∷ map operator_of all)) (z ∷ all))) ≡ Some (made y)
      by (Clamp t i) (inl is) more = head-first (with_number (codes "lp_i_") j) z _ y is
      by (Clamp t i) (inr r) more =
          let size = operators-length all in
          let name = (of-pairs y (operator_names (j + 1) (k + 0) (map operator_of all)) all r).0 in
          let from = named-from (j + 1) (k + 0) 1000000000 (map operator_of all) y.0 (omega (arith, h, size)) (omega (arith, g, size)) name in
          let differ = not-equal (with_number (codes "lp_i_") j) y.0 (clamp-apart j (k + 0) 1000000000 y.0 (omega (arith, h)) (omega arith) from) in
          tail-first (with_number (codes "lp_i_") j) z _ y differ (more (j + 1) (k + 0) (omega (arith, h)) (omega (arith, g)) r)
      by (Shift t u v) (inl is) more = head-first (with_number (codes "lp_l_") k) z _ y is
      by (Shift t u v) (inr r) more =
          let size = operators-length all in
          let name = (of-pairs y (operator_names (j + 0) (k + 1) (map operator_of all)) all r).0 in
          let from = named-from (j + 0) (k + 1) 1000000000 (map operator_of all) y.0 (omega (arith, h, size)) (omega (arith, g, size)) name in
          let differ = not-equal (with_number (codes "lp_l_") k) y.0 (shift-apart (j + 0) k 1000000000 y.0 (omega (arith, g)) (omega arith) from) in
          tail-first (with_number (codes "lp_l_") k) z _ y differ (more (j + 0) (k + 1) (omega (arith, h)) (omega (arith, g)) r)

-- ---- its cell

module _ (p : Project) (a : Additions) (w : Structure) (f : IsFree p) (is : IsWrittenAt p a w) (listed : HasListedCells p a) (apart : are_apart (map (λ (k : CellView). k.name) p.structure.cells) ≡ true) where
  abbrev s : Structure
  s = p.structure

  module _ (x : Path) (m : ModuleView) (e : module_at s x ≡ Some m) (few : length (linked p a.chains x) ≤ 1000000000) (y : Name × Linked) (h : IsIn y (named_operators (linked p a.chains x))) where
    cell-listed : IsIn y.1.0.cell s.cells
    cell-listed =
        let pair = of-pairs y (operator_names 0 0 (map operator_of (linked p a.chains x))) (linked p a.chains x) h in
        let stretch = of-flat _ y.1 (stretches_in a.chains x) pair.1 in
        let chain = of-filter _ stretch.0 a.chains stretch.1 in
        let standing = of-pairs y.1 stretch.0.operators _ stretch.2 in
        (listed.chains stretch.0 chain.0 y.1.0 standing.0).listed

    not-of-source : first (λ (k : InstanceView). bytes_eq k.name y.0) m.instances ≡ None
    not-of-source =
        let added = is-added p a f listed x (written_operator p a x y) (in-left (written_operator p a x y) (written_operators p a x) (written_switches p a x) (in-map (written_operator p a x) y (named_operators (linked p a.chains x)) h)) in
        none-first (λ (k : InstanceView). bytes_eq k.name y.0) m.instances (λ k g. differs-own k.name y.0 (free-instance p a f listed m k (from-modules s x m e) g) added.own)

    first-written : first (λ (k : InstanceView). bytes_eq k.name y.0) (written_instances p a x m) ≡ Some (written_operator p a x y)
    first-written =
        first-right (λ (k : InstanceView). bytes_eq k.name y.0) (map (written_instance p a x) m.instances) (written_operators p a x ++ written_switches p a x)
        (none-made (λ (k : InstanceView). bytes_eq k.name y.0) (λ (k : InstanceView). bytes_eq k.name y.0) (written_instance p a x) (λ z. ap (λ k. bytes_eq k y.0) (written-name p a f listed x z)) m.instances not-of-source)
        ∙ first-left (λ (k : InstanceView). bytes_eq k.name y.0) (written_operators p a x) (written_switches p a x) (written_operator p a x y)
        (first-named p a x 0 0 (linked p a.chains x) y (omega (arith, few)) (omega (arith, few)) h)

    pub operator-cell : cell_of w (record { path = x; instance = y.0 }) ≡ Some y.1.0.cell
    operator-cell =
        let at = is.modules x m e in
        let here = found-in w x y.0 (written_operator p a x y) (written_instances p a x m) at.here.instances at.content.instances first-written in
        let path : module_at w (y.0 ∷ x) ≡ None =
        is.none (y.0 ∷ x)
        (ap (λ o. option_and_then (λ (k : ModuleView). option_and_then (λ (z : InstanceView). module_named s z.target) (instance_named k y.0)) o) e
        ∙ ap (λ o. option_and_then (λ (z : InstanceView). module_named s z.target) o) not-of-source) in
        let target : here.here.target ≡ y.1.0.cell.name = here.instance.cell path in
        let no_module : module_named w here.here.target ≡ None = here.instance.inner ∙ path in
        ap (λ o. option_and_then (λ (k : ModuleView). option_and_then (λ (z : InstanceView). cell_named w z.target) (instance_named k y.0)) o) at.is
        ∙ (ap (λ o. option_and_then (λ (z : InstanceView). cell_named w z.target) o) here.is
        ∙ (ap (λ o. if is_some o then None else first (λ (k : CellView). bytes_eq k.name here.here.target) w.cells) no_module
        ∙ (ap (λ cells. first (λ (k : CellView). bytes_eq k.name here.here.target) cells) is.cells
        ∙ (ap (λ n. first (λ (k : CellView). bytes_eq k.name n) s.cells) target ∙ first-cell s.cells y.1.0.cell apart cell-listed))))

pub operator-cells :
    (p : Project) (l : Lists) (w : Structure)
    → IsFree p
    → are_apart (map (λ (k : CellView). k.name) p.structure.cells) ≡ true
    → IsWrittenAt p (additions p l) w
    → (x : Path) (m : ModuleView)
    → module_at p.structure x ≡ Some m
    → length (linked p (additions p l).chains x) ≤ 1000000000
    → (y : Name × Linked)
    → IsIn y (named_operators (linked p (additions p l).chains x))
    → cell_of w (record { path = x; instance = y.0 }) ≡ Some y.1.0.cell
operator-cells p l w f apart is x m e few y h = operator-cell p (additions p l) w f is (cells-listed p l) apart x m e few y h
