-- No two instances in a written module have one name.
use Rattle.std.proofs.Common.{◌≡◌, ◌≤◌, ℕ, ◌+◌, Bool, true, false, not, List, [], ◌∷◌, ◌++◌, length, map, Some, refl, sym, ap, ◌∙◌, subst, arith}
use Rattle.std.specs.Prelude.{bytes_eq, codes}
use Rattle.std.specs.List.{list_any}
use Rattle.std.proofs.lemmas.Bool.{false≢true}
use Rattle.lp_model.specs.NetlistView.{InstanceView, ModuleView}
use Rattle.lp_spec_design.specs.Keys.{Name, Path}
use Rattle.lp_spec_design.specs.Netlists.{module_at}
use Rattle.lp_spec_design.specs.Chains.{Operator, Clamp, Shift}
use Rattle.lp_spec_design.specs.Graph.{numbered, pairs}
use Rattle.lp_spec_design.specs.Winners.{IsIn}
use Rattle.lp_spec_design.specs.Reads.{both, name-true}
use Rattle.lp_spec_design.proofs.Members.{IsApart, of-map, of-pairs}
use Rattle.lp_spec_realises.specs.Projects.{Project}
use Rattle.lp_spec_realises.specs.ProjectNetlists.{are_apart}
use Rattle.lp_spec_realises.specs.Implements.{Lists}
use Rattle.lp_spec_faults.specs.Modules.{is_own}
use Rattle.lp_spec_written.specs.Places.{Switching, plan, switches_in, operator_names, with_number}
use Rattle.lp_spec_written.specs.Nets.{Linked, linked}
use Rattle.lp_spec_written.specs.Written.{Additions, additions, named_operators, written_instance, written_operator, written_operators, written_switch, written_switches, written_instances}
use Rattle.lp_spec_written_at.specs.Sources.{IsFree}
use Rattle.lp_spec_written_at.proofs.Lists.{none-any}
use Rattle.lp_spec_written_at.proofs.Instances.{apart-append}
use Rattle.lp_spec_written_at.proofs.Modules.{from-modules, free-instance, is-added, written-name, cells-listed}
use Rattle.lp_spec_written_at.proofs.Switches.{switch_name, number-from, operator-letter}
use Rattle.lp_spec_written_at.proofs.SourceCells.{instances-named}
use Rattle.lp_spec_written_at.proofs.Distinct.{named-once, one-of}
use Rattle.lp_spec_written_at.proofs.Operators.{named-from, clamp-apart, shift-apart, operators-length, operator_of}
use Rattle.lp_spec_written_at.proofs.OperatorsApart.{apart-map}
use Rattle.lp_spec_written_at.proofs.CellsApart.{name-number, no-letter}

pub apart-names : (ns : List Name) → IsApart ns → are_apart ns ≡ true
apart-names [] apart = refl
apart-names (n ∷ ns) apart = both (not (list_any (bytes_eq n) ns)) (are_apart ns) (ap not (none-any (bytes_eq n) ns (λ m h. by m h (bytes_eq n m) refl))) (apart-names ns apart.1)
  where
    by : (m : Name) → IsIn m ns → (t : Bool) → bytes_eq n m ≡ t → t ≡ false
    by m h true e = absurd (apart.0 (subst (λ z. IsIn z ns) (sym (name-true n m e)) h))
    by m h false e = refl

map-append : {A B : Type 0} (f : A → B) (xs ys : List A) → map f (xs ++ ys) ≡ map f xs ++ map f ys
map-append f [] ys = refl
map-append f (x ∷ xs) ys = ap (λ r. f x ∷ r) (map-append f xs ys)

pub map-twice : {A B C : Type 0} (f : B → C) (g : A → B) (h : A → C) → ((x : A) → f (g x) ≡ h x) → (xs : List A) → map f (map g xs) ≡ map h xs
map-twice f g h same [] = refl
map-twice f g h same (x ∷ xs) = ap (λ r. r ∷ map f (map g xs)) (same x) ∙ ap (λ r. h x ∷ r) (map-twice f g h same xs)

pairs-apart : {A B : Type 0} (xs : List A) (ys : List B) → IsApart xs → IsApart (map (λ (y : A × B). y.0) (pairs xs ys))
pairs-apart [] ys apart = tt
pairs-apart (x ∷ xs) [] apart = tt
pairs-apart (x ∷ xs) (y ∷ ys) apart = (λ h. let found = of-map (λ (v : _ × _). v.0) x (pairs xs ys) h in apart.0 (subst (λ z. IsIn z xs) (sym found.2) (of-pairs found.0 xs ys found.1).0), pairs-apart xs ys apart.1)

names-apart : (j k : ℕ) (os : List Operator) → j + length os ≤ 1000000000 → k + length os ≤ 1000000000 → IsApart (operator_names j k os)
names-apart j k [] h g = tt
names-apart j k (Clamp t i ∷ os) h g = (
  λ r.
      let n = with_number (codes "lp_i_") j in
      clamp-apart j (k + 0) 1000000000 n (omega (arith, h)) (omega arith) (named-from (j + 1) (k + 0) 1000000000 os n (omega (arith, h)) (omega (arith, g)) r) refl,
  names-apart (j + 1) (k + 0) os (omega (arith, h)) (omega (arith, g)),
)
names-apart j k (Shift t a b ∷ os) h g = (
  λ r.
      let n = with_number (codes "lp_l_") k in
      shift-apart (j + 0) k 1000000000 n (omega (arith, g)) (omega arith) (named-from (j + 0) (k + 1) 1000000000 os n (omega (arith, h)) (omega (arith, g)) r) refl,
  names-apart (j + 0) (k + 1) os (omega (arith, h)) (omega (arith, g)),
)

switch-names-apart : (k : ℕ) (ks : List Switching) → k + length ks ≤ 1000000000 → IsApart (map (λ (y : ℕ × Switching). switch_name y.0) (numbered k ks))
switch-names-apart k [] few = tt
switch-names-apart k (z ∷ ks) few = (
  λ h.
      let found = of-map (λ (y : ℕ × Switching). switch_name y.0) (switch_name k) (numbered (k + 1) ks) h in
      let from = number-from (k + 1) ks found.0 found.1 in
      let same = name-number k found.0.0 (omega (arith, few)) (omega (arith, from.1, few)) found.2 in
      omega (arith, from.0, same),
  switch-names-apart (k + 1) ks (omega (arith, few)),
)

abbrev name_of : InstanceView → Name
name_of y = y.name

module _ (p : Project) (l : Lists) (f : IsFree p) (x : Path) (m : ModuleView) (e : module_at p.structure x ≡ Some m)
    (few : length (linked p (additions p l).chains x) ≤ 1000000000) (few_switches : length (switches_in (plan p l) x) ≤ 1000000000) where
  abbrev a : Additions
  a = additions p l

  abbrev all : List Linked
  all = linked p a.chains x

  abbrev os : List Operator
  os = map operator_of all

  source : IsApart (map name_of (map (written_instance p a x) m.instances))
  source =
      subst (λ ns. IsApart ns) (sym (map-twice name_of (written_instance p a x) name_of (written-name p a f (cells-listed p l) x) m.instances))
      (apart-map name_of m.instances (named-once m.instances (instances-named p f x m e)) (one-of p f x m e))

  operators : IsApart (map name_of (written_operators p a x))
  operators =
      let size = operators-length all in
      subst (λ ns. IsApart ns) (sym (map-twice name_of (written_operator p a x) (λ (y : Name × Linked). y.0) (λ y. refl) (named_operators all)))
      (pairs-apart (operator_names 0 0 os) all (names-apart 0 0 os (omega (arith, size, few)) (omega (arith, size, few))))

  switches : IsApart (map name_of (written_switches p a x))
  switches =
      subst (λ ns. IsApart ns) (sym (map-twice name_of (written_switch p a x) (λ (y : ℕ × Switching). switch_name y.0) (λ y. refl) (numbered 0 (switches_in (plan p l) x))))
      (switch-names-apart 0 (switches_in (plan p l) x) (omega (arith, few_switches)))

  kinds : (n : Name) → IsIn n (map name_of (written_operators p a x)) → IsIn n (map name_of (written_switches p a x)) → ⊥
  kinds n h g =
      let one = of-map name_of n (written_operators p a x) h in
      let two = of-map name_of n (written_switches p a x) g in
      let operator = of-map (written_operator p a x) one.0 (named_operators all) one.1 in
      let switch = of-map (written_switch p a x) two.0 (numbered 0 (switches_in (plan p l) x)) two.1 in
      let pair = of-pairs operator.0 (operator_names 0 0 os) all operator.1 in
      no-letter operator.0.0 switch.0.0 (operator-letter 0 0 os operator.0.0 pair.0) (sym (one.2 ∙ ap name_of operator.2) ∙ (two.2 ∙ ap name_of switch.2))

  pub added : IsApart (map name_of (written_operators p a x ++ written_switches p a x))
  added = subst (λ ns. IsApart ns) (sym (map-append name_of (written_operators p a x) (written_switches p a x))) (apart-append (map name_of (written_operators p a x)) (map name_of (written_switches p a x)) operators switches kinds)

  sides : (n : Name) → IsIn n (map name_of (map (written_instance p a x) m.instances)) → IsIn n (map name_of (written_operators p a x ++ written_switches p a x)) → ⊥
  sides n h g =
      let one = of-map name_of n (map (written_instance p a x) m.instances) h in
      let two = of-map name_of n (written_operators p a x ++ written_switches p a x) g in
      let from = of-map (written_instance p a x) one.0 m.instances one.1 in
      let name : n ≡ from.0.name = one.2 ∙ (ap name_of from.2 ∙ written-name p a f (cells-listed p l) x from.0) in
      let free = free-instance p a f (cells-listed p l) m from.0 (from-modules p.structure x m e) from.1 in
      let own = (is-added p a f (cells-listed p l) x two.0 two.1).own in
      false≢true (sym (ap is_own name ∙ free) ∙ (ap is_own two.2 ∙ own))

  pub instance-names : are_apart (map (λ (y : InstanceView). y.name) (written_instances p (additions p l) x m)) ≡ true
  instance-names =
      apart-names (map name_of (written_instances p a x m))
      (subst (λ ns. IsApart ns) (sym (map-append name_of (map (written_instance p a x) m.instances) (written_operators p a x ++ written_switches p a x)))
      (apart-append (map name_of (map (written_instance p a x) m.instances)) (map name_of (written_operators p a x ++ written_switches p a x)) source added sides))
