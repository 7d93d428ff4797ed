-- No two operators stand at one cell instance.
use Rattle.std.proofs.Common.{◌≡◌, ◌≤◌, ℕ, suc, ◌+◌, Bool, true, false, cond, List, [], ◌∷◌, length, map, inl, inr, refl, sym, ap, ◌∙◌, subst, arith}
use Rattle.std.specs.Prelude.{codes, filter}
use Rattle.lp_spec_design.specs.Keys.{Name, Path, same_way}
use Rattle.lp_spec_design.specs.Graph.{pairs, numbered}
use Rattle.lp_spec_design.specs.Domains.{BoundaryBit, boundary, way_of}
use Rattle.lp_spec_design.specs.Chains.{Operator, Clamp, Shift}
use Rattle.lp_spec_design.specs.Instances.{Placed}
use Rattle.lp_spec_design.specs.Winners.{IsIn}
use Rattle.lp_spec_design.proofs.Members.{IsApart, of-map, of-pairs, of-filter}
use Rattle.lp_spec_realises.specs.Projects.{Project}
use Rattle.lp_spec_realises.specs.Operators.{OperatorAt, operators_of_bit, all_operators, chain_of, placed_operator}
use Rattle.lp_spec_realises.specs.Realises.{are_distinct}
use Rattle.lp_spec_realises.specs.Implements.{Lists}
use Rattle.lp_spec_written.specs.Places.{instances, Standing, plan, operator_names, with_number}
use Rattle.lp_spec_written.specs.Nets.{Linked, linked}
use Rattle.lp_spec_written.specs.Written.{additions, named_operators}
use Rattle.lp_spec_hub.specs.Spots.{on_way}
use Rattle.lp_spec_hub.specs.Entries.{HasWaysApart, HasItsCells}
use Rattle.lp_spec_wired.specs.Names.{operator_at, placement_of}
use Rattle.lp_spec_written_at.specs.Sources.{IsFree}
use Rattle.lp_spec_written_at.proofs.Lists.{in-slice}
use Rattle.lp_spec_written_at.proofs.Modules.{in-instances, cells-listed}
use Rattle.lp_spec_written_at.proofs.Instances.{apart-flat, instances-apart, is-planned}
use Rattle.lp_spec_written_at.proofs.Operators.{named-from, clamp-apart, shift-apart, operators-length, operator_of}
use Rattle.lp_spec_written_at.proofs.Placed.{is-named}
use Rattle.lp_spec_written_at.proofs.Stands.{kept-some, way-self, at-number}
use Rattle.lp_spec_written_at.proofs.Switches.{number-from}
use Rattle.lp_spec_written_at.proofs.Distinct.{apart-distinct}

-- ---- lists

pub apart-map : {A B : Type 0} (f : A → B) (xs : List A) → IsApart xs → ((x y : A) → IsIn x xs → IsIn y xs → f x ≡ f y → x ≡ y) → IsApart (map f xs)
apart-map f [] apart tells = tt
apart-map f (x ∷ xs) apart tells = (
  λ h. let found = of-map f (f x) xs h in apart.0 (subst (λ z. IsIn z xs) (sym (tells x found.0 (inl refl) (inr found.1) found.2)) found.1),
  apart-map f xs apart.1 (λ y z h g. tells y z (inr h) (inr g)),
)

few-rest : {A : Type 0} (t : A → Bool) (x : A) (xs : List A) → length (filter t (x ∷ xs)) ≤ 1 → length (filter t xs) ≤ 1
few-rest t x xs h = by (t x) h
  where
    by : (b : Bool) → length (cond b (x ∷ filter t xs) (filter t xs)) ≤ 1 → length (filter t xs) ≤ 1
    by true g = omega (arith, g)
    by false g = g

once-apart : {A : Type 0} (t : A → A → Bool) (xs : List A) → ((x : A) → t x x ≡ true) → ((x : A) → length (filter (t x) xs) ≤ 1) → IsApart xs
once-apart t [] self once = tt
once-apart t (x ∷ xs) self once = (
  λ h.
      let some = kept-some (t x) x xs h (self x) in
      let few : suc (length (filter (t x) xs)) ≤ 1 = subst (λ b. length (cond b (x ∷ filter (t x) xs) (filter (t x) xs)) ≤ 1) (self x) (once x) in
      omega (arith, some, few),
  once-apart t xs self (λ y. few-rest (t y) x xs (once y)),
)

-- ---- names tell operators

named-tells : (j k : ℕ) (all : List Linked) (y z : Name × Linked) → j + length all ≤ 1000000000 → k + length all ≤ 1000000000
    → IsIn y (pairs (operator_names j k (map operator_of all)) all)
    → IsIn z (pairs (operator_names j k (map operator_of all)) all)
    → y.0 ≡ z.0
    → y ≡ z
named-tells j k [] y z h g at to same = absurd at
named-tells j k (q ∷ all) y z h g at to same = by q.0.asked.operator at to (λ i l u v r s. named-tells i l all y z u v r s same)
  where
    clamp : (u : Name × Linked) (n : Name) → IsIn u (pairs (operator_names (j + 1) (k + 0) (map operator_of all)) all) → n ≡ with_number (codes "lp_i_") j → n ≡ u.0 → ⊥
    clamp u n r is e =
        let size = operators-length all in
        let name = (of-pairs u (operator_names (j + 1) (k + 0) (map operator_of all)) all r).0 in
        clamp-apart j (k + 0) 1000000000 u.0 (omega (arith, h)) (omega arith) (named-from (j + 1) (k + 0) 1000000000 (map operator_of all) u.0 (omega (arith, h, size)) (omega (arith, g, size)) name) (sym is ∙ e)

    shift : (u : Name × Linked) (n : Name) → IsIn u (pairs (operator_names (j + 0) (k + 1) (map operator_of all)) all) → n ≡ with_number (codes "lp_l_") k → n ≡ u.0 → ⊥
    shift u n r is e =
        let size = operators-length all in
        let name = (of-pairs u (operator_names (j + 0) (k + 1) (map operator_of all)) all r).0 in
        shift-apart (j + 0) k 1000000000 u.0 (omega (arith, g)) (omega arith) (named-from (j + 0) (k + 1) 1000000000 (map operator_of all) u.0 (omega (arith, h, size)) (omega (arith, g, size)) name) (sym is ∙ e)

    by : (o : Operator)
        → IsIn y (pairs (operator_names j k (o ∷ map operator_of all)) (q ∷ all))
        → IsIn z (pairs (operator_names j k (o ∷ map operator_of all)) (q ∷ all))
        → ((i l : ℕ) → i + length all ≤ 1000000000 → l + length all ≤ 1000000000 → IsIn y (pairs (operator_names i l (map operator_of all)) all) → IsIn z (pairs (operator_names i l (map operator_of all)) all) → y ≡ z)
        → y ≡ z
    by (Clamp t i) (inl a) (inl b) more = a ∙ sym b
    by (Clamp t i) (inl a) (inr r) more = absurd (clamp z y.0 r (ap (λ (v : Name × Linked). v.0) a) same)
    by (Clamp t i) (inr r) (inl b) more = absurd (clamp y z.0 r (ap (λ (v : Name × Linked). v.0) b) (sym same))
    by (Clamp t i) (inr r) (inr s) more = more (j + 1) (k + 0) (omega (arith, h)) (omega (arith, g)) r s
    by (Shift t u v) (inl a) (inl b) more = a ∙ sym b
    by (Shift t u v) (inl a) (inr r) more = absurd (shift z y.0 r (ap (λ (v : Name × Linked). v.0) a) same)
    by (Shift t u v) (inr r) (inl b) more = absurd (shift y z.0 r (ap (λ (v : Name × Linked). v.0) b) (sym same))
    by (Shift t u v) (inr r) (inr s) more = more (j + 0) (k + 1) (omega (arith, h)) (omega (arith, g)) r s

-- ---- all operators

abbrev numbered_at : BoundaryBit → ℕ × Operator → OperatorAt
numbered_at b x = record { bit = b; number = x.0; operator = x.1 }

chain-apart : (b : BoundaryBit) (k : ℕ) (os : List Operator) → IsApart (map (numbered_at b) (numbered k os))
chain-apart b k [] = tt
chain-apart b k (o ∷ os) = (
  λ h.
      let found = of-map (numbered_at b) (numbered_at b (k, o)) (numbered (k + 1) os) h in
      let from = number-from (k + 1) os found.0 found.1 in
      let same : k ≡ found.0.0 = ap (λ (r : OperatorAt). r.number) found.2 in
      omega (arith, from.0, same),
  chain-apart b (k + 1) os,
)

bit-in : (p : Project) (b : BoundaryBit) (o : OperatorAt) → IsIn o (operators_of_bit p b) → o.bit ≡ b
bit-in p b o h = let made = of-map (numbered_at b) o (numbered 0 (chain_of p b)) h in ap (λ (r : OperatorAt). r.bit) made.2

operators-apart : (p : Project) → HasWaysApart p → IsApart (all_operators p)
operators-apart p ways =
    apart-flat (operators_of_bit p) (boundary p.structure p.intent)
    (once-apart (λ (b c : BoundaryBit). same_way (way_of c) (way_of b)) (boundary p.structure p.intent) way-self (λ b. ways (way_of b)))
    (λ b h. chain-apart b 0 (chain_of p b))
    (λ b c o h g u v. sym (bit-in p b o u) ∙ bit-in p c o v)

-- where an operator is written
pub record IsWrittenFor (p : Project) (l : Lists) (o : OperatorAt) : Type 0 where
  pub standing : Standing
  pub asked : standing.asked ≡ o
  pub inner : IsIn standing.path (instances p)
  pub named : Name × Linked
  pub listed : IsIn named (named_operators (linked p (additions p l).chains standing.path))
  pub is : named.1.0 ≡ standing
  pub place : placed_operator (placement_of p l) o ≡ record { path = standing.path; instance = named.0 }

module _ (p : Project) (l : Lists) (f : IsFree p) (ways : HasWaysApart p) (cells : HasItsCells p l) where
  pub written-for : (o : OperatorAt) → IsIn o (all_operators p) → IsWrittenFor p l o
  written-for o h =
      let way = way_of o.bit in
      let its = at-number p l ways cells o h in
      let s = its.0 in
      let here = on_way (plan p l).operators way in
      let planned = is-planned p l s (of-filter (λ (r : Standing). same_way (way_of r.asked.bit) way) s (plan p l).operators (in-slice here o.number s its.1)).0 in
      let stands : IsIn s.path (instances p) = in-instances p (additions p l) f (cells-listed p l) s.path planned.inner.inner planned.inner.at in
      let named = is-named p (additions p l) refl (instances-apart p.structure f.apart) ways way o.number s its.1 planned.bit stands in
      record {
        standing = s;
        asked = its.2.asked;
        inner = stands;
        named = named.named;
        listed = named.listed;
        is = named.standing;
        place = ap (operator_at p (additions p l) here way o.number) its.1 ∙ ap (λ n. record { path = s.path; instance = n }) named.name;
      }

  module _ (few : (x : Path) → length (linked p (additions p l).chains x) ≤ 1000000000) where
    placed-tells : (o r : OperatorAt) → IsIn o (all_operators p) → IsIn r (all_operators p) → placed_operator (placement_of p l) o ≡ placed_operator (placement_of p l) r → o ≡ r
    placed-tells o r h g same =
        let a = written-for o h in
        let b = written-for r g in
        let place = sym a.place ∙ (same ∙ b.place) in
        let path : a.standing.path ≡ b.standing.path = ap (λ (q : Placed). q.path) place in
        let name : a.named.0 ≡ b.named.0 = ap (λ (q : Placed). q.instance) place in
        let all = linked p (additions p l).chains a.standing.path in
        let there : IsIn b.named (named_operators all) = subst (λ x. IsIn b.named (named_operators (linked p (additions p l).chains x))) (sym path) b.listed in
        let size = few a.standing.path in
        let is = named-tells 0 0 all a.named b.named (omega (arith, size)) (omega (arith, size)) a.listed there name in
        sym a.asked ∙ (ap (λ (s : Standing). s.asked) (sym a.is ∙ (ap (λ (y : Name × Linked). y.1.0) is ∙ b.is)) ∙ b.asked)

    pub placed-apart : IsApart (map (placed_operator (placement_of p l)) (all_operators p))
    placed-apart = apart-map (placed_operator (placement_of p l)) (all_operators p) (operators-apart p ways) placed-tells

    pub operators-distinct : are_distinct (map (placed_operator (placement_of p l)) (all_operators p)) ≡ true
    operators-distinct = apart-distinct (map (placed_operator (placement_of p l)) (all_operators p)) placed-apart
