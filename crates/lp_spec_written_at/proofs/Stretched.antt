-- The operators of a way that stand in one instance are those of the stretches of that instance, in their order.
use Rattle.std.proofs.Common.{◌≡◌, ◌≤◌, ◌<◌, ℕ, zero, suc, ◌+◌, Bool, true, false, not, ◌&&◌, ◌==◌, cond, List, [], ◌∷◌, ◌++◌, length, map, inl, inr, refl, sym, ap, ◌∙◌, subst, arith}
use Rattle.std.specs.Prelude.{filter, flat_map, if◌then◌else◌, bytes_eq}
use Rattle.std.proofs.lemmas.Bool.{false≢true, true≢false, eqb-true}
use Rattle.std.proofs.lemmas.List.{length-append, length-map}
use Rattle.lp_model.specs.NetlistView.{BitView, NetBit}
use Rattle.lp_spec_design.specs.Keys.{Path, same_path, same_index, Way, PortBit, AssignBit, same_way}
use Rattle.lp_spec_design.specs.Netlists.{upward, is_input}
use Rattle.lp_spec_design.specs.Graph.{pairs}
use Rattle.lp_spec_design.specs.Domains.{BoundaryBit, boundary, way_of}
use Rattle.lp_spec_design.specs.Winners.{IsIn}
use Rattle.lp_spec_design.specs.Reads.{one, other, name-true, path-true, path-self, index-true}
use Rattle.lp_spec_design.proofs.Members.{IsApart, of-flat, of-filter}
use Rattle.lp_spec_realises.specs.Projects.{Project}
use Rattle.lp_spec_written.specs.Places.{instances, Standing, Plan}
use Rattle.lp_spec_written.specs.Nets.{Stretch, stretches, stretches_from, stretches_in, operators_there, net_count, leads_constant, far, net_bits, nets_of, chain_net, links, with_next, Linked, linked}
use Rattle.lp_spec_hub.specs.Spots.{on_way}
use Rattle.lp_spec_hub.specs.Entries.{HasWaysApart}
use Rattle.lp_spec_written_at.proofs.Picked.{map-flat, flat-same, filter-append, filter-flat, flat-append, filter-same, filter-none, filter-both, pairs-first, pairs-length, none-more, one-has}

-- ---- ways and numbers

pub way-true : (v w : Way) → same_way v w ≡ true → v ≡ w
way-true (PortBit p m i) (PortBit q n j) e = λ r. PortBit
    (path-true p q (other (same_index i j) (same_path p q) (other (bytes_eq m n) (same_index i j && same_path p q) e)) r)
    (name-true m n (one (bytes_eq m n) (same_index i j && same_path p q) e) r)
    (index-true i j (one (same_index i j) (same_path p q) (other (bytes_eq m n) (same_index i j && same_path p q) e)) r)
way-true (AssignBit p a k) (AssignBit q b l) e = λ r. AssignBit
    (path-true p q (other (k == l) (same_path p q) (other (a == b) ((k == l) && same_path p q) e)) r)
    (eqb-true a b (one (a == b) ((k == l) && same_path p q) e) r)
    (eqb-true k l (one (k == l) (same_path p q) (other (a == b) ((k == l) && same_path p q) e)) r)
way-true (PortBit p m i) (AssignBit q b l) e = absurd (true≢false (sym e))
way-true (AssignBit p a k) (PortBit q n j) e = absurd (true≢false (sym e))

not-zero : (n : ℕ) → 0 < n → (n == 0) ≡ false
not-zero n h = by (n == 0) refl
  where
    by : (b : Bool) → (n == 0) ≡ b → b ≡ false
    by true is = let none : n ≡ 0 = eqb-true n 0 is in absurd (omega (arith, h, none))
    by false is = refl

upward-length : (c start : ℕ) → length (upward c start) ≡ c
upward-length zero start = refl
upward-length (suc c) start = ap suc (upward-length c (start + 1))

and-none : (b : Bool) → (b && false) ≡ false
and-none true = refl
and-none false = refl

same-both : (c d : Bool) → (c && (d && c)) ≡ (d && c)
same-both true d = refl
same-both false d = sym (and-none d)

-- ---- the stretches of one instance

abbrev pub operators_of : Stretch → List Standing
operators_of s = s.operators

module _ (p : Project) (plan : Plan) where
  abbrev bits : List BoundaryBit
  bits = boundary p.structure p.intent

  abbrev has_nets : Stretch → Bool
  has_nets s = not (s.count == 0)

  abbrev stands : Path → Stretch → Bool
  stands x s = same_path s.path x

  abbrev there : Path → List Stretch → List Standing
  there x ss = flat_map operators_of (filter (stands x) (filter has_nets ss))

  there-append : (x : Path) (ss ts : List Stretch) → there x (ss ++ ts) ≡ there x ss ++ there x ts
  there-append x ss ts =
      ap (λ r. flat_map operators_of (filter (stands x) r)) (filter-append has_nets ss ts)
      ∙ (ap (flat_map operators_of) (filter-append (stands x) (filter has_nets ss) (filter has_nets ts))
      ∙ flat-append operators_of (filter (stands x) (filter has_nets ss)) (filter (stands x) (filter has_nets ts)))

  abbrev made : Path → BoundaryBit → List Standing → ℕ → Stretch
  made x b os k = record { bit = b; path = x; operators = os; start = k; count = net_count p.structure x b (length os) }

  counted : (x : Path) (b : BoundaryBit) (o : Standing) (os : List Standing) (t : Bool) → leads_constant p.structure x b ≡ t → net_count p.structure x b (length (o ∷ os)) ≡ (if t then suc (length os) + 1 else suc (length os))
  counted x b o os t e =
      ap (λ c. if c then 0 else if leads_constant p.structure x b then suc (length os) + 1 else suc (length os)) (not-zero (suc (length os)) (omega arith))
      ∙ ap (λ c. if c then suc (length os) + 1 else suc (length os)) e

  has-some : (x : Path) (b : BoundaryBit) (o : Standing) (os : List Standing) → not (net_count p.structure x b (length (o ∷ os)) == 0) ≡ true
  has-some x b o os = by (leads_constant p.structure x b) refl
    where
      by : (t : Bool) → leads_constant p.structure x b ≡ t → not (net_count p.structure x b (length (o ∷ os)) == 0) ≡ true
      by true e = ap (λ c. not (c == 0)) (counted x b o os true e) ∙ ap not (not-zero (suc (length os) + 1) (omega arith))
      by false e = ap (λ c. not (c == 0)) (counted x b o os false e) ∙ ap not (not-zero (suc (length os)) (omega arith))

  one-here : (x : Path) (b : BoundaryBit) (os : List Standing) (k : ℕ) → there x (made x b os k ∷ []) ≡ os
  one-here x b [] k = refl
  one-here x b (o ∷ os) k =
      ap (λ c. flat_map operators_of (filter (stands x) (cond c (made x b (o ∷ os) k ∷ []) []))) (has-some x b o os)
      ∙ (ap (λ c. flat_map operators_of (cond c (made x b (o ∷ os) k ∷ []) [])) (path-self x)
      ∙ none-more (o ∷ os))

  from-here : (x : Path) (bs : List BoundaryBit) (k : ℕ) → there x (stretches_from p plan x k bs) ≡ flat_map (operators_there plan x) bs
  from-here x [] k = refl
  from-here x (b ∷ bs) k =
      let os = operators_there plan x b in
      let next = k + net_count p.structure x b (length os) in
      there-append x (made x b os k ∷ []) (stretches_from p plan x next bs)
      ∙ (ap (λ r. r ++ there x (stretches_from p plan x next bs)) (one-here x b os k)
      ∙ ap (λ r. os ++ r) (from-here x bs next))

  from-path : (y : Path) (bs : List BoundaryBit) (k : ℕ) (s : Stretch) → IsIn s (stretches_from p plan y k bs) → (s.path ≡ y) × (s.count ≡ net_count p.structure s.path s.bit (length s.operators))
  from-path y [] k s h = absurd h
  from-path y (b ∷ bs) k s h = elim h [
    | inl is ↦ subst (λ (t : Stretch). (t.path ≡ y) × (t.count ≡ net_count p.structure t.path t.bit (length t.operators))) (sym is) (refl, refl)
    | inr r ↦ from-path y bs (k + net_count p.structure y b (length (operators_there plan y b))) s r
  ]

  from-else : (x y : Path) (bs : List BoundaryBit) (k : ℕ) → same_path y x ≡ false → there x (stretches_from p plan y k bs) ≡ []
  from-else x y bs k differ =
      ap (flat_map operators_of) (filter-none (stands x) (filter has_nets (stretches_from p plan y k bs))
      (λ s h. ap (λ z. same_path z x) (from-path y bs k s (of-filter has_nets s (stretches_from p plan y k bs) h).0).0 ∙ differ))

  path-differs : (x y : Path) → (x ≡ y → ⊥) → same_path y x ≡ false
  path-differs x y differ = by (same_path y x) refl
    where
      by : (b : Bool) → same_path y x ≡ b → b ≡ false
      by true e = absurd (differ (sym (path-true y x e)))
      by false e = refl

  abbrev every : List Path → List Stretch
  every ys = flat_map (λ y. stretches_from p plan y 0 bits) ys

  over-none : (x : Path) (ys : List Path) → (IsIn x ys → ⊥) → there x (every ys) ≡ []
  over-none x [] none = refl
  over-none x (y ∷ ys) none =
      there-append x (stretches_from p plan y 0 bits) (every ys)
      ∙ (ap (λ r. r ++ there x (every ys)) (from-else x y bits 0 (path-differs x y (λ is. none (inl is))))
      ∙ over-none x ys (λ h. none (inr h)))

  over : (x : Path) (ys : List Path) → IsApart ys → IsIn x ys → there x (every ys) ≡ flat_map (operators_there plan x) bits
  over x [] apart h = absurd h
  over x (y ∷ ys) apart (inl is) =
      there-append x (stretches_from p plan y 0 bits) (every ys)
      ∙ (ap (λ r. r ++ there x (every ys)) (subst (λ z. there x (stretches_from p plan z 0 bits) ≡ flat_map (operators_there plan x) bits) is (from-here x bits 0))
      ∙ (ap (λ r. flat_map (operators_there plan x) bits ++ r) (over-none x ys (λ h. apart.0 (subst (λ z. IsIn z ys) is h)))
      ∙ none-more (flat_map (operators_there plan x) bits)))
  over x (y ∷ ys) apart (inr h) =
      there-append x (stretches_from p plan y 0 bits) (every ys)
      ∙ (ap (λ r. r ++ there x (every ys)) (from-else x y bits 0 (path-differs x y (λ is. apart.0 (subst (λ z. IsIn z ys) is h))))
      ∙ over x ys apart.1 h)

  pub in-instance : (x : Path) → IsApart (instances p) → IsIn x (instances p) → flat_map operators_of (stretches_in (stretches p plan) x) ≡ flat_map (operators_there plan x) bits
  in-instance x apart h = over x (instances p) apart h

  -- ---- those of one way

  abbrev on : Way → Standing → Bool
  on w o = same_way (way_of o.asked.bit) w

  abbrev here : Path → Standing → Bool
  here x o = same_path o.path x

  way-only : (x : Path) (w : Way) (b : BoundaryBit) (t : Bool) → same_way (way_of b) w ≡ t → filter (on w) (operators_there plan x b) ≡ (if t then filter (here x) (on_way plan.operators w) else [])
  way-only x w b true e =
      let is = way-true (way_of b) w e in
      filter-both (on w) (λ o. here x o && on (way_of b) o) plan.operators
      ∙ (filter-same (λ o. on w o && (here x o && on (way_of b) o)) (λ o. here x o && on w o) plan.operators (λ o h. ap (λ v. on w o && (here x o && on v o)) is ∙ same-both (on w o) (here x o))
      ∙ sym (filter-both (here x) (on w) plan.operators))
  way-only x w b false e =
      filter-none (on w) (operators_there plan x b) (λ o h. by o (of-filter (λ o. here x o && on (way_of b) o) o plan.operators h).1 (on w o) refl)
    where
      by : (o : Standing) → (here x o && on (way_of b) o) ≡ true → (t : Bool) → on w o ≡ t → t ≡ false
      by o h true g =
          let same = way-true (way_of o.asked.bit) (way_of b) (other (here x o) (on (way_of b) o) h) in
          absurd (false≢true (sym e ∙ (ap (λ v. same_way v w) (sym same) ∙ g)))
      by o h false g = refl

  pub of-way : (x : Path) (w : Way) (b : BoundaryBit) → HasWaysApart p → IsIn b bits → same_way (way_of b) w ≡ true
      → filter (on w) (flat_map (operators_there plan x) bits) ≡ filter (here x) (on_way plan.operators w)
  of-way x w b ways h e =
      filter-flat (on w) (operators_there plan x) bits
      ∙ (flat-same (λ c. filter (on w) (operators_there plan x c)) (λ c. if same_way (way_of c) w then filter (here x) (on_way plan.operators w) else []) bits (λ c g. way-only x w c (same_way (way_of c) w) refl)
      ∙ one-has (λ (c : BoundaryBit). same_way (way_of c) w) (filter (here x) (on_way plan.operators w)) b bits h e (ways w))

  -- ---- with what lies between

  next-length : (n : ℕ) (xs : List (List BitView)) → suc n ≤ length xs → n ≤ length (with_next xs)
  next-length n [] h = absurd (omega (arith, h))
  next-length n (x ∷ xs) h = pairs-length n (x ∷ xs) xs (omega (arith, h)) (omega (arith, h))

  nets-length : (s : Stretch) → length (net_bits s) ≡ s.count
  nets-length s = length-map (nets_of s) (λ n. NetBit n ∷ []) ∙ (length-map (upward s.count s.start) chain_net ∙ upward-length s.count s.start)

  module _ (all : List Stretch) (s : Stretch) (count : s.count ≡ net_count p.structure s.path s.bit (length s.operators)) where
    links-length : (o : Standing) (os : List Standing) → s.operators ≡ o ∷ os → (i t : Bool) → is_input s.bit.port ≡ i → leads_constant p.structure s.path s.bit ≡ t
        → suc (suc (length os)) ≤ length (if i then (if t then net_bits s else far p all s ∷ net_bits s) else net_bits s ++ (far p all s ∷ []))
    links-length o os e i t f g = by i t (count ∙ (ap (λ l. net_count p.structure s.path s.bit (length l)) e ∙ counted s.path s.bit o os t g))
      where
        by : (i t : Bool) → s.count ≡ (if t then suc (length os) + 1 else suc (length os)) → suc (suc (length os)) ≤ length (if i then (if t then net_bits s else far p all s ∷ net_bits s) else net_bits s ++ (far p all s ∷ []))
        by true true c = omega (arith, c, nets-length s)
        by true false c = omega (arith, c, nets-length s)
        by false true c = let long = length-append (net_bits s) (far p all s ∷ []) in omega (arith, c, nets-length s, long)
        by false false c = let long = length-append (net_bits s) (far p all s ∷ []) in omega (arith, c, nets-length s, long)

    enough : length s.operators ≤ length (with_next (links p all s))
    enough = by s.operators refl
      where
        by : (os : List Standing) → s.operators ≡ os → length os ≤ length (with_next (links p all s))
        by [] e = omega arith
        by (o ∷ os) e = next-length (suc (length os)) (links p all s) (links-length o os e (is_input s.bit.port) (leads_constant p.structure s.path s.bit) refl refl)

  pub linked-operators : (x : Path) → map (λ (z : Linked). z.0) (linked p (stretches p plan) x) ≡ flat_map operators_of (stretches_in (stretches p plan) x)
  linked-operators x =
      map-flat (λ (z : Linked). z.0) (λ (s : Stretch). pairs s.operators (with_next (links p (stretches p plan) s))) (stretches_in (stretches p plan) x)
      ∙ flat-same (λ (s : Stretch). map (λ (z : Linked). z.0) (pairs s.operators (with_next (links p (stretches p plan) s)))) operators_of (stretches_in (stretches p plan) x)
      (λ s h. pairs-first s.operators (with_next (links p (stretches p plan) s)) (enough (stretches p plan) s (counts s (of-filter (stands x) s (stretches p plan) h).0)))
    where
      counts : (s : Stretch) → IsIn s (stretches p plan) → s.count ≡ net_count p.structure s.path s.bit (length s.operators)
      counts s h =
          let at = of-flat (λ y. stretches_from p plan y 0 bits) s (instances p) (of-filter has_nets s (every (instances p)) h).0 in
          (from-path at.0 bits 0 s at.2).1
