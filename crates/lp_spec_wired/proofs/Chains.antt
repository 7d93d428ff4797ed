-- Stretches of a plan, and the operators of a way.
use Rattle.std.proofs.Common.{◌≡◌, ◌<◌, ℕ, zero, suc, ◌+◌, Bool, true, false, not, ◌&&◌, ◌==◌, cond, List, [], ◌∷◌, map, length, take, Option, Some, None, inl, inr, refl, sym, ◌∙◌, ap, subst, arith}
use Rattle.std.specs.Prelude.{bytes_eq, filter, flat_map, slice_get, if◌then◌else◌}
use Rattle.std.proofs.lemmas.Bool.{both_ways, not-true, true≢false, false≢true, eqb-true, eq-eqb}
use Rattle.lp_model.specs.NetlistView.{BitView, NetBit, SelectBit, ConstBit, PortView, ModuleView}
use Rattle.lp_spec_design.specs.Keys.{Name, Path, same_path, same_index, Way, PortBit, AssignBit, same_way}
use Rattle.lp_spec_design.specs.Netlists.{Structure, first, module_at, indices, upward, node_of}
use Rattle.lp_spec_design.specs.Instances.{module_instances}
use Rattle.lp_spec_design.specs.Domains.{BoundaryBit, boundary, bits_of, is_boundary, way_of}
use Rattle.lp_spec_design.specs.Reads.{name-true, name-self, path-true, path-self, index-true, one, other, both}
use Rattle.lp_spec_design.specs.Winners.{IsIn}
use Rattle.lp_spec_design.proofs.Members.{in-flat, of-flat, of-filter, of-map}
use Rattle.lp_spec_realises.specs.Projects.{Project}
use Rattle.lp_spec_written.specs.Places.{instances, Standing, Plan}
use Rattle.lp_spec_written.specs.Nets.{Stretch, stretches, stretches_from, operators_there, net_count, leads_constant, is_inside, same_bit, bit_of, is_own, renamed, or_near, chain_net, net_bits, nets_of}
use Rattle.lp_spec_hub.specs.Spots.{on_way}
use Rattle.lp_spec_wired.specs.Names.{name_of_node}
use Rattle.lp_spec_wired.proofs.Lists.{first-none}

-- ---- filters

pub in-filter : {A : Type 0} (p : A → Bool) (xs : List A) (x : A) → IsIn x xs → p x ≡ true → IsIn x (filter p xs)
in-filter p [] x h e = absurd h
in-filter p (y ∷ xs) x h e = by (p y) refl (λ r. in-filter p xs x r e)
  where
    by : (t : Bool) → p y ≡ t → (IsIn x xs → IsIn x (filter p xs)) → IsIn x (if t then y ∷ filter p xs else filter p xs)
    by true f more = elim h [ inl is ↦ inl is | inr r ↦ inr (more r) ]
    by false f more = elim h [ inl is ↦ absurd (false≢true (sym f ∙ ap p (sym is) ∙ e)) | inr r ↦ more r ]

-- tests that agree on the members keep the same
pub filter-agree : {A : Type 0} (p q : A → Bool) (xs : List A) → ((x : A) → IsIn x xs → p x ≡ q x) → filter p xs ≡ filter q xs
filter-agree p q [] same = refl
filter-agree p q (x ∷ xs) same = ap (λ b. cond b (x ∷ filter p xs) (filter p xs)) (same x (inl refl)) ∙ ap (λ r. cond (q x) (x ∷ r) r) (filter-agree p q xs (λ y h. same y (inr h)))

pub first-agree : {A : Type 0} (p q : A → Bool) (xs : List A) → ((x : A) → IsIn x xs → p x ≡ q x) → first p xs ≡ first q xs
first-agree p q [] same = refl
first-agree p q (x ∷ xs) same = ap (λ b. cond b (Some x) (first p xs)) (same x (inl refl)) ∙ ap (λ r. cond (q x) (Some x) r) (first-agree p q xs (λ y h. same y (inr h)))

pub filter-all : {A : Type 0} (p : A → Bool) (xs : List A) → ((x : A) → IsIn x xs → p x ≡ true) → filter p xs ≡ xs
filter-all p [] all = refl
filter-all p (x ∷ xs) all = ap (λ b. cond b (x ∷ filter p xs) (filter p xs)) (all x (inl refl)) ∙ ap (λ r. x ∷ r) (filter-all p xs (λ y h. all y (inr h)))

pub taken : {A : Type 0} (k : ℕ) (xs : List A) (x : A) → IsIn x (take k xs) → IsIn x xs
taken zero xs x h = absurd h
taken (suc k) [] x h = absurd h
taken (suc k) (y ∷ xs) x h = elim h [ inl is ↦ inl is | inr r ↦ inr (taken k xs x r) ]

-- ---- ways

pub way-true : (v w : Way) → same_way v w ≡ true → v ≡ w
way-true (PortBit p m i) (PortBit q n j) e = λ r. PortBit
    (path-true p q (other (same_index i j) (same_path p q) (other (bytes_eq m n) (same_index i j && same_path p q) e)) r)
    (name-true m n (one (bytes_eq m n) (same_index i j && same_path p q) e) r)
    (index-true i j (one (same_index i j) (same_path p q) (other (bytes_eq m n) (same_index i j && same_path p q) e)) r)
way-true (AssignBit p a k) (AssignBit q b l) e = λ r. AssignBit
    (path-true p q (other (k == l) (same_path p q) (other (a == b) ((k == l) && same_path p q) e)) r)
    (eqb-true a b (one (a == b) ((k == l) && same_path p q) e) r)
    (eqb-true k l (one (k == l) (same_path p q) (other (a == b) ((k == l) && same_path p q) e)) r)
way-true (PortBit p m i) (AssignBit q b l) e = absurd (true≢false (sym e))
way-true (AssignBit p a k) (PortBit q n j) e = absurd (true≢false (sym e))

index-self : (i : Option ℕ) → same_index i i ≡ true
index-self None = refl
index-self (Some i) = eq-eqb i i refl

pub way-self : (p : Path) (n : Name) (i : Option ℕ) → same_way (PortBit p n i) (PortBit p n i) ≡ true
way-self p n i = both (bytes_eq n n) (same_index i i && same_path p p) (name-self n) (both (same_index i i) (same_path p p) (index-self i) (path-self p))

-- ---- stretches

pub not-zero : (n : ℕ) → 0 < n → (n == 0) ≡ false
not-zero n h = by (n == 0) refl
  where
    by : (b : Bool) → (n == 0) ≡ b → b ≡ false
    by true is = let none : n ≡ 0 = eqb-true n 0 is in absurd (omega (arith, h, none))
    by false is = refl

pub record IsOf (p : Project) (plan : Plan) (s : Stretch) : Type 0 where
  pub bit : IsIn s.bit (boundary p.structure p.intent)
  pub operators : s.operators ≡ operators_there plan s.path s.bit
  pub count : s.count ≡ net_count p.structure s.path s.bit (length s.operators)

module _ (p : Project) (plan : Plan) where
  from-is : (x : Path) (bits : List BoundaryBit) (k : ℕ) (s : Stretch) → IsIn s (stretches_from p plan x k bits)
      → IsIn s.bit bits × (s.operators ≡ operators_there plan s.path s.bit) × (s.count ≡ net_count p.structure s.path s.bit (length s.operators))
  from-is x [] k s h = absurd h
  from-is x (b ∷ bits) k s h = elim h [
    | inl is ↦ subst (λ (t : Stretch). IsIn t.bit (b ∷ bits) × (t.operators ≡ operators_there plan t.path t.bit) × (t.count ≡ net_count p.structure t.path t.bit (length t.operators))) (sym is) (inl refl, refl, refl)
    | inr r ↦ let found = from-is x bits (k + net_count p.structure x b (length (operators_there plan x b))) s r in (inr found.0, found.1, found.2)
  ]

  from-has : (x : Path) (bits : List BoundaryBit) (k : ℕ) (b : BoundaryBit) → IsIn b bits → (s : Stretch) × IsIn s (stretches_from p plan x k bits) × (s.bit ≡ b) × (s.path ≡ x)
  from-has x [] k b h = absurd h
  from-has x (c ∷ bits) k b h = elim h [
    | inl is ↦ (_, inl refl, sym is, refl)
    | inr r ↦ let found = from-has x bits (k + net_count p.structure x c (length (operators_there plan x c))) b r in (found.0, inr found.1, found.2, found.3)
  ]

  pub is-of : (s : Stretch) → IsIn s (stretches p plan) → IsOf p plan s × ((s.count == 0) ≡ false)
  is-of s h =
      let kept = of-filter (λ (t : Stretch). not (t.count == 0)) s (flat_map (λ x. stretches_from p plan x 0 (boundary p.structure p.intent)) (instances p)) h in
      let there = of-flat (λ x. stretches_from p plan x 0 (boundary p.structure p.intent)) s (instances p) kept.0 in
      let is = from-is there.0 (boundary p.structure p.intent) 0 s there.2 in
      (record { bit = is.0; operators = is.1; count = is.2 }, not-true _ kept.1)

  pub has-stretch : (x : Path) (b : BoundaryBit) → IsIn x (instances p) → IsIn b (boundary p.structure p.intent) → (o : Standing) → IsIn o (operators_there plan x b) → (s : Stretch) × IsIn s (stretches p plan) × (s.bit ≡ b) × (s.path ≡ x)
  has-stretch x b h g o is =
      let found = from-has x (boundary p.structure p.intent) 0 b g in
      let of = from-is x (boundary p.structure p.intent) 0 found.0 found.1 in
      let whole : IsIn o found.0.operators = subst (λ l. IsIn o l) (sym (of.1 ∙ ap (operators_there plan found.0.path) found.2 ∙ ap (λ y. operators_there plan y b) found.3)) is in (
        found.0,
        in-filter (λ (t : Stretch). not (t.count == 0)) (flat_map (λ y. stretches_from p plan y 0 (boundary p.structure p.intent)) (instances p)) found.0
            (in-flat (λ y. stretches_from p plan y 0 (boundary p.structure p.intent)) x found.0 (instances p) h found.1)
            (ap (λ c. not (c == 0)) of.2 ∙ counted found.0.operators whole (leads_constant p.structure found.0.path found.0.bit)),
        found.2,
        found.3,
      )
    where
      counted : (os : List Standing) → IsIn o os → (t : Bool) → not ((if length os == 0 then 0 else if t then length os + 1 else length os) == 0) ≡ true
      counted [] h t = absurd h
      counted (r ∷ os) h true =
          ap (λ b. not ((if b then 0 else suc (length os) + 1) == 0)) (not-zero (suc (length os)) (omega arith)) ∙ ap not (not-zero (suc (length os) + 1) (omega arith))
      counted (r ∷ os) h false =
          ap (λ b. not ((if b then 0 else suc (length os)) == 0)) (not-zero (suc (length os)) (omega arith)) ∙ ap not (not-zero (suc (length os)) (omega arith))

  -- a stretch has an operator
  pub has-operator : (s : Stretch) → IsIn s (stretches p plan) → (o : Standing) × IsIn o s.operators
  has-operator s h = by s.operators refl
    where
      by : (os : List Standing) → s.operators ≡ os → (o : Standing) × IsIn o s.operators
      by [] e =
          let none : s.count ≡ 0 = (is-of s h).0.count ∙ ap (λ os. net_count p.structure s.path s.bit (length os)) e in
          absurd (both_ways (s.count == 0) (is-of s h).1 (ap (λ c. c == 0) none))
      by (o ∷ os) e = (o, subst (λ l. IsIn o l) (sym e) (inl refl))

  -- its operators are those of its way that stand there
  pub on-its-way : (s : Stretch) → IsIn s (stretches p plan) → (o : Standing) → IsIn o s.operators → IsIn o (on_way plan.operators (way_of s.bit)) × (o.path ≡ s.path)
  on-its-way s h o is =
      let found = of-filter (λ (r : Standing). same_path r.path s.path && same_way (way_of r.asked.bit) (way_of s.bit)) o plan.operators (subst (λ l. IsIn o l) (is-of s h).0.operators is) in
      (in-filter (λ (r : Standing). same_way (way_of r.asked.bit) (way_of s.bit)) plan.operators o found.0 (other (same_path o.path s.path) _ found.1), path-true o.path s.path (one (same_path o.path s.path) _ found.1))

-- ---- constants keep their place

const-other : (n : Name) (i : Option ℕ) (c : Bool) → same_bit (bit_of n i) (ConstBit c) ≡ false
const-other n None c = refl
const-other n (Some j) c = refl

pub and-none : (b : Bool) → (b && false) ≡ false
and-none true = refl
and-none false = refl

const-renamed : (all : List Stretch) (x : Path) (c : Bool) → renamed all x (ConstBit c) ≡ ConstBit c
const-renamed all x c =
    ap (or_near (ConstBit c)) (first-none (is_own x (ConstBit c)) all (λ s h.
    ap (λ b. is_inside s.path s.bit && (same_path s.path x && b)) (const-other s.bit.port.name s.bit.index c)
    ∙ (ap (λ b. is_inside s.path s.bit && b) (and-none (same_path s.path x))
    ∙ and-none (is_inside s.path s.bit))))

-- the name of a bit's node is that of the bit
pub node-renamed : (all : List Stretch) (x : Path) (b : BitView) → name_of_node all (node_of x b) ≡ node_of x (renamed all x b)
node-renamed all x (NetBit n) = refl
node-renamed all x (SelectBit n i) = refl
node-renamed all x (ConstBit c) = sym (ap (node_of x) (const-renamed all x c))

-- ---- nets of a stretch

upward-get : (c start j k : ℕ) → j < c → k ≡ start + j → slice_get (upward c start) j ≡ Some k
upward-get zero start j k h e = absurd (omega (arith, h))
upward-get (suc c) start zero k h e = let is : start ≡ k = omega (arith, e) in ap (λ n. Some n) is
upward-get (suc c) start (suc j) k h e = upward-get c (start + 1) j k (omega (arith, h)) (omega (arith, e))

map-get : {A B : Type 0} (f : A → B) (xs : List A) (k : ℕ) (x : A) → slice_get xs k ≡ Some x → slice_get (map f xs) k ≡ Some (f x)
map-get f [] k x e = absurd cc
map-get f (y ∷ xs) zero x e = let is : y ≡ x = cc in ap (λ z. Some (f z)) is
map-get f (y ∷ xs) (suc k) x e = map-get f xs k x e

pub net-at : (s : Stretch) (j k : ℕ) → j < s.count → k ≡ s.start + j → slice_get (net_bits s) j ≡ Some (NetBit (chain_net k) ∷ [])
net-at s j k h e = map-get (λ n. NetBit n ∷ []) (nets_of s) j (chain_net k) (map-get chain_net (upward s.count s.start) j k (upward-get s.count s.start j k h e))

-- ---- ports of boundary bits

bits-by : (s : Structure) (y : Path) (m : ModuleView) → module_at s y ≡ Some m → bits_of s y ≡ flat_map (λ (q : PortView). map (λ i. record { path = y; port = q; index = i }) (indices q.range)) m.ports
bits-by s y m e = rw (e) refl

bits-none-by : (s : Structure) (y : Path) → module_at s y ≡ None → bits_of s y ≡ []
bits-none-by s y e = rw (e) refl

-- the port of a boundary bit is one of its module
pub boundary-port : (p : Project) (b : BoundaryBit) (m : ModuleView) → IsIn b (boundary p.structure p.intent) → module_at p.structure b.path ≡ Some m → IsIn b.port m.ports
boundary-port p b m h e =
    let found = of-flat (bits_of p.structure) b (filter (is_boundary p.intent) (module_instances p.structure)) h in
    by found.0 (module_at p.structure found.0) refl found.2
  where
    by : (y : Path) (o : Option ModuleView) → module_at p.structure y ≡ o → IsIn b (bits_of p.structure y) → IsIn b.port m.ports
    by y None f g = absurd (subst (λ l. IsIn b l) (bits-none-by p.structure y f) g)
    by y (Some k) f g =
        let port = of-flat (λ (q : PortView). map (λ i. record { path = y; port = q; index = i }) (indices q.range)) b k.ports (subst (λ l. IsIn b l) (bits-by p.structure y k f) g) in
        let bit = of-map (λ i. record { path = y; port = port.0; index = i }) b (indices port.0.range) port.2 in
        let same : Some k ≡ Some m = sym f ∙ (ap (λ (c : BoundaryBit). module_at p.structure c.path) (sym bit.2) ∙ e) in
        let is : k ≡ m = cc in
        subst (λ (v : ModuleView). IsIn b.port v.ports) is (subst (λ q. IsIn q k.ports) (ap (λ (c : BoundaryBit). c.port) (sym bit.2)) port.1)
