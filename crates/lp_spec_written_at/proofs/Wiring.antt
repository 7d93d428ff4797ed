-- Which operators and nets the stretches of a plan have.
use Rattle.std.proofs.Common.{◌≡◌, ◌≤◌, ◌<◌, ◌^◌, ℕ, zero, suc, ◌+◌, ◌-◌, Bool, true, false, not, ◌&&◌, ◌==◌, cond, List, [], ◌∷◌, length, Option, Some, None, inl, inr, refl, sym, ◌∙◌, ap, subst, arith}
use Rattle.std.specs.Prelude.{filter, flat_map, slice_get, decimal, if◌then◌else◌}
use Rattle.std.proofs.lemmas.Bool.{both_ways, not-true, true≢false}
use Rattle.std.proofs.lemmas.Fmt.{decimal_injective}
use Rattle.lp_model.specs.NetlistView.{BitView, NetBit, SelectBit, ConstBit}
use Rattle.lp_spec_design.specs.Keys.{Name, Path, same_path, Inner, same_way}
use Rattle.lp_spec_design.specs.Netlists.{first, node_of, is_input}
use Rattle.lp_spec_design.specs.Graph.{numbered}
use Rattle.lp_spec_design.specs.Domains.{BoundaryBit, boundary, way_of}
use Rattle.lp_spec_design.specs.Reads.{path-true, one, other}
use Rattle.lp_spec_design.specs.Winners.{IsIn}
use Rattle.lp_spec_design.proofs.Members.{of-flat, of-filter}
use Rattle.lp_spec_realises.specs.Projects.{Project}
use Rattle.lp_spec_written.specs.Places.{instances, Standing, Plan}
use Rattle.lp_spec_written.specs.Nets.{Stretch, stretches, stretches_from, operators_there, net_count, is_inside, same_bit, bit_of, is_own, renamed, or_near, chain_net}
use Rattle.lp_spec_hub.specs.Spots.{on_way}
use Rattle.lp_spec_wired.specs.Laws.{HasNet}
use Rattle.lp_spec_wired.specs.Names.{name_of_node}
use Rattle.lp_spec_written_at.proofs.Lists.{none-first}
use Rattle.lp_spec_written_at.proofs.SourceCells.{in-filter}

-- ---- lists

pub first-agree : {A : Type 0} (p q : A → Bool) (xs : List A) → ((x : A) → IsIn x xs → p x ≡ q x) → first p xs ≡ first q xs
first-agree p q [] same = refl
first-agree p q (x ∷ xs) same = ap (λ b. cond b (Some x) (first p xs)) (same x (inl refl)) ∙ ap (λ r. cond (q x) (Some x) r) (first-agree p q xs (λ y h. same y (inr h)))

pub filter-short : {A : Type 0} (p : A → Bool) (xs : List A) → length (filter p xs) ≤ length xs
filter-short p [] = omega arith
filter-short p (x ∷ xs) = by (p x) (filter-short p xs)
  where
    by : (b : Bool) → length (filter p xs) ≤ length xs → length (cond b (x ∷ filter p xs) (filter p xs)) ≤ suc (length xs)
    by true h = omega (arith, h)
    by false h = omega (arith, h)

numbered-from : {A : Type 0} (xs : List A) (n k j : ℕ) (x : A) → slice_get xs k ≡ Some x → j ≡ n + k → IsIn (j, x) (numbered n xs)
numbered-from [] n k j x e is = absurd cc
numbered-from (y ∷ xs) n zero j x e is = let same : x ≡ y = cc in let at : j ≡ n = omega (arith, is) in inl (ap (λ z. (z, x)) at ∙ ap (λ z. (n, z)) same)
numbered-from (y ∷ xs) n (suc k) j x e is = inr (numbered-from xs (n + 1) k j x e (omega (arith, is)))

-- an item of a list stands in it with its number
pub numbered-at : {A : Type 0} (xs : List A) (k : ℕ) (x : A) → slice_get xs k ≡ Some x → IsIn (k, x) (numbered 0 xs)
numbered-at xs k x e = numbered-from xs 0 k k x e (omega arith)

numbered-get : {A : Type 0} (xs : List A) (n : ℕ) (z : ℕ × A) → IsIn z (numbered n xs) → (k : ℕ) × (z.0 ≡ n + k) × (slice_get xs k ≡ Some z.1)
numbered-get [] n z h = absurd h
numbered-get (x ∷ xs) n z h = elim h [
  | inl is ↦ (0, ap (λ y. y.0) is ∙ (omega arith), ap (λ y. Some y.1) (sym is))
  | inr r ↦ let found = numbered-get xs (n + 1) z r in let at : z.0 ≡ n + suc found.0 = omega (arith, found.1) in (suc found.0, at, found.2)
]

pub at-numbered : {A : Type 0} (xs : List A) (z : ℕ × A) → IsIn z (numbered 0 xs) → slice_get xs z.0 ≡ Some z.1
at-numbered xs z h = let found = numbered-get xs 0 z h in let at : z.0 ≡ found.0 = omega (arith, found.1) in ap (slice_get xs) at ∙ found.2

-- ---- what a stretch is

pub record IsOf (p : Project) (plan : Plan) (s : Stretch) : Type 0 where
  pub bit : IsIn s.bit (boundary p.structure p.intent)
  pub operators : s.operators ≡ operators_there plan s.path s.bit
  pub count : s.count ≡ net_count p.structure s.path s.bit (length s.operators)

module _ (p : Project) (plan : Plan) where
  from-is : (x : Path) (bits : List BoundaryBit) (k : ℕ) (s : Stretch) → IsIn s (stretches_from p plan x k bits)
      → IsIn s.bit bits × (s.operators ≡ operators_there plan s.path s.bit) × (s.count ≡ net_count p.structure s.path s.bit (length s.operators))
  from-is x [] k s h = absurd h
  from-is x (b ∷ bits) k s h = elim h [
    | inl is ↦ subst (λ (t : Stretch). IsIn t.bit (b ∷ bits) × (t.operators ≡ operators_there plan t.path t.bit) × (t.count ≡ net_count p.structure t.path t.bit (length t.operators))) (sym is) (inl refl, refl, refl)
    | inr r ↦ let found = from-is x bits (k + net_count p.structure x b (length (operators_there plan x b))) s r in (inr found.0, found.1, found.2)
  ]

  pub is-of : (s : Stretch) → IsIn s (stretches p plan) → IsOf p plan s × ((s.count == 0) ≡ false)
  is-of s h =
      let kept = of-filter (λ (t : Stretch). not (t.count == 0)) s (flat_map (λ x. stretches_from p plan x 0 (boundary p.structure p.intent)) (instances p)) h in
      let there = of-flat (λ x. stretches_from p plan x 0 (boundary p.structure p.intent)) s (instances p) kept.0 in
      let is = from-is there.0 (boundary p.structure p.intent) 0 s there.2 in
      (record { bit = is.0; operators = is.1; count = is.2 }, not-true _ kept.1)

  -- a stretch has an operator
  pub has-operator : (s : Stretch) → IsIn s (stretches p plan) → (o : Standing) × IsIn o s.operators
  has-operator s h = by s.operators refl
    where
      by : (os : List Standing) → s.operators ≡ os → (o : Standing) × IsIn o s.operators
      by [] e =
          let none : s.count ≡ 0 = (is-of s h).0.count ∙ ap (λ os. net_count p.structure s.path s.bit (length os)) e in
          absurd (both_ways (s.count == 0) (is-of s h).1 (ap (λ c. c == 0) none))
      by (o ∷ os) e = (o, subst (λ l. IsIn o l) (sym e) (inl refl))

  -- its operators are those of its way that stand there
  pub on-its-way : (s : Stretch) → IsIn s (stretches p plan) → (o : Standing) → IsIn o s.operators → IsIn o (on_way plan.operators (way_of s.bit)) × (o.path ≡ s.path)
  on-its-way s h o is =
      let found = of-filter (λ (r : Standing). same_path r.path s.path && same_way (way_of r.asked.bit) (way_of s.bit)) o plan.operators (subst (λ l. IsIn o l) (is-of s h).0.operators is) in
      (in-filter (λ (r : Standing). same_way (way_of r.asked.bit) (way_of s.bit)) plan.operators o found.0 (other (same_path o.path s.path) _ found.1), path-true o.path s.path (one (same_path o.path s.path) _ found.1))

-- ---- bits by their names

const-other : (n : Name) (i : Option ℕ) (c : Bool) → same_bit (bit_of n i) (ConstBit c) ≡ false
const-other n None c = refl
const-other n (Some j) c = refl

and-none : (b : Bool) → (b && false) ≡ false
and-none true = refl
and-none false = refl

const-renamed : (all : List Stretch) (x : Path) (c : Bool) → renamed all x (ConstBit c) ≡ ConstBit c
const-renamed all x c =
    ap (or_near (ConstBit c)) (none-first (is_own x (ConstBit c)) all (λ s h.
    ap (λ b. is_inside s.path s.bit && (same_path s.path x && b)) (const-other s.bit.port.name s.bit.index c)
    ∙ (ap (λ b. is_inside s.path s.bit && b) (and-none (same_path s.path x))
    ∙ and-none (is_inside s.path s.bit))))

-- the name of a bit's node is that of the bit
pub node-renamed : (all : List Stretch) (x : Path) (b : BitView) → name_of_node all (node_of x b) ≡ node_of x (renamed all x b)
node-renamed all x (NetBit n) = refl
node-renamed all x (SelectBit n i) = refl
node-renamed all x (ConstBit c) = sym (ap (node_of x) (const-renamed all x c))

pub own-node : (n : Name) (i : Option ℕ) (y : Path) → node_of y (bit_of n i) ≡ Inner n i y
own-node n None y = refl
own-node n (Some i) y = refl

-- ---- numbers of nets

abbrev pub near_number : Stretch → ℕ
near_number s = if is_input s.bit.port then (s.start + s.count) - 1 else s.start

positive : (n : ℕ) → (n == 0) ≡ false → 0 < n
positive zero e = absurd (true≢false e)
positive (suc n) e = omega arith

pub near-low : (s : Stretch) → 0 < s.count → s.start ≤ near_number s
near-low s h = by (is_input s.bit.port)
  where
    by : (b : Bool) → s.start ≤ (if b then (s.start + s.count) - 1 else s.start)
    by true = omega (arith, h)
    by false = omega arith

pub near-high : (s : Stretch) → 0 < s.count → near_number s < s.start + s.count
near-high s h = by (is_input s.bit.port)
  where
    by : (b : Bool) → (if b then (s.start + s.count) - 1 else s.start) < s.start + s.count
    by true = omega (arith, h)
    by false = omega (arith, h)

pub count-some : (p : Project) (plan : Plan) (s : Stretch) → IsIn s (stretches p plan) → 0 < s.count
count-some p plan s h = positive s.count (is-of p plan s h).1

tail_of : (j k : ℕ) (a b c d e : ℕ) → (a ∷ b ∷ c ∷ d ∷ e ∷ decimal j) ≡ (a ∷ b ∷ c ∷ d ∷ e ∷ decimal k) → decimal j ≡ decimal k
tail_of j k a b c d e same = cc

chain-number : (j k : ℕ) → j < 2 ^ 64 → k < 2 ^ 64 → chain_net j ≡ chain_net k → j ≡ k
chain-number j k small less same = decimal_injective j k small less (tail_of j k _ _ _ _ _ same)

module _ (p : Project) (plan : Plan) (x : Path) where
  path-from : (bits : List BoundaryBit) (k : ℕ) (s : Stretch) → IsIn s (stretches_from p plan x k bits) → s.path ≡ x
  path-from [] k s h = absurd h
  path-from (b ∷ bits) k s h = elim h [
    | inl is ↦ ap (λ (t : Stretch). t.path) is
    | inr r ↦ path-from bits (k + net_count p.structure x b (length (operators_there plan x b))) s r
  ]

  -- numbers begin where those of the stretches before end
  above : (bits : List BoundaryBit) (k : ℕ) (s : Stretch) → IsIn s (stretches_from p plan x k bits) → k ≤ s.start
  above [] k s h = absurd h
  above (b ∷ bits) k s h = elim h [
    | inl is ↦ let same : s.start ≡ k = ap (λ (t : Stretch). t.start) is in omega (arith, same)
    | inr r ↦ let later = above bits (k + net_count p.structure x b (length (operators_there plan x b))) s r in omega (arith, later)
  ]

  -- a number belongs to one stretch
  one-of : (bits : List BoundaryBit) (k m : ℕ) (s t : Stretch) → IsIn s (stretches_from p plan x k bits) → IsIn t (stretches_from p plan x k bits) → HasNet s m → HasNet t m → s ≡ t
  one-of [] k m s t h g a b = absurd h
  one-of (c ∷ bits) k m s t h g a b = elim h [
    | inl is ↦ elim g [ inl too ↦ is ∙ sym too | inr r ↦ absurd (apart s t is r a b) ]
    | inr l ↦ elim g [ inl too ↦ absurd (apart t s too l b a) | inr r ↦ one-of bits next m s t l r a b ]
  ]
    where
      next : ℕ
      next = k + net_count p.structure x c (length (operators_there plan x c))

      apart : (v u : Stretch) → v ≡ record { bit = c; path = x; operators = operators_there plan x c; start = k; count = net_count p.structure x c (length (operators_there plan x c)) }
          → IsIn u (stretches_from p plan x next bits) → HasNet v m → HasNet u m → ⊥
      apart v u is r a b =
          let begins : v.start ≡ k = ap (λ (w : Stretch). w.start) is in
          let many : v.count ≡ net_count p.structure x c (length (operators_there plan x c)) = ap (λ (w : Stretch). w.count) is in
          let later = above bits next u r in
          let low = a.below in
          let high = b.above in
          omega (arith, begins, many, later, low, high)

pub nets-apart : (p : Project) (plan : Plan) (s t : Stretch) → IsIn s (stretches p plan) → IsIn t (stretches p plan) → s.path ≡ t.path → (j k : ℕ) → HasNet s j → HasNet t k → j < 2 ^ 64 → k < 2 ^ 64 → chain_net j ≡ chain_net k → (s ≡ t) × (j ≡ k)
nets-apart p plan s t h g same j k a b small less e =
    let number : j ≡ k = chain-number j k small less e in
    let there = in-instance s h in
    let too = in-instance t g in
    let is : too.0 ≡ there.0 = sym (path-from p plan too.0 bits 0 t too.1) ∙ (sym same ∙ path-from p plan there.0 bits 0 s there.1) in (
      one-of p plan there.0 bits 0 j s t there.1 (subst (λ x. IsIn t (stretches_from p plan x 0 bits)) is too.1) a (subst (HasNet t) (sym number) b),
      number,
    )
  where
    bits : List BoundaryBit
    bits = boundary p.structure p.intent

    in-instance : (v : Stretch) → IsIn v (stretches p plan) → (x : Path) × IsIn v (stretches_from p plan x 0 bits)
    in-instance v h =
        let kept = of-filter (λ (u : Stretch). not (u.count == 0)) v (flat_map (λ x. stretches_from p plan x 0 bits) (instances p)) h in
        let there = of-flat (λ x. stretches_from p plan x 0 bits) v (instances p) kept.0 in
        (there.0, there.2)
