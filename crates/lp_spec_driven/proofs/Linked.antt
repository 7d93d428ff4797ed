-- The operators that are written in an instance, each with what it reads and drives, and their places on their ways.
use Rattle.std.proofs.Common.{◌≡◌, ◌<◌, ℕ, zero, suc, ◌+◌, Bool, true, false, ◌&&◌, cond, List, [], ◌∷◌, ◌++◌, map, length, take, Some, inl, inr, refl, sym, ◌∙◌, ap, subst, arith}
use Rattle.std.specs.Prelude.{filter, flat_map, slice_get, unwrap_or, option_and_then, if◌then◌else◌}
use Rattle.std.proofs.lemmas.List.{length-append, length-map}
use Rattle.lp_spec_design.specs.Keys.{Name, Path, same_path, Way, same_way}
use Rattle.lp_spec_design.specs.Netlists.{first}
use Rattle.lp_spec_design.specs.Graph.{pairs}
use Rattle.lp_spec_design.specs.Chains.{Operator, Clamp, Shift}
use Rattle.lp_spec_design.specs.Domains.{way_of}
use Rattle.lp_spec_design.specs.Winners.{IsIn}
use Rattle.lp_spec_design.specs.Reads.{path-true, path-self, one, other}
use Rattle.lp_spec_design.proofs.Members.{IsApart, of-flat, of-filter, of-pairs}
use Rattle.lp_spec_realises.specs.Projects.{Project}
use Rattle.lp_spec_written.specs.Places.{instances, Standing, operator_names}
use Rattle.lp_spec_written.specs.Nets.{Stretch, stretches, stretches_in, operators_there, links, with_next, Linked, linked}
use Rattle.lp_spec_written.specs.Written.{Additions, named_operators}
use Rattle.lp_spec_hub.specs.Spots.{on_way}
use Rattle.lp_spec_hub.specs.Entries.{HasWaysApart}
use Rattle.lp_spec_wired.specs.Names.{is_stretch, place_on, instance_on}
use Rattle.lp_spec_wired.specs.Laws.{HasChains, HasOneBit}
use Rattle.lp_spec_wired.proofs.Chains.{in-filter, filter-all, way-true, way-self, is-of}
use Rattle.lp_spec_wired.proofs.Wires.{Own, own}
use Rattle.lp_spec_written_at.proofs.Picked.{pick, of-map-get, map-filter, flat-same, filter-flat, filter-both, filter-none, pairs-second, none-more}
use Rattle.lp_spec_written_at.proofs.Stretched.{operators_of, in-instance, of-way, linked-operators}

-- ---- lists

pub index-of : {A : Type 0} (xs : List A) (x : A) → IsIn x xs → (n : ℕ) × (slice_get xs n ≡ Some x)
index-of [] x h = absurd h
index-of (y ∷ xs) x (inl is) = (0, ap (λ z. Some z) (sym is))
index-of (y ∷ xs) x (inr h) = let found = index-of xs x h in (suc found.0, found.1)

-- where one stands among those that are kept, so many before it are kept
pub unpick : {A : Type 0} (t : A → Bool) (xs : List A) (n : ℕ) (x : A) → slice_get (filter t xs) n ≡ Some x → (k : ℕ) × (slice_get xs k ≡ Some x) × (length (filter t (take k xs)) ≡ n)
unpick t [] n x e = absurd cc
unpick t (y ∷ xs) n x e = by (t y) refl n e (λ j g. unpick t xs j x g)
  where
    by : (b : Bool) → t y ≡ b → (n : ℕ) → slice_get (cond b (y ∷ filter t xs) (filter t xs)) n ≡ Some x
        → ((j : ℕ) → slice_get (filter t xs) j ≡ Some x → (k : ℕ) × (slice_get xs k ≡ Some x) × (length (filter t (take k xs)) ≡ j))
        → (k : ℕ) × (slice_get (y ∷ xs) k ≡ Some x) × (length (filter t (take k (y ∷ xs))) ≡ n)
    by true is zero g more = (0, g, refl)
    by true is (suc n) g more = let found = more n g in (suc found.0, found.1, ap (λ b. length (cond b (y ∷ filter t (take found.0 xs)) (filter t (take found.0 xs)))) is ∙ ap suc found.2)
    by false is n g more = let found = more n g in (suc found.0, found.1, ap (λ b. length (cond b (y ∷ filter t (take found.0 xs)) (filter t (take found.0 xs)))) is ∙ found.2)

-- those of lists that pass a test as wholes
flat-if : {A B : Type 0} (t : A → Bool) (f : A → List B) (xs : List A) → flat_map (λ x. if t x then f x else []) xs ≡ flat_map f (filter t xs)
flat-if t f [] = refl
flat-if t f (x ∷ xs) = by (t x) (flat-if t f xs)
  where
    by : (b : Bool) → flat_map (λ y. if t y then f y else []) xs ≡ flat_map f (filter t xs) → (if b then f x else []) ++ flat_map (λ y. if t y then f y else []) xs ≡ flat_map f (cond b (x ∷ filter t xs) (filter t xs))
    by true more = ap (λ r. f x ++ r) more
    by false more = more

-- lists of one length that are together as long as one of them are one
one-copy : {A B : Type 0} (f : A → List B) (xs : List A) (c : ℕ) (t : A) → 0 < c → ((x : A) → IsIn x xs → length (f x) ≡ c) → length (flat_map f xs) ≡ c → IsIn t xs → xs ≡ t ∷ []
one-copy f [] c t some each all h = absurd h
one-copy f (x ∷ []) c t some each all h = elim h [ inl is ↦ ap (λ y. y ∷ []) (sym is) | inr r ↦ absurd r ]
one-copy f (x ∷ y ∷ xs) c t some each all h =
    let long = each x (inl refl) in
    let more = each y (inr (inl refl)) in
    let left = length-append (f x) (f y ++ flat_map f xs) in
    let right = length-append (f y) (flat_map f xs) in
    absurd (omega (arith, some, long, more, all, left, right))

pairs-get : {A B : Type 0} (xs : List A) (ys : List B) (n : ℕ) (z : A × B) → slice_get (pairs xs ys) n ≡ Some z → (slice_get xs n ≡ Some z.0) × (slice_get ys n ≡ Some z.1)
pairs-get [] ys n z e = absurd cc
pairs-get (x ∷ xs) [] n z e = absurd cc
pairs-get (x ∷ xs) (y ∷ ys) zero z e = let is : (x, y) ≡ z = cc in (ap (λ q. Some q.0) is, ap (λ q. Some q.1) is)
pairs-get (x ∷ xs) (y ∷ ys) (suc n) z e = pairs-get xs ys n z e

next-get : {A : Type 0} (xs : List A) (n : ℕ) (z : A × A) → slice_get (with_next xs) n ≡ Some z → (slice_get xs n ≡ Some z.0) × (slice_get xs (suc n) ≡ Some z.1)
next-get [] n z e = absurd cc
next-get (x ∷ xs) n z e = let found = pairs-get (x ∷ xs) xs n z e in (found.0, found.1)

first-of-filter : {A : Type 0} (t : A → Bool) (xs : List A) (x : A) → filter t xs ≡ x ∷ [] → first t xs ≡ Some x
first-of-filter t [] x e = absurd cc
first-of-filter t (y ∷ xs) x e = by (t y) e (first-of-filter t xs x)
  where
    by : (b : Bool) → cond b (y ∷ filter t xs) (filter t xs) ≡ x ∷ [] → (filter t xs ≡ x ∷ [] → first t xs ≡ Some x) → (if b then Some y else first t xs) ≡ Some x
    by true g more = let is : y ≡ x = cc in ap (λ z. Some z) is
    by false g more = more g

names-length : (j k : ℕ) (os : List Operator) → length (operator_names j k os) ≡ length os
names-length j k [] = refl
names-length j k (Clamp t i ∷ os) = ap suc (names-length (j + 1) (k + 0) os)
names-length j k (Shift t a b ∷ os) = ap suc (names-length (j + 0) (k + 1) os)

pub named-linked : (all : List Linked) → map (λ (y : Name × Linked). y.1) (named_operators all) ≡ all
named-linked all =
    let names = operator_names 0 0 (map (λ (z : Linked). z.0.asked.operator) all) in
    let long : length names ≡ length all = names-length 0 0 (map (λ (z : Linked). z.0.asked.operator) all) ∙ length-map all (λ (z : Linked). z.0.asked.operator) in
    pairs-second names all (omega (arith, long))

-- ---- a written operator with its place

pub record IsLinked (p : Project) (a : Additions) (x : Path) (y : Name × Linked) (way : Way) (k : ℕ) : Type 0 where
  pub at : slice_get (on_way a.plan.operators way) k ≡ Some y.1.0
  pub path : y.1.0.path ≡ x
  pub s : Stretch
  pub found : first (is_stretch way x) a.chains ≡ Some s
  pub listed : IsIn s (stretches p a.plan)
  pub lies : s.path ≡ x
  pub way_is : way_of s.bit ≡ way
  pub operators : s.operators ≡ filter (λ (r : Standing). same_path r.path x) (on_way a.plan.operators way)
  pub alone : (u : Stretch) → IsIn u (stretches p a.plan) → u.path ≡ x → way_of u.bit ≡ way → u ≡ s
  pub reads : slice_get (links p a.chains s) (place_on (on_way a.plan.operators way) k x) ≡ Some y.1.1.0
  pub drives : slice_get (links p a.chains s) (suc (place_on (on_way a.plan.operators way) k x)) ≡ Some y.1.1.1
  pub named : instance_on p a way x (place_on (on_way a.plan.operators way) k x) ≡ y.0

module _ (p : Project) (a : Additions) (has : HasChains p a) (stand : (o : Standing) → IsIn o a.plan.operators → IsIn o.path (instances p)) (one_bit : HasOneBit p) (once : IsApart (instances p)) (ways : HasWaysApart p)
    (x : Path) (there : IsIn x (instances p)) where
  abbrev named : List (Name × Linked)
  named = named_operators (linked p a.chains x)

  abbrev nearby : List Stretch
  nearby = stretches_in a.chains x

  abbrev pairs_of : Stretch → List Linked
  pairs_of s = pairs s.operators (with_next (links p a.chains s))

  -- ---- one way with an operator in the instance

  module _ (way : Way) (j : ℕ) (o : Standing) (at : slice_get (on_way a.plan.operators way) j ≡ Some o) (path : o.path ≡ x) where
    abbrev here : List Standing
    here = on_way a.plan.operators way

    abbrev on : Standing → Bool
    on r = same_way (way_of r.asked.bit) way

    abbrev in_path : Standing → Bool
    in_path r = same_path r.path x

    abbrev of_way : Stretch → Bool
    of_way s = same_way (way_of s.bit) way

    abbrev pub its : Own p a has stand one_bit way j o
    its = own p a has stand one_bit way j o at

    abbrev t : Stretch
    t = its.s

    t-path : t.path ≡ x
    t-path = its.path_is ∙ path

    in-chains : (u : Stretch) → IsIn u nearby → IsIn u (stretches p a.plan) × (u.path ≡ x)
    in-chains u h = let found = of-filter (λ (s : Stretch). same_path s.path x) u a.chains h in (subst (λ l. IsIn u l) has.chains found.0, path-true u.path x found.1)

    operators-are : (u : Stretch) → IsIn u (stretches p a.plan) → u.path ≡ x → u.operators ≡ operators_there a.plan x u.bit
    operators-are u h is = (is-of p a.plan u h).0.operators ∙ ap (λ y. operators_there a.plan y u.bit) is

    way-operators : (u : Stretch) → IsIn u (stretches p a.plan) → u.path ≡ x → way_of u.bit ≡ way → u.operators ≡ filter in_path here
    way-operators u h is same =
        operators-are u h is
        ∙ (ap (λ v. filter (λ (r : Standing). same_path r.path x && same_way (way_of r.asked.bit) v) a.plan.operators) same
        ∙ sym (filter-both in_path on a.plan.operators))

    -- an operator of a stretch is of its way
    on-stretch : (u : Stretch) → IsIn u nearby → (r : Standing) → IsIn r u.operators → on r ≡ of_way u
    on-stretch u h r g =
        let known = in-chains u h in
        let found = of-filter (λ (q : Standing). same_path q.path x && same_way (way_of q.asked.bit) (way_of u.bit)) r a.plan.operators (subst (λ l. IsIn r l) (operators-are u known.0 known.1) g) in
        ap (λ v. same_way v way) (way-true (way_of r.asked.bit) (way_of u.bit) (other (same_path r.path x) _ found.1))

    whole : {B : Type 0} (f : Stretch → List B) (test : B → Bool) (u : Stretch) → ((z : B) → IsIn z (f u) → test z ≡ of_way u) → filter test (f u) ≡ (if of_way u then f u else [])
    whole f test u same = by (of_way u) refl
      where
        by : (b : Bool) → of_way u ≡ b → filter test (f u) ≡ (if b then f u else [])
        by true is = filter-all test (f u) (λ z h. same z h ∙ is)
        by false is = filter-none test (f u) (λ z h. same z h ∙ is)

    its-bit : same_way (way_of t.bit) way ≡ true
    its-bit = ap (same_way (way_of t.bit)) (sym its.way_is) ∙ way-self t.bit.path t.bit.port.name t.bit.index

    kept-operators : filter on (flat_map operators_of nearby) ≡ filter in_path here
    kept-operators =
        ap (λ c. filter on (flat_map operators_of (stretches_in c x))) has.chains
        ∙ (ap (filter on) (in-instance p a.plan x once there)
        ∙ of-way p a.plan x way t.bit ways (is-of p a.plan t its.listed).0.bit its-bit)

    together : flat_map operators_of (filter of_way nearby) ≡ filter in_path here
    together =
        sym (filter-flat on operators_of nearby
        ∙ (flat-same (λ u. filter on (operators_of u)) (λ u. if of_way u then operators_of u else []) nearby (λ u h. whole operators_of on u (on-stretch u h))
        ∙ flat-if of_way operators_of nearby))
        ∙ kept-operators

    t-near : IsIn t nearby
    t-near = in-filter (λ (s : Stretch). same_path s.path x) a.chains t (subst (λ l. IsIn t l) (sym has.chains) its.listed) (ap (λ y. same_path y x) t-path ∙ path-self x)

    only-stretch : filter of_way nearby ≡ t ∷ []
    only-stretch =
        let low = its.low in
        let t-long : length t.operators ≡ length (filter in_path here) = ap length (way-operators t its.listed t-path its.way_is) in
        one-copy operators_of (filter of_way nearby) (length (filter in_path here)) t (omega (arith, low, t-long))
        (λ u h.
        let found = of-filter of_way u nearby h in
        let known = in-chains u found.0 in
        ap length (way-operators u known.0 known.1 (way-true (way_of u.bit) way found.1)))
        (ap length together) (in-filter of_way nearby t t-near its-bit)

    kept-linked : filter (λ (z : Linked). on z.0) (linked p a.chains x) ≡ pairs_of t
    kept-linked =
        filter-flat (λ (z : Linked). on z.0) pairs_of nearby
        ∙ (flat-same (λ u. filter (λ (z : Linked). on z.0) (pairs_of u)) (λ u. if of_way u then pairs_of u else []) nearby
        (λ u h. whole pairs_of (λ (z : Linked). on z.0) u (λ z g. on-stretch u h z.0 (of-pairs z u.operators (with_next (links p a.chains u)) g).0))
        ∙ (flat-if of_way pairs_of nearby
        ∙ (ap (flat_map pairs_of) only-stretch
        ∙ none-more (pairs_of t))))

    -- no other stretch of the way is in the instance
    pub stretch-alone : (u : Stretch) → IsIn u (stretches p a.plan) → u.path ≡ x → way_of u.bit ≡ way → u ≡ t
    stretch-alone u h lies same =
        let near : IsIn u nearby = in-filter (λ (s : Stretch). same_path s.path x) a.chains u (subst (λ l. IsIn u l) (sym has.chains) h) (ap (λ y. same_path y x) lies ∙ path-self x) in
        let one_way : same_way (way_of u.bit) way ≡ true = ap (λ v. same_way v way) (same ∙ sym its.way_is) ∙ its-bit in
        elim (subst (λ l. IsIn u l) only-stretch (in-filter of_way nearby u near one_way)) [ inl is ↦ is | inr none ↦ absurd none ]

    found-stretch : first (is_stretch way x) a.chains ≡ Some t
    found-stretch = ap (λ y. first (is_stretch way y) a.chains) (sym path) ∙ (ap (first (is_stretch way o.path)) has.chains ∙ its.found)

    abbrev kept_named : List (Name × Linked)
    kept_named = filter (λ (y : Name × Linked). on y.1.0) named

    named-pairs : map (λ (y : Name × Linked). y.1) kept_named ≡ pairs_of t
    named-pairs =
        map-filter (λ (y : Name × Linked). y.1) (λ (z : Linked). on z.0) named
        ∙ (ap (filter (λ (z : Linked). on z.0)) (named-linked (linked p a.chains x))
        ∙ kept-linked)

    -- one of the way at its place
    at-index : (y : Name × Linked) (k : ℕ) → slice_get here k ≡ Some y.1.0 → y.1.0.path ≡ x → slice_get kept_named (place_on here k x) ≡ Some y → IsLinked p a x y way k
    at-index y k is lies e =
        let pair : slice_get (pairs_of t) (place_on here k x) ≡ Some y.1 = ap (λ l. slice_get l (place_on here k x)) (sym named-pairs) ∙ map-at (λ (q : Name × Linked). q.1) kept_named (place_on here k x) y e in
        let two = pairs-get t.operators (with_next (links p a.chains t)) (place_on here k x) y.1 pair in
        let next = next-get (links p a.chains t) (place_on here k x) y.1.1 two.1 in
        record {
          at = is;
          path = lies;
          s = t;
          found = found-stretch;
          listed = its.listed;
          lies = t-path;
          way_is = its.way_is;
          operators = way-operators t its.listed t-path its.way_is;
          alone = stretch-alone;
          reads = next.0;
          drives = next.1;
          named = ap (λ r. unwrap_or (option_and_then (λ (q : Name × Linked). Some q.0) r) []) e;
        }
      where
        map-at : {A B : Type 0} (f : A → B) (xs : List A) (n : ℕ) (z : A) → slice_get xs n ≡ Some z → slice_get (map f xs) n ≡ Some (f z)
        map-at f [] n z g = absurd cc
        map-at f (v ∷ xs) zero z g = let same : v ≡ z = cc in ap (λ u. Some (f u)) same
        map-at f (v ∷ xs) (suc n) z g = map-at f xs n z g

    map-operators : map (λ (z : Linked). z.0) (pairs_of t) ≡ filter in_path here
    map-operators =
        ap (map (λ (z : Linked). z.0)) (sym kept-linked)
        ∙ (map-filter (λ (z : Linked). z.0) on (linked p a.chains x)
        ∙ (ap (filter on) (ap (λ c. map (λ (z : Linked). z.0) (linked p c x)) has.chains ∙ (linked-operators p a.plan x ∙ ap (λ c. flat_map operators_of (stretches_in c x)) (sym has.chains)))
        ∙ kept-operators))

    -- each operator of the way that stands there is written
    pub written-for : (y : Name × Linked) × IsIn y named × (y.1.0 ≡ o) × IsLinked p a x y way j
    written-for =
        let picked : slice_get (map (λ (z : Linked). z.0) (map (λ (y : Name × Linked). y.1) kept_named)) (place_on here j x) ≡ Some o =
        ap (λ l. slice_get (map (λ (z : Linked). z.0) l) (place_on here j x)) named-pairs
        ∙ (ap (λ l. slice_get l (place_on here j x)) map-operators
        ∙ pick in_path here j o at (ap (λ y. same_path y x) path ∙ path-self x)) in
        let pair = of-map-get (λ (z : Linked). z.0) (map (λ (y : Name × Linked). y.1) kept_named) (place_on here j x) o picked in
        let found = of-map-get (λ (y : Name × Linked). y.1) kept_named (place_on here j x) pair.0 pair.1 in
        let standing : found.0.1.0 ≡ o = ap (λ (z : Linked). z.0) found.2 ∙ pair.2 in (
          found.0,
          (of-filter (λ (y : Name × Linked). on y.1.0) found.0 named (in-slice kept_named (place_on here j x) found.0 found.1)).0,
          standing,
          at-index found.0 j (at ∙ ap (λ r. Some r) (sym standing)) (ap (λ (r : Standing). r.path) standing ∙ path) found.1,
        )
      where
        in-slice : {A : Type 0} (xs : List A) (i : ℕ) (z : A) → slice_get xs i ≡ Some z → IsIn z xs
        in-slice [] i z g = absurd cc
        in-slice (v ∷ xs) zero z g = let is : v ≡ z = cc in inl (sym is)
        in-slice (v ∷ xs) (suc i) z g = inr (in-slice xs i z g)

  -- ---- each that is written

  module _ (y : Name × Linked) (h : IsIn y named) where
    abbrev o : Standing
    o = y.1.0

    abbrev its_way : Way
    its_way = way_of o.asked.bit

    pub planned : IsIn o a.plan.operators × (o.path ≡ x)
    planned =
        let pair = of-pairs y (operator_names 0 0 (map (λ (z : Linked). z.0.asked.operator) (linked p a.chains x))) (linked p a.chains x) h in
        let stretch = of-flat pairs_of y.1 nearby pair.1 in
        let kept = of-filter (λ (s : Stretch). same_path s.path x) stretch.0 a.chains stretch.1 in
        let standing = of-pairs y.1 stretch.0.operators (with_next (links p a.chains stretch.0)) stretch.2 in
        let found = of-filter (λ (r : Standing). same_path r.path stretch.0.path && same_way (way_of r.asked.bit) (way_of stretch.0.bit)) o a.plan.operators
        (subst (λ l. IsIn o l) (is-of p a.plan stretch.0 (subst (λ l. IsIn stretch.0 l) has.chains kept.0)).0.operators standing.0) in
        (found.0, path-true o.path stretch.0.path (one (same_path o.path stretch.0.path) _ found.1) ∙ path-true stretch.0.path x kept.1)

    self-way : same_way its_way its_way ≡ true
    self-way = way-self o.asked.bit.path o.asked.bit.port.name o.asked.bit.index

    on-its : IsIn o (on_way a.plan.operators its_way)
    on-its = in-filter (λ (r : Standing). same_way (way_of r.asked.bit) its_way) a.plan.operators o planned.0 self-way

    -- it has its place on its way
    pub is-linked : (k : ℕ) × IsLinked p a x y its_way k
    is-linked =
        let some = index-of (on_way a.plan.operators its_way) o on-its in
        let kept = kept_named its_way some.0 o some.1 planned.1 in
        let place = index-of kept y (in-filter (λ (z : Name × Linked). same_way (way_of z.1.0.asked.bit) its_way) named y h self-way) in
        let found = operator-at its_way some.0 o some.1 planned.1 place.0 place.1 in
        (found.0, at-index its_way some.0 o some.1 planned.1 y found.0 found.1 planned.1 (ap (slice_get kept) found.2 ∙ place.1))
      where
        map-at : {A B : Type 0} (f : A → B) (xs : List A) (n : ℕ) (z : A) → slice_get xs n ≡ Some z → slice_get (map f xs) n ≡ Some (f z)
        map-at f [] n z g = absurd cc
        map-at f (v ∷ xs) zero z g = let same : v ≡ z = cc in ap (λ u. Some (f u)) same
        map-at f (v ∷ xs) (suc n) z g = map-at f xs n z g

        operator-at : (way : Way) (j : ℕ) (r : Standing) (at : slice_get (on_way a.plan.operators way) j ≡ Some r) (path : r.path ≡ x) (n : ℕ) → slice_get (kept_named way j r at path) n ≡ Some y
            → (k : ℕ) × (slice_get (on_way a.plan.operators way) k ≡ Some o) × (place_on (on_way a.plan.operators way) k x ≡ n)
        operator-at way j r at path n e =
            unpick (λ (q : Standing). same_path q.path x) (on_way a.plan.operators way) n o
            (ap (λ l. slice_get l n) (sym (map-operators way j r at path))
            ∙ map-at (λ (z : Linked). z.0) (pairs_of (its way j r at path).s) n y.1
            (ap (λ l. slice_get l n) (sym (named-pairs way j r at path)) ∙ map-at (λ (q : Name × Linked). q.1) (kept_named way j r at path) n y e))
