-- What each part of a control route comes from is there, and each control comes to where it is read.
use Rattle.std.proofs.Common.{◌≡◌, ◌⊎◌, Bool, true, false, cond, not, ◌&&◌, ◌||◌, List, [], ◌∷◌, ◌++◌, length, inl, inr, refl, sym, ap, ◌∙◌, subst, arith}
use Rattle.std.proofs.lemmas.Bool.{true≢false, false≢true}
use Rattle.lp_spec_design.specs.Keys.{Path, same_path, Node, Inner, Outer, Fixed, same_node}
use Rattle.lp_spec_design.specs.Reads.{one, other, both, path-true, path-self, node-true, node-self}
use Rattle.lp_spec_design.specs.Winners.{IsIn}
use Rattle.lp_spec_design.specs.Registers.{is_above}
use Rattle.lp_spec_written.specs.Supplies.{common}
use Rattle.lp_spec_written.specs.Routes.{Route, Kind, PortOut, Between, PortIn, same_part_kind, Part, same_part, has_part, up_to, parts_at, crossing_wire, parts_by, parts_to, parts_of, new_among, parts_after}
use Rattle.lp_spec_hub.specs.Drives.{is_fixed, own_instance, toward, part_at}
use Rattle.lp_spec_hub.specs.Entries.{is_control, carries, ComesDown, IsRouted}
use Rattle.lp_spec_hub.proofs.Paths.{not-same, above-self, above-step, above-parent, above-less, above-length, above-both, top-above, step-to, common-left, common-right, is_among, up-to, UpTo, up-from}

-- ---- tests

pub or-left : (a b : Bool) → a ≡ true → (a || b) ≡ true
or-left a b e = ap (λ c. c || b) e

pub or-right : (a b : Bool) → b ≡ true → (a || b) ≡ true
or-right true b e = refl
or-right false b e = e

pub or-either : (a b : Bool) → (a || b) ≡ true → (a ≡ true) ⊎ (b ≡ true)
or-either true b e = inl refl
or-either false b e = inr e

kind-true : (a b : Kind) → same_part_kind a b ≡ true → a ≡ b
kind-true PortOut PortOut e = refl
kind-true PortOut Between e = absurd (false≢true e)
kind-true PortOut PortIn e = absurd (false≢true e)
kind-true Between PortOut e = absurd (false≢true e)
kind-true Between Between e = refl
kind-true Between PortIn e = absurd (false≢true e)
kind-true PortIn PortOut e = absurd (false≢true e)
kind-true PortIn Between e = absurd (false≢true e)
kind-true PortIn PortIn e = refl

kind-self : (a : Kind) → same_part_kind a a ≡ true
kind-self PortOut = refl
kind-self Between = refl
kind-self PortIn = refl

part-true : (s t : Part) → same_part s t ≡ true → s ≡ t
part-true s t e =
    let kinds = kind-true s.kind t.kind (one (same_part_kind s.kind t.kind) (same_path s.path t.path && same_node s.control t.control) e) in
    let rest = other (same_part_kind s.kind t.kind) (same_path s.path t.path && same_node s.control t.control) e in
    let paths = path-true s.path t.path (one (same_path s.path t.path) (same_node s.control t.control) rest) in
    let controls = node-true s.control t.control (other (same_path s.path t.path) (same_node s.control t.control) rest) in
    λ i. record { control = controls i; path = paths i; kind = kinds i }

part-self : (t : Part) → same_part t t ≡ true
part-self t = both (same_part_kind t.kind t.kind) (same_path t.path t.path && same_node t.control t.control) (kind-self t.kind) (both (same_path t.path t.path) (same_node t.control t.control) (path-self t.path) (node-self t.control))

-- ---- lists of parts

has-append : (xs ys : List Part) (t : Part) → has_part (xs ++ ys) t ≡ (has_part xs t || has_part ys t)
has-append [] ys t = refl
has-append (x ∷ xs) ys t = ap (λ b. same_part t x || b) (has-append xs ys t) ∙ shift (same_part t x) (has_part xs t) (has_part ys t)
  where
    shift : (a b c : Bool) → (a || (b || c)) ≡ ((a || b) || c)
    shift true b c = refl
    shift false b c = refl

-- what is new with what is made is all
of-new : (made xs : List Part) (t : Part) → has_part (new_among made xs) t ≡ true → has_part xs t ≡ true
of-new made [] t h = h
of-new made (x ∷ xs) t h = by (not (has_part made x)) h (of-new made xs t)
  where
    by : (b : Bool) → has_part (cond b (x ∷ new_among made xs) (new_among made xs)) t ≡ true → (has_part (new_among made xs) t ≡ true → has_part xs t ≡ true) → (same_part t x || has_part xs t) ≡ true
    by true h more = elim (or-either (same_part t x) (has_part (new_among made xs) t) h) [ inl is ↦ or-left (same_part t x) (has_part xs t) is | inr rest ↦ or-right (same_part t x) (has_part xs t) (more rest) ]
    by false h more = or-right (same_part t x) (has_part xs t) (more h)

to-new : (made xs : List Part) (t : Part) → has_part made t ≡ false → has_part xs t ≡ true → has_part (new_among made xs) t ≡ true
to-new made [] t out h = h
to-new made (x ∷ xs) t out h = by (has_part made x) refl (or-either (same_part t x) (has_part xs t) h) (to-new made xs t out)
  where
    by : (b : Bool) → has_part made x ≡ b → (same_part t x ≡ true) ⊎ (has_part xs t ≡ true) → (has_part xs t ≡ true → has_part (new_among made xs) t ≡ true) → has_part (cond (not b) (x ∷ new_among made xs) (new_among made xs)) t ≡ true
    by true is (inl same) more = absurd (true≢false (sym is ∙ (ap (has_part made) (sym (part-true t x same)) ∙ out)))
    by true is (inr rest) more = more rest
    by false is (inl same) more = or-left (same_part t x) (has_part (new_among made xs) t) same
    by false is (inr rest) more = or-right (same_part t x) (has_part (new_among made xs) t) (more rest)

abbrev after : List Part → List Part → List Part
after made xs = made ++ new_among made xs

pub after-made : (made xs : List Part) (t : Part) → has_part made t ≡ true → has_part (after made xs) t ≡ true
after-made made xs t h = has-append made (new_among made xs) t ∙ or-left (has_part made t) (has_part (new_among made xs) t) h

after-new : (made xs : List Part) (t : Part) → has_part xs t ≡ true → has_part (after made xs) t ≡ true
after-new made xs t h = by (has_part made t) refl
  where
    by : (b : Bool) → has_part made t ≡ b → has_part (after made xs) t ≡ true
    by true is = after-made made xs t is
    by false is = has-append made (new_among made xs) t ∙ or-right (has_part made t) (has_part (new_among made xs) t) (to-new made xs t is h)

pub after-either : (made xs : List Part) (t : Part) → has_part (after made xs) t ≡ true → (has_part made t ≡ true) ⊎ (has_part xs t ≡ true)
after-either made xs t h = elim (or-either (has_part made t) (has_part (new_among made xs) t) (sym (has-append made (new_among made xs) t) ∙ h)) [ inl old ↦ inl old | inr new ↦ inr (of-new made xs t new) ]

-- the parts of one kind at some instances
pub record PartAt (k : Node) (kind : Kind) (paths : List Path) (t : Part) : Type 0 where
  pub control : t.control ≡ k
  pub kinds : t.kind ≡ kind
  pub among : is_among t.path paths ≡ true

of-at : (k : Node) (kind : Kind) (paths : List Path) (t : Part) → has_part (parts_at k kind paths) t ≡ true → PartAt k kind paths t
of-at k kind [] t h = absurd (false≢true h)
of-at k kind (x ∷ paths) t h = elim (or-either (same_part t (part_at k x kind)) (has_part (parts_at k kind paths) t) h) [ inl is ↦ here (part-true t (part_at k x kind) is) | inr rest ↦ later (of-at k kind paths t rest) ]
  where
    here : t ≡ part_at k x kind → PartAt k kind (x ∷ paths) t
    here is = record { control = ap (λ (s : Part). s.control) is; kinds = ap (λ (s : Part). s.kind) is; among = or-left (same_path t.path x) (is_among t.path paths) (ap (λ (s : Part). same_path s.path x) is ∙ path-self x) }

    later : PartAt k kind paths t → PartAt k kind (x ∷ paths) t
    later found = record { control = found.control; kinds = found.kinds; among = or-right (same_path t.path x) (is_among t.path paths) found.among }

at-has : (k : Node) (kind : Kind) (paths : List Path) (y : Path) → is_among y paths ≡ true → has_part (parts_at k kind paths) (part_at k y kind) ≡ true
at-has k kind [] y h = absurd (false≢true h)
at-has k kind (x ∷ paths) y h = elim (or-either (same_path y x) (is_among y paths) h) [
  | inl is ↦ or-left (same_part (part_at k y kind) (part_at k x kind)) (has_part (parts_at k kind paths) (part_at k y kind)) (ap (λ z. same_part (part_at k y kind) (part_at k z kind)) (sym (path-true y x is)) ∙ part-self (part_at k y kind))
  | inr rest ↦ or-right (same_part (part_at k y kind) (part_at k x kind)) (has_part (parts_at k kind paths) (part_at k y kind)) (at-has k kind paths y rest)
]

-- ---- a control that has come stays

carries-more : (made xs : List Part) (k : Node) (x : Path) → carries made k x ≡ true → carries (after made xs) k x ≡ true
carries-more made xs k x h = elim (or-either (is_fixed k || same_path (own_instance k) x) (has_part made (part_at k x Between) || (has_part made (part_at k x PortOut) || has_part made (part_at k x PortIn))) h) [
  | inl own ↦ or-left (is_fixed k || same_path (own_instance k) x) (has_part (after made xs) (part_at k x Between) || (has_part (after made xs) (part_at k x PortOut) || has_part (after made xs) (part_at k x PortIn))) own
  | inr part ↦ or-right (is_fixed k || same_path (own_instance k) x) (has_part (after made xs) (part_at k x Between) || (has_part (after made xs) (part_at k x PortOut) || has_part (after made xs) (part_at k x PortIn))) (by-part part)
]
  where
    last : (has_part made (part_at k x PortOut) || has_part made (part_at k x PortIn)) ≡ true → (has_part (after made xs) (part_at k x PortOut) || has_part (after made xs) (part_at k x PortIn)) ≡ true
    last h = elim (or-either (has_part made (part_at k x PortOut)) (has_part made (part_at k x PortIn)) h) [
      | inl out ↦ or-left (has_part (after made xs) (part_at k x PortOut)) (has_part (after made xs) (part_at k x PortIn)) (after-made made xs (part_at k x PortOut) out)
      | inr inward ↦ or-right (has_part (after made xs) (part_at k x PortOut)) (has_part (after made xs) (part_at k x PortIn)) (after-made made xs (part_at k x PortIn) inward)
    ]

    by-part : (has_part made (part_at k x Between) || (has_part made (part_at k x PortOut) || has_part made (part_at k x PortIn))) ≡ true → (has_part (after made xs) (part_at k x Between) || (has_part (after made xs) (part_at k x PortOut) || has_part (after made xs) (part_at k x PortIn))) ≡ true
    by-part h = elim (or-either (has_part made (part_at k x Between)) (has_part made (part_at k x PortOut) || has_part made (part_at k x PortIn)) h) [
      | inl wire ↦ or-left (has_part (after made xs) (part_at k x Between)) (has_part (after made xs) (part_at k x PortOut) || has_part (after made xs) (part_at k x PortIn)) (after-made made xs (part_at k x Between) wire)
      | inr rest ↦ or-right (has_part (after made xs) (part_at k x Between)) (has_part (after made xs) (part_at k x PortOut) || has_part (after made xs) (part_at k x PortIn)) (last rest)
    ]

carries-by : (made : List Part) (k : Node) (x : Path) (kind : Kind) → has_part made (part_at k x kind) ≡ true → carries made k x ≡ true
carries-by made k x kind h = or-right (is_fixed k || same_path (own_instance k) x) (has_part made (part_at k x Between) || (has_part made (part_at k x PortOut) || has_part made (part_at k x PortIn))) (by kind h)
  where
    by : (kind : Kind) → has_part made (part_at k x kind) ≡ true → (has_part made (part_at k x Between) || (has_part made (part_at k x PortOut) || has_part made (part_at k x PortIn))) ≡ true
    by Between h = or-left (has_part made (part_at k x Between)) (has_part made (part_at k x PortOut) || has_part made (part_at k x PortIn)) h
    by PortOut h = or-right (has_part made (part_at k x Between)) (has_part made (part_at k x PortOut) || has_part made (part_at k x PortIn)) (or-left (has_part made (part_at k x PortOut)) (has_part made (part_at k x PortIn)) h)
    by PortIn h = or-right (has_part made (part_at k x Between)) (has_part made (part_at k x PortOut) || has_part made (part_at k x PortIn)) (or-right (has_part made (part_at k x PortOut)) (has_part made (part_at k x PortIn)) h)

carries-own : (made : List Part) (k : Node) (x : Path) → same_path (own_instance k) x ≡ true → carries made k x ≡ true
carries-own made k x h = or-left (is_fixed k || same_path (own_instance k) x) (has_part made (part_at k x Between) || (has_part made (part_at k x PortOut) || has_part made (part_at k x PortIn))) (or-right (is_fixed k) (same_path (own_instance k) x) h)

-- ---- one route

-- a part of a route goes up, is the wire at the common instance, or goes down
pub data Led (made : List Part) (k : Node) (own c x : Path) (t : Part) : Type 0 where
  Up : PartAt k PortOut (up_to own c) t → Led made k own c x t
  Across : PartAt k Between (c ∷ []) t → same_path own c ≡ false → has_part made (part_at k c PortOut) ≡ false → Led made k own c x t
  Down : PartAt k PortIn (up_to x c) t → Led made k own c x t

of-wire : (made : List Part) (k : Node) (own c x : Path) (t : Part) → has_part (crossing_wire made k own c) t ≡ true → Led made k own c x t
of-wire made k own c x t h = by (same_path own c) (has_part made (part_at k c PortOut)) refl refl h
  where
    by : (a b : Bool) → same_path own c ≡ a → has_part made (part_at k c PortOut) ≡ b → has_part (cond (a || b) [] (parts_at k Between (c ∷ []))) t ≡ true → Led made k own c x t
    by true b own made h = absurd (false≢true h)
    by false true own made h = absurd (false≢true h)
    by false false own made h = Across (of-at k Between (c ∷ []) t h) own made

of-parts : (made : List Part) (k : Node) (own c x : Path) (t : Part) → has_part (parts_by made k own c x) t ≡ true → Led made k own c x t
of-parts made k own c x t h = elim (or-either (has_part (parts_at k PortOut (up_to own c)) t) (has_part (crossing_wire made k own c ++ parts_at k PortIn (up_to x c)) t) (sym (has-append (parts_at k PortOut (up_to own c)) (crossing_wire made k own c ++ parts_at k PortIn (up_to x c)) t) ∙ h)) [
  | inl up ↦ Up (of-at k PortOut (up_to own c) t up)
  | inr rest ↦ later (or-either (has_part (crossing_wire made k own c) t) (has_part (parts_at k PortIn (up_to x c)) t) (sym (has-append (crossing_wire made k own c) (parts_at k PortIn (up_to x c)) t) ∙ rest))
]
  where
    later : (has_part (crossing_wire made k own c) t ≡ true) ⊎ (has_part (parts_at k PortIn (up_to x c)) t ≡ true) → Led made k own c x t
    later (inl wire) = of-wire made k own c x t wire
    later (inr down) = Down (of-at k PortIn (up_to x c) t down)

module _ (made : List Part) (sound : IsRouted made) (k : Node) (x : Path) where
  abbrev own : Path
  own = own_instance k

  abbrev meeting : Path
  meeting = common own x

  abbrev route : List Part
  route = parts_by made k own meeting x

  has-up : (y : Path) → is_among y (up_to own meeting) ≡ true → has_part route (part_at k y PortOut) ≡ true
  has-up y h = has-append (parts_at k PortOut (up_to own meeting)) (crossing_wire made k own meeting ++ parts_at k PortIn (up_to x meeting)) (part_at k y PortOut) ∙ or-left (has_part (parts_at k PortOut (up_to own meeting)) (part_at k y PortOut)) (has_part (crossing_wire made k own meeting ++ parts_at k PortIn (up_to x meeting)) (part_at k y PortOut)) (at-has k PortOut (up_to own meeting) y h)

  has-rest : (t : Part) → (has_part (crossing_wire made k own meeting) t || has_part (parts_at k PortIn (up_to x meeting)) t) ≡ true → has_part route t ≡ true
  has-rest t h = has-append (parts_at k PortOut (up_to own meeting)) (crossing_wire made k own meeting ++ parts_at k PortIn (up_to x meeting)) t ∙ or-right (has_part (parts_at k PortOut (up_to own meeting)) t) (has_part (crossing_wire made k own meeting ++ parts_at k PortIn (up_to x meeting)) t) (has-append (crossing_wire made k own meeting) (parts_at k PortIn (up_to x meeting)) t ∙ h)

  has-down : (y : Path) → is_among y (up_to x meeting) ≡ true → has_part route (part_at k y PortIn) ≡ true
  has-down y h = has-rest (part_at k y PortIn) (or-right (has_part (crossing_wire made k own meeting) (part_at k y PortIn)) (has_part (parts_at k PortIn (up_to x meeting)) (part_at k y PortIn)) (at-has k PortIn (up_to x meeting) y h))

  has-wire : same_path own meeting ≡ false → has_part made (part_at k meeting PortOut) ≡ false → has_part route (part_at k meeting Between) ≡ true
  has-wire other out = has-rest (part_at k meeting Between) (or-left (has_part (crossing_wire made k own meeting) (part_at k meeting Between)) (has_part (parts_at k PortIn (up_to x meeting)) (part_at k meeting Between)) (ap (λ b. has_part (cond b [] (parts_at k Between (meeting ∷ []))) (part_at k meeting Between)) (ap (λ a. a || has_part made (part_at k meeting PortOut)) other ∙ out) ∙ or-left (same_part (part_at k meeting Between) (part_at k meeting Between)) false (part-self (part_at k meeting Between))))

  -- the control comes to the common instance
  at-meeting : carries (after made route) k meeting ≡ true
  at-meeting = by (same_path own meeting) (has_part made (part_at k meeting PortOut)) refl refl
    where
      by : (a b : Bool) → same_path own meeting ≡ a → has_part made (part_at k meeting PortOut) ≡ b → carries (after made route) k meeting ≡ true
      by true b is has = carries-own (after made route) k meeting is
      by false true is has = carries-by (after made route) k meeting PortOut (after-made made route (part_at k meeting PortOut) has)
      by false false is has = carries-by (after made route) k meeting Between (after-new made route (part_at k meeting Between) (has-wire is has))

  -- and to each instance on the way down
  on-the-way : (y : Path) → is_above y x ≡ true → is_above meeting y ≡ true → carries (after made route) k y ≡ true
  on-the-way y over under = by (same_path meeting y) refl
    where
      by : (b : Bool) → same_path meeting y ≡ b → carries (after made route) k y ≡ true
      by true is = subst (λ z. carries (after made route) k z ≡ true) (path-true meeting y is) at-meeting
      by false is = carries-by (after made route) k y PortIn (after-new made route (part_at k y PortIn) (has-down y (up-to x meeting y (common-right own x) over under (not-same meeting y is))))

  pub comes-to : carries (after made route) k x ≡ true
  comes-to = on-the-way x (above-self x) (common-right own x)

  -- a port of the instance on the way to the control
  next-up : (y : Path) → is_above meeting y ≡ true → is_above y own ≡ true → (y ≡ own → ⊥) → has_part (after made route) (part_at k (toward own y) PortOut) ≡ true
  next-up y under over differ =
      let step = step-to y own over differ in
      subst (λ z. has_part (after made route) (part_at k z PortOut) ≡ true) (sym step.is)
      (after-new made route (part_at k (step.name ∷ y) PortOut)
      (has-up (step.name ∷ y) (up-to own meeting (step.name ∷ y) (common-left own x) step.above (above-step meeting step.name y under)
      (λ same. let short = above-length meeting y under in absurd (omega (arith, short, ap length same))))))

  new-down : (y : Path) → UpTo x meeting y → ComesDown (after made route) k y
  new-down [] h = absurd (h.strictly (above-both [] meeting (top-above meeting) h.under))
  new-down (i ∷ y) h = record { name = i; parent = y; is = refl; above = on-the-way y (above-parent y i x h.over) (above-less meeting i y h.under h.strictly) }

  old-down : (j : Node) (y : Path) → ComesDown made j y → ComesDown (after made route) j y
  old-down j y h = record { name = h.name; parent = h.parent; is = h.is; above = carries-more made route j h.parent h.above }

  -- ---- what is new of each kind

  pub of-out : (j : Node) (y : Path) → has_part route (part_at j y PortOut) ≡ true → (j ≡ k) × UpTo own meeting y
  of-out j y h = by (of-parts made k own meeting x (part_at j y PortOut) h)
    where
      by : Led made k own meeting x (part_at j y PortOut) → (j ≡ k) × UpTo own meeting y
      by (Up found) = (found.control, up-from own meeting y (common-left own x) found.among)
      by (Across found differ out) = let wrong : PortOut ≡ Between = found.kinds in absurd cc
      by (Down found) = let wrong : PortOut ≡ PortIn = found.kinds in absurd cc

  pub of-between : (j : Node) (y : Path) → has_part route (part_at j y Between) ≡ true → (j ≡ k) × (y ≡ meeting) × (same_path own meeting ≡ false) × (has_part made (part_at k meeting PortOut) ≡ false)
  of-between j y h = by (of-parts made k own meeting x (part_at j y Between) h)
    where
      single : is_among y (meeting ∷ []) ≡ true → y ≡ meeting
      single h = elim (or-either (same_path y meeting) false h) [ inl is ↦ path-true y meeting is | inr none ↦ absurd (false≢true none) ]

      by : Led made k own meeting x (part_at j y Between) → (j ≡ k) × (y ≡ meeting) × (same_path own meeting ≡ false) × (has_part made (part_at k meeting PortOut) ≡ false)
      by (Up found) = let wrong : Between ≡ PortOut = found.kinds in absurd cc
      by (Across found differ out) = (found.control, single found.among, differ, out)
      by (Down found) = let wrong : Between ≡ PortIn = found.kinds in absurd cc

  pub of-in : (j : Node) (y : Path) → has_part route (part_at j y PortIn) ≡ true → (j ≡ k) × UpTo x meeting y
  of-in j y h = by (of-parts made k own meeting x (part_at j y PortIn) h)
    where
      by : Led made k own meeting x (part_at j y PortIn) → (j ≡ k) × UpTo x meeting y
      by (Up found) = let wrong : PortIn ≡ PortOut = found.kinds in absurd cc
      by (Across found differ out) = let wrong : PortIn ≡ Between = found.kinds in absurd cc
      by (Down found) = (found.control, up-from x meeting y (common-right own x) found.among)

  -- ---- all parts

  above-after : (j : Node) (y : Path) → has_part (after made route) (part_at j y PortOut) ≡ true → is_above y (own_instance j) ≡ true
  above-after j y h = elim (after-either made route (part_at j y PortOut) h) [
    | inl old ↦ sound.above j y old
    | inr new ↦ let found = of-out j y new in subst (λ z. is_above y (own_instance z) ≡ true) (sym found.0) found.1.over
  ]

  up-after : (j : Node) (y : Path) → has_part (after made route) (part_at j y PortOut) ≡ true → same_path (own_instance j) y ≡ false → has_part (after made route) (part_at j (toward (own_instance j) y) PortOut) ≡ true
  up-after j y h differ = elim (after-either made route (part_at j y PortOut) h) [
    | inl old ↦ after-made made route (part_at j (toward (own_instance j) y) PortOut) (sound.up j y old differ)
    | inr new ↦
        let found = of-out j y new in
        subst (λ z. has_part (after made route) (part_at z (toward (own_instance z) y) PortOut) ≡ true) (sym found.0)
        (next-up y found.1.under found.1.over (λ same. not-same (own_instance j) y differ (ap own_instance found.0 ∙ sym same)))
  ]

  wire-after : (j : Node) (y : Path) → has_part (after made route) (part_at j y Between) ≡ true → has_part (after made route) (part_at j (toward (own_instance j) y) PortOut) ≡ true
  wire-after j y h = elim (after-either made route (part_at j y Between) h) [
    | inl old ↦ after-made made route (part_at j (toward (own_instance j) y) PortOut) (sound.wire j y old)
    | inr new ↦
        let found = of-between j y new in
        subst (λ z. has_part (after made route) (part_at z (toward (own_instance z) y) PortOut) ≡ true) (sym found.0)
        (subst (λ z. has_part (after made route) (part_at k (toward own z) PortOut) ≡ true) (sym found.1)
        (next-up meeting (above-self meeting) (common-left own x) (λ same. not-same own meeting found.2 (sym same))))
  ]

  down-after : (j : Node) (y : Path) → has_part (after made route) (part_at j y PortIn) ≡ true → ComesDown (after made route) j y
  down-after j y h = elim (after-either made route (part_at j y PortIn) h) [
    | inl old ↦ old-down j y (sound.down j y old)
    | inr new ↦ let found = of-in j y new in subst (λ z. ComesDown (after made route) z y) (sym found.0) (new-down y found.1)
  ]

  pub route-sound : IsRouted (after made route)
  route-sound = record { above = above-after; up = up-after; wire = wire-after; down = down-after }

-- ---- all routes

pub none-sound : IsRouted []
none-sound = record {
  above = λ k x h. absurd (false≢true h);
  up = λ k x h differ. absurd (false≢true h);
  wire = λ k x h. absurd (false≢true h);
  down = λ k x h. absurd (false≢true h);
}

pub append-none : (xs : List Part) → xs ++ [] ≡ xs
append-none [] = refl
append-none (x ∷ xs) = ap (λ r. x ∷ r) (append-none xs)

one-sound : (made : List Part) (k : Node) (x : Path) → IsRouted made → IsRouted (after made (parts_to made x k))
one-sound made (Inner n i own) x sound = route-sound made sound (Inner n i own) x
one-sound made (Outer n i) x sound = subst IsRouted (sym (append-none made)) sound
one-sound made (Fixed b) x sound = subst IsRouted (sym (append-none made)) sound

one-comes : (made : List Part) (k : Node) (x : Path) → IsRouted made → is_control k ≡ true → carries (after made (parts_to made x k)) k x ≡ true
one-comes made (Inner n i own) x sound h = comes-to made sound (Inner n i own) x
one-comes made (Outer n i) x sound h = absurd (false≢true h)
one-comes made (Fixed b) x sound h = refl

pub routes-sound : (all : List Route) (made : List Part) → IsRouted made → IsRouted (parts_after made all)
routes-sound [] made sound = sound
routes-sound (r ∷ more) made sound = routes-sound more (after made (parts_of made r)) (one-sound made r.0 r.1 sound)

stays : (all : List Route) (made : List Part) (k : Node) (x : Path) → carries made k x ≡ true → carries (parts_after made all) k x ≡ true
stays [] made k x h = h
stays (r ∷ more) made k x h = stays more (after made (parts_of made r)) k x (carries-more made (parts_of made r) k x h)

pub routes-come : (all : List Route) (made : List Part) → IsRouted made → (r : Route) → IsIn r all → is_control r.0 ≡ true → carries (parts_after made all) r.0 r.1 ≡ true
routes-come [] made sound r h control = absurd h
routes-come (q ∷ more) made sound r (inl is) control =
    stays more (after made (parts_of made q)) r.0 r.1
    (subst (λ (s : Route). carries (after made (parts_of made s)) r.0 r.1 ≡ true) is (one-comes made r.0 r.1 sound control))
routes-come (q ∷ more) made sound r (inr h) control = routes-come more (after made (parts_of made q)) (one-sound made q.0 q.1 sound) r h control
