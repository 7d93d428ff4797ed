-- Each part of a control's route is of a net bit, has what it comes from, stands once, and stands above its control or above a reader.
use Rattle.std.proofs.Common.{◌≡◌, ◌⊎◌, ◌≤◌, ℕ, suc, Bool, true, false, not, ◌&&◌, ◌||◌, List, [], ◌∷◌, ◌++◌, length, Option, inl, inr, refl, sym, ap, ◌∙◌, subst, arith}
use Rattle.std.specs.Prelude.{filter, if◌then◌else◌}
use Rattle.std.proofs.lemmas.Bool.{true≢false, not-true}
use Rattle.lp_spec_design.specs.Keys.{Name, Path, same_path, Node, Inner, Outer, Fixed, same_node}
use Rattle.lp_spec_design.specs.Reads.{one, other, path-true, node-true}
use Rattle.lp_spec_design.specs.Registers.{is_above}
use Rattle.lp_spec_design.specs.Winners.{IsIn}
use Rattle.lp_spec_design.proofs.Members.{IsApart, in-either, of-map, of-filter, any-in}
use Rattle.lp_spec_realises.specs.Projects.{Project}
use Rattle.lp_spec_realises.specs.Implements.{Lists}
use Rattle.lp_spec_written.specs.Places.{plan}
use Rattle.lp_spec_written.specs.Supplies.{common}
use Rattle.lp_spec_written.specs.Routes.{Route, routes, Kind, PortOut, Between, PortIn, same_part_kind, Part, same_part, has_part, up_to, parts_at, crossing_wire, parts_by, parts_to, parts_of, new_among, parts_after, parts}
use Rattle.lp_spec_written.specs.Written.{additions}
use Rattle.lp_spec_hub.specs.Entries.{IsRouted, StandsAside}
use Rattle.lp_spec_hub.specs.Laws.{RoutesAreSound, PartsStandAside}
use Rattle.lp_spec_hub.proofs.Paths.{above-self, above-step}
use Rattle.lp_spec_wired.proofs.Controls.{kind-true}
use Rattle.lp_spec_written_at.proofs.Instances.{apart-append}
use Rattle.lp_spec_written_at.proofs.Weave.{apart-filter}
use Rattle.lp_spec_driven.specs.Sound.{HasRoutes}
use Rattle.lp_spec_driven.proofs.Parts.{part-self}
use Rattle.lp_spec_proper.specs.Laws.{AdditionsHaveRoutes}
use Rattle.lp_spec_proper.proofs.Plain.{at-most-one}

part-true : (s t : Part) → same_part s t ≡ true → s ≡ t
part-true s t e =
    let kinds = kind-true s.kind t.kind (one (same_part_kind s.kind t.kind) (same_path s.path t.path && same_node s.control t.control) e) in
    let rest = other (same_part_kind s.kind t.kind) (same_path s.path t.path && same_node s.control t.control) e in
    let paths = path-true s.path t.path (one (same_path s.path t.path) (same_node s.control t.control) rest) in
    let controls = node-true s.control t.control (other (same_path s.path t.path) (same_node s.control t.control) rest) in
    λ i. record { control = controls i; path = paths i; kind = kinds i }

-- ---- instances on the way up

-- what lies on the way up from an instance is that instance or one above it, and never the top
pub up-above : (x c y : Path) → IsIn y (up_to x c) → is_above y x ≡ true
up-above [] c y h = absurd h
up-above (i ∷ x) c y h = by (same_path (i ∷ x) c) h (λ g. up-above x c y g)
  where
    by : (b : Bool) → IsIn y (if b then [] else (i ∷ x) ∷ up_to x c) → (IsIn y (up_to x c) → is_above y x ≡ true) → is_above y (i ∷ x) ≡ true
    by true g more = absurd g
    by false (inl is) more = ap (λ z. is_above z (i ∷ x)) is ∙ above-self (i ∷ x)
    by false (inr g) more = above-step y i x (more g)

pub up-below : (x c y : Path) → IsIn y (up_to x c) → y ≡ [] → ⊥
up-below [] c y h e = h
up-below (i ∷ x) c y h e = by (same_path (i ∷ x) c) h (λ g. up-below x c y g e)
  where
    by : (b : Bool) → IsIn y (if b then [] else (i ∷ x) ∷ up_to x c) → (IsIn y (up_to x c) → ⊥) → ⊥
    by true g more = g
    by false (inl is) more = let wrong : i ∷ x ≡ [] = sym is ∙ e in absurd cc
    by false (inr g) more = more g

up-short : (x c y : Path) → IsIn y (up_to x c) → length y ≤ length x
up-short [] c y h = absurd h
up-short (i ∷ x) c y h = by (same_path (i ∷ x) c) h (λ g. up-short x c y g)
  where
    by : (b : Bool) → IsIn y (if b then [] else (i ∷ x) ∷ up_to x c) → (IsIn y (up_to x c) → length y ≤ length x) → length y ≤ suc (length x)
    by true g more = absurd g
    by false (inl is) more = let same : length y ≡ suc (length x) = ap length is in omega (arith, same)
    by false (inr g) more = let less = more g in omega (arith, less)

up-apart : (x c : Path) → IsApart (up_to x c)
up-apart [] c = tt
up-apart (i ∷ x) c = by (same_path (i ∷ x) c) (up-apart x c)
  where
    by : (b : Bool) → IsApart (up_to x c) → IsApart (if b then [] else (i ∷ x) ∷ up_to x c)
    by true more = tt
    by false more = (λ h. let less = up-short x c (i ∷ x) h in absurd (omega (arith, less)), more)

-- ---- parts of one route

at-is : (k : Node) (kind : Kind) (paths : List Path) (t : Part) → IsIn t (parts_at k kind paths) → (t.control ≡ k) × (t.kind ≡ kind) × IsIn t.path paths
at-is k kind paths t h =
    let x = of-map (λ x. record { control = k; path = x; kind = kind }) t paths h in
    (ap (λ (z : Part). z.control) x.2, ap (λ (z : Part). z.kind) x.2, subst (λ y. IsIn y paths) (sym (ap (λ (z : Part). z.path) x.2)) x.1)

at-apart : (k : Node) (kind : Kind) (paths : List Path) → IsApart paths → IsApart (parts_at k kind paths)
at-apart k kind [] apart = tt
at-apart k kind (x ∷ paths) apart = (λ h. apart.0 (at-is k kind paths (record { control = k; path = x; kind = kind }) h).2, at-apart k kind paths apart.1)

wire-is : (made : List Part) (k : Node) (own c : Path) (t : Part) → IsIn t (crossing_wire made k own c) → (t.control ≡ k) × (t.kind ≡ Between) × (t.path ≡ c)
wire-is made k own c t h = by (same_path own c || has_part made (record { control = k; path = c; kind = PortOut })) h
  where
    by : (b : Bool) → IsIn t (if b then [] else parts_at k Between (c ∷ [])) → (t.control ≡ k) × (t.kind ≡ Between) × (t.path ≡ c)
    by true g = absurd g
    by false g = let is = at-is k Between (c ∷ []) t g in (is.0, is.1, elim is.2 [ inl e ↦ e | inr none ↦ absurd none ])

wire-apart : (made : List Part) (k : Node) (own c : Path) → IsApart (crossing_wire made k own c)
wire-apart made k own c = by (same_path own c || has_part made (record { control = k; path = c; kind = PortOut }))
  where
    by : (b : Bool) → IsApart (if b then [] else parts_at k Between (c ∷ []))
    by true = tt
    by false = (λ h. h, tt)

out-wire : PortOut ≡ Between → ⊥
out-wire e = cc

out-in : PortOut ≡ PortIn → ⊥
out-in e = cc

wire-in : Between ≡ PortIn → ⊥
wire-in e = cc

-- what a part of a route is
pub data IsOnRoute (k : Node) (own c x : Path) (t : Part) : Type 0 where
  GoesUp : t.kind ≡ PortOut → IsIn t.path (up_to own c) → IsOnRoute k own c x t
  Crosses : t.kind ≡ Between → t.path ≡ c → IsOnRoute k own c x t
  GoesDown : t.kind ≡ PortIn → IsIn t.path (up_to x c) → IsOnRoute k own c x t

module _ (made : List Part) (k : Node) (own c x : Path) where
  on-route : (t : Part) → IsIn t (parts_by made k own c x) → (t.control ≡ k) × IsOnRoute k own c x t
  on-route t h = elim (in-either t (parts_at k PortOut (up_to own c)) (crossing_wire made k own c ++ parts_at k PortIn (up_to x c)) h) [
    | inl l ↦ let is = at-is k PortOut (up_to own c) t l in (is.0, GoesUp is.1 is.2)
    | inr r ↦ elim (in-either t (crossing_wire made k own c) (parts_at k PortIn (up_to x c)) r) [
      | inl m ↦ let is = wire-is made k own c t m in (is.0, Crosses is.1 is.2)
      | inr n ↦ let is = at-is k PortIn (up_to x c) t n in (is.0, GoesDown is.1 is.2)
    ]
  ]

  route-apart : IsApart (parts_by made k own c x)
  route-apart =
      apart-append (parts_at k PortOut (up_to own c)) (crossing_wire made k own c ++ parts_at k PortIn (up_to x c)) (at-apart k PortOut (up_to own c) (up-apart own c))
      (apart-append (crossing_wire made k own c) (parts_at k PortIn (up_to x c)) (wire-apart made k own c) (at-apart k PortIn (up_to x c) (up-apart x c))
      (λ t h g. wire-in (sym (wire-is made k own c t h).1 ∙ (at-is k PortIn (up_to x c) t g).1)))
      (λ t h g.
      let out = (at-is k PortOut (up_to own c) t h).1 in
      elim (in-either t (crossing_wire made k own c) (parts_at k PortIn (up_to x c)) g) [
        | inl m ↦ out-wire (sym out ∙ (wire-is made k own c t m).1)
        | inr n ↦ out-in (sym out ∙ (at-is k PortIn (up_to x c) t n).1)
      ])

to-apart : (made : List Part) (x : Path) (k : Node) → IsApart (parts_to made x k)
to-apart made x (Inner n i own) = route-apart made (Inner n i own) own (common own x) x
to-apart made x (Outer n i) = tt
to-apart made x (Fixed b) = tt

-- ---- all parts

-- each part stands once
after-apart : (made : List Part) (all : List Route) → IsApart made → IsApart (parts_after made all)
after-apart made [] apart = apart
after-apart made (r ∷ more) apart =
    after-apart (made ++ new_among made (parts_of made r)) more
    (apart-append made (new_among made (parts_of made r)) apart (apart-filter (λ t. not (has_part made t)) (parts_of made r) (to-apart made r.1 r.0))
    (λ t h g. true≢false (sym (any-in (same_part t) t made h (part-self t)) ∙ not-true (has_part made t) (of-filter (λ z. not (has_part made z)) t (parts_of made r) g).1)))

-- a part is one of the route of a net bit
pub record IsPartOf (all : List Route) (t : Part) : Type 0 where
  pub name : Name
  pub index : Option ℕ
  pub own : Path
  pub to : Path
  pub listed : IsIn (Inner name index own, to) all
  pub control : t.control ≡ Inner name index own
  pub on : IsOnRoute (Inner name index own) own (common own to) to t

to-part : (made : List Part) (x : Path) (k : Node) (all : List Route) (t : Part) → IsIn (k, x) all → IsIn t (parts_to made x k) → IsPartOf all t
to-part made x (Inner n i own) all t listed h =
    let is = on-route made (Inner n i own) own (common own x) x t h in
    record { name = n; index = i; own = own; to = x; listed = listed; control = is.0; on = is.1 }
to-part made x (Outer n i) all t listed h = absurd h
to-part made x (Fixed b) all t listed h = absurd h

later : (r : Route) (more : List Route) (t : Part) → IsPartOf more t → IsPartOf (r ∷ more) t
later r more t of = record { name = of.name; index = of.index; own = of.own; to = of.to; listed = inr of.listed; control = of.control; on = of.on }

of-after : (made : List Part) (all : List Route) (t : Part) → IsIn t (parts_after made all) → IsIn t made ⊎ IsPartOf all t
of-after made [] t h = inl h
of-after made (r ∷ more) t h = elim (of-after (made ++ new_among made (parts_of made r)) more t h) [
  | inl l ↦ elim (in-either t made (new_among made (parts_of made r)) l) [
    | inl old ↦ inl old
    | inr new ↦ inr (to-part made r.1 r.0 (r ∷ more) t (inl refl) (of-filter (λ z. not (has_part made z)) t (parts_of made r) new).0)
  ]
  | inr of ↦ inr (later r more t of)
]

aside-after : RoutesAreSound → PartsStandAside → (made : List Part) (all : List Route) → IsRouted made → StandsAside made → StandsAside (parts_after made all)
aside-after routed stands made [] sound aside = aside
aside-after routed stands made (r ∷ more) sound aside =
    aside-after routed stands (made ++ new_among made (parts_of made r)) more (routed.1 made (r ∷ []) sound) (stands.1 made r sound aside)

module _ (p : Project) (l : Lists) where
  pub is-part : (t : Part) → IsIn t (parts p (plan p l)) → IsPartOf (routes p (plan p l)) t
  is-part t h = elim (of-after [] (routes p (plan p l)) t h) [ inl none ↦ absurd none | inr of ↦ of ]

  once : (t : Part) → length (filter (same_part t) (parts p (plan p l))) ≤ 1
  once t =
      at-most-one (filter (same_part t) (parts p (plan p l))) (apart-filter (same_part t) (parts p (plan p l)) (after-apart [] (routes p (plan p l)) tt))
      (λ a b h g.
      sym (part-true t a (of-filter (same_part t) a (parts p (plan p l)) h).1)
      ∙ part-true t b (of-filter (same_part t) b (parts p (plan p l)) g).1)

  has-routes : RoutesAreSound → PartsStandAside → HasRoutes (additions p l)
  has-routes routed stands = record {
    routed = routed.1 [] (routes p (plan p l)) routed.0;
    aside = aside-after routed stands [] (routes p (plan p l)) routed.0 stands.0;
    once = once;
    inner = λ t h. let of = is-part t h in (of.name, of.index, of.own, of.control);
  }

pub routes-law : RoutesAreSound → PartsStandAside → AdditionsHaveRoutes
routes-law routed stands p l = has-routes p l routed stands
