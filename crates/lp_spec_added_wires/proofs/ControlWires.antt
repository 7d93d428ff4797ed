-- Each part of a control's route is driven as the hub says.
use Rattle.std.proofs.Common.{◌≡◌, ◌⊎◌, ℕ, Bool, true, false, ◌&&◌, cond, List, [], ◌∷◌, inl, inr, refl, sym, ap, ◌∙◌, subst}
use Rattle.std.specs.Prelude.{is_some}
use Rattle.std.proofs.lemmas.Bool.{both_ways}
use Rattle.lp_spec_design.specs.Keys.{Name, Path, same_path, Node, Inner, Way, same_node}
use Rattle.lp_spec_design.specs.Netlists.{Structure, module_at}
use Rattle.lp_spec_design.specs.Reads.{one, other, both, path-true, node-true, node-self}
use Rattle.lp_spec_design.specs.Registers.{is_above}
use Rattle.lp_spec_design.specs.Winners.{IsIn}
use Rattle.lp_spec_design.proofs.Members.{of-any}
use Rattle.lp_spec_realises.specs.Projects.{Project}
use Rattle.lp_spec_written.specs.Routes.{Part, Kind, PortOut, Between, PortIn, same_part_kind, same_part, has_part, parts_in, is_between, part_for, is_own_control, is_led_out}
use Rattle.lp_spec_written.specs.Written.{Additions}
use Rattle.lp_spec_hub.specs.Spots.{Spot, Routed, FromSpot}
use Rattle.lp_spec_hub.specs.Drives.{own_instance, toward, part_at, part_from}
use Rattle.lp_spec_hub.specs.Entries.{carries}
use Rattle.lp_spec_wired.specs.Contents.{IsWrittenAt}
use Rattle.lp_spec_wired.specs.Names.{placement_by}
use Rattle.lp_spec_wired.specs.Laws.{StandsFor, IsOneWay}
use Rattle.lp_spec_wired.proofs.Controls.{kind-true, controls-come-down}
use Rattle.lp_spec_wired.proofs.Others.{part-name}
use Rattle.lp_spec_written_at.proofs.Lists.{some-first}
use Rattle.lp_spec_written_at.proofs.Paths.{some-is}
use Rattle.lp_spec_driven.specs.Sound.{IsProper}
use Rattle.lp_spec_driven.proofs.Begun.{controls-lead-out}
use Rattle.lp_spec_driven.proofs.Up.{controls-go-up}
use Rattle.lp_spec_wires.specs.Standing.{is_wire, HasPlaces}
use Rattle.lp_spec_added_wires.specs.Laws.{ControlWiresStand}
use Rattle.lp_spec_added_wires.proofs.Places.{child, module-there, some-when, or-left, or-right}

part-true : (t u : Part) → same_part t u ≡ true → t ≡ u
part-true t u e =
    let kinds = kind-true t.kind u.kind (one (same_part_kind t.kind u.kind) (same_path t.path u.path && same_node t.control u.control) e) in
    let rest = other (same_part_kind t.kind u.kind) (same_path t.path u.path && same_node t.control u.control) e in
    let paths = path-true t.path u.path (one (same_path t.path u.path) (same_node t.control u.control) rest) in
    let controls = node-true t.control u.control (other (same_path t.path u.path) (same_node t.control u.control) rest) in
    λ i. record { control = controls i; path = paths i; kind = kinds i }

pub made-in : (made : List Part) (t : Part) → has_part made t ≡ true → IsIn t made
made-in made t h = let found = of-any (same_part t) made h in subst (λ u. IsIn u made) (sym (part-true t found.0 found.2)) found.1

-- the instance on the way is right below, or there is none
toward-by : (q x : Path) → (toward q x ≡ []) ⊎ ((i : Name) × (toward q x ≡ i ∷ x))
toward-by [] x = inl refl
toward-by (i ∷ q) x = by (same_path q x) refl (toward-by q x)
  where
    by : (b : Bool) → same_path q x ≡ b → (toward q x ≡ []) ⊎ ((j : Name) × (toward q x ≡ j ∷ x)) → (cond b (i ∷ q) (toward q x) ≡ []) ⊎ ((j : Name) × (cond b (i ∷ q) (toward q x) ≡ j ∷ x))
    by true same more = inr (i, ap (λ y. i ∷ y) (path-true q x same))
    by false differ more = more

module _ (p : Project) (a : Additions) (from : Way → Node) (proper : IsProper p a from) (places : HasPlaces p a) where
  abbrev s : Structure
  s = p.structure

  -- a part stands in an instance
  pub part-there : (t : Part) → has_part a.controls t ≡ true → is_some (module_at s t.path) ≡ true
  part-there t h = module-there p proper.fit.free places.top t.path (places.parts t (made-in a.controls t h))

  -- and no output port of the top
  pub not-top : (k : Node) (x : Path) → has_part a.controls (part_at k x PortOut) ≡ true → x ≡ [] → ⊥
  not-top k x h top = places.below (part_at k x PortOut) (made-in a.controls (part_at k x PortOut) h) refl top

  -- where the instance on the way has an output port, it is right below
  pub right-below : (k : Node) (x : Path) → has_part a.controls (part_at k (toward (own_instance k) x) PortOut) ≡ true → (i : Name) × (toward (own_instance k) x ≡ i ∷ x)
  right-below k x h = elim (toward-by (own_instance k) x) [
    | inl none ↦ absurd (not-top k (toward (own_instance k) x) h none)
    | inr found ↦ found
  ]

  one-way : (k : Node) (x : Path) → IsOneWay a.controls k x
  one-way k x out = by (has_part a.controls (part_at k x PortIn)) refl
    where
      by : (b : Bool) → has_part a.controls (part_at k x PortIn) ≡ b → b ≡ false
      by true is = absurd (both_ways (is_above x (own_instance k)) (proper.routes.aside k x is) (proper.routes.routed.above k x out))
      by false is = refl

  module _ (w : Structure) (written : IsWrittenAt p a w) where
    abbrev Stands : Spot → Type 0
    Stands x = StandsFor p a w (placement_by p a) from x

    -- ---- going up

    up : (k : Node) (x : Path) (kind : Kind) → has_part a.controls (part_at k x kind) ≡ true → has_part a.controls (part_at k (toward (own_instance k) x) PortOut) ≡ true
        → (kind ≡ Between) ⊎ ((kind ≡ PortOut) × (has_part a.controls (part_at k x Between) ≡ false))
        → Stands (Routed (part_at k x kind))
    up k x kind has out which =
        let step = right-below k x out in
        let lower : has_part a.controls (part_at k (step.0 ∷ x) PortOut) ≡ true = ap (λ y. has_part a.controls (part_at k y PortOut)) (sym step.1) ∙ out in
        let inner = some-is (module_at s (step.0 ∷ x)) (part-there (part_at k (step.0 ∷ x) PortOut) lower) in
        let c = child s step.0 x inner.0 inner.1 in
        controls-go-up p a w from written proper x c.outer c.at c.instance inner.0 c.listed c.target k
        (ap (λ n. has_part a.controls (part_at k (n ∷ x) PortOut)) c.name ∙ lower) kind has which

    -- ---- leaving an instance

    led-out : (k : Node) (x : Path) → has_part a.controls (part_at k x PortOut) ≡ true → is_led_out a.controls x (part_at k x PortOut) ≡ true → Stands (Routed (part_at k x PortOut))
    led-out k x has led = let m = some-is (module_at s x) (part-there (part_at k x PortOut) has) in controls-lead-out p a w from written proper x m.0 m.1 k has led

    own-control : (k : Node) (x : Path) → has_part a.controls (part_at k x PortOut) ≡ true → same_path (own_instance k) x ≡ true → is_own_control x k ≡ true
    own-control k x has own =
        let inner = proper.routes.inner (part_at k x PortOut) (made-in a.controls (part_at k x PortOut) has) in
        ap (is_own_control x) inner.3 ∙ (ap (λ q. same_path (own_instance q) x) (sym inner.3) ∙ own)

    has-wire : (k : Node) (x : Path) → has_part a.controls (part_at k x Between) ≡ true → is_some (part_for (parts_in a.controls x) k is_between) ≡ true
    has-wire k x h =
        let found = part-name p a (part_at k x Between) h in
        some-first (λ (z : ℕ × Part). same_node z.1.control k && is_between z.1) found.0 (parts_in a.controls x) found.1
        (both (same_node found.0.1.control k) (is_between found.0.1) (ap (λ (t : Part). same_node t.control k) found.2 ∙ node-self k) (ap is_between found.2))

    out : (k : Node) (x : Path) (b c : Bool) → same_path (own_instance k) x ≡ b → has_part a.controls (part_at k x Between) ≡ c → has_part a.controls (part_at k x PortOut) ≡ true → Stands (Routed (part_at k x PortOut))
    out k x true c own wire has = led-out k x has (or-left (is_own_control x k) _ (own-control k x has own))
    out k x false true differ wire has = led-out k x has (or-right (is_own_control x k) _ (has-wire k x wire))
    out k x false false differ bare has = up k x PortOut has (proper.routes.routed.up k x has differ) (inr (refl, bare))

    -- ---- coming down

    down : (k : Node) (x : Path) → has_part a.controls (part_at k x PortIn) ≡ true → Stands (Routed (part_at k x PortIn))
    down k x has =
        let comes = proper.routes.routed.down k x has in
        let inner = proper.routes.inner (part_at k x PortIn) (made-in a.controls (part_at k x PortIn) has) in
        let m = some-is (module_at s x) (part-there (part_at k x PortIn) has) in
        subst (λ q. Stands (Routed (part_at q x PortIn))) (sym inner.3)
        (subst (λ y. Stands (Routed (part_at (Inner inner.0 inner.1 inner.2) y PortIn))) (sym comes.is)
        (controls-come-down p a w (placement_by p a) from written proper.plain.leaves proper.names.controls comes.name comes.parent m.0 (ap (module_at s) (sym comes.is) ∙ m.1) inner.0 inner.1 inner.2
        (subst (λ y. has_part a.controls (part_at (Inner inner.0 inner.1 inner.2) y PortIn) ≡ true) comes.is (subst (λ q. has_part a.controls (part_at q x PortIn) ≡ true) inner.3 has))
        (subst (λ q. carries a.controls q comes.parent ≡ true) inner.3 comes.above)
        (one-way (Inner inner.0 inner.1 inner.2) comes.parent)))

    by-kind : (k : Node) (x : Path) (kind : Kind) → has_part a.controls (part_at k x kind) ≡ true → Stands (Routed (part_at k x kind))
    by-kind k x PortOut has = out k x (same_path (own_instance k) x) (has_part a.controls (part_at k x Between)) refl refl has
    by-kind k x Between has = up k x Between has (proper.routes.routed.wire k x has) (inl refl)
    by-kind k x PortIn has = down k x has

    pub part-stands : (t : Part) → is_wire p a from (Routed t) ≡ true → Stands (Routed t)
    part-stands t h = by-kind t.control t.path t.kind (some-when (has_part a.controls t) (FromSpot (part_from a.controls t.control t.path t.kind)) h)

pub control-wires-stand : ControlWiresStand
control-wires-stand p a w from written proper places t h = part-stands p a from proper places w written t h
