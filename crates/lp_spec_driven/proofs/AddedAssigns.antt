-- What the added assigns drive in the written netlist: the own nets of constants, and controls that go up out of their instance.
use Rattle.std.proofs.Common.{◌≡◌, ◌⊎◌, ◌≤◌, ℕ, zero, suc, ◌+◌, Bool, true, false, not, ◌&&◌, ◌||◌, List, [], ◌∷◌, Option, Some, None, inl, inr, refl, sym, ◌∙◌, ap, subst, arith}
use Rattle.std.specs.Prelude.{slice_get, is_some, if◌then◌else◌}
use Rattle.std.specs.List.{list_any}
use Rattle.std.proofs.lemmas.Bool.{false≢true, both_ways, not-true}
use Rattle.lp_model.specs.NetlistView.{BitView, NetBit, SelectBit, ConstBit, AssignView}
use Rattle.lp_spec_design.specs.Keys.{Name, Path, same_path, same_bool, Node, Inner, Fixed, Way, AssignBit, same_way, Source, From, same_node}
use Rattle.lp_spec_design.specs.Netlists.{Structure, node_of, is_input}
use Rattle.lp_spec_design.specs.Graph.{pairs, numbered, when, from_assign}
use Rattle.lp_spec_design.specs.Domains.{BoundaryBit, way_of}
use Rattle.lp_spec_design.specs.Reads.{path-true, path-self, node-true, one, other}
use Rattle.lp_spec_design.specs.Winners.{IsIn}
use Rattle.lp_spec_design.proofs.Members.{of-some, of-when, of-pairs, of-filter, of-numbered}
use Rattle.lp_spec_design.proofs.Sources.{first_in}
use Rattle.lp_spec_realises.specs.Projects.{Project}
use Rattle.lp_spec_realises.specs.Operators.{Placement}
use Rattle.lp_spec_realises.specs.Implements.{parent_of}
use Rattle.lp_spec_written.specs.Places.{instances, Standing}
use Rattle.lp_spec_written.specs.Nets.{Stretch, stretches, stretches_in, is_inside, is_constant, leads_constant, stood, chain_net, constant_assign, renamed, bit_of}
use Rattle.lp_spec_written.specs.Routes.{Part, PortOut, Between, same_part_kind, has_part, parts_in, control_net, is_between, part_for, carried, control_bits, is_own_control, is_led_out, control_assign}
use Rattle.lp_spec_written.specs.Written.{Additions}
use Rattle.lp_spec_hub.specs.Spots.{Spot, OfNode, Lead, Routed, FromSpot, on_way, is_behind}
use Rattle.lp_spec_hub.specs.Drives.{is_led, own_instance, toward, part_at, part_from}
use Rattle.lp_spec_hub.specs.Entries.{IsInFlow}
use Rattle.lp_spec_wired.specs.Names.{node_at, name_by}
use Rattle.lp_spec_wired.proofs.Chains.{is-of, has-operator, on-its-way, way-true}
use Rattle.lp_spec_wired.proofs.Controls.{kind-true}
use Rattle.lp_spec_wired.proofs.Wires.{Own, own, lead-name}
use Rattle.lp_spec_written_at.proofs.Instances.{instances-apart}
use Rattle.lp_spec_driven.specs.Wires.{IsOfWire}
use Rattle.lp_spec_driven.specs.Sound.{HasNames, HasRoutes, HasFitCells, IsOnWays, ComesFrom, ahead_by, node_ahead}
use Rattle.lp_spec_driven.specs.Laws.{ConstantsGive, ControlAssignsGive}
use Rattle.lp_spec_driven.proofs.Sources.{of-when-is, only-one}
use Rattle.lp_spec_driven.proofs.Short.{stood-short}
use Rattle.lp_spec_driven.proofs.Linked.{stretch-alone}
use Rattle.lp_spec_driven.proofs.Parts.{is-made, has-it, place-name, Net, net-of}
use Rattle.lp_spec_driven.proofs.Edges.{in-get}

-- ---- the bits of an assign to one net

pub record Joined (x : Path) (n : Name) (i : Option ℕ) (k : ℕ) (net : Name) (right : List BitView) (z : Source) : Type 0 where
  pub place : ℕ
  pub bit : BitView
  pub listed : IsIn bit right
  pub is : Inner net None x ≡ Inner n i x
  pub source : z ≡ From (AssignBit x k place) (node_of x bit)

joined-of : (x : Path) (n : Name) (i : Option ℕ) (u : ℕ × AssignView) (net : Name) (right : List BitView) (z : Source) → u.1 ≡ record { left = NetBit net ∷ []; right = right } → IsIn z (from_assign x n i u) → Joined x n i u.0 net right z
joined-of x n i u net right z is h =
    let found = of-some (λ (pair : ℕ × (BitView × BitView)). when (same_node (node_of x pair.1.0) (Inner n i x)) (From (AssignBit x u.0 pair.0) (node_of x pair.1.1))) z (numbered 0 (pairs u.1.left u.1.right)) h in
    let two = of-pairs found.0.1 u.1.left u.1.right (of-numbered 0 found.0 (pairs u.1.left u.1.right) found.1) in
    let left : found.0.1.0 ≡ NetBit net = elim (subst (λ (v : AssignView). IsIn found.0.1.0 v.left) is two.0) [ inl same ↦ same | inr none ↦ absurd none ] in
    let test = node-true (node_of x found.0.1.0) (Inner n i x) (of-when (same_node (node_of x found.0.1.0) (Inner n i x)) (From (AssignBit x u.0 found.0.0) (node_of x found.0.1.1)) z found.2) in
    record {
      place = found.0.0;
      bit = found.0.1.1;
      listed = subst (λ (v : AssignView). IsIn found.0.1.1 v.right) is two.1;
      is = sym (ap (node_of x) left) ∙ test;
      source = of-when-is (same_node (node_of x found.0.1.0) (Inner n i x)) (From (AssignBit x u.0 found.0.0) (node_of x found.0.1.1)) z found.2;
    }

-- ---- operators behind an edge

get-less : {A : Type 0} (xs : List A) (k : ℕ) (l : ℕ) (z : A) → slice_get xs l ≡ Some z → k ≤ l → (x : A) × (slice_get xs k ≡ Some x)
get-less [] k l z g h = absurd cc
get-less (x ∷ xs) zero l z g h = (x, refl)
get-less (x ∷ xs) (suc k) zero z g h = absurd (omega (arith, h))
get-less (x ∷ xs) (suc k) (suc l) z g h = get-less xs k l z g (omega (arith, h))

-- where the first one stands behind the edge, all do
all-behind : (all : List Standing) → IsInFlow all → (w : Way) (o : Standing) → slice_get (on_way all w) 0 ≡ Some o → is_behind o ≡ true → (l : ℕ) (r : Standing) → slice_get (on_way all w) l ≡ Some r → is_behind r ≡ true
all-behind all flow w o f side zero r g = let same : Some o ≡ Some r = sym f ∙ g in let is : o ≡ r = cc in ap is_behind (sym is) ∙ side
all-behind all flow w o f side (suc l) r g =
    let before = get-less (on_way all w) l (suc l) r g (omega arith) in
    flow w l before.0 r before.1 g (all-behind all flow w o f side l before.0 before.1)

constant-is : (b : BitView) → is_constant b ≡ true → (c : Bool) × (b ≡ ConstBit c)
constant-is (NetBit n) e = absurd (false≢true e)
constant-is (SelectBit n i) e = absurd (false≢true e)
constant-is (ConstBit c) e = (c, refl)

is-false : (b : Bool) → (b ≡ true → ⊥) → b ≡ false
is-false true f = absurd (f refl)
is-false false f = refl

-- ---- a constant's own net

module _ (p : Project) (a : Additions) (w : Structure) (at : Placement) (from : Way → Node) (names : HasNames p a) (fit : HasFitCells p a) (on_ways : IsOnWays p a) (comes : ComesFrom p a from)
    (x : Path) (there : IsIn x (instances p)) (t : Stretch) (t_in : IsIn t (stretches p a.plan)) (lies : t.path ≡ x) (leads : leads_constant p.structure t.path t.bit ≡ true) where
  abbrev s : Structure
  s = p.structure

  abbrev way : Way
  way = way_of t.bit

  abbrev here : List Standing
  here = on_way a.plan.operators way

  input : is_input t.bit.port ≡ true
  input = one (is_input t.bit.port) _ leads

  outside : is_inside t.path t.bit ≡ false
  outside = not-true _ (one (not (is_inside t.path t.bit)) _ (other (is_input t.bit.port) _ leads))

  some : (o : Standing) × IsIn o t.operators
  some = has-operator p a.plan t t_in

  some-on : IsIn some.0 here × (some.0.path ≡ t.path)
  some-on = on-its-way p a.plan t t_in some.0 some.1

  on-plan : (o : Standing) → IsIn o here → IsIn o a.plan.operators × (o.asked.bit ≡ t.bit)
  on-plan o g =
      let found = of-filter (λ (r : Standing). same_way (way_of r.asked.bit) way) o a.plan.operators g in
      (found.0, names.bits.one o.asked.bit t.bit (names.chains.bits o found.0) (is-of p a.plan t t_in).0.bit (way-true (way_of o.asked.bit) way found.1))

  side-is : (o : Standing) → IsIn o here → is_behind o ≡ is_inside o.path t.bit
  side-is o g = ap (λ (c : BoundaryBit). same_bool (is_input c.port) (is_inside o.path c)) (on-plan o g).1 ∙ ap (λ b. same_bool b (is_inside o.path t.bit)) input

  place : (k : ℕ) × (slice_get here k ≡ Some some.0)
  place = in-get here some.0 some-on.0

  first-one : (o : Standing) × (slice_get here 0 ≡ Some o)
  first-one = get-less here 0 place.0 some.0 place.1 (omega arith)

  abbrev o : Standing
  o = first-one.0

  slice-in : (xs : List Standing) (k : ℕ) (z : Standing) → slice_get xs k ≡ Some z → IsIn z xs
  slice-in [] k z g = absurd cc
  slice-in (v ∷ xs) zero z g = let is : v ≡ z = cc in inl (sym is)
  slice-in (v ∷ xs) (suc k) z g = inr (slice-in xs k z g)

  o-on : IsIn o here
  o-on = slice-in here 0 o first-one.1

  side : is_behind o ≡ false
  side = is-false (is_behind o) (λ g.
      let behind = all-behind a.plan.operators on_ways.flow way o first-one.1 g place.0 some.0 place.1 in
      both_ways (is_inside t.path t.bit) outside (ap (λ u. is_inside u t.bit) (sym some-on.1) ∙ (sym (side-is some.0 some-on.0) ∙ behind)))

  -- an operator before the edge stands in the parent
  in-parent : (r : Standing) → IsIn r here → is_behind r ≡ false → r.path ≡ parent_of t.bit.path
  in-parent r g f =
      let on = on-plan r g in
      elim (on_ways.near r on.0) [
        | inl own ↦ absurd (both_ways (is_behind r) f (side-is r g ∙ (ap (λ u. same_path u t.bit.path) (own ∙ ap (λ (c : BoundaryBit). c.path) on.1) ∙ path-self t.bit.path)))
        | inr up ↦ up ∙ ap (λ (c : BoundaryBit). parent_of c.path) on.1
      ]

  t-up : t.path ≡ parent_of t.bit.path
  t-up = sym some-on.1 ∙ in-parent some.0 some-on.0 (side-is some.0 some-on.0 ∙ (ap (λ u. is_inside u t.bit) some-on.1 ∙ outside))

  o-path : o.path ≡ x
  o-path = in-parent o o-on side ∙ (sym t-up ∙ lies)

  o-leads : leads_constant s o.path o.asked.bit ≡ true
  o-leads = ap (leads_constant s o.path) (on-plan o o-on).1 ∙ (ap (λ u. leads_constant s u t.bit) (o-path ∙ sym lies) ∙ leads)

  abbrev its : Own p a names.chains names.stand names.bits way 0 o
  its = own p a names.chains names.stand names.bits way 0 o first-one.1

  same-stretch : t ≡ its.s
  same-stretch = stretch-alone p a names.chains names.stand names.bits (instances-apart s fit.free.apart) names.ways x there way 0 o first-one.1 o-path t t_in lies refl

  name-is : name_by p a (Lead way) ≡ Inner (chain_net t.start) None x
  name-is =
      (lead-name p a names.chains names.stand names.bits names.nets way way 0 o o first-one.1 first-one.1 o-leads its).1
      ∙ (ap (λ (u : Stretch). Inner (chain_net (u.start + 0)) None u.path) (sym same-stretch)
      ∙ (ap (λ k. Inner (chain_net k) None t.path) (omega arith) ∙ ap (Inner (chain_net t.start) None) lies))

  -- the constant that stood there
  from-is : (b : BitView) (c : Bool) → stood s t.bit ≡ b ∷ [] → b ≡ ConstBit c → from way ≡ Fixed c
  from-is b c bits is =
      let on = on-plan o o-on in
      ap (λ (d : BoundaryBit). from (way_of d)) (sym on.1)
      ∙ (comes o on.0
      ∙ (ap (node_ahead s) on.1
      ∙ (ap (ahead_by s t.bit t.bit.path) input ∙ by t.bit.path refl)))
    where
      by : (u : Path) → t.bit.path ≡ u → ahead_by s t.bit u true ≡ Fixed c
      by [] g = absurd (both_ways (is_inside t.path t.bit) outside (ap (λ v. same_path v t.bit.path) (t-up ∙ ap parent_of g) ∙ ap (same_path []) g))
      by (j ∷ u) g = ap (node_at u) (bits ∙ ap (λ v. v ∷ []) is)

  pub gives-constant : (n : Name) (i : Option ℕ) (k : ℕ) (z : Source) → Joined x n i k (chain_net t.start) (stood s t.bit) z → IsOfWire p a w at from (Inner n i x) z
  gives-constant n i k z j =
      let bits : stood s t.bit ≡ j.bit ∷ [] = only-one (stood s t.bit) j.bit (stood-short s t.bit) j.listed in
      let any : is_constant j.bit ≡ true = one-any (is_constant j.bit) (sym (ap (list_any is_constant) bits) ∙ other (not (is_inside t.path t.bit)) _ (other (is_input t.bit.port) _ leads)) in
      let c = constant-is j.bit any in
      let comes_from_it = from-is j.bit c.0 bits c.1 in
      record {
        wire = Lead way;
        there = record { operator = o; at = first-one.1; leads = o-leads };
        name = name-is ∙ j.is;
        driven = FromSpot (OfNode (Fixed c.0));
        is =
            ap (λ q. when (is_led q (slice_get here 0)) (FromSpot (OfNode q))) comes_from_it
            ∙ (ap (λ q. when (is_led (Fixed c.0) q) (FromSpot (OfNode (Fixed c.0)))) first-one.1
            ∙ ap (λ q. when (not q && true) (FromSpot (OfNode (Fixed c.0)))) side);
        gives = record { way = AssignBit x k j.place; is = j.source ∙ ap (λ q. From (AssignBit x k j.place) (node_of x q)) c.1 };
      }
    where
      one-any : (b : Bool) → (b || false) ≡ true → b ≡ true
      one-any true e = refl
      one-any false e = absurd (false≢true e)

pub constants-give : ConstantsGive
constants-give p a w at from names fit on_ways comes x there n i z u h g =
    let found = of-some (constant_assign p) u.1 (stretches_in a.chains x) h in
    let kept = of-filter (λ (t : Stretch). same_path t.path x) found.0 a.chains found.1 in
    let made : AssignView = record { left = NetBit (chain_net found.0.start) ∷ []; right = stood p.structure found.0.bit } in
    let leads = of-when (leads_constant p.structure found.0.path found.0.bit) made u.1 found.2 in
    let is = of-when-is (leads_constant p.structure found.0.path found.0.bit) made u.1 found.2 in
    gives-constant p a w at from names fit on_ways comes x there found.0 (subst (λ l. IsIn found.0 l) names.chains.chains kept.0) (path-true found.0.path x kept.1) leads n i u.0 z
    (joined-of x n i u (chain_net found.0.start) (stood p.structure found.0.bit) z is g)

-- ---- an output port for a control

module _ (p : Project) (a : Additions) (w : Structure) (at : Placement) (from : Way → Node) (routes : HasRoutes a) (x : Path) (t : ℕ × Part) (t_in : IsIn t (parts_in a.controls x)) (led_out : is_led_out a.controls x t.1 ≡ true)
    (n : Name) (i : Option ℕ) (z : Source) (k : ℕ) where
  abbrev control : Node
  control = t.1.control

  out : t.1.kind ≡ PortOut
  out = kind-true t.1.kind PortOut (one (same_part_kind t.1.kind PortOut) _ led_out)

  t-made : IsIn t.1 a.controls × (t.1.path ≡ x)
  t-made = is-made p a routes x t t_in

  t-is : t.1 ≡ part_at control x PortOut
  t-is = ap (λ u. record { control = control; path = u; kind = t.1.kind }) t-made.1 ∙ ap (part_at control x) out

  has-out : has_part a.controls (part_at control x PortOut) ≡ true
  has-out = ap (has_part a.controls) (sym t-is) ∙ has-it p a routes x t t_in

  result : (j : ℕ) (b : BitView) (comes : Spot) → Inner (control_net t.0) None x ≡ Inner n i x → z ≡ From (AssignBit x k j) (node_of x b) → part_from a.controls control x PortOut ≡ comes → name_by p a comes ≡ node_of x b → IsOfWire p a w at from (Inner n i x) z
  result j b comes is source from_is name = record {
    wire = Routed (part_at control x PortOut);
    there = has-out;
    name = ap (λ q. name_by p a (Routed q)) (sym t-is) ∙ (place-name p a routes x t t_in ∙ is);
    driven = FromSpot comes;
    is = ap (λ q. when q (FromSpot (part_from a.controls control x PortOut))) has-out ∙ ap (λ q. Some (FromSpot q)) from_is;
    gives = record { way = AssignBit x k j; is = source ∙ ap (From (AssignBit x k j)) (sym name) };
  }

  from-by : (d f : Bool) → same_path (own_instance control) x ≡ d → has_part a.controls (part_at control x Between) ≡ f
      → part_from a.controls control x PortOut ≡ (if d then OfNode control else if f then Routed (part_at control x Between) else Routed (part_at control (toward (own_instance control) x) PortOut))
  from-by d f g h =
      ap (λ q. if q then OfNode control else if has_part a.controls (part_at control x Between) then Routed (part_at control x Between) else Routed (part_at control (toward (own_instance control) x) PortOut)) g
      ∙ ap (λ q. if d then OfNode control else if q then Routed (part_at control x Between) else Routed (part_at control (toward (own_instance control) x) PortOut)) h

  module _ (m : Name) (l : Option ℕ) (own_path : Path) (inner : control ≡ Inner m l own_path) where
    own-is : own_instance control ≡ own_path
    own-is = ap own_instance inner

    at-home : same_path own_path x ≡ true → Joined x n i k (control_net t.0) (control_bits a.chains a.controls x control) z → IsOfWire p a w at from (Inner n i x) z
    at-home same j =
        let bits : control_bits a.chains a.controls x control ≡ renamed a.chains x (bit_of m l) ∷ [] = ap (control_bits a.chains a.controls x) inner ∙ ap (λ q. if q then renamed a.chains x (bit_of m l) ∷ [] else carried (parts_in a.controls x) (Inner m l own_path)) same in
        let bit : j.bit ≡ renamed a.chains x (bit_of m l) = elim (subst (λ q. IsIn j.bit q) bits j.listed) [ inl is ↦ is | inr none ↦ absurd none ] in
        result j.place j.bit (OfNode control) j.is j.source
        (from-by true (has_part a.controls (part_at control x Between)) (ap (λ q. same_path q x) own-is ∙ same) refl)
        (ap (λ q. name_by p a (OfNode q)) inner ∙ (ap (λ q. node_of q (renamed a.chains q (bit_of m l))) (path-true own_path x same) ∙ ap (node_of x) (sym bit)))

    away : same_path own_path x ≡ false → Joined x n i k (control_net t.0) (control_bits a.chains a.controls x control) z → IsOfWire p a w at from (Inner n i x) z
    away differ j =
        let bits : control_bits a.chains a.controls x control ≡ carried (parts_in a.controls x) control = ap (control_bits a.chains a.controls x) inner
        ∙ (ap (λ q. if q then renamed a.chains x (bit_of m l) ∷ [] else carried (parts_in a.controls x) (Inner m l own_path)) differ ∙ ap (carried (parts_in a.controls x)) (sym inner)) in
        let net = net-of p a routes x control j.bit (subst (λ q. IsIn j.bit q) bits j.listed) in
        let wired : is_some (part_for (parts_in a.controls x) control is_between) ≡ true = right (is_own_control x control) _ (ap (is_own_control x) inner ∙ differ) (other (same_part_kind t.1.kind PortOut) _ led_out) in
        by net wired net.wire
      where
        right : (b d : Bool) → b ≡ false → (b || d) ≡ true → d ≡ true
        right true d e f = absurd (false≢true (sym e))
        right false d e f = f

        found-one : (r : Option (ℕ × Part)) → part_for (parts_in a.controls x) control is_between ≡ r → is_some r ≡ true → has_part a.controls (part_at control x Between) ≡ true
        found-one None e f = absurd (false≢true f)
        found-one (Some y) e f =
            let found = first_in (λ (q : ℕ × Part). same_node q.1.control control && is_between q.1) (parts_in a.controls x) y e in
            let made = is-made p a routes x y found.0 in
            let is_control = node-true y.1.control control (one (same_node y.1.control control) _ found.1) in
            let is_kind = kind-true y.1.kind Between (other (same_node y.1.control control) _ found.1) in
            let is_part : y.1 ≡ part_at control x Between = ap (λ q. record { control = q; path = y.1.path; kind = y.1.kind }) is_control ∙ (ap (λ q. record { control = control; path = q; kind = y.1.kind }) made.1 ∙ ap (part_at control x) is_kind) in
            ap (has_part a.controls) (sym is_part) ∙ has-it p a routes x y found.0

        by : (net : Net p a routes x control j.bit) → is_some (part_for (parts_in a.controls x) control is_between) ≡ true → (net.part.1.kind ≡ Between) ⊎ (has_part a.controls (part_at control x Between) ≡ false) → IsOfWire p a w at from (Inner n i x) z
        by net wired (inr none) = absurd (both_ways (has_part a.controls (part_at control x Between)) none (found-one (part_for (parts_in a.controls x) control is_between) refl wired))
        by net wired (inl wire) =
            let made = is-made p a routes x net.part net.listed in
            let is_part : net.part.1 ≡ part_at control x Between = ap (λ q. record { control = q; path = net.part.1.path; kind = net.part.1.kind }) net.control ∙ (ap (λ q. record { control = control; path = q; kind = net.part.1.kind }) made.1 ∙ ap (part_at control x) wire) in
            result j.place j.bit (Routed (part_at control x Between)) j.is j.source
            (from-by false true (ap (λ q. same_path q x) own-is ∙ differ) (ap (has_part a.controls) (sym is_part) ∙ has-it p a routes x net.part net.listed))
            (ap (λ q. name_by p a (Routed q)) (sym is_part) ∙ (place-name p a routes x net.part net.listed ∙ ap (node_of x) (sym net.bit)))

  pub gives-out : Joined x n i k (control_net t.0) (control_bits a.chains a.controls x control) z → IsOfWire p a w at from (Inner n i x) z
  gives-out j =
      let inner = routes.inner t.1 t-made.0 in
      by inner.0 inner.1 inner.2 inner.3 (same_path inner.2 x) refl
    where
      by : (m : Name) (l : Option ℕ) (own_path : Path) (inner : control ≡ Inner m l own_path) (d : Bool) → same_path own_path x ≡ d → IsOfWire p a w at from (Inner n i x) z
      by m l own_path inner true g = at-home m l own_path inner g j
      by m l own_path inner false g = away m l own_path inner g j

pub control-assigns-give : ControlAssignsGive
control-assigns-give p a w at from routes x n i z u h g =
    let found = of-some (control_assign a.chains a.controls x) u.1 (parts_in a.controls x) h in
    let made : AssignView = record { left = NetBit (control_net found.0.0) ∷ []; right = control_bits a.chains a.controls x found.0.1.control } in
    let out = of-when (is_led_out a.controls x found.0.1) made u.1 found.2 in
    let is = of-when-is (is_led_out a.controls x found.0.1) made u.1 found.2 in
    gives-out p a w at from routes x found.0 found.1 out n i z u.0 (joined-of x n i u (control_net found.0.0) (control_bits a.chains a.controls x found.0.1.control) z is g)
