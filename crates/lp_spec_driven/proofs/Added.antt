-- What the added outputs of a module instance drive in the parent: supplies and controls that go up.
use Rattle.std.proofs.Common.{◌≡◌, ◌⊎◌, ◌<◌, ◌^◌, ℕ, Bool, true, false, not, ◌&&◌, ◌||◌, ◌==◌, List, [], ◌∷◌, ◌++◌, map, length, Option, Some, None, inl, inr, refl, sym, ◌∙◌, ap, subst, arith}
use Rattle.std.specs.Prelude.{bytes_eq, filter, slice_get, if◌then◌else◌}
use Rattle.std.proofs.lemmas.Bool.{false≢true, both_ways, not-true}
use Rattle.lp_model.specs.declared.netlist.Direction.TheVariants.{Input, Output}
use Rattle.lp_model.specs.NetlistView.{BitView, NetBit, PortView, ConnectionView, InstanceView, ModuleView}
use Rattle.lp_spec_design.specs.Keys.{Name, Path, same_path, Node, Inner, Way, PortBit, Source, From, same_node}
use Rattle.lp_spec_design.specs.Netlists.{Structure, module_named, module_at, node_of, bits_named, connected, is_input, indices}
use Rattle.lp_spec_design.specs.Graph.{pairs, numbered, when, joined_inside}
use Rattle.lp_spec_design.specs.Intents.{Origin, FromPort, FromSwitch}
use Rattle.lp_spec_design.specs.Registers.{is_above}
use Rattle.lp_spec_design.specs.Reads.{name-self, name-true, path-self, node-true, node-self, one, other}
use Rattle.lp_spec_design.specs.Winners.{IsIn}
use Rattle.lp_spec_design.proofs.Members.{in-either, of-some, of-when, of-pairs}
use Rattle.lp_spec_design.proofs.Sources.{then_is}
use Rattle.lp_spec_faults.specs.Modules.{is_own}
use Rattle.lp_spec_realises.specs.Implements.{parent_of}
use Rattle.lp_spec_written.specs.Nets.{renamed, bit_of}
use Rattle.lp_spec_wired.specs.Laws.{done_of}
use Rattle.lp_spec_realises.specs.Projects.{Project, network_of, port_of_origin}
use Rattle.lp_spec_realises.specs.Operators.{Placement}
use Rattle.lp_spec_written.specs.Places.{Switching}
use Rattle.lp_spec_written.specs.Supplies.{Use, common, common_of, home, goes_out, goes_in, has_port_of, scalar, switch_net, switch_port, switch_of, origin_port, port_by_kind, joined_to, origin_bits, bits_by_kind}
use Rattle.lp_spec_written.specs.Routes.{Part, Kind, PortOut, Between, PortIn, same_part_kind, has_part, parts_in, control_net, is_between, port_of_kind, control_port, control_ports, control_bits, control_connection, control_connections, carried}
use Rattle.lp_spec_written.specs.Written.{Additions, added_supply_ports, written_instance}
use Rattle.lp_spec_hub.specs.Spots.{OfNode, Routed, Carried, BySwitch, FromSpot}
use Rattle.lp_spec_hub.specs.Drives.{toward, part_at, part_from, own_instance, switch_from, has_switch, drive_switch, drive_origin}
use Rattle.lp_spec_hub.proofs.Paths.{paths-differ, above-self, above-step, above-trans, above-length, above-both, above-parent, above-less, above-line, above-from, above-level, split-last, toward-is}
use Rattle.lp_spec_wired.specs.Contents.{IsInstance, IsWrittenAt}
use Rattle.lp_spec_wired.specs.Names.{name_by}
use Rattle.lp_spec_wired.proofs.Lists.{at-numbered, in-some, bits-behind, bits-there}
use Rattle.lp_spec_wired.proofs.Added.{control-number}
use Rattle.lp_spec_wired.proofs.Down.{added_connections, module-bits}
use Rattle.lp_spec_wired.proofs.Supplies.{supply-bits}
use Rattle.lp_spec_wired.proofs.Controls.{filter-short, supply-apart}
use Rattle.lp_spec_wired.proofs.Others.{supply-name}
use Rattle.lp_spec_written_at.proofs.Modules.{written-name}
use Rattle.std.proofs.lemmas.Option.{slice_get_within}
use Rattle.lp_spec_driven.specs.Wires.{IsOfWire}
use Rattle.lp_spec_driven.specs.Sound.{HasNames, HasRoutes, IsPlainSource, HasFitCells}
use Rattle.lp_spec_driven.specs.Laws.{AddedOutputsGive}
use Rattle.lp_spec_driven.proofs.Sources.{of-when-is}
use Rattle.lp_spec_driven.proofs.Parts.{is-made, has-it, place-name, Net, net-of}

-- ---- instances above one another

common-first : (p q : Path) → is_above (common p q) p ≡ true
common-first [] q = refl
common-first (i ∷ p) q = by (is_above (i ∷ p) q) (common-first p q)
  where
    by : (b : Bool) → is_above (common p q) p ≡ true → is_above (if b then i ∷ p else common p q) (i ∷ p) ≡ true
    by true h = above-self (i ∷ p)
    by false h = above-step (common p q) i p h

pub common-of-first : (x : Path) (ys : List Path) → is_above (common_of x ys) x ≡ true
common-of-first x [] = above-self x
common-of-first x (y ∷ ys) = above-trans (common_of (common x y) ys) (common x y) x (common-of-first (common x y) ys) (common-first x y)

-- on the way from an instance up to one above it, the next one below that
pub toward-next : (i : Name) (x q : Path) → is_above (i ∷ x) q ≡ true → (same_path x q ≡ false) × (toward q x ≡ i ∷ x)
toward-next i x q h =
    let differ : x ≡ q → ⊥ = λ e. let long = above-length (i ∷ x) q h in let same : length x ≡ length q = ap length e in omega (arith, long, same) in
    let up = above-parent x i q h in
    let found = split-last x q up differ in
    let here : toward q x ≡ found.1 ∷ x = ap (λ r. toward r x) found.2 ∙ toward-is found.0 found.1 x in
    let below : is_above (found.1 ∷ x) q ≡ true = ap (is_above (found.1 ∷ x)) found.2 ∙ above-from found.0 (found.1 ∷ x) in
    let same : found.1 ∷ x ≡ i ∷ x = elim (above-line (i ∷ x) (found.1 ∷ x) q h below) [ inl e ↦ above-level-one i found.1 x e | inr e ↦ sym (above-level-one found.1 i x e) ] in
    (paths-differ x q differ, here ∙ same)
  where
    above-level-one : (j k : Name) (r : Path) → is_above (j ∷ r) (k ∷ r) ≡ true → k ∷ r ≡ j ∷ r
    above-level-one j k r e = above-level (j ∷ r) (k ∷ r) e (omega arith)

-- ---- added outputs

switch-output : (out into : Bool) (n : Name) (q : PortView) → (if out then Some (scalar n Output) else when into (scalar n Input)) ≡ Some q → is_input q ≡ false → (out ≡ true) × (q ≡ scalar n Output)
switch-output true into n q e f = let is : q ≡ scalar n Output = cc in (refl, is)
switch-output false into n q e f = absurd (both_ways (is_input q) f (ap is_input (of-when-is into (scalar n Input) q e)))

part-output : (k : ℕ) (kind : Kind) (q : PortView) → port_of_kind k kind ≡ Some q → is_input q ≡ false → (kind ≡ PortOut) × (q ≡ scalar (control_net k) Output)
part-output k PortOut q e f = let is : q ≡ scalar (control_net k) Output = cc in (refl, is)
part-output k Between q e f = absurd cc
part-output k PortIn q e f = let is : q ≡ scalar (control_net k) Input = cc in absurd (both_ways (is_input q) f (ap is_input is))

module _ (p : Project) (a : Additions) (w : Structure) (at : Placement) (from : Way → Node) (written : IsWrittenAt p a w) (names : HasNames p a) (routes : HasRoutes a) (plain : IsPlainSource p.structure) (fit : HasFitCells p a)
    (x : Path) (m : ModuleView) (e : module_at p.structure x ≡ Some m) (y here : InstanceView) (inner : ModuleView) (listed : IsIn y m.instances) (target : module_named p.structure y.target ≡ Some inner)
    (is : IsInstance w x (written_instance p a x y) here) (n : Name) (i : Option ℕ) (z : Source) (there : ModuleView) where
  abbrev pub c : Path
  c = y.name ∷ x

  abbrev Result : Type 0
  Result = IsOfWire p a w at from (Inner n i x) z

  own_name : here.name ≡ y.name
  own_name = is.name ∙ written-name p a fit.free fit.listed x y

  -- the bit of a scalar
  record One (net : Name) (bits : List BitView) : Type 0 where
    bit : BitView
    listed_bit : IsIn bit bits
    is_bit : node_of x bit ≡ Inner n i x
    source : z ≡ From (PortBit c net None) (Inner net None c)

  scalar-source : (net : Name) (bits : List BitView) → connected there.ports net here.connections ≡ bits → IsIn z (joined_inside x n i here there (scalar net Output)) → One net bits
  scalar-source net bits conn h =
      let found = of-some (λ (u : Option ℕ × BitView). when (same_node (node_of x u.1) (Inner n i x)) (From (PortBit (here.name ∷ x) net u.0) (Inner net u.0 (here.name ∷ x)))) z (pairs (None ∷ []) (connected there.ports net here.connections)) h in
      let test = node-true (node_of x found.0.1) (Inner n i x) (of-when (same_node (node_of x found.0.1) (Inner n i x)) (From (PortBit (here.name ∷ x) net found.0.0) (Inner net found.0.0 (here.name ∷ x))) z found.2) in
      let is_z = of-when-is (same_node (node_of x found.0.1) (Inner n i x)) (From (PortBit (here.name ∷ x) net found.0.0) (Inner net found.0.0 (here.name ∷ x))) z found.2 in
      let two = of-pairs found.0 (None ∷ []) (connected there.ports net here.connections) found.1 in
      let index : found.0.0 ≡ None = elim two.0 [ inl same ↦ same | inr none ↦ absurd none ] in
      record {
        bit = found.0.1;
        listed_bit = subst (λ l. IsIn found.0.1 l) conn two.1;
        is_bit = test;
        source = is_z ∙ (ap (λ u. From (PortBit (u ∷ x) net found.0.0) (Inner net found.0.0 (u ∷ x))) own_name ∙ ap (λ u. From (PortBit c net u) (Inner net u c)) index);
      }

  pub added-bits : (net : Name) → is_own net ≡ true → connected there.ports net here.connections ≡ bits_named net (added_connections p a x c)
  added-bits net own = ap (connected there.ports net) is.connections ∙ module-bits p a plain.leaves x m inner y e listed target net own there.ports

  first-pair : (b : BitView) (rest : List BitView) → IsIn (None, b) (pairs (indices None) (b ∷ rest))
  first-pair b rest = inl refl

  -- and back: a scalar output drives the bit that the parent connects to it
  pub scalar-there : (net : Name) (b : BitView) (rest : List BitView) → connected there.ports net here.connections ≡ b ∷ rest → node_of x b ≡ Inner n i x → IsIn (From (PortBit (here.name ∷ x) net None) (Inner net None (here.name ∷ x))) (joined_inside x n i here there (scalar net Output))
  scalar-there net b rest conn same =
      in-some (λ (u : Option ℕ × BitView). when (same_node (node_of x u.1) (Inner n i x)) (From (PortBit (here.name ∷ x) net u.0) (Inner net u.0 (here.name ∷ x)))) (None, b) (From (PortBit (here.name ∷ x) net None) (Inner net None (here.name ∷ x)))
      (pairs (indices None) (connected there.ports net here.connections))
      (subst (λ l. IsIn (None, b) (pairs (indices None) l)) (sym conn) (first-pair b rest))
      (ap (λ u. when u (From (PortBit (here.name ∷ x) net None) (Inner net None (here.name ∷ x)))) (ap (λ k. same_node k (Inner n i x)) same ∙ node-self (Inner n i x)))

  -- ---- a supply

  module _ (o : ℕ) (input : ℕ) (control : Node) (high : Bool) (kind : slice_get (network_of p).origins o ≡ Some (FromSwitch input control high)) (s : Switching) (its : switch_of a.plan o ≡ Some s) (out : goes_out a.uses s c ≡ true) where
    abbrev pub net : Name
    net = switch_net s

    pub bits-are : origin_bits p a.plan o ≡ NetBit net ∷ []
    bits-are = ap (λ k. bits_by_kind p o k (switch_of a.plan o)) kind ∙ ap (bits_by_kind p o (Some (FromSwitch input control high))) its

    above : is_above c s.path ≡ true
    above = one (is_above c s.path) _ out

    not-home : is_above c (home a.uses s) ≡ false
    not-home = not-true _ (other (is_above c s.path) _ out)

    next : (same_path x s.path ≡ false) × (toward s.path x ≡ c)
    next = toward-next y.name x s.path above

    up : is_above x s.path ≡ true
    up = above-parent x y.name s.path above

    home-up : is_above (home a.uses s) x ≡ true
    home-up =
        let homed = common-of-first s.path (map (λ (u : Use). u.0) (filter (λ (u : Use). u.1 == s.asked.origin) a.uses)) in
        elim (above-line c (home a.uses s) s.path above homed) [
          | inl bad ↦ absurd (both_ways (is_above c (home a.uses s)) not-home bad)
          | inr good ↦ above-less (home a.uses s) y.name x good (λ same. both_ways (is_above c (home a.uses s)) not-home (ap (is_above c) same ∙ above-self c))
        ]

    has : has_switch a.uses s x ≡ true
    has = by (is_above x (home a.uses s)) refl
      where
        either : (b d : Bool) → b ≡ true → (b || d) ≡ true
        either true d g = refl
        either false d g = absurd (false≢true g)

        right : (b d f : Bool) → d ≡ true → (b || (d || f)) ≡ true
        right true d f g = refl
        right false true f g = refl
        right false false f g = absurd (false≢true g)

        by : (b : Bool) → is_above x (home a.uses s) ≡ b → has_switch a.uses s x ≡ true
        by true g =
            let same : home a.uses s ≡ x = above-both x (home a.uses s) g home-up in
            either (same_path (home a.uses s) x) (goes_out a.uses s x || goes_in a.uses s x) (ap (λ u. same_path u x) same ∙ path-self x)
        by false g = right (same_path (home a.uses s) x) (goes_out a.uses s x) (goes_in a.uses s x)
            (ap (λ u. u && not (is_above x (home a.uses s))) up ∙ ap not g)

    driven : drive_switch a.uses o x (Some s) ≡ Some (FromSpot (Carried o c))
    driven =
        ap (λ u. when u (switch_from o s.path x)) has
        ∙ ap (λ u. Some u) (ap (λ u. if u then BySwitch o else FromSpot (Carried o (if is_above x s.path then toward s.path x else parent_of x))) next.0
        ∙ (ap (λ u. FromSpot (Carried o (if u then toward s.path x else parent_of x))) up
        ∙ ap (λ u. FromSpot (Carried o u)) next.1))

    supply-up : (port_in : IsIn (scalar net Output) (added_supply_ports p a c)) → IsIn z (joined_inside x n i here there (scalar net Output)) → Result
    supply-up port_in h =
        let it = scalar-source net (NetBit net ∷ []) (added-bits net refl ∙ supply-bits p a x c (scalar net Output) port_in) h in
        let bit : it.bit ≡ NetBit net = elim it.listed_bit [ inl same ↦ same | inr none ↦ absurd none ] in
        record {
          wire = Carried o x;
          there = record { net = net; bits = bits-are };
          name = supply-name p a o net x bits-are ∙ (sym (ap (node_of x) bit) ∙ it.is_bit);
          driven = FromSpot (Carried o c);
          is = ap (drive_origin (done_of a) a.uses o x) kind ∙ (ap (drive_switch a.uses o x) its ∙ driven);
          gives = record { way = PortBit c net None; is = it.source ∙ ap (From (PortBit c net None)) (sym (supply-name p a o net c bits-are)) };
        }

  supply-kind : (o : ℕ) (kind : Origin) (r : PortView) → slice_get (network_of p).origins o ≡ Some kind → port_by_kind p a.plan a.uses c o kind ≡ Some r → IsIn r (added_supply_ports p a c) → is_input r ≡ false → IsIn z (joined_inside x n i here there r) → Result
  supply-kind o FromPort r k f r_in output h = absurd (both_ways (is_input r) output (ap is_input (of-when-is (has_port_of a.uses o c) (scalar (port_of_origin p o) Input) r f)))
  supply-kind o (FromSwitch input control high) r k f r_in output h =
      let found = then_is (λ (s : Switching). switch_port a.uses s c) (switch_of a.plan o) r f in
      let made = switch-output (goes_out a.uses found.0 c) (goes_in a.uses found.0 c) (switch_net found.0) r found.2 output in
      supply-up o input control high k found.0 found.1 made.0 (subst (λ q. IsIn q (added_supply_ports p a c)) made.1 r_in) (subst (λ q. IsIn z (joined_inside x n i here there q)) made.1 h)

  pub from-supply : (r : PortView) → IsIn r (added_supply_ports p a c) → is_input r ≡ false → IsIn z (joined_inside x n i here there r) → Result
  from-supply r r_in output h =
      let found = of-some (origin_port p a.plan a.uses c) r (numbered 0 (network_of p).origins) r_in in
      supply-kind found.0.0 found.0.1 r (at-numbered (network_of p).origins found.0 found.1) found.2 r_in output h

  -- ---- a control

  module _ (t : ℕ × Part) (t_in : IsIn t (parts_in a.controls c)) (out : t.1.kind ≡ PortOut) where
    abbrev pub k : Node
    k = t.1.control

    t-made : IsIn t.1 a.controls × (t.1.path ≡ c)
    t-made = is-made p a routes c t t_in

    t-is : t.1 ≡ part_at k c PortOut
    t-is = ap (λ u. record { control = k; path = u; kind = t.1.kind }) t-made.1 ∙ ap (λ u. record { control = k; path = c; kind = u }) out

    has-out : has_part a.controls (part_at k c PortOut) ≡ true
    has-out = ap (has_part a.controls) (sym t-is) ∙ has-it p a routes c t t_in

    t-above : is_above c (own_instance k) ≡ true
    t-above = routes.routed.above k c has-out

    t-next : (same_path x (own_instance k) ≡ false) × (toward (own_instance k) x ≡ c)
    t-next = toward-next y.name x (own_instance k) t-above

    not-own : same_path (own_instance k) x ≡ false
    not-own = paths-differ (own_instance k) x (λ same. both_ways (same_path x (own_instance k)) t-next.0 (ap (same_path x) same ∙ path-self x))

    small : (u : ℕ × Part) → IsIn u (parts_in a.controls c) → u.0 < 2 ^ 64
    small u h =
        let stand = filter (λ (q : Part). same_path q.path c) a.controls in
        let inside = slice_get_within stand u.0 u.1 (at-numbered stand u h) in
        let short = filter-short (λ (q : Part). same_path q.path c) a.controls in
        let few = names.controls in
        omega (arith, inside, short, few)

    same-number : (u : ℕ × Part) → IsIn u (parts_in a.controls c) → u.0 ≡ t.0 → u.1 ≡ t.1
    same-number u h g =
        let stand = filter (λ (q : Part). same_path q.path c) a.controls in
        let same : Some u.1 ≡ Some t.1 = sym (at-numbered stand u h) ∙ (ap (slice_get stand) g ∙ at-numbered stand t t_in) in cc

    connection-is : control_connection a.chains a.controls x t ≡ Some (joined_to (control_net t.0) (control_bits a.chains a.controls x k))
    connection-is = ap (λ q. when (not (same_part_kind q Between)) (joined_to (control_net t.0) (control_bits a.chains a.controls x k))) out

    pub control-bits : bits_named (control_net t.0) (added_connections p a x c) ≡ control_bits a.chains a.controls x k
    control-bits =
        let net = control_net t.0 in
        bits-behind net (map (λ (q : PortView). joined_to q.name (NetBit q.name ∷ [])) (added_supply_ports p a c)) (control_connections a.chains a.controls x c) (supply-apart p a c t.0)
        ∙ (ap (bits_named net) (sym (append-none (control_connections a.chains a.controls x c)))
        ∙ bits-there net (control_bits a.chains a.controls x k) (control_connections a.chains a.controls x c) [] (joined_to net (control_bits a.chains a.controls x k))
        (in-some (control_connection a.chains a.controls x) t (joined_to net (control_bits a.chains a.controls x k)) (parts_in a.controls c) t_in connection-is)
        (name-self net)
        (λ d g f.
        let source = of-some (control_connection a.chains a.controls x) d (parts_in a.controls c) g in
        let is_d = of-when-is (not (is_between source.0.1)) (joined_to (control_net source.0.0) (control_bits a.chains a.controls x source.0.1.control)) d source.2 in
        let same = name-true (control_net source.0.0) net (ap (λ (q : ConnectionView). bytes_eq q.port net) (sym is_d) ∙ f) in
        let number = control-number source.0.0 t.0 (small source.0 source.1) (small t t_in) same in
        ap (λ (q : ConnectionView). q.bits) is_d ∙ ap (λ (q : Part). control_bits a.chains a.controls x q.control) (same-number source.0 source.1 number)))
      where
        append-none : {A : Type 0} (xs : List A) → xs ++ [] ≡ xs
        append-none [] = refl
        append-none (v ∷ xs) = ap (λ ys. v ∷ ys) (append-none xs)

    pub carried-bits : control_bits a.chains a.controls x k ≡ carried (parts_in a.controls x) k
    carried-bits =
        let inner_one = routes.inner t.1 t-made.0 in
        ap (control_bits a.chains a.controls x) inner_one.3
        ∙ (ap (λ b. if b then renamed a.chains x (bit_of inner_one.0 inner_one.1) ∷ [] else carried (parts_in a.controls x) (Inner inner_one.0 inner_one.1 inner_one.2)) (ap (λ q. same_path (own_instance q) x) (sym inner_one.3) ∙ not-own)
        ∙ ap (carried (parts_in a.controls x)) (sym inner_one.3))

    out-name : name_by p a (Routed (part_at k c PortOut)) ≡ Inner (control_net t.0) None c
    out-name = ap (λ q. name_by p a (Routed q)) (sym t-is) ∙ place-name p a routes c t t_in

    -- a wire or an output port of the parent is driven from it
    by-part : (b : BitView) → node_of x b ≡ Inner n i x → z ≡ From (PortBit c (control_net t.0) None) (Inner (control_net t.0) None c) → Net p a routes x k b → Result
    by-part b same source net = by net.part.1.kind refl net.wire
      where
        u-made : IsIn net.part.1 a.controls × (net.part.1.path ≡ x)
        u-made = is-made p a routes x net.part net.listed

        u-is : (kind : Kind) → net.part.1.kind ≡ kind → net.part.1 ≡ part_at k x kind
        u-is kind g = ap (λ q. record { control = q; path = net.part.1.path; kind = net.part.1.kind }) net.control ∙ (ap (λ q. record { control = k; path = q; kind = net.part.1.kind }) u-made.1 ∙ ap (part_at k x) g)

        has-u : (kind : Kind) → net.part.1.kind ≡ kind → has_part a.controls (part_at k x kind) ≡ true
        has-u kind g = ap (has_part a.controls) (sym (u-is kind g)) ∙ has-it p a routes x net.part net.listed

        result : (kind : Kind) → net.part.1.kind ≡ kind → part_from a.controls k x kind ≡ Routed (part_at k c PortOut) → Result
        result kind g comes = record {
          wire = Routed (part_at k x kind);
          there = has-u kind g;
          name = ap (λ q. name_by p a (Routed q)) (sym (u-is kind g)) ∙ (place-name p a routes x net.part net.listed ∙ (sym (ap (node_of x) net.bit) ∙ same));
          driven = FromSpot (Routed (part_at k c PortOut));
          is = ap (λ q. when q (FromSpot (part_from a.controls k x kind))) (has-u kind g) ∙ ap (λ q. Some (FromSpot q)) comes;
          gives = record { way = PortBit c (control_net t.0) None; is = source ∙ ap (From (PortBit c (control_net t.0) None)) (sym out-name) };
        }

        by : (kind : Kind) → net.part.1.kind ≡ kind → (net.part.1.kind ≡ Between) ⊎ (has_part a.controls (part_at k x Between) ≡ false) → Result
        by Between g h = result Between g (ap (λ q. Routed (part_at k q PortOut)) t-next.1)
        by PortOut g (inl bad) = let wrong : PortOut ≡ Between = sym g ∙ bad in absurd cc
        by PortOut g (inr none) =
            result PortOut g
            (ap (λ q. if q then OfNode k else if has_part a.controls (part_at k x Between) then Routed (part_at k x Between) else Routed (part_at k (toward (own_instance k) x) PortOut)) not-own
            ∙ (ap (λ q. if q then Routed (part_at k x Between) else Routed (part_at k (toward (own_instance k) x) PortOut)) none
            ∙ ap (λ q. Routed (part_at k q PortOut)) t-next.1))
        by PortIn g h = absurd (both_ways (is_above x (own_instance k)) (routes.aside k x (has-u PortIn g)) (above-parent x y.name (own_instance k) t-above))

    control-up : IsIn z (joined_inside x n i here there (scalar (control_net t.0) Output)) → Result
    control-up h =
        let it = scalar-source (control_net t.0) (carried (parts_in a.controls x) k) (added-bits (control_net t.0) refl ∙ (control-bits ∙ carried-bits)) h in
        by-part it.bit it.is_bit it.source (net-of p a routes x k it.bit it.listed_bit)

  pub from-control : (r : PortView) → IsIn r (control_ports a.controls c) → is_input r ≡ false → IsIn z (joined_inside x n i here there r) → Result
  from-control r r_in output h =
      let found = of-some control_port r (parts_in a.controls c) r_in in
      let made = part-output found.0.0 found.0.1.kind r found.2 output in
      control-up found.0 found.1 made.0 (subst (λ q. IsIn z (joined_inside x n i here there q)) made.1 h)

pub added-outputs-give : AddedOutputsGive
added-outputs-give p a w at from written names routes plain fit x m e y here inner listed target is n i z there r r_in output h =
    elim (in-either r (added_supply_ports p a (y.name ∷ x)) (control_ports a.controls (y.name ∷ x)) r_in) [
      | inl l ↦ from-supply p a w at from written names routes plain fit x m e y here inner listed target is n i z there r l output h
      | inr k ↦ from-control p a w at from written names routes plain fit x m e y here inner listed target is n i z there r k output h
    ]
