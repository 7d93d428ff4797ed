-- What the outputs of a module instance drive in the written netlist.
use Rattle.std.proofs.Common.{◌≡◌, ◌<◌, ◌≤◌, ℕ, zero, suc, ◌+◌, ◌-◌, Bool, true, false, not, cond, List, [], ◌∷◌, ◌++◌, map, length, take, Option, Some, None, inl, inr, refl, sym, ◌∙◌, ap, subst, arith}
use Rattle.std.specs.Prelude.{bytes_eq, filter, flat_map, slice_get, unwrap_or, option_and_then, if◌then◌else◌}
use Rattle.std.proofs.lemmas.Bool.{both_ways, not-true}
use Rattle.lp_model.specs.NetlistView.{BitView, NetBit, PortView, ConnectionView, ConnectionsView, ByName, ByPosition, InstanceView, ModuleView}
use Rattle.lp_spec_design.specs.Keys.{Name, Path, same_path, Node, Inner, Way, PortBit, same_way, Source, From, same_node}
use Rattle.lp_spec_design.specs.Netlists.{Structure, first, module_named, cell_named, module_at, node_of, indices, bits_named, bits_placed, connected, is_input}
use Rattle.lp_spec_design.specs.Graph.{pairs, when, joined_inside, from_target, source_of, from_one}
use Rattle.lp_spec_design.specs.Nodes.{connected_bits, joined_bits}
use Rattle.lp_spec_design.specs.Domains.{way_of}
use Rattle.lp_spec_design.specs.Reads.{path-true, path-self, node-true, node-self, one, other, both}
use Rattle.lp_spec_design.specs.Winners.{IsIn}
use Rattle.lp_spec_design.proofs.Members.{IsApart, in-left, in-right, in-map, in-flat, of-map, of-some, of-when, of-pairs}
use Rattle.lp_spec_design.proofs.Sources.{first_in}
use Rattle.lp_spec_realises.specs.Projects.{Project}
use Rattle.lp_spec_realises.specs.Operators.{Placement}
use Rattle.lp_spec_written.specs.Places.{instances, Standing}
use Rattle.lp_spec_written.specs.Nets.{Stretch, stretches, is_inside, leads_constant, net_bits, far, links, chain_net, near, or_near, renamed, is_across, led, led_bits, led_connections}
use Rattle.lp_spec_written.specs.Written.{Additions, written_by_target, written_instance}
use Rattle.lp_spec_hub.specs.Spots.{OfNode, Before, FromSpot, on_way, is_behind}
use Rattle.lp_spec_hub.specs.Drives.{drive_by, passed, drive_before}
use Rattle.lp_spec_hub.specs.Entries.{HasWaysApart}
use Rattle.lp_spec_wired.specs.Contents.{IsInstance, IsWrittenAt}
use Rattle.lp_spec_wired.specs.Names.{is_stretch, node_at, place_on, name_at, name_on, name_before, name_by}
use Rattle.lp_spec_wired.proofs.Lists.{first-there, bits-left, bits-none}
use Rattle.lp_spec_wired.proofs.Down.{added_ports, added_connections}
use Rattle.lp_spec_wired.proofs.Led.{led-connected, added-own, own-other}
use Rattle.lp_spec_wired.proofs.Chains.{in-filter, is-of, way-true, way-self, has-operator, on-its-way, net-at, node-renamed}
use Rattle.lp_spec_wired.proofs.Wires.{Own, own}
use Rattle.lp_spec_wired.proofs.Bits.{count-some}
use Rattle.lp_spec_written_at.proofs.Lists.{in-some}
use Rattle.lp_spec_written_at.proofs.Modules.{written-name}
use Rattle.lp_spec_written_at.proofs.Instances.{instances-apart}
use Rattle.lp_spec_written_at.proofs.Paths.{source-by-names}
use Rattle.lp_spec_driven.specs.Wires.{IsOfWire}
use Rattle.lp_spec_driven.specs.Sound.{HasNames, HasFitCells, IsPlainSource, IsOnWays, ComesFrom, ahead_by}
use Rattle.lp_spec_driven.specs.Laws.{OutputsGive}
use Rattle.lp_spec_driven.proofs.Sources.{of-when-is, the-source, in-instances, bit-of}
use Rattle.lp_spec_driven.proofs.SourceCells.{instance-bit}
use Rattle.lp_spec_driven.proofs.Operators.{slice-in}
use Rattle.lp_spec_driven.proofs.Linked.{stretch-alone}
use Rattle.lp_spec_driven.proofs.Edges.{edge, edge-low, long-enough, in-get, on-plan, port-is, inside-is, outside-is, not-inside, ToEdge, to-edge, bit_of_port, path_of_way}

-- ---- bits of connections

named-in : (n : Name) (cs : List ConnectionView) (b : BitView) → IsIn b (bits_named n cs) → IsIn b (flat_map (λ (c : ConnectionView). c.bits) cs)
named-in n [] b h = absurd h
named-in n (c ∷ cs) b h = by (bytes_eq c.port n) h (named-in n cs b)
  where
    by : (t : Bool) → IsIn b (if t then c.bits else bits_named n cs) → (IsIn b (bits_named n cs) → IsIn b (flat_map (λ (x : ConnectionView). x.bits) cs)) → IsIn b (c.bits ++ flat_map (λ (x : ConnectionView). x.bits) cs)
    by true g more = in-left b c.bits (flat_map (λ (x : ConnectionView). x.bits) cs) g
    by false g more = in-right b c.bits (flat_map (λ (x : ConnectionView). x.bits) cs) (more g)

placed-in : (n : Name) (ports : List PortView) (values : List (List BitView)) (b : BitView) → IsIn b (bits_placed n ports values) → IsIn b (flat_map (λ (bits : List BitView). bits) values)
placed-in n [] values b h = absurd h
placed-in n (p ∷ ports) [] b h = absurd h
placed-in n (p ∷ ports) (v ∷ values) b h = by (bytes_eq p.name n) h (placed-in n ports values b)
  where
    by : (t : Bool) → IsIn b (if t then v else bits_placed n ports values) → (IsIn b (bits_placed n ports values) → IsIn b (flat_map (λ (bits : List BitView). bits) values)) → IsIn b (v ++ flat_map (λ (bits : List BitView). bits) values)
    by true g more = in-left b v (flat_map (λ (bits : List BitView). bits) values) g
    by false g more = in-right b v (flat_map (λ (bits : List BitView). bits) values) (more g)

pub port-bit : (ports : List PortView) (n : Name) (cs : ConnectionsView) (b : BitView) → IsIn b (connected ports n cs) → IsIn b (connected_bits cs)
port-bit ports n (ByName cs) b h = named-in n cs b h
port-bit ports n (ByPosition values) b h = placed-in n ports values b h

append-none : {A : Type 0} (xs : List A) → xs ++ [] ≡ xs
append-none [] = refl
append-none (x ∷ xs) = ap (λ ys. x ∷ ys) (append-none xs)

pub led-pairs : (all : List Stretch) (x y : Path) (n : Name) (is : List (Option ℕ)) (bits : List BitView) → pairs is (led_bits all x y n is bits) ≡ map (λ z. (z.0, led all x y n z.0 z.1)) (pairs is bits)
led-pairs all x y n [] bits = refl
led-pairs all x y n (i ∷ is) [] = refl
led-pairs all x y n (i ∷ is) (b ∷ bits) = ap (λ r. (i, led all x y n i b) ∷ r) (led-pairs all x y n is bits)

-- ---- a module instance

module _ (p : Project) (a : Additions) (w : Structure) (at : Placement) (from : Way → Node) (written : IsWrittenAt p a w) (names : HasNames p a) (plain : IsPlainSource p.structure) (fit : HasFitCells p a) (on_ways : IsOnWays p a) (comes : ComesFrom p a from)
    (x : Path) (m : ModuleView) (e : module_at p.structure x ≡ Some m) (there : IsIn x (instances p)) (y here : InstanceView) (inner : ModuleView) (listed : IsIn y m.instances) (target : module_named p.structure y.target ≡ Some inner)
    (is : IsInstance w x (written_instance p a x y) here) where
  abbrev pub s : Structure
  s = p.structure

  abbrev pub c : Path
  c = y.name ∷ x

  abbrev v : InstanceView
  v = written_instance p a x y

  pub below : module_at s c ≡ Some inner
  below = sym (source-by-names p fit.free x m y e listed) ∙ target

  own_name : v.name ≡ y.name
  own_name = written-name p a fit.free fit.listed x y

  once : IsApart (instances p)
  once = instances-apart s fit.free.apart

  ways : HasWaysApart p
  ways = names.ways

  -- ---- an output port of the source

  module _ (r : PortView) (r_in : IsIn r inner.ports) (output : is_input r ≡ false) where
    pub alone : filter (λ (q : PortView). bytes_eq q.name r.name) inner.ports ≡ r ∷ []
    alone = plain.ports c inner r below r_in

    abbrev pub bits : List BitView
    bits = connected inner.ports r.name y.connections

    connected-is : (ports : List PortView) → connected ports r.name here.connections ≡ led_bits a.chains x c r.name (indices r.range) bits
    connected-is ports =
        ap (connected ports r.name) (is.connections ∙ ap (λ o. (written_by_target p a x y o).connections) target)
        ∙ (bits-left r.name (led_connections a.chains x c inner.ports y.connections) (added_connections p a x c)
        (bits-none r.name (added_connections p a x c) (λ k h. own-other k.port r.name (added-own p a x c k h) (plain.leaves.ports c inner r below r_in)))
        ∙ (led-connected a.chains x c r.name inner.ports y.connections
        ∙ ap (λ js. led_bits a.chains x c r.name js bits) (ap (flat_map (λ (q : PortView). indices q.range)) alone ∙ append-none (indices r.range))))

    module _ (j : Option ℕ) (b : BitView) (pair : IsIn (j, b) (pairs (indices r.range) bits)) where
      abbrev pub way : Way
      way = PortBit c r.name j

      abbrev pub self : Node
      self = Inner r.name j c

      abbrev pub ops : List Standing
      ops = on_way a.plan.operators way

      b-joined : IsIn b (joined_bits m)
      b-joined = instance-bit m y b listed (port-bit inner.ports r.name y.connections b (of-pairs (j, b) (indices r.range) bits pair).1)

      -- in the source the port drives the bit
      in-source : (n : Name) (i : Option ℕ) → node_of x b ≡ Inner n i x → source_of s (Inner n i x) ≡ Some (From way self)
      in-source n i same =
          the-source s (Inner n i x) (From way self) (plain.single (Inner n i x))
          (in-instances s x n i m y (From way self) e listed
          (subst (λ l. IsIn (From way self) l) (sym (ap (λ o. from_target x n i y o (cell_named s y.target)) target))
          (in-flat (joined_inside x n i y inner) r (From way self) (filter (λ (q : PortView). not (is_input q)) inner.ports)
          (in-filter (λ (q : PortView). not (is_input q)) inner.ports r r_in (ap not output))
          (in-some (λ (z : Option ℕ × BitView). when (same_node (node_of x z.1) (Inner n i x)) (From (PortBit c r.name z.0) (Inner r.name z.0 c))) (j, b) (From way self) (pairs (indices r.range) bits) pair
          (ap (λ t. when t (From way self)) (ap (λ k. same_node k (Inner n i x)) same ∙ node-self (Inner n i x)))))))

      comes-to : ToEdge p a names on_ways c inner below r alone output j
      comes-to = to-edge p a names on_ways c inner below r alone output j

      abbrev pub at_edge : ℕ
      at_edge = (edge p a names on_ways c inner below r alone output j).k

      -- a way to the edge
      module _ (n : Name) (i : Option ℕ) (z : Source) (z_is : z ≡ From way self) where
        abbrev Result : Type 0
        Result = IsOfWire p a w at from (Inner n i x) z

        -- without operators in the parent
        plain-bit : slice_get ops at_edge ≡ None → node_of x (renamed a.chains x b) ≡ Inner n i x → Result
        plain-bit none same =
            let its = bit-of p a x b n i (plain.free x m b e b-joined) same in
            let source = in-source its.net its.index its.is in
            record {
              wire = OfNode (Inner its.net its.index x);
              there = its.free;
              name = its.name;
              driven = FromSpot comes-to.spot;
              is =
                  ap (option_and_then (λ u. Some (drive_by a.plan.operators u))) source
                  ∙ ap (λ u. Some u) (ap (passed ops way self) (all-long none) ∙ comes-to.drive);
              gives = record { way = way; is = z_is ∙ ap (From way) (sym comes-to.name) };
            }
          where
            all-long : slice_get ops at_edge ≡ None → length ops ≡ at_edge
            all-long g = long-enough ops at_edge (edge p a names on_ways c inner below r alone output j).within g

        -- with operators in the parent, of which this one is the first
        module _ (o : Standing) (f : slice_get ops at_edge ≡ Some o) where
          o-on : IsIn o ops
          o-on = slice-in ops at_edge o f

          side : is_behind o ≡ true
          side = (edge p a names on_ways c inner below r alone output j).next o f

          lies : o.path ≡ x
          lies = outside-is p a names on_ways y.name x inner below r alone output j o o-on side

          abbrev its : Own p a names.chains names.stand names.bits way at_edge o
          its = own p a names.chains names.stand names.bits way at_edge o f

          abbrev t : Stretch
          t = its.s

          t-path : t.path ≡ x
          t-path = its.path_is ∙ lies

          t-port : is_input t.bit.port ≡ false
          t-port = ap is_input (port-is p a names on_ways c inner below r alone output j t.bit (is-of p a.plan t its.listed).0.bit its.way_is) ∙ output

          none-before : (xs : List Standing) (k : ℕ) → ((l : ℕ) (u : Standing) → l < k → slice_get xs l ≡ Some u → same_path u.path x ≡ false) → length (filter (λ (u : Standing). same_path u.path x) (take k xs)) ≡ 0
          none-before xs zero none = refl
          none-before [] (suc k) none = refl
          none-before (u ∷ xs) (suc k) none =
              ap (λ d. length (cond d (u ∷ filter (λ (q : Standing). same_path q.path x) (take k xs)) (filter (λ (q : Standing). same_path q.path x) (take k xs)))) (none 0 u (omega arith) refl)
              ∙ none-before xs k (λ l q h g. none (suc l) q (omega (arith, h)) g)

          place : place_on ops at_edge x ≡ 0
          place = none-before ops at_edge (λ l u h g.
              let inside = inside-is p a names on_ways c inner below r alone output j u (slice-in ops l u g) ((edge p a names on_ways c inner below r alone output j).front l u h g) in
              ap (λ q. same_path q x) inside ∙ flip (same_path c x) refl)
            where
              flip : (b : Bool) → same_path c x ≡ b → same_path c x ≡ false
              flip false g = g
              flip true g = let long : suc (length x) ≡ length x = ap length (path-true c x g) in absurd (omega (arith, long))

          first-link : slice_get (links p a.chains t) 0 ≡ Some (NetBit (chain_net t.start) ∷ [])
          first-link =
              let some = count-some p a names.chains t its.listed in
              ap (λ l. slice_get l 0) (ap (λ u. if u then (if leads_constant s t.path t.bit then net_bits t else far p a.chains t ∷ net_bits t) else net_bits t ++ (far p a.chains t ∷ [])) t-port)
              ∙ left (net_bits t) (far p a.chains t ∷ []) (net-at t 0 t.start some (omega arith))
            where
              left : (xs ys : List (List BitView)) → slice_get xs 0 ≡ Some (NetBit (chain_net t.start) ∷ []) → slice_get (xs ++ ys) 0 ≡ Some (NetBit (chain_net t.start) ∷ [])
              left [] ys g = absurd cc
              left (u ∷ xs) ys g = g

          before-name : name_by p a (Before way at_edge) ≡ Inner (chain_net t.start) None x
          before-name =
              ap (name_before p a.chains ops way at_edge) f
              ∙ (ap (λ u. name_on p a.chains way u (place_on ops at_edge u)) lies
              ∙ (ap (name_on p a.chains way x) place
              ∙ (ap (name_at p a.chains x 0) (ap (λ u. first (is_stretch way u) a.chains) (sym lies) ∙ (ap (first (is_stretch way o.path)) names.chains.chains ∙ its.found))
              ∙ ap (λ l. node_at x (unwrap_or l [])) first-link)))

          -- it comes from the port
          from-is : from way ≡ self
          from-is =
              let on = on-plan p a names on_ways c inner below r alone output j o o-on in
              let port = ap is_input (port-is p a names on_ways c inner below r alone output j o.asked.bit (names.chains.bits o on.0) on.1) ∙ output in
              ap from (sym on.1) ∙ (comes o on.0 ∙ (ap (ahead_by s o.asked.bit o.asked.bit.path) port ∙ ap bit_of_port on.1))

          across-bit : Inner (chain_net t.start) None x ≡ Inner n i x → Result
          across-bit same = record {
            wire = Before way at_edge;
            there = record { operator = o; at = f; side = side };
            name = before-name ∙ same;
            driven = FromSpot comes-to.spot;
            is =
                ap (drive_before ops way (from way) at_edge) f
                ∙ (ap (λ u. when u (passed ops way (from way) at_edge)) side
                ∙ ap (λ d. Some d) (ap (λ k. passed ops way k at_edge) from-is ∙ comes-to.drive));
            gives = record { way = way; is = z_is ∙ ap (From way) (sym comes-to.name) };
          }

        -- what stands for the bit in the written connection
        bit-by : (u : Option Stretch) → first (is_across c r.name j) a.chains ≡ u → (k : Option Standing) → slice_get ops at_edge ≡ k → node_of x (or_near (renamed a.chains x b) u) ≡ Inner n i x → Result
        bit-by None g None f same = plain-bit f same
        bit-by None g (Some o) f same =
            let t = (its o f) in
            absurd (none-across (first (is_across c r.name j) a.chains) g t.s (subst (λ l. IsIn t.s l) (sym names.chains.chains) t.listed)
            (both (not (is_inside t.s.path t.s.bit)) (same_way (way_of t.s.bit) way) (ap not (ap (λ u. is_inside u t.s.bit) (t-path o f) ∙ (ap (λ u. same_path x (path_of_way u)) t.way_is ∙ not-inside y.name x)))
            (ap (same_way (way_of t.s.bit)) (sym t.way_is) ∙ way-self t.s.bit.path t.s.bit.port.name t.s.bit.index)))
          where
            none-across : (d : Option Stretch) → d ≡ None → (u : Stretch) → IsIn u a.chains → is_across c r.name j u ≡ true → ⊥
            none-across d h u g2 test = found-none a.chains (g) u g2 test
              where
                found-none : (us : List Stretch) → first (is_across c r.name j) us ≡ None → (q : Stretch) → IsIn q us → is_across c r.name j q ≡ true → ⊥
                found-none [] h2 q h3 h4 = absurd h3
                found-none (z2 ∷ us) h2 q h3 h4 = by (is_across c r.name j z2) refl h2 (found-none us)
                  where
                    by : (d2 : Bool) → is_across c r.name j z2 ≡ d2 → (if d2 then Some z2 else first (is_across c r.name j) us) ≡ None → (first (is_across c r.name j) us ≡ None → (q2 : Stretch) → IsIn q2 us → is_across c r.name j q2 ≡ true → ⊥) → ⊥
                    by true k2 k3 more = absurd cc
                    by false k2 k3 more = elim h3 [ inl same2 ↦ both_ways (is_across c r.name j z2) k2 (ap (is_across c r.name j) (sym same2) ∙ h4) | inr k4 ↦ more k3 q k4 h4 ]
        bit-by (Some t) g k f same =
            let found = first_in (is_across c r.name j) a.chains t g in
            let t_in : IsIn t (stretches p a.plan) = subst (λ l. IsIn t l) names.chains.chains found.0 in
            let t_way : way_of t.bit ≡ way = way-true (way_of t.bit) way (other (not (is_inside t.path t.bit)) _ found.1) in
            let outside : is_inside t.path t.bit ≡ false = not-true _ (one (not (is_inside t.path t.bit)) _ found.1) in
            let some = has-operator p a.plan t t_in in
            let on = on-its-way p a.plan t t_in some.0 some.1 in
            let standing_on : IsIn some.0 ops = subst (λ u. IsIn some.0 (on_way a.plan.operators u)) t_way on.0 in
            with-outer t t_in t_way outside some.0 standing_on on.1 k f same
          where
            with-outer : (t : Stretch) → IsIn t (stretches p a.plan) → way_of t.bit ≡ way → is_inside t.path t.bit ≡ false → (o : Standing) → IsIn o ops → o.path ≡ t.path
                → (k : Option Standing) → slice_get ops at_edge ≡ k → node_of x (near t) ≡ Inner n i x → Result
            with-outer t t_in t_way outside o o_in o_path k f same =
                let o_side : is_behind o ≡ true = is-behind o o_in (ap (λ u. same_path u c) o_path ∙ (ap (λ u. same_path t.path (path_of_way u)) (sym t_way) ∙ outside)) in
                let place = in-get ops o o_in in
                let low = edge-low is_behind ops (edge p a names on_ways c inner below r alone output j) place.0 o place.1 o_side in
                by-edge k f (slice-below ops place.0 at_edge o place.1 low)
              where
                is-behind : (o2 : Standing) → IsIn o2 ops → same_path o2.path c ≡ false → is_behind o2 ≡ true
                is-behind o2 h2 differ = by (is_behind o2) refl
                  where
                    by : (d : Bool) → is_behind o2 ≡ d → d ≡ true
                    by true h3 = refl
                    by false h3 =
                        let inside = inside-is p a names on_ways c inner below r alone output j o2 h2 h3 in
                        absurd (both_ways (same_path o2.path c) differ (ap (λ u. same_path u c) inside ∙ path-self c))

                slice-below : {A : Type 0} (xs : List A) (l k2 : ℕ) (z2 : A) → slice_get xs l ≡ Some z2 → k2 ≤ l → (u : A) × (slice_get xs k2 ≡ Some u)
                slice-below [] l k2 z2 g2 h2 = absurd cc
                slice-below (u ∷ xs) l zero z2 g2 h2 = (u, refl)
                slice-below (u ∷ xs) zero (suc k2) z2 g2 h2 = absurd (omega (arith, h2))
                slice-below (u ∷ xs) (suc l) (suc k2) z2 g2 h2 = slice-below xs l k2 z2 g2 (omega (arith, h2))

                by-edge : (k : Option Standing) → slice_get ops at_edge ≡ k → (u : Standing) × (slice_get ops at_edge ≡ Some u) → Result
                by-edge k2 f2 first_one =
                    let o2 = first_one.0 in
                    let f3 = first_one.1 in
                    let x_path : t.path ≡ x = sym o_path ∙ outside-is p a names on_ways y.name x inner below r alone output j o o_in (is-behind o o_in (ap (λ u. same_path u c) o_path ∙ (ap (λ u. same_path t.path (path_of_way u)) (sym t_way) ∙ outside))) in
                    let one_stretch : t ≡ (its o2 f3).s = stretch-alone p a names.chains names.stand names.bits once ways x there way at_edge o2 f3 (lies o2 f3) t t_in x_path t_way in
                    across-bit o2 f3 (ap (λ (u : Stretch). Inner (chain_net u.start) None x) (sym one_stretch) ∙ (sym (ap (λ d. Inner (chain_net (if d then (t.start + t.count) - 1 else t.start)) None x) (ap (λ (u : Stretch). is_input u.bit.port) one_stretch ∙ t-port o2 f3)) ∙ same))

      -- ---- the net bit in the parent has it as a source

      in-written : (n : Name) (i : Option ℕ) → node_of x (led a.chains x c r.name j b) ≡ Inner n i x → (z : Source) × IsIn z (from_one w x n i here)
      in-written n i same =
          let at_path = written.modules c inner below in
          let found : module_named w here.target ≡ Some at_path.here = is.inner ∙ (ap (λ k. module_at w (k ∷ x)) own_name ∙ at_path.is) in
          let port : IsIn r at_path.here.ports = subst (λ l. IsIn r l) (sym at_path.content.ports) (in-left r inner.ports (added_ports p a c) r_in) in
          let listed_pair : IsIn (j, led a.chains x c r.name j b) (pairs (indices r.range) (connected at_path.here.ports r.name here.connections)) =
          subst (λ l. IsIn (j, led a.chains x c r.name j b) l) (sym (ap (pairs (indices r.range)) (connected-is at_path.here.ports) ∙ led-pairs a.chains x c r.name (indices r.range) bits))
          (in-map (λ (u : Option ℕ × BitView). (u.0, led a.chains x c r.name u.0 u.1)) (j, b) (pairs (indices r.range) bits) pair) in (
            From (PortBit (here.name ∷ x) r.name j) (Inner r.name j (here.name ∷ x)),
            subst (λ l. IsIn (From (PortBit (here.name ∷ x) r.name j) (Inner r.name j (here.name ∷ x))) l) (sym (ap (λ o. from_target x n i here o (cell_named w here.target)) found))
                (in-flat (joined_inside x n i here at_path.here) r (From (PortBit (here.name ∷ x) r.name j) (Inner r.name j (here.name ∷ x))) (filter (λ (q : PortView). not (is_input q)) at_path.here.ports)
                (in-filter (λ (q : PortView). not (is_input q)) at_path.here.ports r port (ap not output))
                (in-some (λ (u : Option ℕ × BitView). when (same_node (node_of x u.1) (Inner n i x)) (From (PortBit (here.name ∷ x) r.name u.0) (Inner r.name u.0 (here.name ∷ x)))) (j, led a.chains x c r.name j b) (From (PortBit (here.name ∷ x) r.name j) (Inner r.name j (here.name ∷ x)))
                (pairs (indices r.range) (connected at_path.here.ports r.name here.connections)) listed_pair
                (ap (λ u. when u (From (PortBit (here.name ∷ x) r.name j) (Inner r.name j (here.name ∷ x)))) (ap (λ k. same_node k (Inner n i x)) same ∙ node-self (Inner n i x))))),
          )

      -- a stretch across the port has operators behind the edge
      across-behind : (t : Stretch) → first (is_across c r.name j) a.chains ≡ Some t → (o : Standing) × IsIn o ops × (is_behind o ≡ true)
      across-behind t g =
          let found = first_in (is_across c r.name j) a.chains t g in
          let t_in : IsIn t (stretches p a.plan) = subst (λ l. IsIn t l) names.chains.chains found.0 in
          let t_way : way_of t.bit ≡ way = way-true (way_of t.bit) way (other (not (is_inside t.path t.bit)) _ found.1) in
          let outside : is_inside t.path t.bit ≡ false = not-true _ (one (not (is_inside t.path t.bit)) _ found.1) in
          let some = has-operator p a.plan t t_in in
          let on = on-its-way p a.plan t t_in some.0 some.1 in
          let standing_on : IsIn some.0 ops = subst (λ u. IsIn some.0 (on_way a.plan.operators u)) t_way on.0 in
          (some.0, standing_on, by some.0 standing_on (ap (λ u. same_path u c) on.1 ∙ (ap (λ u. same_path t.path (path_of_way u)) (sym t_way) ∙ outside)) (is_behind some.0) refl)
        where
          by : (o2 : Standing) → IsIn o2 ops → same_path o2.path c ≡ false → (d : Bool) → is_behind o2 ≡ d → is_behind o2 ≡ true
          by o2 h2 differ true h3 = h3
          by o2 h2 differ false h3 =
              let inside = inside-is p a names on_ways c inner below r alone output j o2 h2 h3 in
              absurd (both_ways (same_path o2.path c) differ (ap (λ u. same_path u c) inside ∙ path-self c))

      -- without operators in the parent it is that of the source's net bit
      pub plain-source : ((o : Standing) → IsIn o ops → is_behind o ≡ false) → (n : Name) (i : Option ℕ) (net : Name) (l : Option ℕ) → node_of x b ≡ Inner n i x → name_by p a (OfNode (Inner n i x)) ≡ Inner net l x → (z : Source) × IsIn z (from_one w x net l here)
      plain-source none n i net l is_bit name =
          in-written net l (by (first (is_across c r.name j) a.chains) refl)
        where
          by : (u : Option Stretch) → first (is_across c r.name j) a.chains ≡ u → node_of x (or_near (renamed a.chains x b) u) ≡ Inner net l x
          by None g = sym (node-renamed a.chains x b) ∙ (ap (λ k. name_by p a (OfNode k)) is_bit ∙ name)
          by (Some t) g = let found = across-behind t g in absurd (both_ways (is_behind found.0) (none found.0 found.1) found.2)

      -- with operators in the parent it is what the first one reads
      pub read-source : (o : Standing) → slice_get ops at_edge ≡ Some o → (net : Name) × (name_by p a (Before way at_edge) ≡ Inner net None x) × (z : Source) × IsIn z (from_one w x net None here)
      read-source o f =
          let outside : not (is_inside (its [] None (From way self) refl o f).s.path (its [] None (From way self) refl o f).s.bit) ≡ true = ap not (ap (λ u. is_inside u (its [] None (From way self) refl o f).s.bit) (t-path [] None (From way self) refl o f) ∙ (ap (λ u. same_path x (path_of_way u)) (its [] None (From way self) refl o f).way_is ∙ not-inside y.name x)) in
          let way_same : same_way (way_of (its [] None (From way self) refl o f).s.bit) way ≡ true = ap (same_way (way_of (its [] None (From way self) refl o f).s.bit)) (sym (its [] None (From way self) refl o f).way_is) ∙ way-self (its [] None (From way self) refl o f).s.bit.path (its [] None (From way self) refl o f).s.bit.port.name (its [] None (From way self) refl o f).s.bit.index in
          let there_first = first-there (is_across c r.name j) a.chains (its [] None (From way self) refl o f).s (subst (λ l. IsIn (its [] None (From way self) refl o f).s l) (sym names.chains.chains) (its [] None (From way self) refl o f).listed) (both (not (is_inside (its [] None (From way self) refl o f).s.path (its [] None (From way self) refl o f).s.bit)) (same_way (way_of (its [] None (From way self) refl o f).s.bit) way) outside way_same) in
          let u_in : IsIn there_first.0 (stretches p a.plan) = subst (λ l. IsIn there_first.0 l) names.chains.chains there_first.1 in
          let u_way : way_of there_first.0.bit ≡ way = way-true (way_of there_first.0.bit) way (other (not (is_inside there_first.0.path there_first.0.bit)) _ there_first.2) in
          let u_path : there_first.0.path ≡ x = path-of there_first.0 there_first.3 u_in u_way in
          let same : there_first.0 ≡ (its [] None (From way self) refl o f).s = stretch-alone p a names.chains names.stand names.bits once ways x there way at_edge o f (lies [] None (From way self) refl o f) there_first.0 u_in u_path u_way in
          let near_is : near there_first.0 ≡ NetBit (chain_net (its [] None (From way self) refl o f).s.start) = ap near same ∙ ap (λ d. NetBit (chain_net (if d then ((its [] None (From way self) refl o f).s.start + (its [] None (From way self) refl o f).s.count) - 1 else (its [] None (From way self) refl o f).s.start))) (t-port [] None (From way self) refl o f) in
          let led_is : led a.chains x c r.name j b ≡ NetBit (chain_net (its [] None (From way self) refl o f).s.start) = ap (or_near (renamed a.chains x b)) there_first.3 ∙ near_is in
          let made = in-written (chain_net (its [] None (From way self) refl o f).s.start) None (ap (node_of x) led_is) in
          (chain_net (its [] None (From way self) refl o f).s.start, before-name [] None (From way self) refl o f, made.0, made.1)
        where
          path-of : (u : Stretch) → first (is_across c r.name j) a.chains ≡ Some u → IsIn u (stretches p a.plan) → way_of u.bit ≡ way → u.path ≡ x
          path-of u g u_in u_way =
              let some = has-operator p a.plan u u_in in
              let on = on-its-way p a.plan u u_in some.0 some.1 in
              let standing_on : IsIn some.0 ops = subst (λ q. IsIn some.0 (on_way a.plan.operators q)) u_way on.0 in
              let test = (first_in (is_across c r.name j) a.chains u g).1 in
              let outside = not-true _ (one (not (is_inside u.path u.bit)) _ test) in
              sym on.1 ∙ outside-is p a names on_ways y.name x inner below r alone output j some.0 standing_on (by some.0 standing_on (ap (λ q. same_path q c) on.1 ∙ (ap (λ q. same_path u.path (path_of_way q)) (sym u_way) ∙ outside)) (is_behind some.0) refl)
            where
              by : (o2 : Standing) → IsIn o2 ops → same_path o2.path c ≡ false → (d : Bool) → is_behind o2 ≡ d → is_behind o2 ≡ true
              by o2 h2 differ true h3 = h3
              by o2 h2 differ false h3 =
                  let inside = inside-is p a names on_ways c inner below r alone output j o2 h2 h3 in
                  absurd (both_ways (same_path o2.path c) differ (ap (λ q. same_path q c) inside ∙ path-self c))

  -- ---- a source from an output of the module

  module _ (n : Name) (i : Option ℕ) (z : Source) where
    pub from-output : (r : PortView) → IsIn r inner.ports → is_input r ≡ false → (ports : List PortView) (k : ModuleView) → k.ports ≡ ports → IsIn z (joined_inside x n i here k r) → IsOfWire p a w at from (Inner n i x) z
    from-output r r_in output ports k k_ports h =
        let found = of-some (λ (u : Option ℕ × BitView). when (same_node (node_of x u.1) (Inner n i x)) (From (PortBit (here.name ∷ x) r.name u.0) (Inner r.name u.0 (here.name ∷ x)))) z (pairs (indices r.range) (connected k.ports r.name here.connections)) h in
        let test = node-true (node_of x found.0.1) (Inner n i x) (of-when (same_node (node_of x found.0.1) (Inner n i x)) (From (PortBit (here.name ∷ x) r.name found.0.0) (Inner r.name found.0.0 (here.name ∷ x))) z found.2) in
        let is_z = of-when-is (same_node (node_of x found.0.1) (Inner n i x)) (From (PortBit (here.name ∷ x) r.name found.0.0) (Inner r.name found.0.0 (here.name ∷ x))) z found.2 in
        let listed_pair = subst (λ l. IsIn found.0 l) (ap (pairs (indices r.range)) (connected-is r r_in output k.ports) ∙ led-pairs a.chains x c r.name (indices r.range) (bits r r_in output)) found.1 in
        let pair = of-map (λ (u : Option ℕ × BitView). (u.0, led a.chains x c r.name u.0 u.1)) found.0 (pairs (indices r.range) (bits r r_in output)) listed_pair in
        let index : found.0.0 ≡ pair.0.0 = ap (λ (u : Option ℕ × BitView). u.0) pair.2 in
        let bit : found.0.1 ≡ led a.chains x c r.name pair.0.0 pair.0.1 = ap (λ (u : Option ℕ × BitView). u.1) pair.2 in
        bit-by r r_in output pair.0.0 pair.0.1 pair.1 n i z
        (is_z ∙ (ap (λ u. From (PortBit (u ∷ x) r.name found.0.0) (Inner r.name found.0.0 (u ∷ x))) (is.name ∙ own_name) ∙ ap (λ u. From (PortBit c r.name u) (Inner r.name u c)) index))
        (first (is_across c r.name pair.0.0) a.chains) refl
        (slice_get (ops r r_in output pair.0.0 pair.0.1 pair.1) (at_edge r r_in output pair.0.0 pair.0.1 pair.1)) refl
        (ap (node_of x) (sym bit) ∙ test)

pub outputs-give : OutputsGive
outputs-give p a w at from written names plain fit on_ways comes x m e there y here inner listed target is r r_in output n i z k h =
    from-output p a w at from written names plain fit on_ways comes x m e there y here inner listed target is n i z r r_in output k.ports k refl h
