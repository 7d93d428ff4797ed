-- What the data pin of an operator is connected to: the net bit of the wire that the operator reads.
use Rattle.std.proofs.Common.{◌≡◌, ◌⊎◌, ◌≤◌, ℕ, zero, suc, ◌+◌, ◌-◌, Bool, true, false, not, ◌&&◌, ◌||◌, List, [], ◌∷◌, ◌++◌, map, length, Option, Some, None, inl, inr, refl, sym, ap, ◌∙◌, subst, arith}
use Rattle.std.specs.Prelude.{is_some, slice_get, unwrap_or, option_and_then, if◌then◌else◌, bytes_eq}
use Rattle.std.specs.List.{list_any}
use Rattle.std.proofs.lemmas.Bool.{false≢true, true≢false}
use Rattle.lp_model.specs.NetlistView.{BitView, NetBit, SelectBit, ConstBit, InstanceView, ModuleView}
use Rattle.lp_model.specs.LibraryView.{PgPinView, PinView, CellView}
use Rattle.lp_spec_design.specs.Keys.{Name, Path, same_path, same_index, same_bool, PortBit, Node, Inner, Fixed, Way, same_way}
use Rattle.lp_spec_design.specs.Netlists.{Structure, cell_at, module_at, module_named, instance_named, node_of, connected, indices, is_input}
use Rattle.lp_spec_design.specs.Instances.{Placed}
use Rattle.lp_spec_design.specs.Nodes.{joined_bits}
use Rattle.lp_spec_design.specs.Graph.{source_of, when, pairs}
use Rattle.lp_spec_design.specs.Domains.{BoundaryBit, way_of}
use Rattle.lp_spec_design.specs.Reads.{both, path-true, path-self}
use Rattle.lp_spec_design.specs.Winners.{IsIn}
use Rattle.lp_spec_design.proofs.Members.{of-filter, of-some, of-pairs}
use Rattle.lp_spec_design.proofs.Sources.{first_in}
use Rattle.lp_spec_fit.specs.Fits.{one_output}
use Rattle.lp_spec_realises.specs.Projects.{Project}
use Rattle.lp_spec_realises.specs.Tops.{ports_of}
use Rattle.lp_spec_realises.specs.Implements.{parent_of}
use Rattle.lp_spec_realises.specs.Ends.{AtPin, AtSwitched, AtConstant, Nowhere, output_end, switched_end, switched_pin}
use Rattle.lp_spec_written.specs.Places.{Standing}
use Rattle.lp_spec_written.specs.Nets.{Stretch, same_bit, bits_at, connected_at, stood_at, stood, is_inside, is_constant, leads_constant, bit_of, chain_net, net_bits, far, links, Linked, renamed}
use Rattle.lp_spec_written.specs.Written.{Additions}
use Rattle.lp_spec_hub.specs.Spots.{Spot, OfNode, Behind, Before, Lead, Drive, AsSource, ByOperator, BySwitch, ByPort, FromSpot, on_way, is_behind}
use Rattle.lp_spec_hub.specs.Drives.{drive, behind_last, passed, drive_behind, drive_before, is_fixed, is_led, first_read, read_before, read_by}
use Rattle.lp_spec_hub.specs.Begins.{StartsAt, IsWired}
use Rattle.lp_spec_wired.specs.Names.{node_at, place_on, name_of_node, name_at, name_on, name_before, name_behind, name_by, placement_by}
use Rattle.lp_spec_wired.specs.Laws.{done_of}
use Rattle.lp_spec_wired.proofs.Chains.{is-of, way-true, net-at, node-renamed}
use Rattle.lp_spec_wired.proofs.Kept.{get-left}
use Rattle.lp_spec_wired.proofs.Bits.{Renamed, Unnamed, node-by, count-some}
use Rattle.lp_spec_wired.proofs.Wires.{near_number}
use Rattle.lp_spec_written_at.specs.Sources.{node_of_bits}
use Rattle.lp_spec_driven.specs.Sound.{IsProper, ahead_by, node_ahead}
use Rattle.lp_spec_driven.proofs.Short.{stood-short}
use Rattle.lp_spec_driven.proofs.Linked.{IsLinked}
use Rattle.lp_spec_driven.proofs.Operators.{place-next, slice-in, bit-self}
use Rattle.lp_spec_wires.specs.Standing.{is_kept, is_wire, AllStand}
use Rattle.lp_spec_begun.proofs.Bits.{kept-inner}
use Rattle.lp_spec_begun.proofs.CellInstances.{connected-in, instance-bit, kept-bit}

-- ---- a wire that something else drives has a net bit

output-no-constant : (w : Structure) (a : Placed) (b : Bool) → AtConstant b ≡ output_end w a → ⊥
output-no-constant w a b e = by (option_and_then one_output (cell_of_it)) refl
  where
    cell_of_it : Option CellView
    cell_of_it = cell_at w a.path a.instance

    by : (o : Option PinView) → option_and_then one_output cell_of_it ≡ o → ⊥
    by None g = let bad : AtConstant b ≡ Nowhere = e ∙ rw (g) refl in absurd cc
    by (Some q) g = let bad : AtConstant b ≡ AtPin a.path a.instance q.name = e ∙ rw (g) refl in absurd cc

switched-no-constant : (w : Structure) (a : Placed) (b : Bool) → AtConstant b ≡ switched_end w a → ⊥
switched-no-constant w a b e = by (switched_pin w a) refl
  where
    by : (o : Option PgPinView) → switched_pin w a ≡ o → ⊥
    by None g = let bad : AtConstant b ≡ Nowhere = e ∙ rw (g) refl in absurd cc
    by (Some q) g = let bad : AtConstant b ≡ AtSwitched a.path a.instance q.name = e ∙ rw (g) refl in absurd cc

abbrev pub is_added : Drive → Bool
is_added (AsSource y) = false
is_added (ByOperator way k) = true
is_added (BySwitch o) = true
is_added (ByPort o) = true
is_added (FromSpot y) = true

module _ (p : Project) (a : Additions) (w : Structure) (from : Way → Node) (stand : AllStand p a w from) where
  not-fixed : (x : Spot) (d : Drive) → is_added d ≡ true → IsWired p w (placement_by p a) (name_by p a) x (Some d) → (b : Bool) → name_by p a x ≡ Fixed b → ⊥
  not-fixed x (AsSource y) g h b e = absurd (false≢true g)
  not-fixed x (ByOperator way k) g h b e =
      let there = subst (λ n. StartsAt w n (output_end w ((placement_by p a).operator way k))) e h in
      output-no-constant w ((placement_by p a).operator way k) b there.own
  not-fixed x (BySwitch o) g h b e =
      let there = subst (λ n. StartsAt w n (switched_end w ((placement_by p a).switch o))) e h in
      switched-no-constant w ((placement_by p a).switch o) b there.own
  not-fixed x (ByPort o) g h b e = let bad : source_of w (Fixed b) ≡ Some _ = ap (source_of w) (sym e) ∙ h.leads.source in absurd cc
  not-fixed x (FromSpot y) g h b e = let bad : source_of w (Fixed b) ≡ Some _ = ap (source_of w) (sym e) ∙ h.source in absurd cc

  -- what is connected to its net bit is connected
  pub bits-name : (x : Path) (bits : List BitView) (spot : Spot) (d : Drive) → is_added d ≡ true → drive p (done_of a) from spot ≡ Some d → is_wire p a from spot ≡ true
      → name_by p a spot ≡ node_at x bits → node_of_bits x bits ≡ Some (name_by p a spot)
  bits-name x [] spot d g is there name = absurd (not-fixed spot d g (subst (IsWired p w (placement_by p a) (name_by p a) spot) is (stand spot there)) false name)
  bits-name x (b ∷ bits) spot d g is there name = ap (λ z. Some z) (sym name)

-- ---- what stood in the parent is joined there

pub record IsStood (s : Structure) (x : Path) (b : BitView) : Type 0 where
  pub parent : ModuleView
  pub at : module_at s x ≡ Some parent
  pub joined : IsIn b (joined_bits parent)

then-in : {A B : Type 0} (f : A → Option (List B)) (o : Option A) (b : B) → IsIn b (unwrap_or (option_and_then f o) []) → (x : A) × (o ≡ Some x) × IsIn b (unwrap_or (f x) [])
then-in f None b h = absurd h
then-in f (Some x) b h = (x, refl, h)

at-bit : (i : Option ℕ) (zs : List (Option ℕ × BitView)) (b : BitView) → IsIn b (bits_at i zs) → (z : Option ℕ × BitView) × IsIn z zs × (z.1 ≡ b)
at-bit i zs b h =
    let found = of-some (λ (z : Option ℕ × BitView). when (same_index z.0 i) z.1) b zs h in
    (found.0, found.1, of-when-is (same_index found.0.0 i) found.0.1 b found.2)
  where
    of-when-is : (c : Bool) (u v : BitView) → when c u ≡ Some v → u ≡ v
    of-when-is true u v e = cc
    of-when-is false u v e = absurd cc

pub of-stood : (s : Structure) (c : BoundaryBit) (i : Name) (x : Path) (b : BitView) → IsIn b (stood_at s c (i ∷ x)) → IsStood s x b
of-stood s c i x b h =
    let above = then-in (λ (m : ModuleView). option_and_then (λ (y : InstanceView). Some (connected_at s c y)) (instance_named m i)) (module_at s x) b h in
    let inst = then-in (λ (y : InstanceView). Some (connected_at s c y)) (instance_named above.0 i) b above.2 in
    let values = connected (ports_of (module_named s inst.0.target)) c.port.name inst.0.connections in
    let bit = at-bit c.index (pairs (indices c.port.range) values) b inst.2 in
    let among = subst (λ v. IsIn v values) bit.2 (of-pairs bit.0 (indices c.port.range) values bit.1).1 in
    record {
      parent = above.0;
      at = above.1;
      joined = instance-bit above.0 inst.0 b (first_in (λ (y : InstanceView). bytes_eq y.name i) above.0.instances inst.0 inst.1).0 (connected-in (ports_of (module_named s inst.0.target)) c.port.name inst.0.connections b among);
    }

-- ---- an operator

earlier : {A : Type 0} (xs : List A) (j : ℕ) (x : A) → slice_get xs (suc j) ≡ Some x → (y : A) × (slice_get xs j ≡ Some y)
earlier [] j x e = absurd cc
earlier (y ∷ xs) zero x e = (y, refl)
earlier (y ∷ xs) (suc j) x e = earlier xs j x e

ahead-out : (s : Structure) (b : BoundaryBit) (x : Path) → ahead_by s b x false ≡ Inner b.port.name b.index b.path
ahead-out s b [] = refl
ahead-out s b (i ∷ x) = refl

passed-added : (here : List Standing) (way : Way) (from : Node) (k : ℕ) → is_added (passed here way from k) ≡ true
passed-added here way from zero = refl
passed-added here way from (suc k) = by (slice_get here k)
  where
    side : (b : Bool) → is_added (if b then ByOperator way k else FromSpot (Behind way k)) ≡ true
    side true = refl
    side false = refl

    by : (o : Option Standing) → is_added (behind_last way k o) ≡ true
    by None = refl
    by (Some o) = side (is_behind o)

module _ (p : Project) (a : Additions) (w : Structure) (from : Way → Node) (proper : IsProper p a from) (stand : AllStand p a w from)
    (x : Path) (m : ModuleView) (e : module_at p.structure x ≡ Some m) (y : Name × Linked) (way : Way) (k : ℕ) (link : IsLinked p a x y way k) where
  abbrev s : Structure
  s = p.structure

  abbrev o : Standing
  o = y.1.0

  abbrev b : BoundaryBit
  b = o.asked.bit

  abbrev here : List Standing
  here = on_way a.plan.operators way

  abbrev bits : List BitView
  bits = y.1.1.0

  abbrev spot : Spot
  spot = read_by way (from way) k o

  on-plan : (r : Standing) → IsIn r here → IsIn r a.plan.operators × (way_of r.asked.bit ≡ way)
  on-plan r g = let found = of-filter (λ (t : Standing). same_way (way_of t.asked.bit) way) r a.plan.operators g in (found.0, way-true (way_of r.asked.bit) way found.1)

  in-plan : IsIn o a.plan.operators × (way_of b ≡ way)
  in-plan = on-plan o (slice-in here k o link.at)

  -- the net bit before it
  named-on : (r : List BitView) (n : ℕ) → slice_get (links p a.chains link.s) n ≡ Some r → name_on p a.chains way x n ≡ node_at x r
  named-on r n f = ap (name_at p a.chains x n) link.found ∙ ap (λ l. node_at x (unwrap_or l [])) f

  before-name : name_before p a.chains here way k (slice_get here k) ≡ node_at x bits
  before-name = ap (name_before p a.chains here way k) link.at ∙ (ap (λ u. name_on p a.chains way u (place_on here k u)) link.path ∙ named-on bits (place_on here k x) link.reads)

  -- what it reads is a wire, and its pin is connected to the wire's net bit
  pub record Reads (wire : Spot) : Type 0 where
    pub name : node_of_bits x bits ≡ Some (name_by p a wire)
    pub there : is_wire p a from wire ≡ true

  by-drive : (wire : Spot) (d : Drive) → is_added d ≡ true → drive p (done_of a) from wire ≡ Some d → is_wire p a from wire ≡ true → name_by p a wire ≡ node_at x bits → Reads wire
  by-drive wire d g is there name = record { name = bits-name p a w from stand x bits wire d g is there name; there = there }

  -- behind the edge
  behind-reads : is_behind o ≡ true → Reads (Before way k)
  behind-reads side =
      let is : drive p (done_of a) from (Before way k) ≡ Some (passed here way (from way) k) =
      ap (drive_before here way (from way) k) link.at ∙ ap (λ t. when t (passed here way (from way) k)) side in
      by-drive (Before way k) (passed here way (from way) k) (passed-added here way (from way) k) is (ap (λ r. is_some r) is) before-name

  -- those before the edge stand in one instance
  front-input : (c : BoundaryBit) (z : Path) (r : Bool) → same_bool r (is_inside z c) ≡ false → (z ≡ c.path) ⊎ (z ≡ parent_of c.path) → z ≡ (if r then parent_of c.path else c.path)
  front-input c z true g (inr up) = up
  front-input c z true g (inl own) = absurd (true≢false (sym (ap (λ u. same_path u c.path) own ∙ path-self c.path) ∙ g))
  front-input c z false g near = by (is_inside z c) refl g
    where
      by : (t : Bool) → is_inside z c ≡ t → same_bool false t ≡ false → z ≡ c.path
      by true f h = path-true z c.path f
      by false f h = absurd (true≢false h)

  front-path : (r : Standing) → IsIn r a.plan.operators → is_behind r ≡ false → r.path ≡ (if is_input r.asked.bit.port then parent_of r.asked.bit.path else r.asked.bit.path)
  front-path r g side = front-input r.asked.bit r.path (is_input r.asked.bit.port) side (proper.on_ways.near r g)

  module _ (side : is_behind o ≡ false) where
    o-path : x ≡ (if is_input b.port then parent_of b.path else b.path)
    o-path = sym link.path ∙ front-path o in-plan.0 side

    -- behind another one
    next-reads : (j : ℕ) → k ≡ suc j → Reads (Behind way j)
    next-reads j is =
        let at : slice_get here (suc j) ≡ Some o = ap (slice_get here) (sym is) ∙ link.at in
        let before = earlier here j o at in
        let r = before.0 in
        let r_on = on-plan r (slice-in here j r before.1) in
        let same_bit : r.asked.bit ≡ b = proper.names.bits.one r.asked.bit b (proper.names.chains.bits r r_on.0) (proper.names.chains.bits o in-plan.0) (r_on.1 ∙ sym in-plan.1) in
        let r_side : is_behind r ≡ false = by r at before.1 (is_behind r) refl in
        let lies : r.path ≡ x = front-path r r_on.0 r_side ∙ (ap (λ (c : BoundaryBit). if is_input c.port then parent_of c.path else c.path) same_bit ∙ sym o-path) in
        let place : place_on here (suc j) x ≡ suc (place_on here j x) = place-next (λ (t : Standing). same_path t.path x) here j r before.1 (ap (λ u. same_path u x) lies ∙ path-self x) in
        let driven : drive p (done_of a) from (Behind way j) ≡ Some (ByOperator way j) = ap (drive_behind way j) before.1 ∙ ap (λ t. when (not t) (ByOperator way j)) r_side in
        by-drive (Behind way j) (ByOperator way j) refl driven (ap (λ q. is_some q) driven)
        (ap (name_behind p a.chains here way j) before.1
        ∙ (ap (λ u. name_on p a.chains way u (suc (place_on here j u))) lies
        ∙ (ap (name_on p a.chains way x) (sym place ∙ ap (λ n. place_on here n x) (sym is))
        ∙ named-on bits (place_on here k x) link.reads)))
      where
        by : (r : Standing) → slice_get here (suc j) ≡ Some o → slice_get here j ≡ Some r → (t : Bool) → is_behind r ≡ t → t ≡ false
        by r at before true f = absurd (false≢true (sym side ∙ proper.on_ways.flow way j r o before at f))
        by r at before false f = refl

    -- the first one, a constant by its own net
    lead-reads : k ≡ 0 → is_fixed (from way) ≡ true → Reads (Lead way)
    lead-reads is fixed =
        let at : slice_get here 0 ≡ Some o = ap (slice_get here) (sym is) ∙ link.at in
        let driven : drive p (done_of a) from (Lead way) ≡ Some (FromSpot (OfNode (from way))) =
        ap (λ r. when (is_led (from way) r) (FromSpot (OfNode (from way)))) at
        ∙ (ap (λ t. when (not t && is_fixed (from way)) (FromSpot (OfNode (from way)))) side
        ∙ ap (λ t. when t (FromSpot (OfNode (from way)))) fixed) in
        by-drive (Lead way) (FromSpot (OfNode (from way))) refl driven (ap (λ q. is_some q) driven)
        (ap (λ n. name_before p a.chains here way n (slice_get here n)) (sym is) ∙ before-name)

    -- the net bit from which the way comes
    ahead : from way ≡ node_ahead s b
    ahead = ap from (sym in-plan.1) ∙ proper.comes o in-plan.0

    bit-is : link.s.bit ≡ b
    bit-is = proper.names.bits.one link.s.bit b (is-of p a.plan link.s link.listed).0.bit (proper.names.chains.bits o in-plan.0) (link.way_is ∙ sym in-plan.1)

    module _ (first_one : k ≡ 0) where
      first-bits : slice_get (links p a.chains link.s) 0 ≡ Some bits
      first-bits = ap (λ n. slice_get (links p a.chains link.s) (place_on here n x)) (sym first_one) ∙ link.reads

      out-bits : is_input b.port ≡ false → bits ≡ NetBit (chain_net link.s.start) ∷ []
      out-bits out =
          let start : link.s.start ≡ link.s.start + 0 = omega arith in
          let net = net-at link.s 0 link.s.start (count-some p a proper.names.chains link.s link.listed) start in
          let form : links p a.chains link.s ≡ net_bits link.s ++ (far p a.chains link.s ∷ []) =
          ap (λ t. if t then (if leads_constant s link.s.path link.s.bit then net_bits link.s else far p a.chains link.s ∷ net_bits link.s) else net_bits link.s ++ (far p a.chains link.s ∷ [])) (ap (λ (c : BoundaryBit). is_input c.port) bit-is ∙ out) in
          inside (sym first-bits ∙ (ap (λ l. slice_get l 0) form ∙ get-left (net_bits link.s) (far p a.chains link.s ∷ []) 0 _ net))
        where
          inside : {u v : List BitView} → Some u ≡ Some v → u ≡ v
          inside g = cc

      out-reads : is_input b.port ≡ false → Reads (OfNode (from way))
      out-reads out =
          let lies : x ≡ b.path = o-path ∙ ap (λ t. if t then parent_of b.path else b.path) out in
          let node : from way ≡ Inner b.port.name b.index b.path = ahead ∙ (ap (ahead_by s b b.path) out ∙ ahead-out s b b.path) in
          let at_path : module_at s b.path ≡ Some m = ap (module_at s) (sym lies) ∙ e in
          record {
            name = ap (node_of_bits x) (out-bits out)
                ∙ (ap (λ z. Some (Inner (chain_net link.s.start) None z)) lies
                ∙ ap (λ z. Some z) (sym (ap (λ n. name_by p a (OfNode n)) node ∙ by lies (node-by p a proper.names.chains b.port.name b.index b.path))));
            there = ap (is_kept s) node ∙ kept-inner s b.port.name b.index b.path m (proper.names.bits.free b (proper.names.chains.bits o in-plan.0)) at_path;
          }
        where
          near-start : (t : Stretch) → is_input t.bit.port ≡ false → near_number t ≡ t.start
          near-start t g = ap (λ r. if r then (t.start + t.count) - 1 else t.start) g

          by : x ≡ b.path → Renamed p a proper.names.chains b.port.name b.index b.path (name_by p a (OfNode (Inner b.port.name b.index b.path))) ⊎ Unnamed p a proper.names.chains b.port.name b.index b.path (name_by p a (OfNode (Inner b.port.name b.index b.path)))
              → name_by p a (OfNode (Inner b.port.name b.index b.path)) ≡ Inner (chain_net link.s.start) None b.path
          by lies (inl r) =
              let way_is : way_of r.s.bit ≡ way = way-of-bit r.s.bit (sym (path-true r.s.path r.s.bit.path r.within) ∙ r.path) r.name r.index ∙ in-plan.1 in
              let same : r.s ≡ link.s = link.alone r.s r.listed (r.path ∙ sym lies) way_is in
              r.is ∙ ap (λ n. Inner (chain_net n) None b.path) (ap near_number same ∙ near-start link.s (ap (λ (c : BoundaryBit). is_input c.port) bit-is ∙ out))
            where
              way-of-bit : (c : BoundaryBit) → c.path ≡ b.path → c.port.name ≡ b.port.name → c.index ≡ b.index → way_of c ≡ way_of b
              way-of-bit c f g h = ap (λ z. PortBit z c.port.name c.index) f ∙ (ap (λ z. PortBit b.path z c.index) g ∙ ap (PortBit b.path b.port.name) h)
          by lies (inr u) =
              absurd (u.none link.s link.listed
              (both (is_inside link.s.path link.s.bit) _
              (ap (λ z. is_inside z link.s.bit) link.lies ∙ (ap (is_inside x) bit-is ∙ (ap (λ z. same_path z b.path) lies ∙ path-self b.path)))
              (both (same_path link.s.path b.path) _ (ap (λ z. same_path z b.path) (link.lies ∙ lies) ∙ path-self b.path)
              (ap (λ (c : BoundaryBit). same_bit (bit_of c.port.name c.index) (bit_of b.port.name b.index)) bit-is ∙ bit-self b.port.name b.index))))

      -- at an input what stood in the parent
      in-bits : is_input b.port ≡ true → (u : BitView) → stood s b ≡ u ∷ [] → is_constant u ≡ false → bits ≡ renamed a.chains x u ∷ []
      in-bits input u stands plain =
          let outside : is_inside x b ≡ false = by_side (is_input b.port) input (sym (ap (λ z. same_bool (is_input b.port) (is_inside z b)) link.path) ∙ side) in
          let inside_s : is_inside link.s.path link.s.bit ≡ false = ap (λ z. is_inside z link.s.bit) link.lies ∙ (ap (is_inside x) bit-is ∙ outside) in
          let input_s : is_input link.s.bit.port ≡ true = ap (λ (c : BoundaryBit). is_input c.port) bit-is ∙ input in
          let stood_s : stood s link.s.bit ≡ u ∷ [] = ap (stood s) bit-is ∙ stands in
          let leads : leads_constant s link.s.path link.s.bit ≡ false =
          ap (λ t. t && (not (is_inside link.s.path link.s.bit) && list_any is_constant (stood s link.s.bit))) input_s
          ∙ (ap (λ t. not t && list_any is_constant (stood s link.s.bit)) inside_s
          ∙ (ap (list_any is_constant) stood_s ∙ ap (λ t. t || false) plain)) in
          let far_is : far p a.chains link.s ≡ renamed a.chains x u ∷ [] =
          ap (λ t. if t then bit_of link.s.bit.port.name link.s.bit.index ∷ [] else map (renamed a.chains link.s.path) (stood s link.s.bit)) inside_s
          ∙ (ap (map (renamed a.chains link.s.path)) stood_s ∙ ap (λ z. renamed a.chains z u ∷ []) link.lies) in
          let form : links p a.chains link.s ≡ far p a.chains link.s ∷ net_bits link.s =
          ap (λ t. if t then (if leads_constant s link.s.path link.s.bit then net_bits link.s else far p a.chains link.s ∷ net_bits link.s) else net_bits link.s ++ (far p a.chains link.s ∷ [])) input_s
          ∙ ap (λ t. if t then net_bits link.s else far p a.chains link.s ∷ net_bits link.s) leads in
          inside (sym first-bits ∙ ap (λ l. slice_get l 0) form) ∙ far_is
        where
          inside : {u v : List BitView} → Some u ≡ Some v → u ≡ v
          inside g = cc

          by_side : (t : Bool) → t ≡ true → same_bool t (is_inside x b) ≡ false → is_inside x b ≡ false
          by_side true f g = g
          by_side false f g = absurd (false≢true f)

      fixed-by : (z : Path) (u : BitView) → is_fixed (node_of z u) ≡ false → is_constant u ≡ false
      fixed-by z (NetBit n) f = refl
      fixed-by z (SelectBit n i) f = refl
      fixed-by z (ConstBit c) f = absurd (true≢false f)

      in-reads : is_input b.port ≡ true → is_fixed (from way) ≡ false → Reads (OfNode (from way))
      in-reads input plain = by b.path refl
        where
          stood-by : (i : Name) (z : Path) → b.path ≡ i ∷ z → from way ≡ node_at z (stood s b) → (us : List BitView) → stood s b ≡ us → length us ≤ 1 → Reads (OfNode (from way))
          stood-by i z f node [] g short = absurd (true≢false (sym (ap is_fixed (node ∙ ap (node_at z) g)) ∙ plain))
          stood-by i z f node (u ∷ v ∷ us) g short = absurd (omega (arith, short))
          stood-by i z f node (u ∷ []) g short =
              let node_is : from way ≡ node_of z u = node ∙ ap (node_at z) g in
              let lies : x ≡ z = o-path ∙ (ap (λ t. if t then parent_of b.path else b.path) input ∙ ap parent_of f) in
              let bits_are = in-bits input u g (fixed-by z u (sym (ap is_fixed node_is) ∙ plain)) in
              let was = of-stood s b i z u (subst (λ l. IsIn u l) (sym g ∙ ap (stood_at s b) f) (inl refl)) in
              record {
                name = ap (node_of_bits x) bits_are
                    ∙ (ap (λ q. Some q) (sym (node-renamed a.chains x u))
                    ∙ ap (λ q. Some (name_of_node a.chains q)) (ap (λ q. node_of q u) lies ∙ sym node_is));
                there = ap (is_kept s) node_is ∙ kept-bit s proper.plain.free z was.parent u was.at was.joined;
              }

          by : (q : Path) → b.path ≡ q → Reads (OfNode (from way))
          by [] f =
              let top : x ≡ [] = o-path ∙ (ap (λ t. if t then parent_of b.path else b.path) input ∙ ap parent_of f) in
              let inner : is_behind o ≡ true = ap (λ t. same_bool t (is_inside o.path b)) input ∙ (ap (λ z. same_path z b.path) (link.path ∙ top) ∙ ap (same_path []) f) in
              absurd (false≢true (sym side ∙ inner))
          by (i ∷ z) f = stood-by i z f (ahead ∙ (ap (ahead_by s b b.path) input ∙ ap (λ q. ahead_by s b q true) f)) (stood s b) refl (stood-short s b)

      first-reads : Reads (first_read way (from way))
      first-reads = by (is_fixed (from way)) (is_input b.port) refl refl
        where
          by : (c d : Bool) → is_fixed (from way) ≡ c → is_input b.port ≡ d → Reads (if is_fixed (from way) then Lead way else OfNode (from way))
          by true d f g = subst (λ t. Reads (if t then Lead way else OfNode (from way))) (sym f) (lead-reads first_one f)
          by false true f g = subst (λ t. Reads (if t then Lead way else OfNode (from way))) (sym f) (in-reads g f)
          by false false f g = subst (λ t. Reads (if t then Lead way else OfNode (from way))) (sym f) (out-reads g)

    front-reads : Reads (read_before way (from way) k)
    front-reads = by k refl
      where
        by : (n : ℕ) → k ≡ n → Reads (read_before way (from way) n)
        by zero f = first-reads f
        by (suc j) f = next-reads j f

  pub reads : Reads spot
  reads = by (is_behind o) refl
    where
      by : (t : Bool) → is_behind o ≡ t → Reads (if is_behind o then Before way k else read_before way (from way) k)
      by true f = subst (λ t. Reads (if t then Before way k else read_before way (from way) k)) (sym f) (behind-reads f)
      by false f = subst (λ t. Reads (if t then Before way k else read_before way (from way) k)) (sym f) (front-reads f)
