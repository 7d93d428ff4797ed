-- The assigns of the written netlist that lead to one net bit: two of them that lead there are one, and none does where an input port has it.
use Rattle.std.proofs.Common.{◌≡◌, ◌⊎◌, ◌<◌, ◌^◌, ℕ, zero, suc, ◌+◌, true, false, not, List, [], ◌∷◌, ◌++◌, map, length, Option, Some, None, inl, inr, refl, sym, ◌∙◌, ap, subst, arith}
use Rattle.std.specs.Prelude.{bytes_eq, filter, flat_map}
use Rattle.std.proofs.lemmas.Bool.{both_ways, not-true, true≢false}
use Rattle.std.proofs.lemmas.Option.{slice_get_within}
use Rattle.lp_model.specs.NetlistView.{BitView, NetBit, PortView, NetView, InstanceView, AssignView, ModuleView}
use Rattle.lp_spec_design.specs.Keys.{Name, Path, Node, Inner, Fixed, Way, AssignBit, Source, From, same_node, same_path}
use Rattle.lp_spec_design.specs.Netlists.{Structure, module_at, node_of, is_input, upward}
use Rattle.lp_spec_design.specs.Graph.{pairs, some_of, when, numbered, ports_in, from_one, from_assign, source_of}
use Rattle.lp_spec_design.specs.Nodes.{connected_bits, joined_bits}
use Rattle.lp_spec_design.specs.Reads.{node-true, node-self, name-self, path-true, one, other}
use Rattle.lp_spec_design.specs.Winners.{IsIn}
use Rattle.lp_spec_design.proofs.Members.{IsApart, in-right, in-flat, of-some, of-when, of-pairs, of-filter, of-numbered}
use Rattle.lp_spec_faults.specs.Modules as modules
use Rattle.lp_spec_realises.specs.Projects.{Project}
use Rattle.lp_spec_realises.specs.ProjectNetlists.{are_apart}
use Rattle.lp_spec_written.specs.Nets.{Stretch, stretches, stretches_in, nets_of, chain_net, leads_constant, is_inside, stood, renamed, renamed_assign, constant_assign}
use Rattle.lp_spec_written.specs.Supplies.{wire, supply_wires}
use Rattle.lp_spec_written.specs.Routes.{Part, PortOut, same_part_kind, parts_in, control_net, control_wires, control_bits, is_led_out, control_assign, control_assigns}
use Rattle.lp_spec_written.specs.Written.{Additions, written_module}
use Rattle.lp_spec_hub.specs.Spots.{Spot, OfNode}
use Rattle.lp_spec_wired.specs.Contents.{IsContent, IsWrittenAt}
use Rattle.lp_spec_wired.specs.Laws.{ChainNetsHaveNoPorts, HasNet}
use Rattle.lp_spec_wired.proofs.Added.{chain-own, control-own, control-number}
use Rattle.lp_spec_wired.proofs.Lists.{at-numbered}
use Rattle.lp_spec_wired.proofs.Controls.{filter-short, kind-true}
use Rattle.lp_spec_wired.proofs.Intervals.{nets-apart}
use Rattle.lp_spec_wired.proofs.Bits.{node-by, count-some, near-low, near-high}
use Rattle.lp_spec_wired.proofs.Wires.{node_name, near_number}
use Rattle.lp_spec_written_at.proofs.Lists.{in-some, apart-right}
use Rattle.lp_spec_written_at.proofs.Weave.{apart-front, apart-back}
use Rattle.lp_spec_driven.specs.Sound.{IsProper}
use Rattle.lp_spec_driven.proofs.Sources.{of-when-is, the-source, in-by, IsBitOf, bit-of}
use Rattle.lp_spec_driven.proofs.WiresApart.{wires-apart}
use Rattle.lp_spec_single.specs.Names.{HasOwnNames}
use Rattle.lp_spec_single.proofs.Lists.{named-apart, apart-left, some-apart, numbered-apart, numbered-same}
use Rattle.lp_spec_single.proofs.Differ.{own_names, assign_by, bit_by}
use Rattle.lp_spec_sources.proofs.Lists.{apart-number, numbered-parts, numbered-map, pairs-map, one-place, unmap-apart, flat-alone}

-- the net bits of an assign with one bit on its left
abbrev first_net : AssignView → Name
first_net q = by q.left
  where
    by : List BitView → Name
    by (NetBit n ∷ rest) = n
    by _ = []

abbrev node_at_spot : Spot → Node
node_at_spot (OfNode k) = k
node_at_spot _ = Fixed false

chain-control : (j k : ℕ) → chain_net j ≡ control_net k → ⊥
chain-control j k e =
    let differ : bytes_eq (chain_net j) (control_net k) ≡ false = refl in
    true≢false (sym (name-self (chain_net j)) ∙ (ap (bytes_eq (chain_net j)) e ∙ differ))

first-up : (n k : ℕ) → 0 < n → IsIn (chain_net k) (map chain_net (upward n k))
first-up zero k h = absurd (omega (arith, h))
first-up (suc n) k h = inl refl

in-some-source : {A : Type 0} (x y : A) → Some x ≡ Some y → x ≡ y
in-some-source x y e = cc

module _ (p : Project) (a : Additions) (w : Structure) (from : Way → Node) (written : IsWrittenAt p a w) (proper : IsProper p a from) (own : HasOwnNames w) (no_ports : ChainNetsHaveNoPorts)
    (x : Path) (m here : ModuleView) (e : module_at p.structure x ≡ Some m) (f : module_at w x ≡ Some here) where
  abbrev s : Structure
  s = p.structure

  abbrev near : List Stretch
  near = stretches_in a.chains x

  pub content : IsContent w x (written_module p a x m) here
  content =
      let there = written.modules x m e in
      let same : Some there.here ≡ Some here = sym there.is ∙ f in
      subst (IsContent w x (written_module p a x m)) (in-some-source there.here here same) there.content

  -- ---- nets of chains

  of-chains : (t : Stretch) → IsIn t near → IsIn t (stretches p a.plan) × (t.path ≡ x)
  of-chains t h =
      let found = of-filter (λ (r : Stretch). same_path r.path x) t a.chains h in
      (subst (λ l. IsIn t l) proper.names.chains.chains found.0, path-true t.path x found.1)

  starts : (t : Stretch) → IsIn t (stretches p a.plan) → HasNet t t.start
  starts t h = let some = count-some p a proper.names.chains t h in record { above = omega arith; below = omega (arith, some) }

  small : (t : Stretch) → IsIn t (stretches p a.plan) → (k : ℕ) → HasNet t k → k < 2 ^ 64
  small t h k net = let low = net.below in let limit = proper.names.nets t h in omega (arith, low, limit)

  same-stretch : (t r : Stretch) → IsIn t (stretches p a.plan) → IsIn r (stretches p a.plan) → t.path ≡ r.path → (j k : ℕ) → HasNet t j → HasNet r k → chain_net j ≡ chain_net k → t ≡ r
  same-stretch t r t_in r_in paths j k one_net other_net same = (nets-apart p a.plan t r t_in r_in paths j k one_net other_net (small t t_in j one_net) (small r r_in k other_net) same).0

  same-start : (t r : Stretch) → IsIn t near → IsIn r near → chain_net t.start ≡ chain_net r.start → t ≡ r
  same-start t r t_in r_in same =
      let one_at = of-chains t t_in in
      let other_at = of-chains r r_in in
      same-stretch t r one_at.0 other_at.0 (one_at.1 ∙ sym other_at.1) t.start r.start (starts t one_at.0) (starts r other_at.0) same

  -- nets have names of their own, so no stretch is listed twice
  chain-nets : IsApart (flat_map nets_of near)
  chain-nets =
      let nets_and_instances = apart-right (map (λ (q : PortView). q.name) here.ports) (map (λ (n : NetView). n.name) here.nets ++ map (λ (y : InstanceView). y.name) here.instances) (own_names w own x here f) in
      let named : are_apart (map (λ (n : NetView). n.name) here.nets) ≡ true = apart-left (map (λ (n : NetView). n.name) here.nets) (map (λ (y : InstanceView). y.name) here.instances) nets_and_instances in
      let nets = subst IsApart content.nets (named-apart (λ (n : NetView). n.name) here.nets named) in
      let added = apart-back m.nets (supply_wires a.plan a.uses x ++ (map wire (flat_map nets_of near) ++ control_wires a.controls x)) nets in
      let chained = apart-back (supply_wires a.plan a.uses x) (map wire (flat_map nets_of near) ++ control_wires a.controls x) added in
      unmap-apart wire (flat_map nets_of near) (apart-front (map wire (flat_map nets_of near)) (control_wires a.controls x) chained)

  near-apart : IsApart near
  near-apart = flat-alone nets_of (λ (t : Stretch). chain_net t.start) near chain-nets (λ t h. first-up t.count t.start (count-some p a proper.names.chains t (of-chains t h).0))

  -- ---- added assigns

  abbrev constant_made : Stretch → AssignView
  constant_made t = record { left = NetBit (chain_net t.start) ∷ []; right = stood s t.bit }

  abbrev control_made : ℕ × Part → AssignView
  control_made t = record { left = NetBit (control_net t.0) ∷ []; right = control_bits a.chains a.controls x t.1.control }

  constant-is : (t : Stretch) (q : AssignView) → constant_assign p t ≡ Some q → q ≡ constant_made t
  constant-is t q g = of-when-is (leads_constant s t.path t.bit) (constant_made t) q g

  control-is : (t : ℕ × Part) (q : AssignView) → control_assign a.chains a.controls x t ≡ Some q → q ≡ control_made t
  control-is t q g = of-when-is (is_led_out a.controls x t.1) (control_made t) q g

  constants-apart : IsApart (some_of (constant_assign p) near)
  constants-apart =
      some-apart (constant_assign p) near near-apart
      (λ t r q t_in r_in g h. same-start t r t_in r_in (ap first_net (sym (constant-is t q g) ∙ constant-is r q h)))

  short : (t : ℕ × Part) → IsIn t (parts_in a.controls x) → t.0 < 2 ^ 64
  short t h =
      let stand = filter (λ (q : Part). same_path q.path x) a.controls in
      let inside = slice_get_within stand t.0 t.1 (at-numbered stand t h) in
      let less = filter-short (λ (q : Part). same_path q.path x) a.controls in
      let few = proper.names.controls in
      omega (arith, inside, less, few)

  same-part : (t r : ℕ × Part) → IsIn t (parts_in a.controls x) → IsIn r (parts_in a.controls x) → control_net t.0 ≡ control_net r.0 → t ≡ r
  same-part t r t_in r_in same = numbered-same 0 (filter (λ (q : Part). same_path q.path x) a.controls) t r t_in r_in (control-number t.0 r.0 (short t t_in) (short r r_in) same)

  controls-apart : IsApart (control_assigns a.chains a.controls x)
  controls-apart =
      some-apart (control_assign a.chains a.controls x) (parts_in a.controls x) (numbered-apart 0 (filter (λ (q : Part). same_path q.path x) a.controls))
      (λ t r q t_in r_in g h. same-part t r t_in r_in (ap first_net (sym (control-is t q g) ∙ control-is r q h)))

  module _ (n : Name) (i : Option ℕ) where
    -- ---- an assign that leads to a net bit

    pub record Assigned (z : Source) : Type 0 where
      pub assign : ℕ × AssignView
      pub listed : IsIn assign (numbered 0 here.assigns)
      pub bits : ℕ × (BitView × BitView)
      pub at : IsIn bits (numbered 0 (pairs assign.1.left assign.1.right))
      pub joins : node_of x bits.1.0 ≡ Inner n i x
      pub is : z ≡ From (AssignBit x assign.0 bits.0) (node_of x bits.1.1)

    pub assigned : (z : Source) (u : ℕ × AssignView) → IsIn u (numbered 0 here.assigns) → IsIn z (from_assign x n i u) → Assigned z
    assigned z u h g =
        let found = of-some (λ (pair : ℕ × (BitView × BitView)). when (same_node (node_of x pair.1.0) (Inner n i x)) (From (AssignBit x u.0 pair.0) (node_of x pair.1.1))) z (numbered 0 (pairs u.1.left u.1.right)) g in
        record {
          assign = u;
          listed = h;
          bits = found.0;
          at = found.1;
          joins = node-true (node_of x found.0.1.0) (Inner n i x) (of-when (same_node (node_of x found.0.1.0) (Inner n i x)) (From (AssignBit x u.0 found.0.0) (node_of x found.0.1.1)) z found.2);
          is = of-when-is (same_node (node_of x found.0.1.0) (Inner n i x)) (From (AssignBit x u.0 found.0.0) (node_of x found.0.1.1)) z found.2;
        }

    -- of the source, whose bit has this net bit; of a constant's own net; of an output port for a control
    pub record OfSource (k j : ℕ) : Type 0 where
      pub bit : BitView
      pub has : IsBitOf p a x bit (Inner n i x)
      pub right : BitView
      pub drives : source_of s (Inner has.net has.index x) ≡ Some (From (AssignBit x k j) (node_of x right))

    pub record OfConstant (u : ℕ × AssignView) (j : ℕ) : Type 0 where
      pub stretch : Stretch
      pub listed : IsIn stretch near
      pub leads : leads_constant s stretch.path stretch.bit ≡ true
      pub made : u.1 ≡ constant_made stretch
      pub among : IsIn u (numbered (0 + length (map (renamed_assign a.chains x) m.assigns)) (some_of (constant_assign p) near))
      pub name : Inner (chain_net stretch.start) None x ≡ Inner n i x
      pub place : j ≡ 0

    pub record OfControl (u : ℕ × AssignView) (j : ℕ) : Type 0 where
      pub part : ℕ × Part
      pub listed : IsIn part (parts_in a.controls x)
      pub out : part.1.kind ≡ PortOut
      pub made : u.1 ≡ control_made part
      pub among : IsIn u (numbered ((0 + length (map (renamed_assign a.chains x) m.assigns)) + length (some_of (constant_assign p) near)) (control_assigns a.chains a.controls x))
      pub name : Inner (control_net part.0) None x ≡ Inner n i x
      pub place : j ≡ 0

    abbrev pub Cause : ℕ × AssignView → ℕ → Type 0
    Cause u j = OfSource u.0 j ⊎ (OfConstant u j ⊎ OfControl u j)

    left-bit : (k : ℕ) (q : AssignView) (b : BitView) → IsIn (k, q) (numbered 0 m.assigns) → IsIn b q.left → IsIn b (joined_bits m)
    left-bit k q b h g =
        in-right b (flat_map (λ (y : InstanceView). connected_bits y.connections) m.instances) (flat_map (λ (r : AssignView). r.left) m.assigns)
        (in-flat (λ (r : AssignView). r.left) q b m.assigns (of-numbered 0 (k, q) m.assigns h) g)

    source-drives : (k j : ℕ) (q : AssignView) (two : BitView × BitView) → IsIn (k, q) (numbered 0 m.assigns) → IsIn (j, two) (numbered 0 (pairs q.left q.right)) → (r : Name) (l : Option ℕ) → node_of x two.0 ≡ Inner r l x
        → source_of s (Inner r l x) ≡ Some (From (AssignBit x k j) (node_of x two.1))
    source-drives k j q two h g r l same =
        let y = From (AssignBit x k j) (node_of x two.1) in
        the-source s (Inner r l x) y (proper.plain.single (Inner r l x))
        (subst (λ z. IsIn y z) (sym (in-by s x r l m e))
        (in-right y (ports_in s x r l m) (flat_map (from_one s x r l) m.instances ++ flat_map (from_assign x r l) (numbered 0 m.assigns))
        (in-right y (flat_map (from_one s x r l) m.instances) (flat_map (from_assign x r l) (numbered 0 m.assigns))
        (in-flat (from_assign x r l) (k, q) y (numbered 0 m.assigns) h
        (in-some (λ (pair : ℕ × (BitView × BitView)). when (same_node (node_of x pair.1.0) (Inner r l x)) (From (AssignBit x k pair.0) (node_of x pair.1.1))) (j, two) y (numbered 0 (pairs q.left q.right)) g
        (ap (λ t. when t y) (ap (λ v. same_node v (Inner r l x)) same ∙ node-self (Inner r l x))))))))

    of-source : (z : Source) (q : Assigned z) → IsIn q.assign (numbered 0 (map (renamed_assign a.chains x) m.assigns)) → OfSource q.assign.0 q.bits.0
    of-source z q h =
        let of = numbered-map (renamed_assign a.chains x) 0 m.assigns q.assign h in
        let listed : IsIn q.bits (numbered 0 (map (λ (t : BitView × BitView). (renamed a.chains x t.0, renamed a.chains x t.1)) (pairs of.0.left of.0.right))) =
        subst (λ l. IsIn q.bits (numbered 0 l)) (ap (λ (t : AssignView). pairs t.left t.right) of.2 ∙ pairs-map (renamed a.chains x) of.0.left of.0.right) q.at in
        let pair = numbered-map (λ (t : BitView × BitView). (renamed a.chains x t.0, renamed a.chains x t.1)) 0 (pairs of.0.left of.0.right) q.bits listed in
        let free = proper.plain.free x m pair.0.0 e (left-bit q.assign.0 of.0 pair.0.0 of.1 (of-pairs pair.0 of.0.left of.0.right (of-numbered 0 (q.bits.0, pair.0) (pairs of.0.left of.0.right) pair.1)).0) in
        let its = bit-of p a x pair.0.0 n i free (sym (ap (λ (t : BitView × BitView). node_of x t.0) pair.2) ∙ q.joins) in
        record { bit = pair.0.0; has = its; right = pair.0.1; drives = source-drives q.assign.0 q.bits.0 of.0 pair.0 of.1 pair.1 its.net its.index its.is }

    of-constant : (z : Source) (q : Assigned z) → IsIn q.assign (numbered (0 + length (map (renamed_assign a.chains x) m.assigns)) (some_of (constant_assign p) near)) → OfConstant q.assign q.bits.0
    of-constant z q h =
        let found = of-some (constant_assign p) q.assign.1 near (of-numbered _ q.assign (some_of (constant_assign p) near) h) in
        let made = constant-is found.0 q.assign.1 found.2 in
        let place = one-place (NetBit (chain_net found.0.start)) (stood s found.0.bit) q.bits (subst (λ (v : AssignView). IsIn q.bits (numbered 0 (pairs v.left v.right))) made q.at) in
        record {
          stretch = found.0;
          listed = found.1;
          leads = of-when (leads_constant s found.0.path found.0.bit) (constant_made found.0) q.assign.1 found.2;
          made = made;
          among = h;
          name = sym (ap (node_of x) place.1) ∙ q.joins;
          place = place.0;
        }

    of-control : (z : Source) (q : Assigned z) → IsIn q.assign (numbered ((0 + length (map (renamed_assign a.chains x) m.assigns)) + length (some_of (constant_assign p) near)) (control_assigns a.chains a.controls x)) → OfControl q.assign q.bits.0
    of-control z q h =
        let found = of-some (control_assign a.chains a.controls x) q.assign.1 (parts_in a.controls x) (of-numbered _ q.assign (control_assigns a.chains a.controls x) h) in
        let made = control-is found.0 q.assign.1 found.2 in
        let led_out = of-when (is_led_out a.controls x found.0.1) (control_made found.0) q.assign.1 found.2 in
        let place = one-place (NetBit (control_net found.0.0)) (control_bits a.chains a.controls x found.0.1.control) q.bits (subst (λ (v : AssignView). IsIn q.bits (numbered 0 (pairs v.left v.right))) made q.at) in
        record {
          part = found.0;
          listed = found.1;
          out = kind-true found.0.1.kind PortOut (one (same_part_kind found.0.1.kind PortOut) _ led_out);
          made = made;
          among = h;
          name = sym (ap (node_of x) place.1) ∙ q.joins;
          place = place.0;
        }

    pub cause : (z : Source) (q : Assigned z) → Cause q.assign q.bits.0
    cause z q =
        elim (numbered-parts 0 (map (renamed_assign a.chains x) m.assigns) (some_of (constant_assign p) near ++ control_assigns a.chains a.controls x) q.assign (subst (λ l. IsIn q.assign (numbered 0 l)) content.assigns q.listed)) [
          | inl l ↦ inl (of-source z q l)
          | inr r ↦ elim (numbered-parts (0 + length (map (renamed_assign a.chains x) m.assigns)) (some_of (constant_assign p) near) (control_assigns a.chains a.controls x) q.assign r) [
            | inl l ↦ inr (inl (of-constant z q l))
            | inr k ↦ inr (inr (of-control z q k))
          ]
        ]

    -- ---- two of them

    abbrev SameWay : ℕ × AssignView → ℕ → ℕ × AssignView → ℕ → Type 0
    SameWay u j v k = (u.0 ≡ v.0) × (j ≡ k)

    source-source : (u v : ℕ × AssignView) (j k : ℕ) → OfSource u.0 j → OfSource v.0 k → SameWay u j v k
    source-source u v j k b c =
        let wires = wires-apart p a proper.names (OfNode (Inner b.has.net b.has.index x)) (OfNode (Inner c.has.net c.has.index x)) b.has.free c.has.free (b.has.name ∙ sym c.has.name) in
        let nodes : Inner b.has.net b.has.index x ≡ Inner c.has.net c.has.index x = ap node_at_spot wires in
        let same = in-some-source (From (AssignBit x u.0 j) (node_of x b.right)) (From (AssignBit x v.0 k) (node_of x c.right)) (sym b.drives ∙ (ap (source_of s) nodes ∙ c.drives)) in
        (ap assign_by same, ap bit_by same)

    -- a net bit of the source goes by the net of a stretch inside, or by its own free name
    pub by-name : (b : BitView) (has : IsBitOf p a x b (Inner n i x)) → ((t : Stretch) × IsIn t (stretches p a.plan) × (is_inside t.path t.bit ≡ true) × (t.path ≡ x) × (Inner n i x ≡ Inner (chain_net (near_number t)) None x)) ⊎ ((Inner n i x ≡ Inner has.net has.index x) × (modules.is_own n ≡ false))
    by-name b has = elim (node-by p a proper.names.chains has.net has.index x) [
      | inl u ↦ inl (u.s, u.listed, u.within, u.path, sym has.name ∙ u.is)
      | inr u ↦ let same : Inner n i x ≡ Inner has.net has.index x = sym has.name ∙ u.is in inr (same, ap (λ k. modules.is_own (node_name k)) same ∙ has.free)
    ]

    near-net : (t : Stretch) → IsIn t (stretches p a.plan) → HasNet t (near_number t)
    near-net t h = let some = count-some p a proper.names.chains t h in record { above = near-low t some; below = near-high t some }

    source-constant : (k : ℕ) (j : ℕ) (u : ℕ × AssignView) (l : ℕ) → OfSource k j → OfConstant u l → ⊥
    source-constant k j u l b c = elim (by-name b.bit b.has) [
      | inr free ↦ both_ways (modules.is_own n) free.1 (ap (λ v. modules.is_own (node_name v)) (sym c.name) ∙ chain-own c.stretch.start)
      | inl it ↦
          let at = of-chains c.stretch c.listed in
          let same : it.0 ≡ c.stretch = same-stretch it.0 c.stretch it.1 at.0 (it.3 ∙ sym at.1) (near_number it.0) c.stretch.start (near-net it.0 it.1) (starts c.stretch at.0) (ap node_name (sym it.4 ∙ sym c.name)) in
          let outside : is_inside c.stretch.path c.stretch.bit ≡ false = not-true _ (one (not (is_inside c.stretch.path c.stretch.bit)) _ (other (is_input c.stretch.bit.port) _ c.leads)) in
          both_ways (is_inside c.stretch.path c.stretch.bit) outside (ap (λ (t : Stretch). is_inside t.path t.bit) (sym same) ∙ it.2)
    ]

    source-control : (k : ℕ) (j : ℕ) (u : ℕ × AssignView) (l : ℕ) → OfSource k j → OfControl u l → ⊥
    source-control k j u l b c = elim (by-name b.bit b.has) [
      | inr free ↦ both_ways (modules.is_own n) free.1 (ap (λ v. modules.is_own (node_name v)) (sym c.name) ∙ control-own c.part.0)
      | inl it ↦ chain-control (near_number it.0) c.part.0 (ap node_name (sym it.4 ∙ sym c.name))
    ]

    constant-control : (u v : ℕ × AssignView) (j k : ℕ) → OfConstant u j → OfControl v k → ⊥
    constant-control u v j k b c = chain-control b.stretch.start c.part.0 (ap node_name (b.name ∙ sym c.name))

    constant-constant : (u v : ℕ × AssignView) (j k : ℕ) → OfConstant u j → OfConstant v k → SameWay u j v k
    constant-constant u v j k b c =
        let same : b.stretch ≡ c.stretch = same-start b.stretch c.stretch b.listed c.listed (ap node_name (b.name ∙ sym c.name)) in
        let assigns : u.1 ≡ v.1 = b.made ∙ (ap constant_made same ∙ sym c.made) in
        (apart-number _ (some_of (constant_assign p) near) constants-apart u v b.among c.among assigns, b.place ∙ sym c.place)

    control-control : (u v : ℕ × AssignView) (j k : ℕ) → OfControl u j → OfControl v k → SameWay u j v k
    control-control u v j k b c =
        let same : b.part ≡ c.part = same-part b.part c.part b.listed c.listed (ap node_name (b.name ∙ sym c.name)) in
        let assigns : u.1 ≡ v.1 = b.made ∙ (ap control_made same ∙ sym c.made) in
        (apart-number _ (control_assigns a.chains a.controls x) controls-apart u v b.among c.among assigns, b.place ∙ sym c.place)

    same-by : (u v : ℕ × AssignView) (j k : ℕ) → Cause u j → Cause v k → SameWay u j v k
    same-by u v j k (inl b) (inl c) = source-source u v j k b c
    same-by u v j k (inl b) (inr (inl c)) = absurd (source-constant u.0 j v k b c)
    same-by u v j k (inl b) (inr (inr c)) = absurd (source-control u.0 j v k b c)
    same-by u v j k (inr (inl b)) (inl c) = absurd (source-constant v.0 k u j c b)
    same-by u v j k (inr (inl b)) (inr (inl c)) = constant-constant u v j k b c
    same-by u v j k (inr (inl b)) (inr (inr c)) = absurd (constant-control u v j k b c)
    same-by u v j k (inr (inr b)) (inl c) = absurd (source-control v.0 k u j c b)
    same-by u v j k (inr (inr b)) (inr (inl c)) = absurd (constant-control v u k j c b)
    same-by u v j k (inr (inr b)) (inr (inr c)) = control-control u v j k b c

    -- two that come from one node are one
    pub assigns-same : (y z : Source) (q : Assigned y) (r : Assigned z) → node_of x q.bits.1.1 ≡ node_of x r.bits.1.1 → y ≡ z
    assigns-same y z q r nodes =
        let same = same-by q.assign r.assign q.bits.0 r.bits.0 (cause y q) (cause z r) in
        q.is ∙ (ap (λ k. From (AssignBit x k q.bits.0) (node_of x q.bits.1.1)) same.0 ∙ (ap (λ k. From (AssignBit x r.assign.0 k) (node_of x q.bits.1.1)) same.1 ∙ (ap (From (AssignBit x r.assign.0 r.bits.0)) nodes ∙ sym r.is)))
