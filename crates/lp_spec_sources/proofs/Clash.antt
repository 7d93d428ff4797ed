-- No assign leads to a net bit that an input port below the top has.
use Rattle.std.proofs.Common.{◌≡◌, ℕ, true, [], ◌∷◌, ◌++◌, map, Option, Some, None, inl, inr, sym, ◌∙◌, ap, subst}
use Rattle.std.specs.Prelude.{flat_map}
use Rattle.std.proofs.lemmas.Bool.{both_ways}
use Rattle.lp_model.specs.declared.netlist.Direction.TheVariants.{Input, Output}
use Rattle.lp_model.specs.NetlistView.{NetBit, PortView, AssignView, ModuleView}
use Rattle.lp_spec_design.specs.Keys.{Name, Path, Node, Inner, Way, PortBit, AssignBit, Source, From}
use Rattle.lp_spec_design.specs.Netlists.{Structure, module_at, node_of, is_input}
use Rattle.lp_spec_design.specs.Graph.{numbered, ports_in, from_one, from_assign, sources_of, source_of, from_port}
use Rattle.lp_spec_design.specs.Winners.{IsIn}
use Rattle.lp_spec_design.proofs.Members.{in-left, in-right, in-map, in-either, of-some}
use Rattle.lp_spec_faults.specs.Modules.{is_own}
use Rattle.lp_spec_realises.specs.Projects.{Project}
use Rattle.lp_spec_written.specs.Nets.{chain_net}
use Rattle.lp_spec_written.specs.Supplies.{scalar, joined_to}
use Rattle.lp_spec_written.specs.Routes.{Kind, PortOut, Between, PortIn, parts_in, control_net, port_of_kind, control_port, control_ports, control_connections}
use Rattle.lp_spec_written.specs.Written.{Additions, added_supply_ports}
use Rattle.lp_spec_wired.specs.Contents.{IsWrittenAt}
use Rattle.lp_spec_wired.specs.Laws.{ChainNetsHaveNoPorts}
use Rattle.lp_spec_wired.proofs.Added.{control-own}
use Rattle.lp_spec_wired.proofs.Led.{added-own}
use Rattle.lp_spec_wired.proofs.Wires.{node_name, node_index, near_number}
use Rattle.lp_spec_written_at.proofs.Lists.{in-some}
use Rattle.lp_spec_driven.specs.Sound.{IsProper}
use Rattle.lp_spec_driven.proofs.Sources.{the-source, in-by}
use Rattle.lp_spec_single.specs.Names.{HasOwnNames}
use Rattle.lp_spec_sources.proofs.Ports.{InPort, in-port, one-port, in-source}
use Rattle.lp_spec_sources.proofs.Assigns.{content, Assigned, OfSource, OfControl, Cause, cause, by-name}

part-port-name : (k : ℕ) (kind : Kind) (q : PortView) → port_of_kind k kind ≡ Some q → q.name ≡ control_net k
part-port-name k PortOut q e = let is : q ≡ scalar (control_net k) Output = cc in ap (λ (r : PortView). r.name) is
part-port-name k Between q e = absurd cc
part-port-name k PortIn q e = let is : q ≡ scalar (control_net k) Input = cc in ap (λ (r : PortView). r.name) is

-- added ports have names of additions
added-port-own : (p : Project) (a : Additions) (x : Path) (q : PortView) → IsIn q (added_supply_ports p a x ++ control_ports a.controls x) → is_own q.name ≡ true
added-port-own p a x q h = elim (in-either q (added_supply_ports p a x) (control_ports a.controls x) h) [
  | inl l ↦
      let made = λ (r : PortView). joined_to r.name (NetBit r.name ∷ []) in
      added-own p a x x (joined_to q.name (NetBit q.name ∷ []))
      (in-left (joined_to q.name (NetBit q.name ∷ [])) (map made (added_supply_ports p a x)) (control_connections a.chains a.controls x x) (in-map made q (added_supply_ports p a x) l))
  | inr r ↦
      let found = of-some control_port q (parts_in a.controls x) r in
      ap is_own (part-port-name found.0.0 found.0.1.kind q found.2) ∙ control-own found.0.0
]

module _ (p : Project) (a : Additions) (w : Structure) (from : Way → Node) (written : IsWrittenAt p a w) (proper : IsProper p a from) (own : HasOwnNames w) (no_ports : ChainNetsHaveNoPorts)
    (inst : Name) (up : Path) (m here : ModuleView) (e : module_at p.structure (inst ∷ up) ≡ Some m) (f : module_at w (inst ∷ up) ≡ Some here) (n : Name) (i : Option ℕ) where
  abbrev s : Structure
  s = p.structure

  abbrev x : Path
  x = inst ∷ up

  abbrev At : Source → Type 0
  At y = Assigned p a w from written proper own no_ports x m here e f n i y

  abbrev Port : Source → Type 0
  Port z = InPort p a w proper.plain.leaves written own x m here e f n i z

  has-port : (z : Source) → IsIn z (ports_in w x n i here) → Port z
  has-port z h = in-port p a w proper.plain.leaves written own x m here e f n i z h

  -- no net of a chain is a port
  no-chain : (k : ℕ) (z : Source) → IsIn z (ports_in w x n i here) → Inner n i x ≡ Inner (chain_net k) None x → ⊥
  no-chain k z h same =
      let named = subst (λ v. IsIn z (ports_in w x v i here)) (ap node_name same) h in
      let scalar_one = subst (λ v. IsIn z (ports_in w x (chain_net k) v here)) (ap node_index same) named in
      subst (λ l. IsIn z l) (no_ports p a w written proper.plain.leaves x m e here f k) scalar_one

  ports-are : here.ports ≡ m.ports ++ (added_supply_ports p a x ++ control_ports a.controls x)
  ports-are = (content p a w from written proper own no_ports x m here e f).ports

  -- where the port is one of the source, the source has a way in there
  source-port : (z : Source) (it : Port z) → IsIn it.port m.ports → (j : Node) × IsIn (From (PortBit x n i) j) (sources_of s (Inner n i x))
  source-port z it listed =
      let comes = subst (λ v. IsIn z (from_port w x v i it.port)) (sym it.named) it.comes in
      let found = in-source p a w proper.plain.leaves written inst up m e it.port listed it.input (proper.plain.ports x m it.port e listed) i z comes in
      let there = subst (λ v. IsIn (From (PortBit x v i) found.0) (ports_in s x v i m)) it.named found.1 in
      let y = From (PortBit x n i) found.0 in (
        found.0,
        subst (λ l. IsIn y l) (sym (in-by s x n i m e)) (in-left y (ports_in s x n i m) (flat_map (from_one s x n i) m.instances ++ flat_map (from_assign x n i) (numbered 0 m.assigns)) there),
      )

  -- so no assign of the source leads there
  of-source : (z : Source) (it : Port z) → IsIn it.port m.ports → (k j : ℕ) (b : OfSource p a w from written proper own no_ports x m here e f n i k j) → Inner n i x ≡ Inner b.has.net b.has.index x → ⊥
  of-source z it listed k j b same =
      let port = source-port z it listed in
      let one_way = the-source s (Inner n i x) (From (PortBit x n i) port.0) (proper.plain.single (Inner n i x)) port.1 in
      let both : Some (From (PortBit x n i) port.0) ≡ Some (From (AssignBit x k j) (node_of x b.right)) = sym one_way ∙ (ap (source_of s) same ∙ b.drives) in
      absurd cc

  -- an added output port leads a control out
  of-control : (z : Source) → Port z → (u : ℕ × AssignView) (j : ℕ) → OfControl p a w from written proper own no_ports x m here e f n i u j → ⊥
  of-control z it u j c =
      let q = scalar (control_net c.part.0) Output in
      let among = in-some control_port c.part q (parts_in a.controls x) c.listed (ap (port_of_kind c.part.0) c.out) in
      let listed = subst (λ l. IsIn q l) (sym ports-are) (in-right q m.ports (added_supply_ports p a x ++ control_ports a.controls x) (in-right q (added_supply_ports p a x) (control_ports a.controls x) among)) in
      let same : it.port ≡ q = one-port p a w proper.plain.leaves written own x m here e f n i it.port q it.listed listed (it.named ∙ sym (ap node_name c.name)) in
      both_ways (is_input it.port) (ap is_input same) it.input

  by-cause : (z : Source) → IsIn z (ports_in w x n i here) → (u : ℕ × AssignView) (j : ℕ) → Cause p a w from written proper own no_ports x m here e f n i u j → ⊥
  by-cause z h u j (inr (inl c)) = no-chain c.stretch.start z h (sym c.name)
  by-cause z h u j (inr (inr c)) = of-control z (has-port z h) u j c
  by-cause z h u j (inl b) = elim (by-name p a w from written proper own no_ports x m here e f n i b.bit b.has) [
    | inl it ↦ no-chain (near_number it.0) z h it.4
    | inr free ↦
        let it = has-port z h in
        elim (in-either it.port m.ports (added_supply_ports p a x ++ control_ports a.controls x) (subst (λ l. IsIn it.port l) ports-are it.listed)) [
          | inl l ↦ of-source z it l u.0 j b free.0
          | inr r ↦ both_ways (is_own n) free.1 (ap is_own (sym it.named) ∙ added-port-own p a x it.port r)
        ]
  ]

  pub no-clash : (z : Source) → IsIn z (ports_in w x n i here) → (y : Source) → At y → ⊥
  no-clash z h y q = by-cause z h q.assign q.bits.0 (cause p a w from written proper own no_ports x m here e f n i y q)
