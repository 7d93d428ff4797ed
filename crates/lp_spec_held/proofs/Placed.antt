-- An operator by its numbers: its edge and its cell in the netlist.
use Rattle.std.proofs.Common.{◌≡◌, ◌<◌, ℕ, Bool, true, false, cond, List, [], ◌∷◌, ◌++◌, length, get_or, Some, refl, sym, ap, ◌∙◌, subst, arith}
use Rattle.std.specs.Prelude.{slice_get, option_and_then, unwrap_or}
use Rattle.std.proofs.lemmas.Option.{slice_get_within, get_or_from_slice_get}
use Rattle.lp_model.specs.NetlistView.{PortView}
use Rattle.lp_model.specs.declared.graph.Edge.{Edge as EdgeRow}
use Rattle.lp_model.specs.declared.graph.EdgeKind.TheVariants.{In, Out, Assign}
use Rattle.lp_model.specs.declared.graph.Leaf.{Leaf}
use Rattle.lp_model.specs.declared.graph.Source.TheVariants.{Nothing}
use Rattle.lp_model.specs.declared.plan.AddedKind.{AddedKind}
use Rattle.lp_spec_design.specs.Keys.{Node, Way, same_bool}
use Rattle.lp_spec_design.specs.Instances.{module_instances}
use Rattle.lp_spec_design.specs.Netlists.{is_input}
use Rattle.lp_spec_bridge.specs.Edges.{Edge, edges_of}
use Rattle.lp_spec_bridge.proofs.Apart.{way-self}
use Rattle.lp_spec_realises.specs.Projects.{Project}
use Rattle.lp_spec_written.specs.Places.{Standing}
use Rattle.lp_spec_written.specs.Nets.{is_inside}
use Rattle.lp_spec_hub.specs.Spots.{OfNode, Done, with_operator, on_way, is_behind}
use Rattle.lp_spec_hub.specs.Drives.{passed, drive_by, drive}
use Rattle.lp_spec_hub.specs.Changes.{its_way, is_from, is_target}
use Rattle.lp_spec_hub.specs.Entries.{IsInFlow}
use Rattle.lp_spec_edits.specs.Net.{Net, cell_pins, pin_count, outputs_of, source_at, edge_at}
use Rattle.lp_spec_edits.specs.Edits.{lies_behind, kind_at, head_at, add_cell, connect}
use Rattle.lp_spec_edits.specs.Sound.{IsSound}
use Rattle.lp_spec_edits.proofs.Opened.{IsFrame, IsFilled, cell_filled}
use Rattle.lp_spec_held.specs.Held.{Spots, start_from, end_from, way_start, way_end, IsEdgeHeld, Holds}
use Rattle.lp_spec_held.specs.Inserted.{kind_at_port, IsPlaced}
use Rattle.lp_spec_held.proofs.Begun.{entry-of}
use Rattle.lp_spec_held.proofs.Cells.{pin-drives, pin-within, output-drives, data-reads}
use Rattle.lp_spec_held.proofs.Flow.{IsFlow}
use Rattle.lp_spec_held.proofs.Assembled.{here-with}

-- an operator lies behind its edge where it stands behind its way's edge
side-is : (x : PortView) (b : Bool) → lies_behind (kind_at_port x) b ≡ same_bool (is_input x) b
side-is x b = by (is_input x) refl b
  where
    by : (c : Bool) → is_input x ≡ c → (b : Bool) → lies_behind (kind_at_port x) b ≡ same_bool (is_input x) b
    by true e b = ap (λ c. lies_behind (cond c In Out) b) e ∙ sym (ap (λ c. same_bool c b) e)
    by false e true = ap (λ c. lies_behind (cond c In Out) true) e ∙ sym (ap (λ c. same_bool c true) e)
    by false e false = ap (λ c. lies_behind (cond c In Out) false) e ∙ sym (ap (λ c. same_bool c false) e)

module _ (p : Project) (from : Way → Node) (a : Done) (ks : Spots) (n : Net) (h : Holds p from a ks n) (o : Standing) (e i c data_ out : ℕ) (placed : IsPlaced p from o e i c data_ out) where
  abbrev pub w : Way
  w = its_way o

  abbrev pub ops : List Standing
  ops = a.plan.operators

  abbrev pub here : List Standing
  here = on_way ops w

  abbrev pub edge : Edge
  edge = placed.edge.edge

  abbrev pub inside : Bool
  inside = is_inside o.path o.asked.bit

  pub held : IsEdgeHeld a ks edge (edge_at n e)
  held = h.edges e edge placed.edge.there

  pub target-true : is_target p o edge.to ≡ true
  target-true = ap (is_from w) placed.edge.source ∙ way-self w

  pub drive-target : drive p a from (OfNode edge.to) ≡ Some (passed here w (from w) (length here))
  drive-target = ap (option_and_then (λ x. Some (drive_by ops x))) placed.edge.source

  pub start-is : way_start a edge ≡ start_from w 0 here (OfNode (from w))
  start-is = λ u. start_from (placed.edge.way u) 0 (on_way ops (placed.edge.way u)) (OfNode (placed.edge.comes u))

  pub end-is : way_end a edge ≡ end_from w 0 here (OfNode edge.to)
  end-is = λ u. end_from (placed.edge.way u) 0 (on_way ops (placed.edge.way u)) (OfNode edge.to)

  pub start-now : way_start (with_operator a o) edge ≡ start_from w 0 (here ++ (o ∷ [])) (OfNode (from w))
  start-now =
      (λ u. start_from (placed.edge.way u) 0 (on_way (ops ++ (o ∷ [])) (placed.edge.way u)) (OfNode (placed.edge.comes u)))
      ∙ ap (λ xs. start_from w 0 xs (OfNode (from w))) (here-with p from a ks n h o)

  pub end-now : way_end (with_operator a o) edge ≡ end_from w 0 (here ++ (o ∷ [])) (OfNode edge.to)
  end-now =
      (λ u. end_from (placed.edge.way u) 0 (on_way (ops ++ (o ∷ [])) (placed.edge.way u)) (OfNode edge.to))
      ∙ ap (λ xs. end_from w 0 xs (OfNode edge.to)) (here-with p from a ks n h o)

  pub flow-here : IsInFlow (with_operator a o).plan.operators → IsFlow (here ++ (o ∷ []))
  flow-here flow = subst IsFlow (here-with p from a ks n h o) (flow w)

  found-head : (k : ℕ) × (slice_get n.heads e ≡ Some k) × (slice_get ks.nodes k ≡ Some (OfNode edge.to))
  found-head = entry-of (slice_get ks.nodes) (λ (y : Edge). Some (OfNode y.to)) n.heads (edges_of p.structure) e edge h.heads placed.edge.there

  pub head-there : slice_get ks.nodes (head_at n e) ≡ Some (OfNode edge.to)
  head-there = ap (slice_get ks.nodes) (get_or_from_slice_get n.heads e found-head.0 0 found-head.1) ∙ found-head.2

  pub head-low : head_at n e < length n.nodes
  head-low = let low = slice_get_within ks.nodes (head_at n e) (OfNode edge.to) head-there in omega (arith, low, h.nodes)

  pub behind-is : lies_behind (kind_at n e) inside ≡ is_behind o
  behind-is =
      ap (λ k. lies_behind k inside) (ap (λ x. unwrap_or (option_and_then (λ (r : EdgeRow). Some r.kind) x) Assign) held.there ∙ (held.kind ∙ placed.edge.kind))
      ∙ side-is o.asked.bit.port inside

  -- ---- its cell

  abbrev pub leaf : Leaf
  leaf = record { inst = record { 0 = i }; name = record { 0 = 0 }; cell = record { 0 = c }; start = 0 }

  pub fill : (kind : AddedKind) (m : Net) → IsFrame n m → IsSound m → (g0 g1 : ℕ) → g0 < length m.nodes → g1 < length m.nodes → source_at m g1 ≡ Nothing
      → IsFilled m (connect (connect (add_cell m i c kind) (length m.leaves) data_ g0) (length m.leaves) out g1) i c data_ out g0 g1
  fill kind m frame sound g0 g1 first second open_ =
      cell_filled m sound i c kind data_ out g0 g1
      (let low = slice_get_within (module_instances p.structure) i o.path placed.instance in let size = ap length frame.instances in omega (arith, low, size, h.instances))
      first second open_
      (subst (λ cells. data_ < pin_count (cell_pins cells c)) (sym frame.cells) (pin-within p.structure n.cells h.library c o.cell placed.cell data_ placed.takes.pin placed.takes.there))
      (subst (λ cells. out < pin_count (cell_pins cells c)) (sym frame.cells) (pin-within p.structure n.cells h.library c o.cell placed.cell out placed.gives.pin placed.gives.there))
      (ap (λ cells. get_or (outputs_of (cell_pins cells c)) data_ false) frame.cells
      ∙ (pin-drives p.structure n.cells h.library c o.cell placed.cell data_ placed.takes.pin placed.takes.there ∙ data-reads o.asked.operator o.cell placed.takes.pin placed.takes.is))
      (ap (λ cells. get_or (outputs_of (cell_pins cells c)) out false) frame.cells
      ∙ (pin-drives p.structure n.cells h.library c o.cell placed.cell out placed.gives.pin placed.gives.there ∙ output-drives o.cell placed.gives.pin placed.gives.is))
