-- What is laid out from the templates of a netlist of which no net bit has two drivers is its elaborated netlist.
use Rattle.std.proofs.Common.{◌≡◌, ◌<◌, ℕ, zero, suc, List, [], ◌∷◌, length, Some, None, not, refl, sym, ap, ◌∙◌, subst, arith}
use Rattle.std.specs.Prelude.{map, slice_get, IfOk, IfErr, Result, Ok, Err}
use Rattle.std.proofs.lemmas.Option.{slice_get_within}
use Rattle.lp_model.specs.declared.graph.Graph.{Graph}
use Rattle.lp_model.specs.declared.library.Library.{Library}
use Rattle.lp_model.specs.declared.netlist.Module.{Module}
use Rattle.lp_model.specs.declared.netlist.Netlist.{Netlist}
use Rattle.lp_model.specs.NetlistView.{ModuleView, module_view}
use Rattle.lp_spec_design.specs.Netlists.{Structure, is_instantiated, top_of}
use Rattle.lp_spec_faults.specs.Lines.{first_of}
use Rattle.lp_spec_faults.specs.Wires.{wire_loop}
use Rattle.lp_spec_bridge.specs.Tables.{tables_of, IsClosed}
use Rattle.lp_spec_bridge.specs.Elaborates.{Elaborates}
use Rattle.lp_spec_layout.specs.Parts.{Template}
use Rattle.lp_spec_layout.proofs.Laid.{laid_elaborates}
use Rattle.lp_targets.specs.declared.hierarchy.Hierarchy.{Hierarchy}
use Rattle.lp_targets.specs.declared.target.Target.{Target}
use Rattle.lp_targets.specs.Sizes.{IsResolved}
use Rattle.lp_targets.specs.Structures.{structure_of}
use Rattle.lp_layout.specs.Graph.{laid}
use Rattle.lp_spec_laid.specs.Shaped.{with_shapes}
use Rattle.lp_spec_laid.specs.Laws.{IsReady}
use Rattle.lp_spec_laid.proofs.Laid.{laid_out, held_tables}
use Rattle.lp_drivers.proofs.Orders.{one-first}
use Rattle.lp_drivers.proofs.Single.{single-bits}
use Rattle.lp_wire_loops.specs.Reads.{HasWires}
use Rattle.lp_spec_exact.specs.Laws.{CanBeLaidOut}
use Rattle.lp_spec_exact.proofs.Exact.{exact}
use Rattle.lp_node_text.specs.Reports.{source_report}
use Rattle.lp_hier.specs.declared.refused.Refused.{Refused}
use Rattle.lp_hier.specs.Reports.{loop_report}
use Rattle.lp_hier.specs.Elaborated.{IsElaborated, IsFaulty, OnWires, StopsBy}
use Rattle.lp_hier.proofs.Reporting.{later_bits, no_loop}

-- an entry of a list that is mapped
get-unmap : {A B : Type 0} (f : A → B) (xs : List A) (k : ℕ) (y : B) → slice_get (map f xs) k ≡ Some y → (x : A) × ((slice_get xs k ≡ Some x) × (f x ≡ y))
get-unmap f [] k y e = cc
get-unmap f (x ∷ xs) zero y e = let same : f x ≡ y = cc in (x, (refl, same))
get-unmap f (x ∷ xs) (suc k) y e = get-unmap f xs k y e

-- the place of the one top among few modules
pub top_small : (texts : List (List ℕ)) (n : Netlist) (l : Library) (rows : List (List Target)) (order : List ℕ) (top : ℕ) → length n.modules < 4294967295 → IsResolved (structure_of texts n l) rows order top → top < 4294967295
top_small texts n l rows order top few r =
    let s = structure_of texts n l in
    let the_top = one-first (λ (m : ModuleView). not (is_instantiated s m.name)) s.modules r.one in
    let source = get-unmap (module_view texts) n.modules top the_top.0 (r.placed ∙ the_top.1) in
    let within = slice_get_within n.modules top source.0 source.1.0 in
    omega (arith, within, few)

module _ (texts : List (List ℕ)) (n : Netlist) (l : Library) (h : Hierarchy) (templates : List Template) (can : CanBeLaidOut texts n l h.rows h.order.items h.top templates) where
  abbrev s : Structure
  s = structure_of texts n l

  the_top : (m : ModuleView) × (top_of s ≡ Some m)
  the_top = one-first (λ (m : ModuleView). not (is_instantiated s m.name)) s.modules can.ready.resolved.one

  source : (m : Module) × ((slice_get n.modules h.top ≡ Some m) × (module_view texts m ≡ the_top.0))
  source = get-unmap (module_view texts) n.modules h.top the_top.0 (can.ready.resolved.placed ∙ the_top.1)

  ready : IsReady texts n l templates h.top
  ready = record {
    source = source.0;
    sized = can.ready.sized;
    has_source = source.1.0;
    is_top = the_top.1 ∙ ap (λ m. Some m) (sym source.1.1);
    apart = can.ready.names;
    low = can.ready.low;
    resolved = can.ready.are;
  }

  pub graph_elaborates : Elaborates texts s (with_shapes l.cells (tables_of (laid n l templates h.top)))
  graph_elaborates = laid_elaborates texts s (with_shapes l.cells (tables_of (laid n l templates h.top))) can.ready.names (single-bits s can.ready.widths) (laid_out texts n l templates h.top ready (exact texts n l h.rows h.order.items h.top templates can ready))

  pub graph_closed : IsClosed (tables_of (laid n l templates h.top))
  graph_closed =
      let c = graph_elaborates.represents.closed in
      record { sources = c.sources; led = c.led; edges = c.edges; pins = c.pins; leaves = c.leaves; instances = c.instances }

  pub graph_wires : HasWires texts s (laid n l templates h.top)
  graph_wires = record { tables = with_shapes l.cells (tables_of (laid n l templates h.top)); elaborates = graph_elaborates; nodes = refl; edges = refl; inner = refl }

  pub is_elaborated : first_of (wire_loop s) ≡ None → IsElaborated texts n l (laid n l templates h.top)
  is_elaborated loop_free = record {
    source = refl;
    elaborates = graph_elaborates;
    shapes = held_tables n l templates h.top;
    single = can.drivers;
    loop_free = loop_free;
  }

-- ---- the graph that is laid out

module _ (texts : List (List ℕ)) (n : Netlist) (l : Library) (h : Hierarchy) (templates : List Template) (can : CanBeLaidOut texts n l h.rows h.order.items h.top templates) (g : Graph) (is : g ≡ laid n l templates h.top) where
  abbrev here : Structure
  here = structure_of texts n l

  pub closed_by : IsClosed (tables_of g)
  closed_by = subst (λ (x : Graph). IsClosed (tables_of x)) (sym is) (graph_closed texts n l h templates can)

  loops-by : (result : Result Graph Refused) → OnWires texts g h templates (λ z. StopsBy (loop_report z) result) → StopsBy (loop_report here) result
  loops-by result on = subst (λ (x : Graph). OnWires texts x h templates (λ z. StopsBy (loop_report z) result)) is on l can.ready (graph_wires texts n l h templates can)

  pub laid_ok : (result : Result Graph Refused) → OnWires texts g h templates (λ z. StopsBy (loop_report z) result) → IfOk result (λ x. x ≡ g) → IfOk result (IsElaborated texts n l)
  laid_ok result on same = by result (loops-by result on) same
    where
      by : (r : Result Graph Refused) → StopsBy (loop_report here) r → IfOk r (λ x. x ≡ g) → IfOk r (IsElaborated texts n l)
      by (Ok x) none e = subst (IsElaborated texts n l) (sym (e ∙ is)) (is_elaborated texts n l h templates can (no_loop here none))
      by (Err r) none e = tt

  pub laid_err : source_report here ≡ None → (result : Result Graph Refused) → OnWires texts g h templates (λ z. StopsBy (loop_report z) result) → IfErr result (IsFaulty texts n l)
  laid_err single result on = by result (loops-by result on)
    where
      by : (r : Result Graph Refused) → StopsBy (loop_report here) r → IfErr r (IsFaulty texts n l)
      by (Ok x) none = tt
      by (Err r) line = later_bits here r single line
