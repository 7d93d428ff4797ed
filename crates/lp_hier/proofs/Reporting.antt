-- The first line that holds of net bits.
use Rattle.std.proofs.Common.{◌≡◌, ◌<◌, ℕ, List, [], ◌∷◌, length, Option, Some, None, refl, sym, ap, ◌∙◌, subst}
use Rattle.std.specs.Prelude.{codes}
use Rattle.std.specs.Option.{option_map}
use Rattle.lp_model.specs.FaultLines.{line_text}
use Rattle.lp_model.specs.declared.graph.Graph.{Graph}
use Rattle.lp_model.specs.declared.ids.NodeId.{NodeId}
use Rattle.lp_spec_design.specs.Keys.{Node}
use Rattle.lp_spec_design.specs.Netlists.{Structure}
use Rattle.lp_spec_design.specs.Nodes.{inner_nodes}
use Rattle.lp_spec_faults.specs.Lines.{first_of}
use Rattle.lp_spec_faults.specs.Wires.{two_drivers, wire_loop}
use Rattle.lp_targets.specs.Reports.{Report, or_else}
use Rattle.lp_drivers.specs.Ready.{node_of}
use Rattle.lp_node_text.specs.Paths.{node_text}
use Rattle.lp_node_text.specs.Reports.{report_line, source_report}
use Rattle.lp_wire_loops.specs.Reads.{HasWires, IsFirstLoop, IsWithin}
use Rattle.lp_hier.specs.declared.refused.Refused.{Refused}
use Rattle.lp_hier.specs.declared.refused.Refused.TheVariants as refused
use Rattle.lp_hier.specs.Reports.{loop_report, bits_report}
use Rattle.lp_hier.specs.Elaborated.{IsLineOf}

mapped : {A B : Type 0} (f : A → B) (o : Option A) → o ≡ None → option_map f o ≡ None
mapped f o e = ap (option_map f) e

pub not-mapped : {A B : Type 0} (f : A → B) (o : Option A) → option_map f o ≡ None → o ≡ None
not-mapped f None e = refl
not-mapped f (Some x) e = cc

pub no_bits : (s : Structure) → first_of (two_drivers s) ≡ None → first_of (wire_loop s) ≡ None → bits_report s ≡ None
unfolding bits_report
no_bits s single free = ap (λ o. or_else o (loop_report s)) (mapped _ (first_of (two_drivers s)) single) ∙ mapped _ (first_of (wire_loop s)) free

-- the same line, by another report
line-by : (a b : Option Report) (r : Refused) → ((x : Report) → a ≡ Some x → b ≡ Some x) → IsLineOf a r → IsLineOf b r
line-by a b refused.NoMemory same h = h
line-by None b (refused.Line line) same h = cc
line-by (Some x) b (refused.Line line) same h = h ∙ ap (option_map report_line) (sym (same x refl))

pub first_bits : (s : Structure) (r : Refused) → IsLineOf (source_report s) r → IsLineOf (bits_report s) r
unfolding bits_report
first_bits s r h = line-by (source_report s) (or_else (source_report s) (loop_report s)) r (λ x e. ap (λ o. or_else o (loop_report s)) e) h

pub later_bits : (s : Structure) (r : Refused) → source_report s ≡ None → IsLineOf (loop_report s) r → IsLineOf (bits_report s) r
unfolding bits_report
later_bits s r none h = line-by (loop_report s) (or_else (source_report s) (loop_report s)) r (λ x e. ap (λ o. or_else o (loop_report s)) none ∙ e) h

pub no_source : (s : Structure) → source_report s ≡ None → first_of (two_drivers s) ≡ None
no_source s e = not-mapped _ (first_of (two_drivers s)) e

pub no_loop : (s : Structure) → loop_report s ≡ None → first_of (wire_loop s) ≡ None
no_loop s e = not-mapped _ (first_of (wire_loop s)) e

-- ---- the line of a loop

abbrev node-line : Node → Report
node-line k = (codes "F23 WireLoop", node_text k ∷ [])

pub told_loop : (s : Structure) (o : Option NodeId) (node : NodeId) → IsFirstLoop s o → o ≡ Some node → (text line : List ℕ) → text ≡ node_text (node_of s node) → line ≡ line_text (codes "F23 WireLoop") (text ∷ []) → Some line ≡ option_map report_line (loop_report s)
told_loop s o node first is text line t e =
    ap Some (e ∙ ap (λ z. line_text (codes "F23 WireLoop") (z ∷ [])) t)
    ∙ ap (λ q. option_map report_line (option_map node-line q)) (ap (option_map (node_of s)) (sym is) ∙ first)

pub told_free : (s : Structure) (o : Option NodeId) → IsFirstLoop s o → o ≡ None → None ≡ option_map report_line (loop_report s)
told_free s o first is = ap (λ q. option_map report_line (option_map node-line q)) (ap (option_map (node_of s)) (sym is) ∙ first)

-- it is a net bit of an instance
pub node_low : (texts : List (List ℕ)) (s : Structure) (g : Graph) → HasWires texts s g → (o : Option NodeId) (node : NodeId) → IsWithin g.inner o → o ≡ Some node → node.0 < length (inner_nodes s)
node_low texts s g w o node within is = subst (λ n. node.0 < n) (w.inner ∙ w.elaborates.inner) (subst (IsWithin g.inner) is within)
