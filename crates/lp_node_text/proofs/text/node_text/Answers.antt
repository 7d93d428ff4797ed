use Rattle.std.proofs.Common.{◌≡◌, subst, ap, ◌∙◌}
use Rattle.std.specs.Prelude.{IfOk}
use Rattle.lp_node_text.specs.Numbered.{place_text}
use Rattle.lp_node_text.proofs.Reading.{text-is}
use Rattle.lp_node_text.proofs.text.node_text.Goals as goal

pub returns : goal.returns
returns c = λ l ready low.
    let h = c.args.hierarchy.now in
    subst (λ t. IfOk c.place_text.result (λ text. text.items ≡ t))
    (ap (λ ms. place_text c.args.names.now ms c.args.templates.now c.args.hierarchy.now.top c.args.node.0) c.as_slice.ensures
    ∙ text-is c.args.names.now c.args.netlist.now l h.rows h.order.items h.top c.args.templates.now ready c.args.node.0 low)
    c.place_text.ensures
