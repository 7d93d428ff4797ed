use Rattle.std.proofs.Common.{◌≡◌, ◌++◌, List, map, sym, ap, ◌∙◌, subst}
use Rattle.std.specs.Prelude.{OnOk}
use Rattle.lp_model.specs.declared.graph.Node.{Node as NodeRow}
use Rattle.lp_layout.specs.Labels.{names_in}
use Rattle.lp_layout.specs.Nodes.{named_at}
use Rattle.lp_layout.proofs.Named.{named_up, named_down}
use Rattle.lp_layout.proofs.bits.push_bits.Goals as goal

pub returns-then-range : goal.returns-then-range
returns-then-range c =
    let P : List NodeRow → Type 0 = λ z. OnOk c.push_upward.result (c.push_upward.new.nodes ≡ c.args.nodes.now ++ z) in
    subst P (sym (named_up c.args.inst c.args.name c.in-Some.range c.if-range.true) ∙ ap (λ o. map (named_at c.args.inst) (names_in c.args.name o)) (sym c.in-Some.is)) c.push_upward.ensures

pub returns-else-range : goal.returns-else-range
returns-else-range c =
    let P : List NodeRow → Type 0 = λ z. OnOk c.push_downward.result (c.push_downward.new.nodes ≡ c.args.nodes.now ++ z) in
    subst P (sym (named_down c.args.inst c.args.name c.in-Some.range c.if-range.false) ∙ ap (λ o. map (named_at c.args.inst) (names_in c.args.name o)) (sym c.in-Some.is)) c.push_downward.ensures
