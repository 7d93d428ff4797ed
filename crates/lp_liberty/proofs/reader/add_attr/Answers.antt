use Rattle.std.proofs.Common.{ap, ◌∙◌, arith}
use Rattle.std.specs.Prelude.{slice_set}
use Rattle.lp_liberty.proofs.Attrs.{attr_set, attr_beyond}
use Rattle.lp_liberty.proofs.reader.add_attr.Goals as goal

pub returns-in_ok-push : goal.returns-in_ok-push
returns-in_ok-push c =
    let g = c.index_mut.result.now in
    ap (λ attrs. slice_set c.args.groups.now.items c.args.number (record { word = g.word; args = g.args; parent = g.parent; attrs = attrs })) c.in_ok-push.ensures.ok
    ∙ attr_set c.args.groups.now.items c.args.number c.args.attr g (omega arith) c.index_mut.ensures.value

pub returns-else-number-as_slice : goal.returns-else-number-as_slice
returns-else-number-as_slice c = attr_beyond c.args.groups.now.items c.args.number c.args.attr (omega arith)
