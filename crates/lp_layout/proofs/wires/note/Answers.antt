use Rattle.std.proofs.Common.{arith}
use Rattle.std.specs.Prelude.{slice_index_or}
use Rattle.lp_layout.specs.Wires.{no_node, with_source}
use Rattle.lp_layout.proofs.Lists.{set_out}
use Rattle.lp_layout.proofs.wires.note.Goals as goal

pub returns-in-None : goal.returns-in-None
returns-in-None c =
    let out = set_out c.args.nodes.now c.args.place (with_source (slice_index_or c.args.nodes.now c.args.place no_node) c.args.source) in
    grind (arith, out, c.in-None.ensures, c.as_slice.ensures)
