use Rattle.std.proofs.Common.{length}
use Rattle.lp_cells.proofs.Below.{below_cell}
use Rattle.lp_cells.proofs.cell.parts_of.Goals as goal

pub returns-clause-below : goal.returns-clause-below
returns-clause-below c =
    below_cell (length c.args.names.now) c.arg_of-name.result.0 c.args.frame.now.pgs c.in_ok-judged.judged.0 c.in_ok-state.state c.in_ok-roles.roles c.arg_of-name.ensures.below c.requires.knows.pgs c.in_ok-judged.ensures.below c.in_ok-state.ensures.below c.in_ok-roles.ensures.below
