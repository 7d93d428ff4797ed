use Rattle.std.proofs.Common.{◌∙◌}
use Rattle.lp_parts.proofs.Known.{signals_known, pgs_known}
use Rattle.lp_cells.proofs.Naming.{below_as, known_as}
use Rattle.lp_cells.proofs.cell.frame_of.Goals as goal

pub pgs_of-requires-clause-signals : goal.pgs_of-requires-clause-signals
pgs_of-requires-clause-signals c = known_as c.args.names.now c.in_ok-signals.signals _ c.in_ok-signals.ensures (signals_known c.args.names.now c.requires.empty c.args.place c.args.groups.now)

pub pgs_of-requires-clause-pgs : goal.pgs_of-requires-clause-pgs
pgs_of-requires-clause-pgs c = known_as c.args.names.now c.in_ok-own.own _ c.in_ok-own.ensures (pgs_known c.args.names.now c.requires.empty c.args.place c.args.groups.now)

pub returns-clause-knows : goal.returns-clause-knows
returns-clause-knows c = record {
  signals = known_as c.args.names.now c.frame_by.result.signals _ (c.frame_by.ensures.signals ∙ c.in_ok-signals.ensures) (signals_known c.args.names.now c.requires.empty c.args.place c.args.groups.now);
  pgs = below_as c.args.names.now c.frame_by.result.pgs _ c.frame_by.ensures.pgs c.in_ok-pgs.ensures.below;
  names = known_as c.args.names.now c.frame_by.result.names _ (c.frame_by.ensures.own ∙ c.in_ok-own.ensures) (pgs_known c.args.names.now c.requires.empty c.args.place c.args.groups.now);
}
