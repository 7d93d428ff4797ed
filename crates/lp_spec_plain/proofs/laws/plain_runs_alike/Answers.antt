use Rattle.lp_spec_plain.proofs.Runs.{runs_alike}
use Rattle.lp_spec_plain.proofs.laws.plain_runs_alike.Goals as goal

pub returns : goal.returns
returns c d w origin of ordered = runs_alike d of.one of.plain w of.own of.power of.gnd of.carries origin of.power_is of.gnd_is ordered
