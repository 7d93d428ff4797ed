use Rattle.lp_plain_joins.proofs.Powered.{netlist_written}
use Rattle.lp_plain_joins.proofs.laws.powered_is_well_formed.Goals as goal

pub returns : goal.returns
returns c cells m power gnd margin single read fit apart power_seen gnd_seen = netlist_written cells m power gnd margin single apart read fit power_seen gnd_seen
