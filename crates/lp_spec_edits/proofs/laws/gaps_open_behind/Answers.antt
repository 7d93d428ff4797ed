use Rattle.lp_spec_edits.proofs.Splits.{split_behind_edited}
use Rattle.lp_spec_edits.proofs.laws.gaps_open_behind.Goals as goal

pub returns : goal.returns
returns c = λ n h e inside can. split_behind_edited n h e inside can.head can.driven
