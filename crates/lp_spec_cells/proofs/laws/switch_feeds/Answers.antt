use Rattle.lp_spec_cells.proofs.LooksAtPins.{switch-feeds}
use Rattle.lp_spec_cells.proofs.laws.switch_feeds.Goals as goal

pub returns : goal.returns
returns c = switch-feeds
