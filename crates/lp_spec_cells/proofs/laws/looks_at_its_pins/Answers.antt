use Rattle.lp_spec_cells.proofs.LooksAtPins.{looks-at-its-pins}
use Rattle.lp_spec_cells.proofs.laws.looks_at_its_pins.Goals as goal

pub returns : goal.returns
returns c = looks-at-its-pins
