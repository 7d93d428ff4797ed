use Rattle.lp_spec_sound.proofs.Soundness.{read-sound}
use Rattle.lp_spec_sound.proofs.laws.read_cells_are_sound.Goals as goal

pub returns : goal.returns
returns c = read-sound
