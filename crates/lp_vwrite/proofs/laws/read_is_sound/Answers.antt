use Rattle.lp_vwrite.proofs.Sighted.{read_is_sound}
use Rattle.lp_vwrite.proofs.laws.read_is_sound.Goals as goal

pub returns : goal.returns
returns c text v h = read_is_sound text v h
