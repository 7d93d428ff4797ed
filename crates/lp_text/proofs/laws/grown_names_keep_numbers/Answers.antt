use Rattle.lp_text.specs.Texts.{Grown-KeepsNumbers}
use Rattle.lp_text.proofs.laws.grown_names_keep_numbers.Goals as goal

pub returns : goal.returns
returns c old new grown = Grown-KeepsNumbers old new grown
