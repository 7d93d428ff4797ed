use Rattle.std.proofs.Common.{sym, ◌∙◌}
use Rattle.lp_cells.proofs.laws.one_library.Goals as goal

pub returns : goal.returns
returns c files a b x y = x.denoted ∙ sym y.denoted
