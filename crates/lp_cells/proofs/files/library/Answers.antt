use Rattle.lp_cells.specs.Cells.{NoMemory}
use Rattle.lp_cells.proofs.files.library.Goals as goal

pub returns-in-Err-clause-err : goal.returns-in-Err-clause-err
returns-in-Err-clause-err c = NoMemory
