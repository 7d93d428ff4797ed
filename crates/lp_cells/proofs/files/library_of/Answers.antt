use Rattle.std.specs.Prelude.{map}
use Rattle.lp_model.specs.GroupsView.{groups_view}
use Rattle.lp_cells.specs.Cells.{NoMemory}
use Rattle.lp_cells.proofs.Naming.{library_found, library_refused}
use Rattle.lp_cells.proofs.files.library_of.Goals as goal

pub returns-in-Ok-clause-ok : goal.returns-in-Ok-clause-ok
returns-in-Ok-clause-ok c = library_found c.args.names.now (map (groups_view c.args.names.now) c.args.files.now) c.in-Ok.cells c.in-Ok.ensures.cells c.in-Ok.twice c.with_cells.result c.with_cells.ensures c.in-Ok.ensures.twice

pub returns-in-Ok-clause-err : goal.returns-in-Ok-clause-err
returns-in-Ok-clause-err c = library_refused c.args.names.now (map (groups_view c.args.names.now) c.args.files.now) c.in-Ok.cells c.in-Ok.ensures.cells c.in-Ok.twice c.with_cells.result c.with_cells.ensures c.in-Ok.ensures.twice

pub returns-in-Err-clause-err : goal.returns-in-Err-clause-err
returns-in-Err-clause-err c = NoMemory
