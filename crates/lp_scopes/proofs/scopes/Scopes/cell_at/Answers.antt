use Rattle.std.proofs.Common.{Some, None}
use Rattle.lp_scopes.proofs.Named.{cell_called}
use Rattle.lp_scopes.proofs.scopes.Scopes.cell_at.Goals as goal

pub returns-in-Some : goal.returns-in-Some
returns-in-Some c = λ g. cell_called c.args.names.now g c.args.self.now c.args.spot (Some (record { 0 = c.in-Some.leaf })) c.in-Some.ensures

pub returns-in-None : goal.returns-in-None
returns-in-None c = λ g. cell_called c.args.names.now g c.args.self.now c.args.spot None c.in-None.ensures
