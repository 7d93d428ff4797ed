use Rattle.std.proofs.Common.{ℕ, List, Result, Ok, Err, IfErr, length}
use Rattle.lp_model.specs.declared.groups.Group.{Group}
use Rattle.lp_liberty.specs.declared.run.Stop.{Stop}
use Rattle.lp_liberty.specs.Machine.{read_in, start}
use Rattle.lp_liberty.specs.Tokens.{tokens_of}
use Rattle.lp_liberty.specs.Outcome.{IsStop}
use Rattle.lp_liberty.specs.Stops.{StopsAt}
use Rattle.lp_liberty.proofs.Answered.{denotes_ok, stops_at}
use Rattle.lp_liberty.proofs.Below.{numbers_ok}
use Rattle.lp_liberty.proofs.read.groups_of.Goals as goal

stopped : (text : List ℕ) (old : List (List ℕ)) (r : Result (List Group) Stop) → IfErr r (λ stop. IsStop stop (read_in (length text) old start (tokens_of text))) → IfErr r (StopsAt text)
stopped text old (Ok groups) h = tt
stopped text old (Err stop) h = stops_at text old stop h

pub returns-clause-ok : goal.returns-clause-ok
returns-clause-ok c = denotes_ok c.args.text.now c.run.new.names c.args.names.now c.run.result c.requires.small c.run.ensures.ok

pub returns-clause-err : goal.returns-clause-err
returns-clause-err c = stopped c.args.text.now c.args.names.now c.run.result c.run.ensures.err

pub returns-clause-numbers : goal.returns-clause-numbers
returns-clause-numbers c = numbers_ok (length c.args.text.now) (tokens_of c.args.text.now) c.run.new.names c.args.names.now c.run.result c.run.ensures.ok
