use Rattle.lp_liberty.proofs.OneAnswer.{read_once, refused_once}
use Rattle.lp_liberty.proofs.laws.one_answer.Goals as goal

pub returns-clause-read : goal.returns-clause-read
returns-clause-read c = read_once

pub returns-clause-refused : goal.returns-clause-refused
returns-clause-refused c = refused_once
