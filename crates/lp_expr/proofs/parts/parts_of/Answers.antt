use Rattle.std.proofs.Common.{ℕ, List, Result, Ok, Err, IfOk, IfErr, length, ◌≤◌, subst}
use Rattle.std.specs.Global.{Vec}
use Rattle.lp_expr.specs.declared.dialect.Dialect.{Dialect}
use Rattle.lp_expr.specs.declared.dialect.Part.{Part}
use Rattle.lp_expr.specs.declared.parts.PartsFault.{PartsFault}
use Rattle.lp_expr.specs.declared.parts.PartsFault.TheVariants as faults
use Rattle.lp_expr.specs.Machine.{Reading, read_in, start}
use Rattle.lp_expr.specs.Parts.{ReadsParts, are_within}
use Rattle.lp_expr.specs.Denotes.{are_named}
use Rattle.lp_expr.proofs.PartsLaws.{named, few}
use Rattle.std.specs.Prelude.{IsTrue}
use Rattle.lp_expr.specs.Reading.{IsReading, LeavesAt}
use Rattle.lp_expr.proofs.Simulation.{Answers, reading_answers}
use Rattle.lp_expr.proofs.parts.parts_of.Goals as goal

read_parts : (d : Dialect) (text : List ℕ) (r : Result (Vec Part) PartsFault) (a : Reading) → IsReading r a → Answers text d a → IfOk r (λ parts. ReadsParts d text parts.items)
read_parts d text (Ok parts) a is h = subst (Answers text d) is h
read_parts d text (Err (faults.Syntax place)) a is h = tt
read_parts d text (Err faults.NoMemory) a is h = tt

left_text : (d : Dialect) (text : List ℕ) (r : Result (Vec Part) PartsFault) (a : Reading) → IsReading r a → Answers text d a → IfErr r (LeavesAt d text)
left_text d text (Ok parts) a is h = tt
left_text d text (Err (faults.Syntax place)) a is h = subst (Answers text d) is h
left_text d text (Err faults.NoMemory) a is h = tt

from_parts : {P : List Part → Type 0} (d : Dialect) (text : List ℕ) (r : Result (Vec Part) PartsFault) → IfOk r (λ parts. ReadsParts d text parts.items) → ((read : List Part) → ReadsParts d text read → P read) → IfOk r (λ parts. P parts.items)
from_parts d text (Ok parts) h f = f parts.items h
from_parts d text (Err e) h f = tt

reads : (c : goal.After-run) → IfOk c.run.result (λ parts. ReadsParts c.args.dialect c.args.text.now parts.items)
reads c = read_parts c.args.dialect c.args.text.now c.run.result (read_in c.args.dialect 0 c.args.text.now start) c.run.ensures (reading_answers c.args.text.now c.args.dialect)

pub returns-clause-within : goal.returns-clause-within
returns-clause-within c = from_parts {P = λ read. IsTrue (are_within c.args.text.now read)} c.args.dialect c.args.text.now c.run.result (reads c) (λ read h. h.within)

pub returns-clause-named : goal.returns-clause-named
returns-clause-named c = from_parts {P = λ read. IsTrue (are_named c.args.text.now read)} c.args.dialect c.args.text.now c.run.result (reads c) (λ read h. named c.args.dialect c.args.text.now read h)

pub returns-clause-few : goal.returns-clause-few
returns-clause-few c = from_parts {P = λ read. length read ≤ length c.args.text.now} c.args.dialect c.args.text.now c.run.result (reads c) (λ read h. few c.args.dialect c.args.text.now read h)

pub returns-clause-ok : goal.returns-clause-ok
returns-clause-ok c = reads c

pub returns-clause-err : goal.returns-clause-err
returns-clause-err c = left_text c.args.dialect c.args.text.now c.run.result (read_in c.args.dialect 0 c.args.text.now start) c.run.ensures (reading_answers c.args.text.now c.args.dialect)
