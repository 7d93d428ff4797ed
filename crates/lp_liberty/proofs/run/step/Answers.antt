use Rattle.std.proofs.Common.{◌≡◌, ℕ, ◌≤◌, Bool, true, List, Option, Some, None, IfErr, refl, sym, ap, ◌∙◌, subst}
use Rattle.std.specs.Prelude.{if◌then◌else◌, nat_lt}
use Rattle.std.proofs.lemmas.Bool.{le-ltb, lt-ltb}
use Rattle.lp_liberty.specs.Grammar.{Token, Sign}
use Rattle.lp_liberty.specs.Machine.{Machine, Refused, Reading, Step, step_at, taken_in, next_step, stop_ahead}
use Rattle.lp_liberty.specs.Tokens.{token_of}
use Rattle.lp_liberty.specs.declared.run.Stop.{Stop}
use Rattle.lp_liberty.specs.declared.run.Stop.TheVariants as stops
use Rattle.lp_liberty.specs.Outcome.{IsStop, RefusedBy}
use Rattle.lp_liberty.proofs.run.step.Goals as goal

-- the stop of a reading is that of its refusal
refused : (stop : Stop) (r : Reading) → IsStop stop r → RefusedBy stop (Refused r)
refused (stops.Syntax place) r e = ap Refused e
refused (stops.Deep place) r e = ap Refused e
refused (stops.Long place) r e = ap Refused e
refused stops.NoMemory r e = tt

long_step : (stop : Reading) (names : List (List ℕ)) (m : Machine) (at size : ℕ) (o : Option Token) → nat_lt 1048576 size ≡ true → step_at stop names m at size o ≡ Refused stop
long_step stop names m at size None e = rw e refl
long_step stop names m at size (Some t) e = rw e refl

pub returns-then-token-gt-LONGEST-clause-err : goal.returns-then-token-gt-LONGEST-clause-err
returns-then-token-gt-LONGEST-clause-err c =
    let stop = stop_ahead c.args.left c.args.rest.now c.args.reader.now c.args.at in
    let size = c.args.token.size in
    let is : next_step c.args.left c.args.rest.now c.args.names.now c.args.reader.now c.args.token c.args.at ≡ Refused stop = long_step stop c.args.names.now c.args.reader.now c.args.at size (token_of c.args.rest.now c.args.token c.args.token.sort) (lt-ltb 1048576 size c.if-token-gt-LONGEST.true) in
    subst (RefusedBy c.too_long.result) (sym is) (refused c.too_long.result stop c.too_long.ensures)

pub returns-in-Mark-clause-err : goal.returns-in-Mark-clause-err
returns-in-Mark-clause-err c =
    let names = c.args.names.now in
    let reader = c.args.reader.now in
    let mark = c.in-Mark.mark in
    let size = c.args.token.size in
    let stop = stop_ahead c.args.left c.args.rest.now reader c.args.at in
    let short : size ≤ 1048576 = c.if-token-gt-LONGEST.false in
    let same : next_step c.args.left c.args.rest.now names reader c.args.token c.args.at ≡ taken_in names reader c.args.at (Sign mark) =
    ap (λ s. step_at stop names reader c.args.at size (token_of c.args.rest.now c.args.token s)) c.in-Mark.is
    ∙ ap (λ (b : Bool). if b then Refused stop else taken_in names reader c.args.at (Sign mark)) (le-ltb 1048576 size short) in
    subst (λ (s : Step). IfErr c.take_mark.result (λ stop. RefusedBy stop s)) (sym same) (c.take_mark.ensures.err names)
