use Rattle.std.proofs.Common.{◌≡◌, ℕ, suc, ◌+◌, ◌-◌, ◌≤◌, None, length, drop, IfOk, IfErr, sym, ap, ◌∙◌, subst, refl, arith, true, false, List, take, length-drop, drop-drop}
use Rattle.std.proofs.lemmas.Result.{err_from_is_err_and}
use Rattle.lp_liberty.specs.declared.mark.Sort.{Sort}
use Rattle.lp_liberty.specs.declared.mark.Sort.TheVariants as sorts
use Rattle.lp_liberty.specs.declared.lexed.Lexed.{Lexed}
use Rattle.lp_liberty.specs.Lexing.{is_end, lexed_at}
use Rattle.lp_liberty.specs.Machine.{Reading, Taken, Whole, finished, next_step, read_in, context_of, start, stop_ahead}
use Rattle.lp_liberty.specs.Tokens.{tokens_of, tokens_from, token_of}
use Rattle.lp_liberty.specs.Outcome.{IsStop, RefusedBy}
use Rattle.lp_text.specs.Texts.{Grown-trans}
use Rattle.lp_liberty.proofs.Running.{unfolded, read_end, read_refused, read_taken, with_token}
use Rattle.std.proofs.lemmas.List.{take_all}
use Rattle.lp_liberty.proofs.Few.{step_few}
use Rattle.lp_liberty.proofs.run.run.Goals as goal
use Rattle.lp_liberty.proofs.run.run.Goals.{After-is_end, After-loop-round}

ends : (s : Sort) → is_end s ≡ true → s ≡ sorts.End
ends sorts.End e = refl
ends sorts.Word e = absurd cc
ends sorts.Quoted e = absurd cc
ends (sorts.Mark k) e = absurd cc

goes_on : (rest : List ℕ) (l : Lexed) (s : Sort) → is_end s ≡ false → token_of rest l s ≡ None → ⊥
goes_on rest l sorts.End e h = cc
goes_on rest l sorts.Word e h = cc
goes_on rest l sorts.Quoted e h = cc
goes_on rest l (sorts.Mark k) e h = cc

-- what is left of a text
abbrev rest_of : List ℕ → ℕ → List ℕ
rest_of text at = take (length text - at) (drop at text)

rest_is : (text : List ℕ) (at : ℕ) → rest_of text at ≡ drop at text
rest_is text at = take_all (length text - at) (drop at text) (omega (arith, length-drop at text))

-- the tokens from the one that the loop is at
at_token : (c : After-is_end) → read_in (length c.args.text.now) c.args.names.now start (tokens_of c.args.text.now)
    ≡ read_in (length c.args.text.now) c.loop-round.names c.loop-round.reader (with_token (length c.args.text.now) c.loop-round.names c.loop-round.reader (length c.args.text.now - (c.loop-round.round + 1)) c.loop-round.at (rest_of c.args.text.now c.loop-round.at) c.lexed_at-token.result (token_of (rest_of c.args.text.now c.loop-round.at) c.lexed_at-token.result c.lexed_at-token.result.sort))
at_token c =
    let size = length c.args.text.now in
    let left : size - c.loop-round.round ≡ suc (size - (c.loop-round.round + 1)) = (let more = c.loop-round-test.true in omega arith) in
    sym c.loop-round.invariant.reads
    ∙ ap (read_in size c.loop-round.names c.loop-round.reader) (unfolded size c.loop-round.names c.loop-round.reader c.loop-round.at (size - c.loop-round.round) (size - (c.loop-round.round + 1)) c.args.text.now left c.context.result c.context.ensures (rest_of c.args.text.now c.loop-round.at) (rest_is c.args.text.now c.loop-round.at) c.lexed_at-token.result c.lexed_at-token.ensures.value)

-- the next token, in the context of the reader
lexed_here : (c : After-is_end) → c.lexed_at-token.result ≡ lexed_at (context_of c.loop-round.reader.mode) (rest_of c.args.text.now c.loop-round.at)
lexed_here c = c.lexed_at-token.ensures.value ∙ ap (λ x. lexed_at x (rest_of c.args.text.now c.loop-round.at)) c.context.ensures

-- it is one of the tokens that are left
left_here : (c : After-is_end) → length c.args.text.now - c.loop-round.round ≡ suc (length c.args.text.now - (c.loop-round.round + 1))
left_here c = let more = c.loop-round-test.true in omega arith

at_end : (c : After-is_end) → c.is_end.result ≡ true → read_in (length c.args.text.now) c.args.names.now start (tokens_of c.args.text.now) ≡ finished (length c.args.text.now) c.loop-round.names c.loop-round.reader
at_end c e =
    let size = length c.args.text.now in
    let l = c.lexed_at-token.result in
    at_token c ∙ read_end size c.loop-round.names c.loop-round.reader (size - (c.loop-round.round + 1)) c.loop-round.at (rest_of c.args.text.now c.loop-round.at) l l.sort (ends l.sort (sym c.is_end.ensures ∙ e))

pub returns-then-is_end-clause-ok : goal.returns-then-is_end-clause-ok
returns-then-is_end-clause-ok c =
    let at = (goal.at.returns-then-is_end-clause-ok c).After-is_end in
    subst (λ (r : Reading). IfOk c.finish.result (λ groups. r ≡ Whole c.loop-round.names groups)) (sym (at_end at c.if-is_end.true)) (c.finish.ensures.ok c.loop-round.names)

pub returns-then-is_end-clause-err : goal.returns-then-is_end-clause-err
returns-then-is_end-clause-err c =
    let at = (goal.at.returns-then-is_end-clause-err c).After-is_end in
    subst (λ (r : Reading). IfErr c.finish.result (λ stop. IsStop stop r)) (sym (at_end at c.if-is_end.true)) (c.finish.ensures.err c.loop-round.names)

pub returns-in_err-step-clause-err : goal.returns-in_err-step-clause-err
returns-in_err-step-clause-err c =
    let p = err_from_is_err_and c.from_residual.result c.from_residual.ensures.1 in
    let at = (goal.at.returns-in_err-step-clause-err c).After-is_end in
    let size = length c.args.text.now in
    let l = c.lexed_at-token.result in
    let refused = subst (λ (k : ℕ). RefusedBy c.in_err-step.field-0.0 (next_step k (rest_of c.args.text.now c.loop-round.at) c.loop-round.names c.loop-round.reader l (c.loop-round.at + l.start))) (left_here at) c.in_err-step.ensures.err in
    let here = read_refused size c.loop-round.names c.loop-round.reader (size - (c.loop-round.round + 1)) c.loop-round.at (rest_of c.args.text.now c.loop-round.at) l c.in_err-step.field-0.0 (lexed_here at) (goes_on (rest_of c.args.text.now c.loop-round.at) l l.sort (sym c.is_end.ensures ∙ c.if-is_end.false)) refused in
    rw (p.1, p.2) (subst (IsStop c.in_err-step.field-0.0) (sym (at_token at)) here)

pub returns-clause-ok : goal.returns-clause-ok
returns-clause-ok c =
    let size = length c.args.text.now in
    let none : size - c.loop-round.round ≡ 0 = (let done = c.loop-round-test.false in omega arith) in
    let last = sym c.loop-round.invariant.reads ∙ ap (λ k. read_in size c.loop-round.names c.loop-round.reader (tokens_from k (context_of c.loop-round.reader.mode) c.loop-round.at (drop c.loop-round.at c.args.text.now))) none in
    subst (λ (r : Reading). IfOk c.finish-2.result (λ groups. r ≡ Whole c.loop-round.names groups)) (sym last) (c.finish-2.ensures.ok c.loop-round.names)

pub returns-clause-err : goal.returns-clause-err
returns-clause-err c =
    let size = length c.args.text.now in
    let none : size - c.loop-round.round ≡ 0 = (let done = c.loop-round-test.false in omega arith) in
    let last = sym c.loop-round.invariant.reads ∙ ap (λ k. read_in size c.loop-round.names c.loop-round.reader (tokens_from k (context_of c.loop-round.reader.mode) c.loop-round.at (drop c.loop-round.at c.args.text.now))) none in
    subst (λ (r : Reading). IfErr c.finish-2.result (λ stop. IsStop stop r)) (sym last) (c.finish-2.ensures.err c.loop-round.names)

pub loop-round-preserved : goal.loop-round-preserved
loop-round-preserved c =
    let at = (goal.at.loop-round-preserved c).After-is_end in
    let text = c.args.text.now in
    let size = length text in
    let l = c.lexed_at-token.result in
    let m = c.loop-round.reader in
    let n = c.step.new.reader in
    let k = size - (c.loop-round.round + 1) in
    let rest = rest_of text c.loop-round.at in
    let taken = subst (λ (j : ℕ). next_step j rest c.loop-round.names m l (c.loop-round.at + l.start) ≡ Taken c.step.new.names n) (left_here at) c.in_ok-step.ensures.ok in
    let here = read_taken size c.loop-round.names m k c.loop-round.at rest l c.step.new.names n (lexed_here at) (goes_on rest l l.sort (sym c.is_end.ensures ∙ c.if-is_end.false)) taken in
    let cut : drop (l.start + l.size) rest ≡ drop (c.loop-round.at + (l.start + l.size)) text = ap (drop (l.start + l.size)) (rest_is text c.loop-round.at) ∙ drop-drop (l.start + l.size) c.loop-round.at text in
    let moved : read_in size c.args.names.now start (tokens_of text) ≡ read_in size c.step.new.names n (tokens_from k (context_of n.mode) (c.loop-round.at + (l.start + l.size)) (drop (c.loop-round.at + (l.start + l.size)) text)) =
    at_token at ∙ here ∙ ap (λ ts. read_in size c.step.new.names n (tokens_from k (context_of n.mode) (c.loop-round.at + (l.start + l.size)) ts)) cut in
    let inside : l.start + l.size ≤ length rest = c.lexed_at-token.ensures.within in
    let long : length rest ≡ size - c.loop-round.at = ap length (rest_is text c.loop-round.at) ∙ length-drop c.loop-round.at text in
    let within : c.loop-round.at ≤ size = c.loop-round.invariant.inside in
    let groups : length n.groups ≤ length m.groups + 1 = step_few c.loop-round.names c.step.new.names m n (c.loop-round.at + l.start) (stop_ahead (suc k) rest m (c.loop-round.at + l.start)) l.size (token_of rest l l.sort) taken in
    let before : length m.groups ≤ c.loop-round.round = c.loop-round.invariant.groups in
    let few : length c.loop-round.names ≤ length c.args.names.now + c.loop-round.round = c.loop-round.invariant.few in
    let small : length c.step.new.names ≤ length c.loop-round.names + 1 = c.in_ok-step.ensures.small in
    record {
      reads = sym moved;
      inside = omega arith;
      groups = omega arith;
      grown = Grown-trans c.loop-round.invariant.grown c.in_ok-step.ensures.grown;
      few = omega arith;
    }
