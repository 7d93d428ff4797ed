use Rattle.std.proofs.Common.{◌≡◌, ℕ, suc, ◌+◌, ◌-◌, ◌<◌, ◌≤◌, List, Option, Some, None, length, length-drop, take, drop, drop-drop, refl, sym, ap, ◌∙◌, arith}
use Rattle.std.proofs.lemmas.List.{take_all}
use Rattle.lp_liberty.specs.declared.mark.Mode.{Mode}
use Rattle.lp_liberty.specs.declared.mark.Context.{Context}
use Rattle.lp_liberty.specs.declared.lexed.Lexed.{Lexed}
use Rattle.lp_liberty.specs.Lexing.{lexed_at}
use Rattle.lp_liberty.specs.Grammar.{Token}
use Rattle.lp_liberty.specs.Tokens.{bare, behind, token_of, tokens_from}
use Rattle.lp_liberty.specs.Machine.{context_of, opens_group}
use Rattle.lp_liberty.proofs.Heads.{by_token, ahead_one, token_opens, token_ends, token_leads}
use Rattle.lp_liberty.proofs.ahead.opens_group.Goals as goal

-- what is left of a text
abbrev rest_of : List ℕ → ℕ → List ℕ
rest_of text at = take (length text - at) (drop at text)

rest_is : (text : List ℕ) (at : ℕ) → rest_of text at ≡ drop at text
rest_is text at = take_all (length text - at) (drop at text) (omega (arith, length-drop at text))

-- the tokens behind the next one
abbrev more : Mode → ℕ → ℕ → List ℕ → Lexed → Token → List Token
more mode left at text l t = bare (tokens_from left (behind (context_of mode) t) (at + (l.start + l.size)) (drop (l.start + l.size) (rest_of text at)))

token_at : (start mode : Mode) (most round at : ℕ) (text : List ℕ) (c : Context) (l : Lexed) → opens_group mode (bare (tokens_from (most - round) (context_of mode) at (drop at text))) ≡ opens_group start (bare (tokens_from most (context_of start) 0 text)) → round < most → c ≡ context_of mode → l ≡ lexed_at c (rest_of text at)
    → opens_group start (bare (tokens_from most (context_of start) 0 text)) ≡ by_token mode (token_of (rest_of text at) l l.sort) (more mode (most - (round + 1)) at text l)
token_at start mode most round at text c l same less context lexed =
    let left : most - round ≡ suc (most - (round + 1)) = omega arith in
    sym same ∙ ahead_one mode at (most - round) (most - (round + 1)) text left (rest_of text at) (rest_is text at) l (lexed ∙ ap (λ x. lexed_at x (rest_of text at)) context)

none_of : (o : Option Mode) → ((n : Mode) → o ≡ Some n → ⊥) → o ≡ None
none_of None not = refl
none_of (Some n) not = absurd (not n refl)

pub returns-then-is_brace : goal.returns-then-is_brace
returns-then-is_brace c =
    let text = c.args.text.now in
    let mode = c.loop-round.mode in
    let at = c.loop-round.at in
    let l = c.lexed_at-token.result in
    sym (token_at c.args.start mode c.args.most c.loop-round.round at text c.context.result l c.loop-round.invariant.same c.loop-round-test.true c.context.ensures c.lexed_at-token.ensures.value
    ∙ token_opens mode (token_of (rest_of text at) l l.sort) (more mode (c.args.most - (c.loop-round.round + 1)) at text l) (sym (c.is_brace.ensures (rest_of text at) l) ∙ c.if-is_brace.true))

pub returns-in_default : goal.returns-in_default
returns-in_default c =
    let text = c.args.text.now in
    let mode = c.loop-round.mode in
    let at = c.loop-round.at in
    let l = c.lexed_at-token.result in
    let none : c.head_mode.result ≡ None = none_of c.head_mode.result c.in_default.not-Some in
    sym (token_at c.args.start mode c.args.most c.loop-round.round at text c.context.result l c.loop-round.invariant.same c.loop-round-test.true c.context.ensures c.lexed_at-token.ensures.value
    ∙ token_ends mode (token_of (rest_of text at) l l.sort) (more mode (c.args.most - (c.loop-round.round + 1)) at text l) (sym (c.is_brace.ensures (rest_of text at) l) ∙ c.if-is_brace.false) (sym (c.head_mode.ensures (rest_of text at) l) ∙ none))

pub loop-round-preserved : goal.loop-round-preserved
loop-round-preserved c =
    let text = c.args.text.now in
    let mode = c.loop-round.mode in
    let next = c.in-Some.next in
    let at = c.loop-round.at in
    let l = c.lexed_at-token.result in
    let left = c.args.most - (c.loop-round.round + 1) in
    let rest = rest_of text at in
    let cut : drop (l.start + l.size) rest ≡ drop (at + (l.start + l.size)) text = ap (drop (l.start + l.size)) (rest_is text at) ∙ drop-drop (l.start + l.size) at text in
    let here = token_at c.args.start mode c.args.most c.loop-round.round at text c.context.result l c.loop-round.invariant.same c.loop-round-test.true c.context.ensures c.lexed_at-token.ensures.value in
    let leads = token_leads mode (token_of rest l l.sort) next left (at + (l.start + l.size)) (drop (l.start + l.size) rest) (sym (c.is_brace.ensures rest l) ∙ c.if-is_brace.false) (sym (c.in-Some.ensures rest l)) in
    let inside : l.start + l.size ≤ length rest = c.lexed_at-token.ensures.within in
    let long : length rest ≡ length text - at = ap length (rest_is text at) ∙ length-drop at text in
    let within : at ≤ length text = c.loop-round.invariant.inside in
    record {
      same = sym (here ∙ leads ∙ ap (λ ts. opens_group next (bare (tokens_from left (context_of next) (at + (l.start + l.size)) ts))) cut);
      inside = omega arith;
    }
