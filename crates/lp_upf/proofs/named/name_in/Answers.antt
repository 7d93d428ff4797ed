use Rattle.std.proofs.Common.{◌≡◌, ℕ, List, ap, sym, ◌∙◌, false}
use Rattle.std.specs.Prelude.{bytes_eq}
use Rattle.lp_model.specs.CommandsView.{option_text}
use Rattle.lp_spec_upf.specs.Commands.{same_option}
use Rattle.lp_upf.proofs.Sought.{another, rest_below}
use Rattle.lp_upf.proofs.named.name_in.Goals as goal

pub loop-option-preserved : goal.loop-option-preserved
loop-option-preserved c =
    let os = c.args.options.now in
    let i = c.loop-option.option-index in
    let x = c.option-item.result in
    let other : same_option x.word c.args.word ≡ false =
    ap (λ (t : List ℕ). bytes_eq t (option_text c.args.word)) (sym c.option_text.ensures)
    ∙ ap (λ (t : List ℕ). bytes_eq c.option_text.result.now t) (sym c.option_text-in-loop-option.ensures)
    ∙ sym c.eq.ensures
    ∙ c.if-eq.false in
    record {
      value = λ names. sym (another os i x c.loop-option-test.true c.option-item.is names c.args.word other) ∙ c.loop-option.invariant.value names;
      below = λ n h. rest_below os i x c.loop-option-test.true c.option-item.is n (c.loop-option.invariant.below n h);
    }
