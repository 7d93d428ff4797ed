use Rattle.std.proofs.Common.{◌-◌, sym, ◌∙◌, eq-eqb}
use Rattle.std.proofs.lemmas.Bool.{ne_eqb}
use Rattle.std.proofs.lemmas.Nat.Bits.{shr_and_one}
use Rattle.lp_expr.proofs.Bits.{is_bit-zero, is_bit-ones}
use Rattle.lp_expr.proofs.TableLemmas.{word_of_none, word_of_low, word_of_high}
use Rattle.lp_expr.proofs.table.word_of.Goals as goal

pub returns-then-variable-count : goal.returns-then-variable-count
returns-then-variable-count c place small = word_of_none c.args.count c.args.number c.args.variable place c.if-variable-count.true

pub returns-then-variable-lt6 : goal.returns-then-variable-lt6
returns-then-variable-lt6 c place small = word_of_low c.args.count c.args.number c.args.variable place c.if-variable-count.false c.if-variable-lt6.true small

pub returns-then-number-variable-eq1 : goal.returns-then-number-variable-eq1
returns-then-number-variable-eq1 c place small =
    let set = eq-eqb _ 1 (sym (shr_and_one c.args.number (c.args.variable - 6)) ∙ c.if-number-variable-eq1.true) in
    word_of_high c.args.count c.args.number c.args.variable place _ c.if-variable-count.false c.if-variable-lt6.false small (is_bit-ones place small ∙ sym set)

pub returns-else-number-variable-eq1 : goal.returns-else-number-variable-eq1
returns-else-number-variable-eq1 c place small =
    let clear = ne_eqb _ 1 (λ e. c.if-number-variable-eq1.false (shr_and_one c.args.number (c.args.variable - 6) ∙ e)) in
    word_of_high c.args.count c.args.number c.args.variable place _ c.if-variable-count.false c.if-variable-lt6.false small (is_bit-zero place ∙ sym clear)
