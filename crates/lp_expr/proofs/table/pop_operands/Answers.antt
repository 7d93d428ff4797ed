use Rattle.std.proofs.Common.{◌-◌, Bool, not, ◌&&◌, ◌||◌, ◌∷◌, ap}
use Rattle.lp_expr.specs.Formula.{differ}
use Rattle.lp_expr.specs.Table.{is_bit, lane}
use Rattle.lp_expr.proofs.Bits.{is_bit-ones, is_bit-not, is_bit-and, is_bit-or, is_bit-xor}
use Rattle.lp_expr.proofs.TableLemmas.{one_operand, two_operands}
use Rattle.lp_expr.proofs.table.pop_operands.Goals as goal

pub returns-in-Constant-true : goal.returns-in-Constant-true
returns-in-Constant-true c place small =
    rw (c.in-Constant-true.is, c.in-Constant-true.field-0-test) (ap (λ (b : Bool). b ∷ lane place c.args.stack.now) (is_bit-ones place small))

pub returns-in-Not : goal.returns-in-Not
returns-in-Not c place small =
    let popped = c.pop_word in
    rw c.in-Not.is (one_operand not (lane place c.args.stack.now) (lane place popped.new.stack) (is_bit popped.result place) (is_bit (18446744073709551615 - popped.result) place) (popped.ensures.top place) (popped.ensures.below place) (is_bit-not popped.result place popped.type_inv small))

pub returns-in-And : goal.returns-in-And
returns-in-And c place small =
    let right = c.pop_word-right in
    let left = c.pop_word-in-And in
    rw c.in-And.is (two_operands (λ a b. a && b) (lane place c.args.stack.now) (lane place right.new.stack) (lane place left.new.stack) (is_bit right.result place) (is_bit left.result place) _ (right.ensures.top place) (right.ensures.below place) (left.ensures.top place) (left.ensures.below place) (is_bit-and left.result right.result place))

pub returns-in-Or : goal.returns-in-Or
returns-in-Or c place small =
    let right = c.pop_word-right-in-Or in
    let left = c.pop_word-in-Or in
    rw c.in-Or.is (two_operands (λ a b. a || b) (lane place c.args.stack.now) (lane place right.new.stack) (lane place left.new.stack) (is_bit right.result place) (is_bit left.result place) _ (right.ensures.top place) (right.ensures.below place) (left.ensures.top place) (left.ensures.below place) (is_bit-or left.result right.result place))

pub returns-in-Xor : goal.returns-in-Xor
returns-in-Xor c place small =
    let right = c.pop_word-right-in-Xor in
    let left = c.pop_word-in-Xor in
    rw c.in-Xor.is (two_operands differ (lane place c.args.stack.now) (lane place right.new.stack) (lane place left.new.stack) (is_bit right.result place) (is_bit left.result place) _ (right.ensures.top place) (right.ensures.below place) (left.ensures.top place) (left.ensures.below place) (is_bit-xor left.result right.result place))
