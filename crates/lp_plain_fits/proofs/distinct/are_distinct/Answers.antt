use Rattle.std.proofs.Common.{◌≡◌, ◌<◌, ◌||◌, ◌==◌, true, false, length, get_or, sym, ap, ◌∙◌, arith}
use Rattle.std.proofs.lemmas.List.{take_all}
use Rattle.std.proofs.lemmas.List.Folds.{list_any_more}
use Rattle.lp_plain_fits.specs.Numbered.{are_distinct}
use Rattle.lp_plain_fits.proofs.Growing.{repeats, stays}
use Rattle.lp_plain_fits.proofs.distinct.are_distinct.Goals as goal

pub returns-then-is_marked : goal.returns-then-is_marked
returns-then-is_marked c =
    let numbers = c.args.numbers.now in
    let i = c.loop-number.number-index in
    let n = get_or numbers i 0 in
    let within : i < length numbers = omega arith in
    let marked : get_or c.loop-number.marks.items n false ≡ true = ap (λ xs. get_or xs n false) (sym c.as_slice.ensures.value) ∙ sym c.is_marked.ensures ∙ c.if-is_marked.true in
    sym (repeats numbers i within (sym (c.loop-number.invariant.marked n) ∙ marked))

pub loop-number-preserved : goal.loop-number-preserved
loop-number-preserved c =
    let numbers = c.args.numbers.now in
    let i = c.loop-number.number-index in
    let n = get_or numbers i 0 in
    let within : i < length numbers = omega arith in
    let unmarked : get_or c.loop-number.marks.items n false ≡ false = ap (λ xs. get_or xs n false) (sym c.as_slice.ensures.value) ∙ sym c.is_marked.ensures ∙ c.if-is_marked.false in
    record {
      marked = λ k. c.in_ok-mark.ensures k ∙ ap (λ b. b || (k == n)) (c.loop-number.invariant.marked k) ∙ sym (list_any_more (λ m. k == m) numbers i 0 within);
      apart = stays numbers i within (sym (c.loop-number.invariant.marked n) ∙ unmarked) c.loop-number.invariant.apart;
    }

pub returns : goal.returns
returns c =
    let numbers = c.args.numbers.now in
    sym (ap are_distinct (sym (take_all c.loop-number.number-index numbers (omega arith))) ∙ c.loop-number.invariant.apart)
