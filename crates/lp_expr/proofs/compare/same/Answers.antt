use Rattle.std.proofs.Common.{◌≡◌, ◌*◌, ◌%◌, ◌^◌, ◌<◌, ℕ, List, take, drop, length, refl, sym, ap, ◌∙◌, arith}
use Rattle.std.specs.Prelude.{map}
use Rattle.std.proofs.lemmas.Nat.{one_shl}
use Rattle.lp_expr.specs.Formula.{truth}
use Rattle.lp_expr.specs.Table.{is_bit}
use Rattle.lp_expr.proofs.SlotsLemmas.{all_choices}
use Rattle.lp_expr.proofs.compare.same.Goals as goal

pub returns : goal.returns
returns c =
    let a = c.args.a.now in
    let b = c.args.b.now in
    let slots = c.args.slots.now in
    let choices : 1 * 2 ^ c.args.n % 2 ^ 64 ≡ 2 ^ c.args.n = one_shl c.args.n 64 (omega (arith, c.requires.few)) in
    let front : c.split_at.result.0.now ≡ take (length a.variables) slots = c.split_at.ensures.front ∙ ap (λ i. take i slots) c.count.ensures.count in
    let back : c.split_at.result.1.now ≡ drop (length a.variables) slots = c.split_at.ensures.back ∙ ap (λ i. drop i slots) c.count.ensures.count in (
      λ h. all_choices a b slots (length a.variables) c.args.n c.requires.below
          (λ choice small.
          let inside : choice < c.loop-choice.choice = omega arith in
          ap (λ (part : List ℕ). truth a.steps (map (is_bit choice) part)) (sym front)
          ∙ c.loop-choice.invariant choice inside
          ∙ ap (λ (part : List ℕ). truth b.steps (map (is_bit choice) part)) back),
      λ h. refl,
    )
