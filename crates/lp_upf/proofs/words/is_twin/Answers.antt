use Rattle.std.proofs.Common.{ℕ, List, sym, ap, ◌∙◌, ◌&&◌, ◌-◌, length, take, drop, codes}
use Rattle.std.specs.Prelude.{bytes_eq}
use Rattle.lp_upf.proofs.Twins.{rest, split}
use Rattle.lp_upf.proofs.words.is_twin.Goals as goal

pub returns-then-starts_with : goal.returns-then-starts_with
returns-then-starts_with c =
    let own = c.args.own.now in
    let text = c.args.text.now in
    c.eq.ensures
    ∙ ap (λ (xs : List ℕ). bytes_eq xs (take (length text - length own) (drop (length own) text))) c.as_slice.ensures
    ∙ ap (λ (xs : List ℕ). bytes_eq (codes "_set") xs) (rest (length own) text)
    ∙ sym (split own (codes "_set") text ∙ ap (λ b. b && bytes_eq (codes "_set") (drop (length own) text)) (sym c.starts_with.ensures.value ∙ c.if-starts_with.true))

pub returns-else-starts_with : goal.returns-else-starts_with
returns-else-starts_with c =
    let own = c.args.own.now in
    let text = c.args.text.now in
    c.if-starts_with.false ∙ sym (split own (codes "_set") text ∙ ap (λ b. b && bytes_eq (codes "_set") (drop (length own) text)) (sym c.starts_with.ensures.value ∙ c.if-starts_with.false))
