use Rattle.std.proofs.Common.{◌≡◌, ℕ, List, length, ap, ◌∙◌, arith}
use Rattle.std.specs.Prelude.{map, replicate}
use Rattle.std.proofs.lemmas.List.{take_all}
use Rattle.lp_order.specs.declared.walk.Mark.TheVariants.{New}
use Rattle.lp_order.proofs.WalkLemmas.{IsWalk-new}
use Rattle.lp_order.proofs.walk.Walk.new.Goals as goal

pub returns-clause-walk : goal.returns-clause-walk
returns-clause-walk c =
    let graph = c.args.graph.now in
    let lengths : c.loop-key.unread.items ≡ map (λ (row : List ℕ). length row) graph =
    c.loop-key.invariant ∙ ap (map (λ (row : List ℕ). length row)) (take_all c.loop-key.key graph (omega arith)) in
    let marks : c.in_ok-marks.marks.items ≡ replicate c.len-count.result New = c.in_ok-marks.ensures.items_if_clones_equal (λ y e. e) in
    let all : c.len-count.result ≡ length graph = c.len-count.ensures in
    rw (lengths, marks, all, c.new.ensures.items, c.in_ok-with_capacity.ensures.items) (IsWalk-new graph)
