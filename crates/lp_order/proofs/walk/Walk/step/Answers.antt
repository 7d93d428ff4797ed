use Rattle.std.proofs.Common.{◌≡◌, ◌<◌, ◌-◌, length, get_or, sym, ◌∙◌, arith, refl}
use Rattle.std.proofs.lemmas.List.{get_or_read}
use Rattle.lp_order.specs.Order.{row_of, Reads}
use Rattle.lp_order.specs.Walk.{mark_of}
use Rattle.lp_order.specs.declared.walk.Mark.TheVariants.{New}
use Rattle.lp_order.proofs.WalkLemmas.{IsLast-below, next_read, Steps-close, Steps-open, Steps-skip, IsWalk-loop}
use Rattle.lp_order.proofs.walk.Walk.step.Goals as goal
use Rattle.lp_order.proofs.walk.Walk.step.Goals.{After-index-left, After-index}

left_is : (c : After-index-left) → get_or c.args.self.now.unread.items c.args.top 0 ≡ c.index-left.result.now
left_is c =
    let inside = IsLast-below c.args.graph.now c.args.self.now c.args.self.now c.args.top c.requires.walk c.requires.last in
    sym (get_or_read c.args.self.now.unread.items c.args.top c.index-left.result.now (omega (arith, c.requires.walk.counted)) c.index-left.ensures 0)

next : (c : After-index) → (c.index-left.result.now - 1 < length (row_of c.args.graph.now c.args.top)) × (get_or (row_of c.args.graph.now c.args.top) (c.index-left.result.now - 1) 0 < length c.args.graph.now) × Reads c.args.graph.now c.args.top (get_or (row_of c.args.graph.now c.args.top) (c.index-left.result.now - 1) 0)
next c = next_read c.args.graph.now c.args.self.now c.args.self.now c.args.top c.requires.walk c.requires.last c.requires.below c.index-left.result.now (left_is (goal.at.After-index c).After-index-left) (omega arith)

mark_is : (c : After-index) → mark_of c.args.self.now.marks.items (get_or (row_of c.args.graph.now c.args.top) (c.index-left.result.now - 1) 0) ≡ c.index.result.now
mark_is c =
    let inside = next c in
    sym (get_or_read c.args.self.now.marks.items (get_or (row_of c.args.graph.now c.args.top) (c.index-left.result.now - 1) 0) c.index.result.now (omega (arith, inside.1, c.requires.walk.marked)) (rw c.row.ensures at c.index.ensures) New)

pub returns-then-left-eq0 : goal.returns-then-left-eq0
returns-then-left-eq0 c =
    let none = left_is (goal.at.returns-then-left-eq0 c).After-index-left ∙ c.if-left-eq0.true in
    Steps-close c.args.graph.now c.args.self.now c.close.new.self c.args.top c.requires.walk c.requires.last none c.in_ok-close.ensures.unread c.in_ok-close.ensures.marks c.in_ok-close.ensures.path c.in_ok-close.ensures.done

pub returns-in_ok-open-in-New : goal.returns-in_ok-open-in-New
returns-in_ok-open-in-New c =
    let at = (goal.at.returns-in_ok-open-in-New c).After-index in
    let read = next at in
    let done = c.in_ok-open-in-New.ensures in
    Steps-open c.args.graph.now c.args.self.now c.open.new.self c.args.top c.requires.walk c.requires.last _ read.1 (mark_is at ∙ c.in-New.is) read.2 done.unread (rw c.row.ensures at done.marks) (rw c.row.ensures at done.path) done.done

pub returns-in-Open : goal.returns-in-Open
returns-in-Open c =
    let at = (goal.at.returns-in-Open c).After-index in
    let walk = c.args.self.now in
    IsWalk-loop c.args.graph.now walk.unread.items walk.marks.items walk.path.items _ c.args.top _ c.requires.walk c.requires.last.last (mark_is at ∙ c.in-Open.is) (next at).2

pub returns-in-Done : goal.returns-in-Done
returns-in-Done c =
    let at = (goal.at.returns-in-Done c).After-index in
    let left = c.index-left.result.now in
    Steps-skip c.args.graph.now c.args.self.now _ c.args.top c.requires.walk c.requires.last left (left_is (goal.at.After-index at).After-index-left) (omega arith) (mark_is at ∙ c.in-Done.is) refl refl refl refl
