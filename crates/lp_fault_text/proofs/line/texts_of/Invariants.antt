use Rattle.std.proofs.Common.{◌≡◌, ◌++◌, drop, map}
use Rattle.lp_fault_text.specs.Lines.{item_text}
use Rattle.lp_fault_text.proofs.line.texts_of.Given as goal

-- the texts so far, and those of the items to come
abbrev pub invariant-loop-item : goal.invariant-loop-item
invariant-loop-item l = l.texts.items ++ map (item_text l.known) (drop l.item-index l.items) ≡ map (item_text l.known) l.items
