use Rattle.std.proofs.Common.{◌≡◌, take}
use Rattle.std.specs.Prelude.{IsTrue}
use Rattle.lp_text.specs.Texts.{distinct}
use Rattle.lp_table.proofs.table.all_distinct.Given as goal

abbrev pub invariant-loop-text : goal.invariant-loop-text
invariant-loop-text l = record { texts : l.table ≡ take l.text-index l.texts; apart : IsTrue (distinct l.table) }
