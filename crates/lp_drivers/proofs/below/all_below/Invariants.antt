use Rattle.std.proofs.Common.{◌≡◌, None, length, take, replicate}
use Rattle.lp_drivers.specs.Table.{note_all}
use Rattle.lp_drivers.proofs.below.all_below.Given as goal

abbrev pub invariant-loop-place : goal.invariant-loop-place
invariant-loop-place l = record {
  many : length l.table.items ≡ length l.templates;
  noted : l.table.items ≡ note_all l.seen l.templates (replicate (length l.templates) None) (take l.place-index l.order);
}
