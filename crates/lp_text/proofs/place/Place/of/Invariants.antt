use Rattle.std.proofs.Common.{◌≡◌, ◌+◌, ◌≤◌, drop}
use Rattle.lp_text.specs.Places.{past, start}
use Rattle.lp_text.proofs.place.Place.of.Given as goal

abbrev pub invariant-loop-byte : goal.invariant-loop-byte
invariant-loop-byte l = record {
  places : past (record { line = l.line; column = l.column }) (drop l.byte-index l.byte-items) ≡ past start l.byte-items;
  line_small : l.line ≤ l.byte-index + 1;
  column_small : l.column ≤ l.byte-index + 1;
}
