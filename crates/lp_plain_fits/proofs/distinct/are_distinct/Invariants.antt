use Rattle.std.proofs.Common.{◌≡◌, ℕ, true, false, take}
use Rattle.std.specs.Prelude.{slice_index_or}
use Rattle.lp_plain_index.specs.Places.{has_number}
use Rattle.lp_plain_fits.specs.Numbered.{are_distinct}
use Rattle.lp_plain_fits.proofs.distinct.are_distinct.Given as goal

abbrev pub invariant-loop-number : goal.invariant-loop-number
invariant-loop-number l = record {
  marked : (n : ℕ) → slice_index_or l.marks.items n false ≡ has_number n (take l.number-index l.numbers);
  apart : are_distinct (take l.number-index l.numbers) ≡ true;
}
