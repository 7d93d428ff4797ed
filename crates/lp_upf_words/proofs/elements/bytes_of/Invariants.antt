use Rattle.std.proofs.Common.{◌≡◌, ◌++◌, drop}
use Rattle.std.specs.Prelude.{None}
use Rattle.lp_upf_words.specs.Elements.{bytes_after}
use Rattle.lp_upf_words.proofs.elements.bytes_of.Given as goal

abbrev pub invariant-loop-byte : goal.invariant-loop-byte
invariant-loop-byte l = l.bytes.items ++ bytes_after l.lead (drop l.byte-index l.characters) ≡ bytes_after None l.text
