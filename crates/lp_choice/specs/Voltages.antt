-- Pairs of voltages of a shifter (own rule).
use Rattle.std.specs.Prelude.{ℕ, ◌+◌, nat_lt, Bool}
use Rattle.lp_model.specs.declared.need.VoltagePair.{VoltagePair}

-- the input is lower than the output by more than a margin
abbrev pub is_lower : ℕ → VoltagePair → Bool
is_lower margin p = nat_lt (p.input + margin) p.output
