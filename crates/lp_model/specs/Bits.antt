-- Bits of values, and the runs in which they stand (IEEE 1364-2005, vectors, bit-selects and part-selects, sized
-- constants).
use Rattle.std.specs.Prelude.{ℕ, zero, suc, ◌+◌, ◌-◌, ◌/◌, ◌%◌, ◌^◌, ◌<◌, Bool, true, false, ◌&&◌, ◌==◌, nat_le, nat_lt, List, [], ◌∷◌, map, length, Option, Some, None, if◌then◌else◌}
use Rattle.std.specs.List.{flat_map}
use Rattle.lp_text.specs.declared.names.NameId.{NameId}
use Rattle.lp_model.specs.declared.bits.Bit.{Bit}
use Rattle.lp_model.specs.declared.bits.Bit.TheVariants as bits
use Rattle.lp_model.specs.declared.run.Run.{Run}
use Rattle.lp_model.specs.declared.run.Run.TheVariants as run
use Rattle.lp_model.specs.declared.bits.Held.{Held}
use Rattle.lp_model.specs.declared.bits.Held.TheVariants as held
use Rattle.lp_model.specs.declared.bits.Shown.{Shown}
use Rattle.lp_model.specs.declared.bits.Shown.TheVariants as shown

-- n indices, from the k-th one on: up or down from the first
abbrev pub indices : Bool → ℕ → ℕ → ℕ → List ℕ
indices up first k zero = []
indices up first k (suc n) = (if up then first + k else first - k) ∷ indices up first (k + 1) n

-- from one index to another, both included
abbrev pub between : ℕ → ℕ → List ℕ
between i j = if nat_le i j then indices true i 0 (j - i + 1) else indices false i 0 (i - j + 1)

-- the bits of a vector from one index to another
abbrev pub select : NameId → ℕ → ℕ → List Bit
select name i j = map (λ k. bits.Select name k) (between i j)

-- whether a binary digit of a number of at most 128 is 1
abbrev pub digit : ℕ → ℕ → Bool
digit value place = nat_lt place 128 && ((value / (2 ^ place)) % 2 == 1)

-- the binary digits of a constant, the most significant first
abbrev pub constant_bits : ℕ → ℕ → List Bit
constant_bits size value = map (λ place. bits.Const (digit value place)) (indices false (size - 1) 0 size)

-- the bits of a run, the most significant first
abbrev pub run_bits : Run → List Bit
run_bits (run.One bit) = bit ∷ []
run_bits (run.Part name first last) = select name first last
run_bits (run.Digits number count) = constant_bits count number

-- there is no run, or the first one has a bit
abbrev pub BeginsFilled : List Run → Type 0
BeginsFilled [] = Unit {0}
BeginsFilled (first ∷ rest) = 0 < length (run_bits first)

abbrev pub held_bits : Held → List Bit
held_bits held.Nothing = []
held_bits (held.One bit) = bit ∷ []
held_bits (held.Many runs) = flat_map run_bits runs

abbrev pub shown_bits : Shown → List Bit
shown_bits shown.Nothing = []
shown_bits (shown.One bit) = bit ∷ []
shown_bits (shown.Many runs) = flat_map run_bits runs.now

abbrev pub is_constant : Bit → Bool
is_constant (bits.Net name) = false
is_constant (bits.Select name index) = false
is_constant (bits.Const value) = true

-- the bit where there is one and no other
abbrev pub single_of : List Bit → Option Bit
single_of [] = None
single_of (bit ∷ []) = Some bit
single_of (bit ∷ second ∷ more) = None
