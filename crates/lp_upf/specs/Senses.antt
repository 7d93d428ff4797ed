-- Whether a text is a control or its complement (own rule).
use Rattle.std.specs.Prelude.{ℕ, Bool, true, false, List, [], ◌∷◌, Option, Some, None, bytes_eq, if◌then◌else◌}
use Rattle.lp_spec_upf.specs.Intent.{HasSense}

abbrev pub IsSenseOf : List ℕ → List ℕ → Option Bool → Type 0
IsSenseOf text control (Some high) = HasSense text control high
IsSenseOf text control None = (high : Bool) → HasSense text control high → ⊥

-- by the values where the control is 1 and where it is 0
abbrev pub high_by : Bool → Bool → Option Bool
high_by true false = Some true
high_by false true = Some false
high_by on off = None

-- an expression of these names, with its values where they are 1 and where they are 0
abbrev pub sense_by : List (List ℕ) → List ℕ → Bool → Bool → Option Bool
sense_by [] control on off = None
sense_by (n ∷ []) control on off = if bytes_eq n control then high_by on off else None
sense_by (n ∷ (m ∷ names)) control on off = None
