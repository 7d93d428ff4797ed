-- What may stand for values of which some are unknown (own rule).
use Rattle.std.specs.Prelude.{◌≡◌, Bool, true, false, List, [], ◌∷◌}
use Rattle.lp_tern.specs.declared.tern.Tern.{Tern}
use Rattle.lp_tern.specs.declared.tern.Tern.TheVariants.{Zero, One, X}

-- a known value stands for itself, an unknown one may be either
abbrev pub Keeps : Tern → Bool → Type 0
Keeps Zero b = b ≡ false
Keeps One b = b ≡ true
Keeps X b = Unit {0}

-- as many values, each of which may stand for the one at its place
abbrev pub Replaces : List Tern → List Bool → Type 0
Replaces [] [] = Unit {0}
Replaces [] (b ∷ c) = ⊥
Replaces (t ∷ v) [] = ⊥
Replaces (t ∷ v) (b ∷ c) = Keeps t b × Replaces v c
