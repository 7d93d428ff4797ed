-- Entries of lists that are not there.
use Rattle.std.proofs.Common.{◌≡◌, ℕ, zero, suc, List, [], ◌∷◌, None, refl}
use Rattle.std.specs.Prelude.{slice_get, slice_index_or}

pub get-none : {A : Type 0} (xs : List A) (k : ℕ) (d : A) → slice_get xs k ≡ None → slice_index_or xs k d ≡ d
get-none [] k d h = refl
get-none (x ∷ xs) zero d h = absurd cc
get-none (x ∷ xs) (suc k) d h = get-none xs k d h
