-- A fact of all modules at the place of one.
use Rattle.std.proofs.Common.{◌≡◌, ℕ, zero, suc, ◌<◌, List, [], ◌∷◌, length, Some, subst, arith}
use Rattle.std.specs.Prelude.{slice_get, slice_index_or}
use Rattle.std.specs.List.{All}
use Rattle.lp_model.specs.declared.netlist.Module.{Module}
use Rattle.lp_templates.specs.Modules.{HasFewBits, AreFew}

within : {A : Type 0} (xs : List A) (k : ℕ) (x : A) → slice_get xs k ≡ Some x → k < length xs
within [] k x e = cc
within (y ∷ ys) zero x e = omega arith
within (y ∷ ys) (suc k) x e = omega (arith, within ys k x e)

index-got : {A : Type 0} (xs : List A) (k : ℕ) (x d : A) → slice_get xs k ≡ Some x → slice_index_or xs k d ≡ x
index-got [] k x d e = cc
index-got (y ∷ ys) zero x d e = let same : y ≡ x = cc in same
index-got (y ∷ ys) (suc k) x d e = index-got ys k x d e

pub all_few : (ms : List Module) → All HasFewBits ms → AreFew ms
all_few ms all k m e = subst HasFewBits (index-got ms k m m e) (all k m (within ms k m e))
