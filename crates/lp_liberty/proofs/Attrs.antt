-- One attribute more in the group of a number.
use Rattle.std.proofs.Common.{◌≡◌, ℕ, zero, suc, ◌<◌, ◌≤◌, List, [], ◌∷◌, length, get_or, refl, ap, arith}
use Rattle.std.specs.Prelude.{slice_set}
use Rattle.lp_model.specs.declared.groups.Attr.{Attr}
use Rattle.lp_model.specs.declared.groups.Group.{Group}
use Rattle.lp_liberty.specs.Machine.{with_attr, with_attr_at}

pub attr_set : (groups : List Group) (n : ℕ) (a : Attr) (g : Group) → n < length groups → g ≡ get_or groups n g → slice_set groups n (with_attr a g) ≡ with_attr_at groups n a
attr_set [] n a g h e = absurd (omega arith)
attr_set (x ∷ groups) zero a g h e = let same : g ≡ x = e in ap (λ y. with_attr a y ∷ groups) same
attr_set (x ∷ groups) (suc n) a g h e = ap (λ gs. x ∷ gs) (attr_set groups n a g (omega arith) e)

pub attr_beyond : (groups : List Group) (n : ℕ) (a : Attr) → length groups ≤ n → groups ≡ with_attr_at groups n a
attr_beyond [] n a h = refl
attr_beyond (x ∷ groups) zero a h = absurd (omega arith)
attr_beyond (x ∷ groups) (suc n) a h = ap (λ gs. x ∷ gs) (attr_beyond groups n a (omega arith))
