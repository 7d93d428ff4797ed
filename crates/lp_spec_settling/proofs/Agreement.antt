-- Assignments that agree on the keys of a list, and on parts of it.
use Rattle.std.specs.Prelude.{IsTrue}
use Rattle.std.proofs.Common.{◌≡◌, true, false, ◌||◌, Bool, List, [], ◌∷◌, ◌++◌, refl}
use Rattle.std.proofs.lemmas.Bool.{or_left, or_right, false≢true}
use Rattle.lp_spec_settling.specs.Settling.{Keys, has}

module _ {K : Type 0} (keys : Keys K) where
  has-left : (j : K) (xs ys : List K) → has keys j xs ≡ true → has keys j (xs ++ ys) ≡ true
  has-left j [] ys h = absurd (false≢true h)
  has-left j (x ∷ xs) ys h = step (keys.same x j) (has-left j xs ys) h
    where
      step : (b : Bool) → (has keys j xs ≡ true → has keys j (xs ++ ys) ≡ true) → (b || has keys j xs) ≡ true → (b || has keys j (xs ++ ys)) ≡ true
      step true more e = refl
      step false more e = more e

  has-right : (j : K) (xs ys : List K) → has keys j ys ≡ true → has keys j (xs ++ ys) ≡ true
  has-right j [] ys h = h
  has-right j (x ∷ xs) ys h = or_right (keys.same x j) (has keys j (xs ++ ys)) (has-right j xs ys h)

module _ {K V : Type 0} (keys : Keys K) (A B : K → V) where
  -- the two give the same values to the keys of a list
  abbrev pub Agree : List K → Type 0
  Agree ks = (j : K) → IsTrue (has keys j ks) → A j ≡ B j

  pub agree-head : (k : K) (ks : List K) → Agree (k ∷ ks) → A k ≡ B k
  agree-head k ks h = h k (or_left (keys.same k k) (has keys k ks) (keys.true_same k))

  pub agree-tail : (k : K) (ks : List K) → Agree (k ∷ ks) → Agree ks
  agree-tail k ks h j g = h j (or_right (keys.same k j) (has keys j ks) g)

  pub agree-left : (xs ys : List K) → Agree (xs ++ ys) → Agree xs
  agree-left xs ys h j g = h j (has-left keys j xs ys g)

  pub agree-right : (xs ys : List K) → Agree (xs ++ ys) → Agree ys
  agree-right xs ys h j g = h j (has-right keys j xs ys g)
