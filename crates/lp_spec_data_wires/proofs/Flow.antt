-- Among the operators of a way, those before its edge come first.
use Rattle.std.proofs.Common.{◌≡◌, ◌⊎◌, ℕ, zero, suc, Bool, true, false, List, [], ◌∷◌, ◌++◌, length, Some, None, inl, inr, refl, sym, ◌∙◌, ap}
use Rattle.std.specs.Prelude.{slice_get}
use Rattle.std.proofs.lemmas.Bool.{both_ways}
use Rattle.lp_spec_design.specs.Winners.{IsIn}
use Rattle.lp_spec_written.specs.Places.{Standing}
use Rattle.lp_spec_hub.specs.Spots.{is_behind}
use Rattle.lp_spec_driven.proofs.Operators.{slice-in}

-- what follows one behind the edge stands behind it too
abbrev pub Flows : List Standing → Type 0
Flows xs = (k : ℕ) (o next : Standing) → slice_get xs k ≡ Some o → slice_get xs (suc k) ≡ Some next → is_behind o ≡ true → is_behind next ≡ true

rest-flows : (x : Standing) (xs : List Standing) → Flows (x ∷ xs) → Flows xs
rest-flows x xs flow k o next f g side = flow (suc k) o next f g side

-- from one behind the edge on all stand behind it
all-behind : (x : Standing) (xs : List Standing) → Flows (x ∷ xs) → is_behind x ≡ true → (o : Standing) → IsIn o (x ∷ xs) → is_behind o ≡ true
all-behind x xs flow side o (inl is) = ap is_behind is ∙ side
all-behind x [] flow side o (inr h) = absurd h
all-behind x (y ∷ ys) flow side o (inr h) = all-behind y ys (rest-flows x (y ∷ ys) flow) (flow 0 x y refl refl side) o h

-- ---- the first one behind the edge

-- an operator behind the edge, all before it in front of the edge
pub record Edged (xs : List Standing) (k : ℕ) (o : Standing) : Type 0 where
  pub outer : List Standing
  pub inner : List Standing
  pub all : xs ≡ outer ++ (o ∷ inner)
  pub long : length outer ≡ k
  pub front : (r : Standing) → IsIn r outer → is_behind r ≡ false
  pub back : (r : Standing) → IsIn r (o ∷ inner) → is_behind r ≡ true

pub edged-first : (xs : List Standing) → Flows xs → (o : Standing) → slice_get xs 0 ≡ Some o → is_behind o ≡ true → Edged xs 0 o
edged-first [] flow o f side = absurd cc
edged-first (x ∷ xs) flow o f side =
    let same : x ≡ o = cc in
    record {
      outer = [];
      inner = xs;
      all = ap (λ z. z ∷ xs) same;
      long = refl;
      front = λ r h. absurd h;
      back = λ r h. all-behind x xs flow (ap is_behind same ∙ side) r (head-is same r h);
    }
  where
    head-is : x ≡ o → (r : Standing) → IsIn r (o ∷ xs) → IsIn r (x ∷ xs)
    head-is same r (inl is) = inl (is ∙ sym same)
    head-is same r (inr h) = inr h

-- one more operator in front of the edge
in-front : (x : Standing) (xs : List Standing) → is_behind x ≡ false → ((r : Standing) → IsIn r xs → is_behind r ≡ false) → (r : Standing) → IsIn r (x ∷ xs) → is_behind r ≡ false
in-front x xs side rest r (inl is) = ap is_behind is ∙ side
in-front x xs side rest r (inr h) = rest r h

with-head : (x : Standing) (xs : List Standing) (k : ℕ) (o : Standing) → is_behind x ≡ false → Edged xs k o → Edged (x ∷ xs) (suc k) o
with-head x xs k o side rest = record {
  outer = x ∷ rest.outer;
  inner = rest.inner;
  all = ap (λ r. x ∷ r) rest.all;
  long = ap suc rest.long;
  front = in-front x rest.outer side rest.front;
  back = rest.back;
}

-- one that is followed by one in front of the edge stands there too
stays-in-front : (x : Standing) (xs : List Standing) → Flows (x ∷ xs) → (u : Standing) → IsIn u (x ∷ xs) → is_behind u ≡ false → (d : Bool) → is_behind x ≡ d → is_behind x ≡ false
stays-in-front x xs flow u h side false is = is
stays-in-front x xs flow u h side true is = absurd (both_ways (is_behind u) side (all-behind x xs flow is u h))

-- so it is where the one before it is not
pub edged-at : (xs : List Standing) → Flows xs → (k : ℕ) (u o : Standing) → slice_get xs k ≡ Some u → slice_get xs (suc k) ≡ Some o → is_behind u ≡ false → is_behind o ≡ true → Edged xs (suc k) o
edged-at [] flow k u o f g before side = absurd cc
edged-at (x ∷ xs) flow zero u o f g before side =
    with-head x xs 0 o (stays-in-front x xs flow u (slice-in (x ∷ xs) 0 u f) before (is_behind x) refl) (edged-first xs (rest-flows x xs flow) o g side)
edged-at (x ∷ xs) flow (suc k) u o f g before side =
    with-head x xs (suc k) o (stays-in-front x xs flow u (slice-in (x ∷ xs) (suc k) u f) before (is_behind x) refl) (edged-at xs (rest-flows x xs flow) k u o f g before side)

-- ---- the last one

-- none stands behind the edge, or the last one does
pub record Last (xs : List Standing) : Type 0 where
  pub number : ℕ
  pub operator : Standing
  pub at : slice_get xs number ≡ Some operator
  pub end : slice_get xs (suc number) ≡ None
  pub side : is_behind operator ≡ true

one-more : (x : Standing) (xs : List Standing) → Last xs → Last (x ∷ xs)
one-more x xs last = record { number = suc last.number; operator = last.operator; at = last.at; end = last.end; side = last.side }

alone : (x : Standing) (xs : List Standing) → Flows (x ∷ xs) → ((o : Standing) → IsIn o xs → is_behind o ≡ false) → is_behind x ≡ true → Last (x ∷ xs)
alone x [] flow rest side = record { number = 0; operator = x; at = refl; end = refl; side = side }
alone x (y ∷ ys) flow rest side = absurd (both_ways (is_behind y) (rest y (inl refl)) (flow 0 x y refl refl side))

with-first : (x : Standing) (xs : List Standing) → Flows (x ∷ xs) → (d : Bool) → is_behind x ≡ d → ((o : Standing) → IsIn o xs → is_behind o ≡ false) → ((o : Standing) → IsIn o (x ∷ xs) → is_behind o ≡ false) ⊎ Last (x ∷ xs)
with-first x xs flow true side rest = inr (alone x xs flow rest side)
with-first x xs flow false side rest = inl (in-front x xs side rest)

pub last-behind : (xs : List Standing) → Flows xs → ((o : Standing) → IsIn o xs → is_behind o ≡ false) ⊎ Last xs
last-behind [] flow = inl (λ o h. absurd h)
last-behind (x ∷ xs) flow = elim (last-behind xs (rest-flows x xs flow)) [ inl rest ↦ with-first x xs flow (is_behind x) refl rest | inr last ↦ inr (one-more x xs last) ]
