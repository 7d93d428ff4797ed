-- Operators of a way in the flow of data, and one more at their end.
use Rattle.std.proofs.Common.{◌≡◌, ◌⊎◌, ℕ, zero, suc, ◌+◌, Bool, true, false, ◌&&◌, cond, List, [], ◌∷◌, ◌++◌, length, Option, Some, None, inl, inr, refl, sym, ap, ◌∙◌, arith}
use Rattle.std.specs.Prelude.{not, slice_get}
use Rattle.std.specs.List.{list_all}
use Rattle.std.proofs.lemmas.Bool.{true≢false}
use Rattle.std.proofs.lemmas.List.Elements.{filter-append}
use Rattle.lp_spec_design.specs.Keys.{Node, Way, same_way}
use Rattle.lp_spec_written.specs.Places.{Standing}
use Rattle.lp_spec_hub.specs.Spots.{Spot, Behind, Before, ByOperator, FromSpot, on_way, is_behind}
use Rattle.lp_spec_hub.specs.Drives.{behind_last, passed}
use Rattle.lp_spec_hub.specs.Changes.{its_way}
use Rattle.lp_spec_held.specs.Held.{start_from, end_from}

pub no-some : {A : Type 0} (x : A) → None ≡ Some x → ⊥
no-some x e = cc

pub one-some : {A : Type 0} (x y : A) → Some x ≡ Some y → x ≡ y
one-some x y e = let same : x ≡ y = cc in same

-- ---- one more

pub more-get : {A : Type 0} (xs ys : List A) (k : ℕ) (x : A) → slice_get xs k ≡ Some x → slice_get (xs ++ ys) k ≡ Some x
more-get [] ys zero x e = absurd (no-some x e)
more-get [] ys (suc k) x e = absurd (no-some x e)
more-get (y ∷ xs) ys zero x e = e
more-get (y ∷ xs) ys (suc k) x e = more-get xs ys k x e

pub more-new : {A : Type 0} (xs ys : List A) (j : ℕ) → slice_get (xs ++ ys) (length xs + j) ≡ slice_get ys j
more-new [] ys j = ap (slice_get ys) (nothing-before j)
  where
    nothing-before : (k : ℕ) → 0 + k ≡ k
    nothing-before k = omega arith
more-new (x ∷ xs) ys j = ap (slice_get (x ∷ (xs ++ ys))) (next (length xs) j) ∙ more-new xs ys j
  where
    next : (m k : ℕ) → suc m + k ≡ suc (m + k)
    next m k = omega arith

-- an entry is an old one or a new one
pub either-get : {A : Type 0} (xs ys : List A) (k : ℕ) (x : A) → slice_get (xs ++ ys) k ≡ Some x → (slice_get xs k ≡ Some x) ⊎ ((j : ℕ) × (k ≡ length xs + j) × (slice_get ys j ≡ Some x))
either-get [] ys k x e = inr (k, nothing-before k, e)
  where
    nothing-before : (k : ℕ) → k ≡ 0 + k
    nothing-before k = omega arith
either-get (y ∷ xs) ys zero x e = inl e
either-get (y ∷ xs) ys (suc k) x e = elim (either-get xs ys k x e) [
  | inl old ↦ inl old
  | inr new ↦ inr (new.0, let at = new.1 in omega (arith, at), new.2)
]

-- the only entry of a list of one
pub one-get : {A : Type 0} (y : A) (j : ℕ) (x : A) → slice_get (y ∷ []) j ≡ Some x → (j ≡ 0) × (x ≡ y)
one-get y zero x e = (refl, sym (one-some y x e))
one-get y (suc zero) x e = absurd (no-some x e)
one-get y (suc (suc j)) x e = absurd (no-some x e)

pub two-get : {A : Type 0} (y z : A) (j : ℕ) (x : A) → slice_get (y ∷ z ∷ []) j ≡ Some x → ((j ≡ 0) × (x ≡ y)) ⊎ ((j ≡ 1) × (x ≡ z))
two-get y z zero x e = inl (refl, sym (one-some y x e))
two-get y z (suc j) x e = let found = one-get z j x e in inr (ap suc found.0, found.1)

-- ---- operators of a way

module _ (o : Standing) where
  append-none : (xs : List Standing) → xs ++ [] ≡ xs
  append-none [] = refl
  append-none (x ∷ xs) = ap (λ r. x ∷ r) (append-none xs)

  pub on-its : (ops : List Standing) (v : Way) → same_way (its_way o) v ≡ true → on_way (ops ++ (o ∷ [])) v ≡ on_way ops v ++ (o ∷ [])
  on-its ops v same = filter-append (λ (x : Standing). same_way (its_way x) v) ops (o ∷ []) ∙ ap (λ b. on_way ops v ++ cond b (o ∷ []) []) same

  pub on-other : (ops : List Standing) (v : Way) → same_way (its_way o) v ≡ false → on_way (ops ++ (o ∷ [])) v ≡ on_way ops v
  on-other ops v same = filter-append (λ (x : Standing). same_way (its_way x) v) ops (o ∷ []) ∙ (ap (λ b. on_way ops v ++ cond b (o ∷ []) []) same ∙ append-none (on_way ops v))

  -- an old one stays
  pub on-old : (ops : List Standing) (v : Way) (k : ℕ) (x : Standing) → slice_get (on_way ops v) k ≡ Some x → slice_get (on_way (ops ++ (o ∷ [])) v) k ≡ Some x
  on-old ops v k x e = by (same_way (its_way o) v) refl
    where
      by : (b : Bool) → same_way (its_way o) v ≡ b → slice_get (on_way (ops ++ (o ∷ [])) v) k ≡ Some x
      by true same = ap (λ xs. slice_get xs k) (on-its ops v same) ∙ more-get (on_way ops v) (o ∷ []) k x e
      by false same = ap (λ xs. slice_get xs k) (on-other ops v same) ∙ e

-- ---- in the flow

abbrev pub IsFlow : List Standing → Type 0
IsFlow xs = (k : ℕ) (o next : Standing) → slice_get xs k ≡ Some o → slice_get xs (suc k) ≡ Some next → is_behind o ≡ true → is_behind next ≡ true

-- all stand before the edge
abbrev pub none_behind : List Standing → Bool
none_behind xs = list_all (λ (o : Standing). not (is_behind o)) xs

not-false : (b : Bool) → b ≡ false → not b ≡ true
not-false true e = absurd (true≢false e)
not-false false e = refl

pub not-true : (b : Bool) → not b ≡ true → b ≡ false
not-true true e = absurd (true≢false (sym e))
not-true false e = refl

parts : (a b : Bool) → (a && b) ≡ true → (a ≡ true) × (b ≡ true)
parts true b e = (refl, e)
parts false b e = absurd (true≢false (sym e))

either-false : (a b : Bool) → (a && b) ≡ false → (a ≡ false) ⊎ (b ≡ false)
either-false true b e = inr e
either-false false b e = inl refl

pub true-or : (b : Bool) → (b ≡ true) ⊎ (b ≡ false)
true-or true = inl refl
true-or false = inr refl

flow-tail : (x : Standing) (xs : List Standing) → IsFlow (x ∷ xs) → IsFlow xs
flow-tail x xs h = λ k o next e g. h (suc k) o next e g

pub flow-front : (xs ys : List Standing) → IsFlow (xs ++ ys) → IsFlow xs
flow-front xs ys h = λ k o next e g. h k o next (more-get xs ys k o e) (more-get xs ys (suc k) next g)

-- what comes before an operator before the edge stands before it too
pub flow-none : (xs : List Standing) (o : Standing) → IsFlow (xs ++ (o ∷ [])) → is_behind o ≡ false → none_behind xs ≡ true
flow-none [] o h last = refl
flow-none (x ∷ xs) o h last = both (flow-none xs o (flow-tail x (xs ++ (o ∷ [])) h) last)
  where
    next-not : (ys : List Standing) → IsFlow (x ∷ (ys ++ (o ∷ []))) → none_behind ys ≡ true → is_behind x ≡ true → ⊥
    next-not [] g all yes_ = true≢false (sym (g zero x o refl refl yes_) ∙ last)
    next-not (y ∷ ys) g all yes_ = true≢false (sym (g zero x y refl refl yes_) ∙ not-true (is_behind y) (parts (not (is_behind y)) (none_behind ys) all).0)

    both : none_behind xs ≡ true → (not (is_behind x) && none_behind xs) ≡ true
    both all = elim (true-or (is_behind x)) [
      | inl yes_ ↦ absurd (next-not xs h all yes_)
      | inr no_ ↦ ap (λ b. b && none_behind xs) (not-false (is_behind x) no_) ∙ all
    ]

-- where one stands behind the edge, so does the last one
pub flow-some : (xs : List Standing) → IsFlow xs → none_behind xs ≡ false → (k : ℕ) → length xs ≡ suc k → (l : Standing) × (slice_get xs k ≡ Some l) × (is_behind l ≡ true)
flow-some [] h some_ k size = absurd (true≢false some_)
flow-some (x ∷ []) h some_ zero size = (x, refl, behind (is_behind x) some_)
  where
    behind : (b : Bool) → (not b && true) ≡ false → b ≡ true
    behind true e = refl
    behind false e = absurd (true≢false e)
flow-some (x ∷ []) h some_ (suc k) size = absurd (omega (arith, size))
flow-some (x ∷ y ∷ xs) h some_ zero size = absurd (omega (arith, size))
flow-some (x ∷ y ∷ xs) h some_ (suc k) size =
    let found = flow-some (y ∷ xs) (flow-tail x (y ∷ xs) h) (rest (is_behind x) refl) k (let s = size in omega (arith, s)) in
    (found.0, found.1, found.2)
  where
    rest : (b : Bool) → is_behind x ≡ b → none_behind (y ∷ xs) ≡ false
    rest true e = ap (λ b. not b && none_behind xs) (h zero x y refl refl e)
    rest false e = sym (ap (λ b. not b && none_behind (y ∷ xs)) e) ∙ some_

-- ---- where edges begin and lead

pub start-behind : (w : Way) (k : ℕ) (xs : List Standing) (o : Standing) (x : Spot) → is_behind o ≡ true → start_from w k (xs ++ (o ∷ [])) x ≡ start_from w k xs x
start-behind w k [] o x e = ap (λ b. cond b x (Behind w k)) e
start-behind w k (y ∷ xs) o x e = start-behind w (suc k) xs o (cond (is_behind y) x (Behind w k)) e

pub start-before : (w : Way) (k : ℕ) (xs : List Standing) (o : Standing) (x : Spot) → is_behind o ≡ false → start_from w k (xs ++ (o ∷ [])) x ≡ Behind w (k + length xs)
start-before w k [] o x e = ap (λ b. cond b x (Behind w k)) e ∙ ap (Behind w) (plus-none k)
  where
    plus-none : (m : ℕ) → m ≡ m + 0
    plus-none m = omega arith
start-before w k (y ∷ xs) o x e = start-before w (suc k) xs o (cond (is_behind y) x (Behind w k)) e ∙ ap (Behind w) (next k (length xs))
  where
    next : (m n : ℕ) → suc m + n ≡ m + suc n
    next m n = omega arith

-- behind the last one before the edge
pub start-last : (w : Way) (k : ℕ) (xs : List Standing) (x : Spot) (m : ℕ) → none_behind xs ≡ true → length xs ≡ suc m → start_from w k xs x ≡ Behind w (k + m)
start-last w k [] x m all size = absurd (omega (arith, size))
start-last w k (y ∷ []) x zero all size = ap (λ b. cond b x (Behind w k)) (not-true (is_behind y) (parts (not (is_behind y)) true all).0) ∙ ap (Behind w) (plus-none k)
  where
    plus-none : (m : ℕ) → m ≡ m + 0
    plus-none m = omega arith
start-last w k (y ∷ []) x (suc m) all size = absurd (omega (arith, size))
start-last w k (y ∷ z ∷ xs) x zero all size = absurd (omega (arith, size))
start-last w k (y ∷ z ∷ xs) x (suc m) all size =
    start-last w (suc k) (z ∷ xs) (cond (is_behind y) x (Behind w k)) m (parts (not (is_behind y)) (none_behind (z ∷ xs)) all).1 (let s = size in omega (arith, s))
    ∙ ap (Behind w) (next k m)
  where
    next : (m n : ℕ) → suc m + n ≡ m + suc n
    next m n = omega arith

pub end-none : (w : Way) (k : ℕ) (xs : List Standing) (x : Spot) → none_behind xs ≡ true → end_from w k xs x ≡ x
end-none w k [] x all = refl
end-none w k (y ∷ xs) x all =
    let each = parts (not (is_behind y)) (none_behind xs) all in
    ap (λ b. cond b (Before w k) (end_from w (suc k) xs x)) (not-true (is_behind y) each.0) ∙ end-none w (suc k) xs x each.1

pub end-last : (w : Way) (k : ℕ) (xs : List Standing) (o : Standing) (x : Spot) → none_behind xs ≡ true → is_behind o ≡ true → end_from w k (xs ++ (o ∷ [])) x ≡ Before w (k + length xs)
end-last w k [] o x all e = ap (λ b. cond b (Before w k) x) e ∙ ap (Before w) (plus-none k)
  where
    plus-none : (m : ℕ) → m ≡ m + 0
    plus-none m = omega arith
end-last w k (y ∷ xs) o x all e =
    let each = parts (not (is_behind y)) (none_behind xs) all in
    ap (λ b. cond b (Before w k) (end_from w (suc k) (xs ++ (o ∷ [])) x)) (not-true (is_behind y) each.0)
    ∙ (end-last w (suc k) xs o x each.1 e ∙ ap (Before w) (next k (length xs)))
  where
    next : (m n : ℕ) → suc m + n ≡ m + suc n
    next m n = omega arith

pub end-before : (w : Way) (k : ℕ) (xs : List Standing) (o : Standing) (x : Spot) → is_behind o ≡ false → end_from w k (xs ++ (o ∷ [])) x ≡ end_from w k xs x
end-before w k [] o x e = ap (λ b. cond b (Before w k) x) e
end-before w k (y ∷ xs) o x e = ap (λ r. cond (is_behind y) (Before w k) r) (end-before w (suc k) xs o x e)

pub end-kept : (w : Way) (k : ℕ) (xs : List Standing) (o : Standing) (x : Spot) → none_behind xs ≡ false → end_from w k (xs ++ (o ∷ [])) x ≡ end_from w k xs x
end-kept w k [] o x some_ = absurd (true≢false some_)
end-kept w k (y ∷ xs) o x some_ = by (is_behind y) refl (λ e. end-kept w (suc k) xs o x e)
  where
    by : (b : Bool) → is_behind y ≡ b → (none_behind xs ≡ false → end_from w (suc k) (xs ++ (o ∷ [])) x ≡ end_from w (suc k) xs x)
        → cond (is_behind y) (Before w k) (end_from w (suc k) (xs ++ (o ∷ [])) x) ≡ cond (is_behind y) (Before w k) (end_from w (suc k) xs x)
    by true e rest = ap (λ b. cond b (Before w k) (end_from w (suc k) (xs ++ (o ∷ [])) x)) e ∙ sym (ap (λ b. cond b (Before w k) (end_from w (suc k) xs x)) e)
    by false e rest = ap (λ r. cond (is_behind y) (Before w k) r) (rest (sym (ap (λ b. not b && none_behind xs) e) ∙ some_))

-- ---- what passes them

pub passed-none : (xs : List Standing) (w : Way) (j : Node) → none_behind xs ≡ true → (k : ℕ) → length xs ≡ k → (z : Spot) × (passed xs w j k ≡ FromSpot z)
passed-none xs w j all zero size = (_, refl)
passed-none xs w j all (suc k) size = by (slice_get xs k) refl
  where
    each : (ys : List Standing) (m : ℕ) (l : Standing) → none_behind ys ≡ true → slice_get ys m ≡ Some l → is_behind l ≡ false
    each [] zero l all e = absurd (no-some l e)
    each [] (suc m) l all e = absurd (no-some l e)
    each (y ∷ ys) zero l all e = ap is_behind (sym (one-some y l e)) ∙ not-true (is_behind y) (parts (not (is_behind y)) (none_behind ys) all).0
    each (y ∷ ys) (suc m) l all e = each ys m l (parts (not (is_behind y)) (none_behind ys) all).1 e

    by : (q : Option Standing) → slice_get xs k ≡ q → (z : Spot) × (passed xs w j (suc k) ≡ FromSpot z)
    by None e = (Behind w k, ap (behind_last w k) e)
    by (Some l) e = (Behind w k, ap (behind_last w k) e ∙ ap (λ b. cond b (ByOperator w k) (FromSpot (Behind w k))) (each xs k l all e))

pub passed-some : (xs : List Standing) (w : Way) (j : Node) → IsFlow xs → none_behind xs ≡ false → (k : ℕ) → length xs ≡ k → (m : ℕ) × (passed xs w j k ≡ ByOperator w m)
passed-some [] w j h some_ k size = absurd (true≢false some_)
passed-some (x ∷ xs) w j h some_ zero size = absurd (omega (arith, size))
passed-some (x ∷ xs) w j h some_ (suc k) size =
    let last = flow-some (x ∷ xs) h some_ k size in
    (k, ap (behind_last w k) last.1 ∙ ap (λ b. cond b (ByOperator w k) (FromSpot (Behind w k))) last.2)
