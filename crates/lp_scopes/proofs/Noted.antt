-- What is found by a key is one of those that were noted there, and what was noted is found.
use Rattle.std.proofs.Common.{◌≡◌, ◌⊎◌, ℕ, zero, suc, ◌+◌, Bool, true, false, List, [], ◌∷◌, map, Option, Some, None, inl, inr, refl, sym, ap, ◌∙◌, subst, arith}
use Rattle.std.specs.Prelude.{nat_eq, is_some, slice_get, if◌then◌else◌}
use Rattle.std.specs.Map.{lookup}
use Rattle.std.proofs.lemmas.Bool.{true≢false, eqb-true, eq-eqb}
use Rattle.indexmap.specs.IndexMap.{insert_entry}
use Rattle.lp_spec_design.specs.Graph.{numbered}
use Rattle.lp_spec_design.specs.Winners.{IsIn}
use Rattle.lp_spec_design.specs.Reads.{one, other, both}
use Rattle.lp_scopes.specs.Numbered.{Key, same_key, Entries, noted, noted_from}

pub key-true : (a b : Key) → same_key a b ≡ true → a ≡ b
key-true a b e =
    let x : a.0 ≡ b.0 = eqb-true a.0 b.0 (one (nat_eq a.0 b.0) (nat_eq a.1 b.1) e) in
    let y : a.1 ≡ b.1 = eqb-true a.1 b.1 (other (nat_eq a.0 b.0) (nat_eq a.1 b.1) e) in
    λ i. (x i, y i)

pub key-self : (a : Key) → same_key a a ≡ true
key-self a = both (nat_eq a.0 a.0) (nat_eq a.1 a.1) (eq-eqb a.0 a.0 refl) (eq-eqb a.1 a.1 refl)

key-not : (a b : Key) → same_key a b ≡ false → same_key b a ≡ false
key-not a b e = by (same_key b a) refl
  where
    by : (t : Bool) → same_key b a ≡ t → t ≡ false
    by true f = absurd (true≢false (sym (key-self a) ∙ ap (same_key a) (sym (key-true b a f)) ∙ e))
    by false f = refl

-- ---- one more entry

head-twice : {A : Type 0} (t : Bool) (x y z : Option A) → (if t then x else z) ≡ (if t then x else if t then y else z)
head-twice true x y z = refl
head-twice false x y z = refl

pub found-insert : (k j : Key) (v : ℕ) (es : Entries) → lookup (same_key k) (insert_entry same_key es j v) ≡ (if same_key k j then Some v else lookup (same_key k) es)
found-insert k j v [] = refl
found-insert k j v (e ∷ es) = by (same_key j e.0) refl (found-insert k j v es)
  where
    rest : (t : Bool) → same_key k e.0 ≡ t → same_key j e.0 ≡ false → lookup (same_key k) (insert_entry same_key es j v) ≡ (if same_key k j then Some v else lookup (same_key k) es)
        → (if t then Some e.1 else lookup (same_key k) (insert_entry same_key es j v)) ≡ (if same_key k j then Some v else if t then Some e.1 else lookup (same_key k) es)
    rest true f apart more =
        let other_key : same_key k j ≡ false = subst (λ x. same_key x j ≡ false) (sym (key-true k e.0 f)) (key-not j e.0 apart) in
        ap (λ b. if b then Some v else Some e.1) (sym other_key)
    rest false f apart more = more

    by : (t : Bool) → same_key j e.0 ≡ t → lookup (same_key k) (insert_entry same_key es j v) ≡ (if same_key k j then Some v else lookup (same_key k) es)
        → lookup (same_key k) (if t then (e.0, v) ∷ es else e ∷ insert_entry same_key es j v) ≡ (if same_key k j then Some v else if same_key k e.0 then Some e.1 else lookup (same_key k) es)
    by true f more =
        subst (λ x. (if same_key k x then Some v else lookup (same_key k) es) ≡ (if same_key k j then Some v else if same_key k x then Some e.1 else lookup (same_key k) es)) (key-true j e.0 f)
        (head-twice (same_key k j) (Some v) (Some e.1) (lookup (same_key k) es))
    by false f more = rest (same_key k e.0) refl f more

-- ---- all entries

none-some : {A : Type 0} (x : A) → None ≡ Some x → ⊥
none-some x e = cc

some-same : {A : Type 0} (x y : A) → Some x ≡ Some y → x ≡ y
some-same x y e = cc

found-noted : (k : Key) (es : Entries) (x : Option Key) (place c : ℕ) → lookup (same_key k) (noted es x place) ≡ Some c → (lookup (same_key k) es ≡ Some c) ⊎ ((c ≡ place) × (x ≡ Some k))
found-noted k es None place c e = inl e
found-noted k es (Some j) place c e = by (same_key k j) refl (sym (found-insert k j place es) ∙ e)
  where
    by : (t : Bool) → same_key k j ≡ t → (if t then Some place else lookup (same_key k) es) ≡ Some c → (lookup (same_key k) es ≡ Some c) ⊎ ((c ≡ place) × (Some j ≡ Some k))
    by true f g = inr (sym (some-same place c g), ap (λ x. Some x) (sym (key-true k j f)))
    by false f g = inl g

pub found-is : (k : Key) (es : Entries) (place : ℕ) (ks : List (Option Key)) (c : ℕ) → lookup (same_key k) (noted_from es place ks) ≡ Some c → (lookup (same_key k) es ≡ Some c) ⊎ IsIn (c, Some k) (numbered place ks)
found-is k es place [] c e = inl e
found-is k es place (x ∷ ks) c e = elim (found-is k (noted es x place) (place + 1) ks c e) [
  | inl here ↦ elim (found-noted k es x place c here) [
    | inl before ↦ inl before
    | inr is ↦ inr (inl (λ i. (is.0 i, sym is.1 i)))
  ]
  | inr later ↦ inr (inr later)
]

kept-noted : (k : Key) (es : Entries) (x : Option Key) (place : ℕ) → is_some (lookup (same_key k) es) ≡ true → is_some (lookup (same_key k) (noted es x place)) ≡ true
kept-noted k es None place h = h
kept-noted k es (Some j) place h = ap is_some (found-insert k j place es) ∙ by (same_key k j)
  where
    by : (t : Bool) → is_some (if t then Some place else lookup (same_key k) es) ≡ true
    by true = refl
    by false = h

kept : (k : Key) (es : Entries) (place : ℕ) (ks : List (Option Key)) → is_some (lookup (same_key k) es) ≡ true → is_some (lookup (same_key k) (noted_from es place ks)) ≡ true
kept k es place [] h = h
kept k es place (x ∷ ks) h = kept k (noted es x place) (place + 1) ks (kept-noted k es x place h)

pub noted-found : (k : Key) (es : Entries) (place : ℕ) (ks : List (Option Key)) (c : ℕ) → IsIn (c, Some k) (numbered place ks) → is_some (lookup (same_key k) (noted_from es place ks)) ≡ true
noted-found k es place [] c h = absurd h
noted-found k es place (x ∷ ks) c (inr later) = noted-found k (noted es x place) (place + 1) ks c later
noted-found k es place (x ∷ ks) c (inl is) =
    let same : x ≡ Some k = ap (λ (z : ℕ × Option Key). z.1) (sym is) in
    kept k (noted es x place) (place + 1) ks
    (subst (λ y. is_some (lookup (same_key k) (noted es y place)) ≡ true) (sym same)
    (ap is_some (found-insert k k place es) ∙ ap (λ b. is_some (if b then Some place else lookup (same_key k) es)) (key-self k)))

-- ---- numbers of rows

pub record Row {A B : Type 0} (f : A → B) (xs : List A) (y : B) (place c : ℕ) : Type 0 where
  pub at : ℕ
  pub row : A
  pub place_is : c ≡ place + at
  pub there : slice_get xs at ≡ Some row
  pub is : f row ≡ y

pub numbered-row : {A B : Type 0} (f : A → B) (xs : List A) (y : B) (place c : ℕ) → IsIn (c, y) (numbered place (map f xs)) → Row f xs y place c
numbered-row f [] y place c h = absurd h
numbered-row f (x ∷ xs) y place c (inl is) = record { at = 0; row = x; place_is = (let e : c ≡ place = ap (λ (z : ℕ × _). z.0) is in omega (arith, e)); there = refl; is = ap (λ (z : ℕ × _). z.1) (sym is) }
numbered-row f (x ∷ xs) y place c (inr later) =
    let r = numbered-row f xs y (place + 1) c later in
    record { at = suc r.at; row = r.row; place_is = omega (arith, r.place_is); there = r.there; is = r.is }

pub row-numbered : {A B : Type 0} (f : A → B) (xs : List A) (place i : ℕ) (x : A) → slice_get xs i ≡ Some x → IsIn (place + i, f x) (numbered place (map f xs))
row-numbered f [] place i x e = absurd cc
row-numbered f (z ∷ xs) place zero x e = let is : z ≡ x = cc in inl (λ j. ((let e : place + 0 ≡ place = omega arith in e) j, f (sym is j)))
row-numbered f (z ∷ xs) place (suc i) x e =
    inr (subst (λ n. IsIn (n, f x) (numbered (place + 1) (map f xs))) (let s : place + 1 + i ≡ place + suc i = omega arith in s) (row-numbered f xs (place + 1) i x e))
