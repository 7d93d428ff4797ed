-- Lists whose members are apart, and keys that are compared by their places.
use Rattle.std.proofs.Common.{◌≡◌, ◌<◌, ℕ, zero, suc, Bool, true, false, ◌&&◌, ◌||◌, ◌==◌, List, [], ◌∷◌, map, length, get_or, Option, Some, None, inl, inr, refl, sym, ap, ◌∙◌, subst, arith}
use Rattle.std.specs.List.{list_all, list_any}
use Rattle.std.proofs.lemmas.Bool.{true≢false, eqb-true, eq-eqb}
use Rattle.lp_spec_design.specs.Keys.{Node, Inner, Outer, Fixed, Way, PortBit, AssignBit, same_path, same_index, same_node, same_way}
use Rattle.lp_spec_design.specs.Winners.{IsIn}
use Rattle.lp_spec_design.specs.Reads.{one, other, both, name-true, name-self, path-true, path-self, index-true}
use Rattle.std.specs.Prelude.{bytes_eq}
use Rattle.lp_spec_bridge.specs.Keyed.{IsApart, is_net_bit}

pub in-at : {A : Type 0} (xs : List A) (k : ℕ) (d : A) → k < length xs → IsIn (get_or xs k d) xs
in-at [] k d h = absurd (omega arith)
in-at (x ∷ xs) zero d h = inl refl
in-at (x ∷ xs) (suc k) d h = inr (in-at xs k d (omega arith))

-- equal members stand at one place
pub apart-at : {A : Type 0} (xs : List A) (i j : ℕ) (d e : A) → IsApart xs → i < length xs → j < length xs → get_or xs i d ≡ get_or xs j e → i ≡ j
apart-at [] i j d e apart hi hj same = absurd (omega arith)
apart-at (x ∷ xs) zero zero d e apart hi hj same = refl
apart-at (x ∷ xs) zero (suc j) d e apart hi hj same = absurd (apart.0 (subst (λ y. IsIn y xs) (sym same) (in-at xs j e (omega arith))))
apart-at (x ∷ xs) (suc i) zero d e apart hi hj same = absurd (apart.0 (subst (λ y. IsIn y xs) same (in-at xs i d (omega arith))))
apart-at (x ∷ xs) (suc i) (suc j) d e apart hi hj same = ap suc (apart-at xs i j d e apart.1 (omega arith) (omega arith) same)

pub list-at : {A : Type 0} (p : A → Bool) (xs : List A) (k : ℕ) (d : A) → list_all p xs ≡ true → k < length xs → p (get_or xs k d) ≡ true
list-at p [] k d h low = absurd (omega arith)
list-at p (x ∷ xs) zero d h low = one (p x) (list_all p xs) h
list-at p (x ∷ xs) (suc k) d h low = list-at p xs k d (other (p x) (list_all p xs) h) (omega arith)

-- a test of keys is the test of their places
pub same-places : {A : Type 0} (same : A → A → Bool) → ((x y : A) → same x y ≡ true → x ≡ y) → ((x : A) → same x x ≡ true) → (xs : List A) (i j : ℕ) (d : A) → IsApart xs → i < length xs → j < length xs → same (get_or xs i d) (get_or xs j d) ≡ (i == j)
same-places same is self xs i j d apart hi hj = by (same (get_or xs i d) (get_or xs j d)) (i == j) refl refl
  where
    by : (a b : Bool) → same (get_or xs i d) (get_or xs j d) ≡ a → (i == j) ≡ b → a ≡ b
    by true true e f = refl
    by false false e f = refl
    by true false e f = absurd (true≢false (sym (eq-eqb i j (apart-at xs i j d d apart hi hj (is (get_or xs i d) (get_or xs j d) e))) ∙ f))
    by false true e f = absurd (true≢false (sym (ap (λ k. same (get_or xs i d) (get_or xs k d)) (sym (eqb-true i j f)) ∙ self (get_or xs i d)) ∙ e))

pub index-self : (i : Option ℕ) → same_index i i ≡ true
index-self None = refl
index-self (Some i) = eq-eqb i i refl

pub way-true : (v w : Way) → same_way v w ≡ true → v ≡ w
way-true (PortBit p m i) (PortBit q n j) e = λ r.
    PortBit (path-true p q (other (same_index i j) (same_path p q) (other (bytes_eq m n) (same_index i j && same_path p q) e)) r)
    (name-true m n (one (bytes_eq m n) (same_index i j && same_path p q) e) r)
    (index-true i j (one (same_index i j) (same_path p q) (other (bytes_eq m n) (same_index i j && same_path p q) e)) r)
way-true (AssignBit p a k) (AssignBit q b l) e = λ r.
    AssignBit (path-true p q (other (k == l) (same_path p q) (other (a == b) ((k == l) && same_path p q) e)) r)
    (eqb-true a b (one (a == b) ((k == l) && same_path p q) e) r)
    (eqb-true k l (one (k == l) (same_path p q) (other (a == b) ((k == l) && same_path p q) e)) r)
way-true (PortBit p m i) (AssignBit q b l) e = absurd (true≢false (sym e))
way-true (AssignBit p a k) (PortBit q n j) e = absurd (true≢false (sym e))

pub way-self : (w : Way) → same_way w w ≡ true
way-self (PortBit p m i) = both (bytes_eq m m) (same_index i i && same_path p p) (name-self m) (both (same_index i i) (same_path p p) (index-self i) (path-self p))
way-self (AssignBit p a k) = both (a == a) ((k == k) && same_path p p) (eq-eqb a a refl) (both (k == k) (same_path p p) (eq-eqb k k refl) (path-self p))

-- a constant is no net bit
pub not-fixed : (b : Bool) (x : Node) → is_net_bit x ≡ true → same_node (Fixed b) x ≡ false
not-fixed b (Inner n i p) e = refl
not-fixed b (Outer n i) e = refl
not-fixed b (Fixed a) e = absurd (true≢false (sym e))

-- a test on the images of a list, where both tests agree
pub any-image : {A B : Type 0} (p : B → Bool) (q ok : A → Bool) (f : A → B) → ((x : A) → ok x ≡ true → p (f x) ≡ q x) → (xs : List A) → list_all ok xs ≡ true → list_any p (map f xs) ≡ list_any q xs
any-image p q ok f agree [] h = refl
any-image p q ok f agree (x ∷ xs) h =
    ap (λ b. b || list_any p (map f xs)) (agree x (one (ok x) (list_all ok xs) h))
    ∙ ap (λ b. q x || b) (any-image p q ok f agree xs (other (ok x) (list_all ok xs) h))
