-- Places in pieces, cut where either of two lists ends a piece.
use Rattle.std.proofs.Common.{◌≡◌, ℕ, zero, suc, ◌+◌, List, [], ◌∷◌, ◌++◌, length, Bool, Option, Some, None, refl, sym, ap, ◌∙◌, arith, append_assoc}
use Rattle.std.specs.Prelude.{map}
use Rattle.std.proofs.lemmas.List.{map-append}
use Rattle.lp_model.specs.declared.graph.EdgeFrom.{EdgeFrom}
use Rattle.lp_model.specs.declared.graph.EdgeFrom.TheVariants.{Node as FromNode, Const as FromConst}
use Rattle.lp_model.specs.declared.ids.NodeId.{NodeId}
use Rattle.lp_spec_design.specs.Netlists.{upward}
use Rattle.lp_spec_design.specs.Graph.{pairs, some_of, and_more}
use Rattle.lp_spec_bridge.specs.Templates.{at_start}
use Rattle.lp_spec_layout.specs.Parts.{Joint}
use Rattle.lp_templates.specs.Pieces.{places_from, joint, joints_of}

-- ---- places one after another

pub no_places : (from : EdgeFrom) (n : ℕ) → n ≡ 0 → places_from from n ≡ []
no_places from n e = ap (places_from from) e

upward-cut : (n m k : ℕ) → upward (n + m) k ≡ upward n k ++ upward m (k + n)
upward-cut zero m k = let a : zero + m ≡ m = omega arith in let b : k ≡ k + zero = omega arith in λ i. upward (a i) (b i)
upward-cut (suc n) m k =
    let a : suc n + m ≡ suc (n + m) = omega arith in
    let b : k + 1 + n ≡ k + suc n = omega arith in
    ap (λ z. upward z k) a ∙ ap (λ r. k ∷ r) (upward-cut n m (k + 1) ∙ ap (λ z. upward n (k + 1) ++ upward m z) b)

twice : (k n : ℕ) (from : EdgeFrom) → at_start (k + n) from ≡ at_start k (at_start n from)
twice k n (FromNode p) = let e : k + n + p.0 ≡ k + (n + p.0) = omega arith in ap (λ z. FromNode (record { 0 = z })) e
twice k n (FromConst b) = refl

shifted : (n : ℕ) (from : EdgeFrom) (m k : ℕ) → map (λ i. at_start i from) (upward m (k + n)) ≡ map (λ i. at_start i (at_start n from)) (upward m k)
shifted n from zero k = refl
shifted n from (suc m) k =
    let e : k + n + 1 ≡ k + 1 + n = omega arith in
    λ i. twice k n from i ∷ (ap (λ z. map (λ j. at_start j from) (upward m z)) e ∙ shifted n from m (k + 1)) i

pub places_cut : (from : EdgeFrom) (n m : ℕ) → places_from from (n + m) ≡ places_from from n ++ places_from (at_start n from) m
places_cut from n m =
    ap (map (λ i. at_start i from)) (upward-cut n m 0)
    ∙ map-append (λ i. at_start i from) (upward n 0) (upward m (0 + n))
    ∙ ap (λ r. places_from from n ++ r) (shifted n from m 0)

map-upward-length : {A : Type 0} (f : ℕ → A) (n k : ℕ) → length (map f (upward n k)) ≡ n
map-upward-length f zero k = refl
map-upward-length f (suc n) k = omega (arith, map-upward-length f n (k + 1))

pub places_length : (from : EdgeFrom) (n : ℕ) → length (places_from from n) ≡ n
places_length from n = map-upward-length (λ i. at_start i from) n 0

-- ---- lists beside each other

pub some_append : {A B : Type 0} (f : A → Option B) (xs ys : List A) → some_of f (xs ++ ys) ≡ some_of f xs ++ some_of f ys
some_append f [] ys = refl
some_append {A = A} {B = B} f (x ∷ xs) ys = by (f x) (some_append f xs ys)
  where
    by : (o : Option B) → some_of f (xs ++ ys) ≡ some_of f xs ++ some_of f ys → and_more o (some_of f (xs ++ ys)) ≡ and_more o (some_of f xs) ++ some_of f ys
    by None e = e
    by (Some y) e = ap (λ r. y ∷ r) e

pairs-append : {A B : Type 0} (xs : List A) (ys : List B) (ls : List A) (rs : List B) → length xs ≡ length ys → pairs (xs ++ ls) (ys ++ rs) ≡ pairs xs ys ++ pairs ls rs
pairs-append [] [] ls rs e = refl
pairs-append [] (y ∷ ys) ls rs e = absurd (omega (arith, e))
pairs-append (x ∷ xs) [] ls rs e = absurd (omega (arith, e))
pairs-append (x ∷ xs) (y ∷ ys) ls rs e = ap (λ r. (x, y) ∷ r) (pairs-append xs ys ls rs (omega (arith, e)))

pub joints_append : (xs ys ls rs : List EdgeFrom) → length xs ≡ length ys → joints_of (xs ++ ls) (ys ++ rs) ≡ joints_of xs ys ++ joints_of ls rs
joints_append xs ys ls rs e = ap (some_of joint) (pairs-append xs ys ls rs e) ∙ some_append joint (pairs xs ys) (pairs ls rs)

pub no_drivers : (xs : List EdgeFrom) → joints_of xs [] ≡ []
no_drivers [] = refl
no_drivers (x ∷ xs) = refl

-- ---- one run

pub places_driven : (to : NodeId) (from : EdgeFrom) (n k : ℕ) → joints_of (map (λ i. at_start i (FromNode to)) (upward n k)) (map (λ i. at_start i from) (upward n k)) ≡ map (λ i. (i + to.0, at_start i from)) (upward n k)
places_driven to from zero k = refl
places_driven to from (suc n) k = ap (λ r. (k + to.0, at_start k from) ∷ r) (places_driven to from n (k + 1))

pub constants_not_driven : (b : Bool) (n k : ℕ) (ys : List EdgeFrom) → joints_of (map (λ i. at_start i (FromConst b)) (upward n k)) ys ≡ []
constants_not_driven b zero k ys = refl
constants_not_driven b (suc n) k [] = refl
constants_not_driven b (suc n) k (y ∷ ys) = constants_not_driven b n (k + 1) ys

-- ---- a step

pub cut_step : (js goal : List Joint) (to from ls rs : List EdgeFrom) (a b : EdgeFrom) (n : ℕ) → to ≡ places_from a n ++ ls → from ≡ places_from b n ++ rs
    → js ++ joints_of to from ≡ goal → (js ++ joints_of (places_from a n) (places_from b n)) ++ joints_of ls rs ≡ goal
cut_step js goal to from ls rs a b n is_to is_from e =
    let same : length (places_from a n) ≡ length (places_from b n) = places_length a n ∙ sym (places_length b n) in
    append_assoc js (joints_of (places_from a n) (places_from b n)) (joints_of ls rs)
    ∙ ap (λ r. js ++ r) (sym (joints_append (places_from a n) (places_from b n) ls rs same))
    ∙ ap (λ z. js ++ joints_of z (places_from b n ++ rs)) (sym is_to)
    ∙ ap (λ z. js ++ joints_of to z) (sym is_from)
    ∙ e

pub skipped : (from behind : EdgeFrom) (count steps left : ℕ) (later : List EdgeFrom) → left + steps ≡ count → behind ≡ at_start steps from
    → places_from from count ++ later ≡ places_from from steps ++ (places_from behind left ++ later)
skipped from behind count steps left later e is =
    let sum : count ≡ steps + left = omega (arith, e) in
    ap (λ z. places_from from z ++ later) sum
    ∙ ap (λ z. z ++ later) (places_cut from steps left)
    ∙ append_assoc (places_from from steps) (places_from (at_start steps from) left) later
    ∙ ap (λ z. places_from from steps ++ (places_from z left ++ later)) (sym is)
