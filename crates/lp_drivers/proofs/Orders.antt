-- An order read from its oldest key on, and the places of modules in rows and among all.
use Rattle.std.proofs.Common.{◌≡◌, ◌≢◌, ◌<◌, ◌≤◌, ◌+◌, ℕ, zero, suc, Bool, true, false, cond, List, [], ◌∷◌, ◌++◌, length, take, drop, get_or, reverse, Some, inl, inr, refl, sym, ap, ◌∙◌, subst, append_assoc, arith}
use Rattle.std.specs.Prelude.{map, filter, slice_get, slice_index_or}
use Rattle.std.specs.List.{Contains}
use Rattle.std.proofs.lemmas.List.{drop_more, take_more, take_all, take-append-drop, reverse-append}
use Rattle.std.proofs.lemmas.List.Elements.{Contains-push_cases}
use Rattle.lp_text.specs.Texts.{text_at, distinct, place_of, place_of-distinct}
use Rattle.lp_model.specs.NetlistView.{ModuleView}
use Rattle.lp_order.specs.Order.{Reads, IsOrdered, IsOrder}
use Rattle.lp_order.proofs.OrderLaws.{Contains-first, Contains-behind}
use Rattle.lp_spec_design.specs.Netlists.{first}
use Rattle.lp_targets.specs.declared.target.Target.{Target}
use Rattle.lp_targets.specs.Children.{children_of, children}

-- ---- keys that were met

reverse-cons : (x : ℕ) (xs : List ℕ) → reverse (x ∷ xs) ≡ reverse xs ++ x ∷ []
reverse-cons x xs = reverse-append (x ∷ []) xs

in-reverse : (xs : List ℕ) (b : ℕ) → Contains (reverse xs) b → Contains xs b
in-reverse [] b c = c
in-reverse (x ∷ xs) b c =
    elim (Contains-push_cases (reverse xs) x b (subst (λ ks. Contains ks b) (reverse-cons x xs) c)) [
      | inl there ↦ Contains-behind x xs b (in-reverse xs b there)
      | inr is ↦ Contains-first x xs b is
    ]

parted : (order : List ℕ) (i : ℕ) → i < length order → reverse order ≡ reverse (drop (i + 1) order) ++ get_or order i 0 ∷ reverse (take i order)
parted order i h =
    let split : order ≡ take i order ++ get_or order i 0 ∷ drop (i + 1) order = sym (take-append-drop i order) ∙ ap (λ r. take i order ++ r) (drop_more order i 0 h) in
    ap reverse split
    ∙ reverse-append (take i order) (get_or order i 0 ∷ drop (i + 1) order)
    ∙ ap (λ r. r ++ reverse (take i order)) (reverse-cons (get_or order i 0) (drop (i + 1) order))
    ∙ append_assoc (reverse (drop (i + 1) order)) (get_or order i 0 ∷ []) (reverse (take i order))

-- a key of a row that was met is one of those before, or the last
pub met-before : (order : List ℕ) (i k : ℕ) → i < length order → Contains (take (i + 1) order) k → k ≢ get_or order i 0 → Contains (take i order) k
met-before order i k h c other =
    elim (Contains-push_cases (take i order) (get_or order i 0) k (subst (λ ks. Contains ks k) (take_more order i 0 h) c)) [
      | inl there ↦ there
      | inr is ↦ absurd (other (sym is))
    ]

module _ (graph : List (List ℕ)) where
  behind : (xs : List ℕ) (k : ℕ) (ys : List ℕ) → IsOrdered graph (xs ++ k ∷ ys) → (b : ℕ) → Reads graph k b → Contains ys b
  behind [] k ys o b r = o.0 b r
  behind (x ∷ xs) k ys o b r = behind xs k ys o.1 b r

  module _ (order : List ℕ) (is_order : IsOrder graph (reverse order)) where
    pub reads-met : (i : ℕ) → i < length order → (b : ℕ) → Reads graph (get_or order i 0) b → Contains (take i order) b
    reads-met i h b r =
        in-reverse (take i order) b
        (behind (reverse (drop (i + 1) order)) (get_or order i 0) (reverse (take i order)) (subst (IsOrdered graph) (parted order i h) is_order.ordered) b r)

    pub all-met : (n : ℕ) → length order ≤ n → (k : ℕ) → k < length graph → Contains (take n order) k
    all-met n all k h = subst (λ ks. Contains ks k) (sym (take_all n order all)) (in-reverse order k (is_order.complete k h))

-- ---- places

-- two lists that are mapped alike, at one place
pub at-place : {A B C : Type 0} (f : A → C) (g : B → C) (xs : List A) (ys : List B) → map f xs ≡ map g ys → (a : ℕ) (y : B) → slice_get ys a ≡ Some y → (x : A) × (slice_get xs a ≡ Some x) × (f x ≡ g y)
at-place f g [] [] e a y at = cc
at-place f g [] (z ∷ ys) e a y at = cc
at-place f g (x ∷ xs) [] e a y at = cc
at-place f g (x ∷ xs) (z ∷ ys) e zero y at = let is : z ≡ y = cc in let same : f x ≡ g z = cc in (x, refl, same ∙ ap g is)
at-place f g (x ∷ xs) (z ∷ ys) e (suc a) y at = let rest : map f xs ≡ map g ys = cc in at-place f g xs ys rest a y at

pub row-at : (rows : List (List Target)) (a : ℕ) (row : List Target) → slice_get rows a ≡ Some row → (slice_index_or (children rows) a [] ≡ children_of row) × (a < length (children rows))
row-at [] a row e = cc
row-at (r ∷ rows) zero row e = let is : r ≡ row = cc in (ap children_of is, omega arith)
row-at (r ∷ rows) (suc a) row e = let more = row-at rows a row e in let low = more.1 in (more.0, omega (arith, low))

name-at : (ms : List ModuleView) (a : ℕ) (m : ModuleView) → slice_get ms a ≡ Some m → text_at (map (λ (x : ModuleView). x.name) ms) a ≡ m.name
name-at [] a m e = cc
name-at (x ∷ ms) zero m e = let is : x ≡ m = cc in ap (λ (y : ModuleView). y.name) is
name-at (x ∷ ms) (suc a) m e = name-at ms a m e

named-within : (ms : List ModuleView) (a : ℕ) (m : ModuleView) → slice_get ms a ≡ Some m → a < length (map (λ (x : ModuleView). x.name) ms)
named-within [] a m e = cc
named-within (x ∷ ms) zero m e = omega arith
named-within (x ∷ ms) (suc a) m e = let more = named-within ms a m e in omega (arith, more)

-- a module of names that are apart stands at one place
pub same-place : (ms : List ModuleView) → distinct (map (λ (m : ModuleView). m.name) ms) ≡ true → (a b : ℕ) (m : ModuleView) → slice_get ms a ≡ Some m → slice_get ms b ≡ Some m → b ≡ a
same-place ms apart a b m at there =
    let names = map (λ (x : ModuleView). x.name) ms in
    let same : Some b ≡ Some a = sym (place_of-distinct names b apart (named-within ms b m there)) ∙ ap (λ t. place_of t names) (name-at ms b m there ∙ sym (name-at ms a m at)) ∙ place_of-distinct names a apart (named-within ms a m at) in
    cc

-- the one member that passes a test is the first
pub one-first : {A : Type 0} (p : A → Bool) (xs : List A) → length (filter p xs) ≡ 1 → (x : A) × (first p xs ≡ Some x)
one-first p [] one = absurd (omega (arith, one))
one-first {A = A} p (x ∷ xs) one = by (p x) one (one-first p xs)
  where
    by : (b : Bool) → length (cond b (x ∷ filter p xs) (filter p xs)) ≡ 1 → (length (filter p xs) ≡ 1 → (y : A) × (first p xs ≡ Some y)) → (y : A) × (cond b (Some x) (first p xs) ≡ Some y)
    by true n rest = (x, refl)
    by false n rest = rest n
