-- An order read from its oldest key on: what a key reads was read before.
use Rattle.std.proofs.Common.{◌≡◌, ℕ, ◌+◌, ◌<◌, ◌≤◌, inl, inr, List, [], ◌∷◌, ◌++◌, length, take, drop, get_or, reverse, sym, ap, ◌∙◌, subst, append_assoc}
use Rattle.std.specs.List.{Contains}
use Rattle.std.proofs.lemmas.List.{drop_more, take_all, take-append-drop, reverse-append}
use Rattle.std.proofs.lemmas.List.Elements.{Contains-push_cases}
use Rattle.lp_order.specs.Order.{Reads, IsOrdered, IsOrder}
use Rattle.lp_order.proofs.OrderLaws.{Contains-first, Contains-behind}

reverse-cons : (x : ℕ) (xs : List ℕ) → reverse (x ∷ xs) ≡ reverse xs ++ x ∷ []
reverse-cons x xs = reverse-append (x ∷ []) xs

in_reverse : (xs : List ℕ) (b : ℕ) → Contains (reverse xs) b → Contains xs b
in_reverse [] b c = c
in_reverse (x ∷ xs) b c =
    elim (Contains-push_cases (reverse xs) x b (subst (λ ks. Contains ks b) (reverse-cons x xs) c)) [
      | inl there ↦ Contains-behind x xs b (in_reverse xs b there)
      | inr is ↦ Contains-first x xs b is
    ]

parted : (order : List ℕ) (i : ℕ) → i < length order → reverse order ≡ reverse (drop (i + 1) order) ++ get_or order i 0 ∷ reverse (take i order)
parted order i h =
    let split : order ≡ take i order ++ get_or order i 0 ∷ drop (i + 1) order = sym (take-append-drop i order) ∙ ap (λ r. take i order ++ r) (drop_more order i 0 h) in
    ap reverse split
    ∙ reverse-append (take i order) (get_or order i 0 ∷ drop (i + 1) order)
    ∙ ap (λ r. r ++ reverse (take i order)) (reverse-cons (get_or order i 0) (drop (i + 1) order))
    ∙ append_assoc (reverse (drop (i + 1) order)) (get_or order i 0 ∷ []) (reverse (take i order))

module _ (graph : List (List ℕ)) where
  behind : (xs : List ℕ) (k : ℕ) (ys : List ℕ) → IsOrdered graph (xs ++ k ∷ ys) → (b : ℕ) → Reads graph k b → Contains ys b
  behind [] k ys o b r = o.0 b r
  behind (x ∷ xs) k ys o b r = behind xs k ys o.1 b r

  module _ (order : List ℕ) (is_order : IsOrder graph (reverse order)) where
    pub reads_done : (i : ℕ) → i < length order → (b : ℕ) → Reads graph (get_or order i 0) b → Contains (take i order) b
    reads_done i h b r =
        in_reverse (take i order) b
        (behind (reverse (drop (i + 1) order)) (get_or order i 0) (reverse (take i order)) (subst (IsOrdered graph) (parted order i h) is_order.ordered) b r)

    pub done_all : (n : ℕ) → length order ≤ n → (k : ℕ) → k < length graph → Contains (take n order) k
    done_all n all k h = subst (λ ks. Contains ks k) (sym (take_all n order all)) (in_reverse order k (is_order.complete k h))
