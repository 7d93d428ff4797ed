-- The cells of instances by their places.
use Rattle.std.proofs.Common.{◌≡◌, ℕ, zero, suc, ◌+◌, ◌<◌, Bool, true, false, List, [], ◌∷◌, ◌++◌, map, length, take, Option, Some, None, refl, sym, ap, ◌∙◌, arith}
use Rattle.std.specs.Prelude.{slice_index_or, flat_map, option_map, ◌&&◌}
use Rattle.std.specs.List.{list_all}
use Rattle.std.proofs.lemmas.Bool.{and_from}
use Rattle.std.proofs.lemmas.List.{take_more}
use Rattle.std.proofs.lemmas.List.Folds.{list_all-append}
use Rattle.lp_text.specs.Texts.{text_at, same_text, same_text_comm, place_of}
use Rattle.lp_model.specs.Agreement.{numbers_below}
use Rattle.lp_model.specs.declared.library.Cell.{Cell}
use Rattle.lp_model.specs.declared.netlist.Instance.{Instance}
use Rattle.lp_model.specs.NetlistView.{connections_numbers, instance_numbers}
use Rattle.lp_model.specs.LibraryView.{cell_view}
use Rattle.lp_spec_plain.specs.Cells.{loses_with_supply}
use Rattle.lp_plain_index.proofs.Numbers.{below-left, below-right, below-head, below-tail}
use Rattle.lp_spec_plain_netlist.specs.Fits.{cell_named, is_plain_target}

abbrev pub flag_at : List Bool → Option ℕ → Bool
flag_at fs None = false
flag_at fs (Some k) = slice_index_or fs k false

module _ (texts : List (List ℕ)) where
  behind : (f : Bool) (fs : List Bool) (r : Option ℕ) → flag_at (f ∷ fs) (option_map suc r) ≡ flag_at fs r
  behind f fs None = refl
  behind f fs (Some k) = refl

  pub plain-at : (t : List ℕ) (cells : List Cell) → is_plain_target (cell_named (map (cell_view texts) cells) t) ≡ flag_at (map (λ c. loses_with_supply (cell_view texts c)) cells) (place_of t (map (λ c. text_at texts c.name.0) cells))
  plain-at t [] = refl
  plain-at t (c ∷ cells) = by (same_text t (text_at texts c.name.0)) refl (plain-at t cells)
    where
      by : (b : Bool) → same_text t (text_at texts c.name.0) ≡ b → is_plain_target (cell_named (map (cell_view texts) cells) t) ≡ flag_at (map (λ x. loses_with_supply (cell_view texts x)) cells) (place_of t (map (λ x. text_at texts x.name.0) cells)) → is_plain_target (cell_named (map (cell_view texts) (c ∷ cells)) t) ≡ flag_at (map (λ x. loses_with_supply (cell_view texts x)) (c ∷ cells)) (place_of t (map (λ x. text_at texts x.name.0) (c ∷ cells)))
      by true e rest = rw (same_text_comm (text_at texts c.name.0) t ∙ e, e) refl
      by false e rest = rw (same_text_comm (text_at texts c.name.0) t ∙ e, e) (rest ∙ sym (behind (loses_with_supply (cell_view texts c)) (map (λ x. loses_with_supply (cell_view texts x)) cells) (place_of t (map (λ x. text_at texts x.name.0) cells))))

pub place-in : (t : List ℕ) (ts : List (List ℕ)) (k : ℕ) → place_of t ts ≡ Some k → k < length ts
place-in t [] k e = absurd (let none : ⊥ = cc in none)
place-in t (x ∷ ts) k e = by (same_text t x) refl (place_of t ts) refl (place-in t ts)
  where
    by : (b : Bool) → same_text t x ≡ b → (r : Option ℕ) → place_of t ts ≡ r → ((j : ℕ) → place_of t ts ≡ Some j → j < length ts) → k < length (x ∷ ts)
    by true s r p more = let here : Some 0 ≡ Some k = rw (s) at e in let zero_is : 0 ≡ k = cc in omega (arith, zero_is)
    by false s None p more = absurd (let gone : None ≡ Some k = rw (s, p) at e in let none : ⊥ = cc in none)
    by false s (Some j) p more = let there : Some (suc j) ≡ Some k = rw (s, p) at e in let suc_is : suc j ≡ k = cc in let behind = more j p in omega (arith, suc_is, behind)

pub target-below : (k : ℕ) (xs : List Instance) (i : ℕ) (d : Instance) → i < length xs → numbers_below k (flat_map instance_numbers xs) ≡ true → (slice_index_or xs i d).target.0 < k
target-below k [] i d h b = absurd (omega (arith, h))
target-below k (x ∷ xs) zero d h b =
    let here = below-left k (instance_numbers x) (flat_map instance_numbers xs) b in
    below-head k x.target.0 (connections_numbers x.connections) (below-tail k x.name.0 (x.target.0 ∷ connections_numbers x.connections) here)
target-below k (x ∷ xs) (suc i) d h b = target-below k xs i d (omega (arith, h)) (below-right k (instance_numbers x) (flat_map instance_numbers xs) b)

-- ---- all instances

pub all-more : (p : Instance → Bool) (xs : List Instance) (i : ℕ) (x : Instance) → i < length xs → x ≡ slice_index_or xs i x → list_all p (take i xs) ≡ true → p x ≡ true → list_all p (take (i + 1) xs) ≡ true
all-more p xs i x h e all one =
    ap (list_all p) (take_more xs i x h ∙ ap (λ y. take i xs ++ y ∷ []) (sym e))
    ∙ list_all-append p (take i xs) (x ∷ []) ∙ and_from (list_all p (take i xs)) (list_all p (x ∷ [])) all (and_from (p x) true one refl)

pub all-false : (p : Instance → Bool) (xs : List Instance) (i : ℕ) (x : Instance) → i < length xs → x ≡ slice_index_or xs i x → p x ≡ false → list_all p xs ≡ false
all-false p [] i x h e f = absurd (omega (arith, h))
all-false p (y ∷ xs) zero x h e f = ap (λ b. b && list_all p xs) (ap p (sym e) ∙ f)
all-false p (y ∷ xs) (suc i) x h e f = ap (λ b. p y && b) (all-false p xs i x (omega (arith, h)) e f) ∙ and_none (p y)
  where
    and_none : (a : Bool) → (a && false) ≡ false
    and_none true = refl
    and_none false = refl
