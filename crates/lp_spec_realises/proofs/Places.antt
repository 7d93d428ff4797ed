-- Bits of top ports go from one netlist to another and back.
use Rattle.std.proofs.Common.{◌≡◌, ◌<◌, ◌≤◌, ℕ, zero, suc, ◌+◌, ◌-◌, Bool, true, false, not, ◌&&◌, ◌||◌, ◌==◌, cond, List, [], ◌∷◌, map, length, Option, Some, None, refl, sym, ◌∙◌, ap, arith}
use Rattle.std.specs.Prelude.{nat_le}
use Rattle.std.specs.List.{list_any}
use Rattle.std.proofs.lemmas.Bool.{and_parts, and_from, false≢true, true≢false, not-true, eqb-true, eq-eqb}
use Rattle.lp_model.specs.declared.netlist.BitRange.{BitRange}
use Rattle.lp_model.specs.NetlistView.{PortView}
use Rattle.lp_spec_design.specs.Keys.{Name, same_index}
use Rattle.lp_spec_design.specs.Netlists.{Structure, upward, downward, indices}
use Rattle.lp_spec_design.specs.Graph.{pairs}
use Rattle.lp_spec_realises.specs.Tops.{beside, index_between, top_port, index_across}

index-true : (i j : Option ℕ) → same_index i j ≡ true → i ≡ j
index-true None None e = refl
index-true None (Some j) e = absurd (true≢false (sym e))
index-true (Some i) None e = absurd (true≢false (sym e))
index-true (Some i) (Some j) e = ap (λ x. Some x) (eqb-true i j e)

index-self : (i : Option ℕ) → same_index i i ≡ true
index-self None = refl
index-self (Some i) = eq-eqb i i refl

or-true : (b : Bool) → (b || true) ≡ true
or-true true = refl
or-true false = refl

-- ---- the indices of a port are apart

abbrev among : Option ℕ → List (Option ℕ) → Bool
among i xs = list_any (same_index i) xs

abbrev apart : List (Option ℕ) → Bool
apart [] = true
apart (x ∷ xs) = not (among x xs) && apart xs

abbrev some : List ℕ → List (Option ℕ)
some xs = map (λ i. Some i) xs

unlike : (a b : ℕ) → (a ≡ b → ⊥) → (a == b) ≡ false
unlike a b differ = by (a == b) refl
  where
    by : (c : Bool) → (a == b) ≡ c → c ≡ false
    by false e = refl
    by true e = absurd (differ (eqb-true a b e))

none-above : (n from k : ℕ) → k < from → among (Some k) (some (upward n from)) ≡ false
none-above zero from k h = refl
none-above (suc n) from k h =
    ap (λ b. b || among (Some k) (some (upward n (from + 1)))) (unlike k from (λ e. omega (arith, h, e)))
    ∙ none-above n (from + 1) k (omega (arith, h))

none-below : (n from k : ℕ) → from < k → among (Some k) (some (downward n from)) ≡ false
none-below zero from k h = refl
none-below (suc n) from k h =
    ap (λ b. b || among (Some k) (some (downward n (from - 1)))) (unlike k from (λ e. omega (arith, h, e)))
    ∙ none-below n (from - 1) k (omega (arith, h))

upward-apart : (n from : ℕ) → apart (some (upward n from)) ≡ true
upward-apart zero from = refl
upward-apart (suc n) from = and_from _ _ (ap not (none-above n (from + 1) from (omega arith))) (upward-apart n (from + 1))

downward-apart : (n from : ℕ) → n ≤ from + 1 → apart (some (downward n from)) ≡ true
downward-apart zero from h = refl
downward-apart (suc zero) from h = refl
downward-apart (suc (suc n)) from h =
    and_from _ _ (ap not (none-below (suc n) (from - 1) from (omega (arith, h)))) (downward-apart (suc n) (from - 1) (omega (arith, h)))

pub indices-apart : (r : Option BitRange) → apart (indices r) ≡ true
indices-apart None = refl
indices-apart (Some r) = by (nat_le r.left r.right)
  where
    by : (b : Bool) → apart (some (cond b (upward (r.right + 1 - r.left) r.left) (downward (r.left + 1 - r.right) r.left))) ≡ true
    by true = upward-apart (r.right + 1 - r.left) r.left
    by false = downward-apart (r.left + 1 - r.right) r.left (omega arith)

-- ---- there and back

there : (xs ys : List (Option ℕ)) → length xs ≡ length ys → (i : Option ℕ) → among i xs ≡ true → among (beside i (pairs xs ys)) ys ≡ true
there [] ys e i h = absurd (false≢true h)
there (x ∷ xs) [] e i h = absurd (omega (arith, e))
there (x ∷ xs) (y ∷ ys) e i h = by (same_index i x) (λ g. there xs ys (omega (arith, e)) i g) h
  where
    by : (a : Bool) → (among i xs ≡ true → among (beside i (pairs xs ys)) ys ≡ true) → (a || among i xs) ≡ true → among (cond a y (beside i (pairs xs ys))) (y ∷ ys) ≡ true
    by true more h = ap (λ b. b || among y ys) (index-self y)
    by false more h = ap (λ b. same_index (beside i (pairs xs ys)) y || b) (more h) ∙ or-true (same_index (beside i (pairs xs ys)) y)

back : (xs ys : List (Option ℕ)) → length xs ≡ length ys → apart ys ≡ true → (i : Option ℕ) → among i xs ≡ true → beside (beside i (pairs xs ys)) (pairs ys xs) ≡ i
back [] ys e separate i h = absurd (false≢true h)
back (x ∷ xs) [] e separate i h = absurd (omega (arith, e))
back (x ∷ xs) (y ∷ ys) e separate i h = by (same_index i x) refl (λ g. there xs ys (omega (arith, e)) i g) (λ g. back xs ys (omega (arith, e)) (and_parts _ _ separate).1 i g) h
  where
    -- an index behind is another one
    behind : (j : Option ℕ) → among j ys ≡ true → (b : Bool) → same_index j y ≡ b → b ≡ false
    behind j g false is = refl
    behind j g true is = absurd (false≢true (sym (not-true _ (and_parts _ _ separate).0) ∙ (ap (λ k. among k ys) (sym (index-true j y is)) ∙ g)))

    by : (a : Bool) → same_index i x ≡ a → (among i xs ≡ true → among (beside i (pairs xs ys)) ys ≡ true) → (among i xs ≡ true → beside (beside i (pairs xs ys)) (pairs ys xs) ≡ i) → (a || among i xs) ≡ true
        → beside (cond a y (beside i (pairs xs ys))) ((y, x) ∷ pairs ys xs) ≡ i
    by true is inside more h = ap (λ b. cond b x (beside y (pairs ys xs))) (index-self y) ∙ sym (index-true i x is)
    by false is inside more h =
        let j = beside i (pairs xs ys) in
        ap (λ b. cond b x (beside j (pairs ys xs))) (behind j (inside h) (same_index j y) refl) ∙ more h

between-and-back : (a b : PortView) → length (indices a.range) ≡ length (indices b.range) → (i : Option ℕ) → among i (indices a.range) ≡ true → index_between (index_between i (Some a) (Some b)) (Some b) (Some a) ≡ i
between-and-back a b e i h = back (indices a.range) (indices b.range) e (indices-apart b.range) i h

pub across-and-back : (s w : Structure) (n : Name) (a b : PortView) → top_port s n ≡ Some a → top_port w n ≡ Some b → length (indices a.range) ≡ length (indices b.range) → (i : Option ℕ) → among i (indices a.range) ≡ true → index_across w s n (index_across s w n i) ≡ i
across-and-back s w n a b at_s at_w e i h =
    ap (λ o. index_between (index_between i (top_port s n) (top_port w n)) (top_port w n) o) at_s
    ∙ (ap (λ o. index_between (index_between i o (top_port w n)) (top_port w n) (Some a)) at_s
    ∙ (ap (λ o. index_between (index_between i (Some a) o) o (Some a)) at_w
    ∙ between-and-back a b e i h))
