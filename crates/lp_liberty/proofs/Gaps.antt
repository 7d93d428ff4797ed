-- What is skipped before a token is the gap before it.
use Rattle.std.proofs.Common.{◌≡◌, ℕ, suc, ◌+◌, ◌==◌, Bool, true, false, not, List, [], ◌∷◌, ◌++◌, ◌&&◌, ◌||◌, length, length-append, Some, None, refl, sym, ap, ◌∙◌, subst, arith, append_assoc}
use Rattle.std.specs.Prelude.{if◌then◌else◌, IsTrue}
use Rattle.std.proofs.lemmas.Bool.{true≢false, eqb-true}
use Rattle.lp_liberty.specs.declared.mark.Gap.TheVariants as modes
use Rattle.lp_liberty.specs.declared.gap.Skipped.{Skipped}
use Rattle.lp_liberty.specs.Lexing.{begins_with, is_blank, skip_on, skip}
use Rattle.lp_liberty.specs.Spelling as spelling
use Rattle.lp_liberty.specs.Spelling.{no_close, Gap, begins_gap}
use Rattle.lp_liberty.proofs.Joined.{conj_left, conj_right}

pub begins_is : (b : ℕ) (text : List ℕ) → begins_with b text ≡ true → (rest : List ℕ) × (text ≡ b ∷ rest)
begins_is b [] e = absurd (true≢false (sym e))
begins_is b (c ∷ text) e = (text, ap (λ x. x ∷ text) (eqb-true c b e))

-- a blank is no backslash and no slash
blank_plain : (b : ℕ) → is_blank b ≡ true → ((b == 92) ≡ false) × ((b == 47) ≡ false)
blank_plain b e = first (b == 32) refl e
  where
    at : (n : ℕ) → (b == n) ≡ true → ((n == 92) ≡ false) × ((n == 47) ≡ false) → ((b == 92) ≡ false) × ((b == 47) ≡ false)
    at n h p = subst (λ (x : ℕ). ((x == 92) ≡ false) × ((x == 47) ≡ false)) (sym (eqb-true b n h)) p

    last : (k : Bool) → (b == 12) ≡ k → k ≡ true → ((b == 92) ≡ false) × ((b == 47) ≡ false)
    last k h e = at 12 (h ∙ e) (refl, refl)

    fourth : (k : Bool) → (b == 13) ≡ k → (k || (b == 12)) ≡ true → ((b == 92) ≡ false) × ((b == 47) ≡ false)
    fourth true h e = at 13 h (refl, refl)
    fourth false h e = last (b == 12) refl e

    third : (k : Bool) → (b == 9) ≡ k → (k || ((b == 13) || (b == 12))) ≡ true → ((b == 92) ≡ false) × ((b == 47) ≡ false)
    third true h e = at 9 h (refl, refl)
    third false h e = fourth (b == 13) refl e

    second : (k : Bool) → (b == 10) ≡ k → (k || ((b == 9) || ((b == 13) || (b == 12)))) ≡ true → ((b == 92) ≡ false) × ((b == 47) ≡ false)
    second true h e = at 10 h (refl, refl)
    second false h e = third (b == 9) refl e

    first : (k : Bool) → (b == 32) ≡ k → (k || ((b == 10) || ((b == 9) || ((b == 13) || (b == 12))))) ≡ true → ((b == 92) ≡ false) × ((b == 47) ≡ false)
    first true h e = at 32 h (refl, refl)
    first false h e = second (b == 10) refl e

abbrev pub stop_at : ℕ → Bool → Skipped
stop_at at s = record { size = at; gap = s; cut = false }

abbrev pub cut_at : ℕ → Skipped
cut_at at = record { size = at; gap = true; cut = true }

-- ---- a gap is skipped

module _ (lines : Bool) where
  comment_skipped : (body rest : List ℕ) (at : ℕ) → IsTrue (no_close body) → skip lines modes.Comment at (body ++ (42 ∷ (47 ∷ rest))) ≡ skip lines (modes.Plain true) (at + length body + 2) rest
  comment_skipped [] rest at h = (let same : at + 1 + 1 ≡ at + 0 + 2 = omega arith in ap (λ n. skip lines (modes.Plain true) n rest) same)
  comment_skipped (b ∷ body) rest at h =
      let open_still : ((b == 42) && begins_with 47 (body ++ (42 ∷ (47 ∷ rest)))) ≡ false = still body (conj_left (not ((b == 42) && begins_with 47 body)) (no_close body) h) in
      let more : (at + 1) + length body + 2 ≡ at + suc (length body) + 2 = omega arith in
      rw open_still (comment_skipped body rest (at + 1) (conj_right (not ((b == 42) && begins_with 47 body)) (no_close body) h) ∙ ap (λ n. skip lines (modes.Plain true) n rest) more)
    where
      none : (k : Bool) → (k && false) ≡ false
      none true = refl
      none false = refl

      negated : (k : Bool) → not k ≡ true → k ≡ false
      negated true e = absurd (true≢false (sym e))
      negated false e = refl

      still : (body : List ℕ) → not ((b == 42) && begins_with 47 body) ≡ true → ((b == 42) && begins_with 47 (body ++ (42 ∷ (47 ∷ rest)))) ≡ false
      still [] e = none (b == 42)
      still (x ∷ body) e = negated ((b == 42) && (x == 47)) e

  pub cut_skipped : (body : List ℕ) (at : ℕ) → IsTrue (no_close body) → skip lines modes.Comment at body ≡ cut_at (at + length body)
  cut_skipped [] at h = (let same : at ≡ at + 0 = omega arith in ap cut_at same)
  cut_skipped (b ∷ body) at h =
      let more : (at + 1) + length body ≡ at + suc (length body) = omega arith in
      rw (negated ((b == 42) && begins_with 47 body) (conj_left (not ((b == 42) && begins_with 47 body)) (no_close body) h)) (cut_skipped body (at + 1) (conj_right (not ((b == 42) && begins_with 47 body)) (no_close body) h) ∙ ap cut_at more)
    where
      negated : (k : Bool) → not k ≡ true → k ≡ false
      negated true e = absurd (true≢false (sym e))
      negated false e = refl

  or_true : (s : Bool) → (s || true) ≡ true
  or_true true = refl
  or_true false = refl

  or_false : (s : Bool) → (s || false) ≡ s
  or_false true = refl
  or_false false = refl

  pub gap_skipped : (gap : List ℕ) (s : Bool) → Gap lines gap s → (rest : List ℕ) (before : Bool) (at : ℕ) → skip lines (modes.Plain before) at (gap ++ rest) ≡ skip lines (modes.Plain (before || s)) (at + length gap) rest
  gap_skipped gap s spelling.Empty rest before at = (let same : at ≡ at + 0 = omega arith in ap (λ n. skip lines (modes.Plain before) n rest) same) ∙ ap (λ k. skip lines (modes.Plain k) (at + 0) rest) (sym (or_false before))
  gap_skipped gap s (spelling.Blank b inner t h g) rest before at =
      let plain = blank_plain b (conj_left (is_blank b) (not (lines && (b == 10))) h) in
      let more : (at + 1) + length inner ≡ at + suc (length inner) = omega arith in
      rw (plain.0, plain.1, h) (gap_skipped inner t g rest true (at + 1) ∙ ap (λ n. skip lines (modes.Plain true) n rest) more ∙ ap (λ k. skip lines (modes.Plain k) (at + suc (length inner)) rest) (sym (or_true before)))
  gap_skipped gap s (spelling.Join inner t g) rest before at =
      let more : ((at + 1) + 1) + length inner ≡ at + suc (suc (length inner)) = omega arith in
      gap_skipped inner t g rest before ((at + 1) + 1) ∙ ap (λ n. skip lines (modes.Plain (before || t)) n rest) more
  gap_skipped gap s (spelling.Comment body inner t h g) rest before at =
      let size : length (body ++ (42 ∷ (47 ∷ inner))) ≡ length body + suc (suc (length inner)) = length-append body (42 ∷ (47 ∷ inner)) in
      let more : ((at + 1) + 1) + length body + 2 + length inner ≡ at + suc (suc (length (body ++ (42 ∷ (47 ∷ inner))))) = omega arith in
      ap (skip lines modes.Comment ((at + 1) + 1)) (append_assoc body (42 ∷ (47 ∷ inner)) rest)
      ∙ comment_skipped body (inner ++ rest) ((at + 1) + 1) h
      ∙ gap_skipped inner t g rest true (((at + 1) + 1) + length body + 2)
      ∙ ap (λ n. skip lines (modes.Plain true) n rest) more
      ∙ ap (λ k. skip lines (modes.Plain k) (at + suc (suc (length (body ++ (42 ∷ (47 ∷ inner)))))) rest) (sym (or_true before))

  -- where no gap begins, nothing more is skipped
  pub gap_stops : (rest : List ℕ) (s : Bool) (at : ℕ) → IsTrue (not (begins_gap lines rest)) → skip lines (modes.Plain s) at rest ≡ stop_at at s
  gap_stops [] s at h = refl
  gap_stops (b ∷ rest) s at h = by ((b == 92) && begins_with 10 rest) ((b == 47) && begins_with 42 rest) (is_blank b && not (lines && (b == 10))) h
    where
      by : (x y z : Bool) → not (x || (y || z)) ≡ true → skip_on (modes.Plain s) at (λ next. skip lines next (at + 1) rest) (if x then Some (modes.Joined s) else if y then Some modes.Opening else if z then Some (modes.Plain true) else None) ≡ stop_at at s
      by true y z e = absurd (true≢false (sym e))
      by false true z e = absurd (true≢false (sym e))
      by false false true e = absurd (true≢false (sym e))
      by false false false e = refl
