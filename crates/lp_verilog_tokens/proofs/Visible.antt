-- Names are visible bytes.
use Rattle.std.proofs.Common.{◌≡◌, ℕ, suc, ◌+◌, ◌<◌, Bool, true, false, List, [], ◌∷◌, take, Result, Ok, Err, refl, arith}
use Rattle.std.specs.Prelude.{IsTrue, IsOk, MatchResult, cond}
use Rattle.std.specs.List.{list_all, prefix_len}
use Rattle.std.specs.Str.{IsAscii}
use Rattle.std.proofs.lemmas.Bool.{and_parts, and_from}
use Rattle.std.proofs.lemmas.Bool.Decides.{nat_tests}
use Rattle.std.proofs.lemmas.Str.Ascii.{IsAscii-nil, IsAscii-cons}
use Rattle.lp_verilog_tokens.specs.Lexical.{is_inner, is_visible}

inner_one : (b : ℕ) → is_inner b ≡ true → is_visible b ≡ true
unfolding is_inner
inner_one b e = grind (arith, nat_tests)

pub inner_visible : (w : List ℕ) → IsTrue (list_all is_inner w) → IsTrue (list_all is_visible w)
inner_visible [] h = refl
inner_visible (b ∷ w) h =
    let parts = and_parts (is_inner b) (list_all is_inner w) h in
    and_from (is_visible b) (list_all is_visible w) (inner_one b parts.0) (inner_visible w parts.1)

-- the front that passes a test passes it
pub front_passes : (p : ℕ → Bool) (xs : List ℕ) → IsTrue (list_all p (take (prefix_len p xs) xs))
front_passes p [] = refl
front_passes p (x ∷ xs) = by (p x) refl (front_passes p xs)
  where
    by : (t : Bool) → p x ≡ t → IsTrue (list_all p (take (prefix_len p xs) xs)) → IsTrue (list_all p (take (cond t (1 + prefix_len p xs) 0) (x ∷ xs)))
    by true e more = let next : 1 + prefix_len p xs ≡ suc (prefix_len p xs) = omega arith in rw next (and_from (p x) (list_all p (take (prefix_len p xs) xs)) e more)
    by false e more = refl

visible_small : (b : ℕ) → is_visible b ≡ true → b < 128
visible_small b e = grind (arith, nat_tests)

pub visible_ascii : (bs : List ℕ) → IsTrue (list_all is_visible bs) → IsAscii bs
visible_ascii [] h = IsAscii-nil
visible_ascii (b ∷ bs) h =
    let parts = and_parts (is_visible b) (list_all is_visible bs) h in
    IsAscii-cons b bs (visible_small b parts.0) (visible_ascii bs parts.1)

-- a test that fails only on what is no text passes on text
pub passes : {T E U : Type 0} (P : T → Type 0) (Q : E → Type 0) (r : Result T E) → MatchResult r P (λ e. (U → ⊥) × Q e) → U → IsOk r
passes P Q (Ok x) h u = refl
passes P Q (Err e) h u = absurd (h.0 u)
