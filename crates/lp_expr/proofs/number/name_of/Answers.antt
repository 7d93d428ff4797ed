use Rattle.std.proofs.Common.{◌≡◌, ℕ, ◌<◌, true, List, [], ◌∷◌, Result, Ok, Err, refl, arith}
use Rattle.std.specs.Prelude.{IsTrue, IsOk, MatchResult}
use Rattle.std.specs.List.{list_all}
use Rattle.std.specs.Str.{IsAscii}
use Rattle.std.proofs.lemmas.Bool.Decides.{nat_tests}
use Rattle.std.proofs.lemmas.Str.{IsUtf8-from_ascii}
use Rattle.std.proofs.lemmas.Str.Ascii.{IsAscii-nil, IsAscii-cons}
use Rattle.lp_expr.specs.Grammar.{is_inner, is_filled}
use Rattle.lp_expr.specs.Parts.{between}
use Rattle.lp_expr.proofs.Found.{conj_left, conj_right}
use Rattle.lp_expr.proofs.number.name_of.Goals as goal

inner_small : (b : ℕ) → is_inner b ≡ true → b < 128
unfolding is_inner
inner_small b e = grind (arith, nat_tests)

ascii : (bs : List ℕ) → IsTrue (list_all is_inner bs) → IsAscii bs
ascii [] h = IsAscii-nil
ascii (b ∷ bs) h = IsAscii-cons b bs (inner_small b (conj_left (is_inner b) (list_all is_inner bs) h)) (ascii bs (conj_right (is_inner b) (list_all is_inner bs) h))

-- a test that fails only on what is no text passes on text
passes : {T E U : Type 0} (P : T → Type 0) (Q : E → Type 0) (r : Result T E) → MatchResult r P (λ e. (U → ⊥) × Q e) → U → IsOk r
passes P Q (Ok x) h u = refl
passes P Q (Err e) h u = absurd (h.0 u)

pub unwrap-requires : goal.unwrap-requires
unwrap-requires c =
    let bytes = between c.args.text.now c.args.from c.args.to in
    passes _ _ c.from_utf8.result c.from_utf8.ensures.cases (IsUtf8-from_ascii bytes (ascii bytes (conj_right (is_filled bytes) (list_all is_inner bytes) c.requires.named)))
