-- The tokens of a text stand in other texts too: the same bytes, with blanks before them.
use Rattle.std.proofs.Common.{◌≡◌, ℕ, zero, suc, ◌+◌, ◌⊎◌, inl, inr, Bool, true, false, List, [], ◌∷◌, ◌++◌, length, take, drop, Option, Some, None, refl, sym, ap, ◌∙◌, subst, arith}
use Rattle.std.specs.Prelude.{cond, not, nat_le, nat_lt, ◌*◌, ◌-◌, ◌&&◌, ◌||◌, ◌==◌, if◌then◌else◌}
use Rattle.std.specs.List.{list_all, list_any, prefix_len}
use Rattle.std.proofs.lemmas.Bool.{true≢false, and_parts, and_from}
use Rattle.std.proofs.lemmas.Bool.Decides.{nat_tests}
use Rattle.lp_text.specs.Texts.{has_text, same_text}
use Rattle.lp_verilog_tokens.specs.declared.token.Token.{Token}
use Rattle.lp_verilog_tokens.specs.declared.token.Token.TheVariants as tokens
use Rattle.lp_verilog_tokens.specs.declared.token.Keyword.TheVariants as keywords
use Rattle.lp_verilog_tokens.specs.declared.token.Mark.TheVariants as marks
use Rattle.lp_verilog_tokens.specs.declared.gap.GapMode.{GapMode}
use Rattle.lp_verilog_tokens.specs.declared.gap.GapMode.TheVariants.{Between, Opening, Within, Star}
use Rattle.lp_verilog_tokens.specs.Lexical.{is_blank, is_lead, is_digit, is_inner, is_number_byte, is_constant_byte, is_visible}
use Rattle.lp_verilog_tokens.specs.Constants.{number_of, number_behind, constant_of, constant_with, sized, fitted, base_of, are_digits, is_size, is_unknown, value_behind}
use Rattle.lp_verilog_tokens.specs.Reserved.{reserved_words, reserved_token}
use Rattle.lp_verilog_tokens.specs.Cutting.{Lexeme, Named, Plain, Front, Whole, Cut, Piece, word_lexeme, word_front, quoted_front, number_front, number_at, escaped_front, escaped_at, directive_front, mark_of, front_of, gap_step, within, closer, go_on, gap_behind, is_open, placed, piece_behind, piece_after, piece_of}
use Rattle.lp_verilog_tokens.proofs.Visible.{inner_visible, front_passes}
use Rattle.lp_verilog.proofs.Shapes.{is_small}
use Rattle.lp_verilog.proofs.Spelling.{may_stand, drop_front, lead_inner}

-- ---- what names and numbers of a text are

abbrev pub nameable : List ℕ → Bool
nameable text = list_all is_visible text && nat_lt 0 (length text)

abbrev pub fine : Lexeme → Bool
fine (Named text) = nameable text
fine (Plain (tokens.Number (Some v))) = is_small v
fine (Plain (tokens.Constant size value)) = nat_lt 0 size
fine (Plain _) = true

number_fine : (run : List ℕ) (value : ℕ) → is_small value ≡ true → fine (Plain (tokens.Number (number_behind value run))) ≡ true
number_fine [] value h = h
number_fine (b ∷ run) value h = by (is_digit b) (is_small (value * 10 + (b - 48))) refl (λ k. number_fine run (value * 10 + (b - 48)) k)
  where
    by : (s t : Bool) → is_small (value * 10 + (b - 48)) ≡ t → (is_small (value * 10 + (b - 48)) ≡ true → fine (Plain (tokens.Number (number_behind (value * 10 + (b - 48)) run))) ≡ true) → fine (Plain (tokens.Number (if s && t then number_behind (value * 10 + (b - 48)) run else None))) ≡ true
    by true true e more = more e
    by true false e more = refl
    by false t e more = refl

reserved_fine : (w : List ℕ) → fine (Plain (reserved_token w)) ≡ true
reserved_fine w = by (same_text w _) (same_text w _) (same_text w _) (same_text w _) (same_text w _) (same_text w _)
  where
    by : (a b c d e f : Bool) → fine (Plain (if a then tokens.Keyword keywords.Module else if b then tokens.Keyword keywords.EndModule else if c then tokens.Keyword keywords.Input else if d then tokens.Keyword keywords.Output else if e then tokens.Keyword keywords.Wire else if f then tokens.Keyword keywords.Assign else tokens.Foreign)) ≡ true
    by true b c d e f = refl
    by false true c d e f = refl
    by false false true d e f = refl
    by false false false true e f = refl
    by false false false false true f = refl
    by false false false false false true = refl
    by false false false false false false = refl

mark_fine : (b : ℕ) → fine (Plain (mark_of b)) ≡ true
mark_fine b = by (b == 40) (b == 41) (b == 91) (b == 93) (b == 123) (b == 125) (b == 44) (b == 59) (b == 58) (b == 46) (b == 61)
  where
    by : (t1 t2 t3 t4 t5 t6 t7 t8 t9 t10 t11 : Bool) → fine (Plain (if t1 then tokens.Mark marks.Open else if t2 then tokens.Mark marks.Close else if t3 then tokens.Mark marks.OpenBracket else if t4 then tokens.Mark marks.CloseBracket else if t5 then tokens.Mark marks.OpenBrace else if t6 then tokens.Mark marks.CloseBrace else if t7 then tokens.Mark marks.Comma else if t8 then tokens.Mark marks.Semicolon else if t9 then tokens.Mark marks.Colon else if t10 then tokens.Mark marks.Dot else if t11 then tokens.Mark marks.Equals else tokens.Broken)) ≡ true
    by true t2 t3 t4 t5 t6 t7 t8 t9 t10 t11 = refl
    by false true t3 t4 t5 t6 t7 t8 t9 t10 t11 = refl
    by false false true t4 t5 t6 t7 t8 t9 t10 t11 = refl
    by false false false true t5 t6 t7 t8 t9 t10 t11 = refl
    by false false false false true t6 t7 t8 t9 t10 t11 = refl
    by false false false false false true t7 t8 t9 t10 t11 = refl
    by false false false false false false true t8 t9 t10 t11 = refl
    by false false false false false false false true t9 t10 t11 = refl
    by false false false false false false false false true t10 t11 = refl
    by false false false false false false false false false true t11 = refl
    by false false false false false false false false false false true = refl
    by false false false false false false false false false false false = refl

fitted_fine : (size : ℕ) (o : Option ℕ) → nat_lt 0 size ≡ true → fine (Plain (fitted size o)) ≡ true
fitted_fine size None h = refl
fitted_fine size (Some value) h = by (nat_lt value _)
  where
    by : (t : Bool) → fine (Plain (if t then tokens.Constant size value else tokens.Unread)) ≡ true
    by true = h
    by false = refl

size_some : (size : ℕ) → is_size (Some size) ≡ true → nat_lt 0 size ≡ true
size_some size h = let parts = and_parts (nat_le 1 size) (nat_le size 128) h in positive size parts.0
  where
    positive : (n : ℕ) → nat_le 1 n ≡ true → nat_lt 0 n ≡ true
    positive n k = grind (arith, nat_tests)

sized_fine : (base : ℕ) (digits : List ℕ) (o : Option ℕ) → is_size o ≡ true → fine (Plain (sized base digits o)) ≡ true
sized_fine base digits None h = refl
sized_fine base digits (Some size) h = by (list_any is_unknown digits) (fitted size (value_behind base 0 digits)) (fitted_fine size (value_behind base 0 digits) (size_some size h))
  where
    by : (t : Bool) (token : Token) → fine (Plain token) ≡ true → fine (Plain (if t then tokens.Unread else token)) ≡ true
    by true token k = refl
    by false token k = k

either_fine : (t : Bool) (token : Token) → (t ≡ true → fine (Plain token) ≡ true) → fine (Plain (if t then token else tokens.Broken)) ≡ true
either_fine true token h = h refl
either_fine false token h = refl

constant_fine : (size body : List ℕ) → fine (Plain (constant_of size body)) ≡ true
constant_fine size [] = refl
constant_fine [] (b ∷ digits) = either_fine (nat_lt 0 (base_of b) && are_digits (base_of b) digits) tokens.Unread (λ e. refl)
constant_fine (d ∷ size) (b ∷ digits) =
    either_fine (nat_lt 0 (base_of b) && are_digits (base_of b) digits) (constant_with (d ∷ size) (base_of b) digits)
    (λ e. either_fine (not (d == 48) && is_size (number_of (d ∷ size))) (sized (base_of b) digits (number_of (d ∷ size))) (λ k. sized_fine (base_of b) digits (number_of (d ∷ size)) (and_parts (not (d == 48)) (is_size (number_of (d ∷ size))) k).1))

word_fine : (b : ℕ) (w : List ℕ) → list_all is_inner (b ∷ w) ≡ true → fine (word_lexeme (b ∷ w)) ≡ true
word_fine b w h = by (has_text (b ∷ w) reserved_words)
  where
    some : nat_lt 0 (length (b ∷ w)) ≡ true
    some = grind (arith, nat_tests)

    by : (t : Bool) → fine (if t then Plain (reserved_token (b ∷ w)) else Named (b ∷ w)) ≡ true
    by true = reserved_fine (b ∷ w)
    by false = and_from (list_all is_visible (b ∷ w)) (nat_lt 0 (length (b ∷ w))) (inner_visible (b ∷ w) h) some

abbrev pub front_is_fine : Front → Bool
front_is_fine (Whole size lexeme) = fine lexeme
front_is_fine Cut = true

number_front_fine : (n : ℕ) (run rest : List ℕ) → front_is_fine (number_front n run rest) ≡ true
number_front_fine n run [] = number_fine run 0 refl
number_front_fine n run (b ∷ rest) = by (b == 39)
  where
    by : (t : Bool) → front_is_fine (if t then quoted_front n run rest else Whole n (Plain (tokens.Number (number_of run)))) ≡ true
    by true = constant_fine run (take (prefix_len is_constant_byte rest) rest)
    by false = number_fine run 0 refl

escaped_fine : (n : ℕ) (rest ys : List ℕ) → list_all is_visible (take n rest) ≡ true → nat_lt 0 n ≡ nat_lt 0 (length (take n rest)) → front_is_fine (escaped_front n (take n rest) ys) ≡ true
escaped_fine n rest [] h same = refl
escaped_fine n rest (b ∷ ys) h same = by (is_blank b) (nat_lt 0 n) refl
  where
    by : (s t : Bool) → nat_lt 0 n ≡ t → front_is_fine (if s && t then Whole (n + 1) (Named (take n rest)) else Whole 1 (Plain tokens.Broken)) ≡ true
    by true true e = and_from (list_all is_visible (take n rest)) (nat_lt 0 (length (take n rest))) h (sym same ∙ e)
    by true false e = refl
    by false t e = refl

some_taken : (p : ℕ → Bool) (rest : List ℕ) → nat_lt 0 (prefix_len p rest) ≡ nat_lt 0 (length (take (prefix_len p rest) rest))
some_taken p [] = refl
some_taken p (b ∷ rest) = by (p b)
  where
    by : (t : Bool) → nat_lt 0 (cond t (1 + prefix_len p rest) 0) ≡ nat_lt 0 (length (take (cond t (1 + prefix_len p rest) 0) (b ∷ rest)))
    by true =
        let next : 1 + prefix_len p rest ≡ suc (prefix_len p rest) = omega arith in
        rw next (both_some (prefix_len p rest) (length (take (prefix_len p rest) rest)))
      where
        both_some : (x y : ℕ) → nat_lt 0 (suc x) ≡ nat_lt 0 (suc y)
        both_some x y = grind (arith, nat_tests)
    by false = refl

directive_fine : (rest : List ℕ) → front_is_fine (directive_front rest) ≡ true
directive_fine [] = refl
directive_fine (b ∷ rest) = by (is_lead b)
  where
    by : (t : Bool) → front_is_fine (if t then Whole (prefix_len is_inner (b ∷ rest) + 1) (Plain tokens.Foreign) else Whole 1 (Plain tokens.Broken)) ≡ true
    by true = refl
    by false = refl

word_front_fine : (b : ℕ) (rest : List ℕ) → is_lead b ≡ true → front_is_fine (word_front (b ∷ rest)) ≡ true
word_front_fine b rest lead =
    let inner = lead_inner b lead in
    let next : 1 + prefix_len is_inner rest ≡ suc (prefix_len is_inner rest) = omega arith in
    rw (inner, next) (word_fine b (take (prefix_len is_inner rest) rest) (and_from (is_inner b) (list_all is_inner (take (prefix_len is_inner rest) rest)) inner (front_passes is_inner rest)))

pub all_fine : (b : ℕ) (rest : List ℕ) → front_is_fine (front_of b rest) ≡ true
all_fine b rest = by (is_lead b) refl (is_digit b) (b == 39) (b == 92) (b == 96)
  where
    by : (t1 : Bool) → is_lead b ≡ t1 → (t2 t3 t4 t5 : Bool) → front_is_fine (if t1 then word_front (b ∷ rest) else if t2 then number_at (b ∷ rest) else if t3 then quoted_front 0 [] rest else if t4 then escaped_at rest else if t5 then directive_front rest else Whole 1 (Plain (mark_of b))) ≡ true
    by true e t2 t3 t4 t5 = word_front_fine b rest e
    by false e true t3 t4 t5 = number_front_fine (prefix_len is_number_byte (b ∷ rest)) (take (prefix_len is_number_byte (b ∷ rest)) (b ∷ rest)) (drop (prefix_len is_number_byte (b ∷ rest)) (b ∷ rest))
    by false e false true t4 t5 = constant_fine [] (take (prefix_len is_constant_byte rest) rest)
    by false e false false true t5 = escaped_fine (prefix_len is_visible rest) rest (drop (prefix_len is_visible rest) rest) (front_passes is_visible rest) (some_taken is_visible rest)
    by false e false false false true = directive_fine rest
    by false e false false false false = mark_fine b

-- ---- gaps

step_none : (mode : GapMode) (b : ℕ) (rest : List ℕ) → gap_step mode b rest ≡ None → (f : Bool) × (mode ≡ Between f)
step_none (Between f) b rest e = (f, refl)
step_none (Opening inside) b rest e = absurd cc
step_none (Within inside) b rest e = absurd cc
step_none (Star inside) b rest e = by (b == closer inside) e
  where
    by : (t : Bool) → (if t then Some (Between false) else Some (within inside b)) ≡ None → (f : Bool) × (Star inside ≡ Between f)
    by true h = absurd cc
    by false h = absurd cc

-- what stands behind a gap
pub record Gap (xs : List ℕ) (n g : ℕ) : Type 0 where
  pub count : ℕ
  pub is : g ≡ n + count
  pub left : (drop count xs ≡ []) ⊎ ((f : Bool) × (b : ℕ) × (rest : List ℕ) × (drop count xs ≡ b ∷ rest) × (gap_step (Between f) b rest ≡ None))

gap_stop : (mode : GapMode) (n : ℕ) (xs : List ℕ) (g : ℕ) → gap_behind mode n xs ≡ Some g → Gap xs n g
gap_stop mode n [] g e = by (is_open mode) e
  where
    by : (t : Bool) → (if t then None else Some n) ≡ Some g → Gap [] n g
    by true h = absurd cc
    by false h = let same : n ≡ g = cc in record { count = 0; is = sym same ∙ omega arith; left = inl refl }
gap_stop mode n (b ∷ xs) g e = by (gap_step mode b xs) refl e (λ m h. gap_stop m (n + 1) xs g h)
  where
    by : (o : Option GapMode) → gap_step mode b xs ≡ o → go_on n (λ m. gap_behind m (n + 1) xs) o ≡ Some g → ((m : GapMode) → gap_behind m (n + 1) xs ≡ Some g → Gap xs (n + 1) g) → Gap (b ∷ xs) n g
    by None s h more =
        let same : n ≡ g = cc in
        let between = step_none mode b xs s in
        record { count = 0; is = sym same ∙ omega arith; left = inr (between.0, b, xs, refl, subst (λ m. gap_step m b xs ≡ None) between.1 s) }
    by (Some m) s h more =
        let k = more m h in
        let is = k.is in
        record { count = suc k.count; is = omega (arith, is); left = k.left }

-- ---- pieces

-- how a piece stands in a text
pub record Stands (rest : List ℕ) (p : Piece) : Type 0 where
  pub fresh : Bool
  pub first : ℕ
  pub more : List ℕ
  pub there : drop p.gap rest ≡ first ∷ more
  pub none : gap_step (Between fresh) first more ≡ None
  pub front : front_of first more ≡ Whole p.size p.lexeme

cut_bad : (p : Piece) (end gap : ℕ) → may_stand p.lexeme ≡ true → Some (placed end gap Cut) ≡ Some p → ⊥
cut_bad p end gap stands e =
    let same : placed end gap Cut ≡ p = cc in
    absurd (true≢false (sym stands ∙ ap (λ (q : Piece). may_stand q.lexeme) (sym same)))

pub stands_if : (fresh : Bool) (rest : List ℕ) (p : Piece) → piece_of fresh rest ≡ Some p → ((end gap : ℕ) → Some (placed end gap Cut) ≡ Some p → ⊥) → Stands rest p
stands_if fresh rest p e whole_token = by (gap_behind (Between fresh) 0 rest) refl e
  where
    whole : (g : ℕ) (f : Bool) (b : ℕ) (more : List ℕ) → drop g rest ≡ b ∷ more → gap_step (Between f) b more ≡ None → (front : Front) → front_of b more ≡ front → Some (placed (length rest) g front) ≡ Some p → Stands rest p
    whole g f b more there none Cut at h = absurd (whole_token (length rest) g h)
    whole g f b more there none (Whole size lexeme) at h =
        let same : placed (length rest) g (Whole size lexeme) ≡ p = cc in
        subst (Stands rest) same (record { fresh = f; first = b; more = more; there = there; none = none; front = at })

    at_gap : (g : ℕ) → Gap rest 0 g → piece_behind (length rest) g (drop g rest) ≡ Some p → Stands rest p
    at_gap g k h = elim k.left [
      | inl end ↦ (let is : drop g rest ≡ [] = ap (λ i. drop i rest) (k.is ∙ omega arith) ∙ end in let no_piece : None ≡ Some p = ap (piece_behind (length rest) g) (sym is) ∙ h in absurd cc)
      | inr at ↦ (let is : drop g rest ≡ at.1 ∷ at.2 = ap (λ i. drop i rest) (k.is ∙ omega arith) ∙ at.3 in whole g at.0 at.1 at.2 is at.4 (front_of at.1 at.2) refl (ap (piece_behind (length rest) g) (sym is) ∙ h))
    ]

    by : (o : Option ℕ) → gap_behind (Between fresh) 0 rest ≡ o → piece_after rest o ≡ Some p → Stands rest p
    by None s h = absurd (whole_token (length rest) 0 h)
    by (Some g) s h = at_gap g (gap_stop (Between fresh) 0 rest g s) h

pub stands_there : (fresh : Bool) (rest : List ℕ) (p : Piece) → piece_of fresh rest ≡ Some p → may_stand p.lexeme ≡ true → Stands rest p
stands_there fresh rest p e stands = stands_if fresh rest p e (λ end gap. cut_bad p end gap stands)

-- a piece that stands has bytes of its own
pub piece_fine : (rest : List ℕ) (p : Piece) → Stands rest p → fine p.lexeme ≡ true
piece_fine rest p s = sym (ap front_is_fine s.front) ∙ all_fine s.first s.more

abbrev pub blanks : ℕ → List ℕ
blanks zero = []
blanks (suc g) = 32 ∷ blanks g

blank_goes : (f : Bool) (xs : List ℕ) → gap_step (Between f) 32 xs ≡ Some (Between (f || false))
unfolding is_blank
blank_goes f xs = refl

gap_blanks : (g n : ℕ) (f : Bool) (b : ℕ) (xs : List ℕ) → ((h : Bool) → gap_step (Between h) b xs ≡ None) → gap_behind (Between f) n (blanks g ++ b ∷ xs) ≡ Some (n + g)
gap_blanks zero n f b xs none = ap (go_on n (λ m. gap_behind m (n + 1) xs)) (none f) ∙ ap Some (omega arith)
gap_blanks (suc g) n f b xs none = ap (go_on n (λ m. gap_behind m (n + 1) (blanks g ++ b ∷ xs))) (blank_goes f (blanks g ++ b ∷ xs)) ∙ gap_blanks g (n + 1) (f || false) b xs none ∙ ap Some (omega arith)

pub blanks_length : (g : ℕ) → length (blanks g) ≡ g
blanks_length zero = refl
blanks_length (suc g) = let more = blanks_length g in omega (arith, more)

pub drop_blanks : (g : ℕ) (xs : List ℕ) → drop g (blanks g ++ xs) ≡ xs
drop_blanks g xs = ap (λ n. drop n (blanks g ++ xs)) (sym (blanks_length g)) ∙ drop_front (blanks g) xs

-- a token behind blanks
pub made_piece : (f : Bool) (g b size : ℕ) (xs : List ℕ) (lexeme : Lexeme) → ((h : Bool) → gap_step (Between h) b xs ≡ None) → front_of b xs ≡ Whole size lexeme → piece_of f (blanks g ++ b ∷ xs) ≡ Some (record { gap = g; size = size; lexeme = lexeme })
made_piece f g b size xs lexeme none front =
    let text = blanks g ++ b ∷ xs in
    ap (piece_after text) (gap_blanks g 0 f b xs none ∙ ap Some (omega arith))
    ∙ ap (piece_behind (length text) g) (drop_blanks g (b ∷ xs))
    ∙ ap (λ y. Some (placed (length text) g y)) front
