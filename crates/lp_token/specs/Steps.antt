-- Steps of readers: what one that reads has read, and that it reads what stands there.
use Rattle.std.proofs.Common.{◌≡◌, ℕ, Bool, true, false, cond, List, Option, Some, None, refl, ap, ◌∙◌}
use Rattle.std.specs.Prelude.{◌==◌, bytes_eq}
use Rattle.std.proofs.lemmas.Bool.{cond-true, eqb-true, eq-eqb}
use Rattle.std.proofs.lemmas.Slice.Eq.{bytes_eq-Decides}
use Rattle.lp_token.specs.declared.token.Language.{Language}
use Rattle.lp_token.specs.Tokens.{Token, Word, Mark, Quoted, BeginsWith}
use Rattle.lp_token.specs.Reading.{◌>>=◌, token_at, behind_word, behind_mark, word_of, inside_of, word_is, mark_is, word_at, quoted_at}
use Rattle.lp_token.specs.Laws.{token_found, token_again}

abbrev found : {A : Type 0} → A → Option A
found x = Some x

-- what a step and the ones after it read
pub bind_some : {A B : Type 0} (o : Option A) (f : A → Option B) (y : B) → (o >>= f) ≡ Some y → (x : A) × (o ≡ Some x) × (f x ≡ Some y)
bind_some (Some x) f y e = (x, refl, e)
bind_some None f y e = absurd cc

-- a test that passed
pub test_some : {A : Type 0} (b : Bool) (x y : A) → cond b (Some x) None ≡ Some y → (b ≡ true) × (x ≡ y)
test_some true x y e = (refl, cc)
test_some false x y e = absurd cc

pub some_same : {A : Type 0} {x y : A} → found x ≡ Some y → x ≡ y
some_same e = cc

behind_word_found : (w : List ℕ) (t : Token) (after rest : List ℕ) → behind_word w t after ≡ Some rest → (t ≡ Word w) × (after ≡ rest)
behind_word_found w (Word v) after rest e =
    let h = test_some (bytes_eq v w) after rest e in
    (ap Word ((bytes_eq-Decides v w).0 h.0), h.1)
behind_word_found w (Mark m) after rest e = absurd cc
behind_word_found w (Quoted s) after rest e = absurd cc

behind_mark_found : (m : ℕ) (t : Token) (after rest : List ℕ) → behind_mark m t after ≡ Some rest → (t ≡ Mark m) × (after ≡ rest)
behind_mark_found m (Word v) after rest e = absurd cc
behind_mark_found m (Mark n) after rest e =
    let h = test_some (n == m) after rest e in
    (ap Mark (eqb-true n m h.0), h.1)
behind_mark_found m (Quoted s) after rest e = absurd cc

word_of_found : (t : Token) (after : List ℕ) (y : List ℕ × List ℕ) → word_of t after ≡ Some y → (t ≡ Word y.0) × (after ≡ y.1)
word_of_found (Word v) after y e = let h : (v, after) ≡ y = some_same e in (ap (λ (p : List ℕ × List ℕ). Word p.0) h, ap (λ (p : List ℕ × List ℕ). p.1) h)
word_of_found (Mark n) after y e = absurd cc
word_of_found (Quoted s) after y e = absurd cc

inside_of_found : (t : Token) (after : List ℕ) (y : List ℕ × List ℕ) → inside_of t after ≡ Some y → (t ≡ Quoted y.0) × (after ≡ y.1)
inside_of_found (Word v) after y e = absurd cc
inside_of_found (Mark n) after y e = absurd cc
inside_of_found (Quoted s) after y e = let h : (s, after) ≡ y = some_same e in (ap (λ (p : List ℕ × List ℕ). Quoted p.0) h, ap (λ (p : List ℕ × List ℕ). p.1) h)

-- a token that was read, under what its parts are known to be
begins : (l : Language) (text rest : List ℕ) (x : Token × List ℕ) (t : Token) → token_at l text ≡ Some x → x.0 ≡ t → x.1 ≡ rest → BeginsWith l t text rest
begins l text rest x t e is after = token_found l text rest t (e ∙ ap (λ (u : Token). found (u, x.1)) is ∙ ap (λ (xs : List ℕ). found (t, xs)) after)

-- ---- a word that is known

pub word_is_found : (l : Language) (w text rest : List ℕ) → word_is l w text ≡ Some rest → BeginsWith l (Word w) text rest
unfolding word_is
word_is_found l w text rest e =
    let b = bind_some (token_at l text) (λ x. behind_word w x.0 x.1) rest e in
    let p = behind_word_found w b.0.0 b.0.1 rest b.2 in
    begins l text rest b.0 (Word w) b.1 p.0 p.1

pub word_is_again : {l : Language} {w text rest : List ℕ} → BeginsWith l (Word w) text rest → word_is l w text ≡ Some rest
unfolding word_is
word_is_again {l} {w} {text} {rest} h =
    ap (λ (o : Option (Token × List ℕ)). o >>= λ x. behind_word w x.0 x.1) (token_again h) ∙ cond-true (bytes_eq w w) (Some rest) None ((bytes_eq-Decides w w).1 refl)

-- ---- a mark

pub mark_is_found : (l : Language) (m : ℕ) (text rest : List ℕ) → mark_is l m text ≡ Some rest → BeginsWith l (Mark m) text rest
unfolding mark_is
mark_is_found l m text rest e =
    let b = bind_some (token_at l text) (λ x. behind_mark m x.0 x.1) rest e in
    let p = behind_mark_found m b.0.0 b.0.1 rest b.2 in
    begins l text rest b.0 (Mark m) b.1 p.0 p.1

pub mark_is_again : {l : Language} {m : ℕ} {text rest : List ℕ} → BeginsWith l (Mark m) text rest → mark_is l m text ≡ Some rest
unfolding mark_is
mark_is_again {l} {m} {text} {rest} h =
    ap (λ (o : Option (Token × List ℕ)). o >>= λ x. behind_mark m x.0 x.1) (token_again h) ∙ cond-true (m == m) (Some rest) None (eq-eqb m m refl)

-- ---- any word

pub word_at_found : (l : Language) (text : List ℕ) (y : List ℕ × List ℕ) → word_at l text ≡ Some y → BeginsWith l (Word y.0) text y.1
unfolding word_at
word_at_found l text y e =
    let b = bind_some (token_at l text) (λ x. word_of x.0 x.1) y e in
    let p = word_of_found b.0.0 b.0.1 y b.2 in
    begins l text y.1 b.0 (Word y.0) b.1 p.0 p.1

pub word_at_again : {l : Language} {w text rest : List ℕ} → BeginsWith l (Word w) text rest → word_at l text ≡ Some (w, rest)
unfolding word_at
word_at_again h = ap (λ (o : Option (Token × List ℕ)). o >>= λ x. word_of x.0 x.1) (token_again h)

-- ---- a string

pub quoted_at_found : (l : Language) (text : List ℕ) (y : List ℕ × List ℕ) → quoted_at l text ≡ Some y → BeginsWith l (Quoted y.0) text y.1
unfolding quoted_at
quoted_at_found l text y e =
    let b = bind_some (token_at l text) (λ x. inside_of x.0 x.1) y e in
    let p = inside_of_found b.0.0 b.0.1 y b.2 in
    begins l text y.1 b.0 (Quoted y.0) b.1 p.0 p.1

pub quoted_at_again : {l : Language} {s text rest : List ℕ} → BeginsWith l (Quoted s) text rest → quoted_at l text ≡ Some (s, rest)
unfolding quoted_at
quoted_at_again h = ap (λ (o : Option (Token × List ℕ)). o >>= λ x. inside_of x.0 x.1) (token_again h)
