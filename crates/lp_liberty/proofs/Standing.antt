-- Each text begins with a token, or has none.
use Rattle.std.proofs.Common.{◌≡◌, ℕ, zero, suc, ◌+◌, ◌≤◌, ◌==◌, Bool, true, false, not, List, [], ◌∷◌, ◌++◌, ◌&&◌, ◌||◌, length, length-append, length-drop, drop, Option, Some, None, refl, sym, ap, ◌∙◌, subst, arith, append_assoc}
use Rattle.std.specs.Prelude.{if◌then◌else◌, IsTrue}
use Rattle.std.proofs.lemmas.Bool.{true≢false, eqb-true}
use Rattle.lp_liberty.specs.declared.mark.Mark.TheVariants as marks
use Rattle.lp_liberty.specs.declared.mark.Context.{Context}
use Rattle.lp_liberty.specs.declared.lexed.Lexed.{Lexed}
use Rattle.lp_liberty.specs.Grammar.{Token, Sign}
use Rattle.lp_liberty.specs.Lexing.{begins_with, is_blank, goes_on, is_word, is_args, is_items, lexed_at, mark_of}
use Rattle.lp_liberty.specs.Tokens.{Placed, behind, placed, listed, token_of, tokens_from}
use Rattle.lp_liberty.specs.Spelling as spelling
use Rattle.lp_liberty.specs.Spelling.{no_close, Gap, begins_gap, ends_word, is_run, are_escaped, escapes, name_token, Front, First, Listed}
use Rattle.lp_liberty.proofs.Joined.{both, conj_left, conj_right}
use Rattle.lp_liberty.proofs.Gaps.{begins_is}
use Rattle.lp_liberty.proofs.Fronts.{first_says}

-- ---- comments

data Closes : List ℕ → Type 0 where
  Closed : (body rest : List ℕ) → IsTrue (no_close body) → Closes (body ++ (42 ∷ (47 ∷ rest)))
  Unclosed : (text : List ℕ) → IsTrue (no_close text) → Closes text

affirmed : (k : Bool) → k ≡ false → not k ≡ true
affirmed true e = absurd (true≢false e)
affirmed false e = refl

closes : (text : List ℕ) → Closes text
closes [] = Unclosed [] refl
closes (b ∷ rest) = by ((b == 42) && begins_with 47 rest) refl (closes rest)
  where
    still : (body more : List ℕ) → ((b == 42) && begins_with 47 (body ++ (42 ∷ (47 ∷ more)))) ≡ false → ((b == 42) && begins_with 47 body) ≡ false
    still [] more e = none (b == 42)
      where
        none : (k : Bool) → (k && false) ≡ false
        none true = refl
        none false = refl
    still (x ∷ body) more e = e

    longer : (text : List ℕ) → Closes text → ((b == 42) && begins_with 47 text) ≡ false → Closes (b ∷ text)
    longer text (Closed body more h) e = Closed (b ∷ body) more (both (not ((b == 42) && begins_with 47 body)) (no_close body) (affirmed ((b == 42) && begins_with 47 body) (still body more e)) h)
    longer text (Unclosed open_text h) e = Unclosed (b ∷ open_text) (both (not ((b == 42) && begins_with 47 open_text)) (no_close open_text) (affirmed ((b == 42) && begins_with 47 open_text) e) h)

    by : (k : Bool) → ((b == 42) && begins_with 47 rest) ≡ k → Closes rest → Closes (b ∷ rest)
    by true e more =
        let star : b ≡ 42 = eqb-true b 42 (conj_left (b == 42) (begins_with 47 rest) e) in
        let slash = begins_is 47 rest (conj_right (b == 42) (begins_with 47 rest) e) in
        subst (λ (x : ℕ). Closes (x ∷ rest)) (sym star) (subst (λ (xs : List ℕ). Closes (42 ∷ xs)) (sym slash.1) (Closed [] slash.0 refl))
    by false e more = longer rest more e

-- ---- gaps

data Splits (lines : Bool) : List ℕ → Type 0 where
  Stops : (gap rest : List ℕ) (s : Bool) → Gap lines gap s → IsTrue (not (begins_gap lines rest)) → Splits lines (gap ++ rest)
  Opens : (gap body : List ℕ) (s : Bool) → Gap lines gap s → IsTrue (no_close body) → Splits lines (gap ++ (47 ∷ (42 ∷ body)))

module _ (lines : Bool) where
  blank_more : (b : ℕ) (text : List ℕ) → IsTrue (is_blank b && not (lines && (b == 10))) → Splits lines text → Splits lines (b ∷ text)
  blank_more b text h (Stops gap rest s g n) = Stops (b ∷ gap) rest true (spelling.Blank b gap s h g) n
  blank_more b text h (Opens gap body s g n) = Opens (b ∷ gap) body true (spelling.Blank b gap s h g) n

  join_more : (text : List ℕ) → Splits lines text → Splits lines (92 ∷ (10 ∷ text))
  join_more text (Stops gap rest s g n) = Stops (92 ∷ (10 ∷ gap)) rest s (spelling.Join gap s g) n
  join_more text (Opens gap body s g n) = Opens (92 ∷ (10 ∷ gap)) body s (spelling.Join gap s g) n

  comment_more : (inner : List ℕ) → IsTrue (no_close inner) → (text : List ℕ) → Splits lines text → Splits lines (47 ∷ (42 ∷ (inner ++ (42 ∷ (47 ∷ text)))))
  comment_more inner h text (Stops gap rest s g n) = subst (Splits lines) (ap (λ xs. 47 ∷ (42 ∷ xs)) (append_assoc inner (42 ∷ (47 ∷ gap)) rest)) (Stops (47 ∷ (42 ∷ (inner ++ (42 ∷ (47 ∷ gap))))) rest true (spelling.Comment inner gap s h g) n)
  comment_more inner h text (Opens gap body s g n) = subst (Splits lines) (ap (λ xs. 47 ∷ (42 ∷ xs)) (append_assoc inner (42 ∷ (47 ∷ gap)) (47 ∷ (42 ∷ body)))) (Opens (47 ∷ (42 ∷ (inner ++ (42 ∷ (47 ∷ gap))))) body true (spelling.Comment inner gap s h g) n)

  splits : (n : ℕ) (text : List ℕ) → length text ≤ n → Splits lines text
  splits n [] h = Stops [] [] false spelling.Empty refl
  splits zero (b ∷ rest) h = absurd (omega arith)
  splits (suc n) (b ∷ rest) h = by ((b == 92) && begins_with 10 rest) refl ((b == 47) && begins_with 42 rest) refl (is_blank b && not (lines && (b == 10))) refl (λ text small. splits n text small)
    where
      commented : (text : List ℕ) → Closes text → length text ≤ n → ((more : List ℕ) → length more ≤ n → Splits lines more) → Splits lines (47 ∷ (42 ∷ text))
      commented text (Closed body more c) small rec = comment_more body c more (rec more (let size : length (body ++ (42 ∷ (47 ∷ more))) ≡ length body + suc (suc (length more)) = length-append body (42 ∷ (47 ∷ more)) in omega arith))
      commented text (Unclosed open_text c) small rec = Opens [] open_text false spelling.Empty c

      by : (x : Bool) → ((b == 92) && begins_with 10 rest) ≡ x → (y : Bool) → ((b == 47) && begins_with 42 rest) ≡ y → (z : Bool) → (is_blank b && not (lines && (b == 10))) ≡ z → ((text : List ℕ) → length text ≤ n → Splits lines text) → Splits lines (b ∷ rest)
      by true e y f z g rec =
          let feed = begins_is 10 rest (conj_right (b == 92) (begins_with 10 rest) e) in
          let size : length rest ≡ suc (length feed.0) = ap length feed.1 in
          subst (λ (x : ℕ). Splits lines (x ∷ rest)) (sym (eqb-true b 92 (conj_left (b == 92) (begins_with 10 rest) e))) (subst (λ (xs : List ℕ). Splits lines (92 ∷ xs)) (sym feed.1) (join_more feed.0 (rec feed.0 (omega arith))))
      by false e true f z g rec =
          let star = begins_is 42 rest (conj_right (b == 47) (begins_with 42 rest) f) in
          let size : length rest ≡ suc (length star.0) = ap length star.1 in
          subst (λ (x : ℕ). Splits lines (x ∷ rest)) (sym (eqb-true b 47 (conj_left (b == 47) (begins_with 42 rest) f))) (subst (λ (xs : List ℕ). Splits lines (47 ∷ xs)) (sym star.1) (commented star.0 (closes star.0) (omega arith) rec))
      by false e false f true g rec = blank_more b rest g (rec rest (omega arith))
      by false e false f false g rec = Stops [] (b ∷ rest) false spelling.Empty (rw (e, f, g) refl)

-- ---- words and strings

data Runs (in_args joining : Bool) : List ℕ → Type 0 where
  Run : (raw rest : List ℕ) → IsTrue (is_run in_args joining raw rest) → Runs in_args joining (raw ++ rest)

runs : (in_args joining : Bool) (text : List ℕ) → Runs in_args joining text
runs in_args joining [] = Run [] [] refl
runs in_args joining (b ∷ rest) = by (goes_on in_args joining b rest) refl (runs in_args (b == 92) rest)
  where
    more : (text : List ℕ) → Runs in_args (b == 92) text → goes_on in_args joining b text ≡ true → Runs in_args joining (b ∷ text)
    more text (Run raw behind h) e = Run (b ∷ raw) behind (both (goes_on in_args joining b (raw ++ behind)) (is_run in_args (b == 92) raw behind) e h)

    by : (k : Bool) → goes_on in_args joining b rest ≡ k → Runs in_args (b == 92) rest → Runs in_args joining (b ∷ rest)
    by true e r = more rest r e
    by false e r = Run [] (b ∷ rest) (affirmed (goes_on in_args joining b rest) e)

data Strings (escaped : Bool) : List ℕ → Type 0 where
  Ends : (inside rest : List ℕ) → IsTrue (are_escaped escaped inside) → IsTrue (not (escapes escaped inside)) → Strings escaped (inside ++ (34 ∷ rest))
  CutOff : (inside : List ℕ) → IsTrue (are_escaped escaped inside) → Strings escaped inside

strings : (escaped : Bool) (text : List ℕ) → Strings escaped text
strings escaped [] = CutOff [] refl
strings escaped (b ∷ rest) = by ((b == 34) && not escaped) refl (strings (b == 92) rest)
  where
    more : (text : List ℕ) → Strings (b == 92) text → ((b == 34) && not escaped) ≡ false → Strings escaped (b ∷ text)
    more text (Ends inside behind h n) e = Ends (b ∷ inside) behind (both (not ((b == 34) && not escaped)) (are_escaped (b == 92) inside) (affirmed ((b == 34) && not escaped) e) h) n
    more text (CutOff inside h) e = CutOff (b ∷ inside) (both (not ((b == 34) && not escaped)) (are_escaped (b == 92) inside) (affirmed ((b == 34) && not escaped) e) h)

    by : (k : Bool) → ((b == 34) && not escaped) ≡ k → Strings (b == 92) rest → Strings escaped (b ∷ rest)
    by true e s = subst (λ (x : ℕ). Strings escaped (x ∷ rest)) (sym (eqb-true b 34 (conj_left (b == 34) (not escaped) e))) (Ends [] rest refl (conj_right (b == 34) (not escaped) e))
    by false e s = more rest s e

-- ---- one token

-- a token has bytes
abbrev Consumes : List ℕ → ℕ → Option Token → Type 0
Consumes text size None = Unit {0}
Consumes text size (Some t) = 1 ≤ size

abbrev HasFront : Context → Bool → List ℕ → Type 0
HasFront c gap text = (size : ℕ) × (token : Option Token) × Front c gap text size token × Consumes text size token

string_front : (c : Context) (gap : Bool) (text : List ℕ) → Strings false text → HasFront c gap (34 ∷ text)
string_front c gap text (Ends inside rest h n) = (length inside + 2, Some (name_token c gap true inside), spelling.Quoted inside rest h n, omega arith)
string_front c gap text (CutOff inside h) = (length inside + 1, Some (name_token c gap true inside), spelling.Cut inside h, omega arith)

word_front : (c : Context) (gap : Bool) (b : ℕ) (text : List ℕ) → (b == 34) ≡ false → is_word (is_args c) b ≡ true → goes_on (is_args c) false b text ≡ true → Runs (is_args c) (b == 92) text → HasFront c gap (b ∷ text)
word_front c gap b text q w e (Run raw rest h) = (length (b ∷ raw), Some (name_token c gap false (b ∷ raw)), spelling.Word b raw rest (affirmed (b == 34) q) w (both (goes_on (is_args c) false b (raw ++ rest)) (is_run (is_args c) (b == 92) raw rest) e h), omega arith)

-- a byte of a word where no comment begins goes on
begins_word : (in_args lines : Bool) (b : ℕ) (rest : List ℕ) → is_word in_args b ≡ true → IsTrue (not (begins_gap lines (b ∷ rest))) → goes_on in_args false b rest ≡ true
begins_word in_args lines b rest w h = ap (λ (k : Bool). if k then not ((b == 47) && begins_with 42 rest) else false) w ∙ by ((b == 92) && begins_with 10 rest) ((b == 47) && begins_with 42 rest) (is_blank b && not (lines && (b == 10))) h
  where
    by : (x y z : Bool) → not (x || (y || z)) ≡ true → not y ≡ true
    by true y z e = absurd (true≢false (sym e))
    by false true z e = absurd (true≢false (sym e))
    by false false z e = refl

front : (c : Context) (gap : Bool) (text : List ℕ) → IsTrue (not (begins_gap (is_items c) text)) → HasFront c gap text
front c gap [] h = (0, None, spelling.Ended, tt)
front c gap (b ∷ rest) h = by (b == 34) refl (is_word (is_args c) b) refl
  where
    by : (q : Bool) → (b == 34) ≡ q → (w : Bool) → is_word (is_args c) b ≡ w → HasFront c gap (b ∷ rest)
    by true e w f = subst (λ (x : ℕ). HasFront c gap (x ∷ rest)) (sym (eqb-true b 34 e)) (string_front c gap rest (strings false rest))
    by false e true f = word_front c gap b rest e f (begins_word (is_args c) (is_items c) b rest f h) (runs (is_args c) (b == 92) rest)
    by false e false f = (1, Some (Sign (mark_of b)), spelling.Marked b rest (affirmed (b == 34) e) (affirmed (is_word (is_args c) b) f), omega arith)

-- the first token, and that a token takes bytes
abbrev HasFirst : Context → List ℕ → Type 0
HasFirst c text = (start size : ℕ) × (token : Option Token) × First c text start size token × Consumes text (start + size) token

first : (c : Context) (text : List ℕ) → HasFirst c text
first c text = by text (splits (is_items c) (length text) text (omega arith))
  where
    more : (start size : ℕ) (token : Option Token) (whole : List ℕ) → Consumes whole size token → Consumes whole (start + size) token
    more start size None whole h = tt
    more start size (Some t) whole h = omega arith

    by : (whole : List ℕ) → Splits (is_items c) whole → HasFirst c whole
    by whole (Stops gap rest s g n) =
        let f = front c s rest n in
        (length gap, f.0, f.1, spelling.Behind gap rest s f.0 f.1 g n f.2, more (length gap) f.0 f.1 (gap ++ rest) (of f.1 f.0 f.3))
      where
        of : (o : Option Token) (size : ℕ) → Consumes rest size o → Consumes (gap ++ rest) size o
        of None size h = tt
        of (Some t) size h = h
    by whole (Opens gap body s g n) =
        let size : length (gap ++ (47 ∷ (42 ∷ body))) ≡ length gap + suc (suc (length body)) = length-append gap (47 ∷ (42 ∷ body)) in
        (length (gap ++ (47 ∷ (42 ∷ body))), 0, Some (Sign marks.Broken), spelling.InComment gap body s g n, omega arith)

-- ---- all tokens

-- each text has its first token where it is read
pub found_first : (c : Context) (text : List ℕ) → First c text (lexed_at c text).start (lexed_at c text).size (token_of text (lexed_at c text) (lexed_at c text).sort) × Consumes text ((lexed_at c text).start + (lexed_at c text).size) (token_of text (lexed_at c text) (lexed_at c text).sort)
found_first c text =
    let f = first c text in
    let s = first_says c text f.0 f.1 f.2 f.3 in
    rw (s.starts, s.sizes, s.tokens) (f.3, f.4)

pub found_tokens : (k : ℕ) (c : Context) (at : ℕ) (text : List ℕ) → length text ≤ k → Listed c at text (tokens_from k c at text)
found_tokens zero c at [] h = let f = found_first c [] in spelling.Done c at [] (lexed_at c []).start (lexed_at c []).size f.0
found_tokens zero c at (b ∷ text) h = absurd (omega arith)
found_tokens (suc k) c at text h =
    let f = found_first c text in
    by (token_of text l l.sort) f.0 f.1 (λ c2 at2 small. found_tokens k c2 at2 (drop (l.start + l.size) text) small)
  where
    l : Lexed
    l = lexed_at c text

    by : (o : Option Token) → First c text l.start l.size o → Consumes text (l.start + l.size) o → ((c2 : Context) (at2 : ℕ) → length (drop (l.start + l.size) text) ≤ k → Listed c2 at2 (drop (l.start + l.size) text) (tokens_from k c2 at2 (drop (l.start + l.size) text)))
        → Listed c at text (listed (λ t. placed at l t ∷ tokens_from k (behind c t) (at + (l.start + l.size)) (drop (l.start + l.size) text)) o)
    by None f n more = spelling.Done c at text l.start l.size f
    by (Some t) f n more =
        let size = length-drop (l.start + l.size) text in
        spelling.More c at text l.start l.size t (tokens_from k (behind c t) (at + (l.start + l.size)) (drop (l.start + l.size) text)) f (more (behind c t) (at + (l.start + l.size)) (omega arith))

same_first : (c : Context) (text : List ℕ) (s1 n1 : ℕ) (o1 : Option Token) (s2 n2 : ℕ) (o2 : Option Token) → First c text s1 n1 o1 → First c text s2 n2 o2 → (s1 ≡ s2) × (n1 ≡ n2) × (o1 ≡ o2)
same_first c text s1 n1 o1 s2 n2 o2 a b =
    let x = first_says c text s1 n1 o1 a in
    let y = first_says c text s2 n2 o2 b in
    (sym x.starts ∙ y.starts, sym x.sizes ∙ y.sizes, sym x.tokens ∙ y.tokens)

-- what stands behind the same token is the same
listing_more : (c : Context) (at : ℕ) (text : List ℕ) (s n : ℕ) (t : Token) (tokens : List Placed) → First c text s n (Some t) → (b : List Placed) → Listed c at text b
    → ((rest : List Placed) → Listed (behind c t) (at + (s + n)) (drop (s + n) text) rest → tokens ≡ rest) → record { at = at + s; size = n; token = t } ∷ tokens ≡ b
listing_more c at text s n t tokens f b (spelling.Done c2 at2 text2 s2 n2 f2) rec = let none : Some t ≡ None = (same_first c text s n (Some t) s2 n2 None f f2).2 in absurd cc
listing_more c at text s n t tokens f b (spelling.More c2 at2 text2 s2 n2 t2 tokens2 f2 more2) rec =
    let e = same_first c text s n (Some t) s2 n2 (Some t2) f f2 in
    let token : Some t ≡ Some t2 = e.2 in
    let same : t ≡ t2 = cc in
    let moved : Listed (behind c t) (at + (s + n)) (drop (s + n) text) tokens2 =
    subst (λ (x : Token). Listed (behind c x) (at + (s + n)) (drop (s + n) text) tokens2) (sym same)
    (subst (λ (k : ℕ). Listed (behind c t2) (at + (k + n)) (drop (k + n) text) tokens2) (sym e.0)
    (subst (λ (k : ℕ). Listed (behind c t2) (at + (s2 + k)) (drop (s2 + k) text) tokens2) (sym e.1) more2)) in
    ap (λ rest. record { at = at + s; size = n; token = t } ∷ rest) (rec tokens2 moved)
    ∙ ap (λ k. record { at = at + k; size = n; token = t } ∷ tokens2) e.0
    ∙ ap (λ k. record { at = at + s2; size = k; token = t } ∷ tokens2) e.1
    ∙ ap (λ x. record { at = at + s2; size = n2; token = x } ∷ tokens2) same

pub one_listing : (c : Context) (at : ℕ) (text : List ℕ) (a b : List Placed) → Listed c at text a → Listed c at text b → a ≡ b
one_listing c at text a b (spelling.Done c1 at1 text1 s n f) (spelling.Done c2 at2 text2 s2 n2 f2) = refl
one_listing c at text a b (spelling.Done c1 at1 text1 s n f) (spelling.More c2 at2 text2 s2 n2 t tokens f2 more) = let none : None ≡ Some t = (same_first c text s n None s2 n2 (Some t) f f2).2 in absurd cc
one_listing c at text a b (spelling.More c1 at1 text1 s n t tokens f more) y = listing_more c at text s n t tokens f b y (λ rest l. one_listing (behind c t) (at + (s + n)) (drop (s + n) text) tokens rest more l)
