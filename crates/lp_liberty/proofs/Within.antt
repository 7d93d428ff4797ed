-- Tokens begin and end within their text.
use Rattle.std.proofs.Common.{◌≡◌, ℕ, zero, suc, ◌+◌, ◌<◌, ◌≤◌, ◌==◌, ◌&&◌, Bool, true, false, not, List, [], ◌∷◌, length, drop, Option, Some, None, arith, length-drop}
use Rattle.std.specs.Prelude.{if◌then◌else◌}
use Rattle.lp_liberty.specs.declared.mark.Mark.TheVariants as marks
use Rattle.lp_liberty.specs.declared.mark.Sort.TheVariants as sorts
use Rattle.lp_liberty.specs.declared.mark.Context.{Context}
use Rattle.lp_liberty.specs.declared.mark.Context.TheVariants as contexts
use Rattle.lp_liberty.specs.declared.mark.Gap.{Gap}
use Rattle.lp_liberty.specs.declared.gap.Skipped.{Skipped}
use Rattle.lp_liberty.specs.declared.lexed.Lexed.{Lexed}
use Rattle.lp_liberty.specs.Grammar.{Token}
use Rattle.lp_liberty.specs.Lexing.{gap_start, gap_step, skip_on, skip, goes_on, word_end, string_end, string_size, word_at, quoted_at, beginning, behind_gap, lexed_at, is_items, is_args, is_word, mark_of}
use Rattle.lp_liberty.specs.Tokens.{Placed, behind, placed, listed, token_of, tokens_from, tokens_of}
use Rattle.lp_liberty.specs.Denotes.{index_in}

if_le : (c : Bool) (x y n : ℕ) → x ≤ n → y ≤ n → (if c then x else y) ≤ n
if_le true x y n h k = h
if_le false x y n h k = k

skip_within : (lines : Bool) (gap : Gap) (at : ℕ) (text : List ℕ) → (skip lines gap at text).size ≤ at + length text
skip_within lines gap at [] = omega arith
skip_within lines gap at (b ∷ rest) = by (gap_step lines gap b rest) (λ next. skip_within lines next (at + 1) rest)
  where
    by : (o : Option Gap) → ((next : Gap) → (skip lines next (at + 1) rest).size ≤ (at + 1) + length rest) → (skip_on gap at (λ next. skip lines next (at + 1) rest) o).size ≤ at + suc (length rest)
    by None more = omega arith
    by (Some next) more = let h = more next in omega arith

word_within : (in_args joining : Bool) (at : ℕ) (text : List ℕ) → word_end in_args joining at text ≤ at + length text
word_within in_args joining at [] = omega arith
word_within in_args joining at (b ∷ rest) =
    let more = word_within in_args (b == 92) (at + 1) rest in
    if_le (goes_on in_args joining b rest) (word_end in_args (b == 92) (at + 1) rest) at (at + suc (length rest)) (omega arith) (omega arith)

-- an index before the end, if there is one
abbrev Below : ℕ → Option ℕ → Type 0
Below whole None = Unit {0}
Below whole (Some end) = end < whole

-- the bytes of a string behind its first quote
size_within : (rest : List ℕ) (o : Option ℕ) → Below (length rest) o → (string_size rest o).1 ≤ suc (length rest)
size_within rest None h = omega arith
size_within rest (Some end) h = omega arith

string_within : (escaped : Bool) (at : ℕ) (text : List ℕ) (whole : ℕ) → whole ≡ at + length text → Below whole (string_end escaped at text)
string_within escaped at [] whole e = tt
string_within escaped at (b ∷ rest) whole e = by ((b == 34) && not escaped) (string_within (b == 92) (at + 1) rest whole (omega arith))
  where
    by : (c : Bool) → Below whole (string_end (b == 92) (at + 1) rest) → Below whole (if c then Some at else string_end (b == 92) (at + 1) rest)
    by true h = omega arith
    by false h = h

beginning_within : (c : Context) (gap : Bool) (start : ℕ) (text : List ℕ) → (beginning c gap start text).start + (beginning c gap start text).size ≤ start + length text
beginning_within c gap start [] = omega arith
beginning_within c gap start (b ∷ rest) = quoted (b == 34)
  where
    other : Lexed
    other = record { start = start; size = 1; from = start; «to» = start; sort = sorts.Mark (mark_of b) }

    string : (quoted_at c gap start rest).start + (quoted_at c gap start rest).size ≤ start + suc (length rest)
    string = let h = size_within rest (string_end false 0 rest) (string_within false 0 rest (length rest) (omega arith)) in omega arith

    plain : (k : Bool) → (if k then word_at c gap start (b ∷ rest) else other).start + (if k then word_at c gap start (b ∷ rest) else other).size ≤ start + suc (length rest)
    plain true = let h = word_within (is_args c) false 0 (b ∷ rest) in omega arith
    plain false = omega arith

    quoted : (k : Bool) → (if k then quoted_at c gap start rest else if is_word (is_args c) b then word_at c gap start (b ∷ rest) else other).start + (if k then quoted_at c gap start rest else if is_word (is_args c) b then word_at c gap start (b ∷ rest) else other).size ≤ start + suc (length rest)
    quoted true = string
    quoted false = plain (is_word (is_args c) b)

lexed_within : (c : Context) (text : List ℕ) → (lexed_at c text).start + (lexed_at c text).size ≤ length text
lexed_within c text = by (skip (is_items c) gap_start 0 text) (skip_within (is_items c) gap_start 0 text)
  where
    by : (s : Skipped) → s.size ≤ 0 + length text → (behind_gap c text s).start + (behind_gap c text s).size ≤ length text
    by s h = cut s.cut
      where
        cut : (k : Bool) → (if k then record { start = s.size; size = 0; from = s.size; «to» = s.size; sort = sorts.Mark marks.Broken } else beginning c s.gap s.size (drop s.size text)).start + (if k then record { start = s.size; size = 0; from = s.size; «to» = s.size; sort = sorts.Mark marks.Broken } else beginning c s.gap s.size (drop s.size text)).size ≤ length text
        cut true = omega arith
        cut false = let b = beginning_within c s.gap s.size (drop s.size text) in let d = length-drop s.size text in omega arith

-- each token of a text begins within it
abbrev pub AllWithin : ℕ → List Placed → Type 0
AllWithin end [] = Unit {0}
AllWithin end (t ∷ tokens) = (t.at ≤ end) × AllWithin end tokens

tokens_within : (k : ℕ) (c : Context) (at end : ℕ) (text : List ℕ) → at + length text ≤ end → AllWithin end (tokens_from k c at text)
tokens_within zero c at end text h = tt
tokens_within (suc k) c at end text h = by (token_of text (lexed_at c text) (lexed_at c text).sort) (λ x. tokens_within k (behind c x) (at + ((lexed_at c text).start + (lexed_at c text).size)) end (drop ((lexed_at c text).start + (lexed_at c text).size) text) smaller)
  where
    inside : (lexed_at c text).start + (lexed_at c text).size ≤ length text
    inside = lexed_within c text

    smaller : at + ((lexed_at c text).start + (lexed_at c text).size) + length (drop ((lexed_at c text).start + (lexed_at c text).size) text) ≤ end
    smaller = let i = inside in let d = length-drop ((lexed_at c text).start + (lexed_at c text).size) text in omega arith

    begins : at + (lexed_at c text).start ≤ end
    begins = let i = inside in omega arith

    by : (o : Option Token) → ((x : Token) → AllWithin end (tokens_from k (behind c x) (at + ((lexed_at c text).start + (lexed_at c text).size)) (drop ((lexed_at c text).start + (lexed_at c text).size) text)))
        → AllWithin end (listed (λ x. placed at (lexed_at c text) x ∷ tokens_from k (behind c x) (at + ((lexed_at c text).start + (lexed_at c text).size)) (drop ((lexed_at c text).start + (lexed_at c text).size) text)) o)
    by None more = tt
    by (Some x) more = (begins, more x)

index_within : (end : ℕ) (tokens : List Placed) (number : ℕ) → AllWithin end tokens → index_in end tokens number ≤ end
index_within end [] number h = omega arith
index_within end (t ∷ tokens) zero h = h.0
index_within end (t ∷ tokens) (suc number) h = index_within end tokens number h.1

pub indices : (text : List ℕ) (number : ℕ) → index_in (length text) (tokens_of text) number ≤ length text
indices text number = index_within (length text) (tokens_of text) number (tokens_within (length text) contexts.Statement 0 (length text) text (omega arith))
