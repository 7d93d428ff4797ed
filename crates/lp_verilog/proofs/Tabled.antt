-- Tables whose names can all be spelled, with as many new names as are wanted.
use Rattle.std.proofs.Common.{◌≡◌, ℕ, zero, suc, ◌+◌, ◌-◌, ◌≤◌, ◌<◌, Bool, true, false, List, [], ◌∷◌, ◌++◌, length, drop, Option, Some, None, refl, ap, ◌∙◌, arith}
use Rattle.std.specs.Prelude.{max, not, nat_lt, if◌then◌else◌}
use Rattle.std.specs.List.{list_all}
use Rattle.std.proofs.lemmas.Bool.{and_parts, and_from, or_from, false_from_ne_true}
use Rattle.std.proofs.lemmas.Bool.Decides.{nat_tests}
use Rattle.std.proofs.lemmas.List.{length-append}
use Rattle.lp_text.specs.Texts.{Grown, has_text, same_text, same_text-true, text_at, distinct, distinct-push}
use Rattle.lp_verilog_grammar.specs.declared.reader.Reader.{Reader}
use Rattle.lp_verilog_draft.specs.Verdicts.{Verdict, Goes, Stops}
use Rattle.lp_verilog_grammar.specs.Machine.{step}
use Rattle.lp_verilog_tokens.specs.declared.gap.GapMode.TheVariants.{Between}
use Rattle.lp_verilog_tokens.specs.Lexical.{is_visible}
use Rattle.lp_verilog_tokens.specs.Cutting.{Lexeme, Named, Plain, Piece, piece_of, Front, Whole, Cut, gap_behind, placed, piece_behind, piece_after, front_of}
use Rattle.lp_verilog.specs.Reading.{behind, read_rest, turned, stepped, token_in, names_with}
use Rattle.lp_verilog.proofs.Found.{grown_same, grown_trans}
use Rattle.lp_verilog.proofs.Pieces.{nameable, fine, front_is_fine, all_fine}

abbrev pub longest : List (List ℕ) → ℕ
longest [] = 0
longest (t ∷ ts) = max (length t) (longest ts)

-- a word of the letter a
abbrev pub repeated : ℕ → List ℕ
repeated zero = []
repeated (suc n) = 97 ∷ repeated n

repeated_length : (n : ℕ) → length (repeated n) ≡ n
repeated_length zero = refl
repeated_length (suc n) = let more = repeated_length n in omega (arith, more)

repeated_visible : (n : ℕ) → list_all is_visible (repeated n) ≡ true
repeated_visible zero = refl
repeated_visible (suc n) = repeated_visible n

too_long : (n : ℕ) (ts : List (List ℕ)) → longest ts < n → has_text (repeated n) ts ≡ false
too_long n [] h = refl
too_long n (t ∷ ts) h =
    let here : same_text (repeated n) t ≡ false = false_from_ne_true (same_text (repeated n) t) (λ e.
    let same : length (repeated n) ≡ length t = ap length (same_text-true (repeated n) t e) in
    let long = repeated_length n in
    let f : ⊥ = omega (arith, same, long) in absurd f) in
    or_from (same_text (repeated n) t) (has_text (repeated n) ts) here (too_long n ts (omega (arith, h)))

abbrev pub new_name : List (List ℕ) → List ℕ
new_name names = repeated (suc (longest names))

new_nameable : (names : List (List ℕ)) → nameable (new_name names) ≡ true
new_nameable names =
    let long = repeated_length (suc (longest names)) in
    and_from (list_all is_visible (new_name names)) (nat_lt 0 (length (new_name names))) (repeated_visible (suc (longest names))) (some (length (new_name names)) (longest names) long)
  where
    some : (x y : ℕ) → x ≡ suc y → nat_lt 0 x ≡ true
    some x y e = grind (arith, nat_tests, e)

all_end : (ts : List (List ℕ)) (t : List ℕ) → list_all nameable ts ≡ true → nameable t ≡ true → list_all nameable (ts ++ t ∷ []) ≡ true
all_end [] t h k = and_from (nameable t) true k refl
all_end (x ∷ ts) t h k = let parts = and_parts (nameable x) (list_all nameable ts) h in and_from (nameable x) (list_all nameable (ts ++ t ∷ [])) parts.0 (all_end ts t parts.1 k)

pub record Table (old : List (List ℕ)) (c : ℕ) : Type 0 where
  pub names : List (List ℕ)
  pub grown : Grown old names
  pub apart : distinct names ≡ true
  pub all : list_all nameable names ≡ true
  pub long : length names ≡ length old + c

pub extended : (c : ℕ) (names : List (List ℕ)) → distinct names ≡ true → list_all nameable names ≡ true → Table names c
extended zero names apart all = record { names = names; grown = grown_same names; apart = apart; all = all; long = omega arith }
extended (suc c) names apart all =
    let new = new_name names in
    let next = names ++ new ∷ [] in
    let absent : has_text new names ≡ false = too_long (suc (longest names)) names (omega arith) in
    let next_apart : distinct next ≡ true = distinct-push names new ∙ and_from (not (has_text new names)) (distinct names) (ap not absent) apart in
    let t = extended c next next_apart (all_end names new all (new_nameable names)) in
    let sum = length-append names (new ∷ []) in
    let long = t.long in
    record { names = t.names; grown = grown_trans names next t.names (record { more = new ∷ []; is = refl }) t.grown; apart = t.apart; all = t.all; long = omega (arith, sum, long) }

pub nameable_at : (names : List (List ℕ)) (i : ℕ) → list_all nameable names ≡ true → i < length names → nameable (text_at names i) ≡ true
nameable_at [] i h l = absurd (omega arith)
nameable_at (t ∷ ts) zero h l = (and_parts (nameable t) (list_all nameable ts) h).0
nameable_at (t ∷ ts) (suc i) h l = nameable_at ts i (and_parts (nameable t) (list_all nameable ts) h).1 (omega (arith, l))

-- ---- the table of a text that is read

-- names that can be spelled, all different, and at most so many more than before
pub record Clean (names : List (List ℕ)) (most : ℕ) : Type 0 where
  pub apart : distinct names ≡ true
  pub all : list_all nameable names ≡ true
  pub few : length names ≤ most

pub with_clean : (names : List (List ℕ)) (l : Lexeme) (most : ℕ) → fine l ≡ true → Clean names most → Clean (names_with names l) (most + 1)
with_clean names (Plain t) most h c = let few = c.few in record { apart = c.apart; all = c.all; few = omega (arith, few) }
with_clean names (Named text) most h c = by (has_text text names) refl
  where
    by : (b : Bool) → has_text text names ≡ b → Clean (if b then names else names ++ text ∷ []) (most + 1)
    by true e = let few = c.few in record { apart = c.apart; all = c.all; few = omega (arith, few) }
    by false e =
        let sum = length-append names (text ∷ []) in
        let few = c.few in
        record { apart = distinct-push names text ∙ and_from (not (has_text text names)) (distinct names) (ap not e) c.apart; all = all_end names text c.all h; few = omega (arith, sum, few) }

abbrev pub piece_is_fine : Option Piece → Bool
piece_is_fine None = true
piece_is_fine (Some p) = fine p.lexeme

pub every_piece_fine : (fresh : Bool) (rest : List ℕ) → piece_is_fine (piece_of fresh rest) ≡ true
every_piece_fine fresh rest = by (gap_behind (Between fresh) 0 rest)
  where
    whole : (end gap : ℕ) (front : Front) → front_is_fine front ≡ true → fine (placed end gap front).lexeme ≡ true
    whole end gap (Whole size lexeme) h = h
    whole end gap Cut h = refl

    behind_gap : (end gap : ℕ) (xs : List ℕ) → piece_is_fine (piece_behind end gap xs) ≡ true
    behind_gap end gap [] = refl
    behind_gap end gap (b ∷ xs) = whole end gap (front_of b xs) (all_fine b xs)

    by : (o : Option ℕ) → piece_is_fine (piece_after rest o) ≡ true
    by None = refl
    by (Some gap) = behind_gap (length rest) gap (drop gap rest)

-- what is read is named by a clean table
pub reading_clean : (fuel : List ℕ) (size : ℕ) (fresh : Bool) (rest : List ℕ) (names : List (List ℕ)) (m : Reader) (most : ℕ) → Clean names most → Clean (read_rest fuel size fresh rest names m).names (most + length fuel)
reading_clean [] size fresh rest names m most c = let few = c.few in record { apart = c.apart; all = c.all; few = omega (arith, few) }
reading_clean (b ∷ fuel) size fresh rest names m most c = by (piece_of fresh rest) (every_piece_fine fresh rest) (λ r ns n d. reading_clean fuel size false r ns n (most + 1) d)
  where
    later : (ns : List (List ℕ)) (less : ℕ) → less ≤ most + length (b ∷ fuel) → Clean ns less → Clean ns (most + length (b ∷ fuel))
    later ns less h d = let few = d.few in record { apart = d.apart; all = d.all; few = omega (arith, few, h) }

    on : (p : Piece) (v : Verdict Reader) → Clean (names_with names p.lexeme) (most + 1) → ((r : List ℕ) (ns : List (List ℕ)) (n : Reader) → Clean ns (most + 1) → Clean (read_rest fuel size false r ns n).names (most + 1 + length fuel)) → Clean (stepped (λ ns n. read_rest fuel size false (behind p rest) ns n) (size - length rest + p.gap) p rest (names_with names p.lexeme) v).names (most + length (b ∷ fuel))
    on p (Goes n) d more = later (read_rest fuel size false (behind p rest) (names_with names p.lexeme) n).names (most + 1 + length fuel) (omega arith) (more (behind p rest) (names_with names p.lexeme) n d)
    on p (Stops off) d more = later (names_with names p.lexeme) (most + 1) (omega arith) d

    by : (o : Option Piece) → piece_is_fine o ≡ true → ((r : List ℕ) (ns : List (List ℕ)) (n : Reader) → Clean ns (most + 1) → Clean (read_rest fuel size false r ns n).names (most + 1 + length fuel)) → Clean (turned (λ r ns n. read_rest fuel size false r ns n) size rest names m o).names (most + length (b ∷ fuel))
    by None h more = later names most (omega arith) c
    by (Some p) h more = on p (step (token_in names p.lexeme) (size - length rest + p.gap) m) (with_clean names p.lexeme most h c) more
