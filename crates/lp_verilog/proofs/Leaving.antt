-- Where the reader stops, the text leaves the netlists.
use Rattle.std.proofs.Common.{◌≡◌, ℕ, ◌+◌, ◌-◌, ◌≤◌, ◌<◌, Bool, true, false, List, [], ◌∷◌, ◌++◌, length, drop, Option, Some, None, refl, sym, ap, ◌∙◌, subst, arith}
use Rattle.std.specs.Prelude.{max, nat_lt, unwrap_or}
use Rattle.std.specs.List.{list_all}
use Rattle.std.proofs.lemmas.Bool.{true≢false, and_parts}
use Rattle.std.proofs.lemmas.Bool.Decides.{nat_tests}
use Rattle.std.proofs.lemmas.List.{length-append}
use Rattle.lp_text.specs.Texts.{Grown, distinct, place_of-distinct, has_text-at}
use Rattle.lp_model.specs.declared.netlist.Module.{Module}
use Rattle.lp_verilog_tokens.specs.declared.token.Token.{Token}
use Rattle.lp_verilog_tokens.specs.declared.token.Token.TheVariants as tokens
use Rattle.lp_verilog_tokens.specs.declared.token.Keyword.TheVariants as keywords
use Rattle.lp_verilog_tokens.specs.Lexical.{is_blank}
use Rattle.lp_verilog_tokens.specs.Cutting.{Piece, piece_of}
use Rattle.lp_verilog_draft.specs.Verdicts.{Verdict, Goes, Stops, and_then}
use Rattle.lp_verilog_grammar.specs.declared.reader.Reader.{Reader}
use Rattle.lp_verilog_grammar.specs.Machine.{step, accepts}
use Rattle.lp_verilog.specs.Reading.{Whole, ending, behind, piece_bytes}
use Rattle.lp_verilog.specs.Denotes.{numbered, is_known, Follows, Leads}
use Rattle.lp_verilog.specs.Places.{Cuts, Begins, LeadsFrom}
use Rattle.lp_verilog.proofs.Growing.{known_still, number_still}
use Rattle.lp_verilog.proofs.Ending.{run, spelled_ok}
use Rattle.lp_verilog.proofs.Spelling.{drop_front}
use Rattle.lp_verilog.proofs.Pieces.{nameable}
use Rattle.lp_verilog.proofs.Words.{spelled, lexeme_of, token_piece}
use Rattle.lp_verilog.proofs.Tabled.{nameable_at}
use Rattle.lp_verilog.proofs.Fronts.{Through}

-- ---- the tokens that lead to the end, as bytes

module _ (names : List (List ℕ)) where
  abbrev pub words : List Token → List ℕ
  words [] = []
  words (t ∷ ts) = spelled names t ++ 32 ∷ words ts

  abbrev pub pieces_of : List Token → List Piece
  pieces_of [] = []
  pieces_of (t ∷ ts) = record { gap = 1; size = length (spelled names t); lexeme = lexeme_of names t } ∷ pieces_of ts

  abbrev pub after : ℕ → Token → ℕ
  after k t = k + length (spelled names t) + 1

blank_end : (f : Bool) → piece_of f (32 ∷ []) ≡ None
unfolding is_blank
blank_end f = refl

module _ (names : List (List ℕ)) (apart : distinct names ≡ true) (all : list_all nameable names ≡ true) (size : ℕ) where
  below_length : (i : ℕ) → nat_lt i (length names) ≡ true → i < length names
  below_length i h = grind (arith, nat_tests)

  same_token : (t : Token) → spelled_ok (length names) t ≡ true → (numbered names (lexeme_of names t) ≡ t) × (is_known names (lexeme_of names t) ≡ true)
  same_token (tokens.Name id) ok =
      let inside = below_length id.0 ok in
      (ap (λ o. tokens.Name (record { 0 = unwrap_or o 0 })) (place_of-distinct names id.0 apart inside), has_text-at names id.0 inside)
  same_token (tokens.Number (Some v)) ok = (refl, refl)
  same_token (tokens.Constant size2 value) ok = (refl, refl)
  same_token (tokens.Mark mark) ok = (refl, refl)
  same_token (tokens.Keyword keywords.Input) ok = (refl, refl)
  same_token (tokens.Keyword keywords.EndModule) ok = (refl, refl)
  same_token _ ok = absurd (true≢false (sym ok))

  drop_word : (w more : List ℕ) → length w ≡ max (length w) 1 → drop (max (length w) 1) (w ++ more) ≡ more
  drop_word w more e = ap (λ n. drop n (w ++ more)) (sym e) ∙ drop_front w more

  spelled_some : (t : Token) → spelled_ok (length names) t ≡ true → length (spelled names t) ≡ max (length (spelled names t)) 1
  spelled_some (tokens.Name id) ok = omega arith
  spelled_some (tokens.Number (Some v)) ok = refl
  spelled_some (tokens.Constant size2 value) ok = refl
  spelled_some (tokens.Mark mark) ok = refl
  spelled_some (tokens.Keyword keywords.Input) ok = refl
  spelled_some (tokens.Keyword keywords.EndModule) ok = refl
  spelled_some _ ok = absurd (true≢false (sym ok))

  pub words_lead : (ts : List Token) (k : ℕ) (f : Bool) (m last : Reader) → run (after names) k ts m ≡ Goes last → accepts last ≡ true → list_all (spelled_ok (length names)) ts ≡ true → size - length (32 ∷ words names ts) + 1 ≡ k → length (32 ∷ words names ts) ≤ size → Leads names size (pieces_of names ts) f (32 ∷ words names ts) m (Whole last.modules)
  words_lead [] k f m last goes accepted ok at within =
      let same : m ≡ last = cc in
      (blank_end f, subst (λ r. Whole last.modules ≡ ending size r) (sym same) (rw accepted refl))
  words_lead (t ∷ ts) k f m last goes accepted ok at within =
      let parts = and_parts (spelled_ok (length names) t) (list_all (spelled_ok (length names)) ts) ok in
      let piece = token_piece f names (length names) t (words names ts) parts.0 (λ i h. nameable_at names i all (below_length i h)) in
      let same = same_token t parts.0 in
      by (step t k m) refl goes (λ u h. words_lead ts (after names k t) false u last h accepted parts.1 next_at next_within) piece same
    where
      text : List ℕ
      text = 32 ∷ (spelled names t ++ 32 ∷ words names ts)

      sum : length (spelled names t ++ 32 ∷ words names ts) ≡ length (spelled names t) + length (32 ∷ words names ts)
      sum = length-append (spelled names t) (32 ∷ words names ts)

      next_within : length (32 ∷ words names ts) ≤ size
      next_within = let s = sum in omega (arith, s, within)

      next_at : size - length (32 ∷ words names ts) + 1 ≡ after names k t
      next_at = let s = sum in omega (arith, s, within, at)

      p : Piece
      p = record { gap = 1; size = length (spelled names t); lexeme = lexeme_of names t }

      by : (v : Verdict Reader) → step t k m ≡ v → and_then v (λ u. run (after names) (after names k t) ts u) ≡ Goes last → ((u : Reader) → run (after names) (after names k t) ts u ≡ Goes last → Leads names size (pieces_of names ts) false (32 ∷ words names ts) u (Whole last.modules)) → piece_of f text ≡ Some p → (numbered names (lexeme_of names t) ≡ t) × (is_known names (lexeme_of names t) ≡ true) → Leads names size (p ∷ pieces_of names ts) f text m (Whole last.modules)
      by (Stops off) e h more piece same = absurd cc
      by (Goes u) e h more piece same =
          let parts = and_parts (spelled_ok (length names) t) (list_all (spelled_ok (length names)) ts) ok in
          let stepped : Goes u ≡ step (numbered names (lexeme_of names t)) (size - length text + 1) m = sym (ap (λ x. step x (size - length text + 1) m) same.0 ∙ ap (λ n. step t n m) at ∙ e) in
          let left : behind p text ≡ 32 ∷ words names ts = drop_word (spelled names t) (32 ∷ words names ts) (spelled_some t parts.0) in
          let next : Leads names size (pieces_of names ts) false (behind p text) u (Whole last.modules) = subst (λ xs. Leads names size (pieces_of names ts) false xs u (Whole last.modules)) (sym left) (more u h) in
          (piece, same.1, subst (Follows (λ n. Leads names size (pieces_of names ts) false (behind p text) n (Whole last.modules)) (pieces_of names ts) (size - length text + 1) (piece_bytes p text) (Whole last.modules)) stepped next)

-- ---- tokens of a text

pub leads_cut : (names : List (List ℕ)) (size : ℕ) (ts : List Piece) (fresh : Bool) (rest : List ℕ) (m : Reader) (ms : List Module) → Leads names size ts fresh rest m (Whole ms) → Cuts ts fresh rest
leads_cut names size [] fresh rest m ms h = h.0
leads_cut names size (p ∷ ts) fresh rest m ms h = (h.0, by (step (numbered names p.lexeme) (size - length rest + p.gap) m) h.2 (λ u k. leads_cut names size ts false (behind p rest) u ms k))
  where
    by : (v : Verdict Reader) → Follows (λ n. Leads names size ts false (behind p rest) n (Whole ms)) ts (size - length rest + p.gap) (piece_bytes p rest) (Whole ms) v → ((u : Reader) → Leads names size ts false (behind p rest) u (Whole ms) → Cuts ts false (behind p rest)) → Cuts ts false (behind p rest)
    by (Goes u) k more = more u k
    by (Stops off) k more = absurd cc

same_piece : (p q : Piece) (o : Option Piece) → o ≡ Some p → o ≡ Some q → p ≡ q
same_piece p q o e f = let both : Some p ≡ Some q = sym e ∙ f in cc

pub one_cut : (xs ys : List Piece) (fresh : Bool) (rest : List ℕ) → Cuts xs fresh rest → Cuts ys fresh rest → xs ≡ ys
one_cut [] [] fresh rest h k = refl
one_cut [] (q ∷ ys) fresh rest h k = let no_piece : None ≡ Some q = sym h ∙ k.0 in absurd cc
one_cut (p ∷ xs) [] fresh rest h k = let no_piece : None ≡ Some p = sym k ∙ h.0 in absurd cc
one_cut (p ∷ xs) (q ∷ ys) fresh rest h k =
    let same = same_piece p q (piece_of fresh rest) h.0 k.0 in
    let more : Cuts ys false (behind p rest) = subst (λ r. Cuts ys false (behind r rest)) (sym same) k.1 in
    ap (λ r. r ∷ xs) same ∙ ap (λ zs. q ∷ zs) (one_cut xs ys false (behind p rest) h.1 more)

module _ (names : List (List ℕ)) (size : ℕ) where
  pub through_begins : (front more : List Piece) (fresh : Bool) (rest : List ℕ) (m : Reader) (fresh2 : Bool) (rest2 : List ℕ) (m2 : Reader) → Through names size front fresh rest m fresh2 rest2 m2 → Begins more fresh2 rest2 → Begins (front ++ more) fresh rest
  through_begins [] more fresh rest m fresh2 rest2 m2 h k = subst (λ f. Begins more f rest) (sym h.0) (subst (λ xs. Begins more fresh2 xs) (sym h.1) k)
  through_begins (p ∷ front) more fresh rest m fresh2 rest2 m2 h k = (h.0, through_begins front more false (behind p rest) h.2.0 fresh2 rest2 m2 h.2.2 k)

  pub through_cuts : (front : List Piece) (fresh : Bool) (rest : List ℕ) (m : Reader) (fresh2 : Bool) (rest2 : List ℕ) (m2 : Reader) → Through names size front fresh rest m fresh2 rest2 m2 → piece_of fresh2 rest2 ≡ None → Cuts front fresh rest
  through_cuts [] fresh rest m fresh2 rest2 m2 h k = ap (λ f. piece_of f rest) h.0 ∙ ap (piece_of fresh2) h.1 ∙ k
  through_cuts (p ∷ front) fresh rest m fresh2 rest2 m2 h k = (h.0, through_cuts front false (behind p rest) h.2.0 fresh2 rest2 m2 h.2.2 k)

  pub through_from : (front : List Piece) (fresh : Bool) (rest : List ℕ) (m : Reader) (fresh2 : Bool) (rest2 : List ℕ) (m2 : Reader) → Through names size front fresh rest m fresh2 rest2 m2 → LeadsFrom names size front fresh rest m m2
  through_from [] fresh rest m fresh2 rest2 m2 h = h.2
  through_from (p ∷ front) fresh rest m fresh2 rest2 m2 h = (h.0, h.1, (h.2.0, h.2.1, through_from front false (behind p rest) h.2.0 fresh2 rest2 m2 h.2.2))

pub through_grown : (old new : List (List ℕ)) (g : Grown old new) (size : ℕ) (front : List Piece) (fresh : Bool) (rest : List ℕ) (m : Reader) (fresh2 : Bool) (rest2 : List ℕ) (m2 : Reader) → Through old size front fresh rest m fresh2 rest2 m2 → Through new size front fresh rest m fresh2 rest2 m2
through_grown old new g size [] fresh rest m fresh2 rest2 m2 h = h
through_grown old new g size (p ∷ front) fresh rest m fresh2 rest2 m2 h =
    (h.0, known_still old new g size p.lexeme h.1, (h.2.0, ap (λ t. step t (size - length rest + p.gap) m) (sym (number_still old new g size p.lexeme h.1)) ∙ h.2.1, through_grown old new g size front false (behind p rest) h.2.0 fresh2 rest2 m2 h.2.2))
