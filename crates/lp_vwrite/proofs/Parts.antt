-- Steps over the parts of a written text: names, marks, reserved words, numbers and blanks.
use Rattle.std.proofs.Common.{◌≡◌, ℕ, ◌≤◌, Bool, true, false, not, List, [], ◌∷◌, ◌++◌, Some, refl, sym, ap, ◌∙◌, subst, append_assoc}
use Rattle.std.specs.Prelude.{codes, decimal, ◌&&◌, unwrap_or, if◌then◌else◌}
use Rattle.std.specs.List.{list_all}
use Rattle.std.proofs.lemmas.Bool.{and_parts}
use Rattle.lp_text.specs.Texts.{has_text, place_of}
use Rattle.lp_text.specs.declared.names.NameId.{NameId}
use Rattle.lp_verilog_tokens.specs.Lexical.{is_blank, is_lead, is_inner}
use Rattle.lp_verilog_tokens.specs.Reserved.{reserved_words}
use Rattle.lp_verilog_tokens.specs.Cutting.{Named, Plain, word_lexeme}
use Rattle.lp_verilog_grammar.specs.declared.reader.Reader.{Reader}
use Rattle.lp_verilog_tokens.specs.declared.token.Token.TheVariants as tokens
use Rattle.lp_verilog_tokens.specs.declared.token.Mark.TheVariants as marks
use Rattle.lp_verilog_tokens.specs.declared.token.Keyword.TheVariants as keywords
use Rattle.lp_verilog_draft.specs.Verdicts.{Verdict, Goes, Stops}
use Rattle.lp_verilog_grammar.specs.Machine.{step}
use Rattle.lp_verilog.specs.Reading.{Outcome}
use Rattle.lp_vwrite.specs.Layout.{is_plain, name_text}
use Rattle.lp_vwrite.specs.WellFormed.{is_name}
use Rattle.lp_vwrite.proofs.Tokens.{Begins, open_begins, close_begins, comma_begins, semicolon_begins, colon_begins, dot_begins, equals_begins, open_bracket_begins, close_bracket_begins, open_brace_begins, close_brace_begins, word_begins, escaped_begins, number_begins, zero_begins, one_begins, is_starless, is_apart, is_behind_number}
use Rattle.lp_vwrite.proofs.Onward.{Then, Onward, word_onward, blanks_onward}

then_map : (P Q : Reader → Type 0) (v : Verdict Reader) → ((m : Reader) → P m → Q m) → Then P v → Then Q v
then_map P Q (Goes m) f h = f m h
then_map P Q (Stops off) f h = absurd h

-- the number of a name
abbrev pub id : List (List ℕ) → List ℕ → NameId
id names t = record { 0 = unwrap_or (place_of t names) 0 }

-- a plain name is a word that is a name
plain_parts : (b : ℕ) (w : List ℕ) → is_plain (b ∷ w) ≡ true → (is_lead b ≡ true) × (list_all is_inner w ≡ true) × (word_lexeme (b ∷ w) ≡ Named (b ∷ w))
plain_parts b w h =
    let parts = and_parts (is_lead b) (list_all is_inner w && not (has_text (b ∷ w) reserved_words)) h in
    let more = and_parts (list_all is_inner w) (not (has_text (b ∷ w) reserved_words)) parts.1 in
    (parts.0, more.0, by (has_text (b ∷ w) reserved_words) refl more.1)
  where
    by : (t : Bool) → has_text (b ∷ w) reserved_words ≡ t → not (has_text (b ∷ w) reserved_words) ≡ true → word_lexeme (b ∷ w) ≡ Named (b ∷ w)
    by true e k = let no : false ≡ true = sym (ap not e) ∙ k in absurd cc
    by false e k = rw e refl

module _ (names : List (List ℕ)) (size : ℕ) (o : Outcome) where
  abbrev pub On : List ℕ → Reader → Type 0
  On rest m = Onward names size o rest m

  pub blank_onward : (rest : List ℕ) (m : Reader) → On rest m → On (32 ∷ rest) m
  unfolding is_blank
  blank_onward rest m h = blanks_onward names size o (32 ∷ []) rest m refl h

  pub name_onward : (n rest : List ℕ) (m : Reader) → is_name n ≡ true → has_text n names ≡ true → is_apart rest ≡ true → ((at : ℕ) → Then (On rest) (step (tokens.Name (id names n)) at m)) → On (name_text n ++ rest) m
  name_onward [] rest m good known apart next = absurd cc
  name_onward (b ∷ w) rest m good known apart next = by (is_plain (b ∷ w)) refl
    where
      by : (t : Bool) → is_plain (b ∷ w) ≡ t → On ((if t then b ∷ w else codes "\\" ++ ((b ∷ w) ++ codes " ")) ++ rest) m
      by true e =
          let parts = plain_parts b w e in
          word_onward names size o (Named (b ∷ w)) (b ∷ w) rest m (subst (λ l. Begins l (b ∷ w) rest) parts.2 (word_begins b w rest parts.0 parts.1 apart)) known next
      by false e =
          let escaped = word_onward names size o (Named (b ∷ w)) (92 ∷ (b ∷ w)) (32 ∷ rest) m (escaped_begins b w rest good) known (λ at. then_map (On rest) (On (32 ∷ rest)) (step (tokens.Name (id names (b ∷ w))) at m) (λ n h. blank_onward rest n h) (next at)) in
          subst (λ t. On t m) (ap (λ t. 92 ∷ t) (sym (append_assoc (b ∷ w) (codes " ") rest))) escaped

  pub indent_onward : (rest : List ℕ) (m : Reader) → On rest m → On (32 ∷ 32 ∷ rest) m
  unfolding is_blank
  indent_onward rest m h = blanks_onward names size o (32 ∷ 32 ∷ []) rest m refl h

  pub line_onward : (rest : List ℕ) (m : Reader) → On rest m → On (10 ∷ rest) m
  unfolding is_blank
  line_onward rest m h = blanks_onward names size o (10 ∷ []) rest m refl h

  pub open_onward : (rest : List ℕ) (m : Reader) → is_starless rest ≡ true → ((at : ℕ) → Then (On rest) (step (tokens.Mark marks.Open) at m)) → On (40 ∷ rest) m
  open_onward rest m h next = word_onward names size o (Plain (tokens.Mark marks.Open)) (40 ∷ []) rest m (open_begins rest h) refl next

  pub close_onward : (rest : List ℕ) (m : Reader) → ((at : ℕ) → Then (On rest) (step (tokens.Mark marks.Close) at m)) → On (41 ∷ rest) m
  close_onward rest m next = word_onward names size o (Plain (tokens.Mark marks.Close)) (41 ∷ []) rest m (close_begins rest) refl next

  pub comma_onward : (rest : List ℕ) (m : Reader) → ((at : ℕ) → Then (On rest) (step (tokens.Mark marks.Comma) at m)) → On (44 ∷ rest) m
  comma_onward rest m next = word_onward names size o (Plain (tokens.Mark marks.Comma)) (44 ∷ []) rest m (comma_begins rest) refl next

  pub semicolon_onward : (rest : List ℕ) (m : Reader) → ((at : ℕ) → Then (On rest) (step (tokens.Mark marks.Semicolon) at m)) → On (59 ∷ rest) m
  semicolon_onward rest m next = word_onward names size o (Plain (tokens.Mark marks.Semicolon)) (59 ∷ []) rest m (semicolon_begins rest) refl next

  pub colon_onward : (rest : List ℕ) (m : Reader) → ((at : ℕ) → Then (On rest) (step (tokens.Mark marks.Colon) at m)) → On (58 ∷ rest) m
  colon_onward rest m next = word_onward names size o (Plain (tokens.Mark marks.Colon)) (58 ∷ []) rest m (colon_begins rest) refl next

  pub dot_onward : (rest : List ℕ) (m : Reader) → ((at : ℕ) → Then (On rest) (step (tokens.Mark marks.Dot) at m)) → On (46 ∷ rest) m
  dot_onward rest m next = word_onward names size o (Plain (tokens.Mark marks.Dot)) (46 ∷ []) rest m (dot_begins rest) refl next

  pub equals_onward : (rest : List ℕ) (m : Reader) → ((at : ℕ) → Then (On rest) (step (tokens.Mark marks.Equals) at m)) → On (61 ∷ rest) m
  equals_onward rest m next = word_onward names size o (Plain (tokens.Mark marks.Equals)) (61 ∷ []) rest m (equals_begins rest) refl next

  pub open_bracket_onward : (rest : List ℕ) (m : Reader) → ((at : ℕ) → Then (On rest) (step (tokens.Mark marks.OpenBracket) at m)) → On (91 ∷ rest) m
  open_bracket_onward rest m next = word_onward names size o (Plain (tokens.Mark marks.OpenBracket)) (91 ∷ []) rest m (open_bracket_begins rest) refl next

  pub close_bracket_onward : (rest : List ℕ) (m : Reader) → ((at : ℕ) → Then (On rest) (step (tokens.Mark marks.CloseBracket) at m)) → On (93 ∷ rest) m
  close_bracket_onward rest m next = word_onward names size o (Plain (tokens.Mark marks.CloseBracket)) (93 ∷ []) rest m (close_bracket_begins rest) refl next

  pub open_brace_onward : (rest : List ℕ) (m : Reader) → ((at : ℕ) → Then (On rest) (step (tokens.Mark marks.OpenBrace) at m)) → On (123 ∷ rest) m
  open_brace_onward rest m next = word_onward names size o (Plain (tokens.Mark marks.OpenBrace)) (123 ∷ []) rest m (open_brace_begins rest) refl next

  pub close_brace_onward : (rest : List ℕ) (m : Reader) → ((at : ℕ) → Then (On rest) (step (tokens.Mark marks.CloseBrace) at m)) → On (125 ∷ rest) m
  close_brace_onward rest m next = word_onward names size o (Plain (tokens.Mark marks.CloseBrace)) (125 ∷ []) rest m (close_brace_begins rest) refl next

  pub number_onward : (n : ℕ) (rest : List ℕ) (m : Reader) → n ≤ 4294967295 → is_behind_number rest ≡ true → ((at : ℕ) → Then (On rest) (step (tokens.Number (Some n)) at m)) → On (decimal n ++ rest) m
  number_onward n rest m small behind next = word_onward names size o (Plain (tokens.Number (Some n))) (decimal n) rest m (number_begins n rest small behind) refl next

  pub zero_onward : (rest : List ℕ) (m : Reader) → is_apart rest ≡ true → ((at : ℕ) → Then (On rest) (step (tokens.Constant 1 0) at m)) → On (codes "1'b0" ++ rest) m
  zero_onward rest m apart next = word_onward names size o (Plain (tokens.Constant 1 0)) (codes "1'b0") rest m (zero_begins rest apart) refl next

  pub one_onward : (rest : List ℕ) (m : Reader) → is_apart rest ≡ true → ((at : ℕ) → Then (On rest) (step (tokens.Constant 1 1) at m)) → On (codes "1'b1" ++ rest) m
  one_onward rest m apart next = word_onward names size o (Plain (tokens.Constant 1 1)) (codes "1'b1") rest m (one_begins rest apart) refl next

  pub module_onward : (rest : List ℕ) (m : Reader) → ((at : ℕ) → Then (On (32 ∷ rest)) (step (tokens.Keyword keywords.Module) at m)) → On (codes "module" ++ (32 ∷ rest)) m
  unfolding reserved_words is_lead is_inner
  module_onward rest m next = word_onward names size o (Plain (tokens.Keyword keywords.Module)) (codes "module") (32 ∷ rest) m (word_begins 109 (codes "odule") (32 ∷ rest) refl refl refl) refl next

  pub endmodule_onward : (rest : List ℕ) (m : Reader) → ((at : ℕ) → Then (On (10 ∷ rest)) (step (tokens.Keyword keywords.EndModule) at m)) → On (codes "endmodule" ++ (10 ∷ rest)) m
  unfolding reserved_words is_lead is_inner
  endmodule_onward rest m next = word_onward names size o (Plain (tokens.Keyword keywords.EndModule)) (codes "endmodule") (10 ∷ rest) m (word_begins 101 (codes "ndmodule") (10 ∷ rest) refl refl refl) refl next

  pub input_onward : (rest : List ℕ) (m : Reader) → ((at : ℕ) → Then (On (32 ∷ rest)) (step (tokens.Keyword keywords.Input) at m)) → On (codes "input" ++ (32 ∷ rest)) m
  unfolding reserved_words is_lead is_inner
  input_onward rest m next = word_onward names size o (Plain (tokens.Keyword keywords.Input)) (codes "input") (32 ∷ rest) m (word_begins 105 (codes "nput") (32 ∷ rest) refl refl refl) refl next

  pub output_onward : (rest : List ℕ) (m : Reader) → ((at : ℕ) → Then (On (32 ∷ rest)) (step (tokens.Keyword keywords.Output) at m)) → On (codes "output" ++ (32 ∷ rest)) m
  unfolding reserved_words is_lead is_inner
  output_onward rest m next = word_onward names size o (Plain (tokens.Keyword keywords.Output)) (codes "output") (32 ∷ rest) m (word_begins 111 (codes "utput") (32 ∷ rest) refl refl refl) refl next

  pub wire_onward : (rest : List ℕ) (m : Reader) → ((at : ℕ) → Then (On (32 ∷ rest)) (step (tokens.Keyword keywords.Wire) at m)) → On (codes "wire" ++ (32 ∷ rest)) m
  unfolding reserved_words is_lead is_inner
  wire_onward rest m next = word_onward names size o (Plain (tokens.Keyword keywords.Wire)) (codes "wire") (32 ∷ rest) m (word_begins 119 (codes "ire") (32 ∷ rest) refl refl refl) refl next

  pub assign_onward : (rest : List ℕ) (m : Reader) → ((at : ℕ) → Then (On (32 ∷ rest)) (step (tokens.Keyword keywords.Assign) at m)) → On (codes "assign" ++ (32 ∷ rest)) m
  unfolding reserved_words is_lead is_inner
  assign_onward rest m next = word_onward names size o (Plain (tokens.Keyword keywords.Assign)) (codes "assign") (32 ∷ rest) m (word_begins 97 (codes "ssign") (32 ∷ rest) refl refl refl) refl next
