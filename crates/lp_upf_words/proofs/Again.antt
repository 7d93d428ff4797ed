-- What stands in the relation is read.
use Rattle.std.proofs.Common.{◌≡◌, ℕ, Bool, true, false, not, List, [], ◌∷◌, ◌++◌, Option, Some, None, refl, sym, ap, ◌∙◌, append_assoc}
use Rattle.std.specs.Prelude.{encode_utf8}
use Rattle.std.specs.List.{list_all}
use Rattle.std.proofs.lemmas.Bool.{and_parts, eqb-true}
use Rattle.std.proofs.lemmas.List.{append-nil}
use Rattle.lp_text.specs.Places.{past, past_byte}
use Rattle.lp_text.specs.declared.place.Place.{Place}
use Rattle.lp_model.specs.declared.upf.WordForm.TheVariants as forms
use Rattle.lp_upf_words.specs.declared.kind.Kind.{Kind}
use Rattle.lp_upf_words.specs.declared.kind.Kind.TheVariants as kinds
use Rattle.lp_upf_words.specs.declared.mode.Mode.{Mode}
use Rattle.lp_upf_words.specs.declared.mode.Mode.TheVariants as modes
use Rattle.lp_upf_words.specs.declared.mode.Stop.{Stop}
use Rattle.lp_upf_words.specs.declared.mode.Stop.TheVariants as stops
use Rattle.lp_upf_words.specs.declared.mode.Action.{Action}
use Rattle.lp_upf_words.specs.declared.mode.Action.TheVariants.{Turn, Say, Open, Begin, Close, End, CloseEnd}
use Rattle.lp_upf_words.specs.declared.mode.Action.TheVariants as actions
use Rattle.lp_upf_words.specs.Bytes.{is_line_end, is_apart, is_digit, is_end, characters}
use Rattle.lp_upf_words.specs.Words as words
use Rattle.lp_upf_words.specs.Words.{is_plain, are_digits, has_some, Saying, depth_after, nests_on, nests, breaks_at, breaks, Fault, Stand, Fresh, Between, Ended, Behind, takes_word, is_begun, apart, begins_bare, may_begin, is_glued, Token, Spells, Gathered, with_word, with_end, with_tokens, Outcome, outcome_of}
use Rattle.lp_upf_words.specs.Reading.{in_gap, in_slash, in_comment, in_bare, in_escape, inside, in_index, in_behind, in_behind_slash, braces_on, decide, State, applied, moved_step, step_by, read_on, read}

abbrev pub at_mode : Mode → List ℕ → Place → Place → Gathered → State
at_mode mode said begun here g = record { mode = mode; said = said; begun = begun; here = here; gathered = g }

-- ---- lists

pub characters-append : (xs ys : List ℕ) → characters (xs ++ ys) ≡ characters xs ++ characters ys
characters-append [] ys = refl
characters-append (x ∷ xs) ys = ap (λ cs. encode_utf8 x ++ cs) (characters-append xs ys) ∙ sym (append_assoc (encode_utf8 x) (characters xs) (characters ys))

pub past-append : (p : Place) (xs ys : List ℕ) → past p (xs ++ ys) ≡ past (past p xs) ys
past-append p [] ys = refl
past-append p (x ∷ xs) ys = past-append (past_byte p x) xs ys

-- ---- what kinds do

plain_says : (q : Bool) (here : Place) (k : Kind) → is_plain q k ≡ true → decide (inside q) here k ≡ Say (inside q)
plain_says true here kinds.Quote e = absurd cc
plain_says true here kinds.Dollar e = absurd cc
plain_says true here kinds.OpenBracket e = absurd cc
plain_says true here kinds.Blank e = refl
plain_says true here kinds.LineEnd e = refl
plain_says true here kinds.Semicolon e = refl
plain_says true here kinds.Hash e = refl
plain_says true here kinds.Backslash e = refl
plain_says true here kinds.OpenBrace e = refl
plain_says true here kinds.CloseBrace e = refl
plain_says true here kinds.CloseBracket e = refl
plain_says true here kinds.Digit e = refl
plain_says true here kinds.Other e = refl
plain_says true here kinds.Feed e = refl
plain_says false here kinds.Blank e = absurd cc
plain_says false here kinds.LineEnd e = absurd cc
plain_says false here kinds.Semicolon e = absurd cc
plain_says false here kinds.Backslash e = absurd cc
plain_says false here kinds.Dollar e = absurd cc
plain_says false here kinds.OpenBracket e = absurd cc
plain_says false here kinds.Hash e = refl
plain_says false here kinds.OpenBrace e = refl
plain_says false here kinds.CloseBrace e = refl
plain_says false here kinds.Quote e = refl
plain_says false here kinds.CloseBracket e = refl
plain_says false here kinds.Digit e = refl
plain_says false here kinds.Other e = refl
plain_says false here kinds.Feed e = absurd cc

-- what is no line end
escape_says : (k : Kind) → is_line_end k ≡ false → (in_escape k ≡ Say modes.Bare) × ((fresh : Bool) → in_slash fresh k ≡ Say modes.Bare) × ((p : Place) → in_behind_slash p k ≡ actions.Stop (stops.Syntax p)) × (in_comment k ≡ Turn modes.Comment)
escape_says kinds.LineEnd e = absurd cc
escape_says kinds.Blank e = (refl, (λ f. refl), (λ p. refl), refl)
escape_says kinds.Semicolon e = (refl, (λ f. refl), (λ p. refl), refl)
escape_says kinds.Hash e = (refl, (λ f. refl), (λ p. refl), refl)
escape_says kinds.Backslash e = (refl, (λ f. refl), (λ p. refl), refl)
escape_says kinds.OpenBrace e = (refl, (λ f. refl), (λ p. refl), refl)
escape_says kinds.CloseBrace e = (refl, (λ f. refl), (λ p. refl), refl)
escape_says kinds.Quote e = (refl, (λ f. refl), (λ p. refl), refl)
escape_says kinds.Dollar e = (refl, (λ f. refl), (λ p. refl), refl)
escape_says kinds.OpenBracket e = (refl, (λ f. refl), (λ p. refl), refl)
escape_says kinds.CloseBracket e = (refl, (λ f. refl), (λ p. refl), refl)
escape_says kinds.Digit e = (refl, (λ f. refl), (λ p. refl), refl)
escape_says kinds.Other e = (refl, (λ f. refl), (λ p. refl), refl)
escape_says kinds.Feed e = absurd cc

digit_is : (k : Kind) → is_digit k ≡ true → k ≡ kinds.Digit
digit_is kinds.Digit e = refl
digit_is kinds.Blank e = absurd cc
digit_is kinds.LineEnd e = absurd cc
digit_is kinds.Semicolon e = absurd cc
digit_is kinds.Hash e = absurd cc
digit_is kinds.Backslash e = absurd cc
digit_is kinds.OpenBrace e = absurd cc
digit_is kinds.CloseBrace e = absurd cc
digit_is kinds.Quote e = absurd cc
digit_is kinds.Dollar e = absurd cc
digit_is kinds.OpenBracket e = absurd cc
digit_is kinds.CloseBracket e = absurd cc
digit_is kinds.Other e = absurd cc
digit_is kinds.Feed e = absurd cc

break_stops : (q some : Bool) (at : Place) (k : Kind) → breaks_at some k ≡ true → in_index q some at k ≡ actions.Stop (stops.Bracket at)
break_stops q some at kinds.Digit e = absurd cc
break_stops q true at kinds.CloseBracket e = absurd cc
break_stops q false at kinds.CloseBracket e = refl
break_stops q some at kinds.Blank e = refl
break_stops q some at kinds.LineEnd e = refl
break_stops q some at kinds.Semicolon e = refl
break_stops q some at kinds.Hash e = refl
break_stops q some at kinds.Backslash e = refl
break_stops q some at kinds.OpenBrace e = refl
break_stops q some at kinds.CloseBrace e = refl
break_stops q some at kinds.Quote e = refl
break_stops q some at kinds.Dollar e = refl
break_stops q some at kinds.OpenBracket e = refl
break_stops q some at kinds.Other e = refl
break_stops q some at kinds.Feed e = refl

glued_stops : (p : Place) (k : Kind) → is_glued k ≡ true → in_behind p k ≡ actions.Stop (stops.Syntax p)
glued_stops p kinds.Blank e = absurd cc
glued_stops p kinds.LineEnd e = absurd cc
glued_stops p kinds.Semicolon e = absurd cc
glued_stops p kinds.Backslash e = absurd cc
glued_stops p kinds.Hash e = refl
glued_stops p kinds.OpenBrace e = refl
glued_stops p kinds.CloseBrace e = refl
glued_stops p kinds.Quote e = refl
glued_stops p kinds.Dollar e = refl
glued_stops p kinds.OpenBracket e = refl
glued_stops p kinds.CloseBracket e = refl
glued_stops p kinds.Digit e = refl
glued_stops p kinds.Other e = refl
glued_stops p kinds.Feed e = absurd cc

end_does : (p : Place) (k : Kind) → is_end k ≡ true → (in_gap true p k ≡ Turn (modes.Gap true)) × (in_gap false p k ≡ End) × (in_bare p k ≡ CloseEnd) × (in_behind p k ≡ End)
end_does p kinds.LineEnd e = (refl, refl, refl, refl)
end_does p kinds.Semicolon e = (refl, refl, refl, refl)
end_does p kinds.Blank e = absurd cc
end_does p kinds.Hash e = absurd cc
end_does p kinds.Backslash e = absurd cc
end_does p kinds.OpenBrace e = absurd cc
end_does p kinds.CloseBrace e = absurd cc
end_does p kinds.Quote e = absurd cc
end_does p kinds.Dollar e = absurd cc
end_does p kinds.OpenBracket e = absurd cc
end_does p kinds.CloseBracket e = absurd cc
end_does p kinds.Digit e = absurd cc
end_does p kinds.Other e = absurd cc
end_does p kinds.Feed e = absurd cc

-- what is a line end
line_does : (k : Kind) → is_line_end k ≡ true → (in_escape k ≡ Close forms.Bare (modes.Gap false)) × ((fresh : Bool) → in_slash fresh k ≡ Turn (modes.Gap fresh)) × ((p : Place) → in_behind_slash p k ≡ Turn (modes.Gap false)) × (in_comment k ≡ Turn (modes.Gap true))
line_does kinds.LineEnd e = (refl, (λ f. refl), (λ p. refl), refl)
line_does kinds.Feed e = (refl, (λ f. refl), (λ p. refl), refl)
line_does kinds.Blank e = absurd cc
line_does kinds.Semicolon e = absurd cc
line_does kinds.Hash e = absurd cc
line_does kinds.Backslash e = absurd cc
line_does kinds.OpenBrace e = absurd cc
line_does kinds.CloseBrace e = absurd cc
line_does kinds.Quote e = absurd cc
line_does kinds.Dollar e = absurd cc
line_does kinds.OpenBracket e = absurd cc
line_does kinds.CloseBracket e = absurd cc
line_does kinds.Digit e = absurd cc
line_does kinds.Other e = absurd cc

-- what stands between words
apart_does : (p : Place) (k : Kind) → is_apart k ≡ true → ((fresh : Bool) → in_gap fresh p k ≡ Turn (modes.Gap fresh)) × (in_bare p k ≡ Close forms.Bare (modes.Gap false)) × (in_behind p k ≡ Turn (modes.Gap false))
apart_does p kinds.Blank e = ((λ f. refl), refl, refl)
apart_does p kinds.Feed e = ((λ f. refl), refl, refl)
apart_does p kinds.LineEnd e = absurd cc
apart_does p kinds.Semicolon e = absurd cc
apart_does p kinds.Hash e = absurd cc
apart_does p kinds.Backslash e = absurd cc
apart_does p kinds.OpenBrace e = absurd cc
apart_does p kinds.CloseBrace e = absurd cc
apart_does p kinds.Quote e = absurd cc
apart_does p kinds.Dollar e = absurd cc
apart_does p kinds.OpenBracket e = absurd cc
apart_does p kinds.CloseBracket e = absurd cc
apart_does p kinds.Digit e = absurd cc
apart_does p kinds.Other e = absurd cc

module _ (kind : ℕ → Kind) where
  -- ---- a byte of a known kind, and one that does a known thing

  pub known : (s : State) (b : ℕ) (k : Kind) (rest : List ℕ) → kind b ≡ k → read kind s (b ∷ rest) ≡ read_on (λ n. read kind n rest) (step_by s b k)
  known s b k rest e = ap (λ j. read_on (λ n. read kind n rest) (step_by s b j)) e

  pub does : (s : State) (b : ℕ) (a : Action) (rest : List ℕ) → decide s.mode s.here (kind b) ≡ a → read kind s (b ∷ rest) ≡ read_on (λ n. read kind n rest) (moved_step b (applied a b s))
  does s b a rest e = ap (λ x. read_on (λ n. read kind n rest) (moved_step b (applied x b s))) e

  -- ---- the inside of words

  digits_more : (q : Bool) (at : Place) (digits : List ℕ) → are_digits kind digits ≡ true → (t : List ℕ) (begun p : Place) (g : Gathered) (rest : List ℕ)
      → read kind (at_mode (modes.Index q true at) t begun p g) (digits ++ rest) ≡ read kind (at_mode (modes.Index q true at) (t ++ characters digits) begun (past p digits) g) rest
  digits_more q at [] h t begun p g rest = ap (λ x. read kind (at_mode (modes.Index q true at) x begun p g) rest) (sym (append-nil t))
  digits_more q at (d ∷ digits) h t begun p g rest =
      let both = and_parts (is_digit (kind d)) (are_digits kind digits) h in
      known (at_mode (modes.Index q true at) t begun p g) d kinds.Digit (digits ++ rest) (digit_is (kind d) both.0)
      ∙ digits_more q at digits both.1 (t ++ encode_utf8 d) begun (past_byte p d) g rest
      ∙ ap (λ x. read kind (at_mode (modes.Index q true at) x begun (past (past_byte p d) digits) g) rest) (append_assoc t (encode_utf8 d) (characters digits))

  digits_first : (q : Bool) (at : Place) (digits : List ℕ) → are_digits kind digits ≡ true → (t : List ℕ) (begun p : Place) (g : Gathered) (rest : List ℕ)
      → read kind (at_mode (modes.Index q false at) t begun p g) (digits ++ rest) ≡ read kind (at_mode (modes.Index q (has_some digits) at) (t ++ characters digits) begun (past p digits) g) rest
  digits_first q at [] h t begun p g rest = ap (λ x. read kind (at_mode (modes.Index q false at) x begun p g) rest) (sym (append-nil t))
  digits_first q at (d ∷ digits) h t begun p g rest =
      let both = and_parts (is_digit (kind d)) (are_digits kind digits) h in
      known (at_mode (modes.Index q false at) t begun p g) d kinds.Digit (digits ++ rest) (digit_is (kind d) both.0)
      ∙ digits_more q at digits both.1 (t ++ encode_utf8 d) begun (past_byte p d) g rest
      ∙ ap (λ x. read kind (at_mode (modes.Index q true at) x begun (past (past_byte p d) digits) g) rest) (append_assoc t (encode_utf8 d) (characters digits))

  -- how the rest of a word's inside is read
  abbrev IsSaid : Bool → List ℕ → List ℕ → Type 0
  IsSaid q raw said = (t : List ℕ) (begun p : Place) (g : Gathered) (rest : List ℕ) → read kind (at_mode (inside q) t begun p g) (raw ++ rest) ≡ read kind (at_mode (inside q) (t ++ characters said) begun (past p raw) g) rest

  index_says : (q : Bool) (digits : List ℕ) (b : ℕ) (raw said : List ℕ) → are_digits kind digits ≡ true → has_some digits ≡ true → kind b ≡ kinds.CloseBracket → IsSaid q raw said
      → (at : Place) (t : List ℕ) (begun p : Place) (g : Gathered) (rest : List ℕ)
      → read kind (at_mode (modes.Index q false at) t begun p g) ((digits ++ (b ∷ raw)) ++ rest) ≡ read kind (at_mode (inside q) (t ++ characters (digits ++ (b ∷ said))) begun (past p (digits ++ (b ∷ raw))) g) rest
  index_says q digits b raw said h some e more at t begun p g rest =
      ap (read kind (at_mode (modes.Index q false at) t begun p g)) (append_assoc digits (b ∷ raw) rest)
      ∙ digits_first q at digits h t begun p g (b ∷ (raw ++ rest))
      ∙ ap (λ k. read kind (at_mode (modes.Index q k at) (t ++ characters digits) begun (past p digits) g) (b ∷ (raw ++ rest))) some
      ∙ known (at_mode (modes.Index q true at) (t ++ characters digits) begun (past p digits) g) b kinds.CloseBracket (raw ++ rest) e
      ∙ more ((t ++ characters digits) ++ encode_utf8 b) begun (past_byte (past p digits) b) g rest
      ∙ ap (λ x. read kind (at_mode (inside q) (((t ++ characters digits) ++ encode_utf8 b) ++ characters said) begun x g) rest) (sym (past-append p digits (b ∷ raw)))
      ∙ ap (λ x. read kind (at_mode (inside q) x begun (past p (digits ++ (b ∷ raw))) g) rest)
      (append_assoc (t ++ characters digits) (encode_utf8 b) (characters said) ∙ append_assoc t (characters digits) (encode_utf8 b ++ characters said) ∙ ap (λ x. t ++ x) (sym (characters-append digits (b ∷ said))))

  bracket_says : (q : Bool) (p : Place) → decide (inside q) p kinds.OpenBracket ≡ Say (modes.Index q false p)
  bracket_says true p = refl
  bracket_says false p = refl

  says : (q : Bool) (raw said : List ℕ) → Saying kind q raw said → IsSaid q raw said
  says q raw said words.Nothing t begun p g rest = ap (λ x. read kind (at_mode (inside q) x begun p g) rest) (sym (append-nil t))
  says q raw said (words.Plain b raw2 said2 e more) t begun p g rest =
      does (at_mode (inside q) t begun p g) b (Say (inside q)) (raw2 ++ rest) (plain_says q p (kind b) e)
      ∙ says q raw2 said2 more (t ++ encode_utf8 b) begun (past_byte p b) g rest
      ∙ ap (λ x. read kind (at_mode (inside q) x begun (past (past_byte p b) raw2) g) rest) (append_assoc t (encode_utf8 b) (characters said2))
  says true raw said (words.Escaped a b raw2 said2 f ea eb more) t begun p g rest = absurd cc
  says false raw said (words.Escaped a b raw2 said2 f ea eb more) t begun p g rest =
      known (at_mode modes.Bare t begun p g) a kinds.Backslash (b ∷ (raw2 ++ rest)) ea
      ∙ does (at_mode modes.Escape t begun (past_byte p a) g) b (Say modes.Bare) (raw2 ++ rest) (escape_says (kind b) eb).0
      ∙ says false raw2 said2 more (t ++ encode_utf8 b) begun (past_byte (past_byte p a) b) g rest
      ∙ ap (λ x. read kind (at_mode modes.Bare x begun (past (past_byte (past_byte p a) b) raw2) g) rest) (append_assoc t (encode_utf8 b) (characters said2))
  says q raw said (words.Index a digits b raw2 said2 ea h some eb more) t begun p g rest =
      does (at_mode (inside q) t begun p g) a (Say (modes.Index q false p)) ((digits ++ (b ∷ raw2)) ++ rest) (ap (decide (inside q) p) ea ∙ bracket_says q p)
      ∙ index_says q digits b raw2 said2 h some eb (says q raw2 said2 more) p (t ++ encode_utf8 a) begun (past_byte p a) g rest
      ∙ ap (λ x. read kind (at_mode (inside q) x begun (past (past_byte p a) (digits ++ (b ∷ raw2))) g) rest) (append_assoc t (encode_utf8 a) (characters (digits ++ (b ∷ said2))))

  -- ---- where a word begins

  abbrev pub mode_of : Stand → Mode
  mode_of Fresh = modes.Gap true
  mode_of Between = modes.Gap false
  mode_of Ended = modes.Bare
  mode_of Behind = modes.Behind

  abbrev is_fresh : Stand → Bool
  is_fresh Fresh = true
  is_fresh s = false

  gap_of : (s : Stand) → takes_word s ≡ true → mode_of s ≡ modes.Gap (is_fresh s)
  gap_of Fresh h = refl
  gap_of Between h = refl
  gap_of Ended h = absurd cc
  gap_of Behind h = absurd cc

  begins_says : (s : Stand) (p : Place) (k : Kind) → takes_word s ≡ true → begins_bare s k ≡ true → is_plain false k ≡ true → decide (mode_of s) p k ≡ Begin modes.Bare
  begins_says Ended p k h b e = absurd cc
  begins_says Behind p k h b e = absurd cc
  begins_says s p kinds.Blank h b e = absurd cc
  begins_says s p kinds.LineEnd h b e = absurd cc
  begins_says s p kinds.Semicolon h b e = absurd cc
  begins_says s p kinds.Backslash h b e = absurd cc
  begins_says s p kinds.Dollar h b e = absurd cc
  begins_says s p kinds.OpenBracket h b e = absurd cc
  begins_says s p kinds.Feed h b e = absurd cc
  begins_says Fresh p kinds.OpenBrace h b e = absurd cc
  begins_says Fresh p kinds.Quote h b e = absurd cc
  begins_says Fresh p kinds.Hash h b e = absurd cc
  begins_says Fresh p kinds.CloseBrace h b e = refl
  begins_says Fresh p kinds.CloseBracket h b e = refl
  begins_says Fresh p kinds.Digit h b e = refl
  begins_says Fresh p kinds.Other h b e = refl
  begins_says Between p kinds.OpenBrace h b e = absurd cc
  begins_says Between p kinds.Quote h b e = absurd cc
  begins_says Between p kinds.Hash h b e = refl
  begins_says Between p kinds.CloseBrace h b e = refl
  begins_says Between p kinds.CloseBracket h b e = refl
  begins_says Between p kinds.Digit h b e = refl
  begins_says Between p kinds.Other h b e = refl

  opening : (s : Stand) (p : Place) → takes_word s ≡ true → (decide (mode_of s) p kinds.Backslash ≡ Open (modes.Slash (is_fresh s))) × (decide (mode_of s) p kinds.OpenBracket ≡ Begin (modes.Index false false p))
      × (decide (mode_of s) p kinds.OpenBrace ≡ Open (modes.Braces 0)) × (decide (mode_of s) p kinds.Quote ≡ Open modes.Quotes) × (decide (mode_of s) p kinds.Dollar ≡ actions.Stop (stops.Dollar p))
  opening Fresh p h = (refl, refl, refl, refl, refl)
  opening Between p h = (refl, refl, refl, refl, refl)
  opening Ended p h = absurd cc
  opening Behind p h = absurd cc

  begins : (s : Stand) → takes_word s ≡ true → (raw said : List ℕ) → has_some raw ≡ true → may_begin kind s raw ≡ true → Saying kind false raw said → (t : List ℕ) (begun p : Place) (g : Gathered) (rest : List ℕ)
      → read kind (at_mode (mode_of s) t begun p g) (raw ++ rest) ≡ read kind (at_mode modes.Bare (characters said) p (past p raw) g) rest
  begins s h raw said some may words.Nothing t begun p g rest = absurd cc
  begins s h raw said some may (words.Plain b raw2 said2 e more) t begun p g rest =
      does (at_mode (mode_of s) t begun p g) b (Begin modes.Bare) (raw2 ++ rest) (begins_says s p (kind b) h may e)
      ∙ says false raw2 said2 more (encode_utf8 b) p (past_byte p b) g rest
  begins s h raw said some may (words.Escaped a b raw2 said2 f ea eb more) t begun p g rest =
      does (at_mode (mode_of s) t begun p g) a (Open (modes.Slash (is_fresh s))) (b ∷ (raw2 ++ rest)) (ap (decide (mode_of s) p) ea ∙ (opening s p h).0)
      ∙ does (at_mode (modes.Slash (is_fresh s)) [] p (past_byte p a) g) b (Say modes.Bare) (raw2 ++ rest) ((escape_says (kind b) eb).1 (is_fresh s))
      ∙ says false raw2 said2 more (encode_utf8 b) p (past_byte (past_byte p a) b) g rest
  begins s h raw said some may (words.Index a digits b raw2 said2 ea hd sd eb more) t begun p g rest =
      does (at_mode (mode_of s) t begun p g) a (Begin (modes.Index false false p)) ((digits ++ (b ∷ raw2)) ++ rest) (ap (decide (mode_of s) p) ea ∙ (opening s p h).1)
      ∙ index_says false digits b raw2 said2 hd sd eb (says false raw2 said2 more) p (encode_utf8 a) p (past_byte p a) g rest

  -- ---- faults

  index_breaks : (q : Bool) (at : Place) (digits rest : List ℕ) → are_digits kind digits ≡ true → breaks kind (has_some digits) rest ≡ true → (t : List ℕ) (begun p : Place) (g : Gathered)
      → read kind (at_mode (modes.Index q false at) t begun p g) (digits ++ rest) ≡ outcome_of g (Some (stops.Bracket at))
  index_breaks q at digits rest h br t begun p g = digits_first q at digits h t begun p g rest ∙ by rest br
    where
      by : (rest : List ℕ) → breaks kind (has_some digits) rest ≡ true → read kind (at_mode (modes.Index q (has_some digits) at) (t ++ characters digits) begun (past p digits) g) rest ≡ outcome_of g (Some (stops.Bracket at))
      by [] e = refl
      by (c ∷ more) e = does (at_mode (modes.Index q (has_some digits) at) (t ++ characters digits) begun (past p digits) g) c (actions.Stop (stops.Bracket at)) more (break_stops q (has_some digits) at (kind c) e)

  fault_inside : (q : Bool) (p : Place) (rest : List ℕ) (x : Stop) → Fault kind q p rest x → (t : List ℕ) (begun : Place) (g : Gathered) → read kind (at_mode (inside q) t begun p g) rest ≡ outcome_of g (Some x)
  fault_inside true p rest x (words.Dollar b more e) t begun g = known (at_mode modes.Quotes t begun p g) b kinds.Dollar more e
  fault_inside false p rest x (words.Dollar b more e) t begun g = known (at_mode modes.Bare t begun p g) b kinds.Dollar more e
  fault_inside q p rest x (words.Bracket b digits more e h br) t begun g =
      does (at_mode (inside q) t begun p g) b (Say (modes.Index q false p)) (digits ++ more) (ap (decide (inside q) p) e ∙ bracket_says q p)
      ∙ index_breaks q p digits more h br (t ++ encode_utf8 b) begun (past_byte p b) g
  fault_inside true p rest x (words.Escape b f e) t begun g = absurd cc
  fault_inside false p rest x (words.Escape b f e) t begun g = known (at_mode modes.Bare t begun p g) b kinds.Backslash [] e
  fault_inside true p rest x (words.Unquoted f) t begun g = refl
  fault_inside false p rest x (words.Unquoted f) t begun g = absurd cc

  fault_first : (s : Stand) → takes_word s ≡ true → (p : Place) (rest : List ℕ) (x : Stop) → Fault kind false p rest x → (t : List ℕ) (begun : Place) (g : Gathered) → read kind (at_mode (mode_of s) t begun p g) rest ≡ outcome_of g (Some x)
  fault_first s h p rest x (words.Dollar b more e) t begun g = does (at_mode (mode_of s) t begun p g) b (actions.Stop (stops.Dollar p)) more (ap (decide (mode_of s) p) e ∙ (opening s p h).4)
  fault_first s h p rest x (words.Bracket b digits more e hd br) t begun g =
      does (at_mode (mode_of s) t begun p g) b (Begin (modes.Index false false p)) (digits ++ more) (ap (decide (mode_of s) p) e ∙ (opening s p h).1)
      ∙ index_breaks false p digits more hd br (encode_utf8 b) p (past_byte p b) g
  fault_first s h p rest x (words.Escape b f e) t begun g = does (at_mode (mode_of s) t begun p g) b (Open (modes.Slash (is_fresh s))) [] (ap (decide (mode_of s) p) e ∙ (opening s p h).0)
  fault_first s h p rest x (words.Unquoted f) t begun g = absurd cc

  in_bare_word : (s : Stand) → takes_word s ≡ true → (raw said rest : List ℕ) (x : Stop) → may_begin kind s raw ≡ true → Saying kind false raw said → (p : Place) → Fault kind false (past p raw) rest x
      → (t : List ℕ) (begun : Place) (g : Gathered) → read kind (at_mode (mode_of s) t begun p g) (raw ++ rest) ≡ outcome_of g (Some x)
  in_bare_word s h [] said rest x may inner p f t begun g = fault_first s h p rest x f t begun g
  in_bare_word s h (b ∷ raw) said rest x may inner p f t begun g =
      begins s h (b ∷ raw) said refl may inner t begun p g rest ∙ fault_inside false (past p (b ∷ raw)) rest x f (characters said) p g

  -- ---- braces and comments

  closing_is : (k : Kind) (d : ℕ) → k ≡ kinds.CloseBrace → d ≡ 0 → depth_after k d ≡ None
  closing_is k d e z = ap (λ j. depth_after j d) e ∙ ap (depth_after kinds.CloseBrace) z

  braces_close : (inner : List ℕ) (d : ℕ) → nests kind true d inner ≡ true → (b : ℕ) → kind b ≡ kinds.CloseBrace → (t : List ℕ) (begun p : Place) (g : Gathered) (rest : List ℕ)
      → read kind (at_mode (modes.Braces d) t begun p g) (inner ++ (b ∷ rest))
      ≡ read kind (at_mode modes.Behind (t ++ characters inner) begun (past p (inner ++ b ∷ [])) (with_word (record { text = t ++ characters inner; form = forms.Braces; place = begun }) g)) rest
  braces_close [] d h b e t begun p g rest =
      let zero_is : d ≡ 0 = eqb-true d 0 h in
      does (at_mode (modes.Braces d) t begun p g) b (Close forms.Braces modes.Behind) rest (ap (λ o. braces_on o) (closing_is (kind b) d e zero_is))
      ∙ ap (λ x. read kind (at_mode modes.Behind x begun (past_byte p b) (with_word (record { text = x; form = forms.Braces; place = begun }) g)) rest) (sym (append-nil t))
  braces_close (c ∷ inner) d h b e t begun p g rest = by (depth_after (kind c) d) refl (λ d2 h2. braces_close inner d2 h2 b e (t ++ encode_utf8 c) begun (past_byte p c) g rest)
    where
      by : (o : Option ℕ) → depth_after (kind c) d ≡ o
          → ((d2 : ℕ) → nests kind true d2 inner ≡ true → read kind (at_mode (modes.Braces d2) (t ++ encode_utf8 c) begun (past_byte p c) g) (inner ++ (b ∷ rest))
          ≡ read kind (at_mode modes.Behind ((t ++ encode_utf8 c) ++ characters inner) begun (past (past_byte p c) (inner ++ b ∷ [])) (with_word (record { text = (t ++ encode_utf8 c) ++ characters inner; form = forms.Braces; place = begun }) g)) rest)
          → read kind (at_mode (modes.Braces d) t begun p g) (c ∷ (inner ++ (b ∷ rest)))
          ≡ read kind (at_mode modes.Behind (t ++ characters (c ∷ inner)) begun (past p (c ∷ (inner ++ b ∷ []))) (with_word (record { text = t ++ characters (c ∷ inner); form = forms.Braces; place = begun }) g)) rest
      by None o more = let gone : false ≡ true = ap (λ x. nests_on (λ f. nests kind true f inner) x) (sym o) ∙ h in absurd cc
      by (Some d2) o more =
          does (at_mode (modes.Braces d) t begun p g) c (Say (modes.Braces d2)) (inner ++ (b ∷ rest)) (ap (λ x. braces_on x) o)
          ∙ more d2 (ap (λ x. nests_on (λ f. nests kind true f inner) x) (sym o) ∙ h)
          ∙ ap (λ x. read kind (at_mode modes.Behind x begun (past (past_byte p c) (inner ++ b ∷ [])) (with_word (record { text = x; form = forms.Braces; place = begun }) g)) rest) (append_assoc t (encode_utf8 c) (characters inner))

  braces_stay : (inner : List ℕ) (d : ℕ) → nests kind false d inner ≡ true → (t : List ℕ) (begun p : Place) (g : Gathered) → read kind (at_mode (modes.Braces d) t begun p g) inner ≡ outcome_of g (Some (stops.Syntax (past p inner)))
  braces_stay [] d h t begun p g = refl
  braces_stay (c ∷ inner) d h t begun p g = by (depth_after (kind c) d) refl (λ d2 h2. braces_stay inner d2 h2 (t ++ encode_utf8 c) begun (past_byte p c) g)
    where
      by : (o : Option ℕ) → depth_after (kind c) d ≡ o
          → ((d2 : ℕ) → nests kind false d2 inner ≡ true → read kind (at_mode (modes.Braces d2) (t ++ encode_utf8 c) begun (past_byte p c) g) inner ≡ outcome_of g (Some (stops.Syntax (past (past_byte p c) inner))))
          → read kind (at_mode (modes.Braces d) t begun p g) (c ∷ inner) ≡ outcome_of g (Some (stops.Syntax (past p (c ∷ inner))))
      by None o more = let gone : false ≡ true = ap (λ x. nests_on (λ f. nests kind false f inner) x) (sym o) ∙ h in absurd cc
      by (Some d2) o more =
          does (at_mode (modes.Braces d) t begun p g) c (Say (modes.Braces d2)) inner (ap (λ x. braces_on x) o)
          ∙ more d2 (ap (λ x. nests_on (λ f. nests kind false f inner) x) (sym o) ∙ h)

  no_end : (b : Bool) → not b ≡ true → b ≡ false
  no_end true e = absurd cc
  no_end false e = refl

  abbrev pub in_line : List ℕ → Bool
  in_line inner = list_all (λ c. not (is_line_end (kind c))) inner

  comment_ends : (inner : List ℕ) → in_line inner ≡ true → (b : ℕ) → is_line_end (kind b) ≡ true → (t : List ℕ) (begun p : Place) (g : Gathered) (rest : List ℕ)
      → read kind (at_mode modes.Comment t begun p g) (inner ++ (b ∷ rest)) ≡ read kind (at_mode (modes.Gap true) t begun (past p (inner ++ b ∷ [])) g) rest
  comment_ends [] h b e t begun p g rest = does (at_mode modes.Comment t begun p g) b (Turn (modes.Gap true)) rest (line_does (kind b) e).3
  comment_ends (c ∷ inner) h b e t begun p g rest =
      let both = and_parts (not (is_line_end (kind c))) (in_line inner) h in
      does (at_mode modes.Comment t begun p g) c (Turn modes.Comment) (inner ++ (b ∷ rest)) (escape_says (kind c) (no_end (is_line_end (kind c)) both.0)).3
      ∙ comment_ends inner both.1 b e t begun (past_byte p c) g rest

  comment_lasts : (inner : List ℕ) → in_line inner ≡ true → (t : List ℕ) (begun p : Place) (g : Gathered) → read kind (at_mode modes.Comment t begun p g) inner ≡ outcome_of g None
  comment_lasts [] h t begun p g = refl
  comment_lasts (c ∷ inner) h t begun p g =
      let both = and_parts (not (is_line_end (kind c))) (in_line inner) h in
      does (at_mode modes.Comment t begun p g) c (Turn modes.Comment) inner (escape_says (kind c) (no_end (is_line_end (kind c)) both.0)).3
      ∙ comment_lasts inner both.1 t begun (past_byte p c) g

  -- ---- the whole text

  -- what has been gathered, with the bare word that ends here
  abbrev pub held : Stand → List ℕ → Place → Gathered → Gathered
  held Ended t begun g = with_word (record { text = t; form = forms.Bare; place = begun }) g
  held Fresh t begun g = g
  held Between t begun g = g
  held Behind t begun g = g

  -- a stand where a word may begin holds no word
  with_held : (s : Stand) → takes_word s ≡ true → (t : List ℕ) (begun : Place) (g : Gathered) (ts : List Token) (x : Option Stop) → outcome_of (with_tokens g ts) x ≡ outcome_of (with_tokens (held s t begun g) ts) x
  with_held Fresh h t begun g ts x = refl
  with_held Between h t begun g ts x = refl
  with_held Ended h t begun g ts x = absurd cc
  with_held Behind h t begun g ts x = absurd cc

  pub again : (s : Stand) (p : Place) (text : List ℕ) (ts : List Token) (x : Option Stop) → Spells kind s p text ts x → (t : List ℕ) (begun : Place) (g : Gathered)
      → read kind (at_mode (mode_of s) t begun p g) text ≡ outcome_of (with_tokens (held s t begun g) ts) x
  again Fresh p text ts x (words.Blank s0 p0 b rest ts0 x0 e more) t begun g = does (at_mode (modes.Gap true) t begun p g) b (Turn (modes.Gap true)) rest ((apart_does p (kind b) e).0 true) ∙ again Fresh (past_byte p b) rest ts x more t begun g
  again Between p text ts x (words.Blank s0 p0 b rest ts0 x0 e more) t begun g = does (at_mode (modes.Gap false) t begun p g) b (Turn (modes.Gap false)) rest ((apart_does p (kind b) e).0 false) ∙ again Between (past_byte p b) rest ts x more t begun g
  again Ended p text ts x (words.Blank s0 p0 b rest ts0 x0 e more) t begun g = does (at_mode modes.Bare t begun p g) b (Close forms.Bare (modes.Gap false)) rest (apart_does p (kind b) e).1 ∙ again Between (past_byte p b) rest ts x more t begun (held Ended t begun g)
  again Behind p text ts x (words.Blank s0 p0 b rest ts0 x0 e more) t begun g = does (at_mode modes.Behind t begun p g) b (Turn (modes.Gap false)) rest (apart_does p (kind b) e).2 ∙ again Between (past_byte p b) rest ts x more t begun g
  again Fresh p text ts x (words.Join s0 p0 a b rest ts0 x0 ea eb more) t begun g =
      known (at_mode (modes.Gap true) t begun p g) a kinds.Backslash (b ∷ rest) ea
      ∙ does (at_mode (modes.Slash true) [] p (past_byte p a) g) b (Turn (modes.Gap true)) rest ((line_does (kind b) eb).1 true)
      ∙ again Fresh (past_byte (past_byte p a) b) rest ts x more [] p g
  again Between p text ts x (words.Join s0 p0 a b rest ts0 x0 ea eb more) t begun g =
      known (at_mode (modes.Gap false) t begun p g) a kinds.Backslash (b ∷ rest) ea
      ∙ does (at_mode (modes.Slash false) [] p (past_byte p a) g) b (Turn (modes.Gap false)) rest ((line_does (kind b) eb).1 false)
      ∙ again Between (past_byte (past_byte p a) b) rest ts x more [] p g
  again Ended p text ts x (words.Join s0 p0 a b rest ts0 x0 ea eb more) t begun g =
      known (at_mode modes.Bare t begun p g) a kinds.Backslash (b ∷ rest) ea
      ∙ does (at_mode modes.Escape t begun (past_byte p a) g) b (Close forms.Bare (modes.Gap false)) rest (line_does (kind b) eb).0
      ∙ again Between (past_byte (past_byte p a) b) rest ts x more t begun (held Ended t begun g)
  again Behind p text ts x (words.Join s0 p0 a b rest ts0 x0 ea eb more) t begun g =
      known (at_mode modes.Behind t begun p g) a kinds.Backslash (b ∷ rest) ea
      ∙ does (at_mode (modes.BehindSlash p) t begun (past_byte p a) g) b (Turn (modes.Gap false)) rest ((line_does (kind b) eb).2 p)
      ∙ again Between (past_byte (past_byte p a) b) rest ts x more t begun g
  again s p text ts x (words.Idle p0 b rest ts0 x0 e more) t begun g =
      does (at_mode (modes.Gap true) t begun p g) b (Turn (modes.Gap true)) rest (end_does p (kind b) e).0 ∙ again Fresh (past_byte p b) rest ts x more t begun g
  again s p text ts x (words.Comment p0 a inner b rest ts0 x0 ea h eb more) t begun g =
      known (at_mode (modes.Gap true) t begun p g) a kinds.Hash (inner ++ (b ∷ rest)) ea
      ∙ comment_ends inner h b eb t begun (past_byte p a) g rest
      ∙ again Fresh (past p (a ∷ (inner ++ b ∷ []))) rest ts x more t begun g
  again s p text ts x (words.LastComment p0 a inner ea h) t begun g = known (at_mode (modes.Gap true) t begun p g) a kinds.Hash inner ea ∙ comment_lasts inner h t begun (past_byte p a) g
  again Fresh p text ts x (words.EndOf s0 p0 b rest ts0 x0 begun_is e more) t begun g = absurd cc
  again Between p text ts x (words.EndOf s0 p0 b rest ts0 x0 begun_is e more) t begun g =
      does (at_mode (modes.Gap false) t begun p g) b End rest (end_does p (kind b) e).1 ∙ again Fresh (past_byte p b) rest ts0 x more t begun (with_end p g)
  again Ended p text ts x (words.EndOf s0 p0 b rest ts0 x0 begun_is e more) t begun g =
      does (at_mode modes.Bare t begun p g) b CloseEnd rest (end_does p (kind b) e).2 ∙ again Fresh (past_byte p b) rest ts0 x more t begun (with_end p (held Ended t begun g))
  again Behind p text ts x (words.EndOf s0 p0 b rest ts0 x0 begun_is e more) t begun g =
      does (at_mode modes.Behind t begun p g) b End rest (end_does p (kind b) e).3 ∙ again Fresh (past_byte p b) rest ts0 x more t begun (with_end p g)
  again s p text ts x (words.Done p0) t begun g = refl
  again Fresh p text ts x (words.DoneIn s0 p0 begun_is) t begun g = absurd cc
  again Between p text ts x (words.DoneIn s0 p0 begun_is) t begun g = refl
  again Ended p text ts x (words.DoneIn s0 p0 begun_is) t begun g = refl
  again Behind p text ts x (words.DoneIn s0 p0 begun_is) t begun g = refl
  again s p text ts x (words.Bare s0 p0 raw said rest ts0 x0 h some may inner more) t begun g =
      begins s h raw said some may inner t begun p g rest
      ∙ again Ended (past p raw) rest ts0 x more (characters said) p g
      ∙ with_held s h t begun g ts x
  again s p text ts x (words.Braces s0 p0 a inner b rest ts0 x0 h ea n eb more) t begun g =
      does (at_mode (mode_of s) t begun p g) a (Open (modes.Braces 0)) (inner ++ (b ∷ rest)) (ap (decide (mode_of s) p) ea ∙ (opening s p h).2)
      ∙ braces_close inner 0 n b eb [] p (past_byte p a) g rest
      ∙ again Behind (past p (a ∷ (inner ++ b ∷ []))) rest ts0 x more (characters inner) p (with_word (record { text = characters inner; form = forms.Braces; place = p }) g)
      ∙ with_held s h t begun g ts x
  again s p text ts x (words.Quotes s0 p0 a raw said b rest ts0 x0 h ea inner eb more) t begun g =
      does (at_mode (mode_of s) t begun p g) a (Open modes.Quotes) (raw ++ (b ∷ rest)) (ap (decide (mode_of s) p) ea ∙ (opening s p h).3)
      ∙ says true raw said inner [] p (past_byte p a) g (b ∷ rest)
      ∙ known (at_mode modes.Quotes (characters said) p (past (past_byte p a) raw) g) b kinds.Quote rest eb
      ∙ ap (λ y. read kind (at_mode modes.Behind (characters said) p y (with_word (record { text = characters said; form = forms.Quotes; place = p }) g)) rest) (sym (past-append (past_byte p a) raw (b ∷ [])))
      ∙ again Behind (past p (a ∷ (raw ++ b ∷ []))) rest ts0 x more (characters said) p (with_word (record { text = characters said; form = forms.Quotes; place = p }) g)
      ∙ with_held s h t begun g ts x
  again s p text ts x (words.InBare s0 p0 raw said rest x0 h may inner f) t begun g = in_bare_word s h raw said rest x0 may inner p f t begun g ∙ with_held s h t begun g ts x
  again s p text ts x (words.InBraces s0 p0 a inner h ea n) t begun g =
      does (at_mode (mode_of s) t begun p g) a (Open (modes.Braces 0)) inner (ap (decide (mode_of s) p) ea ∙ (opening s p h).2)
      ∙ braces_stay inner 0 n [] p (past_byte p a) g
      ∙ with_held s h t begun g ts x
  again s p text ts x (words.InQuotes s0 p0 a raw said rest x0 h ea inner f) t begun g =
      does (at_mode (mode_of s) t begun p g) a (Open modes.Quotes) (raw ++ rest) (ap (decide (mode_of s) p) ea ∙ (opening s p h).3)
      ∙ says true raw said inner [] p (past_byte p a) g rest
      ∙ fault_inside true (past p (a ∷ raw)) rest x0 f (characters said) p g
      ∙ with_held s h t begun g ts x
  again s p text ts x (words.Glued p0 b rest e) t begun g = does (at_mode modes.Behind t begun p g) b (actions.Stop (stops.Syntax p)) rest (glued_stops p (kind b) e)
  again s p text ts x (words.GluedEscape p0 a b rest ea eb) t begun g =
      known (at_mode modes.Behind t begun p g) a kinds.Backslash (b ∷ rest) ea
      ∙ does (at_mode (modes.BehindSlash p) t begun (past_byte p a) g) b (actions.Stop (stops.Syntax p)) rest ((escape_says (kind b) eb).2 p)
  again s p text ts x (words.LastEscape p0 a ea) t begun g = known (at_mode modes.Behind t begun p g) a kinds.Backslash [] ea
