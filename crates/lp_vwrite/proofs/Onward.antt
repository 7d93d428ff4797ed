-- Steps through a text, word by word: a state from which what follows leads to an outcome, whatever blanks come first.
use Rattle.std.proofs.Common.{◌≡◌, ℕ, suc, ◌+◌, ◌-◌, ◌≤◌, Bool, true, false, List, [], ◌∷◌, ◌++◌, length, drop, None, Some, refl, sym, ap, ◌∙◌, subst, arith, append_assoc}
use Rattle.std.specs.Prelude.{IsTrue, ◌||◌, ◌==◌, max}
use Rattle.std.specs.List.{list_all}
use Rattle.std.proofs.lemmas.Bool.{and_parts, and_from}
use Rattle.std.proofs.lemmas.List.Folds.{list_all-append}
use Rattle.std.proofs.Math.Seq.{drop-append_seam}
use Rattle.lp_verilog_tokens.specs.Lexical.{is_blank}
use Rattle.lp_verilog_tokens.specs.Cutting.{Lexeme, Piece, gap_behind, piece_of, piece_after, piece_behind}
use Rattle.lp_verilog_tokens.specs.declared.gap.GapMode.TheVariants.{Between}
use Rattle.lp_verilog_grammar.specs.declared.reader.Reader.{Reader}
use Rattle.lp_verilog_draft.specs.Verdicts.{Verdict, Goes, Stops}
use Rattle.lp_verilog_grammar.specs.Machine.{step}
use Rattle.lp_verilog.specs.Reading.{Outcome, ending, behind, piece_bytes}
use Rattle.lp_verilog.specs.Denotes.{numbered, is_known, Follows, Leads}
use Rattle.lp_vwrite.proofs.Tokens.{Begins}

-- blanks are a gap, and so is what begins no token behind them
gap_over : (text : List ℕ) → ((f : Bool) (k : ℕ) → gap_behind (Between f) k text ≡ Some k) → (gap : List ℕ) (fresh : Bool) (n : ℕ) → IsTrue (list_all is_blank gap) → gap_behind (Between fresh) n (gap ++ text) ≡ Some (n + length gap)
gap_over text ends [] fresh n blank = let same : n ≡ n + 0 = omega arith in ends fresh n ∙ ap (λ (k : ℕ). Some k) same
gap_over text ends (b ∷ gap) fresh n blank =
    let parts = and_parts (is_blank b) (list_all is_blank gap) blank in
    let more = gap_over text ends gap (fresh || (b == 10)) (n + 1) parts.1 in
    let same : n + 1 + length gap ≡ n + suc (length gap) = omega arith in
    rw (parts.0) (more ∙ ap (λ (k : ℕ). Some k) same)

-- the first word behind some blanks
pub piece_at : (l : Lexeme) (word rest gap : List ℕ) (fresh : Bool) → Begins l word rest → IsTrue (list_all is_blank gap) → piece_of fresh (gap ++ (word ++ rest)) ≡ Some (record { gap = length gap; size = length word; lexeme = l })
piece_at l word rest gap fresh b blank =
    let text = gap ++ (word ++ rest) in
    let over : gap_behind (Between fresh) 0 text ≡ Some (0 + length gap) = gap_over (word ++ rest) b.first gap fresh 0 blank in
    let same : 0 + length gap ≡ length gap = omega arith in
    let behind_gap : drop (length gap) text ≡ word ++ rest = drop-append_seam gap (word ++ rest) in
    ap (piece_after text) (over ∙ ap (λ (k : ℕ). Some k) same) ∙ ap (piece_behind (length text) (length gap)) behind_gap ∙ b.piece (length text) (length gap)

behind_at : (l : Lexeme) (word rest gap : List ℕ) → 1 ≤ length word → behind (record { gap = length gap; size = length word; lexeme = l }) (gap ++ (word ++ rest)) ≡ rest
behind_at l word rest gap filled =
    let size : max (length word) 1 ≡ length word = omega arith in
    ap (λ n. drop n (drop (length gap) (gap ++ (word ++ rest)))) size ∙ ap (drop (length word)) (drop-append_seam gap (word ++ rest)) ∙ drop-append_seam word rest

-- a step that goes on to a state of which this holds
abbrev pub Then : (Reader → Type 0) → Verdict Reader → Type 0
Then more (Goes m) = more m
Then more (Stops off) = ⊥

module _ (names : List (List ℕ)) (size : ℕ) (o : Outcome) where
  -- what is left of a text leads from a state to the outcome
  abbrev pub Led : Bool → List ℕ → Reader → Type 0
  Led fresh rest m = (tokens : List Piece) × Leads names size tokens fresh rest m o

  -- the same, whatever blanks come first
  abbrev pub Onward : List ℕ → Reader → Type 0
  Onward rest m = (fresh : Bool) (gap : List ℕ) → IsTrue (list_all is_blank gap) → Led fresh (gap ++ rest) m

  -- one word
  pub word_onward : (l : Lexeme) (word rest : List ℕ) (m : Reader) → Begins l word rest → is_known names l ≡ true → ((at : ℕ) → Then (Onward rest) (step (numbered names l) at m)) → Onward (word ++ rest) m
  word_onward l word rest m b known next = λ fresh gap blank.
      let text = gap ++ (word ++ rest) in
      let p : Piece = record { gap = length gap; size = length word; lexeme = l } in
      let at = size - length text + length gap in
      let c = on text p at (behind_at l word rest gap b.filled) (step (numbered names l) at m) (next at) in
      (p ∷ c.0, (piece_at l word rest gap fresh b blank, known, c.1))
    where
      on : (text : List ℕ) (p : Piece) (at : ℕ) → behind p text ≡ rest → (v : Verdict Reader) → Then (Onward rest) v → (ts : List Piece) × Follows (λ n. Leads names size ts false (behind p text) n o) ts at (piece_bytes p text) o v
      on text p at is (Goes n) h =
          let led = h false [] refl in
          (led.0, subst (λ r. Leads names size led.0 false r n o) (sym is) led.1)
      on text p at is (Stops off) h = absurd h

  -- blanks
  pub blanks_onward : (g rest : List ℕ) (m : Reader) → IsTrue (list_all is_blank g) → Onward rest m → Onward (g ++ rest) m
  blanks_onward g rest m all h = λ fresh gap blank.
      subst (λ t. Led fresh t m) (append_assoc gap g rest) (h fresh (gap ++ g) (list_all-append is_blank gap g ∙ and_from (list_all is_blank gap) (list_all is_blank g) blank all))

  -- the end of the text
  pub end_onward : (m : Reader) → o ≡ ending size m → Onward [] m
  end_onward m is = λ fresh gap blank.
      let over : gap_behind (Between fresh) 0 (gap ++ []) ≡ Some (0 + length gap) = gap_over [] (λ f k. refl) gap fresh 0 blank in
      let same : 0 + length gap ≡ length gap = omega arith in
      let none : drop (length gap) (gap ++ []) ≡ [] = drop-append_seam gap [] in
      ([], (ap (piece_after (gap ++ [])) (over ∙ ap (λ (k : ℕ). Some k) same) ∙ ap (piece_behind (length (gap ++ [])) (length gap)) none, is))

  -- two states that the next word takes to the same one
  pub same_onward : (l : Lexeme) (g word rest : List ℕ) (m n : Reader) → IsTrue (list_all is_blank g) → Begins l word rest → ((at : ℕ) → step (numbered names l) at m ≡ step (numbered names l) at n) → Onward (g ++ (word ++ rest)) n → Onward (g ++ (word ++ rest)) m
  same_onward l g word rest m n all b same h = λ fresh gap blank.
      let both : IsTrue (list_all is_blank (gap ++ g)) = list_all-append is_blank gap g ∙ and_from (list_all is_blank gap) (list_all is_blank g) blank all in
      let text = gap ++ (g ++ (word ++ rest)) in
      let p : Piece = record { gap = length (gap ++ g); size = length word; lexeme = l } in
      let e : piece_of fresh text ≡ Some p = subst (λ t. piece_of fresh t ≡ Some p) (append_assoc gap g (word ++ rest)) (piece_at l word rest (gap ++ g) fresh b both) in
      by fresh text p refl e (h fresh gap blank).0 (h fresh gap blank).1
    where
      by : (fresh : Bool) (text : List ℕ) (p : Piece) → p.lexeme ≡ l → piece_of fresh text ≡ Some p → (ts : List Piece) → Leads names size ts fresh text n o → Led fresh text m
      by fresh text p is e [] led = let no : None ≡ Some p = sym led.0 ∙ e in absurd cc
      by fresh text p is e (q ∷ ts) led =
          let one : Some q ≡ Some p = sym led.0 ∙ e in
          let at = size - length text + q.gap in
          let lexeme : q.lexeme ≡ l = let one_piece : q ≡ p = cc in ap (λ (x : Piece). x.lexeme) one_piece ∙ is in
          let stepped : step (numbered names q.lexeme) at n ≡ step (numbered names q.lexeme) at m = ap (λ x. step (numbered names x) at n) lexeme ∙ sym (same at) ∙ ap (λ x. step (numbered names x) at m) (sym lexeme) in
          (q ∷ ts, (led.0, led.1, subst (Follows (λ k. Leads names size ts false (behind q text) k o) ts at (piece_bytes q text) o) stepped led.2))
