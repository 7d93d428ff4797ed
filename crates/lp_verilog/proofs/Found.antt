-- What is read is what the text denotes, in the table of names at the end.
use Rattle.std.proofs.Common.{◌≡◌, ℕ, ◌+◌, ◌-◌, ◌<◌, ◌≤◌, Bool, true, false, List, [], ◌∷◌, ◌++◌, length, drop, Option, Some, None, refl, sym, ap, ◌∙◌, subst, arith, append_assoc}
use Rattle.std.specs.Prelude.{unwrap_or, max, is_some, if◌then◌else◌}
use Rattle.std.proofs.lemmas.List.{append-nil, length-drop}
use Rattle.lp_text.specs.Texts.{Grown, place_of, has_text, with_text, place_of-append_left, place_of-push, is_some-place_of}
use Rattle.lp_verilog_tokens.specs.declared.token.Token.TheVariants as tokens
use Rattle.lp_verilog_grammar.specs.declared.reader.Reader.{Reader}
use Rattle.lp_verilog_tokens.specs.Cutting.{Lexeme, Named, Plain, Piece, piece_of}
use Rattle.lp_verilog_draft.specs.Verdicts.{Verdict, Goes, Stops}
use Rattle.lp_verilog_grammar.specs.Machine.{start, step}
use Rattle.lp_verilog.specs.Reading.{Outcome, Left, behind, piece_bytes, turned, stepped, read_rest, token_in, names_with}
use Rattle.lp_verilog.specs.Denotes.{numbered, is_known, Follows, Leads, LeadsTo}

pub grown_same : (names : List (List ℕ)) → Grown names names
grown_same names = record { more = []; is = sym (append-nil names) }

pub grown_trans : (a b c : List (List ℕ)) → Grown a b → Grown b c → Grown a c
grown_trans a b c g h = record { more = g.more ++ h.more; is = h.is ∙ ap (λ xs. xs ++ h.more) g.is ∙ append_assoc a g.more h.more }

pub grown_text : (names : List (List ℕ)) (text : List ℕ) → Grown names (with_text names text)
grown_text names text = by (has_text text names)
  where
    by : (b : Bool) → Grown names (if b then names else names ++ text ∷ [])
    by true = grown_same names
    by false = record { more = text ∷ []; is = refl }

pub grown_with : (names : List (List ℕ)) (l : Lexeme) → Grown names (names_with names l)
grown_with names (Plain t) = grown_same names
grown_with names (Named text) = grown_text names text

-- a text that was put into a table has a place there
placed : (names : List (List ℕ)) (text : List ℕ) → (k : ℕ) × (place_of text (with_text names text) ≡ Some k)
placed names text = by (has_text text names) refl
  where
    there : (o : Option ℕ) → place_of text names ≡ o → has_text text names ≡ true → (k : ℕ) × (place_of text names ≡ Some k)
    there None e h = let no : false ≡ true = ap is_some (sym e) ∙ is_some-place_of text names ∙ h in absurd cc
    there (Some k) e h = (k, e)

    by : (b : Bool) → has_text text names ≡ b → (k : ℕ) × (place_of text (if b then names else names ++ text ∷ []) ≡ Some k)
    by true e = there (place_of text names) refl e
    by false e = (length names, place_of-push names text e)

pub has_put : (names : List (List ℕ)) (text : List ℕ) → has_text text (with_text names text) ≡ true
has_put names text = let p = placed names text in sym (is_some-place_of text (with_text names text)) ∙ ap is_some p.1

-- a token has the same number in every table that has grown from its own
pub same_token : (names final : List (List ℕ)) (l : Lexeme) → Grown (names_with names l) final → (token_in names l ≡ numbered final l) × (is_known final l ≡ true)
same_token names final (Plain t) g = (refl, refl)
same_token names final (Named text) g =
    let p = placed names text in
    let there : place_of text final ≡ Some p.0 = ap (place_of text) g.is ∙ place_of-append_left text (with_text names text) g.more p.0 p.1 in
    let number : unwrap_or (place_of text (with_text names text)) 0 ≡ unwrap_or (place_of text final) 0 = ap (λ o. unwrap_or o 0) (p.1 ∙ sym there) in
    let known : has_text text final ≡ true = sym (is_some-place_of text final) ∙ some_there (place_of text final) p.0 there in
    (ap (λ n. tokens.Name (record { 0 = n })) number, known)
  where
    some_there : (o : Option ℕ) (k : ℕ) → o ≡ Some k → is_some o ≡ true
    some_there o k e = rw e refl

-- where a token is read, less is left than before it
pub shorter : (fresh : Bool) (rest : List ℕ) (p : Piece) → piece_of fresh rest ≡ Some p → length (behind p rest) < length rest
shorter fresh [] p e = absurd cc
shorter fresh (b ∷ rest) p e = omega (arith, length-drop (max p.size 1) (drop p.gap (b ∷ rest)), length-drop p.gap (b ∷ rest))

-- names only come behind those of a table
pub reading_grows : (fuel : List ℕ) (size : ℕ) (fresh : Bool) (rest : List ℕ) (names : List (List ℕ)) (m : Reader) → Grown names (read_rest fuel size fresh rest names m).names
reading_grows [] size fresh rest names m = grown_same names
reading_grows (b ∷ fuel) size fresh rest names m = by (piece_of fresh rest) (λ r ns n. reading_grows fuel size false r ns n)
  where
    on : (p : Piece) (v : Verdict Reader) → ((r : List ℕ) (ns : List (List ℕ)) (n : Reader) → Grown ns (read_rest fuel size false r ns n).names) → Grown (names_with names p.lexeme) (stepped (λ ns n. read_rest fuel size false (behind p rest) ns n) (size - length rest + p.gap) p rest (names_with names p.lexeme) v).names
    on p (Goes n) more = more (behind p rest) (names_with names p.lexeme) n
    on p (Stops off) more = grown_same (names_with names p.lexeme)

    by : (o : Option Piece) → ((r : List ℕ) (ns : List (List ℕ)) (n : Reader) → Grown ns (read_rest fuel size false r ns n).names) → Grown names (turned (λ r ns n. read_rest fuel size false r ns n) size rest names m o).names
    by None more = grown_same names
    by (Some p) more = grown_trans names (names_with names p.lexeme) _ (grown_with names p.lexeme) (on p (step (token_in names p.lexeme) (size - length rest + p.gap) m) more)

-- what is read from a state is what the tokens that are left lead to
abbrev pub Led : List (List ℕ) → ℕ → Bool → List ℕ → Reader → Outcome → Type 0
Led final size fresh rest m o = (tokens : List Piece) × Leads final size tokens fresh rest m o

pub found_rest : (fuel : List ℕ) (size : ℕ) (fresh : Bool) (rest : List ℕ) (names : List (List ℕ)) (m : Reader) (final : List (List ℕ)) → length rest ≤ length fuel → Grown (read_rest fuel size fresh rest names m).names final → Led final size fresh rest m (read_rest fuel size fresh rest names m).outcome
found_rest [] size fresh [] names m final l g = ([], (refl, refl))
found_rest [] size fresh (b ∷ rest) names m final l g = absurd (omega arith)
found_rest (b ∷ fuel) size fresh rest names m final l g = by (piece_of fresh rest) refl g (λ r ns n. found_rest fuel size false r ns n final)
  where
    More : Type 0
    More = (r : List ℕ) (ns : List (List ℕ)) (n : Reader) → length r ≤ length fuel → Grown (read_rest fuel size false r ns n).names final → Led final size false r n (read_rest fuel size false r ns n).outcome

    on : (p : Piece) → piece_of fresh rest ≡ Some p → (v : Verdict Reader) → step (token_in names p.lexeme) (size - length rest + p.gap) m ≡ v → Grown (stepped (λ ns n. read_rest fuel size false (behind p rest) ns n) (size - length rest + p.gap) p rest (names_with names p.lexeme) v).names final → Grown (names_with names p.lexeme) final → More → Led final size fresh rest m (stepped (λ ns n. read_rest fuel size false (behind p rest) ns n) (size - length rest + p.gap) p rest (names_with names p.lexeme) v).outcome
    on p e (Goes n) s g2 h more =
        let at = size - length rest + p.gap in
        let o = (read_rest fuel size false (behind p rest) (names_with names p.lexeme) n).outcome in
        let short : length (behind p rest) ≤ length fuel = let less = shorter fresh rest p e in omega arith in
        let led = more (behind p rest) (names_with names p.lexeme) n short g2 in
        let same = same_token names final p.lexeme h in
        let stepped_same : Goes n ≡ step (numbered final p.lexeme) at m = sym s ∙ ap (λ t. step t at m) same.0 in
        (p ∷ led.0, (e, same.1, subst (Follows (λ k. Leads final size led.0 false (behind p rest) k o) led.0 at (piece_bytes p rest) o) stepped_same led.1))
    on p e (Stops off) s g2 h more =
        let at = size - length rest + p.gap in
        let o = Left off at (piece_bytes p rest) in
        let same = same_token names final p.lexeme h in
        let stepped_same : Stops off ≡ step (numbered final p.lexeme) at m = sym s ∙ ap (λ t. step t at m) same.0 in
        (p ∷ [], (e, same.1, subst (Follows (λ k. Leads final size [] false (behind p rest) k o) [] at (piece_bytes p rest) o) stepped_same (refl, refl)))

    known : (p : Piece) (v : Verdict Reader) → Grown (stepped (λ ns n. read_rest fuel size false (behind p rest) ns n) (size - length rest + p.gap) p rest (names_with names p.lexeme) v).names final → Grown (names_with names p.lexeme) final
    known p (Goes n) g2 = grown_trans (names_with names p.lexeme) _ final (reading_grows fuel size false (behind p rest) (names_with names p.lexeme) n) g2
    known p (Stops off) g2 = g2

    by : (o : Option Piece) → piece_of fresh rest ≡ o → Grown (turned (λ r ns n. read_rest fuel size false r ns n) size rest names m o).names final → More → Led final size fresh rest m (turned (λ r ns n. read_rest fuel size false r ns n) size rest names m o).outcome
    by None e g2 more = ([], (e, refl))
    by (Some p) e g2 more = let v = step (token_in names p.lexeme) (size - length rest + p.gap) m in on p e v refl g2 (known p v g2) more

-- what is read is what the text leads to, in each table that has grown from the one at the end
pub found : (text : List ℕ) (names final : List (List ℕ)) → Grown (read_rest text (length text) true text names start).names final → LeadsTo final text (read_rest text (length text) true text names start).outcome
found text names final g =
    let led = found_rest text (length text) true text names start final (omega arith) g in
    record { tokens = led.0; leads = led.1 }

module _ (names : List (List ℕ)) (size : ℕ) where
  follow_one : (xs ys : List Piece) (at : ℕ) (bytes rest : List ℕ) (a b : Outcome) (v : Verdict Reader) → ((n : Reader) → Leads names size xs false rest n a → Leads names size ys false rest n b → a ≡ b) → Follows (λ n. Leads names size xs false rest n a) xs at bytes a v → Follows (λ n. Leads names size ys false rest n b) ys at bytes b v → a ≡ b
  follow_one xs ys at bytes rest a b (Goes n) more h k = more n h k
  follow_one xs ys at bytes rest a b (Stops off) more h k = h.1 ∙ sym k.1

  pub leads_one : (xs ys : List Piece) (fresh : Bool) (rest : List ℕ) (m : Reader) (a b : Outcome) → Leads names size xs fresh rest m a → Leads names size ys fresh rest m b → a ≡ b
  leads_one [] [] fresh rest m a b h k = h.1 ∙ sym k.1
  leads_one [] (q ∷ ys) fresh rest m a b h k = let no : None ≡ Some q = sym h.0 ∙ k.0 in absurd cc
  leads_one (p ∷ xs) [] fresh rest m a b h k = let no : None ≡ Some p = sym k.0 ∙ h.0 in absurd cc
  leads_one (p ∷ xs) (q ∷ ys) fresh rest m a b h k =
      let both : Some q ≡ Some p = sym k.0 ∙ h.0 in
      let same : q ≡ p = cc in
      let moved = subst (λ r. Follows (λ n. Leads names size ys false (behind r rest) n b) ys (size - length rest + r.gap) (piece_bytes r rest) b (step (numbered names r.lexeme) (size - length rest + r.gap) m)) same k.2 in
      follow_one xs ys (size - length rest + p.gap) (piece_bytes p rest) (behind p rest) a b (step (numbered names p.lexeme) (size - length rest + p.gap) m) (λ n x y. leads_one xs ys false (behind p rest) n a b x y) h.2 moved

-- a text leads to one outcome
pub one_outcome : (names : List (List ℕ)) (text : List ℕ) (a b : Outcome) → LeadsTo names text a → LeadsTo names text b → a ≡ b
one_outcome names text a b h k = leads_one names (length text) h.tokens k.tokens true text start a b h.leads k.leads
