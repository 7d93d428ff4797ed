-- A netlist stays the same when the table of its names has grown.
use Rattle.std.proofs.Common.{◌≡◌, ℕ, ◌+◌, ◌-◌, ◌≤◌, Bool, true, false, List, [], ◌∷◌, map, length, refl, sym, ap, ◌∙◌, subst, arith}
use Rattle.std.specs.Prelude.{unwrap_or}
use Rattle.std.proofs.lemmas.List.{length-append}
use Rattle.lp_text.specs.Texts.{Grown, distinct, distinct-append_left, place_of, has_text, place_of-append_left}
use Rattle.lp_model.specs.declared.netlist.Module.{Module}
use Rattle.lp_model.specs.NetlistView.{module_view}
use Rattle.lp_verilog_tokens.specs.declared.token.Token.TheVariants as tokens
use Rattle.lp_verilog_grammar.specs.declared.reader.Reader.{Reader}
use Rattle.lp_verilog_tokens.specs.Cutting.{Lexeme, Named, Plain, Piece}
use Rattle.lp_verilog_draft.specs.Verdicts.{Verdict, Goes, Stops}
use Rattle.lp_verilog_grammar.specs.Machine.{start, step}
use Rattle.lp_verilog.specs.Reading.{Outcome, Whole, behind, piece_bytes}
use Rattle.lp_verilog.specs.Denotes.{numbered, is_known, Follows, Leads, Denotes}
use Rattle.lp_verilog.specs.Reads.{Reads}
use Rattle.lp_verilog.proofs.Across.{has_place}
use Rattle.lp_verilog.proofs.Unique.{one_view, covers_left}

module _ (old new : List (List ℕ)) (g : Grown old new) (size : ℕ) where
  pub known_still : (l : Lexeme) → is_known old l ≡ true → is_known new l ≡ true
  known_still (Plain t) h = refl
  known_still (Named t) h = ap (has_text t) g.is ∙ covers_left old g.more t h

  pub number_still : (l : Lexeme) → is_known old l ≡ true → numbered old l ≡ numbered new l
  number_still (Plain t) h = refl
  number_still (Named t) h =
      let p = has_place t old h in
      let there : place_of t new ≡ place_of t old = ap (place_of t) g.is ∙ place_of-append_left t old g.more p.0 p.1 ∙ sym p.1 in
      ap (λ o. tokens.Name (record { 0 = unwrap_or o 0 })) (sym there)

  follows_still : (xs : List Piece) (at : ℕ) (bytes rest : List ℕ) (o : Outcome) (v : Verdict Reader) → ((n : Reader) → Leads old size xs false rest n o → Leads new size xs false rest n o) → Follows (λ n. Leads old size xs false rest n o) xs at bytes o v → Follows (λ n. Leads new size xs false rest n o) xs at bytes o v
  follows_still xs at bytes rest o (Goes n) more h = more n h
  follows_still xs at bytes rest o (Stops f) more h = h

  leads_still : (xs : List Piece) (fresh : Bool) (rest : List ℕ) (m : Reader) (o : Outcome) → Leads old size xs fresh rest m o → Leads new size xs fresh rest m o
  leads_still [] fresh rest m o h = h
  leads_still (p ∷ xs) fresh rest m o h =
      let at = size - length rest + p.gap in
      let next = follows_still xs at (piece_bytes p rest) (behind p rest) o (step (numbered old p.lexeme) at m) (λ n k. leads_still xs false (behind p rest) n o k) h.2 in
      (h.0, known_still p.lexeme h.1, subst (λ t. Follows (λ n. Leads new size xs false (behind p rest) n o) xs at (piece_bytes p rest) o (step t at m)) (number_still p.lexeme h.1) next)

pub denotes_still : (old new : List (List ℕ)) (text : List ℕ) (modules : List Module) → Grown old new → Denotes old text modules → Denotes new text modules
denotes_still old new text modules g h = record { tokens = h.tokens; leads = leads_still old new g (length text) h.tokens true text start (Whole modules) h.leads }

pub seen_still : (old new : List (List ℕ)) (text : List ℕ) (modules : List Module) → Grown old new → distinct new ≡ true → length new ≤ 4294967295 → Denotes old text modules → map (module_view new) modules ≡ map (module_view old) modules
seen_still old new text modules g apart few h =
    let apart_old : distinct old ≡ true = distinct-append_left old g.more (ap distinct (sym g.is) ∙ apart) in
    let long : length new ≡ length old + length g.more = ap length g.is ∙ length-append old g.more in
    let now : Reads text (map (module_view new) modules) = record { names = new; modules = modules; apart = apart; few = few; denotes = denotes_still old new text modules g h; seen = refl } in
    let before : Reads text (map (module_view old) modules) = record { names = old; modules = modules; apart = apart_old; few = omega arith; denotes = h; seen = refl } in
    one_view text (map (module_view new) modules) (map (module_view old) modules) now before
