-- What is read is sound by the texts of its names.
use Rattle.std.proofs.Common.{◌≡◌, ℕ, ◌<◌, Bool, true, List, [], ◌∷◌, length, map, Option, Some, None, refl, sym, ap, ◌∙◌, subst, arith}
use Rattle.std.specs.Prelude.{nat_lt, unwrap_or}
use Rattle.std.specs.List.{list_all, flat_map}
use Rattle.std.proofs.lemmas.Bool.{true≢false, and_parts, and_from}
use Rattle.std.proofs.lemmas.Bool.Decides.{nat_tests}
use Rattle.std.proofs.lemmas.List.Folds.{list_all-append}
use Rattle.lp_text.specs.Texts.{place_of, place_of-Some, text_at, distinct}
use Rattle.lp_model.specs.declared.netlist.Module.{Module}
use Rattle.lp_model.specs.NetlistView.{ModuleView, module_view, module_numbers}
use Rattle.lp_verilog_tokens.specs.declared.token.Token.TheVariants as tokens
use Rattle.lp_verilog_tokens.specs.Lexical.{is_visible}
use Rattle.lp_verilog_tokens.specs.Cutting.{Lexeme, Named, Plain, Piece, piece_of}
use Rattle.lp_verilog_draft.specs.Verdicts.{Verdict, Goes, Stops}
use Rattle.lp_verilog_draft.specs.Steps
use Rattle.lp_verilog_grammar.specs.declared.symbol.Symbol.{Symbol}
use Rattle.lp_verilog_grammar.specs.declared.symbol.Action.{Action}
use Rattle.lp_verilog_tokens.specs.declared.token.Token.{Token}
use Rattle.lp_verilog_grammar.specs.declared.reader.Reader.{Reader}
use Rattle.lp_verilog_grammar.specs.Machine.{with_value, perform}
use Rattle.lp_verilog.specs.Denotes.{numbered, is_known, Denotes}
use Rattle.lp_verilog.specs.Reads.{Reads}
use Rattle.lp_verilog.proofs.Across.{has_place}
use Rattle.lp_verilog.proofs.Pieces.{nameable, fine}
use Rattle.lp_verilog.proofs.Tabled.{piece_is_fine, every_piece_fine}
use Rattle.lp_verilog.proofs.States.{Held, State, After, token_ok, perform_held, start_sound}
use Rattle.lp_verilog.proofs.Phases.{Context, Subject, Filled, Phase, In, act}
use Rattle.lp_verilog.proofs.Phased.{Acted, denoted}
use Rattle.lp_verilog.proofs.Numbers.{Okay, all_pass}
use Rattle.lp_verilog.proofs.Standing.{unnamed_okay}
use Rattle.lp_vwrite.specs.WellFormed.{is_name}
use Rattle.lp_vwrite.specs.Sound.{is_read_module, is_read}
use Rattle.lp_vwrite.proofs.Seen.{is_good, distinct_texts, module_seen}
use Rattle.lp_vwrite.proofs.Formed.{module_names, unique, unique_front, AllEnded, Sized, Forms, acts_formed, awaits_formed, whole_formed, start_forms}

-- ---- a text that is read ends in a state that is sound

module _ (n : ℕ) where
  abbrev pub Holds : Phase → Reader → Type 0
  Holds f m = State n m × Forms n f m

  abbrev pub Fit : Token → Type 0
  Fit t = (token_ok n t ≡ true) × Sized t

  performed : (a : Action) (t : Token) (at : ℕ) (f : Phase) (m : Reader) → Fit t → Holds f m → Acted Holds (act a t f) (perform a t at m)
  performed a t at f m ok h = by (act a t f) (perform a t at m) (perform_held n a t at m h.0 ok.0) (acts_formed n a t at f m ok.1 h.0.names h.1)
    where
      by : (o : Option Phase) (v : Verdict Reader) → Held (After n a m) v → Acted (Forms n) o v → Acted Holds o v
      by None v s k = tt
      by (Some g) (Goes u) s k = (s.0, k)
      by (Some g) (Stops off) s k = tt

  awaits : (f : Phase) (w : List Symbol) (m : Reader) → Holds f m → Holds f (record m { waiting = w })
  awaits f w m h = (h.0, awaits_formed n f w m h.1)

  whole_holds : (c : Context) (m : Reader) → Holds (In c Subject) m → Holds (In c Filled) (with_value m (Steps.value_whole m.value))
  whole_holds c m h = let s = h.0 in (record { names = s.names; modules = s.modules; left = s.left; range = s.range; subject = s.subject }, whole_formed n c m h.1)

  ended : (f : Phase) (m : Reader) → Holds f m → AllEnded n m.modules × (unique (module_names m.modules) ≡ true)
  ended (In c s) m h = (h.1.built, unique_front (module_names m.modules) _ (ap unique (sym h.1.taken) ∙ h.1.apart))

less : (k n : ℕ) → k < n → nat_lt k n ≡ true
less k n h = grind (arith, nat_tests, h)

token_fits : (names : List (List ℕ)) (l : Lexeme) → is_known names l ≡ true → fine l ≡ true → Fit (length names) (numbered names l)
token_fits names (Named text) known f =
    let p = has_place text names known in
    (ap (λ o. nat_lt (unwrap_or o 0) (length names)) p.1 ∙ less p.0 (length names) (place_of-Some text names p.0 p.1).0, tt)
token_fits names (Plain (tokens.Mark mark)) known f = (refl, tt)
token_fits names (Plain (tokens.Keyword word)) known f = (refl, tt)
token_fits names (Plain (tokens.Number None)) known f = (refl, tt)
token_fits names (Plain (tokens.Number (Some v))) known f = (f, tt)
token_fits names (Plain (tokens.Constant size value)) known f = (refl, f)
token_fits names (Plain (tokens.Name id)) known f = (refl, tt)
token_fits names (Plain tokens.Unread) known f = (refl, tt)
token_fits names (Plain tokens.Foreign) known f = (refl, tt)
token_fits names (Plain tokens.Broken) known f = (refl, tt)

piece_fits : (fresh : Bool) (rest : List ℕ) (p : Piece) → piece_of fresh rest ≡ Some p → fine p.lexeme ≡ true
piece_fits fresh rest p e = subst (λ o. piece_is_fine o ≡ true) e (every_piece_fine fresh rest)

nameable_name : (text : List ℕ) → nameable text ≡ true → is_name text ≡ true
nameable_name [] h = absurd (true≢false (sym h))
nameable_name (b ∷ rest) h = (and_parts (list_all is_visible (b ∷ rest)) (nat_lt 0 (length (b ∷ rest))) h).0

token_good : (names : List (List ℕ)) (l : Lexeme) → is_known names l ≡ true → fine l ≡ true → Okay (is_good names) (numbered names l)
token_good names (Plain t) known f = unnamed_okay (is_good names) t
token_good names (Named text) known f =
    let p = has_place text names known in
    let inside = place_of-Some text names p.0 p.1 in
    let number : unwrap_or (place_of text names) 0 ≡ p.0 = ap (λ o. unwrap_or o 0) p.1 in
    ap (is_good names) number ∙ and_from (nat_lt p.0 (length names)) (is_name (text_at names p.0)) (less p.0 (length names) inside.0) (ap is_name inside.1 ∙ nameable_name text f)

pub record Read (names : List (List ℕ)) (ms : List Module) : Type 0 where
  pub ended : AllEnded (length names) ms
  pub apart : unique (module_names ms) ≡ true
  pub good : list_all (is_good names) (flat_map module_numbers ms) ≡ true

read : (names : List (List ℕ)) (text : List ℕ) (ms : List Module) → Denotes names text ms → Read names ms
read names text ms h =
    let n = length names in
    let end = denoted (Holds n) (Fit n) (performed n) (awaits n) (whole_holds n) names text ms (λ fresh rest p e known. token_fits names p.lexeme known (piece_fits fresh rest p e)) h ((start_sound n).state, start_forms n) in
    let s = end.1 in
    let sound = ended n s.phase end.0 s.holds in
    record {
      ended = subst (AllEnded n) end.2 sound.0;
      apart = ap (λ xs. unique (module_names xs)) (sym end.2) ∙ sound.1;
      good = all_pass (is_good names) names text ms (λ fresh rest p e known. token_good names p.lexeme known (piece_fits fresh rest p e)) h;
    }

all_seen : (names : List (List ℕ)) (apart : distinct names ≡ true) (ms : List Module) → AllEnded (length names) ms → list_all (is_good names) (flat_map module_numbers ms) ≡ true → list_all is_read_module (map (module_view names) ms) ≡ true
all_seen names apart [] e g = refl
all_seen names apart (m ∷ ms) e g =
    let goods = and_parts (list_all (is_good names) (module_numbers m)) (list_all (is_good names) (flat_map module_numbers ms)) (sym (list_all-append (is_good names) (module_numbers m) (flat_map module_numbers ms)) ∙ g) in
    and_from (is_read_module (module_view names m)) (list_all is_read_module (map (module_view names) ms)) (module_seen names apart m e.0 goods.0) (all_seen names apart ms e.1 goods.1)

names_good : (names : List (List ℕ)) (ms : List Module) → list_all (is_good names) (flat_map module_numbers ms) ≡ true → list_all (is_good names) (module_names ms) ≡ true
names_good names [] g = refl
names_good names (m ∷ ms) g =
    let goods = and_parts (list_all (is_good names) (module_numbers m)) (list_all (is_good names) (flat_map module_numbers ms)) (sym (list_all-append (is_good names) (module_numbers m) (flat_map module_numbers ms)) ∙ g) in
    and_from (is_good names m.name.0) (list_all (is_good names) (module_names ms)) (and_parts (is_good names m.name.0) _ goods.0).0 (names_good names ms goods.1)

seen_names : (names : List (List ℕ)) (ms : List Module) → map (λ m. m.name) (map (module_view names) ms) ≡ map (text_at names) (module_names ms)
seen_names names [] = refl
seen_names names (m ∷ ms) = ap (λ xs. text_at names m.name.0 ∷ xs) (seen_names names ms)

pub read_is_sound : (text : List ℕ) (v : List ModuleView) → Reads text v → is_read v ≡ true
read_is_sound text v h =
    let names = h.names in
    let ms = h.modules in
    let r = read names text ms h.denotes in
    let differ : distinct (map (λ m. m.name) (map (module_view names) ms)) ≡ true = ap distinct (seen_names names ms) ∙ distinct_texts names h.apart (module_names ms) (names_good names ms r.good) r.apart in
    ap is_read h.seen ∙ and_from (distinct (map (λ m. m.name) (map (module_view names) ms))) (list_all is_read_module (map (module_view names) ms)) differ (all_seen names h.apart ms r.ended r.good)
