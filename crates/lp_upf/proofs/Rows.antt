-- Rows of tables of states have the options of their tables.
use Rattle.std.proofs.Common.{◌≡◌, ℕ, true, List, [], ◌∷◌, refl, sym, ap, ◌∙◌, length}
use Rattle.std.specs.Prelude.{Option, Some, None, ltb}
use Rattle.std.proofs.lemmas.Bool.{and_parts, ltb-true}
use Rattle.lp_text.specs.Texts.{Grown, Grown-KeepsNumbers}
use Rattle.lp_text.specs.declared.place.Place.{Place}
use Rattle.lp_model.specs.declared.upf.CommandWord.{CommandWord}
use Rattle.lp_model.specs.declared.upf.CommandWord.TheVariants as commands
use Rattle.lp_model.specs.Agreement.{numbers_below}
use Rattle.lp_model.specs.CommandsView.{OptionView, WordView}
use Rattle.lp_spec_upf.specs.Shapes.{OptionRule, shape_of}
use Rattle.lp_spec_upf.specs.Commands.{Option_, Part, TableOf, options_of, row_rules, rules_for}
use Rattle.lp_upf.specs.Options.{read_of}
use Rattle.lp_upf.specs.States.{exact_of, row_supplies, tables_numbers, tables_view}

rules-by : (c : CommandWord) (tables : List TableOf) (rules : List OptionRule) (p : Part) → rules_for c tables rules p ≡ row_rules (row_supplies c tables p.options) rules
rules-by commands.AddPstState tables rules p = refl
rules-by c tables rules p = refl

row : (c : CommandWord) (tables : List TableOf) (os : List OptionView) (n : ℕ) → Some n ≡ row_supplies c tables os → (shape_of commands.AddPstState).rules ≡ (shape_of c).rules
row commands.AddPstState tables os n e = refl
row c tables os n e = absurd cc

pub tables-grown : (old new : List (List ℕ)) (es : List (ℕ × ℕ)) → Grown old new → numbers_below (length old) (tables_numbers es) ≡ true → tables_view new es ≡ tables_view old es
tables-grown old new [] g h = refl
tables-grown old new (e ∷ es) g h =
    let both = and_parts (ltb e.0 (length old)) (numbers_below (length old) (tables_numbers es)) h in
    let same = (Grown-KeepsNumbers old new g).0 e.0 (ltb-true e.0 (length old) both.0) in
    let rest = tables-grown old new es g both.1 in
    rw (same, rest) refl

module _ (old new : List (List ℕ)) (es : List (ℕ × ℕ)) (g : Grown old new) (h : numbers_below (length old) (tables_numbers es) ≡ true) (c : CommandWord) (e : Option Place) (ws : List WordView) where
  abbrev rules : List OptionRule
  rules = (shape_of c).rules

  abbrev loose : Part
  loose = options_of rules e Option_ [] ws

  abbrev tables : List TableOf
  tables = tables_view old es

  supplies : (os : List OptionView) (o : Option ℕ) → os ≡ loose.options → o ≡ row_supplies c (tables_view new es) os → rules_for c tables rules loose ≡ row_rules o rules
  supplies os o is found =
      rules-by c tables rules loose
      ∙ ap (λ (x : Option ℕ). row_rules x rules) (sym (found ∙ ap (λ (t : List TableOf). row_supplies c t os) (tables-grown old new es g h) ∙ ap (row_supplies c tables) is))

  -- the options by the table of the command's word
  pub by_word : (os : List OptionView) → os ≡ loose.options → None ≡ row_supplies c (tables_view new es) os → read_of loose ≡ read_of (exact_of tables c e ws)
  by_word os is found = ap (λ (rs : List OptionRule). read_of (options_of rs e Option_ [] ws)) (sym (supplies os None is found))

  -- the options of a row
  pub by_row : (os : List OptionView) (n : ℕ) (rs : List OptionRule) (vs : List WordView) → os ≡ loose.options → Some n ≡ row_supplies c (tables_view new es) os → rs ≡ row_rules (Some n) (shape_of commands.AddPstState).rules → vs ≡ ws
      → read_of (options_of rs e Option_ [] vs) ≡ read_of (exact_of tables c e ws)
  by_row os n rs vs is found given same =
      ap (λ (xs : List OptionRule). read_of (options_of xs e Option_ [] vs)) (given ∙ ap (λ (x : List OptionRule). row_rules (Some n) x) (row c (tables_view new es) os n found) ∙ sym (supplies os (Some n) is found))
      ∙ ap (λ (xs : List WordView). read_of (options_of (rules_for c tables rules loose) e Option_ [] xs)) same
