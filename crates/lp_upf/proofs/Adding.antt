-- The table of states that a command makes.
use Rattle.std.proofs.Common.{◌≡◌, ℕ, List, ◌∷◌, sym, ap, ◌∙◌, subst, map}
use Rattle.std.specs.Prelude.{Option, Some, Result, Ok, Err, OnOk}
use Rattle.lp_text.specs.Texts.{text_at}
use Rattle.lp_model.specs.declared.upf.Command.{Command}
use Rattle.lp_model.specs.declared.upf.CommandWord.{CommandWord}
use Rattle.lp_model.specs.declared.upf.CommandWord.TheVariants as commands
use Rattle.lp_model.specs.declared.upf.OptionWord.TheVariants as options
use Rattle.lp_model.specs.declared.upf.UpfWord.{UpfWord}
use Rattle.std.specs.Option.{option_map}
use Rattle.lp_model.specs.CommandsView.{command_view, option_view, word_view}
use Rattle.lp_spec_upf.specs.Commands.{TableOf, count_values, name_text, option_in, tables_after}
use Rattle.lp_upf.specs.States.{SameTables}

table_is : (names : List (List ℕ)) (old : List TableOf) (c : Command) (w : UpfWord) (n : ℕ) → c.word ≡ commands.CreatePst → c.name ≡ Some w → n ≡ count_values (option_in (map (option_view names) c.options) options.Supplies)
    → record { name = text_at names w.name.0; supplies = n } ∷ old ≡ tables_after c.word (command_view names c) old
table_is names old c w n word name count =
    let all = count_values (option_in (map (option_view names) c.options) options.Supplies) in
    ap (λ (k : ℕ). record { name = text_at names w.name.0; supplies = k } ∷ old) count
    ∙ ap (λ (o : Option UpfWord). record { name = name_text (option_map (word_view names) o); supplies = all } ∷ old) (sym name)
    ∙ ap (λ (x : CommandWord). tables_after x (command_view names c) old) (sym word)

pub added : {A E : Type 0} (r : Result A E) (names : List (List ℕ)) (old new : List TableOf) (c : Command) (w : UpfWord) (n : ℕ) → c.word ≡ commands.CreatePst → c.name ≡ Some w
    → n ≡ count_values (option_in (map (option_view names) c.options) options.Supplies)
    → OnOk r (SameTables new (record { name = text_at names w.name.0; supplies = n } ∷ old)) → OnOk r (SameTables new (tables_after c.word (command_view names c) old))
added (Err e) names old new c w n word name count h = tt
added (Ok x) names old new c w n word name count h = subst (λ (ts : List TableOf). SameTables new ts) (table_is names old c w n word name count) h
