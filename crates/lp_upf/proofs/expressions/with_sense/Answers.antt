use Rattle.std.proofs.Common.{[], ◌∷◌, List, Bool, ap, ◌∙◌}
use Rattle.std.specs.Prelude.{Option, if◌then◌else◌}
use Rattle.lp_model.specs.declared.upf.UpfWord.{UpfWord}
use Rattle.lp_model.specs.CommandsView.{line_view, name_view, option_text, option_view}
use Rattle.lp_spec_upf.specs.Commands.{Unsupported, last_word}
use Rattle.lp_upf.specs.Faults.{judged}
use Rattle.lp_upf.proofs.Determined.{fit_same, sensed_same}
use Rattle.lp_upf.proofs.expressions.with_sense.Goals as goal

pub returns-clause-value : goal.returns-clause-value
returns-clause-value c =
    let names = c.args.names.now in
    let o = c.args.option.now in
    let control = name_view names c.args.control in
    let high = c.in_ok-high.high in
    let values = c.in_ok-values.ensures ∙ c.as_slice.ensures in
    record {
      option = (λ s i.
          ap (λ (vs : List UpfWord). option_view names (record { values = vs; place = o.place; word = o.word; high = c.sensed_as.result }) ∷ []) values
          ∙ ap (λ (h : Option Bool). option_view names (record { values = o.values; place = o.place; word = o.word; high = h }) ∷ [])
          (c.sensed_as.ensures ∙ sensed_same o.word high (s.of (last_word (line_view names o.values)) control) (c.in_ok-high.ensures s i)));
      faults = (λ s i.
          c.expression_faults.ensures.value names
          ∙ ap (λ (b : Bool). judged (if b then [] else Unsupported o.place (option_text o.word) ∷ []))
          (fit_same o.word c.args.on high (s.of (last_word (line_view names o.values)) control) (c.in_ok-high.ensures s i)));
    }
