use Rattle.std.proofs.Common.{◌≡◌, ◌<◌, ◌+◌, ◌++◌, List, ap, ◌∙◌, length, get_or, map, drop, arith}
use Rattle.std.specs.List.{flat_map}
use Rattle.lp_model.specs.declared.upf.CommandOption.{CommandOption}
use Rattle.lp_model.specs.Agreement.{numbers_below}
use Rattle.lp_model.specs.CommandsView.{command_option_numbers, name_view, option_view}
use Rattle.lp_spec_upf.specs.Commands.{expression_faults, sensed}
use Rattle.lp_upf.specs.Faults.{Judged, faults_view, first_numbers, joined, judged}
use Rattle.lp_upf.proofs.Carried.{below_join}
use Rattle.lp_upf.proofs.Sensing.{below_both, below_more_option, faults_more, option_more, short_both}
use Rattle.lp_upf.proofs.expressions.all_sensed.Goals as goal

pub loop-option-preserved : goal.loop-option-preserved
loop-option-preserved c =
    let names = c.args.names.now in
    let control = name_view names c.args.control in
    let os = c.args.read.now.options in
    let i = c.loop-option.option-index in
    let x = c.option-item.result in
    let slice = c.as_slice-option-items.ensures in
    let low : i < length os = omega (arith, ap (λ (xs : List CommandOption). length xs) slice, c.loop-option-test.true) in
    let at : x ≡ get_or os i x = c.option-item.is ∙ ap (λ (xs : List CommandOption). get_or xs i x) slice in
    let v = c.loop-option.invariant in
    let done = c.loop-option.options in
    let r = c.in_ok-judged.judged in
    let push = c.in_ok-push.ensures.ok in
    record {
      options = (λ s h.
          ap (λ (xs : List CommandOption). map (option_view names) xs ++ sensed s.of control (map (option_view names) (drop (i + 1) os))) push
          ∙ option_more os i x low at names s control done r.option (sensed s.of control (map (option_view names) os)) (v.options s h) (c.in_ok-judged.ensures.value.option s h));
      faults = (λ s h.
          let all = joined (faults_view names c.args.read.now.faults) (judged (expression_faults s.of control c.args.on (map (option_view names) os))) in
          ap (λ (j : Judged). joined j (judged (expression_faults s.of control c.args.on (map (option_view names) (drop (i + 1) os))))) (c.joined-faults.ensures.value names)
          ∙ faults_more os i x low at names s control c.args.on (faults_view names c.loop-option.faults) (faults_view names r.faults) all (v.faults s h) (c.in_ok-judged.ensures.value.faults s h));
      rest = (below_both os i x low at (length names) v.rest).1;
      short = (short_both os i x low at names v.short).1;
      done =
          ap (λ (xs : List CommandOption). numbers_below (length names) (flat_map command_option_numbers xs)) push
          ∙ below_more_option (length names) done r.option x v.done (below_both os i x low at (length names) v.rest).0 c.in_ok-judged.ensures.values;
      found = c.joined-faults.ensures.numbers (length names) v.found (ap (numbers_below (length names)) c.in_ok-judged.ensures.numbers);
    }

pub returns-clause-below : goal.returns-clause-below
returns-clause-below c =
    below_join (length c.args.names.now) (flat_map command_option_numbers c.loop-option.options) (first_numbers c.loop-option.faults.first) c.loop-option.invariant.done c.loop-option.invariant.found
