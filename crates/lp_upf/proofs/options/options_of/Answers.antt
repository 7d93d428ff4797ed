use Rattle.std.proofs.Common.{◌≡◌, ◌+◌, List, [], ap, sym, ◌∙◌, length, map, drop, false, arith}
use Rattle.std.specs.Prelude.{None}
use Rattle.lp_text.specs.Texts.{Grown-refl}
use Rattle.lp_model.specs.declared.upf.CommandOption.{CommandOption}
use Rattle.lp_model.specs.Agreement.{numbers_below}
use Rattle.lp_model.specs.CommandsView.{line_view}
use Rattle.lp_spec_upf.specs.Commands.{Option_, options_of}
use Rattle.lp_upf.specs.declared.fault.Faults.{Faults}
use Rattle.lp_upf.specs.declared.options.Next.TheVariants as nexts
use Rattle.lp_upf.specs.declared.options.Reading.{Reading}
use Rattle.lp_upf.specs.Options.{read_of, reading_numbers, reading_view, run}
use Rattle.lp_upf.specs.Tables.{rule_view}
use Rattle.lp_upf.proofs.Run.{all, halts}
use Rattle.lp_upf.proofs.Looping.{onward}
use Rattle.lp_upf.proofs.options.options_of.Goals as goal

pub loop-word-init : goal.loop-word-init
loop-word-init c =
    let names = c.args.names.now in
    let rules = map rule_view c.args.rules.now in
    let none : Faults = record { first = None; cut = false } in
    let start : Reading = record { next = nexts.Option; options = c.new.result; faults = c.none.result } in
    let same : start ≡ record { next = nexts.Option; options = []; faults = none } =
    ap (λ (os : List CommandOption). record { next = nexts.Option; options = os; faults = c.none.result }) c.new.ensures
    ∙ ap (λ (f : Faults). record { next = nexts.Option; options = []; faults = f }) c.none.ensures in
    record {
      reads = ap (λ (s : Reading). run rules c.args.end (reading_view names s) (line_view names c.args.words.now)) same ∙ all rules c.args.end (line_view names c.args.words.now);
      below = ap (λ (s : Reading). numbers_below (length names) (reading_numbers s)) same;
      rest_below = c.requires.below;
      modest = c.requires.modest;
      grown = Grown-refl names;
      few = omega arith;
    }

pub returns-then-reading-clause-value : goal.returns-then-reading-clause-value
returns-then-reading-clause-value c =
    let begin = c.args.names.now in
    let old = c.loop-word.names in
    let new = c.step.new.names in
    let rules = map rule_view c.args.rules.now in
    let i = c.loop-word.invariant in
    let s = reading_view old c.loop-word.reading in
    let t = reading_view new c.in_ok-reading.reading in
    sym (halts t (λ x. run rules c.args.end x (line_view begin (drop (c.loop-word.word-index + 1) c.args.words.now))) c.if-reading.true)
    ∙ onward begin old c.args.words.now c.loop-word.word-index _ c.loop-word-test.true rules c.args.end s t (read_of (options_of rules c.args.end Option_ [] (line_view begin c.args.words.now))) i.grown i.rest_below c.in_ok-reading.ensures.value i.reads
