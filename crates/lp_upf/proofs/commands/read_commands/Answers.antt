use Rattle.std.proofs.Common.{◌≡◌, ◌<◌, ◌≤◌, ◌++◌, List, [], ap, sym, ◌∙◌, subst, length, get_or, arith}
use Rattle.std.specs.List.{flat_map, list_all}
use Rattle.lp_text.specs.Texts.{Grown-trans}
use Rattle.lp_model.specs.declared.upf.UpfWord.{UpfWord}
use Rattle.lp_model.specs.Agreement.{numbers_below, option_numbers}
use Rattle.lp_model.specs.CommandsView.{WordView, item_numbers, line_numbers, line_view, words_numbers, words_view}
use Rattle.lp_upf_words.specs.Answer.{fault_numbers}
use Rattle.lp_upf_words.specs.Sizes.{is_modest, sizes, sizes_of_all}
use Rattle.lp_spec_upf.specs.Commands.{commands_of}
use Rattle.lp_upf.specs.declared.commands.Turn.{Turn}
use Rattle.lp_upf.specs.Named.{AreReady}
use Rattle.lp_upf.specs.Said.{intent_numbers}
use Rattle.lp_upf.specs.States.{tables_numbers}
use Rattle.lp_upf.specs.Turns.{IsOn, IsTurn, turn_numbers}
use Rattle.lp_upf.proofs.Carried.{below_join, below_more, below_parts, grown_length, line-grown}
use Rattle.lp_upf.proofs.Ready.{items-grown}
use Rattle.lp_upf.proofs.Stopped.{fault_more}
use Rattle.lp_upf.proofs.Walked.{below_both, both_numbers, ends_at, finished, modest_both, on_at, ready_at, same, sizes_both}
use Rattle.lp_upf.proofs.commands.read_commands.Goals as goal

pub take-requires-clause-ready : goal.take-requires-clause-ready
take-requires-clause-ready c =
    let begin = c.args.names.now in
    let old = c.loop-at.names in
    let v = c.loop-at.invariant in
    let words = c.args.words.now in
    let commands = words.list.commands in
    let i = c.loop-at.at in
    let line = c.index-as_slice-at.result in
    let low : i < length commands = omega (arith, c.len-at-end.ensures, c.loop-at-test.true) in
    let at : line ≡ get_or commands i line = c.index-as_slice-at.is ∙ ap (λ (xs : List (List UpfWord)). get_or xs i line) c.as_slice.ensures in
    let slice = c.as_slice-in-loop-at.ensures in
    let tables = (below_parts (length old) (flat_map item_numbers c.loop-at.done.commands) (tables_numbers c.loop-at.done.states) v.below).1 in
    subst (λ (ws : List UpfWord). AreReady old c.loop-at.done.states ws) (sym slice)
    (ready_at begin old commands i line low at v.grown v.rest c.loop-at.done.states (sizes_of_all (words_view begin words.list)) (sizes (line_view begin words.unfinished)) tables v.whole v.few c.requires.ready.room)

pub returns-in_err-take-clause-few : goal.returns-in_err-take-clause-few
returns-in_err-take-clause-few c =
    let begin = c.args.names.now in
    let old = c.loop-at.names in
    let v = c.loop-at.invariant in
    let words = c.args.words.now in
    let commands = words.list.commands in
    let i = c.loop-at.at in
    let line = c.index-as_slice-at.result in
    let low : i < length commands = omega (arith, c.len-at-end.ensures, c.loop-at-test.true) in
    let at : line ≡ get_or commands i line = c.index-as_slice-at.is ∙ ap (λ (xs : List (List UpfWord)). get_or xs i line) c.as_slice.ensures in
    let slice = c.as_slice-in-loop-at.ensures in
    let a = ap (λ (ws : List UpfWord). sizes (line_view old ws)) slice in
    let b = ap (λ (ws : List WordView). sizes ws) (same begin old commands i line low at v.grown v.rest) in
    let d = sizes_both begin old commands i line low at in
    let few = v.few in
    let more = c.in_err-take.ensures.few in
    omega (arith, a, b, d, few, more)

pub returns-in-Ends-clause-few : goal.returns-in-Ends-clause-few
returns-in-Ends-clause-few c =
    let begin = c.args.names.now in
    let old = c.loop-at.names in
    let v = c.loop-at.invariant in
    let words = c.args.words.now in
    let commands = words.list.commands in
    let i = c.loop-at.at in
    let line = c.index-as_slice-at.result in
    let low : i < length commands = omega (arith, c.len-at-end.ensures, c.loop-at-test.true) in
    let at : line ≡ get_or commands i line = c.index-as_slice-at.is ∙ ap (λ (xs : List (List UpfWord)). get_or xs i line) c.as_slice.ensures in
    let slice = c.as_slice-in-loop-at.ensures in
    let a = ap (λ (ws : List UpfWord). sizes (line_view old ws)) slice in
    let b = ap (λ (ws : List WordView). sizes ws) (same begin old commands i line low at v.grown v.rest) in
    let d = sizes_both begin old commands i line low at in
    let few = v.few in
    let more = c.in_ok-take.ensures.few in
    omega (arith, a, b, d, few, more)

pub returns-in-Ends-clause-value : goal.returns-in-Ends-clause-value
returns-in-Ends-clause-value c = λ stop fault s h.
    let begin = c.args.names.now in
    let old = c.loop-at.names in
    let v = c.loop-at.invariant in
    let words = c.args.words.now in
    let commands = words.list.commands in
    let i = c.loop-at.at in
    let line = c.index-as_slice-at.result in
    let low : i < length commands = omega (arith, c.len-at-end.ensures, c.loop-at-test.true) in
    let at : line ≡ get_or commands i line = c.index-as_slice-at.is ∙ ap (λ (xs : List (List UpfWord)). get_or xs i line) c.as_slice.ensures in
    let slice = c.as_slice-in-loop-at.ensures in
    let new = c.take.new.names in
    let before = c.loop-at.done in
    let after = c.take.new.self in
    let e = c.copied-end.result in
    let end_is = c.copied-end.ensures ∙ c.get.ensures.value in
    let told : IsTurn old new before after e (line_view old line) c.in_ok-take.field-0 = subst (λ (ws : List UpfWord). IsTurn old new before after e (line_view old ws) c.in_ok-take.field-0) slice c.in_ok-take.ensures.value in
    let turn = subst (λ (t : Turn). IsTurn old new before after e (line_view old line) t) c.in-Ends.is told in
    let open_ones = line_view begin words.unfinished in
    ends_at begin old commands i line low at v.grown v.rest s h new before after words.ends e open_ones stop (commands_of s [] (words_view begin words.list) words.ends open_ones stop) end_is c.in-Ends.fault (v.going s h stop) turn

pub returns-in-Ends-clause-below : goal.returns-in-Ends-clause-below
returns-in-Ends-clause-below c =
    let new = c.take.new.names in
    let after = c.take.new.self in
    let parts = below_parts (length new) (flat_map item_numbers after.commands) (tables_numbers after.states) c.in_ok-take.ensures.below in
    below_join (length new) (flat_map item_numbers after.commands) (option_numbers intent_numbers c.in-Ends.fault) parts.0
    (ap (λ (t : Turn). numbers_below (length new) (turn_numbers t)) (sym c.in-Ends.is) ∙ c.in_ok-take.ensures.fault)

pub loop-at-preserved : goal.loop-at-preserved
loop-at-preserved c =
    let begin = c.args.names.now in
    let old = c.loop-at.names in
    let v = c.loop-at.invariant in
    let words = c.args.words.now in
    let commands = words.list.commands in
    let i = c.loop-at.at in
    let line = c.index-as_slice-at.result in
    let low : i < length commands = omega (arith, c.len-at-end.ensures, c.loop-at-test.true) in
    let at : line ≡ get_or commands i line = c.index-as_slice-at.is ∙ ap (λ (xs : List (List UpfWord)). get_or xs i line) c.as_slice.ensures in
    let slice = c.as_slice-in-loop-at.ensures in
    let new = c.take.new.names in
    let before = c.loop-at.done in
    let after = c.take.new.self in
    let e = c.copied-end.result in
    let end_is = c.copied-end.ensures ∙ c.get.ensures.value in
    let told : IsTurn old new before after e (line_view old line) c.in_ok-take.field-0 = subst (λ (ws : List UpfWord). IsTurn old new before after e (line_view old ws) c.in_ok-take.field-0) slice c.in_ok-take.ensures.value in
    let a = ap (λ (ws : List UpfWord). sizes (line_view old ws)) slice in
    let b = ap (λ (ws : List WordView). sizes ws) (same begin old commands i line low at v.grown v.rest) in
    let d = sizes_both begin old commands i line low at in
    let few = v.few in
    let turn = subst (λ (t : Turn). IsTurn old new before after e (line_view old line) t) c.in-On.is told in
    let open_ones = line_view begin words.unfinished in
    let more = c.in_ok-take.ensures.on (subst (λ (t : Turn). IsOn t) (sym c.in-On.is) tt) in
    record {
      going = (λ s h stop. on_at begin old commands i line low at v.grown v.rest s h new before after words.ends e open_ones stop (commands_of s [] (words_view begin words.list) words.ends open_ones stop) end_is (v.going s h stop) turn);
      below = c.in_ok-take.ensures.below;
      grown = Grown-trans v.grown c.in_ok-take.ensures.grown;
      few = omega (arith, a, b, d, few, more);
      rest = (below_both begin old commands i line low at (length begin) v.rest).1;
      whole = (modest_both begin old commands i line low at v.whole).1;
    }

pub last_of-requires-clause-ready : goal.last_of-requires-clause-ready
last_of-requires-clause-ready c =
    let begin = c.args.names.now in
    let old = c.loop-at.names in
    let v = c.loop-at.invariant in
    let words = c.args.words.now in
    let i = c.loop-at.at in
    let parts = below_parts (length begin) (words_numbers words.list) (line_numbers words.unfinished ++ fault_numbers words.fault) c.requires.ready.below in
    let behind = below_parts (length begin) (line_numbers words.unfinished) (fault_numbers words.fault) parts.1 in
    let same = line-grown begin old words.unfinished v.grown behind.0 in
    let size = ap (λ (ws : List WordView). sizes ws) same in
    let few = v.few in
    let room = c.requires.ready.room in
    record {
      below = below_more (length begin) (length old) (line_numbers words.unfinished) (grown_length begin old v.grown) behind.0;
      tables = (below_parts (length old) (flat_map item_numbers c.loop-at.done.commands) (tables_numbers c.loop-at.done.states) v.below).1;
      room = omega (arith, size, few, room);
      modest = ap (λ (ws : List WordView). list_all is_modest ws) same ∙ c.requires.ready.unfinished;
    }

pub returns-clause-value : goal.returns-clause-value
returns-clause-value c = λ stop fault.
    let begin = c.args.names.now in
    let old = c.loop-at.names in
    let v = c.loop-at.invariant in
    let words = c.args.words.now in
    let i = c.loop-at.at in
    let parts = below_parts (length begin) (words_numbers words.list) (line_numbers words.unfinished ++ fault_numbers words.fault) c.requires.ready.below in
    let behind = below_parts (length begin) (line_numbers words.unfinished) (fault_numbers words.fault) parts.1 in
    let same = line-grown begin old words.unfinished v.grown behind.0 in
    let new = c.last_of.new.names in
    let done = c.loop-at.done in
    let high : length words.list.commands ≤ i = omega (arith, c.len-at-end.ensures, c.loop-at-test.false) in
    let items = items-grown old new done.commands c.last_of.ensures.grown (below_parts (length old) (flat_map item_numbers done.commands) (tables_numbers done.states) v.below).0 in
    finished begin old new words done i stop c.last_of.result high same items (λ s h. v.going s h stop) (c.last_of.ensures.value stop (fault_more begin old v.grown stop words.fault behind.1 fault))

pub returns-clause-below : goal.returns-clause-below
returns-clause-below c =
    let old = c.loop-at.names in
    let new = c.last_of.new.names in
    let done = c.loop-at.done in
    let parts = below_parts (length old) (flat_map item_numbers done.commands) (tables_numbers done.states) c.loop-at.invariant.below in
    both_numbers (length new) (flat_map item_numbers done.commands) c.last_of.result (below_more (length old) (length new) (flat_map item_numbers done.commands) (grown_length old new c.last_of.ensures.grown) parts.0) c.last_of.ensures.below

pub returns-clause-few : goal.returns-clause-few
returns-clause-few c =
    let begin = c.args.names.now in
    let old = c.loop-at.names in
    let v = c.loop-at.invariant in
    let words = c.args.words.now in
    let i = c.loop-at.at in
    let parts = below_parts (length begin) (words_numbers words.list) (line_numbers words.unfinished ++ fault_numbers words.fault) c.requires.ready.below in
    let behind = below_parts (length begin) (line_numbers words.unfinished) (fault_numbers words.fault) parts.1 in
    let same = line-grown begin old words.unfinished v.grown behind.0 in
    let size = ap (λ (ws : List WordView). sizes ws) same in
    let few = v.few in
    let more = c.last_of.ensures.few in
    omega (arith, size, few, more)
