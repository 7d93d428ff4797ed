use Rattle.std.proofs.Common.{◌++◌, ap, sym, ◌∙◌, subst, length}
use Rattle.std.specs.Prelude.{Option}
use Rattle.std.specs.List.{flat_map}
use Rattle.lp_model.specs.Agreement.{numbers_below, option_numbers}
use Rattle.lp_model.specs.CommandsView.{item_numbers}
use Rattle.lp_model.specs.declared.fault.intent.IntentFault.{IntentFault}
use Rattle.lp_model.specs.declared.fault.refusal.Refusal.{Refusal}
use Rattle.lp_upf.specs.Answer.{Refuses}
use Rattle.lp_upf.specs.Said.{intent_numbers}
use Rattle.lp_upf.specs.Turns.{Answers}
use Rattle.lp_upf.proofs.Answered.{refuses, says}
use Rattle.lp_upf.proofs.Carried.{below_parts}
use Rattle.lp_upf.proofs.read.read_intent.Goals as goal

pub returns-in-None-clause-ok : goal.returns-in-None-clause-ok
returns-in-None-clause-ok c =
    let old = c.read_words.new.names in
    let new = c.read_commands.new.names in
    let words = c.in_ok-words.words in
    let done = c.read_commands.new.done in
    says c.args.text.now old new words done c.in_ok-words.ensures.ok
    (λ stop fault. subst (λ (f : Option IntentFault). Answers old new words stop done f) c.in-None.is (c.in_ok-read_commands.ensures.value stop fault))

pub returns-clause-err : goal.returns-clause-err
returns-clause-err c =
    let old = c.read_words.new.names in
    let new = c.read_commands.new.names in
    let words = c.in_ok-words.words in
    let done = c.read_commands.new.done in
    let below = ap (λ (f : Option IntentFault). numbers_below (length new) (flat_map item_numbers done.commands ++ option_numbers intent_numbers f)) (sym c.in-Some.is) ∙ c.in_ok-read_commands.ensures.below in
    subst (λ (r : Refusal). Refuses c.args.text.now new r) (sym c.from-in-Some.ensures)
    (refuses c.args.text.now old new words done c.in_ok-words.ensures.ok c.in-Some.fault (below_parts (length new) (flat_map item_numbers done.commands) (intent_numbers c.in-Some.fault) below).1
    (λ stop fault. subst (λ (f : Option IntentFault). Answers old new words stop done f) c.in-Some.is (c.in_ok-read_commands.ensures.value stop fault)))
