-- The answer of the reader of power intent is what the text says.
use Rattle.std.proofs.Common.{◌≡◌, ℕ, true, length, List, [], refl, sym}
use Rattle.std.specs.Prelude.{Option, Some, None, Result, Ok, Err}
use Rattle.lp_model.specs.Agreement.{numbers_below}
use Rattle.lp_model.specs.CommandsView.{CommandView, line_view, words_view}
use Rattle.lp_model.specs.declared.fault.intent.IntentFault.{IntentFault}
use Rattle.lp_model.specs.declared.fault.intent.IntentFault.TheVariants as intents
use Rattle.lp_upf_words.specs.declared.answer.WordsRead.{WordsRead}
use Rattle.lp_upf_words.specs.declared.mode.Stop.{Stop}
use Rattle.lp_upf_words.specs.Answer.{IsFaultOf, ReadsWords, gathered_in}
use Rattle.lp_upf_words.specs.Words.{outcome_of}
use Rattle.lp_spec_upf.specs.Commands.{Fault, commands_of}
use Rattle.lp_spec_upf.specs.Intent.{Denotes}
use Rattle.lp_upf.specs.declared.commands.Done.{Done}
use Rattle.lp_upf.specs.Answer.{HasFault, RefusesBy, Says}
use Rattle.lp_upf.specs.Said.{IsOutcome, intent_numbers}
use Rattle.lp_upf.specs.Turns.{Answers}
use Rattle.lp_upf.proofs.Determined.{a_sense, is_sense}

module _ (text : List ℕ) (old new : List (List ℕ)) (words : WordsRead) (done : Done) (reads : ReadsWords text old words) where
  abbrev all : Result (List CommandView) Fault
  all = commands_of a_sense [] (words_view old words.list) words.ends (line_view old words.unfinished) reads.stop

  denoted : (r : Result (List CommandView) Fault) → all ≡ r → Denotes text r
  denoted r e = record { outcome = outcome_of (gathered_in old words) reads.stop; words = reads.denotes; sense = a_sense; senses = is_sense; is = sym e }

  pub says : ((stop : Option Stop) → IsFaultOf old stop words.fault → Answers old new words stop done None) → Says text new (record { items = done.commands })
  says h = by all refl (h reads.stop reads.fault a_sense is_sense)
    where
      by : (r : Result (List CommandView) Fault) → all ≡ r → IsOutcome new done.commands r None → Says text new (record { items = done.commands })
      by (Ok cs) e x = record { commands = cs; denotes = denoted (Ok cs) e; shown = x }
      by (Err f) e x = absurd x

  has_fault : (fault : IntentFault) → numbers_below (length new) (intent_numbers fault) ≡ true → ((stop : Option Stop) → IsFaultOf old stop words.fault → Answers old new words stop done (Some fault)) → HasFault text new fault
  has_fault fault known h = by all refl (h reads.stop reads.fault a_sense is_sense)
    where
      by : (r : Result (List CommandView) Fault) → all ≡ r → IsOutcome new done.commands r (Some fault) → HasFault text new fault
      by (Ok cs) e x = absurd x
      by (Err f) e x = record { fault = f; denotes = denoted (Err f) e; is = x; known = known }

  by_kind : (fault : IntentFault) → HasFault text new fault → RefusesBy text new fault
  by_kind (intents.Limit l) h = absurd (no h.fault h.is)
    where
      no : (f : Fault) → None ≡ Some f → ⊥
      no f e = cc
  by_kind fault h = h

  pub refuses : (fault : IntentFault) → numbers_below (length new) (intent_numbers fault) ≡ true → ((stop : Option Stop) → IsFaultOf old stop words.fault → Answers old new words stop done (Some fault)) → RefusesBy text new fault
  refuses fault known h = by_kind fault (has_fault fault known h)
