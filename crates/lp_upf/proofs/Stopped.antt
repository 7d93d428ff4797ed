-- Where a text leaves the form of words, and how it ends.
use Rattle.std.proofs.Common.{◌≡◌, ℕ, true, List, [], refl, sym, ap, ◌∙◌, length}
use Rattle.std.specs.Prelude.{Option, Some, None, Ok, Err, ltb}
use Rattle.std.proofs.lemmas.Bool.{and_parts, ltb-true}
use Rattle.lp_text.specs.Texts.{Grown, Grown-KeepsNumbers}
use Rattle.lp_text.specs.declared.place.Place.{Place}
use Rattle.lp_model.specs.CommandsView.{WordView}
use Rattle.lp_model.specs.Agreement.{numbers_below}
use Rattle.lp_model.specs.declared.fault.intent.IntentFault.{IntentFault}
use Rattle.lp_model.specs.declared.fault.intent.IntentFault.TheVariants as intents
use Rattle.lp_upf_words.specs.declared.mode.Stop.{Stop}
use Rattle.lp_upf_words.specs.declared.mode.Stop.TheVariants as stops
use Rattle.lp_upf_words.specs.Answer.{IsFaultOf, IsUnsupported, fault_numbers}
use Rattle.lp_spec_upf.specs.Commands.{Said, Sense, TableOf, Unsupported, broken, command_of, last_of, stop_fault}
use Rattle.lp_upf.specs.Said.{intent_numbers, intent_view}

pub no_stop : (names : List (List ℕ)) (stop : Option Stop) → IsFaultOf names stop None → stop ≡ None
no_stop names None h = refl
no_stop names (Some (stops.Syntax p)) h = absurd cc
no_stop names (Some (stops.Dollar p)) h = let e = h.1 in absurd cc
no_stop names (Some (stops.Bracket p)) h = let e = h.1 in absurd cc

-- the fault of a stop
pub record IsStop (names : List (List ℕ)) (stop : Option Stop) (f : IntentFault) : Type 0 where
  pub at : Stop
  pub is : stop ≡ Some at
  pub shown : intent_view names f ≡ Some (stop_fault at)

some_fault : (f g : IntentFault) → Some f ≡ Some g → f ≡ g
some_fault f g e = cc

word_fault : (names : List (List ℕ)) (text : List ℕ) (p : Place) (f : IntentFault) → IsUnsupported names text p (Some f) → intent_view names f ≡ Some (Unsupported p text)
word_fault names text p f h = ap (intent_view names) (some_fault f (intents.Unsupported p h.0) h.1) ∙ ap (λ (t : List ℕ). Some (Unsupported p t)) h.2

pub a_stop : (names : List (List ℕ)) (stop : Option Stop) (f : IntentFault) → IsFaultOf names stop (Some f) → IsStop names stop f
a_stop names None f h = absurd cc
a_stop names (Some (stops.Syntax p)) f h = record { at = stops.Syntax p; is = refl; shown = ap (intent_view names) (some_fault f (intents.Syntax p) h) }
a_stop names (Some (stops.Dollar p)) f h = record { at = stops.Dollar p; is = refl; shown = word_fault names _ p f h }
a_stop names (Some (stops.Bracket p)) f h = record { at = stops.Bracket p; is = refl; shown = word_fault names _ p f h }

-- ---- the table of names grows

module _ (old new : List (List ℕ)) (grown : Grown old new) where
  pub intent_same : (f : IntentFault) → numbers_below (length old) (intent_numbers f) ≡ true → intent_view new f ≡ intent_view old f
  intent_same (intents.Unsupported p word) h =
      let low = ltb-true word.0 (length old) (and_parts (ltb word.0 (length old)) true h).0 in
      ap (λ (t : List ℕ). Some (Unsupported p t)) ((Grown-KeepsNumbers old new grown).0 word.0 low)
  intent_same (intents.Syntax p) h = refl
  intent_same (intents.ClampRefused p) h = refl
  intent_same (intents.UnknownName p name) h = refl
  intent_same (intents.Duplicate p name) h = refl
  intent_same (intents.Limit l) h = refl
  intent_same (intents.LoadCycle name) h = refl
  intent_same (intents.LoadLimit l) h = refl

  unsupported_more : (text : List ℕ) (p : Place) (f : Option IntentFault) → numbers_below (length old) (fault_numbers f) ≡ true → IsUnsupported old text p f → IsUnsupported new text p f
  unsupported_more text p f below h =
      let here = ap (λ (g : Option IntentFault). numbers_below (length old) (fault_numbers g)) (sym h.1) ∙ below in
      let low = ltb-true h.0.0 (length old) (and_parts (ltb h.0.0 (length old)) true here).0 in
      (h.0, h.1, (Grown-KeepsNumbers old new grown).0 h.0.0 low ∙ h.2)

  pub fault_more : (stop : Option Stop) (f : Option IntentFault) → numbers_below (length old) (fault_numbers f) ≡ true → IsFaultOf old stop f → IsFaultOf new stop f
  fault_more None f below h = h
  fault_more (Some (stops.Syntax p)) f below h = h
  fault_more (Some (stops.Dollar p)) f below h = unsupported_more _ p f below h
  fault_more (Some (stops.Bracket p)) f below h = unsupported_more _ p f below h

-- ---- the end of a text

pub last_is : (s : Sense) (tables : List TableOf) (ws : List WordView) (stop : Option Stop) (x : Stop) (v : Said) → stop ≡ Some x → v ≡ command_of s tables None ws → Err (broken v x) ≡ last_of s tables ws stop
last_is s tables ws stop x v is said =
    ap (λ (y : Said). Err (broken y x)) said ∙ ap (λ (o : Option Stop). last_of s tables ws o) (sym is)

pub no_last : (s : Sense) (tables : List TableOf) (ws : List WordView) (stop : Option Stop) → stop ≡ None → Ok [] ≡ last_of s tables ws stop
no_last s tables ws stop is = ap (λ (o : Option Stop). last_of s tables ws o) (sym is)
