-- Runs: what settles in each of a list of events, with a state that goes on from event to event (own rule).
use Rattle.std.specs.Prelude.{◌≡◌, List, [], ◌∷◌, Option, Some}
use Rattle.lp_spec_settling.specs.Settling.{Settles}

-- the equations of an event with the present state, and the state after it, from what settled before it, if anything did, and what settles in it
module _ {K V E S : Type 0} (equation : E → S → K → (K → V) → V) (after : Option (K → V) → (K → V) → S → S) where
  -- an assignment for each event: it settles with the present state, and leads to the next one
  abbrev pub IsRun : Option (K → V) → S → List E → List (K → V) → Type 0
  IsRun last s [] [] = Unit {0}
  IsRun last s (e ∷ events) (A ∷ run) = Settles (equation e s) A × IsRun (Some A) (after last A s) events run
  IsRun last s [] (A ∷ run) = ⊥
  IsRun last s (e ∷ events) [] = ⊥

  -- there is a run, and it is the only one
  pub record RunsOnce (last : Option (K → V)) (s : S) (events : List E) : Type 0 where
    pub run : List (K → V)
    pub is_run : IsRun last s events run
    pub only : (other : List (K → V)) → IsRun last s events other → other ≡ run

module _ {K V S : Type 0} (after : Option (K → V) → (K → V) → S → S) where
  -- the states along a run: after each of its events
  abbrev pub states_along : Option (K → V) → S → List (K → V) → List S
  states_along last s [] = []
  states_along last s (A ∷ run) = after last A s ∷ states_along (Some A) (after last A s) run
