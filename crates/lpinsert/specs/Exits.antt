-- How the program ends, by what its shelf tells (own rule).
use Rattle.std.specs.Prelude.{◌≡◌, ℕ, List, Option}
use Rattle.lp_text.specs.Shelf.{Files, Faults}
use Rattle.lp_top.specs.declared.outcome.Outcome.{Outcome}
use Rattle.lp_top.specs.Outcomes.{status_of}
use Rattle.lp_top.specs.Ran.{OfCommand, ByWords, ByFiles, ByCounts, BySaid}

-- what a shelf tells
pub record Told : Type 0 where
  pub held : Option Files
  pub said : Option (List ℕ)
  pub faults : Faults

abbrev pub told : {T : Type 0} → (T → Option Files) → (T → Option (List ℕ)) → (T → Faults) → T → Told
told held said faults shelf = record { held = held shelf; said = said shelf; faults = faults shelf }

-- the status is that of one outcome, which has its cause in the words, the files and the counts, and whose line was said
pub record ExitsBy (words : List (List ℕ)) (status : ℕ) (old new : Told) : Type 0 where
  pub outcome : Outcome
  pub status_is : status ≡ status_of outcome
  pub by_words : ByWords words outcome
  pub by_files : OfCommand words (λ c. ByFiles c old.held new.held outcome)
  pub by_counts : ByCounts old.faults new.faults outcome
  pub by_said : BySaid old.said new.said old.faults new.faults outcome
