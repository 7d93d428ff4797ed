-- Where exactly one assignment settles in each event and state, there is exactly one run.
use Rattle.std.proofs.Common.{◌≡◌, List, [], ◌∷◌, Option, Some, refl, sym, ◌∙◌, subst}
use Rattle.lp_spec_settling.specs.Settling.{SettlesOnce}
use Rattle.lp_spec_settling.specs.Runs.{IsRun, RunsOnce}

module _ {K V E S : Type 0} (equation : E → S → K → (K → V) → V) (after : Option (K → V) → (K → V) → S → S) (once : (e : E) (s : S) → SettlesOnce (equation e s)) where
  abbrev Run : Option (K → V) → S → List E → List (K → V) → Type 0
  Run = IsRun equation after

  same : (last : Option (K → V)) (s : S) (events : List E) (first second : List (K → V)) → Run last s events first → Run last s events second → first ≡ second
  same last s [] [] [] r q = refl
  same last s [] (A ∷ first) second r q = absurd r
  same last s [] [] (B ∷ second) r q = absurd q
  same last s (e ∷ events) [] second r q = absurd r
  same last s (e ∷ events) (A ∷ first) [] r q = absurd q
  same last s (e ∷ events) (A ∷ first) (B ∷ second) r q =
      let one : B ≡ A = (once e s).only B q.0 ∙ sym ((once e s).only A r.0) in
      let rest : first ≡ second = same (Some A) (after last A s) events first second r.1 (subst (λ z. Run (Some z) (after last z s) events second) one q.1) in
      λ i. sym one i ∷ rest i

  played : Option (K → V) → S → List E → List (K → V)
  played last s [] = []
  played last s (e ∷ events) = (once e s).settled ∷ played (Some (once e s).settled) (after last (once e s).settled s) events

  is_played : (last : Option (K → V)) (s : S) (events : List E) → Run last s events (played last s events)
  unfolding played
  is_played last s [] = tt
  is_played last s (e ∷ events) = ((once e s).settles, is_played (Some (once e s).settled) (after last (once e s).settled s) events)

  pub runs_once : (last : Option (K → V)) (s : S) (events : List E) → RunsOnce equation after last s events
  runs_once last s events = record {
    run = played last s events;
    is_run = is_played last s events;
    only = λ other r. same last s events other (played last s events) r (is_played last s events);
  }
