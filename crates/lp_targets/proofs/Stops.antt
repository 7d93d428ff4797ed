-- A stop with the fault of one line is a stop with that of the first of several lines.
use Rattle.std.proofs.Common.{◌≡◌, ℕ, List, Option, Some, None, ap, ◌∙◌}
use Rattle.lp_model.specs.declared.fault.refusal.DesignFault.TheVariants as of_design
use Rattle.lp_model.specs.declared.fault.refusal.Fault.TheVariants as faults
use Rattle.lp_model.specs.declared.fault.refusal.Refusal.{Refusal}
use Rattle.lp_model.specs.declared.fault.refusal.Refusal.TheVariants as refusals
use Rattle.lp_targets.specs.Reports.{Report, report_of, or_else, IsStop}

stop_as : (texts : List (List ℕ)) (a b : Option Report) (r : Refusal) → ((x : Report) → a ≡ Some x → b ≡ Some x) → IsStop texts a r → IsStop texts b r
stop_as texts a b refusals.NoMemory same h = h
stop_as texts a b (refusals.Fault (faults.Design (of_design.Netlist f))) same h = same (report_of texts f) h
stop_as texts a b (refusals.Fault (faults.Design (of_design.Library f))) same h = absurd h
stop_as texts a b (refusals.Fault (faults.Design (of_design.Intent f))) same h = absurd h
stop_as texts a b (refusals.Fault (faults.Design (of_design.Supply f))) same h = absurd h
stop_as texts a b (refusals.Fault (faults.Design (of_design.Strategy f))) same h = absurd h
stop_as texts a b (refusals.Fault (faults.Event f)) same h = absurd h
stop_as texts a b (refusals.Fault (faults.Pins f)) same h = absurd h
stop_as texts a b (refusals.Fault (faults.Generator f)) same h = absurd h
stop_as texts a b (refusals.Fault (faults.Check f)) same h = absurd h
stop_as texts a b (refusals.Fault (faults.Powered f)) same h = absurd h
stop_as texts a b (refusals.Fault (faults.Loaded k f)) same h = absurd h
stop_as texts a b (refusals.Fault (faults.NotYet k)) same h = absurd h

-- of the first line
pub stop_first : (texts : List (List ℕ)) (a b : Option Report) (r : Refusal) → IsStop texts a r → IsStop texts (or_else a b) r
stop_first texts a b r h = stop_as texts a (or_else a b) r (λ x e. ap (λ o. or_else o b) e) h

-- of a later one, where the first does not hold
pub stop_later : (texts : List (List ℕ)) (a b : Option Report) (r : Refusal) → a ≡ None → IsStop texts b r → IsStop texts (or_else a b) r
stop_later texts a b r none h = stop_as texts b (or_else a b) r (λ x e. ap (λ o. or_else o b) none ∙ e) h

pub none_later : (a b : Option Report) → a ≡ None → b ≡ None → or_else a b ≡ None
none_later a b none e = ap (λ o. or_else o b) none ∙ e
