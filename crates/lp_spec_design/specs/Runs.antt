-- Runs of a source under its power intent, and what they show (own rule).
use Rattle.std.specs.Prelude.{◌≡◌, ℕ, not, List, [], ◌∷◌, map, filter, Option, None, Some, IsTrue, flat_map}
use Rattle.lp_tern.specs.declared.tern.Tern.{Tern}
use Rattle.lp_model.specs.NetlistView.{ModuleView}
use Rattle.lp_spec_settling.specs.Runs as steps
use Rattle.lp_spec_design.specs.Keys.{Name, Path}
use Rattle.lp_spec_design.specs.Netlists.{Structure, module_at, indices, is_input}
use Rattle.lp_spec_design.specs.Graph.{TopOutput}
use Rattle.lp_spec_design.specs.Domains.{reader_supply}
use Rattle.lp_spec_design.specs.Settled.{Key, Value, Assignment, Design, Event, equation, output}
use Rattle.lp_spec_design.specs.Registers.{States, states_after, is_register, is_retained_register}

-- the equations read the main states
abbrev pub equation_in : Design → Event → States → Key → Assignment → Value
equation_in d ev s = equation d ev s.main

-- an assignment for each event: it settles with the present states, and leads to the next ones
abbrev pub IsRun : Design → Option Assignment → States → List Event → List Assignment → Type 0
IsRun d = steps.IsRun (equation_in d) (states_after d)

-- there is a run, and it is the only one
abbrev pub RunsOnce : Design → Option Assignment → States → List Event → Type 0
RunsOnce d = steps.RunsOnce (equation_in d) (states_after d)

-- ---- what a run shows

-- the bits of the top's outputs, in port order
abbrev pub output_bits : Structure → List (Name × Option ℕ)
output_bits s = by (module_at s [])
  where
    by : Option ModuleView → List (Name × Option ℕ)
    by None = []
    by (Some m) = flat_map (λ port. map (λ i. (port.name, i)) (indices port.range)) (filter (λ port. not (is_input port)) m.ports)

-- each output bit is read by its receiver's supply
abbrev pub shown : Design → Assignment → Name × Option ℕ → Tern
shown d A b = output d A b.0 b.1 (reader_supply d.intent (TopOutput b.0 b.1))

-- what the top's output bits show after each event
abbrev pub trace : Design → List Assignment → List (List Tern)
trace d run = map (λ A. map (shown d A) (output_bits d.structure)) run

-- the states after each event
abbrev pub states_along : Design → Option Assignment → States → List Assignment → List States
states_along d = steps.states_along (states_after d)

-- ---- equal registers

-- the main state of each register is the same, and the saved state of each retained one
pub record SameRegisters (d : Design) (s t : States) : Type 0 where
  pub main : (p : Path) (x : Name) → IsTrue (is_register d.structure p x) → s.main p x ≡ t.main p x
  pub saved : (p : Path) (x : Name) → IsTrue (is_retained_register d.structure d.intent p x) → s.saved p x ≡ t.saved p x

-- so it is after each event
abbrev pub SameAlong : Design → List States → List States → Type 0
SameAlong d [] [] = Unit {0}
SameAlong d (s ∷ more) (t ∷ others) = SameRegisters d s t × SameAlong d more others
SameAlong d [] (t ∷ others) = ⊥
SameAlong d (s ∷ more) [] = ⊥
