-- The statements of the laws of this crate (own rule).
use Rattle.std.specs.Prelude.{◌≡◌, ◌≤◌, ℕ, true, List, [], length, None, is_some, Ok}
use Rattle.lp_model.specs.declared.intent.ScopedName.{ScopedName}
use Rattle.lp_rows.specs.Network.{IsNetwork}
use Rattle.lp_spec_design.specs.Keys.{Path}
use Rattle.lp_spec_design.specs.Netlists.{Structure, module_at}
use Rattle.lp_spec_design.specs.Winners.{IsIn}
use Rattle.lp_spec_origins.specs.Commands.{Scoped}
use Rattle.lp_spec_realises.specs.Projects.{Project}
use Rattle.lp_spec_realises.specs.Operators.{SwitchAt, all_switches}
use Rattle.lp_spec_realises.specs.Implements.{Lists}
use Rattle.lp_spec_faults.specs.Lines.{first_of}
use Rattle.lp_spec_faults.specs.Supplies.{undriven, two_sources, supply_loop}
use Rattle.lp_spec_faultless.specs.Faults.{HasControlsInside}
use Rattle.lp_spec_intent.specs.Made.{Made}
use Rattle.lp_spec_intent.specs.Intent.{asked}
use Rattle.lp_spec_resolved.specs.Supplies.{supplies_made, project_made, lists_made}
use Rattle.lp_spec_resolved.specs.Said.{Intends}
use Rattle.lp_spec_written_at.specs.Sources.{HasControls, HasOriginNames}
use Rattle.lp_spec_proper.specs.Insertable.{IsResolved}
use Rattle.lp_spec_legal.specs.Legal.{HasVisibleOrigins}

-- what the theorem of insertion asks of the resolver of power intent
pub record IsGiven (p : Project) (l : Lists) : Type 0 where
  pub resolved : IsResolved p
  pub controls : HasControls p
  pub inside : HasControlsInside p
  pub origin_names : HasOriginNames p
  pub visible : HasVisibleOrigins p
  pub scopes : (x : SwitchAt) → IsIn x (all_switches p) → is_some (module_at p.structure (l.scope_of_switch x.origin)) ≡ true
  pub network : IsNetwork p.supplies

-- a netlist with a top, no instance of which is deeper than 64
pub record IsShallow (s : Structure) : Type 0 where
  pub top : is_some (module_at s []) ≡ true
  pub depth : (p : Path) → 64 ≤ length p → module_at s p ≡ None

-- F37, F38 and F39 hold nowhere
pub record IsDriven (m : Made) : Type 0 where
  pub driven : first_of (undriven (asked m)) ≡ None
  pub single : first_of (two_sources (asked m)) ≡ None
  pub no_loop : first_of (supply_loop (asked m)) ≡ None

abbrev pub TextsMakeNetworks : Type 0
TextsMakeNetworks = (s : Structure) (text : List ℕ) (m : Made) (name : Scoped → ScopedName) → Intends s text (Ok m) → IsDriven m → IsNetwork (supplies_made s name m)

abbrev pub TextsGiveProjects : Type 0
TextsGiveProjects =
    (s : Structure) (text : List ℕ) (m : Made) (name : Scoped → ScopedName) (margin : ℕ)
    → IsShallow s → Intends s text (Ok m) → IsDriven m → IsGiven (project_made s name m margin) (lists_made m)
