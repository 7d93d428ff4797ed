-- The statements of the laws of this crate (own rule).
use Rattle.std.specs.Prelude.{◌≡◌, true, List, [], Some, is_some, Ok}
use Rattle.lp_model.specs.CommandsView.{CommandView}
use Rattle.lp_model.specs.declared.library.Action.{Action}
use Rattle.lp_spec_design.specs.Keys.{Node, Inner, Outer, Fixed}
use Rattle.lp_spec_design.specs.Netlists.{Structure, module_at}
use Rattle.lp_spec_design.specs.Intents.{Strategy}
use Rattle.lp_spec_design.specs.Winners.{IsIn}
use Rattle.lp_spec_origins.specs.Commands.{PowerSwitch, MakesSwitch}
use Rattle.lp_spec_intent.specs.Made.{Made, network}
use Rattle.lp_spec_intent.specs.Intent.{made_by, resolved}

-- a net bit of an instance that is there
abbrev pub StandsInside : Structure → Node → Type 0
StandsInside s (Inner n i p) = is_some (module_at s p) ≡ true
StandsInside s (Outer n i) = ⊥
StandsInside s (Fixed b) = ⊥

-- control names give net bits of instances, and the scopes of switches are instances
pub record StandInside (s : Structure) (m : Made) : Type 0 where
  pub enables : (t : Strategy) (k : Node) → IsIn t (resolved m).strategies → t.control ≡ Some k → StandsInside s k
  pub saves : (t : Strategy) (k : Node × Action) → IsIn t (resolved m).strategies → t.save ≡ Some k → StandsInside s k.0
  pub restores : (t : Strategy) (k : Node × Action) → IsIn t (resolved m).strategies → t.restore ≡ Some k → StandsInside s k.0
  pub controls : (w : PowerSwitch) → IsIn (MakesSwitch w) (network m) → StandsInside s w.control
  pub scopes : (w : PowerSwitch) → IsIn (MakesSwitch w) (network m) → is_some (module_at s w.name.scope) ≡ true

-- whatever commands make over a netlist with a top
abbrev pub NamesStandInside : Type 0
NamesStandInside = (s : Structure) (commands : List CommandView) (m : Made) → is_some (module_at s []) ≡ true → made_by s commands ≡ Ok m → StandInside s m
