-- Which modules can be written once for each content (own rule).
use Rattle.std.specs.Prelude.{◌≡◌, true, List, [], ◌∷◌, map, Some}
use Rattle.lp_model.specs.NetlistView.{ModuleView}
use Rattle.lp_spec_design.specs.Netlists.{module_at}
use Rattle.lp_spec_design.specs.Winners.{IsIn}
use Rattle.lp_spec_realises.specs.Projects.{Project}
use Rattle.lp_spec_realises.specs.ProjectNetlists.{netlist_of, are_apart}
use Rattle.lp_spec_hub.specs.Contents.{is_within}
use Rattle.lp_spec_written_at.specs.Sources.{IsReached}

-- modules with names of their own, none of which contains modules deeper than 64, the top first, and each one that of an instance
pub record CanBeShared (p : Project) (modules : List ModuleView) : Type 0 where
  pub apart : are_apart (map (λ (m : ModuleView). m.name) modules) ≡ true
  pub within : (m : ModuleView) → IsIn m modules → is_within modules 64 m ≡ true
  pub head : (top : ModuleView) → module_at (netlist_of p modules) [] ≡ Some top → (rest : List ModuleView) × (modules ≡ top ∷ rest)
  pub reached : IsReached (netlist_of p modules)
