-- The written netlist has the cells that are chosen, in their places.
use Rattle.std.proofs.Common.{◌≡◌, ◌≤◌, true, ◌&&◌, map, length}
use Rattle.std.specs.Prelude.{IsTrue}
use Rattle.std.specs.List.{list_all}
use Rattle.lp_model.specs.LibraryView.{CellView}
use Rattle.lp_spec_design.specs.Keys.{Path}
use Rattle.lp_spec_design.specs.Netlists.{Structure}
use Rattle.lp_spec_design.specs.Instances.{cell_instances}
use Rattle.lp_spec_design.specs.Reads.{both}
use Rattle.lp_spec_realises.specs.Projects.{Project}
use Rattle.lp_spec_realises.specs.ProjectNetlists.{are_apart}
use Rattle.lp_spec_realises.specs.Operators.{all_operators, all_switches}
use Rattle.lp_spec_realises.specs.Implements.{Lists, operator_as_chosen, register_as_chosen, switch_as_chosen, as_chosen}
use Rattle.lp_spec_written.specs.Places.{plan, switches_in}
use Rattle.lp_spec_written.specs.Nets.{linked}
use Rattle.lp_spec_written.specs.Written.{additions}
use Rattle.lp_spec_hub.specs.Entries.{HasWaysApart, HasItsCells}
use Rattle.lp_spec_wired.specs.Contents.{IsWrittenAt}
use Rattle.lp_spec_wired.specs.Names.{placement_of}
use Rattle.lp_spec_written_at.specs.Sources.{IsFree, HasSwitchCells, HasRegisterCells}
use Rattle.lp_spec_written_at.proofs.Stands.{operators-chosen, switches-chosen}
use Rattle.lp_spec_written_at.proofs.SourceCells.{registers-chosen}

pub is-as-chosen :
    (p : Project) (l : Lists) (w : Structure)
    → IsFree p
    → are_apart (map (λ (k : CellView). k.name) p.structure.cells) ≡ true
    → HasWaysApart p
    → HasItsCells p l
    → HasRegisterCells p l
    → HasSwitchCells p l
    → IsWrittenAt p (additions p l) w
    → ((x : Path) → length (linked p (additions p l).chains x) ≤ 1000000000)
    → ((x : Path) → length (switches_in (plan p l) x) ≤ 1000000000)
    → IsTrue (as_chosen p w l (placement_of p l))
is-as-chosen p l w f apart ways cells registers switches is few less =
    both (list_all (operator_as_chosen p w l (placement_of p l)) (all_operators p))
    (list_all (register_as_chosen p w l) (cell_instances p.structure) && list_all (switch_as_chosen p w l (placement_of p l)) (all_switches p))
    (operators-chosen p l w f apart ways cells is few)
    (both (list_all (register_as_chosen p w l) (cell_instances p.structure)) (list_all (switch_as_chosen p w l (placement_of p l)) (all_switches p))
    (registers-chosen p l w f apart registers is)
    (switches-chosen p l switches w f apart is less))
