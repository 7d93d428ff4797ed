-- The laws of insertion joined.
use Rattle.std.proofs.Common.{ℕ, List}
use Rattle.lp_model.specs.NetlistView.{ModuleView}
use Rattle.lp_spec_realises.specs.Projects.{Project}
use Rattle.lp_spec_realises.specs.ProjectNetlists.{netlist_of}
use Rattle.lp_spec_realises.specs.Implements.{Lists}
use Rattle.lp_spec_realises.specs.Realises.{Realises}
use Rattle.lp_spec_agreement.specs.Faultless.{IsFaultless}
use Rattle.lp_spec_agreement.proofs.Whole.{agreement_by_indices}
use Rattle.lp_spec_faultless.specs.Faults.{IsRead}
use Rattle.lp_spec_faultless.proofs.Whole.{faultless}
use Rattle.lp_spec_written.specs.Shared.{shared}
use Rattle.lp_spec_written.specs.Implements.{Implements}
use Rattle.lp_spec_written.specs.Written.{additions, written}
use Rattle.lp_spec_hub.specs.Entries.{HasWaysApart, HasItsCells}
use Rattle.lp_spec_hub.specs.Laws.{CellsAreThere, WaysApart}
use Rattle.lp_spec_wired.specs.Names.{placement_of}
use Rattle.lp_spec_written_at.specs.Sources.{HasSwitchCells, HasRegisterCells}
use Rattle.lp_spec_written_at.specs.Laws.{IsReady}
use Rattle.lp_spec_written_at.proofs.Modules.{written_at, written-reached}
use Rattle.lp_spec_written_at.proofs.NoLack.{cells-are-there}
use Rattle.lp_spec_written_at.proofs.PartNames.{written-names}
use Rattle.lp_spec_written_at.proofs.Projects.{content-is}
use Rattle.lp_spec_written_at.proofs.Paths.{same-module-paths}
use Rattle.lp_spec_written_at.proofs.CellsApart.{cells-whole}
use Rattle.lp_spec_written_at.proofs.Chosen.{is-as-chosen}
use Rattle.lp_spec_shared.proofs.Written.{shared-at, shared-reached, shared-apart}
use Rattle.lp_spec_proper.specs.Insertable.{IsInsertable, IsWithinLimits}
use Rattle.lp_spec_together.specs.Content.{HasWrittenContent, IsWired}
use Rattle.lp_spec_together.specs.Laws.{WrittenHasContent, SharedHasContent, ContentIsWired, ContentImplements, ContentShowsTheSame, WrittenImplements, SharedImplements, ShowsTheSame}
use Rattle.lp_spec_together.proofs.Indices.{content_keeps_indices}
use Rattle.lp_spec_proper.proofs.Free.{free, ready}
use Rattle.lp_spec_together.proofs.Supplied.{realised_is_supplied}

pub written_has_content : WrittenHasContent
written_has_content p l switch_command read good within =
    let f = free p l switch_command read good within in
    record { at_paths = written_at p l f; reached = written-reached p l f; names = written-names p l f within.origin_names within.few }

pub shared_has_content : SharedHasContent
shared_has_content p l switch_command read good within =
    let f = free p l switch_command read good within in
    record { at_paths = shared-at p l f; reached = shared-reached p l f; names = shared-apart p l f within.origin_names within.few }

module _ (p : Project) (l : Lists) (switch_command : ℕ → ℕ) (modules : List ModuleView) (read : IsRead p) (good : IsInsertable p l switch_command) (within : IsWithinLimits p l) (content : HasWrittenContent p l modules) (wired : IsWired p l modules) (ways : HasWaysApart p) (cells : HasItsCells p l) where
  is_ready : IsReady p l
  is_ready = ready p l switch_command read good within

  registers : HasRegisterCells p l
  registers = (cells-are-there p l good.cells).0

  switches : HasSwitchCells p l
  switches = record { chosen = (cells-are-there p l good.cells).1; scope = within.scopes }

  realises : Realises p modules
  realises = record {
    netlist = content-is p l modules is_ready content.at_paths content.reached content.names wired.driven;
    placement = placement_of p l;
    instances = same-module-paths p (additions p l) (netlist_of p modules) is_ready.free content.at_paths;
    cells = cells-whole p l is_ready.free ways cells switches within.few.operators within.few.switches (netlist_of p modules) within.cell_names registers content.at_paths;
    wires = wired.wires;
    controls = wired.controls;
    supplies = wired.supplies;
  }

  implements : Implements p l modules
  unfolding realises
  implements = record {
    realises = realises;
    cells = is-as-chosen p l (netlist_of p modules) is_ready.free within.cell_names ways cells registers switches content.at_paths within.few.operators within.few.switches;
    bits = wired.bits;
  }

  is_faultless : IsFaultless p
  is_faultless = faultless p switch_command read good.values

  shows : ShowsTheSame p l modules
  unfolding realises
  shows = agreement_by_indices p is_faultless modules realises (realised_is_supplied p is_faultless modules realises) (content_keeps_indices p (additions p l) modules content.at_paths)

pub content_implements : WaysApart → CellsAreThere → ContentIsWired → ContentImplements
content_implements ways cells wired p l switch_command modules read good within content =
    implements p l switch_command modules read good within content (wired p l switch_command modules read good within content) (ways p read.netlist.names_apart) (cells p l good.cells)

pub content_shows_the_same : WaysApart → CellsAreThere → ContentIsWired → ContentShowsTheSame
content_shows_the_same ways cells wired p l switch_command modules read good within content =
    shows p l switch_command modules read good within content (wired p l switch_command modules read good within content) (ways p read.netlist.names_apart) (cells p l good.cells)

pub written_implements : WrittenHasContent → ContentImplements → ContentShowsTheSame → WrittenImplements
written_implements has implements_it shows_it p l switch_command read good within =
    let content = has p l switch_command read good within in
    (implements_it p l switch_command (written p l) read good within content, shows_it p l switch_command (written p l) read good within content)

pub shared_implements : SharedHasContent → ContentImplements → ContentShowsTheSame → SharedImplements
shared_implements has implements_it shows_it p l switch_command read good within =
    let content = has p l switch_command read good within in
    (implements_it p l switch_command (shared (written p l)) read good within content, shows_it p l switch_command (shared (written p l)) read good within content)
