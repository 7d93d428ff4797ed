-- Modules of the written content are a netlist of the project.
use Rattle.std.proofs.Common.{List}
use Rattle.lp_model.specs.NetlistView.{ModuleView}
use Rattle.std.specs.Prelude.{IsTrue}
use Rattle.lp_spec_realises.specs.Projects.{Project}
use Rattle.lp_spec_realises.specs.ProjectNetlists.{netlist_of, has_names_apart, IsProjectNetlist}
use Rattle.lp_spec_realises.specs.Implements.{Lists}
use Rattle.lp_spec_written.specs.Written.{additions, written}
use Rattle.lp_spec_wired.specs.Contents.{IsWrittenAt}
use Rattle.lp_spec_written_at.specs.Sources.{IsReached}
use Rattle.lp_spec_written_at.specs.Laws.{IsReady, IsDrivenOnce}
use Rattle.lp_spec_written_at.proofs.Modules.{written_at, written-reached}
use Rattle.lp_spec_written_at.proofs.Netlists.{is-shallow, has-ports, has-origins, knows-targets}
use Rattle.lp_spec_written_at.proofs.SupplyNames.{ports-apart}
use Rattle.lp_spec_written_at.proofs.PartNames.{written-names}
use Rattle.lp_spec_written_at.proofs.JoinedBits.{content-declares, declares-by-test}

pub content-is : (p : Project) (l : Lists) (modules : List ModuleView) → IsReady p l → IsWrittenAt p (additions p l) (netlist_of p modules) → IsReached (netlist_of p modules) → IsTrue (has_names_apart modules) → IsDrivenOnce (netlist_of p modules) → IsProjectNetlist p modules
content-is p l modules ready is reached names once = record {
  one_source = once.one_source;
  no_loop = once.no_loop;
  known = knows-targets p l (netlist_of p modules) ready.free is reached;
  names_apart = names;
  declared = declares-by-test (netlist_of p modules) (content-declares p l (netlist_of p modules) ready.free ready.bits ready.controls is);
  shallow = is-shallow p (additions p l) (netlist_of p modules) ready.free is;
  origins_apart = ports-apart p ready.free ready.names;
  origins = has-origins p (additions p l) (netlist_of p modules) ready.free is ready.top;
  ports = has-ports p (additions p l) (netlist_of p modules) ready.free is;
}

pub written-is : (p : Project) (l : Lists) → IsReady p l → IsDrivenOnce (netlist_of p (written p l)) → IsProjectNetlist p (written p l)
written-is p l ready once = content-is p l (written p l) ready (written_at p l ready.free) (written-reached p l ready.free) (written-names p l ready.free ready.names ready.few) once
