-- Each node of the written netlist has at most one source.
use Rattle.std.proofs.Common.{length}
use Rattle.std.proofs.lemmas.Bool.{le-leb}
use Rattle.lp_spec_design.specs.Nodes.{nodes_of}
use Rattle.lp_spec_design.specs.Graph.{sources_of}
use Rattle.lp_spec_realises.specs.ProjectNetlists.{netlist_of, has_single_source}
use Rattle.lp_spec_written.specs.Written.{additions}
use Rattle.lp_spec_hub.specs.Drives.{comes_from}
use Rattle.lp_spec_written_at.proofs.Lists.{all-of}
use Rattle.lp_spec_proper.specs.Laws.{AdditionsAreProper}
use Rattle.lp_spec_single.specs.Laws.{EqualSourcesAreSingle}
use Rattle.lp_spec_sources.specs.Laws.{SourcesAreEqual, ContentHasOwnNames, ContentHasSingleSources}

pub single-sources : AdditionsAreProper → SourcesAreEqual → ContentHasOwnNames → EqualSourcesAreSingle → ContentHasSingleSources
single-sources proper equal own single p l switch_command modules read good within written names =
    let w = netlist_of p modules in
    let own_names = own p l switch_command modules read good within written names in
    all-of (has_single_source w) (nodes_of w)
    (λ k h. le-leb (length (sources_of w k)) 1
    (single w own_names k (equal p (additions p l) w (comes_from p) written (proper p l switch_command read good within) own_names k)))
