-- Where domains meet, by numbers: instances of another domain than that above them, and the edges at their ports (own rule).
use Rattle.std.specs.Prelude.{ℕ, ◌==◌, Bool, true, false, not, List, map, Option, Some, None, option_and_then, slice_get, slice_index_or}
use Rattle.lp_model.specs.declared.graph.Edge.{Edge}
use Rattle.lp_model.specs.declared.graph.EdgeFrom.{EdgeFrom}
use Rattle.lp_model.specs.declared.graph.EdgeFrom.TheVariants.{Node as FromNode, Const as FromConst}
use Rattle.lp_model.specs.declared.graph.EdgeKind.{EdgeKind}
use Rattle.lp_model.specs.declared.graph.EdgeKind.TheVariants.{In, Out, Assign}
use Rattle.lp_model.specs.declared.graph.Inst.{Inst}
use Rattle.lp_model.specs.declared.graph.Node.{Node as NodeRow}
use Rattle.lp_model.specs.declared.ids.InstId.{InstId}
use Rattle.lp_model.specs.declared.ids.NodeId.{NodeId}
use Rattle.lp_spec_design.specs.Graph.{numbered}

-- ---- instances

-- of another domain than the instance in which it stands; the top stands in none
abbrev pub is_other : List ℕ → ℕ → Option InstId → Bool
is_other domains own None = true
is_other domains own (Some parent) = not (own == slice_index_or domains parent.0 0)

abbrev pub is_meeting : List ℕ → ℕ × Inst → Bool
is_meeting domains x = is_other domains (slice_index_or domains x.0 0) x.1.parent

-- by the domain of each instance
abbrev pub meetings : List ℕ → List Inst → List Bool
meetings domains rows = map (is_meeting domains) (numbered 0 rows)

-- ---- edges

abbrev pub from_node : EdgeFrom → Option NodeId
from_node (FromNode k) = Some k
from_node (FromConst b) = None

-- the net bit inside of a port, where an edge is one of a port
abbrev pub inner_end : Edge → Option NodeId
inner_end e = by e.kind
  where
    by : EdgeKind → Option NodeId
    by In = Some e.to
    by Out = from_node e.from
    by Assign = None

-- whether a net bit is one of an instance that is told
abbrev pub is_told : List Bool → Option NodeRow → Bool
is_told told None = false
is_told told (Some x) = slice_index_or told x.inst.0 true

abbrev pub is_meeting_edge : List Bool → List NodeRow → Edge → Bool
is_meeting_edge told nodes e = is_told told (option_and_then (λ (k : NodeId). slice_get nodes k.0) (inner_end e))

abbrev pub meeting_edges : List Bool → List NodeRow → List Edge → List Bool
meeting_edges told nodes edges = map (is_meeting_edge told nodes) edges
