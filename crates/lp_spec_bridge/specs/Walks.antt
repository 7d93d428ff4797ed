-- Ways back by number (own rule): what the analyses compute on tables.
use Rattle.std.specs.Prelude.{ℕ, zero, suc, ◌==◌, Bool, false, List, [], ◌∷◌, length, Option, Some, None}
use Rattle.std.specs.List.{list_any}
use Rattle.lp_model.specs.declared.graph.EdgeFrom.{EdgeFrom}
use Rattle.lp_model.specs.declared.graph.EdgeFrom.TheVariants.{Node as FromNode, Const as FromConst}
use Rattle.lp_model.specs.declared.graph.Source.{Source as SourceRow}
use Rattle.lp_model.specs.declared.graph.Source.TheVariants.{Edge as OfEdge}
use Rattle.lp_spec_design.specs.Keys.{Node, Way}
use Rattle.lp_spec_design.specs.Netlists.{upward}
use Rattle.lp_spec_bridge.specs.Tables.{Tables, source_row, edge_from}
use Rattle.lp_spec_bridge.specs.Keyed.{Keyed, way_at}
use Rattle.lp_spec_bridge.specs.Represents.{from_key}

-- the edge of a source that is one
abbrev pub edge_in : SourceRow → Option ℕ
edge_in (OfEdge e) = Some e.0
edge_in _ = None

abbrev pub going_by : Tables → (EdgeFrom → List (ℕ × EdgeFrom)) → Option ℕ → List (ℕ × EdgeFrom)
going_by t more None = []
going_by t more (Some e) = (e, edge_from t e) ∷ more (edge_from t e)

-- the edges by which a node is reached, the last first, each with what it comes from
abbrev pub trail_by : Tables → ℕ → EdgeFrom → List (ℕ × EdgeFrom)
trail_by t zero k = []
trail_by t (suc fuel) k = going_by t (λ j. trail_by t fuel j) (edge_in (source_row t k))

-- where they begin
abbrev pub beginning_by : EdgeFrom → List (ℕ × EdgeFrom) → EdgeFrom
beginning_by k [] = k
beginning_by k (step ∷ steps) = beginning_by step.1 steps

abbrev pub end_by : Tables → ℕ → EdgeFrom → EdgeFrom
end_by t fuel k = beginning_by k (trail_by t fuel k)

-- what drives a node in the end
abbrev pub wire_source_by : Tables → ℕ → EdgeFrom → SourceRow
wire_source_by t fuel k = source_row t (end_by t fuel k)

-- an edge leads to a node
abbrev pub passes_by : Tables → ℕ → ℕ → EdgeFrom → Bool
passes_by t fuel e k = list_any (λ step. step.0 == e) (trail_by t fuel k)

abbrev pub is_number : ℕ → EdgeFrom → Bool
is_number k (FromNode j) = j.0 == k
is_number k (FromConst b) = false

-- a node lies on its own way back
abbrev pub is_on_its_way_by : Tables → ℕ → ℕ → EdgeFrom → Bool
is_on_its_way_by t fuel k from = list_any (λ step. is_number k step.1) (trail_by t fuel from)

-- with the fuel that is the number of nodes
abbrev pub is_looped_by : Tables → ℕ → Bool
is_looped_by t k = is_on_its_way_by t (length t.nodes) k (FromNode (record { 0 = k }))

-- some net bit of an instance does
abbrev pub has_wire_loop_by : Tables → Bool
has_wire_loop_by t = list_any (is_looped_by t) (upward t.inner 0)

-- a step by its keys
abbrev pub step_key : Keyed → ℕ × EdgeFrom → Way × Node
step_key ks step = (way_at ks step.0, from_key ks step.1)
