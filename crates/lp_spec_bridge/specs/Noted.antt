-- What drives each node, noted from a list of drives by number: the first one stays (own rule).
use Rattle.std.specs.Prelude.{ℕ, ◌==◌, List, [], ◌∷◌, Option, Some, if◌then◌else◌}
use Rattle.lp_model.specs.declared.graph.Source.{Source as SourceRow}
use Rattle.lp_model.specs.declared.graph.Source.TheVariants.{Nothing}
use Rattle.lp_spec_design.specs.Keys.{Node, Source}
use Rattle.lp_spec_design.specs.Netlists.{Structure}
use Rattle.lp_spec_bridge.specs.Tables.{Tables}
use Rattle.lp_spec_bridge.specs.Edges.{Drive}
use Rattle.lp_spec_bridge.specs.Keyed.{Keyed, node_at}
use Rattle.lp_spec_bridge.specs.Represents.{source_key}

-- a node by number, and something that drives it
abbrev pub DriveRow : Type 0
DriveRow = ℕ × SourceRow

abbrev pub noted_at : List DriveRow → ℕ → SourceRow
noted_at [] k = Nothing
noted_at (x ∷ rows) k = if x.0 == k then x.1 else noted_at rows k

-- a row of the list and a drive of the design by what they mean
abbrev pub row_key : Structure → Keyed → Tables → DriveRow → Node × Option Source
row_key s ks t x = (node_at ks x.0, source_key s ks t x.1)

abbrev pub drive_key : Drive → Node × Option Source
drive_key d = (d.0, Some d.1)
