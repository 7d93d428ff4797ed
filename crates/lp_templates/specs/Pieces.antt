-- Lists of places and constants in pieces, and two of them joined place by place (IEEE 1364-2005, port connections, continuous assignments; the pieces are an own rule).
use Rattle.std.specs.Prelude.{ℕ, List, [], ◌∷◌, ◌++◌, ◌<◌, map, flat_map, Option, Some, None}
use Rattle.lp_model.specs.declared.graph.EdgeFrom.{EdgeFrom}
use Rattle.lp_model.specs.declared.graph.EdgeFrom.TheVariants.{Node as FromNode, Const as FromConst}
use Rattle.lp_spec_design.specs.Netlists.{upward}
use Rattle.lp_spec_design.specs.Graph.{pairs, some_of}
use Rattle.lp_spec_bridge.specs.Templates.{at_start}
use Rattle.lp_spec_layout.specs.Parts.{Joint}
use Rattle.lp_templates.specs.declared.piece.Piece.{Piece}
use Rattle.lp_templates.specs.declared.cursor.Cursor.{Cursor}

-- so many places from one on, or as many times a constant
abbrev pub places_from : EdgeFrom → ℕ → List EdgeFrom
places_from from n = map (λ i. at_start i from) (upward n 0)

abbrev pub piece_places : Piece → List EdgeFrom
piece_places p = places_from p.from p.count

abbrev pub places_in : List Piece → List EdgeFrom
places_in ps = flat_map piece_places ps

-- what a cursor has before it
abbrev pub rest_of : Cursor → List EdgeFrom
rest_of c = piece_places c.piece ++ places_in c.later.now

-- a place that is driven; a constant is not
abbrev pub joint : EdgeFrom × EdgeFrom → Option Joint
joint z = by z.0
  where
    by : EdgeFrom → Option Joint
    by (FromNode k) = Some (k.0, z.1)
    by (FromConst b) = None

-- the places of one list, each driven from the other's place beside it
abbrev pub joints_of : List EdgeFrom → List EdgeFrom → List Joint
joints_of to from = some_of joint (pairs to from)

-- there is no piece, or the first one has a place
abbrev pub BeginsFilled : List Piece → Type 0
BeginsFilled [] = Unit {0}
BeginsFilled (p ∷ ps) = 0 < p.count
