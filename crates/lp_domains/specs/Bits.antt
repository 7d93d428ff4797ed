-- The edges of boundary bits in port order, by numbers: each net bit with the edge of the port that it is a bit of (own rule).
use Rattle.std.specs.Prelude.{ℕ, ◌+◌, Bool, false, List, [], ◌∷◌, Option, Some, None, replicate, slice_index_or, slice_set}
use Rattle.lp_model.specs.declared.graph.Edge.{Edge}
use Rattle.lp_model.specs.declared.ids.EdgeId.{EdgeId}
use Rattle.lp_model.specs.declared.ids.NodeId.{NodeId}
use Rattle.lp_spec_design.specs.Graph.{some_of, when}
use Rattle.lp_domains.specs.Boundary.{inner_end}

-- a table of net bits, in which one gets an edge
abbrev pub joined : List (Option ℕ) → Option NodeId → ℕ → List (Option ℕ)
joined table None e = table
joined table (Some k) e = slice_set table k.0 (Some e)

abbrev pub join_from : List (Option ℕ) → ℕ → List Edge → List (Option ℕ)
join_from table e [] = table
join_from table e (x ∷ xs) = join_from (joined table (inner_end x) e) (e + 1) xs

-- of so many net bits
abbrev pub joints : ℕ → List Edge → List (Option ℕ)
joints n edges = join_from (replicate n None) 0 edges

-- an edge, where it is told
abbrev pub told_edge : List Bool → Option ℕ → Option EdgeId
told_edge told None = None
told_edge told (Some e) = when (slice_index_or told e false) (record { 0 = e })

abbrev pub bits_by : List Bool → List (Option ℕ) → List EdgeId
bits_by told table = some_of (told_edge told) table
