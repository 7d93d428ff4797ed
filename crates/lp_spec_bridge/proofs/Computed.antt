-- The definitions computed on small designs.
use Rattle.std.specs.Prelude.{◌≡◌, [], ◌∷◌, map, None, codes}
use Rattle.std.proofs.Common.{refl}
use Rattle.lp_model.specs.declared.graph.EdgeKind.TheVariants.{In, Out}
use Rattle.lp_spec_design.specs.Keys.{Inner, PortBit, Outer}
use Rattle.lp_spec_design.specs.Nodes.{computing, nodes_of}
use Rattle.lp_spec_bridge.specs.Readers.{reader_key, reader_with_node, readers_by, readers_behind}
use Rattle.lp_spec_design.specs.Graph.{readers, readers_of, sources_of}
use Rattle.lp_spec_design.proofs.Samples.{plain, fed_through, read_inside}
use Rattle.lp_spec_bridge.specs.Edges.{drives_of, drivers_among, edges_of}
use Rattle.lp_spec_bridge.specs.Keyed.{keys_of}
use Rattle.lp_spec_bridge.specs.Tables.{IsClosed}
use Rattle.lp_spec_bridge.specs.Represents.{Represents}
use Rattle.lp_spec_bridge.proofs.Ways.{keys_apart}
use Rattle.lp_spec_bridge.proofs.Tested.{names_tested}
use Rattle.lp_spec_bridge.specs.Elaborates.{Elaborates, edge_ends, starts_from}
use Rattle.lp_spec_bridge.proofs.Samples.{texts, tables}

-- the edges of a top with one block: the inputs of the top, the output of the block, its input, and the top's output
edges : map edge_ends (edges_of plain) ≡
    (Outer (codes "a") None, Inner (codes "a") None [], In)
    ∷ (Outer (codes "en") None, Inner (codes "en") None [], In)
    ∷ (Inner (codes "o") None (codes "u" ∷ []), Inner (codes "n") None [], Out)
    ∷ (Inner (codes "a") None [], Inner (codes "i") None (codes "u" ∷ []), In)
    ∷ (Inner (codes "y") None [], Outer (codes "y") None, Out)
    ∷ []
unfolding computing
edges = refl

starts : starts_from plain 0 (keys_of plain).instances ≡ 0 ∷ 4 ∷ []
unfolding computing
starts = refl

-- what drives a node is what the list has for it
same_plain : map (λ k. drivers_among k (drives_of plain)) (nodes_of plain) ≡ map (sources_of plain) (nodes_of plain)
unfolding computing
same_plain = refl

same_fed : map (λ k. drivers_among k (drives_of fed_through)) (nodes_of fed_through) ≡ map (sources_of fed_through) (nodes_of fed_through)
unfolding computing
same_fed = refl

same_inside : map (λ k. drivers_among k (drives_of read_inside)) (nodes_of read_inside) ≡ map (sources_of read_inside) (nodes_of read_inside)
unfolding computing
same_inside = refl

-- ---- tables that represent the design

closed : IsClosed tables
closed = record { sources = refl; led = refl; edges = refl; pins = refl; leaves = refl; instances = refl }

represents : Represents plain (keys_of plain) tables
unfolding computing
represents = record { count = refl; ways = refl; sources = refl; cells = refl; pins = refl; closed = closed }

elaborates : Elaborates texts plain tables
unfolding computing
elaborates = record {
  represents = represents;
  apart = keys_apart plain (names_tested plain refl);
  instances = refl;
  modules = refl;
  starts = refl;
  leaves = refl;
  inner = refl;
  inner_bits = refl;
  outer_bits = refl;
  edges = refl;
  shapes = refl;
}

-- readers by number, also those to which an edge leads: the output of the block is read by the buffer
all_read : map (reader_with_node plain (keys_of plain) tables) (readers_by plain tables) ≡ readers plain
unfolding computing
all_read = refl

read_behind : map (reader_key plain (keys_of plain) tables) (readers_behind plain tables 9 2) ≡ readers_of plain 9 (PortBit (codes "u" ∷ []) (codes "o") None)
unfolding computing
read_behind = refl
