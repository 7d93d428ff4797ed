-- The rank of a retention strategy at each register, by number (own rule).
use Rattle.std.specs.Prelude.{ℕ, ◌+◌, Bool, false, ◌||◌, List, [], ◌∷◌, map, is_some, not, length, replicate, if◌then◌else◌, slice_index_or}
use Rattle.lp_model.specs.declared.graph.Graph.{Graph}
use Rattle.lp_model.specs.declared.graph.Leaf.{Leaf as LeafRow}
use Rattle.lp_model.specs.declared.intent.Element.{Element}
use Rattle.lp_model.specs.declared.intent.Strategy.{Strategy}
use Rattle.lp_model.specs.declared.intent.StrategyKind.{StrategyKind}
use Rattle.lp_model.specs.declared.intent.StrategyKind.TheVariants.{Retention}
use Rattle.lp_spec_design.specs.Graph.{numbered}
use Rattle.lp_strategy.specs.Sides.{is_register_of}
use Rattle.lp_strategy.specs.Elements.{listed}
use Rattle.lp_retention.specs.declared.best.Best.{Best}
use Rattle.lp_retention.specs.declared.ranks.Reach.{Reach}
use Rattle.lp_retention.specs.Marks.{instance_of, cell_of, marks, reached}
use Rattle.lp_retention.specs.Best.{none_yet, offer}

abbrev pub reached_by : Graph → List Element → List Bool
reached_by g es = reached (marks instance_of (length g.instances) es) g.instances

abbrev pub cells_by : Graph → List Element → List Bool
cells_by g es = marks cell_of (length g.leaves) es

-- what a strategy lists and what it excludes
abbrev pub reach_of : Graph → Strategy → Reach
reach_of g t = record {
  domain = t.domain;
  whole = not (is_some t.elements);
  instances = reached_by g (listed t.elements);
  cells = cells_by g (listed t.elements);
  barred = reached_by g t.excluded;
  barred_cells = cells_by g t.excluded;
}

-- a named register, a named instance, a domain; 0 where it is not listed
abbrev pub level_of : Bool → Bool → Bool → ℕ
level_of whole cell inside = if whole then 1 else if cell then 3 else if inside then 2 else 0

-- the rank at a cell instance of some instance, 0 where the strategy does not apply
abbrev pub rank_of : Graph → List ℕ → Reach → ℕ → ℕ → ℕ
rank_of g domains r k inst =
    if is_register_of g domains r.domain k
    then if slice_index_or r.barred_cells k false || slice_index_or r.barred inst false then 0
    else level_of r.whole (slice_index_or r.cells k false) (slice_index_or r.instances inst false)
    else 0

abbrev pub better_at : Graph → List ℕ → Reach → ℕ → List Best → ℕ × LeafRow → Best
better_at g domains r n bests z = offer n (rank_of g domains r z.0 z.1.inst.0) (slice_index_or bests z.0 none_yet)

abbrev pub better : Graph → List ℕ → Reach → ℕ → List Best → List Best
better g domains r n bests = map (better_at g domains r n bests) (numbered 0 g.leaves)

-- a strategy of another kind changes nothing
abbrev pub with_strategy : Graph → List ℕ → StrategyKind → Strategy → ℕ → List Best → List Best
with_strategy g domains Retention t n bests = better g domains (reach_of g t) n bests
with_strategy g domains kind t n bests = bests

abbrev pub bests_from : Graph → List ℕ → ℕ → List Strategy → List Best
bests_from g domains n [] = replicate (length g.leaves) none_yet
bests_from g domains n (t ∷ ts) = with_strategy g domains t.kind t n (bests_from g domains (n + 1) ts)
