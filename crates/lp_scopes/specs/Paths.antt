-- What is claimed of names over each design that a graph elaborates (own rule).
use Rattle.std.specs.Prelude.{◌≡◌, ◌<◌, ◌≤◌, ℕ, nat_lt, true, List, length, None}
use Rattle.std.specs.List.{list_all}
use Rattle.lp_text.specs.Texts.{distinct}
use Rattle.lp_model.specs.declared.graph.Graph.{Graph}
use Rattle.lp_model.specs.declared.graph.Inst.{Inst}
use Rattle.lp_model.specs.declared.graph.Leaf.{Leaf}
use Rattle.lp_model.specs.declared.ids.InstId.{InstId}
use Rattle.lp_model.specs.declared.ids.LeafId.{LeafId}
use Rattle.lp_spec_design.specs.Keys.{Path}
use Rattle.lp_spec_design.specs.Netlists.{Structure, module_at}
use Rattle.lp_spec_design.specs.Instances.{Placed}
use Rattle.lp_spec_bridge.specs.Tables.{Tables, tables_of}
use Rattle.lp_spec_bridge.specs.Keyed.{keys_of, path_at, leaf_at}
use Rattle.lp_spec_bridge.specs.Names.{HasNamesApart}
use Rattle.lp_spec_bridge.specs.Elaborates.{Elaborates}
use Rattle.lp_spec_origins.specs.Commands.{Scoped}
use Rattle.lp_spec_intent.specs.Names.{at}
use Rattle.lp_scopes.specs.Spots.{IsIndex}
use Rattle.lp_scopes.specs.declared.scopes.Scopes.{Scopes}
use Rattle.lp_scopes.specs.declared.steps.Spot.{Spot}

-- tables elaborate a design with names apart, no instance of which is deeper than 64; the names of instances and cell instances are of a table of distinct texts
pub record IsScoped (texts : List (List ℕ)) (s : Structure) (t : Tables) : Type 0 where
  pub elaborates : Elaborates texts s t
  pub names : HasNamesApart s
  pub shallow : (p : Path) → 64 ≤ length p → module_at s p ≡ None
  pub apart : distinct texts ≡ true
  pub instances : list_all (λ (x : Inst). nat_lt x.name.0 (length texts)) t.instances ≡ true
  pub leaves : list_all (λ (l : Leaf). nat_lt l.name.0 (length texts)) t.leaves ≡ true

-- the path for which the number of an instance stands, and what is left of a name there
abbrev pub inst_path : Structure → InstId → Path
inst_path s i = path_at (keys_of s) i.0

abbrev pub scoped_at : Structure → Spot → Scoped
scoped_at s x = at (path_at (keys_of s) x.inst.0) x.name.now

-- the cell instance for which a number stands, and the one of a name in an instance
abbrev pub leaf_placed : Structure → LeafId → Placed
leaf_placed s l = leaf_at (keys_of s) l.0

abbrev pub placed_at : Scoped → Placed
placed_at a = record { path = a.scope; instance = a.name }

-- what is claimed of each such design and of the path of one of its instances, by the index of its graph
abbrev pub OnScope : List (List ℕ) → Graph → Scopes → InstId → (Structure → Path → Type 0) → Type 0
OnScope texts g x scope claim =
    IsIndex texts g.instances g.leaves x
    → (s : Structure) → IsScoped texts s (tables_of g)
    → scope.0 < length g.instances
    → claim s (path_at (keys_of s) scope.0)

-- the same of what is left of a name in one of its instances
abbrev pub OnSpot : List (List ℕ) → Graph → Scopes → Spot → (Structure → Scoped → Type 0) → Type 0
OnSpot texts g x spot claim = OnScope texts g x spot.inst (λ s p. claim s (scoped_at s spot))
