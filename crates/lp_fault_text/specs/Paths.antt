-- The parts of a netlist as texts: the names of the instances from the top down, then the part's own name, joined by `/` (own rule). A number that no table has gives an empty text.
use Rattle.std.specs.Prelude.{◌≡◌, ℕ, zero, suc, ◌==◌, Bool, false, List, [], ◌∷◌, ◌++◌, codes, decimal, Option, Some, None, slice_get, option_and_then, if◌then◌else◌}
use Rattle.std.specs.List.{flat_map}
use Rattle.std.specs.Option.{option_map}
use Rattle.lp_text.specs.Texts.{text_at}
use Rattle.lp_text.specs.declared.names.NameId.{NameId}
use Rattle.lp_model.specs.declared.graph.EdgeFrom.{EdgeFrom}
use Rattle.lp_model.specs.declared.graph.EdgeFrom.TheVariants as froms
use Rattle.lp_model.specs.declared.graph.Inst.{Inst}
use Rattle.lp_model.specs.declared.graph.NodeName.{NodeName}
use Rattle.lp_model.specs.declared.graph.NodeName.TheVariants.{Scalar, Bit, Added}
use Rattle.lp_model.specs.declared.ids.EdgeId.{EdgeId}
use Rattle.lp_model.specs.declared.ids.InstId.{InstId}
use Rattle.lp_model.specs.declared.ids.LeafId.{LeafId}
use Rattle.lp_model.specs.declared.ids.NodeId.{NodeId}
use Rattle.lp_model.specs.declared.library.Cell.{Cell}
use Rattle.lp_model.specs.declared.netlist.Module.{Module}
use Rattle.lp_fault_text.specs.Views.{GraphView}

-- the text of what a table has at a number
abbrev pub text_of : {A : Type 0} → (A → List ℕ) → Option A → List ℕ
text_of text None = []
text_of text (Some x) = text x

-- ---- the names of the instances down to an instance

-- the instance in which one stands, and its name there; the top stands in none
abbrev pub standing : List Inst → InstId → Option (InstId × NameId)
standing instances inst = option_and_then (λ x. option_map (λ parent. (parent, x.name)) x.parent) (slice_get instances inst.0)

abbrev pub with_own : List (List ℕ) → (InstId → List (List ℕ)) → Option (InstId × NameId) → List (List ℕ)
with_own names path None = []
with_own names path (Some s) = path s.0 ++ text_at names s.1.0 ∷ []

-- the names from the top, which has none here, down to an instance: those down to the one in which it stands, and its own
abbrev pub path_within : List (List ℕ) → List Inst → ℕ → InstId → List (List ℕ)
path_within names instances zero inst = []
path_within names instances (suc depth) inst = with_own names (λ parent. path_within names instances depth parent) (standing instances inst)

-- no instance is deeper than 64
unfoldable pub path : List (List ℕ) → List Inst → InstId → List (List ℕ)
path names instances inst = path_within names instances 64 inst

abbrev pub slashed : List (List ℕ) → List ℕ
slashed names = flat_map (λ name. name ++ codes "/") names

-- what stands in an instance
abbrev pub text_in : List (List ℕ) → List Inst → InstId → List ℕ → List ℕ
text_in names instances inst own = slashed (path names instances inst) ++ own

-- ---- instances, cell instances and their pins

-- a name in an instance; alone where it stands in none
abbrev pub text_below : List (List ℕ) → List Inst → Option InstId → NameId → List ℕ
text_below names instances None name = text_at names name.0
text_below names instances (Some parent) name = text_in names instances parent (text_at names name.0)

-- an instance; the top by the name of its module
abbrev pub inst_text : List (List ℕ) → GraphView → InstId → List ℕ
inst_text names g inst = text_of (λ x. text_below names g.instances x.parent x.name) (slice_get g.instances inst.0)

abbrev pub leaf_text : List (List ℕ) → GraphView → LeafId → List ℕ
leaf_text names g leaf = text_of (λ l. text_in names g.instances l.inst (text_at names l.name.0)) (slice_get g.leaves leaf.0)

abbrev pub cell_of : List Cell → GraphView → LeafId → Option Cell
cell_of cells g leaf = option_and_then (λ l. slice_get cells l.cell.0) (slice_get g.leaves leaf.0)

-- the name of a cell's signal pin or pg_pin, by its place among the cell's
abbrev pub pin_in : List (List ℕ) → ℕ → Cell → List ℕ
pin_in names place cell = text_of (λ pin. text_at names pin.name.0) (slice_get cell.pins place)

abbrev pub pg_in : List (List ℕ) → ℕ → Cell → List ℕ
pg_in names place cell = text_of (λ pg. text_at names pg.name.0) (slice_get cell.pgs place)

-- a signal pin of a cell instance
abbrev pub pin_text : List (List ℕ) → List Cell → GraphView → LeafId → ℕ → List ℕ
pin_text names cells g leaf place = leaf_text names g leaf ++ (codes "/" ++ text_of (pin_in names place) (cell_of cells g leaf))

-- a pg_pin of a cell instance by its name alone
abbrev pub pg_name : List (List ℕ) → List Cell → GraphView → LeafId → ℕ → List ℕ
pg_name names cells g leaf place = text_of (pg_in names place) (cell_of cells g leaf)

-- ---- net bits and port bits

-- a bit of a vector with its index; a node that was added to a netlist has no name in a line
abbrev pub bit_name : List (List ℕ) → NodeName → List ℕ
bit_name names (Scalar name) = text_at names name.0
bit_name names (Bit name index) = text_at names name.0 ++ (codes "[" ++ (decimal index ++ codes "]"))
bit_name names (Added kind) = []

-- a net bit, a top port's on either side by the port's name
abbrev pub node_text : List (List ℕ) → GraphView → NodeId → List ℕ
node_text names g node = text_of (λ n. text_in names g.instances n.inst (bit_name names n.name)) (slice_get g.nodes node.0)

abbrev pub inst_of : GraphView → NodeId → Option InstId
inst_of g node = option_map (λ n. n.inst) (slice_get g.nodes node.0)

abbrev pub parent_of : GraphView → InstId → Option InstId
parent_of g inst = option_and_then (λ x. x.parent) (slice_get g.instances inst.0)

abbrev pub is_same_inst : Option InstId → Option InstId → Bool
is_same_inst (Some a) (Some b) = a.0 == b.0
is_same_inst _ _ = false

-- a node of an instance, and a node of the instance in which that one stands
abbrev pub leads_up : GraphView → NodeId → NodeId → Bool
leads_up g inner outer = is_same_inst (option_and_then (parent_of g) (inst_of g inner)) (inst_of g outer)

-- the inner bit of the port that an edge passes: the end that stands deeper
abbrev pub inner_end : GraphView → EdgeFrom → NodeId → NodeId
inner_end g (froms.Const b) to = to
inner_end g (froms.Node node) to = if leads_up g node to then node else to

-- a port bit of an instance, by its edge
abbrev pub bit_text : List (List ℕ) → GraphView → EdgeId → List ℕ
bit_text names g edge = text_of (λ e. node_text names g (inner_end g e.from e.to)) (slice_get g.edges edge.0)

abbrev pub module_of : GraphView → InstId → Option Module
module_of g inst = option_and_then (λ x. slice_get g.modules x.«module») (slice_get g.instances inst.0)

abbrev pub port_in : List (List ℕ) → ℕ → Module → List ℕ
port_in names place m = text_of (λ port. text_at names port.name.0) (slice_get m.ports place)

-- a whole port of an instance, by its place in the header of the instance's module
abbrev pub port_text : List (List ℕ) → GraphView → InstId → ℕ → List ℕ
port_text names g inst place = text_in names g.instances inst (text_of (port_in names place) (module_of g inst))

-- ---- paths by a relation

-- so many instances stand around an instance, and these are the names from the top down to it
pub data Leads (names : List (List ℕ)) (instances : List Inst) : ℕ → InstId → List (List ℕ) → Type 0 where
  top_itself : {inst : InstId} → standing instances inst ≡ None → Leads names instances 0 inst []
  one_below : {depth : ℕ} {inst parent : InstId} {name : NameId} {above : List (List ℕ)} → standing instances inst ≡ Some (parent, name) → Leads names instances depth parent above
      → Leads names instances (suc depth) inst (above ++ text_at names name.0 ∷ [])
