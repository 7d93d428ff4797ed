-- The tables of an elaborated netlist as they are made from what is resolved and named once for each module (own rule).
use Rattle.std.specs.Prelude.{◌≡◌, ◌<◌, ℕ, List, [], ◌∷◌, map, flat_map, length, take, drop, Option, Some, None, slice_get, slice_index_or}
use Rattle.lp_text.specs.Texts.{text_at}
use Rattle.lp_model.specs.declared.graph.Inst.{Inst}
use Rattle.lp_model.specs.declared.graph.Node.{Node as NodeRow}
use Rattle.lp_model.specs.declared.graph.NodeName.{NodeName}
use Rattle.lp_model.specs.declared.ids.InstId.{InstId}
use Rattle.lp_model.specs.NetlistView.{InstanceView, ModuleView}
use Rattle.lp_spec_design.specs.Netlists.{Structure, module_at}
use Rattle.lp_spec_design.specs.Graph.{numbered}
use Rattle.lp_spec_design.specs.Nodes.{nodes_of, outer_in}
use Rattle.lp_spec_bridge.specs.Tables.{Tables}
use Rattle.lp_spec_bridge.specs.Elaborates.{outer_key, row_shape, shape_of}
use Rattle.lp_spec_bridge.specs.Named.{NamedAt, name_bit}
use Rattle.lp_spec_bridge.specs.Kept.{NotesSources}
use Rattle.lp_spec_bridge.specs.Templates.{bits_in}
use Rattle.lp_spec_layout.specs.Parts.{Template, AreTemplates}
use Rattle.lp_spec_layout.specs.Sites.{Spot, Site, port_bits}
use Rattle.lp_spec_layout.specs.Feeds.{drive_rows, edge_rows}
use Rattle.lp_spec_layout.specs.Walked.{IsSized, sites_of, layout_of}
use Rattle.lp_spec_layout.specs.Leaves.{leaf_sites_of, leaf_rows, pin_rows}

-- ---- names

-- the names of a module's bits, and the numbers of the names of its instances
pub record Label : Type 0 where
  pub bits : List NodeName
  pub statements : List ℕ

pub record IsLabel (texts : List (List ℕ)) (m : ModuleView) (x : Label) : Type 0 where
  pub bits : map (name_bit texts) x.bits ≡ bits_in m
  pub statements : map (text_at texts) x.statements ≡ map (λ (y : InstanceView). y.name) m.instances

-- those of all modules, one by one
abbrev pub AreLabels : List (List ℕ) → List ModuleView → List Label → Type 0
AreLabels texts [] [] = Unit {0}
AreLabels texts [] (x ∷ xs) = ⊥
AreLabels texts (m ∷ ms) [] = ⊥
AreLabels texts (m ∷ ms) (x ∷ xs) = IsLabel texts m x × AreLabels texts ms xs

abbrev pub no_label : Label
no_label = record { bits = []; statements = [] }

-- the name of a statement's instance, by its module's number and its place
abbrev pub name_of : List Label → ℕ → ℕ → ℕ
name_of labels n place = slice_index_or (slice_index_or labels n no_label).statements place 0

-- ---- instances

abbrev pub parent_of : Option Spot → Option InstId
parent_of None = None
parent_of (Some at) = Some (record { 0 = at.0 })

-- the module of the instance in which one stands decides the name; the top has one of its own
abbrev pub name_in : List Label → ℕ → ℕ → Option Site → ℕ
name_in labels own place None = own
name_in labels own place (Some outer) = name_of labels outer.of place

abbrev pub instance_name : List Label → List Site → ℕ → Option Spot → ℕ
instance_name labels sites own None = own
instance_name labels sites own (Some at) = name_in labels own at.1 (slice_get sites at.0)

abbrev pub inst_row : List Label → List Site → ℕ → Site → Inst
inst_row labels sites own x = record { name = record { 0 = instance_name labels sites own x.by }; «module» = x.of; parent = parent_of x.by; start = x.start }

-- ---- nodes

-- the names of the bits of an instance
abbrev pub names_at_site : List Label → Option Site → List NodeName
names_at_site labels None = []
names_at_site labels (Some x) = (slice_index_or labels x.of no_label).bits

abbrev pub names_in : List Label → List Site → ℕ → List NodeName
names_in labels sites k = names_at_site labels (slice_get sites k)

abbrev pub name_rows : List Label → List Site → List NamedAt
name_rows labels sites = flat_map (λ (z : ℕ × Site). map (λ n. (z.0, n)) (names_at_site labels (Some z.1))) (numbered 0 sites)

-- ---- all tables

-- the top's module, its number and that of its name, templates, labels and sizes; the tables as they come from these; each node has the first row that is made for it
pub record IsLaidOut (texts : List (List ℕ)) (s : Structure) (t : Tables) : Type 0 where
  pub top : ModuleView
  pub of : ℕ
  pub own : ℕ
  pub templates : List Template
  pub labels : List Label
  pub sized : IsSized s templates
  pub is_top : module_at s [] ≡ Some top
  pub has_top : slice_get s.modules of ≡ Some top
  pub low : sized.height of < 64
  pub resolved : AreTemplates s s.modules templates
  pub labelled : AreLabels texts s.modules labels
  pub instances : t.instances ≡ map (inst_row labels (sites_of templates of) own) (sites_of templates of)
  pub leaves : t.leaves ≡ leaf_rows (name_of labels) 0 (leaf_sites_of templates of)
  pub pins : t.pins ≡ pin_rows (leaf_sites_of templates of)
  pub edges : t.edges ≡ edge_rows s.cells (layout_of templates of (sized.size of).bits (port_bits top))
  pub inner : t.inner ≡ (sized.size of).bits
  pub names : map (λ (x : NodeRow). (x.inst.0, x.name)) (take t.inner t.nodes) ≡ name_rows labels (sites_of templates of)
  pub outer : map (λ (x : NodeRow). outer_key texts x.name) (drop t.inner t.nodes) ≡ outer_in (Some top)
  pub count : length t.nodes ≡ length (nodes_of s)
  pub sources : NotesSources s t (drive_rows s.cells (layout_of templates of (sized.size of).bits (port_bits top)))
  pub shapes : map row_shape t.shapes ≡ map shape_of s.cells
