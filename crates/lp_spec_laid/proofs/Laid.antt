-- All that is laid out, in one.
use Rattle.std.proofs.Common.{◌≡◌, ℕ, zero, suc, ◌+◌, ◌<◌, List, [], ◌∷◌, ◌++◌, length, take, drop, Option, Some, None, refl, sym, ap, ◌∙◌, arith}
use Rattle.std.specs.Prelude.{true, map, flat_map, slice_get}
use Rattle.std.specs.List.{list_all}
use Rattle.std.proofs.lemmas.List.{map-append, length-map, length-append}
use Rattle.lp_model.specs.declared.graph.Node.{Node as NodeRow}
use Rattle.lp_model.specs.declared.graph.NodeName.{NodeName}
use Rattle.lp_model.specs.declared.graph.Source.{Source as SourceRow}
use Rattle.lp_model.specs.declared.graph.Source.TheVariants.{Nothing}
use Rattle.lp_model.specs.declared.ids.InstId.{InstId}
use Rattle.lp_model.specs.declared.library.Library.{Library}
use Rattle.lp_model.specs.declared.netlist.Module.{Module}
use Rattle.lp_model.specs.declared.netlist.Netlist.{Netlist}
use Rattle.lp_model.specs.NetlistView.{module_view}
use Rattle.lp_spec_design.specs.Netlists.{Structure, module_at, upward}
use Rattle.lp_spec_design.specs.Graph.{numbered}
use Rattle.lp_spec_design.specs.Nodes as design
use Rattle.lp_spec_design.specs.Nodes.{nodes_of}
use Rattle.lp_spec_bridge.specs.Tables.{tables_of}
use Rattle.lp_spec_layout.specs.Parts.{Template}
use Rattle.lp_spec_layout.specs.Sites.{Site, Layout, IsSited}
use Rattle.lp_spec_layout.specs.Walked.{sites_of}
use Rattle.lp_spec_layout.specs.Leaves.{leaf_sites_of}
use Rattle.lp_spec_layout.specs.Feeds as layout
use Rattle.lp_spec_layout.specs.OnePass.{note_all, without_sources}
use Rattle.lp_spec_layout.specs.Laid.{IsLaidOut}
use Rattle.lp_spec_layout.proofs.OnePass.{one-pass}
use Rattle.lp_spec_layout.proofs.Walked.{walk_sites}
use Rattle.lp_targets.specs.Structures.{structure_of}
use Rattle.lp_layout.specs.Fed.{drives_of, feeds}
use Rattle.lp_layout.specs.Held.{word, held_feed, held_leaf}
use Rattle.lp_layout.specs.Labels.{labels_of, bit_names, port_names}
use Rattle.lp_layout.specs.Nodes.{named_at, module_nodes, site_nodes, inner_nodes, outer_nodes}
use Rattle.lp_layout.specs.Wires.{fed}
use Rattle.lp_layout.specs.Graph.{layout_at, bare, wires_at, own_name, insts_at, laid}
use Rattle.lp_layout.proofs.Noted.{sources_of, names_of, fed_edges, fed_names, fed_sources}
use Rattle.lp_spec_laid.specs.Shaped.{with_shapes, has_few_pgs}
use Rattle.lp_spec_laid.specs.Laws.{IsReady, AreExact, layout_in}
use Rattle.lp_spec_laid.proofs.Named.{labels, port_inputs_are}
use Rattle.lp_spec_laid.proofs.Nodes.{inner_named, outer_named, outer_mapped, outer-of, names_taken, names_left, names_apart, names_behind}
use Rattle.lp_spec_laid.proofs.Rows.{insts_are, leaves_are, shapes_are, shapes_held}
use Rattle.lp_spec_laid.proofs.Counted.{inner_length, outer_length}
use Rattle.lp_spec_laid.proofs.Fed.{all_fed}

get-map : {A B : Type 0} (f : A → B) (xs : List A) (k : ℕ) (x : A) → slice_get xs k ≡ Some x → slice_get (map f xs) k ≡ Some (f x)
get-map f [] k x e = cc
get-map f (y ∷ ys) zero x e = let same : y ≡ x = cc in ap (λ z. Some (f z)) same
get-map f (y ∷ ys) (suc k) x e = get-map f ys k x e

-- ---- nodes without a source

abbrev none-of : List NodeRow → List SourceRow
none-of xs = map (λ (x : NodeRow). Nothing) xs

none-named : (i : InstId) (ns : List NodeName) → sources_of (map (named_at i) ns) ≡ none-of (map (named_at i) ns)
none-named i [] = refl
none-named i (n ∷ ns) = ap (λ z. Nothing ∷ z) (none-named i ns)

none-placed : (i : ℕ) (o : Option Module) → sources_of (module_nodes i o) ≡ none-of (module_nodes i o)
none-placed i None = refl
none-placed i (Some m) = none-named (record { 0 = word i }) (bit_names m)

none-inner : (ms : List Module) (k : ℕ) (xs : List Site) → sources_of (flat_map (site_nodes ms) (numbered k xs)) ≡ none-of (flat_map (site_nodes ms) (numbered k xs))
none-inner ms k [] = refl
none-inner ms k (x ∷ xs) =
    let first = module_nodes k (slice_get ms x.of) in
    let rest = flat_map (site_nodes ms) (numbered (k + 1) xs) in
    map-append (λ (x : NodeRow). x.source) first rest ∙ (λ i. none-placed k (slice_get ms x.of) i ++ none-inner ms (k + 1) xs i) ∙ sym (map-append (λ (x : NodeRow). Nothing) first rest)

none-outer : (o : Option Module) → sources_of (outer_nodes o) ≡ none-of (outer_nodes o)
none-outer None = refl
none-outer (Some m) = none-named (record { 0 = 0 }) (port_names m.ports)

none-count : (xs : List NodeRow) (k : ℕ) → none-of xs ≡ map (λ i. Nothing) (upward (length xs) k)
none-count [] k = refl
none-count (x ∷ xs) k = ap (λ z. Nothing ∷ z) (none-count xs (k + 1))

bare-sources : (ms : List Module) (sites : List Site) (o : Option Module) (n : ℕ) → length (inner_nodes ms sites ++ outer_nodes o) ≡ n → sources_of (inner_nodes ms sites ++ outer_nodes o) ≡ without_sources n
bare-sources ms sites o n e =
    let inner = inner_nodes ms sites in
    let outer = outer_nodes o in
    map-append (λ (x : NodeRow). x.source) inner outer
    ∙ (λ i. none-inner ms 0 sites i ++ none-outer o i)
    ∙ sym (map-append (λ (x : NodeRow). Nothing) inner outer)
    ∙ none-count (inner ++ outer) 0
    ∙ ap without_sources e

word-same : (k : ℕ) → k < 4294967296 → word k ≡ k
word-same k low = omega (arith, low)

-- ---- all of it

module _ (texts : List (List ℕ)) (n : Netlist) (l : Library) (templates : List Template) (top : ℕ) (r : IsReady texts n l templates top) (e : AreExact texts n l templates top r) where
  abbrev s : Structure
  s = structure_of texts n l

  abbrev sites : List Site
  sites = sites_of templates top

  abbrev inner : List NodeRow
  inner = inner_nodes n.modules sites

  abbrev outer : List NodeRow
  outer = outer_nodes (Some r.source)

  sited : IsSited s (layout_in texts n l templates top r)
  sited = walk_sites s r.apart templates r.resolved r.sized top (module_view texts r.source) r.is_top (get-map (module_view texts) n.modules top r.source r.has_source) r.low

  inner-count : length inner ≡ length (design.inner_nodes s)
  inner-count = inner_length texts n.modules s (layout_in texts n l templates top r) refl sited

  inner-is : length inner ≡ (r.sized.size top).bits
  inner-is = inner-count ∙ sym sited.inner

  all-count : length (inner ++ outer) ≡ length (nodes_of s)
  all-count =
      let a = length-append inner outer in
      let b = length-append (design.inner_nodes s) (design.outer_in (module_at s [])) in
      let c = outer_length texts r.source ∙ ap (λ o. length (design.outer_in o)) (sym r.is_top) in
      omega (arith, a, b, c, inner-count)

  inner-small : length inner < 4294967296
  inner-small = omega (arith, inner-is, e.nodes)

  inner-held : word (length inner) ≡ (r.sized.size top).bits
  inner-held = word-same (length inner) inner-small ∙ inner-is

  abbrev there : Layout
  there = layout_at n.modules templates sites (Some r.source)

  abbrev here : Layout
  here = layout_in texts n l templates top r

  layouts : there ≡ here
  layouts = λ i. record { templates = templates; sites = sites; inner = inner-held i; ports = port_inputs_are texts r.source.ports i }

  fed-same : map held_feed (feeds (map drives_of l.cells) there) ≡ layout.feeds s.cells here
  fed-same = ap (map held_feed) (all_fed texts l.cells there ∙ ap (layout.feeds s.cells) layouts) ∙ e.feeds

  nodes-are : (wires_at n.modules l.cells templates sites (slice_get n.modules top)).nodes ≡ (fed (bare n.modules sites (Some r.source)) (layout.feeds s.cells here)).nodes
  nodes-are = ap (λ o. (wires_at n.modules l.cells templates sites o).nodes) r.has_source ∙ ap (λ z. (fed (bare n.modules sites (Some r.source)) z).nodes) fed-same

  names-are : names_of (wires_at n.modules l.cells templates sites (slice_get n.modules top)).nodes ≡ names_of (inner ++ outer)
  names-are = ap names_of nodes-are ∙ fed_names (bare n.modules sites (Some r.source)) (layout.feeds s.cells here)

  edges-are : (wires_at n.modules l.cells templates sites (slice_get n.modules top)).edges ≡ layout.edge_rows s.cells here
  edges-are =
      ap (λ o. (wires_at n.modules l.cells templates sites o).edges) r.has_source
      ∙ ap (λ z. (fed (bare n.modules sites (Some r.source)) z).edges) fed-same
      ∙ fed_edges (bare n.modules sites (Some r.source)) (layout.feeds s.cells here)

  sources-are : sources_of (wires_at n.modules l.cells templates sites (slice_get n.modules top)).nodes ≡ note_all (without_sources (length (nodes_of s))) (layout.drive_rows s.cells here)
  sources-are =
      ap sources_of nodes-are
      ∙ fed_sources (bare n.modules sites (Some r.source)) (layout.feeds s.cells here) (omega (arith, e.edges))
      ∙ ap (λ z. note_all z (layout.drive_rows s.cells here)) (bare-sources n.modules sites (Some r.source) (length (nodes_of s)) all-count)

  count-is : length (wires_at n.modules l.cells templates sites (slice_get n.modules top)).nodes ≡ length (nodes_of s)
  count-is =
      sym (length-map (wires_at n.modules l.cells templates sites (slice_get n.modules top)).nodes (λ (x : NodeRow). (x.inst.0, x.name)))
      ∙ ap length names-are ∙ length-map (inner ++ outer) (λ (x : NodeRow). (x.inst.0, x.name)) ∙ all-count

  abbrev nodes : List NodeRow
  nodes = (wires_at n.modules l.cells templates sites (slice_get n.modules top)).nodes

  place : word (length inner) ≡ length inner
  place = word-same (length inner) inner-small

  pub laid_out : IsLaidOut texts s (with_shapes l.cells (tables_of (laid n l templates top)))
  laid_out = record {
    top = module_view texts r.source;
    of = top;
    own = r.source.name.0;
    templates = templates;
    labels = labels_of n.modules;
    sized = r.sized;
    is_top = r.is_top;
    has_top = get-map (module_view texts) n.modules top r.source r.has_source;
    low = r.low;
    resolved = r.resolved;
    labelled = labels texts n.modules;
    instances = ap (λ o. insts_at n.modules sites (own_name o)) r.has_source ∙ insts_are n.modules sites r.source.name.0 sites ∙ e.insts;
    leaves = ap (map held_leaf) (leaves_are n.modules 0 (leaf_sites_of templates top)) ∙ e.leaves;
    pins = e.pins;
    edges = edges-are;
    inner = inner-held;
    names = names_taken (word (length inner)) nodes ∙ (λ i. take (place i) (names-are i)) ∙ names_apart inner outer ∙ inner_named n.modules sites e.sites;
    outer = outer_mapped texts (drop (word (length inner)) nodes)
        ∙ ap (map (outer-of texts)) (names_left (word (length inner)) nodes ∙ (λ i. drop (place i) (names-are i)) ∙ names_behind inner outer)
        ∙ outer_named texts r.source;
    count = count-is;
    sources = sources-are ∙ one-pass 0 (layout.feeds s.cells here) (length (nodes_of s));
    shapes = shapes_are texts l.cells;
  }

pub held_tables : (n : Netlist) (l : Library) (templates : List Template) (top : ℕ) → list_all has_few_pgs l.cells ≡ true → with_shapes l.cells (tables_of (laid n l templates top)) ≡ tables_of (laid n l templates top)
held_tables n l templates top few =
    let t = tables_of (laid n l templates top) in
    λ i. record { instances = t.instances; leaves = t.leaves; pins = t.pins; nodes = t.nodes; edges = t.edges; shapes = shapes_held l.cells few i; inner = t.inner }
