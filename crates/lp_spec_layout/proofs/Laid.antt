-- Tables that are made from what is resolved and named once for each module are the elaborated netlist.
use Rattle.std.proofs.Common.{◌≡◌, ◌<◌, ◌≤◌, ◌+◌, ℕ, zero, suc, true, ◌&&◌, List, [], ◌∷◌, ◌++◌, map, length, get_or, Option, Some, None, refl, sym, ap, ◌∙◌, subst, arith}
use Rattle.std.specs.Prelude.{flat_map, nat_lt, slice_get, slice_index_or}
use Rattle.std.specs.List.{list_all}
use Rattle.std.proofs.lemmas.Bool.{lt-ltb}
use Rattle.std.proofs.lemmas.List.{length-append, length-map, append-nil, append_assoc, get_or_append_left}
use Rattle.std.proofs.lemmas.Option.{slice_get-get_or, get_or_from_slice_get}
use Rattle.lp_text.specs.Texts.{text_at}
use Rattle.lp_model.specs.declared.graph.Edge.{Edge as EdgeRow}
use Rattle.lp_model.specs.declared.graph.Inst.{Inst}
use Rattle.lp_model.specs.declared.graph.Leaf.{Leaf}
use Rattle.lp_model.specs.NetlistView.{InstanceView, ModuleView}
use Rattle.lp_spec_design.specs.Keys.{Path}
use Rattle.lp_model.specs.LibraryView.{CellView}
use Rattle.lp_spec_design.specs.Netlists.{Structure, module_at, cell_at}
use Rattle.lp_spec_design.specs.Instances.{Placed, module_instances, cell_instances}
use Rattle.lp_spec_design.specs.Graph.{numbered}
use Rattle.lp_spec_design.specs.Nodes.{nodes_in, outer_in, nodes_of}
use Rattle.lp_spec_design.specs.Reads.{both}
use Rattle.lp_spec_bridge.specs.Tables.{Tables, has_node, has_pin, is_behind, IsClosed}
use Rattle.lp_spec_bridge.specs.Edges.{Edge, edges_of, drives_of}
use Rattle.lp_spec_bridge.specs.Keyed.{keys_of}
use Rattle.lp_spec_bridge.specs.Driven.{JoinsSingleBits}
use Rattle.lp_spec_bridge.specs.Names.{HasNamesApart}
use Rattle.lp_spec_bridge.specs.Elaborates.{Ends, row_ends, edge_ends, path_in, paths_from, paths_of, starts_from, Elaborates}
use Rattle.lp_spec_bridge.specs.Templates.{start_of}
use Rattle.lp_spec_bridge.specs.Kept.{AllStand, IsKept}
use Rattle.lp_spec_bridge.specs.Named.{NamedAt, name_bit, bits_of, names_at, IsNamed}
use Rattle.lp_spec_bridge.proofs.Trails.{map-map}
use Rattle.lp_spec_bridge.proofs.Kept.{cells_kept}
use Rattle.lp_spec_bridge.proofs.Named.{elaborates_kept}
use Rattle.lp_spec_layout.specs.Sites.{Spot, Site, Layout, StandsInside, IsBehind, StandsAt, port_bits, IsSited}
use Rattle.lp_spec_layout.specs.Feeds.{feeds, drive_rows, edge_rows}
use Rattle.lp_spec_layout.specs.Walked.{sites_of, layout_of}
use Rattle.lp_spec_layout.specs.Leaves.{LeafSite, leaf_sites_of, leaf_rows}
use Rattle.lp_spec_layout.specs.Laws.{HasCells}
use Rattle.lp_spec_layout.specs.Laid.{Label, IsLabel, AreLabels, no_label, name_of, parent_of, name_in, instance_name, inst_row, names_at_site, names_in, IsLaidOut}
use Rattle.lp_spec_layout.proofs.Lists.{Has, has-all, has-head, has-tail, get-right}
use Rattle.lp_spec_layout.proofs.Fed.{are_drives, are_edges, feeds-mean}
use Rattle.lp_spec_layout.proofs.Leaves.{LeavesStand}
use Rattle.lp_spec_layout.proofs.Walked.{walk_sites, walk_leaf_sites, leaf_rows_are}
use Rattle.lp_spec_layout.proofs.Closed.{edges-closed, rows-closed, sources-closed, led-closed, pins-closed, leaves-closed}

-- ---- names

module _ (texts : List (List ℕ)) where
  label-at : (ms : List ModuleView) (xs : List Label) (n : ℕ) (m : ModuleView) → AreLabels texts ms xs → slice_get ms n ≡ Some m → IsLabel texts m (slice_index_or xs n no_label)
  label-at [] xs n m r h = absurd cc
  label-at (y ∷ ms) [] n m r h = absurd r
  label-at (y ∷ ms) (x ∷ xs) zero m r h = let is : y ≡ m = cc in subst (λ (w : ModuleView). IsLabel texts w x) is r.0
  label-at (y ∷ ms) (x ∷ xs) (suc n) m r h = label-at ms xs n m r.1 h

  name-at : (ns : List ℕ) (ys : List InstanceView) (k : ℕ) (y : InstanceView) → map (text_at texts) ns ≡ map (λ (y : InstanceView). y.name) ys → slice_get ys k ≡ Some y → text_at texts (slice_index_or ns k 0) ≡ y.name
  name-at [] [] k y same h = absurd cc
  name-at [] (x ∷ ys) k y same h = absurd cc
  name-at (n ∷ ns) [] k y same h = absurd cc
  name-at (n ∷ ns) (x ∷ ys) zero y same h =
      let here : text_at texts n ≡ x.name = cc in
      let is : x ≡ y = cc in
      here ∙ ap (λ (w : InstanceView). w.name) is
  name-at (n ∷ ns) (x ∷ ys) (suc k) y same h = let later : map (text_at texts) ns ≡ map (λ (y : InstanceView). y.name) ys = cc in name-at ns ys k y later h

  -- a statement's instance by its module and its place
  statement-name : (s : Structure) (labels : List Label) (n place : ℕ) (m : ModuleView) (y : InstanceView) → AreLabels texts s.modules labels → slice_get s.modules n ≡ Some m → slice_get m.instances place ≡ Some y → text_at texts (name_of labels n place) ≡ y.name
  statement-name s labels n place m y r h g = name-at (slice_index_or labels n no_label).statements m.instances place y (label-at s.modules labels n m r h).statements g

  leaf-names : (s : Structure) (labels : List Label) → AreLabels texts s.modules labels → (start : ℕ) (ys : List LeafSite) (keyed : List Placed) → LeavesStand s ys keyed
      → map (λ (l : Leaf). text_at texts l.name.0) (leaf_rows (name_of labels) start ys) ≡ map (λ (a : Placed). a.instance) keyed
  leaf-names s labels r start [] [] h = refl
  leaf-names s labels r start [] (a ∷ keyed) h = absurd h
  leaf-names s labels r start (y ∷ ys) [] h = absurd h
  leaf-names s labels r start (y ∷ ys) (a ∷ keyed) h =
      let here = statement-name s labels y.of y.place h.0.of h.0.by r h.0.has_of h.0.place ∙ sym h.0.is in
      ap (λ n. n ∷ map (λ (l : Leaf). text_at texts l.name.0) (leaf_rows (name_of labels) (start + length y.cell.row) ys)) here
      ∙ ap (λ ns. a.instance ∷ ns) (leaf-names s labels r (start + length y.cell.row) ys keyed h.1)

-- ---- lists

map-append-one : {A : Type 0} (xs : List A) (x : A) (ys : List A) → (xs ++ (x ∷ [])) ++ ys ≡ xs ++ (x ∷ ys)
map-append-one xs x ys = append_assoc xs (x ∷ []) ys

starts-length : (s : Structure) (start : ℕ) (ps : List Path) → length (starts_from s start ps) ≡ length ps
starts-length s start [] = refl
starts-length s start (p ∷ ps) = ap suc (starts-length s (start + length (nodes_in p (module_at s p))) ps)

module _ (texts : List (List ℕ)) (s : Structure) (t : Tables) (names : HasNamesApart s) (single : JoinsSingleBits s) (d : IsLaidOut texts s t) where
  abbrev sites : List Site
  sites = sites_of d.templates d.of

  abbrev layout : Layout
  layout = layout_of d.templates d.of (d.sized.size d.of).bits (port_bits d.top)

  sited : IsSited s layout
  sited = walk_sites s names d.templates d.resolved d.sized d.of d.top d.is_top d.has_top d.low

  leaves-stand : LeavesStand s (leaf_sites_of d.templates d.of) (cell_instances s)
  leaves-stand = walk_leaf_sites s names d.templates d.resolved d.sized d.of d.top d.is_top d.has_top d.low

  rows-stand : AllStand s t t.leaves (cell_instances s)
  rows-stand = leaf_rows_are s names d.templates d.resolved d.sized d.of d.top d.is_top d.has_top t (name_of d.labels) d.low d.leaves d.pins

  cells : HasCells s t
  cells = cells_kept s t t.leaves (cell_instances s) rows-stand

  -- ---- instances, one by one

  -- the site of a number
  site-is : (k : ℕ) (p : Path) (x : Site) (h : slice_get (module_instances s) k ≡ Some p) → slice_get sites k ≡ Some x → x ≡ (sited.each k p h).site
  site-is k p x h g = let same : Some x ≡ Some (sited.each k p h).site = sym g ∙ (sited.each k p h).at in cc

  -- a value for each site and one for each instance
  each-same : {A : Type 0} (f : Site → A) (g : Path → A) → ((k : ℕ) (p : Path) (w : StandsAt s layout k p) → slice_get (module_instances s) k ≡ Some p → f w.site ≡ g p) → (k : ℕ) (xs : List Site) (ps : List Path) → length xs ≡ length ps → Has sites k xs → Has (module_instances s) k ps → map f xs ≡ map g ps
  each-same f g each k [] [] size xh ph = refl
  each-same f g each k [] (p ∷ ps) size xh ph = absurd (omega (arith, size))
  each-same f g each k (x ∷ xs) [] size xh ph = absurd (omega (arith, size))
  each-same f g each k (x ∷ xs) (p ∷ ps) size xh ph =
      let at = has-head (module_instances s) k p ps ph in
      let is = site-is k p x at (has-head sites k x xs xh) in
      ap (λ y. y ∷ map f xs) (ap f is ∙ each k p (sited.each k p at) at)
      ∙ ap (λ r. g p ∷ r) (each-same f g each (k + 1) xs ps (omega (arith, size)) (has-tail sites k x xs xh) (has-tail (module_instances s) k p ps ph))

  modules-are : map (λ (x : Inst). slice_get s.modules x.«module») t.instances ≡ map (module_at s) (module_instances s)
  modules-are =
      ap (map (λ (x : Inst). slice_get s.modules x.«module»)) d.instances
      ∙ map-map (λ (x : Inst). slice_get s.modules x.«module») (inst_row d.labels sites d.own) sites
      ∙ each-same (λ (x : Site). slice_get s.modules x.of) (module_at s) (λ k p w at. w.has_of ∙ sym w.is_of) 0 sites (module_instances s) sited.count (has-all sites) (has-all (module_instances s))

  -- the starts
  starts-same : (k : ℕ) (xs : List Site) (vs : List ℕ) → length xs ≡ length vs → Has sites k xs → ((j : ℕ) → j < length vs → get_or vs j 0 ≡ start_of s (k + j)) → k + length xs ≤ length (module_instances s) → map (λ (x : Site). x.start) xs ≡ vs
  starts-same k [] [] size xh vh low = refl
  starts-same k [] (v ∷ vs) size xh vh low = absurd (omega (arith, size))
  starts-same k (x ∷ xs) [] size xh vh low = absurd (omega (arith, size))
  starts-same k (x ∷ xs) (v ∷ vs) size xh vh low =
      let under : k < length (module_instances s) = omega (arith, low) in
      let p = get_or (module_instances s) k [] in
      let at : slice_get (module_instances s) k ≡ Some (get_or (module_instances s) k []) = slice_get-get_or (module_instances s) k [] under in
      let w = sited.each k (get_or (module_instances s) k []) at in
      let is = site-is k p x at (has-head sites k x xs xh) in
      let place : k + 0 ≡ k = omega arith in
      let first : v ≡ start_of s k = vh 0 (omega arith) ∙ ap (start_of s) place in
      ap (λ n. n ∷ map (λ (x : Site). x.start) xs) (ap (λ (y : Site). y.start) is ∙ w.start ∙ sym first)
      ∙ ap (λ r. v ∷ r) (starts-same (k + 1) xs vs (omega (arith, size)) (has-tail sites k x xs xh) (λ j h. let next : k + suc j ≡ (k + 1) + j = omega arith in vh (suc j) (omega (arith, h)) ∙ ap (start_of s) next) (omega (arith, low)))

  starts-are : map (λ (x : Inst). x.start) t.instances ≡ starts_from s 0 (module_instances s)
  starts-are =
      let many = sited.count in
      let size = starts-length s 0 (module_instances s) in
      ap (map (λ (x : Inst). x.start)) d.instances
      ∙ map-map (λ (x : Inst). x.start) (inst_row d.labels sites d.own) sites
      ∙ starts-same 0 sites (starts_from s 0 (module_instances s)) (omega (arith, many, size)) (has-all sites) (λ j h. let place : j ≡ 0 + j = omega arith in ap (start_of s) place) (omega (arith, many))

  -- ---- paths

  -- the path of an instance from those before it
  path-is : (done : List Path) (k : ℕ) (p : Path) (w : StandsAt s layout k p) → k ≡ length done → ((j : ℕ) (q : Path) → j < length done → slice_get (module_instances s) j ≡ Some q → slice_index_or done j [] ≡ q) → (o : Option Spot) → StandsInside s p o → IsBehind k o
      → path_in texts done (instance_name d.labels sites d.own o) (parent_of o) ≡ p
  path-is done k p w size before None e behind = sym e
  path-is done k p w size before (Some at) r behind =
      let v = sited.each at.0 r.path r.inst in
      let found : Some v.of ≡ Some r.of = sym v.is_of ∙ r.is_of in
      let same : v.of ≡ r.of = cc in
      let place : slice_get v.of.instances at.1 ≡ Some r.by = ap (λ (m : ModuleView). slice_get m.instances at.1) same ∙ r.place in
      let name : text_at texts (name_in d.labels d.own at.1 (slice_get sites at.0)) ≡ r.by.name =
      ap (λ o. text_at texts (name_in d.labels d.own at.1 o)) v.at ∙ statement-name texts s d.labels v.site.of at.1 v.of r.by d.labelled v.has_of place in
      let path : slice_index_or done at.0 [] ≡ r.path = before at.0 r.path (omega (arith, behind, size)) r.inst in
      ap (λ n. n ∷ slice_index_or done at.0 []) name ∙ ap (λ q. r.by.name ∷ q) path ∙ sym r.is

  paths-are : (done : List Path) (xs : List Site) (ps : List Path) → module_instances s ≡ done ++ ps → length xs ≡ length ps → Has sites (length done) xs → paths_from texts done (map (inst_row d.labels sites d.own) xs) ≡ module_instances s
  paths-are done [] [] all size xh = sym (all ∙ append-nil done)
  paths-are done [] (p ∷ ps) all size xh = absurd (omega (arith, size))
  paths-are done (x ∷ xs) [] all size xh = absurd (omega (arith, size))
  paths-are done (x ∷ xs) (p ∷ ps) all size xh =
      let k = length done in
      let place : length done ≡ length done + 0 = omega arith in
      let at : slice_get (module_instances s) (length done) ≡ Some p = ap (λ (qs : List Path). slice_get qs (length done)) all ∙ ap (slice_get (done ++ (p ∷ ps))) place ∙ get-right done (p ∷ ps) 0 in
      let w = sited.each (length done) p at in
      let is = site-is (length done) p x at (has-head sites (length done) x xs xh) in
      let before : (j : ℕ) (q : Path) → j < length done → slice_get (module_instances s) j ≡ Some q → slice_index_or done j [] ≡ q =
      λ j q low h. sym (get_or_append_left done (p ∷ ps) [] j low) ∙ ap (λ (qs : List Path). get_or qs j []) (sym all) ∙ get_or_from_slice_get (module_instances s) j q [] h in
      let path : path_in texts done (instance_name d.labels sites d.own x.by) (parent_of x.by) ≡ p =
      ap (λ (y : Site). path_in texts done (instance_name d.labels sites d.own y.by) (parent_of y.by)) is ∙ path-is done (length done) p w refl before w.site.by w.inside w.behind in
      let more : length (done ++ (p ∷ [])) ≡ length done + 1 = length-append done (p ∷ []) in
      ap (λ (q : Path). paths_from texts (done ++ (q ∷ [])) (map (inst_row d.labels sites d.own) xs)) path
      ∙ paths-are (done ++ (p ∷ [])) xs ps (all ∙ sym (map-append-one done p ps)) (omega (arith, size)) (subst (λ n. Has sites n xs) (sym more) (has-tail sites (length done) x xs xh))

  instances-are : paths_of texts t ≡ module_instances s
  instances-are = ap (paths_from texts []) d.instances ∙ paths-are [] sites (module_instances s) refl sited.count (has-all sites)

  -- ---- names of bits

  names-each : (k : ℕ) (p : Path) → slice_get (module_instances s) k ≡ Some p → map (name_bit texts) (names_in d.labels sites k) ≡ bits_of (module_at s p)
  names-each k p at =
      let w = sited.each k p at in
      let label = label-at texts s.modules d.labels w.site.of w.of d.labelled w.has_of in
      ap (λ o. map (name_bit texts) (names_at_site d.labels o)) w.at ∙ label.bits ∙ ap bits_of (sym w.is_of)

  -- from one instance on
  name-rows-are : (k : ℕ) (xs : List Site) (ps : List Path) → length xs ≡ length ps → Has sites k xs
      → flat_map (λ (z : ℕ × Site). map (λ n. (z.0, n)) (names_at_site d.labels (Some z.1))) (numbered k xs) ≡ flat_map (names_at (names_in d.labels sites)) (numbered k ps)
  name-rows-are k [] [] size xh = refl
  name-rows-are k [] (p ∷ ps) size xh = absurd (omega (arith, size))
  name-rows-are k (x ∷ xs) [] size xh = absurd (omega (arith, size))
  name-rows-are k (x ∷ xs) (p ∷ ps) size xh =
      ap {B = List NamedAt} (λ o. map (λ n. (k, n)) (names_at_site d.labels o) ++ flat_map (λ (z : ℕ × Site). map (λ n. (z.0, n)) (names_at_site d.labels (Some z.1))) (numbered (k + 1) xs)) (sym (has-head sites k x xs xh))
      ∙ ap {B = List NamedAt} (λ r. names_at (names_in d.labels sites) (k, p) ++ r) (name-rows-are (k + 1) xs ps (omega (arith, size)) (has-tail sites k x xs xh))

  named : IsNamed texts s t
  named = record {
    names = names_in d.labels sites;
    each = names-each;
    bits = d.names ∙ name-rows-are 0 sites (module_instances s) sited.count (has-all sites);
    leaves = ap (map (λ (l : Leaf). text_at texts l.name.0)) d.leaves ∙ leaf-names texts s d.labels d.labelled 0 (leaf_sites_of d.templates d.of) (cell_instances s) leaves-stand;
    instances = instances-are;
    modules = modules-are;
    starts = starts-are;
    inner = d.inner ∙ sited.inner;
    outer_bits = d.outer ∙ ap outer_in (sym d.is_top);
    edges = ap (map (row_ends (keys_of s))) d.edges ∙ are_edges s t names single cells layout sited;
    shapes = d.shapes;
  }

  -- ---- numbers in range

  behind-all : (k : ℕ) (xs : List Site) (ps : List Path) → length xs ≡ length ps → Has sites k xs → Has (module_instances s) k ps
      → list_all (λ (x : ℕ × Inst). is_behind x.0 x.1.parent) (numbered k (map (inst_row d.labels sites d.own) xs)) ≡ true
  behind-all k [] ps size xh ph = refl
  behind-all k (x ∷ xs) [] size xh ph = absurd (omega (arith, size))
  behind-all k (x ∷ xs) (p ∷ ps) size xh ph =
      let at = has-head (module_instances s) k p ps ph in
      let w = sited.each k p at in
      let is = site-is k p x at (has-head sites k x xs xh) in
      both (is_behind k (parent_of x.by)) (list_all (λ (x : ℕ × Inst). is_behind x.0 x.1.parent) (numbered (k + 1) (map (inst_row d.labels sites d.own) xs)))
      (ap (λ (y : Site). is_behind k (parent_of y.by)) is ∙ by w.site.by w.behind)
      (behind-all (k + 1) xs ps (omega (arith, size)) (has-tail sites k x xs xh) (has-tail (module_instances s) k p ps ph))
    where
      by : (o : Option Spot) → IsBehind k o → is_behind k (parent_of o) ≡ true
      by None h = refl
      by (Some at) h = lt-ltb at.0 k h

  closed : IsClosed t
  closed =
      let mean = feeds-mean s t names single cells layout sited in
      let leaves : length t.leaves ≡ length (cell_instances s) =
      sym (length-map t.leaves (λ (l : Leaf). slice_get s.cells l.cell.0)) ∙ ap (λ (xs : List (Option CellView)). length xs) cells ∙ length-map (cell_instances s) (λ (a : Placed). cell_at s a.path a.instance) in
      let many : length t.instances ≡ length (module_instances s) = ap (λ (xs : List Inst). length xs) d.instances ∙ length-map sites (inst_row d.labels sites d.own) ∙ sited.count in
      let made : Has t.edges 0 (edge_rows s.cells layout) = subst (λ es. Has es 0 (edge_rows s.cells layout)) (sym d.edges) (has-all (edge_rows s.cells layout)) in
      let rows = rows-closed s (keys_of s) t d.count leaves (feeds s.cells layout) (drives_of s) 0 mean made in
      record {
        sources = sources-closed s (keys_of s) t d.count leaves (drive_rows s.cells layout) (length (nodes_of s)) d.sources rows;
        led = led-closed s (keys_of s) t d.count leaves (drive_rows s.cells layout) (length (nodes_of s)) d.sources rows;
        edges = subst (λ es. list_all (λ (x : EdgeRow). has_node t x.from && nat_lt x.to.0 (length t.nodes)) es ≡ true) (sym d.edges) (edges-closed s (keys_of s) t d.count leaves (feeds s.cells layout) (drives_of s) mean);
        pins = subst (λ ps. list_all (has_pin t) ps ≡ true) (sym d.pins) (pins-closed s t d.count (leaf_sites_of d.templates d.of) (cell_instances s) leaves-stand);
        leaves = subst (λ ls. list_all (λ (x : Leaf). nat_lt x.inst.0 (length t.instances)) ls ≡ true) (sym d.leaves) (leaves-closed s t d.count (name_of d.labels) (leaf_sites_of d.templates d.of) (cell_instances s) 0 many leaves-stand);
        instances = subst (λ is. list_all (λ (x : ℕ × Inst). is_behind x.0 x.1.parent) (numbered 0 is) ≡ true) (sym d.instances) (behind-all 0 sites (module_instances s) sited.count (has-all sites) (has-all (module_instances s)));
      }

  kept : IsKept s t
  kept = record {
    rows = drive_rows s.cells layout;
    drives = are_drives s t names single cells layout sited d.edges;
    sources = d.sources;
    leaves = rows-stand;
    count = d.count;
    ways =
        ap (λ (xs : List EdgeRow). length xs) d.edges
        ∙ sym (length-map (edge_rows s.cells layout) (row_ends (keys_of s)))
        ∙ ap (λ (xs : List Ends). length xs) (are_edges s t names single cells layout sited)
        ∙ length-map (edges_of s) edge_ends
        ∙ sym (length-map (edges_of s) (λ (e : Edge). e.way));
    closed = closed;
  }

  pub laid_elaborates : Elaborates texts s t
  laid_elaborates = elaborates_kept texts s t names single kept named
