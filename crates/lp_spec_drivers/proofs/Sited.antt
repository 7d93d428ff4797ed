-- The sources of a node are as many as the drivers of its place, and the first node with two is found instance by instance.
use Rattle.std.proofs.Common.{◌≡◌, ◌<◌, ◌+◌, ℕ, suc, Bool, true, false, ◌==◌, List, [], ◌∷◌, ◌++◌, map, length, Option, Some, None, refl, sym, ap, ◌∙◌, subst, arith}
use Rattle.std.specs.Prelude.{filter, flat_map, nat_lt, option_map, if◌then◌else◌, slice_get, slice_index_or}
use Rattle.std.proofs.lemmas.List.{map-append, length-append, length-map}
use Rattle.std.proofs.lemmas.Option.{slice_get_within, get_or_from_slice_get}
use Rattle.lp_model.specs.NetlistView.{InstanceView, ModuleView}
use Rattle.lp_spec_design.specs.Keys.{Path, Fixed, Source}
use Rattle.lp_spec_design.specs.Netlists.{Structure, first, upward, module_at, module_named}
use Rattle.lp_spec_design.specs.Instances.{module_instances}
use Rattle.lp_spec_design.specs.Graph.{sources_of, numbered}
use Rattle.lp_spec_design.specs.Nodes.{nodes_in, inner_nodes, outer_in, nodes_of}
use Rattle.lp_spec_design.specs.Winners.{IsIn}
use Rattle.lp_spec_bridge.specs.Tables.{Tables}
use Rattle.lp_spec_bridge.specs.Keyed.{keys_of, node_at}
use Rattle.lp_spec_bridge.specs.Represents.{source_key}
use Rattle.lp_spec_bridge.specs.Elaborates.{starts_from}
use Rattle.lp_spec_bridge.specs.Driven.{JoinsSingleBits}
use Rattle.lp_spec_bridge.specs.Names.{HasNamesApart}
use Rattle.lp_spec_bridge.specs.Noted.{DriveRow}
use Rattle.lp_spec_bridge.specs.Named.{bits_of}
use Rattle.lp_spec_bridge.specs.Templates.{bits_in, start_of}
use Rattle.lp_spec_bridge.proofs.Apart.{apart-at}
use Rattle.lp_spec_bridge.proofs.Distinct.{instances_apart}
use Rattle.lp_spec_bridge.proofs.Noted.{all_noted}
use Rattle.lp_spec_bridge.proofs.Templates.{starts-at}
use Rattle.lp_spec_layout.specs.Parts.{Statement, OfModule, OfCell, statements_of, IsStatement}
use Rattle.lp_spec_layout.specs.Sites.{Spot, Site, Layout, StandsInside, StandsAt, port_bits, IsSited}
use Rattle.lp_spec_layout.specs.Feeds.{Feed, child_inputs, feeds_at, outer_feed, feeds, source_in, edges_behind, rows_from, drive_rows, edge_rows}
use Rattle.lp_spec_layout.specs.Laws.{HasCells}
use Rattle.lp_spec_layout.proofs.Lists.{get-in, Has, has-all, has-head, has-tail, has-left}
use Rattle.lp_spec_layout.proofs.Measured.{own-bits}
use Rattle.lp_spec_layout.proofs.Fed.{first-instance, path-child, statement-at, are_drives}
use Rattle.lp_spec_faults.specs.Lines.{first_of}
use Rattle.lp_spec_faults.specs.Wires.{two_drivers}
use Rattle.lp_spec_drivers.specs.Counts.{times, first_twice, or_else, found}
use Rattle.lp_spec_drivers.specs.Drivers.{joint_places, inside_places, input_places, outside_places, entered_places, driven_places, width_of, twice_at, first_driven_twice}
use Rattle.lp_spec_drivers.proofs.Numbers.{times-append, moved, all-append, first-same, Part, spread, room, AreWithin, first_in_parts, spread-first}
use Rattle.lp_spec_drivers.proofs.Placed.{fed, site-fed, outer-fed, Below, joints-below, inside-below, top-below}

-- ---- rows

rows-times : (e k : ℕ) (xs : List Feed) → length (filter (λ (x : DriveRow). x.0 == k) (rows_from e xs)) ≡ times k (fed xs)
rows-times e k [] = refl
rows-times e k (x ∷ xs) = by (x.0 == k) (rows-times (edges_behind e x.1) k xs)
  where
    by : (b : Bool) → length (filter (λ (x : DriveRow). x.0 == k) (rows_from (edges_behind e x.1) xs)) ≡ times k (fed xs)
        → length (if b then (x.0, source_in e x.1) ∷ filter (λ (x : DriveRow). x.0 == k) (rows_from (edges_behind e x.1) xs) else filter (λ (x : DriveRow). x.0 == k) (rows_from (edges_behind e x.1) xs)) ≡ (if b then suc (times k (fed xs)) else times k (fed xs))
    by true more = ap suc more
    by false more = more

module _ (s : Structure) (names : HasNamesApart s) (single : JoinsSingleBits s) (t : Tables) (cells : HasCells s t) (l : Layout) (sited : IsSited s l) (made : t.edges ≡ edge_rows s.cells l) where
  pub sources-counted : (k : ℕ) → k < length (nodes_of s) → length (sources_of s (node_at (keys_of s) k)) ≡ times k (fed (feeds s.cells l))
  sources-counted k low =
      let d = are_drives s t names single cells l sited made in
      let same = all_noted s t (drive_rows s.cells l) names single d.same d.within k low in
      sym (length-map (sources_of s (node_at (keys_of s) k)) (λ x. Some x))
      ∙ sym (ap (λ (xs : List (Option Source)). length xs) same)
      ∙ length-map (filter (λ (x : DriveRow). x.0 == k) (drive_rows s.cells l)) (λ (x : DriveRow). source_key s (keys_of s) t x.1)
      ∙ rows-times 0 k (feeds s.cells l)

-- ---- sites

-- a place in a list by its number
by-number : {A : Type 0} (p : A → Bool) (all : List A) (d : A) (k : ℕ) (xs : List A) → Has all k xs → first p xs ≡ option_map (λ i. slice_index_or all i d) (first (λ i. p (slice_index_or all i d)) (upward (length xs) k))
by-number p all d k [] h = refl
by-number {A = A} p all d k (x ∷ xs) h =
    let here : slice_index_or all k d ≡ x = get_or_from_slice_get all k x d (has-head all k x xs h) in
    by (p x) (by-number p all d (k + 1) xs (has-tail all k x xs h)) (sym here)
    ∙ ap (λ b. option_map (λ i. slice_index_or all i d) (if b then Some k else first (λ i. p (slice_index_or all i d)) (upward (length xs) (k + 1)))) (ap p (sym here))
  where
    by : (b : Bool) → first p xs ≡ option_map (λ i. slice_index_or all i d) (first (λ i. p (slice_index_or all i d)) (upward (length xs) (k + 1))) → x ≡ slice_index_or all k d
        → (if b then Some x else first p xs) ≡ option_map (λ i. slice_index_or all i d) (if b then Some k else first (λ i. p (slice_index_or all i d)) (upward (length xs) (k + 1)))
    by true more is = ap (λ (y : A). Some y) is
    by false more is = more

module _ (s : Structure) (names : HasNamesApart s) (l : Layout) (sited : IsSited s l) where
  abbrev pub part_of : Site → Part
  part_of x = (width_of s x.of, driven_places s.cells l x)

  -- the top is the first instance
  first-start : (k : ℕ) → slice_get (module_instances s) k ≡ Some [] → start_of s k ≡ 0
  first-start k at =
      let apart = instances_apart s names in
      let zero-at = first-instance s in
      let low : 0 < length (module_instances s) = slice_get_within (module_instances s) 0 [] zero-at in
      let high : k < length (module_instances s) = slice_get_within (module_instances s) k [] at in
      let same : k ≡ 0 = apart-at (module_instances s) k 0 [] [] apart high low (get_or_from_slice_get (module_instances s) k [] [] at ∙ sym (get_or_from_slice_get (module_instances s) 0 [] [] zero-at)) in
      let start = starts-at s 0 (module_instances s) 0 low in
      ap (start_of s) same ∙ omega (arith, start)

  begins-at-top : (i : ℕ) (p : Path) (w : StandsAt s l i p) → slice_get (module_instances s) i ≡ Some p → (o : Option Spot) → StandsInside s p o → o ≡ None → w.site.start ≡ 0
  begins-at-top i p w at None e h = w.start ∙ first-start i (at ∙ ap (λ (q : Path). Some q) e)
  begins-at-top i p w at (Some spot) r h = absurd cc

  width-is : (n : ℕ) (m : ModuleView) → slice_get s.modules n ≡ Some m → width_of s n ≡ length (bits_in m)
  width-is n m has = ap (λ o. length (bits_of o)) has

  -- what comes from outside is within the bits of the module
  statement-entered : (y : InstanceView) (outer inner : ModuleView) (z : Statement) → IsStatement s outer y z → module_named s y.target ≡ Some inner → Below (length (bits_in inner)) (joint_places (child_inputs (Some z)))
  statement-entered y outer inner (OfCell c) r named = refl
  statement-entered y outer inner (OfModule c) r named =
      let found : Some r.inner ≡ Some inner = sym r.is_inner ∙ named in
      let same : r.inner ≡ inner = cc in
      subst (λ (w : ModuleView). Below (length (bits_in w)) (joint_places c.inputs)) same (joints-below r.inner outer c.inputs r.inputs.within)

  entered-below : (i : ℕ) (p : Path) (w : StandsAt s l i p) → (o : Option Spot) → StandsInside s p o → Below (length (bits_in w.of)) (entered_places l o)
  entered-below i p w None e =
      let is : module_at s [] ≡ Some w.of = ap (module_at s) (sym e) ∙ w.is_of in
      let both : Some sited.top ≡ Some w.of = sym sited.is_top ∙ is in
      let same : sited.top ≡ w.of = cc in
      let ports : l.ports ≡ port_bits w.of = sited.ports ∙ ap port_bits same in
      subst (λ (ps : List Bool). Below (length (bits_in w.of)) (input_places ps)) {x = port_bits w.of} (sym ports) (top-below w.of)
  entered-below i p w (Some spot) r =
      let v = sited.each spot.0 r.path r.inst in
      let both : Some v.of ≡ Some r.of = sym v.is_of ∙ r.is_of in
      let same : v.of ≡ r.of = cc in
      let place : slice_get v.of.instances spot.1 ≡ Some r.by = ap (λ (m : ModuleView). slice_get m.instances spot.1) same ∙ r.place in
      let member : IsIn r.by v.of.instances = get-in v.of.instances spot.1 r.by place in
      let named : module_named s r.by.target ≡ Some w.of = sym (path-child s names r.path v.of r.by v.is_of member) ∙ ap (module_at s) (sym r.is) ∙ w.is_of in
      let st = statement-at s v.of v.of.instances v.template.statements spot.1 r.by v.resolved.statements place in
      let are : outside_places l.templates spot.1 (slice_get l.sites spot.0) ≡ joint_places (child_inputs (Some st.statement)) =
      ap (outside_places l.templates spot.1) v.at
      ∙ ap (λ o. joint_places (child_inputs (slice_get (statements_of o) spot.1))) v.has_template
      ∙ ap (λ o. joint_places (child_inputs o)) st.at in
      subst (Below (length (bits_in w.of))) {x = joint_places (child_inputs (Some st.statement))} (sym are) (statement-entered r.by v.of w.of st.statement st.is named)

  driven-below : (i : ℕ) (p : Path) (w : StandsAt s l i p) → Below (width_of s w.site.of) (driven_places s.cells l w.site)
  driven-below i p w =
      let inside : Below (length (bits_in w.of)) (inside_places s.cells (slice_get l.templates w.site.of)) =
      subst (λ o. Below (length (bits_in w.of)) (inside_places s.cells o)) (sym w.has_template) (inside-below s w.of w.template w.resolved) in
      subst (λ n. Below n (driven_places s.cells l w.site)) (sym (width-is w.site.of w.of w.has_of))
      (all-append (λ j. nat_lt j (length (bits_in w.of))) (entered_places l w.site.by) (inside_places s.cells (slice_get l.templates w.site.of)) (entered-below i p w w.site.by w.inside) inside)

  -- sites from a number on, part by part
  record AreParts (from : ℕ) (xs : List Site) (ps : List Path) : Type 0 where
    nodes : fed (flat_map (feeds_at s.cells l) xs) ≡ spread from (map part_of xs)
    within : AreWithin (map part_of xs)
    size : room (map part_of xs) ≡ length (flat_map (λ q. nodes_in q (module_at s q)) ps)
    found : first_in_parts from (map part_of xs) ≡ found (twice_at s l) xs

  parts-are : (k from : ℕ) (xs : List Site) (ps : List Path) → length xs ≡ length ps → Has l.sites k xs → Has (module_instances s) k ps → Has (starts_from s 0 (module_instances s)) k (starts_from s from ps) → AreParts from xs ps
  parts-are k from [] [] size xh ph sh = record { nodes = refl; within = tt; size = refl; found = refl }
  parts-are k from [] (p ∷ ps) size xh ph sh = absurd (omega (arith, size))
  parts-are k from (x ∷ xs) [] size xh ph sh = absurd (omega (arith, size))
  parts-are k from (x ∷ xs) (p ∷ ps) size xh ph sh =
      let at = has-head (module_instances s) k p ps ph in
      let w = sited.each k p at in
      let both : Some x ≡ Some w.site = sym (has-head l.sites k x xs xh) ∙ w.at in
      let same : w.site ≡ x = cc in
      let here : start_of s k ≡ from = get_or_from_slice_get (starts_from s 0 (module_instances s)) k from 0 (has-head (starts_from s 0 (module_instances s)) k from (starts_from s (from + length (nodes_in p (module_at s p))) ps) sh) in
      let start : x.start ≡ from = ap (λ (y : Site). y.start) (sym same) ∙ w.start ∙ here in
      let top : x.by ≡ None → x.start ≡ 0 = λ none. ap (λ (y : Site). y.start) (sym same) ∙ begins-at-top k p w at w.site.by w.inside (ap (λ (y : Site). y.by) same ∙ none) in
      let wide : width_of s x.of ≡ length (nodes_in p (module_at s p)) = ap (λ (y : Site). width_of s y.of) (sym same) ∙ width-is w.site.of w.of w.has_of ∙ sym (own-bits s p w.of w.is_of) in
      let below : Below (width_of s x.of) (driven_places s.cells l x) = subst (λ (y : Site). Below (width_of s y.of) (driven_places s.cells l y)) same (driven-below k p w) in
      let next : from + length (nodes_in p (module_at s p)) ≡ from + width_of s x.of = omega (arith, wide) in
      let more = parts-are (k + 1) (from + width_of s x.of) xs ps (omega (arith, size)) (has-tail l.sites k x xs xh) (has-tail (module_instances s) k p ps ph)
      (subst (λ n. Has (starts_from s 0 (module_instances s)) (k + 1) (starts_from s n ps)) next (has-tail (starts_from s 0 (module_instances s)) k from (starts_from s (from + length (nodes_in p (module_at s p))) ps) sh)) in
      let counted = length-append (nodes_in p (module_at s p)) (flat_map (λ q. nodes_in q (module_at s q)) ps) in
      let rest = more.size in
      record {
        nodes =
            map-append (λ (f : Feed). f.0) (feeds_at s.cells l x) (flat_map (feeds_at s.cells l) xs)
            ∙ ap (λ r. r ++ fed (flat_map (feeds_at s.cells l) xs)) (site-fed l x s.cells top ∙ ap (λ n. moved n (driven_places s.cells l x)) start)
            ∙ ap (λ r. moved from (driven_places s.cells l x) ++ r) more.nodes;
        within = (below, more.within);
        size = omega (arith, wide, rest, counted);
        found =
            ap (λ n. or_else (option_map (λ j. n + j) (first_twice (width_of s x.of) (driven_places s.cells l x))) (first_in_parts (from + width_of s x.of) (map part_of xs))) (sym start)
            ∙ ap (or_else (twice_at s l x)) more.found;
      }

  abbrev all_nodes : List ℕ
  all_nodes = fed (feeds s.cells l)

  counted-in-parts : (k : ℕ) → k < l.inner → times k (fed (feeds s.cells l)) ≡ times k (fed (flat_map (feeds_at s.cells l) l.sites))
  counted-in-parts k low =
      let a = times-append k (fed (flat_map (feeds_at s.cells l) l.sites)) (fed (map (outer_feed l.inner) (numbered 0 l.ports))) in
      let b = outer-fed l.inner k 0 l.ports low in
      ap (times k) (map-append (λ (f : Feed). f.0) (flat_map (feeds_at s.cells l) l.sites) (map (outer_feed l.inner) (numbered 0 l.ports))) ∙ omega (arith, a, b)

  -- the first node that stands twice among those that are driven
  pub first-node : first (λ k. nat_lt 1 (times k (fed (feeds s.cells l)))) (upward (length (inner_nodes s)) 0) ≡ first_driven_twice s l
  unfolding inner_nodes
  first-node =
      let parts = parts-are 0 0 l.sites (module_instances s) sited.count (has-all l.sites) (has-all (module_instances s)) (has-all (starts_from s 0 (module_instances s))) in
      let size : room (map part_of l.sites) ≡ l.inner = parts.size ∙ sym sited.inner in
      ap (λ n. first (λ k. nat_lt 1 (times k (fed (feeds s.cells l)))) (upward n 0)) (sym parts.size)
      ∙ spread-first (fed (feeds s.cells l)) 0 (map part_of l.sites) parts.within (λ k a b. counted-in-parts k (omega (arith, b, size)) ∙ ap (times k) parts.nodes)
      ∙ parts.found

  module _ (single : JoinsSingleBits s) (t : Tables) (cells : HasCells s t) (made : t.edges ≡ edge_rows s.cells l) where
    pub first-two : first_of (two_drivers s) ≡ option_map (node_at (keys_of s)) (first_driven_twice s l)
    first-two =
        let outer = outer_in (module_at s []) in
        let some = length-append (inner_nodes s) (outer_in (module_at s [])) in
        by-number (λ k. nat_lt 1 (length (sources_of s k))) (nodes_of s) (Fixed false) 0 (inner_nodes s) (has-left (nodes_of s) 0 (inner_nodes s) outer (has-all (nodes_of s)))
        ∙ ap (option_map (node_at (keys_of s)))
        (first-same (λ k. nat_lt 1 (length (sources_of s (node_at (keys_of s) k)))) (λ k. nat_lt 1 (times k (fed (feeds s.cells l)))) (length (inner_nodes s)) 0
        (λ j a b. ap (λ n. nat_lt 1 n) (sources-counted s names single t cells l sited made j (omega (arith, b, some))))
        ∙ first-node)
