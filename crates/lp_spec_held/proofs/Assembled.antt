-- One more operator: what holds of all other entries, and what is left to show of the new ones.
use Rattle.std.proofs.Common.{◌≡◌, ◌<◌, ℕ, ◌+◌, Bool, true, false, ◌&&◌, ◌==◌, cond, List, [], ◌∷◌, ◌++◌, map, length, get_or, Option, Some, None, inl, inr, refl, sym, ap, ◌∙◌, arith}
use Rattle.std.specs.Prelude.{is_some, slice_get, option_and_then}
use Rattle.std.proofs.lemmas.Bool.{true≢false, eqb-true, eq-eqb}
use Rattle.std.proofs.lemmas.List.{get_or_append_left, length-append}
use Rattle.std.proofs.lemmas.Option.{slice_get_within, slice_get_past, slice_get-get_or, get_or_from_slice_get}
use Rattle.lp_model.specs.LibraryView.{PinView}
use Rattle.lp_model.specs.declared.graph.Edge.{Edge as EdgeRow}
use Rattle.lp_model.specs.declared.graph.EdgeFrom.{EdgeFrom}
use Rattle.lp_model.specs.declared.graph.EdgeFrom.TheVariants.{Node as FromNode, Const as FromConst}
use Rattle.lp_model.specs.declared.graph.Leaf.{Leaf}
use Rattle.lp_model.specs.declared.graph.PinNet.{PinNet}
use Rattle.lp_model.specs.declared.graph.PinNet.TheVariants.{Unconnected, Const as PinConst, Node as PinNode}
use Rattle.lp_model.specs.declared.graph.Source.{Source as SourceRow}
use Rattle.lp_model.specs.declared.graph.Source.TheVariants.{Nothing, Env, Leaf as OfLeaf, Edge as OfEdge}
use Rattle.lp_spec_design.specs.Keys.{Name, Node, Fixed, Way, same_way}
use Rattle.lp_spec_design.specs.Graph.{when}
use Rattle.lp_spec_design.specs.Instances.{Placed, module_instances}
use Rattle.lp_spec_design.specs.Nodes.{nodes_of}
use Rattle.lp_spec_bridge.specs.Edges.{Edge, edges_of}
use Rattle.lp_spec_bridge.specs.Represents.{joined_at}
use Rattle.lp_spec_bridge.proofs.Apart.{way-true, way-self}
use Rattle.lp_spec_realises.specs.Projects.{Project}
use Rattle.lp_spec_realises.specs.Realises.{data_pin}
use Rattle.lp_spec_written.specs.Places.{Standing}
use Rattle.lp_spec_hub.specs.Spots.{Spot, OfNode, Behind, Before, Lead, Carried, Routed, Drive, FromSpot, Done, with_operator, on_way, is_behind}
use Rattle.lp_spec_hub.specs.Drives.{passed, drive_behind, drive_before, is_led, drive, read_by, behind_last}
use Rattle.lp_spec_hub.specs.Changes.{its_way, its_number, is_target, is_its_own, drive_with}
use Rattle.lp_spec_hub.specs.Laws.{OneMoreOperator}
use Rattle.lp_spec_edits.specs.Net.{Net, source_at, edge_at, pin_at, drives}
use Rattle.lp_spec_edits.specs.Sound.{IsSound}
use Rattle.lp_spec_edits.proofs.Edited.{pin-there}
use Rattle.lp_spec_held.specs.Held.{Cell, OfSource, OfOperator, OfSwitch, Spots, spot_at, key_at, from_spot, pin_spot, view_at, driven_by, row_drive, start_from, end_from, way_start, way_end, driving, cell_of_key, path_of_key, name_of_pin, is_there, is_done, IsEdgeHeld, Holds}
use Rattle.lp_spec_held.specs.Inserted.{IsPlaced}
use Rattle.lp_spec_held.proofs.Begun.{heads-same, tails-same}
use Rattle.lp_spec_held.proofs.Flow.{one-some, more-get, more-new, either-get, one-get, on-its, on-other, on-old}
use Rattle.lp_spec_held.proofs.Cells.{leaf-drives, data-reads}

pub same-self : (w : Way) (k : ℕ) → (same_way w w && (k == k)) ≡ true
same-self w k = ap (λ b. b && (k == k)) (way-self w) ∙ eq-eqb k k refl

-- a value that some test finds
found-some : {A : Type 0} (o : Option A) → is_some o ≡ true → (x : A) × (o ≡ Some x)
found-some None e = absurd (true≢false (sym e))
found-some (Some x) e = (x, refl)

module _ (p : Project) (from : Way → Node) (a : Done) (ks : Spots) (n : Net) (h : Holds p from a ks n) (o : Standing) where
  abbrev w : Way
  w = its_way o

  abbrev ops : List Standing
  ops = a.plan.operators

  abbrev here : List Standing
  here = on_way ops w

  abbrev done : Done
  done = with_operator a o

  abbrev last : ℕ
  last = length n.leaves

  pub here-with : on_way (ops ++ (o ∷ [])) w ≡ here ++ (o ∷ [])
  here-with = on-its o ops w (way-self w)

  pub none-here : slice_get here (length here) ≡ None
  none-here = slice_get_past here (length here) (omega arith)

  -- ---- wires that the hub has already

  -- the operator's own are none of these
  own-none : (v : Way) (k : ℕ) → is_its_own a o v k ≡ true → (same_way w v ≡ true) × (k ≡ length here)
  own-none v k e = split (same_way w v) (k == length here) e (eqb-true k (length here))
    where
      split : (b c : Bool) → (b && c) ≡ true → (c ≡ true → k ≡ length here) → (b ≡ true) × (k ≡ length here)
      split true c g is = (refl, is g)
      split false c g is = absurd (true≢false (sym g))

  none-on : (v : Way) (k : ℕ) → is_its_own a o v k ≡ true → slice_get (on_way ops v) k ≡ None
  none-on v k e =
      let own = own-none v k e in
      ap (λ u. slice_get (on_way ops u) k) (sym (way-true w v own.0)) ∙ (ap (slice_get here) own.1 ∙ none-here)

  pub own-behind : (v : Way) (k : ℕ) → is_its_own a o v k ≡ true → drive p a from (Behind v k) ≡ None
  own-behind v k e = ap (drive_behind v k) (none-on v k e)

  pub own-before : (v : Way) (k : ℕ) → is_its_own a o v k ≡ true → drive p a from (Before v k) ≡ None
  own-before v k e = ap (drive_before (on_way ops v) v (from v) k) (none-on v k e)

  pub own-lead : (v : Way) → is_its_own a o v 0 ≡ true → drive p a from (Lead v) ≡ None
  own-lead v e = ap (λ q. when (is_led (from v) q) (FromSpot (OfNode (from v)))) (none-on v 0 e)

  there-none : (d : Option Drive) → d ≡ None → is_some d ≡ true → ⊥
  there-none d e yes_ = true≢false (sym yes_ ∙ ap is_some e)

  -- a wire that is there and is not the one to which the way leads is driven as before
  pub old-drive : (x : Spot) → is_there p a from x ≡ true → ((k : Node) → x ≡ OfNode k → is_target p o k ≡ true → ⊥) → drive_with p a from o x ≡ drive p a from x
  old-drive (OfNode k) yes_ ne = by (is_target p o k) refl
    where
      by : (b : Bool) → is_target p o k ≡ b → cond (is_target p o k) (Some (behind_last w (its_number a o) (Some o))) (drive p a from (OfNode k)) ≡ drive p a from (OfNode k)
      by true e = absurd (ne k refl e)
      by false e = ap (λ b. cond b (Some (behind_last w (its_number a o) (Some o))) (drive p a from (OfNode k))) e
  old-drive (Behind v k) yes_ ne = by (is_its_own a o v k) refl
    where
      by : (b : Bool) → is_its_own a o v k ≡ b → cond (is_its_own a o v k) (drive_behind v k (Some o)) (drive p a from (Behind v k)) ≡ drive p a from (Behind v k)
      by true e = absurd (there-none (drive p a from (Behind v k)) (own-behind v k e) yes_)
      by false e = ap (λ b. cond b (drive_behind v k (Some o)) (drive p a from (Behind v k))) e
  old-drive (Before v k) yes_ ne = by (is_its_own a o v k) refl
    where
      by : (b : Bool) → is_its_own a o v k ≡ b → cond (is_its_own a o v k) (when (is_behind o) (passed (on_way ops v) v (from v) k)) (drive p a from (Before v k)) ≡ drive p a from (Before v k)
      by true e = absurd (there-none (drive p a from (Before v k)) (own-before v k e) yes_)
      by false e = ap (λ b. cond b (when (is_behind o) (passed (on_way ops v) v (from v) k)) (drive p a from (Before v k))) e
  old-drive (Lead v) yes_ ne = by (is_its_own a o v 0) refl
    where
      by : (b : Bool) → is_its_own a o v 0 ≡ b → cond (is_its_own a o v 0) (when (is_led (from v) (Some o)) (FromSpot (OfNode (from v)))) (drive p a from (Lead v)) ≡ drive p a from (Lead v)
      by true e = absurd (there-none (drive p a from (Lead v)) (own-lead v e) yes_)
      by false e = ap (λ b. cond b (when (is_led (from v) (Some o)) (FromSpot (OfNode (from v)))) (drive p a from (Lead v))) e
  old-drive (Carried q x) yes_ ne = refl
  old-drive (Routed t) yes_ ne = refl

  -- and stays there
  stays : OneMoreOperator → (x : Spot) → is_there p a from x ≡ true → is_there p done from x ≡ true
  stays more (OfNode k) yes_ = yes_
  stays more (Behind v k) yes_ = ap is_some (more p a from o (Behind v k) ∙ old-drive (Behind v k) yes_ (λ j e. absurd (let no_ : Behind v k ≡ OfNode j = e in cc))) ∙ yes_
  stays more (Before v k) yes_ = ap is_some (more p a from o (Before v k) ∙ old-drive (Before v k) yes_ (λ j e. absurd (let no_ : Before v k ≡ OfNode j = e in cc))) ∙ yes_
  stays more (Lead v) yes_ = ap is_some (more p a from o (Lead v) ∙ old-drive (Lead v) yes_ (λ j e. absurd (let no_ : Lead v ≡ OfNode j = e in cc))) ∙ yes_
  stays more (Carried q x) yes_ = yes_
  stays more (Routed t) yes_ = yes_

  -- ---- cell instances that are there already

  pub stays-done : (c : Cell) → is_done a c ≡ true → (is_done done c ≡ true) × (cell_of_key p done c ≡ cell_of_key p a c) × (path_of_key done c ≡ path_of_key a c)
  stays-done (OfSource x) yes_ = (refl, refl, refl)
  stays-done (OfOperator v k) yes_ =
      let found = found-some (slice_get (on_way ops v) k) yes_ in
      let same = on-old o ops v k found.0 found.1 ∙ sym found.1 in
      (ap is_some same ∙ yes_, ap (option_and_then (λ (x : Standing). Some x.cell)) same, ap (option_and_then (λ (x : Standing). Some x.path)) same)
  stays-done (OfSwitch s) yes_ = (yes_, refl, refl)

  -- ---- numbers

  pub spot-there : (k : ℕ) → k < length n.nodes → slice_get ks.nodes k ≡ Some (spot_at ks k)
  spot-there k low = slice_get-get_or ks.nodes k (OfNode (Fixed false)) (omega (arith, low, h.nodes))

  -- a pin of the netlist is one of its cell instances
  pin-low : (l q k : ℕ) → pin_at n l q ≡ PinNode (record { 0 = k }) → l < length n.leaves
  pin-low l q k e = let there = (pin-there n l q k e).0 in omega (arith, there, h.sound.rows)

  module _ (more : List Spot) (m : Net) (leaf : Leaf) where
    abbrev keys : Spots
    keys = record { nodes = ks.nodes ++ more; leaves = ks.leaves ++ (OfOperator w (length here) ∷ []) }

    pub spot-same : (k : ℕ) → k < length n.nodes → spot_at keys k ≡ spot_at ks k
    spot-same k low = get_or_append_left ks.nodes more (OfNode (Fixed false)) k (omega (arith, low, h.nodes))

    pub from-same : (r : EdgeRow) (e : ℕ) → edge_at n e ≡ Some r → from_spot keys r.from ≡ from_spot ks r.from
    from-same r e there = by r.from refl
      where
        by : (f : EdgeFrom) → r.from ≡ f → from_spot keys f ≡ from_spot ks f
        by (FromNode j) is = spot-same j.0 ((h.sound.wires.edges e r there).begins j.0 is)
        by (FromConst b) is = refl

    pub pin-same : (l q : ℕ) → pin_spot keys (pin_at n l q) ≡ pin_spot ks (pin_at n l q)
    pin-same l q = by (pin_at n l q) refl
      where
        by : (z : PinNet) → pin_at n l q ≡ z → pin_spot keys z ≡ pin_spot ks z
        by Unconnected e = refl
        by (PinConst b) e = refl
        by (PinNode k) e = ap (λ x. Some x) (spot-same k.0 (h.sound.wires.pins l q k.0 e))

    pub key-same : (l : ℕ) → l < length n.leaves → key_at keys l ≡ key_at ks l
    key-same l low = get_or_append_left ks.leaves (OfOperator w (length here) ∷ []) (OfSwitch 0) l (omega (arith, low, h.leaves))

    pub key-new : key_at keys last ≡ OfOperator w (length here)
    key-new =
        get_or_from_slice_get keys.leaves last (OfOperator w (length here)) (OfSwitch 0)
        (ap (slice_get keys.leaves) (h.leaves ∙ plus-none (length ks.leaves)) ∙ more-new ks.leaves (OfOperator w (length here) ∷ []) 0)
      where
        plus-none : (k : ℕ) → k ≡ k + 0
        plus-none k = omega arith

    module _ (leaves : m.leaves ≡ n.leaves ++ (leaf ∷ [])) where
      leaf-old : (l : ℕ) → l < length n.leaves → slice_get m.leaves l ≡ slice_get n.leaves l
      leaf-old l low =
          let there = slice_get-get_or n.leaves l leaf low in
          ap (λ xs. slice_get xs l) leaves ∙ (more-get n.leaves (leaf ∷ []) l (get_or n.leaves l leaf) there ∙ sym there)

      leaf-new : slice_get m.leaves last ≡ Some leaf
      leaf-new = ap (λ xs. slice_get xs last) leaves ∙ (ap (slice_get (n.leaves ++ (leaf ∷ []))) (plus-none last) ∙ more-new n.leaves (leaf ∷ []) 0)
        where
          plus-none : (k : ℕ) → k ≡ k + 0
          plus-none k = omega arith

      view-old : (l : ℕ) → l < length n.leaves → view_at p.structure m l ≡ view_at p.structure n l
      view-old l low = ap (option_and_then (λ (x : Leaf). slice_get p.structure.cells x.cell.0)) (leaf-old l low)

      -- what drives a wire as before, from where it came before
      pub row-same : (x : Spot) (k : ℕ) (s : SourceRow) → source_at n k ≡ s
          → ((b : ℕ) (r : EdgeRow) → s ≡ OfEdge (record { 0 = b }) → edge_at n b ≡ Some r → (u : EdgeRow) × (edge_at m b ≡ Some u) × (u.from ≡ r.from))
          → row_drive p.structure keys m x s ≡ row_drive p.structure ks n x s
      row-same x k Nothing is kept = refl
      row-same x k Env is kept = refl
      row-same x k (OfLeaf q l) is kept =
          let low = pin-low l.0 q k (h.sound.wires.by_pin k l.0 q is) in
          ap (λ c. driven_by c (view_at p.structure m l.0) q) (key-same l.0 low) ∙ ap (λ v. driven_by (key_at ks l.0) v q) (view-old l.0 low)
      row-same x k (OfEdge b) is kept =
          let its = h.sound.wires.by_edge k b.0 is in
          let now = kept b.0 its.0 refl its.1 in
          ap (option_and_then (λ (r : EdgeRow). Some (FromSpot (from_spot keys r.from)))) now.1
          ∙ (ap (λ f. Some (FromSpot (from_spot keys f))) now.2
          ∙ (ap (λ y. Some (FromSpot y)) (from-same its.0 b.0 its.1)
          ∙ sym (ap (option_and_then (λ (r : EdgeRow). Some (FromSpot (from_spot ks r.from)))) its.1)))

      -- an edge of another way
      pub other-edge : (b : ℕ) (y : Edge) → same_way w y.way ≡ false → IsEdgeHeld a ks y (edge_at n b) → edge_at m b ≡ edge_at n b → IsEdgeHeld done keys y (edge_at m b)
      other-edge b y ne old same = record {
        row = old.row;
        there = same ∙ old.there;
        starts = from-same old.row b old.there ∙ (old.starts ∙ sym way-starts);
        leads = more-get ks.nodes more old.row.to.0 (way_end a y) old.leads ∙ ap (λ x. Some x) (sym way-ends);
        kind = old.kind;
      }
        where
          way-starts : way_start done y ≡ way_start a y
          way-starts = ap (λ xs. start_from y.way 0 xs (OfNode y.from)) (on-other o ops y.way ne)

          way-ends : way_end done y ≡ way_end a y
          way-ends = ap (λ xs. end_from y.way 0 xs (OfNode y.to)) (on-other o ops y.way ne)

      -- ---- the whole

      last-with : slice_get (on_way (ops ++ (o ∷ [])) w) (length here) ≡ Some o
      last-with = ap (λ xs. slice_get xs (length here)) here-with ∙ (ap (slice_get (here ++ (o ∷ []))) (plus-none (length here)) ∙ more-new here (o ∷ []) 0)
        where
          plus-none : (k : ℕ) → k ≡ k + 0
          plus-none k = omega arith

      key-low : (l : ℕ) (c : Cell) → slice_get ks.leaves l ≡ Some c → l < length n.leaves
      key-low l c e = let low = slice_get_within ks.leaves l c e in omega (arith, low, h.leaves)

      key-last : (l : ℕ) (c : Cell) → (j : ℕ) × (l ≡ length ks.leaves + j) × (slice_get (OfOperator w (length here) ∷ []) j ≡ Some c) → (l ≡ last) × (c ≡ OfOperator w (length here))
      key-last l c new = let found = one-get (OfOperator w (length here)) new.0 c new.2 in let at = new.1 in let zero_ = found.0 in (omega (arith, at, zero_, h.leaves), found.1)

      heads-same_ : (xs : List ℕ) (ys : List Edge) → map (slice_get ks.nodes) xs ≡ map (λ (y : Edge). Some (OfNode y.to)) ys → map (slice_get keys.nodes) xs ≡ map (λ (y : Edge). Some (OfNode y.to)) ys
      heads-same_ [] ys e = e
      heads-same_ (x ∷ xs) [] e = absurd (cons-nil (slice_get ks.nodes x) (map (slice_get ks.nodes) xs) e)
        where
          cons-nil : (d : Option Spot) (ds : List (Option Spot)) → d ∷ ds ≡ [] → ⊥
          cons-nil d ds g = cc
      heads-same_ (x ∷ xs) (y ∷ ys) e =
          let one_ = more-get ks.nodes more x (OfNode y.to) (heads-same (slice_get ks.nodes x) (Some (OfNode y.to)) (map (slice_get ks.nodes) xs) (map (λ (z : Edge). Some (OfNode z.to)) ys) e) in
          let rest = heads-same_ xs ys (tails-same (slice_get ks.nodes x) (Some (OfNode y.to)) (map (slice_get ks.nodes) xs) (map (λ (z : Edge). Some (OfNode z.to)) ys) e) in
          (λ u. one_ u ∷ rest u)

      module _ (sound : IsSound m) (instances : m.instances ≡ n.instances) (cells : m.cells ≡ n.cells) (heads : m.heads ≡ n.heads) (kept : m.kept ≡ n.kept)
          (e i c data_ out : ℕ) (placed : IsPlaced p from o e i c data_ out) (inst-is : leaf.inst.0 ≡ i) (cell-is : leaf.cell.0 ≡ c) (step : OneMoreOperator)
          (count : length m.nodes ≡ length n.nodes + length more)
          (fresh : (j : ℕ) (x : Spot) → slice_get more j ≡ Some x → is_there p a from x ≡ false)
          (made : (j : ℕ) (x : Spot) → slice_get more j ≡ Some x → is_there p done from x ≡ true)
          (distinct : (j k : ℕ) (x : Spot) → slice_get more j ≡ Some x → slice_get more k ≡ Some x → j ≡ k)
          (old-rows : (k : ℕ) (x : Spot) → slice_get ks.nodes k ≡ Some x → row_drive p.structure keys m x (source_at m k) ≡ drive_with p a from o x)
          (new-rows : (j : ℕ) (x : Spot) → slice_get more j ≡ Some x → row_drive p.structure keys m x (source_at m (length n.nodes + j)) ≡ drive_with p a from o x)
          (edges : (b : ℕ) (y : Edge) → slice_get (edges_of p.structure) b ≡ Some y → IsEdgeHeld done keys y (edge_at m b))
          (read : (l q : ℕ) (x : Placed) → slice_get ks.leaves l ≡ Some (OfSource x) → pin_at m l q ≡ pin_at n l q)
          (taken : (l q : ℕ) → l < length n.leaves → drives n l q ≡ false → pin_at m l q ≡ pin_at n l q)
          (takes : pin_spot keys (pin_at m last data_) ≡ Some (read_by w (from w) (length here) o)) where
        apart-now : (j k : ℕ) (x : Spot) → slice_get keys.nodes j ≡ Some x → slice_get keys.nodes k ≡ Some x → j ≡ k
        apart-now j k x one_ two = elim (either-get ks.nodes more j x one_) [
          | inl old ↦ elim (either-get ks.nodes more k x two) [
            | inl older ↦ h.apart j k x old older
            | inr new ↦ absurd (true≢false (sym (h.there j x old) ∙ fresh new.0 x new.2))
          ]
          | inr new ↦ elim (either-get ks.nodes more k x two) [
            | inl old ↦ absurd (true≢false (sym (h.there k x old) ∙ fresh new.0 x new.2))
            | inr newer ↦ let same = distinct new.0 newer.0 x new.2 newer.2 in let first = new.1 in let second = newer.1 in omega (arith, same, first, second)
          ]
        ]

        there-now : (k : ℕ) (x : Spot) → slice_get keys.nodes k ≡ Some x → is_there p done from x ≡ true
        there-now k x e_ = elim (either-get ks.nodes more k x e_) [ inl old ↦ stays step x (h.there k x old) | inr new ↦ made new.0 x new.2 ]

        done-now : (l : ℕ) (d : Cell) → slice_get keys.leaves l ≡ Some d → is_done done d ≡ true
        done-now l d e_ = elim (either-get ks.leaves (OfOperator w (length here) ∷ []) l d e_) [
          | inl old ↦ (stays-done d (h.done l d old)).0
          | inr new ↦ ap (is_done done) (key-last l d new).1 ∙ ap is_some last-with
        ]

        drives-now : (k : ℕ) (x : Spot) → slice_get keys.nodes k ≡ Some x → row_drive p.structure keys m x (source_at m k) ≡ drive p done from x
        drives-now k x e_ = elim (either-get ks.nodes more k x e_) [
          | inl old ↦ old-rows k x old ∙ sym (step p a from o x)
          | inr new ↦ ap (λ j. row_drive p.structure keys m x (source_at m j)) (let at = new.1 in omega (arith, at, h.nodes)) ∙ (new-rows new.0 x new.2 ∙ sym (step p a from o x))
        ]

        views-now : (l : ℕ) (d : Cell) → slice_get keys.leaves l ≡ Some d → view_at p.structure m l ≡ cell_of_key p done d
        views-now l d e_ = elim (either-get ks.leaves (OfOperator w (length here) ∷ []) l d e_) [
          | inl old ↦ view-old l (key-low l d old) ∙ (h.views l d old ∙ sym (stays-done d (h.done l d old)).1)
          | inr new ↦
              let at = key-last l d new in
              ap (view_at p.structure m) at.0
              ∙ (ap (option_and_then (λ (x : Leaf). slice_get p.structure.cells x.cell.0)) leaf-new
              ∙ (ap (slice_get p.structure.cells) cell-is
              ∙ (placed.cell
              ∙ (sym (ap (option_and_then (λ (x : Standing). Some x.cell)) last-with) ∙ ap (cell_of_key p done) (sym at.1)))))
        ]

        places-now : (l : ℕ) (d : Cell) (x : Leaf) → slice_get keys.leaves l ≡ Some d → slice_get m.leaves l ≡ Some x → slice_get (module_instances p.structure) x.inst.0 ≡ path_of_key done d
        places-now l d x e_ row = elim (either-get ks.leaves (OfOperator w (length here) ∷ []) l d e_) [
          | inl old ↦ h.places l d x old (sym (leaf-old l (key-low l d old)) ∙ row) ∙ sym (stays-done d (h.done l d old)).2
          | inr new ↦
              let at = key-last l d new in
              let same = one-some leaf x (sym leaf-new ∙ (ap (slice_get m.leaves) (sym at.0) ∙ row)) in
              ap (λ (y : Leaf). slice_get (module_instances p.structure) y.inst.0) (sym same)
              ∙ (ap (slice_get (module_instances p.structure)) inst-is
              ∙ (placed.instance
              ∙ (sym (ap (option_and_then (λ (y : Standing). Some y.path)) last-with) ∙ ap (path_of_key done) (sym at.1))))
        ]

        reads-now : (l q : ℕ) (x : Placed) (name : Name) → slice_get keys.leaves l ≡ Some (OfSource x) → name_of_pin (view_at p.structure m l) q ≡ Some name
            → (y : Node) → joined_at p.structure x name ≡ Some y → pin_spot keys (pin_at m l q) ≡ Some (OfNode y)
        reads-now l q x name e_ called y joined = elim (either-get ks.leaves (OfOperator w (length here) ∷ []) l (OfSource x) e_) [
          | inl old ↦
              ap (pin_spot keys) (read l q x old)
              ∙ (pin-same l q ∙ h.reads l q x name old (sym (ap (λ v. name_of_pin v q) (view-old l (key-low l (OfSource x) old))) ∙ called) y joined)
          | inr new ↦ absurd (differs x (key-last l (OfSource x) new).1)
        ]
          where
            differs : (z : Placed) → OfSource z ≡ OfOperator w (length here) → ⊥
            differs z g = cc

        taken-now : (l q k : ℕ) (v : Way) (g : Standing) (y : PinView) → slice_get keys.leaves l ≡ Some (OfOperator v k) → slice_get (on_way (ops ++ (o ∷ [])) v) k ≡ Some g
            → data_pin g.asked.operator g.cell ≡ Some y → slice_get g.cell.pins q ≡ Some y → pin_spot keys (pin_at m l q) ≡ Some (read_by v (from v) k g)
        taken-now l q k v g y e_ stands pin there = elim (either-get ks.leaves (OfOperator w (length here) ∷ []) l (OfOperator v k) e_) [
          | inl old ↦
              let found = found-some (slice_get (on_way ops v) k) (h.done l (OfOperator v k) old) in
              let same : found.0 ≡ g = one-some found.0 g (sym (on-old o ops v k found.0 found.1) ∙ stands) in
              let stood = found.1 ∙ ap (λ x. Some x) same in
              let view = h.views l (OfOperator v k) old ∙ ap (option_and_then (λ (x : Standing). Some x.cell)) stood in
              ap (pin_spot keys) (taken l q (key-low l (OfOperator v k) old) (leaf-drives p.structure n h.library l q g.cell y view there ∙ data-reads g.asked.operator g.cell y pin))
              ∙ (pin-same l q ∙ h.takes l q k v g y old stood pin there)
          | inr new ↦
              let at = key-last l (OfOperator v k) new in
              let ways : v ≡ w = ap way_in at.1 in
              let numbers : k ≡ length here = ap number_in at.1 in
              let same : o ≡ g = one-some o g (sym last-with ∙ ((λ u. slice_get (on_way (ops ++ (o ∷ [])) (sym ways u)) (sym numbers u)) ∙ stands)) in
              let its = one-some placed.takes.pin y (sym placed.takes.is ∙ (ap (λ (x : Standing). data_pin x.asked.operator x.cell) same ∙ pin)) in
              let place = placed.takes.only q (ap (λ (x : Standing). slice_get x.cell.pins q) same ∙ (there ∙ ap (λ x. Some x) (sym its))) in
              (λ u. pin_spot keys (pin_at m (at.0 u) (place u))) ∙ (takes ∙ (λ u. Some (read_by (sym ways u) (from (sym ways u)) (sym numbers u) (same u))))
        ]
          where
            way_in : Cell → Way
            way_in (OfOperator u j) = u
            way_in _ = w

            number_in : Cell → ℕ
            number_in (OfOperator u j) = j
            number_in _ = 0

        pub assembled : Holds p from done keys m
        assembled = record {
          sound = sound;
          library = ap (map driving) cells ∙ h.library;
          instances = ap length instances ∙ h.instances;
          nodes = omega (arith, count, h.nodes, length-append ks.nodes more);
          leaves =
              let now = ap length leaves ∙ length-append n.leaves (leaf ∷ []) in
              let keyed = length-append ks.leaves (OfOperator w (length here) ∷ []) in
              omega (arith, now, keyed, h.leaves);
          kept = kept ∙ h.kept;
          added = h.added ++ more;
          own = ap (λ xs. xs ++ more) h.own ∙ append-assoc (map (λ k. OfNode k) (nodes_of p.structure)) h.added more;
          apart = apart-now;
          there = there-now;
          done = done-now;
          drives = drives-now;
          heads = ap (map (slice_get keys.nodes)) heads ∙ heads-same_ n.heads (edges_of p.structure) h.heads;
          edges = edges;
          views = views-now;
          places = places-now;
          reads = reads-now;
          takes = taken-now;
        }
          where
            append-assoc : (xs ys zs : List Spot) → (xs ++ ys) ++ zs ≡ xs ++ (ys ++ zs)
            append-assoc [] ys zs = refl
            append-assoc (x ∷ xs) ys zs = ap (λ r. x ∷ r) (append-assoc xs ys zs)
