-- An operator behind its way's edge is put into the netlist.
use Rattle.std.proofs.Common.{◌≡◌, ◌<◌, ℕ, suc, ◌+◌, Bool, true, false, ◌&&◌, ◌||◌, ◌==◌, cond, List, [], ◌∷◌, ◌++◌, length, Option, Some, None, inl, inr, refl, sym, ap, ◌∙◌, subst, arith}
use Rattle.std.specs.Prelude.{is_some, slice_get, option_and_then}
use Rattle.std.proofs.lemmas.Bool.{true≢false, eqb-true}
use Rattle.std.proofs.lemmas.Option.{slice_get_within, get_or_from_slice_get}
use Rattle.lp_model.specs.declared.graph.Edge.{Edge as EdgeRow}
use Rattle.lp_model.specs.declared.graph.Source.{Source as SourceRow}
use Rattle.lp_model.specs.declared.graph.Source.TheVariants.{Nothing, Env, Leaf as OfLeaf, Edge as OfEdge}
use Rattle.lp_model.specs.declared.plan.AddedKind.{AddedKind}
use Rattle.lp_spec_design.specs.Keys.{Node, Fixed, Way, same_way, Source}
use Rattle.lp_spec_design.specs.Graph.{when}
use Rattle.lp_spec_design.specs.Instances.{Placed}
use Rattle.lp_spec_bridge.specs.Edges.{Edge, edges_of}
use Rattle.lp_spec_bridge.specs.Represents.{outputs_in}
use Rattle.lp_spec_bridge.proofs.Apart.{way-self}
use Rattle.lp_spec_realises.specs.Projects.{Project}
use Rattle.lp_spec_written.specs.Places.{Standing}
use Rattle.lp_spec_hub.specs.Spots.{Spot, OfNode, Behind, Before, Lead, Carried, Routed, AsSource, ByOperator, FromSpot, Done, with_operator, on_way, is_behind}
use Rattle.lp_spec_hub.specs.Drives.{passed, drive, behind_last, read_by, read_before}
use Rattle.lp_spec_hub.specs.Changes.{its_way, is_its_own, drive_with}
use Rattle.lp_spec_hub.specs.Laws.{OneMoreOperator}
use Rattle.lp_spec_hub.specs.Entries.{IsInFlow}
use Rattle.lp_spec_edits.specs.Net.{Net, source_at, edge_at, pin_at, drives}
use Rattle.lp_spec_edits.specs.Edits.{head_at, split_behind, add_cell, connect}
use Rattle.lp_spec_edits.specs.Sound.{IsEdited, is_driven, is_its_edge, is_its_pin}
use Rattle.lp_spec_edits.proofs.Wires.{put, put-at, put-other, same-or, other-number}
use Rattle.lp_spec_edits.proofs.Splits.{split_behind_edited}
use Rattle.lp_spec_edits.proofs.Opened.{IsFilled, source-behind, count-behind, edge-behind, frame-behind}
use Rattle.lp_spec_held.specs.Held.{OfSource, OfOperator, OfSwitch, Spots, from_spot, key_at, pin_spot, view_at, driven_by, row_drive, way_start, way_end, is_there, IsEdgeHeld, Holds}
use Rattle.lp_spec_held.specs.Inserted.{IsPlaced}
use Rattle.lp_spec_held.proofs.Flow.{no-some, one-some, more-get, more-new, one-get, true-or, flow-front, none_behind, start-behind, end-none, end-last, end-kept, passed-some}
use Rattle.lp_spec_held.proofs.Assembled as whole
use Rattle.lp_spec_held.proofs.Placed as at_

-- what drives a wire depends on the wire only where the environment does
any-spot : (p : Project) (ks : Spots) (n : Net) (x y : Spot) (s : SourceRow) → is_driven s ≡ true → row_drive p.structure ks n x s ≡ row_drive p.structure ks n y s
any-spot p ks n x y Nothing e = absurd (true≢false (sym e))
any-spot p ks n x y Env e = absurd (true≢false (sym e))
any-spot p ks n x y (OfLeaf q l) e = refl
any-spot p ks n x y (OfEdge b) e = refl

-- what an operator drives is driven by a cell instance that is none of the source's
by-operator : (p : Project) (ks : Spots) (n : Net) (x : Spot) (s : SourceRow) (w : Way) (m : ℕ) → row_drive p.structure ks n x s ≡ Some (ByOperator w m)
    → (q : ℕ) × (l : ℕ) × (s ≡ OfLeaf q (record { 0 = l })) × ((y : Placed) → key_at ks l ≡ OfSource y → ⊥)
by-operator p ks n x Nothing w m e = absurd (no-some (ByOperator w m) e)
by-operator p ks n x Env w m e = absurd (outside x e)
  where
    outside : (z : Spot) → row_drive p.structure ks n z Env ≡ Some (ByOperator w m) → ⊥
    outside (OfNode k) g = cc
    outside (Behind v k) g = cc
    outside (Before v k) g = cc
    outside (Lead v) g = cc
    outside (Carried u v) g = cc
    outside (Routed u) g = cc
by-operator p ks n x (OfEdge b) w m e = absurd (of-edge (edge_at n b.0) e)
  where
    of-edge : (r : Option EdgeRow) → option_and_then (λ (u : EdgeRow). Some (FromSpot (from_spot ks u.from))) r ≡ Some (ByOperator w m) → ⊥
    of-edge None g = cc
    of-edge (Some u) g = cc
by-operator p ks n x (OfLeaf q l) w m e = (q, l.0, refl, λ y key. of-source y (slice_get (outputs_in y (view_at p.structure n l.0)) q) (sym (ap (λ d. driven_by d (view_at p.structure n l.0) q) key) ∙ e))
  where
    of-source : (y : Placed) (found : Option Source) → option_and_then (λ z. Some (AsSource z)) found ≡ Some (ByOperator w m) → ⊥
    of-source y None g = cc
    of-source y (Some z) g = cc

module _ (p : Project) (from : Way → Node) (a : Done) (ks : Spots) (n : Net) (h : Holds p from a ks n) (o : Standing) (kind : AddedKind) (e i c data_ out : ℕ) (placed : IsPlaced p from o e i c data_ out)
    (step : OneMoreOperator) (flow : IsInFlow (with_operator a o).plan.operators) (behind : is_behind o ≡ true) where
  abbrev w : Way
  w = its_way o

  abbrev ops : List Standing
  ops = a.plan.operators

  abbrev here : List Standing
  here = on_way ops w

  abbrev done : Done
  done = with_operator a o

  abbrev edge : Edge
  edge = placed.edge.edge

  abbrev inside : Bool
  inside = at_.inside p from a ks n h o e i c data_ out placed

  abbrev head : ℕ
  head = head_at n e

  abbrev new : ℕ
  new = length n.nodes

  abbrev last : ℕ
  last = length n.leaves

  abbrev gap : Net
  gap = split_behind n e inside

  abbrev pub filled : Net
  filled = connect (connect (add_cell gap i c kind) (length gap.leaves) data_ new) (length gap.leaves) out head

  abbrev more : List Spot
  more = Before w (length here) ∷ []

  abbrev pub keys : Spots
  keys = record { nodes = ks.nodes ++ more; leaves = ks.leaves ++ (OfOperator w (length here) ∷ []) }

  there : slice_get ks.nodes head ≡ Some (OfNode edge.to)
  there = at_.head-there p from a ks n h o e i c data_ out placed

  low : head < length n.nodes
  low = at_.head-low p from a ks n h o e i c data_ out placed

  held : IsEdgeHeld a ks edge (edge_at n e)
  held = at_.held p from a ks n h o e i c data_ out placed

  new-there : slice_get keys.nodes new ≡ Some (Before w (length here))
  new-there = ap (slice_get keys.nodes) (plus-none new (length ks.nodes) h.nodes) ∙ more-new ks.nodes more 0
    where
      plus-none : (k m : ℕ) → k ≡ m → k ≡ m + 0
      plus-none k m g = omega (arith, g)

  own : is_its_own a o w (length here) ≡ true
  own = whole.same-self w (length here)

  drive-new : drive_with p a from o (Before w (length here)) ≡ Some (passed here w (from w) (length here))
  drive-new =
      ap (λ b. cond b (when (is_behind o) (passed here w (from w) (length here))) (drive p a from (Before w (length here)))) own
      ∙ ap (λ b. when b (passed here w (from w) (length here))) behind

  drive-head : drive_with p a from o (OfNode edge.to) ≡ Some (ByOperator w (length here))
  drive-head =
      ap (λ b. cond b (Some (behind_last w (length here) (Some o))) (drive p a from (OfNode edge.to))) (at_.target-true p from a ks n h o e i c data_ out placed)
      ∙ ap (λ b. Some (cond b (ByOperator w (length here)) (FromSpot (Behind w (length here))))) behind

  starts-now : way_start done edge ≡ way_start a edge
  starts-now = at_.start-now p from a ks n h o e i c data_ out placed ∙ (start-behind w 0 here o (OfNode (from w)) behind ∙ sym (at_.start-is p from a ks n h o e i c data_ out placed))

  module _ (ok : is_driven (source_at n head) ≡ true) where
    edited : IsEdited (λ j. (j == head) || (j == new)) (is_its_edge (source_at n head)) (is_its_pin (source_at n head)) n gap
    edited = split_behind_edited n h.sound e inside low ok

    gap-source : (k : ℕ) → (k ≡ head → ⊥) → (k ≡ new → ⊥) → source_at gap k ≡ source_at n k
    gap-source k one two =
        (λ u. source-behind n h.sound e inside low u k)
        ∙ (put-other new (source_at n head) (put head Nothing (source_at n)) k two ∙ put-other head Nothing (source_at n) k one)

    gap-head : source_at gap head ≡ Nothing
    gap-head =
        (λ u. source-behind n h.sound e inside low u head)
        ∙ (put-other new (source_at n head) (put head Nothing (source_at n)) head (λ same. omega (arith, same, low)) ∙ put-at head Nothing (source_at n) head refl)

    gap-new : source_at gap new ≡ source_at n head
    gap-new = (λ u. source-behind n h.sound e inside low u new) ∙ put-at new (source_at n head) (put head Nothing (source_at n)) new refl

    gap-count : length gap.nodes ≡ suc new
    gap-count = count-behind n h.sound e inside low

    f : IsFilled gap filled i c data_ out new head
    f = at_.fill p from a ks n h o e i c data_ out placed kind gap (frame-behind n h.sound e inside low) edited.sound new head (let size = gap-count in omega (arith, size)) (let size = gap-count in omega (arith, size, low)) gap-head

    leaf-count : length gap.leaves ≡ last
    leaf-count = ap length (frame-behind n h.sound e inside low).leaves

    leaves-are : filled.leaves ≡ n.leaves ++ (at_.leaf p from a ks n h o e i c data_ out placed ∷ [])
    leaves-are = f.leaves ∙ ap (λ ls. ls ++ (at_.leaf p from a ks n h o e i c data_ out placed ∷ [])) (frame-behind n h.sound e inside low).leaves

    takes-now : pin_spot keys (pin_at filled last data_) ≡ Some (read_by w (from w) (length here) o)
    takes-now =
        ap (λ l. pin_spot keys (pin_at filled l data_)) (sym leaf-count)
        ∙ (ap (pin_spot keys) f.takes
        ∙ (ap (λ x. Some x) (get_or_from_slice_get keys.nodes new (Before w (length here)) (OfNode (Fixed false)) new-there)
        ∙ sym (ap (λ b. Some (cond b (Before w (length here)) (read_before w (from w) (length here)))) behind)))

    pins-now : (l q : ℕ) → l < last → pin_at filled l q ≡ pin_at gap l q
    pins-now l q less = f.pins l q (let size = leaf-count in omega (arith, size, less))

    module _ (kept : (b : ℕ) (r : EdgeRow) → edge_at n b ≡ Some r → (u : EdgeRow) × (edge_at gap b ≡ Some u) × (u.from ≡ r.from))
        (its-edge : IsEdgeHeld done keys edge (edge_at gap e))
        (other : (b : ℕ) → (b ≡ e → ⊥) → edge_at gap b ≡ edge_at n b)
        (read : (l q : ℕ) (x : Placed) → slice_get ks.leaves l ≡ Some (OfSource x) → pin_at gap l q ≡ pin_at n l q)
        (taken : (l q : ℕ) → drives n l q ≡ false → pin_at gap l q ≡ pin_at n l q) where
      kept-now : (b : ℕ) (r : EdgeRow) → edge_at n b ≡ Some r → (u : EdgeRow) × (edge_at filled b ≡ Some u) × (u.from ≡ r.from)
      kept-now b r row = let found = kept b r row in (found.0, (λ u. f.edges u b) ∙ found.1, found.2)

      row-as : (x : Spot) (k : ℕ) → row_drive p.structure keys filled x (source_at n k) ≡ row_drive p.structure ks n x (source_at n k)
      row-as x k = whole.row-same p from a ks n h o more filled (at_.leaf p from a ks n h o e i c data_ out placed) leaves-are x k (source_at n k) refl (λ b r is row. kept-now b r row)

      old-rows : (k : ℕ) (x : Spot) → slice_get ks.nodes k ≡ Some x → row_drive p.structure keys filled x (source_at filled k) ≡ drive_with p a from o x
      old-rows k x row = elim (same-or k head) [
        | inl is ↦
            let same = one-some (OfNode edge.to) x (sym there ∙ (ap (slice_get ks.nodes) (sym is) ∙ row)) in
            ap (λ j. row_drive p.structure keys filled x (source_at filled j)) is
            ∙ (ap (row_drive p.structure keys filled x) f.gives
            ∙ (ap (λ l. driven_by (key_at keys l) (view_at p.structure filled l) out) leaf-count
            ∙ (ap (λ d. driven_by d (view_at p.structure filled last) out) (whole.key-new p from a ks n h o more filled (at_.leaf p from a ks n h o e i c data_ out placed))
            ∙ (sym drive-head ∙ ap (drive_with p a from o) same))))
        | inr ne ↦
            let less = slice_get_within ks.nodes k x row in
            ap (row_drive p.structure keys filled x) (f.others k ne ∙ gap-source k ne (λ same. omega (arith, same, less, h.nodes)))
            ∙ (row-as x k
            ∙ (h.drives k x row
            ∙ sym (whole.old-drive p from a ks n h o x (h.there k x row) (λ j is target. ne (h.apart k head (OfNode edge.to) (row ∙ ap (λ y. Some y) (is ∙ ap (λ y. OfNode y) (placed.edge.target j target))) there)))))
      ]

      new-rows : (j : ℕ) (x : Spot) → slice_get more j ≡ Some x → row_drive p.structure keys filled x (source_at filled (new + j)) ≡ drive_with p a from o x
      new-rows j x row =
          let found = one-get (Before w (length here)) j x row in
          (λ u. row_drive p.structure keys filled (found.1 u) (source_at filled (at-new j found.0 u)))
          ∙ (ap (row_drive p.structure keys filled (Before w (length here))) (f.others new (λ same. omega (arith, same, low)) ∙ gap-new)
          ∙ (row-as (Before w (length here)) head
          ∙ (any-spot p ks n (Before w (length here)) (OfNode edge.to) (source_at n head) ok
          ∙ (h.drives head (OfNode edge.to) there
          ∙ (at_.drive-target p from a ks n h o e i c data_ out placed
          ∙ (sym drive-new ∙ ap (drive_with p a from o) (sym found.1)))))))
        where
          at-new : (k : ℕ) → k ≡ 0 → new + k ≡ new
          at-new k is = omega (arith, is)

      edges-now : (b : ℕ) (y : Edge) → slice_get (edges_of p.structure) b ≡ Some y → IsEdgeHeld done keys y (edge_at filled b)
      edges-now b y row = elim (true-or (same_way w y.way)) [
        | inl same ↦
            let is = placed.edge.only b y row same in
            let its = one-some edge y (sym placed.edge.there ∙ (ap (slice_get (edges_of p.structure)) (sym is) ∙ row)) in
            subst (λ z. IsEdgeHeld done keys z (edge_at filled b)) its
            (subst (λ g. IsEdgeHeld done keys edge g) (sym ((λ u. f.edges u b) ∙ ap (edge_at gap) is)) its-edge)
        | inr no_ ↦
            whole.other-edge p from a ks n h o more filled (at_.leaf p from a ks n h o e i c data_ out placed) leaves-are b y no_ (h.edges b y row)
            ((λ u. f.edges u b) ∙ other b (λ is. true≢false (sym (way-self w) ∙ (ap (same_way w) (sym placed.edge.way ∙ ap (λ (z : Edge). z.way) (one-some edge y (sym placed.edge.there ∙ (ap (slice_get (edges_of p.structure)) (sym is) ∙ row)))) ∙ no_))))
      ]

      pub inserted : Holds p from done keys filled
      inserted =
          whole.assembled p from a ks n h o more filled (at_.leaf p from a ks n h o e i c data_ out placed) leaves-are f.sound
          (f.instances ∙ (frame-behind n h.sound e inside low).instances) (f.cells ∙ (frame-behind n h.sound e inside low).cells)
          (f.heads ∙ (frame-behind n h.sound e inside low).heads) (f.kept ∙ (frame-behind n h.sound e inside low).kept)
          e i c data_ out placed refl refl step
          (let one = f.count in let two = gap-count in omega (arith, one, two))
          (λ j x row. ap (is_there p a from) (one-get (Before w (length here)) j x row).1 ∙ ap is_some (whole.own-before p from a ks n h o w (length here) own))
          (λ j x row. ap (is_there p done from) (one-get (Before w (length here)) j x row).1 ∙ ap is_some (step p a from o (Before w (length here)) ∙ drive-new))
          (λ j k x one two. (one-get (Before w (length here)) j x one).0 ∙ sym (one-get (Before w (length here)) k x two).0)
          old-rows new-rows edges-now
          (λ l q x key. pins-now l q (let less = slice_get_within ks.leaves l (OfSource x) key in omega (arith, less, h.leaves)) ∙ read l q x key)
          (λ l q less no_. pins-now l q less ∙ taken l q no_)
          takes-now

  -- ---- the first one behind the edge: the edge leads to the new node

  module _ (none : none_behind here ≡ true) where
    leads-head : held.row.to.0 ≡ head
    leads-head = h.apart held.row.to.0 head (OfNode edge.to) (held.leads ∙ ap (λ x. Some x) (at_.end-is p from a ks n h o e i c data_ out placed ∙ end-none w 0 here (OfNode edge.to) none)) there

    by-edge : source_at n head ≡ OfEdge (record { 0 = e })
    by-edge = ap (source_at n) (sym leads-head) ∙ h.sound.wires.leads e held.row held.there

    ok-edge : is_driven (source_at n head) ≡ true
    ok-edge = ap is_driven by-edge

    turned : edge_at gap e ≡ Some (record held.row { to = record { 0 = new } })
    turned = edge-behind n h.sound e inside low e held.row by-edge held.there

    others : (b : ℕ) → (b ≡ e → ⊥) → edge_at gap b ≡ edge_at n b
    others b ne = (edited ok-edge).keeps.ways b (ap (λ s. is_its_edge s b) by-edge ∙ other-number b e ne)

    pins-stay : (l q : ℕ) → pin_at gap l q ≡ pin_at n l q
    pins-stay l q = (edited ok-edge).keeps.joins l q (ap (λ s. is_its_pin s l q) by-edge)

    pub first : Holds p from done keys filled
    first =
        inserted ok-edge
        (λ b r row. elim (same-or b e) [
          | inl is ↦ (record held.row { to = record { 0 = new } }, ap (edge_at gap) is ∙ turned, ap (λ (x : EdgeRow). x.from) (one-some held.row r (sym held.there ∙ (ap (edge_at n) (sym is) ∙ row))))
          | inr ne ↦ (r, others b ne ∙ row, refl)
        ])
        (record {
          row = record held.row { to = record { 0 = new } };
          there = turned;
          starts = whole.from-same p from a ks n h o more filled (at_.leaf p from a ks n h o e i c data_ out placed) held.row e held.there ∙ (held.starts ∙ sym starts-now);
          leads = new-there ∙ ap (λ x. Some x) (sym (at_.end-now p from a ks n h o e i c data_ out placed ∙ (end-last w 0 here o (OfNode edge.to) none behind ∙ ap (Before w) (none-plus (length here)))));
          kind = held.kind;
        })
        others (λ l q x key. pins-stay l q) (λ l q no_. pins-stay l q)
      where
        none-plus : (k : ℕ) → 0 + k ≡ k
        none-plus k = omega arith

  -- ---- behind another one: what that one drives is the new node

  module _ (some_ : none_behind here ≡ false) where
    last-drives : (m : ℕ) × (passed here w (from w) (length here) ≡ ByOperator w m)
    last-drives = passed-some here w (from w) (flow-front here (o ∷ []) (at_.flow-here p from a ks n h o e i c data_ out placed flow)) some_ (length here) refl

    by-leaf : (q : ℕ) × (l : ℕ) × (source_at n head ≡ OfLeaf q (record { 0 = l })) × ((y : Placed) → key_at ks l ≡ OfSource y → ⊥)
    by-leaf =
        by-operator p ks n (OfNode edge.to) (source_at n head) w last-drives.0
        (h.drives head (OfNode edge.to) there ∙ (at_.drive-target p from a ks n h o e i c data_ out placed ∙ ap (λ d. Some d) last-drives.1))

    ok-leaf : is_driven (source_at n head) ≡ true
    ok-leaf = ap is_driven by-leaf.2

    edges-stay : (b : ℕ) → edge_at gap b ≡ edge_at n b
    edges-stay b = (edited ok-leaf).keeps.ways b (ap (λ s. is_its_edge s b) by-leaf.2)

    -- another pin than the one that is moved
    pin-stays : (l q : ℕ) → ((l == by-leaf.1) && (q == by-leaf.0)) ≡ false → pin_at gap l q ≡ pin_at n l q
    pin-stays l q ne = (edited ok-leaf).keeps.joins l q (ap (λ s. is_its_pin s l q) by-leaf.2 ∙ ne)

    pub next : Holds p from done keys filled
    next =
        inserted ok-leaf
        (λ b r row. (r, edges-stay b ∙ row, refl))
        (record {
          row = held.row;
          there = edges-stay e ∙ held.there;
          starts = whole.from-same p from a ks n h o more filled (at_.leaf p from a ks n h o e i c data_ out placed) held.row e held.there ∙ (held.starts ∙ sym starts-now);
          leads = more-get ks.nodes more held.row.to.0 (way_end a edge) held.leads ∙ ap (λ x. Some x) (at_.end-is p from a ks n h o e i c data_ out placed ∙ sym (at_.end-now p from a ks n h o e i c data_ out placed ∙ end-kept w 0 here o (OfNode edge.to) some_));
          kind = held.kind;
        })
        (λ b ne. edges-stay b)
        (λ l q x key. pin-stays l q (not-source l q x key (l == by-leaf.1) (eqb-true l by-leaf.1)))
        (λ l q no_. pin-stays l q (not-driven l q no_))
      where
        not-source : (l q : ℕ) (x : Placed) → slice_get ks.leaves l ≡ Some (OfSource x) → (b : Bool) → (b ≡ true → l ≡ by-leaf.1) → (b && (q == by-leaf.0)) ≡ false
        not-source l q x key true is = absurd (by-leaf.3 x (ap (key_at ks) (sym (is refl)) ∙ get_or_from_slice_get ks.leaves l (OfSource x) (OfSwitch 0) key))
        not-source l q x key false is = refl

        not-driven : (l q : ℕ) → drives n l q ≡ false → ((l == by-leaf.1) && (q == by-leaf.0)) ≡ false
        not-driven l q no_ = at (l == by-leaf.1) (q == by-leaf.0) (eqb-true l by-leaf.1) (eqb-true q by-leaf.0)
          where
            at : (b d : Bool) → (b ≡ true → l ≡ by-leaf.1) → (d ≡ true → q ≡ by-leaf.0) → (b && d) ≡ false
            at true true one two = absurd (true≢false (sym (h.sound.wires.inputs head by-leaf.1 by-leaf.0 by-leaf.2) ∙ ((λ u. drives n (sym (one refl) u) (sym (two refl) u)) ∙ no_)))
            at true false one two = refl
            at false d one two = refl

  pub inserted-behind : Holds p from done keys filled
  inserted-behind = elim (true-or (none_behind here)) [ inl none ↦ first none | inr some_ ↦ next some_ ]
