-- An operator before its way's edge is put into the netlist.
use Rattle.std.proofs.Common.{◌≡◌, ◌<◌, ℕ, zero, suc, ◌+◌, Bool, true, false, ◌&&◌, ◌||◌, ◌==◌, cond, List, [], ◌∷◌, ◌++◌, length, Some, inl, inr, refl, sym, ap, ◌∙◌, subst, arith}
use Rattle.std.specs.Prelude.{not, is_some, slice_get, option_and_then}
use Rattle.std.proofs.lemmas.Bool.{true≢false}
use Rattle.std.proofs.lemmas.Option.{slice_get_within, get_or_from_slice_get}
use Rattle.lp_model.specs.declared.graph.Edge.{Edge as EdgeRow}
use Rattle.lp_model.specs.declared.graph.EdgeFrom.TheVariants.{Node as FromNode, Const as FromConst}
use Rattle.lp_model.specs.declared.graph.EdgeKind.TheVariants.{Assign}
use Rattle.lp_model.specs.declared.graph.Source.TheVariants.{Nothing, Edge as OfEdge}
use Rattle.lp_model.specs.declared.plan.AddedKind.{AddedKind}
use Rattle.lp_spec_design.specs.Keys.{Node, Inner, Outer, Fixed, Way, same_way}
use Rattle.lp_spec_design.specs.Graph.{when}
use Rattle.lp_spec_bridge.specs.Edges.{Edge, edges_of}
use Rattle.lp_spec_bridge.specs.Keyed.{is_net_bit}
use Rattle.lp_spec_bridge.proofs.Apart.{way-self}
use Rattle.lp_spec_realises.specs.Projects.{Project}
use Rattle.lp_spec_written.specs.Places.{Standing}
use Rattle.lp_spec_hub.specs.Spots.{Spot, OfNode, Behind, Before, Lead, ByOperator, FromSpot, Done, with_operator, on_way, is_behind}
use Rattle.lp_spec_hub.specs.Drives.{is_fixed, is_led, drive, drive_behind, behind_last, read_by, read_before}
use Rattle.lp_spec_hub.specs.Changes.{its_way, is_its_own, drive_with}
use Rattle.lp_spec_hub.specs.Laws.{OneMoreOperator}
use Rattle.lp_spec_hub.specs.Entries.{IsInFlow}
use Rattle.lp_spec_edits.specs.Net.{Net, source_at, edge_at, pin_at}
use Rattle.lp_spec_edits.specs.Edits.{edge_of, split_from, lead, add_cell, connect}
use Rattle.lp_spec_edits.specs.Sound.{IsSound, IsEdited, no_entry, no_pin}
use Rattle.lp_spec_edits.proofs.Wires.{put-at, put-other, same-or, other-number}
use Rattle.lp_spec_edits.proofs.Entries.{source-past}
use Rattle.lp_spec_edits.proofs.Splits.{split_from_edited, constant_led}
use Rattle.lp_spec_edits.proofs.Opened.{IsFrame, IsFilled, source-before, count-before, edge-before, frame-before, source-led, count-led, edge-led, edge-constant, frame-led, then-frame}
use Rattle.lp_spec_held.specs.Held.{OfSource, OfOperator, Spots, spot_at, key_at, from_spot, pin_spot, view_at, driven_by, row_drive, start_from, way_start, way_end, is_there, IsEdgeHeld, Holds}
use Rattle.lp_spec_held.specs.Inserted.{IsPlaced}
use Rattle.lp_spec_held.proofs.Flow.{one-some, more-get, more-new, one-get, two-get, true-or, none_behind, flow-none, start-before, start-last, end-none, end-before}
use Rattle.lp_spec_held.proofs.Assembled as whole
use Rattle.lp_spec_held.proofs.Placed as at_

module _ (p : Project) (from : Way → Node) (a : Done) (ks : Spots) (n : Net) (h : Holds p from a ks n) (o : Standing) (kind : AddedKind) (e i c data_ out : ℕ) (placed : IsPlaced p from o e i c data_ out)
    (step : OneMoreOperator) (flow : IsInFlow (with_operator a o).plan.operators) (before : is_behind o ≡ false) where
  abbrev w : Way
  w = its_way o

  abbrev ops : List Standing
  ops = a.plan.operators

  abbrev here : List Standing
  here = on_way ops w

  abbrev done : Done
  done = with_operator a o

  abbrev edge : Edge
  edge = placed.edge.edge

  abbrev inside : Bool
  inside = at_.inside p from a ks n h o e i c data_ out placed

  abbrev new : ℕ
  new = length n.nodes

  abbrev last : ℕ
  last = length n.leaves

  pub held : IsEdgeHeld a ks edge (edge_at n e)
  held = at_.held p from a ks n h o e i c data_ out placed

  none : none_behind here ≡ true
  none = flow-none here o (at_.flow-here p from a ks n h o e i c data_ out placed flow) before

  ends : way_end a edge ≡ OfNode edge.to
  ends = at_.end-is p from a ks n h o e i c data_ out placed ∙ end-none w 0 here (OfNode edge.to) none

  ends-now : way_end done edge ≡ way_end a edge
  ends-now = at_.end-now p from a ks n h o e i c data_ out placed ∙ (end-before w 0 here o (OfNode edge.to) before ∙ sym (at_.end-is p from a ks n h o e i c data_ out placed))

  starts-now : way_start done edge ≡ Behind w (length here)
  starts-now = at_.start-now p from a ks n h o e i c data_ out placed ∙ (start-before w 0 here o (OfNode (from w)) before ∙ ap (Behind w) (none-plus (length here)))
    where
      none-plus : (k : ℕ) → 0 + k ≡ k
      none-plus k = omega arith

  by-edge : source_at n held.row.to.0 ≡ OfEdge (record { 0 = e })
  by-edge = h.sound.wires.leads e held.row held.there

  own : is_its_own a o w (length here) ≡ true
  own = whole.same-self w (length here)

  drive-own : drive_with p a from o (Behind w (length here)) ≡ Some (ByOperator w (length here))
  drive-own =
      ap (λ b. cond b (drive_behind w (length here) (Some o)) (drive p a from (Behind w (length here)))) own
      ∙ ap (λ b. when (not b) (ByOperator w (length here))) before

  drive-target : drive_with p a from o (OfNode edge.to) ≡ Some (FromSpot (Behind w (length here)))
  drive-target =
      ap (λ b. cond b (Some (behind_last w (length here) (Some o))) (drive p a from (OfNode edge.to))) (at_.target-true p from a ks n h o e i c data_ out placed)
      ∙ ap (λ b. Some (cond b (ByOperator w (length here)) (FromSpot (Behind w (length here))))) before

  abbrev pub fill_in : Net → ℕ → ℕ → Net
  fill_in gap g0 g1 = connect (connect (add_cell gap i c kind) (length gap.leaves) data_ g0) (length gap.leaves) out g1

  abbrev pub with_more : List Spot → Spots
  with_more more = record { nodes = ks.nodes ++ more; leaves = ks.leaves ++ (OfOperator w (length here) ∷ []) }

  new-spot : (more : List Spot) (j : ℕ) (x : Spot) → slice_get more j ≡ Some x → spot_at (with_more more) (new + j) ≡ x
  new-spot more j x row =
      get_or_from_slice_get (ks.nodes ++ more) (new + j) x (OfNode (Fixed false))
      (ap (λ k. slice_get (ks.nodes ++ more) (k + j)) h.nodes ∙ (more-new ks.nodes more j ∙ row))

  filling : (gap : Net) (g0 g1 : ℕ) → IsFrame n gap → IsSound gap → g0 < length gap.nodes → g1 < length gap.nodes → source_at gap g1 ≡ Nothing → IsFilled gap (fill_in gap g0 g1) i c data_ out g0 g1
  filling gap g0 g1 frame sound first second open_ = at_.fill p from a ks n h o e i c data_ out placed kind gap frame sound g0 g1 first second open_

  -- ---- what the netlists with a gap have in common: the edge comes from the node that the operator drives

  module _ (more : List Spot) (gap : Net) (g0 g1 j1 : ℕ) (frame : IsFrame n gap) (sound : IsSound gap) (count : length gap.nodes ≡ new + length more)
      (first : g0 < length gap.nodes) (second : g1 < length gap.nodes) (open_ : source_at gap g1 ≡ Nothing)
      (place : g1 ≡ new + j1) (stands : slice_get more j1 ≡ Some (Behind w (length here)))
      (sources : (k : ℕ) → k < new → source_at gap k ≡ source_at n k)
      (its-edge : edge_at gap e ≡ Some (record held.row { from = FromNode (record { 0 = g1 }) }))
      (others : (b : ℕ) (r : EdgeRow) → edge_at n b ≡ Some r → (b ≡ e → ⊥) → edge_at gap b ≡ edge_at n b)
      (pins : (l q : ℕ) → pin_at gap l q ≡ pin_at n l q) where
    abbrev filled : Net
    filled = fill_in gap g0 g1

    abbrev keys : Spots
    keys = with_more more

    f : IsFilled gap filled i c data_ out g0 g1
    f = filling gap g0 g1 frame sound first second open_

    leaf-count : length gap.leaves ≡ last
    leaf-count = ap length frame.leaves

    leaves-are : filled.leaves ≡ n.leaves ++ (at_.leaf p from a ks n h o e i c data_ out placed ∷ [])
    leaves-are = f.leaves ∙ ap (λ ls. ls ++ (at_.leaf p from a ks n h o e i c data_ out placed ∷ [])) frame.leaves

    gap-spot : spot_at keys g1 ≡ Behind w (length here)
    gap-spot = ap (spot_at keys) place ∙ new-spot more j1 (Behind w (length here)) stands

    edge-now : edge_at filled e ≡ Some (record held.row { from = FromNode (record { 0 = g1 }) })
    edge-now = (λ u. f.edges u e) ∙ its-edge

    row-operator : (x : Spot) → row_drive p.structure keys filled x (source_at filled g1) ≡ Some (ByOperator w (length here))
    row-operator x =
        ap (row_drive p.structure keys filled x) f.gives
        ∙ (ap (λ l. driven_by (key_at keys l) (view_at p.structure filled l) out) leaf-count
        ∙ ap (λ d. driven_by d (view_at p.structure filled last) out) (whole.key-new p from a ks n h o more filled (at_.leaf p from a ks n h o e i c data_ out placed)))

    still : (k : ℕ) → k < new → source_at filled k ≡ source_at n k
    still k less = f.others k (λ is. omega (arith, is, less, place)) ∙ sources k less

    old-rows : (k : ℕ) (x : Spot) → slice_get ks.nodes k ≡ Some x → row_drive p.structure keys filled x (source_at filled k) ≡ drive_with p a from o x
    old-rows k x row = elim (same-or k held.row.to.0) [
      | inl is ↦
          let leads = held.leads ∙ ap (λ y. Some y) ends in
          let same = one-some (OfNode edge.to) x (sym leads ∙ (ap (slice_get ks.nodes) (sym is) ∙ row)) in
          ap (row_drive p.structure keys filled x) (still k less ∙ (ap (source_at n) is ∙ by-edge))
          ∙ (ap (option_and_then (λ (r : EdgeRow). Some (FromSpot (from_spot keys r.from)))) edge-now
          ∙ (ap (λ y. Some (FromSpot y)) gap-spot
          ∙ (sym drive-target ∙ ap (drive_with p a from o) same)))
      | inr ne ↦
          ap (row_drive p.structure keys filled x) (still k less)
          ∙ (whole.row-same p from a ks n h o more filled (at_.leaf p from a ks n h o e i c data_ out placed) leaves-are x k (source_at n k) refl
          (λ b r is there. (r, (λ u. f.edges u b) ∙ (others b r there (λ same. ne (leads-here b is same)) ∙ there), refl))
          ∙ (h.drives k x row
          ∙ sym (whole.old-drive p from a ks n h o x (h.there k x row)
          (λ j is target. ne (h.apart k held.row.to.0 (OfNode edge.to) (row ∙ ap (λ y. Some y) (is ∙ ap (λ y. OfNode y) (placed.edge.target j target))) (held.leads ∙ ap (λ y. Some y) ends))))))
    ]
      where
        less : k < new
        less = let low = slice_get_within ks.nodes k x row in omega (arith, low, h.nodes)

        leads-here : (b : ℕ) → source_at n k ≡ OfEdge (record { 0 = b }) → b ≡ e → k ≡ held.row.to.0
        leads-here b is same =
            let its = h.sound.wires.by_edge k b is in
            sym its.2 ∙ ap (λ (r : EdgeRow). r.to.0) (one-some its.0 held.row (sym its.1 ∙ (ap (edge_at n) same ∙ held.there)))

    edges-now : (b : ℕ) (y : Edge) → slice_get (edges_of p.structure) b ≡ Some y → IsEdgeHeld done keys y (edge_at filled b)
    edges-now b y row = elim (true-or (same_way w y.way)) [
      | inl same ↦
          let is = placed.edge.only b y row same in
          let its = one-some edge y (sym placed.edge.there ∙ (ap (slice_get (edges_of p.structure)) (sym is) ∙ row)) in
          subst (λ z. IsEdgeHeld done keys z (edge_at filled b)) its (subst (λ g. IsEdgeHeld done keys edge (edge_at filled g)) (sym is) (record {
            row = record held.row { from = FromNode (record { 0 = g1 }) };
            there = edge-now;
            starts = gap-spot ∙ sym starts-now;
            leads = more-get ks.nodes more held.row.to.0 (way_end a edge) held.leads ∙ ap (λ x. Some x) (sym ends-now);
            kind = held.kind;
          }))
      | inr no_ ↦
          whole.other-edge p from a ks n h o more filled (at_.leaf p from a ks n h o e i c data_ out placed) leaves-are b y no_ (h.edges b y row)
          ((λ u. f.edges u b) ∙ others b (h.edges b y row).row (h.edges b y row).there
          (λ is. true≢false (sym (way-self w) ∙ (ap (same_way w) (sym placed.edge.way ∙ ap (λ (z : Edge). z.way) (one-some edge y (sym placed.edge.there ∙ (ap (slice_get (edges_of p.structure)) (sym is) ∙ row)))) ∙ no_))))
    ]

    module _ (fresh : (j : ℕ) (x : Spot) → slice_get more j ≡ Some x → is_there p a from x ≡ false)
        (made : (j : ℕ) (x : Spot) → slice_get more j ≡ Some x → is_there p done from x ≡ true)
        (distinct : (j k : ℕ) (x : Spot) → slice_get more j ≡ Some x → slice_get more k ≡ Some x → j ≡ k)
        (lead-rows : (j : ℕ) (x : Spot) → slice_get more j ≡ Some x → (j ≡ j1 → ⊥) → row_drive p.structure keys filled x (source_at filled (new + j)) ≡ drive_with p a from o x)
        (takes : spot_at keys g0 ≡ read_before w (from w) (length here)) where
      new-rows : (j : ℕ) (x : Spot) → slice_get more j ≡ Some x → row_drive p.structure keys filled x (source_at filled (new + j)) ≡ drive_with p a from o x
      new-rows j x row = elim (same-or j j1) [
        | inl is ↦
            let same = one-some (Behind w (length here)) x (sym stands ∙ (ap (slice_get more) (sym is) ∙ row)) in
            ap (λ k. row_drive p.structure keys filled x (source_at filled k)) (ap (λ k. new + k) is ∙ sym place)
            ∙ (row-operator x ∙ (sym drive-own ∙ ap (drive_with p a from o) same))
        | inr ne ↦ lead-rows j x row ne
      ]

      takes-now : pin_spot keys (pin_at filled last data_) ≡ Some (read_by w (from w) (length here) o)
      takes-now =
          ap (λ l. pin_spot keys (pin_at filled l data_)) (sym leaf-count)
          ∙ (ap (pin_spot keys) f.takes
          ∙ (ap (λ x. Some x) takes
          ∙ sym (ap (λ b. Some (cond b (Before w (length here)) (read_before w (from w) (length here)))) before)))

      pins-now : (l q : ℕ) → l < last → pin_at filled l q ≡ pin_at n l q
      pins-now l q less = f.pins l q (let size = leaf-count in omega (arith, size, less)) ∙ pins l q

      inserted : Holds p from done keys filled
      inserted =
          whole.assembled p from a ks n h o more filled (at_.leaf p from a ks n h o e i c data_ out placed) leaves-are f.sound
          (f.instances ∙ frame.instances) (f.cells ∙ frame.cells) (f.heads ∙ frame.heads) (f.kept ∙ frame.kept)
          e i c data_ out placed refl refl step (f.count ∙ count) fresh made distinct old-rows new-rows edges-now
          (λ l q x key. pins-now l q (let less = slice_get_within ks.leaves l (OfSource x) key in omega (arith, less, h.leaves)))
          (λ l q less no_. pins-now l q less)
          takes-now

  none-there : is_there p a from (Behind w (length here)) ≡ false
  none-there = ap is_some (whole.own-behind p from a ks n h o w (length here) own)

  made-there : is_there p done from (Behind w (length here)) ≡ true
  made-there = ap is_some (step p a from o (Behind w (length here)) ∙ drive-own)

  -- ---- an edge that comes from a node

  module _ (j : ℕ) (comes : held.row.from ≡ FromNode (record { 0 = j })) where
    abbrev more_one : List Spot
    more_one = Behind w (length here) ∷ []

    abbrev gap_one : Net
    gap_one = split_from n e inside j

    one-edited : IsEdited no_entry (λ b. b == e) no_pin n gap_one
    one-edited = split_from_edited n h.sound e j inside held.row held.there

    one-count : length gap_one.nodes ≡ suc new
    one-count = count-before n h.sound e j inside held.row held.there

    low : j < new
    low = (h.sound.wires.edges e held.row held.there).begins j comes

    start : spot_at ks j ≡ way_start a edge
    start = sym (ap (from_spot ks) comes) ∙ held.starts

    empty : (xs : List Standing) → length xs ≡ 0 → xs ≡ []
    empty [] g = refl
    empty (x ∷ xs) g = absurd (omega (arith, g))

    start-first : length here ≡ 0 → spot_at ks j ≡ OfNode (from w)
    start-first size = start ∙ (at_.start-is p from a ks n h o e i c data_ out placed ∙ ap (λ xs. start_from w 0 xs (OfNode (from w))) (empty here size))

    -- it is no constant where the operator is the first one
    pub first-bit : length here ≡ 0 → is_fixed (from w) ≡ false
    first-bit size = not-fixed (from w) (ap (is_there p a from) (sym (start-first size)) ∙ h.there j (spot_at ks j) (whole.spot-there p from a ks n h o j low))
      where
        not-fixed : (k : Node) → is_net_bit k ≡ true → is_fixed k ≡ false
        not-fixed (Inner u v x) g = refl
        not-fixed (Outer u v) g = refl
        not-fixed (Fixed b) g = absurd (true≢false (sym g))

    reads : spot_at ks j ≡ read_before w (from w) (length here)
    reads = by (length here) refl
      where
        by : (m : ℕ) → length here ≡ m → spot_at ks j ≡ read_before w (from w) m
        by zero size = start-first size ∙ sym (ap (λ b. cond b (Lead w) (OfNode (from w))) (first-bit size))
        by (suc m) size = start ∙ (at_.start-is p from a ks n h o e i c data_ out placed ∙ (start-last w 0 here (OfNode (from w)) m none size ∙ ap (Behind w) (none-plus m)))
          where
            none-plus : (k : ℕ) → 0 + k ≡ k
            none-plus k = omega arith

    pub from-node : Holds p from done (with_more more_one) (fill_in gap_one j new)
    from-node =
        inserted more_one gap_one j new 0 (frame-before n h.sound e j inside held.row held.there) one-edited.sound (let size = one-count in omega (arith, size))
        (let size = one-count in let under = low in omega (arith, size, under)) (let size = one-count in omega (arith, size))
        ((λ u. source-before n h.sound e j inside held.row held.there u new) ∙ source-past n)
        (omega arith) refl
        (λ k less u. source-before n h.sound e j inside held.row held.there u k)
        (edge-before n h.sound e j inside held.row held.there)
        (λ b r there ne. one-edited.keeps.ways b (other-number b e ne))
        (λ l q. one-edited.keeps.joins l q refl)
        (λ k x row. ap (is_there p a from) (one-get (Behind w (length here)) k x row).1 ∙ none-there)
        (λ k x row. ap (is_there p done from) (one-get (Behind w (length here)) k x row).1 ∙ made-there)
        (λ k m x one two. (one-get (Behind w (length here)) k x one).0 ∙ sym (one-get (Behind w (length here)) m x two).0)
        (λ k x row ne. absurd (ne (one-get (Behind w (length here)) k x row).0))
        (whole.spot-same p from a ks n h o more_one gap_one (at_.leaf p from a ks n h o e i c data_ out placed) j low ∙ reads)

  -- ---- an edge that comes from a constant

  module _ (b : Bool) (comes : held.row.from ≡ FromConst b) where
    abbrev more_two : List Spot
    more_two = Lead w ∷ Behind w (length here) ∷ []

    abbrev led : Net
    led = lead n e b

    abbrev gap_two : Net
    gap_two = split_from led e inside new

    abbrev lead_row : EdgeRow
    lead_row = record held.row { from = FromNode (record { 0 = new }) }

    start-fixed : OfNode (Fixed b) ≡ start_from w 0 here (OfNode (from w))
    start-fixed = sym (ap (from_spot ks) comes) ∙ (held.starts ∙ at_.start-is p from a ks n h o e i c data_ out placed)

    pub first-one : length here ≡ 0
    first-one = by (length here) refl
      where
        by : (m : ℕ) → length here ≡ m → m ≡ 0
        by zero size = refl
        by (suc m) size = absurd (no-node m (start-fixed ∙ start-last w 0 here (OfNode (from w)) m none size))
          where
            no-node : (k : ℕ) → OfNode (Fixed b) ≡ Behind w (0 + k) → ⊥
            no-node k g = cc

    pub comes-fixed : from w ≡ Fixed b
    comes-fixed = sym (ap node_in (start-fixed ∙ ap (λ xs. start_from w 0 xs (OfNode (from w))) (none-in here first-one)))
      where
        node_in : Spot → Node
        node_in (OfNode k) = k
        node_in _ = Fixed b

        none-in : (xs : List Standing) → length xs ≡ 0 → xs ≡ []
        none-in [] g = refl
        none-in (x ∷ xs) g = absurd (omega (arith, g))

    own-first : is_its_own a o w 0 ≡ true
    own-first = ap (is_its_own a o w) (sym first-one) ∙ own

    drive-lead : drive_with p a from o (Lead w) ≡ Some (FromSpot (OfNode (from w)))
    drive-lead =
        ap (λ d. cond d (when (is_led (from w) (Some o)) (FromSpot (OfNode (from w)))) (drive p a from (Lead w))) own-first
        ∙ (ap (λ d. when (not d && is_fixed (from w)) (FromSpot (OfNode (from w)))) before
        ∙ ap (λ k. when (is_fixed k) (FromSpot (OfNode (from w)))) comes-fixed)

    led-edited : IsEdited (λ j. j == new) (λ d. (d == e) || (d == length n.edges)) no_pin n led
    led-edited = constant_led n h.sound e b held.row held.there

    led-there : edge_at led e ≡ Some lead_row
    led-there = edge-led n h.sound e b held.row held.there

    pub led-count : length led.nodes ≡ suc new
    led-count = count-led n h.sound e b held.row held.there

    two-edited : IsEdited no_entry (λ d. d == e) no_pin led gap_two
    two-edited = split_from_edited led led-edited.sound e new inside lead_row led-there

    two-count : length gap_two.nodes ≡ suc (length led.nodes)
    two-count = count-before led led-edited.sound e new inside lead_row led-there

    two-source : (k : ℕ) → source_at gap_two k ≡ source_at led k
    two-source k = λ u. source-before led led-edited.sound e new inside lead_row led-there u k

    pub two-frame : IsFrame n gap_two
    two-frame = then-frame n led gap_two (frame-led n h.sound e b held.row held.there) (frame-before led led-edited.sound e new inside lead_row led-there)

    -- the number of the constant's edge is new
    past : (d : ℕ) (r : EdgeRow) → edge_at n d ≡ Some r → d ≡ length n.edges → ⊥
    past d r there is = let low_ = slice_get_within n.edges d r there in omega (arith, low_, is)

    others-two : (d : ℕ) (r : EdgeRow) → edge_at n d ≡ Some r → (d ≡ e → ⊥) → edge_at gap_two d ≡ edge_at n d
    others-two d r there ne =
        two-edited.keeps.ways d (other-number d e ne)
        ∙ led-edited.keeps.ways d (ap (λ x. x || (d == length n.edges)) (other-number d e ne) ∙ other-number d (length n.edges) (past d r there))

    first-low : new < length gap_two.nodes
    first-low = let one = led-count in let two = two-count in omega (arith, one, two)

    second-low : length led.nodes < length gap_two.nodes
    second-low = let two = two-count in omega (arith, two)

    open-two : source_at gap_two (length led.nodes) ≡ Nothing
    open-two = two-source (length led.nodes) ∙ source-past led

    f-two : IsFilled gap_two (fill_in gap_two new (length led.nodes)) i c data_ out new (length led.nodes)
    f-two = filling gap_two new (length led.nodes) two-frame two-edited.sound first-low second-low open-two

    lead-source : source_at (fill_in gap_two new (length led.nodes)) new ≡ OfEdge (record { 0 = length n.edges })
    lead-source =
        f-two.others new (λ is. let one = led-count in omega (arith, is, one))
        ∙ (two-source new
        ∙ ((λ u. source-led n h.sound e b held.row held.there u new) ∙ put-at new (OfEdge (record { 0 = length n.edges })) (source_at n) new refl))

    lead-edge : edge_at (fill_in gap_two new (length led.nodes)) (length n.edges) ≡ Some (edge_of (FromConst b) new Assign)
    lead-edge =
        (λ u. f-two.edges u (length n.edges))
        ∙ (two-edited.keeps.ways (length n.edges) (other-number (length n.edges) e (λ is. past e held.row held.there (sym is)))
        ∙ edge-constant n h.sound e b held.row held.there)

    row-lead : row_drive p.structure (with_more more_two) (fill_in gap_two new (length led.nodes)) (Lead w) (source_at (fill_in gap_two new (length led.nodes)) new) ≡ Some (FromSpot (OfNode (Fixed b)))
    row-lead =
        ap (row_drive p.structure (with_more more_two) (fill_in gap_two new (length led.nodes)) (Lead w)) lead-source
        ∙ ap (option_and_then (λ (r : EdgeRow). Some (FromSpot (from_spot (with_more more_two) r.from)))) lead-edge

    fresh-two : (j : ℕ) (x : Spot) → slice_get more_two j ≡ Some x → is_there p a from x ≡ false
    fresh-two j x row = elim (two-get (Lead w) (Behind w (length here)) j x row) [
      | inl is ↦ ap (is_there p a from) is.1 ∙ ap is_some (whole.own-lead p from a ks n h o w own-first)
      | inr is ↦ ap (is_there p a from) is.1 ∙ none-there
    ]

    made-two : (j : ℕ) (x : Spot) → slice_get more_two j ≡ Some x → is_there p done from x ≡ true
    made-two j x row = elim (two-get (Lead w) (Behind w (length here)) j x row) [
      | inl is ↦ ap (is_there p done from) is.1 ∙ ap is_some (step p a from o (Lead w) ∙ drive-lead)
      | inr is ↦ ap (is_there p done from) is.1 ∙ made-there
    ]

    lead-own : Lead w ≡ Behind w (length here) → ⊥
    lead-own g = cc

    distinct-two : (j k : ℕ) (x : Spot) → slice_get more_two j ≡ Some x → slice_get more_two k ≡ Some x → j ≡ k
    distinct-two j k x one two = elim (two-get (Lead w) (Behind w (length here)) j x one) [
      | inl is ↦ elim (two-get (Lead w) (Behind w (length here)) k x two) [ inl at ↦ is.0 ∙ sym at.0 | inr at ↦ absurd (lead-own (sym is.1 ∙ at.1)) ]
      | inr is ↦ elim (two-get (Lead w) (Behind w (length here)) k x two) [ inl at ↦ absurd (lead-own (sym at.1 ∙ is.1)) | inr at ↦ is.0 ∙ sym at.0 ]
    ]

    lead-rows-two : (j : ℕ) (x : Spot) → slice_get more_two j ≡ Some x → (j ≡ 1 → ⊥)
        → row_drive p.structure (with_more more_two) (fill_in gap_two new (length led.nodes)) x (source_at (fill_in gap_two new (length led.nodes)) (new + j)) ≡ drive_with p a from o x
    lead-rows-two j x row ne = elim (two-get (Lead w) (Behind w (length here)) j x row) [
      | inl is ↦
          (λ u. row_drive p.structure (with_more more_two) (fill_in gap_two new (length led.nodes)) (is.1 u) (source_at (fill_in gap_two new (length led.nodes)) (at-first j is.0 u)))
          ∙ (row-lead ∙ (ap (λ k. Some (FromSpot (OfNode k))) (sym comes-fixed) ∙ (sym drive-lead ∙ ap (drive_with p a from o) (sym is.1))))
      | inr is ↦ absurd (ne is.0)
    ]
      where
        at-first : (k : ℕ) → k ≡ 0 → new + k ≡ new
        at-first k at = omega (arith, at)

    takes-two : spot_at (with_more more_two) new ≡ read_before w (from w) (length here)
    takes-two =
        ap (spot_at (with_more more_two)) (plus-none new)
        ∙ (new-spot more_two 0 (Lead w) refl
        ∙ sym (ap (read_before w (from w)) first-one ∙ ap (λ k. cond (is_fixed k) (Lead w) (OfNode (from w))) comes-fixed))
      where
        plus-none : (k : ℕ) → k ≡ k + 0
        plus-none k = omega arith

    pub from-constant : Holds p from done (with_more more_two) (fill_in gap_two new (length led.nodes))
    from-constant =
        inserted more_two gap_two new (length led.nodes) 1 two-frame two-edited.sound (let one = led-count in let two = two-count in omega (arith, one, two))
        first-low second-low open-two (let one = led-count in omega (arith, one)) refl
        (λ k less. two-source k ∙ ((λ u. source-led n h.sound e b held.row held.there u k) ∙ put-other new (OfEdge (record { 0 = length n.edges })) (source_at n) k (λ is. omega (arith, is, less))))
        (edge-before led led-edited.sound e new inside lead_row led-there)
        others-two (λ l q. two-edited.keeps.joins l q refl ∙ led-edited.keeps.joins l q refl)
        fresh-two made-two distinct-two lead-rows-two takes-two
