-- What a gap in an edge, and a cell in it, leave at the entries that they change.
use Rattle.std.proofs.Common.{◌≡◌, ◌<◌, ℕ, suc, Bool, true, false, ◌==◌, ◌&&◌, cond, List, [], ◌∷◌, ◌++◌, map, length, replicate, get_or, Some, refl, sym, ap, ◌∙◌, subst, arith}
use Rattle.std.proofs.lemmas.Bool.{eq-eqb}
use Rattle.std.proofs.lemmas.List.{get_or_past, length-replicate, map-append, length-map}
use Rattle.lp_model.specs.declared.graph.Edge.{Edge as EdgeRow}
use Rattle.lp_model.specs.declared.graph.EdgeFrom.TheVariants.{Node as FromNode, Const as FromConst}
use Rattle.lp_model.specs.declared.graph.EdgeKind.TheVariants.{Assign}
use Rattle.lp_model.specs.declared.graph.Leaf.{Leaf}
use Rattle.lp_model.specs.declared.graph.NodeName.TheVariants.{Added}
use Rattle.lp_model.specs.declared.graph.PinNet.{PinNet}
use Rattle.lp_model.specs.declared.graph.PinNet.TheVariants.{Unconnected, Node as PinNode}
use Rattle.lp_model.specs.declared.graph.Source.{Source as SourceRow}
use Rattle.lp_model.specs.declared.graph.Source.TheVariants.{Nothing, Env, Leaf as OfLeaf, Edge as OfEdge}
use Rattle.lp_model.specs.declared.graph.WireKind.TheVariants.{Chain, SwitchOutput}
use Rattle.lp_model.specs.declared.plan.AddedKind.{AddedKind}
use Rattle.lp_spec_edits.specs.Net.{Net, cell_pins, pin_count, outputs_of, source_at, edge_at, pin_at, drives}
use Rattle.lp_spec_edits.specs.Edits.{changed, driven, pinned, led_from, with_edge, node_of, edge_of, named, name_at, number_at, next_number, names_passed, open_node, lead_over, head_at, gap_inst, split_behind, split_from, lead, add_cell, connect}
use Rattle.lp_spec_edits.specs.Sound.{IsSound, is_pin}
use Rattle.lp_spec_edits.proofs.Wires.{put, put-at, put-other, other-number}
use Rattle.lp_spec_edits.proofs.Entries.{source-driven, count-driven, source-named, count-named, edge-with, edge-past, edge-from, edge-to, pin-pinned, length-changed, changed-at, more-at, one-more}
use Rattle.lp_spec_edits.proofs.Edited.{none-there, source-opened, connected}
use Rattle.lp_spec_edits.proofs.Joined.{cell_added}

-- ---- what gaps leave as it is

pub record IsFrame (n m : Net) : Type 0 where
  pub instances : m.instances ≡ n.instances
  pub leaves : m.leaves ≡ n.leaves
  pub cells : m.cells ≡ n.cells
  pub heads : m.heads ≡ n.heads
  pub kept : m.kept ≡ n.kept

same-frame : (n : Net) → IsFrame n n
same-frame n = record { instances = refl; leaves = refl; cells = refl; heads = refl; kept = refl }

passed-frame : (inside : Bool) (i beside new : ℕ) (n : Net) → IsFrame n (names_passed inside i beside new n)
passed-frame true i beside new n = record { instances = refl; leaves = refl; cells = refl; heads = refl; kept = refl }
passed-frame false i beside new n = record { instances = refl; leaves = refl; cells = refl; heads = refl; kept = refl }

over-frame : (s : SourceRow) (k : ℕ) (n : Net) → IsFrame n (lead_over s k n)
over-frame Nothing k n = record { instances = refl; leaves = refl; cells = refl; heads = refl; kept = refl }
over-frame Env k n = record { instances = refl; leaves = refl; cells = refl; heads = refl; kept = refl }
over-frame (OfLeaf q l) k n = record { instances = refl; leaves = refl; cells = refl; heads = refl; kept = refl }
over-frame (OfEdge e) k n = record { instances = refl; leaves = refl; cells = refl; heads = refl; kept = refl }

pub then-frame : (n m r : Net) → IsFrame n m → IsFrame m r → IsFrame n r
then-frame n m r one two = record {
  instances = two.instances ∙ one.instances;
  leaves = two.leaves ∙ one.leaves;
  cells = two.cells ∙ one.cells;
  heads = two.heads ∙ one.heads;
  kept = two.kept ∙ one.kept;
}

passed-source : (inside : Bool) (i beside new : ℕ) (n : Net) → source_at (names_passed inside i beside new n) ≡ source_at n
passed-source true i beside new n = source-named (named beside (Added Chain) (next_number n i Chain) n) new (name_at n beside) (number_at n beside) ∙ source-named n beside (Added Chain) (next_number n i Chain)
passed-source false i beside new n = source-named n new (Added Chain) (next_number n i Chain)

passed-count : (inside : Bool) (i beside new : ℕ) (n : Net) → length (names_passed inside i beside new n).nodes ≡ length n.nodes
passed-count true i beside new n = count-named (named beside (Added Chain) (next_number n i Chain) n) new (name_at n beside) (number_at n beside) ∙ count-named n beside (Added Chain) (next_number n i Chain)
passed-count false i beside new n = count-named n new (Added Chain) (next_number n i Chain)

passed-edge : (inside : Bool) (i beside new : ℕ) (n : Net) → edge_at (names_passed inside i beside new n) ≡ edge_at n
passed-edge true i beside new n = refl
passed-edge false i beside new n = refl

over-source : (s : SourceRow) (k : ℕ) (n : Net) → k < length n.nodes → source_at (lead_over s k n) ≡ put k s (source_at n)
over-source Nothing k n low = source-driven n k Nothing low
over-source Env k n low = source-driven n k Env low
over-source (OfLeaf q l) k n low = source-driven (pinned l.0 q (PinNode (record { 0 = k })) n) k (OfLeaf q l) low
over-source (OfEdge e) k n low = source-driven n k (OfEdge e) low

over-count : (s : SourceRow) (k : ℕ) (n : Net) → length (lead_over s k n).nodes ≡ length n.nodes
over-count Nothing k n = count-driven n k Nothing
over-count Env k n = count-driven n k Env
over-count (OfLeaf q l) k n = count-driven (pinned l.0 q (PinNode (record { 0 = k })) n) k (OfLeaf q l)
over-count (OfEdge e) k n = count-driven n k (OfEdge e)

module _ (n : Net) (h : IsSound n) where
  wide-count : (i : ℕ) → length (open_node i n).nodes ≡ suc (length n.nodes)
  wide-count i = one-more (node_of i (Added (SwitchOutput 0)) Nothing) n.nodes

  wide-source : (i : ℕ) → source_at (open_node i n) ≡ source_at n
  wide-source i = source-opened n h i (Added (SwitchOutput 0)) 0

  -- ---- behind an edge

  module _ (e : ℕ) (inside : Bool) (low : head_at n e < length n.nodes) where
    abbrev head : ℕ
    head = head_at n e

    abbrev wide : Net
    wide = open_node (gap_inst n e inside) n

    abbrev freed : Net
    freed = driven head Nothing wide

    abbrev over : Net
    over = lead_over (source_at n head) (length n.nodes) freed

    freed-count : length freed.nodes ≡ suc (length n.nodes)
    freed-count = count-driven wide head Nothing ∙ wide-count (gap_inst n e inside)

    pub source-behind : source_at (split_behind n e inside) ≡ put (length n.nodes) (source_at n head) (put head Nothing (source_at n))
    source-behind =
        passed-source inside (gap_inst n e inside) head (length n.nodes) over
        ∙ (over-source (source_at n head) (length n.nodes) freed (omega (arith, freed-count))
        ∙ ap (put (length n.nodes) (source_at n head))
        (source-driven wide head Nothing (omega (arith, low, wide-count (gap_inst n e inside))) ∙ ap (put head Nothing) (wide-source (gap_inst n e inside))))

    pub count-behind : length (split_behind n e inside).nodes ≡ suc (length n.nodes)
    count-behind = passed-count inside (gap_inst n e inside) head (length n.nodes) over ∙ (over-count (source_at n head) (length n.nodes) freed ∙ freed-count)

    pub edge-behind : (a : ℕ) (x : EdgeRow) → source_at n head ≡ OfEdge (record { 0 = a }) → edge_at n a ≡ Some x → edge_at (split_behind n e inside) a ≡ Some (record x { to = record { 0 = length n.nodes } })
    edge-behind a x is there =
        (λ u. passed-edge inside (gap_inst n e inside) head (length n.nodes) over u a)
        ∙ (ap (λ s. edge_at (lead_over s (length n.nodes) freed) a) is
        ∙ ((λ u. edge-to freed a (length n.nodes) x there u a) ∙ put-at a (Some (record x { to = record { 0 = length n.nodes } })) (edge_at n) a refl))

    pub frame-behind : IsFrame n (split_behind n e inside)
    frame-behind =
        then-frame n over (split_behind n e inside)
        (then-frame n freed over (record { instances = refl; leaves = refl; cells = refl; heads = refl; kept = refl }) (over-frame (source_at n head) (length n.nodes) freed))
        (passed-frame inside (gap_inst n e inside) head (length n.nodes) over)

  -- ---- before an edge

  module _ (e j : ℕ) (inside : Bool) (x : EdgeRow) (there : edge_at n e ≡ Some x) where
    abbrev led : Net
    led = led_from e (FromNode (record { 0 = length n.nodes })) (open_node (gap_inst n e inside) n)

    pub source-before : source_at (split_from n e inside j) ≡ source_at n
    source-before = passed-source inside (gap_inst n e inside) j (length n.nodes) led ∙ wide-source (gap_inst n e inside)

    pub count-before : length (split_from n e inside j).nodes ≡ suc (length n.nodes)
    count-before = passed-count inside (gap_inst n e inside) j (length n.nodes) led ∙ wide-count (gap_inst n e inside)

    pub edge-before : edge_at (split_from n e inside j) e ≡ Some (record x { from = FromNode (record { 0 = length n.nodes }) })
    edge-before =
        (λ u. passed-edge inside (gap_inst n e inside) j (length n.nodes) led u e)
        ∙ ((λ u. edge-from (open_node (gap_inst n e inside) n) e (FromNode (record { 0 = length n.nodes })) x there u e) ∙ put-at e (Some (record x { from = FromNode (record { 0 = length n.nodes }) })) (edge_at n) e refl)

    pub frame-before : IsFrame n (split_from n e inside j)
    frame-before =
        then-frame n led (split_from n e inside j) (record { instances = refl; leaves = refl; cells = refl; heads = refl; kept = refl })
        (passed-frame inside (gap_inst n e inside) j (length n.nodes) led)

  -- ---- a constant's own net

  module _ (e : ℕ) (b : Bool) (x : EdgeRow) (there : edge_at n e ≡ Some x) where
    abbrev i : ℕ
    i = gap_inst n e false

    abbrev made : Net
    made = named (length n.nodes) (Added Chain) (next_number n i Chain) (open_node i n)

    abbrev from_made : Net
    from_made = led_from e (FromNode (record { 0 = length n.nodes })) made

    abbrev y : EdgeRow
    y = edge_of (FromConst b) (length n.nodes) Assign

    made-count : length made.nodes ≡ suc (length n.nodes)
    made-count = count-named (open_node i n) (length n.nodes) (Added Chain) (next_number n i Chain) ∙ wide-count i

    edge-count : length from_made.edges ≡ length n.edges
    edge-count = length-changed (λ (u : EdgeRow). record u { from = FromNode (record { 0 = length n.nodes }) }) e n.edges

    pub source-led : source_at (lead n e b) ≡ put (length n.nodes) (OfEdge (record { 0 = length n.edges })) (source_at n)
    source-led =
        source-driven (with_edge y from_made) (length n.nodes) (OfEdge (record { 0 = length n.edges })) (omega (arith, made-count))
        ∙ ap (put (length n.nodes) (OfEdge (record { 0 = length n.edges }))) (source-named (open_node i n) (length n.nodes) (Added Chain) (next_number n i Chain) ∙ wide-source i)

    pub count-led : length (lead n e b).nodes ≡ suc (length n.nodes)
    count-led = count-driven (with_edge y from_made) (length n.nodes) (OfEdge (record { 0 = length n.edges })) ∙ made-count

    edges-led : (a : ℕ) → edge_at (lead n e b) a ≡ put (length n.edges) (Some y) (edge_at from_made) a
    edges-led a = (λ u. edge-with from_made y u a) ∙ ap (λ c. put c (Some y) (edge_at from_made) a) edge-count

    pub edge-led : edge_at (lead n e b) e ≡ Some (record x { from = FromNode (record { 0 = length n.nodes }) })
    edge-led =
        edges-led e
        ∙ (put-other (length n.edges) (Some y) (edge_at from_made) e (λ same. none-there x (sym (edge-past n) ∙ (ap (edge_at n) (sym same) ∙ there)))
        ∙ ((λ u. edge-from made e (FromNode (record { 0 = length n.nodes })) x there u e) ∙ put-at e (Some (record x { from = FromNode (record { 0 = length n.nodes }) })) (edge_at n) e refl))

    pub edge-constant : edge_at (lead n e b) (length n.edges) ≡ Some y
    edge-constant = edges-led (length n.edges) ∙ put-at (length n.edges) (Some y) (edge_at from_made) (length n.edges) refl

    pub frame-led : IsFrame n (lead n e b)
    frame-led = record { instances = refl; leaves = refl; cells = refl; heads = refl; kept = refl }

-- ---- a cell between two nodes, of which nothing drives the second

pub record IsFilled (n m : Net) (i c data_ out g0 g1 : ℕ) : Type 0 where
  pub sound : IsSound m
  pub count : length m.nodes ≡ length n.nodes
  pub gives : source_at m g1 ≡ OfLeaf out (record { 0 = length n.leaves })
  pub others : (k : ℕ) → (k ≡ g1 → ⊥) → source_at m k ≡ source_at n k
  pub edges : edge_at m ≡ edge_at n
  pub takes : pin_at m (length n.leaves) data_ ≡ PinNode (record { 0 = g0 })
  pub pins : (l q : ℕ) → l < length n.leaves → pin_at m l q ≡ pin_at n l q
  pub leaves : m.leaves ≡ n.leaves ++ (record { inst = record { 0 = i }; name = record { 0 = 0 }; cell = record { 0 = c }; start = 0 } ∷ [])
  pub instances : m.instances ≡ n.instances
  pub cells : m.cells ≡ n.cells
  pub heads : m.heads ≡ n.heads
  pub kept : m.kept ≡ n.kept

module _ (n : Net) (h : IsSound n) (i c : ℕ) (kind : AddedKind) (data_ out g0 g1 : ℕ) (low : i < length n.instances)
    (first : g0 < length n.nodes) (second : g1 < length n.nodes) (open_ : source_at n g1 ≡ Nothing)
    (data_in : data_ < pin_count (cell_pins n.cells c)) (out_in : out < pin_count (cell_pins n.cells c))
    (reads : get_or (outputs_of (cell_pins n.cells c)) data_ false ≡ false) (gives : get_or (outputs_of (cell_pins n.cells c)) out false ≡ true) where
  abbrev last : ℕ
  last = length n.leaves

  abbrev leaf : Leaf
  leaf = record { inst = record { 0 = i }; name = record { 0 = 0 }; cell = record { 0 = c }; start = 0 }

  abbrev size : ℕ
  size = pin_count (cell_pins n.cells c)

  abbrev row : List PinNet
  row = replicate size Unconnected

  abbrev placed : Net
  placed = add_cell n i c kind

  abbrev taking : Net
  taking = pinned last data_ (PinNode (record { 0 = g0 })) placed

  abbrev z : SourceRow
  z = OfLeaf out (record { 0 = last })

  abbrev filled : Net
  filled = driven g1 z (pinned last out (PinNode (record { 0 = g1 })) taking)

  placed-sound : IsSound placed
  placed-sound = (cell_added n h i c kind low).sound

  last-there : last < length placed.leaves
  last-there = let more = one-more leaf n.leaves in omega (arith, more)

  last-row : get_or placed.rows last [] ≡ row
  last-row = ap (λ k. get_or (n.rows ++ (row ∷ [])) k []) (sym h.rows) ∙ more-at row n.rows []

  row-size : length (get_or placed.rows last []) ≡ size
  row-size = ap length last-row ∙ length-replicate size Unconnected

  pins-placed : (l q : ℕ) → pin_at placed l q ≡ pin_at n l q
  pins-placed l q = (cell_added n h i c kind low).keeps.joins l q refl

  open-pins : (q : ℕ) → pin_at placed last q ≡ Unconnected
  open-pins q = pins-placed last q ∙ ap (λ (r : List PinNet). get_or r q Unconnected) (get_or_past n.rows last [] (omega (arith, h.rows)))

  cell-is : get_or (map (λ (x : Leaf). x.cell.0) placed.leaves) last (length n.cells) ≡ c
  cell-is =
      ap (λ ks. get_or ks last (length n.cells)) (map-append (λ (x : Leaf). x.cell.0) n.leaves (leaf ∷ []))
      ∙ (ap (λ k. get_or (map (λ (x : Leaf). x.cell.0) n.leaves ++ (c ∷ [])) k (length n.cells)) (sym (length-map n.leaves (λ (x : Leaf). x.cell.0)))
      ∙ more-at c (map (λ (x : Leaf). x.cell.0) n.leaves) (length n.cells))

  drives-last : (q : ℕ) → drives placed last q ≡ get_or (outputs_of (cell_pins n.cells c)) q false
  drives-last q = ap (λ k. get_or (outputs_of (cell_pins n.cells k)) q false) cell-is

  differs : out ≡ data_ → ⊥
  differs e = let same : true ≡ false = sym gives ∙ (ap (λ q. get_or (outputs_of (cell_pins n.cells c)) q false) e ∙ reads) in cc

  -- ---- the data pin

  taking-is : connect placed last data_ g0 ≡ taking
  taking-is = ap (λ b. cond b (driven g0 (OfLeaf data_ (record { 0 = last })) taking) taking) (drives-last data_ ∙ reads)

  taking-sound : IsSound taking
  taking-sound =
      subst IsSound taking-is
      (connected placed placed-sound last data_ g0 last-there (omega (arith, data_in, row-size)) first (open-pins data_)
      (λ yes_. let no_ : true ≡ false = sym yes_ ∙ (drives-last data_ ∙ reads) in cc)).sound

  taking-pins : pin_at taking ≡ λ l q. cond ((l == last) && (q == data_)) (PinNode (record { 0 = g0 })) (pin_at placed l q)
  taking-pins = pin-pinned placed last data_ (PinNode (record { 0 = g0 })) (let low_ = last-there in omega (arith, low_, placed-sound.rows)) (omega (arith, data_in, row-size))

  taking-other : (l q : ℕ) → is_pin last data_ l q ≡ false → pin_at taking l q ≡ pin_at placed l q
  taking-other l q no_ = (λ u. taking-pins u l q) ∙ ap (λ b. cond b (PinNode (record { 0 = g0 })) (pin_at placed l q)) no_

  taking-at : pin_at taking last data_ ≡ PinNode (record { 0 = g0 })
  taking-at = (λ u. taking-pins u last data_) ∙ ap (λ b. cond b (PinNode (record { 0 = g0 })) (pin_at placed last data_)) (self last data_)
    where
      self : (l q : ℕ) → is_pin l q l q ≡ true
      self l q = ap (λ b. b && (q == q)) (same l) ∙ same q
        where
          same : (k : ℕ) → (k == k) ≡ true
          same k = eq-eqb k k refl

  taking-row : length (get_or taking.rows last []) ≡ size
  taking-row =
      ap length (changed-at (changed (λ (x : PinNet). PinNode (record { 0 = g0 })) data_) last placed.rows [] (let low_ = last-there in omega (arith, low_, placed-sound.rows)))
      ∙ (length-changed (λ (x : PinNet). PinNode (record { 0 = g0 })) data_ (get_or placed.rows last []) ∙ row-size)

  -- ---- the output

  filled-is : connect taking last out g1 ≡ filled
  filled-is = ap (λ b. cond b filled (pinned last out (PinNode (record { 0 = g1 })) taking)) (drives-last out ∙ gives)

  not-data : (q : ℕ) → (q ≡ data_ → ⊥) → is_pin last data_ last q ≡ false
  not-data q ne = ap (λ b. (last == last) && b) (other-number q data_ ne) ∙ and-false (last == last)
    where
      and-false : (b : Bool) → (b && false) ≡ false
      and-false true = refl
      and-false false = refl

  filled-sound : IsSound filled
  filled-sound =
      subst IsSound filled-is
      (connected taking taking-sound last out g1 last-there (omega (arith, out_in, taking-row)) second (taking-other last out (not-data out differs) ∙ open-pins out) (λ yes_. open_)).sound

  filled-pins : pin_at filled ≡ λ l q. cond ((l == last) && (q == out)) (PinNode (record { 0 = g1 })) (pin_at taking l q)
  filled-pins = pin-pinned taking last out (PinNode (record { 0 = g1 })) (let low_ = last-there in omega (arith, low_, taking-sound.rows)) (omega (arith, out_in, taking-row))

  filled-other : (l q : ℕ) → is_pin last out l q ≡ false → pin_at filled l q ≡ pin_at taking l q
  filled-other l q no_ = (λ u. filled-pins u l q) ∙ ap (λ b. cond b (PinNode (record { 0 = g1 })) (pin_at taking l q)) no_

  not-out : is_pin last out last data_ ≡ false
  not-out = ap (λ b. (last == last) && b) (other-number data_ out (λ e. differs (sym e))) ∙ and-false (last == last)
    where
      and-false : (b : Bool) → (b && false) ≡ false
      and-false true = refl
      and-false false = refl

  below : (l q r : ℕ) → l < last → is_pin last r l q ≡ false
  below l q r less = ap (λ b. b && (q == r)) (other-number l last (λ e. omega (arith, e, less)))

  filled-source : source_at filled ≡ put g1 z (source_at n)
  filled-source = source-driven (pinned last out (PinNode (record { 0 = g1 })) taking) g1 z second

  pub cell_filled : IsFilled n (connect (connect placed last data_ g0) last out g1) i c data_ out g0 g1
  cell_filled = subst (λ m. IsFilled n m i c data_ out g0 g1) (sym (ap (λ m. connect m last out g1) taking-is ∙ filled-is)) (record {
    sound = filled-sound;
    count = count-driven (pinned last out (PinNode (record { 0 = g1 })) taking) g1 z;
    gives = (λ u. filled-source u g1) ∙ put-at g1 z (source_at n) g1 refl;
    others = λ k ne. (λ u. filled-source u k) ∙ put-other g1 z (source_at n) k ne;
    edges = refl;
    takes = filled-other last data_ not-out ∙ taking-at;
    pins = λ l q less. filled-other l q (below l q out less) ∙ (taking-other l q (below l q data_ less) ∙ pins-placed l q);
    leaves = refl;
    instances = refl;
    cells = refl;
    heads = refl;
    kept = refl;
  })
