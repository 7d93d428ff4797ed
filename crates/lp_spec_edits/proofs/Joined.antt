-- Cells, wires, ports and assigns that are added leave a sound netlist.
use Rattle.std.proofs.Common.{◌≡◌, ◌<◌, ℕ, zero, suc, Bool, true, false, cond, ◌||◌, ◌==◌, List, [], ◌∷◌, ◌++◌, map, length, replicate, get_or, Option, Some, None, inl, inr, refl, sym, ap, ◌∙◌, arith}
use Rattle.std.specs.Prelude.{nat_lt}
use Rattle.std.specs.List.{list_all}
use Rattle.std.proofs.lemmas.Bool.{ltb-true, ltb-false, lt-ltb}
use Rattle.std.proofs.lemmas.List.{get_or_past, get_or-replicate, length-replicate, map-append, length-map}
use Rattle.lp_model.specs.declared.graph.Edge.{Edge as EdgeRow}
use Rattle.lp_model.specs.declared.graph.EdgeFrom.{EdgeFrom}
use Rattle.lp_model.specs.declared.graph.EdgeFrom.TheVariants.{Node as FromNode, Const as FromConst}
use Rattle.lp_model.specs.declared.graph.EdgeKind.TheVariants.{In, Out, Assign}
use Rattle.lp_model.specs.declared.graph.Leaf.{Leaf}
use Rattle.lp_model.specs.declared.graph.NodeName.TheVariants.{Added}
use Rattle.lp_model.specs.declared.graph.PinNet.{PinNet}
use Rattle.lp_model.specs.declared.graph.PinNet.TheVariants.{Unconnected, Node as PinNode}
use Rattle.lp_model.specs.declared.graph.Source.{Source as SourceRow}
use Rattle.lp_model.specs.declared.graph.Source.TheVariants.{Nothing, Env, Leaf as OfLeaf, Edge as OfEdge}
use Rattle.lp_model.specs.declared.graph.WireKind.{WireKind}
use Rattle.lp_model.specs.declared.graph.WireKind.TheVariants.{Supply}
use Rattle.lp_model.specs.declared.plan.AddedKind.{AddedKind}
use Rattle.lp_spec_design.specs.Reads.{one, other, both}
use Rattle.lp_spec_edits.specs.Net.{Net, cell_pins, pin_count, source_at, edge_at, pin_at, drives, before, from_node, through, some_node, outputs_of}
use Rattle.lp_spec_edits.specs.Edits.{with_node, with_port, node_of, next_number, add_cell, add_wire, add_top_port, assign, punch_in, punch_out}
use Rattle.lp_spec_edits.specs.Sound.{IsEdge, AreWires, IsSound, IsEdited, no_entry, no_pin, IsOpen, CanAssign, CanPunch}
use Rattle.lp_spec_edits.proofs.Wires.{put, put-at, put-other, same-or, other-number, grown, same-some}
use Rattle.lp_spec_edits.proofs.Ends.{met, ends-fewer}
use Rattle.lp_spec_edits.proofs.Entries.{source-with, source-past, more-at, more-other, one-more}
use Rattle.lp_spec_edits.proofs.Edited.{wires-by, back-by, none-some, pin-there, met-same-as, after-open, source-opened, opened-edited, joined-edited}

ported : (n : Net) → IsSound n → IsSound (with_port n)
ported n h = record { wires = h.wires; ends = h.ends; leaves = h.leaves; instances = h.instances; rows = h.rows }

ported-edited : {f g : ℕ → Bool} {p : ℕ → ℕ → Bool} {n m : Net} → IsEdited f g p n m → IsEdited f g p n (with_port m)
ported-edited {n = n} {m = m} e = record {
  sound = ported m e.sound;
  keeps = record { sources = e.keeps.sources; ways = e.keeps.ways; joins = e.keeps.joins };
  count = e.count;
  ways = e.ways;
  leaves = e.leaves;
}

all-more : {A : Type 0} (test : A → Bool) (xs : List A) (x : A) → list_all test xs ≡ true → test x ≡ true → list_all test (xs ++ (x ∷ [])) ≡ true
all-more test [] x e is = both (test x) true is refl
all-more test (y ∷ xs) x e is = both (test y) (list_all test (xs ++ (x ∷ []))) (one (test y) (list_all test xs) e) (all-more test xs x (other (test y) (list_all test xs) e) is)

module _ (n : Net) (h : IsSound n) where
  -- a way back stays within the nodes
  pub before-low : (k j : ℕ) → before n k ≡ Some j → j < length n.nodes
  before-low k j e = by (source_at n k) refl e
    where
      low : (x : EdgeRow) (f : EdgeFrom) → x.from ≡ f → IsEdge (length n.nodes) x → from_node f ≡ Some j → j < length n.nodes
      low x (FromNode i) is ok g = let same = same-some i.0 j g in let begins = ok.begins i.0 is in omega (arith, same, begins)
      low x (FromConst b) is ok g = absurd (none-some j g)

      of-edge : (o : Option EdgeRow) (a : ℕ) → edge_at n a ≡ o → elim o as (λ v. Option ℕ) [ None ↦ None | Some u ↦ from_node u.from ] ≡ Some j → j < length n.nodes
      of-edge None a is g = absurd (none-some j g)
      of-edge (Some x) a is g = low x x.from refl (h.wires.edges a x is) g

      by : (s : SourceRow) → source_at n k ≡ s → through (edge_at n) (source_at n k) ≡ Some j → j < length n.nodes
      by Nothing is g = absurd (none-some j (sym (ap (through (edge_at n)) is) ∙ g))
      by Env is g = absurd (none-some j (sym (ap (through (edge_at n)) is) ∙ g))
      by (OfLeaf q l) is g = absurd (none-some j (sym (ap (through (edge_at n)) is) ∙ g))
      by (OfEdge a) is g = of-edge (edge_at n a.0) a.0 refl (sym (ap (through (edge_at n)) is) ∙ g)

  -- a new node is not met from an old one
  pub apart-new : (steps k : ℕ) → k < length n.nodes → met (before n) (length n.nodes) steps k ≡ false
  apart-new zero k low = other-number k (length n.nodes) (λ e. omega (arith, e, low))
  apart-new (suc steps) k low =
      ap (λ b. b || some_node (λ j. met (before n) (length n.nodes) steps j) (before n k)) (other-number k (length n.nodes) (λ e. omega (arith, e, low)))
      ∙ by (before n k) (λ j e. apart-new steps j (before-low k j e))
    where
      by : (o : Option ℕ) → ((j : ℕ) → before n k ≡ Some j → met (before n) (length n.nodes) steps j ≡ false) → some_node (λ j. met (before n) (length n.nodes) steps j) (before n k) ≡ false
      by o more = at (before n k) refl more
        where
          at : (o : Option ℕ) → before n k ≡ o → ((j : ℕ) → before n k ≡ Some j → met (before n) (length n.nodes) steps j ≡ false) → some_node (λ j. met (before n) (length n.nodes) steps j) (before n k) ≡ false
          at None e more = ap (some_node (λ j. met (before n) (length n.nodes) steps j)) e
          at (Some j) e more = ap (some_node (λ j. met (before n) (length n.nodes) steps j)) e ∙ more j e

  -- from a node that nothing leads to, no other one is met
  pub apart-open : (x k : ℕ) → (k ≡ x → ⊥) → before n k ≡ None → (steps : ℕ) → met (before n) x steps k ≡ false
  apart-open x k ne none zero = other-number k x ne
  apart-open x k ne none (suc steps) = ap (λ b. b || some_node (λ j. met (before n) x steps j) (before n k)) (other-number k x ne) ∙ ap (some_node (λ j. met (before n) x steps j)) none

  pub wire_added : (i : ℕ) (kind : WireKind) → IsEdited no_entry no_entry no_pin n (add_wire n i kind)
  wire_added i kind = opened-edited n h i (Added kind) (next_number n i kind)

  pub assigned : (from to : ℕ) → CanAssign n from to → IsEdited (λ j. j == to) (λ e. e == length n.edges) no_pin n (assign n from to)
  assigned from to can = joined-edited n h Assign from to can.begins can.leads (λ steps. sym (met-same-as n to steps from) ∙ can.apart steps)

  -- ---- ports of instances

  module _ (i : ℕ) (kind : WireKind) where
    abbrev made : Net
    made = with_port (add_wire n i kind)

    made-edited : IsEdited no_entry no_entry no_pin n made
    made-edited = ported-edited (wire_added i kind)

    size-made : length made.nodes ≡ suc (length n.nodes)
    size-made = one-more (node_of i (Added kind) Nothing) n.nodes

    source-made : (k : ℕ) → source_at made k ≡ source_at n k
    source-made k = λ u. source-opened n h i (Added kind) (next_number n i kind) u k

    before-made : before made ≡ before n
    before-made = λ u k. through (edge_at n) (source-made k u)

    new-open : IsOpen made (length n.nodes)
    new-open = record { there = omega (arith, size-made); open_ = source-made (length n.nodes) ∙ source-past n }

    pub punched_in : (outer : ℕ) → CanPunch n i outer → IsEdited (λ j. j == length n.nodes) (λ e. e == length n.edges) no_pin n (punch_in n i outer kind)
    punched_in outer can =
        after-open made-edited (joined-edited made made-edited.sound In outer (length n.nodes) (let low = can.node in omega (arith, low, size-made)) new-open
        (λ steps. ap (λ back. met back (length n.nodes) steps outer) before-made ∙ apart-new steps outer can.node))

    pub punched_out : (outer : ℕ) → CanPunch n i outer → source_at n outer ≡ Nothing → IsEdited (λ j. j == outer) (λ e. e == length n.edges) no_pin n (punch_out n i outer kind)
    punched_out outer can none =
        after-open made-edited (joined-edited made made-edited.sound Out (length n.nodes) outer (omega (arith, size-made))
        (record { there = let low = can.node in omega (arith, low, size-made); open_ = source-made outer ∙ none })
        (apart-open-made outer (λ e. let low = can.node in omega (arith, low, e))))
      where
        apart-open-made : (x : ℕ) → (length n.nodes ≡ x → ⊥) → (steps : ℕ) → met (before made) x steps (length n.nodes) ≡ false
        apart-open-made x ne steps = ap (λ back. met back x steps (length n.nodes)) before-made ∙ apart-open x (length n.nodes) ne (ap (through (edge_at n)) (source-past n)) steps

  -- ---- a port of the top

  abbrev last : ℕ
  last = length n.nodes

  pub top_port_added : (name : ℕ) → IsEdited (λ j. j == length n.nodes) no_entry no_pin n (add_top_port n name)
  top_port_added name =
      let x = node_of 0 (Added (Supply (record { 0 = name }))) Env in
      let size = one-more x n.nodes in
      let source-is : source_at (with_node x 0 n) ≡ put (length n.nodes) Env (source_at n) = source-with n x 0 in
      record {
        sound = record {
          wires = wires-by source-is refl refl size (env-wires (grown (source_at n) (edge_at n) (pin_at n) (drives n) (length n.nodes) h.wires));
          ends = back-by source-is refl (ends-fewer (before n) h.ends (λ k. through (edge_at n) (put (length n.nodes) Env (source_at n) k)) fewer);
          leaves = h.leaves;
          instances = h.instances;
          rows = h.rows;
        };
        keeps = record {
          sources = λ j no_. (λ u. source-is u j) ∙ ap (λ b. cond b Env (source_at n j)) no_;
          ways = λ a no_. refl;
          joins = λ m r no_. refl;
        };
        count = omega (arith, size);
        ways = omega arith;
        leaves = omega arith;
      }
    where
      fewer : (k j : ℕ) → through (edge_at n) (put last Env (source_at n) k) ≡ Some j → before n k ≡ Some j
      fewer k j e = elim (same-or k last) [
        | inl is ↦ absurd (none-some j (sym (ap (through (edge_at n)) (put-at last Env (source_at n) k is)) ∙ e))
        | inr ne ↦ sym (ap (through (edge_at n)) (put-other last Env (source_at n) k ne)) ∙ e
      ]

      env-leaf : (q l : ℕ) → Env ≡ OfLeaf q (record { 0 = l }) → ⊥
      env-leaf q l e = cc

      env-edge : (a : ℕ) → Env ≡ OfEdge (record { 0 = a }) → ⊥
      env-edge a e = cc

      env-wires : AreWires (source_at n) (edge_at n) (pin_at n) (drives n) (suc last) → AreWires (put last Env (source_at n)) (edge_at n) (pin_at n) (drives n) (suc last)
      env-wires w = record {
        by_pin = λ k l q is. elim (same-or k last) [
          | inl e ↦ absurd (env-leaf q l (sym (put-at last Env (source_at n) k e) ∙ is))
          | inr ne ↦ w.by_pin k l q (sym (put-other last Env (source_at n) k ne) ∙ is)
        ];
        by_edge = λ k a is. elim (same-or k last) [
          | inl e ↦ absurd (env-edge a (sym (put-at last Env (source_at n) k e) ∙ is))
          | inr ne ↦ w.by_edge k a (sym (put-other last Env (source_at n) k ne) ∙ is)
        ];
        leads = λ a u is.
            let low = (h.wires.edges a u is).leads in
            put-other last Env (source_at n) u.to.0 (λ e. omega (arith, e, low)) ∙ w.leads a u is;
        outputs = λ l q k yes_ is.
            let low = h.wires.pins l q k is in
            put-other last Env (source_at n) k (λ e. omega (arith, e, low)) ∙ w.outputs l q k yes_ is;
        inputs = λ k l q is. elim (same-or k last) [
          | inl e ↦ absurd (env-leaf q l (sym (put-at last Env (source_at n) k e) ∙ is))
          | inr ne ↦ w.inputs k l q (sym (put-other last Env (source_at n) k ne) ∙ is)
        ];
        pins = w.pins;
        edges = w.edges;
      }

  -- ---- a cell instance

  module _ (i c : ℕ) (kind : AddedKind) (there : i < length n.instances) where
    abbrev size : ℕ
    size = pin_count (cell_pins n.cells c)

    abbrev with_cell : Net
    with_cell = add_cell n i c kind

    abbrev row : List PinNet
    row = replicate size Unconnected

    open-row : (q : ℕ) → get_or row q Unconnected ≡ Unconnected
    open-row q = at (nat_lt q size) refl
      where
        at : (b : Bool) → nat_lt q size ≡ b → get_or row q Unconnected ≡ Unconnected
        at true e = get_or-replicate size q Unconnected Unconnected (ltb-true q size e)
        at false e = get_or_past row q Unconnected (let low = ltb-false q size e in omega (arith, low, length-replicate size Unconnected))

    pin-with : (l q : ℕ) → pin_at with_cell l q ≡ pin_at n l q
    pin-with l q = elim (same-or l (length n.rows)) [
      | inl e ↦
          ap (λ k. get_or (get_or (n.rows ++ (row ∷ [])) k []) q Unconnected) e
          ∙ (ap (λ (r : List PinNet). get_or r q Unconnected) (more-at row n.rows [])
          ∙ (open-row q ∙ sym (ap (λ (r : List PinNet). get_or r q Unconnected) (get_or_past n.rows l [] (omega (arith, e))))))
      | inr ne ↦ ap (λ (r : List PinNet). get_or r q Unconnected) (more-other row l n.rows [] ne)
    ]

    drives-with : (l q : ℕ) → l < length n.leaves → drives with_cell l q ≡ drives n l q
    drives-with l q low =
        let x : Leaf = record { inst = record { 0 = i }; name = record { 0 = 0 }; cell = record { 0 = c }; start = 0 } in
        let size_ = length-map n.leaves (λ (y : Leaf). y.cell.0) in
        ap (λ k. get_or (outputs_of (cell_pins n.cells k)) q false)
        (ap (λ ks. get_or ks l (length n.cells)) (map-append (λ (y : Leaf). y.cell.0) n.leaves (x ∷ [])) ∙ more-other c l (map (λ (y : Leaf). y.cell.0) n.leaves) (length n.cells) (λ e. omega (arith, e, low, size_)))

    pin-low : (l q k : ℕ) → pin_at n l q ≡ PinNode (record { 0 = k }) → l < length n.leaves
    pin-low l q k e = let there = (pin-there n l q k e).0 in omega (arith, there, h.rows)

    pub cell_added : IsEdited no_entry no_entry no_pin n with_cell
    cell_added =
        let x : Leaf = record { inst = record { 0 = i }; name = record { 0 = 0 }; cell = record { 0 = c }; start = 0 } in
        let more = one-more x n.leaves in
        record {
          sound = record {
            wires = record {
              by_pin = λ k l q is. pin-with l q ∙ h.wires.by_pin k l q is;
              by_edge = h.wires.by_edge;
              leads = h.wires.leads;
              outputs = λ l q k yes_ is.
                  let old = sym (pin-with l q) ∙ is in
                  h.wires.outputs l q k (sym (drives-with l q (pin-low l q k old)) ∙ yes_) old;
              inputs = λ k l q is. drives-with l q (pin-low l q k (h.wires.by_pin k l q is)) ∙ h.wires.inputs k l q is;
              pins = λ l q k is. h.wires.pins l q k (sym (pin-with l q) ∙ is);
              edges = h.wires.edges;
            };
            ends = h.ends;
            leaves = all-more (λ (y : Leaf). nat_lt y.inst.0 (length n.instances)) n.leaves x h.leaves (lt-ltb i (length n.instances) there);
            instances = h.instances;
            rows = let rows_ = one-more row n.rows in omega (arith, rows_, more, h.rows);
          };
          keeps = record { sources = λ j no_. refl; ways = λ a no_. refl; joins = λ l q no_. pin-with l q };
          count = omega arith;
          ways = omega arith;
          leaves = omega (arith, more);
        }
