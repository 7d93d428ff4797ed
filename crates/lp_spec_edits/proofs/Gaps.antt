-- A gap that is opened in an edge leaves a sound netlist.
use Rattle.std.proofs.Common.{◌≡◌, ◌<◌, ℕ, Bool, true, false, cond, ◌||◌, ◌==◌, length, Option, Some, inl, inr, refl, sym, ap, ◌∙◌, subst, arith}
use Rattle.std.specs.Prelude.{option_and_then}
use Rattle.std.proofs.lemmas.Bool.{true≢false}
use Rattle.lp_model.specs.declared.graph.Edge.{Edge as EdgeRow}
use Rattle.lp_model.specs.declared.graph.EdgeFrom.TheVariants.{Node as FromNode}
use Rattle.lp_model.specs.declared.graph.NodeName.{NodeName}
use Rattle.lp_model.specs.declared.graph.PinNet.TheVariants.{Node as PinNode}
use Rattle.lp_model.specs.declared.graph.Source.{Source as SourceRow}
use Rattle.lp_model.specs.declared.graph.Source.TheVariants.{Nothing, Env, Leaf as OfLeaf, Edge as OfEdge}
use Rattle.lp_spec_edits.specs.Net.{Net, source_at, edge_at, pin_at, drives, before, from_node, through}
use Rattle.lp_spec_edits.specs.Edits.{driven, pinned, led_from, led_to, named, lead_over}
use Rattle.lp_spec_edits.specs.Sound.{IsSound, IsEdited, no_entry, no_pin, is_pin, IsOpen, is_driven, is_its_edge, is_its_pin}
use Rattle.lp_spec_edits.proofs.Wires.{put, put_pin, put-at, put-other, same-or, led-from, over-leaf, over-edge, same-some}
use Rattle.lp_spec_edits.proofs.Ends.{ends-fewer, ends-before, ends-behind}
use Rattle.lp_spec_edits.proofs.Entries.{source-driven, count-driven, source-named, count-named, edge-from, edge-to, pin-pinned, rows-pinned, length-changed}
use Rattle.lp_spec_edits.proofs.Edited.{wires-by, back-by, none-some, pin-there}

-- a name changes no wire
pub named-edited : (n : Net) → IsSound n → (k : ℕ) (name : NodeName) (number : ℕ) → IsEdited no_entry no_entry no_pin n (named k name number n)
named-edited n h k name number =
    let count-is = count-named n k name number in
    record {
      sound = record {
        wires = wires-by (source-named n k name number) refl refl count-is h.wires;
        ends = back-by (source-named n k name number) refl h.ends;
        leaves = h.leaves;
        instances = h.instances;
        rows = h.rows;
      };
      keeps = record { sources = λ j no_. (λ u. source-named n k name number u j); ways = λ a no_. refl; joins = λ m r no_. refl };
      count = omega (arith, count-is);
      ways = omega arith;
      leaves = omega arith;
    }

abbrev pub comes : Option EdgeRow → Option ℕ
comes o = option_and_then (λ (u : EdgeRow). from_node u.from) o

-- by what drives a node: the node before it
pub back-cases : (n : Net) (edges : ℕ → Option EdgeRow) (k j : ℕ) → through edges (source_at n k) ≡ Some j → (a : ℕ) × (source_at n k ≡ OfEdge (record { 0 = a })) × (comes (edges a) ≡ Some j)
back-cases n edges k j e = by (source_at n k) refl
  where
    by : (s : SourceRow) → source_at n k ≡ s → (a : ℕ) × (source_at n k ≡ OfEdge (record { 0 = a })) × (comes (edges a) ≡ Some j)
    by Nothing is = absurd (none-some j (sym (ap (through edges) is) ∙ e))
    by Env is = absurd (none-some j (sym (ap (through edges) is) ∙ e))
    by (OfLeaf q l) is = absurd (none-some j (sym (ap (through edges) is) ∙ e))
    by (OfEdge a) is = (a.0, is, sym (ap (through edges) is) ∙ e)

module _ (n : Net) (h : IsSound n) where
  -- ---- an edge that comes from a node that nothing drives

  module _ (e new : ℕ) (x : EdgeRow) (there : edge_at n e ≡ Some x) (opens : IsOpen n new) (stays : x.to.0 ≡ new → ⊥) where
    abbrev y : EdgeRow
    y = record x { from = FromNode (record { 0 = new }) }

    edge-is : edge_at (led_from e (FromNode (record { 0 = new })) n) ≡ put e (Some y) (edge_at n)
    edge-is = edge-from n e (FromNode (record { 0 = new })) x there

    old-way : (k j : ℕ) → through (put e (Some y) (edge_at n)) (source_at n k) ≡ Some j → (j ≡ new → ⊥) → before n k ≡ Some j
    old-way k j is ne =
        let found = back-cases n (put e (Some y) (edge_at n)) k j is in
        elim (same-or found.0 e) [
          | inl same ↦ absurd (ne (sym (same-some new j (sym (ap comes (put-at e (Some y) (edge_at n) found.0 same)) ∙ found.2))))
          | inr other ↦ ap (through (edge_at n)) found.1 ∙ (sym (ap comes (put-other e (Some y) (edge_at n) found.0 other)) ∙ found.2)
        ]

    pub from-edited : IsEdited no_entry (λ a. a == e) no_pin n (led_from e (FromNode (record { 0 = new })) n)
    from-edited =
        let size = length-changed (λ (u : EdgeRow). record u { from = FromNode (record { 0 = new }) }) e n.edges in
        record {
          sound = record {
            wires = wires-by refl edge-is refl refl (led-from (source_at n) (edge_at n) (pin_at n) (drives n) (length n.nodes) h.wires e new x there opens.there);
            ends = back-by refl edge-is (ends-before (before n) h.ends new (λ k. through (put e (Some y) (edge_at n)) (source_at n k)) old-way (ap (through (put e (Some y) (edge_at n))) opens.open_));
            leaves = h.leaves;
            instances = h.instances;
            rows = h.rows;
          };
          keeps = record {
            sources = λ j no_. refl;
            ways = λ a no_. (λ u. edge-is u a) ∙ ap (λ b. cond b (Some y) (edge_at n a)) no_;
            joins = λ m r no_. refl;
          };
          count = omega arith;
          ways = omega (arith, size);
          leaves = omega arith;
        }

  -- ---- a node that hands over what drives it

  module _ (k new : ℕ) (low : k < length n.nodes) (opens : IsOpen n new) (differs : k ≡ new → ⊥) (unread : (i : ℕ) → before n i ≡ Some new → ⊥) where
    abbrev freed : Net
    freed = driven k Nothing n

    source-freed : source_at freed ≡ put k Nothing (source_at n)
    source-freed = source-driven n k Nothing low

    count-freed : length freed.nodes ≡ length n.nodes
    count-freed = count-driven n k Nothing

    new-low : new < length freed.nodes
    new-low = let there = opens.there in omega (arith, there, count-freed)

    keeps-sources : (z : SourceRow) (j : ℕ) → ((j == k) || (j == new)) ≡ false → put new z (put k Nothing (source_at n)) j ≡ source_at n j
    keeps-sources z j no_ =
        let none = either (j == k) (j == new) no_ in
        ap (λ b. cond b z (put k Nothing (source_at n) j)) none.1 ∙ ap (λ b. cond b Nothing (source_at n j)) none.0
      where
        either : (a b : Bool) → (a || b) ≡ false → (a ≡ false) × (b ≡ false)
        either false false e = (refl, refl)
        either false true e = absurd (true≢false e)
        either true b e = absurd (true≢false e)

    over-leaf-edited : (q l : ℕ) → source_at n k ≡ OfLeaf q (record { 0 = l })
        → IsEdited (λ j. (j == k) || (j == new)) no_entry (is_pin l q) n (driven new (OfLeaf q (record { 0 = l })) (pinned l q (PinNode (record { 0 = new })) freed))
    over-leaf-edited q l has =
        let z = OfLeaf q (record { 0 = l }) in
        let y = PinNode (record { 0 = new }) in
        let there = pin-there n l q k (h.wires.by_pin k l q has) in
        let pin-is : pin_at (pinned l q y freed) ≡ put_pin l q y (pin_at n) = pin-pinned freed l q y there.0 there.1 in
        let source-is : source_at (driven new z (pinned l q y freed)) ≡ put new z (put k Nothing (source_at n)) = source-driven (pinned l q y freed) new z new-low ∙ ap (put new z) source-freed in
        let count-is : length (driven new z (pinned l q y freed)).nodes ≡ length n.nodes = count-driven (pinned l q y freed) new z ∙ count-freed in
        record {
          sound = record {
            wires = wires-by source-is refl pin-is count-is (over-leaf (source_at n) (edge_at n) (pin_at n) (drives n) (length n.nodes) h.wires k new opens.there opens.open_ q l has);
            ends = back-by source-is refl (ends-fewer (before n) h.ends (λ i. through (edge_at n) (put new z (put k Nothing (source_at n)) i)) (fewer z refl));
            leaves = h.leaves;
            instances = h.instances;
            rows = rows-pinned freed l q y ∙ h.rows;
          };
          keeps = record {
            sources = λ j no_. (λ u. source-is u j) ∙ keeps-sources z j no_;
            ways = λ a no_. refl;
            joins = λ m r no_. (λ u. pin-is u m r) ∙ ap (λ b. cond b y (pin_at n m r)) no_;
          };
          count = omega (arith, count-is);
          ways = omega arith;
          leaves = omega arith;
        }
      where
        fewer : (z : SourceRow) → z ≡ OfLeaf q (record { 0 = l }) → (i j : ℕ) → through (edge_at n) (put new z (put k Nothing (source_at n)) i) ≡ Some j → before n i ≡ Some j
        fewer z is i j e = elim (same-or i new) [
          | inl at ↦ absurd (none-some j (sym (ap (through (edge_at n)) (put-at new z (put k Nothing (source_at n)) i at ∙ is)) ∙ e))
          | inr ne ↦ elim (same-or i k) [
            | inl at ↦ absurd (none-some j (sym (ap (through (edge_at n)) (put-other new z (put k Nothing (source_at n)) i ne ∙ put-at k Nothing (source_at n) i at)) ∙ e))
            | inr no_ ↦ sym (ap (through (edge_at n)) (put-other new z (put k Nothing (source_at n)) i ne ∙ put-other k Nothing (source_at n) i no_)) ∙ e
          ]
        ]

    module _ (a : ℕ) (has : source_at n k ≡ OfEdge (record { 0 = a })) where
      own : (x : EdgeRow) × (edge_at n a ≡ Some x) × (x.to.0 ≡ k)
      own = h.wires.by_edge k a has

      abbrev turned : EdgeRow
      turned = record own.0 { to = record { 0 = new } }

      abbrev after : ℕ → Option ℕ
      after i = through (put a (Some turned) (edge_at n)) (put new (OfEdge (record { 0 = a })) (put k Nothing (source_at n)) i)

      taken : (j : ℕ) → after new ≡ Some j → before n k ≡ Some j
      taken j e =
          ap (through (edge_at n)) has
          ∙ (ap comes own.1
          ∙ (sym (ap comes (put-at a (Some turned) (edge_at n) a refl))
          ∙ (sym (ap (through (put a (Some turned) (edge_at n))) (put-at new (OfEdge (record { 0 = a })) (put k Nothing (source_at n)) new refl)) ∙ e)))

      same-to : (u v : EdgeRow) → Some u ≡ Some v → u.to.0 ≡ v.to.0
      same-to u v e = ap (λ (o : EdgeRow). o.to.0) (same-some u v e)

      old : (i j : ℕ) → (i ≡ new → ⊥) → after i ≡ Some j → before n i ≡ Some j
      old i j ne e = elim (same-or i k) [
        | inl at ↦ absurd (none-some j (sym (ap (through (put a (Some turned) (edge_at n))) (put-other new (OfEdge (record { 0 = a })) (put k Nothing (source_at n)) i ne ∙ put-at k Nothing (source_at n) i at)) ∙ e))
        | inr no_ ↦
            let here = sym (ap (through (put a (Some turned) (edge_at n))) (put-other new (OfEdge (record { 0 = a })) (put k Nothing (source_at n)) i ne ∙ put-other k Nothing (source_at n) i no_)) ∙ e in
            let found = back-cases n (put a (Some turned) (edge_at n)) i j here in
            let its = h.wires.by_edge i found.0 found.1 in
            let other : found.0 ≡ a → ⊥ = λ same. no_ (sym its.2 ∙ (same-to its.0 own.0 (sym its.1 ∙ (ap (edge_at n) same ∙ own.1)) ∙ own.2)) in
            ap (through (edge_at n)) found.1 ∙ (sym (ap comes (put-other a (Some turned) (edge_at n) found.0 other)) ∙ found.2)
      ]

      apart : (i j : ℕ) → after i ≡ Some j → j ≡ new → ⊥
      apart i j e same = elim (same-or i new) [
        | inl at ↦ unread k (taken j (ap after (sym at) ∙ e) ∙ ap (λ u. Some u) same)
        | inr ne ↦ unread i (old i j ne e ∙ ap (λ u. Some u) same)
      ]

      over-edge-edited : IsEdited (λ j. (j == k) || (j == new)) (λ b. b == a) no_pin n (driven new (OfEdge (record { 0 = a })) (led_to a new freed))
      over-edge-edited =
          let z = OfEdge (record { 0 = a }) in
          let edge-is : edge_at (led_to a new freed) ≡ put a (Some turned) (edge_at n) = edge-to freed a new own.0 own.1 in
          let source-is : source_at (driven new z (led_to a new freed)) ≡ put new z (put k Nothing (source_at n)) = source-driven (led_to a new freed) new z new-low ∙ ap (put new z) source-freed in
          let count-is : length (driven new z (led_to a new freed)).nodes ≡ length n.nodes = count-driven (led_to a new freed) new z ∙ count-freed in
          let size = length-changed (λ (u : EdgeRow). record u { to = record { 0 = new } }) a n.edges in
          record {
            sound = record {
              wires = wires-by source-is edge-is refl count-is (over-edge (source_at n) (edge_at n) (pin_at n) (drives n) (length n.nodes) h.wires k new opens.there opens.open_ a own.0 has own.1);
              ends = back-by source-is edge-is (ends-behind (before n) h.ends new k after apart taken old);
              leaves = h.leaves;
              instances = h.instances;
              rows = h.rows;
            };
            keeps = record {
              sources = λ j no_. (λ u. source-is u j) ∙ keeps-sources z j no_;
              ways = λ b no_. (λ u. edge-is u b) ∙ ap (λ c. cond c (Some turned) (edge_at n b)) no_;
              joins = λ m r no_. refl;
            };
            count = omega (arith, count-is);
            ways = omega (arith, size);
            leaves = omega arith;
          }

    pub over-edited : is_driven (source_at n k) ≡ true → IsEdited (λ j. (j == k) || (j == new)) (is_its_edge (source_at n k)) (is_its_pin (source_at n k)) n (lead_over (source_at n k) new freed)
    over-edited yes_ = by (source_at n k) refl yes_
      where
        by : (s : SourceRow) → source_at n k ≡ s → is_driven s ≡ true → IsEdited (λ j. (j == k) || (j == new)) (is_its_edge (source_at n k)) (is_its_pin (source_at n k)) n (lead_over (source_at n k) new freed)
        by Nothing is no_ = absurd (true≢false (sym no_))
        by Env is no_ = absurd (true≢false (sym no_))
        by (OfLeaf q l) is ok = subst (λ s. IsEdited (λ j. (j == k) || (j == new)) (is_its_edge s) (is_its_pin s) n (lead_over s new freed)) (sym is) (over-leaf-edited q l.0 is)
        by (OfEdge a) is ok = subst (λ s. IsEdited (λ j. (j == k) || (j == new)) (is_its_edge s) (is_its_pin s) n (lead_over s new freed)) (sym is) (over-edge-edited a.0 is)
