-- Each edit leaves a sound netlist, and all but its own entries as they were.
use Rattle.std.proofs.Common.{◌≡◌, ◌⊎◌, ◌<◌, ◌≤◌, ℕ, zero, suc, Bool, true, false, cond, ◌||◌, ◌==◌, List, [], length, get_or, Option, Some, None, inl, inr, refl, sym, ap, ◌∙◌, subst, arith}
use Rattle.std.specs.Prelude.{option_and_then, nat_lt}
use Rattle.std.proofs.lemmas.Bool.{ltb-true, ltb-false}
use Rattle.std.proofs.lemmas.List.{get_or_past}
use Rattle.lp_model.specs.declared.graph.Edge.{Edge as EdgeRow}
use Rattle.lp_model.specs.declared.graph.EdgeFrom.TheVariants.{Node as FromNode, Const as FromConst}
use Rattle.lp_model.specs.declared.graph.EdgeKind.{EdgeKind}
use Rattle.lp_model.specs.declared.graph.NodeName.{NodeName}
use Rattle.lp_model.specs.declared.graph.PinNet.{PinNet}
use Rattle.lp_model.specs.declared.graph.PinNet.TheVariants.{Unconnected, Node as PinNode}
use Rattle.lp_model.specs.declared.graph.Source.{Source as SourceRow}
use Rattle.lp_model.specs.declared.graph.Source.TheVariants.{Nothing, Env, Leaf as OfLeaf, Edge as OfEdge}
use Rattle.lp_model.specs.declared.ids.EdgeId.{EdgeId}
use Rattle.lp_spec_edits.specs.Net.{Net, source_at, edge_at, pin_at, drives, before, from_node, through, some_node, is_met}
use Rattle.lp_spec_edits.specs.Edits.{driven, pinned, with_node, with_edge, node_of, edge_of, connect, joined_by}
use Rattle.lp_spec_edits.specs.Sound.{IsEdge, AreWires, HasEnds, IsSound, IsEdited, no_entry, no_pin, is_pin, IsOpen}
use Rattle.lp_spec_edits.proofs.Wires.{put, put_pin, put-at, put-other, same-or, grown, joined-input, joined-output, joined-edge, open-pin, same-from}
use Rattle.lp_spec_edits.proofs.Ends.{met, ends-fewer, ends-joined}
use Rattle.lp_spec_edits.proofs.Entries.{source-driven, count-driven, source-with, source-past, edge-with, edge-past, pin-pinned, rows-pinned, one-more}

-- ---- equal tables

pub wires-by : {s t : ℕ → SourceRow} {e f : ℕ → Option EdgeRow} {p r : ℕ → ℕ → PinNet} {d : ℕ → ℕ → Bool} {c b : ℕ} → t ≡ s → f ≡ e → r ≡ p → b ≡ c → AreWires s e p d c → AreWires t f r d b
wires-by {s} {t} {e} {f} {p} {r} {d} {c} {b} hs he hp hc w =
    subst (λ x. AreWires t f r d x) (sym hc) (subst (λ x. AreWires t f x d c) (sym hp) (subst (λ x. AreWires t x p d c) (sym he) (subst (λ x. AreWires x e p d c) (sym hs) w)))

pub back-by : {s t : ℕ → SourceRow} {e f : ℕ → Option EdgeRow} → t ≡ s → f ≡ e → HasEnds (λ k. through e (s k)) → HasEnds (λ k. through f (t k))
back-by {s} {t} {e} {f} hs he h = subst (λ x. HasEnds (λ k. through x (t k))) (sym he) (subst (λ x. HasEnds (λ k. through e (x k))) (sym hs) h)

pub none-there : (u : EdgeRow) → None ≡ Some u → ⊥
none-there u e = cc

pub none-some : (j : ℕ) → None ≡ Some j → ⊥
none-some j e = cc

below-or : (k m : ℕ) → (k < m) ⊎ (m ≤ k)
below-or k m = by (nat_lt k m) refl
  where
    by : (b : Bool) → nat_lt k m ≡ b → (k < m) ⊎ (m ≤ k)
    by true e = inl (ltb-true k m e)
    by false e = inr (ltb-false k m e)

-- the place of a pin that is joined is in its row
pub pin-there : (n : Net) (l q k : ℕ) → pin_at n l q ≡ PinNode (record { 0 = k }) → (l < length n.rows) × (q < length (get_or n.rows l []))
pin-there n l q k e = elim (below-or l (length n.rows)) [
  | inl low ↦ elim (below-or q (length (get_or n.rows l []))) [
    | inl less ↦ (low, less)
    | inr past ↦ absurd (open-pin k (sym (get_or_past (get_or n.rows l []) q Unconnected past) ∙ e))
  ]
  | inr past ↦ absurd (open-pin k (ap (λ (row : List PinNet). get_or row q Unconnected) (sym (get_or_past n.rows l [] past)) ∙ e))
]

pub met-same-as : (n : Net) (x steps k : ℕ) → is_met n x steps k ≡ met (before n) x steps k
met-same-as n x zero k = refl
met-same-as n x (suc steps) k = by (before n k) (λ j. met-same-as n x steps j)
  where
    by : (o : Option ℕ) → ((j : ℕ) → is_met n x steps j ≡ met (before n) x steps j) → ((k == x) || some_node (λ j. is_met n x steps j) o) ≡ ((k == x) || some_node (λ j. met (before n) x steps j) o)
    by None more = refl
    by (Some j) more = ap (λ b. (k == x) || b) (more j)

-- one edit after another that changes no entry
pub after-open : {f g : ℕ → Bool} {p : ℕ → ℕ → Bool} {n m r : Net} → IsEdited no_entry no_entry no_pin n m → IsEdited f g p m r → IsEdited f g p n r
after-open {f} {g} {p} {n} {m} {r} one two = record {
  sound = two.sound;
  keeps = record {
    sources = λ k no_. two.keeps.sources k no_ ∙ one.keeps.sources k refl;
    ways = λ e no_. two.keeps.ways e no_ ∙ one.keeps.ways e refl;
    joins = λ l q no_. two.keeps.joins l q no_ ∙ one.keeps.joins l q refl;
  };
  count = let a = one.count in let b = two.count in omega arith;
  ways = let a = one.ways in let b = two.ways in omega arith;
  leaves = let a = one.leaves in let b = two.leaves in omega arith;
}

module _ (n : Net) (h : IsSound n) where
  -- ---- connect

  module _ (l q k : ℕ) (leaf : l < length n.leaves) (there : q < length (get_or n.rows l [])) (node : k < length n.nodes) (free : pin_at n l q ≡ Unconnected) (idle : drives n l q ≡ true → source_at n k ≡ Nothing) where
    abbrev y : PinNet
    y = PinNode (record { 0 = k })

    abbrev z : SourceRow
    z = OfLeaf q (record { 0 = l })

    row-there : l < length n.rows
    row-there = omega (arith, leaf, h.rows)

    pin-is : pin_at (pinned l q y n) ≡ put_pin l q y (pin_at n)
    pin-is = pin-pinned n l q y row-there there

    pin-keeps : (m r : ℕ) → is_pin l q m r ≡ false → pin_at (pinned l q y n) m r ≡ pin_at n m r
    pin-keeps m r no_ = (λ i. pin-is i m r) ∙ ap (λ b. cond b y (pin_at n m r)) no_

    rows-are : length (pinned l q y n).rows ≡ length n.leaves
    rows-are = rows-pinned n l q y ∙ h.rows

    pub connected : IsEdited (λ j. j == k) no_entry (is_pin l q) n (connect n l q k)
    connected = by (drives n l q) refl
      where
        by : (b : Bool) → drives n l q ≡ b → IsEdited (λ j. j == k) no_entry (is_pin l q) n (cond (drives n l q) (driven k z (pinned l q y n)) (pinned l q y n))
        by false e = subst (λ b. IsEdited (λ j. j == k) no_entry (is_pin l q) n (cond b (driven k z (pinned l q y n)) (pinned l q y n))) (sym e) (record {
          sound = record {
            wires = wires-by refl refl pin-is refl (joined-input (source_at n) (edge_at n) (pin_at n) (drives n) (length n.nodes) h.wires l q k free e node);
            ends = h.ends;
            leaves = h.leaves;
            instances = h.instances;
            rows = rows-are;
          };
          keeps = record { sources = λ j no_. refl; ways = λ a no_. refl; joins = pin-keeps };
          count = omega arith;
          ways = omega arith;
          leaves = omega arith;
        })
        by true e =
            let source-is : source_at (driven k z (pinned l q y n)) ≡ put k z (source_at n) = source-driven (pinned l q y n) k z node in
            let count-is : length (driven k z (pinned l q y n)).nodes ≡ length n.nodes = count-driven (pinned l q y n) k z in
            subst (λ b. IsEdited (λ j. j == k) no_entry (is_pin l q) n (cond b (driven k z (pinned l q y n)) (pinned l q y n))) (sym e) (record {
              sound = record {
                wires = wires-by source-is refl pin-is count-is (joined-output (source_at n) (edge_at n) (pin_at n) (drives n) (length n.nodes) h.wires l q k free e node (idle e));
                ends = back-by source-is refl (ends-fewer (before n) h.ends (λ j. through (edge_at n) (put k z (source_at n) j)) (λ j i is. elim (same-or j k) [
                  | inl same ↦ absurd (none-some i (sym (ap (through (edge_at n)) (put-at k z (source_at n) j same)) ∙ is))
                  | inr ne ↦ sym (ap (through (edge_at n)) (put-other k z (source_at n) j ne)) ∙ is
                ]));
                leaves = h.leaves;
                instances = h.instances;
                rows = rows-are;
              };
              keeps = record {
                sources = λ j no_. (λ i. source-is i j) ∙ ap (λ b. cond b z (source_at n j)) no_;
                ways = λ a no_. refl;
                joins = pin-keeps;
              };
              count = omega (arith, count-is);
              ways = omega arith;
              leaves = omega arith;
            })

  -- ---- one node more that nothing drives

  module _ (i : ℕ) (name : NodeName) (number : ℕ) where
    abbrev opened : Net
    opened = with_node (node_of i name Nothing) number n

    pub source-opened : source_at opened ≡ source_at n
    source-opened = source-with n (node_of i name Nothing) number ∙ same
      where
        same : put (length n.nodes) Nothing (source_at n) ≡ source_at n
        same = λ u j. by j (same-or j (length n.nodes)) u
          where
            by : (j : ℕ) → (j ≡ length n.nodes) ⊎ (j ≡ length n.nodes → ⊥) → put (length n.nodes) Nothing (source_at n) j ≡ source_at n j
            by j (inl e) = put-at (length n.nodes) Nothing (source_at n) j e ∙ (sym (source-past n) ∙ ap (source_at n) (sym e))
            by j (inr ne) = put-other (length n.nodes) Nothing (source_at n) j ne

    pub opened-edited : IsEdited no_entry no_entry no_pin n opened
    opened-edited =
        let size = one-more (node_of i name Nothing) n.nodes in
        record {
          sound = record {
            wires = wires-by source-opened refl refl size (grown (source_at n) (edge_at n) (pin_at n) (drives n) (length n.nodes) h.wires);
            ends = back-by source-opened refl h.ends;
            leaves = h.leaves;
            instances = h.instances;
            rows = h.rows;
          };
          keeps = record { sources = λ j no_. (λ u. source-opened u j); ways = λ a no_. refl; joins = λ m r no_. refl };
          count = omega (arith, size);
          ways = omega arith;
          leaves = omega arith;
        }

  -- ---- two nodes joined by an edge

  module _ (kind : EdgeKind) (from to : ℕ) (begins : from < length n.nodes) (leads : IsOpen n to) where
    abbrev x : EdgeRow
    x = edge_of (FromNode (record { 0 = from })) to kind

    abbrev a : ℕ
    a = length n.edges

    abbrev joined : Net
    joined = joined_by kind from to n

    source-joined : source_at joined ≡ put to (OfEdge (record { 0 = a })) (source_at n)
    source-joined = source-driven (with_edge x n) to (OfEdge (record { 0 = a })) leads.there

    edge-joined : edge_at joined ≡ put a (Some x) (edge_at n)
    edge-joined = edge-with n x

    count-joined : length joined.nodes ≡ length n.nodes
    count-joined = count-driven (with_edge x n) to (OfEdge (record { 0 = a }))

    edge-in : IsEdge (length n.nodes) x
    edge-in = record { begins = λ j e. begins-in j e; leads = leads.there }
      where
        begins-in : (j : ℕ) → FromNode (record { 0 = from }) ≡ FromNode (record { 0 = j }) → j < length n.nodes
        begins-in j e = let same = same-from from j e in omega (arith, same, begins)

    -- the way to the second node comes from the first, and all others are as before
    back-joined : (k j : ℕ) → through (put a (Some x) (edge_at n)) (put to (OfEdge (record { 0 = a })) (source_at n) k) ≡ Some j
        → ((k ≡ to) × (j ≡ from)) ⊎ ((k ≡ to → ⊥) × (before n k ≡ Some j))
    back-joined k j is = elim (same-or k to) [
      | inl e ↦ inl (e, first (sym (ap (through (put a (Some x) (edge_at n))) (put-at to (OfEdge (record { 0 = a })) (source_at n) k e)) ∙ is))
      | inr ne ↦ inr (ne, old k (source_at n k) refl (sym (ap (through (put a (Some x) (edge_at n))) (put-other to (OfEdge (record { 0 = a })) (source_at n) k ne)) ∙ is))
    ]
      where
        first : through (put a (Some x) (edge_at n)) (OfEdge (record { 0 = a })) ≡ Some j → j ≡ from
        first e = let same : Some from ≡ Some j = sym (ap (λ (o : Option EdgeRow). elim o as (λ v. Option ℕ) [ None ↦ None | Some u ↦ elim u.from as (λ v. Option ℕ) [ FromNode i ↦ Some i.0 | FromConst b ↦ None ] ]) (put-at a (Some x) (edge_at n) a refl)) ∙ e in
            let is_ : from ≡ j = cc in sym is_

        old : (k : ℕ) (s : SourceRow) → source_at n k ≡ s → through (put a (Some x) (edge_at n)) (source_at n k) ≡ Some j → before n k ≡ Some j
        old k Nothing e g = absurd (none-some j (sym (ap (through (put a (Some x) (edge_at n))) e) ∙ g))
        old k Env e g = absurd (none-some j (sym (ap (through (put a (Some x) (edge_at n))) e) ∙ g))
        old k (OfLeaf q l) e g = absurd (none-some j (sym (ap (through (put a (Some x) (edge_at n))) e) ∙ g))
        old k (OfEdge b) e g = old-edge k b e (h.wires.by_edge k b.0 e) g
          where
            old-edge : (k : ℕ) (b : EdgeId) → source_at n k ≡ OfEdge b → (u : EdgeRow) × (edge_at n b.0 ≡ Some u) × (u.to.0 ≡ k) → through (put a (Some x) (edge_at n)) (source_at n k) ≡ Some j → before n k ≡ Some j
            old-edge k b e there g =
                let differs : b.0 ≡ a → ⊥ = λ is_. none-there there.0 (sym (edge-past n) ∙ (ap (edge_at n) (sym is_) ∙ there.1)) in
                ap (through (edge_at n)) e
                ∙ (sym (ap (option_and_then (λ (u : EdgeRow). from_node u.from)) (put-other a (Some x) (edge_at n) b.0 differs))
                ∙ (sym (ap (through (put a (Some x) (edge_at n))) e) ∙ g))

    pub joined-edited : ((steps : ℕ) → met (before n) to steps from ≡ false) → IsEdited (λ j. j == to) (λ e. e == a) no_pin n joined
    joined-edited apart =
        let more = one-more x n.edges in
        record {
          sound = record {
            wires = wires-by source-joined edge-joined refl count-joined (joined-edge (source_at n) (edge_at n) (pin_at n) (drives n) (length n.nodes) h.wires a x (edge-past n) edge-in leads.open_);
            ends = back-by source-joined edge-joined (ends-joined (before n) h.ends from to (λ k. through (put a (Some x) (edge_at n)) (put to (OfEdge (record { 0 = a })) (source_at n) k)) apart
                (λ j e. elim (back-joined to j e) [ inl is ↦ is.1 | inr is ↦ absurd (is.0 refl) ])
                (λ k j ne e. elim (back-joined k j e) [ inl is ↦ absurd (ne is.0) | inr is ↦ is.1 ]));
            leaves = h.leaves;
            instances = h.instances;
            rows = h.rows;
          };
          keeps = record {
            sources = λ j no_. (λ i. source-joined i j) ∙ ap (λ b. cond b (OfEdge (record { 0 = a })) (source_at n j)) no_;
            ways = λ e no_. (λ i. edge-joined i e) ∙ ap (λ b. cond b (Some x) (edge_at n e)) no_;
            joins = λ m r no_. refl;
          };
          count = omega (arith, count-joined);
          ways = omega (arith, more);
          leaves = omega arith;
        }
