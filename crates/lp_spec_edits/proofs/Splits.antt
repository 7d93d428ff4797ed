-- Each gap in an edge leaves a sound netlist.
use Rattle.std.proofs.Common.{◌≡◌, ◌<◌, ℕ, suc, Bool, true, false, cond, ◌||◌, ◌==◌, length, Option, Some, inl, inr, refl, sym, ap, ◌∙◌, subst, arith}
use Rattle.std.proofs.lemmas.Bool.{true≢false}
use Rattle.lp_model.specs.declared.graph.Edge.{Edge as EdgeRow}
use Rattle.lp_model.specs.declared.graph.EdgeFrom.TheVariants.{Node as FromNode, Const as FromConst}
use Rattle.lp_model.specs.declared.graph.EdgeKind.TheVariants.{Assign}
use Rattle.lp_model.specs.declared.graph.NodeName.TheVariants.{Added}
use Rattle.lp_model.specs.declared.graph.Source.TheVariants.{Nothing, Edge as OfEdge}
use Rattle.lp_model.specs.declared.graph.WireKind.TheVariants.{Chain, SwitchOutput}
use Rattle.lp_spec_edits.specs.Net.{Net, source_at, edge_at, pin_at, drives, before, through}
use Rattle.lp_spec_edits.specs.Edits.{driven, with_edge, node_of, edge_of, named, name_at, number_at, next_number, names_passed, open_node, lead_over, led_from, head_at, gap_inst, split_behind, split_from, lead}
use Rattle.lp_spec_edits.specs.Sound.{IsEdge, IsSound, IsEdited, no_entry, no_pin, IsOpen, is_driven, is_its_edge, is_its_pin}
use Rattle.lp_spec_edits.proofs.Wires.{put, put-at, put-other, same-or, joined-edge}
use Rattle.lp_spec_edits.proofs.Ends.{ends-fewer}
use Rattle.lp_spec_edits.proofs.Entries.{source-driven, count-driven, source-named, count-named, length-changed, source-past, edge-with, edge-past, one-more}
use Rattle.lp_spec_edits.proofs.Edited.{wires-by, back-by, none-some, none-there, after-open, source-opened, opened-edited}
use Rattle.lp_spec_edits.proofs.Joined.{before-low}
use Rattle.lp_spec_edits.proofs.Gaps.{named-edited, comes, back-cases, from-edited, over-edited}

-- an edit after which no more entries change
pub then-open : {f g : ℕ → Bool} {p : ℕ → ℕ → Bool} {n m r : Net} → IsEdited f g p n m → IsEdited no_entry no_entry no_pin m r → IsEdited f g p n r
then-open {f} {g} {p} {n} {m} {r} one two = record {
  sound = two.sound;
  keeps = record {
    sources = λ k no_. two.keeps.sources k refl ∙ one.keeps.sources k no_;
    ways = λ e no_. two.keeps.ways e refl ∙ one.keeps.ways e no_;
    joins = λ l q no_. two.keeps.joins l q refl ∙ one.keeps.joins l q no_;
  };
  count = let a = one.count in let b = two.count in omega arith;
  ways = let a = one.ways in let b = two.ways in omega arith;
  leaves = let a = one.leaves in let b = two.leaves in omega arith;
}

either : (a b : Bool) → (a || b) ≡ false → (a ≡ false) × (b ≡ false)
either false false e = (refl, refl)
either false true e = absurd (true≢false e)
either true b e = absurd (true≢false e)

-- two edits, one after another
pub then : {f g f' g' : ℕ → Bool} {p p' : ℕ → ℕ → Bool} {n m r : Net} → IsEdited f g p n m → IsEdited f' g' p' m r → IsEdited (λ k. f k || f' k) (λ e. g e || g' e) (λ l q. p l q || p' l q) n r
then {f} {g} {f'} {g'} {p} {p'} {n} {m} {r} one two = record {
  sound = two.sound;
  keeps = record {
    sources = λ k no_. let none = either (f k) (f' k) no_ in two.keeps.sources k none.1 ∙ one.keeps.sources k none.0;
    ways = λ e no_. let none = either (g e) (g' e) no_ in two.keeps.ways e none.1 ∙ one.keeps.ways e none.0;
    joins = λ l q no_. let none = either (p l q) (p' l q) no_ in two.keeps.joins l q none.1 ∙ one.keeps.joins l q none.0;
  };
  count = let a = one.count in let b = two.count in omega arith;
  ways = let a = one.ways in let b = two.ways in omega arith;
  leaves = let a = one.leaves in let b = two.leaves in omega arith;
}

pub passed-edited : (n : Net) → IsSound n → (inside : Bool) (i beside new : ℕ) → IsEdited no_entry no_entry no_pin n (names_passed inside i beside new n)
passed-edited n h true i beside new =
    let one = named-edited n h beside (Added Chain) (next_number n i Chain) in
    after-open one (named-edited (named beside (Added Chain) (next_number n i Chain) n) one.sound new (name_at n beside) (number_at n beside))
passed-edited n h false i beside new = named-edited n h new (Added Chain) (next_number n i Chain)

module _ (n : Net) (h : IsSound n) where
  -- ---- an edge from a constant to a node that nothing drives

  module _ (b : Bool) (to : ℕ) (opens : IsOpen n to) where
    abbrev x : EdgeRow
    x = edge_of (FromConst b) to Assign

    abbrev a : ℕ
    a = length n.edges

    abbrev constant : Net
    constant = driven to (OfEdge (record { 0 = a })) (with_edge x n)

    const-node : (j : ℕ) → FromConst b ≡ FromNode (record { 0 = j }) → ⊥
    const-node j e = cc

    edge-in : IsEdge (length n.nodes) x
    edge-in = record { begins = λ j e. absurd (const-node j e); leads = opens.there }

    abbrev after : ℕ → Option ℕ
    after k = through (put a (Some x) (edge_at n)) (put to (OfEdge (record { 0 = a })) (source_at n) k)

    fewer : (k j : ℕ) → after k ≡ Some j → before n k ≡ Some j
    fewer k j e = elim (same-or k to) [
      | inl at ↦ absurd (none-some j (sym (ap comes (put-at a (Some x) (edge_at n) a refl)) ∙ (sym (ap (through (put a (Some x) (edge_at n))) (put-at to (OfEdge (record { 0 = a })) (source_at n) k at)) ∙ e)))
      | inr ne ↦
          let found = back-cases n (put a (Some x) (edge_at n)) k j (sym (ap (through (put a (Some x) (edge_at n))) (put-other to (OfEdge (record { 0 = a })) (source_at n) k ne)) ∙ e) in
          let its = h.wires.by_edge k found.0 found.1 in
          let other : found.0 ≡ a → ⊥ = λ same. none-there its.0 (sym (edge-past n) ∙ (ap (edge_at n) (sym same) ∙ its.1)) in
          ap (through (edge_at n)) found.1 ∙ (sym (ap comes (put-other a (Some x) (edge_at n) found.0 other)) ∙ found.2)
    ]

    pub constant-edited : IsEdited (λ j. j == to) (λ e. e == a) no_pin n constant
    constant-edited =
        let source-is : source_at constant ≡ put to (OfEdge (record { 0 = a })) (source_at n) = source-driven (with_edge x n) to (OfEdge (record { 0 = a })) opens.there in
        let edge-is : edge_at constant ≡ put a (Some x) (edge_at n) = edge-with n x in
        let count-is : length constant.nodes ≡ length n.nodes = count-driven (with_edge x n) to (OfEdge (record { 0 = a })) in
        let more = one-more x n.edges in
        record {
          sound = record {
            wires = wires-by source-is edge-is refl count-is (joined-edge (source_at n) (edge_at n) (pin_at n) (drives n) (length n.nodes) h.wires a x (edge-past n) edge-in opens.open_);
            ends = back-by source-is edge-is (ends-fewer (before n) h.ends after fewer);
            leaves = h.leaves;
            instances = h.instances;
            rows = h.rows;
          };
          keeps = record {
            sources = λ j no_. (λ u. source-is u j) ∙ ap (λ c. cond c (OfEdge (record { 0 = a })) (source_at n j)) no_;
            ways = λ e no_. (λ u. edge-is u e) ∙ ap (λ c. cond c (Some x) (edge_at n e)) no_;
            joins = λ m r no_. refl;
          };
          count = omega (arith, count-is);
          ways = omega (arith, more);
          leaves = omega arith;
        }

  -- ---- one node more, for a gap

  module _ (i : ℕ) where
    abbrev wide : Net
    wide = open_node i n

    wide-edited : IsEdited no_entry no_entry no_pin n wide
    wide-edited = opened-edited n h i (Added (SwitchOutput 0)) 0

    size-wide : length wide.nodes ≡ suc (length n.nodes)
    size-wide = one-more (node_of i (Added (SwitchOutput 0)) Nothing) n.nodes

    source-wide : (k : ℕ) → source_at wide k ≡ source_at n k
    source-wide k = λ u. source-opened n h i (Added (SwitchOutput 0)) 0 u k

    before-wide : (k : ℕ) → before wide k ≡ before n k
    before-wide k = ap (through (edge_at n)) (source-wide k)

    wide-open : IsOpen wide (length n.nodes)
    wide-open = record { there = omega (arith, size-wide); open_ = source-wide (length n.nodes) ∙ source-past n }

    unread : (k : ℕ) → before wide k ≡ Some (length n.nodes) → ⊥
    unread k e = let low = before-low n h k (length n.nodes) (sym (before-wide k) ∙ e) in omega (arith, low)

  -- ---- gaps

  pub split_behind_edited : (e : ℕ) (inside : Bool) → head_at n e < length n.nodes → is_driven (source_at n (head_at n e)) ≡ true
      → IsEdited (λ j. (j == head_at n e) || (j == length n.nodes)) (is_its_edge (source_at n (head_at n e))) (is_its_pin (source_at n (head_at n e))) n (split_behind n e inside)
  split_behind_edited e inside head driven_ =
      let k = head_at n e in
      let i = gap_inst n e inside in
      let over = over-edited (wide i) (wide-edited i).sound k (length n.nodes) (omega (arith, head, size-wide i)) (wide-open i) (λ same. omega (arith, head, same)) (unread i) (ap is_driven (source-wide i k) ∙ driven_) in
      let moved = subst (λ s. IsEdited (λ j. (j == k) || (j == length n.nodes)) (is_its_edge s) (is_its_pin s) (wide i) (lead_over s (length n.nodes) (driven k Nothing (wide i)))) (source-wide i k) over in
      then-open (after-open (wide-edited i) moved) (passed-edited (lead_over (source_at n k) (length n.nodes) (driven k Nothing (wide i))) moved.sound inside i k (length n.nodes))

  pub split_from_edited : (e j : ℕ) (inside : Bool) (x : EdgeRow) → edge_at n e ≡ Some x → IsEdited no_entry (λ a. a == e) no_pin n (split_from n e inside j)
  split_from_edited e j inside x there =
      let i = gap_inst n e inside in
      let low = (h.wires.edges e x there).leads in
      let led = from-edited (wide i) (wide-edited i).sound e (length n.nodes) x there (wide-open i) (λ same. omega (arith, low, same)) in
      then-open (after-open (wide-edited i) led) (passed-edited (led_from e (FromNode (record { 0 = length n.nodes })) (wide i)) led.sound inside i j (length n.nodes))

-- a constant's own net
module _ (n : Net) (h : IsSound n) where
  pub constant_led : (e : ℕ) (b : Bool) (x : EdgeRow) → edge_at n e ≡ Some x → IsEdited (λ j. j == length n.nodes) (λ a. (a == e) || (a == length n.edges)) no_pin n (lead n e b)
  constant_led e b x there =
      let i = gap_inst n e false in
      let new = length n.nodes in
      let number = next_number n i Chain in
      let made = named new (Added Chain) number (wide n h i) in
      let one = after-open (wide-edited n h i) (named-edited (wide n h i) (wide-edited n h i).sound new (Added Chain) number) in
      let count-is = count-named (wide n h i) new (Added Chain) number in
      let size = size-wide n h i in
      let opens : IsOpen made new = record { there = omega (arith, count-is, size); open_ = (λ u. source-named (wide n h i) new (Added Chain) number u new) ∙ (wide-open n h i).open_ } in
      let low = (h.wires.edges e x there).leads in
      let two = from-edited made one.sound e new x there opens (λ same. omega (arith, low, same)) in
      let led = led_from e (FromNode (record { 0 = new })) made in
      let still : IsOpen led new = record { there = opens.there; open_ = opens.open_ } in
      let three = constant-edited led two.sound b new still in
      let moved = subst (λ c. IsEdited (λ j. j == new) (λ a. a == c) no_pin led (driven new (OfEdge (record { 0 = c })) (with_edge (edge_of (FromConst b) new Assign) led))) (length-changed (λ (u : EdgeRow). record u { from = FromNode (record { 0 = new }) }) e n.edges) three in
      after-open one (then two moved)
