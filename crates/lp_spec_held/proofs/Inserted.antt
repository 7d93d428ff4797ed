-- One more operator is one more in what the netlist holds.
use Rattle.std.proofs.Common.{◌≡◌, ℕ, Bool, true, false, ◌&&◌, ◌==◌, cond, List, [], ◌∷◌, ◌++◌, length, Some, inl, inr, refl, sym, ap, ◌∙◌, subst, arith}
use Rattle.std.specs.Prelude.{not}
use Rattle.std.proofs.lemmas.Bool.{eq-eqb}
use Rattle.lp_model.specs.declared.graph.Edge.{Edge as EdgeRow}
use Rattle.lp_model.specs.declared.graph.EdgeFrom.{EdgeFrom}
use Rattle.lp_model.specs.declared.graph.EdgeFrom.TheVariants.{Node as FromNode, Const as FromConst}
use Rattle.lp_model.specs.declared.plan.AddedKind.{AddedKind}
use Rattle.lp_spec_design.specs.Keys.{Node, Fixed, Way}
use Rattle.lp_spec_realises.specs.Projects.{Project}
use Rattle.lp_spec_written.specs.Places.{Standing}
use Rattle.lp_spec_written.specs.Nets.{is_inside}
use Rattle.lp_spec_hub.specs.Spots.{Spot, Behind, Before, Lead, Done, with_operator, on_way, is_behind, own_spot}
use Rattle.lp_spec_hub.specs.Drives.{is_fixed}
use Rattle.lp_spec_hub.specs.Changes.{its_way}
use Rattle.lp_spec_hub.specs.Laws.{OneMoreOperator}
use Rattle.lp_spec_hub.specs.Entries.{IsInFlow}
use Rattle.lp_spec_edits.specs.Net.{Net, edge_at}
use Rattle.lp_spec_edits.specs.Edits.{lies_behind, kind_at, head_at, split_behind, split_before, split_from, lead, split_edge, add_cell, connect}
use Rattle.lp_spec_edits.proofs.Wires.{same-or, other-number}
use Rattle.lp_spec_edits.proofs.Opened.{frame-behind, frame-before}
use Rattle.lp_spec_held.specs.Held.{OfOperator, Spots, Holds, more_spots, more_keys}
use Rattle.lp_spec_held.specs.Inserted.{IsPlaced, OneMoreHeld, gap_before, gap_of, insert_operator}
use Rattle.lp_spec_held.proofs.Flow.{true-or}
use Rattle.lp_spec_held.proofs.Placed as at_
use Rattle.lp_spec_held.proofs.BehindEdge as back
use Rattle.lp_spec_held.proofs.BeforeEdge as front

module _ (p : Project) (from : Way → Node) (a : Done) (ks : Spots) (n : Net) (h : Holds p from a ks n) (o : Standing) (kind : AddedKind) (e i c data_ out : ℕ) (placed : IsPlaced p from o e i c data_ out)
    (step : OneMoreOperator) (flow : IsInFlow (with_operator a o).plan.operators) where
  abbrev w : Way
  w = its_way o

  abbrev here : List Standing
  here = on_way a.plan.operators w

  abbrev inside : Bool
  inside = is_inside o.path o.asked.bit

  abbrev with_gap : Net → ℕ → ℕ × ℕ → Net
  with_gap gap l g = connect (connect (add_cell gap i c kind) l data_ g.0) l out g.1

  abbrev with_more : List Spot → Spots
  with_more more = record { nodes = ks.nodes ++ more; leaves = ks.leaves ++ (OfOperator w (length here) ∷ []) }

  abbrev result : Type 0
  result = Holds p from (with_operator a o) (more_keys ks a from o) (insert_operator n e inside i c kind data_ out)

  -- from the keys and the netlist of one of the cases
  as-result : (more : List Spot) (gap : Net) (g : ℕ × ℕ) → more_spots ks a (from w) o ≡ more → split_edge n e inside ≡ gap → length gap.leaves ≡ length n.leaves → gap_of n e inside ≡ g
      → Holds p from (with_operator a o) (with_more more) (with_gap gap (length gap.leaves) g) → result
  as-result more gap g keys net leaves ends holds =
      subst (λ ms. Holds p from (with_operator a o) (with_more ms) (insert_operator n e inside i c kind data_ out)) (sym keys)
      (subst (λ m. Holds p from (with_operator a o) (with_more more) m) (λ u. with_gap (sym net u) (leaves u) (sym ends u)) holds)

  side : lies_behind (kind_at n e) inside ≡ is_behind o
  side = at_.behind-is p from a ks n h o e i c data_ out placed

  own : (b : Bool) → is_behind o ≡ b → own_spot w (length here) o ≡ cond b (Before w (length here)) (Behind w (length here))
  own b is = ap (λ d. cond d (Before w (length here)) (Behind w (length here))) is

  inserted-behind : is_behind o ≡ true → result
  inserted-behind is =
      as-result (Before w (length here) ∷ []) (split_behind n e inside) (length n.nodes, head_at n e)
      (ap (λ b. cond b (cond (length here == 0) (Lead w ∷ own_spot w (length here) o ∷ []) (own_spot w (length here) o ∷ [])) (own_spot w (length here) o ∷ [])) (ap (λ b. not b && is_fixed (from w)) is)
      ∙ ap (λ x. x ∷ []) (own true is))
      (ap (λ b. cond b (split_behind n e inside) (split_before n e inside (edge_at n e))) (side ∙ is))
      (ap length (frame-behind n h.sound e inside (at_.head-low p from a ks n h o e i c data_ out placed)).leaves)
      (ap (λ b. cond b (length n.nodes, head_at n e) (gap_before n (edge_at n e))) (side ∙ is))
      (back.inserted-behind p from a ks n h o kind e i c data_ out placed step flow is)

  module _ (is : is_behind o ≡ false) where
    abbrev row : EdgeRow
    row = (front.held p from a ks n h o kind e i c data_ out placed step flow is).row

    there : edge_at n e ≡ Some row
    there = (front.held p from a ks n h o kind e i c data_ out placed step flow is).there

    net-before : split_edge n e inside ≡ split_before n e inside (Some row)
    net-before = ap (λ b. cond b (split_behind n e inside) (split_before n e inside (edge_at n e))) (side ∙ is) ∙ ap (split_before n e inside) there

    ends-before : gap_of n e inside ≡ gap_before n (Some row)
    ends-before = ap (λ b. cond b (length n.nodes, head_at n e) (gap_before n (edge_at n e))) (side ∙ is) ∙ ap (gap_before n) there

    keys-before : more_spots ks a (from w) o ≡ cond (is_fixed (from w)) (cond (length here == 0) (Lead w ∷ Behind w (length here) ∷ []) (Behind w (length here) ∷ [])) (Behind w (length here) ∷ [])
    keys-before =
        ap (λ b. cond b (cond (length here == 0) (Lead w ∷ own_spot w (length here) o ∷ []) (own_spot w (length here) o ∷ [])) (own_spot w (length here) o ∷ [])) (ap (λ b. not b && is_fixed (from w)) is)
        ∙ ap (λ x. cond (is_fixed (from w)) (cond (length here == 0) (Lead w ∷ x ∷ []) (x ∷ [])) (x ∷ [])) (own false is)

    inserted-before : (f : EdgeFrom) → row.from ≡ f → result
    inserted-before (FromNode j) comes =
        as-result (Behind w (length here) ∷ []) (split_from n e inside j.0) (j.0, length n.nodes) (keys-before ∙ keys (is_fixed (from w)) refl)
        (net-before ∙ ap (λ f. split_before n e inside (Some (record row { from = f }))) comes)
        (ap length (frame-before n h.sound e j.0 inside row there).leaves)
        (ends-before ∙ ap (λ f. gap_before n (Some (record row { from = f }))) comes)
        (front.from-node p from a ks n h o kind e i c data_ out placed step flow is j.0 comes)
      where
        keys : (b : Bool) → is_fixed (from w) ≡ b → cond b (cond (length here == 0) (Lead w ∷ Behind w (length here) ∷ []) (Behind w (length here) ∷ [])) (Behind w (length here) ∷ []) ≡ Behind w (length here) ∷ []
        keys false fixed = refl
        keys true fixed = elim (same-or (length here) 0) [
          | inl none ↦ absurd (let no_ : true ≡ false = sym fixed ∙ front.first-bit p from a ks n h o kind e i c data_ out placed step flow is j.0 comes none in cc)
          | inr some_ ↦ ap (λ b. cond b (Lead w ∷ Behind w (length here) ∷ []) (Behind w (length here) ∷ [])) (other-number (length here) 0 some_)
        ]
    inserted-before (FromConst b) comes =
        as-result (Lead w ∷ Behind w (length here) ∷ []) (split_from (lead n e b) e inside (length n.nodes)) (length n.nodes, length (lead n e b).nodes)
        (keys-before
        ∙ (ap (λ k. cond (is_fixed k) (cond (length here == 0) (Lead w ∷ Behind w (length here) ∷ []) (Behind w (length here) ∷ [])) (Behind w (length here) ∷ [])) fixed
        ∙ ap (λ d. cond d (Lead w ∷ Behind w (length here) ∷ []) (Behind w (length here) ∷ [])) (eq-eqb (length here) 0 none)))
        (net-before ∙ ap (λ f. split_before n e inside (Some (record row { from = f }))) comes)
        (ap length (front.two-frame p from a ks n h o kind e i c data_ out placed step flow is b comes).leaves)
        (ends-before ∙ (ap (λ f. gap_before n (Some (record row { from = f }))) comes ∙ ap (λ k. (length n.nodes, k)) (let size = front.led-count p from a ks n h o kind e i c data_ out placed step flow is b comes in omega (arith, size))))
        (front.from-constant p from a ks n h o kind e i c data_ out placed step flow is b comes)
      where
        fixed : from w ≡ Fixed b
        fixed = front.comes-fixed p from a ks n h o kind e i c data_ out placed step flow is b comes

        none : length here ≡ 0
        none = front.first-one p from a ks n h o kind e i c data_ out placed step flow is b comes

pub one_more_held : OneMoreOperator → OneMoreHeld
one_more_held step p from a ks n h o kind e i c data_ out placed flow = elim (true-or (is_behind o)) [
  | inl is ↦ inserted-behind p from a ks n h o kind e i c data_ out placed step flow is
  | inr is ↦ inserted-before p from a ks n h o kind e i c data_ out placed step flow is (row p from a ks n h o kind e i c data_ out placed step flow is).from refl
]
