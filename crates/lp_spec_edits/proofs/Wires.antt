-- Wires that agree at both ends still do after a change at a few places.
use Rattle.std.proofs.Common.{◌≡◌, ◌⊎◌, ◌<◌, ℕ, suc, Bool, true, false, cond, ◌&&◌, ◌==◌, Option, Some, None, inl, inr, refl, sym, ap, ◌∙◌, subst, arith}
use Rattle.std.proofs.lemmas.Bool.{true≢false, eqb-true, eq-eqb}
use Rattle.lp_model.specs.declared.graph.Edge.{Edge as EdgeRow}
use Rattle.lp_model.specs.declared.graph.EdgeFrom.{EdgeFrom}
use Rattle.lp_model.specs.declared.graph.EdgeFrom.TheVariants.{Node as FromNode}
use Rattle.lp_model.specs.declared.graph.PinNet.{PinNet}
use Rattle.lp_model.specs.declared.graph.PinNet.TheVariants.{Unconnected, Node as PinNode}
use Rattle.lp_model.specs.declared.graph.Source.{Source as SourceRow}
use Rattle.lp_model.specs.declared.graph.Source.TheVariants.{Nothing, Leaf as OfLeaf, Edge as OfEdge}
use Rattle.lp_spec_edits.specs.Sound.{IsEdge, AreWires}

-- ---- a function that is changed at one place

abbrev pub put : {A : Type 0} → ℕ → A → (ℕ → A) → ℕ → A
put k y f j = cond (j == k) y (f j)

abbrev pub put_pin : ℕ → ℕ → PinNet → (ℕ → ℕ → PinNet) → ℕ → ℕ → PinNet
put_pin l q y f m r = cond ((m == l) && (r == q)) y (f m r)

pub differ : (j k : ℕ) → (j == k) ≡ false → j ≡ k → ⊥
differ j k is e = true≢false (sym (eq-eqb j k e) ∙ is)

pub same-or : (j k : ℕ) → (j ≡ k) ⊎ (j ≡ k → ⊥)
same-or j k = by (j == k) refl
  where
    by : (b : Bool) → (j == k) ≡ b → (j ≡ k) ⊎ (j ≡ k → ⊥)
    by true e = inl (eqb-true j k e)
    by false e = inr (differ j k e)

pub other-number : (j k : ℕ) → (j ≡ k → ⊥) → (j == k) ≡ false
other-number j k ne = by (j == k) refl
  where
    by : (b : Bool) → (j == k) ≡ b → (j == k) ≡ false
    by true e = absurd (ne (eqb-true j k e))
    by false e = e

module _ {A : Type 0} (k : ℕ) (y : A) (f : ℕ → A) where
  pub put-at : (j : ℕ) → j ≡ k → put k y f j ≡ y
  put-at j e = ap (λ b. cond b y (f j)) (eq-eqb j k e)

  pub put-other : (j : ℕ) → (j ≡ k → ⊥) → put k y f j ≡ f j
  put-other j ne = ap (λ b. cond b y (f j)) (other-number j k ne)

module _ (l q : ℕ) (y : PinNet) (f : ℕ → ℕ → PinNet) where
  pub pin-at : (m r : ℕ) → m ≡ l → r ≡ q → put_pin l q y f m r ≡ y
  pin-at m r e g = ap (λ b. cond (b && (r == q)) y (f m r)) (eq-eqb m l e) ∙ ap (λ b. cond b y (f m r)) (eq-eqb r q g)

  pub pin-other : (m r : ℕ) → ((m ≡ l) × (r ≡ q) → ⊥) → put_pin l q y f m r ≡ f m r
  pin-other m r ne = by (m == l) (r == q) refl refl
    where
      by : (b c : Bool) → (m == l) ≡ b → (r == q) ≡ c → cond ((m == l) && (r == q)) y (f m r) ≡ f m r
      by true true e g = absurd (ne (eqb-true m l e, eqb-true r q g))
      by true false e g = ap (λ b. cond ((m == l) && b) y (f m r)) g ∙ ap (λ b. cond (b && false) y (f m r)) e
      by false c e g = ap (λ b. cond (b && (r == q)) y (f m r)) e

  pub pin-or : (m r : ℕ) → ((m ≡ l) × (r ≡ q)) ⊎ ((m ≡ l) × (r ≡ q) → ⊥)
  pin-or m r = elim (same-or m l) [
    | inl e ↦ elim (same-or r q) [ inl g ↦ inl (e, g) | inr ne ↦ inr (λ both. ne both.1) ]
    | inr ne ↦ inr (λ both. ne both.0)
  ]

-- ---- what the tables say

abbrev number_in : PinNet → ℕ
number_in (PinNode k) = k.0
number_in _ = 0

pub same-node : (j k : ℕ) → PinNode (record { 0 = j }) ≡ PinNode (record { 0 = k }) → j ≡ k
same-node j k e = ap number_in e

pub open-pin : (k : ℕ) → Unconnected ≡ PinNode (record { 0 = k }) → ⊥
open-pin k e = cc

pub no-leaf : (q l : ℕ) → Nothing ≡ OfLeaf q (record { 0 = l }) → ⊥
no-leaf q l e = cc

pub no-edge : (a : ℕ) → Nothing ≡ OfEdge (record { 0 = a }) → ⊥
no-edge a e = cc

pub leaf-no-edge : (q l a : ℕ) → OfLeaf q (record { 0 = l }) ≡ OfEdge (record { 0 = a }) → ⊥
leaf-no-edge q l a e = cc

abbrev leaf_number : SourceRow → ℕ
leaf_number (OfLeaf q l) = l.0
leaf_number _ = 0

abbrev pin_number : SourceRow → ℕ
pin_number (OfLeaf q l) = q
pin_number _ = 0

abbrev edge_number : SourceRow → ℕ
edge_number (OfEdge e) = e.0
edge_number _ = 0

pub same-leaf : (q l r m : ℕ) → OfLeaf q (record { 0 = l }) ≡ OfLeaf r (record { 0 = m }) → l ≡ m
same-leaf q l r m e = ap leaf_number e

pub same-pin : (q l r m : ℕ) → OfLeaf q (record { 0 = l }) ≡ OfLeaf r (record { 0 = m }) → q ≡ r
same-pin q l r m e = ap pin_number e

abbrev from_number : EdgeFrom → ℕ
from_number (FromNode j) = j.0
from_number _ = 0

pub same-from : (j i : ℕ) → FromNode (record { 0 = j }) ≡ FromNode (record { 0 = i }) → j ≡ i
same-from j i e = ap from_number e

pub same-some : {A : Type 0} (x y : A) → Some x ≡ Some y → x ≡ y
same-some x y e = let same : x ≡ y = cc in same

pub same-edge : (a b : ℕ) → OfEdge (record { 0 = a }) ≡ OfEdge (record { 0 = b }) → a ≡ b
same-edge a b e = ap edge_number e

module _ (source : ℕ → SourceRow) (edge : ℕ → Option EdgeRow) (pin : ℕ → ℕ → PinNet) (driving : ℕ → ℕ → Bool) (count : ℕ) (w : AreWires source edge pin driving count) where
  -- a pin that is open drives no node
  free-pin : (l q : ℕ) → pin l q ≡ Unconnected → (k m r : ℕ) → source k ≡ OfLeaf r (record { 0 = m }) → (m ≡ l) × (r ≡ q) → ⊥
  free-pin l q free k m r is e = open-pin k (sym free ∙ (ap (λ x. pin x q) (sym e.0) ∙ (ap (pin m) (sym e.1) ∙ w.by_pin k m r is)))

  -- ---- one node more

  grown-edge : (x : EdgeRow) → IsEdge count x → IsEdge (suc count) x
  grown-edge x h = record { begins = λ j e. let low = h.begins j e in omega arith; leads = let low = h.leads in omega arith }

  pub grown : AreWires source edge pin driving (suc count)
  grown = record {
    by_pin = w.by_pin;
    by_edge = w.by_edge;
    leads = w.leads;
    outputs = w.outputs;
    inputs = w.inputs;
    pins = λ l q k e. let low = w.pins l q k e in omega arith;
    edges = λ e x is. grown-edge x (w.edges e x is);
  }

  -- ---- a pin that is joined

  pub joined-input : (l q k : ℕ) → pin l q ≡ Unconnected → driving l q ≡ false → k < count → AreWires source edge (put_pin l q (PinNode (record { 0 = k })) pin) driving count
  joined-input l q k free idle low =
      let y = PinNode (record { 0 = k }) in
      record {
        by_pin = λ j m r is. pin-other l q y pin m r (free-pin l q free j m r is) ∙ w.by_pin j m r is;
        by_edge = w.by_edge;
        leads = w.leads;
        outputs = λ m r j yes_ is. elim (pin-or l q y pin m r) [
          | inl e ↦ absurd (true≢false (sym yes_ ∙ (ap (λ x. driving x r) e.0 ∙ (ap (driving l) e.1 ∙ idle))))
          | inr ne ↦ w.outputs m r j yes_ (sym (pin-other l q y pin m r ne) ∙ is)
        ];
        inputs = w.inputs;
        pins = λ m r j is. elim (pin-or l q y pin m r) [
          | inl e ↦ let same = same-node k j (sym (pin-at l q y pin m r e.0 e.1) ∙ is) in omega (arith, same, low)
          | inr ne ↦ w.pins m r j (sym (pin-other l q y pin m r ne) ∙ is)
        ];
        edges = w.edges;
      }

  pub joined-output : (l q k : ℕ) → pin l q ≡ Unconnected → driving l q ≡ true → k < count → source k ≡ Nothing
      → AreWires (put k (OfLeaf q (record { 0 = l })) source) edge (put_pin l q (PinNode (record { 0 = k })) pin) driving count
  joined-output l q k free drives low none =
      let y = PinNode (record { 0 = k }) in
      let z = OfLeaf q (record { 0 = l }) in
      record {
        by_pin = λ j m r is. elim (same-or j k) [
          | inl e ↦
              let at = sym (put-at k z source j e) ∙ is in
              pin-at l q y pin m r (sym (same-leaf q l r m at)) (sym (same-pin q l r m at)) ∙ ap (λ x. PinNode (record { 0 = x })) (sym e)
          | inr ne ↦
              let old = sym (put-other k z source j ne) ∙ is in
              pin-other l q y pin m r (free-pin l q free j m r old) ∙ w.by_pin j m r old
        ];
        by_edge = λ j a is. elim (same-or j k) [
          | inl e ↦ absurd (leaf-no-edge q l a (sym (put-at k z source j e) ∙ is))
          | inr ne ↦ w.by_edge j a (sym (put-other k z source j ne) ∙ is)
        ];
        leads = λ a x is. let old = w.leads a x is in put-other k z source x.to.0 (λ e. no-edge a (sym none ∙ (ap source (sym e) ∙ old))) ∙ old;
        outputs = λ m r j yes_ is. elim (pin-or l q y pin m r) [
          | inl e ↦
              let same = same-node k j (sym (pin-at l q y pin m r e.0 e.1) ∙ is) in
              put-at k z source j (sym same) ∙ (λ i. OfLeaf (sym e.1 i) (record { 0 = sym e.0 i }))
          | inr ne ↦
              let old = w.outputs m r j yes_ (sym (pin-other l q y pin m r ne) ∙ is) in
              put-other k z source j (λ e. no-leaf r m (sym none ∙ (ap source (sym e) ∙ old))) ∙ old
        ];
        inputs = λ j m r is. elim (same-or j k) [
          | inl e ↦
              let at = sym (put-at k z source j e) ∙ is in
              ap (λ x. driving x r) (sym (same-leaf q l r m at)) ∙ (ap (driving l) (sym (same-pin q l r m at)) ∙ drives)
          | inr ne ↦ w.inputs j m r (sym (put-other k z source j ne) ∙ is)
        ];
        pins = λ m r j is. elim (pin-or l q y pin m r) [
          | inl e ↦ let same = same-node k j (sym (pin-at l q y pin m r e.0 e.1) ∙ is) in omega (arith, same, low)
          | inr ne ↦ w.pins m r j (sym (pin-other l q y pin m r ne) ∙ is)
        ];
        edges = w.edges;
      }

  -- ---- one edge more, to a node that nothing drives

  pub joined-edge : (a : ℕ) (x : EdgeRow) → edge a ≡ None → IsEdge count x → source x.to.0 ≡ Nothing
      → AreWires (put x.to.0 (OfEdge (record { 0 = a })) source) (put a (Some x) edge) pin driving count
  joined-edge a x fresh ok none =
      let z = OfEdge (record { 0 = a }) in
      record {
        by_pin = λ j m r is. elim (same-or j x.to.0) [
          | inl e ↦ absurd (leaf-no-edge r m a (sym is ∙ put-at x.to.0 z source j e))
          | inr ne ↦ w.by_pin j m r (sym (put-other x.to.0 z source j ne) ∙ is)
        ];
        by_edge = λ j b is. elim (same-or j x.to.0) [
          | inl e ↦
              let same = same-edge a b (sym (put-at x.to.0 z source j e) ∙ is) in
              (x, put-at a (Some x) edge b (sym same), sym e)
          | inr ne ↦
              let old = w.by_edge j b (sym (put-other x.to.0 z source j ne) ∙ is) in
              (old.0, put-other a (Some x) edge b (λ e. some-none old.0 (sym old.1 ∙ (ap edge e ∙ fresh))) ∙ old.1, old.2)
        ];
        leads = λ b u is. elim (same-or b a) [
          | inl e ↦ its-lead b u e (sym (put-at a (Some x) edge b e) ∙ is)
          | inr ne ↦
              let old = w.leads b u (sym (put-other a (Some x) edge b ne) ∙ is) in
              put-other x.to.0 z source u.to.0 (λ e. no-edge b (sym none ∙ (ap source (sym e) ∙ old))) ∙ old
        ];
        outputs = λ m r j yes_ is.
            let old = w.outputs m r j yes_ is in
            put-other x.to.0 z source j (λ e. no-leaf r m (sym none ∙ (ap source (sym e) ∙ old))) ∙ old;
        inputs = λ j m r is. elim (same-or j x.to.0) [
          | inl e ↦ absurd (leaf-no-edge r m a (sym is ∙ put-at x.to.0 z source j e))
          | inr ne ↦ w.inputs j m r (sym (put-other x.to.0 z source j ne) ∙ is)
        ];
        pins = w.pins;
        edges = λ b u is. elim (same-or b a) [
          | inl e ↦ is-it u (sym (put-at a (Some x) edge b e) ∙ is)
          | inr ne ↦ w.edges b u (sym (put-other a (Some x) edge b ne) ∙ is)
        ];
      }
    where
      some-none : (u : EdgeRow) → Some u ≡ None → ⊥
      some-none u e = cc

      its-lead : (b : ℕ) (u : EdgeRow) → b ≡ a → Some x ≡ Some u → put x.to.0 (OfEdge (record { 0 = a })) source u.to.0 ≡ OfEdge (record { 0 = b })
      its-lead b u e is = put-at x.to.0 (OfEdge (record { 0 = a })) source u.to.0 (ap (λ (o : EdgeRow). o.to.0) (sym (same-some x u is))) ∙ ap (λ c. OfEdge (record { 0 = c })) (sym e)

      is-it : (u : EdgeRow) → Some x ≡ Some u → IsEdge count u
      is-it u e = let same : x ≡ u = cc in subst (IsEdge count) same ok

  -- ---- an edge that comes from another node

  pub led-from : (a j : ℕ) (x : EdgeRow) → edge a ≡ Some x → j < count → AreWires source (put a (Some (record x { from = FromNode (record { 0 = j }) })) edge) pin driving count
  led-from a j x there low =
      let y = record x { from = FromNode (record { 0 = j }) } in
      record {
        by_pin = w.by_pin;
        by_edge = λ k b is.
            let old = w.by_edge k b is in
            elim (same-or b a) [
              | inl e ↦ (y, put-at a (Some y) edge b e, to-same old.0 (sym old.1 ∙ (ap edge e ∙ there)) ∙ old.2)
              | inr ne ↦ (old.0, put-other a (Some y) edge b ne ∙ old.1, old.2)
            ];
        leads = λ b u is. elim (same-or b a) [
          | inl e ↦ ap (λ (o : EdgeRow). source o.to.0) (sym (same-some y u (sym (put-at a (Some y) edge b e) ∙ is))) ∙ (w.leads a x there ∙ ap (λ c. OfEdge (record { 0 = c })) (sym e))
          | inr ne ↦ w.leads b u (sym (put-other a (Some y) edge b ne) ∙ is)
        ];
        outputs = w.outputs;
        inputs = w.inputs;
        pins = w.pins;
        edges = λ b u is. elim (same-or b a) [
          | inl e ↦ is-it u (sym (put-at a (Some y) edge b e) ∙ is)
          | inr ne ↦ w.edges b u (sym (put-other a (Some y) edge b ne) ∙ is)
        ];
      }
    where
      to-same : (u : EdgeRow) → Some u ≡ Some x → x.to.0 ≡ u.to.0
      to-same u e = let same : u ≡ x = cc in ap (λ (v : EdgeRow). v.to.0) (sym same)

      from-same : (i : ℕ) → FromNode (record { 0 = j }) ≡ FromNode (record { 0 = i }) → i < count
      from-same i e = let same = same-from j i e in omega (arith, same, low)

      is-it : (u : EdgeRow) → Some (record x { from = FromNode (record { 0 = j }) }) ≡ Some u → IsEdge count u
      is-it u e =
          let same : record x { from = FromNode (record { 0 = j }) } ≡ u = cc in
          subst (IsEdge count) same (record { begins = from-same; leads = (w.edges a x there).leads })

  -- ---- a node hands over what drives it to another one

  module _ (k new : ℕ) (low : new < count) (open_ : source new ≡ Nothing) where
    pub over-leaf : (q l : ℕ) → source k ≡ OfLeaf q (record { 0 = l })
        → AreWires (put new (OfLeaf q (record { 0 = l })) (put k Nothing source)) edge (put_pin l q (PinNode (record { 0 = new })) pin) driving count
    over-leaf q l has =
        let y = PinNode (record { 0 = new }) in
        let z = OfLeaf q (record { 0 = l }) in
        record {
          by_pin = λ j m r is. elim (same-or j new) [
            | inl e ↦
                let at = sym (put-at new z (put k Nothing source) j e) ∙ is in
                pin-at l q y pin m r (sym (same-leaf q l r m at)) (sym (same-pin q l r m at)) ∙ ap (λ x. PinNode (record { 0 = x })) (sym e)
            | inr ne ↦ elim (same-or j k) [
              | inl e ↦ absurd (no-leaf r m (sym (put-other new z (put k Nothing source) j ne ∙ put-at k Nothing source j e) ∙ is))
              | inr differs ↦
                  let old = sym (put-other new z (put k Nothing source) j ne ∙ put-other k Nothing source j differs) ∙ is in
                  let joined = w.by_pin j m r old in
                  pin-other l q y pin m r (λ e. differs (same-node j k (sym joined ∙ (ap (λ x. pin x r) e.0 ∙ (ap (pin l) e.1 ∙ w.by_pin k l q has))))) ∙ joined
            ]
          ];
          by_edge = λ j a is. elim (same-or j new) [
            | inl e ↦ absurd (leaf-no-edge q l a (sym (put-at new z (put k Nothing source) j e) ∙ is))
            | inr ne ↦ elim (same-or j k) [
              | inl e ↦ absurd (no-edge a (sym (put-other new z (put k Nothing source) j ne ∙ put-at k Nothing source j e) ∙ is))
              | inr differs ↦ w.by_edge j a (sym (put-other new z (put k Nothing source) j ne ∙ put-other k Nothing source j differs) ∙ is)
            ]
          ];
          leads = λ a u is.
              let old = w.leads a u is in
              put-other new z (put k Nothing source) u.to.0 (λ e. no-edge a (sym open_ ∙ (ap source (sym e) ∙ old)))
              ∙ (put-other k Nothing source u.to.0 (λ e. leaf-no-edge q l a (sym has ∙ (ap source (sym e) ∙ old))) ∙ old);
          outputs = λ m r j yes_ is. elim (pin-or l q y pin m r) [
            | inl e ↦
                let same = same-node new j (sym (pin-at l q y pin m r e.0 e.1) ∙ is) in
                put-at new z (put k Nothing source) j (sym same) ∙ (λ i. OfLeaf (sym e.1 i) (record { 0 = sym e.0 i }))
            | inr ne ↦
                let old = w.outputs m r j yes_ (sym (pin-other l q y pin m r ne) ∙ is) in
                put-other new z (put k Nothing source) j (λ e. no-leaf r m (sym open_ ∙ (ap source (sym e) ∙ old)))
                ∙ (put-other k Nothing source j (λ e. let at = sym has ∙ (ap source (sym e) ∙ old) in ne (sym (same-leaf q l r m at), sym (same-pin q l r m at))) ∙ old)
          ];
          inputs = λ j m r is. elim (same-or j new) [
            | inl e ↦
                let at = sym (put-at new z (put k Nothing source) j e) ∙ is in
                ap (λ x. driving x r) (sym (same-leaf q l r m at)) ∙ (ap (driving l) (sym (same-pin q l r m at)) ∙ w.inputs k l q has)
            | inr ne ↦ elim (same-or j k) [
              | inl e ↦ absurd (no-leaf r m (sym (put-other new z (put k Nothing source) j ne ∙ put-at k Nothing source j e) ∙ is))
              | inr differs ↦ w.inputs j m r (sym (put-other new z (put k Nothing source) j ne ∙ put-other k Nothing source j differs) ∙ is)
            ]
          ];
          pins = λ m r j is. elim (pin-or l q y pin m r) [
            | inl e ↦ let same = same-node new j (sym (pin-at l q y pin m r e.0 e.1) ∙ is) in omega (arith, same, low)
            | inr ne ↦ w.pins m r j (sym (pin-other l q y pin m r ne) ∙ is)
          ];
          edges = w.edges;
        }

    pub over-edge : (a : ℕ) (x : EdgeRow) → source k ≡ OfEdge (record { 0 = a }) → edge a ≡ Some x
        → AreWires (put new (OfEdge (record { 0 = a })) (put k Nothing source)) (put a (Some (record x { to = record { 0 = new } })) edge) pin driving count
    over-edge a x has there =
        let z = OfEdge (record { 0 = a }) in
        let y = record x { to = record { 0 = new } } in
        record {
          by_pin = λ j m r is. elim (same-or j new) [
            | inl e ↦ absurd (leaf-no-edge r m a (sym is ∙ put-at new z (put k Nothing source) j e))
            | inr ne ↦ elim (same-or j k) [
              | inl e ↦ absurd (no-leaf r m (sym (put-other new z (put k Nothing source) j ne ∙ put-at k Nothing source j e) ∙ is))
              | inr differs ↦ w.by_pin j m r (sym (put-other new z (put k Nothing source) j ne ∙ put-other k Nothing source j differs) ∙ is)
            ]
          ];
          by_edge = λ j b is. elim (same-or j new) [
            | inl e ↦ (y, put-at a (Some y) edge b (sym (same-edge a b (sym (put-at new z (put k Nothing source) j e) ∙ is))), sym e)
            | inr ne ↦ elim (same-or j k) [
              | inl e ↦ absurd (no-edge b (sym (put-other new z (put k Nothing source) j ne ∙ put-at k Nothing source j e) ∙ is))
              | inr differs ↦
                  let old = w.by_edge j b (sym (put-other new z (put k Nothing source) j ne ∙ put-other k Nothing source j differs) ∙ is) in
                  let own = w.by_edge k a has in
                  (old.0, put-other a (Some y) edge b (λ e. differs (sym old.2 ∙ (same-to old.0 own.0 (sym old.1 ∙ (ap edge e ∙ own.1)) ∙ own.2))) ∙ old.1, old.2)
            ]
          ];
          leads = λ b u is. elim (same-or b a) [
            | inl e ↦ put-at new z (put k Nothing source) u.to.0 (ap (λ (o : EdgeRow). o.to.0) (sym (same-some y u (sym (put-at a (Some y) edge b e) ∙ is)))) ∙ ap (λ c. OfEdge (record { 0 = c })) (sym e)
            | inr ne ↦
                let old = w.leads b u (sym (put-other a (Some y) edge b ne) ∙ is) in
                put-other new z (put k Nothing source) u.to.0 (λ e. no-edge b (sym open_ ∙ (ap source (sym e) ∙ old)))
                ∙ (put-other k Nothing source u.to.0 (λ e. ne (sym (same-edge a b (sym has ∙ (ap source (sym e) ∙ old))))) ∙ old)
          ];
          outputs = λ m r j yes_ is.
              let old = w.outputs m r j yes_ is in
              put-other new z (put k Nothing source) j (λ e. no-leaf r m (sym open_ ∙ (ap source (sym e) ∙ old)))
              ∙ (put-other k Nothing source j (λ e. leaf-no-edge r m a (sym old ∙ (ap source e ∙ has))) ∙ old);
          inputs = λ j m r is. elim (same-or j new) [
            | inl e ↦ absurd (leaf-no-edge r m a (sym is ∙ put-at new z (put k Nothing source) j e))
            | inr ne ↦ elim (same-or j k) [
              | inl e ↦ absurd (no-leaf r m (sym (put-other new z (put k Nothing source) j ne ∙ put-at k Nothing source j e) ∙ is))
              | inr differs ↦ w.inputs j m r (sym (put-other new z (put k Nothing source) j ne ∙ put-other k Nothing source j differs) ∙ is)
            ]
          ];
          pins = w.pins;
          edges = λ b u is. elim (same-or b a) [
            | inl e ↦ is-it u (sym (put-at a (Some y) edge b e) ∙ is)
            | inr ne ↦ w.edges b u (sym (put-other a (Some y) edge b ne) ∙ is)
          ];
        }
      where
        same-to : (u v : EdgeRow) → Some u ≡ Some v → u.to.0 ≡ v.to.0
        same-to u v e = let same : u ≡ v = cc in ap (λ (o : EdgeRow). o.to.0) same

        is-it : (u : EdgeRow) → Some (record x { to = record { 0 = new } }) ≡ Some u → IsEdge count u
        is-it u e =
            let same : record x { to = record { 0 = new } } ≡ u = cc in
            subst (IsEdge count) same (record { begins = (w.edges a x there).begins; leads = low })
