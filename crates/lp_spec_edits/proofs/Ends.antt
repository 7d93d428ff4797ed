-- Ways still end after a change at a few places: a rank is kept that falls along each edge.
use Rattle.std.proofs.Common.{◌≡◌, ◌<◌, ◌≤◌, ℕ, zero, suc, ◌+◌, Bool, true, false, cond, ◌||◌, ◌==◌, Option, Some, None, inl, inr, refl, sym, ap, ◌∙◌, arith}
use Rattle.std.proofs.lemmas.Bool.{eq-eqb}
use Rattle.lp_spec_edits.specs.Net.{some_node}
use Rattle.lp_spec_edits.specs.Sound.{HasEnds}
use Rattle.lp_spec_edits.proofs.Wires.{put, put-at, put-other, same-or, other-number}

-- within so many steps back a node is met
abbrev pub met : (ℕ → Option ℕ) → ℕ → ℕ → ℕ → Bool
met back x zero k = k == x
met back x (suc steps) k = (k == x) || some_node (λ j. met back x steps j) (back k)

none-some : (j : ℕ) → None ≡ Some j → ⊥
none-some j e = cc

same-some : (i j : ℕ) → Some i ≡ Some j → i ≡ j
same-some i j e = let same : i ≡ j = cc in same

module _ (back : ℕ → Option ℕ) (h : HasEnds back) where
  -- where no way is new
  pub ends-fewer : (after : ℕ → Option ℕ) → ((k j : ℕ) → after k ≡ Some j → back k ≡ Some j) → HasEnds after
  ends-fewer after old = record { rank = h.rank; falls = λ k j e. h.falls k j (old k j e) }

  -- a node to which nothing leads any more, and from which new ways come
  pub ends-before : (new : ℕ) (after : ℕ → Option ℕ) → ((k j : ℕ) → after k ≡ Some j → (j ≡ new → ⊥) → back k ≡ Some j) → (after new ≡ None) → HasEnds after
  ends-before new after old none = record {
    rank = put new 0 (λ j. suc (h.rank j));
    falls = λ k j e.
        let there = put-other new 0 (λ i. suc (h.rank i)) k (λ is. none-some j (sym none ∙ (ap after (sym is) ∙ e))) in
        elim (same-or j new) [
          | inl is ↦ let here = put-at new 0 (λ i. suc (h.rank i)) j is in omega (arith, here, there)
          | inr ne ↦
              let here = put-other new 0 (λ i. suc (h.rank i)) j ne in
              let falls = h.falls k j (old k j e ne) in
              omega (arith, here, there, falls)
        ];
  }

  -- a node from which no way comes takes the way to another one, which nothing leads to any more
  pub ends-behind : (new x : ℕ) (after : ℕ → Option ℕ) → ((k j : ℕ) → after k ≡ Some j → j ≡ new → ⊥) → ((j : ℕ) → after new ≡ Some j → back x ≡ Some j) → ((k j : ℕ) → (k ≡ new → ⊥) → after k ≡ Some j → back k ≡ Some j) → HasEnds after
  ends-behind new x after apart taken old = record {
    rank = put new (h.rank x) h.rank;
    falls = λ k j e.
        let here = put-other new (h.rank x) h.rank j (apart k j e) in
        elim (same-or k new) [
          | inl is ↦
              let there = put-at new (h.rank x) h.rank k is in
              let falls = h.falls x j (taken j (ap after (sym is) ∙ e)) in
              omega (arith, here, there, falls)
          | inr ne ↦
              let there = put-other new (h.rank x) h.rank k ne in
              let falls = h.falls k j (old k j ne e) in
              omega (arith, here, there, falls)
        ];
  }

  -- a node from which no way comes is led to
  pub ends-last : (new outer : ℕ) (after : ℕ → Option ℕ) → ((k j : ℕ) → after k ≡ Some j → j ≡ new → ⊥) → ((j : ℕ) → after new ≡ Some j → j ≡ outer) → ((k j : ℕ) → (k ≡ new → ⊥) → after k ≡ Some j → back k ≡ Some j) → HasEnds after
  ends-last new outer after apart taken old = record {
    rank = put new (suc (h.rank outer)) h.rank;
    falls = λ k j e.
        let here = put-other new (suc (h.rank outer)) h.rank j (apart k j e) in
        elim (same-or k new) [
          | inl is ↦
              let there = put-at new (suc (h.rank outer)) h.rank k is in
              let same = ap h.rank (taken j (ap after (sym is) ∙ e)) in
              omega (arith, here, there, same)
          | inr ne ↦
              let there = put-other new (suc (h.rank outer)) h.rank k ne in
              let falls = h.falls k j (old k j ne e) in
              omega (arith, here, there, falls)
        ];
  }

  -- ---- two nodes are joined

  or-false : (b : Bool) → b ≡ (b || false)
  or-false true = refl
  or-false false = refl

  -- where a way ends, nothing more is met
  met-end : (x i : ℕ) → h.rank i ≤ 0 → (f : ℕ) → met back x f i ≡ (i == x)
  met-end x i low zero = refl
  met-end x i low (suc f) = by (back i) refl
    where
      by : (o : Option ℕ) → back i ≡ o → ((i == x) || some_node (λ j. met back x f j) (back i)) ≡ (i == x)
      by None e = rw e (sym (or-false (i == x)))
      by (Some u) e = absurd (let falls = h.falls i u e in omega (arith, falls, low))

  -- what is met does not change with more steps than the rank
  pub met-same : (x m j : ℕ) → h.rank j ≤ m → (f g : ℕ) → m ≤ f → m ≤ g → met back x f j ≡ met back x g j
  met-same x zero j low f g hf hg = met-end x j low f ∙ sym (met-end x j low g)
  met-same x (suc m) j low zero g hf hg = absurd (omega (arith, hf))
  met-same x (suc m) j low (suc f) zero hf hg = absurd (omega (arith, hg))
  met-same x (suc m) j low (suc f) (suc g) hf hg = by (back j) refl (λ u e. met-same x m u (let falls = h.falls j u e in omega (arith, falls, low)) f g (omega (arith, hf)) (omega (arith, hg)))
    where
      by : (o : Option ℕ) → back j ≡ o → ((u : ℕ) → back j ≡ Some u → met back x f u ≡ met back x g u) → ((j == x) || some_node (λ i. met back x f i) (back j)) ≡ ((j == x) || some_node (λ i. met back x g i) (back j))
      by None e more = rw e refl
      by (Some u) e more = rw e (ap (λ b. (j == x) || b) (more u e))

  -- from another node the same is met as from the one before it
  met-back : (x k j : ℕ) → (k ≡ x → ⊥) → back k ≡ Some j → met back x (h.rank k) k ≡ met back x (h.rank j) j
  met-back x k j ne e =
      let falls = h.falls k j e in
      met-same x (h.rank k) k (omega arith) (h.rank k) (suc (h.rank k)) (omega arith) (omega arith)
      ∙ (ap (λ b. b || some_node (λ i. met back x (h.rank k) i) (back k)) (other-number k x ne)
      ∙ (ap (some_node (λ i. met back x (h.rank k) i)) e
      ∙ met-same x (h.rank j) j (omega arith) (h.rank k) (h.rank j) (omega (arith, falls)) (omega arith)))

  met-self : (x : ℕ) (f : ℕ) → met back x f x ≡ true
  met-self x zero = eq-eqb x x refl
  met-self x (suc f) = ap (λ b. b || some_node (λ i. met back x f i) (back x)) (eq-eqb x x refl)

  abbrev raised : ℕ → ℕ → ℕ → ℕ
  raised from to k = cond (met back to (h.rank k) k) (suc (h.rank from)) 0 + h.rank k

  raised-old : (from to k j : ℕ) → (k ≡ to → ⊥) → back k ≡ Some j → raised from to j < raised from to k
  raised-old from to k j ne e =
      let falls = h.falls k j e in
      let same = ap (λ b. cond b (suc (h.rank from)) 0) (met-back to k j ne e) in
      omega (arith, falls, same)

  raised-new : (from to : ℕ) → met back to (h.rank from) from ≡ false → raised from to from < raised from to to
  raised-new from to apart =
      let low = ap (λ b. cond b (suc (h.rank from)) 0) apart in
      let high = ap (λ b. cond b (suc (h.rank from)) 0) (met-self to (h.rank to)) in
      omega (arith, low, high)

  pub ends-joined : (from to : ℕ) (after : ℕ → Option ℕ) → ((steps : ℕ) → met back to steps from ≡ false) → ((j : ℕ) → after to ≡ Some j → j ≡ from) → ((k j : ℕ) → (k ≡ to → ⊥) → after k ≡ Some j → back k ≡ Some j) → HasEnds after
  ends-joined from to after apart taken old = record {
    rank = raised from to;
    falls = λ k j e. elim (same-or k to) [
      | inl is ↦
          let new = raised-new from to (apart (h.rank from)) in
          let one = ap (raised from to) (taken j (ap after (sym is) ∙ e)) in
          let two = ap (raised from to) is in
          omega (arith, new, one, two)
      | inr ne ↦ raised-old from to k j ne (old k j ne e)
    ];
  }
