-- Where the keys have an order, exactly one assignment settles.
use Rattle.std.specs.Prelude.{IsTrue}
use Rattle.std.proofs.Common.{◌≡◌, Bool, true, false, ◌||◌, cond, List, [], ◌∷◌, ◌⊎◌, inl, inr, refl, sym, ◌∙◌, ap, subst}
use Rattle.std.proofs.lemmas.Bool.{or_cases, cases_Bool, both_ways, false≢true}
use Rattle.lp_spec_settling.specs.Settling.{Keys, has, AllIn, IsOrder, Covers, HasOrder, IsWay, Reaches, LooksAt, Settles, SettlesOnce}

or_left : (a b : Bool) → a ≡ true → (a || b) ≡ true
or_left true b e = refl
or_left false b e = absurd (false≢true e)

or_right : (a b : Bool) → b ≡ true → (a || b) ≡ true
or_right true b e = refl
or_right false b e = e

module _ {K : Type 0} (keys : Keys K) where
  -- a key of a list is its head or stands in its tail
  pub has-cases : (j k : K) (rest : List K) → has keys j (k ∷ rest) ≡ true → (k ≡ j) ⊎ (has keys j rest ≡ true)
  has-cases j k rest h = elim (or_cases (keys.same k j) (has keys j rest) h) [ inl e ↦ inl (keys.same_true k j e) | inr e ↦ inr e ]

  pub has-tail : (j k : K) (rest : List K) → has keys j rest ≡ true → has keys j (k ∷ rest) ≡ true
  has-tail j k rest h = or_right (keys.same k j) (has keys j rest) h

  pub has-head : (k : K) (rest : List K) → has keys k (k ∷ rest) ≡ true
  has-head k rest = or_left (keys.same k k) (has keys k rest) (keys.true_same k)

  -- what stands in the first list stands in the second
  pub AllIn-one : (ks others : List K) (j : K) → AllIn keys ks others → has keys j ks ≡ true → has keys j others ≡ true
  AllIn-one [] others j all h = absurd (false≢true h)
  AllIn-one (k ∷ ks) others j all h = elim (has-cases j k ks h) [ inl e ↦ subst (λ i. has keys i others ≡ true) e all.0 | inr e ↦ AllIn-one ks others j all.1 e ]

  module _ (reads : K → List K) where
    -- a key of an order reads only keys of it
    pub order-closed : (order : List K) → IsOrder keys reads order → (k j : K) → has keys k order ≡ true → has keys j (reads k) ≡ true → has keys j order ≡ true
    order-closed [] o k j h r = absurd (false≢true h)
    order-closed (i ∷ rest) o k j h r =
        elim (has-cases k i rest h) [
          | inl e ↦ has-tail j i rest (AllIn-one (reads i) rest j o.0 (subst (λ x. has keys j (reads x) ≡ true) (sym e) r))
          | inr e ↦ has-tail j i rest (order-closed rest o.1 k j e r)
        ]

    -- what a key of an order reaches is in it
    within : (order : List K) → IsOrder keys reads order → (k : K) (way : List K) (j : K) → has keys k order ≡ true → IsWay keys reads k way j → has keys j order ≡ true
    within order o k [] j h r = order-closed order o k j h r
    within order o k (i ∷ way) j h r = within order o i way j (order-closed order o k i h r.0) r.1

    -- what the newest key reaches stands behind it
    behind : (k : K) (rest : List K) → AllIn keys (reads k) rest → IsOrder keys reads rest → (way : List K) (j : K) → IsWay keys reads k way j → has keys j rest ≡ true
    behind k rest all o [] j r = AllIn-one (reads k) rest j all r
    behind k rest all o (i ∷ way) j r = within rest o i way j (AllIn-one (reads k) rest i all r.0) r.1

    -- a key of an order does not reach itself
    pub order-no_loop : (order : List K) → IsOrder keys reads order → (k : K) → has keys k order ≡ true → Reaches keys reads k k → ⊥
    order-no_loop [] o k h r = false≢true h
    order-no_loop (i ∷ rest) o k h r =
        let in_rest : has keys k rest ≡ true = elim (has-cases k i rest h) [
          | inl e ↦ behind k rest (subst (λ x. AllIn keys (reads x) rest) e o.0) o.1 r.0 k r.1
          | inr e ↦ e
        ] in order-no_loop rest o.1 k in_rest r

-- values of keys, where an equation that reads nothing may look at blank values
module _ {K V : Type 0} (keys : Keys K) (blank : V) (reads : K → List K) (equation : K → (K → V) → V) (looks : LooksAt keys reads equation) where
  -- the values of an order, from its oldest key on
  pub assigned : List K → K → V
  assigned [] = λ k. equation k (λ _. blank)
  assigned (k ∷ rest) = λ j. cond (keys.same k j) (equation k (assigned rest)) (assigned rest j)

  assigned-head : (k : K) (rest : List K) → assigned (k ∷ rest) k ≡ equation k (assigned rest)
  unfolding assigned
  assigned-head k rest = ap (λ b. cond b (equation k (assigned rest)) (assigned rest k)) (keys.true_same k)

  assigned-stays : (k : K) (rest : List K) (j : K) → assigned rest j ≡ equation j (assigned rest) → assigned (k ∷ rest) j ≡ assigned rest j
  unfolding assigned
  assigned-stays k rest j e =
      elim (keys.same k j) as (λ b. keys.same k j ≡ b → cond b (equation k (assigned rest)) (assigned rest j) ≡ assigned rest j) [
        | true ↦ λ s. subst (λ x. equation x (assigned rest) ≡ assigned rest j) (sym (keys.same_true k j s)) (sym e)
        | false ↦ λ s. refl
      ] refl

  -- each key of the order has the value of its equation
  assigned-settles_in : (order : List K) → IsOrder keys reads order → (j : K) → has keys j order ≡ true → assigned order j ≡ equation j (assigned order)
  assigned-settles_in [] o j h = absurd (false≢true h)
  assigned-settles_in (k ∷ rest) o j h =
      let stays : (i : K) → has keys i rest ≡ true → assigned (k ∷ rest) i ≡ assigned rest i = λ i g. assigned-stays k rest i (assigned-settles_in rest o.1 i g) in
      elim (has-cases keys j k rest h) [
        | inl e ↦ subst (λ x. assigned (k ∷ rest) x ≡ equation x (assigned (k ∷ rest))) e
            (assigned-head k rest ∙ looks k (assigned rest) (assigned (k ∷ rest)) (λ i r. sym (stays i (AllIn-one keys (reads k) rest i o.0 r))))
        | inr e ↦ stays j e ∙ (assigned-settles_in rest o.1 j e ∙ looks j (assigned rest) (assigned (k ∷ rest)) (λ i r. sym (stays i (order-closed keys reads rest o.1 j i e r))))
      ]

  no_key : (k j : K) (e : reads k ≡ []) → has keys j (reads k) ≡ true → ⊥
  no_key k j e h = false≢true (subst (λ ks. has keys j ks ≡ true) e h)

  -- a key that reads nothing has one value
  constant : (k : K) → reads k ≡ [] → (A B : K → V) → equation k A ≡ equation k B
  constant k e A B = looks k A B (λ j h. absurd (no_key k j e h))

  assigned-outside : (order : List K) (j : K) → has keys j order ≡ false → assigned order j ≡ equation j (λ _. blank)
  unfolding assigned
  assigned-outside [] j h = refl
  assigned-outside (k ∷ rest) j h =
      elim (keys.same k j) as (λ b. keys.same k j ≡ b → (b || has keys j rest) ≡ false → cond b (equation k (assigned rest)) (assigned rest j) ≡ equation j (λ _. blank)) [
        | true ↦ λ s g. absurd (both_ways true g refl)
        | false ↦ λ s g. assigned-outside rest j g
      ] refl h

  settled_at : (order : List K) → IsOrder keys reads order → Covers keys reads order → Settles equation (assigned order)
  settled_at order o covers j =
      elim (cases_Bool (has keys j order)) [
        | inl h ↦ assigned-settles_in order o j h
        | inr h ↦ assigned-outside order j h ∙ constant j (covers j h) (λ _. blank) (assigned order)
      ]

  -- two assignments that settle agree along an order
  agree_in : (A B : K → V) → Settles equation A → Settles equation B → (order : List K) → IsOrder keys reads order → (j : K) → has keys j order ≡ true → A j ≡ B j
  agree_in A B a b [] o j h = absurd (false≢true h)
  agree_in A B a b (k ∷ rest) o j h =
      elim (has-cases keys j k rest h) [
        | inl e ↦ subst (λ x. A x ≡ B x) e (a k ∙ (looks k A B (λ i r. agree_in A B a b rest o.1 i (AllIn-one keys (reads k) rest i o.0 r)) ∙ sym (b k)))
        | inr e ↦ agree_in A B a b rest o.1 j e
      ]

  agree : (A B : K → V) → Settles equation A → Settles equation B → (order : List K) → IsOrder keys reads order → Covers keys reads order → (j : K) → A j ≡ B j
  agree A B a b order o covers j =
      elim (cases_Bool (has keys j order)) [
        | inl h ↦ agree_in A B a b order o j h
        | inr h ↦ a j ∙ (constant j (covers j h) A B ∙ sym (b j))
      ]

  -- where an order exists there is exactly one assignment that settles
  pub settles_once : HasOrder keys reads → SettlesOnce equation
  settles_once o = record {
    settled = assigned o.order;
    settles = settled_at o.order o.is_order o.covers;
    only = λ other s i k. agree other (assigned o.order) s (settled_at o.order o.is_order o.covers) o.order o.is_order o.covers k i;
  }

  -- the assignment that settles does not depend on the order
  pub one_assignment : (first second : List K) → IsOrder keys reads first → Covers keys reads first → IsOrder keys reads second → Covers keys reads second → (k : K) → assigned first k ≡ assigned second k
  one_assignment first second o c p e k = agree (assigned first) (assigned second) (settled_at first o c) (settled_at second p e) first o c k

-- two sets of equations with one order, whose values are related at each key as soon as they are at what it reads
module _ {K V W : Type 0} (keys : Keys K) (reads : K → List K) (one : K → (K → V) → V) (two : K → (K → W) → W) (Like : K → V → W → Type 0) where
  -- what holds at each key by its equations holds along an order
  pub alike_in : ((k : K) (A : K → V) (B : K → W) → ((j : K) → IsTrue (has keys j (reads k)) → Like j (A j) (B j)) → Like k (one k A) (two k B))
      → (A : K → V) (B : K → W) → Settles one A → Settles two B → (order : List K) → IsOrder keys reads order → (j : K) → has keys j order ≡ true → Like j (A j) (B j)
  alike_in step A B a b [] o j h = absurd (false≢true h)
  alike_in step A B a b (k ∷ rest) o j h =
      elim (has-cases keys j k rest h) [
        | inl e ↦ subst (λ x. Like x (A x) (B x)) e (subst (λ v. Like k v (B k)) (sym (a k)) (subst (λ w. Like k (one k A) w) (sym (b k)) (step k A B (λ i r. alike_in step A B a b rest o.1 i (AllIn-one keys (reads k) rest i o.0 r)))))
        | inr e ↦ alike_in step A B a b rest o.1 j e
      ]
