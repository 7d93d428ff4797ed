-- How high keys stand above what they read, where they have an order.
use Rattle.std.proofs.Common.{◌≡◌, inl, inr, ℕ, zero, suc, ◌<◌, ◌≤◌, max, List, [], ◌∷◌, length, Some, refl, sym, ap, subst, arith}
use Rattle.std.specs.Prelude.{slice_get}
use Rattle.std.specs.List.{Contains}
use Rattle.std.proofs.lemmas.Bool.{cases_lt}
use Rattle.lp_order.specs.Order.{row_of, Reads, IsOrdered}
use Rattle.lp_order.proofs.OrderLaws.{Contains-cons_cases, Contains-first, Contains-behind}
use Rattle.lp_spec_design.specs.Winners.{IsIn}
use Rattle.lp_targets.specs.declared.target.Target.{Target}
use Rattle.lp_targets.specs.declared.target.Target.TheVariants.{OfModule, OfCell}
use Rattle.lp_targets.specs.Children.{children_of}

-- one more than the highest of some
abbrev pub above : (ℕ → ℕ) → List ℕ → ℕ
above height [] = 0
above height (b ∷ bs) = max (suc (height b)) (above height bs)

-- how far reads lead down from a key, up to a number
abbrev pub chain : List (List ℕ) → ℕ → ℕ → ℕ
chain graph zero a = 0
chain graph (suc n) a = above (chain graph n) (row_of graph a)

pub contains-of : (bs : List ℕ) (b : ℕ) → IsIn b bs → Contains bs b
contains-of [] b h = absurd h
contains-of (c ∷ bs) b (inl is) = Contains-first c bs b (sym is)
contains-of (c ∷ bs) b (inr h) = Contains-behind c bs b (contains-of bs b h)

above-same : (f g : ℕ → ℕ) (bs : List ℕ) → ((b : ℕ) → IsIn b bs → f b ≡ g b) → above f bs ≡ above g bs
above-same f g [] same = refl
above-same f g (b ∷ bs) same = λ i. max (suc (same b (inl refl) i)) (above-same f g bs (λ c h. same c (inr h)) i)

pub above-lower : (f : ℕ → ℕ) (bs : List ℕ) (b : ℕ) → IsIn b bs → f b < above f bs
above-lower f [] b h = absurd h
above-lower f (c ∷ bs) b (inl is) = let same : f b ≡ f c = ap f is in omega (arith, same)
above-lower f (c ∷ bs) b (inr h) = omega (arith, above-lower f bs b h)

pub above-reached : (f : ℕ → ℕ) (bs : List ℕ) (k : ℕ) → above f bs ≡ suc k → (b : ℕ) × IsIn b bs × (f b ≡ k)
above-reached f [] k e = absurd (omega (arith, e))
above-reached f (c ∷ bs) k e =
    elim (cases_lt (f c) (above f bs)) [
      | inl less ↦
          let there : above f bs ≡ suc k = omega (arith, less, e) in
          let more = above-reached f bs k there in
          (more.0, inr more.1, more.2)
      | inr least ↦
          let here : f c ≡ k = omega (arith, least, e) in
          (c, inl refl, here)
    ]

-- ---- along an order

module _ (graph : List (List ℕ)) where
  stable : (keys : List ℕ) → IsOrdered graph keys → (a n : ℕ) → Contains keys a → length keys ≤ n → chain graph (suc n) a ≡ chain graph n a
  stable [] ordered a n c h = absurd (omega (arith, c.1))
  stable (key ∷ older) ordered a zero c h = absurd (omega (arith, h))
  stable (key ∷ older) ordered a (suc n) c h =
      elim (Contains-cons_cases key older a c) [
        | inl is ↦
            above-same (chain graph (suc n)) (chain graph n) (row_of graph a)
            (λ b inside.
            let read : Reads graph key b = subst (λ z. Contains (row_of graph z) b) (sym is) (contains-of (row_of graph a) b inside) in
            stable older ordered.1 b n (ordered.0 b read) (omega (arith, h)))
        | inr behind ↦ stable older ordered.1 a (suc n) behind (omega (arith, h))
      ]

  -- a key of an order is one higher than the highest that it reads
  pub stands-above : (keys : List ℕ) → IsOrdered graph keys → (a : ℕ) → Contains keys a → chain graph (length keys) a ≡ above (chain graph (length keys)) (row_of graph a)
  stands-above keys ordered a c = sym (stable keys ordered a (length keys) c (omega arith))

-- ---- modules in a row

pub child-in : (row : List Target) (b : ℕ) → IsIn b (children_of row) → (i : ℕ) × (slice_get row i ≡ Some (OfModule b))
child-in [] b h = absurd h
child-in (OfCell j ∷ row) b h = let more = child-in row b h in (suc more.0, more.1)
child-in (OfModule j ∷ row) b (inl is) = (0, ap (λ (z : ℕ). Some (OfModule z)) (sym is))
child-in (OfModule j ∷ row) b (inr h) = let more = child-in row b h in (suc more.0, more.1)

pub in-children : (row : List Target) (i b : ℕ) → slice_get row i ≡ Some (OfModule b) → IsIn b (children_of row)
in-children [] i b e = cc
in-children (OfModule j ∷ row) zero b e = let is : b ≡ j = cc in inl is
in-children (OfModule j ∷ row) (suc i) b e = inr (in-children row i b e)
in-children (OfCell j ∷ row) zero b e = cc
in-children (OfCell j ∷ row) (suc i) b e = in-children row i b e
