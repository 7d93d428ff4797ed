-- An order and a loop exclude each other.
use Rattle.std.proofs.Common.{◌≡◌, ◌<◌, ◌⊎◌, ℕ, zero, suc, List, [], ◌∷◌, ◌++◌, length, inl, inr, refl, subst, sym, arith}
use Rattle.std.specs.List.{All, Contains}
use Rattle.std.proofs.lemmas.Bool.{cases_lt}
use Rattle.std.proofs.lemmas.List.{get_or_past}
use Rattle.std.proofs.lemmas.List.Elements.{All-nil, All-push}
use Rattle.lp_order.specs.Order.{Reads, Reaches, one_read, more_reads, HasLoop, IsOrdered, IsOrder, ReadsBelow}

pub Contains-cons_cases : (y : ℕ) (ys : List ℕ) (x : ℕ) → Contains (y ∷ ys) x → (y ≡ x) ⊎ Contains ys x
Contains-cons_cases y ys x (zero, h, e) = inl e
Contains-cons_cases y ys x (suc k, h, e) = inr (k, omega arith, e)

pub Contains-first : (y : ℕ) (ys : List ℕ) (x : ℕ) → y ≡ x → Contains (y ∷ ys) x
Contains-first y ys x e = (0, omega arith, e)

pub Contains-behind : (y : ℕ) (ys : List ℕ) (x : ℕ) → Contains ys x → Contains (y ∷ ys) x
Contains-behind y ys x (k, h, e) = (suc k, omega arith, e)

-- one more row, for a caller that builds a graph row by row with the number of its keys in hand
pub ReadsBelow-nil : (n : ℕ) → ReadsBelow n []
ReadsBelow-nil n = All-nil (λ row. All (λ b. b < n) row)

pub ReadsBelow-push : (n : ℕ) (graph : List (List ℕ)) (row : List ℕ) → ReadsBelow n graph → All (λ b. b < n) row → ReadsBelow n (graph ++ row ∷ [])
ReadsBelow-push n graph row below in_row = All-push (λ (r : List ℕ). All (λ b. b < n) r) graph row below in_row

-- only a key of the graph reads
pub Reads-within : (graph : List (List ℕ)) (a b : ℕ) → Reads graph a b → a < length graph
Reads-within graph a b r =
    elim (cases_lt a (length graph)) [
      | inl h ↦ h
      | inr h ↦ absurd (omega (arith, subst (λ row. r.0 < length row) (get_or_past graph a [] h) r.1))
    ]

pub Reaches-within : (graph : List (List ℕ)) (a b : ℕ) → Reaches graph a b → a < length graph
Reaches-within graph a b (one_read r) = Reads-within graph a b r
Reaches-within graph a c (more_reads {b = b} r s) = Reads-within graph a b r

pub Reaches-trans : (graph : List (List ℕ)) (a b c : ℕ) → Reaches graph a b → Reaches graph b c → Reaches graph a c
Reaches-trans graph a b c (one_read r) t = more_reads r t
Reaches-trans graph a b c (more_reads {b = m} r s) t = more_reads r (Reaches-trans graph m b c s t)

-- the first read on the way
pub Reaches-first : (graph : List (List ℕ)) (a c : ℕ) → Reaches graph a c → (b : ℕ) × Reads graph a b × ((b ≡ c) ⊎ Reaches graph b c)
Reaches-first graph a c (one_read r) = (c, r, inl refl)
Reaches-first graph a c (more_reads {b = b} r s) = (b, r, inr s)

-- what an ordered key reads is ordered
pub IsOrdered-reads : (graph : List (List ℕ)) (keys : List ℕ) (a b : ℕ) → IsOrdered graph keys → Contains keys a → Reads graph a b → Contains keys b
IsOrdered-reads graph [] a b o c r = absurd (omega (arith, c.1))
IsOrdered-reads graph (k ∷ ks) a b o c r =
    elim (Contains-cons_cases k ks a c) [
      | inl e ↦ Contains-behind k ks b (o.0 b (subst (λ x. Reads graph x b) (sym e) r))
      | inr t ↦ Contains-behind k ks b (IsOrdered-reads graph ks a b o.1 t r)
    ]

-- what an ordered key leads to is ordered
pub IsOrdered-reaches : (graph : List (List ℕ)) (keys : List ℕ) (a b : ℕ) → IsOrdered graph keys → Contains keys a → Reaches graph a b → Contains keys b
IsOrdered-reaches graph keys a b o c (one_read r) = IsOrdered-reads graph keys a b o c r
IsOrdered-reaches graph keys a b o c (more_reads {b = m} r s) = IsOrdered-reaches graph keys m b o (IsOrdered-reads graph keys a m o c r) s

-- no ordered key leads to itself
pub IsOrdered-no_loop : (graph : List (List ℕ)) (keys : List ℕ) (a : ℕ) → IsOrdered graph keys → Contains keys a → Reaches graph a a → ⊥
IsOrdered-no_loop graph [] a o c r = omega (arith, c.1)
IsOrdered-no_loop graph (k ∷ ks) a o c r =
    elim (Contains-cons_cases k ks a c) [
      | inr t ↦ IsOrdered-no_loop graph ks a o.1 t r
      | inl e ↦
          let r' : Reaches graph k k = subst (λ x. Reaches graph x x) (sym e) r in
          let first = Reaches-first graph k k r' in
          let there : Contains ks first.0 = o.0 first.0 first.1 in
          let again : Contains ks k = elim first.2 [ inl same ↦ subst (Contains ks) same there | inr s ↦ IsOrdered-reaches graph ks first.0 k o.1 there s ] in
          IsOrdered-no_loop graph ks k o.1 again r'
    ]

-- a graph with an order has no loop
pub order-no_loop : (graph : List (List ℕ)) (order : List ℕ) → IsOrder graph order → HasLoop graph → ⊥
order-no_loop graph order o (k, r) = IsOrdered-no_loop graph order k o.ordered (o.complete k (Reaches-within graph k k r)) r
