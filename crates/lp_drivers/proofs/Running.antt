-- The places of a run, one after another, up to the first that is driven twice or up to the least.
use Rattle.std.proofs.Common.{◌≡◌, ◌<◌, ◌≤◌, ◌+◌, ◌-◌, ℕ, Bool, true, false, List, [], ◌∷◌, ◌++◌, min, inl, inr, refl, sym, ap, ◌∙◌, arith}
use Rattle.std.specs.Prelude.{nat_lt, if◌then◌else◌, slice_index_or}
use Rattle.std.proofs.lemmas.Bool.{lt-ltb, cases_lt}
use Rattle.lp_spec_design.specs.Netlists.{upward}
use Rattle.lp_spec_drivers.proofs.Numbers.{upward-parts}
use Rattle.lp_drivers.specs.Seen.{Seen, met, see_all, lower, lower_all}
use Rattle.lp_drivers.proofs.Seeing.{see-more, lower-more, see-behind, lower-behind}

-- one place more
pub upward-more : (to place : ℕ) → to ≤ place → upward ((place + 1) - to) to ≡ upward (place - to) to ++ place ∷ []
upward-more to place low =
    let size : (place + 1) - to ≡ (place - to) + 1 = omega (arith, low) in
    let at : to + (place - to) ≡ place = omega (arith, low) in
    ap (λ n. upward n to) size ∙ upward-parts (place - to) 1 to ∙ ap (λ n. upward (place - to) to ++ n ∷ []) at

-- up to the end
upward-end : (to count place : ℕ) → to ≤ place → place ≤ to + count → upward count to ≡ upward (place - to) to ++ upward (count - (place - to)) place
upward-end to count place low high =
    let size : count ≡ (place - to) + (count - (place - to)) = omega (arith, low, high) in
    let at : to + (place - to) ≡ place = omega (arith, low) in
    ap (λ n. upward n to) size ∙ upward-parts (place - to) (count - (place - to)) to ∙ ap (λ n. upward (place - to) to ++ upward (count - (place - to)) n) at

pub see-next : (m now : Seen) (to place : ℕ) → to ≤ place → now ≡ see_all m (upward (place - to) to) → place < now.0 → met now place ≡ see_all m (upward ((place + 1) - to) to)
see-next m now to place low is under =
    ap (λ b. if b then met now place else now) (sym (lt-ltb place now.0 under))
    ∙ ap (λ x. see_all x (place ∷ [])) is
    ∙ sym (see-more m (upward (place - to) to) (place ∷ []))
    ∙ ap (see_all m) (sym (upward-more to place low))

pub see-stop : (m now : Seen) (to count place : ℕ) → to ≤ place → place ≤ to + count → now ≡ see_all m (upward (place - to) to) → now.0 ≤ place → now ≡ see_all m (upward count to)
see-stop m now to count place low high is over =
    sym (see-behind now (count - (place - to)) place over)
    ∙ ap (λ x. see_all x (upward (count - (place - to)) place)) is
    ∙ sym (see-more m (upward (place - to) to) (upward (count - (place - to)) place))
    ∙ ap (see_all m) (sym (upward-end to count place low high))

pub see-end : (m now : Seen) (to count place : ℕ) → place ≡ to + count → now ≡ see_all m (upward (place - to) to) → now ≡ see_all m (upward count to)
see-end m now to count place at is =
    let size : place - to ≡ count = omega (arith, at) in
    is ∙ ap (λ n. see_all m (upward n to)) size

-- ---- the least

lower-not : (driven : List Bool) (best place : ℕ) → slice_index_or driven place false ≡ false → lower driven best place ≡ best
lower-not driven best place e = ap (λ c. if nat_lt place best then (if c then place else best) else best) e ∙ by (nat_lt place best)
  where
    by : (b : Bool) → (if b then best else best) ≡ best
    by true = refl
    by false = refl

lower-here : (driven : List Bool) (best place : ℕ) → place < best → slice_index_or driven place false ≡ true → lower driven best place ≡ place
lower-here driven best place low e =
    ap (λ c. if nat_lt place best then (if c then place else best) else best) e
    ∙ ap (λ b. if b then place else best) (lt-ltb place best low)

pub lower-next : (driven : List Bool) (best to place : ℕ) → to ≤ place → lower_all driven best (upward (place - to) to) ≡ best → slice_index_or driven place false ≡ false → lower_all driven best (upward ((place + 1) - to) to) ≡ best
lower-next driven best to place low is not =
    ap (lower_all driven best) (upward-more to place low)
    ∙ lower-more driven best (upward (place - to) to) (place ∷ [])
    ∙ ap (λ x. lower driven x place) is
    ∙ lower-not driven best place not

-- behind the least, or at it
pub lower-stop : (driven : List Bool) (best to count place : ℕ) → to ≤ place → place ≤ to + count → lower_all driven best (upward (place - to) to) ≡ best → best ≤ place → lower_all driven best (upward count to) ≡ best
lower-stop driven best to count place low high is over =
    ap (lower_all driven best) (upward-end to count place low high)
    ∙ lower-more driven best (upward (place - to) to) (upward (count - (place - to)) place)
    ∙ ap (λ x. lower_all driven x (upward (count - (place - to)) place)) is
    ∙ lower-behind driven best (count - (place - to)) place over

pub lower-found : (driven : List Bool) (best to count place : ℕ) → to ≤ place → place < to + count → lower_all driven best (upward (place - to) to) ≡ best → place < best → slice_index_or driven place false ≡ true → lower_all driven best (upward count to) ≡ place
lower-found driven best to count place low high is under here =
    let size : count ≡ ((place + 1) - to) + (count - ((place + 1) - to)) = omega (arith, low, high) in
    let at : to + ((place + 1) - to) ≡ place + 1 = omega (arith, low) in
    ap (λ n. lower_all driven best (upward n to)) size
    ∙ ap (lower_all driven best) (upward-parts ((place + 1) - to) (count - ((place + 1) - to)) to)
    ∙ ap (λ n. lower_all driven best (upward ((place + 1) - to) to ++ upward (count - ((place + 1) - to)) n)) at
    ∙ lower-more driven best (upward ((place + 1) - to) to) (upward (count - ((place + 1) - to)) (place + 1))
    ∙ ap (λ x. lower_all driven x (upward (count - ((place + 1) - to)) (place + 1)))
    (ap (lower_all driven best) (upward-more to place low) ∙ lower-more driven best (upward (place - to) to) (place ∷ []) ∙ ap (λ x. lower driven x place) is ∙ lower-here driven best place under here)
    ∙ lower-behind driven place (count - ((place + 1) - to)) (place + 1) (omega arith)

pub lower-end : (driven : List Bool) (best to count place : ℕ) → place ≡ to + count → lower_all driven best (upward (place - to) to) ≡ best → lower_all driven best (upward count to) ≡ best
lower-end driven best to count place at is =
    let size : count ≡ place - to = omega (arith, at) in
    ap (λ n. lower_all driven best (upward n to)) size ∙ is

-- at the end of a run, which may go past the largest number
pub lower-last : (driven : List Bool) (best to count place last most : ℕ) → to ≤ place → best ≤ most → last ≡ min (to + count) most → place ≡ last → lower_all driven best (upward (place - to) to) ≡ best → lower_all driven best (upward count to) ≡ best
lower-last driven best to count place last most low high end at is = elim (cases_lt most (to + count)) [
  | inl over ↦ (let there : place ≡ most = omega (arith, end, at, over) in lower-stop driven best to count place low (omega (arith, there, over)) is (omega (arith, there, high)))
  | inr under ↦ (let there : place ≡ to + count = omega (arith, end, at, under) in lower-end driven best to count place there is)
]
