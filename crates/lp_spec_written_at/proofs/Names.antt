-- Names with numbers tell their numbers.
use Rattle.std.proofs.Common.{◌≡◌, ◌≤◌, ◌<◌, ℕ, ◌+◌, ◌%◌, ◌^◌, List, [], ◌∷◌, ◌++◌, refl, arith}
use Rattle.std.specs.Prelude.{decimal}
use Rattle.std.proofs.lemmas.Fmt.{decimal_by_steps, decimal_injective}
use Rattle.lp_spec_design.specs.Keys.{Name}

-- bytes below the one that stands behind a number
abbrev IsBelow : List ℕ → Type 0
IsBelow [] = Unit {0}
IsBelow (c ∷ cs) = (c < 95) × IsBelow cs

below-append : (xs ys : List ℕ) → IsBelow xs → IsBelow ys → IsBelow (xs ++ ys)
below-append [] ys h g = g
below-append (a ∷ xs) ys h g = (h.0, below-append xs ys h.1 g)

decimal-below : (n : ℕ) → n < 2 ^ 64 → IsBelow (decimal n)
decimal-below n h = decimal_by_steps (λ m ds. IsBelow ds) (λ m less. (omega (arith, less), tt)) (λ m ds less more. below-append ds ((48 + m % 10) ∷ []) more (omega arith, tt)) n h

same-front : (xs ys : List ℕ) (m n : Name) → IsBelow xs → IsBelow ys → xs ++ (95 ∷ m) ≡ ys ++ (95 ∷ n) → xs ≡ ys
same-front [] [] m n h g e = refl
same-front [] (b ∷ ys) m n h g e = let is : 95 ≡ b = cc in absurd (omega (arith, is, g.0))
same-front (a ∷ xs) [] m n h g e = let is : a ≡ 95 = cc in absurd (omega (arith, is, h.0))
same-front (a ∷ xs) (b ∷ ys) m n h g e =
    let heads : a ≡ b = cc in
    let tails : xs ++ (95 ∷ m) ≡ ys ++ (95 ∷ n) = cc in
    let rest = same-front xs ys m n h.1 g.1 tails in
    cc

pub same-number : (j k : ℕ) (m n : Name) → j ≤ 1000000 → k ≤ 1000000 → decimal j ++ (95 ∷ m) ≡ decimal k ++ (95 ∷ n) → j ≡ k
same-number j k m n small less e =
    let one : j < 2 ^ 64 = omega (arith, small) in
    let two : k < 2 ^ 64 = omega (arith, less) in
    decimal_injective j k one two (same-front (decimal j) (decimal k) m n (decimal-below j one) (decimal-below k two) e)
