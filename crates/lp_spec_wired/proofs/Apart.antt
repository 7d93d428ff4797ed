-- The names of additions differ by kind and number.
use Rattle.std.proofs.Common.{◌≡◌, ◌<◌, ℕ, ◌^◌, true, ◌∷◌, refl, sym, ◌∙◌, ap}
use Rattle.std.specs.Prelude.{bytes_eq, decimal}
use Rattle.std.proofs.lemmas.Bool.{both_ways}
use Rattle.std.proofs.lemmas.Fmt.{decimal_injective}
use Rattle.lp_spec_design.specs.Keys.{Name}
use Rattle.lp_spec_design.specs.Reads.{name-self}
use Rattle.lp_spec_faults.specs.Modules.{is_own}
use Rattle.lp_spec_wired.specs.Additions.{Addition, OfPort, OfSwitch, OfChain, OfControl, Clamps, Shifts, Switches, added_name, HasNumber, AreApart}
use Rattle.lp_spec_wired.proofs.Added.{own-apart}

tail_of : (s t : Name) (a b c d e : ℕ) → (a ∷ b ∷ c ∷ d ∷ e ∷ s) ≡ (a ∷ b ∷ c ∷ d ∷ e ∷ t) → s ≡ t
tail_of s t a b c d e same = cc

number-of : (j k : ℕ) (a b c d e : ℕ) → j < 2 ^ 64 → k < 2 ^ 64 → (a ∷ b ∷ c ∷ d ∷ e ∷ decimal j) ≡ (a ∷ b ∷ c ∷ d ∷ e ∷ decimal k) → j ≡ k
number-of j k a b c d e small less same = decimal_injective j k small less (tail_of (decimal j) (decimal k) a b c d e same)

one-of : (a b : Addition) → HasNumber a → HasNumber b → added_name a ≡ added_name b → a ≡ b
one-of (OfPort m) (OfPort n) h g e = ap (λ k. OfPort k) (tail_of m n _ _ _ _ _ e)
one-of (OfSwitch j) (OfSwitch k) h g e = ap (λ k. OfSwitch k) (number-of j k _ _ _ _ _ h g e)
one-of (OfChain j) (OfChain k) h g e = ap (λ k. OfChain k) (number-of j k _ _ _ _ _ h g e)
one-of (OfControl j) (OfControl k) h g e = ap (λ k. OfControl k) (number-of j k _ _ _ _ _ h g e)
one-of (Clamps j) (Clamps k) h g e = ap (λ k. Clamps k) (number-of j k _ _ _ _ _ h g e)
one-of (Shifts j) (Shifts k) h g e = ap (λ k. Shifts k) (number-of j k _ _ _ _ _ h g e)
one-of (Switches j) (Switches k) h g e = ap (λ k. Switches k) (number-of j k _ _ _ _ _ h g e)
one-of a b h g e = absurd (both_ways (bytes_eq (added_name a) (added_name b)) refl (ap (λ n. bytes_eq (added_name a) n) (sym e) ∙ name-self (added_name a)))

added-own : (a : Addition) → is_own (added_name a) ≡ true
added-own (OfPort n) = refl
added-own (OfSwitch k) = refl
added-own (OfChain k) = refl
added-own (OfControl k) = refl
added-own (Clamps k) = refl
added-own (Shifts k) = refl
added-own (Switches k) = refl

pub apart : AreApart
apart = record { one = one-of; free = λ n a h. own-apart n (added_name a) h (added-own a) }
