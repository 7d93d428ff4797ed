-- The lowest and highest voltages tell whether some state is lower than another.
use Rattle.std.proofs.Common.{◌≡◌, ◌+◌, ℕ, Bool, true, false, not, ◌&&◌, ◌||◌, ltb, List, [], ◌∷◌, Option, Some, None, refl, sym, ap, ◌∙◌, arith}
use Rattle.std.specs.List.{list_any}
use Rattle.std.proofs.lemmas.Bool.{ne_eqb}
use Rattle.std.proofs.lemmas.Bool.Decides.{nat_tests}
use Rattle.lp_model.specs.declared.supply.Supplies.{Supplies}
use Rattle.lp_model.specs.declared.intent.DeclaredState.{DeclaredState}
use Rattle.lp_model.specs.declared.intent.DeclaredState.TheVariants.{On, Off}
use Rattle.lp_model.specs.declared.intent.RowState.{RowState}
use Rattle.lp_model.specs.declared.intent.RowState.TheVariants as Listed
use Rattle.lp_rows.specs.Network.{root_of, port_states}
use Rattle.lp_rows.specs.Rows.{is_lower, any_lower, lower_in, allowed, allowed_of, listed}
use Rattle.lp_rows.specs.Voltages.{lesser, greater, lowest_from, highest_from, is_below}

or_assoc : (x y z : Bool) → ((x || y) || z) ≡ (x || (y || z))
or_assoc true y z = refl
or_assoc false y z = refl

or_false : (x : Bool) → (x || false) ≡ x
or_false true = refl
or_false false = refl

-- a voltage is below the greater of two where it is below one of them
below_greater : (d v : ℕ) (found : Option ℕ) (w : ℕ) → is_below d (Some v) (Some (greater found w)) ≡ (is_below d (Some v) found || ltb (v + d) w)
below_greater d v None w = refl
below_greater d v (Some u) w = grind (arith, nat_tests)

lesser_below : (d : ℕ) (found : Option ℕ) (v : ℕ) (most : Option ℕ) → is_below d (Some (lesser found v)) most ≡ (is_below d found most || is_below d (Some v) most)
lesser_below d None v most = refl
lesser_below d (Some u) v None = refl
lesser_below d (Some u) v (Some w) = grind (arith, nat_tests)

below_highest : (d v : ℕ) (found : Option ℕ) (ys : List DeclaredState) → (is_below d (Some v) found || list_any (is_lower d (On v)) ys) ≡ is_below d (Some v) (highest_from found ys)
below_highest d v found [] = or_false (is_below d (Some v) found)
below_highest d v found (On w ∷ ys) =
    sym (or_assoc (is_below d (Some v) found) (ltb (v + d) w) (list_any (is_lower d (On v)) ys))
    ∙ ap (λ b. b || list_any (is_lower d (On v)) ys) (sym (below_greater d v found w))
    ∙ below_highest d v (Some (greater found w)) ys
below_highest d v found (Off ∷ ys) = below_highest d v found ys

off_lower : (d : ℕ) (ys : List DeclaredState) → list_any (is_lower d Off) ys ≡ false
off_lower d [] = refl
off_lower d (y ∷ ys) = off_lower d ys

lowest_below : (d : ℕ) (found : Option ℕ) (xs ys : List DeclaredState) → (is_below d found (highest_from None ys) || any_lower d xs ys) ≡ is_below d (lowest_from found xs) (highest_from None ys)
lowest_below d found [] ys = or_false (is_below d found (highest_from None ys))
lowest_below d found (On v ∷ xs) ys =
    let most = highest_from None ys in
    ap (λ b. is_below d found most || (b || any_lower d xs ys)) (below_highest d v None ys)
    ∙ sym (or_assoc (is_below d found most) (is_below d (Some v) most) (any_lower d xs ys))
    ∙ ap (λ b. b || any_lower d xs ys) (sym (lesser_below d found v most))
    ∙ lowest_below d (Some (lesser found v)) xs ys
lowest_below d found (Off ∷ xs) ys =
    ap (λ b. is_below d found (highest_from None ys) || (b || any_lower d xs ys)) (off_lower d ys) ∙ lowest_below d found xs ys

-- the lowest voltage is below the highest where some state is lower than another
pub any_lower-voltages : (d : ℕ) (xs ys : List DeclaredState) → any_lower d xs ys ≡ is_below d (lowest_from None xs) (highest_from None ys)
any_lower-voltages d xs ys = lowest_below d None xs ys

-- where the roots differ, the test is that of the voltages
pub lower_in-voltages : (s : Supplies) (row : List RowState) (a b d from to : ℕ) (lower higher : List DeclaredState)
    → from ≡ root_of s a → to ≡ root_of s b → (from ≡ to → ⊥) → lower ≡ port_states s from → higher ≡ port_states s to
    → lower_in s row a b d ≡ is_below d (lowest_from None (allowed_of lower (listed row from))) (highest_from None (allowed_of higher (listed row to)))
lower_in-voltages s row a b d from to lower higher ea eb apart el eh =
    let p = root_of s a in
    let q = root_of s b in
    ap (λ same. not same && any_lower d (allowed s row p) (allowed s row q)) (ne_eqb p q (λ e. apart (ea ∙ e ∙ sym eb)))
    ∙ any_lower-voltages d (allowed s row p) (allowed s row q)
    ∙ (λ i. is_below d (lowest_from None (allowed s row (sym ea i))) (highest_from None (allowed s row (sym eb i))))
    ∙ (λ i. is_below d (lowest_from None (allowed_of (sym el i) (listed row from))) (highest_from None (allowed_of (sym eh i) (listed row to))))

allowed_of-free : (xs : List DeclaredState) → allowed_of xs Listed.Free ≡ xs
allowed_of-free [] = refl
allowed_of-free (x ∷ xs) = refl

-- in the row that lists nothing all states count
pub lower_in-free : (s : Supplies) (a b d from to : ℕ) (lower higher : List DeclaredState)
    → from ≡ root_of s a → to ≡ root_of s b → (from ≡ to → ⊥) → lower ≡ port_states s from → higher ≡ port_states s to
    → lower_in s [] a b d ≡ is_below d (lowest_from None lower) (highest_from None higher)
lower_in-free s a b d from to lower higher ea eb apart el eh =
    lower_in-voltages s [] a b d from to lower higher ea eb apart el eh
    ∙ (λ i. is_below d (lowest_from None (allowed_of-free lower i)) (highest_from None (allowed_of-free higher i)))

-- what the test for a row gives
pub lower_in-row : (s : Supplies) (row : List RowState) (a b d from to : ℕ) (lower higher : List DeclaredState) (listed_from listed_to : RowState) (first second : Option ℕ) (answer : Bool)
    → from ≡ root_of s a → to ≡ root_of s b → (from ≡ to → ⊥) → lower ≡ port_states s from → higher ≡ port_states s to
    → listed_from ≡ listed row from → listed_to ≡ listed row to
    → first ≡ lowest_from None (allowed_of lower listed_from) → second ≡ highest_from None (allowed_of higher listed_to)
    → answer ≡ is_below d first second → lower_in s row a b d ≡ answer
lower_in-row s row a b d from to lower higher listed_from listed_to first second answer ea eb apart el eh ef et e1 e2 e =
    lower_in-voltages s row a b d from to lower higher ea eb apart el eh
    ∙ (λ i. is_below d (lowest_from None (allowed_of lower (sym ef i))) (highest_from None (allowed_of higher (sym et i))))
    ∙ (λ i. is_below d (sym e1 i) (sym e2 i))
    ∙ sym e
