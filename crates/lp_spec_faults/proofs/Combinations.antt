-- The test for a combination of a row passes exactly where states of all origins go together: where some do, those with each switch on that may be do too.
use Rattle.std.proofs.Common.{◌≡◌, ◌<◌, ◌==◌, ◌⊎◌, ℕ, zero, suc, Bool, true, false, not, ◌&&◌, ◌||◌, List, [], ◌∷◌, length, Option, Some, None, inl, inr, refl, sym, subst, ap, ◌∙◌, cond, arith}
use Rattle.std.specs.Prelude.{slice_get, Contains}
use Rattle.std.specs.List.{list_any}
use Rattle.std.specs.Option.{option_map_or}
use Rattle.std.proofs.lemmas.Bool.{and_parts, and_from, cases_lt, eqb-true, eq-eqb, ne_eqb}
use Rattle.std.proofs.lemmas.List.Folds.{list_any-from_Any}
use Rattle.std.proofs.lemmas.Option.{slice_get_past}
use Rattle.lp_model.specs.declared.supply.Supplies.{Supplies}
use Rattle.lp_model.specs.declared.intent.DeclaredState.{DeclaredState}
use Rattle.lp_model.specs.declared.intent.DeclaredState.TheVariants.{On, Off}
use Rattle.lp_model.specs.declared.intent.RowState.{RowState}
use Rattle.lp_model.specs.declared.intent.RowState.TheVariants as Listed
use Rattle.lp_rows.specs.Network.{IsNetwork, input_of, input_at, root_of, has_part, ends_at_port}
use Rattle.lp_rows.specs.Rows.{listed, allowed}
use Rattle.lp_rows.specs.Leaks.{Keeps, IsCombination, is_off, is_cut, held, is_state_off, keeps_voltage, agrees, agrees_under, fits_with, fits}
use Rattle.lp_rows.proofs.BelowLemmas.{each_below-at, each_below-from}
use Rattle.lp_rows.proofs.CutLemmas.{cut_port, cut_switch}
use Rattle.lp_rows.proofs.LeakLemmas.{has_part-port, has_part-within}
use Rattle.lp_spec_faults.specs.StateTable.{combines}

-- ---- tests and lists

-- a test that is asked where another passes
or_from : (x y : Bool) → (x ≡ true → y ≡ true) → (not x || y) ≡ true
or_from true y h = h refl
or_from false y h = refl

or_to : (x y : Bool) → (not x || y) ≡ true → x ≡ true → y ≡ true
or_to true y h e = h
or_to false y h e = cc

first_passing : (DeclaredState → Bool) → List DeclaredState → DeclaredState
first_passing test [] = Off
first_passing test (x ∷ xs) = cond (test x) x (first_passing test xs)

Contains-next : (x y : DeclaredState) (xs : List DeclaredState) → Contains xs y → Contains (x ∷ xs) y
Contains-next x y xs c = (suc c.0, omega arith, c.2)

first_passing-found : (test : DeclaredState → Bool) (xs : List DeclaredState) → list_any test xs ≡ true → Contains xs (first_passing test xs) × (test (first_passing test xs) ≡ true)
unfolding first_passing
first_passing-found test [] e = cc
first_passing-found test (x ∷ xs) e = at (test x) refl e (first_passing-found test xs)
  where
    at : (passed : Bool) → test x ≡ passed → (passed || list_any test xs) ≡ true
        → (list_any test xs ≡ true → Contains xs (first_passing test xs) × (test (first_passing test xs) ≡ true))
        → Contains (x ∷ xs) (cond passed x (first_passing test xs)) × (test (cond passed x (first_passing test xs)) ≡ true)
    at true is e next = ((0, omega arith, refl), is)
    at false is e next = let rest = next e in (Contains-next x (first_passing test xs) xs rest.0, rest.1)

-- ---- what is listed

Keeps-from : (l : RowState) (x : DeclaredState) → keeps_voltage l x ≡ true → (is_off l ≡ true → x ≡ Off) → Keeps l x
Keeps-from Listed.Free x e off = tt
Keeps-from Listed.Off x e off = off refl
Keeps-from (Listed.On v) (On w) e off = ap (λ u. On u) (sym (eqb-true v w e))
Keeps-from (Listed.On v) Off e off = cc

keeps_voltage-from : (l : RowState) (x y : DeclaredState) → Keeps l x → ((w : ℕ) → x ≡ On w → y ≡ On w) → keeps_voltage l y ≡ true
keeps_voltage-from Listed.Free x y k on = refl
keeps_voltage-from Listed.Off x y k on = refl
keeps_voltage-from (Listed.On v) x y k on = ap (keeps_voltage (Listed.On v)) (on v k) ∙ eq-eqb v v refl

not_off : (l : RowState) (x : DeclaredState) (w : ℕ) → Keeps l x → x ≡ On w → is_off l ≡ false
not_off Listed.Free x w k e = refl
not_off Listed.Off x w k e = cc
not_off (Listed.On v) x w k e = refl

input_of-within : (s : Supplies) (o i : ℕ) → input_of s o ≡ Some i → o < length s.origins
input_of-within s o i e = elim (cases_lt o (length s.origins)) [ inl within ↦ within | inr past ↦ absurd (no_input (slice_get_past s.origins o past)) ]
  where
    no_input : slice_get s.origins o ≡ None → ⊥
    no_input none = let missing : input_of s o ≡ None = ap input_at none in cc

module _ (s : Supplies) (network : IsNetwork s) (row : List RowState) where
  abbrev count : ℕ
  count = length s.origins

  -- on its way to the root some switch is listed off: no origin has the number of all origins
  abbrev cut_in : ℕ → ℕ → Bool
  cut_in k o = is_cut s row count k o

  abbrev cut : ℕ → Bool
  cut o = cut_in count o

  none-there : (o : ℕ) → o < count → (o == count) ≡ false
  none-there o below = ne_eqb o count (λ here. omega (arith, here, below))

  abbrev stops : ℕ → Bool
  stops o = is_off (listed row o) || (o == count)

  ends_switch : (k o i : ℕ) → input_of s o ≡ Some i → ends_at_port s (suc k) o ≡ true → ends_at_port s k i ≡ true
  ends_switch k o i e ends = ap (λ found. option_map_or (ends_at_port s k) found true) (sym e) ∙ ends

  -- more steps than lead to the port change nothing
  cut_more : (k o : ℕ) → ends_at_port s k o ≡ true → cut_in k o ≡ cut_in (suc k) o
  cut_more zero o ends = cc
  cut_more (suc k) o ends = via (input_of s o) ends (cut_more k)
    where
      via : (found : Option ℕ) → option_map_or (ends_at_port s k) found true ≡ true
          → ((i : ℕ) → ends_at_port s k i ≡ true → cut_in k i ≡ cut_in (suc k) i)
          → option_map_or (λ i. stops o || cut_in k i) found false ≡ option_map_or (λ i. stops o || cut_in (suc k) i) found false
      via None e next = refl
      via (Some i) e next = ap (λ cut. stops o || cut) (next i e)

  cut_same : (k o i : ℕ) → o < k → input_of s o ≡ Some i → ends_at_port s k o ≡ true → cut_in k o ≡ (stops o || cut_in k i)
  cut_same zero o i below e ends = absurd (omega arith)
  cut_same (suc k) o i below e ends = cut_switch s row count k o i e ∙ ap (λ cut. stops o || cut) (cut_more k i (ends_switch k o i e ends))

  cut_at : (o i : ℕ) → input_of s o ≡ Some i → cut o ≡ (stops o || cut i)
  cut_at o i e = let within = input_of-within s o i e in cut_same count o i within e (network.ends o within)

  -- ---- states that go together pass

  module _ (state : ℕ → DeclaredState) (together : IsCombination s row state) where
    -- what is on is not cut, and has the state of its root
    on_is_held : (k o w : ℕ) → ends_at_port s k o ≡ true → o < count → has_part s (root_of s o) ≡ true → state o ≡ On w → (cut_in k o ≡ false) × (state (root_of s o) ≡ On w)
    on_is_held zero o w ends below part on = cc
    on_is_held (suc k) o w ends below part on = via (input_of s o) refl (on_is_held k)
      where
        via : (found : Option ℕ) → input_of s o ≡ found
            → ((i w : ℕ) → ends_at_port s k i ≡ true → i < count → has_part s (root_of s i) ≡ true → state i ≡ On w → (cut_in k i ≡ false) × (state (root_of s i) ≡ On w))
            → (cut_in (suc k) o ≡ false) × (state (root_of s o) ≡ On w)
        via None e next = (cut_port s row count (suc k) o e, ap state (network.port_roots o below e) ∙ on)
        via (Some i) e next =
            let same : state o ≡ state i = elim (together.switches o i part e) [ inl gone ↦ cc | inr same ↦ same ] in
            let root : root_of s o ≡ root_of s i = network.switch_roots o i e in
            let rest = next i w (ends_switch k o i e ends) (network.inputs o i e) (ap (has_part s) (sym root) ∙ part) (sym same ∙ on) in
            let listed_on : is_off (listed row o) ≡ false = not_off (listed row o) (state o) w (together.keeps o i part e) on in
            (cut_switch s row count k o i e ∙ ap (λ x. (x || (o == count)) || cut_in k i) listed_on ∙ ap (λ x. x || cut_in k i) (none-there o below) ∙ rest.0, ap state root ∙ rest.1)

    -- an origin with each switch on that may be
    abbrev most : ℕ → DeclaredState
    most o = held (cut o) (state (root_of s o))

    stays_on : (o w : ℕ) → o < count → has_part s (root_of s o) ≡ true → state o ≡ On w → most o ≡ On w
    stays_on o w below part on =
        let held_on = on_is_held count o w (network.ends o below) below part on in
        ap (λ c. held c (state (root_of s o))) held_on.0 ∙ held_on.1

    stays_listed : (o : ℕ) → o < count → has_part s (root_of s o) ≡ true → (found : Option ℕ) → input_of s o ≡ found → option_map_or (λ i. keeps_voltage (listed row o) (most o)) found true ≡ true
    stays_listed o below part None e = refl
    stays_listed o below part (Some i) e = keeps_voltage-from (listed row o) (state o) (most o) (together.keeps o i part e) (λ w on. stays_on o w below part on)

    no_leak : (o : ℕ) (y : DeclaredState) → o < count → ((not (o == count) || is_state_off y) && (not (o == count) || not (is_state_off y))) ≡ true
    no_leak o y below = ap (λ x. (not x || is_state_off y) && (not x || not (is_state_off y))) (none-there o below)

    agrees_from : (o : ℕ) → o < count → has_part s (root_of s o) ≡ true → agrees s row count count o (most o) ≡ true
    agrees_from o below part =
        let y = most o in
        and_from ((not (o == count) || is_state_off y) && (not (o == count) || not (is_state_off y))) (option_map_or (λ i. keeps_voltage (listed row o) y) (input_of s o) true) (no_leak o y below) (stays_listed o below part (input_of s o) refl)

    fits_with_from : (r : ℕ) → has_part s r ≡ true → fits_with s row count count r (state r) ≡ true
    fits_with_from r part = each_below-from (agrees_under s row count count r (state r)) count (λ o below. or_from (root_of s o == r) (agrees s row count count o (held (cut o) (state r))) (λ e.
        let root : root_of s o ≡ r = eqb-true (root_of s o) r e in
        subst (λ (q : ℕ). agrees s row count count o (held (cut o) (state q)) ≡ true) root (agrees_from o below (ap (has_part s) root ∙ part))))

    fits_from : (r : ℕ) → fits s row count count r ≡ true
    fits_from r = or_from (has_part s r) (list_any (fits_with s row count count r) (allowed s row r)) (λ part.
        let c = together.ports r part in
        list_any-from_Any (fits_with s row count count r) (allowed s row r) (c.0, state r, c.1, c.2, fits_with_from r part))

    pub combines-from : combines s row ≡ true
    combines-from = each_below-from (fits s row count count) count (λ r below. fits_from r)

  -- ---- where each port fits, its fitting state with each switch on that may be

  module _ (passed : combines s row ≡ true) where
    abbrev chosen : ℕ → DeclaredState
    chosen r = first_passing (fits_with s row count count r) (allowed s row r)

    abbrev found : ℕ → DeclaredState
    found o = held (cut o) (chosen (root_of s o))

    chosen_fits : (r : ℕ) → has_part s r ≡ true → Contains (allowed s row r) (chosen r) × (fits_with s row count count r (chosen r) ≡ true)
    chosen_fits r part =
        let fit = each_below-at (fits s row count count) count r passed (has_part-within s r part) in
        first_passing-found (fits_with s row count count r) (allowed s row r) (or_to (has_part s r) (list_any (fits_with s row count count r) (allowed s row r)) fit part)

    all_agree : (o : ℕ) → o < count → has_part s (root_of s o) ≡ true → agrees s row count count o (found o) ≡ true
    all_agree o below part =
        let r = root_of s o in
        let here = each_below-at (agrees_under s row count count r (chosen r)) count o (chosen_fits r part).1 below in
        or_to (root_of s o == r) (agrees s row count count o (found o)) here (eq-eqb r r refl)

    of_port : (o : ℕ) → has_part s o ≡ true → Contains (allowed s row o) (found o)
    of_port o part =
        let port = has_part-port s o part in
        let kept : found o ≡ chosen (root_of s o) = ap (λ c. held c (chosen (root_of s o))) (cut_port s row count count o port) in
        let same : chosen o ≡ found o = sym (kept ∙ ap chosen (network.port_roots o (has_part-within s o part) port)) in
        subst (λ (x : DeclaredState). Contains (allowed s row o) x) same (chosen_fits o part).0

    held_or : (x y : Bool) (z : DeclaredState) → (held (x || y) z ≡ Off) ⊎ (held (x || y) z ≡ held y z)
    held_or true y z = inl refl
    held_or false y z = inr refl

    of_switch : (o i : ℕ) → input_of s o ≡ Some i → (found o ≡ Off) ⊎ (found o ≡ found i)
    of_switch o i e =
        let z = chosen (root_of s o) in
        let here : found o ≡ held (stops o || cut i) z = ap (λ c. held c z) (cut_at o i e) in
        let there : held (cut i) z ≡ found i = ap (λ r. held (cut i) (chosen r)) (network.switch_roots o i e) in
        elim (held_or (stops o) (cut i) z) [ inl off ↦ inl (here ∙ off) | inr on ↦ inr (here ∙ on ∙ there) ]

    of_listed : (o i : ℕ) → has_part s (root_of s o) ≡ true → input_of s o ≡ Some i → Keeps (listed row o) (found o)
    of_listed o i part e =
        let y = found o in
        let leak = (not (o == count) || is_state_off y) && (not (o == count) || not (is_state_off y)) in
        let voltage = (and_parts leak (option_map_or (λ i. keeps_voltage (listed row o) y) (input_of s o) true) (all_agree o (input_of-within s o i e) part)).1 in
        let kept : keeps_voltage (listed row o) y ≡ true = ap (λ input. option_map_or (λ i. keeps_voltage (listed row o) y) input true) (sym e) ∙ voltage in
        Keeps-from (listed row o) y kept (λ off. ap (λ c. held c (chosen (root_of s o))) (cut_at o i e ∙ ap (λ x. (x || (o == count)) || cut i) off))

    pub combination-of : (state : ℕ → DeclaredState) × IsCombination s row state
    combination-of = (found, record { ports = of_port; switches = λ o i part e. of_switch o i e; keeps = of_listed })
