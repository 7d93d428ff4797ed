-- The test for a leak decides whether some combination has one: where one has, the combination in which each switch is on
-- that may be has one too.
use Rattle.std.proofs.Common.{◌≡◌, ◌<◌, ◌==◌, ◌⊎◌, ℕ, zero, suc, Bool, true, false, not, ◌&&◌, ◌||◌, eqb, List, [], ◌∷◌, length, Option, Some, None, inl, inr, refl, sym, subst, ap, ◌∙◌, cond, arith}
use Rattle.std.specs.Prelude.{slice_get, Contains}
use Rattle.std.specs.List.{list_any}
use Rattle.std.specs.Option.{option_map_or}
use Rattle.std.proofs.lemmas.Bool.{and_parts, and_from, cases_lt, both_ways, or_right, eqb-true, eq-eqb, ne_eqb}
use Rattle.std.proofs.lemmas.List.Folds.{list_any-from_Any}
use Rattle.std.proofs.lemmas.Option.{slice_get_past}
use Rattle.lp_model.specs.declared.supply.OriginKind.{OriginKind}
use Rattle.lp_model.specs.declared.supply.OriginKind.TheVariants.{Port, Switch}
use Rattle.lp_model.specs.declared.supply.Origin.{Origin}
use Rattle.lp_model.specs.declared.supply.Supplies.{Supplies}
use Rattle.lp_model.specs.declared.intent.DeclaredState.{DeclaredState}
use Rattle.lp_model.specs.declared.intent.DeclaredState.TheVariants.{On, Off}
use Rattle.lp_model.specs.declared.intent.RowState.{RowState}
use Rattle.lp_model.specs.declared.intent.RowState.TheVariants as Listed
use Rattle.lp_rows.specs.Network.{IsNetwork, input_of, input_at, root_of, states_at, is_some_state, is_ground, has_part, ends_at_port}
use Rattle.lp_rows.specs.Rows.{listed, allowed}
use Rattle.lp_rows.specs.Leaks.{Keeps, IsCombination, MayLeak, is_off, is_cut, held, is_state_off, keeps_voltage, agrees, agrees_under, each_below, fits_with, fits, has_fit, leaks_in}
use Rattle.lp_rows.proofs.BelowLemmas.{each_below-at, each_below-from}
use Rattle.lp_rows.proofs.CutLemmas.{cut_port, cut_switch}

off_or_on : (x : DeclaredState) → (x ≡ Off) ⊎ ((v : ℕ) × (x ≡ On v))
off_or_on Off = inl refl
off_or_on (On v) = inr (v, refl)

or_second : (x y : Bool) → x ≡ false → (x || y) ≡ true → y ≡ true
or_second x y e h = ap (λ z. z || y) (sym e) ∙ h

-- a test that is asked where another does not pass
or_from : (x y : Bool) → (x ≡ true → y ≡ true) → (not x || y) ≡ true
or_from true y h = h refl
or_from false y h = refl

or_to : (x y : Bool) → (not x || y) ≡ true → x ≡ true → y ≡ true
or_to true y h e = h
or_to false y h e = cc

-- a port that has states is an origin without input
port_states-kind : (gnd : Bool) (found : Option Origin) → is_some_state (states_at gnd found) ≡ true → input_at found ≡ None
port_states-kind gnd None e = refl
port_states-kind gnd (Some origin) e = kind gnd origin.kind e
  where
    kind : (gnd : Bool) (k : OriginKind) → is_some_state (Rattle.lp_rows.specs.Network.states_by gnd k) ≡ true → Rattle.lp_rows.specs.Network.input_by k ≡ None
    kind gnd (Port states) e = refl
    kind gnd (Switch input control high) e = cc

pub has_part-port : (s : Supplies) (o : ℕ) → has_part s o ≡ true → input_of s o ≡ None
has_part-port s o e = port_states-kind (is_ground s o) (slice_get s.origins o) e

pub has_part-within : (s : Supplies) (o : ℕ) → has_part s o ≡ true → o < length s.origins
has_part-within s o e =
    elim (cases_lt o (length s.origins)) [
      | inl within ↦ within
      | inr past ↦ absurd (no_states (slice_get_past s.origins o past))
    ]
  where
    no_states : slice_get s.origins o ≡ None → ⊥
    no_states none = both_ways (has_part s o) (ap (λ found. is_some_state (states_at (is_ground s o) found)) none) e

input_of-within : (s : Supplies) (o i : ℕ) → input_of s o ≡ Some i → o < length s.origins
input_of-within s o i e =
    elim (cases_lt o (length s.origins)) [
      | inl within ↦ within
      | inr past ↦ absurd (no_input (slice_get_past s.origins o past))
    ]
  where
    no_input : slice_get s.origins o ≡ None → ⊥
    no_input none = let missing : input_of s o ≡ None = ap input_at none in cc

-- the state that a listed one asks for
Keeps-from : (l : RowState) (x : DeclaredState) → keeps_voltage l x ≡ true → (is_off l ≡ true → x ≡ Off) → Keeps l x
Keeps-from Listed.Free x e off = tt
Keeps-from Listed.Off x e off = off refl
Keeps-from (Listed.On v) (On w) e off = ap (λ u. On u) (sym (eqb-true v w e))
Keeps-from (Listed.On v) Off e off = cc

keeps_voltage-from : (l : RowState) (x y : DeclaredState) → Keeps l x → ((w : ℕ) → x ≡ On w → y ≡ On w) → keeps_voltage l y ≡ true
keeps_voltage-from Listed.Free x y k on = refl
keeps_voltage-from Listed.Off x y k on = refl
keeps_voltage-from (Listed.On v) x y k on = ap (keeps_voltage (Listed.On v)) (on v k) ∙ eq-eqb v v refl

not_off : (l : RowState) (x : DeclaredState) (w : ℕ) → Keeps l x → x ≡ On w → is_off l ≡ false
not_off Listed.Free x w k e = refl
not_off Listed.Off x w k e = cc
not_off (Listed.On v) x w k e = refl

-- the first state that passes a test
first_passing : (DeclaredState → Bool) → List DeclaredState → DeclaredState
first_passing test [] = Off
first_passing test (x ∷ xs) = cond (test x) x (first_passing test xs)

Contains-next : (x y : DeclaredState) (xs : List DeclaredState) → Contains xs y → Contains (x ∷ xs) y
Contains-next x y xs c = (suc c.0, omega arith, c.2)

first_passing-found : (test : DeclaredState → Bool) (xs : List DeclaredState) → list_any test xs ≡ true → Contains xs (first_passing test xs) × (test (first_passing test xs) ≡ true)
unfolding first_passing
first_passing-found test [] e = cc
first_passing-found test (x ∷ xs) e = at (test x) refl e (first_passing-found test xs)
  where
    at : (passed : Bool) → test x ≡ passed → (passed || list_any test xs) ≡ true
        → (list_any test xs ≡ true → Contains xs (first_passing test xs) × (test (first_passing test xs) ≡ true))
        → Contains (x ∷ xs) (cond passed x (first_passing test xs)) × (test (cond passed x (first_passing test xs)) ≡ true)
    at true is e next = ((0, omega arith, refl), is)
    at false is e next = let rest = next e in (Contains-next x (first_passing test xs) xs rest.0, rest.1)

list_any-at : (test : DeclaredState → Bool) (xs : List DeclaredState) (x : DeclaredState) → Contains xs x → test x ≡ true → list_any test xs ≡ true
list_any-at test xs x c passed = list_any-from_Any test xs (c.0, x, c.1, c.2, passed)

module _ (s : Supplies) (network : IsNetwork s) (row : List RowState) (a : ℕ) where
  abbrev stops : ℕ → Bool
  stops o = is_off (listed row o) || (o == a)

  ends_switch : (k o i : ℕ) → input_of s o ≡ Some i → ends_at_port s (suc k) o ≡ true → ends_at_port s k i ≡ true
  ends_switch k o i e ends = ap (λ found. option_map_or (ends_at_port s k) found true) (sym e) ∙ ends

  -- more steps than lead to the port change nothing
  cut_more : (k o : ℕ) → ends_at_port s k o ≡ true → is_cut s row a k o ≡ is_cut s row a (suc k) o
  cut_more zero o ends = cc
  cut_more (suc k) o ends = via (input_of s o) ends (cut_more k)
    where
      via : (found : Option ℕ) → option_map_or (ends_at_port s k) found true ≡ true
          → ((i : ℕ) → ends_at_port s k i ≡ true → is_cut s row a k i ≡ is_cut s row a (suc k) i)
          → option_map_or (λ i. stops o || is_cut s row a k i) found false ≡ option_map_or (λ i. stops o || is_cut s row a (suc k) i) found false
      via None e next = refl
      via (Some i) e next = ap (λ cut. stops o || cut) (next i e)

  cut_same : (k o i : ℕ) → o < k → input_of s o ≡ Some i → ends_at_port s k o ≡ true → is_cut s row a k o ≡ (stops o || is_cut s row a k i)
  cut_same zero o i below e ends = absurd (omega arith)
  cut_same (suc k) o i below e ends = cut_switch s row a k o i e ∙ ap (λ cut. stops o || cut) (cut_more k i (ends_switch k o i e ends))

  abbrev count : ℕ
  count = length s.origins

  abbrev cut : ℕ → Bool
  cut o = is_cut s row a count o

  cut_at : (o i : ℕ) → input_of s o ≡ Some i → cut o ≡ (stops o || cut i)
  cut_at o i e = let within = input_of-within s o i e in cut_same count o i within e (network.ends o within)

  -- what a combination with `a` off has on is not cut, and has the state of its root
  on_is_held : (state : ℕ → DeclaredState) → IsCombination s row state → state a ≡ Off → (k o w : ℕ) → ends_at_port s k o ≡ true → o < count
      → has_part s (root_of s o) ≡ true → state o ≡ On w → (is_cut s row a k o ≡ false) × (state (root_of s o) ≡ On w)
  on_is_held state together off zero o w ends below part on = cc
  on_is_held state together off (suc k) o w ends below part on = via (input_of s o) refl (on_is_held state together off k)
    where
      via : (found : Option ℕ) → input_of s o ≡ found
          → ((i w : ℕ) → ends_at_port s k i ≡ true → i < count → has_part s (root_of s i) ≡ true → state i ≡ On w → (is_cut s row a k i ≡ false) × (state (root_of s i) ≡ On w))
          → (is_cut s row a (suc k) o ≡ false) × (state (root_of s o) ≡ On w)
      via None e next = (cut_port s row a (suc k) o e, ap state (network.port_roots o below e) ∙ on)
      via (Some i) e next =
          let same : state o ≡ state i = elim (together.switches o i part e) [ inl gone ↦ cc | inr same ↦ same ] in
          let root : root_of s o ≡ root_of s i = network.switch_roots o i e in
          let rest = next i w (ends_switch k o i e ends) (network.inputs o i e) (ap (has_part s) (sym root) ∙ part) (sym same ∙ on) in
          let listed_on : is_off (listed row o) ≡ false = not_off (listed row o) (state o) w (together.keeps o i part e) on in
          let apart : eqb o a ≡ false = ne_eqb o a (λ here. let gone : state o ≡ Off = ap state here ∙ off in cc) in
          (cut_switch s row a k o i e ∙ ap (λ x. (x || (o == a)) || is_cut s row a k i) listed_on ∙ ap (λ x. x || is_cut s row a k i) apart ∙ rest.0, ap state root ∙ rest.1)

  -- the state of an origin where each switch is on that may be, under a state of its root
  abbrev most : DeclaredState → ℕ → DeclaredState
  most x o = held (cut o) x

  most_on : (x : DeclaredState) (o w : ℕ) → cut o ≡ false → x ≡ On w → most x o ≡ On w
  most_on x o w kept on = ap (λ c. held c x) kept ∙ on

  is_off-held : (c : Bool) (x : DeclaredState) → (c ≡ false → x ≡ Off) → is_state_off (held c x) ≡ true
  is_off-held true x off = refl
  is_off-held false x off = ap is_state_off (off refl)

  -- a combination with a leak keeps its promises where more switches are on
  module _ (b : ℕ) (leak : MayLeak s row a b) where
    abbrev given : ℕ → DeclaredState
    given o = leak.state (root_of s o)

    stays_on : (o w : ℕ) → o < count → has_part s (root_of s o) ≡ true → leak.state o ≡ On w → most (given o) o ≡ On w
    stays_on o w below part on =
        let held_on = on_is_held leak.state leak.together leak.off count o w (network.ends o below) below part on in
        most_on (given o) o w held_on.0 held_on.1

    -- a port that is off is a root that is off, and a switch `a` is cut
    stays_off : (o : ℕ) → o < count → o ≡ a → is_state_off (most (given o) o) ≡ true
    stays_off o below here = is_off-held (cut o) (given o) (λ kept. root_off kept (input_of s o) refl)
      where
        root_off : cut o ≡ false → (found : Option ℕ) → input_of s o ≡ found → given o ≡ Off
        root_off kept None e = ap leak.state (network.port_roots o below e ∙ here) ∙ leak.off
        root_off kept (Some i) e =
            let stopped : (o == a) ≡ true = eq-eqb o a here in
            let cut_here : cut o ≡ true = cut_at o i e ∙ ap (λ x. (is_off (listed row o) || x) || cut i) stopped ∙ ap (λ x. x || cut i) (or_right (is_off (listed row o)) true refl) in
            absurd (both_ways (cut o) kept cut_here)

    stays_listed : (o : ℕ) → o < count → has_part s (root_of s o) ≡ true → (found : Option ℕ) → input_of s o ≡ found → option_map_or (λ i. keeps_voltage (listed row o) (most (given o) o)) found true ≡ true
    stays_listed o below part None e = refl
    stays_listed o below part (Some i) e =
        keeps_voltage-from (listed row o) (leak.state o) (most (given o) o) (leak.together.keeps o i part e) (λ w on. stays_on o w below part on)

    agrees_from : (o : ℕ) → o < count → has_part s (root_of s o) ≡ true → agrees s row a b o (most (given o) o) ≡ true
    agrees_from o below part =
        let y = most (given o) o in
        let off : (not (o == a) || is_state_off y) ≡ true = or_from (o == a) (is_state_off y) (λ e. stays_off o below (eqb-true o a e)) in
        let stays = λ (here : o ≡ b). stays_on o leak.voltage below part (ap leak.state here ∙ leak.on) in
        let on : (not (o == b) || not (is_state_off y)) ≡ true = or_from (o == b) (not (is_state_off y)) (λ e. ap (λ x. not (is_state_off x)) (stays (eqb-true o b e))) in
        let both = and_from (not (o == a) || is_state_off y) (not (o == b) || not (is_state_off y)) off on in
        and_from ((not (o == a) || is_state_off y) && (not (o == b) || not (is_state_off y))) (option_map_or (λ i. keeps_voltage (listed row o) y) (input_of s o) true) both (stays_listed o below part (input_of s o) refl)

    fits_with_from : (r : ℕ) → has_part s r ≡ true → fits_with s row a b r (leak.state r) ≡ true
    fits_with_from r part = each_below-from (agrees_under s row a b r (leak.state r)) count (λ o below. or_from (root_of s o == r) (agrees s row a b o (most (leak.state r) o)) (λ e.
        let root : root_of s o ≡ r = eqb-true (root_of s o) r e in
        subst (λ (q : ℕ). agrees s row a b o (most (leak.state q) o) ≡ true) root (agrees_from o below (ap (has_part s) root ∙ part))))

    fits_from : (r : ℕ) → fits s row a b r ≡ true
    fits_from r = or_from (has_part s r) (list_any (fits_with s row a b r) (allowed s row r)) (λ part.
        list_any-at (fits_with s row a b r) (allowed s row r) (leak.state r) (leak.together.ports r part) (fits_with_from r part))

    pub leaks_in-from : leaks_in s row a b ≡ true
    leaks_in-from =
        let first = and_from (has_part s (root_of s a)) (fits s row a b (root_of s a)) leak.part_a (fits_from (root_of s a)) in
        let second = and_from (has_part s (root_of s b)) (fits s row a b (root_of s b)) leak.part_b (fits_from (root_of s b)) in
        let both = and_from (has_fit s row a b (root_of s a)) (has_fit s row a b (root_of s b)) first second in
        and_from (has_fit s row a b (root_of s a) && has_fit s row a b (root_of s b)) (each_below (fits s row a b) count) both (each_below-from (fits s row a b) count (λ r below. fits_from r))

  and_three : (x y z : Bool) → ((x && y) && z) ≡ true → (x ≡ true) × (y ≡ true) × (z ≡ true)
  and_three x y z e =
      let both = and_parts (x && y) z e in
      let first = and_parts x y both.0 in
      (first.0, first.1, both.1)

  -- where each port fits, the ports' fitting states with each switch on that may be
  module _ (b : ℕ) (passed : leaks_in s row a b ≡ true) where
    abbrev chosen : ℕ → DeclaredState
    chosen r = first_passing (fits_with s row a b r) (allowed s row r)

    abbrev together : ℕ → DeclaredState
    together o = most (chosen (root_of s o)) o

    parts : (has_fit s row a b (root_of s a) ≡ true) × (has_fit s row a b (root_of s b) ≡ true) × (each_below (fits s row a b) count ≡ true)
    parts = and_three (has_fit s row a b (root_of s a)) (has_fit s row a b (root_of s b)) (each_below (fits s row a b) count) passed

    chosen_fits : (r : ℕ) → has_part s r ≡ true → Contains (allowed s row r) (chosen r) × (fits_with s row a b r (chosen r) ≡ true)
    chosen_fits r part =
        let fit = each_below-at (fits s row a b) count r parts.2 (has_part-within s r part) in
        first_passing-found (fits_with s row a b r) (allowed s row r) (or_to (has_part s r) (list_any (fits_with s row a b r) (allowed s row r)) fit part)

    all_agree : (o : ℕ) → o < count → has_part s (root_of s o) ≡ true → agrees s row a b o (together o) ≡ true
    all_agree o below part =
        let r = root_of s o in
        let here = each_below-at (agrees_under s row a b r (chosen r)) count o (chosen_fits r part).1 below in
        or_to (root_of s o == r) (agrees s row a b o (together o)) here (eq-eqb r r refl)

    agreed : (o : ℕ) → o < count → has_part s (root_of s o) ≡ true
        → ((not (o == a) || is_state_off (together o)) ≡ true) × ((not (o == b) || not (is_state_off (together o))) ≡ true) × (option_map_or (λ i. keeps_voltage (listed row o) (together o)) (input_of s o) true ≡ true)
    agreed o below part =
        and_three (not (o == a) || is_state_off (together o)) (not (o == b) || not (is_state_off (together o))) (option_map_or (λ i. keeps_voltage (listed row o) (together o)) (input_of s o) true) (all_agree o below part)

    of_port : (o : ℕ) → has_part s o ≡ true → Contains (allowed s row o) (together o)
    of_port o part =
        let port = has_part-port s o part in
        let kept : together o ≡ chosen (root_of s o) = ap (λ c. held c (chosen (root_of s o))) (cut_port s row a count o port) in
        let same : chosen o ≡ together o = sym (kept ∙ ap chosen (network.port_roots o (has_part-within s o part) port)) in
        subst (λ (x : DeclaredState). Contains (allowed s row o) x) same (chosen_fits o part).0

    held_or : (x y : Bool) (z : DeclaredState) → (held (x || y) z ≡ Off) ⊎ (held (x || y) z ≡ held y z)
    held_or true y z = inl refl
    held_or false y z = inr refl

    of_switch : (o i : ℕ) → input_of s o ≡ Some i → (together o ≡ Off) ⊎ (together o ≡ together i)
    of_switch o i e =
        let z = chosen (root_of s o) in
        let here : together o ≡ held (stops o || cut i) z = ap (λ c. held c z) (cut_at o i e) in
        let there : held (cut i) z ≡ together i = ap (λ r. held (cut i) (chosen r)) (network.switch_roots o i e) in
        elim (held_or (stops o) (cut i) z) [ inl off ↦ inl (here ∙ off) | inr on ↦ inr (here ∙ on ∙ there) ]

    of_listed : (o i : ℕ) → has_part s (root_of s o) ≡ true → input_of s o ≡ Some i → Keeps (listed row o) (together o)
    of_listed o i part e =
        let voltage = (agreed o (input_of-within s o i e) part).2 in
        let kept : keeps_voltage (listed row o) (together o) ≡ true = ap (λ found. option_map_or (λ i. keeps_voltage (listed row o) (together o)) found true) (sym e) ∙ voltage in
        Keeps-from (listed row o) (together o) kept (λ off.
        ap (λ c. held c (chosen (root_of s o))) (cut_at o i e ∙ ap (λ x. (x || (o == a)) || cut i) off))

    off_from : (x : DeclaredState) → is_state_off x ≡ true → x ≡ Off
    off_from Off e = refl
    off_from (On v) e = cc

    on_from : (x : DeclaredState) → not (is_state_off x) ≡ true → (v : ℕ) × (x ≡ On v)
    on_from Off e = cc
    on_from (On v) e = (v, refl)

    pub MayLeak-from : a < count → b < count → MayLeak s row a b
    MayLeak-from a_within b_within =
        let part_a = (and_parts (has_part s (root_of s a)) (fits s row a b (root_of s a)) parts.0).0 in
        let part_b = (and_parts (has_part s (root_of s b)) (fits s row a b (root_of s b)) parts.1).0 in
        let on = on_from (together b) (or_to (b == b) (not (is_state_off (together b))) (agreed b b_within part_b).1 (eq-eqb b b refl)) in
        record {
          part_a = part_a;
          part_b = part_b;
          state = together;
          together = record { ports = of_port; switches = λ o i part e. of_switch o i e; keeps = of_listed };
          off = off_from (together a) (or_to (a == a) (is_state_off (together a)) (agreed a a_within part_a).0 (eq-eqb a a refl));
          voltage = on.0;
          on = on.1;
        }
