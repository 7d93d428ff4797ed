-- The voltages of two supplies that are on are one of the pairs that the state table allows.
use Rattle.lp_spec_fit.specs.Needs.{ShifterNeed}
use Rattle.std.proofs.Common.{◌≡◌, ◌==◌, ℕ, zero, suc, Bool, true, false, not, ◌&&◌, List, [], ◌∷◌, length, map, Option, Some, None, inl, inr, refl, sym, subst, ap, ◌∙◌, ◌<◌, ◌+◌, ◌||◌, arith}
use Rattle.std.specs.Prelude.{slice_get, is_some, if◌then◌else◌, flat_map, nat_lt}
use Rattle.std.specs.List.{list_any}
use Rattle.std.specs.Option.{option_map}
use Rattle.std.proofs.lemmas.Bool.{and_parts, eqb-true, false≢true, eq-eqb, ltb-true}
use Rattle.lp_tern.specs.declared.supply.SupplyState.{SupplyState}
use Rattle.lp_tern.specs.declared.supply.SupplyState.TheVariants as state
use Rattle.lp_model.specs.declared.intent.DeclaredState.{DeclaredState}
use Rattle.lp_model.specs.declared.intent.DeclaredState.TheVariants.{On, Off}
use Rattle.lp_model.specs.declared.intent.RowState.{RowState}
use Rattle.lp_model.specs.declared.library.Shifter.{Shifter}
use Rattle.lp_model.specs.declared.need.VoltagePair.{VoltagePair}
use Rattle.lp_model.specs.declared.supply.Row.{Row}
use Rattle.lp_model.specs.declared.supply.SetOrigins.{SetOrigins}
use Rattle.lp_model.specs.LibraryView.{CellView, PinView}
use Rattle.lp_rows.specs.Network.{root_of}
use Rattle.lp_rows.specs.Rows.{row_among, allowed}
use Rattle.lp_spec_design.specs.Intents.{SetNumber}
use Rattle.lp_spec_design.specs.Winners.{IsIn}
use Rattle.lp_spec_design.specs.Settled.{Assignment, Event, state_of, is_on}
use Rattle.lp_spec_design.proofs.Members.{in-map, in-flat, of-any}
use Rattle.lp_spec_pins.specs.Pins.{takes, is_outside, is_data, input_for}
use Rattle.lp_spec_network.specs.Views.{all_rows, rows_of}
use Rattle.lp_spec_network.specs.Pairs.{voltages, paired, pairs_in, same_pair, once, pairs_of}
use Rattle.lp_spec_fit.specs.Fits.{is_usable, only_shifts, takes_pairs, shifts_with_pins, one_output, may_be_lower}
use Rattle.lp_spec_realises.specs.Projects.{Project, functions_of}
use Rattle.lp_spec_realises.specs.Realises.{shifter_fits}
use Rattle.lp_spec_faults.specs.Lines.{first_of}
use Rattle.lp_spec_faults.specs.Supplies.{no_states}
use Rattle.lp_spec_voltages.specs.Voltages.{IsFedWithin, has_states, IsNeverUnder}
use Rattle.lp_spec_voltages.proofs.Roots.{slice-in, power-states, none-in}
use Rattle.lp_spec_voltages.proofs.Readings.{set-there}
use Rattle.lp_spec_voltages.proofs.Within.{all-of, event_row, root-allowed, one-voltage, under-by}

voltage-in : (v : ℕ) (xs : List DeclaredState) → IsIn (On v) xs → IsIn v (voltages xs)
voltage-in v [] among = absurd among
voltage-in v (On w ∷ xs) among = elim among [ inl is ↦ (let same : v ≡ w = cc in inl same) | inr rest ↦ inr (voltage-in v xs rest) ]
voltage-in v (Off ∷ xs) among = elim among [ inl is ↦ absurd cc | inr rest ↦ voltage-in v xs rest ]

same-pair : (x y : VoltagePair) → same_pair x y ≡ true → x ≡ y
same-pair x y e =
    let parts = and_parts (x.input == y.input) (x.output == y.output) e in
    let first = eqb-true x.input y.input parts.0 in
    let second = eqb-true x.output y.output parts.1 in
    λ j. record { input = first j; output = second j }

-- each pair is once among them
once-in : (x : VoltagePair) (xs : List VoltagePair) → IsIn x xs → IsIn x (once xs)
once-in x [] among = absurd among
once-in x (y ∷ xs) among = by (list_any (same_pair y) xs) refl (once-in x xs)
  where
    again : list_any (same_pair y) xs ≡ true → IsIn x xs
    again e =
        elim among [
          | inl is ↦ let found = of-any (same_pair y) xs e in subst (λ z. IsIn z xs) (sym (is ∙ same-pair y found.0 found.2)) found.1
          | inr rest ↦ rest
        ]

    by : (seen : Bool) → list_any (same_pair y) xs ≡ seen → (IsIn x xs → IsIn x (once xs)) → IsIn x (if seen then once xs else y ∷ once xs)
    by true e more = more (again e)
    by false e more = elim among [ inl is ↦ inl is | inr rest ↦ inr (more rest) ]

row-in : (rows : List Row) (n : ℕ) (row : List RowState) → row_among rows n ≡ Some row → IsIn row (all_rows rows)
row-in [] zero row e = let is : row ≡ [] = cc in inl is
row-in [] (suc n) row e = absurd cc
row-in (r ∷ rows) zero row e = absurd cc
row-in (r ∷ rows) (suc n) row e = by (slice_get (r ∷ rows) n) refl e
  where
    by : (found : Option Row) → slice_get (r ∷ rows) n ≡ found → option_map (λ (x : Row). x.states) found ≡ Some row
        → IsIn row (map (λ (x : Row). x.states) (r ∷ rows))
    by None is f = absurd cc
    by (Some x) is f = let same : x.states ≡ row = cc in subst (λ z. IsIn z (map (λ (y : Row). y.states) (r ∷ rows))) same (in-map (λ (y : Row). y.states) x (r ∷ rows) (slice-in (r ∷ rows) n x is))

module _ (p : Project) (ev : Event) (A : Assignment) (h : IsFedWithin p ev A) where
  in-row : (a b v w : ℕ) → has_states p.supplies a ≡ true → has_states p.supplies b ≡ true → state_of A a ≡ state.On v → state_of A b ≡ state.On w
      → IsIn (paired v w) (pairs_in p.supplies a b (event_row p ev A h))
  in-row a b v w part_a part_b on_a on_b =
      by (root_of p.supplies a == root_of p.supplies b) refl
      (voltages (allowed p.supplies (event_row p ev A h) (root_of p.supplies a))) (voltages (allowed p.supplies (event_row p ev A h) (root_of p.supplies b)))
      (voltage-in v (allowed p.supplies (event_row p ev A h) (root_of p.supplies a)) (root-allowed p ev A h a v part_a on_a))
      (voltage-in w (allowed p.supplies (event_row p ev A h) (root_of p.supplies b)) (root-allowed p ev A h b w part_b on_b))
    where
      by : (same : Bool) → (root_of p.supplies a == root_of p.supplies b) ≡ same → (firsts seconds : List ℕ) → IsIn v firsts → IsIn w seconds
          → IsIn (paired v w) (if same then map (λ (x : ℕ). paired x x) firsts else flat_map (λ (x : ℕ). map (paired x) seconds) firsts)
      by true e firsts seconds first second =
          let one = one-voltage p ev A h a b v w (eqb-true (root_of p.supplies a) (root_of p.supplies b) e) on_a on_b in
          subst (λ u. IsIn (paired v u) (map (λ (x : ℕ). paired x x) firsts)) one (in-map (λ (x : ℕ). paired x x) v firsts first)
      by false e firsts seconds first second = in-flat (λ (x : ℕ). map (paired x) seconds) v (paired v w) firsts first (in-map (paired v) w seconds second)

  pub pair-in : (a b v w : ℕ) → has_states p.supplies a ≡ true → has_states p.supplies b ≡ true → state_of A a ≡ state.On v → state_of A b ≡ state.On w
      → IsIn (paired v w) (pairs_of p.supplies a b)
  pair-in a b v w part_a part_b on_a on_b =
      once-in (paired v w) (flat_map (pairs_in p.supplies a b) (rows_of p.supplies))
      (in-flat (pairs_in p.supplies a b) (event_row p ev A h) (paired v w) (rows_of p.supplies) (row-in p.supplies.rows h.within.0 (event_row p ev A h) h.within.2) (in-row a b v w part_a part_b on_a on_b))

-- what takes the voltages of two pairs that are on is not outside
inside-by : (f : Shifter) (x g y k : SupplyState) → ((v w : ℕ) → x ≡ state.On v → y ≡ state.On w → takes f v w ≡ true)
    → is_outside f (record { power = x; gnd = g }) (record { power = y; gnd = k }) ≡ false
inside-by f (state.On v) g (state.On w) k t = by (is_on g) (is_on k) (takes f v w) (t v w refl refl)
  where
    by : (a b c : Bool) → c ≡ true → (a && (b && not c)) ≡ false
    by a b c e = rw e (none a b)
      where
        none : (a b : Bool) → (a && (b && false)) ≡ false
        none true true = refl
        none true false = refl
        none false b = refl
inside-by f (state.On v) (state.On g) state.Off k t = refl
inside-by f (state.On v) state.Off state.Off k t = refl
inside-by f (state.On v) state.Unknown state.Off k t = refl
inside-by f (state.On v) (state.On g) state.Unknown k t = refl
inside-by f (state.On v) state.Off state.Unknown k t = refl
inside-by f (state.On v) state.Unknown state.Unknown k t = refl
inside-by f state.Off g y k t = refl
inside-by f state.Unknown g y k t = refl

pub inside : (p : Project) (ev : Event) (A : Assignment) → IsFedWithin p ev A
    → (a b : ℕ) (f : Shifter) → has_states p.supplies a ≡ true → has_states p.supplies b ≡ true → takes_pairs (pairs_of p.supplies a b) (Some f) ≡ true
    → (g k : SupplyState) → is_outside f (record { power = state_of A a; gnd = g }) (record { power = state_of A b; gnd = k }) ≡ false
inside p ev A h a b f part_a part_b fits g k =
    inside-by f (state_of A a) g (state_of A b) k
    (λ v w on_a on_b. all-of (λ (x : VoltagePair). takes f x.input x.output) (paired v w) (pairs_of p.supplies a b) fits (pair-in p ev A h a b v w part_a part_b on_a on_b))

-- a cell that fits takes all pairs, and has fitting pins
fits-parts : (p : Project) (x y : SetOrigins) (c : CellView) → shifter_fits p (Some x) (Some y) c ≡ true
    → (takes_pairs (pairs_of p.supplies x.power.0 y.power.0) c.roles.shifter ≡ true)
    × (shifts_with_pins (record { input = x; output = y; pairs = pairs_of p.supplies x.power.0 y.power.0; margin = p.margin; mapped = None }) c (input_for is_data c) (one_output c) ≡ true)
fits-parts p x y c fits =
    let pins : Bool = shifts_with_pins (record { input = x; output = y; pairs = pairs_of p.supplies x.power.0 y.power.0; margin = p.margin; mapped = None }) c (input_for is_data c) (one_output c) in
    let taken : Bool = takes_pairs (pairs_of p.supplies x.power.0 y.power.0) c.roles.shifter in
    let two = and_parts (length c.pins == 2) (taken && pins)
    (and_parts (not (is_some c.state)) ((length c.pins == 2) && (taken && pins))
    (and_parts (only_shifts c.roles) (not (is_some c.state) && ((length c.pins == 2) && (taken && pins)))
    (and_parts (is_usable c) (only_shifts c.roles && (not (is_some c.state) && ((length c.pins == 2) && (taken && pins)))) fits).1).1).1 in
    and_parts taken pins two.1

fits-takes : (p : Project) (x y : SetOrigins) (c : CellView) (f : Shifter) → shifter_fits p (Some x) (Some y) c ≡ true → c.roles.shifter ≡ Some f
    → takes_pairs (pairs_of p.supplies x.power.0 y.power.0) (Some f) ≡ true
fits-takes p x y c f fits is = ap (takes_pairs (pairs_of p.supplies x.power.0 y.power.0)) (sym is) ∙ (fits-parts p x y c fits).0

-- where data and output relate to one power pin, no pair has the input below the output
third-of : (a b c d : Bool) → (a && (b && (c && d))) ≡ true → c ≡ true
third-of a b c d e = (and_parts c d (and_parts b (c && d) (and_parts a (b && (c && d)) e).1).1).0

not-lower_by : (same lower : Bool) → (not same || not lower) ≡ true → same ≡ true → lower ≡ false
not-lower_by true true e is = sym e
not-lower_by true false e is = refl
not-lower_by false lower e is = absurd (false≢true is)

shared-not_lower : (n : ShifterNeed) (c : CellView) (d q : PinView) → shifts_with_pins n c (Some d) (Some q) ≡ true → d.power ≡ q.power → may_be_lower n ≡ false
shared-not_lower n c d q e same = not-lower_by (d.power == q.power) (may_be_lower n) (third-of _ _ (not (d.power == q.power) || not (may_be_lower n)) _ e) (eq-eqb d.power q.power same)

itself-below : (margin v w : ℕ) (r : SupplyState) → r ≡ state.On v → r ≡ state.On w → nat_lt (v + margin) w ≡ false
itself-below margin v w r first second = by (nat_lt (v + margin) w) refl
  where
    one : v ≡ w
    one = let both : state.On v ≡ state.On w = sym first ∙ second in cc

    by : (found : Bool) → nat_lt (v + margin) w ≡ found → found ≡ false
    by false e = refl
    by true e = let below : v + margin < w = ltb-true (v + margin) w e in absurd (omega (arith, one, below))

pub never-itself : (margin : ℕ) (r : SupplyState) → IsNeverUnder margin r r
never-itself margin r = λ g k. under-by r g r k margin (λ v w first second. itself-below margin v w r first second)

pub fitting-inside : (p : Project) (ev : Event) (A : Assignment) → IsFedWithin p ev A → first_of (no_states p.supplies) ≡ None
    → (a b : SetNumber) (x y : SetOrigins) → functions_of p (Some a) ≡ Some x → functions_of p (Some b) ≡ Some y
    → (c : CellView) (f : Shifter) → shifter_fits p (Some x) (Some y) c ≡ true → c.roles.shifter ≡ Some f
    → (g k : SupplyState) → is_outside f (record { power = state_of A x.power.0; gnd = g }) (record { power = state_of A y.power.0; gnd = k }) ≡ false
fitting-inside p ev A h declared a b x y from to c f fits is g k =
    inside p ev A h x.power.0 y.power.0 f
    (power-states p.supplies h.network declared a x (set-there p a x from))
    (power-states p.supplies h.network declared b y (set-there p b y to))
    (fits-takes p x y c f fits is) g k

pub shared-not_under : (p : Project) (ev : Event) (A : Assignment) → IsFedWithin p ev A → first_of (no_states p.supplies) ≡ None
    → (a b : SetNumber) (x y : SetOrigins) → functions_of p (Some a) ≡ Some x → functions_of p (Some b) ≡ Some y
    → (c : CellView) (d q : PinView) → shifter_fits p (Some x) (Some y) c ≡ true → input_for is_data c ≡ Some d → one_output c ≡ Some q → d.power ≡ q.power
    → IsNeverUnder p.margin (state_of A x.power.0) (state_of A y.power.0)
shared-not_under p ev A h declared a b x y from to c d q fits data_is output_is same =
    λ g k. under-by (state_of A x.power.0) g (state_of A y.power.0) k p.margin
    (λ v w on_x on_y. none-in (λ (z : VoltagePair). nat_lt (z.input + p.margin) z.output) (paired v w) (pairs_of p.supplies x.power.0 y.power.0) none
    (pair-in p ev A h x.power.0 y.power.0 v w (power-states p.supplies h.network declared a x (set-there p a x from)) (power-states p.supplies h.network declared b y (set-there p b y to)) on_x on_y))
  where
    need : ShifterNeed
    need = record { input = x; output = y; pairs = pairs_of p.supplies x.power.0 y.power.0; margin = p.margin; mapped = None }

    none : may_be_lower need ≡ false
    none = shared-not_lower need c d q ((λ i. shifts_with_pins need c (sym data_is i) (sym output_is i)) ∙ (fits-parts p x y c fits).1) same
