-- Nothing that reads is under what reaches it.
use Rattle.std.proofs.Common.{◌≡◌, ◌⊎◌, ◌+◌, ◌==◌, ℕ, Bool, true, false, List, [], ◌∷◌, ◌++◌, Option, Some, None, inl, inr, refl, sym, subst, ap, ◌∙◌, arith, ◌||◌}
use Rattle.std.specs.Prelude.{nat_lt, slice_get, option_and_then, filter, flat_map, if◌then◌else◌}
use Rattle.std.specs.List.{list_any}
use Rattle.std.specs.Option.{option_map}
use Rattle.std.proofs.lemmas.Option.{slice_get-map}
use Rattle.lp_tern.specs.declared.tern.Tern.TheVariants.{X}
use Rattle.lp_tern.specs.declared.supply.SupplyState.{SupplyState}
use Rattle.lp_tern.specs.declared.supply.SupplyState.TheVariants.{On, Unknown}
use Rattle.lp_model.specs.declared.supply.OriginKind.{OriginKind}
use Rattle.lp_model.specs.declared.supply.OriginKind.TheVariants.{Port, Switch}
use Rattle.lp_model.specs.declared.supply.Origin as model
use Rattle.lp_model.specs.declared.supply.SetOrigins.{SetOrigins}
use Rattle.lp_rows.specs.Network.{input_by, input_at, input_of}
use Rattle.lp_rows.specs.Voltages.{under_of}
use Rattle.lp_spec_design.specs.Keys.{Node}
use Rattle.lp_spec_design.specs.Graph.{numbered}
use Rattle.lp_spec_design.specs.Winners.{IsIn}
use Rattle.lp_spec_design.specs.Intents.{SetNumber, SupplySet, Strategy, Origin, FromPort, FromSwitch}
use Rattle.lp_spec_design.specs.Settled.{Assignment, Event, state_of, set_at, sets_under, is_under}
use Rattle.lp_spec_design.proofs.Members.{in-either, of-map, of-flat, of-filter}
use Rattle.lp_spec_pins.specs.Pins.{Pair, pair_under, Powered, PinAssignment, signal_at, supply_of_node, driving, read_by, is_joined, some_under}
use Rattle.lp_spec_network.specs.Views as views
use Rattle.lp_spec_network.specs.Views.{lower_origins, lower_sets, of_powers, set_view, kind_view}
use Rattle.lp_spec_design.specs.Domains.{primary_of}
use Rattle.lp_spec_design.specs.Settled.{rail_of}
use Rattle.lp_spec_realises.specs.Projects.{Project, network_of, design_of, functions_of, numbered_node}
use Rattle.lp_spec_realises.specs.Operators.{all_operators, SwitchAt, switches_among, all_switches}
use Rattle.lp_spec_realises.specs.Controls.{power_of, power_of_rail, is_lower, reads_too_low}
use Rattle.lp_spec_faults.specs.Lines.{first_of}
use Rattle.lp_spec_faults.specs.Order.{in_command_order}
use Rattle.lp_spec_faults.specs.Strategies.{registers}
use Rattle.lp_spec_faults.specs.Supplies.{no_states}
use Rattle.lp_spec_faults.specs.Readings.{Reading, all_readings, reaching_rail, reading_supply, of_both, is_level_uncovered, uncovered_level, Asks, StrategyAsks, SwitchAsks, ControlRead, control_read, clamps_by, retains_by, all_asks, node_of_signal, reads_of_register, reads_of_strategy, reads_of_switch, control_reads, control_level}
use Rattle.lp_spec_voltages.specs.Voltages.{IsFedWithin, has_states, state_if, power_state, IsNeverUnder}
use Rattle.lp_spec_voltages.proofs.Roots.{on-within, no-fault, none-in, input-states, power-states, at-number}
use Rattle.lp_spec_voltages.proofs.Within.{under-by, not-below}

-- the power of a set, by what the set is
power-at : (p : Project) (j : SetNumber) (found : Option (Option SetOrigins)) → slice_get p.supplies.sets j ≡ found
    → power_of p (Some j) ≡ option_and_then (λ (x : SupplySet). Some x.power) (option_map set_view found)
power-at p j found is = ap (option_and_then (λ (x : SupplySet). Some x.power)) (slice_get-map set_view p.supplies.sets j ∙ ap (option_map set_view) is)

pub set-there : (p : Project) (k : SetNumber) (x : SetOrigins) → views.set_at p.supplies k ≡ Some x → slice_get p.supplies.sets k ≡ Some (Some x)
set-there p k x is = by (slice_get p.supplies.sets k) is
  where
    by : (found : Option (Option SetOrigins)) → option_and_then (λ y. y) found ≡ Some x → found ≡ Some (Some x)
    by None e = cc
    by (Some y) e = ap (λ z. Some z) e

-- the power of a set with its functions
pub power-is : (p : Project) (A : Assignment) (k : Option SetNumber) (x : SetOrigins) → functions_of p k ≡ Some x → power_state p A k ≡ state_of A x.power.0
power-is p A None x is = absurd cc
power-is p A (Some k) x is = ap (state_if A) (power-at p k (Some (Some x)) (set-there p k x is))

-- a power that is on is that of a used set
record PoweredBy (p : Project) (A : Assignment) (k : Option SetNumber) (v : ℕ) : Type 0 where
  number : SetNumber
  set : SetOrigins
  named : k ≡ Some number
  has : slice_get p.supplies.sets number ≡ Some (Some set)
  is : power_of p k ≡ Some set.power.0
  on : state_of A set.power.0 ≡ On v

-- an origin that is the power of a set, or the input of a switch
abbrev StatedBy : Project → Option ℕ → Type 0
StatedBy p x = ((k : Option SetNumber) × (x ≡ power_of p k)) ⊎ ((o : ℕ) × (i : ℕ) × (input_of p.supplies o ≡ Some i) × (x ≡ Some i))

-- ---- what reads controls

read-once : (p : Project) (t : ℕ) (node : Option Node) (reader : Option ℕ) (x : ControlRead) → IsIn x (control_read p t node reader) → x.reader ≡ reader
read-once p t None reader x among = absurd among
read-once p t (Some k) reader x among = elim among [ inl is ↦ ap (λ (z : ControlRead). z.reader) is | inr rest ↦ absurd rest ]

module _ (p : Project) (x : ControlRead) where
  by-set : (t : ℕ) (node : Option Node) (k : Option SetNumber) → IsIn x (control_read p t node (power_of p k)) → StatedBy p x.reader
  by-set t node k among = inl (k, read-once p t node (power_of p k) x among)

  of-four : (a b c d : List ControlRead) → (IsIn x a → StatedBy p x.reader) → (IsIn x b → StatedBy p x.reader) → (IsIn x c → StatedBy p x.reader)
      → (IsIn x d → StatedBy p x.reader) → IsIn x (a ++ (b ++ (c ++ d))) → StatedBy p x.reader
  of-four a b c d f g k l among =
      elim (in-either x a (b ++ (c ++ d)) among) [
        | inl here ↦ f here
        | inr more ↦ elim (in-either x b (c ++ d) more) [
          | inl here ↦ g here
          | inr rest ↦ elim (in-either x c d rest) [ inl here ↦ k here | inr last ↦ l last ]
        ]
      ]

  of-register : (t : ℕ) (y : Strategy) → IsIn x (reads_of_register p t y) → StatedBy p x.reader
  of-register t y among =
      of-four (control_read p t (node_of_signal y.save) (power_of p (primary_of p.intent (Some y.domain)))) (control_read p t (node_of_signal y.save) (power_of p y.supply))
      (control_read p t (node_of_signal y.restore) (power_of p (primary_of p.intent (Some y.domain)))) (control_read p t (node_of_signal y.restore) (power_of p y.supply))
      (by-set t (node_of_signal y.save) (primary_of p.intent (Some y.domain))) (by-set t (node_of_signal y.save) y.supply)
      (by-set t (node_of_signal y.restore) (primary_of p.intent (Some y.domain))) (by-set t (node_of_signal y.restore) y.supply) among

  of-strategy : (t : ℕ) (found : Option Strategy) → IsIn x (reads_of_strategy p t found) → StatedBy p x.reader
  of-strategy t None among = absurd among
  of-strategy t (Some y) among = by (list_any (clamps_by t) (all_operators p)) (list_any (retains_by p t) (registers p)) among
    where
      by : (a b : Bool) → IsIn x (if a then control_read p t y.control (power_of p y.supply) else if b then reads_of_register p t y else [])
          → StatedBy p x.reader
      by true b among = by-set t y.control y.supply among
      by false true among = of-register t y among
      by false false among = absurd among

-- ---- switches

-- a switch is the origin of its number
switch-among : (w : SwitchAt) (xs : List (ℕ × Origin)) → IsIn w (switches_among xs) → IsIn (w.origin, FromSwitch w.input w.control w.high) xs
switch-among w [] among = absurd among
switch-among w (x ∷ xs) among = by x.0 x.1 among (switch-among w xs)
  where
    by : (k : ℕ) (o : Origin) → IsIn w (switches_among ((k, o) ∷ xs))
        → (IsIn w (switches_among xs) → IsIn (w.origin, FromSwitch w.input w.control w.high) xs)
        → IsIn (w.origin, FromSwitch w.input w.control w.high) ((k, o) ∷ xs)
    by k FromPort here more = inr (more here)
    by k (FromSwitch input control high) here more = elim here [ inl is ↦ inl (ap (λ (z : SwitchAt). (z.origin, FromSwitch z.input z.control z.high)) is) | inr rest ↦ inr (more rest) ]

-- the input of a switch is that of its origin
pub switch-input : (p : Project) (w : SwitchAt) → IsIn w (all_switches p) → input_of p.supplies w.origin ≡ Some w.input
switch-input p w among =
    let found = at-number 0 (network_of p).origins w.origin (FromSwitch w.input w.control w.high) (switch-among w (numbered 0 (network_of p).origins) among) in
    let same : w.origin ≡ found.0 = omega (arith, found.1) in
    ap (input_of p.supplies) same
    ∙ by (slice_get p.supplies.origins found.0) (sym (slice_get-map (λ (o : model.Origin). kind_view (numbered_node p.structure) o.kind) p.supplies.origins found.0) ∙ found.2)
  where
    kind : (k : OriginKind) → Some (kind_view (numbered_node p.structure) k) ≡ Some (FromSwitch w.input w.control w.high) → input_by k ≡ Some w.input
    kind (Port states) e = cc
    kind (Switch input control high) e = cc

    by : (o : Option model.Origin)
        → option_map (λ (x : model.Origin). kind_view (numbered_node p.structure) x.kind) o ≡ Some (FromSwitch w.input w.control w.high)
        → input_at o ≡ Some w.input
    by None e = cc
    by (Some o) e = kind o.kind e

of-switch : (p : Project) (x : ControlRead) (o : ℕ) → IsIn x (reads_of_switch o (all_switches p)) → StatedBy p x.reader
of-switch p x o among =
    let found = of-map (λ (w : SwitchAt). record { asks = SwitchAsks o; control = w.control; reader = Some w.input }) x (filter (λ (w : SwitchAt). w.origin == o) (all_switches p)) among in
    let there = of-filter (λ (w : SwitchAt). w.origin == o) found.0 (all_switches p) found.1 in
    inr (found.0.origin, found.0.input, switch-input p found.0 there.0, ap (λ (z : ControlRead). z.reader) found.2)

stated-in : (p : Project) (x : ControlRead) (f : Asks → List ControlRead) (asked : List Asks) → IsIn x (flat_map f asked)
    → ((t : ℕ) → f (StrategyAsks t) ≡ reads_of_strategy p t (slice_get p.intent.strategies t)) → ((o : ℕ) → f (SwitchAsks o) ≡ reads_of_switch o (all_switches p)) → StatedBy p x.reader
stated-in p x f asked among first second = let found = of-flat f x asked among in by found.0 found.2
  where
    by : (ask : Asks) → IsIn x (f ask) → StatedBy p x.reader
    by (StrategyAsks t) here = of-strategy p x t (slice_get p.intent.strategies t) (subst (IsIn x) (first t) here)
    by (SwitchAsks o) here = of-switch p x o (subst (IsIn x) (second o) here)

stated : (p : Project) (commands : ℕ → ℕ) (x : ControlRead) → IsIn x (control_reads p commands) → StatedBy p x.reader
stated p commands x among = stated-in p x _ (in_command_order (all_asks p commands)) among (λ t. refl) (λ o. refl)

module _ (p : Project) (ev : Event) (A : Assignment) (h : IsFedWithin p ev A) where
  powered : (k : Option SetNumber) (v : ℕ) → power_state p A k ≡ On v → PoweredBy p A k v
  powered None v on = absurd cc
  powered (Some j) v on = by (slice_get p.supplies.sets j) refl
    where
      by : (found : Option (Option SetOrigins)) → slice_get p.supplies.sets j ≡ found → PoweredBy p A (Some j) v
      by None is = let none : Unknown ≡ On v = ap (state_if A) (sym (power-at p j None is)) ∙ on in absurd cc
      by (Some None) is =
          let far = on-within p ev A h 1024 v (ap (state_if A) (sym (power-at p j (Some None) is)) ∙ on) in
          let few = h.network.few_origins in
          absurd (omega arith)
      by (Some (Some x)) is = record { number = j; set = x; named = refl; has = is; is = power-at p j (Some (Some x)) is; on = ap (state_if A) (sym (power-at p j (Some (Some x)) is)) ∙ on }

  module _ (declared : first_of (no_states p.supplies) ≡ None) where
    set-states : (k : Option SetNumber) (v : ℕ) (x : PoweredBy p A k v) → has_states p.supplies x.set.power.0 ≡ true
    set-states k v x = power-states p.supplies h.network declared x.number x.set x.has

    -- ---- sets

    pub sets-not_under : (r t : Option SetNumber) → of_both (λ (a b : SetNumber). lower_sets p.supplies a b p.margin) r t ≡ false
        → IsNeverUnder p.margin (power_state p A r) (power_state p A t)
    sets-not_under r t lower = λ g k. under-by (power_state p A r) g (power_state p A t) k p.margin (λ v w on_r on_t. below v w (powered r v on_r) (powered t w on_t))
      where
        below : (v w : ℕ) (x : PoweredBy p A r v) (y : PoweredBy p A t w) → nat_lt (v + p.margin) w ≡ false
        below v w x y =
            let test : SetNumber → SetNumber → Bool = λ a b. lower_sets p.supplies a b p.margin in
            let here : lower_sets p.supplies x.number y.number p.margin ≡ false = sym (λ i. of_both test (x.named i) (y.named i)) ∙ lower in
            let same : lower_sets p.supplies x.number y.number p.margin ≡ lower_origins p.supplies x.set.power.0 y.set.power.0 p.margin
            = λ i. of_powers (λ o q. lower_origins p.supplies o q p.margin) (option_and_then (λ z. z) (x.has i)) (option_and_then (λ z. z) (y.has i)) in
            not-below p ev A h x.set.power.0 y.set.power.0 p.margin v w (set-states r v x) (set-states t w y) (sym same ∙ here) x.on y.on

    pub readings-not_under : first_of (uncovered_level p) ≡ None → (x : Reading) → IsIn x (all_readings p)
        → IsNeverUnder p.margin (power_state p A (reaching_rail p x)) (power_state p A (reading_supply p x))
    readings-not_under none x among = sets-not_under (reaching_rail p x) (reading_supply p x) (none-in (is_level_uncovered p) x (all_readings p) (no-fault (uncovered_level p) none) among)

    -- ---- controls

    stated-on : (x : Option ℕ) (v : ℕ) → StatedBy p x → state_if A x ≡ On v → (o : ℕ) × (x ≡ Some o) × (has_states p.supplies o ≡ true) × (state_of A o ≡ On v)
    stated-on x v (inl by) on =
        let found = powered by.0 v (ap (state_if A) (sym by.1) ∙ on) in
        (found.set.power.0, by.1 ∙ found.is, set-states by.0 v found, found.on)
    stated-on x v (inr by) on = (by.1, by.3, input-states p.supplies h.network declared by.0 by.1 by.2, ap (state_if A) (sym by.3) ∙ on)

    pub origins-not_under : (x y : Option ℕ) → StatedBy p x → StatedBy p y → is_lower p x y ≡ false → IsNeverUnder p.margin (state_if A x) (state_if A y)
    origins-not_under x y from to lower = λ g k. under-by (state_if A x) g (state_if A y) k p.margin below
      where
        below : (v w : ℕ) → state_if A x ≡ On v → state_if A y ≡ On w → nat_lt (v + p.margin) w ≡ false
        below v w on_x on_y =
            let a = stated-on x v from on_x in
            let b = stated-on y w to on_y in
            not-below p ev A h a.0 b.0 p.margin v w a.2 b.2 (sym (λ i. is_lower p (a.1 i) (b.1 i)) ∙ lower) a.3 b.3

    pub controls-not_under : (commands : ℕ → ℕ) → first_of (control_level p commands) ≡ None → (x : ControlRead) → IsIn x (control_reads p commands)
        → IsNeverUnder p.margin (state_if A (power_of_rail p x.control)) (state_if A x.reader)
    controls-not_under commands none x among =
        origins-not_under (power_of_rail p x.control) x.reader (inl (rail_of (design_of p) x.control, refl)) (stated p commands x among)
        (none-in (λ (z : ControlRead). reads_too_low p z.control z.reader) x (control_reads p commands) (no-fault (control_level p commands) none) among)

-- ---- pairs of sets

-- a set whose power is never under another's is not under it
pub not-under_by : (p : Project) (A : Assignment) (r t : Option SetNumber) → IsNeverUnder p.margin (power_state p A r) (power_state p A t)
    → is_under (network_of p) A r t ≡ false
not-under_by p A None t never = refl
not-under_by p A (Some r) None never = by (set_at (network_of p) (Some r))
  where
    by : (x : Option SupplySet) → sets_under p.margin A x None ≡ false
    by None = refl
    by (Some x) = refl
not-under_by p A (Some r) (Some t) never = by (slice_get (network_of p).sets r) (slice_get (network_of p).sets t) never
  where
    by : (x y : Option SupplySet)
        → IsNeverUnder p.margin (state_if A (option_and_then (λ (z : SupplySet). Some z.power) x)) (state_if A (option_and_then (λ (z : SupplySet). Some z.power) y))
        → sets_under p.margin A x y ≡ false
    by None y never = refl
    by (Some x) None never = refl
    by (Some x) (Some y) never = never (state_of A x.gnd) (state_of A y.gnd)

pub reading-sets : (p : Project) (ev : Event) (A : Assignment) → IsFedWithin p ev A → first_of (no_states p.supplies) ≡ None
    → first_of (uncovered_level p) ≡ None → (x : Reading) → IsIn x (all_readings p)
    → is_under (network_of p) A (reaching_rail p x) (reading_supply p x) ≡ false
reading-sets p ev A h declared none x among = not-under_by p A (reaching_rail p x) (reading_supply p x) (readings-not_under p ev A h declared none x among)

pub pairs-by : (margin : ℕ) (a b : SupplyState) → IsNeverUnder margin a b → (x y : Pair) → x.power ≡ a → y.power ≡ b → pair_under margin x y ≡ false
pairs-by margin a b never x y first second = (λ i. under_of (first i) x.gnd (second i) y.gnd margin) ∙ never x.gnd y.gnd

-- a pin reads its node
pub reads-node : (w : Powered) (B : PinAssignment) (k : Node) (t : Pair) (a b : SupplyState) → IsNeverUnder w.around.margin a b
    → supply_of_node w k ≡ None → ((r : Pair) → driving w B k ≡ Some r → r.power ≡ a) → t.power ≡ b → read_by w B k t ≡ signal_at B k
reads-node w B k t a b never no_supply driver own =
    ap (λ z. if is_joined z || some_under w.around.margin (driving w B k) t then X else signal_at B k) no_supply
    ∙ ap (λ z. if z then X else signal_at B k) (by (driving w B k) refl)
  where
    by : (found : Option Pair) → driving w B k ≡ found → some_under w.around.margin found t ≡ false
    by None is = refl
    by (Some r) is = pairs-by w.around.margin a b never r t (driver r is) own
