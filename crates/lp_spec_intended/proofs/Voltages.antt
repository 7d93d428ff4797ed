-- States and rows have voltages of at most 1,000,000 V.
use Rattle.std.proofs.Common.{◌≡◌, ◌≤◌, ℕ, ◌^◌, Bool, true, false, List, [], ◌∷◌, ◌++◌, map, Option, Some, None, inl, inr, refl, sym, ap, subst, arith}
use Rattle.std.specs.Prelude.{flat_map, bytes_eq, codes, if◌then◌else◌, filter, length, Ok}
use Rattle.std.specs.Option.{option_map}
use Rattle.lp_text.proofs.Digits.{micros_of-most}
use Rattle.lp_model.specs.CommandsView.{WordView, CommandView}
use Rattle.lp_model.specs.declared.intent.DeclaredState.{DeclaredState}
use Rattle.lp_model.specs.declared.intent.DeclaredState.TheVariants as declared
use Rattle.lp_model.specs.declared.intent.RowState.{RowState}
use Rattle.lp_model.specs.declared.intent.RowState.TheVariants as listed
use Rattle.lp_model.specs.declared.intent.StrategyKind.{StrategyKind}
use Rattle.lp_model.specs.declared.intent.StrategyKind.TheVariants.{Isolation, Shifting, Retention}
use Rattle.lp_model.specs.declared.upf.CommandWord.{CommandWord}
use Rattle.lp_model.specs.declared.upf.CommandWord.TheVariants as commands
use Rattle.lp_model.specs.declared.upf.OptionWord.TheVariants as options
use Rattle.lp_rows.specs.Network.{declared_voltage, listed_voltage}
use Rattle.lp_spec_design.specs.Netlists.{Structure, first}
use Rattle.lp_spec_design.specs.Graph.{pairs, some_of}
use Rattle.lp_spec_design.specs.Winners.{IsIn}
use Rattle.lp_spec_design.proofs.Members.{in-either, of-map, of-flat, of-some, of-filter}
use Rattle.lp_spec_design.proofs.Sources.{first_in}
use Rattle.lp_spec_origins.specs.Commands.{Supply}
use Rattle.lp_spec_origins.specs.Origins.{Source}
use Rattle.lp_spec_intent.specs.Made.{Fact, IsDomain, IsHandle, IsSet, IsNet, IsState, IsRow, IsStrategy, IsDriver, IsReceiver, IsInterface}
use Rattle.lp_spec_intent.specs.Made.{Stated, PrimaryOf, Primary, Made, facts, domains, set_count, StateFact, state_fact, states}
use Rattle.lp_spec_intent.specs.Lookups.{words, all_values, has, word_at, own_words, own, as_listed, as_stated, same_stated, sources_of, states_of, row_state, stated, columns, set, handle, HandleOf, control}
use Rattle.lp_spec_intent.specs.Effects.{volts, at_voltage, state_of, handles_said, text_of, elements_made, handle_by, domain_facts, net_facts, primary_functions}
use Rattle.lp_spec_intent.specs.Effects.{state_by, state_facts, row_of, row_facts, supply_at, switch_by, nets_at, switch_facts, strategy_of, domains_said, strategy_facts, facts_by}
use Rattle.lp_spec_intent.specs.Intent.{made_by}
use Rattle.lp_spec_intent.proofs.Places.{some-same}
use Rattle.lp_spec_resolved.proofs.Facts.{All, known-or-made, goes-on}

-- ---- voltages of words

word-low : (o : Option ℕ) → ((v : ℕ) → o ≡ Some v → v ≤ 10 ^ 12) → declared_voltage (at_voltage o) ≤ 10 ^ 12
word-low None h = omega arith
word-low (Some v) h = h v refl

state-low : (ws : List WordView) → declared_voltage (state_of ws) ≤ 10 ^ 12
state-low [] = omega arith
state-low (w ∷ []) = word-low (volts w) (λ v e. micros_of-most w.text v e)
state-low (least ∷ nominal ∷ more) = word-low (volts nominal) (λ v e. micros_of-most nominal.text v e)

-- ---- facts

-- the states that a fact lists
abbrev pub IsLow : Fact → Type 0
IsLow (IsState x n y) = declared_voltage y ≤ 10 ^ 12
IsLow (IsRow n xs) = (z : RowState) → IsIn z xs → listed_voltage z ≤ 10 ^ 12
IsLow f = Unit {0}

none : All IsLow []
none f i = absurd i

both : (fs gs : List Fact) → All IsLow fs → All IsLow gs → All IsLow (fs ++ gs)
both fs gs h g x i = elim (in-either x fs gs i) [ inl left ↦ h x left | inr right ↦ g x right ]

one : (f : Fact) → IsLow f → All IsLow (f ∷ [])
one f h x i = elim i [ inl is ↦ subst (λ y. IsLow y) (sym is) h | inr rest ↦ absurd rest ]

of-each : {A : Type 0} (g : A → Fact) (xs : List A) → ((x : A) → IsLow (g x)) → All IsLow (map g xs)
of-each g xs h f i = let found = of-map g f xs i in subst (λ y. IsLow y) (sym found.2) (h found.0)

of-lists : {A : Type 0} (g : A → List Fact) (xs : List A) → ((x : A) → IsIn x xs → All IsLow (g x)) → All IsLow (flat_map g xs)
of-lists g xs h f i = let found = of-flat g f xs i in h found.0 found.1 f found.2

state-known : (f : Fact) (x : StateFact) → state_fact f ≡ Some x → f ≡ IsState x.of x.name x.state
state-known (IsState of name state) x e = ap (λ (y : StateFact). IsState y.of y.name y.state) (some-same _ x e)
state-known f x e = absurd cc

pub states-low : (m : Made) → All IsLow (facts m) → (x : StateFact) → IsIn x (states m) → declared_voltage x.state ≤ 10 ^ 12
states-low m low x i = let found = of-some state_fact x (facts m) i in subst (λ f. IsLow f) (state-known found.0 x found.2) (low found.0 found.1)

as-low : (y : DeclaredState) → declared_voltage y ≤ 10 ^ 12 → listed_voltage (as_listed y) ≤ 10 ^ 12
as-low (declared.On v) h = h
as-low declared.Off h = omega arith

module _ (s : Structure) (m : Made) (low : All IsLow (facts m)) where
  in-states : (a : Supply) (x : StateFact) → IsIn x (states_of s m a) → IsIn x (states m)
  in-states a x i =
      let found = of-flat (λ (z : Source). filter (λ (y : StateFact). same_stated y.of (as_stated z)) (states m)) x (sources_of s m a) i in
      (of-filter (λ (y : StateFact). same_stated y.of (as_stated found.0)) x (states m) found.2).0

  of-found : (o : Option StateFact) (z : RowState) → ((x : StateFact) → o ≡ Some x → declared_voltage x.state ≤ 10 ^ 12) → option_map (λ (y : StateFact). as_listed y.state) o ≡ Some z → listed_voltage z ≤ 10 ^ 12
  of-found None z h e = absurd cc
  of-found (Some x) z h e = subst (λ y. listed_voltage y ≤ 10 ^ 12) (some-same (as_listed x.state) z e) (as-low x.state (h x refl))

  row-low : (a : Supply) (w : WordView) (z : RowState) → row_state s m a w ≡ Some z → listed_voltage z ≤ 10 ^ 12
  row-low a w z e = by (bytes_eq w.text (codes "*")) e
    where
      named : StateFact → Bool
      named y = bytes_eq y.name w.text

      by : (b : Bool) → (if b then Some listed.Free else option_map (λ (y : StateFact). as_listed y.state) (first named (states_of s m a))) ≡ Some z → listed_voltage z ≤ 10 ^ 12
      by true f = subst (λ y. listed_voltage y ≤ 10 ^ 12) (some-same listed.Free z f) (omega arith)
      by false f =
          of-found (first named (states_of s m a)) z
          (λ x g. states-low m low x (in-states a x (first_in named (states_of s m a) x g).0)) f

  module _ (c : CommandView) where
    row-facts-low : All IsLow (row_facts s m c)
    row-facts-low f i =
        let found = of-flat (λ ls. map (row_of s m c ls) (own_words c)) f (some_of (columns s m) (words c options.Pst)) i in
        let inner = of-map (row_of s m c found.0) f (own_words c) found.2 in
        subst (λ y. IsLow y) (sym inner.2)
        (λ z j. let x = of-some (λ (y : Supply × WordView). row_state s m y.0 y.1) z (pairs found.0 (words c options.State)) j in row-low x.0.0 x.0.1 z x.2)

    by-state : (x : Stated) (ws : List WordView) → All IsLow (state_by s m c x ws)
    by-state x [] = none
    by-state x (w ∷ ws) = one (IsState x w.text (state_of ws)) (state-low ws)

    state-facts-low : All IsLow (state_facts s m c)
    state-facts-low = of-lists (λ x. flat_map (state_by s m c x) (all_values c options.State)) (some_of (stated s m) (own_words c))
        (λ x i. of-lists (state_by s m c x) (all_values c options.State) (λ ws j. by-state x ws))

    net-facts-low : All IsLow (net_facts s m c)
    net-facts-low f i = by (has c options.Reuse) i
      where
        by : (t : Bool) → IsIn f (if t then [] else map (λ w. IsNet (own m w)) (own_words c)) → IsLow f
        by true j = absurd j
        by false j = of-each (λ w. IsNet (own m w)) (own_words c) (λ w. tt) f j

    switch-facts-low : All IsLow (switch_facts s m c)
    switch-facts-low =
        of-lists (λ w. flat_map (λ i. flat_map (λ o. map (switch_by s m c w i o) (some_of (control s m) (word_at (words c options.ControlPort) 1))) (nets_at s m c options.OutputSupplyPort)) (nets_at s m c options.InputSupplyPort)) (own_words c)
        (λ w a. of-lists (λ i. flat_map (λ o. map (switch_by s m c w i o) (some_of (control s m) (word_at (words c options.ControlPort) 1))) (nets_at s m c options.OutputSupplyPort)) _
        (λ i b. of-lists (λ o. map (switch_by s m c w i o) (some_of (control s m) (word_at (words c options.ControlPort) 1))) _
        (λ o d. of-each (switch_by s m c w i o) _ (λ k. tt))))

    strategy-facts-low : (kind : StrategyKind) → All IsLow (strategy_facts s m c kind)
    strategy-facts-low kind = of-lists (λ w. map (λ d. IsStrategy w.text (strategy_of s m c kind d)) (domains_said s m c)) _ (λ w i. of-each (λ d. IsStrategy w.text (strategy_of s m c kind d)) _ (λ d. tt))

    domain-facts-low : All IsLow (domain_facts s m c)
    domain-facts-low =
        both (map (λ w. IsDomain (own m w) (elements_made s m c)) (own_words c)) (flat_map (handle_by s m c) (all_values c options.Supply))
        (of-each (λ w. IsDomain (own m w) (elements_made s m c)) (own_words c) (λ w. tt))
        (of-lists (handle_by s m c) (all_values c options.Supply) (λ ws i. of-lists (λ h. map (λ k. IsHandle (length (domains m)) h k) (some_of (set s m) (word_at ws 1))) (handles_said (text_of ws)) (λ h j. of-each (λ k. IsHandle (length (domains m)) h k) _ (λ k. tt))))

    made-low : (word : CommandWord) → All IsLow (facts_by s m c word)
    made-low commands.CreatePowerDomain = domain-facts-low
    made-low commands.CreateSupplyPort = of-each _ (own_words c) (λ w. tt)
    made-low commands.CreateSupplyNet = net-facts-low
    made-low commands.ConnectSupplyNet = of-each _ _ (λ n. tt)
    made-low commands.CreateSupplySet = of-each _ (own_words c) (λ w. tt)
    made-low commands.AssociateSupplySet = of-lists (λ k. map (λ (h : HandleOf). IsHandle h.domain h.handle k) (some_of (handle s m) (words c options.Handle))) _ (λ k i. of-each (λ (h : HandleOf). IsHandle h.domain h.handle k) _ (λ h. tt))
    made-low commands.SetDomainSupplyNet =
        of-lists (λ d. IsSet (set_count m) (PrimaryOf d) (primary_functions s m c) ∷ IsHandle d Primary (set_count m) ∷ []) _
        (λ d i. both (IsSet (set_count m) (PrimaryOf d) (primary_functions s m c) ∷ []) (IsHandle d Primary (set_count m) ∷ []) (one _ tt) (one _ tt))
    made-low commands.AddPortState = state-facts-low
    made-low commands.CreatePst = of-each _ (own_words c) (λ w. tt)
    made-low commands.AddPstState = row-facts-low
    made-low commands.SetPortAttributes =
        both (map (λ a. IsDriver a) (supply_at s m c options.DriverSupply)) (map (λ a. IsReceiver a) (supply_at s m c options.ReceiverSupply))
        (of-each (λ a. IsDriver a) _ (λ a. tt)) (of-each (λ a. IsReceiver a) _ (λ a. tt))
    made-low commands.CreatePowerSwitch = switch-facts-low
    made-low commands.SetIsolation = strategy-facts-low Isolation
    made-low commands.SetLevelShifter = strategy-facts-low Shifting
    made-low commands.SetRetention = strategy-facts-low Retention
    made-low commands.UseInterfaceCell = both (map (λ w. IsInterface (own m w)) (own_words c)) _ (of-each (λ w. IsInterface (own m w)) _ (λ w. tt)) (one _ tt)
    made-low commands.MapRetentionCell = one _ tt
    made-low commands.MapPowerSwitch = one _ tt
    made-low commands.UpfVersion = none
    made-low commands.SetDesignTop = none
    made-low commands.SetScope = none

pub all-low : (s : Structure) (all : List CommandView) (end : Made) → made_by s all ≡ Ok end → All IsLow (facts end)
all-low s all end e =
    goes-on s (λ m. All IsLow (facts m)) (λ c. Unit {0})
    (λ m c t low none_. known-or-made s m c IsLow low (made-low s m low c c.word)) all _ end (λ c i. tt) none e
