-- Whatever commands make is sound: its controls are net bits of instances, and its scopes are instances.
use Rattle.std.proofs.Common.{◌≡◌, ℕ, Bool, true, false, List, [], ◌∷◌, ◌++◌, map, Option, Some, None, inl, inr, refl, sym, ap, ◌∙◌, subst}
use Rattle.std.specs.Prelude.{Result, Ok, Err, flat_map, is_some, option_and_then, unwrap_or, if◌then◌else◌}
use Rattle.std.specs.Option.{option_map}
use Rattle.lp_model.specs.CommandsView.{WordView, CommandView}
use Rattle.lp_model.specs.declared.library.Action.{Action}
use Rattle.lp_model.specs.declared.intent.StrategyKind.{StrategyKind}
use Rattle.lp_model.specs.declared.intent.StrategyKind.TheVariants.{Isolation, Shifting, Retention}
use Rattle.lp_model.specs.declared.upf.CommandWord.{CommandWord}
use Rattle.lp_model.specs.declared.upf.CommandWord.TheVariants as commands
use Rattle.lp_model.specs.declared.upf.OptionWord.{OptionWord}
use Rattle.lp_model.specs.declared.upf.OptionWord.TheVariants as options
use Rattle.lp_spec_design.specs.Keys.{Name, Path, Node}
use Rattle.lp_spec_design.specs.Netlists.{Structure, module_at}
use Rattle.lp_spec_design.specs.Graph.{some_of}
use Rattle.lp_spec_design.specs.Intents.{Strategy}
use Rattle.lp_spec_design.specs.Winners.{IsIn}
use Rattle.lp_spec_design.proofs.Members.{in-either, in-map, of-map, of-flat, of-some}
use Rattle.lp_spec_origins.specs.Commands.{Scoped, PowerSwitch, MakesSwitch}
use Rattle.lp_spec_intent.specs.Made.{Primary, PrimaryOf, set_count, Fact, IsDomain, IsHandle, IsSet, IsNet, IsSwitch, IsStrategy, IsDriver, IsReceiver, IsInterface, AreCells}
use Rattle.lp_spec_intent.specs.Made.{Known, Made, nothing, facts, first_of, network_fact, network, StrategyFact, strategy_fact, strategies}
use Rattle.lp_spec_intent.specs.Lookups.{words, all_values, has, word_at, own_words, own, instance, control, domain, handle, set, port, net, stated, columns}
use Rattle.lp_spec_intent.specs.Faults.{NameFault, earliest, faults_at}
use Rattle.lp_spec_intent.specs.Effects.{one, text_of, action_of, handles_said, elements_made, handle_by, domain_facts, port_facts, net_facts, connection_facts, set_facts, association_facts, primary_functions, primary_facts}
use Rattle.lp_spec_intent.specs.Effects.{state_by, state_facts, table_facts, row_of, row_facts, supply_at, attribute_facts, switch_by, nets_at, switch_facts}
use Rattle.lp_spec_intent.specs.Effects.{control_by, signal_by, strategy_of, domains_said, strategy_facts, interface_facts, facts_by, facts_made, scope_by, after}
use Rattle.lp_spec_intent.specs.Intent.{unless, made_from, made_by, settled, resolved}
use Rattle.lp_spec_intent.specs.Laws.{StandsInside, StandInside}
use Rattle.lp_spec_intent.proofs.Places.{some-same, HasPlace, instance-there, control-there}

pub record IsSoundStrategy (s : Structure) (t : Strategy) : Type 0 where
  pub enables : (k : Node) → t.control ≡ Some k → StandsInside s k
  pub saves : (k : Node × Action) → t.save ≡ Some k → StandsInside s k.0
  pub restores : (k : Node × Action) → t.restore ≡ Some k → StandsInside s k.0

pub record IsSoundSwitch (s : Structure) (w : PowerSwitch) : Type 0 where
  pub control : StandsInside s w.control
  pub scope : HasPlace s w.name.scope

abbrev pub IsSound : Structure → Fact → Type 0
IsSound s (IsStrategy name t) = IsSoundStrategy s t
IsSound s (IsSwitch w port) = IsSoundSwitch s w
IsSound s f = Unit {0}

-- ---- lists of facts

abbrev AreSound : Structure → List Fact → Type 0
AreSound s fs = (f : Fact) → IsIn f fs → IsSound s f

module _ (s : Structure) where
  none-sound : AreSound s []
  none-sound f i = absurd i

  more-sound : (f : Fact) (fs : List Fact) → IsSound s f → AreSound s fs → AreSound s (f ∷ fs)
  more-sound f fs h g x i = elim i [ inl is ↦ subst (λ y. IsSound s y) (sym is) h | inr rest ↦ g x rest ]

  both-sound : (fs gs : List Fact) → AreSound s fs → AreSound s gs → AreSound s (fs ++ gs)
  both-sound fs gs h g x i = elim (in-either x fs gs i) [ inl left ↦ h x left | inr right ↦ g x right ]

  map-sound : {A : Type 0} (g : A → Fact) (xs : List A) → ((x : A) → IsIn x xs → IsSound s (g x)) → AreSound s (map g xs)
  map-sound g xs h f i = let found = of-map g f xs i in subst (λ y. IsSound s y) (sym found.2) (h found.0 found.1)

  flat-sound : {A : Type 0} (g : A → List Fact) (xs : List A) → ((x : A) → IsIn x xs → AreSound s (g x)) → AreSound s (flat_map g xs)
  flat-sound g xs h f i = let found = of-flat g f xs i in h found.0 found.1 f found.2

-- ---- options

first-in : {A : Type 0} (xs : List A) (x : A) → first_of xs ≡ Some x → IsIn x xs
first-in [] x e = absurd cc
first-in (y ∷ xs) x e = inl (sym (some-same y x e))

one-in : {A : Type 0} (find : WordView → Option A) (ws : List WordView) (x : A) → one find ws ≡ Some x → (w : WordView) × (find w ≡ Some x)
one-in find ws x e = let found = of-some find x ws (first-in (some_of find ws) x e) in (found.0, found.2)

module _ (s : Structure) (m : Made) (c : CommandView) where
  control-stands : (o : OptionWord) (k : Node) → control_by s m c o ≡ Some k → StandsInside s k
  control-stands o k e =
      let found = one-in (control s m) (word_at (words c o) 0) k e in
      control-there s m.scope found.0.text k found.1

  signal-stands : (o : OptionWord) (k : Node × Action) → signal_by s m c o ≡ Some k → StandsInside s k.0
  signal-stands o k e = by (control_by s m c o) refl e
    where
      when_ : (j : Node) (a : Option WordView) → control_by s m c o ≡ Some j → option_map (λ w. (j, action_of w)) a ≡ Some k → StandsInside s k.0
      when_ j None f g = absurd cc
      when_ j (Some w) f g = subst (λ (x : Node × Action). StandsInside s x.0) (some-same (j, action_of w) k g) (control-stands o j f)

      by : (a : Option Node) → control_by s m c o ≡ a → option_and_then (λ j. option_map (λ w. (j, action_of w)) (first_of (word_at (words c o) 1))) a ≡ Some k → StandsInside s k.0
      by None f g = absurd cc
      by (Some j) f g = when_ j (first_of (word_at (words c o) 1)) f g

  strategy-sound : (kind : StrategyKind) (d : ℕ) → IsSoundStrategy s (strategy_of s m c kind d)
  strategy-sound kind d = record {
    enables = λ k e. by (words c options.IsolationSignal) k e;
    saves = λ k e. signal-stands options.SaveSignal k e;
    restores = λ k e. signal-stands options.RestoreSignal k e;
  }
    where
      by : (ws : List WordView) (k : Node) → control_by s m c options.IsolationSignal ≡ Some k → StandsInside s k
      by ws k e = control-stands options.IsolationSignal k e

  strategies-sound : (kind : StrategyKind) → AreSound s (strategy_facts s m c kind)
  strategies-sound kind =
      flat-sound s (λ w. map (λ d. IsStrategy w.text (strategy_of s m c kind d)) (domains_said s m c)) (own_words c)
      (λ w i. map-sound s (λ d. IsStrategy w.text (strategy_of s m c kind d)) (domains_said s m c) (λ d j. strategy-sound kind d))

  abbrev controls_said : List Node
  controls_said = some_of (control s m) (word_at (words c options.ControlPort) 1)

  switch-sound : HasPlace s m.scope → (w : WordView) (i o : Scoped) (k : Node) → IsIn k controls_said → IsSound s (switch_by s m c w i o k)
  switch-sound h w i o k j =
      let found = of-some (control s m) k (word_at (words c options.ControlPort) 1) j in
      record { control = control-there s m.scope found.0.text k found.2; scope = h }

  switches-sound : HasPlace s m.scope → AreSound s (switch_facts s m c)
  switches-sound h =
      flat-sound s (λ w. flat_map (λ i. flat_map (λ o. map (switch_by s m c w i o) controls_said) (nets_at s m c options.OutputSupplyPort)) (nets_at s m c options.InputSupplyPort)) (own_words c)
      (λ w a. flat-sound s (λ i. flat_map (λ o. map (switch_by s m c w i o) controls_said) (nets_at s m c options.OutputSupplyPort)) (nets_at s m c options.InputSupplyPort)
      (λ i b. flat-sound s (λ o. map (switch_by s m c w i o) controls_said) (nets_at s m c options.OutputSupplyPort)
      (λ o d. map-sound s (switch_by s m c w i o) controls_said (λ k j. switch-sound h w i o k j))))

  -- ---- what other commands make has no control

  handles-sound : (ws : List WordView) → AreSound s (handle_by s m c ws)
  handles-sound ws f i =
      let found = of-flat _ f (handles_said (text_of ws)) i in
      let inner = of-map _ f (some_of (set s m) (word_at ws 1)) found.2 in
      subst (λ y. IsSound s y) (sym inner.2) tt

  domain-sound : AreSound s (domain_facts s m c)
  domain-sound =
      both-sound s (map (λ w. IsDomain (own m w) (elements_made s m c)) (own_words c)) (flat_map (handle_by s m c) (all_values c options.Supply))
      (map-sound s (λ w. IsDomain (own m w) (elements_made s m c)) (own_words c) (λ w i. tt))
      (flat-sound s (handle_by s m c) (all_values c options.Supply) (λ ws i. handles-sound ws))

  port-sound : AreSound s (port_facts s m c)
  port-sound f i = let found = of-map _ f (own_words c) i in subst (λ y. IsSound s y) (sym found.2) tt

  net-sound : AreSound s (net_facts s m c)
  net-sound f i = by (has c options.Reuse) i
    where
      by : (t : Bool) → IsIn f (if t then [] else map (λ w. IsNet (own m w)) (own_words c)) → IsSound s f
      by true i = absurd i
      by false i = let found = of-map (λ w. IsNet (own m w)) f (own_words c) i in subst (λ y. IsSound s y) (sym found.2) tt

  connection-sound : AreSound s (connection_facts s m c)
  connection-sound f i = let found = of-map _ f (some_of (net s m) (own_words c)) i in subst (λ y. IsSound s y) (sym found.2) tt

  set-sound : AreSound s (set_facts s m c)
  set-sound f i = let found = of-map _ f (own_words c) i in subst (λ y. IsSound s y) (sym found.2) tt

  association-sound : AreSound s (association_facts s m c)
  association-sound f i =
      let found = of-flat _ f (some_of (set s m) (own_words c)) i in
      let inner = of-map _ f (some_of (handle s m) (words c options.Handle)) found.2 in
      subst (λ y. IsSound s y) (sym inner.2) tt

  primary-sound : AreSound s (primary_facts s m c)
  primary-sound =
      flat-sound s (λ d. IsSet (set_count m) (PrimaryOf d) (primary_functions s m c) ∷ IsHandle d Primary (set_count m) ∷ []) (some_of (domain s m) (own_words c))
      (λ d i. more-sound s (IsSet (set_count m) (PrimaryOf d) (primary_functions s m c)) (IsHandle d Primary (set_count m) ∷ []) tt (more-sound s (IsHandle d Primary (set_count m)) [] tt (none-sound s)))

  state-sound : AreSound s (state_facts s m c)
  state-sound f i =
      let found = of-flat _ f (some_of (stated s m) (own_words c)) i in
      let inner = of-flat (state_by s m c found.0) f (all_values c options.State) found.2 in
      by inner.0 inner.2
    where
      by : (ws : List WordView) → IsIn f (state_by s m c (of-flat _ f (some_of (stated s m) (own_words c)) i).0 ws) → IsSound s f
      by [] j = absurd j
      by (w ∷ ws) j = elim j [ inl is ↦ subst (λ y. IsSound s y) (sym is) tt | inr rest ↦ absurd rest ]

  table-sound : AreSound s (table_facts s m c)
  table-sound f i = let found = of-map _ f (own_words c) i in subst (λ y. IsSound s y) (sym found.2) tt

  row-sound : AreSound s (row_facts s m c)
  row-sound f i =
      let found = of-flat _ f (some_of (columns s m) (words c options.Pst)) i in
      let inner = of-map (row_of s m c found.0) f (own_words c) found.2 in
      subst (λ y. IsSound s y) (sym inner.2) tt

  attribute-sound : AreSound s (attribute_facts s m c)
  attribute-sound =
      both-sound s (map (λ a. IsDriver a) (supply_at s m c options.DriverSupply)) (map (λ a. IsReceiver a) (supply_at s m c options.ReceiverSupply))
      (map-sound s (λ a. IsDriver a) (supply_at s m c options.DriverSupply) (λ a i. tt))
      (map-sound s (λ a. IsReceiver a) (supply_at s m c options.ReceiverSupply) (λ a i. tt))

  single-sound : (xs ys : List ℕ) (zs : List (List ℕ)) → AreSound s (AreCells xs ys zs ∷ [])
  single-sound xs ys zs = more-sound s (AreCells xs ys zs) [] tt (none-sound s)

  interface-sound : AreSound s (interface_facts s m c)
  interface-sound f i = elim (in-either f (map (λ w. IsInterface (own m w)) (own_words c)) _ i) [
    | inl left ↦ map-sound s (λ w. IsInterface (own m w)) (own_words c) (λ w j. tt) f left
    | inr right ↦ elim right [ inl is ↦ subst (λ y. IsSound s y) (sym is) tt | inr rest ↦ absurd rest ]
  ]

  facts-sound : HasPlace s m.scope → (word : CommandWord) → AreSound s (facts_by s m c word)
  facts-sound h commands.CreatePowerDomain = domain-sound
  facts-sound h commands.CreateSupplyPort = port-sound
  facts-sound h commands.CreateSupplyNet = net-sound
  facts-sound h commands.ConnectSupplyNet = connection-sound
  facts-sound h commands.CreateSupplySet = set-sound
  facts-sound h commands.AssociateSupplySet = association-sound
  facts-sound h commands.SetDomainSupplyNet = primary-sound
  facts-sound h commands.AddPortState = state-sound
  facts-sound h commands.CreatePst = table-sound
  facts-sound h commands.AddPstState = row-sound
  facts-sound h commands.SetPortAttributes = attribute-sound
  facts-sound h commands.CreatePowerSwitch = switches-sound h
  facts-sound h commands.SetIsolation = strategies-sound Isolation
  facts-sound h commands.SetLevelShifter = strategies-sound Shifting
  facts-sound h commands.SetRetention = strategies-sound Retention
  facts-sound h commands.UseInterfaceCell = interface-sound
  facts-sound h commands.MapRetentionCell = single-sound _ _ _
  facts-sound h commands.MapPowerSwitch = single-sound _ _ _
  facts-sound h commands.UpfVersion = none-sound s
  facts-sound h commands.SetDesignTop = none-sound s
  facts-sound h commands.SetScope = none-sound s

  scope-stands : HasPlace s [] → HasPlace s m.scope → (word : CommandWord) → HasPlace s (scope_by s m c word)
  scope-stands top h commands.SetScope = by (one (instance s m) (own_words c)) refl
    where
      by : (o : Option Path) → one (instance s m) (own_words c) ≡ o → HasPlace s (unwrap_or o m.scope)
      by None e = h
      by (Some q) e = let found = one-in (instance s m) (own_words c) q e in instance-there s m.scope top h found.0.text q found.1
  scope-stands top h word = h

-- ---- all that has been made

abbrev made_or : Made → Result Made NameFault → Made
made_or other (Ok m) = m
made_or other (Err f) = other

abbrev made_as : Made → Result Made NameFault
made_as m = Ok m

ok-same : (m n : Made) → made_as m ≡ Ok n → m ≡ n
ok-same m n e = ap (made_or m) e

same-switch : (v w : PowerSwitch) → MakesSwitch v ≡ MakesSwitch w → v ≡ w
same-switch v w e = cc

pub record AreSoundFacts (s : Structure) (m : Made) : Type 0 where
  pub scope : HasPlace s m.scope
  pub sound : AreSound s (facts m)

module _ (s : Structure) (top : HasPlace s []) where
  after-sound : (m : Made) (c : CommandView) → AreSoundFacts s m → AreSoundFacts s (after s m c)
  after-sound m c h = record { scope = scope-stands s m c top h.scope c.word; sound = λ f i. by f (of-map (λ (k : Known). k.fact) f (after s m c).known i) }
    where
      known_of : Fact → Known
      known_of f = record { command = m.count; fact = f }

      by : (f : Fact) → (k : Known) × IsIn k (m.known ++ map (λ g. record { command = m.count; fact = g }) (facts_made s m c)) × (f ≡ k.fact) → IsSound s f
      by f found = elim (in-either found.0 m.known (map known_of (facts_made s m c)) found.1) [
        | inl old ↦ h.sound f (subst (λ y. IsIn y (facts m)) (sym found.2) (in-map (λ (k : Known). k.fact) found.0 m.known old))
        | inr new ↦
            let made = of-map known_of found.0 (facts_made s m c) new in
            facts-sound s m c h.scope c.word f (subst (λ y. IsIn y (facts_made s m c)) (sym (found.2 ∙ ap (λ (k : Known). k.fact) made.2)) made.1)
      ]

  from-sound : (commands : List CommandView) (m end : Made) → AreSoundFacts s m → made_from s m commands ≡ Ok end → AreSoundFacts s end
  from-sound [] m end h e = subst (λ x. AreSoundFacts s x) (ok-same m end e) h
  from-sound (c ∷ commands) m end h e = by (earliest (faults_at s m c)) e (λ f. from-sound commands (after s m c) end (after-sound m c h) f)
    where
      by : (o : Option NameFault) → unless o (made_from s (after s m c) commands) ≡ Ok end → (made_from s (after s m c) commands ≡ Ok end → AreSoundFacts s end) → AreSoundFacts s end
      by None f more = more f
      by (Some g) f more = absurd cc

strategy-known : (f : Fact) (x : StrategyFact) → strategy_fact f ≡ Some x → f ≡ IsStrategy x.name x.strategy
strategy-known (IsStrategy name t) x e = ap (λ (y : StrategyFact). IsStrategy y.name y.strategy) (some-same _ x e)
strategy-known f x e = absurd cc

switch-known : (f : Fact) (w : PowerSwitch) → network_fact f ≡ Some (MakesSwitch w) → (port : Name) × (f ≡ IsSwitch w port)
switch-known (IsSwitch v port) w e = (port, ap (λ x. IsSwitch x port) (same-switch v w (some-same _ _ e)))
switch-known f w e = absurd cc

-- whatever commands make over a netlist with a top
pub names-stand-inside : (s : Structure) (commands : List CommandView) (m : Made) → is_some (module_at s []) ≡ true → made_by s commands ≡ Ok m → StandInside s m
names-stand-inside s commands m top e = record {
  enables = λ t k i f. let found = strategy-of t i in (sound-of found.0 found.1).enables k (ap (λ (x : Strategy). x.control) (sym found.2) ∙ f);
  saves = λ t k i f. let found = strategy-of t i in (sound-of found.0 found.1).saves k (ap (λ (x : Strategy). x.save) (sym found.2) ∙ f);
  restores = λ t k i f. let found = strategy-of t i in (sound-of found.0 found.1).restores k (ap (λ (x : Strategy). x.restore) (sym found.2) ∙ f);
  controls = λ w i. (switch-of w i).control;
  scopes = λ w i. (switch-of w i).scope;
}
  where
    all : AreSoundFacts s m
    all = from-sound s top commands nothing m (record { scope = top; sound = λ f i. absurd i }) e

    strategy-of : (t : Strategy) → IsIn t (resolved m).strategies → (x : StrategyFact) × IsIn x (strategies m) × (t ≡ settled m x.strategy)
    strategy-of t i = of-map (λ (x : StrategyFact). settled m x.strategy) t (strategies m) i

    sound-of : (x : StrategyFact) → IsIn x (strategies m) → IsSoundStrategy s x.strategy
    sound-of x i = let found = of-some strategy_fact x (facts m) i in subst (λ y. IsSound s y) (strategy-known found.0 x found.2) (all.sound found.0 found.1)

    switch-of : (w : PowerSwitch) → IsIn (MakesSwitch w) (network m) → IsSoundSwitch s w
    switch-of w i =
        let found = of-some network_fact (MakesSwitch w) (facts m) i in
        let is = switch-known found.0 w found.2 in
        subst (λ y. IsSound s y) is.1 (all.sound found.0 found.1)
