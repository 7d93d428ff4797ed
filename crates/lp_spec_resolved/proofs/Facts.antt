-- What a command makes, case by case.
use Rattle.std.proofs.Common.{◌≡◌, ℕ, Bool, true, false, List, [], ◌∷◌, ◌++◌, map, Option, Some, None, inl, inr, refl, sym, ap, ◌∙◌, subst}
use Rattle.std.specs.Prelude.{Result, Ok, length, flat_map, if◌then◌else◌}
use Rattle.lp_model.specs.CommandsView.{WordView, CommandView}
use Rattle.lp_model.specs.declared.intent.DeclaredState.{DeclaredState}
use Rattle.lp_model.specs.declared.intent.RowState.{RowState}
use Rattle.lp_model.specs.declared.intent.StrategyKind.{StrategyKind}
use Rattle.lp_model.specs.declared.intent.StrategyKind.TheVariants.{Isolation, Shifting, Retention}
use Rattle.lp_model.specs.declared.upf.CommandWord.{CommandWord}
use Rattle.lp_model.specs.declared.upf.CommandWord.TheVariants as commands
use Rattle.lp_model.specs.declared.upf.OptionWord.{OptionWord}
use Rattle.lp_model.specs.declared.upf.OptionWord.TheVariants as options
use Rattle.lp_spec_design.specs.Keys.{Name, Node}
use Rattle.lp_spec_design.specs.Netlists.{Structure}
use Rattle.lp_spec_design.specs.Graph.{some_of}
use Rattle.lp_spec_design.specs.Intents.{SetNumber, PortSupply}
use Rattle.lp_spec_design.specs.Winners.{IsIn}
use Rattle.lp_spec_design.proofs.Members.{in-either, of-map, of-flat, of-some, in-map}
use Rattle.lp_spec_origins.specs.Commands.{Scoped, Supply}
use Rattle.lp_spec_intent.specs.Made.{Handle, Primary, Own, PrimaryOf, Stated, set_count, Fact, IsDomain, IsHandle, IsSet, IsPort, IsNet, AreConnected, IsState, IsTable, IsRow, IsStrategy, IsDriver, IsReceiver, IsInterface, AreCells}
use Rattle.lp_spec_intent.specs.Made.{Known, Made, facts, domains}
use Rattle.lp_spec_intent.specs.Lookups.{words, all_values, has, word_at, own_words, own, control, domain, handle, set, net, stated, columns, HandleOf, port_name}
use Rattle.lp_spec_intent.specs.Faults.{NameFault, earliest, faults_at}
use Rattle.lp_spec_intent.specs.Effects.{text_of, handles_said, elements_made, handle_by, domain_facts, port_facts, net_facts, connection_facts, functions_made, set_facts, association_facts, primary_functions, primary_facts}
use Rattle.lp_spec_intent.specs.Effects.{state_by, state_facts, table_facts, row_of, row_facts, supply_at, attribute_facts, switch_by, nets_at, switch_facts}
use Rattle.lp_spec_intent.specs.Effects.{strategy_of, domains_said, strategy_facts, interface_facts, facts_by, facts_made, after}
use Rattle.lp_spec_intent.specs.Intent.{unless, made_from}

-- ---- lists whose members all have a property

abbrev pub All : {A : Type 0} → (A → Type 0) → List A → Type 0
All P xs = (x : _) → IsIn x xs → P x

module _ (P : Fact → Type 0) where
  none : All P []
  none f i = absurd i

  both : (fs gs : List Fact) → All P fs → All P gs → All P (fs ++ gs)
  both fs gs h g x i = elim (in-either x fs gs i) [ inl left ↦ h x left | inr right ↦ g x right ]

  one : (f : Fact) → P f → All P (f ∷ [])
  one f h x i = elim i [ inl is ↦ subst (λ y. P y) (sym is) h | inr rest ↦ absurd rest ]

  of-each : {A : Type 0} (g : A → Fact) (xs : List A) → ((x : A) → IsIn x xs → P (g x)) → All P (map g xs)
  of-each g xs h f i = let found = of-map g f xs i in subst (λ y. P y) (sym found.2) (h found.0 found.1)

  of-lists : {A : Type 0} (g : A → List Fact) (xs : List A) → ((x : A) → IsIn x xs → All P (g x)) → All P (flat_map g xs)
  of-lists g xs h f i = let found = of-flat g f xs i in h found.0 found.1 f found.2

-- the word of the command for a kind of strategy
abbrev pub word_for : StrategyKind → CommandWord
word_for Isolation = commands.SetIsolation
word_for Shifting = commands.SetLevelShifter
word_for Retention = commands.SetRetention

-- a property of all that a command may make
pub record Has (s : Structure) (m : Made) (c : CommandView) (P : Fact → Type 0) : Type 0 where
  pub new_domain : (w : WordView) → P (IsDomain (own m w) (elements_made s m c))
  pub named_handle : (d : ℕ) (h : Handle) (k : SetNumber) (w : WordView) → set s m w ≡ Some k → P (IsHandle d h k)
  pub new_port : (a : Scoped) (input : Bool) → c.word ≡ commands.CreateSupplyPort → P (IsPort a input)
  pub new_net : (w : WordView) → P (IsNet (own m w))
  pub connects : (a : Scoped) (ps : List Scoped) → P (AreConnected a ps)
  pub own_set : (w : WordView) → c.word ≡ commands.CreateSupplySet → P (IsSet (set_count m) (Own (own m w)) (functions_made s m c))
  pub primary_set : (d : ℕ) → c.word ≡ commands.SetDomainSupplyNet → P (IsSet (set_count m) (PrimaryOf d) (primary_functions s m c))
  pub primary : (d : ℕ) → c.word ≡ commands.SetDomainSupplyNet → IsIn d (some_of (domain s m) (own_words c)) → P (IsHandle d Primary (set_count m))
  pub state : (x : Stated) (n : Name) (y : DeclaredState) → P (IsState x n y)
  pub table : (a : Scoped) (xs : List Supply) → P (IsTable a xs)
  pub row : (n : Name) (xs : List RowState) → P (IsRow n xs)
  pub driver : (a : PortSupply) (w : WordView) → set s m w ≡ Some a.supply → P (IsDriver a)
  pub receiver : (a : PortSupply) (w : WordView) → set s m w ≡ Some a.supply → P (IsReceiver a)
  pub new_switch : (w u v x : WordView) (i o : Scoped) (k : Node) → net s m u ≡ Some i → net s m v ≡ Some o → control s m x ≡ Some k → P (switch_by s m c w i o k)
  pub strategy : (kind : StrategyKind) (w : WordView) (d : ℕ) → c.word ≡ word_for kind → P (IsStrategy w.text (strategy_of s m c kind d))
  pub interface : (w : WordView) → P (IsInterface (own m w))
  pub cells : (xs ys : List ℕ) (zs : List Name) → P (AreCells xs ys zs)

module _ (s : Structure) (m : Made) (c : CommandView) (P : Fact → Type 0) (h : Has s m c P) where
  handles : (ws : List WordView) → All P (handle_by s m c ws)
  handles ws =
      of-lists P (λ g. map (λ k. IsHandle (length (domains m)) g k) (some_of (set s m) (word_at ws 1))) (handles_said (text_of ws))
      (λ g i. of-each P (λ k. IsHandle (length (domains m)) g k) (some_of (set s m) (word_at ws 1))
      (λ k j. let found = of-some (set s m) k (word_at ws 1) j in h.named_handle (length (domains m)) g k found.0 found.2))

  in-domain : All P (domain_facts s m c)
  in-domain =
      both P (map (λ w. IsDomain (own m w) (elements_made s m c)) (own_words c)) (flat_map (handle_by s m c) (all_values c options.Supply))
      (of-each P (λ w. IsDomain (own m w) (elements_made s m c)) (own_words c) (λ w i. h.new_domain w))
      (of-lists P (handle_by s m c) (all_values c options.Supply) (λ ws i. handles ws))

  in-port : c.word ≡ commands.CreateSupplyPort → All P (port_facts s m c)
  in-port e f i = let found = of-map _ f (own_words c) i in subst (λ y. P y) (sym found.2) (h.new_port _ _ e)

  in-net : All P (net_facts s m c)
  in-net f i = by (has c options.Reuse) i
    where
      by : (t : Bool) → IsIn f (if t then [] else map (λ w. IsNet (own m w)) (own_words c)) → P f
      by true i = absurd i
      by false i = of-each P (λ w. IsNet (own m w)) (own_words c) (λ w j. h.new_net w) f i

  in-connection : All P (connection_facts s m c)
  in-connection f i = let found = of-map _ f (some_of (net s m) (own_words c)) i in subst (λ y. P y) (sym found.2) (h.connects _ _)

  in-set : c.word ≡ commands.CreateSupplySet → All P (set_facts s m c)
  in-set e = of-each P (λ w. IsSet (set_count m) (Own (own m w)) (functions_made s m c)) (own_words c) (λ w i. h.own_set w e)

  in-association : All P (association_facts s m c)
  in-association =
      of-lists P (λ k. map (λ (g : HandleOf). IsHandle g.domain g.handle k) (some_of (handle s m) (words c options.Handle))) (some_of (set s m) (own_words c))
      (λ k i. let found = of-some (set s m) k (own_words c) i in
      of-each P (λ (g : HandleOf). IsHandle g.domain g.handle k) (some_of (handle s m) (words c options.Handle))
      (λ g j. h.named_handle g.domain g.handle k found.0 found.2))

  in-primary : c.word ≡ commands.SetDomainSupplyNet → All P (primary_facts s m c)
  in-primary e =
      of-lists P (λ d. IsSet (set_count m) (PrimaryOf d) (primary_functions s m c) ∷ IsHandle d Primary (set_count m) ∷ []) (some_of (domain s m) (own_words c))
      (λ d i. both P (IsSet (set_count m) (PrimaryOf d) (primary_functions s m c) ∷ []) (IsHandle d Primary (set_count m) ∷ [])
      (one P (IsSet (set_count m) (PrimaryOf d) (primary_functions s m c)) (h.primary_set d e))
      (one P (IsHandle d Primary (set_count m)) (h.primary d e i)))

  in-state-by : (x : Stated) (ws : List WordView) → All P (state_by s m c x ws)
  in-state-by x [] = none P
  in-state-by x (w ∷ ws) = one P (IsState x w.text _) (h.state x w.text _)

  in-state : All P (state_facts s m c)
  in-state =
      of-lists P (λ x. flat_map (state_by s m c x) (all_values c options.State)) (some_of (stated s m) (own_words c))
      (λ x i. of-lists P (state_by s m c x) (all_values c options.State) (λ ws j. in-state-by x ws))

  in-table : All P (table_facts s m c)
  in-table f i = let found = of-map _ f (own_words c) i in subst (λ y. P y) (sym found.2) (h.table _ _)

  in-row : All P (row_facts s m c)
  in-row f i =
      let found = of-flat _ f (some_of (columns s m) (words c options.Pst)) i in
      let inner = of-map (row_of s m c found.0) f (own_words c) found.2 in
      subst (λ y. P y) (sym inner.2) (h.row _ _)

  supplied : (o : OptionWord) (a : PortSupply) → IsIn a (supply_at s m c o) → (w : WordView) × (set s m w ≡ Some a.supply)
  supplied o a i =
      let found = of-flat (λ k. map (λ n. record { port = n; supply = k }) (some_of (port_name s m) (words c options.Ports))) a (some_of (set s m) (words c o)) i in
      let inner = of-map (λ n. record { port = n; supply = found.0 }) a (some_of (port_name s m) (words c options.Ports)) found.2 in
      let named = of-some (set s m) found.0 (words c o) found.1 in
      (named.0, named.2 ∙ ap (λ (y : PortSupply). Some y.supply) (sym inner.2))

  in-attribute : All P (attribute_facts s m c)
  in-attribute =
      both P (map (λ a. IsDriver a) (supply_at s m c options.DriverSupply)) (map (λ a. IsReceiver a) (supply_at s m c options.ReceiverSupply))
      (of-each P (λ a. IsDriver a) (supply_at s m c options.DriverSupply) (λ a i. let k = supplied options.DriverSupply a i in h.driver a k.0 k.1))
      (of-each P (λ a. IsReceiver a) (supply_at s m c options.ReceiverSupply) (λ a i. let k = supplied options.ReceiverSupply a i in h.receiver a k.0 k.1))

  abbrev controls_said : List Node
  controls_said = some_of (control s m) (word_at (words c options.ControlPort) 1)

  abbrev nets_said : OptionWord → List WordView
  nets_said o = word_at (words c o) 1

  in-switch : All P (switch_facts s m c)
  in-switch =
      of-lists P (λ w. flat_map (λ i. flat_map (λ o. map (switch_by s m c w i o) controls_said) (nets_at s m c options.OutputSupplyPort)) (nets_at s m c options.InputSupplyPort)) (own_words c)
      (λ w a. of-lists P (λ i. flat_map (λ o. map (switch_by s m c w i o) controls_said) (nets_at s m c options.OutputSupplyPort)) (nets_at s m c options.InputSupplyPort)
      (λ i b. of-lists P (λ o. map (switch_by s m c w i o) controls_said) (nets_at s m c options.OutputSupplyPort)
      (λ o d. of-each P (switch_by s m c w i o) controls_said
      (λ k e.
      let u = of-some (net s m) i (nets_said options.InputSupplyPort) b in
      let v = of-some (net s m) o (nets_said options.OutputSupplyPort) d in
      let x = of-some (control s m) k (word_at (words c options.ControlPort) 1) e in
      h.new_switch w u.0 v.0 x.0 i o k u.2 v.2 x.2))))

  in-strategy : (kind : StrategyKind) → c.word ≡ word_for kind → All P (strategy_facts s m c kind)
  in-strategy kind e =
      of-lists P (λ w. map (λ d. IsStrategy w.text (strategy_of s m c kind d)) (domains_said s m c)) (own_words c)
      (λ w i. of-each P (λ d. IsStrategy w.text (strategy_of s m c kind d)) (domains_said s m c) (λ d j. h.strategy kind w d e))

  in-interface : All P (interface_facts s m c)
  in-interface f i = elim (in-either f (map (λ w. IsInterface (own m w)) (own_words c)) _ i) [
    | inl left ↦ of-each P (λ w. IsInterface (own m w)) (own_words c) (λ w j. h.interface w) f left
    | inr right ↦ elim right [ inl is ↦ subst (λ y. P y) (sym is) (h.cells _ _ _) | inr rest ↦ absurd rest ]
  ]

  in-command : (word : CommandWord) → c.word ≡ word → All P (facts_by s m c word)
  in-command commands.CreatePowerDomain e = in-domain
  in-command commands.CreateSupplyPort e = in-port e
  in-command commands.CreateSupplyNet e = in-net
  in-command commands.ConnectSupplyNet e = in-connection
  in-command commands.CreateSupplySet e = in-set e
  in-command commands.AssociateSupplySet e = in-association
  in-command commands.SetDomainSupplyNet e = in-primary e
  in-command commands.AddPortState e = in-state
  in-command commands.CreatePst e = in-table
  in-command commands.AddPstState e = in-row
  in-command commands.SetPortAttributes e = in-attribute
  in-command commands.CreatePowerSwitch e = in-switch
  in-command commands.SetIsolation e = in-strategy Isolation e
  in-command commands.SetLevelShifter e = in-strategy Shifting e
  in-command commands.SetRetention e = in-strategy Retention e
  in-command commands.UseInterfaceCell e = in-interface
  in-command commands.MapRetentionCell e = one P (AreCells _ _ _) (h.cells _ _ _)
  in-command commands.MapPowerSwitch e = one P (AreCells _ _ _) (h.cells _ _ _)
  in-command commands.UpfVersion e = none P
  in-command commands.SetDesignTop e = none P
  in-command commands.SetScope e = none P

  -- all that a command makes has it
  pub made-have : All P (facts_made s m c)
  made-have = in-command c.word refl

-- ---- commands one after the other

abbrev pub as_made : Made → Result Made NameFault
as_made m = Ok m

ok-same : (m n : Made) → as_made m ≡ Ok n → m ≡ n
ok-same m n e = cc

-- what holds of nothing and goes on over each command without fault holds of all that is made
module _ (s : Structure) (I : Made → Type 0) (allowed : CommandView → Type 0)
    (on : (m : Made) (c : CommandView) → allowed c → I m → earliest (faults_at s m c) ≡ None → I (after s m c)) where
  pub goes-on : (all : List CommandView) (m end : Made) → ((c : CommandView) → IsIn c all → allowed c) → I m → made_from s m all ≡ Ok end → I end
  goes-on [] m end a h e = subst (λ x. I x) (ok-same m end e) h
  goes-on (c ∷ all) m end a h e = by (earliest (faults_at s m c)) refl e (λ g f. goes-on all (after s m c) end (λ d i. a d (inr i)) g f)
    where
      by : (o : Option NameFault) → earliest (faults_at s m c) ≡ o → unless o (made_from s (after s m c) all) ≡ Ok end → (I (after s m c) → made_from s (after s m c) all ≡ Ok end → I end) → I end
      by None n f more = more (on m c (a c (inl refl)) h n) f
      by (Some g) n f more = absurd cc

-- a fact of what a command leaves is an earlier one or one that it makes
pub known-or-made : (s : Structure) (m : Made) (c : CommandView) (P : Fact → Type 0) → All P (facts m) → All P (facts_made s m c) → All P (facts (after s m c))
known-or-made s m c P old new f i = by (of-map (λ (k : Known). k.fact) f (after s m c).known i)
  where
    known_of : Fact → Known
    known_of g = record { command = m.count; fact = g }

    by : (k : Known) × IsIn k (m.known ++ map (λ g. record { command = m.count; fact = g }) (facts_made s m c)) × (f ≡ k.fact) → P f
    by found = elim (in-either found.0 m.known (map known_of (facts_made s m c)) found.1) [
      | inl at ↦ old f (subst (λ y. IsIn y (facts m)) (sym found.2) (in-map (λ (k : Known). k.fact) found.0 m.known at))
      | inr at ↦
          let made = of-map known_of found.0 (facts_made s m c) at in
          new f (subst (λ y. IsIn y (facts_made s m c)) (sym (found.2 ∙ ap (λ (k : Known). k.fact) made.2)) made.1)
    ]
