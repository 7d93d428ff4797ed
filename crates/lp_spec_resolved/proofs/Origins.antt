-- Each used set has its origins, where F37 and F38 hold nowhere.
use Rattle.std.proofs.Common.{◌≡◌, ◌⊎◌, ◌<◌, ℕ, zero, suc, ◌+◌, ◌==◌, Bool, true, false, ◌&&◌, ◌||◌, List, [], ◌∷◌, map, length, Option, Some, None, inl, inr, refl, sym, ap, ◌∙◌, subst, arith}
use Rattle.std.specs.Prelude.{if◌then◌else◌, is_some, is_none, option_and_then, nat_lt, slice_get}
use Rattle.std.specs.List.{list_any}
use Rattle.std.proofs.lemmas.Bool.{false≢true, true≢false, or_parts, lt-ltb, eqb-true}
use Rattle.lp_model.specs.declared.intent.ScopedName.{ScopedName}
use Rattle.lp_model.specs.declared.intent.StrategyKind.{StrategyKind}
use Rattle.lp_model.specs.declared.intent.StrategyKind.TheVariants.{Isolation, Shifting, Retention}
use Rattle.lp_spec_design.specs.Keys.{same_path}
use Rattle.lp_spec_design.specs.Netlists.{Structure, first, upward}
use Rattle.lp_spec_design.specs.Graph.{some_of, and_more, numbered}
use Rattle.lp_spec_design.specs.Intents.{SetNumber, Strategy, PortSupply, Named, BySet, ByDomain}
use Rattle.lp_spec_design.specs.Reads.{name-self, path-self}
use Rattle.lp_spec_design.specs.Winners.{IsIn}
use Rattle.lp_spec_design.proofs.Members.{of-map, of-some, of-any, any-in}
use Rattle.lp_spec_origins.specs.Commands.{Scoped, same_scoped, NetAt, same_supply, MakesNet, MakesSet}
use Rattle.lp_spec_origins.specs.Origins.{origins_of, the_only, origin_of}
use Rattle.lp_spec_origins.specs.Sets.{SupplySet, net_origin, all_six, set_origins}
use Rattle.lp_spec_origins.specs.Sets as sets_of_origins
use Rattle.lp_spec_origins.specs.Used.{is_set, is_named, handle_names, strategy_names, attribute_names, is_used_set, sets_of, is_net, is_function, is_used_net, is_used}
use Rattle.lp_spec_realises.specs.Projects.{functions_of}
use Rattle.lp_spec_faults.specs.Lines.{first_of}
use Rattle.lp_spec_faults.specs.Supplies.{made_by, SetMade, SupplyMade, lacks_function, origin_count, is_undriven, undriven, net_made, two_sources}
use Rattle.lp_spec_intent.specs.Names.{or_that}
use Rattle.lp_spec_intent.specs.Made.{Handle, Primary, DefaultIsolation, DefaultRetention, Fact, IsSet, IsNet, IsStrategy, IsDriver, IsReceiver, Made, facts, DomainFact, domains, handle_of, SetFact, set_fact, sets, set_count, net_fact, nets, StrategyFact, strategy_fact, strategies, driver_fact, drivers, receiver_fact, receivers, network_fact, network, supply_count}
use Rattle.lp_spec_intent.specs.Intent.{domain_by, default_of, settled, resolved, set_list, asked, listed_supplies}
use Rattle.lp_spec_intent.proofs.Places.{some-same}
use Rattle.lp_spec_resolved.specs.Supplies.{project_made}
use Rattle.lp_spec_resolved.proofs.Kept.{Keeps, IsBelow, IsNamedBelow, AreBelow, AreNets, IsAmong, IsKept, handle-small, set-of-fact}

-- ---- lists

none-holds : {A : Type 0} (p : A → Bool) (xs : List A) → first p xs ≡ None → (x : A) → IsIn x xs → p x ≡ false
none-holds p [] e x i = absurd i
none-holds p (y ∷ xs) e x i = by (p y) refl e (none-holds p xs)
  where
    by : (b : Bool) → p y ≡ b → (if b then Some y else first p xs) ≡ None → (first p xs ≡ None → (z : _) → IsIn z xs → p z ≡ false) → p x ≡ false
    by true f g more = absurd cc
    by false f g more = elim i [ inl is ↦ ap p is ∙ f | inr rest ↦ more g x rest ]

either : (a b : Bool) → (a || b) ≡ true → (a ≡ true) ⊎ (b ≡ true)
either true b e = inl refl
either false b e = inr e

left-true : (a b : Bool) → a ≡ true → (a || b) ≡ true
left-true true b e = refl
left-true false b e = absurd (false≢true e)

right-true : (a b : Bool) → b ≡ true → (a || b) ≡ true
right-true true b e = refl
right-true false b e = e

pub slice-numbered : {A B : Type 0} (f : ℕ × A → B) (j k : ℕ) (xs : List A) (x : A) → slice_get xs k ≡ Some x → slice_get (map f (numbered j xs)) k ≡ Some (f (k + j, x))
slice-numbered f j k [] x e = absurd cc
slice-numbered f j zero (y ∷ xs) x e =
    let same : j ≡ 0 + j = omega arith in
    ap (λ z. Some (f (j, z))) (some-same y x e) ∙ ap (λ n. Some (f (n, x))) same
slice-numbered f j (suc k) (y ∷ xs) x e =
    let same : k + (j + 1) ≡ suc k + j = omega arith in
    slice-numbered f (j + 1) k xs x e ∙ ap (λ n. Some (f (n, x))) same

in-numbered : {A : Type 0} (j k : ℕ) (xs : List A) (x : A) → slice_get xs k ≡ Some x → IsIn (k + j, x) (numbered j xs)
in-numbered j k [] x e = absurd cc
in-numbered j zero (y ∷ xs) x e =
    let same : 0 + j ≡ j = omega arith in
    inl (ap (λ n. (n, x)) same ∙ ap (λ z. (j, z)) (sym (some-same y x e)))
in-numbered j (suc k) (y ∷ xs) x e =
    let same : k + (j + 1) ≡ suc k + j = omega arith in
    inr (subst (λ n. IsIn (n, x) (numbered (j + 1) xs)) same (in-numbered (j + 1) k xs x e))

slice-there : {A : Type 0} (xs : List A) (k : ℕ) → k < length xs → (x : A) × (slice_get xs k ≡ Some x)
slice-there [] k h = absurd (omega (arith, h))
slice-there (x ∷ xs) zero h = (x, refl)
slice-there (x ∷ xs) (suc k) h = slice-there xs k (omega (arith, h))

pub slice-in : {A : Type 0} (xs : List A) (k : ℕ) (x : A) → slice_get xs k ≡ Some x → IsIn x xs
slice-in [] k x e = absurd cc
slice-in (y ∷ xs) zero x e = inl (sym (some-same y x e))
slice-in (y ∷ xs) (suc k) x e = inr (slice-in xs k x e)

pub slice-map : {A B : Type 0} (f : A → B) (xs : List A) (k : ℕ) (x : A) → slice_get xs k ≡ Some x → slice_get (map f xs) k ≡ Some (f x)
slice-map f [] k x e = absurd cc
slice-map f (y ∷ xs) zero x e = ap (λ z. Some (f z)) (some-same y x e)
slice-map f (y ∷ xs) (suc k) x e = slice-map f xs k x e

slice-upward : (n j k : ℕ) → k < n → slice_get (upward n j) k ≡ Some (k + j)
slice-upward zero j k h = absurd (omega (arith, h))
slice-upward (suc n) j zero h = let same : j ≡ 0 + j = omega arith in ap (λ i. Some i) same
slice-upward (suc n) j (suc k) h =
    let same : k + (j + 1) ≡ suc k + j = omega arith in
    slice-upward n (j + 1) k (omega (arith, h)) ∙ ap (λ i. Some i) same

-- ---- one origin

one-only : (os : List ℕ) → (length os == 0) ≡ false → nat_lt 1 (length os) ≡ false → is_some (the_only os) ≡ true
one-only [] e f = absurd (true≢false e)
one-only (o ∷ []) e f = refl
one-only (o ∷ p ∷ os) e f =
    let more : 1 < length (o ∷ p ∷ os) = omega arith in
    absurd (true≢false (sym (lt-ltb 1 (length (o ∷ p ∷ os)) more) ∙ f))

some-six : (a b c d e f : Option ℕ) → is_some a ≡ true → is_some b ≡ true → is_some c ≡ true → is_some d ≡ true → is_some e ≡ true → is_some f ≡ true → is_some (all_six a b c d e f) ≡ true
some-six (Some a) (Some b) (Some c) (Some d) (Some e) (Some f) g h i j k l = refl
some-six _ _ _ _ _ _ g h i j k l = cc

none-some : {A : Type 0} {x : A} → None ≡ Some x → ⊥
none-some e = cc

pub in-some : {A B : Type 0} (f : A → Option B) (a : A) (b : B) (xs : List A) → IsIn a xs → f a ≡ Some b → IsIn b (some_of f xs)
in-some f a b [] i e = absurd i
in-some f a b (x ∷ xs) i e = by (f x) refl (in-some f a b xs)
  where
    by : (o : Option _) → f x ≡ o → (IsIn a xs → f a ≡ Some b → IsIn b (some_of f xs)) → IsIn b (and_more o (some_of f xs))
    by None g more = elim i [ inl is ↦ absurd (none-some (sym g ∙ (ap f (sym is) ∙ e))) | inr rest ↦ more rest e ]
    by (Some y) g more = elim i [ inl is ↦ inl (some-same b y (sym e ∙ (ap f is ∙ g))) | inr rest ↦ inr (more rest e) ]

pub scoped-self : (a : Scoped) → same_scoped a a ≡ true
scoped-self a = ap (λ b. b && same_path a.scope a.scope) (name-self a.name) ∙ path-self a.scope

-- ---- used sets have been made

is-below : (n : ℕ) (o : Option SetNumber) (k : SetNumber) → IsBelow n o → is_set k o ≡ true → k < n
is-below n None k h e = absurd (false≢true e)
is-below n (Some j) k h e = let same = eqb-true j k e in let less = h j refl in omega (arith, same, less)

named-below : (n : ℕ) (o : Option Named) (k : SetNumber) → IsNamedBelow n o → is_named k o ≡ true → k < n
named-below n None k h e = absurd (false≢true e)
named-below n (Some (ByDomain d)) k h e = absurd (false≢true e)
named-below n (Some (BySet j)) k h e = let same = eqb-true j k e in let less = h j refl in omega (arith, same, less)

module _ (m : Made) (kept : IsKept m) where
  handle-below : (d : ℕ) (h : Handle) → IsBelow (set_count m) (handle_of m d h)
  handle-below d h k e = handle-small m kept d h k e

  or-below : (a b : Option SetNumber) → IsBelow (set_count m) a → IsBelow (set_count m) b → IsBelow (set_count m) (or_that a b)
  or-below None b h g = g
  or-below (Some k) b h g = h

  default-below : (d : ℕ) (kind : StrategyKind) → IsBelow (set_count m) (default_of m d kind)
  default-below d Isolation k e = handle-below d DefaultIsolation k e
  default-below d Shifting k e = absurd cc
  default-below d Retention k e = handle-below d DefaultRetention k e

  by-domain : (k : SetNumber) (x : ℕ × DomainFact) → handle_names k (domain_by m x) ≡ true → k < set_count m
  by-domain k x e = elim (either (is_set k (handle_of m x.0 Primary)) (is_set k (handle_of m x.0 DefaultIsolation) || is_set k (handle_of m x.0 DefaultRetention)) e) [
    | inl a ↦ is-below (set_count m) (handle_of m x.0 Primary) k (handle-below x.0 Primary) a
    | inr more ↦ elim (either (is_set k (handle_of m x.0 DefaultIsolation)) (is_set k (handle_of m x.0 DefaultRetention)) more) [
      | inl a ↦ is-below (set_count m) (handle_of m x.0 DefaultIsolation) k (handle-below x.0 DefaultIsolation) a
      | inr a ↦ is-below (set_count m) (handle_of m x.0 DefaultRetention) k (handle-below x.0 DefaultRetention) a
    ]
  ]

  by-strategy : (k : SetNumber) (t : Strategy) → AreBelow (set_count m) t → strategy_names k (settled m t) ≡ true → k < set_count m
  by-strategy k t h e =
      let supply = or_that t.supply (default_of m t.domain t.kind) in
      elim (either (is_set k supply) (is_set k t.input || (is_set k t.output || (is_named k t.source || is_named k t.sink))) e) [
        | inl a ↦ is-below (set_count m) supply k (or-below t.supply (default_of m t.domain t.kind) h.supply (default-below t.domain t.kind)) a
        | inr e1 ↦ elim (either (is_set k t.input) (is_set k t.output || (is_named k t.source || is_named k t.sink)) e1) [
          | inl a ↦ is-below (set_count m) t.input k h.input a
          | inr e2 ↦ elim (either (is_set k t.output) (is_named k t.source || is_named k t.sink) e2) [
            | inl a ↦ is-below (set_count m) t.output k h.output a
            | inr e3 ↦ elim (either (is_named k t.source) (is_named k t.sink) e3) [
              | inl a ↦ named-below (set_count m) t.source k h.source a
              | inr a ↦ named-below (set_count m) t.sink k h.sink a
            ]
          ]
        ]
      ]

  strategy-known : (f : Fact) (x : StrategyFact) → strategy_fact f ≡ Some x → f ≡ IsStrategy x.name x.strategy
  strategy-known (IsStrategy name t) x e = ap (λ (y : StrategyFact). IsStrategy y.name y.strategy) (some-same _ x e)
  strategy-known f x e = absurd cc

  driver-known : (f : Fact) (a : PortSupply) → driver_fact f ≡ Some a → f ≡ IsDriver a
  driver-known (IsDriver b) a e = ap (λ y. IsDriver y) (some-same b a e)
  driver-known f a e = absurd cc

  receiver-known : (f : Fact) (a : PortSupply) → receiver_fact f ≡ Some a → f ≡ IsReceiver a
  receiver-known (IsReceiver b) a e = ap (λ y. IsReceiver y) (some-same b a e)
  receiver-known f a e = absurd cc

  at-domains : (k : SetNumber) → list_any (handle_names k) (resolved m).domains ≡ true → k < set_count m
  at-domains k e =
      let found = of-any (handle_names k) (resolved m).domains e in
      let made = of-map (domain_by m) found.0 (numbered 0 (domains m)) found.1 in
      by-domain k made.0 (ap (handle_names k) (sym made.2) ∙ found.2)

  at-strategies : (k : SetNumber) → list_any (strategy_names k) (resolved m).strategies ≡ true → k < set_count m
  at-strategies k e =
      let found = of-any (strategy_names k) (resolved m).strategies e in
      let made = of-map (λ (x : StrategyFact). settled m x.strategy) found.0 (strategies m) found.1 in
      let fact = of-some strategy_fact made.0 (facts m) made.1 in
      by-strategy k made.0.strategy (subst (λ f. Keeps (set_count m) (nets m) f) (strategy-known fact.0 made.0 fact.2) (kept.keeps fact.0 fact.1))
      (ap (strategy_names k) (sym made.2) ∙ found.2)

  at-drivers : (k : SetNumber) → list_any (attribute_names k) (resolved m).drivers ≡ true → k < set_count m
  at-drivers k e =
      let found = of-any (attribute_names k) (drivers m) e in
      let fact = of-some driver_fact found.0 (facts m) found.1 in
      let less = subst (λ f. Keeps (set_count m) (nets m) f) (driver-known fact.0 found.0 fact.2) (kept.keeps fact.0 fact.1) in
      let same = eqb-true found.0.supply k found.2 in
      omega (arith, same, less)

  at-receivers : (k : SetNumber) → list_any (attribute_names k) (resolved m).receivers ≡ true → k < set_count m
  at-receivers k e =
      let found = of-any (attribute_names k) (receivers m) e in
      let fact = of-some receiver_fact found.0 (facts m) found.1 in
      let less = subst (λ f. Keeps (set_count m) (nets m) f) (receiver-known fact.0 found.0 fact.2) (kept.keeps fact.0 fact.1) in
      let same = eqb-true found.0.supply k found.2 in
      omega (arith, same, less)

  pub used-small : (k : SetNumber) → is_used_set (resolved m) k ≡ true → k < set_count m
  used-small k e =
      let ds = list_any (handle_names k) (resolved m).domains in
      let ts = list_any (strategy_names k) (resolved m).strategies in
      let as_ = list_any (attribute_names k) (resolved m).drivers in
      let rs = list_any (attribute_names k) (resolved m).receivers in
      elim (either ds (ts || (as_ || rs)) e) [
        | inl a ↦ at-domains k a
        | inr e1 ↦ elim (either ts (as_ || rs) e1) [
          | inl a ↦ at-strategies k a
          | inr e2 ↦ elim (either as_ rs e2) [ inl a ↦ at-drivers k a | inr a ↦ at-receivers k a ]
        ]
      ]

-- ---- functions of a set

net-self : (n : Scoped) (o : Option Scoped) → o ≡ Some n → is_net n o ≡ true
net-self n o e = ap (is_net n) e ∙ scoped-self n

module _ (n : Scoped) (x : SupplySet) where
  abbrev last_two : Bool
  last_two = is_net n x.deepnwell || is_net n x.deeppwell

  abbrev last_three : Bool
  last_three = is_net n x.pwell || last_two

  abbrev last_four : Bool
  last_four = is_net n x.nwell || last_three

  abbrev last_five : Bool
  last_five = is_net n x.gnd || last_four

  as-power : x.power ≡ Some n → is_function n x ≡ true
  as-power e = left-true (is_net n x.power) last_five (net-self n x.power e)

  as-gnd : x.gnd ≡ Some n → is_function n x ≡ true
  as-gnd e = right-true (is_net n x.power) last_five (left-true (is_net n x.gnd) last_four (net-self n x.gnd e))

  as-nwell : x.nwell ≡ Some n → is_function n x ≡ true
  as-nwell e = right-true (is_net n x.power) last_five (right-true (is_net n x.gnd) last_four (left-true (is_net n x.nwell) last_three (net-self n x.nwell e)))

  as-pwell : x.pwell ≡ Some n → is_function n x ≡ true
  as-pwell e =
      right-true (is_net n x.power) last_five (right-true (is_net n x.gnd) last_four (right-true (is_net n x.nwell) last_three
      (left-true (is_net n x.pwell) last_two (net-self n x.pwell e))))

  as-deepnwell : x.deepnwell ≡ Some n → is_function n x ≡ true
  as-deepnwell e =
      right-true (is_net n x.power) last_five (right-true (is_net n x.gnd) last_four (right-true (is_net n x.nwell) last_three
      (right-true (is_net n x.pwell) last_two (left-true (is_net n x.deepnwell) (is_net n x.deeppwell) (net-self n x.deepnwell e)))))

  as-deeppwell : x.deeppwell ≡ Some n → is_function n x ≡ true
  as-deeppwell e =
      right-true (is_net n x.power) last_five (right-true (is_net n x.gnd) last_four (right-true (is_net n x.nwell) last_three
      (right-true (is_net n x.pwell) last_two (right-true (is_net n x.deepnwell) (is_net n x.deeppwell) (net-self n x.deeppwell e)))))

-- ---- origins

net-known : (f : Fact) (n : Scoped) → net_fact f ≡ Some n → f ≡ IsNet n
net-known (IsNet a) n e = ap (λ y. IsNet y) (some-same a n e)
net-known f n e = absurd cc

and-false : (a b : Bool) → (a && b) ≡ false → a ≡ true → b ≡ false
and-false true b e f = e
and-false false b e f = absurd (false≢true f)

is-there : {A : Type 0} (o : Option A) → is_none o ≡ false → (x : A) × (o ≡ Some x)
is-there None e = absurd (true≢false e)
is-there (Some x) e = (x, refl)

module _ (m : Made) (kept : IsKept m) (driven : first_of (undriven (asked m)) ≡ None) (single : first_of (two_sources (asked m)) ≡ None) where
  net-made : (n : Scoped) → IsIn n (nets m) → IsIn (MakesNet n) (network m)
  net-made n i =
      let fact = of-some net_fact n (facts m) i in
      in-some network_fact (IsNet n) (MakesNet n) (facts m) (subst (λ f. IsIn f (facts m)) (net-known fact.0 n fact.2) fact.1) refl

  set-made : (x : SetFact) → IsIn x (sets m) → IsIn (MakesSet x.number) (network m)
  set-made x i =
      let fact = of-some set_fact x (facts m) i in
      in-some network_fact (IsSet x.number x.name x.functions) (MakesSet x.number) (facts m) (subst (λ f. IsIn f (facts m)) (set-of-fact fact.0 x fact.2) fact.1) refl

  -- a net that is used has one origin
  net-origin-there : (n : Scoped) → IsIn n (nets m) → is_used_net (network m) (resolved m) (set_list m) n ≡ true → is_some (origin_of (network m) (supply_count m) (NetAt n)) ≡ true
  net-origin-there n i used =
      let made = net-made n i in
      let place : IsIn (SupplyMade (NetAt n)) (some_of made_by (network m)) = in-some made_by (MakesNet n) (SupplyMade (NetAt n)) (network m) made refl in
      let some = none-holds (is_undriven (asked m)) (some_of made_by (network m)) driven (SupplyMade (NetAt n)) place in
      let is : is_used (network m) (resolved m) (set_list m) (listed_supplies m) (NetAt n) ≡ true =
      left-true (is_used_net (network m) (resolved m) (set_list m) n) (list_any (same_supply (NetAt n)) (listed_supplies m)) used in
      let not_none = and-false (is_used (network m) (resolved m) (set_list m) (listed_supplies m) (NetAt n)) (origin_count (asked m) (NetAt n) == 0) some is in
      let at : IsIn n (some_of net_made (network m)) = in-some net_made (MakesNet n) n (network m) made refl in
      let not_two = none-holds (λ a. nat_lt 1 (origin_count (asked m) (NetAt a))) (some_of net_made (network m)) single n at in
      one-only (origins_of (network m) (supply_count m) (NetAt n)) not_none not_two

  module _ (k : SetNumber) (used : is_used_set (resolved m) k ≡ true) where
    found : (x : SetFact) × (slice_get (sets m) k ≡ Some x)
    found = slice-there (sets m) k (used-small m kept k used)

    module _ (x : SetFact) (at : slice_get (sets m) k ≡ Some x) where
      number-is : x.number ≡ k
      number-is =
          let less = used-small m kept k used in
          let place : Some x.number ≡ Some (k + 0) = sym (slice-map (λ (y : SetFact). y.number) (sets m) k x at) ∙ (ap (λ ks. slice_get ks k) kept.numbered ∙ slice-upward (set_count m) 0 k less) in
          let same : k + 0 ≡ k = omega arith in
          some-same x.number (k + 0) place ∙ same

      functions-at : slice_get (set_list m) k ≡ Some x.functions
      functions-at = slice-map (λ (y : SetFact). y.functions) (sets m) k x at

      has-both : (is_none x.functions.power ≡ false) × (is_none x.functions.gnd ≡ false)
      has-both =
          let made = subst (λ j. IsIn (MakesSet j) (network m)) number-is (set-made x (slice-in (sets m) k x at)) in
          let place = in-some made_by (MakesSet k) (SetMade k) (network m) made refl in
          let some = none-holds (is_undriven (asked m)) (some_of made_by (network m)) driven (SetMade k) place in
          let lacks = and-false (is_used_set (resolved m) k) (lacks_function (slice_get (set_list m) k)) some used in
          or_parts (is_none x.functions.power) (is_none x.functions.gnd) (ap lacks_function (sym functions-at) ∙ lacks)

      nets-there : AreNets (nets m) x.functions
      nets-there =
          let fact = of-some set_fact x (facts m) (slice-in (sets m) k x at) in
          subst (λ f. Keeps (set_count m) (nets m) f) (set-of-fact fact.0 x fact.2) (kept.keeps fact.0 fact.1)

      function-used : (n : Scoped) → is_function n x.functions ≡ true → is_used_net (network m) (resolved m) (set_list m) n ≡ true
      function-used n e =
          let same : k + 0 ≡ k = omega arith in
          let test : (is_used_set (resolved m) (k + 0) && is_function n x.functions) ≡ true =
          ap (λ b. b && is_function n x.functions) (ap (λ j. is_used_set (resolved m) j) same ∙ used) ∙ e in
          left-true (list_any (λ y. is_used_set (resolved m) y.0 && is_function n y.1) (numbered 0 (set_list m))) _
          (any-in (λ y. is_used_set (resolved m) y.0 && is_function n y.1) (k + 0, x.functions) (numbered 0 (set_list m)) (in-numbered 0 k (set_list m) x.functions functions-at) test)

      function-origin : (o : Option Scoped) → is_none o ≡ false → IsAmong (nets m) o → ((n : Scoped) → o ≡ Some n → is_function n x.functions ≡ true) → is_some (net_origin (network m) (supply_count m) o) ≡ true
      function-origin o e i h =
          let n = is-there o e in
          ap (λ q. is_some (net_origin (network m) (supply_count m) q)) n.1 ∙ net-origin-there n.0 (i n.0 n.1) (function-used n.0 (h n.0 n.1))

      -- a well that is not given has the origin of the power or the ground
      well-origin : (o other : Option Scoped) → IsAmong (nets m) o → ((n : Scoped) → o ≡ Some n → is_function n x.functions ≡ true)
          → is_some (net_origin (network m) (supply_count m) other) ≡ true → is_some (net_origin (network m) (supply_count m) (sets_of_origins.or_that o other)) ≡ true
      well-origin None other i h e = e
      well-origin (Some n) other i h e = function-origin (Some n) refl i h

      set-origins-there : is_some (set_origins (network m) (supply_count m) x.functions) ≡ true
      set-origins-there =
          let f = x.functions in
          let i = nets-there in
          let power = function-origin f.power has-both.0 i.power (λ n e. as-power n f e) in
          let gnd = function-origin f.gnd has-both.1 i.gnd (λ n e. as-gnd n f e) in
          some-six _ _ _ _ _ _ power gnd
          (well-origin f.nwell f.power i.nwell (λ n e. as-nwell n f e) power)
          (well-origin f.pwell f.gnd i.pwell (λ n e. as-pwell n f e) gnd)
          (well-origin f.deepnwell f.power i.deepnwell (λ n e. as-deepnwell n f e) power)
          (well-origin f.deeppwell f.gnd i.deeppwell (λ n e. as-deeppwell n f e) gnd)

    -- the origins of a used set, by its number
    pub origins-there : is_some (option_and_then (λ x. x) (slice_get (sets_of (network m) (supply_count m) (resolved m) (set_list m)) k)) ≡ true
    origins-there =
        let x = found in
        let same : k + 0 ≡ k = omega arith in
        let of_each = λ (y : ℕ × SupplySet). if is_used_set (resolved m) y.0 then set_origins (network m) (supply_count m) y.1 else None in
        let at = slice-numbered of_each 0 k (set_list m) x.0.functions (functions-at x.0 x.1) in
        let is : of_each (k + 0, x.0.functions) ≡ set_origins (network m) (supply_count m) x.0.functions =
        ap (λ b. if b then set_origins (network m) (supply_count m) x.0.functions else None) (ap (λ j. is_used_set (resolved m) j) same ∙ used) in
        ap (λ o. is_some (option_and_then (λ y. y) o)) at ∙ (ap is_some is ∙ set-origins-there x.0 x.1)

pub sets-have-origins : (s : Structure) (name : Scoped → ScopedName) (m : Made) (margin : ℕ) → IsKept m → first_of (undriven (asked m)) ≡ None → first_of (two_sources (asked m)) ≡ None
    → (k : SetNumber) → is_used_set (resolved m) k ≡ true → is_some (functions_of (project_made s name m margin) (Some k)) ≡ true
sets-have-origins s name m margin kept driven single k used = origins-there m kept driven single k used
