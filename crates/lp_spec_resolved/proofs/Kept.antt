-- What each command keeps: sets are numbered in their order, each set number that is named is a set's, and the functions of sets are nets.
use Rattle.std.proofs.Common.{◌≡◌, ◌⊎◌, ◌≤◌, ◌<◌, ℕ, zero, suc, ◌+◌, ◌==◌, Bool, true, false, ◌&&◌, List, [], ◌∷◌, ◌++◌, map, length, Option, Some, None, inl, inr, refl, sym, ap, ◌∙◌, subst, arith}
use Rattle.std.specs.Prelude.{if◌then◌else◌, option_and_then, bytes_eq, flat_map, Ok}
use Rattle.std.specs.Option.{option_map}
use Rattle.std.specs.List.{list_any}
use Rattle.std.proofs.lemmas.Bool.{and_parts}
use Rattle.lp_text.specs.declared.place.Place.{Place}
use Rattle.lp_model.specs.CommandsView.{WordView, OptionView, CommandView}
use Rattle.lp_model.specs.declared.intent.StrategyKind.{StrategyKind}
use Rattle.lp_model.specs.declared.upf.CommandWord.{CommandWord}
use Rattle.lp_model.specs.declared.upf.CommandWord.TheVariants as commands
use Rattle.lp_model.specs.declared.upf.OptionWord.TheVariants as options
use Rattle.lp_spec_design.specs.Keys.{same_path}
use Rattle.lp_spec_design.specs.Netlists.{Structure, first, upward}
use Rattle.lp_spec_design.specs.Graph.{some_of, and_more, when}
use Rattle.lp_spec_design.specs.Intents.{SetNumber, Strategy, Named, BySet, ByDomain}
use Rattle.lp_spec_design.specs.Reads.{name-true, path-true}
use Rattle.lp_spec_design.specs.Winners.{IsIn}
use Rattle.lp_spec_design.proofs.Members.{in-left, of-some, of-any, of-when, in-map}
use Rattle.lp_spec_design.proofs.Sources.{first_in}
use Rattle.lp_spec_origins.specs.Commands.{Scoped, same_scoped}
use Rattle.lp_spec_origins.specs.Sets.{SupplySet}
use Rattle.lp_spec_intent.specs.Names.{or_that}
use Rattle.lp_spec_intent.specs.Made.{Handle, same_handle, Primary, Own, PrimaryOf, Fact, IsHandle, IsSet, IsStrategy, IsDriver, IsReceiver, Known, Made, nothing, facts, handle_fact, handle_of, first_of, SetFact, set_fact, sets, set_count, net_fact, nets}
use Rattle.lp_spec_intent.specs.Lookups.{words, own_words, own, HandleOf, is_own_name, scoped, handle_named, set, set_or_domain, net, domain}
use Rattle.lp_spec_intent.specs.Effects.{one, functions_made, primary_functions, set_by, or_else, strategy_of, facts_by, facts_made, after}
use Rattle.lp_spec_intent.specs.Intent.{made_by}
use Rattle.lp_spec_intent.proofs.Places.{some-same}
use Rattle.lp_spec_resolved.proofs.Facts.{All, Has, made-have, known-or-made, goes-on}

-- ---- what is kept of a fact, for a number of sets and some nets

abbrev pub IsBelow : ℕ → Option SetNumber → Type 0
IsBelow n k = (j : SetNumber) → k ≡ Some j → j < n

abbrev pub IsNamedBelow : ℕ → Option Named → Type 0
IsNamedBelow n k = (j : SetNumber) → k ≡ Some (BySet j) → j < n

abbrev pub IsAmong : List Scoped → Option Scoped → Type 0
IsAmong ns a = (b : Scoped) → a ≡ Some b → IsIn b ns

pub record AreBelow (n : ℕ) (t : Strategy) : Type 0 where
  pub supply : IsBelow n t.supply
  pub input : IsBelow n t.input
  pub output : IsBelow n t.output
  pub source : IsNamedBelow n t.source
  pub sink : IsNamedBelow n t.sink

pub record AreNets (ns : List Scoped) (x : SupplySet) : Type 0 where
  pub power : IsAmong ns x.power
  pub gnd : IsAmong ns x.gnd
  pub nwell : IsAmong ns x.nwell
  pub pwell : IsAmong ns x.pwell
  pub deepnwell : IsAmong ns x.deepnwell
  pub deeppwell : IsAmong ns x.deeppwell

abbrev pub Keeps : ℕ → List Scoped → Fact → Type 0
Keeps n ns (IsHandle d h k) = k < n
Keeps n ns (IsSet k name x) = AreNets ns x
Keeps n ns (IsStrategy name t) = AreBelow n t
Keeps n ns (IsDriver a) = a.supply < n
Keeps n ns (IsReceiver a) = a.supply < n
Keeps n ns f = Unit {0}

-- sets have their places as numbers
abbrev pub numbers : Made → List ℕ
numbers m = map (λ (x : SetFact). x.number) (sets m)

pub record IsKept (m : Made) : Type 0 where
  pub numbered : numbers m ≡ upward (set_count m) 0
  pub keeps : All (Keeps (set_count m) (nets m)) (facts m)

-- ---- more sets and more nets

module _ (n k : ℕ) (ns ms : List Scoped) (more : n ≤ k) (all : (a : Scoped) → IsIn a ns → IsIn a ms) where
  below-on : (o : Option SetNumber) → IsBelow n o → IsBelow k o
  below-on o h j e = let less = h j e in omega (arith, less, more)

  named-on : (o : Option Named) → IsNamedBelow n o → IsNamedBelow k o
  named-on o h j e = let less = h j e in omega (arith, less, more)

  among-on : (o : Option Scoped) → IsAmong ns o → IsAmong ms o
  among-on o h a e = all a (h a e)

  keeps-on : (f : Fact) → Keeps n ns f → Keeps k ms f
  keeps-on (IsHandle d h j) x = omega (arith, x, more)
  keeps-on (IsSet j name y) x = record {
    power = among-on y.power x.power;
    gnd = among-on y.gnd x.gnd;
    nwell = among-on y.nwell x.nwell;
    pwell = among-on y.pwell x.pwell;
    deepnwell = among-on y.deepnwell x.deepnwell;
    deeppwell = among-on y.deeppwell x.deeppwell;
  }
  keeps-on (IsStrategy name t) x = record {
    supply = below-on t.supply x.supply;
    input = below-on t.input x.input;
    output = below-on t.output x.output;
    source = named-on t.source x.source;
    sink = named-on t.sink x.sink;
  }
  keeps-on (IsDriver a) x = omega (arith, x, more)
  keeps-on (IsReceiver a) x = omega (arith, x, more)
  keeps-on f x = tt

-- ---- what words name

first-in : {A : Type 0} (xs : List A) (x : A) → first_of xs ≡ Some x → IsIn x xs
first-in [] x e = absurd cc
first-in (y ∷ xs) x e = inl (sym (some-same y x e))

pub one-in : {A : Type 0} (find : WordView → Option A) (ws : List WordView) (x : A) → one find ws ≡ Some x → (w : WordView) × (find w ≡ Some x)
one-in find ws x e = let found = of-some find x ws (first-in (some_of find ws) x e) in (found.0, found.2)

upward-small : (n from k : ℕ) → IsIn k (upward n from) → k < n + from
upward-small zero from k i = absurd i
upward-small (suc n) from k i = elim i [
  | inl is ↦ omega (arith, is)
  | inr rest ↦ let less = upward-small n (from + 1) k rest in omega (arith, less)
]

when-same : {A : Type 0} (b : Bool) (x y : A) → when b x ≡ Some y → x ≡ y
when-same true x y e = some-same x y e
when-same false x y e = absurd cc

scoped-true : (a b : Scoped) → same_scoped a b ≡ true → a ≡ b
scoped-true a b e =
    let parts = and_parts (bytes_eq a.name b.name) (same_path a.scope b.scope) e in
    let name = name-true a.name b.name parts.0 in
    let scope = path-true a.scope b.scope parts.1 in
    λ i. record { scope = scope i; name = name i }

if-some : (b : Bool) (j k : SetNumber) → (if b then Some j else None) ≡ Some k → j ≡ k
if-some true j k e = some-same j k e
if-some false j k e = absurd cc

handle-fact : (d : ℕ) (h : Handle) (f : Fact) (k : SetNumber) → handle_fact d h f ≡ Some k → (e : ℕ) × (g : Handle) × (f ≡ IsHandle e g k)
handle-fact d h (IsHandle e g j) k f = (e, g, ap (λ x. IsHandle e g x) (if-some ((d == e) && same_handle h g) j k f))
handle-fact d h f k e = absurd cc

pub set-of-fact : (f : Fact) (x : SetFact) → set_fact f ≡ Some x → f ≡ IsSet x.number x.name x.functions
set-of-fact (IsSet k name y) x e = ap (λ (z : SetFact). IsSet z.number z.name z.functions) (some-same _ x e)
set-of-fact f x e = absurd cc

module _ (m : Made) (kept : IsKept m) where
  number-small : (x : SetFact) → IsIn x (sets m) → x.number < set_count m
  number-small x i =
      let less = upward-small (set_count m) 0 x.number (subst (λ ks. IsIn x.number ks) kept.numbered (in-map (λ (y : SetFact). y.number) x (sets m) i)) in
      omega (arith, less)

  pub handle-small : (d : ℕ) (h : Handle) (k : SetNumber) → handle_of m d h ≡ Some k → k < set_count m
  handle-small d h k e =
      let found = of-some (handle_fact d h) k (facts m) (first-in (some_of (handle_fact d h) (facts m)) k e) in
      let is = handle-fact d h found.0 k found.2 in
      subst (λ f. Keeps (set_count m) (nets m) f) is.2 (kept.keeps found.0 found.1)

  by-handle : (o : Option HandleOf) (k : SetNumber) → option_and_then (λ (x : HandleOf). handle_of m x.domain x.handle) o ≡ Some k → k < set_count m
  by-handle None k e = absurd cc
  by-handle (Some x) k e = handle-small x.domain x.handle k e

  own-or-handle : (o : Option SetFact) (a : Scoped) (k : SetNumber) → ((x : SetFact) → o ≡ Some x → IsIn x (sets m)) → (q : Option HandleOf)
      → or_that (option_map (λ (x : SetFact). x.number) o) (option_and_then (λ (x : HandleOf). handle_of m x.domain x.handle) q) ≡ Some k → k < set_count m
  own-or-handle None a k i q e = by-handle q k e
  own-or-handle (Some x) a k i q e = subst (λ j. j < set_count m) (some-same x.number k e) (number-small x (i x refl))

  module _ (s : Structure) where
    pub set-small : (w : WordView) (k : SetNumber) → set s m w ≡ Some k → k < set_count m
    set-small w k e =
        own-or-handle (first (λ (x : SetFact). is_own_name (scoped s m w) x.name) (sets m)) (scoped s m w) k
        (λ x f. (first_in (λ (y : SetFact). is_own_name (scoped s m w) y.name) (sets m) x f).0) (handle_named s m (scoped s m w)) e

    set-or-domain : (o : Option SetNumber) (d : Option ℕ) (k : SetNumber) → or_that (option_map (λ j. BySet j) o) (option_map (λ j. ByDomain j) d) ≡ Some (BySet k) → o ≡ Some k
    set-or-domain (Some j) d k e = cc
    set-or-domain None None k e = absurd cc
    set-or-domain None (Some j) k e = absurd cc

    named-small : (w : WordView) (k : SetNumber) → set_or_domain s m w ≡ Some (BySet k) → k < set_count m
    named-small w k e = set-small w k (set-or-domain (set s m w) (domain s m w) k e)

    net-there : (w : WordView) (a : Scoped) → net s m w ≡ Some a → IsIn a (nets m)
    net-there w a e =
        let test = of-when (list_any (same_scoped (scoped s m w)) (nets m)) (scoped s m w) a e in
        let found = of-any (same_scoped (scoped s m w)) (nets m) test in
        let same : scoped s m w ≡ found.0 = scoped-true (scoped s m w) found.0 found.2 in
        subst (λ b. IsIn b (nets m)) (sym same ∙ when-same (list_any (same_scoped (scoped s m w)) (nets m)) (scoped s m w) a e) found.1

    one-net : (ws : List WordView) → IsAmong (nets m) (one (net s m) ws)
    one-net ws a e = let found = one-in (net s m) ws a e in net-there found.0 a found.1

    one-set : (ws : List WordView) → IsBelow (set_count m) (one (set s m) ws)
    one-set ws k e = let found = one-in (set s m) ws k e in set-small found.0 k found.1

    one-named : (ws : List WordView) → IsNamedBelow (set_count m) (one (set_or_domain s m) ws)
    one-named ws k e = let found = one-in (set_or_domain s m) ws (BySet k) e in named-small found.0 k found.1

-- ---- what a command adds

pub append-none : {A : Type 0} (xs : List A) → xs ++ [] ≡ xs
append-none [] = refl
append-none (x ∷ xs) = ap (λ ys. x ∷ ys) (append-none xs)

map-both : {A B : Type 0} (f : A → B) (xs ys : List A) → map f (xs ++ ys) ≡ map f xs ++ map f ys
map-both f [] ys = refl
map-both f (x ∷ xs) ys = ap (λ zs. f x ∷ zs) (map-both f xs ys)

and-more-both : {B : Type 0} (o : Option B) (xs ys : List B) → and_more o (xs ++ ys) ≡ and_more o xs ++ ys
and-more-both None xs ys = refl
and-more-both (Some y) xs ys = refl

some-both : {A B : Type 0} (f : A → Option B) (xs ys : List A) → some_of f (xs ++ ys) ≡ some_of f xs ++ some_of f ys
some-both f [] ys = refl
some-both f (x ∷ xs) ys = ap (λ zs. and_more (f x) zs) (some-both f xs ys) ∙ and-more-both (f x) (some_of f xs) (some_of f ys)

length-more : {A : Type 0} (xs : List A) (x : A) → length (xs ++ x ∷ []) ≡ length xs + 1
length-more [] x = refl
length-more (y ∷ xs) x = let rest = length-more xs x in omega (arith, rest)

upward-more : (n from : ℕ) → upward (n + 1) from ≡ upward n from ++ (n + from) ∷ []
upward-more zero from = let same : from ≡ 0 + from = omega arith in ap (λ k. k ∷ []) same
upward-more (suc n) from =
    let one : suc n + 1 ≡ suc (n + 1) = omega arith in
    let end : n + (from + 1) ≡ suc n + from = omega arith in
    ap (λ k. upward k from) one ∙ ap (λ zs. from ∷ zs) (upward-more n (from + 1) ∙ ap (λ k. upward n (from + 1) ++ k ∷ []) end)

own-one-of : (p : Place) (word : CommandWord) (name : Option WordView) (os : List OptionView) → (own_words (record { place = p; word = word; name = name; options = os }) ≡ []) ⊎ ((w : WordView) × (own_words (record { place = p; word = word; name = name; options = os }) ≡ w ∷ []))
own-one-of p word None os = inl refl
own-one-of p word (Some w) os = inr (w, refl)

-- a command has one name or none
pub own-one : (c : CommandView) → (own_words c ≡ []) ⊎ ((w : WordView) × (own_words c ≡ w ∷ []))
own-one c = own-one-of c.place c.word c.name c.options

module _ (s : Structure) (m : Made) (c : CommandView) where
  known-of : Fact → Known
  known-of f = record { command = m.count; fact = f }

  plain : (fs : List Fact) → map (λ (k : Known). k.fact) (map (λ f. record { command = m.count; fact = f }) fs) ≡ fs
  plain [] = refl
  plain (f ∷ fs) = ap (λ gs. f ∷ gs) (plain fs)

  pub facts-after : facts (after s m c) ≡ facts m ++ facts_made s m c
  facts-after =
      map-both (λ (k : Known). k.fact) m.known (map (λ f. record { command = m.count; fact = f }) (facts_made s m c))
      ∙ ap (λ fs. facts m ++ fs) (plain (facts_made s m c))

  pub some-after : {B : Type 0} (g : Fact → Option B) → some_of g (facts (after s m c)) ≡ some_of g (facts m) ++ some_of g (facts_made s m c)
  some-after g = ap (λ fs. some_of g fs) facts-after ∙ some-both g (facts m) (facts_made s m c)

  abbrev new_sets : List SetFact
  new_sets = some_of set_fact (facts_made s m c)

  -- none, or one with the next number
  abbrev AddsOne : List SetFact → Type 0
  AddsOne xs = (x : SetFact) × (xs ≡ x ∷ []) × (x.number ≡ set_count m)

  no-sets : (fs : List Fact) → ((f : Fact) → IsIn f fs → set_fact f ≡ None) → some_of set_fact fs ≡ []
  no-sets [] h = refl
  no-sets (f ∷ fs) h = ap (λ o. and_more o (some_of set_fact fs)) (h f (inl refl)) ∙ no-sets fs (λ g i. h g (inr i))

  abbrev IsOther : Fact → Type 0
  IsOther f = (c.word ≡ commands.CreateSupplySet → ⊥) → (c.word ≡ commands.SetDomainSupplyNet → ⊥) → set_fact f ≡ None

  others : Has s m c IsOther
  others = record {
    new_domain = λ w a b. refl;
    named_handle = λ d g k w e a b. refl;
    new_port = λ x i e a b. refl;
    new_net = λ w a b. refl;
    connects = λ x ps a b. refl;
    own_set = λ w e a b. absurd (a e);
    primary_set = λ d e a b. absurd (b e);
    primary = λ d e i a b. refl;
    state = λ x n y a b. refl;
    table = λ x xs a b. refl;
    row = λ n xs a b. refl;
    driver = λ x w e a b. refl;
    receiver = λ x w e a b. refl;
    new_switch = λ w u v x i o k f g e a b. refl;
    strategy = λ kind w d e a b. refl;
    interface = λ w a b. refl;
    cells = λ xs ys zs a b. refl;
  }

  abbrev own_set_facts : List WordView → List Fact
  own_set_facts ws = map (λ w. IsSet (set_count m) (Own (own m w)) (functions_made s m c)) ws

  abbrev primary_set_facts : List ℕ → List Fact
  primary_set_facts ds = flat_map (λ d. IsSet (set_count m) (PrimaryOf d) (primary_functions s m c) ∷ IsHandle d Primary (set_count m) ∷ []) ds

  new-by : (word : CommandWord) → c.word ≡ word → new_sets ≡ some_of set_fact (facts_by s m c word)
  new-by word e = ap (λ x. some_of set_fact (facts_by s m c x)) e

  -- the domains that a command is of by its name
  abbrev domains_named : List ℕ
  domains_named = some_of (domain s m) (own_words c)

  one-domain : (domains_named ≡ []) ⊎ ((d : ℕ) × (domains_named ≡ d ∷ []))
  one-domain = elim (own-one c) [
    | inl e ↦ inl (ap (λ ws. some_of (domain s m) ws) e)
    | inr w ↦ by (domain s m w.0) (ap (λ ws. some_of (domain s m) ws) w.1)
  ]
    where
      by : (o : Option ℕ) → domains_named ≡ and_more o [] → (domains_named ≡ []) ⊎ ((d : ℕ) × (domains_named ≡ d ∷ []))
      by None e = inl e
      by (Some d) e = inr (d, e)

  own-adds : (ws : List WordView) → own_words c ≡ ws → new_sets ≡ some_of set_fact (own_set_facts (own_words c)) → new_sets ≡ some_of set_fact (own_set_facts ws)
  own-adds ws e f = f ∙ ap (λ us. some_of set_fact (own_set_facts us)) e

  primary-adds : (ds : List ℕ) → domains_named ≡ ds → new_sets ≡ some_of set_fact (primary_set_facts domains_named) → new_sets ≡ some_of set_fact (primary_set_facts ds)
  primary-adds ds e f = f ∙ ap (λ us. some_of set_fact (primary_set_facts us)) e

  with-primary : c.word ≡ commands.SetDomainSupplyNet → (d : ℕ) → domains_named ≡ d ∷ [] → AddsOne new_sets
  with-primary e d f =
      (record { number = set_count m; name = PrimaryOf d; functions = primary_functions s m c }, primary-adds (d ∷ []) f (new-by commands.SetDomainSupplyNet e), refl)

  made-sets : (word : CommandWord) → c.word ≡ word → (new_sets ≡ []) ⊎ AddsOne new_sets
  made-sets commands.CreateSupplySet e = elim (own-one c) [
    | inl f ↦ inl (own-adds [] f (new-by commands.CreateSupplySet e))
    | inr w ↦ inr (record { number = set_count m; name = Own (own m w.0); functions = functions_made s m c }, own-adds (w.0 ∷ []) w.1 (new-by commands.CreateSupplySet e), refl)
  ]
  made-sets commands.SetDomainSupplyNet e = elim one-domain [
    | inl f ↦ inl (primary-adds [] f (new-by commands.SetDomainSupplyNet e))
    | inr d ↦ inr (with-primary e d.0 d.1)
  ]
  made-sets word e = inl (no-sets (facts_made s m c) (λ f i. made-have s m c IsOther others f i (λ a. cc) (λ b. cc)))

  -- the command adds one set where it names a domain
  primary-adds-one : c.word ≡ commands.SetDomainSupplyNet → (d : ℕ) → IsIn d domains_named → AddsOne new_sets
  primary-adds-one e d i = elim one-domain [
    | inl f ↦ absurd (subst (λ ds. IsIn d ds) f i)
    | inr x ↦ with-primary e x.0 x.1
  ]

-- ---- all is kept

length-both : {A : Type 0} (xs ys : List A) → length (xs ++ ys) ≡ length xs + length ys
length-both [] ys = omega arith
length-both (x ∷ xs) ys = let rest = length-both xs ys in omega (arith, rest)

numbered-on : (xs ys : List SetFact) → map (λ (x : SetFact). x.number) xs ≡ upward (length xs) 0
    → (ys ≡ []) ⊎ ((x : SetFact) × (ys ≡ x ∷ []) × (x.number ≡ length xs))
    → map (λ (x : SetFact). x.number) (xs ++ ys) ≡ upward (length (xs ++ ys)) 0
numbered-on xs ys e more = elim more [
  | inl none ↦
      let same : xs ++ ys ≡ xs = ap (λ zs. xs ++ zs) none ∙ append-none xs in
      ap (λ zs. map (λ (x : SetFact). x.number) zs) same ∙ (e ∙ ap (λ zs. upward (length zs) 0) (sym same))
  | inr one ↦
      let same : xs ++ ys ≡ xs ++ one.0 ∷ [] = ap (λ zs. xs ++ zs) one.1 in
      let place : one.0.number ≡ length xs + 0 = one.2 ∙ (let zero_on : length xs ≡ length xs + 0 = omega arith in zero_on) in
      ap (λ zs. map (λ (x : SetFact). x.number) zs) same
      ∙ (map-both (λ (x : SetFact). x.number) xs (one.0 ∷ [])
      ∙ (ap (λ ks. ks ++ one.0.number ∷ []) e
      ∙ (ap (λ k. upward (length xs) 0 ++ k ∷ []) place
      ∙ (sym (upward-more (length xs) 0)
      ∙ (ap (λ k. upward k 0) (sym (length-more xs one.0)) ∙ ap (λ zs. upward (length zs) 0) (sym same))))))
]

module _ (s : Structure) (m : Made) (c : CommandView) (kept : IsKept m) where
  sets-after : sets (after s m c) ≡ sets m ++ new_sets s m c
  sets-after = some-after s m c set_fact

  more-sets : set_count m ≤ set_count (after s m c)
  more-sets = let whole = ap length sets-after ∙ length-both (sets m) (new_sets s m c) in omega (arith, whole)

  one-more : AddsOne s m c (new_sets s m c) → set_count m < set_count (after s m c)
  one-more one =
      let whole : set_count (after s m c) ≡ set_count m + 1 = ap length (sets-after ∙ ap (λ ys. sets m ++ ys) one.1) ∙ length-more (sets m) one.0 in
      omega (arith, whole)

  more-nets : (a : Scoped) → IsIn a (nets m) → IsIn a (nets (after s m c))
  more-nets a i = subst (λ ns. IsIn a ns) (sym (some-after s m c net_fact)) (in-left a (nets m) (some_of net_fact (facts_made s m c)) i)

  below : (o : Option SetNumber) → IsBelow (set_count m) o → IsBelow (set_count (after s m c)) o
  below o h = below-on (set_count m) (set_count (after s m c)) (nets m) (nets (after s m c)) more-sets more-nets o h

  said : (ws : List WordView) → IsBelow (set_count (after s m c)) (one (set s m) ws)
  said ws = below (one (set s m) ws) (one-set m kept s ws)

  named-said : (ws : List WordView) → IsNamedBelow (set_count (after s m c)) (one (set_or_domain s m) ws)
  named-said ws = named-on (set_count m) (set_count (after s m c)) (nets m) (nets (after s m c)) more-sets more-nets (one (set_or_domain s m) ws) (one-named m kept s ws)

  net-said : (ws : List WordView) → IsAmong (nets (after s m c)) (one (net s m) ws)
  net-said ws a e = more-nets a (one-net m kept s ws a e)

  either-below : (a b : Option SetNumber) → IsBelow (set_count (after s m c)) a → IsBelow (set_count (after s m c)) b → IsBelow (set_count (after s m c)) (or_else s m c a b)
  either-below None b h g = g
  either-below (Some k) b h g = h

  strategy-keeps : (kind : StrategyKind) (d : ℕ) → AreBelow (set_count (after s m c)) (strategy_of s m c kind d)
  strategy-keeps kind d = record {
    supply = either-below (set_by s m c options.IsolationSupply) (set_by s m c options.RetentionSupply) (said (words c options.IsolationSupply)) (said (words c options.RetentionSupply));
    input = said (words c options.InputSupply);
    output = said (words c options.OutputSupply);
    source = named-said (words c options.Source);
    sink = named-said (words c options.Sink);
  }

  small : (w : WordView) (k : SetNumber) → set s m w ≡ Some k → k < set_count (after s m c)
  small w k e = let less = set-small m kept s w k e in let more = more-sets in omega (arith, less, more)

  new-keeps : Has s m c (Keeps (set_count (after s m c)) (nets (after s m c)))
  new-keeps = record {
    new_domain = λ w. tt;
    named_handle = λ d h k w e. small w k e;
    new_port = λ x i e. tt;
    new_net = λ w. tt;
    connects = λ x ps. tt;
    own_set = λ w e. record {
      power = net-said _;
      gnd = net-said _;
      nwell = net-said _;
      pwell = net-said _;
      deepnwell = net-said _;
      deeppwell = net-said _;
    };
    primary_set = λ d e. record {
      power = net-said (words c options.PrimaryPowerNet);
      gnd = net-said (words c options.PrimaryGroundNet);
      nwell = λ a f. absurd cc;
      pwell = λ a f. absurd cc;
      deepnwell = λ a f. absurd cc;
      deeppwell = λ a f. absurd cc;
    };
    primary = λ d e i. one-more (primary-adds-one s m c e d i);
    state = λ x n y. tt;
    table = λ x xs. tt;
    row = λ n xs. tt;
    driver = λ a w e. small w a.supply e;
    receiver = λ a w e. small w a.supply e;
    new_switch = λ w u v x i o k f g e. tt;
    strategy = λ kind w d e. strategy-keeps kind d;
    interface = λ w. tt;
    cells = λ xs ys zs. tt;
  }

  pub after-kept : IsKept (after s m c)
  after-kept = record {
    numbered =
        ap (λ xs. map (λ (x : SetFact). x.number) xs) sets-after
        ∙ (numbered-on (sets m) (new_sets s m c) kept.numbered (made-sets s m c c.word refl)
        ∙ ap (λ xs. upward (length xs) 0) (sym sets-after));
    keeps =
        known-or-made s m c (Keeps (set_count (after s m c)) (nets (after s m c)))
        (λ f i. keeps-on (set_count m) (set_count (after s m c)) (nets m) (nets (after s m c)) more-sets more-nets f (kept.keeps f i))
        (made-have s m c (Keeps (set_count (after s m c)) (nets (after s m c))) new-keeps);
  }

-- whatever commands make
pub all-kept : (s : Structure) (all : List CommandView) (end : Made) → made_by s all ≡ Ok end → IsKept end
all-kept s all end e =
    goes-on s IsKept (λ c. Unit {0}) (λ m c x kept f. after-kept s m c kept) all nothing end (λ c i. tt)
    (record { numbered = refl; keeps = λ f i. absurd i }) e
