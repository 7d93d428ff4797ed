-- Supply ports of the top have names of their own.
use Rattle.std.proofs.Common.{◌≡◌, ◌⊎◌, ℕ, zero, suc, ◌+◌, Bool, true, false, List, [], ◌∷◌, ◌++◌, map, Option, Some, None, inl, inr, refl, sym, ap, ◌∙◌, subst}
use Rattle.std.specs.Prelude.{not, codes, slice_get, unwrap_or, Ok}
use Rattle.std.specs.List.{list_any}
use Rattle.std.proofs.lemmas.Bool.{true≢false}
use Rattle.lp_model.specs.declared.intent.ScopedName.{ScopedName}
use Rattle.lp_model.specs.declared.upf.CommandWord.{CommandWord}
use Rattle.lp_model.specs.declared.upf.CommandWord.TheVariants as commands
use Rattle.lp_model.specs.declared.upf.OptionWord.TheVariants as options
use Rattle.lp_model.specs.declared.supply.Origin as model
use Rattle.lp_model.specs.CommandsView.{WordView, CommandView}
use Rattle.lp_spec_design.specs.Keys.{Name, Path}
use Rattle.lp_spec_design.specs.Netlists.{Structure}
use Rattle.lp_spec_design.specs.Graph.{some_of, and_more, numbered}
use Rattle.lp_spec_design.specs.Intents.{Origin, FromPort}
use Rattle.lp_spec_design.specs.Winners.{IsIn}
use Rattle.lp_spec_design.proofs.Members.{IsApart, any-in, in-either, of-some}
use Rattle.lp_spec_origins.specs.Commands.{Scoped, same_scoped, Command, MakesPort}
use Rattle.lp_spec_origins.specs.Origins.{Source, OfPort, OfSwitch, source_in, sources}
use Rattle.lp_spec_realises.specs.Projects.{network_of, numbered_node}
use Rattle.lp_spec_network.specs.Views.{kind_view}
use Rattle.lp_spec_intent.specs.Made.{Fact, IsPort, IsSwitch, Made, nothing, facts, port_fact, ports, network_fact, network}
use Rattle.lp_spec_intent.specs.Lookups.{words, own_words, own, domain}
use Rattle.lp_spec_intent.specs.Faults.{Twice, earliest, faults_at, faults_by, unknown, twice, twice_if, new_name, port_faults}
use Rattle.lp_spec_intent.specs.Effects.{is_word, port_facts, facts_by, facts_made, after}
use Rattle.lp_spec_intent.specs.Intent.{made_by}
use Rattle.lp_spec_resolved.specs.Supplies.{source_name, project_made, origin_made}
use Rattle.lp_spec_resolved.proofs.Read.{none-left, no-cons}
use Rattle.lp_spec_resolved.proofs.Controls.{none-earliest}
use Rattle.lp_spec_resolved.proofs.Kept.{own-one, some-after, append-none}
use Rattle.lp_spec_resolved.proofs.Origins.{in-some, slice-in, scoped-self, slice-map, slice-numbered}
use Rattle.lp_spec_resolved.proofs.Facts.{Has, made-have, goes-on}

-- ---- ports are apart

apart-more : {A : Type 0} (xs : List A) (x : A) → IsApart xs → (IsIn x xs → ⊥) → IsApart (xs ++ x ∷ [])
apart-more [] x h n = (λ i. i, tt)
apart-more (y ∷ xs) x h n = (
  λ i. elim (in-either y xs (x ∷ []) i) [
    | inl here ↦ h.0 here
    | inr there ↦ elim there [ inl is ↦ n (inl (sym is)) | inr rest ↦ rest ]
  ],
  apart-more xs x h.1 (λ i. n (inr i)),
)

module _ (s : Structure) (m : Made) (c : CommandView) where
  abbrev IsNoPort : Fact → Type 0
  IsNoPort f = (c.word ≡ commands.CreateSupplyPort → ⊥) → port_fact f ≡ None

  no-ports : (fs : List Fact) → ((f : Fact) → IsIn f fs → port_fact f ≡ None) → some_of port_fact fs ≡ []
  no-ports [] h = refl
  no-ports (f ∷ fs) h = ap (λ o. and_more o (some_of port_fact fs)) (h f (inl refl)) ∙ no-ports fs (λ g i. h g (inr i))

  twice-not : (b : Bool) (w : WordView) → twice b w ≡ [] → b ≡ false
  twice-not false w e = refl
  twice-not true w e = absurd (no-cons (Twice w.place w.text) [] e)

  -- the name of a new port is no port's
  new-port : (w : WordView) → own_words c ≡ w ∷ [] → port_faults s m c ≡ [] → IsIn (own m w) (ports m) → ⊥
  new-port w e f i =
      let parts = none-left (new_name s m c (ports m)) (unknown (domain s m) (words c options.Domain)) f in
      let one = ap (λ ws. twice_if (λ v. list_any (same_scoped (own m v)) (ports m)) ws) (sym e) ∙ parts.0 in
      let here = none-left (twice (list_any (same_scoped (own m w)) (ports m)) w) [] one in
      let none = twice-not (list_any (same_scoped (own m w)) (ports m)) w here.0 in
      true≢false (sym (any-in (same_scoped (own m w)) (own m w) (ports m) i (scoped-self (own m w))) ∙ none)

  abbrev new_ports : List Scoped
  new_ports = some_of port_fact (facts_made s m c)

  others : Has s m c IsNoPort
  others = record {
    new_domain = λ w a. refl;
    named_handle = λ d g k w e a. refl;
    new_port = λ x i e a. absurd (a e);
    new_net = λ w a. refl;
    connects = λ x ps a. refl;
    own_set = λ w e a. refl;
    primary_set = λ d e a. refl;
    primary = λ d e i a. refl;
    state = λ x n y a. refl;
    table = λ x xs a. refl;
    row = λ n xs a. refl;
    driver = λ x w e a. refl;
    receiver = λ x w e a. refl;
    new_switch = λ w u v x i o k f g e a. refl;
    strategy = λ kind w d e a. refl;
    interface = λ w a. refl;
    cells = λ xs ys zs a. refl;
  }

  -- none, or one that is new
  abbrev AddsPort : Type 0
  AddsPort = (new_ports ≡ []) ⊎ ((a : Scoped) × (new_ports ≡ a ∷ []) × (IsIn a (ports m) → ⊥))

  made-ports : (word : CommandWord) → c.word ≡ word → earliest (faults_at s m c) ≡ None → AddsPort
  made-ports commands.CreateSupplyPort e f =
      let faults : port_faults s m c ≡ [] = ap (λ w. faults_by s m c w) (sym e) ∙ none-earliest (faults_at s m c) f in
      let made : new_ports ≡ some_of port_fact (port_facts s m c) = ap (λ w. some_of port_fact (facts_by s m c w)) e in
      elim (own-one c) [
        | inl none ↦ inl (made ∙ ap (λ ws. some_of port_fact (map (λ w. IsPort (own m w) (not (is_word c options.Direction (codes "out")))) ws)) none)
        | inr w ↦ inr (own m w.0, made ∙ ap (λ ws. some_of port_fact (map (λ v. IsPort (own m v) (not (is_word c options.Direction (codes "out")))) ws)) w.1, new-port w.0 w.1 faults)
      ]
  made-ports word e f = inl (no-ports (facts_made s m c) (λ g i. made-have s m c IsNoPort others g i (λ a. cc)))

  ports-on : earliest (faults_at s m c) ≡ None → IsApart (ports m) → IsApart (ports (after s m c))
  ports-on f h = elim (made-ports c.word refl f) [
    | inl none ↦ subst (λ ps. IsApart ps) (sym (some-after s m c port_fact ∙ (ap (λ ps. ports m ++ ps) none ∙ append-none (ports m)))) h
    | inr one ↦ subst (λ ps. IsApart ps) (sym (some-after s m c port_fact ∙ ap (λ ps. ports m ++ ps) one.1)) (apart-more (ports m) one.0 h one.2)
  ]

-- whatever commands make
pub ports-apart : (s : Structure) (all : List CommandView) (end : Made) → made_by s all ≡ Ok end → IsApart (ports end)
ports-apart s all end e = goes-on s (λ m. IsApart (ports m)) (λ c. Unit {0}) (λ m c x h f. ports-on s m c f h) all nothing end (λ c i. tt) tt e

-- ---- each source has its place once

abbrev sources-by : List Fact → List Source
sources-by fs = some_of source_in (some_of network_fact fs)

once-more : (q : Option Source) (xs : List Source) → ((a : Scoped) → q ≡ Some (OfPort a) → (n : ℕ) → slice_get xs n ≡ Some (OfPort a) → ⊥)
    → ((o r : ℕ) (a : Scoped) → slice_get xs o ≡ Some (OfPort a) → slice_get xs r ≡ Some (OfPort a) → o ≡ r)
    → (o r : ℕ) (a : Scoped) → slice_get (and_more q xs) o ≡ Some (OfPort a) → slice_get (and_more q xs) r ≡ Some (OfPort a) → o ≡ r
once-more None xs n rest o r a e f = rest o r a e f
once-more (Some x) xs n rest zero zero a e f = refl
once-more (Some x) xs n rest zero (suc r) a e f = absurd (n a e r f)
once-more (Some x) xs n rest (suc o) zero a e f = absurd (n a f o e)
once-more (Some x) xs n rest (suc o) (suc r) a e f = ap suc (rest o r a e f)

port-same : (a b : Scoped) → Some (OfPort a) ≡ Some (OfPort b) → a ≡ b
port-same a b e = cc

source-of : (scope : Path) (name : Name) (input : Bool) (a : Scoped) → source_in (MakesPort (record { scope = scope; name = name }) input) ≡ Some (OfPort a) → (record { scope = scope; name = name } ≡ a) × (a.scope ≡ [])
source-of [] name true a e = let same = port-same (record { scope = []; name = name }) a e in (same, ap (λ (x : Scoped). x.scope) (sym same))
source-of [] name false a e = absurd cc
source-of (x ∷ p) name input a e = absurd cc

source-is : (p : Scoped) (input : Bool) (a : Scoped) → source_in (MakesPort p input) ≡ Some (OfPort a) → (p ≡ a) × (a.scope ≡ [])
source-is p input a e = source-of p.scope p.name input a e

pub command-of : (d : Command) (a : Scoped) → source_in d ≡ Some (OfPort a) → (input : Bool) × (d ≡ MakesPort a input) × (a.scope ≡ [])
command-of (MakesPort p input) a e = let is = source-is p input a e in (input, ap (λ x. MakesPort x input) is.0, is.1)
command-of d a e = absurd cc

fact-of : (f : Fact) (a : Scoped) (input : Bool) → network_fact f ≡ Some (MakesPort a input) → port_fact f ≡ Some a
fact-of (IsPort p i) a input e = cc
fact-of f a input e = absurd cc

source-port : (fs : List Fact) (o : ℕ) (a : Scoped) → slice_get (sources-by fs) o ≡ Some (OfPort a) → IsIn a (some_of port_fact fs)
source-port fs o a e =
    let d = of-some source_in (OfPort a) (some_of network_fact fs) (slice-in (sources-by fs) o (OfPort a) e) in
    let is = command-of d.0 a d.2 in
    let f = of-some network_fact d.0 fs d.1 in
    in-some port_fact f.0 a fs f.1 (fact-of f.0 a is.0 (f.2 ∙ ap (λ x. Some x) is.1))

sources-once : (fs : List Fact) → IsApart (some_of port_fact fs) → (o r : ℕ) (a : Scoped) → slice_get (sources-by fs) o ≡ Some (OfPort a) → slice_get (sources-by fs) r ≡ Some (OfPort a) → o ≡ r
sources-once [] h o r a e f = absurd cc
sources-once (IsPort p input ∷ fs) h o r a e f =
    once-more (source_in (MakesPort p input)) (sources-by fs)
    (λ b is n at. h.0 (subst (λ x. IsIn x (some_of port_fact fs)) (sym (source-is p input b is).0) (source-port fs n b at)))
    (sources-once fs h.1) o r a e f
sources-once (IsSwitch w port ∷ fs) h o r a e f = once-more (Some (OfSwitch w)) (sources-by fs) (λ b is. absurd cc) (sources-once fs h) o r a e f
sources-once (x ∷ fs) h o r a e f = sources-once fs h o r a e f

-- ---- origins that are ports

pub slice-none : {A B : Type 0} (f : ℕ × A → B) (j k : ℕ) (xs : List A) → slice_get xs k ≡ None → slice_get (map f (numbered j xs)) k ≡ None
slice-none f j k [] e = refl
slice-none f j zero (y ∷ xs) e = absurd cc
slice-none f j (suc k) (y ∷ xs) e = slice-none f (j + 1) k xs e

pub map-none : {A B : Type 0} (f : A → B) (xs : List A) (k : ℕ) → slice_get xs k ≡ None → slice_get (map f xs) k ≡ None
map-none f [] k e = refl
map-none f (y ∷ xs) zero e = absurd cc
map-none f (y ∷ xs) (suc k) e = map-none f xs k e

module _ (s : Structure) (name : Scoped → ScopedName) (m : Made) (margin : ℕ) where
  abbrev view_of : model.Origin → Origin
  view_of x = kind_view (numbered_node s) x.kind

  abbrev origins_viewed : List Origin
  origins_viewed = map view_of (map (origin_made s name m) (numbered 0 (sources (network m))))

  pub port-at : (o : ℕ) → slice_get origins_viewed o ≡ Some FromPort → (a : Scoped) × (slice_get (sources (network m)) o ≡ Some (OfPort a))
  port-at o e = by (slice_get (sources (network m)) o) refl
    where
      by : (q : Option Source) → slice_get (sources (network m)) o ≡ q → (a : Scoped) × (slice_get (sources (network m)) o ≡ Some (OfPort a))
      by None f =
          let none : None ≡ Some FromPort = sym (map-none view_of (map (origin_made s name m) (numbered 0 (sources (network m)))) o (slice-none (origin_made s name m) 0 o (sources (network m)) f)) ∙ e in
          absurd cc
      by (Some (OfPort a)) f = (a, f)
      by (Some (OfSwitch w)) f =
          let at = slice-map view_of (map (origin_made s name m) (numbered 0 (sources (network m)))) o (origin_made s name m (o + 0, OfSwitch w)) (slice-numbered (origin_made s name m) 0 o (sources (network m)) (OfSwitch w) f) in
          let same : Some (view_of (origin_made s name m (o + 0, OfSwitch w))) ≡ Some FromPort = sym at ∙ e in
          absurd cc

  pub name-at : (o : ℕ) (a : Scoped) → slice_get (sources (network m)) o ≡ Some (OfPort a) → unwrap_or (slice_get (project_made s name m margin).origin_names o) [] ≡ a.name
  name-at o a e = ap (λ q. unwrap_or q []) (slice-map (λ (x : Source). (source_name x).name) (sources (network m)) o (OfPort a) e)

  in-top : (o : ℕ) (a : Scoped) → slice_get (sources (network m)) o ≡ Some (OfPort a) → a.scope ≡ []
  in-top o a e = let d = of-some source_in (OfPort a) (network m) (slice-in (sources (network m)) o (OfPort a) e) in (command-of d.0 a d.2).2

  pub named-once : IsApart (ports m) → (o r : ℕ) → slice_get (network_of (project_made s name m margin)).origins o ≡ Some FromPort → slice_get (network_of (project_made s name m margin)).origins r ≡ Some FromPort
      → unwrap_or (slice_get (project_made s name m margin).origin_names o) [] ≡ unwrap_or (slice_get (project_made s name m margin).origin_names r) [] → o ≡ r
  named-once apart o r e f same =
      let a = port-at o e in
      let b = port-at r f in
      let names : a.0.name ≡ b.0.name = sym (name-at o a.0 a.1) ∙ (same ∙ name-at r b.0 b.1) in
      let scopes : a.0.scope ≡ b.0.scope = in-top o a.0 a.1 ∙ sym (in-top r b.0 b.1) in
      let ports_same : b.0 ≡ a.0 = λ i. record { scope = sym scopes i; name = sym names i } in
      sources-once (facts m) apart o r a.0 a.1 (b.1 ∙ ap (λ x. Some (OfPort x)) ports_same)
