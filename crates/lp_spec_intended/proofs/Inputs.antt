-- The input of each switch is a net that has been made, and where F37 and F38 hold nowhere it has one origin.
use Rattle.std.proofs.Common.{◌≡◌, ◌<◌, ℕ, ◌==◌, Bool, true, false, ◌&&◌, ◌||◌, List, [], ◌∷◌, length, Some, None, inl, inr, refl, sym, ap, ◌∙◌, subst, arith}
use Rattle.std.specs.Prelude.{if◌then◌else◌, is_some, nat_lt, Ok}
use Rattle.std.specs.List.{list_any}
use Rattle.std.proofs.lemmas.Bool.{false≢true, true≢false, lt-ltb, and_parts}
use Rattle.lp_model.specs.CommandsView.{WordView, CommandView}
use Rattle.lp_spec_design.specs.Keys.{Name, same_path}
use Rattle.lp_spec_design.specs.Netlists.{Structure}
use Rattle.lp_spec_design.specs.Graph.{some_of, when}
use Rattle.lp_spec_design.specs.Reads.{name-true, path-true}
use Rattle.lp_spec_design.specs.Winners.{IsIn}
use Rattle.lp_spec_design.proofs.Members.{in-left, of-some, of-when, of-any, any-in}
use Rattle.lp_spec_origins.specs.Commands.{Scoped, same_scoped, NetAt, same_supply, PowerSwitch, MakesNet, MakesSwitch}
use Rattle.lp_spec_origins.specs.Origins.{origins_of, the_only, origin_of}
use Rattle.lp_spec_origins.specs.Used.{is_function, is_used_set, is_input_net, is_used_net, is_used}
use Rattle.lp_spec_design.specs.Graph.{numbered}
use Rattle.lp_spec_faults.specs.Lines.{first_of}
use Rattle.lp_spec_faults.specs.Supplies.{made_by, SupplyMade, origin_count, is_undriven, undriven, net_made, two_sources}
use Rattle.lp_spec_design.specs.Netlists.{first}
use Rattle.lp_spec_intent.specs.Made.{Fact, IsNet, IsSwitch, Made, facts, net_fact, nets, network_fact, network, supply_count}
use Rattle.lp_spec_intent.specs.Lookups.{scoped, net}
use Rattle.lp_spec_intent.specs.Effects.{facts_made, after}
use Rattle.lp_spec_intent.specs.Intent as intent
use Rattle.lp_spec_intent.specs.Intent.{resolved, set_list, asked, listed_supplies}
use Rattle.lp_spec_intent.proofs.Places.{some-same}
use Rattle.lp_spec_resolved.proofs.Facts.{All, Has, made-have, known-or-made, goes-on}
use Rattle.lp_spec_resolved.proofs.Kept.{some-after}
use Rattle.lp_spec_resolved.proofs.Origins.{in-some, scoped-self}

-- the net of a switch's input is among some nets
abbrev pub HasInput : List Scoped → Fact → Type 0
HasInput ns (IsSwitch w port) = IsIn w.input ns
HasInput ns f = Unit {0}

input-on : (ns ms : List Scoped) → ((a : Scoped) → IsIn a ns → IsIn a ms) → (f : Fact) → HasInput ns f → HasInput ms f
input-on ns ms more (IsSwitch w port) h = more w.input h
input-on ns ms more f h = tt

when-same : {A : Type 0} (b : Bool) (x y : A) → when b x ≡ Some y → x ≡ y
when-same true x y e = some-same x y e
when-same false x y e = absurd cc

scoped-true : (a b : Scoped) → same_scoped a b ≡ true → a ≡ b
scoped-true a b e =
    let parts = and_parts (bytes_eq_of a b) (same_path a.scope b.scope) e in
    let name = name-true a.name b.name parts.0 in
    let scope = path-true a.scope b.scope parts.1 in
    λ i. record { scope = scope i; name = name i }
  where
    bytes_eq_of : Scoped → Scoped → Bool
    bytes_eq_of x y = Rattle.std.specs.Prelude.bytes_eq x.name y.name

module _ (s : Structure) (m : Made) (c : CommandView) where
  net-there : (w : WordView) (a : Scoped) → net s m w ≡ Some a → IsIn a (nets m)
  net-there w a e =
      let test = of-when (list_any (same_scoped (scoped s m w)) (nets m)) (scoped s m w) a e in
      let found = of-any (same_scoped (scoped s m w)) (nets m) test in
      let same : scoped s m w ≡ found.0 = scoped-true (scoped s m w) found.0 found.2 in
      subst (λ b. IsIn b (nets m)) (sym same ∙ when-same (list_any (same_scoped (scoped s m w)) (nets m)) (scoped s m w) a e) found.1

  has-inputs : Has s m c (HasInput (nets m))
  has-inputs = record {
    new_domain = λ w. tt;
    named_handle = λ d h k w e. tt;
    new_port = λ a input e. tt;
    new_net = λ w. tt;
    connects = λ a ps. tt;
    own_set = λ w e. tt;
    primary_set = λ d e. tt;
    primary = λ d e i. tt;
    state = λ x n y. tt;
    table = λ a xs. tt;
    row = λ n xs. tt;
    driver = λ a w e. tt;
    receiver = λ a w e. tt;
    new_switch = λ w u v x i o k a b d. net-there u i a;
    strategy = λ kind w d e. tt;
    interface = λ w. tt;
    cells = λ xs ys zs. tt;
  }

  more-nets : (a : Scoped) → IsIn a (nets m) → IsIn a (nets (after s m c))
  more-nets a i = subst (λ ns. IsIn a ns) (sym (some-after s m c net_fact)) (in-left a (nets m) (some_of net_fact (facts_made s m c)) i)

  inputs-after : All (HasInput (nets m)) (facts m) → All (HasInput (nets (after s m c))) (facts (after s m c))
  inputs-after h f i =
      input-on (nets m) (nets (after s m c)) more-nets f
      (known-or-made s m c (HasInput (nets m)) h (made-have s m c (HasInput (nets m)) has-inputs) f i)

pub all-inputs : (s : Structure) (all : List CommandView) (end : Made) → intent.made_by s all ≡ Ok end → All (HasInput (nets end)) (facts end)
all-inputs s all end e =
    goes-on s (λ m. All (HasInput (nets m)) (facts m)) (λ c. Unit {0}) (λ m c t h none_. inputs-after s m c h) all _ end (λ c i. tt) (λ f i. absurd i) e

-- ---- the one origin of an input

none-holds : {A : Type 0} (p : A → Bool) (xs : List A) → first p xs ≡ None → (x : A) → IsIn x xs → p x ≡ false
none-holds p [] e x i = absurd i
none-holds p (y ∷ xs) e x i = by (p y) refl e (none-holds p xs)
  where
    by : (b : Bool) → p y ≡ b → (if b then Some y else first p xs) ≡ None → (first p xs ≡ None → (z : _) → IsIn z xs → p z ≡ false) → p x ≡ false
    by true f g more = absurd cc
    by false f g more = elim i [ inl is ↦ ap p is ∙ f | inr rest ↦ more g x rest ]

left-true : (a b : Bool) → a ≡ true → (a || b) ≡ true
left-true true b e = refl
left-true false b e = absurd (false≢true e)

right-true : (a b : Bool) → b ≡ true → (a || b) ≡ true
right-true true b e = refl
right-true false b e = e

and-false : (a b : Bool) → (a && b) ≡ false → a ≡ true → b ≡ false
and-false true b e f = e
and-false false b e f = absurd (false≢true f)

one-only : (os : List ℕ) → (length os == 0) ≡ false → nat_lt 1 (length os) ≡ false → is_some (the_only os) ≡ true
one-only [] e f = absurd (true≢false e)
one-only (o ∷ []) e f = refl
one-only (o ∷ p ∷ os) e f =
    let more : 1 < length (o ∷ p ∷ os) = omega arith in
    absurd (true≢false (sym (lt-ltb 1 (length (o ∷ p ∷ os)) more) ∙ f))

net-known : (f : Fact) (n : Scoped) → net_fact f ≡ Some n → f ≡ IsNet n
net-known (IsNet a) n e = ap (λ y. IsNet y) (some-same a n e)
net-known f n e = absurd cc

same-switch : (v w : PowerSwitch) → MakesSwitch v ≡ MakesSwitch w → v ≡ w
same-switch v w e = cc

switch-known : (f : Fact) (w : PowerSwitch) → network_fact f ≡ Some (MakesSwitch w) → (port : Name) × (f ≡ IsSwitch w port)
switch-known (IsSwitch v port) w e = (port, ap (λ x. IsSwitch x port) (same-switch v w (some-same _ _ e)))
switch-known f w e = absurd cc

module _ (m : Made) (inputs : All (HasInput (nets m)) (facts m)) (driven : first_of (undriven (asked m)) ≡ None) (single : first_of (two_sources (asked m)) ≡ None) where
  net-made : (n : Scoped) → IsIn n (nets m) → IsIn (MakesNet n) (network m)
  net-made n i =
      let fact = of-some net_fact n (facts m) i in
      in-some network_fact (IsNet n) (MakesNet n) (facts m) (subst (λ f. IsIn f (facts m)) (net-known fact.0 n fact.2) fact.1) refl

  net-origin-there : (n : Scoped) → IsIn n (nets m) → is_used_net (network m) (resolved m) (set_list m) n ≡ true → is_some (origin_of (network m) (supply_count m) (NetAt n)) ≡ true
  net-origin-there n i used =
      let made = net-made n i in
      let place : IsIn (SupplyMade (NetAt n)) (some_of made_by (network m)) = in-some made_by (MakesNet n) (SupplyMade (NetAt n)) (network m) made refl in
      let some = none-holds (is_undriven (asked m)) (some_of made_by (network m)) driven (SupplyMade (NetAt n)) place in
      let is : is_used (network m) (resolved m) (set_list m) (listed_supplies m) (NetAt n) ≡ true =
      left-true (is_used_net (network m) (resolved m) (set_list m) n) (list_any (same_supply (NetAt n)) (listed_supplies m)) used in
      let not_none = and-false (is_used (network m) (resolved m) (set_list m) (listed_supplies m) (NetAt n)) (origin_count (asked m) (NetAt n) == 0) some is in
      let at : IsIn n (some_of net_made (network m)) = in-some net_made (MakesNet n) n (network m) made refl in
      let not_two = none-holds (λ a. nat_lt 1 (origin_count (asked m) (NetAt a))) (some_of net_made (network m)) single n at in
      one-only (origins_of (network m) (supply_count m) (NetAt n)) not_none not_two

  -- the net of a switch's input is used, and so has one origin
  pub input-origin : (w : PowerSwitch) → IsIn (MakesSwitch w) (network m) → is_some (origin_of (network m) (supply_count m) (NetAt w.input)) ≡ true
  input-origin w i =
      let fact = of-some network_fact (MakesSwitch w) (facts m) i in
      let is = switch-known fact.0 w fact.2 in
      let among : IsIn w.input (nets m) = subst (λ f. HasInput (nets m) f) is.1 (inputs fact.0 fact.1) in
      net-origin-there w.input among
      (right-true (list_any (λ x. is_used_set (resolved m) x.0 && is_function w.input x.1) (numbered 0 (set_list m))) (list_any (is_input_net w.input) (network m))
      (any-in (is_input_net w.input) (MakesSwitch w) (network m) i (scoped-self w.input)))
