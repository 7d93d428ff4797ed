-- The supply network that a text makes keeps its limits, and inputs lead to ports where no origin comes from itself.
use Rattle.std.proofs.Common.{◌≡◌, ◌⊎◌, ◌≤◌, ◌<◌, ℕ, zero, suc, ◌+◌, ◌^◌, ◌==◌, Bool, true, false, ◌||◌, List, [], ◌∷◌, map, length, Option, Some, None, inl, inr, refl, sym, ap, ◌∙◌, subst, arith}
use Rattle.std.specs.Prelude.{if◌then◌else◌, is_some, nat_lt, slice_get, unwrap_or, option_and_then, count_by, filter, slice_index_or}
use Rattle.std.specs.Prelude as prelude
use Rattle.std.specs.Option.{option_map_or}
use Rattle.std.proofs.lemmas.Bool.{false≢true, true≢false, lt-ltb, cases_lt}
use Rattle.std.proofs.lemmas.List.Sums.{length-filter}
use Rattle.lp_model.specs.declared.intent.DeclaredState.{DeclaredState}
use Rattle.lp_model.specs.declared.intent.RowState.{RowState}
use Rattle.lp_model.specs.declared.intent.ScopedName.{ScopedName}
use Rattle.lp_model.specs.declared.fault.intent.IntentLimit.TheVariants as limits
use Rattle.lp_model.specs.declared.supply.Row.{Row}
use Rattle.lp_model.specs.declared.supply.SetOrigins.{SetOrigins}
use Rattle.lp_model.specs.declared.supply.Supplies.{Supplies}
use Rattle.lp_rows.specs.Network.{IsNetwork, IsRow, IsSetOf, AreOrigins, declared_voltage, listed_voltage, declared_or_ground, is_ground, port_states, states_at, root_of, root_at, input_at, ends_at_port}
use Rattle.lp_rows.specs.Network as network_by_rows
use Rattle.lp_spec_design.specs.Keys.{Name}
use Rattle.lp_spec_design.specs.Netlists.{Structure, first, upward}
use Rattle.lp_spec_design.specs.Graph.{pairs, numbered, some_of, and_more}
use Rattle.lp_spec_design.specs.Winners.{IsIn}
use Rattle.lp_spec_design.proofs.Members.{of-map, of-some, of-filter, of-pairs}
use Rattle.lp_spec_origins.specs.Commands.{Scoped, NetAt, PowerSwitch, Command, MakesPort, MakesSwitch, makes_row}
use Rattle.lp_spec_origins.specs.Origins.{Source, OfPort, OfSwitch, source_in, sources, fed_by, origins_of, the_only, origin_of, input_of, input_by, root_by, root_within}
use Rattle.lp_spec_origins.specs.Groups.{group_of, is_among}
use Rattle.lp_spec_origins.specs.Sets.{SupplySet, net_origin, all_six, set_origins, or_that}
use Rattle.lp_spec_origins.specs.Used.{is_used_set}
use Rattle.lp_spec_faults.specs.Lines.{first_of}
use Rattle.lp_spec_faults.specs.Supplies.{intent_limits, is_over, comes_from, supply_loop}
use Rattle.lp_spec_faults.specs.StateTable.{StateTable, listed_for, first_or_free, by_origins}
use Rattle.lp_spec_intent.specs.Made.{Fact, IsDomain, IsHandle, IsSet, IsPort, IsNet, AreConnected, IsSwitch, IsState, IsTable, IsRow as ListsRow, IsStrategy, IsDriver, IsReceiver, IsInterface, AreCells, Known, Made, facts, StateFact, states, network_fact, network, supply_count}
use Rattle.lp_spec_intent.specs.Lookups.{same_stated, as_stated}
use Rattle.lp_spec_intent.specs.Intent.{resolved, set_list, asked, states_declared, origin_states, row_known, state_table}
use Rattle.lp_spec_intent.proofs.Places.{some-same}
use Rattle.lp_spec_resolved.specs.Supplies.{origin_made, bare_supplies, row_made, supplies_made}
use Rattle.lp_spec_resolved.proofs.Facts.{All}
use Rattle.lp_spec_resolved.proofs.Origins.{slice-numbered, slice-in}
use Rattle.lp_spec_resolved.proofs.Named.{slice-none}
use Rattle.lp_spec_intended.proofs.Voltages.{IsLow, states-low}
use Rattle.lp_spec_intended.proofs.Ends.{comes, stops, all-end}

-- ---- lists

all-of : {A : Type 0} (P : A → Type 0) (xs : List A) → ((x : A) → IsIn x xs → P x) → prelude.All P xs
all-of P [] h k d less = absurd (omega (arith, less))
all-of P (x ∷ xs) h zero d less = h x (inl refl)
all-of P (x ∷ xs) h (suc k) d less = all-of P xs (λ y i. h y (inr i)) k d (omega (arith, less))

length-map : {A B : Type 0} (f : A → B) (xs : List A) → length (map f xs) ≡ length xs
length-map f [] = refl
length-map f (x ∷ xs) = let rest = length-map f xs in omega (arith, rest)

length-numbered : {A : Type 0} (k : ℕ) (xs : List A) → length (numbered k xs) ≡ length xs
length-numbered k [] = refl
length-numbered k (x ∷ xs) = let rest = length-numbered (k + 1) xs in omega (arith, rest)

length-upward : (n k : ℕ) → length (upward n k) ≡ n
length-upward zero k = refl
length-upward (suc n) k = let rest = length-upward n (k + 1) in omega (arith, rest)

numbered-below : {A : Type 0} (k : ℕ) (z : ℕ × A) (xs : List A) → IsIn z (numbered k xs) → z.0 < k + length xs
numbered-below k z [] i = absurd i
numbered-below k z (x ∷ xs) (inl is) = let same = ap (λ y. y.0) is in omega (arith, same)
numbered-below k z (x ∷ xs) (inr i) = let rest = numbered-below (k + 1) z xs i in omega (arith, rest)

in-numbered : {A : Type 0} (j k : ℕ) (xs : List A) → k < length xs → (x : A) × IsIn (k + j, x) (numbered j xs)
in-numbered j k [] less = absurd (omega (arith, less))
in-numbered j zero (x ∷ xs) less = let same : 0 + j ≡ j = omega arith in (x, inl (ap (λ n. (n, x)) same))
in-numbered j (suc k) (x ∷ xs) less =
    let rest = in-numbered (j + 1) k xs (omega (arith, less)) in
    let same : k + (j + 1) ≡ suc k + j = omega arith in
    (rest.0, inr (subst (λ n. IsIn (n, rest.0) (numbered (j + 1) xs)) same rest.1))

none-holds : {A : Type 0} (p : A → Bool) (xs : List A) → first p xs ≡ None → (x : A) → IsIn x xs → p x ≡ false
none-holds p [] e x i = absurd i
none-holds p (y ∷ xs) e x i = by (p y) refl e (none-holds p xs)
  where
    by : (b : Bool) → p y ≡ b → (if b then Some y else first p xs) ≡ None → (first p xs ≡ None → (z : _) → IsIn z xs → p z ≡ false) → p x ≡ false
    by true f g more = absurd cc
    by false f g more = elim i [ inl is ↦ ap p is ∙ f | inr rest ↦ more g x rest ]

not-less : (a b : ℕ) → nat_lt a b ≡ false → b ≤ a
not-less a b e = elim (cases_lt a b) [ inl less ↦ absurd (true≢false (sym (lt-ltb a b less) ∙ e)) | inr more ↦ more ]

-- ---- numbers of origins

only-in : (os : List ℕ) (o : ℕ) → the_only os ≡ Some o → IsIn o os
only-in [] o e = absurd cc
only-in (p ∷ []) o e = inl (sym (some-same p o e))
only-in (p ∷ q ∷ os) o e = absurd cc

module _ (s : Structure) (name : Scoped → ScopedName) (m : Made)
    (input_there : (w : PowerSwitch) → IsIn (MakesSwitch w) (network m) → is_some (origin_of (network m) (supply_count m) (NetAt w.input)) ≡ true) where
  abbrev src : List Source
  src = sources (network m)

  abbrev count : ℕ
  count = length src

  abbrev S : Supplies
  S = supplies_made s name m

  abbrev next : ℕ → Option ℕ
  next o = input_of (network m) (supply_count m) o

  origins-count : length S.origins ≡ count
  origins-count = length-map (origin_made s name m) (numbered 0 src) ∙ length-numbered 0 src

  origin-below : (n : Scoped) (i : ℕ) → origin_of (network m) (supply_count m) (NetAt n) ≡ Some i → i < count
  origin-below n i e =
      let member = only-in (origins_of (network m) (supply_count m) (NetAt n)) i e in
      let among = λ (x : ℕ × Source). is_among (fed_by x.1) (group_of (network m) (supply_count m) (NetAt n)) in
      let found = of-map (λ (x : ℕ × Source). x.0) i (filter among (numbered 0 src)) member in
      let less = numbered-below 0 found.0 src (of-filter among found.0 (numbered 0 src) found.1).0 in
      let same = found.2 in
      omega (arith, less, same)

  input-inside : (o i : ℕ) → next o ≡ Some i → i < count
  input-inside o i e = by (slice_get src o) e
    where
      by : (x : Option Source) → input_by (network m) (supply_count m) x ≡ Some i → i < count
      by None f = absurd cc
      by (Some (OfPort p)) f = absurd cc
      by (Some (OfSwitch w)) f = origin-below w.input i f

  -- ---- what stands at a number

  port-is-none : (scope : _) (n : _) (input : Bool) (w : PowerSwitch) → source_in (MakesPort (record { scope = scope; name = n }) input) ≡ Some (OfSwitch w) → ⊥
  port-is-none [] n true w e = cc
  port-is-none [] n false w e = cc
  port-is-none (x ∷ p) n input w e = cc

  switch-of : (d : Command) (w : PowerSwitch) → source_in d ≡ Some (OfSwitch w) → d ≡ MakesSwitch w
  switch-of (MakesSwitch v) w e = cc
  switch-of (MakesPort p input) w e = absurd (port-is-none p.scope p.name input w e)
  switch-of d w e = absurd cc

  is-there : (o : Option ℕ) → is_some o ≡ true → (i : ℕ) × (o ≡ Some i)
  is-there None e = absurd (false≢true e)
  is-there (Some i) e = (i, refl)

  -- a switch has an input
  switch-input : (o : ℕ) (w : PowerSwitch) → slice_get src o ≡ Some (OfSwitch w) → (i : ℕ) × (next o ≡ Some i)
  switch-input o w e =
      let d = of-some source_in (OfSwitch w) (network m) (slice-in src o (OfSwitch w) e) in
      let made = subst (λ x. IsIn x (network m)) (switch-of d.0 w d.2) d.1 in
      let found = is-there (origin_of (network m) (supply_count m) (NetAt w.input)) (input_there w made) in
      (found.0, ap (input_by (network m) (supply_count m)) e ∙ found.1)

  plus-none : (o : ℕ) → o + 0 ≡ o
  plus-none o = omega arith

  at-some : (o : ℕ) (x : Source) → slice_get src o ≡ Some x → slice_get S.origins o ≡ Some (origin_made s name m (o, x))
  at-some o x e = slice-numbered (origin_made s name m) 0 o src x e ∙ ap (λ k. Some (origin_made s name m (k, x))) (plus-none o)

  at-none : (o : ℕ) → slice_get src o ≡ None → slice_get S.origins o ≡ None
  at-none o e = slice-none (origin_made s name m) 0 o src e

  -- the inputs are those of the commands
  inputs-are : (o : ℕ) → network_by_rows.input_of S o ≡ next o
  inputs-are o = by (slice_get src o) refl
    where
      by : (x : Option Source) → slice_get src o ≡ x → network_by_rows.input_of S o ≡ next o
      by None e = ap input_at (at-none o e) ∙ sym (ap (input_by (network m) (supply_count m)) e)
      by (Some (OfPort p)) e = ap input_at (at-some o (OfPort p) e) ∙ sym (ap (input_by (network m) (supply_count m)) e)
      by (Some (OfSwitch w)) e =
          let i = switch-input o w e in
          ap input_at (at-some o (OfSwitch w) e) ∙ (ap (λ q. Some (unwrap_or q 0)) i.1 ∙ sym i.1)

  ends-are : (steps o : ℕ) → ends_at_port S steps o ≡ stops next steps o
  ends-are zero o = refl
  ends-are (suc steps) o = ap (λ q. option_map_or (ends_at_port S steps) q true) (inputs-are o) ∙ by (next o) (λ i. ends-are steps i)
    where
      by : (q : Option ℕ) → ((i : ℕ) → ends_at_port S steps i ≡ stops next steps i) → option_map_or (ends_at_port S steps) q true ≡ option_map_or (stops next steps) q true
      by None on = refl
      by (Some i) on = on i

  -- ---- roots

  abbrev rooted : ℕ → ℕ → Option ℕ
  rooted k o = root_within (network m) (supply_count m) k o

  abbrev IsRootedAs : ℕ → ℕ → ℕ → Type 0
  IsRootedAs k o r = (j : ℕ) → k ≤ j → rooted j o ≡ Some r

  port-rooted : (o : ℕ) (p : Scoped) → slice_get src o ≡ Some (OfPort p) → (j : ℕ) → 1 ≤ j → rooted j o ≡ Some o
  port-rooted o p e zero less = absurd (omega (arith, less))
  port-rooted o p e (suc j) less = ap (λ x. root_by o x (option_and_then (λ i. rooted j i) (next o))) e

  switch-rooted : (o i : ℕ) (w : PowerSwitch) → slice_get src o ≡ Some (OfSwitch w) → next o ≡ Some i → (j : ℕ) → rooted (suc j) o ≡ rooted j i
  switch-rooted o i w e f j =
      ap (λ x. root_by o x (option_and_then (λ k. rooted j k) (next o))) e ∙ ap (λ q. option_and_then (λ k. rooted j k) q) f

  slice-there : {A : Type 0} (xs : List A) (k : ℕ) → k < length xs → (x : A) × (slice_get xs k ≡ Some x)
  slice-there [] k h = absurd (omega (arith, h))
  slice-there (x ∷ xs) zero h = (x, refl)
  slice-there (x ∷ xs) (suc k) h = slice-there xs k (omega (arith, h))

  stops-on : (k o i : ℕ) → next o ≡ Some i → stops next (suc k) o ≡ true → stops next k i ≡ true
  stops-on k o i e f = sym (ap (λ q. option_map_or (stops next k) q true) e) ∙ f

  has-root : (k o : ℕ) → o < count → stops next k o ≡ true → (r : ℕ) × IsRootedAs k o r
  has-root zero o small e = absurd (false≢true e)
  has-root (suc k) o small e = let x = slice-there src o small in by x.0 x.1 (λ i less f. has-root k i less f)
    where
      by : (x : Source) → slice_get src o ≡ Some x → ((i : ℕ) → i < count → stops next k i ≡ true → (r : ℕ) × IsRootedAs k i r) → (r : ℕ) × IsRootedAs (suc k) o r
      by (OfPort p) f on = (o, λ j less. port-rooted o p f j (omega (arith, less)))
      by (OfSwitch w) f on =
          let i = switch-input o w f in
          let r = on i.0 (input-inside o i.0 i.1) (stops-on k o i.0 i.1 e) in
          (r.0, λ j less. further j less i.0 i.1 r.0 r.1)
        where
          further : (j : ℕ) → suc k ≤ j → (i : ℕ) → next o ≡ Some i → (r : ℕ) → IsRootedAs k i r → rooted j o ≡ Some r
          further zero less i g r h = absurd (omega (arith, less))
          further (suc j) less i g r h = switch-rooted o i w f g j ∙ h j (omega (arith, less))

  root-is : (o : ℕ) (x : Source) → slice_get src o ≡ Some x → root_of S o ≡ unwrap_or (rooted count o) o
  root-is o x e = ap (root_at o) (at-some o x e)

  module _ (no_loop : (o : ℕ) → o < count → comes next count o o ≡ false) where
    ended : (o : ℕ) → o < count → stops next count o ≡ true
    ended o small = all-end next count input-inside no_loop o small

    switch-roots-by : (n : ℕ) → n ≡ count → (o i : ℕ) (w : PowerSwitch) → slice_get src o ≡ Some (OfSwitch w) → next o ≡ Some i → o < count → unwrap_or (rooted n o) o ≡ unwrap_or (rooted n i) i
    switch-roots-by zero is o i w e f small = absurd (omega (arith, is, small))
    switch-roots-by (suc n) is o i w e f small =
        let stop : stops next (suc n) o ≡ true = subst (λ k. stops next k o ≡ true) (sym is) (ended o small) in
        let r = has-root n i (input-inside o i f) (stops-on n o i f stop) in
        let mine : rooted (suc n) o ≡ Some r.0 = switch-rooted o i w e f n ∙ r.1 n (omega arith) in
        ap (λ q. unwrap_or q o) mine ∙ sym (ap (λ q. unwrap_or q i) (r.1 (suc n) (omega arith)))

    switch-roots : (o i : ℕ) → network_by_rows.input_of S o ≡ Some i → root_of S o ≡ root_of S i
    switch-roots o i e = by (slice_get src o) refl
      where
        f : next o ≡ Some i
        f = sym (inputs-are o) ∙ e

        by : (x : Option Source) → slice_get src o ≡ x → root_of S o ≡ root_of S i
        by None g = let none : None ≡ Some i = sym (ap (input_by (network m) (supply_count m)) g) ∙ f in absurd cc
        by (Some (OfPort p)) g = let none : None ≡ Some i = sym (ap (input_by (network m) (supply_count m)) g) ∙ f in absurd cc
        by (Some (OfSwitch w)) g =
            let small = slice-less src o (OfSwitch w) g in
            let x = slice-there src i (input-inside o i f) in
            root-is o (OfSwitch w) g ∙ (switch-roots-by count refl o i w g f small ∙ sym (root-is i x.0 x.1))
          where
            slice-less : {A : Type 0} (xs : List A) (k : ℕ) (x : A) → slice_get xs k ≡ Some x → k < length xs
            slice-less [] k x e = absurd cc
            slice-less (y ∷ xs) zero x e = omega arith
            slice-less (y ∷ xs) (suc k) x e = let less = slice-less xs k x e in omega (arith, less)

  port-roots : (o : ℕ) → o < count → network_by_rows.input_of S o ≡ None → root_of S o ≡ o
  port-roots o small e = let x = slice-there src o small in by x.0 x.1
    where
      by : (x : Source) → slice_get src o ≡ Some x → root_of S o ≡ o
      by (OfPort p) f = root-is o (OfPort p) f ∙ ap (λ q. unwrap_or q o) (port-rooted o p f count (omega (arith, small)))
      by (OfSwitch w) f =
          let i = switch-input o w f in
          let none : None ≡ Some i.0 = sym e ∙ (inputs-are o ∙ i.1) in
          absurd cc

  -- ---- no origin comes from itself

  comes-are : (steps t o : ℕ) → comes_from (network m) (supply_count m) steps t o ≡ comes next steps t o
  comes-are zero t o = refl
  comes-are (suc steps) t o = by (next o) refl (λ i. comes-are steps t i)
    where
      by : (q : Option ℕ) → next o ≡ q → ((i : ℕ) → comes_from (network m) (supply_count m) steps t i ≡ comes next steps t i)
          → comes_from (network m) (supply_count m) (suc steps) t o ≡ comes next (suc steps) t o
      by None e on = let none : comes next (suc steps) t o ≡ false = ap (λ q. option_map_or (λ i. (i == t) || comes next steps t i) q false) e in let same : comes_from (network m) (supply_count m) (suc steps) t o ≡ false = cc in same ∙ sym none
      by (Some i) e on =
          let left : comes_from (network m) (supply_count m) (suc steps) t o ≡ ((i == t) || comes_from (network m) (supply_count m) steps t i) = cc in
          left ∙ (ap (λ b. (i == t) || b) (on i) ∙ sym (ap (λ q. option_map_or (λ j. (j == t) || comes next steps t j) q false) e))

  no-loop-from : first_of (supply_loop (asked m)) ≡ None → (o : ℕ) → o < count → comes next count o o ≡ false
  no-loop-from e o small =
      let found = in-numbered 0 o src small in
      let place = in-map-first found.0 found.1 in
      sym (comes-are count o o) ∙ none-holds (λ k. comes_from (network m) (supply_count m) count k k) (map (λ (x : ℕ × Source). x.0) (numbered 0 src)) e o place
    where
      in-map-first : (x : Source) → IsIn (o + 0, x) (numbered 0 src) → IsIn o (map (λ (y : ℕ × Source). y.0) (numbered 0 src))
      in-map-first x i = subst (λ k. IsIn k (map (λ (y : ℕ × Source). y.0) (numbered 0 src))) (plus-none o) (Rattle.lp_spec_design.proofs.Members.in-map (λ (y : ℕ × Source). y.0) (o + 0, x) (numbered 0 src) i)

  -- ---- states and rows

  module _ (low : All IsLow (facts m)) where
    declared-low : (o : ℕ) (x : DeclaredState) → IsIn x (origin_states m o) → declared_voltage x ≤ 10 ^ 12
    declared-low o x i = by (slice_get src o) i
      where
        by : (q : Option Source) → IsIn x (states_declared m q) → declared_voltage x ≤ 10 ^ 12
        by None j = absurd j
        by (Some y) j =
            let found = of-map (λ (z : StateFact). z.state) x (filter (λ (z : StateFact). same_stated z.of (as_stated y)) (states m)) j in
            let member = (of-filter (λ (z : StateFact). same_stated z.of (as_stated y)) found.0 (states m) found.1).0 in
            subst (λ z. declared_voltage z ≤ 10 ^ 12) (sym found.2) (states-low m low found.0 member)

    or-ground-low : (g : Bool) (xs : List DeclaredState) → ((x : DeclaredState) → IsIn x xs → declared_voltage x ≤ 10 ^ 12) → (x : DeclaredState) → IsIn x (declared_or_ground g xs) → declared_voltage x ≤ 10 ^ 12
    or-ground-low true [] h x (inl is) = subst (λ y. declared_voltage y ≤ 10 ^ 12) (sym is) (omega arith)
    or-ground-low true [] h x (inr i) = absurd i
    or-ground-low false [] h x i = absurd i
    or-ground-low g (y ∷ xs) h x i = h x i

    port-low : (o : ℕ) (x : DeclaredState) → IsIn x (port_states S o) → declared_voltage x ≤ 10 ^ 12
    port-low o x i = by (slice_get src o) refl
      where
        by : (q : Option Source) → slice_get src o ≡ q → declared_voltage x ≤ 10 ^ 12
        by None e = absurd (subst (λ y. IsIn x (states_at (is_ground S o) y)) (at-none o e) i)
        by (Some (OfPort p)) e = or-ground-low (is_ground S o) (origin_states m o) (declared-low o) x (subst (λ y. IsIn x (states_at (is_ground S o) y)) (at-some o (OfPort p) e) i)
        by (Some (OfSwitch w)) e = absurd (subst (λ y. IsIn x (states_at (is_ground S o) y)) (at-some o (OfSwitch w) e) i)

    free-low : (xs : List RowState) → ((x : RowState) → IsIn x xs → listed_voltage x ≤ 10 ^ 12) → listed_voltage (first_or_free xs) ≤ 10 ^ 12
    free-low [] h = omega arith
    free-low (x ∷ xs) h = h x (inl refl)

    abbrev T : StateTable
    T = state_table (bare_supplies s name m) m

    listed-low : (xs : List RowState) → ((x : RowState) → IsIn x xs → listed_voltage x ≤ 10 ^ 12) → (o : ℕ) (x : RowState) → IsIn x (listed_for T xs o) → listed_voltage x ≤ 10 ^ 12
    listed-low xs h o x i =
        let found = of-map (λ (c : ℕ × RowState). c.1) x _ i in
        let member = (of-filter _ found.0 (pairs T.columns xs) found.1).0 in
        subst (λ z. listed_voltage z ≤ 10 ^ 12) (sym found.2) (h found.0.1 (of-pairs found.0 T.columns xs member).1)

    row-low : (xs : List RowState) → ((x : RowState) → IsIn x xs → listed_voltage x ≤ 10 ^ 12) → IsRow (length S.origins) (by_origins T xs)
    row-low xs h = record {
      full = length-map (λ o. first_or_free (listed_for T xs o)) (upward (length S.origins) 0) ∙ length-upward (length S.origins) 0;
      voltages = all-of (λ x. listed_voltage x ≤ 1000000000000) (by_origins T xs) (λ x i.
          let found = of-map (λ o. first_or_free (listed_for T xs o)) x (upward (length S.origins) 0) i in
          subst (λ z. listed_voltage z ≤ 10 ^ 12) (sym found.2) (free-low (listed_for T xs found.0) (listed-low xs h found.0)));
    }

    row-of : (k : Known) (n : Name) (ys : List RowState) → k.fact ≡ ListsRow n ys → row_known k ≡ Some (k.command, ys)
    row-of k n ys g = cc

    known-row : (k : Known) (c : ℕ) (xs : List RowState) → IsIn k m.known → row_known k ≡ Some (c, xs) → (x : RowState) → IsIn x xs → listed_voltage x ≤ 10 ^ 12
    known-row k c xs i e = by k.fact refl (low k.fact (Rattle.lp_spec_design.proofs.Members.in-map (λ (y : Known). y.fact) k m.known i))
      where
        by : (f : Fact) → k.fact ≡ f → IsLow k.fact → (x : RowState) → IsIn x xs → listed_voltage x ≤ 10 ^ 12
        by (ListsRow n ys) g h x j =
            let same : ys ≡ xs = ap (λ (p : ℕ × List RowState). p.1) (some-same _ _ (sym (row-of k n ys g) ∙ e)) in
            subst (λ y. IsLow y) g h x (subst (λ zs. IsIn x zs) (sym same) j)
        by f g h x j = absurd cc

    rows-low : (row : Row) → IsIn row S.rows → IsRow (length S.origins) row.states
    rows-low row i =
        let found = of-map (row_made s name m) row (some_of row_known m.known) i in
        let known = of-some row_known found.0 m.known found.1 in
        subst (λ (r : Row). IsRow (length S.origins) r.states) (sym found.2) (row-low found.0.1 (known-row known.0 found.0.0 found.0.1 known.1 known.2))

  -- ---- sets

  six-below : (a b c d e f : Option ℕ) (x : SetOrigins) → ((o : Option ℕ) (i : ℕ) → ((o ≡ a) ⊎ ((o ≡ b) ⊎ ((o ≡ c) ⊎ ((o ≡ d) ⊎ ((o ≡ e) ⊎ (o ≡ f)))))) → o ≡ Some i → i < count) → all_six a b c d e f ≡ Some x → AreOrigins count x
  six-below (Some a) (Some b) (Some c) (Some d) (Some e) (Some f) x h is =
      subst (λ y. AreOrigins count y) (some-same _ x is) (record {
        power = h (Some a) a (inl refl) refl;
        gnd = h (Some b) b (inr (inl refl)) refl;
        nwell = h (Some c) c (inr (inr (inl refl))) refl;
        pwell = h (Some d) d (inr (inr (inr (inl refl)))) refl;
        deepnwell = h (Some e) e (inr (inr (inr (inr (inl refl))))) refl;
        deeppwell = h (Some f) f (inr (inr (inr (inr (inr refl))))) refl;
      })
  six-below _ _ _ _ _ _ x h is = absurd cc

  net-below : (n : Option Scoped) (i : ℕ) → net_origin (network m) (supply_count m) n ≡ Some i → i < count
  net-below None i e = absurd cc
  net-below (Some n) i e = origin-below n i e

  set-below : (x : SupplySet) (y : SetOrigins) → set_origins (network m) (supply_count m) x ≡ Some y → AreOrigins count y
  set-below x y e = six-below _ _ _ _ _ _ y (λ o i which is. elim which [
    | inl a ↦ net-below x.power i (sym a ∙ is)
    | inr r ↦ elim r [
      | inl a ↦ net-below x.gnd i (sym a ∙ is)
      | inr r ↦ elim r [
        | inl a ↦ net-below (or_that x.nwell x.power) i (sym a ∙ is)
        | inr r ↦ elim r [
          | inl a ↦ net-below (or_that x.pwell x.gnd) i (sym a ∙ is)
          | inr r ↦ elim r [
            | inl a ↦ net-below (or_that x.deepnwell x.power) i (sym a ∙ is)
            | inr a ↦ net-below (or_that x.deeppwell x.gnd) i (sym a ∙ is)
          ]
        ]
      ]
    ]
  ]) e

  -- the origins of a set are such, where it has any
  is-set : (o : Option SetOrigins) → ((y : SetOrigins) → o ≡ Some y → AreOrigins count y) → IsSetOf count o
  is-set None h = tt
  is-set (Some y) h = h y refl

  sets-below : (o : Option SetOrigins) → IsIn o S.sets → IsSetOf count o
  sets-below o i =
      let found = of-map (λ (x : ℕ × SupplySet). if is_used_set (resolved m) x.0 then set_origins (network m) (supply_count m) x.1 else None) o (numbered 0 (set_list m)) i in
      subst (λ y. IsSetOf count y) (sym found.2) (by (is_used_set (resolved m) found.0.0) found.0.1)
    where
      by : (b : Bool) (x : SupplySet) → IsSetOf count (if b then set_origins (network m) (supply_count m) x else None)
      by true x = is-set (set_origins (network m) (supply_count m) x) (set-below x)
      by false x = tt

-- ---- limits

abbrev IsWithin : Made → Type 0
IsWithin m = first_of (intent_limits (network m)) ≡ None

module _ (m : Made) (within : IsWithin m) where
  few-origins : length (sources (network m)) ≤ 1024
  few-origins = not-less 1024 (length (sources (network m))) (none-holds (is_over (network m)) (limits.Strategies ∷ limits.Rows ∷ limits.Origins ∷ []) within limits.Origins (inr (inr (inl refl))))

  few-row-commands : count_by makes_row (network m) ≤ 4096
  few-row-commands = not-less 4096 (count_by makes_row (network m)) (none-holds (is_over (network m)) (limits.Strategies ∷ limits.Rows ∷ limits.Origins ∷ []) within limits.Rows (inr (inl refl)))

rows-filtered : (ks : List Known) → length (some_of row_known ks) ≡ length (filter makes_row (some_of network_fact (map (λ (k : Known). k.fact) ks)))
rows-filtered [] = refl
rows-filtered (k ∷ ks) = by k.command k.fact (rows-filtered ks)
  where
    by : (c : ℕ) (f : Fact) → length (some_of row_known ks) ≡ length (filter makes_row (some_of network_fact (map (λ (y : Known). y.fact) ks)))
        → length (and_more (row_known (record { command = c; fact = f })) (some_of row_known ks)) ≡ length (filter makes_row (and_more (network_fact f) (some_of network_fact (map (λ (y : Known). y.fact) ks))))
    by c (IsDomain a xs) e = e
    by c (IsHandle d h j) e = e
    by c (IsSet j n x) e = e
    by c (IsPort a input) e = e
    by c (IsNet a) e = e
    by c (AreConnected a xs) e = e
    by c (IsSwitch w port) e = e
    by c (IsState x n y) e = e
    by c (IsTable a xs) e = e
    by c (ListsRow n xs) e = ap suc e
    by c (IsStrategy n t) e = e
    by c (IsDriver a) e = e
    by c (IsReceiver a) e = e
    by c (IsInterface a) e = e
    by c (AreCells xs ys zs) e = e

rows-counted : (ks : List Known) → length (some_of row_known ks) ≡ count_by makes_row (some_of network_fact (map (λ (k : Known). k.fact) ks))
rows-counted ks = rows-filtered ks ∙ length-filter makes_row (some_of network_fact (map (λ (k : Known). k.fact) ks))

pub makes-network : (s : Structure) (name : Scoped → ScopedName) (m : Made)
    → ((w : PowerSwitch) → IsIn (MakesSwitch w) (network m) → is_some (origin_of (network m) (supply_count m) (NetAt w.input)) ≡ true)
    → All IsLow (facts m) → IsWithin m → first_of (supply_loop (asked m)) ≡ None → IsNetwork (supplies_made s name m)
makes-network s name m input_there low within no_loop =
    let size = origins-count s name m input_there in
    let apart = no-loop-from s name m input_there no_loop in
    record {
      few_origins = subst (λ n. n ≤ 1024) (sym size) (few-origins m within);
      few_rows =
          let rows = length-map (row_made s name m) (some_of row_known m.known) in
          let counted = rows-counted m.known in
          let few = few-row-commands m within in
          omega (arith, rows, counted, few);
      rows = all-of (λ (row : Row). IsRow (length (supplies_made s name m).origins) row.states) (supplies_made s name m).rows (rows-low s name m input_there low);
      sets = all-of (λ o. IsSetOf (length (supplies_made s name m).origins) o) (supplies_made s name m).sets (λ o i. subst (λ n. IsSetOf n o) (sym size) (sets-below s name m input_there o i));
      voltages = λ o. all-of (λ x. declared_voltage x ≤ 1000000000000) (port_states (supplies_made s name m) o) (port-low s name m input_there low o);
      port_roots = λ o less e. port-roots s name m input_there o (subst (λ n. o < n) size less) e;
      switch_roots = λ o i e. switch-roots s name m input_there apart o i e;
      inputs = λ o i e. subst (λ n. i < n) (sym size) (input-inside s name m input_there o i (sym (inputs-are s name m input_there o) ∙ e));
      ends = λ o less.
          subst (λ n. ends_at_port (supplies_made s name m) n o ≡ true) (sym size)
          (ends-are s name m input_there (length (sources (network m))) o ∙ ended s name m input_there apart o (subst (λ n. o < n) size less));
    }
