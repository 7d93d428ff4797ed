-- A supply that is on has the state of its root.
use Rattle.std.proofs.Common.{◌≡◌, ◌⊎◌, ◌<◌, ◌+◌, ◌==◌, ℕ, zero, suc, Bool, true, false, not, ◌&&◌, ◌||◌, List, [], ◌∷◌, length, map, Option, Some, None, inl, inr, refl, sym, subst, ap, ◌∙◌, arith}
use Rattle.std.specs.Prelude.{slice_get, is_some}
use Rattle.std.specs.List.{list_any}
use Rattle.std.specs.Option.{option_map, option_map_or}
use Rattle.std.proofs.lemmas.Bool.{false≢true, true≢false, cases_lt, and_from, eq-eqb}
use Rattle.std.proofs.lemmas.Option.{slice_get-map, slice_get_within, slice_get_past, get_or_from_slice_get}
use Rattle.std.proofs.lemmas.List.Elements.{All-get_or}
use Rattle.lp_tern.specs.declared.tern.Tern.{Tern}
use Rattle.lp_tern.specs.declared.tern.Tern.TheVariants.{Zero, One, X}
use Rattle.lp_tern.specs.declared.supply.SupplyState.{SupplyState}
use Rattle.lp_tern.specs.declared.supply.SupplyState.TheVariants.{On, Off, Unknown}
use Rattle.lp_tern.specs.Values.{choose_supply_of}
use Rattle.lp_model.specs.declared.intent.ScopedName.{ScopedName}
use Rattle.lp_model.specs.declared.ids.OriginId.{OriginId}
use Rattle.lp_model.specs.declared.supply.OriginKind.{OriginKind}
use Rattle.lp_model.specs.declared.supply.OriginKind.TheVariants.{Port, Switch}
use Rattle.lp_model.specs.declared.supply.Origin as model
use Rattle.lp_model.specs.declared.supply.SetOrigins.{SetOrigins}
use Rattle.lp_model.specs.declared.supply.Supplies.{Supplies}
use Rattle.lp_rows.specs.Network.{IsNetwork, IsSetOf, AreOrigins, input_by, input_at, input_of, root_of, ends_at_port, states_by, states_at, is_some_state, is_ground, has_part}
use Rattle.lp_spec_design.specs.Graph.{numbered}
use Rattle.lp_spec_design.specs.Winners.{IsIn}
use Rattle.lp_spec_design.specs.Intents.{Origin, FromPort, FromSwitch}
use Rattle.lp_spec_design.specs.Settled.{Assignment, Event, Of, at, sensed, state_in, state_of, origin_equation}
use Rattle.lp_spec_design.proofs.Members.{any-in, in-map}
use Rattle.lp_spec_network.specs.Views.{kind_view}
use Rattle.lp_spec_realises.specs.Projects.{Project, numbered_node, network_of, design_of}
use Rattle.lp_spec_faults.specs.Lines.{Line, HasFirst, first_of}
use Rattle.lp_spec_faults.specs.Supplies.{has_function, no_states, declared_by, is_root_of_switch, lacks_states}
use Rattle.lp_spec_faults.proofs.Loops.{has_first}
use Rattle.lp_spec_settling.specs.Settling.{Settles}
use Rattle.lp_spec_design.specs.Registers.{States}
use Rattle.lp_spec_design.specs.Runs.{equation_in}
use Rattle.lp_spec_realises.specs.Surroundings.{IsWithinRows}
use Rattle.lp_spec_voltages.specs.Voltages.{IsFedWithin, has_states}

-- a switch is on only where its input is
choose-on : (c : Tern) (x : SupplyState) (v : ℕ) → choose_supply_of c x Off ≡ On v → x ≡ On v
choose-on One x v e = e
choose-on Zero x v e = cc
choose-on X (On w) v e = cc
choose-on X Off v e = cc
choose-on X Unknown v e = cc

abbrev viewed : Project → Option model.Origin → Option Origin
viewed p found = option_map (λ (o : model.Origin). kind_view (numbered_node p.structure) o.kind) found

-- ---- the network alone

-- the root is a port
pub root-port : (s : Supplies) → IsNetwork s → (o : ℕ) → o < length s.origins → (root_of s o < length s.origins) × (input_of s (root_of s o) ≡ None)
root-port s network o within = along (length s.origins) o within (network.ends o within)
  where
    along : (k o : ℕ) → o < length s.origins → ends_at_port s k o ≡ true → (root_of s o < length s.origins) × (input_of s (root_of s o) ≡ None)
    along zero o within ends = absurd (false≢true ends)
    along (suc k) o within ends = via (input_of s o) refl ends (along k)
      where
        via : (found : Option ℕ) → input_of s o ≡ found → option_map_or (ends_at_port s k) found true ≡ true
            → ((i : ℕ) → i < length s.origins → ends_at_port s k i ≡ true → (root_of s i < length s.origins) × (input_of s (root_of s i) ≡ None))
            → (root_of s o < length s.origins) × (input_of s (root_of s o) ≡ None)
        via None is e more =
            let own : root_of s o ≡ o = network.port_roots o within is in
            (subst (λ r. r < length s.origins) (sym own) within, ap (input_of s) own ∙ is)
        via (Some i) is e more =
            let far = more i (network.inputs o i is) e in
            let same : root_of s o ≡ root_of s i = network.switch_roots o i is in
            (subst (λ r. r < length s.origins) (sym same) far.0, ap (input_of s) same ∙ far.1)

-- ---- what is on in an event

-- an origin of definitions, by that of the state table
origin-is : (p : Project) (o : ℕ) (found : Option model.Origin) → slice_get p.supplies.origins o ≡ found → slice_get (network_of p).origins o ≡ viewed p found
origin-is p o found is = slice_get-map (λ (x : model.Origin). kind_view (numbered_node p.structure) x.kind) p.supplies.origins o ∙ ap (viewed p) is

-- what settles is fed
pub settled-fed : (p : Project) (ev : Event) (s : States) (A : Assignment) → IsNetwork p.supplies → IsWithinRows p ev
    → Settles (equation_in (design_of p) ev s) A → IsFedWithin p ev A
settled-fed p ev s A network within settles = record {
  network = network;
  within = within;
  ports = state-is (Some FromPort);
  switches = λ o input control high v is on. choose-on (sensed high (at A control)) (state_of A input) v (sym (state-is (Some (FromSwitch input control high)) o is) ∙ on);
  others = state-is None;
}
  where
    state-is : (found : Option Origin) (o : ℕ) → slice_get (network_of p).origins o ≡ found → state_of A o ≡ origin_equation ev A o found
    state-is found o is = ap state_in (settles (Of o)) ∙ ap (origin_equation ev A o) is

module _ (p : Project) (ev : Event) (A : Assignment) (h : IsFedWithin p ev A) where
  pub on-within : (o v : ℕ) → state_of A o ≡ On v → o < length p.supplies.origins
  on-within o v on = elim (cases_lt o (length p.supplies.origins)) [ inl within ↦ within | inr past ↦ absurd (nothing (slice_get_past p.supplies.origins o past)) ]
    where
      nothing : slice_get p.supplies.origins o ≡ None → ⊥
      nothing none = let unknown : state_of A o ≡ Unknown = h.others o (origin-is p o None none) in absurd cc

  pub input-on : (o i v : ℕ) → input_of p.supplies o ≡ Some i → state_of A o ≡ On v → state_of A i ≡ On v
  input-on o i v fed on = by (slice_get p.supplies.origins o) refl fed
    where
      kind : (k : OriginKind) → slice_get (network_of p).origins o ≡ Some (kind_view (numbered_node p.structure) k) → input_by k ≡ Some i → state_of A i ≡ On v
      kind (Port states) e f = absurd cc
      kind (Switch input control high) e f =
          let is : input.0 ≡ i = cc in
          ap (state_of A) (sym is) ∙ h.switches o input.0 (numbered_node p.structure control.0) high v e on

      by : (found : Option model.Origin) → slice_get p.supplies.origins o ≡ found → input_at found ≡ Some i → state_of A i ≡ On v
      by None is e = absurd cc
      by (Some origin) is e = kind origin.kind (origin-is p o (Some origin) is) e

  -- a port has the state that comes from outside
  pub port-on : (o v : ℕ) → input_of p.supplies o ≡ None → state_of A o ≡ On v → ev.supplies o ≡ On v
  port-on o v unfed on = by (slice_get p.supplies.origins o) refl unfed
    where
      kind : (k : OriginKind) → slice_get (network_of p).origins o ≡ Some (kind_view (numbered_node p.structure) k) → input_by k ≡ None → ev.supplies o ≡ On v
      kind (Port states) e f = sym (h.ports o e) ∙ on
      kind (Switch input control high) e f = absurd cc

      by : (found : Option model.Origin) → slice_get p.supplies.origins o ≡ found → input_at found ≡ None → ev.supplies o ≡ On v
      by None is e = let unknown : state_of A o ≡ Unknown = h.others o (origin-is p o None is) in absurd cc
      by (Some origin) is e = kind origin.kind (origin-is p o (Some origin) is) e

  on-along : (k o v : ℕ) → ends_at_port p.supplies k o ≡ true → state_of A o ≡ On v → state_of A (root_of p.supplies o) ≡ On v
  on-along zero o v ends on = absurd (false≢true ends)
  on-along (suc k) o v ends on = via (input_of p.supplies o) refl ends (on-along k)
    where
      via : (found : Option ℕ) → input_of p.supplies o ≡ found → option_map_or (ends_at_port p.supplies k) found true ≡ true
          → ((i w : ℕ) → ends_at_port p.supplies k i ≡ true → state_of A i ≡ On w → state_of A (root_of p.supplies i) ≡ On w)
          → state_of A (root_of p.supplies o) ≡ On v
      via None is e more = ap (state_of A) (h.network.port_roots o (on-within o v on) is) ∙ on
      via (Some i) is e more = ap (state_of A) (h.network.switch_roots o i is) ∙ more i v e (input-on o i v is on)

  pub on-root : (o v : ℕ) → state_of A o ≡ On v → state_of A (root_of p.supplies o) ≡ On v
  on-root o v on = on-along (length p.supplies.origins) o v (h.network.ends o (on-within o v on)) on

-- ---- ports that have states

-- a line without a fault: its test holds at no place
pub no-fault : {T : Type 0} (l : Line T) → first_of l ≡ None → list_any l.test l.places ≡ false
no-fault l e = subst (HasFirst l) e (has_first l)

-- a test that holds of none of a list
pub none-in : {T : Type 0} (test : T → Bool) (x : T) (xs : List T) → list_any test xs ≡ false → IsIn x xs → test x ≡ false
none-in test x xs none among = by (test x) refl
  where
    by : (b : Bool) → test x ≡ b → b ≡ false
    by false e = refl
    by true e = absurd (true≢false (sym (any-in test x xs among e) ∙ none))

-- what stands at a place
pub slice-in : {T : Type 0} (xs : List T) (k : ℕ) (x : T) → slice_get xs k ≡ Some x → IsIn x xs
slice-in [] k x e = absurd cc
slice-in (y ∷ xs) zero x e = let is : y ≡ x = cc in inl (sym is)
slice-in (y ∷ xs) (suc k) x e = inr (slice-in xs k x e)

pub at-place : {T : Type 0} (xs : List T) (k : ℕ) → k < length xs → (x : T) × (slice_get xs k ≡ Some x)
at-place [] k within = absurd (omega arith)
at-place (y ∷ xs) zero within = (y, refl)
at-place (y ∷ xs) (suc k) within = at-place xs k (omega arith)

pub numbered-in : {T : Type 0} (k : ℕ) (xs : List T) (i n : ℕ) (x : T) → n ≡ i + k → slice_get xs i ≡ Some x → IsIn (n, x) (numbered k xs)
numbered-in k [] i n x e at = absurd cc
numbered-in k (y ∷ xs) zero n x e at =
    let same : n ≡ k = omega arith in
    let is : x ≡ y = cc in
    inl (λ j. (same j, is j))
numbered-in k (y ∷ xs) (suc i) n x e at = let next : n ≡ i + (k + 1) = omega arith in inr (numbered-in (k + 1) xs i n x next at)

pub at-number : {T : Type 0} (k : ℕ) (xs : List T) (n : ℕ) (x : T) → IsIn (n, x) (numbered k xs) → (i : ℕ) × (n ≡ i + k) × (slice_get xs i ≡ Some x)
at-number k [] n x among = absurd among
at-number k (y ∷ xs) n x among =
    elim among [
      | inl is ↦ (let same : n ≡ k = ap (λ z. z.0) is in (zero, omega arith, sym (ap (λ z. Some z.1) is)))
      | inr rest ↦ (let found = at-number (k + 1) xs n x rest in (suc found.0, omega (arith, found.1), found.2))
    ]

module _ (s : Supplies) (network : IsNetwork s) (none : first_of (no_states s) ≡ None) where
  -- no origin lacks states
  declares : (o : ℕ) → o < length s.origins → lacks_states s o ≡ false
  declares o within =
      let found = at-place s.origins o within in
      none-in (lacks_states s) o (map (λ x. x.0) (numbered 0 s.origins)) (no-fault (no_states s) none)
      (in-map (λ (x : ℕ × model.Origin). x.0) (o, found.0) (numbered 0 s.origins) (numbered-in 0 s.origins o o found.0 (omega arith) found.1))

  -- a port with declared states
  by-kind : (name : ScopedName) (kind : OriginKind) (root : OriginId) (gnd : Bool)
      → declared_by (Some (record { name = name; kind = kind; root = root })) ≡ true → input_by kind ≡ None
      → is_some_state (states_by gnd kind) ≡ true
  by-kind name (Port []) root gnd e unfed = absurd (false≢true e)
  by-kind name (Port (x ∷ xs)) root gnd e unfed = refl
  by-kind name (Switch input control high) root gnd e unfed = absurd cc

  part-by : (gnd : Bool) (o : ℕ) (found : Option model.Origin) → slice_get s.origins o ≡ found → o < length s.origins → declared_by found ≡ true
      → input_at found ≡ None → is_some_state (states_at gnd found) ≡ true
  part-by gnd o None is within e unfed = let there = at-place s.origins o within in absurd cc
  part-by gnd o (Some x) is within e unfed = by-kind x.name x.kind x.root gnd e unfed

  is-declared : (a b : Bool) → (not a && b) ≡ false → b ≡ true → a ≡ true
  is-declared true b e f = refl
  is-declared false b e f = absurd (false≢true (sym e ∙ f))

  either : (a b : Bool) → (a ≡ true) ⊎ (b ≡ true) → (a || b) ≡ true
  either true b h = refl
  either false b h = elim h [ inl e ↦ absurd (false≢true e) | inr e ↦ e ]

  port-part : (o : ℕ) → o < length s.origins → input_of s o ≡ None
      → (has_function (λ set. set.power.0 == o) s ≡ true) ⊎ (is_root_of_switch s o ≡ true) → has_part s o ≡ true
  port-part o within unfed asked =
      part-by (is_ground s o) o (slice_get s.origins o) refl within
      (is-declared (declared_by (slice_get s.origins o)) _ (declares o within) (either (has_function (λ set. set.power.0 == o) s) (is_root_of_switch s o) asked)) unfed

  -- the root of a switch
  feeds : (o i : ℕ) → o < length s.origins → input_of s o ≡ Some i → is_root_of_switch s (root_of s o) ≡ true
  feeds o i within fed =
      let found = at-place s.origins o within in
      any-in (λ (x : ℕ × model.Origin). is_some (input_of s x.0) && (root_of s x.0 == root_of s o)) (o, found.0) (numbered 0 s.origins)
      (numbered-in 0 s.origins o o found.0 (omega arith) found.1)
      (and_from (is_some (input_of s o)) (root_of s o == root_of s o) (ap is_some fed) (eq-eqb (root_of s o) (root_of s o) refl))

  fed-within : (o i : ℕ) → input_of s o ≡ Some i → o < length s.origins
  fed-within o i fed = elim (cases_lt o (length s.origins)) [ inl within ↦ within | inr past ↦ absurd (nothing (slice_get_past s.origins o past)) ]
    where
      nothing : slice_get s.origins o ≡ None → ⊥
      nothing gone = let missing : input_of s o ≡ None = ap input_at gone in cc

  switch-states : (o i : ℕ) → input_of s o ≡ Some i → has_states s o ≡ true
  switch-states o i fed =
      let within = fed-within o i fed in
      let root = root-port s network o within in
      port-part (root_of s o) root.0 root.1 (inr (feeds o i within fed))

  pub input-states : (o i : ℕ) → input_of s o ≡ Some i → has_states s i ≡ true
  input-states o i fed = ap (has_part s) (sym (network.switch_roots o i fed)) ∙ switch-states o i fed

  -- the functions of a set are origins
  functions : (k : ℕ) (set : SetOrigins) → slice_get s.sets k ≡ Some (Some set) → AreOrigins (length s.origins) set
  functions k set is =
      let found = All-get_or (IsSetOf (length s.origins)) s.sets k (Some set) (slice_get_within s.sets k (Some set) is) network.sets in
      subst (IsSetOf (length s.origins)) (get_or_from_slice_get s.sets k (Some set) (Some set) is) found

  pub power-states : (k : ℕ) (set : SetOrigins) → slice_get s.sets k ≡ Some (Some set) → has_states s set.power.0 ≡ true
  power-states k set is = by (input_of s set.power.0) refl
    where
      within : set.power.0 < length s.origins
      within = (functions k set is).power

      asked : has_function (λ (x : SetOrigins). x.power.0 == set.power.0) s ≡ true
      asked = any-in _ (Some set) s.sets (slice-in s.sets k (Some set) is) (eq-eqb set.power.0 set.power.0 refl)

      by : (found : Option ℕ) → input_of s set.power.0 ≡ found → has_states s set.power.0 ≡ true
      by None unfed = ap (has_part s) (network.port_roots set.power.0 within unfed) ∙ port-part set.power.0 within unfed (inl asked)
      by (Some i) fed = switch-states set.power.0 i fed
