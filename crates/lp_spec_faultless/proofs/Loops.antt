-- Where the line about loops holds nowhere, what occurs in the equations has an order: each loop of keys passes a net bit.
use Rattle.std.specs.Prelude.{IsTrue, slice_get, filter, flat_map, bytes_eq, ◌&&◌}
use Rattle.std.specs.List.{list_any}
use Rattle.std.specs.Option.{option_map, option_map_or}
use Rattle.std.proofs.Common.{◌≡◌, ◌≤◌, ◌+◌, ℕ, zero, suc, Bool, true, false, List, [], ◌∷◌, ◌++◌, map, length, Option, Some, None, inl, inr, refl, sym, ap, ◌∙◌, subst, arith}
use Rattle.std.proofs.lemmas.Bool.{true≢false, false≢true, cases_lt}
use Rattle.std.proofs.lemmas.List.{length-append}
use Rattle.std.proofs.lemmas.Option.{slice_get-map, slice_get_past}
use Rattle.lp_model.specs.declared.supply.OriginKind.{OriginKind}
use Rattle.lp_model.specs.declared.supply.OriginKind.TheVariants.{Port, Switch}
use Rattle.lp_model.specs.declared.supply.Origin as model
use Rattle.lp_model.specs.NetlistView.{PortView, ModuleView}
use Rattle.lp_rows.specs.Network.{IsNetwork, input_by, input_at, input_of, ends_at_port}
use Rattle.lp_spec_settling.specs.Settling.{has, HasOrder}
use Rattle.lp_spec_settling.proofs.Laws.{has-cases}
use Rattle.lp_spec_design.specs.Keys.{Name, Path, PortBit, Node, Inner, Outer, Fixed, Source, CellPin, SwitchedPin, Environment, From, same_index}
use Rattle.lp_spec_design.specs.Netlists.{Structure, module_at, indices, is_input}
use Rattle.lp_spec_design.specs.Nodes.{inner_nodes, outer_in, nodes_of, DeclaresBits}
use Rattle.lp_spec_design.specs.Graph.{source_of, outside, numbered}
use Rattle.lp_spec_design.specs.Intents.{SupplySet, Origin, FromPort, FromSwitch, Strategy}
use Rattle.lp_spec_design.specs.Chains.{Operator, Clamp, Shift}
use Rattle.lp_spec_design.specs.Settled.{Key, At, Of, set_at, rail_of, operators_of}
use Rattle.lp_spec_design.specs.Domains.{start_rail}
use Rattle.lp_spec_design.specs.Reads.{keys, reads, source_keys, origin_keys, node_keys, some_node_keys, set_keys_of, set_keys, control_keys, operator_keys}
use Rattle.lp_spec_design.specs.Winners.{IsIn}
use Rattle.lp_spec_design.proofs.Members.{in-left, in-right, in-either, in-map, of-map, of-flat}
use Rattle.lp_spec_design.proofs.Sources.{sources_known}
use Rattle.lp_spec_design.proofs.Looped.{head_of, source_by, outer_sources, outer_by, outer-inner}
use Rattle.lp_spec_network.specs.Views.{kind_view}
use Rattle.lp_spec_realises.specs.Projects.{Project, numbered_node, network_of, design_of}
use Rattle.lp_spec_faults.specs.Lines.{first_of}
use Rattle.lp_spec_faults.specs.Readings.{loop}
use Rattle.lp_spec_agreement.proofs.Chains.{in_numbered}
use Rattle.lp_spec_agreement.proofs.Framed.{no_fault}
use Rattle.lp_spec_faultless.specs.Faults.{is_outer, HasControlsInside, loop_steps}
use Rattle.lp_spec_faultless.specs.Laws.{NoLoopHasOrder}
use Rattle.lp_spec_faultless.proofs.Depths.{is_in, has_it, Leads, leads_on, from_no_loop}
use Rattle.lp_spec_faultless.proofs.Found.{comes_round}

-- ---- keys that are outer sides

abbrev NoOuter : List Key → Type 0
NoOuter ks = (n : Name) (i : Option ℕ) → IsIn (At (Outer n i)) ks → ⊥

none_joined : (xs ys : List Key) → NoOuter xs → NoOuter ys → NoOuter (xs ++ ys)
none_joined xs ys one two n i h = elim (in-either (At (Outer n i)) xs ys h) [ inl left ↦ one n i left | inr right ↦ two n i right ]

none_of_supply : (o : ℕ) (rest : List Key) → NoOuter rest → NoOuter (Of o ∷ rest)
none_of_supply o rest none n i (inl is) = absurd cc
none_of_supply o rest none n i (inr h) = none n i h

none_of_set : (o : Option SupplySet) → NoOuter (set_keys_of o)
none_of_set None n i h = h
none_of_set (Some s) n i h = none_of_supply s.power (Of s.gnd ∷ []) (none_of_supply s.gnd [] (λ m j g. g)) n i h

none_of_node : (k : Node) → is_outer k ≡ false → NoOuter (node_keys k)
none_of_node (Fixed b) e n i h = h
none_of_node (Inner m j p) e n i (inl is) = absurd cc
none_of_node (Inner m j p) e n i (inr h) = h
none_of_node (Outer m j) e n i h = true≢false e

module _ (p : Project) (controls : HasControlsInside p) where
  none_of_control : (t : ℕ) (o : Option Strategy) → slice_get p.intent.strategies t ≡ o → NoOuter (control_keys o)
  none_of_control t None e n i h = h
  none_of_control t (Some x) e n i h = by x.control refl n i h
    where
      by : (o : Option Node) → x.control ≡ o → NoOuter (some_node_keys o)
      by None is m j g = g
      by (Some k) is m j g = none_of_node k (controls.strategies t x k e is) m j g

  none_of_operator : (o : Operator) → NoOuter (operator_keys (network_of p) p.intent o)
  none_of_operator (Clamp t s) = none_joined (set_keys (network_of p) (Some s)) (control_keys (slice_get p.intent.strategies t)) (none_of_set (set_at (network_of p) (Some s))) (none_of_control t (slice_get p.intent.strategies t) refl)
  none_of_operator (Shift t a b) = none_joined (set_keys (network_of p) (Some a)) (set_keys (network_of p) (Some b)) (none_of_set (set_at (network_of p) (Some a))) (none_of_set (set_at (network_of p) (Some b)))

  none_of_operators : (os : List Operator) → NoOuter (flat_map (operator_keys (network_of p) p.intent) os)
  none_of_operators os n i h = let found = of-flat (operator_keys (network_of p) p.intent) (At (Outer n i)) os h in none_of_operator found.0 n i found.2

  none_of_origin : (o : ℕ) (x : Option Origin) → slice_get (network_of p).origins o ≡ x → NoOuter (origin_keys x)
  none_of_origin o None e n i h = h
  none_of_origin o (Some FromPort) e n i h = h
  none_of_origin o (Some (FromSwitch input k high)) e n i h = none_of_supply input (node_keys k) (none_of_node k (controls.switches o input k high e)) n i h

-- ---- what the outer side of a bit reads

module _ (s : Structure) (n : Name) (i : Option ℕ) where
  no_cell_outside : (ports : List PortView) (q : Path) (x g : Name) → head_of (map (outside n i) ports) ≡ Some (CellPin q x g) → ⊥
  no_cell_outside [] q x g e = cc
  no_cell_outside (port ∷ ports) q x g e = by (is_input port) refl
    where
      by : (b : Bool) → is_input port ≡ b → ⊥
      by true is = let here : Some Environment ≡ Some (CellPin q x g) = rw is at e in cc
      by false is = let here : Some (From (PortBit [] n i) (Inner n i [])) ≡ Some (CellPin q x g) = rw is at e in cc

  outer_by_cell : (o : Option ModuleView) (q : Path) (x g : Name) → head_of (outer_sources s n i o) ≡ Some (CellPin q x g) → ⊥
  outer_by_cell None q x g e = cc
  outer_by_cell (Some m) q x g e = no_cell_outside (filter (λ (port : PortView). bytes_eq port.name n && list_any (same_index i) (indices port.range)) m.ports) q x g e

  no_cell : (q : Path) (x g : Name) → source_of s (Outer n i) ≡ Some (CellPin q x g) → ⊥
  no_cell q x g e = outer_by_cell (module_at s []) q x g (sym (source_by s (Outer n i) (outer_sources s n i (module_at s [])) (outer_by s n i (module_at s []) refl)) ∙ e)

module _ (p : Project) (controls : HasControlsInside p) where
  none_outside : (n : Name) (i : Option ℕ) → NoOuter (reads (design_of p) (At (Outer n i)))
  none_outside n i = by (source_of p.structure (Outer n i)) refl
    where
      by : (o : Option Source) → source_of p.structure (Outer n i) ≡ o → NoOuter (source_keys (design_of p) (Outer n i) o)
      by None e m j h = h
      by (Some Environment) e m j h = none_of_set (set_at (network_of p) (start_rail p.structure p.intent (Outer n i))) m j h
      by (Some (SwitchedPin q x g)) e m j h = h
      by (Some (CellPin q x g)) e m j h = no_cell p.structure n i q x g e
      by (Some (From w k)) e m j h =
          let ops = operators_of (design_of p) w (rail_of (design_of p) k) in
          let is : k ≡ Inner n i [] = outer-inner p.structure n i w k e in
          none_joined (node_keys k) (flat_map (operator_keys (network_of p) p.intent) ops) (none_of_node k (ap is_outer is)) (none_of_operators p controls ops) m j h

  -- only a net bit reads the outer side of a bit
  by_net_bit : (k : Key) (n : Name) (i : Option ℕ) → IsTrue (has keys (At (Outer n i)) (reads (design_of p) k)) → (m : Name) × (j : Option ℕ) × (q : Path) × (k ≡ At (Inner m j q))
  by_net_bit (At (Inner m j q)) n i r = (m, j, q, refl)
  by_net_bit (At (Outer m j)) n i r = absurd (none_outside m j n i (is_in keys (At (Outer n i)) (reads (design_of p) (At (Outer m j))) r))
  by_net_bit (At (Fixed b)) n i r = absurd (false≢true r)
  by_net_bit (Of o) n i r = absurd (none_of_origin p controls o (slice_get (network_of p).origins o) refl n i (is_in keys (At (Outer n i)) (reads (design_of p) (Of o)) r))

-- ---- the keys that read

abbrev all_keys : Project → List Key
all_keys p = map (λ (k : Node). At k) (nodes_of p.structure) ++ map (λ (o : ℕ × Origin). Of o.0) (numbered 0 (network_of p).origins)

length_map : {A B : Type 0} (f : A → B) (xs : List A) → length (map f xs) ≡ length xs
length_map f [] = refl
length_map f (x ∷ xs) = ap suc (length_map f xs)

length_numbered : {A : Type 0} (k : ℕ) (xs : List A) → length (numbered k xs) ≡ length xs
length_numbered k [] = refl
length_numbered k (x ∷ xs) = ap suc (length_numbered (k + 1) xs)

count : (p : Project) → length (all_keys p) ≡ loop_steps p
count p =
    let nodes = length_map (λ (k : Node). At k) (nodes_of p.structure) in
    let origins = length_map (λ (o : ℕ × Origin). Of o.0) (numbered 0 (network_of p).origins) ∙ length_numbered 0 (network_of p).origins in
    length-append (map (λ (k : Node). At k) (nodes_of p.structure)) (map (λ (o : ℕ × Origin). Of o.0) (numbered 0 (network_of p).origins)) ∙ ap (λ a. a + length (map (λ (o : ℕ × Origin). Of o.0) (numbered 0 (network_of p).origins))) nodes ∙ ap (λ b. length (nodes_of p.structure) + b) origins

module _ (p : Project) (declares : DeclaresBits p.structure) where
  node_known : (k : Node) (x : Source) → source_of p.structure k ≡ Some x → IsIn (At k) (all_keys p)
  node_known k x e = in-left (At k) (map (λ (j : Node). At j) (nodes_of p.structure)) (map (λ (o : ℕ × Origin). Of o.0) (numbered 0 (network_of p).origins)) (in-map (λ (j : Node). At j) k (nodes_of p.structure) (sources_known p.structure declares k x e))

  origin_known : (o : ℕ) (x : Origin) → slice_get (network_of p).origins o ≡ Some x → IsIn (Of o) (all_keys p)
  origin_known o x e = in-right (Of o) (map (λ (j : Node). At j) (nodes_of p.structure)) (map (λ (z : ℕ × Origin). Of z.0) (numbered 0 (network_of p).origins)) (in-map (λ (z : ℕ × Origin). Of z.0) (o, x) (numbered 0 (network_of p).origins) (in_numbered 0 o x (network_of p).origins e o (omega arith)))

  known : (k j : Key) → IsTrue (has keys j (reads (design_of p) k)) → IsTrue (has keys k (all_keys p))
  known (At k) j r = has_it keys (At k) (all_keys p) (by (source_of p.structure k) refl r)
    where
      by : (o : Option Source) → source_of p.structure k ≡ o → IsTrue (has keys j (source_keys (design_of p) k o)) → IsIn (At k) (all_keys p)
      by None e h = absurd (false≢true h)
      by (Some x) e h = node_known k x e
  known (Of o) j r = has_it keys (Of o) (all_keys p) (by (slice_get (network_of p).origins o) refl r)
    where
      by : (x : Option Origin) → slice_get (network_of p).origins o ≡ x → IsTrue (has keys j (origin_keys x)) → IsIn (Of o) (all_keys p)
      by None e h = absurd (false≢true h)
      by (Some x) e h = origin_known o x e

-- ---- loops

no_outer : (n : Name) (i : Option ℕ) (q : Path) (o : Option ModuleView) → IsIn (Inner n i q) (outer_in o) → ⊥
no_outer n i q None h = h
no_outer n i q (Some m) h =
    let port = of-flat (λ (x : PortView). map (λ j. Outer x.name j) (indices x.range)) (Inner n i q) m.ports h in
    let bit = of-map (λ j. Outer port.0.name j) (Inner n i q) (indices port.0.range) port.2 in
    let is : Inner n i q ≡ Outer port.0.name bit.0 = bit.2 in
    absurd cc

module _ (p : Project) (declares : DeclaresBits p.structure) (network : IsNetwork p.supplies) (controls : HasControlsInside p) (none : first_of (loop p (loop_steps p)) ≡ None) where
  abbrev on : Key → List Key
  on = reads (design_of p)

  abbrev NoLoop : Key → Type 0
  NoLoop k = (n : ℕ) → Leads keys on (suc n) k k → suc n ≤ loop_steps p → ⊥

  bit_known : (m : Name) (j : Option ℕ) (q : Path) (i : Key) → IsTrue (has keys i (on (At (Inner m j q)))) → IsIn (Inner m j q) (inner_nodes p.structure)
  bit_known m j q i r = by (source_of p.structure (Inner m j q)) refl r
    where
      by : (o : Option Source) → source_of p.structure (Inner m j q) ≡ o → IsTrue (has keys i (source_keys (design_of p) (Inner m j q) o)) → IsIn (Inner m j q) (inner_nodes p.structure)
      by None e h = absurd (false≢true h)
      by (Some x) e h = elim (in-either (Inner m j q) (inner_nodes p.structure) (outer_in (module_at p.structure [])) (sources_known p.structure declares (Inner m j q) x e)) [ inl here ↦ here | inr there ↦ absurd (no_outer m j q (module_at p.structure []) there) ]

  -- a net bit: the line has it
  no_bit_loop : (m : Name) (j : Option ℕ) (q : Path) → NoLoop (At (Inner m j q))
  no_bit_loop m j q n way enough =
      true≢false (sym (comes_round on n (loop_steps p) (At (Inner m j q)) way (omega arith))
      ∙ no_fault (loop p (loop_steps p)) none (Inner m j q) (bit_known m j q way.0 way.1))

  -- the last of the keys on a way
  last_read : (n : ℕ) (k j : Key) → Leads keys on (suc n) k j → (i : Key) × IsTrue (has keys j (on i)) × Leads keys on n k i
  last_read zero k j way = (k, subst (λ z. IsTrue (has keys z (on k))) way.2 way.1, refl)
  last_read (suc n) k j way = let more = last_read n way.0 j way.2 in (more.0, more.1, (way.0, way.1, more.2))

  no_outer_loop : (m : Name) (j : Option ℕ) → NoLoop (At (Outer m j))
  no_outer_loop m j n way enough =
      let before = last_read n (At (Outer m j)) (At (Outer m j)) way in
      let bit = by_net_bit p controls before.0 m j before.1 in
      let round : Leads keys on (suc n) before.0 before.0 = (At (Outer m j), before.1, before.2) in
      no_bit_loop bit.0 bit.1 bit.2 n (subst (λ z. Leads keys on (suc n) z z) bit.3 round) enough

  -- an origin: its inputs lead to a port, or a control comes in between
  abbrev viewed : Option model.Origin → Option Origin
  viewed o = option_map (λ (x : model.Origin). kind_view (numbered_node p.structure) x.kind) o

  input_is : (o input : ℕ) (k : Node) (high : Bool) → slice_get (network_of p).origins o ≡ Some (FromSwitch input k high) → input_of p.supplies o ≡ Some input
  input_is o input k high e = by (slice_get p.supplies.origins o) (sym (slice_get-map (λ (x : model.Origin). kind_view (numbered_node p.structure) x.kind) p.supplies.origins o) ∙ e)
    where
      kind : (x : OriginKind) → Some (kind_view (numbered_node p.structure) x) ≡ Some (FromSwitch input k high) → input_by x ≡ Some input
      kind (Port states) h = absurd cc
      kind (Switch i c s) h = cc

      by : (x : Option model.Origin) → viewed x ≡ Some (FromSwitch input k high) → input_at x ≡ Some input
      by None h = absurd cc
      by (Some x) h = kind x.kind h

  no_control_loop : (k : Node) (o n : ℕ) (j : Key) → is_outer k ≡ false → IsTrue (has keys j (node_keys k)) → Leads keys on (suc n) j j → suc n ≤ loop_steps p → ⊥
  no_control_loop (Fixed b) o n j inside r way enough = false≢true r
  no_control_loop (Outer m i) o n j inside r way enough = true≢false inside
  no_control_loop (Inner m i q) o n j inside r way enough =
      elim (is_in keys j (At (Inner m i q) ∷ []) r) [
        | inl is ↦ no_bit_loop m i q n (subst (λ z. Leads keys on (suc n) z z) is way) enough
        | inr nowhere ↦ nowhere
      ]

  by_switch : (o n : ℕ) (x : Option Origin) (j : Key) → slice_get (network_of p).origins o ≡ x → IsTrue (has keys j (origin_keys x)) → Leads keys on (suc n) j j → suc n ≤ loop_steps p
      → ((input : ℕ) → input_of p.supplies o ≡ Some input → NoLoop (Of input)) → ⊥
  by_switch o n None j e r way enough more = false≢true r
  by_switch o n (Some FromPort) j e r way enough more = false≢true r
  by_switch o n (Some (FromSwitch input k high)) j e r way enough more =
      elim (has-cases keys j (Of input) (node_keys k) r) [
        | inl is ↦ more input (input_is o input k high e) n (subst (λ z. Leads keys on (suc n) z z) (sym is) way) enough
        | inr control ↦ no_control_loop k o n j (controls.switches o input k high e) control way enough
      ]

  no_supply_loop : (steps o : ℕ) → ends_at_port p.supplies steps o ≡ true → NoLoop (Of o)
  no_supply_loop zero o ends n way enough = false≢true ends
  no_supply_loop (suc steps) o ends n way enough =
      by_switch o n (slice_get (network_of p).origins o) way.0 refl way.1 (leads_on keys on n way.0 (Of o) way.0 way.2 way.1) enough
      (λ input is. no_supply_loop steps input (subst (λ z. option_map_or (ends_at_port p.supplies steps) z true ≡ true) is ends))

  no_origin_loop : (o : ℕ) → NoLoop (Of o)
  no_origin_loop o n way enough = elim (cases_lt o (length p.supplies.origins)) [
    | inl within ↦ no_supply_loop (length p.supplies.origins) o (network.ends o within) n way enough
    | inr past ↦
        let gone : slice_get (network_of p).origins o ≡ None = slice_get-map (λ (x : model.Origin). kind_view (numbered_node p.structure) x.kind) p.supplies.origins o ∙ ap viewed (slice_get_past p.supplies.origins o past) in
        false≢true (subst (λ z. IsTrue (has keys way.0 (origin_keys z))) gone way.1)
  ]

  no_loop : (k : Key) → NoLoop k
  no_loop (At (Inner m j q)) = no_bit_loop m j q
  no_loop (At (Outer m j)) = no_outer_loop m j
  no_loop (At (Fixed b)) = λ n way enough. false≢true way.1
  no_loop (Of o) = no_origin_loop o

  pub has_order : HasOrder keys (reads (design_of p))
  has_order = from_no_loop keys on (all_keys p) (known p declares) (λ k n way enough. no_loop k n way (subst (λ z. suc n ≤ z) (count p) enough))

pub no_loop_has_order : NoLoopHasOrder
no_loop_has_order p declares network controls none = has_order p declares network controls none
