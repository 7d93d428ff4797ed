-- Where the wires of a flat design's netlist begin.
use Rattle.std.proofs.Common.{◌≡◌, ℕ, zero, suc, ◌<◌, Bool, true, false, ◌||◌, ◌&&◌, cond, List, [], ◌∷◌, ◌++◌, map, length, Option, Some, None, refl, sym, ◌∙◌, ap, subst, arith, length-append}
use Rattle.std.specs.Prelude.{bytes_eq, filter, flat_map, is_some}
use Rattle.std.specs.List.{AllByRecursion, list_all, list_any}
use Rattle.std.proofs.lemmas.Bool.{and_from, false≢true, true≢false, not-true, not-false}
use Rattle.lp_text.specs.Texts.{same_text-true}
use Rattle.lp_model.specs.NetlistView.{PortView}
use Rattle.lp_spec_design.specs.Keys.{Name, Path, Node, Inner, Outer, Fixed, Way, PortBit, Source, Environment, From, same_index}
use Rattle.lp_spec_design.specs.Netlists.{Structure, module_at, indices, is_input}
use Rattle.lp_spec_design.specs.Nodes.{inner_nodes, outer_in, fuel_of}
use Rattle.lp_spec_design.specs.Graph.{from_port, from_one, from_assign, numbered, outside, sources_of, source_of, trail, going_back, way_in, beginning}
use Rattle.lp_spec_pins.specs.Pins.{FromTop, supply_begun, supply_of_node, only}
use Rattle.lp_spec_pins.specs.Supplied.{has_one_source, is_single}
use Rattle.lp_spec_plain.specs.Carried.{LeadsFromPort, FromNothing, AtPort, Along}
use Rattle.lp_spec_plain_module.specs.Designs.{Flat}
use Rattle.lp_spec_plain_module.specs.Netlists.{power_port, ground_port, supply_input, powered_instance, powered, is_supply, netlist_of, is_own}
use Rattle.lp_spec_plain_module.specs.Tests.{is_flat}
use Rattle.lp_spec_plain_module.proofs.Lists.{filter-behind, filter-none}
use Rattle.lp_spec_plain_module.proofs.Graphs.{source, written, ports_apart, top_written, no_assign, instances_flat, no_module, no_module_written}
use Rattle.lp_spec_plain_module.proofs.Sources.{IsGood, AllByRecursion-append, instances_same, instances_none, instances_good, not_named, ports_same, ports_good, outside_good, inner_is, inner_written, outer_is, outer_written}

abbrev head_of : List Source → Option Source
head_of [] = None
head_of (x ∷ xs) = Some x

source_by : (st : Structure) (k : Node) (xs : List Source) → sources_of st k ≡ xs → source_of st k ≡ head_of xs
source_by st k [] e = rw (e) refl
source_by st k (x ∷ xs) e = rw (e) refl

module _ (f : Flat) (flat : is_flat f ≡ true) where
  abbrev s : Structure
  s = source f flat

  abbrev t : Structure
  t = written f flat

  -- ---- nodes of the design

  inner_lists : (n : Name) (i : Option ℕ) → is_supply f n ≡ false → sources_of t (Inner n i []) ≡ sources_of s (Inner n i [])
  inner_lists n i e =
      inner_written f flat n i
      ∙ ((λ r. flat_map (from_port s [] n i) (ports_same f flat n i e is_input r) ++ (instances_same f flat n i f.source.instances (instances_flat f flat) r ++ flat_map (from_assign [] n i) (numbered 0 f.source.assigns)))
      ∙ sym (inner_is f flat n i))

  outer_lists : (n : Name) (i : Option ℕ) → is_supply f n ≡ false → sources_of t (Outer n i) ≡ sources_of s (Outer n i)
  outer_lists n i e =
      outer_written f flat n i
      ∙ ((λ r. map (outside n i) (ports_same f flat n i e (λ (p : PortView). list_any (same_index i) (indices p.range)) r))
      ∙ sym (outer_is f flat n i))

  lower_none : (n : Name) (i : Option ℕ) (y : Name) (p : Path) → sources_of s (Inner n i (y ∷ p)) ≡ []
  lower_none n i y p = rw (no_module f flat y p) refl

  lower_none_written : (n : Name) (i : Option ℕ) (y : Name) (p : Path) → sources_of t (Inner n i (y ∷ p)) ≡ []
  lower_none_written n i y p = rw (no_module_written f flat y p) refl

  lists_same : (k : Node) → is_own f k ≡ true → sources_of t k ≡ sources_of s k
  lists_same (Inner n i []) e = inner_lists n i (not-true _ e)
  lists_same (Inner n i (y ∷ p)) e = lower_none_written n i y p ∙ sym (lower_none n i y p)
  lists_same (Outer n i) e = outer_lists n i (not-true _ e)
  lists_same (Fixed b) e = refl

  pub same_source : (k : Node) → is_own f k ≡ true → source_of t k ≡ source_of s k
  same_source k e = source_by t k (sources_of s k) (lists_same k e) ∙ sym (source_by s k (sources_of s k) refl)

  -- ---- nodes that the design lacks

  assigns_none : (n : Name) (i : Option ℕ) → flat_map (from_assign [] n i) (numbered 0 f.source.assigns) ≡ []
  assigns_none n i = ap (λ xs. flat_map (from_assign [] n i) (numbered 0 xs)) (no_assign f flat)

  inner_none : (n : Name) (i : Option ℕ) → is_supply f n ≡ true → sources_of s (Inner n i []) ≡ []
  inner_none n i e =
      inner_is f flat n i
      ∙ (λ r. flat_map (from_port s [] n i) (filter-none (λ (p : PortView). bytes_eq p.name n && is_input p) f.source.ports (not_named f flat n i is_input e) r)
      ++ (instances_none f flat n i e f.source.instances (instances_flat f flat) r ++ assigns_none n i r))

  outer_none : (n : Name) (i : Option ℕ) → is_supply f n ≡ true → sources_of s (Outer n i) ≡ []
  outer_none n i e =
      outer_is f flat n i
      ∙ ap (map (outside n i)) (filter-none (λ (p : PortView). bytes_eq p.name n && list_any (same_index i) (indices p.range)) f.source.ports (not_named f flat n i (λ (p : PortView). list_any (same_index i) (indices p.range)) e))

  no_sources : (k : Node) → is_own f k ≡ false → sources_of s k ≡ []
  no_sources (Inner n i []) e = inner_none n i (not-false _ e)
  no_sources (Inner n i (y ∷ p)) e = lower_none n i y p
  no_sources (Outer n i) e = outer_none n i (not-false _ e)
  no_sources (Fixed b) e = absurd (true≢false e)

  pub no_source : (k : Node) → is_own f k ≡ false → source_of s k ≡ None
  no_source k e = source_by s k [] (no_sources k e)

  -- ---- good sources

  good_inner : (n : Name) (i : Option ℕ) (b : Bool) → is_supply f n ≡ b → AllByRecursion (IsGood f flat) (sources_of s (Inner n i []))
  good_inner n i true e = subst (AllByRecursion (IsGood f flat)) (sym (inner_none n i e)) tt
  good_inner n i false e =
      subst (AllByRecursion (IsGood f flat)) (sym (inner_is f flat n i))
      (AllByRecursion-append (IsGood f flat) (flat_map (from_port s [] n i) (filter (λ (p : PortView). bytes_eq p.name n && is_input p) f.source.ports)) (flat_map (from_one s [] n i) f.source.instances ++ flat_map (from_assign [] n i) (numbered 0 f.source.assigns))
      (ports_good f flat n i e (filter (λ (p : PortView). bytes_eq p.name n && is_input p) f.source.ports))
      (AllByRecursion-append (IsGood f flat) (flat_map (from_one s [] n i) f.source.instances) (flat_map (from_assign [] n i) (numbered 0 f.source.assigns))
      (instances_good f flat n i f.source.instances (instances_flat f flat))
      (subst (AllByRecursion (IsGood f flat)) (sym (assigns_none n i)) tt)))

  good_outer : (n : Name) (i : Option ℕ) (b : Bool) → is_supply f n ≡ b → AllByRecursion (IsGood f flat) (sources_of s (Outer n i))
  good_outer n i true e = subst (AllByRecursion (IsGood f flat)) (sym (outer_none n i e)) tt
  good_outer n i false e = subst (AllByRecursion (IsGood f flat)) (sym (outer_is f flat n i)) (outside_good f flat n i e (filter (λ (p : PortView). bytes_eq p.name n && list_any (same_index i) (indices p.range)) f.source.ports))

  good_sources : (k : Node) → AllByRecursion (IsGood f flat) (sources_of s k)
  good_sources (Inner n i []) = good_inner n i (is_supply f n) refl
  good_sources (Inner n i (y ∷ p)) = subst (AllByRecursion (IsGood f flat)) (sym (lower_none n i y p)) tt
  good_sources (Outer n i) = good_outer n i (is_supply f n) refl
  good_sources (Fixed b) = tt

  pub good_source : (k : Node) (x : Source) → source_of s k ≡ Some x → IsGood f flat x
  good_source k x e = by (sources_of s k) (good_sources k) (sym (source_by s k (sources_of s k) refl) ∙ e)
    where
      by : (xs : List Source) → AllByRecursion (IsGood f flat) xs → head_of xs ≡ Some x → IsGood f flat x
      by [] all h = absurd cc
      by (y ∷ ys) all h = let same : y ≡ x = cc in subst (IsGood f flat) same all.0

  -- ---- nodes of the supply ports

  -- what drives a name of a supply port from its own ports, and what follows
  module _ (n : Name) (i : Option ℕ) (e : is_supply f n ≡ true) where
    later : List Source
    later = flat_map (from_one t [] n i) (map (powered_instance f) f.source.instances) ++ flat_map (from_assign [] n i) (numbered 0 f.source.assigns)

    two : flat_map (from_port t [] n i) (filter (λ (p : PortView). bytes_eq p.name n && is_input p) (powered f).ports) ≡ flat_map (from_port t [] n i) (filter (λ (p : PortView). bytes_eq p.name n && is_input p) (supply_input (power_port f) ∷ supply_input (ground_port f) ∷ []))
    two = ap (flat_map (from_port t [] n i)) (filter-behind (λ (p : PortView). bytes_eq p.name n && is_input p) f.source.ports (supply_input (power_port f) ∷ supply_input (ground_port f) ∷ []) (not_named f flat n i is_input e))

    ports_of : Bool → Bool → List PortView
    ports_of a b = cond (a && true) (supply_input (power_port f) ∷ cond (b && true) (supply_input (ground_port f) ∷ []) []) (cond (b && true) (supply_input (ground_port f) ∷ []) [])

    lists : (a b : Bool) → bytes_eq (power_port f) n ≡ a → bytes_eq (ground_port f) n ≡ b → sources_of t (Inner n i []) ≡ flat_map (from_port t [] n i) (ports_of a b) ++ later
    unfolding ports_of later
    lists a b p q = inner_written f flat n i ∙ (ap (λ xs. xs ++ later) two ∙ (λ r. flat_map (from_port t [] n i) (ports_of (p r) (q r)) ++ later))

    later_none : later ≡ []
    unfolding later
    later_none = λ r. (instances_same f flat n i f.source.instances (instances_flat f flat) ∙ instances_none f flat n i e f.source.instances (instances_flat f flat)) r ++ assigns_none n i r

  one_port : (n : Name) → bytes_eq (power_port f) n ≡ true → bytes_eq (ground_port f) n ≡ true → ⊥
  one_port n p q = true≢false (sym p ∙ (ap (bytes_eq (power_port f)) (sym (same_text-true (ground_port f) n q)) ∙ ports_apart f flat))

  supply_sources : (n : Name) → is_supply f n ≡ true → sources_of t (Inner n None []) ≡ From (PortBit [] n None) (Outer n None) ∷ []
  unfolding ports_of
  supply_sources n e = by (bytes_eq (power_port f) n) (bytes_eq (ground_port f) n) refl refl e
    where
      by : (a b : Bool) → bytes_eq (power_port f) n ≡ a → bytes_eq (ground_port f) n ≡ b → (a || b) ≡ true → sources_of t (Inner n None []) ≡ From (PortBit [] n None) (Outer n None) ∷ []
      by true true p q h = absurd (one_port n p q)
      by true false p q h = lists n None e true false p q ∙ ap (λ r. From (PortBit [] n None) (Outer n None) ∷ r) (later_none n None e)
      by false true p q h = lists n None e false true p q ∙ ap (λ r. From (PortBit [] n None) (Outer n None) ∷ r) (later_none n None e)
      by false false p q h = absurd (false≢true h)

  supply_source : (n : Name) → is_supply f n ≡ true → source_of t (Inner n None []) ≡ Some (From (PortBit [] n None) (Outer n None))
  supply_source n e = source_by t (Inner n None []) (From (PortBit [] n None) (Outer n None) ∷ []) (supply_sources n e)

  -- a supply port is a scalar
  no_bit : (n : Name) (j : ℕ) → is_supply f n ≡ true → source_of t (Inner n (Some j) []) ≡ None
  unfolding ports_of
  no_bit n j e = source_by t (Inner n (Some j) []) [] (by (bytes_eq (power_port f) n) (bytes_eq (ground_port f) n) refl refl)
    where
      by : (a b : Bool) → bytes_eq (power_port f) n ≡ a → bytes_eq (ground_port f) n ≡ b → sources_of t (Inner n (Some j) []) ≡ []
      by true true p q = lists n (Some j) e true true p q ∙ later_none n (Some j) e
      by true false p q = lists n (Some j) e true false p q ∙ later_none n (Some j) e
      by false true p q = lists n (Some j) e false true p q ∙ later_none n (Some j) e
      by false false p q = lists n (Some j) e false false p q ∙ later_none n (Some j) e

  outer_two : (n : Name) (i : Option ℕ) → is_supply f n ≡ true → sources_of t (Outer n i) ≡ map (outside n i) (filter (λ (p : PortView). bytes_eq p.name n && list_any (same_index i) (indices p.range)) (supply_input (power_port f) ∷ supply_input (ground_port f) ∷ []))
  outer_two n i e = outer_written f flat n i ∙ ap (map (outside n i)) (filter-behind (λ (p : PortView). bytes_eq p.name n && list_any (same_index i) (indices p.range)) f.source.ports (supply_input (power_port f) ∷ supply_input (ground_port f) ∷ []) (not_named f flat n i (λ (p : PortView). list_any (same_index i) (indices p.range)) e))

  port_sources : (n : Name) → is_supply f n ≡ true → sources_of t (Outer n None) ≡ Environment ∷ []
  port_sources n e = outer_two n None e ∙ by (bytes_eq (power_port f) n) (bytes_eq (ground_port f) n) refl refl e
    where
      by : (a b : Bool) → bytes_eq (power_port f) n ≡ a → bytes_eq (ground_port f) n ≡ b → (a || b) ≡ true → map (outside n None) (cond (a && true) (supply_input (power_port f) ∷ cond (b && true) (supply_input (ground_port f) ∷ []) []) (cond (b && true) (supply_input (ground_port f) ∷ []) [])) ≡ Environment ∷ []
      by true true p q h = absurd (one_port n p q)
      by true false p q h = refl
      by false true p q h = refl
      by false false p q h = absurd (false≢true h)

  pub port_source : (n : Name) → is_supply f n ≡ true → source_of t (Outer n None) ≡ Some Environment
  port_source n e = source_by t (Outer n None) (Environment ∷ []) (port_sources n e)

  port_bit : (n : Name) (j : ℕ) → is_supply f n ≡ true → source_of t (Outer n (Some j)) ≡ None
  port_bit n j e = source_by t (Outer n (Some j)) (map (outside n (Some j)) (filter (λ (p : PortView). bytes_eq p.name n && list_any (same_index (Some j)) (indices p.range)) (supply_input (power_port f) ∷ supply_input (ground_port f) ∷ []))) (outer_two n (Some j) e) ∙ by (bytes_eq (power_port f) n) (bytes_eq (ground_port f) n)
    where
      by : (a b : Bool) → head_of (map (outside n (Some j)) (cond (a && false) (supply_input (power_port f) ∷ cond (b && false) (supply_input (ground_port f) ∷ []) []) (cond (b && false) (supply_input (ground_port f) ∷ []) []))) ≡ None
      by true true = refl
      by true false = refl
      by false true = refl
      by false false = refl

  from_port_of : (n : Name) (i : Option ℕ) → is_supply f n ≡ true → LeadsFromPort (netlist_of f) (is_own f) (Outer n i)
  from_port_of n None e = AtPort n None e (port_source n e)
  from_port_of n (Some j) e = FromNothing (Outer n (Some j)) (port_bit n j e)

  pub others : (k : Node) → is_own f k ≡ false → LeadsFromPort (netlist_of f) (is_own f) k
  others (Inner n None []) e =
      let supply = not-false _ e in
      Along (Inner n None []) (Outer n None) (PortBit [] n None) e (supply_source n supply) (from_port_of n None supply)
  others (Inner n (Some j) []) e = FromNothing (Inner n (Some j) []) (no_bit n j (not-false _ e))
  others (Inner n i (y ∷ p)) e = FromNothing (Inner n i (y ∷ p)) (source_by t (Inner n i (y ∷ p)) [] (lower_none_written n i y p))
  others (Outer n i) e = from_port_of n i (not-false _ e)
  others (Fixed b) e = absurd (true≢false e)

  -- ---- what is joined to the ports

  begins_at_port : (n : Name) → is_supply f n ≡ true → (fuel : ℕ) → beginning (Outer n None) (trail t fuel (Outer n None)) ≡ Outer n None
  begins_at_port n e zero = refl
  begins_at_port n e (suc fuel) = ap (λ o. beginning (Outer n None) (going_back (λ j. trail t fuel j) (way_in o))) (port_source n e)

  at_port : (n : Name) → is_supply f n ≡ true → supply_begun (netlist_of f) (Outer n None) (source_of t (Outer n None)) ≡ Some (FromTop n)
  at_port n e = ap (supply_begun (netlist_of f) (Outer n None)) (port_source n e) ∙ ap (λ b. cond b (Some (FromTop n)) None) e

  pub port_supply : (n : Name) → is_supply f n ≡ true → supply_of_node (netlist_of f) (Outer n None) ≡ Some (FromTop n)
  port_supply n e = ap (λ k. supply_begun (netlist_of f) k (source_of t k)) (begins_at_port n e (fuel_of t)) ∙ at_port n e

  -- the two ports are nodes, so that there is one
  outer_bits : List PortView → List Node
  outer_bits ports = flat_map (λ (x : PortView). map (λ i. Outer x.name i) (indices x.range)) ports

  some_outer : (ports : List PortView) → 0 < length (outer_bits (ports ++ supply_input (power_port f) ∷ supply_input (ground_port f) ∷ []))
  unfolding outer_bits
  some_outer [] = omega arith
  some_outer (q ∷ ports) =
      let more = some_outer ports in
      omega (arith, length-append (map (λ i. Outer q.name i) (indices q.range)) (outer_bits (ports ++ supply_input (power_port f) ∷ supply_input (ground_port f) ∷ [])), more)

  some_node : 0 < fuel_of t
  unfolding fuel_of outer_bits
  some_node =
      let outer : 0 < length (outer_in (module_at t [])) = subst (λ o. 0 < length (outer_in o)) (sym (top_written f flat)) (some_outer f.source.ports) in
      omega (arith, length-append (inner_nodes t) (outer_in (module_at t [])), outer)

  begins_before : (n : Name) → is_supply f n ≡ true → (fuel : ℕ) → 0 < fuel → beginning (Inner n None []) (trail t fuel (Inner n None [])) ≡ Outer n None
  begins_before n e zero some = absurd (omega arith)
  begins_before n e (suc fuel) some = ap (λ o. beginning (Inner n None []) (going_back (λ j. trail t fuel j) (way_in o))) (supply_source n e) ∙ begins_at_port n e fuel

  pub net_supply : (n : Name) → is_supply f n ≡ true → supply_of_node (netlist_of f) (Inner n None []) ≡ Some (FromTop n)
  net_supply n e =
      ap (λ k. supply_begun (netlist_of f) k (source_of t k))
      (begins_before n e (fuel_of t) some_node)
      ∙ at_port n e

  -- ---- each node on the way to a port has one source

  ends_at_port : (n : Name) → is_supply f n ≡ true → (fuel : ℕ) → trail t fuel (Outer n None) ≡ []
  ends_at_port n e zero = refl
  ends_at_port n e (suc fuel) = ap (λ o. going_back (λ j. trail t fuel j) (way_in o)) (port_source n e)

  one_source : (k : Node) (x : Source) → sources_of t k ≡ x ∷ [] → has_one_source t k ≡ true
  one_source k x e = ap (λ xs. is_some (only xs)) e

  wire_single : (n : Name) → is_supply f n ≡ true → (fuel : ℕ) → 0 < fuel → list_all (has_one_source t) (Inner n None [] ∷ map (λ (step : Way × Node). step.1) (trail t fuel (Inner n None []))) ≡ true
  wire_single n e zero some = absurd (omega arith)
  wire_single n e (suc fuel) some =
      ap (λ steps. has_one_source t (Inner n None []) && list_all (has_one_source t) (map (λ (step : Way × Node). step.1) steps)) (ap (λ o. going_back (λ j. trail t fuel j) (way_in o)) (supply_source n e) ∙ ap (λ steps. (PortBit [] n None, Outer n None) ∷ steps) (ends_at_port n e fuel))
      ∙ and_from _ _ (one_source (Inner n None []) (From (PortBit [] n None) (Outer n None)) (supply_sources n e)) (and_from _ _ (one_source (Outer n None) Environment (port_sources n e)) refl)

  pub net_single : (n : Name) → is_supply f n ≡ true → is_single (netlist_of f) (Some (Inner n None [])) ≡ true
  net_single n e = wire_single n e (fuel_of t) some_node
