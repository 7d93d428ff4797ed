-- Which nodes have sources, and which.
use Rattle.std.proofs.Common.{◌≡◌, ℕ, Bool, true, false, not, ◌||◌, ◌&&◌, ◌⊎◌, cond, List, [], ◌∷◌, ◌++◌, Option, Some, None, refl, sym, ◌∙◌, ap, subst, inl, inr}
use Rattle.std.specs.Prelude.{map, flat_map, filter, bytes_eq, is_none, option_and_then}
use Rattle.std.specs.List.{list_all, list_any, AllByRecursion}
use Rattle.std.proofs.lemmas.Bool.{false≢true, true≢false, and_parts, cases_Bool, both_ways, not-true}
use Rattle.std.proofs.lemmas.Slice.Eq.{bytes_eq-Decides}
use Rattle.lp_text.specs.Texts.{same_text, has_text, distinct, true-same_text}
use Rattle.lp_model.specs.NetlistView.{BitView, PortView, ConnectionsView, InstanceView, ModuleView}
use Rattle.lp_model.specs.LibraryView.{PinView, CellView}
use Rattle.lp_spec_design.specs.Keys.{Name, Path, Node, Inner, Outer, PortBit, Source, CellPin, SwitchedPin, Environment, From, same_index}
use Rattle.lp_spec_design.specs.Netlists.{Structure, instance_named, connected, is_input, indices}
use Rattle.lp_spec_design.specs.Graph.{from_port, is_output_pin, touches, when, some_of, and_more, from_one, ports_in, outside, source_of, pin_node}
use Rattle.lp_spec_design.specs.Settled.{node_at_pin}
use Rattle.lp_spec_plain_module.proofs.Sources.{AllByRecursion-append}
use Rattle.lp_spec_plain_netlist.specs.Single.{is_single_module}
use Rattle.lp_spec_plain_netlist.specs.Fits.{are_read, is_fit}
use Rattle.lp_plain_loops.specs.Rows.{net_names}
use Rattle.lp_plain_loops.proofs.Shape.{PinBits, IsGood, AllGood, instances_good, found_good, ports_scalar, ports_apart, structure, top, no_module}
use Rattle.lp_plain_loops.proofs.Sources.{pin_source, one_source, inner_is, first_of, source_is, none_is}

first_each : (P : Source → Type 0) (xs : List Source) (x : Source) → AllByRecursion P xs → first_of xs ≡ Some x → P x
first_each P [] x each e = absurd (let no : ⊥ = cc in no)
first_each P (y ∷ ys) x each e = let same : y ≡ x = cc in subst P same each.0

or_false : (a : Bool) → (a || false) ≡ true → a ≡ true
or_false true e = refl
or_false false e = e

own_index : (i : Option ℕ) → (same_index i None || false) ≡ true → i ≡ None
own_index None e = refl
own_index (Some i) e = absurd (false≢true e)

or_right : (a b : Bool) → b ≡ true → (a || b) ≡ true
or_right true b e = refl
or_right false b e = e

no_index : (i : Option ℕ) → (same_index None i && true) ≡ true → i ≡ None
no_index None e = refl
no_index (Some i) e = absurd (false≢true e)

none-filter : {A : Type 0} (t : A → Bool) (xs : List A) → list_any t xs ≡ false → filter t xs ≡ []
none-filter t [] e = refl
none-filter t (x ∷ xs) e =
    elim (t x) as (λ b. (b || list_any t xs) ≡ false → cond b (x ∷ filter t xs) (filter t xs) ≡ []) [
      | true ↦ λ g. absurd (true≢false g)
      | false ↦ λ g. none-filter t xs g
    ] e

-- nothing, or a declared net of the top
abbrev pub PinNode : List Name → Option Node → Type 0
PinNode nets o = (o ≡ None) ⊎ ((y : Name) × (o ≡ Some (Inner y None [])) × (has_text y nets ≡ true))

module _ (cells : List CellView) (m : ModuleView) (single : is_single_module m ≡ true) (read : are_read cells m ≡ true) (fit : is_fit cells m ≡ true) where
  abbrev s : Structure
  s = structure cells m single read fit

  abbrev nets : List Name
  nets = net_names m

  abbrev pub port_names : List Name
  port_names = map (λ (p : PortView). p.name) m.ports

  abbrev pub named_input : Name → PortView → Bool
  named_input n p = bytes_eq p.name n && is_input p

  -- ---- the nodes at pins

  pin_known : (v : Name) (cs : ConnectionsView) → PinBits nets (connected [] v cs) → PinNode nets (pin_node [] v cs)
  pin_known v cs (inl e) = inl (rw (e) refl)
  pin_known v cs (inr known) = inr (known.0, rw (known.1) refl, known.2)

  found_node : (v : Name) (o : Option InstanceView) → (x : Name) → instance_named m x ≡ o → PinNode nets (option_and_then (λ (i : InstanceView). pin_node [] v i.connections) o)
  found_node v None x e = inl refl
  found_node v (Some i) x e = pin_known v i.connections ((found_good cells m single read fit x m.instances i (instances_good cells m single read fit) e).bits v)

  pub node_known : (x v : Name) → PinNode nets (node_at_pin s [] x v)
  node_known x v =
      subst (PinNode nets)
      (sym (ap (λ o. option_and_then (λ (k : ModuleView). option_and_then (λ (i : InstanceView). pin_node [] v i.connections) (instance_named k x)) o) (top cells m single read fit)))
      (found_node v (instance_named m x) x refl)

  -- ---- inner nodes

  -- a source of a net bit of the top
  abbrev pub Fine : Name → Option ℕ → Source → Type 0
  Fine n i (CellPin p x q) = (p ≡ []) × (i ≡ None) × (has_text n nets ≡ true)
  Fine n i (SwitchedPin p x g) = Unit {0}
  Fine n i Environment = ⊥
  Fine n i (From w j) = (j ≡ Outer n None) × (i ≡ None) × (list_any (named_input n) m.ports ≡ true)

  module _ (n : Name) (i : Option ℕ) where
    touch : (bits : List BitView) → PinBits nets bits → touches [] n i bits ≡ true → (i ≡ None) × (has_text n nets ≡ true)
    touch bits (inl e) h = absurd (false≢true (sym (ap (touches [] n i) e) ∙ h))
    touch bits (inr known) h =
        let same = and_parts (bytes_eq known.0 n) (same_index None i && true) (or_false (bytes_eq known.0 n && (same_index None i && true)) (sym (ap (touches [] n i) known.1) ∙ h)) in
        (no_index i same.1, subst (λ k. has_text k nets ≡ true) ((bytes_eq-Decides known.0 n).0 same.0) known.2)

    module _ (x : InstanceView) (g : IsGood cells m x) where
      pins_fine : (qs : List PinView) → AllByRecursion (Fine n i) (some_of (pin_source cells m single read fit x g n i) qs)
      pins_fine [] = tt
      pins_fine (q ∷ qs) =
          let rest = pins_fine qs in
          elim (is_output_pin q && touches [] n i (connected [] q.name x.connections)) as (λ b. (is_output_pin q && touches [] n i (connected [] q.name x.connections)) ≡ b → AllByRecursion (Fine n i) (and_more (when b (CellPin [] x.name q.name)) (some_of (pin_source cells m single read fit x g n i) qs))) [
            | true ↦ λ e.
                let here = touch (connected [] q.name x.connections) (g.bits q.name) (and_parts (is_output_pin q) (touches [] n i (connected [] q.name x.connections)) e).1 in
                ((refl, here.0, here.1), rest)
            | false ↦ λ e. rest
          ] refl

      one_fine : AllByRecursion (Fine n i) (from_one s [] n i x)
      one_fine = subst (AllByRecursion (Fine n i)) (sym (one_source cells m single read fit x g n i)) (pins_fine g.cell.pins)

    all_fine : (xs : List InstanceView) → AllGood cells m single read fit xs → AllByRecursion (Fine n i) (flat_map (from_one s [] n i) xs)
    all_fine [] good = tt
    all_fine (x ∷ xs) good = AllByRecursion-append (Fine n i) (from_one s [] n i x) (flat_map (from_one s [] n i) xs) (one_fine x good.0) (all_fine xs good.1)

    port_fine : list_any (named_input n) m.ports ≡ true → (p : PortView) → is_none p.range ≡ true → AllByRecursion (Fine n i) (from_port s [] n i p)
    port_fine h p e = subst (λ r. AllByRecursion (Fine n i) (cond (list_any (same_index i) (indices r)) (From (PortBit [] n i) (Outer n i) ∷ []) [])) (sym (none_is p.range e)) (by i)
      where
        by : (j : Option ℕ) → AllByRecursion (Fine n j) (cond (list_any (same_index j) (indices None)) (From (PortBit [] n j) (Outer n j) ∷ []) [])
        by None = ((refl, refl, h), tt)
        by (Some k) = tt

    ports_fine : list_any (named_input n) m.ports ≡ true → (ports : List PortView) → list_all (λ (p : PortView). is_none p.range) ports ≡ true → AllByRecursion (Fine n i) (flat_map (from_port s [] n i) (filter (named_input n) ports))
    ports_fine h [] scalar = tt
    ports_fine h (p ∷ ports) scalar =
        let parts = and_parts (is_none p.range) (list_all (λ (z : PortView). is_none z.range) ports) scalar in
        let rest = ports_fine h ports parts.1 in
        elim (named_input n p) as (λ b. AllByRecursion (Fine n i) (flat_map (from_port s [] n i) (cond b (p ∷ filter (named_input n) ports) (filter (named_input n) ports)))) [
          | true ↦ AllByRecursion-append (Fine n i) (from_port s [] n i p) (flat_map (from_port s [] n i) (filter (named_input n) ports)) (port_fine h p parts.0) rest
          | false ↦ rest
        ]

    from_ports : AllByRecursion (Fine n i) (ports_in s [] n i m)
    from_ports =
        elim (cases_Bool (list_any (named_input n) m.ports)) [
          | inl h ↦ ports_fine h m.ports (ports_scalar cells m single read fit)
          | inr h ↦ subst (λ ps. AllByRecursion (Fine n i) (flat_map (from_port s [] n i) ps)) (sym (none-filter (named_input n) m.ports h)) tt
        ]

    pub inner_fine : (x : Source) → source_of s (Inner n i []) ≡ Some x → Fine n i x
    inner_fine x e =
        first_each (Fine n i) (ports_in s [] n i m ++ flat_map (from_one s [] n i) m.instances) x
        (AllByRecursion-append (Fine n i) (ports_in s [] n i m) (flat_map (from_one s [] n i) m.instances) from_ports (all_fine m.instances (instances_good cells m single read fit)))
        (sym (source_is s (Inner n i []) (ports_in s [] n i m ++ flat_map (from_one s [] n i) m.instances) (inner_is cells m single read fit n i)) ∙ e)

  -- an input port is a net
  input_known : (n : Name) (ports : List PortView) → list_any (named_input n) ports ≡ true → has_text n (map (λ (p : PortView). p.name) ports) ≡ true
  input_known n [] h = absurd (false≢true h)
  input_known n (p ∷ ports) h =
      elim (bytes_eq p.name n) as (λ b. bytes_eq p.name n ≡ b → ((b && is_input p) || list_any (named_input n) ports) ≡ true → (same_text n p.name || has_text n (map (λ (z : PortView). z.name) ports)) ≡ true) [
        | true ↦ λ e g. ap (λ b. b || has_text n (map (λ (z : PortView). z.name) ports)) (true-same_text n p.name (sym ((bytes_eq-Decides p.name n).0 e)))
        | false ↦ λ e g. or_right (same_text n p.name) (has_text n (map (λ (z : PortView). z.name) ports)) (input_known n ports g)
      ] refl h

  pub input_is_port : (n : Name) → list_any (named_input n) m.ports ≡ true → has_text n port_names ≡ true
  input_is_port n h = input_known n m.ports h

  -- below the top nothing has a source
  pub no_source_below : (n : Name) (i : Option ℕ) (y : Name) (p : Path) → source_of s (Inner n i (y ∷ p)) ≡ None
  no_source_below n i y p = source_is s (Inner n i (y ∷ p)) [] (rw (no_module cells m single read fit y p) refl)

  -- ---- outer nodes

  module _ (n : Name) (i : Option ℕ) where
    abbrev here : PortView → Bool
    here p = bytes_eq p.name n && list_any (same_index i) (indices p.range)

    -- a bit of a port, which the environment or the net drives
    abbrev pub IsOutside : List Name → Source → Type 0
    IsOutside names x = (i ≡ None) × (has_text n names ≡ true) × ((x ≡ Environment) ⊎ (x ≡ From (PortBit [] n i) (Inner n i [])))

    which : (p : PortView) (x : Source) → outside n i p ≡ x → (x ≡ Environment) ⊎ (x ≡ From (PortBit [] n i) (Inner n i []))
    which p x e = elim (is_input p) as (λ b. cond b Environment (From (PortBit [] n i) (Inner n i [])) ≡ x → (x ≡ Environment) ⊎ (x ≡ From (PortBit [] n i) (Inner n i []))) [ true ↦ λ g. inl (sym g) | false ↦ λ g. inr (sym g) ] e

    outside_first : (ports : List PortView) → list_all (λ (p : PortView). is_none p.range) ports ≡ true → (x : Source) → first_of (map (outside n i) (filter here ports)) ≡ Some x → IsOutside (map (λ (p : PortView). p.name) ports) x
    outside_first [] scalar x e = absurd (let no : ⊥ = cc in no)
    outside_first (p ∷ ports) scalar x e =
        let parts = and_parts (is_none p.range) (list_all (λ (z : PortView). is_none z.range) ports) scalar in
        let none = none_is p.range parts.0 in
        elim (here p) as (λ b. here p ≡ b → first_of (map (outside n i) (cond b (p ∷ filter here ports) (filter here ports))) ≡ Some x → IsOutside (map (λ (z : PortView). z.name) (p ∷ ports)) x) [
          | true ↦ λ h g.
              let both = and_parts (bytes_eq p.name n) (list_any (same_index i) (indices p.range)) h in
              let index : (same_index i None || false) ≡ true = ap (λ r. list_any (same_index i) (indices r)) (sym none) ∙ both.1 in
              let is : outside n i p ≡ x = cc in
              (own_index i index, ap (λ b. b || has_text n (map (λ (z : PortView). z.name) ports)) (true-same_text n p.name (sym ((bytes_eq-Decides p.name n).0 both.0))), which p x is)
          | false ↦ λ h g.
              let rest = outside_first ports parts.1 x g in
              (rest.0, or_right (same_text n p.name) (has_text n (map (λ (z : PortView). z.name) ports)) rest.1, rest.2)
        ] refl e

    outer_is : source_of s (Outer n i) ≡ first_of (map (outside n i) (filter here m.ports))
    outer_is = source_is s (Outer n i) (map (outside n i) (filter here m.ports)) (rw (top cells m single read fit) refl)

    pub outer_fine : (x : Source) → source_of s (Outer n i) ≡ Some x → IsOutside port_names x
    outer_fine x e = outside_first m.ports (ports_scalar cells m single read fit) x (sym outer_is ∙ e)

  -- the environment drives the outer side of an input
  environment_first : (n : Name) (ports : List PortView) → list_all (λ (p : PortView). is_none p.range) ports ≡ true → distinct (map (λ (p : PortView). p.name) ports) ≡ true → list_any (named_input n) ports ≡ true → first_of (map (outside n None) (filter (here n None) ports)) ≡ Some Environment
  environment_first n [] scalar apart h = absurd (false≢true h)
  environment_first n (p ∷ ports) scalar apart h =
      let names = map (λ (z : PortView). z.name) ports in
      let parts = and_parts (is_none p.range) (list_all (λ (z : PortView). is_none z.range) ports) scalar in
      let once = and_parts (not (has_text p.name names)) (distinct names) apart in
      let index : list_any (same_index None) (indices p.range) ≡ true = ap (λ r. list_any (same_index None) (indices r)) (none_is p.range parts.0) in
      elim (bytes_eq p.name n) as (λ b. bytes_eq p.name n ≡ b → ((b && is_input p) || list_any (named_input n) ports) ≡ true → first_of (map (outside n None) (cond (b && list_any (same_index None) (indices p.range)) (p ∷ filter (here n None) ports) (filter (here n None) ports))) ≡ Some Environment) [
        | true ↦ λ e g.
            ap (λ b. first_of (map (outside n None) (cond b (p ∷ filter (here n None) ports) (filter (here n None) ports)))) index
            ∙ elim (is_input p) as (λ b. (b || list_any (named_input n) ports) ≡ true → Some (cond b Environment (From (PortBit [] n None) (Inner n None []))) ≡ Some Environment) [
              | true ↦ λ f. refl
              | false ↦ λ f. absurd (both_ways (has_text p.name names) (not-true (has_text p.name names) once.0) (subst (λ k. has_text k names ≡ true) (sym ((bytes_eq-Decides p.name n).0 e)) (input_known n ports f)))
            ] g
        | false ↦ λ e g. environment_first n ports parts.1 once.1 g
      ] refl h

  pub environment_is : (n : Name) → list_any (named_input n) m.ports ≡ true → source_of s (Outer n None) ≡ Some Environment
  environment_is n h = outer_is n None ∙ environment_first n m.ports (ports_scalar cells m single read fit) (ports_apart cells m single read fit) h
