-- Where no connection lacks a pin and none comes to a power pin, no output has a constant and power pins are open.
use Rattle.std.proofs.Common.{◌≡◌, ℕ, zero, suc, ◌+◌, ◌-◌, Bool, true, false, not, ◌&&◌, ◌||◌, List, [], ◌∷◌, ◌++◌, map, Option, Some, None, inl, inr, refl, sym, ap, ◌∙◌, subst, arith}
use Rattle.std.specs.Prelude.{bytes_eq, slice_get, if◌then◌else◌}
use Rattle.std.specs.List.{list_any}
use Rattle.std.proofs.lemmas.Bool.{true≢false, false≢true}
use Rattle.lp_text.specs.Texts.{true-same_text, same_text-true}
use Rattle.lp_model.specs.NetlistView.{BitView, PortView, ConnectionView, ConnectionsView, ByName, ByPosition, InstanceView, ModuleView}
use Rattle.lp_model.specs.LibraryView.{PgPinView, CellView, PinView}
use Rattle.lp_spec_design.specs.Keys.{Name}
use Rattle.lp_spec_design.specs.Netlists.{Structure, first, module_named, cell_named, bits_named, bits_placed, connected, is_input}
use Rattle.lp_spec_design.specs.Graph.{is_output_pin}
use Rattle.lp_spec_design.specs.Winners.{IsIn}
use Rattle.lp_spec_design.proofs.Members.{in-flat, in-map, any-in}
use Rattle.lp_spec_faults.specs.Lines.{first_of}
use Rattle.lp_spec_faults.specs.Wires.{ConnectionAt, named_from, placed_from, connections_of, connections_in, all_connections, port_of, has_pg, has_pin, has_output, has_constant, is_second, is_refused_port, is_refused_pin, is_unknown_pin, unknown_pin, is_powered, already_powered}
use Rattle.lp_spec_bridge.specs.Keyed.{IsApart}
use Rattle.lp_spec_layout.proofs.Lists.{get-in}

-- a test that holds of none holds of no member
pub first-none : {A : Type 0} (p : A → Bool) (xs : List A) (x : A) → first p xs ≡ None → IsIn x xs → p x ≡ false
first-none p [] x e h = absurd h
first-none p (y ∷ xs) x e h = by (p y) refl e h (first-none p xs x)
  where
    by : (b : Bool) → p y ≡ b → (if b then Some y else first p xs) ≡ None → IsIn x (y ∷ xs) → (first p xs ≡ None → IsIn x xs → p x ≡ false) → p x ≡ false
    by true t f g more = cc
    by false t f (inl is) more = ap p is ∙ t
    by false t f (inr g) more = more f g

pub or-false : (a b : Bool) → (a || b) ≡ false → (a ≡ false) × (b ≡ false)
or-false true b e = absurd (true≢false e)
or-false false b e = (refl, e)

and-false : (a b : Bool) → a ≡ true → (a && b) ≡ false → b ≡ false
and-false true b e f = f
and-false false b e f = absurd (false≢true e)

-- ---- the place of a connection

abbrev named-place : ModuleView → InstanceView → ℕ → List Name → ConnectionView → ConnectionAt
named-place m x k before c = record { parent = m; instance = x; number = k; name = Some c.port; bits = c.bits; before = before }

abbrev placed-place : ModuleView → InstanceView → ℕ → List BitView → ConnectionAt
placed-place m x k v = record { parent = m; instance = x; number = k; name = None; bits = v; before = [] }

named-in : (m : ModuleView) (x : InstanceView) (k : ℕ) (before : List Name) (cs : List ConnectionView) (c : ConnectionView) → IsIn c cs
    → (j : ℕ) × (met : List Name) × IsIn (named-place m x j met c) (named_from m x k before cs)
named-in m x k before [] c h = absurd h
named-in m x k before (y ∷ cs) c (inl is) = (k, before, inl (ap (named-place m x k before) is))
named-in m x k before (y ∷ cs) c (inr h) = let more = named-in m x (k + 1) (before ++ y.port ∷ []) cs c h in (more.0, more.1, inr more.2)

placed-in : (m : ModuleView) (x : InstanceView) (k : ℕ) (vs : List (List BitView)) (j : ℕ) (v : List BitView) → slice_get vs j ≡ Some v → IsIn (placed-place m x (k + j) v) (placed_from m x k vs)
placed-in m x k [] j v e = cc
placed-in m x k (w ∷ vs) zero v e = let is : v ≡ w = cc in let at : k + 0 ≡ k = omega arith in inl (λ i. placed-place m x (at i) (is i))
placed-in m x k (w ∷ vs) (suc j) v e = let at : k + suc j ≡ k + 1 + j = omega arith in inr (subst (λ z. IsIn (placed-place m x z v) (placed_from m x (k + 1) vs)) (sym at) (placed-in m x (k + 1) vs j v e))

-- ---- ports by name and by position

pub not-true : (b : Bool) → (b ≡ true → ⊥) → b ≡ false
not-true true h = absurd (h refl)
not-true false h = refl

-- the first port has another name than one behind it
pub other-name : (q : PortView) (ps : List PortView) (j : ℕ) (p : PortView) → (IsIn q.name (map (λ (x : PortView). x.name) ps) → ⊥) → slice_get ps j ≡ Some p → bytes_eq q.name p.name ≡ false
other-name q ps j p other e =
    not-true (bytes_eq q.name p.name)
    (λ t. other (subst (λ z. IsIn z (map (λ (x : PortView). x.name) ps)) (sym (same_text-true q.name p.name t)) (in-map (λ (x : PortView). x.name) p ps (get-in ps j p e))))

port-named : (ps : List PortView) (j : ℕ) (p : PortView) → IsApart (map (λ (q : PortView). q.name) ps) → slice_get ps j ≡ Some p → first (λ (q : PortView). bytes_eq q.name p.name) ps ≡ Some p
port-named [] j p apart e = cc
port-named (q ∷ ps) zero p apart e = let is : q ≡ p = cc in ap (λ b. if b then Some q else first (λ (x : PortView). bytes_eq x.name p.name) ps) (true-same_text q.name p.name (ap (λ (x : PortView). x.name) is)) ∙ ap (λ x. Some x) is
port-named (q ∷ ps) (suc j) p apart e = ap (λ b. if b then Some q else first (λ (x : PortView). bytes_eq x.name p.name) ps) (other-name q ps j p apart.0 e) ∙ port-named ps j p apart.1 e

abbrev pub at-or-none : Option (List BitView) → List BitView
at-or-none None = []
at-or-none (Some v) = v

-- what is connected to a port by position
pub placed-at : (ps : List PortView) (vs : List (List BitView)) (j : ℕ) (p : PortView) → IsApart (map (λ (q : PortView). q.name) ps) → slice_get ps j ≡ Some p → bits_placed p.name ps vs ≡ at-or-none (slice_get vs j)
placed-at [] vs j p apart e = cc
placed-at (q ∷ ps) [] j p apart e = refl
placed-at (q ∷ ps) (v ∷ vs) zero p apart e = let is : q ≡ p = cc in ap (λ b. if b then v else bits_placed p.name ps vs) (true-same_text q.name p.name (ap (λ (x : PortView). x.name) is))
placed-at (q ∷ ps) (v ∷ vs) (suc j) p apart e = ap (λ b. if b then v else bits_placed p.name ps vs) (other-name q ps j p apart.0 e) ∙ placed-at ps vs j p apart.1 e

-- ---- connections by name

-- what holds of all that have the name holds of what is connected to it
pub of-named : (P : List BitView → Type 0) (n : Name) (cs : List ConnectionView) → P [] → ((c : ConnectionView) → IsIn c cs → c.port ≡ n → P c.bits) → P (bits_named n cs)
of-named P n [] none each = none
of-named P n (c ∷ cs) none each = by (bytes_eq c.port n) refl (of-named P n cs none (λ x h. each x (inr h)))
  where
    by : (b : Bool) → bytes_eq c.port n ≡ b → P (bits_named n cs) → P (if b then c.bits else bits_named n cs)
    by true t more = each c (inl refl) (same_text-true c.port n t)
    by false t more = more

-- ---- an instance of a netlist without these faults

abbrev instance-of : Name → Name → ConnectionsView → InstanceView
instance-of name target cs = record { name = name; target = target; connections = cs }

module _ (s : Structure) (m : ModuleView) (mi : IsIn m s.modules) where
  in-all : (y : InstanceView) → IsIn y m.instances → (z : ConnectionAt) → IsIn z (connections_of m y) → IsIn z (all_connections s)
  in-all y yi z h = in-flat connections_in m z s.modules mi (in-flat (connections_of m) y z m.instances yi h)

  module _ (name target : Name) where
    named-all : (cs : List ConnectionView) → IsIn (instance-of name target (ByName cs)) m.instances → (c : ConnectionView) → IsIn c cs → (j : ℕ) × (met : List Name) × IsIn (named-place m (instance-of name target (ByName cs)) j met c) (all_connections s)
    named-all cs yi c h =
        let there = named-in m (instance-of name target (ByName cs)) 1 [] cs c h in
        (there.0, there.1, in-all (instance-of name target (ByName cs)) yi (named-place m (instance-of name target (ByName cs)) there.0 there.1 c) there.2)

    placed-all : (vs : List (List BitView)) → IsIn (instance-of name target (ByPosition vs)) m.instances → (j : ℕ) (v : List BitView) → slice_get vs j ≡ Some v → IsIn (placed-place m (instance-of name target (ByPosition vs)) (1 + j) v) (all_connections s)
    placed-all vs yi j v e = in-all (instance-of name target (ByPosition vs)) yi (placed-place m (instance-of name target (ByPosition vs)) (1 + j) v) (placed-in m (instance-of name target (ByPosition vs)) 1 vs j v e)

    module _ (pins : first_of (unknown_pin s) ≡ None) where
      taken : (z : ConnectionAt) → IsIn z (all_connections s) → is_unknown_pin s z ≡ false
      taken z h = first-none (is_unknown_pin s) (all_connections s) z pins h

      -- an output port of a module
      module _ (inner : ModuleView) (is : module_named s target ≡ Some inner) (apart : IsApart (map (λ (q : PortView). q.name) inner.ports)) (j : ℕ) (p : PortView) (at : slice_get inner.ports j ≡ Some p) (out : is_input p ≡ false) where
        by-port : (z : ConnectionAt) → z.instance.target ≡ target → port_of inner z ≡ Some p → is_unknown_pin s z ≡ false → has_constant z.bits ≡ false
        by-port z of port e =
            let named : module_named s z.instance.target ≡ Some inner = ap (module_named s) of ∙ is in
            let judged : is_refused_port z (port_of inner z) ≡ false = rw named at e in
            let both = or-false (is_second z) (not (is_input p) && has_constant z.bits) (sym (ap (is_refused_port z) port) ∙ judged) in
            and-false (not (is_input p)) (has_constant z.bits) (ap not out) both.1

        port-clean : (cs : ConnectionsView) → IsIn (instance-of name target cs) m.instances → has_constant (connected inner.ports p.name cs) ≡ false
        port-clean (ByName cs) yi = of-named (λ bits. has_constant bits ≡ false) p.name cs refl
            (λ c h n.
            let there = named-all cs yi c h in
            let z = named-place m (instance-of name target (ByName cs)) there.0 there.1 c in
            by-port z refl (ap (λ t. first (λ (q : PortView). bytes_eq q.name t) inner.ports) n ∙ port-named inner.ports j p apart at) (taken z there.2))
        port-clean (ByPosition vs) yi = ap has_constant (placed-at inner.ports vs j p apart at) ∙ by (slice_get vs j) refl
          where
            by : (o : Option (List BitView)) → slice_get vs j ≡ o → has_constant (at-or-none o) ≡ false
            by None f = refl
            by (Some v) f =
                let z = placed-place m (instance-of name target (ByPosition vs)) (1 + j) v in
                let place : 1 + j - 1 ≡ j = omega arith in
                by-port z refl (ap (slice_get inner.ports) place ∙ at) (taken z (placed-all vs yi j v f))

      -- an output pin of a cell
      module _ (k : CellView) (none : module_named s target ≡ None) (is : cell_named s target ≡ Some k) (q : PinView) (qi : IsIn q k.pins) (out : is_output_pin q ≡ true) where
        by-pin : (z : ConnectionAt) (n : Name) → z.instance.target ≡ target → z.name ≡ Some n → n ≡ q.name → is_unknown_pin s z ≡ false → has_constant z.bits ≡ false
        by-pin z n of name_is same e =
            let named : module_named s z.instance.target ≡ None = ap (module_named s) of ∙ none in
            let cell : cell_named s z.instance.target ≡ Some k = ap (cell_named s) of ∙ is in
            let judged : is_refused_pin k z ≡ false = rw (cell, named) at e in
            let known : (not (has_pin k n) || (list_any (bytes_eq n) z.before || (has_output k n && has_constant z.bits))) ≡ false = rw name_is at judged in
            let later = or-false (not (has_pin k n)) (list_any (bytes_eq n) z.before || (has_output k n && has_constant z.bits)) known in
            let both = or-false (list_any (bytes_eq n) z.before) (has_output k n && has_constant z.bits) later.1 in
            let drives : has_output k n ≡ true = any-in (λ (x : PinView). bytes_eq x.name n && is_output_pin x) q k.pins qi (ap (λ b. b && is_output_pin q) (true-same_text q.name n (sym same)) ∙ out) in
            and-false (has_output k n) (has_constant z.bits) drives both.1

        pin-clean : (cs : ConnectionsView) → IsIn (instance-of name target cs) m.instances → has_constant (connected [] q.name cs) ≡ false
        pin-clean (ByName cs) yi = of-named (λ bits. has_constant bits ≡ false) q.name cs refl
            (λ c h n.
            let there = named-all cs yi c h in
            let z = named-place m (instance-of name target (ByName cs)) there.0 there.1 c in
            by-pin z c.port refl refl n (taken z there.2))
        pin-clean (ByPosition vs) yi = refl

    -- a power or ground pin of a cell
    module _ (powers : first_of (already_powered s) ≡ None) (k : CellView) (is : cell_named s target ≡ Some k) (g : PgPinView) (gi : IsIn g k.pgs) where
      by-pg : (z : ConnectionAt) (n : Name) → z.instance.target ≡ target → z.name ≡ Some n → n ≡ g.name → is_powered s z ≡ false → ⊥
      by-pg z n of name_is same e =
          let cell : cell_named s z.instance.target ≡ Some k = ap (cell_named s) of ∙ is in
          let judged : has_pg k n ≡ false = rw (cell, name_is) at e in
          true≢false (sym (any-in (λ (x : PgPinView). bytes_eq x.name n) g k.pgs gi (true-same_text g.name n (sym same))) ∙ judged)

      pg-open : (cs : ConnectionsView) → IsIn (instance-of name target cs) m.instances → connected [] g.name cs ≡ []
      pg-open (ByName cs) yi = of-named (λ bits. bits ≡ []) g.name cs refl
          (λ c h n.
          let there = named-all cs yi c h in
          let z = named-place m (instance-of name target (ByName cs)) there.0 there.1 c in
          absurd (by-pg z c.port refl refl n (first-none (is_powered s) (all_connections s) z powers there.2)))
      pg-open (ByPosition vs) yi = refl

-- ---- the same by the instance

module _ (s : Structure) (m : ModuleView) (mi : IsIn m s.modules) (y : InstanceView) (yi : IsIn y m.instances) where
  -- an output port of a module
  pub output-clean : first_of (unknown_pin s) ≡ None → (inner : ModuleView) → module_named s y.target ≡ Some inner → IsApart (map (λ (q : PortView). q.name) inner.ports) → (j : ℕ) (p : PortView) → slice_get inner.ports j ≡ Some p → is_input p ≡ false
      → has_constant (connected inner.ports p.name y.connections) ≡ false
  output-clean pins inner is apart j p at out = port-clean s m mi y.name y.target pins inner is apart j p at out y.connections yi

  -- an output pin of a cell
  pub drive-clean : first_of (unknown_pin s) ≡ None → (k : CellView) → module_named s y.target ≡ None → cell_named s y.target ≡ Some k → (q : PinView) → IsIn q k.pins → is_output_pin q ≡ true → has_constant (connected [] q.name y.connections) ≡ false
  drive-clean pins k none is q qi out = pin-clean s m mi y.name y.target pins k none is q qi out y.connections yi

  -- a power or ground pin
  pub power-open : first_of (already_powered s) ≡ None → (k : CellView) → cell_named s y.target ≡ Some k → (g : PgPinView) → IsIn g k.pgs → connected [] g.name y.connections ≡ []
  power-open powers k is g gi = pg-open s m mi y.name y.target powers k is g gi y.connections yi
