-- The first connection that no port or pin takes, by numbers and by the texts.
use Rattle.std.proofs.Common.{◌≡◌, ℕ, ◌+◌, ◌-◌, ◌<◌, Bool, true, false, not, ◌&&◌, ◌||◌, cond, List, [], ◌∷◌, ◌++◌, length, map, Option, Some, None, is_some, refl, sym, ap, ◌∙◌, arith}
use Rattle.std.specs.Prelude.{slice_get, codes, decimal}
use Rattle.std.specs.List.{flat_map}
use Rattle.std.specs.Option.{option_map}
use Rattle.std.proofs.lemmas.List.{map-append}
use Rattle.std.proofs.lemmas.List.Folds.{list_all-append}
use Rattle.std.proofs.lemmas.Option.{slice_get-map}
use Rattle.std.specs.Prelude.{ltb}
use Rattle.lp_text.specs.Texts.{text_at, distinct}
use Rattle.lp_text.specs.declared.names.NameId.{NameId}
use Rattle.lp_model.specs.Agreement.{numbers_below}
use Rattle.lp_model.specs.declared.bits.Bit.{Bit}
use Rattle.lp_model.specs.declared.bits.Bit.TheVariants.{Net, Select, Const}
use Rattle.lp_model.specs.declared.fault.netlist.NetlistFault.TheVariants as faults
use Rattle.lp_model.specs.declared.fault.netlist.PinRef.{PinRef}
use Rattle.lp_model.specs.declared.fault.netlist.PinRef.TheVariants as pins
use Rattle.lp_model.specs.declared.library.Cell.{Cell}
use Rattle.lp_model.specs.declared.library.Library.{Library}
use Rattle.lp_model.specs.declared.netlist.Connection.{Connection}
use Rattle.lp_model.specs.declared.netlist.Connections.{Connections}
use Rattle.lp_model.specs.declared.netlist.Connections.TheVariants.{Named, Ordered}
use Rattle.lp_model.specs.declared.netlist.Direction.{Direction}
use Rattle.lp_model.specs.declared.netlist.Direction.TheVariants.{Input, Output}
use Rattle.lp_model.specs.declared.netlist.Instance.{Instance}
use Rattle.lp_model.specs.declared.netlist.Module.{Module}
use Rattle.lp_model.specs.declared.netlist.Netlist.{Netlist}
use Rattle.lp_model.specs.declared.netlist.Port.{Port}
use Rattle.lp_model.specs.NetlistView as nets
use Rattle.lp_model.specs.NetlistView.{BitView, PortView, InstanceView, ModuleView, bits_view, port_view, connection_view, instance_view, module_view, bits_numbers, connection_numbers, connections_numbers, instance_numbers}
use Rattle.lp_model.specs.LibraryView.{CellView, cell_view}
use Rattle.lp_spec_design.specs.Keys.{Name}
use Rattle.lp_spec_design.specs.Netlists.{Structure, first, module_named, cell_named, is_input}
use Rattle.lp_spec_faults.specs.Wires as wires
use Rattle.lp_spec_faults.specs.Wires.{ConnectionAt, named_from, placed_from, connections_of, port_of, is_second, is_refused_port, is_refused_pin, is_unknown_pin, pin_field}
use Rattle.lp_places.specs.Places.{has_number}
use Rattle.lp_places.proofs.Numbers.{below-left, below-right, below-head, below-tail}
use Rattle.lp_targets.specs.Reports.{Report, report_of, or_else}
use Rattle.lp_targets.specs.Structures.{structure_of, AreNamed}
use Rattle.lp_targets.specs.Targets.{module_of, cell_of}
use Rattle.lp_targets.specs.declared.target.Target.{Target}
use Rattle.lp_targets.specs.declared.target.Target.TheVariants.{OfModule, OfCell}
use Rattle.lp_connections.specs.Parts.{Parts, is_outward, is_there, parts_of, port_placed, port_named}
use Rattle.lp_connections.specs.Numbered as numbered
use Rattle.lp_connections.specs.Numbered.{found_at, refuses, refuses_named, refuses_placed, first_named, refused_at, first_placed, refused_in, unknown_pin_of, at_of, pin_fault}
use Rattle.lp_connections.proofs.Lists.{map_map_some, some_if_said}
use Rattle.lp_connections.proofs.Named.{among_same}
use Rattle.lp_connections.proofs.Parallel.{IsOf}
use Rattle.lp_connections.proofs.Ports.{module-there, cell-there, no-module, no-cell, port-placed, port-named, pin-same, output-same}

-- ---- what a connection is judged by

-- it is judged by the module that its instance is of
by-module : (s : Structure) (c : ConnectionAt) (m : ModuleView) → module_named s c.instance.target ≡ Some m → is_unknown_pin s c ≡ is_refused_port c (port_of m c)
by-module s c m e = rw e refl

-- else by the cell
by-cell : (s : Structure) (c : ConnectionAt) (k : CellView) → module_named s c.instance.target ≡ None → cell_named s c.instance.target ≡ Some k → is_unknown_pin s c ≡ is_refused_pin k c
by-cell s c k e f = rw (f, e) refl

by-nothing : (s : Structure) (c : ConnectionAt) → module_named s c.instance.target ≡ None → cell_named s c.instance.target ≡ None → is_unknown_pin s c ≡ false
by-nothing s c e f = rw (f, e) refl

-- what names a port or pin
abbrev pub named_at : List (List ℕ) → ModuleView → InstanceView → ℕ → List Name → Connection → ConnectionAt
named_at texts m x k before c = record { parent = m; instance = x; number = k; name = Some (text_at texts c.port.0); bits = bits_view texts c.bits; before = before }

-- what stands at a position
abbrev pub placed_at : List (List ℕ) → ModuleView → InstanceView → ℕ → List Bit → ConnectionAt
placed_at texts m x k v = record { parent = m; instance = x; number = k; name = None; bits = bits_view texts v; before = [] }

-- an instance with these connections
abbrev pub instance_with : List (List ℕ) → Instance → Connections → InstanceView
instance_with texts x cs = record { name = text_at texts x.name.0; target = text_at texts x.target.0; connections = nets.connections_view texts cs }

constants : (texts : List (List ℕ)) (bits : List Bit) → wires.has_constant (bits_view texts bits) ≡ numbered.has_constant bits
constants texts [] = refl
constants texts (Net name ∷ bits) = constants texts bits
constants texts (Select name index ∷ bits) = constants texts bits
constants texts (Const value ∷ bits) = refl

outward : (texts : List (List ℕ)) (p : Port) → not (is_input (port_view texts p)) ≡ is_outward p.direction
outward texts p = by p.direction refl
  where
    by : (d : Direction) → p.direction ≡ d → not (is_input (port_view texts p)) ≡ is_outward p.direction
    by Input e = rw e refl
    by Output e = rw e refl

refuses-port : (texts : List (List ℕ)) (c : ConnectionAt) (o : Option Port) (second : Bool) (bits : List Bit) → is_second c ≡ second → c.bits ≡ bits_view texts bits → is_refused_port c (option_map (port_view texts) o) ≡ refuses o second bits
refuses-port texts c None second bits e f = refl
refuses-port texts c (Some p) second bits e f =
    λ i. e i || (outward texts p i && (ap wires.has_constant f ∙ constants texts bits) i)

-- the port at a position
pub port-at : (texts : List (List ℕ)) (m : Module) (j : ℕ) → slice_get (map (port_view texts) m.ports) (j + 1 - 1) ≡ option_map (port_view texts) (slice_get m.ports j)
port-at texts m j =
    let e : j + 1 - 1 ≡ j = omega arith in
    ap (slice_get (map (port_view texts) m.ports)) e ∙ slice_get-map (port_view texts) m.ports j

nothing : {A : Type 0} (o : Option A) → is_some o ≡ false → o ≡ None
nothing None e = refl
nothing (Some x) e = cc

-- the line of its fault
abbrev pub said : ConnectionAt → Report
said c = (codes "F14 UnknownPin", c.parent.name ∷ c.instance.name ∷ pin_field c ∷ [])

module _ (texts : List (List ℕ)) (apart : distinct texts ≡ true) (n : Netlist) (l : Library) (are_named : AreNamed texts n l) where
  abbrev Below : List ℕ → Type 0
  Below ks = numbers_below (length texts) ks ≡ true

  abbrev s : Structure
  s = structure_of texts n l

  abbrev d : Parts
  d = parts_of n.modules l.cells

  -- a place where nothing stands is none of the netlist and none of the library
  gone : (t : Target) → is_there d t ≡ false → (module_of s t ≡ None) × (cell_of s t ≡ None)
  gone (OfModule a) e = (no-module texts apart n l are_named a (nothing (slice_get n.modules a) e), refl)
  gone (OfCell a) e = (refl, no-cell texts apart n l are_named a (nothing (slice_get l.cells a) e))

  module _ (parent : ModuleView) (x : Instance) where
    abbrev seen : Connections → InstanceView
    seen all = instance_with texts x all

    -- ---- named connections

    module _ (all : Connections) (k : ℕ) (before : List ℕ) (c : Connection) (h : c.port.0 < length texts) (below : Below before) where
      abbrev named : ConnectionAt
      named = named_at texts parent (seen all) k (map (text_at texts) before) c

      second : is_second named ≡ has_number c.port.0 before
      second = among_same texts apart c.port.0 before h below

      in-module : (a : ℕ) → IsOf texts s (OfModule a) x → (o : Option Module) → slice_get n.modules a ≡ o → is_some o ≡ true → is_unknown_pin s named ≡ refuses_named d (OfModule a) (has_number c.port.0 before) c
      in-module a is None e some = cc
      in-module a is (Some m) e some =
          by-module s named (module_view texts m) (is.of_module ∙ module-there texts apart n l are_named a m e)
          ∙ ap (is_refused_port named) (port-named texts apart n l are_named a m e c.port.0 h)
          ∙ refuses-port texts named (port_named d a c.port.0) (has_number c.port.0 before) c.bits second refl

      in-cell : (a : ℕ) → IsOf texts s (OfCell a) x → (o : Option Cell) → slice_get l.cells a ≡ o → is_some o ≡ true → is_unknown_pin s named ≡ refuses_named d (OfCell a) (has_number c.port.0 before) c
      in-cell a is None e some = cc
      in-cell a is (Some k) e some =
          by-cell s named (cell_view texts k) is.of_module (is.of_cell ∙ cell-there texts apart n l are_named a k e)
          ∙ (λ i. not (pin-same texts apart n l are_named a k e c.port.0 h i) || (second i || (output-same texts apart n l are_named a k e c.port.0 h i && constants texts c.bits i)))

      named-test : (t : Target) → IsOf texts s t x → is_there d t ≡ true → is_unknown_pin s named ≡ refuses_named d t (has_number c.port.0 before) c
      named-test (OfModule a) is there = in-module a is (slice_get n.modules a) refl there
      named-test (OfCell a) is there = in-cell a is (slice_get l.cells a) refl there

    module _ (t : Target) (is : IsOf texts s t x) (there : is_there d t ≡ true) (all : Connections) where
      abbrev say_name : NameId → Report
      say_name name = (codes "F14 UnknownPin", parent.name ∷ text_at texts x.name.0 ∷ text_at texts name.0 ∷ [])

      named-list : (cs : List Connection) (k : ℕ) (before : List ℕ) → Below (flat_map connection_numbers cs) → Below before → option_map said (first (is_unknown_pin s) (named_from parent (seen all) k (map (text_at texts) before) (map (connection_view texts) cs))) ≡ option_map say_name (first_named d t before cs)
      named-list [] k before below so = refl
      named-list (c ∷ cs) k before below so =
          let numbers = connection_numbers c in
          let here = below-left (length texts) numbers (flat_map connection_numbers cs) below in
          let behind = below-right (length texts) numbers (flat_map connection_numbers cs) below in
          let h = below-head (length texts) c.port.0 (bits_numbers c.bits) here in
          let one : Below (c.port.0 ∷ []) = below-left (length texts) (c.port.0 ∷ []) (bits_numbers c.bits) here in
          let more : Below (before ++ c.port.0 ∷ []) = list_all-append (λ j. ltb j (length texts)) before (c.port.0 ∷ []) ∙ (λ i. so i && one i) in
          let rest = first (is_unknown_pin s) (named_from parent (seen all) (k + 1) (map (text_at texts) (before ++ c.port.0 ∷ [])) (map (connection_view texts) cs)) in
          (λ i. option_map said (cond (named-test all k before c h so t is there i) (Some (named_at texts parent (seen all) k (map (text_at texts) before) c)) (first (is_unknown_pin s) (named_from parent (seen all) (k + 1) (sym (map-append (text_at texts) before (c.port.0 ∷ [])) i) (map (connection_view texts) cs)))))
          ∙ some_if_said said say_name (refuses_named d t (has_number c.port.0 before) c) (named_at texts parent (seen all) k (map (text_at texts) before) c) c.port rest (first_named d t (before ++ c.port.0 ∷ []) cs) refl (named-list cs (k + 1) (before ++ c.port.0 ∷ []) behind more)

    -- ---- connections by position

    module _ (all : Connections) (j : ℕ) (v : List Bit) where
      abbrev placed : ConnectionAt
      placed = placed_at texts parent (seen all) (j + 1) v

      place-in-module : (a : ℕ) → IsOf texts s (OfModule a) x → (o : Option Module) → slice_get n.modules a ≡ o → is_some o ≡ true → is_unknown_pin s placed ≡ refuses_placed d (OfModule a) j v
      place-in-module a is None e some = cc
      place-in-module a is (Some m) e some =
          by-module s placed (module_view texts m) (is.of_module ∙ module-there texts apart n l are_named a m e)
          ∙ ap (is_refused_port placed) (port-at texts m j ∙ ap (option_map (port_view texts)) (sym (port-placed texts apart n l are_named a m e j)))
          ∙ refuses-port texts placed (port_placed d a j) false v refl refl

      place-in-cell : (a : ℕ) → IsOf texts s (OfCell a) x → (o : Option Cell) → slice_get l.cells a ≡ o → is_some o ≡ true → is_unknown_pin s placed ≡ true
      place-in-cell a is None e some = cc
      place-in-cell a is (Some k) e some = by-cell s placed (cell_view texts k) is.of_module (is.of_cell ∙ cell-there texts apart n l are_named a k e)

      placed-test : (t : Target) → IsOf texts s t x → is_there d t ≡ true → is_unknown_pin s placed ≡ refuses_placed d t j v
      placed-test (OfModule a) is there = place-in-module a is (slice_get n.modules a) refl there
      placed-test (OfCell a) is there = place-in-cell a is (slice_get l.cells a) refl there

    module _ (t : Target) (is : IsOf texts s t x) (there : is_there d t ≡ true) (all : Connections) where
      abbrev say_place : ℕ → Report
      say_place k = (codes "F14 UnknownPin", parent.name ∷ text_at texts x.name.0 ∷ decimal k ∷ [])

      placed-list : (vs : List (List Bit)) (j : ℕ) → option_map said (first (is_unknown_pin s) (placed_from parent (seen all) (j + 1) (map (bits_view texts) vs))) ≡ option_map say_place (first_placed d t j vs)
      placed-list [] j = refl
      placed-list (v ∷ vs) j =
          (λ i. option_map said (cond (placed-test all j v t is there i) (Some (placed_at texts parent (seen all) (j + 1) v)) (first (is_unknown_pin s) (placed_from parent (seen all) (j + 1 + 1) (map (bits_view texts) vs)))))
          ∙ by (refuses_placed d t j v) (placed-list vs (j + 1))
        where
          by : (b : Bool) → option_map said (first (is_unknown_pin s) (placed_from parent (seen all) (j + 1 + 1) (map (bits_view texts) vs))) ≡ option_map say_place (first_placed d t (j + 1) vs) → option_map said (cond b (Some (placed_at texts parent (seen all) (j + 1) v)) (first (is_unknown_pin s) (placed_from parent (seen all) (j + 1 + 1) (map (bits_view texts) vs)))) ≡ option_map say_place (or_else (cond b (Some (j + 1)) None) (first_placed d t (j + 1) vs))
          by true e = refl
          by false e = e

    -- ---- of nothing

    module _ (no_module : module_named s (text_at texts x.target.0) ≡ None) (no_cell : cell_named s (text_at texts x.target.0) ≡ None) (all : Connections) where
      named-never : (cs : List Connection) (k : ℕ) (before : List Name) → first (is_unknown_pin s) (named_from parent (seen all) k before (map (connection_view texts) cs)) ≡ None
      named-never [] k before = refl
      named-never (c ∷ cs) k before =
          ap (λ b. cond b (Some (named_at texts parent (seen all) k before c)) (first (is_unknown_pin s) (named_from parent (seen all) (k + 1) (before ++ text_at texts c.port.0 ∷ []) (map (connection_view texts) cs)))) (by-nothing s (named_at texts parent (seen all) k before c) no_module no_cell)
          ∙ named-never cs (k + 1) (before ++ text_at texts c.port.0 ∷ [])

      placed-never : (vs : List (List Bit)) (k : ℕ) → first (is_unknown_pin s) (placed_from parent (seen all) k (map (bits_view texts) vs)) ≡ None
      placed-never [] k = refl
      placed-never (v ∷ vs) k =
          ap (λ b. cond b (Some (placed_at texts parent (seen all) k v)) (first (is_unknown_pin s) (placed_from parent (seen all) (k + 1) (map (bits_view texts) vs)))) (by-nothing s (placed_at texts parent (seen all) k v) no_module no_cell)
          ∙ placed-never vs (k + 1)

  -- ---- an instance

  module _ (m : Module) (x : Instance) where
    abbrev say_pin : PinRef → Report
    say_pin pin = report_of texts (faults.UnknownPin (at_of m.name x) pin)

    there-same : (t : Target) → IsOf texts s t x → is_there d t ≡ true → (cs : Connections) → Below (connections_numbers cs) → option_map said (first (is_unknown_pin s) (connections_of (module_view texts m) (instance_with texts x cs))) ≡ option_map say_pin (refused_in d t cs)
    there-same t is there (Named cs) below =
        named-list (module_view texts m) x t is there (Named cs) cs 1 [] below refl
        ∙ sym (map_map_some say_pin (λ name. pins.Named name) (first_named d t [] cs))
    there-same t is there (Ordered vs) below =
        placed-list (module_view texts m) x t is there (Ordered vs) vs 0
        ∙ sym (map_map_some say_pin (λ k. pins.Ordered k) (first_placed d t 0 vs))

    never-same : (cs : Connections) → module_named s (text_at texts x.target.0) ≡ None → cell_named s (text_at texts x.target.0) ≡ None → option_map said (first (is_unknown_pin s) (connections_of (module_view texts m) (instance_with texts x cs))) ≡ None
    never-same (Named cs) e f = ap (option_map said) (named-never (module_view texts m) x e f (Named cs) cs 1 [])
    never-same (Ordered vs) e f = ap (option_map said) (placed-never (module_view texts m) x e f (Ordered vs) vs 1)

    pub pins_same : (t : Target) → IsOf texts s t x → option_map said (first (is_unknown_pin s) (connections_of (module_view texts m) (instance_view texts x))) ≡ option_map (report_of texts) (pin_fault d m.name t x)
    pins_same t is = by (is_there d t) refl ∙ sym (map_map_some (report_of texts) (λ pin. faults.UnknownPin (at_of m.name x) pin) (unknown_pin_of d t x.connections))
      where
        by : (b : Bool) → is_there d t ≡ b → option_map said (first (is_unknown_pin s) (connections_of (module_view texts m) (instance_view texts x))) ≡ option_map say_pin (unknown_pin_of d t x.connections)
        by true e =
            there-same t is e x.connections (below-tail (length texts) x.target.0 (connections_numbers x.connections) (below-tail (length texts) x.name.0 (x.target.0 ∷ connections_numbers x.connections) is.below))
            ∙ sym (ap (λ b. option_map say_pin (cond b (refused_in d t x.connections) None)) e)
        by false e =
            let none = gone t e in
            never-same x.connections (is.of_module ∙ none.0) (is.of_cell ∙ none.1)
            ∙ sym (ap (λ b. option_map say_pin (cond b (refused_in d t x.connections) None)) e)
