-- The first connection that names a power or ground pin, by numbers and by the texts.
use Rattle.std.proofs.Common.{◌≡◌, ℕ, ◌+◌, ◌<◌, true, false, cond, List, [], ◌∷◌, length, Option, Some, None, refl, sym, ap, ◌∙◌}
use Rattle.std.specs.Prelude.{slice_get, codes}
use Rattle.std.specs.List.{flat_map}
use Rattle.std.specs.Option.{option_map, option_map_or}
use Rattle.lp_text.specs.Texts.{text_at, distinct}
use Rattle.lp_text.specs.declared.names.NameId.{NameId}
use Rattle.lp_model.specs.Agreement.{numbers_below}
use Rattle.lp_model.specs.declared.bits.Bit.{Bit}
use Rattle.lp_model.specs.declared.fault.netlist.NetlistFault.TheVariants as faults
use Rattle.lp_model.specs.declared.library.Cell.{Cell}
use Rattle.lp_model.specs.declared.library.Library.{Library}
use Rattle.lp_model.specs.declared.netlist.Connection.{Connection}
use Rattle.lp_model.specs.declared.netlist.Connections.{Connections}
use Rattle.lp_model.specs.declared.netlist.Connections.TheVariants.{Named, Ordered}
use Rattle.lp_model.specs.declared.netlist.Instance.{Instance}
use Rattle.lp_model.specs.declared.netlist.Module.{Module}
use Rattle.lp_model.specs.declared.netlist.Netlist.{Netlist}
use Rattle.lp_model.specs.NetlistView.{ModuleView, instance_view, module_view, bits_numbers, connection_numbers, connections_numbers}
use Rattle.lp_model.specs.LibraryView.{CellView, cell_view}
use Rattle.lp_spec_design.specs.Keys.{Name}
use Rattle.lp_spec_design.specs.Netlists.{Structure, first, cell_named}
use Rattle.lp_spec_faults.specs.Wires.{ConnectionAt, connections_of, is_powered, pin_field}
use Rattle.lp_spec_faults.specs.Wires as wires
use Rattle.lp_places.specs.Places.{has_number}
use Rattle.lp_places.proofs.Numbers.{below-left, below-right, below-head, below-tail}
use Rattle.lp_targets.specs.Reports.{Report, report_of}
use Rattle.lp_targets.specs.Structures.{structure_of, AreNamed}
use Rattle.lp_targets.specs.declared.target.Target.{Target}
use Rattle.lp_targets.specs.declared.target.Target.TheVariants.{OfModule, OfCell}
use Rattle.lp_connections.specs.Parts.{Parts, parts_of, has_pg, pg_names}
use Rattle.lp_connections.specs.Numbered.{powered_pin_of, at_of, power_fault, found_at}
use Rattle.lp_connections.proofs.Lists.{map_map_some, first-never}
use Rattle.lp_connections.proofs.Parallel.{IsOf}
use Rattle.lp_connections.proofs.Ports.{cell-there, no-cell, pg-same}
use Rattle.lp_connections.proofs.SamePins.{named_at, placed_at, instance_with}
use Rattle.lp_connections.proofs.Each.{AllFit, named_each, placed_each}

-- it is judged by the cell that its instance is of
by-cell : (s : Structure) (c : ConnectionAt) (name : Name) (k : CellView) → c.name ≡ Some name → cell_named s c.instance.target ≡ Some k → is_powered s c ≡ wires.has_pg k name
by-cell s c name k e f = rw (f, e) refl

no-name : (s : Structure) (c : ConnectionAt) (o : Option CellView) → c.name ≡ None → cell_named s c.instance.target ≡ o → is_powered s c ≡ false
no-name s c None e f = rw (f) refl
no-name s c (Some k) e f = rw (f, e) refl

no-power : (s : Structure) (c : ConnectionAt) → cell_named s c.instance.target ≡ None → is_powered s c ≡ false
no-power s c e = rw e refl

-- the line of its fault
abbrev pub told_power : ConnectionAt → Report
told_power c = (codes "F20 AlreadyPowered", c.parent.name ∷ c.instance.name ∷ pin_field c ∷ [])

found-nothing : {A B : Type 0} (k : ℕ) (xs : List A) → found_at {B = B} (λ j x. None) k xs ≡ None
found-nothing k [] = refl
found-nothing {B = B} k (x ∷ xs) = found-nothing {B = B} (k + 1) xs

module _ (texts : List (List ℕ)) (apart : distinct texts ≡ true) (n : Netlist) (l : Library) (are_named : AreNamed texts n l) where
  abbrev Below : List ℕ → Type 0
  Below ks = numbers_below (length texts) ks ≡ true

  abbrev s : Structure
  s = structure_of texts n l

  abbrev d : Parts
  d = parts_of n.modules l.cells

  abbrev Within : Connection → Type 0
  Within c = c.port.0 < length texts

  pub all_within : (cs : List Connection) → Below (flat_map connection_numbers cs) → AllFit Within cs
  all_within [] below = tt
  all_within (c ∷ cs) below = (
    below-head (length texts) c.port.0 (bits_numbers c.bits) (below-left (length texts) (connection_numbers c) (flat_map connection_numbers cs) below),
    all_within cs (below-right (length texts) (connection_numbers c) (flat_map connection_numbers cs) below),
  )

  module _ (m : Module) (x : Instance) where
    abbrev parent : ModuleView
    parent = module_view texts m

    abbrev told : Connection → Report
    told c = (codes "F20 AlreadyPowered", parent.name ∷ text_at texts x.name.0 ∷ text_at texts c.port.0 ∷ [])

    named-power : (all : Connections) (a : ℕ) → IsOf texts s (OfCell a) x → (o : Option Cell) → slice_get l.cells a ≡ o → (k : ℕ) (before : List Name) (c : Connection) → c.port.0 < length texts → is_powered s (named_at texts parent (instance_with texts x all) k before c) ≡ has_pg d a c.port.0
    named-power all a is (Some cell) e k before c h =
        by-cell s (named_at texts parent (instance_with texts x all) k before c) (text_at texts c.port.0) (cell_view texts cell) refl (is.of_cell ∙ cell-there texts apart n l are_named a cell e)
        ∙ pg-same texts apart n l are_named a cell e c.port.0 h
    named-power all a is None e k before c h =
        no-power s (named_at texts parent (instance_with texts x all) k before c) (is.of_cell ∙ no-cell texts apart n l are_named a e)
        ∙ sym (ap (λ o. option_map_or (λ (y : Cell). has_number c.port.0 (pg_names y.pgs)) o false) e)

    placed-power : (all : Connections) (k : ℕ) (v : List Bit) → is_powered s (placed_at texts parent (instance_with texts x all) k v) ≡ false
    placed-power all k v = no-name s (placed_at texts parent (instance_with texts x all) k v) (cell_named s (text_at texts x.target.0)) refl refl

    no-placed : (all : Connections) (vs : List (List Bit)) → option_map told_power (first (is_powered s) (connections_of parent (instance_with texts x (Ordered vs)))) ≡ None
    no-placed all vs =
        placed_each texts parent (instance_with texts x (Ordered vs)) (is_powered s) told_power (λ j v. None) told
        (λ j v. ap (λ b. option_map told_power (cond b (Some (placed_at texts parent (instance_with texts x (Ordered vs)) (j + 1) v)) None)) (placed-power (Ordered vs) (j + 1) v))
        vs 0
        ∙ ap (option_map told) (found-nothing {B = Connection} 0 vs)

    no-named : (cs : List Connection) → cell_named s (text_at texts x.target.0) ≡ None → option_map told_power (first (is_powered s) (connections_of parent (instance_with texts x (Named cs)))) ≡ None
    no-named cs e =
        named_each texts parent (instance_with texts x (Named cs)) (is_powered s) told_power (λ c. false) told (λ c. Unit {0})
        (λ k before c u. no-power s (named_at texts parent (instance_with texts x (Named cs)) k before c) e) (λ k before c. refl) cs 1 [] (units cs)
        ∙ ap (option_map told) (first-never (λ c. false) cs (λ c. refl))
      where
        units : (cs : List Connection) → AllFit (λ c. Unit {0}) cs
        units [] = tt
        units (c ∷ cs) = (tt, units cs)

    abbrev say_name : NameId → Report
    say_name pin = report_of texts (faults.AlreadyPowered (at_of m.name x) pin)

    by-target : (t : Target) → IsOf texts s t x → (cs : Connections) → Below (connections_numbers cs) → option_map told_power (first (is_powered s) (connections_of parent (instance_with texts x cs))) ≡ option_map say_name (powered_pin_of d t cs)
    by-target (OfModule a) is (Named cs) below = no-named cs is.of_cell
    by-target (OfModule a) is (Ordered vs) below = no-placed (Ordered vs) vs
    by-target (OfCell a) is (Ordered vs) below = no-placed (Ordered vs) vs
    by-target (OfCell a) is (Named cs) below =
        named_each texts parent (instance_with texts x (Named cs)) (is_powered s) told_power (λ (c : Connection). has_pg d a c.port.0) told Within
        (named-power (Named cs) a is (slice_get l.cells a) refl) (λ k before c. refl) cs 1 [] (all_within cs below)
        ∙ sym (map_map_some say_name (λ (c : Connection). c.port) (first (λ (c : Connection). has_pg d a c.port.0) cs))

    pub power_same : (t : Target) → IsOf texts s t x → option_map told_power (first (is_powered s) (connections_of parent (instance_view texts x))) ≡ option_map (report_of texts) (power_fault d m.name t x)
    power_same t is =
        by-target t is x.connections (below-tail (length texts) x.target.0 (connections_numbers x.connections) (below-tail (length texts) x.name.0 (x.target.0 ∷ connections_numbers x.connections) is.below))
        ∙ sym (map_map_some (report_of texts) (λ pin. faults.AlreadyPowered (at_of m.name x) pin) (powered_pin_of d t x.connections))
