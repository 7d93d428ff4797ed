-- What the tests say of a module that is taken and fits its cells.
use Rattle.std.proofs.Common.{◌≡◌, ℕ, Bool, true, false, not, ◌&&◌, ◌||◌, cond, List, [], ◌∷◌, map, Option, Some, None, refl, sym, ◌∙◌, ap, subst}
use Rattle.std.specs.Prelude.{bytes_eq, is_none, is_some}
use Rattle.std.specs.List.{list_all}
use Rattle.std.proofs.lemmas.Bool.{false≢true, and_parts, and_from}
use Rattle.std.proofs.lemmas.List.Folds.{list_all-append, list_all-map}
use Rattle.std.proofs.lemmas.Slice.Eq.{bytes_eq-Decides}
use Rattle.lp_text.specs.Texts.{has_text, distinct}
use Rattle.lp_model.specs.declared.netlist.BitRange.{BitRange}
use Rattle.lp_model.specs.declared.reason.Reason.{Reason}
use Rattle.lp_model.specs.NetlistView.{BitView, NetBit, SelectBit, ConstBit, PortView, NetView, ConnectionView, ConnectionsView, ByName, ByPosition, InstanceView, AssignView, ModuleView}
use Rattle.lp_model.specs.LibraryView.{PgPinView, PinView, CellView}
use Rattle.lp_spec_design.specs.Keys.{Name}
use Rattle.lp_spec_design.specs.Netlists.{first}
use Rattle.lp_spec_plain.specs.Cells.{is_related_pin, loses_with_supply, takes_one_supply}
use Rattle.lp_spec_plain_module.specs.Tests.{is_pg_name, has_names_apart, is_free_bit, is_free_connection, are_free, fits_cell, is_flat_instance, has_no_assign}
use Rattle.lp_spec_plain_module.proofs.Lists.{all-weaker}
use Rattle.lp_vwrite.specs.Layout.{declared}
use Rattle.lp_vwrite.specs.WellFormed.{is_name, declaration, is_scalar, has_index, is_bit, is_connection, are_connections, is_instance, is_net, is_module, names_of}
use Rattle.lp_vwrite.specs.Sound.{is_read_connections, is_read_instance, is_read_module}
use Rattle.lp_spec_plain_netlist.specs.Single.{is_single_instance, is_single_module}
use Rattle.lp_spec_plain_netlist.specs.Fits.{cell_named, is_extra, is_taken, has_pg_names, has_related_pins, is_switched_inside, is_known_cell, is_read_cell, are_read, connected_names, pin_names, names_pins, is_joined, is_fit, is_plain_target}
use Rattle.lp_spec_plain_netlist.specs.Flats.{flat_of}
use Rattle.lp_spec_plain_netlist.proofs.Names.{is_free, free-supply, has-passes, lookup-passes}

module _ (m : ModuleView) (single : is_single_module m ≡ true) where
  pub behind_nets : (list_all is_single_instance m.instances && (has_no_assign m.assigns && list_all is_free (m.name ∷ names_of m))) ≡ true
  behind_nets = let ports = and_parts _ _ single in let nets = and_parts _ _ ports.1 in nets.1

  pub no_assign : m.assigns ≡ []
  no_assign = by m.assigns (let instances = and_parts _ _ behind_nets in let assigns = and_parts _ _ instances.1 in assigns.0)
    where
      by : (xs : List AssignView) → has_no_assign xs ≡ true → xs ≡ []
      by [] e = refl
      by (x ∷ xs) e = absurd (false≢true e)

  -- names of the source have not the beginning of those that are added
  pub names_free : list_all is_free (names_of m) ≡ true
  names_free =
      let instances = and_parts _ _ behind_nets in
      let assigns = and_parts _ _ instances.1 in
      (and_parts (is_free m.name) (list_all is_free (names_of m)) assigns.1).1

  declared_names_free : list_all is_free (map (λ n. n.0) (declared m)) ≡ true
  declared_names_free = (and_parts _ _ (sym (list_all-append is_free (map (λ n. n.0) (declared m)) (map (λ (i : InstanceView). i.name) m.instances)) ∙ names_free)).0

  pub declared_free : list_all (λ n. is_free n.0) (declared m) ≡ true
  declared_free = sym (list_all-map is_free (λ n. n.0) (declared m)) ∙ declared_names_free

  pub ports_free : list_all (λ (p : PortView). is_free p.name) m.ports ≡ true
  ports_free =
      sym (list_all-map (λ n. is_free n.0) (λ (p : PortView). (p.name, p.range)) m.ports)
      ∙ (and_parts _ _ (sym (list_all-append (λ n. is_free n.0) (map (λ (p : PortView). (p.name, p.range)) m.ports) (map (λ (n : NetView). (n.name, n.range)) m.nets)) ∙ declared_free)).0

-- the cell has names of its own for its power and ground pins
abbrev pub has_target_names : Option CellView → Bool
has_target_names None = true
has_target_names (Some c) = has_pg_names c

-- what stands of each cell that can be used stands of the cell
abbrev pub is_known_target : Option CellView → Bool
is_known_target None = true
is_known_target (Some c) = is_known_cell c

-- what the test of a module that fits says, where it and the cells were read
pub record IsFit (cells : List CellView) (m : ModuleView) : Type 0 where
  pub no_cell : cell_named cells m.name ≡ None
  pub joined : list_all (λ (x : InstanceView). is_joined x (cell_named cells x.target)) m.instances ≡ true
  pub known : list_all (λ (x : InstanceView). is_known_target (cell_named cells x.target)) m.instances ≡ true
  pub named : list_all (λ (x : InstanceView). has_target_names (cell_named cells x.target)) m.instances ≡ true
  pub written : is_module m ≡ true

none_by : (o : Option CellView) → is_none o ≡ true → o ≡ None
none_by None e = refl
none_by (Some c) e = absurd (false≢true e)

-- what holds of all holds of the first that is found
first-passes : (p q : CellView → Bool) (cells : List CellView) (c : CellView) → list_all q cells ≡ true → first p cells ≡ Some c → q c ≡ true
first-passes p q [] c all e = absurd cc
first-passes p q (d ∷ cells) c all e =
    let parts = and_parts (q d) (list_all q cells) all in
    elim (p d) as (λ b. cond b (Some d) (first p cells) ≡ Some c → q c ≡ true) [
      | true ↦ λ g. let same : d ≡ c = cc in subst (λ y. q y ≡ true) same parts.0
      | false ↦ λ g. first-passes p q cells c parts.1 g
    ] e

-- the cell of a joined instance can be used
usable_known : (u : Option Reason) (b : Bool) → is_none u ≡ true → (is_some u || b) ≡ true → b ≡ true
usable_known None b none e = e
usable_known (Some r) b none e = absurd (false≢true none)

known_by : (x : InstanceView) (o : Option CellView) → ((c : CellView) → o ≡ Some c → is_read_cell c ≡ true) → is_joined x o ≡ true → is_known_target o ≡ true
known_by x None read joined = refl
known_by x (Some c) read joined =
    let usable = and_parts (is_none c.unusable) _ (and_parts (is_taken c) _ joined).0 in
    usable_known c.unusable (is_known_cell c) usable.0 (read c refl)

targets_known : (cells : List CellView) → list_all is_read_cell cells ≡ true → (xs : List InstanceView)
    → list_all (λ (x : InstanceView). is_joined x (cell_named cells x.target)) xs ≡ true
    → list_all (λ (x : InstanceView). is_known_target (cell_named cells x.target)) xs ≡ true
targets_known cells read [] joined = refl
targets_known cells read (x ∷ xs) joined =
    let j = and_parts (is_joined x (cell_named cells x.target)) _ joined in
    and_from _ _
    (known_by x (cell_named cells x.target) (λ c e. first-passes (λ (d : CellView). bytes_eq d.name x.target) is_read_cell cells c read e) j.0)
    (targets_known cells read xs j.1)

module _ (nets : List (Name × Option BitRange)) where
  connections_written : (pins : List Name) (cs : ConnectionsView) (x : InstanceView) → x.connections ≡ cs → is_single_instance x ≡ true → names_pins (connected_names cs) pins ≡ true → is_read_connections nets cs ≡ true → are_connections nets cs ≡ true
  connections_written pins (ByName cs) x is single joined read = and_from _ _ (and_parts _ _ (and_parts _ _ joined).1).0 read
  connections_written pins (ByPosition values) x is single joined read =
      let no : false ≡ true = rw (is) at single in
      absurd (false≢true no)

  instance_written : (x : InstanceView) (o : Option CellView) → is_single_instance x ≡ true → is_joined x o ≡ true → is_read_instance nets x ≡ true → is_instance nets x ≡ true
  instance_written x None single joined read = absurd (false≢true joined)
  instance_written x (Some c) single joined read =
      let name = and_parts (is_name x.name) _ read in
      let target = and_parts (is_name x.target) _ name.1 in
      and_from _ _ name.0 (and_from _ _ target.0 (connections_written (pin_names c) x.connections x refl single (and_parts (is_taken c) _ joined).1 target.1))

  instances_written : (cells : List CellView) (xs : List InstanceView)
      → list_all is_single_instance xs ≡ true
      → list_all (λ (x : InstanceView). is_joined x (cell_named cells x.target)) xs ≡ true
      → list_all (is_read_instance nets) xs ≡ true
      → list_all (is_instance nets) xs ≡ true
  instances_written cells [] single joined read = refl
  instances_written cells (x ∷ xs) single joined read =
      let s = and_parts (is_single_instance x) _ single in
      let j = and_parts (is_joined x (cell_named cells x.target)) _ joined in
      let r = and_parts (is_read_instance nets x) _ read in
      and_from _ _ (instance_written x (cell_named cells x.target) s.0 j.0 r.0) (instances_written cells xs s.1 j.1 r.1)

-- a module that was read and is joined can be written
module_written : (cells : List CellView) (m : ModuleView) → is_single_module m ≡ true → list_all (λ (x : InstanceView). is_joined x (cell_named cells x.target)) m.instances ≡ true → is_read_module m ≡ true → is_module m ≡ true
module_written cells m single joined read =
    let name = and_parts (is_name m.name) _ read in
    let nets = and_parts (list_all is_net (declared m)) _ name.1 in
    let apart = and_parts (distinct (names_of m)) _ nets.1 in
    let instances = and_parts (list_all (is_read_instance (declared m)) m.instances) _ apart.1 in
    and_from _ _ name.0
    (and_from _ _ nets.0
    (and_from _ _ apart.0
    (and_from _ _ (instances_written (declared m) cells m.instances (and_parts _ _ (behind_nets m single)).0 joined instances.0) instances.1)))

known_names : (o : Option CellView) → is_known_target o ≡ true → has_target_names o ≡ true
known_names None e = refl
known_names (Some c) e = (and_parts (has_pg_names c) _ e).0

pub fit_parts : (cells : List CellView) (m : ModuleView) → is_single_module m ≡ true → are_read cells m ≡ true → is_fit cells m ≡ true → IsFit cells m
fit_parts cells m single read fit =
    let none = and_parts (is_none (cell_named cells m.name)) _ fit in
    let instances = and_parts (list_all (λ (x : InstanceView). is_joined x (cell_named cells x.target)) m.instances) _ none.1 in
    let both = and_parts (list_all is_read_cell cells) (is_read_module m) read in
    let known = targets_known cells both.0 m.instances instances.0 in
    record {
      no_cell = none_by (cell_named cells m.name) none.0;
      joined = instances.0;
      known = known;
      named = all-weaker (λ (x : InstanceView). is_known_target (cell_named cells x.target)) (λ (x : InstanceView). has_target_names (cell_named cells x.target)) (λ x e. known_names (cell_named cells x.target) e) m.instances known;
      written = module_written cells m single instances.0 both.1;
    }

-- what the test of a module that can be written says
pub record IsWritten (m : ModuleView) : Type 0 where
  pub named : is_name m.name ≡ true
  pub nets : list_all is_net (declared m) ≡ true
  pub apart : distinct (names_of m) ≡ true
  pub instances : list_all (is_instance (declared m)) m.instances ≡ true

pub written_parts : (m : ModuleView) → is_module m ≡ true → IsWritten m
written_parts m e =
    let first = and_parts (is_name m.name) _ e in
    let second = and_parts (list_all is_net (declared m)) _ first.1 in
    let third = and_parts (distinct (names_of m)) _ second.1 in
    record { named = first.0; nets = second.0; apart = third.0; instances = (and_parts _ _ third.1).0 }

-- what the test of a joined instance says of its pins
pub joined_pins : (x : InstanceView) (c : CellView) → is_joined x (Some c) ≡ true → names_pins (connected_names x.connections) (pin_names c) ≡ true
joined_pins x c e = (and_parts (is_taken c) _ e).1

-- a declared net, and one with an index
pub scalar_is : (o : Option (Option BitRange)) → is_scalar o ≡ true → is_some o ≡ true
scalar_is None e = e
scalar_is (Some r) e = refl

pub index_is : (o : Option (Option BitRange)) (i : ℕ) → has_index o i ≡ true → is_some o ≡ true
index_is None i e = e
index_is (Some r) i e = refl

-- a signal pin has the name of no power or ground pin
pub pin_apart : (c : CellView) → has_names_apart c ≡ true → (n : Name) → has_text n (pin_names c) ≡ true → not (is_pg_name c.pgs n) ≡ true
pin_apart c apart n e =
    has-passes (λ k. not (is_pg_name c.pgs k)) n (pin_names c)
    (list_all-map (λ k. not (is_pg_name c.pgs k)) (λ (q : PinView). q.name) c.pins ∙ (and_parts _ _ apart).0) e

-- ---- designs that are flat

module _ (cells : List CellView) (m : ModuleView) (power gnd : Name) (margin : ℕ) (single : is_single_module m ≡ true) where
  free_net : (n : Name) → is_some (declaration (declared m) n) ≡ true → is_free n ≡ true
  free_net n e = lookup-passes is_free n (declared m) (declared_free m single) e

  free_bit : (b : BitView) → is_bit (declared m) b ≡ true → is_free_bit (flat_of cells m power gnd margin) b ≡ true
  free_bit (NetBit n) e = free-supply (flat_of cells m power gnd margin) n (free_net n (scalar_is (declaration (declared m) n) e))
  free_bit (SelectBit n i) e = free-supply (flat_of cells m power gnd margin) n (free_net n (index_is (declaration (declared m) n) i e))
  free_bit (ConstBit b) e = refl

  module _ (c : CellView) (apart : has_names_apart c ≡ true) where
    free_connections : (cs : List ConnectionView) → list_all (λ n. has_text n (pin_names c)) (map (λ (k : ConnectionView). k.port) cs) ≡ true → list_all (is_connection (declared m)) cs ≡ true → list_all (is_free_connection (flat_of cells m power gnd margin) c) cs ≡ true
    free_connections [] pins bits = refl
    free_connections (k ∷ cs) pins bits =
        let pin = and_parts (has_text k.port (pin_names c)) _ pins in
        let bit = and_parts (is_connection (declared m) k) _ bits in
        and_from _ _
        (and_from _ _ (pin_apart c apart k.port pin.0) (all-weaker (is_bit (declared m)) (is_free_bit (flat_of cells m power gnd margin)) free_bit k.bits (and_parts (is_name k.port) _ bit.0).1))
        (free_connections cs pin.1 bit.1)

    are_free_by : (cs : ConnectionsView) → names_pins (connected_names cs) (pin_names c) ≡ true → are_connections (declared m) cs ≡ true → are_free (flat_of cells m power gnd margin) c cs ≡ true
    are_free_by (ByName cs) pins bits = free_connections cs (and_parts _ _ pins).0 (and_parts _ _ bits).1
    are_free_by (ByPosition values) pins bits = bits

  -- of a cell without backup and internal pins nothing is switched
  unswitched : (gs : List PgPinView) → list_all (λ (g : PgPinView). not (is_extra g.kind)) gs ≡ true → list_all is_switched_inside gs ≡ true → list_all (λ (g : PgPinView). is_none g.switched) gs ≡ true
  unswitched [] extra inside = refl
  unswitched (g ∷ gs) extra inside =
      let e = and_parts (not (is_extra g.kind)) _ extra in
      let i = and_parts (is_switched_inside g) _ inside in
      and_from _ _ (by (is_none g.switched) (is_extra g.kind) e.0 i.0) (unswitched gs e.1 i.1)
    where
      by : (a b : Bool) → not b ≡ true → (a || b) ≡ true → a ≡ true
      by true b n o = refl
      by false true n o = absurd (false≢true n)
      by false false n o = o

  -- a cell that is taken takes one supply
  takes_one : (c : CellView) → is_taken c ≡ true → is_known_cell c ≡ true → takes_one_supply c ≡ true
  takes_one c taken known =
      let usable = and_parts (is_none c.unusable) _ taken in
      let shifter = and_parts (is_none c.roles.shifter) _ usable.1 in
      let retention = and_parts (is_none c.roles.retention) _ shifter.1 in
      let switch = and_parts (not c.roles.switch) _ retention.1 in
      let named = and_parts (has_pg_names c) _ known in
      let related = and_parts (has_related_pins c) (list_all is_switched_inside c.pgs) named.1 in
      and_from _ _ shifter.0
      (and_from _ _ retention.0
      (and_from _ _ (unswitched c.pgs switch.1 related.1) (by c.roles.switch switch.0 related.0)))
    where
      by : (b : Bool) → not b ≡ true → (b || list_all (is_related_pin c) c.pins) ≡ true → list_all (is_related_pin c) c.pins ≡ true
      by true n o = absurd (false≢true n)
      by false n o = o

  -- an instance that fits a plain cell
  flat_by : (x : InstanceView) (o : Option CellView) → is_joined x o ≡ true → is_known_target o ≡ true → is_plain_target o ≡ true → is_instance (declared m) x ≡ true → fits_cell (flat_of cells m power gnd margin) x.connections o ≡ true
  flat_by x None joined named plain written = joined
  flat_by x (Some c) joined named plain written =
      let target = and_parts (is_name x.name) _ written in
      let names = and_parts (has_names_apart c) _ (and_parts (has_pg_names c) _ named).0 in
      let takes = takes_one c (and_parts (is_taken c) _ joined).0 named in
      and_from _ _ (and_from (takes_one_supply c) (loses_with_supply c) takes plain) (and_from _ _ names.0 (are_free_by c names.0 x.connections (joined_pins x c joined) (and_parts (is_name x.target) _ target.1).1))

  -- a cell is not the module
  other_target : cell_named cells m.name ≡ None → (n : Name) (o : Option CellView) → cell_named cells n ≡ o → is_plain_target o ≡ true → bytes_eq m.name n ≡ false
  other_target none n None is plain = absurd (false≢true plain)
  other_target none n (Some c) is plain = by (bytes_eq m.name n) refl
    where
      by : (b : Bool) → bytes_eq m.name n ≡ b → b ≡ false
      by false e = refl
      by true e = let gone : None ≡ Some c = sym none ∙ ap (cell_named cells) ((bytes_eq-Decides m.name n).0 e) ∙ is in absurd cc

  pub instances_flat : cell_named cells m.name ≡ None → (xs : List InstanceView)
      → list_all (λ (x : InstanceView). is_joined x (cell_named cells x.target)) xs ≡ true
      → list_all (λ (x : InstanceView). is_known_target (cell_named cells x.target)) xs ≡ true
      → list_all (λ (x : InstanceView). is_plain_target (cell_named cells x.target)) xs ≡ true
      → list_all (is_instance (declared m)) xs ≡ true
      → list_all (is_flat_instance (flat_of cells m power gnd margin)) xs ≡ true
  instances_flat none [] joined named plain written = refl
  instances_flat none (x ∷ xs) joined named plain written =
      let j = and_parts (is_joined x (cell_named cells x.target)) _ joined in
      let n = and_parts (is_known_target (cell_named cells x.target)) _ named in
      let p = and_parts (is_plain_target (cell_named cells x.target)) _ plain in
      let w = and_parts (is_instance (declared m) x) _ written in
      and_from _ _
      (and_from _ _ (ap not (other_target none x.target (cell_named cells x.target) refl p.0)) (flat_by x (cell_named cells x.target) j.0 n.0 p.0 w.0))
      (instances_flat none xs j.1 n.1 p.1 w.1)
