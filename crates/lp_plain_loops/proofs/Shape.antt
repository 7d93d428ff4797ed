-- What the tests say of a module that fits its cells.
use Rattle.std.proofs.Common.{◌≡◌, Bool, true, false, not, ◌||◌, ◌&&◌, ◌⊎◌, cond, List, [], ◌∷◌, ◌++◌, Option, Some, None, refl, sym, ◌∙◌, ap, subst, inl, inr}
use Rattle.std.specs.Prelude.{map, bytes_eq, is_none, option_and_then}
use Rattle.std.specs.List.{list_all, list_any}
use Rattle.std.specs.Map.{lookup}
use Rattle.std.proofs.lemmas.Bool.{false≢true, and_parts}
use Rattle.std.proofs.lemmas.Slice.Eq.{bytes_eq-Decides}
use Rattle.lp_text.specs.Texts.{same_text, has_text, distinct, distinct-append_left, distinct-append_right}
use Rattle.lp_model.specs.declared.netlist.BitRange.{BitRange}
use Rattle.lp_model.specs.NetlistView.{BitView, NetBit, SelectBit, ConstBit, PortView, NetView, ConnectionView, ConnectionsView, ByName, ByPosition, InstanceView, ModuleView}
use Rattle.lp_model.specs.LibraryView.{CellView}
use Rattle.lp_spec_design.specs.Keys.{Name, Path}
use Rattle.lp_spec_design.specs.Netlists.{Structure, first, module_named, instance_named, module_at, bits_named, connected}
use Rattle.lp_vwrite.specs.Layout.{declared}
use Rattle.lp_spec_plain_module.specs.Tests.{has_names_apart}
use Rattle.lp_vwrite.specs.WellFormed.{is_name, is_scalar, is_bit, is_connection, are_connections, is_instance}
use Rattle.lp_spec_plain_netlist.specs.Single.{is_scalar_bit, is_single_instance, is_single_module}
use Rattle.lp_spec_plain_netlist.specs.Fits as fits
use Rattle.lp_spec_plain_netlist.specs.Fits.{connected_names, pin_names, names_pins, is_joined, are_read, is_fit}
use Rattle.lp_spec_plain_module.proofs.Lists.{turned}
use Rattle.lp_spec_plain_netlist.proofs.Fitting.{behind_nets, has_target_names, IsFit, fit_parts, IsWritten, written_parts, joined_pins}
use Rattle.lp_plain_loops.specs.Rows.{net_names}

-- ---- the names of nets

abbrev first_of : Name × Option BitRange → Name
first_of d = d.0

first_names : (ports : List PortView) → map first_of (map (λ (p : PortView). (p.name, p.range)) ports) ≡ map (λ (p : PortView). p.name) ports
first_names [] = refl
first_names (p ∷ ports) = ap (λ r. p.name ∷ r) (first_names ports)

second_names : (nets : List NetView) → map first_of (map (λ (n : NetView). (n.name, n.range)) nets) ≡ map (λ (n : NetView). n.name) nets
second_names [] = refl
second_names (p ∷ nets) = ap (λ r. p.name ∷ r) (second_names nets)

names-append : (xs ys : List (Name × Option BitRange)) → map first_of (xs ++ ys) ≡ (map first_of xs ++ map first_of ys)
names-append [] ys = refl
names-append (x ∷ xs) ys = ap (λ r. x.0 ∷ r) (names-append xs ys)

names_are : (m : ModuleView) → map first_of (declared m) ≡ net_names m
names_are m =
    names-append (map (λ (p : PortView). (p.name, p.range)) m.ports) (map (λ (n : NetView). (n.name, n.range)) m.nets)
    ∙ (λ i. first_names m.ports i ++ second_names m.nets i)

-- a scalar that is declared is one of the nets
declared-known : (nets : List (Name × Option BitRange)) (n : Name) → is_scalar (lookup (same_text n) nets) ≡ true → has_text n (map first_of nets) ≡ true
declared-known [] n e = absurd (false≢true e)
declared-known (d ∷ nets) n e =
    elim (same_text n d.0) as (λ b. is_scalar (cond b (Some d.1) (lookup (same_text n) nets)) ≡ true → (b || has_text n (map first_of nets)) ≡ true) [
      | true ↦ λ g. refl
      | false ↦ λ g. declared-known nets n g
    ] e

-- ---- what stands at a pin

-- nothing, or one net that is declared
abbrev pub PinBits : List Name → List BitView → Type 0
PinBits nets bits = (bits ≡ []) ⊎ ((y : Name) × (bits ≡ NetBit y ∷ []) × (has_text y nets ≡ true))

module _ (m : ModuleView) where
  one_bit : (bits : List BitView) → is_scalar_bit bits ≡ true → list_all (is_bit (declared m)) bits ≡ true → PinBits (net_names m) bits
  one_bit [] e h = absurd (false≢true e)
  one_bit (NetBit n ∷ []) e h = inr (n, refl, subst (λ names. has_text n names ≡ true) (names_are m) (declared-known (declared m) n (and_parts (is_scalar (lookup (same_text n) (declared m))) true h).0))
  one_bit (NetBit n ∷ b ∷ bits) e h = absurd (false≢true e)
  one_bit (SelectBit n i ∷ bits) e h = absurd (false≢true e)
  one_bit (ConstBit b ∷ bits) e h = absurd (false≢true e)

  bits_at : (v : Name) (cs : List ConnectionView) → list_all (λ (c : ConnectionView). is_scalar_bit c.bits) cs ≡ true → list_all (is_connection (declared m)) cs ≡ true → PinBits (net_names m) (bits_named v cs)
  bits_at v [] e h = inl refl
  bits_at v (c ∷ cs) e h =
      let scalar = and_parts (is_scalar_bit c.bits) (list_all (λ (k : ConnectionView). is_scalar_bit k.bits) cs) e in
      let known = and_parts (is_connection (declared m) c) (list_all (is_connection (declared m)) cs) h in
      elim (bytes_eq c.port v) as (λ b. PinBits (net_names m) (cond b c.bits (bits_named v cs))) [
        | true ↦ one_bit c.bits scalar.0 (and_parts (is_name c.port) (list_all (is_bit (declared m)) c.bits) known.0).1
        | false ↦ bits_at v cs scalar.1 known.1
      ]

  pub pin_bits : (v : Name) (cs : ConnectionsView) (x : InstanceView) → x.connections ≡ cs → is_single_instance x ≡ true → are_connections (declared m) cs ≡ true → PinBits (net_names m) (connected [] v cs)
  pin_bits v (ByName cs) x is e h =
      let single : list_all (λ (c : ConnectionView). is_scalar_bit c.bits) cs ≡ true = rw (is) at e in
      bits_at v cs single (and_parts (distinct (map (λ (c : ConnectionView). c.port) cs)) (list_all (is_connection (declared m)) cs) h).1
  pin_bits v (ByPosition values) x is e h = absurd (false≢true h)

-- ---- the tests

-- an instance that fits a cell
pub record IsGood (cells : List CellView) (m : ModuleView) (x : InstanceView) : Type 0 where
  pub cell : CellView
  pub is : fits.cell_named cells x.target ≡ Some cell
  pub other : bytes_eq m.name x.target ≡ false
  pub apart : has_names_apart cell ≡ true
  pub pins : names_pins (connected_names x.connections) (pin_names cell) ≡ true
  pub bits : (v : Name) → PinBits (net_names m) (connected [] v x.connections)

module _ (cells : List CellView) (m : ModuleView) (single : is_single_module m ≡ true) (read : are_read cells m ≡ true) (fit : is_fit cells m ≡ true) where
  pub ports_scalar : list_all (λ (p : PortView). is_none p.range) m.ports ≡ true
  ports_scalar = (and_parts (list_all (λ (p : PortView). is_none p.range) m.ports) _ single).0

  instances_single : list_all is_single_instance m.instances ≡ true
  instances_single = (and_parts (list_all is_single_instance m.instances) _ (behind_nets m single)).0

  parts : IsFit cells m
  parts = fit_parts cells m single read fit

  written : IsWritten m
  written = written_parts m parts.written

  pub nets_apart : distinct (net_names m) ≡ true
  nets_apart = subst (λ names. distinct names ≡ true) (names_are m) (distinct-append_left (map first_of (declared m)) (map (λ (i : InstanceView). i.name) m.instances) written.apart)

  pub ports_apart : distinct (map (λ (p : PortView). p.name) m.ports) ≡ true
  ports_apart = distinct-append_left (map (λ (p : PortView). p.name) m.ports) (map (λ (n : NetView). n.name) m.nets) nets_apart

  pub instances_apart : distinct (map (λ (i : InstanceView). i.name) m.instances) ≡ true
  instances_apart = distinct-append_right (map first_of (declared m)) (map (λ (i : InstanceView). i.name) m.instances) written.apart

  -- ---- instances

  -- a cell that is found has the name
  other_name : (x : InstanceView) (c : CellView) → fits.cell_named cells x.target ≡ Some c → bytes_eq m.name x.target ≡ false
  other_name x c e = by (bytes_eq m.name x.target) refl
    where
      no_name : m.name ≡ x.target → ⊥
      no_name same = let gone : None ≡ Some c = sym parts.no_cell ∙ ap (fits.cell_named cells) same ∙ e in absurd cc

      by : (b : Bool) → bytes_eq m.name x.target ≡ b → b ≡ false
      by true is = absurd (no_name ((bytes_eq-Decides m.name x.target).0 is))
      by false is = refl

  good : (x : InstanceView) → is_single_instance x ≡ true → is_joined x (fits.cell_named cells x.target) ≡ true → has_target_names (fits.cell_named cells x.target) ≡ true → is_instance (declared m) x ≡ true → IsGood cells m x
  good x one joined named fine = by (fits.cell_named cells x.target) refl joined named
    where
      connections : are_connections (declared m) x.connections ≡ true
      connections = (and_parts (is_name x.target) (are_connections (declared m) x.connections) (and_parts (is_name x.name) (is_name x.target && are_connections (declared m) x.connections) fine).1).1

      by : (o : Option CellView) → fits.cell_named cells x.target ≡ o → is_joined x o ≡ true → has_target_names o ≡ true → IsGood cells m x
      by None e j n = absurd (false≢true j)
      by (Some c) e j n = record {
        cell = c;
        is = e;
        other = other_name x c e;
        apart = (and_parts (has_names_apart c) _ n).0;
        pins = joined_pins x c j;
        bits = λ v. pin_bits m v x.connections x refl one connections;
      }

  abbrev pub AllGood : List InstanceView → Type 0
  AllGood [] = Unit {0}
  AllGood (x ∷ xs) = IsGood cells m x × AllGood xs

  all_good : (xs : List InstanceView) → list_all is_single_instance xs ≡ true
      → list_all (λ (x : InstanceView). is_joined x (fits.cell_named cells x.target)) xs ≡ true
      → list_all (λ (x : InstanceView). has_target_names (fits.cell_named cells x.target)) xs ≡ true
      → list_all (is_instance (declared m)) xs ≡ true
      → AllGood xs
  all_good [] a b c d = tt
  all_good (x ∷ xs) a b c d =
      let one = and_parts (is_single_instance x) (list_all is_single_instance xs) a in
      let joined = and_parts (is_joined x (fits.cell_named cells x.target)) _ b in
      let named = and_parts (has_target_names (fits.cell_named cells x.target)) _ c in
      let fine = and_parts (is_instance (declared m) x) _ d in
      (good x one.0 joined.0 named.0 fine.0, all_good xs one.1 joined.1 named.1 fine.1)

  pub instances_good : AllGood m.instances
  instances_good = all_good m.instances instances_single parts.joined parts.named written.instances

  pub found_good : (n : Name) (xs : List InstanceView) (x : InstanceView) → AllGood xs → first (λ (i : InstanceView). bytes_eq i.name n) xs ≡ Some x → IsGood cells m x
  found_good n [] x all e = absurd cc
  found_good n (y ∷ ys) x all e =
      elim (bytes_eq y.name n) as (λ b. cond b (Some y) (first (λ (i : InstanceView). bytes_eq i.name n) ys) ≡ Some x → IsGood cells m x) [
        | true ↦ λ g. let same : y ≡ x = cc in subst (IsGood cells m) same all.0
        | false ↦ λ g. found_good n ys x all.1 g
      ] e

  -- ---- the structure

  abbrev pub structure : Structure
  structure = record { modules = m ∷ []; cells = cells }

  not_target : (xs : List InstanceView) → AllGood xs → list_any (λ (i : InstanceView). bytes_eq i.target m.name) xs ≡ false
  not_target [] all = refl
  not_target (x ∷ xs) all = ap (λ b. b || list_any (λ (i : InstanceView). bytes_eq i.target m.name) xs) (turned m.name x.target all.0.other) ∙ not_target xs all.1

  pub top : module_at structure [] ≡ Some m
  top = ap (λ b. cond (not (b || false)) (Some m) None) (not_target m.instances instances_good)

  pub no_module_named : (x : InstanceView) → IsGood cells m x → module_named structure x.target ≡ None
  no_module_named x g = ap (λ b. cond b (Some m) None) g.other

  below_top : (y : Name) (o : Option InstanceView) → instance_named m y ≡ o → option_and_then (λ (x : InstanceView). module_named structure x.target) o ≡ None
  below_top y None e = refl
  below_top y (Some x) e = no_module_named x (found_good y m.instances x instances_good e)

  pub no_module : (y : Name) (p : Path) → module_at structure (y ∷ p) ≡ None
  no_module y [] = ap (λ o. option_and_then (λ (k : ModuleView). option_and_then (λ (x : InstanceView). module_named structure x.target) (instance_named k y)) o) top ∙ below_top y (instance_named m y) refl
  no_module y (z ∷ p) = ap (λ o. option_and_then (λ (k : ModuleView). option_and_then (λ (x : InstanceView). module_named structure x.target) (instance_named k y)) o) (no_module z p)
