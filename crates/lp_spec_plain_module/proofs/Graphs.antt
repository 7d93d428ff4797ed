-- The modules, cells and sources of a flat design and of its netlist.
use Rattle.std.proofs.Common.{◌≡◌, Bool, true, false, not, ◌||◌, ◌&&◌, cond, List, [], ◌∷◌, map, Option, Some, None, refl, sym, ◌∙◌, ap}
use Rattle.std.specs.Prelude.{bytes_eq, option_map, option_and_then, is_some}
use Rattle.std.specs.List.{list_all, list_any}
use Rattle.std.proofs.lemmas.Bool.{and_parts, or_left, or_right, false≢true, not-true}
use Rattle.lp_model.specs.NetlistView.{PortView, InstanceView, AssignView, ModuleView}
use Rattle.lp_model.specs.LibraryView.{PinView, CellView}
use Rattle.lp_spec_design.specs.Keys.{Name, Path}
use Rattle.lp_spec_design.specs.Netlists.{Structure, first, module_named, cell_named, instance_named, module_at, cell_at}
use Rattle.lp_spec_plain.specs.Cells.{is_plain_cell}
use Rattle.lp_spec_plain.proofs.Reading.{all-first}
use Rattle.lp_spec_plain_module.specs.Designs.{Flat, design_of}
use Rattle.lp_spec_plain_module.specs.Netlists.{power_port, ground_port, cell_of, powered_instance, powered, is_supply, netlist_of}
use Rattle.lp_spec_plain_module.specs.Tests.{is_pg_name, are_distinct, has_names_apart, are_free, fits_cell, is_flat_instance, has_no_assign, is_flat}
use Rattle.lp_spec_plain_module.proofs.Lists.{name-self, told_apart, turned}

module _ (f : Flat) (flat : is_flat f ≡ true) where
  abbrev pub source : Structure
  source = (design_of f).structure

  abbrev pub written : Structure
  written = (netlist_of f).structure

  -- ---- what the test says

  pub ports_apart : bytes_eq (power_port f) (ground_port f) ≡ false
  ports_apart = not-true _ (and_parts _ _ flat).0

  pub no_assign : f.source.assigns ≡ []
  no_assign = by f.source.assigns (and_parts _ _ (and_parts _ _ flat).1).0
    where
      by : (xs : List AssignView) → has_no_assign xs ≡ true → xs ≡ []
      by [] e = refl
      by (x ∷ xs) e = absurd (false≢true e)

  ports_and_instances : (list_all (λ (p : PortView). not (is_supply f p.name)) f.source.ports && list_all (is_flat_instance f) f.source.instances) ≡ true
  ports_and_instances = (and_parts _ _ (and_parts _ _ flat).1).1

  pub ports_free : list_all (λ (p : PortView). not (is_supply f p.name)) f.source.ports ≡ true
  ports_free = (and_parts _ _ ports_and_instances).0

  pub instances_flat : list_all (is_flat_instance f) f.source.instances ≡ true
  instances_flat = (and_parts _ _ ports_and_instances).1

  pub power_is : is_supply f (power_port f) ≡ true
  power_is = or_left _ _ (name-self (power_port f))

  pub ground_is : is_supply f (ground_port f) ≡ true
  ground_is = or_right _ _ (name-self (ground_port f))

  -- a name of the design is that of no supply port, and another way round
  pub own_name : (n : Name) → is_supply f n ≡ false → (k : Name) → is_supply f k ≡ true → bytes_eq n k ≡ false
  own_name n e k h = told_apart (is_supply f) n k e h

  -- ---- modules

  module _ (x : InstanceView) (fits : is_flat_instance f x ≡ true) where
    pub other_target : bytes_eq f.source.name x.target ≡ false
    other_target = not-true _ (and_parts _ _ fits).0

    pub cell_fits : fits_cell f x.connections (cell_of f x.target) ≡ true
    cell_fits = (and_parts _ _ fits).1

    pub module_none : module_named source x.target ≡ None
    module_none = ap (λ b. cond b (Some f.source) None) other_target

    pub module_none_written : module_named written x.target ≡ None
    module_none_written = ap (λ b. cond b (Some (powered f)) None) other_target

    pub cell_is : cell_named source x.target ≡ cell_of f x.target
    cell_is = ap (λ o. cond (is_some o) None (cell_of f x.target)) module_none

    pub cell_is_written : cell_named written x.target ≡ cell_of f x.target
    cell_is_written = ap (λ o. cond (is_some o) None (cell_of f x.target)) module_none_written

    -- a cell that fits
    module _ (c : CellView) (cell : cell_of f x.target ≡ Some c) where
      fits_it : fits_cell f x.connections (Some c) ≡ true
      fits_it = ap (fits_cell f x.connections) (sym cell) ∙ cell_fits

      pub plain_is : is_plain_cell c ≡ true
      plain_is = (and_parts _ _ fits_it).0

      names_and_connections : (has_names_apart c && are_free f c x.connections) ≡ true
      names_and_connections = (and_parts _ _ fits_it).1

      pub free : are_free f c x.connections ≡ true
      free = (and_parts _ _ names_and_connections).1

      pub pins_apart : list_all (λ (q : PinView). not (is_pg_name c.pgs q.name)) c.pins ≡ true
      pins_apart = (and_parts _ _ (and_parts _ _ names_and_connections).0).0

      pub pgs_distinct : are_distinct c.pgs ≡ true
      pgs_distinct = (and_parts _ _ (and_parts _ _ names_and_connections).0).1

  not_target : (xs : List InstanceView) → list_all (is_flat_instance f) xs ≡ true → list_any (λ (i : InstanceView). bytes_eq i.target f.source.name) xs ≡ false
  not_target [] all = refl
  not_target (x ∷ xs) all =
      let here : bytes_eq x.target f.source.name ≡ false = turned f.source.name x.target (other_target x (and_parts _ _ all).0) in
      ap (λ b. b || list_any (λ (i : InstanceView). bytes_eq i.target f.source.name) xs) here ∙ not_target xs (and_parts _ _ all).1

  same_targets : (n : Name) (xs : List InstanceView) → list_any (λ (i : InstanceView). bytes_eq i.target n) (map (powered_instance f) xs) ≡ list_any (λ (i : InstanceView). bytes_eq i.target n) xs
  same_targets n [] = refl
  same_targets n (x ∷ xs) = ap (λ b. bytes_eq x.target n || b) (same_targets n xs)

  pub top : module_at source [] ≡ Some f.source
  top = ap (λ b. cond (not (b || false)) (Some f.source) None) (not_target f.source.instances instances_flat)

  pub top_written : module_at written [] ≡ Some (powered f)
  top_written = ap (λ b. cond (not (b || false)) (Some (powered f)) None) (same_targets f.source.name f.source.instances ∙ not_target f.source.instances instances_flat)

  pub instance_written : (n : Name) (xs : List InstanceView) → first (λ (i : InstanceView). bytes_eq i.name n) (map (powered_instance f) xs) ≡ option_map (powered_instance f) (first (λ (i : InstanceView). bytes_eq i.name n) xs)
  instance_written n [] = refl
  instance_written n (x ∷ xs) = by (bytes_eq x.name n) (instance_written n xs)
    where
      by : (b : Bool) → first (λ (i : InstanceView). bytes_eq i.name n) (map (powered_instance f) xs) ≡ option_map (powered_instance f) (first (λ (i : InstanceView). bytes_eq i.name n) xs)
          → cond b (Some (powered_instance f x)) (first (λ (i : InstanceView). bytes_eq i.name n) (map (powered_instance f) xs)) ≡ option_map (powered_instance f) (cond b (Some x) (first (λ (i : InstanceView). bytes_eq i.name n) xs))
      by true more = refl
      by false more = more

  -- an instance that is found is one of the list
  pub found_flat : (n : Name) (x : InstanceView) → instance_named f.source n ≡ Some x → is_flat_instance f x ≡ true
  found_flat n x e = all-first (is_flat_instance f) (λ (i : InstanceView). bytes_eq i.name n) f.source.instances x instances_flat e

  -- there is no module below the top
  below_top : (y : Name) (o : Option InstanceView) → instance_named f.source y ≡ o → option_and_then (λ (x : InstanceView). module_named source x.target) o ≡ None
  below_top y None e = refl
  below_top y (Some x) e = module_none x (found_flat y x e)

  pub no_module : (y : Name) (p : Path) → module_at source (y ∷ p) ≡ None
  no_module y [] = ap (λ o. option_and_then (λ (m : ModuleView). option_and_then (λ (x : InstanceView). module_named source x.target) (instance_named m y)) o) top ∙ below_top y (instance_named f.source y) refl
  no_module y (z ∷ p) = ap (λ o. option_and_then (λ (m : ModuleView). option_and_then (λ (x : InstanceView). module_named source x.target) (instance_named m y)) o) (no_module z p)

  below_written : (y : Name) (o : Option InstanceView) → instance_named f.source y ≡ o → option_and_then (λ (x : InstanceView). module_named written x.target) (option_map (powered_instance f) o) ≡ None
  below_written y None e = refl
  below_written y (Some x) e = module_none_written x (found_flat y x e)

  pub no_module_written : (y : Name) (p : Path) → module_at written (y ∷ p) ≡ None
  no_module_written y [] =
      ap (λ o. option_and_then (λ (m : ModuleView). option_and_then (λ (x : InstanceView). module_named written x.target) (instance_named m y)) o) top_written
      ∙ (ap (λ o. option_and_then (λ (x : InstanceView). module_named written x.target) o) (instance_written y f.source.instances)
      ∙ below_written y (instance_named f.source y) refl)
  no_module_written y (z ∷ p) = ap (λ o. option_and_then (λ (m : ModuleView). option_and_then (λ (x : InstanceView). module_named written x.target) (instance_named m y)) o) (no_module_written z p)

  -- ---- cells

  cell_in : Option ModuleView → Structure → Name → Option CellView
  cell_in o s x = option_and_then (λ (m : ModuleView). option_and_then (λ (i : InstanceView). cell_named s i.target) (instance_named m x)) o

  pub cell_at_top : (x : Name) → cell_at source [] x ≡ option_and_then (λ (i : InstanceView). cell_named source i.target) (instance_named f.source x)
  cell_at_top x = ap (λ o. option_and_then (λ (m : ModuleView). option_and_then (λ (i : InstanceView). cell_named source i.target) (instance_named m x)) o) top

  pub no_cell : (y : Name) (p : Path) (x : Name) → cell_at source (y ∷ p) x ≡ None
  no_cell y p x = ap (λ o. option_and_then (λ (m : ModuleView). option_and_then (λ (i : InstanceView). cell_named source i.target) (instance_named m x)) o) (no_module y p)

  cells_same : (x : Name) (o : Option InstanceView) → instance_named f.source x ≡ o → option_and_then (λ (i : InstanceView). cell_named written i.target) (option_map (powered_instance f) o) ≡ option_and_then (λ (i : InstanceView). cell_named source i.target) o
  cells_same x None e = refl
  cells_same x (Some i) e = cell_is_written i (found_flat x i e) ∙ sym (cell_is i (found_flat x i e))

  pub same_cell : (p : Path) (x : Name) → cell_at written p x ≡ cell_at source p x
  same_cell [] x =
      ap (λ o. option_and_then (λ (m : ModuleView). option_and_then (λ (i : InstanceView). cell_named written i.target) (instance_named m x)) o) top_written
      ∙ (ap (λ o. option_and_then (λ (i : InstanceView). cell_named written i.target) o) (instance_written x f.source.instances)
      ∙ (cells_same x (instance_named f.source x) refl
      ∙ sym (cell_at_top x)))
  same_cell (y ∷ p) x =
      ap (λ o. option_and_then (λ (m : ModuleView). option_and_then (λ (i : InstanceView). cell_named written i.target) (instance_named m x)) o) (no_module_written y p)
      ∙ sym (no_cell y p x)

  -- a cell instance, with the instance that it is
  pub record CellInstance (x : Name) (c : CellView) : Type 0 where
    pub instance : InstanceView
    pub named : instance_named f.source x ≡ Some instance
    pub fits : is_flat_instance f instance ≡ true
    pub cell : cell_of f instance.target ≡ Some c

  pub at_cell : (x : Name) (c : CellView) → cell_at source [] x ≡ Some c → CellInstance x c
  at_cell x c e = by (instance_named f.source x) refl (sym (cell_at_top x) ∙ e)
    where
      by : (o : Option InstanceView) → instance_named f.source x ≡ o → option_and_then (λ (i : InstanceView). cell_named source i.target) o ≡ Some c → CellInstance x c
      by None is g = absurd cc
      by (Some i) is g = record { instance = i; named = is; fits = found_flat x i is; cell = sym (cell_is i (found_flat x i is)) ∙ g }
