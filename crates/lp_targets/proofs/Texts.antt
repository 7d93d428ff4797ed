-- Targets and faults by the numbers of names are those by the texts.
use Rattle.std.proofs.Common.{◌≡◌, ℕ, ◌<◌, Bool, true, false, ◌&&◌, ◌||◌, cond, List, [], ◌∷◌, ◌++◌, length, Option, Some, None, refl, sym, ap, ◌∙◌}
use Rattle.std.specs.Prelude.{map, is_none, is_some, slice_get, bytes_eq, codes, if◌then◌else◌}
use Rattle.std.specs.List.{flat_map}
use Rattle.std.specs.Option.{option_map, option_and_then}
use Rattle.lp_text.specs.Texts.{text_at, distinct}
use Rattle.lp_text.specs.declared.names.NameId.{NameId}
use Rattle.lp_model.specs.Agreement.{numbers_below}
use Rattle.lp_model.specs.declared.fault.netlist.InstanceRef.{InstanceRef}
use Rattle.lp_model.specs.declared.fault.netlist.NetlistFault.{NetlistFault}
use Rattle.lp_model.specs.declared.library.Cell.{Cell}
use Rattle.lp_model.specs.declared.library.Library.{Library}
use Rattle.lp_model.specs.declared.netlist.Port.{Port}
use Rattle.lp_model.specs.declared.netlist.NetDecl.{NetDecl}
use Rattle.lp_model.specs.declared.netlist.Instance.{Instance}
use Rattle.lp_model.specs.declared.netlist.Module.{Module}
use Rattle.lp_model.specs.declared.netlist.Netlist.{Netlist}
use Rattle.lp_model.specs.NetlistView as nets
use Rattle.lp_model.specs.NetlistView.{PortView, NetView, InstanceView, ModuleView, port_view, net_view, instance_view, module_view, port_numbers, net_numbers, instance_numbers, assign_numbers, connections_numbers}
use Rattle.lp_model.specs.LibraryView.{CellView, cell_view, pg_pin_numbers, pin_numbers, state_numbers, roles_numbers}
use Rattle.lp_model.specs.Agreement.{option_numbers}
use Rattle.lp_spec_design.specs.Keys.{Name}
use Rattle.lp_spec_design.specs.Netlists.{Structure, first, module_named, cell_named}
use Rattle.lp_spec_design.specs.Graph.{and_more, some_of}
use Rattle.lp_spec_faults.specs.Modules as lines
use Rattle.lp_spec_faults.specs.Modules.{Declared, OfPart, InstanceAt, names_of, is_own, is_reserved, is_unknown, reserved_name, unknown_module}
use Rattle.lp_places.specs.Places.{place_of_number, has_number}
use Rattle.lp_places.proofs.Numbers.{below-left, below-right, below-head, below-tail}
use Rattle.lp_targets.specs.Structures.{structure_of, AreNamed}
use Rattle.lp_targets.specs.Reports.{Report, report_of, or_else, name_of, reserved_report, unknown_report, names_report}
use Rattle.lp_targets.specs.Targets.{module_of, cell_of, AreTargets}
use Rattle.lp_targets.specs.declared.target.Target.{Target}
use Rattle.lp_targets.specs.Numbered.{found, module_numbers, cell_numbers, is_own_name, part_names, reserved_in, first_reserved, target_by, target_numbered, target_of, unknown_in, first_unknown, row_in, reserved_fault, unknown_fault, fault_numbered}
use Rattle.lp_targets.proofs.Lists.{first-append}
use Rattle.lp_targets.proofs.Named.{below-first, first_same, none_same, any_same}

map_else : {A B : Type 0} (f : A → B) (a b : Option A) → option_map f (or_else a b) ≡ or_else (option_map f a) (option_map f b)
map_else f None b = refl
map_else f (Some x) b = refl

map_map_some : {A B C : Type 0} (g : B → C) (f : A → B) (a : Option A) → option_map g (option_map f a) ≡ option_map (λ x. g (f x)) a
map_map_some g f None = refl
map_map_some g f (Some x) = refl

-- each of a list is fit
abbrev pub AllFit : {M : Type 0} → (M → Type 0) → List M → Type 0
AllFit fits [] = Unit {0}
AllFit fits (m ∷ ms) = fits m × AllFit fits ms

-- what is said of the first of lists, each list by itself
module _ {M X R Y : Type 0} (p : X → Bool) (say : X → R) (each : M → List X) (found_in : M → Option Y) (say_found : Y → R) (fits : M → Type 0) (same : (m : M) → fits m → option_map say (first p (each m)) ≡ option_map say_found (found_in m)) where
  first_each : (ms : List M) → AllFit fits ms → option_map say (first p (flat_map each ms)) ≡ option_map say_found (found found_in ms)
  first_each [] all = refl
  first_each (m ∷ ms) all =
      ap (option_map say) (first-append p (each m) (flat_map each ms))
      ∙ map_else say (first p (each m)) (first p (flat_map each ms))
      ∙ (λ i. or_else (same m all.0 i) (first_each ms all.1 i))
      ∙ sym (map_else say_found (found_in m) (found found_in ms))

some_if_said : {A B R : Type 0} (f : A → R) (g : B → R) (b : Bool) (x : A) (y : B) (r : Option A) (t : Option B) → f x ≡ g y → option_map f r ≡ option_map g t → option_map f (cond b (Some x) r) ≡ option_map g (cond b (Some y) t)
some_if_said f g true x y r t e rest = ap Some e
some_if_said f g false x y r t e rest = rest

flat_map-map : {A B C : Type 0} (g : B → List C) (f : A → B) (xs : List A) → flat_map g (map f xs) ≡ flat_map (λ x. g (f x)) xs
flat_map-map g f [] = refl
flat_map-map g f (x ∷ xs) = ap (λ r. g (f x) ++ r) (flat_map-map g f xs)

module _ (texts : List (List ℕ)) (apart : distinct texts ≡ true) (n : Netlist) (l : Library) (are_named : AreNamed texts n l) where
  abbrev Below : List ℕ → Type 0
  Below ks = numbers_below (length texts) ks ≡ true

  abbrev s : Structure
  s = structure_of texts n l

  abbrev modules : List ℕ
  modules = module_numbers n.modules

  abbrev cells : List ℕ
  cells = cell_numbers l.cells

  modules_below : Below modules
  modules_below = below-first (length texts) (λ (m : Module). m.name.0) (λ (m : Module). flat_map port_numbers m.ports ++ (flat_map net_numbers m.nets ++ (flat_map instance_numbers m.instances ++ flat_map assign_numbers m.assigns))) n.modules are_named.netlist

  cells_below : Below cells
  cells_below = below-first (length texts) (λ (c : Cell). c.name.0) (λ (c : Cell). flat_map pg_pin_numbers c.pgs ++ (flat_map pin_numbers c.pins ++ (option_numbers state_numbers c.state ++ roles_numbers c.roles))) l.cells are_named.library

  -- ---- targets

  module _ (k : ℕ) (below : k < length texts) where
    module_same : module_named s (text_at texts k) ≡ option_and_then (slice_get s.modules) (place_of_number k modules)
    module_same = first_same texts apart (module_view texts) (λ (v : ModuleView). v.name) (λ (m : Module). m.name.0) (λ m. refl) k n.modules below modules_below

    no_module : is_none (module_named s (text_at texts k)) ≡ is_none (place_of_number k modules)
    no_module = none_same texts apart (module_view texts) (λ (v : ModuleView). v.name) (λ (m : Module). m.name.0) (λ m. refl) k n.modules below modules_below

    cell_same : first (λ (c : CellView). bytes_eq c.name (text_at texts k)) s.cells ≡ option_and_then (slice_get s.cells) (place_of_number k cells)
    cell_same = first_same texts apart (cell_view texts) (λ (v : CellView). v.name) (λ (c : Cell). c.name.0) (λ c. refl) k l.cells below cells_below

    no_cell : is_none (first (λ (c : CellView). bytes_eq c.name (text_at texts k)) s.cells) ≡ is_none (place_of_number k cells)
    no_cell = none_same texts apart (cell_view texts) (λ (v : CellView). v.name) (λ (c : Cell). c.name.0) (λ c. refl) k l.cells below cells_below

    by_module : (m : Option ModuleView) (p q : Option ℕ) → m ≡ option_and_then (slice_get s.modules) p → m ≡ option_and_then (module_of s) (target_by p q)
    by_module m (Some j) q e = e
    by_module m None (Some j) e = e
    by_module m None None e = e

    pub target_module : module_named s (text_at texts k) ≡ option_and_then (module_of s) (target_numbered modules cells k)
    target_module = by_module (module_named s (text_at texts k)) (place_of_number k modules) (place_of_number k cells) module_same

    by_cell : (m : Option ModuleView) (c : Option CellView) (p q : Option ℕ) → is_none m ≡ is_none p → c ≡ option_and_then (slice_get s.cells) q → (if is_some m then None else c) ≡ option_and_then (cell_of s) (target_by p q)
    by_cell None c (Some j) q e f = cc
    by_cell (Some m) c (Some j) q e f = refl
    by_cell None c None None e f = f
    by_cell None c None (Some j) e f = f
    by_cell (Some m) c None q e f = cc

    pub target_cell : cell_named s (text_at texts k) ≡ option_and_then (cell_of s) (target_numbered modules cells k)
    target_cell = by_cell (module_named s (text_at texts k)) (first (λ (c : CellView). bytes_eq c.name (text_at texts k)) s.cells) (place_of_number k modules) (place_of_number k cells) no_module cell_same

    by_none : (m : Option ModuleView) (c : Option CellView) (p q : Option ℕ) → is_none m ≡ is_none p → is_none c ≡ is_none q → (is_none m && is_none (if is_some m then None else c)) ≡ is_none (target_by p q)
    by_none None c (Some j) q e f = cc
    by_none (Some m) c (Some j) q e f = refl
    by_none None c None None e f = f
    by_none None c None (Some j) e f = f
    by_none (Some m) c None q e f = cc

    pub no_target : (is_none (module_named s (text_at texts k)) && is_none (cell_named s (text_at texts k))) ≡ is_none (target_numbered modules cells k)
    no_target = by_none (module_named s (text_at texts k)) (first (λ (c : CellView). bytes_eq c.name (text_at texts k)) s.cells) (place_of_number k modules) (place_of_number k cells) no_module no_cell

    pub is_a_cell : lines.is_cell s (text_at texts k) ≡ has_number k cells
    is_a_cell = any_same texts apart (cell_view texts) (λ (v : CellView). v.name) (λ (c : Cell). c.name.0) (λ c. refl) k l.cells below cells_below

  target_below : (x : Instance) → Below (instance_numbers x) → x.target.0 < length texts
  target_below x below = below-head (length texts) x.target.0 (connections_numbers x.connections) (below-tail (length texts) x.name.0 (x.target.0 ∷ connections_numbers x.connections) below)

  instances_below : (m : Module) → Below (nets.module_numbers m) → Below (flat_map instance_numbers m.instances)
  instances_below m below =
      let ports = flat_map port_numbers m.ports in
      let wires = flat_map net_numbers m.nets in
      let instances = flat_map instance_numbers m.instances in
      let rest = flat_map assign_numbers m.assigns in
      below-left (length texts) instances rest (below-right (length texts) wires (instances ++ rest) (below-right (length texts) ports (wires ++ (instances ++ rest)) (below-tail (length texts) m.name.0 (ports ++ (wires ++ (instances ++ rest))) below)))

  name_below : (m : Module) → Below (nets.module_numbers m) → m.name.0 < length texts
  name_below m below = below-head (length texts) m.name.0 (flat_map port_numbers m.ports ++ (flat_map net_numbers m.nets ++ (flat_map instance_numbers m.instances ++ flat_map assign_numbers m.assigns))) below

  -- ---- rows

  abbrev is_lost : Instance → Bool
  is_lost i = is_none (target_of modules cells i)

  modules_row : (xs : List Instance) → Below (flat_map instance_numbers xs) → first is_lost xs ≡ None → map (module_of s) (some_of (target_of modules cells) xs) ≡ map (λ (i : InstanceView). module_named s i.target) (map (instance_view texts) xs)
  modules_row [] below none = refl
  modules_row (x ∷ xs) below none =
      by (target_of modules cells x) (target_module x.target.0 (target_below x (below-left (length texts) (instance_numbers x) (flat_map instance_numbers xs) below))) none
      (modules_row xs (below-right (length texts) (instance_numbers x) (flat_map instance_numbers xs) below))
    where
      by : (t : Option Target) → module_named s (text_at texts x.target.0) ≡ option_and_then (module_of s) t → cond (is_none t) (Some x) (first is_lost xs) ≡ None → (first is_lost xs ≡ None → map (module_of s) (some_of (target_of modules cells) xs) ≡ map (λ (i : InstanceView). module_named s i.target) (map (instance_view texts) xs)) → map (module_of s) (and_more t (some_of (target_of modules cells) xs)) ≡ module_named s (text_at texts x.target.0) ∷ map (λ (i : InstanceView). module_named s i.target) (map (instance_view texts) xs)
      by None e n rest = cc
      by (Some t) e n rest = λ i. sym e i ∷ rest n i

  cells_row : (xs : List Instance) → Below (flat_map instance_numbers xs) → first is_lost xs ≡ None → map (cell_of s) (some_of (target_of modules cells) xs) ≡ map (λ (i : InstanceView). cell_named s i.target) (map (instance_view texts) xs)
  cells_row [] below none = refl
  cells_row (x ∷ xs) below none =
      by (target_of modules cells x) (target_cell x.target.0 (target_below x (below-left (length texts) (instance_numbers x) (flat_map instance_numbers xs) below))) none
      (cells_row xs (below-right (length texts) (instance_numbers x) (flat_map instance_numbers xs) below))
    where
      by : (t : Option Target) → cell_named s (text_at texts x.target.0) ≡ option_and_then (cell_of s) t → cond (is_none t) (Some x) (first is_lost xs) ≡ None → (first is_lost xs ≡ None → map (cell_of s) (some_of (target_of modules cells) xs) ≡ map (λ (i : InstanceView). cell_named s i.target) (map (instance_view texts) xs)) → map (cell_of s) (and_more t (some_of (target_of modules cells) xs)) ≡ cell_named s (text_at texts x.target.0) ∷ map (λ (i : InstanceView). cell_named s i.target) (map (instance_view texts) xs)
      by None e n rest = cc
      by (Some t) e n rest = λ i. sym e i ∷ rest n i

  no_lost : (m : Module) (r : Option InstanceRef) → or_else (unknown_in modules cells m) r ≡ None → (first is_lost m.instances ≡ None) × (r ≡ None)
  no_lost m r e = by (first is_lost m.instances) e
    where
      by : (o : Option Instance) → or_else (option_map (λ (i : Instance). record { parent = m.name; instance = i.name }) o) r ≡ None → (o ≡ None) × (r ≡ None)
      by None e = (refl, e)
      by (Some x) e = cc

  rows_modules : (ms : List Module) → Below (flat_map nets.module_numbers ms) → first_unknown modules cells ms ≡ None → map (map (module_of s)) (map (row_in modules cells) ms) ≡ map (λ (m : ModuleView). map (λ (i : InstanceView). module_named s i.target) m.instances) (map (module_view texts) ms)
  rows_modules [] below none = refl
  rows_modules (m ∷ ms) below none =
      let parts = no_lost m (found (unknown_in modules cells) ms) none in
      let here = instances_below m (below-left (length texts) (nets.module_numbers m) (flat_map nets.module_numbers ms) below) in
      let behind = below-right (length texts) (nets.module_numbers m) (flat_map nets.module_numbers ms) below in
      λ i. modules_row m.instances here parts.0 i ∷ rows_modules ms behind parts.1 i

  rows_cells : (ms : List Module) → Below (flat_map nets.module_numbers ms) → first_unknown modules cells ms ≡ None → map (map (cell_of s)) (map (row_in modules cells) ms) ≡ map (λ (m : ModuleView). map (λ (i : InstanceView). cell_named s i.target) m.instances) (map (module_view texts) ms)
  rows_cells [] below none = refl
  rows_cells (m ∷ ms) below none =
      let parts = no_lost m (found (unknown_in modules cells) ms) none in
      let here = instances_below m (below-left (length texts) (nets.module_numbers m) (flat_map nets.module_numbers ms) below) in
      let behind = below-right (length texts) (nets.module_numbers m) (flat_map nets.module_numbers ms) below in
      λ i. cells_row m.instances here parts.0 i ∷ rows_cells ms behind parts.1 i

  -- ---- reserved names

  abbrev say_name : NameId → Report
  say_name x = report_of texts (reserved_fault x)

  abbrev say_declared : Declared → Report
  say_declared d = (codes "F19 ReservedName", name_of d ∷ [])

  part_same : {A V : Type 0} (view : A → V) (name : V → Name) (id : A → NameId) → ((x : A) → name (view x) ≡ text_at texts (id x).0) → (xs : List A) → option_map say_declared (first (is_reserved s) (map (λ v. OfPart (name v)) (map view xs))) ≡ option_map say_name (first (is_own_name texts) (map id xs))
  part_same view name id named [] = refl
  part_same view name id named (x ∷ xs) =
      (λ i. option_map say_declared (cond (is_own (named x i)) (Some (OfPart (name (view x)))) (first (is_reserved s) (map (λ v. OfPart (name v)) (map view xs)))))
      ∙ some_if_said say_declared say_name (is_own_name texts (id x)) (OfPart (name (view x))) (id x) (first (is_reserved s) (map (λ v. OfPart (name v)) (map view xs))) (first (is_own_name texts) (map id xs)) (ap (λ t. (codes "F19 ReservedName", t ∷ [])) (named x)) (part_same view name id named xs)

  two_lists : (xs ys : List Declared) (ks js : List NameId) → option_map say_declared (first (is_reserved s) xs) ≡ option_map say_name (first (is_own_name texts) ks) → option_map say_declared (first (is_reserved s) ys) ≡ option_map say_name (first (is_own_name texts) js) → option_map say_declared (first (is_reserved s) (xs ++ ys)) ≡ option_map say_name (first (is_own_name texts) (ks ++ js))
  two_lists xs ys ks js e f =
      ap (option_map say_declared) (first-append (is_reserved s) xs ys) ∙ map_else say_declared (first (is_reserved s) xs) (first (is_reserved s) ys)
      ∙ (λ i. or_else (e i) (f i))
      ∙ sym (ap (option_map say_name) (first-append (is_own_name texts) ks js) ∙ map_else say_name (first (is_own_name texts) ks) (first (is_own_name texts) js))

  parts_same : (m : Module) → option_map say_declared (first (is_reserved s) (map (λ (p : PortView). OfPart p.name) (map (port_view texts) m.ports) ++ (map (λ (w : NetView). OfPart w.name) (map (net_view texts) m.nets) ++ map (λ (i : InstanceView). OfPart i.name) (map (instance_view texts) m.instances)))) ≡ option_map say_name (first (is_own_name texts) (part_names m))
  parts_same m =
      two_lists (map (λ (p : PortView). OfPart p.name) (map (port_view texts) m.ports)) (map (λ (w : NetView). OfPart w.name) (map (net_view texts) m.nets) ++ map (λ (i : InstanceView). OfPart i.name) (map (instance_view texts) m.instances))
      (map (λ (p : Port). p.name) m.ports) (map (λ (w : NetDecl). w.name) m.nets ++ map (λ (i : Instance). i.name) m.instances)
      (part_same (port_view texts) (λ (p : PortView). p.name) (λ (p : Port). p.name) (λ p. refl) m.ports)
      (two_lists (map (λ (w : NetView). OfPart w.name) (map (net_view texts) m.nets)) (map (λ (i : InstanceView). OfPart i.name) (map (instance_view texts) m.instances))
      (map (λ (w : NetDecl). w.name) m.nets) (map (λ (i : Instance). i.name) m.instances)
      (part_same (net_view texts) (λ (w : NetView). w.name) (λ (w : NetDecl). w.name) (λ w. refl) m.nets)
      (part_same (instance_view texts) (λ (i : InstanceView). i.name) (λ (i : Instance). i.name) (λ i. refl) m.instances))

  reserved_module : (m : Module) → Below (nets.module_numbers m) → option_map say_declared (first (is_reserved s) (names_of (module_view texts m))) ≡ option_map say_name (reserved_in texts cells m)
  reserved_module m below =
      let parts = map (λ (p : PortView). OfPart p.name) (map (port_view texts) m.ports) ++ (map (λ (w : NetView). OfPart w.name) (map (net_view texts) m.nets) ++ map (λ (i : InstanceView). OfPart i.name) (map (instance_view texts) m.instances)) in
      (λ i. option_map say_declared (cond (is_own_name texts m.name || is_a_cell m.name.0 (name_below m below) i) (Some (lines.OfModule (text_at texts m.name.0))) (first (is_reserved s) parts)))
      ∙ some_if_said say_declared say_name (is_own_name texts m.name || has_number m.name.0 cells) (lines.OfModule (text_at texts m.name.0)) m.name (first (is_reserved s) parts) (first (is_own_name texts) (part_names m)) refl (parts_same m)

  -- ---- unknown modules

  abbrev say_at : InstanceRef → Report
  say_at at = report_of texts (unknown_fault at)

  abbrev say_placed : InstanceAt → Report
  say_placed x = (codes "F13 UnknownModule", x.parent.name ∷ x.instance.name ∷ [])

  abbrev at_of : Module → Instance → InstanceRef
  at_of m i = record { parent = m.name; instance = i.name }

  abbrev placed : Module → InstanceView → InstanceAt
  placed m i = record { parent = module_view texts m; instance = i }

  unknown_list : (m : Module) (xs : List Instance) → Below (flat_map instance_numbers xs) → option_map say_placed (first (is_unknown s) (map (placed m) (map (instance_view texts) xs))) ≡ option_map say_at (option_map (at_of m) (first is_lost xs))
  unknown_list m [] below = refl
  unknown_list m (x ∷ xs) below =
      let here = target_below x (below-left (length texts) (instance_numbers x) (flat_map instance_numbers xs) below) in
      let rest = unknown_list m xs (below-right (length texts) (instance_numbers x) (flat_map instance_numbers xs) below) in
      (λ i. option_map say_placed (cond (no_target x.target.0 here i) (Some (placed m (instance_view texts x))) (first (is_unknown s) (map (placed m) (map (instance_view texts) xs)))))
      ∙ some_if_said say_placed (λ y. say_at (at_of m y)) (is_lost x) (placed m (instance_view texts x)) x (first (is_unknown s) (map (placed m) (map (instance_view texts) xs))) (first is_lost xs) refl (rest ∙ map_map_some say_at (at_of m) (first is_lost xs))
      ∙ sym (map_map_some say_at (at_of m) (cond (is_lost x) (Some x) (first is_lost xs)))

  unknown_one : (m : Module) → Below (nets.module_numbers m) → option_map say_placed (first (is_unknown s) (lines.instances_of (module_view texts m))) ≡ option_map say_at (unknown_in modules cells m)
  unknown_one m below = unknown_list m m.instances (instances_below m below)

  -- ---- the whole netlist

  abbrev Named : Module → Type 0
  Named m = Below (nets.module_numbers m)

  all_named : (ms : List Module) → Below (flat_map nets.module_numbers ms) → AllFit Named ms
  all_named [] below = tt
  all_named (m ∷ ms) below = (below-left (length texts) (nets.module_numbers m) (flat_map nets.module_numbers ms) below, all_named ms (below-right (length texts) (nets.module_numbers m) (flat_map nets.module_numbers ms) below))

  reserved_same : reserved_report s ≡ option_map say_name (first_reserved texts cells n.modules)
  reserved_same =
      ap (λ ds. option_map say_declared (first (is_reserved s) ds)) (flat_map-map names_of (module_view texts) n.modules)
      ∙ first_each (is_reserved s) say_declared (λ m. names_of (module_view texts m)) (reserved_in texts cells) say_name Named reserved_module n.modules (all_named n.modules are_named.netlist)

  unknown_same : unknown_report s ≡ option_map say_at (first_unknown modules cells n.modules)
  unknown_same =
      ap (λ xs. option_map say_placed (first (is_unknown s) xs)) (flat_map-map lines.instances_of (module_view texts) n.modules)
      ∙ first_each (is_unknown s) say_placed (λ m. lines.instances_of (module_view texts m)) (unknown_in modules cells) say_at Named unknown_one n.modules (all_named n.modules are_named.netlist)

  report_same : names_report s ≡ option_map (report_of texts) (fault_numbered texts modules cells n.modules)
  report_same =
      (λ i. or_else (reserved_same i) (unknown_same i))
      ∙ by (first_reserved texts cells n.modules) (first_unknown modules cells n.modules)
    where
      by : (a : Option NameId) (b : Option InstanceRef) → or_else (option_map say_name a) (option_map say_at b) ≡ option_map (report_of texts) (or_else (option_map reserved_fault a) (option_map unknown_fault b))
      by None None = refl
      by None (Some at) = refl
      by (Some x) b = refl

  -- ---- what the call finds, over the lists that it makes

  module _ (im ic : List ℕ) (ms : List Module) (cs : List Cell) (is_ms : ms ≡ n.modules) (is_cs : cs ≡ l.cells) (is_im : im ≡ module_numbers ms) (is_ic : ic ≡ cell_numbers cs) where
    numbered_same : fault_numbered texts im ic ms ≡ fault_numbered texts modules cells n.modules
    numbered_same = λ i. fault_numbered texts ((is_im ∙ ap module_numbers is_ms) i) ((is_ic ∙ ap cell_numbers is_cs) i) (is_ms i)

    pub said : (r : Option NetlistFault) → r ≡ fault_numbered texts im ic ms → names_report s ≡ option_map (report_of texts) r
    said r e = report_same ∙ sym (ap (option_map (report_of texts)) (e ∙ numbered_same))

    unknown_none : (a : Option NameId) (b : Option InstanceRef) → or_else (option_map reserved_fault a) (option_map unknown_fault b) ≡ None → b ≡ None
    unknown_none None None e = refl
    unknown_none None (Some at) e = cc
    unknown_none (Some x) b e = cc

    pub targets : (r : Option NetlistFault) → r ≡ fault_numbered texts im ic ms → r ≡ None → (rows : List (List Target)) → rows ≡ map (row_in im ic) ms → AreTargets s rows
    targets r e none rows is_rows =
        let nothing = unknown_none (first_reserved texts cells n.modules) (first_unknown modules cells n.modules) (sym (e ∙ numbered_same) ∙ none) in
        let same : rows ≡ map (row_in modules cells) n.modules = is_rows ∙ (λ i. map (row_in ((is_im ∙ ap module_numbers is_ms) i) ((is_ic ∙ ap cell_numbers is_cs) i)) (is_ms i)) in
        record {
          modules = ap (map (map (module_of s))) same ∙ rows_modules n.modules are_named.netlist nothing;
          cells = ap (map (map (cell_of s))) same ∙ rows_cells n.modules are_named.netlist nothing;
        }
