-- Templates lie behind one another by the sizes of modules, and no module is higher than the instances that stand in it.
use Rattle.std.proofs.Common.{◌≡◌, inl, inr, ℕ, zero, suc, ◌+◌, ◌-◌, ◌<◌, ◌≤◌, min, true, false, List, [], ◌∷◌, ◌++◌, map, length, Option, Some, None, refl, sym, ap, ◌∙◌, subst, arith}
use Rattle.std.specs.Prelude.{filter, flat_map, is_some, nat_lt, not, reverse, slice_get, slice_index_or, sum_by, if◌then◌else◌}
use Rattle.std.specs.List.{Contains}
use Rattle.std.specs.Option.{option_map_or}
use Rattle.std.proofs.lemmas.Bool.{true≢false, ltb-false, cases_lt}
use Rattle.std.proofs.lemmas.List.{length-append}
use Rattle.std.proofs.lemmas.List.Sums.{sum_by-cons}
use Rattle.lp_model.specs.declared.fault.netlist.NetlistLimit.{NetlistLimit}
use Rattle.lp_model.specs.declared.fault.netlist.NetlistLimit.TheVariants as limits
use Rattle.lp_model.specs.declared.library.Cell.{Cell}
use Rattle.lp_model.specs.declared.library.Library.{Library}
use Rattle.lp_model.specs.declared.netlist.Instance.{Instance}
use Rattle.lp_model.specs.declared.netlist.Module.{Module}
use Rattle.lp_model.specs.declared.netlist.Netlist.{Netlist}
use Rattle.lp_model.specs.NetlistView.{PortView, NetView, InstanceView, ModuleView, port_view, net_view, instance_view, module_view}
use Rattle.lp_model.specs.LibraryView.{CellView, cell_view}
use Rattle.lp_order.specs.Order.{Reads}
use Rattle.lp_spec_design.specs.Netlists.{Structure, module_named, cell_named, top_of, is_instantiated, indices}
use Rattle.lp_spec_design.specs.Graph.{and_more, some_of}
use Rattle.lp_spec_design.specs.Winners.{IsIn}
use Rattle.lp_spec_design.proofs.Members.{any-in}
use Rattle.lp_spec_faults.specs.Lines.{first_of}
use Rattle.lp_spec_faults.specs.Modules.{bit_count, modules_in, cells_in, in_all, is_deeper, is_over, netlist_limits}
use Rattle.lp_spec_faults.specs.Modules as modules
use Rattle.lp_spec_bridge.specs.Templates.{bit_named, bits_in}
use Rattle.lp_spec_layout.specs.Parts as parts
use Rattle.lp_spec_layout.specs.Walked.{own_size, leaf_size, joined_size, Follows, HasHeight}
use Rattle.lp_spec_layout.proofs.Lists.{get-map}
use Rattle.lp_targets.specs.declared.size.Size.{Size}
use Rattle.lp_targets.specs.declared.target.Target.{Target}
use Rattle.lp_targets.specs.declared.target.Target.TheVariants.{OfModule, OfCell}
use Rattle.lp_targets.specs.Children.{children_of, children}
use Rattle.lp_targets.specs.Sizes.{in_module, size_of, sizes_of, IsResolved}
use Rattle.lp_targets.specs.Structures.{structure_of}
use Rattle.lp_targets.proofs.BelowTop.{kept_one, below_top}
use Rattle.lp_targets.proofs.Looping.{stands, in_module as child_in_module}
use Rattle.lp_targets.proofs.Recursion.{row_at}
use Rattle.lp_targets.proofs.Summed.{never, place_in}
use Rattle.lp_targets.proofs.Together.{by_module}
use Rattle.lp_templates.specs.Connected.{inputs_from, outputs_from, cell_row}
use Rattle.lp_templates.specs.Modules.{module_statement, cell_statement, placed_statement, size_placed, statements_from, own_bits, template_of, templates_from, templates_numbered}
use Rattle.lp_templates.specs.Numbered.{declared_in}
use Rattle.lp_templates.specs.Sizes.{capped, joined, no_size, one_cell, own_of}
use Rattle.lp_templates.specs.Stocks.{Stock, stock_of}
use Rattle.lp_templates.specs.Views.{size_view}
use Rattle.lp_spec_numbered.specs.Measured.{AreMeasured}
use Rattle.lp_spec_numbered.proofs.Bound.{IsBound, IsRow, bound-row}
use Rattle.lp_spec_numbered.proofs.Faults.{first-none, or-false}
use Rattle.lp_spec_numbered.proofs.Heights.{above, chain, contains-of, above-lower, above-reached, stands-above, child-in, in-children}
use Rattle.lp_spec_numbered.proofs.Places.{length-map, length-indices, entry-or}

-- ---- lists

at-map : {A B : Type 0} (f : A → B) (xs : List A) (k : ℕ) (y : B) → slice_get (map f xs) k ≡ Some y → (x : A) × (slice_get xs k ≡ Some x) × (f x ≡ y)
at-map f [] k y e = cc
at-map f (x ∷ xs) zero y e = let is : f x ≡ y = cc in (x, refl, is)
at-map f (x ∷ xs) (suc k) y e = at-map f xs k y e

sum-map : {A B : Type 0} (w : B → ℕ) (f : A → B) (xs : List A) → sum_by w (map f xs) ≡ sum_by (λ x. w (f x)) xs
sum-map w f [] = refl
sum-map w f (x ∷ xs) = let more = sum-map w f xs in omega (arith, more, sum_by-cons w (f x) (map f xs), sum_by-cons (λ z. w (f z)) x xs)

count-flat : {A B : Type 0} (f : A → List B) (w : A → ℕ) (xs : List A) → ((x : A) → length (f x) ≡ w x) → length (flat_map f xs) ≡ sum_by w xs
count-flat f w [] each = refl
count-flat f w (x ∷ xs) each = omega (arith, length-append (f x) (flat_map f xs), each x, count-flat f w xs each, sum_by-cons w x xs)

-- ---- the bits of a module

module _ (texts : List (List ℕ)) (m : Module) where
  own-sum : modules.bits_in (module_view texts m) ≡ own_bits m
  own-sum = λ i. sum-map (λ (p : PortView). bit_count p.range) (port_view texts) m.ports i + sum-map (λ (x : NetView). bit_count x.range) (net_view texts) m.nets i

  own-count : length (bits_in (module_view texts m)) ≡ own_bits m
  own-count =
      length-append (flat_map (λ (x : PortView). map (bit_named x.name) (indices x.range)) (map (port_view texts) m.ports)) (flat_map (λ (x : NetView). map (bit_named x.name) (indices x.range)) (map (net_view texts) m.nets))
      ∙ (λ i.
      count-flat (λ (x : PortView). map (bit_named x.name) (indices x.range)) (λ (x : PortView). bit_count x.range) (map (port_view texts) m.ports) (λ x. length-map (bit_named x.name) (indices x.range) ∙ length-indices x.range) i
      + count-flat (λ (x : NetView). map (bit_named x.name) (indices x.range)) (λ (x : NetView). bit_count x.range) (map (net_view texts) m.nets) (λ x. length-map (bit_named x.name) (indices x.range) ∙ length-indices x.range) i)
      ∙ own-sum

-- ---- counts that stay below what 32 bits hold

kept : (b a r whole t : ℕ) → whole ≡ a + r → b + whole ≡ t → t < 4294967295 → (capped b a ≡ b + a) × (capped b a + r ≡ t)
kept b a r whole t parted all low =
    let small : b + a ≤ 4294967295 = omega (arith, parted, all, low) in
    let is : min 4294967295 (b + a) ≡ b + a = omega (arith, small) in
    (is, omega (arith, is, parted, all))

-- each count of a size is below that
pub record IsSmall (total : Size) : Type 0 where
  pub nodes : total.nodes < 4294967295
  pub cells : total.cells < 4294967295
  pub instances : total.instances < 4294967295

-- ---- a netlist within its limits

module _ (texts : List (List ℕ)) (n : Netlist) (l : Library) (rows : List (List Target)) (order : List ℕ) (top : ℕ) (resolved : IsResolved (structure_of texts n l) rows order top) where
  abbrev s : Structure
  s = structure_of texts n l

  abbrev graph : List (List ℕ)
  graph = children rows

  abbrev x : Stock
  x = stock_of n l (sizes_of s)

  abbrev height : ℕ → ℕ
  height a = chain graph (length (reverse order)) a

  abbrev size : ℕ → parts.Size
  size a = size_view (slice_index_or (sizes_of s) a no_size)

  size-at : (a : ℕ) (v : ModuleView) → slice_get s.modules a ≡ Some v → slice_index_or (sizes_of s) a no_size ≡ size_of s v
  size-at a v at = entry-or (sizes_of s) a (size_of s v) no_size (get-map (size_of s) s.modules a v at)

  -- ---- heights

  is-above : (a : ℕ) (v : ModuleView) → slice_get s.modules a ≡ Some v → (row : List Target) → slice_get rows a ≡ Some row → height a ≡ above height (children_of row)
  is-above a v at row e =
      stands-above graph (reverse order) resolved.ordered.ordered a (resolved.ordered.complete a (place_in s rows order top resolved a v at))
      ∙ ap (above height) (row_at rows a row e)

  deeper : (steps a : ℕ) (v : ModuleView) → slice_get s.modules a ≡ Some v → steps ≤ height a → is_deeper s steps v ≡ true
  deeper zero a v at h = refl
  deeper (suc steps) a v at h =
      let row = bound-row s rows resolved.known a v at in
      let high : above height (children_of row.0) ≡ suc (height a - 1) = omega (arith, h, is-above a v at row.0 row.1) in
      let low = above-reached height (children_of row.0) (height a - 1) high in
      let place = child-in row.0 low.0 low.1 in
      let held = row.2.held place.0 (OfModule low.0) place.1 in
      let k = stands s.modules low.0 (held.2.modules low.0 refl) in
      let read : Reads graph a low.0 = subst (λ ks. Contains ks low.0) (sym (row_at rows a row.0 row.1)) (contains-of (children_of row.0) low.0 low.1) in
      any-in (is_deeper s steps) k.0 (modules_in s v) (child_in_module s rows resolved.known.targets a low.0 v k.0 at k.1 read)
      (deeper steps low.0 k.0 k.1 (omega (arith, h, low.2)))

  -- ---- statements

  module _ (m : Module) (row : List Target) (bound : IsRow s (module_view texts m) row) where
    abbrev v : ModuleView
    v = module_view texts m

    abbrev IsAt : ℕ → Instance → Type 0
    IsAt j y = (t : Target) × (slice_get row j ≡ Some t) × IsBound s (instance_view texts y) t

    abbrev made : ℕ → Size → Instance → Module → parts.Child
    made k before y inner = record { of = k; before = size_view before; inputs = inputs_from (declared_in m) y.connections 0 0 inner.ports; outputs = outputs_from (declared_in m) y.connections 0 0 inner.ports }

    source-at : (k : ℕ) → k < length s.modules → (inner : Module) × (slice_get n.modules k ≡ Some inner)
    source-at k h = let many : length s.modules ≡ length n.modules = length-map (module_view texts) n.modules in stands n.modules k (subst (λ z. k < z) many h)

    cell-at : (k : ℕ) → k < length s.cells → (c : Cell) × (slice_get l.cells k ≡ Some c)
    cell-at k h = let many : length s.cells ≡ length l.cells = length-map (cell_view texts) l.cells in stands l.cells k (subst (λ z. k < z) many h)

    -- each instance has one statement
    single : (before : Size) (y : Instance) (t : Target) → IsBound s (instance_view texts y) t → (z : parts.Statement) × (placed_statement x (declared_in m) before (Some t) y ≡ z ∷ [])
    single before y (OfModule k) b = let inner = source-at k (b.modules k refl) in (parts.OfModule (made k before y inner.0), ap (module_statement (declared_in m) before k y) inner.1)
    single before y (OfCell k) b =
        let c = cell-at k (b.cells k refl) in
        (parts.OfCell (record { of = k; before = before.cells; row = cell_row (declared_in m) y.connections c.0 }), ap (cell_statement (declared_in m) before k y) c.1)

    -- where a module stands in the row its instance stands among the statements
    child-at : (before : Size) (j : ℕ) (ys : List Instance) → ((i : ℕ) (y : Instance) → slice_get ys i ≡ Some y → IsAt (j + i) y) → (i : ℕ) (y : Instance) → slice_get ys i ≡ Some y → (k : ℕ) → slice_get row (j + i) ≡ Some (OfModule k)
        → (c : parts.Child) × (slice_get (statements_from x (declared_in m) row before j ys) i ≡ Some (parts.OfModule c)) × (c.of ≡ k)
    child-at before j [] each i y e k r = cc
    child-at before j (w ∷ ys) each zero y e k r =
        let start : j + 0 ≡ j = omega arith in
        let here : IsAt (j + 0) w = each 0 w refl in
        let two : Some here.0 ≡ Some (OfModule k) = sym here.1 ∙ r in
        let is : here.0 ≡ OfModule k = cc in
        let inner = source-at k (here.2.modules k is) in
        let place : slice_get row j ≡ Some (OfModule k) = sym (ap (slice_get row) start) ∙ r in
        let list : placed_statement x (declared_in m) before (slice_get row j) w ≡ parts.OfModule (made k before w inner.0) ∷ [] = ap (λ o. placed_statement x (declared_in m) before o w) place ∙ ap (module_statement (declared_in m) before k w) inner.1 in
        (made k before w inner.0, ap (λ zs. slice_get (zs ++ statements_from x (declared_in m) row (size_placed x before (slice_get row j)) (j + 1) ys) 0) list, refl)
    child-at before j (w ∷ ys) each (suc i) y e k r =
        let start : j + 0 ≡ j = omega arith in
        let here : IsAt j w = subst (λ z. IsAt z w) start (each 0 w refl) in
        let next : (p : ℕ) → j + suc p ≡ j + 1 + p = λ p. omega arith in
        let only = single before w here.0 here.2 in
        let list : placed_statement x (declared_in m) before (slice_get row j) w ≡ only.0 ∷ [] = ap (λ o. placed_statement x (declared_in m) before o w) here.1 ∙ only.1 in
        let more = child-at (size_placed x before (slice_get row j)) (j + 1) ys (λ p z f. subst (λ q. IsAt q z) (next p) (each (suc p) z f)) i y e k (ap (slice_get row) (sym (next i)) ∙ r) in
        (more.0, ap (λ zs. slice_get (zs ++ statements_from x (declared_in m) row (size_placed x before (slice_get row j)) (j + 1) ys) (suc i)) list ∙ more.1, more.2)

    -- ---- sums

    -- what the modules of some instances have together, and how many of them are cells
    abbrev Inner : (ModuleView → ℕ) → List Instance → ℕ
    Inner each ys = sum_by (in_module s each) (some_of (λ (i : InstanceView). module_named s i.target) (map (instance_view texts) ys))

    abbrev Leaves : List Instance → ℕ
    Leaves ys = length (filter (λ (i : InstanceView). is_some (cell_named s i.target)) (map (instance_view texts) ys))

    -- what lies before some instances, and they themselves, are all
    pub record AreRest (before : Size) (ys : List Instance) (total : Size) : Type 0 where
      pub nodes : before.nodes + Inner modules.bits_in ys ≡ total.nodes
      pub cells : before.cells + (Leaves ys + Inner (cells_in s) ys) ≡ total.cells
      pub instances : before.instances + Inner (λ k. 1) ys ≡ total.instances

    inner-more : (each : ModuleView → ℕ) (y : Instance) (ys : List Instance) (k : ModuleView) → module_named s (instance_view texts y).target ≡ Some k → Inner each (y ∷ ys) ≡ in_module s each k + Inner each ys
    inner-more each y ys k e =
        ap (λ o. sum_by (in_module s each) (and_more o (some_of (λ (i : InstanceView). module_named s i.target) (map (instance_view texts) ys)))) e
        ∙ sum_by-cons (in_module s each) k (some_of (λ (i : InstanceView). module_named s i.target) (map (instance_view texts) ys))

    inner-same : (each : ModuleView → ℕ) (y : Instance) (ys : List Instance) → module_named s (instance_view texts y).target ≡ None → Inner each (y ∷ ys) ≡ Inner each ys
    inner-same each y ys e = ap (λ o. sum_by (in_module s each) (and_more o (some_of (λ (i : InstanceView). module_named s i.target) (map (instance_view texts) ys)))) e

    leaves-at : (y : Instance) (ys : List Instance) (o : Option CellView) → cell_named s (instance_view texts y).target ≡ o → Leaves (y ∷ ys) ≡ (if is_some o then suc (Leaves ys) else Leaves ys)
    leaves-at y ys None e = ap (λ o. length (if is_some o then instance_view texts y ∷ filter (λ (i : InstanceView). is_some (cell_named s i.target)) (map (instance_view texts) ys) else filter (λ (i : InstanceView). is_some (cell_named s i.target)) (map (instance_view texts) ys))) e
    leaves-at y ys (Some c) e = ap (λ o. length (if is_some o then instance_view texts y ∷ filter (λ (i : InstanceView). is_some (cell_named s i.target)) (map (instance_view texts) ys) else filter (λ (i : InstanceView). is_some (cell_named s i.target)) (map (instance_view texts) ys))) e

    -- ---- each statement lies behind those before it

    module _ (high : ℕ) (total : Size) (few : IsSmall total) (lower : (i k : ℕ) → slice_get row i ≡ Some (OfModule k) → height k < high) where
      abbrev Lies : Size → List parts.Statement → Type 0
      Lies before zs = Follows size height high (size_view before) zs (size_view total)

      joined-exact : (before a : Size) → capped before.nodes a.nodes ≡ before.nodes + a.nodes → capped before.cells a.cells ≡ before.cells + a.cells → capped before.instances a.instances ≡ before.instances + a.instances
          → size_view (joined before a) ≡ joined_size (size_view before) (size_view a)
      joined-exact before a e f g = λ i. record { instances = g i; bits = e i; leaves = f i }

      module-lies : (before : Size) (j : ℕ) (y : Instance) (ys : List Instance) (k : ℕ) → slice_get row j ≡ Some (OfModule k) → IsBound s (instance_view texts y) (OfModule k) → AreRest before (y ∷ ys) total
          → ((b : Size) → AreRest b ys total → Lies b (statements_from x (declared_in m) row b (j + 1) ys))
          → Lies before (placed_statement x (declared_in m) before (Some (OfModule k)) y ++ statements_from x (declared_in m) row (size_placed x before (Some (OfModule k))) (j + 1) ys)
      module-lies before j y ys k e b r more =
          let inner = source-at k (b.modules k refl) in
          let iv : ModuleView = module_view texts inner.0 in
          let there : slice_get s.modules k ≡ Some iv = get-map (module_view texts) n.modules k inner.0 inner.1 in
          let named : module_named s (instance_view texts y).target ≡ Some iv = sym b.of_module ∙ there in
          let a : Size = slice_index_or (sizes_of s) k no_size in
          let is : a ≡ size_of s iv = size-at k iv there in
          let none : cell_named s (instance_view texts y).target ≡ None = sym b.of_cell in
          let n-is : a.nodes ≡ in_module s modules.bits_in iv = ap (λ (z : Size). z.nodes) is in
          let c-is : a.cells ≡ in_module s (cells_in s) iv = ap (λ (z : Size). z.cells) is in
          let i-is : a.instances ≡ in_module s (λ q. 1) iv = ap (λ (z : Size). z.instances) is in
          let n-more : Inner modules.bits_in (y ∷ ys) ≡ a.nodes + Inner modules.bits_in ys = inner-more modules.bits_in y ys iv named ∙ ap (λ z. z + Inner modules.bits_in ys) (sym n-is) in
          let c-inner : Inner (cells_in s) (y ∷ ys) ≡ a.cells + Inner (cells_in s) ys = inner-more (cells_in s) y ys iv named ∙ ap (λ z. z + Inner (cells_in s) ys) (sym c-is) in
          let c-leaves : Leaves (y ∷ ys) ≡ Leaves ys = leaves-at y ys None none in
          let c-more : Leaves (y ∷ ys) + Inner (cells_in s) (y ∷ ys) ≡ a.cells + (Leaves ys + Inner (cells_in s) ys) = omega (arith, c-inner, c-leaves) in
          let i-more : Inner (λ q. 1) (y ∷ ys) ≡ a.instances + Inner (λ q. 1) ys = inner-more (λ q. 1) y ys iv named ∙ ap (λ z. z + Inner (λ q. 1) ys) (sym i-is) in
          let nodes = kept before.nodes a.nodes (Inner modules.bits_in ys) (Inner modules.bits_in (y ∷ ys)) total.nodes n-more r.nodes few.nodes in
          let cells = kept before.cells a.cells (Leaves ys + Inner (cells_in s) ys) (Leaves (y ∷ ys) + Inner (cells_in s) (y ∷ ys)) total.cells c-more r.cells few.cells in
          let instances = kept before.instances a.instances (Inner (λ q. 1) ys) (Inner (λ q. 1) (y ∷ ys)) total.instances i-more r.instances few.instances in
          let rest : Lies (joined before a) (statements_from x (declared_in m) row (joined before a) (j + 1) ys) = more (joined before a) (record { nodes = nodes.1; cells = cells.1; instances = instances.1 }) in
          let behind : Follows size height high (joined_size (size_view before) (size k)) (statements_from x (declared_in m) row (joined before a) (j + 1) ys) (size_view total) =
          subst (λ z. Follows size height high z (statements_from x (declared_in m) row (joined before a) (j + 1) ys) (size_view total)) (joined-exact before a nodes.0 cells.0 instances.0) rest in
          subst (λ o. Lies before (module_statement (declared_in m) before k y o ++ statements_from x (declared_in m) row (joined before a) (j + 1) ys)) (sym inner.1) (refl, lower j k e, behind)

      cell-lies : (before : Size) (j : ℕ) (y : Instance) (ys : List Instance) (k : ℕ) → IsBound s (instance_view texts y) (OfCell k) → AreRest before (y ∷ ys) total
          → ((b : Size) → AreRest b ys total → Lies b (statements_from x (declared_in m) row b (j + 1) ys))
          → Lies before (placed_statement x (declared_in m) before (Some (OfCell k)) y ++ statements_from x (declared_in m) row (size_placed x before (Some (OfCell k))) (j + 1) ys)
      cell-lies before j y ys k b r more =
          let c = cell-at k (b.cells k refl) in
          let named : cell_named s (instance_view texts y).target ≡ Some (cell_view texts c.0) = sym b.of_cell ∙ get-map (cell_view texts) l.cells k c.0 c.1 in
          let none : module_named s (instance_view texts y).target ≡ None = sym b.of_module in
          let n-same : Inner modules.bits_in (y ∷ ys) ≡ Inner modules.bits_in ys = inner-same modules.bits_in y ys none in
          let n-more : Inner modules.bits_in (y ∷ ys) ≡ 0 + Inner modules.bits_in ys = omega (arith, n-same) in
          let c-inner : Inner (cells_in s) (y ∷ ys) ≡ Inner (cells_in s) ys = inner-same (cells_in s) y ys none in
          let c-leaves : Leaves (y ∷ ys) ≡ suc (Leaves ys) = leaves-at y ys (Some (cell_view texts c.0)) named in
          let c-more : Leaves (y ∷ ys) + Inner (cells_in s) (y ∷ ys) ≡ 1 + (Leaves ys + Inner (cells_in s) ys) = omega (arith, c-inner, c-leaves) in
          let i-same : Inner (λ q. 1) (y ∷ ys) ≡ Inner (λ q. 1) ys = inner-same (λ q. 1) y ys none in
          let i-more : Inner (λ q. 1) (y ∷ ys) ≡ 0 + Inner (λ q. 1) ys = omega (arith, i-same) in
          let nodes = kept before.nodes 0 (Inner modules.bits_in ys) (Inner modules.bits_in (y ∷ ys)) total.nodes n-more r.nodes few.nodes in
          let cells = kept before.cells 1 (Leaves ys + Inner (cells_in s) ys) (Leaves (y ∷ ys) + Inner (cells_in s) (y ∷ ys)) total.cells c-more r.cells few.cells in
          let instances = kept before.instances 0 (Inner (λ q. 1) ys) (Inner (λ q. 1) (y ∷ ys)) total.instances i-more r.instances few.instances in
          let rest : Lies (joined before one_cell) (statements_from x (declared_in m) row (joined before one_cell) (j + 1) ys) = more (joined before one_cell) (record { nodes = nodes.1; cells = cells.1; instances = instances.1 }) in
          let behind : Follows size height high (joined_size (size_view before) leaf_size) (statements_from x (declared_in m) row (joined before one_cell) (j + 1) ys) (size_view total) =
          subst (λ z. Follows size height high z (statements_from x (declared_in m) row (joined before one_cell) (j + 1) ys) (size_view total)) (joined-exact before one_cell nodes.0 cells.0 instances.0) rest in
          subst (λ o. Lies before (cell_statement (declared_in m) before k y o ++ statements_from x (declared_in m) row (joined before one_cell) (j + 1) ys)) (sym c.1) (refl, behind)

      follows : (before : Size) (j : ℕ) (ys : List Instance) → ((i : ℕ) (y : Instance) → slice_get ys i ≡ Some y → IsAt (j + i) y) → AreRest before ys total → Lies before (statements_from x (declared_in m) row before j ys)
      follows before j [] each r =
          let nodes : before.nodes ≡ total.nodes = omega (arith, r.nodes) in
          let cells : before.cells ≡ total.cells = omega (arith, r.cells) in
          let instances : before.instances ≡ total.instances = omega (arith, r.instances) in
          λ i. record { instances = instances i; bits = nodes i; leaves = cells i }
      follows before j (y ∷ ys) each r =
          let start : j + 0 ≡ j = omega arith in
          let here : IsAt j y = subst (λ z. IsAt z y) start (each 0 y refl) in
          let next : (p : ℕ) → j + suc p ≡ j + 1 + p = λ p. omega arith in
          let more = λ (b : Size). follows b (j + 1) ys (λ p z f. subst (λ q. IsAt q z) (next p) (each (suc p) z f)) in
          subst (λ o. Lies before (placed_statement x (declared_in m) before o y ++ statements_from x (declared_in m) row (size_placed x before o) (j + 1) ys)) (sym here.1)
          (by here.0 here.1 here.2 more)
        where
          by : (t : Target) → slice_get row j ≡ Some t → IsBound s (instance_view texts y) t → ((b : Size) → AreRest b ys total → Lies b (statements_from x (declared_in m) row b (j + 1) ys))
              → Lies before (placed_statement x (declared_in m) before (Some t) y ++ statements_from x (declared_in m) row (size_placed x before (Some t)) (j + 1) ys)
          by (OfModule k) e b more = module-lies before j y ys k e b r more
          by (OfCell k) e b more = cell-lies before j y ys k b r more

  module _ (within : first_of (netlist_limits s) ≡ None) where
    top-view : (t : ModuleView) × (top_of s ≡ Some t)
    top-view = kept_one (λ (m : ModuleView). not (is_instantiated s m.name)) s.modules resolved.one

    no-limit : (x : NetlistLimit) → IsIn x ((netlist_limits s).places) → is_over s x ≡ false
    no-limit x h = first-none (is_over s) ((netlist_limits s).places) x within h

    few : (each : ModuleView → ℕ) (limit a : ℕ) (v : ModuleView) → nat_lt limit (in_all s each) ≡ false → slice_get s.modules a ≡ Some v → in_module s each v ≤ limit
    few each limit a v e at =
        let whole : in_all s each ≡ in_module s each top-view.0 = ap (λ o. option_map_or (in_module s each) o 0) top-view.1 in
        omega (arith, ltb-false limit (in_all s each) e, whole, below_top s rows order top resolved each top-view.0 top-view.1 a v at)

    small : (a : ℕ) (v : ModuleView) → slice_get s.modules a ≡ Some v → IsSmall (size_of s v)
    small a v at =
        let both = or-false (nat_lt 1000000 (in_all s (cells_in s))) (nat_lt 1000000 (in_all s (λ m. 1))) (no-limit limits.Instances (inr (inl refl))) in
        let nodes : in_module s modules.bits_in v ≤ 4000000 = few modules.bits_in 4000000 a v (no-limit limits.Nodes (inl refl)) at in
        let cells : in_module s (cells_in s) v ≤ 1000000 = few (cells_in s) 1000000 a v both.0 at in
        let instances : in_module s (λ m. 1) v ≤ 1000000 = few (λ m. 1) 1000000 a v both.1 at in
        record { nodes = omega (arith, nodes); cells = omega (arith, cells); instances = omega (arith, instances) }

    low : height top < 64
    low =
        let at : slice_get s.modules top ≡ Some top-view.0 = resolved.placed ∙ top-view.1 in
        let never : is_deeper s 64 top-view.0 ≡ false = sym (ap (λ o. option_map_or (is_deeper s 64) o false) top-view.1) ∙ no-limit limits.Depth (inr (inr (inl refl))) in
        elim (cases_lt (height top) 64) [
          | inl less ↦ less
          | inr more ↦ absurd (true≢false (sym (deeper 64 top top-view.0 at more) ∙ never))
        ]

    -- ---- modules

    module _ (a : ℕ) (m : Module) (at : slice_get n.modules a ≡ Some m) where
      abbrev mv : ModuleView
      mv = module_view texts m

      view-at : slice_get s.modules a ≡ Some mv
      view-at = get-map (module_view texts) n.modules a m at

      lies : (row : List Target) → slice_get rows a ≡ Some row → IsRow s mv row → Follows size height (height a) (own_size mv) (template_of x row m).statements (size_view (size_of s mv))
      lies row e r =
          let high : height a ≡ above height (children_of row) = is-above a mv view-at row e in
          let nodes : in_module s modules.bits_in mv ≡ modules.bits_in mv + Inner m row r modules.bits_in m.instances = by_module s rows modules.bits_in a mv resolved.known.targets (never s rows order top resolved) view-at in
          let cells : in_module s (cells_in s) mv ≡ cells_in s mv + Inner m row r (cells_in s) m.instances = by_module s rows (cells_in s) a mv resolved.known.targets (never s rows order top resolved) view-at in
          let instances : in_module s (λ q. 1) mv ≡ 1 + Inner m row r (λ q. 1) m.instances = by_module s rows (λ q. 1) a mv resolved.known.targets (never s rows order top resolved) view-at in
          let leaves : 0 + (Leaves m row r m.instances + Inner m row r (cells_in s) m.instances) ≡ in_module s (cells_in s) mv = omega (arith, cells) in
          let all : AreRest m row r (own_of (own_bits m)) m.instances (size_of s mv) = record {
            nodes = ap (λ z. z + Inner m row r modules.bits_in m.instances) (sym (own-sum texts m)) ∙ sym nodes;
            cells = leaves;
            instances = sym instances;
          } in
          let own : own_size mv ≡ size_view (own_of (own_bits m)) = λ i. record { instances = 1; bits = own-count texts m i; leaves = 0 } in
          let start : (i : ℕ) → 0 + i ≡ i = λ i. omega arith in
          subst (λ z. Follows size height (height a) z (template_of x row m).statements (size_view (size_of s mv))) (sym own)
          (follows m row r (height a) (size_of s mv) (small a mv view-at)
          (λ i k f. subst (λ z. height k < z) (sym high) (above-lower height (children_of row) k (in-children row i k f)))
          (own_of (own_bits m)) 0 m.instances
          (λ i y f. subst (λ z. IsAt m row r z y) (sym (start i)) (r.each i (instance_view texts y) (get-map (instance_view texts) m.instances i y f)))
          all)

    templates-at : (j : ℕ) (ms : List Module) (a : ℕ) (m : Module) → slice_get ms a ≡ Some m → slice_get (templates_from x rows j ms) a ≡ Some (template_of x (slice_index_or rows (j + a) []) m)
    templates-at j [] a m e = cc
    templates-at j (w ∷ ms) zero m e = let is : w ≡ m = cc in let start : j ≡ j + 0 = omega arith in λ i. Some (template_of x (slice_index_or rows (start i) []) (is i))
    templates-at j (w ∷ ms) (suc a) m e = let next : j + 1 + a ≡ j + suc a = omega arith in templates-at (j + 1) ms a m e ∙ ap (λ z. Some (template_of x (slice_index_or rows z []) m)) next

    -- the template of a module, and its row
    template-is : (a : ℕ) (v : ModuleView) (t : parts.Template) → slice_get s.modules a ≡ Some v → slice_get (templates_numbered x rows) a ≡ Some t
        → (m : Module) × (row : List Target) × (slice_get n.modules a ≡ Some m) × (module_view texts m ≡ v) × (slice_get rows a ≡ Some row) × IsRow s (module_view texts m) row × (template_of x row m ≡ t)
    template-is a v t at has =
        let source = at-map (module_view texts) n.modules a v at in
        let row = bound-row s rows resolved.known a v at in
        let start : 0 + a ≡ a = omega arith in
        let found = templates-at 0 n.modules a source.0 source.1 ∙ ap (λ z. Some (template_of x (slice_index_or rows z []) source.0)) start ∙ ap (λ r. Some (template_of x r source.0)) (entry-or rows a row.0 [] row.1) in
        let both : Some (template_of x row.0 source.0) ≡ Some t = sym found ∙ has in
        let is : template_of x row.0 source.0 ≡ t = cc in
        (source.0, row.0, source.1, source.2, row.1, subst (λ z. IsRow s z row.0) (sym source.2) row.2, is)

    each-follows : (a : ℕ) (v : ModuleView) (t : parts.Template) → slice_get s.modules a ≡ Some v → slice_get (templates_numbered x rows) a ≡ Some t → Follows size height (height a) (own_size v) t.statements (size a)
    each-follows a v t at has =
        let it = template-is a v t at has in
        let total : size_view (size_of s v) ≡ size a = ap size_view (sym (size-at a v at)) in
        subst (λ z. Follows size height (height a) (own_size v) t.statements z) total
        (subst (λ (z : parts.Template). Follows size height (height a) (own_size v) z.statements (size_view (size_of s v))) it.6
        (subst (λ z. Follows size height (height a) (own_size z) (template_of x it.1 it.0).statements (size_view (size_of s z))) it.3 (lies a it.0 it.2 it.1 it.4 it.5)))

    each-reached : (a : ℕ) (v : ModuleView) (t : parts.Template) → slice_get s.modules a ≡ Some v → slice_get (templates_numbered x rows) a ≡ Some t → (k : ℕ) → height a ≡ suc k → HasHeight height k t.statements
    each-reached a v t at has k e =
        let it = template-is a v t at has in
        let r : IsRow s (module_view texts it.0) it.1 = it.5 in
        let low = above-reached height (children_of it.1) k (sym (is-above a v at it.1 it.4) ∙ e) in
        let place = child-in it.1 low.0 low.1 in
        let held = r.held place.0 (OfModule low.0) place.1 in
        let y = at-map (instance_view texts) it.0.instances place.0 held.0 held.1 in
        let start : (i : ℕ) → 0 + i ≡ i = λ i. omega arith in
        let child = child-at it.0 it.1 r (own_of (own_bits it.0)) 0 it.0.instances
        (λ i z f. subst (λ q. IsAt it.0 it.1 r q z) (sym (start i)) (r.each i (instance_view texts z) (get-map (instance_view texts) it.0.instances i z f)))
        place.0 y.0 y.1 low.0 (ap (slice_get it.1) (start place.0) ∙ place.1) in
        record {
          place = place.0;
          child = child.0;
          at = ap (λ (z : parts.Template). slice_get z.statements place.0) (sym it.6) ∙ child.1;
          is = ap height child.2 ∙ low.2;
        }

    pub measured : AreMeasured s (templates_numbered x rows) (sizes_of s) top
    measured = record {
      sized = record { size = size; height = height; each = each-follows };
      told = λ a. refl;
      exact = each-reached;
      low = low;
    }
