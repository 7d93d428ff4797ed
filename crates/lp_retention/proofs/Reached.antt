-- What elements name by number is what they name by paths.
use Rattle.std.proofs.Common.{◌≡◌, ◌<◌, ℕ, Bool, true, false, ◌&&◌, ◌||◌, List, [], ◌∷◌, map, length, get_or, refl, sym, ap, ◌∙◌, arith}
use Rattle.std.specs.Prelude.{nat_lt, bytes_eq, if◌then◌else◌}
use Rattle.std.specs.List.{list_any, list_all}
use Rattle.std.proofs.lemmas.Bool.{ltb-true}
use Rattle.std.proofs.lemmas.List.{get_or-map, length-map}
use Rattle.lp_model.specs.declared.graph.Graph.{Graph}
use Rattle.lp_model.specs.declared.intent.Element as model_element
use Rattle.lp_model.specs.declared.intent.Element.TheVariants.{Inst, Leaf, Port, Bit}
use Rattle.lp_model.specs.declared.intent.Intent as model
use Rattle.lp_spec_design.specs.Keys.{Name, Path, same_path, Node, Inner, Outer, Fixed}
use Rattle.lp_spec_design.specs.Instances.{Placed, module_instances, cell_instances}
use Rattle.lp_spec_design.specs.Intents.{Element, AtInstance, AtCell, AtPort, AtBit}
use Rattle.lp_spec_design.specs.Registers.{is_above, names_register, is_cell}
use Rattle.lp_spec_design.specs.Reads.{one, other, both, path-true, path-self, name-true, name-self}
use Rattle.lp_spec_bridge.specs.Tables.{tables_of}
use Rattle.lp_spec_bridge.specs.Keyed.{keys_of, node_at, leaf_at, path_at}
use Rattle.lp_spec_bridge.specs.Elaborates.{placed_key}
use Rattle.lp_spec_bridge.proofs.Apart.{same-places, any-image}
use Rattle.lp_spec_bridge.proofs.Inherited.{pass_inherits}
use Rattle.lp_spec_realises.specs.Projects.{Project}
use Rattle.lp_spec_views.specs.Views.{bit_element, element_view}
use Rattle.lp_spec_views.specs.Ranges.{has_element}
use Rattle.lp_domains.proofs.Viewed.{same-entries}
use Rattle.lp_strategy.specs.Claims.{IsGiven}
use Rattle.lp_strategy.proofs.Numbers.{size}
use Rattle.lp_retention.specs.Marks.{instance_of, cell_of, marks, own_mark, either_mark, reached}
use Rattle.lp_retention.specs.Ranks.{reached_by, cells_by}
use Rattle.lp_retention.proofs.Lists.{any-same, any-either, hit, length-marks, marks-at}

-- ---- what an element names

abbrev pub is_here : Path → Element → Bool
is_here p (AtInstance q) = same_path q p
is_here p (AtCell q x) = false
is_here p (AtPort q n) = false
is_here p (AtBit q n j) = false

abbrev pub covers : Path → Element → Bool
covers p (AtInstance q) = is_above q p
covers p (AtCell q x) = false
covers p (AtPort q n) = false
covers p (AtBit q n j) = false

abbrev pub is_it : Placed → Element → Bool
is_it a (AtInstance q) = false
is_it a (AtCell q y) = same_path q a.path && bytes_eq a.instance y
is_it a (AtPort q n) = false
is_it a (AtBit q n j) = false

none-right : (b : Bool) → b ≡ (b || false)
none-right true = refl
none-right false = refl

either : (b c : Bool) → (if b then true else c) ≡ (b || c)
either true c = refl
either false c = refl

-- the top is covered where it is named
top-covered : (e : Element) → covers [] e ≡ is_here [] e
top-covered (AtInstance q) = refl
top-covered (AtCell q x) = refl
top-covered (AtPort q n) = refl
top-covered (AtBit q n j) = refl

-- another instance where it is named, or the one above it is covered
below-covered : (n : Name) (p : Path) (e : Element) → covers (n ∷ p) e ≡ (is_here (n ∷ p) e || covers p e)
below-covered n p (AtInstance q) = either (same_path q (n ∷ p)) (is_above q p)
below-covered n p (AtCell q x) = refl
below-covered n p (AtPort q m) = refl
below-covered n p (AtBit q m j) = refl

register-parts : (a : Placed) (e : Element) → names_register a.path a.instance e ≡ (is_it a e || covers a.path e)
register-parts a (AtInstance q) = refl
register-parts a (AtCell q y) = none-right (same_path q a.path && bytes_eq a.instance y)
register-parts a (AtPort q n) = refl
register-parts a (AtBit q n j) = refl

cell-part : (a : Placed) (e : Element) → (is_cell e && names_register a.path a.instance e) ≡ is_it a e
cell-part a (AtInstance q) = refl
cell-part a (AtCell q y) = refl
cell-part a (AtPort q n) = refl
cell-part a (AtBit q n j) = refl

-- what names a register names it itself, or an instance in which it stands
pub register-named : (a : Placed) (es : List Element) → list_any (names_register a.path a.instance) es ≡ (list_any (is_it a) es || list_any (covers a.path) es)
register-named a es = any-same (names_register a.path a.instance) (λ e. is_it a e || covers a.path e) es (register-parts a) ∙ any-either (is_it a) (covers a.path) es

pub cell-named : (a : Placed) (es : List Element) → list_any (λ e. is_cell e && names_register a.path a.instance e) es ≡ list_any (is_it a) es
cell-named a es = any-same (λ e. is_cell e && names_register a.path a.instance e) (is_it a) es (cell-part a)

-- ---- places of cell instances

abbrev same_placed : Placed → Placed → Bool
same_placed a b = same_path a.path b.path && bytes_eq b.instance a.instance

placed-true : (a b : Placed) → same_placed a b ≡ true → a ≡ b
placed-true a b h = λ r. record {
  path = path-true a.path b.path (one (same_path a.path b.path) (bytes_eq b.instance a.instance) h) r;
  instance = sym (name-true b.instance a.instance (other (same_path a.path b.path) (bytes_eq b.instance a.instance) h)) r;
}

placed-self : (a : Placed) → same_placed a a ≡ true
placed-self a = both (same_path a.path a.path) (bytes_eq a.instance a.instance) (path-self a.path) (name-self a.instance)

module _ (p : Project) (i : model.Intent) (g : Graph) (domains : List ℕ) (given : IsGiven p i g domains) where
  abbrev view : model_element.Element → Element
  view e = element_view p.structure (keys_of p.structure) e

  low-of : (n m : ℕ) → nat_lt n m ≡ true → n < m
  low-of n m h = ltb-true n m h

  bit-not-here : (q : Path) (k : Node) → is_here q (bit_element k) ≡ false
  bit-not-here q (Inner n j r) = refl
  bit-not-here q (Outer n j) = refl
  bit-not-here q (Fixed b) = refl

  bit-not-it : (a : Placed) (k : Node) → is_it a (bit_element k) ≡ false
  bit-not-it a (Inner n j r) = refl
  bit-not-it a (Outer n j) = refl
  bit-not-it a (Fixed b) = refl

  -- ---- instances

  here-right : (k : ℕ) → k < length g.instances → (e : model_element.Element) → has_element (tables_of g) e ≡ true → is_here (path_at (keys_of p.structure) k) (view e) ≡ hit instance_of k e
  here-right k low (Inst j) h =
      let under : j.0 < length g.instances = low-of j.0 (length g.instances) h in
      let many = size p i g domains given in
      same-places same_path path-true path-self (module_instances p.structure) j.0 k [] given.elaborates.apart.instances (omega (arith, under, many)) (omega (arith, low, many))
  here-right k low (Leaf l) h = refl
  here-right k low (Port j n) h = refl
  here-right k low (Bit b) h = bit-not-here (path_at (keys_of p.structure) k) (node_at (keys_of p.structure) b.0)

  abbrev own : List model_element.Element → Path → Bool
  own es q = list_any (is_here q) (map view es)

  abbrev all : List model_element.Element → Path → Bool
  all es q = list_any (covers q) (map view es)

  table-right : (es : List model_element.Element) → list_all (has_element (tables_of g)) es ≡ true → marks instance_of (length g.instances) es ≡ map (own es) (module_instances p.structure)
  table-right es h =
      let left = length-marks instance_of (length g.instances) es in
      let right = length-map (module_instances p.structure) (own es) in
      let many = size p i g domains given in
      same-entries (marks instance_of (length g.instances) es) (map (own es) (module_instances p.structure)) false (omega (arith, left, right, many))
      (λ k small.
      let low : k < length g.instances = omega (arith, small, left) in
      marks-at instance_of (length g.instances) es k low
      ∙ sym (any-image (is_here (path_at (keys_of p.structure) k)) (hit instance_of k) (has_element (tables_of g)) view (here-right k low) es h)
      ∙ sym (get_or-map (own es) (module_instances p.structure) k [] false (omega (arith, low, many))))

  pub reached-right : (es : List model_element.Element) → list_all (has_element (tables_of g)) es ≡ true → (k : ℕ) → k < length g.instances → get_or (reached_by g es) k false ≡ list_any (covers (path_at (keys_of p.structure) k)) (map view es)
  reached-right es h k low =
      let many = size p i g domains given in
      ap (λ table. get_or (reached table g.instances) k false) (table-right es h)
      ∙ ap (λ xs. get_or xs k false)
      (pass_inherits given.texts p.structure (tables_of g) given.elaborates Bool Bool own_mark either_mark (own es) (all es)
      (any-same (covers []) (is_here []) (map view es) top-covered)
      (λ n q. any-same (covers (n ∷ q)) (λ e. is_here (n ∷ q) e || covers q e) (map view es) (below-covered n q) ∙ any-either (is_here (n ∷ q)) (covers q) (map view es)))
      ∙ get_or-map (all es) (module_instances p.structure) k [] false (omega (arith, low, many))

  -- ---- cell instances

  abbrev none : Placed
  none = record { path = []; instance = [] }

  pub count : length (cell_instances p.structure) ≡ length g.leaves
  count = sym (ap length given.elaborates.leaves) ∙ length-map g.leaves (placed_key given.texts (module_instances p.structure))

  it-right : (k : ℕ) → k < length g.leaves → (e : model_element.Element) → has_element (tables_of g) e ≡ true → is_it (leaf_at (keys_of p.structure) k) (view e) ≡ hit cell_of k e
  it-right k low (Inst j) h = refl
  it-right k low (Leaf l) h =
      let under : l.0 < length g.leaves = low-of l.0 (length g.leaves) h in
      same-places same_placed placed-true placed-self (cell_instances p.structure) l.0 k none given.elaborates.apart.leaves (omega (arith, under, count)) (omega (arith, low, count))
  it-right k low (Port j n) h = refl
  it-right k low (Bit b) h = bit-not-it (leaf_at (keys_of p.structure) k) (node_at (keys_of p.structure) b.0)

  pub cells-right : (es : List model_element.Element) → list_all (has_element (tables_of g)) es ≡ true → (k : ℕ) → k < length g.leaves → get_or (cells_by g es) k false ≡ list_any (is_it (leaf_at (keys_of p.structure) k)) (map view es)
  cells-right es h k low =
      marks-at cell_of (length g.leaves) es k low
      ∙ sym (any-image (is_it (leaf_at (keys_of p.structure) k)) (hit cell_of k) (has_element (tables_of g)) view (it-right k low) es h)
