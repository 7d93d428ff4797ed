-- What each module has of its own: its bits, its cells and itself.
use Rattle.std.proofs.Common.{◌≡◌, ℕ, zero, suc, ◌+◌, ◌<◌, min, Bool, true, false, cond, List, [], ◌∷◌, length, take, get_or, Option, Some, refl, sym, ap, ◌∙◌, subst, arith}
use Rattle.std.specs.Prelude.{map, filter, is_some, slice_get, slice_index_or, sum_by, replicate}
use Rattle.std.specs.List.{All}
use Rattle.std.proofs.lemmas.List.{get_or-replicate}
use Rattle.std.proofs.lemmas.List.Sums.{sum_by-cons, sum_by_more}
use Rattle.std.proofs.lemmas.List.Elements.{All-head, All-tail}
use Rattle.lp_model.specs.declared.library.Library.{Library}
use Rattle.lp_model.specs.declared.netlist.Module.{Module}
use Rattle.lp_model.specs.declared.netlist.Netlist.{Netlist}
use Rattle.lp_model.specs.NetlistView.{PortView, NetView, InstanceView, ModuleView, port_view, net_view, module_view}
use Rattle.lp_model.specs.LibraryView.{CellView}
use Rattle.lp_spec_design.specs.Netlists.{Structure, cell_named}
use Rattle.lp_spec_faults.specs.Modules.{bit_count, bits_in, cells_in}
use Rattle.lp_targets.specs.declared.target.Target.{Target}
use Rattle.lp_targets.specs.declared.target.Target.TheVariants.{OfModule, OfCell}
use Rattle.lp_targets.specs.Structures.{structure_of}
use Rattle.lp_targets.specs.Targets.{cell_of}
use Rattle.lp_targets.specs.Children.{cells_of, cell_rows}
use Rattle.lp_targets.specs.Sizes.{module_bits, AreRows, AreOwn}
use Rattle.lp_targets.proofs.Closed.{count_map}
use Rattle.lp_targets.proofs.Recursion.{at_place}
use Rattle.lp_targets.proofs.Looping.{stands}
use Rattle.lp_targets.proofs.Together.{within}

-- ---- sums up to a limit

-- one more of a list
pub sum_more : {A : Type 0} (f : A → ℕ) (limit total result : ℕ) (xs : List A) (i : ℕ) (x : A) → i < length xs → x ≡ get_or xs i x → total ≡ min limit (sum_by f (take i xs)) → result ≡ min limit (total + f x) → result ≡ min limit (sum_by f (take (i + 1) xs))
sum_more f limit total result xs i x h is before now =
    let more : sum_by f (take (i + 1) xs) ≡ sum_by f (take i xs) + f x = sum_by_more f xs i x h ∙ ap (λ y. sum_by f (take i xs) + f y) (sym is) in
    omega (arith, before, now, more)

-- ---- net bits

sum_map : {A B : Type 0} (f : B → ℕ) (g : A → B) (xs : List A) → sum_by f (map g xs) ≡ sum_by (λ x. f (g x)) xs
sum_map f g [] = refl
sum_map f g (x ∷ xs) = sum_by-cons f (g x) (map g xs) ∙ ap (λ n. f (g x) + n) (sum_map f g xs) ∙ sym (sum_by-cons (λ y. f (g y)) x xs)

bits_same : (texts : List (List ℕ)) (m : Module) → bits_in (module_view texts m) ≡ module_bits m
bits_same texts m =
    λ i. sum_map (λ (p : PortView). bit_count p.range) (port_view texts) m.ports i + sum_map (λ (n : NetView). bit_count n.range) (net_view texts) m.nets i

min_twice : (limit n : ℕ) → min limit (min limit n) ≡ min limit n
min_twice limit n = omega arith

bits_at : (texts : List (List ℕ)) (limit : ℕ) (ms : List Module) (a : ℕ) (m : ModuleView) → slice_get (map (module_view texts) ms) a ≡ Some m → min limit (slice_index_or (map (λ (x : Module). min limit (module_bits x)) ms) a 0) ≡ min limit (bits_in m)
bits_at texts limit [] a m at = cc
bits_at texts limit (x ∷ ms) zero m at =
    let is : module_view texts x ≡ m = cc in
    min_twice limit (module_bits x) ∙ ap (min limit) (sym (bits_same texts x) ∙ ap bits_in is)
bits_at texts limit (x ∷ ms) (suc a) m at = bits_at texts limit ms a m at

pub bits_own : (texts : List (List ℕ)) (n : Netlist) (l : Library) (limit : ℕ) (ms : List Module) → ms ≡ n.modules → (own : List ℕ) → own ≡ map (λ (m : Module). min limit (module_bits m)) ms → AreOwn (structure_of texts n l) bits_in limit own
bits_own texts n l limit ms is own e = λ a m at.
    ap (λ ks. min limit (slice_index_or ks a 0)) (e ∙ ap (map (λ (x : Module). min limit (module_bits x))) is)
    ∙ bits_at texts limit n.modules a m at

-- ---- cells

kept_map : {A B : Type 0} (f : A → Option B) (xs : List A) → length (filter (λ x. is_some (f x)) xs) ≡ length (filter (λ o. is_some o) (map f xs))
kept_map f [] = refl
kept_map f (x ∷ xs) = by (is_some (f x)) (kept_map f xs)
  where
    by : (b : Bool) → length (filter (λ y. is_some (f y)) xs) ≡ length (filter (λ o. is_some o) (map f xs)) → length (cond b (x ∷ filter (λ y. is_some (f y)) xs) (filter (λ y. is_some (f y)) xs)) ≡ length (cond b (f x ∷ filter (λ o. is_some o) (map f xs)) (filter (λ o. is_some o) (map f xs)))
    by true e = ap suc e
    by false e = e

kept_cells : (s : Structure) (row : List Target) → All (λ k. k < length s.cells) (cells_of row) → length (filter (λ o. is_some o) (map (cell_of s) row)) ≡ length (cells_of row)
kept_cells s [] low = refl
kept_cells s (OfModule j ∷ row) low = kept_cells s row low
kept_cells s (OfCell j ∷ row) low =
    let here = stands s.cells j (All-head (λ k. k < length s.cells) j (cells_of row) low) in
    let rest : List (Option CellView) = filter (λ o. is_some o) (map (cell_of s) row) in
    ap (λ o. length (cond (is_some o) (o ∷ rest) rest)) here.1
    ∙ ap suc (kept_cells s row (All-tail (λ k. k < length s.cells) j (cells_of row) low))

map_at : {A B : Type 0} (f : A → B) (xs : List A) (a : ℕ) (x : A) (d : B) → slice_get xs a ≡ Some x → slice_index_or (map f xs) a d ≡ f x
map_at f [] a x d e = cc
map_at f (y ∷ xs) zero x d e = let is : y ≡ x = cc in ap f is
map_at f (y ∷ xs) (suc a) x d e = map_at f xs a x d e

cells_at : (s : Structure) (rows : List (List Target)) → AreRows s rows → (a : ℕ) (m : ModuleView) → slice_get s.modules a ≡ Some m → slice_index_or (map (λ row. length (cells_of row)) rows) a 0 ≡ cells_in s m
cells_at s rows are a m at =
    let row = at_place (map (cell_of s)) (λ (x : ModuleView). map (λ (i : InstanceView). cell_named s i.target) x.instances) rows s.modules are.targets.cells a m at in
    let inside : a < length (cell_rows rows) = subst (λ n. a < n) (sym (count_map cells_of rows)) (within rows a row.0 row.1) in
    let low : All (λ k. k < length s.cells) (cells_of row.0) = subst (λ ks. All (λ k. k < length s.cells) ks) (map_at cells_of rows a row.0 [] row.1) (are.cells a [] inside) in
    map_at (λ (r : List Target). length (cells_of r)) rows a row.0 0 row.1
    ∙ sym (kept_cells s row.0 low)
    ∙ ap (λ os. length (filter (λ o. is_some o) os)) row.2
    ∙ sym (kept_map (λ (i : InstanceView). cell_named s i.target) m.instances)

pub cells_own : (s : Structure) (rows : List (List Target)) (limit : ℕ) (own : List ℕ) → AreRows s rows → own ≡ map (λ row. length (cells_of row)) rows → AreOwn s (cells_in s) limit own
cells_own s rows limit own are e = λ a m at. ap (min limit) (ap (λ ks. slice_index_or ks a 0) e ∙ cells_at s rows are a m at)

-- ---- instances

pub instances_own : (s : Structure) (limit n : ℕ) (own : List ℕ) → length s.modules ≡ n → own ≡ replicate n 1 → AreOwn s (λ m. 1) limit own
instances_own s limit n own many e = λ a m at.
    ap (min limit) (ap (λ ks. slice_index_or ks a 0) e ∙ get_or-replicate n a 1 0 (subst (λ k. a < k) many (within s.modules a m at)))

-- ---- two sums up to a limit

pub min_both : (limit a b x y result : ℕ) → x ≡ min limit a → y ≡ min limit b → result ≡ min limit (x + y) → result ≡ min limit (a + b)
min_both limit a b x y result e f g = omega (arith, e, f, g)
