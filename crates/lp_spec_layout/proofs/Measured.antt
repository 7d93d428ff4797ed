-- An instance with all below it has the size of its module.
use Rattle.std.proofs.Common.{◌≡◌, ◌<◌, ◌+◌, ℕ, zero, suc, List, [], ◌∷◌, ◌++◌, map, length, Option, Some, None, inl, inr, refl, sym, ap, ◌∙◌, subst, arith}
use Rattle.std.specs.Prelude.{filter, flat_map, is_some, if◌then◌else◌, slice_get}
use Rattle.std.proofs.lemmas.List.{length-append, length-map}
use Rattle.lp_model.specs.NetlistView.{InstanceView, ModuleView}
use Rattle.lp_model.specs.LibraryView.{CellView}
use Rattle.lp_spec_design.specs.Keys.{Path, Node}
use Rattle.lp_spec_design.specs.Netlists.{Structure, first, module_at, module_named, cell_named, node_of}
use Rattle.lp_spec_design.specs.Instances.{Placed, children_in, below, cells_of_target, cells_of, cells_in, cells_below}
use Rattle.lp_spec_design.specs.Graph.{numbered}
use Rattle.lp_spec_design.specs.Nodes.{nodes_in}
use Rattle.lp_spec_design.specs.Winners.{IsIn}
use Rattle.std.specs.Prelude.{bytes_eq}
use Rattle.lp_spec_bridge.specs.Names.{HasNamesApart}
use Rattle.lp_spec_bridge.specs.Templates.{bits_in}
use Rattle.lp_spec_bridge.proofs.Templates.{bits-nodes}
use Rattle.lp_spec_layout.specs.Parts.{Size, Statement, OfModule, OfCell, Template, statements_of, IsTemplate, AreStatements, AreTemplates}
use Rattle.lp_spec_layout.specs.Sites.{Site}
use Rattle.lp_spec_layout.specs.Walked.{own_size, leaf_size, joined_size, Follows, IsSized, site_in, walk_in, walk, HasSize}
use Rattle.lp_spec_layout.proofs.Lists.{flat-append}
use Rattle.lp_spec_layout.proofs.Fed.{no-module, path-child}

-- the template of a module by its number
pub record HasTemplate (s : Structure) (templates : List Template) (n : ℕ) (m : ModuleView) : Type 0 where
  pub template : Template
  pub at : slice_get templates n ≡ Some template
  pub is : IsTemplate s m template

pub template-at : (s : Structure) (ms : List ModuleView) (xs : List Template) (n : ℕ) (m : ModuleView) → AreTemplates s ms xs → slice_get ms n ≡ Some m → HasTemplate s xs n m
template-at s [] xs n m r h = absurd cc
template-at s (y ∷ ms) [] n m r h = absurd r
template-at s (y ∷ ms) (x ∷ xs) zero m r h = let is : y ≡ m = cc in record { template = x; at = refl; is = subst (λ (w : ModuleView). IsTemplate s w x) is r.0 }
template-at s (y ∷ ms) (x ∷ xs) (suc n) m r h =
    let more = template-at s ms xs n m r.1 h in
    record { template = more.template; at = more.at; is = more.is }

-- ---- what the statements of a module stand for at a path

abbrev pub paths_by : Structure → ℕ → Path → List InstanceView → List Path
paths_by s depth p ys = flat_map (below s depth) (map (λ (x : InstanceView). x.name ∷ p) (filter (λ (x : InstanceView). is_some (module_named s x.target)) ys))

abbrev pub leaves_by : Structure → ℕ → Path → List InstanceView → List Placed
leaves_by s depth p ys = flat_map (cells_of s (cells_below s depth) p) ys

module _ (s : Structure) (depth : ℕ) (p : Path) where
  pub below-is : (m : ModuleView) → module_at s p ≡ Some m → below s (suc depth) p ≡ p ∷ paths_by s depth p m.instances
  below-is m is = ap (λ o. p ∷ flat_map (below s depth) (children_in s p o)) is

  pub cells-is : (m : ModuleView) → module_at s p ≡ Some m → cells_below s (suc depth) p ≡ leaves_by s depth p m.instances
  cells-is m is = ap (cells_in s (cells_below s depth) p) is

  pub paths-child : (y : InstanceView) (ys : List InstanceView) (m : ModuleView) → module_named s y.target ≡ Some m → paths_by s depth p (y ∷ ys) ≡ below s depth (y.name ∷ p) ++ paths_by s depth p ys
  paths-child y ys m e = ap (λ o. flat_map (below s depth) (map (λ (x : InstanceView). x.name ∷ p) (if is_some o then y ∷ filter (λ (x : InstanceView). is_some (module_named s x.target)) ys else filter (λ (x : InstanceView). is_some (module_named s x.target)) ys))) e

  pub paths-cell : (y : InstanceView) (ys : List InstanceView) → module_named s y.target ≡ None → paths_by s depth p (y ∷ ys) ≡ paths_by s depth p ys
  paths-cell y ys e = ap (λ o. flat_map (below s depth) (map (λ (x : InstanceView). x.name ∷ p) (if is_some o then y ∷ filter (λ (x : InstanceView). is_some (module_named s x.target)) ys else filter (λ (x : InstanceView). is_some (module_named s x.target)) ys))) e

  pub leaves-child : (y : InstanceView) (ys : List InstanceView) (m : ModuleView) → module_named s y.target ≡ Some m → leaves_by s depth p (y ∷ ys) ≡ cells_below s depth (y.name ∷ p) ++ leaves_by s depth p ys
  leaves-child y ys m e = ap (λ o. cells_of_target (cells_below s depth) p y.name o (cell_named s y.target) ++ leaves_by s depth p ys) e

  pub leaves-cell : (y : InstanceView) (ys : List InstanceView) (c : CellView) → module_named s y.target ≡ None → cell_named s y.target ≡ Some c → leaves_by s depth p (y ∷ ys) ≡ record { path = p; instance = y.name } ∷ leaves_by s depth p ys
  leaves-cell y ys c e f =
      ap (λ o. cells_of_target (cells_below s depth) p y.name o (cell_named s y.target) ++ leaves_by s depth p ys) e
      ∙ ap (λ o. cells_of_target (cells_below s depth) p y.name None o ++ leaves_by s depth p ys) f

-- ---- sizes

-- the bits of some instances
abbrev pub bits_of : Structure → List Path → List Node
bits_of s ps = flat_map (λ q. nodes_in q (module_at s q)) ps

-- some instances and cell instances lead from one size to another
pub record Leads (s : Structure) (ps : List Path) (ls : List Placed) (a : Size) (b : Size) : Type 0 where
  pub instances : a.instances + length ps ≡ b.instances
  pub bits : a.bits + length (bits_of s ps) ≡ b.bits
  pub leaves : a.leaves + length ls ≡ b.leaves

abbrev pub no_size : Size
no_size = record { instances = 0; bits = 0; leaves = 0 }

leads-join : (s : Structure) (ps qs : List Path) (ls bs : List Placed) (a b c : Size) → Leads s ps ls no_size b → Leads s qs bs (joined_size a b) c → Leads s (ps ++ qs) (ls ++ bs) a c
leads-join s ps qs ls bs a b c x y =
    let paths = length-append ps qs in
    let leaves = length-append ls bs in
    let bits : length (bits_of s (ps ++ qs)) ≡ length (bits_of s ps) + length (bits_of s qs) = ap (λ (xs : List Node). length xs) (flat-append (λ q. nodes_in q (module_at s q)) ps qs) ∙ length-append (bits_of s ps) (bits_of s qs) in
    record {
      instances = omega (arith, paths, x.instances, y.instances);
      bits = omega (arith, bits, x.bits, y.bits);
      leaves = omega (arith, leaves, x.leaves, y.leaves);
    }

leads-leaf : (s : Structure) (ps : List Path) (ls : List Placed) (l : Placed) (a c : Size) → Leads s ps ls (joined_size a leaf_size) c → Leads s ps (l ∷ ls) a c
leads-leaf s ps ls l a c y = record { instances = omega (arith, y.instances); bits = omega (arith, y.bits); leaves = omega (arith, y.leaves) }

leads-none : (s : Structure) (a c : Size) → a ≡ c → Leads s [] [] a c
leads-none s a c e =
    let i : a.instances ≡ c.instances = ap (λ (z : Size). z.instances) e in
    let b : a.bits ≡ c.bits = ap (λ (z : Size). z.bits) e in
    let l : a.leaves ≡ c.leaves = ap (λ (z : Size). z.leaves) e in
    record { instances = omega (arith, i); bits = omega (arith, b); leaves = omega (arith, l) }

pub own-bits : (s : Structure) (p : Path) (m : ModuleView) → module_at s p ≡ Some m → length (nodes_in p (module_at s p)) ≡ length (bits_in m)
own-bits s p m is = ap (λ o. length (nodes_in p o)) is ∙ ap (λ (xs : List Node). length xs) (sym (bits-nodes p m)) ∙ length-map (bits_in m) (node_of p)

leads-top : (s : Structure) (p : Path) (m : ModuleView) (ps : List Path) (ls : List Placed) (c : Size) → module_at s p ≡ Some m → Leads s ps ls (own_size m) c → Leads s (p ∷ ps) ls no_size c
leads-top s p m ps ls c is y =
    let own = own-bits s p m is in
    let bits = length-append (nodes_in p (module_at s p)) (bits_of s ps) in
    record { instances = omega (arith, y.instances); bits = omega (arith, own, bits, y.bits); leaves = omega (arith, y.leaves) }

module _ (s : Structure) (names : HasNamesApart s) (templates : List Template) (are : AreTemplates s s.modules templates) (z : IsSized s templates) where
  -- by what is known of the instances of lower modules
  statements-sized : (depth : ℕ) (p : Path) (m : ModuleView) (high : ℕ) → module_at s p ≡ Some m
      → ((q : Path) (w : ModuleView) (n : ℕ) → module_at s q ≡ Some w → slice_get s.modules n ≡ Some w → z.height n < high → Leads s (below s depth q) (cells_below s depth q) no_size (z.size n))
      → (ys : List InstanceView) (zs : List Statement) (before total : Size) → ((y : InstanceView) → IsIn y ys → IsIn y m.instances) → AreStatements s m ys zs → Follows z.size z.height high before zs total
      → Leads s (paths_by s depth p ys) (leaves_by s depth p ys) before total
  statements-sized depth p m high is more [] [] before total members r f = leads-none s before total f
  statements-sized depth p m high is more [] (x ∷ zs) before total members r f = absurd r
  statements-sized depth p m high is more (y ∷ ys) [] before total members r f = absurd r
  statements-sized depth p m high is more (y ∷ ys) (OfModule c ∷ zs) before total members r f =
      let here = more (y.name ∷ p) r.0.inner c.of (path-child s names p m y is (members y (inl refl)) ∙ r.0.is_inner) r.0.has_inner f.1 in
      let rest = statements-sized depth p m high is more ys zs (joined_size before (z.size c.of)) total (λ w h. members w (inr h)) r.1 f.2 in
      let all = leads-join s (below s depth (y.name ∷ p)) (paths_by s depth p ys) (cells_below s depth (y.name ∷ p)) (leaves_by s depth p ys) before (z.size c.of) total here rest in
      subst (λ ps. Leads s ps (leaves_by s depth p (y ∷ ys)) before total) (sym (paths-child s depth p y ys r.0.inner r.0.is_inner))
      (subst (λ ls. Leads s (below s depth (y.name ∷ p) ++ paths_by s depth p ys) ls before total) (sym (leaves-child s depth p y ys r.0.inner r.0.is_inner)) all)
  statements-sized depth p m high is more (y ∷ ys) (OfCell c ∷ zs) before total members r f =
      let none : module_named s y.target ≡ None = no-module (module_named s y.target) (first (λ (c : CellView). bytes_eq c.name y.target) s.cells) r.0.cell r.0.is_cell in
      let rest = statements-sized depth p m high is more ys zs (joined_size before leaf_size) total (λ w h. members w (inr h)) r.1 f.1 in
      let all = leads-leaf s (paths_by s depth p ys) (leaves_by s depth p ys) (record { path = p; instance = y.name }) before total rest in
      subst (λ ps. Leads s ps (leaves_by s depth p (y ∷ ys)) before total) (sym (paths-cell s depth p y ys none))
      (subst (λ ls. Leads s (paths_by s depth p ys) ls before total) (sym (leaves-cell s depth p y ys r.0.cell none r.0.is_cell)) all)

  -- an instance of a module that is low enough, with all below it
  pub sized : (depth : ℕ) (p : Path) (m : ModuleView) (n : ℕ) → module_at s p ≡ Some m → slice_get s.modules n ≡ Some m → z.height n < depth → Leads s (below s depth p) (cells_below s depth p) no_size (z.size n)
  sized zero p m n is has low = absurd (omega (arith, low))
  sized (suc depth) p m n is has low =
      let x = template-at s s.modules templates n m are has in
      let rest = statements-sized depth p m (z.height n) is (λ q w k a b h. sized depth q w k a b (omega (arith, low, h))) m.instances x.template.statements (own_size m) (z.size n) (λ y h. h) x.is.statements (z.each n m x.template has x.at) in
      let all = leads-top s p m (paths_by s depth p m.instances) (leaves_by s depth p m.instances) (z.size n) is rest in
      subst (λ ps. Leads s ps (cells_below s (suc depth) p) no_size (z.size n)) (sym (below-is s depth p m is))
      (subst (λ ls. Leads s (p ∷ paths_by s depth p m.instances) ls no_size (z.size n)) (sym (cells-is s depth p m is)) all)

  -- the walk over it has ls many sites
  walks-sized : (depth i : ℕ) (x : Site) (m : ModuleView) (high : ℕ)
      → ((j : ℕ) (y : Site) (w : ModuleView) → slice_get s.modules y.of ≡ Some w → z.height y.of < high → length (walk templates depth j y) ≡ (z.size y.of).instances)
      → (ys : List InstanceView) (zs : List Statement) (k : ℕ) (before total : Size) → AreStatements s m ys zs → Follows z.size z.height high before zs total
      → before.instances + length (flat_map (λ (w : ℕ × Statement). walk_in (walk templates depth) i x w.0 w.1) (numbered k zs)) ≡ total.instances
  walks-sized depth i x m high more [] [] k before total r f = let same : before.instances ≡ total.instances = ap (λ (a : Size). a.instances) f in omega (arith, same)
  walks-sized depth i x m high more [] (y ∷ zs) k before total r f = absurd r
  walks-sized depth i x m high more (y ∷ ys) [] k before total r f = absurd r
  walks-sized depth i x m high more (y ∷ ys) (OfModule c ∷ zs) k before total r f =
      let here = more (i + c.before.instances) (site_in i x k c) r.0.inner r.0.has_inner f.1 in
      let rest = walks-sized depth i x m high more ys zs (k + 1) (joined_size before (z.size c.of)) total r.1 f.2 in
      let size = length-append (walk templates depth (i + c.before.instances) (site_in i x k c)) (flat_map (λ (w : ℕ × Statement). walk_in (walk templates depth) i x w.0 w.1) (numbered (k + 1) zs)) in
      omega (arith, here, rest, size)
  walks-sized depth i x m high more (y ∷ ys) (OfCell c ∷ zs) k before total r f =
      let rest = walks-sized depth i x m high more ys zs (k + 1) (joined_size before leaf_size) total r.1 f.1 in
      omega (arith, rest)

  pub walk-sized : (depth i : ℕ) (x : Site) (m : ModuleView) → slice_get s.modules x.of ≡ Some m → z.height x.of < depth → length (walk templates depth i x) ≡ (z.size x.of).instances
  walk-sized zero i x m has low = absurd (omega (arith, low))
  walk-sized (suc depth) i x m has low =
      let tp = template-at s s.modules templates x.of m are has in
      let more = λ (o : Option Template). length (flat_map (λ (w : ℕ × Statement). walk_in (walk templates depth) i x w.0 w.1) (numbered 0 (statements_of o))) in
      let rest = walks-sized depth i x m (z.height x.of) (λ j y w h under. walk-sized depth j y w h (omega (arith, under, low))) m.instances tp.template.statements 0 (own_size m) (z.size x.of) tp.is.statements (z.each x.of m tp.template has tp.at) in
      let same : more (slice_get templates x.of) ≡ more (Some tp.template) = ap more tp.at in
      omega (arith, rest, same)

  pub sized_below : (depth : ℕ) (p : Path) (m : ModuleView) (n : ℕ) → module_at s p ≡ Some m → slice_get s.modules n ≡ Some m → z.height n < depth → HasSize s depth p (z.size n)
  sized_below depth p m n is has low =
      let size = sized depth p m n is has low in
      let i = size.instances in
      let b = size.bits in
      let l = size.leaves in
      record { instances = omega (arith, i); bits = omega (arith, b); leaves = omega (arith, l) }
