-- A walk over all instances gives their sites.
use Rattle.std.proofs.Common.{◌≡◌, ◌<◌, ◌≤◌, ◌+◌, ℕ, zero, suc, Bool, List, [], ◌∷◌, ◌++◌, length, take, get_or, Option, Some, None, ◌⊎◌, inl, inr, refl, sym, ap, ◌∙◌, subst, arith}
use Rattle.std.specs.Prelude.{flat_map, bytes_eq, slice_get}
use Rattle.std.proofs.lemmas.List.{length-append, append-nil, take_more}
use Rattle.std.proofs.lemmas.Option.{slice_get_within, get_or_from_slice_get}
use Rattle.lp_model.specs.NetlistView.{InstanceView, ModuleView}
use Rattle.lp_model.specs.LibraryView.{CellView}
use Rattle.lp_spec_design.specs.Keys.{Path, Node}
use Rattle.lp_spec_design.specs.Netlists.{Structure, first, module_at, module_named}
use Rattle.lp_spec_design.specs.Instances.{Placed, below, module_instances, cells_below, cell_instances}
use Rattle.lp_spec_design.specs.Graph.{numbered}
use Rattle.lp_spec_design.specs.Nodes.{nodes_in, inner_nodes}
use Rattle.lp_spec_design.specs.Winners.{IsIn}
use Rattle.lp_spec_bridge.specs.Tables.{Tables}
use Rattle.lp_spec_bridge.specs.Kept.{AllStand}
use Rattle.lp_spec_bridge.specs.Names.{HasNamesApart}
use Rattle.lp_spec_bridge.specs.Templates.{bits_in, start_of}
use Rattle.lp_spec_bridge.proofs.Templates.{starts-at}
use Rattle.lp_spec_layout.specs.Parts.{Size, Statement, OfModule, OfCell, Template, statements_of, AreStatements, AreTemplates}
use Rattle.lp_spec_layout.specs.Sites.{Site, Layout, IsInside, StandsInside, IsBehind, IsPlaced, ArePlaced, StandsAt, port_bits, IsSited}
use Rattle.lp_spec_layout.specs.Walked.{own_size, leaf_size, joined_size, Follows, IsSized, site_in, walk_in, walk, sites_of, layout_of, IsOfSize}
use Rattle.lp_spec_layout.proofs.Lists.{get-in, Has, has-all, has-head, has-tail, has-left, has-right, flat-append}
use Rattle.lp_spec_layout.specs.Leaves.{LeafSite, leaves_in, walk_leaves, leaf_sites_of, leaf_rows, pin_rows}
use Rattle.lp_spec_layout.proofs.Fed.{no-module, named-at, path-child, first-below}
use Rattle.lp_spec_layout.proofs.Leaves.{StandsAtLeaf, LeavesStand, leaves-join, rows-stand}
use Rattle.lp_spec_layout.proofs.Measured.{template-at, paths_by, leaves_by, below-is, cells-is, paths-child, paths-cell, leaves-child, leaves-cell, bits_of, own-bits, sized, walk-sized}

-- an entry of two lists that are joined is one of either
get-either : {A : Type 0} (xs ys : List A) (j : ℕ) (x : A) → slice_get (xs ++ ys) j ≡ Some x → (slice_get xs j ≡ Some x) ⊎ ((k : ℕ) × (j ≡ length xs + k) × (slice_get ys k ≡ Some x))
get-either [] ys j x h = inr (j, omega arith, h)
get-either (z ∷ xs) ys zero x h = inl h
get-either (z ∷ xs) ys (suc j) x h = elim (get-either xs ys j x h) [ inl l ↦ inl l | inr r ↦ let size = r.1 in inr (r.0, omega (arith, size), r.2) ]

-- two lists stand from one place on where the other does
has-at : {A : Type 0} (all : List A) (k n : ℕ) (xs : List A) → k ≡ n → Has all k xs → Has all n xs
has-at all k n xs e h = subst (λ i. Has all i xs) e h

module _ (s : Structure) where
  -- the number of the bits of all instances before one
  abbrev bits_before : ℕ → ℕ
  bits_before k = length (bits_of s (take k (module_instances s)))

  before-next : (k : ℕ) (p : Path) → slice_get (module_instances s) k ≡ Some p → bits_before (k + 1) ≡ bits_before k + length (nodes_in p (module_at s p))
  before-next k p at =
      let within : k < length (module_instances s) = slice_get_within (module_instances s) k p at in
      let is : get_or (module_instances s) k [] ≡ p = get_or_from_slice_get (module_instances s) k p [] at in
      let more : take (k + 1) (module_instances s) ≡ take k (module_instances s) ++ (p ∷ []) = take_more (module_instances s) k [] within ∙ ap (λ (q : Path). take k (module_instances s) ++ (q ∷ [])) is in
      ap (λ (ps : List Path). length (bits_of s ps)) more
      ∙ ap (λ (xs : List Node). length xs) (flat-append (λ q. nodes_in q (module_at s q)) (take k (module_instances s)) (p ∷ []))
      ∙ length-append (bits_of s (take k (module_instances s))) (nodes_in p (module_at s p) ++ [])
      ∙ ap (λ (xs : List Node). bits_before k + length xs) (append-nil (nodes_in p (module_at s p)))

  before-all : (ps : List Path) (k : ℕ) → Has (module_instances s) k ps → bits_before (k + length ps) ≡ bits_before k + length (bits_of s ps)
  before-all [] k h = let place : k + 0 ≡ k = omega arith in ap bits_before place ∙ omega arith
  before-all (p ∷ ps) k h =
      let place : k + suc (length ps) ≡ (k + 1) + length ps = omega arith in
      let here = before-next k p (has-head (module_instances s) k p ps h) in
      let rest = before-all ps (k + 1) (has-tail (module_instances s) k p ps h) in
      let size = length-append (nodes_in p (module_at s p)) (bits_of s ps) in
      ap bits_before place ∙ rest ∙ omega (arith, here, size)

  start-before : (k : ℕ) (p : Path) → slice_get (module_instances s) k ≡ Some p → start_of s k ≡ bits_before k
  start-before k p at = let start = starts-at s 0 (module_instances s) k (slice_get_within (module_instances s) k p at) in omega (arith, start)

-- where an instance and all below it stand
record Stands (s : Structure) (templates : List Template) (all : List Site) (depth : ℕ) (i : ℕ) (p : Path) (x : Site) : Type 0 where
  paths : Has (module_instances s) i (below s depth p)
  leaves : Has (cell_instances s) x.leaf (cells_below s depth p)
  sites : Has all i (walk templates depth i x)
  start : x.start ≡ bits_before s i
  inside : StandsInside s p x.by
  behind : IsBehind i x.by

module _ (s : Structure) (names : HasNamesApart s) (templates : List Template) (are : AreTemplates s s.modules templates) (z : IsSized s templates) (all : List Site) (inner : ℕ) (ports : List Bool) where
  abbrev l : Layout
  l = record { templates = templates; sites = all; inner = inner; ports = ports }

  -- each of some paths from a number on
  abbrev AllStandAt : ℕ → List Path → Type 0
  AllStandAt i ps = (j : ℕ) (q : Path) → slice_get ps j ≡ Some q → StandsAt s l (i + j) q

  all-at : (i k : ℕ) (ps : List Path) → i ≡ k → AllStandAt i ps → AllStandAt k ps
  all-at i k ps e h = subst (λ n. AllStandAt n ps) e h

  all-join : (i : ℕ) (ps qs : List Path) → AllStandAt i ps → AllStandAt (i + length ps) qs → AllStandAt i (ps ++ qs)
  all-join i ps qs h g j q e = elim (get-either ps qs j q e) [
    | inl a ↦ h j q a
    | inr b ↦ let size = b.1 in let place : (i + length ps) + b.0 ≡ i + j = omega (arith, size) in subst (λ n. StandsAt s l n q) place (g b.0 q b.2)
  ]

  -- what is known of lower instances
  abbrev Lower : ℕ → ℕ → Type 0
  Lower depth high = (i : ℕ) (q : Path) (w : ModuleView) (x : Site) → module_at s q ≡ Some w → slice_get s.modules x.of ≡ Some w → z.height x.of < high → Stands s templates all depth i q x → AllStandAt i (below s depth q) × LeavesStand s (walk_leaves templates depth i x) (cells_below s depth q)

  module _ (depth high i : ℕ) (p : Path) (m : ModuleView) (x : Site) (low : high ≤ depth) (is : module_at s p ≡ Some m) (has : slice_get s.modules x.of ≡ Some m) (at : slice_get (module_instances s) i ≡ Some p) (begun : x.start ≡ start_of s i) (more : Lower depth high) where
    abbrev walked : ℕ → List Statement → List Site
    walked k zs = flat_map (λ (w : ℕ × Statement). walk_in (walk templates depth) i x w.0 w.1) (numbered k zs)

    abbrev leaves_walked : ℕ → List Statement → List LeafSite
    leaves_walked k zs = flat_map (λ (w : ℕ × Statement). leaves_in (walk_leaves templates depth) i x w.0 w.1) (numbered k zs)

    statements-stand : (ys : List InstanceView) (zs : List Statement) (k : ℕ) (before total : Size) → 1 ≤ before.instances → Has m.instances k ys → AreStatements s m ys zs → Follows z.size z.height high before zs total
        → Has (module_instances s) (i + before.instances) (paths_by s depth p ys) → Has (cell_instances s) (x.leaf + before.leaves) (leaves_by s depth p ys) → Has all (i + before.instances) (walked k zs) → x.start + before.bits ≡ bits_before s (i + before.instances)
        → ArePlaced s i p x ys zs × AllStandAt (i + before.instances) (paths_by s depth p ys) × LeavesStand s (leaves_walked k zs) (leaves_by s depth p ys)
    statements-stand [] [] k before total some members r f ph lh sh start = (tt, (λ j q e. absurd cc), tt)
    statements-stand [] (w ∷ zs) k before total some members r f ph lh sh start = absurd r
    statements-stand (y ∷ ys) [] k before total some members r f ph lh sh start = absurd r
    statements-stand (y ∷ ys) (OfModule c ∷ zs) k before total some members r f ph lh sh start =
        let q = y.name ∷ p in
        let member : IsIn y m.instances = get-in m.instances k y (has-head m.instances k y ys members) in
        let w = r.0.inner in
        let child : module_at s (y.name ∷ p) ≡ Some r.0.inner = path-child s names p m y is member ∙ r.0.is_inner in
        let under : z.height c.of < depth = omega (arith, low, f.1) in
        let size = sized s names templates are z depth q w c.of child r.0.has_inner under in
        let ei : c.before.instances ≡ before.instances = ap (λ (a : Size). a.instances) f.0 in
        let eb : c.before.bits ≡ before.bits = ap (λ (a : Size). a.bits) f.0 in
        let el : c.before.leaves ≡ before.leaves = ap (λ (a : Size). a.leaves) f.0 in
        let i2 : i + before.instances ≡ i + c.before.instances = omega (arith, ei) in
        let l2 : x.leaf + before.leaves ≡ x.leaf + c.before.leaves = omega (arith, el) in
        let here = below s depth (y.name ∷ p) in
        let ph2 : Has (module_instances s) (i + before.instances) (below s depth (y.name ∷ p) ++ paths_by s depth p ys) = subst (λ ps. Has (module_instances s) (i + before.instances) ps) (paths-child s depth p y ys w r.0.is_inner) ph in
        let lh2 : Has (cell_instances s) (x.leaf + before.leaves) (cells_below s depth (y.name ∷ p) ++ leaves_by s depth p ys) = subst (λ ps. Has (cell_instances s) (x.leaf + before.leaves) ps) (leaves-child s depth p y ys w r.0.is_inner) lh in
        let child-paths = has-left (module_instances s) (i + before.instances) (below s depth (y.name ∷ p)) (paths_by s depth p ys) ph2 in
        let child-leaves = has-left (cell_instances s) (x.leaf + before.leaves) (cells_below s depth (y.name ∷ p)) (leaves_by s depth p ys) lh2 in
        let site = site_in i x k c in
        let child-sites = has-left all (i + before.instances) (walk templates depth (i + c.before.instances) (site_in i x k c)) (walked (k + 1) zs) sh in
        let first-path : slice_get (module_instances s) (i + before.instances) ≡ Some (y.name ∷ p) =
        (let place : i + before.instances ≡ (i + before.instances) + 0 = omega arith in ap (slice_get (module_instances s)) place ∙ child-paths 0 (y.name ∷ p) (first-below s depth (y.name ∷ p) (omega (arith, under)))) in
        let path2 : slice_get (module_instances s) (i + c.before.instances) ≡ Some (y.name ∷ p) = ap (slice_get (module_instances s)) (sym i2) ∙ first-path in
        let begins : x.start + c.before.bits ≡ bits_before s (i + c.before.instances) = (let b : x.start + c.before.bits ≡ x.start + before.bits = omega (arith, eb) in b ∙ start ∙ ap (bits_before s) i2) in
        let placed : IsPlaced s i p x y (OfModule c) = (path2, start-before s (i + c.before.instances) (y.name ∷ p) path2 ∙ sym begins) in
        let inside : IsInside s (y.name ∷ p) (i, k) = record { path = p; of = m; by = y; inst = at; is_of = is; place = has-head m.instances k y ys members; is = refl } in
        let stands : Stands s templates all depth (i + c.before.instances) (y.name ∷ p) (site_in i x k c) = record {
          paths = has-at (module_instances s) (i + before.instances) (i + c.before.instances) (below s depth (y.name ∷ p)) i2 child-paths;
          leaves = has-at (cell_instances s) (x.leaf + before.leaves) (x.leaf + c.before.leaves) (cells_below s depth (y.name ∷ p)) l2 child-leaves;
          sites = has-at all (i + before.instances) (i + c.before.instances) (walk templates depth (i + c.before.instances) (site_in i x k c)) i2 child-sites;
          start = begins;
          inside = inside;
          behind = omega (arith, some, ei);
        } in
        let lower = more (i + c.before.instances) (y.name ∷ p) w (site_in i x k c) child r.0.has_inner f.1 stands in
        let child-all = all-at (i + c.before.instances) (i + before.instances) (below s depth (y.name ∷ p)) (sym i2) lower.0 in
        let walks : length (walk templates depth (i + c.before.instances) (site_in i x k c)) ≡ (z.size c.of).instances = walk-sized s names templates are z depth (i + c.before.instances) (site_in i x k c) w r.0.has_inner under in
        let after = joined_size before (z.size c.of) in
        let i3 : (i + before.instances) + length (below s depth (y.name ∷ p)) ≡ i + (before.instances + (z.size c.of).instances) = omega (arith, size.instances) in
        let l3 : (x.leaf + before.leaves) + length (cells_below s depth (y.name ∷ p)) ≡ x.leaf + (before.leaves + (z.size c.of).leaves) = omega (arith, size.leaves) in
        let s3 : (i + before.instances) + length (walk templates depth (i + c.before.instances) (site_in i x k c)) ≡ i + (before.instances + (z.size c.of).instances) = omega (arith, walks) in
        let bits = before-all s (below s depth (y.name ∷ p)) (i + before.instances) child-paths in
        let b3 : x.start + (before.bits + (z.size c.of).bits) ≡ bits_before s ((i + before.instances) + length (below s depth (y.name ∷ p))) = omega (arith, bits, start, size.bits) in
        let rest = statements-stand ys zs (k + 1) (joined_size before (z.size c.of)) total (omega (arith, some)) (has-tail m.instances k y ys members) r.1 f.2
        (has-at (module_instances s) ((i + before.instances) + length (below s depth (y.name ∷ p))) (i + (before.instances + (z.size c.of).instances)) (paths_by s depth p ys) i3 (has-right (module_instances s) (i + before.instances) (below s depth (y.name ∷ p)) (paths_by s depth p ys) ph2))
        (has-at (cell_instances s) ((x.leaf + before.leaves) + length (cells_below s depth (y.name ∷ p))) (x.leaf + (before.leaves + (z.size c.of).leaves)) (leaves_by s depth p ys) l3 (has-right (cell_instances s) (x.leaf + before.leaves) (cells_below s depth (y.name ∷ p)) (leaves_by s depth p ys) lh2))
        (has-at all ((i + before.instances) + length (walk templates depth (i + c.before.instances) (site_in i x k c))) (i + (before.instances + (z.size c.of).instances)) (walked (k + 1) zs) s3 (has-right all (i + before.instances) (walk templates depth (i + c.before.instances) (site_in i x k c)) (walked (k + 1) zs) sh))
        (b3 ∙ ap (bits_before s) i3) in
        let others = all-at (i + (before.instances + (z.size c.of).instances)) ((i + before.instances) + length (below s depth (y.name ∷ p))) (paths_by s depth p ys) (sym i3) rest.1 in
        let both = all-join (i + before.instances) (below s depth (y.name ∷ p)) (paths_by s depth p ys) child-all others in
        let leaves = leaves-join s (walk_leaves templates depth (i + c.before.instances) (site_in i x k c)) (leaves_walked (k + 1) zs) (cells_below s depth (y.name ∷ p)) (leaves_by s depth p ys) lower.1 rest.2 in (
          (placed, rest.0),
          subst (λ ps. AllStandAt (i + before.instances) ps) (sym (paths-child s depth p y ys w r.0.is_inner)) both,
          subst (λ ls. LeavesStand s (walk_leaves templates depth (i + c.before.instances) (site_in i x k c) ++ leaves_walked (k + 1) zs) ls) (sym (leaves-child s depth p y ys w r.0.is_inner)) leaves,
        )
    statements-stand (y ∷ ys) (OfCell c ∷ zs) k before total some members r f ph lh sh start =
        let none : module_named s y.target ≡ None = no-module (module_named s y.target) (first (λ (c : CellView). bytes_eq c.name y.target) s.cells) r.0.cell r.0.is_cell in
        let leaf : Placed = record { path = p; instance = y.name } in
        let ph2 : Has (module_instances s) (i + before.instances) (paths_by s depth p ys) = subst (λ ps. Has (module_instances s) (i + before.instances) ps) (paths-cell s depth p y ys none) ph in
        let lh2 : Has (cell_instances s) (x.leaf + before.leaves) (record { path = p; instance = y.name } ∷ leaves_by s depth p ys) = subst (λ ps. Has (cell_instances s) (x.leaf + before.leaves) ps) (leaves-cell s depth p y ys r.0.cell none r.0.is_cell) lh in
        let placed : slice_get (cell_instances s) (x.leaf + c.before) ≡ Some (record { path = p; instance = y.name }) = ap (λ n. slice_get (cell_instances s) (x.leaf + n)) f.0 ∙ has-head (cell_instances s) (x.leaf + before.leaves) leaf (leaves_by s depth p ys) lh2 in
        let i3 : i + before.instances ≡ i + (before.instances + 0) = omega arith in
        let l3 : (x.leaf + before.leaves) + 1 ≡ x.leaf + (before.leaves + 1) = omega arith in
        let b3 : x.start + (before.bits + 0) ≡ bits_before s (i + before.instances) = omega (arith, start) in
        let rest = statements-stand ys zs (k + 1) (joined_size before leaf_size) total (omega (arith, some)) (has-tail m.instances k y ys members) r.1 f.1
        (has-at (module_instances s) (i + before.instances) (i + (before.instances + 0)) (paths_by s depth p ys) i3 ph2)
        (has-at (cell_instances s) ((x.leaf + before.leaves) + 1) (x.leaf + (before.leaves + 1)) (leaves_by s depth p ys) l3 (has-tail (cell_instances s) (x.leaf + before.leaves) leaf (leaves_by s depth p ys) lh2))
        (has-at all (i + before.instances) (i + (before.instances + 0)) (walked (k + 1) zs) i3 sh)
        (b3 ∙ ap (bits_before s) i3) in
        let others = all-at (i + (before.instances + 0)) (i + before.instances) (paths_by s depth p ys) (sym i3) rest.1 in
        let member : IsIn y m.instances = get-in m.instances k y (has-head m.instances k y ys members) in
        let made : LeafSite = record { inst = i; of = x.of; start = x.start; place = k; cell = c } in
        let here : StandsAtLeaf s (record { inst = i; of = x.of; start = x.start; place = k; cell = c }) (record { path = p; instance = y.name }) = record {
          of = m;
          by = y;
          inst = at;
          is_of = is;
          has_of = has;
          place = has-head m.instances k y ys members;
          is = refl;
          is_by = named-at s names p m y is member;
          resolved = r.0;
          start = begun;
        } in (
          (placed, rest.0),
          subst (λ ps. AllStandAt (i + before.instances) ps) (sym (paths-cell s depth p y ys none)) others,
          subst (λ ls. LeavesStand s (made ∷ leaves_walked (k + 1) zs) ls) (sym (leaves-cell s depth p y ys r.0.cell none r.0.is_cell)) (here, rest.2),
        )

  walk-stands : (depth i : ℕ) (p : Path) (m : ModuleView) (x : Site) → module_at s p ≡ Some m → slice_get s.modules x.of ≡ Some m → z.height x.of < depth → Stands s templates all depth i p x → AllStandAt i (below s depth p) × LeavesStand s (walk_leaves templates depth i x) (cells_below s depth p)
  walk-stands zero i p m x is has low h = absurd (omega (arith, low))
  walk-stands (suc depth) i p m x is has low h =
      let tp = template-at s s.modules templates x.of m are has in
      let paths : Has (module_instances s) i (p ∷ paths_by s depth p m.instances) = subst (λ ps. Has (module_instances s) i ps) (below-is s depth p m is) h.paths in
      let leaves : Has (cell_instances s) x.leaf (leaves_by s depth p m.instances) = subst (λ ps. Has (cell_instances s) x.leaf ps) (cells-is s depth p m is) h.leaves in
      let more-sites = flat_map (λ (w : ℕ × Statement). walk_in (walk templates depth) i x w.0 w.1) (numbered 0 tp.template.statements) in
      let sites : Has all i (x ∷ flat_map (λ (w : ℕ × Statement). walk_in (walk templates depth) i x w.0 w.1) (numbered 0 tp.template.statements)) =
      subst (λ o. Has all i (x ∷ flat_map (λ (w : ℕ × Statement). walk_in (walk templates depth) i x w.0 w.1) (numbered 0 (statements_of o)))) tp.at h.sites in
      let at : slice_get (module_instances s) i ≡ Some p = has-head (module_instances s) i p (paths_by s depth p m.instances) paths in
      let l0 : x.leaf ≡ x.leaf + 0 = omega arith in
      let begins : x.start + length (bits_in m) ≡ bits_before s (i + 1) = (let next = before-next s i p at in let own = own-bits s p m is in let start = h.start in omega (arith, next, own, start)) in
      let begun = h.start ∙ sym (start-before s i p at) in
      let inner = statements-stand depth (z.height x.of) i p m x (omega (arith, low)) is has at begun (λ j q w y a b under st. walk-stands depth j q w y a b (omega (arith, under, low)) st)
      m.instances tp.template.statements 0 (own_size m) (z.size x.of) (omega arith) (has-all m.instances) tp.is.statements (z.each x.of m tp.template has tp.at)
      (has-tail (module_instances s) i p (paths_by s depth p m.instances) paths) (has-at (cell_instances s) x.leaf (x.leaf + 0) (leaves_by s depth p m.instances) l0 leaves) (has-tail all i x more-sites sites) begins in
      let here : StandsAt s l i p = record {
        site = x;
        of = m;
        template = tp.template;
        at = has-head all i x more-sites sites;
        is_of = is;
        has_of = has;
        has_template = tp.at;
        resolved = tp.is;
        start = begun;
        inside = h.inside;
        behind = h.behind;
        placed = inner.0;
      } in
      let made = λ (o : Option Template). flat_map (λ (w : ℕ × Statement). leaves_in (walk_leaves templates depth) i x w.0 w.1) (numbered 0 (statements_of o)) in
      let stand : LeavesStand s (made (Some tp.template)) (leaves_by s depth p m.instances) = inner.2 in
      let stand2 : LeavesStand s (made (slice_get templates x.of)) (leaves_by s depth p m.instances) = subst (λ o. LeavesStand s (made o) (leaves_by s depth p m.instances)) (sym tp.at) stand in (
        subst (λ ps. AllStandAt i ps) (sym (below-is s depth p m is)) (all-join i (p ∷ []) (paths_by s depth p m.instances) (one-stands i p here) inner.1),
        subst (λ ls. LeavesStand s (made (slice_get templates x.of)) ls) (sym (cells-is s depth p m is)) stand2,
      )
    where
      one-stands : (i : ℕ) (p : Path) → StandsAt s l i p → AllStandAt i (p ∷ [])
      one-stands i p here zero q e = let same : p ≡ q = cc in let place : i ≡ i + 0 = omega arith in subst (λ n. StandsAt s l n q) place (subst (λ w. StandsAt s l i w) same here)
      one-stands i p here (suc j) q e = absurd cc

module _ (s : Structure) (names : HasNamesApart s) (templates : List Template) (are : AreTemplates s s.modules templates) (z : IsSized s templates) (top : ℕ) (m : ModuleView) (is : module_at s [] ≡ Some m) (has : slice_get s.modules top ≡ Some m) where
  abbrev first_site : Site
  first_site = record { of = top; by = None; start = 0; leaf = 0 }

  stands-first : (depth : ℕ) (all : List Site) → module_instances s ≡ below s depth [] → cell_instances s ≡ cells_below s depth [] → all ≡ walk templates depth 0 first_site → Stands s templates all depth 0 [] first_site
  stands-first depth all instances cells walks = record {
    paths = subst (λ ps. Has (module_instances s) 0 ps) instances (has-all (module_instances s));
    leaves = subst (λ ps. Has (cell_instances s) 0 ps) cells (has-all (cell_instances s));
    sites = subst (λ ps. Has all 0 ps) walks (has-all all);
    start = refl;
    inside = refl;
    behind = tt;
  }

  -- at any depth that is enough
  sited-at : (depth : ℕ) (all : List Site) → z.height top < depth → module_instances s ≡ below s depth [] → cell_instances s ≡ cells_below s depth [] → all ≡ walk templates depth 0 first_site
      → IsSited s (record { templates = templates; sites = all; inner = (z.size top).bits; ports = port_bits m })
  unfolding inner_nodes
  sited-at depth all low instances cells walks =
      let size = sized s names templates are z depth [] m top is has low in
      let count : length (walk templates depth 0 first_site) ≡ (z.size top).instances = walk-sized s names templates are z depth 0 first_site m has low in
      let counted : length all ≡ length (walk templates depth 0 first_site) = ap (λ (xs : List Site). length xs) walks in
      let many : length (module_instances s) ≡ length (below s depth []) = ap (λ (xs : List Path). length xs) instances in
      let bits : length (bits_of s (module_instances s)) ≡ length (bits_of s (below s depth [])) = ap (λ (xs : List Path). length (bits_of s xs)) instances in
      let each = walk-stands s names templates are z all (z.size top).bits (port_bits m) depth 0 [] m first_site is has low (stands-first depth all instances cells walks) in
      record {
        top = m;
        is_top = is;
        ports = refl;
        inner = omega (arith, bits, size.bits);
        count = omega (arith, counted, count, many, size.instances);
        each = λ i p h. (let place : 0 + i ≡ i = omega arith in subst (λ n. StandsAt s (record { templates = templates; sites = all; inner = (z.size top).bits; ports = port_bits m }) n p) place (each.0 i p (ap (λ (ps : List Path). slice_get ps i) (sym instances) ∙ h)));
      }

  instances-are : module_instances s ≡ below s 64 []
  unfolding module_instances
  instances-are = refl

  cells-are : cell_instances s ≡ cells_below s 64 []
  unfolding cell_instances
  cells-are = refl

  sites-are : sites_of templates top ≡ walk templates 64 0 first_site
  unfolding sites_of
  sites-are = refl

  leaves-at : (depth : ℕ) (all : List Site) (ys : List LeafSite) → z.height top < depth → module_instances s ≡ below s depth [] → cell_instances s ≡ cells_below s depth [] → all ≡ walk templates depth 0 first_site → ys ≡ walk_leaves templates depth 0 first_site → LeavesStand s ys (cell_instances s)
  leaves-at depth all ys low instances cells walks leaves =
      let each = walk-stands s names templates are z all (z.size top).bits (port_bits m) depth 0 [] m first_site is has low (stands-first depth all instances cells walks) in
      subst (λ ls. LeavesStand s ys ls) (sym cells) (subst (λ ls. LeavesStand s ls (cells_below s depth [])) (sym leaves) each.1)

  leaf-sites-are : leaf_sites_of templates top ≡ walk_leaves templates 64 0 first_site
  unfolding leaf_sites_of
  leaf-sites-are = refl

  pub walk_leaf_sites : z.height top < 64 → LeavesStand s (leaf_sites_of templates top) (cell_instances s)
  walk_leaf_sites low = leaves-at 64 (sites_of templates top) (leaf_sites_of templates top) low instances-are cells-are sites-are leaf-sites-are

  pub walk_sites : z.height top < 64 → IsSited s (layout_of templates top (z.size top).bits (port_bits m))
  walk_sites low = sited-at 64 (sites_of templates top) low instances-are cells-are sites-are

  -- rows that are made by the walk
  pub leaf_rows_are : (t : Tables) (name : ℕ → ℕ → ℕ) → z.height top < 64 → t.leaves ≡ leaf_rows name 0 (leaf_sites_of templates top) → t.pins ≡ pin_rows (leaf_sites_of templates top) → AllStand s t t.leaves (cell_instances s)
  leaf_rows_are t name low leaves pins = subst (λ ls. AllStand s t ls (cell_instances s)) (sym leaves) (rows-stand s t name (leaf_sites_of templates top) (cell_instances s) 0 (walk_leaf_sites low) pins)

  counts-at : (depth : ℕ) → z.height top < depth → module_instances s ≡ below s depth [] → cell_instances s ≡ cells_below s depth [] → IsOfSize s (z.size top)
  unfolding inner_nodes
  counts-at depth low instances cells =
      let size = sized s names templates are z depth [] m top is has low in
      let many : length (module_instances s) ≡ length (below s depth []) = ap (λ (xs : List Path). length xs) instances in
      let bits : length (bits_of s (module_instances s)) ≡ length (bits_of s (below s depth [])) = ap (λ (xs : List Path). length (bits_of s xs)) instances in
      let leaves : length (cell_instances s) ≡ length (cells_below s depth []) = ap (λ (xs : List Placed). length xs) cells in
      record { instances = omega (arith, many, size.instances); bits = omega (arith, bits, size.bits); leaves = omega (arith, leaves, size.leaves) }

  pub sizes_count : z.height top < 64 → IsOfSize s (z.size top)
  sizes_count low = counts-at 64 low instances-are cells-are
