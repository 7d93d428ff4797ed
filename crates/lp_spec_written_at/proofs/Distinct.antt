-- No cell instance of the source stands twice.
use Rattle.std.proofs.Common.{◌≡◌, ◌⊎◌, ℕ, zero, suc, ◌+◌, Bool, true, false, not, List, [], ◌∷◌, length, map, drop, Option, Some, None, inl, inr, refl, sym, ap, ◌∙◌, subst, arith}
use Rattle.std.specs.Prelude.{bytes_eq}
use Rattle.std.specs.List.{list_any}
use Rattle.std.proofs.lemmas.Bool.{false≢true}
use Rattle.lp_model.specs.LibraryView.{CellView}
use Rattle.lp_model.specs.NetlistView.{InstanceView, ModuleView}
use Rattle.lp_spec_design.specs.Keys.{Name, Path}
use Rattle.lp_spec_design.specs.Netlists.{first, module_named, cell_named, module_at}
use Rattle.lp_spec_design.specs.Instances.{Placed, cells_of_target, cells_of, cells_in, cells_below, cell_instances}
use Rattle.lp_spec_design.specs.Winners.{IsIn}
use Rattle.lp_spec_design.specs.Reads.{both, one, other, name-self}
use Rattle.lp_spec_design.proofs.Members.{IsApart, of-flat, in-map, any-in}
use Rattle.lp_spec_realises.specs.Projects.{Project}
use Rattle.lp_spec_realises.specs.ProjectNetlists.{are_apart}
use Rattle.lp_spec_realises.specs.Realises.{same_placed, has_placed, are_distinct}
use Rattle.lp_spec_written_at.specs.Sources.{IsFree}
use Rattle.lp_spec_written_at.proofs.Lists.{none-any, first-apart}
use Rattle.lp_spec_written_at.proofs.Instances.{apart-flat, drop-tail}
use Rattle.lp_spec_written_at.proofs.SourceCells.{placed-true, target-of, instances-named}

pub apart-distinct : (xs : List Placed) → IsApart xs → are_distinct xs ≡ true
apart-distinct [] apart = refl
apart-distinct (a ∷ xs) apart = both (not (has_placed xs a)) (are_distinct xs) (ap not (none-any (same_placed a) xs (λ b h. by b h (same_placed a b) refl))) (apart-distinct xs apart.1)
  where
    by : (b : Placed) → IsIn b xs → (t : Bool) → same_placed a b ≡ t → t ≡ false
    by b h true e = absurd (apart.0 (subst (λ z. IsIn z xs) (sym (placed-true a b e)) h))
    by b h false e = refl

pub named-once : (xs : List InstanceView) → are_apart (map (λ (x : InstanceView). x.name) xs) ≡ true → IsApart xs
named-once [] e = tt
named-once (x ∷ xs) e = (
  λ h.
      let there : list_any (bytes_eq x.name) (map (λ (y : InstanceView). y.name) xs) ≡ true = any-in (bytes_eq x.name) x.name (map (λ (y : InstanceView). y.name) xs) (in-map (λ (y : InstanceView). y.name) x xs h) (name-self x.name) in
      false≢true (ap not (sym there) ∙ one (not (list_any (bytes_eq x.name) (map (λ (y : InstanceView). y.name) xs))) (are_apart (map (λ (y : InstanceView). y.name) xs)) e),
  named-once xs (other (not (list_any (bytes_eq x.name) (map (λ (y : InstanceView). y.name) xs))) (are_apart (map (λ (y : InstanceView). y.name) xs)) e),
)

module _ (p : Project) (f : IsFree p) where
  abbrev pub inside : ℕ → Path → List Placed
  inside depth = cells_below p.structure depth

  IsUnder : Path → Placed → Type 0
  IsUnder q a = (k : ℕ) × (drop k a.path ≡ q) × (length a.path ≡ k + length q)

  cells-under : (depth : ℕ) (q : Path) (a : Placed) → IsIn a (inside depth q) → IsUnder q a
  unfolding IsUnder
  cells-under zero q a h = absurd h
  cells-under (suc depth) q a h = by (module_at p.structure q) h (λ i g. cells-under depth (i ∷ q) a g)
    where
      by : (o : Option ModuleView) → IsIn a (cells_in p.structure (inside depth) q o) → ((i : Name) → IsIn a (inside depth (i ∷ q)) → IsUnder (i ∷ q) a) → IsUnder q a
      by None g more = absurd g
      by (Some m) g more =
          let at = of-flat (cells_of p.structure (inside depth) q) a m.instances g in
          elim (target-of (inside depth) q at.0.name (module_named p.structure at.0.target) (cell_named p.structure at.0.target) a at.2) [
            | inl up ↦ let deep = more at.0.name up in (suc deep.0, drop-tail p.structure deep.0 a.path at.0.name q deep.1, omega (arith, deep.2))
            | inr found ↦ let path : a.path ≡ q = ap (λ (b : Placed). b.path) found.2 in let long : length a.path ≡ length q = ap length path in (0, path, omega (arith, long))
          ]

  heads : (x y : Name) (q : Path) → x ∷ q ≡ y ∷ q → x ≡ y
  heads x y q e = cc

  pub one-of : (q : Path) (m : ModuleView) → module_at p.structure q ≡ Some m → (x y : InstanceView) → IsIn x m.instances → IsIn y m.instances → x.name ≡ y.name → x ≡ y
  one-of q m e x y h g same =
      let mine = first-apart m.instances x (instances-named p f q m e) h in
      let its = first-apart m.instances y (instances-named p f q m e) g in
      let twice : Some x ≡ Some y = sym mine ∙ (ap (λ n. first (λ (k : InstanceView). bytes_eq k.name n) m.instances) same ∙ its) in
      cc

  each-apart : (depth : ℕ) (q : Path) (y : InstanceView) → IsApart (inside depth (y.name ∷ q)) → IsApart (cells_of p.structure (inside depth) q y)
  each-apart depth q y more = by (module_named p.structure y.target) (cell_named p.structure y.target)
    where
      by : (o : Option ModuleView) (k : Option _) → IsApart (cells_of_target (inside depth) q y.name o k)
      by (Some m) k = more
      by None (Some c) = (λ h. h, tt)
      by None None = tt

  abbrev IsTarget : ℕ → Path → InstanceView → Placed → Type 0
  IsTarget depth q x b = IsIn b (inside depth (x.name ∷ q)) ⊎ ((c : CellView) × (cell_named p.structure x.target ≡ Some c) × (b ≡ record { path = q; instance = x.name }))

  by-targets : (depth : ℕ) (q : Path) (m : ModuleView) → module_at p.structure q ≡ Some m → (x y : InstanceView) (b : Placed) → IsIn x m.instances → IsIn y m.instances → IsTarget depth q x b → IsTarget depth q y b → x ≡ y
  unfolding IsUnder
  by-targets depth q m e x y b h g (inl i) (inl j) =
      let one = cells-under depth (x.name ∷ q) b i in
      let two = cells-under depth (y.name ∷ q) b j in
      let same : one.0 ≡ two.0 = omega (arith, one.2, two.2) in
      one-of q m e x y h g (heads x.name y.name q (sym one.1 ∙ (ap (λ k. drop k b.path) same ∙ two.1)))
  by-targets depth q m e x y b h g (inl i) (inr j) = let one = cells-under depth (x.name ∷ q) b i in let long : length b.path ≡ length q = ap (λ (z : Placed). length z.path) j.2 in absurd (omega (arith, one.2, long))
  by-targets depth q m e x y b h g (inr i) (inl j) = let two = cells-under depth (y.name ∷ q) b j in let long : length b.path ≡ length q = ap (λ (z : Placed). length z.path) i.2 in absurd (omega (arith, two.2, long))
  by-targets depth q m e x y b h g (inr i) (inr j) = one-of q m e x y h g (ap (λ (z : Placed). z.instance) (sym i.2 ∙ j.2))

  pub cells-apart : (depth : ℕ) (q : Path) → IsApart (inside depth q)
  cells-apart zero q = tt
  cells-apart (suc depth) q = by (module_at p.structure q) refl (λ i. cells-apart depth (i ∷ q))
    where
      by : (o : Option ModuleView) → module_at p.structure q ≡ o → ((i : Name) → IsApart (inside depth (i ∷ q))) → IsApart (cells_in p.structure (inside depth) q o)
      by None e more = tt
      by (Some m) e more =
          apart-flat (cells_of p.structure (inside depth) q) m.instances (named-once m.instances (instances-named p f q m e)) (λ y h. each-apart depth q y (more y.name))
          (λ x y b h g u v.
          by-targets depth q m e x y b h g
          (target-of (inside depth) q x.name (module_named p.structure x.target) (cell_named p.structure x.target) b u)
          (target-of (inside depth) q y.name (module_named p.structure y.target) (cell_named p.structure y.target) b v))

  pub source-distinct : are_distinct (cell_instances p.structure) ≡ true
  unfolding cell_instances
  source-distinct = apart-distinct (cell_instances p.structure) (cells-apart 64 [])
