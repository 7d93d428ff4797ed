-- No instance is deeper than the height of the top's module says.
use Rattle.std.proofs.Common.{◌≡◌, ◌≤◌, ◌+◌, ℕ, zero, suc, List, [], ◌∷◌, length, Some, None, inl, inr, refl, sym, ap, ◌∙◌, subst, arith}
use Rattle.std.specs.Prelude.{bytes_eq, option_and_then, slice_get}
use Rattle.lp_model.specs.NetlistView.{InstanceView, ModuleView}
use Rattle.lp_model.specs.LibraryView.{CellView}
use Rattle.lp_spec_design.specs.Keys.{Path}
use Rattle.lp_spec_design.specs.Netlists.{Structure, first, module_at, module_named, instance_named}
use Rattle.lp_spec_design.specs.Winners.{IsIn}
use Rattle.lp_spec_design.proofs.Sources.{then_is, first_in}
use Rattle.lp_spec_bridge.specs.Names.{HasNamesApart}
use Rattle.lp_spec_layout.specs.Parts.{Size, Statement, OfModule, OfCell, Template, IsChild, IsStatement, AreStatements, AreTemplates}
use Rattle.lp_spec_layout.specs.Walked.{own_size, leaf_size, joined_size, Follows, IsSized, AreHeights, HasDepth}
use Rattle.lp_spec_layout.proofs.Fed.{no-module, path-child}
use Rattle.lp_spec_layout.proofs.Measured.{template-at}

-- a module has a number of some height
record IsAt (s : Structure) (height : ℕ → ℕ) (w : ModuleView) (depth top : ℕ) : Type 0 where
  number : ℕ
  has : slice_get s.modules number ≡ Some w
  low : height number + depth ≤ top

module _ (s : Structure) (templates : List Template) (are : AreTemplates s s.modules templates) (z : IsSized s templates) where
  -- the module of a statement's instance is lower
  lower-in : (m w : ModuleView) (y : InstanceView) (high : ℕ) (ys : List InstanceView) (zs : List Statement) (before total : Size) → AreStatements s m ys zs → Follows z.size z.height high before zs total → IsIn y ys → module_named s y.target ≡ Some w → IsAt s z.height w 1 high
  lower-in m w y high [] zs before total r f h e = absurd h
  lower-in m w y high (x ∷ ys) [] before total r f h e = absurd r
  lower-in m w y high (x ∷ ys) (OfModule c ∷ zs) before total r f (inl is) e =
      let found : Some r.0.inner ≡ Some w = sym r.0.is_inner ∙ ap (λ (i : InstanceView). module_named s i.target) (sym is) ∙ e in
      let same : r.0.inner ≡ w = cc in
      record { number = c.of; has = r.0.has_inner ∙ ap (λ (v : ModuleView). Some v) same; low = omega (arith, f.1) }
  lower-in m w y high (x ∷ ys) (OfModule c ∷ zs) before total r f (inr h) e = lower-in m w y high ys zs (joined_size before (z.size c.of)) total r.1 f.2 h e
  lower-in m w y high (x ∷ ys) (OfCell c ∷ zs) before total r f (inl is) e =
      let none : module_named s x.target ≡ None = no-module (module_named s x.target) (first (λ (c : CellView). bytes_eq c.name x.target) s.cells) r.0.cell r.0.is_cell in
      let no : None ≡ Some w = sym none ∙ ap (λ (i : InstanceView). module_named s i.target) (sym is) ∙ e in
      absurd cc
  lower-in m w y high (x ∷ ys) (OfCell c ∷ zs) before total r f (inr h) e = lower-in m w y high ys zs (joined_size before leaf_size) total r.1 f.1 h e

  module _ (top : ℕ) (m : ModuleView) (is : module_at s [] ≡ Some m) (has : slice_get s.modules top ≡ Some m) where
    height-at : (p : Path) (w : ModuleView) → module_at s p ≡ Some w → IsAt s z.height w (length p) (z.height top)
    height-at [] w e =
        let found : Some m ≡ Some w = sym is ∙ e in
        let same : m ≡ w = cc in
        record { number = top; has = has ∙ ap (λ (v : ModuleView). Some v) same; low = omega arith }
    height-at (n ∷ q) w e =
        let outer = then_is (λ (v : ModuleView). option_and_then (λ (x : InstanceView). module_named s x.target) (instance_named v n)) (module_at s q) w e in
        let inst = then_is (λ (x : InstanceView). module_named s x.target) (instance_named outer.0 n) w outer.2 in
        let above = height-at q outer.0 outer.1 in
        let x = template-at s s.modules templates above.number outer.0 are above.has in
        let member = (first_in (λ (i : InstanceView). bytes_eq i.name n) outer.0.instances inst.0 inst.1).0 in
        let under = lower-in outer.0 w inst.0 (z.height above.number) outer.0.instances x.template.statements (own_size outer.0) (z.size above.number) x.is.statements (z.each above.number outer.0 x.template above.has x.at) member inst.2 in
        let a = above.low in
        let b = under.low in
        record { number = under.number; has = under.has; low = omega (arith, a, b) }

    pub heights_bound : (p : Path) (w : ModuleView) → module_at s p ≡ Some w → length p ≤ z.height top
    heights_bound p w e = let at = height-at p w e in let low = at.low in omega (arith, low)

-- ---- an instance that is as deep

-- the instance of a statement
record HasInstance (s : Structure) (m : ModuleView) (ys : List InstanceView) (k : ℕ) (z : Statement) : Type 0 where
  by : InstanceView
  member : IsIn by ys
  is : IsStatement s m by z

instance-of : (s : Structure) (m : ModuleView) (ys : List InstanceView) (zs : List Statement) (k : ℕ) (z : Statement) → AreStatements s m ys zs → slice_get zs k ≡ Some z → HasInstance s m ys k z
instance-of s m [] [] k z r h = absurd cc
instance-of s m [] (x ∷ zs) k z r h = absurd r
instance-of s m (y ∷ ys) [] k z r h = absurd r
instance-of s m (y ∷ ys) (x ∷ zs) zero z r h = let is : x ≡ z = cc in record { by = y; member = inl refl; is = subst (λ w. IsStatement s m y w) is r.0 }
instance-of s m (y ∷ ys) (x ∷ zs) (suc k) z r h =
    let more = instance-of s m ys zs k z r.1 h in
    record { by = more.by; member = inr more.member; is = more.is }

module _ (s : Structure) (templates : List Template) (names : HasNamesApart s) (are : AreTemplates s s.modules templates) (height : ℕ → ℕ) (exact : AreHeights s templates height) where
  reached : (h n : ℕ) (m : ModuleView) (p : Path) → height n ≡ h → module_at s p ≡ Some m → slice_get s.modules n ≡ Some m → HasDepth s (length p + h)
  reached zero n m p e is has = record { path = p; of = m; is_of = is; size = omega arith }
  reached (suc k) n m p e is has =
      let x = template-at s s.modules templates n m are has in
      let lower = exact n m x.template has x.at k e in
      let y = instance-of s m m.instances x.template.statements lower.place (OfModule lower.child) x.is.statements lower.at in
      let child : IsChild s m y.by lower.child = y.is in
      let more = reached k lower.child.of child.inner (y.by.name ∷ p) lower.is (path-child s names p m y.by is y.member ∙ child.is_inner) child.has_inner in
      let size = more.size in
      record { path = more.path; of = more.of; is_of = more.is_of; size = omega (arith, size) }

  pub heights_reached : (top : ℕ) (m : ModuleView) → module_at s [] ≡ Some m → slice_get s.modules top ≡ Some m → HasDepth s (height top)
  heights_reached top m is has =
      let all = reached (height top) top m [] refl is has in
      let size = all.size in
      record { path = all.path; of = all.of; is_of = all.is_of; size = omega (arith, size) }
