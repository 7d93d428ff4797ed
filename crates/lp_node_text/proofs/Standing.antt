-- What is found by going down the modules is the text of the node by its path.
use Rattle.std.proofs.Common.{◌≡◌, ◌<◌, ◌+◌, ◌-◌, ℕ, zero, suc, true, List, [], ◌∷◌, ◌++◌, map, length, get_or, Option, Some, None, inl, inr, refl, sym, ap, ◌∙◌, subst, append_assoc, arith}
use Rattle.std.specs.Prelude.{codes, option_map, slice_get}
use Rattle.std.proofs.lemmas.Bool.{cases_lt}
use Rattle.std.proofs.lemmas.Option.{get_or_from_slice_get}
use Rattle.lp_text.specs.Texts.{text_at, distinct}
use Rattle.lp_model.specs.declared.library.Library.{Library}
use Rattle.lp_model.specs.declared.netlist.Instance.{Instance}
use Rattle.lp_model.specs.declared.netlist.Netlist.{Netlist}
use Rattle.lp_model.specs.NetlistView.{ConstBit, InstanceView, ModuleView, instance_view, module_view}
use Rattle.lp_fault_text.specs.Paths.{bit_name}
use Rattle.lp_spec_design.specs.Keys.{Path}
use Rattle.lp_spec_design.specs.Netlists.{Structure, module_at, node_of}
use Rattle.lp_spec_design.specs.Instances.{module_instances}
use Rattle.lp_spec_design.specs.Winners.{IsIn}
use Rattle.lp_spec_bridge.specs.Keyed.{keys_of, node_at}
use Rattle.lp_spec_bridge.specs.Names.{HasNamesApart}
use Rattle.lp_spec_bridge.specs.Templates.{bits_in, start_of}
use Rattle.lp_spec_bridge.proofs.Templates.{node-in}
use Rattle.lp_spec_layout.specs.Parts.{Child, Statement, OfModule, OfCell, Template, IsChild, AreStatements, AreTemplates}
use Rattle.lp_spec_layout.specs.Sites.{Site, Layout, IsPlaced, ArePlaced, IsSited}
use Rattle.lp_spec_layout.specs.Walked.{own_size, IsSized}
use Rattle.lp_spec_layout.proofs.Lists.{get-in}
use Rattle.lp_spec_layout.proofs.Fed.{path-child}
use Rattle.lp_spec_layout.proofs.Measured.{template-at}
use Rattle.lp_targets.specs.Structures.{structure_of}
use Rattle.lp_drivers.proofs.Orders.{same-place}
use Rattle.lp_drivers.proofs.Viewed.{module-at}
use Rattle.lp_node_text.specs.declared.found.Found.{Found}
use Rattle.lp_node_text.specs.declared.found.Found.TheVariants as founds
use Rattle.lp_node_text.specs.Numbered.{own_bit, in_instance, found_own, found_by, found_at, found_text, text_below}
use Rattle.lp_node_text.specs.Paths.{path_text, node_text}
use Rattle.lp_node_text.proofs.Declared.{own-at, own-behind}
use Rattle.lp_node_text.proofs.Entering.{entered_child, enters}

-- the instance that a statement is of
record HasInstance (s : Structure) (m : ModuleView) (ys : List InstanceView) (k : ℕ) (c : Child) : Type 0 where
  inst : InstanceView
  at : slice_get ys k ≡ Some inst
  is : IsChild s m inst c

child-at : (s : Structure) (m : ModuleView) (ys : List InstanceView) (zs : List Statement) (k : ℕ) (c : Child) → AreStatements s m ys zs → slice_get zs k ≡ Some (OfModule c) → HasInstance s m ys k c
child-at s m [] [] k c r e = absurd cc
child-at s m [] (z ∷ zs) k c r e = absurd r
child-at s m (y ∷ ys) [] k c r e = absurd r
child-at s m (y ∷ ys) (OfModule d ∷ zs) zero c r e = let is : d ≡ c = cc in record { inst = y; at = refl; is = subst (IsChild s m y) is r.0 }
child-at s m (y ∷ ys) (OfCell d ∷ zs) zero c r e = absurd cc
child-at s m (y ∷ ys) (z ∷ zs) (suc k) c r e =
    let more = child-at s m ys zs k c r.1 e in
    record { inst = more.inst; at = more.at; is = more.is }

placed-at : (s : Structure) (i : ℕ) (p : Path) (x : Site) (ys : List InstanceView) (zs : List Statement) (k : ℕ) (y : InstanceView) (z : Statement) → ArePlaced s i p x ys zs → slice_get ys k ≡ Some y → slice_get zs k ≡ Some z → IsPlaced s i p x y z
placed-at s i p x [] zs k y z r e f = absurd cc
placed-at s i p x (v ∷ ys) [] k y z r e f = absurd cc
placed-at s i p x (v ∷ ys) (w ∷ zs) zero y z r e f =
    let a : v ≡ y = cc in
    let b : w ≡ z = cc in
    subst (λ u. IsPlaced s i p x u z) a (subst (IsPlaced s i p x v) b r.0)
placed-at s i p x (v ∷ ys) (w ∷ zs) (suc k) y z r e f = placed-at s i p x ys zs k y z r.1 e f

-- the instance that a view is of
instance-at : (texts : List (List ℕ)) (xs : List Instance) (k : ℕ) (y : InstanceView) → slice_get (map (instance_view texts) xs) k ≡ Some y → (x : Instance) × (slice_get xs k ≡ Some x) × (instance_view texts x ≡ y)
instance-at texts [] k y e = cc
instance-at texts (x ∷ xs) zero y e = let is : instance_view texts x ≡ y = cc in (x, refl, is)
instance-at texts (x ∷ xs) (suc k) y e = instance-at texts xs k y e

-- a module instance with the template of its module
record Stands (s : Structure) (templates : List Template) (i of : ℕ) (p : Path) (m : ModuleView) : Type 0 where
  site : Site
  template : Template
  at : slice_get templates of ≡ Some template
  statements : AreStatements s m m.instances template.statements
  start : site.start ≡ start_of s i
  placed : ArePlaced s i p site m.instances template.statements

module _ (s : Structure) (names : HasNamesApart s) (apart : distinct (map (λ (m : ModuleView). m.name) s.modules) ≡ true) (templates : List Template) (are : AreTemplates s s.modules templates) (l : Layout) (same : l.templates ≡ templates) (sited : IsSited s l) where
  stands-at : (i of : ℕ) (p : Path) (m : ModuleView) → slice_get (module_instances s) i ≡ Some p → module_at s p ≡ Some m → slice_get s.modules of ≡ Some m → Stands s templates i of p m
  stands-at i of p m at is has =
      let w = sited.each i p at in
      let both : Some w.of ≡ Some m = sym w.is_of ∙ is in
      let module-is : w.of ≡ m = cc in
      let has-too : slice_get s.modules w.site.of ≡ Some m = w.has_of ∙ ap (λ (v : ModuleView). Some v) module-is in
      let number : w.site.of ≡ of = same-place s.modules apart of w.site.of m has has-too in
      let tp = template-at s s.modules templates of m are has in
      let found : Some w.template ≡ Some tp.template = sym w.has_template ∙ ap (λ (xs : List Template). slice_get xs w.site.of) same ∙ ap (slice_get templates) number ∙ tp.at in
      let template-is : w.template ≡ tp.template = cc in
      let placed : ArePlaced s i p w.site m.instances w.template.statements = subst (λ (v : ModuleView). ArePlaced s i p w.site v.instances w.template.statements) module-is w.placed in
      record {
        site = w.site;
        template = tp.template;
        at = tp.at;
        statements = tp.is.statements;
        start = w.start;
        placed = subst (λ (x : Template). ArePlaced s i p w.site m.instances x.statements) template-is placed;
      }

abbrev in_found : ℕ → Child → Option Instance → Option Found
in_found k c None = None
in_found k c (Some v) = Some (founds.Inside (record { name = v.name; of = c.of; place = k - c.before.bits }))

in-found : (ys : List Instance) (k j : ℕ) (c : Child) → in_instance ys k (Some (entered_child j c)) ≡ in_found k c (slice_get ys j)
in-found ys k j c = by (slice_get ys j)
  where
    by : (o : Option Instance) → option_map (λ (y : Instance). founds.Inside (record { name = y.name; of = c.of; place = k - c.before.bits })) o ≡ in_found k c o
    by None = refl
    by (Some v) = refl

-- a text behind the names down to an instance
own-text : (above own here whole : List ℕ) → own ≡ here → whole ≡ above ++ here → above ++ own ≡ whole
own-text above own here whole e f = ap (λ r. above ++ r) e ∙ sym f

below-text : (above name more whole : List ℕ) → (above ++ (name ++ codes "/")) ++ more ≡ whole → above ++ (name ++ (codes "/" ++ more)) ≡ whole
below-text above name more whole e =
    ap (λ r. above ++ r) (sym (append_assoc name (codes "/") more))
    ∙ sym (append_assoc above (name ++ codes "/") more)
    ∙ e

module _ (texts : List (List ℕ)) (n : Netlist) (l : Library) (names : HasNamesApart (structure_of texts n l)) (apart : distinct (map (λ (m : ModuleView). m.name) (structure_of texts n l).modules) ≡ true) (templates : List Template) (are : AreTemplates (structure_of texts n l) (structure_of texts n l).modules templates) (z : IsSized (structure_of texts n l) templates) (layout : Layout) (same : layout.templates ≡ templates) (sited : IsSited (structure_of texts n l) layout) where
  abbrev s : Structure
  s = structure_of texts n l

  abbrev below : ℕ → ℕ → ℕ → List ℕ
  below depth of k = text_below texts n.modules templates depth of k

  pub texts-below : (depth i of k : ℕ) (p : Path) (m : ModuleView) → slice_get (module_instances s) i ≡ Some p → module_at s p ≡ Some m → slice_get s.modules of ≡ Some m → z.height of < depth → k < (z.size of).bits → path_text p ++ below depth of k ≡ node_text (node_at (keys_of s) (start_of s i + k))
  texts-below zero i of k p m at is has low under = absurd (omega (arith, low))
  texts-below (suc depth) i of k p m at is has low under =
      let w = stands-at s names apart templates are layout same sited i of p m at is has in
      let source = module-at texts n.modules of m has in
      let x = source.0 in
      let more = text_below texts n.modules templates depth in
      let found : found_at n.modules templates of k ≡ found_own source.0.instances w.template k (own_bit source.0 k) = (λ j. found_by k (source.1 j) (w.at j)) in
      let bits : length (bits_in (module_view texts source.0)) ≡ length (bits_in m) = ap (λ (v : ModuleView). length (bits_in v)) source.2 in
      elim (cases_lt k (length (bits_in m))) [
        | inl here ↦
            let own = own-at texts source.0 k (omega (arith, here, bits)) in
            let told : below (suc depth) of k ≡ bit_name texts own.bit = ap (found_text texts (text_below texts n.modules templates depth)) (found ∙ ap (found_own source.0.instances w.template k) own.is) in
            let bit : get_or (bits_in m) k (ConstBit true) ≡ own.view = get_or_from_slice_get (bits_in m) k own.view (ConstBit true) (ap (λ (v : ModuleView). slice_get (bits_in v) k) (sym source.2) ∙ own.at) in
            let node : node_text (node_at (keys_of s) (start_of s i + k)) ≡ path_text p ++ bit_name texts own.bit = ap node_text (node-in s m i p k at is here) ∙ ap (λ v. node_text (node_of p v)) bit ∙ own.text p in
            own-text (path_text p) (below (suc depth) of k) (bit_name texts own.bit) (node_text (node_at (keys_of s) (start_of s i + k))) told node
        | inr behind ↦
            let own = own-behind texts source.0 k (omega (arith, behind, bits)) in
            let e = enters z.size z.height (z.height of) k w.template.statements (own_size m) (z.size of) 0 None (z.each of m w.template has w.at) behind under in
            let c = e.child in
            let y = child-at s m m.instances w.template.statements e.place e.child w.statements e.at in
            let written = instance-at texts source.0.instances e.place y.inst (ap (λ (v : ModuleView). slice_get v.instances e.place) source.2 ∙ y.at) in
            let name : text_at texts written.0.name.0 ≡ y.inst.name = ap (λ (v : InstanceView). v.name) written.2 in
            let number : slice_get source.0.instances (0 + e.place) ≡ Some written.0 = (let place : 0 + e.place ≡ e.place = omega arith in ap (slice_get source.0.instances) place ∙ written.1) in
            let inside : found_at n.modules templates of k ≡ Some (founds.Inside (record { name = written.0.name; of = e.child.of; place = k - e.child.before.bits })) =
            found
            ∙ ap (found_own source.0.instances w.template k) own.1
            ∙ ap (in_instance source.0.instances k) e.is
            ∙ in-found source.0.instances k (0 + e.place) e.child
            ∙ ap (in_found k e.child) number in
            let told : below (suc depth) of k ≡ y.inst.name ++ (codes "/" ++ below depth e.child.of (k - e.child.before.bits)) =
            ap (found_text texts (text_below texts n.modules templates depth)) inside
            ∙ ap (λ t. t ++ (codes "/" ++ below depth e.child.of (k - e.child.before.bits))) name in
            let placed = placed-at s i p w.site m.instances w.template.statements e.place y.inst (OfModule e.child) w.placed y.at e.at in
            let member : IsIn y.inst m.instances = get-in m.instances e.place y.inst y.at in
            let child : module_at s (y.inst.name ∷ p) ≡ Some y.is.inner = path-child s names p m y.inst is member ∙ y.is.is_inner in
            let within = e.within in
            let begun = e.begun in
            let lower = e.lower in
            let rest = texts-below depth (i + e.child.before.instances) e.child.of (k - e.child.before.bits) (y.inst.name ∷ p) y.is.inner placed.0 child y.is.has_inner (omega (arith, lower, low)) (omega (arith, within, begun)) in
            let start = w.start in
            let starts = placed.1 in
            let place : start_of s (i + e.child.before.instances) + (k - e.child.before.bits) ≡ start_of s i + k = omega (arith, starts, start, begun) in
            ap (λ r. path_text p ++ r) told
            ∙ below-text (path_text p) y.inst.name (below depth e.child.of (k - e.child.before.bits)) (node_text (node_at (keys_of s) (start_of s i + k))) (rest ∙ ap (λ j. node_text (node_at (keys_of s) j)) place)
      ]
