-- A table of the first nodes below modules is filled along an order: each entry is right once the module's place was met.
use Rattle.std.proofs.Common.{◌≡◌, ◌<◌, ◌≤◌, ◌+◌, ℕ, zero, suc, min, List, [], ◌∷◌, ◌++◌, map, length, take, get_or, set, replicate, Option, Some, None, inl, inr, refl, sym, ap, ◌∙◌, subst, arith}
use Rattle.std.specs.Prelude.{option_map, slice_get, slice_index_or}
use Rattle.std.specs.List.{All, Contains}
use Rattle.std.proofs.lemmas.Bool.{cases_eq}
use Rattle.std.proofs.lemmas.List.{length-set, length-replicate, take_more, take_all, get_or-set_same, get_or-set_other}
use Rattle.lp_model.specs.declared.library.Library.{Library}
use Rattle.lp_model.specs.declared.netlist.Netlist.{Netlist}
use Rattle.lp_model.specs.NetlistView.{InstanceView, ModuleView}
use Rattle.lp_order.specs.Order.{Reads}
use Rattle.lp_order.proofs.OrderLaws.{Contains-first, Contains-behind}
use Rattle.lp_spec_design.specs.Netlists.{Structure, module_named}
use Rattle.lp_spec_bridge.specs.Names.{HasNamesApart}
use Rattle.lp_spec_bridge.specs.Templates.{bits_in}
use Rattle.lp_spec_layout.specs.Parts.{Child, Statement, OfModule, OfCell, Template, IsChild, AreStatements, AreTemplates}
use Rattle.lp_spec_layout.proofs.Measured.{template-at}
use Rattle.lp_spec_drivers.specs.Counts.{or_else, found}
use Rattle.lp_spec_drivers.specs.Drivers.{joint_places, own_twice, twice_in, AreTwiceBelow}
use Rattle.lp_spec_drivers.proofs.Numbers.{map-else}
use Rattle.lp_spec_drivers.proofs.Entered.{child-apart}
use Rattle.lp_targets.specs.declared.target.Target.{Target}
use Rattle.lp_targets.specs.declared.target.Target.TheVariants as target
use Rattle.lp_targets.specs.Structures.{structure_of}
use Rattle.lp_targets.specs.Targets.{module_of}
use Rattle.lp_targets.specs.Children.{children_of, children}
use Rattle.lp_targets.specs.Sizes.{IsResolved}
use Rattle.lp_templates.specs.Modules.{own_bits, HasFewBits}
use Rattle.lp_drivers.specs.Seen.{Seen}
use Rattle.lp_drivers.specs.Table.{largest, capped, moved_by, twice_by, below_by, no_template, note, note_all, table_of}
use Rattle.lp_drivers.proofs.Joined.{get-some, get-within}
use Rattle.lp_drivers.proofs.Orders.{met-before, reads-met, all-met, at-place, row-at, same-place}
use Rattle.lp_drivers.proofs.Viewed.{module-at, bits-count}
use Rattle.lp_drivers.proofs.Owned.{seen_of, own-is}

-- ---- tables

pub notes-more : (seen : List Seen) (templates : List Template) (table : List (Option ℕ)) (ks : List ℕ) (k : ℕ) → note_all seen templates table (ks ++ k ∷ []) ≡ note seen templates (note_all seen templates table ks) k
notes-more seen templates table [] k = refl
notes-more seen templates table (j ∷ ks) k = notes-more seen templates (note seen templates table j) ks k

-- up to the place that comes next
pub note-next : (seen : List Seen) (templates : List Template) (table : List (Option ℕ)) (order : List ℕ) (i : ℕ) → i < length order
    → note_all seen templates table (take (i + 1) order) ≡ note seen templates (note_all seen templates table (take i order)) (get_or order i 0)
note-next seen templates table order i low = ap (note_all seen templates table) (take_more order i 0 low) ∙ notes-more seen templates table (take i order) (get_or order i 0)

pub notes-length : (seen : List Seen) (templates : List Template) (table : List (Option ℕ)) (ks : List ℕ) → length (note_all seen templates table ks) ≡ length table
notes-length seen templates table [] = refl
notes-length seen templates table (k ∷ ks) = notes-length seen templates (note seen templates table k) ks ∙ length-set table k (below_by seen table (slice_index_or templates k no_template))

-- ---- a module

-- up to the largest number, of a place or of a node that was so before
moved-capped : (b : ℕ) (o p : Option ℕ) → moved_by b (or_else o (option_map capped p)) ≡ option_map capped (option_map (λ k. b + k) (or_else o p))
moved-capped b (Some k) p = refl
moved-capped b None None = refl
moved-capped b None (Some k) = let same : min largest (b + min largest k) ≡ min largest (b + k) = omega arith in ap (λ n. Some n) same

module _ (texts : List (List ℕ)) (n : Netlist) (l : Library) (rows : List (List Target)) (order : List ℕ) (top : ℕ) (templates : List Template) where
  abbrev pub design : Structure
  design = structure_of texts n l

  module _ (resolved : IsResolved design rows order top) (names : HasNamesApart design) (are : AreTemplates design design.modules templates) (few : All HasFewBits n.modules) where
    -- the row of a module
    row-is : (k : ℕ) (m : ModuleView) → slice_get design.modules k ≡ Some m → (row : List Target) × (slice_get rows k ≡ Some row) × (map (module_of design) row ≡ map (λ (y : InstanceView). module_named design y.target) m.instances)
    row-is k m at = at-place (map (module_of design)) (λ (x : ModuleView). map (λ (y : InstanceView). module_named design y.target) x.instances) rows design.modules resolved.known.targets.modules k m at

    pub bits-few : (k : ℕ) (m : ModuleView) → slice_get design.modules k ≡ Some m → length (bits_in m) < 4294967296
    bits-few k m has =
        let source = module-at texts n.modules k m has in
        let low = few k source.0 (get-within n.modules k source.0 source.1) in
        let own : own_bits source.0 < 4294967296 = subst HasFewBits (get-some n.modules k source.0 source.0 source.1) low in
        let bits : length (bits_in m) ≡ own_bits source.0 = ap (λ (w : ModuleView). length (bits_in w)) (sym source.2) ∙ bits-count texts source.0 in
        omega (arith, own, bits)

    module _ (below : ℕ → Option ℕ) (known : AreTwiceBelow design templates below) where
      -- the entries of these places are right
      abbrev pub HasBelow : List ℕ → List (Option ℕ) → Type 0
      HasBelow keys table = (k : ℕ) (m : ModuleView) → Contains keys k → slice_get design.modules k ≡ Some m → slice_index_or table k None ≡ option_map capped (below k)

      module _ (m : ModuleView) (t : List (Option ℕ)) where
        child-noted : (y : InstanceView) (c : Child) → IsChild design m y c → slice_index_or t c.of None ≡ option_map capped (below c.of) → twice_by (seen_of texts n l templates) t (OfModule c) ≡ option_map capped (twice_in design templates below (OfModule c))
        child-noted y c r is =
            let tp = template-at design design.modules templates c.of r.inner are r.has_inner in
            let apart = child-apart design m y c names r in
            let own = own-is texts n l templates c.of r.inner tp.template (joint_places c.inputs) r.has_inner tp.at (bits-few c.of r.inner r.has_inner) apart.0 apart.1 in
            ap (λ o. moved_by c.before.bits (or_else o (slice_index_or t c.of None))) own
            ∙ ap (λ o. moved_by c.before.bits (or_else (own_twice design templates c.of (joint_places c.inputs)) o)) is
            ∙ moved-capped c.before.bits (own_twice design templates c.of (joint_places c.inputs)) (below c.of)

        -- the modules of a row have right entries
        abbrev AreMet : List Target → Type 0
        AreMet row = (b : ℕ) (k : ModuleView) → Contains (children_of row) b → slice_get design.modules b ≡ Some k → slice_index_or t b None ≡ option_map capped (below b)

        met-later : (r : Target) (row : List Target) → AreMet (r ∷ row) → AreMet row
        met-later (target.OfModule j) row met = λ b k c. met b k (Contains-behind j (children_of row) b c)
        met-later (target.OfCell j) row met = met

        child-met : (r : Target) (row : List Target) (c : Child) (inner : ModuleView) → module_of design r ≡ Some inner → slice_get design.modules c.of ≡ Some inner → AreMet (r ∷ row) → slice_index_or t c.of None ≡ option_map capped (below c.of)
        child-met (target.OfModule j) row c inner e has met =
            let same : c.of ≡ j = same-place design.modules resolved.apart j c.of inner e has in
            met c.of inner (Contains-first j (children_of row) c.of (sym same)) has
        child-met (target.OfCell j) row c inner e has met = cc

        statements-noted : (row : List Target) (ys : List InstanceView) (zs : List Statement) → map (module_of design) row ≡ map (λ (y : InstanceView). module_named design y.target) ys → AreStatements design m ys zs → AreMet row
            → found (twice_by (seen_of texts n l templates) t) zs ≡ option_map capped (found (twice_in design templates below) zs)
        statements-noted row [] [] e r met = refl
        statements-noted row [] (w ∷ zs) e r met = absurd r
        statements-noted row (y ∷ ys) [] e r met = absurd r
        statements-noted [] (y ∷ ys) (w ∷ zs) e r met = cc
        statements-noted (x ∷ row) (y ∷ ys) (OfModule c ∷ zs) e r met =
            let here : module_of design x ≡ module_named design y.target = cc in
            let rest : map (module_of design) row ≡ map (λ (y : InstanceView). module_named design y.target) ys = cc in
            let one = child-noted y c r.0 (child-met x row c r.0.inner (here ∙ r.0.is_inner) r.0.has_inner met) in
            let more = statements-noted row ys zs rest r.1 (met-later x row met) in
            (λ i. or_else (one i) (more i))
            ∙ sym (map-else capped (twice_in design templates below (OfModule c)) (found (twice_in design templates below) zs))
        statements-noted (x ∷ row) (y ∷ ys) (OfCell c ∷ zs) e r met =
            let rest : map (module_of design) row ≡ map (λ (y : InstanceView). module_named design y.target) ys = cc in
            statements-noted row ys zs rest r.1 (met-later x row met)

      -- an entry is right where those of the modules below it are
      entry-right : (t : List (Option ℕ)) (i : ℕ) (m : ModuleView) → i < length order → HasBelow (take i order) t → slice_get design.modules (get_or order i 0) ≡ Some m
          → below_by (seen_of texts n l templates) t (slice_index_or templates (get_or order i 0) no_template) ≡ option_map capped (below (get_or order i 0))
      entry-right t i m low before at =
          let key : ℕ = get_or order i 0 in
          let tp = template-at design design.modules templates (get_or order i 0) m are at in
          let row = row-is (get_or order i 0) m at in
          let reads : (b : ℕ) → Contains (children_of row.0) b → Reads (children rows) (get_or order i 0) b = λ b c. subst (λ ks. Contains ks b) (sym ((row-at rows (get_or order i 0) row.0 row.1).0)) c in
          ap (below_by (seen_of texts n l templates) t) (get-some templates (get_or order i 0) no_template tp.template tp.at)
          ∙ statements-noted m t row.0 m.instances tp.template.statements row.2 tp.is.statements (λ b k c there. before b k (reads-met (children rows) order resolved.ordered i low b (reads b c)) there)
          ∙ ap (option_map capped) (sym (known (get_or order i 0) m tp.template at tp.at))

      step : (t : List (Option ℕ)) (i : ℕ) → i < length order → length t ≡ length templates → HasBelow (take i order) t → HasBelow (take (i + 1) order) (note (seen_of texts n l templates) templates t (get_or order i 0))
      step t i low many before = λ k m c at.
          let new = below_by (seen_of texts n l templates) t (slice_index_or templates (get_or order i 0) no_template) in
          elim (cases_eq k (get_or order i 0)) [
            | inl same ↦
                let here : slice_get design.modules (get_or order i 0) ≡ Some m = subst (λ x. slice_get design.modules x ≡ Some m) same at in
                let within : get_or order i 0 < length t = subst (λ s. get_or order i 0 < s) (sym many) (let tp = template-at design design.modules templates (get_or order i 0) m are here in get-within templates (get_or order i 0) tp.template tp.at) in
                ap (λ x. get_or (set t (get_or order i 0) (below_by (seen_of texts n l templates) t (slice_index_or templates (get_or order i 0) no_template))) x None) same
                ∙ get_or-set_same t (get_or order i 0) (below_by (seen_of texts n l templates) t (slice_index_or templates (get_or order i 0) no_template)) None within
                ∙ entry-right t i m low before here
                ∙ ap (λ x. option_map capped (below x)) (sym same)
            | inr other ↦
                get_or-set_other t (get_or order i 0) k (below_by (seen_of texts n l templates) t (slice_index_or templates (get_or order i 0) no_template)) None other
                ∙ before k m (met-before order i k low c other) at
          ]

      pub noted-upto : (i : ℕ) → i ≤ length order → HasBelow (take i order) (note_all (seen_of texts n l templates) templates (replicate (length templates) None) (take i order))
      noted-upto zero low = λ k m c at. absurd (omega (arith, c.1))
      noted-upto (suc i) low =
          let before = noted-upto i (omega (arith, low)) in
          let t : List (Option ℕ) = note_all (seen_of texts n l templates) templates (replicate (length templates) None) (take i order) in
          let many : length t ≡ length templates = notes-length (seen_of texts n l templates) templates (replicate (length templates) None) (take i order) ∙ length-replicate (length templates) None in
          let size : i + 1 ≡ suc i = omega arith in
          subst (λ j. HasBelow (take j order) (note_all (seen_of texts n l templates) templates (replicate (length templates) None) (take j order))) size
          (subst (λ (u : List (Option ℕ)). HasBelow (take (i + 1) order) u) (sym (note-next (seen_of texts n l templates) templates (replicate (length templates) None) order i (omega (arith, low)))) (step t i (omega (arith, low)) many before))

      pub table-is : (k : ℕ) (m : ModuleView) → slice_get design.modules k ≡ Some m → slice_index_or (table_of (seen_of texts n l templates) templates order) k None ≡ option_map capped (below k)
      table-is k m at =
          ap (λ ks. slice_index_or (note_all (seen_of texts n l templates) templates (replicate (length templates) None) ks) k None) (sym (take_all (length order) order (omega arith)))
          ∙ noted-upto (length order) (omega arith) k m (all-met (children rows) order resolved.ordered (length order) (omega arith) k (let row = row-is k m at in (row-at rows k row.0 row.1).1)) at
