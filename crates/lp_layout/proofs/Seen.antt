-- What a walk leaves behind, in parts.
use Rattle.std.proofs.Common.{◌≡◌, ℕ, suc, ◌+◌, ◌≤◌, List, [], ◌∷◌, ◌++◌, length, drop, Option, Some, None, refl, sym, ap, ◌∙◌, arith, append_assoc, append-nil}
use Rattle.std.specs.Prelude.{map, flat_map, slice_get}
use Rattle.std.proofs.lemmas.List.{map-append, length-map, length-append}
use Rattle.lp_model.specs.declared.graph.Leaf.{Leaf}
use Rattle.lp_model.specs.declared.graph.PinNet.{PinNet}
use Rattle.lp_model.specs.declared.netlist.Module.{Module}
use Rattle.lp_spec_design.specs.Graph.{numbered}
use Rattle.lp_spec_bridge.specs.Kept.{pin_at_start}
use Rattle.lp_spec_layout.specs.Parts.{Statement, Template, statements_of}
use Rattle.lp_spec_layout.specs.Sites.{Site}
use Rattle.lp_spec_layout.specs.Walked.{walk_in, walk}
use Rattle.lp_spec_layout.specs.Leaves.{LeafSite, leaves_in, walk_leaves, leaf_rows, pin_rows}
use Rattle.lp_spec_layout.proofs.Lists.{flat-append}
use Rattle.lp_layout.specs.Held.{held_leaf, held_pin}
use Rattle.lp_layout.specs.Rows.{Seen, leaf_name, with_more, walked, visited}
use Rattle.lp_layout.proofs.Lists.{drop_at, drop_out, drop_past, get_behind}
use Rattle.lp_layout.specs.declared.site.Site as code
use Rattle.lp_layout.specs.Sites.{site_view, sites_view}
use Rattle.lp_layout.specs.Graph.{seen}
use Rattle.lp_spec_layout.specs.Walked.{sites_of}
use Rattle.lp_spec_layout.specs.Leaves.{leaf_sites_of}

rows-append : (name : ℕ → ℕ → ℕ) (n : ℕ) (xs ys : List LeafSite) → leaf_rows name n (xs ++ ys) ≡ leaf_rows name n xs ++ leaf_rows name (n + length (pin_rows xs)) ys
rows-append name n [] ys = let e : n ≡ n + 0 = omega arith in ap (λ z. leaf_rows name z ys) e
rows-append name n (x ∷ xs) ys =
    let first = length-append (map (pin_at_start x.start) x.cell.row) (pin_rows xs) in
    let row = length-map x.cell.row (pin_at_start x.start) in
    let e : (n + length x.cell.row) + length (pin_rows xs) ≡ n + length (pin_rows (x ∷ xs)) = omega (arith, first, row) in
    let head : Leaf = record { inst = record { 0 = x.inst }; name = record { 0 = name x.of x.place }; cell = record { 0 = x.cell.of }; start = n } in
    ap (λ z. head ∷ z) (rows-append name (n + length x.cell.row) xs ys)
    ∙ ap (λ z. head ∷ (leaf_rows name (n + length x.cell.row) xs ++ leaf_rows name z ys)) e

module _ (ms : List Module) where
  pub more_none : (w : Seen) → with_more ms w [] [] ≡ w
  more_none w = λ i. record { sites = append-nil w.sites i; leaves = append-nil w.leaves i; pins = append-nil w.pins i }

  pub more_twice : (w : Seen) (xs ys : List Site) (ls bs : List LeafSite) → with_more ms (with_more ms w xs ls) ys bs ≡ with_more ms w (xs ++ ys) (ls ++ bs)
  more_twice w xs ys ls bs =
      let name = leaf_name ms in
      let n = length w.pins in
      let size = length-append w.pins (map held_pin (pin_rows ls)) in
      let held = length-map (pin_rows ls) held_pin in
      let e : length (w.pins ++ map held_pin (pin_rows ls)) ≡ length w.pins + length (pin_rows ls) = omega (arith, size, held) in
      let leaves = append_assoc w.leaves (map held_leaf (leaf_rows name n ls)) (map held_leaf (leaf_rows name (length (w.pins ++ map held_pin (pin_rows ls))) bs))
      ∙ ap (λ z. w.leaves ++ (map held_leaf (leaf_rows name n ls) ++ map held_leaf (leaf_rows name z bs))) e
      ∙ ap (λ z. w.leaves ++ z) (sym (map-append held_leaf (leaf_rows name n ls) (leaf_rows name (n + length (pin_rows ls)) bs)) ∙ ap (map held_leaf) (sym (rows-append name n ls bs))) in
      let pins = append_assoc w.pins (map held_pin (pin_rows ls)) (map held_pin (pin_rows bs))
      ∙ ap (λ z. w.pins ++ z) (sym (map-append held_pin (pin_rows ls) (pin_rows bs)) ∙ ap (map held_pin) (sym (flat-append (λ (y : LeafSite). map (pin_at_start y.start) y.cell.row) ls bs))) in
      λ i. record { sites = append_assoc w.sites xs ys i; leaves = leaves i; pins = pins i }

  -- ---- a walk statement by statement

  module _ (templates : List Template) (d i : ℕ) (x : Site) where
    -- from a statement on
    abbrev pub sites_behind : ℕ → List Statement → List Site
    sites_behind k zs = flat_map (λ (z : ℕ × Statement). walk_in (walk templates d) i x z.0 z.1) (numbered k zs)

    abbrev pub leaves_behind : ℕ → List Statement → List LeafSite
    leaves_behind k zs = flat_map (λ (z : ℕ × Statement). leaves_in (walk_leaves templates d) i x z.0 z.1) (numbered k zs)

    abbrev pub behind : Seen → ℕ → List Statement → Seen
    behind w k zs = with_more ms w (sites_behind k zs) (leaves_behind k zs)

    -- one more statement
    pub statement_more : (w next : Seen) (zs : List Statement) (k : ℕ) (z : Statement) {goal : Seen} → slice_get zs k ≡ Some z → next ≡ visited ms templates d i x k (Some z) w
        → behind w k (drop k zs) ≡ goal → behind next (k + 1) (drop (k + 1) zs) ≡ goal
    statement_more w next zs k z at is e =
        let rest = drop (k + 1) zs in
        ap (λ v. behind v (k + 1) rest) is
        ∙ more_twice w (walk_in (walk templates d) i x k z) (sites_behind (k + 1) rest) (leaves_in (walk_leaves templates d) i x k z) (leaves_behind (k + 1) rest)
        ∙ ap (behind w k) (sym (drop_at zs k z at))
        ∙ e

    -- one more place, whether a statement is there or not
    pub place_more : (w next : Seen) (zs : List Statement) (k : ℕ) {goal : Seen} → next ≡ visited ms templates d i x k (slice_get zs k) w → behind w k (drop k zs) ≡ goal → behind next (k + 1) (drop (k + 1) zs) ≡ goal
    place_more w next zs k {goal = goal} is e = by (slice_get zs k) refl
      where
        by : (o : Option Statement) → slice_get zs k ≡ o → behind next (k + 1) (drop (k + 1) zs) ≡ goal
        by None r =
            ap (behind next (k + 1)) (drop_out zs (k + 1) (get_behind zs k r))
            ∙ ap (λ v. with_more ms v [] []) (is ∙ ap (λ o. visited ms templates d i x k o w) r)
            ∙ ap (behind w k) (sym (drop_out zs k r))
            ∙ e
        by (Some z) r = statement_more w next zs k z r (is ∙ ap (λ o. visited ms templates d i x k o w) r) e

    -- the instance itself, then its statements
    pub site_first : (w : Seen) (zs : List Statement) → behind (record { sites = w.sites ++ x ∷ []; leaves = w.leaves; pins = w.pins }) 0 zs ≡ with_more ms w (x ∷ sites_behind 0 zs) (leaves_behind 0 zs)
    site_first w zs = λ j. record { sites = append_assoc w.sites (x ∷ []) (sites_behind 0 zs) j; leaves = w.leaves ++ map held_leaf (leaf_rows (leaf_name ms) (length w.pins) (leaves_behind 0 zs)); pins = w.pins ++ map held_pin (pin_rows (leaves_behind 0 zs)) }

    -- the whole of it, below a depth
    pub visit_begin : (depth : ℕ) (w next : Seen) (t : Template) → suc d ≡ depth → slice_get templates x.of ≡ Some t → next ≡ record { sites = w.sites ++ x ∷ []; leaves = w.leaves; pins = w.pins }
        → behind next 0 (drop 0 t.statements) ≡ walked ms templates depth i x w
    visit_begin depth w next t deep at is =
        ap (λ v. behind v 0 (drop 0 t.statements)) is
        ∙ site_first w t.statements
        ∙ ap (λ o. with_more ms w (x ∷ sites_behind 0 (statements_of o)) (leaves_behind 0 (statements_of o))) (sym at)
        ∙ ap (λ n. walked ms templates n i x w) deep

    pub visit_empty : (depth : ℕ) (w next : Seen) → suc d ≡ depth → slice_get templates x.of ≡ None → next ≡ record { sites = w.sites ++ x ∷ []; leaves = w.leaves; pins = w.pins }
        → next ≡ walked ms templates depth i x w
    visit_empty depth w next deep at is =
        is
        ∙ sym (more_none (record { sites = w.sites ++ x ∷ []; leaves = w.leaves; pins = w.pins }))
        ∙ site_first w []
        ∙ ap (λ o. with_more ms w (x ∷ sites_behind 0 (statements_of o)) (leaves_behind 0 (statements_of o))) (sym at)
        ∙ ap (λ n. walked ms templates n i x w) deep

    pub visit_end : (w : Seen) (zs : List Statement) (k : ℕ) {goal : Seen} → length zs ≤ k → behind w k (drop k zs) ≡ goal → w ≡ goal
    visit_end w zs k past e = sym (more_none w) ∙ ap (behind w k) (sym (drop_past zs k past)) ∙ e

  pub visit_none : (templates : List Template) (depth i : ℕ) (x : Site) (w : Seen) → depth ≡ 0 → w ≡ walked ms templates depth i x w
  visit_none templates depth i x w e = sym (more_none w) ∙ ap (λ n. walked ms templates n i x w) (sym e)

-- ---- the beginning and the end

abbrev pub seen-with : List Leaf → List PinNet → List Site → Seen
seen-with leaves pins sites = record { sites = sites; leaves = leaves; pins = pins }

pub site_pushed : (sites next : List code.Site) (x : code.Site) (leaves : List Leaf) (pins : List PinNet) → next ≡ sites ++ x ∷ [] → seen-with leaves pins (sites_view next) ≡ seen-with leaves pins (sites_view sites ++ site_view x ∷ [])
site_pushed sites next x leaves pins pushed = ap (seen-with leaves pins) (ap sites_view pushed ∙ map-append site_view sites (x ∷ []))

pub all_seen : (ms : List Module) (templates : List Template) (top : ℕ) → walked ms templates 64 0 (record { of = top; by = None; start = 0; leaf = 0 }) (record { sites = []; leaves = []; pins = [] }) ≡ seen ms templates top
unfolding sites_of leaf_sites_of
all_seen ms templates top = refl
