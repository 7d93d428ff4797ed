-- The first place of a module's instance that is driven twice, from what is seen of the module.
use Rattle.std.proofs.Common.{◌≡◌, ◌<◌, ◌+◌, ℕ, zero, suc, min, Bool, true, List, [], ◌∷◌, ◌++◌, map, length, Some, sym, ap, ◌∙◌, arith}
use Rattle.std.specs.Prelude.{nat_lt, slice_get, slice_index_or}
use Rattle.std.specs.List.{list_all}
use Rattle.lp_model.specs.declared.library.Library.{Library}
use Rattle.lp_model.specs.declared.netlist.Module.{Module}
use Rattle.lp_model.specs.declared.netlist.Netlist.{Netlist}
use Rattle.lp_model.specs.LibraryView.{library_view}
use Rattle.lp_model.specs.NetlistView.{ModuleView}
use Rattle.lp_spec_design.specs.Graph.{numbered}
use Rattle.lp_spec_bridge.specs.Keyed.{IsApart}
use Rattle.lp_spec_bridge.specs.Named.{bits_of}
use Rattle.lp_spec_bridge.specs.Templates.{bits_in}
use Rattle.lp_spec_layout.specs.Parts.{Template}
use Rattle.lp_spec_layout.specs.Sites.{port_bits}
use Rattle.lp_spec_drivers.specs.Counts.{first_twice}
use Rattle.lp_spec_drivers.specs.Drivers.{inside_places, input_places, own_twice}
use Rattle.lp_spec_drivers.proofs.Least.{first-entered}
use Rattle.lp_spec_drivers.proofs.Entered.{top-apart}
use Rattle.lp_targets.specs.Structures.{structure_of}
use Rattle.lp_drivers.specs.Cells.{pins_driving, places_inside}
use Rattle.lp_drivers.specs.Seen.{Seen, none_seen, see_all, lower_all, known, twice_with}
use Rattle.lp_drivers.specs.Table.{most_bits, seen_at, seen_in, input_runs, own_on_top}
use Rattle.lp_drivers.proofs.Seeing.{keeps-none, keeps-all, with-outside}
use Rattle.lp_drivers.proofs.Joined.{get-some}
use Rattle.lp_drivers.proofs.Viewed.{module-at, inside-same, width-same, inputs-same}

-- ---- places

seen-from : (cells : List (List Bool)) (ms : List Module) (j : ℕ) (xs : List Template) (k : ℕ) (x : Template) → slice_get xs k ≡ Some x → slice_get (map (seen_at cells ms) (numbered j xs)) k ≡ Some (seen_at cells ms (j + k, x))
seen-from cells ms j [] k x e = cc
seen-from cells ms j (y ∷ xs) zero x e =
    let is : y ≡ x = cc in
    let place : j ≡ j + 0 = omega arith in
    λ i. Some (seen_at cells ms (place i, is i))
seen-from cells ms j (y ∷ xs) (suc k) x e =
    let place : (j + 1) + k ≡ j + suc k = omega arith in
    seen-from cells ms (j + 1) xs k x e ∙ ap (λ n. Some (seen_at cells ms (n, x))) place

-- ---- with places that are driven from outside

-- what was seen of all places, with some that are apart
twice-is : (w : ℕ) (inside entered : List ℕ) → IsApart entered → list_all (λ p. nat_lt p w) entered ≡ true → twice_with (see_all (none_seen w) inside) entered ≡ first_twice w (entered ++ inside)
twice-is w inside entered apart within =
    let m = see_all (none_seen w) inside in
    let kept = keeps-all w [] inside (none_seen w) (keeps-none w) in
    ap (λ n. known n (lower_all (see_all (none_seen w) inside).1 (see_all (none_seen w) inside).0 entered)) kept.size
    ∙ with-outside w inside (see_all (none_seen w) inside) kept entered within
    ∙ sym (first-entered w entered inside apart within)

module _ (texts : List (List ℕ)) (n : Netlist) (l : Library) (templates : List Template) where
  abbrev pub seen_of : List Seen
  seen_of = seen_in (map pins_driving l.cells) n.modules templates

  pub seen-is : (k : ℕ) (m : ModuleView) (x : Template) → slice_get (structure_of texts n l).modules k ≡ Some m → slice_get templates k ≡ Some x → length (bits_in m) < 4294967296
      → slice_get seen_of k ≡ Some (see_all (none_seen (length (bits_in m))) (inside_places (library_view texts l) (Some x)))
  seen-is k m x has at low =
      let place : 0 + k ≡ k = omega arith in
      let small : min most_bits (length (bits_in m)) ≡ length (bits_in m) = omega (arith, low) in
      seen-from (map pins_driving l.cells) n.modules 0 templates k x at
      ∙ ap (λ j. Some (seen_at (map pins_driving l.cells) n.modules (j, x))) place
      ∙ ap (λ w. Some (see_all (none_seen w) (places_inside (map pins_driving l.cells) x))) (width-same texts n.modules k m has ∙ small)
      ∙ ap (λ ps. Some (see_all (none_seen (length (bits_in m))) ps)) (inside-same texts l x)

  pub own-is : (k : ℕ) (m : ModuleView) (x : Template) (entered : List ℕ) → slice_get (structure_of texts n l).modules k ≡ Some m → slice_get templates k ≡ Some x → length (bits_in m) < 4294967296 → IsApart entered → list_all (λ p. nat_lt p (length (bits_in m))) entered ≡ true
      → twice_with (slice_index_or seen_of k (none_seen 0)) entered ≡ own_twice (structure_of texts n l) templates k entered
  own-is k m x entered has at low apart within =
      ap (λ y. twice_with y entered) (get-some seen_of k (none_seen 0) (see_all (none_seen (length (bits_in m))) (inside_places (library_view texts l) (Some x))) (seen-is k m x has at low))
      ∙ twice-is (length (bits_in m)) (inside_places (library_view texts l) (Some x)) entered apart within
      ∙ ap (λ o. first_twice (length (bits_in m)) (entered ++ inside_places (library_view texts l) o)) (sym at)
      ∙ ap (λ o. first_twice (length (bits_of o)) (entered ++ inside_places (library_view texts l) (slice_get templates k))) (sym has)

  -- the top has all its inputs from outside
  pub top-is : (k : ℕ) (m : ModuleView) (x : Template) → slice_get (structure_of texts n l).modules k ≡ Some m → slice_get templates k ≡ Some x → length (bits_in m) < 4294967296
      → own_on_top (slice_get seen_of k) (slice_get n.modules k) ≡ own_twice (structure_of texts n l) templates k (input_places (port_bits m))
  top-is k m x has at low =
      let apart = top-apart m in
      let source = module-at texts n.modules k m has in
      let inputs : input_runs 0 source.0.ports ≡ input_places (port_bits m) = inputs-same texts source.0 ∙ ap (λ (w : ModuleView). input_places (port_bits w)) source.2 in
      ap (λ o. own_on_top o (slice_get n.modules k)) (seen-is k m x has at low)
      ∙ ap (own_on_top (Some (see_all (none_seen (length (bits_in m))) (inside_places (library_view texts l) (Some x))))) source.1
      ∙ ap (twice_with (see_all (none_seen (length (bits_in m))) (inside_places (library_view texts l) (Some x)))) inputs
      ∙ twice-is (length (bits_in m)) (inside_places (library_view texts l) (Some x)) (input_places (port_bits m)) apart.0 apart.1
      ∙ ap (λ o. first_twice (length (bits_in m)) (input_places (port_bits m) ++ inside_places (library_view texts l) o)) (sym at)
      ∙ ap (λ o. first_twice (length (bits_of o)) (input_places (port_bits m) ++ inside_places (library_view texts l) (slice_get templates k))) (sym has)
