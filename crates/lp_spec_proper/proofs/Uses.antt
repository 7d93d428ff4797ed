-- Each use of a supply is of an origin of the network.
use Rattle.std.proofs.Common.{◌≡◌, ◌<◌, ℕ, List, ◌++◌, length, Option, Some, None, inl, inr, sym, subst}
use Rattle.std.specs.Prelude.{flat_map, option_and_then}
use Rattle.lp_model.specs.LibraryView.{PgPinView, CellView}
use Rattle.lp_spec_design.specs.Keys.{Name, Path}
use Rattle.lp_spec_design.specs.Instances.{Placed, cell_instances}
use Rattle.lp_spec_design.specs.Graph.{numbered}
use Rattle.lp_spec_design.specs.Winners.{IsIn}
use Rattle.lp_spec_design.proofs.Members.{in-either, of-flat, of-map, of-some}
use Rattle.lp_spec_design.proofs.Sources.{then_is}
use Rattle.lp_spec_fit.specs.Joins.{Joins}
use Rattle.lp_spec_realises.specs.Projects.{Project}
use Rattle.lp_spec_realises.specs.Realises.{joins_of_source, joins_of_operator, joins_of_switch}
use Rattle.lp_spec_realises.specs.Implements.{Lists}
use Rattle.lp_spec_faultless.specs.Faults.{IsRead}
use Rattle.lp_spec_written.specs.Places.{Standing, Switching, plan}
use Rattle.lp_spec_written.specs.Supplies.{joined_pins, cell_for, pins_of_cell, source_pins, operator_pins, switch_pins, Use, uses_at, uses}
use Rattle.lp_spec_proper.specs.Insertable.{IsInsertable, IsWithinLimits}
use Rattle.lp_spec_proper.specs.Laws.{IsOrigin, UsesAreOfOrigins}
use Rattle.lp_spec_proper.proofs.FitCells.{is-planned-switch}
use Rattle.lp_spec_proper.proofs.JoinedOrigins.{IsBelow, AreBelow, source_below, operator_below, switch_below}
use Rattle.lp_spec_proper.proofs.Owed.{origin-there}

module _ (n : ℕ) (c : CellView) where
  pin-below : (o : Option Joins) → AreBelow n o → (q : Name × ℕ) → IsIn q (joined_pins c o) → q.1 < n
  pin-below None below q h = absurd h
  pin-below (Some join) below q h =
      let g = of-some (λ (g : ℕ × PgPinView). option_and_then (λ o. Some (g.1.name, o)) (join g.0 g.1)) q (numbered 0 c.pgs) h in
      let o = then_is (λ o. Some (g.0.1.name, o)) (join g.0.0 g.0.1) q g.2 in
      let same : (g.0.1.name, o.0) ≡ q = inside (g.0.1.name, o.0) q o.2 in
      subst (λ (z : Name × ℕ). z.1 < n) same (subst (IsBelow n) o.1 (below g.0.0 g.0.1))
    where
      inside : (a b : Name × ℕ) → Some a ≡ Some b → a ≡ b
      inside a b e = cc

-- a use of pins below a number is below it
use-below : (n : ℕ) (x : Path) (pins : List (Name × ℕ)) → ((q : Name × ℕ) → IsIn q pins → q.1 < n) → (u : Use) → IsIn u (uses_at x pins) → u.1 < n
use-below n x pins below u h = let q = of-map (λ (q : Name × ℕ). (x, q.1)) u pins h in subst (λ (z : Use). z.1 < n) (sym q.2) (below q.0 q.1)

module _ (p : Project) (l : Lists) (switch_command : ℕ → ℕ) (read : IsRead p) (good : IsInsertable p l switch_command) (within : IsWithinLimits p l) where
  abbrev count : ℕ
  count = length p.supplies.origins

  source-by : (a : Placed) (o : Option CellView) (q : Name × ℕ) → IsIn q (pins_of_cell p a o) → q.1 < count
  source-by a None q h = absurd h
  source-by a (Some c) q h = pin-below count c (joins_of_source p a c) (source_below p read.network a c) q h

  of-cells : List Use
  of-cells = flat_map (λ (c : Placed). uses_at c.path (source_pins p (plan p l) c)) (cell_instances p.structure)

  of-operators : List Use
  of-operators = flat_map (λ (o : Standing). uses_at o.path (operator_pins p o)) (plan p l).operators

  of-switches : List Use
  of-switches = flat_map (λ (w : Switching). uses_at w.path (switch_pins p w)) (plan p l).switches

  below : (u : Use) → IsIn u (uses p (plan p l)) → u.1 < count
  unfolding of-cells of-operators of-switches
  below u h = elim (in-either u of-cells (of-operators ++ of-switches) h) [
    | inl l1 ↦
        let c = of-flat (λ (c : Placed). uses_at c.path (source_pins p (plan p l) c)) u (cell_instances p.structure) l1 in
        use-below count c.0.path (source_pins p (plan p l) c.0) (source-by c.0 (cell_for p (plan p l) c.0)) u c.2
    | inr r1 ↦ elim (in-either u of-operators of-switches r1) [
      | inl l2 ↦
          let o = of-flat (λ (o : Standing). uses_at o.path (operator_pins p o)) u (plan p l).operators l2 in
          use-below count o.0.path (operator_pins p o.0)
          (pin-below count o.0.cell (joins_of_operator p o.0.path o.0.asked.operator o.0.cell) (operator_below p read.network o.0.path o.0.asked.operator o.0.cell)) u o.2
      | inr r2 ↦
          let w = of-flat (λ (w : Switching). uses_at w.path (switch_pins p w)) u (plan p l).switches r2 in
          use-below count w.0.path (switch_pins p w.0)
          (pin-below count w.0.cell (joins_of_switch p w.0.asked w.0.cell) (switch_below p read.network w.0.asked (is-planned-switch p l w.0 w.1).listed w.0.cell)) u w.2
    ]
  ]

  use-there : (u : Use) → IsIn u (uses p (plan p l)) → IsOrigin p u.1
  use-there u h = origin-there p l switch_command read good within u.1 (below u h)

pub uses-there : UsesAreOfOrigins
uses-there p l switch_command read good within u h = use-there p l switch_command read good within u h
