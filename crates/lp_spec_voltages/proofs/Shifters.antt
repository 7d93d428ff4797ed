-- A fitting shifter at its pins: it is never outside its type and ranges, and reads its data.
use Rattle.std.proofs.Common.{◌≡◌, ◌==◌, Bool, true, false, Option, Some, None, refl, sym, subst, ap, ◌∙◌}
use Rattle.std.specs.Prelude.{if◌then◌else◌}
use Rattle.std.proofs.lemmas.Bool.{eqb-true}
use Rattle.lp_model.specs.declared.library.Shifter.{Shifter}
use Rattle.lp_model.specs.declared.supply.SetOrigins.{SetOrigins}
use Rattle.lp_model.specs.LibraryView.{PinView, CellView}
use Rattle.lp_spec_design.specs.Keys.{Name, Path, Node}
use Rattle.lp_spec_design.specs.Settled.{Assignment, Event, state_of, node_at_pin}
use Rattle.lp_spec_pins.specs.Pins.{Powered, PinAssignment, Pair, signal_at, supply_of_node, driving, driving_pin, read_by, related, input_for, is_data, is_outside, outside_by, input_supply, is_unfit, is_unfit_at}
use Rattle.lp_spec_network.specs.Pairs.{pairs_of}
use Rattle.lp_spec_fit.specs.Joins.{shifter_joins}
use Rattle.lp_spec_fit.specs.Needs.{ShifterNeed}
use Rattle.lp_spec_realises.specs.Projects.{Project}
use Rattle.lp_spec_faults.specs.Lines.{first_of}
use Rattle.lp_spec_faults.specs.Supplies.{no_states}
use Rattle.lp_spec_voltages.specs.Voltages.{IsFedWithin, IsNeverUnder, StandsShifter}
use Rattle.lp_spec_voltages.proofs.Pairs.{pin-power}
use Rattle.lp_spec_voltages.proofs.Powers.{shifter-output-power, shifter-data-power}
use Rattle.lp_spec_voltages.proofs.Readings.{reads-node}
use Rattle.lp_spec_voltages.proofs.Together.{fitting-inside, shared-not_under, never-itself}

module _ (p : Project) (ev : Event) (A : Assignment) (h : IsFedWithin p ev A) (declared : first_of (no_states p.supplies) ≡ None)
    (w : Powered) (B : PinAssignment) (path : Path) (name : Name) (c : CellView) (x y : SetOrigins) (d q : PinView) (at : StandsShifter p A w B path name c x y d q) where
  need : ShifterNeed
  need = record { input = x; output = y; pairs = pairs_of p.supplies x.power.0 y.power.0; margin = p.margin; mapped = None }

  output-power : (related w B path name c q).power ≡ state_of A y.power.0
  unfolding need
  output-power = pin-power w B path name c (shifter_joins x y d q) (state_of A) at.joined q y.power.0 (shifter-output-power need c d q at.fits at.data_is at.output_is)

  data-power : (same : Bool) → (d.power == q.power) ≡ same → (related w B path name c d).power ≡ (if same then state_of A y.power.0 else state_of A x.power.0)
  unfolding need
  data-power true e =
      pin-power w B path name c (shifter_joins x y d q) (state_of A) at.joined d y.power.0
      (shifter-data-power need c d q at.fits at.data_is at.output_is at.powered ∙ ap (λ (b : Bool). if b then Some y.power.0 else Some x.power.0) e)
  data-power false e =
      pin-power w B path name c (shifter_joins x y d q) (state_of A) at.joined d x.power.0
      (shifter-data-power need c d q at.fits at.data_is at.output_is at.powered ∙ ap (λ (b : Bool). if b then Some y.power.0 else Some x.power.0) e)

  inside-by_powers : (f : Shifter) → c.roles.shifter ≡ Some f → (r t : Pair) → r.power ≡ state_of A x.power.0 → t.power ≡ state_of A y.power.0
      → is_outside f r t ≡ false
  inside-by_powers f is r t first second =
      (λ i. is_outside f (record { power = first i; gnd = r.gnd }) (record { power = second i; gnd = t.gnd }))
      ∙ fitting-inside p ev A h declared at.input at.output x y at.input_set at.output_set c f at.fits is r.gnd t.gnd

  pub never-unfit : ((r : Pair) → driving_pin w B (node_at_pin w.structure path name d.name) ≡ Some r → r.power ≡ state_of A x.power.0)
      → is_unfit w B path name c q ≡ false
  never-unfit driver = by c.roles.shifter refl
    where
      from-driver : (f : Shifter) → c.roles.shifter ≡ Some f → (found : Option Pair)
          → driving_pin w B (node_at_pin w.structure path name d.name) ≡ found → outside_by f found (related w B path name c q) ≡ false
      from-driver f is None e = refl
      from-driver f is (Some r) e = inside-by_powers f is r (related w B path name c q) (driver r e) output-power

      of-input : (f : Shifter) → c.roles.shifter ≡ Some f → (same : Bool) → (d.power == q.power) ≡ same
          → outside_by f (input_supply w B path name c d same) (related w B path name c q) ≡ false
      of-input f is true e = from-driver f is (driving_pin w B (node_at_pin w.structure path name d.name)) refl
      of-input f is false e = inside-by_powers f is (related w B path name c d) (related w B path name c q) (data-power false e) output-power

      by : (found : Option Shifter) → c.roles.shifter ≡ found → is_unfit_at w B path name c q found (input_for is_data c) ≡ false
      by None is = refl
      by (Some f) is = ap (is_unfit_at w B path name c q (Some f)) at.data_is ∙ of-input f is (d.power == q.power) refl

  pub reads-data : w.around.margin ≡ p.margin → (k : Node) → supply_of_node w k ≡ None
      → ((r : Pair) → driving w B k ≡ Some r → r.power ≡ state_of A x.power.0) → read_by w B k (related w B path name c d) ≡ signal_at B k
  reads-data margin k no_supply driver = by (d.power == q.power) refl
    where
      by : (same : Bool) → (d.power == q.power) ≡ same → read_by w B k (related w B path name c d) ≡ signal_at B k
      by true e =
          reads-node w B k (related w B path name c d) (state_of A x.power.0) (state_of A y.power.0)
          (subst (λ m. IsNeverUnder m (state_of A x.power.0) (state_of A y.power.0)) (sym margin)
          (shared-not_under p ev A h declared at.input at.output x y at.input_set at.output_set c d q at.fits at.data_is at.output_is (eqb-true d.power q.power e)))
          no_supply driver (data-power true e)
      by false e =
          reads-node w B k (related w B path name c d) (state_of A x.power.0) (state_of A x.power.0) (never-itself w.around.margin (state_of A x.power.0)) no_supply driver (data-power false e)
