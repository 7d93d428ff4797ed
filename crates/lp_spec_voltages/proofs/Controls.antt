-- No control is under what it controls.
use Rattle.std.proofs.Common.{◌≡◌, ◌⊎◌, ◌++◌, ℕ, List, Option, Some, None, inl, inr, sym, subst, ap}
use Rattle.std.specs.Prelude.{slice_get}
use Rattle.lp_model.specs.declared.library.Action.{Action}
use Rattle.lp_spec_design.specs.Keys.{Node}
use Rattle.lp_spec_design.specs.Instances.{Placed}
use Rattle.lp_spec_design.specs.Intents.{SetNumber, Strategy}
use Rattle.lp_spec_design.specs.Domains.{domain_of, primary_of}
use Rattle.lp_spec_design.specs.Winners.{IsIn}
use Rattle.lp_spec_design.specs.Chains.{Clamp}
use Rattle.lp_spec_design.specs.Registers.{retention}
use Rattle.lp_spec_design.specs.Settled.{Assignment, Event, state_of, rail_of}
use Rattle.lp_spec_design.proofs.Members.{in-left, in-right}
use Rattle.lp_spec_realises.specs.Projects.{Project, design_of}
use Rattle.lp_spec_realises.specs.Operators.{OperatorAt, all_operators, SwitchAt, all_switches}
use Rattle.lp_spec_realises.specs.Controls.{power_of}
use Rattle.lp_spec_faults.specs.Lines.{first_of}
use Rattle.lp_spec_faults.specs.Supplies.{no_states}
use Rattle.lp_spec_faults.specs.Strategies.{registers}
use Rattle.lp_spec_faults.specs.Readings.{SwitchAsks, ControlRead, control_read, node_of_signal, reads_of_register, control_level}
use Rattle.lp_spec_voltages.specs.Voltages.{IsFedWithin, power_state, IsNeverUnder}
use Rattle.lp_spec_voltages.proofs.Readings.{controls-not_under}
use Rattle.lp_spec_voltages.proofs.Asked.{read_of, read-in, enable-read, Retained, retained, register-read, switch-read}

module _ (p : Project) (ev : Event) (A : Assignment) (h : IsFedWithin p ev A) (declared : first_of (no_states p.supplies) ≡ None) (commands : ℕ → ℕ) (none : first_of (control_level p commands) ≡ None) where
  pub enable-not_under : (o : OperatorAt) (t : ℕ) (i : SetNumber) (y : Strategy) (k : Node) → IsIn o (all_operators p) → o.operator ≡ Clamp t i
      → slice_get p.intent.strategies t ≡ Some y → y.control ≡ Some k
      → IsNeverUnder p.margin (power_state p A (rail_of (design_of p) k)) (power_state p A (Some i))
  enable-not_under o t i y k among is found control = controls-not_under p ev A h declared commands none (read_of t k (power_of p (Some i))) (enable-read p commands o t i y k among is found control)

  pub switch-not_under : (w : SwitchAt) → IsIn w (all_switches p)
      → IsNeverUnder p.margin (power_state p A (rail_of (design_of p) w.control)) (state_of A w.input)
  switch-not_under w among = controls-not_under p ev A h declared commands none (record { asks = SwitchAsks w.origin; control = w.control; reader = Some w.input }) (switch-read p commands w among)

  -- one read of a register
  one-not_under : (a : Placed) (y : Strategy) (k : Node) (reader : Option SetNumber) → IsIn a (registers p) → (r : Retained p a y)
      → IsIn (read_of r.number k (power_of p reader)) (reads_of_register p r.number y) → IsNeverUnder p.margin (power_state p A (rail_of (design_of p) k)) (power_state p A reader)
  one-not_under a y k reader among r here = controls-not_under p ev A h declared commands none (read_of r.number k (power_of p reader)) (register-read p commands a y (read_of r.number k (power_of p reader)) among r here)

  signal-reads : (a : Placed) (y : Strategy) (k : Node) (action : Action) (r : Retained p a y) → (y.save ≡ Some (k, action)) ⊎ (y.restore ≡ Some (k, action))
      → IsIn (read_of r.number k (power_of p (primary_of p.intent (Some y.domain)))) (reads_of_register p r.number y) × IsIn (read_of r.number k (power_of p y.supply)) (reads_of_register p r.number y)
  signal-reads a y k action r (inl is) =
      let node : node_of_signal y.save ≡ Some k = ap node_of_signal is in (
        in-left (read_of r.number k primary) (control_read p r.number (node_of_signal y.save) primary) (control_read p r.number (node_of_signal y.save) kept ++ rest) (read-in p r.number k primary (node_of_signal y.save) node),
        in-right (read_of r.number k kept) (control_read p r.number (node_of_signal y.save) primary) (control_read p r.number (node_of_signal y.save) kept ++ rest)
            (in-left (read_of r.number k kept) (control_read p r.number (node_of_signal y.save) kept) rest (read-in p r.number k kept (node_of_signal y.save) node)),
      )
    where
      primary : Option ℕ
      primary = power_of p (primary_of p.intent (Some y.domain))

      kept : Option ℕ
      kept = power_of p y.supply

      rest : List ControlRead
      rest = control_read p r.number (node_of_signal y.restore) primary ++ control_read p r.number (node_of_signal y.restore) kept
  signal-reads a y k action r (inr is) =
      let node : node_of_signal y.restore ≡ Some k = ap node_of_signal is in (
        in-right (read_of r.number k primary) (control_read p r.number (node_of_signal y.save) primary) (control_read p r.number (node_of_signal y.save) kept ++ rest)
            (in-right (read_of r.number k primary) (control_read p r.number (node_of_signal y.save) kept) rest
            (in-left (read_of r.number k primary) (control_read p r.number (node_of_signal y.restore) primary) (control_read p r.number (node_of_signal y.restore) kept) (read-in p r.number k primary (node_of_signal y.restore) node))),
        in-right (read_of r.number k kept) (control_read p r.number (node_of_signal y.save) primary) (control_read p r.number (node_of_signal y.save) kept ++ rest)
            (in-right (read_of r.number k kept) (control_read p r.number (node_of_signal y.save) kept) rest
            (in-right (read_of r.number k kept) (control_read p r.number (node_of_signal y.restore) primary) (control_read p r.number (node_of_signal y.restore) kept) (read-in p r.number k kept (node_of_signal y.restore) node))),
      )
    where
      primary : Option ℕ
      primary = power_of p (primary_of p.intent (Some y.domain))

      kept : Option ℕ
      kept = power_of p y.supply

      rest : List ControlRead
      rest = control_read p r.number (node_of_signal y.restore) primary ++ control_read p r.number (node_of_signal y.restore) kept

  pub signal-not_under : (a : Placed) (y : Strategy) (k : Node) (action : Action) → IsIn a (registers p)
      → retention p.intent a.path a.instance ≡ Some y → (y.save ≡ Some (k, action)) ⊎ (y.restore ≡ Some (k, action))
      → IsNeverUnder p.margin (power_state p A (rail_of (design_of p) k)) (power_state p A (primary_of p.intent (domain_of p.intent a.path)))
      × IsNeverUnder p.margin (power_state p A (rail_of (design_of p) k)) (power_state p A y.supply)
  signal-not_under a y k action among is signal =
      let r = retained p a y is in
      let reads = signal-reads a y k action r signal in (
        subst (λ d. IsNeverUnder p.margin (power_state p A (rail_of (design_of p) k)) (power_state p A (primary_of p.intent d))) (sym r.domain) (one-not_under a y k (primary_of p.intent (Some y.domain)) among r reads.0),
        one-not_under a y k y.supply among r reads.1,
      )
