-- From the lines of the table of faults to a project of which the theorem of insertion speaks.
use Rattle.std.specs.Prelude.{slice_get}
use Rattle.std.specs.List.{list_any}
use Rattle.std.proofs.Common.{◌≡◌, ◌==◌, ◌||◌, ℕ, Bool, false, List, [], ◌∷◌, map, inl, inr, refl, sym, ap, ◌∙◌, subst}
use Rattle.std.proofs.lemmas.Bool.{eq-eqb}
use Rattle.lp_model.specs.declared.fault.netlist.NetlistLimit.TheVariants as limits
use Rattle.lp_spec_design.specs.Graph.{numbered}
use Rattle.lp_spec_design.specs.Intents.{Strategy}
use Rattle.lp_spec_design.specs.Netlists.{upward}
use Rattle.lp_spec_design.specs.Nodes.{DeclaresBits}
use Rattle.lp_spec_design.specs.Winners.{IsIn}
use Rattle.lp_spec_design.proofs.Members.{in-left, in-right, in-either, in-map, in-flat, of-map, of-flat, of-filter}
use Rattle.lp_spec_realises.specs.Projects.{Project}
use Rattle.lp_spec_realises.specs.Operators.{SwitchAt, all_switches}
use Rattle.lp_spec_realises.specs.Controls.{reads_too_low}
use Rattle.lp_spec_faults.specs.Order.{numbers_below, of_command, by_commands, in_command_order}
use Rattle.lp_spec_faults.specs.Modules.{netlist_limits}
use Rattle.lp_spec_faults.specs.Readings.{Asks, StrategyAsks, SwitchAsks, ControlRead, reads_of_strategy, reads_of_switch, all_asks, control_reads, control_level}
use Rattle.lp_spec_faults.proofs.Depth.{shallow}
use Rattle.lp_spec_faults.proofs.Loops.{ends}
use Rattle.lp_spec_faults.proofs.Ordered.{commands_same}
use Rattle.lp_spec_agreement.specs.Faultless.{IsFaultless}
use Rattle.lp_spec_agreement.proofs.Framed.{no_fault}
use Rattle.lp_spec_agreement.proofs.PinEnds.{in_filter}
use Rattle.lp_spec_faultless.specs.Faults.{IsRead, HasNoFault}
use Rattle.lp_spec_faultless.specs.Laws.{ControlsByAnyOrder, NoFaultIsFaultless}
use Rattle.lp_spec_faultless.proofs.Loops.{has_order}

-- ---- what commands made stands among what is ordered by commands

module _ {A : Type 0} where
  ordered_in : (all : List (ℕ × A)) (y : ℕ × A) → IsIn y all → IsIn y (by_commands all)
  ordered_in all y h =
      let mine : IsIn y (of_command all y.0) = in_filter (λ (x : ℕ × A). x.0 == y.0) all y h (eq-eqb y.0 y.0 refl) in
      (of-filter (λ (x : ℕ × A). x.0 == y.0) y (by_commands all) (subst (λ z. IsIn y z) (sym (commands_same all y.0)) mine)).0

  in_order : (all : List (ℕ × A)) (y : ℕ × A) → IsIn y (by_commands all) → IsIn y all
  in_order all y h =
      let k = of-flat (of_command all) y (upward (numbers_below all) 0) h in
      (of-filter (λ (x : ℕ × A). x.0 == k.0) y all k.2).0

-- ---- controls, by any order of the commands

abbrev reads_of : Project → Asks → List ControlRead
reads_of p (StrategyAsks t) = reads_of_strategy p t (slice_get p.intent.strategies t)
reads_of p (SwitchAsks o) = reads_of_switch o (all_switches p)

abbrev of_strategies : Project → List (ℕ × Asks)
of_strategies p = map (λ (t : ℕ × Strategy). (t.1.command, StrategyAsks t.0)) (numbered 0 p.intent.strategies)

abbrev of_switches : Project → (ℕ → ℕ) → List (ℕ × Asks)
of_switches p command = map (λ (x : SwitchAt). (command x.origin, SwitchAsks x.origin)) (all_switches p)

asks_again : (p : Project) (one other : ℕ → ℕ) (y : ℕ × Asks) → IsIn y (all_asks p other) → (k : ℕ) × IsIn (k, y.1) (all_asks p one)
asks_again p one other y h = elim (in-either y (of_strategies p) (of_switches p other) h) [
  | inl strategy ↦ (y.0, in-left y (of_strategies p) (of_switches p one) strategy)
  | inr switch ↦
      let x = of-map (λ (z : SwitchAt). (other z.origin, SwitchAsks z.origin)) y (all_switches p) switch in
      let again : IsIn (one x.0.origin, SwitchAsks x.0.origin) (of_switches p one) = in-map (λ (z : SwitchAt). (one z.origin, SwitchAsks z.origin)) x.0 (all_switches p) x.1 in
      (one x.0.origin, subst (λ (a : Asks). IsIn (one x.0.origin, a) (all_asks p one)) (sym (ap (λ (z : ℕ × Asks). z.1) x.2)) (in-right (one x.0.origin, SwitchAsks x.0.origin) (of_strategies p) (of_switches p one) again))
]

read_again : (p : Project) (one other : ℕ → ℕ) (x : ControlRead) → IsIn x (control_reads p other) → IsIn x (control_reads p one)
read_again p one other x h =
    let a = of-flat (reads_of p) x (in_command_order (all_asks p other)) h in
    let y = of-map (λ (z : ℕ × Asks). z.1) a.0 (by_commands (all_asks p other)) a.1 in
    let again = asks_again p one other y.0 (in_order (all_asks p other) y.0 y.1) in
    let there : IsIn y.0.1 (in_command_order (all_asks p one)) = in-map (λ (z : ℕ × Asks). z.1) (again.0, y.0.1) (by_commands (all_asks p one)) (ordered_in (all_asks p one) (again.0, y.0.1) again.1) in
    in-flat (reads_of p) a.0 x (in_command_order (all_asks p one)) (subst (λ (z : Asks). IsIn z (in_command_order (all_asks p one))) (sym y.2) there) a.2

none_any : {A : Type 0} (t : A → Bool) (xs : List A) → ((x : A) → IsIn x xs → t x ≡ false) → list_any t xs ≡ false
none_any t [] none = refl
none_any t (x ∷ xs) none = ap (λ b. b || list_any t xs) (none x (inl refl)) ∙ none_any t xs (λ y h. none y (inr h))

pub controls_by_any_order : ControlsByAnyOrder
controls_by_any_order p one other e =
    ends (control_level p other)
    (none_any (λ (x : ControlRead). reads_too_low p x.control x.reader) (control_reads p other) (λ x h. no_fault (control_level p one) e x (read_again p one other x h)))

-- ---- the whole

module _ (p : Project) (switch_command : ℕ → ℕ) (read : IsRead p) (good : HasNoFault p switch_command) where
  pub declares : DeclaresBits p.structure
  declares = record {
    declared = read.netlist.declared;
    shallow = shallow p.structure (no_fault (netlist_limits p.structure) good.within_limits limits.Depth (inr (inr (inl refl))));
  }

  pub faultless : IsFaultless p
  faultless = record {
    names_apart = read.netlist.names_apart;
    declared = read.netlist.declared;
    within_limits = good.within_limits;
    cells_fit = good.cells_fit;
    no_wire_loop = good.no_wire_loop;
    order = has_order p declares read.network read.controls good.no_loop;
    network = read.network;
    states = good.states;
    unfit_power = good.unfit_power;
    levels = good.levels;
    control_levels = λ other. controls_by_any_order p switch_command other good.control_levels;
    library = read.library;
  }

pub no_fault_is_faultless : NoFaultIsFaultless
no_fault_is_faultless p switch_command read good = faultless p switch_command read good
