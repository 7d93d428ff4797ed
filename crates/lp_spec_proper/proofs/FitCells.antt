-- Cells of the source switch nothing, registers with retention have cells that take their places, and operators have cells of one output.
use Rattle.std.proofs.Common.{◌≡◌, ℕ, Some, sym, ap, ◌∙◌, subst}
use Rattle.lp_model.specs.LibraryView.{CellView}
use Rattle.lp_spec_design.specs.Netlists.{Structure}
use Rattle.lp_spec_design.specs.Graph.{numbered}
use Rattle.lp_spec_design.specs.Winners.{IsIn}
use Rattle.lp_spec_design.proofs.Members.{of-some, of-numbered}
use Rattle.lp_spec_realises.specs.Projects.{Project}
use Rattle.lp_spec_realises.specs.Operators.{OperatorAt, all_operators, SwitchAt, all_switches}
use Rattle.lp_spec_realises.specs.Realises.{cell_of}
use Rattle.lp_spec_realises.specs.Implements.{Lists, operator_chosen, switch_chosen, register_chosen}
use Rattle.lp_spec_faultless.specs.Faults.{IsRead}
use Rattle.lp_spec_agreement.specs.Faultless.{IsSoundCell}
use Rattle.lp_spec_written.specs.Places.{Standing, standing, Kept, Switching, switching, cell_numbered, plan}
use Rattle.lp_spec_written.specs.Written.{additions}
use Rattle.lp_spec_written_at.proofs.Instances.{is-standing}
use Rattle.lp_spec_written_at.proofs.Modules.{cells-listed}
use Rattle.lp_spec_written_at.proofs.Stands.{is-switching}
use Rattle.lp_spec_driven.specs.Sound.{TakesPlace, HasFitCells}
use Rattle.lp_spec_proper.specs.Insertable.{IsInsertable, IsWithinLimits}
use Rattle.lp_spec_proper.proofs.Base.{is-free}
use Rattle.lp_spec_proper.proofs.Fitting.{pins-apart, not-switched, IsOperatorCell, takes-place}
use Rattle.lp_spec_proper.proofs.Cells.{is-kept, in-library, operator-chosen, register-chosen, operator-sound, register-sound, switch-sound, source-sound, source-nothing}

-- what stands is what was asked for
pub record IsPlanned (p : Project) (l : Lists) (o : Standing) : Type 0 where
  pub listed : IsIn o.asked (all_operators p)
  pub standing : standing p l o.asked ≡ Some o
  pub cell : cell_numbered p (operator_chosen p l o.path o.asked.operator) ≡ Some o.cell

pub is-planned : (p : Project) (l : Lists) (o : Standing) → IsIn o (plan p l).operators → IsPlanned p l o
is-planned p l o h =
    let found = of-some (standing p l) o (all_operators p) h in
    let is = is-standing p l found.0 o found.2 in
    record {
      listed = subst (λ q. IsIn q (all_operators p)) (sym is.asked) found.1;
      standing = ap (standing p l) is.asked ∙ found.2;
      cell = ap (λ (q : OperatorAt). cell_numbered p (operator_chosen p l o.path q.operator)) is.asked ∙ is.cell;
    }

pub record IsPlannedSwitch (p : Project) (l : Lists) (w : Switching) : Type 0 where
  pub listed : IsIn w.asked (all_switches p)
  pub path : w.path ≡ l.scope_of_switch w.asked.origin
  pub cell : cell_numbered p (switch_chosen p l w.asked) ≡ Some w.cell

pub is-planned-switch : (p : Project) (l : Lists) (w : Switching) → IsIn w (plan p l).switches → IsPlannedSwitch p l w
is-planned-switch p l w h =
    let found = of-some (switching p l) w (numbered 0 (all_switches p)) h in
    let is = is-switching p l found.0 w found.2 in
    record {
      listed = subst (λ q. IsIn q (all_switches p)) (sym is.asked) (of-numbered 0 found.0 (all_switches p) found.1);
      path = is.path ∙ ap (λ (q : SwitchAt). l.scope_of_switch q.origin) (sym is.asked);
      cell = ap (λ q. cell_numbered p (switch_chosen p l q)) is.asked ∙ is.cell;
    }

module _ (p : Project) (l : Lists) (switch_command : ℕ → ℕ) (read : IsRead p) (good : IsInsertable p l switch_command) (within : IsWithinLimits p l) where
  abbrev s : Structure
  s = p.structure

  operator-is : (o : Standing) → IsIn o (plan p l).operators → IsOperatorCell o.cell
  operator-is o h = operator-chosen p l o.path o.asked.operator o.cell (is-planned p l o h).cell

  pub sound-operator : (o : Standing) → IsIn o (plan p l).operators → IsSoundCell o.cell
  sound-operator o h = operator-sound p l switch_command read good o.path o.asked.operator o.cell (is-planned p l o h).cell

  pub sound-register : (k : Kept) → IsIn k (plan p l).registers → IsSoundCell k.cell
  sound-register k h = register-sound p l switch_command read good k.place k.cell (is-kept p l k h).cell

  pub sound-switch : (w : Switching) → IsIn w (plan p l).switches → IsSoundCell w.cell
  sound-switch w h = switch-sound p l switch_command read good w.asked w.cell (is-planned-switch p l w h).cell

  takes : (k : Kept) (c : CellView) → IsIn k (plan p l).registers → cell_of s k.place ≡ Some c → TakesPlace c k.cell
  takes k c h e =
      let fits = register-chosen p l k.place c k.cell e (is-kept p l k h).cell in
      subst (λ b. TakesPlace b k.cell) fits.1 (takes-place fits.0 k.cell (sound-register k h) fits.2)

  pub has-fit-cells : HasFitCells p (additions p l)
  has-fit-cells = record {
    free = is-free p l switch_command read good within;
    listed = cells-listed p l;
    operator_cells = λ o h. in-library p (operator_chosen p l o.path o.asked.operator) o.cell (is-planned p l o h).cell;
    register_cells = λ k h. in-library p (register_chosen p l k.place) k.cell (is-kept p l k h).cell;
    switch_cells = λ w h. in-library p (switch_chosen p l w.asked) w.cell (is-planned-switch p l w h).cell;
    few = within.few.operators;
    names = within.cell_names;
    operator_pins = λ o h. pins-apart o.cell (sound-operator o h);
    register_pins = λ k h. pins-apart k.cell (sound-register k h);
    switch_cell_pins = λ w h. pins-apart w.cell (sound-switch w h);
    source_pins = λ x m y c e h target. pins-apart c (source-sound p l switch_command read good x m y c e h target);
    sources = λ x m y c e h target. source-nothing p l switch_command read good x m y c e h target;
    registers = λ k c h e. takes k c h e;
    outputs = λ o h. (operator-is o h).output;
    operators = λ o h. not-switched o.cell (sound-operator o h) (operator-is o h).inner;
  }
