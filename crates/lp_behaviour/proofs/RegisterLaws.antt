-- Laws of registers.
use Rattle.std.proofs.Common.{◌≡◌, ◌≢◌, Bool, true, false, not, cond, List, [], ◌∷◌, Some, None, refl, ap, ◌∙◌, eqb, ne_eqb, eq-eqb}
use Rattle.lp_tern.specs.declared.tern.Tern.{Tern}
use Rattle.lp_tern.specs.declared.tern.Tern.TheVariants.{Zero, One, X}
use Rattle.lp_tern.specs.Values.{choose_of, rise_of}
use Rattle.lp_expr.specs.declared.step.Step.TheVariants.{Variable, And}
use Rattle.lp_expr.specs.Formula.{Formula, value_of}
use Rattle.lp_model.specs.declared.library.Cell.{Cell}
use Rattle.lp_model.specs.declared.library.StateGroup.{StateGroup}
use Rattle.lp_model.specs.declared.library.StateKind.{StateKind}
use Rattle.lp_model.specs.declared.library.StateKind.TheVariants.{Flop, Latch}
use Rattle.lp_behaviour.specs.Signals.{known, at_place, input_place, signal_value, state_value}
use Rattle.lp_behaviour.specs.Functions.{function_value, variable_values}
use Rattle.lp_behaviour.specs.Registers.{forced_of, loaded_by, group_next, next_if_any, next_value}
use Rattle.lp_behaviour.proofs.Replacing.{by_bit}

-- a cell's next state is that of its state group
next-group : (cell : Cell) (g : StateGroup) (last now : List Tern) (q : Tern) → cell.state ≡ Some g → next_value cell last now q ≡ group_next cell g last now q
next-group cell g last now q has = ap (λ s. next_if_any cell s last now q) has

loaded-kind : (k : StateKind) (cell : Cell) (g : StateGroup) (last now : List Tern) (q : Tern) → g.kind ≡ k → loaded_by g.kind cell g last now q ≡ loaded_by k cell g last now q
loaded-kind k cell g last now q is = ap (λ kind. loaded_by kind cell g last now q) is

unforced : (c p e : Tern) → c ≡ Zero → p ≡ Zero → forced_of c p e ≡ e
unforced c p e no_clear no_preset = rw (no_clear, no_preset) refl

still : (bit : Bool) → rise_of (known bit) (known bit) ≡ Zero
still true = refl
still false = refl

pub still_flop : (cell : Cell) (g : StateGroup) (last now : List Tern) (q : Tern) (bit : Bool)
    → cell.state ≡ Some g → g.kind ≡ Flop
    → function_value cell last q g.clock ≡ known bit → function_value cell now q g.clock ≡ known bit
    → function_value cell now q g.clear ≡ Zero → function_value cell now q g.preset ≡ Zero
    → next_value cell last now q ≡ q
still_flop cell g last now q bit has flop before after clear preset =
    next-group cell g last now q has
    ∙ unforced (function_value cell now q g.clear) (function_value cell now q g.preset) (loaded_by g.kind cell g last now q) clear preset
    ∙ loaded-kind Flop cell g last now q flop
    ∙ ap (λ a. choose_of (rise_of a (function_value cell now q g.clock)) (function_value cell last q g.next) q) before
    ∙ ap (λ b. choose_of (rise_of (known bit) b) (function_value cell last q g.next) q) after
    ∙ ap (λ r. choose_of r (function_value cell last q g.next) q) (still bit)

pub disabled_latch : (cell : Cell) (g : StateGroup) (last now : List Tern) (q : Tern)
    → cell.state ≡ Some g → g.kind ≡ Latch
    → function_value cell now q g.clock ≡ Zero
    → function_value cell now q g.clear ≡ Zero → function_value cell now q g.preset ≡ Zero
    → next_value cell last now q ≡ q
disabled_latch cell g last now q has latch disabled clear preset =
    next-group cell g last now q has
    ∙ unforced (function_value cell now q g.clear) (function_value cell now q g.preset) (loaded_by g.kind cell g last now q) clear preset
    ∙ loaded-kind Latch cell g last now q latch
    ∙ ap (λ c. choose_of c (function_value cell now q g.next) q) disabled

pub cleared : (cell : Cell) (g : StateGroup) (last now : List Tern) (q : Tern)
    → cell.state ≡ Some g
    → function_value cell now q g.clear ≡ One → function_value cell now q g.preset ≡ Zero
    → next_value cell last now q ≡ Zero
cleared cell g last now q has clear preset =
    next-group cell g last now q has
    ∙ ap (λ c. forced_of c (function_value cell now q g.preset) (loaded_by g.kind cell g last now q)) clear
    ∙ ap (λ p. forced_of One p (loaded_by g.kind cell g last now q)) preset

-- the state's own names
module _ (cell : Cell) (g : StateGroup) (pins : List Tern) (bit : Bool) where
  at-var : cell.state ≡ Some g → input_place cell.pins g.var ≡ None → signal_value cell pins bit g.var ≡ known bit
  at-var has none =
      ap (λ p. at_place pins p (state_value cell.state bit g.var)) none
      ∙ ap (λ s. state_value s bit g.var) has
      ∙ ap (λ b. cond b (known bit) (cond (eqb g.inverse.0 g.var.0) (known (not bit)) X)) (eq-eqb g.var.0 g.var.0 refl)

  at-inverse : cell.state ≡ Some g → g.var.0 ≢ g.inverse.0 → input_place cell.pins g.inverse ≡ None → signal_value cell pins bit g.inverse ≡ known (not bit)
  at-inverse has apart none =
      ap (λ p. at_place pins p (state_value cell.state bit g.inverse)) none
      ∙ ap (λ s. state_value s bit g.inverse) has
      ∙ ap (λ b. cond b (known bit) (cond (eqb g.inverse.0 g.inverse.0) (known (not bit)) X)) (ne_eqb g.var.0 g.inverse.0 apart)
      ∙ ap (λ b. cond b (known (not bit)) X) (eq-eqb g.inverse.0 g.inverse.0 refl)

abbrev both : StateGroup → Formula
both g = record { variables = g.var ∷ g.inverse ∷ []; steps = Variable 0 ∷ Variable 1 ∷ And ∷ [] }

both-is : (a b : Tern) (bit : Bool) (g : StateGroup) → a ≡ known bit → b ≡ known (not bit) → value_of (both g) (a ∷ b ∷ []) ≡ Zero
both-is a b true g p q = rw (p, q) refl
both-is a b false g p q = rw (p, q) refl

either : (state a b : Tern) → a ≡ Zero → b ≡ Zero → choose_of state a b ≡ Zero
either Zero a b p q = q
either One a b p q = p
either X a b p q = rw (p, q) refl

pub never_both : (cell : Cell) (g : StateGroup) (pins : List Tern) (state : Tern)
    → cell.state ≡ Some g → g.var.0 ≢ g.inverse.0
    → input_place cell.pins g.var ≡ None → input_place cell.pins g.inverse ≡ None
    → function_value cell pins state (both g) ≡ Zero
never_both cell g pins state has apart no_pin no_inverse_pin =
    let at : (bit : Bool) → value_of (both g) (variable_values cell pins bit (both g)) ≡ Zero =
    λ bit. both-is (signal_value cell pins bit g.var) (signal_value cell pins bit g.inverse) bit g (at-var cell g pins bit has no_pin) (at-inverse cell g pins bit has apart no_inverse_pin) in
    by_bit cell pins state (both g)
    ∙ either state (value_of (both g) (variable_values cell pins true (both g))) (value_of (both g) (variable_values cell pins false (both g))) (at true) (at false)
