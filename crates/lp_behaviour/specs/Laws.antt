-- The statements of the laws of this crate (own rule).
use Rattle.std.specs.Prelude.{◌≡◌, ◌≢◌, ◌↔◌, All, Bool, true, false, List, [], ◌∷◌, Some, None}
use Rattle.lp_tern.specs.declared.tern.Tern.{Tern}
use Rattle.lp_tern.specs.declared.tern.Tern.TheVariants.{Zero, One, X}
use Rattle.lp_tern.specs.Values.{choose_of}
use Rattle.lp_expr.specs.declared.step.Step.TheVariants.{Variable, And}
use Rattle.lp_expr.specs.Formula.{Formula, truth, value_of}
use Rattle.lp_expr.specs.Replaces.{Keeps, Replaces}
use Rattle.lp_model.specs.declared.library.Cell.{Cell}
use Rattle.lp_model.specs.declared.library.StateGroup.{StateGroup}
use Rattle.lp_model.specs.declared.library.StateKind.TheVariants.{Flop, Latch}
use Rattle.lp_behaviour.specs.Signals.{at_place, known, input_place}
use Rattle.lp_behaviour.specs.Functions.{function_value, variable_values}
use Rattle.lp_behaviour.specs.Registers.{next_value}

-- where the state is unknown, a function has the value that it has at both bits of the state
abbrev pub ValueByBit : Type 0
ValueByBit =
    (cell : Cell) (pins : List Tern) (state : Tern) (e : Formula)
    → function_value cell pins state e ≡ choose_of state (value_of e (variable_values cell pins true e)) (value_of e (variable_values cell pins false e))

-- the state variable and its inverse are never both 1: `IQ * IQN` is 0 in every state
abbrev pub InverseIsComplement : Type 0
InverseIsComplement =
    (cell : Cell) (g : StateGroup) (pins : List Tern) (state : Tern)
    → cell.state ≡ Some g → g.var.0 ≢ g.inverse.0 → input_place cell.pins g.var ≡ None
    → input_place cell.pins g.inverse ≡ None
    → function_value cell pins state (record { variables = g.var ∷ g.inverse ∷ []; steps = Variable 0 ∷ Variable 1 ∷ And ∷ [] })
    ≡ Zero

-- a flop whose clock stays keeps its state, where clear and preset are 0
abbrev pub StillFlopKeeps : Type 0
StillFlopKeeps =
    (cell : Cell) (g : StateGroup) (last now : List Tern) (q : Tern) (bit : Bool)
    → cell.state ≡ Some g → g.kind ≡ Flop → function_value cell last q g.clock ≡ known bit
    → function_value cell now q g.clock ≡ known bit → function_value cell now q g.clear ≡ Zero
    → function_value cell now q g.preset ≡ Zero → next_value cell last now q ≡ q

-- a latch whose enable is 0 keeps its state, where clear and preset are 0
abbrev pub DisabledLatchKeeps : Type 0
DisabledLatchKeeps =
    (cell : Cell) (g : StateGroup) (last now : List Tern) (q : Tern)
    → cell.state ≡ Some g → g.kind ≡ Latch → function_value cell now q g.clock ≡ Zero
    → function_value cell now q g.clear ≡ Zero → function_value cell now q g.preset ≡ Zero
    → next_value cell last now q ≡ q

-- with clear 1 and preset 0 the state becomes 0, whatever comes in
abbrev pub ClearedIsZero : Type 0
ClearedIsZero =
    (cell : Cell) (g : StateGroup) (last now : List Tern) (q : Tern)
    → cell.state ≡ Some g → function_value cell now q g.clear ≡ One
    → function_value cell now q g.preset ≡ Zero → next_value cell last now q ≡ Zero

-- a function is 1 exactly where every replacement of unknown pins and of the one state bit makes it true
abbrev pub AlwaysTrue : Type 0
AlwaysTrue =
    (cell : Cell) (pins : List Tern) (state : Tern) (e : Formula)
    → (function_value cell pins state e ≡ One)
    ↔ ((bit : Bool) (c : List Bool) → Keeps state bit → Replaces (variable_values cell pins bit e) c → truth e.steps c ≡ true)

-- a function is 0 exactly where every replacement of unknown pins and of the one state bit makes it false
abbrev pub AlwaysFalse : Type 0
AlwaysFalse =
    (cell : Cell) (pins : List Tern) (state : Tern) (e : Formula)
    → (function_value cell pins state e ≡ Zero)
    ↔ ((bit : Bool) (c : List Bool) → Keeps state bit → Replaces (variable_values cell pins bit e) c → truth e.steps c ≡ false)

-- a function depends on the values of the pins that it names alone
abbrev pub NamedPinsDecide : Type 0
NamedPinsDecide =
    (cell : Cell) (a b : List Tern) (state : Tern) (e : Formula)
    → All (λ name. at_place a (input_place cell.pins name) X ≡ at_place b (input_place cell.pins name) X) e.variables
    → function_value cell a state e ≡ function_value cell b state e
