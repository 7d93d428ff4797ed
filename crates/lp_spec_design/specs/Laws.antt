-- The statements of the laws about operators, winners and what is lost (own rule).
use Rattle.std.specs.Prelude.{◌≡◌, ◌∷◌, [], ℕ, List, Option, Some, None, false, true, slice_get}
use Rattle.lp_tern.specs.declared.tern.Tern.{Tern}
use Rattle.lp_tern.specs.declared.tern.Tern.TheVariants.{One, X}
use Rattle.lp_model.specs.declared.side.Side.{Side}
use Rattle.lp_model.specs.declared.intent.StrategyKind.{StrategyKind}
use Rattle.lp_behaviour.specs.Signals.{known}
use Rattle.lp_spec_design.specs.Intents.{SetNumber, Strategy, Intent, Network}
use Rattle.lp_spec_design.specs.Winners.{Crossing, IsIn, applying, rank, winner}
use Rattle.lp_spec_design.specs.Chains.{Operator, Clamp, by_rule, clamp_of, part, rail_after, target}
use Rattle.lp_spec_design.specs.Keys.{Node}
use Rattle.lp_spec_design.specs.Settled.{Assignment, Design, Event, Registers, rail_of, SettlesIntent, active, at, set_on, through}
use Rattle.lp_spec_design.specs.Nodes.{HasFuel}

-- a winner is the only strategy of its rank among those of its kind that apply to the side
abbrev pub WinnerIsAlone : Type 0
WinnerIsAlone =
    (n : Network) (i : Intent) (kind : StrategyKind) (side : Side) (c : Crossing) (x y : ℕ × Strategy)
    → winner n i kind side c ≡ Some x → IsIn y (applying n i kind side c)
    → rank c.bit y.1 ≡ rank c.bit x.1 → y.0 ≡ x.0

-- a side without a clamp whose shifter is not wanted has no operator
abbrev pub UnwantedShifterStaysOut : Type 0
UnwantedShifterStaysOut =
    (n : Network) (iso : Option (ℕ × Strategy)) (t : ℕ × Strategy) (readers : List (Option SetNumber)) (a b : SetNumber)
    → clamp_of iso ≡ None → target (Some t) readers ≡ Some b
    → by_rule n t.1.rule t.1.threshold a b ≡ false → part n iso (Some t) readers (Some a) ≡ []

-- a clamp whose supply is on and whose control is active gives its clamp value, whatever comes in
abbrev pub ActiveClampHolds : Type 0
ActiveClampHolds =
    (n : Network) (i : Intent) (A : Assignment) (v : Tern) (t : ℕ) (s : SetNumber) (k : Strategy)
    → slice_get i.strategies t ≡ Some k → active A k ≡ One → set_on n A (Some s) ≡ true
    → through n i A v (Clamp t s ∷ []) ≡ known k.clamp

-- what comes out of operators is X where the supply behind them is not on, if what came in is X where its supply is not on
abbrev pub LostBehindAnOffSupply : Type 0
LostBehindAnOffSupply =
    (n : Network) (i : Intent) (A : Assignment) (r : Option SetNumber) (v : Tern) (operators : List Operator)
    → (set_on n A r ≡ false → v ≡ X) → set_on n A (rail_after r operators) ≡ false
    → through n i A v operators ≡ X

-- a node whose rail is not on is X in every assignment that settles under intent
abbrev pub LostWhereTheRailIsOff : Type 0
LostWhereTheRailIsOff =
    (d : Design) (event : Event) (registers : Registers) (A : Assignment)
    → SettlesIntent d event registers A → HasFuel d.structure → (k : Node) (r : SetNumber)
    → rail_of d k ≡ Some r → set_on d.network A (Some r) ≡ false → at A k ≡ X
