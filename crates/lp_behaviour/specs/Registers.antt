-- The next state of a cell (Liberty ff and latch), and what retention makes of it (own rule, after IEEE 1801-2015 set_retention).
use Rattle.std.specs.Prelude.{List, Option, Some, None}
use Rattle.lp_tern.specs.declared.tern.Tern.{Tern}
use Rattle.lp_tern.specs.declared.tern.Tern.TheVariants.{Zero, One, X}
use Rattle.lp_tern.specs.Values.{choose_of, negate_of, rise_of}
use Rattle.lp_model.specs.declared.library.Cell.{Cell}
use Rattle.lp_model.specs.declared.library.StateGroup.{StateGroup}
use Rattle.lp_model.specs.declared.library.StateKind.{StateKind}
use Rattle.lp_model.specs.declared.library.StateKind.TheVariants.{Flop, Latch}
use Rattle.lp_model.specs.declared.library.Action.{Action}
use Rattle.lp_model.specs.declared.library.Action.TheVariants.{High, Low, Rise, Fall}
use Rattle.lp_behaviour.specs.Functions.{function_value}

-- what a clock and data, each before the event and in it, make of the state: a flop takes the data from before its clock rose, a latch the data while it is enabled
abbrev pub loaded_of : StateKind → Tern → Tern → Tern → Tern → Tern → Tern
loaded_of Flop last_clock now_clock last_data now_data q = choose_of (rise_of last_clock now_clock) last_data q
loaded_of Latch last_clock now_clock last_data now_data q = choose_of now_clock now_data q

abbrev pub loaded_by : StateKind → Cell → StateGroup → List Tern → List Tern → Tern → Tern
loaded_by kind cell g last now q = loaded_of kind (function_value cell last q g.clock) (function_value cell now q g.clock) (function_value cell last q g.next) (function_value cell now q g.next) q

-- what clear and preset make of a value: one of them has to be 0
abbrev pub forced_of : Tern → Tern → Tern → Tern
forced_of Zero Zero e = e
forced_of clear Zero e = choose_of clear Zero e
forced_of Zero preset e = choose_of preset One e
forced_of clear preset e = X

abbrev pub group_next : Cell → StateGroup → List Tern → List Tern → Tern → Tern
group_next cell g last now q =
    forced_of (function_value cell now q g.clear) (function_value cell now q g.preset) (loaded_by g.kind cell g last now q)

abbrev pub next_if_any : Cell → Option StateGroup → List Tern → List Tern → Tern → Tern
next_if_any cell None last now q = X
next_if_any cell (Some g) last now q = group_next cell g last now q

-- the state after the present event: from the values of the pins before it and in it, and from the state during it;
-- X where the cell has no state
abbrev pub next_value : Cell → List Tern → List Tern → Tern → Tern
next_value cell last now q = next_if_any cell cell.state last now q

-- whether an action takes place, from the control before the event and in it
abbrev pub fires_of : Action → Tern → Tern → Tern
fires_of High last now = now
fires_of Low last now = negate_of now
fires_of Rise last now = rise_of last now
fires_of Fall last now = rise_of (negate_of last) (negate_of now)

-- the main state after a restore of the saved copy v, which the other result would have been without
abbrev pub main_of : Tern → Tern → Tern → Tern
main_of restore v result = choose_of restore v result

-- the saved copy, v before, after a save of the visible state
abbrev pub copy_of : Tern → Tern → Tern → Tern
copy_of save visible v = choose_of save visible v
