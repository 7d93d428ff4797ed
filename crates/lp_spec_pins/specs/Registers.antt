-- The states of registers after an event, by pins (Liberty ff, latch and retention_cell; own rule).
use Rattle.std.specs.Prelude.{Bool, Option, Some, None, option_and_then, is_some}
use Rattle.lp_tern.specs.declared.tern.Tern.{Tern}
use Rattle.lp_tern.specs.declared.tern.Tern.TheVariants.{Zero, X}
use Rattle.lp_model.specs.declared.library.Action.{Action}
use Rattle.lp_model.specs.declared.library.PinUse.{PinUse}
use Rattle.lp_model.specs.declared.library.PinUse.TheVariants.{Retain}
use Rattle.lp_model.specs.declared.library.RetClass.TheVariants.{Save, Restore, Both}
use Rattle.lp_model.specs.LibraryView.{ExprView, StateView, PinView, CellView}
use Rattle.lp_behaviour.specs.Registers.{fires_of, main_of, copy_of}
use Rattle.lp_spec_design.specs.Keys.{Name, Path}
use Rattle.lp_spec_design.specs.Netlists.{first, cell_at}
use Rattle.lp_spec_design.specs.Settled.{kept}
use Rattle.lp_spec_design.specs.Registers.{States, cell_after}
use Rattle.lp_spec_pins.specs.Pins.{Powered, PinAssignment, pins_read, is_up}

-- ---- retention pins

-- by class: a pin of class save only saves, and one of class restore only restores, whatever other action it bears (Liberty retention_pin)
abbrev pub save_of : PinUse → Option Action
save_of (Retain Save save restore) = save
save_of (Retain Both save restore) = save
save_of _ = None

abbrev pub restore_of : PinUse → Option Action
restore_of (Retain Restore save restore) = restore
restore_of (Retain Both save restore) = restore
restore_of _ = None

abbrev pub acting : (PinUse → Option Action) → CellView → Option PinView
acting action c = first (λ (q : PinView). is_some (action q.use_of)) c.pins

-- what the pins of a cell instance read before an event, if one went before; else every pin was X
abbrev pub read_before : Powered → Option PinAssignment → Path → Name → CellView → Name → Tern
read_before w None p x c v = X
read_before w (Some B) p x c v = pins_read w B p x c v

-- an action that a cell lacks does not take place
abbrev pub fires_by : Option Action → Tern → Tern → Tern
fires_by None last now = Zero
fires_by (Some action) last now = fires_of action last now

abbrev pub fires_at_pin : (PinUse → Option Action) → (Name → Tern) → (Name → Tern) → Option PinView → Tern
fires_at_pin action last now None = Zero
fires_at_pin action last now (Some q) = fires_by (action q.use_of) (last q.name) (now q.name)

-- whether a cell's pins save or restore
abbrev pub fires_in : (PinUse → Option Action) → CellView → (Name → Tern) → (Name → Tern) → Tern
fires_in action c last now = fires_at_pin action last now (acting action c)

-- ---- states

abbrev pub state_is_up : Powered → PinAssignment → Path → Name → CellView → Bool
state_is_up w B p x c = is_up w B p x c (option_and_then (λ (g : StateView). Some g.power_down) c.state)

abbrev pub copy_kept : Powered → PinAssignment → Path → Name → CellView → Tern → Tern
copy_kept w B p x c v = kept (is_up w B p x c c.roles.retention) v

abbrev pub restored_in : CellView → Option ExprView → (Name → Tern) → (Name → Tern) → Tern → Tern → Tern
restored_in c None last now v result = result
restored_in c (Some e) last now v result = main_of (fires_in restore_of c last now) v result

abbrev pub main_in : Powered → Option PinAssignment → PinAssignment → States → Path → Name → Option CellView → Tern
main_in w last B s p x None = X
main_in w last B s p x (Some c) =
    kept (state_is_up w B p x c)
    (restored_in c c.roles.retention (read_before w last p x c) (pins_read w B p x c) (copy_kept w B p x c (s.saved p x))
    (cell_after (Some c) (read_before w last p x c) (pins_read w B p x c) (s.main p x)))

abbrev pub saved_in : Powered → Option PinAssignment → PinAssignment → States → Path → Name → Option CellView → Tern
saved_in w last B s p x None = X
saved_in w last B s p x (Some c) =
    copy_kept w B p x c (copy_of (fires_in save_of c (read_before w last p x c) (pins_read w B p x c)) (kept (state_is_up w B p x c) (s.main p x)) (copy_kept w B p x c (s.saved p x)))

-- the states after an event, from what settled before it, if anything did, and what settles in it
abbrev pub states_after_by_pins : Powered → Option PinAssignment → PinAssignment → States → States
states_after_by_pins w last B s = record {
  main = λ p x. main_in w last B s p x (cell_at w.structure p x);
  saved = λ p x. saved_in w last B s p x (cell_at w.structure p x);
}
