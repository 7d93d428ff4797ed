-- What the pins of a retention register read: its controls at its retention pins, and the pins of the source's cell (Liberty retention_cell, retention_pin; IEEE 1801-2015 set_retention).
use Rattle.std.specs.Prelude.{◌≡◌, true}
use Rattle.lp_tern.specs.declared.tern.Tern.{Tern}
use Rattle.lp_model.specs.declared.library.PinUse.{PinUse}
use Rattle.lp_model.specs.declared.library.PinUse.TheVariants.{Retain}
use Rattle.lp_model.specs.declared.library.RetClass.TheVariants.{Save, Restore, Both}
use Rattle.lp_model.specs.LibraryView.{PinView, CellView}
use Rattle.lp_spec_design.specs.Keys.{Name}
use Rattle.lp_spec_design.specs.Winners.{IsIn}
use Rattle.lp_spec_pins.specs.Pins.{is_input_pin}
use Rattle.lp_spec_fit.specs.Needs.{RegisterNeed}
use Rattle.lp_spec_fit.specs.Fits.{retention_pins}

-- the values of the save and the restore control before an event and in it
pub record Controls : Type 0 where
  pub save_before : Tern
  pub save_now : Tern
  pub restore_before : Tern
  pub restore_now : Tern

-- what a retention pin reads before and now, by its class: one that saves and restores has the save control
abbrev pub ReadsControl : Controls → PinUse → Tern → Tern → Type 0
ReadsControl k (Retain Save save restore) last now = (last ≡ k.save_before) × (now ≡ k.save_now)
ReadsControl k (Retain Restore save restore) last now = (last ≡ k.restore_before) × (now ≡ k.restore_now)
ReadsControl k (Retain Both save restore) last now = (last ≡ k.save_before) × (now ≡ k.save_now)
ReadsControl k _ last now = Unit {0}

-- the retention pins of a cell read the controls, which are one where one net bit saves and restores
pub record ReadsControls (n : RegisterNeed) (c : CellView) (k : Controls) (last now : Name → Tern) : Type 0 where
  pub pins : (q : PinView) → IsIn q (retention_pins c) → ReadsControl k q.use_of (last q.name) (now q.name)
  pub one : n.one_signal ≡ true → (k.save_before ≡ k.restore_before) × (k.save_now ≡ k.restore_now)

-- values of names that are the same at the input pins of a cell
abbrev pub SameInputs : CellView → (Name → Tern) → (Name → Tern) → Type 0
SameInputs c f g = (q : PinView) → IsIn q c.pins → is_input_pin q ≡ true → f q.name ≡ g q.name
