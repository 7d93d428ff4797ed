-- Libraries by the texts of their names: what definitions and grammars speak of.
use Rattle.std.specs.Prelude.{◌≡◌, ℕ, Bool, true, List, ◌∷◌, ◌++◌, map, length, Option}
use Rattle.std.specs.List.{flat_map}
use Rattle.std.specs.Option.{option_map}
use Rattle.std.proofs.Common.{refl}
use Rattle.lp_text.specs.Texts.{text_at, Grown}
use Rattle.lp_expr.specs.declared.step.Step.{Step}
use Rattle.lp_expr.specs.Formula.{Formula}
use Rattle.lp_model.specs.Agreement.{numbers_below, option_numbers, name_numbers, name_texts, Agree, Agree-left, Agree-right, Agree-grown, map-same, option-same, names-same}
use Rattle.lp_model.specs.declared.netlist.Direction.{Direction}
use Rattle.lp_model.specs.declared.reason.Reason.{Reason}
use Rattle.lp_model.specs.declared.library.PgKind.{PgKind}
use Rattle.lp_model.specs.declared.library.PinUse.{PinUse}
use Rattle.lp_model.specs.declared.library.StateKind.{StateKind}
use Rattle.lp_model.specs.declared.library.Shifter.{Shifter}
use Rattle.lp_model.specs.declared.library.Switched.{Switched}
use Rattle.lp_model.specs.declared.library.PgPin.{PgPin}
use Rattle.lp_model.specs.declared.library.Pin.{Pin}
use Rattle.lp_model.specs.declared.library.StateGroup.{StateGroup}
use Rattle.lp_model.specs.declared.library.Roles.{Roles}
use Rattle.lp_model.specs.declared.library.Cell.{Cell}
use Rattle.lp_model.specs.declared.library.Library.{Library}

-- an expression: the names of its variables, and its steps, in which variables go by their places
pub record ExprView : Type 0 where
  pub variables : List (List ℕ)
  pub steps : List Step

abbrev pub expr_view : List (List ℕ) → Formula → ExprView
expr_view texts e = record { variables = name_texts texts e.variables; steps = e.steps }

abbrev pub expr_numbers : Formula → List ℕ
expr_numbers e = name_numbers e.variables

pub record SwitchedView : Type 0 where
  pub off : ExprView
  pub passes : ℕ

abbrev pub switched_view : List (List ℕ) → Switched → SwitchedView
switched_view texts s = record { off = expr_view texts s.off; passes = s.passes }

abbrev pub switched_numbers : Switched → List ℕ
switched_numbers s = expr_numbers s.off

pub record PgPinView : Type 0 where
  pub name : List ℕ
  pub kind : PgKind
  pub switched : Option SwitchedView

abbrev pub pg_pin_view : List (List ℕ) → PgPin → PgPinView
pg_pin_view texts p = record { name = text_at texts p.name.0; kind = p.kind; switched = option_map (switched_view texts) p.switched }

abbrev pub pg_pin_numbers : PgPin → List ℕ
pg_pin_numbers p = p.name.0 ∷ option_numbers switched_numbers p.switched

pub record PinView : Type 0 where
  pub name : List ℕ
  pub direction : Direction
  pub function : Option ExprView
  pub power_down : Option ExprView
  pub power : ℕ
  pub gnd : Option ℕ
  pub use_of : PinUse

abbrev pub pin_view : List (List ℕ) → Pin → PinView
pin_view texts p = record {
  name = text_at texts p.name.0;
  direction = p.direction;
  function = option_map (expr_view texts) p.function;
  power_down = option_map (expr_view texts) p.power_down;
  power = p.power;
  gnd = p.gnd;
  use_of = p.use_of;
}

abbrev pub pin_numbers : Pin → List ℕ
pin_numbers p = p.name.0 ∷ (option_numbers expr_numbers p.function ++ option_numbers expr_numbers p.power_down)

pub record StateView : Type 0 where
  pub kind : StateKind
  pub var : List ℕ
  pub inverse : List ℕ
  pub next : ExprView
  pub clock : ExprView
  pub clear : ExprView
  pub preset : ExprView
  pub power_down : ExprView

abbrev pub state_view : List (List ℕ) → StateGroup → StateView
state_view texts s = record {
  kind = s.kind;
  var = text_at texts s.var.0;
  inverse = text_at texts s.inverse.0;
  next = expr_view texts s.next;
  clock = expr_view texts s.clock;
  clear = expr_view texts s.clear;
  preset = expr_view texts s.preset;
  power_down = expr_view texts s.power_down;
}

abbrev pub state_numbers : StateGroup → List ℕ
state_numbers s = s.var.0 ∷ s.inverse.0 ∷ (expr_numbers s.next ++ (expr_numbers s.clock ++ (expr_numbers s.clear ++ (expr_numbers s.preset ++ expr_numbers s.power_down))))

pub record RolesView : Type 0 where
  pub iso : Bool
  pub shifter : Option Shifter
  pub retention : Option ExprView
  pub switch : Bool

abbrev pub roles_view : List (List ℕ) → Roles → RolesView
roles_view texts r = record { iso = r.iso; shifter = r.shifter; retention = option_map (expr_view texts) r.retention; switch = r.switch }

abbrev pub roles_numbers : Roles → List ℕ
roles_numbers r = option_numbers expr_numbers r.retention

pub record CellView : Type 0 where
  pub name : List ℕ
  pub area : ℕ
  pub pgs : List PgPinView
  pub pins : List PinView
  pub state : Option StateView
  pub roles : RolesView
  pub unusable : Option Reason

abbrev pub cell_view : List (List ℕ) → Cell → CellView
cell_view texts c = record {
  name = text_at texts c.name.0;
  area = c.area;
  pgs = map (pg_pin_view texts) c.pgs;
  pins = map (pin_view texts) c.pins;
  state = option_map (state_view texts) c.state;
  roles = roles_view texts c.roles;
  unusable = c.unusable;
}

abbrev pub cell_numbers : Cell → List ℕ
cell_numbers c = c.name.0 ∷ (flat_map pg_pin_numbers c.pgs ++ (flat_map pin_numbers c.pins ++ (option_numbers state_numbers c.state ++ roles_numbers c.roles)))

-- the cells of a library
abbrev pub library_view : List (List ℕ) → Library → List CellView
library_view texts l = map (cell_view texts) l.cells

-- the numbers of names in a library
abbrev pub library_numbers : Library → List ℕ
library_numbers l = flat_map cell_numbers l.cells

module _ (old new : List (List ℕ)) where
  expr-same : (e : Formula) → Agree old new (expr_numbers e) → expr_view new e ≡ expr_view old e
  expr-same e a = rw (names-same old new e.variables a) refl

  switched-same : (s : Switched) → Agree old new (switched_numbers s) → switched_view new s ≡ switched_view old s
  switched-same s a = rw (expr-same s.off a) refl

  pg_pin-same : (p : PgPin) → Agree old new (pg_pin_numbers p) → pg_pin_view new p ≡ pg_pin_view old p
  pg_pin-same p a = rw (a.0, option-same old new switched_numbers switched_view switched-same p.switched a.1) refl

  pin-same : (p : Pin) → Agree old new (pin_numbers p) → pin_view new p ≡ pin_view old p
  pin-same p a =
      let function = option-same old new expr_numbers expr_view expr-same p.function (Agree-left old new (option_numbers expr_numbers p.function) (option_numbers expr_numbers p.power_down) a.1) in
      let power_down = option-same old new expr_numbers expr_view expr-same p.power_down (Agree-right old new (option_numbers expr_numbers p.function) (option_numbers expr_numbers p.power_down) a.1) in
      rw (a.0, function, power_down) refl

  state-same : (s : StateGroup) → Agree old new (state_numbers s) → state_view new s ≡ state_view old s
  state-same s a =
      let next = expr_numbers s.next in
      let clock = expr_numbers s.clock in
      let clear = expr_numbers s.clear in
      let preset = expr_numbers s.preset in
      let down = expr_numbers s.power_down in
      let all = a.1.1 in
      let rest1 = Agree-right old new next (clock ++ (clear ++ (preset ++ down))) all in
      let rest2 = Agree-right old new clock (clear ++ (preset ++ down)) rest1 in
      let rest3 = Agree-right old new clear (preset ++ down) rest2 in
      let e1 = names-same old new s.next.variables (Agree-left old new next (clock ++ (clear ++ (preset ++ down))) all) in
      let e2 = names-same old new s.clock.variables (Agree-left old new clock (clear ++ (preset ++ down)) rest1) in
      let e3 = names-same old new s.clear.variables (Agree-left old new clear (preset ++ down) rest2) in
      let e4 = names-same old new s.preset.variables (Agree-left old new preset down rest3) in
      let e5 = names-same old new s.power_down.variables (Agree-right old new preset down rest3) in
      let v : text_at new s.var.0 ≡ text_at old s.var.0 = a.0 in
      let i : text_at new s.inverse.0 ≡ text_at old s.inverse.0 = a.1.0 in
      cc

  roles-same : (r : Roles) → Agree old new (roles_numbers r) → roles_view new r ≡ roles_view old r
  roles-same r a = rw (option-same old new expr_numbers expr_view expr-same r.retention a) refl

  cell-same : (c : Cell) → Agree old new (cell_numbers c) → cell_view new c ≡ cell_view old c
  cell-same c a =
      let pgs = flat_map pg_pin_numbers c.pgs in
      let pins = flat_map pin_numbers c.pins in
      let state = option_numbers state_numbers c.state in
      let roles = roles_numbers c.roles in
      let rest1 = Agree-right old new pgs (pins ++ (state ++ roles)) a.1 in
      let rest2 = Agree-right old new pins (state ++ roles) rest1 in
      let e1 = map-same old new pg_pin_numbers pg_pin_view pg_pin-same c.pgs (Agree-left old new pgs (pins ++ (state ++ roles)) a.1) in
      let e2 = map-same old new pin_numbers pin_view pin-same c.pins (Agree-left old new pins (state ++ roles) rest1) in
      let e3 = option-same old new state_numbers state_view state-same c.state (Agree-left old new state roles rest2) in
      let e4 = roles-same c.roles (Agree-right old new state roles rest2) in
      let n : text_at new c.name.0 ≡ text_at old c.name.0 = a.0 in
      cc

-- a library says the same when the table of its names has grown
pub library_view-grown : (old new : List (List ℕ)) (l : Library) → Grown old new → numbers_below (length old) (library_numbers l) ≡ true → library_view new l ≡ library_view old l
library_view-grown old new l grown below = map-same old new cell_numbers cell_view (cell-same old new) l.cells (Agree-grown old new grown (library_numbers l) below)
