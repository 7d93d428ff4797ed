-- Which supply each power and ground pin of a cell is joined to (own rule, after Liberty pg_type and IEEE 1801-2015 supply sets). A pin that no rule names has none.
use Rattle.std.specs.Prelude.{ℕ, ◌==◌, Bool, true, false, Option, Some, None, is_some, if◌then◌else◌, option_and_then, slice_get}
use Rattle.std.specs.List.{list_any, list_all}
use Rattle.lp_model.specs.declared.library.PgKind.{PgKind}
use Rattle.lp_model.specs.declared.library.PgKind.TheVariants.{PrimaryPower, PrimaryGround, BackupPower, BackupGround, InternalPower, InternalGround, Nwell, Pwell, Deepnwell, Deeppwell}
use Rattle.lp_model.specs.declared.supply.SetOrigins.{SetOrigins}
use Rattle.lp_model.specs.LibraryView.{PgPinView, PinView, CellView}
use Rattle.lp_spec_design.specs.Graph.{numbered}

-- the origin to which a power or ground pin is joined: by its number in the cell, and by what it is
abbrev pub Joins : Type 0
Joins = ℕ → PgPinView → Option ℕ

-- what power pins and backup pins get; every ground pin is joined to the ground, and the bias pins to the functions of a set
abbrev pub by_kind : Option ℕ → Option ℕ → SetOrigins → PgKind → Option ℕ
by_kind primary backup set PrimaryPower = primary
by_kind primary backup set BackupPower = backup
by_kind primary backup set InternalPower = None
by_kind primary backup set PrimaryGround = Some set.gnd.0
by_kind primary backup set BackupGround = Some set.gnd.0
by_kind primary backup set InternalGround = Some set.gnd.0
by_kind primary backup set Nwell = Some set.nwell.0
by_kind primary backup set Pwell = Some set.pwell.0
by_kind primary backup set Deepnwell = Some set.deepnwell.0
by_kind primary backup set Deeppwell = Some set.deeppwell.0

-- a cell of the source: to the primary supply of its domain
abbrev pub source_joins : SetOrigins → Joins
source_joins primary k g = by_kind (Some primary.power.0) None primary g.kind

-- a retention register: its primary pins to the primary supply of its domain, its backup pins to the retention supply
abbrev pub register_joins : SetOrigins → SetOrigins → Joins
register_joins primary retention k g = by_kind (Some primary.power.0) (Some retention.power.0) primary g.kind

abbrev pub is_backup_power : PgPinView → Bool
is_backup_power g = by g.kind
  where
    by : PgKind → Bool
    by BackupPower = true
    by _ = false

-- a clamp: to its supply; where it has a backup power pin, this pin to its supply and the primary ones to the primary supply of the place in which it stands
abbrev pub clamp_joins : SetOrigins → SetOrigins → CellView → Joins
clamp_joins supply place c k g =
    if list_any is_backup_power c.pgs then by_kind (Some place.power.0) (Some supply.power.0) place g.kind
    else by_kind (Some supply.power.0) None supply g.kind

-- a shifter: the related power pin of its output to the output supply, that of its data, if it is another one, to the input supply
abbrev pub shifter_power : SetOrigins → SetOrigins → PinView → PinView → ℕ → Option ℕ
shifter_power input output d y k = if k == y.power then Some output.power.0 else if k == d.power then Some input.power.0 else None

abbrev pub shifter_joins : SetOrigins → SetOrigins → PinView → PinView → Joins
shifter_joins input output d y k g = by_kind (shifter_power input output d y k) (shifter_power input output d y k) output g.kind

-- a switch: the pin that it passes on to its input, the switched pin to its output, and no other power pin to anything; its n-wells to its input
pub data SwitchSide : Type 0 where
  ToInput : SwitchSide
  ToOutput : SwitchSide
  ToGround : SwitchSide

abbrev pub switch_side : ℕ → ℕ → PgPinView → Option SwitchSide
switch_side passes k g = by g.kind (is_some g.switched)
  where
    by : PgKind → Bool → Option SwitchSide
    by PrimaryPower switched = if k == passes then Some ToInput else None
    by BackupPower switched = None
    by InternalPower true = Some ToOutput
    by InternalPower false = None
    by Nwell switched = Some ToInput
    by Deepnwell switched = Some ToInput
    by _ switched = Some ToGround

abbrev pub switch_origin : ℕ → ℕ → ℕ → SwitchSide → ℕ
switch_origin input output gnd ToInput = input
switch_origin input output gnd ToOutput = output
switch_origin input output gnd ToGround = gnd

abbrev pub switch_joins : ℕ → ℕ → ℕ → ℕ → Joins
switch_joins input output gnd passes k g = option_and_then (λ s. Some (switch_origin input output gnd s)) (switch_side passes k g)

-- ---- all pins of a cell

abbrev pub joined_at : CellView → Joins → ℕ → Option ℕ
joined_at c join k = option_and_then (join k) (slice_get c.pgs k)

-- each power and ground pin has a supply
abbrev pub all_joined : CellView → Joins → Bool
all_joined c join = list_all (λ x. is_some (join x.0 x.1)) (numbered 0 c.pgs)

abbrev pub is_origin : ℕ → Option ℕ → Bool
is_origin o None = false
is_origin o (Some q) = o == q

abbrev pub ground_is : CellView → Joins → ℕ → Option ℕ → Bool
ground_is c join o None = false
ground_is c join o (Some k) = is_origin o (joined_at c join k)

-- the related pins of a signal pin are joined to a set
abbrev pub relates_to : CellView → Joins → SetOrigins → PinView → Bool
relates_to c join set q = if is_origin set.power.0 (joined_at c join q.power) then ground_is c join set.gnd.0 q.gnd else false
