-- Values of Liberty attributes that are words or numbers.
use Rattle.std.specs.Prelude.{ℕ, ◌^◌, Bool, if◌then◌else◌, List, [], ◌∷◌, Option, Some, None, codes, unwrap_or}
use Rattle.lp_text.specs.Texts.{same_text}
use Rattle.lp_text.specs.Micros.{micros_of}
use Rattle.lp_model.specs.declared.library.PgKind.{PgKind}
use Rattle.lp_model.specs.declared.library.PgKind.TheVariants as kinds
use Rattle.lp_model.specs.declared.library.Action.{Action}
use Rattle.lp_model.specs.declared.library.Action.TheVariants as actions
use Rattle.lp_model.specs.declared.library.RetClass.{RetClass}
use Rattle.lp_model.specs.declared.library.RetClass.TheVariants as classes
use Rattle.lp_model.specs.declared.library.ShifterKind.{ShifterKind}
use Rattle.lp_model.specs.declared.library.ShifterKind.TheVariants as shifters
use Rattle.lp_model.specs.declared.library.VoltageRange.{VoltageRange}
use Rattle.lp_model.specs.declared.netlist.Direction.{Direction}
use Rattle.lp_model.specs.declared.netlist.Direction.TheVariants as directions

-- Liberty pg_type
abbrev pub pg_kind : List ℕ → Option PgKind
pg_kind t =
    if same_text t (codes "primary_power") then Some kinds.PrimaryPower
    else if same_text t (codes "primary_ground") then Some kinds.PrimaryGround
    else if same_text t (codes "backup_power") then Some kinds.BackupPower
    else if same_text t (codes "backup_ground") then Some kinds.BackupGround
    else if same_text t (codes "internal_power") then Some kinds.InternalPower
    else if same_text t (codes "internal_ground") then Some kinds.InternalGround
    else if same_text t (codes "nwell") then Some kinds.Nwell
    else if same_text t (codes "pwell") then Some kinds.Pwell
    else if same_text t (codes "deepnwell") then Some kinds.Deepnwell
    else if same_text t (codes "deeppwell") then Some kinds.Deeppwell
    else None

-- Liberty direction of a pin
abbrev pub direction : List ℕ → Option Direction
direction t =
    if same_text t (codes "input") then Some directions.Input
    else if same_text t (codes "output") then Some directions.Output
    else None

-- Liberty save_action and restore_action
abbrev pub action : List ℕ → Option Action
action t =
    if same_text t (codes "H") then Some actions.High
    else if same_text t (codes "L") then Some actions.Low
    else if same_text t (codes "R") then Some actions.Rise
    else if same_text t (codes "F") then Some actions.Fall
    else None

-- the class of Liberty retention_pin
abbrev pub class : List ℕ → Option RetClass
class t =
    if same_text t (codes "save") then Some classes.Save
    else if same_text t (codes "restore") then Some classes.Restore
    else if same_text t (codes "save_restore") then Some classes.Both
    else None

-- Liberty level_shifter_type, where every other text counts as HL_LH (own rule)
abbrev pub shifter_kind : List ℕ → ShifterKind
shifter_kind t =
    if same_text t (codes "LH") then shifters.LowToHigh
    else if same_text t (codes "HL") then shifters.HighToLow
    else shifters.Both

abbrev pub shifter_kind_if_any : Option (List ℕ) → ShifterKind
shifter_kind_if_any None = shifters.Both
shifter_kind_if_any (Some t) = shifter_kind t

-- Liberty area in millionths: 0 where it is missing, 10^12 where it is no number (own rule)
abbrev pub area : Option (List ℕ) → ℕ
area None = 0
area (Some t) = unwrap_or (micros_of t) (10 ^ 12)

abbrev pub range_between : Option ℕ → Option ℕ → Option VoltageRange
range_between (Some low) (Some high) = Some (record { low = low; high = high })
range_between low high = None

-- Liberty input_voltage_range and output_voltage_range: exactly two voltages
abbrev pub range : List (List ℕ) → Option VoltageRange
range (low ∷ (high ∷ [])) = range_between (micros_of low) (micros_of high)
range values = None
