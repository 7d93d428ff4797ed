-- The supply network: what feeds an origin, and the states that a port may have (IEEE 1801-2015, supply networks).
use Rattle.std.specs.Prelude.{◌≡◌, ◌≤◌, ◌<◌, ◌==◌, ℕ, zero, suc, Bool, true, false, if◌then◌else◌, List, [], ◌∷◌, length, All, Option, Some, None, slice_get}
use Rattle.std.specs.List.{list_any}
use Rattle.std.specs.Option.{option_map_or}
use Rattle.lp_model.specs.declared.supply.OriginKind.{OriginKind}
use Rattle.lp_model.specs.declared.supply.OriginKind.TheVariants.{Port, Switch}
use Rattle.lp_model.specs.declared.supply.Origin.{Origin}
use Rattle.lp_model.specs.declared.supply.SetOrigins.{SetOrigins}
use Rattle.lp_model.specs.declared.supply.Supplies.{Supplies}
use Rattle.lp_model.specs.declared.intent.DeclaredState.{DeclaredState}
use Rattle.lp_model.specs.declared.intent.DeclaredState.TheVariants.{On, Off}
use Rattle.lp_model.specs.declared.intent.RowState.{RowState}
use Rattle.lp_model.specs.declared.intent.RowState.TheVariants as Listed

-- the origin that a switch has as its input; a port has none
abbrev pub input_by : OriginKind → Option ℕ
input_by (Port states) = None
input_by (Switch input control high) = Some input.0

abbrev pub input_at : Option Origin → Option ℕ
input_at None = None
input_at (Some origin) = input_by origin.kind

abbrev pub input_of : Supplies → ℕ → Option ℕ
input_of s o = input_at (slice_get s.origins o)

-- the root that is noted for an origin
abbrev pub root_at : ℕ → Option Origin → ℕ
root_at o None = o
root_at o (Some origin) = origin.root.0

abbrev pub root_of : Supplies → ℕ → ℕ
root_of s o = root_at o (slice_get s.origins o)

-- the origin is the ground function of some used set (IEEE 1801-2015 create_supply_set); a set that is not used has no origins
abbrev pub is_ground_of : ℕ → Option SetOrigins → Bool
is_ground_of o None = false
is_ground_of o (Some set) = set.gnd.0 == o

abbrev pub is_ground : Supplies → ℕ → Bool
is_ground s o = list_any (is_ground_of o) s.sets

-- the declared states of a port (IEEE 1801-2015 add_port_state); own rule: a ground without any has the one state
-- on, at 0
abbrev pub declared_or_ground : Bool → List DeclaredState → List DeclaredState
declared_or_ground gnd [] = if gnd then On 0 ∷ [] else []
declared_or_ground gnd (x ∷ xs) = x ∷ xs

abbrev pub states_by : Bool → OriginKind → List DeclaredState
states_by gnd (Port states) = declared_or_ground gnd states
states_by gnd (Switch input control high) = []

abbrev pub states_at : Bool → Option Origin → List DeclaredState
states_at gnd None = []
states_at gnd (Some origin) = states_by gnd origin.kind

abbrev pub port_states : Supplies → ℕ → List DeclaredState
port_states s o = states_at (is_ground s o) (slice_get s.origins o)

-- own rule: a port without states has no part
abbrev pub is_some_state : List DeclaredState → Bool
is_some_state [] = false
is_some_state (x ∷ xs) = true

abbrev pub has_part : Supplies → ℕ → Bool
has_part s o = is_some_state (port_states s o)

-- from the origin, inputs lead to a port in fewer steps than this number
abbrev pub ends_at_port : Supplies → ℕ → ℕ → Bool
ends_at_port s zero o = false
ends_at_port s (suc steps) o = option_map_or (ends_at_port s steps) (input_of s o) true

-- the voltage of a state, in microvolts
abbrev pub declared_voltage : DeclaredState → ℕ
declared_voltage (On v) = v
declared_voltage Off = 0

abbrev pub listed_voltage : RowState → ℕ
listed_voltage Listed.Free = 0
listed_voltage Listed.Off = 0
listed_voltage (Listed.On v) = v

-- what a row has: a state for each of the origins, of a voltage of at most 10^12
pub record IsRow (count : ℕ) (row : List RowState) : Type 0 where
  pub full : length row ≡ count
  pub voltages : All (λ x. listed_voltage x ≤ 1000000000000) row

-- the functions of a set are origins
pub record AreOrigins (count : ℕ) (set : SetOrigins) : Type 0 where
  pub power : set.power.0 < count
  pub gnd : set.gnd.0 < count
  pub nwell : set.nwell.0 < count
  pub pwell : set.pwell.0 < count
  pub deepnwell : set.deepnwell.0 < count
  pub deeppwell : set.deeppwell.0 < count

abbrev pub IsSetOf : ℕ → Option SetOrigins → Type 0
IsSetOf count None = Unit {0}
IsSetOf count (Some set) = AreOrigins count set

-- own rule: what each supply network keeps
pub record IsNetwork (s : Supplies) : Type 0 where
  pub few_origins : length s.origins ≤ 1024
  pub few_rows : length s.rows ≤ 4096
  pub rows : All (λ row. IsRow (length s.origins) row.states) s.rows
  pub sets : All (IsSetOf (length s.origins)) s.sets
  pub voltages : (o : ℕ) → All (λ x. declared_voltage x ≤ 1000000000000) (port_states s o)
  -- a port is its own root, and a switch has the root of its input
  pub port_roots : (o : ℕ) → o < length s.origins → input_of s o ≡ None → root_of s o ≡ o
  pub switch_roots : (o i : ℕ) → input_of s o ≡ Some i → root_of s o ≡ root_of s i
  pub inputs : (o i : ℕ) → input_of s o ≡ Some i → i < length s.origins
  pub ends : (o : ℕ) → o < length s.origins → ends_at_port s (length s.origins) o ≡ true
