-- Unknown values as sets of what they may be: an operation gives the value that all replacements of X by 0 or 1 agree on.
use Rattle.std.specs.Prelude.{Bool, true, false, not, ◌&&◌, ◌==◌, if◌then◌else◌, List, [], ◌∷◌, map}
use Rattle.std.specs.List.{flat_map, list_all}
use Rattle.lp_tern.specs.declared.tern.Tern.{Tern}
use Rattle.lp_tern.specs.declared.tern.Tern.TheVariants.{Zero, One, X}
use Rattle.lp_tern.specs.declared.supply.SupplyState.{SupplyState}
use Rattle.lp_tern.specs.declared.supply.SupplyState.TheVariants.{On, Off, Unknown}
use Rattle.lp_tern.specs.declared.supply.Rail.{Rail}
use Rattle.lp_tern.specs.declared.supply.Rail.TheVariants.{Power, Ground}

-- what a value may be
abbrev pub replacements : Tern → List Bool
replacements Zero = false ∷ []
replacements One = true ∷ []
replacements X = false ∷ true ∷ []

-- what outcomes agree on
abbrev pub agreed : List Bool → Tern
agreed outcomes = if list_all (λ b. b) outcomes then One else if list_all not outcomes then Zero else X

abbrev pub negate_of : Tern → Tern
negate_of a = agreed (map not (replacements a))

-- a Boolean operation on values that may be unknown
abbrev pub lifted : (Bool → Bool → Bool) → Tern → Tern → Tern
lifted operation a b = agreed (flat_map (λ x. map (operation x) (replacements b)) (replacements a))

-- 0 before and 1 now
abbrev pub rise_of : Tern → Tern → Tern
rise_of prev cur = lifted (λ p c. not p && c) prev cur

-- the tables of "and", "or" and "exactly one of both"
abbrev pub both_of : Tern → Tern → Tern
both_of Zero b = Zero
both_of One b = b
both_of X Zero = Zero
both_of X b = X

abbrev pub either_of : Tern → Tern → Tern
either_of One b = One
either_of Zero b = b
either_of X One = One
either_of X b = X

abbrev pub differ_of : Tern → Tern → Tern
differ_of X b = X
differ_of Zero b = b
differ_of One b = negate_of b

abbrev pub is_same : Tern → Tern → Bool
is_same Zero Zero = true
is_same One One = true
is_same X X = true
is_same _ _ = false

abbrev pub choose_of : Tern → Tern → Tern → Tern
choose_of One a b = a
choose_of Zero a b = b
choose_of X a b = if is_same a b then a else X

abbrev pub is_same_supply : SupplyState → SupplyState → Bool
is_same_supply (On u) (On v) = u == v
is_same_supply Off Off = true
is_same_supply Unknown Unknown = true
is_same_supply _ _ = false

abbrev pub choose_supply_of : Tern → SupplyState → SupplyState → SupplyState
choose_supply_of One a b = a
choose_supply_of Zero a b = b
choose_supply_of X a b = if is_same_supply a b then a else Unknown

abbrev pub power_level : SupplyState → Tern
power_level (On u) = One
power_level Off = Zero
power_level Unknown = X

-- a power net is high where it is on; a ground net is its complement
abbrev pub level_of : SupplyState → Rail → Tern
level_of s Power = power_level s
level_of s Ground = negate_of (power_level s)
