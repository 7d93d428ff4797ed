-- Supply ports and nets that are joined (IEEE 1801-2015 connect_supply_net).
use Rattle.std.specs.Prelude.{◌≡◌, ℕ, zero, suc, Bool, true, false, ◌&&◌, ◌||◌, if◌then◌else◌, List, [], ◌∷◌, ◌++◌, map, IsTrue, flat_map}
use Rattle.std.specs.List.{list_any, list_all}
use Rattle.lp_spec_origins.specs.Commands.{same_scoped, Supply, PortAt, NetAt, same_supply, Command, Connects}

-- a command connects a net with a port
abbrev pub connects_by : Supply → Supply → Command → Bool
connects_by (NetAt n) (PortAt p) (Connects m ports) = same_scoped n m && list_any (same_scoped p) ports
connects_by _ _ _ = false

-- some command connects the one with the other
abbrev pub connected : List Command → Supply → Supply → Bool
connected commands a b = list_any (λ c. connects_by a b c || connects_by b a c) commands

-- from one to the other by connections, over those on the way
abbrev pub IsWay : List Command → Supply → List Supply → Supply → Type 0
IsWay commands a [] b = a ≡ b
IsWay commands a (k ∷ way) b = IsTrue (connected commands a k) × IsWay commands k way b

-- the reflexive, symmetric and transitive closure of the connections
abbrev pub Joined : List Command → Supply → Supply → Type 0
Joined commands a b = (way : List Supply) × IsWay commands a way b

-- ---- computing it

abbrev pub joined_by : Supply → Command → List Supply
joined_by (NetAt n) (Connects m ports) = if same_scoped n m then map (λ p. PortAt p) ports else []
joined_by (PortAt p) (Connects m ports) = if list_any (same_scoped p) ports then NetAt m ∷ [] else []
joined_by _ _ = []

-- those that commands connect with one
abbrev pub neighbours : List Command → Supply → List Supply
neighbours commands a = flat_map (joined_by a) commands

abbrev pub is_among : Supply → List Supply → Bool
is_among a group = list_any (same_supply a) group

abbrev pub added : List Supply → List Supply → List Supply
added group [] = group
added group (a ∷ more) = if is_among a group then added group more else added (group ++ a ∷ []) more

abbrev pub widened : List Command → List Supply → List Supply
widened commands group = added group (flat_map (neighbours commands) group)

-- all that is found from one; the fuel is the number of ports and nets
abbrev pub group_of : List Command → ℕ → Supply → List Supply
group_of commands zero a = a ∷ []
group_of commands (suc fuel) a = widened commands (group_of commands fuel a)

-- nothing leads out of it
abbrev pub is_closed : List Command → List Supply → Bool
is_closed commands group = list_all (λ a. list_all (λ b. is_among b group) (neighbours commands a)) group

-- nothing leads out of what is found from one
abbrev pub IsWhole : List Command → ℕ → Supply → Type 0
IsWhole commands fuel a = is_closed commands (group_of commands fuel a) ≡ true
