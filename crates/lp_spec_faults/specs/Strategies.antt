-- The lines of the table of faults about strategies and the sides of boundary bits (own rule, after IEEE 1801-2015 set_isolation, set_level_shifter and set_retention).
use Rattle.std.specs.Prelude.{ℕ, ◌==◌, nat_lt, Bool, true, false, not, ◌&&◌, ◌||◌, if◌then◌else◌, List, [], ◌∷◌, ◌++◌, map, filter, length, Option, Some, None, is_some, option_and_then, slice_get, flat_map}
use Rattle.std.specs.List.{list_any, list_all}
use Rattle.lp_model.specs.declared.side.Side.{Side}
use Rattle.lp_model.specs.declared.side.Side.TheVariants.{Upper, Lower}
use Rattle.lp_model.specs.declared.side.Location.{Location}
use Rattle.lp_model.specs.declared.side.Location.TheVariants.{Own, Parent}
use Rattle.lp_model.specs.declared.intent.StrategyKind.{StrategyKind}
use Rattle.lp_model.specs.declared.intent.StrategyKind.TheVariants.{Isolation, Shifting, Retention}
use Rattle.lp_model.specs.LibraryView.{CellView}
use Rattle.lp_spec_design.specs.Keys.{Path, same_path}
use Rattle.lp_spec_design.specs.Netlists.{first, is_input, cell_at}
use Rattle.lp_spec_design.specs.Instances.{Placed, module_instances, cell_instances}
use Rattle.lp_spec_design.specs.Nodes.{fuel_of}
use Rattle.lp_spec_design.specs.Graph.{numbered}
use Rattle.lp_spec_design.specs.Intents.{SetNumber, Element, AtInstance, AtCell, AtPort, AtBit, Strategy, same_set}
use Rattle.lp_spec_design.specs.Domains.{BoundaryBit, is_boundary, boundary, node_before, domain_of, same_domain}
use Rattle.lp_spec_design.specs.Winners.{Crossing, crossing, side_domain, names, applying, winner, rank, is_tied, splits, same_kind, same_supply}
use Rattle.lp_spec_design.specs.Chains.{Operator, Clamp, Shift, side_part, rail_after}
use Rattle.lp_spec_design.specs.Registers.{retains, retention_rank, retention_winner}
use Rattle.lp_spec_design.specs.Settled.{rail_of}
use Rattle.lp_spec_realises.specs.Projects.{Project, network_of, design_of}
use Rattle.lp_spec_realises.specs.Realises.{cell_of}
use Rattle.lp_spec_faults.specs.Lines.{Line}

-- ---- places

-- a side of a boundary bit
pub record SideAt : Type 0 where
  pub bit : BoundaryBit
  pub side : Side

-- the top has no lower side
abbrev pub sides_of_bit : BoundaryBit → List SideAt
sides_of_bit b = by b.path
  where
    by : Path → List SideAt
    by [] = record { bit = b; side = Upper } ∷ []
    by (x ∷ p) = record { bit = b; side = Upper } ∷ record { bit = b; side = Lower } ∷ []

-- in port order, the upper side first
abbrev pub all_sides : Project → List SideAt
all_sides p = flat_map sides_of_bit (boundary p.structure p.intent)

pub record StrategyAt : Type 0 where
  pub place : SideAt
  pub number : ℕ
  pub strategy : Strategy

-- on each side the strategies in command order
abbrev pub sides_with_strategies : Project → List StrategyAt
sides_with_strategies p = flat_map (λ a. map (λ t. record { place = a; number = t.0; strategy = t.1 }) (numbered 0 p.intent.strategies)) (all_sides p)

abbrev pub crossing_of : Project → BoundaryBit → Crossing
crossing_of p b = crossing p.structure p.intent (fuel_of p.structure) b

abbrev pub applying_at : Project → StrategyAt → List (ℕ × Strategy)
applying_at p x = applying (network_of p) p.intent x.strategy.kind x.place.side (crossing_of p x.place.bit)

abbrev pub is_number : ℕ → Option (ℕ × Strategy) → Bool
is_number k None = false
is_number k (Some t) = t.0 == k

-- the strategy wins on its side
abbrev pub wins : Project → StrategyAt → Bool
wins p x = is_number x.number (winner (network_of p) p.intent x.strategy.kind x.place.side (crossing_of p x.place.bit))

abbrev pub is_retention : Strategy → Bool
is_retention t = same_kind Retention t.kind

-- a winner of a side that inserts something
abbrev pub inserts_at : Project → StrategyAt → Bool
inserts_at p x = x.strategy.inserts && (not (is_retention x.strategy) && wins p x)

-- a register, with a strategy
pub record RegisterAt : Type 0 where
  pub register : Placed
  pub number : ℕ
  pub strategy : Strategy

abbrev pub has_state : Option CellView → Bool
has_state None = false
has_state (Some c) = is_some c.state

abbrev pub registers : Project → List Placed
registers p = filter (λ a. has_state (cell_of p.structure a)) (cell_instances p.structure)

abbrev pub registers_with_strategies : Project → List RegisterAt
registers_with_strategies p = flat_map (λ a. map (λ t. record { register = a; number = t.0; strategy = t.1 }) (numbered 0 p.intent.strategies)) (registers p)

-- a side or a register: all sides first
pub data Where : Type 0 where
  OnSide : StrategyAt → Where
  OnRegister : RegisterAt → Where

abbrev pub everywhere : Project → List Where
everywhere p = map (λ x. OnSide x) (sides_with_strategies p) ++ map (λ x. OnRegister x) (registers_with_strategies p)

-- ---- F50 NotBoundary: an element names no boundary instance, port or bit with a side of the domain; for retention no register or module instance of it

pub record ElementAt : Type 0 where
  pub strategy : Strategy
  pub element : Element

abbrev pub listed_elements : Option (List Element) → List Element
listed_elements None = []
listed_elements (Some elements) = elements

abbrev pub all_elements : Project → List ElementAt
all_elements p = flat_map (λ (t : Strategy). map (λ e. record { strategy = t; element = e }) (listed_elements t.elements)) p.intent.strategies

abbrev pub is_side_of : Project → ℕ → SideAt → Bool
is_side_of p d a = is_some (side_domain p.intent a.side a.bit) && same_domain (side_domain p.intent a.side a.bit) (Some d)

abbrev pub is_of_domain : Project → ℕ → Path → Bool
is_of_domain p d path = is_some (domain_of p.intent path) && same_domain (domain_of p.intent path) (Some d)

-- the domain has a side of a boundary instance: the upper one is its own domain's, the lower one its parent's
abbrev pub has_side : Project → ℕ → Path → Bool
has_side p d [] = is_of_domain p d []
has_side p d (x ∷ q) = is_of_domain p d (x ∷ q) || is_of_domain p d q

abbrev pub boundary_instances : Project → List Path
boundary_instances p = filter (is_boundary p.intent) (module_instances p.structure)

-- a boundary instance, which may have no ports, or a port or a bit of one
abbrev pub names_side : Project → ElementAt → Bool
names_side p x = by x.element
  where
    by : Element → Bool
    by (AtInstance q) = list_any (λ k. same_path k q && has_side p x.strategy.domain k) (boundary_instances p)
    by e = list_any (λ a. is_side_of p x.strategy.domain a && names a.bit e) (all_sides p)

abbrev pub names_register_of : Project → ElementAt → Bool
names_register_of p x = by x.element
  where
    by : Element → Bool
    by (AtInstance q) = is_of_domain p x.strategy.domain q
    by (AtCell q y) = is_of_domain p x.strategy.domain q && has_state (cell_at p.structure q y)
    by (AtPort q n) = false
    by (AtBit q n j) = false

abbrev pub not_boundary : Project → Line ElementAt
not_boundary p = record { places = all_elements p; test = λ (x : ElementAt). not (if is_retention x.strategy then names_register_of p x else names_side p x) }

-- ---- F52 SplitSinks: one of the rules on sinks holds of some readers and not of others

abbrev pub split_sinks : Project → Line StrategyAt
split_sinks p = record { places = sides_with_strategies p; test = λ (x : StrategyAt). not (is_retention x.strategy) && splits (network_of p) p.intent x.place.side (crossing_of p x.place.bit) x.strategy }

-- ---- F51 Tied: two strategies of one kind share the greatest rank; the place has the first of them

abbrev pub retaining_at : Project → RegisterAt → List (ℕ × Strategy)
retaining_at p x = filter (λ t. retains p.intent x.register.path x.register.instance t.1) (numbered 0 p.intent.strategies)

abbrev pub ties : Project → Where → Bool
ties p (OnSide x) = not (is_retention x.strategy) && (list_any (λ t. t.0 == x.number) (applying_at p x) && is_tied (rank x.place.bit) (applying_at p x) (x.number, x.strategy))
ties p (OnRegister x) = retains p.intent x.register.path x.register.instance x.strategy && is_tied (retention_rank x.register.path x.register.instance) (retaining_at p x) (x.number, x.strategy)

abbrev pub tied : Project → Line Where
tied p = record { places = everywhere p; test = ties p }

-- the last field of its line: the other strategy of that rank that comes first
abbrev pub other_of_rank : (Strategy → ℕ) → List (ℕ × Strategy) → ℕ → Strategy → Option ℕ
other_of_rank ranked all k t = option_and_then (λ y. Some y.0) (first (λ y. not (y.0 == k) && (ranked y.1 == ranked t)) all)

abbrev pub tied_with : Project → Where → Option ℕ
tied_with p (OnSide x) = other_of_rank (rank x.place.bit) (applying_at p x) x.number x.strategy
tied_with p (OnRegister x) = other_of_rank (retention_rank x.register.path x.register.instance) (retaining_at p x) x.number x.strategy

-- ---- F58 NoPlace: a winner that inserts has its location in the parent, at the top or on a lower side

abbrev pub is_parent : Location → Bool
is_parent Parent = true
is_parent Own = false

abbrev pub has_parent : SideAt → Bool
has_parent a = by a.side a.bit.path
  where
    by : Side → Path → Bool
    by Lower p = false
    by Upper [] = false
    by Upper (x ∷ p) = true

abbrev pub no_place : Project → Line StrategyAt
no_place p = record { places = sides_with_strategies p; test = λ (x : StrategyAt). is_parent x.strategy.location && (not (has_parent x.place) && inserts_at p x) }

-- ---- F62 NoSupply: an isolation or retention winner that inserts has no supply

abbrev pub lacks_supply : Project → Where → Bool
lacks_supply p (OnSide x) = same_kind Isolation x.strategy.kind && (not (is_some x.strategy.supply) && inserts_at p x)
lacks_supply p (OnRegister x) = x.strategy.inserts && (not (is_some x.strategy.supply) && is_number x.number (retention_winner p.intent x.register.path x.register.instance))

abbrev pub no_supply : Project → Line Where
no_supply p = record { places = everywhere p; test = lacks_supply p }

-- ---- F64 ShiftTarget: a shifting winner that inserts names no output supply, and the readers have different ones

abbrev pub are_different : Project → List (Option SetNumber) → Bool
are_different p [] = false
are_different p (r ∷ readers) = not (list_all (same_supply (network_of p) r) readers)

abbrev pub shift_target : Project → Line StrategyAt
shift_target p = record { places = sides_with_strategies p; test = λ (x : StrategyAt). same_kind Shifting x.strategy.kind && (not (is_some x.strategy.output) && (are_different p (crossing_of p x.place.bit).readers && inserts_at p x)) }

-- ---- the part of a side, with the supply that reaches it

abbrev pub rail_to_bit : Project → BoundaryBit → Option SetNumber
rail_to_bit p b = rail_of (design_of p) (node_before p.structure b)

abbrev pub behind_side : Project → Side → BoundaryBit → Option SetNumber
behind_side p side b = rail_after (rail_to_bit p b) (side_part (network_of p) p.intent side (crossing_of p b) (rail_to_bit p b))

-- at an output the upper side comes first, at an input the lower one
abbrev pub rail_to_side : Project → SideAt → Option SetNumber
rail_to_side p a = by a.side (is_input a.bit.port)
  where
    by : Side → Bool → Option SetNumber
    by Upper true = behind_side p Lower a.bit
    by Upper false = rail_to_bit p a.bit
    by Lower true = rail_to_bit p a.bit
    by Lower false = behind_side p Upper a.bit

abbrev pub part_of : Project → SideAt → List Operator
part_of p a = side_part (network_of p) p.intent a.side (crossing_of p a.bit) (rail_to_side p a)

abbrev pub is_shift : Operator → Bool
is_shift (Shift t a b) = true
is_shift (Clamp t i) = false

-- the winner of a kind on a side: of shifting the strategy of F56 and F65, of isolation and then of shifting those of F57
abbrev pub winner_at : Project → StrategyKind → SideAt → Option ℕ
winner_at p kind a = option_and_then (λ t. Some t.0) (winner (network_of p) p.intent kind a.side (crossing_of p a.bit))

-- ---- F56 TwoShifters: a part has two

abbrev pub two_shifters : Project → Line SideAt
two_shifters p = record { places = all_sides p; test = λ a. nat_lt 1 (length (filter is_shift (part_of p a))) }

-- ---- F57 LocationOrder: in the upper part data passes self before parent at an output, and parent before self at an input

abbrev pub location_of : Project → Operator → Option Location
location_of p (Clamp t i) = option_and_then (λ (x : Strategy). Some x.location) (slice_get p.intent.strategies t)
location_of p (Shift t a b) = option_and_then (λ (x : Strategy). Some x.location) (slice_get p.intent.strategies t)

abbrev pub goes_back : Bool → Option Location → Option Location → Bool
goes_back false (Some Parent) (Some Own) = true
goes_back true (Some Own) (Some Parent) = true
goes_back input _ _ = false

abbrev pub some_goes_back : Project → Bool → List Operator → Bool
some_goes_back p input [] = false
some_goes_back p input (o ∷ rest) = list_any (λ q. goes_back input (location_of p o) (location_of p q)) rest || some_goes_back p input rest

abbrev pub is_upper : Side → Bool
is_upper Upper = true
is_upper Lower = false

abbrev pub location_order : Project → Line SideAt
location_order p = record { places = all_sides p; test = λ (a : SideAt). is_upper a.side && some_goes_back p (is_input a.bit.port) (part_of p a) }

-- ---- F65 ShiftSupply: a shifter's winner names another input supply than its part's

abbrev pub names_other : Project → Option SetNumber → SetNumber → Bool
names_other p None a = false
names_other p (Some k) a = not (same_set (network_of p) k a)

abbrev pub is_misfed : Project → Operator → Bool
is_misfed p (Clamp t i) = false
is_misfed p (Shift t a b) = names_other p (option_and_then (λ (x : Strategy). x.input) (slice_get p.intent.strategies t)) a

abbrev pub shift_supply : Project → Line SideAt
shift_supply p = record { places = all_sides p; test = λ a. list_any (is_misfed p) (part_of p a) }
