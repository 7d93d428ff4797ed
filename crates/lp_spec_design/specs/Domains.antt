-- Which instance is of which domain, where domains meet, and what drives and reads there (IEEE 1801-2015 create_power_domain; the boundary is an own rule).
use Rattle.std.specs.Prelude.{ℕ, ◌+◌, ◌==◌, Bool, true, false, not, List, [], ◌∷◌, map, filter, Option, Some, None, option_and_then, if◌then◌else◌, bytes_eq, flat_map, slice_get}
use Rattle.std.specs.List.{list_any}
use Rattle.lp_model.specs.NetlistView.{PortView, ModuleView}
use Rattle.lp_spec_design.specs.Keys.{Name, Path, same_path, Node, Inner, Outer, Way, PortBit, Source, CellPin, Environment}
use Rattle.lp_spec_design.specs.Netlists.{Structure, module_at, indices, is_input}
use Rattle.lp_spec_design.specs.Instances.{module_instances}
use Rattle.lp_spec_design.specs.Graph.{trail, beginning, source_of, Reader, InputPin, TopOutput}
use Rattle.lp_spec_design.specs.Intents.{SetNumber, Domain, PortSupply, Intent}

-- the number of the first of a list that passes a test
abbrev pub first_number : {A : Type 0} → (A → Bool) → ℕ → List A → Option ℕ
first_number p k [] = None
first_number p k (x ∷ xs) = if p x then Some k else first_number p (k + 1) xs

-- the domain that lists an instance
abbrev pub listed : Intent → Path → Option ℕ
listed i p = first_number (λ (d : Domain). list_any (same_path p) d.elements) 0 i.domains

abbrev pub or_else : Option ℕ → Option ℕ → Option ℕ
or_else (Some d) other = Some d
or_else None other = other

-- an instance is of the domain that lists it, else of its parent's
abbrev pub domain_of : Intent → Path → Option ℕ
domain_of i [] = listed i []
domain_of i (x ∷ p) = or_else (listed i (x ∷ p)) (domain_of i p)

abbrev pub same_domain : Option ℕ → Option ℕ → Bool
same_domain (Some a) (Some b) = a == b
same_domain None None = true
same_domain _ _ = false

-- the top, and each instance of another domain than its parent's
abbrev pub is_boundary : Intent → Path → Bool
is_boundary i [] = true
is_boundary i (x ∷ p) = not (same_domain (domain_of i (x ∷ p)) (domain_of i p))

-- a port bit of a boundary instance
pub record BoundaryBit : Type 0 where
  pub path : Path
  pub port : PortView
  pub index : Option ℕ

abbrev pub way_of : BoundaryBit → Way
way_of b = PortBit b.path b.port.name b.index

abbrev pub bits_of : Structure → Path → List BoundaryBit
bits_of s p = by (module_at s p)
  where
    by : Option ModuleView → List BoundaryBit
    by None = []
    by (Some m) = flat_map (λ port. map (λ i. record { path = p; port = port; index = i }) (indices port.range)) m.ports

-- in port order: by instance, then by port, then from the left bit to the right one
abbrev pub boundary : Structure → Intent → List BoundaryBit
boundary s i = flat_map (bits_of s) (filter (is_boundary i) (module_instances s))

-- ---- supplies of drivers and readers

abbrev pub primary_of : Intent → Option ℕ → Option SetNumber
primary_of i d = option_and_then (λ k. option_and_then (λ (x : Domain). x.primary) (slice_get i.domains k)) d

abbrev pub supply_of_port : List PortSupply → Name → Option SetNumber → Option SetNumber
supply_of_port [] n other = other
supply_of_port (a ∷ more) n other = if bytes_eq a.port n then Some a.supply else supply_of_port more n other

-- a cell output has its domain's primary supply, a top input its driver supply, a constant and nothing have none
abbrev pub source_supply : Intent → Node → Option Source → Option SetNumber
source_supply i k (Some (CellPin p x q)) = primary_of i (domain_of i p)
source_supply i (Outer n j) (Some Environment) = supply_of_port i.drivers n (primary_of i (domain_of i []))
source_supply i k _ = None

abbrev pub start_rail : Structure → Intent → Node → Option SetNumber
start_rail s i k = source_supply i k (source_of s k)

-- a cell input pin has its domain's primary supply, a top output its receiver supply
abbrev pub reader_supply : Intent → Reader → Option SetNumber
reader_supply i (InputPin p x q) = primary_of i (domain_of i p)
reader_supply i (TopOutput n j) = supply_of_port i.receivers n (primary_of i (domain_of i []))

-- the node from which the way of a boundary bit comes
abbrev pub node_before : Structure → BoundaryBit → Node
node_before s b = by b.path (is_input b.port)
  where
    -- the far end of the last way into the bit's inner or outer side
    back : Node → Node
    back k = beginning k (trail s 1 k)

    by : Path → Bool → Node
    by [] true = Outer b.port.name b.index
    by [] false = Inner b.port.name b.index []
    by (x ∷ p) true = back (Inner b.port.name b.index (x ∷ p))
    by (x ∷ p) false = Inner b.port.name b.index (x ∷ p)

-- the supply of what drives a boundary bit, found backwards from the start of its way
abbrev pub driver : Structure → Intent → ℕ → BoundaryBit → Option SetNumber
driver s i fuel b = start_rail s i (beginning (node_before s b) (trail s fuel (node_before s b)))
