-- The lines of faults, computed on a small design: the top `soc` has the block `u` and the cell `b`, the block has `v+`, which has the register `r`. The design is its own powered netlist.
use Rattle.std.proofs.Common.{◌≡◌, List, true, false, [], ◌∷◌, Some, None, refl}
use Rattle.std.specs.Prelude.{ℕ, Bool, ◌++◌, codes, decimal, map}
use Rattle.lp_text.specs.declared.names.NameId.{NameId}
use Rattle.lp_text.specs.declared.place.Place.{Place}
use Rattle.lp_model.specs.declared.fault.check.CheckFault.TheVariants as check
use Rattle.lp_model.specs.declared.fault.intent.IntentFault.TheVariants as intents
use Rattle.lp_model.specs.declared.fault.library.LibraryFault.TheVariants as libraries
use Rattle.lp_model.specs.declared.fault.netlist.NetlistFault.TheVariants as netlists
use Rattle.lp_model.specs.declared.fault.netlist.NetlistLimit.TheVariants as limits
use Rattle.lp_model.specs.declared.fault.refs.ControlRef.TheVariants as controls
use Rattle.lp_model.specs.declared.fault.refs.DriverRef.TheVariants as drivers
use Rattle.lp_model.specs.declared.fault.refs.EntryRef.TheVariants as entries
use Rattle.lp_model.specs.declared.fault.refs.PartRef.TheVariants as lost
use Rattle.lp_model.specs.declared.fault.refs.PoweredRef.TheVariants as supplied
use Rattle.lp_model.specs.declared.fault.refs.ReaderRef.TheVariants as readers
use Rattle.lp_model.specs.declared.fault.refs.Site.TheVariants as sites
use Rattle.lp_model.specs.declared.fault.refusal.DesignFault.TheVariants as designs
use Rattle.lp_model.specs.declared.fault.refusal.Fault.{Fault}
use Rattle.lp_model.specs.declared.fault.refusal.Fault.TheVariants as faults
use Rattle.lp_model.specs.declared.fault.run.PinFault.TheVariants as pins
use Rattle.lp_model.specs.declared.fault.strategy.StrategyFault.{StrategyFault}
use Rattle.lp_model.specs.declared.fault.strategy.StrategyFault.TheVariants as strategies
use Rattle.lp_model.specs.declared.fault.supply.RowRef.TheVariants as rows
use Rattle.lp_model.specs.declared.fault.supply.SupplyFault.{SupplyFault}
use Rattle.lp_model.specs.declared.fault.supply.SupplyFault.TheVariants as supplies
use Rattle.lp_model.specs.declared.fault.supply.SupplyRef.TheVariants as undriven
use Rattle.lp_model.specs.declared.graph.Edge.{Edge}
use Rattle.lp_model.specs.declared.graph.EdgeFrom.{EdgeFrom}
use Rattle.lp_model.specs.declared.graph.EdgeFrom.TheVariants as froms
use Rattle.lp_model.specs.declared.graph.Inst.{Inst}
use Rattle.lp_model.specs.declared.graph.Leaf.{Leaf}
use Rattle.lp_model.specs.declared.graph.Node.{Node}
use Rattle.lp_model.specs.declared.graph.NodeName.{NodeName}
use Rattle.lp_model.specs.declared.graph.NodeName.TheVariants.{Scalar, Bit}
use Rattle.lp_model.specs.declared.ids.EdgeId.{EdgeId}
use Rattle.lp_model.specs.declared.ids.InstId.{InstId}
use Rattle.lp_model.specs.declared.ids.LeafId.{LeafId}
use Rattle.lp_model.specs.declared.ids.NodeId.{NodeId}
use Rattle.lp_model.specs.declared.ids.OriginId.{OriginId}
use Rattle.lp_model.specs.declared.ids.SetId.{SetId}
use Rattle.lp_model.specs.declared.ids.StrategyId.{StrategyId}
use Rattle.lp_model.specs.declared.intent.Domain.{Domain}
use Rattle.lp_model.specs.declared.intent.Element.TheVariants as elements
use Rattle.lp_model.specs.declared.intent.PowerSwitch.{PowerSwitch}
use Rattle.lp_model.specs.declared.intent.ScopedName.{ScopedName}
use Rattle.lp_model.specs.declared.intent.SetName.TheVariants.{Made, Primary}
use Rattle.lp_model.specs.declared.intent.Strategy.{Strategy}
use Rattle.lp_model.specs.declared.intent.SupplyPort.{SupplyPort}
use Rattle.lp_model.specs.declared.intent.SupplySet.{SupplySet}
use Rattle.lp_model.specs.declared.library.Cell.{Cell}
use Rattle.lp_model.specs.declared.library.PgPin.{PgPin}
use Rattle.lp_model.specs.declared.library.Pin.{Pin}
use Rattle.lp_model.specs.declared.netlist.Module.{Module}
use Rattle.lp_model.specs.declared.netlist.Port.{Port}
use Rattle.lp_model.specs.FaultLines.{line_text}
use Rattle.lp_fault_text.specs.Lines.{line_of}
use Rattle.lp_fault_text.specs.Paths.{path}
use Rattle.lp_fault_text.specs.Views.{GraphView, IntentView, KnownView}

abbrev name : ℕ → NameId
name n = record { 0 = n }

abbrev inst : ℕ → InstId
inst n = record { 0 = n }

abbrev leaf : ℕ → LeafId
leaf n = record { 0 = n }

abbrev node : ℕ → NodeId
node n = record { 0 = n }

abbrev edge : ℕ → EdgeId
edge n = record { 0 = n }

abbrev set : ℕ → SetId
set n = record { 0 = n }

abbrev origin : ℕ → OriginId
origin n = record { 0 = n }

abbrev strategy : ℕ → StrategyId
strategy n = record { 0 = n }

abbrev at : ℕ → ℕ → Place
at line column = record { line = line; column = column }

abbrev made_in : ℕ → ℕ → ScopedName
made_in scope n = record { scope = inst scope; name = name n }

-- numbers stay as their decimal texts
abbrev spot : ℕ → ℕ → List ℕ
spot line column = decimal line ++ (codes ":" ++ decimal column)

abbrev bit : List ℕ → ℕ → List ℕ
bit n index = n ++ (codes "[" ++ (decimal index ++ codes "]"))

-- the names of all parts
abbrev texts : List (List ℕ)
texts = codes "soc" ∷ codes "u" ∷ codes "v+" ∷ codes "b" ∷ codes "r" ∷ codes "q" ∷ codes "o" ∷ codes "w" ∷ codes "d" ∷ codes "A" ∷ codes "Y" ∷ codes "VDD" ∷ codes "PT" ∷ codes "PC" ∷ codes "SS" ∷ codes "VX" ∷ codes "VSS" ∷ codes "SW" ∷ codes "I1" ∷ codes "I2" ∷ codes "blk" ∷ []

-- the lines do not depend on what else is known of the parts
module _ (s : Strategy) (d : Domain) (w : PowerSwitch) (p : SupplyPort) (g : SupplySet) (c : Cell) (q : Pin) (r : PgPin) (m : Module) (h : Port) (x : Inst) (l : Leaf) (n : Node) (e : Edge) where
  abbrev net : ℕ → NodeName → Node
  net i called = record n { inst = inst i; name = called }

  abbrev way : EdgeFrom → ℕ → Edge
  way from to = record e { from = from; to = node to }

  abbrev port : ScopedName → ℕ → Bool → SupplyPort
  port called command is_source = record p { name = called; command = command; is_source = is_source }

  abbrev graph : GraphView
  graph = record {
    instances = record x { name = name 0; «module» = 0; parent = None } ∷ record x { name = name 1; «module» = 1; parent = Some (inst 0) } ∷ record x { name = name 2; «module» = 2; parent = Some (inst 1) } ∷ [];
    leaves = record l { inst = inst 0; name = name 3; cell = record { 0 = 0 } } ∷ record l { inst = inst 2; name = name 4; cell = record { 0 = 0 } } ∷ [];
    nodes = net 0 (Scalar (name 5)) ∷ net 1 (Bit (name 6) 3) ∷ net 0 (Bit (name 7) 3) ∷ net 2 (Bit (name 8) 0) ∷ net 1 (Scalar (name 7)) ∷ net 0 (Scalar (name 5)) ∷ [];
    edges = way (froms.Node (node 1)) 2 ∷ way (froms.Node (node 4)) 3 ∷ way (froms.Const true) 3 ∷ way (froms.Node (node 0)) 5 ∷ [];
    modules = record m { ports = record h { name = name 5 } ∷ [] } ∷ record m { ports = record h { name = name 6 } ∷ [] } ∷ [];
  }

  -- a domain PT of the top, and in the scope u the domain PC with a switch that is made between two ports of the top
  abbrev intent : IntentView
  intent = record {
    domains = record d { name = made_in 0 12 } ∷ record d { name = made_in 1 13 } ∷ [];
    sets = record g { name = Made (made_in 0 14) } ∷ record g { name = Primary 1 } ∷ [];
    ports = port (made_in 0 11) 1 true ∷ port (made_in 1 15) 2 false ∷ port (made_in 0 16) 4 true ∷ [];
    switches = record w { name = made_in 1 17; command = 3 } ∷ [];
    strategies = record s { name = name 18; domain = 1 } ∷ record s { name = name 19; domain = 0 } ∷ [];
  }

  abbrev known : KnownView
  known = record {
    names = texts;
    cells = record c { pins = record q { name = name 9 } ∷ record q { name = name 10 } ∷ []; pgs = record r { name = name 11 } ∷ [] } ∷ [];
    graph = graph;
    powered = graph;
    intent = intent;
  }

  libraries_have_lines :
      map (line_of known)
      (faults.Design (designs.Library (libraries.Syntax 10 (at 1 14)))
      ∷ faults.Design (designs.Library (libraries.DuplicateCell (name 3)))
      ∷ [])
      ≡ line_text (codes "F01 Syntax") (decimal 10 ∷ spot 1 14 ∷ [])
      ∷ codes "lpinsert: F03 DuplicateCell b"
      ∷ []
  unfolding path
  libraries_have_lines = refl

  netlists_have_lines :
      map (line_of known)
      (faults.Design (designs.Netlist (netlists.Unsupported (at 1 41) (name 7)))
      ∷ faults.Design (designs.Netlist (netlists.Limit limits.Bytes))
      ∷ faults.Design (designs.Netlist (netlists.TwoDrivers (node 3)))
      ∷ faults.Design (designs.Netlist (netlists.WireLoop (node 0)))
      ∷ faults.Powered (netlists.TwoDrivers (node 3))
      ∷ faults.Powered (netlists.Syntax (at 2 15))
      ∷ [])
      ≡ line_text (codes "F11 Unsupported") (spot 1 41 ∷ codes "w" ∷ [])
      ∷ line_text (codes "F22 Limit") (decimal 1 ∷ [])
      ∷ line_text (codes "F16 TwoDrivers") (bit (codes "u/v+/d") 0 ∷ [])
      ∷ codes "lpinsert: F23 WireLoop q"
      ∷ line_text (codes "powered F16 TwoDrivers") (bit (codes "u/v+/d") 0 ∷ [])
      ∷ line_text (codes "powered F10 Syntax") (spot 2 15 ∷ [])
      ∷ []
  unfolding path
  netlists_have_lines = refl

  other_texts_have_lines :
      map (line_of known)
      (faults.Loaded 2 (intents.ClampRefused (at 1 62))
      ∷ faults.NotYet 4
      ∷ [])
      ≡ line_text ((codes "loaded " ++ (decimal 2 ++ codes " ")) ++ codes "F34 ClampRefused") (spot 1 62 ∷ [])
      ∷ line_text (codes "F99 NotYet") (decimal 4 ∷ [])
      ∷ []
  unfolding path
  other_texts_have_lines = refl

  pins_have_lines :
      map (line_of known)
      (faults.Pins (pins.PinUnsupplied (leaf 1) 0)
      ∷ faults.Pins (pins.Loop (node 4))
      ∷ faults.Pins (pins.NoOrigin (origin 1))
      ∷ [])
      ≡ codes "lpinsert: P1 PinUnsupplied u/v+/r VDD"
      ∷ codes "lpinsert: P2 Loop u/w"
      ∷ codes "lpinsert: P3 NoOrigin u/SW"
      ∷ []
  unfolding path
  pins_have_lines = refl

  supplies_have_scopes :
      map (line_of known)
      (faults.Design (designs.Supply (supplies.NoDomain (name 0)))
      ∷ faults.Design (designs.Supply (supplies.NoPrimary 1))
      ∷ faults.Design (designs.Supply (supplies.Undriven (undriven.Set (set 1))))
      ∷ faults.Design (designs.Supply (supplies.Undriven (undriven.Port (made_in 1 15))))
      ∷ faults.Design (designs.Supply (supplies.TwoSources (made_in 2 15)))
      ∷ faults.Design (designs.Supply (supplies.SupplyLoop 0))
      ∷ faults.Design (designs.Supply (supplies.NoStates (origin 0)))
      ∷ faults.Design (designs.Supply (supplies.GroundLevel (origin 2)))
      ∷ faults.Design (designs.Supply (supplies.StateMismatch (rows.Row 2)))
      ∷ faults.Design (designs.Supply (supplies.StateMismatch (rows.Origin (origin 1))))
      ∷ faults.Design (designs.Supply (supplies.GroundMismatch (set 0) (set 1)))
      ∷ [])
      ≡ codes "lpinsert: F35 NoDomain soc"
      ∷ codes "lpinsert: F36 NoPrimary u/PC"
      ∷ codes "lpinsert: F37 Undriven u/PC.primary"
      ∷ codes "lpinsert: F37 Undriven u/VX"
      ∷ codes "lpinsert: F38 TwoSources u/v+/VX"
      ∷ codes "lpinsert: F39 SupplyLoop u/SW"
      ∷ codes "lpinsert: F40 NoStates VDD"
      ∷ codes "lpinsert: F41 GroundLevel VSS"
      ∷ line_text (codes "F42 StateMismatch") (decimal 2 ∷ [])
      ∷ codes "lpinsert: F42 StateMismatch u/SW"
      ∷ codes "lpinsert: F63 GroundMismatch SS u/PC.primary"
      ∷ []
  unfolding path
  supplies_have_scopes = refl

  strategies_have_domains :
      map (line_of known)
      (faults.Design (designs.Strategy (strategies.Loop (node 5)))
      ∷ faults.Design (designs.Strategy (strategies.NotBoundary (strategy 0) (elements.Inst (inst 0))))
      ∷ faults.Design (designs.Strategy (strategies.NotBoundary (strategy 1) (elements.Port (inst 1) 0)))
      ∷ faults.Design (designs.Strategy (strategies.Tied (sites.Bit (edge 0)) (strategy 0) (strategy 1)))
      ∷ faults.Design (designs.Strategy (strategies.SplitSinks (edge 1) (strategy 0)))
      ∷ faults.Design (designs.Strategy (strategies.UncoveredIsolation (drivers.Pin (leaf 1) 1) (readers.Pin (leaf 0) 0) 0))
      ∷ faults.Design (designs.Strategy (strategies.UncoveredLevel drivers.Nothing (readers.Clamp (edge 2)) 2))
      ∷ faults.Design (designs.Strategy (strategies.ShiftForbidden (drivers.Port (node 0)) (readers.Port (node 5)) 1))
      ∷ faults.Design (designs.Strategy (strategies.LocationOrder (edge 0) (strategy 0) (strategy 1)))
      ∷ faults.Design (designs.Strategy (strategies.NoPlace (edge 3) (strategy 1)))
      ∷ faults.Design (designs.Strategy (strategies.ControlLevel (controls.Switch 0) (node 2) 3))
      ∷ faults.Design (designs.Strategy (strategies.NoCell (entries.Switch 0)))
      ∷ faults.Design (designs.Strategy (strategies.NoSupply (sites.Register (leaf 1)) (strategy 0)))
      ∷ faults.Design (designs.Strategy (strategies.UnfitPower (leaf 0)))
      ∷ [])
      ≡ codes "lpinsert: F21 Loop q"
      ∷ codes "lpinsert: F50 NotBoundary u/PC.I1 soc"
      ∷ codes "lpinsert: F50 NotBoundary PT.I2 u/o"
      ∷ line_text (codes "F51 Tied") (bit (codes "u/o") 3 ∷ codes "u/PC.I1" ∷ codes "PT.I2" ∷ [])
      ∷ line_text (codes "F52 SplitSinks") (bit (codes "u/v+/d") 0 ∷ codes "u/PC.I1" ∷ [])
      ∷ line_text (codes "F53 UncoveredIsolation") (codes "u/v+/r/Y" ∷ codes "b/A" ∷ decimal 0 ∷ [])
      ∷ line_text (codes "F54 UncoveredLevel") (codes "none" ∷ bit (codes "u/v+/d") 0 ∷ decimal 2 ∷ [])
      ∷ line_text (codes "F55 ShiftForbidden") (codes "q" ∷ codes "q" ∷ decimal 1 ∷ [])
      ∷ line_text (codes "F57 LocationOrder") (bit (codes "u/o") 3 ∷ codes "u/PC.I1" ∷ codes "PT.I2" ∷ [])
      ∷ codes "lpinsert: F58 NoPlace q PT.I2"
      ∷ line_text (codes "F59 ControlLevel") (codes "u/SW" ∷ bit (codes "w") 3 ∷ decimal 3 ∷ [])
      ∷ codes "lpinsert: F60 NoCell u/SW"
      ∷ codes "lpinsert: F62 NoSupply u/v+/r u/PC.I1"
      ∷ codes "lpinsert: F66 UnfitPower b"
      ∷ []
  unfolding path
  strategies_have_domains = refl

  checked_netlists_have_paths :
      map (line_of known)
      (faults.Check (check.Instance (lost.Port 0))
      ∷ faults.Check (check.Instance (lost.Added (inst 2)))
      ∷ faults.Check (check.Edge (readers.Pin (leaf 0) 0))
      ∷ faults.Check (check.Control (entries.Bit (edge 0) (strategy 0)))
      ∷ faults.Check (check.Control (entries.Switch 0))
      ∷ faults.Check (check.Supply (supplied.Pin (leaf 1) 0))
      ∷ faults.Check (check.Supply (supplied.Port (origin 0)))
      ∷ faults.Check (check.Cell (leaf 1))
      ∷ faults.Check (check.UnusedSwitch 0)
      ∷ [])
      ≡ codes "lpinsert: C1 Instance q"
      ∷ codes "lpinsert: C1 Instance u/v+"
      ∷ codes "lpinsert: C2 Edge b/A"
      ∷ line_text (codes "C3 Control") (bit (codes "u/o") 3 ∷ codes "u/PC.I1" ∷ [])
      ∷ codes "lpinsert: C3 Control u/SW none"
      ∷ codes "lpinsert: C4 Supply u/v+/r VDD"
      ∷ codes "lpinsert: C4 Supply soc VDD"
      ∷ codes "lpinsert: C6 Cell u/v+/r"
      ∷ codes "lpinsert: C7 UnusedSwitch u/SW"
      ∷ []
  unfolding path
  checked_netlists_have_paths = refl
