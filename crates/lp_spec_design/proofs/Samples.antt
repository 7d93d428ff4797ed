-- Small designs on which the definitions are computed: a top with one block, whose output a gate reads.
use Rattle.std.specs.Prelude.{ℕ, ◌+◌, nat_lt, ◌==◌, true, false, List, [], ◌∷◌, ◌++◌, Option, Some, None, codes, if◌then◌else◌}
use Rattle.lp_model.specs.declared.netlist.Direction.TheVariants.{Input, Output}
use Rattle.lp_model.specs.declared.netlist.Direction.{Direction}
use Rattle.lp_model.specs.declared.netlist.BitRange.{BitRange}
use Rattle.lp_model.specs.declared.library.PinUse.TheVariants as uses
use Rattle.lp_model.specs.declared.library.Action.TheVariants.{Rise}
use Rattle.lp_model.specs.declared.side.Location.TheVariants as locations
use Rattle.lp_model.specs.declared.intent.Applies.{Applies}
use Rattle.lp_model.specs.declared.intent.Applies.TheVariants as applies
use Rattle.lp_model.specs.declared.intent.Rule.TheVariants as rules
use Rattle.lp_model.specs.declared.intent.StrategyKind.TheVariants as kinds
use Rattle.lp_model.specs.NetlistView.{BitView, NetBit, SelectBit, PortView, ConnectionView, ByName, ModuleView}
use Rattle.lp_expr.specs.declared.step.Step.TheVariants as steps
use Rattle.lp_model.specs.declared.library.StateKind.TheVariants.{Flop}
use Rattle.lp_model.specs.LibraryView.{ExprView, CellView, PinView}
use Rattle.lp_spec_design.specs.Keys.{Name, Inner}
use Rattle.lp_spec_design.specs.Netlists.{Structure}
use Rattle.lp_spec_design.specs.Intents.{SetNumber, Element, Domain, Strategy, Intent, FromPort, FromSwitch, Network}

abbrev pub pin : Name → Direction → Option ExprView → PinView
pin n d f = record { name = n; direction = d; function = f; power_down = None; power = 0; gnd = None; use_of = uses.Plain }

abbrev pub cell : Name → List PinView → CellView
cell n pins = record { name = n; area = 0; pgs = []; pins = pins; state = None; roles = record { iso = false; shifter = None; retention = None; switch = false }; unusable = None }

abbrev pub inverter : CellView
inverter = cell (codes "INV") (pin (codes "A") Input None ∷ pin (codes "Y") Output (Some (record { variables = codes "A" ∷ []; steps = steps.Variable 0 ∷ steps.Not ∷ [] })) ∷ [])

abbrev pub buffer : CellView
buffer = cell (codes "BUF") (pin (codes "A") Input None ∷ pin (codes "Y") Output (Some (record { variables = codes "A" ∷ []; steps = steps.Variable 0 ∷ [] })) ∷ [])

abbrev pub never : ExprView
never = record { variables = []; steps = steps.Constant false ∷ [] }

abbrev pub one_name : Name → ExprView
one_name n = record { variables = n ∷ []; steps = steps.Variable 0 ∷ [] }

-- a register of D at the rise of CK, whose output is its state
abbrev pub register : CellView
register = record (cell (codes "DFF") (pin (codes "D") Input None ∷ pin (codes "CK") Input None ∷ pin (codes "Q") Output (Some (one_name (codes "IQ"))) ∷ [])) {
  state = Some (record { kind = Flop; var = codes "IQ"; inverse = codes "IQN"; next = one_name (codes "D"); clock = one_name (codes "CK"); clear = never; preset = never; power_down = never });
}

abbrev pub port : Name → Direction → Option BitRange → PortView
port n d r = record { name = n; direction = d; range = r }

abbrev pub to : Name → BitView → ConnectionView
to p b = record { port = p; bits = b ∷ [] }

-- module core (i, o): o is the complement of i
abbrev pub core : ModuleView
core = record {
  name = codes "core";
  ports = port (codes "i") Input None ∷ port (codes "o") Output None ∷ [];
  nets = [];
  instances = record { name = codes "g"; target = codes "INV"; connections = ByName (to (codes "A") (NetBit (codes "i")) ∷ to (codes "Y") (NetBit (codes "o")) ∷ []) } ∷ [];
  assigns = [];
}

-- module top (a, en, y): a buffer reads the output of one instance of core
abbrev pub top : ModuleView
top = record {
  name = codes "top";
  ports = port (codes "a") Input None ∷ port (codes "en") Input None ∷ port (codes "y") Output None ∷ [];
  nets = record { name = codes "n"; range = None } ∷ [];
  instances =
      record { name = codes "u"; target = codes "core"; connections = ByName (to (codes "i") (NetBit (codes "a")) ∷ to (codes "o") (NetBit (codes "n")) ∷ []) }
      ∷ record { name = codes "b"; target = codes "BUF"; connections = ByName (to (codes "A") (NetBit (codes "n")) ∷ to (codes "Y") (NetBit (codes "y")) ∷ []) }
      ∷ [];
  assigns = [];
}

abbrev pub plain : Structure
plain = record { modules = top ∷ core ∷ []; cells = inverter ∷ buffer ∷ [] }

-- the same with a register in the top whose output is the net sl
abbrev pub switched_top : ModuleView
switched_top = record top {
  nets = record { name = codes "n"; range = None } ∷ record { name = codes "sl"; range = None } ∷ [];
  instances = record { name = codes "k"; target = codes "DFF"; connections = ByName (to (codes "D") (NetBit (codes "a")) ∷ to (codes "CK") (NetBit (codes "en")) ∷ to (codes "Q") (NetBit (codes "sl")) ∷ []) } ∷ top.instances;
}

abbrev pub switched : Structure
switched = record { modules = switched_top ∷ core ∷ []; cells = inverter ∷ buffer ∷ register ∷ [] }

-- the same with an inverter behind the output of the block, in the block, whose output is the top's z
abbrev pub read_inside : Structure
read_inside = record {
  modules =
      record top {
        ports = port (codes "z") Output None ∷ top.ports;
        instances =
            record { name = codes "u"; target = codes "core"; connections = ByName (to (codes "i") (NetBit (codes "a")) ∷ to (codes "o") (NetBit (codes "n")) ∷ to (codes "p") (NetBit (codes "z")) ∷ []) }
            ∷ record { name = codes "b"; target = codes "BUF"; connections = ByName (to (codes "A") (NetBit (codes "n")) ∷ to (codes "Y") (NetBit (codes "y")) ∷ []) }
            ∷ [];
      }
      ∷ record core {
        ports = port (codes "p") Output None ∷ core.ports;
        instances = record { name = codes "h"; target = codes "INV"; connections = ByName (to (codes "A") (NetBit (codes "o")) ∷ to (codes "Y") (NetBit (codes "p")) ∷ []) } ∷ core.instances;
      }
      ∷ [];
  cells = inverter ∷ buffer ∷ [];
}

-- the same with an output t of the block that an assign feeds from its input, and an output that nothing is connected to
abbrev pub fed_through : Structure
fed_through = record {
  modules =
      record top {
        ports = port (codes "z") Output None ∷ top.ports;
        instances =
            record { name = codes "u"; target = codes "core"; connections = ByName (to (codes "i") (NetBit (codes "a")) ∷ to (codes "o") (NetBit (codes "n")) ∷ to (codes "t") (NetBit (codes "z")) ∷ []) }
            ∷ record { name = codes "b"; target = codes "BUF"; connections = ByName (to (codes "A") (NetBit (codes "n")) ∷ to (codes "Y") (NetBit (codes "y")) ∷ []) }
            ∷ [];
      }
      ∷ record core {
        ports = port (codes "open") Output None ∷ port (codes "t") Output None ∷ core.ports;
        assigns = record { left = NetBit (codes "t") ∷ []; right = NetBit (codes "i") ∷ [] } ∷ [];
      }
      ∷ [];
  cells = inverter ∷ buffer ∷ [];
}

-- the same with a register in the block in place of its inverter
abbrev pub registered : Structure
registered = record {
  modules =
      record top {
        ports = top.ports ++ (port (codes "ck") Input None ∷ port (codes "sv") Input None ∷ port (codes "rs") Input None ∷ []);
        instances =
            record { name = codes "u"; target = codes "core"; connections = ByName (to (codes "i") (NetBit (codes "a")) ∷ to (codes "ck") (NetBit (codes "ck")) ∷ to (codes "o") (NetBit (codes "n")) ∷ []) }
            ∷ record { name = codes "b"; target = codes "BUF"; connections = ByName (to (codes "A") (NetBit (codes "n")) ∷ to (codes "Y") (NetBit (codes "y")) ∷ []) }
            ∷ [];
      }
      ∷ record core {
        ports = port (codes "ck") Input None ∷ core.ports;
        instances = record { name = codes "r"; target = codes "DFF"; connections = ByName (to (codes "D") (NetBit (codes "i")) ∷ to (codes "CK") (NetBit (codes "ck")) ∷ to (codes "Q") (NetBit (codes "o")) ∷ []) } ∷ [];
      }
      ∷ [];
  cells = inverter ∷ buffer ∷ register ∷ [];
}

-- the same with a register in the block whose output is the net sl of the top
abbrev pub switched_from_inside : Structure
switched_from_inside = record {
  modules =
      record switched_top {
        instances = record { name = codes "u"; target = codes "core"; connections = ByName (to (codes "i") (NetBit (codes "a")) ∷ to (codes "o") (NetBit (codes "n")) ∷ to (codes "q") (NetBit (codes "sl")) ∷ []) } ∷ [];
      }
      ∷ record core {
        ports = port (codes "q") Output None ∷ core.ports;
        instances = record { name = codes "k"; target = codes "DFF"; connections = ByName (to (codes "D") (NetBit (codes "i")) ∷ to (codes "CK") (NetBit (codes "i")) ∷ to (codes "Q") (NetBit (codes "q")) ∷ []) } ∷ core.instances;
      }
      ∷ [];
  cells = inverter ∷ buffer ∷ register ∷ [];
}

-- the same with an output of two bits, both of which are read
abbrev pub wide_output : PortView
wide_output = port (codes "o") Output (Some (record { left = 1; right = 0 }))

abbrev pub wide_core : ModuleView
wide_core = record {
  name = codes "core";
  ports = port (codes "i") Input None ∷ wide_output ∷ [];
  nets = [];
  instances =
      record { name = codes "g"; target = codes "INV"; connections = ByName (to (codes "A") (NetBit (codes "i")) ∷ to (codes "Y") (SelectBit (codes "o") 1) ∷ []) }
      ∷ record { name = codes "h"; target = codes "INV"; connections = ByName (to (codes "A") (NetBit (codes "i")) ∷ to (codes "Y") (SelectBit (codes "o") 0) ∷ []) }
      ∷ [];
  assigns = [];
}

abbrev pub wide_top : ModuleView
wide_top = record {
  name = codes "top";
  ports = port (codes "a") Input None ∷ port (codes "en") Input None ∷ port (codes "y") Output (Some (record { left = 1; right = 0 })) ∷ [];
  nets = record { name = codes "n"; range = Some (record { left = 1; right = 0 }) } ∷ [];
  instances =
      record { name = codes "u"; target = codes "core"; connections = ByName (to (codes "i") (NetBit (codes "a")) ∷ record { port = codes "o"; bits = SelectBit (codes "n") 1 ∷ SelectBit (codes "n") 0 ∷ [] } ∷ []) }
      ∷ record { name = codes "b"; target = codes "BUF"; connections = ByName (to (codes "A") (SelectBit (codes "n") 1) ∷ to (codes "Y") (SelectBit (codes "y") 1) ∷ []) }
      ∷ record { name = codes "c"; target = codes "BUF"; connections = ByName (to (codes "A") (SelectBit (codes "n") 0) ∷ to (codes "Y") (SelectBit (codes "y") 0) ∷ []) }
      ∷ [];
  assigns = [];
}

abbrev pub wide : Structure
wide = record { modules = wide_top ∷ wide_core ∷ []; cells = inverter ∷ buffer ∷ [] }

-- a domain of the top, whose primary supply is set 0, and one of the block, whose primary supply is set 1
abbrev pub domains : List Domain
domains = record { elements = [] ∷ []; primary = Some 0; isolation = None; retention = None } ∷ record { elements = (codes "u" ∷ []) ∷ []; primary = Some 1; isolation = None; retention = None } ∷ []

abbrev pub with_strategies : List Strategy → Intent
with_strategies strategies = record { domains = domains; strategies = strategies; drivers = []; receivers = [] }

-- an isolation by set 0 and by the top's net en
abbrev pub isolation : ℕ → Option (List Element) → Applies → Strategy
isolation domain elements which = record {
  kind = kinds.Isolation;
  domain = domain;
  command = 0;
  inserts = true;
  elements = elements;
  excluded = [];
  applies = which;
  source = None;
  sink = None;
  diff = false;
  location = locations.Own;
  clamp = false;
  high = true;
  rule = rules.Both;
  threshold = 0;
  supply = Some 0;
  input = None;
  output = None;
  control = Some (Inner (codes "en") None []);
  save = None;
  restore = None;
}

abbrev pub by_supply : SetNumber → Strategy → Strategy
by_supply k t = record t { supply = Some k }

abbrev pub shifting : ℕ → ℕ → Strategy
shifting domain threshold = record {
  kind = kinds.Shifting;
  domain = domain;
  command = 0;
  inserts = true;
  elements = None;
  excluded = [];
  applies = applies.Outputs;
  source = None;
  sink = None;
  diff = false;
  location = locations.Own;
  clamp = false;
  high = true;
  rule = rules.Both;
  threshold = threshold;
  supply = None;
  input = None;
  output = None;
  control = None;
  save = None;
  restore = None;
}

-- the voltages of sets 0, 1 and 2
abbrev pub volts : ℕ → ℕ → ℕ → SetNumber → ℕ
volts a b c k = if k == 0 then a else if k == 1 then b else c

-- three sets with a power origin each and one ground origin, the last
abbrev pub network : (SetNumber → ℕ) → Network
network v = record {
  sets = record { power = 0; gnd = 3 } ∷ record { power = 1; gnd = 3 } ∷ record { power = 2; gnd = 3 } ∷ [];
  origins = FromPort ∷ FromPort ∷ FromPort ∷ FromPort ∷ [];
  lower = λ a b d. nat_lt (v a + d) (v b);
  margin = 0;
}

-- the block's power comes through a switch from the top's, and is on where sl is 0
abbrev pub switched_network : Network
switched_network = record (network (volts 1000000 1000000 800000)) { origins = FromPort ∷ FromSwitch 0 (Inner (codes "sl") None []) false ∷ FromPort ∷ FromPort ∷ [] }

-- a retention of the block's registers by set 2, saved as the top's net sv rises and restored as rs does
abbrev pub retaining : Option (List Element) → Strategy
retaining elements = record (isolation 1 elements applies.Both) {
  kind = kinds.Retention;
  supply = Some 2;
  control = None;
  save = Some (Inner (codes "sv") None [], Rise);
  restore = Some (Inner (codes "rs") None [], Rise);
}
