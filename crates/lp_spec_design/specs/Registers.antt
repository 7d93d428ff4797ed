-- Retention winners, and the states of registers after an event under power intent (own rule, after IEEE 1801-2015 set_retention).
use Rattle.std.specs.Prelude.{ℕ, Bool, true, false, not, ◌&&◌, List, [], ◌∷◌, filter, Option, Some, None, is_some, if◌then◌else◌, bytes_eq}
use Rattle.std.specs.List.{list_any}
use Rattle.lp_tern.specs.declared.tern.Tern.{Tern}
use Rattle.lp_tern.specs.declared.tern.Tern.TheVariants.{X}
use Rattle.lp_model.specs.declared.library.Action.{Action}
use Rattle.lp_model.specs.declared.library.StateKind.{StateKind}
use Rattle.lp_model.specs.declared.intent.StrategyKind.TheVariants.{Retention}
use Rattle.lp_model.specs.LibraryView.{StateView, CellView}
use Rattle.lp_behaviour.specs.Registers.{loaded_of, forced_of, fires_of, main_of, copy_of}
use Rattle.lp_spec_design.specs.Keys.{Name, Path, same_path, Node}
use Rattle.lp_spec_design.specs.Netlists.{Structure, cell_at}
use Rattle.lp_spec_design.specs.Graph.{numbered}
use Rattle.lp_spec_design.specs.Intents.{Element, AtInstance, AtCell, AtPort, AtBit, Strategy, Intent}
use Rattle.lp_spec_design.specs.Domains.{domain_of, primary_of, same_domain}
use Rattle.lp_spec_design.specs.Winners.{same_kind, winner_among}
use Rattle.lp_spec_design.specs.Settled.{Assignment, Registers, Design, at, set_on, kept, function_value, pins_at}

-- ---- retention winners

-- the first instance is the second or one above it
abbrev pub is_above : Path → Path → Bool
is_above q [] = same_path q []
is_above q (x ∷ p) = if same_path q (x ∷ p) then true else is_above q p

-- an element names a register itself, or a module instance in which it stands
abbrev pub names_register : Path → Name → Element → Bool
names_register p x (AtCell q y) = same_path q p && bytes_eq x y
names_register p x (AtInstance q) = is_above q p
names_register p x (AtPort q n) = false
names_register p x (AtBit q n j) = false

abbrev pub is_cell : Element → Bool
is_cell (AtCell q y) = true
is_cell _ = false

abbrev pub is_listed_register : Path → Name → Option (List Element) → Bool
is_listed_register p x None = true
is_listed_register p x (Some elements) = list_any (names_register p x) elements

-- a retention strategy applies to the registers of its domain that it lists and does not exclude
abbrev pub retains : Intent → Path → Name → Strategy → Bool
retains i p x t =
    same_kind Retention t.kind
    && (same_domain (domain_of i p) (Some t.domain)
    && (is_listed_register p x t.elements
    && not (list_any (names_register p x) t.excluded)))

-- a named register, a named module instance, a domain
abbrev pub retention_rank : Path → Name → Strategy → ℕ
retention_rank p x t = by t.elements
  where
    by : Option (List Element) → ℕ
    by None = 1
    by (Some elements) = if list_any (λ e. is_cell e && names_register p x e) elements then 3 else 2

abbrev pub retention_winner : Intent → Path → Name → Option (ℕ × Strategy)
retention_winner i p x = winner_among (retention_rank p x) (filter (λ t. retains i p x t.1) (numbered 0 i.strategies))

-- a winner that inserts nothing retains nothing
abbrev pub inserting : Option (ℕ × Strategy) → Option Strategy
inserting None = None
inserting (Some t) = if t.1.inserts then Some t.1 else None

abbrev pub retention : Intent → Path → Name → Option Strategy
retention i p x = inserting (retention_winner i p x)

-- ---- registers

-- a register: a cell instance whose cell has a state group
abbrev pub holds_state : Option CellView → Bool
holds_state None = false
holds_state (Some c) = is_some c.state

abbrev pub is_register : Structure → Path → Name → Bool
is_register s p x = holds_state (cell_at s p x)

-- a register with a retention winner that inserts
abbrev pub is_retained_register : Structure → Intent → Path → Name → Bool
is_retained_register s i p x = is_register s p x && is_some (retention i p x)

-- ---- the next state of a cell (Liberty ff and latch)

abbrev pub loaded : StateKind → CellView → StateView → (Name → Tern) → (Name → Tern) → Tern → Tern
loaded kind c g last now q = loaded_of kind (function_value c last q g.clock) (function_value c now q g.clock) (function_value c last q g.next) (function_value c now q g.next) q

abbrev pub state_after : CellView → Option StateView → (Name → Tern) → (Name → Tern) → Tern → Tern
state_after c None last now q = X
state_after c (Some g) last now q = forced_of (function_value c now q g.clear) (function_value c now q g.preset) (loaded g.kind c g last now q)

abbrev pub cell_after : Option CellView → (Name → Tern) → (Name → Tern) → Tern → Tern
cell_after None last now q = X
cell_after (Some c) last now q = state_after c c.state last now q

-- ---- main and saved states

pub record States : Type 0 where
  pub main : Registers
  pub saved : Registers

-- what settled before an event, if one went before; else every pin and every control was X, constants too
abbrev pub pins_before : Structure → Option Assignment → Path → Name → Name → Tern
pins_before s None p x q = X
pins_before s (Some A) p x q = pins_at s A p x q

abbrev pub before : Option Assignment → Node → Tern
before None k = X
before (Some A) k = at A k

-- whether a save or a restore takes place, from its control before the event and in it
abbrev pub fires_at : Option Assignment → Assignment → Option (Node × Action) → Tern
fires_at last A None = X
fires_at last A (Some control) = fires_of control.1 (before last control.0) (at A control.0)

abbrev pub copy_held : Design → Assignment → Strategy → Tern → Tern
copy_held d A t v = kept (set_on d.network A t.supply) v

abbrev pub restored : Design → Option Assignment → Assignment → Option Strategy → Tern → Tern → Tern
restored d last A None v result = result
restored d last A (Some t) v result = main_of (fires_at last A t.restore) (copy_held d A t v) result

abbrev pub saved_after : Design → Option Assignment → Assignment → Option Strategy → Tern → Tern → Tern
saved_after d last A None visible v = v
saved_after d last A (Some t) visible v = copy_held d A t (copy_of (fires_at last A t.save) visible (copy_held d A t v))

abbrev pub primary_on : Design → Assignment → Path → Bool
primary_on d A p = set_on d.network A (primary_of d.intent (domain_of d.intent p))

-- the states after an event: what settled before it, if any, and what settles in it
abbrev pub states_after : Design → Option Assignment → Assignment → States → States
states_after d last A s = record {
  main = λ p x. kept (primary_on d A p) (restored d last A (retention d.intent p x) (s.saved p x) (cell_after (cell_at d.structure p x) (pins_before d.structure last p x) (pins_at d.structure A p x) (s.main p x)));
  saved = λ p x. saved_after d last A (retention d.intent p x) (kept (primary_on d A p) (s.main p x)) (s.saved p x);
}
