-- Which supply sets, supply ports and supply nets are used (own rule).
use Rattle.std.specs.Prelude.{ℕ, ◌==◌, Bool, false, ◌&&◌, ◌||◌, List, map, Option, Some, None, if◌then◌else◌}
use Rattle.std.specs.List.{list_any}
use Rattle.lp_model.specs.declared.supply.SetOrigins.{SetOrigins}
use Rattle.lp_spec_design.specs.Intents.{SetNumber, Domain, Named, BySet, Strategy, PortSupply, Intent}
use Rattle.lp_spec_design.specs.Graph.{numbered}
use Rattle.lp_spec_origins.specs.Commands.{Scoped, same_scoped, Supply, PortAt, NetAt, same_supply, Command, MakesSwitch}
use Rattle.lp_spec_origins.specs.Sets.{SupplySet, set_origins}

abbrev pub is_set : SetNumber → Option SetNumber → Bool
is_set k None = false
is_set k (Some j) = j == k

abbrev pub is_named : SetNumber → Option Named → Bool
is_named k (Some (BySet j)) = j == k
is_named k _ = false

abbrev pub handle_names : SetNumber → Domain → Bool
handle_names k d = is_set k d.primary || (is_set k d.isolation || is_set k d.retention)

abbrev pub strategy_names : SetNumber → Strategy → Bool
strategy_names k t = is_set k t.supply || (is_set k t.input || (is_set k t.output || (is_named k t.source || is_named k t.sink)))

abbrev pub attribute_names : SetNumber → PortSupply → Bool
attribute_names k a = a.supply == k

-- a set is used where a domain handle, a strategy or a port attribute names it
abbrev pub is_used_set : Intent → SetNumber → Bool
is_used_set i k = list_any (handle_names k) i.domains || (list_any (strategy_names k) i.strategies || (list_any (attribute_names k) i.drivers || list_any (attribute_names k) i.receivers))

-- the sets of a supply network: the origins of each used set; any other has none, and so makes no origin a ground
abbrev pub sets_of : List Command → ℕ → Intent → List SupplySet → List (Option SetOrigins)
sets_of commands fuel i sets = map (λ x. if is_used_set i x.0 then set_origins commands fuel x.1 else None) (numbered 0 sets)

abbrev pub is_net : Scoped → Option Scoped → Bool
is_net n None = false
is_net n (Some m) = same_scoped n m

abbrev pub is_function : Scoped → SupplySet → Bool
is_function n s = is_net n s.power || (is_net n s.gnd || (is_net n s.nwell || (is_net n s.pwell || (is_net n s.deepnwell || is_net n s.deeppwell))))

abbrev pub is_input_net : Scoped → Command → Bool
is_input_net n (MakesSwitch w) = same_scoped n w.input
is_input_net n _ = false

-- a net is used as a function of a used set or as the input of a switch
abbrev pub is_used_net : List Command → Intent → List SupplySet → Scoped → Bool
is_used_net commands i sets n = list_any (λ x. is_used_set i x.0 && is_function n x.1) (numbered 0 sets) || list_any (is_input_net n) commands

-- a port or net is used as such a net, or where the state table lists it
abbrev pub is_used : List Command → Intent → List SupplySet → List Supply → Supply → Bool
is_used commands i sets table (PortAt p) = list_any (same_supply (PortAt p)) table
is_used commands i sets table (NetAt n) = is_used_net commands i sets n || list_any (same_supply (NetAt n)) table
