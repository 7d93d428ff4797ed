-- What power intent makes, as texts: the path of the scope in which it was made, then its name, joined by `/` (own rule over IEEE 1801-2015 create_power_domain, create_supply_port, create_supply_net, create_supply_set, create_power_switch).
use Rattle.std.specs.Prelude.{ℕ, List, [], ◌∷◌, ◌++◌, codes, map, take, drop, filter, length, nat_le, unwrap_or, slice_get}
use Rattle.std.specs.List.{position}
use Rattle.lp_text.specs.Texts.{text_at}
use Rattle.lp_model.specs.declared.ids.OriginId.{OriginId}
use Rattle.lp_model.specs.declared.ids.SetId.{SetId}
use Rattle.lp_model.specs.declared.ids.StrategyId.{StrategyId}
use Rattle.lp_model.specs.declared.intent.PowerSwitch.{PowerSwitch}
use Rattle.lp_model.specs.declared.intent.ScopedName.{ScopedName}
use Rattle.lp_model.specs.declared.intent.SetName.{SetName}
use Rattle.lp_model.specs.declared.intent.SetName.TheVariants.{Made, Primary}
use Rattle.lp_model.specs.declared.intent.SupplyPort.{SupplyPort}
use Rattle.lp_fault_text.specs.Views.{IntentView, KnownView}
use Rattle.lp_fault_text.specs.Paths.{text_in, text_of}

-- a name that was made in a scope
abbrev pub scoped_text : KnownView → ScopedName → List ℕ
scoped_text k made = text_in k.names k.graph.instances made.scope (text_at k.names made.name.0)

abbrev pub domain_text : KnownView → ℕ → List ℕ
domain_text k number = text_of (λ d. scoped_text k d.name) (slice_get k.intent.domains number)

-- a set that set_domain_supply_net makes is the domain's primary one
abbrev pub set_name_text : KnownView → SetName → List ℕ
set_name_text k (Made name) = scoped_text k name
set_name_text k (Primary domain) = domain_text k domain ++ codes ".primary"

abbrev pub set_text : KnownView → SetId → List ℕ
set_text k set = text_of (λ s. set_name_text k s.name) (slice_get k.intent.sets set.0)

abbrev pub switch_text : KnownView → ℕ → List ℕ
switch_text k number = text_of (λ s. scoped_text k s.name) (slice_get k.intent.switches number)

-- DOMAIN.STRATEGY
abbrev pub strategy_text : KnownView → StrategyId → List ℕ
strategy_text k strategy = text_of (λ s. domain_text k s.domain ++ (codes "." ++ text_at k.names s.name.0)) (slice_get k.intent.strategies strategy.0)

-- ---- origins: the supply ports that are sources and the switches, in the order of the commands that made them

-- how many switches were made before a command: those that stand before the first that was not
abbrev pub made_before : ℕ → List PowerSwitch → ℕ
made_before command switches = unwrap_or (position (λ s. nat_le command s.command) switches) (length switches)

-- before each port the switches that were made before it, and those that are left at the end
abbrev pub in_order : List SupplyPort → List PowerSwitch → List ScopedName
in_order [] switches = map (λ s. s.name) switches
in_order (p ∷ ports) switches = map (λ s. s.name) (take (made_before p.command switches) switches) ++ p.name ∷ in_order ports (drop (made_before p.command switches) switches)

abbrev pub origins : IntentView → List ScopedName
origins i = in_order (filter (λ p. p.is_source) i.ports) i.switches

abbrev pub origin_text : KnownView → OriginId → List ℕ
origin_text k origin = text_of (scoped_text k) (slice_get (origins k.intent) origin.0)
