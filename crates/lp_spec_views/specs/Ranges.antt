-- The numbers of a power intent are within the tables of its graph and its own lists (own rule).
use Rattle.std.specs.Prelude.{◌≡◌, nat_lt, Bool, true, ◌&&◌, length, Option, Some, None}
use Rattle.std.specs.List.{list_all}
use Rattle.lp_model.specs.declared.ids.InstId.{InstId}
use Rattle.lp_model.specs.declared.ids.NodeId.{NodeId}
use Rattle.lp_model.specs.declared.ids.SetId.{SetId}
use Rattle.lp_model.specs.declared.intent.Domain.{Domain}
use Rattle.lp_model.specs.declared.intent.Element.{Element}
use Rattle.lp_model.specs.declared.intent.Element.TheVariants.{Inst, Leaf, Port, Bit}
use Rattle.lp_model.specs.declared.intent.Intent.{Intent}
use Rattle.lp_model.specs.declared.intent.PortAttribute.{PortAttribute}
use Rattle.lp_model.specs.declared.intent.SetOrDomain.{SetOrDomain}
use Rattle.lp_model.specs.declared.intent.SetOrDomain.TheVariants as named
use Rattle.lp_model.specs.declared.intent.Signal.{Signal}
use Rattle.lp_model.specs.declared.intent.Strategy.{Strategy}
use Rattle.lp_spec_bridge.specs.Tables.{Tables}

abbrev pub all_of : {A : Type 0} → (A → Bool) → Option A → Bool
all_of p None = true
all_of p (Some x) = p x

abbrev pub has_instance : Tables → InstId → Bool
has_instance t i = nat_lt i.0 (length t.instances)

-- a net bit of an instance
abbrev pub has_net_bit : Tables → NodeId → Bool
has_net_bit t k = nat_lt k.0 t.inner

abbrev pub has_set : Intent → SetId → Bool
has_set i k = nat_lt k.0 (length i.sets)

abbrev pub has_named : Intent → SetOrDomain → Bool
has_named i (named.Set k) = has_set i k
has_named i (named.Domain d) = nat_lt d (length i.domains)

abbrev pub has_element : Tables → Element → Bool
has_element t (Inst i) = has_instance t i
has_element t (Leaf l) = nat_lt l.0 (length t.leaves)
has_element t (Port i n) = has_instance t i
has_element t (Bit k) = has_net_bit t k

abbrev pub has_signal : Tables → Signal → Bool
has_signal t x = has_net_bit t x.node

abbrev pub has_handles : Intent → Domain → Bool
has_handles i d = all_of (has_set i) d.primary && (all_of (has_set i) d.isolation && all_of (has_set i) d.retention)

abbrev pub has_supplies : Intent → Strategy → Bool
has_supplies i x = all_of (has_set i) x.supply && (all_of (has_set i) x.input && all_of (has_set i) x.output)

abbrev pub has_elements : Tables → Strategy → Bool
has_elements t x = all_of (list_all (has_element t)) x.elements && list_all (has_element t) x.excluded

abbrev pub has_ends : Intent → Strategy → Bool
has_ends i x = all_of (has_named i) x.source && all_of (has_named i) x.sink

abbrev pub has_controls : Tables → Strategy → Bool
has_controls t x = all_of (has_net_bit t) x.control && (all_of (has_signal t) x.save && all_of (has_signal t) x.restore)

abbrev pub has_sides : Intent → PortAttribute → Bool
has_sides i a = all_of (has_set i) a.driver && all_of (has_set i) a.receiver

pub record IsInRange (t : Tables) (i : Intent) : Type 0 where
  pub listed : list_all (λ (d : Domain). list_all (has_instance t) d.elements) i.domains ≡ true
  pub handles : list_all (has_handles i) i.domains ≡ true
  pub domains : list_all (λ (x : Strategy). nat_lt x.domain (length i.domains)) i.strategies ≡ true
  pub elements : list_all (has_elements t) i.strategies ≡ true
  pub ends : list_all (has_ends i) i.strategies ≡ true
  pub supplies : list_all (has_supplies i) i.strategies ≡ true
  pub controls : list_all (has_controls t) i.strategies ≡ true
  pub sides : list_all (has_sides i) i.attributes ≡ true
