-- The netlists that are taken: one module of scalars (own rule).
use Rattle.std.specs.Prelude.{Bool, true, false, not, ◌&&◌, nat_eq, List, [], ◌∷◌, codes, is_none}
use Rattle.std.specs.List.{list_all, starts_with}
use Rattle.lp_model.specs.NetlistView.{BitView, NetBit, PortView, NetView, ConnectionView, ConnectionsView, ByName, ByPosition, InstanceView, ModuleView}
use Rattle.lp_spec_design.specs.Keys.{Name}
use Rattle.lp_spec_plain_module.specs.Tests.{has_no_assign}
use Rattle.lp_vwrite.specs.WellFormed.{names_of}

-- the names that are added to a netlist begin so
abbrev pub is_reserved : Name → Bool
is_reserved n = starts_with nat_eq n (codes "lp_")

-- one bit, that of a scalar net
abbrev pub is_scalar_bit : List BitView → Bool
is_scalar_bit (NetBit n ∷ []) = true
is_scalar_bit bits = false

abbrev pub is_single_instance : InstanceView → Bool
is_single_instance x = by x.connections
  where
    by : ConnectionsView → Bool
    by (ByName cs) = list_all (λ (c : ConnectionView). is_scalar_bit c.bits) cs
    by (ByPosition values) = false

-- scalar ports and nets, connections by name of one net each, no assign, and no reserved name
abbrev pub is_single_module : ModuleView → Bool
is_single_module m =
    list_all (λ (p : PortView). is_none p.range) m.ports
    && (list_all (λ (n : NetView). is_none n.range) m.nets
    && (list_all is_single_instance m.instances
    && (has_no_assign m.assigns
    && list_all (λ n. not (is_reserved n)) (m.name ∷ names_of m))))

-- exactly one module
abbrev pub is_single : List ModuleView → Bool
is_single (m ∷ []) = is_single_module m
is_single modules = false
