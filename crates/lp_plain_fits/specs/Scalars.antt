-- Which modules have scalars alone, in the words of the code.
use Rattle.std.specs.Prelude.{ℕ, Bool, true, false, ◌&&◌, List, [], ◌∷◌, not, is_none}
use Rattle.std.specs.List.{list_all}
use Rattle.lp_text.specs.Texts.{text_at}
use Rattle.lp_model.specs.declared.bits.Bit.{Bit}
use Rattle.lp_model.specs.declared.bits.Bit.TheVariants.{Net}
use Rattle.lp_model.specs.declared.netlist.Connection.{Connection}
use Rattle.lp_model.specs.declared.netlist.Connections.{Connections}
use Rattle.lp_model.specs.declared.netlist.Connections.TheVariants.{Named, Ordered}
use Rattle.lp_model.specs.declared.netlist.Port.{Port}
use Rattle.lp_model.specs.declared.netlist.NetDecl.{NetDecl}
use Rattle.lp_model.specs.declared.netlist.Instance.{Instance}
use Rattle.lp_model.specs.declared.netlist.Module.{Module}
use Rattle.lp_model.specs.declared.netlist.Assign.{Assign}
use Rattle.lp_spec_plain_netlist.specs.Single.{is_reserved}

-- one scalar net
abbrev pub is_one_net : List Bit → Bool
is_one_net (Net n ∷ []) = true
is_one_net bits = false

-- by name, each one scalar net
abbrev pub are_one_nets : Connections → Bool
are_one_nets (Named cs) = list_all (λ (c : Connection). is_one_net c.bits) cs
are_one_nets (Ordered values) = false

-- a name that is not kept for what is added
abbrev pub is_free : List (List ℕ) → ℕ → Bool
is_free texts n = not (is_reserved (text_at texts n))

abbrev pub has_no_assign : List Assign → Bool
has_no_assign [] = true
has_no_assign (a ∷ rest) = false

abbrev pub has_free_names : List (List ℕ) → Module → Bool
has_free_names texts m =
    is_free texts m.name.0
    && (list_all (λ (p : Port). is_free texts p.name.0) m.ports
    && (list_all (λ (n : NetDecl). is_free texts n.name.0) m.nets
    && list_all (λ (x : Instance). is_free texts x.name.0) m.instances))

-- scalar ports and nets, connections by name of one net each, and no assign
abbrev pub has_scalars : Module → Bool
has_scalars m =
    list_all (λ (p : Port). is_none p.range) m.ports
    && (list_all (λ (n : NetDecl). is_none n.range) m.nets
    && (list_all (λ (x : Instance). are_one_nets x.connections) m.instances && has_no_assign m.assigns))

-- and no reserved name
abbrev pub is_single_module : List (List ℕ) → Module → Bool
is_single_module texts m = has_scalars m && has_free_names texts m
