-- Which net bit of the written netlist stands for a wire, and which cell instance for an operator or a switch (own rule).
use Rattle.std.specs.Prelude.{ℕ, ◌==◌, suc, Bool, false, ◌&&◌, codes, List, [], ◌∷◌, filter, length, take, Option, Some, None, option_and_then, unwrap_or, slice_get}
use Rattle.lp_model.specs.NetlistView.{BitView}
use Rattle.lp_spec_design.specs.Keys.{Name, Path, same_path, Node, Inner, Fixed, Way, same_way}
use Rattle.lp_spec_design.specs.Netlists.{first, node_of}
use Rattle.lp_spec_design.specs.Instances.{Placed}
use Rattle.lp_spec_design.specs.Graph.{numbered}
use Rattle.lp_spec_design.specs.Domains.{way_of}
use Rattle.lp_spec_realises.specs.Projects.{Project}
use Rattle.lp_spec_realises.specs.Operators.{Placement}
use Rattle.lp_spec_realises.specs.Implements.{Lists}
use Rattle.lp_spec_written.specs.Places.{Standing, Switching, with_number, switches_in}
use Rattle.lp_spec_written.specs.Nets.{Stretch, bit_of, renamed, links, linked}
use Rattle.lp_spec_written.specs.Supplies.{origin_bits, switch_of}
use Rattle.lp_spec_written.specs.Routes.{Part, same_part, parts_in, control_net}
use Rattle.lp_spec_written.specs.Written.{Additions, additions, named_operators}
use Rattle.lp_spec_hub.specs.Spots.{Spot, OfNode, Behind, Before, Lead, Carried, Routed, on_way}

-- ---- net bits

-- a net bit of the source goes by the name that the inside rule gives it; outer sides and constants are what they were
abbrev pub name_of_node : List Stretch → Node → Node
name_of_node chains (Inner n i x) = node_of x (renamed chains x (bit_of n i))
name_of_node chains k = k

-- the operators of a way that stand in one instance
abbrev pub is_stretch : Way → Path → Stretch → Bool
is_stretch w x s = same_path s.path x && same_way (way_of s.bit) w

-- the place of operator k of a way among those in its instance: so many before it stand there too
abbrev pub place_on : List Standing → ℕ → Path → ℕ
place_on here k x = length (filter (λ (o : Standing). same_path o.path x) (take k here))

abbrev pub node_at : Path → List BitView → Node
node_at x [] = Fixed false
node_at x (b ∷ rest) = node_of x b

-- what lies at a place of a stretch: before, between or behind its operators
abbrev pub name_at : Project → List Stretch → Path → ℕ → Option Stretch → Node
name_at p chains x n None = Fixed false
name_at p chains x n (Some s) = node_at x (unwrap_or (slice_get (links p chains s) n) [])

abbrev pub name_on : Project → List Stretch → Way → Path → ℕ → Node
name_on p chains w x n = name_at p chains x n (first (is_stretch w x) chains)

-- what operator k reads lies before it, what it drives behind it
abbrev pub name_before : Project → List Stretch → List Standing → Way → ℕ → Option Standing → Node
name_before p chains here w k None = Fixed false
name_before p chains here w k (Some o) = name_on p chains w o.path (place_on here k o.path)

abbrev pub name_behind : Project → List Stretch → List Standing → Way → ℕ → Option Standing → Node
name_behind p chains here w k None = Fixed false
name_behind p chains here w k (Some o) = name_on p chains w o.path (suc (place_on here k o.path))

-- by the number of the part in its instance
abbrev pub name_of_part : Part → Option (ℕ × Part) → Node
name_of_part t None = Fixed false
name_of_part t (Some y) = Inner (control_net y.0) None t.path

-- the net bit of a wire; a wire that is not there has a constant
abbrev pub name_by : Project → Additions → Spot → Node
name_by p a (OfNode k) = name_of_node a.chains k
name_by p a (Behind w k) = name_behind p a.chains (on_way a.plan.operators w) w k (slice_get (on_way a.plan.operators w) k)
name_by p a (Before w k) = name_before p a.chains (on_way a.plan.operators w) w k (slice_get (on_way a.plan.operators w) k)
name_by p a (Lead w) = name_before p a.chains (on_way a.plan.operators w) w 0 (slice_get (on_way a.plan.operators w) 0)
name_by p a (Carried o x) = node_at x (origin_bits p a.plan o)
name_by p a (Routed t) = name_of_part t (first (λ y. same_part t y.1) (parts_in a.controls t.path))

abbrev pub name_of_spot : Project → Lists → Spot → Node
name_of_spot p l x = name_by p (additions p l) x

-- ---- cell instances

-- operator k of a way, by its place among those of the way in its instance
abbrev pub instance_on : Project → Additions → Way → Path → ℕ → Name
instance_on p a w x n =
    unwrap_or (option_and_then (λ y. Some y.0) (slice_get (filter (λ y. same_way (way_of y.1.0.asked.bit) w) (named_operators (linked p a.chains x))) n)) []

abbrev pub operator_at : Project → Additions → List Standing → Way → ℕ → Option Standing → Placed
operator_at p a here w k None = record { path = []; instance = [] }
operator_at p a here w k (Some o) = record { path = o.path; instance = instance_on p a w o.path (place_on here k o.path) }

-- the switch of an origin, by its number among those in its instance
abbrev pub switch_in : ℕ → List (ℕ × Switching) → Name
switch_in o here = unwrap_or (option_and_then (λ y. Some (with_number (codes "lp_s_") y.0)) (first (λ y. y.1.asked.origin == o) here)) []

abbrev pub switch_at : Additions → ℕ → Option Switching → Placed
switch_at a o None = record { path = []; instance = [] }
switch_at a o (Some w) = record { path = w.path; instance = switch_in o (numbered 0 (switches_in a.plan w.path)) }

abbrev pub placement_by : Project → Additions → Placement
placement_by p a = record {
  operator = λ w k. operator_at p a (on_way a.plan.operators w) w k (slice_get (on_way a.plan.operators w) k);
  switch = λ o. switch_at a o (switch_of a.plan o);
}

abbrev pub placement_of : Project → Lists → Placement
placement_of p l = placement_by p (additions p l)
