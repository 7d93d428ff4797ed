-- The wires of a netlist while an insertion goes on, each by a key that no later entry of the plan changes (own rule).
use Rattle.std.specs.Prelude.{ℕ, ◌==◌, Bool, false, ◌&&◌, List, [], ◌∷◌, ◌++◌, filter, Option, Some, None, if◌then◌else◌}
use Rattle.lp_spec_design.specs.Keys.{Path, same_path, same_bool, Node, same_node, Way, same_way, Source}
use Rattle.lp_spec_design.specs.Netlists.{is_input}
use Rattle.lp_spec_design.specs.Domains.{way_of}
use Rattle.lp_spec_written.specs.Places.{Standing, Kept, Switching, Plan, plan}
use Rattle.lp_spec_written.specs.Nets.{is_inside}
use Rattle.lp_spec_written.specs.Supplies.{Use, uses}
use Rattle.lp_spec_written.specs.Routes.{Part, same_part, parts}
use Rattle.lp_spec_realises.specs.Projects.{Project}
use Rattle.lp_spec_realises.specs.Implements.{Lists}

-- a net bit of the source, with all that reads it; what operator k of a way drives, where it stands before the way's edge;
-- what operator k reads, where it stands behind the edge; a constant's own net; a supply origin in an instance; a part of a control's route
pub data Spot : Type 0 where
  OfNode : Node → Spot
  Behind : Way → ℕ → Spot
  Before : Way → ℕ → Spot
  Lead : Way → Spot
  Carried : ℕ → Path → Spot
  Routed : Part → Spot

abbrev pub same_spot : Spot → Spot → Bool
same_spot (OfNode k) (OfNode j) = same_node k j
same_spot (Behind v k) (Behind w n) = (k == n) && same_way v w
same_spot (Before v k) (Before w n) = (k == n) && same_way v w
same_spot (Lead v) (Lead w) = same_way v w
same_spot (Carried o x) (Carried q y) = (o == q) && same_path x y
same_spot (Routed s) (Routed t) = same_part s t
same_spot _ _ = false

-- a source of the design; the output of operator k of a way; the output of a switch, by its origin; a supply port of the top; another wire
pub data Drive : Type 0 where
  AsSource : Source → Drive
  ByOperator : Way → ℕ → Drive
  BySwitch : ℕ → Drive
  ByPort : ℕ → Drive
  FromSpot : Spot → Drive

-- ---- what is done

-- entries of the plan, in the order of their insertion; the parts of control routes; and which cells use which origin, once supplies are joined
pub record Done : Type 0 where
  pub plan : Plan
  pub parts : List Part
  pub uses : Option (List Use)

abbrev pub nothing_done : Done
nothing_done = record { plan = record { operators = []; registers = []; switches = [] }; parts = []; uses = None }

-- the whole plan
abbrev pub all_done : Project → Lists → Done
all_done p l = record { plan = plan p l; parts = parts p (plan p l); uses = Some (uses p (plan p l)) }

-- one more entry: the operators of a way are done in the flow of data
abbrev pub with_operator : Done → Standing → Done
with_operator a o = record a { plan = record a.plan { operators = a.plan.operators ++ (o ∷ []) } }

abbrev pub with_register : Done → Kept → Done
with_register a r = record a { plan = record a.plan { registers = a.plan.registers ++ (r ∷ []) } }

abbrev pub with_switch : Done → Switching → Done
with_switch a w = record a { plan = record a.plan { switches = a.plan.switches ++ (w ∷ []) } }

-- a route makes parts
abbrev pub with_parts : Done → List Part → Done
with_parts a more = record a { parts = a.parts ++ more }

abbrev pub with_supplies : Done → List Use → Done
with_supplies a all = record a { uses = Some all }

-- ---- operators of a way

-- those that are done; the number of one is its place among them
abbrev pub on_way : List Standing → Way → List Standing
on_way all w = filter (λ (o : Standing). same_way (way_of o.asked.bit) w) all

-- in the instance to which the way leads: inside at an input, outside at an output
abbrev pub is_behind : Standing → Bool
is_behind o = same_bool (is_input o.asked.bit.port) (is_inside o.path o.asked.bit)

-- the wire that an operator makes: what it drives before the edge, what it reads behind it
abbrev pub own_spot : Way → ℕ → Standing → Spot
own_spot w k o = if is_behind o then Before w k else Behind w k
