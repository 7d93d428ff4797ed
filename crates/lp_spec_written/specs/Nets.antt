-- The nets of chains, lp_n_K, and the bits that stand for others (own rule).
use Rattle.std.specs.Prelude.{ℕ, ◌+◌, ◌-◌, ◌==◌, Bool, true, false, not, ◌&&◌, List, [], ◌∷◌, ◌++◌, map, filter, length, Option, Some, None, option_and_then, unwrap_or, if◌then◌else◌, bytes_eq, flat_map, codes}
use Rattle.std.specs.List.{list_any}
use Rattle.lp_model.specs.NetlistView.{BitView, NetBit, SelectBit, ConstBit, PortView, ConnectionView, ConnectionsView, ByName, ByPosition, InstanceView, AssignView, ModuleView}
use Rattle.lp_spec_design.specs.Keys.{Name, Path, same_path, same_index, same_bool, PortBit, same_way}
use Rattle.lp_spec_design.specs.Netlists.{Structure, first, module_at, module_named, instance_named, upward, indices, connected, is_input}
use Rattle.lp_spec_design.specs.Graph.{pairs, some_of, when}
use Rattle.lp_spec_design.specs.Domains.{BoundaryBit, boundary, way_of}
use Rattle.lp_spec_realises.specs.Projects.{Project}
use Rattle.lp_spec_realises.specs.Tops.{ports_of}
use Rattle.lp_spec_written.specs.Places.{instances, with_number, Standing, Plan}

-- ---- bits

abbrev pub bit_of : Name → Option ℕ → BitView
bit_of n None = NetBit n
bit_of n (Some i) = SelectBit n i

abbrev pub same_bit : BitView → BitView → Bool
same_bit (NetBit m) (NetBit n) = bytes_eq m n
same_bit (SelectBit m i) (SelectBit n j) = (i == j) && bytes_eq m n
same_bit (ConstBit a) (ConstBit b) = same_bool a b
same_bit _ _ = false

abbrev pub is_constant : BitView → Bool
is_constant (ConstBit b) = true
is_constant _ = false

-- what the source's connection has at a boundary bit
abbrev pub bits_at : Option ℕ → List (Option ℕ × BitView) → List BitView
bits_at i all = some_of (λ x. when (same_index x.0 i) x.1) all

abbrev pub connected_at : Structure → BoundaryBit → InstanceView → List BitView
connected_at s b y = bits_at b.index (pairs (indices b.port.range) (connected (ports_of (module_named s y.target)) b.port.name y.connections))

abbrev pub stood_at : Structure → BoundaryBit → Path → List BitView
stood_at s b [] = []
stood_at s b (i ∷ x) = unwrap_or (option_and_then (λ (m : ModuleView). option_and_then (λ y. Some (connected_at s b y)) (instance_named m i)) (module_at s x)) []

abbrev pub stood : Structure → BoundaryBit → List BitView
stood s b = stood_at s b b.path

-- ---- stretches: the operators of a boundary bit that stand in one instance, with their nets

-- the operators in the flow of data, the number of the first net, and how many nets there are
pub record Stretch : Type 0 where
  pub bit : BoundaryBit
  pub path : Path
  pub operators : List Standing
  pub start : ℕ
  pub count : ℕ

-- operators stand in the boundary instance (inside) or in its parent (outside)
abbrev pub is_inside : Path → BoundaryBit → Bool
is_inside x b = same_path x b.path

-- where a constant stood at an instance's input, it is led to the outside operators by a net of its own with an assign, numbered before the others
abbrev pub leads_constant : Structure → Path → BoundaryBit → Bool
leads_constant s x b = is_input b.port && (not (is_inside x b) && list_any is_constant (stood s b))

abbrev pub operators_there : Plan → Path → BoundaryBit → List Standing
operators_there a x b = filter (λ (o : Standing). same_path o.path x && same_way (way_of o.asked.bit) (way_of b)) a.operators

-- n operators have n nets, and one more for a constant
abbrev pub net_count : Structure → Path → BoundaryBit → ℕ → ℕ
net_count s x b n = if n == 0 then 0 else if leads_constant s x b then n + 1 else n

-- the nets are numbered per module instance in port order, each chain's in the flow of data
abbrev pub stretches_from : Project → Plan → Path → ℕ → List BoundaryBit → List Stretch
stretches_from p a x k [] = []
stretches_from p a x k (b ∷ bits) =
    let operators = operators_there a x b in
    let count = net_count p.structure x b (length operators) in
    record { bit = b; path = x; operators = operators; start = k; count = count } ∷ stretches_from p a x (k + count) bits

abbrev pub stretches : Project → Plan → List Stretch
stretches p a = filter (λ (s : Stretch). not (s.count == 0)) (flat_map (λ x. stretches_from p a x 0 (boundary p.structure p.intent)) (instances p))

abbrev pub stretches_in : List Stretch → Path → List Stretch
stretches_in all x = filter (λ (s : Stretch). same_path s.path x) all

-- ---- nets

abbrev pub chain_net : ℕ → Name
chain_net k = with_number (codes "lp_n_") k

abbrev pub nets_of : Stretch → List Name
nets_of s = map chain_net (upward s.count s.start)

-- the net that takes the place of the bit: the first one at an output, the last one at an input
abbrev pub near : Stretch → BitView
near s = NetBit (chain_net (if is_input s.bit.port then (s.start + s.count) - 1 else s.start))

abbrev pub or_near : BitView → Option Stretch → BitView
or_near b None = b
or_near b (Some s) = near s

-- the inside rule: at an output every reference in the instance to that bit but for the port itself becomes the first net; at an input every reference but for that of the first operator becomes the last one
abbrev pub is_own : Path → BitView → Stretch → Bool
is_own x b s = is_inside s.path s.bit && (same_path s.path x && same_bit (bit_of s.bit.port.name s.bit.index) b)

abbrev pub renamed : List Stretch → Path → BitView → BitView
renamed all x b = or_near b (first (is_own x b) all)

-- the outside rule: the instance's connection at that bit becomes the first net at an output, and the last one at an input; the operators take the bit that stood there
abbrev pub is_across : Path → Name → Option ℕ → Stretch → Bool
is_across y n i s = not (is_inside s.path s.bit) && same_way (way_of s.bit) (PortBit y n i)

abbrev pub led : List Stretch → Path → Path → Name → Option ℕ → BitView → BitView
led all x y n i b = or_near (renamed all x b) (first (is_across y n i) all)

-- the bit that the last operator drives at an output, and that the first one reads at an input: inside the port's own, outside what stood in the connection, itself renamed by the inside rule of the parent
abbrev pub far : Project → List Stretch → Stretch → List BitView
far p all s = if is_inside s.path s.bit then bit_of s.bit.port.name s.bit.index ∷ [] else map (renamed all s.path) (stood p.structure s.bit)

-- ---- how the operators follow one another

abbrev pub net_bits : Stretch → List (List BitView)
net_bits s = map (λ n. NetBit n ∷ []) (nets_of s)

-- what lies before, between and behind the operators; a constant's own net lies before the first one
abbrev pub links : Project → List Stretch → Stretch → List (List BitView)
links p all s =
    if is_input s.bit.port then (if leads_constant p.structure s.path s.bit then net_bits s else far p all s ∷ net_bits s)
    else net_bits s ++ (far p all s ∷ [])

abbrev pub with_next : {A : Type 0} → List A → List (A × A)
with_next [] = []
with_next (x ∷ xs) = pairs (x ∷ xs) xs

-- an operator with what it reads and what it drives
abbrev pub Linked : Type 0
Linked = Standing × (List BitView × List BitView)

abbrev pub linked : Project → List Stretch → Path → List Linked
linked p all x = flat_map (λ (s : Stretch). pairs s.operators (with_next (links p all s))) (stretches_in all x)

-- ---- what is written with them

abbrev pub renamed_assign : List Stretch → Path → AssignView → AssignView
renamed_assign all x s = record { left = map (renamed all x) s.left; right = map (renamed all x) s.right }

-- the assign of a constant's own net
abbrev pub constant_assign : Project → Stretch → Option AssignView
constant_assign p s = when (leads_constant p.structure s.path s.bit) (record { left = NetBit (chain_net s.start) ∷ []; right = stood p.structure s.bit })

-- an ordered connection is named by the port at its position
abbrev pub by_names : List PortView → ConnectionsView → List ConnectionView
by_names ports (ByName cs) = cs
by_names ports (ByPosition values) = map (λ x. record { port = x.0.name; bits = x.1 }) (pairs ports values)

abbrev pub led_bits : List Stretch → Path → Path → Name → List (Option ℕ) → List BitView → List BitView
led_bits all x y n [] bits = map (renamed all x) bits
led_bits all x y n (i ∷ more) [] = []
led_bits all x y n (i ∷ more) (b ∷ bits) = led all x y n i b ∷ led_bits all x y n more bits

abbrev pub indices_named : List PortView → Name → List (Option ℕ)
indices_named ports n = flat_map (λ (q : PortView). indices q.range) (filter (λ (q : PortView). bytes_eq q.name n) ports)

-- the connections of a module instance, and of a cell instance, whose pins have no places
abbrev pub led_connections : List Stretch → Path → Path → List PortView → ConnectionsView → List ConnectionView
led_connections all x y ports cs = map (λ (c : ConnectionView). record c { bits = led_bits all x y c.port (indices_named ports c.port) c.bits }) (by_names ports cs)

abbrev pub renamed_connections : List Stretch → Path → ConnectionsView → List ConnectionView
renamed_connections all x cs = map (λ (c : ConnectionView). record c { bits = map (renamed all x) c.bits }) (by_names [] cs)
