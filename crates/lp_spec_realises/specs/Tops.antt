-- The ports of the tops of a source and of a netlist: ports go by name, their bits by place from the left (IEEE 1364-2005, port connections; own rule).
use Rattle.std.specs.Prelude.{◌≡◌, ℕ, ◌==◌, Bool, ◌&&◌, List, [], ◌∷◌, length, Option, Some, None, bytes_eq, if◌then◌else◌, true}
use Rattle.std.specs.List.{list_any}
use Rattle.lp_model.specs.NetlistView.{PortView, ModuleView}
use Rattle.lp_spec_design.specs.Keys.{Name, same_index, same_bool, Node, Inner, Outer, Fixed}
use Rattle.lp_spec_design.specs.Netlists.{Structure, first, module_at, indices, is_input}
use Rattle.lp_spec_design.specs.Graph.{pairs}

abbrev pub ports_of : Option ModuleView → List PortView
ports_of None = []
ports_of (Some m) = m.ports

abbrev pub top_ports : Structure → List PortView
top_ports s = ports_of (module_at s [])

abbrev pub has_port_name : Structure → Name → Bool
has_port_name s n = list_any (λ (q : PortView). bytes_eq q.name n) (top_ports s)

-- equal names, directions and widths
abbrev pub same_port : PortView → PortView → Bool
same_port a b = bytes_eq a.name b.name && (same_bool (is_input a) (is_input b) && (length (indices a.range) == length (indices b.range)))

abbrev pub has_port : Structure → PortView → Bool
has_port w a = list_any (same_port a) (top_ports w)

-- the index that stands where another one stands, among indices that stand beside one another
abbrev pub beside : Option ℕ → List (Option ℕ × Option ℕ) → Option ℕ
beside i [] = i
beside i (x ∷ rest) = if same_index i x.0 then x.1 else beside i rest

abbrev pub index_between : Option ℕ → Option PortView → Option PortView → Option ℕ
index_between i (Some a) (Some b) = beside i (pairs (indices a.range) (indices b.range))
index_between i _ _ = i

abbrev pub top_port : Structure → Name → Option PortView
top_port s n = first (λ (q : PortView). bytes_eq q.name n) (top_ports s)

-- both tops have a port of the name, of one width
pub record HaveOneWidth (s w : Structure) (n : Name) (a b : PortView) : Type 0 where
  pub first_port : top_port s n ≡ Some a
  pub second_port : top_port w n ≡ Some b
  pub width : length (indices a.range) ≡ length (indices b.range)

-- the index in the second top of the bit of a port that has this index in the first: y[1] of y[1:0] is y[0] of y[0:1]
abbrev pub index_across : Structure → Structure → Name → Option ℕ → Option ℕ
index_across s w n i = index_between i (top_port s n) (top_port w n)

-- the same of the outer side of a bit
abbrev pub node_across : Structure → Structure → Node → Node
node_across s w (Outer n i) = Outer n (index_across s w n i)
node_across s w (Inner n i p) = Inner n i p
node_across s w (Fixed b) = Fixed b

-- the bits of a port that both have with one width are found again on the way back
abbrev pub GoesByPlace : Structure → Structure → Name → Type 0
GoesByPlace s w n =
    (a b : PortView) → HaveOneWidth s w n a b
    → (i : Option ℕ) → list_any (same_index i) (indices a.range) ≡ true → index_across w s n (index_across s w n i) ≡ i
