-- Names with numbers, spelled out: a netlist whose added names have single digits is the one with the numbers' decimal texts.
use Rattle.std.proofs.Common.{◌≡◌, List, [], ◌∷◌, refl, arith}
use Rattle.std.proofs.lemmas.Fmt.{decimal_digit}
use Rattle.std.specs.Prelude.{ℕ, zero, suc, ◌-◌, nat_le, Bool, false, ◌&&◌, ◌++◌, map, codes, decimal, if◌then◌else◌, bytes_eq, IsTrue}
use Rattle.lp_model.specs.NetlistView.{BitView, NetBit, SelectBit, ConstBit, PortView, NetView, ConnectionView, ConnectionsView, ByName, ByPosition, InstanceView, AssignView, ModuleView}
use Rattle.lp_spec_design.specs.Keys.{Name, Node, Inner, Outer, Fixed, same_node}

-- a text for each of the numbers from 0 to 4
abbrev pub among : Name → Name → Name → Name → Name → ℕ → Name
among a b c d e zero = a
among a b c d e (suc zero) = b
among a b c d e (suc (suc zero)) = c
among a b c d e (suc (suc (suc zero))) = d
among a b c d e (suc (suc (suc (suc k)))) = e

abbrev pub decimals : ℕ → Name
decimals k = among (decimal 0) (decimal 1) (decimal 2) (decimal 3) (decimal 4) k

abbrev pub digits : ℕ → Name
digits k = among (codes "0") (codes "1") (codes "2") (codes "3") (codes "4") k

-- ---- digits by other texts

abbrev pub is_digit : ℕ → Bool
is_digit b = nat_le 48 b && nat_le b 57

abbrev pub spelled_on : (ℕ → Name) → Name → Name
spelled_on d [] = []
spelled_on d (b ∷ []) = if is_digit b then d (b - 48) else b ∷ []
spelled_on d (b ∷ c ∷ rest) = let more = spelled_on d (c ∷ rest) in if is_digit b then d (b - 48) ++ more else b ∷ more

abbrev pub is_added : Name → Bool
is_added (a ∷ b ∷ c ∷ rest) = bytes_eq (a ∷ b ∷ c ∷ []) (codes "lp_")
is_added _ = false

abbrev pub spelled : (ℕ → Name) → Name → Name
spelled d n = if is_added n then spelled_on d n else n

abbrev pub spelled_bit : (ℕ → Name) → BitView → BitView
spelled_bit d (NetBit n) = NetBit (spelled d n)
spelled_bit d (SelectBit n i) = SelectBit (spelled d n) i
spelled_bit d (ConstBit b) = ConstBit b

abbrev pub spelled_connection : (ℕ → Name) → ConnectionView → ConnectionView
spelled_connection d c = record { port = spelled d c.port; bits = map (spelled_bit d) c.bits }

abbrev pub spelled_connections : (ℕ → Name) → ConnectionsView → ConnectionsView
spelled_connections d (ByName cs) = ByName (map (spelled_connection d) cs)
spelled_connections d (ByPosition values) = ByPosition (map (map (spelled_bit d)) values)

abbrev pub spelled_instance : (ℕ → Name) → InstanceView → InstanceView
spelled_instance d x = record { name = spelled d x.name; target = spelled d x.target; connections = spelled_connections d x.connections }

abbrev pub spelled_assign : (ℕ → Name) → AssignView → AssignView
spelled_assign d s = record { left = map (spelled_bit d) s.left; right = map (spelled_bit d) s.right }

abbrev pub spelled_module : (ℕ → Name) → ModuleView → ModuleView
spelled_module d m = record {
  name = spelled d m.name;
  ports = map (λ (q : PortView). record q { name = spelled d q.name }) m.ports;
  nets = map (λ (n : NetView). record n { name = spelled d n.name }) m.nets;
  instances = map (spelled_instance d) m.instances;
  assigns = map (spelled_assign d) m.assigns;
}

abbrev pub spelled_node : (ℕ → Name) → Node → Node
spelled_node d (Inner n i x) = Inner (spelled d n) i x
spelled_node d (Outer n i) = Outer n i
spelled_node d (Fixed b) = Fixed b

-- ---- the same netlist

pub by_digits : {A : Type 0} (f : (ℕ → Name) → A) (w : A) → w ≡ f decimals → w ≡ f digits
by_digits f w e = by (decimal 0) (decimal 1) (decimal 2) (decimal 3) (decimal 4) (decimal_digit 0 (omega arith)) (decimal_digit 1 (omega arith)) (decimal_digit 2 (omega arith)) (decimal_digit 3 (omega arith)) (decimal_digit 4 (omega arith)) e
  where
    by : (a b c d k : Name) → a ≡ codes "0" → b ≡ codes "1" → c ≡ codes "2" → d ≡ codes "3" → k ≡ codes "4" → w ≡ f (λ n. among a b c d k n) → w ≡ f digits
    by a b c d k ea eb ec ed ek e = rw (e, ea, eb, ec, ed, ek) refl

-- a netlist is the one of these modules where it has decimal texts in place of their digits
pub closed : (modules w : List ModuleView) → w ≡ map (spelled_module decimals) modules → map (spelled_module digits) modules ≡ modules → w ≡ modules
closed modules w e same = rw (by_digits (λ d. map (spelled_module d) modules) w e) same

-- ---- the same bits

-- some bits have others in their place
abbrev pub in_place : List (Node × Node) → Node → Node
in_place [] k = k
in_place (x ∷ changed) k = let other = in_place changed k in if same_node x.0 k then x.1 else other

abbrev pub with_changed : List (Node × Node) → List (Node × Node) → (ℕ → Name) → List (Node × Node)
with_changed changed bits d = map (λ b. (b.0, spelled_node d (in_place changed b.0))) bits

-- what holds of bits whose names have digits holds of those with decimal texts
pub held : (test : List (Node × Node) → Bool) (changed bits : List (Node × Node)) → bits ≡ with_changed changed bits decimals → IsTrue (test (with_changed changed bits digits)) → IsTrue (test bits)
held test changed bits e h = rw (by_digits (with_changed changed bits) bits e) h
