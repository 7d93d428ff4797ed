-- Whether wires have the net bits that are given, where numbers of added names have one digit.
use Rattle.std.proofs.Common.{◌≡◌, ℕ, zero, suc, List, [], ◌∷◌, refl, arith}
use Rattle.std.proofs.lemmas.Fmt.{decimal_digit}
use Rattle.std.specs.Prelude.{◌-◌, nat_le, Bool, false, ◌&&◌, ◌++◌, map, codes, decimal, if◌then◌else◌, bytes_eq}
use Rattle.lp_spec_design.specs.Keys.{Name, Node, Inner}
use Rattle.lp_spec_design.specs.Nodes.{nodes_of}
use Rattle.lp_spec_realises.specs.Projects.{Project}
use Rattle.lp_spec_realises.specs.Implements.{Lists}
use Rattle.lp_spec_hub.specs.Spots.{Spot, OfNode}
use Rattle.lp_spec_hub.proofs.Samples.{Names, name_of}
use Rattle.lp_spec_wired.specs.Names.{name_of_spot}

-- ---- digits

-- a text for each of the numbers from 0 to 2
abbrev among : Name → Name → Name → ℕ → Name
among a b c zero = a
among a b c (suc zero) = b
among a b c (suc (suc k)) = c

abbrev pub decimals : ℕ → Name
decimals k = among (decimal 0) (decimal 1) (decimal 2) k

abbrev pub digits : ℕ → Name
digits k = among (codes "0") (codes "1") (codes "2") k

by_digits : {A : Type 0} (f : (ℕ → Name) → A) (w : A) → w ≡ f decimals → w ≡ f digits
by_digits f w e = by (decimal 0) (decimal 1) (decimal 2) (decimal_digit 0 (omega arith)) (decimal_digit 1 (omega arith)) (decimal_digit 2 (omega arith)) e
  where
    by : (a b c : Name) → a ≡ codes "0" → b ≡ codes "1" → c ≡ codes "2" → w ≡ f (λ n. among a b c n) → w ≡ f digits
    by a b c ea eb ec e = rw (e, ea, eb, ec) refl

-- an added name ends in its number
abbrev is_digit : ℕ → Bool
is_digit b = nat_le 48 b && nat_le b 57

abbrev spelled_on : (ℕ → Name) → Name → Name
spelled_on d [] = []
spelled_on d (b ∷ []) = if is_digit b then d (b - 48) else b ∷ []
spelled_on d (b ∷ c ∷ rest) = b ∷ spelled_on d (c ∷ rest)

abbrev is_added : Name → Bool
is_added (a ∷ b ∷ c ∷ rest) = bytes_eq (a ∷ b ∷ c ∷ []) (codes "lp_")
is_added _ = false

abbrev spelled : (ℕ → Name) → Name → Name
spelled d n = if is_added n then spelled_on d n else n

abbrev pub spelled_node : (ℕ → Name) → Node → Node
spelled_node d (Inner n i x) = Inner (spelled d n) i x
spelled_node d k = k

-- ---- wires

-- all net bits of the source, and the wires that are named
abbrev pub wires : Project → Names → List Spot
wires p names = map (λ k. OfNode k) (nodes_of p.structure) ++ map (λ n. n.0) names

abbrev pub given : Project → Names → List Node
given p names = map (name_of names) (wires p names)

abbrev pub spelled_all : List Node → (ℕ → Name) → List Node
spelled_all nodes d = map (spelled_node d) nodes

-- the net bits of the wires are those that are given
pub agree : (p : Project) (l : Lists) (names : Names) → map (name_of_spot p l) (wires p names) ≡ spelled_all (given p names) decimals → spelled_all (given p names) digits ≡ given p names → map (name_of_spot p l) (wires p names) ≡ given p names
agree p l names e same = rw (by_digits (spelled_all (given p names)) (map (name_of_spot p l) (wires p names)) e) same
