-- What a design is made of, by names: instances by their paths, net bits, and the ways that lead to them (own rule).
use Rattle.std.specs.Prelude.{ℕ, Bool, true, false, ◌&&◌, ◌==◌, List, [], ◌∷◌, Option, Some, None, bytes_eq}

abbrev pub Name : Type 0
Name = List ℕ

-- the names of instances from the instance itself up to below the top; the top has the empty path
abbrev pub Path : Type 0
Path = List Name

abbrev pub same_path : Path → Path → Bool
same_path [] [] = true
same_path (a ∷ p) (b ∷ q) = bytes_eq a b && same_path p q
same_path _ _ = false

abbrev pub same_index : Option ℕ → Option ℕ → Bool
same_index None None = true
same_index (Some i) (Some j) = i == j
same_index _ _ = false

-- a net bit of a module instance, the outer side of a bit of a top port, or a constant
pub data Node : Type 0 where
  Inner : Name → Option ℕ → Path → Node
  Outer : Name → Option ℕ → Node
  Fixed : Bool → Node

abbrev pub same_bool : Bool → Bool → Bool
same_bool true b = b
same_bool false true = false
same_bool false false = true

-- the names of nets differ most, so they are compared first
abbrev pub same_node : Node → Node → Bool
same_node (Inner m i p) (Inner n j q) = bytes_eq m n && (same_index i j && same_path p q)
same_node (Outer m i) (Outer n j) = bytes_eq m n && same_index i j
same_node (Fixed a) (Fixed b) = same_bool a b
same_node _ _ = false

-- a way from one place to a node: a bit of a port of a module instance, or one bit of an assign, by its number in the module and its place
pub data Way : Type 0 where
  PortBit : Path → Name → Option ℕ → Way
  AssignBit : Path → ℕ → ℕ → Way

abbrev pub same_way : Way → Way → Bool
same_way (PortBit p m i) (PortBit q n j) = bytes_eq m n && (same_index i j && same_path p q)
same_way (AssignBit p a k) (AssignBit q b l) = (a == b) && ((k == l) && same_path p q)
same_way _ _ = false

-- what drives a node: an output pin or a switched power or ground pin of a cell instance, which stands in an instance, the environment, or a way from a node
pub data Source : Type 0 where
  CellPin : Path → Name → Name → Source
  SwitchedPin : Path → Name → Name → Source
  Environment : Source
  From : Way → Node → Source
