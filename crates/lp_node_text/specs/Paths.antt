-- Net bits as texts: the names of the instances from the top down, each with a `/` behind it, then the net's name, with the index of a vector's bit between brackets (own rule).
use Rattle.std.specs.Prelude.{ℕ, List, [], ◌∷◌, ◌++◌, codes, decimal, Option, Some, None}
use Rattle.lp_spec_design.specs.Keys.{Name, Path, Node, Inner, Outer, Fixed}

abbrev pub indexed : Name → Option ℕ → List ℕ
indexed n None = n
indexed n (Some i) = n ++ (codes "[" ++ (decimal i ++ codes "]"))

-- a path has the innermost name first
abbrev pub path_text : Path → List ℕ
path_text [] = []
path_text (inst ∷ p) = path_text p ++ (inst ++ codes "/")

-- the outer side of a bit of a top port has the port's name; a constant has no name
abbrev pub node_text : Node → List ℕ
node_text (Inner n i p) = path_text p ++ indexed n i
node_text (Outer n i) = indexed n i
node_text (Fixed b) = []
