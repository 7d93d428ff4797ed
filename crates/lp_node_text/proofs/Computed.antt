-- The text of a net bit, computed on a small design: the top `soc` has the scalar port `q` and the block `u`, the block has the vector `w` of the bits 3 to 2 and the block `v+`, which has the vector `d` of the bits 1 to 0.
use Rattle.std.proofs.Common.{◌≡◌, List, [], ◌∷◌, Some, None, refl}
use Rattle.std.specs.Prelude.{ℕ, ◌++◌, codes, decimal, map}
use Rattle.lp_text.specs.declared.names.NameId.{NameId}
use Rattle.lp_model.specs.declared.netlist.Instance.{Instance}
use Rattle.lp_model.specs.declared.netlist.Module.{Module}
use Rattle.lp_model.specs.declared.netlist.NetDecl.{NetDecl}
use Rattle.lp_model.specs.declared.netlist.Port.{Port}
use Rattle.lp_spec_design.specs.Keys.{Inner, Outer}
use Rattle.lp_spec_layout.specs.Parts.{Statement, OfModule, Template}
use Rattle.lp_node_text.specs.Numbered.{text_below}
use Rattle.lp_node_text.specs.Paths.{node_text}

abbrev name : ℕ → NameId
name n = record { 0 = n }

abbrev texts : List (List ℕ)
texts = codes "soc" ∷ codes "u" ∷ codes "v+" ∷ codes "q" ∷ codes "w" ∷ codes "d" ∷ []

abbrev bit : List ℕ → ℕ → List ℕ
bit n index = n ++ (codes "[" ++ (decimal index ++ codes "]"))

-- an instance of a module behind so many net bits
abbrev child : ℕ → ℕ → Statement
child of bits = OfModule (record { of = of; before = record { instances = 1; bits = bits; leaves = 0 }; inputs = []; outputs = [] })

abbrev template : List Statement → Template
template statements = record { statements = statements; assigns = [] }

-- nothing else that is known of the parts is looked at
module _ (m : Module) (p : Port) (n : NetDecl) (y : Instance) where
  abbrev modules : List Module
  modules =
      record m { ports = record p { name = name 3; range = None } ∷ []; nets = []; instances = record y { name = name 1 } ∷ [] }
      ∷ record m { ports = []; nets = record n { name = name 4; range = Some (record { left = 3; right = 2 }) } ∷ []; instances = record y { name = name 2 } ∷ [] }
      ∷ record m { ports = record p { name = name 5; range = Some (record { left = 1; right = 0 }) } ∷ []; nets = []; instances = [] }
      ∷ []

  abbrev templates : List Template
  templates = template (child 1 1 ∷ []) ∷ template (child 2 2 ∷ []) ∷ template [] ∷ []

  numbers_have_texts :
      map (text_below texts modules templates 3 0) (0 ∷ 1 ∷ 2 ∷ 3 ∷ 4 ∷ [])
      ≡ codes "q" ∷ bit (codes "u/w") 3 ∷ bit (codes "u/w") 2 ∷ bit (codes "u/v+/d") 1 ∷ bit (codes "u/v+/d") 0 ∷ []
  numbers_have_texts = refl

  nodes_have_texts :
      map node_text (Inner (codes "d") (Some 0) (codes "v+" ∷ codes "u" ∷ []) ∷ Outer (codes "q") None ∷ [])
      ≡ bit (codes "u/v+/d") 0 ∷ codes "q" ∷ []
  nodes_have_texts = refl
