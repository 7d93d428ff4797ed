-- Names over a small design, computed.
use Rattle.std.specs.Prelude.{◌≡◌, [], ◌∷◌, map, codes, Some, None}
use Rattle.std.specs.Fmt.{digits}
use Rattle.std.proofs.Common.{refl}
use Rattle.lp_spec_design.specs.Keys.{Path, Inner}
use Rattle.lp_spec_design.specs.Intents.{AtInstance, AtCell, AtPort, AtBit}
use Rattle.lp_spec_intent.specs.Names.{instance_of, element_of, control_of}
use Rattle.lp_spec_intent.proofs.Samples.{sample}

abbrev u : Path
u = codes "u" ∷ []

-- the longest name is taken, and no step is taken back
places : map (instance_of sample u) (codes "." ∷ codes ".." ∷ codes "/" ∷ codes "w" ∷ codes "../u" ∷ codes "/u/w" ∷ codes "../u/w/." ∷ []) ≡ Some u ∷ Some [] ∷ Some [] ∷ Some (codes "w" ∷ u) ∷ Some u ∷ Some (codes "u/w" ∷ []) ∷ Some (codes "u/w" ∷ []) ∷ []
places = refl

no-places : map (instance_of sample u) (codes "../.." ∷ codes "w/" ∷ codes "g" ∷ codes "" ∷ codes "//" ∷ []) ≡ None ∷ None ∷ None ∷ None ∷ None ∷ []
no-places = refl

elements : map (element_of sample []) (codes "u" ∷ codes "b" ∷ codes "u/g" ∷ codes "u/o" ∷ codes "u/q" ∷ codes "u/q[1]" ∷ codes "/" ∷ []) ≡ Some (AtInstance u) ∷ Some (AtCell [] (codes "b")) ∷ Some (AtCell u (codes "g")) ∷ Some (AtPort u (codes "o")) ∷ Some (AtPort u (codes "q")) ∷ Some (AtBit u (codes "q") (Some 1)) ∷ Some (AtInstance []) ∷ []
unfolding digits
elements = refl

-- an index has no leading zero and is in range, and a net is no element
no-elements : map (element_of sample []) (codes "u/q[01]" ∷ codes "u/q[2]" ∷ codes "n" ∷ codes "u/o[0]" ∷ []) ≡ None ∷ None ∷ None ∷ None ∷ []
unfolding digits
no-elements = refl

controls : map (control_of sample []) (codes "en" ∷ codes "n" ∷ codes "v[10]" ∷ codes "u/i" ∷ codes "u/q[0]" ∷ []) ≡ Some (Inner (codes "en") None []) ∷ Some (Inner (codes "n") None []) ∷ Some (Inner (codes "v") (Some 10) []) ∷ Some (Inner (codes "i") None u) ∷ Some (Inner (codes "q") (Some 0) u) ∷ []
unfolding digits
controls = refl

-- a whole vector is none
no-controls : map (control_of sample []) (codes "v" ∷ codes "v[7]" ∷ codes "u" ∷ codes "x" ∷ []) ≡ None ∷ None ∷ None ∷ None ∷ []
unfolding digits
no-controls = refl
