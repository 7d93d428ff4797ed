-- Small supply networks on which the definitions are computed.
use Rattle.std.specs.Prelude.{true, false, List, [], ◌∷◌, ◌++◌, Some, None, codes}
use Rattle.lp_spec_design.specs.Keys.{Name, Inner}
use Rattle.lp_spec_origins.specs.Commands.{Scoped, Command, MakesPort, MakesNet, Connects, MakesSwitch}
use Rattle.lp_spec_origins.specs.Sets.{SupplySet}

abbrev pub in_top : Name → Scoped
in_top n = record { scope = []; name = n }

abbrev pub in_block : Name → Scoped
in_block n = record { scope = codes "u" ∷ []; name = n }

-- a port and a net of one name in the top, joined
abbrev pub joined_by_name : Name → List Command
joined_by_name n = MakesPort (in_top n) true ∷ MakesNet (in_top n) ∷ Connects (in_top n) (in_top n ∷ []) ∷ []

abbrev pub set_between : Name → Name → SupplySet
set_between p g = record { power = Some (in_top p); gnd = Some (in_top g); nwell = None; pwell = None; deepnwell = None; deeppwell = None }

-- VDD, VDC and VSS
abbrev pub three : List Command
three = joined_by_name (codes "VDD") ++ (joined_by_name (codes "VDC") ++ joined_by_name (codes "VSS"))

-- a switch from VDD to VDC, on where sl is 0; VDC goes into the block by a port of the block
abbrev pub switched : List Command
switched =
    joined_by_name (codes "VDD")
    ++ (MakesNet (in_top (codes "VDC"))
    ∷ MakesSwitch (record { name = in_top (codes "SW"); input = in_top (codes "VDD"); output = in_top (codes "VDC"); control = Inner (codes "sl") None []; high = false })
    ∷ joined_by_name (codes "VSS"))
    ++ (MakesPort (in_block (codes "p")) true ∷ MakesNet (in_block (codes "VDC")) ∷ Connects (in_top (codes "VDC")) (in_block (codes "p") ∷ []) ∷ Connects (in_block (codes "VDC")) (in_block (codes "p") ∷ []) ∷ [])

-- a net that two ports feed, and one that none feeds
abbrev pub doubled : List Command
doubled = three ++ (MakesNet (in_top (codes "VX")) ∷ Connects (in_top (codes "VDD")) (in_top (codes "VDC") ∷ []) ∷ [])

-- two switches, each of which feeds the other
abbrev pub circular : List Command
circular =
    MakesNet (in_top (codes "A"))
    ∷ MakesNet (in_top (codes "B"))
    ∷ MakesSwitch (record { name = in_top (codes "S"); input = in_top (codes "A"); output = in_top (codes "B"); control = Inner (codes "sl") None []; high = true })
    ∷ MakesSwitch (record { name = in_top (codes "T"); input = in_top (codes "B"); output = in_top (codes "A"); control = Inner (codes "sl") None []; high = true })
    ∷ []
