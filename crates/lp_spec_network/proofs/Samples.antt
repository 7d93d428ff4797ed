-- A small supply network with its state table.
use Rattle.std.specs.Prelude.{ℕ, true, [], ◌∷◌, Some, None}
use Rattle.lp_model.specs.declared.intent.DeclaredState.TheVariants.{On}
use Rattle.lp_model.specs.declared.intent.RowState.TheVariants as listed
use Rattle.lp_model.specs.declared.supply.OriginKind.{OriginKind}
use Rattle.lp_model.specs.declared.supply.OriginKind.TheVariants.{Port, Switch}
use Rattle.lp_model.specs.declared.supply.Origin.{Origin}
use Rattle.lp_model.specs.declared.supply.SetOrigins.{SetOrigins}
use Rattle.lp_model.specs.declared.supply.Supplies.{Supplies}

abbrev pub origin : ℕ → OriginKind → Origin
origin root kind = record { name = record { scope = record { 0 = 0 }; name = record { 0 = 0 } }; kind = kind; root = record { 0 = root } }

abbrev pub set_of : ℕ → SetOrigins
set_of k = record { power = record { 0 = k }; gnd = record { 0 = 2 }; nwell = record { 0 = k }; pwell = record { 0 = 2 }; deepnwell = record { 0 = k }; deeppwell = record { 0 = 2 } }

-- VDD at 1.0 or 1.2, VDC at 0.8 or 1.0, the ground, and a switch that VDD feeds; VDC at 0.8 where VDD is at 1.0, at 1.0 where it is at 1.2
abbrev pub supplies : Supplies
supplies = record {
  origins =
      origin 0 (Port (On 1000000 ∷ On 1200000 ∷ []))
      ∷ origin 1 (Port (On 800000 ∷ On 1000000 ∷ []))
      ∷ origin 2 (Port [])
      ∷ origin 0 (Switch (record { 0 = 0 }) (record { 0 = 5 }) true)
      ∷ [];
  rows =
      record { states = listed.On 1000000 ∷ listed.On 800000 ∷ listed.Free ∷ listed.Free ∷ [] }
      ∷ record { states = listed.On 1200000 ∷ listed.On 1000000 ∷ listed.Free ∷ listed.Free ∷ [] }
      ∷ [];
  sets = Some (set_of 0) ∷ Some (set_of 1) ∷ Some (set_of 3) ∷ None ∷ [];
}

-- the same without a table
abbrev pub untabled : Supplies
untabled = record supplies { rows = [] }
