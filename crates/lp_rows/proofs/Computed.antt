-- Rows computed on a small supply network: VDD with 1.0 and 1.2 V, VDC with 0.8 and 1.0 V, and a switch of VDD.
use Rattle.std.proofs.Common.{◌≡◌, List, true, false, [], ◌∷◌, Some, None, refl}
use Rattle.std.specs.Prelude.{ℕ, Bool, map}
use Rattle.lp_tern.specs.declared.supply.SupplyState.TheVariants as State
use Rattle.lp_model.specs.declared.ids.NodeId.{NodeId}
use Rattle.lp_model.specs.declared.ids.OriginId.{OriginId}
use Rattle.lp_model.specs.declared.intent.DeclaredState.TheVariants.{On}
use Rattle.lp_model.specs.declared.intent.RowState.{RowState}
use Rattle.lp_model.specs.declared.intent.RowState.TheVariants as Listed
use Rattle.lp_model.specs.declared.supply.Origin.{Origin}
use Rattle.lp_model.specs.declared.supply.OriginKind.{OriginKind}
use Rattle.lp_model.specs.declared.supply.OriginKind.TheVariants.{Port, Switch}
use Rattle.lp_model.specs.declared.supply.Row.{Row}
use Rattle.lp_model.specs.declared.supply.Supplies.{Supplies}
use Rattle.lp_rows.specs.Rows.{lower_in, row_of, within_in}
use Rattle.lp_rows.specs.Leaks.{leaks_in}
use Rattle.lp_rows.specs.Voltages.{under_of}

abbrev origin : ℕ → OriginId
origin n = record { 0 = n }

abbrev control : NodeId
control = record { 0 = 0 }

-- a row that lists VDD and VDC, in microvolts
abbrev listing : ℕ → ℕ → List RowState
listing high low = Listed.On high ∷ Listed.On low ∷ Listed.Free ∷ []

abbrev first : List RowState
first = listing 1000000 800000

abbrev second : List RowState
second = listing 1200000 1000000

-- the names of the origins do not count
module _ (o : Origin) where
  abbrev fed : OriginKind → ℕ → Origin
  fed kind root = record o { kind = kind; root = origin root }

  abbrev network : List Row → Supplies
  network rows = record {
    origins = fed (Port (On 1000000 ∷ On 1200000 ∷ [])) 0 ∷ fed (Port (On 800000 ∷ On 1000000 ∷ [])) 1 ∷ fed (Switch (origin 0) control true) 0 ∷ [];
    rows = rows;
    sets = [];
  }

  abbrev table : Supplies
  table = network (record { states = first } ∷ record { states = second } ∷ [])

  abbrev bare : Supplies
  bare = network []

  rows_count_from_1 : map (row_of table) (0 ∷ 1 ∷ 2 ∷ 3 ∷ []) ≡ None ∷ Some first ∷ Some second ∷ None ∷ []
  rows_count_from_1 = refl

  one_row_without_a_table : map (row_of bare) (0 ∷ 1 ∷ []) ≡ Some [] ∷ None ∷ []
  one_row_without_a_table = refl

  -- whether an origin is lower than another in each row, by more than a voltage
  abbrev lower : ℕ → ℕ → ℕ → List Bool
  lower a b by = map (λ row. lower_in table row a b by) (first ∷ second ∷ [])

  lower_where_it_is : lower 1 0 0 ∷ lower 1 0 199999 ∷ lower 1 2 0 ∷ [] ≡ (true ∷ true ∷ []) ∷ (true ∷ true ∷ []) ∷ (true ∷ true ∷ []) ∷ []
  lower_where_it_is = refl

  lower_nowhere : lower 1 0 200000 ∷ lower 0 1 0 ∷ lower 0 2 0 ∷ [] ≡ (false ∷ false ∷ []) ∷ (false ∷ false ∷ []) ∷ (false ∷ false ∷ []) ∷ []
  lower_nowhere = refl

  lower_where_all_is_free : lower_in bare [] 1 0 300000 ≡ true
  lower_where_all_is_free = refl

  leaking : map (λ row. leaks_in table row 2 0) (first ∷ second ∷ []) ≡ true ∷ true ∷ []
  leaking = refl

  leaking_to_the_other : leaks_in table first 2 1 ≡ true
  leaking_to_the_other = refl

  not_leaking : leaks_in table first 0 2 ∷ leaks_in table second 0 2 ∷ leaks_in table first 2 2 ∷ leaks_in table second 2 2 ∷ [] ≡ false ∷ false ∷ false ∷ false ∷ []
  not_leaking = refl

  leaking_where_all_is_free : leaks_in bare [] 2 0 ∷ leaks_in bare [] 0 1 ∷ [] ≡ true ∷ false ∷ []
  leaking_where_all_is_free = refl

  -- 1.2 V with 0.8 V is of no row; what is off or unknown fits
  tuples : map (within_in table first) ((State.On 1200000 ∷ State.On 800000 ∷ []) ∷ (State.Unknown ∷ State.On 800000 ∷ []) ∷ []) ≡ false ∷ true ∷ []
  tuples = refl

  other_tuples : map (within_in table second) ((State.On 1200000 ∷ State.On 800000 ∷ []) ∷ (State.On 1200000 ∷ State.Off ∷ []) ∷ (State.On 1200000 ∷ State.On 1000000 ∷ []) ∷ []) ≡ false ∷ true ∷ true ∷ []
  other_tuples = refl

-- below by more than the margin, where all of both supplies is on
below : under_of (State.On 800000) (State.On 0) (State.On 1000000) (State.On 0) 199999 ≡ true
below = refl

by_the_margin : under_of (State.On 800000) (State.On 0) (State.On 1000000) (State.On 0) 200000 ≡ false
by_the_margin = refl

above : under_of (State.On 1000000) (State.On 0) (State.On 800000) (State.On 0) 0 ≡ false
above = refl

ground_off : under_of (State.On 800000) State.Off (State.On 1000000) (State.On 0) 0 ≡ false
ground_off = refl
