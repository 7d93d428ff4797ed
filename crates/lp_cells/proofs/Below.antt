-- Numbers of names in a cell are below a count.
use Rattle.std.proofs.Common.{◌≡◌, ℕ, ◌<◌, true, List, ◌∷◌, ◌++◌, Option}
use Rattle.std.specs.List.{flat_map}
use Rattle.lp_model.specs.Agreement.{numbers_below, option_numbers}
use Rattle.lp_model.specs.declared.library.Pin.{Pin}
use Rattle.lp_model.specs.declared.library.PgPin.{PgPin}
use Rattle.lp_model.specs.declared.library.StateGroup.{StateGroup}
use Rattle.lp_model.specs.declared.library.Roles.{Roles}
use Rattle.lp_model.specs.LibraryView.{pg_pin_numbers, pin_numbers, state_numbers, roles_numbers}
use Rattle.lp_attributes.proofs.Below.{below_join, below_cons}

-- the numbers of a cell of these parts
pub below_cell : (n name : ℕ) (pgs : List PgPin) (pins : List Pin) (state : Option StateGroup) (roles : Roles) → name < n → numbers_below n (flat_map pg_pin_numbers pgs) ≡ true → numbers_below n (flat_map pin_numbers pins) ≡ true → numbers_below n (option_numbers state_numbers state) ≡ true → numbers_below n (roles_numbers roles) ≡ true → numbers_below n (name ∷ (flat_map pg_pin_numbers pgs ++ (flat_map pin_numbers pins ++ (option_numbers state_numbers state ++ roles_numbers roles)))) ≡ true
below_cell n name pgs pins state roles one two three four five =
    let of_pgs = flat_map pg_pin_numbers pgs in
    let of_pins = flat_map pin_numbers pins in
    let of_state = option_numbers state_numbers state in
    let last = below_join n of_state (roles_numbers roles) four five in
    let more = below_join n of_pins (of_state ++ roles_numbers roles) three last in
    below_cons n name (of_pgs ++ (of_pins ++ (of_state ++ roles_numbers roles))) one (below_join n of_pgs (of_pins ++ (of_state ++ roles_numbers roles)) two more)
