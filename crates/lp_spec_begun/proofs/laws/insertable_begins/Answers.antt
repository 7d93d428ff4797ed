use Rattle.lp_spec_begun.proofs.Insertable.{insertable-begins}
use Rattle.lp_spec_begun.proofs.laws.insertable_begins.Goals as goal

pub returns : goal.returns
returns c =
    insertable-begins c.insertable_is_orderly.ensures c.additions_are_proper.ensures c.additions_have_places.ensures c.cells_have_free_pins.ensures c.added_cells_have_pins_apart.ensures
    c.routes_are_of_controls.ensures c.clamps_have_enables.ensures c.ports_have_supplies.ensures c.uses_are_of_origins.ensures c.written_content_has_its_wires.ensures
    c.everything_begins_as_intended.ensures
