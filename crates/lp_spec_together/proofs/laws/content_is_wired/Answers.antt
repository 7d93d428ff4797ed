use Rattle.lp_spec_together.proofs.Wired.{content-is-wired}
use Rattle.lp_spec_together.proofs.laws.content_is_wired.Goals as goal

pub returns : goal.returns
returns c =
    content-is-wired c.insertable_is_orderly.ensures c.additions_are_proper.ensures c.additions_have_places.ensures c.wires_stand.ensures c.no_wire_comes_back.ensures
    c.netlists_have_fuel.ensures c.content_has_single_sources.ensures c.insertable_begins.ensures
