use Rattle.lp_spec_one_domain.proofs.Sources.{sources}
use Rattle.lp_spec_one_domain.proofs.laws.read_sources.Goals as goal

pub returns : goal.returns
returns c = sources c.read_netlists_declare_their_bits.ensures c.read_cells_have_sound_pins.ensures c.read_cell_names_differ.ensures
