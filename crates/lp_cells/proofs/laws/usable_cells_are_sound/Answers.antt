use Rattle.std.proofs.Common.{◌≡◌, List, true, sym, subst}
use Rattle.std.specs.List.{list_all}
use Rattle.lp_model.specs.GroupsView.{GroupView}
use Rattle.lp_model.specs.LibraryView.{CellView, library_view}
use Rattle.lp_cells.specs.Cells.{IsLibrary}
use Rattle.lp_cells.specs.Sound.{is_sound_cell}
use Rattle.lp_cells.proofs.Sounding.{all_sound}
use Rattle.lp_cells.proofs.Usability.{all_usable}
use Rattle.lp_cells.proofs.laws.usable_cells_are_sound.Goals as goal

sound : (files : List (List GroupView)) (cells : List CellView) → IsLibrary files cells → list_all is_sound_cell cells ≡ true
sound files cells is = subst (λ (cs : List CellView). list_all is_sound_cell cs ≡ true) (sym is.denoted) (all_sound files)

pub returns-clause-sound : goal.returns-clause-sound
returns-clause-sound c = sound

pub returns-clause-usable : goal.returns-clause-usable
returns-clause-usable c names files library apart below is = all_usable names apart library.cells below (sound files (library_view names library) is)
