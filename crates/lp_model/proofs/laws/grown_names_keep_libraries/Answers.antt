use Rattle.lp_model.specs.LibraryView.{library_view-grown}
use Rattle.lp_model.proofs.laws.grown_names_keep_libraries.Goals as goal

pub returns : goal.returns
returns c old new v grown below = library_view-grown old new v grown below
