use Rattle.std.proofs.Common.{◌≡◌, ℕ, List, [], refl, sym, ap, ◌∙◌}
use Rattle.lp_model.specs.GroupsView.{GroupView}
use Rattle.lp_model.specs.LibraryView.{CellView}
use Rattle.lp_model.specs.declared.fault.refusal.Refusal.{Refusal}
use Rattle.lp_model.specs.declared.fault.refusal.Refusal.TheVariants as refusals
use Rattle.lp_cells.specs.Reasons.{repeated}
use Rattle.lp_cells.specs.Cells.{IsLibrary, RefusesLibrary, Duplicate, NoMemory, cell_names}
use Rattle.lp_cells.proofs.laws.one_library_answer.Goals as goal

apart : (texts : List (List ℕ)) (files : List (List GroupView)) (cells : List CellView) (r : Refusal) → IsLibrary files cells → RefusesLibrary texts files r → r ≡ refusals.NoMemory
apart texts files cells r is (Duplicate cell h) = let no = sym is.apart ∙ (ap (λ cs. repeated [] (cell_names cs)) is.denoted ∙ h.first) in absurd (cc)
apart texts files cells r is NoMemory = refl

pub returns : goal.returns
returns c = apart
