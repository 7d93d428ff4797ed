-- What readers give of a netlist and of the cells of its library.
use Rattle.std.proofs.Common.{◌≡◌, Bool, true, false, not, ◌&&◌, ◌||◌, List, Option, Some, None, refl, sym, ap, ◌∙◌, subst}
use Rattle.std.specs.Prelude.{is_some}
use Rattle.std.specs.List.{list_all, list_any}
use Rattle.std.proofs.lemmas.Bool.{false≢true, and_parts}
use Rattle.lp_text.specs.Texts.{distinct}
use Rattle.lp_model.specs.declared.reason.Reason.{Reason}
use Rattle.lp_model.specs.GroupsView.{GroupView}
use Rattle.lp_model.specs.LibraryView.{CellView}
use Rattle.lp_cells.specs.Cells.{IsLibrary, cells_of}
use Rattle.lp_cells.specs.Reasons.{is_free, is_visible, all_names}
use Rattle.lp_cells.specs.Sound as read
use Rattle.lp_cells.proofs.Sounding.{all_sound}
use Rattle.lp_spec_design.specs.Winners.{IsIn}
use Rattle.lp_spec_design.proofs.Members.{of-any}
use Rattle.lp_spec_faults.specs.Modules.{is_own}
use Rattle.lp_spec_agreement.proofs.Apart.{all_in}
use Rattle.lp_spec_read.specs.Laws.{ReadNetlistsDeclareTheirBits, ReadCellsHaveSoundPins, ReadCellNamesDiffer}
use Rattle.lp_spec_written_at.specs.Sources.{takes_own_name}
use Rattle.lp_spec_one_domain.specs.Laws.{ReadSources}

usable : (o : Option Reason) → not (is_some o) ≡ true → o ≡ None
usable None e = refl
usable (Some r) e = absurd (false≢true e)

passed : (c : CellView) → read.is_sound_cell c ≡ true → c.unusable ≡ None → read.passes c ≡ true
unfolding read.is_sound_cell
passed c e none = sym (ap (λ o. is_some o || read.passes c) none) ∙ e

-- the name of a cell that can be used begins not as the added ones
free : (c : CellView) → read.passes c ≡ true → is_own c.name ≡ true → ⊥
free c ok own =
    let names = and_parts (read.has_names c) _ ok in
    let seen = and_parts (is_free c.name) (list_all is_visible (all_names c.pins c.pgs) && distinct (all_names c.pins c.pgs)) names.0 in
    let other = and_parts (is_visible c.name) (not (is_own c.name)) seen.0 in
    false≢true (sym (ap not own) ∙ other.1)

free_cells : (files : List (List GroupView)) (cells : List CellView) → IsLibrary files cells → list_any takes_own_name cells ≡ false
free_cells files cells library = by (list_any takes_own_name cells) refl
  where
    none : list_any takes_own_name cells ≡ true → ⊥
    none e =
        let found = of-any takes_own_name cells e in
        let both = and_parts (not (is_some (found.0).unusable)) (is_own (found.0).name) found.2 in
        let sound = all_in read.is_sound_cell found.0 (cells_of files) (all_sound files) (subst (IsIn found.0) library.denoted found.1) in
        free found.0 (passed found.0 sound (usable (found.0).unusable both.0)) both.1

    by : (b : Bool) → list_any takes_own_name cells ≡ b → b ≡ false
    by true e = absurd (none e)
    by false e = refl

pub sources : ReadNetlistsDeclareTheirBits → ReadCellsHaveSoundPins → ReadCellNamesDiffer → ReadSources
sources declare sound differ text files s reads library = record {
  netlist = declare text s reads;
  library = sound files s.cells library;
  cell_names = differ files s.cells library;
  free_cells = free_cells files s.cells library;
}
