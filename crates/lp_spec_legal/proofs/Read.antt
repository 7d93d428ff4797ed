-- What readers give is legal.
use Rattle.std.proofs.Common.{◌≡◌, ◌&&◌, ◌||◌, ◌==◌, true, not, List, [], ◌∷◌, length, None, sym, ap, ◌∙◌, subst}
use Rattle.std.specs.Prelude.{is_some}
use Rattle.std.specs.List.{list_all}
use Rattle.std.proofs.lemmas.Bool.{false≢true, and_parts, and_from}
use Rattle.lp_text.specs.Texts.{distinct}
use Rattle.lp_model.specs.GroupsView.{GroupView}
use Rattle.lp_model.specs.LibraryView.{CellView}
use Rattle.lp_cells.specs.Reasons.{is_visible, is_visible_byte, is_free, all_names}
use Rattle.lp_cells.specs.Sound as read
use Rattle.lp_cells.specs.Cells.{cells_of, IsLibrary}
use Rattle.lp_cells.proofs.Sounding.{all_sound}
use Rattle.lp_vwrite.specs.WellFormed.{is_name}
use Rattle.lp_vwrite.proofs.Sighted.{read_is_sound}
use Rattle.lp_spec_design.specs.Keys.{Name}
use Rattle.lp_spec_design.specs.Winners.{IsIn}
use Rattle.lp_spec_written_at.specs.Sources.{cell_names}
use Rattle.lp_spec_written_at.proofs.Lists.{of-all, all-of}
use Rattle.lp_spec_legal.specs.Legal.{has_legal_names}
use Rattle.lp_spec_legal.specs.Laws.{ReadIsLegal}

-- a name that a library's reader takes
visible-legal : (n : Name) → is_visible n ≡ true → is_name n ≡ true
visible-legal [] e = absurd (false≢true e)
visible-legal (b ∷ n) e = (and_parts (not (length (b ∷ n) == 0)) (list_all is_visible_byte (b ∷ n)) e).1

passed : (c : CellView) → read.is_sound_cell c ≡ true → c.unusable ≡ None → read.passes c ≡ true
unfolding read.is_sound_cell
passed c e none = sym (ap (λ o. is_some o || read.passes c) none) ∙ e

cell-read : (files : List (List GroupView)) (cells : List CellView) → IsLibrary files cells → (c : CellView) → IsIn c cells → c.unusable ≡ None → has_legal_names c ≡ true
cell-read files cells library c h none =
    let sound = of-all read.is_sound_cell c (cells_of files) (all_sound files) (subst (λ cs. IsIn c cs) library.denoted h) in
    let names = and_parts (read.has_names c) _ (passed c sound none) in
    let free = and_parts (is_free c.name) (list_all is_visible (all_names c.pins c.pgs) && distinct (all_names c.pins c.pgs)) names.0 in
    let own = and_parts (is_visible c.name) _ free.0 in
    let pins = and_parts (list_all is_visible (all_names c.pins c.pgs)) (distinct (all_names c.pins c.pgs)) free.1 in
    and_from (is_name c.name) (list_all is_name (cell_names c)) (visible-legal c.name own.0)
    (all-of is_name (cell_names c) (λ n g. visible-legal n (of-all is_visible n (all_names c.pins c.pgs) pins.0 g)))

pub read-legal : ReadIsLegal
read-legal p text files reads library visible = record {
  netlist = read_is_sound text p.structure.modules reads;
  cells = cell-read files p.structure.cells library;
  origins = visible;
}
