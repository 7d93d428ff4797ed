-- The stages of an insertion, joined: what is accepted, and the first fault of what is not.
use Rattle.std.proofs.Common.{◌≡◌, ℕ, ◌≤◌, true, not, List, [], ◌∷◌, map, length, inl, inr, refl, sym, ap, ◌∙◌, subst, arith}
use Rattle.std.specs.Prelude.{Err, ltb, flat_map}
use Rattle.std.specs.List.{list_all}
use Rattle.std.proofs.lemmas.Bool.{and_parts, and_from}
use Rattle.std.proofs.lemmas.List.{length-map}
use Rattle.lp_text.specs.Texts.{Grown, text_at, distinct}
use Rattle.lp_token.specs.Tokens.{is_name_byte}
use Rattle.lp_model.specs.Agreement.{numbers_below}
use Rattle.lp_model.specs.declared.library.Cell.{Cell}
use Rattle.lp_model.specs.declared.library.Library.{Library}
use Rattle.lp_model.specs.NetlistView.{ModuleView, module_numbers}
use Rattle.lp_model.specs.LibraryView.{CellView, cell_view, library_view, library_numbers, library_view-grown, cell_numbers}
use Rattle.lp_cells.specs.Cells.{cell_names}
use Rattle.lp_verilog_tokens.specs.Lexical.{is_visible}
use Rattle.lp_plain_upf.specs.Names.{Name, is_simple_name, begins_with_letter, is_reserved, is_free_name}
use Rattle.lp_spec_plain_netlist.specs.Fits.{are_read}
use Rattle.lp_spec_plain_netlist.specs.Flats.{HasLoop, IsOrdered}
use Rattle.lp_spec_plain_module.specs.Designs.{Flat}
use Rattle.lp_plain_index.proofs.Numbers.{below-left, below-right}
use Rattle.lp_spec_insertion.specs.Inputs.{Inputs, HasCells, HasModules, ReadsBoth, FitsCells, ReadsAll}
use Rattle.lp_spec_insertion.specs.Faults.{IsRefused, FirstFault, library_off, cell_twice, netlist_off, netlist_faulty, not_single, no_fit, no_intent, not_plain, loop}
use Rattle.lp_accept.specs.declared.stop.Stop.{Stop}
use Rattle.lp_accept.specs.declared.stop.Stop.TheVariants as stops
use Rattle.lp_accept.specs.declared.accepted.Accepted.{Accepted}
use Rattle.lp_accept.specs.Inputs.{inputs_of}
use Rattle.lp_accept.specs.Stages.{OrStop}
use Rattle.lp_accept.specs.Read.{AreCells, IsCells, IsNoLibrary}
use Rattle.lp_accept.specs.Judged.{IsFaultless, IsOne, IsNotTaken, Fitting, Judged, Unjudged, cells_of, source_of, flat_by, IsAccepted}
use Rattle.lp_accept.proofs.Few.{few-distinct, unrepeated-distinct}
use Rattle.lp_accept.proofs.Readings.{grown-longer, below-more}

-- ---- names of supply ports are visible

name_visible : (b : ℕ) → is_name_byte b ≡ true → is_visible b ≡ true
name_visible b h = grind arith

pub simple-visible : (n : List ℕ) → list_all is_name_byte n ≡ true → list_all is_visible n ≡ true
simple-visible [] h = refl
simple-visible (b ∷ n) h = let parts = and_parts (is_name_byte b) (list_all is_name_byte n) h in and_from (is_visible b) (list_all is_visible n) (name_visible b parts.0) (simple-visible n parts.1)

pub free-visible : (n : Name) → is_free_name n ≡ true → list_all is_visible n ≡ true
free-visible n h =
    let simple = (and_parts (is_simple_name n) (not (is_reserved n)) h).0 in
    simple-visible n (and_parts (begins_with_letter n) (list_all is_name_byte n) simple).1

-- ---- cells are few

names-of : (names : List (List ℕ)) (cells : List Cell) → cell_names (map (cell_view names) cells) ≡ map (text_at names) (map (λ c. c.name.0) cells)
names-of names [] = refl
names-of names (c ∷ cells) = ap (λ xs. text_at names c.name.0 ∷ xs) (names-of names cells)

pub names-below : (k : ℕ) (cells : List Cell) → numbers_below k (flat_map cell_numbers cells) ≡ true → numbers_below k (map (λ c. c.name.0) cells) ≡ true
names-below k [] h = refl
names-below k (c ∷ cells) h =
    let here = below-left k (cell_numbers c) (flat_map cell_numbers cells) h in
    let others = below-right k (cell_numbers c) (flat_map cell_numbers cells) h in
    and_from (ltb c.name.0 k) (numbers_below k (map (λ x. x.name.0) cells)) (and_parts (ltb c.name.0 k) _ here).0 (names-below k cells others)

pub few-cells : (names : List (List ℕ)) (libs : List (List ℕ)) (l : Library) → IsCells names libs l → length l.cells ≤ length names
few-cells names libs l is =
    let apart = unrepeated-distinct [] (cell_names (library_view names l)) is.has.denoted.apart in
    let few = few-distinct names (length names) (map (λ c. c.name.0) l.cells) (ap distinct (sym (names-of names l.cells)) ∙ apart) (names-below (length names) l.cells is.below) in
    let e = length-map l.cells (λ (c : Cell). c.name.0) in
    omega (arith, few, e)

-- ---- a table that has grown

pub still-cells : (old new : List (List ℕ)) → Grown old new → (libs : List (List ℕ)) (l : Library) → IsCells old libs l → IsCells new libs l
still-cells old new grown libs l is = record {
  has = subst (HasCells libs) (sym (library_view-grown old new l grown is.below)) is.has;
  below = below-more (length old) (length new) (library_numbers l) (grown-longer old new grown) is.below;
}

pub are-cells : (names : List (List ℕ)) (libs : List (List ℕ)) (l : Library) → IsCells names libs l → length l.cells ≤ 1140850689 → AreCells names l
are-cells names libs l is few = record { below = is.below; few = omega (arith, few) }

-- ---- first faults

module _ (libs : List (List ℕ)) (netlist upf : List ℕ) where
  abbrev inputs : Inputs
  inputs = inputs_of libs netlist upf

  abbrev pub Answer : Stop → Type 0
  Answer s = OrStop (IsAccepted inputs) (FirstFault inputs) (Err s)

  pub exit-library : {T : Type 0} (P : T → Type 0) (s : Stop) → OrStop P (IsNoLibrary libs) (Err s) → Answer s
  exit-library P (stops.Fault l) h = elim h [ inl x ↦ library_off x | inr x ↦ cell_twice x ]
  exit-library P stops.NoMemory h = tt

  pub exit-netlist : {T : Type 0} (P : T → Type 0) (cells : List CellView) → HasCells libs cells → (s : Stop) → OrStop P (IsRefused netlist) (Err s) → Answer s
  exit-netlist P cells c (stops.Fault l) h = netlist_off cells c h
  exit-netlist P cells c stops.NoMemory h = tt

  untaken : (cells : List CellView) (modules : List ModuleView) → HasCells libs cells → HasModules netlist modules → (line : List ℕ) → IsNotTaken cells modules line → FirstFault inputs line
  untaken cells modules c m line (inl f) = netlist_faulty cells modules f.report c m f.first f.spelled
  untaken cells modules c m line (inr o) = not_single cells modules c m o.faultless o.other o.spelled

  pub exit-source : {T : Type 0} (P : T → Type 0) (cells : List CellView) (modules : List ModuleView) → HasCells libs cells → HasModules netlist modules → (s : Stop) → OrStop P (IsNotTaken cells modules) (Err s) → Answer s
  exit-source P cells modules c m (stops.Fault l) h = untaken cells modules c m l h
  exit-source P cells modules c m stops.NoMemory h = tt

  module _ (cells : List CellView) (m : ModuleView) (has : HasCells libs cells) (modules : List ModuleView) (read : HasModules netlist modules) (one : IsOne cells modules m) where
    pub both : ReadsBoth inputs cells m
    both = record { libraries = has; netlist = subst (HasModules netlist) one.one read; faultless = subst (IsFaultless cells) one.one one.faultless; single = one.single }

    fit : Fitting cells m → FitsCells inputs cells m
    fit f = record { both = both; fits = f }

    unjudged : (line : List ℕ) → Unjudged cells m upf line → FirstFault inputs line
    unjudged line (inl f) = no_fit cells m both f.0 f.1
    unjudged line (inr (f, inl n)) = no_intent cells m (fit f) n.0 n.1
    unjudged line (inr (f, inr u)) =
        let all : ReadsAll inputs cells m u.under = record { fit = fit f; intent = u.intent } in
        elim u.unsound.why [
          | inl e ↦ not_plain cells m u.under all e u.unsound.spelled
          | inr r ↦ loop cells m u.under 0 all r.0 (r.1 u.under.power u.under.gnd 0) u.unsound.spelled
        ]

    pub exit-judge : (s : Stop) → OrStop (Judged cells m upf) (Unjudged cells m upf) (Err s) → Answer s
    exit-judge (stops.Fault l) h = unjudged l h
    exit-judge stops.NoMemory h = tt

  -- what is judged is accepted
  pub accepted : (none : (f : Flat) → IsOrdered f → HasLoop f → ⊥) → ((cells : List CellView) (m : ModuleView) → ReadsBoth inputs cells m → are_read cells m ≡ true) → (a : Accepted) → IsCells a.names libs a.library → length a.library.cells ≤ 1140850689 → length a.names ≤ 1140850689
      → (modules : List ModuleView) → HasModules netlist modules → IsOne (cells_of a) modules (source_of a) → numbers_below (length a.names) (module_numbers a.source) ≡ true → Judged (cells_of a) (source_of a) upf a.intent → IsAccepted inputs a
  accepted none readable a cells few_cells few_names modules read one below j = record {
    accepts = record {
      all = record { fit = fit (cells_of a) (source_of a) cells.has modules read one j.fitting; intent = j.intent };
      plain = j.sound.plain;
      no_loop = λ margin. none (flat_by a margin) (j.sound.ordered a.intent.power a.intent.gnd margin);
    };
    read = readable (cells_of a) (source_of a) (both (cells_of a) (source_of a) cells.has modules read one);
    ordered = λ margin. j.sound.ordered a.intent.power a.intent.gnd margin;
    cells_below = cells.below;
    source_below = below;
    few_names = few_names;
    few_cells = few_cells;
    power_visible = free-visible a.intent.power j.intent.power_free;
    gnd_visible = free-visible a.intent.gnd j.intent.gnd_free;
  }
