-- What stands of everything that is read stands of the cells and the module of inputs.
use Rattle.std.proofs.Common.{◌≡◌, ℕ, Bool, true, not, ◌&&◌, ◌||◌, List, [], ◌∷◌, ◌++◌, map, length, inl, inr, refl, sym, ap, ◌∙◌}
use Rattle.std.specs.Prelude.{is_some, ◌==◌}
use Rattle.std.specs.List.{list_all}
use Rattle.std.proofs.lemmas.Bool.{false≢true, and_parts, and_from, or_cases, or_parts, or_left, or_right, not-true}
use Rattle.std.proofs.lemmas.List.Folds.{list_all-append, list_all-map}
use Rattle.lp_text.specs.Texts.{has_text, distinct, has_text-append, distinct-append_right}
use Rattle.lp_model.specs.GroupsView.{GroupView}
use Rattle.lp_model.specs.NetlistView.{ModuleView}
use Rattle.lp_model.specs.LibraryView.{PgPinView, PinView, CellView}
use Rattle.lp_spec_plain_module.specs.Tests.{is_pg_name, are_distinct, has_names_apart}
use Rattle.lp_spec_plain_module.proofs.Lists.{all-weaker}
use Rattle.lp_cells.specs.Cells.{IsLibrary}
use Rattle.lp_cells.specs.Reasons.{is_visible, is_visible_byte, is_free, all_names}
use Rattle.lp_cells.specs.Sound.{has_names, passes, is_sound_cell}
use Rattle.lp_verilog.specs.Reads.{Reads}
use Rattle.lp_vwrite.specs.WellFormed.{is_name}
use Rattle.lp_vwrite.specs.Sound.{is_read_module, is_read}
use Rattle.lp_spec_plain_netlist.specs.Fits.{has_pg_names, has_related_pins, is_known_cell, is_read_cell, are_read}
use Rattle.lp_spec_plain_netlist.proofs.Names.{has-pg, pgs_apart}
use Rattle.lp_spec_insertion.specs.Inputs.{Inputs, ReadsBoth}
use Rattle.lp_spec_insertion.proofs.Related.{related, switches_inside, all_inside}

abbrev pg_names : List PgPinView → List (List ℕ)
pg_names gs = map (λ (g : PgPinView). g.name) gs

visible_name : (n : List ℕ) → is_visible n ≡ true → is_name n ≡ true
visible_name [] e = absurd (false≢true e)
visible_name (b ∷ n) e = (and_parts (not (length (b ∷ n) == 0)) (list_all is_visible_byte (b ∷ n)) e).1

-- names before others differ from these
front_apart : (pins : List PinView) (gs : List PgPinView) → distinct (map (λ (q : PinView). q.name) pins ++ pg_names gs) ≡ true → list_all (λ (q : PinView). not (is_pg_name gs q.name)) pins ≡ true
front_apart [] gs e = refl
front_apart (q ∷ pins) gs e =
    let names = map (λ (p : PinView). p.name) pins in
    let parts = and_parts (not (has_text q.name (names ++ pg_names gs))) (distinct (names ++ pg_names gs)) e in
    let absent = sym (has_text-append q.name names (pg_names gs)) ∙ not-true (has_text q.name (names ++ pg_names gs)) parts.0 in
    and_from (not (is_pg_name gs q.name)) _ (ap not (sym (has-pg q.name gs) ∙ (or_parts _ _ absent).1)) (front_apart pins gs parts.1)

-- a cell that passes has names of its own for its power and ground pins
passing : (c : CellView) → passes c ≡ true → has_pg_names c ≡ true
passing c e =
    let names = and_parts (has_names c) _ e in
    let free = and_parts (is_free c.name) _ names.0 in
    let both = and_parts (list_all is_visible (all_names c.pins c.pgs)) (distinct (all_names c.pins c.pgs)) free.1 in
    let pins = map (λ (q : PinView). q.name) c.pins in
    let seen = (and_parts (list_all is_visible pins) (list_all is_visible (pg_names c.pgs)) (sym (list_all-append is_visible pins (pg_names c.pgs)) ∙ both.0)).1 in
    and_from (has_names_apart c) _
    (and_from (list_all (λ (q : PinView). not (is_pg_name c.pgs q.name)) c.pins) (are_distinct c.pgs) (front_apart c.pins c.pgs both.1) (sym (pgs_apart c.pgs) ∙ distinct-append_right pins (pg_names c.pgs) both.1))
    (all-weaker (λ (g : PgPinView). is_visible g.name) (λ (g : PgPinView). is_name g.name) (λ g h. visible_name g.name h) c.pgs (sym (list_all-map is_visible (λ (g : PgPinView). g.name) c.pgs) ∙ seen))

-- a cell that passes has related pins of their kinds
passing_related : (c : CellView) → passes c ≡ true → has_related_pins c ≡ true
passing_related c e = related c (and_parts _ _ (and_parts _ _ (and_parts (has_names c) _ e).1).1).1

sound_read : (c : CellView) → (is_sound_cell c && switches_inside c) ≡ true → is_read_cell c ≡ true
unfolding is_sound_cell
sound_read c e =
    let both = and_parts (is_some c.unusable || passes c) (switches_inside c) e in
    elim (or_cases (is_some c.unusable) (passes c) both.0) [
      | inl h ↦ or_left (is_some c.unusable) (is_known_cell c) h
      | inr h ↦ or_right (is_some c.unusable) (is_known_cell c) (and_from _ _ (passing c h) (and_from _ _ (passing_related c h) both.1))
    ]

both_all : (p q : CellView → Bool) (cells : List CellView) → list_all p cells ≡ true → list_all q cells ≡ true → list_all (λ c. p c && q c) cells ≡ true
both_all p q [] e f = refl
both_all p q (c ∷ cells) e f =
    let one = and_parts (p c) (list_all p cells) e in
    let two = and_parts (q c) (list_all q cells) f in
    and_from _ _ (and_from _ _ one.0 two.0) (both_all p q cells one.1 two.1)

pub all_read : ((files : List (List GroupView)) (cells : List CellView) → IsLibrary files cells → list_all is_sound_cell cells ≡ true)
    → ((text : List ℕ) (v : List ModuleView) → Reads text v → is_read v ≡ true)
    → (inputs : Inputs) (cells : List CellView) (m : ModuleView) → ReadsBoth inputs cells m → are_read cells m ≡ true
all_read sound reads inputs cells m both =
    let one = and_parts (distinct (map (λ (x : ModuleView). x.name) (m ∷ []))) (list_all is_read_module (m ∷ [])) (reads inputs.netlist (m ∷ []) both.netlist.reads) in
    and_from (list_all is_read_cell cells) (is_read_module m)
    (all-weaker (λ c. is_sound_cell c && switches_inside c) is_read_cell sound_read cells
    (both_all is_sound_cell switches_inside cells (sound both.libraries.groups cells both.libraries.denoted)
    (ap (list_all switches_inside) both.libraries.denoted.denoted ∙ all_inside both.libraries.groups)))
    (and_parts (is_read_module m) true one.1).0
