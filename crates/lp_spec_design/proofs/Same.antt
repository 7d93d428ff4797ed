-- A function over the texts of names is that over their numbers.
use Rattle.std.proofs.Common.{◌≡◌, ℕ, ◌+◌, ◌<◌, ◌==◌, Bool, true, false, not, ◌&&◌, ◌||◌, cond, List, [], ◌∷◌, ◌++◌, length, Option, Some, None, refl, sym, ap, ◌∙◌}
use Rattle.std.specs.Prelude.{map, is_some, ltb, bytes_eq, if◌then◌else◌, slice_index_or}
use Rattle.std.specs.List.{list_any, position, position_from, flat_map}
use Rattle.std.specs.Option.{option_map}
use Rattle.std.proofs.lemmas.Bool.{true≢false, false≢true, eqb-true, eq-eqb, ltb-true, and_parts}
use Rattle.std.proofs.lemmas.Bool.Decides.{same_from_decides}
use Rattle.std.proofs.lemmas.List.Folds.{list_all-append}
use Rattle.std.proofs.lemmas.Iterator.Adapters.{position_from-zero}
use Rattle.std.proofs.lemmas.Slice.Eq.{bytes_eq-Decides}
use Rattle.lp_text.specs.Texts.{text_at, distinct, place_of, place_of-distinct}
use Rattle.lp_text.specs.declared.names.NameId.{NameId}
use Rattle.lp_tern.specs.declared.tern.Tern.{Tern}
use Rattle.lp_tern.specs.declared.tern.Tern.TheVariants.{X}
use Rattle.lp_tern.specs.Values.{replacements, agreed}
use Rattle.lp_expr.specs.Formula.{Formula, truth, completions}
use Rattle.lp_model.specs.Agreement.{numbers_below, name_texts, option_numbers}
use Rattle.lp_model.specs.declared.library.Cell.{Cell}
use Rattle.lp_model.specs.declared.library.Pin.{Pin}
use Rattle.lp_model.specs.declared.library.StateGroup.{StateGroup}
use Rattle.lp_model.specs.LibraryView.{PinView, expr_view, expr_numbers, pg_pin_numbers, pin_view, pin_numbers, state_view, state_numbers, roles_numbers, cell_view, cell_numbers}
use Rattle.lp_behaviour.specs.Signals as numbers
use Rattle.lp_behaviour.specs.Functions as by_number
use Rattle.lp_spec_design.specs.Keys.{Name}
use Rattle.lp_spec_design.specs.Netlists.{first}
use Rattle.lp_spec_design.specs.Settled as by_text
use Rattle.lp_spec_design.specs.Sees.{Sees}

below-left : (n : ℕ) (xs ys : List ℕ) → numbers_below n (xs ++ ys) ≡ true → numbers_below n xs ≡ true
below-left n xs ys e = (and_parts (numbers_below n xs) (numbers_below n ys) (sym (list_all-append (λ k. ltb k n) xs ys) ∙ e)).0

below-right : (n : ℕ) (xs ys : List ℕ) → numbers_below n (xs ++ ys) ≡ true → numbers_below n ys ≡ true
below-right n xs ys e = (and_parts (numbers_below n xs) (numbers_below n ys) (sym (list_all-append (λ k. ltb k n) xs ys) ∙ e)).1

below-head : (n k : ℕ) (xs : List ℕ) → numbers_below n (k ∷ xs) ≡ true → k < n
below-head n k xs e = ltb-true k n (and_parts (ltb k n) (numbers_below n xs) e).0

below-tail : (n k : ℕ) (xs : List ℕ) → numbers_below n (k ∷ xs) ≡ true → numbers_below n xs ≡ true
below-tail n k xs e = (and_parts (ltb k n) (numbers_below n xs) e).1

is_some-first : {A : Type 0} (p : A → Bool) (xs : List A) → is_some (first p xs) ≡ list_any p xs
is_some-first p [] = refl
is_some-first p (x ∷ xs) = by (p x) (is_some-first p xs)
  where
    by : (b : Bool) → is_some (first p xs) ≡ list_any p xs → is_some (if b then Some x else first p xs) ≡ (b || list_any p xs)
    by true e = refl
    by false e = e

is_some-from : {A : Type 0} (p : A → Bool) (k : ℕ) (xs : List A) → is_some (position_from p k xs) ≡ list_any p xs
is_some-from p k [] = refl
is_some-from p k (x ∷ xs) = by (p x) (is_some-from p (k + 1) xs)
  where
    by : (b : Bool) → is_some (position_from p (k + 1) xs) ≡ list_any p xs → is_some (cond b (Some k) (position_from p (k + 1) xs)) ≡ (b || list_any p xs)
    by true e = refl
    by false e = e

is_some-position : {A : Type 0} (p : A → Bool) (xs : List A) → is_some (position p xs) ≡ list_any p xs
is_some-position p xs = ap is_some (position_from-zero p xs) ∙ is_some-from p 0 xs

module _ (texts : List (List ℕ)) (apart : distinct texts ≡ true) where
  injective : (a b : ℕ) → a < length texts → b < length texts → text_at texts a ≡ text_at texts b → a ≡ b
  injective a b l m e =
      let same : Some a ≡ Some b = sym (place_of-distinct texts a apart l) ∙ ap (λ t. place_of t texts) e ∙ place_of-distinct texts b apart m in
      cc

  -- two names have one text exactly where they have one number
  same_name : (a b : ℕ) → a < length texts → b < length texts → bytes_eq (text_at texts a) (text_at texts b) ≡ (a == b)
  same_name a b l m =
      same_from_decides (bytes_eq (text_at texts a) (text_at texts b)) (a == b) (bytes_eq-Decides (text_at texts a) (text_at texts b))
      ((λ e. ap (text_at texts) (eqb-true a b e)), (λ t. eq-eqb a b (injective a b l m t)))

  any_pin : (pins : List Pin) (v : ℕ) → v < length texts → numbers_below (length texts) (flat_map pin_numbers pins) ≡ true → list_any (λ (q : PinView). numbers.is_input q.direction && bytes_eq q.name (text_at texts v)) (map (pin_view texts) pins) ≡ list_any (λ (p : Pin). numbers.is_input p.direction && (p.name.0 == v)) pins
  any_pin [] v l below = refl
  any_pin (p ∷ pins) v l below =
      let here = below-left (length texts) (pin_numbers p) (flat_map pin_numbers pins) below in
      let name = same_name p.name.0 v (below-head (length texts) p.name.0 _ here) l in
      λ i. (numbers.is_input p.direction && name i) || any_pin pins v l (below-right (length texts) (pin_numbers p) (flat_map pin_numbers pins) below) i

  some_pin : (pins : List Pin) (v : NameId) → v.0 < length texts → numbers_below (length texts) (flat_map pin_numbers pins) ≡ true → is_some (first (λ (q : PinView). numbers.is_input q.direction && bytes_eq q.name (text_at texts v.0)) (map (pin_view texts) pins)) ≡ is_some (numbers.input_place pins v)
  some_pin pins v l below =
      is_some-first (λ (q : PinView). numbers.is_input q.direction && bytes_eq q.name (text_at texts v.0)) (map (pin_view texts) pins)
      ∙ any_pin pins v.0 l below
      ∙ sym (is_some-position (λ (p : Pin). numbers.is_input p.direction && (p.name.0 == v.0)) pins)

  state : (g : Option StateGroup) (bit : Bool) (v : NameId) → v.0 < length texts → numbers_below (length texts) (option_numbers state_numbers g) ≡ true → by_text.state_named (option_map (state_view texts) g) bit (text_at texts v.0) ≡ numbers.state_value g bit v
  state None bit v l below = refl
  state (Some g) bit v l below =
      let rest = expr_numbers g.next ++ (expr_numbers g.clock ++ (expr_numbers g.clear ++ (expr_numbers g.preset ++ expr_numbers g.power_down))) in
      let var = same_name g.var.0 v.0 (below-head (length texts) g.var.0 (g.inverse.0 ∷ rest) below) l in
      let inverse = same_name g.inverse.0 v.0 (below-head (length texts) g.inverse.0 rest (below-tail (length texts) g.var.0 (g.inverse.0 ∷ rest) below)) l in
      λ i. if var i then numbers.known bit else if inverse i then numbers.known (not bit) else X

  value : (pins : List Tern) (o : Option PinView) (r : Option ℕ) (x s t : Tern) → is_some o ≡ is_some r → ((k : ℕ) → r ≡ Some k → x ≡ slice_index_or pins k X) → s ≡ t → by_text.value_named o x s ≡ numbers.at_place pins r t
  value pins None None x s t e h same = same
  value pins (Some q) (Some k) x s t e h same = h k refl
  value pins None (Some k) x s t e h same = absurd (false≢true e)
  value pins (Some q) None x s t e h same = absurd (true≢false e)

  module _ (cell : Cell) (pins : List Tern) (seen : Name → Tern) (sees : Sees texts cell pins seen) (below : numbers_below (length texts) (cell_numbers cell) ≡ true) where
    abbrev of_pgs : List ℕ
    of_pgs = flat_map pg_pin_numbers cell.pgs

    abbrev of_pins : List ℕ
    of_pins = flat_map pin_numbers cell.pins

    abbrev of_state : List ℕ
    of_state = option_numbers state_numbers cell.state

    abbrev of_roles : List ℕ
    of_roles = roles_numbers cell.roles

    from_pins : numbers_below (length texts) (of_pins ++ (of_state ++ of_roles)) ≡ true
    from_pins = below-right (length texts) of_pgs (of_pins ++ (of_state ++ of_roles)) (below-tail (length texts) cell.name.0 (of_pgs ++ (of_pins ++ (of_state ++ of_roles))) below)

    pins_below : numbers_below (length texts) of_pins ≡ true
    pins_below = below-left (length texts) of_pins (of_state ++ of_roles) from_pins

    state_below : numbers_below (length texts) of_state ≡ true
    state_below = below-left (length texts) of_state of_roles (below-right (length texts) of_pins (of_state ++ of_roles) from_pins)

    one_name : (bit : Bool) (v : NameId) → v.0 < length texts → by_text.named_value (cell_view texts cell) seen bit (text_at texts v.0) ≡ numbers.signal_value cell pins bit v
    one_name bit v l =
        value pins (first (λ (q : PinView). numbers.is_input q.direction && bytes_eq q.name (text_at texts v.0)) (map (pin_view texts) cell.pins)) (numbers.input_place cell.pins v) (seen (text_at texts v.0))
        (by_text.state_named (option_map (state_view texts) cell.state) bit (text_at texts v.0)) (numbers.state_value cell.state bit v)
        (some_pin cell.pins v l pins_below) (λ k e. sees v k e) (state cell.state bit v l state_below)

    names : (bit : Bool) (vs : List NameId) → numbers_below (length texts) (map (λ (v : NameId). v.0) vs) ≡ true → map (by_text.named_value (cell_view texts cell) seen bit) (name_texts texts vs) ≡ map (numbers.signal_value cell pins bit) vs
    names bit [] h = refl
    names bit (v ∷ vs) h = λ i. one_name bit v (below-head (length texts) v.0 (map (λ (u : NameId). u.0) vs) h) i ∷ names bit vs (below-tail (length texts) v.0 (map (λ (u : NameId). u.0) vs) h) i

    bits : (e : Formula) (bs : List Bool) → numbers_below (length texts) (expr_numbers e) ≡ true
        → flat_map (λ bit. map (truth e.steps) (completions (map (by_text.named_value (cell_view texts cell) seen bit) (name_texts texts e.variables)))) bs
        ≡ flat_map (by_number.truths cell pins e) bs
    bits e [] h = refl
    bits e (b ∷ bs) h = λ i. map (truth e.steps) (completions (names b e.variables h i)) ++ bits e bs h i

    same_in : (e : Formula) (q : Tern) → numbers_below (length texts) (expr_numbers e) ≡ true → by_text.function_value (cell_view texts cell) seen q (expr_view texts e) ≡ by_number.function_value cell pins q e
    same_in e q h = ap agreed (bits e (replacements q) h)

pub same : (texts : List (List ℕ)) (cell : Cell) (e : Formula) (pins : List Tern) (seen : Name → Tern) (q : Tern) → distinct texts ≡ true → numbers_below (length texts) (cell_numbers cell) ≡ true → numbers_below (length texts) (expr_numbers e) ≡ true → Sees texts cell pins seen → by_text.function_value (cell_view texts cell) seen q (expr_view texts e) ≡ by_number.function_value cell pins q e
same texts cell e pins seen q apart below named sees = same_in texts apart cell pins seen sees below e q named
