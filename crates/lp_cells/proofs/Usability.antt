-- A cell that passes, over names that differ, is one that can be used.
use Rattle.std.proofs.Common.{◌≡◌, ℕ, ◌<◌, ◌≤◌, ◌+◌, Bool, true, false, List, [], ◌∷◌, ◌++◌, length, Option, Some, None, refl, sym, ap, ◌∙◌, subst, inl, inr, ◌⊎◌, ◌&&◌, ◌||◌}
use Rattle.std.specs.Prelude.{◌==◌, map, cond, is_some, nat_le, nat_lt, slice_get}
use Rattle.std.specs.List.{All, filter, list_all, list_any, position, position_from, flat_map}
use Rattle.std.specs.Option.{option_map}
use Rattle.std.proofs.lemmas.Bool.{and_parts, and_from, eq-eqb, leb-true, lt-ltb, true≢false}
use Rattle.std.proofs.lemmas.List.{length-map}
use Rattle.std.proofs.lemmas.List.Elements.{All-nil, All-cons}
use Rattle.std.proofs.lemmas.Option.{slice_get_within}
use Rattle.std.proofs.lemmas.Iterator.Adapters.{position_from-zero}
use Rattle.lp_text.specs.declared.names.NameId.{NameId}
use Rattle.lp_text.specs.Texts.{distinct, has_text, has_text-append, place_of, place_of-distinct, same_text, same_text-true, text_at}
use Rattle.lp_expr.specs.Formula.{Formula}
use Rattle.lp_model.specs.Agreement.{numbers_below, name_numbers, name_texts, option_numbers}
use Rattle.lp_model.specs.declared.reason.Reason.{Reason}
use Rattle.lp_model.specs.declared.library.Cell.{Cell}
use Rattle.lp_model.specs.declared.library.Pin.{Pin}
use Rattle.lp_model.specs.declared.library.PgPin.{PgPin}
use Rattle.lp_model.specs.declared.library.PgKind.{PgKind}
use Rattle.lp_model.specs.declared.library.Switched.{Switched}
use Rattle.lp_model.specs.declared.library.StateGroup.{StateGroup}
use Rattle.lp_model.specs.LibraryView.{PgPinView, PinView, cell_numbers, cell_view, expr_numbers, expr_view, pg_pin_numbers, pg_pin_view, pin_numbers, pin_view, roles_numbers, state_numbers, state_view, switched_numbers, switched_view}
use Rattle.lp_model.specs.declared.netlist.Direction.{Direction}
use Rattle.lp_model.specs.declared.netlist.Direction.TheVariants.{Input, Output}
use Rattle.lp_behaviour.specs.Signals.{input_place, is_input}
use Rattle.lp_behaviour.specs.Usable.{IsUsable, acts_by_class, is_below_if_any, is_function, is_function_if_any, is_pg, is_signal, is_state_name, is_usable_pg, is_usable_pin, is_usable_state, is_usable_switched}
use Rattle.lp_attributes.proofs.Below.{below_head, below_left, below_right, below_tail}
use Rattle.lp_parts.specs.Functions.{kinds_of}
use Rattle.lp_parts.specs.Pins.{floats}
use Rattle.lp_cells.specs.Reasons.{is_ground_at, is_power_at, names_ground, names_power}
use Rattle.lp_cells.specs.Sound.{has_function, has_functions, has_names, has_related, input_names, is_grounded_at, is_over, is_over_if_any, is_sound_cell, is_sound_pg, is_sound_pin, is_sound_state, is_sound_switched, passes, pg_names_of, signals_of, state_names}

or_either : (a b : Bool) → (a || b) ≡ true → (a ≡ true) ⊎ (b ≡ true)
or_either true b e = inl refl
or_either false b e = inr e

or_left : (a b : Bool) → a ≡ true → (a || b) ≡ true
or_left true b e = refl
or_left false b e = absurd (cc)

or_right : (a b : Bool) → b ≡ true → (a || b) ≡ true
or_right true b e = refl
or_right false b e = e

-- a value that passes has a place
place_from : {A : Type 0} (p : A → Bool) (k : ℕ) (xs : List A) → is_some (position_from p k xs) ≡ list_any p xs
place_from p k [] = refl
place_from p k (x ∷ xs) = by (p x) (place_from p (k + 1) xs)
  where
    by : (b : Bool) → is_some (position_from p (k + 1) xs) ≡ list_any p xs → is_some (cond b (Some k) (position_from p (k + 1) xs)) ≡ (b || list_any p xs)
    by true e = refl
    by false e = e

has_place : {A : Type 0} (p : A → Bool) (xs : List A) → list_any p xs ≡ true → is_some (position p xs) ≡ true
has_place p xs e = ap is_some (position_from-zero p xs) ∙ place_from p 0 xs ∙ e

module _ (T : List (List ℕ)) (apart : distinct T ≡ true) where
  -- two numbers of one text are one
  same_number : (a b : ℕ) → a < length T → b < length T → text_at T a ≡ text_at T b → a ≡ b
  same_number a b l m e =
      let same : Some a ≡ Some b = sym (place_of-distinct T a apart l) ∙ ap (λ t. place_of t T) e ∙ place_of-distinct T b apart m in
      cc

  is_number : (a v : ℕ) → a < length T → v < length T → same_text (text_at T v) (text_at T a) ≡ true → (a == v) ≡ true
  is_number a v l m e = eq-eqb a v (same_number a v l m (sym (same_text-true (text_at T v) (text_at T a) e)))

  any_pin : (pins : List Pin) (v : ℕ) → v < length T → numbers_below (length T) (flat_map pin_numbers pins) ≡ true → has_text (text_at T v) (input_names (map (pin_view T) pins)) ≡ true → list_any (λ (p : Pin). is_input p.direction && (p.name.0 == v)) pins ≡ true
  any_pin [] v l below has = absurd (true≢false (sym has))
  any_pin (p ∷ pins) v l below has = by p.direction (any_pin pins v l (below_right (length T) (pin_numbers p) (flat_map pin_numbers pins) below)) has
    where
      others : List PinView
      others = filter (λ (q : PinView). is_input q.direction) (map (pin_view T) pins)

      more : Bool
      more = list_any (λ (q : Pin). is_input q.direction && (q.name.0 == v)) pins

      by : (d : Direction) → (has_text (text_at T v) (map (λ (q : PinView). q.name) others) ≡ true → more ≡ true) → has_text (text_at T v) (map (λ (q : PinView). q.name) (cond (is_input d) (pin_view T p ∷ others) others)) ≡ true → ((is_input d && (p.name.0 == v)) || more) ≡ true
      by Output behind there = behind there
      by Input behind has =
          elim (or_either (same_text (text_at T v) (text_at T p.name.0)) (has_text (text_at T v) (map (λ (q : PinView). q.name) others)) has) [
            | inl here ↦ or_left (p.name.0 == v) more (is_number p.name.0 v (below_head (length T) p.name.0 _ (below_left (length T) (pin_numbers p) (flat_map pin_numbers pins) below)) l here)
            | inr there ↦ or_right (p.name.0 == v) more (behind there)
          ]

  any_pg : (pgs : List PgPin) (v : ℕ) → v < length T → numbers_below (length T) (flat_map pg_pin_numbers pgs) ≡ true → has_text (text_at T v) (map (λ (p : PgPinView). p.name) (map (pg_pin_view T) pgs)) ≡ true → list_any (λ (p : PgPin). p.name.0 == v) pgs ≡ true
  any_pg [] v l below has = absurd (true≢false (sym has))
  any_pg (p ∷ pgs) v l below has =
      elim (or_either (same_text (text_at T v) (text_at T p.name.0)) (has_text (text_at T v) (map (λ (p : PgPinView). p.name) (map (pg_pin_view T) pgs))) has) [
        | inl here ↦ or_left (p.name.0 == v) (list_any (λ (p : PgPin). p.name.0 == v) pgs) (is_number p.name.0 v (below_head (length T) p.name.0 _ (below_left (length T) (pg_pin_numbers p) (flat_map pg_pin_numbers pgs) below)) l here)
        | inr there ↦ or_right (p.name.0 == v) (list_any (λ (p : PgPin). p.name.0 == v) pgs) (any_pg pgs v l (below_right (length T) (pg_pin_numbers p) (flat_map pg_pin_numbers pgs) below) there)
      ]

  named : (s : Option StateGroup) (v : NameId) → v.0 < length T → numbers_below (length T) (option_numbers state_numbers s) ≡ true → has_text (text_at T v.0) (state_names (option_map (state_view T) s)) ≡ true → is_state_name s v ≡ true
  named None v l below has = absurd (true≢false (sym has))
  named (Some s) v l below has =
      let t = text_at T v.0 in
      let rest = expr_numbers s.next ++ (expr_numbers s.clock ++ (expr_numbers s.clear ++ (expr_numbers s.preset ++ expr_numbers s.power_down))) in
      let var = below_head (length T) s.var.0 (s.inverse.0 ∷ rest) below in
      let inverse = below_head (length T) s.inverse.0 rest (below_tail (length T) s.var.0 (s.inverse.0 ∷ rest) below) in
      elim (or_either (same_text t (text_at T s.var.0)) (same_text t (text_at T s.inverse.0) || false) has) [
        | inl here ↦ or_left (s.var.0 == v.0) (s.inverse.0 == v.0) (is_number s.var.0 v.0 var l here)
        | inr there ↦ or_right (s.var.0 == v.0) (s.inverse.0 == v.0) (elim (or_either (same_text t (text_at T s.inverse.0)) false there) [
          | inl second ↦ is_number s.inverse.0 v.0 inverse l second
          | inr other ↦ absurd (true≢false (sym other))
        ])
      ]

  module _ (c : Cell) (below : numbers_below (length T) (cell_numbers c) ≡ true) where
    abbrev of_pgs : List ℕ
    of_pgs = flat_map pg_pin_numbers c.pgs

    abbrev of_pins : List ℕ
    of_pins = flat_map pin_numbers c.pins

    abbrev of_state : List ℕ
    of_state = option_numbers state_numbers c.state

    others : numbers_below (length T) (of_pgs ++ (of_pins ++ (of_state ++ roles_numbers c.roles))) ≡ true
    others = below_tail (length T) c.name.0 (of_pgs ++ (of_pins ++ (of_state ++ roles_numbers c.roles))) below

    pgs_below : numbers_below (length T) of_pgs ≡ true
    pgs_below = below_left (length T) of_pgs (of_pins ++ (of_state ++ roles_numbers c.roles)) others

    behind_pgs : numbers_below (length T) (of_pins ++ (of_state ++ roles_numbers c.roles)) ≡ true
    behind_pgs = below_right (length T) of_pgs (of_pins ++ (of_state ++ roles_numbers c.roles)) others

    pins_below : numbers_below (length T) of_pins ≡ true
    pins_below = below_left (length T) of_pins (of_state ++ roles_numbers c.roles) behind_pgs

    behind_pins : numbers_below (length T) (of_state ++ roles_numbers c.roles) ≡ true
    behind_pins = below_right (length T) of_pins (of_state ++ roles_numbers c.roles) behind_pgs

    state_below : numbers_below (length T) of_state ≡ true
    state_below = below_left (length T) of_state (roles_numbers c.roles) behind_pins

    roles_below : numbers_below (length T) (roles_numbers c.roles) ≡ true
    roles_below = below_right (length T) of_state (roles_numbers c.roles) behind_pins

    abbrev pin_names : List (List ℕ)
    pin_names = input_names (map (pin_view T) c.pins)

    signal : (v : NameId) → v.0 < length T → has_text (text_at T v.0) (signals_of (cell_view T c)) ≡ true → is_signal c v ≡ true
    signal v l has =
        elim (or_either (has_text (text_at T v.0) pin_names) (has_text (text_at T v.0) (state_names (option_map (state_view T) c.state))) (sym (has_text-append (text_at T v.0) pin_names (state_names (option_map (state_view T) c.state))) ∙ has)) [
          | inl pin ↦ or_left (is_some (input_place c.pins v)) (is_state_name c.state v) (has_place (λ (p : Pin). is_input p.direction && (p.name.0 == v.0)) c.pins (any_pin c.pins v.0 l pins_below pin))
          | inr state ↦ or_right (is_some (input_place c.pins v)) (is_state_name c.state v) (named c.state v l state_below state)
        ]

    pg : (v : NameId) → v.0 < length T → has_text (text_at T v.0) (pg_names_of (cell_view T c)) ≡ true → is_pg c v ≡ true
    pg v l has = has_place (λ (p : PgPin). p.name.0 == v.0) c.pgs (any_pg c.pgs v.0 l pgs_below has)

    -- the names of a function
    names_stand : (R : List (List ℕ)) (stands : NameId → Bool) → ((v : NameId) → v.0 < length T → has_text (text_at T v.0) R ≡ true → stands v ≡ true) → (vs : List NameId) → numbers_below (length T) (name_numbers vs) ≡ true → list_all (λ n. has_text n R) (name_texts T vs) ≡ true → list_all stands vs ≡ true
    names_stand R stands each [] low all = refl
    names_stand R stands each (v ∷ vs) low all =
        let both = and_parts (has_text (text_at T v.0) R) (list_all (λ n. has_text n R) (name_texts T vs)) all in
        and_from _ _ (each v (below_head (length T) v.0 (name_numbers vs) low) both.0) (names_stand R stands each vs (below_tail (length T) v.0 (name_numbers vs) low) both.1)

    over_signals : (e : Formula) → numbers_below (length T) (expr_numbers e) ≡ true → is_over (signals_of (cell_view T c)) (expr_view T e) ≡ true → is_function (is_signal c) e ≡ true
    over_signals e low all = names_stand (signals_of (cell_view T c)) (is_signal c) signal e.variables low all

    over_pgs : (e : Formula) → numbers_below (length T) (expr_numbers e) ≡ true → is_over (pg_names_of (cell_view T c)) (expr_view T e) ≡ true → is_function (is_pg c) e ≡ true
    over_pgs e low all = names_stand (pg_names_of (cell_view T c)) (is_pg c) pg e.variables low all

    signals_if_any : (o : Option Formula) → numbers_below (length T) (option_numbers expr_numbers o) ≡ true → is_over_if_any (signals_of (cell_view T c)) (option_map (expr_view T) o) ≡ true → is_function_if_any (is_signal c) o ≡ true
    signals_if_any None low all = refl
    signals_if_any (Some e) low all = over_signals e low all

    pgs_if_any : (o : Option Formula) → numbers_below (length T) (option_numbers expr_numbers o) ≡ true → is_over_if_any (pg_names_of (cell_view T c)) (option_map (expr_view T) o) ≡ true → is_function_if_any (is_pg c) o ≡ true
    pgs_if_any None low all = refl
    pgs_if_any (Some e) low all = over_pgs e low all

    abbrev count : ℕ
    count = length (map (pg_pin_view T) c.pgs)

    same_count : count ≡ length c.pgs
    same_count = length-map c.pgs (pg_pin_view T)

    switched_usable : (o : Option Switched) → numbers_below (length T) (option_numbers switched_numbers o) ≡ true → is_sound_switched (signals_of (cell_view T c)) count (option_map (switched_view T) o) ≡ true → is_usable_switched c o ≡ true
    switched_usable None low sound = refl
    switched_usable (Some s) low sound =
        let both = and_parts (is_over (signals_of (cell_view T c)) (expr_view T s.off)) (nat_lt s.passes count) sound in
        and_from _ _ (over_signals s.off low both.0) (subst (λ (n : ℕ). nat_lt s.passes n ≡ true) same_count both.1)

    pgs_usable : (pgs : List PgPin) → numbers_below (length T) (flat_map pg_pin_numbers pgs) ≡ true → list_all (is_sound_pg (cell_view T c)) (map (pg_pin_view T) pgs) ≡ true → list_all (is_usable_pg c) pgs ≡ true
    pgs_usable [] low sound = refl
    pgs_usable (p ∷ pgs) low sound =
        let here = below_left (length T) (pg_pin_numbers p) (flat_map pg_pin_numbers pgs) low in
        let more = below_right (length T) (pg_pin_numbers p) (flat_map pg_pin_numbers pgs) low in
        let both = and_parts (is_sound_pg (cell_view T c) (pg_pin_view T p)) (list_all (is_sound_pg (cell_view T c)) (map (pg_pin_view T) pgs)) sound in
        and_from _ _ (switched_usable p.switched (below_tail (length T) p.name.0 (option_numbers switched_numbers p.switched) here) both.0) (pgs_usable pgs more both.1)

    -- a place that is taken is one of a pin of the cell
    power_within : (k : ℕ) → names_power (kinds_of (map (pg_pin_view T) c.pgs)) (Some k) ≡ true → nat_lt k (length c.pgs) ≡ true
    power_within k e = by (slice_get kinds k) refl e
      where
        kinds : List PgKind
        kinds = kinds_of (map (pg_pin_view T) c.pgs)

        same : length kinds ≡ length c.pgs
        same = length-map (map (pg_pin_view T) c.pgs) (λ (p : PgPinView). p.kind) ∙ same_count

        by : (o : Option PgKind) → slice_get kinds k ≡ o → is_power_at o ≡ true → nat_lt k (length c.pgs) ≡ true
        by None is h = absurd (true≢false (sym h))
        by (Some x) is h = subst (λ (n : ℕ). nat_lt k n ≡ true) same (lt-ltb k (length kinds) (slice_get_within kinds k x is))

    ground_within : (k : ℕ) → names_ground (kinds_of (map (pg_pin_view T) c.pgs)) (Some k) ≡ true → nat_lt k (length c.pgs) ≡ true
    ground_within k e = by (slice_get kinds k) refl e
      where
        kinds : List PgKind
        kinds = kinds_of (map (pg_pin_view T) c.pgs)

        same : length kinds ≡ length c.pgs
        same = length-map (map (pg_pin_view T) c.pgs) (λ (p : PgPinView). p.kind) ∙ same_count

        by : (o : Option PgKind) → slice_get kinds k ≡ o → is_ground_at o ≡ true → nat_lt k (length c.pgs) ≡ true
        by None is h = absurd (true≢false (sym h))
        by (Some x) is h = subst (λ (n : ℕ). nat_lt k n ≡ true) same (lt-ltb k (length kinds) (slice_get_within kinds k x is))

    below_by : (floating : Bool) (o : Option ℕ) → is_grounded_at floating (kinds_of (map (pg_pin_view T) c.pgs)) o ≡ true → is_below_if_any (length c.pgs) o ≡ true
    below_by floating None e = refl
    below_by true (Some k) e = absurd (true≢false (sym e))
    below_by false (Some k) e = ground_within k e

    pin_usable : (p : Pin) → numbers_below (length T) (pin_numbers p) ≡ true → is_sound_pin (cell_view T c) (pin_view T p) ≡ true → is_usable_pin c p ≡ true
    pin_usable p low sound =
        let kinds = kinds_of (map (pg_pin_view T) c.pgs) in
        let floating = floats c.roles.switch (map (pg_pin_view T) c.pgs) in
        let parts = and_parts (has_related floating kinds (pin_view T p)) _ sound in
        let related = and_parts (names_power kinds (Some p.power)) (is_grounded_at floating kinds p.gnd) parts.0 in
        let rest = and_parts (has_functions (signals_of (cell_view T c)) (pg_names_of (cell_view T c)) (pin_view T p)) (acts_by_class p.use_of) parts.1 in
        let functions = and_parts (has_function p.direction (option_map (expr_view T) p.function)) _ rest.0 in
        let over = and_parts (is_over_if_any (signals_of (cell_view T c)) (option_map (expr_view T) p.function)) (is_over_if_any (pg_names_of (cell_view T c)) (option_map (expr_view T) p.power_down)) functions.1 in
        let own = below_tail (length T) p.name.0 (option_numbers expr_numbers p.function ++ option_numbers expr_numbers p.power_down) low in
        and_from _ _ (signals_if_any p.function (below_left (length T) (option_numbers expr_numbers p.function) (option_numbers expr_numbers p.power_down) own) over.0)
        (and_from _ _ (pgs_if_any p.power_down (below_right (length T) (option_numbers expr_numbers p.function) (option_numbers expr_numbers p.power_down) own) over.1)
        (and_from _ _ (power_within p.power related.0) (and_from _ _ (below_by floating p.gnd related.1) rest.1)))

    pins_usable : (pins : List Pin) → numbers_below (length T) (flat_map pin_numbers pins) ≡ true → list_all (is_sound_pin (cell_view T c)) (map (pin_view T) pins) ≡ true → list_all (is_usable_pin c) pins ≡ true
    pins_usable [] low sound = refl
    pins_usable (p ∷ pins) low sound =
        let here = below_left (length T) (pin_numbers p) (flat_map pin_numbers pins) low in
        let more = below_right (length T) (pin_numbers p) (flat_map pin_numbers pins) low in
        let both = and_parts (is_sound_pin (cell_view T c) (pin_view T p)) (list_all (is_sound_pin (cell_view T c)) (map (pin_view T) pins)) sound in
        and_from _ _ (pin_usable p here both.0) (pins_usable pins more both.1)

    state_usable : (o : Option StateGroup) → numbers_below (length T) (option_numbers state_numbers o) ≡ true → is_sound_state (signals_of (cell_view T c)) (pg_names_of (cell_view T c)) (option_map (state_view T) o) ≡ true → is_usable_state c o ≡ true
    state_usable None low sound = refl
    state_usable (Some s) low sound =
        let next = expr_numbers s.next in
        let clock = expr_numbers s.clock in
        let clear = expr_numbers s.clear in
        let preset = expr_numbers s.preset in
        let down = expr_numbers s.power_down in
        let n = length T in
        let rest = next ++ (clock ++ (clear ++ (preset ++ down))) in
        let all = below_tail n s.inverse.0 rest (below_tail n s.var.0 (s.inverse.0 ∷ rest) low) in
        let two = below_right n next (clock ++ (clear ++ (preset ++ down))) all in
        let three = below_right n clock (clear ++ (preset ++ down)) two in
        let four = below_right n clear (preset ++ down) three in
        let one_s = and_parts _ _ sound in
        let two_s = and_parts _ _ one_s.1 in
        let three_s = and_parts _ _ two_s.1 in
        let four_s = and_parts _ _ three_s.1 in
        and_from _ _ (over_signals s.next (below_left n next (clock ++ (clear ++ (preset ++ down))) all) one_s.0)
        (and_from _ _ (over_signals s.clock (below_left n clock (clear ++ (preset ++ down)) two) two_s.0)
        (and_from _ _ (over_signals s.clear (below_left n clear (preset ++ down) three) three_s.0)
        (and_from _ _ (over_signals s.preset (below_left n preset down four) four_s.0)
        (over_pgs s.power_down (below_right n preset down four) four_s.1))))

    cell_usable : passes (cell_view T c) ≡ true → IsUsable c
    cell_usable sound =
        let v = cell_view T c in
        let names = and_parts (has_names v) _ sound in
        let few_pgs = and_parts (nat_le count 8) _ names.1 in
        let few_pins = and_parts (nat_le (length (map (pin_view T) c.pins)) 240) _ few_pgs.1 in
        let pgs = and_parts (list_all (is_sound_pg v) v.pgs) _ few_pins.1 in
        let pins = and_parts (list_all (is_sound_pin v) v.pins) _ pgs.1 in
        let state = and_parts (is_sound_state (signals_of v) (pg_names_of v) v.state) _ pins.1 in
        record {
          few_pgs = subst (λ (n : ℕ). n ≤ 8) same_count (leb-true count 8 few_pgs.0);
          few_pins = subst (λ (n : ℕ). n ≤ 240) (length-map c.pins (pin_view T)) (leb-true (length (map (pin_view T) c.pins)) 240 few_pins.0);
          pgs = pgs_usable c.pgs pgs_below pgs.0;
          pins = pins_usable c.pins pins_below pins.0;
          state = state_usable c.state state_below state.0;
          retention = pgs_if_any c.roles.retention roles_below state.1;
        }

    usable : c.unusable ≡ None → is_sound_cell (cell_view T c) ≡ true → IsUsable c
    unfolding is_sound_cell
    usable none sound = cell_usable (subst (λ (o : Option Reason). (is_some o || passes (cell_view T c)) ≡ true) none sound)

  pub all_usable : (cells : List Cell) → numbers_below (length T) (flat_map cell_numbers cells) ≡ true → list_all is_sound_cell (map (cell_view T) cells) ≡ true → All (λ (c : Cell). c.unusable ≡ None → IsUsable c) cells
  all_usable [] below sound = All-nil (λ (c : Cell). c.unusable ≡ None → IsUsable c)
  all_usable (c ∷ cells) below sound =
      let both = and_parts (is_sound_cell (cell_view T c)) (list_all is_sound_cell (map (cell_view T) cells)) sound in
      let here : c.unusable ≡ None → IsUsable c = λ none. usable c (below_left (length T) (cell_numbers c) (flat_map cell_numbers cells) below) none both.0 in
      All-cons (λ (c : Cell). c.unusable ≡ None → IsUsable c) c cells here (all_usable cells (below_right (length T) (cell_numbers c) (flat_map cell_numbers cells) below) both.1)
