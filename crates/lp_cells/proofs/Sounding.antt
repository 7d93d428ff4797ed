-- A cell without a reason passes the tests of those that can be used.
use Rattle.std.proofs.Common.{◌≡◌, ℕ, ◌≤◌, ◌<◌, ◌+◌, Bool, true, false, List, [], ◌∷◌, ◌++◌, length, take, min, Option, Some, None, refl, sym, ap, ◌∙◌, subst, arith, append_assoc, length-append, not, ◌&&◌, ◌||◌}
use Rattle.std.specs.Prelude.{map, fold, cond, codes, if◌then◌else◌, is_some, slice_get, slice_index_or, nat_lt}
use Rattle.std.specs.List.{list_all, list_any, enumerate_from, filter, find}
use Rattle.std.specs.Option.{option_map}
use Rattle.std.proofs.lemmas.Bool.{and_parts, and_from, or_parts, not-false, lt-ltb, ltb-false, le-leb, true≢false}
use Rattle.std.proofs.lemmas.List.{append-nil, length-map}
use Rattle.std.proofs.lemmas.List.Folds.{list_all-append}
use Rattle.std.proofs.lemmas.Option.{slice_get_within}
use Rattle.lp_text.specs.Texts.{has_text, same_text, same_text-true, place_of, place_of-Some, distinct, distinct-push}
use Rattle.lp_model.specs.declared.reason.Reason.{Reason}
use Rattle.lp_model.specs.declared.reason.Reason.TheVariants as reasons
use Rattle.lp_model.specs.declared.library.PgKind.{PgKind}
use Rattle.lp_model.specs.declared.library.PgKind.TheVariants as pg
use Rattle.lp_model.specs.GroupsView.{GroupView}
use Rattle.lp_model.specs.LibraryView.{PgPinView, PinView}
use Rattle.lp_model.specs.declared.library.RetClass.{RetClass}
use Rattle.lp_model.specs.declared.library.RetClass.TheVariants as classes
use Rattle.lp_model.specs.declared.library.PinUse.{PinUse}
use Rattle.lp_model.specs.declared.library.PinUse.TheVariants as uses
use Rattle.lp_behaviour.specs.Usable.{acts_by_class}
use Rattle.lp_attributes.specs.Attributes.{says, value_of, values_of}
use Rattle.lp_attributes.specs.Expressions.{are_known, expression_over}
use Rattle.lp_parts.specs.Source.{is_part, arg_at, inside, is_cell}
use Rattle.lp_parts.specs.Names.{is_state, is_output, with_inputs, with_pg}
use Rattle.lp_parts.specs.Functions.{is_power, is_ground, kinds_of, passed, place_if_any, alone, small}
use Rattle.lp_parts.specs.Pins.{Scope, kind_of, is_internal_power, switched_by, switched_of, pg_of, pgs_at, pgs_of, is_primary_power, is_primary_ground, places_from, the_one, only_place, only, related_by, direction_of, function_if_any, function_of, power_down_of, pin_of, pins_at, pins_of, action_of, class_of, retains, retention_use, shift_use, use_of}
use Rattle.lp_parts.specs.Roles.{copy_if_any, copy_of, is_retention, is_switch}
use Rattle.lp_parts.specs.States.{clock_text, down_text, is_pin, next_text, state_by, state_of}
use Rattle.lp_cells.specs.Reasons.{all_names, is_free, is_visible, has_bad_name, repeated, has_name_twice, has_bad_pg, lacks_pgs, has_no_kind, has_no_direction, names_power, names_ground, is_power_at, is_ground_at, is_powered, is_grounded, is_related, has_bad_related, reads_if_any, reads_down, reads_pin, reads_pg, reads_state, reads_switched, reads_all, has_bad_range, has_two, lacks_copy, is_action, has_actions, retains_well, has_bad_retention, has_construct, late_reason, middle_reason, reason_of}
use Rattle.lp_cells.specs.Cells.{scope_of, cell_by, cell_of, cell_at, cells_from, cells_in, cells_of}
use Rattle.lp_cells.specs.Sound.{state_names, input_names, is_over_if_any, has_function, is_grounded_at, has_functions, has_related, is_sound_switched, is_sound_state, passes, is_sound_cell}
use Rattle.lp_cells.proofs.Standing.{known_self, known_front, known_back, pgs_in, inputs_in, variables_in, over_in, function_in, down_in}

-- ---- no reason holds

none_2 : (a b : Bool) (x y : Reason) (o : Option Reason) → (if a then Some x else if b then Some y else o) ≡ None → (a ≡ false) × ((b ≡ false) × (o ≡ None))
none_2 true b x y o e = absurd (cc)
none_2 false true x y o e = absurd (cc)
none_2 false false x y o e = (refl, (refl, e))

none_3 : (a b c : Bool) (x y z : Reason) (o : Option Reason) → (if a then Some x else if b then Some y else if c then Some z else o) ≡ None → (a ≡ false) × ((b ≡ false) × ((c ≡ false) × (o ≡ None)))
none_3 true b c x y z o e = absurd (cc)
none_3 false b c x y z o e = (refl, none_2 b c y z o e)

none_5 : (a b c d e : Bool) (u v w x y : Reason) (o : Option Reason) → (if a then Some u else if b then Some v else if c then Some w else if d then Some x else if e then Some y else o) ≡ None → (a ≡ false) × ((b ≡ false) × ((c ≡ false) × ((d ≡ false) × ((e ≡ false) × (o ≡ None)))))
none_5 true b c d e u v w x y o h = absurd (cc)
none_5 false true c d e u v w x y o h = absurd (cc)
none_5 false false c d e u v w x y o h = (refl, (refl, none_3 c d e w x y o h))

-- the tests that a cell without a reason has passed
record Clear (place : ℕ) (sc : Scope) (head : GroupView) (groups : List GroupView) (pins : List PinView) : Type 0 where
  free : is_free (arg_at 0 head) ≡ true
  visible : list_all is_visible (all_names pins sc.pgs) ≡ true
  once : repeated [] (all_names pins sc.pgs) ≡ None
  few_pgs : length (kinds_of sc.pgs) ≤ 8
  related : list_any (has_bad_related place sc) groups ≡ false
  read : list_all (reads_all place sc) groups ≡ true
  one_state : length (filter (is_state place) groups) ≤ 1
  retained : list_any (has_bad_retention place) groups ≡ false
  few_pins : length (map (λ (p : PinView). p.name) pins) ≤ 240

is_none-of : {A : Type 0} (o : Option A) → is_some o ≡ false → o ≡ None
is_none-of None e = refl
is_none-of (Some x) e = absurd (cc)

clear : (place : ℕ) (sc : Scope) (head : GroupView) (groups : List GroupView) (pins : List PinView) → reason_of place sc head groups pins ≡ None → Clear place sc head groups pins
clear place sc head groups pins e =
    let names = map (λ (p : PinView). p.name) pins in
    let all = all_names pins sc.pgs in
    let one = none_2 (has_bad_name (arg_at 0 head) all) (has_name_twice all) reasons.Name reasons.Twice (middle_reason place sc head groups names) e in
    let two = none_3 (has_bad_pg place head groups (kinds_of sc.pgs)) (list_any (has_no_direction place) groups) (list_any (has_bad_related place sc) groups) reasons.Pg reasons.Direction reasons.Related (late_reason place sc head groups names) one.1.1 in
    let late = none_5 (not (list_all (reads_all place sc) groups)) (has_bad_range head) (has_two (is_state place) groups) (lacks_copy place head groups || list_any (has_bad_retention place) groups) (has_construct place head groups names) reasons.Function reasons.Range reasons.Groups reasons.Retention reasons.Construct None two.1.1.1 in
    let named = and_parts (is_free (arg_at 0 head)) (list_all is_visible all) (not-false (is_free (arg_at 0 head) && list_all is_visible all) one.0) in
    let pgs = or_parts (list_any (has_no_kind place) groups) (lacks_pgs (is_switch head) (kinds_of sc.pgs)) two.0 in
    let few = or_parts (nat_lt 8 (length (kinds_of sc.pgs))) _ pgs.1 in
    let taken = or_parts (nat_lt 240 (length names)) _ late.1.1.1.1.0 in
    record {
      free = named.0;
      visible = named.1;
      once = is_none-of (repeated [] all) one.1.0;
      few_pgs = ltb-false 8 (length (kinds_of sc.pgs)) few.0;
      related = two.1.1.0;
      read = not-false (list_all (reads_all place sc) groups) late.0;
      one_state = ltb-false 1 (length (filter (is_state place) groups)) late.1.1.0;
      retained = (or_parts (lacks_copy place head groups) (list_any (has_bad_retention place) groups) late.1.1.1.0).1;
      few_pins = ltb-false 240 (length names) taken.0;
    }

-- ---- names that differ

distinct_none : (met names : List (List ℕ)) → distinct met ≡ true → repeated met names ≡ None → distinct (met ++ names) ≡ true
distinct_none met [] apart e = subst (λ (ts : List (List ℕ)). distinct ts ≡ true) (sym (append-nil met)) apart
distinct_none met (name ∷ names) apart e = by (has_text name met) refl (λ a r. distinct_none (met ++ name ∷ []) names a r) e
  where
    by : (b : Bool) → has_text name met ≡ b → (distinct (met ++ name ∷ []) ≡ true → repeated (met ++ name ∷ []) names ≡ None → distinct ((met ++ name ∷ []) ++ names) ≡ true) → (if b then Some name else repeated (met ++ name ∷ []) names) ≡ None → distinct (met ++ name ∷ names) ≡ true
    by true h more r = absurd (cc)
    by false h more r =
        let longer : distinct (met ++ name ∷ []) ≡ true = distinct-push met name ∙ and_from _ _ (ap not h) apart in
        subst (λ (ts : List (List ℕ)). distinct ts ≡ true) (append_assoc met (name ∷ []) names) (more longer r)

-- ---- related pins

-- a place among at most 8 pins is kept as it is
kept_power : (kinds : List PgKind) (o : Option ℕ) → length kinds ≤ 8 → names_power kinds o ≡ true → names_power kinds (Some (small o)) ≡ true
kept_power kinds None few e = absurd (true≢false (sym e))
kept_power kinds (Some k) few e = subst (λ (n : ℕ). is_power_at (slice_get kinds n) ≡ true) (sym same) e
  where
    within : (o : Option PgKind) → slice_get kinds k ≡ o → is_power_at o ≡ true → k < length kinds
    within None is h = absurd (true≢false (sym h))
    within (Some x) is h = slice_get_within kinds k x is

    below : k < length kinds
    below = within (slice_get kinds k) refl e

    same : min k 255 ≡ k
    same = omega (arith, below, few)

kept_ground : (kinds : List PgKind) (o : Option ℕ) → length kinds ≤ 8 → names_ground kinds o ≡ true → names_ground kinds (Some (small o)) ≡ true
kept_ground kinds None few e = absurd (true≢false (sym e))
kept_ground kinds (Some k) few e = subst (λ (n : ℕ). is_ground_at (slice_get kinds n) ≡ true) (sym same) e
  where
    within : (o : Option PgKind) → slice_get kinds k ≡ o → is_ground_at o ≡ true → k < length kinds
    within None is h = absurd (true≢false (sym h))
    within (Some x) is h = slice_get_within kinds k x is

    below : k < length kinds
    below = within (slice_get kinds k) refl e

    same : min k 255 ≡ k
    same = omega (arith, below, few)

-- the pin that is the only one of its kind
abbrev test_at : (PgKind → Bool) → Option PgKind → Bool
test_at test None = false
test_at test (Some x) = test x

behind : {A : Type 0} (front : List A) (x : A) (more : List A) → slice_get (front ++ x ∷ more) (length front) ≡ Some x
behind [] x more = refl
behind (y ∷ front) x more = behind front x more

abbrev passes_at : (PgKind → Bool) → List PgKind → ℕ → Bool
passes_at test kinds k = test_at test (slice_get kinds k)

-- each of the places is that of a pin that passes
places_pass : (test : PgKind → Bool) (kinds front : List PgKind) → list_all (passes_at test (front ++ kinds)) (places_from (length front) test kinds) ≡ true
places_pass test [] front = refl
places_pass test (x ∷ more) front =
    let moved = subst (λ (all : List PgKind). list_all (passes_at test all) (places_from (length (front ++ x ∷ [])) test more) ≡ true) (append_assoc front (x ∷ []) more) (places_pass test more (front ++ x ∷ [])) in
    by (test x) refl (filter (λ (p : ℕ × PgKind). test p.1) (enumerate_from (length front + 1) more)) (subst (λ (n : ℕ). list_all (passes_at test (front ++ x ∷ more)) (places_from n test more) ≡ true) (length-append front (x ∷ [])) moved)
  where
    by : (b : Bool) → test x ≡ b → (passing : List (ℕ × PgKind)) → list_all (passes_at test (front ++ x ∷ more)) (map (λ (p : ℕ × PgKind). p.0) passing) ≡ true
        → list_all (passes_at test (front ++ x ∷ more)) (map (λ (p : ℕ × PgKind). p.0) (cond b ((length front, x) ∷ passing) passing)) ≡ true
    by true t passing all = and_from _ _ (subst (λ (o : Option PgKind). test_at test o ≡ true) (sym (behind front x more)) t) all
    by false t passing all = all

one_passes : (test : ℕ → Bool) (places : List ℕ) (k : ℕ) → the_one places ≡ Some k → list_all test places ≡ true → test k ≡ true
one_passes test [] k e all = absurd (cc)
one_passes test (n ∷ []) k e all = let same : n ≡ k = cc in subst (λ (m : ℕ). test m ≡ true) same (and_parts (test n) true all).0
one_passes test (n ∷ m ∷ rest) k e all = absurd (cc)

only_at : (test : PgKind → Bool) (kinds : List PgKind) (k : ℕ) → only_place test kinds ≡ Some k → test_at test (slice_get kinds k) ≡ true
only_at test kinds k e = one_passes (passes_at test kinds) (places_from 0 test kinds) k e (places_pass test kinds [])

primary_is_power : (o : Option PgKind) → test_at is_primary_power o ≡ true → is_power_at o ≡ true
primary_is_power None e = e
primary_is_power (Some k) e = power k e
  where
    power : (k : PgKind) → is_primary_power k ≡ true → is_power k ≡ true
    power pg.PrimaryPower e = refl
    power pg.PrimaryGround e = e
    power pg.BackupPower e = refl
    power pg.BackupGround e = e
    power pg.InternalPower e = refl
    power pg.InternalGround e = e
    power pg.Nwell e = e
    power pg.Pwell e = e
    power pg.Deepnwell e = e
    power pg.Deeppwell e = e

primary_is_ground : (o : Option PgKind) → test_at is_primary_ground o ≡ true → is_ground_at o ≡ true
primary_is_ground None e = e
primary_is_ground (Some k) e = grounded k e
  where
    grounded : (k : PgKind) → is_primary_ground k ≡ true → is_ground k ≡ true
    grounded pg.PrimaryPower e = e
    grounded pg.PrimaryGround e = refl
    grounded pg.BackupPower e = e
    grounded pg.BackupGround e = refl
    grounded pg.InternalPower e = e
    grounded pg.InternalGround e = refl
    grounded pg.Nwell e = e
    grounded pg.Pwell e = e
    grounded pg.Deepnwell e = e
    grounded pg.Deeppwell e = e

sole_power : (pgs : List PgPinView) → is_some (only is_primary_power pgs) ≡ true → names_power (kinds_of pgs) (only is_primary_power pgs) ≡ true
sole_power pgs e = by (only is_primary_power pgs) refl e
  where
    by : (o : Option ℕ) → only is_primary_power pgs ≡ o → is_some o ≡ true → names_power (kinds_of pgs) o ≡ true
    by None is h = absurd (true≢false (sym h))
    by (Some k) is h = primary_is_power (slice_get (kinds_of pgs) k) (only_at is_primary_power (kinds_of pgs) k is)

sole_ground : (pgs : List PgPinView) → is_some (only is_primary_ground pgs) ≡ true → names_ground (kinds_of pgs) (only is_primary_ground pgs) ≡ true
sole_ground pgs e = by (only is_primary_ground pgs) refl e
  where
    by : (o : Option ℕ) → only is_primary_ground pgs ≡ o → is_some o ≡ true → names_ground (kinds_of pgs) o ≡ true
    by None is h = absurd (true≢false (sym h))
    by (Some k) is h = primary_is_ground (slice_get (kinds_of pgs) k) (only_at is_primary_ground (kinds_of pgs) k is)

powered : (kinds : List PgKind) (names : List (List ℕ)) (sole : Option ℕ) (value : Option (List ℕ)) → length kinds ≤ 8 → (is_some sole ≡ true → names_power kinds sole ≡ true) → is_powered kinds names (is_some sole) value ≡ true → names_power kinds (Some (small (related_by names sole value))) ≡ true
powered kinds names sole None few is h = kept_power kinds sole few (is h)
powered kinds names sole (Some name) few is h = kept_power kinds (place_of name names) few h

grounded_by : (kinds : List PgKind) (names : List (List ℕ)) (floating : Bool) (sole : Option ℕ) (value : Option (List ℕ)) → length kinds ≤ 8 → (is_some sole ≡ true → names_ground kinds sole ≡ true) → is_grounded kinds names (floating || is_some sole) value ≡ true → is_grounded_at floating kinds (if floating then None else Some (small (related_by names sole value))) ≡ true
grounded_by kinds names true sole value few is h = refl
grounded_by kinds names false sole None few is h = kept_ground kinds sole few (is h)
grounded_by kinds names false sole (Some name) few is h = kept_ground kinds (place_of name names) few h

-- ---- retention pins

is_known_by : (a b : Bool) → (a || (false && b)) ≡ true → a ≡ true
is_known_by true b e = refl
is_known_by false b e = absurd (true≢false (sym e))

acts_as : (g : GroupView) (o : Option RetClass) → has_actions g o ≡ true → acts_by_class (retains g o) ≡ true
acts_as g None e = refl
acts_as g (Some classes.Save) e =
    let both = and_parts (is_action true (codes "save_action") g) (is_action false (codes "restore_action") g) e in
    and_from _ _ (is_known_by (is_some (action_of (codes "save_action") g)) true both.0) refl
acts_as g (Some classes.Restore) e =
    let both = and_parts (is_action false (codes "save_action") g) (is_action true (codes "restore_action") g) e in
    and_from _ _ refl (is_known_by (is_some (action_of (codes "restore_action") g)) true both.1)
acts_as g (Some classes.Both) e =
    let both = and_parts (is_action true (codes "save_action") g) (is_action true (codes "restore_action") g) e in
    and_from _ _ (is_known_by (is_some (action_of (codes "save_action") g)) true both.0) (is_known_by (is_some (action_of (codes "restore_action") g)) true both.1)

retained_as : (g : GroupView) (o : Option (List (List ℕ))) → retains_well g o ≡ true → acts_by_class (retention_use g o) ≡ true
retained_as g None e = refl
retained_as g (Some values) e = acts_as g (class_of values) e

-- another use than that of a retention pin has no actions
acts_if : (b : Bool) (a c : PinUse) → acts_by_class a ≡ true → acts_by_class c ≡ true → acts_by_class (if b then a else c) ≡ true
acts_if true a c h k = h
acts_if false a c h k = k

use_acts : (g : GroupView) → retains_well g (values_of (codes "retention_pin") g) ≡ true → acts_by_class (use_of g) ≡ true
use_acts g e =
    acts_if (says (codes "isolation_cell_data_pin") (codes "true") g) uses.IsoData _ refl
    (acts_if (says (codes "isolation_cell_enable_pin") (codes "true") g) uses.IsoEnable (shift_use g) refl
    (acts_if (says (codes "level_shifter_data_pin") (codes "true") g) uses.ShiftData _ refl
    (acts_if (says (codes "level_shifter_enable_pin") (codes "true") g) uses.ShiftEnable _ refl
    (acts_if (says (codes "switch_pin") (codes "true") g) uses.Switch _ refl
    (retained_as g (values_of (codes "retention_pin") g) e)))))

-- ---- pins

pin_is : (place : ℕ) (g : GroupView) → is_part place (codes "pin") g ≡ true → nat_lt 0 (length g.args) ≡ true → is_pin place g ≡ true
unfolding is_pin
pin_is place g part some = and_from _ _ part some

both_false : (a b c : Bool) → b ≡ false → ((a && b) && c) ≡ false
both_false true b c e = rw e refl
both_false false b c e = refl

not_pin : (place : ℕ) (g : GroupView) → is_part place (codes "pg_pin") g ≡ true → is_pin place g ≡ false
unfolding is_pin
not_pin place g part =
    let word = same_text-true g.word (codes "pg_pin") (and_parts _ _ part).1 in
    both_false _ (same_text g.word (codes "pin")) _ (subst (λ (w : List ℕ). same_text w (codes "pin") ≡ false) (sym word) refl)

module _ (place : ℕ) (sc : Scope) (R P : List (List ℕ)) (few : length (kinds_of sc.pgs) ≤ 8) (power_is : is_some sc.power ≡ true → names_power (kinds_of sc.pgs) sc.power ≡ true) (gnd_is : is_some sc.gnd ≡ true → names_ground (kinds_of sc.pgs) sc.gnd ≡ true) (signals : are_known R sc.signals ≡ true) (names : are_known P sc.names ≡ true) (own : are_known P (map (λ (p : PgPinView). p.name) sc.pgs) ≡ true) where
  abbrev sound_by : PinView → Bool
  sound_by p = has_related sc.floating (kinds_of sc.pgs) p && (has_functions R P p && acts_by_class p.use_of)

  related_pin : (g : GroupView) (n : List ℕ) → is_related sc g ≡ true → has_related sc.floating (kinds_of sc.pgs) (pin_of sc g n) ≡ true
  related_pin g n h =
      let both = and_parts (is_powered (kinds_of sc.pgs) sc.names (is_some sc.power) (value_of (codes "related_power_pin") g)) (is_grounded (kinds_of sc.pgs) sc.names (sc.floating || is_some sc.gnd) (value_of (codes "related_ground_pin") g)) h in
      and_from _ _ (powered (kinds_of sc.pgs) sc.names sc.power (value_of (codes "related_power_pin") g) few power_is both.0) (grounded_by (kinds_of sc.pgs) sc.names sc.floating sc.gnd (value_of (codes "related_ground_pin") g) few gnd_is both.1)

  has_some : (value : Option (List ℕ)) → reads_if_any sc.signals false value ≡ true → is_some (function_if_any sc.signals value) ≡ true
  has_some None r = r
  has_some (Some text) r = r

  functions_pin : (g : GroupView) (n : List ℕ) → reads_pin sc g ≡ true → has_functions R P (pin_of sc g n) ≡ true
  functions_pin g n h = by (is_output g) (and_parts (reads_if_any sc.signals (not (is_output g)) (value_of (codes "function") g)) (reads_down sc g) h).0
    where
      by : (b : Bool) → reads_if_any sc.signals (not b) (value_of (codes "function") g) ≡ true → (has_function (direction_of b) (function_of sc b g) && (is_over_if_any R (function_of sc b g) && is_over_if_any P (power_down_of sc b g))) ≡ true
      by true r = and_from _ _ (has_some (value_of (codes "function") g) r) (and_from _ _ (function_in R sc.signals signals (value_of (codes "function") g)) (down_in P sc.names names sc.pgs own (value_of (codes "power_down_function") g)))
      by false r = refl

  pin_sound : (g : GroupView) (n : List ℕ) → is_pin place g ≡ true → has_bad_related place sc g ≡ false → has_bad_retention place g ≡ false → reads_all place sc g ≡ true → sound_by (pin_of sc g n) ≡ true
  pin_sound g n is bad unkept read =
      let well = retains_well g (values_of (codes "retention_pin") g) in
      let good : not (is_related sc g) ≡ false = subst (λ (b : Bool). (b && not (is_related sc g)) ≡ false) is bad in
      let kept : not well ≡ false = subst (λ (b : Bool). (b && not well) ≡ false) is unkept in
      let reads : reads_pin sc g ≡ true = by (is_pin place g) is read in
      and_from _ _ (related_pin g n (not-false (is_related sc g) good)) (and_from _ _ (functions_pin g n reads) (use_acts g (not-false well kept)))
    where
      by : (b : Bool) → b ≡ true → (if b then reads_pin sc g else if is_part place (codes "pg_pin") g then reads_pg sc g else if is_state place g then reads_state sc g else if is_part place (codes "retention_condition") g then reads_down sc g else true) ≡ true → reads_pin sc g ≡ true
      by true e h = h
      by false e h = absurd (cc)

  args_sound : (g : GroupView) (args : List (List ℕ)) → ((n : List ℕ) → sound_by (pin_of sc g n) ≡ true) → list_all sound_by (map (pin_of sc g) args) ≡ true
  args_sound g [] each = refl
  args_sound g (a ∷ args) each = and_from _ _ (each a) (args_sound g args each)

  pins_at_sound : (g : GroupView) → has_bad_related place sc g ≡ false → has_bad_retention place g ≡ false → reads_all place sc g ≡ true → list_all sound_by (pins_at place sc g) ≡ true
  unfolding pins_at
  pins_at_sound g bad unkept read = by (is_part place (codes "pin") g) refl g.args (λ part some n. pin_sound g n (pin_is place g part some) bad unkept read)
    where
      by : (b : Bool) → is_part place (codes "pin") g ≡ b → (args : List (List ℕ)) → (is_part place (codes "pin") g ≡ true → nat_lt 0 (length args) ≡ true → (n : List ℕ) → sound_by (pin_of sc g n) ≡ true) → list_all sound_by (if b then map (pin_of sc g) args else []) ≡ true
      by false e args each = refl
      by true e [] each = refl
      by true e (a ∷ args) each = args_sound g (a ∷ args) (each e (lt-ltb 0 (length (a ∷ args)) (omega arith)))

  pins_sound : (groups : List GroupView) → list_any (has_bad_related place sc) groups ≡ false → list_any (has_bad_retention place) groups ≡ false → list_all (reads_all place sc) groups ≡ true → list_all sound_by (pins_of place sc groups) ≡ true
  pins_sound [] bad unkept read = refl
  pins_sound (g ∷ groups) bad unkept read =
      let each = or_parts (has_bad_related place sc g) (list_any (has_bad_related place sc) groups) bad in
      let kept = or_parts (has_bad_retention place g) (list_any (has_bad_retention place) groups) unkept in
      let all = and_parts (reads_all place sc g) (list_all (reads_all place sc) groups) read in
      list_all-append sound_by (pins_at place sc g) (pins_of place sc groups) ∙ and_from _ _ (pins_at_sound g each.0 kept.0 all.0) (pins_sound groups each.1 kept.1 all.1)

  -- ---- power and ground pins

  module _ (count : ℕ) (enough : length sc.names ≤ count) where
    placed : (o : Option (List ℕ)) → is_some (place_if_any sc.names o) ≡ true → nat_lt (small (place_if_any sc.names o)) count ≡ true
    placed None e = absurd (true≢false (sym e))
    placed (Some name) e = by (place_of name sc.names) refl e
      where
        by : (q : Option ℕ) → place_of name sc.names ≡ q → is_some q ≡ true → nat_lt (small q) count ≡ true
        by None is h = absurd (true≢false (sym h))
        by (Some k) is h =
            let below : k < length sc.names = (place_of-Some name sc.names k is).0 in
            let least : min k 255 ≤ k = omega arith in
            lt-ltb (min k 255) count (omega arith)

    switched_sound : (off passes : Option (List ℕ)) → reads_switched sc off passes ≡ true → is_sound_switched R count (switched_by sc.signals sc.names off passes) ≡ true
    switched_sound None passes r = refl
    switched_sound (Some o) None r = refl
    switched_sound (Some o) (Some p) r = and_from _ _ (over_in R sc.signals signals (Some o)) (placed (alone (expression_over sc.names p)) (and_parts (is_some (expression_over sc.signals o)) (is_some (passed sc.names p)) r).1)

    pg_sound : (g : GroupView) → reads_pg sc g ≡ true → is_sound_switched R count (switched_of sc.signals sc.names g) ≡ true
    pg_sound g r = by (is_internal_power (kind_of g)) r
      where
        by : (b : Bool) → (not b || reads_switched sc (value_of (codes "switch_function") g) (value_of (codes "pg_function") g)) ≡ true → is_sound_switched R count (if b then switched_by sc.signals sc.names (value_of (codes "switch_function") g) (value_of (codes "pg_function") g) else None) ≡ true
        by true h = switched_sound (value_of (codes "switch_function") g) (value_of (codes "pg_function") g) h
        by false h = refl

    reads_its : (g : GroupView) → is_part place (codes "pg_pin") g ≡ true → reads_all place sc g ≡ true → reads_pg sc g ≡ true
    reads_its g part read = by (is_pin place g) (is_part place (codes "pg_pin") g) (not_pin place g part) part read
      where
        by : (a b : Bool) → a ≡ false → b ≡ true → (if a then reads_pin sc g else if b then reads_pg sc g else if is_state place g then reads_state sc g else if is_part place (codes "retention_condition") g then reads_down sc g else true) ≡ true → reads_pg sc g ≡ true
        by true b e f h = absurd (cc)
        by false true e f h = h
        by false false e f h = absurd (cc)

    pgs_sound : (groups : List GroupView) → list_all (reads_all place sc) groups ≡ true → list_all (λ (p : PgPinView). is_sound_switched R count p.switched) (pgs_of place sc.signals sc.names groups) ≡ true
    pgs_sound [] read = refl
    pgs_sound (g ∷ groups) read =
        let all = and_parts (reads_all place sc g) (list_all (reads_all place sc) groups) read in
        list_all-append (λ (p : PgPinView). is_sound_switched R count p.switched) (pgs_at place sc.signals sc.names g) (pgs_of place sc.signals sc.names groups) ∙ and_from _ _ (by (is_part place (codes "pg_pin") g) refl all.0) (pgs_sound groups all.1)
      where
        by : (b : Bool) → is_part place (codes "pg_pin") g ≡ b → reads_all place sc g ≡ true → list_all (λ (p : PgPinView). is_sound_switched R count p.switched) (if b then pg_of sc.signals sc.names g ∷ [] else []) ≡ true
        by true e h = and_from _ _ (pg_sound g (reads_its g e h)) refl
        by false e h = refl

  -- ---- the state and the saved copy

  state_sound : (groups : List GroupView) (o : Option GroupView) → is_sound_state R P (option_map (λ g. state_by place sc g groups) o) ≡ true
  state_sound groups None = refl
  state_sound groups (Some g) =
      and_from _ _ (over_in R sc.signals signals (next_text g))
      (and_from _ _ (over_in R sc.signals signals (clock_text g))
      (and_from _ _ (over_in R sc.signals signals (value_of (codes "clear") g))
      (and_from _ _ (over_in R sc.signals signals (value_of (codes "preset") g))
      (down_in P sc.names names sc.pgs own (down_text place groups g)))))

  copy_sound : (b : Bool) (copy : Option (List ℕ)) → is_over_if_any P (if b then copy_if_any sc.names copy else None) ≡ true
  copy_sound true None = refl
  copy_sound true (Some text) = over_in P sc.names names (Some text)
  copy_sound false copy = refl

-- ---- a cell

-- the names of the power and ground pins are at most as many
names_few : (place : ℕ) (signals names : List (List ℕ)) (groups : List GroupView) (set : List (List ℕ)) → length (fold (with_pg place) set groups) ≤ length set + length (pgs_of place signals names groups)
names_few place signals names [] set = omega arith
names_few place signals names (g ∷ groups) set = by (is_part place (codes "pg_pin") g) (has_text (arg_at 0 g) set) (λ s. names_few place signals names groups s)
  where
    by : (b c : Bool) → ((s : List (List ℕ)) → length (fold (with_pg place) s groups) ≤ length s + length (pgs_of place signals names groups)) → length (fold (with_pg place) (if b then (if c then set else set ++ arg_at 0 g ∷ []) else set) groups) ≤ length set + length ((if b then pg_of signals names g ∷ [] else []) ++ pgs_of place signals names groups)
    by true true more = omega (arith, more set)
    by true false more = omega (arith, more (set ++ arg_at 0 g ∷ []), length-append set (arg_at 0 g ∷ []))
    by false c more = more set

two : (args : List (List ℕ)) → are_known (slice_index_or args 0 [] ∷ slice_index_or args 1 [] ∷ []) (take 2 args) ≡ true
two [] = refl
two (a ∷ []) = known_front (a ∷ []) ([] ∷ []) (a ∷ []) (known_self (a ∷ []))
two (a ∷ b ∷ args) = known_self (a ∷ b ∷ [])

state_known : (place : ℕ) (sc : Scope) (groups : List GroupView) (o : Option GroupView) (g : GroupView) → o ≡ Some g → are_known (state_names (option_map (λ g. state_by place sc g groups) o)) (take 2 g.args) ≡ true
state_known place sc groups None g e = absurd (cc)
state_known place sc groups (Some h) g e =
    let same : h ≡ g = cc in
    subst (λ (k : GroupView). are_known (arg_at 0 h ∷ arg_at 1 h ∷ []) (take 2 k.args) ≡ true) same (two h.args)

module _ (place : ℕ) (head : GroupView) (groups : List GroupView) where
  abbrev sc : Scope
  sc = scope_of place head groups

  abbrev pins : List PinView
  pins = pins_of place sc groups

  abbrev R : List (List ℕ)
  R = input_names pins ++ state_names (state_of place sc groups)

  abbrev P : List (List ℕ)
  P = map (λ (p : PgPinView). p.name) sc.pgs

  cell_passes : reason_of place sc head groups pins ≡ None → passes (cell_by place sc head groups) ≡ true
  cell_passes e =
      let c = clear place sc head groups pins e in
      let names : are_known P sc.names ≡ true = pgs_in P place sc.signals sc.names groups [] refl (known_self P) in
      let inputs : are_known R (fold (with_inputs place) [] groups) ≡ true = inputs_in R place sc groups [] refl (known_front (input_names pins) (state_names (state_of place sc groups)) (input_names pins) (known_self (input_names pins))) in
      let signals : are_known R sc.signals ≡ true = variables_in R place groups (fold (with_inputs place) [] groups) inputs c.one_state (λ g found. known_back (input_names pins) (state_names (state_of place sc groups)) (take 2 g.args) (state_known place sc groups (find (is_state place) groups) g found)) in
      let pgs_few : length sc.pgs ≤ 8 = subst (λ (n : ℕ). n ≤ 8) (length-map sc.pgs (λ (p : PgPinView). p.kind)) c.few_pgs in
      let pins_few : length pins ≤ 240 = subst (λ (n : ℕ). n ≤ 240) (length-map pins (λ (p : PinView). p.name)) c.few_pins in
      let power = sole_power sc.pgs in
      let gnd = sole_ground sc.pgs in
      let own = known_self P in
      let enough : length sc.names ≤ length sc.pgs = omega (arith, names_few place sc.signals sc.names groups []) in
      and_from _ _ (and_from _ _ c.free (and_from _ _ c.visible (distinct_none [] (all_names pins sc.pgs) refl c.once)))
      (and_from _ _ (le-leb (length sc.pgs) 8 pgs_few)
      (and_from _ _ (le-leb (length pins) 240 pins_few)
      (and_from _ _ (pgs_sound place sc R P c.few_pgs power gnd signals names own (length sc.pgs) enough groups c.read)
      (and_from _ _ (pins_sound place sc R P c.few_pgs power gnd signals names own groups c.related c.retained c.read)
      (and_from _ _ (state_sound place sc R P c.few_pgs power gnd signals names own groups (find (is_state place) groups))
      (copy_sound place sc R P c.few_pgs power gnd signals names own (is_retention head) (copy_of place groups)))))))

  cell_sound : is_sound_cell (cell_of place head groups) ≡ true
  unfolding is_sound_cell cell_of
  cell_sound = by (reason_of place sc head groups pins) refl
    where
      by : (o : Option Reason) → reason_of place sc head groups pins ≡ o → (is_some o || passes (cell_by place sc head groups)) ≡ true
      by (Some r) e = refl
      by None e = cell_passes e

cells_from_sound : (all : List GroupView) (groups : List GroupView) (n : ℕ) → list_all is_sound_cell (cells_from all n groups) ≡ true
unfolding cell_at
cells_from_sound all [] n = refl
cells_from_sound all (g ∷ groups) n =
    list_all-append is_sound_cell (cell_at all n g groups) (cells_from all (n + 1) groups) ∙ and_from _ _ (by (is_cell all g)) (cells_from_sound all groups (n + 1))
  where
    by : (b : Bool) → list_all is_sound_cell (if b then cell_of n g (inside n groups) ∷ [] else []) ≡ true
    by true = and_from _ _ (cell_sound n g (inside n groups)) refl
    by false = refl

pub all_sound : (files : List (List GroupView)) → list_all is_sound_cell (cells_of files) ≡ true
all_sound [] = refl
all_sound (file ∷ files) = list_all-append is_sound_cell (cells_in file) (cells_of files) ∙ and_from _ _ (cells_from_sound file file 0) (all_sound files)
