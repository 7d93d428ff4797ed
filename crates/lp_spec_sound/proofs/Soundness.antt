-- A cell without a reason of a library that is read is sound.
use Rattle.std.proofs.Common.{◌≡◌, ℕ, zero, suc, ◌+◌, Bool, true, false, not, ◌&&◌, ◌||◌, List, [], ◌∷◌, map, Option, Some, None, inl, inr, refl, sym, ap, ◌∙◌, subst}
use Rattle.std.specs.Prelude.{if◌then◌else◌, is_some, nat_le, nat_lt, length, slice_get, bytes_eq}
use Rattle.std.specs.List.{list_any, list_all, filter}
use Rattle.std.proofs.lemmas.Bool.{false≢true, and_parts, and_from, or_cases, or_parts, not-false}
use Rattle.lp_text.specs.Texts.{has_text, same_text, distinct, has_text-append, same_text_comm, distinct-append_left, distinct-append_right}
use Rattle.lp_model.specs.declared.reason.Reason.{Reason}
use Rattle.lp_model.specs.declared.reason.Reason.TheVariants as reasons
use Rattle.lp_model.specs.declared.library.PgKind.{PgKind}
use Rattle.lp_model.specs.declared.library.PgKind.TheVariants as kinds
use Rattle.lp_model.specs.GroupsView.{GroupView}
use Rattle.lp_model.specs.LibraryView.{ExprView, SwitchedView, PgPinView, PinView, StateView, CellView}
use Rattle.lp_behaviour.specs.Signals.{is_input}
use Rattle.lp_behaviour.specs.Usable.{acts_by_class}
use Rattle.lp_parts.specs.Source.{arg_at, inside, is_cell}
use Rattle.lp_parts.specs.Functions.{kinds_of}
use Rattle.lp_parts.specs.Pins.{Scope, floats, pins_of}
use Rattle.lp_parts.specs.Pins as P
use Rattle.lp_parts.specs.Roles.{is_switch}
use Rattle.lp_cells.specs.Reasons.{is_free, is_visible, all_names, names_power, names_ground, has_bad_name, has_name_twice, has_bad_pg, has_no_kind, lacks_pgs, reason_of}
use Rattle.lp_cells.specs.Sound as read
use Rattle.lp_cells.specs.Cells.{scope_of, cell_by, cell_of, cell_at, cells_from, cells_in, cells_of, IsLibrary}
use Rattle.lp_cells.proofs.Sounding.{all_sound}
use Rattle.lp_spec_design.specs.Keys.{Name}
use Rattle.lp_spec_design.specs.Netlists.{first}
use Rattle.lp_spec_design.specs.Winners.{IsIn}
use Rattle.lp_spec_design.specs.Settled.{read_pin}
use Rattle.lp_spec_design.proofs.Members.{in-either, of-flat}
use Rattle.lp_spec_pins.specs.Pins.{pg_named}
use Rattle.lp_spec_cells.specs.Sound.{is_state_name, is_signal, is_function_of, is_down_of, passes_if_any, has_sound_functions, is_sound_switched, is_sound_state, is_primary_power, is_power_kind, is_ground_kind, is_kind_at, is_ground_at, has_related, IsSound}
use Rattle.lp_spec_cells.proofs.Outcomes.{all-in}
use Rattle.lp_spec_sound.proofs.Differ.{differ, switch_differs, state_differs, pins-differ, pgs-differ, state-differs}

-- ---- lists

-- what follows for each from two tests that all pass
both-all : {A : Type 0} (p q r : A → Bool) (xs : List A) → ((a : A) → p a ≡ true → q a ≡ true → r a ≡ true) → list_all p xs ≡ true → list_all q xs ≡ true → list_all r xs ≡ true
both-all p q r [] h e f = refl
both-all p q r (x ∷ xs) h e f =
    let left = and_parts (p x) (list_all p xs) e in
    let right = and_parts (q x) (list_all q xs) f in
    and_from (r x) (list_all r xs) (h x left.0 right.0) (both-all p q r xs h left.1 right.1)

from-all : {A : Type 0} (p r : A → Bool) (xs : List A) → ((a : A) → p a ≡ true → r a ≡ true) → list_all p xs ≡ true → list_all r xs ≡ true
from-all p r xs h e = both-all p p r xs (λ a f g. h a f) e e

-- ---- names

input-found : (pins : List PinView) (v : Name) → has_text v (read.input_names pins) ≡ true → is_some (first (λ (q : PinView). is_input q.direction && bytes_eq q.name v) pins) ≡ true
input-found [] v e = absurd (false≢true e)
input-found (p ∷ pins) v e = by (is_input p.direction) (bytes_eq p.name v) (same_text_comm p.name v) (input-found pins v) e
  where
    by : (b n : Bool) → n ≡ same_text v p.name
        → (has_text v (read.input_names pins) ≡ true → is_some (first (λ (q : PinView). is_input q.direction && bytes_eq q.name v) pins) ≡ true)
        → has_text v (map (λ (q : PinView). q.name) (if b then p ∷ filter (λ (q : PinView). is_input q.direction) pins else filter (λ (q : PinView). is_input q.direction) pins)) ≡ true
        → is_some (if b && n then Some p else first (λ (q : PinView). is_input q.direction && bytes_eq q.name v) pins) ≡ true
    by true true same more h = refl
    by true false same more h = more (sym (ap (λ z. z || has_text v (read.input_names pins)) (sym same)) ∙ h)
    by false n same more h = more h

state-found : (o : Option StateView) (v : Name) → has_text v (read.state_names o) ≡ true → is_state_name o v ≡ true
state-found None v e = absurd (false≢true e)
state-found (Some s) v e = by (bytes_eq s.var v) (bytes_eq s.inverse v) (same_text_comm s.var v) (same_text_comm s.inverse v) e
  where
    by : (a b : Bool) → a ≡ same_text v s.var → b ≡ same_text v s.inverse → (same_text v s.var || (same_text v s.inverse || false)) ≡ true → (a || b) ≡ true
    by true b x y h = refl
    by false true x y h = refl
    by false false x y h = absurd (false≢true ((λ i. x i || (y i || false)) ∙ h))

signal-found : (c : CellView) (v : Name) → has_text v (read.signals_of c) ≡ true → is_signal c v ≡ true
signal-found c v e =
    elim (or_cases (has_text v (read.input_names c.pins)) (has_text v (read.state_names c.state)) (sym (has_text-append v (read.input_names c.pins) (read.state_names c.state)) ∙ e)) [
      | inl i ↦ ap (λ b. b || is_state_name c.state v) (input-found c.pins v i)
      | inr s ↦ by (is_some (read_pin c v)) (state-found c.state v s)
    ]
  where
    by : (b : Bool) → is_state_name c.state v ≡ true → (b || is_state_name c.state v) ≡ true
    by true s = refl
    by false s = s

pg-found : (pgs : List PgPinView) (v : Name) → has_text v (map (λ (g : PgPinView). g.name) pgs) ≡ true → is_some (first (λ (g : PgPinView). bytes_eq g.name v) pgs) ≡ true
pg-found [] v e = absurd (false≢true e)
pg-found (g ∷ pgs) v e = by (bytes_eq g.name v) (same_text_comm g.name v) (pg-found pgs v)
  where
    by : (b : Bool) → b ≡ same_text v g.name → (has_text v (map (λ (h : PgPinView). h.name) pgs) ≡ true → is_some (first (λ (h : PgPinView). bytes_eq h.name v) pgs) ≡ true)
        → is_some (if b then Some g else first (λ (h : PgPinView). bytes_eq h.name v) pgs) ≡ true
    by true same more = refl
    by false same more = more (sym (ap (λ z. z || has_text v (map (λ (h : PgPinView). h.name) pgs)) (sym same)) ∙ e)

-- ---- functions

module _ (c : CellView) where
  function-of : (e : ExprView) → read.is_over (read.signals_of c) e ≡ true → differ e ≡ true → is_function_of c e ≡ true
  function-of e over d = and_from _ _ d (from-all (λ n. has_text n (read.signals_of c)) (is_signal c) e.variables (λ v h. signal-found c v h) over)

  function-if-any : (o : Option ExprView) → read.is_over_if_any (read.signals_of c) o ≡ true → passes_if_any differ o ≡ true → passes_if_any (is_function_of c) o ≡ true
  function-if-any None over d = refl
  function-if-any (Some e) over d = function-of e over d

  down-of : (e : ExprView) → read.is_over (read.pg_names_of c) e ≡ true → is_down_of c e ≡ true
  down-of e over = from-all (λ n. has_text n (read.pg_names_of c)) (λ v. is_some (pg_named c v)) e.variables (λ v h. pg-found c.pgs v h) over

  down-if-any : (o : Option ExprView) → read.is_over_if_any (read.pg_names_of c) o ≡ true → passes_if_any (is_down_of c) o ≡ true
  down-if-any None over = refl
  down-if-any (Some e) over = down-of e over

  pin-functions : (q : PinView) → read.is_sound_pin c q ≡ true → passes_if_any differ q.function ≡ true → has_sound_functions c q ≡ true
  pin-functions q s d =
      let related = and_parts (read.has_related (floats c.roles.switch c.pgs) (kinds_of c.pgs) q) _ s in
      let functions = and_parts (read.has_functions (read.signals_of c) (read.pg_names_of c) q) (acts_by_class q.use_of) related.1 in
      let given = and_parts (read.has_function q.direction q.function) _ functions.0 in
      let over = and_parts (read.is_over_if_any (read.signals_of c) q.function) (read.is_over_if_any (read.pg_names_of c) q.power_down) given.1 in
      and_from _ _ (function-if-any q.function over.0 d) (down-if-any q.power_down over.1)

  switched-function : (o : Option SwitchedView) → read.is_sound_switched (read.signals_of c) (length c.pgs) o ≡ true → switch_differs o ≡ true → is_sound_switched c o ≡ true
  switched-function None s d = refl
  switched-function (Some z) s d = function-of z.off (and_parts (read.is_over (read.signals_of c) z.off) (nat_lt z.passes (length c.pgs)) s).0 d

  state-functions : (o : Option StateView) → read.is_sound_state (read.signals_of c) (read.pg_names_of c) o ≡ true → state_differs o ≡ true → is_sound_state c o ≡ true
  state-functions None s d = refl
  state-functions (Some z) s d =
      let next = and_parts (read.is_over (read.signals_of c) z.next) _ s in
      let clock = and_parts (read.is_over (read.signals_of c) z.clock) _ next.1 in
      let clear = and_parts (read.is_over (read.signals_of c) z.clear) _ clock.1 in
      let preset = and_parts (read.is_over (read.signals_of c) z.preset) (read.is_over (read.pg_names_of c) z.power_down) clear.1 in
      let next_d = and_parts (differ z.next) _ d in
      let clock_d = and_parts (differ z.clock) _ next_d.1 in
      let rest_d = and_parts (differ z.clear) (differ z.preset) clock_d.1 in
      and_from _ _ (function-of z.next next.0 next_d.0)
      (and_from _ _ (function-of z.clock clock.0 clock_d.0)
      (and_from _ _ (function-of z.clear clear.0 rest_d.0)
      (and_from _ _ (function-of z.preset preset.0 rest_d.1) (down-of z.power_down preset.1))))

-- ---- related pins

power-kind : (pgs : List PgPinView) (k : ℕ) → names_power (kinds_of pgs) (Some k) ≡ true → is_kind_at is_power_kind (slice_get pgs k) ≡ true
power-kind [] k e = absurd (false≢true e)
power-kind (g ∷ pgs) zero e = e
power-kind (g ∷ pgs) (suc k) e = power-kind pgs k e

ground-kind : (pgs : List PgPinView) (k : ℕ) → names_ground (kinds_of pgs) (Some k) ≡ true → is_kind_at is_ground_kind (slice_get pgs k) ≡ true
ground-kind [] k e = absurd (false≢true e)
ground-kind (g ∷ pgs) zero e = e
ground-kind (g ∷ pgs) (suc k) e = ground-kind pgs k e

grounded : (c : CellView) (floating : Bool) (o : Option ℕ) → read.is_grounded_at floating (kinds_of c.pgs) o ≡ true → is_ground_at c o ≡ true
grounded c floating None e = refl
grounded c true (Some k) e = absurd (false≢true e)
grounded c false (Some k) e = ground-kind c.pgs k e

pin-related : (c : CellView) (q : PinView) → read.is_sound_pin c q ≡ true → has_related c q ≡ true
pin-related c q s =
    let related = and_parts (read.has_related (floats c.roles.switch c.pgs) (kinds_of c.pgs) q) _ s in
    let both = and_parts (names_power (kinds_of c.pgs) (Some q.power)) (read.is_grounded_at (floats c.roles.switch c.pgs) (kinds_of c.pgs) q.gnd) related.0 in
    and_from _ _ (power-kind c.pgs q.power both.0) (grounded c (floats c.roles.switch c.pgs) q.gnd both.1)

-- ---- a primary power pin

no-reason : (a b d : Bool) (x y z : Reason) (o : Option Reason) → (if a then Some x else if b then Some y else if d then Some z else o) ≡ None → d ≡ false
no-reason true b d x y z o e = absurd cc
no-reason false true d x y z o e = absurd cc
no-reason false false true x y z o e = absurd cc
no-reason false false false x y z o e = refl

primary-there : (pgs : List PgPinView) → list_any P.is_primary_power (kinds_of pgs) ≡ true → list_any is_primary_power pgs ≡ true
primary-there [] e = e
primary-there (g ∷ pgs) e = by (P.is_primary_power g.kind) (same g g.kind) (primary-there pgs) e
  where
    same : (h : PgPinView) (kind : PgKind) → P.is_primary_power kind ≡ is_primary_power (record h { kind = kind })
    same h kinds.PrimaryPower = refl
    same h kinds.PrimaryGround = refl
    same h kinds.BackupPower = refl
    same h kinds.BackupGround = refl
    same h kinds.InternalPower = refl
    same h kinds.InternalGround = refl
    same h kinds.Nwell = refl
    same h kinds.Pwell = refl
    same h kinds.Deepnwell = refl
    same h kinds.Deeppwell = refl

    by : (b : Bool) → b ≡ is_primary_power g → (list_any P.is_primary_power (kinds_of pgs) ≡ true → list_any is_primary_power pgs ≡ true) → (b || list_any P.is_primary_power (kinds_of pgs)) ≡ true → (is_primary_power g || list_any is_primary_power pgs) ≡ true
    by true is more h = sym (ap (λ z. z || list_any is_primary_power pgs) is)
    by false is more h = sym (ap (λ z. z || list_any is_primary_power pgs) is) ∙ more h

primary-power : (place : ℕ) (sc : Scope) (head : GroupView) (groups : List GroupView) (pins : List PinView) → reason_of place sc head groups pins ≡ None → list_any is_primary_power sc.pgs ≡ true
primary-power place sc head groups pins e =
    let bad = no-reason (has_bad_name (arg_at 0 head) (all_names pins sc.pgs)) (has_name_twice (all_names pins sc.pgs)) (has_bad_pg place head groups (kinds_of sc.pgs)) reasons.Name reasons.Twice reasons.Pg _ e in
    let lacks = (or_parts (list_any (has_no_kind place) groups) (lacks_pgs (is_switch head) (kinds_of sc.pgs)) bad).1 in
    let many = (or_parts (nat_lt 8 (length (kinds_of sc.pgs))) _ lacks).1 in
    primary-there sc.pgs (not-false (list_any P.is_primary_power (kinds_of sc.pgs)) (or_parts (not (list_any P.is_primary_power (kinds_of sc.pgs))) _ many).0)

-- ---- a cell

-- what a cell of a library is made of
record IsCellOf (c : CellView) : Type 0 where
  place : ℕ
  head : GroupView
  groups : List GroupView
  is : c ≡ cell_of place head groups

in-file : (all : List GroupView) (c : CellView) (groups : List GroupView) (n : ℕ) → IsIn c (cells_from all n groups) → IsCellOf c
unfolding cell_at
in-file all c [] n h = absurd h
in-file all c (g ∷ groups) n h = elim (in-either c (cell_at all n g groups) (cells_from all (n + 1) groups) h) [ inl here ↦ by (is_cell all g) here | inr rest ↦ in-file all c groups (n + 1) rest ]
  where
    by : (b : Bool) → IsIn c (if b then cell_of n g (inside n groups) ∷ [] else []) → IsCellOf c
    by true (inl is) = record { place = n; head = g; groups = inside n groups; is = is }
    by true (inr none) = absurd none
    by false none = absurd none

made-of : (files : List (List GroupView)) (c : CellView) → IsIn c (cells_of files) → IsCellOf c
made-of files c h = let file = of-flat cells_in c files h in in-file file.0 c file.0 0 file.2

passed : (c : CellView) → read.is_sound_cell c ≡ true → c.unusable ≡ None → read.passes c ≡ true
unfolding read.is_sound_cell
passed c e none = sym (ap (λ o. is_some o || read.passes c) none) ∙ e

sound-by : (place : ℕ) (head : GroupView) (groups : List GroupView) → read.passes (cell_by place (scope_of place head groups) head groups) ≡ true
    → reason_of place (scope_of place head groups) head groups (pins_of place (scope_of place head groups) groups) ≡ None → IsSound (cell_by place (scope_of place head groups) head groups)
sound-by place head groups ok none =
    let sc = scope_of place head groups in
    let c = cell_by place sc head groups in
    let names = and_parts (read.has_names c) _ ok in
    let few_pgs = and_parts (nat_le (length c.pgs) 8) _ names.1 in
    let few_pins = and_parts (nat_le (length c.pins) 240) (read.has_parts c) few_pgs.1 in
    let pgs = and_parts (list_all (read.is_sound_pg c) c.pgs) _ few_pins.1 in
    let pins = and_parts (list_all (read.is_sound_pin c) c.pins) _ pgs.1 in
    let rest = and_parts (read.is_sound_state (read.signals_of c) (read.pg_names_of c) c.state) (read.is_over_if_any (read.pg_names_of c) c.roles.retention) pins.1 in
    let free = and_parts (is_free c.name) _ names.0 in
    let visible = and_parts (list_all is_visible (all_names c.pins c.pgs)) (distinct (all_names c.pins c.pgs)) free.1 in
    record {
      names_apart = distinct-append_left (map (λ (q : PinView). q.name) c.pins) (map (λ (g : PgPinView). g.name) c.pgs) visible.1;
      pgs_apart = distinct-append_right (map (λ (q : PinView). q.name) c.pins) (map (λ (g : PgPinView). g.name) c.pgs) visible.1;
      related = from-all (read.is_sound_pin c) (has_related c) c.pins (pin-related c) pins.0;
      pins = both-all (read.is_sound_pin c) (λ (q : PinView). passes_if_any differ q.function) (has_sound_functions c) c.pins (pin-functions c) pins.0 (pins-differ place sc groups);
      switched = both-all (read.is_sound_pg c) (λ (g : PgPinView). switch_differs g.switched) (λ (g : PgPinView). is_sound_switched c g.switched) c.pgs (λ g s d. switched-function c g.switched s d) pgs.0 (pgs-differ place sc.signals sc.names groups);
      state = state-functions c c.state rest.0 (state-differs place sc groups);
      retention = down-if-any c c.roles.retention rest.1;
      powered = primary-power place sc head groups (pins_of place sc groups) none;
    }

pub read-sound : (files : List (List GroupView)) (cells : List CellView) → IsLibrary files cells → (c : CellView) → IsIn c cells → c.unusable ≡ None → IsSound c
unfolding cell_of
read-sound files cells library c m none =
    let there : IsIn c (cells_of files) = subst (λ cs. IsIn c cs) library.denoted m in
    let made = made-of files c there in
    let ok = passed c (all-in read.is_sound_cell (cells_of files) c (all_sound files) there) none in
    subst (λ d. IsSound d) (sym made.is)
    (sound-by made.place made.head made.groups (subst (λ d. read.passes d ≡ true) made.is ok) (sym (ap (λ (d : CellView). d.unusable) made.is) ∙ none))
