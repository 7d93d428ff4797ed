-- The variables of each function of a cell that is read differ.
use Rattle.std.proofs.Common.{◌≡◌, ℕ, Bool, true, false, not, ◌&&◌, cond, List, [], ◌∷◌, ◌++◌, map, Option, Some, None, refl, ap, ◌∙◌}
use Rattle.std.specs.Prelude.{if◌then◌else◌, fold, length, nat_le, unwrap_or, codes}
use Rattle.std.specs.List.{list_all, find}
use Rattle.std.specs.Option.{option_map}
use Rattle.std.proofs.lemmas.Bool.{and_from}
use Rattle.std.proofs.lemmas.List.Folds.{list_all-append}
use Rattle.lp_text.specs.Texts.{has_text, distinct, with_text, distinct-push}
use Rattle.lp_expr.specs.declared.dialect.Dialect.TheVariants.{Liberty}
use Rattle.lp_expr.specs.Machine.{Reading, Stopped, Whole, read_in, start}
use Rattle.lp_expr.specs.Denotes.{firsts, parts_names, parts_steps}
use Rattle.lp_model.specs.GroupsView.{GroupView}
use Rattle.lp_model.specs.LibraryView.{ExprView, SwitchedView, PgPinView, PinView, StateView}
use Rattle.lp_attributes.specs.Attributes.{value_of}
use Rattle.lp_attributes.specs.Expressions.{view_of, expression_of, standing, expression_over}
use Rattle.lp_parts.specs.Source.{is_part}
use Rattle.lp_parts.specs.Names.{is_state, is_output}
use Rattle.lp_parts.specs.Functions.{nothing, over_if_any}
use Rattle.lp_parts.specs.Pins.{Scope, kind_of, switched_by, is_internal_power, pg_of, pgs_at, pgs_of, function_if_any, pin_of, pins_at, pins_of}
use Rattle.lp_parts.specs.States.{next_text, clock_text, state_by, state_of}
use Rattle.lp_spec_cells.specs.Sound.{passes_if_any}

-- the variables of an expression differ
abbrev pub differ : ExprView → Bool
differ e = distinct e.variables

with-differs : (set : List (List ℕ)) (text : List ℕ) → distinct set ≡ true → distinct (with_text set text) ≡ true
with-differs set text e = by (has_text text set) refl
  where
    by : (b : Bool) → has_text text set ≡ b → distinct (if b then set else set ++ text ∷ []) ≡ true
    by true f = e
    by false f = distinct-push set text ∙ and_from _ _ (ap not f) e

fold-differs : (texts set : List (List ℕ)) → distinct set ≡ true → distinct (fold with_text set texts) ≡ true
fold-differs [] set e = e
fold-differs (t ∷ texts) set e = fold-differs texts (with_text set t) (with-differs set t e)

-- ---- expressions

few-differ : (b : Bool) (e : ExprView) → differ e ≡ true → passes_if_any differ (cond b (Some e) None) ≡ true
few-differ true e d = d
few-differ false e d = refl

view-differs : (text : List ℕ) (r : Reading) → passes_if_any differ (view_of text r) ≡ true
view-differs text (Stopped place) = refl
view-differs text (Whole parts) =
    let e : ExprView = record { variables = firsts (parts_names text parts); steps = parts_steps (firsts (parts_names text parts)) text parts } in
    few-differ (nat_le (length e.variables) 12) e (fold-differs (parts_names text parts) [] refl)

expression-differs : (text : List ℕ) → passes_if_any differ (expression_of text) ≡ true
unfolding expression_of
expression-differs text = by (nat_le (length text) 67108864)
  where
    by : (b : Bool) → passes_if_any differ (cond b (view_of text (read_in Liberty 0 text start)) None) ≡ true
    by true = view-differs text (read_in Liberty 0 text start)
    by false = refl

standing-differs : (names : List (List ℕ)) (o : Option ExprView) → passes_if_any differ o ≡ true → passes_if_any differ (standing names o) ≡ true
standing-differs names None d = refl
standing-differs names (Some e) d = few-differ (list_all (λ n. has_text n names) e.variables) e d

pub over-differs : (names : List (List ℕ)) (text : List ℕ) → passes_if_any differ (expression_over names text) ≡ true
over-differs names text = standing-differs names (expression_of text) (expression-differs text)

or-nothing : (o : Option ExprView) → passes_if_any differ o ≡ true → differ (unwrap_or o nothing) ≡ true
or-nothing None d = refl
or-nothing (Some e) d = d

if-any-differs : (names : List (List ℕ)) (o : Option (List ℕ)) → differ (over_if_any names o) ≡ true
if-any-differs names None = refl
if-any-differs names (Some text) = or-nothing (expression_over names text) (over-differs names text)

-- ---- pins

function-differs : (signals : List (List ℕ)) (o : Option (List ℕ)) → passes_if_any differ (function_if_any signals o) ≡ true
function-differs signals None = refl
function-differs signals (Some text) = over-differs signals text

pin-differs : (sc : Scope) (g : GroupView) (name : List ℕ) → passes_if_any differ (pin_of sc g name).function ≡ true
pin-differs sc g name = by (is_output g)
  where
    by : (b : Bool) → passes_if_any differ (if b then function_if_any sc.signals (value_of (codes "function") g) else None) ≡ true
    by true = function-differs sc.signals (value_of (codes "function") g)
    by false = refl

named-differ : (sc : Scope) (g : GroupView) (names : List (List ℕ)) → list_all (λ (q : PinView). passes_if_any differ q.function) (map (pin_of sc g) names) ≡ true
named-differ sc g [] = refl
named-differ sc g (n ∷ names) = and_from _ _ (pin-differs sc g n) (named-differ sc g names)

pub pins-differ : (place : ℕ) (sc : Scope) (groups : List GroupView) → list_all (λ (q : PinView). passes_if_any differ q.function) (pins_of place sc groups) ≡ true
unfolding pins_at
pins-differ place sc [] = refl
pins-differ place sc (g ∷ groups) =
    list_all-append (λ (q : PinView). passes_if_any differ q.function) (pins_at place sc g) (pins_of place sc groups)
    ∙ and_from _ _ (by (is_part place (codes "pin") g)) (pins-differ place sc groups)
  where
    by : (b : Bool) → list_all (λ (q : PinView). passes_if_any differ q.function) (if b then map (pin_of sc g) g.args else []) ≡ true
    by true = named-differ sc g g.args
    by false = refl

-- ---- switched pins

abbrev pub switch_differs : Option SwitchedView → Bool
switch_differs None = true
switch_differs (Some s) = differ s.off

switched-differs : (signals names : List (List ℕ)) (off passes : Option (List ℕ)) → switch_differs (switched_by signals names off passes) ≡ true
switched-differs signals names None passes = refl
switched-differs signals names (Some o) None = refl
switched-differs signals names (Some o) (Some p) = if-any-differs signals (Some o)

pg-differs : (signals names : List (List ℕ)) (g : GroupView) → switch_differs (pg_of signals names g).switched ≡ true
pg-differs signals names g = by (is_internal_power (kind_of g))
  where
    by : (b : Bool) → switch_differs (if b then switched_by signals names (value_of (codes "switch_function") g) (value_of (codes "pg_function") g) else None) ≡ true
    by true = switched-differs signals names (value_of (codes "switch_function") g) (value_of (codes "pg_function") g)
    by false = refl

pub pgs-differ : (place : ℕ) (signals names : List (List ℕ)) (groups : List GroupView) → list_all (λ (p : PgPinView). switch_differs p.switched) (pgs_of place signals names groups) ≡ true
pgs-differ place signals names [] = refl
pgs-differ place signals names (g ∷ groups) =
    list_all-append (λ (p : PgPinView). switch_differs p.switched) (pgs_at place signals names g) (pgs_of place signals names groups)
    ∙ and_from _ _ (by (is_part place (codes "pg_pin") g)) (pgs-differ place signals names groups)
  where
    by : (b : Bool) → list_all (λ (p : PgPinView). switch_differs p.switched) (if b then pg_of signals names g ∷ [] else []) ≡ true
    by true = and_from _ _ (pg-differs signals names g) refl
    by false = refl

-- ---- states

abbrev pub state_differs : Option StateView → Bool
state_differs None = true
state_differs (Some s) = differ s.next && (differ s.clock && (differ s.clear && differ s.preset))

state-by-differs : (place : ℕ) (sc : Scope) (groups : List GroupView) (o : Option GroupView) → state_differs (option_map (λ g. state_by place sc g groups) o) ≡ true
state-by-differs place sc groups None = refl
state-by-differs place sc groups (Some g) =
    and_from _ _ (if-any-differs sc.signals (next_text g))
    (and_from _ _ (if-any-differs sc.signals (clock_text g))
    (and_from _ _ (if-any-differs sc.signals (value_of (codes "clear") g)) (if-any-differs sc.signals (value_of (codes "preset") g))))

pub state-differs : (place : ℕ) (sc : Scope) (groups : List GroupView) → state_differs (state_of place sc groups) ≡ true
state-differs place sc groups = state-by-differs place sc groups (find (is_state place) groups)
