-- The names that the functions of a cell may have are names of its pins and of its state.
use Rattle.std.proofs.Common.{◌≡◌, ℕ, zero, suc, ◌≤◌, Bool, true, false, List, [], ◌∷◌, ◌++◌, length, take, Option, Some, None, refl, sym, ap, ◌∙◌, subst, arith, not, ◌&&◌, ◌||◌}
use Rattle.std.specs.Prelude.{map, fold, cond, codes, if◌then◌else◌, unwrap_or}
use Rattle.std.specs.List.{filter, find, flat_map}
use Rattle.std.proofs.lemmas.Bool.{and_parts, and_from, true≢false}
use Rattle.std.proofs.lemmas.List.{map-append}
use Rattle.std.proofs.lemmas.List.Elements.{filter-append}
use Rattle.std.proofs.lemmas.List.Folds.{list_all-append}
use Rattle.lp_text.specs.Texts.{has_text, has_text-append, same_text, true-same_text, with_text}
use Rattle.lp_model.specs.GroupsView.{GroupView}
use Rattle.lp_model.specs.LibraryView.{ExprView, PgPinView, PinView}
use Rattle.lp_behaviour.specs.Signals.{is_input}
use Rattle.lp_attributes.specs.Expressions.{are_known, expression_of, expression_over, standing}
use Rattle.lp_attributes.proofs.Finding.{is_known}
use Rattle.lp_parts.specs.Source.{is_part, arg_at}
use Rattle.lp_parts.specs.Names.{is_state, is_output, with_texts, with_inputs, with_variables, with_pg}
use Rattle.lp_parts.specs.Functions.{nothing, over_if_any, is_plain, plain_names, down_of}
use Rattle.lp_parts.specs.Pins.{Scope, direction_of, function_if_any, pg_of, pgs_at, pin_of, pins_at}
use Rattle.lp_parts.proofs.Known.{known_with}
use Rattle.lp_cells.specs.Sound.{input_names, is_over, is_over_if_any}

-- ---- texts among texts

or_here : (a b : Bool) → a ≡ true → (a || b) ≡ true
or_here true b e = refl
or_here false b e = absurd (cc)

or_there : (a b : Bool) → b ≡ true → (a || b) ≡ true
or_there true b e = refl
or_there false b e = e

-- known in a list, so known in a longer one
pub known_under : (small large : List (List ℕ)) → are_known large small ≡ true → (texts : List (List ℕ)) → are_known small texts ≡ true → are_known large texts ≡ true
known_under small large inside [] known = refl
known_under small large inside (t ∷ texts) known =
    let both = and_parts (has_text t small) (are_known small texts) known in
    and_from _ _ (is_known large small t inside both.0) (known_under small large inside texts both.1)

known_cons : (x : List ℕ) (table texts : List (List ℕ)) → are_known table texts ≡ true → are_known (x ∷ table) texts ≡ true
known_cons x table [] known = refl
known_cons x table (t ∷ texts) known =
    let both = and_parts (has_text t table) (are_known table texts) known in
    and_from _ _ (or_there (same_text t x) (has_text t table) both.0) (known_cons x table texts both.1)

pub known_self : (texts : List (List ℕ)) → are_known texts texts ≡ true
known_self [] = refl
known_self (t ∷ texts) = and_from _ _ (or_here (same_text t t) (has_text t texts) (true-same_text t t refl)) (known_cons t texts texts (known_self texts))

pub known_front : (xs ys texts : List (List ℕ)) → are_known xs texts ≡ true → are_known (xs ++ ys) texts ≡ true
known_front xs ys [] known = refl
known_front xs ys (t ∷ texts) known =
    let both = and_parts (has_text t xs) (are_known xs texts) known in
    and_from _ _ (has_text-append t xs ys ∙ or_here (has_text t xs) (has_text t ys) both.0) (known_front xs ys texts both.1)

pub known_back : (xs ys texts : List (List ℕ)) → are_known ys texts ≡ true → are_known (xs ++ ys) texts ≡ true
known_back xs ys [] known = refl
known_back xs ys (t ∷ texts) known =
    let both = and_parts (has_text t ys) (are_known ys texts) known in
    and_from _ _ (has_text-append t xs ys ∙ or_there (has_text t xs) (has_text t ys) both.0) (known_back xs ys texts both.1)

module _ (R : List (List ℕ)) where
  known_parts : (xs ys : List (List ℕ)) → are_known R (xs ++ ys) ≡ true → (are_known R xs ≡ true) × (are_known R ys ≡ true)
  known_parts xs ys known = and_parts (are_known R xs) (are_known R ys) (sym (list_all-append (λ t. has_text t R) xs ys) ∙ known)

  known_mapped : {A : Type 0} (name : A → List ℕ) (xs ys : List A) → are_known R (map name (xs ++ ys)) ≡ true → (are_known R (map name xs) ≡ true) × (are_known R (map name ys) ≡ true)
  known_mapped name xs ys known = known_parts (map name xs) (map name ys) (subst (λ (ts : List (List ℕ)). are_known R ts ≡ true) (map-append name xs ys) known)

  known_set : (texts set : List (List ℕ)) → are_known R set ≡ true → are_known R texts ≡ true → are_known R (with_texts set texts) ≡ true
  known_set [] set known all = known
  known_set (t ∷ texts) set known all =
      let both = and_parts (has_text t R) (are_known R texts) all in
      known_set texts (with_text set t) (known_with R set t known both.0) both.1

  -- ---- the names of power and ground pins

  module _ (place : ℕ) (signals names : List (List ℕ)) where
    pub pgs_in : (groups : List GroupView) (set : List (List ℕ)) → are_known R set ≡ true → are_known R (map (λ (p : PgPinView). p.name) (flat_map (pgs_at place signals names) groups)) ≡ true → are_known R (fold (with_pg place) set groups) ≡ true
    pgs_in [] set known all = known
    pgs_in (g ∷ groups) set known all =
        let both = known_mapped (λ (p : PgPinView). p.name) (pgs_at place signals names g) (flat_map (pgs_at place signals names) groups) all in
        pgs_in groups (with_pg place set g) (by (is_part place (codes "pg_pin") g) both.0) both.1
      where
        by : (b : Bool) → are_known R (map (λ (p : PgPinView). p.name) (if b then pg_of signals names g ∷ [] else [])) ≡ true → are_known R (if b then with_text set (arg_at 0 g) else set) ≡ true
        by true here = known_with R set (arg_at 0 g) known (and_parts (has_text (arg_at 0 g) R) true here).0
        by false here = known

  -- ---- the names of input pins

  module _ (place : ℕ) (sc : Scope) where
    abbrev is_read : PinView → Bool
    is_read p = is_input p.direction

    names_same : (g : GroupView) (args : List (List ℕ)) → is_output g ≡ false → input_names (map (pin_of sc g) args) ≡ args
    names_same g [] e = refl
    names_same g (a ∷ args) e = by (is_output g) e (names_same g args e)
      where
        others : List PinView
        others = filter is_read (map (pin_of sc g) args)

        by : (b : Bool) → b ≡ false → map (λ (p : PinView). p.name) others ≡ args → map (λ (p : PinView). p.name) (cond (is_input (direction_of b)) (pin_of sc g a ∷ others) others) ≡ a ∷ args
        by true e same = absurd (true≢false e)
        by false e same = ap (λ (ts : List (List ℕ)). a ∷ ts) same

    args_known : (g : GroupView) → is_part place (codes "pin") g ≡ true → is_output g ≡ false → are_known R (input_names (pins_at place sc g)) ≡ true → are_known R g.args ≡ true
    unfolding pins_at
    args_known g e inward known = subst (λ (ts : List (List ℕ)). are_known R ts ≡ true) (names_same g g.args inward) (rw e at known)

    pub inputs_in : (groups : List GroupView) (set : List (List ℕ)) → are_known R set ≡ true → are_known R (input_names (flat_map (pins_at place sc) groups)) ≡ true → are_known R (fold (with_inputs place) set groups) ≡ true
    inputs_in [] set known all = known
    inputs_in (g ∷ groups) set known all =
        let apart = subst (λ (ps : List PinView). are_known R (map (λ (p : PinView). p.name) ps) ≡ true) (filter-append is_read (pins_at place sc g) (flat_map (pins_at place sc) groups)) all in
        let both = known_mapped (λ (p : PinView). p.name) (filter is_read (pins_at place sc g)) (filter is_read (flat_map (pins_at place sc) groups)) apart in
        inputs_in groups (with_inputs place set g) (by (is_part place (codes "pin") g) (is_output g) refl refl both.0) both.1
      where
        by : (b out : Bool) → is_part place (codes "pin") g ≡ b → is_output g ≡ out → are_known R (input_names (pins_at place sc g)) ≡ true → are_known R (if b && not out then with_texts set g.args else set) ≡ true
        by true true e inward here = known
        by true false e inward here = known_set g.args set known (args_known g e inward here)
        by false out e inward here = known

  -- ---- the names of the state

  module _ (place : ℕ) where
    none_more : (groups : List GroupView) (set : List (List ℕ)) → length (filter (is_state place) groups) ≡ 0 → fold (with_variables place) set groups ≡ set
    none_more [] set e = refl
    none_more (g ∷ groups) set e = by (is_state place g) (λ h. none_more groups set h) e
      where
        by : (b : Bool) → (length (filter (is_state place) groups) ≡ 0 → fold (with_variables place) set groups ≡ set) → length (cond b (g ∷ filter (is_state place) groups) (filter (is_state place) groups)) ≡ 0 → fold (with_variables place) (if b then with_texts set (take 2 g.args) else set) groups ≡ set
        by true more h = absurd (omega arith)
        by false more h = more h

    pub variables_in : (groups : List GroupView) (set : List (List ℕ)) → are_known R set ≡ true → length (filter (is_state place) groups) ≤ 1 → ((g : GroupView) → find (is_state place) groups ≡ Some g → are_known R (take 2 g.args) ≡ true) → are_known R (fold (with_variables place) set groups) ≡ true
    variables_in [] set known e first = known
    variables_in (g ∷ groups) set known e first = by (is_state place g) (λ h f. variables_in groups set known h f) e first
      where
        by : (b : Bool) → (length (filter (is_state place) groups) ≤ 1 → ((h : GroupView) → find (is_state place) groups ≡ Some h → are_known R (take 2 h.args) ≡ true) → are_known R (fold (with_variables place) set groups) ≡ true) → length (cond b (g ∷ filter (is_state place) groups) (filter (is_state place) groups)) ≤ 1 → ((h : GroupView) → cond b (Some g) (find (is_state place) groups) ≡ Some h → are_known R (take 2 h.args) ≡ true) → are_known R (fold (with_variables place) (if b then with_texts set (take 2 g.args) else set) groups) ≡ true
        by true more h here = rw (none_more groups (with_texts set (take 2 g.args)) (omega arith)) (known_set (take 2 g.args) set known (here g refl))
        by false more h here = more h here

  -- ---- functions over known names

  module _ (names : List (List ℕ)) (known : are_known R names ≡ true) where
    standing_over : (o : Option ExprView) → is_over_if_any R (standing names o) ≡ true
    standing_over None = refl
    standing_over (Some e) = by (are_known names e.variables) refl
      where
        by : (b : Bool) → are_known names e.variables ≡ b → is_over_if_any R (cond b (Some e) None) ≡ true
        by true all = known_under names R known e.variables all
        by false all = refl

    some_over : (o : Option ExprView) → is_over_if_any R o ≡ true → is_over R (unwrap_or o nothing) ≡ true
    some_over None h = refl
    some_over (Some e) h = h

    pub over_in : (value : Option (List ℕ)) → is_over R (over_if_any names value) ≡ true
    over_in None = refl
    over_in (Some text) = some_over (expression_over names text) (standing_over (expression_of text))

    pub function_in : (value : Option (List ℕ)) → is_over_if_any R (function_if_any names value) ≡ true
    function_in None = refl
    function_in (Some text) = standing_over (expression_of text)

    -- the default function is over the names of the pins
    plain_in : (k : ℕ) (pgs : List PgPinView) → are_known R (map (λ (p : PgPinView). p.name) pgs) ≡ true → are_known R (plain_names (take k pgs)) ≡ true
    plain_in zero pgs all = refl
    plain_in (suc k) [] all = refl
    plain_in (suc k) (p ∷ pgs) all = by (is_plain p.kind) (plain_in k pgs both.1)
      where
        both : (has_text p.name R ≡ true) × (are_known R (map (λ (q : PgPinView). q.name) pgs) ≡ true)
        both = and_parts (has_text p.name R) (are_known R (map (λ (q : PgPinView). q.name) pgs)) all

        plain : List PgPinView
        plain = filter (λ (q : PgPinView). is_plain q.kind) (take k pgs)

        by : (b : Bool) → are_known R (map (λ (q : PgPinView). q.name) plain) ≡ true → are_known R (map (λ (q : PgPinView). q.name) (cond b (p ∷ plain) plain)) ≡ true
        by true others = and_from _ _ both.0 others
        by false others = others

    pub down_in : (pgs : List PgPinView) → are_known R (map (λ (p : PgPinView). p.name) pgs) ≡ true → (value : Option (List ℕ)) → is_over R (down_of pgs names value) ≡ true
    down_in pgs all None = plain_in 8 pgs all
    down_in pgs all (Some text) = over_in (Some text)
