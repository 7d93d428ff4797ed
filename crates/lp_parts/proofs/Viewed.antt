-- The types of pins are those of their views.
use Rattle.std.proofs.Common.{◌≡◌, ℕ, zero, suc, Bool, true, false, List, [], ◌∷◌, Option, Some, None, refl, sym, ap, ◌∙◌}
use Rattle.std.specs.Prelude.{map, cond, slice_get, slice_index_or}
use Rattle.std.specs.List.{filter}
use Rattle.lp_text.specs.declared.names.NameId.{NameId}
use Rattle.lp_text.specs.Texts.{text_at}
use Rattle.lp_model.specs.Agreement.{name_texts}
use Rattle.lp_expr.specs.Formula.{Formula}
use Rattle.lp_model.specs.declared.library.PgPin.{PgPin}
use Rattle.lp_model.specs.declared.library.PgKind.{PgKind}
use Rattle.lp_model.specs.LibraryView.{PgPinView, pg_pin_view, expr_view}
use Rattle.lp_parts.specs.Functions.{kinds_of, is_plain, plain_names, down_steps, down_by}

pub kinds_same : (texts : List (List ℕ)) (pgs : List PgPin) → kinds_of (map (pg_pin_view texts) pgs) ≡ map (λ (p : PgPin). p.kind) pgs
kinds_same texts [] = refl
kinds_same texts (p ∷ pgs) = ap (λ (ks : List PgKind). p.kind ∷ ks) (kinds_same texts pgs)

-- the names of the pins that are no bias pins are those of the views
pub plain_same : (texts : List (List ℕ)) (pgs : List PgPin) → name_texts texts (map (λ (p : PgPin). p.name) (filter (λ (p : PgPin). is_plain p.kind) pgs)) ≡ plain_names (map (pg_pin_view texts) pgs)
plain_same texts [] = refl
plain_same texts (p ∷ pgs) = by (is_plain p.kind) (plain_same texts pgs)
  where
    raw : List PgPin
    raw = filter (λ (q : PgPin). is_plain q.kind) pgs

    seen : List PgPinView
    seen = filter (λ (q : PgPinView). is_plain q.kind) (map (pg_pin_view texts) pgs)

    by : (b : Bool) → name_texts texts (map (λ (q : PgPin). q.name) raw) ≡ map (λ (q : PgPinView). q.name) seen → name_texts texts (map (λ (q : PgPin). q.name) (cond b (p ∷ raw) raw)) ≡ map (λ (q : PgPinView). q.name) (cond b (pg_pin_view texts p ∷ seen) seen)
    by true h = ap (λ (xs : List (List ℕ)). text_at texts p.name.0 ∷ xs) h
    by false h = h

-- an argument of a group
pub arg_some : (texts : List (List ℕ)) (ids : List NameId) (n : ℕ) (id : NameId) → slice_get ids n ≡ Some id → slice_index_or (name_texts texts ids) n [] ≡ text_at texts id.0
arg_some texts [] n id e = absurd (cc)
arg_some texts (i ∷ ids) zero id e = let same : i ≡ id = cc in ap (λ (j : NameId). text_at texts j.0) same
arg_some texts (i ∷ ids) (suc n) id e = arg_some texts ids n id e

pub arg_none : (texts : List (List ℕ)) (ids : List NameId) (n : ℕ) → slice_get ids n ≡ None → slice_index_or (name_texts texts ids) n [] ≡ []
arg_none texts [] n e = refl
arg_none texts (i ∷ ids) zero e = absurd (cc)
arg_none texts (i ∷ ids) (suc n) e = arg_none texts ids n e

-- the default function of pins
pub down_same : (texts : List (List ℕ)) (pgs : List PgPin) (e : Formula) → e.variables ≡ map (λ (p : PgPin). p.name) (filter (λ (p : PgPin). is_plain p.kind) pgs) → e.steps ≡ down_steps 0 (map (λ (p : PgPin). p.kind) pgs) → expr_view texts e ≡ down_by (map (pg_pin_view texts) pgs)
down_same texts pgs e names steps =
    let named : name_texts texts e.variables ≡ plain_names (map (pg_pin_view texts) pgs) = ap (name_texts texts) names ∙ plain_same texts pgs in
    let stepped : e.steps ≡ down_steps 0 (kinds_of (map (pg_pin_view texts) pgs)) = steps ∙ ap (down_steps 0) (sym (kinds_same texts pgs)) in
    rw (named, stepped) refl
