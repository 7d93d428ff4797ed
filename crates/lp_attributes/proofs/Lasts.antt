-- A walk that keeps the last attribute that passes finds the last of those that pass.
use Rattle.std.proofs.Common.{◌≡◌, Bool, true, false, List, [], ◌∷◌, Option, Some, None, refl, sym, ap, ◌∙◌, cond}
use Rattle.std.specs.Prelude.{if◌then◌else◌}
use Rattle.std.specs.List.{filter}
use Rattle.std.specs.Option.{option_or}
use Rattle.lp_model.specs.GroupsView.{AttrView}
use Rattle.lp_attributes.specs.Attributes.{last_of, last_that}

-- the last that passes, and what was found before where none does
abbrev pub last_from : (AttrView → Bool) → Option AttrView → List AttrView → Option AttrView
last_from passes found [] = found
last_from passes found (a ∷ attrs) = last_from passes (if passes a then Some a else found) attrs

-- behind one more
pub last_of_more : {A : Type 0} (x : A) (xs : List A) → last_of (x ∷ xs) ≡ option_or (last_of xs) (Some x)
last_of_more x [] = refl
last_of_more {A = A} x (y ∷ rest) = by (last_of rest) (last_of_more y rest)
  where
    by : (o : Option A) → last_of (y ∷ rest) ≡ option_or o (Some y) → last_of (y ∷ rest) ≡ option_or (last_of (y ∷ rest)) (Some x)
    by None e = e ∙ ap (λ o. option_or o (Some x)) (sym e)
    by (Some z) e = e ∙ ap (λ o. option_or o (Some x)) (sym e)

pub last_from_found : (passes : AttrView → Bool) (found : Option AttrView) (attrs : List AttrView) → last_from passes found attrs ≡ option_or (last_that passes attrs) found
last_from_found passes found [] = refl
last_from_found passes found (a ∷ attrs) = by (passes a) (last_from_found passes (if passes a then Some a else found) attrs)
  where
    by : (b : Bool) → last_from passes (if b then Some a else found) attrs ≡ option_or (last_that passes attrs) (if b then Some a else found)
        → last_from passes (if b then Some a else found) attrs ≡ option_or (last_of (cond b (a ∷ filter passes attrs) (filter passes attrs))) found
    by true e = e ∙ nested (last_that passes attrs) ∙ ap (λ o. option_or o found) (sym (last_of_more a (filter passes attrs)))
      where
        nested : (o : Option AttrView) → option_or o (Some a) ≡ option_or (option_or o (Some a)) found
        nested None = refl
        nested (Some z) = refl
    by false e = e

-- of a whole list
pub last_from_whole : (passes : AttrView → Bool) (attrs : List AttrView) → last_from passes None attrs ≡ last_that passes attrs
last_from_whole passes attrs = last_from_found passes None attrs ∙ by (last_that passes attrs)
  where
    by : (o : Option AttrView) → option_or o None ≡ o
    by None = refl
    by (Some a) = refl
