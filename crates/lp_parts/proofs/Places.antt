-- A walk that keeps the place of the pin that passes, and ends at a second one, finds the only place.
use Rattle.std.proofs.Common.{◌≡◌, ℕ, ◌+◌, Bool, true, false, List, [], ◌∷◌, Option, Some, None, refl, cond}
use Rattle.std.specs.Prelude.{is_some, if◌then◌else◌, map}
use Rattle.std.specs.List.{cons_option, enumerate_from, filter}
use Rattle.lp_model.specs.declared.library.PgKind.{PgKind}
use Rattle.lp_parts.specs.Pins.{only_place, places_from, the_one}

-- where a place was found before or not, and places are counted from n
abbrev pub only_from : ℕ → (PgKind → Bool) → Option ℕ → List PgKind → Option ℕ
only_from n test found [] = found
only_from n test found (kind ∷ more) =
    if test kind then (if is_some found then None else only_from (n + 1) test (Some n) more) else only_from (n + 1) test found more

only_from_found : (n : ℕ) (test : PgKind → Bool) (found : Option ℕ) (kinds : List PgKind) → only_from n test found kinds ≡ the_one (cons_option found (places_from n test kinds))
only_from_found n test None [] = refl
only_from_found n test (Some k) [] = refl
only_from_found n test found (kind ∷ more) = by (test kind) found (filter (λ (x : ℕ × PgKind). test x.1) (enumerate_from (n + 1) more)) (λ f. only_from_found (n + 1) test f more)
  where
    by : (b : Bool) (f : Option ℕ) (passing : List (ℕ × PgKind)) → ((g : Option ℕ) → only_from (n + 1) test g more ≡ the_one (cons_option g (map (λ (x : ℕ × PgKind). x.0) passing)))
        → (if b then (if is_some f then None else only_from (n + 1) test (Some n) more) else only_from (n + 1) test f more) ≡ the_one (cons_option f (map (λ (x : ℕ × PgKind). x.0) (cond b ((n, kind) ∷ passing) passing)))
    by true None passing next = next (Some n)
    by true (Some k) passing next = refl
    by false f passing next = next f

-- of all pins
pub only_from_whole : (test : PgKind → Bool) (kinds : List PgKind) → only_from 0 test None kinds ≡ only_place test kinds
only_from_whole test kinds = only_from_found 0 test None kinds
