-- Tables of instances, in which each gets the first domain that lists it.
use Rattle.std.proofs.Common.{◌≡◌, ◌<◌, ◌≤◌, ℕ, zero, suc, ◌+◌, ◌==◌, Bool, true, false, ◌||◌, List, [], ◌∷◌, length, get_or, set, Option, Some, None, refl, sym, ap, ◌∙◌, cond, arith, replicate}
use Rattle.std.specs.Prelude.{slice_get, is_some}
use Rattle.std.specs.List.{list_any}
use Rattle.std.proofs.lemmas.Bool.{true≢false, eqb-true, eq-eqb}
use Rattle.std.proofs.lemmas.List.{get_or-replicate, length-replicate}
use Rattle.lp_model.specs.declared.ids.InstId.{InstId}
use Rattle.lp_model.specs.declared.intent.Domain.{Domain}
use Rattle.lp_spec_design.specs.Domains.{first_number, or_else}
use Rattle.lp_spec_design.specs.Graph.{when}
use Rattle.lp_domains.specs.Listed.{noted, note_all, note_from, listings, listed_by}

-- ---- entries that are there, and those that are not

pub get-none : {A : Type 0} (xs : List A) (k : ℕ) (d : A) → slice_get xs k ≡ None → get_or xs k d ≡ d
get-none [] k d e = refl
get-none (x ∷ xs) zero d e = absurd cc
get-none (x ∷ xs) (suc k) d e = get-none xs k d e

-- ---- one instance

note-free : (xs : List (Option ℕ)) (k d : ℕ) → k < length xs → get_or xs k None ≡ None → set xs k (Some d) ≡ noted xs k d
note-free [] k d low e = absurd (omega (arith, low))
note-free (x ∷ xs) zero d low e = ap (λ o. or_else o (Some d) ∷ xs) (sym e)
note-free (x ∷ xs) (suc k) d low e = ap (λ r. x ∷ r) (note-free xs k d (omega (arith, low)) e)

note-had : (xs : List (Option ℕ)) (k d y : ℕ) (o : Option ℕ) → k < length xs → get_or xs k o ≡ Some y → xs ≡ noted xs k d
note-had [] k d y o low e = absurd (omega (arith, low))
note-had (x ∷ xs) zero d y o low e = ap (λ o. o ∷ xs) e ∙ ap (λ o. or_else o (Some d) ∷ xs) (sym e)
note-had (x ∷ xs) (suc k) d y o low e = ap (λ r. x ∷ r) (note-had xs k d y o (omega (arith, low)) e)

-- by what is read at its place
pub note-some : (xs : List (Option ℕ)) (k d : ℕ) (o : Option ℕ) → k < length xs → o ≡ get_or xs k o → is_some o ≡ true → xs ≡ noted xs k d
note-some xs k d None low e h = absurd cc
note-some xs k d (Some y) low e h = note-had xs k d y (Some y) low (sym e)

pub note-none : (xs : List (Option ℕ)) (k d : ℕ) (o : Option ℕ) → k < length xs → o ≡ get_or xs k o → is_some o ≡ false → set xs k (Some d) ≡ noted xs k d
note-none xs k d None low e h = note-free xs k d low (sym e)
note-none xs k d (Some y) low e h = absurd cc

pub note-past : (xs : List (Option ℕ)) (k d : ℕ) → length xs ≤ k → xs ≡ noted xs k d
note-past [] k d high = refl
note-past (x ∷ xs) zero d high = absurd (omega (arith, high))
note-past (x ∷ xs) (suc k) d high = ap (λ r. x ∷ r) (note-past xs k d (omega (arith, high)))

pub length-noted : (xs : List (Option ℕ)) (k d : ℕ) → length (noted xs k d) ≡ length xs
length-noted [] k d = refl
length-noted (x ∷ xs) zero d = refl
length-noted (x ∷ xs) (suc k) d = ap suc (length-noted xs k d)

else-none : (o : Option ℕ) → or_else o None ≡ o
else-none None = refl
else-none (Some d) = refl

noted-here : (xs : List (Option ℕ)) (k d : ℕ) → k < length xs → get_or (noted xs k d) k None ≡ or_else (get_or xs k None) (Some d)
noted-here [] k d low = absurd (omega (arith, low))
noted-here (x ∷ xs) zero d low = refl
noted-here (x ∷ xs) (suc k) d low = noted-here xs k d (omega (arith, low))

noted-other : (xs : List (Option ℕ)) (k d j : ℕ) → (j ≡ k → ⊥) → get_or (noted xs k d) j None ≡ get_or xs j None
noted-other [] k d j out = refl
noted-other (x ∷ xs) zero d zero out = absurd (out refl)
noted-other (x ∷ xs) zero d (suc j) out = refl
noted-other (x ∷ xs) (suc k) d zero out = refl
noted-other (x ∷ xs) (suc k) d (suc j) out = noted-other xs k d j (λ same. out (ap suc same))

-- an instance has what it had, else the domain where it is the one
noted-at : (xs : List (Option ℕ)) (k d j : ℕ) → j < length xs → get_or (noted xs k d) j None ≡ or_else (get_or xs j None) (when (j == k) d)
noted-at xs k d j low = by (j == k) refl
  where
    by : (b : Bool) → (j == k) ≡ b → get_or (noted xs k d) j None ≡ or_else (get_or xs j None) (when b d)
    by true e =
        let same : j ≡ k = eqb-true j k e in
        ap (λ n. get_or (noted xs n d) j None) (sym same) ∙ noted-here xs j d low
    by false e = noted-other xs k d j (λ same. absurd (true≢false (sym (eq-eqb j k same) ∙ e))) ∙ sym (else-none (get_or xs j None))

-- ---- all that a domain lists

pub length-all : (xs : List (Option ℕ)) (es : List InstId) (d : ℕ) → length (note_all xs es d) ≡ length xs
length-all xs [] d = refl
length-all xs (e ∷ es) d = length-all (noted xs e.0 d) es d ∙ length-noted xs e.0 d

then-when : (o : Option ℕ) (a b : Bool) (d : ℕ) → or_else (or_else o (when a d)) (when b d) ≡ or_else o (when (a || b) d)
then-when (Some x) a b d = refl
then-when None true b d = refl
then-when None false b d = refl

all-at : (xs : List (Option ℕ)) (es : List InstId) (d j : ℕ) → j < length xs → get_or (note_all xs es d) j None ≡ or_else (get_or xs j None) (when (list_any (λ (x : InstId). j == x.0) es) d)
all-at xs [] d j low = sym (else-none (get_or xs j None))
all-at xs (e ∷ es) d j low =
    all-at (noted xs e.0 d) es d j (omega (arith, low, length-noted xs e.0 d))
    ∙ ap (λ o. or_else o (when (list_any (λ (x : InstId). j == x.0) es) d)) (noted-at xs e.0 d j low)
    ∙ then-when (get_or xs j None) (j == e.0) (list_any (λ (x : InstId). j == x.0) es) d

-- ---- all domains

abbrev lists : ℕ → Domain → Bool
lists j d = list_any (λ (x : InstId). j == x.0) d.elements

pub length-from : (xs : List (Option ℕ)) (k : ℕ) (ds : List Domain) → length (note_from xs k ds) ≡ length xs
length-from xs k [] = refl
length-from xs k (d ∷ ds) = length-from (note_all xs d.elements k) (k + 1) ds ∙ length-all xs d.elements k

or-later : (o : Option ℕ) (b : Bool) (k : ℕ) (later : Option ℕ) → or_else (or_else o (when b k)) later ≡ or_else o (cond b (Some k) later)
or-later (Some x) b k later = refl
or-later None true k later = refl
or-later None false k later = refl

from-at : (xs : List (Option ℕ)) (k : ℕ) (ds : List Domain) (j : ℕ) → j < length xs → get_or (note_from xs k ds) j None ≡ or_else (get_or xs j None) (first_number (lists j) k ds)
from-at xs k [] j low = sym (else-none (get_or xs j None))
from-at xs k (d ∷ ds) j low =
    from-at (note_all xs d.elements k) (k + 1) ds j (omega (arith, low, length-all xs d.elements k))
    ∙ ap (λ o. or_else o (first_number (lists j) (k + 1) ds)) (all-at xs d.elements k j low)
    ∙ or-later (get_or xs j None) (lists j d) k (first_number (lists j) (k + 1) ds)

abbrev fresh : Option ℕ
fresh = None

pub length-listings : (n : ℕ) (ds : List Domain) → length (listings n ds) ≡ n
length-listings n ds = length-from (replicate n None) 0 ds ∙ length-replicate n None

pub listings-at : (n : ℕ) (ds : List Domain) (j : ℕ) → j < n → get_or (listings n ds) j None ≡ listed_by ds j
listings-at n ds j low =
    let many : length (replicate n fresh) ≡ n = length-replicate n fresh in
    from-at (replicate n None) 0 ds j (omega (arith, low, many))
    ∙ ap (λ o. or_else o (first_number (lists j) 0 ds)) (get_or-replicate n j None None low)
