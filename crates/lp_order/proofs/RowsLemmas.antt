-- Rows in a flat list: each by its number, and one more behind the others.
use Rattle.std.proofs.Common.{◌≡◌, ◌≤◌, ◌<◌, ◌-◌, ℕ, zero, suc, List, [], ◌∷◌, ◌++◌, length, get_or, take, drop, refl, ap, ◌∙◌, sym, arith, length-append, length-drop}
use Rattle.std.proofs.lemmas.List.{drop_at, take_all, drop-append-le, take-append-le}
use Rattle.lp_order.specs.Rows.{rows_between, AreEnds}

pub length-rows_between : (start : ℕ) (ends flat : List ℕ) → length (rows_between start ends flat) ≡ length ends
length-rows_between start [] flat = refl
length-rows_between start (end ∷ ends) flat = ap suc (length-rows_between end ends flat)

pub get_or-rows_between : (start : ℕ) (ends flat : List ℕ) (k : ℕ) → k < length ends → get_or (rows_between start ends flat) k [] ≡ take (get_or ends k 0 - get_or (start ∷ ends) k 0) (drop (get_or (start ∷ ends) k 0) flat)
get_or-rows_between start [] flat k h = absurd (omega arith)
get_or-rows_between start (end ∷ ends) flat zero h = refl
get_or-rows_between start (end ∷ ends) flat (suc k) h = get_or-rows_between end ends flat k (omega arith)

pub AreEnds-start : (start : ℕ) (ends : List ℕ) (size : ℕ) → AreEnds start ends size → start ≤ size
AreEnds-start start [] size h = omega arith
AreEnds-start start (end ∷ ends) size h = omega (arith, h.0, AreEnds-start end ends size h.1)

-- a row starts before its end, and ends within the flat list
pub AreEnds-at : (start : ℕ) (ends : List ℕ) (size k : ℕ) → k < length ends → AreEnds start ends size → (get_or (start ∷ ends) k 0 ≤ get_or ends k 0) × (get_or ends k 0 ≤ size)
AreEnds-at start [] size k h e = absurd (omega arith)
AreEnds-at start (end ∷ ends) size zero h e = (e.0, AreEnds-start end ends size e.1)
AreEnds-at start (end ∷ ends) size (suc k) h e = AreEnds-at end ends size k (omega arith) e.1

pub AreEnds-push : (start : ℕ) (ends : List ℕ) (size more : ℕ) → AreEnds start ends size → size ≤ more → AreEnds start (ends ++ more ∷ []) more
AreEnds-push start [] size more e h = (omega arith, refl)
AreEnds-push start (end ∷ ends) size more e h = (e.0, AreEnds-push end ends size more e.1 h)

pub rows_between-push : (start : ℕ) (ends flat row : List ℕ) → AreEnds start ends (length flat) → rows_between start (ends ++ length (flat ++ row) ∷ []) (flat ++ row) ≡ rows_between start ends flat ++ row ∷ []
rows_between-push start [] flat row e =
    ap (λ r. r ∷ []) (ap (take (length (flat ++ row) - start)) (drop_at flat row start (sym e)) ∙ take_all (length (flat ++ row) - start) row (omega (arith, e, length-append flat row)))
rows_between-push start (end ∷ ends) flat row e =
    let low : start ≤ end = e.0 in
    let high : end ≤ length flat = AreEnds-start end ends (length flat) e.1 in
    let same : take (end - start) (drop start (flat ++ row)) ≡ take (end - start) (drop start flat) =
    ap (take (end - start)) (drop-append-le start flat row (omega arith)) ∙ take-append-le (end - start) (drop start flat) row (omega (arith, length-drop start flat)) in
    let rest = rows_between-push end ends flat row e.1 in
    ap (λ r. r ∷ rows_between end (ends ++ length (flat ++ row) ∷ []) (flat ++ row)) same ∙ ap (λ rs. take (end - start) (drop start flat) ∷ rs) rest

-- the number of a row is the place of its end, and the row lies within the flat list
pub rows_between-fits : (ends flat : List ℕ) (key : ℕ) → AreEnds 0 ends (length flat) → key < length (rows_between 0 ends flat) → (key < length ends) × (get_or (0 ∷ ends) key 0 ≤ get_or ends key 0) × (get_or ends key 0 ≤ length flat)
rows_between-fits ends flat key e h =
    let in_ends : key < length ends = omega (arith, length-rows_between 0 ends flat) in
    let at = AreEnds-at 0 ends (length flat) key in_ends e in
    (in_ends, at.0, at.1)
