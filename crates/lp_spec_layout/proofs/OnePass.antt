-- One pass notes the first row for each node.
use Rattle.std.proofs.Common.{◌≡◌, ◌<◌, ◌+◌, ℕ, zero, suc, Bool, true, false, ◌==◌, List, [], ◌∷◌, map, length, get_or, set, refl, sym, ap, ◌∙◌, arith}
use Rattle.std.specs.Prelude.{if◌then◌else◌}
use Rattle.std.specs.List.{list_all}
use Rattle.std.proofs.lemmas.Bool.{true≢false, eqb-true, eq-eqb}
use Rattle.std.proofs.lemmas.List.{length-set, length-map, get_or-set_same, get_or-set_other, get_or_default, same_lists}
use Rattle.lp_model.specs.declared.graph.Source.{Source as SourceRow}
use Rattle.lp_model.specs.declared.graph.Source.TheVariants.{Nothing, Env, Leaf as OfLeaf, Edge as OfEdge}
use Rattle.lp_spec_design.specs.Netlists.{upward}
use Rattle.lp_spec_design.specs.Reads.{one, other, both}
use Rattle.lp_spec_bridge.specs.Noted.{DriveRow, noted_at}
use Rattle.lp_spec_layout.specs.Feeds.{Driver, ByEdge, ByPin, ByOutside, Feed, source_in, edges_behind, rows_from}
use Rattle.lp_spec_layout.specs.OnePass.{or_next, note, note_all, without_sources}

abbrev is_source : SourceRow → Bool
is_source Nothing = false
is_source Env = true
is_source (OfLeaf pin leaf) = true
is_source (OfEdge e) = true

next-nothing : (x : SourceRow) → x ≡ or_next x Nothing
next-nothing Nothing = refl
next-nothing Env = refl
next-nothing (OfLeaf pin leaf) = refl
next-nothing (OfEdge e) = refl

-- a source hides what comes behind it
next-twice : (o x y : SourceRow) → is_source x ≡ true → or_next (or_next o x) y ≡ or_next o x
next-twice Nothing Nothing y h = absurd (true≢false (sym h))
next-twice Nothing Env y h = refl
next-twice Nothing (OfLeaf pin leaf) y h = refl
next-twice Nothing (OfEdge e) y h = refl
next-twice Env x y h = refl
next-twice (OfLeaf pin leaf) x y h = refl
next-twice (OfEdge e) x y h = refl

note-length : (rows : List DriveRow) (sources : List SourceRow) → length (note_all sources rows) ≡ length sources
note-length [] sources = refl
note-length (x ∷ rows) sources = note-length rows (note sources x) ∙ length-set sources x.0 (or_next (get_or sources x.0 Nothing) x.1)

note-at : (rows : List DriveRow) (sources : List SourceRow) (k : ℕ) → list_all (λ (x : DriveRow). is_source x.1) rows ≡ true → k < length sources → get_or (note_all sources rows) k Nothing ≡ or_next (get_or sources k Nothing) (noted_at rows k)
note-at [] sources k h low = next-nothing (get_or sources k Nothing)
note-at (x ∷ rows) sources k h low =
    let size = length-set sources x.0 (or_next (get_or sources x.0 Nothing) x.1) in
    note-at rows (note sources x) k (other (is_source x.1) (list_all (λ (x : DriveRow). is_source x.1) rows) h) (omega (arith, low, size))
    ∙ by (x.0 == k) refl (one (is_source x.1) (list_all (λ (x : DriveRow). is_source x.1) rows) h)
  where
    by : (b : Bool) → (x.0 == k) ≡ b → is_source x.1 ≡ true → or_next (get_or (note sources x) k Nothing) (noted_at rows k) ≡ or_next (get_or sources k Nothing) (if b then x.1 else noted_at rows k)
    by true e is =
        let same : x.0 ≡ k = eqb-true x.0 k e in
        ap (λ n. or_next (get_or (set sources n (or_next (get_or sources n Nothing) x.1)) k Nothing) (noted_at rows k)) same
        ∙ ap (λ o. or_next o (noted_at rows k)) (get_or-set_same sources k (or_next (get_or sources k Nothing) x.1) Nothing low)
        ∙ next-twice (get_or sources k Nothing) x.1 (noted_at rows k) is
    by false e is = ap (λ o. or_next o (noted_at rows k)) (get_or-set_other sources x.0 k (or_next (get_or sources x.0 Nothing) x.1) Nothing (λ same. true≢false (sym (eq-eqb x.0 k (sym same)) ∙ e)))

rows-are-sources : (e : ℕ) (xs : List Feed) → list_all (λ (x : DriveRow). is_source x.1) (rows_from e xs) ≡ true
rows-are-sources e [] = refl
rows-are-sources e (x ∷ xs) = both (is_source (source_in e x.1)) (list_all (λ (x : DriveRow). is_source x.1) (rows_from (edges_behind e x.1) xs)) (by x.1) (rows-are-sources (edges_behind e x.1) xs)
  where
    by : (d : Driver) → is_source (source_in e d) ≡ true
    by (ByEdge f kind) = refl
    by (ByPin pin leaf) = refl
    by ByOutside = refl

upward-length : (n k : ℕ) → length (upward n k) ≡ n
upward-length zero k = refl
upward-length (suc n) k = ap suc (upward-length n (k + 1))

upward-at : {A : Type 0} (g : ℕ → A) (n from k : ℕ) (d : A) → k < n → get_or (map g (upward n from)) k d ≡ g (from + k)
upward-at g zero from k d low = absurd (omega (arith, low))
upward-at g (suc n) from zero d low = let place : from ≡ from + 0 = omega arith in ap g place
upward-at g (suc n) from (suc k) d low = let place : (from + 1) + k ≡ from + suc k = omega arith in upward-at g n (from + 1) k d (omega (arith, low)) ∙ ap g place

pub one-pass : (e : ℕ) (xs : List Feed) (n : ℕ) → note_all (without_sources n) (rows_from e xs) ≡ map (noted_at (rows_from e xs)) (upward n 0)
one-pass e xs n =
    let a = note-length (rows_from e xs) (without_sources n) in
    let b = length-map (upward n 0) (λ k. Nothing) in
    let c = length-map (upward n 0) (noted_at (rows_from e xs)) in
    let d = upward-length n 0 in
    same_lists (note_all (without_sources n) (rows_from e xs)) (map (noted_at (rows_from e xs)) (upward n 0)) (omega (arith, a, b, c))
    (λ k default low.
    let under : k < n = omega (arith, low, a, b, d) in
    let held : k < length (without_sources n) = omega (arith, low, a) in
    let place : 0 + k ≡ k = omega arith in
    get_or_default (note_all (without_sources n) (rows_from e xs)) k default Nothing low
    ∙ note-at (rows_from e xs) (without_sources n) k (rows-are-sources e xs) held
    ∙ ap (λ o. or_next o (noted_at (rows_from e xs) k)) (upward-at (λ k. Nothing) n 0 k Nothing under)
    ∙ ap (noted_at (rows_from e xs)) (sym place)
    ∙ sym (upward-at (noted_at (rows_from e xs)) n 0 k default under))
