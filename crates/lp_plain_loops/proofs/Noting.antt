-- The sources of nets as they are noted one after another: each net has its first.
use Rattle.std.proofs.Common.{◌≡◌, ℕ, ◌+◌, ◌<◌, suc, true, false, not, ◌||◌, cond, List, [], ◌∷◌, ◌++◌, length, Option, None, Some, refl, sym, ap, ◌∙◌, drop, get_or}
use Rattle.std.specs.Prelude.{map, flat_map, replicate, is_some, bytes_eq, slice_set, slice_index_or}
use Rattle.std.specs.Option.{option_map}
use Rattle.std.proofs.lemmas.Bool.{true≢false, and_parts, not-true}
use Rattle.std.proofs.lemmas.List.{drop_more}
use Rattle.lp_text.specs.Texts.{same_text, has_text, place_of, distinct, same_text-true}
use Rattle.lp_spec_design.specs.Keys.{Name}
use Rattle.lp_plain_loops.specs.Rows.{Entry, note_at, note, note_all}

pub note_all-append : (nets : List Name) (found : List (Option (List ℕ))) (es fs : List Entry) → note_all nets found (es ++ fs) ≡ note_all nets (note_all nets found es) fs
note_all-append nets found [] fs = refl
note_all-append nets found (e ∷ es) fs = note_all-append nets (note nets found e) es fs

-- one item more of a list whose items give entries
pub noting-next : {X : Type 0} (nets : List Name) (f : X → List Entry) (xs : List X) (i : ℕ) (d : X) (found after goal_found : List (Option (List ℕ)))
    → i < length xs → after ≡ note_all nets found (f (get_or xs i d)) → note_all nets found (flat_map f (drop i xs)) ≡ goal_found
    → note_all nets after (flat_map f (drop (i + 1) xs)) ≡ goal_found
noting-next nets f xs i d found after goal_found h e before =
    ap (λ g. note_all nets g (flat_map f (drop (i + 1) xs))) e
    ∙ sym (note_all-append nets found (f (get_or xs i d)) (flat_map f (drop (i + 1) xs)))
    ∙ ap (λ rest. note_all nets found (flat_map f rest)) (sym (drop_more xs i d h))
    ∙ before

-- the first entry for a net
abbrev pub or_else : Option (List ℕ) → Option (List ℕ) → Option (List ℕ)
or_else (Some o) other = Some o
or_else None other = other

abbrev pub entry_for : Name → Entry → Option (List ℕ)
entry_for n e = cond (bytes_eq e.0 n) (Some e.1) None

abbrev pub first_for : Name → List Entry → Option (List ℕ)
first_for n [] = None
first_for n (e ∷ more) = or_else (entry_for n e) (first_for n more)

pub or_else-assoc : (a b c : Option (List ℕ)) → or_else (or_else a b) c ≡ or_else a (or_else b c)
or_else-assoc (Some o) b c = refl
or_else-assoc None b c = refl

pub first_for-append : (n : Name) (es fs : List Entry) → first_for n (es ++ fs) ≡ or_else (first_for n es) (first_for n fs)
first_for-append n [] fs = refl
first_for-append n (e ∷ es) fs = ap (or_else (entry_for n e)) (first_for-append n es fs) ∙ sym (or_else-assoc (entry_for n e) (first_for n es) (first_for n fs))

or_else-None : (a : Option (List ℕ)) → or_else a None ≡ a
or_else-None (Some o) = refl
or_else-None None = refl

-- a name that is none of the nets changes none
other-unchanged : (g : Name → Option (List ℕ)) (x : Name) (o : List ℕ) (nets : List Name) → has_text x nets ≡ false → map (λ n. or_else (g n) (entry_for n (x, o))) nets ≡ map g nets
other-unchanged g x o [] h = refl
other-unchanged g x o (n ∷ nets) h =
    elim (same_text x n) as (λ b. (b || has_text x nets) ≡ false → or_else (g n) (cond b (Some o) None) ∷ map (λ m. or_else (g m) (entry_for m (x, o))) nets ≡ g n ∷ map g nets) [
      | true ↦ λ e. absurd (true≢false e)
      | false ↦ λ e. λ i. or_else-None (g n) i ∷ other-unchanged g x o nets e i
    ] h

note_at-behind : (a : Option (List ℕ)) (found : List (Option (List ℕ))) (r : Option ℕ) (o : List ℕ) → note_at (a ∷ found) (option_map suc r) o ≡ a ∷ note_at found r o
note_at-behind a found None o = refl
note_at-behind a found (Some k) o =
    elim (is_some (slice_index_or found k None)) as (λ b. cond b (a ∷ found) (a ∷ slice_set found k (Some o)) ≡ a ∷ cond b found (slice_set found k (Some o))) [ true ↦ refl | false ↦ refl ]

note_at-first : (a : Option (List ℕ)) (found : List (Option (List ℕ))) (o : List ℕ) → note_at (a ∷ found) (Some 0) o ≡ or_else a (Some o) ∷ found
note_at-first None found o = refl
note_at-first (Some p) found o = refl

-- an entry is noted at its net
pub note-map : (nets : List Name) (g : Name → Option (List ℕ)) (e : Entry) → distinct nets ≡ true → note nets (map g nets) e ≡ map (λ n. or_else (g n) (entry_for n e)) nets
note-map [] g e h = refl
note-map (n ∷ nets) g e h =
    let parts = and_parts (not (has_text n nets)) (distinct nets) h in
    let x = e.0 in
    let o = e.1 in
    let found = map g nets in
    elim (same_text x n) as (λ b. same_text x n ≡ b → note_at (g n ∷ found) (cond b (Some 0) (option_map suc (place_of x nets))) o ≡ or_else (g n) (cond b (Some o) None) ∷ map (λ m. or_else (g m) (entry_for m e)) nets) [
      | true ↦ λ s.
          let absent : has_text x nets ≡ false = ap (λ m. has_text m nets) (same_text-true x n s) ∙ not-true (has_text n nets) parts.0 in
          note_at-first (g n) found o ∙ ap (λ rest. or_else (g n) (Some o) ∷ rest) (sym (other-unchanged g x o nets absent))
      | false ↦ λ s.
          note_at-behind (g n) found (place_of x nets) o ∙ (λ i. sym (or_else-None (g n)) i ∷ note-map nets g e parts.1 i)
    ] refl

pub note_all-map : (nets : List Name) (g : Name → Option (List ℕ)) (es : List Entry) → distinct nets ≡ true → note_all nets (map g nets) es ≡ map (λ n. or_else (g n) (first_for n es)) nets
note_all-map nets g [] h = ap (λ f. map f nets) (λ i n. sym (or_else-None (g n)) i)
note_all-map nets g (e ∷ es) h =
    ap (λ found. note_all nets found es) (note-map nets g e h)
    ∙ note_all-map nets (λ n. or_else (g n) (entry_for n e)) es h
    ∙ ap (λ f. map f nets) (λ i n. or_else-assoc (g n) (entry_for n e) (first_for n es) i)

abbrev no_source : Name → Option (List ℕ)
no_source n = None

replicate-map : (nets : List Name) → replicate (length nets) None ≡ map no_source nets
replicate-map [] = refl
replicate-map (n ∷ nets) = ap (λ rest. None ∷ rest) (replicate-map nets)

-- after all entries each net has its first
pub noted-first : (nets : List Name) (es fs : List Entry) → distinct nets ≡ true → note_all nets (note_all nets (replicate (length nets) None) es) fs ≡ map (λ n. first_for n (es ++ fs)) nets
noted-first nets es fs h =
    sym (note_all-append nets (replicate (length nets) None) es fs)
    ∙ ap (λ found. note_all nets found (es ++ fs)) (replicate-map nets)
    ∙ note_all-map nets no_source (es ++ fs) h
