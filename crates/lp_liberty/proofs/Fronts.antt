-- The token that a text begins with is the one that stands there.
use Rattle.std.proofs.Common.{◌≡◌, ℕ, suc, ◌+◌, ◌-◌, ◌==◌, Bool, true, false, not, List, [], ◌∷◌, ◌++◌, ◌&&◌, length, length-append, take, drop, Option, Some, None, refl, sym, ap, ◌∙◌, subst, arith, zero-add, drop-drop}
use Rattle.std.specs.Prelude.{if◌then◌else◌, IsTrue}
use Rattle.std.proofs.lemmas.Bool.{true≢false}
use Rattle.std.proofs.lemmas.List.{take_all}
use Rattle.lp_liberty.specs.declared.mark.Mark.TheVariants as marks
use Rattle.lp_liberty.specs.declared.mark.Sort.TheVariants as sorts
use Rattle.lp_liberty.specs.declared.mark.Gap.TheVariants as modes
use Rattle.lp_liberty.specs.declared.mark.Context.{Context}
use Rattle.lp_liberty.specs.declared.lexed.Lexed.{Lexed}
use Rattle.lp_liberty.specs.Grammar.{Token, Name, Sign}
use Rattle.lp_liberty.specs.Lexing.{gap_start, skip, goes_on, word_end, string_end, string_size, is_word, is_args, is_items, is_glued, mark_of, name_of, word_at, quoted_at, beginning, behind_gap, lexed_at}
use Rattle.lp_liberty.specs.Tokens.{between, token_of}
use Rattle.lp_liberty.specs.Spelling as spelling
use Rattle.lp_liberty.specs.Spelling.{no_close, Gap, begins_gap, ends_word, is_run, are_escaped, escapes, name_token, Front, First}
use Rattle.lp_liberty.proofs.Joined.{conj_left, conj_right}
use Rattle.lp_liberty.proofs.Gaps.{gap_skipped, gap_stops, cut_skipped, stop_at, cut_at}

pub negated : (k : Bool) → not k ≡ true → k ≡ false
negated true e = absurd (true≢false (sym e))
negated false e = refl

drop_front : (xs ys : List ℕ) → drop (length xs) (xs ++ ys) ≡ ys
drop_front [] ys = refl
drop_front (x ∷ xs) ys = drop_front xs ys

take_front : (xs ys : List ℕ) → take (length xs) (xs ++ ys) ≡ xs
take_front [] ys = refl
take_front (x ∷ xs) ys = ap (λ zs. x ∷ zs) (take_front xs ys)

-- ---- runs

run_end : (in_args joining : Bool) (raw rest : List ℕ) (at : ℕ) → IsTrue (is_run in_args joining raw rest) → word_end in_args joining at (raw ++ rest) ≡ at + length raw
run_end in_args joining [] [] at h = omega arith
run_end in_args joining [] (b ∷ rest) at h = rw (negated (goes_on in_args joining b rest) h) (omega arith)
run_end in_args joining (b ∷ raw) rest at h =
    let more : (at + 1) + length raw ≡ at + suc (length raw) = omega arith in
    rw (conj_left (goes_on in_args joining b (raw ++ rest)) (is_run in_args (b == 92) raw rest) h) (run_end in_args (b == 92) raw rest (at + 1) (conj_right (goes_on in_args joining b (raw ++ rest)) (is_run in_args (b == 92) raw rest) h) ∙ more)

string_ends : (escaped : Bool) (inside rest : List ℕ) (at : ℕ) → IsTrue (are_escaped escaped inside) → IsTrue (not (escapes escaped inside)) → string_end escaped at (inside ++ (34 ∷ rest)) ≡ Some (at + length inside)
string_ends escaped [] rest at h e = rw (negated escaped e) (let same : at ≡ at + 0 = omega arith in ap Some same)
string_ends escaped (b ∷ inside) rest at h e =
    let more : (at + 1) + length inside ≡ at + suc (length inside) = omega arith in
    rw (negated ((b == 34) && not escaped) (conj_left (not ((b == 34) && not escaped)) (are_escaped (b == 92) inside) h)) (string_ends (b == 92) inside rest (at + 1) (conj_right (not ((b == 34) && not escaped)) (are_escaped (b == 92) inside) h) e ∙ ap Some more)

string_cut : (escaped : Bool) (inside : List ℕ) (at : ℕ) → IsTrue (are_escaped escaped inside) → string_end escaped at inside ≡ None
string_cut escaped [] at h = refl
string_cut escaped (b ∷ inside) at h =
    rw (negated ((b == 34) && not escaped) (conj_left (not ((b == 34) && not escaped)) (are_escaped (b == 92) inside) h)) (string_cut (b == 92) inside (at + 1) (conj_right (not ((b == 34) && not escaped)) (are_escaped (b == 92) inside) h))

second : {A : Type 0} (q w : Bool) (x y z : A) → q ≡ false → w ≡ true → (if q then x else if w then y else z) ≡ y
second true w x y z e f = absurd (true≢false e)
second false true x y z e f = refl
second false false x y z e f = absurd (true≢false (sym f))

third : {A : Type 0} (q w : Bool) (x y z : A) → q ≡ false → w ≡ false → (if q then x else if w then y else z) ≡ z
third true w x y z e f = absurd (true≢false e)
third false true x y z e f = absurd (true≢false f)
third false false x y z e f = refl

-- ---- one token

-- what a lexed token says of a text
pub record Says (text : List ℕ) (l : Lexed) (start size : ℕ) (token : Option Token) : Type 0 where
  pub starts : l.start ≡ start
  pub sizes : l.size ≡ size
  pub tokens : token_of text l l.sort ≡ token

named : (text : List ℕ) (start size from end : ℕ) (c : Context) (gap quoted : Bool) (bytes : List ℕ) → between text from end ≡ bytes
    → Says text (record { start = start; size = size; from = from; «to» = end; sort = if is_glued c gap then sorts.Mark marks.Broken else if quoted then sorts.Quoted else sorts.Word }) start size (Some (name_token c gap quoted bytes))
named text start size from end c gap quoted bytes e = record { starts = refl; sizes = refl; tokens = by (is_glued c gap) quoted }
  where
    by : (g q : Bool) → token_of text (record { start = start; size = size; from = from; «to» = end; sort = if g then sorts.Mark marks.Broken else if q then sorts.Quoted else sorts.Word }) (if g then sorts.Mark marks.Broken else if q then sorts.Quoted else sorts.Word) ≡ Some (if g then Sign marks.Broken else Name q (name_of bytes))
    by true q = refl
    by false true = ap (λ bs. Some (Name true (name_of bs))) e
    by false false = ap (λ bs. Some (Name false (name_of bs))) e

abbrev marked : ℕ → ℕ → Lexed
marked start b = record { start = start; size = 1; from = start; «to» = start; sort = sorts.Mark (mark_of b) }

front_says : (c : Context) (gap : Bool) (rest : List ℕ) (size : ℕ) (token : Option Token) → Front c gap rest size token → (text : List ℕ) (start : ℕ) → drop start text ≡ rest → Says text (beginning c gap start rest) start size token
front_says c gap rest size token spelling.Ended text start cut = record { starts = refl; sizes = refl; tokens = refl }
front_says c gap rest size token (spelling.Word b raw behind no_quote word run) text start cut =
    let whole = (b ∷ raw) ++ behind in
    let n = length (b ∷ raw) in
    let ends : word_end (is_args c) false 0 whole ≡ n = run_end (is_args c) false (b ∷ raw) behind 0 run ∙ zero-add n in
    let size_of : start + n - start ≡ n = omega arith in
    let bytes : between text start (start + n) ≡ b ∷ raw = ap (λ k. take k (drop start text)) size_of ∙ ap (take n) cut ∙ take_front (b ∷ raw) behind in
    let plain : beginning c gap start whole ≡ record { start = start; size = n; from = start; «to» = start + n; sort = if is_glued c gap then sorts.Mark marks.Broken else sorts.Word } =
    second (b == 34) (is_word (is_args c) b) (quoted_at c gap start (raw ++ behind)) (word_at c gap start whole) (marked start b) (negated (b == 34) no_quote) word ∙ (ap (λ (k : ℕ). record { start = start; size = k; from = start; «to» = start + k; sort = if is_glued c gap then sorts.Mark marks.Broken else sorts.Word }) ends) in
    subst (λ (l : Lexed). Says text l start n (Some (name_token c gap false (b ∷ raw)))) (sym plain) (named text start n start (start + n) c gap false (b ∷ raw) bytes)
front_says c gap rest size token (spelling.Quoted inside behind escaped ends) text start cut =
    let n = length inside in
    let stops : string_end false 0 (inside ++ (34 ∷ behind)) ≡ Some n = string_ends false inside behind 0 escaped ends ∙ ap Some (zero-add n) in
    let bytes : between text (start + 1) (start + 1 + n) ≡ inside = (let k : start + 1 + n - (start + 1) ≡ n = omega arith in ap (λ k. take k (drop (start + 1) text)) k) ∙ ap (take n) (sym (drop-drop 1 start text) ∙ ap (drop 1) cut) ∙ take_front inside (34 ∷ behind) in
    let plain : beginning c gap start (34 ∷ (inside ++ (34 ∷ behind))) ≡ record { start = start; size = n + 2; from = start + 1; «to» = start + 1 + n; sort = if is_glued c gap then sorts.Mark marks.Broken else sorts.Quoted } =
    ap (λ (o : Option ℕ). record { start = start; size = (string_size (inside ++ (34 ∷ behind)) o).1; from = start + 1; «to» = start + 1 + (string_size (inside ++ (34 ∷ behind)) o).0; sort = if is_glued c gap then sorts.Mark marks.Broken else sorts.Quoted }) stops in
    subst (λ (l : Lexed). Says text l start (n + 2) (Some (name_token c gap true inside))) (sym plain) (named text start (n + 2) (start + 1) (start + 1 + n) c gap true inside bytes)
front_says c gap rest size token (spelling.Cut inside escaped) text start cut =
    let n = length inside in
    let stops : string_end false 0 inside ≡ None = string_cut false inside 0 escaped in
    let bytes : between text (start + 1) (start + 1 + n) ≡ inside = (let k : start + 1 + n - (start + 1) ≡ n = omega arith in ap (λ k. take k (drop (start + 1) text)) k) ∙ ap (take n) (sym (drop-drop 1 start text) ∙ ap (drop 1) cut) ∙ take_all n inside (omega arith) in
    let plain : beginning c gap start (34 ∷ inside) ≡ record { start = start; size = n + 1; from = start + 1; «to» = start + 1 + n; sort = if is_glued c gap then sorts.Mark marks.Broken else sorts.Quoted } =
    ap (λ (o : Option ℕ). record { start = start; size = (string_size inside o).1; from = start + 1; «to» = start + 1 + (string_size inside o).0; sort = if is_glued c gap then sorts.Mark marks.Broken else sorts.Quoted }) stops in
    subst (λ (l : Lexed). Says text l start (n + 1) (Some (name_token c gap true inside))) (sym plain) (named text start (n + 1) (start + 1) (start + 1 + n) c gap true inside bytes)
front_says c gap rest size token (spelling.Marked b behind no_quote no_word) text start cut =
    let plain : beginning c gap start (b ∷ behind) ≡ record { start = start; size = 1; from = start; «to» = start; sort = sorts.Mark (mark_of b) } = third (b == 34) (is_word (is_args c) b) (quoted_at c gap start behind) (word_at c gap start (b ∷ behind)) (marked start b) (negated (b == 34) no_quote) (negated (is_word (is_args c) b) no_word) in
    subst (λ (l : Lexed). Says text l start 1 (Some (Sign (mark_of b)))) (sym plain) (record { starts = refl; sizes = refl; tokens = refl })

-- what is read is what stands there
pub first_says : (c : Context) (text : List ℕ) (start size : ℕ) (token : Option Token) → First c text start size token → Says text (lexed_at c text) start size token
first_says c text start size token (spelling.Behind gap rest s n t g stop front) =
    let k = length gap in
    let skipped : skip (is_items c) gap_start 0 (gap ++ rest) ≡ stop_at k s =
    gap_skipped (is_items c) gap s g rest false 0 ∙ ap (λ n. skip (is_items c) (modes.Plain s) n rest) (zero-add k) ∙ gap_stops (is_items c) rest s k stop in
    let there : drop k (gap ++ rest) ≡ rest = drop_front gap rest in
    let same : lexed_at c (gap ++ rest) ≡ beginning c s k rest = ap (behind_gap c (gap ++ rest)) skipped ∙ ap (beginning c s k) there in
    subst (λ (l : Lexed). Says (gap ++ rest) l k n t) (sym same) (front_says c s rest n t front (gap ++ rest) k there)
first_says c text start size token (spelling.InComment gap body s g open_body) =
    let k = length gap in
    let whole = gap ++ (47 ∷ (42 ∷ body)) in
    let size_of : ((k + 1) + 1) + length body ≡ length whole = (let parts = length-append gap (47 ∷ (42 ∷ body)) in omega arith) in
    let skipped : skip (is_items c) gap_start 0 whole ≡ cut_at (length whole) =
    gap_skipped (is_items c) gap s g (47 ∷ (42 ∷ body)) false 0 ∙ ap (λ n. skip (is_items c) (modes.Plain s) n (47 ∷ (42 ∷ body))) (zero-add k) ∙ cut_skipped (is_items c) body ((k + 1) + 1) open_body ∙ ap cut_at size_of in
    subst (λ (l : Lexed). Says whole l (length whole) 0 (Some (Sign marks.Broken))) (sym (ap (behind_gap c whole) skipped)) (record { starts = refl; sizes = refl; tokens = refl })
