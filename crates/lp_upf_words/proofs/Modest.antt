-- The words of a text that a file may have, and the elements of its words.
use Rattle.std.proofs.Common.{◌≡◌, ℕ, suc, ◌+◌, ◌<◌, ◌≤◌, ◌&&◌, true, List, [], ◌∷◌, Result, Ok, Err, None, length, refl, sym, subst, arith, get_or}
use Rattle.std.specs.Prelude.{IfOk, nat_le, ltb}
use Rattle.std.specs.List.{list_all}
use Rattle.std.proofs.lemmas.Bool.{and_parts, leb-true, lt-ltb}
use Rattle.lp_text.specs.declared.shelf.TheConstants.{LIMIT}
use Rattle.lp_text.specs.Places as places
use Rattle.lp_model.specs.CommandsView.{WordView}
use Rattle.lp_upf_words.specs.declared.answer.WordsRead.{WordsRead}
use Rattle.lp_upf_words.specs.Answer.{ReadsWords, gathered_in}
use Rattle.lp_upf_words.specs.Bytes.{kind_of, list_kind_of}
use Rattle.lp_upf_words.specs.Elements.{content_of, elements_of, inside_place, words_in, words_of}
use Rattle.lp_upf_words.specs.Sizes.{AreModest, is_short, is_within}
use Rattle.lp_upf_words.specs.Words.{Between, Denotes, Fresh, Outcome, none_yet, with_tokens}
use Rattle.lp_upf_words.proofs.Once.{read_denotes_list}
use Rattle.lp_upf_words.proofs.Sizes.{after_bytes, are_bytes, both, fits, gathers}

modest : (text : List ℕ) (o : Outcome) → are_bytes text ≡ true → length text ≤ LIMIT → Denotes text o → AreModest text o.gathered
modest text o h small d =
    let f = fits kind_of LIMIT (LIMIT + 1) Fresh places.start text d.tokens d.stop d.spelled (record { bytes = h; len = small; line = omega arith; column = omega arith }) in
    let g = gathers LIMIT (LIMIT + 1) d.tokens none_yet 0 (record { commands = refl; words = refl; together = omega arith }) f.within in
    let few = f.few in
    let together = g.together in
    subst (λ (x : Outcome). AreModest text x.gathered) (sym d.is) (record { commands = g.commands; words = g.words; together = omega arith })

-- items of a slice of bytes
pub bytes_all : (text : List ℕ) → ((k : ℕ) → get_or text k 0 < 256) → are_bytes text ≡ true
bytes_all [] h = refl
bytes_all (b ∷ text) h = both (ltb b 256) (are_bytes text) (lt-ltb b 256 (h 0)) (bytes_all text (λ k. h (suc k)))

pub modest_read : {E : Type 0} (text : List ℕ) (names : List (List ℕ)) (r : Result WordsRead E) → are_bytes text ≡ true → length text ≤ LIMIT → IfOk r (ReadsWords text names) → IfOk r (λ w. AreModest text (gathered_in names w))
modest_read text names (Err e) h small ok = tt
modest_read text names (Ok w) h small ok = modest text _ h small ok.denotes

-- ---- elements

shorter : (m n : ℕ) (ws : List WordView) → list_all (is_within m n) ws ≡ true → list_all (λ v. nat_le (length (content_of v)) m) ws ≡ true
shorter m n [] h = refl
shorter m n (w ∷ ws) h =
    let two = and_parts (is_within m n w) (list_all (is_within m n) ws) h in
    let one = and_parts (nat_le (length (content_of w)) m) (nat_le w.place.line n && nat_le w.place.column n) two.0 in
    both (nat_le (length (content_of w)) m) (list_all (λ v. nat_le (length (content_of v)) m) ws) one.0 (shorter m n ws two.1)

within : (m n : ℕ) (lines : List (List WordView)) (open_ones : List WordView) → list_all (list_all (is_within m n)) lines ≡ true → list_all (is_within m n) open_ones ≡ true → list_all (is_within m n) (words_in lines open_ones) ≡ true
within m n [] open_ones h k = k
within m n (line ∷ lines) open_ones h k = (and_parts (list_all (is_within m n) line) (list_all (list_all (is_within m n)) lines) h).0

pub elements_short : (w : WordView) → is_short w ≡ true → list_all is_short (words_of (elements_of w)) ≡ true
elements_short w h =
    let p = inside_place w in
    let content = content_of w in
    let n = p.line + p.column + length content in
    let small = leb-true (length content) LIMIT h in
    let d = read_denotes_list p content in
    let f = fits list_kind_of LIMIT n Between p content d.tokens d.stop d.spelled (record { bytes = after_bytes None w.text; len = small; line = omega arith; column = omega arith }) in
    let o = with_tokens none_yet d.tokens in
    let g = gathers LIMIT n d.tokens none_yet 0 (record { commands = refl; words = refl; together = omega arith }) f.within in
    subst (λ (x : Outcome). list_all is_short (words_of x) ≡ true) (sym d.is) (shorter LIMIT n (words_in o.commands o.words) (within LIMIT n o.commands o.words g.commands g.words))
