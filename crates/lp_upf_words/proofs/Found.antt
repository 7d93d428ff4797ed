-- Each text has its words, up to its end or to where it leaves the form.
use Rattle.std.proofs.Common.{◌≡◌, ℕ, zero, suc, ◌==◌, Bool, true, false, not, ◌&&◌, ◌||◌, List, [], ◌∷◌, ◌++◌, Option, Some, None, refl, sym, ap, ◌∙◌, subst, append_assoc}
use Rattle.std.specs.Prelude.{if◌then◌else◌}
use Rattle.lp_text.specs.Places.{past, past_byte}
use Rattle.lp_text.specs.declared.place.Place.{Place}
use Rattle.lp_upf_words.specs.declared.kind.Kind.{Kind}
use Rattle.lp_upf_words.specs.declared.kind.Kind.TheVariants as kinds
use Rattle.lp_upf_words.specs.declared.mode.Stop.{Stop}
use Rattle.lp_upf_words.specs.declared.mode.Stop.TheVariants as stops
use Rattle.lp_upf_words.specs.Bytes.{is_line_end, is_apart, is_digit, is_end}
use Rattle.lp_upf_words.specs.Words as words
use Rattle.lp_upf_words.specs.Words.{is_plain, are_digits, has_some, Saying, depth_after, nests_on, nests, breaks_at, breaks, Fault, Stand, Fresh, Between, Ended, Behind, takes_word, begins_bare, may_begin, is_glued, Token, Spells}
use Rattle.lp_upf_words.proofs.Again.{in_line}

module _ (kind : ℕ → Kind) where
  -- ---- what a text has

  abbrev pub HasWords : Stand → List ℕ → Type 0
  HasWords s text = (p : Place) → (ts : List Token) × (x : Option Stop) × Spells kind s p text ts x

  -- what stands behind the inside of a bare word or of quotes
  abbrev Closes : Bool → List ℕ → Type 0
  Closes true text = (b : ℕ) × (rest : List ℕ) × (text ≡ b ∷ rest) × (kind b ≡ kinds.Quote) × HasWords Behind rest
  Closes false text = HasWords Ended text

  abbrev Stops : Bool → List ℕ → Type 0
  Stops q text = (p : Place) → (x : Stop) × Fault kind q p text x

  -- the inside of a bare word or of quotes, with a byte of its own where `some` says so
  data Inside (q some : Bool) : List ℕ → Type 0 where
    Whole : (raw said rest : List ℕ) → has_some raw ≡ some → Saying kind q raw said → Closes q rest → Inside q some (raw ++ rest)
    Faulty : (raw said rest : List ℕ) → has_some raw ≡ some → Saying kind q raw said → Stops q rest → Inside q some (raw ++ rest)

  abbrev Insides : Bool → List ℕ → Type 0
  Insides q text = (some : Bool) × Inside q some text

  -- behind a bracket and perhaps digits
  data Indexed (q some : Bool) : List ℕ → Type 0 where
    Holds : (digits : List ℕ) (b : ℕ) (rest : List ℕ) → are_digits kind digits ≡ true → (some || has_some digits) ≡ true → kind b ≡ kinds.CloseBracket → Insides q rest → Indexed q some (digits ++ (b ∷ rest))
    Breaks : (digits rest : List ℕ) → are_digits kind digits ≡ true → breaks kind (some || has_some digits) rest ≡ true → Indexed q some (digits ++ rest)

  -- in braces
  data Braced (d : ℕ) : List ℕ → Type 0 where
    Shut : (inner : List ℕ) (b : ℕ) (rest : List ℕ) → nests kind true d inner ≡ true → kind b ≡ kinds.CloseBrace → HasWords Behind rest → Braced d (inner ++ (b ∷ rest))
    Unshut : (inner : List ℕ) → nests kind false d inner ≡ true → Braced d inner

  -- in a comment
  data Remark : List ℕ → Type 0 where
    Line : (inner : List ℕ) (b : ℕ) (rest : List ℕ) → in_line kind inner ≡ true → is_line_end (kind b) ≡ true → HasWords Fresh rest → Remark (inner ++ (b ∷ rest))
    LastLine : (inner : List ℕ) → in_line kind inner ≡ true → Remark inner

  -- behind a backslash
  data Slashed : List ℕ → Type 0 where
    AtEnd : Slashed []
    Joins : (b : ℕ) (rest : List ℕ) → is_line_end (kind b) ≡ true → HasWords Fresh rest → HasWords Between rest → Slashed (b ∷ rest)
    Takes : (b : ℕ) (rest : List ℕ) → is_line_end (kind b) ≡ false → Insides false rest → Slashed (b ∷ rest)

  record All (text : List ℕ) : Type 0 where
    pub fresh : HasWords Fresh text
    pub between : HasWords Between text
    pub behind : HasWords Behind text
    pub bare : Insides false text
    pub quoted : Insides true text
    pub index : (q : Bool) → Indexed q false text
    pub digits : (q : Bool) → Indexed q true text
    pub braced : (d : ℕ) → Braced d text
    pub remark : Remark text
    pub slashed : Slashed text

  -- ---- one byte more

  plain_more : (q : Bool) (b : ℕ) → is_plain q (kind b) ≡ true → (text : List ℕ) (some : Bool) → Inside q some text → Inside q true (b ∷ text)
  plain_more q b e text some (Whole raw said rest s inner c) = Whole (b ∷ raw) (b ∷ said) rest refl (words.Plain b raw said e inner) c
  plain_more q b e text some (Faulty raw said rest s inner f) = Faulty (b ∷ raw) (b ∷ said) rest refl (words.Plain b raw said e inner) f

  escaped_more : (a b : ℕ) → kind a ≡ kinds.Backslash → is_line_end (kind b) ≡ false → (text : List ℕ) (some : Bool) → Inside false some text → Inside false true (a ∷ (b ∷ text))
  escaped_more a b ea eb text some (Whole raw said rest s inner c) = Whole (a ∷ (b ∷ raw)) (b ∷ said) rest refl (words.Escaped a b raw said refl ea eb inner) c
  escaped_more a b ea eb text some (Faulty raw said rest s inner f) = Faulty (a ∷ (b ∷ raw)) (b ∷ said) rest refl (words.Escaped a b raw said refl ea eb inner) f

  index_more : (q : Bool) (a : ℕ) (digits : List ℕ) (b : ℕ) → kind a ≡ kinds.OpenBracket → are_digits kind digits ≡ true → has_some digits ≡ true → kind b ≡ kinds.CloseBracket
      → (text : List ℕ) (some : Bool) → Inside q some text → Inside q true (a ∷ (digits ++ (b ∷ text)))
  index_more q a digits b ea h sd eb text some (Whole raw said rest s inner c) =
      subst (Inside q true) (ap (λ xs. a ∷ xs) (append_assoc digits (b ∷ raw) rest)) (Whole (a ∷ (digits ++ (b ∷ raw))) (a ∷ (digits ++ (b ∷ said))) rest refl (words.Index a digits b raw said ea h sd eb inner) c)
  index_more q a digits b ea h sd eb text some (Faulty raw said rest s inner f) =
      subst (Inside q true) (ap (λ xs. a ∷ xs) (append_assoc digits (b ∷ raw) rest)) (Faulty (a ∷ (digits ++ (b ∷ raw))) (a ∷ (digits ++ (b ∷ said))) rest refl (words.Index a digits b raw said ea h sd eb inner) f)

  -- a fault right here
  fault_here : (q : Bool) (text : List ℕ) → Stops q text → Insides q text
  fault_here q text f = (false, Faulty [] [] text refl words.Nothing f)

  dollar : (q : Bool) (b : ℕ) (rest : List ℕ) → kind b ≡ kinds.Dollar → Stops q (b ∷ rest)
  dollar q b rest e p = (stops.Dollar p, words.Dollar b rest e)

  bracket : (q : Bool) (b : ℕ) → kind b ≡ kinds.OpenBracket → (rest : List ℕ) → Indexed q false rest → Insides q (b ∷ rest)
  bracket q b e rest (Holds digits c more h s ec inner) = (true, index_more q b digits c e h s ec more inner.0 inner.1)
  bracket q b e rest (Breaks digits more h br) = fault_here q (b ∷ (digits ++ more)) (λ p. (stops.Bracket p, words.Bracket b digits more e h br))

  digit_more : (q some : Bool) (b : ℕ) → is_digit (kind b) ≡ true → (rest : List ℕ) → Indexed q true rest → Indexed q some (b ∷ rest)
  digit_more q true b e rest (Holds digits c more h s ec inner) = Holds (b ∷ digits) c more (ap (λ x. x && are_digits kind digits) e ∙ h) refl ec inner
  digit_more q false b e rest (Holds digits c more h s ec inner) = Holds (b ∷ digits) c more (ap (λ x. x && are_digits kind digits) e ∙ h) refl ec inner
  digit_more q true b e rest (Breaks digits more h br) = Breaks (b ∷ digits) more (ap (λ x. x && are_digits kind digits) e ∙ h) br
  digit_more q false b e rest (Breaks digits more h br) = Breaks (b ∷ digits) more (ap (λ x. x && are_digits kind digits) e ∙ h) br

  braced_more : (d d2 : ℕ) (b : ℕ) → depth_after (kind b) d ≡ Some d2 → (rest : List ℕ) → Braced d2 rest → Braced d (b ∷ rest)
  braced_more d d2 b e rest (Shut inner c more n ec w) = Shut (b ∷ inner) c more (ap (λ o. nests_on (λ f. nests kind true f inner) o) e ∙ n) ec w
  braced_more d d2 b e rest (Unshut inner n) = Unshut (b ∷ inner) (ap (λ o. nests_on (λ f. nests kind false f inner) o) e ∙ n)

  remark_more : (b : ℕ) → is_line_end (kind b) ≡ false → (rest : List ℕ) → Remark rest → Remark (b ∷ rest)
  remark_more b e rest (Line inner c more h ec w) = Line (b ∷ inner) c more (ap (λ x. not x && in_line kind inner) e ∙ h) ec w
  remark_more b e rest (LastLine inner h) = LastLine (b ∷ inner) (ap (λ x. not x && in_line kind inner) e ∙ h)

  -- ---- words where they may begin

  may_first : (s : Stand) (raw rest : List ℕ) → has_some raw ≡ true → may_begin kind s (raw ++ rest) ≡ true → may_begin kind s raw ≡ true
  may_first s [] rest e h = absurd cc
  may_first s (b ∷ raw) rest e h = h

  bare_word : (s : Stand) → takes_word s ≡ true → (text : List ℕ) → may_begin kind s text ≡ true → Inside false true text → HasWords s text
  bare_word s h text may (Whole raw said rest some inner c) p =
      let more = c (past p raw) in
      (_, more.1, words.Bare s p raw said rest more.0 more.1 h some (may_first s raw rest some may) inner more.2)
  bare_word s h text may (Faulty raw said rest some inner f) p =
      let x = f (past p raw) in
      ([], Some x.0, words.InBare s p raw said rest x.0 h (may_first s raw rest some may) inner x.1)

  -- a fault where a word may begin
  first_fault : (s : Stand) → takes_word s ≡ true → (text : List ℕ) → Stops false text → HasWords s text
  first_fault s h text f p = let x = f p in ([], Some x.0, words.InBare s p [] [] text x.0 h refl words.Nothing x.1)

  quoted_word : (s : Stand) → takes_word s ≡ true → (a : ℕ) → kind a ≡ kinds.Quote → (text : List ℕ) (some : Bool) → Inside true some text → HasWords s (a ∷ text)
  quoted_word s h a e text some (Whole raw said rest sr inner c) p =
      let more = c.4 (past p (a ∷ (raw ++ c.0 ∷ []))) in
      subst (λ (xs : List ℕ). (ts : List Token) × (x : Option Stop) × Spells kind s p (a ∷ (raw ++ xs)) ts x) (sym c.2) (_, more.1, words.Quotes s p a raw said c.0 c.1 more.0 more.1 h e inner c.3 more.2)
  quoted_word s h a e text some (Faulty raw said rest sr inner f) p =
      let x = f (past p (a ∷ raw)) in
      ([], Some x.0, words.InQuotes s p a raw said rest x.0 h e inner x.1)

  braced_word : (s : Stand) → takes_word s ≡ true → (a : ℕ) → kind a ≡ kinds.OpenBrace → (text : List ℕ) → Braced 0 text → HasWords s (a ∷ text)
  braced_word s h a e text (Shut inner b rest n eb w) p =
      let more = w (past p (a ∷ (inner ++ b ∷ []))) in
      (_, more.1, words.Braces s p a inner b rest more.0 more.1 h e n eb more.2)
  braced_word s h a e text (Unshut inner n) p = ([], _, words.InBraces s p a inner h e n)

  slashed_word : (s : Stand) → takes_word s ≡ true → (a : ℕ) → kind a ≡ kinds.Backslash → begins_bare s kinds.Backslash ≡ true → ((rest : List ℕ) → HasWords Fresh rest → HasWords Between rest → HasWords (words.apart s) rest)
      → (text : List ℕ) → Slashed text → HasWords s (a ∷ text)
  slashed_word s h a e may choose text AtEnd p = first_fault s h (a ∷ []) (λ q. (_, words.Escape a refl e)) p
  slashed_word s h a e may choose text (Joins b rest eb fresh between) p =
      let more = choose rest fresh between (past p (a ∷ b ∷ [])) in
      (more.0, more.1, words.Join s p a b rest more.0 more.1 e eb more.2)
  slashed_word s h a e may choose text (Takes b rest eb inner) p = bare_word s h (a ∷ (b ∷ rest)) (ap (begins_bare s) e ∙ may) (escaped_more a b e eb rest inner.0 inner.1) p

  bracketed_word : (s : Stand) → takes_word s ≡ true → (a : ℕ) → kind a ≡ kinds.OpenBracket → begins_bare s kinds.OpenBracket ≡ true → (text : List ℕ) → Indexed false false text → HasWords s (a ∷ text)
  bracketed_word s h a e may text (Holds digits c more hd sd ec inner) = bare_word s h (a ∷ (digits ++ (c ∷ more))) (ap (begins_bare s) e ∙ may) (index_more false a digits c e hd sd ec more inner.0 inner.1)
  bracketed_word s h a e may text (Breaks digits more hd br) = first_fault s h (a ∷ (digits ++ more)) (λ p. (_, words.Bracket a digits more e hd br))

  blank : (s : Stand) (b : ℕ) → is_apart (kind b) ≡ true → (rest : List ℕ) → HasWords (words.apart s) rest → HasWords s (b ∷ rest)
  blank s b e rest w p = let more = w (past_byte p b) in (more.0, more.1, words.Blank s p b rest more.0 more.1 e more.2)

  ends : (s : Stand) → words.is_begun s ≡ true → (b : ℕ) → is_end (kind b) ≡ true → (rest : List ℕ) → HasWords Fresh rest → HasWords s (b ∷ rest)
  ends s h b e rest w p = let more = w (past_byte p b) in (_, more.1, words.EndOf s p b rest more.0 more.1 h e more.2)

  idle : (b : ℕ) → is_end (kind b) ≡ true → (rest : List ℕ) → HasWords Fresh rest → HasWords Fresh (b ∷ rest)
  idle b e rest w p = let more = w (past_byte p b) in (more.0, more.1, words.Idle p b rest more.0 more.1 e more.2)

  comment : (a : ℕ) → kind a ≡ kinds.Hash → (text : List ℕ) → Remark text → HasWords Fresh (a ∷ text)
  comment a e text (Line inner b rest h eb w) p =
      let more = w (past p (a ∷ (inner ++ b ∷ []))) in
      (more.0, more.1, words.Comment p a inner b rest more.0 more.1 e h eb more.2)
  comment a e text (LastLine inner h) p = ([], None, words.LastComment p a inner e h)

  plain_word : (s : Stand) → takes_word s ≡ true → (b : ℕ) (k : Kind) → kind b ≡ k → begins_bare s k ≡ true → is_plain false k ≡ true → (rest : List ℕ) → Insides false rest → HasWords s (b ∷ rest)
  plain_word s h b k e may plain rest inner = bare_word s h (b ∷ rest) (ap (begins_bare s) e ∙ may) (plain_more false b (ap (is_plain false) e ∙ plain) rest inner.0 inner.1)

  -- ---- a byte of each kind

  module _ (b : ℕ) (rest : List ℕ) (a : All rest) where
    fresh_at : (k : Kind) → kind b ≡ k → HasWords Fresh (b ∷ rest)
    fresh_at kinds.Blank e = blank Fresh b (ap is_apart e) rest a.fresh
    fresh_at kinds.Feed e = blank Fresh b (ap is_apart e) rest a.fresh
    fresh_at kinds.LineEnd e = idle b (ap is_end e) rest a.fresh
    fresh_at kinds.Semicolon e = idle b (ap is_end e) rest a.fresh
    fresh_at kinds.Hash e = comment b e rest a.remark
    fresh_at kinds.Backslash e = slashed_word Fresh refl b e refl (λ r f g. f) rest a.slashed
    fresh_at kinds.OpenBrace e = braced_word Fresh refl b e rest (a.braced 0)
    fresh_at kinds.Quote e = quoted_word Fresh refl b e rest a.quoted.0 a.quoted.1
    fresh_at kinds.Dollar e = first_fault Fresh refl (b ∷ rest) (dollar false b rest e)
    fresh_at kinds.OpenBracket e = bracketed_word Fresh refl b e refl rest (a.index false)
    fresh_at kinds.CloseBrace e = plain_word Fresh refl b kinds.CloseBrace e refl refl rest a.bare
    fresh_at kinds.CloseBracket e = plain_word Fresh refl b kinds.CloseBracket e refl refl rest a.bare
    fresh_at kinds.Digit e = plain_word Fresh refl b kinds.Digit e refl refl rest a.bare
    fresh_at kinds.Other e = plain_word Fresh refl b kinds.Other e refl refl rest a.bare

    between_at : (k : Kind) → kind b ≡ k → HasWords Between (b ∷ rest)
    between_at kinds.Blank e = blank Between b (ap is_apart e) rest a.between
    between_at kinds.Feed e = blank Between b (ap is_apart e) rest a.between
    between_at kinds.LineEnd e = ends Between refl b (ap is_end e) rest a.fresh
    between_at kinds.Semicolon e = ends Between refl b (ap is_end e) rest a.fresh
    between_at kinds.Hash e = plain_word Between refl b kinds.Hash e refl refl rest a.bare
    between_at kinds.Backslash e = slashed_word Between refl b e refl (λ r f g. g) rest a.slashed
    between_at kinds.OpenBrace e = braced_word Between refl b e rest (a.braced 0)
    between_at kinds.Quote e = quoted_word Between refl b e rest a.quoted.0 a.quoted.1
    between_at kinds.Dollar e = first_fault Between refl (b ∷ rest) (dollar false b rest e)
    between_at kinds.OpenBracket e = bracketed_word Between refl b e refl rest (a.index false)
    between_at kinds.CloseBrace e = plain_word Between refl b kinds.CloseBrace e refl refl rest a.bare
    between_at kinds.CloseBracket e = plain_word Between refl b kinds.CloseBracket e refl refl rest a.bare
    between_at kinds.Digit e = plain_word Between refl b kinds.Digit e refl refl rest a.bare
    between_at kinds.Other e = plain_word Between refl b kinds.Other e refl refl rest a.bare

    glued : is_glued (kind b) ≡ true → HasWords Behind (b ∷ rest)
    glued e p = ([], _, words.Glued p b rest e)

    behind_slash : kind b ≡ kinds.Backslash → (text : List ℕ) → Slashed text → HasWords Behind (b ∷ text)
    behind_slash e text AtEnd p = ([], _, words.LastEscape p b e)
    behind_slash e text (Joins c more ec fresh between) p =
        let w = between (past p (b ∷ c ∷ [])) in
        (w.0, w.1, words.Join Behind p b c more w.0 w.1 e ec w.2)
    behind_slash e text (Takes c more ec inner) p = ([], _, words.GluedEscape p b c more e ec)

    behind_at : (k : Kind) → kind b ≡ k → HasWords Behind (b ∷ rest)
    behind_at kinds.Blank e = blank Behind b (ap is_apart e) rest a.between
    behind_at kinds.Feed e = blank Behind b (ap is_apart e) rest a.between
    behind_at kinds.LineEnd e = ends Behind refl b (ap is_end e) rest a.fresh
    behind_at kinds.Semicolon e = ends Behind refl b (ap is_end e) rest a.fresh
    behind_at kinds.Backslash e = behind_slash e rest a.slashed
    behind_at kinds.Hash e = glued (ap is_glued e)
    behind_at kinds.OpenBrace e = glued (ap is_glued e)
    behind_at kinds.CloseBrace e = glued (ap is_glued e)
    behind_at kinds.Quote e = glued (ap is_glued e)
    behind_at kinds.Dollar e = glued (ap is_glued e)
    behind_at kinds.OpenBracket e = glued (ap is_glued e)
    behind_at kinds.CloseBracket e = glued (ap is_glued e)
    behind_at kinds.Digit e = glued (ap is_glued e)
    behind_at kinds.Other e = glued (ap is_glued e)

    plain_at : (q : Bool) (k : Kind) → kind b ≡ k → is_plain q k ≡ true → Insides q rest → Insides q (b ∷ rest)
    plain_at q k e plain inner = (true, plain_more q b (ap (is_plain q) e ∙ plain) rest inner.0 inner.1)

    ended : HasWords Ended (b ∷ rest) → Insides false (b ∷ rest)
    ended w = (false, Whole [] [] (b ∷ rest) refl words.Nothing w)

    bare_slash : kind b ≡ kinds.Backslash → (text : List ℕ) → Slashed text → Insides false (b ∷ text)
    bare_slash e text AtEnd = fault_here false (b ∷ []) (λ p. (_, words.Escape b refl e))
    bare_slash e text (Joins c more ec fresh between) = (
      false,
      Whole [] [] (b ∷ (c ∷ more)) refl words.Nothing (λ p.
          let w = between (past p (b ∷ c ∷ [])) in
          (w.0, w.1, words.Join Ended p b c more w.0 w.1 e ec w.2)),
    )
    bare_slash e text (Takes c more ec inner) = (true, escaped_more b c e ec more inner.0 inner.1)

    bare_at : (k : Kind) → kind b ≡ k → Insides false (b ∷ rest)
    bare_at kinds.Blank e = ended (blank Ended b (ap is_apart e) rest a.between)
    bare_at kinds.Feed e = ended (blank Ended b (ap is_apart e) rest a.between)
    bare_at kinds.LineEnd e = ended (ends Ended refl b (ap is_end e) rest a.fresh)
    bare_at kinds.Semicolon e = ended (ends Ended refl b (ap is_end e) rest a.fresh)
    bare_at kinds.Backslash e = bare_slash e rest a.slashed
    bare_at kinds.Dollar e = fault_here false (b ∷ rest) (dollar false b rest e)
    bare_at kinds.OpenBracket e = bracket false b e rest (a.index false)
    bare_at kinds.Hash e = plain_at false kinds.Hash e refl a.bare
    bare_at kinds.OpenBrace e = plain_at false kinds.OpenBrace e refl a.bare
    bare_at kinds.CloseBrace e = plain_at false kinds.CloseBrace e refl a.bare
    bare_at kinds.Quote e = plain_at false kinds.Quote e refl a.bare
    bare_at kinds.CloseBracket e = plain_at false kinds.CloseBracket e refl a.bare
    bare_at kinds.Digit e = plain_at false kinds.Digit e refl a.bare
    bare_at kinds.Other e = plain_at false kinds.Other e refl a.bare

    quoted_at : (k : Kind) → kind b ≡ k → Insides true (b ∷ rest)
    quoted_at kinds.Quote e = (false, Whole [] [] (b ∷ rest) refl words.Nothing (b, rest, refl, e, a.behind))
    quoted_at kinds.Dollar e = fault_here true (b ∷ rest) (dollar true b rest e)
    quoted_at kinds.OpenBracket e = bracket true b e rest (a.index true)
    quoted_at kinds.Blank e = plain_at true kinds.Blank e refl a.quoted
    quoted_at kinds.Feed e = plain_at true kinds.Feed e refl a.quoted
    quoted_at kinds.LineEnd e = plain_at true kinds.LineEnd e refl a.quoted
    quoted_at kinds.Semicolon e = plain_at true kinds.Semicolon e refl a.quoted
    quoted_at kinds.Hash e = plain_at true kinds.Hash e refl a.quoted
    quoted_at kinds.Backslash e = plain_at true kinds.Backslash e refl a.quoted
    quoted_at kinds.OpenBrace e = plain_at true kinds.OpenBrace e refl a.quoted
    quoted_at kinds.CloseBrace e = plain_at true kinds.CloseBrace e refl a.quoted
    quoted_at kinds.CloseBracket e = plain_at true kinds.CloseBracket e refl a.quoted
    quoted_at kinds.Digit e = plain_at true kinds.Digit e refl a.quoted
    quoted_at kinds.Other e = plain_at true kinds.Other e refl a.quoted

    broken : (q some : Bool) (k : Kind) → kind b ≡ k → breaks_at some k ≡ true → Indexed q some (b ∷ rest)
    broken q some k e h = Breaks [] (b ∷ rest) refl (by some h)
      where
        by : (some : Bool) → breaks_at some k ≡ true → breaks kind (some || false) (b ∷ rest) ≡ true
        by true h = ap (breaks_at true) e ∙ h
        by false h = ap (breaks_at false) e ∙ h

    index_at : (q some : Bool) (k : Kind) → kind b ≡ k → Indexed q some (b ∷ rest)
    index_at q some kinds.Digit e = digit_more q some b (ap is_digit e) rest (a.digits q)
    index_at true true kinds.CloseBracket e = Holds [] b rest refl refl e a.quoted
    index_at false true kinds.CloseBracket e = Holds [] b rest refl refl e a.bare
    index_at q false kinds.CloseBracket e = broken q false kinds.CloseBracket e refl
    index_at q some kinds.Blank e = broken q some kinds.Blank e refl
    index_at q some kinds.Feed e = broken q some kinds.Feed e refl
    index_at q some kinds.LineEnd e = broken q some kinds.LineEnd e refl
    index_at q some kinds.Semicolon e = broken q some kinds.Semicolon e refl
    index_at q some kinds.Hash e = broken q some kinds.Hash e refl
    index_at q some kinds.Backslash e = broken q some kinds.Backslash e refl
    index_at q some kinds.OpenBrace e = broken q some kinds.OpenBrace e refl
    index_at q some kinds.CloseBrace e = broken q some kinds.CloseBrace e refl
    index_at q some kinds.Quote e = broken q some kinds.Quote e refl
    index_at q some kinds.Dollar e = broken q some kinds.Dollar e refl
    index_at q some kinds.OpenBracket e = broken q some kinds.OpenBracket e refl
    index_at q some kinds.Other e = broken q some kinds.Other e refl

    -- only a closing brace closes the word, and only at depth 0
    closing : (k : Kind) (d : ℕ) → depth_after k d ≡ None → (k ≡ kinds.CloseBrace) × (d ≡ 0)
    closing kinds.CloseBrace zero e = (refl, refl)
    closing kinds.CloseBrace (suc d) e = absurd cc
    closing kinds.OpenBrace d e = absurd cc
    closing kinds.Blank d e = absurd cc
    closing kinds.Feed d e = absurd cc
    closing kinds.LineEnd d e = absurd cc
    closing kinds.Semicolon d e = absurd cc
    closing kinds.Hash d e = absurd cc
    closing kinds.Backslash d e = absurd cc
    closing kinds.Quote d e = absurd cc
    closing kinds.Dollar d e = absurd cc
    closing kinds.OpenBracket d e = absurd cc
    closing kinds.CloseBracket d e = absurd cc
    closing kinds.Digit d e = absurd cc
    closing kinds.Other d e = absurd cc

    braced_at : (d : ℕ) (o : Option ℕ) → depth_after (kind b) d ≡ o → Braced d (b ∷ rest)
    braced_at d None e = let c = closing (kind b) d e in Shut [] b rest (ap (λ x. x == 0) c.1) c.0 a.behind
    braced_at d (Some d2) e = braced_more d d2 b e rest (a.braced d2)

    line_at : (l : Bool) → is_line_end (kind b) ≡ l → Remark (b ∷ rest)
    line_at false e = remark_more b e rest a.remark
    line_at true e = Line [] b rest refl e a.fresh

    taken : (k : Kind) → kind b ≡ k → is_line_end k ≡ false → Slashed (b ∷ rest)
    taken k e h = Takes b rest (ap is_line_end e ∙ h) a.bare

    slashed_at : (k : Kind) → kind b ≡ k → Slashed (b ∷ rest)
    slashed_at kinds.LineEnd e = Joins b rest (ap is_line_end e) a.fresh a.between
    slashed_at kinds.Feed e = Joins b rest (ap is_line_end e) a.fresh a.between
    slashed_at kinds.Blank e = taken kinds.Blank e refl
    slashed_at kinds.Semicolon e = taken kinds.Semicolon e refl
    slashed_at kinds.Hash e = taken kinds.Hash e refl
    slashed_at kinds.Backslash e = taken kinds.Backslash e refl
    slashed_at kinds.OpenBrace e = taken kinds.OpenBrace e refl
    slashed_at kinds.CloseBrace e = taken kinds.CloseBrace e refl
    slashed_at kinds.Quote e = taken kinds.Quote e refl
    slashed_at kinds.Dollar e = taken kinds.Dollar e refl
    slashed_at kinds.OpenBracket e = taken kinds.OpenBracket e refl
    slashed_at kinds.CloseBracket e = taken kinds.CloseBracket e refl
    slashed_at kinds.Digit e = taken kinds.Digit e refl
    slashed_at kinds.Other e = taken kinds.Other e refl

    all_more : All (b ∷ rest)
    all_more = record {
      fresh = fresh_at (kind b) refl;
      between = between_at (kind b) refl;
      behind = behind_at (kind b) refl;
      bare = bare_at (kind b) refl;
      quoted = quoted_at (kind b) refl;
      index = (λ q. index_at q false (kind b) refl);
      digits = (λ q. index_at q true (kind b) refl);
      braced = (λ d. braced_at d (depth_after (kind b) d) refl);
      remark = line_at (is_line_end (kind b)) refl;
      slashed = slashed_at (kind b) refl;
    }

  -- ---- each text

  all_of : (text : List ℕ) → All text
  all_of [] = record {
    fresh = (λ p. ([], None, words.Done p));
    between = (λ p. (_, None, words.DoneIn Between p refl));
    behind = (λ p. (_, None, words.DoneIn Behind p refl));
    bare = (false, Whole [] [] [] refl words.Nothing (λ p. (_, None, words.DoneIn Ended p refl)));
    quoted = (false, Faulty [] [] [] refl words.Nothing (λ p. (stops.Syntax p, words.Unquoted refl)));
    index = (λ q. Breaks [] [] refl refl);
    digits = (λ q. Breaks [] [] refl refl);
    braced = (λ d. Unshut [] refl);
    remark = LastLine [] refl;
    slashed = AtEnd;
  }
  all_of (b ∷ rest) = all_more b rest (all_of rest)

  -- where a command, or a further word of one, may begin
  pub has_words : (fresh : Bool) (text : List ℕ) → HasWords (if fresh then Fresh else Between) text
  has_words true text = (all_of text).fresh
  has_words false text = (all_of text).between
