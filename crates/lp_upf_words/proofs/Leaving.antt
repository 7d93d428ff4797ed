-- The reader stops where the text leaves the form of words.
use Rattle.std.proofs.Common.{◌≡◌, ◌⊎◌, inl, inr, ℕ, zero, suc, ◌≤◌, Bool, true, false, ◌&&◌, List, [], ◌∷◌, ◌++◌, length, take, drop, Option, Some, None, refl, sym, ap, ◌∙◌, subst, arith, append_assoc}
use Rattle.std.specs.Prelude.{option_and_then, is_none, encode_utf8}
use Rattle.std.proofs.lemmas.List.{append-nil}
use Rattle.std.proofs.lemmas.List.Folds.{list_all-append}
use Rattle.lp_spec_place.specs.Machines.{steps, Stops, Recognizes, Finishes, leaves}
use Rattle.lp_text.specs.Places as places
use Rattle.lp_text.specs.Places.{past, past_byte}
use Rattle.lp_text.specs.declared.place.Place.{Place}
use Rattle.lp_upf_words.specs.declared.kind.Kind.{Kind}
use Rattle.lp_upf_words.specs.declared.kind.Kind.TheVariants as kinds
use Rattle.lp_upf_words.specs.declared.mode.Mode.{Mode}
use Rattle.lp_upf_words.specs.declared.mode.Mode.TheVariants as modes
use Rattle.lp_upf_words.specs.declared.mode.Stop.{Stop}
use Rattle.lp_upf_words.specs.declared.mode.Stop.TheVariants as stops
use Rattle.lp_upf_words.specs.declared.mode.Action.{Action}
use Rattle.lp_upf_words.specs.declared.mode.Action.TheVariants.{Turn, Say, Open, Begin, Close, End, CloseEnd}
use Rattle.lp_upf_words.specs.declared.mode.Action.TheVariants as actions
use Rattle.lp_upf_words.specs.Bytes.{kind_of, is_digit}
use Rattle.lp_upf_words.specs.Words.{are_digits, depth_after, Fresh, Spells, Gathered, none_yet, Outcome, Denotes}
use Rattle.lp_upf_words.specs.Reading.{braces_on, decide, State, start, applied, step, finished, stopped_or, read}
use Rattle.lp_upf_words.specs.Leaving.{IsWhole, place_of, is_part_by, is_part, LeavesAt}
use Rattle.lp_upf_words.proofs.Again.{at_mode, past-append, again}
use Rattle.lp_upf_words.proofs.Once.{as_read, read_denotes}

-- ---- the reader as a machine

abbrev taken_by : State → Option Stop → Option State
taken_by s None = Some s
taken_by s (Some x) = None

abbrev byte_step : State → ℕ → Option State
byte_step s b = taken_by (step kind_of s b).state (step kind_of s b).stop

abbrev accepts : State → Bool
accepts s = is_none (finished s).stop

-- a text that is taken is read to its end
along : (s : State) (text : List ℕ) (u : State) → steps byte_step s text ≡ Some u → read kind_of s text ≡ finished u
along s [] u e = let same : s ≡ u = cc in ap finished same
along s (b ∷ text) u e = by (step kind_of s b).stop refl (along (step kind_of s b).state text u)
  where
    by : (o : Option Stop) → (step kind_of s b).stop ≡ o → (steps byte_step (step kind_of s b).state text ≡ Some u → read kind_of (step kind_of s b).state text ≡ finished u) → read kind_of s (b ∷ text) ≡ finished u
    by None h more =
        ap (λ o. stopped_or (λ n. read kind_of n text) (step kind_of s b).state o) h
        ∙ more (sym (ap (λ o. option_and_then (λ v. steps byte_step v text) (taken_by (step kind_of s b).state o)) h) ∙ e)
    by (Some x) h more = let gone : None ≡ Some u = sym (ap (λ o. option_and_then (λ v. steps byte_step v text) (taken_by (step kind_of s b).state o)) h) ∙ e in absurd cc

abbrev Accepted : State → List ℕ → Type 0
Accepted s text = (u : State) × (steps byte_step s text ≡ Some u) × (accepts u ≡ true)

-- a text that is read to its end is taken
whole : (s : State) (text : List ℕ) → (read kind_of s text).stop ≡ None → Accepted s text
whole s [] e = (s, refl, ap is_none e)
whole s (b ∷ text) e = by (step kind_of s b).stop refl (whole (step kind_of s b).state text)
  where
    by : (o : Option Stop) → (step kind_of s b).stop ≡ o → ((read kind_of (step kind_of s b).state text).stop ≡ None → Accepted (step kind_of s b).state text) → Accepted s (b ∷ text)
    by None h more =
        let w = more (sym (ap (λ o. (stopped_or (λ n. read kind_of n text) (step kind_of s b).state o).stop) h) ∙ e) in
        (w.0, ap (λ o. option_and_then (λ v. steps byte_step v text) (taken_by (step kind_of s b).state o)) h ∙ w.1, w.2)
    by (Some x) h more = let gone : Some x ≡ None = sym (ap (λ o. (stopped_or (λ n. read kind_of n text) (step kind_of s b).state o).stop) h) ∙ e in absurd cc

abbrev StopsBy : State → List ℕ → Stop → Type 0
StopsBy s [] x = (finished s).stop ≡ Some x
StopsBy s (b ∷ rest) x = (step kind_of s b).stop ≡ Some x

abbrev StopsSome : State → List ℕ → Stop → Type 0
StopsSome s text x = (index : ℕ) × (u : State) × (index ≤ length text) × (steps byte_step s (take index text) ≡ Some u) × StopsBy u (drop index text) x

-- where a text is not read to its end
stopping : (s : State) (text : List ℕ) (x : Stop) → (read kind_of s text).stop ≡ Some x → StopsSome s text x
stopping s [] x e = (0, s, omega arith, refl, e)
stopping s (b ∷ text) x e = by (step kind_of s b).stop refl (stopping (step kind_of s b).state text x)
  where
    by : (o : Option Stop) → (step kind_of s b).stop ≡ o → ((read kind_of (step kind_of s b).state text).stop ≡ Some x → StopsSome (step kind_of s b).state text x) → StopsSome s (b ∷ text) x
    by None h more =
        let w = more (sym (ap (λ o. (stopped_or (λ n. read kind_of n text) (step kind_of s b).state o).stop) h) ∙ e) in
        (suc w.0, w.1, omega (arith, w.2), ap (λ o. option_and_then (λ v. steps byte_step v (take w.0 text)) (taken_by (step kind_of s b).state o)) h ∙ w.3, w.4)
    by (Some y) h more = (0, s, omega arith, refl, h ∙ sym (ap (λ o. (stopped_or (λ n. read kind_of n text) (step kind_of s b).state o).stop) h) ∙ e)

-- ---- the machine finds, reads again and can be led to the end

found : (text : List ℕ) (s : State) → steps byte_step start text ≡ Some s → accepts s ≡ true → IsWhole text
found text s e a = by (read_denotes text).stop refl
  where
    d : Denotes text (read kind_of start text)
    d = read_denotes text

    none : (o : Option Stop) → is_none o ≡ true → o ≡ None
    none None h = refl
    none (Some x) h = absurd cc

    by : (o : Option Stop) → d.stop ≡ o → IsWhole text
    by None h = (d.tokens, subst (λ (o : Option Stop). Spells kind_of Fresh places.start text d.tokens o) h d.spelled)
    by (Some x) h =
        let stopped : (read kind_of start text).stop ≡ Some x = ap (λ (o : Outcome). o.stop) d.is ∙ h in
        let ended : (read kind_of start text).stop ≡ None = ap (λ (o : Outcome). o.stop) (along start text s e) ∙ none (finished s).stop a in
        let gone : Some x ≡ None = sym stopped ∙ ended in
        absurd cc

reads : (text : List ℕ) → IsWhole text → Accepted start text
reads text w = whole start text (ap (λ (o : Outcome). o.stop) (again kind_of Fresh places.start text w.0 None w.1 [] places.start none_yet))

abbrev CanEnd : State → Type 0
CanEnd s = (rest : List ℕ) × (u : State) × (steps byte_step s rest ≡ Some u) × (accepts u ≡ true)

led_braces : (d : ℕ) (t : List ℕ) (begun p : Place) (g : Gathered) → CanEnd (at_mode (modes.Braces d) t begun p g)
led_braces zero t begun p g = (125 ∷ [], _, refl, refl)
led_braces (suc d) t begun p g =
    let more = led_braces d (t ++ encode_utf8 125) begun (past_byte p 125) g in
    (125 ∷ more.0, more.1, more.2, more.3)

led : (m : Mode) (t : List ℕ) (begun p : Place) (g : Gathered) → CanEnd (at_mode m t begun p g)
led (modes.Gap true) t begun p g = ([], _, refl, refl)
led (modes.Gap false) t begun p g = ([], _, refl, refl)
led (modes.Slash true) t begun p g = (10 ∷ [], _, refl, refl)
led (modes.Slash false) t begun p g = (10 ∷ [], _, refl, refl)
led modes.Comment t begun p g = ([], _, refl, refl)
led modes.Bare t begun p g = ([], _, refl, refl)
led modes.Escape t begun p g = (10 ∷ [], _, refl, refl)
led (modes.Index true true at) t begun p g = (93 ∷ 34 ∷ [], _, refl, refl)
led (modes.Index true false at) t begun p g = (48 ∷ 93 ∷ 34 ∷ [], _, refl, refl)
led (modes.Index false true at) t begun p g = (93 ∷ [], _, refl, refl)
led (modes.Index false false at) t begun p g = (48 ∷ 93 ∷ [], _, refl, refl)
led (modes.Braces d) t begun p g = led_braces d t begun p g
led modes.Quotes t begun p g = (34 ∷ [], _, refl, refl)
led modes.Behind t begun p g = ([], _, refl, refl)
led (modes.BehindSlash at) t begun p g = (10 ∷ [], _, refl, refl)

recognizes : Recognizes byte_step accepts start IsWhole
recognizes = record { found = found; again = reads }

finishes : Finishes byte_step accepts start (λ s. Unit {0})
finishes = record { begins = tt; keeps = (λ s b u good e. tt); ends = (λ s good. led s.mode s.said s.begun s.here s.gathered) }

stops_there : (u : State) (rest : List ℕ) (x : Stop) → StopsBy u rest x → Stops byte_step accepts u rest
stops_there u [] x h = ap is_none h
stops_there u (b ∷ rest) x h = ap (λ o. taken_by (step kind_of u b).state o) h

-- ---- the token to which the byte belongs

-- what was read of it, by the mode
abbrev Marked : List ℕ → Mode → Type 0
Marked front (modes.Index q some at) = (f : List ℕ) × (b : ℕ) × (digits : List ℕ) × (front ≡ f ++ (b ∷ digits)) × (kind_of b ≡ kinds.OpenBracket) × (are_digits kind_of digits ≡ true) × (at ≡ past places.start f)
Marked front (modes.BehindSlash at) = (f : List ℕ) × (b : ℕ) × (front ≡ f ++ b ∷ []) × (kind_of b ≡ kinds.Backslash) × (at ≡ past places.start f)
Marked front (modes.Gap fresh) = Unit {0}
Marked front (modes.Slash fresh) = Unit {0}
Marked front modes.Comment = Unit {0}
Marked front modes.Bare = Unit {0}
Marked front modes.Escape = Unit {0}
Marked front (modes.Braces d) = Unit {0}
Marked front modes.Quotes = Unit {0}
Marked front modes.Behind = Unit {0}

module _ (front : List ℕ) (b : ℕ) (t : List ℕ) (begun p : Place) (g : Gathered) (here : p ≡ past places.start front) where
  abbrev KeepsMark : Mode → Kind → Type 0
  KeepsMark m k = (applied (decide m p k) b (at_mode m t begun p g)).stop ≡ None → Marked (front ++ b ∷ []) (applied (decide m p k) b (at_mode m t begun p g)).state.mode

  opened : kind_of b ≡ kinds.OpenBracket → (q : Bool) → Marked (front ++ b ∷ []) (modes.Index q false p)
  opened e q = (front, b, [], refl, e, refl, here)

  more_digits : (q some : Bool) (at : Place) → kind_of b ≡ kinds.Digit → Marked front (modes.Index q some at) → Marked (front ++ b ∷ []) (modes.Index q true at)
  more_digits q some at e m =
      let digit : are_digits kind_of (b ∷ []) ≡ true = ap (λ k. is_digit k && true) e in
      (m.0, m.1, m.2 ++ b ∷ [], ap (λ xs. xs ++ b ∷ []) m.3 ∙ append_assoc m.0 (m.1 ∷ m.2) (b ∷ []), m.4, list_all-append (λ c. is_digit (kind_of c)) m.2 (b ∷ []) ∙ ap (λ c. c && are_digits kind_of (b ∷ [])) m.5 ∙ digit, m.6)

  next_braces : (d : ℕ) (o : Option ℕ) → (applied (braces_on o) b (at_mode (modes.Braces d) t begun p g)).stop ≡ None → Marked (front ++ b ∷ []) (applied (braces_on o) b (at_mode (modes.Braces d) t begun p g)).state.mode
  next_braces d None h = tt
  next_braces d (Some d2) h = tt

  next : (m : Mode) (k : Kind) → kind_of b ≡ k → Marked front m → KeepsMark m k
  next (modes.Gap true) kinds.Blank e m h = tt
  next (modes.Gap true) kinds.Feed e m h = tt
  next (modes.Gap true) kinds.LineEnd e m h = tt
  next (modes.Gap true) kinds.Semicolon e m h = tt
  next (modes.Gap true) kinds.Hash e m h = tt
  next (modes.Gap true) kinds.Backslash e m h = tt
  next (modes.Gap true) kinds.OpenBrace e m h = tt
  next (modes.Gap true) kinds.CloseBrace e m h = tt
  next (modes.Gap true) kinds.Quote e m h = tt
  next (modes.Gap true) kinds.Dollar e m h = absurd cc
  next (modes.Gap true) kinds.OpenBracket e m h = opened e false
  next (modes.Gap true) kinds.CloseBracket e m h = tt
  next (modes.Gap true) kinds.Digit e m h = tt
  next (modes.Gap true) kinds.Other e m h = tt
  next (modes.Gap false) kinds.Blank e m h = tt
  next (modes.Gap false) kinds.Feed e m h = tt
  next (modes.Gap false) kinds.LineEnd e m h = tt
  next (modes.Gap false) kinds.Semicolon e m h = tt
  next (modes.Gap false) kinds.Hash e m h = tt
  next (modes.Gap false) kinds.Backslash e m h = tt
  next (modes.Gap false) kinds.OpenBrace e m h = tt
  next (modes.Gap false) kinds.CloseBrace e m h = tt
  next (modes.Gap false) kinds.Quote e m h = tt
  next (modes.Gap false) kinds.Dollar e m h = absurd cc
  next (modes.Gap false) kinds.OpenBracket e m h = opened e false
  next (modes.Gap false) kinds.CloseBracket e m h = tt
  next (modes.Gap false) kinds.Digit e m h = tt
  next (modes.Gap false) kinds.Other e m h = tt
  next (modes.Slash fresh) kinds.Blank e m h = tt
  next (modes.Slash fresh) kinds.Feed e m h = tt
  next (modes.Slash fresh) kinds.LineEnd e m h = tt
  next (modes.Slash fresh) kinds.Semicolon e m h = tt
  next (modes.Slash fresh) kinds.Hash e m h = tt
  next (modes.Slash fresh) kinds.Backslash e m h = tt
  next (modes.Slash fresh) kinds.OpenBrace e m h = tt
  next (modes.Slash fresh) kinds.CloseBrace e m h = tt
  next (modes.Slash fresh) kinds.Quote e m h = tt
  next (modes.Slash fresh) kinds.Dollar e m h = tt
  next (modes.Slash fresh) kinds.OpenBracket e m h = tt
  next (modes.Slash fresh) kinds.CloseBracket e m h = tt
  next (modes.Slash fresh) kinds.Digit e m h = tt
  next (modes.Slash fresh) kinds.Other e m h = tt
  next modes.Comment kinds.Blank e m h = tt
  next modes.Comment kinds.Feed e m h = tt
  next modes.Comment kinds.LineEnd e m h = tt
  next modes.Comment kinds.Semicolon e m h = tt
  next modes.Comment kinds.Hash e m h = tt
  next modes.Comment kinds.Backslash e m h = tt
  next modes.Comment kinds.OpenBrace e m h = tt
  next modes.Comment kinds.CloseBrace e m h = tt
  next modes.Comment kinds.Quote e m h = tt
  next modes.Comment kinds.Dollar e m h = tt
  next modes.Comment kinds.OpenBracket e m h = tt
  next modes.Comment kinds.CloseBracket e m h = tt
  next modes.Comment kinds.Digit e m h = tt
  next modes.Comment kinds.Other e m h = tt
  next modes.Bare kinds.Blank e m h = tt
  next modes.Bare kinds.Feed e m h = tt
  next modes.Bare kinds.LineEnd e m h = tt
  next modes.Bare kinds.Semicolon e m h = tt
  next modes.Bare kinds.Hash e m h = tt
  next modes.Bare kinds.Backslash e m h = tt
  next modes.Bare kinds.OpenBrace e m h = tt
  next modes.Bare kinds.CloseBrace e m h = tt
  next modes.Bare kinds.Quote e m h = tt
  next modes.Bare kinds.Dollar e m h = absurd cc
  next modes.Bare kinds.OpenBracket e m h = opened e false
  next modes.Bare kinds.CloseBracket e m h = tt
  next modes.Bare kinds.Digit e m h = tt
  next modes.Bare kinds.Other e m h = tt
  next modes.Escape kinds.Blank e m h = tt
  next modes.Escape kinds.Feed e m h = tt
  next modes.Escape kinds.LineEnd e m h = tt
  next modes.Escape kinds.Semicolon e m h = tt
  next modes.Escape kinds.Hash e m h = tt
  next modes.Escape kinds.Backslash e m h = tt
  next modes.Escape kinds.OpenBrace e m h = tt
  next modes.Escape kinds.CloseBrace e m h = tt
  next modes.Escape kinds.Quote e m h = tt
  next modes.Escape kinds.Dollar e m h = tt
  next modes.Escape kinds.OpenBracket e m h = tt
  next modes.Escape kinds.CloseBracket e m h = tt
  next modes.Escape kinds.Digit e m h = tt
  next modes.Escape kinds.Other e m h = tt
  next (modes.Index q true at) kinds.Blank e m h = absurd cc
  next (modes.Index q true at) kinds.Feed e m h = absurd cc
  next (modes.Index q true at) kinds.LineEnd e m h = absurd cc
  next (modes.Index q true at) kinds.Semicolon e m h = absurd cc
  next (modes.Index q true at) kinds.Hash e m h = absurd cc
  next (modes.Index q true at) kinds.Backslash e m h = absurd cc
  next (modes.Index q true at) kinds.OpenBrace e m h = absurd cc
  next (modes.Index q true at) kinds.CloseBrace e m h = absurd cc
  next (modes.Index q true at) kinds.Quote e m h = absurd cc
  next (modes.Index q true at) kinds.Dollar e m h = absurd cc
  next (modes.Index q true at) kinds.OpenBracket e m h = absurd cc
  next (modes.Index true true at) kinds.CloseBracket e m h = tt
  next (modes.Index false true at) kinds.CloseBracket e m h = tt
  next (modes.Index q true at) kinds.Digit e m h = more_digits q true at e m
  next (modes.Index q true at) kinds.Other e m h = absurd cc
  next (modes.Index q false at) kinds.Blank e m h = absurd cc
  next (modes.Index q false at) kinds.Feed e m h = absurd cc
  next (modes.Index q false at) kinds.LineEnd e m h = absurd cc
  next (modes.Index q false at) kinds.Semicolon e m h = absurd cc
  next (modes.Index q false at) kinds.Hash e m h = absurd cc
  next (modes.Index q false at) kinds.Backslash e m h = absurd cc
  next (modes.Index q false at) kinds.OpenBrace e m h = absurd cc
  next (modes.Index q false at) kinds.CloseBrace e m h = absurd cc
  next (modes.Index q false at) kinds.Quote e m h = absurd cc
  next (modes.Index q false at) kinds.Dollar e m h = absurd cc
  next (modes.Index q false at) kinds.OpenBracket e m h = absurd cc
  next (modes.Index q false at) kinds.CloseBracket e m h = absurd cc
  next (modes.Index q false at) kinds.Digit e m h = more_digits q false at e m
  next (modes.Index q false at) kinds.Other e m h = absurd cc
  next modes.Quotes kinds.Blank e m h = tt
  next modes.Quotes kinds.Feed e m h = tt
  next modes.Quotes kinds.LineEnd e m h = tt
  next modes.Quotes kinds.Semicolon e m h = tt
  next modes.Quotes kinds.Hash e m h = tt
  next modes.Quotes kinds.Backslash e m h = tt
  next modes.Quotes kinds.OpenBrace e m h = tt
  next modes.Quotes kinds.CloseBrace e m h = tt
  next modes.Quotes kinds.Quote e m h = tt
  next modes.Quotes kinds.Dollar e m h = absurd cc
  next modes.Quotes kinds.OpenBracket e m h = opened e true
  next modes.Quotes kinds.CloseBracket e m h = tt
  next modes.Quotes kinds.Digit e m h = tt
  next modes.Quotes kinds.Other e m h = tt
  next modes.Behind kinds.Blank e m h = tt
  next modes.Behind kinds.Feed e m h = tt
  next modes.Behind kinds.LineEnd e m h = tt
  next modes.Behind kinds.Semicolon e m h = tt
  next modes.Behind kinds.Hash e m h = absurd cc
  next modes.Behind kinds.Backslash e m h = (front, b, refl, e, here)
  next modes.Behind kinds.OpenBrace e m h = absurd cc
  next modes.Behind kinds.CloseBrace e m h = absurd cc
  next modes.Behind kinds.Quote e m h = absurd cc
  next modes.Behind kinds.Dollar e m h = absurd cc
  next modes.Behind kinds.OpenBracket e m h = absurd cc
  next modes.Behind kinds.CloseBracket e m h = absurd cc
  next modes.Behind kinds.Digit e m h = absurd cc
  next modes.Behind kinds.Other e m h = absurd cc
  next (modes.BehindSlash at) kinds.Blank e m h = absurd cc
  next (modes.BehindSlash at) kinds.Feed e m h = tt
  next (modes.BehindSlash at) kinds.LineEnd e m h = tt
  next (modes.BehindSlash at) kinds.Semicolon e m h = absurd cc
  next (modes.BehindSlash at) kinds.Hash e m h = absurd cc
  next (modes.BehindSlash at) kinds.Backslash e m h = absurd cc
  next (modes.BehindSlash at) kinds.OpenBrace e m h = absurd cc
  next (modes.BehindSlash at) kinds.CloseBrace e m h = absurd cc
  next (modes.BehindSlash at) kinds.Quote e m h = absurd cc
  next (modes.BehindSlash at) kinds.Dollar e m h = absurd cc
  next (modes.BehindSlash at) kinds.OpenBracket e m h = absurd cc
  next (modes.BehindSlash at) kinds.CloseBracket e m h = absurd cc
  next (modes.BehindSlash at) kinds.Digit e m h = absurd cc
  next (modes.BehindSlash at) kinds.Other e m h = absurd cc
  next (modes.Braces d) k e m h = next_braces d (depth_after k d) h

  applied_here : (a : Action) (m : Mode) → (applied a b (at_mode m t begun p g)).state.here ≡ p
  applied_here (Turn n) m = refl
  applied_here (Say n) m = refl
  applied_here (Open n) m = refl
  applied_here (Begin n) m = refl
  applied_here (Close f n) m = refl
  applied_here End m = refl
  applied_here CloseEnd m = refl
  applied_here (actions.Stop x) m = refl

abbrev Traced : List ℕ → State → Type 0
Traced front s = (s.here ≡ past places.start front) × Marked front s.mode

inv_step : (front : List ℕ) (s : State) (b : ℕ) → Traced front s → (step kind_of s b).stop ≡ None → Traced (front ++ b ∷ []) (step kind_of s b).state
inv_step front s b i h = (
  ap (λ q. past_byte q b) (applied_here front b s.said s.begun s.here s.gathered i.0 (decide s.mode s.here (kind_of b)) s.mode ∙ i.0) ∙ sym (past-append places.start front (b ∷ [])),
  next front b s.said s.begun s.here s.gathered i.0 s.mode (kind_of b) refl i.1 h,
)

inv : (front : List ℕ) (s : State) (text : List ℕ) (u : State) → Traced front s → steps byte_step s text ≡ Some u → Traced (front ++ text) u
inv front s [] u i e = let same : s ≡ u = cc in subst (λ (xs : List ℕ). Traced xs u) (sym (append-nil front)) (subst (Traced front) same i)
inv front s (b ∷ text) u i e = by (step kind_of s b).stop refl (λ j h. inv (front ++ b ∷ []) (step kind_of s b).state text u j h)
  where
    by : (o : Option Stop) → (step kind_of s b).stop ≡ o → (Traced (front ++ b ∷ []) (step kind_of s b).state → steps byte_step (step kind_of s b).state text ≡ Some u → Traced ((front ++ b ∷ []) ++ text) u) → Traced (front ++ (b ∷ text)) u
    by None h more =
        subst (λ (xs : List ℕ). Traced xs u) (append_assoc front (b ∷ []) text)
        (more (inv_step front s b i h) (sym (ap (λ o. option_and_then (λ v. steps byte_step v text) (taken_by (step kind_of s b).state o)) h) ∙ e))
    by (Some x) h more = let gone : None ≡ Some u = sym (ap (λ o. option_and_then (λ v. steps byte_step v text) (taken_by (step kind_of s b).state o)) h) ∙ e in absurd cc

-- the place of a stop
abbrev Blamed : Mode → Place → Stop → Type 0
Blamed (modes.Index q some at) here x = place_of x ≡ at
Blamed (modes.BehindSlash at) here x = (place_of x ≡ at) ⊎ (place_of x ≡ here)
Blamed (modes.Gap fresh) here x = place_of x ≡ here
Blamed (modes.Slash fresh) here x = place_of x ≡ here
Blamed modes.Comment here x = place_of x ≡ here
Blamed modes.Bare here x = place_of x ≡ here
Blamed modes.Escape here x = place_of x ≡ here
Blamed (modes.Braces d) here x = place_of x ≡ here
Blamed modes.Quotes here x = place_of x ≡ here
Blamed modes.Behind here x = place_of x ≡ here

module _ (b : ℕ) (t : List ℕ) (begun p : Place) (g : Gathered) (x : Stop) where
  abbrev BlamesPlace : Mode → Kind → Type 0
  BlamesPlace m k = (applied (decide m p k) b (at_mode m t begun p g)).stop ≡ Some x → Blamed m p x

  same_place : (y : Stop) → Some y ≡ Some x → place_of x ≡ place_of y
  same_place y e = let same : y ≡ x = cc in ap place_of (sym same)

  blamed_braces : (d : ℕ) (o : Option ℕ) → (applied (braces_on o) b (at_mode (modes.Braces d) t begun p g)).stop ≡ Some x → place_of x ≡ p
  blamed_braces d None h = absurd cc
  blamed_braces d (Some d2) h = absurd cc

  blames : (m : Mode) (k : Kind) → BlamesPlace m k
  blames (modes.Gap true) kinds.Blank h = absurd cc
  blames (modes.Gap true) kinds.Feed h = absurd cc
  blames (modes.Gap true) kinds.LineEnd h = absurd cc
  blames (modes.Gap true) kinds.Semicolon h = absurd cc
  blames (modes.Gap true) kinds.Hash h = absurd cc
  blames (modes.Gap true) kinds.Backslash h = absurd cc
  blames (modes.Gap true) kinds.OpenBrace h = absurd cc
  blames (modes.Gap true) kinds.CloseBrace h = absurd cc
  blames (modes.Gap true) kinds.Quote h = absurd cc
  blames (modes.Gap true) kinds.Dollar h = same_place (stops.Dollar p) h
  blames (modes.Gap true) kinds.OpenBracket h = absurd cc
  blames (modes.Gap true) kinds.CloseBracket h = absurd cc
  blames (modes.Gap true) kinds.Digit h = absurd cc
  blames (modes.Gap true) kinds.Other h = absurd cc
  blames (modes.Gap false) kinds.Blank h = absurd cc
  blames (modes.Gap false) kinds.Feed h = absurd cc
  blames (modes.Gap false) kinds.LineEnd h = absurd cc
  blames (modes.Gap false) kinds.Semicolon h = absurd cc
  blames (modes.Gap false) kinds.Hash h = absurd cc
  blames (modes.Gap false) kinds.Backslash h = absurd cc
  blames (modes.Gap false) kinds.OpenBrace h = absurd cc
  blames (modes.Gap false) kinds.CloseBrace h = absurd cc
  blames (modes.Gap false) kinds.Quote h = absurd cc
  blames (modes.Gap false) kinds.Dollar h = same_place (stops.Dollar p) h
  blames (modes.Gap false) kinds.OpenBracket h = absurd cc
  blames (modes.Gap false) kinds.CloseBracket h = absurd cc
  blames (modes.Gap false) kinds.Digit h = absurd cc
  blames (modes.Gap false) kinds.Other h = absurd cc
  blames (modes.Slash fresh) kinds.Blank h = absurd cc
  blames (modes.Slash fresh) kinds.Feed h = absurd cc
  blames (modes.Slash fresh) kinds.LineEnd h = absurd cc
  blames (modes.Slash fresh) kinds.Semicolon h = absurd cc
  blames (modes.Slash fresh) kinds.Hash h = absurd cc
  blames (modes.Slash fresh) kinds.Backslash h = absurd cc
  blames (modes.Slash fresh) kinds.OpenBrace h = absurd cc
  blames (modes.Slash fresh) kinds.CloseBrace h = absurd cc
  blames (modes.Slash fresh) kinds.Quote h = absurd cc
  blames (modes.Slash fresh) kinds.Dollar h = absurd cc
  blames (modes.Slash fresh) kinds.OpenBracket h = absurd cc
  blames (modes.Slash fresh) kinds.CloseBracket h = absurd cc
  blames (modes.Slash fresh) kinds.Digit h = absurd cc
  blames (modes.Slash fresh) kinds.Other h = absurd cc
  blames modes.Comment kinds.Blank h = absurd cc
  blames modes.Comment kinds.Feed h = absurd cc
  blames modes.Comment kinds.LineEnd h = absurd cc
  blames modes.Comment kinds.Semicolon h = absurd cc
  blames modes.Comment kinds.Hash h = absurd cc
  blames modes.Comment kinds.Backslash h = absurd cc
  blames modes.Comment kinds.OpenBrace h = absurd cc
  blames modes.Comment kinds.CloseBrace h = absurd cc
  blames modes.Comment kinds.Quote h = absurd cc
  blames modes.Comment kinds.Dollar h = absurd cc
  blames modes.Comment kinds.OpenBracket h = absurd cc
  blames modes.Comment kinds.CloseBracket h = absurd cc
  blames modes.Comment kinds.Digit h = absurd cc
  blames modes.Comment kinds.Other h = absurd cc
  blames modes.Bare kinds.Blank h = absurd cc
  blames modes.Bare kinds.Feed h = absurd cc
  blames modes.Bare kinds.LineEnd h = absurd cc
  blames modes.Bare kinds.Semicolon h = absurd cc
  blames modes.Bare kinds.Hash h = absurd cc
  blames modes.Bare kinds.Backslash h = absurd cc
  blames modes.Bare kinds.OpenBrace h = absurd cc
  blames modes.Bare kinds.CloseBrace h = absurd cc
  blames modes.Bare kinds.Quote h = absurd cc
  blames modes.Bare kinds.Dollar h = same_place (stops.Dollar p) h
  blames modes.Bare kinds.OpenBracket h = absurd cc
  blames modes.Bare kinds.CloseBracket h = absurd cc
  blames modes.Bare kinds.Digit h = absurd cc
  blames modes.Bare kinds.Other h = absurd cc
  blames modes.Escape kinds.Blank h = absurd cc
  blames modes.Escape kinds.Feed h = absurd cc
  blames modes.Escape kinds.LineEnd h = absurd cc
  blames modes.Escape kinds.Semicolon h = absurd cc
  blames modes.Escape kinds.Hash h = absurd cc
  blames modes.Escape kinds.Backslash h = absurd cc
  blames modes.Escape kinds.OpenBrace h = absurd cc
  blames modes.Escape kinds.CloseBrace h = absurd cc
  blames modes.Escape kinds.Quote h = absurd cc
  blames modes.Escape kinds.Dollar h = absurd cc
  blames modes.Escape kinds.OpenBracket h = absurd cc
  blames modes.Escape kinds.CloseBracket h = absurd cc
  blames modes.Escape kinds.Digit h = absurd cc
  blames modes.Escape kinds.Other h = absurd cc
  blames (modes.Index q true at) kinds.Blank h = same_place (stops.Bracket at) h
  blames (modes.Index q true at) kinds.Feed h = same_place (stops.Bracket at) h
  blames (modes.Index q true at) kinds.LineEnd h = same_place (stops.Bracket at) h
  blames (modes.Index q true at) kinds.Semicolon h = same_place (stops.Bracket at) h
  blames (modes.Index q true at) kinds.Hash h = same_place (stops.Bracket at) h
  blames (modes.Index q true at) kinds.Backslash h = same_place (stops.Bracket at) h
  blames (modes.Index q true at) kinds.OpenBrace h = same_place (stops.Bracket at) h
  blames (modes.Index q true at) kinds.CloseBrace h = same_place (stops.Bracket at) h
  blames (modes.Index q true at) kinds.Quote h = same_place (stops.Bracket at) h
  blames (modes.Index q true at) kinds.Dollar h = same_place (stops.Bracket at) h
  blames (modes.Index q true at) kinds.OpenBracket h = same_place (stops.Bracket at) h
  blames (modes.Index true true at) kinds.CloseBracket h = absurd cc
  blames (modes.Index false true at) kinds.CloseBracket h = absurd cc
  blames (modes.Index q true at) kinds.Digit h = absurd cc
  blames (modes.Index q true at) kinds.Other h = same_place (stops.Bracket at) h
  blames (modes.Index q false at) kinds.Blank h = same_place (stops.Bracket at) h
  blames (modes.Index q false at) kinds.Feed h = same_place (stops.Bracket at) h
  blames (modes.Index q false at) kinds.LineEnd h = same_place (stops.Bracket at) h
  blames (modes.Index q false at) kinds.Semicolon h = same_place (stops.Bracket at) h
  blames (modes.Index q false at) kinds.Hash h = same_place (stops.Bracket at) h
  blames (modes.Index q false at) kinds.Backslash h = same_place (stops.Bracket at) h
  blames (modes.Index q false at) kinds.OpenBrace h = same_place (stops.Bracket at) h
  blames (modes.Index q false at) kinds.CloseBrace h = same_place (stops.Bracket at) h
  blames (modes.Index q false at) kinds.Quote h = same_place (stops.Bracket at) h
  blames (modes.Index q false at) kinds.Dollar h = same_place (stops.Bracket at) h
  blames (modes.Index q false at) kinds.OpenBracket h = same_place (stops.Bracket at) h
  blames (modes.Index q false at) kinds.CloseBracket h = same_place (stops.Bracket at) h
  blames (modes.Index q false at) kinds.Digit h = absurd cc
  blames (modes.Index q false at) kinds.Other h = same_place (stops.Bracket at) h
  blames modes.Quotes kinds.Blank h = absurd cc
  blames modes.Quotes kinds.Feed h = absurd cc
  blames modes.Quotes kinds.LineEnd h = absurd cc
  blames modes.Quotes kinds.Semicolon h = absurd cc
  blames modes.Quotes kinds.Hash h = absurd cc
  blames modes.Quotes kinds.Backslash h = absurd cc
  blames modes.Quotes kinds.OpenBrace h = absurd cc
  blames modes.Quotes kinds.CloseBrace h = absurd cc
  blames modes.Quotes kinds.Quote h = absurd cc
  blames modes.Quotes kinds.Dollar h = same_place (stops.Dollar p) h
  blames modes.Quotes kinds.OpenBracket h = absurd cc
  blames modes.Quotes kinds.CloseBracket h = absurd cc
  blames modes.Quotes kinds.Digit h = absurd cc
  blames modes.Quotes kinds.Other h = absurd cc
  blames modes.Behind kinds.Blank h = absurd cc
  blames modes.Behind kinds.Feed h = absurd cc
  blames modes.Behind kinds.LineEnd h = absurd cc
  blames modes.Behind kinds.Semicolon h = absurd cc
  blames modes.Behind kinds.Hash h = same_place (stops.Syntax p) h
  blames modes.Behind kinds.Backslash h = absurd cc
  blames modes.Behind kinds.OpenBrace h = same_place (stops.Syntax p) h
  blames modes.Behind kinds.CloseBrace h = same_place (stops.Syntax p) h
  blames modes.Behind kinds.Quote h = same_place (stops.Syntax p) h
  blames modes.Behind kinds.Dollar h = same_place (stops.Syntax p) h
  blames modes.Behind kinds.OpenBracket h = same_place (stops.Syntax p) h
  blames modes.Behind kinds.CloseBracket h = same_place (stops.Syntax p) h
  blames modes.Behind kinds.Digit h = same_place (stops.Syntax p) h
  blames modes.Behind kinds.Other h = same_place (stops.Syntax p) h
  blames (modes.BehindSlash at) kinds.Blank h = inl (same_place (stops.Syntax at) h)
  blames (modes.BehindSlash at) kinds.Feed h = absurd cc
  blames (modes.BehindSlash at) kinds.LineEnd h = absurd cc
  blames (modes.BehindSlash at) kinds.Semicolon h = inl (same_place (stops.Syntax at) h)
  blames (modes.BehindSlash at) kinds.Hash h = inl (same_place (stops.Syntax at) h)
  blames (modes.BehindSlash at) kinds.Backslash h = inl (same_place (stops.Syntax at) h)
  blames (modes.BehindSlash at) kinds.OpenBrace h = inl (same_place (stops.Syntax at) h)
  blames (modes.BehindSlash at) kinds.CloseBrace h = inl (same_place (stops.Syntax at) h)
  blames (modes.BehindSlash at) kinds.Quote h = inl (same_place (stops.Syntax at) h)
  blames (modes.BehindSlash at) kinds.Dollar h = inl (same_place (stops.Syntax at) h)
  blames (modes.BehindSlash at) kinds.OpenBracket h = inl (same_place (stops.Syntax at) h)
  blames (modes.BehindSlash at) kinds.CloseBracket h = inl (same_place (stops.Syntax at) h)
  blames (modes.BehindSlash at) kinds.Digit h = inl (same_place (stops.Syntax at) h)
  blames (modes.BehindSlash at) kinds.Other h = inl (same_place (stops.Syntax at) h)
  blames (modes.Braces d) k h = blamed_braces d (depth_after k d) h

  -- at the text's end
  ends : (m : Mode) → (finished (at_mode m t begun p g)).stop ≡ Some x → Blamed m p x
  ends (modes.Gap true) h = absurd cc
  ends (modes.Gap false) h = absurd cc
  ends modes.Comment h = absurd cc
  ends modes.Bare h = absurd cc
  ends modes.Behind h = absurd cc
  ends (modes.Slash fresh) h = same_place (stops.Syntax p) h
  ends modes.Escape h = same_place (stops.Syntax p) h
  ends (modes.Braces d) h = same_place (stops.Syntax p) h
  ends modes.Quotes h = same_place (stops.Syntax p) h
  ends (modes.BehindSlash at) h = inr (same_place (stops.Syntax p) h)
  ends (modes.Index q some at) h = same_place (stops.Bracket at) h

blamed : (u : State) (rest : List ℕ) (x : Stop) → StopsBy u rest x → Blamed u.mode u.here x
blamed u [] x h = ends 0 u.said u.begun u.here u.gathered x u.mode h
blamed u (b ∷ rest) x h = blames b u.said u.begun u.here u.gathered x u.mode (kind_of b) h

-- ---- the law

abbrev HasToken : List ℕ → Stop → Type 0
HasToken front x = (before part : List ℕ) × (front ≡ before ++ part) × (is_part part ≡ true) × (place_of x ≡ past places.start before)

plain : (front : List ℕ) (here : Place) (x : Stop) → here ≡ past places.start front → place_of x ≡ here → HasToken front x
plain front here x h e = (front, [], sym (append-nil front), refl, e ∙ h)

token_at : (m : Mode) (front : List ℕ) (here : Place) (x : Stop) → here ≡ past places.start front → Marked front m → Blamed m here x → HasToken front x
token_at (modes.Index q some at) front here x h m e = (m.0, m.1 ∷ m.2, m.3, ap (λ k. is_part_by k m.2) m.4 ∙ m.5, e ∙ m.6)
token_at (modes.BehindSlash at) front here x h m (inr e) = plain front here x h e
token_at (modes.BehindSlash at) front here x h m (inl e) = (m.0, m.1 ∷ [], m.2, ap (λ k. is_part_by k []) m.3, e ∙ m.4)
token_at (modes.Gap fresh) front here x h m e = plain front here x h e
token_at (modes.Slash fresh) front here x h m e = plain front here x h e
token_at modes.Comment front here x h m e = plain front here x h e
token_at modes.Bare front here x h m e = plain front here x h e
token_at modes.Escape front here x h m e = plain front here x h e
token_at (modes.Braces d) front here x h m e = plain front here x h e
token_at modes.Quotes front here x h m e = plain front here x h e
token_at modes.Behind front here x h m e = plain front here x h e

pub leaves_at : (text : List ℕ) (o : Outcome) (x : Stop) → Denotes text o → o.stop ≡ Some x → LeavesAt text x
leaves_at text o x d e =
    let w = stopping start text x (ap (λ (r : Outcome). r.stop) (as_read text o d) ∙ e) in
    let i = inv [] start (take w.0 text) w.1 (refl, tt) w.3 in
    let k = token_at w.1.mode (take w.0 text) w.1.here x i.0 i.1 (blamed w.1 (drop w.0 text) x w.4) in
    record {
      index = w.0;
      leaves = leaves byte_step accepts start IsWhole (λ s. Unit {0}) recognizes finishes text w.0 w.1 w.2 w.3 (stops_there w.1 (drop w.0 text) x w.4);
      before = k.0;
      part = k.1;
      front = k.2;
      is_part = k.3;
      place = k.4;
    }
