-- The options of a command, word by word.
use Rattle.std.proofs.Common.{◌≡◌, ℕ, Bool, true, false, not, ◌&&◌, ◌||◌, List, [], ◌∷◌, ◌++◌, refl, sym, ap, ◌∙◌, append_assoc, map}
use Rattle.std.specs.Prelude.{Option, Some, None, if◌then◌else◌}
use Rattle.std.specs.List.{list_all}
use Rattle.std.proofs.lemmas.List.{append-nil}
use Rattle.lp_text.specs.declared.place.Place.{Place}
use Rattle.lp_model.specs.declared.upf.OptionWord.{OptionWord}
use Rattle.lp_model.specs.declared.upf.CommandOption.{CommandOption}
use Rattle.lp_model.specs.CommandsView.{OptionView, WordView, option_view}
use Rattle.lp_spec_upf.specs.Shapes.{OptionRule, Value, Flag}
use Rattle.lp_spec_upf.specs.Commands.{Fault, Syntax, Unsupported, Next, Option_, ValueOf, Skipped, Part, at_end, cut, has_option, is_any_syntax, is_dashed, option_at, options_of, rule_of, same_option, value_faults, values_of, with_faults, with_option, words_had}
use Rattle.lp_upf.specs.Faults.{Judged, added, joined, judged}
use Rattle.lp_upf.specs.Options.{Reading, Read, at_option, at_skipped, behind, ended, read, read_of, reading, run, step_at, unless_cut}
use Rattle.lp_upf.specs.Options as forward
use Rattle.lp_spec_upf.specs.Commands as spec
use Rattle.lp_upf.proofs.Judged.{joined-assoc, joined-none, judged-append}

-- ---- which options there are

not-and : (a b : Bool) → not (not a && b) ≡ (a || not b)
not-and true b = refl
not-and false b = refl

or-comm : (a b : Bool) → (a || b) ≡ (b || a)
or-comm true true = refl
or-comm true false = refl
or-comm false true = refl
or-comm false false = refl

or-swap : (a b c : Bool) → (a || (b || c)) ≡ (b || (a || c))
or-swap true true c = refl
or-swap true false c = refl
or-swap false b c = refl

has-cons : (s : OptionWord) (seen : List OptionWord) (o : OptionWord) → has_option (s ∷ seen) o ≡ (same_option s o || has_option seen o)
has-cons s seen o = not-and (same_option s o) (list_all (λ t. not (same_option t o)) seen)

has-last : (os : List OptionView) (v : OptionView) (o : OptionWord) → has_option (words_had (os ++ v ∷ [])) o ≡ (same_option v.word o || has_option (words_had os) o)
has-last [] v o = has-cons v.word [] o
has-last (x ∷ os) v o =
    has-cons x.word (words_had (os ++ v ∷ [])) o
    ∙ ap (λ (b : Bool). same_option x.word o || b) (has-last os v o)
    ∙ or-swap (same_option x.word o) (same_option v.word o) (has_option (words_had os) o)
    ∙ ap (λ (b : Bool). same_option v.word o || b) (sym (has-cons x.word (words_had os) o))

abbrev had : Next → List OptionView → OptionWord → Bool
had (ValueOf r w) os o = same_option r.word o || has_option (words_had os) o
had Option_ os o = has_option (words_had os) o
had Skipped os o = has_option (words_had os) o

abbrev Stands : List OptionWord → Next → List OptionView → Type 0
Stands seen next os = (o : OptionWord) → has_option seen o ≡ had next os o

pub had_map : (names : List (List ℕ)) (os : List CommandOption) → words_had (map (option_view names) os) ≡ map (λ o. o.word) os
had_map names [] = refl
had_map names (o ∷ os) = ap (λ (ws : List OptionWord). o.word ∷ ws) (had_map names os)

-- ---- what comes behind

pub halts : (s : Reading) (more : Reading → Read) → s.faults.cut ≡ true → unless_cut s more ≡ read s.options s.faults false
halts s more e = ap (λ (c : Bool). if c then read s.options s.faults false else more s) e

pub goes : (s : Reading) (more : Reading → Read) → s.faults.cut ≡ false → unless_cut s more ≡ more s
goes s more e = ap (λ (c : Bool). if c then read s.options s.faults false else more s) e

at-cut : (os : List OptionView) (j : Judged) (fs : List Fault) → read os (joined j (judged fs)) false ≡ behind os j (cut fs)
at-cut os j fs = ap (λ (xs : List OptionView). read xs (joined j (judged fs)) false) (sym (append-nil os))

passed : (os : List OptionView) (j : Judged) (fs : List Fault) (p : Part) → behind os (joined j (judged fs)) p ≡ behind os j (with_faults fs p)
passed os j fs p = ap (λ (k : Judged). read (os ++ p.options) k p.whole) (joined-assoc j (judged fs) (judged p.faults) ∙ ap (joined j) (sym (judged-append fs p.faults)))

one_more : (os : List OptionView) (j : Judged) (o : OptionView) (p : Part) → behind (os ++ o ∷ []) j p ≡ behind os j (with_option o p)
one_more os j o p = ap (λ (xs : List OptionView). read xs (joined j (judged p.faults)) p.whole) (append_assoc os (o ∷ []) p.options)

-- the faults of a word cut the command
cut-there : (next : Next) (os : List OptionView) (j : Judged) (fs : List Fault) (more : Reading → Read) → (joined j (judged fs)).cut ≡ true → unless_cut (reading next os (joined j (judged fs))) more ≡ behind os j (cut fs)
cut-there next os j fs more e = halts (reading next os (joined j (judged fs))) more e ∙ at-cut os j fs

or-true : (a : Bool) → (a || true) ≡ true
or-true true = refl
or-true false = refl

either : (a b x : Bool) → a ≡ false → b ≡ x → (a || b) ≡ x
either a b x e f = rw (e, f) refl

-- ---- words

module _ (rules : List OptionRule) (e : Option Place) where
  abbrev Same : List WordView → Type 0
  Same ws = (next : Next) (os : List OptionView) (j : Judged) (seen : List OptionWord) → j.cut ≡ false → Stands seen next os → run rules e (reading next os j) ws ≡ behind os j (options_of rules e next seen ws)

  at_the_end : Same []
  at_the_end next os j seen g s = by e next
    where
      none : (b : Bool) → read os j b ≡ read (os ++ []) (joined j (judged [])) b
      none b = rw (append-nil os, joined-none j) refl

      by : (e : Option Place) (next : Next) → ended e (reading next os j) ≡ behind os j (at_end e next)
      by None next = none false
      by (Some p) (ValueOf r w) = at-cut os j (Syntax p ∷ [])
      by (Some p) Option_ = none true
      by (Some p) Skipped = none true

  module _ (w : WordView) (ws : List WordView) (more : Same ws) where
    abbrev onward : Reading → Read
    onward t = run rules e t ws

    abbrev later : Next → List OptionWord → Part
    later n s = options_of rules e n s ws

    begins : (next : Next) (r : OptionRule) (v : Value) (os : List OptionView) (j : Judged) (seen : List OptionWord) → j.cut ≡ false → ((o : OptionWord) → has_option seen o ≡ has_option (words_had os) o)
        → unless_cut (forward.begun r v w (reading next os j)) onward ≡ behind os j (spec.begun r v w (λ n. later n (r.word ∷ seen)))
    begins next r Flag os j seen g s =
        let o = option_at r w [] in
        let stands : Stands (r.word ∷ seen) Option_ (os ++ o ∷ []) = λ x. has-cons r.word seen x ∙ ap (λ (b : Bool). same_option r.word x || b) (s x) ∙ sym (has-last os o x) in
        goes (reading Option_ (os ++ o ∷ []) j) onward g ∙ more Option_ (os ++ o ∷ []) j (r.word ∷ seen) g stands ∙ one_more os j o (later Option_ (r.word ∷ seen))
    begins next r v os j seen g s =
        let stands : Stands (r.word ∷ seen) (ValueOf r w) os = λ x. has-cons r.word seen x ∙ ap (λ (b : Bool). same_option r.word x || b) (s x) in
        goes (reading (ValueOf r w) os j) onward g ∙ more (ValueOf r w) os j (r.word ∷ seen) g stands

    -- a fault off the form
    refuses : (next : Next) (os : List OptionView) (j : Judged) (p : Place) → unless_cut (reading next os (added j (Syntax p))) onward ≡ behind os j (cut (Syntax p ∷ []))
    refuses next os j p = cut-there next os j (Syntax p ∷ []) onward (or-true j.cut)

    abbrev Plain : List OptionWord → List OptionView → Type 0
    Plain seen os = (o : OptionWord) → has_option seen o ≡ has_option (words_had os) o

    lists : (next : Next) (r : OptionRule) (os : List OptionView) (j : Judged) (seen : List OptionWord) → j.cut ≡ false → Plain seen os
        → unless_cut (forward.listed r w (reading next os j)) onward ≡ behind os j (spec.listed r seen w later)
    lists next r os j seen g s = by (not r.repeats && has_option (words_had os) r.word) refl
      where
        by : (b : Bool) → (not r.repeats && has_option (words_had os) r.word) ≡ b → unless_cut (forward.listed r w (reading next os j)) onward ≡ behind os j (spec.listed r seen w later)
        by true e = rw (s r.word, e) (refuses next os j w.place)
        by false e = rw (s r.word, e) (begins next r r.value os j seen g s)

    skips : (next : Next) (os : List OptionView) (j : Judged) (seen : List OptionWord) → j.cut ≡ false → Plain seen os
        → unless_cut (forward.unlisted w (reading next os j)) onward ≡ behind os j (spec.unlisted seen w later)
    skips next os j seen g s = by (is_dashed w.text) refl
      where
        fs : List Fault
        fs = Unsupported w.place w.text ∷ []

        by : (b : Bool) → is_dashed w.text ≡ b → unless_cut (forward.unlisted w (reading next os j)) onward ≡ behind os j (spec.unlisted seen w later)
        by true e =
            let k = joined j (judged fs) in
            let going : k.cut ≡ false = either j.cut (is_any_syntax fs) false g refl in
            rw (e) (goes (reading Skipped os k) onward going ∙ more Skipped os k seen going s ∙ passed os j fs (later Skipped seen))
        by false e = rw (e) (refuses next os j w.place)

    values : (r : OptionRule) (o : WordView) (os : List OptionView) (j : Judged) (seen : List OptionWord) (fs : List Fault) (v : OptionView) → j.cut ≡ false → v.word ≡ r.word → Stands seen (ValueOf r o) os
        → unless_cut (forward.valued fs v (reading (ValueOf r o) os j)) onward ≡ behind os j (spec.valued fs v (later Option_ seen))
    values r o os j seen fs v g same s = by (is_any_syntax fs) refl
      where
        -- the option ends, unless its faults cut the command
        first : Bool → Reading
        first b = if b then reading (ValueOf r o) os (joined j (judged fs)) else reading Option_ (os ++ v ∷ []) (joined j (judged fs))

        second : Bool → Part
        second b = if b then cut fs else with_faults fs (with_option v (later Option_ seen))

        from : (b : Bool) → is_any_syntax fs ≡ b → unless_cut (first b) onward ≡ behind os j (second b)
            → unless_cut (forward.valued fs v (reading (ValueOf r o) os j)) onward ≡ behind os j (spec.valued fs v (later Option_ seen))
        from b e is = ap (λ (x : Bool). unless_cut (first x) onward) e ∙ is ∙ ap (λ (x : Bool). behind os j (second x)) (sym e)

        by : (b : Bool) → is_any_syntax fs ≡ b → unless_cut (forward.valued fs v (reading (ValueOf r o) os j)) onward ≡ behind os j (spec.valued fs v (later Option_ seen))
        by true e = from true e (cut-there (ValueOf r o) os j fs onward (ap (λ (b : Bool). j.cut || b) e ∙ or-true j.cut))
        by false e =
            let k = joined j (judged fs) in
            let going : k.cut ≡ false = either j.cut (is_any_syntax fs) false g e in
            let stands : Stands seen Option_ (os ++ v ∷ []) = λ x. s x ∙ ap (λ (y : OptionWord). same_option y x || has_option (words_had os) x) (sym same) ∙ sym (has-last os v x) in
            let p = later Option_ seen in
            from false e (goes (reading Option_ (os ++ v ∷ []) k) onward going ∙ more Option_ (os ++ v ∷ []) k seen going stands ∙ passed (os ++ v ∷ []) j fs p ∙ one_more os j v (with_faults fs p))

    at_a_word : Same (w ∷ ws)
    at_a_word Option_ os j seen g s = by (rule_of rules w.text)
      where
        by : (r : Option OptionRule) → unless_cut (at_option r w (reading Option_ os j)) onward ≡ behind os j (spec.at_option r seen w later)
        by None = skips Option_ os j seen g s
        by (Some r) = lists Option_ r os j seen g s
    at_a_word Skipped os j seen g s = by (rule_of rules w.text)
      where
        by : (r : Option OptionRule) → unless_cut (at_skipped r w (reading Skipped os j)) onward ≡ behind os j (spec.at_skipped r seen w later)
        by None = goes (reading Skipped os j) onward g ∙ more Skipped os j seen g s
        by (Some r) = lists Skipped r os j seen g s
    at_a_word (ValueOf r o) os j seen g s = values r o os j seen (value_faults r.value o w) (option_at r o (values_of r.value w)) g refl s

  same : (ws : List WordView) → Same ws
  same [] = at_the_end
  same (w ∷ ws) = at_a_word w ws (same ws)

  -- from the beginning on
  pub all : (ws : List WordView) → run rules e (reading Option_ [] (judged [])) ws ≡ read_of (options_of rules e Option_ [] ws)
  all ws = same ws Option_ [] (judged []) [] refl (λ o. refl) ∙ by (options_of rules e Option_ [] ws)
    where
      by : (p : Part) → behind [] (judged []) p ≡ read_of p
      by p = refl
