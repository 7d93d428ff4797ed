-- The options of words no longer than a file have words no longer than a file.
use Rattle.std.proofs.Common.{◌≡◌, ◌+◌, ◌&&◌, Bool, true, false, not, List, [], ◌∷◌, refl}
use Rattle.std.specs.Prelude.{Option, Some, None, nat_le, if◌then◌else◌, length}
use Rattle.std.specs.List.{list_all}
use Rattle.std.proofs.lemmas.Bool.{and_from, and_parts}
use Rattle.lp_text.specs.declared.shelf.TheConstants.{LIMIT}
use Rattle.lp_text.specs.declared.place.Place.{Place}
use Rattle.lp_model.specs.declared.upf.OptionWord.{OptionWord}
use Rattle.lp_model.specs.CommandsView.{WordView}
use Rattle.lp_upf_words.specs.Elements.{content_of}
use Rattle.lp_upf_words.specs.Sizes.{is_modest, is_short}
use Rattle.lp_upf_words.proofs.Modest.{elements_short}
use Rattle.lp_spec_upf.specs.Shapes.{OptionRule, Value, Flag, Name, OneOf, Clamp, Threshold, Listed}
use Rattle.lp_spec_upf.specs.Commands.{Fault, Syntax, Unsupported, Next, Option_, ValueOf, Skipped, Part, at_end, at_option, at_skipped, at_word, begun, cut, has_option, is_any_syntax, is_dashed, listed, option_at, options_of, rule_of, unlisted, value_faults, valued, values_of, with_faults, with_option}
use Rattle.lp_upf.specs.Controls.{has_short}

pub modest_short : (w : WordView) → is_modest w ≡ true → is_short w ≡ true
modest_short w h = (and_parts (nat_le (length (content_of w)) LIMIT) (nat_le w.place.line (LIMIT + 1) && nat_le w.place.column (LIMIT + 1)) h).0

values_short : (v : Value) (w : WordView) → is_short w ≡ true → list_all is_short (values_of v w) ≡ true
values_short (Listed f) w h = elements_short w h
values_short Flag w h = and_from (is_short w) true h refl
values_short Name w h = and_from (is_short w) true h refl
values_short (OneOf ws) w h = and_from (is_short w) true h refl
values_short Clamp w h = and_from (is_short w) true h refl
values_short Threshold w h = and_from (is_short w) true h refl

abbrev Good : Part → Type 0
Good p = list_all has_short p.options ≡ true

module _ (w : WordView) (short : is_short w ≡ true) where
  good_begun : (r : OptionRule) (v : Value) (more : Next → Part) → ((n : Next) → Good (more n)) → Good (begun r v w more)
  good_begun r Flag more h = h Option_
  good_begun r v more h = h (ValueOf r w)

  good_listed : (r : OptionRule) (seen : List OptionWord) (more : Next → List OptionWord → Part) → ((n : Next) (s : List OptionWord) → Good (more n s)) → Good (listed r seen w more)
  good_listed r seen more h = by (not r.repeats && has_option seen r.word)
    where
      by : (b : Bool) → Good (if b then cut (Syntax w.place ∷ []) else begun r r.value w (λ n. more n (r.word ∷ seen)))
      by true = refl
      by false = good_begun r r.value (λ n. more n (r.word ∷ seen)) (λ n. h n (r.word ∷ seen))

  good_unlisted : (seen : List OptionWord) (more : Next → List OptionWord → Part) → ((n : Next) (s : List OptionWord) → Good (more n s)) → Good (unlisted seen w more)
  good_unlisted seen more h = by (is_dashed w.text)
    where
      by : (b : Bool) → Good (if b then with_faults (Unsupported w.place w.text ∷ []) (more Skipped seen) else cut (Syntax w.place ∷ []))
      by true = h Skipped seen
      by false = refl

  good_valued : (r : OptionRule) (o : WordView) (faults : List Fault) (rest : Part) → Good rest → Good (valued faults (option_at r o (values_of r.value w)) rest)
  good_valued r o faults rest h = by (is_any_syntax faults)
    where
      by : (b : Bool) → Good (if b then cut faults else with_faults faults (with_option (option_at r o (values_of r.value w)) rest))
      by true = refl
      by false = and_from (list_all is_short (values_of r.value w)) (list_all has_short rest.options) (values_short r.value w short) h

  good_word : (rules : List OptionRule) (next : Next) (seen : List OptionWord) (more : Next → List OptionWord → Part) → ((n : Next) (s : List OptionWord) → Good (more n s)) → Good (at_word rules next seen w more)
  good_word rules Option_ seen more h = by (rule_of rules w.text)
    where
      by : (r : Option OptionRule) → Good (at_option r seen w more)
      by None = good_unlisted seen more h
      by (Some r) = good_listed r seen more h
  good_word rules Skipped seen more h = by (rule_of rules w.text)
    where
      by : (r : Option OptionRule) → Good (at_skipped r seen w more)
      by None = h Skipped seen
      by (Some r) = good_listed r seen more h
  good_word rules (ValueOf r o) seen more h = good_valued r o (value_faults r.value o w) (more Option_ seen) (h Option_ seen)

good_end : (e : Option Place) (next : Next) → Good (at_end e next)
good_end None next = refl
good_end (Some p) (ValueOf r o) = refl
good_end (Some p) Option_ = refl
good_end (Some p) Skipped = refl

pub options_short : (rules : List OptionRule) (e : Option Place) (next : Next) (seen : List OptionWord) (ws : List WordView) → list_all is_modest ws ≡ true → list_all has_short (options_of rules e next seen ws).options ≡ true
options_short rules e next seen [] h = good_end e next
options_short rules e next seen (w ∷ ws) h =
    let two = and_parts (is_modest w) (list_all is_modest ws) h in
    good_word w (modest_short w two.0) rules next seen (λ n s. options_of rules e n s ws) (λ n s. options_short rules e n s ws two.1)
