-- Each way to judge expressions judges a text in the same way, and there is one.
use Rattle.std.proofs.Common.{◌≡◌, ℕ, suc, ◌≤◌, ◌-◌, Bool, true, false, List, [], ◌∷◌, refl, sym, ap, ◌∙◌, subst, length, get_or, arith}
use Rattle.std.specs.Prelude.{Option, Some, None, Result, Ok, Err, IfOk, ◌==◌}
use Rattle.std.specs.List.{list_all}
use Rattle.std.proofs.lemmas.Bool.{and_parts, leb-true, ne_eqb}
use Rattle.lp_text.specs.declared.shelf.TheConstants.{LIMIT}
use Rattle.lp_model.specs.declared.upf.OptionWord.{OptionWord}
use Rattle.lp_model.specs.declared.upf.OptionWord.TheVariants as options
use Rattle.lp_model.specs.declared.upf.UpfWord.{UpfWord}
use Rattle.lp_model.specs.CommandsView.{OptionView, WordView, line_view}
use Rattle.lp_upf_words.specs.Elements.{bytes_after, content_of}
use Rattle.lp_upf_words.specs.Sizes.{is_short}
use Rattle.lp_spec_upf.specs.Commands.{Sense, is_fit, last_word, sensed_as}
use Rattle.lp_spec_upf.specs.Intent.{IsSense}
use Rattle.lp_spec_upf.proofs.Senses.{each}
use Rattle.lp_upf.specs.Controls.{IsSenseAt, is_expression}
use Rattle.lp_upf.specs.Senses.{IsSenseOf}

pub determined : (s : Sense) → IsSense s → (text control : List ℕ) (high : Option Bool) → IsSenseOf text control high → high ≡ s.of text control
determined s i text control (Some h) x = sym (i.all text control h x)
determined s i text control None x = by (s.of text control) refl
  where
    by : (o : Option Bool) → s.of text control ≡ o → None ≡ o
    by None e = refl
    by (Some h) e = absurd (x h (i.sound text control h e))

pub a_sense : Sense
a_sense = (each []).1.sense

pub is_sense : IsSense a_sense
unfolding a_sense
is_sense = (each []).1.senses

-- the content of the last word is no longer than a file
pub last_short : (ws : List WordView) → list_all is_short ws ≡ true → length (bytes_after None (last_word ws)) ≤ LIMIT
last_short [] h = omega arith
last_short (w ∷ []) h = leb-true (length (content_of w)) LIMIT (and_parts (is_short w) true h).0
last_short (w ∷ (v ∷ ws)) h = last_short (v ∷ ws) (and_parts (is_short w) (list_all is_short (v ∷ ws)) h).1

pub sense_known : {E : Type 0} (r : Result (Option Bool) E) (o : OptionView) (control text own : List ℕ) → text ≡ last_word o.values → own ≡ control → IfOk r (IsSenseOf text own) → IfOk r (IsSenseAt o control)
sense_known (Err e) o control text own t n h = tt
sense_known (Ok high) o control text own t n h =
    λ s i e. determined s i (last_word o.values) control high (subst (λ (x : List ℕ). IsSenseOf x control high) t (subst (λ (x : List ℕ). IsSenseOf text x high) n h))

-- ---- what goes by the sense of an option

pub sensed_same : (word : OptionWord) (g h : Option Bool) → (is_expression word ≡ true → g ≡ h) → sensed_as word g ≡ sensed_as word h
sensed_same options.OnState g h same = same refl
sensed_same word g h same = refl

pub fit_same : (word : OptionWord) (on g h : Option Bool) → (is_expression word ≡ true → g ≡ h) → is_fit word on g ≡ is_fit word on h
fit_same options.OnState on g h same = ap (is_fit options.OnState on) (same refl)
fit_same options.OffState on g h same = ap (is_fit options.OffState on) (same refl)
fit_same word on g h same = refl

-- ---- the last word

pub last_at : (names : List (List ℕ)) (ws : List UpfWord) (d : UpfWord) → (length ws == 0) ≡ false → get_or names (get_or ws (length ws - 1) d).name.0 [] ≡ last_word (line_view names ws)
last_at names [] d h = absurd cc
last_at names (w ∷ []) d h = refl
last_at names (w ∷ (v ∷ ws)) d h =
    let a : suc (suc (length ws)) - 1 ≡ suc (length ws) = omega arith in
    let b : length ws ≡ suc (length ws) - 1 = omega arith in
    ap (λ (n : ℕ). get_or names (get_or (w ∷ (v ∷ ws)) n d).name.0 []) a
    ∙ ap (λ (n : ℕ). get_or names (get_or (v ∷ ws) n d).name.0 []) b
    ∙ last_at names (v ∷ ws) d (ne_eqb (suc (length ws)) 0 (λ e. absurd (omega (arith, e))))
