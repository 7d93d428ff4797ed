-- A text is said in one way.
use Rattle.std.specs.Prelude.{◌≡◌, ℕ, Bool, List, Option, Some, None, Result}
use Rattle.std.proofs.Common.{refl, ap, sym, ◌∙◌}
use Rattle.lp_text.specs.declared.place.Place.{Place}
use Rattle.lp_model.specs.CommandsView.{CommandView}
use Rattle.lp_upf_words.specs.Words.{DenotesList}
use Rattle.lp_upf_words.proofs.Once as lower
use Rattle.lp_upf_words.specs.Elements.{elements_at}
use Rattle.lp_spec_upf.specs.Commands.{Fault, Sense, intent_of}
use Rattle.lp_spec_upf.specs.Intent.{Denotes, IsSense}
use Rattle.lp_spec_upf.proofs.Same.{intent-same}

-- two answers that each hold where the other does
agreeing : (x y : Option Bool) → ((h : Bool) → x ≡ Some h → y ≡ Some h) → ((h : Bool) → y ≡ Some h → x ≡ Some h) → x ≡ y
agreeing None None f g = refl
agreeing (Some h) y f g = sym (f h refl)
agreeing None (Some h) f g = g h refl

senses-same : (a b : Sense) → IsSense a → IsSense b → (text control : List ℕ) → a.of text control ≡ b.of text control
senses-same a b x y text control =
    agreeing (a.of text control) (b.of text control)
    (λ h e. y.all text control h (x.sound text control h e))
    (λ h e. x.all text control h (y.sound text control h e))

pub once : (text : List ℕ) (a b : Result (List CommandView) Fault) → Denotes text a → Denotes text b → a ≡ b
once text a b x y =
    let words = lower.once text x.outcome y.outcome x.words y.words in
    x.is ∙ (intent-same x.sense y.sense (senses-same x.sense y.sense x.senses y.senses) x.outcome ∙ (ap (λ o. intent_of y.sense o) words ∙ sym y.is))

pub elements-denoted : (p : Place) (content : List ℕ) → DenotesList p content (elements_at p content)
elements-denoted p content = lower.read_denotes_list p content
