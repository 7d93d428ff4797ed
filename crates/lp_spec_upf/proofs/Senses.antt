-- Each text has its sense as a control expression, or none.
use Rattle.std.specs.Prelude.{◌≡◌, ℕ, Bool, true, false, List, [], ◌∷◌, ◌++◌, Option, Some, None, IsTrue, bytes_eq, if◌then◌else◌, Result}
use Rattle.std.proofs.Common.{refl, ap, ◌∙◌}
use Rattle.std.proofs.lemmas.Slice.Eq.{bytes_eq-Decides}
use Rattle.lp_tern.specs.Expression.{Expression, holds}
use Rattle.lp_expr.specs.declared.dialect.Dialect.TheVariants.{Control}
use Rattle.lp_expr.specs.Grammar.{Tree, meaning, spelling, is_tree, are_blank}
use Rattle.lp_expr.specs.Denotes.{occurring}
use Rattle.lp_spec_place.specs.Machines.{steps}
use Rattle.lp_expr.proofs.Zipper.{State, step, start, result_of}
use Rattle.lp_expr.proofs.Found.{found}
use Rattle.lp_expr.proofs.Again.{again}
use Rattle.lp_model.specs.CommandsView.{CommandView}
use Rattle.lp_upf_words.proofs.Once as lower
use Rattle.lp_spec_upf.specs.Commands.{Fault, Sense, intent_of}
use Rattle.lp_spec_upf.specs.Intent.{Denotes, HasSense}

abbrev is_only : List (List ℕ) → List ℕ → Bool
is_only [] control = false
is_only (n ∷ []) control = bytes_eq n control
is_only (n ∷ (m ∷ names)) control = false

abbrev sense_by : Bool → Bool → Bool → Option Bool
sense_by true true false = Some true
sense_by true false true = Some false
sense_by only on off = None

abbrev sense_in : Expression → List ℕ → Option Bool
sense_in f control = sense_by (is_only (occurring f) control) (holds f ((control, true) ∷ [])) (holds f ((control, false) ∷ []))

abbrev sense_at : Option (Tree × List ℕ) → List ℕ → Option Bool
sense_at None control = None
sense_at (Some r) control = sense_in (meaning r.0) control

abbrev result_at : Option State → Option (Tree × List ℕ)
result_at None = None
result_at (Some z) = result_of Control z

abbrev tree_of : List ℕ → Option (Tree × List ℕ)
tree_of text = result_at (steps (step Control) start text)

abbrev sense : Sense
sense = record { of = λ text control. sense_at (tree_of text) control }

only-is : (names : List (List ℕ)) (control : List ℕ) → is_only names control ≡ true → names ≡ control ∷ []
only-is [] control e = absurd cc
only-is (n ∷ []) control e = ap (λ x. x ∷ []) ((bytes_eq-Decides n control).0 e)
only-is (n ∷ (m ∷ names)) control e = absurd cc

same-only : (control : List ℕ) → bytes_eq control control ≡ true
same-only control = (bytes_eq-Decides control control).1 refl

record Parts (only on off high : Bool) : Type 0 where
  only_is : only ≡ true
  on_is : on ≡ high
  off_is : off ≡ (if high then false else true)

parts : (only on off high : Bool) → sense_by only on off ≡ Some high → Parts only on off high
parts true true false true e = record { only_is = refl; on_is = refl; off_is = refl }
parts true false true false e = record { only_is = refl; on_is = refl; off_is = refl }
parts true true false false e = absurd cc
parts true false true true e = absurd cc
parts true true true high e = absurd cc
parts true false false high e = absurd cc
parts false on off high e = absurd cc

whole : (only on off high : Bool) → Parts only on off high → sense_by only on off ≡ Some high
whole only on off true p = rw (p.only_is, p.on_is, p.off_is) refl
whole only on off false p = rw (p.only_is, p.on_is, p.off_is) refl

spelled : (text : List ℕ) (r : Tree × List ℕ) → tree_of text ≡ Some r → (text ≡ spelling r.0 ++ r.1) × IsTrue (is_tree Control r.0) × IsTrue (are_blank r.1)
spelled text r e = by (steps (step Control) start text) refl e
  where
    by : (o : Option State) → steps (step Control) start text ≡ o → result_at o ≡ Some r → (text ≡ spelling r.0 ++ r.1) × IsTrue (is_tree Control r.0) × IsTrue (are_blank r.1)
    by None s x = absurd cc
    by (Some z) s x = found Control text z r s x

sound : (text control : List ℕ) (high : Bool) → sense_at (tree_of text) control ≡ Some high → HasSense text control high
sound text control high e = by (tree_of text) refl e
  where
    by : (o : Option (Tree × List ℕ)) → tree_of text ≡ o → sense_at o control ≡ Some high → HasSense text control high
    by None t x = absurd cc
    by (Some r) t x =
        let s = spelled text r t in
        let f = meaning r.0 in
        let p = parts (is_only (occurring f) control) (holds f ((control, true) ∷ [])) (holds f ((control, false) ∷ [])) high x in
        record {
          spells = record { tree = r.0; tail = r.1; spelled = s.0; good = s.1; blank = s.2 };
          only = only-is (occurring f) control p.only_is;
          on = p.on_is;
          off = p.off_is;
        }

all : (text control : List ℕ) (high : Bool) → HasSense text control high → sense_at (tree_of text) control ≡ Some high
all text control high h =
    let s = h.spells in
    let f = meaning s.tree in
    let a = again Control s.tree s.tail s.good s.blank in
    let read : tree_of text ≡ Some (s.tree, s.tail) = ap tree_of s.spelled ∙ (ap result_at a.1 ∙ a.2) in
    ap (λ o. sense_at o control) read
    ∙ whole (is_only (occurring f) control) (holds f ((control, true) ∷ [])) (holds f ((control, false) ∷ [])) high
    (record { only_is = ap (λ names. is_only names control) h.only ∙ same-only control; on_is = h.on; off_is = h.off })

pub each : (text : List ℕ) → (said : Result (List CommandView) Fault) × Denotes text said
each text =
    let w = lower.each text in
    (intent_of sense w.0, record { outcome = w.0; words = w.1; sense = sense; senses = record { sound = sound; all = all }; is = refl })
