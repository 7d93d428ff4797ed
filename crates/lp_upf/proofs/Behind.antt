-- The name behind the word of a command, and what is read behind it.
use Rattle.std.proofs.Common.{◌≡◌, ℕ, length, get_or, Bool, true, false, List, [], ◌∷◌, refl, sym, ap, ◌∙◌, map}
use Rattle.std.specs.Prelude.{Option, Some, None, if◌then◌else◌, ◌==◌}
use Rattle.std.specs.Option.{option_map}
use Rattle.lp_text.specs.declared.place.Place.{Place}
use Rattle.lp_model.specs.declared.upf.UpfWord.{UpfWord}
use Rattle.lp_model.specs.CommandsView.{WordView, line_view, word_view}
use Rattle.lp_upf_words.specs.declared.elements.Elements.{Elements}
use Rattle.lp_upf_words.specs.declared.mode.Stop.{Stop}
use Rattle.lp_upf_words.specs.Elements.{ReadsElements, content_end, elements_of, words_of}
use Rattle.lp_spec_upf.specs.Shapes.{NameRule, NoName, MayName, OneName, NameList, Rest}
use Rattle.lp_spec_upf.specs.Commands.{Fault, Part, Named, cut, faults_of_list, is_any_syntax, list_faults, name_missing, named_of, with_faults}
use Rattle.lp_spec_upf.specs.Commands as spec
use Rattle.lp_upf.specs.Faults.{Judged, joined, judged}
use Rattle.lp_upf.specs.Named.{behind_word, faults_of_name, is_nameless, name_word}
use Rattle.lp_upf.specs.Options.{Read, read, read_of}
use Rattle.lp_upf.proofs.Carried.{at_its_end}
use Rattle.lp_upf.proofs.Judged.{judged-append}

module _ (e : Option Place) (more : List WordView → Part) where
  pub without : (r : NameRule) (ws : List WordView) → is_nameless r ws ≡ true → (named_of r e more ws).rest ≡ (name_missing e).rest
  without OneName [] h = refl
  without NameList [] h = refl
  without NoName ws h = absurd cc
  without MayName ws h = absurd cc
  without OneName (w ∷ ws) h = absurd cc
  without NameList (w ∷ ws) h = absurd cc

  pub within : (r : NameRule) (ws : List WordView) → is_nameless r ws ≡ false → (named_of r e more ws).rest ≡ spec.behind_name (faults_of_name r ws) (more (behind_word r ws))
  within NoName ws h = refl
  within MayName [] h = refl
  within MayName (w ∷ ws) h = refl
  within OneName [] h = absurd cc
  within OneName (w ∷ ws) h = refl
  within NameList [] h = absurd cc
  within NameList (w ∷ ws) h = refl

  missing_name : (e : Option Place) → None ≡ (name_missing e).name
  missing_name None = refl
  missing_name (Some p) = refl

  pub its_name : (r : NameRule) (ws : List WordView) → name_word r ws ≡ (named_of r e more ws).name
  its_name NoName ws = refl
  its_name MayName [] = refl
  its_name MayName (w ∷ ws) = refl
  its_name OneName [] = missing_name e
  its_name OneName (w ∷ ws) = refl
  its_name NameList [] = missing_name e
  its_name NameList (w ∷ ws) = refl

module _ (A B : Type 0) (f : A → B) where
  pub nameless_map : (r : NameRule) (ws : List A) → is_nameless r (map f ws) ≡ is_nameless r ws
  nameless_map NoName ws = refl
  nameless_map MayName ws = refl
  nameless_map OneName [] = refl
  nameless_map OneName (w ∷ ws) = refl
  nameless_map NameList [] = refl
  nameless_map NameList (w ∷ ws) = refl

  pub behind_map : (r : NameRule) (ws : List A) → behind_word r (map f ws) ≡ map f (behind_word r ws)
  behind_map NoName ws = refl
  behind_map MayName [] = refl
  behind_map OneName [] = refl
  behind_map NameList [] = refl
  behind_map MayName (w ∷ ws) = refl
  behind_map OneName (w ∷ ws) = refl
  behind_map NameList (w ∷ ws) = refl

  pub name_map : (r : NameRule) (ws : List A) → option_map f (name_word r ws) ≡ name_word r (map f ws)
  name_map NoName ws = refl
  name_map MayName [] = refl
  name_map OneName [] = refl
  name_map NameList [] = refl
  name_map MayName (w ∷ ws) = refl
  name_map OneName (w ∷ ws) = refl
  name_map NameList (w ∷ ws) = refl

-- a name off the form cuts the command
pub cut_name : (fs : List Fault) (p : Part) (j : Judged) → j ≡ judged fs → j.cut ≡ true → read [] j false ≡ read_of (spec.behind_name fs p)
cut_name fs p j e h =
    ap (λ (k : Judged). read [] k false) e
    ∙ ap (λ (b : Bool). read_of (if b then cut fs else with_faults fs p)) (sym (sym (ap (λ (k : Judged). k.cut) e) ∙ h))

-- else the options follow
pub after_name : (fs : List Fault) (p : Part) (j : Judged) (r : Read) → j ≡ judged fs → j.cut ≡ false → r ≡ read_of p → read r.options (joined j r.faults) r.whole ≡ read_of (spec.behind_name fs p)
after_name fs p j r e h is =
    ap (λ (x : Read). read x.options (joined j x.faults) x.whole) is
    ∙ ap (λ (k : Judged). read p.options (joined k (judged p.faults)) p.whole) e
    ∙ ap (λ (k : Judged). read p.options k p.whole) (sym (judged-append fs p.faults))
    ∙ ap (λ (b : Bool). read_of (if b then cut fs else with_faults fs p)) (sym (sym (ap (λ (k : Judged). k.cut) e) ∙ h))

first_listed : (names : List (List ℕ)) (ws : List UpfWord) (d : UpfWord) → (length ws == 0) ≡ false → faults_of_list Rest (word_view names (get_or ws 0 d)) ≡ faults_of_name NameList (line_view names ws)
first_listed names [] d h = absurd cc
first_listed names (w ∷ ws) d h = refl

-- a name that is a list
pub listed_name : (old new : List (List ℕ)) (ws : List UpfWord) (w d : UpfWord) (e : Elements) (r : NameRule) (j : Judged) → (length ws == 0) ≡ false → w ≡ get_or ws 0 d → r ≡ NameList → ReadsElements (word_view old w) new e
    → j ≡ judged (list_faults Rest (line_view new e.words) e.stop e.end) → j ≡ judged (faults_of_name r (line_view old ws))
listed_name old new ws w d e r j some is rule reads value =
    let v = word_view old w in
    value
    ∙ ap judged
    (at_its_end Rest (line_view new e.words) e.stop e.end (content_end v) reads.end
    ∙ ap (λ (xs : List WordView). list_faults Rest xs e.stop (content_end v)) reads.words
    ∙ ap (λ (x : Option Stop). list_faults Rest (words_of (elements_of v)) x (content_end v)) reads.stop
    ∙ ap (λ (x : UpfWord). faults_of_list Rest (word_view old x)) is
    ∙ first_listed old ws d some
    ∙ ap (λ (x : NameRule). faults_of_name x (line_view old ws)) (sym rule))
