-- The options of a switch are judged one by one.
use Rattle.std.proofs.Common.{◌≡◌, ℕ, ◌+◌, ◌<◌, Bool, true, false, List, [], ◌∷◌, ◌++◌, refl, sym, ap, ◌∙◌, append_assoc, length, drop, get_or, map}
use Rattle.std.specs.Prelude.{Option, Some, Result, Ok, Err, IfOk, if◌then◌else◌}
use Rattle.std.specs.List.{flat_map, list_all}
use Rattle.std.proofs.lemmas.Bool.{and_parts}
use Rattle.std.proofs.lemmas.List.{append-nil, drop_more, map-append}
use Rattle.std.proofs.lemmas.List.Concat.{flat_map-append}
use Rattle.lp_model.specs.declared.upf.CommandOption.{CommandOption}
use Rattle.lp_model.specs.declared.upf.OptionWord.{OptionWord}
use Rattle.lp_model.specs.declared.upf.OptionWord.TheVariants as words
use Rattle.lp_model.specs.Agreement.{numbers_below}
use Rattle.lp_model.specs.CommandsView.{OptionView, command_option_numbers, line_numbers, option_text, option_view}
use Rattle.lp_spec_upf.specs.Commands.{Part, Sense, Unsupported, expression_faults, is_fit, judged_by, last_word, name_in, on_sense, option_in, same_option, sensed}
use Rattle.lp_spec_upf.specs.Intent.{IsSense}
use Rattle.lp_upf.specs.declared.options.Options.{Options}
use Rattle.lp_upf.specs.Controls.{IsOnSense, has_short}
use Rattle.lp_upf.specs.Faults.{Judged, faults_view, joined, judged}
use Rattle.lp_upf.specs.Options.{Read, options_view, read, read_of}
use Rattle.lp_upf.proofs.Carried.{below_join, below_parts}
use Rattle.lp_upf.proofs.Judged.{joined-assoc, judged-append}

one_fault : (sense : List ℕ → List ℕ → Option Bool) (control : List ℕ) (on : Option Bool) (o : OptionView) (os : List OptionView)
    → expression_faults sense control on (o ∷ os) ≡ expression_faults sense control on (o ∷ []) ++ expression_faults sense control on os
one_fault sense control on o os = by (is_fit o.word on (sense (last_word o.values) control))
  where
    by : (b : Bool) → (if b then expression_faults sense control on os else Unsupported o.place (option_text o.word) ∷ expression_faults sense control on os)
        ≡ (if b then [] else Unsupported o.place (option_text o.word) ∷ []) ++ expression_faults sense control on os
    by true = refl
    by false = refl

module _ (os : List CommandOption) (i : ℕ) (x : CommandOption) (low : i < length os) (at : x ≡ get_or os i x) where
  pub front : drop i os ≡ x ∷ drop (i + 1) os
  front = drop_more os i x low ∙ ap (λ (y : CommandOption). y ∷ drop (i + 1) os) (sym at)

  pub below_both : (n : ℕ) → numbers_below n (flat_map command_option_numbers (drop i os)) ≡ true → (numbers_below n (command_option_numbers x) ≡ true) × (numbers_below n (flat_map command_option_numbers (drop (i + 1) os)) ≡ true)
  below_both n h =
      below_parts n (command_option_numbers x) (flat_map command_option_numbers (drop (i + 1) os)) (sym (ap (λ (xs : List CommandOption). numbers_below n (flat_map command_option_numbers xs)) front) ∙ h)

  module _ (names : List (List ℕ)) where
    pub short_both : list_all has_short (map (option_view names) (drop i os)) ≡ true → (has_short (option_view names x) ≡ true) × (list_all has_short (map (option_view names) (drop (i + 1) os)) ≡ true)
    short_both h =
        and_parts (has_short (option_view names x)) (list_all has_short (map (option_view names) (drop (i + 1) os))) (sym (ap (λ (xs : List CommandOption). list_all has_short (map (option_view names) xs)) front) ∙ h)

    -- another word
    pub not_it : (w : OptionWord) → same_option x.word w ≡ false → option_in (map (option_view names) (drop i os)) w ≡ option_in (map (option_view names) (drop (i + 1) os)) w
    not_it w e =
        ap (λ (xs : List CommandOption). option_in (map (option_view names) xs) w) front
        ∙ ap (λ (b : Bool). if b then Some (option_view names x) else option_in (map (option_view names) (drop (i + 1) os)) w) e

    pub it : (w : OptionWord) → same_option x.word w ≡ true → option_in (map (option_view names) (drop i os)) w ≡ Some (option_view names x)
    it w e =
        ap (λ (xs : List CommandOption). option_in (map (option_view names) xs) w) front
        ∙ ap (λ (b : Bool). if b then Some (option_view names x) else option_in (map (option_view names) (drop (i + 1) os)) w) e

    module _ (s : Sense) (control : List ℕ) where
      pub option_more : (done : List CommandOption) (y : CommandOption) (all : List OptionView) → map (option_view names) done ++ sensed s.of control (map (option_view names) (drop i os)) ≡ all
          → option_view names y ∷ [] ≡ sensed s.of control (option_view names x ∷ [])
          → map (option_view names) (done ++ y ∷ []) ++ sensed s.of control (map (option_view names) (drop (i + 1) os)) ≡ all
      option_more done y all was is =
          let rest = sensed s.of control (map (option_view names) (drop (i + 1) os)) in
          ap (λ (xs : List OptionView). xs ++ rest) (map-append (option_view names) done (y ∷ []))
          ∙ append_assoc (map (option_view names) done) (option_view names y ∷ []) rest
          ∙ ap (λ (xs : List OptionView). map (option_view names) done ++ (xs ++ rest)) is
          ∙ sym (ap (λ (xs : List CommandOption). map (option_view names) done ++ sensed s.of control (map (option_view names) xs)) front)
          ∙ was

      pub faults_more : (on : Option Bool) (j k all : Judged) → joined j (judged (expression_faults s.of control on (map (option_view names) (drop i os)))) ≡ all
          → k ≡ judged (expression_faults s.of control on (option_view names x ∷ []))
          → joined (joined j k) (judged (expression_faults s.of control on (map (option_view names) (drop (i + 1) os)))) ≡ all
      faults_more on j k all was is =
          let one = expression_faults s.of control on (option_view names x ∷ []) in
          let rest = expression_faults s.of control on (map (option_view names) (drop (i + 1) os)) in
          joined-assoc j k (judged rest)
          ∙ ap (λ (m : Judged). joined j (joined m (judged rest))) is
          ∙ ap (joined j) (sym (judged-append one rest) ∙ ap judged (sym (one_fault s.of control on (option_view names x) (map (option_view names) (drop (i + 1) os)))))
          ∙ sym (ap (λ (xs : List CommandOption). joined j (judged (expression_faults s.of control on (map (option_view names) xs)))) front)
          ∙ was

-- one option more, with the values of another
pub below_more_option : (n : ℕ) (done : List CommandOption) (y x : CommandOption) → numbers_below n (flat_map command_option_numbers done) ≡ true → numbers_below n (command_option_numbers x) ≡ true → y.values ≡ x.values
    → numbers_below n (flat_map command_option_numbers (done ++ y ∷ [])) ≡ true
below_more_option n done y x h k same =
    ap (numbers_below n) (flat_map-append command_option_numbers done (y ∷ []))
    ∙ below_join n (flat_map command_option_numbers done) (flat_map command_option_numbers (y ∷ [])) h
    (ap (numbers_below n) (append-nil (line_numbers y.values) ∙ ap line_numbers same) ∙ k)

-- ---- the options of a switch as a whole

three : (a b : List OptionView) (i j : Judged) (v w : Bool) → a ≡ b → i ≡ j → v ≡ w → read a i v ≡ read b j w
three a b i j v w x y z = ap (λ (os : List OptionView). read os i v) x ∙ ap (λ (k : Judged). read b k v) y ∙ ap (λ (c : Bool). read b j c) z

pub judged_so : {E : Type 0} (names : List (List ℕ)) (before : Options) (control : List ℕ) (on : Option Bool) (r : Result Options E)
    → IfOk r (λ o. (s : Sense) → IsSense s → (options_view names o).options ≡ sensed s.of control (options_view names before).options)
    → IfOk r (λ o. (s : Sense) → IsSense s → faults_view names o.faults ≡ joined (faults_view names before.faults) (judged (expression_faults s.of control on (options_view names before).options)))
    → IfOk r (λ o. o.whole ≡ before.whole)
    → IsOnSense (options_view names before).options control on
    → Some control ≡ name_in (options_view names before).options words.ControlPort
    → IfOk r (λ o. (s : Sense) → IsSense s → (p : Part) → options_view names before ≡ read_of p → options_view names o ≡ read_of (judged_by s.of (name_in p.options words.ControlPort) p))
judged_so names before control on (Err e) os fs w first named = tt
judged_so names before control on (Ok o) os fs w first named = λ s i p h.
    let same = ap (λ (r : Read). r.options) h in
    let found = ap (λ (r : Read). r.faults) h in
    let all = options_view names before in
    three (options_view names o).options (sensed s.of control p.options) (faults_view names o.faults)
    (judged (p.faults ++ expression_faults s.of control (on_sense s.of control (option_in p.options words.OnState)) p.options)) o.whole p.whole
    (os s i ∙ ap (sensed s.of control) same)
    (fs s i
    ∙ ap (λ (j : Judged). joined j (judged (expression_faults s.of control on all.options))) found
    ∙ ap (λ (x : Option Bool). joined (judged p.faults) (judged (expression_faults s.of control x all.options))) (first s i)
    ∙ ap (λ (xs : List OptionView). joined (judged p.faults) (judged (expression_faults s.of control (on_sense s.of control (option_in xs words.OnState)) xs))) same
    ∙ sym (judged-append p.faults (expression_faults s.of control (on_sense s.of control (option_in p.options words.OnState)) p.options)))
    (w ∙ ap (λ (r : Read). r.whole) h)
    ∙ ap (λ (c : Option (List ℕ)). read_of (judged_by s.of c p)) (named ∙ ap (λ (xs : List OptionView). name_in xs words.ControlPort) same)
