-- Machines that take tokens until they stop, and the place at which one stops (own rule).
use Rattle.std.proofs.Common.{◌≡◌, ℕ, ◌+◌, ◌<◌, ◌≤◌, Bool, true, false, List, [], ◌∷◌, ◌++◌, length, take, drop, Option, Some, None, refl, sym, ap, ◌∙◌, subst, arith, append_assoc}
use Rattle.std.specs.Prelude.{option_and_then}
use Rattle.std.proofs.lemmas.Bool.{true≢false}
use Rattle.std.proofs.lemmas.List.{take-append-drop}
use Rattle.lp_spec_place.specs.Leaving.{Leaves}

module _ {S T : Type 0} (step : S → T → Option S) where
  -- the state behind some tokens, none where the machine stops among them
  abbrev pub steps : S → List T → Option S
  steps s [] = Some s
  steps s (t ∷ text) = option_and_then (λ u. steps u text) (step s t)

  pub steps-append : (s : S) (front back : List T) → steps s (front ++ back) ≡ option_and_then (λ u. steps u back) (steps s front)
  steps-append s [] back = refl
  steps-append s (t ∷ front) back = by (step s t) (λ u. steps-append u front back)
    where
      by : (o : Option S) → ((u : S) → steps u (front ++ back) ≡ option_and_then (λ v. steps v back) (steps u front)) → option_and_then (λ u. steps u (front ++ back)) o ≡ option_and_then (λ u. steps u back) (option_and_then (λ u. steps u front) o)
      by None more = refl
      by (Some u) more = more u

  -- what steps keep holds behind them
  pub steps-keep : (Good : S → Type 0) → ((s : S) (t : T) (u : S) → Good s → step s t ≡ Some u → Good u) → (s : S) (text : List T) (u : S) → Good s → steps s text ≡ Some u → Good u
  steps-keep Good keep s [] u good e = let same : s ≡ u = cc in subst Good same good
  steps-keep Good keep s (t ∷ text) u good e = by (step s t) refl (λ v g h. steps-keep Good keep v text u g h)
    where
      by : (o : Option S) → step s t ≡ o → ((v : S) → Good v → steps v text ≡ Some u → Good u) → Good u
      by None stop more = let gone : option_and_then (λ v. steps v text) None ≡ Some u = ap (λ o. option_and_then (λ v. steps v text) o) (sym stop) ∙ e in absurd cc
      by (Some v) next more = more v (keep s t v good next) (ap (λ o. option_and_then (λ w. steps w text) o) (sym next) ∙ e)

  -- the machine takes no token of what is left, or does not accept where nothing is left
  abbrev pub Stops : (S → Bool) → S → List T → Type 0
  Stops accepts s [] = accepts s ≡ false
  Stops accepts s (t ∷ rest) = step s t ≡ None

  -- accepted texts are those of a language
  pub record Recognizes (accepts : S → Bool) (start : S) (language : List T → Type 0) : Type 0 where
    pub found : (text : List T) (s : S) → steps start text ≡ Some s → accepts s ≡ true → language text
    pub again : (text : List T) → language text → (s : S) × (steps start text ≡ Some s) × (accepts s ≡ true)

  -- from each state that the machine comes to it can be led to acceptance
  pub record Finishes (accepts : S → Bool) (start : S) (Good : S → Type 0) : Type 0 where
    pub begins : Good start
    pub keeps : (s : S) (t : T) (u : S) → Good s → step s t ≡ Some u → Good u
    pub ends : (s : S) → Good s → (rest : List T) × (u : S) × (steps s rest ≡ Some u) × (accepts u ≡ true)

  -- where the machine stops first, the text leaves the language
  pub leaves : (accepts : S → Bool) (start : S) (language : List T → Type 0) (Good : S → Type 0) → Recognizes accepts start language → Finishes accepts start Good
      → (text : List T) (place : ℕ) (s : S) → place ≤ length text → steps start (take place text) ≡ Some s → Stops accepts s (drop place text) → Leaves T language text place
  leaves accepts start language Good r f text place s within taken stop = record { within = within; before = before; here = here; ended = ended }
    where
      front : List T
      front = take place text

      behind : (rest : List T) → steps start (front ++ rest) ≡ steps s rest
      behind rest = steps-append start front rest ∙ ap (λ o. option_and_then (λ u. steps u rest) o) taken

      before : (rest : List T) × language (front ++ rest)
      before =
          let fin = f.ends s (steps-keep Good f.keeps start front s f.begins taken) in
          (fin.0, r.found (front ++ fin.0) fin.1 (behind fin.0 ∙ fin.2) fin.3)

      here : (t : T) (after : List T) → drop place text ≡ t ∷ after → (rest : List T) → language (front ++ t ∷ rest) → ⊥
      here t after e rest h =
          let read = r.again (front ++ t ∷ rest) h in
          let none : step s t ≡ None = subst (Stops accepts s) e stop in
          let gone : option_and_then (λ u. steps u rest) None ≡ Some read.0 = ap (λ o. option_and_then (λ u. steps u rest) o) (sym none) ∙ sym (behind (t ∷ rest)) ∙ read.1 in
          absurd cc

      ended : drop place text ≡ [] → language text → ⊥
      ended e h =
          let read = r.again text h in
          let refused : accepts s ≡ false = subst (Stops accepts s) e stop in
          let all : steps start text ≡ Some s = ap (steps start) (sym (take-append-drop place text)) ∙ behind (drop place text) ∙ ap (steps s) e in
          let found_same : Some s ≡ Some read.0 = sym all ∙ read.1 in
          let same : s ≡ read.0 = cc in
          absurd (true≢false (sym read.2 ∙ ap accepts (sym same) ∙ refused))
