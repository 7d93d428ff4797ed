-- The value of a function by the values that it has at each bit of the state.
use Rattle.std.proofs.Common.{◌≡◌, Bool, true, false, not, ◌&&◌, cond, List, [], ◌∷◌, ◌++◌, Option, None, map, refl, sym, ap, ◌∙◌}
use Rattle.std.specs.List.{list_all}
use Rattle.std.proofs.lemmas.List.{append-nil}
use Rattle.std.proofs.lemmas.List.Folds.{list_all-append}
use Rattle.lp_tern.specs.declared.tern.Tern.{Tern}
use Rattle.lp_tern.specs.declared.tern.Tern.TheVariants.{Zero, One, X}
use Rattle.lp_tern.specs.Values.{agreed, choose_of}
use Rattle.lp_expr.specs.Formula.{Formula, truth, completions, value_of}
use Rattle.lp_model.specs.declared.library.Cell.{Cell}
use Rattle.lp_model.specs.declared.library.StateGroup.{StateGroup}
use Rattle.lp_behaviour.specs.Signals.{at_place, input_place, state_value}
use Rattle.lp_behaviour.specs.Functions.{variable_values, truths, function_value}

-- a list that is not empty
record Starts {A : Type 0} (xs : List A) : Type 0 where
  first : A
  rest : List A
  is : xs ≡ first ∷ rest

completions-starts : (v : List Tern) → Starts (completions v)
completions-starts [] = record { first = []; rest = []; is = refl }
completions-starts (Zero ∷ v) =
    let s = completions-starts v in
    record { first = false ∷ s.first; rest = map (λ c. false ∷ c) s.rest ++ []; is = rw s.is refl }
completions-starts (One ∷ v) =
    let s = completions-starts v in
    record { first = true ∷ s.first; rest = map (λ c. true ∷ c) s.rest ++ []; is = rw s.is refl }
completions-starts (X ∷ v) =
    let s = completions-starts v in
    record { first = false ∷ s.first; rest = map (λ c. false ∷ c) s.rest ++ (map (λ c. true ∷ c) (completions v) ++ []); is = rw s.is refl }

-- values are not all true and all false
apart : (x : Bool) (xs : List Bool) → (list_all (λ b. b) (x ∷ xs) && list_all not (x ∷ xs)) ≡ false
apart true xs = elim (list_all (λ b. b) xs) as (λ v. (v && false) ≡ false) [ true ↦ refl | false ↦ refl ]
apart false xs = refl

truths-apart : (cell : Cell) (pins : List Tern) (e : Formula) (bit : Bool)
    → (list_all (λ b. b) (truths cell pins e bit) && list_all not (truths cell pins e bit)) ≡ false
truths-apart cell pins e bit =
    let s = completions-starts (variable_values cell pins bit e) in
    rw s.is (apart (truth e.steps s.first) (map (truth e.steps) s.rest))

-- what two lists agree on, by whether each is all true or all false
joined : (a n b m : Bool) → (a && n) ≡ false → (b && m) ≡ false
    → cond (a && b) One (cond (n && m) Zero X) ≡ choose_of X (cond b One (cond m Zero X)) (cond a One (cond n Zero X))
joined true true b m h k = absurd (cc)
joined true false true true h k = absurd (cc)
joined true false true false h k = refl
joined true false false true h k = refl
joined true false false false h k = refl
joined false true true true h k = absurd (cc)
joined false true true false h k = refl
joined false true false true h k = refl
joined false true false false h k = refl
joined false false true true h k = absurd (cc)
joined false false true false h k = refl
joined false false false true h k = refl
joined false false false false h k = refl

agreed-append : (xs ys : List Bool) → (list_all (λ b. b) xs && list_all not xs) ≡ false → (list_all (λ b. b) ys && list_all not ys) ≡ false
    → agreed (xs ++ ys) ≡ choose_of X (agreed ys) (agreed xs)
agreed-append xs ys h k =
    rw (list_all-append (λ b. b) xs ys, list_all-append not xs ys) (joined (list_all (λ b. b) xs) (list_all not xs) (list_all (λ b. b) ys) (list_all not ys) h k)

-- a function has the value that it has at both bits of the state, where the state is unknown
pub by_bit : (cell : Cell) (pins : List Tern) (state : Tern) (e : Formula)
    → function_value cell pins state e ≡ choose_of state (value_of e (variable_values cell pins true e)) (value_of e (variable_values cell pins false e))
by_bit cell pins Zero e = ap agreed (append-nil (truths cell pins e false))
by_bit cell pins One e = ap agreed (append-nil (truths cell pins e true))
by_bit cell pins X e =
    ap (λ ys. agreed (truths cell pins e false ++ ys)) (append-nil (truths cell pins e true))
    ∙ agreed-append (truths cell pins e false) (truths cell pins e true) (truths-apart cell pins e false) (truths-apart cell pins e true)

values_in : Cell → List Tern → Formula → Bool → Option StateGroup → List Tern
values_in cell pins e bit s = map (λ name. at_place pins (input_place cell.pins name) (state_value s bit name)) e.variables

same-self : (a : Tern) → choose_of X a a ≡ a
same-self Zero = refl
same-self One = refl
same-self X = refl

-- without a state its bit does not count
pub stateless : (cell : Cell) (pins : List Tern) (e : Formula) → cell.state ≡ None
    → function_value cell pins X e ≡ value_of e (variable_values cell pins false e)
unfolding values_in
stateless cell pins e none =
    let same : variable_values cell pins true e ≡ variable_values cell pins false e = ap (values_in cell pins e true) none ∙ sym (ap (values_in cell pins e false) none) in
    by_bit cell pins X e
    ∙ ap (λ v. choose_of X (value_of e v) (value_of e (variable_values cell pins false e))) same
    ∙ same-self (value_of e (variable_values cell pins false e))
