-- What the test for equal Boolean functions shows, and what it shows of power-down functions.
use Rattle.std.proofs.Common.{◌≡◌, ℕ, ◌==◌, Bool, true, false, not, ◌&&◌, List, [], ◌∷◌, ◌++◌, length, Option, Some, None, inl, inr, refl, sym, ap, ◌∙◌, subst}
use Rattle.std.specs.Prelude.{map, if◌then◌else◌, nat_le, option_and_then}
use Rattle.std.specs.List.{list_any, list_all}
use Rattle.std.proofs.lemmas.Bool.{false≢true, and_parts, or_cases, eqb-true, eq-eqb}
use Rattle.std.proofs.lemmas.List.Folds.{list_all-append}
use Rattle.lp_expr.specs.Formula.{truth}
use Rattle.lp_model.specs.declared.supply.SetOrigins.{SetOrigins}
use Rattle.lp_model.specs.LibraryView.{ExprView, PgPinView, CellView}
use Rattle.lp_spec_design.specs.Keys.{Name, same_bool}
use Rattle.lp_spec_design.specs.Winners.{IsIn}
use Rattle.lp_spec_design.specs.Graph.{and_more, some_of}
use Rattle.lp_spec_pins.specs.Pins.{is_power}
use Rattle.lp_spec_fit.specs.Equality.{choices, once, chosen, agree_over, are_equal}
use Rattle.lp_spec_fit.specs.Joins.{Joins}
use Rattle.lp_spec_fit.specs.PowerDown.{Onness, is_set_on, is_some_off, origin_of_pin, level_where, power_down_where, origins_named, origins_of_sets, power_down_equals}

same_bool-true : (a b : Bool) → same_bool a b ≡ true → a ≡ b
same_bool-true true b e = sym e
same_bool-true false true e = absurd (false≢true e)
same_bool-true false false e = refl

list_all-map : {A B : Type 0} (p : B → Bool) (f : A → B) (xs : List A) → list_all p (map f xs) ≡ list_all (λ x. p (f x)) xs
list_all-map p f [] = refl
list_all-map p f (x ∷ xs) = ap (λ b. p (f x) && b) (list_all-map p f xs)

module _ {K : Type 0} (same : K → K → Bool) (same_true : (a b : K) → same a b ≡ true → a ≡ b) (true_same : (a : K) → same a a ≡ true) where
  -- two choices agree on a list
  abbrev AgreeOn : List K → (K → Bool) → (K → Bool) → Type 0
  AgreeOn ks v w = (k : K) → IsIn k ks → v k ≡ w k

  -- a function looks only at a list
  abbrev LooksOnlyAt : List K → ((K → Bool) → Bool) → Type 0
  LooksOnlyAt ks f = (v w : K → Bool) → AgreeOn ks v w → f v ≡ f w

  -- each choice is one of all choices
  among : (v : K → Bool) (ks : List K) (p : List Bool → Bool) → list_all p (choices (length ks)) ≡ true → p (map v ks) ≡ true
  among v [] p e = (and_parts (p []) true e).0
  among v (k ∷ ks) p e =
      let halves = and_parts (list_all p (map (λ c. false ∷ c) (choices (length ks)))) (list_all p (map (λ c. true ∷ c) (choices (length ks)))) (sym (list_all-append p (map (λ c. false ∷ c) (choices (length ks))) (map (λ c. true ∷ c) (choices (length ks)))) ∙ e) in
      by (v k)
      (among v ks (λ c. p (false ∷ c)) (sym (list_all-map p (λ c. false ∷ c) (choices (length ks))) ∙ halves.0))
      (among v ks (λ c. p (true ∷ c)) (sym (list_all-map p (λ c. true ∷ c) (choices (length ks))) ∙ halves.1))
    where
      by : (b : Bool) → p (false ∷ map v ks) ≡ true → p (true ∷ map v ks) ≡ true → p (b ∷ map v ks) ≡ true
      by true f t = t
      by false f t = f

  -- a choice gives each thing of its list what it had
  chosen-same : (v : K → Bool) (ks : List K) (k : K) → IsIn k ks → chosen same ks (map v ks) k ≡ v k
  chosen-same v [] k h = absurd h
  chosen-same v (j ∷ js) k h = by (same j k) refl (chosen-same v js k)
    where
      by : (b : Bool) → same j k ≡ b → (IsIn k js → chosen same js (map v js) k ≡ v k) → chosen same (j ∷ js) (map v (j ∷ js)) k ≡ v k
      by true e more = rw e (ap v (same_true j k e))
      by false e more = elim h [ inl is ↦ absurd (false≢true (sym e ∙ ap (λ x. same j x) is ∙ true_same j)) | inr rest ↦ rw e (more rest) ]

  any-in : (j : K) (js : List K) → list_any (same j) js ≡ true → IsIn j js
  any-in j [] e = absurd (false≢true e)
  any-in j (l ∷ js) e = elim (or_cases (same j l) (list_any (same j) js) e) [ inl here ↦ inl (same_true j l here) | inr rest ↦ inr (any-in j js rest) ]

  once-keeps : (ks : List K) (k : K) → IsIn k ks → IsIn k (once same ks)
  once-keeps [] k h = absurd h
  once-keeps (j ∷ js) k h = by (list_any (same j) js) refl (once-keeps js k)
    where
      by : (b : Bool) → list_any (same j) js ≡ b → (IsIn k js → IsIn k (once same js)) → IsIn k (once same (j ∷ js))
      by true e more = rw e (elim h [ inl is ↦ more (subst (λ x. IsIn x js) (sym is) (any-in j js e)) | inr rest ↦ more rest ])
      by false e more = rw e (elim h [ inl is ↦ inl is | inr rest ↦ inr (more rest) ])

  -- functions that the test finds equal, and that look only at the things of its list, have one value for every choice
  pub equal_everywhere : (ks : List K) (f g : (K → Bool) → Bool) → are_equal same ks f g ≡ true → LooksOnlyAt ks f → LooksOnlyAt ks g → (v : K → Bool) → f v ≡ g v
  equal_everywhere ks f g e looks also v =
      let kept = once same ks in
      let w : K → Bool = chosen same kept (map v kept) in
      let parts = and_parts (nat_le (length kept) 12) (agree_over same kept f g) e in
      let here = among v kept (λ c. same_bool (f (chosen same kept c)) (g (chosen same kept c))) parts.1 in
      let agree : AgreeOn ks v w = λ k h. sym (chosen-same v kept k (once-keeps ks k h)) in
      looks v w agree ∙ (same_bool-true (f w) (g w) here ∙ sym (also v w agree))

-- ---- power-down functions

abbrev Agree : List ℕ → Onness → Onness → Type 0
Agree ks v w = (k : ℕ) → IsIn k ks → v k ≡ w k

in-left : (k : ℕ) (xs ys : List ℕ) → IsIn k xs → IsIn k (xs ++ ys)
in-left k [] ys h = absurd h
in-left k (x ∷ xs) ys h = elim h [ inl is ↦ inl is | inr rest ↦ inr (in-left k xs ys rest) ]

in-right : (k : ℕ) (xs ys : List ℕ) → IsIn k ys → IsIn k (xs ++ ys)
in-right k [] ys h = h
in-right k (x ∷ xs) ys h = inr (in-right k xs ys h)

module _ (v w : Onness) where
  level-same : (o : Option (ℕ × PgPinView)) (rest : List ℕ) → Agree (and_more (option_and_then (λ x. Some x.0) o) rest) v w → level_where v o ≡ level_where w o
  level-same None rest h = refl
  level-same (Some x) rest h = ap (λ b. if is_power x.1.kind then b else not b) (h x.0 (inl refl))

  behind-first : (o : Option (ℕ × PgPinView)) (rest : List ℕ) → Agree (and_more (option_and_then (λ x. Some x.0) o) rest) v w → Agree rest v w
  behind-first None rest h = h
  behind-first (Some x) rest h = λ k m. h k (inr m)

  names-same : (c : CellView) (join : Joins) (names : List Name) → Agree (some_of (λ n. option_and_then (λ x. Some x.0) (origin_of_pin c join n)) names) v w → map (λ n. level_where v (origin_of_pin c join n)) names ≡ map (λ n. level_where w (origin_of_pin c join n)) names
  names-same c join [] h = refl
  names-same c join (n ∷ names) h =
      let rest = some_of (λ m. option_and_then (λ x. Some x.0) (origin_of_pin c join m)) names in
      λ i. level-same (origin_of_pin c join n) rest h i ∷ names-same c join names (behind-first (origin_of_pin c join n) rest h) i

  sets-same : (sets : List SetOrigins) → Agree (origins_of_sets sets) v w → list_all (is_set_on v) sets ≡ list_all (is_set_on w) sets
  sets-same [] h = refl
  sets-same (s ∷ sets) h = λ i. (h s.power.0 (inl refl) i && h s.gnd.0 (inr (inl refl)) i) && sets-same sets (λ k m. h k (inr (inr m))) i

-- a power-down function that equals some sets is 1 exactly where one of them is not on
pub power_down_everywhere : (c : CellView) (join : Joins) (sets : List SetOrigins) (e : ExprView) → power_down_equals c join sets (Some e) ≡ true → (on : Onness) → power_down_where c join e on ≡ is_some_off sets on
power_down_everywhere c join sets e h on =
    equal_everywhere (λ a b. a == b) (λ a b. eqb-true a b) (λ a. eq-eqb a a refl)
    (origins_named c join e ++ origins_of_sets sets) (power_down_where c join e) (is_some_off sets) h
    (λ v w agree. ap (truth e.steps) (names-same v w c join e.variables (λ k m. agree k (in-left k (origins_named c join e) (origins_of_sets sets) m))))
    (λ v w agree. ap not (sets-same v w sets (λ k m. agree k (in-right k (origins_named c join e) (origins_of_sets sets) m))))
    on
