-- The value of a function of a cell without a state that equals a given one of some pins: what this one gives for each choice that may stand for the pins' values.
use Rattle.std.proofs.Common.{◌≡◌, Bool, true, false, List, [], ◌∷◌, ◌++◌, map, Option, Some, None, inl, inr, refl, sym, ap, ◌∙◌, subst}
use Rattle.std.specs.Prelude.{bytes_eq, is_some}
use Rattle.std.specs.List.{list_all}
use Rattle.std.proofs.lemmas.Bool.{false≢true, and_parts, or_cases}
use Rattle.lp_text.specs.Texts.{distinct, same_text-true, true-same_text}
use Rattle.lp_tern.specs.declared.tern.Tern.{Tern}
use Rattle.lp_tern.specs.Values.{agreed}
use Rattle.lp_expr.specs.Formula.{truth}
use Rattle.lp_expr.specs.Replaces.{Keeps}
use Rattle.lp_model.specs.LibraryView.{ExprView, PinView, CellView}
use Rattle.lp_spec_design.specs.Keys.{Name}
use Rattle.lp_spec_design.specs.Winners.{IsIn}
use Rattle.lp_spec_design.specs.Settled.{read_pin, state_named, value_named, named_value, function_value}
use Rattle.lp_spec_design.proofs.Members.{in-left, in-right}
use Rattle.lp_spec_fit.specs.Fits.{Signal, OfPin, OfState, has_function}
use Rattle.lp_spec_fit.proofs.Equal.{equal_everywhere}
use Rattle.lp_spec_cells.specs.Sound.{is_state_name, is_signal, is_function_of}
use Rattle.lp_spec_cells.proofs.Outcomes.{all-in, agreed-same}
use Rattle.lp_spec_cells.proofs.Functions.{Choice, AllMean, outcomes, is-outcome, of-outcome, some_bit, keeps-some}

-- what pins may be
abbrev pub May : (Name → Tern) → (Name → Bool) → Type 0
May pins u = (n : Name) → Keeps (pins n) (u n)

-- a bit that a function gives for what the pins may be
pub record Given (pins : Name → Tern) (f : (Name → Bool) → Bool) (b : Bool) : Type 0 where
  pub by : Name → Bool
  pub may : May pins by
  pub is : b ≡ f by

-- a function looks only at some names
abbrev pub LooksAt : List Name → ((Name → Bool) → Bool) → Type 0
LooksAt names f = (u v : Name → Bool) → ((n : Name) → IsIn n names → u n ≡ v n) → f u ≡ f v

maps-same : (u v : Name → Bool) (ns : List Name) → ((n : Name) → IsIn n ns → u n ≡ v n) → map u ns ≡ map v ns
maps-same u v [] h = refl
maps-same u v (n ∷ ns) h = λ i. h n (inl refl) i ∷ maps-same u v ns (λ m k. h m (inr k)) i

-- a function that passes the test is the given one
pub function-is : (names : List Name) (f : (Name → Bool) → Bool) (e : ExprView) → has_function names f (Some e) ≡ true → LooksAt names f → (u : Name → Bool) → truth e.steps (map u e.variables) ≡ f u
function-is names f e h looks u =
    equal_everywhere bytes_eq same_text-true (λ a. true-same_text a a refl) (e.variables ++ names) (λ v. truth e.steps (map v e.variables)) f h
    (λ v w agree. ap (truth e.steps) (maps-same v w e.variables (λ k m. agree k (in-left k e.variables names m))))
    (λ v w agree. looks v w (λ k m. agree k (in-right k e.variables names m)))
    u

module _ (c : CellView) (none : c.state ≡ None) (pins : Name → Tern) (state : Tern) (e : ExprView) (sound : is_function_of c e ≡ true) where
  as_pin : Name → Signal × Bool
  as_pin v = (OfPin v, false)

  sound-parts : (distinct e.variables ≡ true) × (list_all (is_signal c) e.variables ≡ true)
  sound-parts = and_parts (distinct e.variables) (list_all (is_signal c) e.variables) sound

  is-input : (v : Name) → is_signal c v ≡ true → is_some (read_pin c v) ≡ true
  is-input v s = elim (or_cases (is_some (read_pin c v)) (is_state_name c.state v) s) [ inl i ↦ i | inr n ↦ absurd (false≢true (sym (ap (λ g. is_state_name g v) none) ∙ n)) ]

  value-at : (v : Name) (q : Option PinView) → is_some q ≡ true → (bit : Bool) → value_named q (pins v) (state_named c.state bit v) ≡ pins v
  value-at v (Some q) s bit = refl
  value-at v None s bit = absurd (false≢true s)

  all-mean : AllMean as_pin (named_value c pins) pins e.variables
  unfolding as_pin
  all-mean v m = (refl, refl, λ bit. value-at v (read_pin c v) (is-input v (all-in (is_signal c) e.variables v sound-parts.1 m)) bit)

  -- its value is what all bits agree on that the given function gives for what the pins may be
  pub value-over : (names : List Name) (f : (Name → Bool) → Bool) → has_function names f (Some e) ≡ true → LooksAt names f
      → (ys : List Bool)
      → ((u : Name → Bool) → May pins u → IsIn (f u) ys)
      → ((b : Bool) → IsIn b ys → Given pins f b)
      → function_value c pins state e ≡ agreed ys
  unfolding as_pin
  value-over names f h looks ys to from = agreed-same (outcomes as_pin (named_value c pins) pins e.steps state e.variables) ys forth back
    where
      forth : (b : Bool) → IsIn b (outcomes as_pin (named_value c pins) pins e.steps state e.variables) → IsIn b ys
      forth b m =
          let found = of-outcome as_pin (named_value c pins) pins e.steps state e.variables all-mean sound-parts.0 b m in
          let u : Name → Bool = λ n. found.by (OfPin n) in
          subst (λ z. IsIn z ys) (sym (found.is ∙ function-is names f e h looks u)) (to u found.admitted.at_pins)

      choice : (Name → Bool) → Choice
      choice u (OfPin n) = u n
      choice u OfState = some_bit state

      back : (b : Bool) → IsIn b ys → IsIn b (outcomes as_pin (named_value c pins) pins e.steps state e.variables)
      back b m =
          let g = from b m in
          subst (λ z. IsIn z (outcomes as_pin (named_value c pins) pins e.steps state e.variables)) (sym (g.is ∙ sym (function-is names f e h looks g.by)))
          (is-outcome as_pin (named_value c pins) pins e.steps state e.variables all-mean (choice g.by) (record { at_state = keeps-some state; at_pins = g.may }))
