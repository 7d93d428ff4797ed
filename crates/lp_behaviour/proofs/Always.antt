-- When a function is known for all replacements, and what it depends on.
use Rattle.std.proofs.Common.{◌≡◌, Bool, true, false, List, [], ◌∷◌, ◌↔◌, Option, Some, None, ℕ, map, refl, sym, ap, ◌∙◌}
use Rattle.std.specs.Prelude.{All}
use Rattle.std.proofs.lemmas.List.Elements.{All-head, All-tail}
use Rattle.lp_text.specs.declared.names.NameId.{NameId}
use Rattle.lp_tern.specs.declared.tern.Tern.{Tern}
use Rattle.lp_tern.specs.declared.tern.Tern.TheVariants.{Zero, One, X}
use Rattle.lp_tern.specs.Values.{choose_of}
use Rattle.lp_expr.specs.Formula.{Formula, truth, value_of}
use Rattle.lp_expr.specs.Replaces.{Keeps, Replaces}
use Rattle.lp_model.specs.declared.library.Cell.{Cell}
use Rattle.lp_behaviour.specs.Signals.{at_place, input_place, signal_value, state_value}
use Rattle.lp_behaviour.specs.Functions.{function_value, variable_values}
use Rattle.lp_behaviour.proofs.Replacing.{by_bit}

-- a known value is chosen exactly where it stands at each bit that the state may be
chosen-One : (state a b : Tern) → choose_of state a b ≡ One → (Keeps state true → a ≡ One) × (Keeps state false → b ≡ One)
chosen-One Zero a b h = (λ k. absurd (cc), λ k. h)
chosen-One One a b h = (λ k. h, λ k. absurd (cc))
chosen-One X One One h = (λ k. refl, λ k. refl)
chosen-One X One Zero h = absurd (cc)
chosen-One X One X h = absurd (cc)
chosen-One X Zero Zero h = absurd (cc)
chosen-One X Zero One h = absurd (cc)
chosen-One X Zero X h = absurd (cc)
chosen-One X X Zero h = absurd (cc)
chosen-One X X One h = absurd (cc)
chosen-One X X X h = absurd (cc)

chosen-Zero : (state a b : Tern) → choose_of state a b ≡ Zero → (Keeps state true → a ≡ Zero) × (Keeps state false → b ≡ Zero)
chosen-Zero Zero a b h = (λ k. absurd (cc), λ k. h)
chosen-Zero One a b h = (λ k. h, λ k. absurd (cc))
chosen-Zero X Zero Zero h = (λ k. refl, λ k. refl)
chosen-Zero X One Zero h = absurd (cc)
chosen-Zero X One One h = absurd (cc)
chosen-Zero X One X h = absurd (cc)
chosen-Zero X Zero One h = absurd (cc)
chosen-Zero X Zero X h = absurd (cc)
chosen-Zero X X Zero h = absurd (cc)
chosen-Zero X X One h = absurd (cc)
chosen-Zero X X X h = absurd (cc)

chosen : (v state a b : Tern) → (Keeps state true → a ≡ v) → (Keeps state false → b ≡ v) → choose_of state a b ≡ v
chosen v Zero a b at_true at_false = at_false refl
chosen v One a b at_true at_false = at_true refl
chosen v X a b at_true at_false = rw (at_true tt, at_false tt) (same v)
  where
    same : (t : Tern) → choose_of X t t ≡ t
    same Zero = refl
    same One = refl
    same X = refl

module _ (cell : Cell) (pins : List Tern) (state : Tern) (e : Formula) where
  -- by what the value at one bit says
  pub always : (v : Tern) (b : Bool)
      → ((x y : Tern) → choose_of state x y ≡ v → (Keeps state true → x ≡ v) × (Keeps state false → y ≡ v))
      → ((bit : Bool) → (value_of e (variable_values cell pins bit e) ≡ v) ↔ ((c : List Bool) → Replaces (variable_values cell pins bit e) c → truth e.steps c ≡ b))
      → (function_value cell pins state e ≡ v) ↔ ((bit : Bool) (c : List Bool) → Keeps state bit → Replaces (variable_values cell pins bit e) c → truth e.steps c ≡ b)
  always v b parts known_at = (
    λ h bit c keeps replaces.
        let both = parts (value_of e (variable_values cell pins true e)) (value_of e (variable_values cell pins false e)) (sym (by_bit cell pins state e) ∙ h) in
        let each : (bit : Bool) → Keeps state bit → value_of e (variable_values cell pins bit e) ≡ v =
        λ bit. elim bit as (λ x. Keeps state x → value_of e (variable_values cell pins x e) ≡ v) [ true ↦ both.0 | false ↦ both.1 ] in
        (known_at bit).0 (each bit keeps) c replaces,
    λ h.
        by_bit cell pins state e
        ∙ chosen v state _ _ (λ keeps. (known_at true).1 (λ c. h true c keeps)) (λ keeps. (known_at false).1 (λ c. h false c keeps)),
  )

pub true_always : (cell : Cell) (pins : List Tern) (state : Tern) (e : Formula)
    → ((f : Formula) (v : List Tern) → (value_of f v ≡ One) ↔ ((c : List Bool) → Replaces v c → truth f.steps c ≡ true))
    → (function_value cell pins state e ≡ One) ↔ ((bit : Bool) (c : List Bool) → Keeps state bit → Replaces (variable_values cell pins bit e) c → truth e.steps c ≡ true)
true_always cell pins state e law = always cell pins state e One true (chosen-One state) (λ bit. law e (variable_values cell pins bit e))

pub false_always : (cell : Cell) (pins : List Tern) (state : Tern) (e : Formula)
    → ((f : Formula) (v : List Tern) → (value_of f v ≡ Zero) ↔ ((c : List Bool) → Replaces v c → truth f.steps c ≡ false))
    → (function_value cell pins state e ≡ Zero) ↔ ((bit : Bool) (c : List Bool) → Keeps state bit → Replaces (variable_values cell pins bit e) c → truth e.steps c ≡ false)
false_always cell pins state e law = always cell pins state e Zero false (chosen-Zero state) (λ bit. law e (variable_values cell pins bit e))

-- a pin's name has the pin's value, every other name that of the state
placed : (a b : List Tern) (place : Option ℕ) (other : Tern) → at_place a place X ≡ at_place b place X → at_place a place other ≡ at_place b place other
placed a b None other same = refl
placed a b (Some p) other same = same

signals-same : (cell : Cell) (a b : List Tern) (bit : Bool) (names : List NameId)
    → All (λ name. at_place a (input_place cell.pins name) X ≡ at_place b (input_place cell.pins name) X) names
    → map (signal_value cell a bit) names ≡ map (signal_value cell b bit) names
signals-same cell a b bit [] same = refl
signals-same cell a b bit (n ∷ names) same =
    let P : NameId → Type 0 = λ name. at_place a (input_place cell.pins name) X ≡ at_place b (input_place cell.pins name) X in
    let here : signal_value cell a bit n ≡ signal_value cell b bit n =
    placed a b (input_place cell.pins n) (state_value cell.state bit n) (All-head P n names same) in
    rw (here, signals-same cell a b bit names (All-tail P n names same)) refl

pub pins_decide : (cell : Cell) (a b : List Tern) (state : Tern) (e : Formula)
    → All (λ name. at_place a (input_place cell.pins name) X ≡ at_place b (input_place cell.pins name) X) e.variables
    → function_value cell a state e ≡ function_value cell b state e
pins_decide cell a b state e same =
    by_bit cell a state e
    ∙ ap (λ v. choose_of state (value_of e v) (value_of e (variable_values cell a false e))) (signals-same cell a b true e.variables same)
    ∙ ap (λ v. choose_of state (value_of e (variable_values cell b true e)) (value_of e v)) (signals-same cell a b false e.variables same)
    ∙ sym (by_bit cell b state e)
