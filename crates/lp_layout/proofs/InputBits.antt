-- Which bits of ports are inputs, port by port.
use Rattle.std.proofs.Common.{◌≡◌, ℕ, suc, ◌+◌, ◌-◌, ◌<◌, Bool, List, [], ◌∷◌, ◌++◌, length, drop, get_or, refl, sym, ap, ◌∙◌, arith, append_assoc}
use Rattle.std.specs.Prelude.{map}
use Rattle.std.proofs.lemmas.Option.{slice_get-get_or}
use Rattle.lp_model.specs.declared.netlist.Port.{Port}
use Rattle.lp_spec_design.specs.Netlists.{indices}
use Rattle.lp_layout.specs.Inputs.{is_input, times, inputs_at, port_inputs}
use Rattle.lp_layout.proofs.Lists.{drop_at}

times-of : {A : Type 0} (b : Bool) (xs : List A) → map (λ i. b) xs ≡ times b (length xs)
times-of b [] = refl
times-of b (x ∷ xs) = ap (λ z. b ∷ z) (times-of b xs)

pub times_more : (inputs next : List Bool) (b : Bool) (n k : ℕ) {goal : List Bool} → k < n → next ≡ inputs ++ b ∷ [] → inputs ++ times b (n - k) ≡ goal → next ++ times b (n - (k + 1)) ≡ goal
times_more inputs next b n k low pushed e =
    let step : n - k ≡ suc (n - (k + 1)) = omega (arith, low) in
    ap (λ z. z ++ times b (n - (k + 1))) pushed
    ∙ append_assoc inputs (b ∷ []) (times b (n - (k + 1)))
    ∙ ap (λ z. inputs ++ times b z) (sym step)
    ∙ e

pub ports_more : (inputs next : List Bool) (ps : List Port) (k : ℕ) (d : Port) (b : Bool) (n : ℕ) {goal : List Bool} → k < length ps → b ≡ is_input (get_or ps k d).direction → n ≡ length (indices (get_or ps k d).range) → next ≡ inputs ++ times b n
    → inputs ++ port_inputs (drop k ps) ≡ goal → next ++ port_inputs (drop (k + 1) ps) ≡ goal
ports_more inputs next ps k d b n low is count pushed e =
    let p = get_or ps k d in
    let rest = port_inputs (drop (k + 1) ps) in
    ap (λ z. z ++ rest) (pushed ∙ (λ i. inputs ++ times (is i) (count i)) ∙ ap (λ z. inputs ++ z) (sym (times-of (is_input p.direction) (indices p.range))))
    ∙ append_assoc inputs (inputs_at p) rest
    ∙ ap (λ z. inputs ++ port_inputs z) (sym (drop_at ps k p (slice_get-get_or ps k d low)))
    ∙ e
