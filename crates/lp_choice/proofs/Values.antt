-- Functions of known values.
use Rattle.std.proofs.Common.{◌≡◌, Bool, true, false, List, [], ◌∷◌, ◌++◌, map, refl, ◌∙◌, ap}
use Rattle.lp_tern.specs.Values.{agreed}
use Rattle.lp_expr.specs.Formula.{Formula, truth, completions, value_of}
use Rattle.lp_expr.specs.Places.{is_one}
use Rattle.lp_behaviour.specs.Signals.{known}
use Rattle.lp_choice.specs.declared.wires.Wire.{Wire}
use Rattle.lp_choice.specs.Wires.{level, value_at}

-- known values have no other replacement
completions-known : (bits : List Bool) → completions (map known bits) ≡ bits ∷ []
completions-known [] = refl
completions-known (true ∷ bits) = ap (λ cs. map (λ c. true ∷ c) cs ++ []) (completions-known bits)
completions-known (false ∷ bits) = ap (λ cs. map (λ c. false ∷ c) cs ++ []) (completions-known bits)

one-agreed : (b : Bool) → is_one (agreed (b ∷ [])) ≡ b
one-agreed true = refl
one-agreed false = refl

levels-known : (c : List Bool) (wires : List Wire) → map (λ (w : Wire). known (level c w)) wires ≡ map known (map (level c) wires)
levels-known c [] = refl
levels-known c (w ∷ wires) = ap (λ rest. known (level c w) ∷ rest) (levels-known c wires)

-- the value of a function where the slots have these values
pub value-of-wires : (e : Formula) (wires : List Wire) (c : List Bool) → is_one (value_of e (map (λ (w : Wire). known (level c w)) wires)) ≡ value_at e wires c
value-of-wires e wires c =
    ap (λ v. is_one (value_of e v)) (levels-known c wires)
    ∙ (ap (λ cs. is_one (agreed (map (truth e.steps) cs))) (completions-known (map (level c) wires))
    ∙ one-agreed (truth e.steps (map (level c) wires)))
