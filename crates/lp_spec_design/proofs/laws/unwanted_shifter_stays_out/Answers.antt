use Rattle.std.proofs.Common.{◌≡◌, Bool, true, false, ◌&&◌, [], Some, refl, ap, ◌∙◌}
use Rattle.std.specs.Prelude.{if◌then◌else◌, ◌∷◌}
use Rattle.lp_spec_design.specs.Chains.{Shift, around_clamp, shifter, target}
use Rattle.lp_spec_design.proofs.laws.unwanted_shifter_stays_out.Goals as goal

and_false : (b : Bool) → (b && false) ≡ false
and_false true = refl
and_false false = refl

pub returns : goal.returns
returns c n iso t readers a b no_clamp leads unwanted =
    ap (around_clamp n (Some t) (target (Some t) readers) (Some a)) no_clamp
    ∙ ap (shifter n (Some t) (Some a)) leads
    ∙ ap (λ w. if t.1.inserts && w then Shift t.0 a b ∷ [] else []) unwanted
    ∙ ap (λ w. if w then Shift t.0 a b ∷ [] else []) (and_false t.1.inserts)
