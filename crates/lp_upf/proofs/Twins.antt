-- A word with another behind it.
use Rattle.std.proofs.Common.{◌≡◌, ℕ, Bool, true, false, ◌&&◌, ◌-◌, nat_eq, List, [], ◌∷◌, ◌++◌, length, take, drop, refl, sym, ap, ◌∙◌, length-drop}
use Rattle.std.proofs.Math.Seq.{take-length}
use Rattle.std.specs.Prelude.{bytes_eq}

and_assoc : (a b c : Bool) → (a && (b && c)) ≡ ((a && b) && c)
and_assoc true b c = refl
and_assoc false b c = refl

pub split : (own set text : List ℕ) → bytes_eq (own ++ set) text ≡ (bytes_eq own (take (length own) text) && bytes_eq set (drop (length own) text))
split [] set text = refl
split (o ∷ own) set [] = refl
split (o ∷ own) set (t ∷ text) = ap (λ r. nat_eq o t && r) (split own set text) ∙ and_assoc (nat_eq o t) _ _

-- the bytes from one on
pub rest : (n : ℕ) (text : List ℕ) → take (length text - n) (drop n text) ≡ drop n text
rest n text = ap (λ k. take k (drop n text)) (sym (length-drop n text)) ∙ take-length (drop n text)
