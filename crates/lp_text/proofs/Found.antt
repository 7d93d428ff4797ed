-- A look-up in entries as a loop over them goes on.
use Rattle.std.proofs.Common.{◌≡◌, ℕ, Bool, true, false, cond, List, ◌∷◌, ap, ◌∙◌}
use Rattle.std.proofs.lemmas.Map.Text.{is_eq-slice_cmp}
use Rattle.std.specs.Prelude.{Some}
use Rattle.std.specs.Ordering.{nat_cmp}
use Rattle.std.specs.Cmp.Lexicographic.{slice_cmp}
use Rattle.std.specs.FinMap.{find}
use Rattle.std.specs.Str.{bytes_eq}

step : (q : List ℕ) (e : List ℕ × List ℕ) (rest : List (List ℕ × List ℕ)) (b : Bool) → bytes_eq q e.0 ≡ b → find (slice_cmp nat_cmp) q (e ∷ rest) ≡ cond b (Some e.1) (find (slice_cmp nat_cmp) q rest)
step q e rest b h = ap (λ t. cond t (Some e.1) (find (slice_cmp nat_cmp) q rest)) (is_eq-slice_cmp q e.0 ∙ h)

-- the first entry has the name
pub found : (q : List ℕ) (e : List ℕ × List ℕ) (es rest : List (List ℕ × List ℕ)) → es ≡ e ∷ rest → bytes_eq q e.0 ≡ true → find (slice_cmp nat_cmp) q es ≡ Some e.1
found q e es rest h t = ap (find (slice_cmp nat_cmp) q) h ∙ step q e rest true t

-- the first entry has another name
pub skipped : (q : List ℕ) (e : List ℕ × List ℕ) (es rest : List (List ℕ × List ℕ)) → es ≡ e ∷ rest → bytes_eq q e.0 ≡ false → find (slice_cmp nat_cmp) q es ≡ find (slice_cmp nat_cmp) q rest
skipped q e es rest h t = ap (find (slice_cmp nat_cmp) q) h ∙ step q e rest false t
