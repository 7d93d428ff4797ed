-- Rows of pins, one place further.
use Rattle.std.proofs.Common.{◌≡◌, ℕ, ◌+◌, ◌<◌, suc, zero, false, List, [], ◌∷◌, Option, refl, ap, ◌∙◌, arith, drop, length, get_or, sym}
use Rattle.std.specs.Prelude.{bytes_eq}
use Rattle.lp_text.specs.Texts.{text_at}
use Rattle.lp_text.specs.declared.names.NameId.{NameId}
use Rattle.lp_model.specs.declared.library.PgPin.{PgPin}
use Rattle.lp_choice.specs.Rails.{rail_of}

-- a pin of another name is no rail of this one
behind : (texts : List (List ℕ)) (gs : List PgPin) (os : List (Option ℕ)) (i : ℕ) (g : PgPin) (n : NameId) → i < length gs → length os ≡ length gs → g ≡ get_or gs i g
    → bytes_eq (text_at texts g.name.0) (text_at texts n.0) ≡ false → rail_of texts (drop (suc i) gs) (drop (suc i) os) n ≡ rail_of texts (drop i gs) (drop i os) n
behind texts [] os i g n low many there e = absurd (omega (arith, low))
behind texts (h ∷ gs) [] i g n low many there e = absurd (omega (arith, many))
behind texts (h ∷ gs) (o ∷ os) zero g n low many there e =
    let unlike : bytes_eq (text_at texts h.name.0) (text_at texts n.0) ≡ false = ap (λ (p : PgPin). bytes_eq (text_at texts p.name.0) (text_at texts n.0)) (sym there) ∙ e in
    rw unlike refl
behind texts (h ∷ gs) (o ∷ os) (suc i) g n low many there e = behind texts gs os i g n (omega (arith, low)) (omega (arith, many)) there e

pub rail-behind : (texts : List (List ℕ)) (gs : List PgPin) (os : List (Option ℕ)) (i : ℕ) (g : PgPin) (n : NameId) → i < length gs → length os ≡ length gs → g ≡ get_or gs i g
    → bytes_eq (text_at texts g.name.0) (text_at texts n.0) ≡ false → rail_of texts (drop (i + 1) gs) (drop (i + 1) os) n ≡ rail_of texts (drop i gs) (drop i os) n
rail-behind texts gs os i g n low many there e =
    let on : i + 1 ≡ suc i = omega arith in
    ap (λ k. rail_of texts (drop k gs) (drop k os) n) on ∙ behind texts gs os i g n low many there e
