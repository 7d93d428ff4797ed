-- Bytes that are handed on in several writes.
use Rattle.std.proofs.Common.{◌≡◌, ℕ, ◌+◌, ◌-◌, List, ◌++◌, length, take, drop, sym, ◌∙◌, ap, subst, append_assoc, arith, length-drop}
use Rattle.std.specs.Prelude.{Option, Some, None}
use Rattle.std.proofs.lemmas.List.{take_all}
use Rattle.std.proofs.Math.Seq.{take-add}
use Rattle.std.specs.Io.KnownBytes.{Appends, Keeps}

pub appends-kept : (old between new : Option (List ℕ)) (bs : List ℕ) → Appends old between bs → Keeps between new → Appends old new bs
appends-kept None between new bs a k = tt
appends-kept (Some xs) None new bs a k = absurd a
appends-kept (Some xs) (Some ys) None bs a k = absurd k
appends-kept (Some xs) (Some ys) (Some zs) bs a k = k ∙ a

more : (old between new : Option (List ℕ)) (bs : List ℕ) (m n : ℕ) → Appends old between (take m bs) → Appends between new (take n (drop m bs)) → Appends old new (take (m + n) bs)
more None between new bs m n a b = tt
more (Some xs) None new bs m n a b = absurd a
more (Some xs) (Some ys) None bs m n a b = absurd b
more (Some xs) (Some ys) (Some zs) bs m n a b =
    b ∙ (ap (λ l. l ++ take n (drop m bs)) a ∙ (append_assoc xs (take m bs) (take n (drop m bs)) ∙ ap (λ l. xs ++ l) (sym (take-add m n bs))))

-- a write of what is left
pub appends-more : (old between new : Option (List ℕ)) (bs : List ℕ) (m n : ℕ) → Appends old between (take m bs) → Appends between new (take n (take (length bs - m) (drop m bs))) → Appends old new (take (m + n) bs)
appends-more old between new bs m n a b =
    let rest : take (length bs - m) (drop m bs) ≡ drop m bs = take_all (length bs - m) (drop m bs) (omega (arith, length-drop m bs)) in
    more old between new bs m n a (subst (λ l. Appends between new (take n l)) rest b)
