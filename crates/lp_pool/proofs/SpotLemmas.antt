-- Where the slots of a row of chunks lie.
use mathlib.Core.Path.{◌≡◌, refl, sym, ap, ap₂, ◌∙◌}
use mathlib.Core.Logic.{◌⊎◌, inl, inr}
use Prim.Native.Nat.{ℕ, zero, suc, ◌+◌, ◌*◌, ◌-◌, ◌<◌, ◌≤◌, ◌/◌}
use Rattle.std.specs.Prelude.{◌%◌}
use native.Mathlib.Omega.{arith}
use native.Mathlib.Nat.{suc-mul}
use mathlib.Core.List.{List, [], ◌∷◌, ◌++◌}
use lib.ListN.{length, get_or, take, length-append, get_or-append}
use lib.Seq.{take-append_seam, take-take, length-take-le}
use Rattle.std.proofs.Common.{append_assoc}
use denote.RawPtr.{Ptr, null_ptr}
use Rattle.std.proofs.lemmas.List.{get_or-append_right}
use Rattle.std.proofs.lemmas.Bool.{cases_lt}
use Rattle.lp_pool.specs.Places.{nowhere, chunk, slots_in, spots_of}

pub length_slots_in : (p : Ptr) (i n : ℕ) → length (slots_in p i n) ≡ n
length_slots_in p i zero = refl
length_slots_in p i (suc n) = ap suc (length_slots_in p (suc i) n)

pub length_spots : (bs : List Ptr) → length (spots_of bs) ≡ length bs * chunk
length_spots [] = refl
length_spots (b ∷ bs) = omega (arith, length-append (slots_in b 0 chunk) (spots_of bs), length_slots_in b 0 chunk, length_spots bs)

slot_at : (p : Ptr) (i n k : ℕ) → k < n → get_or (slots_in p i n) k nowhere ≡ (p, i + k)
slot_at p i zero k l = absurd (omega arith)
slot_at p i (suc n) zero l = ap (λ j. (p, j)) (omega arith)
slot_at p i (suc n) (suc k) l = slot_at p (suc i) n k (omega arith) ∙ ap (λ j. (p, j)) (omega arith)

spot_cases : (b : Ptr) (bs : List Ptr) (k : ℕ) → ((j : ℕ) → k ≡ chunk + j → get_or (spots_of bs) j nowhere ≡ (get_or bs (j / chunk) null_ptr, j % chunk))
    → (k < chunk) ⊎ (chunk ≤ k) → get_or (spots_of (b ∷ bs)) k nowhere ≡ (get_or (b ∷ bs) (k / chunk) null_ptr, k % chunk)
spot_cases b bs k later (inl low) =
    let e : k / chunk ≡ 0 = omega (arith, low) in let m : k % chunk ≡ k = omega (arith, low) in
    get_or-append (slots_in b 0 chunk) (spots_of bs) nowhere k (omega (arith, length_slots_in b 0 chunk, low)) ∙ slot_at b 0 chunk k low
    ∙ ap₂ (λ p j. (p, j)) (ap (λ j. get_or (b ∷ bs) j null_ptr) (sym e)) (omega (arith, m))
spot_cases b bs k later (inr high) =
    let j = k - chunk in let e : k / chunk ≡ suc (j / chunk) = omega (arith, high) in let m : k % chunk ≡ j % chunk = omega (arith, high) in
    get_or-append_right (slots_in b 0 chunk) (spots_of bs) chunk k nowhere (length_slots_in b 0 chunk) high ∙ later j (omega (arith, high))
    ∙ ap₂ (λ p i. (p, i)) (ap (λ i. get_or (b ∷ bs) i null_ptr) (sym e)) (sym m)

pub spot_at : (bs : List Ptr) (k : ℕ) → k < length bs * chunk → get_or (spots_of bs) k nowhere ≡ (get_or bs (k / chunk) null_ptr, k % chunk)
spot_at [] k l = absurd (omega arith)
spot_at (b ∷ bs) k l = spot_cases b bs k (λ j e. spot_at bs j (omega (arith, suc-mul (length bs) chunk))) (cases_lt k chunk)

pub spots_of-append : (ps qs : List Ptr) → spots_of (ps ++ qs) ≡ spots_of ps ++ spots_of qs
spots_of-append [] qs = refl
spots_of-append (p ∷ ps) qs = ap (λ l. slots_in p 0 chunk ++ l) (spots_of-append ps qs) ∙ sym (append_assoc (slots_in p 0 chunk) (spots_of ps) (spots_of qs))

-- the front of a list
pub front_is : {X : Type 0} (xs ys : List X) (n : ℕ) → n ≡ length xs → take n (xs ++ ys) ≡ xs
front_is xs ys n e = ap (λ k. take k (xs ++ ys)) e ∙ take-append_seam xs ys

-- what is left where a chunk more is taken away
pub removed_more : {X : Type 0} (ps : List X) (i : ℕ) → (i + 1) * chunk ≤ length ps
    → take (length (take (length ps - i * chunk) ps) - chunk) (take (length ps - i * chunk) ps) ≡ take (length ps - (i + 1) * chunk) ps
removed_more ps i l =
    let n = length ps - i * chunk in let long : length (take n ps) ≡ n = length-take-le n ps (omega arith) in
    take-take (length (take n ps) - chunk) n ps (omega (arith, long)) ∙ ap (λ k. take k ps) (omega (arith, long, l))
