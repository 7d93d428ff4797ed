-- The fields of a pool.
use mathlib.Core.Path.{◌≡◌, refl, sym, ap, ◌∙◌}
use Prim.Native.Nat.{ℕ, ◌+◌, ◌*◌, ◌^◌, ◌-◌, ◌<◌, ◌≤◌, ◌/◌}
use Rattle.std.specs.Prelude.{◌%◌}
use native.Mathlib.Omega.{arith}
use mathlib.Core.List.{List, [], ◌∷◌, ◌++◌}
use lib.ListN.{length, get_or, take, length-append, length-map, get_or-map}
use Rattle.std.proofs.lemmas.List.{map-append, append_cancel_right, append-nil}
use denote.RawPtr.{null_ptr}
use Rattle.core.proofs.slice.Lists.{any-default}
use Rattle.lp_pool.specs.Places.{Spot, nowhere, chunk, slots_in, spots_of, IsSpot}
use Rattle.lp_pool.specs.Pool.{bases, IsPool}
use Rattle.lp_pool.specs.declared.chunk.Chunk.{Chunk}
use Rattle.lp_pool.proofs.SpotLemmas.{length_slots_in, length_spots, spot_at, spots_of-append, front_is}

module _ {X : Type 0} (cs : List (Chunk X)) (n : ℕ) (xs : List X) (ps : List Spot) (pool : IsPool cs n xs ps) where
  pub spots_count : length ps ≡ length cs * chunk
  spots_count = ap length pool.laid ∙ length_spots (bases cs) ∙ ap (λ k. k * chunk) (length-map cs (λ (c : Chunk X). c.base.ptr))

  pub in_chunks : (k : ℕ) → k < length ps → k / chunk < length cs
  in_chunks k l = omega (arith, spots_count, l)

  pub is_spot : (k : ℕ) → k < length ps → (c : Chunk X) → c ≡ get_or cs (k / chunk) c → IsSpot ps k c.base.ptr
  is_spot k l c e =
      let base = λ (c : Chunk X). c.base.ptr in
      let there : get_or (bases cs) (k / chunk) null_ptr ≡ base c =
      any-default (bases cs) (k / chunk) null_ptr (base c) (omega (arith, in_chunks k l, length-map cs base)) ∙ get_or-map base cs (k / chunk) c ∙ ap base (sym e) in
      record {
        within = l;
        there = ap (λ l. get_or l k nowhere) pool.laid ∙ spot_at (bases cs) k (omega (arith, spots_count, l, length-map cs base)) ∙ ap (λ p. (p, k % chunk)) there;
      }

module _ {X : Type 0} (cs : List (Chunk X)) (c : Chunk X) (n : ℕ) (xs : List X) (ps : List Spot) where
  one_more : spots_of (bases (cs ++ c ∷ [])) ≡ spots_of (bases cs) ++ slots_in c.base.ptr 0 chunk
  one_more =
      ap spots_of (map-append (λ (c : Chunk X). c.base.ptr) cs (c ∷ [])) ∙ spots_of-append (bases cs) (c.base.ptr ∷ [])
      ∙ ap (λ l. spots_of (bases cs) ++ l) (append-nil (slots_in c.base.ptr 0 chunk))

  pub added : IsPool cs n xs ps → length ps + chunk < 2 ^ 64 → IsPool (cs ++ c ∷ []) n xs (ps ++ slots_in c.base.ptr 0 chunk)
  added pool fits =
      let long : length (ps ++ slots_in c.base.ptr 0 chunk) ≡ length ps + chunk = length-append ps (slots_in c.base.ptr 0 chunk) ∙ ap (λ k. length ps + k) (length_slots_in c.base.ptr 0 chunk) in
      record { counted = pool.counted; laid = ap (λ l. l ++ slots_in c.base.ptr 0 chunk) pool.laid ∙ sym one_more; within = omega (arith, pool.within, long); small = omega (arith, fits, long) }

  pub last_slots : IsPool (cs ++ c ∷ []) n xs ps → ps ≡ spots_of (bases cs) ++ slots_in c.base.ptr 0 chunk
  last_slots pool = pool.laid ∙ one_more

  front_long : IsPool (cs ++ c ∷ []) n xs ps → length (spots_of (bases cs)) + chunk ≡ length ps
  front_long pool = sym (ap length (last_slots pool) ∙ length-append (spots_of (bases cs)) (slots_in c.base.ptr 0 chunk) ∙ ap (λ k. length (spots_of (bases cs)) + k) (length_slots_in c.base.ptr 0 chunk))

  pub front_holds : IsPool (cs ++ c ∷ []) n xs ps → length xs + chunk ≤ length ps → length xs ≤ length (spots_of (bases cs))
  front_holds pool l = omega (arith, front_long pool, l)

  module _ (pool : IsPool (cs ++ c ∷ []) n xs ps) (l : length xs + chunk ≤ length ps) (qs : List Spot) (e : ps ≡ qs ++ slots_in c.base.ptr 0 chunk) where
    front : qs ≡ spots_of (bases cs)
    front = append_cancel_right qs (spots_of (bases cs)) (slots_in c.base.ptr 0 chunk) (sym e ∙ last_slots pool)

    pub removed : IsPool cs n xs qs
    removed =
        let long = ap length front in
        record { counted = pool.counted; laid = front; within = omega (arith, front_long pool, l, long, pool.counted); small = omega (arith, front_long pool, pool.small, long) }

    pub front_of : take (length ps - chunk) ps ≡ qs
    front_of = ap (λ r. take (length ps - chunk) r) e ∙ front_is qs (slots_in c.base.ptr 0 chunk) (length ps - chunk) (omega (arith, front_long pool, ap length front))

pub nil_of : {X : Type 0} (xs : List X) → length xs ≡ 0 → xs ≡ []
nil_of [] e = refl
nil_of (x ∷ xs) e = absurd (omega (arith, e))
