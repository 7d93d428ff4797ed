-- Bytes that were taken as characters come back.
use Rattle.std.specs.Prelude.{encode_utf8}
use Rattle.std.proofs.Common.{◌≡◌, ℕ, ◌+◌, ◌%◌, ◌/◌, ◌<◌, ◌≤◌, true, false, Bool, ltb, List, [], ◌∷◌, ◌++◌, None, refl, ap, arith}
use Rattle.std.specs.List.{list_all}
use Rattle.std.proofs.lemmas.Bool.{and_parts, ltb-true, ltb-false, lt-ltb, le-ltb}
use Rattle.std.proofs.lemmas.Str.{encode_ascii}
use lib.Utf8.{encode}
use Rattle.lp_upf_words.specs.Bytes.{characters}
use Rattle.lp_upf_words.specs.Elements.{byte_of, bytes_after}

two : (b : ℕ) → 128 ≤ b → b < 256 → encode_utf8 b ≡ (192 + b / 64) ∷ ((128 + b % 64) ∷ [])
unfolding encode
two b low high =
    let wide : b < 2048 = omega arith in
    rw (le-ltb b 128 low, lt-ltb b 2048 wide) refl

back : (b : ℕ) → 128 ≤ b → b < 256 → byte_of (192 + b / 64) (128 + b % 64) ≡ b
back b low high = omega arith

first : (b : ℕ) (rest bytes : List ℕ) → b < 256 → bytes_after None rest ≡ bytes → bytes_after None (encode_utf8 b ++ rest) ≡ b ∷ bytes
first b rest bytes h e = by (ltb b 128) refl
  where
    by : (x : Bool) → ltb b 128 ≡ x → bytes_after None (encode_utf8 b ++ rest) ≡ b ∷ bytes
    by true t = rw (encode_ascii b (ltb-true b 128 t), t) (ap (λ xs. b ∷ xs) e)
    by false t =
        let low : 128 ≤ b = ltb-false b 128 t in
        let big : 128 ≤ 192 + b / 64 = omega arith in
        rw (two b low h, le-ltb (192 + b / 64) 128 big, back b low h) (ap (λ xs. b ∷ xs) e)

pub come_back : (bytes : List ℕ) → list_all (λ b. ltb b 256) bytes ≡ true → bytes_after None (characters bytes) ≡ bytes
come_back [] e = refl
come_back (b ∷ bytes) e =
    let both = and_parts (ltb b 256) (list_all (λ x. ltb x 256) bytes) e in
    first b (characters bytes) bytes (ltb-true b 256 both.0) (come_back bytes both.1)
