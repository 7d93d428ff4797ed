-- What a reader gives that is cut off one byte after a limit.
use Rattle.std.proofs.Common.{◌≡◌, ℕ, ◌+◌, ◌≤◌, List, [], ◌++◌, length, take, ap, ◌∙◌, arith}
use Rattle.std.proofs.lemmas.List.{length-take, take_all}
use Rattle.std.specs.Prelude.{Option, Some, None}
use Rattle.std.specs.Option.{option_map, IfSome}

uncut : (limit : ℕ) (items xs : List ℕ) → items ≡ take (limit + 1) xs → length items ≤ limit → items ≡ xs
uncut limit items xs e h =
    let len : length items ≡ length (take (limit + 1) xs) = ap length e in
    let most : length xs ≤ limit + 1 = omega (arith, length-take (limit + 1) xs) in
    e ∙ take_all (limit + 1) xs most

same : (xs ys : List ℕ) → ◌≡◌ {A = Option (List ℕ)} (Some ys) (Some xs) → ys ≡ xs
same xs ys e = cc

-- up to the limit nothing was cut off
pub whole : (bytes told : Option (List ℕ)) (limit cut : ℕ) (old items : List ℕ) → told ≡ bytes → cut ≡ limit + 1 → old ≡ [] → IfSome (option_map (take cut) told) (λ ys. items ≡ old ++ ys) → length items ≤ limit → IfSome bytes (λ xs. items ≡ xs)
whole None told limit cut old items b n o e h = tt
whole (Some xs) None limit cut old items b n o e h = cc
whole (Some xs) (Some ys) limit cut old items b n o e h =
    uncut limit items xs (e ∙ ap (λ l. l ++ take cut ys) o ∙ ap (λ k. take k ys) n ∙ ap (take (limit + 1)) (same xs ys b)) h
