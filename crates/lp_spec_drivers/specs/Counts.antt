-- How often a number stands in a list, and the first one that stands there twice (own rule).
use Rattle.std.specs.Prelude.{ℕ, suc, ◌==◌, nat_lt, List, [], ◌∷◌, Option, Some, None, if◌then◌else◌}
use Rattle.lp_spec_design.specs.Netlists.{first, upward}

abbrev pub times : ℕ → List ℕ → ℕ
times k [] = 0
times k (x ∷ xs) = if x == k then suc (times k xs) else times k xs

-- the first of as many numbers from 0 on that stands in a list twice
abbrev pub first_twice : ℕ → List ℕ → Option ℕ
first_twice n xs = first (λ k. nat_lt 1 (times k xs)) (upward n 0)

-- one answer, else the next
abbrev pub or_else : {A : Type 0} → Option A → Option A → Option A
or_else (Some x) later = Some x
or_else None later = later

-- the first answer that members of a list give
abbrev pub found : {A B : Type 0} → (A → Option B) → List A → Option B
found f [] = None
found f (x ∷ xs) = or_else (f x) (found f xs)

-- the lesser of two numbers that may be there
abbrev pub earlier : Option ℕ → Option ℕ → Option ℕ
earlier None b = b
earlier (Some a) None = Some a
earlier (Some a) (Some b) = if nat_lt b a then Some b else Some a

-- the least number of some that another list has
abbrev pub least_in : List ℕ → List ℕ → Option ℕ
least_in [] xs = None
least_in (k ∷ ks) xs = earlier (if nat_lt 0 (times k xs) then Some k else None) (least_in ks xs)
