-- What stands at a place of the origins: a switch before a port, the port, or one behind it.
use Rattle.std.proofs.Common.{◌≡◌, ◌<◌, ◌≤◌, ◌+◌, ◌-◌, ◌∙◌, ℕ, zero, suc, true, false, List, [], ◌∷◌, ◌++◌, Some, arith, refl, sym, ap, length, map, take, drop, filter, get_or, slice_get, if◌then◌else◌}
use Rattle.std.specs.Option.{option_map}
use Rattle.std.proofs.lemmas.List.{at_drop_more}
use Rattle.lp_model.specs.declared.intent.SupplyPort.{SupplyPort}
use Rattle.lp_fault_text.specs.Supplies.{in_order, made_before}
use Rattle.lp_model.specs.declared.intent.PowerSwitch.{PowerSwitch}
use Rattle.lp_model.specs.declared.intent.ScopedName.{ScopedName}

abbrev names_of : ℕ → List PowerSwitch → List ScopedName
names_of n switches = map (λ s. s.name) (take n switches)

pub get-before : (xs : List PowerSwitch) (n left : ℕ) (tail : List ScopedName) → n ≤ length xs → left < n
    → slice_get (names_of n xs ++ tail) left ≡ option_map (λ s. s.name) (slice_get xs left)
get-before xs zero left tail w h = absurd (omega arith)
get-before [] (suc n) left tail w h = absurd (omega arith)
get-before (x ∷ xs) (suc n) zero tail w h = refl
get-before (x ∷ xs) (suc n) (suc left) tail w h = get-before xs n left tail (omega arith) (omega arith)

pub get-at : (xs : List PowerSwitch) (n : ℕ) (y : ScopedName) (tail : List ScopedName) → n ≤ length xs → slice_get (names_of n xs ++ y ∷ tail) n ≡ Some y
get-at xs zero y tail w = refl
get-at [] (suc n) y tail w = absurd (omega arith)
get-at (x ∷ xs) (suc n) y tail w = get-at xs n y tail (omega arith)

pub get-behind : (xs : List PowerSwitch) (n left : ℕ) (y : ScopedName) (tail : List ScopedName) → n ≤ length xs → n < left
    → slice_get (names_of n xs ++ y ∷ tail) left ≡ slice_get tail (left - (n + 1))
get-behind xs zero zero y tail w h = absurd (omega arith)
get-behind xs zero (suc left) y tail w h = let e : suc left - (0 + 1) ≡ left = omega arith in rw e refl
get-behind [] (suc n) left y tail w h = absurd (omega arith)
get-behind (x ∷ xs) (suc n) zero y tail w h = absurd (omega arith)
get-behind (x ∷ xs) (suc n) (suc left) y tail w h = let e : suc left - (suc n + 1) ≡ left - (n + 1) = omega arith in rw e (get-behind xs n left y tail (omega arith) (omega arith))

-- one port on, where it is a source and n switches were made before it
pub at-source : (ports : List SupplyPort) (rest : List PowerSwitch) (i left n : ℕ) (p : SupplyPort) → i < length ports → p ≡ get_or ports i p → p.is_source ≡ true → n ≡ made_before p.command rest
    → slice_get (in_order (filter (λ q. q.is_source) (drop i ports)) rest) left
    ≡ slice_get (names_of n rest ++ p.name ∷ in_order (filter (λ q. q.is_source) (drop (i + 1) ports)) (drop n rest)) left
at-source ports rest i left n p h is source count =
    rw count (
    at_drop_more (λ qs. slice_get (in_order (filter (λ q. q.is_source) qs) rest) left) ports i p h
    ∙ ap (λ q. slice_get (in_order (filter (λ q. q.is_source) (q ∷ drop (i + 1) ports)) rest) left) (sym is)
    ∙ ap (λ b. slice_get (in_order (if b then p ∷ filter (λ q. q.is_source) (drop (i + 1) ports) else filter (λ q. q.is_source) (drop (i + 1) ports)) rest) left) source)

-- one port on, where it is none
pub past-other : (ports : List SupplyPort) (rest : List PowerSwitch) (i left : ℕ) (p : SupplyPort) → i < length ports → p ≡ get_or ports i p → p.is_source ≡ false
    → slice_get (in_order (filter (λ q. q.is_source) (drop i ports)) rest) left ≡ slice_get (in_order (filter (λ q. q.is_source) (drop (i + 1) ports)) rest) left
past-other ports rest i left p h is other =
    at_drop_more (λ qs. slice_get (in_order (filter (λ q. q.is_source) qs) rest) left) ports i p h
    ∙ ap (λ q. slice_get (in_order (filter (λ q. q.is_source) (q ∷ drop (i + 1) ports)) rest) left) (sym is)
    ∙ ap (λ b. slice_get (in_order (if b then p ∷ filter (λ q. q.is_source) (drop (i + 1) ports) else filter (λ q. q.is_source) (drop (i + 1) ports)) rest) left) other
