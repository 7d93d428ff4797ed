-- Nodes by their numbers.
use Rattle.std.proofs.Common.{◌≡◌, ℕ, zero, suc, ◌+◌, Bool, true, false, List, [], ◌∷◌, Option, Some, inl, inr, refl, sym, ap, ◌∙◌, arith}
use Rattle.std.specs.Prelude.{if◌then◌else◌, slice_get, unwrap_or}
use Rattle.std.proofs.lemmas.Bool.{false≢true}
use Rattle.lp_spec_design.specs.Keys.{Node, Fixed, same_node}
use Rattle.lp_spec_design.specs.Netlists.{Structure}
use Rattle.lp_spec_design.specs.Nodes.{nodes_of}
use Rattle.lp_spec_design.specs.Domains.{first_number}
use Rattle.lp_spec_design.specs.Reads.{node-true, node-self}
use Rattle.lp_spec_design.specs.Winners.{IsIn}
use Rattle.lp_spec_realises.specs.Projects.{numbered_node}
use Rattle.lp_spec_resolved.specs.Supplies.{node_number}

abbrev IsNumberOf : Node → ℕ → List Node → Option ℕ → Type 0
IsNumberOf x k xs found = (j : ℕ) × (found ≡ Some (j + k)) × (slice_get xs j ≡ Some x)

number-here : (x z : Node) (k : ℕ) (xs : List Node) → x ≡ z → IsNumberOf x k (z ∷ xs) (Some k)
number-here x z k xs e = let same : k ≡ 0 + k = omega arith in (zero, ap (λ n. Some n) same, ap (λ y. Some y) (sym e))

number-later : (x z : Node) (k : ℕ) (xs : List Node) (o : Option ℕ) → IsNumberOf x (k + 1) xs o → IsNumberOf x k (z ∷ xs) o
number-later x z k xs o found =
    let same : found.0 + (k + 1) ≡ suc found.0 + k = omega arith in
    (suc found.0, found.1 ∙ ap (λ n. Some n) same, found.2)

number-of : (x : Node) (k : ℕ) (xs : List Node) → IsIn x xs → IsNumberOf x k xs (first_number (same_node x) k xs)
number-of x k [] h = absurd h
number-of x k (z ∷ xs) h = by (same_node x z) refl h (number-of x (k + 1) xs)
  where
    by : (b : Bool) → same_node x z ≡ b → IsIn x (z ∷ xs) → (IsIn x xs → IsNumberOf x (k + 1) xs (first_number (same_node x) (k + 1) xs)) → IsNumberOf x k (z ∷ xs) (if b then Some k else first_number (same_node x) (k + 1) xs)
    by true e at more = number-here x z k xs (node-true x z e)
    by false e (inl at) more = absurd (false≢true (sym e ∙ (ap (λ y. same_node x y) (sym at) ∙ node-self x)))
    by false e (inr at) more = number-later x z k xs (first_number (same_node x) (k + 1) xs) (more at)

pub nodes-are-found : (s : Structure) (k : Node) → IsIn k (nodes_of s) → numbered_node s (node_number s k) ≡ k
nodes-are-found s k h =
    let found = number-of k 0 (nodes_of s) h in
    let same : found.0 + 0 ≡ found.0 = omega arith in
    let number : node_number s k ≡ found.0 = ap (λ o. unwrap_or o 0) found.1 ∙ same in
    ap (λ n. unwrap_or (slice_get (nodes_of s) n) (Fixed false)) number ∙ ap (λ o. unwrap_or o (Fixed false)) found.2
