-- Numbers that fit are as they are held.
use Rattle.std.proofs.Common.{◌≡◌, ◌<◌, ◌≤◌, ℕ, suc, Bool, true, List, [], ◌∷◌, map, Some, refl, arith}
use Rattle.std.specs.Prelude.{nat_lt, slice_get}
use Rattle.std.specs.List.{list_all}
use Rattle.std.proofs.lemmas.Bool.{ltb-true}
use Rattle.lp_model.specs.declared.graph.PinNet.{PinNet}
use Rattle.lp_model.specs.declared.graph.PinNet.TheVariants.{Unconnected, Const as PinConst, Node as PinNode}
use Rattle.lp_spec_design.specs.Reads.{one, other}
use Rattle.lp_layout.specs.Held.{word, byte, held_pin}

pub word-same : (k : ℕ) → k < 4294967296 → word k ≡ k
word-same k low = omega (arith, low)

pub byte-same : (k : ℕ) → k < 256 → byte k ≡ k
byte-same k low = omega (arith, low)

-- a list that is made from another, of which each member is held as it is
pub all-made-held : {A B : Type 0} (f : B → B) (g : A → B) (xs : List A) → ((k : ℕ) (x : A) → slice_get xs k ≡ Some x → f (g x) ≡ g x) → map f (map g xs) ≡ map g xs
all-made-held f g [] h = refl
all-made-held f g (x ∷ xs) h = λ i. h 0 x refl i ∷ all-made-held f g xs (λ k. h (suc k)) i

-- ---- pins

abbrev pub is-pin : ℕ → PinNet → Bool
is-pin n (PinNode k) = nat_lt k.0 n
is-pin n _ = true

pin-held : (n : ℕ) (p : PinNet) → n ≤ 4294967296 → is-pin n p ≡ true → held_pin p ≡ p
pin-held n Unconnected few e = refl
pin-held n (PinConst b) few e = refl
pin-held n (PinNode k) few e = let low = ltb-true k.0 n e in λ i. PinNode (record { 0 = word-same k.0 (omega (arith, low, few)) i })

pub pins-held : (n : ℕ) (ps : List PinNet) → n ≤ 4294967296 → list_all (is-pin n) ps ≡ true → map held_pin ps ≡ ps
pins-held n [] few e = refl
pins-held n (p ∷ ps) few e = λ i. pin-held n p few (one (is-pin n p) (list_all (is-pin n) ps) e) i ∷ pins-held n ps few (other (is-pin n p) (list_all (is-pin n) ps) e) i
