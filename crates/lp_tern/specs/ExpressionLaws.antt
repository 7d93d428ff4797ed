-- What the value of an expression depends on, and the values of small expressions.
use Rattle.std.proofs.Common.{◌≡◌, ℕ, Bool, true, false, cond, not, ◌&&◌, ◌||◌, List, [], ◌∷◌, map, refl, ap, ◌∙◌}
use Rattle.std.specs.Str.{bytes_eq}
use Rattle.std.proofs.lemmas.Bool.{or_left, or_right}
use Rattle.std.proofs.lemmas.Slice.Eq.{bytes_eq-Decides}
use Rattle.lp_tern.specs.declared.tern.Tern.{Tern}
use Rattle.lp_tern.specs.declared.tern.Tern.TheVariants.{Zero, One, X}
use Rattle.lp_tern.specs.Values.{agreed, lifted, negate_of, both_of, either_of, differ_of}
use Rattle.lp_tern.specs.Expression.{Expression, Variable, Constant, Complement, Both, Either, Differ, variables, has, Choice, chosen, holds, choices, value}

bytes_eq-self : (n : List ℕ) → bytes_eq n n ≡ true
bytes_eq-self n = (bytes_eq-Decides n n).1 refl

choices-same : (names : List (List ℕ)) (f g : List ℕ → Tern) → ((n : List ℕ) → has n names ≡ true → f n ≡ g n) → choices names f ≡ choices names g
choices-same [] f g same = refl
choices-same (n ∷ names) f g same =
    let here : f n ≡ g n = same n (or_left (bytes_eq n n) (has n names) (bytes_eq-self n)) in
    let others : choices names f ≡ choices names g = choices-same names f g (λ k h. same k (or_right (bytes_eq n k) (has k names) h)) in
    rw (here, others) refl

-- a value depends on the values of the expression's variables alone
pub value-same : (e : Expression) (f g : List ℕ → Tern) → ((n : List ℕ) → has n (variables e) ≡ true → f n ≡ g n) → value e f ≡ value e g
value-same e f g same = ap (λ (cs : List Choice). agreed (map (holds e) cs)) (choices-same (variables e) f g same)

variable-at : (a : Tern) (n : List ℕ) (f : List ℕ → Tern) → f n ≡ a → bytes_eq n n ≡ true → value (Variable n) f ≡ a
variable-at Zero n f e self = rw (e, self) refl
variable-at One n f e self = rw (e, self) refl
variable-at X n f e self = rw (e, self) refl

-- a variable has its signal's value
pub value-variable : (n : List ℕ) (f : List ℕ → Tern) → value (Variable n) f ≡ f n
value-variable n f = variable-at (f n) n f refl (bytes_eq-self n)

complement-at : (a : Tern) (n : List ℕ) (f : List ℕ → Tern) → f n ≡ a → bytes_eq n n ≡ true → value (Complement (Variable n)) f ≡ negate_of a
complement-at Zero n f e self = rw (e, self) refl
complement-at One n f e self = rw (e, self) refl
complement-at X n f e self = rw (e, self) refl

pub value-complement : (n : List ℕ) (f : List ℕ → Tern) → value (Complement (Variable n)) f ≡ negate_of (f n)
value-complement n f = complement-at (f n) n f refl (bytes_eq-self n)

-- an operation on two variables, at each pair of their values
pair-at : (a b : Tern) (operation : Bool → Bool → Bool) (e : Expression) (m n : List ℕ) (f : List ℕ → Tern)
    → variables e ≡ m ∷ n ∷ [] → ((c : Choice) → holds e c ≡ operation (chosen c m) (chosen c n))
    → f m ≡ a → f n ≡ b → bytes_eq m m ≡ true → bytes_eq m n ≡ false → bytes_eq n n ≡ true
    → value e f ≡ lifted operation a b
pair-at Zero Zero operation e m n f names h p q r s t = rw (names, p, q) (simp (h, r, s, t))
pair-at Zero One operation e m n f names h p q r s t = rw (names, p, q) (simp (h, r, s, t))
pair-at Zero X operation e m n f names h p q r s t = rw (names, p, q) (simp (h, r, s, t))
pair-at One Zero operation e m n f names h p q r s t = rw (names, p, q) (simp (h, r, s, t))
pair-at One One operation e m n f names h p q r s t = rw (names, p, q) (simp (h, r, s, t))
pair-at One X operation e m n f names h p q r s t = rw (names, p, q) (simp (h, r, s, t))
pair-at X Zero operation e m n f names h p q r s t = rw (names, p, q) (simp (h, r, s, t))
pair-at X One operation e m n f names h p q r s t = rw (names, p, q) (simp (h, r, s, t))
pair-at X X operation e m n f names h p q r s t = rw (names, p, q) (simp (h, r, s, t))

pair : (operation : Bool → Bool → Bool) (e : Expression) (m n : List ℕ) (f : List ℕ → Tern)
    → variables e ≡ m ∷ n ∷ [] → ((c : Choice) → holds e c ≡ operation (chosen c m) (chosen c n)) → bytes_eq m n ≡ false
    → value e f ≡ lifted operation (f m) (f n)
pair operation e m n f names h apart = pair-at (f m) (f n) operation e m n f names h refl refl (bytes_eq-self m) apart (bytes_eq-self n)

-- the tables are what all replacements agree on
pub lifted-both : (a b : Tern) → lifted (λ x y. x && y) a b ≡ both_of a b
lifted-both Zero Zero = refl
lifted-both Zero One = refl
lifted-both Zero X = refl
lifted-both One Zero = refl
lifted-both One One = refl
lifted-both One X = refl
lifted-both X Zero = refl
lifted-both X One = refl
lifted-both X X = refl

pub lifted-either : (a b : Tern) → lifted (λ x y. x || y) a b ≡ either_of a b
lifted-either Zero Zero = refl
lifted-either Zero One = refl
lifted-either Zero X = refl
lifted-either One Zero = refl
lifted-either One One = refl
lifted-either One X = refl
lifted-either X Zero = refl
lifted-either X One = refl
lifted-either X X = refl

pub lifted-differ : (a b : Tern) → lifted (λ x y. cond x (not y) y) a b ≡ differ_of a b
lifted-differ Zero Zero = refl
lifted-differ Zero One = refl
lifted-differ Zero X = refl
lifted-differ One Zero = refl
lifted-differ One One = refl
lifted-differ One X = refl
lifted-differ X Zero = refl
lifted-differ X One = refl
lifted-differ X X = refl

-- two different variables take the three-valued tables
pub value-both : (m n : List ℕ) (f : List ℕ → Tern) → bytes_eq m n ≡ false → value (Both (Variable m) (Variable n)) f ≡ both_of (f m) (f n)
value-both m n f apart = pair (λ x y. x && y) (Both (Variable m) (Variable n)) m n f refl (λ c. refl) apart ∙ lifted-both (f m) (f n)

pub value-either : (m n : List ℕ) (f : List ℕ → Tern) → bytes_eq m n ≡ false → value (Either (Variable m) (Variable n)) f ≡ either_of (f m) (f n)
value-either m n f apart = pair (λ x y. x || y) (Either (Variable m) (Variable n)) m n f refl (λ c. refl) apart ∙ lifted-either (f m) (f n)

pub value-differ : (m n : List ℕ) (f : List ℕ → Tern) → bytes_eq m n ≡ false → value (Differ (Variable m) (Variable n)) f ≡ differ_of (f m) (f n)
value-differ m n f apart = pair (λ x y. cond x (not y) y) (Differ (Variable m) (Variable n)) m n f refl (λ c. refl) apart ∙ lifted-differ (f m) (f n)

-- one variable twice has one value in each choice
both_self-at : (a : Tern) (n : List ℕ) (f : List ℕ → Tern) → f n ≡ a → bytes_eq n n ≡ true → value (Both (Variable n) (Variable n)) f ≡ a
both_self-at Zero n f e self = rw (e, self) refl
both_self-at One n f e self = rw (e, self) refl
both_self-at X n f e self = rw (e, self) refl

pub value-both_self : (n : List ℕ) (f : List ℕ → Tern) → value (Both (Variable n) (Variable n)) f ≡ f n
value-both_self n f = both_self-at (f n) n f refl (bytes_eq-self n)

either_self-at : (a : Tern) (n : List ℕ) (f : List ℕ → Tern) → f n ≡ a → bytes_eq n n ≡ true → value (Either (Variable n) (Variable n)) f ≡ a
either_self-at Zero n f e self = rw (e, self) refl
either_self-at One n f e self = rw (e, self) refl
either_self-at X n f e self = rw (e, self) refl

pub value-either_self : (n : List ℕ) (f : List ℕ → Tern) → value (Either (Variable n) (Variable n)) f ≡ f n
value-either_self n f = either_self-at (f n) n f refl (bytes_eq-self n)

differ_self-at : (a : Tern) (n : List ℕ) (f : List ℕ → Tern) → f n ≡ a → bytes_eq n n ≡ true → value (Differ (Variable n) (Variable n)) f ≡ Zero
differ_self-at Zero n f e self = rw (e, self) refl
differ_self-at One n f e self = rw (e, self) refl
differ_self-at X n f e self = rw (e, self) refl

pub value-differ_self : (n : List ℕ) (f : List ℕ → Tern) → value (Differ (Variable n) (Variable n)) f ≡ Zero
value-differ_self n f = differ_self-at (f n) n f refl (bytes_eq-self n)

pub value-constant : (b : Bool) (f : List ℕ → Tern) → value (Constant b) f ≡ cond b One Zero
value-constant true f = refl
value-constant false f = refl
