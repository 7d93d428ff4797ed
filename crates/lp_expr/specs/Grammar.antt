-- The Boolean expressions of Liberty attributes and of UPF control expressions, as texts (own rule).
use Rattle.std.specs.Prelude.{◌≡◌, ℕ, Bool, true, false, not, ◌&&◌, ◌||◌, ◌==◌, nat_lt, nat_le, List, [], ◌∷◌, ◌++◌, IsTrue, bytes_eq, if◌then◌else◌}
use Rattle.std.specs.List.{list_all, list_any}
use Rattle.lp_tern.specs.Expression.{Expression, Variable, Constant, Complement, Both, Either, Differ}
use Rattle.lp_expr.specs.declared.dialect.Dialect.{Dialect}
use Rattle.lp_expr.specs.declared.dialect.Dialect.TheVariants.{Liberty, Control}
use Rattle.lp_expr.specs.declared.dialect.Sign.{Sign}
use Rattle.lp_expr.specs.declared.dialect.Sign.TheVariants.{Caret, Star, Ampersand, Gap, Plus, Bar, TwoAmpersands, TwoBars}

-- space, tab, line feed, form feed and carriage return
unfoldable pub is_blank : ℕ → Bool
is_blank b = list_any (λ x. x == b) (32 ∷ 9 ∷ 10 ∷ 12 ∷ 13 ∷ [])

-- letters, digits, _, [ and ]
unfoldable pub is_inner : ℕ → Bool
is_inner b = (nat_le 97 b && nat_le b 122) || (nat_le 65 b && nat_le b 90) || (nat_le 48 b && nat_le b 57) || (b == 95) || (b == 91) || (b == 93)

-- the complement before an operand: ! in both, and ~ in UPF
abbrev pub is_prefix : Dialect → ℕ → Bool
is_prefix Liberty b = b == 33
is_prefix Control b = (b == 33) || (b == 126)

-- only Liberty has the complement ' behind an operand, names in quotes, and blanks that mean "and"
abbrev pub is_liberty : Dialect → Bool
is_liberty Liberty = true
is_liberty Control = false

-- how loosely a sign binds, 0 where the language lacks it; a prefix binds at 1, whatever is complete at 0
abbrev pub looseness : Dialect → Sign → ℕ
looseness Liberty Caret = 2
looseness Liberty Star = 3
looseness Liberty Ampersand = 3
looseness Liberty Gap = 3
looseness Liberty Plus = 4
looseness Liberty Bar = 4
looseness Control Ampersand = 2
looseness Control Bar = 3
looseness Control TwoAmpersands = 4
looseness Control TwoBars = 5
looseness _ _ = 0

-- the bytes of a sign: blanks that mean "and" are those before the next operand
abbrev pub sign_bytes : Sign → List ℕ
sign_bytes Caret = 94 ∷ []
sign_bytes Star = 42 ∷ []
sign_bytes Ampersand = 38 ∷ []
sign_bytes Gap = []
sign_bytes Plus = 43 ∷ []
sign_bytes Bar = 124 ∷ []
sign_bytes TwoAmpersands = 38 ∷ 38 ∷ []
sign_bytes TwoBars = 124 ∷ 124 ∷ []

-- an expression with all its bytes: each part with the blanks before it
pub data Tree : Type 0 where
  Plain : List ℕ → List ℕ → Tree
  Quoted : List ℕ → List ℕ → Tree
  Group : List ℕ → Tree → List ℕ → Tree
  Prefixed : List ℕ → ℕ → Tree → Tree
  Postfixed : Tree → List ℕ → Tree
  Joined : Tree → List ℕ → Sign → Tree → Tree

abbrev pub spelling : Tree → List ℕ
spelling (Plain gap name) = gap ++ name
spelling (Quoted gap name) = gap ++ 34 ∷ (name ++ 34 ∷ [])
spelling (Group gap t end) = gap ++ 40 ∷ (spelling t ++ (end ++ 41 ∷ []))
spelling (Prefixed gap mark t) = gap ++ mark ∷ spelling t
spelling (Postfixed t gap) = spelling t ++ (gap ++ 39 ∷ [])
spelling (Joined l gap sign r) = spelling l ++ (gap ++ (sign_bytes sign ++ spelling r))

abbrev pub height : Dialect → Tree → ℕ
height d (Prefixed gap mark t) = 1
height d (Joined l gap sign r) = looseness d sign
height d _ = 0

-- the blanks before the first part
abbrev pub lead : Tree → List ℕ
lead (Plain gap name) = gap
lead (Quoted gap name) = gap
lead (Group gap t end) = gap
lead (Prefixed gap mark t) = gap
lead (Postfixed t gap) = lead t
lead (Joined l gap sign r) = lead l

abbrev pub is_filled : List ℕ → Bool
is_filled [] = false
is_filled (b ∷ rest) = true

abbrev pub are_blank : List ℕ → Bool
are_blank gap = list_all is_blank gap

abbrev pub is_name : List ℕ → Bool
is_name name = is_filled name && list_all is_inner name

-- blanks mean "and" where they stand alone between two operands
abbrev pub fits_gap : Sign → List ℕ → List ℕ → Bool
fits_gap Gap gap next = is_filled gap && not (is_filled next)
fits_gap sign gap next = true

-- the left part of a sign binds as tightly as the sign or tighter, the right part tighter
abbrev pub is_tree : Dialect → Tree → Bool
is_tree d (Plain gap name) = are_blank gap && is_name name
is_tree d (Quoted gap name) = are_blank gap && (is_name name && is_liberty d)
is_tree d (Group gap t end) = are_blank gap && (is_tree d t && are_blank end)
is_tree d (Prefixed gap mark t) = are_blank gap && (is_prefix d mark && (is_tree d t && nat_le (height d t) 1))
is_tree d (Postfixed t gap) = is_liberty d && (is_tree d t && ((height d t == 0) && are_blank gap))
is_tree d (Joined l gap sign r) =
    nat_le 2 (looseness d sign)
    && (is_tree d l
    && (nat_le (height d l) (looseness d sign)
    && (are_blank gap
    && (is_tree d r
    && (nat_lt (height d r) (looseness d sign)
    && fits_gap sign gap (lead r))))))

-- a plain name that is 0 or 1 is a constant
abbrev pub plain : List ℕ → Expression
plain name = if bytes_eq name (48 ∷ []) then Constant false else if bytes_eq name (49 ∷ []) then Constant true else Variable name

abbrev pub joined : Sign → Expression → Expression → Expression
joined Caret = Differ
joined Star = Both
joined Ampersand = Both
joined Gap = Both
joined Plus = Either
joined Bar = Either
joined TwoAmpersands = Both
joined TwoBars = Either

-- what an expression means
abbrev pub meaning : Tree → Expression
meaning (Plain gap name) = plain name
meaning (Quoted gap name) = Variable name
meaning (Group gap t end) = meaning t
meaning (Prefixed gap mark t) = Complement (meaning t)
meaning (Postfixed t gap) = Complement (meaning t)
meaning (Joined l gap sign r) = joined sign (meaning l) (meaning r)

-- the text is this tree and blanks behind it
pub record Spells (d : Dialect) (text : List ℕ) : Type 0 where
  pub tree : Tree
  pub tail : List ℕ
  pub spelled : text ≡ spelling tree ++ tail
  pub good : IsTrue (is_tree d tree)
  pub blank : IsTrue (are_blank tail)

-- the text is an expression
abbrev pub IsExpression : Dialect → List ℕ → Type 0
IsExpression d text = Spells d text
