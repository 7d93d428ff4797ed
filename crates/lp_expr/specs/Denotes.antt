-- What an expression that was read stands for: a formula over the names of a table (own rule).
use Rattle.std.specs.Prelude.{◌≡◌, ℕ, ◌+◌, ◌≤◌, Bool, true, false, List, [], ◌∷◌, length, map, fold, unwrap_or, IsTrue, MatchBool, nat_lt, bytes_eq, if◌then◌else◌, Option, Some, None}
use Rattle.std.specs.List.{list_all, flat_map}
use Rattle.std.specs.Global.{Vec}
use Rattle.lp_text.specs.declared.names.NameId.{NameId}
use Rattle.lp_text.specs.Texts.{text_at, with_text, place_of, same_text, Grown}
use Rattle.lp_tern.specs.Expression.{Expression, variables}
use Rattle.lp_expr.specs.declared.dialect.Dialect.{Dialect}
use Rattle.lp_expr.specs.declared.dialect.Sign.{Sign}
use Rattle.lp_expr.specs.declared.dialect.Sign.TheVariants as signs
use Rattle.lp_expr.specs.declared.dialect.Part as part
use Rattle.lp_expr.specs.declared.step.Step.{Step}
use Rattle.lp_expr.specs.declared.step.Step.TheVariants as steps
use Rattle.lp_expr.specs.Formula.{Formula}
use Rattle.lp_expr.specs.Grammar.{Spells, meaning, is_name, plain}
use Rattle.lp_expr.specs.Parts.{Item, Bare, InQuotes, Negated, Joint, item_of}
use Rattle.lp_expr.specs.Postfix.{postfix}

-- texts in the order in which they first come
abbrev pub firsts : List (List ℕ) → List (List ℕ)
firsts texts = fold with_text [] texts

-- the names of a formula, in the order in which they first occur
abbrev pub occurring : Expression → List (List ℕ)
occurring f = firsts (variables f)

abbrev pub number_in : List (List ℕ) → List ℕ → ℕ
number_in texts n = unwrap_or (place_of n texts) 0

abbrev pub texts_of : List (List ℕ) → List NameId → List (List ℕ)
texts_of names ids = map (λ id. text_at names id.0) ids

-- the variables are the formula's names, and the steps its steps
pub record Denotes (names : List (List ℕ)) (e : Formula) (f : Expression) : Type 0 where
  pub named : texts_of names e.variables ≡ occurring f
  pub stepped : e.steps ≡ postfix (number_in (occurring f)) f

-- the text is an expression, and this is its formula
pub record Reads (d : Dialect) (text : List ℕ) (names : List (List ℕ)) (e : Formula) : Type 0 where
  pub spells : Spells d text
  pub denotes : Denotes names e (meaning spells.tree)

-- the text is an expression with 13 or more variables
pub record HasTooMany (d : Dialect) (text : List ℕ) : Type 0 where
  pub spells : Spells d text
  pub many : 13 ≤ length (occurring (meaning spells.tree))

-- ---- the parts of an expression

-- whether a plain name is a constant, and which
abbrev pub constant_of : List ℕ → Option Bool
constant_of n = if bytes_eq n (48 ∷ []) then Some false else if bytes_eq n (49 ∷ []) then Some true else None

-- the names that a part has
abbrev pub item_names : Item → List (List ℕ)
item_names (Bare n) = variables (plain n)
item_names (InQuotes n) = n ∷ []
item_names Negated = []
item_names (Joint s) = []

abbrev pub parts_names : List ℕ → List part.Part → List (List ℕ)
parts_names text parts = flat_map (λ p. item_names (item_of text p)) parts

-- a name stands where one has to
abbrev pub is_named : Item → Bool
is_named (Bare n) = is_name n
is_named (InQuotes n) = is_name n
is_named Negated = true
is_named (Joint s) = true

abbrev pub are_named : List ℕ → List part.Part → Bool
are_named text parts = list_all (λ p. is_named (item_of text p)) parts

abbrev pub operation : Sign → Step
operation signs.Caret = steps.Xor
operation signs.Star = steps.And
operation signs.Ampersand = steps.And
operation signs.Gap = steps.And
operation signs.Plus = steps.Or
operation signs.Bar = steps.Or
operation signs.TwoAmpersands = steps.And
operation signs.TwoBars = steps.Or

-- the step of a part, where names are numbered by their places among texts
abbrev pub item_step : List (List ℕ) → Item → Step
item_step texts (Bare n) = if bytes_eq n (48 ∷ []) then steps.Constant false else if bytes_eq n (49 ∷ []) then steps.Constant true else steps.Variable (number_in texts n)
item_step texts (InQuotes n) = steps.Variable (number_in texts n)
item_step texts Negated = steps.Not
item_step texts (Joint s) = operation s

abbrev pub parts_steps : List (List ℕ) → List ℕ → List part.Part → List Step
parts_steps texts text parts = map (λ p. item_step texts (item_of text p)) parts

-- ---- variables, one by one

abbrev pub are_below : ℕ → List NameId → Bool
are_below count ids = list_all (λ id. nat_lt id.0 count) ids

-- the first place of a name among texts, counted from a number
abbrev pub place_from : ℕ → List ℕ → List (List ℕ) → Option ℕ
place_from k name [] = None
place_from k name (t ∷ texts) = if same_text name t then Some k else place_from (k + 1) name texts

-- names that come are counted among at most 12 variables
pub record Noted (old : List (List ℕ)) (before : List NameId) (more : List (List ℕ)) (new : List (List ℕ)) (after : List NameId) : Type 0 where
  pub texts : texts_of new after ≡ fold with_text (texts_of old before) more
  pub below : IsTrue (are_below (length new) after)
  pub few : length after ≤ 12
  pub one_more : length after ≤ length before + 1
  pub paid : length new + length before ≤ length old + length after
  pub grown : Grown old new

-- names that come make 13 variables or more
pub record Overflows (old : List (List ℕ)) (before : List NameId) (more : List (List ℕ)) (new : List (List ℕ)) : Type 0 where
  pub many : 13 ≤ length (fold with_text (texts_of old before) more)
  pub same : new ≡ old

-- whether names that come leave at most 12 variables
abbrev pub NotedIf : List (List ℕ) → List NameId → List (List ℕ) → List (List ℕ) → List NameId → Bool → Type 0
NotedIf old before more new after fits = MatchBool fits (Noted old before more new after) (Overflows old before more new)

-- the variables of all names, none where they are 13 or more
abbrev pub Collected : List (List ℕ) → List (List ℕ) → Option (Vec NameId) → Type 0
Collected names all None = 13 ≤ length (firsts all)
Collected names all (Some ids) = (texts_of names ids.items ≡ firsts all) × IsTrue (are_below (length names) ids.items) × (length ids.items ≤ 12)
