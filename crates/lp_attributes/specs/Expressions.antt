-- The expressions of Liberty attributes over the names that they may have (own rule).
use Rattle.std.specs.Prelude.{◌≡◌, ℕ, ◌≤◌, ◌<◌, Bool, true, false, nat_le, cond, List, length, Option, Some, None, MatchOption}
use Rattle.std.specs.List.{list_all}
use Rattle.lp_text.specs.declared.names.NameId.{NameId}
use Rattle.lp_text.specs.Texts.{has_text, text_at}
use Rattle.lp_expr.specs.declared.dialect.Dialect.TheVariants.{Liberty}
use Rattle.lp_expr.specs.Machine.{Reading, Stopped, Whole, read_in, start}
use Rattle.lp_expr.specs.Grammar.{Spells, meaning}
use Rattle.lp_expr.specs.Postfix.{postfix}
use Rattle.lp_expr.specs.Denotes.{firsts, number_in, occurring, parts_names, parts_steps}
use Rattle.lp_model.specs.LibraryView.{ExprView}

-- an expression of at most 12 variables
abbrev pub at_most_12 : ExprView → Option ExprView
at_most_12 e = cond (nat_le (length e.variables) 12) (Some e) None

-- the expression of what was read, where it has at most 12 variables
abbrev pub view_of : List ℕ → Reading → Option ExprView
view_of text (Stopped place) = None
view_of text (Whole parts) =
    let names = firsts (parts_names text parts) in
    at_most_12 (record { variables = names; steps = parts_steps names text parts })

-- the expression that a text is, none where it is none, has 13 or more variables, or more bytes than a file
unfoldable pub expression_of : List ℕ → Option ExprView
expression_of text = cond (nat_le (length text) 67108864) (view_of text (read_in Liberty 0 text start)) None

-- the text is an expression of at most 12 variables in the grammar of Liberty, and this is what is kept of it
pub record IsKept (text : List ℕ) (e : ExprView) : Type 0 where
  pub short : length text ≤ 67108864
  pub spells : Spells Liberty text
  pub variables : e.variables ≡ occurring (meaning spells.tree)
  pub steps : e.steps ≡ postfix (number_in (occurring (meaning spells.tree))) (meaning spells.tree)
  pub few : length e.variables ≤ 12

-- each text is among those that may stand
abbrev pub may_stand : List (List ℕ) → List (List ℕ) → Bool
may_stand names texts = list_all (λ n. has_text n names) texts

-- the expression, where each of its names is among these
abbrev pub standing : List (List ℕ) → Option ExprView → Option ExprView
standing names None = None
standing names (Some e) = cond (may_stand names e.variables) (Some e) None

abbrev pub expression_over : List (List ℕ) → List ℕ → Option ExprView
expression_over names text = standing names (expression_of text)

-- the number of a text in a table, where the text is among those that may stand
abbrev pub FindsStanding : List (List ℕ) → List (List ℕ) → List ℕ → Option NameId → Type 0
FindsStanding table names text found =
    MatchOption found (has_text text names ≡ false) (λ id. (has_text text names ≡ true) × (id.0 < length table) × (text_at table id.0 ≡ text))

-- each text is in a table
abbrev pub are_known : List (List ℕ) → List (List ℕ) → Bool
are_known table texts = list_all (λ t. has_text t table) texts
