-- What the reader of expressions gives is the expression of the text.
use Rattle.std.proofs.Common.{◌≡◌, ℕ, ◌≤◌, ◌<◌, ◌⊎◌, inl, inr, [], Bool, true, false, List, Option, Some, None, length, refl, sym, ap, ◌∙◌, subst, arith}
use Rattle.std.specs.Prelude.{cond, nat_le, unwrap_or}
use Rattle.std.specs.Option.{option_map}
use Rattle.std.proofs.lemmas.Bool.{le-leb, lt-leb, leb-true, leb-false}
use Rattle.lp_spec_place.specs.Leaving.{Leaves, leaves_none}
use Rattle.lp_tern.specs.Expression.{Expression}
use Rattle.lp_expr.specs.Formula.{Formula}
use Rattle.lp_expr.specs.declared.dialect.Dialect.TheVariants.{Liberty}
use Rattle.lp_expr.specs.Grammar.{Spells, IsExpression, meaning}
use Rattle.lp_expr.specs.Machine.{Reading, Stopped, Whole, read_in, start}
use Rattle.lp_expr.specs.declared.step.Step.{Step}
use Rattle.lp_expr.specs.declared.read.ExprFault.{ExprFault}
use Rattle.lp_expr.specs.declared.read.ExprFault.TheVariants as faults
use Rattle.lp_expr.specs.Answers.{Refuses}
use Rattle.lp_expr.specs.Postfix.{postfix}
use Rattle.lp_expr.specs.Denotes.{firsts, occurring, number_in, parts_names, parts_steps, Reads, HasTooMany}
use Rattle.lp_expr.proofs.Leaving.{one_tree}
use Rattle.lp_expr.proofs.PartsLaws.{names_of, steps_are}
use Rattle.lp_expr.proofs.Simulation.{Answers, reading_answers}
use Rattle.lp_model.specs.LibraryView.{ExprView, expr_view}
use Rattle.lp_attributes.specs.Expressions.{at_most_12, view_of, expression_of, IsKept}

-- an expression as it is kept
pub kept : Expression → ExprView
kept f = record { variables = occurring f; steps = postfix (number_in (occurring f)) f }

same_view : (a b : List (List ℕ)) (s t : List Step) → a ≡ b → s ≡ t → at_most_12 (record { variables = a; steps = s }) ≡ at_most_12 (record { variables = b; steps = t })
same_view a b s t p q = rw (p, q) refl

-- what a reading of an expression gives
read_view : (text : List ℕ) (s : Spells Liberty text) (a : Reading) → Answers text Liberty a → view_of text a ≡ at_most_12 (record { variables = occurring (meaning s.tree); steps = postfix (number_in (occurring (meaning s.tree))) (meaning s.tree) })
read_view text s (Stopped place) h = absurd (leaves_none (IsExpression Liberty) text place h s)
read_view text s (Whole parts) h =
    let tree = one_tree Liberty text h.spells s in
    let named : firsts (parts_names text parts) ≡ occurring (meaning s.tree) = ap firsts (names_of Liberty text parts h) ∙ ap (λ t. occurring (meaning t)) tree in
    let stepped : parts_steps (firsts (parts_names text parts)) text parts ≡ postfix (number_in (occurring (meaning s.tree))) (meaning s.tree) = steps_are Liberty (firsts (parts_names text parts)) text parts h ∙ ap (λ t. postfix (number_in (firsts (parts_names text parts))) (meaning t)) tree ∙ ap (λ names. postfix (number_in names) (meaning s.tree)) named in
    same_view _ _ _ _ named stepped

-- texts of more bytes than a file
pub long_none : (text : List ℕ) → 67108864 < length text → expression_of text ≡ None
unfolding expression_of
long_none text h = rw (lt-leb (length text) 67108864 h) refl

short_is : (text : List ℕ) → length text ≤ 67108864 → expression_of text ≡ view_of text (read_in Liberty 0 text start)
unfolding expression_of
short_is text h = rw (le-leb (length text) 67108864 h) refl

-- an expression that was read
pub reads_view : (text : List ℕ) (names : List (List ℕ)) (e : Formula) → length text ≤ 67108864 → Reads Liberty text names e → expression_of text ≡ at_most_12 (expr_view names e)
reads_view text names e short h =
    short_is text short ∙ (read_view text h.spells (read_in Liberty 0 text start) (reading_answers text Liberty) ∙ same_view _ _ _ _ (sym h.denotes.named) (sym h.denotes.stepped))

-- a text that is no expression
left_view : (text : List ℕ) (place : ℕ) (a : Reading) → Leaves ℕ (IsExpression Liberty) text place → Answers text Liberty a → view_of text a ≡ None
left_view text place (Stopped at) leaves h = refl
left_view text place (Whole parts) leaves h = absurd (leaves_none (IsExpression Liberty) text place leaves h.spells)

pub left_none : (text : List ℕ) (place : ℕ) → length text ≤ 67108864 → Leaves ℕ (IsExpression Liberty) text place → expression_of text ≡ None
left_none text place short leaves = short_is text short ∙ left_view text place (read_in Liberty 0 text start) leaves (reading_answers text Liberty)

over_12 : (names : List (List ℕ)) (s : List Step) → 13 ≤ length names → at_most_12 (record { variables = names; steps = s }) ≡ None
over_12 names s many = rw (lt-leb (length names) 12 many) refl

-- an expression with too many variables
pub many_none : (text : List ℕ) → length text ≤ 67108864 → HasTooMany Liberty text → expression_of text ≡ None
many_none text short h =
    short_is text short ∙ (read_view text h.spells (read_in Liberty 0 text start) (reading_answers text Liberty) ∙ over_12 _ _ h.many)

-- what the reader answers, but for want of memory
pub refused_none : (text : List ℕ) (fault : ExprFault) → length text ≤ 67108864 → Refuses Liberty text fault → (fault ≡ faults.NoMemory → ⊥) → expression_of text ≡ None
refused_none text (faults.Syntax place) short h other = left_none text place short h
refused_none text faults.TooManyVariables short h other = many_none text short h
refused_none text faults.NoMemory short h other = absurd (other refl)

-- ---- the expression of a text, by the grammar

-- what is kept of a reading, where something is
kept_of : (text : List ℕ) (s : Spells Liberty text) (e : ExprView) → length text ≤ 67108864 → (b : Bool) → nat_le (length (occurring (meaning s.tree))) 12 ≡ b → cond b (Some (record { variables = occurring (meaning s.tree); steps = postfix (number_in (occurring (meaning s.tree))) (meaning s.tree) })) None ≡ Some e → IsKept text e
kept_of text s e short true few is =
    let named : e.variables ≡ occurring (meaning s.tree) = ap (λ o. unwrap_or (option_map (λ (v : ExprView). v.variables) o) []) (sym is) in
    let stepped : e.steps ≡ postfix (number_in (occurring (meaning s.tree))) (meaning s.tree) = ap (λ o. unwrap_or (option_map (λ (v : ExprView). v.steps) o) []) (sym is) in
    record { short = short; spells = s; variables = named; steps = stepped; few = subst (λ (names : List (List ℕ)). length names ≤ 12) (sym named) (leb-true (length (occurring (meaning s.tree))) 12 few) }
kept_of text s e short false few is = absurd (cc)

some_by : (text : List ℕ) (e : ExprView) (a : Reading) → length text ≤ 67108864 → Answers text Liberty a → view_of text a ≡ Some e → IsKept text e
some_by text e (Stopped place) short h is = absurd (cc)
some_by text e (Whole parts) short h is = kept_of text h.spells e short (nat_le (length (occurring (meaning h.spells.tree))) 12) refl (sym (read_view text h.spells (Whole parts) h) ∙ is)

size_of : (text : List ℕ) → (67108864 < length text) ⊎ (length text ≤ 67108864)
size_of text = by (nat_le (length text) 67108864) refl
  where
    by : (b : Bool) → nat_le (length text) 67108864 ≡ b → (67108864 < length text) ⊎ (length text ≤ 67108864)
    by true e = inr (leb-true (length text) 67108864 e)
    by false e = inl (leb-false (length text) 67108864 e)

pub some_kept : (text : List ℕ) (e : ExprView) → expression_of text ≡ Some e → IsKept text e
some_kept text e is =
    elim (size_of text) [
      | inl long ↦ absurd (let no : None ≡ Some e = sym (long_none text long) ∙ is in cc)
      | inr short ↦ some_by text e (read_in Liberty 0 text start) short (reading_answers text Liberty) (sym (short_is text short) ∙ is)
    ]

pub kept_some : (text : List ℕ) (e : ExprView) → IsKept text e → expression_of text ≡ Some e
kept_some text e h =
    let fits : at_most_12 e ≡ Some e = rw (le-leb (length e.variables) 12 h.few) refl in
    short_is text h.short ∙ (read_view text h.spells (read_in Liberty 0 text start) (reading_answers text Liberty) ∙ (same_view _ _ _ _ (sym h.variables) (sym h.steps) ∙ fits))

many_of : (text : List ℕ) (s : Spells Liberty text) (b : Bool) → nat_le (length (occurring (meaning s.tree))) 12 ≡ b → cond {A = Option ExprView} b (Some (record { variables = occurring (meaning s.tree); steps = postfix (number_in (occurring (meaning s.tree))) (meaning s.tree) })) None ≡ None → HasTooMany Liberty text
many_of text s true few is = absurd (cc)
many_of text s false few is = record { spells = s; many = leb-false (length (occurring (meaning s.tree))) 12 few }

none_by : (text : List ℕ) (a : Reading) → Answers text Liberty a → view_of text a ≡ None → (Spells Liberty text → ⊥) ⊎ HasTooMany Liberty text
none_by text (Stopped place) h is = inl (λ s. leaves_none (IsExpression Liberty) text place h s)
none_by text (Whole parts) h is = inr (many_of text h.spells (nat_le (length (occurring (meaning h.spells.tree))) 12) refl (sym (read_view text h.spells (Whole parts) h) ∙ is))

pub none_kept : (text : List ℕ) → expression_of text ≡ None → (67108864 < length text) ⊎ ((Spells Liberty text → ⊥) ⊎ HasTooMany Liberty text)
none_kept text is =
    elim (size_of text) [
      | inl long ↦ inl long
      | inr short ↦ inr (none_by text (read_in Liberty 0 text start) (reading_answers text Liberty) (sym (short_is text short) ∙ is))
    ]
