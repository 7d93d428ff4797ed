use Rattle.std.proofs.Common.{◌≡◌, ℕ, ◌≤◌, List, length, Option, Some, None, sym, ap, ◌∙◌, subst}
use Rattle.std.specs.Global.{Vec}
use Rattle.lp_text.specs.declared.names.NameId.{NameId}
use Rattle.lp_expr.specs.declared.dialect.Dialect.{Dialect}
use Rattle.lp_expr.specs.declared.dialect.Part.{Part}
use Rattle.lp_expr.specs.Formula.{Formula}
use Rattle.lp_expr.specs.Grammar.{meaning}
use Rattle.lp_expr.specs.Parts.{ReadsParts}
use Rattle.lp_expr.specs.Postfix.{postfix}
use Rattle.lp_expr.specs.Denotes.{texts_of, firsts, occurring, number_in, parts_names, parts_steps, Reads, HasTooMany, Collected}
use Rattle.lp_expr.proofs.PartsLaws.{names_of, steps_are}
use Rattle.lp_expr.proofs.read.build.Goals as goal

too_many : (d : Dialect) (text : List ℕ) (read : List Part) → ReadsParts d text read → 13 ≤ length (firsts (parts_names text read)) → HasTooMany d text
too_many d text read h many = record { spells = h.spells; many = subst (λ (names : List (List ℕ)). 13 ≤ length (firsts names)) (names_of d text read h) many }

reads : (d : Dialect) (text : List ℕ) (read : List Part) (names : List (List ℕ)) (e : Formula) → ReadsParts d text read → texts_of names e.variables ≡ firsts (parts_names text read) → e.steps ≡ parts_steps (texts_of names e.variables) text read → Reads d text names e
reads d text read names e h named steps =
    let occurs : texts_of names e.variables ≡ occurring (meaning h.spells.tree) = named ∙ ap firsts (names_of d text read h) in
    record { spells = h.spells; denotes = record { named = occurs; stepped = steps ∙ steps_are d (texts_of names e.variables) text read h ∙ ap (λ texts. postfix (number_in texts) (meaning h.spells.tree)) occurs } }

-- what was collected, by cases
collected : (names texts : List (List ℕ)) (o p : Option (Vec NameId)) → Collected names texts o → o ≡ p → Collected names texts p
collected names texts o p h e = subst (Collected names texts) e h

pub returns-in-None-clause-err : goal.returns-in-None-clause-err
returns-in-None-clause-err c = too_many c.args.dialect c.args.text.now c.args.parts.now c.requires.reads (collected c.collect.new.names (parts_names c.args.text.now c.args.parts.now) c.in_ok-collect.field-0 None c.in_ok-collect.ensures.ok c.in-None.is)

pub returns-in_ok-expr-in-Some-clause-ok : goal.returns-in_ok-expr-in-Some-clause-ok
returns-in_ok-expr-in-Some-clause-ok c =
    let all = collected c.collect.new.names (parts_names c.args.text.now c.args.parts.now) c.in_ok-collect.field-0 (Some c.in-Some.ids) c.in_ok-collect.ensures.ok c.in-Some.is in
    let ids : c.deref.result.now ≡ c.in-Some.ids.items = c.deref.ensures.value in
    let steps : c.in_ok-steps-in-Some.steps.items ≡ parts_steps (texts_of c.collect.new.names c.in-Some.ids.items) c.args.text.now c.args.parts.now = c.in_ok-steps-in-Some.ensures ∙ ap (λ xs. parts_steps (texts_of c.collect.new.names xs) c.args.text.now c.args.parts.now) ids in
    subst (Reads c.args.dialect c.args.text.now c.collect.new.names) (sym c.in_ok-expr-in-Some.ensures) (reads c.args.dialect c.args.text.now c.args.parts.now c.collect.new.names (record { variables = c.in-Some.ids.items; steps = c.in_ok-steps-in-Some.steps.items }) c.requires.reads all.0 steps)
