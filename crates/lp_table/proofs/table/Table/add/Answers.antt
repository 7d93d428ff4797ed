use Rattle.std.proofs.Common.{◌≡◌, true, false, not, cond, [], ◌∷◌, ◌++◌, sym, ap, ◌∙◌, refl}
use Rattle.std.specs.Prelude.{map, IsTrue}
use Rattle.std.proofs.lemmas.List.{map_push}
use Rattle.lp_text.specs.Texts.{has_text, distinct, distinct-push}
use Rattle.lp_text.proofs.TextsLemmas.{has_text-map, OnErr-always}
use Rattle.lp_table.proofs.table.Table.add.Goals as goal
use Rattle.lp_table.proofs.table.Table.add.Goals.{After-contains, Else-contains, In_ok-insert}

-- the set's test is the table's
contains_is : (c : After-contains) → c.contains.result ≡ has_text c.args.text.now c.args.self.now
contains_is c = c.contains.ensures ∙ has_text-map (λ key. key.items) c.args.text.now c.self.inside.texts.keys ∙ ap (has_text c.args.text.now) c.self.view_is

absent : (c : Else-contains) → has_text c.args.text.now c.args.self.now ≡ false
absent c = sym (contains_is (goal.at.Else-contains c).After-contains) ∙ c.if-contains.false

-- the new text stands behind the others
new_texts : (c : In_ok-insert) → map (λ key. key.items) c.insert.new.self.keys ≡ c.args.self.now ++ c.args.text.now ∷ []
new_texts c =
    let keys = c.self.inside.texts.keys in
    let copy = c.in_ok-copy.copy in
    let bytes : copy.items ≡ c.args.text.now = c.in_ok-copy.ensures.items in
    let none = has_text-map (λ key. key.items) copy.items keys ∙ ap (λ text. has_text text (map (λ key. key.items) keys)) bytes ∙ ap (has_text c.args.text.now) c.self.view_is ∙ absent (goal.at.In_ok-insert c).Else-contains in
    ap (map (λ key. key.items)) (c.in_ok-insert.ensures.keys ∙ ap (λ b. cond b keys (keys ++ copy ∷ [])) none)
    ∙ map_push (λ key. key.items) keys copy
    ∙ ap (λ text. map (λ key. key.items) keys ++ text ∷ []) bytes
    ∙ ap (λ texts. texts ++ c.args.text.now ∷ []) c.self.view_is

new_distinct : (c : In_ok-insert) → IsTrue (distinct (map (λ key. key.items) c.insert.new.self.keys))
new_distinct c =
    let apart : distinct c.args.self.now ≡ true = ap distinct (sym c.self.view_is) ∙ c.self.invariant in
    let none = absent (goal.at.In_ok-insert c).Else-contains in
    rw (new_texts c, distinct-push c.args.self.now c.args.text.now, none, apart) refl

pub returns-then-contains-clause-added : goal.returns-then-contains-clause-added
returns-then-contains-clause-added c = sym (ap not (sym (contains_is (goal.at.returns-then-contains-clause-added c).After-contains) ∙ c.if-contains.true))

pub returns-in_err-copy-clause-refused : goal.returns-in_err-copy-clause-refused
returns-in_err-copy-clause-refused c = OnErr-always c.from_residual.result (absent (goal.at.returns-in_err-copy-clause-refused c).Else-contains)

pub returns-in_err-insert-clause-refused : goal.returns-in_err-insert-clause-refused
returns-in_err-insert-clause-refused c = OnErr-always c.from_residual-in_err-insert.result (absent (goal.at.returns-in_err-insert-clause-refused c).Else-contains)

pub invariant_of-self-2 : goal.invariant_of-self-2
invariant_of-self-2 c = new_distinct (goal.at.invariant_of-self-2 c).In_ok-insert

pub returns-clause-added : goal.returns-clause-added
returns-clause-added c = sym (ap not (absent (goal.at.In_ok-insert (goal.at.returns-clause-added c).In_ok-insert).Else-contains))

pub returns-clause-ok : goal.returns-clause-ok
returns-clause-ok c = new_texts (goal.at.returns-clause-ok c).In_ok-insert

pub returns-clause-distinct : goal.returns-clause-distinct
returns-clause-distinct c = new_distinct (goal.at.returns-clause-distinct c).In_ok-insert
