use Rattle.std.proofs.Common.{◌≡◌, ◌+◌, true, cond, [], ◌∷◌, ◌++◌, length, sym, ap, ◌∙◌, refl, arith, length-append}
use Rattle.std.specs.Prelude.{map, IsTrue}
use Rattle.std.specs.String.{string_bytes}
use Rattle.std.proofs.lemmas.List.{map_push, length-map}
use Rattle.lp_text.specs.Texts.{has_text, distinct, distinct-push}
use Rattle.lp_text.proofs.TextsLemmas.{has_text-map}
use Rattle.lp_text.proofs.names.Names.append.Goals as goal
use Rattle.lp_text.proofs.names.Names.append.Goals.{In_ok-insert}

-- the new text stands behind the others
new_texts : (c : In_ok-insert) → map string_bytes c.insert.new.self.keys ≡ c.args.self.now ++ c.args.text.now ∷ []
new_texts c =
    let keys = c.self.inside.texts.keys in
    let copy = c.in_ok-copy.copy in
    let none = has_text-map string_bytes (string_bytes copy) keys ∙ ap (λ text. has_text text (map string_bytes keys)) c.in_ok-copy.ensures.ok ∙ ap (has_text c.args.text.now) c.self.view_is ∙ c.requires.absent in
    ap (map string_bytes) (c.in_ok-insert.ensures.keys ∙ ap (λ b. cond b keys (keys ++ copy ∷ [])) none)
    ∙ map_push string_bytes keys copy
    ∙ ap (λ text. map string_bytes keys ++ text ∷ []) c.in_ok-copy.ensures.ok
    ∙ ap (λ texts. texts ++ c.args.text.now ∷ []) c.self.view_is

new_distinct : (c : In_ok-insert) → IsTrue (distinct (map string_bytes c.insert.new.self.keys))
new_distinct c =
    let apart : distinct c.args.self.now ≡ true = ap distinct (sym c.self.view_is) ∙ c.self.invariant.0 in
    rw (new_texts c, distinct-push c.args.self.now c.args.text.now, c.requires.absent, apart) refl

new_length : (c : In_ok-insert) → length c.insert.new.self.keys ≡ length c.args.self.now + 1
new_length c = sym (length-map c.insert.new.self.keys string_bytes) ∙ ap length (new_texts c) ∙ length-append c.args.self.now (c.args.text.now ∷ [])

pub invariant_of-self-2 : goal.invariant_of-self-2
invariant_of-self-2 c = let at = (goal.at.invariant_of-self-2 c).In_ok-insert in (new_distinct at, rw (new_length at) (let room = c.requires.room in omega arith))

pub returns-clause-ok : goal.returns-clause-ok
returns-clause-ok c = new_texts (goal.at.returns-clause-ok c).In_ok-insert
