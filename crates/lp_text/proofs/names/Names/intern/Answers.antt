use Rattle.std.proofs.Common.{◌≡◌, ℕ, true, false, cond, List, [], ◌∷◌, ◌++◌, length, Some, Result, Ok, Err, IfOk, OnOk, sym, ap, ◌∙◌}
use Rattle.std.specs.Prelude.{is_some}
use Rattle.std.proofs.lemmas.Bool.{true≢false}
use Rattle.lp_text.specs.declared.names.NameId.{NameId}
use Rattle.lp_text.specs.declared.names.NamesFault.{NamesFault}
use Rattle.lp_text.specs.Texts.{has_text, place_of, with_text, is_some-place_of, place_of-None, place_of-push}
use Rattle.lp_text.proofs.names.Names.intern.Goals as goal
use Rattle.lp_text.proofs.names.Names.intern.Goals.{In-Some, In-None}

present : (c : In-Some) → has_text c.args.text.now c.args.self.now ≡ true
present c = sym (is_some-place_of c.args.text.now c.args.self.now) ∙ ap is_some (sym c.place.ensures ∙ c.in-Some.is)

absent : (c : In-None) → has_text c.args.text.now c.args.self.now ≡ false
absent c = place_of-None c.args.text.now c.args.self.now (sym c.place.ensures ∙ c.in-None.is)

-- the number of a new text, and the table with it
number_of_new : (r : Result NameId NamesFault) (texts new : List (List ℕ)) (text : List ℕ) → has_text text texts ≡ false → IfOk r (λ id. id.0 ≡ length texts) → OnOk r (new ≡ texts ++ text ∷ []) → IfOk r (λ id. place_of text new ≡ Some id.0)
number_of_new (Ok id) texts new text gone number grown = ap (place_of text) grown ∙ place_of-push texts text gone ∙ ap Some (sym number)
number_of_new (Err e) texts new text gone number grown = tt

with_new : (r : Result NameId NamesFault) (texts new : List (List ℕ)) (text : List ℕ) → has_text text texts ≡ false → OnOk r (new ≡ texts ++ text ∷ []) → IfOk r (λ id. new ≡ with_text texts text)
with_new (Ok id) texts new text gone grown = grown ∙ sym (ap (λ b. cond b texts (texts ++ text ∷ [])) gone)
with_new (Err e) texts new text gone grown = tt

pub add-requires : goal.add-requires
add-requires c = absent (goal.at.add-requires c).In-None

pub returns-in-Some-clause-ok : goal.returns-in-Some-clause-ok
returns-in-Some-clause-ok c = sym (ap (λ b. cond b c.args.self.now (c.args.self.now ++ c.args.text.now ∷ [])) (present c))

pub returns-in-Some-clause-full : goal.returns-in-Some-clause-full
returns-in-Some-clause-full c = ((λ e. absurd cc), (λ h. absurd (true≢false (sym (present c) ∙ h.0))))

pub returns-in-None-clause-number : goal.returns-in-None-clause-number
returns-in-None-clause-number c = number_of_new c.add.result c.args.self.now c.add.new.self c.args.text.now (absent (goal.at.returns-in-None-clause-number c).In-None) c.add.ensures.number c.add.ensures.ok

pub returns-in-None-clause-ok : goal.returns-in-None-clause-ok
returns-in-None-clause-ok c = with_new c.add.result c.args.self.now c.add.new.self c.args.text.now (absent (goal.at.returns-in-None-clause-ok c).In-None) c.add.ensures.ok

pub returns-in-None-clause-full : goal.returns-in-None-clause-full
returns-in-None-clause-full c = ((λ e. (absent (goal.at.returns-in-None-clause-full c).In-None, c.add.ensures.full.0 e)), (λ h. c.add.ensures.full.1 h.1))
