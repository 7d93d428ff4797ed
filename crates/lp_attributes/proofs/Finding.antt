-- Names that are found in a table.
use Rattle.std.proofs.Common.{◌≡◌, ℕ, suc, zero, ◌<◌, ◌≤◌, Bool, true, false, List, [], ◌∷◌, Option, Some, None, length, refl, sym, ap, ◌∙◌, subst, arith, ◌||◌, ◌&&◌}
use Rattle.std.specs.Prelude.{IsTrue, is_some, MatchOption}
use Rattle.std.specs.List.{list_all, list_any}
use Rattle.std.proofs.lemmas.Bool.{true≢false, and_parts}
use Rattle.lp_text.specs.declared.names.NameId.{NameId}
use Rattle.lp_text.specs.Numbers.{numbered}
use Rattle.lp_text.specs.Texts.{has_text, place_of, same_text, text_at, place_of-Some, is_some-place_of, same_text-true}
use Rattle.lp_attributes.specs.Expressions.{are_known}

pub record Found (texts : List (List ℕ)) (text : List ℕ) (id : NameId) : Type 0 where
  pub below : id.0 < length texts
  pub same : text_at texts id.0 ≡ text

pub found : (texts : List (List ℕ)) (text : List ℕ) (r : Option NameId) (id : NameId) → r ≡ numbered (place_of text texts) → r ≡ Some id → Found texts text id
found texts text r id is some = by (place_of text texts) refl (sym some ∙ is)
  where
    by : (o : Option ℕ) → place_of text texts ≡ o → Some id ≡ numbered o → Found texts text id
    by None e n = cc
    by (Some place) e n =
        let parts = place_of-Some text texts place e in
        let same : id.0 ≡ place = cc in
        record { below = omega (arith, parts.0); same = ap (text_at texts) same ∙ parts.1 }

-- a text that is not found is not in the table
pub not_found : (texts : List (List ℕ)) (text : List ℕ) (r : Option NameId) → r ≡ numbered (place_of text texts) → r ≡ None → has_text text texts ≡ false
not_found texts text r is none = by (place_of text texts) refl (sym none ∙ is)
  where
    by : (o : Option ℕ) → place_of text texts ≡ o → None ≡ numbered o → has_text text texts ≡ false
    by None e n = sym (is_some-place_of text texts) ∙ ap is_some e
    by (Some place) e n = cc

-- a text is in the table exactly where it has a place
pub has_place : (texts : List (List ℕ)) (text : List ℕ) (r : Option ℕ) (place : ℕ) → r ≡ place_of text texts → r ≡ Some place → has_text text texts ≡ true
has_place texts text r place is some = sym (is_some-place_of text texts) ∙ ap is_some (sym is ∙ some)

pub no_place : (texts : List (List ℕ)) (text : List ℕ) (r : Option ℕ) → r ≡ place_of text texts → r ≡ None → has_text text texts ≡ false
no_place texts text r is none = sym (is_some-place_of text texts) ∙ ap is_some (sym is ∙ none)

-- a number that the table lacks has the empty text
pub beyond : (texts : List (List ℕ)) (n : ℕ) → length texts ≤ n → text_at texts n ≡ []
beyond [] n h = refl
beyond (t ∷ texts) zero h = absurd (omega arith)
beyond (t ∷ texts) (suc n) h = beyond texts n (omega arith)

-- a name among known ones is known
known_by : (b : Bool) (table texts : List (List ℕ)) (text t : List ℕ) → same_text text t ≡ b → has_text t table ≡ true → (has_text text texts ≡ true → has_text text table ≡ true) → has_text text (t ∷ texts) ≡ true → has_text text table ≡ true
known_by true table texts text t e here more has = subst (λ (u : List ℕ). has_text u table ≡ true) (sym (same_text-true text t e)) here
known_by false table texts text t e here more has = more (sym (ap (λ b. b || has_text text texts) e) ∙ has)

pub is_known : (table texts : List (List ℕ)) (text : List ℕ) → are_known table texts ≡ true → has_text text texts ≡ true → has_text text table ≡ true
is_known table [] text known has = absurd (true≢false (sym has))
is_known table (t ∷ texts) text known has =
    let both = and_parts (has_text t table) (are_known table texts) known in
    known_by (same_text text t) table texts text t refl both.0 (is_known table texts text both.1) has

-- a name that may stand has a number in the table
pub stands : (table stand : List (List ℕ)) (text : List ℕ) (r : Option NameId) → are_known table stand ≡ true → has_text text stand ≡ true → r ≡ numbered (place_of text table) → MatchOption r (has_text text stand ≡ false) (λ id. (has_text text stand ≡ true) × (id.0 < length table) × (text_at table id.0 ≡ text))
stands table stand text None known has is = absurd (true≢false (sym (is_known table stand text known has) ∙ not_found table text None is refl))
stands table stand text (Some id) known has is = let f = found table text (Some id) id is refl in (has, f.below, f.same)
