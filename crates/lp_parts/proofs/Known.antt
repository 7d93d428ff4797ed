-- The names that expressions may have are in the table of names.
use Rattle.std.proofs.Common.{◌≡◌, ℕ, zero, suc, Bool, true, false, List, [], ◌∷◌, ◌++◌, length, take, refl, sym, ap, ◌∙◌, subst, ◌&&◌, not}
use Rattle.std.specs.Prelude.{map, fold, if◌then◌else◌, codes, slice_index_or}
use Rattle.std.specs.List.{list_all}
use Rattle.std.proofs.lemmas.Bool.{and_parts, and_from, leb-true, leb-false}
use Rattle.std.proofs.Math.Dec.{leb}
use Rattle.std.proofs.lemmas.List.Folds.{list_all-append}
use Rattle.lp_text.specs.declared.names.NameId.{NameId}
use Rattle.lp_text.specs.Texts.{has_text, text_at, with_text, has_text-at}
use Rattle.lp_model.specs.declared.groups.Group.{Group}
use Rattle.lp_model.specs.Agreement.{name_texts}
use Rattle.lp_model.specs.GroupsView.{GroupView, group_view}
use Rattle.lp_attributes.specs.Expressions.{are_known}
use Rattle.lp_attributes.proofs.Finding.{beyond}
use Rattle.lp_parts.specs.Source.{is_part, arg_at}
use Rattle.lp_parts.specs.Names.{is_state, is_output, with_texts, with_inputs, with_variables, with_pg, signal_names, pg_names}

module _ (T : List (List ℕ)) where
  known_if : (b : Bool) (set : List (List ℕ)) (t : List ℕ) → are_known T set ≡ true → has_text t T ≡ true → are_known T (if b then set else set ++ t ∷ []) ≡ true
  known_if true set t known here = known
  known_if false set t known here = list_all-append (λ u. has_text u T) set (t ∷ []) ∙ and_from _ _ known (and_from _ _ here refl)

  -- a set with one more known text
  pub known_with : (set : List (List ℕ)) (t : List ℕ) → are_known T set ≡ true → has_text t T ≡ true → are_known T (with_text set t) ≡ true
  known_with set t known here = known_if (has_text t set) set t known here

  pub either : (b : Bool) (a c : List (List ℕ)) → are_known T a ≡ true → are_known T c ≡ true → are_known T (if b then a else c) ≡ true
  either true a c x y = x
  either false a c x y = y

module _ (T : List (List ℕ)) (empty : has_text [] T ≡ true) where
  -- each number has a text of the table
  pub text_known : (n : ℕ) → has_text (text_at T n) T ≡ true
  text_known n = by (leb (length T) n) refl
    where
      by : (b : Bool) → leb (length T) n ≡ b → has_text (text_at T n) T ≡ true
      by true e = rw (beyond T n (leb-true (length T) n e)) empty
      by false e = has_text-at T n (leb-false (length T) n e)

  known_texts : (ids : List NameId) (set : List (List ℕ)) → are_known T set ≡ true → are_known T (with_texts set (name_texts T ids)) ≡ true
  known_texts [] set known = known
  known_texts (i ∷ ids) set known = known_texts ids (with_text set (text_at T i.0)) (known_with T set (text_at T i.0) known (text_known i.0))

  take_texts : (n : ℕ) (ids : List NameId) → take n (name_texts T ids) ≡ name_texts T (take n ids)
  take_texts zero ids = refl
  take_texts (suc n) [] = refl
  take_texts (suc n) (i ∷ ids) = ap (λ (xs : List (List ℕ)). text_at T i.0 ∷ xs) (take_texts n ids)

  arg_known : (ids : List NameId) → has_text (slice_index_or (name_texts T ids) 0 []) T ≡ true
  arg_known [] = empty
  arg_known (i ∷ ids) = text_known i.0

  known_fold : (f : List (List ℕ) → GroupView → List (List ℕ)) → ((set : List (List ℕ)) (g : Group) → are_known T set ≡ true → are_known T (f set (group_view T g)) ≡ true) → (groups : List Group) (set : List (List ℕ)) → are_known T set ≡ true → are_known T (fold f set (map (group_view T) groups)) ≡ true
  known_fold f keeps [] set known = known
  known_fold f keeps (g ∷ groups) set known = known_fold f keeps groups (f set (group_view T g)) (keeps set g known)

  inputs_keep : (place : ℕ) (set : List (List ℕ)) (g : Group) → are_known T set ≡ true → are_known T (with_inputs place set (group_view T g)) ≡ true
  inputs_keep place set g known = either T (is_part place (codes "pin") (group_view T g) && not (is_output (group_view T g))) (with_texts set (name_texts T g.args)) set (known_texts g.args set known) known

  variables_keep : (place : ℕ) (set : List (List ℕ)) (g : Group) → are_known T set ≡ true → are_known T (with_variables place set (group_view T g)) ≡ true
  variables_keep place set g known =
      let two = subst (λ (xs : List (List ℕ)). are_known T (with_texts set xs) ≡ true) (sym (take_texts 2 g.args)) (known_texts (take 2 g.args) set known) in
      either T (is_state place (group_view T g)) (with_texts set (take 2 (name_texts T g.args))) set two known

  pg_keeps : (place : ℕ) (set : List (List ℕ)) (g : Group) → are_known T set ≡ true → are_known T (with_pg place set (group_view T g)) ≡ true
  pg_keeps place set g known = either T (is_part place (codes "pg_pin") (group_view T g)) (with_text set (arg_at 0 (group_view T g))) set (known_with T set (arg_at 0 (group_view T g)) known (arg_known g.args)) known

  pub signals_known : (place : ℕ) (groups : List Group) → are_known T (signal_names place (map (group_view T) groups)) ≡ true
  signals_known place groups =
      known_fold (with_variables place) (variables_keep place) groups (fold (with_inputs place) [] (map (group_view T) groups)) (known_fold (with_inputs place) (inputs_keep place) groups [] refl)

  pub pgs_known : (place : ℕ) (groups : List Group) → are_known T (pg_names place (map (group_view T) groups)) ≡ true
  pgs_known place groups = known_fold (with_pg place) (pg_keeps place) groups [] refl
