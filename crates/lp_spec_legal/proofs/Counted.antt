-- A table of names with those that are added behind it.
use Rattle.std.proofs.Common.{◌≡◌, ◌⊎◌, ◌≤◌, ◌||◌, Bool, true, false, not, List, [], ◌∷◌, ◌++◌, length, inl, inr, refl, sym, ap, ◌∙◌, subst, length-append, arith}
use Rattle.std.specs.Prelude.{bytes_eq, filter, flat_map, if◌then◌else◌}
use Rattle.std.specs.List.{list_any}
use Rattle.std.proofs.lemmas.Bool.{false≢true}
use Rattle.std.proofs.lemmas.List.Filters.{length-filter_both}
use Rattle.lp_text.specs.Texts.{has_text, has_text-append, distinct}
use Rattle.lp_model.specs.NetlistView.{ModuleView}
use Rattle.lp_vwrite.specs.WellFormed.{module_texts, HasTable}
use Rattle.lp_spec_design.specs.Keys.{Name}
use Rattle.lp_spec_design.specs.Winners.{IsIn}
use Rattle.lp_spec_design.specs.Reads.{name-true, name-self}
use Rattle.lp_spec_design.proofs.Members.{IsApart, of-any, any-in, of-filter}
use Rattle.lp_spec_faults.specs.Modules.{is_own}
use Rattle.lp_spec_written.specs.Limits.{names_in, once, added_names}
use Rattle.lp_spec_written_at.proofs.Lists.{all-of}
use Rattle.lp_spec_written_at.proofs.Instances.{apart-append}
use Rattle.lp_spec_written_at.proofs.InstanceNames.{apart-names}
use Rattle.lp_spec_written_at.proofs.SourceCells.{in-filter}
use Rattle.lp_spec_written_at.proofs.Weave.{names-apart, apart-filter}

of-text : (n : Name) (names : List Name) → has_text n names ≡ true → IsIn n names
of-text n names e = let m = of-any (bytes_eq n) names e in subst (λ k. IsIn k names) (sym (name-true n m.0 m.2)) m.1

in-text : (n : Name) (names : List Name) → IsIn n names → has_text n names ≡ true
in-text n names h = any-in (bytes_eq n) n names h (name-self n)

-- ---- each name once

once-in : (names : List Name) (n : Name) → IsIn n names → IsIn n (once names)
once-in [] n h = absurd h
once-in (m ∷ names) n h = by (list_any (bytes_eq m) names) refl h (once-in names n)
  where
    by : (b : Bool) → list_any (bytes_eq m) names ≡ b → IsIn n (m ∷ names) → (IsIn n names → IsIn n (once names)) → IsIn n (if b then once names else m ∷ once names)
    by true e (inl is) more = more (subst (λ k. IsIn k names) (sym is) (of-text m names e))
    by true e (inr g) more = more g
    by false e (inl is) more = inl is
    by false e (inr g) more = inr (more g)

of-once : (names : List Name) (n : Name) → IsIn n (once names) → IsIn n names
of-once [] n h = absurd h
of-once (m ∷ names) n h = by (list_any (bytes_eq m) names) h (of-once names n)
  where
    by : (b : Bool) → IsIn n (if b then once names else m ∷ once names) → (IsIn n (once names) → IsIn n names) → IsIn n (m ∷ names)
    by true g more = inr (more g)
    by false (inl is) more = inl is
    by false (inr g) more = inr (more g)

once-apart : (names : List Name) → IsApart (once names)
once-apart [] = tt
once-apart (m ∷ names) = by (list_any (bytes_eq m) names) refl (once-apart names)
  where
    by : (b : Bool) → list_any (bytes_eq m) names ≡ b → IsApart (once names) → IsApart (if b then once names else m ∷ once names)
    by true e more = more
    by false e more = (λ h. false≢true (sym e ∙ in-text m names (of-once names m h)), more)

-- ---- the table

module _ (modules : List ModuleView) (names : List Name) where
  -- a name of the table, or one that is added to it
  abbrev pub Fits : Name → Type 0
  Fits n = (has_text n names ≡ true) ⊎ ((is_own n ≡ true) × IsIn n (flat_map names_in modules))

  abbrev is_new : Name → Bool
  is_new n = not (has_text n names)

  new : List Name
  new = filter is_new (added_names modules)

  all : List Name
  all = names ++ new

  filtered-few : (ns : List Name) → length (filter is_new ns) ≤ length ns
  filtered-few ns = let both = length-filter_both is_new (λ n. not (is_new n)) (λ n. refl) ns in omega (arith, both)

  known : (n : Name) → Fits n → has_text n all ≡ true
  unfolding all new
  known n (inl e) = has_text-append n names new ∙ ap (λ b. b || has_text n new) e
  known n (inr h) = has_text-append n names new ∙ by (has_text n names) refl
    where
      by : (b : Bool) → has_text n names ≡ b → (b || has_text n new) ≡ true
      by true e = refl
      by false e = in-text n new (in-filter is_new (added_names modules) n (once-in (filter is_own (flat_map names_in modules)) n (in-filter is_own (flat_map names_in modules) n h.1 h.0)) (ap not e))

  pub table-of : distinct names ≡ true → length names ≤ 3000000000 → length (added_names modules) ≤ 1000000000
      → ((n : Name) → IsIn n (flat_map module_texts modules) → Fits n)
      → HasTable modules
  unfolding all new
  table-of apart few added each = record {
    names = all;
    apart =
        apart-names all
        (apart-append names new (names-apart names apart) (apart-filter is_new (added_names modules) (once-apart (filter is_own (flat_map names_in modules)))) (λ n h g.
        false≢true (sym (ap not (in-text n names h)) ∙ (of-filter is_new n (added_names modules) g).1)));
    few = let sum = length-append names new in let more = filtered-few (added_names modules) in omega (arith, sum, more, few, added);
    known = all-of (λ t. has_text t all) (flat_map module_texts modules) (λ n h. known n (each n h));
  }
