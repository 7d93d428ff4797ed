-- What an instance has from the one in which it stands, in one pass over all instances (own rule).
use Rattle.std.specs.Prelude.{List, [], ◌∷◌, ◌++◌, Option, Some, None, slice_index_or}
use Rattle.lp_model.specs.declared.graph.Inst.{Inst}
use Rattle.lp_model.specs.declared.ids.InstId.{InstId}

-- by what is an instance's own and what the one above it has
abbrev pub value_in : {O A : Type 0} → (O → A) → (O → A → A) → List A → O → Option InstId → A
value_in start step done own None = start own
value_in start step done own (Some parent) = step own (slice_index_or done parent.0 (start own))

-- the values so far, and those of further instances
abbrev pub inherited_from : {O A : Type 0} → (O → A) → (O → A → A) → List A → List O → List Inst → List A
inherited_from start step done [] xs = done
inherited_from start step done (own ∷ owns) [] = done
inherited_from start step done (own ∷ owns) (x ∷ xs) = inherited_from start step (done ++ (value_in start step done own x.parent ∷ [])) owns xs

abbrev pub inherited : {O A : Type 0} → (O → A) → (O → A → A) → List O → List Inst → List A
inherited start step owns xs = inherited_from start step [] owns xs
