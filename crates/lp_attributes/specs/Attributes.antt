-- What the attributes of a Liberty group say (Liberty; that the last value counts is own rule).
use Rattle.std.specs.Prelude.{ℕ, Bool, false, not, ◌&&◌, List, [], ◌∷◌, ◌++◌, Option, Some, None}
use Rattle.std.specs.List.{filter, flat_map}
use Rattle.std.specs.Option.{option_map}
use Rattle.lp_text.specs.Texts.{same_text}
use Rattle.lp_model.specs.GroupsView.{AttrView, GroupView}

-- texts as one, with a blank between two
abbrev pub joined : List (List ℕ) → List ℕ
joined [] = []
joined (t ∷ texts) = t ++ flat_map (λ u. 32 ∷ u) texts

abbrev pub is_simple : List ℕ → AttrView → Bool
is_simple word a = same_text a.word word && not a.complex

abbrev pub is_complex : List ℕ → AttrView → Bool
is_complex word a = same_text a.word word && a.complex

-- the last of a list
abbrev pub last_of : {A : Type 0} → List A → Option A
last_of [] = None
last_of (x ∷ []) = Some x
last_of (x ∷ y ∷ rest) = last_of (y ∷ rest)

-- the last attribute that passes
abbrev pub last_that : (AttrView → Bool) → List AttrView → Option AttrView
last_that passes attrs = last_of (filter passes attrs)

-- the value of a simple attribute of a group
abbrev pub value_of : List ℕ → GroupView → Option (List ℕ)
value_of word g = option_map (λ a. joined a.items) (last_that (is_simple word) g.attrs)

-- the values of a complex attribute of a group
abbrev pub values_of : List ℕ → GroupView → Option (List (List ℕ))
values_of word g = option_map (λ a. a.items) (last_that (is_complex word) g.attrs)

-- whether a value is there, and is this text
abbrev pub is_text : List ℕ → Option (List ℕ) → Bool
is_text text None = false
is_text text (Some value) = same_text value text

-- whether a simple attribute of a group has this value
abbrev pub says : List ℕ → List ℕ → GroupView → Bool
says word text g = is_text text (value_of word g)
