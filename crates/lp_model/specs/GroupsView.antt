-- Liberty groups by the texts of their names.
use Rattle.std.specs.Prelude.{◌≡◌, ℕ, Bool, true, List, ◌∷◌, ◌++◌, map, length, Option}
use Rattle.std.specs.List.{flat_map}
use Rattle.std.proofs.Common.{refl}
use Rattle.lp_text.specs.Texts.{text_at, Grown}
use Rattle.lp_model.specs.Agreement.{numbers_below, name_numbers, name_texts, Agree, Agree-left, Agree-right, Agree-grown, map-same, names-same}
use Rattle.lp_model.specs.declared.groups.Attr.{Attr}
use Rattle.lp_model.specs.declared.groups.Group.{Group}
use Rattle.lp_model.specs.declared.groups.Groups.{Groups}

pub record AttrView : Type 0 where
  pub word : List ℕ
  pub items : List (List ℕ)
  pub complex : Bool

abbrev pub attr_view : List (List ℕ) → Attr → AttrView
attr_view texts a = record { word = text_at texts a.word.0; items = name_texts texts a.items; complex = a.complex }

abbrev pub attr_numbers : Attr → List ℕ
attr_numbers a = a.word.0 ∷ name_numbers a.items

-- a group, with the number of the group in which it stands
pub record GroupView : Type 0 where
  pub word : List ℕ
  pub args : List (List ℕ)
  pub parent : Option ℕ
  pub attrs : List AttrView

abbrev pub group_view : List (List ℕ) → Group → GroupView
group_view texts g = record { word = text_at texts g.word.0; args = name_texts texts g.args; parent = g.parent; attrs = map (attr_view texts) g.attrs }

abbrev pub group_numbers : Group → List ℕ
group_numbers g = g.word.0 ∷ (name_numbers g.args ++ flat_map attr_numbers g.attrs)

-- the groups of a text, in its order
abbrev pub groups_view : List (List ℕ) → Groups → List GroupView
groups_view texts g = map (group_view texts) g.groups

-- the numbers of names in groups
abbrev pub groups_numbers : Groups → List ℕ
groups_numbers g = flat_map group_numbers g.groups

module _ (old new : List (List ℕ)) where
  attr-same : (a : Attr) → Agree old new (attr_numbers a) → attr_view new a ≡ attr_view old a
  attr-same a h = rw (h.0, names-same old new a.items h.1) refl

  group-same : (g : Group) → Agree old new (group_numbers g) → group_view new g ≡ group_view old g
  group-same g h =
      let args = names-same old new g.args (Agree-left old new (name_numbers g.args) (flat_map attr_numbers g.attrs) h.1) in
      let attrs = map-same old new attr_numbers attr_view attr-same g.attrs (Agree-right old new (name_numbers g.args) (flat_map attr_numbers g.attrs) h.1) in
      rw (h.0, args, attrs) refl

pub groups_view-grown : (old new : List (List ℕ)) (g : Groups) → Grown old new → numbers_below (length old) (groups_numbers g) ≡ true → groups_view new g ≡ groups_view old g
groups_view-grown old new g grown below = map-same old new group_numbers group_view (group-same old new) g.groups (Agree-grown old new grown (groups_numbers g) below)
