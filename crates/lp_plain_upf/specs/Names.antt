-- Names, and lists of names.
use Rattle.std.specs.Prelude.{ℕ, Bool, false, not, ◌&&◌, List, [], ◌∷◌, codes, bytes_eq}
use Rattle.std.specs.List.{list_all, list_any, starts_with}
use Rattle.std.specs.Prelude.{nat_eq}
use Rattle.lp_token.specs.Tokens.{is_letter, is_name_byte}

-- a name is the list of its bytes
abbrev pub Name : Type 0
Name = List ℕ

abbrev pub begins_with_letter : Name → Bool
begins_with_letter [] = false
begins_with_letter (b ∷ rest) = is_letter b

-- a letter, and then letters, digits and _
abbrev pub is_simple_name : Name → Bool
is_simple_name n = begins_with_letter n && list_all is_name_byte n

-- names of this kind are the tool's own
abbrev pub is_reserved : Name → Bool
is_reserved n = starts_with nat_eq n (codes "lp_")

-- the name is in the list
abbrev pub has_name : Name → List Name → Bool
has_name n names = list_any (λ m. bytes_eq m n) names

-- a name that an intent may give
abbrev pub is_free_name : Name → Bool
is_free_name n = is_simple_name n && not (is_reserved n)
