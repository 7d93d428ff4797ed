-- Where a text leaves the form of words (own rule).
use Rattle.std.specs.Prelude.{◌≡◌, ℕ, Bool, true, false, List, [], ◌∷◌, ◌++◌, take, None}
use Rattle.lp_spec_place.specs.Leaving.{Leaves}
use Rattle.lp_text.specs.Places as places
use Rattle.lp_text.specs.Places.{past}
use Rattle.lp_text.specs.declared.place.Place.{Place}
use Rattle.lp_upf_words.specs.declared.kind.Kind.{Kind}
use Rattle.lp_upf_words.specs.declared.kind.Kind.TheVariants as kinds
use Rattle.lp_upf_words.specs.declared.mode.Stop.{Stop}
use Rattle.lp_upf_words.specs.declared.mode.Stop.TheVariants as stops
use Rattle.lp_upf_words.specs.Bytes.{kind_of}
use Rattle.lp_upf_words.specs.Words.{are_digits, Fresh, Token, Spells}

-- a text that keeps the form up to its end
abbrev pub IsWhole : List ℕ → Type 0
IsWhole text = (ts : List Token) × Spells kind_of Fresh places.start text ts None

abbrev pub place_of : Stop → Place
place_of (stops.Syntax p) = p
place_of (stops.Dollar p) = p
place_of (stops.Bracket p) = p

abbrev pub is_part_by : Kind → List ℕ → Bool
is_part_by kinds.Backslash [] = true
is_part_by kinds.OpenBracket digits = are_digits kind_of digits
is_part_by k rest = false

-- what was read of a token: nothing, a backslash, or a bracket and digits
abbrev pub is_part : List ℕ → Bool
is_part [] = true
is_part (b ∷ rest) = is_part_by (kind_of b) rest

-- at the first byte that no text of the form has after the same ones before it, or at the end of a text that ends first; the place is
-- that of the token to which the byte belongs
pub record LeavesAt (text : List ℕ) (x : Stop) : Type 0 where
  pub index : ℕ
  pub leaves : Leaves ℕ IsWhole text index
  pub before : List ℕ
  pub part : List ℕ
  pub front : take index text ≡ before ++ part
  pub is_part : is_part part ≡ true
  pub place : place_of x ≡ past places.start before
