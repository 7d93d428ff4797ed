-- How long the words of a text are, and where they stand (own rule).
use Rattle.std.specs.Prelude.{◌≡◌, ◌≤◌, ℕ, ◌+◌, Bool, true, ◌&&◌, nat_le, List, [], ◌∷◌, length}
use Rattle.std.specs.List.{list_all}
use Rattle.lp_text.specs.declared.shelf.TheConstants.{LIMIT}
use Rattle.lp_model.specs.CommandsView.{WordView}
use Rattle.lp_upf_words.specs.Elements.{content_of}
use Rattle.lp_upf_words.specs.Words.{Gathered}

-- the bytes of words together
abbrev pub sizes : List WordView → ℕ
sizes [] = 0
sizes (w ∷ ws) = length (content_of w) + sizes ws

abbrev pub sizes_of_all : List (List WordView) → ℕ
sizes_of_all [] = 0
sizes_of_all (line ∷ lines) = sizes line + sizes_of_all lines

-- a word that is no longer than a number, and stands no further than another in its text
abbrev pub is_within : ℕ → ℕ → WordView → Bool
is_within most last w = nat_le (length (content_of w)) most && (nat_le w.place.line last && nat_le w.place.column last)

-- as the words of a file
abbrev pub is_modest : WordView → Bool
is_modest w = is_within LIMIT (LIMIT + 1) w

-- no longer than a file
abbrev pub is_short : WordView → Bool
is_short w = nat_le (length (content_of w)) LIMIT

-- the words of a text are as those of a file, and together no longer than the text
pub record AreModest (text : List ℕ) (g : Gathered) : Type 0 where
  pub commands : list_all (list_all is_modest) g.commands ≡ true
  pub words : list_all is_modest g.words ≡ true
  pub together : sizes_of_all g.commands + sizes g.words ≤ length text
