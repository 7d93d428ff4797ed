-- The name behind the word of a command: a second form (own rule).
use Rattle.std.specs.Prelude.{◌≡◌, ℕ, Bool, true, false, List, [], ◌∷◌, ◌+◌, ◌*◌, ◌<◌, length, Option, Some, None}
use Rattle.std.specs.List.{list_all}
use Rattle.lp_text.specs.Limits.{most_names}
use Rattle.lp_text.specs.declared.place.Place.{Place}
use Rattle.lp_model.specs.declared.upf.CommandWord.{CommandWord}
use Rattle.lp_model.specs.declared.upf.UpfWord.{UpfWord}
use Rattle.lp_model.specs.Agreement.{numbers_below}
use Rattle.lp_model.specs.CommandsView.{WordView, line_numbers, line_view}
use Rattle.lp_upf_words.specs.Sizes.{is_modest, sizes}
use Rattle.lp_spec_upf.specs.Shapes.{NameRule, NoName, OneName, NameList, Rest, shape_of}
use Rattle.lp_spec_upf.specs.Commands.{Fault, Named, Part, Sense, TableOf, faults_of_list, name_faults, named_of, options_from}
use Rattle.lp_spec_upf.specs.Intent.{IsSense}
use Rattle.lp_upf.specs.declared.options.Options.{Options}
use Rattle.lp_upf.specs.Options.{options_view, read_of}
use Rattle.lp_upf.specs.States.{tables_numbers}

-- the word that stands where a name may
abbrev pub name_word : {A : Type 0} → NameRule → List A → Option A
name_word NoName ws = None
name_word r [] = None
name_word r (w ∷ ws) = Some w

-- the words behind it
abbrev pub behind_word : {A : Type 0} → NameRule → List A → List A
behind_word NoName ws = ws
behind_word r [] = []
behind_word r (w ∷ ws) = ws

-- whether a command has no name that must have one
abbrev pub is_nameless : {A : Type 0} → NameRule → List A → Bool
is_nameless OneName [] = true
is_nameless NameList [] = true
is_nameless r ws = false

-- the faults of a name
abbrev pub faults_of_name : NameRule → List WordView → List Fault
faults_of_name OneName (w ∷ ws) = name_faults w
faults_of_name NameList (w ∷ ws) = faults_of_list Rest w
faults_of_name r ws = []

-- a command with its name
abbrev pub named_by : Sense → List TableOf → CommandWord → Option Place → List WordView → Named
named_by s tables c e ws = named_of (shape_of c).name e (options_from c s tables (shape_of c).rules e) ws

-- what was read, in each way to judge expressions
abbrev pub IsReadBy : List (List ℕ) → (Sense → Part) → Options → Type 0
IsReadBy names part o = (s : Sense) → IsSense s → options_view names o ≡ read_of (part s)

-- words of a text that a file may have, over a table of names with room for their elements, twice, and tables of states
pub record AreReady (names : List (List ℕ)) (states : List (ℕ × ℕ)) (words : List UpfWord) : Type 0 where
  pub below : numbers_below (length names) (line_numbers words) ≡ true
  pub tables : numbers_below (length names) (tables_numbers states) ≡ true
  pub room : length names + 2 * sizes (line_view names words) < most_names
  pub modest : list_all is_modest (line_view names words) ≡ true
