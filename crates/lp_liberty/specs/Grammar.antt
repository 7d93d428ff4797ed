-- The Liberty texts that are taken, as tokens (own rule).
use Rattle.std.specs.Prelude.{◌≡◌, ℕ, suc, Bool, true, false, ◌&&◌, nat_lt, List, [], ◌∷◌, ◌++◌, IsTrue}
use Rattle.std.specs.List.{list_all}
use Rattle.lp_liberty.specs.declared.mark.Mark.{Mark}
use Rattle.lp_liberty.specs.declared.mark.Mark.TheVariants as marks

-- a word (false) or a string (true) with what it says, or another token
pub data Token : Type 0 where
  Name : Bool → List ℕ → Token
  Sign : Mark → Token

-- the statements of a group or of the file, and how they end; a semicolon may stand behind a group or a complex attribute
pub data Body : Type 0 where
  End : Body
  -- a simple attribute that the group's closing brace ends
  Last : List ℕ → List Token → Body
  Semi : Body → Body
  -- a simple attribute that a semicolon or a line end ends
  Simple : List ℕ → List Token → Mark → Body → Body
  Complex : List ℕ → List Token → Body → Body
  Group : List ℕ → List Token → Body → Body → Body

abbrev pub spelling : Body → List Token
spelling End = []
spelling (Last w items) = Name false w ∷ (Sign marks.Colon ∷ items)
spelling (Semi rest) = Sign marks.Semicolon ∷ spelling rest
spelling (Simple w items end rest) = Name false w ∷ (Sign marks.Colon ∷ (items ++ (Sign end ∷ spelling rest)))
spelling (Complex w args rest) = Name false w ∷ (Sign marks.ParenOpen ∷ (args ++ (Sign marks.ParenClose ∷ spelling rest)))
spelling (Group w args body rest) = Name false w ∷ (Sign marks.ParenOpen ∷ (args ++ (Sign marks.ParenClose ∷ (Sign marks.BraceOpen ∷ (spelling body ++ (Sign marks.BraceClose ∷ spelling rest))))))

-- words, strings, commas and parentheses
abbrev pub is_item : Token → Bool
is_item (Name q w) = true
is_item (Sign marks.Comma) = true
is_item (Sign marks.ParenOpen) = true
is_item (Sign marks.ParenClose) = true
is_item (Sign m) = false

abbrev pub is_name : Token → Bool
is_name (Name q w) = true
is_name (Sign m) = false

-- words and strings, each comma between two of them
abbrev pub are_more_args : List Token → Bool
are_more_args [] = true
are_more_args (Name q w ∷ args) = are_more_args args
are_more_args (Sign marks.Comma ∷ []) = false
are_more_args (Sign marks.Comma ∷ (t ∷ args)) = is_name t && are_more_args args
are_more_args (Sign m ∷ args) = false

abbrev pub are_args : List Token → Bool
are_args [] = true
are_args (t ∷ args) = is_name t && are_more_args args

-- a simple attribute ends with a semicolon or with its line
abbrev pub ends_simple : Mark → Bool
ends_simple marks.Semicolon = true
ends_simple marks.LineEnd = true
ends_simple m = false

-- attributes stand in groups; `room` says whether a group may be opened within this many others
abbrev pub is_body : (ℕ → Bool) → ℕ → Bool → Body → Bool
is_body room depth semi End = true
is_body room depth semi (Last w items) = nat_lt 0 depth && list_all is_item items
is_body room depth semi (Semi rest) = semi && is_body room depth false rest
is_body room depth semi (Simple w items end rest) = nat_lt 0 depth && (list_all is_item items && (ends_simple end && is_body room depth false rest))
is_body room depth semi (Complex w args rest) = nat_lt 0 depth && (are_args args && is_body room depth true rest)
is_body room depth semi (Group w args body rest) = room depth && (are_args args && (is_body room (suc depth) false body && is_body room depth true rest))

-- the tokens of a file with these groups
pub record Spells (room : ℕ → Bool) (tokens : List Token) : Type 0 where
  pub body : Body
  pub good : IsTrue (is_body room 0 false body)
  pub spelled : tokens ≡ spelling body

-- texts of the form, with groups of any depth and with at most 64 nested ones
abbrev pub always : ℕ → Bool
always depth = true

abbrev pub below_64 : ℕ → Bool
below_64 depth = nat_lt depth 64

abbrev pub Form : List Token → Type 0
Form tokens = Spells always tokens

abbrev pub Limited : List Token → Type 0
Limited tokens = Spells below_64 tokens
