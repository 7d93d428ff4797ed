-- What a Liberty text denotes, and where it is refused (own rule).
use Rattle.std.specs.Prelude.{◌≡◌, ◌⊎◌, ℕ, zero, suc, ◌<◌, ◌≤◌, Bool, false, nat_le, IsTrue, List, [], ◌∷◌, ◌++◌, length, map, take, drop, None}
use Rattle.std.specs.List.{list_all}
use Rattle.lp_spec_place.specs.Leaving.{Leaves}
use Rattle.lp_text.specs.declared.shelf.TheConstants.{LIMIT}
use Rattle.lp_text.specs.Places.{place_in}
use Rattle.lp_model.specs.declared.groups.Groups.{Groups}
use Rattle.lp_model.specs.GroupsView.{GroupView, groups_view}
use Rattle.lp_model.specs.Refusals.{library_refusal}
use Rattle.lp_model.specs.declared.fault.library.LibraryFault.TheVariants as faults
use Rattle.lp_model.specs.declared.fault.refusal.Refusal.{Refusal}
use Rattle.lp_model.specs.declared.fault.refusal.Refusal.TheVariants as refusals
use Rattle.lp_liberty.specs.declared.run.TheConstants.{LONGEST}
use Rattle.lp_liberty.specs.declared.mark.Mark.TheVariants as marks
use Rattle.lp_liberty.specs.Grammar.{Token, Name, Sign, are_args, Form, Limited}
use Rattle.lp_liberty.specs.Meaning.{groups_in}
use Rattle.lp_liberty.specs.Tokens.{Placed, bare}
use Rattle.lp_liberty.specs.Spelling.{Listed}
use Rattle.lp_liberty.specs.declared.mark.Context.TheVariants as contexts

-- the tokens that stand in a text
abbrev pub IsTokens : List ℕ → List Placed → Type 0
IsTokens text tokens = Listed contexts.Statement 0 text tokens

-- tokens have at most 1,048,576 bytes each
abbrev pub are_short : List Placed → Bool
are_short tokens = list_all (λ (t : Placed). nat_le t.size LONGEST) tokens

-- ---- texts that are taken

pub record Denotes (text : List ℕ) (groups : List GroupView) : Type 0 where
  pub small : length text ≤ LIMIT
  pub tokens : List Placed
  pub stand : IsTokens text tokens
  pub short : IsTrue (are_short tokens)
  pub limited : Limited (bare tokens)
  pub same : groups ≡ groups_in None 0 limited.body

-- ---- texts that are refused

-- the index of the first byte of a token, by its number, or of the text's end
abbrev pub index_in : ℕ → List Placed → ℕ → ℕ
index_in end [] number = end
index_in end (t ∷ tokens) zero = t.at
index_in end (t ∷ tokens) (suc number) = index_in end tokens number

-- the tokens before one keep the limits and can go on to a text that does
pub record KeepsLimits (tokens : List Placed) (number : ℕ) : Type 0 where
  pub short : IsTrue (are_short (take number tokens))
  pub goes_on : (rest : List Token) × Limited (take number (bare tokens) ++ rest)

-- at the first token that no text of the form has after the same ones before it, or at the end of a text that ends first
pub record LeavesForm (end : ℕ) (tokens : List Placed) (index : ℕ) : Type 0 where
  pub number : ℕ
  pub before : KeepsLimits tokens number
  pub short : IsTrue (are_short (take (suc number) tokens))
  pub leaves : Leaves Token Form (bare tokens) number
  pub is : index ≡ index_in end tokens number

-- at the word of a group whose opening brace goes on in the form, but not with at most 64 nested groups; its word comes before each
-- token that is too long, as one of its arguments may be
pub record HasDeepGroup (end : ℕ) (tokens : List Placed) (index : ℕ) : Type 0 where
  pub number : ℕ
  pub front : List Token
  pub short : IsTrue (are_short (take (length front) tokens))
  pub before : (rest : List Token) × Limited (take number (bare tokens) ++ rest)
  pub word : List ℕ
  pub args : List Token
  pub are_args : IsTrue (are_args args)
  pub head : take number (bare tokens) ≡ front ++ (Name false word ∷ (Sign marks.ParenOpen ∷ (args ++ Sign marks.ParenClose ∷ [])))
  pub brace : take (suc number) (bare tokens) ≡ take number (bare tokens) ++ Sign marks.BraceOpen ∷ []
  pub goes_on : (rest : List Token) × Form (take (suc number) (bare tokens) ++ rest)
  pub leaves : Leaves Token Limited (bare tokens) number
  pub is : index ≡ index_in end tokens (length front)

-- at a token of more than 1,048,576 bytes, where no group that is too deep begins before it
pub record HasLongToken (tokens : List Placed) (index : ℕ) : Type 0 where
  pub number : ℕ
  pub before : KeepsLimits tokens number
  pub token : Placed
  pub after : List Placed
  pub here : drop number tokens ≡ token ∷ after
  pub long : LONGEST < token.size
  pub first : (end place : ℕ) → (deep : HasDeepGroup end tokens place) → number ≤ length deep.front
  pub is : index ≡ token.at

-- ---- answers

-- the groups are those of the text
pub record ReadsGroups (file : ℕ) (text : List ℕ) (names : List (List ℕ)) (g : Groups) : Type 0 where
  pub denotes : Denotes text (groups_view names g)
  pub size : g.size ≡ length text
  pub source : g.file ≡ file

-- the text's fault: too long, too deep, a token too long, off the form
pub data RefusedAs (file : ℕ) (text : List ℕ) : Refusal → Type 0 where
  Large : LIMIT < length text → RefusedAs file text (library_refusal (faults.Limit file (place_in text 0)))
  Long : (tokens : List Placed) (index : ℕ) → length text ≤ LIMIT → IsTokens text tokens → HasLongToken tokens index → RefusedAs file text (library_refusal (faults.Limit file (place_in text index)))
  Deep : (tokens : List Placed) (index : ℕ) → length text ≤ LIMIT → IsTokens text tokens → HasDeepGroup (length text) tokens index → RefusedAs file text (library_refusal (faults.Limit file (place_in text index)))
  Off : (tokens : List Placed) (index : ℕ) → length text ≤ LIMIT → IsTokens text tokens → LeavesForm (length text) tokens index → RefusedAs file text (library_refusal (faults.Syntax file (place_in text index)))
  NoMemory : RefusedAs file text refusals.NoMemory

-- the same refusal, if neither is for want of memory
abbrev pub SameFault : Refusal → Refusal → Type 0
SameFault r s = (r ≡ refusals.NoMemory) ⊎ ((s ≡ refusals.NoMemory) ⊎ (r ≡ s))
