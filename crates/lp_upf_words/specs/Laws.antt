-- The statements of the laws of this crate (own rule).
use Rattle.std.specs.Prelude.{◌≡◌, ℕ, true, nat_lt, List, None, Some}
use Rattle.std.specs.List.{list_all}
use Rattle.lp_text.specs.declared.place.Place.{Place}
use Rattle.lp_upf_words.specs.declared.mode.Stop.{Stop}
use Rattle.lp_upf_words.specs.Bytes.{characters}
use Rattle.lp_model.specs.CommandsView.{WordView}
use Rattle.lp_upf_words.specs.Elements.{bytes_after, elements_of, words_of}
use Rattle.lp_upf_words.specs.Sizes.{is_short}
use Rattle.lp_upf_words.specs.Words.{Outcome, Denotes, DenotesList}
use Rattle.lp_upf_words.specs.Leaving.{LeavesAt}

-- each text has an outcome
abbrev pub EachHasWords : Type 0
EachHasWords = (text : List ℕ) → (outcome : Outcome) × Denotes text outcome

-- a text has at most one
abbrev pub OneOutcome : Type 0
OneOutcome = (text : List ℕ) (a b : Outcome) → Denotes text a → Denotes text b → a ≡ b

-- a text that leaves the form does so at one place, that of its outcome
abbrev pub LeavesThere : Type 0
LeavesThere = (text : List ℕ) (outcome : Outcome) (x : Stop) → Denotes text outcome → outcome.stop ≡ Some x → LeavesAt text x

-- each content of a word has elements as a list, from any place on
abbrev pub EachHasElements : Type 0
EachHasElements = (p : Place) (content : List ℕ) → (outcome : Outcome) × DenotesList p content outcome

abbrev pub OneElements : Type 0
OneElements = (p : Place) (content : List ℕ) (a b : Outcome) → DenotesList p content a → DenotesList p content b → a ≡ b

-- bytes that were taken as characters come back
abbrev pub BytesComeBack : Type 0
BytesComeBack = (bytes : List ℕ) → list_all (λ b. nat_lt b 256) bytes ≡ true → bytes_after None (characters bytes) ≡ bytes

-- the elements of a word that is no longer than a file are so too
abbrev pub ElementsAreShort : Type 0
ElementsAreShort = (w : WordView) → is_short w ≡ true → list_all is_short (words_of (elements_of w)) ≡ true
