-- Where a text leaves the netlists: at the first token that no netlist has after the same tokens before it (own rule).
use Rattle.std.specs.Prelude.{◌≡◌, ◌≤◌, ◌⊎◌, ℕ, ◌+◌, ◌-◌, Bool, true, false, not, ◌&&◌, ◌||◌, ◌==◌, List, [], ◌∷◌, ◌++◌, length, Option, Some, None, is_some, max}
use Rattle.std.specs.List.{list_any}
use Rattle.lp_text.specs.Texts.{distinct}
use Rattle.lp_spec_place.specs.Leaving.{Leaves}
use Rattle.lp_model.specs.declared.netlist.BitRange.{BitRange}
use Rattle.lp_model.specs.NetlistView.{ModuleView}
use Rattle.lp_verilog_tokens.specs.Cutting.{Piece, piece_of}
use Rattle.lp_verilog_draft.specs.declared.declaring.Form.{Form}
use Rattle.lp_verilog_draft.specs.declared.declaring.Form.TheVariants as forms
use Rattle.lp_verilog_draft.specs.declared.scope.Entry.{Entry}
use Rattle.lp_verilog_draft.specs.declared.declaring.Declaring.{Declaring}
use Rattle.lp_verilog_draft.specs.Scopes.{lacks_direction, agrees}
use Rattle.lp_verilog_grammar.specs.declared.symbol.Symbol.{Symbol}
use Rattle.lp_verilog_grammar.specs.declared.symbol.Symbol.TheVariants as symbols
use Rattle.lp_verilog_grammar.specs.declared.reader.Reader.{Reader}
use Rattle.lp_verilog_draft.specs.Verdicts.{Goes}
use Rattle.lp_verilog_grammar.specs.Machine.{start, step}
use Rattle.lp_text.specs.Limits.{most_names}
use Rattle.lp_verilog.specs.Reading.{behind}
use Rattle.lp_verilog.specs.Denotes.{numbered, is_known}
use Rattle.lp_verilog.specs.Reads.{Reads}

-- the tokens of what is left of a text, each with the bytes before it
abbrev pub Cuts : List Piece → Bool → List ℕ → Type 0
Cuts [] fresh rest = piece_of fresh rest ≡ None
Cuts (p ∷ tokens) fresh rest = (piece_of fresh rest ≡ Some p) × Cuts tokens false (behind p rest)

-- the tokens of a text that denotes a netlist
pub record IsNetlist (tokens : List Piece) : Type 0 where
  pub text : List ℕ
  pub view : List ModuleView
  pub cuts : Cuts tokens true text
  pub reads : Reads text view

-- the bytes of some tokens, and of what stands before each
abbrev pub bytes_of : List Piece → ℕ
bytes_of [] = 0
bytes_of (p ∷ tokens) = p.gap + max p.size 1 + bytes_of tokens

abbrev pub is_ports : Form → Bool
is_ports forms.Ports = true
is_ports forms.Header = false
is_ports forms.Wires = false

abbrev pub is_naming : Symbol → Bool
is_naming symbols.Declared = true
is_naming symbols.Vector = true
is_naming symbols.DeclaredName = true
is_naming _ = false

-- no name of a declaration is waited for in this module
abbrev pub plain : List Symbol → Bool
plain [] = true
plain (symbols.Source ∷ rest) = true
plain (s ∷ rest) = not (is_naming s) && plain rest

-- the left bound of a range
abbrev pub has_left : Option BitRange → ℕ → Bool
has_left None left = false
has_left (Some r) left = r.left == left

-- a declaration that is read up to what is waited for can give a name the range that a value or a wire item has settled
abbrev pub fits_range : Declaring → List Symbol → Entry → Bool
fits_range d (symbols.Declared ∷ rest) e = agrees d e || is_some e.range
fits_range d (symbols.Vector ∷ rest) e = agrees d e || is_some e.range
fits_range d (symbols.LeftBound ∷ rest) e = not e.fixed || is_some e.range
fits_range d (symbols.RightBound ∷ rest) e = not e.fixed || has_left e.range d.left
fits_range d (symbols.Expect mark ∷ rest) e = fits_range d rest e
fits_range d _ e = agrees d e

-- a port of the header to which a direction can be given
abbrev pub can_take : Declaring → List Symbol → Entry → Bool
can_take d waiting e = lacks_direction e && fits_range d waiting e

-- the name of a port has to come, to which a direction is given, and no port of the header can be it
abbrev pub is_stuck : Reader → Bool
is_stuck m = is_ports m.declaring.form && (not (plain m.waiting) && not (list_any (λ e. can_take m.declaring m.waiting e.1) m.draft.scope))

-- the first tokens of what is left of a text
abbrev pub Begins : List Piece → Bool → List ℕ → Type 0
Begins [] fresh rest = Unit {0}
Begins (p ∷ tokens) fresh rest = (piece_of fresh rest ≡ Some p) × Begins tokens false (behind p rest)

module _ (names : List (List ℕ)) (size : ℕ) where
  -- tokens of what is left of a text of some size lead from one state to another
  abbrev pub LeadsFrom : List Piece → Bool → List ℕ → Reader → Reader → Type 0
  LeadsFrom [] fresh rest m last = m ≡ last
  LeadsFrom (p ∷ tokens) fresh rest m last =
      (piece_of fresh rest ≡ Some p)
      × (is_known names p.lexeme ≡ true)
      × ((u : Reader) × (step (numbered names p.lexeme) (size - length rest + p.gap) m ≡ Goes u) × LeadsFrom tokens false (behind p rest) u last)

-- the tokens end where the name of a port has to come that no port of the header can be; over a table of distinct names
pub record IsStuck (text : List ℕ) (tokens : List Piece) : Type 0 where
  pub names : List (List ℕ)
  pub apart : distinct names ≡ true
  pub few : length names ≤ most_names
  pub last : Reader
  pub leads : LeadsFrom names (length text) tokens true text start last
  pub stuck : is_stuck last ≡ true

-- the byte of the fault: where the next token begins, or where the text ends behind the tokens
abbrev pub At : List ℕ → List Piece → List Piece → ℕ → Type 0
At text tokens [] at = Cuts tokens true text × (at ≡ length text)
At text tokens (p ∷ []) at = at ≡ bytes_of tokens + p.gap
At text tokens (p ∷ q ∷ more) at = ⊥

-- the tokens before a fault and the one at it, or none at the end of the text: no netlist has them at the same bytes,
-- and some netlist begins with those before it, or they end where a direction is being given that no port of the header
-- can take. Then no netlist begins with them (the law `stuck_reads_nothing`), so that just one of the two holds
pub record FirstFault (text : List ℕ) (at : ℕ) : Type 0 where
  pub tokens : List Piece
  pub next : List Piece
  pub begins : Begins (tokens ++ next) true text
  pub byte : At text tokens next at
  pub never : (p : Piece) (more : List Piece) → next ≡ p ∷ [] → IsNetlist (tokens ++ p ∷ more) → ⊥
  pub leaves : Leaves Piece IsNetlist (tokens ++ next) (length tokens) ⊎ IsStuck text tokens
