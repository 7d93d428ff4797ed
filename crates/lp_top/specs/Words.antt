-- Which words are a command, and which of its files clash (own rule).
use Rattle.std.specs.Prelude.{◌≡◌, Bool, ◌||◌, nat_lt, List, [], ◌∷◌, length, codes, IsTrue, bytes_eq, map, Option, Some, None, if◌then◌else◌}
use Rattle.lp_text.specs.Shelf.{Files, content}
use Rattle.lp_token.specs.Tokens.{is_filled}
use Rattle.lp_plain_upf.specs.Names.{Name, has_name}
use Rattle.lp_spec_insertion.specs.Inputs.{Inputs}
use Rattle.lp_top.specs.declared.words.Command.{Command}

-- the names of a command's files
pub record CommandFiles : Type 0 where
  pub netlist : Name
  pub upf : Name
  pub out : Name
  pub report : Name
  pub libraries : List Name

abbrev pub files_of : Command → CommandFiles
files_of c = record { netlist = c.netlist.now; upf = c.upf.now; out = c.out.now; report = c.report.now; libraries = c.libraries.now }

-- insert --netlist N --upf U --out O --report R LIB..
abbrev pub command_words : CommandFiles → List Name
command_words c =
    codes "insert" ∷ codes "--netlist" ∷ c.netlist ∷ codes "--upf" ∷ c.upf ∷ codes "--out" ∷ c.out ∷ codes "--report" ∷ c.report ∷ c.libraries

-- the words are this command, with a library
pub record IsCommand (words : List Name) (c : CommandFiles) : Type 0 where
  pub spelled : words ≡ command_words c
  pub library : IsTrue (is_filled c.libraries)

-- the input files, in the order in which they are read
abbrev pub input_files : CommandFiles → List Name
input_files c = c.netlist ∷ c.upf ∷ c.libraries

-- more than 16 libraries, or an output that is the other output or an input
abbrev pub clashes : CommandFiles → Bool
clashes c = nat_lt 16 (length c.libraries) || (bytes_eq c.out c.report || (has_name c.out (input_files c) || has_name c.report (input_files c)))

-- the texts of a command's input files
abbrev pub inputs_in : Files → CommandFiles → Inputs
inputs_in files c = record { libraries = map (content files) c.libraries; netlist = content files c.netlist; intent = content files c.upf }

-- reading the words from the left
abbrev pub word_is : Name → List Name → Option (List Name)
word_is name [] = None
word_is name (w ∷ rest) = if bytes_eq w name then Some rest else None

abbrev pub option_at : Name → List Name → Option (Name × List Name)
option_at name [] = None
option_at name (w ∷ []) = None
option_at name (w ∷ v ∷ rest) = if bytes_eq w name then Some (v, rest) else None

infixl 10 ◌>>=◌
abbrev pub ◌>>=◌ : {A B : Type 0} → Option A → (A → Option B) → Option B
None >>= f = None
(Some x) >>= f = f x

unfoldable pub command_of : List Name → Option CommandFiles
command_of words = do
  options ← word_is (codes "insert") words
  netlist ← option_at (codes "--netlist") options
  upf ← option_at (codes "--upf") netlist.1
  out ← option_at (codes "--out") upf.1
  report ← option_at (codes "--report") out.1
  if is_filled report.1 then Some (record { netlist = netlist.0; upf = upf.0; out = out.0; report = report.0; libraries = report.1 }) else None
