-- Boolean expressions over named signals, and their value where signals may be unknown.
use Rattle.std.specs.Prelude.{ℕ, Bool, false, not, ◌&&◌, ◌||◌, if◌then◌else◌, List, [], ◌∷◌, ◌++◌, map}
use Rattle.std.specs.List.{flat_map, list_any}
use Rattle.std.specs.Str.{bytes_eq}
use Rattle.lp_tern.specs.declared.tern.Tern.{Tern}
use Rattle.lp_tern.specs.Values.{replacements, agreed}

-- signals go by their names, which are lists of bytes
pub data Expression : Type 0 where
  Variable : List ℕ → Expression
  Constant : Bool → Expression
  Complement : Expression → Expression
  Both : Expression → Expression → Expression
  Either : Expression → Expression → Expression
  Differ : Expression → Expression → Expression

-- the names in an expression, as often as they stand there
abbrev pub variables : Expression → List (List ℕ)
variables (Variable n) = n ∷ []
variables (Constant b) = []
variables (Complement e) = variables e
variables (Both d e) = variables d ++ variables e
variables (Either d e) = variables d ++ variables e
variables (Differ d e) = variables d ++ variables e

-- the name is among the names
abbrev pub has : List ℕ → List (List ℕ) → Bool
has n names = list_any (λ m. bytes_eq m n) names

-- a Boolean value for each name
abbrev pub Choice : Type 0
Choice = List (List ℕ × Bool)

-- the first value that is given to a name, false where none is
abbrev pub chosen : Choice → List ℕ → Bool
chosen [] n = false
chosen (entry ∷ c) n = if bytes_eq entry.0 n then entry.1 else chosen c n

-- the Boolean value of an expression
abbrev pub holds : Expression → Choice → Bool
holds (Variable n) c = chosen c n
holds (Constant b) c = b
holds (Complement e) c = not (holds e c)
holds (Both d e) c = holds d c && holds e c
holds (Either d e) c = holds d c || holds e c
holds (Differ d e) c = if holds d c then not (holds e c) else holds e c

-- every way to replace the unknown values of these names by 0 or 1
abbrev pub choices : List (List ℕ) → (List ℕ → Tern) → List Choice
choices [] f = [] ∷ []
choices (n ∷ names) f = flat_map (λ b. map (λ c. (n, b) ∷ c) (choices names f)) (replacements (f n))

-- 1 where every choice makes the expression true, 0 where every choice makes it false, else unknown
abbrev pub value : Expression → (List ℕ → Tern) → Tern
value e f = agreed (map (holds e) (choices (variables e) f))
