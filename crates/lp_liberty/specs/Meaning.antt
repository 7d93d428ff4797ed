-- The groups that a Liberty text denotes (own rule).
use Rattle.std.specs.Prelude.{ℕ, suc, ◌+◌, Bool, true, false, List, [], ◌∷◌, ◌++◌, Option, Some}
use Rattle.lp_model.specs.GroupsView.{AttrView, GroupView}
use Rattle.lp_liberty.specs.Grammar.{Token, Name, Sign, Body, End, Last, Semi, Simple, Complex, Group}

-- the words and strings among tokens
abbrev pub names_in : List Token → List (List ℕ)
names_in [] = []
names_in (Name q w ∷ tokens) = w ∷ names_in tokens
names_in (Sign m ∷ tokens) = names_in tokens

abbrev pub attribute : Bool → List ℕ → List Token → AttrView
attribute complex w items = record { word = w; items = names_in items; complex = complex }

-- the attributes that stand in a group itself
abbrev pub attributes : Body → List AttrView
attributes End = []
attributes (Last w items) = attribute false w items ∷ []
attributes (Semi rest) = attributes rest
attributes (Simple w items end rest) = attribute false w items ∷ attributes rest
attributes (Complex w args rest) = attribute true w args ∷ attributes rest
attributes (Group w args body rest) = attributes rest

-- how many groups there are, at any depth
abbrev pub count : Body → ℕ
count End = 0
count (Last w items) = 0
count (Semi rest) = count rest
count (Simple w items end rest) = count rest
count (Complex w args rest) = count rest
count (Group w args body rest) = suc (count body + count rest)

abbrev pub header : Option ℕ → List ℕ → List Token → List AttrView → GroupView
header parent w args attrs = record { word = w; args = names_in args; parent = parent; attrs = attrs }

-- the groups in the order of the text, numbered from a number, with the group around them
abbrev pub groups_in : Option ℕ → ℕ → Body → List GroupView
groups_in parent n End = []
groups_in parent n (Last w items) = []
groups_in parent n (Semi rest) = groups_in parent n rest
groups_in parent n (Simple w items end rest) = groups_in parent n rest
groups_in parent n (Complex w args rest) = groups_in parent n rest
groups_in parent n (Group w args body rest) = header parent w args (attributes body) ∷ (groups_in (Some n) (suc n) body ++ groups_in parent (suc n + count body) rest)
