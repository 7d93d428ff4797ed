-- The parts of an expression in postfix order: as the reader keeps them, and as a tree has them.
use Rattle.std.specs.Prelude.{◌≡◌, ℕ, ◌-◌, Bool, true, ◌&&◌, nat_le, IsTrue, length, List, [], ◌∷◌, ◌++◌, map, take, drop}
use Rattle.std.specs.List.{list_all}
use Rattle.lp_expr.specs.declared.dialect.Dialect.{Dialect}
use Rattle.lp_expr.specs.declared.dialect.Sign.{Sign}
use Rattle.lp_expr.specs.declared.dialect.Part as part
use Rattle.lp_expr.specs.declared.dialect.Part.TheVariants as parts
use Rattle.lp_expr.specs.Grammar.{Tree, Plain, Quoted, Group, Prefixed, Postfixed, Joined, Spells}

-- a name or a constant, a name in quotes, a complement, the operation of a sign
pub data Item : Type 0 where
  Bare : List ℕ → Item
  InQuotes : List ℕ → Item
  Negated : Item
  Joint : Sign → Item

abbrev pub tree_items : Tree → List Item
tree_items (Plain gap name) = Bare name ∷ []
tree_items (Quoted gap name) = InQuotes name ∷ []
tree_items (Group gap t end) = tree_items t
tree_items (Prefixed gap mark t) = tree_items t ++ Negated ∷ []
tree_items (Postfixed t gap) = tree_items t ++ Negated ∷ []
tree_items (Joined l gap sign r) = tree_items l ++ (tree_items r ++ Joint sign ∷ [])

-- the bytes from one number to another
abbrev pub between : List ℕ → ℕ → ℕ → List ℕ
between text from to = take (to - from) (drop from text)

abbrev pub item_of : List ℕ → part.Part → Item
item_of text (parts.Plain from to) = Bare (between text from to)
item_of text (parts.Quoted from to) = InQuotes (between text from to)
item_of text parts.Not = Negated
item_of text (parts.Infix s) = Joint s

-- the bytes of a part stand in a text of this length
abbrev pub is_within : ℕ → part.Part → Bool
is_within size (parts.Plain from to) = nat_le from to && nat_le to size
is_within size (parts.Quoted from to) = nat_le from to && nat_le to size
is_within size parts.Not = true
is_within size (parts.Infix s) = true

abbrev pub are_within : List ℕ → List part.Part → Bool
are_within text read = list_all (is_within (length text)) read

-- the parts are those of the expression that the text is
pub record ReadsParts (d : Dialect) (text : List ℕ) (read : List part.Part) : Type 0 where
  pub within : IsTrue (are_within text read)
  pub spells : Spells d text
  pub same : map (item_of text) read ≡ tree_items spells.tree
