-- What a walk along the reads of a graph keeps.
use Rattle.std.specs.Prelude.{◌≡◌, ◌≤◌, ◌<◌, ◌+◌, ◌-◌, ℕ, List, [], length, reverse, sum, sum_by, Contains, slice_index, slice_index_or}
use Rattle.lp_order.specs.Order.{row_of, Reads, IsOrdered}
use Rattle.lp_order.specs.declared.walk.Mark.{Mark}
use Rattle.lp_order.specs.declared.walk.Mark.TheVariants.{New, Open, Done}
use Rattle.lp_order.specs.declared.walk.Walk.{Walk}

-- the mark of a key
abbrev pub mark_of : List Mark → ℕ → Mark
mark_of marks key = slice_index_or marks key New

-- each key of a path reads the next
abbrev pub IsPath : List (List ℕ) → List ℕ → Type 0
IsPath graph path = (i : ℕ) → i + 1 < length path → Reads graph (slice_index path i) (slice_index path (i + 1))

-- what the lists of a walk keep
pub record IsWalkOf (graph : List (List ℕ)) (unread : List ℕ) (marks : List Mark) (path order : List ℕ) : Type 0 where
  pub counted : length unread ≡ length graph
  pub marked : length marks ≡ length graph
  pub below : (i : ℕ) → i < length path → slice_index path i < length graph
  pub leads : IsPath graph path
  -- an open key is on the path
  pub on_path : (key : ℕ) → mark_of marks key ≡ Open → Contains path key
  pub within : (key : ℕ) → slice_index unread key ≤ length (row_of graph key)
  -- a read that was followed leads to a key that is done
  pub followed : (key i : ℕ) → key < length graph → slice_index unread key ≤ i → i < length (row_of graph key) → mark_of marks (slice_index (row_of graph key) i) ≡ Done
  -- the keys that are done have an order
  pub ordered : IsOrdered graph order
  pub in_order : (key : ℕ) → mark_of marks key ≡ Done → Contains order key

abbrev pub IsWalk : List (List ℕ) → Walk → Type 0
IsWalk graph walk = IsWalkOf graph walk.unread.items walk.marks.items walk.path.items (reverse walk.done.items)

-- the key is done
abbrev pub IsDone : Walk → ℕ → Type 0
IsDone walk key = mark_of walk.marks.items key ≡ Done

-- the path ends at the key
pub record IsLast (path : List ℕ) (key : ℕ) : Type 0 where
  pub some : 0 < length path
  pub last : slice_index path (length path - 1) ≡ key

-- a new key is still to be put on the path and taken off it
abbrev pub moves_left : Mark → ℕ
moves_left New = 2
moves_left Open = 0
moves_left Done = 0

-- more than the steps that the walk can take
abbrev pub steps_left : Walk → ℕ
steps_left walk =
    sum walk.unread.items + sum_by moves_left walk.marks.items + length walk.path.items

-- the path begins at the root until the root is done
pub record IsFrom (walk : Walk) (root : ℕ) : Type 0 where
  pub first : 0 < length walk.path.items → slice_index walk.path.items 0 ≡ root
  pub over : length walk.path.items ≡ 0 → IsDone walk root

-- the walk took a step
pub record Steps (graph : List (List ℕ)) (old new : Walk) : Type 0 where
  pub walk : IsWalk graph new
  pub nearer : steps_left new < steps_left old
  pub keeps : (key : ℕ) → IsDone old key → IsDone new key
  pub from : (root : ℕ) → IsFrom old root → IsFrom new root

-- the walk came back with the root done
pub record Finishes (graph : List (List ℕ)) (old new : Walk) (root : ℕ) : Type 0 where
  pub walk : IsWalk graph new
  pub back : new.path.items ≡ []
  pub done : IsDone new root
  pub keeps : (key : ℕ) → IsDone old key → IsDone new key
