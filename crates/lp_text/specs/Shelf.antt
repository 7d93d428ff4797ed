-- What the clauses of a shelf say: its counts, what it holds and what it said.
use Rattle.std.specs.Prelude.{◌≡◌, ℕ, ◌+◌, ◌-◌, ◌^◌, ◌≤◌, ◌<◌, ◌⊎◌, min, List, [], ◌++◌, take, length}
use Rattle.std.specs.Prelude.{Option, Some, Result, Ok, Err}
use Rattle.std.specs.Option.{option_map, unwrap_or, IfSome}
use Rattle.std.specs.Ordering.{nat_cmp}
use Rattle.std.specs.Cmp.Lexicographic.{slice_cmp}
use Rattle.std.specs.FinMap.{FinMap, get, insert}
use Rattle.lp_text.specs.declared.shelf.TheConstants.{LIMIT}
use Rattle.lp_text.specs.declared.shelf.ShelfFault.{ShelfFault}
use Rattle.lp_text.specs.declared.shelf.ShelfFault.TheVariants.{Failed, TooLong, NoMemory}

-- the bytes of files by their names
abbrev pub Files : Type 0
Files = FinMap (slice_cmp nat_cmp) (List ℕ)

-- how many reads, writes and says failed, and how many files were too long to read
pub record Faults : Type 0 where
  pub read : ℕ
  pub write : ℕ
  pub say : ℕ
  pub long : ℕ

-- the last value of a count
abbrev pub LAST : ℕ
LAST = 2 ^ 64 - 1

-- one more, where the count has not reached its last value
abbrev pub count_up : ℕ → ℕ
count_up n = min (n + 1) LAST

-- a count rose, or stands at its last value, and never falls
abbrev pub Rises : ℕ → ℕ → Type 0
Rises before now = (count_up before ≤ now) × (before ≤ now)

-- the bytes under a name, none where the name is not held
abbrev pub content : Files → List ℕ → List ℕ
content files name = unwrap_or (get files name) []

-- of the counts only that of failed reads changed, and it rose
abbrev pub ReadRises : Faults → Faults → Type 0
ReadRises old new = Rises old.read new.read × (new.write ≡ old.write) × (new.say ≡ old.say) × (new.long ≡ old.long)

-- of the counts only that of failed writes changed, and it rose
abbrev pub WriteRises : Faults → Faults → Type 0
WriteRises old new = (new.read ≡ old.read) × Rises old.write new.write × (new.say ≡ old.say) × (new.long ≡ old.long)

-- of the counts only that of failed says changed, and it rose
abbrev pub SayRises : Faults → Faults → Type 0
SayRises old new = (new.read ≡ old.read) × (new.write ≡ old.write) × Rises old.say new.say × (new.long ≡ old.long)

-- of the counts only that of long reads changed, and it rose
abbrev pub LongRises : Faults → Faults → Type 0
LongRises old new = (new.read ≡ old.read) × (new.write ≡ old.write) × (new.say ≡ old.say) × Rises old.long new.long

-- a read leaves the counts but for that of its own answer
abbrev pub ReadFaults : {T : Type 0} → Result T ShelfFault → Faults → Faults → Type 0
ReadFaults (Ok v) old new = new ≡ old
ReadFaults (Err Failed) old new = ReadRises old new
ReadFaults (Err TooLong) old new = LongRises old new
ReadFaults (Err NoMemory) old new = new ≡ old

-- a write leaves the counts but for that of its own answer, and is never too long
abbrev pub WriteFaults : {T : Type 0} → Result T ShelfFault → Faults → Faults → Type 0
WriteFaults (Ok v) old new = new ≡ old
WriteFaults (Err Failed) old new = WriteRises old new
WriteFaults (Err TooLong) old new = ⊥
WriteFaults (Err NoMemory) old new = new ≡ old

-- a say leaves the counts but for that of its own answer, and is never too long
abbrev pub SayFaults : {T : Type 0} → Result T ShelfFault → Faults → Faults → Type 0
SayFaults (Ok v) old new = new ≡ old
SayFaults (Err Failed) old new = SayRises old new
SayFaults (Err TooLong) old new = ⊥
SayFaults (Err NoMemory) old new = new ≡ old

-- a read gives what is held, and is too long only above the limit, where the shelf tells what it holds
abbrev pub ReadGives : {T : Type 0} → (T → List ℕ) → Option Files → List ℕ → Result T ShelfFault → Type 0
ReadGives items held name (Ok v) = IfSome held (λ f. items v ≡ content f name)
ReadGives items held name (Err Failed) = Unit {0}
ReadGives items held name (Err TooLong) = IfSome held (λ f. LIMIT < length (content f name))
ReadGives items held name (Err NoMemory) = Unit {0}

-- the files with one name set
abbrev pub with_file : Option Files → List ℕ → List ℕ → Option Files
with_file held name bytes = option_map (λ f. insert f name bytes) held

-- a write that is Ok sets its name alone; after another the name is as before or holds a prefix
abbrev pub WriteHolds : {T : Type 0} → Result T ShelfFault → List ℕ → List ℕ → Option Files → Option Files → Type 0
WriteHolds (Ok v) name bytes old new = new ≡ with_file old name bytes
WriteHolds (Err e) name bytes old new = (new ≡ old) ⊎ ((n : ℕ) × (new ≡ with_file old name (take n bytes)))

-- what was said with more bytes after it
abbrev pub with_said : Option (List ℕ) → List ℕ → Option (List ℕ)
with_said said bytes = option_map (λ s. s ++ bytes) said

-- a say that is Ok appends its bytes, and another a prefix of them
abbrev pub SayHolds : {T : Type 0} → Result T ShelfFault → List ℕ → Option (List ℕ) → Option (List ℕ) → Type 0
SayHolds (Ok v) bytes old new = new ≡ with_said old bytes
SayHolds (Err e) bytes old new = (n : ℕ) × (new ≡ with_said old (take n bytes))

-- a read or write that failed is the last one missed, and any other leaves that
abbrev pub Misses : {T : Type 0} → Result T ShelfFault → List ℕ → Option (Option (List ℕ)) → Option (Option (List ℕ)) → Type 0
Misses (Ok v) name old new = new ≡ old
Misses (Err Failed) name old new = new ≡ option_map (λ _. Some name) old
Misses (Err TooLong) name old new = new ≡ old
Misses (Err NoMemory) name old new = new ≡ old
