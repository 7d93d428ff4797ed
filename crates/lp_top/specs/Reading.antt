-- Reading several files, one after another, up to the first that is refused.
use Rattle.std.specs.Prelude.{◌≡◌, ℕ, ◌+◌, ◌≤◌, ◌<◌, zero, suc, List, [], length, map, take, Option, Some, Result, Ok, Err, slice_index_or}
use Rattle.std.specs.Option.{option_map, IfSome}
use Rattle.std.specs.List.{AllByRecursion}
use Rattle.lp_text.specs.Shelf.{Files, Faults, count_up, content, ReadRises, LongRises}
use Rattle.lp_text.specs.declared.shelf.ShelfFault.{ShelfFault}
use Rattle.lp_text.specs.declared.shelf.ShelfFault.TheVariants as causes
use Rattle.lp_plain_upf.specs.Names.{Name}
use Rattle.lp_top.specs.declared.reading.ReadStop.{ReadStop}

-- a count after some more calls
abbrev pub count_more : ℕ → ℕ → ℕ
count_more zero n = n
count_more (suc more) n = count_up (count_more more n)

-- the file's bytes are within the limit
abbrev pub IsShort : Files → Name → Type 0
IsShort files name = length (content files name) ≤ 67108864

-- what was read is what is held, where that is told
abbrev pub HoldsAll : Option Files → List Name → List (List ℕ) → Type 0
HoldsAll held names texts = IfSome held (λ files. (texts ≡ map (content files) names) × AllByRecursion (IsShort files) names)

-- the file at a place is the first above the limit
abbrev pub IsLong : Option Files → List Name → ℕ → Type 0
IsLong held names place = IfSome held (λ files. (67108864 < length (content files (slice_index_or names place []))) × AllByRecursion (IsShort files) (take place names))

abbrev pub StopsBy : ShelfFault → Option Files → List Name → ℕ → Type 0
StopsBy causes.Failed held names place = Unit {0}
StopsBy causes.TooLong held names place = IsLong held names place
StopsBy causes.NoMemory held names place = Unit {0}

abbrev pub ReadsFiles : {T : Type 0} → (T → List (List ℕ)) → Option Files → List Name → Result T ReadStop → Type 0
ReadsFiles texts held names (Ok t) = HoldsAll held names (texts t)
ReadsFiles texts held names (Err stop) = (stop.place < length names) × StopsBy stop.cause held names stop.place

abbrev pub CountsBy : ShelfFault → Faults → Faults → Type 0
CountsBy causes.Failed old new = ReadRises old new
CountsBy causes.TooLong old new = LongRises old new
CountsBy causes.NoMemory old new = new ≡ old

abbrev pub CountsFiles : {T : Type 0} → Result T ReadStop → Faults → Faults → Type 0
CountsFiles (Ok t) old new = new ≡ old
CountsFiles (Err stop) old new = CountsBy stop.cause old new

abbrev pub CallsBy : ShelfFault → ℕ → Option ℕ → Option ℕ → Type 0
CallsBy causes.NoMemory place old new = Unit {0}
CallsBy _ place old new = new ≡ option_map (count_more (place + 1)) old

-- one call for each file, the one that is refused included
abbrev pub CallsFiles : {T : Type 0} → Result T ReadStop → ℕ → Option ℕ → Option ℕ → Type 0
CallsFiles (Ok t) all old new = new ≡ option_map (count_more all) old
CallsFiles (Err stop) all old new = CallsBy stop.cause stop.place old new

abbrev pub MissesBy : ShelfFault → Name → Option (Option Name) → Option (Option Name) → Type 0
MissesBy causes.Failed name old new = new ≡ option_map (λ _. Some name) old
MissesBy _ name old new = new ≡ old

abbrev pub MissesFiles : {T : Type 0} → Result T ReadStop → List Name → Option (Option Name) → Option (Option Name) → Type 0
MissesFiles (Ok t) names old new = new ≡ old
MissesFiles (Err stop) names old new = MissesBy stop.cause (slice_index_or names stop.place []) old new
