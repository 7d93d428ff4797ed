-- When each outcome of a run comes, and what stands after it (own rule).
use Rattle.std.specs.Prelude.{◌≡◌, ℕ, ◌+◌, ◌≤◌, ◌<◌, ◌⊎◌, false, List, [], length, take, IsTrue, Option, Some, None, nat_le, slice_index_or, if◌then◌else◌}
use Rattle.std.specs.Option.{option_map, IfSome}
use Rattle.std.specs.List.{AllByRecursion}
use Rattle.lp_text.specs.Shelf.{Files, Faults, LAST, count_up, Rises, content, with_file, with_said, ReadRises, WriteRises, LongRises}
use Rattle.lp_plain_upf.specs.Names.{Name}
use Rattle.lp_spec_insertion.specs.Faults.{FirstFault}
use Rattle.lp_spec_insertion.specs.Promise.{IsWritten, HeadlineHolds}
use Rattle.lp_top.specs.declared.outcome.UsageFault.TheVariants.{Form, Files as Clash}
use Rattle.lp_top.specs.declared.outcome.Outcome.{Outcome}
use Rattle.lp_top.specs.declared.outcome.Outcome.TheVariants.{Done, Refused, TooLong, Usage, ReadFault, WriteFault, NoMemory}
use Rattle.lp_top.specs.Words.{CommandFiles, IsCommand, clashes, input_files, inputs_in}
use Rattle.lp_top.specs.Reading.{IsShort, IsLong, count_more}
use Rattle.lp_top.specs.Outcomes.{line_of}

-- the number of the input file at a place in the order of reading: 1 the netlist, 2 the intent, 9 + k the k-th library from 1
abbrev pub file_number : ℕ → ℕ
file_number place = if nat_le place 1 then place + 1 else place + 8

-- what the words alone decide
abbrev pub ByWords : List Name → Outcome → Type 0
ByWords words (Usage Form) = (c : CommandFiles) → IsCommand words c → ⊥
ByWords words (Usage Clash) = (c : CommandFiles) × (IsCommand words c × IsTrue (clashes c))
ByWords words NoMemory = Unit {0}
ByWords words _ = (c : CommandFiles) × (IsCommand words c × (clashes c ≡ false))

-- what holds of the command that the words are, where its files do not clash
abbrev pub OfCommand : List Name → (CommandFiles → Type 0) → Type 0
OfCommand words P = (c : CommandFiles) → IsCommand words c → clashes c ≡ false → P c

-- every input file of the command is within the limit, where the shelf tells its files
abbrev pub InputsRead : CommandFiles → Option Files → Type 0
InputsRead c held = IfSome held (λ files. AllByRecursion (IsShort files) (input_files c))

-- the texts that are written for a command, and their promises where the shelf tells its files
pub record Texts (held : Option Files) (c : CommandFiles) : Type 0 where
  pub read : InputsRead c held
  pub netlist : List ℕ
  pub report : List ℕ
  pub written : IfSome held (λ files. IsWritten (inputs_in files c) 0 netlist report)
  pub headline : IfSome held (λ files. HeadlineHolds (inputs_in files c) 0 netlist)

-- both texts stand under their names, and nothing else changed
pub record Stores (c : CommandFiles) (old new : Option Files) : Type 0 where
  pub texts : Texts old c
  pub stored : new ≡ with_file (with_file old c.out texts.netlist) c.report texts.report

-- a file that was not written holds what it held, or a prefix of its text
abbrev pub HoldsPart : Option Files → Option Files → Name → List ℕ → Type 0
HoldsPart old new name text = (new ≡ old) ⊎ ((n : ℕ) × (new ≡ with_file old name (take n text)))

pub record StopsAtNetlist (c : CommandFiles) (old new : Option Files) : Type 0 where
  pub texts : Texts old c
  pub part : HoldsPart old new c.out texts.netlist

pub record StopsAtReport (c : CommandFiles) (old new : Option Files) : Type 0 where
  pub texts : Texts old c
  pub part : HoldsPart (with_file old c.out texts.netlist) new c.report texts.report

-- nothing was written, and the fault is the first one of inputs that were all read
pub record StopsAtFault (c : CommandFiles) (old new : Option Files) (line : List ℕ) : Type 0 where
  pub kept : new ≡ old
  pub read : InputsRead c old
  pub first : IfSome old (λ files. FirstFault (inputs_in files c) line)

abbrev pub Stopped : ℕ → CommandFiles → Option Files → Option Files → Type 0
Stopped k c old new = ((k ≡ 3) × StopsAtNetlist c old new) ⊎ ((k ≡ 4) × StopsAtReport c old new)

-- want of memory: no file changed, or the netlist stopped, or after a whole netlist the report did
abbrev pub LeftOff : CommandFiles → Option Files → Option Files → Type 0
LeftOff c old new = (new ≡ old) ⊎ (StopsAtNetlist c old new ⊎ StopsAtReport c old new)

-- the input file of this number is the first above the limit
abbrev pub IsTooLong : ℕ → CommandFiles → Option Files → Type 0
IsTooLong k c held = (place : ℕ) × ((place < length (input_files c)) × ((k ≡ file_number place) × IsLong held (input_files c) place))

-- what the files decide, and what they are afterwards
abbrev pub ByFiles : CommandFiles → Option Files → Option Files → Outcome → Type 0
ByFiles c old new Done = Stores c old new
ByFiles c old new (Refused line) = StopsAtFault c old new line
ByFiles c old new (TooLong k) = (new ≡ old) × IsTooLong k c old
ByFiles c old new (Usage u) = new ≡ old
ByFiles c old new (ReadFault k) = new ≡ old
ByFiles c old new (WriteFault k) = Stopped k c old new
ByFiles c old new NoMemory = LeftOff c old new

-- before its line is said, an outcome changes no count but that of its cause
abbrev pub ByCause : Faults → Faults → Outcome → Type 0
ByCause old new (TooLong k) = LongRises old new
ByCause old new (ReadFault k) = ReadRises old new
ByCause old new (WriteFault k) = WriteRises old new
ByCause old new NoMemory = Unit {0}
ByCause old new _ = new ≡ old

-- the counts after the run: that of the cause rose, and saying the line may have failed
pub record OnlySay (old new : Faults) : Type 0 where
  pub read : new.read ≡ old.read
  pub write : new.write ≡ old.write
  pub long : new.long ≡ old.long
  pub say : old.say ≤ new.say

pub record LongAndSay (old new : Faults) : Type 0 where
  pub read : new.read ≡ old.read
  pub write : new.write ≡ old.write
  pub long : Rises old.long new.long
  pub say : old.say ≤ new.say

pub record ReadAndSay (old new : Faults) : Type 0 where
  pub read : Rises old.read new.read
  pub write : new.write ≡ old.write
  pub long : new.long ≡ old.long
  pub say : old.say ≤ new.say

pub record WriteAndSay (old new : Faults) : Type 0 where
  pub read : new.read ≡ old.read
  pub write : Rises old.write new.write
  pub long : new.long ≡ old.long
  pub say : old.say ≤ new.say

abbrev pub ByCounts : Faults → Faults → Outcome → Type 0
ByCounts old new Done = new ≡ old
ByCounts old new (Refused line) = OnlySay old new
ByCounts old new (TooLong k) = LongAndSay old new
ByCounts old new (Usage u) = OnlySay old new
ByCounts old new (ReadFault k) = ReadAndSay old new
ByCounts old new (WriteFault k) = WriteAndSay old new
ByCounts old new NoMemory = Unit {0}

-- the name of the file that was missed, and how many calls were made, the line's included
abbrev pub MissedInput : ℕ → ℕ → CommandFiles → Option (Option Name) → Option (Option Name) → Option ℕ → Option ℕ → Type 0
MissedInput k said c missed now calls later =
    (place : ℕ) × ((place < length (input_files c)) × ((k ≡ file_number place)
    × ((now ≡ option_map (λ _. Some (slice_index_or (input_files c) place [])) missed) × (later ≡ option_map (count_more (said + (place + 1))) calls))))

abbrev pub MissedOutput : ℕ → ℕ → CommandFiles → Option (Option Name) → Option (Option Name) → Option ℕ → Option ℕ → Type 0
MissedOutput k said c missed now calls later =
    ((k ≡ 3) × ((now ≡ option_map (λ _. Some c.out) missed) × (later ≡ option_map (count_more (said + (length (input_files c) + 1))) calls)))
    ⊎ ((k ≡ 4) × ((now ≡ option_map (λ _. Some c.report) missed) × (later ≡ option_map (count_more (said + (length (input_files c) + 2))) calls)))

-- said is 1 where the call that says the line is counted, and 0 before it
abbrev pub ByMissed : ℕ → CommandFiles → Option (Option Name) → Option (Option Name) → Option ℕ → Option ℕ → Outcome → Type 0
ByMissed said c missed now calls later (ReadFault k) = MissedInput k said c missed now calls later
ByMissed said c missed now calls later (WriteFault k) = MissedOutput k said c missed now calls later
ByMissed said c missed now calls later _ = Unit {0}

-- a line is said whole, or a part of it where the count of failed says rose
abbrev pub SaysLine : List ℕ → Option (List ℕ) → Option (List ℕ) → Faults → Faults → Type 0
SaysLine line old new before now = (new ≡ with_said old line) ⊎ ((n : ℕ) × ((new ≡ with_said old (take n line)) × Rises before.say now.say))

-- Done says nothing; every other outcome but want of memory says its line, which may leave parts of lines
abbrev pub BySaid : Option (List ℕ) → Option (List ℕ) → Faults → Faults → Outcome → Type 0
BySaid old new before now Done = new ≡ old
BySaid old new before now NoMemory = (other : Outcome) × ((m n : ℕ) × (new ≡ with_said (with_said old (take m (line_of other))) (take n (line_of NoMemory))))
BySaid old new before now outcome = SaysLine (line_of outcome) old new before now

-- an outcome after its line was said: the same, or want of memory
abbrev pub IsKept : Outcome → Outcome → Type 0
IsKept before NoMemory = Unit {0}
IsKept before after = after ≡ before

-- saying a line changes no count but that of failed says
abbrev pub SaysCounts : Outcome → Faults → Faults → Type 0
SaysCounts Done old new = new ≡ old
SaysCounts _ old new = OnlySay old new

-- saying a line is one call
abbrev pub SaysCalls : Outcome → Option ℕ → Option ℕ → Type 0
SaysCalls Done old new = Unit {0}
SaysCalls NoMemory old new = Unit {0}
SaysCalls _ old new = new ≡ option_map count_up old

-- on Usage nothing is read or written
abbrev pub KeepsOnUsage : Option Files → Option Files → Outcome → Type 0
KeepsOnUsage old new (Usage u) = new ≡ old
KeepsOnUsage old new _ = Unit {0}

-- words that are no command, or whose files clash, change no file
abbrev pub KeepsFiles : List Name → Option Files → Option Files → Type 0
KeepsFiles words old new = OfCommand words (λ c. ⊥) → new ≡ old

-- on Done the bytes under the name of the netlist keep the promise of the theorem
abbrev pub HoldsTold : CommandFiles → Option Files → Option Files → Type 0
HoldsTold c (Some before) (Some after) = HeadlineHolds (inputs_in before c) 0 (content after c.out)
HoldsTold c _ _ = Unit {0}

abbrev pub HoldsHeadline : CommandFiles → Option Files → Option Files → Outcome → Type 0
HoldsHeadline c old new Done = HoldsTold c old new
HoldsHeadline c old new _ = Unit {0}

-- no count rose, and none stands at its last value
pub record IsSteady (old new : Faults) : Type 0 where
  pub same : new ≡ old
  pub read : old.read < LAST
  pub write : old.write < LAST
  pub say : old.say < LAST
  pub long : old.long < LAST

abbrev pub IsDone : Outcome → Type 0
IsDone Done = Unit {0}
IsDone NoMemory = Unit {0}
IsDone _ = ⊥

-- without a fault of the files or of the inputs, a run is done or wants memory
abbrev pub Completes : CommandFiles → Option Files → Faults → Faults → Outcome → Type 0
Completes c None old new outcome = Unit {0}
Completes c (Some files) old new outcome = IsSteady old new → ((line : List ℕ) → FirstFault (inputs_in files c) line → ⊥) → IsDone outcome

abbrev pub wants_memory : Outcome
wants_memory = NoMemory

-- a part of the line that says that memory is wanted
abbrev pub SaysPart : Option (List ℕ) → Option (List ℕ) → Type 0
SaysPart old new = (n : ℕ) × (new ≡ with_said old (take n (line_of NoMemory)))

-- where no file call failed and no file was too long, inputs with this first fault are refused by it
abbrev pub IsRefusal : List ℕ → Outcome → Type 0
IsRefusal line (Refused l) = l ≡ line
IsRefusal line NoMemory = Unit {0}
IsRefusal line _ = ⊥

pub record NoFileFault (old new : Faults) : Type 0 where
  pub read : new.read ≡ old.read
  pub write : new.write ≡ old.write
  pub long : new.long ≡ old.long
  pub read_low : old.read < LAST
  pub write_low : old.write < LAST
  pub long_low : old.long < LAST

abbrev pub Refuses : CommandFiles → Option Files → Faults → Faults → Outcome → Type 0
Refuses c None old new outcome = Unit {0}
Refuses c (Some files) old new outcome = NoFileFault old new → (line : List ℕ) → FirstFault (inputs_in files c) line → IsRefusal line outcome
