-- What the shelves in memory do: which calls fail, and what each answer leaves behind.
use Rattle.std.specs.Prelude.{◌≡◌, ℕ, ◌<◌, ◌==◌, ◌||◌, Bool, List, [], ◌++◌, length, is_none, IsTrue, IsFalse, refl}
use Rattle.std.specs.Prelude.{Option, Some, None, Result, Ok, Err}
use Rattle.std.specs.List.{list_any}
use Rattle.std.specs.FinMap as map
use Rattle.std.specs.Coded.{Coded, code_by, coded×, coded_ℕ, coded_list, coded_option}
use Rattle.lp_text.specs.Shelf.{Files, Faults, count_up, content}
use Rattle.lp_text.specs.declared.shelf.TheConstants.{LIMIT}
use Rattle.lp_text.specs.declared.shelf.ShelfFault.{ShelfFault}
use Rattle.lp_text.specs.declared.shelf.ShelfFault.TheVariants.{Failed, TooLong, NoMemory}

-- a shelf in memory; `fail` has the numbers of the calls that fail, from 1
pub record Mem : Type 0 where
  pub files : Files
  pub said : List ℕ
  pub calls : ℕ
  pub missed : Option (List ℕ)
  pub faults : Faults
  pub fail : List ℕ

-- a shelf in memory whose calls never fail; `long` counts the long reads
pub record Never : Type 0 where
  pub files : Files
  pub said : List ℕ
  pub long : ℕ

abbrev pub files_code : Coded Files
files_code = map.code (coded_list coded_ℕ) (coded_list coded_ℕ)

abbrev pub faults_code : Coded Faults
faults_code =
    code_by (ℕ × (ℕ × (ℕ × ℕ))) (coded× coded_ℕ (coded× coded_ℕ (coded× coded_ℕ coded_ℕ)))
    (λ f. (f.read, (f.write, (f.say, f.long)))) (λ p. record { read = p.0; write = p.1.0; say = p.1.1.0; long = p.1.1.1 }) (λ _. refl)

abbrev pub mem_code : Coded Mem
mem_code =
    code_by (Files × (List ℕ × (ℕ × (Option (List ℕ) × (Faults × List ℕ)))))
    (coded× files_code (coded× (coded_list coded_ℕ) (coded× coded_ℕ (coded× (coded_option (coded_list coded_ℕ)) (coded× faults_code (coded_list coded_ℕ))))))
    (λ m. (m.files, (m.said, (m.calls, (m.missed, (m.faults, m.fail))))))
    (λ p. record { files = p.0; said = p.1.0; calls = p.1.1.0; missed = p.1.1.1.0; faults = p.1.1.1.1.0; fail = p.1.1.1.1.1 }) (λ _. refl)

abbrev pub never_code : Coded Never
never_code =
    code_by (Files × (List ℕ × ℕ)) (coded× files_code (coded× (coded_list coded_ℕ) coded_ℕ))
    (λ m. (m.files, (m.said, m.long))) (λ p. record { files = p.0; said = p.1.0; long = p.1.1 }) (λ _. refl)

-- no fault yet
abbrev pub no_faults : Faults
no_faults = record { read = 0; write = 0; say = 0; long = 0 }

-- a shelf that holds nothing, whose calls of these numbers will fail
abbrev pub new_mem : List ℕ → Mem
new_mem fail = record { files = map.empty; said = []; calls = 0; missed = None; faults = no_faults; fail = fail }

-- the next call is one of those that fail
abbrev pub fails : Mem → Bool
fails m = list_any (λ n. n == count_up m.calls) m.fail

-- the next read of a name fails
abbrev pub read_fails : Mem → List ℕ → Bool
read_fails m name = fails m || is_none (map.get m.files name)

-- one more call was made
abbrev pub counted : Mem → Mem
counted m = record m { calls = count_up m.calls }

-- a read of a name failed
abbrev pub read_missed : Mem → List ℕ → Mem
read_missed m name = record (counted m) { missed = Some name; faults = record m.faults { read = count_up m.faults.read } }

-- a read met a file that is too long
abbrev pub read_long : Mem → Mem
read_long m = record (counted m) { faults = record m.faults { long = count_up m.faults.long } }

-- a write to a name failed
abbrev pub write_missed : Mem → List ℕ → Mem
write_missed m name = record (counted m) { missed = Some name; faults = record m.faults { write = count_up m.faults.write } }

-- a say failed
abbrev pub say_missed : Mem → Mem
say_missed m = record (counted m) { faults = record m.faults { say = count_up m.faults.say } }

-- a read gives the file, fails or is too long exactly as the shelf says, and memory may run out
abbrev pub MemReads : {T : Type 0} → (T → List ℕ) → Mem → List ℕ → Result T ShelfFault → Mem → Type 0
MemReads items m name (Ok v) new = IsFalse (read_fails m name) × (items v ≡ content m.files name) × (new ≡ counted m)
MemReads items m name (Err Failed) new = IsTrue (read_fails m name) × (new ≡ read_missed m name)
MemReads items m name (Err TooLong) new = IsFalse (read_fails m name) × (LIMIT < length (content m.files name)) × (new ≡ read_long m)
MemReads items m name (Err NoMemory) new = new ≡ counted m

-- a write sets its name or fails exactly as the shelf says, and memory may run out
abbrev pub MemWrites : {T : Type 0} → Mem → List ℕ → List ℕ → Result T ShelfFault → Mem → Type 0
MemWrites m name bytes (Ok v) new = IsFalse (fails m) × (new ≡ record (counted m) { files = map.insert m.files name bytes })
MemWrites m name bytes (Err Failed) new = IsTrue (fails m) × (new ≡ write_missed m name)
MemWrites m name bytes (Err TooLong) new = ⊥
MemWrites m name bytes (Err NoMemory) new = new ≡ counted m

-- a say appends its bytes or fails exactly as the shelf says, and memory may run out
abbrev pub MemSays : {T : Type 0} → Mem → List ℕ → Result T ShelfFault → Mem → Type 0
MemSays m bytes (Ok v) new = IsFalse (fails m) × (new ≡ record (counted m) { said = m.said ++ bytes })
MemSays m bytes (Err Failed) new = IsTrue (fails m) × (new ≡ say_missed m)
MemSays m bytes (Err TooLong) new = ⊥
MemSays m bytes (Err NoMemory) new = new ≡ counted m

-- the counts of a shelf that never fails
abbrev pub never_faults : Never → Faults
never_faults m = record { read = 0; write = 0; say = 0; long = m.long }

-- a read of a shelf that never fails gives the file or is too long, and memory may run out
abbrev pub NeverReads : {T : Type 0} → (T → List ℕ) → Never → List ℕ → Result T ShelfFault → Never → Type 0
NeverReads items m name (Ok v) new = (items v ≡ content m.files name) × (new ≡ m)
NeverReads items m name (Err Failed) new = ⊥
NeverReads items m name (Err TooLong) new = (LIMIT < length (content m.files name)) × (new ≡ record m { long = count_up m.long })
NeverReads items m name (Err NoMemory) new = new ≡ m

-- a call gives a new state, and else memory ran out and nothing changed
abbrev pub NeverGives : {T : Type 0} → Never → Never → Result T ShelfFault → Never → Type 0
NeverGives m done (Ok v) new = new ≡ done
NeverGives m done (Err Failed) new = ⊥
NeverGives m done (Err TooLong) new = ⊥
NeverGives m done (Err NoMemory) new = new ≡ m
