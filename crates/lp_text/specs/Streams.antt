-- Reading and writing whole files through readers and writers, where these tell their bytes.
use Rattle.std.specs.Prelude.{◌≡◌, ℕ, ◌<◌, List, length, take, Option, Result, Ok, Err}
use Rattle.std.specs.Option.{IfSome}
use Rattle.std.specs.Io.KnownBytes.{Appends}
use Rattle.lp_text.specs.Shelf.{count_up}
use Rattle.lp_text.specs.declared.shelf.TheConstants.{LIMIT}
use Rattle.lp_text.specs.declared.shelf.ShelfFault.{ShelfFault}
use Rattle.lp_text.specs.declared.shelf.ShelfFault.TheVariants.{Failed, TooLong, NoMemory}

-- a read to a reader's end gives its bytes, and is too long only above the limit
abbrev pub ReadsWhole : {T : Type 0} → (T → List ℕ) → Option (List ℕ) → Result T ShelfFault → Type 0
ReadsWhole items bytes (Ok v) = IfSome bytes (λ xs. items v ≡ xs)
ReadsWhole items bytes (Err Failed) = Unit {0}
ReadsWhole items bytes (Err TooLong) = IfSome bytes (λ xs. LIMIT < length xs)
ReadsWhole items bytes (Err NoMemory) = Unit {0}

-- a file that was opened is read to its end, and one that was not is a failure
abbrev pub ReadsOpened : {T R E : Type 0} → (T → List ℕ) → (R → Option (List ℕ)) → Result R E → Result T ShelfFault → Type 0
ReadsOpened items remaining (Ok reader) result = ReadsWhole items (remaining reader) result
ReadsOpened items remaining (Err e) result = result ≡ Err Failed

-- all bytes were handed on in order, and after a failure a prefix of them; nothing else goes wrong
abbrev pub Puts : {T : Type 0} → Result T ShelfFault → Option (List ℕ) → Option (List ℕ) → List ℕ → Type 0
Puts (Ok v) old new bytes = Appends old new bytes
Puts (Err Failed) old new bytes = (n : ℕ) × Appends old new (take n bytes)
Puts (Err TooLong) old new bytes = ⊥
Puts (Err NoMemory) old new bytes = ⊥

-- a file that was opened takes the bytes, and one that was not is a failure
abbrev pub PutsOpened : {T W E : Type 0} → (W → Option (List ℕ)) → Result T ShelfFault → Result W E → Result W E → List ℕ → Type 0
PutsOpened contents result (Ok old) (Ok new) bytes = Puts result (contents old) (contents new) bytes
PutsOpened contents result (Ok old) (Err e) bytes = ⊥
PutsOpened contents result (Err e) new bytes = result ≡ Err Failed

-- the count of an answer's failures after it
abbrev pub failures : {T : Type 0} → Result T ShelfFault → ℕ → ℕ
failures (Err Failed) n = count_up n
failures _ n = n

-- the count of files that are too long after an answer
abbrev pub too_longs : {T : Type 0} → Result T ShelfFault → ℕ → ℕ
too_longs (Err TooLong) n = count_up n
too_longs _ n = n
