-- Answers of a shelf whose failures were counted.
use Rattle.std.proofs.Common.{◌≡◌, ℕ, ◌≤◌, refl, arith}
use Rattle.std.specs.Prelude.{Result, Ok, Err, IfErr}
use Rattle.lp_text.specs.Shelf.{Faults, count_up, Rises, ReadFaults, WriteFaults, SayFaults}
use Rattle.lp_text.specs.Streams.{failures, too_longs}
use Rattle.lp_text.specs.declared.shelf.ShelfFault.{ShelfFault}
use Rattle.lp_text.specs.declared.shelf.ShelfFault.TheVariants.{Failed, TooLong, NoMemory}

rises : (n now : ℕ) → n ≤ now → now ≡ count_up n → Rises n now
rises n now h e = (omega arith, h)

same : (old : Faults) (read long : ℕ) → read ≡ old.read → long ≡ old.long → ◌≡◌ {A = Faults} (record { read = read; write = old.write; say = old.say; long = long }) old
same old read long r l = λ i. record { read = r i; write = old.write; say = old.say; long = l i }

-- a failed read and one that is too long were counted one after the other
pub read-counted : {T : Type 0} (result : Result T ShelfFault) (old : Faults) (read long : ℕ)
    → read ≡ failures result old.read → old.read ≤ read → long ≡ too_longs result old.long → old.long ≤ long
    → ReadFaults result old (record { read = read; write = old.write; say = old.say; long = long })
read-counted (Ok v) old read long r a l b = same old read long r l
read-counted (Err Failed) old read long r a l b = (rises old.read read a r, refl, refl, l)
read-counted (Err TooLong) old read long r a l b = (r, refl, refl, rises old.long long b l)
read-counted (Err NoMemory) old read long r a l b = same old read long r l

pub write-counted : {T : Type 0} (result : Result T ShelfFault) (old : Faults) (write : ℕ)
    → IfErr result (λ e. e ≡ Failed) → write ≡ failures result old.write → old.write ≤ write
    → WriteFaults result old (record { read = old.read; write = write; say = old.say; long = old.long })
write-counted (Ok v) old write h w a = λ i. record { read = old.read; write = w i; say = old.say; long = old.long }
write-counted (Err Failed) old write h w a = (refl, rises old.write write a w, refl, refl)
write-counted (Err TooLong) old write h w a = cc
write-counted (Err NoMemory) old write h w a = cc

pub say-counted : {T : Type 0} (result : Result T ShelfFault) (old : Faults) (say : ℕ)
    → IfErr result (λ e. e ≡ Failed) → say ≡ failures result old.say → old.say ≤ say
    → SayFaults result old (record { read = old.read; write = old.write; say = say; long = old.long })
say-counted (Ok v) old say h s a = λ i. record { read = old.read; write = old.write; say = s i; long = old.long }
say-counted (Err Failed) old say h s a = (refl, refl, rises old.say say a s, refl)
say-counted (Err TooLong) old say h s a = cc
say-counted (Err NoMemory) old say h s a = cc
