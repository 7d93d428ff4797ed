-- A run and the saying of its line, joined.
use Rattle.std.proofs.Common.{◌≡◌, ℕ, suc, ◌+◌, ◌≤◌, ◌<◌, Bool, true, false, List, [], length, take, Option, Some, None, inl, inr, refl, sym, ◌∙◌, ap, subst, arith}
use Rattle.std.specs.Option.{option_map}
use Rattle.std.proofs.Math.Seq.{take-length}
use Rattle.std.specs.Prelude.{Result, Ok, Err, cond, unwrap_or, bytes_eq, nat_lt, ◌||◌}
use Rattle.std.specs.FinMap.{get, insert, get-insert}
use Rattle.std.specs.Cmp.Lexicographic.{nat_list_cmp_total, texts_ties}
use Rattle.std.proofs.lemmas.Bool.{both_ways}
use Rattle.std.proofs.lemmas.Slice.Eq.{bytes_eq-Decides}
use Rattle.lp_text.specs.declared.shelf.ShelfFault.{ShelfFault}
use Rattle.lp_text.specs.Shelf.{Files, Faults, LAST, count_up, Rises, content, with_file, with_said, SayHolds}
use Rattle.lp_model.specs.NetlistView.{ModuleView}
use Rattle.lp_model.specs.LibraryView.{CellView}
use Rattle.lp_plain_upf.specs.declared.plain.Intent.{Intent}
use Rattle.lp_plain_upf.specs.Names.{Name}
use Rattle.lp_spec_insertion.specs.Inputs.{Inputs, Accepts}
use Rattle.lp_spec_insertion.specs.Faults.{FirstFault}
use Rattle.lp_spec_insertion.specs.Promise.{HeadlineHolds}
use Rattle.lp_top.specs.declared.outcome.Outcome.{Outcome}
use Rattle.lp_top.specs.declared.outcome.Outcome.TheVariants.{Done, Refused, TooLong, Usage, ReadFault, WriteFault, NoMemory}
use Rattle.lp_top.specs.Reading.{count_more}
use Rattle.lp_top.specs.Words.{CommandFiles, IsCommand, clashes, command_of, input_files, inputs_in}
use Rattle.lp_top.proofs.WordsLaws.{command-again}
use Rattle.lp_top.specs.Ran.{BySaid, SaysLine, ByFiles, HoldsPart, LeftOff, ByCause, ByCounts, ByMissed, OnlySay, IsKept, SaysCounts, SaysCalls, IsSteady, IsDone, Completes, Refuses, IsRefusal, NoFileFault, Texts, ByWords, Stores, HoldsTold, HoldsHeadline}
use Rattle.lp_top.specs.Inserting.{IsNoUsage}
use Rattle.lp_top.specs.Outcomes.{line_of}

-- the counts of the whole run
counts-same : (old between new : Faults) (o : Outcome) → ByCause old between o → SaysCounts o between new → ByCounts old new o
counts-same old between new Done a b = b ∙ a
counts-same old between new (Refused f) a b = subst (λ x. OnlySay x new) a b
counts-same old between new (TooLong k) a b = record {
  read = b.read ∙ a.0;
  write = b.write ∙ a.1;
  long = subst (Rises old.long) (sym b.long) a.3;
  say = subst (λ n. n ≤ new.say) a.2 b.say;
}
counts-same old between new (Usage u) a b = subst (λ x. OnlySay x new) a b
counts-same old between new (ReadFault k) a b = record {
  read = subst (Rises old.read) (sym b.read) a.0;
  write = b.write ∙ a.1;
  long = b.long ∙ a.3;
  say = subst (λ n. n ≤ new.say) a.2 b.say;
}
counts-same old between new (WriteFault k) a b = record {
  read = b.read ∙ a.0;
  write = subst (Rises old.write) (sym b.write) a.1;
  long = b.long ∙ a.3;
  say = subst (λ n. n ≤ new.say) a.2 b.say;
}
counts-same old between new NoMemory a b = tt

pub counts-join : (old between new : Faults) (o r : Outcome) → ByCause old between o → SaysCounts o between new → IsKept o r → ByCounts old new r
counts-join old between new o Done a b k = counts-same old between new Done (subst (ByCause old between) (sym k) a) (subst (λ x. SaysCounts x between new) (sym k) b)
counts-join old between new o (Refused f) a b k = counts-same old between new (Refused f) (subst (ByCause old between) (sym k) a) (subst (λ x. SaysCounts x between new) (sym k) b)
counts-join old between new o (TooLong n) a b k = counts-same old between new (TooLong n) (subst (ByCause old between) (sym k) a) (subst (λ x. SaysCounts x between new) (sym k) b)
counts-join old between new o (Usage u) a b k = counts-same old between new (Usage u) (subst (ByCause old between) (sym k) a) (subst (λ x. SaysCounts x between new) (sym k) b)
counts-join old between new o (ReadFault n) a b k = counts-same old between new (ReadFault n) (subst (ByCause old between) (sym k) a) (subst (λ x. SaysCounts x between new) (sym k) b)
counts-join old between new o (WriteFault n) a b k = counts-same old between new (WriteFault n) (subst (ByCause old between) (sym k) a) (subst (λ x. SaysCounts x between new) (sym k) b)
counts-join old between new o NoMemory a b k = tt

-- what was said: the steps before it failed to say nothing
same-say : (old between : Faults) (o : Outcome) → ByCause old between o → (o ≡ NoMemory → ⊥) → between.say ≡ old.say
same-say old between Done a n = ap (λ x. x.say) a
same-say old between (Refused f) a n = ap (λ x. x.say) a
same-say old between (TooLong k) a n = a.2
same-say old between (Usage u) a n = ap (λ x. x.say) a
same-say old between (ReadFault k) a n = a.2
same-say old between (WriteFault k) a n = a.2
same-say old between NoMemory a n = absurd (n refl)

says-line : (line : List ℕ) (before after : Option (List ℕ)) (old between new : Faults) → between.say ≡ old.say → SaysLine line before after between new → SaysLine line before after old new
says-line line before after old between new e (inl h) = inl h
says-line line before after old between new e (inr h) = inr (h.0, (h.1.0, subst (λ n. Rises n new.say) e h.1.1))

pub said-join : (old between new : Faults) (before after : Option (List ℕ)) (o r : Outcome) → ByCause old between o → IsKept o r → BySaid before after between new r → BySaid before after old new r
said-join old between new before after o Done a k h = h
said-join old between new before after o (Refused f) a k h = says-line (line_of (Refused f)) before after old between new (same-say old between (Refused f) (subst (ByCause old between) (sym k) a) (λ e. let no : ⊥ = cc in no)) h
said-join old between new before after o (TooLong n) a k h = says-line (line_of (TooLong n)) before after old between new (same-say old between (TooLong n) (subst (ByCause old between) (sym k) a) (λ e. let no : ⊥ = cc in no)) h
said-join old between new before after o (Usage u) a k h = says-line (line_of (Usage u)) before after old between new (same-say old between (Usage u) (subst (ByCause old between) (sym k) a) (λ e. let no : ⊥ = cc in no)) h
said-join old between new before after o (ReadFault n) a k h = says-line (line_of (ReadFault n)) before after old between new (same-say old between (ReadFault n) (subst (ByCause old between) (sym k) a) (λ e. let no : ⊥ = cc in no)) h
said-join old between new before after o (WriteFault n) a k h = says-line (line_of (WriteFault n)) before after old between new (same-say old between (WriteFault n) (subst (ByCause old between) (sym k) a) (λ e. let no : ⊥ = cc in no)) h
said-join old between new before after o NoMemory a k h = h

-- what holds of an outcome, and of want of memory, holds after its line was said
pub kept : (P : Outcome → Type 0) (o r : Outcome) → IsKept o r → P o → P NoMemory → P r
kept P o Done k a n = subst P (sym k) a
kept P o (Refused f) k a n = subst P (sym k) a
kept P o (TooLong m) k a n = subst P (sym k) a
kept P o (Usage u) k a n = subst P (sym k) a
kept P o (ReadFault m) k a n = subst P (sym k) a
kept P o (WriteFault m) k a n = subst P (sym k) a
kept P o NoMemory k a n = n

-- what a text that is whole leaves is a part of it
holds-whole : (old new : Option Files) (name text : Name) → new ≡ with_file old name text → HoldsPart old new name text
holds-whole old new name text e = inr (length text, e ∙ ap (with_file old name) (sym (take-length text)))

-- what the files are where memory is wanted for the line
left-off : (c : CommandFiles) (old new : Option Files) (o : Outcome) → ByFiles c old new o → LeftOff c old new
left-off c old new Done a = inr (inr (record { texts = a.texts; part = holds-whole (with_file old c.out a.texts.netlist) new c.report a.texts.report a.stored }))
left-off c old new (Refused f) a = inl a.kept
left-off c old new (TooLong n) a = inl a.0
left-off c old new (Usage u) a = inl a
left-off c old new (ReadFault n) a = inl a
left-off c old new (WriteFault n) a = elim a [ inl h ↦ inr (inl h.1) | inr h ↦ inr (inr h.1) ]
left-off c old new NoMemory a = a

-- what the files are after the line was said
pub files-join : (c : CommandFiles) (old new : Option Files) (o r : Outcome) → ByFiles c old new o → IsKept o r → ByFiles c old new r
files-join c old new o r a k = kept (ByFiles c old new) o r k a (left-off c old new o a)

-- one call more, which says the line
count-said : (n : ℕ) (old between new : Option ℕ) → between ≡ option_map (count_more (0 + n)) old → new ≡ option_map count_up between → new ≡ option_map (count_more (1 + n)) old
count-said n None between new a b = b ∙ ap (option_map count_up) a
count-said n (Some x) between new a b =
    b ∙ (ap (option_map count_up) a ∙ (λ i. Some (let e : suc (0 + n) ≡ 1 + n = omega arith in count_more (e i) x)))

missed-same : (c : CommandFiles) (missed between now : Option (Option Name)) (calls some later : Option ℕ) (o : Outcome)
    → ByMissed 0 c missed between calls some o → now ≡ between → SaysCalls o some later → ByMissed 1 c missed now calls later o
missed-same c missed between now calls some later Done a m s = tt
missed-same c missed between now calls some later (Refused f) a m s = tt
missed-same c missed between now calls some later (TooLong k) a m s = tt
missed-same c missed between now calls some later (Usage u) a m s = tt
missed-same c missed between now calls some later (ReadFault k) a m s =
    (a.0, (a.1.0, (a.1.1.0, (m ∙ a.1.1.1.0, count-said (a.0 + 1) calls some later a.1.1.1.1 s))))
missed-same c missed between now calls some later (WriteFault k) a m s =
    elim a [
      | inl h ↦ inl (h.0, (m ∙ h.1.0, count-said (length (input_files c) + 1) calls some later h.1.1 s))
      | inr h ↦ inr (h.0, (m ∙ h.1.0, count-said (length (input_files c) + 2) calls some later h.1.1 s))
    ]
missed-same c missed between now calls some later NoMemory a m s = tt

-- which file was missed, after how many calls
pub missed-join : (c : CommandFiles) (missed between now : Option (Option Name)) (calls some later : Option ℕ) (o r : Outcome)
    → ByMissed 0 c missed between calls some o → now ≡ between → SaysCalls r some later → IsKept o r → ByMissed 1 c missed now calls later r
missed-join c missed between now calls some later o Done a m s k = tt
missed-join c missed between now calls some later o (Refused f) a m s k = tt
missed-join c missed between now calls some later o (TooLong n) a m s k = tt
missed-join c missed between now calls some later o (Usage u) a m s k = tt
missed-join c missed between now calls some later o (ReadFault n) a m s k = missed-same c missed between now calls some later (ReadFault n) (subst (ByMissed 0 c missed between calls some) (sym k) a) m s
missed-join c missed between now calls some later o (WriteFault n) a m s k = missed-same c missed between now calls some later (WriteFault n) (subst (ByMissed 0 c missed between calls some) (sym k) a) m s
missed-join c missed between now calls some later o NoMemory a m s k = tt

-- a count that did not rise, and is not at its end, names no cause
no_rise : (n : ℕ) → n < LAST → Rises n n → ⊥
no_rise n h r = let up : count_up n ≤ n = r.0 in omega arith

-- without a fault a run is done or wants memory
completes-told : (c : CommandFiles) (files : Files) (new : Option Files) (before after : Faults) (r : Outcome)
    → ByFiles c (Some files) new r → ByCounts before after r → IsSteady before after → ((line : List ℕ) → FirstFault (inputs_in files c) line → ⊥) → IsNoUsage r → IsDone r
completes-told c files new before after Done f k s none n = tt
completes-told c files new before after (Refused line) f k s none n = none line f.first
completes-told c files new before after (TooLong m) f k s none n = no_rise before.long s.long (subst (λ x. Rises before.long x.long) s.same k.long)
completes-told c files new before after (Usage x) f k s none n = n
completes-told c files new before after (ReadFault m) f k s none n = no_rise before.read s.read (subst (λ x. Rises before.read x.read) s.same k.read)
completes-told c files new before after (WriteFault m) f k s none n = no_rise before.write s.write (subst (λ x. Rises before.write x.write) s.same k.write)
completes-told c files new before after NoMemory f k s none n = tt

pub completes : (c : CommandFiles) (old new : Option Files) (before after : Faults) (r : Outcome)
    → ByFiles c old new r → ByCounts before after r → IsNoUsage r → Completes c old before after r
completes c None new before after r f k n = tt
completes c (Some files) new before after r f k n = λ s none. completes-told c files new before after r f k s none n

-- what a say leaves is a part of its bytes
pub says-part : {T : Type 0} (r : Result T ShelfFault) (bytes : List ℕ) (old new : Option (List ℕ)) → SayHolds r bytes old new → (n : ℕ) × (new ≡ with_said old (take n bytes))
says-part (Ok v) bytes old new h = (length bytes, h ∙ ap (with_said old) (sym (take-length bytes)))
says-part (Err e) bytes old new h = h

-- the words of an outcome that they do not decide
pub words-good : (words : List Name) (c : CommandFiles) → IsCommand words c → clashes c ≡ false → (o : Outcome) → IsNoUsage o → ByWords words o
words-good words c is apart Done n = (c, (is, apart))
words-good words c is apart (Refused f) n = (c, (is, apart))
words-good words c is apart (TooLong k) n = (c, (is, apart))
words-good words c is apart (Usage u) n = absurd n
words-good words c is apart (ReadFault k) n = (c, (is, apart))
words-good words c is apart (WriteFault k) n = (c, (is, apart))
words-good words c is apart NoMemory n = tt

-- two commands of the same words are the same
pub same_command : (words : List Name) (a b : CommandFiles) → command_of words ≡ Some a → IsCommand words b → a ≡ b
same_command words a b e is = let both : Some a ≡ Some b = sym e ∙ command-again words b is in cc

pub no_command : (words : List Name) (b : CommandFiles) → command_of words ≡ None → IsCommand words b → ⊥
no_command words b e is = let both : None ≡ Some b = sym e ∙ command-again words b is in cc

-- the netlist is held under its name, since the report has another
or_parts : (a b : Bool) → (a || b) ≡ false → (a ≡ false) × (b ≡ false)
or_parts true b e = absurd (both_ways true e refl)
or_parts false b e = (refl, e)

apart_names : (c : CommandFiles) → clashes c ≡ false → bytes_eq c.out c.report ≡ false
apart_names c h = (or_parts (bytes_eq c.out c.report) _ (or_parts (nat_lt 16 (length c.libraries)) _ h).1).0

stored-content : (files : Files) (out report netlist text : Name) → bytes_eq out report ≡ false → content (insert (insert files out netlist) report text) out ≡ netlist
stored-content files out report netlist text h =
    ap (λ o. unwrap_or o [])
    (get-insert nat_list_cmp_total (insert files out netlist) report text out
    ∙ (ap (λ b. cond b (Some text) (get (insert files out netlist) out)) (sym (texts_ties out report) ∙ h)
    ∙ (get-insert nat_list_cmp_total files out netlist out
    ∙ ap (λ b. cond b (Some netlist) (get files out)) (sym (texts_ties out out) ∙ (bytes_eq-Decides out out).1 refl))))

headline-stored : (c : CommandFiles) (old new : Option Files) → clashes c ≡ false → Stores c old new → HoldsTold c old new
headline-stored c None new h s = tt
headline-stored c (Some files) new h s =
    subst (HoldsTold c (Some files)) (sym s.stored)
    (subst (HeadlineHolds (inputs_in files c) 0) (sym (stored-content files c.out c.report s.texts.netlist s.texts.report (apart_names c h))) s.texts.headline)

pub headline-files : (c : CommandFiles) (old new : Option Files) (o : Outcome) → clashes c ≡ false → ByFiles c old new o → HoldsHeadline c old new o
headline-files c old new Done h f = headline-stored c old new h f
headline-files c old new (Refused line) h f = tt
headline-files c old new (TooLong k) h f = tt
headline-files c old new (Usage u) h f = tt
headline-files c old new (ReadFault k) h f = tt
headline-files c old new (WriteFault k) h f = tt
headline-files c old new NoMemory h f = tt

pub completes-kept : (c : CommandFiles) (old new : Option Files) (before after : Faults) (o r : Outcome)
    → ByFiles c old new r → ByCounts before after r → IsNoUsage o → IsKept o r → Completes c old before after r
completes-kept c old new before after o r f k n same = completes c old new before after r f k (kept IsNoUsage o r same n tt)

-- inputs with a first fault are refused by it
module _ (one_fault : (inputs : Inputs) (a b : List ℕ) → FirstFault inputs a → FirstFault inputs b → a ≡ b)
    (no_fault : (inputs : Inputs) (cells : List CellView) (m : ModuleView) (i : Intent) (line : List ℕ) → Accepts inputs cells m i → FirstFault inputs line → ⊥) where
  written_fault : (c : CommandFiles) (files : Files) (texts : Texts (Some files) c) (line : List ℕ) → FirstFault (inputs_in files c) line → ⊥
  written_fault c files texts line x = let d = texts.written.design in no_fault (inputs_in files c) d.cells d.source d.intent line d.accepts x

  refuses-told : (c : CommandFiles) (files : Files) (new : Option Files) (before after : Faults) (r : Outcome)
      → ByFiles c (Some files) new r → ByCounts before after r → IsNoUsage r → NoFileFault before after → (line : List ℕ) → FirstFault (inputs_in files c) line → IsRefusal line r
  refuses-told c files new before after Done f k n s line x = written_fault c files f.texts line x
  refuses-told c files new before after (Refused l) f k n s line x = one_fault (inputs_in files c) l line f.first x
  refuses-told c files new before after (TooLong m) f k n s line x = no_rise before.long s.long_low (subst (Rises before.long) s.long k.long)
  refuses-told c files new before after (Usage u) f k n s line x = n
  refuses-told c files new before after (ReadFault m) f k n s line x = no_rise before.read s.read_low (subst (Rises before.read) s.read k.read)
  refuses-told c files new before after (WriteFault m) f k n s line x = no_rise before.write s.write_low (subst (Rises before.write) s.write k.write)
  refuses-told c files new before after NoMemory f k n s line x = tt

  pub refuses : (c : CommandFiles) (old new : Option Files) (before after : Faults) (o r : Outcome)
      → ByFiles c old new r → ByCounts before after r → IsNoUsage o → IsKept o r → Refuses c old before after r
  refuses c None new before after o r f k n same = tt
  refuses c (Some files) new before after o r f k n same = λ s line x. refuses-told c files new before after r f k (kept IsNoUsage o r same n tt) s line x
