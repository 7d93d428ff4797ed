-- The steps of an insertion, joined.
use Rattle.std.proofs.Common.{◌≡◌, ℕ, suc, ◌+◌, ◌≤◌, Bool, true, false, ◌||◌, List, length, map, Option, Some, None, Bor, inl, inr, refl, sym, ◌∙◌, ap, subst, arith, add-one, zero-add}
use Rattle.std.specs.Option.{option_map, IfSome}
use Rattle.std.specs.Prelude.{nat_lt}
use Rattle.std.proofs.lemmas.Bool.{both_ways, ltb-false}
use Rattle.std.proofs.lemmas.List.{length-map}
use Rattle.lp_text.specs.Shelf.{Files, Faults}
use Rattle.lp_plain_upf.specs.Names.{Name}
use Rattle.lp_spec_insertion.specs.Faults.{FirstFault}
use Rattle.lp_spec_insertion.specs.Promise.{IsWritten, HeadlineHolds}
use Rattle.lp_top.specs.declared.outcome.Outcome.{Outcome}
use Rattle.lp_top.specs.declared.outcome.Outcome.TheVariants.{Done, Refused, TooLong, Usage, ReadFault, WriteFault, NoMemory}
use Rattle.lp_top.specs.Reading.{count_more, HoldsAll}
use Rattle.lp_top.specs.Words.{CommandFiles, clashes, input_files, inputs_in}
use Rattle.lp_top.specs.Ran.{Texts, InputsRead, ByFiles, ByCause, ByMissed}
use Rattle.lp_top.specs.Inserting.{inputs_read, StoresBoth, MissesWrite, IsNoUsage}

or_left : (a b : Bool) → (a || b) ≡ false → a ≡ false
or_left true b e = absurd (both_ways true e refl)
or_left false b e = refl

-- files that do not clash are at most 18
pub few-inputs : (c : CommandFiles) → clashes c ≡ false → length (input_files c) ≤ 18
few-inputs c h =
    let small : length c.libraries ≤ 16 = ltb-false 16 (length c.libraries) (or_left (nat_lt 16 (length c.libraries)) _ h) in
    omega arith

pub length-names : (names : List (Bor (List ℕ))) (c : CommandFiles) → map (λ n. n.now) names ≡ input_files c → length names ≡ length (input_files c)
length-names names c e = sym (length-map names (λ n. n.now)) ∙ ap length e

-- what is promised of the texts that were read is promised of what is held
pub written-held : (held : Option Files) (c : CommandFiles) (texts : List (List ℕ)) (netlist report : List ℕ) → HoldsAll held (input_files c) texts
    → IsWritten (inputs_read texts) 0 netlist report → IfSome held (λ files. IsWritten (inputs_in files c) 0 netlist report)
written-held None c texts netlist report h w = tt
written-held (Some files) c texts netlist report h w = subst (λ t. IsWritten (inputs_read t) 0 netlist report) h.0 w

-- where what was read is what is held, every input file is within the limit
pub read-held : (held : Option Files) (c : CommandFiles) (texts : List (List ℕ)) → HoldsAll held (input_files c) texts → InputsRead c held
read-held None c texts h = tt
read-held (Some files) c texts h = h.1

pub headline-held : (held : Option Files) (c : CommandFiles) (texts : List (List ℕ)) (netlist : List ℕ) → HoldsAll held (input_files c) texts
    → HeadlineHolds (inputs_read texts) 0 netlist → IfSome held (λ files. HeadlineHolds (inputs_in files c) 0 netlist)
headline-held None c texts netlist h w = tt
headline-held (Some files) c texts netlist h w = subst (λ t. HeadlineHolds (inputs_read t) 0 netlist) h.0 w

pub fault-held : (held : Option Files) (c : CommandFiles) (texts : List (List ℕ)) (line : List ℕ) → HoldsAll held (input_files c) texts
    → FirstFault (inputs_read texts) line → IfSome held (λ files. FirstFault (inputs_in files c) line)
fault-held None c texts line h w = tt
fault-held (Some files) c texts line h w = subst (λ t. FirstFault (inputs_read t) line) h.0 w

-- storing the texts ends as a run ends
pub stores-files : (c : CommandFiles) (old new : Option Files) (netlist report : List ℕ) (outcome : Outcome)
    → InputsRead c old → IfSome old (λ files. IsWritten (inputs_in files c) 0 netlist report) → IfSome old (λ files. HeadlineHolds (inputs_in files c) 0 netlist)
    → StoresBoth c netlist report old new outcome → ByFiles c old new outcome
stores-files c old new netlist report Done r w h s = record { texts = record { read = r; netlist = netlist; report = report; written = w; headline = h }; stored = s }
stores-files c old new netlist report (Refused f) r w h s = absurd s
stores-files c old new netlist report (TooLong k) r w h s = absurd s
stores-files c old new netlist report (Usage u) r w h s = absurd s
stores-files c old new netlist report (ReadFault k) r w h s = absurd s
stores-files c old new netlist report (WriteFault k) r w h s =
    let texts : Texts old c = record { read = r; netlist = netlist; report = report; written = w; headline = h } in
    elim s [
      | inl part ↦ inl (part.0, record { texts = texts; part = part.1 })
      | inr part ↦ inr (part.0, record { texts = texts; part = part.1 })
    ]
stores-files c old new netlist report NoMemory r w h s =
    let texts : Texts old c = record { read = r; netlist = netlist; report = report; written = w; headline = h } in
    elim s [
      | inl part ↦ inr (inl (record { texts = texts; part = part }))
      | inr part ↦ inr (inr (record { texts = texts; part = part }))
    ]

pub stores-no_usage : (c : CommandFiles) (old new : Option Files) (netlist report : List ℕ) (outcome : Outcome) → StoresBoth c netlist report old new outcome → IsNoUsage outcome
stores-no_usage c old new netlist report Done s = tt
stores-no_usage c old new netlist report (Refused f) s = tt
stores-no_usage c old new netlist report (TooLong k) s = tt
stores-no_usage c old new netlist report (Usage u) s = s
stores-no_usage c old new netlist report (ReadFault k) s = tt
stores-no_usage c old new netlist report (WriteFault k) s = tt
stores-no_usage c old new netlist report NoMemory s = tt

count-one : (n : ℕ) (old : Option ℕ) → option_map (count_more 1) (option_map (count_more n) old) ≡ option_map (count_more (0 + (n + 1))) old
count-one n None = refl
count-one n (Some x) = ap (λ k. Some (count_more k x)) (sym (zero-add (n + 1) ∙ add-one n))

count-two : (n : ℕ) (old : Option ℕ) → option_map (count_more 2) (option_map (count_more n) old) ≡ option_map (count_more (0 + (n + 2))) old
count-two n None = refl
count-two n (Some x) = ap (λ k. Some (count_more k x)) (let e : suc (suc n) ≡ 0 + (n + 2) = omega arith in e)

-- the calls and the name of a write that failed
pub stores-missed : (c : CommandFiles) (old new : Option Files) (netlist report : List ℕ) (outcome : Outcome) (missed between now : Option (Option Name)) (calls some later : Option ℕ)
    → between ≡ missed → some ≡ option_map (count_more (length (input_files c))) calls
    → StoresBoth c netlist report old new outcome → MissesWrite c between now some later outcome → ByMissed 0 c missed now calls later outcome
stores-missed c old new netlist report Done missed between now calls some later m k s w = tt
stores-missed c old new netlist report (Refused f) missed between now calls some later m k s w = tt
stores-missed c old new netlist report (TooLong n) missed between now calls some later m k s w = tt
stores-missed c old new netlist report (Usage u) missed between now calls some later m k s w = tt
stores-missed c old new netlist report (ReadFault n) missed between now calls some later m k s w = absurd s
stores-missed c old new netlist report (WriteFault n) missed between now calls some later m k s w =
    elim w [
      | inl h ↦ inl (h.0, (h.1.0 ∙ ap (option_map (λ _. Some c.out)) m, h.1.1 ∙ (ap (option_map (count_more 1)) k ∙ count-one (length (input_files c)) calls)))
      | inr h ↦ inr (h.0, (h.1.0 ∙ ap (option_map (λ _. Some c.report)) m, h.1.1 ∙ (ap (option_map (count_more 2)) k ∙ count-two (length (input_files c)) calls)))
    ]
stores-missed c old new netlist report NoMemory missed between now calls some later m k s w = tt

-- the counts before a write are those of the start
pub stores-counts : (old between new : Faults) (outcome : Outcome) → between ≡ old → ByCause between new outcome → ByCause old new outcome
stores-counts old between new outcome e h = subst (λ f. ByCause f new outcome) e h
