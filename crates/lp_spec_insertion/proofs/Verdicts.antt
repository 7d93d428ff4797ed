-- Inputs have one first fault, or none.
use Rattle.std.proofs.Common.{◌≡◌, ℕ, suc, ◌≤◌, true, false, List, [], ◌∷◌, length, Option, Some, None, ◌⊎◌, inl, inr, refl, sym, ◌∙◌, ap, subst}
use Rattle.std.proofs.lemmas.Bool.{both_ways}
use Rattle.lp_text.specs.Texts.{distinct}
use Rattle.lp_model.specs.FaultLines.{fault_line}
use Rattle.lp_model.specs.GroupsView.{GroupView}
use Rattle.lp_model.specs.NetlistView.{ModuleView}
use Rattle.lp_model.specs.LibraryView.{CellView}
use Rattle.lp_model.specs.declared.fault.refusal.Fault.{Fault}
use Rattle.lp_model.specs.declared.fault.refusal.Refusal.{Refusal}
use Rattle.lp_model.specs.declared.fault.refusal.Refusal.TheVariants as refusals
use Rattle.lp_targets.specs.Reports.{Report}
use Rattle.lp_liberty.specs.Denotes.{Denotes, RefusedAs}
use Rattle.lp_cells.specs.Cells.{IsLibrary, cells_of, cell_names}
use Rattle.lp_cells.specs.Reasons.{repeated}
use Rattle.lp_verilog.specs.Reads.{Reads}
use Rattle.lp_verilog.specs.Refusing.{Refuses}
use Rattle.lp_plain_upf.specs.declared.plain.Intent.{Intent}
use Rattle.lp_plain_upf.specs.Upf.{IsIntent}
use Rattle.lp_spec_plain_netlist.specs.Single.{is_single, is_single_module}
use Rattle.lp_spec_plain_netlist.specs.Fits.{is_fit, are_plain}
use Rattle.lp_spec_plain_netlist.specs.Flats.{flat_of, HasLoop}
use Rattle.lp_node_text.specs.Reports.{report_line}
use Rattle.lp_spec_insertion.specs.Inputs.{Inputs, HaveGroups, HasCells, HasModules, structure_in, netlist_report, ReadsBoth, FitsCells, ReadsAll, Accepts}
use Rattle.lp_spec_insertion.specs.Faults.{IsOff, FirstOff, HasTwice, IsRefused, FirstFault, library_off, cell_twice, netlist_off, netlist_faulty, not_single, no_fit, no_intent, not_plain, loop, not_yet, duplicate_cell}

abbrev Line : Type 0
Line = Option (List ℕ)

same_some : {A : Type 0} (o : Option A) (a b : A) → o ≡ Some a → o ≡ Some b → a ≡ b
same_some o a b e f = let both : Some a ≡ Some b = sym e ∙ f in cc

some_or_none : {A : Type 0} (o : Option A) (a : A) → o ≡ Some a → o ≡ None → ⊥
some_or_none o a e f = let both : Some a ≡ None = sym e ∙ f in let none : ⊥ = cc in none

-- what is known of the readers
pub record Readers : Type 0 where
  pub answer : (file : ℕ) (text : List ℕ) (groups : List GroupView) (r : Refusal) → Denotes text groups → RefusedAs file text r → r ≡ refusals.NoMemory
  pub refusal : (file : ℕ) (text : List ℕ) (r s : Refusal) → RefusedAs file text r → RefusedAs file text s → (r ≡ refusals.NoMemory) ⊎ ((s ≡ refusals.NoMemory) ⊎ (r ≡ s))
  pub groups : (text : List ℕ) (a b : List GroupView) → Denotes text a → Denotes text b → a ≡ b
  pub library : (files : List (List GroupView)) (a b : List CellView) → IsLibrary files a → IsLibrary files b → a ≡ b
  pub line : (a b : List (List ℕ)) (text : List ℕ) (f g : Fault) → distinct a ≡ true → length a ≤ 4294967295 → distinct b ≡ true → length b ≤ 4294967295 → Refuses a text (refusals.Fault f) → Refuses b text (refusals.Fault g) → fault_line a f ≡ fault_line b g
  pub netlist : (text : List ℕ) (a b : List ModuleView) → Reads text a → Reads text b → a ≡ b
  pub refused : (names : List (List ℕ)) (text : List ℕ) (f : Fault) (v : List ModuleView) → distinct names ≡ true → length names ≤ 4294967295 → length text ≤ 67108864 → Refuses names text (refusals.Fault f) → Reads text v → ⊥
  pub intent : (text : List ℕ) (a b : Intent) → IsIntent text a → IsIntent text b → a ≡ b

module _ (known : Readers) where
  -- ---- the libraries

  same_off : (file : ℕ) (text a b : List ℕ) → IsOff file text a → IsOff file text b → a ≡ b
  same_off file text a b x y = by (known.refusal file text (refusals.Fault x.0) (refusals.Fault y.0) x.1.0 y.1.0)
    where
      by : (refusals.Fault x.0 ≡ refusals.NoMemory) ⊎ ((refusals.Fault y.0 ≡ refusals.NoMemory) ⊎ (refusals.Fault x.0 ≡ refusals.Fault y.0)) → a ≡ b
      by (inl e) = let none : ⊥ = cc in absurd none
      by (inr (inl e)) = let none : ⊥ = cc in absurd none
      by (inr (inr e)) = let same : x.0 ≡ y.0 = cc in x.1.1 ∙ ap (fault_line []) same ∙ sym y.1.1

  off_or_read : (file : ℕ) (text line : List ℕ) (groups : List GroupView) → IsOff file text line → Denotes text groups → ⊥
  off_or_read file text line groups x d = let e = known.answer file text groups (refusals.Fault x.0) d x.1.0 in let none : ⊥ = cc in none

  same_first : (file : ℕ) (texts : List (List ℕ)) (a b : List ℕ) → FirstOff file texts a → FirstOff file texts b → a ≡ b
  same_first file [] a b x y = absurd x
  same_first file (text ∷ texts) a b (inl x) (inl y) = same_off file text a b x y
  same_first file (text ∷ texts) a b (inl x) (inr y) = absurd (off_or_read file text a y.0 x y.1.0)
  same_first file (text ∷ texts) a b (inr x) (inl y) = absurd (off_or_read file text b x.0 y x.1.0)
  same_first file (text ∷ texts) a b (inr x) (inr y) = same_first (suc file) texts a b x.1.1 y.1.1

  first_or_read : (file : ℕ) (texts : List (List ℕ)) (line : List ℕ) (groups : List (List GroupView)) → FirstOff file texts line → HaveGroups texts groups → ⊥
  first_or_read file [] line groups x h = x
  first_or_read file (text ∷ texts) line [] x h = h
  first_or_read file (text ∷ texts) line (g ∷ gs) (inl x) h = off_or_read file text line g x h.0
  first_or_read file (text ∷ texts) line (g ∷ gs) (inr x) h = first_or_read (suc file) texts line gs x.1.1 h.1

  same_groups : (texts : List (List ℕ)) (a b : List (List GroupView)) → HaveGroups texts a → HaveGroups texts b → a ≡ b
  same_groups [] [] [] h k = refl
  same_groups [] [] (b ∷ bs) h k = absurd k
  same_groups [] (a ∷ others) b h k = absurd h
  same_groups (text ∷ texts) [] b h k = absurd h
  same_groups (text ∷ texts) (a ∷ others) [] h k = absurd k
  same_groups (text ∷ texts) (a ∷ others) (b ∷ bs) h k =
      let first = known.groups text a b h.0 k.0 in
      let more = same_groups texts others bs h.1 k.1 in
      λ j. first j ∷ more j

  same_twice : (texts : List (List ℕ)) (a b : List ℕ) → HasTwice texts a → HasTwice texts b → a ≡ b
  same_twice texts a b x y =
      let groups = same_groups texts x.groups y.groups x.read y.read in
      let both : Some x.cell ≡ Some y.cell = sym x.twice ∙ ap (λ g. repeated [] (cell_names (cells_of g))) groups ∙ y.twice in
      let same : x.cell ≡ y.cell = cc in
      x.spelled ∙ ap duplicate_cell same ∙ sym y.spelled

  twice_or_cells : (texts : List (List ℕ)) (line : List ℕ) (cells : List CellView) → HasTwice texts line → HasCells texts cells → ⊥
  twice_or_cells texts line cells x h =
      let groups = same_groups texts x.groups h.groups x.read h.read in
      let once : repeated [] (cell_names (cells_of h.groups)) ≡ None = ap (λ c. repeated [] (cell_names c)) (sym h.denoted.denoted) ∙ h.denoted.apart in
      let both : Some x.cell ≡ None = sym x.twice ∙ ap (λ g. repeated [] (cell_names (cells_of g))) groups ∙ once in
      let none : ⊥ = cc in none

  same_cells : (texts : List (List ℕ)) (a b : List CellView) → HasCells texts a → HasCells texts b → a ≡ b
  same_cells texts a b x y = known.library y.groups a b (subst (λ g. IsLibrary g a) (same_groups texts x.groups y.groups x.read y.read) x.denoted) y.denoted

  -- ---- the netlist

  same_refused : (text a b : List ℕ) → IsRefused text a → IsRefused text b → a ≡ b
  same_refused text a b x y = x.spelled ∙ known.line x.names y.names text x.fault y.fault x.apart x.few y.apart y.few x.refused y.refused ∙ sym y.spelled

  refused_or_read : (text line : List ℕ) (modules : List ModuleView) → IsRefused text line → HasModules text modules → ⊥
  refused_or_read text line modules x h = known.refused x.names text x.fault modules x.apart x.few h.short x.refused h.reads

  -- ---- the line of the first fault, or none, as the stages find it

  module _ (inputs : Inputs) where
    abbrev Looping : List CellView → ModuleView → Intent → Line → Type 0
    Looping cells m i v =
        ((v ≡ Some (not_yet 7)) × ((margin : ℕ) × HasLoop (flat_of cells m i.power i.gnd margin)))
        ⊎ ((v ≡ None) × ((margin : ℕ) → HasLoop (flat_of cells m i.power i.gnd margin) → ⊥))

    abbrev Plain : List CellView → ModuleView → Intent → Line → Type 0
    Plain cells m i v = ((v ≡ Some (not_yet 7)) × (are_plain cells m ≡ false)) ⊎ ((are_plain cells m ≡ true) × Looping cells m i v)

    abbrev Powering : List CellView → ModuleView → Line → Type 0
    Powering cells m v = ((v ≡ Some (not_yet 5)) × ((i : Intent) → IsIntent inputs.intent i → ⊥)) ⊎ ((i : Intent) × (IsIntent inputs.intent i × Plain cells m i v))

    abbrev Fitting : List CellView → ModuleView → Line → Type 0
    Fitting cells m v = ((v ≡ Some (not_yet 4)) × (is_fit cells m ≡ false)) ⊎ ((is_fit cells m ≡ true) × Powering cells m v)

    abbrev Single : List CellView → List ModuleView → Line → Type 0
    Single cells modules v = ((v ≡ Some (not_yet 4)) × (is_single modules ≡ false)) ⊎ ((m : ModuleView) × ((modules ≡ m ∷ []) × ((is_single_module m ≡ true) × Fitting cells m v)))

    abbrev Checking : List CellView → List ModuleView → Line → Type 0
    Checking cells modules v =
        ((r : Report) × ((v ≡ Some (report_line r)) × (netlist_report (structure_in cells modules) ≡ Some r)))
        ⊎ ((netlist_report (structure_in cells modules) ≡ None) × Single cells modules v)

    abbrev Reading : List CellView → Line → Type 0
    Reading cells v = ((line : List ℕ) × ((v ≡ Some line) × IsRefused inputs.netlist line)) ⊎ ((modules : List ModuleView) × (HasModules inputs.netlist modules × Checking cells modules v))

    abbrev Making : Line → Type 0
    Making v = ((line : List ℕ) × ((v ≡ Some line) × HasTwice inputs.libraries line)) ⊎ ((cells : List CellView) × (HasCells inputs.libraries cells × Reading cells v))

    abbrev Verdict : Line → Type 0
    Verdict v = ((line : List ℕ) × ((v ≡ Some line) × FirstOff 10 inputs.libraries line)) ⊎ Making v

    same_looping : (cells : List CellView) (m : ModuleView) (i : Intent) (v w : Line) → Looping cells m i v → Looping cells m i w → v ≡ w
    same_looping cells m i v w (inl a) (inl b) = a.0 ∙ sym b.0
    same_looping cells m i v w (inl a) (inr b) = absurd (b.1 a.1.0 a.1.1)
    same_looping cells m i v w (inr a) (inl b) = absurd (a.1 b.1.0 b.1.1)
    same_looping cells m i v w (inr a) (inr b) = a.0 ∙ sym b.0

    same_plain : (cells : List CellView) (m : ModuleView) (i : Intent) (v w : Line) → Plain cells m i v → Plain cells m i w → v ≡ w
    same_plain cells m i v w (inl a) (inl b) = a.0 ∙ sym b.0
    same_plain cells m i v w (inl a) (inr b) = absurd (both_ways (are_plain cells m) a.1 b.0)
    same_plain cells m i v w (inr a) (inl b) = absurd (both_ways (are_plain cells m) b.1 a.0)
    same_plain cells m i v w (inr a) (inr b) = same_looping cells m i v w a.1 b.1

    same_powering : (cells : List CellView) (m : ModuleView) (v w : Line) → Powering cells m v → Powering cells m w → v ≡ w
    same_powering cells m v w (inl a) (inl b) = a.0 ∙ sym b.0
    same_powering cells m v w (inl a) (inr b) = absurd (a.1 b.0 b.1.0)
    same_powering cells m v w (inr a) (inl b) = absurd (b.1 a.0 a.1.0)
    same_powering cells m v w (inr a) (inr b) = same_plain cells m b.0 v w (subst (λ i. Plain cells m i v) (known.intent inputs.intent a.0 b.0 a.1.0 b.1.0) a.1.1) b.1.1

    same_fitting : (cells : List CellView) (m : ModuleView) (v w : Line) → Fitting cells m v → Fitting cells m w → v ≡ w
    same_fitting cells m v w (inl a) (inl b) = a.0 ∙ sym b.0
    same_fitting cells m v w (inl a) (inr b) = absurd (both_ways (is_fit cells m) a.1 b.0)
    same_fitting cells m v w (inr a) (inl b) = absurd (both_ways (is_fit cells m) b.1 a.0)
    same_fitting cells m v w (inr a) (inr b) = same_powering cells m v w a.1 b.1

    single-true : (modules : List ModuleView) (m : ModuleView) → modules ≡ m ∷ [] → is_single_module m ≡ true → is_single modules ≡ false → ⊥
    single-true modules m e h f = both_ways (is_single_module m) (ap is_single (sym e) ∙ f) h

    same_single : (cells : List CellView) (modules : List ModuleView) (v w : Line) → Single cells modules v → Single cells modules w → v ≡ w
    same_single cells modules v w (inl a) (inl b) = a.0 ∙ sym b.0
    same_single cells modules v w (inl a) (inr b) = absurd (single-true modules b.0 b.1.0 b.1.1.0 a.1)
    same_single cells modules v w (inr a) (inl b) = absurd (single-true modules a.0 a.1.0 a.1.1.0 b.1)
    same_single cells modules v w (inr a) (inr b) =
        let both : a.0 ∷ [] ≡ b.0 ∷ [] = sym a.1.0 ∙ b.1.0 in
        let same : a.0 ≡ b.0 = cc in
        same_fitting cells b.0 v w (subst (λ m. Fitting cells m v) same a.1.1.1) b.1.1.1

    same_checking : (cells : List CellView) (modules : List ModuleView) (v w : Line) → Checking cells modules v → Checking cells modules w → v ≡ w
    same_checking cells modules v w (inl a) (inl b) =
        let same = same_some (netlist_report (structure_in cells modules)) a.0 b.0 a.1.1 b.1.1 in
        a.1.0 ∙ (ap (λ r. Some (report_line r)) same ∙ sym b.1.0)
    same_checking cells modules v w (inl a) (inr b) = absurd (some_or_none (netlist_report (structure_in cells modules)) a.0 a.1.1 b.0)
    same_checking cells modules v w (inr a) (inl b) = absurd (some_or_none (netlist_report (structure_in cells modules)) b.0 b.1.1 a.0)
    same_checking cells modules v w (inr a) (inr b) = same_single cells modules v w a.1 b.1

    same_reading : (cells : List CellView) (v w : Line) → Reading cells v → Reading cells w → v ≡ w
    same_reading cells v w (inl a) (inl b) = a.1.0 ∙ ap (λ l. Some l) (same_refused inputs.netlist a.0 b.0 a.1.1 b.1.1) ∙ sym b.1.0
    same_reading cells v w (inl a) (inr b) = absurd (refused_or_read inputs.netlist a.0 b.0 a.1.1 b.1.0)
    same_reading cells v w (inr a) (inl b) = absurd (refused_or_read inputs.netlist b.0 a.0 b.1.1 a.1.0)
    same_reading cells v w (inr a) (inr b) =
        same_checking cells b.0 v w (subst (λ m. Checking cells m v) (known.netlist inputs.netlist a.0 b.0 a.1.0.reads b.1.0.reads) a.1.1) b.1.1

    same_making : (v w : Line) → Making v → Making w → v ≡ w
    same_making v w (inl a) (inl b) = a.1.0 ∙ ap (λ l. Some l) (same_twice inputs.libraries a.0 b.0 a.1.1 b.1.1) ∙ sym b.1.0
    same_making v w (inl a) (inr b) = absurd (twice_or_cells inputs.libraries a.0 b.0 a.1.1 b.1.0)
    same_making v w (inr a) (inl b) = absurd (twice_or_cells inputs.libraries b.0 a.0 b.1.1 a.1.0)
    same_making v w (inr a) (inr b) = same_reading b.0 v w (subst (λ cells. Reading cells v) (same_cells inputs.libraries a.0 b.0 a.1.0 b.1.0) a.1.1) b.1.1

    read-groups : (v : Line) → Making v → (groups : List (List GroupView)) × HaveGroups inputs.libraries groups
    read-groups v (inl a) = (a.1.1.groups, a.1.1.read)
    read-groups v (inr a) = (a.1.0.groups, a.1.0.read)

    off_or_made : (line : List ℕ) (v : Line) → FirstOff 10 inputs.libraries line → Making v → ⊥
    off_or_made line v x m = let g = read-groups v m in first_or_read 10 inputs.libraries line g.0 x g.1

    same_verdict : (v w : Line) → Verdict v → Verdict w → v ≡ w
    same_verdict v w (inl a) (inl b) = a.1.0 ∙ ap (λ l. Some l) (same_first 10 inputs.libraries a.0 b.0 a.1.1 b.1.1) ∙ sym b.1.0
    same_verdict v w (inl a) (inr b) = absurd (off_or_made a.0 w a.1.1 b)
    same_verdict v w (inr a) (inl b) = absurd (off_or_made b.0 v b.1.1 a)
    same_verdict v w (inr a) (inr b) = same_making v w a b

    both-read : (cells : List CellView) (m : ModuleView) (v : Line) → ReadsBoth inputs cells m → Fitting cells m v → Verdict v
    both-read cells m v r t = inr (inr (cells, (r.libraries, inr (m ∷ [], (r.netlist, inr (r.faultless, inr (m, (refl, (r.single, t)))))))))

    fit-read : (cells : List CellView) (m : ModuleView) (v : Line) → FitsCells inputs cells m → Powering cells m v → Verdict v
    fit-read cells m v f p = both-read cells m v f.both (inr (f.fits, p))

    all-read : (cells : List CellView) (m : ModuleView) (i : Intent) (v : Line) → ReadsAll inputs cells m i → Plain cells m i v → Verdict v
    all-read cells m i v r p = fit-read cells m v r.fit (inr (i, (r.intent, p)))

    fault-verdict : (line : List ℕ) → FirstFault inputs line → Verdict (Some line)
    fault-verdict line (library_off x) = inl (line, (refl, x))
    fault-verdict line (cell_twice x) = inr (inl (line, (refl, x)))
    fault-verdict line (netlist_off cells c x) = inr (inr (cells, (c, inl (line, (refl, x)))))
    fault-verdict line (netlist_faulty cells modules r c h n e) = inr (inr (cells, (c, inr (modules, (h, inl (r, (ap Some e, n)))))))
    fault-verdict line (not_single cells modules c h n f e) = inr (inr (cells, (c, inr (modules, (h, inr (n, inl (ap Some e, f)))))))
    fault-verdict line (no_fit cells m r f e) = both-read cells m (Some line) r (inl (ap Some e, f))
    fault-verdict line (no_intent cells m f h e) = fit-read cells m (Some line) f (inl (ap Some e, h))
    fault-verdict line (not_plain cells m i r f e) = all-read cells m i (Some line) r (inl (ap Some e, f))
    fault-verdict line (loop cells m i margin r p l e) = all-read cells m i (Some line) r (inr (p, inl (ap Some e, (margin, l))))

    accepted-verdict : (cells : List CellView) (m : ModuleView) (i : Intent) → Accepts inputs cells m i → Verdict None
    accepted-verdict cells m i a = all-read cells m i None a.all (inr (a.plain, inr (refl, a.no_loop)))

    -- inputs have one first fault
    pub one-line : (a b : List ℕ) → FirstFault inputs a → FirstFault inputs b → a ≡ b
    one-line a b x y = let both : Some a ≡ Some b = same_verdict (Some a) (Some b) (fault-verdict a x) (fault-verdict b y) in cc

    -- and none where they are accepted
    pub no-line : (cells : List CellView) (m : ModuleView) (i : Intent) (line : List ℕ) → Accepts inputs cells m i → FirstFault inputs line → ⊥
    no-line cells m i line a x = let both : None ≡ Some line = same_verdict None (Some line) (accepted-verdict cells m i a) (fault-verdict line x) in let none : ⊥ = cc in none
