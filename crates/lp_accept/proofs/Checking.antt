-- Netlists without faults of names, targets, modules, connections, cells and net bits, and the stops at others.
use Rattle.std.proofs.Common.{◌≡◌, ℕ, ◌≤◌, Bool, true, false, not, List, [], ◌∷◌, ◌++◌, map, length, Option, Some, None, inl, inr, refl, sym, ap, ◌∙◌, subst, arith}
use Rattle.std.specs.Prelude.{Err, ◌&&◌, ltb, flat_map, bytes_eq, codes}
use Rattle.std.specs.Option.{option_map}
use Rattle.std.specs.List.{list_all}
use Rattle.std.proofs.lemmas.Bool.{and_parts, and_from, false≢true}
use Rattle.std.proofs.lemmas.List.{length-map}
use Rattle.lp_text.specs.Texts.{text_at, distinct}
use Rattle.lp_model.specs.Agreement.{numbers_below}
use Rattle.lp_model.specs.FaultLines.{is_plain}
use Rattle.lp_model.specs.declared.fault.netlist.NetlistFault.{NetlistFault}
use Rattle.lp_model.specs.declared.fault.netlist.NetlistFault.TheVariants as of_netlist
use Rattle.lp_model.specs.declared.fault.refusal.DesignFault.TheVariants as of_design
use Rattle.lp_model.specs.declared.fault.refusal.Fault.TheVariants as faults
use Rattle.lp_model.specs.declared.fault.refusal.Refusal.{Refusal}
use Rattle.lp_model.specs.declared.fault.refusal.Refusal.TheVariants as refusals
use Rattle.lp_model.specs.declared.library.Library.{Library}
use Rattle.lp_model.specs.declared.netlist.Module.{Module}
use Rattle.lp_model.specs.declared.netlist.Netlist.{Netlist}
use Rattle.lp_model.specs.NetlistView.{ModuleView, module_view, module_numbers, netlist_view, netlist_numbers}
use Rattle.lp_model.specs.LibraryView.{CellView, library_view}
use Rattle.lp_spec_design.specs.Keys.{Name}
use Rattle.lp_spec_design.specs.Netlists.{Structure}
use Rattle.lp_spec_faults.specs.Lines.{first_of}
use Rattle.lp_spec_faults.specs.Modules.{reserved_name, unknown_module, recursive, top_count, netlist_limits, unfit_cell}
use Rattle.lp_spec_faults.specs.Wires.{unknown_pin, already_powered, width}
use Rattle.lp_targets.specs.declared.hierarchy.Hierarchy.{Hierarchy}
use Rattle.lp_targets.specs.Sizes.{IsResolved, sizes_of}
use Rattle.lp_targets.specs.Structures.{AreNamed, structure_of}
use Rattle.lp_targets.specs.Targets.{AreTargets}
use Rattle.lp_targets.specs.declared.target.Target.{Target}
use Rattle.lp_targets.specs.Reports.{Report, report_of, or_else, hierarchy_report, IsStop}
use Rattle.lp_connections.specs.Limits.{AreSmall}
use Rattle.lp_connections.specs.Reports.{connections_report}
use Rattle.lp_verilog.specs.Laws.{AreFew}
use Rattle.lp_vwrite.specs.Sound.{is_read_module, is_read}
use Rattle.lp_plain_index.proofs.Numbers.{below-left, below-right}
use Rattle.lp_spec_plain_netlist.specs.Single.{is_single}
use Rattle.lp_spec_ready.proofs.Declared.{apart-when-read, declared-when-read}
use Rattle.lp_node_text.specs.Reports.{report_line, source_report}
use Rattle.lp_sources.specs.Judged.{IsJudged}
use Rattle.lp_spec_insertion.specs.Inputs.{structure_in, parts_report, netlist_report}
use Rattle.lp_spec_insertion.specs.Faults.{not_yet}
use Rattle.lp_accept.specs.declared.stop.Stop.{Stop}
use Rattle.lp_accept.specs.declared.stop.Stop.TheVariants as stops
use Rattle.lp_accept.specs.Stages.{IsLine, OrStop, IsPlainRefusal, StopsAs}
use Rattle.lp_accept.specs.Read.{AreCells, AreModules}
use Rattle.lp_accept.specs.Judged.{IsFaultless, IsFaulty, IsTaken, IsNotTaken, IsSource}
use Rattle.lp_accept.proofs.Few.{few-distinct}
use Rattle.lp_accept.proofs.Judging.{stops-line}

-- ---- modules that are read

module_names : (names : List (List ℕ)) (ms : List Module) → map (λ (m : ModuleView). m.name) (map (module_view names) ms) ≡ map (text_at names) (map (λ (m : Module). m.name.0) ms)
module_names names [] = refl
module_names names (m ∷ ms) = ap (λ xs. text_at names m.name.0 ∷ xs) (module_names names ms)

names_below : (k : ℕ) (ms : List Module) → numbers_below k (flat_map module_numbers ms) ≡ true → numbers_below k (map (λ (m : Module). m.name.0) ms) ≡ true
names_below k [] h = refl
names_below k (m ∷ ms) h =
    let here = below-left k (module_numbers m) (flat_map module_numbers ms) h in
    let others = below-right k (module_numbers m) (flat_map module_numbers ms) h in
    and_from (ltb m.name.0 k) (numbers_below k (map (λ (x : Module). x.name.0) ms)) (and_parts (ltb m.name.0 k) _ here).0 (names_below k ms others)

few_modules : (names : List (List ℕ)) (ms : List Module) → distinct (map (λ (m : ModuleView). m.name) (map (module_view names) ms)) ≡ true → numbers_below (length names) (flat_map module_numbers ms) ≡ true → length ms ≤ length names
few_modules names ms apart below =
    let few = few-distinct names (length names) (map (λ (m : Module). m.name.0) ms) (ap distinct (sym (module_names names ms)) ∙ apart) (names_below (length names) ms below) in
    let e = length-map ms (λ (m : Module). m.name.0) in
    omega (arith, few, e)

are_small : (n : ℕ) (ms : List Module) → n ≤ 67108864 → AreFew n ms → AreSmall ms
are_small n ms short few k d l =
    let h = few k d l in
    record { few_ports = omega (arith, h.ports, short); few_assigns = omega (arith, h.assigns, short) }

pub are_modules : (names : List (List ℕ)) (text : List ℕ) (n : Netlist) → length text ≤ 67108864 → length names ≤ 1140850689
    → numbers_below (length names) (netlist_numbers n) ≡ true → is_read (netlist_view names n) ≡ true → AreFew (length text) n.modules → AreModules names n
are_modules names text n short room below read few =
    let apart = (and_parts (distinct (map (λ (m : ModuleView). m.name) (netlist_view names n))) (list_all is_read_module (netlist_view names n)) read).0 in
    let count = few_modules names n.modules apart below in
    record {
      below = below;
      apart = apart;
      few = omega (arith, count, room);
      small = are_small (length text) n.modules short few;
      names_apart = λ cells. apart-when-read (structure_in cells (netlist_view names n)) read;
      declared = declared-when-read (structure_in [] (netlist_view names n)) read;
    }

pub are_named : (names : List (List ℕ)) (n : Netlist) (l : Library) → AreCells names l → AreModules names n → AreNamed names n l
are_named names n l cells modules = record { netlist = modules.below; library = cells.below; few_modules = modules.few; few_cells = cells.few }

-- ---- stops at the first line of several

stop_as : (texts : List (List ℕ)) (a b : Option Report) (r : Refusal) → ((x : Report) → a ≡ Some x → b ≡ Some x) → IsStop texts a r → IsStop texts b r
stop_as texts a b refusals.NoMemory same h = h
stop_as texts a b (refusals.Fault (faults.Design (of_design.Netlist f))) same h = same (report_of texts f) h
stop_as texts a b (refusals.Fault (faults.Design _)) same h = absurd h
stop_as texts a b (refusals.Fault _) same h = absurd h

pub stop_by_names : (texts : List (List ℕ)) (s : Structure) (r : Refusal) → IsStop texts (hierarchy_report s) r → IsStop texts (parts_report s) r
unfolding parts_report
stop_by_names texts s r h = stop_as texts (hierarchy_report s) (or_else (hierarchy_report s) (connections_report s)) r (λ x e. ap (λ o. or_else o (connections_report s)) e) h

stop_by_connections : (texts : List (List ℕ)) (s : Structure) (r : Refusal) → hierarchy_report s ≡ None → IsStop texts (connections_report s) r → IsStop texts (parts_report s) r
unfolding parts_report
stop_by_connections texts s r none h = stop_as texts (connections_report s) (or_else (hierarchy_report s) (connections_report s)) r (λ x e. ap (λ o. or_else o (connections_report s)) none ∙ e) h

no_parts : (s : Structure) → hierarchy_report s ≡ None → connections_report s ≡ None → parts_report s ≡ None
unfolding parts_report
no_parts s none e = ap (λ o. or_else o (connections_report s)) none ∙ e

-- what is said of connections, where no line holds about names, targets and modules
module _ (texts : List (List ℕ)) (n : Netlist) (l : Library) (h : Hierarchy) (now : List (List Target)) (same : now ≡ h.rows) (read : AreModules texts n) (named : AreNamed texts n l) (resolved : IsResolved (structure_of texts n l) h.rows h.order.items h.top) (sizes : h.sizes.items ≡ sizes_of (structure_of texts n l)) (none : hierarchy_report (structure_of texts n l) ≡ None) where
  abbrev judged-netlist : Structure
  judged-netlist = structure_of texts n l

  targets : AreTargets judged-netlist now
  targets = subst (AreTargets judged-netlist) (sym same) resolved.known.targets

  pub judged : connections_report judged-netlist ≡ None → IsJudged texts n l h
  judged e = record {
    named = named;
    names = read.names_apart (library_view texts l);
    declared = read.declared;
    resolved = resolved;
    sizes = sizes;
    modules = none;
    connections = e;
  }

  pub answered : (AreTargets judged-netlist now → connections_report judged-netlist ≡ None) → IsJudged texts n l h
  answered told = judged (told targets)

  pub refused : (r : Refusal) → (AreTargets judged-netlist now → IsStop texts (connections_report judged-netlist) r) → IsStop texts (parts_report judged-netlist) r
  refused r told = stop_by_connections texts judged-netlist r none (told targets)

-- ---- names and places alone give the lines

-- a word but those of F16 and F23
abbrev is_other : Name → Bool
is_other w = not (bytes_eq w (codes "F16 TwoDrivers")) && not (bytes_eq w (codes "F23 WireLoop"))

abbrev IsOther : Option Report → Type 0
IsOther None = Unit {0}
IsOther (Some r) = is_other r.0 ≡ true

other_or : (a b : Option Report) → IsOther a → IsOther b → IsOther (or_else a b)
other_or None b h k = k
other_or (Some r) b h k = h

other_map : {A : Type 0} (f : A → Report) (o : Option A) → ((x : A) → is_other (f x).0 ≡ true) → IsOther (option_map f o)
other_map f None h = tt
other_map f (Some x) h = h x

others : (s : Structure) → IsOther (parts_report s)
unfolding parts_report
others s =
    other_or (hierarchy_report s) (connections_report s)
    (other_or _ _
    (other_or _ _ (other_map _ (first_of (reserved_name s)) (λ x. refl)) (other_map _ (first_of (unknown_module s)) (λ x. refl)))
    (other_or _ _ (other_map _ (first_of (recursive s)) (λ x. refl)) (other_or _ _ (other_map _ (first_of (top_count s)) (λ x. refl)) (other_map _ (first_of (netlist_limits s)) (λ x. refl)))))
    (other_or _ _ (other_map _ (first_of (unknown_pin s)) (λ x. refl))
    (other_or _ _ (other_map _ (first_of (already_powered s)) (λ x. refl)) (other_or _ _ (other_map _ (first_of (width s)) (λ x. refl)) (other_map _ (first_of (unfit_cell s)) (λ x. refl)))))

plain_fault : (texts : List (List ℕ)) (o : Option Report) (f : NetlistFault) → IsOther o → o ≡ Some (report_of texts f) → is_plain (faults.Design (of_design.Netlist f)) ≡ true
plain_fault texts o (of_netlist.TwoDrivers node) h e = absurd (false≢true (subst IsOther e h))
plain_fault texts o (of_netlist.WireLoop node) h e = absurd (false≢true (subst IsOther e h))
plain_fault texts o _ h e = refl

pub plain_stop : (texts : List (List ℕ)) (s : Structure) (r : Refusal) → IsStop texts (parts_report s) r → IsPlainRefusal r
plain_stop texts s refusals.NoMemory h = tt
plain_stop texts s (refusals.Fault (faults.Design (of_design.Netlist f))) h = plain_fault texts (parts_report s) f (others s) h
plain_stop texts s (refusals.Fault (faults.Design _)) h = absurd h
plain_stop texts s (refusals.Fault _) h = absurd h

-- ---- the first line that holds

first_part : (s : Structure) (r : Report) → parts_report s ≡ Some r → netlist_report s ≡ Some r
unfolding netlist_report
first_part s r e = ap (λ o. or_else o (source_report s)) e

then_source : (s : Structure) → parts_report s ≡ None → netlist_report s ≡ source_report s
unfolding netlist_report
then_source s e = ap (λ o. or_else o (source_report s)) e

-- the stop at a line that holds
pub stops-faulty : {T : Type 0} (P : T → Type 0) (texts : List (List ℕ)) (cells : List CellView) (modules : List ModuleView) (r : Refusal) (s : Stop) → IsStop texts (parts_report (structure_in cells modules)) r → StopsAs texts r s → OrStop P (IsFaulty cells modules) (Err s)
stops-faulty P texts cells modules refusals.NoMemory s h k = subst (λ x. OrStop P (IsFaulty cells modules) (Err x)) (sym k) tt
stops-faulty P texts cells modules (refusals.Fault (faults.Design (of_design.Netlist f))) s h k =
    stops-line P (IsFaulty cells modules) (report_line (report_of texts f)) s k (record { report = report_of texts f; first = first_part (structure_in cells modules) (report_of texts f) h; spelled = refl })
stops-faulty P texts cells modules (refusals.Fault (faults.Design _)) s h k = absurd h
stops-faulty P texts cells modules (refusals.Fault _) s h k = absurd h

-- ---- net bits

module _ (texts : List (List ℕ)) (n : Netlist) (l : Library) (h : Hierarchy) (is : IsJudged texts n l h) where
  abbrev here : Structure
  here = structure_of texts n l

  by_source : netlist_report here ≡ source_report here
  by_source = then_source here (no_parts here is.modules is.connections)

  pub no-source : None ≡ option_map report_line (source_report here) → IsFaultless (library_view texts l) (netlist_view texts n)
  no-source e = by_source ∙ none-mapped (source_report here) e
    where
      none-mapped : (o : Option Report) → None ≡ option_map report_line o → o ≡ None
      none-mapped None k = refl
      none-mapped (Some r) k = cc

  pub some-source : (line : List ℕ) → Some line ≡ option_map report_line (source_report here) → IsFaulty (library_view texts l) (netlist_view texts n) line
  some-source line e = by (source_report here) refl e
    where
      by : (o : Option Report) → source_report here ≡ o → Some line ≡ option_map report_line o → IsFaulty (library_view texts l) (netlist_view texts n) line
      by None is k = cc
      by (Some r) is k = record { report = r; first = by_source ∙ is; spelled = same k }
        where
          same : Some line ≡ Some (report_line r) → line ≡ report_line r
          same z = cc

-- ---- one module

pub stops-untaken : {T U : Type 0} (P : T → Type 0) (Q : U → Type 0) (cells : List CellView) (modules : List ModuleView) (s : Stop) → OrStop P (IsFaulty cells modules) (Err s) → OrStop Q (IsNotTaken cells modules) (Err s)
stops-untaken P Q cells modules (stops.Fault l) h = inl h
stops-untaken P Q cells modules stops.NoMemory h = tt

pub stops-unsourced : {T U : Type 0} (P : T → Type 0) (Q : U → Type 0) (cells : List CellView) (modules : List ModuleView) (s : Stop) → OrStop P (IsNotTaken cells modules) (Err s) → OrStop Q (IsNotTaken cells modules) (Err s)
stops-unsourced P Q cells modules (stops.Fault l) h = h
stops-unsourced P Q cells modules stops.NoMemory h = tt

pub stops-other : {T : Type 0} (P : T → Type 0) (cells : List CellView) (modules : List ModuleView) (s : Stop) → IsFaultless cells modules → is_single modules ≡ false → IsLine (not_yet 4) s → OrStop P (IsNotTaken cells modules) (Err s)
stops-other P cells modules s none other e = stops-line P (IsNotTaken cells modules) (not_yet 4) s e (inr (record { faultless = none; other = other; spelled = refl }))

pub single-one : (names : List (List ℕ)) (ms : List Module) → is_single (map (module_view names) ms) ≡ true → length ms ≡ 1
single-one names [] h = absurd (false≢true h)
single-one names (m ∷ []) h = refl
single-one names (m ∷ k ∷ ms) h = absurd (false≢true h)

pub only-one : (ms rest : List Module) (m : Module) → ms ≡ rest ++ m ∷ [] → length ms ≡ 1 → ms ≡ m ∷ []
only-one ms [] m e one = e
only-one ms (x ∷ []) m e one = let l = ap length e in absurd (omega (arith, l, one))
only-one ms (x ∷ y ∷ rest) m e one = let l = ap length e in absurd (omega (arith, l, one))

pub is-source : (names : List (List ℕ)) (cells : List CellView) (ms : List Module) (m : Module) → ms ≡ m ∷ [] → IsTaken cells (map (module_view names) ms) → numbers_below (length names) (flat_map module_numbers ms) ≡ true → IsSource names cells (map (module_view names) ms) m
is-source names cells ms m e taken below = record {
  one = record { one = ap (map (module_view names)) e; faultless = taken.faultless; single = ap (λ x. is_single (map (module_view names) x)) (sym e) ∙ taken.single };
  below = below-left (length names) (module_numbers m) [] (subst (λ x. numbers_below (length names) (flat_map module_numbers x) ≡ true) e below);
}
