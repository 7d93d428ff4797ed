-- The texts of an accepted design keep their promises.
use Rattle.std.proofs.Common.{◌≡◌, ℕ, Bool, true, false, not, List, [], ◌∷◌, map, length, refl, sym, ap, ◌∙◌, subst}
use Rattle.std.specs.Prelude.{bytes_eq, Err}
use Rattle.std.specs.List.{list_all, flat_map}
use Rattle.std.proofs.lemmas.List.{append-nil}
use Rattle.std.proofs.lemmas.Bool.{not-true}
use Rattle.lp_spec_settling.specs.Settling.{HasOrder}
use Rattle.lp_model.specs.Agreement.{numbers_below}
use Rattle.lp_model.specs.declared.library.Cell.{Cell}
use Rattle.lp_model.specs.declared.netlist.Module.{Module}
use Rattle.lp_model.specs.declared.netlist.Netlist.{Netlist}
use Rattle.lp_model.specs.NetlistView.{ModuleView, module_view, module_numbers, netlist_view, netlist_numbers}
use Rattle.lp_model.specs.LibraryView.{CellView, cell_view}
use Rattle.lp_spec_design.specs.Keys.{Name}
use Rattle.lp_spec_design.specs.Reads.{keys, reads}
use Rattle.lp_spec_pins.specs.Supplied.{is_supplied}
use Rattle.lp_spec_plain.specs.Alike.{BehavesAlike}
use Rattle.lp_spec_plain_module.specs.Designs.{Flat, design_of}
use Rattle.lp_spec_plain_module.specs.Netlists.{powered, netlist_of, origin_of}
use Rattle.lp_spec_plain_module.specs.Tests.{is_flat}
use Rattle.lp_verilog.specs.Reads.{Reads}
use Rattle.lp_verilog_tokens.specs.Lexical.{is_visible}
use Rattle.lp_vwrite.specs.Layout.{layout}
use Rattle.lp_vwrite.specs.WellFormed.{IsWellFormed, HasTable}
use Rattle.lp_spec_plain_netlist.specs.Single.{is_single_module}
use Rattle.lp_spec_plain_netlist.specs.Fits.{are_read, is_fit, are_plain}
use Rattle.lp_spec_plain_netlist.specs.Flats.{flat_of}
use Rattle.lp_plain_upf.specs.declared.plain.Intent.{Intent}
use Rattle.lp_spec_insertion.specs.Inputs.{Inputs, Accepts}
use Rattle.lp_spec_insertion.specs.Faults.{FirstFault}
use Rattle.lp_spec_insertion.specs.Promise.{IsWritten, HeadlineHolds, HasDesign, report_text}
use Rattle.lp_accept.specs.declared.accepted.Accepted.{Accepted}
use Rattle.lp_accept.specs.declared.stop.Stop.{Stop}
use Rattle.lp_accept.specs.declared.stop.Stop.TheVariants as stops
use Rattle.lp_accept.specs.Stages.{OrStop}
use Rattle.lp_accept.specs.Judged.{IsAccepted, cells_of, source_of, flat_by}
use Rattle.lp_top.specs.declared.design.Refusal.{Refusal}
use Rattle.lp_top.specs.declared.design.Refusal.TheVariants as refusals
use Rattle.lp_top.specs.Design.{RefusedBy, GivesFault, GivesTexts, OfStop}

module _ (inputs : Inputs) (a : Accepted) (is : IsAccepted inputs a) (margin : ℕ)
    (fits_flat : (cells : List CellView) (m : ModuleView) (power gnd : Name) (margin : ℕ) → is_single_module m ≡ true → are_read cells m ≡ true → is_fit cells m ≡ true → are_plain cells m ≡ true → bytes_eq power gnd ≡ false → is_flat (flat_of cells m power gnd margin) ≡ true)
    (well_formed : (cells : List CellView) (m : ModuleView) (power gnd : Name) (margin : ℕ) → is_single_module m ≡ true → are_read cells m ≡ true → is_fit cells m ≡ true → bytes_eq power gnd ≡ false → list_all is_visible power ≡ true → list_all is_visible gnd ≡ true → IsWellFormed (powered (flat_of cells m power gnd margin) ∷ []))
    (back : (v : List ModuleView) → IsWellFormed v → HasTable v → Reads (layout v) v)
    (alone : (v w : List ModuleView) → IsWellFormed v → HasTable v → Reads (layout v) w → w ≡ v)
    (supplied : (f : Flat) → is_flat f ≡ true → is_supplied (netlist_of f) ≡ true)
    (netlist : List ℕ) (spelled : netlist ≡ layout (powered (flat_by a margin) ∷ [])) (table : HasTable (powered (flat_by a margin) ∷ [])) where
  abbrev f : Flat
  f = flat_by a margin

  abbrev written : ModuleView
  written = powered f

  apart : bytes_eq a.intent.power a.intent.gnd ≡ false
  apart = not-true (bytes_eq a.intent.power a.intent.gnd) is.accepts.all.intent.apart

  single : is_single_module (source_of a) ≡ true
  single = is.accepts.all.fit.both.single

  fit : is_fit (cells_of a) (source_of a) ≡ true
  fit = is.accepts.all.fit.fits

  flat : is_flat f ≡ true
  flat = fits_flat (cells_of a) (source_of a) a.intent.power a.intent.gnd margin single is.read fit is.accepts.plain apart

  good : IsWellFormed (written ∷ [])
  good = well_formed (cells_of a) (source_of a) a.intent.power a.intent.gnd margin single is.read fit apart is.power_visible is.gnd_visible

  design : HasDesign inputs
  design = record { cells = cells_of a; source = source_of a; intent = a.intent; accepts = is.accepts }

  reads_same : Reads netlist (written ∷ [])
  reads_same = subst (λ t. Reads t (written ∷ [])) (sym spelled) (back (written ∷ []) good table)

  only : (other : List ModuleView) → Reads netlist other → other ≡ written ∷ []
  only other o = alone (written ∷ []) other good table (subst (λ t. Reads t other) spelled o)

  pub promise : (report : List ℕ) → report ≡ report_text → IsWritten inputs margin netlist report
  unfolding design
  promise report r = record {
    design = design;
    written = written;
    implements = refl;
    spelled = spelled;
    reads = reads_same;
    only = only;
    supplied = supplied f flat;
    reported = r;
  }

  pub promise-headline : ((f : Flat) → is_flat f ≡ true → HasOrder keys (reads (design_of f)) → BehavesAlike (design_of f) (netlist_of f) (origin_of f)) → HeadlineHolds inputs margin netlist
  unfolding design
  promise-headline alike = record {
    design = design;
    written = written;
    reads = reads_same;
    only = only;
    supplied = supplied f flat;
    headline = alike f flat (is.ordered margin);
  }

-- ---- the netlist that is written

module _ (a : Accepted) (names : List (List ℕ)) (n : Netlist) (w : Module) (one : n.modules ≡ w ∷ []) where
  pub view-is : (index : List Cell) (power gnd : List ℕ) → index ≡ a.library.cells → power ≡ a.intent.power → gnd ≡ a.intent.gnd
      → ((margin : ℕ) → module_view names w ≡ powered (flat_of (map (cell_view a.names) index) (module_view a.names a.source) power gnd margin))
      → (margin : ℕ) → netlist_view names n ≡ powered (flat_by a margin) ∷ []
  view-is index power gnd ei ep eg made margin =
      ap (map (module_view names)) one
      ∙ ap (λ v. v ∷ []) (made margin ∙ (λ i. powered (flat_of (map (cell_view a.names) (ei i)) (module_view a.names a.source) (ep i) (eg i) margin)))

  pub netlist-below : numbers_below (length names) (module_numbers w) ≡ true → numbers_below (length names) (netlist_numbers n) ≡ true
  netlist-below h =
      ap (λ ms. numbers_below (length names) (flat_map module_numbers ms)) one
      ∙ ap (numbers_below (length names)) (append-nil (module_numbers w)) ∙ h

-- ---- refusals

module _ (inputs : Inputs) where
  pub refused-by : (s : Stop) (r : Refusal) → r ≡ OfStop s → OrStop (IsAccepted inputs) (FirstFault inputs) (Err s) → RefusedBy inputs (Err r)
  refused-by (stops.Fault line) r e h = subst (λ x. RefusedBy inputs (Err x)) (sym e) h
  refused-by stops.NoMemory r e h = subst (λ x. RefusedBy inputs (Err x)) (sym e) tt

  pub gives-fault : ((a b : List ℕ) → FirstFault inputs a → FirstFault inputs b → a ≡ b) → (s : Stop) (r : Refusal) → r ≡ OfStop s → OrStop (IsAccepted inputs) (FirstFault inputs) (Err s) → (line : List ℕ) → FirstFault inputs line → GivesFault line (Err r)
  gives-fault one (stops.Fault l) r e h line x = subst (λ y. GivesFault line (Err y)) (sym e) (one l line h x)
  gives-fault one stops.NoMemory r e h line x = subst (λ y. GivesFault line (Err y)) (sym e) tt

  pub gives-texts : ((cells : List CellView) (m : ModuleView) (i : Intent) (line : List ℕ) → Accepts inputs cells m i → FirstFault inputs line → ⊥) → (s : Stop) (r : Refusal) → r ≡ OfStop s → OrStop (IsAccepted inputs) (FirstFault inputs) (Err s) → (cells : List CellView) (m : ModuleView) (i : Intent) → Accepts inputs cells m i → GivesTexts (Err r)
  gives-texts none (stops.Fault l) r e h cells m i a = absurd (none cells m i l a h)
  gives-texts none stops.NoMemory r e h cells m i a = subst (λ y. GivesTexts (Err y)) (sym e) tt
