-- The first instance of a cell that a source may not have, by numbers and by the texts.
use Rattle.std.proofs.Common.{◌≡◌, ℕ, Bool, true, false, ◌||◌, cond, List, [], ◌∷◌, map, Option, Some, None, is_some, refl, sym, ap, ◌∙◌}
use Rattle.std.specs.Prelude.{slice_get, codes, unwrap_or, if◌then◌else◌}
use Rattle.std.specs.List.{list_any}
use Rattle.std.specs.Option.{option_map, option_and_then}
use Rattle.lp_text.specs.Texts.{text_at, distinct}
use Rattle.lp_model.specs.declared.reason.Reason.{Reason}
use Rattle.lp_model.specs.declared.fault.netlist.NetlistFault.TheVariants as faults
use Rattle.lp_model.specs.declared.fault.netlist.UnfitReason.{UnfitReason}
use Rattle.lp_model.specs.declared.fault.netlist.UnfitReason.TheVariants as unfit
use Rattle.lp_model.specs.declared.library.Cell.{Cell}
use Rattle.lp_model.specs.declared.library.Library.{Library}
use Rattle.lp_model.specs.declared.library.PgKind.{PgKind}
use Rattle.lp_model.specs.declared.library.PgPin.{PgPin}
use Rattle.lp_model.specs.declared.netlist.Instance.{Instance}
use Rattle.lp_model.specs.declared.netlist.Module.{Module}
use Rattle.lp_model.specs.declared.netlist.Netlist.{Netlist}
use Rattle.lp_model.specs.FaultWords.{unfit_word}
use Rattle.lp_model.specs.NetlistView.{instance_view, module_view}
use Rattle.lp_model.specs.LibraryView.{PgPinView, expr_view, pg_pin_view, cell_view}
use Rattle.lp_spec_design.specs.Netlists.{Structure, first}
use Rattle.lp_spec_faults.specs.Modules.{InstanceAt, is_backup, is_internal, unfit_reason, reason_at, word_at}
use Rattle.lp_targets.specs.Reports.{Report, report_of}
use Rattle.lp_targets.specs.Structures.{structure_of, AreNamed}
use Rattle.lp_targets.specs.declared.target.Target.{Target}
use Rattle.lp_targets.specs.declared.target.Target.TheVariants.{OfModule, OfCell}
use Rattle.lp_connections.specs.Parts.{Parts, parts_of}
use Rattle.lp_connections.specs.Numbered.{has_kind, reason_of, unfit_reason_of, at_of, cell_fault}
use Rattle.lp_connections.proofs.Lists.{map_map_some}
use Rattle.lp_connections.proofs.Parallel.{IsOf}
use Rattle.lp_connections.proofs.Ports.{cell-there, no-cell}

some-map : {A B : Type 0} (f : A → B) (o : Option A) → is_some (option_map f o) ≡ is_some o
some-map f None = refl
some-map f (Some x) = refl

kind-same : (texts : List (List ℕ)) (test : PgKind → Bool) (pgs : List PgPin) → list_any (λ (g : PgPinView). test g.kind) (map (pg_pin_view texts) pgs) ≡ has_kind test pgs
kind-same texts test [] = refl
kind-same texts test (g ∷ pgs) = ap (λ b. test g.kind || b) (kind-same texts test pgs)

-- the reason of a cell by its view
reason-same : (texts : List (List ℕ)) (c : Cell) → unfit_reason (cell_view texts c) ≡ reason_of c
reason-same texts c = by c.unusable refl
  where
    by : (u : Option Reason) → c.unusable ≡ u → unfit_reason (cell_view texts c) ≡ reason_of c
    by (Some reason) e = rw e refl
    by None e =
        rw e
        (λ i. if is_some c.roles.shifter then Some unfit.Shifter
        else if some-map (expr_view texts) c.roles.retention i then Some unfit.RetentionCell
        else if c.roles.switch then Some unfit.SwitchCell
        else if kind-same texts is_backup c.pgs i then Some unfit.Backup
        else if kind-same texts is_internal c.pgs i then Some unfit.Internal
        else None)

-- the line of its fault
abbrev pub told_cell : Structure → InstanceAt → Report
told_cell s x = (codes "F61 UnfitCell", x.parent.name ∷ x.instance.name ∷ unwrap_or (word_at s x) [] ∷ [])

module _ (texts : List (List ℕ)) (apart : distinct texts ≡ true) (n : Netlist) (l : Library) (are_named : AreNamed texts n l) where
  abbrev s : Structure
  s = structure_of texts n l

  abbrev d : Parts
  d = parts_of n.modules l.cells

  module _ (m : Module) (x : Instance) where
    abbrev here : InstanceAt
    here = record { parent = module_view texts m; instance = instance_view texts x }

    in-cell : (a : ℕ) → IsOf texts s (OfCell a) x → (o : Option Cell) → slice_get l.cells a ≡ o → reason_at s here ≡ unfit_reason_of d (OfCell a)
    in-cell a is (Some c) e =
        ap (option_and_then unfit_reason) (is.of_cell ∙ cell-there texts apart n l are_named a c e)
        ∙ reason-same texts c
        ∙ sym (ap (option_and_then reason_of) e)
    in-cell a is None e =
        ap (option_and_then unfit_reason) (is.of_cell ∙ no-cell texts apart n l are_named a e)
        ∙ sym (ap (option_and_then reason_of) e)

    reason-at : (t : Target) → IsOf texts s t x → reason_at s here ≡ unfit_reason_of d t
    reason-at (OfModule a) is = ap (option_and_then unfit_reason) is.of_cell
    reason-at (OfCell a) is = in-cell a is (slice_get l.cells a) refl

    abbrev told : UnfitReason → Report
    told reason = (codes "F61 UnfitCell", text_at texts m.name.0 ∷ text_at texts x.name.0 ∷ unfit_word reason ∷ [])

    abbrev told_reason : Option UnfitReason → Report
    told_reason r = (codes "F61 UnfitCell", text_at texts m.name.0 ∷ text_at texts x.name.0 ∷ unwrap_or (option_map unfit_word r) [] ∷ [])

    by-reason : (r : Option UnfitReason) → cond (is_some r) (Some (told_reason r)) None ≡ option_map told r
    by-reason None = refl
    by-reason (Some reason) = refl

    say-if : option_map (told_cell s) (first (λ (y : InstanceAt). is_some (reason_at s y)) (here ∷ [])) ≡ cond (is_some (reason_at s here)) (Some (told_reason (reason_at s here))) None
    say-if = by (is_some (reason_at s here))
      where
        by : (b : Bool) → option_map (told_cell s) (cond b (Some here) None) ≡ cond b (Some (told_reason (reason_at s here))) None
        by true = refl
        by false = refl

    pub cell_same : (t : Target) → IsOf texts s t x → option_map (told_cell s) (first (λ (y : InstanceAt). is_some (reason_at s y)) (here ∷ [])) ≡ option_map (report_of texts) (cell_fault d m.name t x)
    cell_same t is =
        say-if
        ∙ ap (λ r. cond (is_some r) (Some (told_reason r)) None) (reason-at t is)
        ∙ by-reason (unfit_reason_of d t)
        ∙ sym (map_map_some (report_of texts) (λ reason. faults.UnfitCell (at_of m.name x) reason) (unfit_reason_of d t))
