-- What the call on net bits asks follows from what is known of the netlist.
use Rattle.std.proofs.Common.{◌≡◌, ℕ, true, List, Option, Some, None, refl, sym, ap, ◌∙◌, subst}
use Rattle.std.specs.Option.{option_map}
use Rattle.std.specs.List.{All}
use Rattle.lp_text.specs.Texts.{distinct}
use Rattle.lp_model.specs.declared.library.Library.{Library}
use Rattle.lp_model.specs.declared.netlist.Netlist.{Netlist}
use Rattle.lp_spec_design.specs.Netlists.{Structure}
use Rattle.lp_spec_faults.specs.Lines.{first_of}
use Rattle.lp_spec_faults.specs.Modules.{netlist_limits, unfit_cell}
use Rattle.lp_spec_faults.specs.Wires.{unknown_pin, already_powered, width, two_drivers}
use Rattle.lp_targets.specs.declared.hierarchy.Hierarchy.{Hierarchy}
use Rattle.lp_targets.specs.declared.size.Size.{Size}
use Rattle.lp_targets.specs.declared.target.Target.{Target}
use Rattle.lp_targets.specs.Reports.{or_else, names_report, shape_report, recursive_report, top_report, limits_report}
use Rattle.lp_targets.specs.Sizes.{sizes_of}
use Rattle.lp_targets.specs.Structures.{structure_of}
use Rattle.lp_connections.specs.Reports.{unknown_pin_report, powered_report, width_report, unfit_report}
use Rattle.lp_spec_layout.specs.Parts.{Template}
use Rattle.lp_templates.specs.Modules.{templates_numbered, HasFewBits}
use Rattle.lp_templates.specs.Stocks.{stock_of}
use Rattle.lp_spec_numbered.proofs.Statements.{those}
use Rattle.lp_spec_numbered.proofs.Sized as sized
use Rattle.lp_spec_ready.proofs.Few.{few_bits}
use Rattle.lp_drivers.specs.Ready.{IsReady}
use Rattle.lp_spec_exact.specs.Laws.{CanBeLaidOut}
use Rattle.lp_hier.specs.Judged.{IsJudged}

none-first : {A : Type 0} (a b : Option A) → or_else a b ≡ None → a ≡ None
none-first None b e = refl
none-first (Some x) b e = cc

none-later : {A : Type 0} (a b : Option A) → or_else a b ≡ None → b ≡ None
none-later None b e = e
none-later (Some x) b e = cc

none-mapped : {A B : Type 0} (f : A → B) (o : Option A) → option_map f o ≡ None → o ≡ None
none-mapped f None e = refl
none-mapped f (Some x) e = cc

module _ (texts : List (List ℕ)) (n : Netlist) (l : Library) (h : Hierarchy) (judged : IsJudged texts n l h) where
  abbrev s : Structure
  s = structure_of texts n l

  limits : first_of (netlist_limits s) ≡ None
  limits =
      let shape = none-later (names_report s) (shape_report s) judged.modules in
      let behind = none-later (recursive_report s) (or_else (top_report s) (limits_report s)) shape in
      none-mapped _ (first_of (netlist_limits s)) (none-later (top_report s) (limits_report s) behind)

  pub few : All HasFewBits n.modules
  few = few_bits texts n l h.rows h.order.items h.top judged.resolved limits

  pins : first_of (unknown_pin s) ≡ None
  pins = none-mapped _ (first_of (unknown_pin s)) (none-first (unknown_pin_report s) (or_else (powered_report s) (or_else (width_report s) (unfit_report s))) judged.connections)

  behind-pins : or_else (powered_report s) (or_else (width_report s) (unfit_report s)) ≡ None
  behind-pins = none-later (unknown_pin_report s) (or_else (powered_report s) (or_else (width_report s) (unfit_report s))) judged.connections

  powers : first_of (already_powered s) ≡ None
  powers = none-mapped _ (first_of (already_powered s)) (none-first (powered_report s) (or_else (width_report s) (unfit_report s)) behind-pins)

  behind-powers : or_else (width_report s) (unfit_report s) ≡ None
  behind-powers = none-later (powered_report s) (or_else (width_report s) (unfit_report s)) behind-pins

  widths : first_of (width s) ≡ None
  widths = none-mapped _ (first_of (width s)) (none-first (width_report s) (unfit_report s) behind-powers)

  cells : first_of (unfit_cell s) ≡ None
  cells = none-mapped _ (first_of (unfit_cell s)) (none-later (width_report s) (unfit_report s) behind-powers)

  -- by the sizes and the rows that are told
  abbrev those-templates : List Size → List (List Target) → List Template
  those-templates sizes rows = templates_numbered (stock_of n l sizes) rows

  measured-there : distinct texts ≡ true → IsReady s h.rows h.order.items h.top (those-templates (sizes_of s) h.rows)
  measured-there apart =
      let m = sized.measured texts n l h.rows h.order.items h.top judged.resolved limits in
      record {
        resolved = judged.resolved;
        limits = limits;
        names = judged.names;
        widths = widths;
        are = those texts n l h.rows (record { apart = apart; named = judged.named; targets = judged.resolved.known; names = judged.names; declared = judged.declared; pins = pins; powers = powers }) (sizes_of s);
        sized = m.sized;
        told = m.told;
        low = m.low;
      }

  pub ready : distinct texts ≡ true → (rows : List (List Target)) → rows ≡ h.rows → (sizes : List Size) → sizes ≡ h.sizes.items
      → (templates : List Template) → templates ≡ those-templates sizes rows → IsReady s h.rows h.order.items h.top templates
  ready apart rows same-rows sizes same-sizes templates same =
      let is : templates ≡ those-templates (sizes_of s) h.rows = same ∙ ap (λ z. those-templates z rows) (same-sizes ∙ judged.sizes) ∙ ap (those-templates (sizes_of s)) same-rows in
      subst (IsReady s h.rows h.order.items h.top) (sym is) (measured-there apart)

  -- where no net bit has two drivers, it can be laid out
  pub laid : (templates : List Template) → IsReady s h.rows h.order.items h.top templates → first_of (two_drivers s) ≡ None → CanBeLaidOut texts n l h.rows h.order.items h.top templates
  laid templates is single = record { ready = is; drivers = single; cells = cells; sound = judged.sound }
