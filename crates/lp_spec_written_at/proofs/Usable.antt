-- A cell that is chosen can be used.
use Rattle.std.proofs.Common.{◌≡◌, ℕ, true, ◌&&◌, List, Option, Some, None, refl, sym, ap, ◌∙◌}
use Rattle.std.specs.Prelude.{Bool, slice_get, option_and_then}
use Rattle.lp_model.specs.declared.library.Action.{Action}
use Rattle.lp_model.specs.declared.supply.SetOrigins.{SetOrigins}
use Rattle.lp_model.specs.LibraryView.{CellView}
use Rattle.lp_spec_design.specs.Keys.{Path, Node, same_node}
use Rattle.lp_spec_design.specs.Instances.{Placed}
use Rattle.lp_spec_design.specs.Intents.{Strategy}
use Rattle.lp_spec_design.specs.Chains.{Operator, Clamp, Shift}
use Rattle.lp_spec_design.specs.Registers.{retention_winner}
use Rattle.lp_spec_design.specs.Reads.{one, other}
use Rattle.lp_spec_design.proofs.Sources.{then_is}
use Rattle.lp_spec_network.specs.Pairs.{pairs_of}
use Rattle.lp_spec_fit.specs.Choice.{is_mapped, choice}
use Rattle.lp_spec_fit.specs.Fits.{is_usable, fits_clamp, fits_shifter, fits_register, fits_switch}
use Rattle.lp_spec_fit.proofs.Chosen.{is_choice}
use Rattle.lp_spec_realises.specs.Projects.{Project, functions_of, on_expression}
use Rattle.lp_spec_realises.specs.Operators.{SwitchAt}
use Rattle.lp_spec_realises.specs.Realises.{cell_of, primary_at}
use Rattle.lp_spec_realises.specs.Implements.{Lists, clamp_chosen, shifter_chosen, operator_chosen, switch_chosen, register_by, register_chosen}
use Rattle.lp_spec_written.specs.Places.{cell_numbered}

pub fits-chosen : (t : CellView → Bool) (cells : List CellView) (c : CellView) → option_and_then (slice_get cells) (choice t cells) ≡ Some c → t c ≡ true
fits-chosen t cells c e =
    let found = then_is (slice_get cells) (choice t cells) c e in
    let is = is_choice t cells found.0 found.1 in
    let same : Some is.cell ≡ Some c = sym is.there ∙ found.2 in
    let cell : is.cell ≡ c = cc in
    ap t (sym cell) ∙ is.is_fit

module _ (p : Project) (l : Lists) where
  clamp-usable : (path : Path) (t : ℕ) (s q : Option SetOrigins) (r : Option Strategy) (c : CellView) → cell_numbered p (clamp_chosen p l path t s q r) ≡ Some c → is_usable c ≡ true
  clamp-usable path t (Some s) (Some q) (Some r) c e =
      one (is_usable c) _
      (other (is_mapped (l.of_strategy t) c) (fits_clamp (record { supply = s; place = q; clamp = r.clamp; high = r.high; mapped = l.of_strategy t }) c)
      (fits-chosen (λ k. is_mapped (l.of_strategy t) k && fits_clamp (record { supply = s; place = q; clamp = r.clamp; high = r.high; mapped = l.of_strategy t }) k) p.structure.cells c e))
  clamp-usable path t None q r c e = absurd cc
  clamp-usable path t (Some s) None r c e = absurd cc
  clamp-usable path t (Some s) (Some q) None c e = absurd cc

  shifter-usable : (t : ℕ) (a b : Option SetOrigins) (c : CellView) → cell_numbered p (shifter_chosen p l t a b) ≡ Some c → is_usable c ≡ true
  shifter-usable t (Some a) (Some b) c e =
      one (is_usable c) _
      (other (is_mapped (l.of_strategy t) c) (fits_shifter (record { input = a; output = b; pairs = pairs_of p.supplies a.power.0 b.power.0; margin = p.margin; mapped = l.of_strategy t }) c)
      (fits-chosen (λ k. is_mapped (l.of_strategy t) k && fits_shifter (record { input = a; output = b; pairs = pairs_of p.supplies a.power.0 b.power.0; margin = p.margin; mapped = l.of_strategy t }) k) p.structure.cells c e))
  shifter-usable t None b c e = absurd cc
  shifter-usable t (Some a) None c e = absurd cc

  pub operator-usable : (path : Path) (o : Operator) (c : CellView) → cell_numbered p (operator_chosen p l path o) ≡ Some c → is_usable c ≡ true
  operator-usable path (Clamp t i) c e = clamp-usable path t (functions_of p (Some i)) (primary_at p path) (slice_get p.intent.strategies t) c e
  operator-usable path (Shift t a b) c e = shifter-usable t (functions_of p (Some a)) (functions_of p (Some b)) c e

  pub switch-usable : (x : SwitchAt) (c : CellView) → cell_numbered p (switch_chosen p l x) ≡ Some c → is_usable c ≡ true
  switch-usable x c e =
      one (is_usable c) _
      (other (is_mapped (l.of_switch x.origin) c) (fits_switch (record { on = on_expression x.high; mapped = l.of_switch x.origin }) c)
      (fits-chosen (λ k. is_mapped (l.of_switch x.origin) k && fits_switch (record { on = on_expression x.high; mapped = l.of_switch x.origin }) k) p.structure.cells c e))

  register-by : (t : ℕ) (d : Option CellView) (q r : Option SetOrigins) (save restore : Option (Node × Action)) (c : CellView) → cell_numbered p (register_by p l t d q r save restore) ≡ Some c → is_usable c ≡ true
  register-by t (Some d) (Some q) (Some r) (Some save) (Some restore) c e =
      one (is_usable c) _
      (other (is_mapped (l.of_strategy t) c) (fits_register (record { source = d; primary = q; retention = r; save = save.1; restore = restore.1; one_signal = same_node save.0 restore.0; mapped = l.of_strategy t }) c)
      (fits-chosen (λ k. is_mapped (l.of_strategy t) k && fits_register (record { source = d; primary = q; retention = r; save = save.1; restore = restore.1; one_signal = same_node save.0 restore.0; mapped = l.of_strategy t }) k) p.structure.cells c e))
  register-by t None q r save restore c e = absurd cc
  register-by t (Some d) None r save restore c e = absurd cc
  register-by t (Some d) (Some q) None save restore c e = absurd cc
  register-by t (Some d) (Some q) (Some r) None restore c e = absurd cc
  register-by t (Some d) (Some q) (Some r) (Some save) None c e = absurd cc

  chosen-none : (a : Placed) → retention_winner p.intent a.path a.instance ≡ None → register_chosen p l a ≡ None
  chosen-none a e = rw (e) refl

  chosen-some : (a : Placed) (t : ℕ × Strategy) → retention_winner p.intent a.path a.instance ≡ Some t
      → register_chosen p l a ≡ register_by p l t.0 (cell_of p.structure a) (primary_at p a.path) (functions_of p t.1.supply) t.1.save t.1.restore
  chosen-some a t e = rw (e) refl

  pub register-usable : (a : Placed) (c : CellView) → cell_numbered p (register_chosen p l a) ≡ Some c → is_usable c ≡ true
  register-usable a c e = by (retention_winner p.intent a.path a.instance) refl
    where
      by : (o : Option (ℕ × Strategy)) → retention_winner p.intent a.path a.instance ≡ o → is_usable c ≡ true
      by None g = let none : None ≡ Some c = sym (ap (cell_numbered p) (chosen-none a g)) ∙ e in absurd cc
      by (Some t) g =
          register-by t.0 (cell_of p.structure a) (primary_at p a.path) (functions_of p t.1.supply) t.1.save t.1.restore c
          (sym (ap (cell_numbered p) (chosen-some a t g)) ∙ e)
