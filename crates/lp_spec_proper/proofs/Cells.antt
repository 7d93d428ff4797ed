-- The cells of a plan fit what they were chosen for, those of the source are none that a source may not have, and all of them are sound.
use Rattle.std.proofs.Common.{◌≡◌, ℕ, Bool, true, false, ◌&&◌, Option, Some, None, refl, sym, ap, ◌∙◌, subst}
use Rattle.std.specs.Prelude.{filter, is_some, if◌then◌else◌, option_and_then, slice_get}
use Rattle.std.proofs.lemmas.Bool.{true≢false, false≢true, and_parts, not-true}
use Rattle.lp_model.specs.declared.library.Action.{Action}
use Rattle.lp_model.specs.declared.library.PgKind.{PgKind}
use Rattle.lp_model.specs.declared.library.PgKind.TheVariants as kinds
use Rattle.lp_model.specs.declared.reason.Reason.{Reason}
use Rattle.lp_model.specs.declared.supply.SetOrigins.{SetOrigins}
use Rattle.lp_model.specs.NetlistView.{InstanceView, ModuleView}
use Rattle.lp_model.specs.LibraryView.{PgPinView, CellView}
use Rattle.lp_spec_design.specs.Keys.{Path, Node, same_node}
use Rattle.lp_spec_design.specs.Netlists.{Structure, module_at, cell_named}
use Rattle.lp_spec_design.specs.Instances.{Placed, cell_instances}
use Rattle.lp_spec_design.specs.Intents.{Strategy}
use Rattle.lp_spec_design.specs.Chains.{Operator, Clamp, Shift}
use Rattle.lp_spec_design.specs.Registers.{retention, retention_winner}
use Rattle.lp_spec_design.specs.Winners.{IsIn}
use Rattle.lp_spec_design.proofs.Members.{in-flat, in-map, any-in, of-some, of-filter}
use Rattle.lp_spec_design.proofs.Sources.{then_is}
use Rattle.lp_spec_network.specs.Pairs.{pairs_of}
use Rattle.lp_spec_fit.specs.Choice.{is_mapped}
use Rattle.lp_spec_fit.specs.Needs.{RegisterNeed}
use Rattle.lp_spec_fit.specs.Fits.{is_usable, fits_clamp, fits_shifter, fits_register, fits_switch}
use Rattle.lp_spec_realises.specs.Projects.{Project, functions_of, on_expression}
use Rattle.lp_spec_realises.specs.Operators.{SwitchAt}
use Rattle.lp_spec_realises.specs.Realises.{cell_of, primary_at}
use Rattle.lp_spec_realises.specs.Implements.{Lists, clamp_chosen, shifter_chosen, operator_chosen, switch_chosen, register_by, register_chosen, is_retained}
use Rattle.lp_spec_faults.specs.Modules.{InstanceAt, instances_of, all_instances, is_internal, has_kind, unfit_reason, unfit_cell}
use Rattle.lp_spec_agreement.specs.Faultless.{is_internal as is_internal_pin, IsSoundCell}
use Rattle.lp_spec_agreement.proofs.Framed.{no_fault, cell_in}
use Rattle.lp_spec_faultless.specs.Faults.{IsRead}
use Rattle.lp_spec_written.specs.Places.{Kept, kept_by, kept, cell_numbered, plan}
use Rattle.lp_spec_written_at.proofs.Modules.{from-modules}
use Rattle.lp_spec_written_at.proofs.Usable.{fits-chosen, operator-usable, switch-usable, register-usable}
use Rattle.lp_spec_written_at.proofs.Lists.{in-slice}
use Rattle.lp_spec_driven.specs.Sound.{SwitchesNothing}
use Rattle.lp_spec_proper.specs.Insertable.{IsInsertable}
use Rattle.lp_spec_proper.proofs.Fitting.{not-switched, IsOperatorCell, clamp-cell, shifter-cell}

-- ---- cells of the source

unusable-by : (c : CellView) (o : Option Reason) → c.unusable ≡ o → is_some (unfit_reason c) ≡ false → o ≡ None
unusable-by c None e h = refl
unusable-by c (Some r) e h = absurd (false≢true (sym h ∙ rw e refl))

if-none : {A : Type 0} (b : Bool) (x : A) (o : Option A) → is_some (if b then Some x else o) ≡ false → (b ≡ false) × (is_some o ≡ false)
if-none true x o e = absurd (true≢false e)
if-none false x o e = (refl, e)

-- a cell that a source may have can be used, and no pin of it is internal
pub record IsSourceCell (c : CellView) : Type 0 where
  pub usable : c.unusable ≡ None
  pub shifter : is_some c.roles.shifter ≡ false
  pub retention : is_some c.roles.retention ≡ false
  pub switch : c.roles.switch ≡ false
  pub internal : has_kind is_internal c ≡ false

source-by : (c : CellView) → c.unusable ≡ None → is_some (unfit_reason c) ≡ false → IsSourceCell c
source-by c usable e =
    let first = if-none (is_some c.roles.shifter) _ _ (rw usable at e) in
    let second = if-none (is_some c.roles.retention) _ _ first.1 in
    let third = if-none c.roles.switch _ _ second.1 in
    let fourth = if-none _ _ _ third.1 in
    let fifth = if-none (has_kind is_internal c) _ _ fourth.1 in
    record { usable = usable; shifter = first.0; retention = second.0; switch = third.0; internal = fifth.0 }

not-internal : (g : PgPinView) → is_internal g.kind ≡ false → is_internal_pin g ≡ false
not-internal g e = by g.kind refl
  where
    by : (k : PgKind) → g.kind ≡ k → is_internal_pin g ≡ false
    by kinds.PrimaryPower is = rw is refl
    by kinds.PrimaryGround is = rw is refl
    by kinds.BackupPower is = rw is refl
    by kinds.BackupGround is = rw is refl
    by kinds.InternalPower is = absurd (true≢false (sym (ap is_internal is) ∙ e))
    by kinds.InternalGround is = rw is refl
    by kinds.Nwell is = rw is refl
    by kinds.Pwell is = rw is refl
    by kinds.Deepnwell is = rw is refl
    by kinds.Deeppwell is = rw is refl

none-kind : (c : CellView) → has_kind is_internal c ≡ false → (g : PgPinView) → IsIn g c.pgs → is_internal g.kind ≡ false
none-kind c e g h = by (is_internal g.kind) refl
  where
    by : (b : Bool) → is_internal g.kind ≡ b → b ≡ false
    by false is = refl
    by true is = absurd (true≢false (sym (any-in (λ (t : PgPinView). is_internal t.kind) g c.pgs h is) ∙ e))

-- ---- what a plan has

-- a register with retention, with the cell that was chosen for it
pub record IsKept (p : Project) (l : Lists) (k : Kept) : Type 0 where
  pub listed : IsIn k.place (cell_instances p.structure)
  pub retained : is_retained p k.place ≡ true
  pub strategy : retention p.intent k.place.path k.place.instance ≡ Some k.strategy
  pub cell : cell_numbered p (register_chosen p l k.place) ≡ Some k.cell

record IsKeptAt (p : Project) (l : Lists) (a : Placed) (t : Option Strategy) (k : Kept) : Type 0 where
  place : k.place ≡ a
  strategy : t ≡ Some k.strategy
  cell : cell_numbered p (register_chosen p l a) ≡ Some k.cell

kept-at : (p : Project) (l : Lists) (a : Placed) (t : Option Strategy) (k : Kept) → kept_by p l a t ≡ Some k → IsKeptAt p l a t k
kept-at p l a None k e = absurd cc
kept-at p l a (Some t) k e =
    let found = then_is (λ c. Some (record { place = a; strategy = t; cell = c })) (cell_numbered p (register_chosen p l a)) k e in
    inside found.0 found.1 (record { place = a; strategy = t; cell = found.0 }) refl refl refl found.2
  where
    inside : (c : CellView) → cell_numbered p (register_chosen p l a) ≡ Some c → (r : Kept) → r.place ≡ a → r.strategy ≡ t → r.cell ≡ c → Some r ≡ Some k → IsKeptAt p l a (Some t) k
    inside c chosen r one two three same =
        let is : r ≡ k = cc in
        record {
          place = ap (λ (q : Kept). q.place) (sym is) ∙ one;
          strategy = ap (λ q. Some q) (sym two ∙ ap (λ (q : Kept). q.strategy) is);
          cell = chosen ∙ ap (λ q. Some q) (sym three ∙ ap (λ (q : Kept). q.cell) is);
        }

pub is-kept : (p : Project) (l : Lists) (k : Kept) → IsIn k (plan p l).registers → IsKept p l k
is-kept p l k h =
    let found = of-some (kept p l) k (filter (is_retained p) (cell_instances p.structure)) h in
    let from = of-filter (is_retained p) found.0 (cell_instances p.structure) found.1 in
    let at = kept-at p l found.0 (retention p.intent found.0.path found.0.instance) k found.2 in
    record {
      listed = subst (λ a. IsIn a (cell_instances p.structure)) (sym at.place) from.0;
      retained = subst (λ a. is_retained p a ≡ true) (sym at.place) from.1;
      strategy = subst (λ (a : Placed). retention p.intent a.path a.instance ≡ Some k.strategy) (sym at.place) at.strategy;
      cell = subst (λ a. cell_numbered p (register_chosen p l a) ≡ Some k.cell) (sym at.place) at.cell;
    }

pub in-library : (p : Project) (k : Option ℕ) (c : CellView) → cell_numbered p k ≡ Some c → IsIn c p.structure.cells
in-library p k c e = let found = then_is (slice_get p.structure.cells) k c e in in-slice p.structure.cells found.0 c found.2

-- ---- what was chosen fits

module _ (p : Project) (l : Lists) where
  clamp-chosen : (path : Path) (t : ℕ) (s q : Option SetOrigins) (r : Option Strategy) (c : CellView) → cell_numbered p (clamp_chosen p l path t s q r) ≡ Some c → IsOperatorCell c
  clamp-chosen path t (Some s) (Some q) (Some r) c e =
      clamp-cell (record { supply = s; place = q; clamp = r.clamp; high = r.high; mapped = l.of_strategy t }) c
      (and_parts (is_mapped (l.of_strategy t) c) _
      (fits-chosen (λ k. is_mapped (l.of_strategy t) k && fits_clamp (record { supply = s; place = q; clamp = r.clamp; high = r.high; mapped = l.of_strategy t }) k) p.structure.cells c e)).1
  clamp-chosen path t None q r c e = absurd cc
  clamp-chosen path t (Some s) None r c e = absurd cc
  clamp-chosen path t (Some s) (Some q) None c e = absurd cc

  shifter-chosen : (t : ℕ) (a b : Option SetOrigins) (c : CellView) → cell_numbered p (shifter_chosen p l t a b) ≡ Some c → IsOperatorCell c
  shifter-chosen t (Some a) (Some b) c e =
      shifter-cell (record { input = a; output = b; pairs = pairs_of p.supplies a.power.0 b.power.0; margin = p.margin; mapped = l.of_strategy t }) c
      (and_parts (is_mapped (l.of_strategy t) c) _
      (fits-chosen (λ k. is_mapped (l.of_strategy t) k && fits_shifter (record { input = a; output = b; pairs = pairs_of p.supplies a.power.0 b.power.0; margin = p.margin; mapped = l.of_strategy t }) k) p.structure.cells c e)).1
  shifter-chosen t None b c e = absurd cc
  shifter-chosen t (Some a) None c e = absurd cc

  pub operator-chosen : (path : Path) (o : Operator) (c : CellView) → cell_numbered p (operator_chosen p l path o) ≡ Some c → IsOperatorCell c
  operator-chosen path (Clamp t i) c e = clamp-chosen path t (functions_of p (Some i)) (primary_at p path) (slice_get p.intent.strategies t) c e
  operator-chosen path (Shift t a b) c e = shifter-chosen t (functions_of p (Some a)) (functions_of p (Some b)) c e

  pub switch-chosen : (x : SwitchAt) (c : CellView) → cell_numbered p (switch_chosen p l x) ≡ Some c → fits_switch (record { on = on_expression x.high; mapped = l.of_switch x.origin }) c ≡ true
  switch-chosen x c e =
      (and_parts (is_mapped (l.of_switch x.origin) c) _
      (fits-chosen (λ k. is_mapped (l.of_switch x.origin) k && fits_switch (record { on = on_expression x.high; mapped = l.of_switch x.origin }) k) p.structure.cells c e)).1

  -- it fits the register of this cell
  abbrev pub FitsFor : CellView → CellView → Type 0
  FitsFor c d = (n : RegisterNeed) × (n.source ≡ c) × (fits_register n d ≡ true)

  chosen-for : (t : ℕ) (o : Option CellView) (q r : Option SetOrigins) (save restore : Option (Node × Action)) (c d : CellView)
      → o ≡ Some c → cell_numbered p (register_by p l t o q r save restore) ≡ Some d → FitsFor c d
  chosen-for t (Some b) (Some q) (Some r) (Some save) (Some restore) c d is e =
      let n : RegisterNeed = record { source = b; primary = q; retention = r; save = save.1; restore = restore.1; one_signal = same_node save.0 restore.0; mapped = l.of_strategy t } in
      let same : b ≡ c = cc in (
        n,
        same,
        (and_parts (is_mapped (l.of_strategy t) d) _
            (fits-chosen (λ k. is_mapped (l.of_strategy t) k && fits_register (record { source = b; primary = q; retention = r; save = save.1; restore = restore.1; one_signal = same_node save.0 restore.0; mapped = l.of_strategy t }) k) p.structure.cells d e)).1,
      )
  chosen-for t None q r save restore c d is e = absurd cc
  chosen-for t (Some b) None r save restore c d is e = absurd cc
  chosen-for t (Some b) (Some q) None save restore c d is e = absurd cc
  chosen-for t (Some b) (Some q) (Some r) None restore c d is e = absurd cc
  chosen-for t (Some b) (Some q) (Some r) (Some save) None c d is e = absurd cc

  chosen-none : (a : Placed) → retention_winner p.intent a.path a.instance ≡ None → register_chosen p l a ≡ None
  chosen-none a e = rw (e) refl

  chosen-some : (a : Placed) (t : ℕ × Strategy) → retention_winner p.intent a.path a.instance ≡ Some t
      → register_chosen p l a ≡ register_by p l t.0 (cell_of p.structure a) (primary_at p a.path) (functions_of p t.1.supply) t.1.save t.1.restore
  chosen-some a t e = rw (e) refl

  pub register-chosen : (a : Placed) (c d : CellView) → cell_of p.structure a ≡ Some c → cell_numbered p (register_chosen p l a) ≡ Some d → FitsFor c d
  register-chosen a c d is e = by (retention_winner p.intent a.path a.instance) refl
    where
      by : (o : Option (ℕ × Strategy)) → retention_winner p.intent a.path a.instance ≡ o → FitsFor c d
      by None g = let none : None ≡ Some d = sym (ap (cell_numbered p) (chosen-none a g)) ∙ e in absurd cc
      by (Some t) g = chosen-for t.0 (cell_of p.structure a) (primary_at p a.path) (functions_of p t.1.supply) t.1.save t.1.restore c d is (sym (ap (cell_numbered p) (chosen-some a t g)) ∙ e)

-- ---- sound cells

usable-none : (c : CellView) → is_usable c ≡ true → c.unusable ≡ None
usable-none c e = by c.unusable (not-true (is_some c.unusable) e)
  where
    by : (o : Option Reason) → is_some o ≡ false → o ≡ None
    by None f = refl
    by (Some r) f = absurd (true≢false f)

module _ (p : Project) (l : Lists) (switch_command : ℕ → ℕ) (read : IsRead p) (good : IsInsertable p l switch_command) where
  abbrev s : Structure
  s = p.structure

  pub sound-usable : (c : CellView) → IsIn c s.cells → is_usable c ≡ true → IsSoundCell c
  sound-usable c h e = read.library c h (usable-none c e)

  pub operator-sound : (path : Path) (o : Operator) (c : CellView) → cell_numbered p (operator_chosen p l path o) ≡ Some c → IsSoundCell c
  operator-sound path o c e = sound-usable c (in-library p (operator_chosen p l path o) c e) (operator-usable p l path o c e)

  pub register-sound : (a : Placed) (c : CellView) → cell_numbered p (register_chosen p l a) ≡ Some c → IsSoundCell c
  register-sound a c e = sound-usable c (in-library p (register_chosen p l a) c e) (register-usable p l a c e)

  pub switch-sound : (x : SwitchAt) (c : CellView) → cell_numbered p (switch_chosen p l x) ≡ Some c → IsSoundCell c
  switch-sound x c e = sound-usable c (in-library p (switch_chosen p l x) c e) (switch-usable p l x c e)

  pub source-cell : (x : Path) (m : ModuleView) (y : InstanceView) (c : CellView) → module_at s x ≡ Some m → IsIn y m.instances → cell_named s y.target ≡ Some c → IsSourceCell c
  source-cell x m y c e h target =
      let place : InstanceAt = record { parent = m; instance = y } in
      let there : IsIn place (all_instances s) = in-flat instances_of m place s.modules (from-modules s x m e) (in-map (λ (i : InstanceView). record { parent = m; instance = i }) y m.instances h) in
      let none : is_some (unfit_reason c) ≡ false = ap (λ o. is_some (option_and_then unfit_reason o)) (sym target) ∙ no_fault (unfit_cell s) good.values.cells_fit place there in
      source-by c (unusable-by c c.unusable refl none) none

  pub source-sound : (x : Path) (m : ModuleView) (y : InstanceView) (c : CellView) → module_at s x ≡ Some m → IsIn y m.instances → cell_named s y.target ≡ Some c → IsSoundCell c
  source-sound x m y c e h target = read.library c (cell_in s y.target c target) (source-cell x m y c e h target).usable

  pub source-nothing : (x : Path) (m : ModuleView) (y : InstanceView) (c : CellView) → module_at s x ≡ Some m → IsIn y m.instances → cell_named s y.target ≡ Some c → SwitchesNothing c
  source-nothing x m y c e h target =
      not-switched c (source-sound x m y c e h target) (λ g there. not-internal g (none-kind c (source-cell x m y c e h target).internal g there))
