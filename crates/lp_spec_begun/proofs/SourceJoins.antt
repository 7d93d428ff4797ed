-- To what the power and ground pins of the cells that stand for those of the source are joined.
use Rattle.std.proofs.Common.{◌≡◌, ℕ, Bool, true, false, ◌&&◌, List, [], ◌∷◌, Option, Some, None, inl, inr, refl, sym, ap, ◌∙◌}
use Rattle.std.specs.Prelude.{is_some, option_and_then, if◌then◌else◌}
use Rattle.std.specs.List.{list_all}
use Rattle.std.proofs.lemmas.Bool.{false≢true, true≢false}
use Rattle.lp_model.specs.declared.reason.Reason.{Reason}
use Rattle.lp_model.specs.declared.library.PgKind.{PgKind}
use Rattle.lp_model.specs.declared.library.PgKind.TheVariants as kinds
use Rattle.lp_model.specs.declared.fault.netlist.UnfitReason.{UnfitReason}
use Rattle.lp_model.specs.declared.fault.netlist.UnfitReason.TheVariants as unfit
use Rattle.lp_model.specs.declared.supply.SetOrigins.{SetOrigins}
use Rattle.lp_model.specs.LibraryView.{PgPinView, StateView, CellView}
use Rattle.lp_spec_design.specs.Keys.{same_node}
use Rattle.lp_spec_design.specs.Netlists.{first}
use Rattle.lp_spec_design.specs.Instances.{Placed, cell_instances}
use Rattle.lp_spec_design.specs.Graph.{numbered}
use Rattle.lp_spec_design.specs.Intents.{Strategy}
use Rattle.lp_spec_design.specs.Registers.{retention}
use Rattle.lp_spec_design.specs.Reads.{other, one}
use Rattle.lp_spec_design.specs.Winners.{IsIn}
use Rattle.lp_spec_design.proofs.Members.{in-map, in-flat, of-numbered}
use Rattle.lp_spec_pins.specs.Pins.{is_input_pin}
use Rattle.lp_spec_fit.specs.Joins.{Joins, by_kind, source_joins, register_joins, all_joined}
use Rattle.lp_spec_fit.specs.Needs.{RegisterNeed}
use Rattle.lp_spec_fit.specs.PowerDown.{outputs_need, state_needs}
use Rattle.lp_spec_fit.specs.Fits.{is_usable, only_retains, has_exactly_pins_of, same_state, retention_pins, plain_pins, controls_match, copy_needs, relates_by, is_primary, is_primary_or_backup, fits_register}
use Rattle.lp_spec_faults.specs.Modules.{instances_of, all_instances, is_backup, is_internal, has_kind, unfit_reason, unfit_cell}
use Rattle.lp_spec_faults.specs.Readings.{is_unfit_by, unfit_power}
use Rattle.lp_spec_realises.specs.Projects.{Project, functions_of}
use Rattle.lp_spec_realises.specs.Implements.{Lists, is_retained}
use Rattle.lp_spec_realises.specs.Realises.{cell_of, primary_at, plain_joins, kept_joins, joins_by, joins_of_source}
use Rattle.lp_spec_written.specs.Places.{Kept}
use Rattle.lp_spec_written_at.proofs.Lists.{all-of, any-none}
use Rattle.lp_spec_written_at.proofs.Modules.{from-modules}
use Rattle.lp_spec_begun.specs.Begun.{HasSupplies}
use Rattle.lp_spec_begun.proofs.CellInstances.{IsCellInstance}
use Rattle.lp_spec_begun.proofs.Registers.{FitsPlace}

-- ---- lines that hold nowhere

nowhere : {A : Type 0} (t : A → Bool) (xs : List A) (x : A) → first t xs ≡ None → IsIn x xs → t x ≡ false
nowhere t [] x e h = absurd h
nowhere t (y ∷ xs) x e h = by (t y) refl e h (λ f g. nowhere t xs x f g)
  where
    by : (b : Bool) → t y ≡ b → (if b then Some y else first t xs) ≡ None → IsIn x (y ∷ xs) → (first t xs ≡ None → IsIn x xs → t x ≡ false) → t x ≡ false
    by true f g r more = absurd cc
    by false f g (inl is) more = ap t is ∙ f
    by false f g (inr r) more = more g r

-- ---- a cell that a source may have has neither backup nor internal pins

chain : (a b c d e : Bool) (q r s t u : UnfitReason)
    → is_some (if a then Some q else if b then Some r else if c then Some s else if d then Some t else if e then Some u else None) ≡ false → (d ≡ false) × (e ≡ false)
chain true b c d e q r s t u h = absurd (true≢false h)
chain false true c d e q r s t u h = absurd (true≢false h)
chain false false true d e q r s t u h = absurd (true≢false h)
chain false false false true e q r s t u h = absurd (true≢false h)
chain false false false false true q r s t u h = absurd (true≢false h)
chain false false false false false q r s t u h = (refl, refl)

reason-there : (c : CellView) (r : Reason) → c.unusable ≡ Some r → is_some (unfit_reason c) ≡ true
reason-there c r e = rw (e) refl

reason-by : (c : CellView) → c.unusable ≡ None
    → unfit_reason c
    ≡ (if is_some c.roles.shifter then Some unfit.Shifter else if is_some c.roles.retention then Some unfit.RetentionCell else if c.roles.switch then Some unfit.SwitchCell else if has_kind is_backup c then Some unfit.Backup else if has_kind is_internal c then Some unfit.Internal else None)
reason-by c e = rw (e) refl

fit-kinds : (c : CellView) → is_some (unfit_reason c) ≡ false → (has_kind is_backup c ≡ false) × (has_kind is_internal c ≡ false)
fit-kinds c e = by c.unusable refl
  where
    by : (o : Option Reason) → c.unusable ≡ o → (has_kind is_backup c ≡ false) × (has_kind is_internal c ≡ false)
    by (Some r) g = absurd (true≢false (sym (reason-there c r g) ∙ e))
    by None g =
        chain (is_some c.roles.shifter) (is_some c.roles.retention) c.roles.switch (has_kind is_backup c) (has_kind is_internal c) unfit.Shifter unfit.RetentionCell unfit.SwitchCell unfit.Backup unfit.Internal
        (ap (λ r. is_some r) (sym (reason-by c g)) ∙ e)

plain-kind : (n : ℕ) (s : SetOrigins) (k : PgKind) → is_backup k ≡ false → is_internal k ≡ false → is_some (by_kind (Some n) None s k) ≡ true
plain-kind n s kinds.PrimaryPower h g = refl
plain-kind n s kinds.BackupPower h g = absurd (true≢false h)
plain-kind n s kinds.InternalPower h g = absurd (true≢false g)
plain-kind n s kinds.PrimaryGround h g = refl
plain-kind n s kinds.BackupGround h g = refl
plain-kind n s kinds.InternalGround h g = refl
plain-kind n s kinds.Nwell h g = refl
plain-kind n s kinds.Pwell h g = refl
plain-kind n s kinds.Deepnwell h g = refl
plain-kind n s kinds.Deeppwell h g = refl

all-plain : (c : CellView) (s : SetOrigins) → is_some (unfit_reason c) ≡ false → all_joined c (source_joins s) ≡ true
all-plain c s e =
    let kinds_fit = fit-kinds c e in
    all-of (λ (v : ℕ × PgPinView). is_some (source_joins s v.0 v.1)) (numbered 0 c.pgs)
    (λ g t.
    let listed = of-numbered 0 g c.pgs t in
    plain-kind s.power.0 s g.1.kind (any-none (λ (v : PgPinView). is_backup v.kind) g.1 c.pgs kinds_fit.0 listed) (any-none (λ (v : PgPinView). is_internal v.kind) g.1 c.pgs kinds_fit.1 listed))

-- ---- a register's cell has a state

state-there : (c d : CellView) (g h : Option StateView) → same_state c d g h ≡ true → is_some h ≡ true
state-there c d (Some g) (Some h) e = refl
state-there c d (Some g) None e = absurd (false≢true e)
state-there c d None h e = absurd (false≢true e)

record FitsAll (n : RegisterNeed) (c : CellView) : Type 0 where
  state : is_some c.state ≡ true
  joined : all_joined c (register_joins n.primary n.retention) ≡ true

fits-all : (n : RegisterNeed) (c : CellView) → fits_register n c ≡ true → FitsAll n c
fits-all n c e =
    let join : Joins = register_joins n.primary n.retention in
    let states = other (has_exactly_pins_of n.source c) _ (other (only_retains c.roles) _ (other (is_usable c) _ e)) in
    record {
      state = state-there n.source c n.source.state c.state (one (same_state n.source c n.source.state c.state) _ states);
      joined =
          other (list_all (relates_by is_primary_or_backup c) (retention_pins c)) _
          (other (list_all (relates_by is_primary c) (plain_pins c)) _
          (other (copy_needs n c join) _
          (other (state_needs c join n.primary) _
          (other (outputs_need c join n.primary) _
          (other (controls_match n (retention_pins c)) _
          (other (list_all is_input_pin (retention_pins c)) _
          (other (same_state n.source c n.source.state c.state) _ states)))))));
    }

-- ---- each cell that stands for one of the source

pub record HasJoins (p : Project) (a : Placed) (d : CellView) : Type 0 where
  pub join : Joins
  pub join_is : joins_of_source p a d ≡ Some join
  pub joined : all_joined d join ≡ true

joins-plain : (p : Project) (primary : Option SetOrigins) (t : Option Strategy) (b : Bool) → (is_some t && b) ≡ false → joins_by p primary t b ≡ plain_joins primary
joins-plain p primary None b e = refl
joins-plain p primary (Some t) true e = absurd (true≢false e)
joins-plain p primary (Some t) false e = refl

module _ (p : Project) (l : Lists) (supplies : HasSupplies p l) (place : Placed) (there : IsIn place (cell_instances p.structure)) (i : IsCellInstance p place) where
  abbrev at_path : Placed
  at_path = record { path = i.path; instance = i.y.name }

  fit-there : is_some (unfit_reason i.c) ≡ false
  fit-there =
      sym (ap (λ o. is_some (option_and_then unfit_reason o)) i.named)
      ∙ nowhere (unfit_cell p.structure).test (all_instances p.structure) (record { parent = i.m; instance = i.y }) supplies.cells_fit
      (in-flat instances_of i.m (record { parent = i.m; instance = i.y }) p.structure.modules (from-modules p.structure i.path i.m i.at) (in-map (λ z. record { parent = i.m; instance = z }) i.y i.m.instances i.listed))

  powered : is_unfit_by (primary_at p i.path) (cell_of p.structure at_path) ≡ false
  powered = ap (λ (z : Placed). is_unfit_by (primary_at p z.path) (cell_of p.structure z)) (sym i.is) ∙ nowhere (unfit_power p).test (cell_instances p.structure) place supplies.unfit_power there

  has-primary : (o : Option SetOrigins) (c : Option CellView) → is_unfit_by o c ≡ false → is_some o ≡ true
  has-primary (Some s) c e = refl
  has-primary None c e = absurd (true≢false e)

  -- one that stands by itself
  pub own-joins : is_retained p at_path ≡ false → HasJoins p at_path i.c
  own-joins plain = by (primary_at p i.path) refl (has-primary (primary_at p i.path) (cell_of p.structure at_path) powered)
    where
      state : is_retained p at_path ≡ (is_some (retention p.intent i.path i.y.name) && is_some i.c.state)
      state = ap (λ o. is_some (retention p.intent i.path i.y.name) && is_some (option_and_then (λ (k : CellView). k.state) o)) i.cell

      by : (o : Option SetOrigins) → primary_at p i.path ≡ o → is_some (primary_at p i.path) ≡ true → HasJoins p at_path i.c
      by None e s = absurd (false≢true (sym (ap (λ r. is_some r) e) ∙ s))
      by (Some s) e some = record {
        join = source_joins s;
        join_is = joins-plain p (primary_at p i.path) (retention p.intent i.path i.y.name) (is_some i.c.state) (sym state ∙ plain) ∙ ap plain_joins e;
        joined = all-plain i.c s fit-there;
      }

  -- a register with retention
  pub kept-joins-of : (k : Kept) (d : CellView) → retention p.intent i.path i.y.name ≡ Some k.strategy → FitsPlace p at_path i.c k.strategy d → HasJoins p at_path d
  kept-joins-of k d t fit =
      let need : RegisterNeed = record { source = i.c; primary = fit.primary; retention = fit.retention; save = fit.save.1; restore = fit.restore.1; one_signal = same_node fit.save.0 fit.restore.0; mapped = None } in
      let all = fits-all need d fit.fits in
      record {
        join = register_joins fit.primary fit.retention;
        join_is =
            ap (λ o. joins_by p (primary_at p i.path) o (is_some d.state)) t
            ∙ (ap (λ b. if b then kept_joins (primary_at p i.path) (functions_of p k.strategy.supply) else plain_joins (primary_at p i.path)) all.state
            ∙ (ap (λ o. kept_joins o (functions_of p k.strategy.supply)) fit.primary_is ∙ ap (kept_joins (Some fit.primary)) fit.retention_is));
        joined = all.joined;
      }
