-- A register with retention in the plan: its strategy and the cell that takes its place.
use Rattle.std.proofs.Common.{◌≡◌, Bool, true, false, Option, Some, None, refl, sym, ap, ◌∙◌}
use Rattle.std.specs.Prelude.{is_some, option_and_then, filter, bytes_eq, if◌then◌else◌}
use Rattle.lp_model.specs.declared.library.Action.{Action}
use Rattle.lp_model.specs.declared.supply.SetOrigins.{SetOrigins}
use Rattle.lp_model.specs.LibraryView.{CellView}
use Rattle.lp_spec_design.specs.Keys.{Node, same_node}
use Rattle.lp_spec_design.specs.Netlists.{Structure}
use Rattle.lp_spec_design.specs.Instances.{Placed, cell_instances}
use Rattle.lp_spec_design.specs.Intents.{Strategy}
use Rattle.lp_spec_design.specs.Registers.{retention}
use Rattle.lp_spec_design.specs.Winners.{IsIn}
use Rattle.lp_spec_design.specs.Reads.{one, other}
use Rattle.lp_spec_design.proofs.Members.{of-filter, of-some}
use Rattle.lp_spec_design.proofs.Sources.{then_is, first_in}
use Rattle.lp_spec_fit.specs.Fits.{fits_register}
use Rattle.lp_spec_realises.specs.Projects.{Project, functions_of}
use Rattle.lp_spec_realises.specs.Realises.{cell_of, primary_at, register_fits, takes_place, passed_by, same_placed, source_cell_stands}
use Rattle.lp_spec_realises.specs.Implements.{Lists, register_chosen, is_retained}
use Rattle.lp_spec_written.specs.Places.{Kept, cell_numbered, kept_by, kept, plan}
use Rattle.lp_spec_written.specs.Supplies.{kept_at}
use Rattle.lp_spec_written_at.proofs.SourceCells.{placed-true, placed-self, in-filter}
use Rattle.lp_spec_written_at.specs.Sources.{HasRegisterCells}
use Rattle.lp_spec_written_at.proofs.Lists.{in-some, some-first}
use Rattle.lp_spec_written_at.proofs.Paths.{some-is}
use Rattle.std.proofs.lemmas.Bool.{true≢false}

module _ (p : Project) (l : Lists) where
  pub record IsKept (a : Placed) (k : Kept) : Type 0 where
    pub place : k.place ≡ a
    pub strategy : retention p.intent a.path a.instance ≡ Some k.strategy

  kept-is : (a : Placed) (t : Option Strategy) (k : Kept) → retention p.intent a.path a.instance ≡ t → kept_by p l a t ≡ Some k → IsKept a k
  kept-is a None k g e = absurd cc
  kept-is a (Some t) k g e =
      let found = then_is (λ c. Some (record { place = a; strategy = t; cell = c })) (cell_numbered p (register_chosen p l a)) k e in
      inside (record { place = a; strategy = t; cell = found.0 }) refl refl found.2
    where
      inside : (r : Kept) → r.place ≡ a → r.strategy ≡ t → Some r ≡ Some k → IsKept a k
      inside r one two same =
          let is : r ≡ k = cc in
          record { place = ap (λ (q : Kept). q.place) (sym is) ∙ one; strategy = g ∙ ap (λ q. Some q) (sym two ∙ ap (λ (q : Kept). q.strategy) is) }

  pub record IsRegister (a : Placed) (k : Kept) : Type 0 where
    pub strategy : retention p.intent a.path a.instance ≡ Some k.strategy
    pub retained : is_retained p a ≡ true
    pub among : IsIn k (plan p l).registers
    pub place : k.place ≡ a

  pub is-register : (a : Placed) (k : Kept) → kept_at (plan p l) a ≡ Some k → IsRegister a k
  is-register a k e =
      let there = first_in (λ (r : Kept). same_placed r.place a) (plan p l).registers k e in
      let place : k.place ≡ a = placed-true k.place a there.1 in
      let found = of-some (kept p l) k (filter (is_retained p) (cell_instances p.structure)) there.0 in
      let its = kept-is found.0 (retention p.intent found.0.path found.0.instance) k refl found.2 in
      let same : found.0 ≡ a = sym its.place ∙ place in
      record {
        strategy = ap (λ (b : Placed). retention p.intent b.path b.instance) (sym same) ∙ its.strategy;
        retained = ap (is_retained p) (sym same) ∙ (of-filter (is_retained p) found.0 (cell_instances p.structure) found.1).1;
        among = there.0;
        place = place;
      }

-- the cell that takes the place of a register fits
pub record FitsPlace (p : Project) (a : Placed) (c : CellView) (t : Strategy) (d : CellView) : Type 0 where
  pub primary : SetOrigins
  pub retention : SetOrigins
  pub save : Node × Action
  pub restore : Node × Action
  pub primary_is : primary_at p a.path ≡ Some primary
  pub retention_is : functions_of p t.supply ≡ Some retention
  pub save_is : t.save ≡ Some save
  pub restore_is : t.restore ≡ Some restore
  pub fits : fits_register (record { source = c; primary = primary; retention = retention; save = save.1; restore = restore.1; one_signal = same_node save.0 restore.0; mapped = None }) d ≡ true

fits-place : (p : Project) (a : Placed) (c : CellView) (t : Strategy) (d : CellView) (q r : Option SetOrigins) (save restore : Option (Node × Action))
    → primary_at p a.path ≡ q → functions_of p t.supply ≡ r → t.save ≡ save → t.restore ≡ restore → register_fits c q r save restore d ≡ true → FitsPlace p a c t d
fits-place p a c t d (Some q) (Some r) (Some save) (Some restore) e f g h fits = record {
  primary = q;
  retention = r;
  save = save;
  restore = restore;
  primary_is = e;
  retention_is = f;
  save_is = g;
  restore_is = h;
  fits = fits;
}
fits-place p a c t d None r save restore e f g h fits = absurd cc
fits-place p a c t d (Some q) None save restore e f g h fits = absurd cc
fits-place p a c t d (Some q) (Some r) None restore e f g h fits = absurd cc
fits-place p a c t d (Some q) (Some r) (Some save) None e f g h fits = absurd cc

pub register-fits : (p : Project) (l : Lists) (w : Structure) (a : Placed) (c d : CellView) (k : Kept) → cell_of p.structure a ≡ Some c → cell_of w a ≡ Some d → kept_at (plan p l) a ≡ Some k
    → source_cell_stands p w a ≡ true → FitsPlace p a c k.strategy d
register-fits p l w a c d k e g at stands =
    let is = is-register p l a k at in
    let state : is_some c.state ≡ true = sym (ap (λ o. is_some (option_and_then (λ (v : CellView). v.state) o)) e) ∙ other (is_some (retention p.intent a.path a.instance)) _ is.retained in
    let place : takes_place p a (Some k.strategy) (Some c) d ≡ true =
    sym (ap (λ o. takes_place p a o (Some c) d) is.strategy)
    ∙ (sym (ap (λ o. takes_place p a (retention p.intent a.path a.instance) o d) e)
    ∙ (sym (ap (passed_by (takes_place p a (retention p.intent a.path a.instance) (cell_of p.structure a))) g) ∙ stands)) in
    fits-place p a c k.strategy d (primary_at p a.path) (functions_of p k.strategy.supply) k.strategy.save k.strategy.restore refl refl refl refl
    (sym (ap (λ b. if b then register_fits c (primary_at p a.path) (functions_of p k.strategy.supply) k.strategy.save k.strategy.restore d else bytes_eq c.name d.name) state) ∙ place)

-- what does not stand by another cell is no register with retention
pub not-retained : (p : Project) (l : Lists) → HasRegisterCells p l → (a : Placed) → IsIn a (cell_instances p.structure) → kept_at (plan p l) a ≡ None → is_retained p a ≡ false
not-retained p l cells a h e = by (is_retained p a) refl
  where
    by : (b : Bool) → is_retained p a ≡ b → b ≡ false
    by false g = refl
    by true g =
        let t = some-is (retention p.intent a.path a.instance) (one (is_some (retention p.intent a.path a.instance)) _ g) in
        let c = some-is (cell_numbered p (register_chosen p l a)) (cells.chosen a h g) in
        let made : kept p l a ≡ Some (record { place = a; strategy = t.0; cell = c.0 }) =
        ap (kept_by p l a) t.1 ∙ ap (λ o. option_and_then (λ k. Some (record { place = a; strategy = t.0; cell = k })) o) c.1 in
        let listed = in-some (kept p l) a (record { place = a; strategy = t.0; cell = c.0 }) (filter (is_retained p) (cell_instances p.structure)) (in-filter (is_retained p) (cell_instances p.structure) a h g) made in
        let there = some-first (λ (k : Kept). same_placed k.place a) (record { place = a; strategy = t.0; cell = c.0 }) (plan p l).registers listed (placed-self a) in
        absurd (true≢false (sym there ∙ ap (λ o. is_some o) e))
