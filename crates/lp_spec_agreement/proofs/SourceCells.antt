-- A cell instance of the source is in the netlist the same cell, joined to the primary supply of its domain, or a register with retention, joined to two supplies.
use Rattle.std.proofs.Common.{◌≡◌, ◌⊎◌, Bool, true, false, List, Option, Some, None, inl, inr, refl, sym, ap, ◌∙◌, subst}
use Rattle.std.specs.Prelude.{bytes_eq, is_some, if◌then◌else◌}
use Rattle.std.specs.Option.{option_map}
use Rattle.std.proofs.lemmas.Option.{slice_get-map}
use Rattle.std.proofs.lemmas.Bool.{both_ways}
use Rattle.lp_model.specs.declared.supply.SetOrigins.{SetOrigins}
use Rattle.lp_model.specs.NetlistView.{ModuleView}
use Rattle.lp_model.specs.LibraryView.{CellView}
use Rattle.lp_spec_design.specs.Netlists.{Structure}
use Rattle.lp_spec_design.specs.Instances.{Placed, cell_instances}
use Rattle.lp_spec_design.specs.Intents.{Strategy, SetNumber}
use Rattle.lp_spec_design.specs.Winners.{IsIn}
use Rattle.lp_spec_design.specs.Registers.{retention}
use Rattle.lp_spec_design.specs.Settled.{Assignment, state_of, both_on, set_on}
use Rattle.lp_spec_pins.specs.Pins.{Powered}
use Rattle.lp_spec_pins.specs.Supplied.{is_supplied}
use Rattle.lp_spec_fit.specs.Joins.{Joins, source_joins, register_joins}
use Rattle.lp_spec_realises.specs.Projects.{Project, network_of, functions_of}
use Rattle.lp_spec_realises.specs.ProjectNetlists.{netlist_of}
use Rattle.lp_spec_realises.specs.Surroundings.{powered_of}
use Rattle.lp_spec_realises.specs.Realises.{cell_of, primary_at, register_fits, takes_place, plain_joins, kept_joins, joins_by, joins_of_source, Realises}
use Rattle.lp_spec_cells.specs.Joined.{IsJoinedBy, on_in}
use Rattle.lp_spec_network.specs.Views.{set_view}
use Rattle.lp_spec_agreement.specs.Faultless.{IsSoundCell, IsFaultless}
use Rattle.lp_spec_agreement.proofs.Decided.{cell_sound, source_sound}
use Rattle.lp_spec_agreement.proofs.KnownEnds.{RegisterPins, register_pins}
use Rattle.lp_spec_agreement.proofs.Reading.{comes, joined}
use Rattle.lp_spec_agreement.proofs.Roles.{TakesPlace, takes, same_cell}
use Rattle.lp_spec_agreement.proofs.Supplied.{IsJoinedAt, source_joins_at}
use Rattle.lp_spec_cells.proofs.LooksAtPins.{registers-hold-state}
use Rattle.lp_spec_voltages.proofs.Readings.{set-there}

-- a set that is used is on in an assignment where its power and its ground are
pub set_on_is : (p : Project) (A : Assignment) (k : Option SetNumber) (s : SetOrigins) → functions_of p k ≡ Some s → set_on (network_of p) A k ≡ on_in (state_of A) s
set_on_is p A None s e = absurd cc
set_on_is p A (Some k) s e =
    let there = set-there p k s e in
    ap (both_on A) (slice_get-map set_view p.supplies.sets k ∙ ap (option_map set_view) there)

module _ (p : Project) (good : IsFaultless p) (modules : List ModuleView) (real : Realises p modules) (supplied : is_supplied (powered_of p modules real.placement) ≡ true) where
  abbrev W : Structure
  W = netlist_of p modules

  abbrev w : Powered
  w = powered_of p modules real.placement

  pub record IsPlain (a : Placed) (c : CellView) : Type 0 where
    pub is_source : cell_of p.structure a ≡ Some c
    pub primary : SetOrigins
    pub is_primary : primary_at p a.path ≡ Some primary
    pub joins : IsJoinedBy (powered_of p modules real.placement) a.path a.instance c (comes p good modules real) (source_joins primary)
    pub sound : IsSoundCell c
    pub unretained : (is_some c.state ≡ true) → retention p.intent a.path a.instance ≡ None

  pub record IsRetained (a : Placed) (c : CellView) : Type 0 where
    pub source : CellView
    pub is_source : cell_of p.structure a ≡ Some source
    pub strategy : Strategy
    pub is_strategy : retention p.intent a.path a.instance ≡ Some strategy
    pub fits : RegisterPins source (primary_at p a.path) (functions_of p strategy.supply) strategy.save strategy.restore c
    pub joins : IsJoinedBy (powered_of p modules real.placement) a.path a.instance c (comes p good modules real) (register_joins fits.need.primary fits.need.retention)
    pub sound : IsSoundCell c
    pub source_sound : IsSoundCell source

  plain_join : (primary : Option SetOrigins) (join : Joins) → plain_joins primary ≡ Some join → (s : SetOrigins) × (primary ≡ Some s) × (join ≡ source_joins s)
  plain_join None join e = absurd cc
  plain_join (Some s) join e = let same : join ≡ source_joins s = cc in (s, refl, same)

  module _ (a : Placed) (h : IsIn a (cell_instances p.structure)) (c : CellView) (e : cell_of (netlist_of p modules) a ≡ Some c) (of : TakesPlace p good modules real a c) (at : IsJoinedAt p good modules real a c (joins_of_source p a)) where
    sound : IsSoundCell c
    sound = cell_sound p good modules real a c e (inl h)

    as_plain : (same : of.source ≡ c) → plain_joins (primary_at p a.path) ≡ Some at.join → ((is_some c.state ≡ true) → retention p.intent a.path a.instance ≡ None) → IsPlain a c
    as_plain same plain unretained =
        let join = plain_join (primary_at p a.path) at.join plain in
        record {
          is_source = of.is_source ∙ ap (λ z. Some z) same;
          primary = join.0;
          is_primary = join.1;
          joins = subst (λ j. IsJoinedBy w a.path a.instance c (comes p good modules real) j) join.2 (joined p good modules real supplied a c e (joins_of_source p a) at);
          sound = sound;
          unretained = unretained;
        }

    as_retained : (t : Strategy) → retention p.intent a.path a.instance ≡ Some t → RegisterPins of.source (primary_at p a.path) (functions_of p t.supply) t.save t.restore c → joins_by p (primary_at p a.path) (Some t) (is_some c.state) ≡ Some at.join → IsRetained a c
    as_retained t rt reg join =
        let state = (registers-hold-state reg.need c reg.fits).1 in
        let here : joins_by p (primary_at p a.path) (Some t) (is_some c.state) ≡ Some (register_joins reg.need.primary reg.need.retention) =
        ap (joins_by p (primary_at p a.path) (Some t)) state ∙ (λ i. kept_joins (reg.is_primary i) (reg.is_kept i)) in
        let some : Some at.join ≡ Some (register_joins reg.need.primary reg.need.retention) = sym join ∙ here in
        let same : at.join ≡ register_joins reg.need.primary reg.need.retention = cc in
        record {
          source = of.source;
          is_source = of.is_source;
          strategy = t;
          is_strategy = rt;
          fits = reg;
          joins = subst (λ j. IsJoinedBy w a.path a.instance c (comes p good modules real) j) same (joined p good modules real supplied a c e (joins_of_source p a) at);
          sound = sound;
          source_sound = source_sound p good modules real a of.source of.is_source;
        }

    kind_by : (t : Option Strategy) → retention p.intent a.path a.instance ≡ t → takes_place p a t (Some of.source) c ≡ true → joins_by p (primary_at p a.path) t (is_some c.state) ≡ Some at.join → IsPlain a c ⊎ IsRetained a c
    kind_by None rt taken join = inl (as_plain (same_cell p good modules real a of.source c of.is_source e taken) join (λ state. rt))
    kind_by (Some t) rt taken join = by (is_some of.source.state) refl taken
      where
        by : (b : Bool) → is_some of.source.state ≡ b → (if b then register_fits of.source (primary_at p a.path) (functions_of p t.supply) t.save t.restore c else bytes_eq of.source.name c.name) ≡ true → IsPlain a c ⊎ IsRetained a c
        by true is g = inr (as_retained t rt (register_pins of.source (primary_at p a.path) (functions_of p t.supply) t.save t.restore c g) join)
        by false is g =
            let same = same_cell p good modules real a of.source c of.is_source e g in
            let stateless : is_some c.state ≡ false = ap (λ (d : CellView). is_some d.state) (sym same) ∙ is in
            inl (as_plain same (sym (ap (joins_by p (primary_at p a.path) (Some t)) stateless) ∙ join) (λ state. absurd (both_ways (is_some c.state) stateless state)))

  pub kind : (a : Placed) → IsIn a (cell_instances p.structure) → (c : CellView) → cell_of W a ≡ Some c → IsPlain a c ⊎ IsRetained a c
  kind a h c e =
      let of = takes p good modules real a h c e in
      let at = source_joins_at p good modules real a h c e in
      kind_by a h c e of at (retention p.intent a.path a.instance) refl of.takes at.is_join
