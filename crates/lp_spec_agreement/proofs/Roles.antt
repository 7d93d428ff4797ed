-- Each cell instance of the netlist stands for a cell of the source, an operator or a switch; its power and ground pins come from origins; and only the source's registers hold a state.
use Rattle.std.proofs.Common.{◌≡◌, ◌⊎◌, ◌≤◌, ◌<◌, ℕ, Bool, true, false, not, ◌==◌, List, [], ◌∷◌, map, length, Option, Some, None, inl, inr, refl, sym, ap, ◌∙◌, subst, arith}
use Rattle.std.specs.Prelude.{bytes_eq, is_some, nat_lt, if◌then◌else◌, option_and_then, slice_get}
use Rattle.std.proofs.lemmas.Bool.{and_parts, false≢true, not-true, ltb-true, eqb-true, both_ways}
use Rattle.lp_tern.specs.declared.tern.Tern.{Tern}
use Rattle.lp_tern.specs.declared.tern.Tern.TheVariants.{Zero, One, X}
use Rattle.lp_tern.specs.declared.supply.SupplyState.{SupplyState}
use Rattle.lp_tern.specs.declared.supply.SupplyState.TheVariants.{On, Off, Unknown}
use Rattle.lp_tern.specs.Values.{is_same_supply, choose_supply_of}
use Rattle.lp_model.specs.declared.library.PgKind.{PgKind}
use Rattle.lp_model.specs.declared.library.PgKind.TheVariants as kinds
use Rattle.lp_model.specs.declared.supply.SetOrigins.{SetOrigins}
use Rattle.lp_model.specs.NetlistView.{InstanceView, ModuleView}
use Rattle.lp_model.specs.LibraryView.{PgPinView, PinView, CellView}
use Rattle.lp_spec_design.specs.Keys.{Name, Path}
use Rattle.lp_spec_design.specs.Netlists.{Structure, first, module_named, cell_named, instance_named, module_at, cell_at}
use Rattle.lp_spec_design.specs.Instances.{below, Placed, cell_instances}
use Rattle.lp_spec_design.specs.Intents.{Strategy}
use Rattle.lp_spec_design.specs.Chains.{Operator, Clamp, Shift}
use Rattle.lp_spec_design.specs.Winners.{IsIn}
use Rattle.lp_spec_design.specs.Reads.{name-true}
use Rattle.lp_spec_design.specs.Registers.{retention, holds_state, is_register}
use Rattle.lp_spec_design.specs.Settled.{Event, Registers, function_value}
use Rattle.lp_spec_design.proofs.Members.{in-either, of-map, of-any}
use Rattle.lp_spec_design.proofs.Sources.{then_is, first_in, child_of, in_reach}
use Rattle.lp_spec_pins.specs.Pins.{Powered, PinAssignment, state_from, state_of_pg, source_of_pg, pins_read, pg_named, switched_of, switched_state, switch_equation}
use Rattle.lp_spec_fit.specs.Joins.{Joins, switch_joins}
use Rattle.lp_spec_fit.specs.Fits.{is_usable, only_isolates, only_shifts}
use Rattle.lp_spec_realises.specs.Projects.{Project, functions_of}
use Rattle.lp_spec_realises.specs.ProjectNetlists.{netlist_of, is_shallow}
use Rattle.lp_spec_realises.specs.Operators.{OperatorAt, all_operators, SwitchAt, all_switches, Placement, placed_operator, placed_switch}
use Rattle.lp_spec_realises.specs.Ends.{switched_end}
use Rattle.lp_spec_realises.specs.Surroundings.{powered_of}
use Rattle.lp_spec_realises.specs.Realises.{same_placed, has_placed, cell_of, primary_at, clamp_fits, shifter_fits, operator_fits, switch_fits, takes_place, register_fits, expected_cells, added, origin_end, Realises}
use Rattle.lp_spec_cells.specs.Sound.{is_primary_power}
use Rattle.lp_spec_agreement.specs.Alike.{supply_of_end}
use Rattle.lp_spec_agreement.specs.Cells.{state_there, SwitchesFeed, NoOtherRegister}
use Rattle.lp_spec_agreement.specs.Faultless.{IsSoundCell, IsFaultless}
use Rattle.lp_spec_agreement.proofs.Apart.{all_in, apart_right, found_named}
use Rattle.lp_spec_agreement.proofs.Chains.{numbered_at}
use Rattle.lp_spec_agreement.proofs.Found.{cell_there}
use Rattle.lp_spec_agreement.proofs.Framed.{source_stands, operator_stands_at, all_expected}
use Rattle.lp_spec_agreement.proofs.Placed.{placed-true, passed_cell}
use Rattle.lp_spec_agreement.proofs.Supplied.{numbered_in, source_joins_at, operator_joins_at, switch_joins_at, pg_source, switch_cell, switch_end, join_of_switch}

-- ---- no instance is deeper than 64

module _ (w : Structure) (shallow : is_shallow w ≡ true) where
  is_short : (p : Path) (m : ModuleView) → module_at w p ≡ Some m → length p < 64
  is_short [] m e = omega arith
  is_short (i ∷ p) m e =
      let up = child_of w i p m e in
      let above = is_short p up.0 up.1 in
      ltb-true (length (i ∷ p)) 64 (all_in (λ (x : Path). nat_lt (length x) 64) (i ∷ p) (below w 65 []) shallow (in_reach w 65 (i ∷ p) m e (omega (arith, above))))

  pub none_deeper : (p : Path) → 64 ≤ length p → module_at w p ≡ None
  none_deeper p deep = by (module_at w p) refl
    where
      by : (o : Option ModuleView) → module_at w p ≡ o → o ≡ None
      by None e = refl
      by (Some m) e = let short = is_short p m e in absurd (omega (arith, short, deep))

-- ---- cells of a library by their names

-- a cell that stands somewhere is the first of its name
first_of_name : (s : Structure) (q : Path) (x : Name) (c : CellView) → cell_at s q x ≡ Some c → first (λ (d : CellView). bytes_eq d.name c.name) s.cells ≡ Some c
first_of_name s q x c e =
    let above = then_is (λ (m : ModuleView). option_and_then (λ (y : InstanceView). cell_named s y.target) (instance_named m x)) (module_at s q) c e in
    let inst = then_is (λ (y : InstanceView). cell_named s y.target) (instance_named above.0 x) c above.2 in
    by inst.0.target (module_named s inst.0.target) refl inst.2
  where
    by : (n : Name) (o : Option ModuleView) → module_named s n ≡ o → cell_named s n ≡ Some c → first (λ (d : CellView). bytes_eq d.name c.name) s.cells ≡ Some c
    by n (Some m) is f = let none : None ≡ Some c = sym (ap (λ (o : Option ModuleView). if is_some o then None else first (λ (d : CellView). bytes_eq d.name n) s.cells) is) ∙ f in absurd cc
    by n None is f =
        let found : first (λ (d : CellView). bytes_eq d.name n) s.cells ≡ Some c = sym (ap (λ (o : Option ModuleView). if is_some o then None else first (λ (d : CellView). bytes_eq d.name n) s.cells) is) ∙ f in
        let same = name-true c.name n (first_in (λ (d : CellView). bytes_eq d.name n) s.cells c found).1 in
        ap (λ k. first (λ (d : CellView). bytes_eq d.name k) s.cells) same ∙ found

choose_on : (c : Tern) (a : SupplyState) (v : ℕ) → choose_supply_of c Off a ≡ On v → a ≡ On v
choose_on One a v e = absurd cc
choose_on Zero a v e = e
choose_on X a v e = by (is_same_supply Off a) e
  where
    by : (b : Bool) → (if b then Off else Unknown) ≡ On v → a ≡ On v
    by true g = absurd cc
    by false g = absurd cc

module _ (p : Project) (good : IsFaultless p) (modules : List ModuleView) (real : Realises p modules) where
  abbrev place : Placement
  place = real.placement

  abbrev W : Structure
  W = netlist_of p modules

  abbrev w : Powered
  w = powered_of p modules real.placement

  abbrev pub IsOperator : Placed → Type 0
  IsOperator a = (o : OperatorAt) × IsIn o (all_operators p) × (a ≡ placed_operator real.placement o)

  abbrev pub IsSwitch : Placed → Type 0
  IsSwitch a = (x : SwitchAt) × IsIn x (all_switches p) × (a ≡ placed_switch real.placement x)

  abbrev pub Role : Placed → Type 0
  Role a = IsIn a (cell_instances p.structure) ⊎ (IsOperator a ⊎ IsSwitch a)

  pub role : (a : Placed) → IsIn a (cell_instances W) → Role a
  role a h =
      let found = of-any (same_placed a) (expected_cells p place) (all_in (has_placed (expected_cells p place)) a (cell_instances W) (all_expected p good modules real) h) in
      let same = placed-true a found.0 found.2 in
      elim (in-either found.0 (cell_instances p.structure) (added p place) found.1) [
        | inl source ↦ inl (subst (λ b. IsIn b (cell_instances p.structure)) (sym same) source)
        | inr extra ↦ elim (in-either found.0 (map (placed_operator place) (all_operators p)) (map (placed_switch place) (all_switches p)) extra) [
          | inl operator ↦ let o = of-map (placed_operator place) found.0 (all_operators p) operator in inr (inl (o.0, o.1, same ∙ o.2))
          | inr switch ↦ let x = of-map (placed_switch place) found.0 (all_switches p) switch in inr (inr (x.0, x.1, same ∙ x.2))
        ]
      ]

  pub cell_role : (q : Path) (x : Name) (c : CellView) → cell_at W q x ≡ Some c → Role (record { path = q; instance = x })
  cell_role q x c e = role (record { path = q; instance = x }) (cell_there W (none_deeper W real.netlist.shallow) q x c e)

  -- ---- the cell of the source at a cell instance of the source

  pub record TakesPlace (a : Placed) (c : CellView) : Type 0 where
    pub source : CellView
    pub is_source : cell_of p.structure a ≡ Some source
    pub takes : takes_place p a (retention p.intent a.path a.instance) (Some source) c ≡ true

  takes_by : (a : Placed) (c : CellView) (o : Option CellView) → cell_of p.structure a ≡ o → takes_place p a (retention p.intent a.path a.instance) o c ≡ true → TakesPlace a c
  takes_by a c None e h = absurd (false≢true (by (retention p.intent a.path a.instance) h))
    where
      by : (t : Option Strategy) → takes_place p a t None c ≡ true → false ≡ true
      by None g = g
      by (Some t) g = g
  takes_by a c (Some s) e h = record { source = s; is_source = e; takes = h }

  pub takes : (a : Placed) → IsIn a (cell_instances p.structure) → (c : CellView) → cell_of W a ≡ Some c → TakesPlace a c
  takes a h c e =
      let cell = passed_cell (takes_place p a (retention p.intent a.path a.instance) (cell_of p.structure a)) (cell_of W a) (source_stands p good modules real a h) in
      let some : Some cell.0 ≡ Some c = sym cell.1 ∙ e in
      let same : cell.0 ≡ c = cc in
      takes_by a c (cell_of p.structure a) refl (subst (λ d. takes_place p a (retention p.intent a.path a.instance) (cell_of p.structure a) d ≡ true) same cell.2)

  -- a cell of the same name is the same cell
  pub same_cell : (a : Placed) (s c : CellView) → cell_of p.structure a ≡ Some s → cell_of W a ≡ Some c → bytes_eq s.name c.name ≡ true → s ≡ c
  same_cell a s c e f n =
      let one = first_of_name p.structure a.path a.instance s e in
      let two = first_of_name W a.path a.instance c f in
      let both : Some s ≡ Some c = sym one ∙ (ap (λ k. first (λ (d : CellView). bytes_eq d.name k) p.structure.cells) (name-true s.name c.name n) ∙ two) in cc

  -- it has a state, or it is the same cell
  pub stays : (a : Placed) (c : CellView) → cell_of W a ≡ Some c → (of : TakesPlace a c) → (is_some of.source.state ≡ true) ⊎ (of.source ≡ c)
  stays a c e of = by (retention p.intent a.path a.instance) of.takes
    where
      by : (t : Option Strategy) → takes_place p a t (Some of.source) c ≡ true → (is_some of.source.state ≡ true) ⊎ (of.source ≡ c)
      by None h = inr (same_cell a of.source c of.is_source e h)
      by (Some t) h = with_state (is_some of.source.state) refl h
        where
          with_state : (b : Bool) → is_some of.source.state ≡ b → (if b then register_fits of.source (primary_at p a.path) (functions_of p t.supply) t.save t.restore c else bytes_eq of.source.name c.name) ≡ true → (is_some of.source.state ≡ true) ⊎ (of.source ≡ c)
          with_state true is g = inl is
          with_state false is g = inr (same_cell a of.source c of.is_source e g)

  -- ---- registers

  clamp_stateless : (a b : Option SetOrigins) (t : Option Strategy) (c : CellView) → clamp_fits a b t c ≡ true → is_some c.state ≡ false
  clamp_stateless None b t c h = absurd (false≢true h)
  clamp_stateless (Some a) None t c h = absurd (false≢true h)
  clamp_stateless (Some a) (Some b) None c h = absurd (false≢true h)
  clamp_stateless (Some a) (Some b) (Some t) c h = not-true _ (and_parts (not (is_some c.state)) _ (and_parts (only_isolates c.roles) _ (and_parts (is_usable c) _ h).1).1).0

  shifter_stateless : (a b : Option SetOrigins) (c : CellView) → shifter_fits p a b c ≡ true → is_some c.state ≡ false
  shifter_stateless None b c h = absurd (false≢true h)
  shifter_stateless (Some a) None c h = absurd (false≢true h)
  shifter_stateless (Some a) (Some b) c h = not-true _ (and_parts (not (is_some c.state)) _ (and_parts (only_shifts c.roles) _ (and_parts (is_usable c) _ h).1).1).0

  operator_stateless : (path : Path) (o : Operator) (c : CellView) → operator_fits p path o c ≡ true → is_some c.state ≡ false
  operator_stateless path (Clamp t i) c h = clamp_stateless (functions_of p (Some i)) (primary_at p path) (slice_get p.intent.strategies t) c h
  operator_stateless path (Shift t a b) c h = shifter_stateless (functions_of p (Some a)) (functions_of p (Some b)) c h

  switch_stateless : (x : SwitchAt) (c : CellView) → switch_fits x c ≡ true → is_some c.state ≡ false
  switch_stateless x c h = not-true _ (and_parts (not (is_some c.state)) _ (and_parts c.roles.switch _ (and_parts (is_usable c) _ h).1).1).0

  register_by : (q : Path) (x : Name) (c : CellView) → cell_at W q x ≡ Some c → is_some c.state ≡ true → Role (record { path = q; instance = x }) → is_register p.structure q x ≡ true
  register_by q x c e state (inl source) =
      let a : Placed = record { path = q; instance = x } in
      let of = takes a source c e in
      ap holds_state of.is_source
      ∙ elim (stays a c e of) [ inl register ↦ register | inr same ↦ ap (λ (d : CellView). is_some d.state) same ∙ state ]
  register_by q x c e state (inr (inl operator)) =
      let o = operator.0 in
      let cell = passed_cell (operator_fits p (placed_operator place o).path o.operator) (cell_of W (placed_operator place o)) (operator_stands_at p good modules real o operator.1) in
      let some : Some cell.0 ≡ Some c = sym cell.1 ∙ (ap (cell_of W) (sym operator.2) ∙ e) in
      let same : cell.0 ≡ c = cc in
      absurd (both_ways (is_some c.state) (ap (λ (d : CellView). is_some d.state) (sym same) ∙ operator_stateless (placed_operator place o).path o.operator cell.0 cell.2) state)
  register_by q x c e state (inr (inr switch)) =
      let s = switch_cell p good modules real switch.0 switch.1 in
      let some : Some s.cell ≡ Some c = sym s.is_cell ∙ (ap (cell_of W) (sym switch.2) ∙ e) in
      let same : s.cell ≡ c = cc in
      absurd (both_ways (is_some c.state) (ap (λ (d : CellView). is_some d.state) (sym same) ∙ switch_stateless switch.0 s.cell s.fits) state)

  pub no_other_register : NoOtherRegister p modules real.placement
  no_other_register q x h = by (cell_at W q x) refl h
    where
      by : (o : Option CellView) → cell_at W q x ≡ o → holds_state o ≡ true → is_register p.structure q x ≡ true
      by None e g = absurd (false≢true g)
      by (Some c) e g = register_by q x c e g (cell_role q x c e)

  -- ---- power and ground pins

  -- each comes from where an origin comes in
  pub pg_origin : (a : Placed) (c : CellView) → cell_of W a ≡ Some c → Role a → (g : PgPinView) → IsIn g c.pgs → (o : ℕ) × (source_of_pg w a.path a.instance (Some g) ≡ supply_of_end w (origin_end p W place o))
  pg_origin a c e (inl source) g h =
      let at = source_joins_at p good modules real a source c e in
      let number = numbered_in 0 g c.pgs h in
      let begins = at.each number.0 g number.1 in
      (begins.origin, pg_source p good modules real a at.join number.0 g begins)
  pg_origin a c e (inr (inl operator)) g h =
      let b = placed_operator place operator.0 in
      let at = operator_joins_at p good modules real operator.0 operator.1 c (ap (cell_of W) (sym operator.2) ∙ e) in
      let number = numbered_in 0 g c.pgs h in
      let begins = at.each number.0 g number.1 in
      (begins.origin, ap (λ (z : Placed). source_of_pg w z.path z.instance (Some g)) operator.2 ∙ pg_source p good modules real b at.join number.0 g begins)
  pg_origin a c e (inr (inr switch)) g h =
      let b = placed_switch place switch.0 in
      let at = switch_joins_at p good modules real switch.0 switch.1 c (ap (cell_of W) (sym switch.2) ∙ e) in
      let number = numbered_in 0 g c.pgs h in
      let begins = at.each number.0 g number.1 in
      (begins.origin, ap (λ (z : Placed). source_of_pg w z.path z.instance (Some g)) switch.2 ∙ pg_source p good modules real b at.join number.0 g begins)

  -- ---- a switch passes the origin of its input

  primary_by : (g : PgPinView) (k : PgKind) → g.kind ≡ k → is_primary_power g ≡ true → k ≡ kinds.PrimaryPower
  primary_by g kinds.PrimaryPower e h = refl
  primary_by g kinds.InternalPower e h = absurd (false≢true (rw e at h))
  primary_by g kinds.PrimaryGround e h = absurd (false≢true (rw e at h))
  primary_by g kinds.BackupPower e h = absurd (false≢true (rw e at h))
  primary_by g kinds.BackupGround e h = absurd (false≢true (rw e at h))
  primary_by g kinds.InternalGround e h = absurd (false≢true (rw e at h))
  primary_by g kinds.Nwell e h = absurd (false≢true (rw e at h))
  primary_by g kinds.Pwell e h = absurd (false≢true (rw e at h))
  primary_by g kinds.Deepnwell e h = absurd (false≢true (rw e at h))
  primary_by g kinds.Deeppwell e h = absurd (false≢true (rw e at h))

  -- the power pin that is joined at all is the one that is passed, and it is joined to the input
  passes_by : (x : SwitchAt) (gnd passes k : ℕ) (g : PgPinView) → g.kind ≡ kinds.PrimaryPower → (o : ℕ) → switch_joins x.input x.origin gnd passes k g ≡ Some o → (k ≡ passes) × (o ≡ x.input)
  passes_by x gnd passes k g kind o e = by (k == passes) refl
    where
      by : (b : Bool) → (k == passes) ≡ b → (k ≡ passes) × (o ≡ x.input)
      by true is = let some : Some x.input ≡ Some o = rw (kind, is) at e in let same : o ≡ x.input = cc in (eqb-true k passes is, same)
      by false is = let none : None ≡ Some o = rw (kind, is) at e in absurd cc

  pub passed_origin : (x : SwitchAt) (h : IsIn x (all_switches p)) → (g : PgPinView)
      × (slice_get (switch_cell p good modules real x h).cell.pgs (switch_cell p good modules real x h).view.passes ≡ Some g)
      × (source_of_pg w (placed_switch place x).path (placed_switch place x).instance (Some g) ≡ supply_of_end w (origin_end p W place x.input))
  passed_origin x h =
      let s = switch_cell p good modules real x h in
      let at = switch_joins_at p good modules real x h s.cell s.is_cell in
      let join = join_of_switch p good modules real x s.cell s.view s.one (primary_at p []) refl at.join at.is_join in
      let primary = of-any is_primary_power s.cell.pgs s.sound.sound.powered in
      let number = numbered_in 0 primary.0 s.cell.pgs primary.1 in
      let begins = at.each number.0 primary.0 number.1 in
      let here : switch_joins x.input x.origin join.0 s.view.passes number.0 primary.0 ≡ Some begins.origin = ap (λ (j : Joins). j number.0 primary.0) (sym join.1) ∙ begins.joins in
      let passes = passes_by x join.0 s.view.passes number.0 primary.0 (primary_by primary.0 primary.0.kind refl primary.2) begins.origin here in
      let place_of = numbered_at 0 (number.0, primary.0) s.cell.pgs number.1 in
      let index : place_of.0 ≡ s.view.passes = omega (arith, place_of.1, passes.0) in
      (primary.0, ap (slice_get s.cell.pgs) (sym index) ∙ place_of.2, pg_source p good modules real (placed_switch place x) at.join number.0 primary.0 begins ∙ ap (λ o. supply_of_end w (origin_end p W place o)) passes.1)

  -- the switched pin of a switch's cell has the state of its switch function and of the pin that it passes
  pg_found : (c : CellView) → IsSoundCell c → (g : PgPinView) → IsIn g c.pgs → pg_named c g.name ≡ Some g
  pg_found c sound g h = found_named (λ (x : PgPinView). x.name) c.pgs (apart_right (map (λ (q : PinView). q.name) c.pins) (map (λ (x : PgPinView). x.name) c.pgs) sound.names) g h

  pub switch_state : (x : SwitchAt) (h : IsIn x (all_switches p)) (ev : Event) (regs : Registers) (B : PinAssignment)
      → state_there p modules real.placement ev regs B (switched_end W (placed_switch place x))
      ≡ switched_state w B regs (placed_switch place x).path (placed_switch place x).instance (switch_cell p good modules real x h).cell (Some (switch_cell p good modules real x h).view)
  switch_state x h ev regs B =
      let s = switch_cell p good modules real x h in
      let b = placed_switch place x in
      ap (state_there p modules real.placement ev regs B) (switch_end p good modules real x h)
      ∙ (ap (switch_equation w B regs b.path b.instance s.pin.pg.name) s.is_cell
      ∙ ap (switched_state w B regs b.path b.instance s.cell) (ap switched_of (pg_found s.cell s.sound s.pin.pg s.pin.among) ∙ s.pin.switched))

  pub switches_feed : SwitchesFeed p modules real.placement
  switches_feed ev regs B x h v on =
      let s = switch_cell p good modules real x h in
      let b = placed_switch place x in
      let passed = passed_origin x h in
      let state = choose_on (function_value s.cell (pins_read w B b.path b.instance s.cell) (regs b.path b.instance) s.view.off) (state_of_pg w B b.path b.instance (slice_get s.cell.pgs s.view.passes)) v (sym (switch_state x h ev regs B) ∙ on) in
      sym (ap (state_of_pg w B b.path b.instance) passed.1 ∙ ap (state_from B) passed.2) ∙ state
