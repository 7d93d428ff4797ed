-- Switches, parts of control routes and users of supplies stand in instances, and what is led or assigned has free names.
use Rattle.std.proofs.lemmas.Bool.{true≢false}
use Rattle.std.proofs.Common.{◌≡◌, ℕ, zero, suc, Bool, true, false, List, [], ◌∷◌, ◌++◌, map, Option, Some, None, inl, inr, refl, sym, ap, ◌∙◌, subst}
use Rattle.std.specs.Prelude.{filter, flat_map, is_some, slice_get, if◌then◌else◌, unwrap_or}
use Rattle.lp_model.specs.declared.library.Action.{Action}
use Rattle.lp_model.specs.declared.supply.Origin as model
use Rattle.lp_model.specs.declared.supply.OriginKind.{OriginKind}
use Rattle.lp_model.specs.declared.supply.OriginKind.TheVariants.{Port, Switch}
use Rattle.lp_model.specs.NetlistView.{InstanceView, ModuleView}
use Rattle.lp_model.specs.LibraryView.{CellView}
use Rattle.lp_spec_design.specs.Keys.{Name, Path, same_path, Node, Inner, Outer, Fixed}
use Rattle.lp_spec_design.specs.Netlists.{Structure, module_named, cell_named, module_at}
use Rattle.lp_spec_design.specs.Instances.{children_in, children, below, Placed, cells_of_target, cells_of, cells_in, cells_below, cell_instances, module_instances}
use Rattle.lp_spec_design.specs.Nodes.{nodes_of}
use Rattle.lp_spec_design.specs.Intents.{Strategy, Origin, FromPort, FromSwitch}
use Rattle.lp_spec_design.specs.Chains.{Operator, Clamp, Shift}
use Rattle.lp_spec_design.specs.Registers.{is_above}
use Rattle.lp_spec_design.specs.Reads.{path-true}
use Rattle.lp_spec_design.specs.Winners.{IsIn}
use Rattle.lp_spec_design.proofs.Members.{in-either, in-flat, in-map, of-map, of-flat, of-filter}
use Rattle.lp_spec_design.proofs.Sources.{then_is}
use Rattle.lp_spec_network.specs.Views.{kind_view}
use Rattle.lp_spec_realises.specs.Projects.{Project, network_of, numbered_node}
use Rattle.lp_spec_realises.specs.Operators.{SwitchAt, all_switches}
use Rattle.lp_spec_realises.specs.Implements.{Lists}
use Rattle.lp_spec_faultless.specs.Faults.{is_outer, HasControlsInside, IsRead}
use Rattle.lp_spec_hub.specs.Entries.{is_control}
use Rattle.lp_spec_agreement.proofs.Apart.{module_below}
use Rattle.lp_spec_voltages.proofs.Asked.{retained}
use Rattle.lp_spec_voltages.proofs.Roots.{slice-in}
use Rattle.lp_spec_written.specs.Places.{instances, Standing, Kept, Switching, plan}
use Rattle.lp_spec_written.specs.Supplies.{common, Use, uses_at, source_pins, operator_pins, switch_pins}
use Rattle.lp_spec_written.specs.Routes.{Route, to_instance, enable_of, node_in, routes, PortOut, Between, PortIn, Part}
use Rattle.lp_spec_written.specs.Written.{additions}
use Rattle.lp_spec_hub.proofs.Paths.{common-left}
use Rattle.lp_spec_written_at.specs.Sources.{IsNetBit}
use Rattle.lp_spec_written_at.proofs.ControlNodes.{part-good}
use Rattle.lp_spec_written_at.proofs.Instances.{is-planned as stands-planned}
use Rattle.lp_spec_written_at.proofs.SourceCells.{in-filter}
use Rattle.lp_spec_driven.specs.Wires.{IsFreeNode}
use Rattle.lp_spec_wires.specs.Standing.{HasPlaces}
use Rattle.lp_spec_proper.specs.Insertable.{StandsInside, IsInsertable, IsWithinLimits}
use Rattle.lp_spec_proper.proofs.Free.{top}
use Rattle.lp_spec_proper.proofs.Base.{some-is, of-inner, inner-of, parent-at, inside, inside-some, free-in, free-bit}
use Rattle.lp_spec_proper.proofs.Cells.{is-kept}
use Rattle.lp_spec_proper.proofs.FitCells.{is-planned-switch}
use Rattle.lp_spec_proper.proofs.Routed.{up-above, up-below, IsOnRoute, GoesUp, Crosses, GoesDown, IsPartOf, is-part}
use Rattle.lp_spec_proper.proofs.Switched.{switch-origin-is}

-- ---- cell instances stand in module instances

module _ (s : Structure) where
  child : (q : Path) (m : ModuleView) (y : InstanceView) (k : ModuleView) → module_at s q ≡ Some m → IsIn y m.instances → module_named s y.target ≡ Some k → IsIn (y.name ∷ q) (children s q)
  child q m y k e h target =
      subst (λ o. IsIn (y.name ∷ q) (children_in s q o)) (sym e)
      (in-map (λ (x : InstanceView). x.name ∷ q) y (filter (λ (x : InstanceView). is_some (module_named s x.target)) m.instances)
      (in-filter (λ (x : InstanceView). is_some (module_named s x.target)) m.instances y h (ap is_some target)))

  cells-inside : (depth : ℕ) (q : Path) (a : Placed) → IsIn a (cells_below s depth q) → IsIn a.path (below s depth q)
  cells-inside zero q a h = absurd h
  cells-inside (suc depth) q a h = by (module_at s q) refl h (λ r g. cells-inside depth r a g)
    where
      at : (m : ModuleView) (y : InstanceView) → module_at s q ≡ Some m → IsIn y m.instances → (o : Option ModuleView) (c : Option CellView) → module_named s y.target ≡ o
          → IsIn a (cells_of_target (cells_below s depth) q y.name o c) → ((r : Path) → IsIn a (cells_below s depth r) → IsIn a.path (below s depth r)) → IsIn a.path (below s (suc depth) q)
      at m y e h (Some k) c target g deeper = inr (in-flat (below s depth) (y.name ∷ q) a.path (children s q) (child q m y k e h target) (deeper (y.name ∷ q) g))
      at m y e h None (Some c) target (inl is) deeper = inl (ap (λ (b : Placed). b.path) is)
      at m y e h None (Some c) target (inr none) deeper = absurd none
      at m y e h None None target g deeper = absurd g

      by : (o : Option ModuleView) → module_at s q ≡ o → IsIn a (cells_in s (cells_below s depth) q o) → ((r : Path) → IsIn a (cells_below s depth r) → IsIn a.path (below s depth r)) → IsIn a.path (below s (suc depth) q)
      by None e g deeper = absurd g
      by (Some m) e g deeper =
          let y = of-flat (cells_of s (cells_below s depth) q) a m.instances g in
          at m y.0 e y.1 (module_named s y.0.target) (cell_named s y.0.target) refl y.2 deeper

pub cell-inside : (p : Project) (a : Placed) → IsIn a (cell_instances p.structure) → IsIn a.path (instances p)
unfolding cell_instances module_instances
cell-inside p a h = cells-inside p.structure 64 [] a h

-- ---- instances above an instance

above-at : (s : Structure) (x y : Path) → is_above y x ≡ true → (m : ModuleView) → module_at s x ≡ Some m → is_some (module_at s y) ≡ true
above-at s [] y e m at = ap (λ z. is_some (module_at s z)) (path-true y [] e) ∙ ap is_some at
above-at s (i ∷ x) y e m at = by (same_path y (i ∷ x)) refl e (let up = parent-at s i x m at in λ f. above-at s x y f up.0 up.1)
  where
    by : (b : Bool) → same_path y (i ∷ x) ≡ b → (if b then true else is_above y x) ≡ true → (is_above y x ≡ true → is_some (module_at s y) ≡ true) → is_some (module_at s y) ≡ true
    by true same f more = ap (λ z. is_some (module_at s z)) (path-true y (i ∷ x) same) ∙ ap is_some at
    by false same f more = more f

-- ---- controls

some-same : {A : Type 0} (u v : A) → Some u ≡ Some v → u ≡ v
some-same u v e = cc

abbrev control_in : Origin → Node
control_in FromPort = Fixed false
control_in (FromSwitch input control high) = control

-- a node of the source stands inside, if it is no outer side
inside-or : (s : Structure) (k : Node) → IsIn k (nodes_of s) → is_outer k ≡ false → StandsInside s k
inside-or s (Inner n i x) h e = let has = of-inner s n i x (inner-of s n i x h) in ap is_some has.at
inside-or s (Outer n i) h e = absurd (true≢false e)
inside-or s (Fixed b) h e = tt

numbered-inside : (s : Structure) (j : ℕ) → is_outer (numbered_node s j) ≡ false → StandsInside s (numbered_node s j)
numbered-inside s j e = by (slice_get (nodes_of s) j) refl e
  where
    by : (o : Option Node) → slice_get (nodes_of s) j ≡ o → is_outer (unwrap_or o (Fixed false)) ≡ false → StandsInside s (unwrap_or o (Fixed false))
    by None f g = tt
    by (Some k) f g = inside-or s k (slice-in (nodes_of s) j k f) g

kind-inside : (s : Structure) (kind : OriginKind) (input : ℕ) (control : Node) (high : Bool) → kind_view (numbered_node s) kind ≡ FromSwitch input control high → is_outer control ≡ false → StandsInside s control
kind-inside s (Port states) input control high e f = absurd cc
kind-inside s (Switch i c h) input control high e f = subst (StandsInside s) (ap control_in e) (numbered-inside s c.0 (ap is_outer (ap control_in e) ∙ f))

switch-inside : (p : Project) → HasControlsInside p → (x : SwitchAt) → IsIn x (all_switches p) → StandsInside p.structure x.control
switch-inside p inner x h =
    let is = switch-origin-is p x h in
    let there = slice-in (network_of p).origins x.origin (FromSwitch x.input x.control x.high) is in
    let one = of-map (λ (o : model.Origin). kind_view (numbered_node p.structure) o.kind) (FromSwitch x.input x.control x.high) p.supplies.origins there in
    kind-inside p.structure one.0.kind x.input x.control x.high (sym one.2) (inner.switches x.origin x.input x.control x.high is)

to-route : (x : Path) (o : Option Node) (r : Route) → IsIn r (to_instance x o) → (o ≡ Some r.0) × (r.1 ≡ x)
to-route x None r h = absurd h
to-route x (Some k) r (inl is) = (ap (λ (z : Route). Some z.0) (sym is), ap (λ (z : Route). z.1) is)
to-route x (Some k) r (inr h) = absurd h

-- ---- the whole

module _ (p : Project) (l : Lists) (switch_command : ℕ → ℕ) (read : IsRead p) (good : IsInsertable p l switch_command) (within : IsWithinLimits p l) where
  abbrev s : Structure
  s = p.structure

  enable-inside : (o : Operator) (k : Node) → enable_of p o ≡ Some k → StandsInside s k
  enable-inside (Clamp t i) k e =
      let found = then_is (λ (x : Strategy). x.control) (slice_get p.intent.strategies t) k e in
      within.resolved.enables found.0 k (slice-in p.intent.strategies t found.0 found.1) found.2
  enable-inside (Shift t a b) k e = absurd cc

  save-inside : (t : Strategy) (k : Node) → IsIn t p.intent.strategies → node_in t.save ≡ Some k → StandsInside s k
  save-inside t k h e = let found = then_is (λ (x : Node × Action). Some x.0) t.save k e in subst (StandsInside s) (some-same found.0.0 k found.2) (within.resolved.saves t found.0 h found.1)

  restore-inside : (t : Strategy) (k : Node) → IsIn t p.intent.strategies → node_in t.restore ≡ Some k → StandsInside s k
  restore-inside t k h e = let found = then_is (λ (x : Node × Action). Some x.0) t.restore k e in subst (StandsInside s) (some-same found.0.0 k found.2) (within.resolved.restores t found.0 h found.1)

  kept-listed : (k : Kept) → IsIn k (plan p l).registers → IsIn k.strategy p.intent.strategies
  kept-listed k h = let r = retained p k.place k.strategy (is-kept p l k h).strategy in slice-in p.intent.strategies r.number k.strategy r.found

  scope : (w : Switching) → IsIn w (plan p l).switches → is_some (module_at s w.path) ≡ true
  scope w h = let is = is-planned-switch p l w h in ap (λ x. is_some (module_at s x)) is.path ∙ within.scopes w.asked is.listed

  below-there : (depth : ℕ) (q : Path) (m : ModuleView) → module_at s q ≡ Some m → (x : Path) → IsIn x (below s depth q) → is_some (module_at s x) ≡ true
  below-there zero q m e x h = absurd h
  below-there (suc depth) q m e x (inl is) = ap (λ z. is_some (module_at s z)) is ∙ ap is_some e
  below-there (suc depth) q m e x (inr h) =
      let c = of-flat (below s depth) x (children s q) h in
      let listed : IsIn c.0 (children_in s q (Some m)) = subst (λ o. IsIn c.0 (children_in s q o)) e c.1 in
      let y = of-map (λ (z : InstanceView). z.name ∷ q) c.0 (filter (λ (z : InstanceView). is_some (module_named s z.target)) m.instances) listed in
      let kept = of-filter (λ (z : InstanceView). is_some (module_named s z.target)) y.0 m.instances y.1 in
      let k = some-is (module_named s y.0.target) kept.1 in
      below-there depth c.0 k.0 (ap (module_at s) y.2 ∙ (module_below s read.netlist.names_apart q m e y.0 kept.0 ∙ k.1)) x c.2

  instance-there : (x : Path) → IsIn x (instances p) → is_some (module_at s x) ≡ true
  unfolding module_instances
  instance-there x h = let m = some-is (module_at s []) (top p l switch_command read good within) in below-there 64 [] m.0 m.1 x h

  -- a route is of a control that stands in an instance, and goes to an instance
  record IsLed (r : Route) : Type 0 where
    from : StandsInside s r.0
    to : is_some (module_at s r.1) ≡ true

  register-led : (k : Kept) → IsIn k (plan p l).registers → is_some (module_at s k.place.path) ≡ true
  register-led k h = instance-there k.place.path (cell-inside p k.place (is-kept p l k h).listed)

  to-led : (x : Path) (o : Option Node) (r : Route) → IsIn r (to_instance x o) → is_some (module_at s x) ≡ true → ((k : Node) → o ≡ Some k → StandsInside s k) → IsLed r
  to-led x o r h there from = let is = to-route x o r h in record { from = from r.0 is.0; to = ap (λ z. is_some (module_at s z)) is.1 ∙ there }

  enables : List Route
  enables = flat_map (λ (o : Standing). to_instance o.path (enable_of p o.asked.operator)) (plan p l).operators

  registers : List Route
  registers = flat_map (λ (k : Kept). to_instance k.place.path (node_in k.strategy.save) ++ to_instance k.place.path (node_in k.strategy.restore)) (plan p l).registers

  switches : List Route
  switches = map (λ (w : Switching). (w.asked.control, w.path)) (plan p l).switches

  route-led : (r : Route) → IsIn r (routes p (plan p l)) → IsLed r
  unfolding enables registers switches
  route-led r h = elim (in-either r enables (registers ++ switches) h) [
    | inl e ↦
        let o = of-flat (λ (o : Standing). to_instance o.path (enable_of p o.asked.operator)) r (plan p l).operators e in
        let m = (stands-planned p l o.0 o.1).inner in
        to-led o.0.path (enable_of p o.0.asked.operator) r o.2 (ap is_some m.at) (enable-inside o.0.asked.operator)
    | inr rest ↦ elim (in-either r registers switches rest) [
      | inl g ↦
          let k = of-flat (λ (k : Kept). to_instance k.place.path (node_in k.strategy.save) ++ to_instance k.place.path (node_in k.strategy.restore)) r (plan p l).registers g in
          let there = register-led k.0 k.1 in
          elim (in-either r (to_instance k.0.place.path (node_in k.0.strategy.save)) (to_instance k.0.place.path (node_in k.0.strategy.restore)) k.2) [
            | inl u ↦ to-led k.0.place.path (node_in k.0.strategy.save) r u there (λ n e. save-inside k.0.strategy n (kept-listed k.0 k.1) e)
            | inr u ↦ to-led k.0.place.path (node_in k.0.strategy.restore) r u there (λ n e. restore-inside k.0.strategy n (kept-listed k.0 k.1) e)
          ]
      | inr g ↦
          let w = of-map (λ (w : Switching). (w.asked.control, w.path)) r (plan p l).switches g in
          record {
            from = subst (StandsInside s) (ap (λ (z : Route). z.0) (sym w.2)) (switch-inside p read.controls w.0.asked (is-planned-switch p l w.0 w.1).listed);
            to = ap (λ (z : Route). is_some (module_at s z.1)) w.2 ∙ scope w.0 w.1;
          }
    ]
  ]

  is-control-by : (k : Node) → StandsInside s k → is_control k ≡ true
  is-control-by (Inner n i x) there = refl
  is-control-by (Outer n i) there = absurd there
  is-control-by (Fixed b) there = refl

  -- what is led is a net bit of an instance or a constant
  pub route-control : (r : Route) → IsIn r (routes p (plan p l)) → is_control r.0 ≡ true
  route-control r h = is-control-by r.0 (route-led r h).from

  -- ---- parts

  above-there : (x y : Path) → is_some (module_at s x) ≡ true → is_above y x ≡ true → is_some (module_at s y) ≡ true
  above-there x y there over = let m = some-is (module_at s x) there in above-at s x y over m.0 m.1

  part-there : (t : Part) → IsIn t (additions p l).controls → is_some (module_at s t.path) ≡ true
  part-there t h = by (is-part p l t h)
    where
      by : IsPartOf (routes p (plan p l)) t → is_some (module_at s t.path) ≡ true
      by of = go of.on
        where
          led : IsLed (Inner of.name of.index of.own, of.to)
          led = route-led (Inner of.name of.index of.own, of.to) of.listed

          go : IsOnRoute (Inner of.name of.index of.own) of.own (common of.own of.to) of.to t → is_some (module_at s t.path) ≡ true
          go (GoesUp kind on) = above-there of.own t.path led.from (up-above of.own (common of.own of.to) t.path on)
          go (Crosses kind on) = above-there of.own t.path led.from (ap (λ z. is_above z of.own) on ∙ common-left of.own of.to)
          go (GoesDown kind on) = above-there of.to t.path led.to (up-above of.to (common of.own of.to) t.path on)

  not-below : (t : Part) → IsIn t (additions p l).controls → t.kind ≡ PortOut → t.path ≡ [] → ⊥
  not-below t h out e = let of = is-part p l t h in go of.own (common of.own of.to) of.to (Inner of.name of.index of.own) of.on
    where
      go : (own c x : Path) (k : Node) → IsOnRoute k own c x t → ⊥
      go own c x k (GoesUp kind on) = up-below own c t.path on e
      go own c x k (Crosses kind on) = let wrong : Between ≡ PortOut = sym kind ∙ out in absurd cc
      go own c x k (GoesDown kind on) = let wrong : PortIn ≡ PortOut = sym kind ∙ out in absurd cc

  -- a net bit of an instance, which declares it, has a free name
  bit-free : (k : Node) → StandsInside s k → IsNetBit s k → IsFreeNode k
  bit-free (Inner n i x) there declared = let m = some-is (module_at s x) there in free-in p l switch_command read good within x m.0 n i m.1 (declared m.0 m.1)
  bit-free (Outer n i) there declared = absurd there
  bit-free (Fixed b) there declared = tt

  control-free : (t : Part) → IsIn t (additions p l).controls → IsFreeNode t.control
  control-free t h =
      let of = is-part p l t h in
      let led = route-led (Inner of.name of.index of.own, of.to) of.listed in
      bit-free t.control (subst (StandsInside s) (sym of.control) led.from) (part-good p within.controls l t h)

  -- ---- users

  use-at : (x : Path) (pins : List (Name × ℕ)) (u : Use) → IsIn u (uses_at x pins) → u.0 ≡ x
  use-at x pins u h = let q = of-map (λ (q : Name × ℕ). (x, q.1)) u pins h in ap (λ (z : Use). z.0) q.2

  of-cells : List Use
  of-cells = flat_map (λ (c : Placed). uses_at c.path (source_pins p (plan p l) c)) (cell_instances s)

  of-operators : List Use
  of-operators = flat_map (λ (o : Standing). uses_at o.path (operator_pins p o)) (plan p l).operators

  of-switches : List Use
  of-switches = flat_map (λ (w : Switching). uses_at w.path (switch_pins p w)) (plan p l).switches

  at-instance : (x y : Path) → x ≡ y → IsIn y (instances p) → IsIn x (instances p)
  at-instance x y e h = subst (λ z. IsIn z (instances p)) (sym e) h

  user-there : (u : Use) → IsIn u (additions p l).uses → IsIn u.0 (instances p)
  unfolding of-cells of-operators of-switches
  user-there u h = elim (in-either u of-cells (of-operators ++ of-switches) h) [
    | inl l1 ↦ let c = of-flat (λ (c : Placed). uses_at c.path (source_pins p (plan p l) c)) u (cell_instances s) l1 in at-instance u.0 c.0.path (use-at c.0.path (source_pins p (plan p l) c.0) u c.2) (cell-inside p c.0 c.1)
    | inr r1 ↦ elim (in-either u of-operators of-switches r1) [
      | inl l2 ↦
          let o = of-flat (λ (o : Standing). uses_at o.path (operator_pins p o)) u (plan p l).operators l2 in
          let m = (stands-planned p l o.0 o.1).inner in
          at-instance u.0 o.0.path (use-at o.0.path (operator_pins p o.0) u o.2) (inside p l switch_command read good within o.0.path m.inner m.at)
      | inr r2 ↦
          let w = of-flat (λ (w : Switching). uses_at w.path (switch_pins p w)) u (plan p l).switches r2 in
          at-instance u.0 w.0.path (use-at w.0.path (switch_pins p w.0) u w.2) (inside-some p l switch_command read good within w.0.path (scope w.0 w.1))
    ]
  ]

  pub has-places : HasPlaces p (additions p l)
  has-places = record {
    top = top p l switch_command read good within;
    switches = λ w h. inside-some p l switch_command read good within w.path (scope w h);
    parts = λ t h. inside-some p l switch_command read good within t.path (part-there t h);
    below = not-below;
    controls = control-free;
    users = user-there;
    assigned = λ x m q b e h g. free-bit p l switch_command read good within x m b e (read.netlist.assigned x m q b e h g);
  }
