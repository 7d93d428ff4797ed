-- A net bit that is driven from an input port of its instance is that of a wire that comes in there.
use Rattle.std.proofs.Common.{◌≡◌, ◌<◌, ◌≤◌, ℕ, zero, suc, ◌+◌, ◌-◌, Bool, true, false, not, ◌&&◌, ◌||◌, cond, List, [], ◌∷◌, ◌++◌, map, length, take, drop, Option, Some, None, inl, inr, refl, sym, ◌∙◌, ap, subst, arith}
use Rattle.std.specs.Prelude.{bytes_eq, filter, slice_get, unwrap_or, option_and_then, if◌then◌else◌}
use Rattle.std.specs.List.{list_any}
use Rattle.std.proofs.lemmas.Bool.{both_ways, not-true}
use Rattle.lp_model.specs.declared.netlist.Direction.TheVariants.{Input, Output}
use Rattle.lp_model.specs.NetlistView.{BitView, NetBit, PortView, InstanceView, ModuleView}
use Rattle.lp_spec_design.specs.Keys.{Name, Path, same_path, same_index, same_bool, Node, Inner, Outer, Way, PortBit, AssignBit, same_way, Source, From}
use Rattle.lp_spec_design.specs.Netlists.{Structure, first, module_named, instance_named, module_at, indices, node_of, connected, is_input}
use Rattle.lp_spec_design.specs.Graph.{pairs, and_more, some_of, when, numbered, from_port, ports_in, source_of}
use Rattle.lp_spec_design.specs.Intents.{Origin, FromPort, FromSwitch}
use Rattle.lp_spec_design.specs.Registers.{is_above}
use Rattle.lp_spec_design.specs.Domains.{BoundaryBit, boundary, way_of}
use Rattle.lp_spec_design.specs.Reads.{name-self, name-true, path-true, path-self, index-true, one, other}
use Rattle.lp_spec_design.specs.Winners.{IsIn}
use Rattle.lp_spec_design.proofs.Members.{in-either, of-flat, of-filter, of-some, of-when, of-pairs}
use Rattle.lp_spec_design.proofs.Sources.{then_is}
use Rattle.lp_spec_realises.specs.Projects.{Project, network_of, port_of_origin}
use Rattle.lp_spec_realises.specs.Operators.{Placement}
use Rattle.lp_spec_realises.specs.Implements.{parent_of}
use Rattle.lp_spec_written.specs.Places.{instances, Standing, Switching}
use Rattle.lp_spec_written.specs.Nets.{is_inside, led}
use Rattle.lp_spec_written.specs.Supplies.{has_port_of, goes_out, goes_in, scalar, switch_net, switch_port, switch_of, origin_port, port_by_kind, origin_bits, bits_by_kind}
use Rattle.lp_spec_written.specs.Routes.{Part, Kind, PortOut, Between, PortIn, has_part, parts_in, control_net, port_of_kind, control_port, control_ports}
use Rattle.lp_spec_written.specs.Written.{Additions, added_supply_ports, written_module}
use Rattle.lp_spec_hub.specs.Spots.{Spot, OfNode, Before, Carried, Routed, on_way, is_behind}
use Rattle.lp_spec_hub.specs.Drives.{own_instance, part_at}
use Rattle.lp_spec_hub.proofs.Paths.{top-above}
use Rattle.lp_spec_wired.specs.Contents.{IsContent, IsWrittenAt}
use Rattle.lp_spec_wired.specs.Names.{is_stretch, node_at, place_on, name_at, name_on, name_before, name_by}
use Rattle.lp_spec_wired.specs.Laws.{StandsFor, IsOnlyInput, IsOneWay}
use Rattle.lp_spec_wired.proofs.Lists.{at-numbered}
use Rattle.lp_spec_wired.proofs.Inputs.{joined-port, port-first}
use Rattle.lp_spec_wired.proofs.Down.{child}
use Rattle.lp_spec_wired.proofs.Led.{it, connected-there, first-alone}
use Rattle.lp_spec_wired.proofs.Chains.{in-filter, is-of, way-true, boundary-port, has-operator, on-its-way}
use Rattle.lp_spec_wired.proofs.Kept.{inner-links, own-node, inputs-come-down, inner-reads-come-down}
use Rattle.lp_spec_wired.proofs.Tops.{top-inputs-come-in, top-reads-come-in}
use Rattle.lp_spec_wired.proofs.Supplies.{ports-come-down, switches-come-down}
use Rattle.lp_spec_wired.proofs.Controls.{controls-come-down}
use Rattle.lp_spec_wired.proofs.Wires.{own}
use Rattle.lp_spec_wired.proofs.Bits.{node-by}
use Rattle.lp_spec_wired.proofs.Others.{supply-name}
use Rattle.lp_spec_written_at.proofs.Modules.{in-instances}
use Rattle.lp_spec_driven.specs.Wires.{IsThere}
use Rattle.lp_spec_driven.specs.Sound.{IsProper, node_ahead, ahead_by, behind_by}
use Rattle.lp_spec_driven.proofs.Sources.{of-when-is}
use Rattle.lp_spec_driven.proofs.Operators.{slice-in}
use Rattle.lp_spec_driven.proofs.Outputs.{led-pairs}
use Rattle.lp_spec_driven.proofs.Parts.{is-made, has-it, place-name}
use Rattle.lp_spec_driven.proofs.Edges.{Edge, edge-of, in-get, path_of_way, name_of_way, bit_of_port}

-- a wire that is there, with this net bit, which has as source what drives the wire
pub record ComesInBy (p : Project) (a : Additions) (w : Structure) (at : Placement) (from : Way → Node) (k : Node) : Type 0 where
  pub wire : Spot
  pub there : IsThere p a wire
  pub name : name_by p a wire ≡ k
  pub stands : StandsFor p a w at from wire

-- ---- lists

get-less : {A : Type 0} (xs : List A) (k : ℕ) (l : ℕ) (z : A) → slice_get xs l ≡ Some z → k ≤ l → (x : A) × (slice_get xs k ≡ Some x)
get-less [] k l z g h = absurd cc
get-less (x ∷ xs) zero l z g h = (x, refl)
get-less (x ∷ xs) (suc k) zero z g h = absurd (omega (arith, h))
get-less (x ∷ xs) (suc k) (suc l) z g h = get-less xs k l z g (omega (arith, h))

take-drop : {A : Type 0} (k : ℕ) (xs : List A) → xs ≡ take k xs ++ drop k xs
take-drop zero xs = refl
take-drop (suc k) [] = refl
take-drop (suc k) (x ∷ xs) = ap (λ r. x ∷ r) (take-drop k xs)

in-take : {A : Type 0} (k : ℕ) (xs : List A) (x : A) → IsIn x (take k xs) → (l : ℕ) × (l < k) × (slice_get xs l ≡ Some x)
in-take zero xs x h = absurd h
in-take (suc k) [] x h = absurd h
in-take (suc k) (y ∷ xs) x (inl is) = (0, omega arith, ap (λ z. Some z) (sym is))
in-take (suc k) (y ∷ xs) x (inr h) = let found = in-take k xs x h in let less = found.1 in (suc found.0, omega (arith, less), found.2)

in-drop : {A : Type 0} (k : ℕ) (xs : List A) (x : A) → IsIn x (drop k xs) → (l : ℕ) × (k ≤ l) × (slice_get xs l ≡ Some x)
in-drop zero xs x h = let found = in-get xs x h in (found.0, omega arith, found.1)
in-drop (suc k) [] x h = absurd h
in-drop (suc k) (y ∷ xs) x h = let found = in-drop k xs x h in let low = found.1 in (suc found.0, omega (arith, low), found.2)

drop-head : {A : Type 0} (k : ℕ) (xs : List A) (o : A) (rest : List A) → drop k xs ≡ o ∷ rest → slice_get xs k ≡ Some o
drop-head zero xs o rest e = ap (λ l. slice_get l 0) e
drop-head (suc k) [] o rest e = absurd cc
drop-head (suc k) (x ∷ xs) o rest e = drop-head k xs o rest e

take-long : {A : Type 0} (xs : List A) (k : ℕ) → k ≤ length xs → length (take k xs) ≡ k
take-long xs zero h = refl
take-long [] (suc k) h = absurd (omega (arith, h))
take-long (x ∷ xs) (suc k) h = ap suc (take-long xs k (omega (arith, h)))

none-pass : {A : Type 0} (t : A → Bool) (xs : List A) → ((x : A) → IsIn x xs → t x ≡ false) → length (filter t xs) ≡ 0
none-pass t [] none = refl
none-pass t (x ∷ xs) none = ap (λ b. length (cond b (x ∷ filter t xs) (filter t xs))) (none x (inl refl)) ∙ none-pass t xs (λ y h. none y (inr h))

abbrev way_at : Path → Way → Option ℕ → Option ℕ × BitView → Option Source
way_at x way i z = when (same_index z.0 i) (From way (node_of x z.1))

-- ---- an input port of the source

module _ (p : Project) (a : Additions) (w : Structure) (at : Placement) (from : Way → Node) (written : IsWrittenAt p a w) (proper : IsProper p a from) (x : Path) (m : ModuleView) (e : module_at p.structure x ≡ Some m)
    (q : PortView) (q_in : IsIn q m.ports) (input : is_input q ≡ true) (i : Option ℕ) where
  abbrev s : Structure
  s = p.structure

  abbrev way : Way
  way = PortBit x q.name i

  abbrev self : Node
  self = Inner q.name i x

  abbrev here : List Standing
  here = on_way a.plan.operators way

  alone : filter (λ (r : PortView). bytes_eq r.name q.name) m.ports ≡ q ∷ []
  alone = proper.plain.ports x m q e q_in

  only : IsOnlyInput m q
  only = record { listed = q_in; input = input; alone = alone }

  there : IsIn x (instances p)
  there = in-instances p a proper.fit.free proper.fit.listed x m e

  on-plan : (o : Standing) → IsIn o here → IsIn o a.plan.operators × (way_of o.asked.bit ≡ way)
  on-plan o g = let found = of-filter (λ (t : Standing). same_way (way_of t.asked.bit) way) o a.plan.operators g in (found.0, way-true (way_of o.asked.bit) way found.1)

  port-is : (b : BoundaryBit) → IsIn b (boundary p.structure p.intent) → way_of b ≡ way → b.port ≡ q
  port-is b h is =
      let port = boundary-port p b m h (ap (λ v. module_at p.structure (path_of_way v)) is ∙ e) in
      elim (subst (λ l. IsIn b.port l) alone (in-filter (λ (r : PortView). bytes_eq r.name q.name) m.ports b.port port (ap (λ v. bytes_eq (name_of_way v) q.name) is ∙ name-self q.name))) [ inl same ↦ same | inr none ↦ absurd none ]

  side-is : (o : Standing) → IsIn o here → is_behind o ≡ same_path o.path x
  side-is o h =
      let on = on-plan o h in
      ap (λ t. same_bool t (is_inside o.path o.asked.bit)) (ap is_input (port-is o.asked.bit (proper.names.chains.bits o on.0) on.1) ∙ input)
      ∙ ap (λ v. same_path o.path (path_of_way v)) on.1

  inside-is : (o : Standing) → IsIn o here → is_behind o ≡ true → o.path ≡ x
  inside-is o h side = path-true o.path x (sym (side-is o h) ∙ side)

  -- it keeps its name where no operator stands inside
  keeps-name : ((o : Standing) → IsIn o here → is_behind o ≡ false) → name_by p a (OfNode self) ≡ self
  keeps-name none = elim (node-by p a proper.names.chains q.name i x) [
    | inr u ↦ u.is
    | inl u ↦
        let some = has-operator p a.plan u.s u.listed in
        let found = on-its-way p a.plan u.s u.listed some.0 some.1 in
        let its_way : way_of u.s.bit ≡ way = ap (λ r. PortBit r u.s.bit.port.name u.s.bit.index) (sym (path-true u.s.path u.s.bit.path u.within) ∙ u.path)
        ∙ (ap (λ r. PortBit x r u.s.bit.index) u.name ∙ ap (PortBit x q.name) u.index) in
        let on : IsIn some.0 here = subst (λ v. IsIn some.0 (on_way a.plan.operators v)) its_way found.0 in
        absurd (both_ways (is_behind some.0) (none some.0 on) (side-is some.0 on ∙ (ap (λ v. same_path v x) (found.1 ∙ u.path) ∙ path-self x)))
  ]

  -- what the first operator inside reads is the port's own net bit
  first-reads : (k : ℕ) (o : Standing) → slice_get here k ≡ Some o → is_behind o ≡ true → ((r : Standing) → IsIn r (take k here) → is_behind r ≡ false) → name_by p a (Before way k) ≡ self
  first-reads k o f side none =
      let o_on = slice-in here k o f in
      let lies = inside-is o o_on side in
      let its = own p a proper.names.chains proper.names.stand proper.names.bits way k o f in
      let t = its.s in
      let t_path : its.s.path ≡ x = its.path_is ∙ lies in
      let port : is_input its.s.bit.port ≡ true = ap is_input (port-is its.s.bit (is-of p a.plan its.s its.listed).0.bit its.way_is) ∙ input in
      let within : is_inside its.s.path its.s.bit ≡ true = ap (λ u. is_inside u its.s.bit) t_path ∙ (ap (λ v. same_path x (path_of_way v)) its.way_is ∙ path-self x) in
      let place : place_on here k x ≡ 0 = none-pass (λ (r : Standing). same_path r.path x) (take k here) (λ r h. let l = in-take k here r h in sym (side-is r (slice-in here l.0 r l.2)) ∙ none r h) in
      ap (name_before p a.chains here way k) f
      ∙ (ap (λ u. name_on p a.chains way u (place_on here k u)) lies
      ∙ (ap (name_on p a.chains way x) place
      ∙ (ap (name_at p a.chains x 0) (ap (λ u. first (is_stretch way u) a.chains) (sym lies) ∙ (ap (first (is_stretch way o.path)) proper.names.chains.chains ∙ its.found))
      ∙ (ap (λ l. node_at x (unwrap_or (slice_get l 0) [])) (inner-links p a.chains its.s port within)
      ∙ (own-node its.s.bit.port.name its.s.bit.index x
      ∙ ap node_in its.way_is)))))
    where
      node_in : Way → Node
      node_in (PortBit u n j) = Inner n j x
      node_in (AssignBit u j l) = self

  -- the way comes from there
  comes-from : (o : Standing) → IsIn o here → (b : Path) → x ≡ b → from way ≡ ahead_by s o.asked.bit b true
  comes-from o h b is =
      let on = on-plan o h in
      ap from (sym on.1)
      ∙ (proper.comes o on.0
      ∙ (ap (λ u. ahead_by s o.asked.bit u (is_input o.asked.bit.port)) (ap path_of_way on.1 ∙ is)
      ∙ ap (ahead_by s o.asked.bit b) (ap is_input (port-is o.asked.bit (proper.names.chains.bits o on.0) on.1) ∙ input)))

  free : IsThere p a (OfNode self)
  free = proper.plain.leaves.ports x m q e q_in

  abbrev edge : Edge is_behind here
  edge = edge-of is_behind here

  -- from the edge on all stand inside
  later : (l : ℕ) (k : ℕ) (o r : Standing) → slice_get here k ≡ Some o → is_behind o ≡ true → slice_get here (l + k) ≡ Some r → is_behind r ≡ true
  later zero k o r f side g =
      let at_k : k ≡ 0 + k = omega arith in
      let same : Some o ≡ Some r = sym f ∙ (ap (slice_get here) at_k ∙ g) in
      let is : o ≡ r = cc in
      ap is_behind (sym is) ∙ side
  later (suc l) k o r f side g =
      let at_next : suc (l + k) ≡ suc l + k = omega arith in
      let following : slice_get here (suc (l + k)) ≡ Some r = ap (slice_get here) at_next ∙ g in
      let before = get-less here (l + k) (suc (l + k)) r following (omega arith) in
      proper.on_ways.flow way (l + k) before.0 r before.1 following (later l k o before.0 f side before.1)

  front-out : (o : Standing) → IsIn o (take edge.k here) → is_behind o ≡ false
  front-out o h = let found = in-take edge.k here o h in edge.front found.0 o found.1 found.2

  rest-in : (o : Standing) → IsIn o (drop edge.k here) → is_behind o ≡ true
  rest-in o h =
      let found = in-drop edge.k here o h in
      let low = found.1 in
      let start = get-less here edge.k found.0 o found.2 low in
      later (found.0 - edge.k) edge.k start.0 o start.1 (edge.next start.0 start.1) (ap (slice_get here) (omega (arith, low)) ∙ found.2)

  abbrev Result : Type 0
  Result = ComesInBy p a w at from self

  split : here ≡ take edge.k here ++ drop edge.k here
  split = take-drop edge.k here

  side-all : (o : Standing) → drop edge.k here ≡ [] → IsIn o here → is_behind o ≡ false
  side-all o none h = elim (in-either o (take edge.k here) (drop edge.k here) (subst (λ l. IsIn o l) split h)) [ inl l ↦ front-out o l | inr r ↦ absurd (subst (λ l. IsIn o l) none r) ]

  -- ---- by the instance

  module _ (at_top : x ≡ []) where
    top : module_at p.structure [] ≡ Some m
    top = ap (module_at p.structure) (sym at_top) ∙ e

    abbrev top_way : Way
    top_way = PortBit [] q.name i

    way-is : way ≡ top_way
    way-is = ap (λ u. PortBit u q.name i) at_top

    from-top : list_any (same_index i) (indices q.range) ≡ true → (os : List Standing) → here ≡ os → Result
    from-top ranged [] none = record {
      wire = OfNode self;
      there = free;
      name = keeps-name (λ o h. absurd (subst (λ l. IsIn o l) none h));
      stands = subst (λ u. StandsFor p a w at from (OfNode (Inner q.name i u))) (sym at_top) (top-inputs-come-in p a w at from written proper.names.chains m top q i only ranged (ap (on_way a.plan.operators) (sym way-is) ∙ none));
    }
    from-top ranged (o ∷ more) list =
        let o_on : IsIn o here = subst (λ l. IsIn o l) (sym list) (inl refl) in
        let on = on-plan o o_on in
        let own : o.asked.bit.path ≡ [] = ap path_of_way on.1 ∙ at_top in
        let lies : o.path ≡ [] = elim (proper.on_ways.near o on.0) [ inl u ↦ u ∙ own | inr u ↦ u ∙ ap parent_of own ] in
        let side : is_behind o ≡ true = side-is o o_on ∙ (ap (λ u. same_path u x) (lies ∙ sym at_top) ∙ path-self x) in
        let first_at : slice_get here 0 ≡ Some o = ap (λ l. slice_get l 0) list in
        let comes : from top_way ≡ Outer q.name i = ap from (sym way-is) ∙ (comes-from o o_on [] at_top ∙ ap outer_of on.1) in
        record {
          wire = Before way 0;
          there = record { operator = o; at = first_at; side = side };
          name = first-reads 0 o first_at side (λ r h. absurd h);
          stands = subst (λ v. StandsFor p a w at from (Before v 0)) (sym way-is)
              (top-reads-come-in p a w at from written proper.names.chains proper.names.stand proper.names.bits m top q i only ranged o more (ap (on_way a.plan.operators) (sym way-is) ∙ list) lies comes);
        }
      where
        outer_of : Way → Node
        outer_of (PortBit u n j) = Outer n j
        outer_of (AssignBit u j l) = self

  module _ (inst : Name) (up : Path) (below : x ≡ inst ∷ up) where
    inner : module_at p.structure (inst ∷ up) ≡ Some m
    inner = ap (module_at p.structure) (sym below) ∙ e

    abbrev low_way : Way
    low_way = PortBit (inst ∷ up) q.name i

    low-is : way ≡ low_way
    low-is = ap (λ u. PortBit u q.name i) below

    above : IsIn up (instances p)
    above =
        let parent = then_is (λ (k : ModuleView). option_and_then (λ (z : InstanceView). module_named p.structure z.target) (instance_named k inst)) (module_at p.structure up) m inner in
        in-instances p a proper.fit.free proper.fit.listed up parent.0 parent.1

    outside-is : (o : Standing) → IsIn o here → is_behind o ≡ false → o.path ≡ up
    outside-is o h side =
        let on = on-plan o h in
        elim (proper.on_ways.near o on.0) [
          | inl own ↦ absurd (both_ways (is_behind o) side (side-is o h ∙ (ap (λ u. same_path u x) (own ∙ ap path_of_way on.1) ∙ path-self x)))
          | inr u ↦ u ∙ (ap (λ v. parent_of (path_of_way v)) on.1 ∙ ap parent_of below)
        ]

    from-parent : (j : Node) (more : List Source) → from_port p.structure (inst ∷ up) q.name i q ≡ From low_way j ∷ more → (os : List Standing) → drop edge.k here ≡ os → Result
    from-parent j more joined [] none = record {
      wire = OfNode self;
      there = free;
      name = keeps-name (λ o h. side-all o none h);
      stands = subst (λ u. StandsFor p a w at from (OfNode (Inner q.name i u))) (sym below)
          (inputs-come-down p a w at from written proper.plain.leaves proper.names.chains inst up m inner above q i only
          (λ o h. let o_on = subst (λ v. IsIn o (on_way a.plan.operators v)) (sym low-is) h in outside-is o o_on (side-all o none o_on)) j more joined);
    }
    from-parent j more joined (o ∷ rest) list =
        let o_at : slice_get here edge.k ≡ Some o = drop-head edge.k here o rest list in
        let side = rest-in o (subst (λ l. IsIn o l) (sym list) (inl refl)) in
        let o_on = slice-in here edge.k o o_at in
        let on = on-plan o o_on in
        let long : length (take edge.k here) ≡ edge.k = take-long here edge.k edge.within in
        let source : source_of p.structure (Inner q.name i (inst ∷ up)) ≡ Some (From low_way j) = port-first p.structure (inst ∷ up) q.name i m q (From low_way j) more inner (first-alone q.name m.ports q alone input) joined in
        let leads : source_of p.structure (Inner q.name i (inst ∷ up)) ≡ Some (From low_way (ahead_by s o.asked.bit (inst ∷ up) true)) =
        ap (source_of s) (sym (ap (behind_by s o.asked.bit o.asked.bit.path) (port-in o o_on) ∙ (ap bit_of_port on.1 ∙ ap (Inner q.name i) below)))
        ∙ (proper.on_ways.leads o on.0
        ∙ (ap (λ v. Some (From v (node_ahead s o.asked.bit))) (on.1 ∙ low-is)
        ∙ ap (λ k. Some (From low_way k)) (ap (λ u. ahead_by s o.asked.bit u (is_input o.asked.bit.port)) (ap path_of_way on.1 ∙ below) ∙ ap (ahead_by s o.asked.bit (inst ∷ up)) (port-in o o_on)))) in
        let same : j ≡ ahead_by s o.asked.bit (inst ∷ up) true = same-node (sym source ∙ leads) in
        let comes : from low_way ≡ j = ap from (sym low-is) ∙ (comes-from o o_on (inst ∷ up) below ∙ sym same) in
        record {
          wire = Before way edge.k;
          there = record { operator = o; at = o_at; side = side };
          name = first-reads edge.k o o_at side front-out;
          stands =
              subst (λ k. StandsFor p a w at from (Before way k)) long
              (subst (λ v. StandsFor p a w at from (Before v (length (take edge.k here)))) (sym low-is)
              (inner-reads-come-down p a w at from written proper.plain.leaves proper.names.chains inst up m inner above (subst (λ u. IsIn u (instances p)) below there) q i only (take edge.k here) o rest
              (record {
                all = ap (on_way a.plan.operators) (sym low-is) ∙ (split ∙ ap (λ l. take edge.k here ++ l) list);
                outside = λ r h. let l = in-take edge.k here r h in outside-is r (slice-in here l.0 r l.2) (front-out r h);
                inside = λ r h. let h2 = subst (λ l. IsIn r l) (sym list) h in let l = in-drop edge.k here r h2 in inside-is r (slice-in here l.0 r l.2) (rest-in r h2) ∙ below;
              })
              j more joined comes));
        }
      where
        port-in : (r : Standing) → IsIn r here → is_input r.asked.bit.port ≡ true
        port-in r h = let on = on-plan r h in ap is_input (port-is r.asked.bit (proper.names.chains.bits r on.0) on.1) ∙ input

        way-node : Option Source → Node
        way-node (Some (From v k)) = k
        way-node _ = self

        same-node : {k l : Node} → Some (From low_way k) ≡ Some (From low_way l) → k ≡ l
        same-node g = ap way-node g

    -- the source has a way in there as well
    source-way : (zs : List (Option ℕ × BitView)) (z : Source) → IsIn z (some_of (way_at up low_way i) (map (λ (v : Option ℕ × BitView). (v.0, led a.chains up (inst ∷ up) q.name v.0 v.1)) zs))
        → (j : Node) × (more : List Source) × (some_of (way_at up low_way i) zs ≡ From low_way j ∷ more)
    source-way [] z h = absurd h
    source-way (v ∷ zs) z h = by (same_index v.0 i) refl h (source-way zs z)
      where
        by : (d : Bool) → same_index v.0 i ≡ d
            → IsIn z (and_more (when d (From low_way (node_of up (led a.chains up (inst ∷ up) q.name v.0 v.1)))) (some_of (way_at up low_way i) (map (λ (u : Option ℕ × BitView). (u.0, led a.chains up (inst ∷ up) q.name u.0 u.1)) zs)))
            → (IsIn z (some_of (way_at up low_way i) (map (λ (u : Option ℕ × BitView). (u.0, led a.chains up (inst ∷ up) q.name u.0 u.1)) zs)) → (j : Node) × (more : List Source) × (some_of (way_at up low_way i) zs ≡ From low_way j ∷ more))
            → (j : Node) × (more : List Source) × (and_more (when d (From low_way (node_of up v.1))) (some_of (way_at up low_way i) zs) ≡ From low_way j ∷ more)
        by true is g more = (node_of up v.1, some_of (way_at up low_way i) zs, refl)
        by false is g more = more g

    from-written : (z : Source) → IsIn z (from_port w (inst ∷ up) q.name i q) → Result
    from-written z h =
        let child = it p a proper.plain.leaves w written inst up m inner q q_in input alone i in
        let listed = subst (λ l. IsIn z l) (
        joined-port w inst up q.name i q child.here child.outer child.written child.is child.outer_is child.named
        ∙ (ap (λ b. some_of (way_at up low_way i) (pairs (indices q.range) b)) (connected-there p a proper.plain.leaves w written inst up m inner q q_in input alone i)
        ∙ ap (some_of (way_at up low_way i)) (led-pairs a.chains up (inst ∷ up) q.name (indices q.range) (connected m.ports q.name child.instance.connections)))) h in
        let found = source-way (pairs (indices q.range) (connected m.ports q.name child.instance.connections)) z listed in
        from-parent found.0 found.1 (joined-port p.structure inst up q.name i q m child.source child.instance inner child.above child.found ∙ found.2) (drop edge.k here) refl

-- ---- added input ports

switch-input : (out into : Bool) (n : Name) (q : PortView) → (if out then Some (scalar n Output) else when into (scalar n Input)) ≡ Some q → is_input q ≡ true → (into ≡ true) × (q ≡ scalar n Input)
switch-input true into n q e f = let is : q ≡ scalar n Output = cc in absurd (both_ways (is_input q) (ap is_input is) f)
switch-input false into n q e f = (of-when into (scalar n Input) q e, of-when-is into (scalar n Input) q e)

part-input : (k : ℕ) (kind : Kind) (q : PortView) → port_of_kind k kind ≡ Some q → is_input q ≡ true → (kind ≡ PortIn) × (q ≡ scalar (control_net k) Input)
part-input k PortOut q e f = let is : q ≡ scalar (control_net k) Output = cc in absurd (both_ways (is_input q) (ap is_input is) f)
part-input k Between q e f = absurd cc
part-input k PortIn q e f = let is : q ≡ scalar (control_net k) Input = cc in (refl, is)

or-none : (b : Bool) → (b || false) ≡ b
or-none true = refl
or-none false = refl

module _ (p : Project) (a : Additions) (w : Structure) (at : Placement) (from : Way → Node) (written : IsWrittenAt p a w) (proper : IsProper p a from) (x : Path) (m here : ModuleView) (e : module_at p.structure x ≡ Some m) (f : module_at w x ≡ Some here) where
  content : IsContent w x (written_module p a x m) here
  content =
      let there = written.modules x m e in
      let same : Some there.here ≡ Some here = sym there.is ∙ f in
      let is : there.here ≡ here = cc in
      subst (IsContent w x (written_module p a x m)) is there.content

  -- a scalar has one bit
  no-index : (u : Path) → x ≡ u → (n : Name) (i : Option ℕ) (z : Source) → IsIn z (from_port w u n i (scalar n Input)) → i ≡ None
  no-index [] below n i z h = by (same_index i None || false) refl h
    where
      by : (d : Bool) → (same_index i None || false) ≡ d → IsIn z (if d then From (PortBit [] n i) (Outer n i) ∷ [] else []) → i ≡ None
      by true is g = index-true i None (sym (or-none (same_index i None)) ∙ is)
      by false is g = absurd g
  no-index (inst ∷ up) below n i z h =
      let it = child p a proper.plain.leaves w written inst up m (ap (module_at p.structure) (sym below) ∙ e) in
      let listed = subst (λ l. IsIn z l) (joined-port w inst up n i (scalar n Input) it.here it.outer it.written it.is it.outer_is it.named) h in
      let found = of-some (λ (v : Option ℕ × BitView). when (same_index v.0 i) (From (PortBit (inst ∷ up) n i) (node_of up v.1))) z (pairs (None ∷ []) (connected it.here.ports n it.written.connections)) listed in
      let two = of-pairs found.0 (None ∷ []) (connected it.here.ports n it.written.connections) found.1 in
      let first_one : found.0.0 ≡ None = elim two.0 [ inl same ↦ same | inr none ↦ absurd none ] in
      sym (sym first_one ∙ index-true found.0.0 i (of-when (same_index found.0.0 i) (From (PortBit (inst ∷ up) n i) (node_of up found.0.1)) z found.2))

  abbrev ByName : Name → Type 0
  ByName n = ComesInBy p a w at from (Inner n None x)

  switch-in : (o input : ℕ) (control : Node) (high : Bool) → slice_get (network_of p).origins o ≡ Some (FromSwitch input control high) → (s : Switching) → switch_of a.plan o ≡ Some s → goes_in a.uses s x ≡ true → (u : Path) → x ≡ u → ByName (switch_net s)
  switch-in o input control high kind s its into [] below =
      absurd (both_ways (is_above x s.path) (not-true _ (other _ (not (is_above x s.path)) into)) (ap (λ q. is_above q s.path) below ∙ top-above s.path))
  switch-in o input control high kind s its into (inst ∷ up) below =
      let bits : origin_bits p a.plan o ≡ NetBit (switch_net s) ∷ [] = ap (λ k. bits_by_kind p o k (switch_of a.plan o)) kind ∙ ap (bits_by_kind p o (Some (FromSwitch input control high))) its in
      record {
        wire = Carried o x;
        there = record { net = switch_net s; bits = bits };
        name = supply-name p a o (switch_net s) x bits;
        stands = subst (λ q. StandsFor p a w at from (Carried o q)) (sym below)
            (switches-come-down p a w at from written proper.plain.leaves o input control high kind s its inst up m (ap (module_at p.structure) (sym below) ∙ e) (ap (goes_in a.uses s) (sym below) ∙ into));
      }

  by-origin : (o : ℕ) (kind : Origin) (q : PortView) → slice_get (network_of p).origins o ≡ Some kind → port_by_kind p a.plan a.uses x o kind ≡ Some q → is_input q ≡ true → (q ≡ scalar q.name Input) × ByName q.name
  by-origin o FromPort q k g input =
      let is = of-when-is (has_port_of a.uses o x) (scalar (port_of_origin p o) Input) q g in
      let name : q.name ≡ port_of_origin p o = ap (λ (r : PortView). r.name) is in
      let bits : origin_bits p a.plan o ≡ NetBit (port_of_origin p o) ∷ [] = ap (λ r. bits_by_kind p o r (switch_of a.plan o)) k in (
        is ∙ ap (λ r. scalar r Input) (sym name),
        subst ByName (sym name) (record {
          wire = Carried o x;
          there = record { net = port_of_origin p o; bits = bits };
          name = supply-name p a o (port_of_origin p o) x bits;
          stands = ports-come-down p a w at from written proper.plain.leaves o k x m e;
        }),
      )
  by-origin o (FromSwitch input control high) q k g is_in =
      let found = then_is (λ (s : Switching). switch_port a.uses s x) (switch_of a.plan o) q g in
      let made = switch-input (goes_out a.uses found.0 x) (goes_in a.uses found.0 x) (switch_net found.0) q found.2 is_in in
      let name : q.name ≡ switch_net found.0 = ap (λ (r : PortView). r.name) made.1 in
      (made.1 ∙ ap (λ r. scalar r Input) (sym name), subst ByName (sym name) (switch-in o input control high k found.0 found.1 made.0 x refl))

  by-supply : (q : PortView) → IsIn q (added_supply_ports p a x) → is_input q ≡ true → (q ≡ scalar q.name Input) × ByName q.name
  by-supply q h input =
      let found = of-some (origin_port p a.plan a.uses x) q (numbered 0 (network_of p).origins) h in
      by-origin found.0.0 found.0.1 q (at-numbered (network_of p).origins found.0 found.1) found.2 input

  control-in : (t : ℕ × Part) → IsIn t (parts_in a.controls x) → t.1.kind ≡ PortIn → ByName (control_net t.0)
  control-in t t_in kind =
      let made = is-made p a proper.routes x t t_in in
      let inner = proper.routes.inner t.1 made.0 in
      let is : t.1 ≡ part_at (Inner inner.0 inner.1 inner.2) x PortIn =
      ap (λ q. record { control = q; path = t.1.path; kind = t.1.kind }) inner.3 ∙ (ap (λ q. record { control = Inner inner.0 inner.1 inner.2; path = q; kind = t.1.kind }) made.1 ∙ ap (part_at (Inner inner.0 inner.1 inner.2) x) kind) in
      let has : has_part a.controls (part_at (Inner inner.0 inner.1 inner.2) x PortIn) ≡ true = ap (has_part a.controls) (sym is) ∙ has-it p a proper.routes x t t_in in
      let down = proper.routes.routed.down (Inner inner.0 inner.1 inner.2) x has in
      record {
        wire = Routed (part_at (Inner inner.0 inner.1 inner.2) x PortIn);
        there = has;
        name = ap (λ q. name_by p a (Routed q)) (sym is) ∙ place-name p a proper.routes x t t_in;
        stands = subst (λ q. StandsFor p a w at from (Routed (part_at (Inner inner.0 inner.1 inner.2) q PortIn))) (sym down.is)
            (controls-come-down p a w at from written proper.plain.leaves proper.names.controls down.name down.parent m (ap (module_at p.structure) (sym down.is) ∙ e) inner.0 inner.1 inner.2
            (subst (λ q. has_part a.controls (part_at (Inner inner.0 inner.1 inner.2) q PortIn) ≡ true) down.is has) down.above (one-way (Inner inner.0 inner.1 inner.2) down.parent));
      }
    where
      one-way : (k : Node) (u : Path) → IsOneWay a.controls k u
      one-way k u out = by (has_part a.controls (part_at k u PortIn)) refl
        where
          by : (d : Bool) → has_part a.controls (part_at k u PortIn) ≡ d → d ≡ false
          by false g = refl
          by true g = absurd (both_ways (is_above u (own_instance k)) (proper.routes.aside k u g) (proper.routes.routed.above k u out))

  by-control : (q : PortView) → IsIn q (control_ports a.controls x) → is_input q ≡ true → (q ≡ scalar q.name Input) × ByName q.name
  by-control q h input =
      let found = of-some control_port q (parts_in a.controls x) h in
      let made = part-input found.0.0 found.0.1.kind q found.2 input in
      let name : q.name ≡ control_net found.0.0 = ap (λ (r : PortView). r.name) made.1 in
      (made.1 ∙ ap (λ r. scalar r Input) (sym name), subst ByName (sym name) (control-in found.0 found.1 made.0))

  -- ---- any input port

  module _ (n : Name) (i : Option ℕ) (z : Source) where
    by-source : (q : PortView) → IsIn q m.ports → is_input q ≡ true → (u : Path) → x ≡ u → IsIn z (from_port w u q.name i q) → ComesInBy p a w at from (Inner q.name i x)
    by-source q q_in input [] below h = by (list_any (same_index i) (indices q.range)) refl h
      where
        by : (d : Bool) → list_any (same_index i) (indices q.range) ≡ d → IsIn z (if d then From (PortBit [] q.name i) (Outer q.name i) ∷ [] else []) → ComesInBy p a w at from (Inner q.name i x)
        by true is g = from-top p a w at from written proper x m e q q_in input i below is (on_way a.plan.operators (PortBit x q.name i)) refl
        by false is g = absurd g
    by-source q q_in input (inst ∷ up) below h = from-written p a w at from written proper x m e q q_in input i inst up below z h

    by-scalar : (q : PortView) → (q ≡ scalar q.name Input) × ByName q.name → IsIn z (from_port w x q.name i q) → ComesInBy p a w at from (Inner q.name i x)
    by-scalar q found h =
        let none : i ≡ None = no-index x refl q.name i z (subst (λ r. IsIn z (from_port w x q.name i r)) found.0 h) in
        subst (λ r. ComesInBy p a w at from (Inner q.name r x)) (sym none) found.1

    by-port : (q : PortView) → IsIn q here.ports → is_input q ≡ true → IsIn z (from_port w x q.name i q) → ComesInBy p a w at from (Inner q.name i x)
    by-port q q_in input h =
        elim (in-either q m.ports (added_supply_ports p a x ++ control_ports a.controls x) (subst (λ l. IsIn q l) content.ports q_in)) [
          | inl l ↦ by-source q l input x refl h
          | inr r ↦ elim (in-either q (added_supply_ports p a x) (control_ports a.controls x) r) [ inl s ↦ by-scalar q (by-supply q s input) h | inr c ↦ by-scalar q (by-control q c input) h ]
        ]

    pub comes-in-by : IsIn z (ports_in w x n i here) → ComesInBy p a w at from (Inner n i x)
    comes-in-by h =
        let found = of-flat (from_port w x n i) z (filter (λ (q : PortView). bytes_eq q.name n && is_input q) here.ports) h in
        let kept = of-filter (λ (q : PortView). bytes_eq q.name n && is_input q) found.0 here.ports found.1 in
        let name : found.0.name ≡ n = name-true found.0.name n (one (bytes_eq found.0.name n) _ kept.1) in
        subst (λ k. ComesInBy p a w at from (Inner k i x)) name (by-port found.0 kept.0 (other (bytes_eq found.0.name n) _ kept.1) (subst (λ k. IsIn z (from_port w x k i found.0)) (sym name) found.2))
