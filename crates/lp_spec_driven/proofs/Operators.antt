-- What an operator drives in the written netlist: the wire that it drives in the hub.
use Rattle.std.proofs.Common.{◌≡◌, ◌⊎◌, ◌≤◌, ℕ, zero, suc, ◌+◌, ◌-◌, Bool, true, false, not, ◌&&◌, ◌==◌, cond, List, [], ◌∷◌, ◌++◌, map, length, take, Option, Some, None, inl, inr, refl, sym, ◌∙◌, ap, subst, arith}
use Rattle.std.specs.Prelude.{bytes_eq, filter, is_some, slice_get, unwrap_or, option_and_then, if◌then◌else◌}
use Rattle.std.specs.List.{list_any}
use Rattle.std.proofs.lemmas.Bool.{false≢true, both_ways, eq-eqb}
use Rattle.std.proofs.lemmas.List.{length-map}
use Rattle.lp_model.specs.declared.netlist.Direction.{Direction}
use Rattle.lp_model.specs.declared.netlist.Direction.TheVariants.{Input, Output}
use Rattle.lp_model.specs.NetlistView.{BitView, NetBit, SelectBit, ConstBit, ConnectionView, InstanceView, ModuleView}
use Rattle.lp_model.specs.LibraryView.{PgPinView, PinView, CellView}
use Rattle.lp_spec_design.specs.Keys.{Name, Path, same_path, same_bool, Node, Inner, Fixed, Way, PortBit, same_way, Source, CellPin, SwitchedPin, From, same_node}
use Rattle.lp_spec_design.specs.Netlists.{Structure, first, module_named, module_at, instance_named, node_of, upward, bits_named, connected, is_input}
use Rattle.lp_spec_design.specs.Instances.{Placed}
use Rattle.lp_spec_design.specs.Graph.{some_of, when, is_output_pin, touches, from_one, source_of, way_in}
use Rattle.lp_spec_design.specs.Chains.{Operator, Clamp, Shift}
use Rattle.lp_spec_design.specs.Domains.{BoundaryBit, way_of}
use Rattle.lp_spec_design.specs.Reads.{name-self, path-true, path-self, node-self, one, both}
use Rattle.lp_spec_design.specs.Winners.{IsIn}
use Rattle.lp_spec_design.proofs.Members.{IsApart, in-left, in-map, of-map, of-filter, any-in}
use Rattle.lp_spec_pins.specs.Pins.{only, input_for, is_input_pin, is_data}
use Rattle.lp_spec_fit.specs.Fits.{one_output, is_iso_data, is_iso_enable}
use Rattle.lp_spec_realises.specs.Projects.{Project}
use Rattle.lp_spec_realises.specs.Ends.{AtPin, own_end, output_end}
use Rattle.lp_spec_realises.specs.Implements.{parent_of}
use Rattle.lp_spec_realises.specs.Realises.{cell_of, data_pin}
use Rattle.lp_spec_written.specs.Places.{instances, Standing}
use Rattle.lp_spec_written.specs.Nets.{Stretch, is_inside, is_constant, leads_constant, stood, bit_of, net_count, net_bits, nets_of, chain_net, far, links, Linked, linked, renamed, is_own, or_near, near, same_bit}
use Rattle.lp_spec_written.specs.Supplies.{supply_connections, operator_pins}
use Rattle.lp_spec_written.specs.Routes.{some_control_bits, enable_of}
use Rattle.lp_spec_written.specs.Written.{Additions, at_pin, written_operator, written_operators, written_switches, named_operators}
use Rattle.lp_spec_hub.specs.Spots.{Spot, OfNode, Behind, Before, ByOperator, FromSpot, on_way, is_behind}
use Rattle.lp_spec_hub.specs.Drives.{drive_by, drive_node, behind_last, passed, drive_behind, drive_before}
use Rattle.lp_spec_hub.specs.Entries.{HasWaysApart}
use Rattle.lp_spec_wired.specs.Contents.{IsInstance, IsWrittenAt}
use Rattle.lp_spec_wired.specs.Names.{node_at, place_on, name_at, name_on, name_before, name_behind, name_by, instance_on, operator_at, placement_by}
use Rattle.lp_spec_wired.proofs.Lists.{bits-behind}
use Rattle.lp_spec_wired.proofs.Chains.{in-filter, is-of, way-true, not-zero, net-at, node-renamed, and-none}
use Rattle.lp_spec_wired.proofs.Kept.{inner-links, get-next, own-node}
use Rattle.lp_spec_wired.proofs.Wires.{near_number}
use Rattle.lp_spec_wired.proofs.Bits.{Renamed, Unnamed, node-by}
use Rattle.lp_spec_written_at.proofs.Lists.{none-first, in-some}
use Rattle.lp_spec_written_at.proofs.Modules.{from-modules, differs-own, free-instance, is-added}
use Rattle.lp_spec_written_at.proofs.Instances.{instances-apart}
use Rattle.lp_spec_written_at.proofs.Cells.{first-cell}
use Rattle.lp_spec_written_at.proofs.Operators.{operator-cell}
use Rattle.lp_spec_driven.specs.Wires.{IsFreeNode, IsOfWire, Starts}
use Rattle.lp_spec_driven.specs.Sound.{HasNames, HasPinsApart, HasFitCells, IsOnWays, behind_by, node_behind, node_ahead}
use Rattle.lp_spec_driven.specs.Laws.{OperatorsGive}
use Rattle.lp_spec_driven.proofs.Sources.{only-one, FromPin, FromPg, cell-source, one-cell}
use Rattle.lp_spec_driven.proofs.Short.{stood-short, links-short}
use Rattle.lp_spec_driven.proofs.Linked.{IsLinked, is-linked, planned}

-- ---- lists

-- one more that passes
pub place-next : {A : Type 0} (q : A → Bool) (xs : List A) (k : ℕ) (o : A) → slice_get xs k ≡ Some o → q o ≡ true → length (filter q (take (suc k) xs)) ≡ suc (length (filter q (take k xs)))
place-next q [] k o e h = absurd cc
place-next q (z ∷ xs) zero o e h = let is : z ≡ o = cc in ap (λ b. length (cond b (z ∷ []) [])) (ap q is ∙ h)
place-next q (z ∷ xs) (suc k) o e h = by (q z) (place-next q xs k o e h)
  where
    by : (b : Bool) → length (filter q (take (suc k) xs)) ≡ suc (length (filter q (take k xs))) → length (cond b (z ∷ filter q (take (suc k) xs)) (filter q (take (suc k) xs))) ≡ suc (length (cond b (z ∷ filter q (take k xs)) (filter q (take k xs))))
    by true more = ap suc more
    by false more = more

pub take-whole : {A : Type 0} (xs : List A) (n : ℕ) → length xs ≡ n → take n xs ≡ xs
take-whole [] zero e = refl
take-whole [] (suc n) e = refl
take-whole (x ∷ xs) zero e = absurd (omega (arith, e))
take-whole (x ∷ xs) (suc n) e = ap (λ r. x ∷ r) (take-whole xs n (omega (arith, e)))

last-long : {A : Type 0} (xs : List A) (k : ℕ) (x : A) → slice_get xs k ≡ Some x → slice_get xs (suc k) ≡ None → length xs ≡ suc k
last-long [] k x e f = absurd cc
last-long (y ∷ []) zero x e f = refl
last-long (y ∷ z ∷ xs) zero x e f = absurd cc
last-long (y ∷ xs) (suc k) x e f = ap suc (last-long xs k x e f)

pub slice-in : {A : Type 0} (xs : List A) (i : ℕ) (z : A) → slice_get xs i ≡ Some z → IsIn z xs
slice-in [] i z g = absurd cc
slice-in (v ∷ xs) zero z g = let is : v ≡ z = cc in inl (sym is)
slice-in (v ∷ xs) (suc i) z g = inr (slice-in xs i z g)

-- ---- pins

only-is : {A : Type 0} (xs : List A) (q r : A) → only xs ≡ Some q → IsIn r xs → r ≡ q
only-is [] q r e h = absurd h
only-is (x ∷ []) q r e h = let is : x ≡ q = cc in elim h [ inl same ↦ same ∙ is | inr none ↦ absurd none ]
only-is (x ∷ y ∷ xs) q r e h = absurd cc

only-in : {A : Type 0} (xs : List A) (q : A) → only xs ≡ Some q → IsIn q xs
only-in [] q e = absurd cc
only-in (x ∷ []) q e = let is : x ≡ q = cc in inl (sym is)
only-in (x ∷ y ∷ xs) q e = absurd cc

pub input-not-output : (q : PinView) → is_input_pin q ≡ true → is_output_pin q ≡ false
input-not-output q e = by q.direction refl
  where
    by : (d : Direction) → q.direction ≡ d → is_output_pin q ≡ false
    by Input g = rw g refl
    by Output g = let bad : false ≡ true = rw g at e in absurd (false≢true bad)

is-false : (b : Bool) → (b ≡ true → ⊥) → b ≡ false
is-false true f = absurd (f refl)
is-false false f = refl

-- an input of a cell has not the name of an output
pub input-other : (c : CellView) → HasPinsApart c → (purpose : PinView → Bool) (q d : PinView) → IsIn q c.pins → is_output_pin q ≡ true → input_for purpose c ≡ Some d → bytes_eq d.name q.name ≡ false
input-other c apart purpose q d h o e =
    let found = of-filter (λ (r : PinView). is_input_pin r && purpose r) d c.pins (only-in (filter (λ (r : PinView). is_input_pin r && purpose r) c.pins) d e) in
    is-false (bytes_eq d.name q.name) (λ same.
    both_ways (is_output_pin q) (ap is_output_pin (sym (apart.pins d q found.0 h same)) ∙ input-not-output d (one (is_input_pin d) _ found.1)) o)

pub at-pin-other : (o : Option PinView) (bits : List BitView) (n : Name) → ((d : PinView) → o ≡ Some d → bytes_eq d.name n ≡ false) → (c : ConnectionView) → IsIn c (at_pin o bits) → bytes_eq c.port n ≡ false
at-pin-other None bits n none c h = absurd h
at-pin-other (Some d) bits n none c (inl is) = ap (λ (k : ConnectionView). bytes_eq k.port n) is ∙ none d refl
at-pin-other (Some d) bits n none c (inr h) = absurd h

pub output-is : (w : Structure) (place : Placed) (c : CellView) (q : PinView) → cell_of w place ≡ Some c → one_output c ≡ Some q → output_end w place ≡ AtPin place.path place.instance q.name
output-is w place c q e f = rw (e) (rw (f) refl)

index-self : (j : Option ℕ) (t : Name) → same_bit (bit_of t j) (bit_of t j) ≡ true
index-self None t = name-self t
index-self (Some j) t = both (j == j) (bytes_eq t t) (eq-eqb j j refl) (name-self t)

pub bit-self : (t : Name) (j : Option ℕ) → same_bit (bit_of t j) (bit_of t j) ≡ true
bit-self t j = index-self j t

upward-long : (c j : ℕ) → length (upward c j) ≡ c
upward-long zero j = refl
upward-long (suc c) j = ap suc (upward-long c (j + 1))

pub nets-long : (t : Stretch) → length (net_bits t) ≡ t.count
nets-long t = length-map (nets_of t) (λ r. NetBit r ∷ []) ∙ (length-map (upward t.count t.start) chain_net ∙ upward-long t.count t.start)

-- ---- what is added

module _ (p : Project) (a : Additions) (w : Structure) (written : IsWrittenAt p a w) (fit : HasFitCells p a) (x : Path) (m : ModuleView) (e : module_at p.structure x ≡ Some m) where
  -- an added instance is none of a module
  pub added-alone : (v : InstanceView) → IsIn v (written_operators p a x ++ written_switches p a x) → module_at w (v.name ∷ x) ≡ None
  added-alone v h =
      let added = is-added p a fit.free fit.listed x v h in
      let not_there : instance_named m v.name ≡ None = none-first (λ (k : InstanceView). bytes_eq k.name v.name) m.instances (λ k g. differs-own k.name v.name (free-instance p a fit.free fit.listed m k (from-modules p.structure x m e) g) added.own) in
      written.none (v.name ∷ x)
      (ap (λ o. option_and_then (λ (k : ModuleView). option_and_then (λ (z : InstanceView). module_named p.structure z.target) (instance_named k v.name)) o) e
      ∙ ap (λ o. option_and_then (λ (z : InstanceView). module_named p.structure z.target) o) not_there)

-- ---- an operator

module _ (p : Project) (a : Additions) (w : Structure) (from : Way → Node) (written : IsWrittenAt p a w) (names : HasNames p a) (fit : HasFitCells p a) (on_ways : IsOnWays p a)
    (x : Path) (m : ModuleView) (e : module_at p.structure x ≡ Some m) (there : IsIn x (instances p)) (y : Name × Linked) (h : IsIn y (named_operators (linked p a.chains x)))
    (here : InstanceView) (is : IsInstance w x (written_operator p a x y) here) (k : ℕ) (link : IsLinked p a x y (way_of y.1.0.asked.bit) k) where
  abbrev pub s : Structure
  s = p.structure

  abbrev pub o : Standing
  o = y.1.0

  abbrev pub b : BoundaryBit
  b = o.asked.bit

  abbrev pub way : Way
  way = way_of b

  abbrev pub all : List Standing
  all = on_way a.plan.operators way

  abbrev v : InstanceView
  v = written_operator p a x y

  once : IsApart (instances p)
  once = instances-apart s fit.free.apart

  ways : HasWaysApart p
  ways = names.ways

  abbrev place : ℕ
  place = place_on all k x

  pub in-plan : IsIn o a.plan.operators
  in-plan = (planned p a names.chains names.stand names.bits once ways x there y h).0

  v-in : IsIn v (written_operators p a x ++ written_switches p a x)
  v-in = in-left v (written_operators p a x) (written_switches p a x) (in-map (written_operator p a x) y (named_operators (linked p a.chains x)) h)

  alone : module_at w (v.name ∷ x) ≡ None
  alone = added-alone p a w written fit x m e v v-in

  placed-cell : cell_of w (record { path = x; instance = y.0 }) ≡ Some o.cell
  placed-cell = operator-cell p a w fit.free written fit.listed fit.names x m e (fit.few x) y h

  known : IsIn o.cell s.cells
  known = fit.operator_cells o in-plan

  pub out : (q : PinView) × (one_output o.cell ≡ Some q)
  out = fit.outputs o in-plan

  abbrev pub q : PinView
  q = out.0

  q-listed : IsIn q o.cell.pins × (is_output_pin q ≡ true)
  q-listed = of-filter is_output_pin q o.cell.pins (only-in (filter is_output_pin o.cell.pins) q out.1)

  -- the bits of its output
  data-other : (op : Operator) (d : PinView) → data_pin op o.cell ≡ Some d → bytes_eq d.name q.name ≡ false
  data-other (Clamp t i) d f = input-other o.cell (fit.operator_pins o in-plan) is_iso_data q d q-listed.0 q-listed.1 f
  data-other (Shift t i j) d f = input-other o.cell (fit.operator_pins o in-plan) is_data q d q-listed.0 q-listed.1 f

  output-bits : connected [] q.name v.connections ≡ y.1.1.1
  output-bits =
      let supply = supply_connections p a.plan (operator_pins p o) in
      let control = at_pin (input_for is_iso_enable o.cell) (some_control_bits a.chains a.controls x (enable_of p o.asked.operator)) in
      bits-behind q.name (at_pin (data_pin o.asked.operator o.cell) y.1.1.0) (control ++ (at_pin (one_output o.cell) y.1.1.1 ++ supply))
      (at-pin-other (data_pin o.asked.operator o.cell) y.1.1.0 q.name (data-other o.asked.operator))
      ∙ (bits-behind q.name control (at_pin (one_output o.cell) y.1.1.1 ++ supply)
      (at-pin-other (input_for is_iso_enable o.cell) (some_control_bits a.chains a.controls x (enable_of p o.asked.operator)) q.name (λ d f. input-other o.cell (fit.operator_pins o in-plan) is_iso_enable q d q-listed.0 q-listed.1 f))
      ∙ (ap (λ r. bits_named q.name (at_pin r y.1.1.1 ++ supply)) out.1
      ∙ ap (λ t. cond t y.1.1.1 (bits_named q.name supply)) (name-self q.name)))

  short : length y.1.1.1 ≤ 1
  short = links-short p a.chains link.s y.1.1.1 (slice-in (links p a.chains link.s) (suc place) y.1.1.1 link.drives)

  -- its place in the netlist
  at-is : (placement_by p a).operator way k ≡ record { path = x; instance = y.0 }
  at-is =
      ap (operator_at p a all way k) link.at
      ∙ (ap (λ z. record { path = z; instance = instance_on p a way z (place_on all k z) }) link.path
      ∙ ap (λ n. record { path = x; instance = n }) link.named)

  end-is : output_end w ((placement_by p a).operator way k) ≡ AtPin x y.0 q.name
  end-is = ap (output_end w) at-is ∙ output-is w (record { path = x; instance = y.0 }) o.cell q placed-cell out.1

  named-on : (r : List BitView) (n : ℕ) → slice_get (links p a.chains link.s) n ≡ Some r → name_on p a.chains way x n ≡ node_at x r
  named-on r n f = ap (name_at p a.chains x n) link.found ∙ ap (λ l. node_at x (unwrap_or l [])) f

  -- it is behind the edge in the instance to which its way leads
  behind-by-input : (c : BoundaryBit) (z : Path) (r : Bool) → is_input c.port ≡ r → same_bool r (is_inside z c) ≡ true → (z ≡ c.path) ⊎ (z ≡ parent_of c.path) → z ≡ (if r then c.path else parent_of c.path)
  behind-by-input c z true f g near = path-true z c.path g
  behind-by-input c z false f g (inr up) = up
  behind-by-input c z false f g (inl own) =
      let inside : is_inside z c ≡ true = ap (λ u. same_path u c.path) own ∙ path-self c.path in
      absurd (false≢true (ap (same_bool false) (sym inside) ∙ g))

  behind-path : (r : Standing) → IsIn r a.plan.operators → is_behind r ≡ true → r.path ≡ (if is_input r.asked.bit.port then r.asked.bit.path else parent_of r.asked.bit.path)
  behind-path r g side = behind-by-input r.asked.bit r.path (is_input r.asked.bit.port) refl side (on_ways.near r g)

  on-plan : (r : Standing) → IsIn r all → IsIn r a.plan.operators × (way_of r.asked.bit ≡ way)
  on-plan r g = let found = of-filter (λ (t : Standing). same_way (way_of t.asked.bit) way) r a.plan.operators g in (found.0, way-true (way_of r.asked.bit) way found.1)

  module _ (n : Name) (i : Option ℕ) (z : Source) (bit : BitView) (drives : y.1.1.1 ≡ bit ∷ []) (bit_is : node_of x bit ≡ Inner n i x) (z_is : z ≡ CellPin x y.0 q.name) where
    driven-name : node_at x y.1.1.1 ≡ Inner n i x
    driven-name = ap (node_at x) drives ∙ bit_is

    gives : (k2 : Node) → Starts k2 z (output_end w ((placement_by p a).operator way k))
    gives k2 = record { first = ap (λ t. way_in (Some t)) z_is; own = ap (λ t. own_end k2 (Some t)) z_is ∙ sym end-is }

    abbrev Result : Type 0
    Result = IsOfWire p a w (placement_by p a) from (Inner n i x) z

    -- before the edge it drives a wire of its own
    -- the wire that it drives
    abbrev Made : Spot → Type 0
    Made wire = (r : Result) × (r.wire ≡ wire)

    before-edge : is_behind o ≡ false → Made (Behind way k)
    before-edge side = (
      record {
        wire = Behind way k;
        there = record { operator = o; at = link.at; side = side };
        name =
            ap (name_behind p a.chains all way k) link.at
            ∙ (ap (λ u. name_on p a.chains way u (suc (place_on all k u))) link.path
            ∙ (named-on y.1.1.1 (suc place) link.drives ∙ driven-name));
        driven = ByOperator way k;
        is = ap (drive_behind way k) link.at ∙ ap (λ t. when (not t) (ByOperator way k)) side;
        gives = gives (name_by p a (Behind way k));
      },
      refl,
    )

    -- behind it, with another one that follows
    followed : is_behind o ≡ true → (next : Standing) → slice_get all (suc k) ≡ Some next → Made (Before way (suc k))
    followed side next f =
        let next_side : is_behind next ≡ true = on_ways.flow way k o next link.at f side in
        let next_on = on-plan next (slice-in all (suc k) next f) in
        let same_bit : next.asked.bit ≡ b = names.bits.one next.asked.bit b (names.chains.bits next next_on.0) (names.chains.bits o in-plan) next_on.1 in
        let lies : next.path ≡ x = behind-path next next_on.0 next_side
        ∙ (ap (λ (c : BoundaryBit). if is_input c.port then c.path else parent_of c.path) same_bit
        ∙ (sym (behind-path o in-plan side) ∙ link.path)) in
        let next_place : place_on all (suc k) x ≡ suc place = place-next (λ (r : Standing). same_path r.path x) all k o link.at (ap (λ u. same_path u x) link.path ∙ path-self x) in (
          record {
            wire = Before way (suc k);
            there = record { operator = next; at = f; side = next_side };
            name =
                ap (name_before p a.chains all way (suc k)) f
                ∙ (ap (λ u. name_on p a.chains way u (place_on all (suc k) u)) lies
                ∙ (ap (name_on p a.chains way x) next_place
                ∙ (named-on y.1.1.1 (suc place) link.drives ∙ driven-name)));
            driven = ByOperator way k;
            is =
                ap (drive_before all way (from way) (suc k)) f
                ∙ (ap (λ t. when t (passed all way (from way) (suc k))) next_side
                ∙ ap (λ d. Some d) (ap (behind_last way k) link.at ∙ ap (λ t. if t then ByOperator way k else FromSpot (Behind way k)) side));
            gives = gives (name_by p a (Before way (suc k)));
          },
          refl,
        )

    -- the last one drives the net bit to which the way leads
    module _ (side : is_behind o ≡ true) (f : slice_get all (suc k) ≡ None) where
      long : length all ≡ suc k
      long = last-long all k o link.at f

      many : length link.s.operators ≡ suc place
      many =
          ap length link.operators
          ∙ (ap (λ l. length (filter (λ (r : Standing). same_path r.path x) l)) (sym (take-whole all (suc k) long))
          ∙ place-next (λ (r : Standing). same_path r.path x) all k o link.at (ap (λ u. same_path u x) link.path ∙ path-self x))

      count-by : leads_constant s link.s.path link.s.bit ≡ false → link.s.count ≡ suc place
      count-by lead =
          (is-of p a.plan link.s link.listed).0.count
          ∙ (ap (net_count s link.s.path link.s.bit) many
          ∙ (ap (λ t. if t then 0 else if leads_constant s link.s.path link.s.bit then suc place + 1 else suc place) (not-zero (suc place) (omega arith))
          ∙ ap (λ t. if t then suc place + 1 else suc place) lead))

      bit-of-stretch : link.s.bit ≡ b
      bit-of-stretch = names.bits.one link.s.bit b (is-of p a.plan link.s link.listed).0.bit (names.chains.bits o in-plan) link.way_is

      node-driven : (d : Node) → node_behind s b ≡ d → drive_node s a.plan.operators d ≡ Some (ByOperator way k)
      node-driven d g =
          ap (λ r. option_and_then (λ u. Some (drive_by a.plan.operators u)) (source_of s r)) (sym g)
          ∙ (ap (option_and_then (λ u. Some (drive_by a.plan.operators u))) (on_ways.leads o in-plan)
          ∙ ap (λ r. Some r) (ap (passed all way (node_ahead s b)) long ∙ (ap (behind_last way k) link.at ∙ ap (λ t. if t then ByOperator way k else FromSpot (Behind way k)) side)))

      last-drives : (d : Node) → node_behind s b ≡ d → name_by p a (OfNode d) ≡ Inner n i x → Made (OfNode (node_behind s b))
      last-drives d g name = (
        record {
          wire = OfNode d;
          there = subst IsFreeNode g (on_ways.ends o in-plan);
          name = name;
          driven = ByOperator way k;
          is = node-driven d g;
          gives = gives (name_by p a (OfNode d));
        },
        ap (λ r. OfNode r) (sym g),
      )

      -- inside an input
      at-input : is_input b.port ≡ true → Made (OfNode (node_behind s b))
      at-input input =
          let own_path : x ≡ b.path = sym link.path ∙ (behind-path o in-plan side ∙ ap (λ t. if t then b.path else parent_of b.path) input) in
          let port : is_input link.s.bit.port ≡ true = ap (λ (c : BoundaryBit). is_input c.port) bit-of-stretch ∙ input in
          let within : is_inside link.s.path link.s.bit ≡ true = ap (same_path link.s.path) (ap (λ (c : BoundaryBit). c.path) bit-of-stretch ∙ sym own_path) ∙ (ap (λ u. same_path u x) link.lies ∙ path-self x) in
          let no_lead : leads_constant s link.s.path link.s.bit ≡ false = ap (λ t. is_input link.s.bit.port && (not t && list_any is_constant (stood s link.s.bit))) within ∙ and-none (is_input link.s.bit.port) in
          let count = count-by no_lead in
          let net : slice_get (links p a.chains link.s) (suc place) ≡ Some (NetBit (chain_net (link.s.start + place)) ∷ []) =
          ap (λ l. slice_get l (suc place)) (inner-links p a.chains link.s port within) ∙ net-at link.s place (link.s.start + place) (omega (arith, count)) refl in
          let bits : Some y.1.1.1 ≡ Some (NetBit (chain_net (link.s.start + place)) ∷ []) = sym link.drives ∙ net in
          let is_net : Inner (chain_net (link.s.start + place)) None x ≡ Inner n i x = sym (ap (node_at x) (same-some bits)) ∙ driven-name in
          last-drives (Inner b.port.name b.index x) (ap (behind_by s b b.path) input ∙ ap (Inner b.port.name b.index) (sym own_path))
          (by own_path within count is_net (node-by p a names.chains b.port.name b.index x))
        where
          same-some : {A : Type 0} {u t : A} → Some u ≡ Some t → u ≡ t
          same-some g = cc

          by : x ≡ b.path → is_inside link.s.path link.s.bit ≡ true → link.s.count ≡ suc place → Inner (chain_net (link.s.start + place)) None x ≡ Inner n i x
              → Renamed p a names.chains b.port.name b.index x (name_by p a (OfNode (Inner b.port.name b.index x))) ⊎ Unnamed p a names.chains b.port.name b.index x (name_by p a (OfNode (Inner b.port.name b.index x)))
              → name_by p a (OfNode (Inner b.port.name b.index x)) ≡ Inner n i x
          by own_path within count is_net (inl u) =
              let its_path : u.s.bit.path ≡ x = sym (path-true u.s.path u.s.bit.path u.within) ∙ u.path in
              let way_same : way_of u.s.bit ≡ way =
              ap (λ r. PortBit r u.s.bit.port.name u.s.bit.index) (its_path ∙ own_path) ∙ (ap (λ r. PortBit b.path r u.s.bit.index) u.name ∙ ap (PortBit b.path b.port.name) u.index) in
              let same : u.s ≡ link.s = link.alone u.s u.listed u.path way_same in
              let number : near_number link.s ≡ link.s.start + place = ap (λ t. if t then (link.s.start + link.s.count) - 1 else link.s.start) (ap (λ (c : BoundaryBit). is_input c.port) bit-of-stretch ∙ input) ∙ (omega (arith, count)) in
              u.is ∙ (ap (λ t. Inner (chain_net (near_number t)) None x) same ∙ (ap (λ t. Inner (chain_net t) None x) number ∙ is_net))
          by own_path within count is_net (inr u) =
              absurd (u.none link.s link.listed
              (both (is_inside link.s.path link.s.bit) _ within
              (both (same_path link.s.path x) _ (ap (λ r. same_path r x) link.lies ∙ path-self x)
              (ap (λ (c : BoundaryBit). same_bit (bit_of c.port.name c.index) (bit_of b.port.name b.index)) bit-of-stretch ∙ bit-self b.port.name b.index))))

      -- outside an output
      at-output : (c : Path) → b.path ≡ c → is_input b.port ≡ false → Made (OfNode (node_behind s b))
      at-output [] below input = absurd (both_ways (is_behind o) (never) side)
        where
          at_top : o.path ≡ []
          at_top = behind-path o in-plan side ∙ (ap (λ t. if t then b.path else parent_of b.path) input ∙ ap parent_of below)

          never : is_behind o ≡ false
          never = ap (λ t. same_bool t (is_inside o.path b)) input ∙ ap (same_bool false) (ap (λ u. same_path u b.path) at_top ∙ ap (same_path []) below)
      at-output (inst ∷ up) below input =
          let lies_up : x ≡ up = sym link.path ∙ (behind-path o in-plan side ∙ (ap (λ t. if t then b.path else parent_of b.path) input ∙ ap parent_of below)) in
          let port : is_input link.s.bit.port ≡ false = ap (λ (c : BoundaryBit). is_input c.port) bit-of-stretch ∙ input in
          let outside : is_inside link.s.path link.s.bit ≡ false =
          ap (λ u. is_inside u link.s.bit) (link.lies ∙ sym link.path) ∙ (ap (is_inside o.path) bit-of-stretch ∙ not-inside (is_inside o.path b) (ap (λ t. same_bool t (is_inside o.path b)) (sym input) ∙ side)) in
          let no_lead : leads_constant s link.s.path link.s.bit ≡ false = ap (λ t. t && (not (is_inside link.s.path link.s.bit) && list_any is_constant (stood s link.s.bit))) port in
          let count = count-by no_lead in
          let net_long : length (net_bits link.s) ≡ suc place = nets-long link.s ∙ count in
          let list : links p a.chains link.s ≡ net_bits link.s ++ (far p a.chains link.s ∷ []) =
          ap (λ t. if t then (if leads_constant s link.s.path link.s.bit then net_bits link.s else far p a.chains link.s ∷ net_bits link.s) else net_bits link.s ++ (far p a.chains link.s ∷ [])) port in
          let last : slice_get (links p a.chains link.s) (suc place) ≡ Some (far p a.chains link.s) =
          ap (λ l. slice_get l (suc place)) list ∙ (ap (slice_get (net_bits link.s ++ (far p a.chains link.s ∷ []))) (sym net_long) ∙ get-next (net_bits link.s) [] (far p a.chains link.s)) in
          let far_is : far p a.chains link.s ≡ bit ∷ [] = same-some (sym last ∙ link.drives) ∙ drives in
          let mapped : map (renamed a.chains x) (stood s b) ≡ bit ∷ [] =
          ap (λ (c : BoundaryBit). map (renamed a.chains x) (stood s c)) (sym bit-of-stretch)
          ∙ (ap (λ u. map (renamed a.chains u) (stood s link.s.bit)) (sym link.lies)
          ∙ (sym (ap (λ t. if t then bit_of link.s.bit.port.name link.s.bit.index ∷ [] else map (renamed a.chains link.s.path) (stood s link.s.bit)) outside) ∙ far_is)) in
          let one_bit = unmap (stood s b) mapped in
          last-drives (node_of x one_bit.0)
          (ap (behind_by s b b.path) input ∙ (ap (λ u. behind_by s b u false) below ∙ (ap (node_at up) one_bit.1 ∙ ap (λ u. node_of u one_bit.0) (sym lies_up))))
          (node-renamed a.chains x one_bit.0 ∙ (ap (node_of x) one_bit.2 ∙ bit_is))
        where
          same-some : {A : Type 0} {u t : A} → Some u ≡ Some t → u ≡ t
          same-some g = cc

          not-inside : (t : Bool) → same_bool false t ≡ true → t ≡ false
          not-inside true g = absurd (false≢true g)
          not-inside false g = refl

          unmap : (bits : List BitView) → map (renamed a.chains x) bits ≡ bit ∷ [] → (r : BitView) × (bits ≡ r ∷ []) × (renamed a.chains x r ≡ bit)
          unmap [] g = absurd cc
          unmap (r ∷ []) g = let first_is : renamed a.chains x r ≡ bit = cc in (r, refl, first_is)
          unmap (r ∷ t ∷ rest) g = absurd cc

      at-last : Made (OfNode (node_behind s b))
      at-last = by (is_input b.port) refl
        where
          by : (t : Bool) → is_input b.port ≡ t → Made (OfNode (node_behind s b))
          by true g = at-input g
          by false g = at-output b.path refl g

    by-side : (t : Bool) → is_behind o ≡ t → (r : Option Standing) → slice_get all (suc k) ≡ r → Result
    by-side false side r f = (before-edge side).0
    by-side true side None f = (at-last side f).0
    by-side true side (Some next) f = (followed side next f).0

  -- ---- it drives that wire

  pub record Drives : Type 0 where
    pub net : Name
    pub index : Option ℕ
    pub bit : BitView
    pub bits : y.1.1.1 ≡ bit ∷ []
    pub node : node_of x bit ≡ Inner net index x

  net-drives : (t : Stretch) (n : ℕ) → slice_get (net_bits t) n ≡ Some y.1.1.1 → Drives
  net-drives t n f =
      let found = of-map (λ r. NetBit r ∷ []) y.1.1.1 (nets_of t) (slice-in (net_bits t) n y.1.1.1 f) in
      record { net = found.0; index = None; bit = NetBit found.0; bits = found.2; node = refl }

  own-drives : (t : Name) (j : Option ℕ) → y.1.1.1 ≡ bit_of t j ∷ [] → Drives
  own-drives t j f = record { net = t; index = j; bit = bit_of t j; bits = f; node = own-node t j x }

  -- a bit that is no constant is none in the written netlist
  renamed-node : (u : BitView) → ((d : Bool) → u ≡ ConstBit d → ⊥) → (net : Name) × (index : Option ℕ) × (node_of x (renamed a.chains x u) ≡ Inner net index x)
  renamed-node u free = by (first (is_own x u) a.chains) (renamed a.chains x u) refl u free
    where
      by : (r : Option Stretch) (v2 : BitView) → or_near u r ≡ v2 → (u2 : BitView) → ((d : Bool) → u2 ≡ ConstBit d → ⊥) → (net : Name) × (index : Option ℕ) × (node_of x v2 ≡ Inner net index x)
      by r (NetBit n2) g u2 free2 = (n2, None, refl)
      by r (SelectBit n2 j) g u2 free2 = (n2, Some j, refl)
      by (Some t) (ConstBit d) g u2 free2 = let bad : near t ≡ ConstBit d = g in absurd cc
      by None (ConstBit d) g u2 free2 = absurd (free d g)

  far-drives : is_input b.port ≡ false → y.1.1.1 ≡ far p a.chains link.s → Drives
  far-drives input f = by (is_inside link.s.path link.s.bit) refl (f)
    where
      bit-is : link.s.bit ≡ b
      bit-is = names.bits.one link.s.bit b (is-of p a.plan link.s link.listed).0.bit (names.chains.bits o in-plan) link.way_is

      source-some : (k2 : Node) (j : Node) → source_of s k2 ≡ Some (From way j) → (d : Bool) → k2 ≡ Fixed d → ⊥
      source-some k2 j g d e2 = let bad : None ≡ Some (From way j) = sym (ap (source_of s) e2) ∙ g in absurd cc

      stood-by : (c : Path) → b.path ≡ c → is_inside link.s.path link.s.bit ≡ false → (bits : List BitView) → stood s b ≡ bits → y.1.1.1 ≡ map (renamed a.chains x) bits → Drives
      stood-by [] below out2 bits g e2 =
          let lies : x ≡ [] = elim (on_ways.near o in-plan) [ inl u ↦ sym link.path ∙ (u ∙ below) | inr u ↦ sym link.path ∙ (u ∙ ap parent_of below) ] in
          absurd (both_ways (is_inside link.s.path link.s.bit) out2 (ap (same_path link.s.path) (ap (λ (c : BoundaryBit). c.path) bit-is ∙ (below ∙ sym lies)) ∙ (ap (λ u. same_path u x) link.lies ∙ path-self x)))
      stood-by (inst ∷ up) below out2 [] g e2 =
          let leads = on_ways.leads o in-plan in
          let node : node_behind s b ≡ Fixed false = ap (behind_by s b b.path) input ∙ (ap (λ u. behind_by s b u false) below ∙ ap (node_at up) g) in
          absurd (source-some (node_behind s b) (node_ahead s b) leads false node)
      stood-by (inst ∷ up) below out2 (u ∷ []) g e2 =
          let leads = on_ways.leads o in-plan in
          let node : node_behind s b ≡ node_of up u = ap (behind_by s b b.path) input ∙ (ap (λ r. behind_by s b r false) below ∙ ap (node_at up) g) in
          let found = renamed-node u (λ d e3. source-some (node_behind s b) (node_ahead s b) leads d (node ∙ ap (node_of up) e3)) in
          record { net = found.0; index = found.1; bit = renamed a.chains x u; bits = e2; node = found.2 }
      stood-by (inst ∷ up) below out2 (u ∷ t ∷ rest) g e2 = let many = stood-short s b in let long : length (stood s b) ≡ suc (suc (length rest)) = ap length g in absurd (omega (arith, many, long))

      by : (d : Bool) → is_inside link.s.path link.s.bit ≡ d → y.1.1.1 ≡ (if is_inside link.s.path link.s.bit then bit_of link.s.bit.port.name link.s.bit.index ∷ [] else map (renamed a.chains link.s.path) (stood s link.s.bit)) → Drives
      by true g e2 = own-drives link.s.bit.port.name link.s.bit.index (e2 ∙ ap (λ u. if u then bit_of link.s.bit.port.name link.s.bit.index ∷ [] else map (renamed a.chains link.s.path) (stood s link.s.bit)) g)
      by false g e2 =
          stood-by b.path refl g (stood s b) refl
          (e2 ∙ (ap (λ u. if u then bit_of link.s.bit.port.name link.s.bit.index ∷ [] else map (renamed a.chains link.s.path) (stood s link.s.bit)) g
          ∙ (ap (λ u. map (renamed a.chains u) (stood s link.s.bit)) link.lies ∙ ap (λ (c : BoundaryBit). map (renamed a.chains x) (stood s c)) bit-is)))

  append-get : {A : Type 0} (xs : List A) (u : A) (n : ℕ) (v2 : A) → slice_get (xs ++ (u ∷ [])) n ≡ Some v2 → (slice_get xs n ≡ Some v2) ⊎ (v2 ≡ u)
  append-get [] u zero v2 f = let same : u ≡ v2 = cc in inr (sym same)
  append-get [] u (suc n) v2 f = absurd cc
  append-get (t ∷ xs) u zero v2 f = inl f
  append-get (t ∷ xs) u (suc n) v2 f = append-get xs u n v2 f

  pub it-drives : Drives
  it-drives = by (is_input link.s.bit.port) (leads_constant s link.s.path link.s.bit) refl link.drives
    where
      port-is : is_input link.s.bit.port ≡ is_input b.port
      port-is = ap (λ (c : BoundaryBit). is_input c.port) (names.bits.one link.s.bit b (is-of p a.plan link.s link.listed).0.bit (names.chains.bits o in-plan) link.way_is)

      by : (d c : Bool) → is_input link.s.bit.port ≡ d → slice_get (if d then (if c then net_bits link.s else far p a.chains link.s ∷ net_bits link.s) else net_bits link.s ++ (far p a.chains link.s ∷ [])) (suc place) ≡ Some y.1.1.1 → Drives
      by true true g f = net-drives link.s (suc place) f
      by true false g f = net-drives link.s place f
      by false c g f = elim (append-get (net_bits link.s) (far p a.chains link.s) (suc place) y.1.1.1 f) [ inl l ↦ net-drives link.s (suc place) l | inr r ↦ far-drives (sym port-is ∙ g) r ]

  pub drives-source : (d : Drives) → IsIn (CellPin x here.name q.name) (from_one w x d.net d.index here)
  drives-source d =
      let bits : connected [] q.name here.connections ≡ d.bit ∷ [] = ap (connected [] q.name) is.connections ∙ (output-bits ∙ d.bits) in
      let touched = any-in (λ t. same_node (node_of x t) (Inner d.net d.index x)) d.bit (connected [] q.name here.connections) (subst (λ l. IsIn d.bit l) (sym bits) (inl refl)) (ap (λ r. same_node r (Inner d.net d.index x)) d.node ∙ node-self (Inner d.net d.index x)) in
      subst (λ l. IsIn (CellPin x here.name q.name) l) (sym (one-cell p a w written x v here is alone o.cell (first-cell s.cells o.cell fit.names known) d.net d.index))
      (in-left (CellPin x here.name q.name) (some_of (λ (u : PinView). when (is_output_pin u && touches x d.net d.index (connected [] u.name here.connections)) (CellPin x here.name u.name)) o.cell.pins)
      (some_of (λ (g : PgPinView). when (is_some g.switched && touches x d.net d.index (connected [] g.name here.connections)) (SwitchedPin x here.name g.name)) o.cell.pgs)
      (in-some (λ (u : PinView). when (is_output_pin u && touches x d.net d.index (connected [] u.name here.connections)) (CellPin x here.name u.name)) q (CellPin x here.name q.name) o.cell.pins q-listed.0
      (ap (λ t. when t (CellPin x here.name q.name)) (both (is_output_pin q) (touches x d.net d.index (connected [] q.name here.connections)) q-listed.1 touched))))

  -- before the edge, behind it with another one that follows, and last
  abbrev pub Given : Name → Option ℕ → Spot → Type 0
  Given net index wire = (r : IsOfWire p a w (placement_by p a) from (Inner net index x) (CellPin x y.0 q.name)) × (r.wire ≡ wire)

  pub drives-behind : (d : Drives) → is_behind o ≡ false → Given d.net d.index (Behind way k)
  drives-behind d side = before-edge d.net d.index (CellPin x y.0 q.name) d.bit d.bits d.node refl side

  pub drives-next : (d : Drives) → is_behind o ≡ true → (next : Standing) → slice_get all (suc k) ≡ Some next → Given d.net d.index (Before way (suc k))
  drives-next d side next f = followed d.net d.index (CellPin x y.0 q.name) d.bit d.bits d.node refl side next f

  pub drives-last : (d : Drives) → is_behind o ≡ true → slice_get all (suc k) ≡ None → Given d.net d.index (OfNode (node_behind s b))
  drives-last d side f = at-last d.net d.index (CellPin x y.0 q.name) d.bit d.bits d.node refl side f

  module _ (n : Name) (i : Option ℕ) (z : Source) where
    by-pin : FromPin x n i here o.cell z → IsOfWire p a w (placement_by p a) from (Inner n i x) z
    by-pin f =
        let pin_is : f.pin ≡ q = only-is (filter is_output_pin o.cell.pins) q f.pin out.1 (in-filter is_output_pin o.cell.pins f.pin f.listed f.output) in
        let bits : connected [] f.pin.name here.connections ≡ y.1.1.1 = ap (connected [] f.pin.name) is.connections ∙ (ap (λ (r : PinView). connected [] r.name v.connections) pin_is ∙ output-bits) in
        let drives = only-one y.1.1.1 f.touched.bit short (subst (λ l. IsIn f.touched.bit l) bits f.touched.listed) in
        by-side n i z f.touched.bit drives f.touched.is (f.is ∙ (ap (λ r. CellPin x r f.pin.name) is.name ∙ ap (λ (r : PinView). CellPin x y.0 r.name) pin_is)) (is_behind o) refl (slice_get all (suc k)) refl

    by-cell : FromPin x n i here o.cell z ⊎ FromPg x n i here o.cell z → IsOfWire p a w (placement_by p a) from (Inner n i x) z
    by-cell (inl f) = by-pin f
    by-cell (inr g) = absurd (both_ways (is_some g.pin.switched) (fit.operators o in-plan g.pin g.listed) g.switched)

    pub gives-operator : IsIn z (from_one w x n i here) → IsOfWire p a w (placement_by p a) from (Inner n i x) z
    gives-operator g =
        by-cell (cell-source x n i here o.cell z (subst (λ l. IsIn z l) (one-cell p a w written x v here is alone o.cell (first-cell s.cells o.cell fit.names known) n i) g))

pub operators-give : OperatorsGive
operators-give p a w from written names fit on_ways x m e there y h here is n i z g =
    let link = is-linked p a names.chains names.stand names.bits (instances-apart p.structure fit.free.apart) names.ways x there y h in
    gives-operator p a w from written names fit on_ways x m e there y h here is link.0 link.1 n i z g
