-- To which net bits the pins of written instances are connected.
use Rattle.std.proofs.Common.{◌≡◌, ℕ, ◌+◌, Bool, true, false, ◌&&◌, List, [], ◌∷◌, ◌++◌, map, Option, Some, None, inl, inr, refl, sym, ap, ◌∙◌, subst}
use Rattle.std.specs.Prelude.{codes, bytes_eq, filter, option_and_then, if◌then◌else◌}
use Rattle.std.proofs.lemmas.Bool.{false≢true}
use Rattle.lp_model.specs.declared.library.PinUse.{PinUse}
use Rattle.lp_model.specs.declared.library.PinUse.TheVariants.{IsoData, ShiftData}
use Rattle.lp_model.specs.declared.netlist.Direction.{Direction}
use Rattle.lp_model.specs.declared.netlist.Direction.TheVariants.{Input, Output}
use Rattle.lp_model.specs.NetlistView.{BitView, ConnectionView, ConnectionsView, ByName, ByPosition, InstanceView, ModuleView}
use Rattle.lp_model.specs.LibraryView.{PgPinView, PinView, CellView}
use Rattle.lp_spec_design.specs.Keys.{Name, Path, Node}
use Rattle.lp_spec_design.specs.Netlists.{Structure, module_named, instance_named, module_at, node_of, bits_named, bits_placed, connected}
use Rattle.lp_spec_design.specs.Graph.{numbered, some_of, and_more, is_output_pin, pin_node}
use Rattle.lp_spec_design.specs.Chains.{Operator, Clamp, Shift}
use Rattle.lp_spec_design.specs.Settled.{node_at_pin}
use Rattle.lp_spec_design.specs.Winners.{IsIn}
use Rattle.lp_spec_design.specs.Reads.{one, other, name-true, name-self}
use Rattle.lp_spec_design.proofs.Members.{IsApart, in-left, in-right, in-either, in-map, of-map, of-some, of-filter, of-numbered}
use Rattle.lp_spec_design.proofs.Sources.{then_is}
use Rattle.lp_spec_pins.specs.Pins.{is_input_pin, is_data, only, input_for}
use Rattle.lp_spec_fit.specs.Fits.{one_output, is_iso_data, is_iso_enable, is_switch_pin}
use Rattle.lp_spec_fit.specs.Joins.{Joins}
use Rattle.lp_spec_realises.specs.Projects.{Project}
use Rattle.lp_spec_realises.specs.ProjectNetlists.{are_apart}
use Rattle.lp_spec_realises.specs.Realises.{data_pin, joins_of_operator, joins_of_switch}
use Rattle.lp_spec_realises.specs.Implements.{Lists}
use Rattle.lp_spec_written.specs.Places.{Switching, plan, switches_in, with_number}
use Rattle.lp_spec_written.specs.Nets.{Stretch, stretches, renamed, renamed_connections, Linked, linked}
use Rattle.lp_spec_written.specs.Supplies.{joined_pins, source_pins, operator_pins, kept_at, joined_to, origin_bits, supply_connections}
use Rattle.lp_spec_written.specs.Routes.{control_bits, some_control_bits, enable_of}
use Rattle.lp_spec_written.specs.Written.{Additions, additions, at_pin, retention_connections, written_cell_instance, written_by_target, written_instance, named_operators, written_operator, written_operators, written_switch, written_switches, written_instances}
use Rattle.lp_spec_wired.specs.Contents.{IsWrittenAt}
use Rattle.lp_spec_wired.specs.Names.{name_of_node}
use Rattle.lp_spec_written_at.specs.Sources.{IsFree, HasFewAdditions, node_of_bits, connections_of, cell_names}
use Rattle.lp_spec_written_at.proofs.Lists.{first-apart}
use Rattle.lp_spec_written_at.proofs.Picked.{map-append}
use Rattle.lp_spec_written_at.proofs.Cells.{found-in}
use Rattle.lp_spec_written_at.proofs.Instances.{apart-append}
use Rattle.lp_spec_written_at.proofs.SourceCells.{instances-named}
use Rattle.lp_spec_written_at.proofs.Wiring.{node-renamed}
use Rattle.lp_spec_written_at.proofs.InstanceNames.{apart-names, instance-names}
use Rattle.lp_spec_written_at.proofs.Weave.{names-apart, apart-front, apart-back, apart-sides, key-tells}

-- ---- the instance of a name

pub pins-written : (p : Project) (l : Lists) (w : Structure) → IsFree p → HasFewAdditions p l → IsWrittenAt p (additions p l) w → (x : Path) (m : ModuleView) → module_at p.structure x ≡ Some m
    → (y : InstanceView) → IsIn y (written_instances p (additions p l) x m) → (q : Name) → node_at_pin w x y.name q ≡ pin_node x q y.connections
pins-written p l w f few is x m e y h q =
    let at = is.modules x m e in
    let found = found-in w x y.name y (written_instances p (additions p l) x m) at.here.instances at.content.instances (first-apart (written_instances p (additions p l) x m) y (instance-names p l f x m e (few.operators x) (few.switches x)) h) in
    ap (λ o. option_and_then (λ (k : ModuleView). option_and_then (λ (i : InstanceView). pin_node x q i.connections) (instance_named k y.name)) o) at.is
    ∙ (ap (λ o. option_and_then (λ (i : InstanceView). pin_node x q i.connections) o) found.is
    ∙ ap (pin_node x q) found.instance.connections)

-- ---- connections of different names

pub pin-by : (x : Path) (q : Name) (cs : ConnectionsView) (bits : List BitView) → connected [] q cs ≡ bits → pin_node x q cs ≡ node_of_bits x bits
pin-by x q cs [] e = rw (e) refl
pin-by x q cs (b ∷ bits) e = rw (e) refl

abbrev pub port_of : ConnectionView → Name
port_of c = c.port

pub bits-of : (cs : List ConnectionView) → IsApart (map port_of cs) → (c : ConnectionView) → IsIn c cs → bits_named c.port cs ≡ c.bits
bits-of [] apart c h = absurd h
bits-of (d ∷ cs) apart c (inl is) = ap (λ b. if b then d.bits else bits_named c.port cs) (ap (λ (k : ConnectionView). bytes_eq d.port k.port) is ∙ name-self d.port) ∙ ap (λ (k : ConnectionView). k.bits) (sym is)
bits-of (d ∷ cs) apart c (inr h) = by (bytes_eq d.port c.port) refl (bits-of cs apart.1 c h)
  where
    by : (b : Bool) → bytes_eq d.port c.port ≡ b → bits_named c.port cs ≡ c.bits → (if b then d.bits else bits_named c.port cs) ≡ c.bits
    by true e more = absurd (apart.0 (subst (λ n. IsIn n (map port_of cs)) (sym (name-true d.port c.port e)) (in-map port_of c cs h)))
    by false e more = more

placed-none : (q : Name) (values : List (List BitView)) → bits_placed q [] values ≡ []
placed-none q values = refl

-- what stands in front of other connections
pub bits-front : (cs ds : List ConnectionView) → IsApart (map port_of cs) → (c : ConnectionView) → IsIn c cs → bits_named c.port (cs ++ ds) ≡ c.bits
bits-front [] ds apart c h = absurd h
bits-front (d ∷ cs) ds apart c (inl is) = ap (λ b. if b then d.bits else bits_named c.port (cs ++ ds)) (ap (λ (k : ConnectionView). bytes_eq d.port k.port) is ∙ name-self d.port) ∙ ap (λ (k : ConnectionView). k.bits) (sym is)
bits-front (d ∷ cs) ds apart c (inr h) = by (bytes_eq d.port c.port) refl (bits-front cs ds apart.1 c h)
  where
    by : (b : Bool) → bytes_eq d.port c.port ≡ b → bits_named c.port (cs ++ ds) ≡ c.bits → (if b then d.bits else bits_named c.port (cs ++ ds)) ≡ c.bits
    by true e more = absurd (apart.0 (subst (λ n. IsIn n (map port_of cs)) (sym (name-true d.port c.port e)) (in-map port_of c cs h)))
    by false e more = more

pub bits-behind : (n : Name) (cs ds : List ConnectionView) → ((c : ConnectionView) → IsIn c cs → bytes_eq c.port n ≡ false) → bits_named n (cs ++ ds) ≡ bits_named n ds
bits-behind n [] ds none = refl
bits-behind n (c ∷ cs) ds none = ap (λ b. if b then c.bits else bits_named n (cs ++ ds)) (none c (inl refl)) ∙ bits-behind n cs ds (λ d h. none d (inr h))

pub connection-read : (x : Path) (cs : ConnectionsView) → are_apart (map (λ (c : ConnectionView). c.port) (connections_of cs)) ≡ true → (c : ConnectionView) → IsIn c (connections_of cs) → pin_node x c.port cs ≡ node_of_bits x c.bits
connection-read x (ByName cs) apart c h = pin-by x c.port (ByName cs) c.bits (bits-of cs (names-apart (map port_of cs) apart) c h)
connection-read x cs apart c h = absurd h

-- ---- those of operators and switches

no-both : (r : PinView) → is_input_pin r ≡ true → is_output_pin r ≡ true → ⊥
no-both r h g = by r.direction refl
  where
    by : (d : Direction) → r.direction ≡ d → ⊥
    by Input e = false≢true (ap (λ z. is_output_pin (record r { direction = z })) (sym e) ∙ g)
    by Output e = false≢true (ap (λ z. is_input_pin (record r { direction = z })) (sym e) ∙ h)

iso-differs : (q : PinView) → is_iso_data q ≡ true → is_iso_enable q ≡ true → ⊥
iso-differs q h g = by q.use_of refl
  where
    by : (u : PinUse) → q.use_of ≡ u → ⊥
    by IsoData e = false≢true (ap (λ z. is_iso_enable (record q { use_of = z })) (sym e) ∙ g)
    by u e = false≢true (ap (λ z. is_iso_data (record q { use_of = z })) (sym e) ∙ h)

data-differs : (q : PinView) → is_data q ≡ true → is_iso_enable q ≡ true → ⊥
data-differs q h g = by q.use_of refl
  where
    by : (u : PinUse) → q.use_of ≡ u → ⊥
    by ShiftData e = false≢true (ap (λ z. is_iso_enable (record q { use_of = z })) (sym e) ∙ g)
    by u e = false≢true (ap (λ z. is_data (record q { use_of = z })) (sym e) ∙ h)

ports-append : (cs ds : List ConnectionView) → IsApart (map port_of cs) → IsApart (map port_of ds) → ((c d : ConnectionView) → IsIn c cs → IsIn d ds → c.port ≡ d.port → ⊥) → IsApart (map port_of (cs ++ ds))
ports-append cs ds one two differ =
    subst (λ ns. IsApart ns) (sym (map-append port_of cs ds))
    (apart-append (map port_of cs) (map port_of ds) one two (λ n h g.
    let c = of-map port_of n cs h in
    let d = of-map port_of n ds g in
    differ c.0 d.0 c.1 d.1 (sym c.2 ∙ d.2)))

pin-apart : (o : Option PinView) (bits : List BitView) → IsApart (map port_of (at_pin o bits))
pin-apart None bits = tt
pin-apart (Some q) bits = (λ h. h, tt)

of-pin : (o : Option PinView) (bits : List BitView) (c : ConnectionView) → IsIn c (at_pin o bits) → (q : PinView) × (o ≡ Some q) × (c.port ≡ q.name)
of-pin None bits c h = absurd h
of-pin (Some q) bits c (inl is) = (q, refl, ap port_of is)
of-pin (Some q) bits c (inr h) = absurd h

of-only : {A : Type 0} (xs : List A) (x : A) → only xs ≡ Some x → IsIn x xs
of-only [] x e = absurd cc
of-only (y ∷ []) x e = let is : y ≡ x = cc in inl (sym is)
of-only (y ∷ z ∷ rest) x e = absurd cc

module _ (c : CellView) (apart : are_apart (cell_names c) ≡ true) where
  abbrev pins : List Name
  pins = map (λ (q : PinView). q.name) c.pins

  abbrev pgs : List Name
  pgs = map (λ (g : PgPinView). g.name) c.pgs

  all : IsApart (pins ++ pgs)
  all = names-apart (pins ++ pgs) apart

  one-pin : (q r : PinView) → IsIn q c.pins → IsIn r c.pins → q.name ≡ r.name → q ≡ r
  one-pin q r h g e = key-tells (λ (z : PinView). z.name) c.pins (apart-front pins pgs all) q r h g e

  of-input : (t : PinView → Bool) (q : PinView) → input_for t c ≡ Some q → IsIn q c.pins × (is_input_pin q ≡ true) × (t q ≡ true)
  of-input t q e =
      let kept = of-filter (λ z. is_input_pin z && t z) q c.pins (of-only (filter (λ z. is_input_pin z && t z) c.pins) q e) in
      (kept.0, one (is_input_pin q) (t q) kept.1, other (is_input_pin q) (t q) kept.1)

  of-output : (q : PinView) → one_output c ≡ Some q → IsIn q c.pins × (is_output_pin q ≡ true)
  of-output q e = of-filter is_output_pin q c.pins (of-only (filter is_output_pin c.pins) q e)

  -- an input is no output, and a pin has one use
  in-or-out : (q r : PinView) → IsIn q c.pins × (is_input_pin q ≡ true) → IsIn r c.pins × (is_output_pin r ≡ true) → q.name ≡ r.name → ⊥
  in-or-out q r h g e = no-both r (ap is_input_pin (sym (one-pin q r h.0 g.0 e)) ∙ h.1) g.1

  -- ---- supplies

  abbrev joined_at : Joins → ℕ × PgPinView → Option (Name × ℕ)
  joined_at join g = option_and_then (λ o. Some (g.1.name, o)) (join g.0 g.1)

  joined-name : (join : Joins) (g : ℕ × PgPinView) (z : Name × ℕ) → joined_at join g ≡ Some z → z.0 ≡ g.1.name
  joined-name join g z e =
      let found = then_is (λ o. Some (g.1.name, o)) (join g.0 g.1) z e in
      inside (g.1.name, found.0) refl found.2
    where
      inside : (v : Name × ℕ) → v.0 ≡ g.1.name → Some v ≡ Some z → z.0 ≡ g.1.name
      inside v is same = let eq : v ≡ z = cc in ap (λ (u : Name × ℕ). u.0) (sym eq) ∙ is

  joined-apart : (join : Joins) (k : ℕ) (gs : List PgPinView) → IsApart (map (λ (g : PgPinView). g.name) gs) → IsApart (map (λ (z : Name × ℕ). z.0) (some_of (joined_at join) (numbered k gs)))
  joined-apart join k [] once = tt
  joined-apart join k (g ∷ gs) once = by (joined_at join (k, g)) refl (joined-apart join (k + 1) gs once.1)
    where
      rest : List (Name × ℕ)
      rest = some_of (joined_at join) (numbered (k + 1) gs)

      absent : (z : Name × ℕ) → joined_at join (k, g) ≡ Some z → IsIn z.0 (map (λ (v : Name × ℕ). v.0) rest) → ⊥
      absent z e h =
          let two = of-map (λ (v : Name × ℕ). v.0) z.0 rest h in
          let three = of-some (joined_at join) two.0 (numbered (k + 1) gs) two.1 in
          let name : g.name ≡ three.0.1.name = sym (joined-name join (k, g) z e) ∙ (two.2 ∙ joined-name join three.0 two.0 three.2) in
          once.0 (subst (λ n. IsIn n (map (λ (v : PgPinView). v.name) gs)) (sym name) (in-map (λ (v : PgPinView). v.name) three.0.1 gs (of-numbered (k + 1) three.0 gs three.1)))

      by : (o : Option (Name × ℕ)) → joined_at join (k, g) ≡ o → IsApart (map (λ (v : Name × ℕ). v.0) rest) → IsApart (map (λ (v : Name × ℕ). v.0) (and_more o rest))
      by None e more = more
      by (Some z) e more = (absent z e, more)

  pub pins-joined-apart : (o : Option Joins) → IsApart (map (λ (z : Name × ℕ). z.0) (joined_pins c o))
  pins-joined-apart None = tt
  pins-joined-apart (Some join) = joined-apart join 0 c.pgs (apart-back pins pgs all)

  pub joined-in : (o : Option Joins) (z : Name × ℕ) → IsIn z (joined_pins c o) → IsIn z.0 pgs
  joined-in None z h = absurd h
  joined-in (Some join) z h =
      let found = of-some (joined_at join) z (numbered 0 c.pgs) h in
      subst (λ n. IsIn n pgs) (sym (joined-name join found.0 z found.2)) (in-map (λ (g : PgPinView). g.name) found.0.1 c.pgs (of-numbered 0 found.0 c.pgs found.1))

  module _ (p : Project) (a : Additions) (o : Option Joins) where
    abbrev supplies : List ConnectionView
    supplies = supply_connections p a.plan (joined_pins c o)

    pub supplies-from : (zs : List (Name × ℕ)) → IsApart (map (λ (z : Name × ℕ). z.0) zs) → IsApart (map port_of (supply_connections p a.plan zs))
    supplies-from [] once = tt
    supplies-from (z ∷ zs) once = (
      λ h.
          let two = of-map port_of z.0 (supply_connections p a.plan zs) h in
          let three = of-map (λ (q : Name × ℕ). joined_to q.0 (origin_bits p a.plan q.1)) two.0 zs two.1 in
          once.0 (subst (λ n. IsIn n (map (λ (q : Name × ℕ). q.0) zs)) (sym (two.2 ∙ ap port_of three.2)) (in-map (λ (q : Name × ℕ). q.0) three.0 zs three.1)),
      supplies-from zs once.1,
    )

    pub supply-name : (d : ConnectionView) → IsIn d supplies → IsIn d.port pgs
    supply-name d h =
        let two = of-map (λ (q : Name × ℕ). joined_to q.0 (origin_bits p a.plan q.1)) d (joined_pins c o) h in
        subst (λ n. IsIn n pgs) (sym (ap port_of two.2)) (joined-in o two.0 two.1)

    pin-no-supply : (q : PinView) → IsIn q c.pins → (k d : ConnectionView) → k.port ≡ q.name → IsIn d supplies → k.port ≡ d.port → ⊥
    pin-no-supply q h k d name g same =
        apart-sides pins pgs all d.port (subst (λ n. IsIn n pins) (sym (sym same ∙ name)) (in-map (λ (z : PinView). z.name) q c.pins h)) (supply-name d g)

    -- the data, the enable, the output, and the supplies
    operator-apart : (data_use : PinView → Bool) → ((q : PinView) → data_use q ≡ true → is_iso_enable q ≡ true → ⊥) → (one_bits two_bits three_bits : List BitView)
        → IsApart (map port_of (at_pin (input_for data_use c) one_bits ++ (at_pin (input_for is_iso_enable c) two_bits ++ (at_pin (one_output c) three_bits ++ supplies))))
    operator-apart data_use differ one_bits two_bits three_bits =
        ports-append reads (enable ++ (drives ++ supplies)) (pin-apart (input_for data_use c) one_bits)
        (ports-append enable (drives ++ supplies) (pin-apart (input_for is_iso_enable c) two_bits)
        (ports-append drives supplies (pin-apart (one_output c) three_bits) (supplies-from (joined_pins c o) (pins-joined-apart o))
        (λ k d h g same. let q = of-pin (one_output c) three_bits k h in pin-no-supply q.0 (of-output q.0 q.1).0 k d q.2 g same))
        (λ k d h g same.
        let q = of-pin (input_for is_iso_enable c) two_bits k h in
        let its = of-input is_iso_enable q.0 q.1 in
        elim (in-either d drives supplies g) [
          | inl out ↦ let r = of-pin (one_output c) three_bits d out in in-or-out q.0 r.0 (its.0, its.1) (of-output r.0 r.1) (sym q.2 ∙ (same ∙ r.2))
          | inr s ↦ pin-no-supply q.0 its.0 k d q.2 s same
        ]))
        (λ k d h g same.
        let q = of-pin (input_for data_use c) one_bits k h in
        let its = of-input data_use q.0 q.1 in
        elim (in-either d enable (drives ++ supplies) g) [
          | inl en ↦
              let r = of-pin (input_for is_iso_enable c) two_bits d en in
              let enabling = of-input is_iso_enable r.0 r.1 in
              differ r.0 (ap data_use (sym (one-pin q.0 r.0 its.0 enabling.0 (sym q.2 ∙ (same ∙ r.2)))) ∙ its.2) enabling.2
          | inr more ↦ elim (in-either d drives supplies more) [
            | inl out ↦ let r = of-pin (one_output c) three_bits d out in in-or-out q.0 r.0 (its.0, its.1) (of-output r.0 r.1) (sym q.2 ∙ (same ∙ r.2))
            | inr s ↦ pin-no-supply q.0 its.0 k d q.2 s same
          ]
        ])
      where
        reads : List ConnectionView
        reads = at_pin (input_for data_use c) one_bits

        enable : List ConnectionView
        enable = at_pin (input_for is_iso_enable c) two_bits

        drives : List ConnectionView
        drives = at_pin (one_output c) three_bits

    switch-apart : (bits : List BitView) → IsApart (map port_of (at_pin (input_for is_switch_pin c) bits ++ supplies))
    switch-apart bits =
        ports-append (at_pin (input_for is_switch_pin c) bits) supplies (pin-apart (input_for is_switch_pin c) bits) (supplies-from (joined_pins c o) (pins-joined-apart o))
        (λ k d h g same. let q = of-pin (input_for is_switch_pin c) bits k h in pin-no-supply q.0 (of-input is_switch_pin q.0 q.1).0 k d q.2 g same)

pub operator-ports : (p : Project) (a : Additions) (x : Path) (y : Name × Linked) → are_apart (cell_names y.1.0.cell) ≡ true → are_apart (map (λ (c : ConnectionView). c.port) (connections_of (written_operator p a x y).connections)) ≡ true
operator-ports p a x y apart = by y.1.0.asked.operator refl
  where
    c : CellView
    c = y.1.0.cell

    list : Operator → List ConnectionView
    list o =
        at_pin (data_pin o c) y.1.1.0
        ++ (at_pin (input_for is_iso_enable c) (some_control_bits a.chains a.controls x (enable_of p y.1.0.asked.operator))
        ++ (at_pin (one_output c) y.1.1.1
        ++ supply_connections p a.plan (operator_pins p y.1.0)))

    by : (o : Operator) → y.1.0.asked.operator ≡ o → are_apart (map port_of (list y.1.0.asked.operator)) ≡ true
    by (Clamp t i) e =
        ap (λ o. are_apart (map port_of (list o))) e
        ∙ apart-names (map port_of (list (Clamp t i)))
        (operator-apart c apart p a (joins_of_operator p y.1.0.path y.1.0.asked.operator c) is_iso_data iso-differs y.1.1.0 (some_control_bits a.chains a.controls x (enable_of p y.1.0.asked.operator)) y.1.1.1)
    by (Shift t u v) e =
        ap (λ o. are_apart (map port_of (list o))) e
        ∙ apart-names (map port_of (list (Shift t u v)))
        (operator-apart c apart p a (joins_of_operator p y.1.0.path y.1.0.asked.operator c) is_data data-differs y.1.1.0 (some_control_bits a.chains a.controls x (enable_of p y.1.0.asked.operator)) y.1.1.1)

pub switch-ports : (p : Project) (a : Additions) (x : Path) (y : ℕ × Switching) → are_apart (cell_names y.1.cell) ≡ true → are_apart (map (λ (c : ConnectionView). c.port) (connections_of (written_switch p a x y).connections)) ≡ true
switch-ports p a x y apart =
    apart-names _ (switch-apart y.1.cell apart p a (joins_of_switch p y.1.asked y.1.cell) (control_bits a.chains a.controls x y.1.asked.control))

-- ---- at their places

module _ (p : Project) (l : Lists) (w : Structure) (f : IsFree p) (few : HasFewAdditions p l) (is : IsWrittenAt p (additions p l) w) (x : Path) (m : ModuleView) (e : module_at p.structure x ≡ Some m) where
  abbrev a : Additions
  a = additions p l

  pub operator-read : (y : Name × Linked) → IsIn y (named_operators (linked p a.chains x)) → are_apart (cell_names y.1.0.cell) ≡ true → (c : ConnectionView) → IsIn c (connections_of (written_operator p a x y).connections) → node_at_pin w x y.0 c.port ≡ node_of_bits x c.bits
  operator-read y h apart c g =
      let listed =
      in-right (written_operator p a x y) (map (written_instance p a x) m.instances) (written_operators p a x ++ written_switches p a x)
      (in-left (written_operator p a x y) (written_operators p a x) (written_switches p a x) (in-map (written_operator p a x) y (named_operators (linked p a.chains x)) h)) in
      pins-written p l w f few is x m e (written_operator p a x y) listed c.port
      ∙ connection-read x (written_operator p a x y).connections (operator-ports p a x y apart) c g

  pub switch-read : (y : ℕ × Switching) → IsIn y (numbered 0 (switches_in (plan p l) x)) → are_apart (cell_names y.1.cell) ≡ true → (c : ConnectionView) → IsIn c (connections_of (written_switch p a x y).connections) → node_at_pin w x (with_number (codes "lp_s_") y.0) c.port ≡ node_of_bits x c.bits
  switch-read y h apart c g =
      let listed =
      in-right (written_switch p a x y) (map (written_instance p a x) m.instances) (written_operators p a x ++ written_switches p a x)
      (in-right (written_switch p a x y) (written_operators p a x) (written_switches p a x) (in-map (written_switch p a x) y (numbered 0 (switches_in (plan p l) x)) h)) in
      pins-written p l w f few is x m e (written_switch p a x y) listed c.port
      ∙ connection-read x (written_switch p a x y).connections (switch-ports p a x y apart) c g

  -- ---- cell instances of the source

  abbrev chains : List Stretch
  chains = stretches p (plan p l)

  abbrev renamed_in : ConnectionView → ConnectionView
  renamed_in c = record c { bits = map (renamed chains x) c.bits }

  bits-renamed : (q : Name) (cs more : List ConnectionView) (b : BitView) (bits : List BitView) → bits_named q cs ≡ b ∷ bits → bits_named q (map renamed_in cs ++ more) ≡ renamed chains x b ∷ map (renamed chains x) bits
  bits-renamed q [] more b bits g = absurd cc
  bits-renamed q (c ∷ cs) more b bits g = by (bytes_eq c.port q) g (bits-renamed q cs more b bits)
    where
      by : (t : Bool) → (if t then c.bits else bits_named q cs) ≡ b ∷ bits → (bits_named q cs ≡ b ∷ bits → bits_named q (map renamed_in cs ++ more) ≡ renamed chains x b ∷ map (renamed chains x) bits)
          → (if t then map (renamed chains x) c.bits else bits_named q (map renamed_in cs ++ more)) ≡ renamed chains x b ∷ map (renamed chains x) bits
      by true r rest = ap (map (renamed chains x)) r
      by false r rest = rest r

  source-read : (y : InstanceView) → IsIn y m.instances → module_named p.structure y.target ≡ None → (q : Name) (k : Node) → pin_node x q y.connections ≡ Some k → pin_node x q (written_cell_instance p a x y).connections ≡ Some (name_of_node chains k)
  source-read y h none q k g = by y.connections refl
    where
      more : List ConnectionView
      more = retention_connections a x (kept_at a.plan (record { path = x; instance = y.name })) ++ supply_connections p a.plan (source_pins p a.plan (record { path = x; instance = y.name }))

      some-same : (u v : Node) → Some u ≡ Some v → u ≡ v
      some-same u v r = cc

      named : (cs : List ConnectionView) (bits : List BitView) → bits_named q cs ≡ bits → pin_node x q (ByName cs) ≡ Some k → pin_node x q (ByName (map renamed_in cs ++ more)) ≡ Some (name_of_node chains k)
      named cs [] t r = let bad : None ≡ Some k = sym (pin-by x q (ByName cs) [] t) ∙ r in absurd cc
      named cs (b ∷ bits) t r =
          let same : node_of x b ≡ k = some-same (node_of x b) k (sym (pin-by x q (ByName cs) (b ∷ bits) t) ∙ r) in
          pin-by x q (ByName (map renamed_in cs ++ more)) (renamed chains x b ∷ map (renamed chains x) bits) (bits-renamed q cs more b bits t)
          ∙ ap (λ z. Some z) (sym (node-renamed chains x b) ∙ ap (name_of_node chains) same)

      by : (cs : ConnectionsView) → y.connections ≡ cs → pin_node x q (written_cell_instance p a x y).connections ≡ Some (name_of_node chains k)
      by (ByName cs) t =
          ap (λ z. pin_node x q (ByName (renamed_connections chains x z ++ more))) t
          ∙ named cs (bits_named q cs) refl (ap (pin_node x q) (sym t) ∙ g)
      by (ByPosition values) t =
          let bad : None ≡ Some k = sym (pin-by x q (ByPosition values) [] (placed-none q values)) ∙ (ap (pin_node x q) (sym t) ∙ g) in
          absurd cc

  -- a pin is connected as its instance is written
  pub source-pin : (y : InstanceView) → IsIn y m.instances → module_named p.structure y.target ≡ None → (q : Name) → node_at_pin w x y.name q ≡ pin_node x q (written_cell_instance p a x y).connections
  source-pin y h none q =
      let its : written_instance p a x y ≡ written_cell_instance p a x y = ap (written_by_target p a x y) none in
      let listed = in-left (written_instance p a x y) (map (written_instance p a x) m.instances) (written_operators p a x ++ written_switches p a x) (in-map (written_instance p a x) y m.instances h) in
      ap (λ (i : InstanceView). node_at_pin w x i.name q) (sym its)
      ∙ (pins-written p l w f few is x m e (written_instance p a x y) listed q
      ∙ ap (λ (i : InstanceView). pin_node x q i.connections) its)

  pub source-kept : (y : InstanceView) → IsIn y m.instances → module_named p.structure y.target ≡ None → (q : Name) (k : Node) → node_at_pin p.structure x y.name q ≡ Some k → node_at_pin w x y.name q ≡ Some (name_of_node chains k)
  source-kept y h none q k g =
      let old : pin_node x q y.connections ≡ Some k =
      sym (ap (λ o. option_and_then (λ (n : ModuleView). option_and_then (λ (i : InstanceView). pin_node x q i.connections) (instance_named n y.name)) o) e
      ∙ ap (λ o. option_and_then (λ (i : InstanceView). pin_node x q i.connections) o) (first-apart m.instances y (instances-named p f x m e) h))
      ∙ g in
      source-pin y h none q ∙ source-read y h none q k old
