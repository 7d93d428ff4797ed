-- What a switch drives in the written netlist: the net of its own origin.
use Rattle.std.proofs.Common.{◌≡◌, ◌≤◌, ℕ, Bool, true, false, not, ◌&&◌, ◌||◌, ◌==◌, cond, List, [], ◌∷◌, ◌++◌, map, length, Option, Some, None, inl, inr, refl, sym, ◌∙◌, ap, subst, arith}
use Rattle.std.specs.Prelude.{bytes_eq, codes, filter, unwrap_or, is_some, option_and_then, if◌then◌else◌}
use Rattle.std.proofs.lemmas.Bool.{false≢true, both_ways, eq-eqb}
use Rattle.lp_model.specs.NetlistView.{NetBit, ConnectionView, InstanceView, ModuleView}
use Rattle.lp_model.specs.LibraryView.{PgPinView, PinView, CellView}
use Rattle.lp_spec_design.specs.Keys.{Name, Path, same_path, Node, Inner, Way, Source, SwitchedPin, CellPin, same_node}
use Rattle.lp_spec_design.specs.Netlists.{Structure, first, module_at, node_of, bits_named, connected}
use Rattle.lp_spec_design.specs.Instances.{Placed}
use Rattle.lp_spec_design.specs.Graph.{numbered, when, is_output_pin, from_one, way_in, some_of, touches}
use Rattle.lp_spec_design.specs.Intents.{FromSwitch}
use Rattle.lp_spec_design.specs.Registers.{is_above}
use Rattle.lp_spec_design.specs.Reads.{name-self, path-true, path-self, node-self, both}
use Rattle.lp_spec_design.specs.Winners.{IsIn}
use Rattle.lp_spec_design.proofs.Members.{in-right, in-map, of-map, of-filter, of-numbered, any-in}
use Rattle.lp_spec_pins.specs.Pins.{only, is_input_pin, input_for}
use Rattle.lp_spec_fit.specs.Fits.{is_switch_pin}
use Rattle.lp_spec_realises.specs.Projects.{Project}
use Rattle.lp_spec_realises.specs.Ends.{AtSwitched, own_end, switched_end}
use Rattle.lp_spec_realises.specs.Realises.{cell_of, joins_of_switch}
use Rattle.lp_spec_written.specs.Places.{Switching, with_number, switches_in}
use Rattle.lp_spec_written.specs.Supplies.{Use, home, goes_out, goes_in, switch_net, switch_of, joined_to, origin_bits, bits_by_kind, switch_pins, supply_connections}
use Rattle.lp_spec_written.specs.Routes.{control_bits}
use Rattle.lp_spec_written.specs.Written.{Additions, at_pin, written_switch, written_switches, written_operators}
use Rattle.lp_spec_hub.specs.Spots.{Carried, BySwitch, FromSpot}
use Rattle.lp_spec_hub.specs.Drives.{switch_from, has_switch, drive_switch, drive_origin, toward}
use Rattle.lp_spec_hub.proofs.Paths.{above-self, above-both}
use Rattle.lp_spec_realises.specs.Implements.{parent_of}
use Rattle.lp_spec_wired.specs.Contents.{IsInstance, IsWrittenAt}
use Rattle.lp_spec_wired.specs.Names.{name_by, switch_in, switch_at, placement_by}
use Rattle.lp_spec_wired.specs.Laws.{done_of}
use Rattle.lp_spec_wired.proofs.Lists.{first-there, bits-behind, bits-none, bits-there}
use Rattle.lp_spec_wired.proofs.Others.{supply-name}
use Rattle.lp_spec_written_at.proofs.Cells.{first-cell}
use Rattle.lp_spec_written_at.proofs.Switches.{switch-cell}
use Rattle.lp_spec_design.proofs.Sources.{first_in}
use Rattle.lp_spec_written_at.proofs.Lists.{in-some}
use Rattle.lp_spec_driven.specs.Wires.{IsOfWire}
use Rattle.lp_spec_driven.specs.Sound.{HasFitCells, SwitchesOut, HasSwitches}
use Rattle.lp_spec_driven.specs.Laws.{SwitchesGive}
use Rattle.lp_spec_driven.proofs.Sources.{FromPin, FromPg, cell-source, one-cell}
use Rattle.lp_spec_driven.proofs.SourceCells.{supply-other}
use Rattle.lp_spec_driven.proofs.Operators.{added-alone, input-other, at-pin-other}
use Rattle.lp_spec_driven.proofs.Parts.{one-number, filter-less}
use Rattle.lp_spec_driven.proofs.Added.{common-of-first}

switched-is : (w : Structure) (place : Placed) (c : CellView) (g : PgPinView) → cell_of w place ≡ Some c → first (λ (h : PgPinView). is_some h.switched) c.pgs ≡ Some g → switched_end w place ≡ AtSwitched place.path place.instance g.name
switched-is w place c g e f = rw (e) (rw (f) refl)

append-none : {A : Type 0} (xs : List A) → xs ++ [] ≡ xs
append-none [] = refl
append-none (x ∷ xs) = ap (λ ys. x ∷ ys) (append-none xs)

-- the first that passes, where no other does
none-in : {A : Type 0} (t : A → Bool) (zs : List A) (x : A) → t x ≡ true → length (filter t zs) ≤ 0 → IsIn x zs → ⊥
none-in t [] x e l g = g
none-in t (z ∷ zs) x e l g = by (t z) refl l g (none-in t zs x e)
  where
    by : (b : Bool) → t z ≡ b → length (cond b (z ∷ filter t zs) (filter t zs)) ≤ 0 → IsIn x (z ∷ zs) → (length (filter t zs) ≤ 0 → IsIn x zs → ⊥) → ⊥
    by true is h r more = absurd (omega (arith, h))
    by false is h (inl same) more = both_ways (t z) is (ap t (sym same) ∙ e)
    by false is h (inr r) more = more h r

first-only : {A : Type 0} (t : A → Bool) (xs : List A) (x : A) → length (filter t xs) ≤ 1 → IsIn x xs → t x ≡ true → first t xs ≡ Some x
first-only t [] x few h e = absurd h
first-only t (y ∷ xs) x few h e = by (t y) refl few h (λ l r. first-only t xs x l r e)
  where
    by : (b : Bool) → t y ≡ b → length (cond b (y ∷ filter t xs) (filter t xs)) ≤ 1 → IsIn x (y ∷ xs) → (length (filter t xs) ≤ 1 → IsIn x xs → first t xs ≡ Some x) → (if b then Some y else first t xs) ≡ Some x
    by true is l (inl same) more = ap (λ z. Some z) (sym same)
    by true is l (inr r) more = absurd (none-in t xs x e (omega (arith, l)) r)
    by false is l (inl same) more = absurd (both_ways (t y) is (ap t (sym same) ∙ e))
    by false is l (inr r) more = more l r

module _ (p : Project) (a : Additions) (w : Structure) (from : Way → Node) (written : IsWrittenAt p a w) (fit : HasFitCells p a) (switches : HasSwitches p a)
    (x : Path) (m : ModuleView) (e : module_at p.structure x ≡ Some m) (y : ℕ × Switching) (h : IsIn y (numbered 0 (switches_in a.plan x))) (here : InstanceView) (is : IsInstance w x (written_switch p a x y) here) where
  abbrev pub s : Switching
  s = y.1

  abbrev pub o : ℕ
  o = s.asked.origin

  abbrev v : InstanceView
  v = written_switch p a x y

  in-plan : IsIn s a.plan.switches × (s.path ≡ x)
  in-plan = let found = of-filter (λ (r : Switching). same_path r.path x) s a.plan.switches (of-numbered 0 y (switches_in a.plan x) h) in (found.0, path-true s.path x found.1)

  pub out : SwitchesOut p a s
  out = switches.out s in-plan.0

  alone : module_at w (v.name ∷ x) ≡ None
  alone = added-alone p a w written fit x m e v (in-right v (written_operators p a x) (written_switches p a x) (in-map (written_switch p a x) y (numbered 0 (switches_in a.plan x)) h))

  known : IsIn s.cell p.structure.cells
  known = fit.switch_cells s in-plan.0

  its : switch_of a.plan o ≡ Some s
  its = first-only (λ (r : Switching). r.asked.origin == o) a.plan.switches s (switches.once o) in-plan.0 (eq-eqb o o refl)

  pub bits-are : origin_bits p a.plan o ≡ NetBit (switch_net s) ∷ []
  bits-are =
      let kind = out.origin in
      ap (λ k. bits_by_kind p o k (switch_of a.plan o)) kind.3 ∙ ap (bits_by_kind p o (Some (FromSwitch kind.0 kind.1 kind.2))) its

  -- no signal pin drives
  no-pin : (q : PinView) → IsIn q s.cell.pins → is_output_pin q ≡ true → connected [] q.name v.connections ≡ []
  no-pin q q_in output =
      bits-behind q.name (at_pin (input_for is_switch_pin s.cell) (control_bits a.chains a.controls x s.asked.control)) (supply_connections p a.plan (switch_pins p s))
      (at-pin-other (input_for is_switch_pin s.cell) (control_bits a.chains a.controls x s.asked.control) q.name (λ d f. input-other s.cell (fit.switch_cell_pins s in-plan.0) is_switch_pin q d q_in output f))
      ∙ bits-none q.name (supply_connections p a.plan (switch_pins p s)) (λ k r. supply-other p a.plan s.cell (fit.switch_cell_pins s in-plan.0) q q_in (joins_of_switch p s.asked s.cell) k r)

  -- the switched pin is joined to the switch's origin
  pin-bits : connected [] out.pin.name v.connections ≡ NetBit (switch_net s) ∷ []
  pin-bits =
      let g = out.pin in
      bits-behind g.name (at_pin (input_for is_switch_pin s.cell) (control_bits a.chains a.controls x s.asked.control)) (supply_connections p a.plan (switch_pins p s))
      (at-pin-other (input_for is_switch_pin s.cell) (control_bits a.chains a.controls x s.asked.control) g.name (λ d f. out.names d (input-in d f)))
      ∙ (ap (bits_named g.name) (sym (append-none (supply_connections p a.plan (switch_pins p s))))
      ∙ bits-there g.name (NetBit (switch_net s) ∷ []) (supply_connections p a.plan (switch_pins p s)) [] (joined_to out.has.0.0 (origin_bits p a.plan out.has.0.1))
      (in-map (λ (q : Name × ℕ). joined_to q.0 (origin_bits p a.plan q.1)) out.has.0 (switch_pins p s) out.has.1)
      (ap (λ k. bytes_eq k g.name) out.has.2 ∙ name-self g.name)
      (λ d r f.
      let source = of-map (λ (q : Name × ℕ). joined_to q.0 (origin_bits p a.plan q.1)) d (switch_pins p s) r in
      let same = out.joined source.0 source.1 (ap (λ (k : ConnectionView). bytes_eq k.port g.name) (sym source.2) ∙ f) in
      ap (λ (k : ConnectionView). k.bits) source.2 ∙ (ap (origin_bits p a.plan) same ∙ bits-are)))
    where
      input-in : (d : PinView) → input_for is_switch_pin s.cell ≡ Some d → IsIn d s.cell.pins
      input-in d f = (of-filter (λ (q : PinView). is_input_pin q && is_switch_pin q) d s.cell.pins (only-in (filter (λ (q : PinView). is_input_pin q && is_switch_pin q) s.cell.pins) d f)).0
        where
          only-in : (xs : List PinView) (q : PinView) → only xs ≡ Some q → IsIn q xs
          only-in [] q g = absurd cc
          only-in (u ∷ []) q g = let same : u ≡ q = cc in inl (sym same)
          only-in (u ∷ t ∷ xs) q g = absurd cc

  -- its place in the netlist
  at-is : (placement_by p a).switch o ≡ record { path = x; instance = v.name }
  at-is =
      ap (switch_at a o) its
      ∙ (ap (λ u. record { path = u; instance = switch_in o (numbered 0 (switches_in a.plan u)) }) in-plan.1
      ∙ ap (λ r. record { path = x; instance = unwrap_or (option_and_then (λ (z : ℕ × Switching). Some (with_number (codes "lp_s_") z.0)) r) [] }) found)
    where
      there : (z : ℕ × Switching) × IsIn z (numbered 0 (switches_in a.plan x)) × ((z.1.asked.origin == o) ≡ true) × (first (λ (q : ℕ × Switching). q.1.asked.origin == o) (numbered 0 (switches_in a.plan x)) ≡ Some z)
      there = first-there (λ (q : ℕ × Switching). q.1.asked.origin == o) (numbered 0 (switches_in a.plan x)) y h (eq-eqb o o refl)

      less : length (filter (λ (r : Switching). r.asked.origin == o) (switches_in a.plan x)) ≤ 1
      less = let few = switches.once o in let short = filter-less (λ (r : Switching). r.asked.origin == o) (λ (r : Switching). same_path r.path x) a.plan.switches in omega (arith, few, short)

      found : first (λ (q : ℕ × Switching). q.1.asked.origin == o) (numbered 0 (switches_in a.plan x)) ≡ Some y
      found = there.3 ∙ ap (λ q. Some q) (one-number (λ (r : Switching). r.asked.origin == o) (switches_in a.plan x) 0 there.0 y less there.1 h there.2 (eq-eqb o o refl))

  placed-cell : cell_of w (record { path = x; instance = v.name }) ≡ Some s.cell
  placed-cell = switch-cell p a w fit.free written fit.listed fit.names x m e (switches.few x) y h

  end-is : switched_end w ((placement_by p a).switch o) ≡ AtSwitched x v.name out.pin.name
  end-is = ap (switched_end w) at-is ∙ switched-is w (record { path = x; instance = v.name }) s.cell out.pin placed-cell out.found

  -- the net of its origin begins there
  has : has_switch a.uses s x ≡ true
  has = by (is_above x (home a.uses s)) refl
    where
      homed : is_above (home a.uses s) x ≡ true
      homed = subst (λ u. is_above (home a.uses s) u ≡ true) in-plan.1 (common-of-first s.path (map (λ (u : Use). u.0) (filter (λ (u : Use). u.1 == s.asked.origin) a.uses)))

      either : (b d : Bool) → b ≡ true → (b || d) ≡ true
      either true d g = refl
      either false d g = absurd (false≢true g)

      right : (b d f : Bool) → d ≡ true → (b || (d || f)) ≡ true
      right true d f g = refl
      right false true f g = refl
      right false false f g = absurd (false≢true g)

      by : (b : Bool) → is_above x (home a.uses s) ≡ b → has_switch a.uses s x ≡ true
      by true g =
          let same : home a.uses s ≡ x = above-both x (home a.uses s) g homed in
          either (same_path (home a.uses s) x) (goes_out a.uses s x || goes_in a.uses s x) (ap (λ u. same_path u x) same ∙ path-self x)
      by false g = right (same_path (home a.uses s) x) (goes_out a.uses s x) (goes_in a.uses s x)
          (ap (λ u. u && not (is_above x (home a.uses s))) (ap (is_above x) in-plan.1 ∙ above-self x) ∙ ap not g)

  driven : drive_switch a.uses o x (Some s) ≡ Some (BySwitch o)
  driven =
      ap (λ u. when u (switch_from o s.path x)) has
      ∙ ap (λ u. Some u) (ap (λ u. if u then BySwitch o else FromSpot (Carried o (if is_above x s.path then toward s.path x else parent_of x))) (ap (same_path x) in-plan.1 ∙ path-self x))

  -- the net of its origin has it as a source
  pub its-source : IsIn (SwitchedPin x here.name out.pin.name) (from_one w x (switch_net s) None here)
  its-source =
      let g = first_in (λ (u : PgPinView). is_some u.switched) s.cell.pgs out.pin out.found in
      let bits : connected [] out.pin.name here.connections ≡ NetBit (switch_net s) ∷ [] = ap (connected [] out.pin.name) is.connections ∙ pin-bits in
      let touched = any-in (λ u. same_node (node_of x u) (Inner (switch_net s) None x)) (NetBit (switch_net s)) (connected [] out.pin.name here.connections) (subst (λ l. IsIn (NetBit (switch_net s)) l) (sym bits) (inl refl)) (node-self (Inner (switch_net s) None x)) in
      subst (λ l. IsIn (SwitchedPin x here.name out.pin.name) l) (sym (one-cell p a w written x v here is alone s.cell (first-cell p.structure.cells s.cell fit.names known) (switch_net s) None))
      (in-right (SwitchedPin x here.name out.pin.name) (some_of (λ (u : PinView). when (is_output_pin u && touches x (switch_net s) None (connected [] u.name here.connections)) (CellPin x here.name u.name)) s.cell.pins)
      (some_of (λ (u : PgPinView). when (is_some u.switched && touches x (switch_net s) None (connected [] u.name here.connections)) (SwitchedPin x here.name u.name)) s.cell.pgs)
      (in-some (λ (u : PgPinView). when (is_some u.switched && touches x (switch_net s) None (connected [] u.name here.connections)) (SwitchedPin x here.name u.name)) out.pin (SwitchedPin x here.name out.pin.name) s.cell.pgs g.0
      (ap (λ u. when u (SwitchedPin x here.name out.pin.name)) (both (is_some out.pin.switched) (touches x (switch_net s) None (connected [] out.pin.name here.connections)) g.1 touched))))

  module _ (n : Name) (i : Option ℕ) (z : Source) where
    by-pg : FromPg x n i here s.cell z → IsOfWire p a w (placement_by p a) from (Inner n i x) z
    by-pg f =
        let pin_is : f.pin ≡ out.pin = out.one f.pin f.listed f.switched in
        let bits : connected [] f.pin.name here.connections ≡ NetBit (switch_net s) ∷ [] = ap (connected [] f.pin.name) is.connections ∙ (ap (λ (r : PgPinView). connected [] r.name v.connections) pin_is ∙ pin-bits) in
        let bit : f.touched.bit ≡ NetBit (switch_net s) = elim (subst (λ l. IsIn f.touched.bit l) bits f.touched.listed) [ inl same ↦ same | inr none ↦ absurd none ] in
        let source : z ≡ SwitchedPin x v.name out.pin.name = f.is ∙ (ap (λ r. SwitchedPin x r f.pin.name) is.name ∙ ap (λ (r : PgPinView). SwitchedPin x v.name r.name) pin_is) in
        let kind = out.origin in
        record {
          wire = Carried o x;
          there = record { net = switch_net s; bits = bits-are };
          name = supply-name p a o (switch_net s) x bits-are ∙ (sym (ap (node_of x) bit) ∙ f.touched.is);
          driven = BySwitch o;
          is = ap (drive_origin (done_of a) a.uses o x) kind.3 ∙ (ap (drive_switch a.uses o x) its ∙ driven);
          gives = record { first = ap (λ t. way_in (Some t)) source; own = ap (λ t. own_end (name_by p a (Carried o x)) (Some t)) source ∙ sym end-is };
        }

    by-pin : FromPin x n i here s.cell z → IsOfWire p a w (placement_by p a) from (Inner n i x) z
    by-pin f = absurd (subst (λ l. IsIn f.touched.bit l) (ap (connected [] f.pin.name) is.connections ∙ no-pin f.pin f.listed f.output) f.touched.listed)

    pub gives-switch : IsIn z (from_one w x n i here) → IsOfWire p a w (placement_by p a) from (Inner n i x) z
    gives-switch g =
        elim (cell-source x n i here s.cell z (subst (λ l. IsIn z l) (one-cell p a w written x v here is alone s.cell (first-cell p.structure.cells s.cell fit.names known) n i) g)) [
          | inl f ↦ by-pin f
          | inr f ↦ by-pg f
        ]

pub switches-give : SwitchesGive
switches-give p a w from written fit switches x m e y h here is n i z g = gives-switch p a w from written fit switches x m e y h here is n i z g
