-- The pins of cells that stand for those of the source have names of their own, and the source names none that is added.
use Rattle.std.proofs.Common.{◌≡◌, ℕ, Bool, true, false, not, ◌&&◌, ◌||◌, List, [], Option, Some, None, refl, sym, ap, ◌∙◌, subst}
use Rattle.std.specs.Prelude.{bytes_eq, option_and_then}
use Rattle.std.specs.List.{list_any}
use Rattle.std.proofs.lemmas.Bool.{true≢false, false≢true, or_parts}
use Rattle.lp_model.specs.NetlistView.{BitView, PortView, ConnectionView, ConnectionsView, ByName, ByPosition, InstanceView, ModuleView}
use Rattle.lp_model.specs.LibraryView.{PgPinView, PinView, CellView}
use Rattle.lp_spec_design.specs.Keys.{Name, Path}
use Rattle.lp_spec_design.specs.Netlists.{Structure, first, instance_named, module_at, module_named, cell_named}
use Rattle.lp_spec_design.specs.Instances.{Placed}
use Rattle.lp_spec_design.specs.Graph.{pairs}
use Rattle.lp_spec_design.specs.Reads.{name-true, name-self}
use Rattle.lp_spec_design.specs.Winners.{IsIn}
use Rattle.lp_spec_design.proofs.Members.{any-in, of-any, of-map}
use Rattle.lp_spec_design.proofs.Sources.{first_in}
use Rattle.lp_spec_fit.specs.Fits.{retention_pins}
use Rattle.lp_spec_realises.specs.Projects.{Project}
use Rattle.lp_spec_realises.specs.Realises.{same_placed, cell_of}
use Rattle.lp_spec_realises.specs.Implements.{Lists}
use Rattle.lp_spec_faults.specs.Wires.{ConnectionAt, has_pg, has_pin, has_output, has_constant, is_second, is_unknown_pin, unknown_pin, is_powered, already_powered}
use Rattle.lp_spec_agreement.specs.Faultless.{IsSoundCell}
use Rattle.lp_spec_agreement.proofs.Apart.{instance_found}
use Rattle.lp_spec_agreement.proofs.Framed.{no_fault}
use Rattle.lp_spec_faultless.specs.Faults.{IsRead}
use Rattle.lp_spec_written.specs.Places.{Kept, plan}
use Rattle.lp_spec_written.specs.Nets.{by_names}
use Rattle.lp_spec_written.specs.Supplies.{or_cell, kept_at, cell_for}
use Rattle.lp_spec_written_at.specs.Sources.{HasFreePins}
use Rattle.lp_spec_written_at.proofs.Modules.{from-modules}
use Rattle.lp_spec_written_at.proofs.SourceCells.{placed-true}
use Rattle.lp_spec_driven.proofs.SourceCells.{no-module}
use Rattle.lp_spec_proper.specs.Insertable.{IsInsertable, IsWithinLimits}
use Rattle.lp_spec_proper.specs.Laws.{CellsHaveFreePins}
use Rattle.lp_spec_proper.proofs.Plain.{place-of}
use Rattle.lp_spec_proper.proofs.Fitting.{pins-apart, HasPinOf, pin-of, no-retention}
use Rattle.lp_spec_proper.proofs.Cells.{is-kept, FitsFor, register-chosen, source-sound}
use Rattle.lp_spec_proper.proofs.FitCells.{sound-register}

-- ---- tests

is-false : (b : Bool) → (b ≡ true → ⊥) → b ≡ false
is-false true f = absurd (f refl)
is-false false f = refl

not-false : (b : Bool) → not b ≡ false → b ≡ true
not-false true e = refl
not-false false e = absurd (true≢false e)

-- two names are different whichever comes first
other-way : (m n : Name) → bytes_eq m n ≡ false → bytes_eq n m ≡ false
other-way m n e = is-false (bytes_eq n m) (λ same. true≢false (sym (ap (bytes_eq m) (name-true n m same) ∙ name-self m) ∙ e))

none-in : {A : Type 0} (t : A → Bool) (x : A) (xs : List A) → list_any t xs ≡ false → IsIn x xs → t x ≡ false
none-in t x xs e h = is-false (t x) (λ is. true≢false (sym (any-in t x xs h is) ∙ e))

or-first : (a b : Bool) → (a || b) ≡ true → b ≡ false → a ≡ true
or-first true b e f = refl
or-first false b e f = absurd (false≢true (sym f ∙ e))

-- ---- what the table says of a connection of a cell instance

unknown-at : (s : Structure) (z : ConnectionAt) (c : CellView) (n : Name) → module_named s z.instance.target ≡ None → first (λ (k : CellView). bytes_eq k.name z.instance.target) s.cells ≡ Some c → z.name ≡ Some n
    → is_unknown_pin s z ≡ (not (has_pin c n) || (is_second z || (has_output c n && has_constant z.bits)))
unknown-at s z c n e f g = rw (e) (rw (f) (rw (g) refl))

powered-at : (s : Structure) (z : ConnectionAt) (c : CellView) (n : Name) → cell_named s z.instance.target ≡ Some c → z.name ≡ Some n → is_powered s z ≡ has_pg c n
powered-at s z c n e f = rw (e) (rw (f) refl)

module _ (p : Project) (l : Lists) (switch_command : ℕ → ℕ) (read : IsRead p) (good : IsInsertable p l switch_command) (within : IsWithinLimits p l) (x : Path) (m : ModuleView) (at : module_at p.structure x ≡ Some m) (y : InstanceView) (listed : IsIn y m.instances) (source : CellView) (target : cell_named p.structure y.target ≡ Some source) where
  abbrev s : Structure
  s = p.structure

  abbrev place : Placed
  place = record { path = x; instance = y.name }

  source-is : cell_of s place ≡ Some source
  source-is =
      ap (λ o. option_and_then (λ (k : ModuleView). option_and_then (λ (z : InstanceView). cell_named s z.target) (instance_named k y.name)) o) at
      ∙ (ap (λ o. option_and_then (λ (z : InstanceView). cell_named s z.target) o) (instance_found s read.netlist.names_apart x m at y listed) ∙ target)

  -- what the source connects has the name of a signal pin, and of no power or ground pin
  record IsNamed (d : ConnectionView) : Type 0 where
    pin : PinView
    among : IsIn pin source.pins
    name : pin.name ≡ d.port
    unpowered : has_pg source d.port ≡ false

  named-by : (cs : ConnectionsView) → y.connections ≡ cs → (d : ConnectionView) → IsIn d (by_names [] cs) → IsNamed d
  named-by (ByPosition values) is d h = let z = of-map (λ (z : PortView × List BitView). record { port = z.0.name; bits = z.1 }) d (pairs [] values) h in absurd z.1
  named-by (ByName cs) is d h =
      let z = place-of s m y cs d (from-modules s x m at) listed is h in
      let same : z.0.instance.target ≡ y.target = ap (λ (v : InstanceView). v.target) z.2.instance in
      let cell : cell_named s z.0.instance.target ≡ Some source = ap (cell_named s) same ∙ target in
      let no = no-module s z.0.instance.target source cell in
      let unpowered : has_pg source d.port ≡ false = sym (powered-at s z.0 source d.port cell z.2.name) ∙ no_fault (already_powered s) good.not_powered z.0 z.1 in
      let known = or_parts (not (has_pin source d.port)) _ (sym (unknown-at s z.0 source d.port no.0 no.1 z.2.name) ∙ no_fault (unknown_pin s) good.pins z.0 z.1) in
      let has = or-first (list_any (λ (q : PinView). bytes_eq q.name d.port) source.pins) (has_pg source d.port) (not-false (has_pin source d.port) known.0) unpowered in
      let q = of-any (λ (q : PinView). bytes_eq q.name d.port) source.pins has in
      record { pin = q.0; among = q.1; name = name-true q.0.name d.port q.2; unpowered = unpowered }

  named : (d : ConnectionView) → IsIn d (by_names [] y.connections) → IsNamed d
  named d h = named-by y.connections refl d h

  -- the cell of a register with retention
  record TakesOver (k : Kept) : Type 0 where
    listed_kept : IsIn k (plan p l).registers
    sound : IsSoundCell k.cell
    fits : FitsFor p l source k.cell

  kept-in : (k : Kept) → kept_at (plan p l) place ≡ Some k → TakesOver k
  kept-in k e =
      let found = first_in (λ (z : Kept). same_placed z.place place) (plan p l).registers k e in
      let same : k.place ≡ place = placed-true k.place place found.1 in
      record {
        listed_kept = found.0;
        sound = sound-register p l switch_command read good within k found.0;
        fits = register-chosen p l k.place source k.cell (ap (cell_of s) same ∙ source-is) (is-kept p l k found.0).cell;
      }

  -- a signal pin of the source is one of the cell that takes its place
  same-pin : (k : Kept) → TakesOver k → (q : PinView) → IsIn q source.pins → HasPinOf k.cell q
  same-pin k over q h = pin-of over.fits.0 k.cell over.fits.2 q (subst (λ (c : CellView). IsIn q c.pins) (sym over.fits.1) h)

  record IsFreeCell (c : CellView) : Type 0 where
    sound : IsSoundCell c
    supplies : (d : ConnectionView) (g : PgPinView) → IsIn d (by_names [] y.connections) → IsIn g c.pgs → bytes_eq d.port g.name ≡ false

  source-free : IsFreeCell source
  source-free = record {
    sound = source-sound p l switch_command read good x m y source at listed target;
    supplies = λ d g h there. other-way g.name d.port (none-in (λ (r : PgPinView). bytes_eq r.name d.port) g source.pgs (named d h).unpowered there);
  }

  kept-free : (k : Kept) → kept_at (plan p l) place ≡ Some k → IsFreeCell k.cell
  kept-free k e =
      let over = kept-in k e in
      record {
        sound = over.sound;
        supplies = λ d g h there.
            let q = named d h in
            let r = same-pin k over q.pin q.among in
            let other = (pins-apart k.cell over.sound).pgs r.pin g r.listed there in
            other-way g.name d.port (ap (bytes_eq g.name) (sym (r.name ∙ q.name)) ∙ other);
      }

  one-cell : (c : CellView) (o : Option Kept) → kept_at (plan p l) place ≡ o → or_cell (Some source) o ≡ Some c → IsFreeCell c
  one-cell c None e is = let same : source ≡ c = cc in subst IsFreeCell same source-free
  one-cell c (Some k) e is = let same : k.cell ≡ c = cc in subst IsFreeCell same (kept-free k e)

  pub free-pins : (c : CellView) → cell_for p (plan p l) place ≡ Some c → HasFreePins p l x y c
  free-pins c e =
      let is : or_cell (Some source) (kept_at (plan p l) place) ≡ Some c = ap (λ o. or_cell o (kept_at (plan p l) place)) (sym source-is) ∙ e in
      let free = one-cell c (kept_at (plan p l) place) refl is in
      record {
        cell = e;
        apart = free.sound.names;
        retention = λ k d r kept h there.
            let over = kept-in k kept in
            let own : k.cell ≡ c = kept-cell c k kept is in
            let q = named d h in
            is-false (bytes_eq d.port r.name) (λ same.
            no-retention over.fits.0 k.cell over.sound over.fits.2 q.pin r
            (subst (λ (b : CellView). IsIn q.pin b.pins) (sym over.fits.1) q.among)
            (subst (λ b. IsIn r (retention_pins b)) (sym own) there)
            (q.name ∙ name-true d.port r.name same));
        supplies = free.supplies;
      }
    where
      kept-cell : (b : CellView) (k : Kept) → kept_at (plan p l) place ≡ Some k → or_cell (Some source) (kept_at (plan p l) place) ≡ Some b → k.cell ≡ b
      kept-cell b k f is = let both : Some k.cell ≡ Some b = sym (ap (or_cell (Some source)) f) ∙ is in cc

pub cells-free : CellsHaveFreePins
cells-free p l switch_command read good within x m at y listed source c target stands = free-pins p l switch_command read good within x m at y listed source target c stands
