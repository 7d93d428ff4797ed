-- To which net bits the pins are connected that a cell instance of the source gets: retention pins, and power and ground pins.
use Rattle.std.proofs.Common.{◌≡◌, ℕ, Bool, true, false, cond, List, [], ◌∷◌, ◌++◌, map, Option, Some, None, refl, sym, ap, ◌∙◌, subst}
use Rattle.std.specs.Prelude.{bytes_eq, filter}
use Rattle.lp_model.specs.NetlistView.{ConnectionView, InstanceView, ModuleView}
use Rattle.lp_model.specs.LibraryView.{PgPinView, PinView, CellView}
use Rattle.lp_spec_design.specs.Keys.{Name, Path}
use Rattle.lp_spec_design.specs.Netlists.{Structure, module_named, module_at, bits_named}
use Rattle.lp_spec_design.specs.Settled.{node_at_pin}
use Rattle.lp_spec_design.specs.Instances.{Placed}
use Rattle.lp_spec_design.specs.Winners.{IsIn}
use Rattle.lp_spec_design.specs.Reads.{name-true}
use Rattle.lp_spec_design.proofs.Members.{IsApart, in-map, of-map, of-filter}
use Rattle.lp_spec_fit.specs.Fits.{is_retention_pin, retention_pins}
use Rattle.lp_spec_fit.specs.Joins.{Joins}
use Rattle.lp_spec_realises.specs.Projects.{Project}
use Rattle.lp_spec_realises.specs.Realises.{cell_of, control_of, joins_of_source}
use Rattle.lp_spec_realises.specs.Implements.{Lists}
use Rattle.lp_spec_written.specs.Places.{Kept, plan}
use Rattle.lp_spec_written.specs.Nets.{renamed, renamed_connections, by_names}
use Rattle.lp_spec_written.specs.Supplies.{or_cell, kept_at, joined_pins, pins_of_cell, source_pins, joined_to, origin_bits, supply_connections}
use Rattle.lp_spec_written.specs.Routes.{some_control_bits}
use Rattle.lp_spec_written.specs.Written.{Additions, additions, retention_connections, written_cell_instance}
use Rattle.lp_spec_wired.specs.Contents.{IsWrittenAt}
use Rattle.lp_spec_written_at.specs.Sources.{IsFree, HasFewAdditions, node_of_bits, HasFreePins}
use Rattle.lp_spec_written_at.proofs.Weave.{names-apart, apart-front, apart-sides}
use Rattle.lp_spec_written_at.proofs.PinsAt.{port_of, pin-by, bits-of, bits-front, bits-behind, pins-joined-apart, joined-in, supplies-from, source-pin}

some-same : {A : Type 0} (u v : A) → Some u ≡ Some v → u ≡ v
some-same u v e = cc

not-equal : (m n : Name) → (m ≡ n → ⊥) → bytes_eq m n ≡ false
not-equal m n differ = by (bytes_eq m n) refl
  where
    by : (b : Bool) → bytes_eq m n ≡ b → b ≡ false
    by false e = refl
    by true e = absurd (differ (name-true m n e))

kept-once : (qs : List PinView) → IsApart (map (λ (q : PinView). q.name) qs) → IsApart (map (λ (q : PinView). q.name) (filter is_retention_pin qs))
kept-once [] once = tt
kept-once (q ∷ qs) once = by (is_retention_pin q) (kept-once qs once.1)
  where
    by : (b : Bool) → IsApart (map (λ (z : PinView). z.name) (filter is_retention_pin qs)) → IsApart (map (λ (z : PinView). z.name) (cond b (q ∷ filter is_retention_pin qs) (filter is_retention_pin qs)))
    by true more = (
      λ h. let old = of-map (λ (z : PinView). z.name) q.name (filter is_retention_pin qs) h in once.0 (subst (λ n. IsIn n (map (λ (z : PinView). z.name) qs)) (sym old.2) (in-map (λ (z : PinView). z.name) old.0 qs (of-filter is_retention_pin old.0 qs old.1).0)),
      more,
    )
    by false more = more

module _ (p : Project) (l : Lists) (x : Path) (y : InstanceView) (c : CellView) (free : HasFreePins p l x y c) where
  abbrev a : Additions
  a = additions p l

  abbrev place : Placed
  place = record { path = x; instance = y.name }

  abbrev pins : List Name
  pins = map (λ (q : PinView). q.name) c.pins

  abbrev pgs : List Name
  pgs = map (λ (g : PgPinView). g.name) c.pgs

  abbrev own : List ConnectionView
  own = renamed_connections a.chains x y.connections

  abbrev retained : Option Kept → List ConnectionView
  retained o = retention_connections a x o

  abbrev supplies : List ConnectionView
  supplies = supply_connections p a.plan (source_pins p a.plan place)

  abbrev joins : Option Joins
  joins = joins_of_source p place c

  all : IsApart (pins ++ pgs)
  all = names-apart (pins ++ pgs) free.apart

  pins-are : source_pins p a.plan place ≡ joined_pins c joins
  pins-are = ap (pins_of_cell p place) free.cell

  -- a connection of the source has no added name
  own-none : (n : Name) → ((d : ConnectionView) → IsIn d (by_names [] y.connections) → bytes_eq d.port n ≡ false) → (rest : List ConnectionView) → bits_named n (own ++ rest) ≡ bits_named n rest
  own-none n none rest =
      bits-behind n own rest (λ d h.
      let old = of-map (λ (k : ConnectionView). record k { bits = map (renamed a.chains x) k.bits }) d (by_names [] y.connections) h in
      ap (λ (k : ConnectionView). bytes_eq k.port n) old.2 ∙ none old.0 old.1)

  -- the cell of a register with retention is the chosen one
  kept-cell : (k : Kept) → kept_at a.plan place ≡ Some k → k.cell ≡ c
  kept-cell k e = some-same k.cell c (sym (ap (or_cell (cell_of p.structure place)) e) ∙ free.cell)

  retained-pin : (o : Option Kept) → kept_at a.plan place ≡ o → (d : ConnectionView) → IsIn d (retained o) → (q : PinView) × IsIn q (retention_pins c) × (d.port ≡ q.name)
  retained-pin None e d h = absurd h
  retained-pin (Some k) e d h =
      let old = of-map (λ (q : PinView). joined_to q.name (some_control_bits a.chains a.controls x (control_of k.strategy q.use_of))) d (retention_pins k.cell) h in
      (old.0, subst (λ z. IsIn old.0 (retention_pins z)) (kept-cell k e) old.1, ap port_of old.2)

  -- ---- supplies

  pg-of : (n : Name) → IsIn n pgs → (g : PgPinView) × IsIn g c.pgs × (n ≡ g.name)
  pg-of n h = of-map (λ (g : PgPinView). g.name) n c.pgs h

  supply-listed : (q : Name × ℕ) → IsIn q (source_pins p a.plan place) → IsIn q.0 pgs
  supply-listed q h = joined-in c free.apart joins q (subst (λ zs. IsIn q zs) pins-are h)

  supply-bits : (q : Name × ℕ) → IsIn q (source_pins p a.plan place) → bits_named q.0 supplies ≡ origin_bits p a.plan q.1
  supply-bits q h =
      bits-of supplies
      (subst (λ zs. IsApart (map port_of (supply_connections p a.plan zs))) (sym pins-are) (supplies-from c free.apart p a joins (joined_pins c joins) (pins-joined-apart c free.apart joins)))
      (joined_to q.0 (origin_bits p a.plan q.1)) (in-map (λ (z : Name × ℕ). joined_to z.0 (origin_bits p a.plan z.1)) q (source_pins p a.plan place) h)

  no-retained : (q : Name × ℕ) → IsIn q (source_pins p a.plan place) → (d : ConnectionView) → IsIn d (retained (kept_at a.plan place)) → bytes_eq d.port q.0 ≡ false
  no-retained q h d g =
      let pin = retained-pin (kept_at a.plan place) refl d g in
      not-equal d.port q.0 (λ same. apart-sides pins pgs all q.0 (subst (λ n. IsIn n pins) (sym pin.2 ∙ same) (in-map (λ (z : PinView). z.name) pin.0 c.pins (of-filter is_retention_pin pin.0 c.pins pin.1).0)) (supply-listed q h))

  pub supply-there : (q : Name × ℕ) → IsIn q (source_pins p a.plan place) → bits_named q.0 (own ++ (retained (kept_at a.plan place) ++ supplies)) ≡ origin_bits p a.plan q.1
  supply-there q h =
      let g = pg-of q.0 (supply-listed q h) in
      own-none q.0 (λ d r. ap (bytes_eq d.port) g.2 ∙ free.supplies d g.0 r g.1) (retained (kept_at a.plan place) ++ supplies)
      ∙ (bits-behind q.0 (retained (kept_at a.plan place)) supplies (no-retained q h)
      ∙ supply-bits q h)

  -- ---- retention pins

  named : (k : Kept) (qs : List PinView) → IsApart (map (λ (q : PinView). q.name) qs) → IsApart (map port_of (map (λ (q : PinView). joined_to q.name (some_control_bits a.chains a.controls x (control_of k.strategy q.use_of))) qs))
  named k [] once = tt
  named k (q ∷ qs) once = (
    λ h.
        let one = of-map port_of q.name (map (λ (z : PinView). joined_to z.name (some_control_bits a.chains a.controls x (control_of k.strategy z.use_of))) qs) h in
        let two = of-map (λ (z : PinView). joined_to z.name (some_control_bits a.chains a.controls x (control_of k.strategy z.use_of))) one.0 qs one.1 in
        once.0 (subst (λ n. IsIn n (map (λ (z : PinView). z.name) qs)) (sym (one.2 ∙ ap port_of two.2)) (in-map (λ (z : PinView). z.name) two.0 qs two.1)),
    named k qs once.1,
  )

  retained-apart : (k : Kept) → k.cell ≡ c → IsApart (map port_of (retained (Some k)))
  retained-apart k is = subst (λ z. IsApart (map port_of (map (λ (q : PinView). joined_to q.name (some_control_bits a.chains a.controls x (control_of k.strategy q.use_of))) (retention_pins z)))) (sym is) (named k (retention_pins c) (kept-once c.pins (apart-front pins pgs all)))

  pub retention-there : (k : Kept) → kept_at a.plan place ≡ Some k → (q : PinView) → IsIn q (retention_pins c) → bits_named q.name (own ++ (retained (kept_at a.plan place) ++ supplies)) ≡ some_control_bits a.chains a.controls x (control_of k.strategy q.use_of)
  retention-there k e q h =
      own-none q.name (λ d r. free.retention k d q e r h) (retained (kept_at a.plan place) ++ supplies)
      ∙ (ap (λ o. bits_named q.name (retained o ++ supplies)) e
      ∙ bits-front (retained (Some k)) supplies (retained-apart k (kept-cell k e))
      (joined_to q.name (some_control_bits a.chains a.controls x (control_of k.strategy q.use_of)))
      (in-map (λ (z : PinView). joined_to z.name (some_control_bits a.chains a.controls x (control_of k.strategy z.use_of))) q (retention_pins k.cell) (subst (λ z. IsIn q (retention_pins z)) (sym (kept-cell k e)) h)))

pub supplies-read :
    (p : Project) (l : Lists) (w : Structure) → IsFree p → HasFewAdditions p l → IsWrittenAt p (additions p l) w → (x : Path) (m : ModuleView) → module_at p.structure x ≡ Some m
    → (y : InstanceView) → IsIn y m.instances → module_named p.structure y.target ≡ None → (c : CellView) → HasFreePins p l x y c
    → (q : Name × ℕ) → IsIn q (source_pins p (plan p l) (record { path = x; instance = y.name })) → node_at_pin w x y.name q.0 ≡ node_of_bits x (origin_bits p (plan p l) q.1)
supplies-read p l w f few is x m e y h none c free q g =
    source-pin p l w f few is x m e y h none q.0
    ∙ pin-by x q.0 (written_cell_instance p (additions p l) x y).connections (origin_bits p (plan p l) q.1) (supply-there p l x y c free q g)

pub retention-read :
    (p : Project) (l : Lists) (w : Structure) → IsFree p → HasFewAdditions p l → IsWrittenAt p (additions p l) w → (x : Path) (m : ModuleView) → module_at p.structure x ≡ Some m
    → (y : InstanceView) → IsIn y m.instances → module_named p.structure y.target ≡ None → (c : CellView) → HasFreePins p l x y c
    → (k : Kept) → kept_at (plan p l) (record { path = x; instance = y.name }) ≡ Some k → (q : PinView) → IsIn q (retention_pins c)
    → node_at_pin w x y.name q.name ≡ node_of_bits x (some_control_bits (additions p l).chains (additions p l).controls x (control_of k.strategy q.use_of))
retention-read p l w f few is x m e y h none c free k t q g =
    source-pin p l w f few is x m e y h none q.name
    ∙ pin-by x q.name (written_cell_instance p (additions p l) x y).connections (some_control_bits (additions p l).chains (additions p l).controls x (control_of k.strategy q.use_of)) (retention-there p l x y c free k t q g)
