-- No origin has two switches, and each switch has one switched pin, which is joined to its origin.
use Rattle.std.proofs.Common.{◌≡◌, ◌⊎◌, ◌≤◌, ℕ, suc, ◌==◌, ◌+◌, Bool, true, false, not, ◌||◌, List, [], ◌∷◌, map, length, Option, Some, None, inl, inr, refl, sym, ap, ◌∙◌, subst, arith}
use Rattle.std.specs.Prelude.{filter, bytes_eq, is_some, if◌then◌else◌, option_and_then, slice_get}
use Rattle.std.specs.List.{list_any}
use Rattle.std.proofs.lemmas.Bool.{true≢false, false≢true, and_parts, eqb-true, eq-eqb}
use Rattle.lp_model.specs.declared.library.PgKind.{PgKind}
use Rattle.lp_model.specs.declared.library.PgKind.TheVariants as kinds
use Rattle.lp_model.specs.declared.supply.SetOrigins.{SetOrigins}
use Rattle.lp_model.specs.LibraryView.{SwitchedView, PgPinView, PinView, CellView}
use Rattle.lp_spec_design.specs.Keys.{Name, same_path}
use Rattle.lp_spec_design.specs.Netlists.{first}
use Rattle.lp_spec_design.specs.Graph.{numbered, and_more, some_of}
use Rattle.lp_spec_design.specs.Intents.{Domain, Origin, FromPort, FromSwitch, SetNumber}
use Rattle.lp_spec_design.specs.Domains.{first_number, domain_of, primary_of}
use Rattle.lp_spec_design.specs.Reads.{name-true, name-self}
use Rattle.lp_spec_design.specs.Winners.{IsIn}
use Rattle.lp_spec_design.proofs.Members.{IsApart, in-map, of-map, of-some, of-numbered, of-filter, any-in}
use Rattle.lp_spec_design.proofs.Sources.{then_is, first_in}
use Rattle.lp_spec_pins.specs.Pins.{is_input_pin, only}
use Rattle.lp_spec_fit.specs.Needs.{SwitchCellNeed}
use Rattle.lp_spec_fit.specs.Joins.{Joins, ToOutput, switch_side, switch_origin, switch_joins}
use Rattle.lp_spec_fit.specs.Fits.{is_usable, switched_pins, switches_with, fits_switch}
use Rattle.lp_spec_realises.specs.Projects.{Project, network_of, functions_of, on_expression}
use Rattle.lp_spec_realises.specs.Operators.{SwitchAt, switches_among, all_switches}
use Rattle.lp_spec_realises.specs.Realises.{primary_at, joins_of_switch}
use Rattle.lp_spec_realises.specs.Implements.{Lists}
use Rattle.lp_spec_faults.specs.Domains.{no_domain, no_primary}
use Rattle.lp_spec_agreement.specs.Faultless.{is_internal, IsSoundCell}
use Rattle.lp_spec_agreement.proofs.Apart.{all_in}
use Rattle.lp_spec_agreement.proofs.Framed.{no_fault}
use Rattle.lp_spec_faultless.specs.Faults.{IsRead}
use Rattle.lp_spec_cells.proofs.Names.{same-named, numbered-at, get-numbered}
use Rattle.lp_spec_voltages.proofs.Roots.{slice-in}
use Rattle.lp_spec_written.specs.Places.{Switching, switching, plan}
use Rattle.lp_spec_written.specs.Supplies.{joined_pins, switch_pins}
use Rattle.lp_spec_written.specs.Written.{additions}
use Rattle.lp_spec_origins.specs.Used.{is_set, handle_names, is_used_set}
use Rattle.lp_spec_written_at.proofs.BackSwitches.{origins-apart}
use Rattle.lp_spec_written_at.proofs.Either.{or-left}
use Rattle.lp_spec_written_at.proofs.Lists.{in-some}
use Rattle.lp_spec_written_at.proofs.Stands.{is-switching}
use Rattle.lp_spec_written_at.proofs.Weave.{apart-filter, key-tells}
use Rattle.lp_spec_written_at.proofs.CellsApart.{of-apart-map}
use Rattle.lp_spec_written_at.proofs.Wiring.{at-numbered}
use Rattle.lp_spec_driven.specs.Sound.{SwitchesOut, HasSwitches}
use Rattle.lp_spec_proper.specs.Insertable.{IsInsertable, IsWithinLimits}
use Rattle.lp_spec_proper.proofs.Base.{some-is}
use Rattle.lp_spec_proper.proofs.Plain.{at-most-one}
use Rattle.lp_spec_proper.proofs.Fitting.{pins-apart}
use Rattle.lp_spec_proper.proofs.Cells.{switch-chosen}
use Rattle.lp_spec_proper.proofs.FitCells.{IsPlannedSwitch, is-planned-switch, sound-switch}

-- ---- the one switched pin of a cell

only-rest : {A : Type 0} (x : A) (xs : List A) (v : A) → only (x ∷ xs) ≡ Some v → xs ≡ []
only-rest x [] v e = refl
only-rest x (y ∷ xs) v e = absurd cc

none-switched : (c : CellView) (pgs : List PgPinView) → switched_pins (record c { pgs = pgs }) ≡ [] → (h : PgPinView) → IsIn h pgs → is_some h.switched ≡ true → ⊥
none-switched c [] e h m s = m
none-switched c (p ∷ ps) e h m s = by p.switched e m (λ f g. none-switched c ps f h g s)
  where
    by : (t : Option SwitchedView) → switched_pins (record c { pgs = record p { switched = t } ∷ ps }) ≡ [] → (h ≡ record p { switched = t }) ⊎ IsIn h ps → (switched_pins (record c { pgs = ps }) ≡ [] → IsIn h ps → ⊥) → ⊥
    by None f (inl is) more = false≢true (sym (ap (λ (g : PgPinView). is_some g.switched) is) ∙ s)
    by None f (inr g) more = more f g
    by (Some t) f g more = absurd cc

-- the first one that is switched, and no other
pub record OneSwitched (pgs : List PgPinView) : Type 0 where
  pub pin : PgPinView
  pub found : first (λ (g : PgPinView). is_some g.switched) pgs ≡ Some pin
  pub one : (h : PgPinView) → IsIn h pgs → is_some h.switched ≡ true → h ≡ pin

one-switched : (c : CellView) (pgs : List PgPinView) (v : SwitchedView) → only (switched_pins (record c { pgs = pgs })) ≡ Some v → OneSwitched pgs
one-switched c [] v e = absurd cc
one-switched c (p ∷ ps) v e = by p.switched e (one-switched c ps v)
  where
    by : (t : Option SwitchedView) → only (switched_pins (record c { pgs = record p { switched = t } ∷ ps })) ≡ Some v → (only (switched_pins (record c { pgs = ps })) ≡ Some v → OneSwitched ps) → OneSwitched (record p { switched = t } ∷ ps)
    by None f more =
        let rest = more f in
        record {
          pin = rest.pin;
          found = rest.found;
          one = λ h m s. elim m [ inl is ↦ absurd (false≢true (sym (ap (λ (g : PgPinView). is_some g.switched) is) ∙ s)) | inr g ↦ rest.one h g s ];
        }
    by (Some t) f more =
        let none = only-rest t (switched_pins (record c { pgs = ps })) v f in
        record {
          pin = record p { switched = Some t };
          found = refl;
          one = λ h m s. elim m [ inl is ↦ is | inr g ↦ absurd (none-switched c ps none h g s) ];
        }

switches-by : (n : SwitchCellNeed) (c : CellView) (q : Option PinView) (o : Option SwitchedView) → switches_with n c q o ≡ true → (v : SwitchedView) × (o ≡ Some v)
switches-by n c None o e = absurd (false≢true e)
switches-by n c (Some q) None e = absurd (false≢true e)
switches-by n c (Some q) (Some v) e = (v, refl)

fits-one : (n : SwitchCellNeed) (c : CellView) → fits_switch n c ≡ true → (v : SwitchedView) × (only (switched_pins c) ≡ Some v)
fits-one n c fits =
    let usable = and_parts (is_usable c) _ fits in
    let switch = and_parts c.roles.switch _ usable.1 in
    let none = and_parts (not (is_some c.state)) _ switch.1 in
    switches-by n c (only (filter is_input_pin c.pins)) (only (switched_pins c)) none.1

or-last : (a b : Bool) → (not a || b) ≡ true → a ≡ true → b ≡ true
or-last true b e f = e
or-last false b e f = absurd (false≢true f)

internal-kind : (g : PgPinView) → is_internal g ≡ true → g.kind ≡ kinds.InternalPower
internal-kind g e = by g.kind refl
  where
    wrong : is_internal g ≡ false → g.kind ≡ kinds.InternalPower
    wrong f = absurd (false≢true (sym f ∙ e))

    by : (k : PgKind) → g.kind ≡ k → g.kind ≡ kinds.InternalPower
    by kinds.PrimaryPower is = wrong (rw is refl)
    by kinds.PrimaryGround is = wrong (rw is refl)
    by kinds.BackupPower is = wrong (rw is refl)
    by kinds.BackupGround is = wrong (rw is refl)
    by kinds.InternalPower is = is
    by kinds.InternalGround is = wrong (rw is refl)
    by kinds.Nwell is = wrong (rw is refl)
    by kinds.Pwell is = wrong (rw is refl)
    by kinds.Deepnwell is = wrong (rw is refl)
    by kinds.Deeppwell is = wrong (rw is refl)

side-out : (passes k : ℕ) (g : PgPinView) → g.kind ≡ kinds.InternalPower → is_some g.switched ≡ true → switch_side passes k g ≡ Some ToOutput
side-out passes k g e f = rw (e) (rw (f) refl)

-- ---- the supply of the top

number-there : {A : Type 0} (t : A → Bool) (k : ℕ) (xs : List A) (d : ℕ) → first_number t k xs ≡ Some d → (i : ℕ) × (x : A) × (d ≡ k + i) × (slice_get xs i ≡ Some x)
number-there t k [] d e = absurd cc
number-there t k (x ∷ xs) d e = by (t x) e (number-there t (k + 1) xs d)
  where
    by : (b : Bool) → (if b then Some k else first_number t (k + 1) xs) ≡ Some d → (first_number t (k + 1) xs ≡ Some d → (i : ℕ) × (y : _) × (d ≡ (k + 1) + i) × (slice_get xs i ≡ Some y)) → (i : ℕ) × (y : _) × (d ≡ k + i) × (slice_get (x ∷ xs) i ≡ Some y)
    by true f more = let same : k ≡ d = cc in (0, x, omega (arith, same), refl)
    by false f more = let rest = more f in (suc rest.0, rest.1, omega (arith, rest.2), rest.3)

not-false : (b : Bool) → not b ≡ false → b ≡ true
not-false true e = refl
not-false false e = absurd (true≢false e)

-- ---- switches of origins

switch-origin-by : (k : ℕ) (os : List Origin) (x : SwitchAt) → IsIn x (switches_among (numbered k os)) → IsIn (x.origin, FromSwitch x.input x.control x.high) (numbered k os)
switch-origin-by k [] x h = absurd h
switch-origin-by k (FromPort ∷ os) x h = inr (switch-origin-by (k + 1) os x h)
switch-origin-by k (FromSwitch input control high ∷ os) x (inl is) = inl (ap (λ (y : SwitchAt). (y.origin, FromSwitch y.input y.control y.high)) is)
switch-origin-by k (FromSwitch input control high ∷ os) x (inr h) = inr (switch-origin-by (k + 1) os x h)

pub switch-origin-is : (p : Project) (x : SwitchAt) → IsIn x (all_switches p) → slice_get (network_of p).origins x.origin ≡ Some (FromSwitch x.input x.control x.high)
switch-origin-is p x h =
    at-numbered (network_of p).origins (x.origin, FromSwitch x.input x.control x.high) (switch-origin-by 0 (network_of p).origins x h)

abbrev asked_origin : SwitchAt → ℕ
asked_origin x = x.origin

abbrev own_origin : Switching → ℕ
own_origin w = w.asked.origin

module _ (p : Project) (l : Lists) where
  origins-once : (j : ℕ) (xs : List SwitchAt) → IsApart (map asked_origin xs) → IsApart (map own_origin (some_of (switching p l) (numbered j xs)))
  origins-once j [] apart = tt
  origins-once j (x ∷ xs) apart = by (switching p l (j, x)) refl (origins-once (j + 1) xs apart.1)
    where
      rest : List Switching
      rest = some_of (switching p l) (numbered (j + 1) xs)

      absent : (k : Switching) → switching p l (j, x) ≡ Some k → IsIn (own_origin k) (map own_origin rest) → ⊥
      absent k e h =
          let found = of-map own_origin (own_origin k) rest h in
          let from = of-some (switching p l) found.0 (numbered (j + 1) xs) found.1 in
          let mine : own_origin k ≡ x.origin = ap asked_origin (is-switching p l (j, x) k e).asked in
          let its : own_origin found.0 ≡ from.0.1.origin = ap asked_origin (is-switching p l from.0 found.0 from.2).asked in
          apart.0 (subst (λ n. IsIn n (map asked_origin xs)) (sym (sym mine ∙ (found.2 ∙ its))) (in-map asked_origin from.0.1 xs (of-numbered (j + 1) from.0 xs from.1)))

      by : (o : Option Switching) → switching p l (j, x) ≡ o → IsApart (map own_origin rest) → IsApart (map own_origin (and_more o rest))
      by None e more = more
      by (Some k) e more = (absent k e, more)

  switches-apart : IsApart (map own_origin (plan p l).switches)
  switches-apart = origins-once 0 (all_switches p) (origins-apart 0 (network_of p).origins)

  one-switch : (o : ℕ) → length (filter (λ (w : Switching). w.asked.origin == o) (plan p l).switches) ≤ 1
  one-switch o =
      let t = λ (w : Switching). w.asked.origin == o in
      at-most-one (filter t (plan p l).switches) (apart-filter t (plan p l).switches (of-apart-map own_origin (plan p l).switches switches-apart))
      (λ a b h g.
      let one = of-filter t a (plan p l).switches h in
      let two = of-filter t b (plan p l).switches g in
      key-tells own_origin (plan p l).switches switches-apart a b one.0 two.0 (eqb-true a.asked.origin o one.1 ∙ sym (eqb-true b.asked.origin o two.1)))

joins-are : (p : Project) (x : SwitchAt) (c : CellView) (s : SetOrigins) (v : SwitchedView) → primary_at p [] ≡ Some s → only (switched_pins c) ≡ Some v
    → joins_of_switch p x c ≡ Some (switch_joins x.input x.origin s.gnd.0 v.passes)
joins-are p x c s v e f = rw (e) (rw (f) refl)

module _ (p : Project) (l : Lists) (switch_command : ℕ → ℕ) (read : IsRead p) (good : IsInsertable p l switch_command) (within : IsWithinLimits p l) where
  -- the domain of the top has a primary supply, which is a used set
  set-of : (d : ℕ) (x : Domain) → slice_get p.intent.domains d ≡ Some x → domain_of p.intent [] ≡ Some d → (k : SetNumber) × (primary_of p.intent (domain_of p.intent []) ≡ Some k) × (is_used_set p.intent k ≡ true)
  set-of d x at top =
      let k = some-is x.primary (not-false (is_some x.primary) (no_fault (no_primary p.intent) good.primaries (d, x) (get-numbered p.intent.domains d x at))) in
      let handle : handle_names k.0 x ≡ true = or-left (is_set k.0 x.primary) (is_set k.0 x.isolation || is_set k.0 x.retention) (ap (is_set k.0) k.1 ∙ eq-eqb k.0 k.0 refl) in
      let named : list_any (handle_names k.0) p.intent.domains ≡ true = any-in (handle_names k.0) x p.intent.domains (slice-in p.intent.domains d x at) handle in
      (k.0, ap (primary_of p.intent) top ∙ (ap (λ o. option_and_then (λ (y : Domain). y.primary) o) at ∙ k.1), or-left (list_any (handle_names k.0) p.intent.domains) _ named)

  pub top-set : (k : SetNumber) × (primary_of p.intent (domain_of p.intent []) ≡ Some k) × (is_used_set p.intent k ≡ true)
  top-set =
      let d = some-is (domain_of p.intent []) (not-false (is_some (domain_of p.intent [])) (no_fault (no_domain p.intent) good.domains [] (inl refl))) in
      let at = number-there (λ (y : Domain). list_any (same_path []) y.elements) 0 p.intent.domains d.0 d.1 in
      let number : at.0 ≡ d.0 = omega (arith, at.2) in
      set-of d.0 at.1 (ap (slice_get p.intent.domains) (sym number) ∙ at.3) d.1

  pub top-primary : (s : SetOrigins) × (primary_at p [] ≡ Some s)
  top-primary = let s = some-is (functions_of p (Some top-set.0)) (within.resolved.sets top-set.0 top-set.2) in (s.0, ap (functions_of p) top-set.1 ∙ s.1)

  module _ (w : Switching) (h : IsIn w (plan p l).switches) where
    is : IsPlannedSwitch p l w
    is = is-planned-switch p l w h

    sound : IsSoundCell w.cell
    sound = sound-switch p l switch_command read good within w h

    passes : (v : SwitchedView) × (only (switched_pins w.cell) ≡ Some v)
    passes = fits-one (record { on = on_expression w.asked.high; mapped = l.of_switch w.asked.origin }) w.cell (switch-chosen p l w.asked w.cell is.cell)

    one : OneSwitched w.cell.pgs
    one = one-switched w.cell w.cell.pgs passes.0 passes.1

    pin-in : IsIn one.pin w.cell.pgs × (is_some one.pin.switched ≡ true)
    pin-in = first_in (λ (g : PgPinView). is_some g.switched) w.cell.pgs one.pin one.found

    join : Joins
    join = switch_joins w.asked.input w.asked.origin top-primary.0.gnd.0 passes.0.passes

    pins-are : switch_pins p w ≡ joined_pins w.cell (Some join)
    unfolding join
    pins-are = ap (joined_pins w.cell) (joins-are p w.asked w.cell top-primary.0 passes.0 top-primary.1 passes.1)

    joins-out : (k : ℕ) → join k one.pin ≡ Some w.asked.origin
    unfolding join
    joins-out k =
        let internal = or-last (is_some one.pin.switched) (is_internal one.pin) (all_in (λ (g : PgPinView). not (is_some g.switched) || is_internal g) one.pin w.cell.pgs sound.switched pin-in.0) pin-in.1 in
        ap (λ o. option_and_then (λ z. Some (switch_origin w.asked.input w.asked.origin top-primary.0.gnd.0 z)) o) (side-out passes.0.passes k one.pin (internal-kind one.pin internal) pin-in.1)

    abbrev joined_pin : ℕ × PgPinView → Option (Name × ℕ)
    joined_pin g = option_and_then (λ o. Some (g.1.name, o)) (join g.0 g.1)

    pair-is : (n : Name) (o : ℕ) (q : Name × ℕ) → Some (n, o) ≡ Some q → (n ≡ q.0) × (o ≡ q.1)
    pair-is n o q e = let same : (n, o) ≡ q = cc in (ap (λ (z : Name × ℕ). z.0) same, ap (λ (z : Name × ℕ). z.1) same)

    same-origin : (a b : ℕ) → Some a ≡ Some b → a ≡ b
    same-origin a b e = cc

    joined : (q : Name × ℕ) → IsIn q (switch_pins p w) → bytes_eq q.0 one.pin.name ≡ true → q.1 ≡ w.asked.origin
    joined q m e =
        let g = of-some joined_pin q (numbered 0 w.cell.pgs) (subst (λ r. IsIn q r) pins-are m) in
        let o = then_is (λ o. Some (g.0.1.name, o)) (join g.0.0 g.0.1) q g.2 in
        let parts = pair-is g.0.1.name o.0 q o.2 in
        let there = of-numbered 0 g.0 w.cell.pgs g.1 in
        let same : g.0.1 ≡ one.pin = same-named (λ (t : PgPinView). t.name) w.cell.pgs g.0.1 one.pin sound.sound.pgs_apart there pin-in.0 (parts.0 ∙ name-true q.0 one.pin.name e) in
        sym parts.1 ∙ same-origin o.0 w.asked.origin (sym o.1 ∙ (ap (join g.0.0) same ∙ joins-out g.0.0))

    has : (q : Name × ℕ) × IsIn q (switch_pins p w) × (q.0 ≡ one.pin.name)
    has =
        let at = numbered-at w.cell.pgs 0 one.pin pin-in.0 in
        let here = in-some joined_pin (at.0, one.pin) (one.pin.name, w.asked.origin) (numbered 0 w.cell.pgs) at.1 (ap (λ o. option_and_then (λ z. Some (one.pin.name, z)) o) (joins-out at.0)) in
        ((one.pin.name, w.asked.origin), subst (λ r. IsIn (one.pin.name, w.asked.origin) r) (sym pins-are) here, refl)

    is-false : (b : Bool) → (b ≡ true → ⊥) → b ≡ false
    is-false true f = absurd (f refl)
    is-false false f = refl

    names : (q : PinView) → IsIn q w.cell.pins → bytes_eq q.name one.pin.name ≡ false
    names q m = is-false (bytes_eq q.name one.pin.name) (λ e.
        let same = name-true q.name one.pin.name e in
        true≢false (sym (ap (bytes_eq one.pin.name) same ∙ name-self one.pin.name) ∙ (pins-apart w.cell sound).pgs q one.pin m pin-in.0))

    pub switches-out : SwitchesOut p (additions p l) w
    switches-out = record {
      pin = one.pin;
      found = one.found;
      one = one.one;
      names = names;
      joined = joined;
      has = has;
      origin = (w.asked.input, w.asked.control, w.asked.high, switch-origin-is p w.asked is.listed);
    }

  pub has-switches : HasSwitches p (additions p l)
  has-switches = record { once = one-switch p l; few = within.few.switches; out = switches-out }
