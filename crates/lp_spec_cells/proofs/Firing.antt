-- When a cell that fits a register with retention saves and restores: as its controls say.
use Rattle.std.proofs.Common.{◌≡◌, Bool, true, false, ◌&&◌, List, [], ◌∷◌, Option, Some, None, inl, inr, refl, sym, ap, ◌∙◌}
use Rattle.std.specs.Prelude.{if◌then◌else◌, is_some, filter}
use Rattle.std.proofs.lemmas.Bool.{false≢true, and_parts, or_cases}
use Rattle.lp_tern.specs.declared.tern.Tern.{Tern}
use Rattle.lp_model.specs.declared.library.Action.{Action}
use Rattle.lp_model.specs.declared.library.Action.TheVariants.{High, Low, Rise, Fall}
use Rattle.lp_model.specs.declared.library.PinUse.{PinUse}
use Rattle.lp_model.specs.declared.library.PinUse.TheVariants as uses
use Rattle.lp_model.specs.declared.library.RetClass.TheVariants as classes
use Rattle.lp_model.specs.LibraryView.{PinView, CellView}
use Rattle.lp_behaviour.specs.Registers.{fires_of}
use Rattle.lp_spec_design.specs.Keys.{Name}
use Rattle.lp_spec_design.specs.Netlists.{first}
use Rattle.lp_spec_design.specs.Winners.{IsIn}
use Rattle.lp_spec_pins.specs.Registers.{save_of, restore_of, fires_by, fires_at_pin, fires_in}
use Rattle.lp_spec_fit.specs.Needs.{RegisterNeed}
use Rattle.lp_spec_fit.specs.Fits.{is_retention_pin, same_action, is_action, saves, restores, saves_and_restores, controls_match, retention_pins}
use Rattle.lp_spec_cells.specs.Retention.{Controls, ReadsControl, ReadsControls}

actions-same : (a b : Action) → same_action a b ≡ true → a ≡ b
actions-same High High e = refl
actions-same High Low e = absurd (false≢true e)
actions-same High Rise e = absurd (false≢true e)
actions-same High Fall e = absurd (false≢true e)
actions-same Low High e = absurd (false≢true e)
actions-same Low Low e = refl
actions-same Low Rise e = absurd (false≢true e)
actions-same Low Fall e = absurd (false≢true e)
actions-same Rise High e = absurd (false≢true e)
actions-same Rise Low e = absurd (false≢true e)
actions-same Rise Rise e = refl
actions-same Rise Fall e = absurd (false≢true e)
actions-same Fall High e = absurd (false≢true e)
actions-same Fall Low e = absurd (false≢true e)
actions-same Fall Rise e = absurd (false≢true e)
actions-same Fall Fall e = refl

action-is : (a : Action) (o : Option Action) → is_action a o ≡ true → o ≡ Some a
action-is a None e = absurd (false≢true e)
action-is a (Some b) e = ap (λ z. Some z) (sym (actions-same a b e))

-- ---- what pins of the three classes do

module _ (k : Controls) (last now : Tern) where
  saves-is : (a : Action) (u : PinUse) → saves a u ≡ true → ReadsControl k u last now → (save_of u ≡ Some a) × (restore_of u ≡ None) × (last ≡ k.save_before) × (now ≡ k.save_now)
  saves-is a (uses.Retain classes.Save save restore) e r = (action-is a save e, refl, r.0, r.1)
  saves-is a (uses.Retain classes.Restore save restore) e r = absurd (false≢true e)
  saves-is a (uses.Retain classes.Both save restore) e r = absurd (false≢true e)
  saves-is a uses.Plain e r = absurd (false≢true e)
  saves-is a uses.IsoData e r = absurd (false≢true e)
  saves-is a uses.IsoEnable e r = absurd (false≢true e)
  saves-is a uses.ShiftData e r = absurd (false≢true e)
  saves-is a uses.ShiftEnable e r = absurd (false≢true e)
  saves-is a uses.Switch e r = absurd (false≢true e)

  restores-is : (a : Action) (u : PinUse) → restores a u ≡ true → ReadsControl k u last now → (restore_of u ≡ Some a) × (save_of u ≡ None) × (last ≡ k.restore_before) × (now ≡ k.restore_now)
  restores-is a (uses.Retain classes.Restore save restore) e r = (action-is a restore e, refl, r.0, r.1)
  restores-is a (uses.Retain classes.Save save restore) e r = absurd (false≢true e)
  restores-is a (uses.Retain classes.Both save restore) e r = absurd (false≢true e)
  restores-is a uses.Plain e r = absurd (false≢true e)
  restores-is a uses.IsoData e r = absurd (false≢true e)
  restores-is a uses.IsoEnable e r = absurd (false≢true e)
  restores-is a uses.ShiftData e r = absurd (false≢true e)
  restores-is a uses.ShiftEnable e r = absurd (false≢true e)
  restores-is a uses.Switch e r = absurd (false≢true e)

  both-is : (a b : Action) (u : PinUse) → saves_and_restores a b u ≡ true → ReadsControl k u last now → (save_of u ≡ Some a) × (restore_of u ≡ Some b) × (last ≡ k.save_before) × (now ≡ k.save_now)
  both-is a b (uses.Retain classes.Both save restore) e r =
      let parts = and_parts (is_action a save) (is_action b restore) e in
      (action-is a save parts.0, action-is b restore parts.1, r.0, r.1)
  both-is a b (uses.Retain classes.Save save restore) e r = absurd (false≢true e)
  both-is a b (uses.Retain classes.Restore save restore) e r = absurd (false≢true e)
  both-is a b uses.Plain e r = absurd (false≢true e)
  both-is a b uses.IsoData e r = absurd (false≢true e)
  both-is a b uses.IsoEnable e r = absurd (false≢true e)
  both-is a b uses.ShiftData e r = absurd (false≢true e)
  both-is a b uses.ShiftEnable e r = absurd (false≢true e)
  both-is a b uses.Switch e r = absurd (false≢true e)

-- ---- the pin that acts

-- the first pin that acts is the first of those among which all that act are
first-filtered : {A : Type 0} (p r : A → Bool) (xs : List A) → ((a : A) → p a ≡ true → r a ≡ true) → first p xs ≡ first p (filter r xs)
first-filtered p r [] h = refl
first-filtered p r (x ∷ xs) h = by (p x) refl (r x) refl (first-filtered p r xs h)
  where
    by : (b : Bool) → p x ≡ b → (d : Bool) → r x ≡ d → first p xs ≡ first p (filter r xs) → (if b then Some x else first p xs) ≡ first p (if d then x ∷ filter r xs else filter r xs)
    by true e true f more = sym (ap (λ z. if z then Some x else first p (filter r xs)) e)
    by true e false f more = absurd (false≢true (sym f ∙ h x e))
    by false e true f more = more ∙ sym (ap (λ z. if z then Some x else first p (filter r xs)) e)
    by false e false f more = more

save-retains : (q : PinView) (u : PinUse) → is_some (save_of u) ≡ true → is_retention_pin (record q { use_of = u }) ≡ true
save-retains q (uses.Retain class save restore) e = refl
save-retains q uses.Plain e = absurd (false≢true e)
save-retains q uses.IsoData e = absurd (false≢true e)
save-retains q uses.IsoEnable e = absurd (false≢true e)
save-retains q uses.ShiftData e = absurd (false≢true e)
save-retains q uses.ShiftEnable e = absurd (false≢true e)
save-retains q uses.Switch e = absurd (false≢true e)

restore-retains : (q : PinView) (u : PinUse) → is_some (restore_of u) ≡ true → is_retention_pin (record q { use_of = u }) ≡ true
restore-retains q (uses.Retain class save restore) e = refl
restore-retains q uses.Plain e = absurd (false≢true e)
restore-retains q uses.IsoData e = absurd (false≢true e)
restore-retains q uses.IsoEnable e = absurd (false≢true e)
restore-retains q uses.ShiftData e = absurd (false≢true e)
restore-retains q uses.ShiftEnable e = absurd (false≢true e)
restore-retains q uses.Switch e = absurd (false≢true e)

module _ (action : PinUse → Option Action) (last now : Name → Tern) where
  -- what the first of some pins that acts does
  abbrev pub fires_among : List PinView → Tern
  fires_among rs = fires_at_pin action last now (first (λ (q : PinView). is_some (action q.use_of)) rs)

  fires-one : (a : Action) (q : PinView) (rs : List PinView) (l m : Tern) → action q.use_of ≡ Some a → last q.name ≡ l → now q.name ≡ m → fires_among (q ∷ rs) ≡ fires_of a l m
  fires-one a q rs l m acts was is =
      (λ i. fires_at_pin action last now (if is_some (acts i) then Some q else first (λ (z : PinView). is_some (action z.use_of)) rs))
      ∙ (λ i. fires_by (acts i) (was i) (is i))

  fires-next : (q : PinView) (rs : List PinView) → action q.use_of ≡ None → fires_among (q ∷ rs) ≡ fires_among rs
  fires-next q rs none = λ i. fires_at_pin action last now (if is_some (none i) then Some q else first (λ (z : PinView). is_some (action z.use_of)) rs)

module _ (n : RegisterNeed) (k : Controls) (last now : Name → Tern) where
  -- some retention pins read the controls
  abbrev AllRead : List PinView → Type 0
  AllRead rs = (q : PinView) → IsIn q rs → ReadsControl k q.use_of (last q.name) (now q.name)

  abbrev OneSignal : Type 0
  OneSignal = n.one_signal ≡ true → (k.save_before ≡ k.restore_before) × (k.save_now ≡ k.restore_now)

  abbrev pub Both : List PinView → Type 0
  Both rs = (fires_among save_of last now rs ≡ fires_of n.save k.save_before k.save_now) × (fires_among restore_of last now rs ≡ fires_of n.restore k.restore_before k.restore_now)

  save-then-restore : (q r : PinView) → saves n.save q.use_of ≡ true → restores n.restore r.use_of ≡ true → AllRead (q ∷ r ∷ []) → Both (q ∷ r ∷ [])
  save-then-restore q r e f read =
      let first_is = saves-is k (last q.name) (now q.name) n.save q.use_of e (read q (inl refl)) in
      let second_is = restores-is k (last r.name) (now r.name) n.restore r.use_of f (read r (inr (inl refl))) in (
        fires-one save_of last now n.save q (r ∷ []) k.save_before k.save_now first_is.0 first_is.2 first_is.3,
        fires-next restore_of last now q (r ∷ []) first_is.1 ∙ fires-one restore_of last now n.restore r [] k.restore_before k.restore_now second_is.0 second_is.2 second_is.3,
      )

  restore-then-save : (q r : PinView) → restores n.restore q.use_of ≡ true → saves n.save r.use_of ≡ true → AllRead (q ∷ r ∷ []) → Both (q ∷ r ∷ [])
  restore-then-save q r e f read =
      let first_is = restores-is k (last q.name) (now q.name) n.restore q.use_of e (read q (inl refl)) in
      let second_is = saves-is k (last r.name) (now r.name) n.save r.use_of f (read r (inr (inl refl))) in (
        fires-next save_of last now q (r ∷ []) first_is.1 ∙ fires-one save_of last now n.save r [] k.save_before k.save_now second_is.0 second_is.2 second_is.3,
        fires-one restore_of last now n.restore q (r ∷ []) k.restore_before k.restore_now first_is.0 first_is.2 first_is.3,
      )

  one-for-both : (q : PinView) → (n.one_signal && saves_and_restores n.save n.restore q.use_of) ≡ true → AllRead (q ∷ []) → OneSignal → Both (q ∷ [])
  one-for-both q e read one =
      let parts = and_parts n.one_signal (saves_and_restores n.save n.restore q.use_of) e in
      let is = both-is k (last q.name) (now q.name) n.save n.restore q.use_of parts.1 (read q (inl refl)) in
      let same = one parts.0 in (
        fires-one save_of last now n.save q [] k.save_before k.save_now is.0 is.2 is.3,
        fires-one restore_of last now n.restore q [] k.restore_before k.restore_now is.1 (is.2 ∙ same.0) (is.3 ∙ same.1),
      )

  all-fire : (rs : List PinView) → controls_match n rs ≡ true → AllRead rs → OneSignal → Both rs
  all-fire [] e read one = absurd (false≢true e)
  all-fire (q ∷ []) e read one = one-for-both q e read one
  all-fire (q ∷ r ∷ []) e read one =
      elim (or_cases (saves n.save q.use_of && restores n.restore r.use_of) (restores n.restore q.use_of && saves n.save r.use_of) e) [
        | inl h ↦ let parts = and_parts (saves n.save q.use_of) (restores n.restore r.use_of) h in save-then-restore q r parts.0 parts.1 read
        | inr h ↦ let parts = and_parts (restores n.restore q.use_of) (saves n.save r.use_of) h in restore-then-save q r parts.0 parts.1 read
      ]
  all-fire (q ∷ r ∷ s ∷ more) e read one = absurd (false≢true e)

  pub save-fires : (c : CellView) → controls_match n (retention_pins c) ≡ true → ReadsControls n c k last now → fires_in save_of c last now ≡ fires_of n.save k.save_before k.save_now
  save-fires c e read =
      ap (fires_at_pin save_of last now) (first-filtered (λ (q : PinView). is_some (save_of q.use_of)) is_retention_pin c.pins (λ q h. save-retains q q.use_of h))
      ∙ (all-fire (retention_pins c) e read.pins read.one).0

  pub restore-fires : (c : CellView) → controls_match n (retention_pins c) ≡ true → ReadsControls n c k last now → fires_in restore_of c last now ≡ fires_of n.restore k.restore_before k.restore_now
  restore-fires c e read =
      ap (fires_at_pin restore_of last now) (first-filtered (λ (q : PinView). is_some (restore_of q.use_of)) is_retention_pin c.pins (λ q h. restore-retains q q.use_of h))
      ∙ (all-fire (retention_pins c) e read.pins read.one).1
