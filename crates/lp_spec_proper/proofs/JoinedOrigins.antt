-- In a supply network each power and ground pin that has a supply is joined to one of its origins.
use Rattle.std.specs.Prelude.{slice_get, if◌then◌else◌, option_and_then}
use Rattle.std.specs.List.{list_any}
use Rattle.std.proofs.Common.{◌≡◌, ◌<◌, ◌==◌, ℕ, is_some, Bool, true, false, [], length, Option, Some, None, inl, inr, refl, sym, ap, ◌∙◌, subst}
use Rattle.std.proofs.lemmas.Bool.{cases_lt}
use Rattle.std.proofs.lemmas.List.Elements.{All-get_or}
use Rattle.std.proofs.lemmas.Option.{slice_get_past, slice_get_within, get_or_from_slice_get}
use Rattle.lp_model.specs.declared.library.PgKind.{PgKind}
use Rattle.lp_model.specs.declared.library.PgKind.TheVariants as kinds
use Rattle.lp_model.specs.declared.supply.SetOrigins.{SetOrigins}
use Rattle.lp_model.specs.LibraryView.{SwitchedView, PgPinView, PinView, CellView}
use Rattle.lp_rows.specs.Network.{IsNetwork, AreOrigins, IsSetOf, input_at, input_of}
use Rattle.lp_spec_design.specs.Keys.{Path}
use Rattle.lp_spec_design.specs.Chains.{Operator, Clamp, Shift}
use Rattle.lp_spec_design.specs.Domains.{domain_of, primary_of}
use Rattle.lp_spec_design.specs.Instances.{Placed}
use Rattle.lp_spec_design.specs.Intents.{SetNumber, Strategy}
use Rattle.lp_spec_design.specs.Registers.{retention}
use Rattle.lp_spec_design.specs.Winners.{IsIn}
use Rattle.lp_spec_fit.specs.Fits.{one_output, switched_pins}
use Rattle.lp_spec_fit.specs.Joins.{Joins, by_kind, is_backup_power, shifter_power, SwitchSide, ToInput, ToOutput, ToGround, switch_side, switch_origin}
use Rattle.lp_spec_pins.specs.Pins.{is_data, only, input_for}
use Rattle.lp_spec_realises.specs.Operators.{SwitchAt, all_switches}
use Rattle.lp_spec_realises.specs.Projects.{Project, functions_of}
use Rattle.lp_spec_realises.specs.Realises.{primary_at, plain_joins, kept_joins, joins_by, joins_of_source, clamp_joins_of, shifter_joins_of, joins_of_operator, joins_of_switch}
use Rattle.lp_spec_voltages.proofs.Readings.{switch-input}

module _ (n : ℕ) where
  abbrev pub IsBelow : Option ℕ → Type 0
  IsBelow None = Unit {0}
  IsBelow (Some o) = o < n

  abbrev pub JoinBelow : Joins → Type 0
  JoinBelow join = (k : ℕ) (g : PgPinView) → IsBelow (join k g)

  abbrev pub AreBelow : Option Joins → Type 0
  AreBelow None = Unit {0}
  AreBelow (Some join) = JoinBelow join

  -- ---- by the rules of joins

  kind_below : (primary backup : Option ℕ) (set : SetOrigins) (k : PgKind) → IsBelow primary → IsBelow backup → AreOrigins n set → IsBelow (by_kind primary backup set k)
  kind_below primary backup set kinds.PrimaryPower a b s = a
  kind_below primary backup set kinds.BackupPower a b s = b
  kind_below primary backup set kinds.InternalPower a b s = tt
  kind_below primary backup set kinds.PrimaryGround a b s = s.gnd
  kind_below primary backup set kinds.BackupGround a b s = s.gnd
  kind_below primary backup set kinds.InternalGround a b s = s.gnd
  kind_below primary backup set kinds.Nwell a b s = s.nwell
  kind_below primary backup set kinds.Pwell a b s = s.pwell
  kind_below primary backup set kinds.Deepnwell a b s = s.deepnwell
  kind_below primary backup set kinds.Deeppwell a b s = s.deeppwell

  plain_below : (s : Option SetOrigins) → IsSetOf n s → AreBelow (plain_joins s)
  plain_below None h = tt
  plain_below (Some s) h = λ k g. kind_below (Some s.power.0) None s g.kind h.power tt h

  kept_below : (s r : Option SetOrigins) → IsSetOf n s → IsSetOf n r → AreBelow (kept_joins s r)
  kept_below None r h f = tt
  kept_below (Some s) None h f = tt
  kept_below (Some s) (Some r) h f = λ k g. kind_below (Some s.power.0) (Some r.power.0) s g.kind h.power f.power h

  clamp_below : (a b : Option SetOrigins) (c : CellView) → IsSetOf n a → IsSetOf n b → AreBelow (clamp_joins_of a b c)
  clamp_below None b c h f = tt
  clamp_below (Some a) None c h f = tt
  clamp_below (Some a) (Some b) c h f = λ k g. by (list_any is_backup_power c.pgs) g
    where
      by : (both : Bool) (g : PgPinView) → IsBelow (if both then by_kind (Some b.power.0) (Some a.power.0) b g.kind else by_kind (Some a.power.0) None a g.kind)
      by true g = kind_below (Some b.power.0) (Some a.power.0) b g.kind f.power h.power f
      by false g = kind_below (Some a.power.0) None a g.kind h.power tt h

  power_below : (a b : SetOrigins) (d y : PinView) (k : ℕ) → AreOrigins n a → AreOrigins n b → IsBelow (shifter_power a b d y k)
  power_below a b d y k h f = by (k == y.power) (k == d.power)
    where
      by : (out from : Bool) → IsBelow (if out then Some b.power.0 else if from then Some a.power.0 else None)
      by true from = f.power
      by false true = h.power
      by false false = tt

  shifter_below : (a b : Option SetOrigins) (d y : Option PinView) → IsSetOf n a → IsSetOf n b → AreBelow (shifter_joins_of a b d y)
  shifter_below None b d y h f = tt
  shifter_below (Some a) None d y h f = tt
  shifter_below (Some a) (Some b) None y h f = tt
  shifter_below (Some a) (Some b) (Some d) None h f = tt
  shifter_below (Some a) (Some b) (Some d) (Some y) h f =
      λ k g. kind_below (shifter_power a b d y k) (shifter_power a b d y k) b g.kind (power_below a b d y k h f) (power_below a b d y k h f) f

  side_below : (input output gnd : ℕ) (s : Option SwitchSide) → input < n → output < n → gnd < n → IsBelow (option_and_then (λ x. Some (switch_origin input output gnd x)) s)
  side_below input output gnd None a b c = tt
  side_below input output gnd (Some ToInput) a b c = a
  side_below input output gnd (Some ToOutput) a b c = b
  side_below input output gnd (Some ToGround) a b c = c

module _ (p : Project) (network : IsNetwork p.supplies) where
  abbrev pub count : ℕ
  count = length p.supplies.origins

  -- the functions of a set are origins
  functions_below : (k : Option SetNumber) → IsSetOf (length p.supplies.origins) (functions_of p k)
  functions_below None = tt
  functions_below (Some k) = by (slice_get p.supplies.sets k) refl
    where
      by : (o : Option (Option SetOrigins)) → slice_get p.supplies.sets k ≡ o → IsSetOf (length p.supplies.origins) (option_and_then (λ x. x) o)
      by None e = tt
      by (Some set) e =
          subst (IsSetOf (length p.supplies.origins)) (get_or_from_slice_get p.supplies.sets k set set e)
          (All-get_or (IsSetOf (length p.supplies.origins)) p.supplies.sets k set (slice_get_within p.supplies.sets k set e) network.sets)

  primary_below : (x : Path) → IsSetOf (length p.supplies.origins) (primary_at p x)
  primary_below x = functions_below (primary_of p.intent (domain_of p.intent x))

  pub source_below : (a : Placed) (c : CellView) → AreBelow (length p.supplies.origins) (joins_of_source p a c)
  source_below a c = by (retention p.intent a.path a.instance) (is_some c.state)
    where
      by : (t : Option Strategy) (b : Bool) → AreBelow (length p.supplies.origins) (joins_by p (primary_at p a.path) t b)
      by None b = plain_below count (primary_at p a.path) (primary_below a.path)
      by (Some t) true = kept_below count (primary_at p a.path) (functions_of p t.supply) (primary_below a.path) (functions_below t.supply)
      by (Some t) false = plain_below count (primary_at p a.path) (primary_below a.path)

  pub operator_below : (x : Path) (o : Operator) (c : CellView) → AreBelow (length p.supplies.origins) (joins_of_operator p x o c)
  operator_below x (Clamp t i) c = clamp_below count (functions_of p (Some i)) (primary_at p x) c (functions_below (Some i)) (primary_below x)
  operator_below x (Shift t a b) c = shifter_below count (functions_of p (Some a)) (functions_of p (Some b)) (input_for is_data c) (one_output c) (functions_below (Some a)) (functions_below (Some b))

  fed_below : (o i : ℕ) → input_of p.supplies o ≡ Some i → o < count
  fed_below o i fed = elim (cases_lt o count) [
    | inl within ↦ within
    | inr past ↦ let none : None ≡ Some i = sym (ap input_at (slice_get_past p.supplies.origins o past)) ∙ fed in absurd cc
  ]

  pub switch_below : (x : SwitchAt) → IsIn x (all_switches p) → (c : CellView) → AreBelow (length p.supplies.origins) (joins_of_switch p x c)
  switch_below x h c = by (primary_at p []) refl (only (switched_pins c)) refl (primary_below [])
    where
      fed : input_of p.supplies x.origin ≡ Some x.input
      fed = switch-input p x h

      by : (s : Option SetOrigins) → primary_at p [] ≡ s → (v : Option SwitchedView) → only (switched_pins c) ≡ v → IsSetOf (length p.supplies.origins) s → AreBelow (length p.supplies.origins) (joins_of_switch p x c)
      by None e v f g = rw (e) tt
      by (Some s) e None f g = rw (e, f) tt
      by (Some s) e (Some v) f g = rw (e, f) (λ k q. side_below count x.input x.origin s.gnd.0 (switch_side v.passes k q) (network.inputs x.origin x.input fed) (fed_below x.origin x.input fed) g.gnd)
