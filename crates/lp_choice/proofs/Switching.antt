-- Power switches over numbers of names, and over their texts.
use Rattle.std.proofs.Common.{◌≡◌, ℕ, ◌+◌, Bool, true, false, not, ◌&&◌, List, [], ◌∷◌, ◌++◌, map, length, Option, Some, None, refl, sym, ap, ◌∙◌, arith}
use Rattle.std.specs.Prelude.{if◌then◌else◌, filter, is_some, ◌==◌, option_and_then}
use Rattle.std.specs.List.{list_all}
use Rattle.std.specs.Option.{option_map}
use Rattle.lp_text.specs.Texts.{text_at}
use Rattle.lp_text.specs.declared.names.NameId.{NameId}
use Rattle.lp_expr.specs.Formula.{Formula, run, top, truth}
use Rattle.lp_expr.specs.declared.step.Step.{Step}
use Rattle.lp_expr.specs.declared.step.Step.TheVariants.{Not}
use Rattle.lp_model.specs.LibraryView.{CellView, cell_view, expr_view, pg_pin_view, pin_view, state_view, switched_view}
use Rattle.lp_model.specs.declared.library.Cell.{Cell}
use Rattle.lp_model.specs.declared.library.PgKind.{PgKind}
use Rattle.lp_model.specs.declared.library.PgKind.TheVariants.{PrimaryPower, PrimaryGround, BackupPower, BackupGround, InternalPower, InternalGround, Nwell, Pwell, Deepnwell, Deeppwell}
use Rattle.lp_model.specs.declared.library.PgPin.{PgPin}
use Rattle.lp_model.specs.declared.library.Pin.{Pin}
use Rattle.lp_model.specs.declared.library.Switched.{Switched}
use Rattle.lp_model.specs.declared.need.SwitchNeed.{SwitchNeed}
use Rattle.lp_spec_design.specs.Graph.{numbered}
use Rattle.lp_spec_pins.specs.Pins.{is_input_pin, only}
use Rattle.lp_spec_fit.specs.Needs.{mapped_view, switch_need}
use Rattle.lp_spec_fit.specs.Joins.{switch_side}
use Rattle.lp_spec_fit.specs.Fits.{fits_switch, has_function, is_complement, is_switch_pin, switched_pins, switches_with}
use Rattle.lp_spec_fit.specs.Choice.{is_mapped, switch_choice}
use Rattle.lp_choice.specs.declared.parts.Part.TheVariants.{Control}
use Rattle.lp_choice.specs.Parts.{has_part}
use Rattle.lp_choice.specs.Switches.{complement, has_side, have_sides, is_driven, only_switched, pins_switch, switch_fits}
use Rattle.lp_choice.specs.Least.{area_if, least_place}
use Rattle.lp_choice.specs.Chosen.{switch_areas}
use Rattle.lp_choice.proofs.LeastChoice.{least-is-choice}
use Rattle.lp_choice.proofs.Clamping.{listed, part-seen, some-seen}

-- ---- complements

run-more : (c : List Bool) (steps more : List Step) (stack : List Bool) → run c (steps ++ more) stack ≡ run c more (run c steps stack)
run-more c [] more stack = refl
run-more c (s ∷ steps) more stack = run-more c steps more _

complement-is : (steps : List Step) (c : List Bool) → truth (steps ++ Not ∷ []) c ≡ not (truth steps c)
complement-is steps c = ap top (run-more c steps (Not ∷ []) [])

complements : (pin : List ℕ) (steps : List Step) (variables : List NameId) (texts : List (List ℕ)) (off : Formula) → length variables ≡ 1
    → has_function (pin ∷ []) (λ v. truth (steps ++ Not ∷ []) (v pin ∷ [])) (Some (expr_view texts off)) ≡ is_complement pin (expr_view texts (record { variables = variables; steps = steps })) (expr_view texts off)
complements pin steps [] texts off one = absurd (omega (arith, one))
complements pin steps (x ∷ []) texts off one = λ i. has_function (pin ∷ []) (λ v. complement-is steps (v pin ∷ []) i) (Some (expr_view texts off))
complements pin steps (x ∷ y ∷ more) texts off one = absurd (omega (arith, one))

module _ (texts : List (List ℕ)) where
  -- ---- the switched pin

  abbrev and_drives : Option Switched → List Switched → List Switched
  and_drives None rest = rest
  and_drives (Some s) rest = s ∷ rest

  abbrev drives : List PgPin → List Switched
  drives [] = []
  drives (g ∷ gs) = and_drives g.switched (drives gs)

  switched-seen : (c : CellView) (gs : List PgPin) → switched_pins (record c { pgs = map (pg_pin_view texts) gs }) ≡ map (switched_view texts) (drives gs)
  switched-seen c [] = refl
  switched-seen c (g ∷ gs) = by g.switched (switched-seen c gs)
    where
      by : (s : Option Switched) → switched_pins (record c { pgs = map (pg_pin_view texts) gs }) ≡ map (switched_view texts) (drives gs)
          → switched_pins (record c { pgs = map (pg_pin_view texts) (record { name = g.name; kind = g.kind; switched = s } ∷ gs) }) ≡ map (switched_view texts) (drives (record { name = g.name; kind = g.kind; switched = s } ∷ gs))
      by None e = e
      by (Some s) e = ap (λ more. switched_view texts s ∷ more) e

  only-map : {A B : Type 0} (f : A → B) (xs : List A) → only (map f xs) ≡ option_map f (only xs)
  only-map f [] = refl
  only-map f (x ∷ []) = refl
  only-map f (x ∷ y ∷ xs) = refl

  -- the pins that are driven, each with how
  drives-are : (gs : List PgPin) → map (λ (g : PgPin). g.switched) (filter is_driven gs) ≡ map (λ s. Some s) (drives gs)
  drives-are [] = refl
  drives-are (g ∷ gs) = by g.switched (drives-are gs)
    where
      by : (s : Option Switched) → map (λ (h : PgPin). h.switched) (filter is_driven gs) ≡ map (λ r. Some r) (drives gs)
          → map (λ (h : PgPin). h.switched) (filter is_driven (record { name = g.name; kind = g.kind; switched = s } ∷ gs)) ≡ map (λ r. Some r) (drives (record { name = g.name; kind = g.kind; switched = s } ∷ gs))
      by None e = e
      by (Some s) e = ap (λ more. Some s ∷ more) e

  abbrev of_some : {A : Type 0} → Option (Option A) → Option A
  of_some None = None
  of_some (Some o) = o

  then-some : {A B : Type 0} (f : A → Option B) (o : Option A) → option_and_then f o ≡ of_some (option_map f o)
  then-some f None = refl
  then-some f (Some x) = refl

  some-some : {A : Type 0} (o : Option A) → of_some (option_map (λ s. Some s) o) ≡ o
  some-some None = refl
  some-some (Some x) = refl

  only-drives : (gs : List PgPin) → only_switched gs ≡ only (drives gs)
  only-drives gs =
      then-some (λ (g : PgPin). g.switched) (only (filter is_driven gs))
      ∙ (ap of_some (sym (only-map (λ (g : PgPin). g.switched) (filter is_driven gs)) ∙ (ap only (drives-are gs) ∙ only-map (λ s. Some s) (drives gs)))
      ∙ some-some (only (drives gs)))

  only-seen : (c : Cell) → option_map (switched_view texts) (only_switched c.pgs) ≡ only (switched_pins (cell_view texts c))
  only-seen c = ap (option_map (switched_view texts)) (only-drives c.pgs) ∙ (sym (only-map (switched_view texts) (drives c.pgs)) ∙ ap only (sym (switched-seen (cell_view texts c) c.pgs)))

  -- ---- sides

  some-if : {A : Type 0} (b : Bool) (x : A) → is_some (if b then Some x else None) ≡ b
  some-if true x = refl
  some-if false x = refl

  side-is : (passes k : ℕ) (g : PgPin) → is_some (switch_side passes k (pg_pin_view texts g)) ≡ has_side passes k g
  side-is passes k g = by g.kind g.switched
    where
      by : (kind : PgKind) (s : Option Switched) → is_some (switch_side passes k (record { name = text_at texts g.name.0; kind = kind; switched = option_map (switched_view texts) s })) ≡ has_side passes k (record { name = g.name; kind = kind; switched = s })
      by PrimaryPower s = some-if (k == passes) _
      by PrimaryGround s = refl
      by BackupPower s = refl
      by BackupGround s = refl
      by InternalPower None = refl
      by InternalPower (Some s) = refl
      by InternalGround s = refl
      by Nwell s = refl
      by Pwell s = refl
      by Deepnwell s = refl
      by Deeppwell s = refl

  sides-are : (passes k : ℕ) (gs : List PgPin) → list_all (λ x. is_some (switch_side passes x.0 x.1)) (numbered k (map (pg_pin_view texts) gs)) ≡ have_sides passes k gs
  sides-are passes k [] = refl
  sides-are passes k (g ∷ gs) = λ i. side-is passes k g i && sides-are passes (k + 1) gs i

  -- ---- switches

  moved : (s p a f : Bool) → (s && (p && (a && f))) ≡ (s && (f && (p && a)))
  moved false p a f = refl
  moved true false a true = refl
  moved true false a false = refl
  moved true true false true = refl
  moved true true false false = refl
  moved true true true true = refl
  moved true true true false = refl

  module _ (n : SwitchNeed) (one : length n.on.variables ≡ 1) (c : Cell) where
    pins-join : (q : Option Pin) (s : Option Switched) → pins_switch texts (complement n.on) c.pgs q s ≡ switches_with (switch_need texts n) (cell_view texts c) (option_map (pin_view texts) q) (option_map (switched_view texts) s)
    pins-join None s = refl
    pins-join (Some q) None = refl
    pins-join (Some q) (Some s) =
        (λ i. is_switch_pin (pin_view [] q) && ((q.power == s.passes) && (sym (sides-are s.passes 0 c.pgs) i && complements (text_at texts q.name.0) n.on.steps n.on.variables texts s.off one i)))
        ∙ moved (is_switch_pin (pin_view [] q)) (q.power == s.passes) (list_all (λ x. is_some (switch_side s.passes x.0 x.1)) (numbered 0 (map (pg_pin_view texts) c.pgs))) (is_complement (text_at texts q.name.0) (expr_view texts n.on) (expr_view texts s.off))

    grouped : (u o s p : Bool) → ((u && (o && s)) && p) ≡ (u && (o && (s && p)))
    grouped false o s p = refl
    grouped true false s p = refl
    grouped true true s p = refl

    fits-join : switch_fits texts (complement n.on) c ≡ fits_switch (switch_need texts n) (cell_view texts c)
    fits-join =
        grouped (not (is_some c.unusable)) c.roles.switch (not (is_some c.state)) (pins_switch texts (complement n.on) c.pgs (only (filter (has_part Control) c.pins)) (only_switched c.pgs))
        ∙ (λ i.
        not (is_some c.unusable)
        && (c.roles.switch
        && (not (some-seen texts (state_view texts) c.state i)
        && (pins-join (only (filter (has_part Control) c.pins)) (only_switched c.pgs)
        ∙ (λ j. switches_with (switch_need texts n) (cell_view texts c) (part-seen texts Control is_input_pin (λ q. refl) c.pins j) (only-seen c j))) i)))

  -- the test of a cell by texts
  abbrev Fitting : SwitchNeed → CellView → Bool
  Fitting n c = is_mapped (mapped_view texts n.list) c && fits_switch (switch_need texts n) c

  areas-join : (n : SwitchNeed) → length n.on.variables ≡ 1 → (cells : List Cell) → switch_areas texts n cells ≡ map (area_if (Fitting n)) (map (cell_view texts) cells)
  areas-join n one [] = refl
  areas-join n one (c ∷ cells) = λ i. (if listed texts n.list c i && fits-join n one c i then Some c.area else None) ∷ areas-join n one cells i

  -- the first of the least areas is the choice
  pub switch-areas-choice : (n : SwitchNeed) → length n.on.variables ≡ 1 → (cells : List Cell) → least_place (switch_areas texts n cells) ≡ switch_choice (switch_need texts n) (map (cell_view texts) cells)
  switch-areas-choice n one cells = ap least_place (areas-join n one cells) ∙ least-is-choice (Fitting n) (map (cell_view texts) cells)
