-- What an output of a cell instance shows: its function where it is up.
use Rattle.std.proofs.Common.{◌≡◌, ℕ, Bool, true, false, not, ◌&&◌, List, Option, Some, None, refl, sym, ap, ◌∙◌}
use Rattle.std.specs.Prelude.{if◌then◌else◌, option_and_then, slice_get}
use Rattle.std.proofs.lemmas.Bool.{false≢true, eqb-true}
use Rattle.lp_tern.specs.declared.tern.Tern.{Tern}
use Rattle.lp_model.specs.declared.supply.SetOrigins.{SetOrigins}
use Rattle.lp_model.specs.LibraryView.{ExprView, PgPinView, PinView, CellView}
use Rattle.lp_spec_design.specs.Keys.{Name, Path}
use Rattle.lp_spec_design.specs.Winners.{IsIn}
use Rattle.lp_spec_design.specs.Settled.{Registers, kept, output_by}
use Rattle.lp_spec_pins.specs.Pins.{Powered, PinAssignment, state_from, state_of_pg, state_of_ground, related, pins_read, is_data, input_for, is_up, is_unfit_at, is_unfit, output_at, cell_output_at}
use Rattle.lp_spec_fit.specs.Joins.{Joins, joined_at, is_origin, ground_is, relates_to}
use Rattle.lp_spec_fit.specs.PowerDown.{power_down_equals}
use Rattle.lp_spec_cells.specs.Sound.{is_down_of, IsSound}
use Rattle.lp_spec_cells.specs.Joined.{Comes, OriginStates, PgIsJoined, IsJoinedBy, Apart, Stands, all_on}
use Rattle.lp_spec_cells.proofs.Names.{named-itself, get-numbered}
use Rattle.lp_spec_cells.proofs.Clamps.{sound-down}
use Rattle.lp_spec_cells.proofs.PoweredUp.{up_where_on}

pub and-true : (b : Bool) → (b && true) ≡ b
and-true true = refl
and-true false = refl

module _ (w : Powered) (B : PinAssignment) (path : Path) (x : Name) (c : CellView) (source : Comes) (join : Joins) (st : OriginStates)
    (joined : IsJoinedBy w path x c source join) (stands : Stands B source st) where
  -- a power or ground pin that is joined to an origin has the state of this
  pub state-of-joined : (k o : ℕ) → is_origin o (joined_at c join k) ≡ true → state_of_pg w B path x (slice_get c.pgs k) ≡ st o
  state-of-joined k o e = by (slice_get c.pgs k) refl e
    where
      same : (g : PgPinView) (j : PgIsJoined w path x source join k g) → is_origin o (join k g) ≡ true → j.origin ≡ o
      same g j f = sym (eqb-true o j.origin (sym (ap (is_origin o) j.joins) ∙ f))

      by : (g : Option PgPinView) → slice_get c.pgs k ≡ g → is_origin o (option_and_then (join k) g) ≡ true → state_of_pg w B path x g ≡ st o
      by None at f = absurd (false≢true f)
      by (Some g) at f =
          let j = joined.each k g (get-numbered c.pgs k g at) in
          ap (state_from B) (j.pin ∙ sym j.comes) ∙ (stands j.origin ∙ ap st (same g j f))

  -- the related supply of a pin whose related pins are joined to a set is this set's
  pub related-is : (set : SetOrigins) (q : PinView) → relates_to c join set q ≡ true → related w B path x c q ≡ record { power = st set.power.0; gnd = st set.gnd.0 }
  related-is set q e = by (is_origin set.power.0 (joined_at c join q.power)) refl e
    where
      at-ground : (g : Option ℕ) → ground_is c join set.gnd.0 g ≡ true → state_of_ground w B path x c g ≡ st set.gnd.0
      at-ground None f = absurd (false≢true f)
      at-ground (Some k) f = state-of-joined k set.gnd.0 f

      by : (b : Bool) → is_origin set.power.0 (joined_at c join q.power) ≡ b → (if b then ground_is c join set.gnd.0 q.gnd else false) ≡ true → related w B path x c q ≡ record { power = st set.power.0; gnd = st set.gnd.0 }
      by true f g = λ i. record { power = state-of-joined q.power set.power.0 f i; gnd = at-ground q.gnd g i }
      by false f g = absurd (false≢true g)

module _ (w : Powered) (B : PinAssignment) (path : Path) (x : Name) (c : CellView) (sound : IsSound c) where
  -- an output that is up and that of no shifter outside its ranges has its function
  pub shows-at : (regs : Registers) (y : PinView) (up : Bool) (v : Tern) → is_up w B path x c y.power_down ≡ up → is_unfit w B path x c y ≡ false
      → output_by c (pins_read w B path x c) (regs path x) y.function ≡ v → output_at w B regs path x c (Some y) ≡ kept up v
  shows-at regs y up v is_up_so fits is_so = (λ i. kept (is_up_so i && not (fits i)) (is_so i)) ∙ ap (λ b. kept b v) (and-true up)

  pub shows : (regs : Registers) (y : PinView) → IsIn y c.pins → (up : Bool) (v : Tern) → is_up w B path x c y.power_down ≡ up → is_unfit w B path x c y ≡ false
      → output_by c (pins_read w B path x c) (regs path x) y.function ≡ v → cell_output_at w B regs path x y.name (Some c) ≡ kept up v
  shows regs y m up v is_up_so fits is_so = ap (output_at w B regs path x c) (named-itself c y sound.names_apart m) ∙ shows-at regs y up v is_up_so fits is_so

  -- only a shifter is outside its ranges
  pub never-outside : (y : PinView) → c.roles.shifter ≡ None → is_unfit w B path x c y ≡ false
  never-outside y none = ap (λ f. is_unfit_at w B path x c y f (input_for is_data c)) none

  module _ (source : Comes) (join : Joins) (st : OriginStates) (joined : IsJoinedBy w path x c source join) (stands : Stands B source st) where
    -- an output that is lost exactly with some sets is up where they are on
    pub output-up : Apart source → (y : PinView) → IsIn y c.pins → (sets : List SetOrigins) → power_down_equals c join sets y.power_down ≡ true → is_up w B path x c y.power_down ≡ all_on st sets
    output-up apart y m sets equals = by y.power_down equals (λ e at. sound-down c y e sound m at)
      where
        by : (o : Option ExprView) → power_down_equals c join sets o ≡ true → ((e : ExprView) → o ≡ Some e → is_down_of c e ≡ true) → is_up w B path x c o ≡ all_on st sets
        by None f down = absurd (false≢true f)
        by (Some e) f down = up_where_on w B path x c source join st joined apart stands sets e f (down e refl)
