-- An instance's cell has few pins.
use Rattle.std.proofs.Common.{◌≡◌, ◌≤◌, ◌+◌, Bool, true, false, ◌||◌, List, [], ◌∷◌, length, Option, Some, None, inl, inr, refl, sym, ap, ◌∙◌, arith}
use Rattle.std.specs.Prelude.{is_some, nat_le, option_and_then}
use Rattle.std.specs.List.{list_all}
use Rattle.std.proofs.lemmas.Bool.{false≢true, leb-true}
use Rattle.lp_model.specs.declared.reason.Reason.{Reason}
use Rattle.lp_model.specs.NetlistView.{InstanceView, ModuleView}
use Rattle.lp_model.specs.LibraryView.{CellView}
use Rattle.lp_spec_design.specs.Netlists.{Structure, cell_named}
use Rattle.lp_spec_design.specs.Winners.{IsIn}
use Rattle.lp_spec_design.specs.Reads.{one, other}
use Rattle.lp_spec_design.proofs.Members.{in-map, in-flat}
use Rattle.lp_spec_faults.specs.Lines.{first_of}
use Rattle.lp_spec_faults.specs.Modules.{InstanceAt, instances_of, all_instances, unfit_reason, unfit_cell}
use Rattle.lp_cells.specs.Sound.{has_names, has_parts, passes, is_sound_cell}
use Rattle.lp_spec_numbered.proofs.Faults.{first-none}

usable-by : (c : CellView) (o : Option Reason) → c.unusable ≡ o → is_some (unfit_reason c) ≡ false → o ≡ None
usable-by c None e h = refl
usable-by c (Some r) e h = absurd (false≢true (sym h ∙ rw e refl))

passed : (c : CellView) → is_sound_cell c ≡ true → c.unusable ≡ None → passes c ≡ true
unfolding is_sound_cell
passed c e none = sym (ap (λ o. is_some o || passes c) none) ∙ e

pins-few : (c : CellView) → passes c ≡ true → length c.pins + length c.pgs ≤ 248
pins-few c e =
    let a = other (has_names c) _ e in
    let pgs = leb-true (length c.pgs) 8 (one (nat_le (length c.pgs) 8) _ a) in
    let b = other (nat_le (length c.pgs) 8) _ a in
    let pins = leb-true (length c.pins) 240 (one (nat_le (length c.pins) 240) (has_parts c) b) in
    omega (arith, pgs, pins)

all-at : {A : Type 0} (p : A → Bool) (xs : List A) (x : A) → list_all p xs ≡ true → IsIn x xs → p x ≡ true
all-at p [] x e h = absurd h
all-at p (y ∷ xs) x e (inl is) = ap p is ∙ one (p y) (list_all p xs) e
all-at p (y ∷ xs) x e (inr h) = all-at p xs x (other (p y) (list_all p xs) e) h

module _ (s : Structure) (fit : first_of (unfit_cell s) ≡ None) (sound : list_all is_sound_cell s.cells ≡ true) where
  pub fit-pins : (m : ModuleView) (y : InstanceView) (c : CellView) → IsIn m s.modules → IsIn y m.instances → cell_named s y.target ≡ Some c → IsIn c s.cells → length c.pins + length c.pgs ≤ 248
  fit-pins m y c hm hy named hc =
      let place : InstanceAt = record { parent = m; instance = y } in
      let there : IsIn place (all_instances s) = in-flat instances_of m place s.modules hm (in-map (λ i. record { parent = m; instance = i }) y m.instances hy) in
      let fits : is_some (unfit_reason c) ≡ false = ap (λ o. is_some (option_and_then unfit_reason o)) (sym named) ∙ first-none (unfit_cell s).test (all_instances s) place fit there in
      pins-few c (passed c (all-at is_sound_cell s.cells c sound hc) (usable-by c c.unusable refl fits))
