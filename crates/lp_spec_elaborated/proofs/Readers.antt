-- A netlist as it is read has sound wires where the lines of the table of faults hold nowhere.
use Rattle.std.proofs.Common.{◌≡◌, Bool, true, false, not, ◌||◌, cond, List, [], ◌∷◌, map, Option, Some, None, inl, inr, refl, sym, ap, ◌∙◌, subst}
use Rattle.std.specs.Prelude.{is_some, bytes_eq, option_and_then}
use Rattle.std.specs.List.{list_all}
use Rattle.std.proofs.lemmas.Bool.{false≢true, true≢false}
use Rattle.lp_text.specs.Texts.{distinct, has_text, distinct-append_left, distinct-append_right}
use Rattle.lp_model.specs.declared.reason.Reason.{Reason}
use Rattle.lp_model.specs.NetlistView.{InstanceView, ModuleView}
use Rattle.lp_model.specs.LibraryView.{CellView, PinView, PgPinView}
use Rattle.lp_spec_design.specs.Keys.{Name}
use Rattle.lp_spec_design.specs.Netlists.{Structure, first, module_at, module_named, cell_named, cell_at, instance_named}
use Rattle.lp_spec_design.specs.Instances.{Placed}
use Rattle.lp_spec_design.specs.Nodes.{DeclaresBits}
use Rattle.lp_spec_design.specs.Reads.{one, other, name-self}
use Rattle.lp_spec_design.specs.Winners.{IsIn}
use Rattle.lp_spec_design.proofs.Members.{in-map, in-flat, any-in}
use Rattle.lp_spec_design.proofs.Sources.{then_is, first_in}
use Rattle.lp_spec_faults.specs.Lines.{first_of, HasFirst}
use Rattle.lp_spec_faults.specs.Modules.{InstanceAt, instances_of, all_instances, unfit_reason, unfit_cell}
use Rattle.lp_spec_faults.specs.Wires.{width, two_drivers, wire_loop}
use Rattle.lp_spec_faults.proofs.Loops.{has_first}
use Rattle.lp_cells.specs.Reasons.{all_names, is_visible, is_free}
use Rattle.lp_cells.specs.Sound.{has_names, passes, is_sound_cell}
use Rattle.lp_spec_bridge.specs.Keyed.{IsApart}
use Rattle.lp_spec_bridge.specs.Names.{HasNamesApart}
use Rattle.lp_spec_bridge.proofs.Distinct.{module-in}
use Rattle.lp_drivers.proofs.Single.{single-bits}
use Rattle.lp_spec_elaborated.specs.Elaborated.{HasPinsApart, HasSoundWires}
use Rattle.lp_spec_elaborated.proofs.Lists.{none-any}

told-apart : (names : List Name) → distinct names ≡ true → IsApart names
told-apart [] e = tt
told-apart (n ∷ names) e = (
  (λ h. true≢false (sym (one (not (has_text n names)) (distinct names) e) ∙ ap not (any-in (bytes_eq n) n names h (name-self n)))),
  told-apart names (other (not (has_text n names)) (distinct names) e),
)

in-list : {A : Type 0} (p : A → Bool) (xs : List A) (x : A) → list_all p xs ≡ true → IsIn x xs → p x ≡ true
in-list p [] x e h = absurd h
in-list p (y ∷ xs) x e (inl is) = ap p is ∙ one (p y) (list_all p xs) e
in-list p (y ∷ xs) x e (inr h) = in-list p xs x (other (p y) (list_all p xs) e) h

usable-by : (c : CellView) (o : Option Reason) → c.unusable ≡ o → is_some (unfit_reason c) ≡ false → o ≡ None
usable-by c None e h = refl
usable-by c (Some r) e h = absurd (false≢true (sym h ∙ rw e refl))

passed : (c : CellView) → is_sound_cell c ≡ true → c.unusable ≡ None → passes c ≡ true
unfolding is_sound_cell
passed c e none = sym (ap (λ o. is_some o || passes c) none) ∙ e

module _ (s : Structure) (cells : list_all is_sound_cell s.cells ≡ true) (fit : first_of (unfit_cell s) ≡ None) where
  names-distinct : (a : Placed) (c : CellView) → cell_at s a.path a.instance ≡ Some c → distinct (all_names c.pins c.pgs) ≡ true
  names-distinct a c is =
      let m = then_is (λ (m : ModuleView). option_and_then (λ (x : InstanceView). cell_named s x.target) (instance_named m a.instance)) (module_at s a.path) c is in
      let y = then_is (λ (x : InstanceView). cell_named s x.target) (instance_named m.0 a.instance) c m.2 in
      let found = first_in (λ (x : InstanceView). bytes_eq x.name a.instance) m.0.instances y.0 y.1 in
      let place : InstanceAt = record { parent = m.0; instance = y.0 } in
      let there : IsIn place (all_instances s) = in-flat instances_of m.0 place s.modules (module-in s a.path m.0 m.1) (in-map (λ i. record { parent = m.0; instance = i }) y.0 m.0.instances found.0) in
      let none = none-any (unfit_cell s).test (all_instances s) place (subst (HasFirst (unfit_cell s)) fit (has_first (unfit_cell s))) there in
      let fits : is_some (unfit_reason c) ≡ false = ap (λ o. is_some (option_and_then unfit_reason o)) (sym y.2) ∙ none in
      let usable = usable-by c c.unusable refl fits in
      let sound = passed c (in-list is_sound_cell s.cells c cells (listed y.0.target c y.2)) usable in
      let named = one (has_names c) _ sound in
      other (list_all is_visible (all_names c.pins c.pgs)) (distinct (all_names c.pins c.pgs)) (other (is_free c.name) _ named)
    where
      listed : (n : Name) (c : CellView) → cell_named s n ≡ Some c → IsIn c s.cells
      listed n c e = by (is_some (module_named s n)) refl
        where
          by : (b : Bool) → is_some (module_named s n) ≡ b → IsIn c s.cells
          by true f = let no_ : None ≡ Some c = sym (ap (λ b. cond b None (first (λ (d : CellView). bytes_eq d.name n) s.cells)) f) ∙ e in absurd cc
          by false f = (first_in (λ (d : CellView). bytes_eq d.name n) s.cells c (sym (ap (λ b. cond b None (first (λ (d : CellView). bytes_eq d.name n) s.cells)) f) ∙ e)).0

  pub has-pins-apart : HasPinsApart s
  has-pins-apart = record {
    pins = λ a c is. told-apart (map (λ (q : PinView). q.name) c.pins) (distinct-append_left (map (λ (q : PinView). q.name) c.pins) (map (λ (g : PgPinView). g.name) c.pgs) (names-distinct a c is));
    pgs = λ a c is. told-apart (map (λ (g : PgPinView). g.name) c.pgs) (distinct-append_right (map (λ (q : PinView). q.name) c.pins) (map (λ (g : PgPinView). g.name) c.pgs) (names-distinct a c is));
  }

pub has-sound-wires : (s : Structure) → HasNamesApart s → DeclaresBits s → list_all is_sound_cell s.cells ≡ true → first_of (width s) ≡ None → first_of (unfit_cell s) ≡ None → first_of (two_drivers s) ≡ None → first_of (wire_loop s) ≡ None → HasSoundWires s
has-sound-wires s names declares cells even fit drivers loops = record { names = names; declares = declares; bits = single-bits s even; pins = has-pins-apart s cells fit; drivers = drivers; loops = loops }
