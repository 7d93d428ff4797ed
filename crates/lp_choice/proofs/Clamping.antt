-- Clamps over numbers of names, and over their texts.
use Rattle.std.proofs.Common.{◌≡◌, ◌+◌, ℕ, Bool, true, false, not, ◌&&◌, ◌||◌, List, [], ◌∷◌, map, Option, Some, None, Result, Ok, Err, refl, sym, ap, ◌∙◌}
use Rattle.std.specs.Prelude.{IfOk, if◌then◌else◌, bytes_eq, filter, is_some, length, ◌==◌}
use Rattle.std.specs.List.{list_any, list_all}
use Rattle.std.specs.Option.{option_map}
use Rattle.std.proofs.lemmas.List.{length-map}
use Rattle.lp_model.specs.declared.library.PgKind.{PgKind}
use Rattle.lp_model.specs.declared.library.PgKind.TheVariants.{PrimaryPower, PrimaryGround, BackupPower, BackupGround, InternalPower, InternalGround, Nwell, Pwell, Deepnwell, Deeppwell}
use Rattle.lp_model.specs.declared.library.PgPin.{PgPin}
use Rattle.lp_model.specs.declared.library.Pin.{Pin}
use Rattle.lp_spec_design.specs.Graph.{is_output_pin}
use Rattle.lp_spec_pins.specs.Pins.{is_input_pin, only}
use Rattle.lp_spec_fit.specs.Joins.{Joins, all_joined, by_kind, clamp_joins, is_backup_power}
use Rattle.lp_spec_fit.specs.PowerDown.{power_down_equals}
use Rattle.lp_choice.specs.declared.parts.Part.{Part}
use Rattle.lp_choice.specs.declared.parts.Part.TheVariants.{ClampedData, Enable, Output}
use Rattle.lp_choice.specs.Parts.{has_part}
use Rattle.lp_choice.proofs.Joints.{relates-all, joined-all, down-is}
use Rattle.lp_text.specs.Texts.{text_at}
use Rattle.lp_text.specs.declared.names.NameId.{NameId}
use Rattle.lp_expr.specs.Formula.{truth}
use Rattle.lp_model.specs.Agreement.{name_texts}
use Rattle.lp_model.specs.LibraryView.{CellView, PinView, cell_view, expr_view, pg_pin_view, pin_view, state_view, switched_view}
use Rattle.lp_model.specs.declared.library.Cell.{Cell}
use Rattle.lp_model.specs.declared.need.IsoNeed.{IsoNeed}
use Rattle.lp_spec_fit.specs.Needs.{clamp_need, mapped_view}
use Rattle.lp_spec_fit.specs.Fits.{clamps, fits_clamp, fits_with_pins, has_function, is_iso_data, is_iso_enable}
use Rattle.lp_spec_fit.specs.Choice.{is_mapped, clamp_choice}
use Rattle.lp_choice.specs.Wanted.{clamp_steps, of_two, off_steps}
use Rattle.lp_choice.specs.Rails.{down_agrees, placed_origins}
use Rattle.lp_choice.specs.Clamps.{relates, clamp_fits, clamp_origin, is_backup, pins_clamp, only_isolates}
use Rattle.lp_choice.specs.Least.{area_if, least_place}
use Rattle.lp_choice.specs.Chosen.{is_listed, clamp_areas}
use Rattle.lp_choice.proofs.LeastChoice.{least-is-choice}

-- three tests that hold, before one that may be refused
pub ok-more : {E : Type 0} (r : Result Bool E) (x y a b j : Bool) → IfOk r (λ d. d ≡ x) → x ≡ y → a ≡ true → b ≡ true → j ≡ true → IfOk r (λ d. d ≡ (a && (b && (j && y))))
ok-more (Ok d) x y a b j h e ea eb ej = h ∙ (e ∙ sym (λ i. ea i && (eb i && (ej i && y))))
ok-more (Err z) x y a b j h e ea eb ej = tt

-- what a clamp gives, as steps
pub clamp-steps : (clamp high d e : Bool) → truth (clamp_steps clamp high) (d ∷ e ∷ []) ≡ clamps clamp high d e
clamp-steps true true true true = refl
clamp-steps true true true false = refl
clamp-steps true true false true = refl
clamp-steps true true false false = refl
clamp-steps true false true true = refl
clamp-steps true false true false = refl
clamp-steps true false false true = refl
clamp-steps true false false false = refl
clamp-steps false true true true = refl
clamp-steps false true true false = refl
clamp-steps false true false true = refl
clamp-steps false true false false = refl
clamp-steps false false true true = refl
clamp-steps false false true false = refl
clamp-steps false false false true = refl
clamp-steps false false false false = refl

module _ (texts : List (List ℕ)) where
  named-any : (n : List ℕ) (names : List NameId) → list_any (bytes_eq n) (name_texts texts names) ≡ list_any (λ (m : NameId). bytes_eq n (text_at texts m.0)) names
  named-any n [] = refl
  named-any n (m ∷ names) = ap (λ b. bytes_eq n (text_at texts m.0) || b) (named-any n names)

  pub listed : (list : Option (List NameId)) (c : Cell) → is_listed texts list c.name ≡ is_mapped (mapped_view texts list) (cell_view texts c)
  listed None c = refl
  listed (Some names) c = sym (named-any (text_at texts c.name.0) names)

  -- ---- parts of a cell

  pub some-seen : {A B : Type 0} (f : A → B) (o : Option A) → is_some o ≡ is_some (option_map f o)
  some-seen f None = refl
  some-seen f (Some x) = refl

  only-map : {A B : Type 0} (f : A → B) (xs : List A) → option_map f (only xs) ≡ only (map f xs)
  only-map f [] = refl
  only-map f (x ∷ []) = refl
  only-map f (x ∷ y ∷ xs) = refl

  filter-map : {A B : Type 0} (p : B → Bool) (f : A → B) (xs : List A) → map f (filter (λ x. p (f x)) xs) ≡ filter p (map f xs)
  filter-map p f [] = refl
  filter-map p f (x ∷ xs) = by (p (f x)) (filter-map p f xs)
    where
      by : (b : Bool) → map f (filter (λ y. p (f y)) xs) ≡ filter p (map f xs) → map f (if b then x ∷ filter (λ y. p (f y)) xs else filter (λ y. p (f y)) xs) ≡ (if b then f x ∷ filter p (map f xs) else filter p (map f xs))
      by true e = ap (λ ys. f x ∷ ys) e
      by false e = e

  pub part-seen : (part : Part) (p : PinView → Bool) → ((q : Pin) → has_part part q ≡ p (pin_view texts q)) → (pins : List Pin) → option_map (pin_view texts) (only (filter (has_part part) pins)) ≡ only (filter p (map (pin_view texts) pins))
  part-seen part p e pins =
      (λ i. option_map (pin_view texts) (only (filter (λ q. e q i) pins)))
      ∙ (only-map (pin_view texts) (filter (λ q. p (pin_view texts q)) pins)
      ∙ ap only (filter-map p (pin_view texts) pins))

  backup-by : (g : PgPin) → is_backup_power (pg_pin_view texts g) ≡ is_backup g
  backup-by g = by g.kind
    where
      by : (kind : PgKind) → is_backup_power (record { name = text_at texts g.name.0; kind = kind; switched = option_map (switched_view texts) g.switched }) ≡ is_backup (record { name = g.name; kind = kind; switched = g.switched })
      by PrimaryPower = refl
      by PrimaryGround = refl
      by BackupPower = refl
      by BackupGround = refl
      by InternalPower = refl
      by InternalGround = refl
      by Nwell = refl
      by Pwell = refl
      by Deepnwell = refl
      by Deeppwell = refl

  backups-by : (pgs : List PgPin) → list_any is_backup_power (map (pg_pin_view texts) pgs) ≡ list_any is_backup pgs
  backups-by [] = refl
  backups-by (g ∷ pgs) = λ i. backup-by g i || backups-by pgs i

  -- ---- clamps

  and-swap : (a b : Bool) → (a && b) ≡ (b && a)
  and-swap true true = refl
  and-swap true false = refl
  and-swap false true = refl
  and-swap false false = refl

  pub grouped : (u o s l p : Bool) → ((u && (o && (s && l))) && p) ≡ (u && (o && (s && (l && p))))
  grouped false o s l p = refl
  grouped true false s l p = refl
  grouped true true false l p = refl
  grouped true true true false p = refl
  grouped true true true true p = refl

  module _ (n : IsoNeed) (c : Cell) where
    abbrev join : Joins
    join = clamp_joins n.supply n.place (cell_view texts c)

    abbrev origin : PgPin → Option ℕ
    origin g = clamp_origin n (list_any is_backup c.pgs) g

    joins-as : (k : ℕ) (g : PgPin) → join k (pg_pin_view texts g) ≡ origin g
    joins-as k g = λ i. if backups-by c.pgs i then by_kind (Some n.place.power.0) (Some n.supply.power.0) n.place g.kind else by_kind (Some n.supply.power.0) None n.supply g.kind

    by-place : (k : ℕ) (pgs : List PgPin) → map origin pgs ≡ placed_origins (λ j. origin) k pgs
    by-place k [] = refl
    by-place k (g ∷ pgs) = ap (λ os. origin g ∷ os) (by-place (k + 1) pgs)

    abbrev rows : map origin c.pgs ≡ placed_origins (λ j. origin) 0 c.pgs
    rows = by-place 0 c.pgs

    pins-join : (d e y : Option Pin) → pins_clamp texts n c d e y ≡ fits_with_pins (clamp_need texts n) (cell_view texts c) join (option_map (pin_view texts) d) (option_map (pin_view texts) e) (option_map (pin_view texts) y)
    pins-join None e y = refl
    pins-join (Some d) None y = refl
    pins-join (Some d) (Some e) None = refl
    pins-join (Some d) (Some e) (Some y) =
        let names : List (List ℕ) = text_at texts d.name.0 ∷ text_at texts e.name.0 ∷ [] in
        λ i.
        has_function names (λ v. clamp-steps n.clamp n.high (v (text_at texts d.name.0)) (v (text_at texts e.name.0)) i) (option_map (expr_view texts) y.function)
        && (((λ j. list_all (relates (rows j) n.supply) c.pins) ∙ sym (relates-all texts c join (λ j. origin) joins-as n.supply c.pins)) i
        && ((λ j. ((λ k. list_all is_some (rows k)) ∙ sym (joined-all texts c join (λ k. origin) joins-as)) j && ((λ k. down_agrees texts c.pgs (rows k) (n.supply.power.0 ∷ n.supply.gnd.0 ∷ []) (of_two off_steps) y.power_down) ∙ down-is texts c join (λ k. origin) joins-as n.supply y.power_down) j)
        ∙ and-swap (all_joined (cell_view texts c) join) (power_down_equals (cell_view texts c) join (n.supply ∷ []) (option_map (expr_view texts) y.power_down))) i)

    pub fits-join : clamp_fits texts n c ≡ fits_clamp (clamp_need texts n) (cell_view texts c)
    fits-join =
        grouped (not (is_some c.unusable)) (only_isolates c.roles) (not (is_some c.state)) (length c.pins == 3) (pins_clamp texts n c (only (filter (has_part ClampedData) c.pins)) (only (filter (has_part Enable) c.pins)) (only (filter (has_part Output) c.pins)))
        ∙ (λ i.
        not (is_some c.unusable)
        && ((c.roles.iso && (not (is_some c.roles.shifter) && (not (some-seen (expr_view texts) c.roles.retention i) && not c.roles.switch)))
        && (not (some-seen (state_view texts) c.state i)
        && ((sym (length-map c.pins (pin_view texts)) i == 3)
        && (pins-join (only (filter (has_part ClampedData) c.pins)) (only (filter (has_part Enable) c.pins)) (only (filter (has_part Output) c.pins))
        ∙ (λ j. fits_with_pins (clamp_need texts n) (cell_view texts c) join
        (part-seen ClampedData (λ q. is_input_pin q && is_iso_data q) (λ q. refl) c.pins j)
        (part-seen Enable (λ q. is_input_pin q && is_iso_enable q) (λ q. refl) c.pins j)
        (part-seen Output is_output_pin (λ q. refl) c.pins j))) i))))

  -- the test of a cell by texts
  abbrev Fitting : IsoNeed → CellView → Bool
  Fitting n c = is_mapped (mapped_view texts n.list) c && fits_clamp (clamp_need texts n) c

  areas-join : (n : IsoNeed) (cells : List Cell) → clamp_areas texts n cells ≡ map (area_if (Fitting n)) (map (cell_view texts) cells)
  areas-join n [] = refl
  areas-join n (c ∷ cells) = λ i. (if listed n.list c i && fits-join n c i then Some c.area else None) ∷ areas-join n cells i

  -- the first of the least areas is the choice
  pub areas-choice : (n : IsoNeed) (cells : List Cell) → least_place (clamp_areas texts n cells) ≡ clamp_choice (clamp_need texts n) (map (cell_view texts) cells)
  areas-choice n cells = ap least_place (areas-join n cells) ∙ least-is-choice (Fitting n) (map (cell_view texts) cells)
