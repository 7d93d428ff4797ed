-- Which operator, which switch or which cell of the source stands at a cell instance of the netlist.
use Rattle.std.proofs.Common.{◌≡◌, ℕ, Bool, true, false, not, ◌&&◌, ◌||◌, List, [], ◌∷◌, ◌++◌, map, Option, Some, None, inl, inr, refl, sym, ap, ◌∙◌, subst, arith}
use Rattle.std.specs.Prelude.{◌==◌, length, is_some, if◌then◌else◌, option_and_then, slice_get}
use Rattle.std.specs.List.{list_any}
use Rattle.std.proofs.lemmas.Bool.{and_parts, and_from, not-true, false≢true, or_parts}
use Rattle.std.proofs.lemmas.List.Folds.{list_any-append}
use Rattle.lp_model.specs.LibraryView.{SwitchedView, PinView, CellView}
use Rattle.lp_model.specs.declared.supply.SetOrigins.{SetOrigins}
use Rattle.lp_spec_design.specs.Keys.{Path, Node, same_path}
use Rattle.lp_spec_design.specs.Netlists.{Structure, first, cell_at}
use Rattle.lp_spec_design.specs.Instances.{Placed}
use Rattle.lp_spec_design.specs.Graph.{numbered}
use Rattle.lp_spec_design.specs.Intents.{Origin, FromPort, FromSwitch, Strategy}
use Rattle.lp_spec_design.specs.Chains.{Operator, Clamp, Shift}
use Rattle.lp_spec_design.specs.Winners.{IsIn}
use Rattle.lp_spec_design.specs.Reads.{name-true, name-self, path-true, path-self}
use Rattle.lp_spec_design.proofs.Members.{in-map, in-right, any-in}
use Rattle.lp_spec_design.proofs.Sources.{first_in}
use Rattle.lp_spec_pins.specs.Pins.{is_data, input_for}
use Rattle.lp_spec_network.specs.Pairs.{pairs_of}
use Rattle.lp_spec_fit.specs.Needs.{ClampNeed, ShifterNeed, SwitchCellNeed}
use Rattle.lp_spec_fit.specs.Joins.{Joins, clamp_joins}
use Rattle.lp_spec_fit.specs.Fits.{fits_with_pins, shifts_with_pins, switches_with, one_output, is_usable, only_isolates, only_shifts, takes_pairs, is_iso_data, is_iso_enable}
use Rattle.lp_spec_realises.specs.Projects.{Project, network_of, functions_of}
use Rattle.lp_spec_realises.specs.Operators.{OperatorAt, SwitchAt, switches_among, all_switches, Placement, placed_operator}
use Rattle.lp_spec_realises.specs.Ends.{AtPin, output_end}
use Rattle.lp_spec_realises.specs.Realises.{same_placed, are_distinct, cell_of, passed_by, clamp_fits, shifter_fits, operator_fits, primary_at, operator_stands}
use Rattle.lp_spec_agreement.proofs.Chains.{in_numbered}

-- ---- instances that are distinct

pub placed-true : (a b : Placed) → same_placed a b ≡ true → a ≡ b
placed-true a b e = λ r. record { path = path-true a.path b.path (and_parts _ _ e).1 r; instance = name-true a.instance b.instance (and_parts _ _ e).0 r }

pub placed-self : (a : Placed) → same_placed a a ≡ true
placed-self a = ap (λ t. t && same_path a.path a.path) (name-self a.instance) ∙ path-self a.path

pub distinct_left : (xs ys : List Placed) → are_distinct (xs ++ ys) ≡ true → are_distinct xs ≡ true
distinct_left [] ys e = refl
distinct_left (x ∷ xs) ys e =
    let both = and_parts _ _ e in
    and_from _ _ (ap not (or_parts _ _ (sym (list_any-append (same_placed x) xs ys) ∙ not-true _ both.0)).0) (distinct_left xs ys both.1)

pub distinct_right : (xs ys : List Placed) → are_distinct (xs ++ ys) ≡ true → are_distinct ys ≡ true
distinct_right [] ys e = e
distinct_right (x ∷ xs) ys e = distinct_right xs ys (and_parts _ _ e).1

-- what stands in the first part does not stand in the second
pub distinct_apart : (xs ys : List Placed) → are_distinct (xs ++ ys) ≡ true → (a : Placed) → IsIn a xs → IsIn a ys → ⊥
distinct_apart [] ys e a h g = h
distinct_apart (x ∷ xs) ys e a (inl is) g = false≢true (sym (not-true _ (and_parts _ _ e).0) ∙ any-in (same_placed x) a (xs ++ ys) (in-right a xs ys g) (ap (λ z. same_placed z a) (sym is) ∙ placed-self a))
distinct_apart (x ∷ xs) ys e a (inr h) g = distinct_apart xs ys (and_parts _ _ e).1 a h g

module _ {A : Type 0} (f : A → Placed) where
  same_place : (xs : List A) → are_distinct (map f xs) ≡ true → (a b : A) → IsIn a xs → IsIn b xs → f a ≡ f b → a ≡ b
  same_place [] e a b h g n = absurd h
  same_place (x ∷ xs) e a b (inl is) (inl same) n = is ∙ sym same
  same_place (x ∷ xs) e a b (inl is) (inr g) n = absurd (false≢true (sym (not-true _ (and_parts _ _ e).0) ∙ any-in (same_placed (f x)) (f b) (map f xs) (in-map f b xs g) (ap (λ m. same_placed m (f b)) (ap f (sym is) ∙ n) ∙ placed-self (f b))))
  same_place (x ∷ xs) e a b (inr h) (inl same) n = absurd (false≢true (sym (not-true _ (and_parts _ _ e).0) ∙ any-in (same_placed (f x)) (f a) (map f xs) (in-map f a xs h) (ap (λ m. same_placed m (f a)) (ap f (sym same) ∙ sym n) ∙ placed-self (f a))))
  same_place (x ∷ xs) e a b (inr h) (inr g) n = same_place xs (and_parts _ _ e).1 a b h g n

  abbrev pub standing : List A → Placed → Option A
  standing xs a = first (λ x. same_placed (f x) a) xs

  pub none_standing : (xs : List A) (a : Placed) → (IsIn a (map f xs) → ⊥) → standing xs a ≡ None
  none_standing xs a apart = by (standing xs a) refl
    where
      by : (o : Option A) → standing xs a ≡ o → standing xs a ≡ None
      by None is = is
      by (Some x) is = let there = first_in (λ y. same_placed (f y) a) xs x is in absurd (apart (subst (λ z. IsIn z (map f xs)) (placed-true (f x) a there.1) (in-map f x xs there.0)))

  pub found_standing : (xs : List A) → are_distinct (map f xs) ≡ true → (a : A) → IsIn a xs → standing xs (f a) ≡ Some a
  found_standing xs e a h = by (standing xs (f a)) refl
    where
      none_passes : (ys : List A) → standing ys (f a) ≡ None → list_any (λ x. same_placed (f x) (f a)) ys ≡ false
      none_passes [] g = refl
      none_passes (y ∷ ys) g = here (same_placed (f y) (f a)) g (none_passes ys)
        where
          here : (t : Bool) → (if t then Some y else standing ys (f a)) ≡ None → (standing ys (f a) ≡ None → list_any (λ x. same_placed (f x) (f a)) ys ≡ false) → (t || list_any (λ x. same_placed (f x) (f a)) ys) ≡ false
          here true q more = absurd cc
          here false q more = more q

      by : (o : Option A) → standing xs (f a) ≡ o → standing xs (f a) ≡ Some a
      by None is = absurd (false≢true (sym (none_passes xs is) ∙ any-in (λ x. same_placed (f x) (f a)) a xs h (placed-self (f a))))
      by (Some x) is = let there = first_in (λ y. same_placed (f y) (f a)) xs x is in is ∙ ap (λ y. Some y) (same_place xs e x a there.0 h (placed-true (f x) (f a) there.1))

-- ---- switches

keep : (x : ℕ × Origin) (xs : List (ℕ × Origin)) (a : SwitchAt) (y : Origin) → x.1 ≡ y → IsIn a (switches_among xs) → IsIn a (switches_among (x ∷ xs))
keep x xs a FromPort e h = rw e h
keep x xs a (FromSwitch i c s) e h = rw e (inr h)

in_switches : (o i : ℕ) (c : Node) (high : Bool) (xs : List (ℕ × Origin)) → IsIn (o, FromSwitch i c high) xs → IsIn (record { origin = o; input = i; control = c; high = high }) (switches_among xs)
in_switches o i c high [] h = absurd h
in_switches o i c high (x ∷ xs) (inl is) = subst (λ z. IsIn (record { origin = o; input = i; control = c; high = high }) (switches_among (z ∷ xs))) is (inl refl)
in_switches o i c high (x ∷ xs) (inr h) = keep x xs (record { origin = o; input = i; control = c; high = high }) x.1 refl (in_switches o i c high xs h)

pub switch_in : (p : Project) (o i : ℕ) (c : Node) (high : Bool) → slice_get (network_of p).origins o ≡ Some (FromSwitch i c high) → IsIn (record { origin = o; input = i; control = c; high = high }) (all_switches p)
switch_in p o i c high e = in_switches o i c high (numbered 0 (network_of p).origins) (in_numbered 0 o (FromSwitch i c high) (network_of p).origins e o (omega arith))

-- ---- cells that fit

pub passed_cell : (test : CellView → Bool) (o : Option CellView) → passed_by test o ≡ true → (c : CellView) × (o ≡ Some c) × (test c ≡ true)
passed_cell test None e = absurd (false≢true e)
passed_cell test (Some c) e = (c, refl, e)

clamp_output : (n : ClampNeed) (c : CellView) (join : Joins) (d e y : Option PinView) → fits_with_pins n c join d e y ≡ true → (q : PinView) × (y ≡ Some q)
clamp_output n c join (Some d) (Some e) (Some y) h = (y, refl)
clamp_output n c join None e y h = absurd (false≢true h)
clamp_output n c join (Some d) None y h = absurd (false≢true h)
clamp_output n c join (Some d) (Some e) None h = absurd (false≢true h)

shifter_output : (n : ShifterNeed) (c : CellView) (d y : Option PinView) → shifts_with_pins n c d y ≡ true → (q : PinView) × (y ≡ Some q)
shifter_output n c (Some d) (Some y) h = (y, refl)
shifter_output n c None y h = absurd (false≢true h)
shifter_output n c (Some d) None h = absurd (false≢true h)

clamp_has_output : (a b : Option SetOrigins) (t : Option Strategy) (c : CellView) → clamp_fits a b t c ≡ true → (q : PinView) × (one_output c ≡ Some q)
clamp_has_output None b t c h = absurd (false≢true h)
clamp_has_output (Some a) None t c h = absurd (false≢true h)
clamp_has_output (Some a) (Some b) None c h = absurd (false≢true h)
clamp_has_output (Some a) (Some b) (Some t) c h =
    let n : ClampNeed = record { supply = a; place = b; clamp = t.clamp; high = t.high; mapped = None } in
    let first = and_parts (is_usable c) _ h in
    let second = and_parts (only_isolates c.roles) _ first.1 in
    let third = and_parts (not (is_some c.state)) _ second.1 in
    let fourth = and_parts (length c.pins == 3) _ third.1 in
    clamp_output n c (clamp_joins a b c) (input_for is_iso_data c) (input_for is_iso_enable c) (one_output c) fourth.1

shifter_has_output : (p : Project) (a b : Option SetOrigins) (c : CellView) → shifter_fits p a b c ≡ true → (q : PinView) × (one_output c ≡ Some q)
shifter_has_output p None b c h = absurd (false≢true h)
shifter_has_output p (Some a) None c h = absurd (false≢true h)
shifter_has_output p (Some a) (Some b) c h =
    let n : ShifterNeed = record { input = a; output = b; pairs = pairs_of p.supplies a.power.0 b.power.0; margin = p.margin; mapped = None } in
    let first = and_parts (is_usable c) _ h in
    let second = and_parts (only_shifts c.roles) _ first.1 in
    let third = and_parts (not (is_some c.state)) _ second.1 in
    let fourth = and_parts (length c.pins == 2) _ third.1 in
    let fifth = and_parts (takes_pairs n.pairs c.roles.shifter) _ fourth.1 in
    shifter_output n c (input_for is_data c) (one_output c) fifth.1

has_output : (p : Project) (path : Path) (o : Operator) (c : CellView) → operator_fits p path o c ≡ true → (q : PinView) × (one_output c ≡ Some q)
has_output p path (Clamp t i) c h = clamp_has_output (functions_of p (Some i)) (primary_at p path) (slice_get p.intent.strategies t) c h
has_output p path (Shift t a b) c h = shifter_has_output p (functions_of p (Some a)) (functions_of p (Some b)) c h

pub output_is : (w : Structure) (a : Placed) (c : CellView) (q : PinView) → cell_of w a ≡ Some c → one_output c ≡ Some q → output_end w a ≡ AtPin a.path a.instance q.name
output_is w a c q e f =
    let one : option_and_then one_output (cell_at w a.path a.instance) ≡ Some q = ap (λ o. option_and_then one_output o) e ∙ f in
    rw one refl

-- the output of the cell that stands for an operator
pub operator_output : (p : Project) (w : Structure) (place : Placement) (o : OperatorAt) → operator_stands p w place o ≡ true
    → (c : CellView) × (q : PinView) × (cell_of w (placed_operator place o) ≡ Some c) × (one_output c ≡ Some q) × (output_end w (placed_operator place o) ≡ AtPin (placed_operator place o).path (placed_operator place o).instance q.name)
operator_output p w place o h =
    let cell = passed_cell (operator_fits p (placed_operator place o).path o.operator) (cell_of w (placed_operator place o)) h in
    let out = has_output p (placed_operator place o).path o.operator cell.0 cell.2 in
    (cell.0, out.0, cell.1, out.1, output_is w (placed_operator place o) cell.0 out.0 cell.1 out.1)

-- ---- the switched pin of the cell that stands for a switch

pub some_switched : (c : CellView) (q : Option PinView) (s : Option SwitchedView) (n : SwitchCellNeed) → switches_with n c q s ≡ true → (v : SwitchedView) × (s ≡ Some v)
some_switched c (Some q) (Some s) n h = (s, refl)
some_switched c None s n h = absurd (false≢true h)
some_switched c (Some q) None n h = absurd (false≢true h)
