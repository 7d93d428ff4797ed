-- Each operator stands where it has to, by a cell that fits, and so does each switch.
use Rattle.std.proofs.Common.{◌≡◌, ◌≤◌, ℕ, zero, suc, ◌+◌, ◌==◌, Bool, true, false, ◌&&◌, cond, List, [], ◌∷◌, ◌++◌, length, map, Option, Some, None, inl, inr, refl, sym, ap, ◌∙◌, subst, arith}
use Rattle.std.specs.Prelude.{slice_get, filter, flat_map, is_some, option_and_then, bytes_eq, if◌then◌else◌}
use Rattle.std.specs.List.{list_all}
use Rattle.std.proofs.lemmas.Bool.{false≢true, eq-eqb, eqb-true}
use Rattle.lp_model.specs.declared.supply.SetOrigins.{SetOrigins}
use Rattle.lp_model.specs.LibraryView.{CellView}
use Rattle.lp_spec_design.specs.Keys.{Path, same_path, same_index, Way, same_way}
use Rattle.lp_spec_design.specs.Netlists.{Structure, module_at}
use Rattle.lp_spec_design.specs.Graph.{numbered, some_of, and_more}
use Rattle.lp_spec_design.specs.Intents.{Strategy, Origin, FromPort, FromSwitch}
use Rattle.lp_spec_design.specs.Domains.{BoundaryBit, boundary, way_of}
use Rattle.lp_spec_design.specs.Chains.{Operator, Clamp, Shift}
use Rattle.lp_spec_design.specs.Winners.{IsIn}
use Rattle.lp_spec_design.specs.Reads.{one, other, both, name-self, path-self}
use Rattle.lp_spec_design.proofs.Members.{in-flat, of-flat, of-map, of-some, of-numbered}
use Rattle.lp_spec_design.proofs.Sources.{then_is, first_in}
use Rattle.lp_spec_network.specs.Pairs.{pairs_of}
use Rattle.lp_spec_fit.specs.Choice.{is_mapped}
use Rattle.lp_spec_fit.specs.Fits.{fits_clamp, fits_shifter, fits_switch}
use Rattle.lp_spec_realises.specs.Projects.{Project, network_of, functions_of, on_expression}
use Rattle.lp_spec_realises.specs.ProjectNetlists.{are_apart}
use Rattle.lp_spec_realises.specs.Operators.{OperatorAt, operators_of_bit, all_operators, chain_of, SwitchAt, switches_among, all_switches, placed_operator, placed_switch}
use Rattle.lp_spec_realises.specs.Realises.{cell_of, passed_by, primary_at, clamp_fits, shifter_fits, operator_fits, switch_fits, operator_stands, switch_stands}
use Rattle.lp_spec_realises.specs.Implements.{Lists, clamp_chosen, shifter_chosen, operator_chosen, switch_chosen, operator_path, is_path, is_of, is_chosen, operator_as_chosen, switch_as_chosen}
use Rattle.lp_spec_written.specs.Places.{Standing, Switching, standing, cell_numbered, switching, plan, switches_in}
use Rattle.lp_spec_written.specs.Supplies.{switch_of}
use Rattle.lp_spec_written.specs.Nets.{linked}
use Rattle.lp_spec_written.specs.Written.{additions}
use Rattle.lp_spec_hub.specs.Spots.{on_way}
use Rattle.lp_spec_hub.specs.Entries.{HasWaysApart, HasItsCells}
use Rattle.lp_spec_wired.specs.Contents.{IsWrittenAt}
use Rattle.lp_spec_wired.specs.Names.{placement_of}
use Rattle.lp_spec_written_at.specs.Sources.{IsFree, HasSwitchCells}
use Rattle.lp_spec_written_at.proofs.Lists.{some-first, in-some, all-of}
use Rattle.lp_spec_written_at.proofs.Usable.{fits-chosen}
use Rattle.lp_spec_written_at.proofs.Paths.{some-is}
use Rattle.lp_spec_written_at.proofs.Picked.{none-more, flat-same, filter-flat, filter-none}
use Rattle.lp_spec_written_at.proofs.Instances.{IsStanding, is-standing}
use Rattle.lp_spec_written_at.proofs.Placed.{operator-placed}
use Rattle.lp_spec_written_at.proofs.Switches.{switch-placed}

-- ---- lists

filter-all : {A : Type 0} (t : A → Bool) (xs : List A) → ((x : A) → IsIn x xs → t x ≡ true) → filter t xs ≡ xs
filter-all t [] all = refl
filter-all t (x ∷ xs) all = ap (λ b. cond b (x ∷ filter t xs) (filter t xs)) (all x (inl refl)) ∙ ap (λ r. x ∷ r) (filter-all t xs (λ y h. all y (inr h)))

pub kept-some : {A : Type 0} (t : A → Bool) (a : A) (xs : List A) → IsIn a xs → t a ≡ true → 1 ≤ length (filter t xs)
kept-some t a [] h e = absurd h
kept-some t a (x ∷ xs) h e = by (t x) refl h (λ r. kept-some t a xs r e)
  where
    by : (b : Bool) → t x ≡ b → IsIn a (x ∷ xs) → (IsIn a xs → 1 ≤ length (filter t xs)) → 1 ≤ length (cond b (x ∷ filter t xs) (filter t xs))
    by true is g more = omega arith
    by false is (inl here) more = absurd (false≢true (sym is ∙ (ap t (sym here) ∙ e)))
    by false is (inr there) more = more there

none-at : {A B : Type 0} (t : A → Bool) (f : A → List B) (xs : List A) → length (filter t xs) ≤ 0 → flat_map (λ x. if t x then f x else []) xs ≡ []
none-at t f [] h = refl
none-at t f (x ∷ xs) h = by (t x) h (none-at t f xs)
  where
    by : (b : Bool) → length (cond b (x ∷ filter t xs) (filter t xs)) ≤ 0 → (length (filter t xs) ≤ 0 → flat_map (λ y. if t y then f y else []) xs ≡ []) → (if b then f x else []) ++ flat_map (λ y. if t y then f y else []) xs ≡ []
    by true g more = absurd (omega (arith, g))
    by false g more = more g

-- at most one member gives a list
one-at : {A B : Type 0} (t : A → Bool) (f : A → List B) (a : A) (xs : List A) → IsIn a xs → t a ≡ true → length (filter t xs) ≤ 1 → flat_map (λ x. if t x then f x else []) xs ≡ f a
one-at t f a [] h e few = absurd h
one-at t f a (x ∷ xs) h e few = by (t x) refl few h (λ g. one-at t f a xs g e)
  where
    by : (b : Bool) → t x ≡ b → length (cond b (x ∷ filter t xs) (filter t xs)) ≤ 1 → IsIn a (x ∷ xs) → (IsIn a xs → length (filter t xs) ≤ 1 → flat_map (λ y. if t y then f y else []) xs ≡ f a) → (if b then f x else []) ++ flat_map (λ y. if t y then f y else []) xs ≡ f a
    by true is g (inl here) more = ap (λ q. f x ++ q) (none-at t f xs (omega (arith, g))) ∙ (none-more (f x) ∙ ap f (sym here))
    by true is g (inr there) more = let some = kept-some t a xs there e in absurd (omega (arith, g, some))
    by false is g (inl here) more = absurd (false≢true (sym is ∙ (ap t (sym here) ∙ e)))
    by false is g (inr there) more = more there g

some-append : {A B : Type 0} (f : A → Option B) (xs ys : List A) → some_of f (xs ++ ys) ≡ some_of f xs ++ some_of f ys
some-append f [] ys = refl
some-append f (x ∷ xs) ys = by (f x) (some-append f xs ys)
  where
    by : (o : Option _) → some_of f (xs ++ ys) ≡ some_of f xs ++ some_of f ys → and_more o (some_of f (xs ++ ys)) ≡ and_more o (some_of f xs) ++ some_of f ys
    by None g = g
    by (Some y) g = ap (λ r. y ∷ r) g

some-flat : {A B C : Type 0} (f : B → Option C) (g : A → List B) (xs : List A) → some_of f (flat_map g xs) ≡ flat_map (λ x. some_of f (g x)) xs
some-flat f g [] = refl
some-flat f g (x ∷ xs) = some-append f (g x) (flat_map g xs) ∙ ap (λ r. some_of f (g x) ++ r) (some-flat f g xs)

some-at : {A B : Type 0} (f : A → Option B) (xs : List A) (k : ℕ) (x : A) (y : B) → ((z : A) → IsIn z xs → is_some (f z) ≡ true) → slice_get xs k ≡ Some x → f x ≡ Some y → slice_get (some_of f xs) k ≡ Some y
some-at f [] k x y all e g = absurd cc
some-at f (z ∷ xs) k x y all e g = by (f z) refl (all z (inl refl)) k e (λ j h. some-at f xs j x y (λ u i. all u (inr i)) h g)
  where
    by : (o : Option _) → f z ≡ o → is_some o ≡ true → (k : ℕ) → slice_get (z ∷ xs) k ≡ Some x → ((j : ℕ) → slice_get xs j ≡ Some x → slice_get (some_of f xs) j ≡ Some y) → slice_get (and_more o (some_of f xs)) k ≡ Some y
    by None is some k at more = absurd (false≢true some)
    by (Some v) is some zero at more = let same : z ≡ x = cc in sym is ∙ (ap f same ∙ g)
    by (Some v) is some (suc k) at more = more k at

number-at : {A : Type 0} (k : ℕ) (xs : List A) (y : ℕ × A) → IsIn y (numbered k xs) → (i : ℕ) × (y.0 ≡ k + i) × (slice_get (numbered k xs) i ≡ Some y)
number-at k [] y h = absurd h
number-at k (z ∷ xs) y (inl is) = let same : y.0 ≡ k = ap (λ q. q.0) is in (0, omega (arith, same), ap (λ q. Some q) (sym is))
number-at k (z ∷ xs) y (inr h) = let more = number-at (k + 1) xs y h in let same = more.1 in (suc more.0, omega (arith, same), more.2)

number-of : {A : Type 0} (k : ℕ) (xs : List A) (x : A) → IsIn x xs → (y : ℕ × A) × IsIn y (numbered k xs) × (y.1 ≡ x)
number-of k [] x h = absurd h
number-of k (z ∷ xs) x (inl is) = ((k, z), inl refl, sym is)
number-of k (z ∷ xs) x (inr h) = let more = number-of (k + 1) xs x h in (more.0, inr more.1, more.2)

pub map-get : {A B : Type 0} (f : A → B) (xs : List A) (k : ℕ) (x : A) → slice_get xs k ≡ Some x → slice_get (map f xs) k ≡ Some (f x)
map-get f [] k x e = absurd cc
map-get f (y ∷ xs) zero x e = let is : y ≡ x = cc in ap (λ z. Some (f z)) is
map-get f (y ∷ xs) (suc k) x e = map-get f xs k x e

-- ---- ways

index-self : (i : Option ℕ) → same_index i i ≡ true
index-self None = refl
index-self (Some i) = eq-eqb i i refl

pub way-self : (b : BoundaryBit) → same_way (way_of b) (way_of b) ≡ true
way-self b = both (bytes_eq b.port.name b.port.name) (same_index b.index b.index && same_path b.path b.path) (name-self b.port.name) (both (same_index b.index b.index) (same_path b.path b.path) (index-self b.index) (path-self b.path))

-- ---- the operators of a bit

module _ (p : Project) (l : Lists) where
  abbrev on : Way → Standing → Bool
  on w o = same_way (way_of o.asked.bit) w

  abbrev of_bit : BoundaryBit → List Standing
  of_bit b = some_of (standing p l) (operators_of_bit p b)

  bit-of : (b : BoundaryBit) (s : Standing) → IsIn s (of_bit b) → s.asked.bit ≡ b
  bit-of b s h =
      let found = of-some (standing p l) s (operators_of_bit p b) h in
      let is = is-standing p l found.0 s found.2 in
      let made = of-map (λ x. record { bit = b; number = x.0; operator = x.1 }) found.0 (numbered 0 (chain_of p b)) found.1 in
      ap (λ (o : OperatorAt). o.bit) is.asked ∙ ap (λ (o : OperatorAt). o.bit) made.2

  way-bit : (w : Way) (c : BoundaryBit) (t : Bool) → same_way (way_of c) w ≡ t → filter (on w) (of_bit c) ≡ (if t then of_bit c else [])
  way-bit w c true e = filter-all (on w) (of_bit c) (λ s h. ap (λ (b : BoundaryBit). same_way (way_of b) w) (bit-of c s h) ∙ e)
  way-bit w c false e = filter-none (on w) (of_bit c) (λ s h. ap (λ (b : BoundaryBit). same_way (way_of b) w) (bit-of c s h) ∙ e)

  pub on-bit : HasWaysApart p → (w : Way) (b : BoundaryBit) → IsIn b (boundary p.structure p.intent) → same_way (way_of b) w ≡ true → on_way (plan p l).operators w ≡ of_bit b
  on-bit ways w b h e =
      ap (filter (on w)) (some-flat (standing p l) (operators_of_bit p) (boundary p.structure p.intent))
      ∙ (filter-flat (on w) of_bit (boundary p.structure p.intent)
      ∙ (flat-same (λ c. filter (on w) (of_bit c)) (λ c. if same_way (way_of c) w then of_bit c else []) (boundary p.structure p.intent) (λ c g. way-bit w c (same_way (way_of c) w) refl)
      ∙ one-at (λ (c : BoundaryBit). same_way (way_of c) w) of_bit b (boundary p.structure p.intent) h e (ways w)))

  number-place : (b : BoundaryBit) (o : OperatorAt) → IsIn o (operators_of_bit p b) → slice_get (operators_of_bit p b) o.number ≡ Some o
  number-place b o h =
      let made = of-map (λ x. record { bit = b; number = x.0; operator = x.1 }) o (numbered 0 (chain_of p b)) h in
      let at = number-at 0 (chain_of p b) made.0 made.1 in
      let number : o.number ≡ made.0.0 = ap (λ (r : OperatorAt). r.number) made.2 in
      let same : o.number ≡ at.0 = omega (arith, number, at.1) in
      ap (slice_get (operators_of_bit p b)) same
      ∙ (map-get (λ x. record { bit = b; number = x.0; operator = x.1 }) (numbered 0 (chain_of p b)) at.0 made.0 at.2
      ∙ ap (λ r. Some r) (sym made.2))

  pub at-number : HasWaysApart p → HasItsCells p l → (o : OperatorAt) → IsIn o (all_operators p) → (s : Standing) × (slice_get (on_way (plan p l).operators (way_of o.bit)) o.number ≡ Some s) × IsStanding p l o s
  at-number ways cells o h =
      let at = of-flat (operators_of_bit p) o (boundary p.structure p.intent) h in
      let made = of-map (λ x. record { bit = at.0; number = x.0; operator = x.1 }) o (numbered 0 (chain_of p at.0)) at.2 in
      let bit : o.bit ≡ at.0 = ap (λ (r : OperatorAt). r.bit) made.2 in
      let its = some-is (standing p l o) (cells o h) in
      let self : same_way (way_of at.0) (way_of o.bit) ≡ true = ap (λ b. same_way (way_of at.0) (way_of b)) bit ∙ way-self at.0 in (
        its.0,
        ap (λ r. slice_get r o.number) (on-bit ways (way_of o.bit) at.0 at.1 self)
            ∙ some-at (standing p l) (operators_of_bit p at.0) o.number o its.0 (λ z g. cells z (in-all at.0 at.1 z g)) (number-place at.0 o at.2) its.1,
        is-standing p l o its.0 its.1,
      )
    where
      in-all : (b : BoundaryBit) → IsIn b (boundary p.structure p.intent) → (z : OperatorAt) → IsIn z (operators_of_bit p b) → IsIn z (all_operators p)
      in-all b u z v = in-flat (operators_of_bit p) b z (boundary p.structure p.intent) u v

-- ---- what is chosen fits

module _ (p : Project) (l : Lists) where
  clamp-chosen : (path : Path) (t : ℕ) (s q : Option SetOrigins) (r : Option Strategy) (c : CellView) → cell_numbered p (clamp_chosen p l path t s q r) ≡ Some c → clamp_fits s q r c ≡ true
  clamp-chosen path t (Some s) (Some q) (Some r) c e =
      other (is_mapped (l.of_strategy t) c) (fits_clamp (record { supply = s; place = q; clamp = r.clamp; high = r.high; mapped = l.of_strategy t }) c)
      (fits-chosen (λ k. is_mapped (l.of_strategy t) k && fits_clamp (record { supply = s; place = q; clamp = r.clamp; high = r.high; mapped = l.of_strategy t }) k) p.structure.cells c e)
  clamp-chosen path t None q r c e = absurd cc
  clamp-chosen path t (Some s) None r c e = absurd cc
  clamp-chosen path t (Some s) (Some q) None c e = absurd cc

  shifter-chosen : (t : ℕ) (a b : Option SetOrigins) (c : CellView) → cell_numbered p (shifter_chosen p l t a b) ≡ Some c → shifter_fits p a b c ≡ true
  shifter-chosen t (Some a) (Some b) c e =
      other (is_mapped (l.of_strategy t) c) (fits_shifter (record { input = a; output = b; pairs = pairs_of p.supplies a.power.0 b.power.0; margin = p.margin; mapped = l.of_strategy t }) c)
      (fits-chosen (λ k. is_mapped (l.of_strategy t) k && fits_shifter (record { input = a; output = b; pairs = pairs_of p.supplies a.power.0 b.power.0; margin = p.margin; mapped = l.of_strategy t }) k) p.structure.cells c e)
  shifter-chosen t None b c e = absurd cc
  shifter-chosen t (Some a) None c e = absurd cc

  operator-fits : (path : Path) (o : Operator) (c : CellView) → cell_numbered p (operator_chosen p l path o) ≡ Some c → operator_fits p path o c ≡ true
  operator-fits path (Clamp t i) c e = clamp-chosen path t (functions_of p (Some i)) (primary_at p path) (slice_get p.intent.strategies t) c e
  operator-fits path (Shift t a b) c e = shifter-chosen t (functions_of p (Some a)) (functions_of p (Some b)) c e

  switch-fits : (x : SwitchAt) (c : CellView) → cell_numbered p (switch_chosen p l x) ≡ Some c → switch_fits x c ≡ true
  switch-fits x c e =
      other (is_mapped (l.of_switch x.origin) c) (fits_switch (record { on = on_expression x.high; mapped = l.of_switch x.origin }) c)
      (fits-chosen (λ k. is_mapped (l.of_switch x.origin) k && fits_switch (record { on = on_expression x.high; mapped = l.of_switch x.origin }) k) p.structure.cells c e)

-- ---- each operator

module _ (p : Project) (l : Lists) (w : Structure) (f : IsFree p) (apart : are_apart (map (λ (k : CellView). k.name) p.structure.cells) ≡ true) (ways : HasWaysApart p) (cells : HasItsCells p l) (is : IsWrittenAt p (additions p l) w) (few : (x : Path) → length (linked p (additions p l).chains x) ≤ 1000000000) where
  pub operators-stand : list_all (operator_stands p w (placement_of p l)) (all_operators p) ≡ true
  operators-stand = all-of (operator_stands p w (placement_of p l)) (all_operators p) stand
    where
      stand : (o : OperatorAt) → IsIn o (all_operators p) → operator_stands p w (placement_of p l) o ≡ true
      stand o h =
          let its = at-number p l ways cells o h in
          let at = operator-placed p l w f apart ways is few (way_of o.bit) o.number its.0 its.1 in
          let place = placed_operator (placement_of p l) o in
          ap (passed_by (operator_fits p place.path o.operator)) at.1
          ∙ (ap (λ y. operator_fits p y o.operator its.0.cell) at.0
          ∙ operator-fits p l its.0.path o.operator its.0.cell its.2.cell)

  pub operators-chosen : list_all (operator_as_chosen p w l (placement_of p l)) (all_operators p) ≡ true
  operators-chosen = all-of (operator_as_chosen p w l (placement_of p l)) (all_operators p) chosen
    where
      chosen : (o : OperatorAt) → IsIn o (all_operators p) → operator_as_chosen p w l (placement_of p l) o ≡ true
      chosen o h =
          let its = at-number p l ways cells o h in
          let at = operator-placed p l w f apart ways is few (way_of o.bit) o.number its.0 its.1 in
          let place = placed_operator (placement_of p l) o in
          both (is_path place.path (operator_path p o)) (is_chosen p w place (operator_chosen p l place.path o.operator))
          (ap (λ y. is_path y (operator_path p o)) at.0 ∙ (ap (is_path its.0.path) its.2.path ∙ path-self its.0.path))
          (ap (λ y. is_chosen p w place (operator_chosen p l y o.operator)) at.0
          ∙ (ap (λ c. is_of c (cell_numbered p (operator_chosen p l its.0.path o.operator))) at.1
          ∙ (ap (is_of (Some its.0.cell)) its.2.cell ∙ name-self its.0.cell.name)))

-- ---- each switch

pub origin-least : (k : ℕ) (xs : List Origin) (a : SwitchAt) → IsIn a (switches_among (numbered k xs)) → k ≤ a.origin
origin-least k [] a h = absurd h
origin-least k (FromPort ∷ xs) a h = let more = origin-least (k + 1) xs a h in omega (arith, more)
origin-least k (FromSwitch i c g ∷ xs) a (inl is) = let same : a.origin ≡ k = ap (λ (r : SwitchAt). r.origin) is in omega (arith, same)
origin-least k (FromSwitch i c g ∷ xs) a (inr h) = let more = origin-least (k + 1) xs a h in omega (arith, more)

origin-tells : (k : ℕ) (xs : List Origin) (a b : SwitchAt) → IsIn a (switches_among (numbered k xs)) → IsIn b (switches_among (numbered k xs)) → a.origin ≡ b.origin → a ≡ b
origin-tells k [] a b h g e = absurd h
origin-tells k (FromPort ∷ xs) a b h g e = origin-tells (k + 1) xs a b h g e
origin-tells k (FromSwitch i c v ∷ xs) a b (inl h) (inl g) e = h ∙ sym g
origin-tells k (FromSwitch i c v ∷ xs) a b (inl h) (inr g) e = let same : a.origin ≡ k = ap (λ (r : SwitchAt). r.origin) h in let more = origin-least (k + 1) xs b g in absurd (omega (arith, same, more, e))
origin-tells k (FromSwitch i c v ∷ xs) a b (inr h) (inl g) e = let same : b.origin ≡ k = ap (λ (r : SwitchAt). r.origin) g in let more = origin-least (k + 1) xs a h in absurd (omega (arith, same, more, e))
origin-tells k (FromSwitch i c v ∷ xs) a b (inr h) (inr g) e = origin-tells (k + 1) xs a b h g e

-- what is asked for is what stands, in its scope, with the cell that was chosen
pub record IsSwitching (p : Project) (l : Lists) (x : SwitchAt) (s : Switching) : Type 0 where
  pub asked : s.asked ≡ x
  pub path : s.path ≡ l.scope_of_switch x.origin
  pub cell : cell_numbered p (switch_chosen p l x) ≡ Some s.cell

pub is-switching : (p : Project) (l : Lists) (y : ℕ × SwitchAt) (s : Switching) → switching p l y ≡ Some s → IsSwitching p l y.1 s
is-switching p l y s e =
    let found = then_is (λ c. Some (record { asked = y.1; number = y.0; path = l.scope_of_switch y.1.origin; cell = c })) (cell_numbered p (switch_chosen p l y.1)) s e in
    let made : Some (record { asked = y.1; number = y.0; path = l.scope_of_switch y.1.origin; cell = found.0 }) ≡ Some s = found.2 in
    inside found.0 found.1 (record { asked = y.1; number = y.0; path = l.scope_of_switch y.1.origin; cell = found.0 }) refl refl refl made
  where
    inside : (c : CellView) → cell_numbered p (switch_chosen p l y.1) ≡ Some c → (t : Switching) → t.asked ≡ y.1 → t.path ≡ l.scope_of_switch y.1.origin → t.cell ≡ c → Some t ≡ Some s → IsSwitching p l y.1 s
    inside c chosen t one two three both =
        let same : t ≡ s = cc in
        record {
          asked = ap (λ (r : Switching). r.asked) (sym same) ∙ one;
          path = ap (λ (r : Switching). r.path) (sym same) ∙ two;
          cell = chosen ∙ ap (λ r. Some r) (sym three ∙ ap (λ (r : Switching). r.cell) same);
        }

module _ (p : Project) (l : Lists) (cells : HasSwitchCells p l) where
  pub switch-there : (x : SwitchAt) → IsIn x (all_switches p) → (s : Switching) × (switch_of (plan p l) x.origin ≡ Some s) × IsSwitching p l x s
  switch-there x h =
      let y = number-of 0 (all_switches p) x h in
      let cell = some-is (cell_numbered p (switch_chosen p l y.0.1)) (ap (λ z. is_some (cell_numbered p (switch_chosen p l z))) y.2 ∙ cells.chosen x h) in
      let asked : switching p l y.0 ≡ Some (record { asked = y.0.1; number = y.0.0; path = l.scope_of_switch y.0.1.origin; cell = cell.0 }) = ap (λ o. option_and_then (λ c. Some (record { asked = y.0.1; number = y.0.0; path = l.scope_of_switch y.0.1.origin; cell = c })) o) cell.1 in
      let of_origin = λ (z : Switching). z.asked.origin == x.origin in
      let listed = in-some (switching p l) y.0 (record { asked = y.0.1; number = y.0.0; path = l.scope_of_switch y.0.1.origin; cell = cell.0 }) (numbered 0 (all_switches p)) y.1 asked in
      let passes : (y.0.1.origin == x.origin) ≡ true = eq-eqb y.0.1.origin x.origin (ap (λ (z : SwitchAt). z.origin) y.2) in
      let found = some-is (switch_of (plan p l) x.origin) (some-first of_origin (record { asked = y.0.1; number = y.0.0; path = l.scope_of_switch y.0.1.origin; cell = cell.0 }) (plan p l).switches listed passes) in
      let there = first_in of_origin (plan p l).switches found.0 found.1 in
      let from = of-some (switching p l) found.0 (numbered 0 (all_switches p)) there.0 in
      let is = is-switching p l from.0 found.0 from.2 in
      let origin : from.0.1.origin ≡ x.origin = ap (λ (z : SwitchAt). z.origin) (sym is.asked) ∙ eqb-true found.0.asked.origin x.origin there.1 in
      let same : from.0.1 ≡ x = origin-tells 0 (network_of p).origins from.0.1 x (of-numbered 0 from.0 (all_switches p) from.1) h origin in
      (found.0, found.1, subst (λ z. IsSwitching p l z found.0) same is)

  module _ (w : Structure) (f : IsFree p) (apart : are_apart (map (λ (k : CellView). k.name) p.structure.cells) ≡ true) (is : IsWrittenAt p (additions p l) w) (few : (x : Path) → length (switches_in (plan p l) x) ≤ 1000000000) where
    placed : (x : SwitchAt) (h : IsIn x (all_switches p)) (s : Switching) → switch_of (plan p l) x.origin ≡ Some s → IsSwitching p l x s
        → (((placement_of p l).switch x.origin).path ≡ s.path) × (cell_of w ((placement_of p l).switch x.origin) ≡ Some s.cell)
    placed x h s at its =
        let scope = some-is (module_at p.structure (l.scope_of_switch x.origin)) (cells.scope x h) in
        switch-placed p l w f apart is x.origin s at scope.0 (ap (module_at p.structure) its.path ∙ scope.1) (few s.path)

    pub switches-stand : list_all (switch_stands w (placement_of p l)) (all_switches p) ≡ true
    switches-stand = all-of (switch_stands w (placement_of p l)) (all_switches p) stand
      where
        stand : (x : SwitchAt) → IsIn x (all_switches p) → switch_stands w (placement_of p l) x ≡ true
        stand x h =
            let its = switch-there x h in
            ap (passed_by (switch_fits x)) (placed x h its.0 its.1 its.2).1 ∙ switch-fits p l x its.0.cell its.2.cell

    pub switches-chosen : list_all (switch_as_chosen p w l (placement_of p l)) (all_switches p) ≡ true
    switches-chosen = all-of (switch_as_chosen p w l (placement_of p l)) (all_switches p) chosen
      where
        chosen : (x : SwitchAt) → IsIn x (all_switches p) → switch_as_chosen p w l (placement_of p l) x ≡ true
        chosen x h =
            let its = switch-there x h in
            let at = placed x h its.0 its.1 its.2 in
            let place = placed_switch (placement_of p l) x in
            both (same_path place.path (l.scope_of_switch x.origin)) (is_chosen p w place (switch_chosen p l x))
            (ap (λ y. same_path y (l.scope_of_switch x.origin)) (at.0 ∙ its.2.path) ∙ path-self (l.scope_of_switch x.origin))
            (ap (λ c. is_of c (cell_numbered p (switch_chosen p l x))) at.1 ∙ (ap (is_of (Some its.0.cell)) its.2.cell ∙ name-self its.0.cell.name))
