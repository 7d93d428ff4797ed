-- Each operator that is written in an instance is the one that the placement has there for some operator of the plan.
use Rattle.std.proofs.Common.{◌≡◌, ℕ, zero, suc, ◌+◌, Bool, true, false, ◌&&◌, cond, List, [], ◌∷◌, length, map, take, Option, Some, None, inl, inr, refl, sym, ap, ◌∙◌, subst, arith}
use Rattle.std.specs.Prelude.{slice_get, filter, flat_map, is_some, unwrap_or, option_and_then}
use Rattle.std.proofs.lemmas.Bool.{false≢true}
use Rattle.lp_model.specs.NetlistView.{ModuleView}
use Rattle.lp_spec_design.specs.Keys.{Name, Path, same_path, Way, same_way}
use Rattle.lp_spec_design.specs.Netlists.{module_at}
use Rattle.lp_spec_design.specs.Graph.{numbered, some_of, and_more}
use Rattle.lp_spec_design.specs.Domains.{boundary, way_of}
use Rattle.lp_spec_design.specs.Winners.{IsIn}
use Rattle.lp_spec_design.specs.Reads.{one, path-true}
use Rattle.lp_spec_design.proofs.Members.{in-map, in-flat, of-flat, of-filter, of-some}
use Rattle.lp_spec_realises.specs.Projects.{Project}
use Rattle.lp_spec_realises.specs.Operators.{OperatorAt, operators_of_bit, all_operators, chain_of, placed_operator}
use Rattle.lp_spec_realises.specs.Implements.{Lists}
use Rattle.lp_spec_written.specs.Places.{Standing, standing, plan}
use Rattle.lp_spec_written.specs.Nets.{operators_there, Linked, linked}
use Rattle.lp_spec_written.specs.Written.{additions, named_operators}
use Rattle.lp_spec_hub.specs.Spots.{on_way}
use Rattle.lp_spec_hub.specs.Entries.{HasWaysApart, HasItsCells}
use Rattle.lp_spec_wired.specs.Names.{place_on, instance_on, operator_at, placement_of}
use Rattle.lp_spec_written_at.specs.Sources.{IsFree}
use Rattle.lp_spec_written_at.proofs.Modules.{in-instances, cells-listed}
use Rattle.lp_spec_written_at.proofs.Picked.{of-map-get, map-filter}
use Rattle.lp_spec_written_at.proofs.Stretched.{in-instance, of-way, linked-operators}
use Rattle.lp_spec_written_at.proofs.Instances.{instances-apart, is-standing, is-planned}
use Rattle.lp_spec_written_at.proofs.Placed.{standing_in, all-named}
use Rattle.lp_spec_written_at.proofs.Stands.{map-get, on-bit, way-self}
use Rattle.lp_spec_written_at.proofs.SourceCells.{in-filter}

-- ---- places in lists

index-of : {A : Type 0} (xs : List A) (x : A) → IsIn x xs → (n : ℕ) × (slice_get xs n ≡ Some x)
index-of [] x h = absurd h
index-of (y ∷ xs) x (inl is) = (0, ap (λ z. Some z) (sym is))
index-of (y ∷ xs) x (inr h) = let found = index-of xs x h in (suc found.0, found.1)

-- where one stands among those that are kept, so many before it are kept
unpick : {A : Type 0} (t : A → Bool) (xs : List A) (n : ℕ) (x : A) → slice_get (filter t xs) n ≡ Some x → (k : ℕ) × (slice_get xs k ≡ Some x) × (length (filter t (take k xs)) ≡ n)
unpick t [] n x e = absurd cc
unpick t (y ∷ xs) n x e = by (t y) refl n e (λ j g. unpick t xs j x g)
  where
    by : (b : Bool) → t y ≡ b → (n : ℕ) → slice_get (cond b (y ∷ filter t xs) (filter t xs)) n ≡ Some x
        → ((j : ℕ) → slice_get (filter t xs) j ≡ Some x → (k : ℕ) × (slice_get xs k ≡ Some x) × (length (filter t (take k xs)) ≡ j))
        → (k : ℕ) × (slice_get (y ∷ xs) k ≡ Some x) × (length (filter t (take k (y ∷ xs))) ≡ n)
    by true is zero g more = (0, g, refl)
    by true is (suc n) g more = let found = more n g in (suc found.0, found.1, ap (λ b. length (cond b (y ∷ filter t (take found.0 xs)) (filter t (take found.0 xs)))) is ∙ ap suc found.2)
    by false is n g more = let found = more n g in (suc found.0, found.1, ap (λ b. length (cond b (y ∷ filter t (take found.0 xs)) (filter t (take found.0 xs)))) is ∙ found.2)

unsome : {A B : Type 0} (f : A → Option B) (xs : List A) (k : ℕ) (y : B) → ((z : A) → IsIn z xs → is_some (f z) ≡ true) → slice_get (some_of f xs) k ≡ Some y → (x : A) × (slice_get xs k ≡ Some x) × (f x ≡ Some y)
unsome f [] k y all e = absurd cc
unsome f (z ∷ xs) k y all e = by (f z) refl (all z (inl refl)) k e (λ j g. unsome f xs j y (λ u h. all u (inr h)) g)
  where
    by : (o : Option _) → f z ≡ o → is_some o ≡ true → (k : ℕ) → slice_get (and_more o (some_of f xs)) k ≡ Some y
        → ((j : ℕ) → slice_get (some_of f xs) j ≡ Some y → (x : _) × (slice_get xs j ≡ Some x) × (f x ≡ Some y))
        → (x : _) × (slice_get (z ∷ xs) k ≡ Some x) × (f x ≡ Some y)
    by None is some k g more = absurd (false≢true some)
    by (Some v) is some zero g more = (z, refl, is ∙ g)
    by (Some v) is some (suc k) g more = more k g

some-same : {A : Type 0} (u v : A) → Some u ≡ Some v → u ≡ v
some-same u v e = cc

numbered-get : {A : Type 0} (j : ℕ) (xs : List A) (k : ℕ) (y : ℕ × A) → slice_get (numbered j xs) k ≡ Some y → y.0 ≡ j + k
numbered-get j [] k y e = absurd cc
numbered-get j (x ∷ xs) zero y e = let same : y.0 ≡ j = ap (λ q. q.0) (sym (some-same (j, x) y e)) in omega (arith, same)
numbered-get j (x ∷ xs) (suc k) y e = let same = numbered-get (j + 1) xs k y e in omega (arith, same)

-- ---- each written operator

module _ (p : Project) (l : Lists) (f : IsFree p) (ways : HasWaysApart p) (cells : HasItsCells p l) where
  abbrev all : List Standing
  all = (plan p l).operators

  -- on its way it has the number of its place
  number-is : (k : ℕ) (s : Standing) → IsIn s.asked.bit (boundary p.structure p.intent) → slice_get (on_way all (way_of s.asked.bit)) k ≡ Some s → (s.asked.number ≡ k)
  number-is k s bit at =
      let b = s.asked.bit in
      let found = unsome (standing p l) (operators_of_bit p b) k s (λ z h. cells z (in-flat (operators_of_bit p) b z (boundary p.structure p.intent) bit h)) (ap (λ r. slice_get r k) (sym (on-bit p l ways (way_of b) b bit (way-self b))) ∙ at) in
      let made = of-map-get (λ x. record { bit = b; number = x.0; operator = x.1 }) (numbered 0 (chain_of p b)) k found.0 found.1 in
      let number = numbered-get 0 (chain_of p b) k made.0 made.1 in
      let first : s.asked.number ≡ made.0.0 = ap (λ (r : OperatorAt). r.number) ((is-standing p l found.0 s found.2).asked ∙ sym made.2) in
      omega (arith, first, number)

  module _ (x : Path) (m : ModuleView) (e : module_at p.structure x ≡ Some m) (y : Name × Linked) (h : IsIn y (named_operators (linked p (additions p l).chains x))) where
    abbrev named : List (Name × Linked)
    named = named_operators (linked p (additions p l).chains x)

    abbrev s : Standing
    s = standing_in y

    abbrev w : Way
    w = way_of s.asked.bit

    abbrev on : Standing → Bool
    on r = same_way (way_of r.asked.bit) w

    abbrev here : List Standing
    here = on_way all w

    standings : map standing_in named ≡ flat_map (operators_there (plan p l) x) (boundary p.structure p.intent)
    standings =
        all-named (linked p (additions p l).chains x)
        ∙ (linked-operators p (plan p l) x ∙ in-instance p (plan p l) x (instances-apart p.structure f.apart) (in-instances p (additions p l) f (cells-listed p l) x m e))

    there : IsIn s all × (s.path ≡ x)
    there =
        let found = of-flat (operators_there (plan p l) x) s (boundary p.structure p.intent) (subst (λ r. IsIn s r) standings (in-map standing_in y named h)) in
        let kept = of-filter (λ (r : Standing). same_path r.path x && same_way (way_of r.asked.bit) (way_of found.0)) s all found.2 in
        (kept.0, path-true s.path x (one (same_path s.path x) (same_way (way_of s.asked.bit) (way_of found.0)) kept.1))

    abbrev kept : List (Name × Linked)
    kept = filter (λ (z : Name × Linked). on (standing_in z)) named

    place : (n : ℕ) × (slice_get kept n ≡ Some y)
    place = index-of kept y (in-filter (λ (z : Name × Linked). on (standing_in z)) named y h (way-self s.asked.bit))

    bit : IsIn s.asked.bit (boundary p.structure p.intent)
    bit = (is-planned p l s there.0).bit

    on-way : (k : ℕ) × (slice_get here k ≡ Some s) × (place_on here k x ≡ place.0)
    on-way =
        unpick (λ (r : Standing). same_path r.path x) here place.0 s
        (ap (λ r. slice_get r place.0) (sym (map-filter standing_in on named ∙ (ap (filter on) standings ∙ of-way p (plan p l) x w s.asked.bit ways bit (way-self s.asked.bit))))
        ∙ map-get standing_in kept place.0 y place.1)

    name : instance_on p (additions p l) w x (place_on here on-way.0 x) ≡ y.0
    name = ap (instance_on p (additions p l) w x) on-way.2 ∙ ap (λ r. unwrap_or (option_and_then (λ (z : Name × Linked). Some z.0) r) []) place.1

    pub is-placed : (o : OperatorAt) × IsIn o (all_operators p) × (placed_operator (placement_of p l) o ≡ record { path = x; instance = y.0 })
    is-placed =
        let found = of-some (standing p l) s (all_operators p) there.0 in
        let asked = (is-standing p l found.0 s found.2).asked in
        let at : slice_get here s.asked.number ≡ Some s = ap (slice_get here) (number-is on-way.0 s bit on-way.1) ∙ on-way.1 in
        let made : (placement_of p l).operator w s.asked.number ≡ record { path = s.path; instance = instance_on p (additions p l) w s.path (place_on here s.asked.number s.path) } = ap (operator_at p (additions p l) here w s.asked.number) at in (
          s.asked,
          subst (λ o. IsIn o (all_operators p)) (sym asked) found.1,
          made
              ∙ (ap (λ z. record { path = z; instance = instance_on p (additions p l) w z (place_on here s.asked.number z) }) there.1
              ∙ ap (λ n. record { path = x; instance = n }) (ap (λ k. instance_on p (additions p l) w x (place_on here k x)) (number-is on-way.0 s bit on-way.1) ∙ name)),
        )

pub operators-from-plan : (p : Project) (l : Lists) → IsFree p → HasWaysApart p → HasItsCells p l → (x : Path) (m : ModuleView) → module_at p.structure x ≡ Some m → (y : Name × Linked) → IsIn y (named_operators (linked p (additions p l).chains x)) → (o : OperatorAt) × IsIn o (all_operators p) × (placed_operator (placement_of p l) o ≡ record { path = x; instance = y.0 })
operators-from-plan p l f ways cells x m e y h = is-placed p l f ways cells x m e y h
