-- One more operator changes what drives the net bit to which its way leads, and makes its own wire.
use Rattle.std.proofs.Common.{◌≡◌, ◌≤◌, ℕ, zero, suc, Bool, true, false, cond, ◌&&◌, ◌==◌, List, [], ◌∷◌, ◌++◌, length, Option, Some, None, refl, sym, ap, ◌∙◌, arith, length-append}
use Rattle.std.specs.Prelude.{slice_get}
use Rattle.std.proofs.lemmas.Bool.{true≢false, eqb-true, eq-eqb}
use Rattle.std.proofs.lemmas.Option.{slice_get_within}
use Rattle.lp_spec_design.specs.Keys.{Path, Node, Way, same_way, Source, CellPin, SwitchedPin, Environment, From}
use Rattle.lp_spec_design.specs.Intents.{Origin, FromPort, FromSwitch}
use Rattle.lp_spec_design.specs.Graph.{source_of, when}
use Rattle.lp_spec_realises.specs.Projects.{Project, network_of}
use Rattle.lp_spec_written.specs.Places.{Standing, Kept, Switching}
use Rattle.lp_spec_written.specs.Supplies.{Use}
use Rattle.lp_spec_hub.specs.Spots.{Spot, OfNode, Behind, Before, Lead, Carried, Routed, Drive, FromSpot, Done, with_operator, on_way, is_behind, with_register, with_switch}
use Rattle.lp_spec_hub.specs.Drives.{behind_last, passed, drive_by, drive_behind, drive_before, is_led, drive, drive_origin, drive_supply}
use Rattle.lp_spec_hub.specs.Changes.{its_way, its_number, is_from, is_its_own, drive_with}
use Rattle.lp_spec_hub.proofs.Whole.{way-append, append-none}
use Rattle.lp_spec_hub.proofs.Ways.{way-true}

-- ---- one more at the end of a list

get-last : (xs : List Standing) (o : Standing) → slice_get (xs ++ (o ∷ [])) (length xs) ≡ Some o
get-last [] o = refl
get-last (x ∷ xs) o = get-last xs o

get-front : (xs : List Standing) (o : Standing) (k : ℕ) → (k ≡ length xs → ⊥) → slice_get (xs ++ (o ∷ [])) k ≡ slice_get xs k
get-front [] o zero differ = absurd (differ refl)
get-front [] o (suc k) differ = refl
get-front (x ∷ xs) o zero differ = refl
get-front (x ∷ xs) o (suc k) differ = get-front xs o k (λ e. differ (ap suc e))

passed-front : (xs : List Standing) (o : Standing) (v : Way) (j : Node) (k : ℕ) → k ≤ length xs → passed (xs ++ (o ∷ [])) v j k ≡ passed xs v j k
passed-front xs o v j zero h = refl
passed-front xs o v j (suc k) h = ap (behind_last v k) (get-front xs o k (λ e. absurd (omega (arith, h, e))))

differs : (k n : ℕ) → (k == n) ≡ false → k ≡ n → ⊥
differs k n e is = true≢false (sym (eq-eqb k n is) ∙ e)

module _ (p : Project) (a : Done) (from : Way → Node) (o : Standing) where
  abbrev ops : List Standing
  ops = a.plan.operators

  on-its : (v : Way) → same_way (its_way o) v ≡ true → on_way (ops ++ (o ∷ [])) v ≡ on_way ops v ++ (o ∷ [])
  on-its v same = way-append ops (o ∷ []) v ∙ ap (λ b. on_way ops v ++ cond b (o ∷ []) []) same

  on-other : (v : Way) → same_way (its_way o) v ≡ false → on_way (ops ++ (o ∷ [])) v ≡ on_way ops v
  on-other v same = way-append ops (o ∷ []) v ∙ (ap (λ b. on_way ops v ++ cond b (o ∷ []) []) same ∙ append-none (on_way ops v))

  number-is : (v : Way) → same_way (its_way o) v ≡ true → its_number a o ≡ length (on_way ops v)
  number-is v same = ap (λ u. length (on_way ops u)) (way-true (its_way o) v same)

  -- ---- the net bit to which its way leads

  node-by : (x : Source) → Some (drive_by (ops ++ (o ∷ [])) x) ≡ cond (is_from (its_way o) (Some x)) (Some (behind_last (its_way o) (its_number a o) (Some o))) (Some (drive_by ops x))
  node-by (CellPin q i n) = refl
  node-by (SwitchedPin q i n) = refl
  node-by Environment = refl
  node-by (From v j) = by (same_way (its_way o) v) refl
    where
      by : (b : Bool) → same_way (its_way o) v ≡ b → Some (passed (on_way (ops ++ (o ∷ [])) v) v j (length (on_way (ops ++ (o ∷ [])) v))) ≡ cond b (Some (behind_last (its_way o) (its_number a o) (Some o))) (Some (passed (on_way ops v) v j (length (on_way ops v))))
      by true same =
          let size : length (on_way ops v ++ (o ∷ [])) ≡ suc (length (on_way ops v)) = omega (arith, length-append (on_way ops v) (o ∷ [])) in
          ap (λ r. Some (passed r v j (length r))) (on-its v same)
          ∙ (ap (λ m. Some (passed (on_way ops v ++ (o ∷ [])) v j m)) size
          ∙ (ap (λ q. Some (behind_last v (length (on_way ops v)) q)) (get-last (on_way ops v) o)
          ∙ (ap (λ m. Some (behind_last v m (Some o))) (sym (number-is v same))
          ∙ ap (λ u. Some (behind_last u (its_number a o) (Some o))) (sym (way-true (its_way o) v same)))))
      by false same = ap (λ r. Some (passed r v j (length r))) (on-other v same)

  node-with : (k : Node) → drive p (with_operator a o) from (OfNode k) ≡ drive_with p a from o (OfNode k)
  node-with k = by (source_of p.structure k) refl
    where
      by : (x : Option Source) → source_of p.structure k ≡ x
          → elim x as (λ _. Option Drive) [ None ↦ None | Some y ↦ Some (drive_by (ops ++ (o ∷ [])) y) ] ≡ cond (is_from (its_way o) x) (Some (behind_last (its_way o) (its_number a o) (Some o))) (elim x as (λ _. Option Drive) [ None ↦ None | Some y ↦ Some (drive_by ops y) ])
      by None e = refl
      by (Some x) e = node-by x

  -- ---- wires of ways

  -- at its own number or at another one of its way, or on another way
  at-way : (f g : List Standing → Option Drive) (v : Way) (k : ℕ)
      → ((k ≡ length (on_way ops v)) → f (on_way ops v ++ (o ∷ [])) ≡ g (on_way ops v))
      → ((k ≡ length (on_way ops v) → ⊥) → f (on_way ops v ++ (o ∷ [])) ≡ f (on_way ops v))
      → f (on_way (ops ++ (o ∷ [])) v) ≡ cond (is_its_own a o v k) (g (on_way ops v)) (f (on_way ops v))
  at-way f g v k new old = by (same_way (its_way o) v) (k == its_number a o) refl refl
    where
      by : (b c : Bool) → same_way (its_way o) v ≡ b → (k == its_number a o) ≡ c → f (on_way (ops ++ (o ∷ [])) v) ≡ cond (b && c) (g (on_way ops v)) (f (on_way ops v))
      by true true same is = ap f (on-its v same) ∙ new (eqb-true k (its_number a o) is ∙ number-is v same)
      by true false same is = ap f (on-its v same) ∙ old (λ e. differs k (its_number a o) is (e ∙ sym (number-is v same)))
      by false c same is = ap f (on-other v same)

  behind-with : (v : Way) (k : ℕ) → drive p (with_operator a o) from (Behind v k) ≡ drive_with p a from o (Behind v k)
  behind-with v k =
      at-way (λ r. drive_behind v k (slice_get r k)) (λ r. drive_behind v k (Some o)) v k
      (λ e. ap (drive_behind v k) (ap (slice_get (on_way ops v ++ (o ∷ []))) e ∙ get-last (on_way ops v) o))
      (λ differ. ap (drive_behind v k) (get-front (on_way ops v) o k differ))

  before-old : (xs : List Standing) (v : Way) (k : ℕ) (q : Option Standing) → slice_get xs k ≡ q → drive_before (xs ++ (o ∷ [])) v (from v) k q ≡ drive_before xs v (from v) k q
  before-old xs v k None e = refl
  before-old xs v k (Some q) e = let less = slice_get_within xs k q e in ap (when (is_behind q)) (passed-front xs o v (from v) k (omega (arith, less)))

  before-with : (v : Way) (k : ℕ) → drive p (with_operator a o) from (Before v k) ≡ drive_with p a from o (Before v k)
  before-with v k =
      at-way (λ r. drive_before r v (from v) k (slice_get r k)) (λ r. when (is_behind o) (passed r v (from v) k)) v k
      (λ e. ap (drive_before (on_way ops v ++ (o ∷ [])) v (from v) k) (ap (slice_get (on_way ops v ++ (o ∷ []))) e ∙ get-last (on_way ops v) o)
      ∙ ap (when (is_behind o)) (passed-front (on_way ops v) o v (from v) k (omega (arith, e))))
      (λ differ. ap (drive_before (on_way ops v ++ (o ∷ [])) v (from v) k) (get-front (on_way ops v) o k differ) ∙ before-old (on_way ops v) v k (slice_get (on_way ops v) k) refl)

  lead-with : (v : Way) → drive p (with_operator a o) from (Lead v) ≡ drive_with p a from o (Lead v)
  lead-with v =
      at-way (λ r. when (is_led (from v) (slice_get r 0)) (FromSpot (OfNode (from v)))) (λ r. when (is_led (from v) (Some o)) (FromSpot (OfNode (from v)))) v 0
      (λ e. ap (λ q. when (is_led (from v) q) (FromSpot (OfNode (from v)))) (ap (slice_get (on_way ops v ++ (o ∷ []))) e ∙ get-last (on_way ops v) o))
      (λ differ. ap (λ q. when (is_led (from v) q) (FromSpot (OfNode (from v)))) (get-front (on_way ops v) o 0 differ))

  pub one-more : (x : Spot) → drive p (with_operator a o) from x ≡ drive_with p a from o x
  one-more (OfNode k) = node-with k
  one-more (Behind v k) = behind-with v k
  one-more (Before v k) = before-with v k
  one-more (Lead v) = lead-with v
  one-more (Carried q x) = refl
  one-more (Routed t) = refl

-- ---- registers and switches

module _ (p : Project) (a : Done) (from : Way → Node) where
  origin-same : (r : Kept) (all : List Use) (o : ℕ) (x : Path) (origin : Option Origin) → drive_origin (with_register a r) all o x origin ≡ drive_origin a all o x origin
  origin-same r all o x None = refl
  origin-same r all o x (Some FromPort) = refl
  origin-same r all o x (Some (FromSwitch input control high)) = refl

  supply-same : (r : Kept) (o : ℕ) (x : Path) (u : Option (List Use)) → drive_supply p (with_register a r) o x u ≡ drive_supply p a o x u
  supply-same r o x None = refl
  supply-same r o x (Some all) = origin-same r all o x (slice_get (network_of p).origins o)

  -- a register with retention takes the place of another cell
  pub register-same : (r : Kept) (x : Spot) → drive p (with_register a r) from x ≡ drive p a from x
  register-same r (OfNode k) = refl
  register-same r (Behind v k) = refl
  register-same r (Before v k) = refl
  register-same r (Lead v) = refl
  register-same r (Carried o x) = supply-same r o x a.uses
  register-same r (Routed t) = refl

  -- a switch drives nothing before supplies are joined
  pub switch-same : (w : Switching) → a.uses ≡ None → (x : Spot) → drive p (with_switch a w) from x ≡ drive p a from x
  switch-same w none (OfNode k) = refl
  switch-same w none (Behind v k) = refl
  switch-same w none (Before v k) = refl
  switch-same w none (Lead v) = refl
  switch-same w none (Carried o x) = ap (drive_supply p (with_switch a w) o x) none ∙ sym (ap (drive_supply p a o x) none)
  switch-same w none (Routed t) = refl
