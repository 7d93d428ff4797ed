-- Where the wires begin: net bits of the source, and what operators read.
use Rattle.std.proofs.Common.{◌≡◌, ◌<◌, ◌≤◌, ℕ, zero, suc, Bool, true, false, cond, not, ◌&&◌, List, [], ◌∷◌, length, Option, Some, None, refl, sym, ap, ◌∙◌, subst, arith}
use Rattle.std.specs.Prelude.{slice_get}
use Rattle.std.proofs.lemmas.Bool.{true≢false}
use Rattle.std.proofs.lemmas.Option.{slice_get_within}
use Rattle.lp_spec_design.specs.Keys.{Node, Way, Source, CellPin, SwitchedPin, Environment, From}
use Rattle.lp_spec_design.specs.Nodes.{fuel_of, HasFuel}
use Rattle.lp_spec_design.specs.Graph.{source_of, trail, way_in, going_back, when}
use Rattle.lp_spec_realises.specs.Projects.{Project}
use Rattle.lp_spec_written.specs.Places.{Standing}
use Rattle.lp_spec_hub.specs.Spots.{Spot, OfNode, Behind, Before, Lead, Drive, ByOperator, FromSpot, Done, on_way, is_behind}
use Rattle.lp_spec_hub.specs.Drives.{behind_last, passed, drive_by, drive_behind, drive_before, is_fixed, is_led, drive, first_read, read_before, read_by}
use Rattle.lp_spec_hub.specs.Begins.{Begin, InNode, InOperator, begins_by, EndsAt, behind_way, begin_along, begin_of, data_begin}
use Rattle.lp_spec_hub.specs.Entries.{IsInFlow}

got : {A : Type 0} (xs : List A) (k : ℕ) → k < length xs → (x : A) × (slice_get xs k ≡ Some x)
got [] k h = absurd (omega (arith, h))
got (x ∷ xs) zero h = (x, refl)
got (x ∷ xs) (suc k) h = got xs k (omega (arith, h))

pub step-back : (driven : Spot → Option Drive) (x y : Spot) (e : Begin) → driven x ≡ Some (FromSpot y) → EndsAt driven y e → EndsAt driven x e
step-back driven x y e is ends = (suc ends.0, (y, is, ends.1))

module _ (p : Project) (a : Done) (from : Way → Node) where
  -- what an operator before the edge makes begins at its output
  made : (w : Way) (k : ℕ) (o : Standing) → slice_get (on_way a.plan.operators w) k ≡ Some o → is_behind o ≡ false → EndsAt (drive p a from) (Behind w k) (InOperator w k)
  made w k o is before =
      let driven : drive p a from (Behind w k) ≡ Some (ByOperator w k) = ap (drive_behind w k) is ∙ ap (λ b. when (not b) (ByOperator w k)) before in
      (zero, ap (λ d. begins_by d (Behind w k)) driven)

  last_by : (x : Spot) (w : Way) (k : ℕ) (o : Standing) → slice_get (on_way a.plan.operators w) k ≡ Some o → (b : Bool) → is_behind o ≡ b → drive p a from x ≡ Some (cond b (ByOperator w k) (FromSpot (Behind w k))) → EndsAt (drive p a from) x (InOperator w k)
  last_by x w k o is true behind driven = (zero, ap (λ d. begins_by d x) driven)
  last_by x w k o is false before driven = step-back (drive p a from) x (Behind w k) (InOperator w k) driven (made w k o is before)

  -- behind so many operators of a way
  passed-ends : (x : Spot) (w : Way) (j : Node) (e : Begin) (k : ℕ) → k ≤ length (on_way a.plan.operators w) → EndsAt (drive p a from) (OfNode j) e → drive p a from x ≡ Some (passed (on_way a.plan.operators w) w j k) → EndsAt (drive p a from) x (behind_way w k e)
  passed-ends x w j e zero h ends driven = step-back (drive p a from) x (OfNode j) e driven ends
  passed-ends x w j e (suc k) h ends driven =
      let last = got (on_way a.plan.operators w) k (omega (arith, h)) in
      last_by x w k last.0 last.1 (is_behind last.0) refl (driven ∙ ap (λ o. Some (behind_last w k o)) last.1)

  own-ends : (k : Node) → way_in (source_of p.structure k) ≡ None → EndsAt (drive p a from) (OfNode k) (InNode k)
  own-ends k none = (zero, by (source_of p.structure k) none)
    where
      by : (o : Option Source) → way_in o ≡ None → begins_by (elim o as (λ _. Option Drive) [ None ↦ None | Some x ↦ Some (drive_by a.plan.operators x) ]) (OfNode k) ≡ Some (InNode k)
      by None e = refl
      by (Some (CellPin q x n)) e = refl
      by (Some (SwitchedPin q x n)) e = refl
      by (Some Environment) e = refl
      by (Some (From w j)) e = absurd cc

  -- a net bit of the source, where one more way back finds nothing more
  node-ends : (fuel : ℕ) (k : Node) → trail p.structure (suc fuel) k ≡ trail p.structure fuel k → EndsAt (drive p a from) (OfNode k) (begin_along a.plan.operators k (trail p.structure fuel k))
  node-ends zero k enough = own-ends k (by (way_in (source_of p.structure k)) enough)
    where
      by : (o : Option (Way × Node)) → going_back (λ j. trail p.structure zero j) o ≡ [] → o ≡ None
      by None e = refl
      by (Some step) e = absurd cc
  node-ends (suc fuel) k enough = by (source_of p.structure k) refl (λ w j e. node-ends fuel j e)
    where
      stops : way_in (source_of p.structure k) ≡ None → EndsAt (drive p a from) (OfNode k) (begin_along a.plan.operators k (trail p.structure (suc fuel) k))
      stops none = subst (λ o. EndsAt (drive p a from) (OfNode k) (begin_along a.plan.operators k (going_back (λ j. trail p.structure fuel j) o))) (sym none) (own-ends k none)

      by : (o : Option Source) → source_of p.structure k ≡ o
          → ((w : Way) (j : Node) → trail p.structure (suc fuel) j ≡ trail p.structure fuel j → EndsAt (drive p a from) (OfNode j) (begin_along a.plan.operators j (trail p.structure fuel j)))
          → EndsAt (drive p a from) (OfNode k) (begin_along a.plan.operators k (trail p.structure (suc fuel) k))
      by None e more = stops (ap way_in e)
      by (Some (CellPin q x n)) e more = stops (ap way_in e)
      by (Some (SwitchedPin q x n)) e more = stops (ap way_in e)
      by (Some Environment) e more = stops (ap way_in e)
      by (Some (From w j)) e more =
          let there : (n : ℕ) → trail p.structure (suc n) k ≡ (w, j) ∷ trail p.structure n j = λ n. ap (λ o. going_back (λ i. trail p.structure n i) (way_in o)) e in
          let both : (w, j) ∷ trail p.structure (suc fuel) j ≡ (w, j) ∷ trail p.structure fuel j = sym (there (suc fuel)) ∙ (enough ∙ there fuel) in
          let rest : trail p.structure (suc fuel) j ≡ trail p.structure fuel j = cc in
          subst (λ t. EndsAt (drive p a from) (OfNode k) (begin_along a.plan.operators k t)) (sym (there fuel))
          (passed-ends (OfNode k) w j (begin_along a.plan.operators j (trail p.structure fuel j)) (length (on_way a.plan.operators w)) (omega arith) (more w j rest)
          (ap (λ o. elim o as (λ _. Option Drive) [ None ↦ None | Some x ↦ Some (drive_by a.plan.operators x) ]) e))

  module _ (enough : HasFuel p.structure) where
    pub nodes-end : (k : Node) → EndsAt (drive p a from) (OfNode k) (begin_of p.structure a.plan.operators k)
    nodes-end k = node-ends (fuel_of p.structure) k (enough k)

    -- ---- what operators read

    module _ (flows : IsInFlow a.plan.operators) where
      behind-is : (w : Way) (k : ℕ) → behind_way w k (begin_of p.structure a.plan.operators (from w)) ≡ data_begin p.structure a.plan.operators w (from w) k
      behind-is w zero = refl
      behind-is w (suc k) = refl

      first-ends : (w : Way) (o : Standing) → slice_get (on_way a.plan.operators w) 0 ≡ Some o → is_behind o ≡ false → (b : Bool) → is_fixed (from w) ≡ b → EndsAt (drive p a from) (cond b (Lead w) (OfNode (from w))) (begin_of p.structure a.plan.operators (from w))
      first-ends w o is before true fixed =
          step-back (drive p a from) (Lead w) (OfNode (from w)) (begin_of p.structure a.plan.operators (from w))
          (ap (λ r. when (is_led (from w) r) (FromSpot (OfNode (from w)))) is ∙ (ap (λ b. when (not b && is_fixed (from w)) (FromSpot (OfNode (from w)))) before ∙ ap (λ b. when b (FromSpot (OfNode (from w)))) fixed))
          (nodes-end (from w))
      first-ends w o is before false plain = nodes-end (from w)

      before-ends : (w : Way) (k : ℕ) (o : Standing) → slice_get (on_way a.plan.operators w) (suc k) ≡ Some o → is_behind o ≡ false → EndsAt (drive p a from) (Behind w k) (InOperator w k)
      before-ends w k o is before =
          let inside = slice_get_within (on_way a.plan.operators w) (suc k) o is in
          let last = got (on_way a.plan.operators w) k (omega (arith, inside)) in
          made w k last.0 last.1 (by last.0 last.1 (is_behind last.0) refl)
        where
          by : (r : Standing) → slice_get (on_way a.plan.operators w) k ≡ Some r → (b : Bool) → is_behind r ≡ b → b ≡ false
          by r at true behind = absurd (true≢false (sym (flows w k r o at is behind) ∙ before))
          by r at false behind = refl

      read-before : (w : Way) (k : ℕ) (o : Standing) → slice_get (on_way a.plan.operators w) k ≡ Some o → is_behind o ≡ false → EndsAt (drive p a from) (read_by w (from w) k o) (data_begin p.structure a.plan.operators w (from w) k)
      read-before w zero o is before = subst (λ b. EndsAt (drive p a from) (cond b (Before w zero) (first_read w (from w))) (begin_of p.structure a.plan.operators (from w))) (sym before) (first-ends w o is before (is_fixed (from w)) refl)
      read-before w (suc k) o is before = subst (λ b. EndsAt (drive p a from) (cond b (Before w (suc k)) (Behind w k)) (InOperator w k)) (sym before) (before-ends w k o is before)

      read-behind : (w : Way) (k : ℕ) (o : Standing) → slice_get (on_way a.plan.operators w) k ≡ Some o → is_behind o ≡ true → EndsAt (drive p a from) (Before w k) (data_begin p.structure a.plan.operators w (from w) k)
      read-behind w k o is behind =
          let inside = slice_get_within (on_way a.plan.operators w) k o is in
          subst (λ e. EndsAt (drive p a from) (Before w k) e) (behind-is w k)
          (passed-ends (Before w k) w (from w) (begin_of p.structure a.plan.operators (from w)) k (omega (arith, inside)) (nodes-end (from w))
          (ap (drive_before (on_way a.plan.operators w) w (from w) k) is ∙ ap (λ b. when b (passed (on_way a.plan.operators w) w (from w) k)) behind))

      pub data-ends : (w : Way) (k : ℕ) (o : Standing) → slice_get (on_way a.plan.operators w) k ≡ Some o → EndsAt (drive p a from) (read_by w (from w) k o) (data_begin p.structure a.plan.operators w (from w) k)
      data-ends w k o is = by (is_behind o) refl
        where
          by : (b : Bool) → is_behind o ≡ b → EndsAt (drive p a from) (read_by w (from w) k o) (data_begin p.structure a.plan.operators w (from w) k)
          by false before = read-before w k o is before
          by true behind = subst (λ b. EndsAt (drive p a from) (cond b (Before w k) (read_before w (from w) k)) (data_begin p.structure a.plan.operators w (from w) k)) (sym behind) (read-behind w k o is behind)
