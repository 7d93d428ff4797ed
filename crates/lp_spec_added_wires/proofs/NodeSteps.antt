-- What drives net bits of the source, and what operators read behind their ways and constants give, are wires.
use Rattle.std.proofs.Common.{◌≡◌, ◌⊎◌, ◌<◌, ◌≤◌, ℕ, zero, suc, Bool, true, false, not, cond, List, [], ◌∷◌, length, Option, Some, None, inl, inr, refl, sym, ap, ◌∙◌, subst, arith}
use Rattle.std.specs.Prelude.{is_some, option_and_then, slice_get}
use Rattle.std.proofs.lemmas.Bool.{false≢true}
use Rattle.std.proofs.lemmas.Option.{slice_get_within}
use Rattle.lp_spec_design.specs.Keys.{Node, Inner, Outer, Fixed, Way, same_way, Source, CellPin, SwitchedPin, Environment, From}
use Rattle.lp_spec_design.specs.Netlists.{Structure}
use Rattle.lp_spec_design.specs.Nodes.{fuel_of, HasFuel}
use Rattle.lp_spec_design.specs.Graph.{source_of, trail, way_in, going_back, when}
use Rattle.lp_spec_design.specs.Domains.{way_of}
use Rattle.lp_spec_design.specs.Reads.{other}
use Rattle.lp_spec_design.proofs.Members.{of-filter}
use Rattle.lp_spec_realises.specs.Projects.{Project}
use Rattle.lp_spec_written.specs.Places.{Standing}
use Rattle.lp_spec_written.specs.Written.{Additions}
use Rattle.lp_spec_hub.specs.Spots.{Spot, OfNode, Behind, Before, Lead, ByOperator, FromSpot, on_way, is_behind}
use Rattle.lp_spec_hub.specs.Drives.{behind_last, passed, drive_by, drive_behind, drive_before, is_fixed, is_led, drive}
use Rattle.lp_spec_wired.specs.Laws.{done_of}
use Rattle.lp_spec_wired.proofs.Chains.{way-true}
use Rattle.lp_spec_written_at.proofs.Lists.{in-slice}
use Rattle.lp_spec_driven.specs.Sound.{node_behind, IsProper}
use Rattle.lp_spec_wires.specs.Standing.{is_kept, is_wire, HasPlaces}
use Rattle.lp_spec_added_wires.proofs.Places.{is-when}
use Rattle.lp_spec_added_wires.proofs.Kept.{kept-from}
use Rattle.lp_spec_added_wires.proofs.Ranks.{node_rank, rank, Step}

got : {A : Type 0} (xs : List A) (k : ℕ) → k < length xs → (x : A) × (slice_get xs k ≡ Some x)
got [] k h = absurd (omega (arith, h))
got (x ∷ xs) zero h = (x, refl)
got (x ∷ xs) (suc k) h = got xs k (omega (arith, h))

the-spot : (x y : Spot) → FromSpot x ≡ FromSpot y → x ≡ y
the-spot x y e = cc

-- the wire from which it comes behind some operators of a way: the way's own start, or what the last of them makes before the edge
pub record Made (here : List Standing) (w : Way) (y : Spot) : Type 0 where
  pub number : ℕ
  pub operator : Standing
  pub at : slice_get here number ≡ Some operator
  pub before : is_behind operator ≡ false
  pub is : Behind w number ≡ y

passed-by : (here : List Standing) (w : Way) (j : Node) (n : ℕ) (y : Spot) → n ≤ length here → passed here w j n ≡ FromSpot y → (OfNode j ≡ y) ⊎ Made here w y
passed-by here w j zero y few e = inl (the-spot (OfNode j) y e)
passed-by here w j (suc k) y few e = let last = got here k (omega (arith, few)) in by last.0 last.1 (is_behind last.0) refl (ap (behind_last w k) (sym last.1) ∙ e)
  where
    by : (o : Standing) → slice_get here k ≡ Some o → (b : Bool) → is_behind o ≡ b → cond (is_behind o) (ByOperator w k) (FromSpot (Behind w k)) ≡ FromSpot y → (OfNode j ≡ y) ⊎ Made here w y
    by o at true is g = let wrong : ByOperator w k ≡ FromSpot y = ap (λ b. cond b (ByOperator w k) (FromSpot (Behind w k))) (sym is) ∙ g in absurd cc
    by o at false is g = inr (record { number = k; operator = o; at = at; before = is; is = the-spot (Behind w k) y (ap (λ b. cond b (ByOperator w k) (FromSpot (Behind w k))) (sym is) ∙ g) })

module _ (p : Project) (a : Additions) (from : Way → Node) (proper : IsProper p a from) (places : HasPlaces p a) where
  abbrev s : Structure
  s = p.structure

  abbrev ops : Way → List Standing
  ops w = on_way a.plan.operators w

  made-wire : (w : Way) (y : Spot) → Made (ops w) w y → is_wire p a from y ≡ true
  made-wire w y m =
      subst (λ x. is_wire p a from x ≡ true) m.is
      (ap (λ o. is_some (drive_behind w m.number o)) m.at ∙ ap (λ b. is_some (when (not b) (ByOperator w m.number))) m.before)

  made-rank : (w : Way) (y : Spot) → Made (ops w) w y → (n : ℕ) → 0 < n → rank p a from y < n
  made-rank w y m n more = subst (λ x. rank p a from x < n) m.is more

  -- ---- a net bit of the source

  fewer : HasFuel s → (k j : Node) (w : Way) → source_of s k ≡ Some (From w j) → node_rank s k ≡ suc (node_rank s j)
  fewer fuel k j w e = ap length (sym (fuel k) ∙ ap (λ o. going_back (λ i. trail s (fuel_of s) i) (way_in o)) e)

  of-way : (k : Node) (w : Way) (j : Node) (y : Spot) → source_of s k ≡ Some (From w j) → passed (ops w) w j (length (ops w)) ≡ FromSpot y → Step p a from (OfNode k) y
  of-way k w j y e g = elim (passed-by (ops w) w j (length (ops w)) y (omega arith) g) [
    | inl is ↦ record {
      wire = subst (λ x. is_wire p a from x ≡ true) is (kept-from p a from proper places k w j e);
      falls = λ fuel. subst (λ x. rank p a from x < node_rank s k) is (let less = fewer fuel k j w e in omega (arith, less));
    }
    | inr m ↦ record { wire = made-wire w y m; falls = λ fuel. made-rank w y m (node_rank s k) (let less = fewer fuel k j w e in omega (arith, less)) }
  ]

  pub node-step : (k : Node) (y : Spot) → drive p (done_of a) from (OfNode k) ≡ Some (FromSpot y) → Step p a from (OfNode k) y
  node-step k y h = by (source_of s k) refl h
    where
      by : (o : Option Source) → source_of s k ≡ o → option_and_then (λ x. Some (drive_by a.plan.operators x)) o ≡ Some (FromSpot y) → Step p a from (OfNode k) y
      by None e g = absurd cc
      by (Some (CellPin x n q)) e g = absurd cc
      by (Some (SwitchedPin x n q)) e g = absurd cc
      by (Some Environment) e g = absurd cc
      by (Some (From w j)) e g = let is : passed (ops w) w j (length (ops w)) ≡ FromSpot y = cc in of-way k w j y e is

  -- ---- operators

  -- their ways come from net bits of the source
  start-kept : (w : Way) (k : ℕ) (o : Standing) → slice_get (ops w) k ≡ Some o → is_kept s (from w) ≡ true
  start-kept w k o at =
      let here = of-filter (λ (r : Standing). same_way (way_of r.asked.bit) w) o a.plan.operators (in-slice (ops w) k o at) in
      let way : way_of o.asked.bit ≡ w = way-true (way_of o.asked.bit) w here.1 in
      ap (λ v. is_kept s (from v)) (sym way)
      ∙ (ap (is_kept s) (proper.comes o here.0) ∙ kept-from p a from proper places (node_behind s o.asked.bit) (way_of o.asked.bit) _ (proper.on_ways.leads o here.0))

  pub before-step : (w : Way) (k : ℕ) (y : Spot) → drive p (done_of a) from (Before w k) ≡ Some (FromSpot y) → Step p a from (Before w k) y
  before-step w k y h = by (slice_get (ops w) k) refl h
    where
      by : (o : Option Standing) → slice_get (ops w) k ≡ o → drive_before (ops w) w (from w) k o ≡ Some (FromSpot y) → Step p a from (Before w k) y
      by None at g = absurd cc
      by (Some o) at g =
          let is = (is-when (is_behind o) (passed (ops w) w (from w) k) (FromSpot y) g).1 in
          let inside = slice_get_within (ops w) k o at in
          elim (passed-by (ops w) w (from w) k y (omega (arith, inside)) is) [
            | inl start ↦ record {
              wire = subst (λ x. is_wire p a from x ≡ true) start (start-kept w k o at);
              falls = λ fuel. subst (λ x. rank p a from x < suc (node_rank s (from w))) start (omega arith);
            }
            | inr m ↦ record { wire = made-wire w y m; falls = λ fuel. made-rank w y m (suc (node_rank s (from w))) (omega arith) }
          ]

  pub behind-step : (w : Way) (k : ℕ) (y : Spot) → drive p (done_of a) from (Behind w k) ≡ Some (FromSpot y) → ⊥
  behind-step w k y h = by (slice_get (ops w) k) h
    where
      by : (o : Option Standing) → drive_behind w k o ≡ Some (FromSpot y) → ⊥
      by None g = absurd cc
      by (Some o) g = let is = (is-when (not (is_behind o)) (ByOperator w k) (FromSpot y) g).1 in absurd cc

  -- ---- constants

  fixed-kept : (k : Node) → is_fixed k ≡ true → is_kept s k ≡ true
  fixed-kept (Inner n i x) h = absurd (false≢true h)
  fixed-kept (Outer n i) h = absurd (false≢true h)
  fixed-kept (Fixed b) h = refl

  led-fixed : (k : Node) (o : Option Standing) → is_led k o ≡ true → is_fixed k ≡ true
  led-fixed k None h = absurd (false≢true h)
  led-fixed k (Some o) h = other (not (is_behind o)) (is_fixed k) h

  pub lead-step : (w : Way) (y : Spot) → drive p (done_of a) from (Lead w) ≡ Some (FromSpot y) → Step p a from (Lead w) y
  lead-step w y h =
      let led = is-when (is_led (from w) (slice_get (ops w) 0)) (FromSpot (OfNode (from w))) (FromSpot y) h in
      let is = the-spot (OfNode (from w)) y led.1 in
      record {
        wire = subst (λ x. is_wire p a from x ≡ true) is (fixed-kept (from w) (led-fixed (from w) (slice_get (ops w) 0) led.0));
        falls = λ fuel. subst (λ x. rank p a from x < suc (node_rank s (from w))) is (omega arith);
      }
