-- What drives parts of control routes are wires.
use Rattle.std.proofs.Common.{◌≡◌, ◌≤◌, ℕ, suc, Bool, true, false, not, ◌||◌, cond, ◌∷◌, length, Option, Some, refl, sym, ap, ◌∙◌, subst, arith}
use Rattle.std.specs.Prelude.{is_some}
use Rattle.std.proofs.lemmas.Bool.{false≢true}
use Rattle.lp_spec_design.specs.Keys.{Name, Path, same_path, Node, Inner, Way}
use Rattle.lp_spec_design.specs.Netlists.{Structure, module_at}
use Rattle.lp_spec_design.specs.Graph.{when}
use Rattle.lp_spec_design.specs.Reads.{both, path-true}
use Rattle.lp_spec_faults.specs.Modules.{is_own}
use Rattle.lp_spec_realises.specs.Projects.{Project}
use Rattle.lp_spec_written.specs.Routes.{Part, Kind, PortOut, Between, PortIn, has_part}
use Rattle.lp_spec_written.specs.Written.{Additions}
use Rattle.lp_spec_hub.specs.Spots.{Spot, OfNode, Routed, FromSpot}
use Rattle.lp_spec_hub.specs.Drives.{is_fixed, own_instance, toward, part_at, part_in, control_spot, part_from, drive}
use Rattle.lp_spec_hub.specs.Entries.{carries}
use Rattle.lp_spec_hub.proofs.Paths.{above-length}
use Rattle.lp_spec_wired.specs.Laws.{done_of}
use Rattle.lp_spec_driven.specs.Wires.{IsFreeNode}
use Rattle.lp_spec_driven.specs.Sound.{IsProper}
use Rattle.lp_spec_wires.specs.Standing.{is_kept, is_wire, HasPlaces}
use Rattle.lp_spec_added_wires.proofs.Places.{parent-there, is-when}
use Rattle.lp_spec_added_wires.proofs.ControlWires.{made-in, part-there, right-below}
use Rattle.lp_spec_added_wires.proofs.Ranks.{Step}

module _ (p : Project) (a : Additions) (from : Way → Node) (proper : IsProper p a from) (places : HasPlaces p a) where
  abbrev s : Structure
  s = p.structure

  abbrev Has : Node → Path → Kind → Type 0
  Has k x kind = has_part a.controls (part_at k x kind) ≡ true

  abbrev Goes : Node → Path → Kind → Spot → Type 0
  Goes k x kind y = Step p a from (Routed (part_at k x kind)) y

  part-wire : (k : Node) (x : Path) (kind : Kind) → Has k x kind → is_wire p a from (Routed (part_at k x kind)) ≡ true
  part-wire k x kind h = ap (λ b. is_some (when b (FromSpot (part_from a.controls k x kind)))) h

  -- a control is a net bit of the source
  own-kept : (k : Node) (x : Path) (kind : Kind) → Has k x kind → (y : Path) → own_instance k ≡ y → is_some (module_at s y) ≡ true → is_kept s k ≡ true
  own-kept k x kind has y own there =
      let listed = made-in a.controls (part_at k x kind) has in
      by k (proper.routes.inner (part_at k x kind) listed) (places.controls (part_at k x kind) listed) own
    where
      by : (q : Node) → ((n : Name) × (i : Option ℕ) × (u : Path) × (q ≡ Inner n i u)) → IsFreeNode q → own_instance q ≡ y → is_kept s q ≡ true
      by (Inner n i u) inner free is = both (not (is_own n)) (is_some (module_at s u)) (ap not free) (ap (λ z. is_some (module_at s z)) is ∙ there)
      by q inner free is = let wrong = inner.3 in absurd cc

  -- ---- up

  -- the output port of the instance on the way
  to-lower : (k : Node) (x : Path) → Has k (toward (own_instance k) x) PortOut → (length (toward (own_instance k) x) ≡ suc (length x)) × (suc (length x) ≤ length (own_instance k))
  to-lower k x has =
      let step = right-below p a from proper places k x has in
      let is : length (toward (own_instance k) x) ≡ suc (length x) = ap length step.1 in
      let short = above-length (toward (own_instance k) x) (own_instance k) (proper.routes.routed.above k (toward (own_instance k) x) has) in
      (is, omega (arith, is, short))

  out-own : (k : Node) (x : Path) → Has k x PortOut → same_path (own_instance k) x ≡ true → Goes k x PortOut (OfNode k)
  out-own k x has own = record {
    wire = own-kept k x PortOut has x (path-true (own_instance k) x own) (part-there p a from proper places (part_at k x PortOut) has);
    falls = λ fuel. omega arith;
  }

  out-wire : (k : Node) (x : Path) → Has k x Between → Goes k x PortOut (Routed (part_at k x Between))
  out-wire k x wire = record { wire = part-wire k x Between wire; falls = λ fuel. omega arith }

  out-up : (k : Node) (x : Path) → Has k (toward (own_instance k) x) PortOut → Goes k x PortOut (Routed (part_at k (toward (own_instance k) x) PortOut))
  out-up k x low = record { wire = part-wire k (toward (own_instance k) x) PortOut low; falls = λ fuel. let d = to-lower k x low in omega (arith, d.0, d.1) }

  wire-up : (k : Node) (x : Path) → Has k (toward (own_instance k) x) PortOut → Goes k x Between (Routed (part_at k (toward (own_instance k) x) PortOut))
  wire-up k x low = record { wire = part-wire k (toward (own_instance k) x) PortOut low; falls = λ fuel. let d = to-lower k x low in omega (arith, d.0, d.1) }

  out-step : (k : Node) (x : Path) → Has k x PortOut → Goes k x PortOut (part_from a.controls k x PortOut)
  out-step k x has = by (same_path (own_instance k) x) (has_part a.controls (part_at k x Between)) refl refl
    where
      by : (b c : Bool) → same_path (own_instance k) x ≡ b → has_part a.controls (part_at k x Between) ≡ c
          → Goes k x PortOut (cond b (OfNode k) (cond c (Routed (part_at k x Between)) (Routed (part_at k (toward (own_instance k) x) PortOut))))
      by true c own wire = out-own k x has own
      by false true differ wire = out-wire k x wire
      by false false differ bare = out-up k x (proper.routes.routed.up k x has differ)

  -- ---- down

  in-step : (k : Node) (x : Path) → Has k x PortIn → Goes k x PortIn (part_from a.controls k x PortIn)
  in-step k x has =
      let comes = proper.routes.routed.down k x has in
      subst (λ y. Has k y PortIn → Goes k y PortIn (part_from a.controls k y PortIn)) (sym comes.is) (λ h. below comes.name comes.parent h comes.above) has
    where
      below : (i : Name) (y : Path) → Has k (i ∷ y) PortIn → carries a.controls k y ≡ true → Goes k (i ∷ y) PortIn (control_spot a.controls k y)
      below i y h above = by (is_fixed k || same_path (own_instance k) y) refl
        where
          at : Kind → Spot
          at kind = Routed (part_at k y kind)

          third : (c d : Bool) → has_part a.controls (part_at k y PortOut) ≡ c → has_part a.controls (part_at k y PortIn) ≡ d → (c || d) ≡ true → Goes k (i ∷ y) PortIn (Routed (part_at k y (cond c PortOut PortIn)))
          third true d out inward g = record { wire = part-wire k y PortOut out; falls = λ fuel. omega arith }
          third false true out inward g = record { wire = part-wire k y PortIn inward; falls = λ fuel. omega arith }
          third false false out inward g = absurd (false≢true g)

          second : (b : Bool) → has_part a.controls (part_at k y Between) ≡ b → (b || (has_part a.controls (part_at k y PortOut) || has_part a.controls (part_at k y PortIn))) ≡ true
              → Goes k (i ∷ y) PortIn (Routed (part_at k y (cond b Between (cond (has_part a.controls (part_at k y PortOut)) PortOut PortIn))))
          second true is g = record { wire = part-wire k y Between is; falls = λ fuel. omega arith }
          second false is g = third (has_part a.controls (part_at k y PortOut)) (has_part a.controls (part_at k y PortIn)) refl refl g

          not-fixed : (is_fixed k || same_path (own_instance k) y) ≡ true → same_path (own_instance k) y ≡ true
          not-fixed is =
              let inner = proper.routes.inner (part_at k (i ∷ y) PortIn) (made-in a.controls (part_at k (i ∷ y) PortIn) h) in
              ap (λ q. is_fixed q || same_path (own_instance k) y) (sym inner.3) ∙ is

          at-own : (is_fixed k || same_path (own_instance k) y) ≡ true → Goes k (i ∷ y) PortIn (OfNode k)
          at-own is = record {
            wire = own-kept k (i ∷ y) PortIn h y (path-true (own_instance k) y (not-fixed is)) (parent-there s i y (part-there p a from proper places (part_at k (i ∷ y) PortIn) h));
            falls = λ fuel. omega arith;
          }

          by : (b : Bool) → (is_fixed k || same_path (own_instance k) y) ≡ b → Goes k (i ∷ y) PortIn (cond b (OfNode k) (Routed (part_in a.controls k y)))
          by true is = at-own is
          by false is = second (has_part a.controls (part_at k y Between)) refl (rest is)
            where
              rest : (is_fixed k || same_path (own_instance k) y) ≡ false → (has_part a.controls (part_at k y Between) || (has_part a.controls (part_at k y PortOut) || has_part a.controls (part_at k y PortIn))) ≡ true
              rest e = ap (λ c. c || (has_part a.controls (part_at k y Between) || (has_part a.controls (part_at k y PortOut) || has_part a.controls (part_at k y PortIn)))) (sym e) ∙ above

  by-kind : (k : Node) (x : Path) (kind : Kind) → Has k x kind → Goes k x kind (part_from a.controls k x kind)
  by-kind k x PortOut has = out-step k x has
  by-kind k x Between has = wire-up k x (proper.routes.routed.wire k x has)
  by-kind k x PortIn has = in-step k x has

  pub part-step : (t : Part) (y : Spot) → drive p (done_of a) from (Routed t) ≡ Some (FromSpot y) → Step p a from (Routed t) y
  part-step t y h =
      let drives = is-when (has_part a.controls t) (FromSpot (part_from a.controls t.control t.path t.kind)) (FromSpot y) h in
      let is : part_from a.controls t.control t.path t.kind ≡ y = cc in
      subst (Step p a from (Routed t)) is (by-kind t.control t.path t.kind drives.0)
