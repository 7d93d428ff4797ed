-- Parts of control routes begin where their controls do.
use Rattle.std.proofs.Common.{◌≡◌, ◌≤◌, ℕ, zero, suc, ◌+◌, Bool, true, false, cond, ◌||◌, [], ◌∷◌, length, Some, refl, sym, ap, ◌∙◌, arith}
use Rattle.std.proofs.lemmas.Bool.{false≢true}
use Rattle.lp_spec_design.specs.Keys.{Path, same_path, Node, Way}
use Rattle.lp_spec_design.specs.Reads.{path-self}
use Rattle.lp_spec_design.specs.Graph.{when}
use Rattle.lp_spec_realises.specs.Projects.{Project}
use Rattle.lp_spec_written.specs.Routes.{Kind, PortOut, Between, PortIn, has_part}
use Rattle.lp_spec_hub.specs.Spots.{Spot, OfNode, Routed, FromSpot, Done}
use Rattle.lp_spec_hub.specs.Drives.{is_fixed, own_instance, toward, part_at, part_in, control_spot, part_from, drive}
use Rattle.lp_spec_hub.specs.Begins.{Begin, EndsAt}
use Rattle.lp_spec_hub.specs.Entries.{carries, IsRouted}
use Rattle.lp_spec_hub.proofs.Ends.{step-back}
use Rattle.lp_spec_hub.proofs.Paths.{not-same, above-level, step-to}

module _ (p : Project) (a : Done) (from : Way → Node) (sound : IsRouted a.parts) (k : Node) (e : Begin) (ends : EndsAt (drive p a from) (OfNode k) e) where
  -- one part back
  back : (x : Path) (kind : Kind) (y : Spot) → has_part a.parts (part_at k x kind) ≡ true → part_from a.parts k x kind ≡ y → EndsAt (drive p a from) y e → EndsAt (drive p a from) (Routed (part_at k x kind)) e
  back x kind y has is more = step-back (drive p a from) (Routed (part_at k x kind)) y e (ap (λ b. when b (FromSpot (part_from a.parts k x kind))) has ∙ ap (λ z. Some (FromSpot z)) is) more

  -- with the port of the instance on the way
  wire-from : (x : Path) → has_part a.parts (part_at k x Between) ≡ true → EndsAt (drive p a from) (Routed (part_at k (toward (own_instance k) x) PortOut)) e → EndsAt (drive p a from) (Routed (part_at k x Between)) e
  wire-from x has more = back x Between (Routed (part_at k (toward (own_instance k) x) PortOut)) has refl more

  out-own : (x : Path) → has_part a.parts (part_at k x PortOut) ≡ true → same_path (own_instance k) x ≡ true → EndsAt (drive p a from) (Routed (part_at k x PortOut)) e
  out-own x has own = back x PortOut (OfNode k) has (ap (λ b. cond b (OfNode k) (cond (has_part a.parts (part_at k x Between)) (Routed (part_at k x Between)) (Routed (part_at k (toward (own_instance k) x) PortOut)))) own) ends

  out-above : (x : Path) → has_part a.parts (part_at k x PortOut) ≡ true → same_path (own_instance k) x ≡ false → EndsAt (drive p a from) (Routed (part_at k (toward (own_instance k) x) PortOut)) e → EndsAt (drive p a from) (Routed (part_at k x PortOut)) e
  out-above x has other more = by (has_part a.parts (part_at k x Between)) refl
    where
      below : Spot
      below = Routed (part_at k (toward (own_instance k) x) PortOut)

      by : (b : Bool) → has_part a.parts (part_at k x Between) ≡ b → EndsAt (drive p a from) (Routed (part_at k x PortOut)) e
      by true wired =
          back x PortOut (Routed (part_at k x Between)) has
          (ap (λ b. cond b (OfNode k) (cond (has_part a.parts (part_at k x Between)) (Routed (part_at k x Between)) (Routed (part_at k (toward (own_instance k) x) PortOut)))) other
          ∙ ap (λ b. cond b (Routed (part_at k x Between)) (Routed (part_at k (toward (own_instance k) x) PortOut))) wired)
          (wire-from x wired more)
      by false bare =
          back x PortOut (Routed (part_at k (toward (own_instance k) x) PortOut)) has
          (ap (λ b. cond b (OfNode k) (cond (has_part a.parts (part_at k x Between)) (Routed (part_at k x Between)) (Routed (part_at k (toward (own_instance k) x) PortOut)))) other
          ∙ ap (λ b. cond b (Routed (part_at k x Between)) (Routed (part_at k (toward (own_instance k) x) PortOut))) bare)
          more

  -- by the distance to the control's own instance
  out-ends : (n : ℕ) (x : Path) → length (own_instance k) ≤ length x + n → has_part a.parts (part_at k x PortOut) ≡ true → EndsAt (drive p a from) (Routed (part_at k x PortOut)) e
  out-ends zero x near has = out-own x has (by (above-level x (own_instance k) (sound.above k x has) (omega (arith, near))))
    where
      by : own_instance k ≡ x → same_path (own_instance k) x ≡ true
      by is = ap (λ y. same_path y x) is ∙ path-self x
  out-ends (suc n) x near has = by (same_path (own_instance k) x) refl (λ y h g. out-ends n y h g)
    where
      by : (b : Bool) → same_path (own_instance k) x ≡ b
          → ((y : Path) → length (own_instance k) ≤ length y + n → has_part a.parts (part_at k y PortOut) ≡ true → EndsAt (drive p a from) (Routed (part_at k y PortOut)) e)
          → EndsAt (drive p a from) (Routed (part_at k x PortOut)) e
      by true own more = out-own x has own
      by false other more =
          let step = step-to x (own_instance k) (sound.above k x has) (λ is. not-same (own_instance k) x other (sym is)) in
          out-above x has other (more (toward (own_instance k) x) (omega (arith, near, ap length step.is)) (sound.up k x has other))

  all-out : (x : Path) → has_part a.parts (part_at k x PortOut) ≡ true → EndsAt (drive p a from) (Routed (part_at k x PortOut)) e
  all-out x has = out-ends (length (own_instance k)) x (omega arith) has

  wire-ends : (x : Path) → has_part a.parts (part_at k x Between) ≡ true → EndsAt (drive p a from) (Routed (part_at k x Between)) e
  wire-ends x has = wire-from x has (all-out (toward (own_instance k) x) (sound.wire k x has))

  -- where the control is in an instance to which it has come
  at-instance : (x : Path) → (has_part a.parts (part_at k x PortIn) ≡ true → EndsAt (drive p a from) (Routed (part_at k x PortIn)) e) → carries a.parts k x ≡ true → EndsAt (drive p a from) (control_spot a.parts k x) e
  at-instance x down has = by (is_fixed k || same_path (own_instance k) x) has
    where
      third : (c d : Bool) → has_part a.parts (part_at k x PortOut) ≡ c → has_part a.parts (part_at k x PortIn) ≡ d → (c || d) ≡ true → EndsAt (drive p a from) (Routed (part_at k x (cond c PortOut PortIn))) e
      third true d out inward g = all-out x out
      third false true out inward g = down inward
      third false false out inward g = absurd (false≢true g)

      second : (b : Bool) → has_part a.parts (part_at k x Between) ≡ b → (b || (has_part a.parts (part_at k x PortOut) || has_part a.parts (part_at k x PortIn))) ≡ true
          → EndsAt (drive p a from) (Routed (part_at k x (cond b Between (cond (has_part a.parts (part_at k x PortOut)) PortOut PortIn)))) e
      second true is g = wire-ends x is
      second false is g = third (has_part a.parts (part_at k x PortOut)) (has_part a.parts (part_at k x PortIn)) refl refl g

      by : (b : Bool) → (b || (has_part a.parts (part_at k x Between) || (has_part a.parts (part_at k x PortOut) || has_part a.parts (part_at k x PortIn)))) ≡ true
          → EndsAt (drive p a from) (cond b (OfNode k) (Routed (part_in a.parts k x))) e
      by true g = ends
      by false g = second (has_part a.parts (part_at k x Between)) refl g

  in-ends : (x : Path) → has_part a.parts (part_at k x PortIn) ≡ true → EndsAt (drive p a from) (Routed (part_at k x PortIn)) e
  in-ends [] has = let down = sound.down k [] has in let wrong : [] ≡ down.name ∷ down.parent = down.is in absurd cc
  in-ends (i ∷ x) has =
      let down = sound.down k (i ∷ x) has in
      let is : i ∷ x ≡ down.name ∷ down.parent = down.is in
      let same : down.parent ≡ x = cc in
      back (i ∷ x) PortIn (control_spot a.parts k x) has refl (at-instance x (λ h. in-ends x h) (ap (carries a.parts k) (sym same) ∙ down.above))

  pub control-ends : (x : Path) → carries a.parts k x ≡ true → EndsAt (drive p a from) (control_spot a.parts k x) e
  control-ends x has = at-instance x (λ h. in-ends x h) has
