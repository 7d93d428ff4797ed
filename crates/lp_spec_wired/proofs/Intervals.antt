-- The stretches of one instance have nets of their own.
use Rattle.std.proofs.Common.{◌≡◌, ◌≤◌, ℕ, ◌+◌, not, ◌==◌, [], ◌∷◌, length, inl, inr, sym, ◌∙◌, ap, subst, arith}
use Rattle.std.specs.Prelude.{List, flat_map}
use Rattle.lp_spec_design.specs.Keys.{Path}
use Rattle.lp_spec_design.specs.Domains.{BoundaryBit, boundary}
use Rattle.lp_spec_design.specs.Winners.{IsIn}
use Rattle.lp_spec_design.proofs.Members.{of-flat, of-filter}
use Rattle.lp_spec_realises.specs.Projects.{Project}
use Rattle.lp_spec_written.specs.Places.{instances, Plan}
use Rattle.lp_spec_written.specs.Nets.{Stretch, stretches, stretches_from, operators_there, net_count}
use Rattle.lp_spec_wired.specs.Laws.{HasNet, ChainNetsAreApart}
use Rattle.lp_spec_wired.proofs.Added.{chain-number}

module _ (p : Project) (plan : Plan) (x : Path) where
  path-from : (bits : List BoundaryBit) (k : ℕ) (s : Stretch) → IsIn s (stretches_from p plan x k bits) → s.path ≡ x
  path-from [] k s h = absurd h
  path-from (b ∷ bits) k s h = elim h [
    | inl is ↦ ap (λ (t : Stretch). t.path) is
    | inr r ↦ path-from bits (k + net_count p.structure x b (length (operators_there plan x b))) s r
  ]

  -- numbers begin where those of the stretches before end
  above : (bits : List BoundaryBit) (k : ℕ) (s : Stretch) → IsIn s (stretches_from p plan x k bits) → k ≤ s.start
  above [] k s h = absurd h
  above (b ∷ bits) k s h = elim h [
    | inl is ↦ let same : s.start ≡ k = ap (λ (t : Stretch). t.start) is in omega (arith, same)
    | inr r ↦ let later = above bits (k + net_count p.structure x b (length (operators_there plan x b))) s r in omega (arith, later)
  ]

  -- a number belongs to one stretch
  one-of : (bits : List BoundaryBit) (k m : ℕ) (s t : Stretch) → IsIn s (stretches_from p plan x k bits) → IsIn t (stretches_from p plan x k bits) → HasNet s m → HasNet t m → s ≡ t
  one-of [] k m s t h g a b = absurd h
  one-of (c ∷ bits) k m s t h g a b = elim h [
    | inl is ↦ elim g [ inl too ↦ is ∙ sym too | inr r ↦ absurd (apart s t is r a b) ]
    | inr l ↦ elim g [ inl too ↦ absurd (apart t s too l b a) | inr r ↦ one-of bits next m s t l r a b ]
  ]
    where
      next : ℕ
      next = k + net_count p.structure x c (length (operators_there plan x c))

      apart : (v u : Stretch) → v ≡ record { bit = c; path = x; operators = operators_there plan x c; start = k; count = net_count p.structure x c (length (operators_there plan x c)) }
          → IsIn u (stretches_from p plan x next bits) → HasNet v m → HasNet u m → ⊥
      apart v u is r a b =
          let begins : v.start ≡ k = ap (λ (w : Stretch). w.start) is in
          let many : v.count ≡ net_count p.structure x c (length (operators_there plan x c)) = ap (λ (w : Stretch). w.count) is in
          let later = above bits next u r in
          let low = a.below in
          let high = b.above in
          omega (arith, begins, many, later, low, high)

pub nets-apart : ChainNetsAreApart
nets-apart p plan s t h g same j k a b small less e =
    let number : j ≡ k = chain-number j k small less e in
    let there = in-instance s h in
    let too = in-instance t g in
    let is : too.0 ≡ there.0 = sym (path-from p plan too.0 bits 0 t too.1) ∙ (sym same ∙ path-from p plan there.0 bits 0 s there.1) in (
      one-of p plan there.0 bits 0 j s t there.1 (subst (λ x. IsIn t (stretches_from p plan x 0 bits)) is too.1) a (subst (HasNet t) (sym number) b),
      number,
    )
  where
    bits : List BoundaryBit
    bits = boundary p.structure p.intent

    in-instance : (v : Stretch) → IsIn v (stretches p plan) → (x : Path) × IsIn v (stretches_from p plan x 0 bits)
    in-instance v h =
        let kept = of-filter (λ (u : Stretch). not (u.count == 0)) v (flat_map (λ x. stretches_from p plan x 0 bits) (instances p)) h in
        let there = of-flat (λ x. stretches_from p plan x 0 bits) v (instances p) kept.0 in
        (there.0, there.2)
