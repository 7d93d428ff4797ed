-- What each module has below it is there, as far down as its height says.
use Rattle.std.proofs.Common.{◌≡◌, ◌<◌, ◌+◌, ℕ, zero, suc, List, [], ◌∷◌, Option, Some, refl, sym, ap, ◌∙◌, arith}
use Rattle.std.specs.Prelude.{option_map, slice_get}
use Rattle.lp_model.specs.NetlistView.{InstanceView, ModuleView}
use Rattle.lp_spec_design.specs.Netlists.{Structure}
use Rattle.lp_spec_layout.specs.Parts.{Size, Statement, OfModule, OfCell, Template, statements_of, AreStatements, AreTemplates}
use Rattle.lp_spec_layout.specs.Walked.{own_size, leaf_size, joined_size, Follows, IsSized}
use Rattle.lp_spec_layout.proofs.Measured.{template-at}
use Rattle.lp_spec_drivers.specs.Counts.{or_else, found}
use Rattle.lp_spec_drivers.specs.Drivers.{joint_places, own_twice, twice_in, AreTwiceBelow, twice_below}

module _ (s : Structure) (templates : List Template) (are : AreTemplates s s.modules templates) (z : IsSized s templates) where
  -- statements of lower modules look no further
  same-found : (m : ModuleView) (high : ℕ) (a b : ℕ → Option ℕ) → ((n : ℕ) (w : ModuleView) → slice_get s.modules n ≡ Some w → z.height n < high → a n ≡ b n)
      → (ys : List InstanceView) (zs : List Statement) (before total : Size) → AreStatements s m ys zs → Follows z.size z.height high before zs total → found (twice_in s templates a) zs ≡ found (twice_in s templates b) zs
  same-found m high a b same [] [] before total r f = refl
  same-found m high a b same [] (x ∷ zs) before total r f = absurd r
  same-found m high a b same (y ∷ ys) [] before total r f = absurd r
  same-found m high a b same (y ∷ ys) (OfModule c ∷ zs) before total r f =
      ap (λ o. or_else (option_map (λ k. c.before.bits + k) (or_else (own_twice s templates c.of (joint_places c.inputs)) o)) (found (twice_in s templates a) zs)) (same c.of r.0.inner r.0.has_inner f.1)
      ∙ ap (or_else (twice_in s templates b (OfModule c))) (same-found m high a b same ys zs (joined_size before (z.size c.of)) total r.1 f.2)
  same-found m high a b same (y ∷ ys) (OfCell c ∷ zs) before total r f = same-found m high a b same ys zs (joined_size before leaf_size) total r.1 f.1

  -- nor does more depth find more
  same-below : (d e n : ℕ) (m : ModuleView) → slice_get s.modules n ≡ Some m → z.height n < d → z.height n < e → twice_below s templates d n ≡ twice_below s templates e n
  same-below zero e n m has a b = absurd (omega (arith, a))
  same-below (suc d) zero n m has a b = absurd (omega (arith, b))
  same-below (suc d) (suc e) n m has a b =
      let tp = template-at s s.modules templates n m are has in
      ap (λ o. found (twice_in s templates (twice_below s templates d)) (statements_of o)) tp.at
      ∙ same-found m (z.height n) (twice_below s templates d) (twice_below s templates e) (λ k w h low. same-below d e k w h (omega (arith, low, a)) (omega (arith, low, b))) m.instances tp.template.statements (own_size m) (z.size n) tp.is.statements (z.each n m tp.template has tp.at)
      ∙ sym (ap (λ o. found (twice_in s templates (twice_below s templates e)) (statements_of o)) tp.at)

  pub below_there : AreTwiceBelow s templates (λ n. twice_below s templates (suc (z.height n)) n)
  below_there n m x has at =
      let tp = template-at s s.modules templates n m are has in
      let both : Some tp.template ≡ Some x = sym tp.at ∙ at in
      let same : tp.template ≡ x = cc in
      ap (λ o. found (twice_in s templates (twice_below s templates (z.height n))) (statements_of o)) tp.at
      ∙ same-found m (z.height n) (twice_below s templates (z.height n)) (λ k. twice_below s templates (suc (z.height k)) k) (λ k w h low. same-below (z.height n) (suc (z.height k)) k w h low (omega arith)) m.instances tp.template.statements (own_size m) (z.size n) tp.is.statements (z.each n m tp.template has tp.at)
      ∙ ap (λ (t : Template). found (twice_in s templates (λ k. twice_below s templates (suc (z.height k)) k)) t.statements) same
