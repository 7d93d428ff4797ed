-- The first module that contains itself is at the first place that leads to itself.
use Rattle.std.proofs.Common.{◌≡◌, ◌<◌, ℕ, zero, suc, Bool, true, false, cond, List, [], ◌∷◌, length, Some, None, refl, ap, ◌∙◌, subst, arith}
use Rattle.std.specs.Prelude.{◌↔◌, map, slice_get}
use Rattle.lp_text.specs.Texts.{distinct}
use Rattle.lp_model.specs.NetlistView.{ModuleView}
use Rattle.lp_order.specs.Order.{Reaches, HasLoop}
use Rattle.lp_order.proofs.OrderLaws.{Reaches-within}
use Rattle.lp_spec_design.specs.Netlists.{Structure, first}
use Rattle.lp_spec_faults.specs.Lines.{first_of}
use Rattle.lp_spec_faults.specs.Modules.{is_within, recursive}
use Rattle.lp_targets.specs.declared.target.Target.{Target}
use Rattle.lp_targets.specs.Targets.{AreTargets}
use Rattle.lp_targets.specs.Children.{children}
use Rattle.lp_loops.specs.Loops.{IsFirstLooped}
use Rattle.lp_targets.proofs.Recursion.{first_none, loops}
use Rattle.lp_targets.proofs.Looping.{stands, count, contains_itself}

first_at : {A : Type 0} (p : A → Bool) (xs : List A) (a : ℕ) (x : A) → slice_get xs a ≡ Some x → p x ≡ true → ((b : ℕ) (y : A) → b < a → slice_get xs b ≡ Some y → p y ≡ true → ⊥) → first p xs ≡ Some x
first_at p [] a x at e never = cc
first_at p (y ∷ xs) zero x at e never =
    let is : y ≡ x = cc in
    ap (λ v. cond v (Some y) (first p xs)) (ap p is ∙ e) ∙ ap Some is
first_at p (y ∷ xs) (suc a) x at e never = by (p y) refl (first_at p xs a x at e (λ b z h. never (suc b) z (omega (arith, h))))
  where
    by : (v : Bool) → p y ≡ v → first p xs ≡ Some x → cond v (Some y) (first p xs) ≡ Some x
    by true is r = absurd (never 0 y (omega arith) refl is)
    by false is r = r

module _ (s : Structure) (rows : List (List Target)) (targets : AreTargets s rows) (apart : distinct (map (λ (m : ModuleView). m.name) s.modules) ≡ true) where
  abbrev is_looped : ModuleView → Bool
  is_looped m = is_within s m.name (length s.modules) m

  pub by_place : (a : ℕ) (m : ModuleView) → slice_get s.modules a ≡ Some m → (is_looped m ≡ true) ↔ Reaches (children rows) a a
  by_place a m at = (loops s rows targets apart (length s.modules) a m at, contains_itself s rows targets a m at)

  pub first_place : (a : ℕ) → IsFirstLooped (children rows) a → (m : ModuleView) × (slice_get s.modules a ≡ Some m) × (first_of (recursive s) ≡ Some m)
  first_place a f =
      let here = stands s.modules a (subst (λ n. a < n) (count s rows targets) (Reaches-within (children rows) a a f.looped)) in (
        here.0,
        here.1,
        first_at is_looped s.modules a here.0 here.1 (contains_itself s rows targets a here.0 here.1 f.looped)
            (λ b y low at e. f.not_before b low (loops s rows targets apart (length s.modules) b y at e)),
      )

  pub no_place : (HasLoop (children rows) → ⊥) → first_of (recursive s) ≡ None
  no_place never = first_none is_looped s.modules (λ a m at e. never (a, loops s rows targets apart (length s.modules) a m at e))
