-- A group that nothing leads out of has one origin where one is found.
use Rattle.std.proofs.Common.{◌≡◌, ℕ, zero, suc, ◌+◌, Bool, true, false, List, [], ◌∷◌, Some, refl, sym, ap, ◌∙◌, arith}
use Rattle.std.specs.Prelude.{map, filter, slice_get}
use Rattle.std.proofs.lemmas.Bool.{false≢true}
use Rattle.lp_spec_design.specs.Graph.{numbered}
use Rattle.lp_spec_origins.specs.Commands.{Supply, Command}
use Rattle.lp_spec_origins.specs.Groups.{group_of, is_among, is_closed}
use Rattle.lp_spec_origins.specs.Origins.{Source, sources, fed_by, IsOneOrigin, the_only, origin_of}
use Rattle.lp_spec_origins.proofs.JoinedLaws.{group-joined}

module _ (test : Source → Bool) where
  -- the numbers of those that pass, counted from one
  abbrev passing : ℕ → List Source → List ℕ
  passing k xs = map (λ x. x.0) (filter (λ (x : ℕ × Source). test x.1) (numbered k xs))

  first_in : (k : ℕ) (x : Source) (xs : List Source) → test x ≡ true → passing k (x ∷ xs) ≡ k ∷ passing (k + 1) xs
  first_in k x xs e = rw e refl

  first_out : (k : ℕ) (x : Source) (xs : List Source) → test x ≡ false → passing k (x ∷ xs) ≡ passing (k + 1) xs
  first_out k x xs e = rw e refl

  -- where none passes, none does
  none-passes : (k : ℕ) (xs : List Source) → passing k xs ≡ [] → (j : ℕ) (s : Source) → slice_get xs j ≡ Some s → test s ≡ false
  none-passes k [] e j s at = absurd cc
  none-passes k (x ∷ xs) e j s at = by (test x) refl (none-passes (k + 1) xs) j at
    where
      by : (b : Bool) → test x ≡ b → (passing (k + 1) xs ≡ [] → (i : ℕ) (t : Source) → slice_get xs i ≡ Some t → test t ≡ false) → (j : ℕ) → slice_get (x ∷ xs) j ≡ Some s → test s ≡ false
      by true f more j at = let no : k ∷ passing (k + 1) xs ≡ [] = sym (first_in k x xs f) ∙ e in absurd cc
      by false f more zero at = let is : x ≡ s = cc in ap test (sym is) ∙ f
      by false f more (suc j) at = more (sym (first_out k x xs f) ∙ e) j s at

  IsTheOne : ℕ → List Source → ℕ → Type 0
  IsTheOne k xs o = (i : ℕ) × (s : Source) × (o ≡ i + k) × (slice_get xs i ≡ Some s) × (test s ≡ true) × ((j : ℕ) (t : Source) → slice_get xs j ≡ Some t → test t ≡ true → j ≡ i)

  only-head : (k o : ℕ) (rest : List ℕ) → the_only (k ∷ rest) ≡ Some o → (rest ≡ []) × (o ≡ k)
  only-head k o [] e = let is : k ≡ o = cc in (refl, sym is)
  only-head k o (j ∷ rest) e = absurd cc

  the-one : (k : ℕ) (xs : List Source) (o : ℕ) → the_only (passing k xs) ≡ Some o → IsTheOne k xs o
  unfolding IsTheOne
  the-one k [] o e = absurd cc
  the-one k (x ∷ xs) o e = by (test x) refl (the-one (k + 1) xs o)
    where
      at-head : test x ≡ true → (passing (k + 1) xs ≡ []) × (o ≡ k) → IsTheOne k (x ∷ xs) o
      at-head f h = (zero, x, omega (arith, h.1), refl, f, others)
        where
          others : (j : ℕ) (t : Source) → slice_get (x ∷ xs) j ≡ Some t → test t ≡ true → j ≡ zero
          others zero t at g = refl
          others (suc j) t at g = absurd (false≢true (sym (none-passes (k + 1) xs h.0 j t at) ∙ g))

      behind : test x ≡ false → IsTheOne (k + 1) xs o → IsTheOne k (x ∷ xs) o
      behind f h = (suc h.0, h.1, omega (arith, h.2), h.3, h.4, others)
        where
          others : (j : ℕ) (t : Source) → slice_get (x ∷ xs) j ≡ Some t → test t ≡ true → j ≡ suc h.0
          others zero t at g = let is : x ≡ t = cc in absurd (false≢true (sym f ∙ ap test is ∙ g))
          others (suc j) t at g = ap suc (h.5 j t at g)

      by : (b : Bool) → test x ≡ b → (the_only (passing (k + 1) xs) ≡ Some o → IsTheOne (k + 1) xs o) → IsTheOne k (x ∷ xs) o
      by true f more = at-head f (only-head k o (passing (k + 1) xs) (ap the_only (sym (first_in k x xs f)) ∙ e))
      by false f more = behind f (more (ap the_only (sym (first_out k x xs f)) ∙ e))

-- the origin that is computed is the one origin of the group
pub one-origin : (commands : List Command) (fuel : ℕ) (a : Supply) (o : ℕ) → is_closed commands (group_of commands fuel a) ≡ true → origin_of commands fuel a ≡ Some o → IsOneOrigin commands a o
unfolding IsTheOne
one-origin commands fuel a o closed e =
    let found = the-one (λ s. is_among (fed_by s) (group_of commands fuel a)) 0 (sources commands) o e in
    let at : o ≡ found.0 = omega (arith, found.2) in
    record {
      is_origin = record { source = found.1; numbered = ap (slice_get (sources commands)) at ∙ found.3; joined = (group-joined commands fuel a (fed_by found.1) closed).0 found.4 };
      only = λ q other. found.5 q other.source other.numbered ((group-joined commands fuel a (fed_by other.source) closed).1 other.joined) ∙ sym at;
    }
