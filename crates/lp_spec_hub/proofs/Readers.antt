-- A chain depends on the set of supplies that read its crossing and on the first of them.
use Rattle.std.proofs.Common.{◌≡◌, ℕ, Bool, true, false, cond, not, ◌&&◌, ◌==◌, List, [], ◌∷◌, ◌++◌, length, Option, Some, None, inl, inr, refl, sym, ap, ◌∙◌, arith}
use Rattle.std.specs.Prelude.{filter, is_some}
use Rattle.std.specs.List.{list_any, list_all}
use Rattle.std.proofs.lemmas.Bool.{false≢true, eqb-true}
use Rattle.lp_model.specs.declared.side.Side.{Side}
use Rattle.lp_model.specs.declared.side.Side.TheVariants.{Upper, Lower}
use Rattle.lp_model.specs.declared.intent.StrategyKind.{StrategyKind}
use Rattle.lp_model.specs.declared.intent.StrategyKind.TheVariants.{Isolation, Shifting}
use Rattle.lp_spec_design.specs.Netlists.{is_input}
use Rattle.lp_spec_design.specs.Reads.{one, other, both}
use Rattle.lp_spec_design.specs.Graph.{numbered}
use Rattle.lp_spec_design.specs.Intents.{SetNumber, Named, Strategy, Intent, Network}
use Rattle.lp_spec_design.specs.Domains.{same_domain}
use Rattle.lp_spec_design.specs.Winners.{IsIn, Crossing, side_domain, is_input_of, names, is_listed, takes_direction, fits_source, fits_sink, fits_difference, may_apply, applies, rank, same_kind, winner_among, winner}
use Rattle.lp_spec_design.specs.Chains.{target, clamp_of, around_clamp, part, side_part, joined, chain, rail_after}
use Rattle.lp_spec_hub.specs.Contents.{first_reader, ReadAlike, read_by_these}

both-ways : (a b : Bool) → (a ≡ true → b ≡ true) → (b ≡ true → a ≡ true) → a ≡ b
both-ways true true h g = refl
both-ways true false h g = absurd (false≢true (h refl))
both-ways false true h g = absurd (false≢true (g refl))
both-ways false false h g = refl

all-in : {A : Type 0} (f : A → Bool) (xs : List A) (x : A) → list_all f xs ≡ true → IsIn x xs → f x ≡ true
all-in f [] x e h = absurd h
all-in f (y ∷ ys) x e (inl is) = ap f is ∙ one (f y) (list_all f ys) e
all-in f (y ∷ ys) x e (inr h) = all-in f ys x (other (f y) (list_all f ys) e) h

all-of : {A : Type 0} (f : A → Bool) (xs : List A) → ((x : A) → IsIn x xs → f x ≡ true) → list_all f xs ≡ true
all-of f [] h = refl
all-of f (y ∷ ys) h = both (f y) (list_all f ys) (h y (inl refl)) (all-of f ys (λ x g. h x (inr g)))

filter-alike : {A : Type 0} (f g : A → Bool) → ((x : A) → f x ≡ g x) → (xs : List A) → filter f xs ≡ filter g xs
filter-alike f g h [] = refl
filter-alike f g h (x ∷ xs) = ap (λ b. cond b (x ∷ filter f xs) (filter f xs)) (h x) ∙ ap (λ r. cond (g x) (x ∷ r) r) (filter-alike f g h xs)

module _ (rs qs : List (Option SetNumber)) (alike : ReadAlike rs qs) where
  all-alike : (f : Option SetNumber → Bool) → list_all f rs ≡ list_all f qs
  all-alike f = both-ways (list_all f rs) (list_all f qs) (λ e. all-of f qs (λ r h. all-in f rs r e (alike.back r h))) (λ e. all-of f rs (λ r h. all-in f qs r e (alike.there r h)))

  empty-alike : (length rs == 0) ≡ (length qs == 0)
  empty-alike = by rs qs alike.head
    where
      some : {A : Type 0} (x : A) (xs : List A) → (length (x ∷ xs) == 0) ≡ false
      some x xs = other-than (length (x ∷ xs) == 0) refl
        where
          other-than : (b : Bool) → (length (x ∷ xs) == 0) ≡ b → b ≡ false
          other-than false e = refl
          other-than true e = let none = eqb-true (length (x ∷ xs)) 0 e in absurd (omega (arith, none))

      by : (rs qs : List (Option SetNumber)) → first_reader rs ≡ first_reader qs → (length rs == 0) ≡ (length qs == 0)
      by [] [] e = refl
      by [] (q ∷ qs) e = absurd cc
      by (r ∷ rs) [] e = absurd cc
      by (r ∷ rs) (q ∷ qs) e = some r rs ∙ sym (some q qs)

  module _ (n : Network) (i : Intent) (c : Crossing) where
    source-alike : (t : Strategy) (s : Option Named) → fits_source n i (read_by_these c rs) (record t { source = s }) ≡ fits_source n i (read_by_these c qs) (record t { source = s })
    source-alike t None = refl
    source-alike t (Some s) = refl

    -- the other tests of a strategy look at the bit and the driver alone
    abbrev may : Side → Strategy → Bool → Bool → Bool
    may side t empty source =
        is_some (side_domain i side c.bit)
        && (not empty
        && (same_domain (side_domain i side c.bit) (Some t.domain)
        && (is_listed c.bit t.elements
        && (not (list_any (names c.bit) t.excluded)
        && (takes_direction t.applies (is_input_of side c.bit)
        && source)))))

    may-alike : (side : Side) (t : Strategy) → may_apply n i side (read_by_these c rs) t ≡ may_apply n i side (read_by_these c qs) t
    may-alike side t = ap (λ e. may side t e (fits_source n i (read_by_these c rs) t)) empty-alike ∙ ap (λ f. may side t (length qs == 0) f) (source-alike t t.source)

    applies-alike : (side : Side) (t : Strategy) → applies n i side (read_by_these c rs) t ≡ applies n i side (read_by_these c qs) t
    applies-alike side t =
        ap (λ b. b && (list_all (fits_sink n i t) rs && list_all (fits_difference n c t) rs)) (may-alike side t)
        ∙ (ap (λ b. may_apply n i side (read_by_these c qs) t && (b && list_all (fits_difference n c t) rs)) (all-alike (fits_sink n i t))
        ∙ ap (λ b. may_apply n i side (read_by_these c qs) t && (list_all (fits_sink n i t) qs && b)) (all-alike (fits_difference n c t)))

    winner-alike : (kind : StrategyKind) (side : Side) → winner n i kind side (read_by_these c rs) ≡ winner n i kind side (read_by_these c qs)
    winner-alike kind side = ap (winner_among (rank c.bit)) (filter-alike (λ x. same_kind kind x.1.kind && applies n i side (read_by_these c rs) x.1) (λ x. same_kind kind x.1.kind && applies n i side (read_by_these c qs) x.1) (λ x. ap (λ b. same_kind kind x.1.kind && b) (applies-alike side x.1)) (numbered 0 i.strategies))

    target-by : (k : ℕ) (t : Strategy) (s : Option SetNumber) → target (Some (k, record t { output = s })) rs ≡ target (Some (k, record t { output = s })) qs
    target-by k t (Some s) = refl
    target-by k t None = by rs qs alike.head
      where
        by : (rs qs : List (Option SetNumber)) → first_reader rs ≡ first_reader qs → target (Some (k, record t { output = None })) rs ≡ target (Some (k, record t { output = None })) qs
        by [] [] e = refl
        by [] (q ∷ qs) e = absurd cc
        by (r ∷ rs) [] e = absurd cc
        by (r ∷ rs) (q ∷ qs) e = let same : r ≡ q = cc in same

    target-alike : (shift : Option (ℕ × Strategy)) → target shift rs ≡ target shift qs
    target-alike None = refl
    target-alike (Some t) = target-by t.0 t.1 t.1.output

    part-alike : (side : Side) (s : Option SetNumber) → side_part n i side (read_by_these c rs) s ≡ side_part n i side (read_by_these c qs) s
    part-alike side s =
        ap (λ iso. part n iso (winner n i Shifting side (read_by_these c rs)) rs s) (winner-alike Isolation side)
        ∙ (ap (λ shift. part n (winner n i Isolation side (read_by_these c qs)) shift rs s) (winner-alike Shifting side)
        ∙ ap (λ t. around_clamp n (winner n i Shifting side (read_by_these c qs)) t s (clamp_of (winner n i Isolation side (read_by_these c qs)))) (target-alike (winner n i Shifting side (read_by_these c qs))))

    joined-alike : (first second : Side) (s : Option SetNumber) → joined n i first second (read_by_these c rs) s ≡ joined n i first second (read_by_these c qs) s
    joined-alike first second s =
        ap (λ ops. ops ++ side_part n i second (read_by_these c rs) (rail_after s ops)) (part-alike first s)
        ∙ ap (λ ops. side_part n i first (read_by_these c qs) s ++ ops) (part-alike second (rail_after s (side_part n i first (read_by_these c qs) s)))

    pub chain-alike : (s : Option SetNumber) → chain n i (read_by_these c rs) s ≡ chain n i (read_by_these c qs) s
    chain-alike s =
        ap (λ ops. cond (is_input c.bit.port) ops (joined n i Upper Lower (read_by_these c rs) s)) (joined-alike Lower Upper s)
        ∙ ap (λ ops. cond (is_input c.bit.port) (joined n i Lower Upper (read_by_these c qs) s) ops) (joined-alike Upper Lower s)
