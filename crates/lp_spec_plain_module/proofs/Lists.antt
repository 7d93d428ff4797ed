-- Lists, and what is connected to a name.
use Rattle.std.proofs.Common.{◌≡◌, Bool, true, false, not, ◌||◌, ◌&&◌, cond, List, [], ◌∷◌, ◌++◌, map, Some, refl, sym, ◌∙◌, ap, subst, append_assoc}
use Rattle.std.specs.Prelude.{bytes_eq, filter}
use Rattle.std.specs.List.{AllByRecursion, list_all}
use Rattle.std.proofs.lemmas.Bool.{and_parts, and_from, or_parts, true≢false, both_ways, not-true}
use Rattle.std.proofs.lemmas.List.Folds.{list_all-append}
use Rattle.lp_text.specs.Texts.{same_text-true, true-same_text, same_text_comm}
use Rattle.lp_model.specs.NetlistView.{BitView, NetBit, ConnectionView}
use Rattle.lp_model.specs.LibraryView.{PgPinView}
use Rattle.lp_spec_design.specs.Keys.{Name}
use Rattle.lp_spec_design.specs.Netlists.{first, bits_named}
use Rattle.lp_spec_plain_module.specs.Designs.{Flat}
use Rattle.lp_spec_plain_module.specs.Netlists.{port_of_pin, joined}
use Rattle.lp_spec_plain_module.specs.Tests.{is_pg_name, are_distinct}

pub name-self : (n : Name) → bytes_eq n n ≡ true
name-self n = true-same_text n n refl

-- names that a test tells apart differ
pub told_apart : (test : Name → Bool) (a b : Name) → test a ≡ false → test b ≡ true → bytes_eq a b ≡ false
told_apart test a b e f = by (bytes_eq a b) refl
  where
    by : (x : Bool) → bytes_eq a b ≡ x → x ≡ false
    by true is = absurd (both_ways (test b) (ap test (sym (same_text-true a b is)) ∙ e) f)
    by false is = refl

pub turned : (a b : Name) → bytes_eq a b ≡ false → bytes_eq b a ≡ false
turned a b e = same_text_comm b a ∙ e

-- ---- filters

module _ {A : Type 0} (p : A → Bool) where
  pub filter-two : (xs : List A) (a b : A) → p a ≡ false → p b ≡ false → filter p (xs ++ a ∷ b ∷ []) ≡ filter p xs
  filter-two [] a b e f = rw (e, f) refl
  filter-two (x ∷ xs) a b e f = ap (λ r. cond (p x) (x ∷ r) r) (filter-two xs a b e f)

  pub filter-behind : (xs ys : List A) → list_all (λ x. not (p x)) xs ≡ true → filter p (xs ++ ys) ≡ filter p ys
  filter-behind [] ys all = refl
  filter-behind (x ∷ xs) ys all =
      let none : p x ≡ false = not-true _ (and_parts _ _ all).0 in
      rw (none) (filter-behind xs ys (and_parts _ _ all).1)

  pub filter-none : (xs : List A) → list_all (λ x. not (p x)) xs ≡ true → filter p xs ≡ []
  filter-none [] all = refl
  filter-none (x ∷ xs) all =
      let none : p x ≡ false = not-true _ (and_parts _ _ all).0 in
      rw (none) (filter-none xs (and_parts _ _ all).1)

-- what holds of all by one test holds by another that follows
pub all-weaker : {A : Type 0} (p q : A → Bool) → ((x : A) → p x ≡ true → q x ≡ true) → (xs : List A) → list_all p xs ≡ true → list_all q xs ≡ true
all-weaker p q h [] all = refl
all-weaker p q h (x ∷ xs) all =
    ap (λ b. b && list_all q xs) (h x (and_parts _ _ all).0)
    ∙ all-weaker p q h xs (and_parts _ _ all).1

pub found-passes : {A : Type 0} (f : A → Bool) (xs : List A) (x : A) → first f xs ≡ Some x → f x ≡ true
found-passes f [] x e = absurd cc
found-passes f (y ∷ ys) x e = by (f y) refl e (λ g. found-passes f ys x g)
  where
    by : (b : Bool) → f y ≡ b → (cond b (Some y) (first f ys)) ≡ Some x → (first f ys ≡ Some x → f x ≡ true) → f x ≡ true
    by true is g rest = let same : y ≡ x = cc in ap f (sym same) ∙ is
    by false is g rest = rest g

-- ---- connections

pub bits_named-more : (n : Name) (cs ds : List ConnectionView) → bits_named n ds ≡ [] → bits_named n (cs ++ ds) ≡ bits_named n cs
bits_named-more n [] ds e = e
bits_named-more n (c ∷ cs) ds e = ap (λ r. cond (bytes_eq c.port n) c.bits r) (bits_named-more n cs ds e)

pub bits_named-behind : (n : Name) (cs ds : List ConnectionView) → list_all (λ (c : ConnectionView). not (bytes_eq c.port n)) cs ≡ true → bits_named n (cs ++ ds) ≡ bits_named n ds
bits_named-behind n [] ds all = refl
bits_named-behind n (c ∷ cs) ds all =
    let none : bytes_eq c.port n ≡ false = not-true _ (and_parts _ _ all).0 in
    rw (none) (bits_named-behind n cs ds (and_parts _ _ all).1)

-- the bits of one connection pass what the bits of all do
pub bits_named-all : (p : BitView → Bool) (n : Name) (cs : List ConnectionView) → list_all (λ (c : ConnectionView). list_all p c.bits) cs ≡ true → list_all p (bits_named n cs) ≡ true
bits_named-all p n [] all = refl
bits_named-all p n (c ∷ cs) all = by (bytes_eq c.port n) (bits_named-all p n cs (and_parts _ _ all).1)
  where
    by : (b : Bool) → list_all p (bits_named n cs) ≡ true → list_all p (cond b c.bits (bits_named n cs)) ≡ true
    by true rest = (and_parts _ _ all).0
    by false rest = rest

module _ (f : Flat) where
  pub joins-none : (n : Name) (gs : List PgPinView) → is_pg_name gs n ≡ false → bits_named n (map (joined f) gs) ≡ []
  joins-none n [] e = refl
  joins-none n (g ∷ gs) e = by (bytes_eq g.name n) e (λ h. joins-none n gs h)
    where
      by : (b : Bool) → (b || is_pg_name gs n) ≡ false → (is_pg_name gs n ≡ false → bits_named n (map (joined f) gs) ≡ []) → cond b (joined f g).bits (bits_named n (map (joined f) gs)) ≡ []
      by true h rest = absurd (true≢false h)
      by false h rest = rest h

  abbrev IsJoinedIn : List ConnectionView → PgPinView → Type 0
  IsJoinedIn cs g = bits_named g.name cs ≡ NetBit (port_of_pin f g) ∷ []

  -- no connection has one of these names
  abbrev Avoid : List PgPinView → List ConnectionView → Type 0
  Avoid gs cs = list_all (λ (c : ConnectionView). not (is_pg_name gs c.port)) cs ≡ true

  avoid-head : (g : PgPinView) (gs : List PgPinView) (cs : List ConnectionView) → Avoid (g ∷ gs) cs → list_all (λ (c : ConnectionView). not (bytes_eq c.port g.name)) cs ≡ true
  avoid-head g gs cs h = all-weaker (λ (c : ConnectionView). not (is_pg_name (g ∷ gs) c.port)) (λ (c : ConnectionView). not (bytes_eq c.port g.name)) (λ c e. ap not (turned g.name c.port (or_parts _ _ (not-true _ e)).0)) cs h

  avoid-tail : (g : PgPinView) (gs : List PgPinView) (cs : List ConnectionView) → Avoid (g ∷ gs) cs → Avoid gs cs
  avoid-tail g gs cs h = all-weaker (λ (c : ConnectionView). not (is_pg_name (g ∷ gs) c.port)) (λ (c : ConnectionView). not (is_pg_name gs c.port)) (λ c e. ap not (or_parts _ _ (not-true _ e)).1) cs h

  all-one_more : (p : ConnectionView → Bool) (cs : List ConnectionView) (c : ConnectionView) → list_all p cs ≡ true → p c ≡ true → list_all p (cs ++ c ∷ []) ≡ true
  all-one_more p cs c all e = list_all-append p cs (c ∷ []) ∙ and_from _ _ all (and_from _ _ e refl)

  -- behind connections of other names, each power and ground pin has the join that is made for it
  pub joins-each : (gs : List PgPinView) (cs : List ConnectionView) → are_distinct gs ≡ true → Avoid gs cs → AllByRecursion (IsJoinedIn (cs ++ map (joined f) gs)) gs
  joins-each [] cs distinct avoid = tt
  joins-each (g ∷ gs) cs distinct avoid = (
    bits_named-behind g.name cs (joined f g ∷ map (joined f) gs) (avoid-head g gs cs avoid) ∙ ap (λ b. cond b (NetBit (port_of_pin f g) ∷ []) (bits_named g.name (map (joined f) gs))) (name-self g.name),
    subst (λ ks. AllByRecursion (IsJoinedIn ks) gs) (append_assoc cs (joined f g ∷ []) (map (joined f) gs))
        (joins-each gs (cs ++ joined f g ∷ []) (and_parts _ _ distinct).1
        (all-one_more (λ (c : ConnectionView). not (is_pg_name gs c.port)) cs (joined f g) (avoid-tail g gs cs avoid) (and_parts _ _ distinct).0)),
  )
