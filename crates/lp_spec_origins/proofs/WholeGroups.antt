-- What is found in as many steps as there are ports and nets leads nowhere else: each step that does not end adds at least one.
use Rattle.std.proofs.Common.{◌≡◌, ◌⊎◌, ◌≤◌, ℕ, zero, suc, ◌+◌, Bool, true, false, ◌&&◌, List, [], ◌∷◌, ◌++◌, inl, inr, refl, sym, ap, ◌∙◌, subst, arith}
use Rattle.std.specs.Prelude.{length, if◌then◌else◌, flat_map}
use Rattle.std.specs.List.{list_all}
use Rattle.std.proofs.lemmas.Bool.{false≢true}
use Rattle.std.proofs.lemmas.List.{length-append}
use Rattle.lp_spec_design.specs.Winners.{IsIn}
use Rattle.lp_spec_origins.specs.Commands.{Supply, Command}
use Rattle.lp_spec_origins.specs.Groups.{connected, neighbours, is_among, added, widened, group_of, is_closed}
use Rattle.lp_spec_origins.proofs.JoinedLaws.{among-in, in-among, in-left, in-right, in-either, in-added, from-group, all-in}

-- ---- lists without repetition

abbrev IsApart : List Supply → Type 0
IsApart [] = Unit {0}
IsApart (x ∷ xs) = (IsIn x xs → ⊥) × IsApart xs

-- a list with a member is one longer than the rest, which has all others
parted : (x : Supply) (ys : List Supply) → IsIn x ys → (rest : List Supply) × (length ys ≡ suc (length rest)) × ((z : Supply) → IsIn z ys → (z ≡ x) ⊎ IsIn z rest)
parted x [] h = absurd h
parted x (y ∷ ys) (inl is) = (ys, refl, λ z h. elim h [ inl e ↦ inl (e ∙ sym is) | inr r ↦ inr r ])
parted x (y ∷ ys) (inr h) =
    let cut = parted x ys h in
    (y ∷ cut.0, ap suc cut.1, λ z g. elim g [ inl e ↦ inr (inl e) | inr r ↦ elim (cut.2 z r) [ inl is ↦ inl is | inr other ↦ inr (inr other) ] ])

-- it is no longer than a list that has all of its members
no-longer : (xs ys : List Supply) → IsApart xs → ((z : Supply) → IsIn z xs → IsIn z ys) → length xs ≤ length ys
no-longer [] ys apart within = omega arith
no-longer (x ∷ xs) ys apart within =
    let cut = parted x ys (within x (inl refl)) in
    let others : (z : Supply) → IsIn z xs → IsIn z cut.0 = λ z h. elim (cut.2 z (within z (inr h))) [ inl is ↦ absurd (apart.0 (subst (λ q. IsIn q xs) is h)) | inr r ↦ r ] in
    let rest = no-longer xs cut.0 apart.1 others in
    omega (arith, cut.1, rest)

apart-behind : (group : List Supply) (a : Supply) → IsApart group → (IsIn a group → ⊥) → IsApart (group ++ a ∷ [])
apart-behind [] a apart out = (λ h. h, tt)
apart-behind (x ∷ xs) a apart out = (
  λ h. elim (in-either x xs (a ∷ []) h) [ inl l ↦ apart.0 l | inr r ↦ elim r [ inl is ↦ out (inl (sym is)) | inr none ↦ none ] ],
  apart-behind xs a apart.1 (λ h. out (inr h)),
)

-- ---- adding

apart-added : (more group : List Supply) → IsApart group → IsApart (added group more)
apart-added [] group apart = apart
apart-added (a ∷ more) group apart = by (is_among a group) refl (λ g. apart-added more g)
  where
    by : (t : Bool) → is_among a group ≡ t → ((g : List Supply) → IsApart g → IsApart (added g more)) → IsApart (if t then added group more else added (group ++ a ∷ []) more)
    by true e rest = rest group apart
    by false e rest = rest (group ++ a ∷ []) (apart-behind group a apart (λ h. false≢true (sym e ∙ in-among a group h)))

-- nothing is lost
as-long : (more group : List Supply) → length group ≤ length (added group more)
as-long [] group = omega arith
as-long (a ∷ more) group = by (is_among a group) (λ g. as-long more g)
  where
    by : (t : Bool) → ((g : List Supply) → length g ≤ length (added g more)) → length group ≤ length (if t then added group more else added (group ++ a ∷ []) more)
    by true rest = rest group
    by false rest =
        let one : length (group ++ a ∷ []) ≡ length group + 1 = length-append group (a ∷ []) in
        omega (arith, one, rest (group ++ a ∷ []))

-- one that is not there makes it longer
longer : (more group : List Supply) (b : Supply) → IsIn b more → is_among b group ≡ false → suc (length group) ≤ length (added group more)
longer [] group b h out = absurd h
longer (a ∷ more) group b h out = by (is_among a group) refl (λ r. longer more group b r out)
  where
    by : (t : Bool) → is_among a group ≡ t → (IsIn b more → suc (length group) ≤ length (added group more)) → suc (length group) ≤ length (if t then added group more else added (group ++ a ∷ []) more)
    by true e rest = elim h [ inl is ↦ absurd (false≢true (sym out ∙ ap (λ x. is_among x group) is ∙ e)) | inr r ↦ rest r ]
    by false e rest =
        let one : length (group ++ a ∷ []) ≡ length group + 1 = length-append group (a ∷ []) in
        omega (arith, one, as-long more (group ++ a ∷ []))

-- where all are there, nothing changes
unchanged : (more group : List Supply) → ((b : Supply) → IsIn b more → is_among b group ≡ true) → added group more ≡ group
unchanged [] group there = refl
unchanged (a ∷ more) group there = rw (there a (inl refl)) (unchanged more group (λ b h. there b (inr h)))

-- ---- what leads out

some-fails : (p : Supply → Bool) (xs : List Supply) → list_all p xs ≡ false → (x : Supply) × IsIn x xs × (p x ≡ false)
some-fails p [] e = absurd (false≢true (sym e))
some-fails p (x ∷ xs) e = by (p x) refl e (some-fails p xs)
  where
    by : (t : Bool) → p x ≡ t → (t && list_all p xs) ≡ false → (list_all p xs ≡ false → (y : Supply) × IsIn y xs × (p y ≡ false)) → (y : Supply) × IsIn y (x ∷ xs) × (p y ≡ false)
    by true f g rest = let found = rest g in (found.0, inr found.1, found.2)
    by false f g rest = (x, inl refl, f)

in-all : (f : Supply → List Supply) (group : List Supply) (a b : Supply) → IsIn a group → IsIn b (f a) → IsIn b (flat_map f group)
in-all f [] a b h g = absurd h
in-all f (x ∷ group) a b h g = elim h [ inl is ↦ in-left b (f x) (flat_map f group) (subst (λ y. IsIn b (f y)) is g) | inr rest ↦ in-right b (f x) (flat_map f group) (in-all f group a b rest g) ]

of-all : (f : Supply → List Supply) (group : List Supply) (b : Supply) → IsIn b (flat_map f group) → (a : Supply) × IsIn a group × IsIn b (f a)
of-all f [] b h = absurd h
of-all f (x ∷ group) b h = elim (in-either b (f x) (flat_map f group) h) [ inl here ↦ (x, inl refl, here) | inr rest ↦ let found = of-all f group b rest in (found.0, inr found.1, found.2) ]

module _ (commands : List Command) where
  abbrev around : List Supply → List Supply
  around group = flat_map (neighbours commands) group

  leads-out : (group : List Supply) → is_closed commands group ≡ false → (b : Supply) × IsIn b (around group) × (is_among b group ≡ false)
  leads-out group e =
      let from = some-fails (λ a. list_all (λ b. is_among b group) (neighbours commands a)) group e in
      let found = some-fails (λ b. is_among b group) (neighbours commands from.0) from.2 in
      (found.0, in-all (neighbours commands) group from.0 found.0 from.1 found.1, found.2)

  stays : (group : List Supply) → is_closed commands group ≡ true → widened commands group ≡ group
  stays group closed = unchanged (around group) group there
    where
      there : (b : Supply) → IsIn b (around group) → is_among b group ≡ true
      there b h =
          let from = of-all (neighbours commands) group b h in
          all-in commands (λ y. is_among y group) (neighbours commands from.0) b (all-in commands (λ x. list_all (λ y. is_among y group) (neighbours commands x)) group from.0 closed from.1) from.2

  widens : (group : List Supply) → is_closed commands group ≡ false → suc (length group) ≤ length (widened commands group)
  widens group e = let out = leads-out group e in longer (around group) group out.0 out.1 out.2

  apart-found : (fuel : ℕ) (a : Supply) → IsApart (group_of commands fuel a)
  apart-found zero a = (λ h. h, tt)
  apart-found (suc fuel) a = apart-added (around (group_of commands fuel a)) (group_of commands fuel a) (apart-found fuel a)

  -- after so many steps nothing leads out, or there are more than so many
  closed-or-more : (fuel : ℕ) (a : Supply) → (is_closed commands (group_of commands fuel a) ≡ true) ⊎ (suc fuel ≤ length (group_of commands fuel a))
  closed-or-more zero a = inr (omega arith)
  closed-or-more (suc fuel) a = by (is_closed commands (group_of commands fuel a)) refl (closed-or-more fuel a)
    where
      by : (t : Bool) → is_closed commands (group_of commands fuel a) ≡ t → (is_closed commands (group_of commands fuel a) ≡ true) ⊎ (suc fuel ≤ length (group_of commands fuel a)) → (is_closed commands (group_of commands (suc fuel) a) ≡ true) ⊎ (suc (suc fuel) ≤ length (group_of commands (suc fuel) a))
      by true e before = inl (ap (is_closed commands) (stays (group_of commands fuel a) e) ∙ e)
      by false e (inl closed) = absurd (false≢true (sym e ∙ closed))
      by false e (inr many) = inr (omega (arith, many, widens (group_of commands fuel a) e))

  -- all that is found stands in a list with all that is connected
  found-within : (all : List Supply) → ((x y : Supply) → connected commands x y ≡ true → is_among y all ≡ true) → (fuel : ℕ) (a b : Supply) → IsIn b (group_of commands fuel a) → IsIn b (a ∷ all)
  found-within all named zero a b h = elim h [ inl is ↦ inl is | inr none ↦ absurd none ]
  found-within all named (suc fuel) a b h = elim (in-added commands (around (group_of commands fuel a)) (group_of commands fuel a) b h) [
    | inl old ↦ found-within all named fuel a b old
    | inr new ↦ let from = from-group commands (group_of commands fuel a) b new in inr (among-in b all (named from.0 b from.2))
  ]

  pub whole-closed : (all : List Supply) (fuel : ℕ) (a : Supply) → ((x y : Supply) → connected commands x y ≡ true → is_among y all ≡ true) → length all ≤ fuel → is_closed commands (group_of commands fuel a) ≡ true
  whole-closed all fuel a named enough = by (is_closed commands (group_of commands fuel a)) refl (closed-or-more fuel a)
    where
      few : length (group_of commands (suc fuel) a) ≤ suc (length all)
      few = no-longer (group_of commands (suc fuel) a) (a ∷ all) (apart-found (suc fuel) a) (found-within all named (suc fuel) a)

      by : (t : Bool) → is_closed commands (group_of commands fuel a) ≡ t → (is_closed commands (group_of commands fuel a) ≡ true) ⊎ (suc fuel ≤ length (group_of commands fuel a)) → is_closed commands (group_of commands fuel a) ≡ true
      by true e before = e
      by false e (inl closed) = closed
      by false e (inr many) = absurd (omega (arith, many, widens (group_of commands fuel a) e, few, enough))
