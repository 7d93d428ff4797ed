-- The closure of the connections, and the groups that are found.
use Rattle.std.proofs.Common.{◌≡◌, ◌⊎◌, ℕ, zero, suc, Bool, true, false, ◌&&◌, ◌||◌, List, [], ◌∷◌, ◌++◌, inl, inr, refl, sym, ap, ◌∙◌, subst}
use Rattle.std.specs.Prelude.{IsTrue, ◌↔◌, map, if◌then◌else◌, flat_map, bytes_eq}
use Rattle.std.specs.List.{list_any, list_all}
use Rattle.std.proofs.lemmas.Bool.{false≢true, and_parts, or_cases, or_left, or_right}
use Rattle.lp_spec_design.specs.Keys.{same_path}
use Rattle.lp_spec_design.specs.Winners.{IsIn}
use Rattle.lp_spec_design.specs.Reads.{name-true, name-self, path-true, path-self}
use Rattle.lp_spec_origins.specs.Commands.{Scoped, same_scoped, Supply, PortAt, NetAt, same_supply, Command, MakesPort, MakesNet, Connects, MakesSwitch, MakesSet, MakesStrategy, MakesRow}
use Rattle.lp_spec_origins.specs.Groups.{connects_by, connected, IsWay, Joined, joined_by, neighbours, is_among, added, group_of, is_closed}

both-true : (a b : Bool) → a ≡ true → b ≡ true → (a && b) ≡ true
both-true a b e f = ap (λ x. x && b) e ∙ f

scoped-true : (a b : Scoped) → same_scoped a b ≡ true → a ≡ b
scoped-true a b e =
    let parts = and_parts (bytes_eq a.name b.name) (same_path a.scope b.scope) e in
    λ r. record { scope = path-true a.scope b.scope parts.1 r; name = name-true a.name b.name parts.0 r }

scoped-self : (a : Scoped) → same_scoped a a ≡ true
scoped-self a = both-true (bytes_eq a.name a.name) (same_path a.scope a.scope) (name-self a.name) (path-self a.scope)

supply-true : (a b : Supply) → same_supply a b ≡ true → a ≡ b
supply-true (PortAt a) (PortAt b) e = ap (λ x. PortAt x) (scoped-true a b e)
supply-true (NetAt a) (NetAt b) e = ap (λ x. NetAt x) (scoped-true a b e)
supply-true (PortAt a) (NetAt b) e = absurd (false≢true e)
supply-true (NetAt a) (PortAt b) e = absurd (false≢true e)

supply-self : (a : Supply) → same_supply a a ≡ true
supply-self (PortAt a) = scoped-self a
supply-self (NetAt a) = scoped-self a

-- ---- members of lists

pub among-in : (a : Supply) (group : List Supply) → is_among a group ≡ true → IsIn a group
among-in a [] e = absurd (false≢true e)
among-in a (b ∷ group) e = elim (or_cases (same_supply a b) (is_among a group) e) [ inl here ↦ inl (supply-true a b here) | inr rest ↦ inr (among-in a group rest) ]

pub in-among : (a : Supply) (group : List Supply) → IsIn a group → is_among a group ≡ true
in-among a [] h = absurd h
in-among a (b ∷ group) h = elim h [ inl is ↦ or_left (same_supply a b) (is_among a group) (ap (λ x. same_supply a x) (sym is) ∙ supply-self a) | inr rest ↦ or_right (same_supply a b) (is_among a group) (in-among a group rest) ]

pub in-left : (a : Supply) (xs ys : List Supply) → IsIn a xs → IsIn a (xs ++ ys)
in-left a [] ys h = absurd h
in-left a (x ∷ xs) ys h = elim h [ inl is ↦ inl is | inr rest ↦ inr (in-left a xs ys rest) ]

pub in-right : (a : Supply) (xs ys : List Supply) → IsIn a ys → IsIn a (xs ++ ys)
in-right a [] ys h = h
in-right a (x ∷ xs) ys h = inr (in-right a xs ys h)

pub in-either : (a : Supply) (xs ys : List Supply) → IsIn a (xs ++ ys) → IsIn a xs ⊎ IsIn a ys
in-either a [] ys h = inr h
in-either a (x ∷ xs) ys h = elim h [
  | inl is ↦ inl (inl is)
  | inr rest ↦ elim (in-either a xs ys rest) [ inl left ↦ inl (inr left) | inr right ↦ inr right ]
]

scoped-in : (p : Scoped) (ports : List Scoped) → list_any (same_scoped p) ports ≡ true → IsIn (PortAt p) (map (λ q. PortAt q) ports)
scoped-in p [] e = absurd (false≢true e)
scoped-in p (q ∷ ports) e = elim (or_cases (same_scoped p q) (list_any (same_scoped p) ports) e) [ inl here ↦ inl (ap (λ x. PortAt x) (scoped-true p q here)) | inr rest ↦ inr (scoped-in p ports rest) ]

-- a port among ports, and a net never
in-scoped : (a : Supply) (ports : List Scoped) → IsIn a (map (λ q. PortAt q) ports) → (p : Scoped) × (a ≡ PortAt p) × (list_any (same_scoped p) ports ≡ true)
in-scoped a [] h = absurd h
in-scoped a (q ∷ ports) h = elim h [
  | inl is ↦ (q, is, or_left (same_scoped q q) (list_any (same_scoped q) ports) (scoped-self q))
  | inr rest ↦ let found = in-scoped a ports rest in (found.0, found.1, or_right (same_scoped found.0 q) (list_any (same_scoped found.0) ports) found.2)
]

-- ---- neighbours are what is connected

forth : (a b : Supply) (c : Command) → connects_by a b c ≡ true → IsIn b (joined_by a c)
forth (NetAt n) (PortAt p) (Connects m ports) e =
    let parts = and_parts (same_scoped n m) (list_any (same_scoped p) ports) e in
    rw (parts.0) (scoped-in p ports parts.1)
forth (NetAt n) (PortAt p) (MakesPort q i) e = absurd (false≢true e)
forth (NetAt n) (PortAt p) (MakesNet q) e = absurd (false≢true e)
forth (NetAt n) (PortAt p) (MakesSwitch w) e = absurd (false≢true e)
forth (NetAt n) (PortAt p) (MakesSet k) e = absurd (false≢true e)
forth (NetAt n) (PortAt p) MakesStrategy e = absurd (false≢true e)
forth (NetAt n) (PortAt p) MakesRow e = absurd (false≢true e)
forth (NetAt n) (NetAt p) c e = absurd (false≢true e)
forth (PortAt n) b c e = absurd (false≢true e)

back : (a b : Supply) (c : Command) → connects_by b a c ≡ true → IsIn b (joined_by a c)
back (PortAt p) (NetAt n) (Connects m ports) e =
    let parts = and_parts (same_scoped n m) (list_any (same_scoped p) ports) e in
    rw (parts.1) (inl (ap (λ x. NetAt x) (scoped-true n m parts.0)))
back (PortAt p) (NetAt n) (MakesPort q i) e = absurd (false≢true e)
back (PortAt p) (NetAt n) (MakesNet q) e = absurd (false≢true e)
back (PortAt p) (NetAt n) (MakesSwitch w) e = absurd (false≢true e)
back (PortAt p) (NetAt n) (MakesSet k) e = absurd (false≢true e)
back (PortAt p) (NetAt n) MakesStrategy e = absurd (false≢true e)
back (PortAt p) (NetAt n) MakesRow e = absurd (false≢true e)
back (NetAt p) (NetAt n) c e = absurd (false≢true e)
back a (PortAt n) c e = absurd (false≢true e)

by-one : (a b : Supply) (c : Command) → IsIn b (joined_by a c) → (connects_by a b c || connects_by b a c) ≡ true
by-one (NetAt n) b (Connects m ports) h = by (same_scoped n m) refl h
  where
    by : (t : Bool) → same_scoped n m ≡ t → IsIn b (if t then map (λ q. PortAt q) ports else []) → (connects_by (NetAt n) b (Connects m ports) || connects_by b (NetAt n) (Connects m ports)) ≡ true
    by true e h =
        let found = in-scoped b ports h in
        subst (λ x. (connects_by (NetAt n) x (Connects m ports) || connects_by x (NetAt n) (Connects m ports)) ≡ true) (sym found.1)
        (or_left (same_scoped n m && list_any (same_scoped found.0) ports) false (both-true (same_scoped n m) (list_any (same_scoped found.0) ports) e found.2))
    by false e h = absurd h
by-one (PortAt p) b (Connects m ports) h = by (list_any (same_scoped p) ports) refl h
  where
    by : (t : Bool) → list_any (same_scoped p) ports ≡ t → IsIn b (if t then NetAt m ∷ [] else []) → (connects_by (PortAt p) b (Connects m ports) || connects_by b (PortAt p) (Connects m ports)) ≡ true
    by true e h = elim h [
      | inl is ↦ subst (λ x. (connects_by (PortAt p) x (Connects m ports) || connects_by x (PortAt p) (Connects m ports)) ≡ true) (sym is) (both-true (same_scoped m m) (list_any (same_scoped p) ports) (scoped-self m) e)
      | inr none ↦ absurd none
    ]
    by false e h = absurd h
by-one (NetAt n) b (MakesPort q i) h = absurd h
by-one (NetAt n) b (MakesNet q) h = absurd h
by-one (NetAt n) b (MakesSwitch w) h = absurd h
by-one (NetAt n) b (MakesSet k) h = absurd h
by-one (NetAt n) b MakesStrategy h = absurd h
by-one (NetAt n) b MakesRow h = absurd h
by-one (PortAt n) b (MakesPort q i) h = absurd h
by-one (PortAt n) b (MakesNet q) h = absurd h
by-one (PortAt n) b (MakesSwitch w) h = absurd h
by-one (PortAt n) b (MakesSet k) h = absurd h
by-one (PortAt n) b MakesStrategy h = absurd h
by-one (PortAt n) b MakesRow h = absurd h

to-neighbour : (commands : List Command) (a b : Supply) → connected commands a b ≡ true → IsIn b (neighbours commands a)
to-neighbour [] a b e = absurd (false≢true e)
to-neighbour (c ∷ commands) a b e =
    elim (or_cases (connects_by a b c || connects_by b a c) (connected commands a b) e) [
      | inl here ↦ in-left b (joined_by a c) (neighbours commands a) (elim (or_cases (connects_by a b c) (connects_by b a c) here) [ inl f ↦ forth a b c f | inr g ↦ back a b c g ])
      | inr rest ↦ in-right b (joined_by a c) (neighbours commands a) (to-neighbour commands a b rest)
    ]

of-neighbour : (commands : List Command) (a b : Supply) → IsIn b (neighbours commands a) → connected commands a b ≡ true
of-neighbour [] a b h = absurd h
of-neighbour (c ∷ commands) a b h =
    elim (in-either b (joined_by a c) (neighbours commands a) h) [
      | inl here ↦ or_left (connects_by a b c || connects_by b a c) (connected commands a b) (by-one a b c here)
      | inr rest ↦ or_right (connects_by a b c || connects_by b a c) (connected commands a b) (of-neighbour commands a b rest)
    ]

turned : (commands : List Command) (a b : Supply) → connected commands a b ≡ true → connected commands b a ≡ true
turned [] a b e = absurd (false≢true e)
turned (c ∷ commands) a b e = elim (or_cases (connects_by a b c || connects_by b a c) (connected commands a b) e) [
  | inl here ↦ or_left (connects_by b a c || connects_by a b c) (connected commands b a) (elim (or_cases (connects_by a b c) (connects_by b a c) here) [ inl f ↦ or_right (connects_by b a c) (connects_by a b c) f | inr g ↦ or_left (connects_by b a c) (connects_by a b c) g ])
  | inr rest ↦ or_right (connects_by b a c || connects_by a b c) (connected commands b a) (turned commands a b rest)
]

-- ---- the relation

module _ (commands : List Command) where
  further : (a b c : Supply) (way : List Supply) → IsWay commands a way b → Joined commands b c → Joined commands a c
  further a b c [] e j = subst (λ x. Joined commands x c) (sym e) j
  further a b c (k ∷ way) e j = let rest = further k b c way e.1 j in (k ∷ rest.0, (e.0, rest.1))

  pub joined-self : (a : Supply) → Joined commands a a
  joined-self a = ([], refl)

  pub joined-one : (a b : Supply) → connected commands a b ≡ true → Joined commands a b
  joined-one a b e = (b ∷ [], (e, refl))

  pub joined-on : (a b c : Supply) → Joined commands a b → Joined commands b c → Joined commands a c
  joined-on a b c j k = further a b c j.0 j.1 k

  turned-way : (a b : Supply) (way : List Supply) → IsWay commands a way b → Joined commands b a
  turned-way a b [] e = ([], sym e)
  turned-way a b (k ∷ way) e = joined-on b k a (turned-way k b way e.1) (joined-one k a (turned commands a k e.0))

  pub joined-back : (a b : Supply) → Joined commands a b → Joined commands b a
  joined-back a b j = turned-way a b j.0 j.1

  -- ---- what is found

  pub in-added : (more group : List Supply) (b : Supply) → IsIn b (added group more) → IsIn b group ⊎ IsIn b more
  in-added [] group b h = inl h
  in-added (a ∷ more) group b h = by (is_among a group) (λ g. in-added more g b) h
    where
      by : (t : Bool) → ((g : List Supply) → IsIn b (added g more) → IsIn b g ⊎ IsIn b more) → IsIn b (if t then added group more else added (group ++ a ∷ []) more) → IsIn b group ⊎ IsIn b (a ∷ more)
      by true found h = elim (found group h) [ inl l ↦ inl l | inr r ↦ inr (inr r) ]
      by false found h = elim (found (group ++ a ∷ []) h) [
        | inl l ↦ elim (in-either b group (a ∷ []) l) [ inl old ↦ inl old | inr new ↦ inr (elim new [ inl is ↦ inl is | inr none ↦ absurd none ]) ]
        | inr r ↦ inr (inr r)
      ]

  kept-added : (more group : List Supply) (b : Supply) → IsIn b group → IsIn b (added group more)
  kept-added [] group b h = h
  kept-added (a ∷ more) group b h = by (is_among a group) (λ g m. kept-added more g b m)
    where
      by : (t : Bool) → ((g : List Supply) → IsIn b g → IsIn b (added g more)) → IsIn b (if t then added group more else added (group ++ a ∷ []) more)
      by true kept = kept group h
      by false kept = kept (group ++ a ∷ []) (in-left b group (a ∷ []) h)

  pub from-group : (group : List Supply) (b : Supply) → IsIn b (flat_map (neighbours commands) group) → (a : Supply) × IsIn a group × (connected commands a b ≡ true)
  from-group [] b h = absurd h
  from-group (a ∷ group) b h = elim (in-either b (neighbours commands a) (flat_map (neighbours commands) group) h) [
    | inl here ↦ (a, inl refl, of-neighbour commands a b here)
    | inr rest ↦ let found = from-group group b rest in (found.0, inr found.1, found.2)
  ]

  found-joined : (fuel : ℕ) (a b : Supply) → IsIn b (group_of commands fuel a) → Joined commands a b
  found-joined zero a b h = elim h [ inl is ↦ ([], sym is) | inr none ↦ absurd none ]
  found-joined (suc fuel) a b h = elim (in-added (flat_map (neighbours commands) (group_of commands fuel a)) (group_of commands fuel a) b h) [
    | inl old ↦ found-joined fuel a b old
    | inr new ↦ let from = from-group (group_of commands fuel a) b new in joined-on a from.0 b (found-joined fuel a from.0 from.1) (joined-one from.0 b from.2)
  ]

  self-found : (fuel : ℕ) (a : Supply) → IsIn a (group_of commands fuel a)
  self-found zero a = inl refl
  self-found (suc fuel) a = kept-added (flat_map (neighbours commands) (group_of commands fuel a)) (group_of commands fuel a) a (self-found fuel a)

  pub all-in : (p : Supply → Bool) (xs : List Supply) (b : Supply) → list_all p xs ≡ true → IsIn b xs → p b ≡ true
  all-in p [] b e h = absurd h
  all-in p (x ∷ xs) b e h = elim h [ inl is ↦ ap p is ∙ (and_parts (p x) (list_all p xs) e).0 | inr rest ↦ all-in p xs b (and_parts (p x) (list_all p xs) e).1 rest ]

  closed-way : (group : List Supply) → is_closed commands group ≡ true → (a : Supply) (way : List Supply) (b : Supply) → IsIn a group → IsWay commands a way b → IsIn b group
  closed-way group closed a [] b h e = subst (λ x. IsIn x group) e h
  closed-way group closed a (k ∷ way) b h e =
      let of_a = all-in (λ x. list_all (λ y. is_among y group) (neighbours commands x)) group a closed h in
      let k_in = all-in (λ y. is_among y group) (neighbours commands a) k of_a (to-neighbour commands a k e.0) in
      closed-way group closed k way b (among-in k group k_in) e.1

  -- where nothing leads out of what was found, it is all that is joined
  pub group-joined : (fuel : ℕ) (a b : Supply) → is_closed commands (group_of commands fuel a) ≡ true → IsTrue (is_among b (group_of commands fuel a)) ↔ Joined commands a b
  group-joined fuel a b closed = (
    λ h. found-joined fuel a b (among-in b (group_of commands fuel a) h),
    λ j. in-among b (group_of commands fuel a) (closed-way (group_of commands fuel a) closed a j.0 b (self-found fuel a) j.1),
  )

  -- any relation that has the connections and is reflexive, symmetric and transitive has all that is joined
  least-way : (R : Supply → Supply → Type 0) → ((a : Supply) → R a a) → ((a b c : Supply) → R a b → R b c → R a c) → ((a b : Supply) → connected commands a b ≡ true → R a b) → (a : Supply) (way : List Supply) (b : Supply) → IsWay commands a way b → R a b
  least-way R self on one a [] b e = subst (λ x. R a x) e (self a)
  least-way R self on one a (k ∷ way) b e = on a k b (one a k e.0) (least-way R self on one k way b e.1)

  pub joined-least : (R : Supply → Supply → Type 0) → ((a : Supply) → R a a) → ((a b c : Supply) → R a b → R b c → R a c) → ((a b : Supply) → connected commands a b ≡ true → R a b) → (a b : Supply) → Joined commands a b → R a b
  joined-least R self on one a b j = least-way R self on one a j.0 b j.1
