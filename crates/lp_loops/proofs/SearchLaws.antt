-- What each step of a search for a way back to its root keeps, over its lists.
use Rattle.std.proofs.Common.{◌≡◌, ◌≢◌, ◌≤◌, ◌<◌, ◌+◌, ℕ, Bool, true, false, List, [], ◌∷◌, ◌++◌, length, get_or, inl, inr, refl, ap, sym, ◌∙◌, subst, arith, length-set, get_or-set_same, get_or-set_other}
use Rattle.std.specs.List.{Contains}
use Rattle.std.specs.Prelude.{replicate, sum_by, slice_set as set}
use Rattle.std.proofs.lemmas.Bool.{cases_lt, cases_eq, true≢false}
use Rattle.std.proofs.lemmas.List.Sums.{sum_by-set}
use Rattle.std.proofs.lemmas.List.{get_or_past, get_or-replicate, get_or_default, length-replicate, length_push, nil_from_length}
use Rattle.std.proofs.lemmas.List.Elements.{Contains-get_or, Contains-push, Contains-push_cases, Contains-append_left}
use Rattle.lp_order.specs.Order.{row_of, Reads, Reaches, one_read, more_reads, HasLoop}
use Rattle.lp_order.proofs.OrderLaws.{Contains-first, Contains-behind, Contains-cons_cases, Reaches-within, Reaches-trans}
use Rattle.lp_loops.specs.Search.{is_met, IsPassed, IsSearch, still, keys_left, Follows}
use Rattle.lp_loops.specs.declared.search.Search.{Search}

-- only a key of the list was met
pub met_within : (met : List Bool) (k : ℕ) → is_met met k ≡ true → k < length met
met_within met k e =
    elim (cases_lt k (length met)) [
      | inl h ↦ h
      | inr h ↦ absurd (true≢false (sym e ∙ get_or_past met k false h))
    ]

met_more : (met : List Bool) (key k : ℕ) → key < length met → is_met met k ≡ true → is_met (set met key true) k ≡ true
met_more met key k h e =
    elim (cases_eq k key) [
      | inl same ↦ subst (λ (x : ℕ). is_met (set met key true) x ≡ true) (sym same) (get_or-set_same met key true false h)
      | inr other ↦ get_or-set_other met key k true false other ∙ e
    ]

passed_more : (root : ℕ) (met : List Bool) (key b : ℕ) → key < length met → IsPassed root met b → IsPassed root (set met key true) b
passed_more root met key b h p = (p.0, elim p.1 [ inl low ↦ inl low | inr e ↦ inr (met_more met key b h e) ])

module _ (graph : List (List ℕ)) (root : ℕ) where
  -- a read of a key that was met is reached from the root
  pub reads_on : (met : List Bool) (waiting : List ℕ) (key b : ℕ) → IsSearch graph root met waiting → is_met met key ≡ true → Reads graph key b → Reaches graph root b
  reads_on met waiting key b s e r =
      elim (s.reached key e) [
        | inl same ↦ one_read (subst (λ k. Reads graph k b) same r)
        | inr far ↦ Reaches-trans graph root key b far (one_read r)
      ]

  pub search-meet : (met : List Bool) (waiting : List ℕ) (key b : ℕ) → IsSearch graph root met waiting → is_met met key ≡ true → Reads graph key b → b < length met → IsSearch graph root (set met b true) (waiting ++ b ∷ [])
  search-meet met waiting key b s e r h = record {
    counted = length-set met b true ∙ s.counted;
    begun = met_more met b root h s.begun;
    reached = λ k m. elim (cases_eq k b) [
      | inl same ↦ inr (subst (Reaches graph root) (sym same) (reads_on met waiting key b s e r))
      | inr other ↦ s.reached k (sym (get_or-set_other met b k true false other) ∙ m)
    ];
    waits = λ k c. elim (Contains-push_cases waiting b k c) [
      | inl there ↦ met_more met b k h (s.waits k there)
      | inr same ↦ subst (λ (x : ℕ). is_met (set met b true) x ≡ true) same (get_or-set_same met b true false h)
    ];
    followed = λ k m. elim (cases_eq k b) [
      | inl same ↦ inl (subst (Contains (waiting ++ b ∷ [])) (sym same) (Contains-push waiting b))
      | inr other ↦ elim (s.followed k (sym (get_or-set_other met b k true false other) ∙ m)) [
        | inl there ↦ inl (Contains-append_left waiting (b ∷ []) k there)
        | inr all ↦ inr (λ c d. passed_more root met b c h (all c d))
      ]
    ];
  }

  pub search-over : (met : List Bool) (waiting : List ℕ) (key : ℕ) → IsSearch graph root met (key ∷ waiting) → ((b : ℕ) → Reads graph key b → IsPassed root met b) → IsSearch graph root met waiting
  search-over met waiting key s all = record {
    counted = s.counted;
    begun = s.begun;
    reached = s.reached;
    waits = λ k c. s.waits k (Contains-behind key waiting k c);
    followed = λ k m. elim (s.followed k m) [
      | inl there ↦ elim (Contains-cons_cases key waiting k there) [
        | inl same ↦ inr (λ b r. all b (subst (λ x. Reads graph x b) (sym same) r))
        | inr behind ↦ inl behind
      ]
      | inr f ↦ inr f
    ];
  }

  -- the last key is taken off
  pub search-pop : (met : List Bool) (waiting : List ℕ) (key : ℕ) → IsSearch graph root met (waiting ++ key ∷ []) → IsSearch graph root met (key ∷ waiting)
  search-pop met waiting key s = record {
    counted = s.counted;
    begun = s.begun;
    reached = s.reached;
    waits = λ k c. elim (Contains-cons_cases key waiting k c) [
      | inl same ↦ s.waits k (subst (Contains (waiting ++ key ∷ [])) same (Contains-push waiting key))
      | inr there ↦ s.waits k (Contains-append_left waiting (key ∷ []) k there)
    ];
    followed = λ k m. elim (s.followed k m) [
      | inl there ↦ elim (Contains-push_cases waiting key k there) [
        | inl behind ↦ inl (Contains-behind key waiting k behind)
        | inr same ↦ inl (Contains-first key waiting k same)
      ]
      | inr f ↦ inr f
    ];
  }

  pub search-new : root < length graph → IsSearch graph root (set (replicate (length graph) false) root true) (root ∷ [])
  search-new h =
      let none : List Bool = replicate (length graph) false in
      let in_none : root < length none = omega (arith, length-replicate (length graph) false) in
      let is_root : (k : ℕ) → is_met (set none root true) k ≡ true → k ≡ root = λ k m. elim (cases_eq k root) [
        | inl same ↦ same
        | inr other ↦ absurd (true≢false (sym m ∙ get_or-set_other none root k true false other ∙ none_met (length graph) k))
      ] in
      record {
        counted = length-set none root true ∙ length-replicate (length graph) false;
        begun = get_or-set_same none root true false in_none;
        reached = λ k m. inl (is_root k m);
        waits = λ k c. elim (Contains-cons_cases root [] k c) [
          | inl same ↦ subst (λ (x : ℕ). is_met (set none root true) x ≡ true) same (get_or-set_same none root true false in_none)
          | inr there ↦ absurd (omega (arith, there.1))
        ];
        followed = λ k m. inl (Contains-first root [] k (sym (is_root k m)));
      }
    where
      none_met : (n k : ℕ) → is_met (replicate n false) k ≡ false
      none_met n k =
          elim (cases_lt k n) [
            | inl h ↦ get_or-replicate n k false false h
            | inr h ↦ get_or_past (replicate n false) k false (omega (arith, length-replicate n false))
          ]

  -- where nothing waits, nothing that was met leads to the root
  pub no_way : (met : List Bool) → IsSearch graph root met [] → ((b : ℕ) → b < root → Reaches graph b b → ⊥) → (k : ℕ) → is_met met k ≡ true → Reaches graph k root → ⊥
  no_way met s before k m (one_read r) =
      elim (s.followed k m) [
        | inl there ↦ absurd (omega (arith, there.1))
        | inr all ↦ (all root r).0 refl
      ]
  no_way met s before k m (more_reads {b = b} r t) =
      elim (s.followed k m) [
        | inl there ↦ absurd (omega (arith, there.1))
        | inr all ↦ elim (all b r).1 [
          | inl low ↦ before b low (Reaches-trans graph b root b t (reads_on met [] k b s m r))
          | inr e ↦ no_way met s before b e t
        ]
      ]

-- one key that was not met less, one that waits more
left-meet : (met : List Bool) (waiting : List ℕ) (b : ℕ) → b < length met → is_met met b ≡ false → sum_by still (set met b true) + length (waiting ++ b ∷ []) ≡ sum_by still met + length waiting
left-meet met waiting b h e =
    let same = sum_by-set still met b true false h in
    let weight : still (is_met met b) ≡ 1 = ap still e in
    omega (arith, same, weight, length_push waiting b)

-- a search that has met the first reads of a key
pub record IsFollowing (graph : List (List ℕ)) (root key : ℕ) (old now : Search) (n : ℕ) : Type 0 where
  pub search : IsSearch graph root now.met.items (key ∷ now.waiting.items)
  pub behind : (j : ℕ) → j < n → IsPassed root now.met.items (get_or (row_of graph key) j 0)
  pub no_more : keys_left now ≤ keys_left old

module _ (graph : List (List ℕ)) (root key : ℕ) (old now : Search) (n : ℕ) (f : IsFollowing graph root key old now n) where
  key_met : is_met now.met.items key ≡ true
  key_met = f.search.waits key (Contains-first key now.waiting.items key refl)

  -- the next read
  next_read : (items : List ℕ) → items ≡ row_of graph key → n < length items → Reads graph key (get_or items n 0)
  next_read items e h = subst (λ row. Contains row (get_or items n 0)) e (Contains-get_or items n 0 h)

  -- it is the root
  pub following-back : (items : List ℕ) → items ≡ row_of graph key → n < length items → get_or items n 0 ≡ root → Reaches graph root root
  following-back items e h is =
      subst (Reaches graph root) is (reads_on graph root now.met.items (key ∷ now.waiting.items) key (get_or items n 0) f.search key_met (next_read items e h))

  pub following-pass : (b : ℕ) → get_or (row_of graph key) n 0 ≡ b → IsPassed root now.met.items b → IsFollowing graph root key old now (n + 1)
  following-pass b is p = record {
    search = f.search;
    behind = λ j h. elim (cases_lt j n) [
      | inl low ↦ f.behind j low
      | inr high ↦ let last : j ≡ n = omega (arith, h, high) in subst (λ i. IsPassed root now.met.items (get_or (row_of graph key) i 0)) (sym last) (subst (IsPassed root now.met.items) (sym is) p)
    ];
    no_more = f.no_more;
  }

  pub following-meet : (b : ℕ) (new : Search) → get_or (row_of graph key) n 0 ≡ b → Reads graph key b → b < length now.met.items → b ≢ root → is_met now.met.items b ≡ false → new.met.items ≡ set now.met.items b true → new.waiting.items ≡ now.waiting.items ++ b ∷ [] → IsFollowing graph root key old new (n + 1)
  following-meet b new is r h other e m w =
      let here : is_met (set now.met.items b true) b ≡ true = get_or-set_same now.met.items b true false h in
      record {
        search = subst (λ ms. IsSearch graph root ms (key ∷ new.waiting.items)) (sym m) (subst (λ ks. IsSearch graph root (set now.met.items b true) (key ∷ ks)) (sym w) (search-meet graph root now.met.items (key ∷ now.waiting.items) key b f.search key_met r h));
        behind = λ j low. subst (λ ms. IsPassed root ms (get_or (row_of graph key) j 0)) (sym m) (elim (cases_lt j n) [
          | inl below ↦ passed_more root now.met.items b (get_or (row_of graph key) j 0) h (f.behind j below)
          | inr high ↦ let last : j ≡ n = omega (arith, low, high) in subst (λ i. IsPassed root (set now.met.items b true) (get_or (row_of graph key) i 0)) (sym last) (subst (IsPassed root (set now.met.items b true)) (sym is) (other, inr here))
        ]);
        no_more =
            let same = left-meet now.met.items now.waiting.items b h e in
            let is_now : keys_left new ≡ sum_by still (set now.met.items b true) + length (now.waiting.items ++ b ∷ []) = (λ i. sum_by still (m i) + length (w i)) in
            omega (arith, is_now, same, f.no_more);
      }

  -- it is another
  pub following-next : (items : List ℕ) → items ≡ row_of graph key → n < length items → get_or items n 0 < length now.met.items → get_or items n 0 ≢ root → (new : Search) → (get_or items n 0 < root → new ≡ now) → (is_met now.met.items (get_or items n 0) ≡ true → new ≡ now) → (root ≤ get_or items n 0 → is_met now.met.items (get_or items n 0) ≡ false → new.met.items ≡ set now.met.items (get_or items n 0) true) → (root ≤ get_or items n 0 → is_met now.met.items (get_or items n 0) ≡ false → new.waiting.items ≡ now.waiting.items ++ get_or items n 0 ∷ []) → IsFollowing graph root key old new (n + 1)
  following-next items e h below other new before again met waiting =
      let is : get_or (row_of graph key) n 0 ≡ get_or items n 0 = ap (λ (row : List ℕ). get_or row n 0) (sym e) in
      elim (cases_lt (get_or items n 0) root) [
        | inl low ↦ subst (λ (x : Search). IsFollowing graph root key old x (n + 1)) (sym (before low)) (following-pass (get_or items n 0) is (other, inl low))
        | inr high ↦ by is high (is_met now.met.items (get_or items n 0)) refl
      ]
    where
      by : get_or (row_of graph key) n 0 ≡ get_or items n 0 → root ≤ get_or items n 0 → (v : Bool) → is_met now.met.items (get_or items n 0) ≡ v → IsFollowing graph root key old new (n + 1)
      by is high true m = subst (λ (x : Search). IsFollowing graph root key old x (n + 1)) (sym (again m)) (following-pass (get_or items n 0) is (other, inr m))
      by is high false m = following-meet (get_or items n 0) new is (next_read items e h) below other m (met high m) (waiting high m)

  pub following-over : length (row_of graph key) ≤ n → Follows graph root old now
  following-over all = record {
    search = search-over graph root now.met.items now.waiting.items key f.search
        (λ b r. let at : get_or (row_of graph key) r.0 0 ≡ b = get_or_default (row_of graph key) r.0 0 b r.1 ∙ r.2 in subst (IsPassed root now.met.items) at (f.behind r.0 (omega (arith, r.1, all))));
    no_more = f.no_more;
  }

pub looped_more : (graph : List (List ℕ)) (n : ℕ) → ((b : ℕ) → b < n → Reaches graph b b → ⊥) → (Reaches graph n n → ⊥) → (b : ℕ) → b < n + 1 → Reaches graph b b → ⊥
looped_more graph n before here b h r =
    elim (cases_lt b n) [
      | inl low ↦ before b low r
      | inr high ↦ let last : b ≡ n = omega (arith, h, high) in here (subst (λ x. Reaches graph x x) last r)
    ]

pub looped_none : (graph : List (List ℕ)) (n : ℕ) → length graph ≤ n → ((b : ℕ) → b < n → Reaches graph b b → ⊥) → HasLoop graph → ⊥
looped_none graph n all before (k, r) = before k (omega (arith, all, Reaches-within graph k k r)) r

-- ---- from what the calls ensure

module _ (graph : List (List ℕ)) (root : ℕ) where
  pub search-begun : (n : ℕ) (met : List Bool) (waiting : List ℕ) → n ≡ length graph → root < length graph → met ≡ set (replicate n false) root true → waiting ≡ root ∷ [] → IsSearch graph root met waiting
  search-begun n met waiting e h is_met_list is_waiting =
      let all : met ≡ set (replicate (length graph) false) root true = is_met_list ∙ ap (λ (k : ℕ). set (replicate k false) root true) e in
      subst (λ (ms : List Bool). IsSearch graph root ms waiting) (sym all)
      (subst (IsSearch graph root (set (replicate (length graph) false) root true)) (sym is_waiting) (search-new graph root h))

  pub search-popped : (met : List Bool) (waiting rest : List ℕ) (key : ℕ) → IsSearch graph root met waiting → waiting ≡ rest ++ key ∷ [] → IsSearch graph root met (key ∷ rest)
  search-popped met waiting rest key s e = search-pop graph root met rest key (subst (IsSearch graph root met) e s)

  pub key-below : (met : List Bool) (rest : List ℕ) (key : ℕ) → IsSearch graph root met (key ∷ rest) → key < length graph
  key-below met rest key s = subst (λ n. key < n) s.counted (met_within met key (s.waits key (Contains-first key rest key refl)))

  pub no_way_left : (met : List Bool) (waiting : List ℕ) → IsSearch graph root met waiting → length waiting ≡ 0 → ((b : ℕ) → b < root → Reaches graph b b → ⊥) → Reaches graph root root → ⊥
  no_way_left met waiting s none before = no_way graph root met (subst (IsSearch graph root met) (nil_from_length waiting none) s) before root s.begun
