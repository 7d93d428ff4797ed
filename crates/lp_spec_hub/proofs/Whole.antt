-- In the whole plan the operators of a way are those of the chain of its bit, each with its number.
use Rattle.std.proofs.Common.{◌≡◌, ◌≤◌, ℕ, zero, suc, ◌+◌, Bool, true, false, cond, List, [], ◌∷◌, ◌++◌, map, length, Option, Some, None, inl, inr, refl, sym, ap, ◌∙◌, arith}
use Rattle.std.specs.Prelude.{filter, flat_map, is_some, slice_get, option_and_then}
use Rattle.std.proofs.lemmas.Bool.{false≢true}
use Rattle.lp_model.specs.LibraryView.{CellView}
use Rattle.lp_spec_design.specs.Keys.{Path, Way, same_way}
use Rattle.lp_spec_design.specs.Netlists.{first}
use Rattle.lp_spec_design.specs.Nodes.{fuel_of}
use Rattle.lp_spec_design.specs.Graph.{and_more, some_of, numbered}
use Rattle.lp_spec_design.specs.Domains.{BoundaryBit, boundary, way_of}
use Rattle.lp_spec_design.specs.Winners.{IsIn, crossing}
use Rattle.lp_spec_design.specs.Chains.{Operator, chain, bit_of_way}
use Rattle.lp_spec_design.specs.Settled.{rail_of, operators_of}
use Rattle.lp_spec_design.proofs.Members.{in-flat}
use Rattle.lp_spec_realises.specs.Projects.{Project, network_of, design_of}
use Rattle.lp_spec_realises.specs.Operators.{OperatorAt, operators_of_bit, chain_of}
use Rattle.lp_spec_realises.specs.Implements.{Lists, operator_path, operator_chosen}
use Rattle.lp_spec_written.specs.Places.{Standing, cell_numbered, standing_at, standing, plan}
use Rattle.lp_spec_hub.specs.Spots.{on_way}
use Rattle.lp_spec_hub.specs.Entries.{HasAll, HasItsCells, HasWaysApart, HasWaysFromBits, standing_of, IsNumber}

-- ---- lists

some-append : {A B : Type 0} (f : A → Option B) (xs ys : List A) → some_of f (xs ++ ys) ≡ some_of f xs ++ some_of f ys
some-append f [] ys = refl
some-append f (x ∷ xs) ys = ap (and_more (f x)) (some-append f xs ys) ∙ by (f x)
  where
    by : (o : Option _) → and_more o (some_of f xs ++ some_of f ys) ≡ and_more o (some_of f xs) ++ some_of f ys
    by None = refl
    by (Some y) = refl

pub way-append : (xs ys : List Standing) (w : Way) → on_way (xs ++ ys) w ≡ on_way xs w ++ on_way ys w
way-append [] ys w = refl
way-append (x ∷ xs) ys w = by (same_way (way_of x.asked.bit) w) (way-append xs ys w)
  where
    by : (b : Bool) → on_way (xs ++ ys) w ≡ on_way xs w ++ on_way ys w → cond b (x ∷ on_way (xs ++ ys) w) (on_way (xs ++ ys) w) ≡ cond b (x ∷ on_way xs w) (on_way xs w) ++ on_way ys w
    by true more = ap (λ r. x ∷ r) more
    by false more = more

pub append-none : (xs : List Standing) → xs ++ [] ≡ xs
append-none [] = refl
append-none (x ∷ xs) = ap (λ r. x ∷ r) (append-none xs)

-- ---- operators that stand

module _ (p : Project) (l : Lists) where
  asked-at : (o : OperatorAt) (x : Option Path) (s : Standing) → standing_at p l o x ≡ Some s → s.asked ≡ o
  asked-at o None s e = absurd cc
  asked-at o (Some x) s e = by (cell_numbered p (operator_chosen p l x o.operator)) e
    where
      by : (c : Option CellView) → option_and_then (λ c. Some (record { asked = o; path = x; cell = c })) c ≡ Some s → s.asked ≡ o
      by None e = absurd cc
      by (Some c) e = let same : record { asked = o; path = x; cell = c } ≡ s = inside e in ap (λ (t : Standing). t.asked) (sym same)
        where
          inside : {a b : Standing} → Some a ≡ Some b → a ≡ b
          inside e = cc

  asked : (o : OperatorAt) (s : Standing) → standing p l o ≡ Some s → s.asked ≡ o
  asked o s e = asked-at o (operator_path p o) s e

  module _ (b : BoundaryBit) where
    abbrev numbered_at : ℕ × Operator → OperatorAt
    numbered_at x = record { bit = b; number = x.0; operator = x.1 }

    abbrev from : ℕ → List Operator → List Standing
    from k operators = some_of (standing p l) (map numbered_at (numbered k operators))

    on-bit : (w : Way) (c : Bool) → same_way (way_of b) w ≡ c → (k : ℕ) (operators : List Operator) → on_way (from k operators) w ≡ cond c (from k operators) []
    on-bit w true is k [] = refl
    on-bit w false is k [] = refl
    on-bit w c is k (o ∷ operators) = by (standing p l (numbered_at (k, o))) refl (on-bit w c is (k + 1) operators)
      where
        here : (c : Bool) (s : Standing) → on_way (from (k + 1) operators) w ≡ cond c (from (k + 1) operators) [] → cond c (s ∷ on_way (from (k + 1) operators) w) (on_way (from (k + 1) operators) w) ≡ cond c (s ∷ from (k + 1) operators) []
        here true s more = ap (λ r. s ∷ r) more
        here false s more = more

        by : (s : Option Standing) → standing p l (numbered_at (k, o)) ≡ s → on_way (from (k + 1) operators) w ≡ cond c (from (k + 1) operators) [] → on_way (and_more s (from (k + 1) operators)) w ≡ cond c (and_more s (from (k + 1) operators)) []
        by None e more = more
        by (Some s) e more =
            ap (λ d. cond d (s ∷ on_way (from (k + 1) operators) w) (on_way (from (k + 1) operators) w)) (ap (λ (a : OperatorAt). same_way (way_of a.bit) w) (asked (numbered_at (k, o)) s e) ∙ is)
            ∙ here c s more

    -- each operator from a number on has its cell
    abbrev Chosen : ℕ → List Operator → Type 0
    Chosen k operators = (o : OperatorAt) → IsIn o (map numbered_at (numbered k operators)) → is_some (standing p l o) ≡ true

    length-from : (k : ℕ) (operators : List Operator) → Chosen k operators → length (from k operators) ≡ length operators
    length-from k [] all = refl
    length-from k (o ∷ operators) all = by (standing p l (numbered_at (k, o))) (all (numbered_at (k, o)) (inl refl)) (length-from (k + 1) operators (λ q h. all q (inr h)))
      where
        by : (s : Option Standing) → is_some s ≡ true → length (from (k + 1) operators) ≡ length operators → length (and_more s (from (k + 1) operators)) ≡ suc (length operators)
        by None h more = absurd (false≢true h)
        by (Some s) h more = ap suc more

    -- operator n from a number on
    number-from : (k : ℕ) (operators : List Operator) → Chosen k operators → (n : ℕ) (s : Standing) → slice_get (from k operators) n ≡ Some s → (o : Operator) × (slice_get operators n ≡ Some o) × (s.asked ≡ numbered_at (k + n, o))
    number-from k [] all n s e = absurd cc
    number-from k (o ∷ operators) all n s e = by (standing p l (numbered_at (k, o))) refl (all (numbered_at (k, o)) (inl refl)) n e (λ m. number-from (k + 1) operators (λ q h. all q (inr h)) m s)
      where
        by : (t : Option Standing) → standing p l (numbered_at (k, o)) ≡ t → is_some t ≡ true → (n : ℕ) → slice_get (and_more t (from (k + 1) operators)) n ≡ Some s
            → ((m : ℕ) → slice_get (from (k + 1) operators) m ≡ Some s → (q : Operator) × (slice_get operators m ≡ Some q) × (s.asked ≡ numbered_at ((k + 1) + m, q)))
            → (q : Operator) × (slice_get (o ∷ operators) n ≡ Some q) × (s.asked ≡ numbered_at (k + n, q))
        by None is h n e more = absurd (false≢true h)
        by (Some t) is h zero e more =
            let same : t ≡ s = cc in
            let number : k ≡ k + 0 = omega arith in
            (o, refl, ap (λ (r : Standing). r.asked) (sym same) ∙ (asked (numbered_at (k, o)) t is ∙ ap (λ m. numbered_at (m, o)) number))
        by (Some t) is h (suc n) e more =
            let found = more n e in
            let number : (k + 1) + n ≡ k + suc n = omega arith in
            (found.0, found.1, found.2 ∙ ap (λ m. numbered_at (m, found.0)) number)

  -- what is among them stands so
  standing-from : (all : List OperatorAt) (k : ℕ) (s : Standing) → slice_get (some_of (standing p l) all) k ≡ Some s → standing p l s.asked ≡ Some s
  standing-from [] k s e = absurd cc
  standing-from (o ∷ all) k s e = by (standing p l o) refl k e (λ n. standing-from all n s)
    where
      by : (t : Option Standing) → standing p l o ≡ t → (k : ℕ) → slice_get (and_more t (some_of (standing p l) all)) k ≡ Some s → ((n : ℕ) → slice_get (some_of (standing p l) all) n ≡ Some s → standing p l s.asked ≡ Some s) → standing p l s.asked ≡ Some s
      by None is k e more = more k e
      by (Some t) is zero e more = let same : t ≡ s = cc in ap (standing p l) (ap (λ (r : Standing). r.asked) (sym same) ∙ asked o t is) ∙ (is ∙ e)
      by (Some t) is (suc k) e more = more k e

  -- ---- all boundary bits

  abbrev bits_on : List BoundaryBit → Way → List BoundaryBit
  bits_on bits w = filter (λ (b : BoundaryBit). same_way (way_of b) w) bits

  abbrev of_bits : List BoundaryBit → List Standing
  of_bits bits = some_of (standing p l) (flat_map (operators_of_bit p) bits)

  on-first : (b : BoundaryBit) (bits : List BoundaryBit) (w : Way) (c : Bool) → same_way (way_of b) w ≡ c → on_way (of_bits (b ∷ bits)) w ≡ cond c (standing_of p l (Some b)) [] ++ on_way (of_bits bits) w
  on-first b bits w c is =
      ap (λ r. on_way r w) (some-append (standing p l) (operators_of_bit p b) (flat_map (operators_of_bit p) bits))
      ∙ (way-append (standing_of p l (Some b)) (of_bits bits) w
      ∙ ap (λ r. r ++ on_way (of_bits bits) w) (on-bit b w c is 0 (chain_of p b)))

  none-on : (bits : List BoundaryBit) (w : Way) → length (bits_on bits w) ≤ 0 → on_way (of_bits bits) w ≡ []
  none-on [] w h = refl
  none-on (b ∷ bits) w h = by (same_way (way_of b) w) refl h (none-on bits w)
    where
      by : (c : Bool) → same_way (way_of b) w ≡ c → length (cond c (b ∷ bits_on bits w) (bits_on bits w)) ≤ 0 → (length (bits_on bits w) ≤ 0 → on_way (of_bits bits) w ≡ []) → on_way (of_bits (b ∷ bits)) w ≡ []
      by true is h more = absurd (omega (arith, h))
      by false is h more = on-first b bits w false is ∙ more h

  on-bits : (bits : List BoundaryBit) (w : Way) → length (bits_on bits w) ≤ 1 → on_way (of_bits bits) w ≡ standing_of p l (first (λ (b : BoundaryBit). same_way (way_of b) w) bits)
  on-bits [] w h = refl
  on-bits (b ∷ bits) w h = by (same_way (way_of b) w) refl h (on-bits bits w)
    where
      by : (c : Bool) → same_way (way_of b) w ≡ c → length (cond c (b ∷ bits_on bits w) (bits_on bits w)) ≤ 1
          → (length (bits_on bits w) ≤ 1 → on_way (of_bits bits) w ≡ standing_of p l (first (λ (b : BoundaryBit). same_way (way_of b) w) bits))
          → on_way (of_bits (b ∷ bits)) w ≡ standing_of p l (cond c (Some b) (first (λ (b : BoundaryBit). same_way (way_of b) w) bits))
      by true is h more =
          let less : length (bits_on bits w) ≤ 0 = omega (arith, h) in
          on-first b bits w true is ∙ (ap (λ r. standing_of p l (Some b) ++ r) (none-on bits w less) ∙ append-none (standing_of p l (Some b)))
      by false is h more = on-first b bits w false is ∙ more h

  module _ (apart : HasWaysApart p) where
    pub way-of-plan : (w : Way) → on_way (plan p l).operators w ≡ standing_of p l (bit_of_way p.structure p.intent w)
    way-of-plan w = on-bits (boundary p.structure p.intent) w (apart w)

    module _ (cells : HasItsCells p l) where
      chosen : (b : BoundaryBit) → IsIn b (boundary p.structure p.intent) → Chosen b 0 (chain_of p b)
      chosen b h o there = cells o (in-flat (operators_of_bit p) b o (boundary p.structure p.intent) h there)

      found-in : (bits : List BoundaryBit) (t : BoundaryBit → Bool) (b : BoundaryBit) → first t bits ≡ Some b → IsIn b bits
      found-in [] t b e = absurd cc
      found-in (c ∷ bits) t b e = by (t c) e (found-in bits t b)
        where
          by : (d : Bool) → cond d (Some c) (first t bits) ≡ Some b → (first t bits ≡ Some b → IsIn b bits) → IsIn b (c ∷ bits)
          by true e more = let same : b ≡ c = cc in inl same
          by false e more = inr (more e)

      pub bit-in : (w : Way) (b : BoundaryBit) → bit_of_way p.structure p.intent w ≡ Some b → IsIn b (boundary p.structure p.intent)
      bit-in w b e = found-in (boundary p.structure p.intent) (λ (c : BoundaryBit). same_way (way_of c) w) b e

      -- the operator that is asked for stands so
      pub of-standing : (w : Way) (b : BoundaryBit) → bit_of_way p.structure p.intent w ≡ Some b → (k : ℕ) (o : Standing) → slice_get (on_way (plan p l).operators w) k ≡ Some o → standing p l o.asked ≡ Some o
      of-standing w b e k o is = standing-from (operators_of_bit p b) k o (ap (λ r. slice_get r k) (sym (way-of-plan w ∙ ap (standing_of p l) e)) ∙ is)

      pub numbers : (w : Way) (b : BoundaryBit) → bit_of_way p.structure p.intent w ≡ Some b → (k : ℕ) (o : Standing) → slice_get (on_way (plan p l).operators w) k ≡ Some o → IsNumber p b k o
      numbers w b e k o is =
          let all = chosen b (bit-in w b e) in
          let here : slice_get (from b 0 (chain_of p b)) k ≡ Some o = ap (λ r. slice_get r k) (sym (way-of-plan w ∙ ap (standing_of p l) e)) ∙ is in
          let found = number-from b 0 (chain_of p b) all k o here in
          let number : 0 + k ≡ k = omega arith in
          record {
            bit = ap (λ (q : OperatorAt). q.bit) found.2;
            number = ap (λ (q : OperatorAt). q.number) found.2 ∙ number;
            operator = found.1 ∙ ap (λ (q : OperatorAt). Some q.operator) (sym found.2);
          }

      module _ (ways : HasWaysFromBits p) where
        pub has-all : HasAll p (plan p l).operators
        has-all k j w e = ap length (way-of-plan w) ∙ by (bit_of_way p.structure p.intent w) refl
          where
            by : (c : Option BoundaryBit) → bit_of_way p.structure p.intent w ≡ c → length (standing_of p l c) ≡ length (operators_of (design_of p) w (rail_of (design_of p) j))
            by None is = rw is refl
            by (Some b) is =
                length-from b 0 (chain_of p b) (chosen b (bit-in w b is))
                ∙ (ap (λ i. length (chain (network_of p) p.intent (crossing p.structure p.intent (fuel_of p.structure) b) (rail_of (design_of p) i))) (ways k j w b e is)
                ∙ sym (rw is refl))
