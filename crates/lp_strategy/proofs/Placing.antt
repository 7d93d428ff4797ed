-- The first misplaced element by number is that of the line.
use Rattle.std.proofs.Common.{◌≡◌, ◌⊎◌, ◌<◌, ◌+◌, ℕ, zero, suc, Bool, true, false, ◌&&◌, List, [], ◌∷◌, ◌++◌, map, length, Option, Some, None, inl, inr, refl, sym, ap, ◌∙◌, subst, arith}
use Rattle.std.specs.Prelude.{not, nat_lt, slice_get, flat_map, option_map, if◌then◌else◌}
use Rattle.std.specs.List.{list_all}
use Rattle.std.proofs.lemmas.Bool.{ltb-true}
use Rattle.lp_model.specs.declared.fault.strategy.StrategyFault.{StrategyFault}
use Rattle.lp_model.specs.declared.fault.strategy.StrategyFault.TheVariants.{NotBoundary}
use Rattle.lp_model.specs.declared.graph.Graph.{Graph}
use Rattle.lp_model.specs.declared.intent.Element as model_element
use Rattle.lp_model.specs.declared.intent.Element.TheVariants.{Inst, Leaf, Port, Bit}
use Rattle.lp_model.specs.declared.intent.Intent as model
use Rattle.lp_model.specs.declared.intent.Strategy as model_strategy
use Rattle.lp_model.specs.declared.intent.StrategyKind.{StrategyKind}
use Rattle.lp_model.specs.declared.intent.StrategyKind.TheVariants.{Isolation, Shifting, Retention}
use Rattle.lp_spec_design.specs.Netlists.{first}
use Rattle.lp_spec_design.specs.Keys.{Node, Inner, Outer, Fixed}
use Rattle.lp_spec_design.specs.Intents.{Element, Strategy, Intent}
use Rattle.lp_spec_design.specs.Winners.{same_kind}
use Rattle.lp_spec_design.specs.Reads.{one, other, both}
use Rattle.lp_spec_bridge.specs.Tables.{tables_of}
use Rattle.lp_spec_bridge.specs.Keyed.{keys_of, node_at, leaf_at}
use Rattle.lp_spec_realises.specs.Projects.{Project}
use Rattle.lp_spec_faults.specs.Lines.{first_of}
use Rattle.lp_spec_faults.specs.Strategies.{ElementAt, listed_elements, is_retention, names_side, names_register_of, not_boundary}
use Rattle.lp_spec_views.specs.Views.{bit_element, element_view, strategy_view}
use Rattle.lp_spec_views.specs.Ranges.{all_of, has_element, has_elements}
use Rattle.lp_strategy.specs.Sides.{names_side_by, names_register_by, is_placed_by}
use Rattle.lp_strategy.specs.Elements.{listed, misplaced_in, or_later, fault_of, misplaced_from}
use Rattle.lp_strategy.specs.Claims.{stands, has_ports, IsGiven, IsMisplaced}
use Rattle.lp_strategy.proofs.Placed.{path_of, is_cell, side-placed, cell-placed}
use Rattle.lp_strategy.proofs.Numbers.{path-in, of-key, side-key, bit-key, leaf-key}

-- ---- the first of lists

abbrev pub or_else : {A : Type 0} → Option A → Option A → Option A
or_else (Some x) later = Some x
or_else None later = later

pub first-append : {A : Type 0} (p : A → Bool) (xs ys : List A) → first p (xs ++ ys) ≡ or_else (first p xs) (first p ys)
first-append p [] ys = refl
first-append p (x ∷ xs) ys = by (p x) (first-append p xs ys)
  where
    by : (b : Bool) → first p (xs ++ ys) ≡ or_else (first p xs) (first p ys) → (if b then Some x else first p (xs ++ ys)) ≡ or_else (if b then Some x else first p xs) (first p ys)
    by true more = refl
    by false more = more

pub first-image : {A B : Type 0} (p : B → Bool) (q ok : A → Bool) (f : A → B) → ((x : A) → ok x ≡ true → p (f x) ≡ q x) → (xs : List A) → list_all ok xs ≡ true → first p (map f xs) ≡ option_map f (first q xs)
first-image p q ok f agree [] h = refl
first-image p q ok f agree (x ∷ xs) h =
    ap (λ b. if b then Some (f x) else first p (map f xs)) (agree x (one (ok x) (list_all ok xs) h))
    ∙ by (q x) (first-image p q ok f agree xs (other (ok x) (list_all ok xs) h))
  where
    by : (b : Bool) → first p (map f xs) ≡ option_map f (first q xs) → (if b then Some (f x) else first p (map f xs)) ≡ option_map f (if b then Some x else first q xs)
    by true more = refl
    by false more = more

map-twice : {A B C : Type 0} (f : B → C) (g : A → B) (xs : List A) → map f (map g xs) ≡ map (λ x. f (g x)) xs
map-twice f g [] = refl
map-twice f g (x ∷ xs) = ap (λ r. f (g x) ∷ r) (map-twice f g xs)

module _ (p : Project) (i : model.Intent) (g : Graph) (domains : List ℕ) (given : IsGiven p i g domains) where
  abbrev view : model_element.Element → Element
  view e = element_view p.structure (keys_of p.structure) e

  abbrev known : model_strategy.Strategy → Strategy
  known t = strategy_view p.structure (keys_of p.structure) t

  abbrev place : model_strategy.Strategy → model_element.Element → ElementAt
  place t e = record { strategy = known t; element = view e }

  abbrev ok : model_element.Element → Bool
  ok e = has_element (tables_of g) e && stands p.structure (view e)

  low-of : (n m : ℕ) → nat_lt n m ≡ true → n < m
  low-of n m h = ltb-true n m h

  bit-not-cell : (k : Node) → is_cell (bit_element k) ≡ false
  bit-not-cell (Inner n j q) = refl
  bit-not-cell (Outer n j) = refl
  bit-not-cell (Fixed b) = refl

  side-right : (t : model_strategy.Strategy) (e : model_element.Element) → has_element (tables_of g) e ≡ true → stands p.structure (view e) ≡ true → names_side p (place t e) ≡ names_side_by g domains t.domain e
  unfolding path_of
  side-right t (Inst k) low some = side-placed p (known t) (view (Inst k)) (path-in p i g domains given k.0) some refl ∙ sym (side-key p i g domains given t.domain k.0)
  side-right t (Leaf l) low some = cell-placed p (known t) (leaf_at (keys_of p.structure) l.0).path (leaf_at (keys_of p.structure) l.0).instance
  side-right t (Port k n) low some = side-placed p (known t) (view (Port k n)) (path-in p i g domains given k.0) some refl ∙ sym (side-key p i g domains given t.domain k.0)
  side-right t (Bit k) low some =
      let key = bit-key p i g domains given t.domain k.0 (low-of k.0 g.inner low) in
      side-placed p (known t) (view (Bit k)) key.1 some (bit-not-cell (node_at (keys_of p.structure) k.0)) ∙ sym key.0

  register-right : (t : model_strategy.Strategy) (e : model_element.Element) → has_element (tables_of g) e ≡ true → names_register_of p (place t e) ≡ names_register_by g domains t.domain e
  register-right t (Inst k) low = sym (of-key p i g domains given t.domain k.0 (low-of k.0 (length g.instances) low))
  register-right t (Leaf l) low = sym (leaf-key p i g domains given t.domain l.0 (low-of l.0 (length g.leaves) low))
  register-right t (Port k n) low = refl
  register-right t (Bit k) low = by (node_at (keys_of p.structure) k.0)
    where
      by : (x : Node) → names_register_of p (record { strategy = known t; element = bit_element x }) ≡ false
      by (Inner n j q) = refl
      by (Outer n j) = refl
      by (Fixed b) = refl

  abbrev test : ElementAt → Bool
  test x = not (if is_retention x.strategy then names_register_of p x else names_side p x)

  kind-right : (t : model_strategy.Strategy) (e : model_element.Element) (kind : StrategyKind) → t.kind ≡ kind → has_element (tables_of g) e ≡ true → stands p.structure (view e) ≡ true
      → (if is_retention (known t) then names_register_of p (place t e) else names_side p (place t e)) ≡ is_placed_by g domains kind t.domain e
  kind-right t e Isolation is low some = ap (λ (k : StrategyKind). if same_kind Retention k then names_register_of p (place t e) else names_side p (place t e)) is ∙ side-right t e low some
  kind-right t e Shifting is low some = ap (λ (k : StrategyKind). if same_kind Retention k then names_register_of p (place t e) else names_side p (place t e)) is ∙ side-right t e low some
  kind-right t e Retention is low some = ap (λ (k : StrategyKind). if same_kind Retention k then names_register_of p (place t e) else names_side p (place t e)) is ∙ register-right t e low

  element-right : (t : model_strategy.Strategy) (e : model_element.Element) → ok e ≡ true → test (place t e) ≡ not (is_placed_by g domains t.kind t.domain e)
  element-right t e h = ap not (kind-right t e t.kind refl (one (has_element (tables_of g) e) (stands p.structure (view e)) h) (other (has_element (tables_of g) e) (stands p.structure (view e)) h))

  -- ---- one strategy

  abbrev places : Strategy → List ElementAt
  places t = map (λ (e : Element). record { strategy = t; element = e }) (listed_elements t.elements)

  both-all : (es : List model_element.Element) → list_all (has_element (tables_of g)) es ≡ true → list_all (stands p.structure) (map view es) ≡ true → list_all ok es ≡ true
  both-all [] a b = refl
  both-all (x ∷ xs) a b =
      both (ok x) (list_all ok xs)
      (both (has_element (tables_of g) x) (stands p.structure (view x)) (one (has_element (tables_of g) x) (list_all (has_element (tables_of g)) xs) a) (one (stands p.structure (view x)) (list_all (stands p.structure) (map view xs)) b))
      (both-all xs (other (has_element (tables_of g) x) (list_all (has_element (tables_of g)) xs) a) (other (stands p.structure (view x)) (list_all (stands p.structure) (map view xs)) b))

  strategy-right : (t : model_strategy.Strategy) → has_elements (tables_of g) t ≡ true → has_ports p.structure (known t) ≡ true → first test (places (known t)) ≡ option_map (place t) (misplaced_in g domains t)
  strategy-right t a b = by t.elements refl
    where
      by : (o : Option (List model_element.Element)) → t.elements ≡ o → first test (places (known t)) ≡ option_map (place t) (misplaced_in g domains t)
      by None is =
          ap (λ (o : Option (List model_element.Element)). first test (map (λ (e : Element). record { strategy = known t; element = e }) (listed_elements (option_map (map view) o)))) is
          ∙ sym (ap (λ (o : Option (List model_element.Element)). option_map (place t) (first (λ e. not (is_placed_by g domains t.kind t.domain e)) (listed o))) is)
      by (Some es) is =
          let within = ap (λ (o : Option (List model_element.Element)). all_of (list_all (has_element (tables_of g))) o) (sym is) ∙ one (all_of (list_all (has_element (tables_of g))) t.elements) (list_all (has_element (tables_of g)) t.excluded) a in
          let stand = ap (λ (o : Option (List model_element.Element)). list_all (stands p.structure) (listed_elements (option_map (map view) o))) (sym is) ∙ b in
          ap (λ (o : Option (List model_element.Element)). first test (map (λ (e : Element). record { strategy = known t; element = e }) (listed_elements (option_map (map view) o)))) is
          ∙ ap (first test) (map-twice (λ (e : Element). record { strategy = known t; element = e }) view es)
          ∙ first-image test (λ e. not (is_placed_by g domains t.kind t.domain e)) ok (place t) (element-right t) es (both-all es within stand)
          ∙ sym (ap (λ (o : Option (List model_element.Element)). option_map (place t) (first (λ e. not (is_placed_by g domains t.kind t.domain e)) (listed o))) is)

  -- ---- all strategies

  -- what the search from a number on gives, and what the line gives
  abbrev Answers : ℕ → List model_strategy.Strategy → Option StrategyFault → Option ElementAt → Type 0
  Answers k ts found line =
      ((found ≡ None) × (line ≡ None))
      ⊎ ((j : ℕ) × (t : model_strategy.Strategy) × (e : model_element.Element) × (found ≡ Some (NotBoundary (record { 0 = k + j }) e)) × (slice_get ts j ≡ Some t) × (line ≡ Some (place t e)))

  answers : (k : ℕ) (ts : List model_strategy.Strategy) → list_all (has_elements (tables_of g)) ts ≡ true → list_all (has_ports p.structure) (map known ts) ≡ true
      → Answers k ts (misplaced_from g domains k ts) (first test (flat_map places (map known ts)))
  answers k [] a b = inl (refl, refl)
  answers k (t ∷ ts) a b =
      let here = strategy-right t (one (has_elements (tables_of g) t) (list_all (has_elements (tables_of g)) ts) a) (one (has_ports p.structure (known t)) (list_all (has_ports p.structure) (map known ts)) b) in
      let more = answers (k + 1) ts (other (has_elements (tables_of g) t) (list_all (has_elements (tables_of g)) ts) a) (other (has_ports p.structure (known t)) (list_all (has_ports p.structure) (map known ts)) b) in
      let split = first-append test (places (known t)) (flat_map places (map known ts)) ∙ ap (λ o. or_else o (first test (flat_map places (map known ts)))) here in
      by (misplaced_in g domains t) refl split more
    where
      by : (o : Option model_element.Element) → misplaced_in g domains t ≡ o
          → first test (places (known t) ++ flat_map places (map known ts)) ≡ or_else (option_map (place t) (misplaced_in g domains t)) (first test (flat_map places (map known ts)))
          → Answers (k + 1) ts (misplaced_from g domains (k + 1) ts) (first test (flat_map places (map known ts)))
          → Answers k (t ∷ ts) (misplaced_from g domains k (t ∷ ts)) (first test (flat_map places (map known (t ∷ ts))))
      by None is split (inl none) =
          inl (ap (λ o. or_later (fault_of k o) (misplaced_from g domains (k + 1) ts)) is ∙ none.0, split ∙ ap (λ o. or_else (option_map (place t) o) (first test (flat_map places (map known ts)))) is ∙ none.1)
      by None is split (inr found) =
          let next : k + 1 + found.0 ≡ k + suc found.0 = omega arith in
          inr (
            suc found.0,
            found.1,
            found.2,
            ap (λ o. or_later (fault_of k o) (misplaced_from g domains (k + 1) ts)) is ∙ found.3 ∙ ap (λ n. Some (NotBoundary (record { 0 = n }) found.2)) next,
            found.4,
            split ∙ ap (λ o. or_else (option_map (place t) o) (first test (flat_map places (map known ts)))) is ∙ found.5,
          )
      by (Some e) is split more =
          let front : k ≡ k + 0 = omega arith in
          inr (
            0,
            t,
            e,
            ap (λ o. or_later (fault_of k o) (misplaced_from g domains (k + 1) ts)) is ∙ ap (λ n. Some (NotBoundary (record { 0 = n }) e)) front,
            refl,
            split ∙ ap (λ o. or_else (option_map (place t) o) (first test (flat_map places (map known ts)))) is,
          )

  abbrev line : List Strategy → Option ElementAt
  line ts = first test (flat_map places ts)

  pub all-right : Answers 0 i.strategies (misplaced_from g domains 0 i.strategies) (first_of (not_boundary p))
  all-right =
      let strategies = ap (λ (x : Intent). x.strategies) given.intent in
      subst (Answers 0 i.strategies (misplaced_from g domains 0 i.strategies)) (ap line (sym strategies))
      (answers 0 i.strategies given.ranges.elements (ap (list_all (has_ports p.structure)) (sym strategies) ∙ given.ports))

  pub none-right : misplaced_from g domains 0 i.strategies ≡ None → first_of (not_boundary p) ≡ None
  none-right h = elim all-right [ inl none ↦ none.1 | inr found ↦ let no : None ≡ Some (NotBoundary (record { 0 = 0 + found.0 }) found.2) = sym h ∙ found.3 in absurd cc ]

  at-map : {A B : Type 0} (f : A → B) (xs : List A) (k : ℕ) (x : A) → slice_get xs k ≡ Some x → slice_get (map f xs) k ≡ Some (f x)
  at-map f [] k x h = absurd cc
  at-map f (y ∷ ys) zero x h = let is : y ≡ x = cc in ap (λ z. Some (f z)) is
  at-map f (y ∷ ys) (suc k) x h = at-map f ys k x h

  pub some-right : (f : StrategyFault) → misplaced_from g domains 0 i.strategies ≡ Some f → IsMisplaced p f
  some-right f h = elim all-right [
    | inl none ↦ let no : None ≡ Some f = sym none.0 ∙ h in absurd cc
    | inr found ↦
        let front : 0 + found.0 ≡ found.0 = omega arith in
        let is : NotBoundary (record { 0 = found.0 }) found.2 ≡ f = some-is (NotBoundary (record { 0 = found.0 }) found.2) f (ap (λ n. Some (NotBoundary (record { 0 = n }) found.2)) (sym front) ∙ sym found.3 ∙ h) in
        let strategies = ap (λ (x : Intent). x.strategies) given.intent in
        subst (IsMisplaced p) is (record {
          strategy = known found.1;
          numbered = ap (λ xs. slice_get xs found.0) strategies ∙ at-map known i.strategies found.0 found.1 found.4;
          fault = found.5;
        })
  ]
    where
      some-is : {A : Type 0} (a b : A) → Some a ≡ Some b → a ≡ b
      some-is a b q = cc
