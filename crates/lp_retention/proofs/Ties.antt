-- The first tie by number is the first one of the line on registers.
use Rattle.std.proofs.Common.{◌≡◌, ◌⊎◌, ◌≤◌, ◌+◌, ℕ, suc, Bool, true, false, List, [], ◌∷◌, map, length, Option, Some, None, inl, inr, refl, sym, ap, ◌∙◌, subst, arith}
use Rattle.std.specs.Prelude.{filter, flat_map, option_map, option_and_then, slice_get, if◌then◌else◌}
use Rattle.std.specs.List.{list_all}
use Rattle.std.proofs.lemmas.Option.{get_or_from_slice_get}
use Rattle.lp_model.specs.declared.fault.refs.Site.TheVariants.{Register}
use Rattle.lp_model.specs.declared.fault.strategy.StrategyFault.{StrategyFault}
use Rattle.lp_model.specs.declared.fault.strategy.StrategyFault.TheVariants.{Tied}
use Rattle.lp_model.specs.declared.graph.Graph.{Graph}
use Rattle.lp_model.specs.declared.intent.Intent as model
use Rattle.lp_spec_design.specs.Netlists.{first, cell_at}
use Rattle.lp_spec_design.specs.Graph.{numbered}
use Rattle.lp_spec_design.specs.Instances.{Placed, cell_instances}
use Rattle.lp_spec_design.specs.Intents.{Strategy}
use Rattle.lp_spec_design.specs.Registers.{retains, retention_rank}
use Rattle.lp_spec_bridge.specs.Keyed.{keys_of, leaf_at}
use Rattle.lp_spec_realises.specs.Projects.{Project}
use Rattle.lp_spec_faults.specs.Lines.{first_of}
use Rattle.lp_spec_faults.specs.Strategies.{has_state, RegisterAt, registers_with_strategies, OnRegister, ties}
use Rattle.lp_strategy.specs.Elements.{or_later}
use Rattle.lp_strategy.specs.Claims.{IsGiven}
use Rattle.lp_strategy.proofs.Placing.{or_else, first-append, first-image}
use Rattle.lp_retention.specs.declared.best.Best.{Best}
use Rattle.lp_retention.specs.Best.{none_yet, best_from, tie_by, tie_of, tie_from}
use Rattle.lp_retention.specs.Ranks.{bests_from}
use Rattle.lp_retention.specs.Claims.{tied_registers, IsRegisterTie}
use Rattle.lp_retention.proofs.Levels.{rank-some}
use Rattle.lp_retention.proofs.Joined.{none-found, best_by, bests-are}
use Rattle.lp_retention.proofs.Winning.{IsTie, IsUntied, some_rank, tied_test, ties-found}

all-true : {A : Type 0} (xs : List A) → list_all (λ x. true) xs ≡ true
all-true [] = refl
all-true (x ∷ xs) = all-true xs

first-map : {A B : Type 0} (p : B → Bool) (f : A → B) (xs : List A) → first p (map f xs) ≡ option_map f (first (λ x. p (f x)) xs)
first-map p f xs = first-image p (λ x. p (f x)) (λ x. true) f (λ x h. refl) xs (all-true xs)

tie-none : (k : ℕ) (o : Option ℕ) → tie_by k o None ≡ None
tie-none k None = refl
tie-none k (Some x) = refl

module _ (p : Project) (i : model.Intent) (g : Graph) (domains : List ℕ) (given : IsGiven p i g domains) (few : length i.strategies ≤ 4294967295) where
  abbrev holds : Placed → Bool
  holds a = has_state (cell_at p.structure a.path a.instance)

  abbrev applies : Placed → Strategy → Bool
  applies a v = retains p.intent a.path a.instance v

  abbrev ranked : Placed → Strategy → ℕ
  ranked a v = retention_rank a.path a.instance v

  abbrev best : Placed → Best
  best a = best_by p i g domains given few a

  abbrev at : Placed → ℕ × Strategy → RegisterAt
  at a t = record { register = a; number = t.0; strategy = t.1 }

  abbrev strategies_at : Placed → List RegisterAt
  strategies_at a = map (at a) (numbered 0 p.intent.strategies)

  abbrev test : RegisterAt → Bool
  test x = ties p (OnRegister x)

  abbrev line : List Placed → Option RegisterAt
  line cells = first test (flat_map strategies_at (filter holds cells))

  abbrev IsTieOf : Placed → Type 0
  IsTieOf a = IsTie (applies a) (ranked a) (rank-some a.path a.instance) 0 p.intent.strategies (best_from (some_rank (applies a) (ranked a) (rank-some a.path a.instance)) 0 p.intent.strategies)

  -- the search gives a tie, and so does the line
  record TieAt (k : ℕ) (cells : List Placed) (found : Option StrategyFault) (result : Option RegisterAt) : Type 0 where
    j : ℕ
    a : Placed
    tie : IsTieOf a
    there : slice_get cells j ≡ Some a
    told : found ≡ Some (Tied (Register (record { 0 = k + j })) (record { 0 = tie.x.0 }) (record { 0 = tie.z.0 }))
    is : result ≡ Some (at a tie.x)

  abbrev Answers : ℕ → List Placed → Option StrategyFault → Option RegisterAt → Type 0
  Answers k cells found result = ((found ≡ None) × (result ≡ None)) ⊎ TieAt k cells found result

  one-register : (a : Placed) → first test (strategies_at a) ≡ option_map (at a) (first (tied_test (applies a) (ranked a) (rank-some a.path a.instance) 0 p.intent.strategies) (numbered 0 p.intent.strategies))
  one-register a = first-map test (at a) (numbered 0 p.intent.strategies)

  no-register : (a : Placed) → holds a ≡ false → best a ≡ none_yet
  no-register a e = ap (λ b. best_from (λ (v : Strategy). if b then (if applies a v then ranked a v else 0) else 0) 0 p.intent.strategies) e ∙ none-found 0 p.intent.strategies (λ v. if applies a v then ranked a v else 0)

  a-register : (a : Placed) → holds a ≡ true → best a ≡ best_from (some_rank (applies a) (ranked a) (rank-some a.path a.instance)) 0 p.intent.strategies
  a-register a e = ap (λ b. best_from (λ (v : Strategy). if b then (if applies a v then ranked a v else 0) else 0) 0 p.intent.strategies) e

  -- behind a cell instance without a tie
  later : (k : ℕ) (a : Placed) (cells : List Placed) (found : Option StrategyFault) (result : Option RegisterAt) → found ≡ tie_from (k + 1) (map best cells) → result ≡ line cells
      → Answers (k + 1) cells (tie_from (k + 1) (map best cells)) (line cells) → Answers k (a ∷ cells) found result
  later k a cells found result f r (inl none) = inl (f ∙ none.0, r ∙ none.1)
  later k a cells found result f r (inr o) =
      let next : k + 1 + o.j ≡ k + suc o.j = omega arith in
      inr (record {
        j = suc o.j;
        a = o.a;
        tie = o.tie;
        there = o.there;
        told = f ∙ o.told ∙ ap (λ n. Some (Tied (Register (record { 0 = n })) (record { 0 = o.tie.x.0 }) (record { 0 = o.tie.z.0 }))) next;
        is = r ∙ o.is;
      })

  answers : (k : ℕ) (cells : List Placed) → Answers k cells (tie_from k (map best cells)) (line cells)
  answers k [] = inl (refl, refl)
  answers k (a ∷ cells) = by (holds a) refl (answers (k + 1) cells)
    where
      found-at : (o : Option StrategyFault) → tie_of k (best a) ≡ o → tie_from k (map best (a ∷ cells)) ≡ or_later o (tie_from (k + 1) (map best cells))
      found-at o e = ap (λ z. or_later z (tie_from (k + 1) (map best cells))) e

      split : holds a ≡ true → line (a ∷ cells) ≡ or_else (option_map (at a) (first (tied_test (applies a) (ranked a) (rank-some a.path a.instance) 0 p.intent.strategies) (numbered 0 p.intent.strategies))) (line cells)
      split e =
          ap (λ b. first test (flat_map strategies_at (if b then a ∷ filter holds cells else filter holds cells))) e
          ∙ first-append test (strategies_at a) (flat_map strategies_at (filter holds cells))
          ∙ ap (λ o. or_else o (line cells)) (one-register a)

      on : holds a ≡ true → Answers (k + 1) cells (tie_from (k + 1) (map best cells)) (line cells)
          → IsUntied (applies a) (ranked a) (rank-some a.path a.instance) 0 p.intent.strategies (best_from (some_rank (applies a) (ranked a) (rank-some a.path a.instance)) 0 p.intent.strategies) ⊎ IsTieOf a
          → Answers k (a ∷ cells) (tie_from k (map best (a ∷ cells))) (line (a ∷ cells))
      on e more (inl untied) =
          later k a cells (tie_from k (map best (a ∷ cells))) (line (a ∷ cells))
          (found-at None (ap (tie_of k) (a-register a e) ∙ ap (tie_by k (best_from (some_rank (applies a) (ranked a) (rank-some a.path a.instance)) 0 p.intent.strategies).first) untied.0 ∙ tie-none k (best_from (some_rank (applies a) (ranked a) (rank-some a.path a.instance)) 0 p.intent.strategies).first))
          (split e ∙ ap (λ o. or_else (option_map (at a) o) (line cells)) untied.1)
          more
      on e more (inr tie) =
          let front : k ≡ k + 0 = omega arith in
          inr (record {
            j = 0;
            a = a;
            tie = tie;
            there = refl;
            told =
                found-at (Some (Tied (Register (record { 0 = k })) (record { 0 = tie.x.0 }) (record { 0 = tie.z.0 }))) (ap (tie_of k) (a-register a e) ∙ (λ r. tie_by k (tie.is r) (tie.next r)))
                ∙ ap (λ n. Some (Tied (Register (record { 0 = n })) (record { 0 = tie.x.0 }) (record { 0 = tie.z.0 }))) front;
            is = split e ∙ ap (λ o. or_else (option_map (at a) o) (line cells)) tie.tied;
          })

      by : (b : Bool) → holds a ≡ b → Answers (k + 1) cells (tie_from (k + 1) (map best cells)) (line cells) → Answers k (a ∷ cells) (tie_from k (map best (a ∷ cells))) (line (a ∷ cells))
      by false e more =
          later k a cells (tie_from k (map best (a ∷ cells))) (line (a ∷ cells))
          (found-at None (ap (tie_of k) (no-register a e)))
          (ap (λ b. first test (flat_map strategies_at (if b then a ∷ filter holds cells else filter holds cells))) e)
          more
      by true e more = on e more (ties-found (applies a) (ranked a) (rank-some a.path a.instance) 0 p.intent.strategies)

  all-answers : Answers 0 (cell_instances p.structure) (tie_from 0 (bests_from g domains 0 i.strategies)) (first test (registers_with_strategies p))
  all-answers = subst (λ bs. Answers 0 (cell_instances p.structure) (tie_from 0 bs) (first test (registers_with_strategies p))) (sym (bests-are p i g domains given few)) (answers 0 (cell_instances p.structure))

  line-is : first_of (tied_registers p) ≡ option_map (λ (x : RegisterAt). OnRegister x) (first test (registers_with_strategies p))
  line-is = first-map (ties p) (λ (x : RegisterAt). OnRegister x) (registers_with_strategies p)

  pub none-tied : tie_from 0 (bests_from g domains 0 i.strategies) ≡ None → first_of (tied_registers p) ≡ None
  none-tied h = elim all-answers [
    | inl none ↦ line-is ∙ ap (option_map (λ (x : RegisterAt). OnRegister x)) none.1
    | inr o ↦ let no : None ≡ Some (Tied (Register (record { 0 = 0 + o.j })) (record { 0 = o.tie.x.0 }) (record { 0 = o.tie.z.0 })) = sym h ∙ o.told in absurd cc
  ]

  some-is : {A : Type 0} (a b : A) → Some a ≡ Some b → a ≡ b
  some-is a b q = cc

  pub some-tied : (f : StrategyFault) → tie_from 0 (bests_from g domains 0 i.strategies) ≡ Some f → IsRegisterTie p f
  some-tied f h = elim all-answers [
    | inl none ↦ let no : None ≡ Some f = sym none.0 ∙ h in absurd cc
    | inr o ↦
        let front : 0 + o.j ≡ o.j = omega arith in
        let is : Tied (Register (record { 0 = o.j })) (record { 0 = o.tie.x.0 }) (record { 0 = o.tie.z.0 }) ≡ f =
        some-is (Tied (Register (record { 0 = o.j })) (record { 0 = o.tie.x.0 }) (record { 0 = o.tie.z.0 })) f
        (ap (λ n. Some (Tied (Register (record { 0 = n })) (record { 0 = o.tie.x.0 }) (record { 0 = o.tie.z.0 }))) (sym front) ∙ sym o.told ∙ h) in
        let placed : leaf_at (keys_of p.structure) o.j ≡ o.a = get_or_from_slice_get (cell_instances p.structure) o.j o.a (record { path = []; instance = [] }) o.there in
        subst (IsRegisterTie p) is (record {
          strategy = o.tie.x.1;
          place = at o.a o.tie.x;
          is = ap (λ (a : Placed). at a o.tie.x) (sym placed);
          fault = line-is ∙ ap (option_map (λ (x : RegisterAt). OnRegister x)) o.is;
          partner = ap (option_and_then (λ (y : ℕ × Strategy). Some y.0)) o.tie.partner;
        })
  ]
