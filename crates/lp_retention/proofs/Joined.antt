-- The winners by number are those by paths.
use Rattle.std.proofs.Common.{◌≡◌, ◌<◌, ◌≤◌, ◌+◌, ℕ, Bool, true, false, List, [], ◌∷◌, map, length, get_or, Option, Some, None, refl, sym, ap, ◌∙◌, arith}
use Rattle.std.specs.Prelude.{option_and_then, if◌then◌else◌}
use Rattle.std.proofs.lemmas.Bool.{lt-ltb}
use Rattle.std.proofs.lemmas.List.{get_or-map, length-map, length-replicate}
use Rattle.std.proofs.lemmas.Option.{slice_get-get_or}
use Rattle.lp_model.specs.declared.graph.Graph.{Graph}
use Rattle.lp_model.specs.declared.graph.Leaf.{Leaf as LeafRow}
use Rattle.lp_model.specs.declared.intent.Intent as model
use Rattle.lp_model.specs.declared.intent.Strategy as model_strategy
use Rattle.lp_model.specs.declared.intent.StrategyKind.{StrategyKind}
use Rattle.lp_model.specs.declared.intent.StrategyKind.TheVariants.{Isolation, Shifting, Retention}
use Rattle.lp_model.specs.declared.slot.StrategySlot.{StrategySlot}
use Rattle.lp_spec_design.specs.Netlists.{cell_at}
use Rattle.lp_spec_design.specs.Graph.{numbered}
use Rattle.lp_spec_design.specs.Instances.{Placed, cell_instances}
use Rattle.lp_spec_design.specs.Intents.{Strategy, Intent}
use Rattle.lp_spec_design.specs.Registers.{retains, retention_rank, retention_winner}
use Rattle.lp_spec_bridge.specs.Keyed.{keys_of, leaf_at}
use Rattle.lp_spec_bridge.proofs.Inputs.{map-same}
use Rattle.lp_spec_bridge.proofs.Trails.{map-map}
use Rattle.lp_spec_realises.specs.Projects.{Project}
use Rattle.lp_spec_faults.specs.Strategies.{has_state}
use Rattle.lp_spec_views.specs.Views.{strategy_view}
use Rattle.lp_domains.proofs.Meetings.{length-numbered}
use Rattle.lp_domains.proofs.Viewed.{same-entries}
use Rattle.lp_strategy.specs.Claims.{IsGiven}
use Rattle.lp_retention.specs.declared.best.Best.{Best}
use Rattle.lp_retention.specs.Best.{none_yet, best_from, winning, kept, won}
use Rattle.lp_retention.specs.Ranks.{reach_of, better_at, with_strategy, bests_from}
use Rattle.lp_retention.specs.Claims.{winner_of, number_in, AreWinners}
use Rattle.lp_retention.proofs.Levels.{rank-some}
use Rattle.lp_retention.proofs.Reached.{count}
use Rattle.lp_retention.proofs.Ranked.{rank_by, bests-right}
use Rattle.lp_retention.proofs.Winning.{winner-found, winner-within}

-- what is no register has no strategy
pub none-found : (n : ℕ) (ts : List Strategy) (f : Strategy → ℕ) → best_from (λ (v : Strategy). if false then f v else 0) n ts ≡ none_yet
none-found n [] f = refl
none-found n (t ∷ ts) f = none-found (n + 1) ts f

kept-low : (o : Option ℕ) (n : ℕ) → ((k : ℕ) → o ≡ Some k → k < n) → n ≤ 4294967295 → kept o ≡ o
kept-low None n low few = refl
kept-low (Some k) n low few = let here = low k refl in ap (λ b. if b then Some k else None) (lt-ltb k 4294967295 (omega (arith, here, few)))

length-with : (g : Graph) (domains : List ℕ) (kind : StrategyKind) (t : model_strategy.Strategy) (n : ℕ) (bests : List Best) → length bests ≡ length g.leaves → length (with_strategy g domains kind t n bests) ≡ length g.leaves
length-with g domains Retention t n bests h = length-map (numbered 0 g.leaves) (better_at g domains (reach_of g t) n bests) ∙ length-numbered 0 g.leaves
length-with g domains Isolation t n bests h = h
length-with g domains Shifting t n bests h = h

pub length-bests : (g : Graph) (domains : List ℕ) (n : ℕ) (ts : List model_strategy.Strategy) → length (bests_from g domains n ts) ≡ length g.leaves
length-bests g domains n [] = length-replicate (length g.leaves) none_yet
length-bests g domains n (t ∷ ts) = length-with g domains t.kind t n (bests_from g domains (n + 1) ts) (length-bests g domains (n + 1) ts)

module _ (p : Project) (i : model.Intent) (g : Graph) (domains : List ℕ) (given : IsGiven p i g domains) (few : length i.strategies ≤ 4294967295) where
  abbrev known : model_strategy.Strategy → Strategy
  known t = strategy_view p.structure (keys_of p.structure) t

  strategies : map known i.strategies ≡ p.intent.strategies
  strategies = sym (ap (λ (x : Intent). x.strategies) given.intent)

  abbrev some_row : LeafRow
  some_row = record { inst = record { 0 = 0 }; name = record { 0 = 0 }; cell = record { 0 = 0 }; start = 0 }

  abbrev found : Bool → Placed → List Strategy → Option ℕ
  found holds a ts = kept (winning (best_from (λ (v : Strategy). if holds then rank_by p i g domains given a v else 0) 0 ts))

  found-right : (holds : Bool) (a : Placed) → found holds a p.intent.strategies ≡ (if holds then option_and_then (λ (t : ℕ × Strategy). Some t.0) (retention_winner p.intent a.path a.instance) else None)
  found-right true a =
      let applies = λ (v : Strategy). retains p.intent a.path a.instance v in
      let many : length p.intent.strategies ≡ length i.strategies = ap length (sym strategies) ∙ length-map i.strategies known in
      kept-low (winning (best_from (rank_by p i g domains given a) 0 p.intent.strategies)) (length p.intent.strategies)
      (λ k h. let low = winner-within (λ (v : Strategy). retains p.intent a.path a.instance v) (retention_rank a.path a.instance) (rank-some a.path a.instance) 0 p.intent.strategies k h in omega (arith, low)) (omega (arith, many, few))
      ∙ sym (winner-found (λ (v : Strategy). retains p.intent a.path a.instance v) (retention_rank a.path a.instance) (rank-some a.path a.instance) 0 p.intent.strategies)
  found-right false a = ap (λ b. kept (winning b)) (none-found 0 p.intent.strategies (rank_by p i g domains given a))

  -- what is found at a cell instance by paths
  abbrev pub best_by : Placed → Best
  best_by a = best_from (λ (v : Strategy). if has_state (cell_at p.structure a.path a.instance) then rank_by p i g domains given a v else 0) 0 p.intent.strategies

  pub bests-are : bests_from g domains 0 i.strategies ≡ map best_by (cell_instances p.structure)
  bests-are =
      let many = length-bests g domains 0 i.strategies in
      let right = length-map (cell_instances p.structure) best_by in
      let cells = count p i g domains given in
      same-entries (bests_from g domains 0 i.strategies) (map best_by (cell_instances p.structure)) none_yet (omega (arith, many, right, cells))
      (λ k small.
      let low : k < length g.leaves = omega (arith, small, many) in
      bests-right p i g domains given k (get_or g.leaves k some_row) (slice_get-get_or g.leaves k some_row low) low 0 i.strategies given.ranges.elements
      ∙ ap (best_from (λ (v : Strategy). if has_state (cell_at p.structure (leaf_at (keys_of p.structure) k).path (leaf_at (keys_of p.structure) k).instance) then rank_by p i g domains given (leaf_at (keys_of p.structure) k) v else 0) 0) strategies
      ∙ sym (get_or-map best_by (cell_instances p.structure) k (record { path = []; instance = [] }) none_yet (omega (arith, low, cells))))

  pub winners-right : (slots : List StrategySlot) → map number_in slots ≡ map won (bests_from g domains 0 i.strategies) → AreWinners p slots
  winners-right slots is =
      is
      ∙ ap (map won) bests-are
      ∙ map-map won best_by (cell_instances p.structure)
      ∙ map-same (λ (a : Placed). won (best_by a)) (winner_of p) (cell_instances p.structure) (λ a. found-right (has_state (cell_at p.structure a.path a.instance)) a)
