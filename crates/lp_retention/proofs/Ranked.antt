-- The rank of a strategy at a cell instance by number is its rank by paths, 0 where it does not apply.
use Rattle.std.proofs.Common.{◌≡◌, ◌<◌, ◌+◌, ℕ, Bool, true, false, ◌&&◌, ◌||◌, List, [], ◌∷◌, map, length, Option, Some, None, refl, sym, ap, ◌∙◌, arith}
use Rattle.std.specs.Prelude.{is_some, not, slice_get, slice_index_or, option_map, nat_lt, if◌then◌else◌}
use Rattle.std.specs.List.{list_any, list_all}
use Rattle.std.proofs.lemmas.Bool.{ltb-true}
use Rattle.std.proofs.lemmas.List.{get_or-replicate}
use Rattle.std.proofs.lemmas.Option.{get_or_from_slice_get}
use Rattle.lp_model.specs.declared.graph.Graph.{Graph}
use Rattle.lp_model.specs.declared.graph.Leaf.{Leaf as LeafRow}
use Rattle.lp_model.specs.declared.intent.Element as model_element
use Rattle.lp_model.specs.declared.intent.Intent as model
use Rattle.lp_model.specs.declared.intent.Strategy as model_strategy
use Rattle.lp_model.specs.declared.intent.StrategyKind.{StrategyKind}
use Rattle.lp_model.specs.declared.intent.StrategyKind.TheVariants.{Isolation, Shifting, Retention}
use Rattle.lp_spec_design.specs.Netlists.{cell_at}
use Rattle.lp_spec_design.specs.Instances.{Placed, module_instances, cell_instances}
use Rattle.lp_spec_design.specs.Intents.{Element, Strategy}
use Rattle.lp_spec_design.specs.Domains.{same_domain, domain_of}
use Rattle.lp_spec_design.specs.Winners.{same_kind}
use Rattle.lp_spec_design.specs.Registers.{names_register, is_listed_register, retains, retention_rank}
use Rattle.lp_spec_design.specs.Reads.{one, other}
use Rattle.lp_spec_bridge.specs.Tables.{tables_of}
use Rattle.lp_spec_bridge.specs.Keyed.{keys_of, leaf_at, path_at}
use Rattle.lp_spec_bridge.specs.Elaborates.{placed_key}
use Rattle.lp_spec_bridge.proofs.Apart.{list-at}
use Rattle.lp_spec_bridge.proofs.Trails.{same-at}
use Rattle.lp_spec_realises.specs.Projects.{Project}
use Rattle.lp_spec_faults.specs.Strategies.{has_state}
use Rattle.lp_spec_views.specs.Views.{element_view, strategy_view}
use Rattle.lp_spec_views.specs.Ranges.{all_of, has_element, has_elements}
use Rattle.lp_domains.proofs.Meetings.{numbered-at}
use Rattle.lp_strategy.specs.Sides.{is_register_of}
use Rattle.lp_strategy.specs.Elements.{listed}
use Rattle.lp_strategy.specs.Claims.{IsGiven}
use Rattle.lp_strategy.proofs.Numbers.{leaf-key}
use Rattle.lp_retention.specs.declared.best.Best.{Best}
use Rattle.lp_retention.specs.Best.{none_yet, offer, best_from}
use Rattle.lp_retention.specs.Ranks.{reached_by, cells_by, reach_of, level_of, rank_of, better_at, with_strategy, bests_from}
use Rattle.lp_retention.proofs.Levels.{rank_list, rank-is}
use Rattle.lp_retention.proofs.Reached.{covers, is_it, register-named, cell-named, reached-right, cells-right}

-- ---- tests

-- a domain that is there
some-same : (o : Option ℕ) (d : ℕ) → (is_some o && same_domain o (Some d)) ≡ same_domain o (Some d)
some-same None d = refl
some-same (Some k) d = refl

abbrev ranked_if : Bool → ℕ → ℕ
ranked_if b r = if b then r else 0

-- of the whole domain
whole-rank : (D S X C I : Bool) → (if (D && S) then (if X then 0 else level_of true C I) else 0) ≡ ranked_if S (ranked_if (D && (true && not X)) 1)
whole-rank true true true C I = refl
whole-rank true true false C I = refl
whole-rank true false X C I = refl
whole-rank false true X C I = refl
whole-rank false false X C I = refl

-- of listed elements
listed-rank : (D S X C I : Bool) → (if (D && S) then (if X then 0 else level_of false C I) else 0) ≡ ranked_if S (ranked_if (D && ((C || I) && not X)) (if C then 3 else 2))
listed-rank true true true true I = refl
listed-rank true true true false true = refl
listed-rank true true true false false = refl
listed-rank true true false true I = refl
listed-rank true true false false true = refl
listed-rank true true false false false = refl
listed-rank true false X C I = refl
listed-rank false true X C I = refl
listed-rank false false X C I = refl

module _ (p : Project) (i : model.Intent) (g : Graph) (domains : List ℕ) (given : IsGiven p i g domains) where
  abbrev view : model_element.Element → Element
  view e = element_view p.structure (keys_of p.structure) e

  abbrev known : model_strategy.Strategy → Strategy
  known t = strategy_view p.structure (keys_of p.structure) t

  abbrev placed : ℕ → Placed
  placed k = leaf_at (keys_of p.structure) k

  abbrev holds : Placed → Bool
  holds a = has_state (cell_at p.structure a.path a.instance)

  -- the rank by paths, 0 where the strategy does not apply
  abbrev pub rank_by : Placed → Strategy → ℕ
  rank_by a v = ranked_if (retains p.intent a.path a.instance v) (retention_rank a.path a.instance v)

  module _ (k : ℕ) (row : LeafRow) (there : slice_get g.leaves k ≡ Some row) (low : k < length g.leaves) where
    map-id : {A : Type 0} (xs : List A) → map (λ x. x) xs ≡ xs
    map-id [] = refl
    map-id (x ∷ xs) = ap (λ r. x ∷ r) (map-id xs)

    row-placed : placed_key given.texts (module_instances p.structure) row ≡ placed k
    row-placed =
        ap (placed_key given.texts (module_instances p.structure)) (sym (get_or_from_slice_get g.leaves k row row there))
        ∙ same-at (placed_key given.texts (module_instances p.structure)) (λ (a : Placed). a) g.leaves (cell_instances p.structure) k row (record { path = []; instance = [] }) (given.elaborates.leaves ∙ sym (map-id (cell_instances p.structure))) low

    inside : row.inst.0 < length g.instances
    inside =
        ltb-true row.inst.0 (length g.instances)
        (ap (λ (x : LeafRow). nat_lt x.inst.0 (length g.instances)) (sym (get_or_from_slice_get g.leaves k row row there))
        ∙ list-at (λ (x : LeafRow). nat_lt x.inst.0 (length g.instances)) g.leaves k row given.elaborates.represents.closed.leaves low)

    path-is : path_at (keys_of p.structure) row.inst.0 ≡ (placed k).path
    path-is = ap (λ (a : Placed). a.path) row-placed

    covered-right : (es : List model_element.Element) → list_all (has_element (tables_of g)) es ≡ true → slice_index_or (reached_by g es) row.inst.0 false ≡ list_any (covers (placed k).path) (map view es)
    covered-right es h = reached-right p i g domains given es h row.inst.0 inside ∙ ap (λ q. list_any (covers q) (map view es)) path-is

    own-right : (es : List model_element.Element) → list_all (has_element (tables_of g)) es ≡ true → slice_index_or (cells_by g es) k false ≡ list_any (is_it (placed k)) (map view es)
    own-right es h = cells-right p i g domains given es h k low

    -- a list names the register
    named-right : (es : List model_element.Element) → list_all (has_element (tables_of g)) es ≡ true
        → (slice_index_or (cells_by g es) k false || slice_index_or (reached_by g es) row.inst.0 false) ≡ list_any (names_register (placed k).path (placed k).instance) (map view es)
    named-right es h = (λ r. own-right es h r || covered-right es h r) ∙ sym (register-named (placed k) (map view es))

    register-right : (d : ℕ) → is_register_of g domains d k ≡ (same_domain (domain_of p.intent (placed k).path) (Some d) && holds (placed k))
    register-right d = leaf-key p i g domains given d k low ∙ ap (λ b. b && holds (placed k)) (some-same (domain_of p.intent (placed k).path) d)

    -- with what a strategy lists
    abbrev by_list : model_strategy.Strategy → Option (List model_element.Element) → ℕ
    by_list t o =
        if is_register_of g domains t.domain k
        then if slice_index_or (cells_by g t.excluded) k false || slice_index_or (reached_by g t.excluded) row.inst.0 false then 0
        else level_of (not (is_some o)) (slice_index_or (cells_by g (listed o)) k false) (slice_index_or (reached_by g (listed o)) row.inst.0 false)
        else 0

    abbrev path_list : model_strategy.Strategy → Option (List Element) → Bool
    path_list t o = same_domain (domain_of p.intent (placed k).path) (Some t.domain) && (is_listed_register (placed k).path (placed k).instance o && not (list_any (names_register (placed k).path (placed k).instance) (map view t.excluded)))

    abbrev level_list : Option (List Element) → ℕ
    level_list o = rank_list (placed k).path (placed k).instance o

    list-right : (t : model_strategy.Strategy) → list_all (has_element (tables_of g)) t.excluded ≡ true → (o : Option (List model_element.Element)) → all_of (list_all (has_element (tables_of g))) o ≡ true
        → by_list t o ≡ ranked_if (holds (placed k)) (ranked_if (path_list t (option_map (map view) o)) (level_list (option_map (map view) o)))
    list-right t out None h =
        (λ r. if register-right t.domain r then if named-right t.excluded out r then 0 else level_of true (slice_index_or (cells_by g []) k false) (slice_index_or (reached_by g []) row.inst.0 false) else 0)
        ∙ whole-rank (same_domain (domain_of p.intent (placed k).path) (Some t.domain)) (holds (placed k)) (list_any (names_register (placed k).path (placed k).instance) (map view t.excluded)) (slice_index_or (cells_by g []) k false) (slice_index_or (reached_by g []) row.inst.0 false)
    list-right t out (Some es) h =
        (λ r. if register-right t.domain r then if named-right t.excluded out r then 0 else level_of false (own-right es h r) (covered-right es h r) else 0)
        ∙ listed-rank (same_domain (domain_of p.intent (placed k).path) (Some t.domain)) (holds (placed k)) (list_any (names_register (placed k).path (placed k).instance) (map view t.excluded)) (list_any (is_it (placed k)) (map view es)) (list_any (covers (placed k).path) (map view es))
        ∙ (λ r. ranked_if (holds (placed k)) (ranked_if (same_domain (domain_of p.intent (placed k).path) (Some t.domain) && (sym (register-named (placed k) (map view es)) r && not (list_any (names_register (placed k).path (placed k).instance) (map view t.excluded)))) (if sym (cell-named (placed k) (map view es)) r then 3 else 2)))

    -- a strategy of any kind
    abbrev kind_rank : model_strategy.Strategy → StrategyKind → ℕ
    kind_rank t Retention = rank_of g domains (reach_of g t) k row.inst.0
    kind_rank t kind = 0

    zero-rank : (b c : Bool) (r : ℕ) → 0 ≡ ranked_if c (ranked_if (false && b) r)
    zero-rank b true r = refl
    zero-rank b false r = refl

    pub rank-right : (t : model_strategy.Strategy) → has_elements (tables_of g) t ≡ true → (kind : StrategyKind) → t.kind ≡ kind → kind_rank t kind ≡ ranked_if (holds (placed k)) (rank_by (placed k) (known t))
    rank-right t h Retention is =
        list-right t (other (all_of (list_all (has_element (tables_of g))) t.elements) (list_all (has_element (tables_of g)) t.excluded) h) t.elements (one (all_of (list_all (has_element (tables_of g))) t.elements) (list_all (has_element (tables_of g)) t.excluded) h)
        ∙ (λ r. ranked_if (holds (placed k)) (ranked_if (same_kind Retention (sym is r) && path_list t (option_map (map view) t.elements)) (sym (rank-is (placed k).path (placed k).instance (known t)) r)))
    rank-right t h Isolation is = zero-rank (path_list t (option_map (map view) t.elements)) (holds (placed k)) (retention_rank (placed k).path (placed k).instance (known t)) ∙ ap (λ (x : StrategyKind). ranked_if (holds (placed k)) (ranked_if (same_kind Retention x && path_list t (option_map (map view) t.elements)) (retention_rank (placed k).path (placed k).instance (known t)))) (sym is)
    rank-right t h Shifting is = zero-rank (path_list t (option_map (map view) t.elements)) (holds (placed k)) (retention_rank (placed k).path (placed k).instance (known t)) ∙ ap (λ (x : StrategyKind). ranked_if (holds (placed k)) (ranked_if (same_kind Retention x && path_list t (option_map (map view) t.elements)) (retention_rank (placed k).path (placed k).instance (known t)))) (sym is)

    -- ---- all strategies

    better-here : (t : model_strategy.Strategy) (n : ℕ) (bests : List Best) (kind : StrategyKind) → slice_index_or (with_strategy g domains kind t n bests) k none_yet ≡ offer n (kind_rank t kind) (slice_index_or bests k none_yet)
    better-here t n bests Retention =
        let front : 0 + k ≡ k = omega arith in
        numbered-at (better_at g domains (reach_of g t) n bests) 0 g.leaves k row none_yet there ∙ ap (λ m. better_at g domains (reach_of g t) n bests (m, row)) front
    better-here t n bests Isolation = refl
    better-here t n bests Shifting = refl

    pub bests-right : (n : ℕ) (ts : List model_strategy.Strategy) → list_all (has_elements (tables_of g)) ts ≡ true
        → slice_index_or (bests_from g domains n ts) k none_yet ≡ best_from (λ (v : Strategy). ranked_if (holds (placed k)) (rank_by (placed k) v)) n (map known ts)
    bests-right n [] h = get_or-replicate (length g.leaves) k none_yet none_yet low
    bests-right n (t ∷ ts) h =
        better-here t n (bests_from g domains (n + 1) ts) t.kind
        ∙ (λ r. offer n (rank-right t (one (has_elements (tables_of g) t) (list_all (has_elements (tables_of g)) ts) h) t.kind refl r) (bests-right (n + 1) ts (other (has_elements (tables_of g) t) (list_all (has_elements (tables_of g)) ts) h) r))
