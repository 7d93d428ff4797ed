-- A table by place is filled along an order: each entry is right once the module's place was met.
use Rattle.std.proofs.Common.{◌≡◌, ◌≢◌, inl, inr, ℕ, ◌+◌, ◌<◌, ◌≤◌, min, List, length, take, get_or, set, reverse, Some, sym, ap, ◌∙◌, subst, arith}
use Rattle.std.specs.Prelude.{map, slice_get, slice_index_or, sum_by}
use Rattle.std.specs.List.{Contains}
use Rattle.std.proofs.lemmas.Bool.{cases_eq}
use Rattle.std.proofs.lemmas.List.{take_more, get_or-set_same, get_or-set_other}
use Rattle.std.proofs.lemmas.List.Elements.{Contains-push_cases}
use Rattle.lp_model.specs.NetlistView.{InstanceView, ModuleView}
use Rattle.lp_order.specs.Order.{row_of, HasLoop}
use Rattle.lp_order.proofs.OrderLaws.{order-no_loop}
use Rattle.lp_spec_design.specs.Netlists.{Structure, module_named}
use Rattle.lp_spec_design.specs.Graph.{some_of}
use Rattle.lp_spec_faults.specs.Modules.{modules_in}
use Rattle.lp_targets.specs.declared.target.Target.{Target}
use Rattle.lp_targets.specs.Targets.{module_of}
use Rattle.lp_targets.specs.Children.{children_of, children}
use Rattle.lp_targets.specs.Sizes.{in_module, IsResolved, AreOwn, AreTogether, sum_at}
use Rattle.lp_targets.proofs.Closed.{count_map}
use Rattle.lp_targets.proofs.Recursion.{at_place, row_at, some_map}
use Rattle.lp_targets.proofs.Looping.{count}
use Rattle.lp_targets.proofs.Together.{within}
use Rattle.lp_targets.proofs.Capped.{by_place}
use Rattle.lp_targets.proofs.Orders.{reads_done, done_all}

-- a key of a row that was met is one of those before, or the last
pub met_before : (order : List ℕ) (i k : ℕ) → i < length order → Contains (take (i + 1) order) k → k ≢ get_or order i 0 → Contains (take i order) k
met_before order i k h c other =
    elim (Contains-push_cases (take i order) (get_or order i 0) k (subst (λ ks. Contains ks k) (take_more order i 0 h) c)) [
      | inl there ↦ there
      | inr is ↦ absurd (other (sym is))
    ]

-- what a module has of its own up to a limit is as good
own_same : (limit x y more : ℕ) → min limit x ≡ min limit y → min limit (x + more) ≡ min limit (y + more)
own_same limit x y more e = omega (arith, e)

pub none_met : {A : Type 0} (order : List ℕ) (k : ℕ) → Contains (take 0 order) k → A
none_met order k c = absurd (omega (arith, c.1))

module _ (s : Structure) (rows : List (List Target)) (order : List ℕ) (top : ℕ) (resolved : IsResolved s rows order top) where
  pub never : HasLoop (children rows) → ⊥
  never = order-no_loop (children rows) (reverse order) resolved.ordered

  -- the row of a module
  pub row_in : (a : ℕ) (m : ModuleView) → slice_get s.modules a ≡ Some m → (row : List Target) × (modules_in s m ≡ some_of (module_of s) row) × (row_of (children rows) a ≡ children_of row)
  row_in a m at =
      let row = at_place (map (module_of s)) (λ (x : ModuleView). map (λ (i : InstanceView). module_named s i.target) x.instances) rows s.modules resolved.known.targets.modules a m at in
      let same : modules_in s m ≡ some_of (module_of s) row.0 = some_map (λ (i : InstanceView). module_named s i.target) m.instances ∙ sym (ap (some_of (λ o. o)) row.2) ∙ sym (some_map (module_of s) row.0) in
      (row.0, same, row_at rows a row.0 row.1)

  pub place_in : (a : ℕ) (m : ModuleView) → slice_get s.modules a ≡ Some m → a < length (children rows)
  place_in a m at = subst (λ n. a < n) (sym (count s rows resolved.known.targets)) (within s.modules a m at)

  pub place_in_rows : (a : ℕ) (m : ModuleView) → slice_get s.modules a ≡ Some m → a < length rows
  place_in_rows a m at = subst (λ n. a < n) (count_map children_of rows) (place_in a m at)

-- the entries of these places are right
abbrev pub HasSums : Structure → (ModuleView → ℕ) → ℕ → List ℕ → List ℕ → Type 0
HasSums s each limit keys table = (k : ℕ) (m : ModuleView) → Contains keys k → slice_get s.modules k ≡ Some m → slice_index_or table k 0 ≡ min limit (in_module s each m)

module _ (s : Structure) (rows : List (List Target)) (order : List ℕ) (top : ℕ) (resolved : IsResolved s rows order top) (each : ModuleView → ℕ) (limit : ℕ) (own : List ℕ) (owns : AreOwn s each limit own) where
  sum_right : (t : List ℕ) (i : ℕ) (m : ModuleView) → i < length order → HasSums s each limit (take i order) t → slice_get s.modules (get_or order i 0) ≡ Some m → sum_at (children rows) own limit t (get_or order i 0) ≡ min limit (in_module s each m)
  sum_right t i m h before at =
      let key : ℕ = get_or order i 0 in
      own_same limit (slice_index_or own key 0) (each m) (sum_by (λ b. slice_index_or t b 0) (row_of (children rows) key)) (owns key m at)
      ∙ sym (by_place s rows each limit t key m resolved.known.targets resolved.known.closed (never s rows order top resolved) at
      (λ b k r there. before b k (reads_done (children rows) order resolved.ordered i h b r) there))

  pub sum_step : (t new : List ℕ) (i : ℕ) → i < length order → length t ≡ length rows → new ≡ set t (get_or order i 0) (sum_at (children rows) own limit t (get_or order i 0)) → HasSums s each limit (take i order) t → HasSums s each limit (take (i + 1) order) new
  sum_step t new i h many is before = λ k m c at.
      elim (cases_eq k (get_or order i 0)) [
        | inl same ↦
            let here : slice_get s.modules (get_or order i 0) ≡ Some m = subst (λ x. slice_get s.modules x ≡ Some m) same at in
            let low : get_or order i 0 < length t = subst (λ n. get_or order i 0 < n) (sym many) (place_in_rows s rows order top resolved (get_or order i 0) m here) in
            ap (λ ns. get_or ns k 0) is
            ∙ ap (λ x. get_or (set t (get_or order i 0) (sum_at (children rows) own limit t (get_or order i 0))) x 0) same
            ∙ get_or-set_same t (get_or order i 0) (sum_at (children rows) own limit t (get_or order i 0)) 0 low
            ∙ sum_right t i m h before here
        | inr other ↦
            ap (λ ns. get_or ns k 0) is
            ∙ get_or-set_other t (get_or order i 0) k (sum_at (children rows) own limit t (get_or order i 0)) 0 other
            ∙ before k m (met_before order i k h c other) at
      ]

  pub sums_done : (t : List ℕ) (n : ℕ) → length order ≤ n → HasSums s each limit (take n order) t → AreTogether s each limit t
  sums_done t n all right = λ a m at. right a m (done_all (children rows) order resolved.ordered n all a (place_in s rows order top resolved a m at)) at
