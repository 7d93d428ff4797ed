-- The depth of a module by those of the modules in it.
use Rattle.std.proofs.Common.{◌≡◌, inl, inr, ℕ, zero, suc, ◌+◌, ◌<◌, ◌≤◌, min, max, Bool, ◌||◌, List, [], ◌∷◌, ◌++◌, length, take, get_or, set, Some, refl, sym, ap, ◌∙◌, subst, arith}
use Rattle.std.specs.Prelude.{nat_lt, slice_get, slice_index_or}
use Rattle.std.specs.List.{Contains, list_any}
use Rattle.std.proofs.lemmas.Bool.{cases_lt, cases_eq, lt-ltb, le-ltb}
use Rattle.std.proofs.lemmas.List.{take_more, get_or-set_same, get_or-set_other}
use Rattle.lp_model.specs.NetlistView.{ModuleView}
use Rattle.lp_order.specs.Order.{row_of, Reads}
use Rattle.lp_order.proofs.OrderLaws.{Contains-first, Contains-behind}
use Rattle.lp_spec_design.specs.Netlists.{Structure}
use Rattle.lp_spec_design.specs.Graph.{and_more, some_of}
use Rattle.lp_spec_faults.specs.Modules.{is_deeper}
use Rattle.lp_targets.specs.declared.target.Target.{Target}
use Rattle.lp_targets.specs.declared.target.Target.TheVariants.{OfModule, OfCell}
use Rattle.lp_targets.specs.Targets.{module_of}
use Rattle.lp_targets.specs.Children.{children_of, children}
use Rattle.lp_targets.specs.Sizes.{depth_limit, depth_above, depth_at, IsResolved, AreDepths}
use Rattle.lp_targets.proofs.Looping.{stands}
use Rattle.lp_targets.proofs.Capped.{read_in, children-push}
use Rattle.lp_targets.proofs.Orders.{reads_done, done_all}
use Rattle.lp_targets.proofs.Summed.{met_before, row_in, place_in, place_in_rows}

-- ---- depths above some

pub above_some : (t : ℕ → ℕ) (ks : List ℕ) → 0 < depth_above t ks
above_some t [] = omega arith
above_some t (k ∷ ks) = omega (arith, above_some t ks)

tells_more : (n below rest : ℕ) → n < 64 → nat_lt (suc n) (max (min 65 (below + 1)) rest) ≡ (nat_lt n below || nat_lt (suc n) rest)
tells_more n below rest h =
    elim (cases_lt n below) [
      | inl deep ↦
          lt-ltb (suc n) (max (min 65 (below + 1)) rest) (omega (arith, deep, h))
          ∙ sym (ap (λ b. b || nat_lt (suc n) rest) (lt-ltb n below deep))
      | inr flat ↦ elim (cases_lt (suc n) rest) [
        | inl more ↦
            lt-ltb (suc n) (max (min 65 (below + 1)) rest) (omega (arith, more))
            ∙ sym ((λ i. le-ltb n below flat i || lt-ltb (suc n) rest more i))
        | inr less ↦
            le-ltb (suc n) (max (min 65 (below + 1)) rest) (omega (arith, flat, less))
            ∙ sym ((λ i. le-ltb n below flat i || le-ltb (suc n) rest less i))
      ]
    ]

above_tells : (n : ℕ) → n < 64 → (t : ℕ → ℕ) (ks : List ℕ) → nat_lt (suc n) (depth_above t ks) ≡ list_any (λ b. nat_lt n (t b)) ks
above_tells n h t [] = le-ltb (suc n) 1 (omega arith)
above_tells n h t (k ∷ ks) = tells_more n (t k) (depth_above t ks) h ∙ ap (λ b. nat_lt n (t k) || b) (above_tells n h t ks)

above-append : (t : ℕ → ℕ) (ks js : List ℕ) → depth_above t (ks ++ js) ≡ max (depth_above t ks) (depth_above t js)
above-append t [] js = omega (arith, above_some t js)
above-append t (k ∷ ks) js =
    let rest : depth_above t (ks ++ js) ≡ max (depth_above t ks) (depth_above t js) = above-append t ks js in
    omega (arith, rest)

-- one target more of a row
pub depth_more : (t : ℕ → ℕ) (row : List Target) (i : ℕ) (x : Target) (depth result : ℕ) → i < length row → x ≡ get_or row i x → depth ≡ depth_above t (children_of (take i row)) → result ≡ max depth (depth_above t (children_of (x ∷ []))) → result ≡ depth_above t (children_of (take (i + 1) row))
depth_more t row i x depth result h is before now =
    let grown : children_of (take (i + 1) row) ≡ children_of (take i row) ++ children_of (x ∷ []) = ap children_of (take_more row i x h ∙ ap (λ y. take i row ++ y ∷ []) (sym is)) ∙ children-push (take i row) x in
    now ∙ ap (λ d. max d (depth_above t (children_of (x ∷ [])))) before
    ∙ sym (above-append t (children_of (take i row)) (children_of (x ∷ [])))
    ∙ ap (depth_above t) (sym grown)

-- ---- depths of modules

module _ (s : Structure) (p : ModuleView → Bool) (q : ℕ → Bool) where
  place_any : (row : List Target) → ((b : ℕ) → Contains (children_of row) b → (k : ModuleView) × (slice_get s.modules b ≡ Some k) × (p k ≡ q b)) → list_any p (some_of (module_of s) row) ≡ list_any q (children_of row)
  place_any [] all = refl
  place_any (OfCell j ∷ row) all = place_any row all
  place_any (OfModule j ∷ row) all =
      let here = all j (Contains-first j (children_of row) j refl) in
      let rest : list_any p (some_of (module_of s) row) ≡ list_any q (children_of row) = place_any row (λ b c. all b (Contains-behind j (children_of row) b c)) in
      let own : p here.0 ≡ q j = here.2 in
      ap (λ o. list_any p (and_more o (some_of (module_of s) row))) here.1 ∙ (λ i. own i || rest i)

-- the entries of these places are right
abbrev pub HasDepths : Structure → List ℕ → List ℕ → Type 0
HasDepths s keys table = (k n : ℕ) (m : ModuleView) → Contains keys k → slice_get s.modules k ≡ Some m → n ≤ depth_limit → is_deeper s n m ≡ nat_lt n (slice_index_or table k 0)

module _ (s : Structure) (rows : List (List Target)) (order : List ℕ) (top : ℕ) (resolved : IsResolved s rows order top) where
  depth_right : (t : List ℕ) (i n : ℕ) (m : ModuleView) → i < length order → HasDepths s (take i order) t → slice_get s.modules (get_or order i 0) ≡ Some m → n ≤ depth_limit → is_deeper s n m ≡ nat_lt n (depth_at (children rows) t (get_or order i 0))
  depth_right t i zero m h before at low = sym (lt-ltb 0 (depth_at (children rows) t (get_or order i 0)) (above_some (λ b. slice_index_or t b 0) (row_of (children rows) (get_or order i 0))))
  depth_right t i (suc n) m h before at low =
      let key : ℕ = get_or order i 0 in
      let row = row_in s rows order top resolved key m at in
      let tells : ℕ → Bool = λ b. nat_lt n (slice_index_or t b 0) in
      let each : (b : ℕ) → Contains (children_of row.0) b → (k : ModuleView) × (slice_get s.modules b ≡ Some k) × (is_deeper s n k ≡ tells b) =
      λ b c.
      let r : Reads (children rows) key b = subst (λ ks. Contains ks b) (sym row.2) c in
      let there = stands s.modules b (read_in s rows resolved.known.targets resolved.known.closed key b r) in
      (there.0, there.1, before b n there.0 (reads_done (children rows) order resolved.ordered i h b r) there.1 (omega (arith, low))) in
      ap (list_any (is_deeper s n)) row.1
      ∙ place_any s (is_deeper s n) tells row.0 each
      ∙ ap (list_any tells) (sym row.2)
      ∙ sym (above_tells n (omega (arith, low)) (λ b. slice_index_or t b 0) (row_of (children rows) key))

  pub depth_step : (t new : List ℕ) (i : ℕ) → i < length order → length t ≡ length rows → new ≡ set t (get_or order i 0) (depth_at (children rows) t (get_or order i 0)) → HasDepths s (take i order) t → HasDepths s (take (i + 1) order) new
  depth_step t new i h many is before = λ k n m c at low.
      elim (cases_eq k (get_or order i 0)) [
        | inl same ↦
            let here : slice_get s.modules (get_or order i 0) ≡ Some m = subst (λ x. slice_get s.modules x ≡ Some m) same at in
            let inside : get_or order i 0 < length t = subst (λ j. get_or order i 0 < j) (sym many) (place_in_rows s rows order top resolved (get_or order i 0) m here) in
            let entry : get_or new k 0 ≡ depth_at (children rows) t (get_or order i 0) =
            ap (λ ns. get_or ns k 0) is
            ∙ ap (λ x. get_or (set t (get_or order i 0) (depth_at (children rows) t (get_or order i 0))) x 0) same
            ∙ get_or-set_same t (get_or order i 0) (depth_at (children rows) t (get_or order i 0)) 0 inside in
            depth_right t i n m h before here low ∙ ap (nat_lt n) (sym entry)
        | inr other ↦
            let entry : get_or new k 0 ≡ get_or t k 0 = ap (λ ns. get_or ns k 0) is ∙ get_or-set_other t (get_or order i 0) k (depth_at (children rows) t (get_or order i 0)) 0 other in
            before k n m (met_before order i k h c other) at low ∙ ap (nat_lt n) (sym entry)
      ]

  pub depths_done : (t : List ℕ) (n : ℕ) → length order ≤ n → HasDepths s (take n order) t → AreDepths s t
  depths_done t n all right = λ a d m at low. right a d m (done_all (children rows) order resolved.ordered n all a (place_in s rows order top resolved a m at)) at low
