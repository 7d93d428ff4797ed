-- Supplies that are on in a row of the state table: none is under one that it may not be lower than.
use Rattle.std.proofs.Common.{◌≡◌, ◌<◌, ◌+◌, ◌==◌, ℕ, zero, suc, Bool, true, false, not, List, [], ◌∷◌, length, map, Option, Some, None, inl, inr, refl, sym, subst, ap, ◌∙◌, arith}
use Rattle.std.specs.Prelude.{nat_lt, slice_get}
use Rattle.std.specs.List.{list_any, list_all, zip}
use Rattle.std.proofs.lemmas.Bool.{false≢true, and_parts, and_from, ne_eqb, eqb-true, ltb-true}
use Rattle.lp_tern.specs.declared.supply.SupplyState.{SupplyState}
use Rattle.lp_tern.specs.declared.supply.SupplyState.TheVariants as state
use Rattle.lp_model.specs.declared.intent.DeclaredState.{DeclaredState}
use Rattle.lp_model.specs.declared.intent.DeclaredState.TheVariants.{On, Off}
use Rattle.lp_model.specs.declared.intent.RowState.{RowState}
use Rattle.lp_model.specs.declared.intent.RowState.TheVariants as Listed
use Rattle.lp_model.specs.declared.supply.Origin.{Origin}
use Rattle.lp_rows.specs.Network.{input_by, input_at, input_of, root_of, is_some_state, port_states, has_part}
use Rattle.lp_rows.specs.Rows.{listed, allowed_of, allowed, is_lower, any_lower, lower_in, ports_from, ports, is_on_at, accepts}
use Rattle.lp_rows.specs.Voltages.{under_of}
use Rattle.lp_spec_design.specs.Winners.{IsIn}
use Rattle.lp_spec_design.specs.Settled.{Assignment, Event, state_of}
use Rattle.lp_spec_design.proofs.Members.{any-in, of-any}
use Rattle.lp_spec_network.specs.Views.{lower_origins}
use Rattle.lp_spec_network.proofs.SomeRow.{some_row}
use Rattle.lp_spec_realises.specs.Projects.{Project}
use Rattle.lp_spec_voltages.specs.Voltages.{IsFedWithin, has_states, IsNeverUnder}
use Rattle.lp_spec_voltages.proofs.Roots.{root-port, on-within, port-on, on-root}

-- ---- lists

pub all-of : {T : Type 0} (test : T → Bool) (x : T) (xs : List T) → list_all test xs ≡ true → IsIn x xs → test x ≡ true
all-of test x [] all among = absurd among
all-of test x (y ∷ xs) all among =
    let parts = and_parts (test y) (list_all test xs) all in
    elim among [ inl is ↦ ap test is ∙ parts.0 | inr rest ↦ all-of test x xs parts.1 rest ]

zipped-in : {T : Type 0} (g : ℕ → T) (o : ℕ) (xs : List ℕ) → IsIn o xs → IsIn (o, g o) (zip xs (map g xs))
zipped-in g o [] among = absurd among
zipped-in g o (x ∷ xs) among = elim among [ inl is ↦ inl (λ j. (is j, g (is j))) | inr rest ↦ inr (zipped-in g o xs rest) ]

-- ---- what a row allows

-- each port is among the ports
port-in : (k : ℕ) (xs : List Origin) (i n : ℕ) → n ≡ i + k → i < length xs → input_at (slice_get xs i) ≡ None → IsIn n (ports_from k xs)
port-in k [] i n e within unfed = absurd (omega arith)
port-in k (x ∷ xs) zero n e within unfed = let same : n ≡ k = omega arith in rw unfed (inl same)
port-in k (x ∷ xs) (suc i) n e within unfed =
    let next : n ≡ i + (k + 1) = omega arith in
    by (input_by x.kind) refl (port-in (k + 1) xs i n next (omega arith) unfed)
  where
    by : (found : Option ℕ) → input_by x.kind ≡ found → IsIn n (ports_from (k + 1) xs) → IsIn n (ports_from k (x ∷ xs))
    by None is rest = rw is (inr rest)
    by (Some j) is rest = rw is rest

allowed-some : (xs : List DeclaredState) (l : RowState) → is_some_state xs ≡ true → is_some_state (allowed_of xs l) ≡ true
allowed-some [] l e = absurd (false≢true e)
allowed-some (x ∷ xs) Listed.Free e = refl
allowed-some (x ∷ xs) Listed.Off e = refl
allowed-some (x ∷ xs) (Listed.On v) e = refl

on-at : (v : ℕ) (x : DeclaredState) → is_on_at v x ≡ true → x ≡ On v
on-at v (On w) e = ap (λ u. On u) (sym (eqb-true v w e))
on-at v Off e = absurd (false≢true e)

accepted : (xs : List DeclaredState) (v : ℕ) → is_some_state xs ≡ true → accepts xs (state.On v) ≡ true → IsIn (On v) xs
accepted [] v some e = absurd (false≢true some)
accepted (y ∷ ys) v some e =
    let found = of-any (is_on_at v) (y ∷ ys) e in
    subst (λ x. IsIn x (y ∷ ys)) (on-at v found.0 found.2) found.1

lower-from : (d v w : ℕ) (xs ys : List DeclaredState) → IsIn (On v) xs → IsIn (On w) ys → nat_lt (v + d) w ≡ true → any_lower d xs ys ≡ true
lower-from d v w xs ys a b less = any-in (λ x. list_any (is_lower d x) ys) (On v) xs a (any-in (is_lower d (On v)) (On w) ys b less)

-- what is under is on
pub under-by : (r g t h : SupplyState) (margin : ℕ) → ((v w : ℕ) → r ≡ state.On v → t ≡ state.On w → nat_lt (v + margin) w ≡ false)
    → under_of r g t h margin ≡ false
under-by (state.On v) (state.On g) (state.On w) (state.On h) margin f = f v w refl refl
under-by _ _ _ _ margin f = refl

module _ (p : Project) (ev : Event) (A : Assignment) (h : IsFedWithin p ev A) where
  abbrev pub event_row : List RowState
  event_row = h.within.1

  -- a port that is on has a state that the row allows it
  port-allowed : (r v : ℕ) → r < length p.supplies.origins → input_of p.supplies r ≡ None → has_part p.supplies r ≡ true → state_of A r ≡ state.On v
      → IsIn (On v) (allowed p.supplies event_row r)
  port-allowed r v within unfed part on =
      let taken = all-of (λ (e : ℕ × SupplyState). accepts (allowed p.supplies event_row e.0) e.1) (r, ev.supplies r) (zip (ports p.supplies) (map ev.supplies (ports p.supplies))) h.within.3 (zipped-in ev.supplies r (ports p.supplies) (port-in 0 p.supplies.origins r r (omega arith) within unfed)) in
      accepted (allowed p.supplies event_row r) v (allowed-some (port_states p.supplies r) (listed event_row r) part)
      (ap (accepts (allowed p.supplies event_row r)) (sym (port-on p ev A h r v unfed on)) ∙ taken)

  pub root-allowed : (o v : ℕ) → has_states p.supplies o ≡ true → state_of A o ≡ state.On v → IsIn (On v) (allowed p.supplies event_row (root_of p.supplies o))
  root-allowed o v part on =
      let root = root-port p.supplies h.network o (on-within p ev A h o v on) in
      port-allowed (root_of p.supplies o) v root.0 root.1 part (on-root p ev A h o v on)

  -- two origins of one root have one voltage
  pub one-voltage : (a b v w : ℕ) → root_of p.supplies a ≡ root_of p.supplies b → state_of A a ≡ state.On v → state_of A b ≡ state.On w → v ≡ w
  one-voltage a b v w same on_a on_b =
      let first = on-root p ev A h a v on_a in
      let second = on-root p ev A h b w on_b in
      let both : state.On v ≡ state.On w = sym first ∙ ap (state_of A) same ∙ second in cc

  pub not-below : (a b margin v w : ℕ) → has_states p.supplies a ≡ true → has_states p.supplies b ≡ true → lower_origins p.supplies a b margin ≡ false
      → state_of A a ≡ state.On v → state_of A b ≡ state.On w → nat_lt (v + margin) w ≡ false
  not-below a b margin v w part_a part_b lower on_a on_b = by (nat_lt (v + margin) w) refl
    where
      apart : nat_lt (v + margin) w ≡ true → root_of p.supplies a ≡ root_of p.supplies b → ⊥
      apart less same =
          let below : v + margin < w = ltb-true (v + margin) w less in
          let one : v ≡ w = one-voltage a b v w same on_a on_b in
          omega arith

      shown : nat_lt (v + margin) w ≡ true → lower_in p.supplies event_row a b margin ≡ true
      shown less =
          and_from (not (root_of p.supplies a == root_of p.supplies b)) (any_lower margin (allowed p.supplies event_row (root_of p.supplies a)) (allowed p.supplies event_row (root_of p.supplies b)))
          (ap not (ne_eqb (root_of p.supplies a) (root_of p.supplies b) (apart less)))
          (lower-from margin v w (allowed p.supplies event_row (root_of p.supplies a)) (allowed p.supplies event_row (root_of p.supplies b)) (root-allowed a v part_a on_a) (root-allowed b w part_b on_b) less)

      by : (found : Bool) → nat_lt (v + margin) w ≡ found → found ≡ false
      by false is = refl
      by true is = absurd (false≢true (sym lower ∙ (some_row p.supplies (λ r. lower_in p.supplies r a b margin)).1 (h.within.0, event_row, h.within.2, shown is)))

  pub never-under : (a b margin : ℕ) → has_states p.supplies a ≡ true → has_states p.supplies b ≡ true → lower_origins p.supplies a b margin ≡ false
      → IsNeverUnder margin (state_of A a) (state_of A b)
  never-under a b margin part_a part_b lower = λ g k. under-by (state_of A a) g (state_of A b) k margin (λ v w on_a on_b. not-below a b margin v w part_a part_b lower on_a on_b)
