-- What is lost exactly with some supply sets is up, whatever unknown supplies are, exactly where all of them are on.
use Rattle.std.proofs.Common.{◌≡◌, ℕ, ◌+◌, ◌==◌, Bool, true, false, not, ◌||◌, List, [], ◌∷◌, map, Option, Some, None, inl, inr, refl, sym, ap, ◌∙◌, subst}
use Rattle.std.specs.Prelude.{if◌then◌else◌, bytes_eq, is_some, filter, option_and_then}
use Rattle.std.specs.List.{list_all, zip}
use Rattle.std.proofs.lemmas.Bool.{false≢true, and_parts, and_from, eqb-true, eq-eqb}
use Rattle.lp_tern.specs.declared.tern.Tern.{Tern}
use Rattle.lp_tern.specs.declared.supply.SupplyState.{SupplyState}
use Rattle.lp_tern.specs.declared.supply.SupplyState.TheVariants.{On, Off, Unknown}
use Rattle.lp_expr.specs.Formula.{truth, completions}
use Rattle.lp_expr.specs.Replaces.{Keeps, Replaces}
use Rattle.lp_model.specs.declared.supply.SetOrigins.{SetOrigins}
use Rattle.lp_model.specs.LibraryView.{ExprView, PgPinView, CellView}
use Rattle.lp_spec_design.specs.Keys.{Name, Path}
use Rattle.lp_spec_design.specs.Netlists.{first}
use Rattle.lp_spec_design.specs.Graph.{numbered}
use Rattle.lp_spec_design.specs.Winners.{IsIn}
use Rattle.lp_spec_design.specs.Settled.{is_on}
use Rattle.lp_spec_pins.specs.Pins.{PinKey, Signal, Supply, SupplySource, same_source, Powered, PinAssignment, state_from, source_of_pg, onness, is_power, pg_named, level_by, levels, agree_if_same, is_consistent, sources_named, is_up}
use Rattle.lp_spec_pins.specs.Reads.{key-true, key-self}
use Rattle.lp_spec_fit.specs.Joins.{Joins}
use Rattle.lp_spec_fit.specs.PowerDown.{Onness, is_set_on, origin_of_pin, level_where, power_down_equals}
use Rattle.lp_spec_fit.proofs.Equal.{power_down_everywhere}
use Rattle.lp_spec_cells.specs.Sound.{is_down_of}
use Rattle.lp_spec_cells.specs.Joined.{Comes, OriginStates, IsJoinedBy, Apart, Stands, on_in, all_on}
use Rattle.lp_spec_design.proofs.Members.{of-filter}
use Rattle.lp_spec_cells.proofs.Names.{filtered}
use Rattle.lp_spec_cells.proofs.Outcomes.{all-in, in-all, one-fails, in-completed, of-completed}

-- ---- lists

in-zip : {A B C : Type 0} (f : A → C) (a : A) (b : B) (xs : List A) (ys : List B) → IsIn (a, b) (zip xs ys) → IsIn (f a, b) (zip (map f xs) ys)
in-zip f a b [] ys h = absurd h
in-zip f a b (x ∷ xs) [] h = absurd h
in-zip f a b (x ∷ xs) (y ∷ ys) h = elim h [ inl is ↦ inl (ap (λ z. (f z.0, z.1)) is) | inr r ↦ inr (in-zip f a b xs ys r) ]

-- the power or ground pin of a name, by its number
pub record Numbered (pgs : List PgPinView) (from : ℕ) (v : Name) : Type 0 where
  number : ℕ
  pin : PgPinView
  is_in : IsIn (number, pin) (numbered from pgs)
  at : first (λ x. bytes_eq x.1.name v) (numbered from pgs) ≡ Some (number, pin)
  named : first (λ (g : PgPinView). bytes_eq g.name v) pgs ≡ Some pin

numbered-named : (pgs : List PgPinView) (from : ℕ) (v : Name) → is_some (first (λ (g : PgPinView). bytes_eq g.name v) pgs) ≡ true → Numbered pgs from v
numbered-named [] from v e = absurd (false≢true e)
numbered-named (g ∷ gs) from v e = by (bytes_eq g.name v) refl e (numbered-named gs (from + 1) v)
  where
    by : (b : Bool) → bytes_eq g.name v ≡ b → is_some (if b then Some g else first (λ (h : PgPinView). bytes_eq h.name v) gs) ≡ true
        → (is_some (first (λ (h : PgPinView). bytes_eq h.name v) gs) ≡ true → Numbered gs (from + 1) v) → Numbered (g ∷ gs) from v
    by true f h more = record {
      number = from;
      pin = g;
      is_in = inl refl;
      at = λ i. if f i then Some (from, g) else first (λ x. bytes_eq x.1.name v) (numbered (from + 1) gs);
      named = λ i. if f i then Some g else first (λ (h : PgPinView). bytes_eq h.name v) gs;
    }
    by false f h more =
        let found = more h in
        record {
          number = found.number;
          pin = found.pin;
          is_in = inr found.is_in;
          at = (λ i. if f i then Some (from, g) else first (λ x. bytes_eq x.1.name v) (numbered (from + 1) gs)) ∙ found.at;
          named = (λ i. if f i then Some g else first (λ (h : PgPinView). bytes_eq h.name v) gs) ∙ found.named;
        }

-- ---- sources

same_source-true : (s t : SupplySource) → same_source s t ≡ true → s ≡ t
same_source-true s t e = ap (unwrapped s) (key-true (Supply s) (Supply t) e)
  where
    unwrapped : SupplySource → PinKey → SupplySource
    unwrapped other (Supply r) = r
    unwrapped other (Signal k) = other

true-same_source : (s : SupplySource) → same_source s s ≡ true
true-same_source s = key-self (Supply s)

-- bits that stand at one source are the same
one-bit : (s : SupplySource) (a b : Bool) → agree_if_same (Some s, a) (Some s, b) ≡ true → a ≡ b
one-bit s a b e = by a b (sym (λ i. not (true-same_source s i) || (if a then b else not b)) ∙ e)
  where
    by : (a b : Bool) → (if a then b else not b) ≡ true → a ≡ b
    by true b f = sym f
    by false true f = absurd (false≢true f)
    by false false f = refl

keeps-on : (s : SupplyState) → Keeps (onness s) (is_on s)
keeps-on (On v) = refl
keeps-on Off = refl
keeps-on Unknown = tt

on-keeps : (s : SupplyState) (b : Bool) → is_on s ≡ true → Keeps (onness s) b → b ≡ true
on-keeps (On v) b e k = k
on-keeps Off b e k = absurd (false≢true e)
on-keeps Unknown b e k = absurd (false≢true e)

-- ---- a power-down function

module _ (w : Powered) (B : PinAssignment) (path : Path) (x : Name) (c : CellView) (source : Comes) (join : Joins) (st : OriginStates)
    (joined : IsJoinedBy w path x c source join) (apart : Apart source) (stands : Stands B source st) where
  -- the source of the pin of a name
  at : Name → Option SupplySource
  at v = source_of_pg w path x (pg_named c v)

  -- a name is that of a pin that is joined
  record IsAt (v : Name) : Type 0 where
    origin : ℕ
    pin : PgPinView
    supply : SupplySource
    named : pg_named c v ≡ Some pin
    joins : origin_of_pin c join v ≡ Some (origin, pin)
    comes : source origin ≡ Some supply
    here : at v ≡ Some supply

  is-at : (v : Name) → is_some (pg_named c v) ≡ true → IsAt v
  unfolding at
  is-at v e =
      let found = numbered-named c.pgs 0 v e in
      let j = joined.each found.number found.pin found.is_in in
      record {
        origin = j.origin;
        pin = found.pin;
        supply = j.supply;
        named = found.named;
        joins =
            ap (λ o. option_and_then (λ y. option_and_then (λ o. Some (o, y.1)) (join y.0 y.1)) o) found.at
            ∙ ap (λ o. option_and_then (λ o. Some (o, found.pin)) o) j.joins;
        comes = j.comes;
        here = ap (source_of_pg w path x) found.named ∙ j.pin;
      }

  -- its supply has the state of its origin
  state-at : (v : Name) (a : IsAt v) → state_from B (at v) ≡ st a.origin
  state-at v a = ap (state_from B) (a.here ∙ sym a.comes) ∙ stands a.origin

  AllAt : List Name → Type 0
  AllAt vs = (v : Name) → IsIn v vs → IsAt v

  -- ---- a choice by origins gives one of bits

  bit : Onness → Option (ℕ × PgPinView) → Bool
  bit on None = false
  bit on (Some y) = on y.0

  bits : Onness → List Name → List Bool
  bits on vs = map (λ v. bit on (origin_of_pin c join v)) vs

  abbrev ons : List Name → List Tern
  ons vs = map (λ s. onness (state_from B s)) (map (λ v. source_of_pg w path x (pg_named c v)) vs)

  bits-replace : (vs : List Name) → AllAt vs → Replaces (ons vs) (bits (λ o. is_on (st o)) vs)
  unfolding AllAt bit bits at
  bits-replace [] all = tt
  bits-replace (v ∷ vs) all =
      let a = all v (inl refl) in (
        subst (λ s. Keeps (onness s) (bit (λ o. is_on (st o)) (origin_of_pin c join v))) (sym (state-at v a))
            (subst (λ o. Keeps (onness (st a.origin)) (bit (λ o. is_on (st o)) o)) (sym a.joins) (keeps-on (st a.origin))),
        bits-replace vs (λ u m. all u (inr m)),
      )

  levels-where : (on : Onness) (vs : List Name) → AllAt vs → levels c vs (bits on vs) ≡ map (λ v. level_where on (origin_of_pin c join v)) vs
  unfolding AllAt bit bits
  levels-where on [] all = refl
  levels-where on (v ∷ vs) all =
      let a = all v (inl refl) in
      let one : level_by (pg_named c v) (bit on (origin_of_pin c join v)) ≡ level_where on (origin_of_pin c join v) =
      (λ i. level_by (a.named i) (bit on (a.joins i))) ∙ sym (ap (level_where on) a.joins) in
      let rest = levels-where on vs (λ u m. all u (inr m)) in
      λ i. one i ∷ rest i

  of-both : (on : Onness) (vs : List Name) (z : Option SupplySource × Bool) → IsIn z (zip (map (λ v. source_of_pg w path x (pg_named c v)) vs) (bits on vs))
      → (v : Name) × IsIn v vs × (z ≡ (source_of_pg w path x (pg_named c v), bit on (origin_of_pin c join v)))
  unfolding bits
  of-both on [] z h = absurd h
  of-both on (v ∷ vs) z h = elim h [ inl is ↦ (v, inl refl, is) | inr r ↦ let found = of-both on vs z r in (found.0, inr found.1, found.2) ]

  pair-agrees : (on : Onness) (s t : SupplySource) (o p : ℕ) → source o ≡ Some s → source p ≡ Some t → agree_if_same (Some s, on o) (Some t, on p) ≡ true
  pair-agrees on s t o p e f = by (same_source s t) refl
    where
      itself : (b : Bool) → (if b then b else not b) ≡ true
      itself true = refl
      itself false = refl

      by : (b : Bool) → same_source s t ≡ b → (not b || (if on o then on p else not (on p))) ≡ true
      by false g = refl
      by true g =
          let same : o ≡ p = apart o p t (e ∙ ap (λ r. Some r) (same_source-true s t g)) f in
          ap (λ q. if on o then on q else not (on q)) (sym same) ∙ itself (on o)

  both-agree : (on : Onness) (v u : Name) → IsAt v → IsAt u
      → agree_if_same (source_of_pg w path x (pg_named c v), bit on (origin_of_pin c join v)) (source_of_pg w path x (pg_named c u), bit on (origin_of_pin c join u)) ≡ true
  unfolding bit at
  both-agree on v u a b = (λ i. agree_if_same (a.here i, bit on (a.joins i)) (b.here i, bit on (b.joins i))) ∙ pair-agrees on a.supply b.supply a.origin b.origin a.comes b.comes

  bits-consistent : (on : Onness) (vs : List Name) → AllAt vs → is_consistent (zip (map (λ v. source_of_pg w path x (pg_named c v)) vs) (bits on vs)) ≡ true
  unfolding AllAt
  bits-consistent on vs all =
      let pairs = zip (map (λ v. source_of_pg w path x (pg_named c v)) vs) (bits on vs) in
      in-all (λ y. list_all (agree_if_same y) pairs) pairs
      (λ y m. in-all (agree_if_same y) pairs
      (λ z n.
      let first = of-both on vs y m in
      let second = of-both on vs z n in
      (λ i. agree_if_same (first.2 i) (second.2 i)) ∙ both-agree on first.0 second.0 (all first.0 first.1) (all second.0 second.1)))

  -- ---- a choice of bits gives one by origins

  is_of : ℕ → Option (ℕ × PgPinView) → Bool
  is_of o None = false
  is_of o (Some y) = y.0 == o

  look : List Name → List Bool → Onness
  unfolding is_of
  look [] bs o = is_on (st o)
  look (v ∷ vs) [] o = is_on (st o)
  look (v ∷ vs) (b ∷ bs) o = if is_of o (origin_of_pin c join v) then b else look vs bs o

  is-of : (o : ℕ) (v : Name) (a : IsAt v) → is_of o (origin_of_pin c join v) ≡ true → a.origin ≡ o
  unfolding is_of
  is-of o v a e = eqb-true a.origin o (sym (ap (is_of o) a.joins) ∙ e)

  looked-on : (vs : List Name) (bs : List Bool) → AllAt vs → Replaces (ons vs) bs → (o : ℕ) → is_on (st o) ≡ true → look vs bs o ≡ true
  unfolding look AllAt is_of at
  looked-on [] bs all r o e = e
  looked-on (v ∷ vs) [] all r o e = e
  looked-on (v ∷ vs) (b ∷ bs) all r o e = by (is_of o (origin_of_pin c join v)) refl (looked-on vs bs (λ u m. all u (inr m)) r.1 o e)
    where
      by : (q : Bool) → is_of o (origin_of_pin c join v) ≡ q → look vs bs o ≡ true → (if q then b else look vs bs o) ≡ true
      by true f rest =
          let a = all v (inl refl) in
          on-keeps (st o) b e (subst (λ s. Keeps (onness s) b) (state-at v a ∙ ap st (is-of o v a f)) r.0)
      by false f rest = rest

  looked-at : (vs : List Name) (bs : List Bool) → AllAt vs → (v : Name) (b : Bool) → IsIn (v, b) (zip vs bs) → (a : IsAt v)
      → ((u : Name) (d : Bool) → IsIn (u, d) (zip vs bs) → (q : IsAt u) → q.origin ≡ a.origin → d ≡ b)
      → look vs bs a.origin ≡ b
  unfolding look AllAt is_of
  looked-at [] bs all v b h a uniform = absurd h
  looked-at (u ∷ vs) [] all v b h a uniform = absurd h
  looked-at (u ∷ vs) (d ∷ bs) all v b h a uniform = by (is_of a.origin (origin_of_pin c join u)) refl (λ r. looked-at vs bs (λ n m. all n (inr m)) v b r a (λ n y m. uniform n y (inr m)))
    where
      by : (q : Bool) → is_of a.origin (origin_of_pin c join u) ≡ q → (IsIn (v, b) (zip vs bs) → look vs bs a.origin ≡ b) → (if q then d else look vs bs a.origin) ≡ b
      by true f rest = uniform u d (inl refl) (all u (inl refl)) (is-of a.origin u (all u (inl refl)) f)
      by false f rest = elim h [
        | inl is ↦ absurd (false≢true (sym f ∙ ap (λ n. is_of a.origin (origin_of_pin c join n)) (sym (ap (λ z. z.0) is)) ∙ ap (is_of a.origin) a.joins ∙ eq-eqb a.origin a.origin refl))
        | inr r ↦ rest r
      ]

  levels-looked : (vs : List Name) (bs : List Bool) (on : Onness) → Replaces (ons vs) bs
      → ((v : Name) (b : Bool) → IsIn (v, b) (zip vs bs) → level_by (pg_named c v) b ≡ level_where on (origin_of_pin c join v))
      → levels c vs bs ≡ map (λ v. level_where on (origin_of_pin c join v)) vs
  levels-looked [] bs on r each = refl
  levels-looked (v ∷ vs) [] on r each = absurd r
  levels-looked (v ∷ vs) (b ∷ bs) on r each =
      let one = each v b (inl refl) in
      let rest = levels-looked vs bs on r.1 (λ u d m. each u d (inr m)) in
      λ i. one i ∷ rest i

  in-zipped : {A D : Type 0} (a : A) (b : D) (ys : List A) (zs : List D) → IsIn (a, b) (zip ys zs) → IsIn a ys
  in-zipped a b [] zs h = absurd h
  in-zipped a b (y ∷ ys) [] h = absurd h
  in-zipped a b (y ∷ ys) (z ∷ zs) h = elim h [ inl is ↦ inl (ap (λ p. p.0) is) | inr r ↦ inr (in-zipped a b ys zs r) ]

  -- bits that are consistent are the same at one origin
  uniform-bits : (vs : List Name) (bs : List Bool) → is_consistent (zip (map (λ v. source_of_pg w path x (pg_named c v)) vs) bs) ≡ true
      → (v u : Name) (b d : Bool) → IsIn (v, b) (zip vs bs) → IsIn (u, d) (zip vs bs) → (a : IsAt v) (q : IsAt u) → q.origin ≡ a.origin → d ≡ b
  unfolding at
  uniform-bits vs bs ok v u b d m n a q same =
      let pairs = zip (map (λ v. source_of_pg w path x (pg_named c v)) vs) bs in
      let src : Name → Option SupplySource = λ v. source_of_pg w path x (pg_named c v) in
      let row = all-in (λ y. list_all (agree_if_same y) pairs) pairs (src u, d) ok (in-zip src u d vs bs n) in
      let cell = all-in (agree_if_same (src u, d)) pairs (src v, b) row (in-zip src v b vs bs m) in
      let one : source_of_pg w path x (pg_named c v) ≡ source_of_pg w path x (pg_named c u) = a.here ∙ sym a.comes ∙ ap source (sym same) ∙ q.comes ∙ sym q.here in
      one-bit q.supply d b (sym (λ i. agree_if_same (q.here i, d) ((one ∙ q.here) i, b)) ∙ cell)

  module _ (sets : List SetOrigins) (e : ExprView) (equals : power_down_equals c join sets (Some e) ≡ true) (sound : is_down_of c e ≡ true) where
    all-at : AllAt e.variables
    unfolding AllAt
    all-at v m = is-at v (all-in (λ n. is_some (pg_named c n)) e.variables v sound m)

    down-where : (on : Onness) → truth e.steps (map (λ v. level_where on (origin_of_pin c join v)) e.variables) ≡ not (list_all (is_set_on on) sets)
    down-where on = power_down_everywhere c join sets e equals on

    kept : List (List Bool)
    kept = filter (λ bs. is_consistent (zip (sources_named w path x c e.variables) bs)) (completions (map (λ s. onness (state_from B s)) (sources_named w path x c e.variables)))

    up-where-off : all_on st sets ≡ false → is_up w B path x c (Some e) ≡ false
    unfolding kept
    up-where-off off =
        let on : Onness = λ o. is_on (st o) in
        let chosen = bits on e.variables in
        let down : truth e.steps (levels c e.variables chosen) ≡ true = ap (truth e.steps) (levels-where on e.variables all-at) ∙ down-where on ∙ ap not off in
        one-fails (λ bs. not (truth e.steps (levels c e.variables bs))) kept chosen
        (filtered (λ bs. is_consistent (zip (sources_named w path x c e.variables) bs)) chosen (completions (ons e.variables))
        (in-completed (ons e.variables) chosen (bits-replace e.variables all-at)) (bits-consistent on e.variables all-at))
        (ap not down)

    level-at : (bs : List Bool) → is_consistent (zip (sources_named w path x c e.variables) bs) ≡ true
        → (v : Name) (b : Bool) → IsIn (v, b) (zip e.variables bs) → level_by (pg_named c v) b ≡ level_where (look e.variables bs) (origin_of_pin c join v)
    unfolding AllAt
    level-at bs ok v b m =
        let a = all-at v (in-zipped v b e.variables bs m) in
        let value : look e.variables bs a.origin ≡ b = looked-at e.variables bs all-at v b m a (λ u d n q same. uniform-bits e.variables bs ok v u b d m n a q same) in
        (λ i. level_by (a.named i) b) ∙ (ap (λ y. if is_power a.pin.kind then y else not y) (sym value) ∙ sym (ap (level_where (look e.variables bs)) a.joins))

    set-on : (bs : List Bool) → Replaces (ons e.variables) bs → (s : SetOrigins) → on_in st s ≡ true → is_set_on (look e.variables bs) s ≡ true
    set-on bs r s up =
        let parts = and_parts (is_on (st s.power.0)) (is_on (st s.gnd.0)) up in
        and_from (look e.variables bs s.power.0) (look e.variables bs s.gnd.0)
        (looked-on e.variables bs all-at r s.power.0 parts.0) (looked-on e.variables bs all-at r s.gnd.0 parts.1)

    zero-at : all_on st sets ≡ true → (bs : List Bool) → IsIn bs kept → not (truth e.steps (levels c e.variables bs)) ≡ true
    unfolding kept
    zero-at up bs h =
        let found = of-filter (λ y. is_consistent (zip (sources_named w path x c e.variables) y)) bs (completions (ons e.variables)) h in
        let r = of-completed (ons e.variables) bs found.0 in
        let on : Onness = look e.variables bs in
        let sets_on : list_all (is_set_on on) sets ≡ true = in-all (is_set_on on) sets (λ s m. set-on bs r s (all-in (on_in st) sets s up m)) in
        ap (λ ls. not (truth e.steps ls)) (levels-looked e.variables bs on r (level-at bs found.1)) ∙ (ap not (down-where on) ∙ ap (λ y. not (not y)) sets_on)

    up-where-all-on : all_on st sets ≡ true → is_up w B path x c (Some e) ≡ true
    unfolding kept
    up-where-all-on up = in-all (λ bs. not (truth e.steps (levels c e.variables bs))) kept (λ bs h. zero-at up bs h)

    pub up_where_on : is_up w B path x c (Some e) ≡ all_on st sets
    up_where_on = by (all_on st sets) refl
      where
        by : (b : Bool) → all_on st sets ≡ b → is_up w B path x c (Some e) ≡ b
        by true up = up-where-all-on up
        by false off = up-where-off off
