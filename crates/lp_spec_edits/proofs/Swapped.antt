-- Another cell takes the place of one: pins keep by their names what they are joined to and what they drive.
use Rattle.std.proofs.Common.{◌≡◌, ◌⊎◌, ◌<◌, ◌≤◌, ℕ, zero, suc, Bool, true, false, ◌==◌, cond, List, [], ◌∷◌, ◌++◌, map, length, replicate, get_or, Option, Some, None, inl, inr, refl, sym, ap, ◌∙◌, arith}
use Rattle.std.specs.Prelude.{nat_lt, slice_get, option_and_then, unwrap_or}
use Rattle.std.specs.List.{list_all}
use Rattle.std.proofs.lemmas.Bool.{eqb-true, eq-eqb, ltb-true, ltb-false}
use Rattle.std.proofs.lemmas.List.{length-map}
use Rattle.std.proofs.lemmas.Option.{slice_get-get_or}
use Rattle.lp_model.specs.declared.graph.Leaf.{Leaf}
use Rattle.lp_model.specs.declared.graph.Node.{Node as NodeRow}
use Rattle.lp_model.specs.declared.graph.PinNet.{PinNet}
use Rattle.lp_model.specs.declared.graph.PinNet.TheVariants.{Unconnected, Node as PinNode}
use Rattle.lp_model.specs.declared.graph.Source.{Source as SourceRow}
use Rattle.lp_model.specs.declared.graph.Source.TheVariants.{Nothing, Env, Leaf as OfLeaf, Edge as OfEdge}
use Rattle.lp_spec_design.specs.Reads.{one, other, both}
use Rattle.lp_spec_edits.specs.Net.{Signal, CellPins, Net, cell_pins, cell_pins_at, outputs_of, source_at, edge_at, pin_at, drives, before, through}
use Rattle.lp_spec_edits.specs.Edits.{changed, pin_named, pin_kept, new_row, pin_moved, source_moved, swap_cell}
use Rattle.lp_spec_edits.specs.Sound.{IsSound, HasOwnNames, HasTwin, is_of_leaf, IsSwapped}
use Rattle.lp_spec_edits.proofs.Wires.{same-or, other-number, differ, open-pin, same-some, same-pin}
use Rattle.lp_spec_edits.proofs.Entries.{length-changed, changed-at, changed-other, map-changed}

-- ---- pins by their names

no-signal : (x : Signal) → None ≡ Some x → ⊥
no-signal x e = cc

no-place : (k : ℕ) → None ≡ Some k → ⊥
no-place k e = cc

abbrev next_place : Option ℕ → Option ℕ
next_place o = option_and_then (λ k. Some (suc k)) o

named-at : (name : ℕ) (xs : List Signal) → ((i j : ℕ) (x y : Signal) → slice_get xs i ≡ Some x → slice_get xs j ≡ Some y → x.name ≡ y.name → i ≡ j) → (j : ℕ) (x : Signal) → slice_get xs j ≡ Some x → x.name ≡ name → pin_named name xs ≡ Some j
named-at name [] own zero x e is = absurd (no-signal x e)
named-at name [] own (suc j) x e is = absurd (no-signal x e)
named-at name (y ∷ xs) own zero x e is = ap (λ b. cond b (Some 0) (next_place (pin_named name xs))) (eq-eqb y.name name (ap (λ (z : Signal). z.name) (same-some y x e) ∙ is))
named-at name (y ∷ xs) own (suc j) x e is = by (y.name == name) refl (named-at name xs (λ i k u v f g same. let at = own (suc i) (suc k) u v f g same in omega (arith, at)) j x e is)
  where
    by : (b : Bool) → (y.name == name) ≡ b → pin_named name xs ≡ Some j → cond (y.name == name) (Some 0) (next_place (pin_named name xs)) ≡ Some (suc j)
    by true ok more = let at = own zero (suc j) y x refl e (eqb-true y.name name ok ∙ sym is) in absurd (omega (arith, at))
    by false ok more = ap (λ b. cond b (Some 0) (next_place (pin_named name xs))) ok ∙ ap next_place more

named-found : (name : ℕ) (xs : List Signal) (j : ℕ) → pin_named name xs ≡ Some j → (x : Signal) × (slice_get xs j ≡ Some x) × (x.name ≡ name)
named-found name [] j e = absurd (no-place j e)
named-found name (y ∷ xs) j e = by (y.name == name) refl (pin_named name xs) refl (λ k. named-found name xs k)
  where
    by : (b : Bool) → (y.name == name) ≡ b → (o : Option ℕ) → pin_named name xs ≡ o → ((k : ℕ) → pin_named name xs ≡ Some k → (x : Signal) × (slice_get xs k ≡ Some x) × (x.name ≡ name)) → (x : Signal) × (slice_get (y ∷ xs) j ≡ Some x) × (x.name ≡ name)
    by true ok o is more =
        let at = same-some 0 j (sym (ap (λ b. cond b (Some 0) (next_place (pin_named name xs))) ok) ∙ e) in
        (y, ap (slice_get (y ∷ xs)) (sym at), eqb-true y.name name ok)
    by false ok None is more = absurd (no-place j (sym (ap (λ b. cond b (Some 0) (next_place (pin_named name xs))) ok ∙ ap next_place is) ∙ e))
    by false ok (Some k) is more =
        let at = same-some (suc k) j (sym (ap (λ b. cond b (Some 0) (next_place (pin_named name xs))) ok ∙ ap next_place is) ∙ e) in
        let found = more k is in
        (found.0, ap (slice_get (y ∷ xs)) (sym at) ∙ found.1, found.2)

signal-or : (xs : List Signal) (q : ℕ) → ((x : Signal) × (slice_get xs q ≡ Some x)) ⊎ (length xs ≤ q)
signal-or xs q = by (slice_get xs q) refl (nat_lt q (length xs)) refl
  where
    by : (o : Option Signal) → slice_get xs q ≡ o → (b : Bool) → nat_lt q (length xs) ≡ b → ((x : Signal) × (slice_get xs q ≡ Some x)) ⊎ (length xs ≤ q)
    by (Some x) e b low = inl (x, e)
    by None e true low = absurd (no-signal (get_or xs q (record { name = 0; drives = false })) (sym e ∙ slice_get-get_or xs q (record { name = 0; drives = false }) (ltb-true q (length xs) low)))
    by None e false low = inr (ltb-false q (length xs) low)

-- ---- lists

get-front : {A B : Type 0} (f : A → B) (xs : List A) (ys : List B) (q : ℕ) (x : A) (d : B) → slice_get xs q ≡ Some x → get_or (map f xs ++ ys) q d ≡ f x
get-front f [] ys zero x d e = let no_ : None ≡ Some x = e in absurd cc
get-front f [] ys (suc q) x d e = let no_ : None ≡ Some x = e in absurd cc
get-front f (y ∷ xs) ys zero x d e = ap f (same-some y x e)
get-front f (y ∷ xs) ys (suc q) x d e = get-front f xs ys q x d e

get-back : {A B : Type 0} (f : A → B) (d : B) (m : ℕ) (xs : List A) (q : ℕ) → length xs ≤ q → get_or (map f xs ++ replicate m d) q d ≡ d
get-back f d m [] q low = all m q
  where
    all : (m q : ℕ) → get_or (replicate m d) q d ≡ d
    all zero q = refl
    all (suc m) zero = refl
    all (suc m) (suc q) = all m q
get-back f d m (x ∷ xs) zero low = absurd (omega (arith, low))
get-back f d m (x ∷ xs) (suc q) low = get-back f d m xs q (omega (arith, low))

all-changed : {A : Type 0} (test : A → Bool) (f : A → A) → ((x : A) → test (f x) ≡ test x) → (k : ℕ) (xs : List A) → list_all test xs ≡ true → list_all test (changed f k xs) ≡ true
all-changed test f same k [] h = refl
all-changed test f same zero (x ∷ xs) h = both (test (f x)) (list_all test xs) (same x ∙ one (test x) (list_all test xs) h) (other (test x) (list_all test xs) h)
all-changed test f same (suc k) (x ∷ xs) h = both (test x) (list_all test (changed f k xs)) (one (test x) (list_all test xs) h) (all-changed test f same k xs (other (test x) (list_all test xs) h))

get-mapped : (f : SourceRow → SourceRow) → f Nothing ≡ Nothing → (xs : List NodeRow) (k : ℕ) → get_or (map (λ (x : NodeRow). x.source) (map (λ (x : NodeRow). record x { source = f x.source }) xs)) k Nothing ≡ f (get_or (map (λ (x : NodeRow). x.source) xs) k Nothing)
get-mapped f none [] k = sym none
get-mapped f none (x ∷ xs) zero = refl
get-mapped f none (x ∷ xs) (suc k) = get-mapped f none xs k

-- ---- the whole

module _ (n : Net) (h : IsSound n) (l c : ℕ) (leaf : l < length n.leaves)
    (old_own : HasOwnNames (cell_pins_at n l)) (new_own : HasOwnNames (cell_pins n.cells c))
    (twins : (q : ℕ) (x : Signal) → slice_get (cell_pins_at n l).signals q ≡ Some x → HasTwin (cell_pins n.cells c) x)
    (open_ : (q : ℕ) → length (cell_pins_at n l).signals ≤ q → pin_at n l q ≡ Unconnected) where
  abbrev old : CellPins
  old = cell_pins_at n l

  abbrev new : CellPins
  new = cell_pins n.cells c

  abbrev m : Net
  m = swap_cell n l c

  abbrev row : List PinNet
  row = get_or n.rows l []

  -- ---- pins

  row-is : get_or m.rows l [] ≡ new_row old new row
  row-is = changed-at (new_row old new) l n.rows [] (omega (arith, leaf, h.rows))

  pin-at-signal : (r : ℕ) (y : Signal) → slice_get new.signals r ≡ Some y → pin_at m l r ≡ pin_kept old row y
  pin-at-signal r y e = ap (λ (xs : List PinNet). get_or xs r Unconnected) row-is ∙ get-front (pin_kept old row) new.signals (replicate (length new.pgs) Unconnected) r y Unconnected e

  pin-past : (r : ℕ) → length new.signals ≤ r → pin_at m l r ≡ Unconnected
  pin-past r low = ap (λ (xs : List PinNet). get_or xs r Unconnected) row-is ∙ get-back (pin_kept old row) Unconnected (length new.pgs) new.signals r low

  pin-other : (a q : ℕ) → (a ≡ l → ⊥) → pin_at m a q ≡ pin_at n a q
  pin-other a q ne = ap (λ (xs : List PinNet). get_or xs q Unconnected) (changed-other (new_row old new) a l n.rows [] ne)

  -- a pin is joined as the one of its name was
  joined-as : (q r : ℕ) (x y : Signal) → slice_get old.signals q ≡ Some x → slice_get new.signals r ≡ Some y → y.name ≡ x.name → pin_at m l r ≡ pin_at n l q
  joined-as q r x y from to name =
      pin-at-signal r y to
      ∙ ap (λ o. unwrap_or (option_and_then (λ k. Some (get_or row k Unconnected)) o) Unconnected) (named-at y.name old.signals old_own q x from (sym name))

  fresh-open : (r : ℕ) (y : Signal) → slice_get new.signals r ≡ Some y → ((q : ℕ) (x : Signal) → slice_get old.signals q ≡ Some x → y.name ≡ x.name → ⊥) → pin_at m l r ≡ Unconnected
  fresh-open r y to none = pin-at-signal r y to ∙ by (pin_named y.name old.signals) refl
    where
      by : (o : Option ℕ) → pin_named y.name old.signals ≡ o → unwrap_or (option_and_then (λ k. Some (get_or row k Unconnected)) (pin_named y.name old.signals)) Unconnected ≡ Unconnected
      by None e = ap (λ o. unwrap_or (option_and_then (λ k. Some (get_or row k Unconnected)) o) Unconnected) e
      by (Some q) e = let found = named-found y.name old.signals q e in absurd (none q found.0 found.1 (sym found.2))

  -- what a joined pin of the new cell was
  pin-from : (r k : ℕ) → pin_at m l r ≡ PinNode (record { 0 = k }) → (y : Signal) × (slice_get new.signals r ≡ Some y) × (q : ℕ) × (x : Signal) × (slice_get old.signals q ≡ Some x) × (y.name ≡ x.name) × (pin_at n l q ≡ PinNode (record { 0 = k }))
  pin-from r k e = elim (signal-or new.signals r) [
    | inl found ↦ by found.0 found.1 (pin_named found.0.name old.signals) refl
    | inr past ↦ absurd (open-pin k (sym (pin-past r past) ∙ e))
  ]
    where
      by : (y : Signal) → slice_get new.signals r ≡ Some y → (o : Option ℕ) → pin_named y.name old.signals ≡ o → (y : Signal) × (slice_get new.signals r ≡ Some y) × (q : ℕ) × (x : Signal) × (slice_get old.signals q ≡ Some x) × (y.name ≡ x.name) × (pin_at n l q ≡ PinNode (record { 0 = k }))
      by y to None g = absurd (open-pin k (sym (pin-at-signal r y to ∙ ap (λ o. unwrap_or (option_and_then (λ j. Some (get_or row j Unconnected)) o) Unconnected) g) ∙ e))
      by y to (Some q) g =
          let found = named-found y.name old.signals q g in
          (y, to, q, found.0, found.1, sym found.2, sym (joined-as q r found.0 y found.1 to (sym found.2)) ∙ e)

  -- ---- what drives

  source-is : (k : ℕ) → source_at m k ≡ source_moved old new l (source_at n k)
  source-is k = get-mapped (source_moved old new l) refl n.nodes k

  moved-to : (q r : ℕ) (x y : Signal) → slice_get old.signals q ≡ Some x → slice_get new.signals r ≡ Some y → y.name ≡ x.name → pin_moved old new q ≡ r
  moved-to q r x y from to name =
      ap (λ o. unwrap_or (option_and_then (λ (z : Signal). pin_named z.name new.signals) o) q) from
      ∙ ap (λ o. unwrap_or o q) (named-at x.name new.signals new_own r y to name)

  source-as : (q r k : ℕ) (x y : Signal) → slice_get old.signals q ≡ Some x → slice_get new.signals r ≡ Some y → y.name ≡ x.name → source_at n k ≡ OfLeaf q (record { 0 = l }) → source_at m k ≡ OfLeaf r (record { 0 = l })
  source-as q r k x y from to name is =
      source-is k
      ∙ (ap (source_moved old new l) is
      ∙ (ap (λ b. cond b (OfLeaf (pin_moved old new q) (record { 0 = l })) (OfLeaf q (record { 0 = l }))) (eq-eqb l l refl)
      ∙ ap (λ j. OfLeaf j (record { 0 = l })) (moved-to q r x y from to name)))

  source-other : (k : ℕ) → is_of_leaf l (source_at n k) ≡ false → source_at m k ≡ source_at n k
  source-other k no_ = source-is k ∙ by (source_at n k) no_
    where
      by : (s : SourceRow) → is_of_leaf l s ≡ false → source_moved old new l s ≡ s
      by Nothing e = refl
      by Env e = refl
      by (OfEdge a) e = refl
      by (OfLeaf q a) e = ap (λ b. cond b (OfLeaf (pin_moved old new q) a) (OfLeaf q a)) e

  -- what drove a node that a cell instance drives now
  leaf-from : (k a r : ℕ) → source_at m k ≡ OfLeaf r (record { 0 = a }) → (q : ℕ) × (source_at n k ≡ OfLeaf q (record { 0 = a }))
  leaf-from k a r e = by (source_at n k) refl (sym (source-is k) ∙ e)
    where
      leaf_in : SourceRow → ℕ
      leaf_in (OfLeaf q b) = b.0
      leaf_in _ = a

      by : (s : SourceRow) → source_at n k ≡ s → source_moved old new l (source_at n k) ≡ OfLeaf r (record { 0 = a }) → (q : ℕ) × (source_at n k ≡ OfLeaf q (record { 0 = a }))
      by Nothing is g = let no_ : Nothing ≡ OfLeaf r (record { 0 = a }) = sym (ap (source_moved old new l) is) ∙ g in absurd cc
      by Env is g = let no_ : Env ≡ OfLeaf r (record { 0 = a }) = sym (ap (source_moved old new l) is) ∙ g in absurd cc
      by (OfEdge b) is g = let no_ : OfEdge b ≡ OfLeaf r (record { 0 = a }) = sym (ap (source_moved old new l) is) ∙ g in absurd cc
      by (OfLeaf q b) is g = (q, is ∙ ap (λ j. OfLeaf q (record { 0 = j })) (kept (b.0 == l) ∙ ap leaf_in (sym (ap (source_moved old new l) is) ∙ g)))
        where
          kept : (d : Bool) → b.0 ≡ leaf_in (cond d (OfLeaf (pin_moved old new q) b) (OfLeaf q b))
          kept true = refl
          kept false = refl

  edge-from : (k e : ℕ) → source_at m k ≡ OfEdge (record { 0 = e }) → source_at n k ≡ OfEdge (record { 0 = e })
  edge-from k e is = by (source_at n k) refl (sym (source-is k) ∙ is)
    where
      by : (s : SourceRow) → source_at n k ≡ s → source_moved old new l (source_at n k) ≡ OfEdge (record { 0 = e }) → source_at n k ≡ OfEdge (record { 0 = e })
      by Nothing at g = let no_ : Nothing ≡ OfEdge (record { 0 = e }) = sym (ap (source_moved old new l) at) ∙ g in absurd cc
      by Env at g = let no_ : Env ≡ OfEdge (record { 0 = e }) = sym (ap (source_moved old new l) at) ∙ g in absurd cc
      by (OfEdge b) at g = at ∙ (sym (ap (source_moved old new l) at) ∙ g)
      by (OfLeaf q b) at g = absurd (no-edge (b.0 == l) (sym (ap (source_moved old new l) at) ∙ g))
        where
          no-edge : (d : Bool) → cond d (OfLeaf (pin_moved old new q) b) (OfLeaf q b) ≡ OfEdge (record { 0 = e }) → ⊥
          no-edge true f = cc
          no-edge false f = cc

  before-same : before m ≡ before n
  before-same = λ u k. at k u
    where
      by : (s : SourceRow) → through (edge_at n) (source_moved old new l s) ≡ through (edge_at n) s
      by Nothing = refl
      by Env = refl
      by (OfEdge b) = refl
      by (OfLeaf q b) = none (b.0 == l)
        where
          none : (d : Bool) → through (edge_at n) (cond d (OfLeaf (pin_moved old new q) b) (OfLeaf q b)) ≡ None
          none true = refl
          none false = refl

      at : (k : ℕ) → before m k ≡ before n k
      at k = ap (through (edge_at n)) (source-is k) ∙ by (source_at n k)

  -- ---- which pins drive

  cells-are : map (λ (x : Leaf). x.cell.0) m.leaves ≡ changed (λ k. c) l (map (λ (x : Leaf). x.cell.0) n.leaves)
  cells-are = map-changed (λ (x : Leaf). x.cell.0) (λ (x : Leaf). record x { cell = record { 0 = c } }) (λ k. c) (λ x. refl) l n.leaves

  cell-here : cell_pins_at m l ≡ new
  cell-here =
      ap (λ ks. cell_pins n.cells (get_or ks l (length n.cells))) cells-are
      ∙ ap (cell_pins n.cells) (changed-at (λ k. c) l (map (λ (x : Leaf). x.cell.0) n.leaves) (length n.cells) (omega (arith, leaf, length-map n.leaves (λ (x : Leaf). x.cell.0))))

  drives-other : (a q : ℕ) → (a ≡ l → ⊥) → drives m a q ≡ drives n a q
  drives-other a q ne =
      ap (λ ks. get_or (outputs_of (cell_pins n.cells (get_or ks a (length n.cells)))) q false) cells-are
      ∙ ap (λ k. get_or (outputs_of (cell_pins n.cells k)) q false) (changed-other (λ k. c) a l (map (λ (x : Leaf). x.cell.0) n.leaves) (length n.cells) ne)

  drives-new : (r : ℕ) (y : Signal) → slice_get new.signals r ≡ Some y → drives m l r ≡ y.drives
  drives-new r y to = ap (λ x. get_or (outputs_of x) r false) cell-here ∙ get-front (λ (x : Signal). x.drives) new.signals new.pgs r y false to

  drives-old : (q : ℕ) (x : Signal) → slice_get old.signals q ≡ Some x → drives n l q ≡ x.drives
  drives-old q x from = get-front (λ (z : Signal). z.drives) old.signals old.pgs q x false from

  -- a pin that drives a node is a signal pin, since the others are open
  signal-drives : (k q : ℕ) → source_at n k ≡ OfLeaf q (record { 0 = l }) → (x : Signal) × (slice_get old.signals q ≡ Some x)
  signal-drives k q is = elim (signal-or old.signals q) [
    | inl found ↦ found
    | inr past ↦ absurd (open-pin k (sym (open_ q past) ∙ h.wires.by_pin k l q is))
  ]

  -- what a pin of the new cell drives, the pin of its name drove
  driven-from : (k r : ℕ) → source_at m k ≡ OfLeaf r (record { 0 = l }) → (q : ℕ) × (x : Signal) × (slice_get old.signals q ≡ Some x) × (source_at n k ≡ OfLeaf q (record { 0 = l })) × (y : Signal) × (slice_get new.signals r ≡ Some y) × (y.name ≡ x.name) × (y.drives ≡ x.drives)
  driven-from k r e =
      let from = leaf-from k l r e in
      let signal = signal-drives k from.0 from.1 in
      let twin = twins from.0 signal.0 signal.1 in
      let at = same-pin twin.place l r l (sym (source-as from.0 twin.place k signal.0 twin.twin signal.1 twin.there twin.name from.1) ∙ e) in
      (from.0, signal.0, signal.1, from.1, twin.twin, ap (slice_get new.signals) (sym at) ∙ twin.there, twin.name, twin.drives)

  of-other : (k a q : ℕ) → (a ≡ l → ⊥) → source_at n k ≡ OfLeaf q (record { 0 = a }) → source_at m k ≡ source_at n k
  of-other k a q ne is = source-other k (ap (is_of_leaf l) is ∙ other-number a l ne)

  from-other : (k a q : ℕ) → (a ≡ l → ⊥) → source_at m k ≡ OfLeaf q (record { 0 = a }) → source_at n k ≡ OfLeaf q (record { 0 = a })
  from-other k a q ne e = let from = leaf-from k a q e in sym (of-other k a from.0 ne from.1) ∙ e

  swapped-sound : IsSound m
  swapped-sound = record {
    wires = record {
      by_pin = λ k a q e. elim (same-or a l) [
        | inl is ↦
            let from = driven-from k q (e ∙ ap (λ j. OfLeaf q (record { 0 = j })) is) in
            ap (λ j. pin_at m j q) is ∙ (joined-as from.0 q from.1 from.4 from.2 from.5 from.6 ∙ h.wires.by_pin k l from.0 from.3)
        | inr ne ↦ pin-other a q ne ∙ h.wires.by_pin k a q (from-other k a q ne e)
      ];
      by_edge = λ k e is. h.wires.by_edge k e (edge-from k e is);
      leads = λ e x is. let here = h.wires.leads e x is in source-other x.to.0 (ap (is_of_leaf l) here) ∙ here;
      outputs = λ a q k yes_ e. elim (same-or a l) [
        | inl is ↦
            let from = pin-from q k (ap (λ j. pin_at m j q) (sym is) ∙ e) in
            let twin = twins from.2 from.3 from.4 in
            let at = new_own twin.place q twin.twin from.0 twin.there from.1 (twin.name ∙ sym from.5) in
            let same = same-some twin.twin from.0 (sym twin.there ∙ (ap (slice_get new.signals) at ∙ from.1)) in
            let drove = drives-old from.2 from.3 from.4 ∙ (sym twin.drives ∙ (ap (λ (z : Signal). z.drives) same ∙ (sym (drives-new q from.0 from.1) ∙ (ap (λ j. drives m j q) (sym is) ∙ yes_)))) in
            source-as from.2 q k from.3 from.0 from.4 from.1 from.5 (h.wires.outputs l from.2 k drove from.6) ∙ ap (λ j. OfLeaf q (record { 0 = j })) (sym is)
        | inr ne ↦
            let here = h.wires.outputs a q k (sym (drives-other a q ne) ∙ yes_) (sym (pin-other a q ne) ∙ e) in
            of-other k a q ne here ∙ here
      ];
      inputs = λ k a q e. elim (same-or a l) [
        | inl is ↦
            let from = driven-from k q (e ∙ ap (λ j. OfLeaf q (record { 0 = j })) is) in
            ap (λ j. drives m j q) is ∙ (drives-new q from.4 from.5 ∙ (from.7 ∙ (sym (drives-old from.0 from.1 from.2) ∙ h.wires.inputs k l from.0 from.3)))
        | inr ne ↦ drives-other a q ne ∙ h.wires.inputs k a q (from-other k a q ne e)
      ];
      pins = λ a q k e. nodes-same (elim (same-or a l) [
        | inl is ↦ let from = pin-from q k (ap (λ j. pin_at m j q) (sym is) ∙ e) in h.wires.pins l from.2 k from.6
        | inr ne ↦ h.wires.pins a q k (sym (pin-other a q ne) ∙ e)
      ]);
      edges = λ e x is. let ok = h.wires.edges e x is in record { begins = λ j f. nodes-same (ok.begins j f); leads = nodes-same ok.leads };
    };
    ends = record { rank = h.ends.rank; falls = λ k j e. h.ends.falls k j ((λ u. sym before-same u k) ∙ e) };
    leaves = all-changed (λ (x : Leaf). nat_lt x.inst.0 (length n.instances)) (λ (x : Leaf). record x { cell = record { 0 = c } }) (λ x. refl) l n.leaves h.leaves;
    instances = h.instances;
    rows = length-changed (new_row old new) l n.rows ∙ (h.rows ∙ sym (length-changed (λ (x : Leaf). record x { cell = record { 0 = c } }) l n.leaves));
  }
    where
      nodes-same : {k : ℕ} → k < length n.nodes → k < length m.nodes
      nodes-same low = let size = length-map n.nodes (λ (x : NodeRow). record x { source = source_moved old new l x.source }) in omega (arith, low, size)

  pub swapped : IsSwapped n m l old new
  swapped = record {
    edited = record {
      sound = swapped-sound;
      keeps = record {
        sources = source-other;
        ways = λ e no_. refl;
        joins = λ a q no_. pin-other a q (differ a l no_);
      };
      count = let size = length-map n.nodes (λ (x : NodeRow). record x { source = source_moved old new l x.source }) in omega (arith, size);
      ways = omega arith;
      leaves = let size = length-changed (λ (x : Leaf). record x { cell = record { 0 = c } }) l n.leaves in omega (arith, size);
    };
    joins = joined-as;
    sources = source-as;
    fresh = fresh-open;
    supplies = pin-past;
  }
