-- What each step of a walk keeps, over the lists of its fields.
use Rattle.std.proofs.Common.{◌≡◌, ◌≢◌, ◌≤◌, ◌<◌, ◌+◌, ◌-◌, ◌⊎◌, ℕ, zero, suc, List, [], ◌∷◌, ◌++◌, length, get_or, inl, inr, refl, ap, sym, ◌∙◌, subst, arith, length-set, get_or-set_same, get_or-set_other}
use Rattle.std.specs.List.{Contains}
use Rattle.std.specs.Prelude.{map, replicate, reverse, slice_set as set}
use Rattle.std.proofs.lemmas.Bool.{cases_lt, cases_eq}
use Rattle.std.proofs.lemmas.List.Sums.{sum_by-set}
use Rattle.std.proofs.lemmas.List.{get_or_append_left, get_or_push, get_or_default, get_or_past, get_or-map, get_or-replicate, length-map, length-replicate, length_push, nil_from_length, reverse-append}
use Rattle.std.proofs.lemmas.List.Elements.{Contains-get_or, Contains-push, Contains-push_cases, Contains-append_left}
use Rattle.lp_order.specs.Order.{row_of, Reads, ReadsBelow, Reaches, one_read, more_reads, HasLoop, IsOrder}
use Rattle.lp_order.specs.Walk.{mark_of, moves_left, IsPath, IsWalkOf, IsWalk, IsDone, IsLast, IsFrom, Steps, Finishes}
use Rattle.lp_order.specs.declared.walk.Walk.{Walk}
use Rattle.lp_order.specs.declared.walk.Mark.{Mark}
use Rattle.lp_order.specs.declared.walk.Mark.TheVariants.{New, Open, Done}
use Rattle.lp_order.proofs.OrderLaws.{Contains-first, Contains-behind}

-- a mark after a write is the one written, or the old one
mark_of-set_cases : (marks : List Mark) (key : ℕ) (m : Mark) (k : ℕ) (x : Mark) → key < length marks → mark_of (set marks key m) k ≡ x → ((k ≡ key) × (m ≡ x)) ⊎ (mark_of marks k ≡ x)
mark_of-set_cases marks key m k x h e =
    elim (cases_eq k key) [
      | inl same ↦ inl (same, sym (get_or-set_same marks key m New h) ∙ subst (λ i. mark_of (set marks key m) i ≡ x) same e)
      | inr other ↦ inr (sym (get_or-set_other marks key k m New other) ∙ e)
    ]

-- a key that is done stays done where another key is marked
pub IsDone-set_other : (marks : List Mark) (key : ℕ) (m : Mark) (k : ℕ) → mark_of marks key ≢ Done → mark_of marks k ≡ Done → mark_of (set marks key m) k ≡ Done
IsDone-set_other marks key m k ne e =
    elim (cases_eq k key) [
      | inl same ↦ absurd (ne (subst (λ i. mark_of marks i ≡ Done) same e))
      | inr other ↦ get_or-set_other marks key k m New other ∙ e
    ]

-- and where a key is marked as done
pub IsDone-set_done : (marks : List Mark) (key k : ℕ) → key < length marks → mark_of marks k ≡ Done → mark_of (set marks key Done) k ≡ Done
IsDone-set_done marks key k h e =
    elim (cases_eq k key) [
      | inl same ↦ subst (λ i. mark_of (set marks key Done) i ≡ Done) (sym same) (get_or-set_same marks key Done New h)
      | inr other ↦ get_or-set_other marks key k Done New other ∙ e
    ]

below-push : (path : List ℕ) (key n : ℕ) → ((i : ℕ) → i < length path → get_or path i 0 < n) → key < n → (i : ℕ) → i < length (path ++ key ∷ []) → get_or (path ++ key ∷ []) i 0 < n
below-push path key n f lt i h =
    elim (cases_lt i (length path)) [
      | inl low ↦ rw (get_or_append_left path (key ∷ []) 0 i low) (f i low)
      | inr high ↦ rw (get_or_push path key 0 i (omega (arith, length_push path key))) lt
    ]

IsPath-push : (graph : List (List ℕ)) (path : List ℕ) (key : ℕ) → IsPath graph path → (0 < length path → Reads graph (get_or path (length path - 1) 0) key) → IsPath graph (path ++ key ∷ [])
IsPath-push graph path key p r i h =
    let longer = length_push path key in
    let low : i < length path = omega arith in
    rw (get_or_append_left path (key ∷ []) 0 i low) (
    elim (cases_lt (i + 1) (length path)) [
      | inl inner ↦ rw (get_or_append_left path (key ∷ []) 0 (i + 1) inner) (p i inner)
      | inr last ↦
          let top : length path - 1 ≡ i = omega arith in
          rw (get_or_push path key 0 (i + 1) (omega arith)) (subst (λ j. Reads graph (get_or path j 0) key) top (r (omega arith)))
    ])

below-pop : (path : List ℕ) (top n : ℕ) → ((i : ℕ) → i < length (path ++ top ∷ []) → get_or (path ++ top ∷ []) i 0 < n) → (i : ℕ) → i < length path → get_or path i 0 < n
below-pop path top n f i h = rw (get_or_append_left path (top ∷ []) 0 i h) at (f i (omega (arith, length_push path top)))

IsPath-pop : (graph : List (List ℕ)) (path : List ℕ) (top : ℕ) → IsPath graph (path ++ top ∷ []) → IsPath graph path
IsPath-pop graph path top p i h =
    let low : i < length path = omega arith in
    rw (get_or_append_left path (top ∷ []) 0 i low, get_or_append_left path (top ∷ []) 0 (i + 1) h) at (p i (omega (arith, length_push path top)))

-- the walk reaches a new key
pub IsWalk-open : (graph : List (List ℕ)) (unread : List ℕ) (marks : List Mark) (path order : List ℕ) (key : ℕ) → IsWalkOf graph unread marks path order → key < length graph → mark_of marks key ≡ New → (0 < length path → Reads graph (get_or path (length path - 1) 0) key) → IsWalkOf graph unread (set marks key Open) (path ++ key ∷ []) order
IsWalk-open graph unread marks path order key w inside new reads =
    let in_marks : key < length marks = omega (arith, w.marked) in
    let not_done : mark_of marks key ≢ Done = λ e. cc in
    record {
      counted = w.counted;
      marked = length-set marks key Open ∙ w.marked;
      below = below-push path key (length graph) w.below inside;
      leads = IsPath-push graph path key w.leads reads;
      on_path = λ k e. elim (mark_of-set_cases marks key Open k Open in_marks e) [
        | inl this ↦ subst (Contains (path ++ key ∷ [])) (sym this.0) (Contains-push path key)
        | inr other ↦ Contains-append_left path (key ∷ []) k (w.on_path k other)
      ];
      within = w.within;
      followed = λ k i h low high. IsDone-set_other marks key Open (get_or (row_of graph k) i 0) not_done (w.followed k i h low high);
      ordered = w.ordered;
      in_order = λ k e. elim (mark_of-set_cases marks key Open k Done in_marks e) [
        | inl this ↦ let no : Open ≡ Done = this.1 in cc
        | inr other ↦ w.in_order k other
      ];
    }

-- the walk leaves a key all of whose reads are followed
pub IsWalk-close : (graph : List (List ℕ)) (unread : List ℕ) (marks : List Mark) (path order : List ℕ) (top : ℕ) → IsWalkOf graph unread marks (path ++ top ∷ []) order → top < length graph → get_or unread top 0 ≡ 0 → IsWalkOf graph unread (set marks top Done) path (top ∷ order)
IsWalk-close graph unread marks path order top w inside none =
    let in_marks : top < length marks = omega (arith, w.marked) in
    record {
      counted = w.counted;
      marked = length-set marks top Done ∙ w.marked;
      below = below-pop path top (length graph) w.below;
      leads = IsPath-pop graph path top w.leads;
      on_path = λ k e. elim (mark_of-set_cases marks top Done k Open in_marks e) [
        | inl this ↦ let no : Done ≡ Open = this.1 in cc
        | inr other ↦ elim (Contains-push_cases path top k (w.on_path k other)) [
          | inl there ↦ there
          | inr same ↦
              let done : mark_of (set marks top Done) k ≡ Done = subst (λ i. mark_of (set marks top Done) i ≡ Done) same (get_or-set_same marks top Done New in_marks) in
              cc
        ]
      ];
      within = w.within;
      followed = λ k i h low high. IsDone-set_done marks top (get_or (row_of graph k) i 0) in_marks (w.followed k i h low high);
      ordered = (
        (λ b r. w.in_order b (
            let read : get_or (row_of graph top) r.0 0 ≡ b = get_or_default (row_of graph top) r.0 0 b r.1 ∙ r.2 in
            subst (λ x. mark_of marks x ≡ Done) read (w.followed top r.0 inside (omega arith) r.1))),
        w.ordered,
      );
      in_order = λ k e. elim (mark_of-set_cases marks top Done k Done in_marks e) [
        | inl this ↦ Contains-first top order k (sym this.0)
        | inr other ↦ Contains-behind top order k (w.in_order k other)
      ];
    }

-- the walk passes over a read of a key that is done
pub IsWalk-skip : (graph : List (List ℕ)) (unread : List ℕ) (marks : List Mark) (path order : List ℕ) (top left : ℕ) → IsWalkOf graph unread marks path order → top < length graph → get_or unread top 0 ≡ left → 0 < left → mark_of marks (get_or (row_of graph top) (left - 1) 0) ≡ Done → IsWalkOf graph (set unread top (left - 1)) marks path order
IsWalk-skip graph unread marks path order top left w inside is some done =
    let in_unread : top < length unread = omega (arith, w.counted) in
    let now : get_or (set unread top (left - 1)) top 0 ≡ left - 1 = get_or-set_same unread top (left - 1) 0 in_unread in
    record {
      counted = length-set unread top (left - 1) ∙ w.counted;
      marked = w.marked;
      below = w.below;
      leads = w.leads;
      on_path = w.on_path;
      within = λ k. elim (cases_eq k top) [
        | inl same ↦ subst (λ i. get_or (set unread top (left - 1)) i 0 ≤ length (row_of graph i)) (sym same) (omega (arith, w.within top))
        | inr other ↦ rw (get_or-set_other unread top k (left - 1) 0 other) (w.within k)
      ];
      followed = λ k i h low high. elim (cases_eq k top) [
        | inr other ↦ w.followed k i h (rw (get_or-set_other unread top k (left - 1) 0 other) at low) high
        | inl same ↦
            let low' : left - 1 ≤ i = rw (same, now) at low in
            elim (cases_eq i (left - 1)) [
              | inl here ↦ rw (same, here) done
              | inr behind ↦ w.followed k i h (rw (same, is) (omega arith)) high
            ]
      ];
      ordered = w.ordered;
      in_order = w.in_order;
    }

-- a key of a path leads to each later one
pub IsPath-reaches : (graph : List (List ℕ)) (path : List ℕ) → IsPath graph path → (i d : ℕ) → i + suc d < length path → Reaches graph (get_or path i 0) (get_or path (i + suc d) 0)
IsPath-reaches graph path p i zero h = one_read (p i h)
IsPath-reaches graph path p i (suc d) h =
    let same : (i + 1) + suc d ≡ i + suc (suc d) = omega arith in
    more_reads (p i (omega arith)) (subst (λ j. Reaches graph (get_or path (i + 1) 0) (get_or path j 0)) same (IsPath-reaches graph path p (i + 1) d (omega arith)))

-- the last key of the path reads a key on the path
pub IsWalk-loop : (graph : List (List ℕ)) (unread : List ℕ) (marks : List Mark) (path order : List ℕ) (top read : ℕ) → IsWalkOf graph unread marks path order → get_or path (length path - 1) 0 ≡ top → mark_of marks read ≡ Open → Reads graph top read → HasLoop graph
IsWalk-loop graph unread marks path order top read w last is_open reads =
    let there = w.on_path read is_open in
    let at : get_or path there.0 0 ≡ read = get_or_default path there.0 0 read there.1 ∙ there.2 in
    elim (cases_lt (there.0 + 1) (length path)) [
      | inl inner ↦
          let d = length path - 1 - there.0 - 1 in
          let end : there.0 + suc d ≡ length path - 1 = omega arith in
          let way = IsPath-reaches graph path w.leads there.0 d (omega arith) in
          let way' : Reaches graph read top = subst (λ x. Reaches graph x top) at (subst (Reaches graph (get_or path there.0 0)) (ap (λ j. get_or path j 0) end ∙ last) way) in
          (top, more_reads reads way')
      | inr outer ↦
          let end : there.0 ≡ length path - 1 = omega (arith, there.1) in
          let same : read ≡ top = sym at ∙ ap (λ j. get_or path j 0) end ∙ last in
          (top, one_read (subst (Reads graph top) same reads))
    ]

-- each step of the code, as what its fields become
module _ (graph : List (List ℕ)) (old new : Walk) (top : ℕ) (w : IsWalk graph old) (at_end : IsLast old.path.items top) where
  pub IsLast-below : top < length graph
  IsLast-below = subst (λ key. key < length graph) at_end.last (w.below (length old.path.items - 1) (omega (arith, at_end.some)))

  pub Steps-close : get_or old.unread.items top 0 ≡ 0 → new.unread.items ≡ old.unread.items → new.marks.items ≡ set old.marks.items top Done → old.path.items ≡ new.path.items ++ top ∷ [] → new.done.items ≡ old.done.items ++ top ∷ [] → Steps graph old new
  Steps-close none u m p d =
      let in_marks : top < length old.marks.items = omega (arith, w.marked, IsLast-below) in
      let w' : IsWalkOf graph old.unread.items old.marks.items (new.path.items ++ top ∷ []) (reverse old.done.items) = subst (λ path. IsWalkOf graph old.unread.items old.marks.items path (reverse old.done.items)) p w in
      let left : reverse new.done.items ≡ top ∷ reverse old.done.items = ap reverse d ∙ reverse-append old.done.items (top ∷ []) in
      let same = sum_by-set moves_left old.marks.items top Done New in_marks in
      let longer = ap length p ∙ length_push new.path.items top in
      let done : IsDone new top = rw m (get_or-set_same old.marks.items top Done New in_marks) in
      record {
        walk = rw (u, m, left) (IsWalk-close graph old.unread.items old.marks.items new.path.items (reverse old.done.items) top w' IsLast-below none);
        nearer = rw (u, m) (omega arith);
        keeps = λ k e. rw m (IsDone-set_done old.marks.items top k in_marks e);
        from = λ root f. record {
          first = λ some. sym (get_or_append_left new.path.items (top ∷ []) 0 0 some) ∙ ap (λ path. get_or path 0 0) (sym p) ∙ f.first (omega arith);
          over = λ none'.
              let alone : length old.path.items - 1 ≡ 0 = omega arith in
              let is_root : top ≡ root = sym at_end.last ∙ ap (λ i. get_or old.path.items i 0) alone ∙ f.first (omega arith) in
              subst (IsDone new) is_root done;
        };
      }

  pub Steps-open : (key : ℕ) → key < length graph → mark_of old.marks.items key ≡ New → Reads graph top key → new.unread.items ≡ old.unread.items → new.marks.items ≡ set old.marks.items key Open → new.path.items ≡ old.path.items ++ key ∷ [] → new.done.items ≡ old.done.items → Steps graph old new
  Steps-open key inside is_new reads u m p d =
      let in_marks : key < length old.marks.items = omega (arith, w.marked) in
      let not_done : mark_of old.marks.items key ≢ Done = λ e. cc in
      let same = sum_by-set moves_left old.marks.items key Open New in_marks in
      let weight : moves_left (mark_of old.marks.items key) ≡ 2 = ap moves_left is_new in
      let longer = ap length p ∙ length_push old.path.items key in
      record {
        walk = rw (u, m, p, d) (IsWalk-open graph old.unread.items old.marks.items old.path.items (reverse old.done.items) key w inside is_new (λ some. subst (λ x. Reads graph x key) (sym at_end.last) reads));
        nearer = rw (u, m) (omega arith);
        keeps = λ k e. rw m (IsDone-set_other old.marks.items key Open k not_done e);
        from = λ root f. record {
          first = λ some. ap (λ path. get_or path 0 0) p ∙ get_or_append_left old.path.items (key ∷ []) 0 0 at_end.some ∙ f.first at_end.some;
          over = λ none. absurd (omega arith);
        };
      }

  pub Steps-skip : (left : ℕ) → get_or old.unread.items top 0 ≡ left → 0 < left → mark_of old.marks.items (get_or (row_of graph top) (left - 1) 0) ≡ Done → new.unread.items ≡ set old.unread.items top (left - 1) → new.marks.items ≡ old.marks.items → new.path.items ≡ old.path.items → new.done.items ≡ old.done.items → Steps graph old new
  Steps-skip left is some done u m p d =
      let in_unread : top < length old.unread.items = omega (arith, w.counted, IsLast-below) in
      let same = sum_by-set (λ n. n) old.unread.items top (left - 1) 0 in_unread in
      record {
        walk = rw (u, m, p, d) (IsWalk-skip graph old.unread.items old.marks.items old.path.items (reverse old.done.items) top left w IsLast-below is some done);
        nearer = rw (u, m, p) (omega arith);
        keeps = λ k e. rw m e;
        from = λ root f. record {
          first = λ some'. rw p (f.first (rw p at some'));
          over = λ none. rw m (f.over (rw p at none));
        };
      }

  -- the next read of the last key, from the back of its row
  pub next_read : ReadsBelow (length graph) graph → (left : ℕ) → get_or old.unread.items top 0 ≡ left → 0 < left → (left - 1 < length (row_of graph top)) × (get_or (row_of graph top) (left - 1) 0 < length graph) × Reads graph top (get_or (row_of graph top) (left - 1) 0)
  next_read below left is some =
      let in_row : left - 1 < length (row_of graph top) = omega (arith, w.within top) in
      (in_row, below top [] IsLast-below (left - 1) 0 in_row, Contains-get_or (row_of graph top) (left - 1) 0 in_row)

-- a walk that has reached no key
mark_of-replicate : (n k : ℕ) → mark_of (replicate n New) k ≡ New
mark_of-replicate n k =
    elim (cases_lt k n) [
      | inl low ↦ get_or-replicate n k New New low
      | inr high ↦ get_or_past (replicate n New) k New (omega (arith, length-replicate n New))
    ]

row_lengths : (graph : List (List ℕ)) (k : ℕ) → get_or (map (λ (row : List ℕ). length row) graph) k 0 ≡ length (row_of graph k)
row_lengths graph k =
    elim (cases_lt k (length graph)) [
      | inl low ↦ get_or-map (λ (row : List ℕ). length row) graph k [] 0 low
      | inr high ↦
          get_or_past (map (λ (row : List ℕ). length row) graph) k 0 (omega (arith, length-map graph (λ (row : List ℕ). length row)))
          ∙ sym (ap (λ (row : List ℕ). length row) (get_or_past graph k [] high))
    ]

pub IsWalk-new : (graph : List (List ℕ)) → IsWalkOf graph (map (λ (row : List ℕ). length row) graph) (replicate (length graph) New) [] []
IsWalk-new graph = record {
  counted = length-map graph (λ (row : List ℕ). length row);
  marked = length-replicate (length graph) New;
  below = λ i h. absurd (omega arith);
  leads = λ i h. absurd (omega arith);
  on_path = λ k e. let is_new = mark_of-replicate (length graph) k in let no : New ≡ Open = sym is_new ∙ e in cc;
  within = λ k. omega (arith, row_lengths graph k);
  followed = λ k i h low high. absurd (omega (arith, row_lengths graph k));
  ordered = tt;
  in_order = λ k e. let is_new = mark_of-replicate (length graph) k in let no : New ≡ Done = sym is_new ∙ e in cc;
}

-- the walk is on its way back to the root
pub record IsUnderway (graph : List (List ℕ)) (old new : Walk) (root : ℕ) : Type 0 where
  pub walk : IsWalk graph new
  pub from : IsFrom new root
  pub keeps : (key : ℕ) → IsDone old key → IsDone new key

pub IsUnderway-open : (graph : List (List ℕ)) (old new : Walk) (root : ℕ) → IsWalk graph old → old.path.items ≡ [] → root < length graph → mark_of old.marks.items root ≡ New → new.unread.items ≡ old.unread.items → new.marks.items ≡ set old.marks.items root Open → new.path.items ≡ old.path.items ++ root ∷ [] → new.done.items ≡ old.done.items → IsUnderway graph old new root
IsUnderway-open graph old new root w start inside is_new u m p d =
    let not_done : mark_of old.marks.items root ≢ Done = λ e. cc in
    let empty : length old.path.items ≡ 0 = ap length start in
    let alone : new.path.items ≡ root ∷ [] = p ∙ ap (λ path. path ++ root ∷ []) start in
    record {
      walk = rw (u, m, p, d) (IsWalk-open graph old.unread.items old.marks.items old.path.items (reverse old.done.items) root w inside is_new (λ some. absurd (omega arith)));
      from = record {
        first = λ some. ap (λ path. get_or path 0 0) alone;
        over = λ none. absurd (omega (arith, ap length alone));
      };
      keeps = λ k e. rw m (IsDone-set_other old.marks.items root Open k not_done e);
    }

pub IsUnderway-more : (graph : List (List ℕ)) (old now new : Walk) (root : ℕ) → IsUnderway graph old now root → Steps graph now new → IsUnderway graph old new root
IsUnderway-more graph old now new root u s = record {
  walk = s.walk;
  from = s.from root u.from;
  keeps = λ k e. s.keeps k (u.keeps k e);
}

pub Finishes-underway : (graph : List (List ℕ)) (old new : Walk) (root : ℕ) → IsUnderway graph old new root → length new.path.items ≡ 0 → Finishes graph old new root
Finishes-underway graph old new root u none = record {
  walk = u.walk;
  back = nil_from_length new.path.items none;
  done = u.from.over none;
  keeps = u.keeps;
}

Done-from_others : (m : Mark) → m ≢ New → m ≢ Open → m ≡ Done
Done-from_others New a b = absurd (a refl)
Done-from_others Open a b = absurd (b refl)
Done-from_others Done a b = refl

-- where nothing is open, a key that is not new is done
pub Finishes-at_once : (graph : List (List ℕ)) (walk : Walk) (root : ℕ) → IsWalk graph walk → walk.path.items ≡ [] → mark_of walk.marks.items root ≢ New → Finishes graph walk walk root
Finishes-at_once graph walk root w start not_new = record {
  walk = w;
  back = start;
  done = Done-from_others (mark_of walk.marks.items root) not_new (λ e. let there = w.on_path root e in omega (arith, there.1, ap length start));
  keeps = λ k e. e;
}

-- every key below n is done, and the walk is back
pub record IsBackFrom (graph : List (List ℕ)) (new : Walk) (n : ℕ) : Type 0 where
  pub walk : IsWalk graph new
  pub back : new.path.items ≡ []
  pub done : (key : ℕ) → key < n → IsDone new key

pub IsOrder-from_walk : (graph : List (List ℕ)) (new : Walk) (n : ℕ) → IsBackFrom graph new n → length graph ≤ n → IsOrder graph (reverse new.done.items)
IsOrder-from_walk graph new n b all = record {
  ordered = b.walk.ordered;
  complete = λ key h. b.walk.in_order key (b.done key (omega arith));
}
