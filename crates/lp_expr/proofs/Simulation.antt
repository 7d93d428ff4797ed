-- The reader moves as the machine that holds trees does.
use Rattle.std.proofs.Common.{◌≡◌, ℕ, zero, suc, ◌+◌, ◌-◌, ◌<◌, ◌≤◌, ◌==◌, Bool, true, false, List, [], ◌∷◌, ◌++◌, length, take, drop, drop-drop, Option, Some, None, ◌&&◌, refl, sym, ap, ◌∙◌, subst, arith, append_assoc}
use Rattle.std.specs.Prelude.{if◌then◌else◌, nat_le, nat_lt, is_some, IsTrue, map, option_and_then}
use Rattle.std.proofs.lemmas.List.{append-nil, map-append, length-drop, take-append-drop}
use Rattle.std.specs.List.{list_all}
use Rattle.std.proofs.lemmas.Bool.{lt-ltb, ltb-true, ltb-false, le-leb}
use Rattle.std.proofs.lemmas.List.Folds.{list_all-append}
use Rattle.lp_spec_place.specs.Machines.{steps}
use Rattle.lp_expr.specs.declared.dialect.Dialect.{Dialect}
use Rattle.lp_expr.specs.declared.dialect.Sign.{Sign}
use Rattle.lp_expr.specs.declared.dialect.Sign.TheVariants as signs
use Rattle.lp_expr.specs.declared.dialect.Mark as mark
use Rattle.lp_expr.specs.declared.dialect.Mark.TheVariants as marks
use Rattle.lp_expr.specs.declared.dialect.Mode as mode
use Rattle.lp_expr.specs.declared.dialect.Mode.TheVariants as modes
use Rattle.lp_expr.specs.declared.dialect.Part as part
use Rattle.lp_expr.specs.declared.dialect.Part.TheVariants as parts
use Rattle.lp_expr.specs.Grammar.{Tree, Plain, Quoted, Prefixed, Postfixed, Joined, is_blank, is_inner, is_prefix, is_liberty, looseness, is_filled}
use Rattle.lp_expr.specs.Signs.{sign_at, is_half, longer}
use Rattle.lp_spec_place.specs.Leaving.{Leaves}
use Rattle.lp_spec_place.specs.Machines.{Stops, steps-append}
use Rattle.lp_expr.specs.Grammar.{IsExpression}
use Rattle.lp_expr.specs.Parts.{ReadsParts}
use Rattle.lp_expr.proofs.Leaving.{spells, leaves_at}
use Rattle.lp_expr.specs.Parts.{Item, Bare, InQuotes, Joint, tree_items, between, item_of, is_within}
use Rattle.lp_expr.specs.Machine.{Machine, closed_marks, closed_in, signed_in, with_last, waiting_for, with_part, begun, wanted, shut_marks, shut_in, on_sign_in, followed, on_longer_in, step_by, step_in, whole_of, finished_by, finished, Reading, Stopped, Whole, ending, going_on, read_in, start}
use Rattle.lp_expr.proofs.Zipper as zip
use Rattle.lp_expr.proofs.Zipper.{Frame, Open, Pending, Left, State, Want, InName, Have, Half, closed, signed, behind_sign, begin, wanting, shut, on_sign, follow, on_longer, step, whole, result_of, accepts}
use Rattle.lp_expr.proofs.Found.{filled_push}

abbrev pub marks_of : List Frame → List mark.Mark
marks_of [] = []
marks_of (Open g ∷ fs) = marks.Open ∷ marks_of fs
marks_of (Pending g m ∷ fs) = marks.Prefix ∷ marks_of fs
marks_of (Left l g s ∷ fs) = marks.Infix s ∷ marks_of fs

-- the parts of the left operands, the outermost first
abbrev pub frames_items : List Frame → List Item
frames_items [] = []
frames_items (Open g ∷ fs) = frames_items fs
frames_items (Pending g m ∷ fs) = frames_items fs
frames_items (Left l g s ∷ fs) = frames_items fs ++ tree_items l

module _ (text : List ℕ) where
  -- what waits, and the parts of the left operands and of these
  pub record Same (fs : List Frame) (more : List Item) (waiting : List mark.Mark) (read : List part.Part) : Type 0 where
    pub waits : waiting ≡ marks_of fs
    pub reads : map (item_of text) read ≡ frames_items fs ++ more
    pub inside : IsTrue (list_all (is_within (length text)) read)

  -- the reader at a byte shows the state of the machine
  abbrev pub Shows : ℕ → State → Machine → Type 0
  Shows at (Want fs gap) m = (m.last ≡ modes.Want) × Same fs [] m.waiting m.read
  Shows at (InName fs gap run) m = (from : ℕ) × (m.last ≡ modes.Name from) × (from ≤ at) × (between text from at ≡ run) × Same fs [] m.waiting m.read
  Shows at (zip.InQuotes fs gap run) m = (from : ℕ) × (m.last ≡ modes.Quoted from) × (from ≤ at) × (between text from at ≡ run) × Same fs [] m.waiting m.read
  Shows at (Have fs t gap) m = (m.last ≡ modes.Have (is_filled gap)) × Same fs (tree_items t) m.waiting m.read
  Shows at (Half fs t gap s) m = (m.last ≡ modes.Half s) × Same fs (tree_items t) m.waiting m.read

  -- both go on, or both stop
  abbrev pub Both : {A B : Type 0} → (A → B → Type 0) → Option A → Option B → Type 0
  Both R None None = Unit {0}
  Both R (Some x) (Some y) = R x y
  Both R None (Some y) = ⊥
  Both R (Some x) None = ⊥

  both_if : {A B : Type 0} (R : A → B → Type 0) (c : Bool) (x y : Option A) (u v : Option B) → (c ≡ true → Both R x u) → (c ≡ false → Both R y v) → Both R (if c then x else y) (if c then u else v)
  both_if R true x y u v t e = t refl
  both_if R false x y u v t e = e refl

  -- one part more
  same_push : (fs : List Frame) (more : List Item) (waiting : List mark.Mark) (read : List part.Part) (p : part.Part) → IsTrue (is_within (length text) p) → Same fs more waiting read → Same fs (more ++ item_of text p ∷ []) waiting (read ++ p ∷ [])
  same_push fs more waiting read p fits h = record { waits = h.waits; inside = rw (list_all-append (is_within (length text)) read (p ∷ []), h.inside, fits) refl; reads = map-append (item_of text) read (p ∷ []) ∙ ap (λ xs. xs ++ item_of text p ∷ []) h.reads ∙ append_assoc (frames_items fs) more (item_of text p ∷ []) }

  -- what ends
  pub closed_same : (d : Dialect) (h : ℕ) (fs : List Frame) (t : Tree) (read : List part.Part) → Same fs (tree_items t) (marks_of fs) read → Same (closed d h fs t).0 (tree_items (closed d h fs t).1) (closed_marks d h (marks_of fs) read).0 (closed_marks d h (marks_of fs) read).1
  closed_same d h [] t read s = s
  closed_same d h (Open g ∷ fs) t read s = s
  closed_same d h (Pending g m ∷ fs) t read s =
      let pushed = same_push (Pending g m ∷ fs) (tree_items t) (marks_of (Pending g m ∷ fs)) read parts.Not refl s in
      closed_same d h fs (Prefixed g m t) (read ++ parts.Not ∷ []) (record { waits = refl; reads = pushed.reads; inside = pushed.inside })
  closed_same d h (Left l g x ∷ fs) t read s =
      let pushed = same_push (Left l g x ∷ fs) (tree_items t) (marks_of (Left l g x ∷ fs)) read (parts.Infix x) refl s in
      let inner : Same fs (tree_items (Joined l g x t)) (marks_of fs) (read ++ parts.Infix x ∷ []) = record { waits = refl; inside = pushed.inside; reads = pushed.reads ∙ append_assoc (frames_items fs) (tree_items l) (tree_items t ++ Joint x ∷ []) } in
      by (nat_le (looseness d x) h) (closed_same d h fs (Joined l g x t) (read ++ parts.Infix x ∷ []) inner)
    where
      by : (c : Bool) → Same (closed d h fs (Joined l g x t)).0 (tree_items (closed d h fs (Joined l g x t)).1) (closed_marks d h (marks_of fs) (read ++ parts.Infix x ∷ [])).0 (closed_marks d h (marks_of fs) (read ++ parts.Infix x ∷ [])).1
          → Same (if c then closed d h fs (Joined l g x t) else (Left l g x ∷ fs, t)).0 (tree_items (if c then closed d h fs (Joined l g x t) else (Left l g x ∷ fs, t)).1) (if c then closed_marks d h (marks_of fs) (read ++ parts.Infix x ∷ []) else (marks.Infix x ∷ marks_of fs, read)).0 (if c then closed_marks d h (marks_of fs) (read ++ parts.Infix x ∷ []) else (marks.Infix x ∷ marks_of fs, read)).1
      by true more = more
      by false more = s

  same_closed : (d : Dialect) (h : ℕ) (fs : List Frame) (t : Tree) (waiting : List mark.Mark) (read : List part.Part) → Same fs (tree_items t) waiting read → Same (closed d h fs t).0 (tree_items (closed d h fs t).1) (closed_marks d h waiting read).0 (closed_marks d h waiting read).1
  same_closed d h fs t waiting read s =
      subst (λ (w : List mark.Mark). Same (closed d h fs t).0 (tree_items (closed d h fs t).1) (closed_marks d h w read).0 (closed_marks d h w read).1) (sym s.waits)
      (closed_same d h fs t read (record { waits = refl; reads = s.reads; inside = s.inside }))

  -- a sign behind an operand
  same_signed : (d : Dialect) (x : Sign) (fs : List Frame) (t : Tree) (gap : List ℕ) (at : ℕ) (m : Machine) → Same fs (tree_items t) m.waiting m.read → Shows at (Want (behind_sign d x fs t gap) []) (signed_in d x m)
  same_signed d x fs t gap at m s =
      let c = same_closed d (looseness d x) fs t m.waiting m.read s in
      (refl, record { waits = ap (λ ms. marks.Infix x ∷ ms) c.waits; inside = c.inside; reads = c.reads ∙ sym (append-nil (frames_items (closed d (looseness d x) fs t).0 ++ tree_items (closed d (looseness d x) fs t).1)) })

  -- ---- bytes of the text

  take_one : (k : ℕ) (xs : List ℕ) (b : ℕ) (rest : List ℕ) → drop k xs ≡ b ∷ rest → take (suc k) xs ≡ take k xs ++ b ∷ []
  take_one zero xs b rest e = ap (take 1) e
  take_one (suc k) [] b rest e = absurd cc
  take_one (suc k) (x ∷ xs) b rest e = ap (λ ys. x ∷ ys) (take_one k xs b rest e)

  take_filled : (k : ℕ) (xs : List ℕ) (b : ℕ) (rest : List ℕ) → drop k xs ≡ b ∷ rest → is_filled (take k xs) ≡ nat_lt 0 k
  take_filled zero xs b rest e = refl
  take_filled (suc k) [] b rest e = absurd cc
  take_filled (suc k) (x ∷ xs) b rest e = sym (lt-ltb 0 (suc k) (omega arith))

  within_places : (from at : ℕ) → from ≤ at → at ≤ length text → IsTrue (nat_le from at && nat_le at (length text))
  within_places from at low high = rw (le-leb from at low, le-leb at (length text) high) refl

  module _ (at : ℕ) (b : ℕ) (rest : List ℕ) (here : drop at text ≡ b ∷ rest) where
    behind_from : (from : ℕ) → from ≤ at → drop (at - from) (drop from text) ≡ b ∷ rest
    behind_from from low = drop-drop (at - from) from text ∙ (let same : from + (at - from) ≡ at = omega arith in ap (λ k. drop k text) same) ∙ here

    between_more : (from : ℕ) → from ≤ at → between text from (at + 1) ≡ between text from at ++ b ∷ []
    between_more from low =
        let more : at + 1 - from ≡ suc (at - from) = omega arith in
        ap (λ k. take k (drop from text)) more ∙ take_one (at - from) (drop from text) b rest (behind_from from low)

    between_start : between text at (at + 1) ≡ b ∷ []
    between_start = let one : at + 1 - at ≡ 1 = omega arith in ap (λ k. take k (drop at text)) one ∙ ap (take 1) here

    between_none : between text (at + 1) (at + 1) ≡ []
    between_none = let none : at + 1 - (at + 1) ≡ 0 = omega arith in ap (λ k. take k (drop (at + 1) text)) none

    filled_between : (from : ℕ) → from ≤ at → is_filled (between text from at) ≡ nat_lt from at
    filled_between from low = take_filled (at - from) (drop from text) b rest (behind_from from low) ∙ tests (nat_lt 0 (at - from)) (nat_lt from at) refl refl
      where
        tests : (p q : Bool) → nat_lt 0 (at - from) ≡ p → nat_lt from at ≡ q → p ≡ q
        tests true true e f = refl
        tests false false e f = refl
        tests true false e f = let up : 0 < at - from = ltb-true 0 (at - from) e in let down : at ≤ from = ltb-false from at f in absurd (omega arith)
        tests false true e f = let down : at - from ≤ 0 = ltb-false 0 (at - from) e in let up : from < at = ltb-true from at f in absurd (omega arith)

    inside_at : (from : ℕ) → from ≤ at → IsTrue (nat_le from at && nat_le at (length text))
    inside_at from low = within_places from at low (let size : length text - at ≡ suc (length rest) = sym (length-drop at text) ∙ ap length here in omega arith)

    -- ---- one byte

    begin_same : (d : Dialect) (fs : List Frame) (gap : List ℕ) (m : Machine) → Same fs [] m.waiting m.read → Both (Shows (at + 1)) (begin d fs gap b) (begun d at b m)
    begin_same d fs gap m s =
        both_if (Shows (at + 1)) (is_inner b) (Some (InName fs gap (b ∷ []))) (if is_prefix d b then Some (Want (Pending gap b ∷ fs) []) else if b == 40 then Some (Want (Open gap ∷ fs) []) else if (b == 34) && is_liberty d then Some (zip.InQuotes fs gap []) else None)
        (Some (with_last (modes.Name at) m)) (if is_prefix d b then Some (waiting_for marks.Prefix m) else if b == 40 then Some (waiting_for marks.Open m) else if (b == 34) && is_liberty d then Some (with_last (modes.Quoted (at + 1)) m) else None)
        (λ e. (at, refl, omega arith, between_start, s)) (λ _.
        both_if (Shows (at + 1)) (is_prefix d b) (Some (Want (Pending gap b ∷ fs) [])) (if b == 40 then Some (Want (Open gap ∷ fs) []) else if (b == 34) && is_liberty d then Some (zip.InQuotes fs gap []) else None)
        (Some (waiting_for marks.Prefix m)) (if b == 40 then Some (waiting_for marks.Open m) else if (b == 34) && is_liberty d then Some (with_last (modes.Quoted (at + 1)) m) else None)
        (λ e. (refl, record { waits = ap (λ ms. marks.Prefix ∷ ms) s.waits; inside = s.inside; reads = s.reads })) (λ _.
        both_if (Shows (at + 1)) (b == 40) (Some (Want (Open gap ∷ fs) [])) (if (b == 34) && is_liberty d then Some (zip.InQuotes fs gap []) else None)
        (Some (waiting_for marks.Open m)) (if (b == 34) && is_liberty d then Some (with_last (modes.Quoted (at + 1)) m) else None)
        (λ e. (refl, record { waits = ap (λ ms. marks.Open ∷ ms) s.waits; inside = s.inside; reads = s.reads })) (λ _.
        both_if (Shows (at + 1)) ((b == 34) && is_liberty d) (Some (zip.InQuotes fs gap [])) None (Some (with_last (modes.Quoted (at + 1)) m)) None (λ e. (at + 1, refl, omega arith, between_none, s)) (λ _. tt))))

    wanting_same : (d : Dialect) (fs : List Frame) (gap : List ℕ) (m : Machine) → Same fs [] m.waiting m.read → Both (Shows (at + 1)) (wanting d fs gap b) (wanted d at b m)
    wanting_same d fs gap m s =
        both_if (Shows (at + 1)) (is_blank b) (Some (Want fs (gap ++ b ∷ []))) (begin d fs gap b) (Some (with_last modes.Want m)) (begun d at b m) (λ e. (refl, s)) (λ _. begin_same d fs gap m s)

    shut_same : (c : List Frame × Tree) (gap : List ℕ) (waiting : List mark.Mark) (read : List part.Part) → Same c.0 (tree_items c.1) waiting read → Both (Shows (at + 1)) (shut c gap) (shut_marks waiting read)
    shut_same c gap waiting read s = subst (λ (w : List mark.Mark). Both (Shows (at + 1)) (shut c gap) (shut_marks w read)) (sym s.waits) (by c s.reads)
      where
        by : (e : List Frame × Tree) → map (item_of text) read ≡ frames_items e.0 ++ tree_items e.1 → Both (Shows (at + 1)) (shut e gap) (shut_marks (marks_of e.0) read)
        by ([], t) r = tt
        by (Open g ∷ fs, t) r = (refl, record { waits = refl; reads = r; inside = s.inside })
        by (Pending g k ∷ fs, t) r = tt
        by (Left l g x ∷ fs, t) r = tt

    on_sign_same : (d : Dialect) (fs : List Frame) (t : Tree) (gap : List ℕ) (m : Machine) (o : Option Sign) → Same fs (tree_items t) m.waiting m.read → Both (Shows (at + 1)) (on_sign d fs t gap b o) (on_sign_in d at b (is_filled gap) m o)
    on_sign_same d fs t gap m (Some x) s =
        both_if (Shows (at + 1)) (is_half d x) (Some (Half fs t gap x)) (Some (Want (behind_sign d x fs t gap) [])) (Some (with_last (modes.Half x) m)) (Some (signed_in d x m)) (λ e. (refl, s)) (λ _. same_signed d x fs t gap (at + 1) m s)
    on_sign_same d fs t gap m None s =
        both_if (Shows (at + 1)) (is_filled gap && is_liberty d) (begin d (behind_sign d signs.Gap fs t gap) [] b) None (begun d at b (signed_in d signs.Gap m)) None (λ e. begin_same d (behind_sign d signs.Gap fs t gap) [] (signed_in d signs.Gap m) (same_signed d signs.Gap fs t gap (at + 1) m s).1) (λ _. tt)

    follow_same : (d : Dialect) (fs : List Frame) (t : Tree) (gap : List ℕ) (spaced : Bool) (m : Machine) → is_filled gap ≡ spaced → Same fs (tree_items t) m.waiting m.read → Both (Shows (at + 1)) (follow d fs t gap b) (followed d at b spaced m)
    follow_same d fs t gap spaced m filled s = subst (λ (x : Bool). Both (Shows (at + 1)) (follow d fs t gap b) (followed d at b x m)) filled (
        both_if (Shows (at + 1)) (is_blank b) (Some (Have fs t (gap ++ b ∷ []))) (if (b == 39) && is_liberty d then Some (Have fs (Postfixed t gap) []) else if b == 41 then shut (closed d 5 fs t) gap else on_sign d fs t gap b (sign_at d b))
        (Some (with_last (modes.Have true) m)) (if (b == 39) && is_liberty d then Some (with_part parts.Not m) else if b == 41 then shut_in (closed_in d 5 m) else on_sign_in d at b (is_filled gap) m (sign_at d b))
        (λ e. (ap modes.Have (sym (filled_push gap b)), s)) (λ _.
        both_if (Shows (at + 1)) ((b == 39) && is_liberty d) (Some (Have fs (Postfixed t gap) [])) (if b == 41 then shut (closed d 5 fs t) gap else on_sign d fs t gap b (sign_at d b))
        (Some (with_part parts.Not m)) (if b == 41 then shut_in (closed_in d 5 m) else on_sign_in d at b (is_filled gap) m (sign_at d b))
        (λ e. (refl, same_push fs (tree_items t) m.waiting m.read parts.Not refl s)) (λ _.
        both_if (Shows (at + 1)) (b == 41) (shut (closed d 5 fs t) gap) (on_sign d fs t gap b (sign_at d b)) (shut_in (closed_in d 5 m)) (on_sign_in d at b (is_filled gap) m (sign_at d b))
        (λ e. shut_same (closed d 5 fs t) gap (closed_in d 5 m).waiting (closed_in d 5 m).read (same_closed d 5 fs t m.waiting m.read s))
        (λ _. on_sign_same d fs t gap m (sign_at d b) s))))

    on_longer_same : (d : Dialect) (fs : List Frame) (t : Tree) (gap : List ℕ) (x : Sign) (m : Machine) (o : Option Sign) → Same fs (tree_items t) m.waiting m.read → Both (Shows (at + 1)) (on_longer d fs t gap x b o) (on_longer_in d at b x m o)
    on_longer_same d fs t gap x m (Some l) s = same_signed d l fs t gap (at + 1) m s
    on_longer_same d fs t gap x m None s = wanting_same d (behind_sign d x fs t gap) [] (signed_in d x m) (same_signed d x fs t gap (at + 1) m s).1

    pub step_same : (d : Dialect) (z : State) (m : Machine) → Shows at z m → Both (Shows (at + 1)) (step d z b) (step_in d at b m)
    step_same d (Want fs gap) m s = subst (λ (l : mode.Mode). Both (Shows (at + 1)) (wanting d fs gap b) (step_by d at b m l)) (sym s.0) (wanting_same d fs gap m s.1)
    step_same d (InName fs gap run) m s = subst (λ (l : mode.Mode). Both (Shows (at + 1)) (step d (InName fs gap run) b) (step_by d at b m l)) (sym s.1) (
        both_if (Shows (at + 1)) (is_inner b) (Some (InName fs gap (run ++ b ∷ []))) (follow d fs (Plain gap run) [] b) (Some m) (followed d at b false (with_part (parts.Plain s.0 at) m))
        (λ e. (s.0, s.1, (let low = s.2 in omega arith), between_more s.0 s.2 ∙ ap (λ xs. xs ++ b ∷ []) s.3, s.4))
        (λ _. follow_same d fs (Plain gap run) [] false (with_part (parts.Plain s.0 at) m) refl (record { waits = s.4.waits; inside = (same_push fs [] m.waiting m.read (parts.Plain s.0 at) (inside_at s.0 s.2) s.4).inside; reads = (same_push fs [] m.waiting m.read (parts.Plain s.0 at) (inside_at s.0 s.2) s.4).reads ∙ ap (λ xs. frames_items fs ++ Bare xs ∷ []) s.3 })))
    step_same d (zip.InQuotes fs gap run) m s = subst (λ (l : mode.Mode). Both (Shows (at + 1)) (step d (zip.InQuotes fs gap run) b) (step_by d at b m l)) (sym s.1) (
        both_if (Shows (at + 1)) (is_inner b) (Some (zip.InQuotes fs gap (run ++ b ∷ []))) (if (b == 34) && is_filled run then Some (Have fs (Quoted gap run) []) else None) (Some m) (if (b == 34) && nat_lt s.0 at then Some (with_part (parts.Quoted s.0 at) m) else None)
        (λ e. (s.0, s.1, (let low = s.2 in omega arith), between_more s.0 s.2 ∙ ap (λ xs. xs ++ b ∷ []) s.3, s.4))
        (λ _. subst (λ (x : Bool). Both (Shows (at + 1)) (if (b == 34) && is_filled run then Some (Have fs (Quoted gap run) []) else None) (if (b == 34) && x then Some (with_part (parts.Quoted s.0 at) m) else None)) (ap is_filled (sym s.3) ∙ filled_between s.0 s.2)
        (both_if (Shows (at + 1)) ((b == 34) && is_filled run) (Some (Have fs (Quoted gap run) [])) None (Some (with_part (parts.Quoted s.0 at) m)) None
        (λ e. (refl, record { waits = s.4.waits; inside = (same_push fs [] m.waiting m.read (parts.Quoted s.0 at) (inside_at s.0 s.2) s.4).inside; reads = (same_push fs [] m.waiting m.read (parts.Quoted s.0 at) (inside_at s.0 s.2) s.4).reads ∙ ap (λ xs. frames_items fs ++ InQuotes xs ∷ []) s.3 })) (λ _. tt))))
    step_same d (Have fs t gap) m s = subst (λ (l : mode.Mode). Both (Shows (at + 1)) (step d (Have fs t gap) b) (step_by d at b m l)) (sym s.0) (follow_same d fs t gap (is_filled gap) m refl s.1)
    step_same d (Half fs t gap x) m s = subst (λ (l : mode.Mode). Both (Shows (at + 1)) (step d (Half fs t gap x) b) (step_by d at b m l)) (sym s.0) (on_longer_same d fs t gap x m (longer d x b) s.1)

  -- ---- the end of the text

  -- the parts of an expression
  abbrev pub Gives : Tree × List ℕ → List part.Part → Type 0
  Gives r out = (map (item_of text) out ≡ tree_items r.0) × IsTrue (list_all (is_within (length text)) out)

  whole_same : (c : List Frame × Tree) (gap : List ℕ) (waiting : List mark.Mark) (read : List part.Part) → Same c.0 (tree_items c.1) waiting read → Both Gives (whole c gap) (whole_of waiting read)
  whole_same c gap waiting read s = subst (λ (w : List mark.Mark). Both Gives (whole c gap) (whole_of w read)) (sym s.waits) (by c s.reads)
    where
      by : (e : List Frame × Tree) → map (item_of text) read ≡ frames_items e.0 ++ tree_items e.1 → Both Gives (whole e gap) (whole_of (marks_of e.0) read)
      by ([], t) r = (r, s.inside)
      by (Open g ∷ fs, t) r = tt
      by (Pending g k ∷ fs, t) r = tt
      by (Left l g x ∷ fs, t) r = tt

  pub finish_same : (d : Dialect) (at : ℕ) (z : State) (m : Machine) → at ≤ length text → Shows at z m → Both Gives (result_of d z) (finished d at m)
  finish_same d at (Want fs gap) m within s = subst (λ (l : mode.Mode). Both Gives (result_of d (Want fs gap)) (finished_by d at m l)) (sym s.0) tt
  finish_same d at (zip.InQuotes fs gap run) m within s = subst (λ (l : mode.Mode). Both Gives (result_of d (zip.InQuotes fs gap run)) (finished_by d at m l)) (sym s.1) tt
  finish_same d at (Half fs t gap x) m within s = subst (λ (l : mode.Mode). Both Gives (result_of d (Half fs t gap x)) (finished_by d at m l)) (sym s.0) tt
  finish_same d at (Have fs t gap) m within s = subst (λ (l : mode.Mode). Both Gives (result_of d (Have fs t gap)) (finished_by d at m l)) (sym s.0) (whole_same (closed d 5 fs t) gap (closed_in d 5 m).waiting (closed_in d 5 m).read (same_closed d 5 fs t m.waiting m.read s.1))
  finish_same d at (InName fs gap run) m within s =
      let n = with_part (parts.Plain s.0 at) m in
      let one_more = same_push fs [] m.waiting m.read (parts.Plain s.0 at) (within_places s.0 at s.2 within) s.4 in
      let pushed : Same fs (Bare run ∷ []) n.waiting n.read = record { waits = s.4.waits; inside = one_more.inside; reads = one_more.reads ∙ ap (λ xs. frames_items fs ++ Bare xs ∷ []) s.3 } in
      subst (λ (l : mode.Mode). Both Gives (result_of d (InName fs gap run)) (finished_by d at m l)) (sym s.1) (whole_same (closed d 5 fs (Plain gap run)) [] (closed_in d 5 n).waiting (closed_in d 5 n).read (same_closed d 5 fs (Plain gap run) n.waiting n.read pushed))

  -- ---- whole texts

  -- the parts are the text's, or the text leaves the language
  abbrev pub Answers : Dialect → Reading → Type 0
  Answers d (Stopped place) = Leaves ℕ (IsExpression d) text place
  Answers d (Whole out) = ReadsParts d text out

  taken_more : (d : Dialect) (at : ℕ) (z u : State) (b : ℕ) (rest : List ℕ) → drop at text ≡ b ∷ rest → steps (step d) zip.start (take at text) ≡ Some z → step d z b ≡ Some u → steps (step d) zip.start (take (at + 1) text) ≡ Some u
  taken_more d at z u b rest here taken next =
      let more : take (at + 1) text ≡ take at text ++ b ∷ [] = (let one : at + 1 ≡ suc at = omega arith in ap (λ k. take k text) one) ∙ take_one at text b rest here in
      ap (steps (step d) zip.start) more ∙ steps-append (step d) zip.start (take at text) (b ∷ []) ∙ ap (λ o. option_and_then (λ w. steps (step d) w (b ∷ [])) o) taken ∙ ap (λ o. option_and_then (λ w. Some w) o) next

  drop_more_one : (at b : ℕ) (rest : List ℕ) → drop at text ≡ b ∷ rest → drop (at + 1) text ≡ rest
  drop_more_one at b rest here = sym (drop-drop 1 at text) ∙ ap (drop 1) here

  within_more : (at b : ℕ) (rest : List ℕ) → drop at text ≡ b ∷ rest → at + 1 ≤ length text
  within_more at b rest here = let size : length text - at ≡ suc (length rest) = sym (length-drop at text) ∙ ap length here in omega arith

  pub reading_same : (d : Dialect) (xs : List ℕ) (at : ℕ) (z : State) (m : Machine) → drop at text ≡ xs → at ≤ length text → steps (step d) zip.start (take at text) ≡ Some z → Shows at z m → Answers d (read_in d at xs m)
  reading_same d [] at z m here within taken s = by (result_of d z) refl (finished d at m) (finish_same d at z m within s)
    where
      all : take at text ≡ text
      all = sym (append-nil (take at text)) ∙ ap (λ ys. take at text ++ ys) (sym here) ∙ take-append-drop at text

      by : (r : Option (Tree × List ℕ)) → result_of d z ≡ r → (o : Option (List part.Part)) → Both Gives r o → Answers d (ending at o)
      by (Some r) e (Some out) g = record { within = g.1; spells = spells d text z r (ap (steps (step d) zip.start) (sym all) ∙ taken) e; same = g.0 }
      by None e None g = leaves_at d text at z within taken (subst (Stops (step d) (accepts d) z) (sym here) (ap is_some e))
      by (Some r) e None g = absurd g
      by None e (Some out) g = absurd g
  reading_same d (b ∷ rest) at z m here within taken s =
      by (step d z b) refl (step_in d at b m) (step_same at b rest here d z m s) (λ u n e g. reading_same d rest (at + 1) u n (drop_more_one at b rest here) (within_more at b rest here) (taken_more d at z u b rest here taken e) g)
    where
      by : (r : Option State) → step d z b ≡ r → (o : Option Machine) → Both (Shows (at + 1)) r o → ((u : State) (n : Machine) → step d z b ≡ Some u → Shows (at + 1) u n → Answers d (read_in d (at + 1) rest n)) → Answers d (going_on at (λ n. read_in d (at + 1) rest n) o)
      by (Some u) e (Some n) g more = more u n e g
      by None e None g more = leaves_at d text at z within taken (subst (Stops (step d) (accepts d) z) (sym here) e)
      by (Some u) e None g more = absurd g
      by None e (Some n) g more = absurd g

  pub reading_answers : (d : Dialect) → Answers d (read_in d 0 text start)
  reading_answers d = reading_same d text 0 zip.start start refl (omega arith) refl (refl, record { waits = refl; reads = refl; inside = refl })
