-- What the list machine answers is what the text denotes, or where it is refused.
use Rattle.std.proofs.Common.{◌≡◌, ℕ, zero, suc, ◌+◌, ◌-◌, ◌<◌, ◌≤◌, Bool, true, false, not, ◌&&◌, ◌||◌, List, [], ◌∷◌, ◌++◌, length, length-append, take, drop, drop-drop, Option, Some, None, refl, sym, ap, ◌∙◌, subst, arith, append_assoc}
use Rattle.std.specs.Prelude.{if◌then◌else◌, nat_le, nat_lt, IsTrue, map, option_and_then, unwrap_or, is_some}
use Rattle.std.proofs.lemmas.List.{append-nil, length-map, length-drop, length-take-le, take-append-drop}
use Rattle.std.proofs.lemmas.Bool.{and_from, and_parts, true≢false, ltb-true, ltb-false, le-leb}
use Rattle.std.proofs.lemmas.List.Folds.{list_all-append}
use Rattle.lp_spec_place.specs.Machines.{steps, steps-append, Stops}
use Rattle.lp_text.specs.Texts.{with_text, place_of, text_at, Grown, Grown-with_text, Grown-refl, Grown-trans, Grown-KeepsNumbers, place_of-Some, has_text, is_some-place_of, place_of-push}
use Rattle.lp_model.specs.GroupsView.{group_view}
use Rattle.lp_liberty.specs.declared.mark.Mark.TheVariants as marks
use Rattle.lp_liberty.specs.declared.mark.Mode.{Mode}
use Rattle.lp_liberty.specs.declared.mark.Mode.TheVariants as modes
use Rattle.lp_liberty.specs.Grammar as grammar
use Rattle.lp_liberty.specs.Grammar.{Token, Name, Sign, Body, spelling, Form, Limited, always, below_64}
use Rattle.lp_liberty.specs.Meaning.{groups_in}
use Rattle.lp_liberty.specs.Tokens.{Placed, bare, tokens_of}
use Rattle.lp_liberty.specs.Machine as machine
use Rattle.lp_liberty.specs.Machine.{Machine, Reading, Whole, Stopped, Deep, Long, is_deep_by, is_done_by, name_in, mark_in, numbered_as, stepped, taken_in, goes_to, head_mode, is_deep_token, is_deep_ahead, opens_group, long_stop, read_on, read_in}
use Rattle.lp_liberty.specs.Denotes.{are_short, index_in, KeepsLimits, LeavesForm, HasLongToken, HasDeepGroup}
use Rattle.lp_liberty.proofs.Zipper as zip
use Rattle.lp_liberty.proofs.Zipper.{Frame, State, step, accepts_by, accepts}
use Rattle.lp_liberty.proofs.Found.{statement_text, Good, GoodFrames, GoodStatement, HasRead, reads, spells, frames_text, state_text, accepted_good}
use Rattle.lp_liberty.proofs.Leaving.{leaves_at, goes_on}
use Rattle.lp_liberty.proofs.Shown.{AllOpen, shown, numbers}
use Rattle.lp_liberty.proofs.Simulation.{Both, Shows, ShowsStatement, Inside, name_same, mark_same}
use Rattle.lp_liberty.proofs.Always.{always_none, no_name, deep_is, always_steps}
use Rattle.lp_liberty.proofs.Heads.{taken_in_head}
use Rattle.lp_liberty.proofs.TooDeep.{DeepAt, comes_first}

-- ---- lists

take_one : {A : Type 0} (k : ℕ) (xs : List A) (x : A) (rest : List A) → drop k xs ≡ x ∷ rest → take (suc k) xs ≡ take k xs ++ x ∷ []
take_one zero xs x rest e = ap (take 1) e
take_one (suc k) [] x rest e = absurd cc
take_one (suc k) (y ∷ xs) x rest e = ap (λ ys. y ∷ ys) (take_one k xs x rest e)

take_none : {A : Type 0} (k : ℕ) (xs : List A) → drop k xs ≡ [] → take (suc k) xs ≡ take k xs
take_none zero xs e = ap (take 1) e
take_none (suc k) [] e = refl
take_none (suc k) (y ∷ xs) e = ap (λ ys. y ∷ ys) (take_none k xs e)

drop_map : {A B : Type 0} (f : A → B) (k : ℕ) (xs : List A) → drop k (map f xs) ≡ map f (drop k xs)
drop_map f zero xs = refl
drop_map f (suc k) [] = refl
drop_map f (suc k) (x ∷ xs) = drop_map f k xs

pub index_here : (end k : ℕ) (tokens : List Placed) (t : Placed) (rest : List Placed) → drop k tokens ≡ t ∷ rest → t.at ≡ index_in end tokens k
index_here end zero tokens t rest e = ap (λ xs. index_in end xs 0) (sym e)
index_here end (suc k) [] t rest e = absurd cc
index_here end (suc k) (x ∷ tokens) t rest e = index_here end k tokens t rest e

index_end : (end k : ℕ) (tokens : List Placed) → drop k tokens ≡ [] → end ≡ index_in end tokens k
index_end end zero tokens e = ap (λ xs. index_in end xs 0) (sym e)
index_end end (suc k) [] e = refl
index_end end (suc k) (x ∷ tokens) e = index_end end k tokens e

within_more : {A : Type 0} (k : ℕ) (xs : List A) (x : A) (rest : List A) → drop k xs ≡ x ∷ rest → suc k ≤ length xs
within_more k xs x rest e = let size : length xs - k ≡ suc (length rest) = sym (length-drop k xs) ∙ ap length e in omega arith

-- ---- names

pub placed_new : (names : List (List ℕ)) (w : List ℕ) → (j : ℕ) × (place_of w (with_text names w) ≡ Some j)
placed_new names w = by (has_text w names) refl
  where
    found : (o : Option ℕ) → place_of w names ≡ o → is_some o ≡ true → (j : ℕ) × (place_of w names ≡ Some j)
    found None e h = absurd (true≢false (sym h))
    found (Some j) e h = (j, e)

    by : (c : Bool) → has_text w names ≡ c → (j : ℕ) × (place_of w (if c then names else names ++ w ∷ []) ≡ Some j)
    by true e = found (place_of w names) refl (is_some-place_of w names ∙ e)
    by false e = (length names, place_of-push names w e)

-- the number of a name says it in each later table
number_text : (names : List (List ℕ)) (w : List ℕ) (final : List (List ℕ)) → Grown (with_text names w) final → text_at final (numbered_as (with_text names w) w).0 ≡ w
number_text names w final grown =
    let new = with_text names w in
    let j = placed_new names w in
    let there = place_of-Some w new j.0 j.1 in
    ap (λ o. text_at final (unwrap_or o 0)) j.1 ∙ (Grown-KeepsNumbers new final grown).0 j.0 there.0 ∙ there.1

-- ---- the state of the reader

all_open : (room : ℕ → Bool) (fs : List Frame) → GoodFrames room fs → AllOpen fs
all_open room [] g = tt
all_open room (f ∷ fs) g = (g.0, all_open room fs g.4)

inside_good : (mode : Mode) (fs : List Frame) (d : Body) (held : List Token) → GoodStatement fs d mode held → Inside mode fs
inside_good (modes.Begin semi) fs d held g = tt
inside_good modes.Named fs d held g = tt
inside_good (modes.Args l) fs d held g = tt
inside_good modes.Behind fs d held g = tt
inside_good modes.Items fs d held g = g.0

done_same : (mode : Mode) (fs : List Frame) → is_done_by mode (numbers fs) ≡ accepts_by mode fs
done_same (modes.Begin semi) [] = refl
done_same (modes.Begin semi) (f ∷ fs) = refl
done_same modes.Named fs = refl
done_same (modes.Args l) fs = refl
done_same modes.Behind fs = refl
done_same modes.Items fs = refl

-- short tokens before a number are short before each lesser one
short_less : (tokens : List Placed) (p q : ℕ) → p ≤ q → IsTrue (are_short (take q tokens)) → IsTrue (are_short (take p tokens))
short_less tokens zero q less h = refl
short_less [] (suc p) q less h = refl
short_less (t ∷ tokens) (suc p) zero less h = absurd (omega arith)
short_less (t ∷ tokens) (suc p) (suc q) less h =
    let parts = and_parts (nat_le t.size 1048576) (are_short (take q tokens)) h in
    and_from (nat_le t.size 1048576) (are_short (take p tokens)) parts.0 (short_less tokens p q (omega arith) parts.1)

numbers_length : (fs : List Frame) → length (numbers fs) ≡ length fs
numbers_length [] = refl
numbers_length (f ∷ fs) = ap suc (numbers_length fs)

not-true-false : (b : Bool) → not b ≡ true → b ≡ false
not-true-false true e = absurd (true≢false (sym e))
not-true-false false e = refl

deep_token : (mode : Mode) (t : Token) → is_deep_token mode t ≡ true → (mode ≡ modes.Behind) × (t ≡ Sign marks.BraceOpen)
deep_token mode (Name q w) e = absurd (true≢false (sym e))
deep_token mode (Sign k) e = let d = deep_is mode k e in (d.0, ap Sign d.1)

no_begin : (semi : Bool) (ts : List Token) → opens_group (modes.Begin semi) ts ≡ false
no_begin semi [] = refl
no_begin semi (Name q w ∷ ts) = refl
no_begin semi (Sign k ∷ ts) = refl

no_items : (ts : List Token) → opens_group modes.Items ts ≡ false
no_items [] = refl
no_items (Name q w ∷ ts) = refl
no_items (Sign k ∷ ts) = refl

-- in the head of a group the machine knows the place of its word
head_at : (names : List (List ℕ)) (place : ℕ → ℕ) (fs : List Frame) (d : Body) (mode : Mode) (w : List ℕ) (held : List Token) (m : Machine) (ts : List Token) → ShowsStatement names place fs d mode w held m → opens_group mode ts ≡ true → m.head ≡ place (length (frames_text fs ++ spelling d))
head_at names place fs d (modes.Begin semi) w held m ts s e = absurd (true≢false (sym e ∙ no_begin semi ts))
head_at names place fs d modes.Named w held m ts s e = s.1
head_at names place fs d (modes.Args l) w held m ts s e = s.1
head_at names place fs d modes.Behind w held m ts s e = s.1
head_at names place fs d modes.Items w held m ts s e = absurd (true≢false (sym e ∙ no_items ts))

-- both readings go on, or both stop, for each later table
abbrev BothFor : (ℕ → ℕ) → List (List ℕ) → Option State → Option Machine → Type 0
BothFor place names r o = (final : List (List ℕ)) → Grown names final → Both (Shows final place) r o

module _ (text : List ℕ) where
  abbrev all : List Placed
  all = tokens_of text

  abbrev bares : List Token
  bares = bare all

  abbrev place : ℕ → ℕ
  place number = index_in (length text) all number

  abbrev pub Answers : Reading → Type 0
  Answers (Whole names groups) = IsTrue (are_short all) × ((limited : Limited bares) × (map (group_view names) groups ≡ groups_in None 0 limited.body))
  Answers (Stopped index) = LeavesForm (length text) all index
  Answers (Deep index) = HasDeepGroup (length text) all index
  Answers (Long index) = HasLongToken all index

  -- the machine at a token, and what it has read
  record At (k : ℕ) (z : State) : Type 0 where
    pub within : k ≤ length all
    pub taken : steps (step below_64) zip.start (take k bares) ≡ Some z
    pub short : IsTrue (are_short (take k all))

  good : (k : ℕ) (z : State) → At k z → HasRead below_64 (take k bares) z
  good k z a = reads below_64 (take k bares) z a.taken

  keeps : (k : ℕ) (z : State) → At k z → KeepsLimits all k
  keeps k z a = record { short = a.short; goes_on = goes_on below_64 refl (take k bares) z a.taken }

  within_bares : (k : ℕ) → k ≤ length all → k ≤ length bares
  within_bares k h = let same : length bares ≡ length all = length-map all (λ (t : Placed). t.token) in omega arith

  unlimited : (k : ℕ) (z : State) → At k z → steps (step always) zip.start (take k bares) ≡ Some z
  unlimited k z a = always_steps zip.start z (take k bares) a.taken

  -- where the machine stops, though groups may be of any depth
  stops_form : (k : ℕ) (z : State) (index : ℕ) → At k z → IsTrue (are_short (take (suc k) all)) → Stops (step always) accepts z (drop k bares) → index ≡ place k → LeavesForm (length text) all index
  stops_form k z index a short stop is = record {
    number = k;
    before = keeps k z a;
    short = short;
    leaves = leaves_at always refl bares k z (within_bares k a.within) (unlimited k z a) stop;
    is = is;
  }

  -- the end of the text
  at_end : (k : ℕ) (z : State) (names : List (List ℕ)) (m : Machine) → At k z → drop k all ≡ [] → BothFor place names (Some z) (Some m) → Answers (machine.finished (length text) names m)
  at_end k z names m a e both =
      let s = both names (Grown-refl names) in
      let same : is_done_by m.mode m.opened ≡ accepts z = ap (λ x. is_done_by x m.opened) s.mode ∙ ap (λ ns. is_done_by z.mode ns) s.same.opened ∙ done_same z.mode z.frames in
      subst (λ (c : Bool). Answers (if c then Whole names m.groups else Stopped (length text))) (sym same) (by (accepts z) refl s)
    where
      no_more : drop k bares ≡ []
      no_more = drop_map (λ (t : Placed). t.token) k all ∙ ap bare e

      whole : take k bares ≡ bares
      whole = sym (append-nil (take k bares)) ∙ ap (λ xs. take k bares ++ xs) (sym no_more) ∙ take-append-drop k bares

      all_short : are_short (take k all) ≡ are_short all
      all_short = ap are_short (sym (append-nil (take k all)) ∙ ap (λ xs. take k all ++ xs) (sym e) ∙ take-append-drop k all)

      by : (c : Bool) → accepts z ≡ c → Shows names place z m → Answers (if c then Whole names m.groups else Stopped (length text))
      by true h s =
          let top = accepted_good below_64 z.mode z.frames h in
          (sym all_short ∙ a.short, (spells below_64 bares z (ap (steps (step below_64) zip.start) (sym whole) ∙ a.taken) h, s.same.groups ∙ ap (λ fs. shown fs z.done) top.0))
      by false h s = stops_form k z (length text) a (ap are_short (take_none k all e) ∙ a.short) (subst (Stops (step always) accepts z) (sym no_more) h) (index_end (length text) k all e)

  -- the tokens before the word of the statement are short
  front_short : (k : ℕ) (z : State) → At k z → IsTrue (are_short (take (length (frames_text z.frames ++ spelling z.done)) all))
  front_short k z a =
      let front = frames_text z.frames ++ spelling z.done in
      let rest = statement_text z.mode z.word z.held in
      let size : length (take k bares) ≡ k = length-take-le k bares (within_bares k a.within) in
      let parts : length front + length rest ≡ k = sym (length-append front rest) ∙ ap length (append_assoc (frames_text z.frames) (spelling z.done) rest ∙ (good k z a).1) ∙ size in
      short_less all (length front) k (omega arith) a.short

  -- the brace of a group that is too deep, where the tokens before its word are short
  deep_brace : (k : ℕ) (z : State) → k ≤ length all → steps (step below_64) zip.start (take k bares) ≡ Some z → (rest : List Token) → drop k bares ≡ Sign marks.BraceOpen ∷ rest
      → IsTrue (are_short (take (length (frames_text z.frames ++ spelling z.done)) all)) → z.mode ≡ modes.Behind → step below_64 z (Sign marks.BraceOpen) ≡ None → HasDeepGroup (length text) all (place (length (frames_text z.frames ++ spelling z.done)))
  deep_brace k z within taken rest here short mode e =
      let g = reads below_64 (take k bares) z taken in
      let front = frames_text z.frames ++ spelling z.done in
      let opening = Name false z.word ∷ (Sign marks.ParenOpen ∷ (z.held ++ Sign marks.ParenClose ∷ [])) in
      let read : take k bares ≡ front ++ opening = sym g.1 ∙ ap (λ (x : Mode). frames_text z.frames ++ (spelling z.done ++ statement_text x z.word z.held)) mode ∙ sym (append_assoc (frames_text z.frames) (spelling z.done) opening) in
      let args : IsTrue (grammar.are_args z.held) = subst (λ (x : Mode). GoodStatement z.frames z.done x z.held) mode g.0.3 in
      let frame : Frame = record { before = z.done; word = z.word; args = z.held } in
      let u = zip.at_begin (frame ∷ z.frames) grammar.End false in
      let opened : step always z (Sign marks.BraceOpen) ≡ Some u = ap (λ (x : Mode). zip.step_by always z.frames z.done x z.word z.held (Sign marks.BraceOpen)) mode in
      let more = take_one k bares (Sign marks.BraceOpen) rest here in
      let run : steps (step always) zip.start (take (suc k) bares) ≡ Some u =
      ap (steps (step always) zip.start) more ∙ steps-append (step always) zip.start (take k bares) (Sign marks.BraceOpen ∷ []) ∙ ap (λ o. option_and_then (λ v. steps (step always) v (Sign marks.BraceOpen ∷ [])) o) (always_steps zip.start z (take k bares) taken) ∙ ap (λ o. option_and_then (λ v. Some v) o) opened in
      record {
        number = k;
        front = front;
        short = short;
        before = goes_on below_64 refl (take k bares) z taken;
        word = z.word;
        args = z.held;
        are_args = args;
        head = read;
        brace = more;
        goes_on = goes_on always refl (take (suc k) bares) u run;
        leaves = leaves_at below_64 refl bares k z (within_bares k within) taken (subst (Stops (step below_64) accepts z) (sym here) e);
        is = refl;
      }

  -- where the tokens ahead lead to the brace of a group, and there is no room for one
  deep_on : (ts : List Token) (k : ℕ) (z : State) → k ≤ length all → steps (step below_64) zip.start (take k bares) ≡ Some z → drop k bares ≡ ts
      → IsTrue (are_short (take (length (frames_text z.frames ++ spelling z.done)) all)) → below_64 (length z.frames) ≡ false → opens_group z.mode ts ≡ true → HasDeepGroup (length text) all (place (length (frames_text z.frames ++ spelling z.done)))
  deep_on [] k z within taken here short full e = absurd (true≢false (sym e))
  deep_on (t ∷ ts) k z within taken here short full e =
      by (is_deep_token z.mode t) refl (head_mode z.mode t) refl e (λ u w r o. deep_on ts (suc k) u w r behind (o.0) (o.1) (o.2))
    where
      behind : drop (suc k) bares ≡ ts
      behind = (let more : suc k ≡ k + 1 = omega arith in ap (λ n. drop n bares) more) ∙ sym (drop-drop 1 k bares) ∙ ap (drop 1) here

      inside : suc k ≤ length all
      inside = let w = within_more k bares t ts here in let same : length bares ≡ length all = length-map all (λ (p : Placed). p.token) in omega arith

      Found : State → Type 0
      Found u = HasDeepGroup (length text) all (place (length (frames_text u.frames ++ spelling u.done)))

      by : (b : Bool) → is_deep_token z.mode t ≡ b → (o : Option Mode) → head_mode z.mode t ≡ o → (b || goes_to (λ next. opens_group next ts) (head_mode z.mode t)) ≡ true
          → ((u : State) → suc k ≤ length all → steps (step below_64) zip.start (take (suc k) bares) ≡ Some u
          → IsTrue (are_short (take (length (frames_text u.frames ++ spelling u.done)) all)) × (below_64 (length u.frames) ≡ false) × (opens_group u.mode ts ≡ true) → Found u) → Found z
      by true is o h g more =
          let brace = deep_token z.mode t is in
          let none : step below_64 z (Sign marks.BraceOpen) ≡ None =
          ap (λ (x : Mode). zip.step_by below_64 z.frames z.done x z.word z.held (Sign marks.BraceOpen)) brace.0
          ∙ ap (λ (c : Bool). if c then Some (zip.at_begin (record { before = z.done; word = z.word; args = z.held } ∷ z.frames) grammar.End false) else None) full in
          deep_brace k z within taken ts (here ∙ ap (λ x. x ∷ ts) brace.1) short brace.0 none
      by false is None h g more = absurd (true≢false (sym (sym (ap (goes_to (λ next. opens_group next ts)) h) ∙ g)))
      by false is (Some next) h g more =
          let n = taken_in_head z.frames z.done z.mode z.word z.held t next h in
          let u = zip.in_statement z.frames z.done next z.word n.0 in
          let run : steps (step below_64) zip.start (take (suc k) bares) ≡ Some u =
          ap (steps (step below_64) zip.start) (take_one k bares t ts here) ∙ steps-append (step below_64) zip.start (take k bares) (t ∷ []) ∙ ap (λ o. option_and_then (λ w. steps (step below_64) w (t ∷ [])) o) taken ∙ ap (λ o. option_and_then (λ w. Some w) o) n.1 in
          more u inside run (short, full, sym (ap (goes_to (λ next. opens_group next ts)) h) ∙ g)

  deep_at : (end index : ℕ) (d : HasDeepGroup end all index) → DeepAt bares d.number d.front
  deep_at end index d = record { word = d.word; args = d.args; are_args = d.are_args; before = d.before; head = d.head; brace = d.brace; goes_on = d.goes_on; leaves = d.leaves }

  module _ (k : ℕ) (z : State) (a : At k z) (t : Placed) (rest : List Placed) (here : drop k all ≡ t ∷ rest) where
    here_bare : drop k bares ≡ t.token ∷ bare rest
    here_bare = drop_map (λ (x : Placed). x.token) k all ∙ ap bare here

    is_index : t.at ≡ place k
    is_index = index_here (length text) k all t rest here

    next : Good below_64 z × (t.at ≡ place (length (state_text z)))
    next =
        let g = good k z a in
        let size : length (take k bares) ≡ k = length-take-le k bares (within_bares k a.within) in
        (g.0, is_index ∙ ap place (sym size) ∙ ap (λ xs. place (length xs)) (sym g.1))

    -- what is ahead of a token that is too long
    long_here : (names : List (List ℕ)) (m : Machine) → Shows names place z m → 1048576 < t.size → Answers (long_stop m t.at (t.token ∷ bare rest))
    long_here names m s h = by (is_deep_ahead m (t.token ∷ bare rest)) refl
      where
        room_same : nat_lt (length m.opened) 64 ≡ below_64 (length z.frames)
        room_same = ap (λ n. nat_lt n 64) (ap length s.same.opened ∙ numbers_length z.frames)

        ahead_same : is_deep_ahead m (t.token ∷ bare rest) ≡ (not (below_64 (length z.frames)) && opens_group z.mode (drop k bares))
        ahead_same = (λ i. not (room_same i) && opens_group (s.mode i) (t.token ∷ bare rest)) ∙ ap (λ ts. not (below_64 (length z.frames)) && opens_group z.mode ts) (sym here_bare)

        by : (c : Bool) → is_deep_ahead m (t.token ∷ bare rest) ≡ c → Answers (if c then Deep m.head else Long t.at)
        by true e =
            let parts = and_parts (not (below_64 (length z.frames))) (opens_group z.mode (drop k bares)) (sym ahead_same ∙ e) in
            let head = head_at names place z.frames z.done z.mode z.word z.held m (drop k bares) s.statement parts.1 in
            subst (HasDeepGroup (length text) all) (sym head) (deep_on (drop k bares) k z a.within a.taken refl (front_short k z a) (not-true-false (below_64 (length z.frames)) parts.0) parts.1)
        by false e = record {
          number = k;
          before = keeps k z a;
          token = t;
          after = rest;
          here = here;
          long = h;
          first = λ end index d. comes_first bares d.number d.front (deep_at end index d) k z (within_bares k a.within) a.taken (sym ahead_same ∙ e);
          is = refl;
        }

    module _ (short : t.size ≤ 1048576) where
      short_more : IsTrue (are_short (take (suc k) all))
      short_more = ap are_short (take_one k all t rest here) ∙ list_all-append (λ (x : Placed). nat_le x.size 1048576) (take k all) (t ∷ []) ∙ (rw (a.short, le-leb t.size 1048576 short) refl)

      taken_more : (u : State) → step below_64 z t.token ≡ Some u → At (suc k) u
      taken_more u e = record {
        within = within_more k all t rest here;
        taken = ap (steps (step below_64) zip.start) (take_one k bares t.token (bare rest) here_bare) ∙ steps-append (step below_64) zip.start (take k bares) (t.token ∷ []) ∙ ap (λ o. option_and_then (λ w. steps (step below_64) w (t.token ∷ [])) o) a.taken ∙ ap (λ o. option_and_then (λ w. Some w) o) e;
        short = short_more;
      }

      off_here : step always z t.token ≡ None → LeavesForm (length text) all t.at
      off_here e = stops_form k z t.at a short_more (subst (Stops (step always) accepts z) (sym here_bare) e) is_index

      -- the brace of a group that is too deep
      deep_here : (head : ℕ) → z.mode ≡ modes.Behind → t.token ≡ Sign marks.BraceOpen → step below_64 z t.token ≡ None → head ≡ place (length (frames_text z.frames ++ spelling z.done)) → HasDeepGroup (length text) all head
      deep_here head mode brace e is =
          subst (HasDeepGroup (length text) all) (sym is) (deep_brace k z a.within a.taken (bare rest) (here_bare ∙ ap (λ x. x ∷ bare rest) brace) (front_short k z a) mode (ap (step below_64 z) (sym brace) ∙ e))

  -- from a token on
  abbrev Read : List Placed → Type 0
  Read rest = (k : ℕ) (z : State) (names : List (List ℕ)) (m : Machine) → At k z → drop k all ≡ rest → BothFor place names (Some z) (Some m) → Answers (read_in (length text) names m rest)

  -- both machines at a token
  go_on : (k : ℕ) (z : State) (new : List (List ℕ)) (stop : Reading) (t : Placed) (rest : List Placed) → Read rest → drop (suc k) all ≡ rest → (r : Option State) → step below_64 z t.token ≡ r → (o : Option Machine) → BothFor place new r o
      → ((u : State) → step below_64 z t.token ≡ Some u → At (suc k) u) → (step below_64 z t.token ≡ None → Answers stop) → Answers (read_on (λ table n. read_in (length text) table n rest) (stepped stop new o))
  go_on k z new stop t rest more behind (Some u) e (Some n) both taken stops = more (suc k) u new n (taken u e) behind both
  go_on k z new stop t rest more behind None e None both taken stops = stops e
  go_on k z new stop t rest more behind (Some u) e None both taken stops = absurd (both new (Grown-refl new))
  go_on k z new stop t rest more behind None e (Some n) both taken stops = absurd (both new (Grown-refl new))

  by_size : (c : Bool) (stop : Reading) (rest : List Placed) (s : machine.Step) → (c ≡ true → Answers stop) → (c ≡ false → Answers (read_on (λ table n. read_in (length text) table n rest) s))
      → Answers (read_on (λ table n. read_in (length text) table n rest) (if c then machine.Refused stop else s))
  by_size true stop rest s long short = long refl
  by_size false stop rest s long short = short refl

  behind_one : (k : ℕ) (t : Placed) (rest : List Placed) → drop k all ≡ t ∷ rest → drop (suc k) all ≡ rest
  behind_one k t rest e = (let more : suc k ≡ k + 1 = omega arith in ap (λ n. drop n all) more) ∙ sym (drop-drop 1 k all) ∙ ap (drop 1) e

  one_token : (k : ℕ) (z : State) (names : List (List ℕ)) (m : Machine) (a : At k z) (t : Placed) (rest : List Placed) (here : drop k all ≡ t ∷ rest) → t.size ≤ 1048576 → BothFor place names (Some z) (Some m) → Read rest
      → (token : Token) → t.token ≡ token → Answers (read_on (λ table n. read_in (length text) table n rest) (taken_in names m t.at token))
  one_token k z names m a t rest here short both more (Name quoted w) is =
      let new = with_text names w in
      let id = numbered_as new w in
      let g = next k z a t rest here in
      let agree : BothFor place new (step below_64 z (Name quoted w)) (name_in quoted id t.at m) = λ final grown.
      let s = both final (Grown-trans (Grown-with_text names w) grown) in
      subst (λ (x : Mode). Both (Shows final place) (step below_64 z (Name quoted w)) (machine.name_by x quoted id t.at m)) (sym s.mode)
      (name_same final place z.frames z.done z.mode z.word z.held quoted w id t.at m (all_open below_64 z.frames g.0.0) g.0.1 (number_text names w final grown) g.1 s.same s.statement) in
      go_on k z new (Stopped t.at) t rest more (behind_one k t rest here) (step below_64 z (Name quoted w)) (ap (step below_64 z) is) (name_in quoted id t.at m) agree (taken_more k z a t rest here short)
      (λ e. off_here k z a t rest here short (ap (step always z) is ∙ no_name z quoted w (ap (step below_64 z) (sym is) ∙ e)))
  one_token k z names m a t rest here short both more (Sign mark) is =
      let g = next k z a t rest here in
      let agree : BothFor place names (step below_64 z (Sign mark)) (mark_in mark m) = λ final grown.
      let s = both final grown in
      subst (λ (x : Mode). Both (Shows final place) (step below_64 z (Sign mark)) (machine.mark_by x mark m)) (sym s.mode)
      (mark_same final place z.frames z.done z.mode z.word z.held mark m (all_open below_64 z.frames g.0.0) g.0.1 (inside_good z.mode z.frames z.done z.held g.0.3) s.same s.mode s.statement) in
      go_on k z names (if is_deep_by m.mode mark then Deep m.head else Stopped t.at) t rest more (behind_one k t rest here) (step below_64 z (Sign mark)) (ap (step below_64 z) is) (mark_in mark m) agree (taken_more k z a t rest here short)
      (λ e. stop e (both names (Grown-refl names)) (is_deep_by m.mode mark) refl)
    where
      stop : step below_64 z t.token ≡ None → Shows names place z m → (c : Bool) → is_deep_by m.mode mark ≡ c → Answers (if c then Deep m.head else Stopped t.at)
      stop e s true deep =
          let parts = deep_is z.mode mark (ap (λ x. is_deep_by x mark) (sym s.mode) ∙ deep) in
          let behind = subst (λ (x : Mode). ShowsStatement names place z.frames z.done x z.word z.held m) parts.0 s.statement in
          deep_here k z a t rest here short m.head parts.0 (is ∙ ap Sign parts.1) e behind.1
      stop e s false deep = off_here k z a t rest here short (ap (step always z) is ∙ always_none z mark (ap (λ x. is_deep_by x mark) (sym s.mode) ∙ deep) (ap (step below_64 z) (sym is) ∙ e))

  reading : (rest : List Placed) → Read rest
  reading [] k z names m a e both = at_end k z names m a e both
  reading (t ∷ rest) k z names m a e both =
      by_size (nat_lt 1048576 t.size) (long_stop m t.at (t.token ∷ bare rest)) rest (taken_in names m t.at t.token) (λ h. long_here k z a t rest e names m (both names (Grown-refl names)) (ltb-true 1048576 t.size h))
      (λ h. one_token k z names m a t rest e (ltb-false 1048576 t.size h) both (reading rest) t.token refl)

  pub reading_answers : (names : List (List ℕ)) → Answers (read_in (length text) names machine.start all)
  reading_answers names = reading all 0 zip.start names machine.start (record { within = omega arith; taken = refl; short = refl }) refl
      (λ final grown. record { mode = refl; same = record { groups = refl; opened = refl }; statement = tt })
