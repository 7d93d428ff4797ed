-- Where a group is too deep, each token of its head that is too long stands ahead of its brace.
use Rattle.std.proofs.Common.{◌≡◌, ℕ, zero, suc, ◌+◌, ◌-◌, ◌<◌, ◌≤◌, ◌⊎◌, inl, inr, Bool, true, false, not, ◌&&◌, List, [], ◌∷◌, ◌++◌, length, take, drop, drop-drop, Option, Some, None, refl, sym, ap, ◌∙◌, subst, arith, append_assoc}
use Rattle.std.specs.Prelude.{if◌then◌else◌, IsTrue, option_and_then}
use Rattle.std.specs.List.{list_all}
use Rattle.std.proofs.lemmas.Bool.{true≢false, and_from}
use Rattle.std.proofs.lemmas.List.{length-take-le, take-append-drop}
use Rattle.lp_spec_place.specs.Machines.{steps, steps-append}
use Rattle.lp_spec_place.specs.Leaving.{Leaves}
use Rattle.lp_liberty.specs.declared.mark.Mark.TheVariants as marks
use Rattle.lp_liberty.specs.declared.mark.Last.TheVariants as lasts
use Rattle.lp_liberty.specs.declared.mark.Mode.{Mode}
use Rattle.lp_liberty.specs.declared.mark.Mode.TheVariants as modes
use Rattle.lp_liberty.specs.Grammar.{Token, Name, Sign, Body, Complex, End, Form, Limited, always, below_64, are_args, are_more_args}
use Rattle.lp_liberty.specs.Machine.{is_deep_by, opens_group}
use Rattle.lp_liberty.proofs.Joined.{conj_right}
use Rattle.lp_liberty.proofs.Zipper as zip
use Rattle.lp_liberty.proofs.Zipper.{Frame, State, in_statement, step, step_by}
use Rattle.lp_liberty.proofs.Leaving.{again, goes_on}
use Rattle.lp_liberty.proofs.Always.{always_none, always_steps, deep_is}
use Rattle.lp_liberty.proofs.OneAnswer.{no_further}

abbrev pub is_arg_token : Token → Bool
is_arg_token (Name q w) = true
is_arg_token (Sign marks.Comma) = true
is_arg_token (Sign marks.ParenClose) = true
is_arg_token (Sign k) = false

-- the tokens lead from a mode to the brace of a group, and the frames stay
record Opens (fs : List Frame) (mode : Mode) (ys : List Token) (u : State) : Type 0 where
  opens : (more : List Token) → opens_group mode (ys ++ Sign marks.BraceOpen ∷ more) ≡ true
  frames : u.frames ≡ fs

items_never : (ts : List Token) → opens_group modes.Items ts ≡ false
items_never [] = refl
items_never (Name q w ∷ ts) = refl
items_never (Sign k ∷ ts) = refl

named_never : (ys more : List Token) → IsTrue (list_all is_arg_token ys) → opens_group modes.Named (ys ++ Sign marks.BraceOpen ∷ more) ≡ false
named_never [] more h = refl
named_never (Name q w ∷ ys) more h = refl
named_never (Sign marks.Comma ∷ ys) more h = refl
named_never (Sign marks.ParenClose ∷ ys) more h = refl
named_never (Sign marks.ParenOpen ∷ ys) more h = absurd (true≢false (sym h))
named_never (Sign marks.BraceOpen ∷ ys) more h = absurd (true≢false (sym h))
named_never (Sign marks.BraceClose ∷ ys) more h = absurd (true≢false (sym h))
named_never (Sign marks.Colon ∷ ys) more h = absurd (true≢false (sym h))
named_never (Sign marks.Semicolon ∷ ys) more h = absurd (true≢false (sym h))
named_never (Sign marks.LineEnd ∷ ys) more h = absurd (true≢false (sym h))
named_never (Sign marks.Broken ∷ ys) more h = absurd (true≢false (sym h))

no_opens : {A : Type 0} (fs : List Frame) (mode : Mode) (ys : List Token) (u : State) → ((more : List Token) → opens_group mode (ys ++ Sign marks.BraceOpen ∷ more) ≡ false) → Opens fs mode ys u → A
no_opens fs mode ys u never o = absurd (true≢false (sym (o.opens []) ∙ never []))

abbrev Runs : List Frame → Body → Mode → List ℕ → List Token → List Token → State → Type 0
Runs fs d mode w held ys u = steps (step below_64) (in_statement fs d mode w held) ys ≡ Some u

-- from among the arguments, or from anywhere else, to behind them
args_open : (ys : List Token) (fs : List Frame) (d : Body) (mode : Mode) (w : List ℕ) (held : List Token) (u : State) → IsTrue (list_all is_arg_token ys) → Runs fs d mode w held ys u → u.mode ≡ modes.Behind → Opens fs mode ys u
args_open [] fs d mode w held u h e b =
    let same : in_statement fs d mode w held ≡ u = cc in
    let here : mode ≡ modes.Behind = ap (λ (z : State). z.mode) same ∙ b in
    record { opens = λ more. ap (λ (m : Mode). opens_group m (Sign marks.BraceOpen ∷ more)) here; frames = sym (ap (λ (z : State). z.frames) same) }
args_open (Sign marks.ParenOpen ∷ ys) fs d mode w held u h e b = absurd (true≢false (sym h))
args_open (Sign marks.BraceOpen ∷ ys) fs d mode w held u h e b = absurd (true≢false (sym h))
args_open (Sign marks.BraceClose ∷ ys) fs d mode w held u h e b = absurd (true≢false (sym h))
args_open (Sign marks.Colon ∷ ys) fs d mode w held u h e b = absurd (true≢false (sym h))
args_open (Sign marks.Semicolon ∷ ys) fs d mode w held u h e b = absurd (true≢false (sym h))
args_open (Sign marks.LineEnd ∷ ys) fs d mode w held u h e b = absurd (true≢false (sym h))
args_open (Sign marks.Broken ∷ ys) fs d mode w held u h e b = absurd (true≢false (sym h))
args_open (Name true n ∷ ys) fs d (modes.Begin semi) w held u h e b = absurd cc
args_open (Name false n ∷ ys) fs d (modes.Begin semi) w held u h e b = no_opens fs modes.Named ys u (λ more. named_never ys more h) (args_open ys fs d modes.Named n [] u h e b)
args_open (Sign marks.Comma ∷ ys) fs d (modes.Begin semi) w held u h e b = absurd cc
args_open (Sign marks.ParenClose ∷ ys) fs d (modes.Begin semi) w held u h e b = absurd cc
args_open (Name q n ∷ ys) fs d modes.Named w held u h e b = absurd cc
args_open (Sign marks.Comma ∷ ys) fs d modes.Named w held u h e b = absurd cc
args_open (Sign marks.ParenClose ∷ ys) fs d modes.Named w held u h e b = absurd cc
args_open (Name q n ∷ ys) fs d (modes.Args l) w held u h e b = let o = args_open ys fs d (modes.Args lasts.Name) w (held ++ Name q n ∷ []) u h e b in record { opens = o.opens; frames = o.frames }
args_open (Sign marks.Comma ∷ ys) fs d (modes.Args lasts.Nothing) w held u h e b = absurd cc
args_open (Sign marks.Comma ∷ ys) fs d (modes.Args lasts.Name) w held u h e b = let o = args_open ys fs d (modes.Args lasts.Comma) w (held ++ Sign marks.Comma ∷ []) u h e b in record { opens = o.opens; frames = o.frames }
args_open (Sign marks.Comma ∷ ys) fs d (modes.Args lasts.Comma) w held u h e b = absurd cc
args_open (Sign marks.ParenClose ∷ ys) fs d (modes.Args lasts.Nothing) w held u h e b = let o = args_open ys fs d modes.Behind w held u h e b in record { opens = o.opens; frames = o.frames }
args_open (Sign marks.ParenClose ∷ ys) fs d (modes.Args lasts.Name) w held u h e b = let o = args_open ys fs d modes.Behind w held u h e b in record { opens = o.opens; frames = o.frames }
args_open (Sign marks.ParenClose ∷ ys) fs d (modes.Args lasts.Comma) w held u h e b = absurd cc
args_open (Name q n ∷ ys) [] d modes.Behind w held u h e b = absurd cc
args_open (Name true n ∷ ys) (f ∷ fs) d modes.Behind w held u h e b = absurd cc
args_open (Name false n ∷ ys) (f ∷ fs) d modes.Behind w held u h e b = no_opens (f ∷ fs) modes.Named ys u (λ more. named_never ys more h) (args_open ys (f ∷ fs) (zip.joined d (Complex w held End)) modes.Named n [] u h e b)
args_open (Sign marks.Comma ∷ ys) [] d modes.Behind w held u h e b = absurd cc
args_open (Sign marks.Comma ∷ ys) (f ∷ fs) d modes.Behind w held u h e b = absurd cc
args_open (Sign marks.ParenClose ∷ ys) [] d modes.Behind w held u h e b = absurd cc
args_open (Sign marks.ParenClose ∷ ys) (f ∷ fs) d modes.Behind w held u h e b = absurd cc
args_open (Name q n ∷ ys) fs d modes.Items w held u h e b = no_opens fs modes.Items ys u (λ more. items_never (ys ++ Sign marks.BraceOpen ∷ more)) (args_open ys fs d modes.Items w (held ++ Name q n ∷ []) u h e b)
args_open (Sign marks.Comma ∷ ys) fs d modes.Items w held u h e b = no_opens fs modes.Items ys u (λ more. items_never (ys ++ Sign marks.BraceOpen ∷ more)) (args_open ys fs d modes.Items w (held ++ Sign marks.Comma ∷ []) u h e b)
args_open (Sign marks.ParenClose ∷ ys) fs d modes.Items w held u h e b = no_opens fs modes.Items ys u (λ more. items_never (ys ++ Sign marks.BraceOpen ∷ more)) (args_open ys fs d modes.Items w (held ++ Sign marks.ParenClose ∷ []) u h e b)

-- from behind the word
paren_opens : (ys : List Token) (fs : List Frame) (d : Body) (mode : Mode) (w : List ℕ) (held : List Token) (u : State) → IsTrue (list_all is_arg_token ys) → Runs fs d mode w held (Sign marks.ParenOpen ∷ ys) u → u.mode ≡ modes.Behind → Opens fs mode (Sign marks.ParenOpen ∷ ys) u
paren_opens ys fs d (modes.Begin semi) w held u h e b = absurd cc
paren_opens ys fs d modes.Named w held u h e b = let o = args_open ys fs d (modes.Args lasts.Nothing) w [] u h e b in record { opens = o.opens; frames = o.frames }
paren_opens ys fs d (modes.Args lasts.Nothing) w held u h e b = absurd cc
paren_opens ys fs d (modes.Args lasts.Name) w held u h e b = absurd cc
paren_opens ys fs d (modes.Args lasts.Comma) w held u h e b = absurd cc
paren_opens ys [] d modes.Behind w held u h e b = absurd cc
paren_opens ys (f ∷ fs) d modes.Behind w held u h e b = absurd cc
paren_opens ys fs d modes.Items w held u h e b = no_opens fs modes.Items ys u (λ more. items_never (ys ++ Sign marks.BraceOpen ∷ more)) (args_open ys fs d modes.Items w (held ++ Sign marks.ParenOpen ∷ []) u h e b)

-- ---- the head of a group

args_all : (args : List Token) → IsTrue (are_more_args args) → IsTrue (list_all is_arg_token (args ++ Sign marks.ParenClose ∷ []))
args_all [] h = refl
args_all (Name q w ∷ args) h = args_all args h
args_all (Sign marks.Comma ∷ []) h = absurd (true≢false (sym h))
args_all (Sign marks.Comma ∷ (Name q w ∷ args)) h = args_all args h
args_all (Sign marks.Comma ∷ (Sign k ∷ args)) h = absurd (true≢false (sym h))
args_all (Sign marks.ParenOpen ∷ args) h = absurd (true≢false (sym h))
args_all (Sign marks.ParenClose ∷ args) h = absurd (true≢false (sym h))
args_all (Sign marks.BraceOpen ∷ args) h = absurd (true≢false (sym h))
args_all (Sign marks.BraceClose ∷ args) h = absurd (true≢false (sym h))
args_all (Sign marks.Colon ∷ args) h = absurd (true≢false (sym h))
args_all (Sign marks.Semicolon ∷ args) h = absurd (true≢false (sym h))
args_all (Sign marks.LineEnd ∷ args) h = absurd (true≢false (sym h))
args_all (Sign marks.Broken ∷ args) h = absurd (true≢false (sym h))

head_all : (args : List Token) → IsTrue (are_args args) → IsTrue (list_all is_arg_token (args ++ Sign marks.ParenClose ∷ []))
head_all [] h = refl
head_all (Name q w ∷ args) h = args_all args h
head_all (Sign k ∷ args) h = absurd (true≢false (sym h))

drop_all : (ys : List Token) (j : ℕ) → IsTrue (list_all is_arg_token ys) → IsTrue (list_all is_arg_token (drop j ys))
drop_all ys zero h = h
drop_all [] (suc j) h = refl
drop_all (y ∷ ys) (suc j) h = drop_all ys j (conj_right (is_arg_token y) (list_all is_arg_token ys) h)

-- what is left of a head behind its word leads to the brace
head_opens : (ys : List Token) (j : ℕ) (z u : State) → IsTrue (list_all is_arg_token ys) → steps (step below_64) z (drop j (Sign marks.ParenOpen ∷ ys)) ≡ Some u → u.mode ≡ modes.Behind → Opens z.frames z.mode (drop j (Sign marks.ParenOpen ∷ ys)) u
head_opens ys zero z u h e b = paren_opens ys z.frames z.done z.mode z.word z.held u h e b
head_opens ys (suc j) z u h e b = args_open (drop j ys) z.frames z.done z.mode z.word z.held u (drop_all ys j h) e b

-- ---- lists

take_nil : {A : Type 0} (n : ℕ) (xs : List A) → xs ≡ [] → take n xs ≡ []
take_nil zero xs e = refl
take_nil (suc n) xs e = ap (take (suc n)) e

take_split : {A : Type 0} (k n : ℕ) (xs : List A) → k ≤ n → take n xs ≡ take k xs ++ take (n - k) (drop k xs)
take_split zero n xs h = let same : n ≡ n - 0 = omega arith in ap (λ m. take m xs) same
take_split (suc k) zero xs h = absurd (omega arith)
take_split (suc k) (suc n) [] h = sym (take_nil (suc n - suc k) [] refl)
take_split (suc k) (suc n) (x ∷ xs) h =
    let same : n - k ≡ suc n - suc k = omega arith in
    ap (λ ys. x ∷ ys) (take_split k n xs (omega arith) ∙ ap (λ m. take k xs ++ take m (drop k xs)) same)

drop_front : {A : Type 0} (xs ys : List A) (k : ℕ) → length xs ≡ k → drop k (xs ++ ys) ≡ ys
drop_front [] ys k e = ap (λ m. drop m ys) (sym e)
drop_front (x ∷ xs) ys zero e = absurd (omega arith)
drop_front (x ∷ xs) ys (suc k) e = drop_front xs ys k (omega arith)

drop_behind : {A : Type 0} (xs : List A) (y : A) (ys : List A) (k : ℕ) → length xs < k → drop k (xs ++ y ∷ ys) ≡ drop (k - length xs - 1) ys
drop_behind [] y ys zero h = absurd (omega arith)
drop_behind [] y ys (suc k) h = let same : k ≡ suc k - 0 - 1 = omega arith in ap (λ m. drop m ys) same
drop_behind (x ∷ xs) y ys zero h = absurd (omega arith)
drop_behind (x ∷ xs) y ys (suc k) h = let same : k - length xs - 1 ≡ suc k - suc (length xs) - 1 = omega arith in drop_behind xs y ys k (omega arith) ∙ ap (λ m. drop m ys) same

one_more : (xs : List Token) (n : ℕ) (t : Token) → take (suc n) xs ≡ take n xs ++ t ∷ [] → (rest : List Token) × (drop n xs ≡ t ∷ rest)
one_more [] zero t e = absurd cc
one_more (x ∷ xs) zero t e = let same : x ≡ t = cc in (xs, ap (λ y. y ∷ xs) same)
one_more [] (suc n) t e = absurd cc
one_more (x ∷ xs) (suc n) t e = one_more xs n t (ap (drop 1) e)

compare : (x y : ℕ) → (x ≤ y) ⊎ (y < x)
compare zero y = inl (omega arith)
compare (suc x) zero = inr (omega arith)
compare (suc x) (suc y) = elim (compare x y) [ inl l ↦ inl (omega arith) | inr l ↦ inr (omega arith) ]

-- ---- what the machine reads

module _ (room : ℕ → Bool) where
  abbrev run : State → List Token → Option State
  run z ts = steps (step room) z ts

  -- where a text can go on, the machine has read it
  reach : (text rest : List Token) (u : State) → run zip.start (text ++ rest) ≡ Some u → (z : State) × (run zip.start text ≡ Some z)
  reach text rest u e = by (run zip.start text) refl
    where
      by : (o : Option State) → run zip.start text ≡ o → (z : State) × (run zip.start text ≡ Some z)
      by None is = let none : None ≡ Some u = sym (steps-append (step room) zip.start text rest ∙ ap (λ o. option_and_then (λ z. run z rest) o) is) ∙ e in absurd cc
      by (Some z) is = (z, is)

  behind : (text rest : List Token) (z : State) → run zip.start text ≡ Some z → run zip.start (text ++ rest) ≡ run z rest
  behind text rest z is = steps-append (step room) zip.start text rest ∙ ap (λ o. option_and_then (λ u. run u rest) o) is

no_room_by : (c : Bool) (x : State) → (if c then Some x else None) ≡ None → c ≡ false
no_room_by true x e = absurd cc
no_room_by false x e = refl

no_room : (fs : List Frame) (d : Body) (mode : Mode) (w : List ℕ) (held : List Token) → mode ≡ modes.Behind → step_by below_64 fs d mode w held (Sign marks.BraceOpen) ≡ None → below_64 (length fs) ≡ false
no_room fs d mode w held b e = no_room_by (below_64 (length fs)) _ (ap (λ (m : Mode). step_by below_64 fs d m w held (Sign marks.BraceOpen)) (sym b) ∙ e)

-- a group that is too deep: its head, and that its brace goes on in the form but not with at most 64 nested groups
pub record DeepAt (tokens : List Token) (number : ℕ) (front : List Token) : Type 0 where
  pub word : List ℕ
  pub args : List Token
  pub are_args : IsTrue (are_args args)
  pub before : (rest : List Token) × Limited (take number tokens ++ rest)
  pub head : take number tokens ≡ front ++ (Name false word ∷ (Sign marks.ParenOpen ∷ (args ++ Sign marks.ParenClose ∷ [])))
  pub brace : take (suc number) tokens ≡ take number tokens ++ Sign marks.BraceOpen ∷ []
  pub goes_on : (rest : List Token) × Form (take (suc number) tokens ++ rest)
  pub leaves : Leaves Token Limited tokens number

module _ (tokens : List Token) (number : ℕ) (front : List Token) (d : DeepAt tokens number front) where
  -- the machine at the brace
  pub record AtBrace (u : State) : Type 0 where
    pub taken : steps (step below_64) zip.start (take number tokens) ≡ Some u
    pub mode : u.mode ≡ modes.Behind
    pub full : below_64 (length u.frames) ≡ false

  at_brace : (u : State) × AtBrace u
  at_brace =
      let h = again below_64 (take number tokens ++ d.before.0) d.before.1 in
      let r = reach below_64 (take number tokens) d.before.0 _ h in
      let none = stops r.0 r.1 (step below_64 r.0 (Sign marks.BraceOpen)) refl in
      let mode = is_behind r.0 r.1 none (is_deep_by r.0.mode marks.BraceOpen) refl in
      (r.0, record { taken = r.1; mode = mode; full = no_room r.0.frames r.0.done r.0.mode r.0.word r.0.held mode none })
    where
      after : (rest : List Token) × (drop number tokens ≡ Sign marks.BraceOpen ∷ rest)
      after = one_more tokens number (Sign marks.BraceOpen) d.brace

      stops : (u : State) → steps (step below_64) zip.start (take number tokens) ≡ Some u → (o : Option State) → step below_64 u (Sign marks.BraceOpen) ≡ o → step below_64 u (Sign marks.BraceOpen) ≡ None
      stops u taken None e = e
      stops u taken (Some v) e =
          let more : steps (step below_64) zip.start (take (suc number) tokens) ≡ Some v = ap (steps (step below_64) zip.start) d.brace ∙ behind below_64 (take number tokens) (Sign marks.BraceOpen ∷ []) u taken ∙ ap (λ o. option_and_then (λ w. Some w) o) e in
          let g = goes_on below_64 refl (take (suc number) tokens) v more in
          absurd (d.leaves.here (Sign marks.BraceOpen) after.0 after.1 g.0 (subst Limited (ap (λ xs. xs ++ g.0) d.brace ∙ append_assoc (take number tokens) (Sign marks.BraceOpen ∷ []) g.0) g.1))

      goes : (u : State) → steps (step below_64) zip.start (take number tokens) ≡ Some u → step always u (Sign marks.BraceOpen) ≡ None → ⊥
      goes u taken e =
          let h = again always (take (suc number) tokens ++ d.goes_on.0) d.goes_on.1 in
          let r = reach always (take (suc number) tokens) d.goes_on.0 _ h in
          let none : None ≡ Some r.0 =
          sym (ap (steps (step always) zip.start) d.brace ∙ behind always (take number tokens) (Sign marks.BraceOpen ∷ []) u (always_steps zip.start u (take number tokens) taken) ∙ ap (λ o. option_and_then (λ w. Some w) o) e) ∙ r.1 in
          absurd cc

      is_behind : (u : State) → steps (step below_64) zip.start (take number tokens) ≡ Some u → step below_64 u (Sign marks.BraceOpen) ≡ None → (b : Bool) → is_deep_by u.mode marks.BraceOpen ≡ b → u.mode ≡ modes.Behind
      is_behind u taken none true e = (deep_is u.mode marks.BraceOpen e).0
      is_behind u taken none false e = absurd (goes u taken (always_none u marks.BraceOpen e none))

  -- at a token behind its word the machine sees it ahead
  pub seen_ahead : (k : ℕ) (z : State) → k ≤ length tokens → steps (step below_64) zip.start (take k tokens) ≡ Some z → length front < k → (below_64 (length z.frames) ≡ false) × (opens_group z.mode (drop k tokens) ≡ true)
  seen_ahead k z within taken less =
      let b = at_brace in
      let ys = d.args ++ Sign marks.ParenClose ∷ [] in
      let xs = take (number - k) (drop k tokens) in
      let split = take_split k number tokens inside in
      let left : xs ≡ drop (k - length front - 1) (Sign marks.ParenOpen ∷ ys) =
      sym (drop_front (take k tokens) xs k (length-take-le k tokens within)) ∙ ap (drop k) (sym split ∙ d.head) ∙ drop_behind front (Name false d.word) (Sign marks.ParenOpen ∷ ys) k less in
      let run_left : steps (step below_64) z (drop (k - length front - 1) (Sign marks.ParenOpen ∷ ys)) ≡ Some b.0 =
      ap (steps (step below_64) z) (sym left) ∙ sym (behind below_64 (take k tokens) xs z taken) ∙ ap (steps (step below_64) zip.start) (sym split) ∙ b.1.taken in
      let o = head_opens ys (k - length front - 1) z b.0 (head_all d.args d.are_args) run_left b.1.mode in
      let same : k + (number - k) ≡ number = (let i = inside in omega arith) in
      let rest : drop k tokens ≡ drop (k - length front - 1) (Sign marks.ParenOpen ∷ ys) ++ Sign marks.BraceOpen ∷ after.0 =
      sym (take-append-drop (number - k) (drop k tokens)) ∙ ap (λ ts. ts ++ drop (number - k) (drop k tokens)) left
      ∙ ap (λ ts. drop (k - length front - 1) (Sign marks.ParenOpen ∷ ys) ++ ts) (drop-drop (number - k) k tokens ∙ ap (λ m. drop m tokens) same ∙ after.1) in
      (ap (λ fs. below_64 (length fs)) (sym o.frames) ∙ b.1.full, ap (opens_group z.mode) rest ∙ o.opens after.0)
    where
      after : (rest : List Token) × (drop number tokens ≡ Sign marks.BraceOpen ∷ rest)
      after = one_more tokens number (Sign marks.BraceOpen) d.brace

      inside : k ≤ number
      inside =
          elim (compare k number) [
            | inl l ↦ l
            | inr l ↦ let g = goes_on below_64 refl (take k tokens) z taken in absurd (no_further Limited tokens number k d.leaves l within g.0 g.1)
          ]

  pub comes_first : (k : ℕ) (z : State) → k ≤ length tokens → steps (step below_64) zip.start (take k tokens) ≡ Some z → (not (below_64 (length z.frames)) && opens_group z.mode (drop k tokens)) ≡ false → k ≤ length front
  comes_first k z within taken not_seen =
      elim (compare k (length front)) [
        | inl l ↦ l
        | inr l ↦ let s = seen_ahead k z within taken l in absurd (true≢false (sym (and_from (not (below_64 (length z.frames))) (opens_group z.mode (drop k tokens)) (ap not s.0) s.1) ∙ not_seen))
      ]
