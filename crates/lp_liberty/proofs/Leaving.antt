-- The machine reads each text of the form, can always be led to its end, and stops where no text of the form goes on.
use Rattle.std.proofs.Common.{◌≡◌, ℕ, suc, ◌<◌, ◌≤◌, Bool, true, false, List, [], ◌∷◌, ◌++◌, ◌&&◌, length, take, drop, Option, Some, refl, sym, ap, ◌∙◌, arith, append_assoc}
use Rattle.std.specs.Prelude.{nat_lt, IsTrue, option_and_then}
use Rattle.std.specs.List.{list_all}
use Rattle.std.proofs.lemmas.List.{append-nil}
use Rattle.std.proofs.lemmas.Bool.{true≢false, ltb-true}
use Rattle.lp_spec_place.specs.Leaving.{Leaves}
use Rattle.lp_spec_place.specs.Machines.{steps, steps-append, Stops, Recognizes, Finishes, leaves}
use Rattle.lp_liberty.specs.declared.mark.Mark.{Mark}
use Rattle.lp_liberty.specs.declared.mark.Mark.TheVariants as marks
use Rattle.lp_liberty.specs.declared.mark.Last as last
use Rattle.lp_liberty.specs.declared.mark.Last.TheVariants as lasts
use Rattle.lp_liberty.specs.declared.mark.Mode.{Mode}
use Rattle.lp_liberty.specs.declared.mark.Mode.TheVariants as modes
use Rattle.lp_liberty.specs.Grammar as grammar
use Rattle.lp_liberty.specs.Grammar.{Token, Name, Sign, Body, End, Semi, Simple, Complex, Group, spelling, is_item, is_name, are_args, are_more_args, ends_simple, is_body, Spells}
use Rattle.lp_liberty.specs.Machine.{is_filled}
use Rattle.lp_liberty.proofs.Joined.{semi_after, conj_left, conj_right, joined-end, joined-assoc}
use Rattle.lp_liberty.proofs.Zipper.{joined, Frame, State, at_begin, in_statement, shut, args, items, step, start, accepts}
use Rattle.lp_liberty.proofs.Found.{Good, spells, step_good, start_good, from_some, HasRead, GoodStatement, state_text, reads}

pub no_depth : (A : Type 0) → IsTrue (nat_lt 0 0) → A
no_depth A h = absurd (let low : 0 < 0 = ltb-true 0 0 h in omega arith)

depth_frames : (fs : List Frame) → IsTrue (nat_lt 0 (length fs)) → IsTrue (is_filled fs)
depth_frames [] h = no_depth (IsTrue (is_filled {A = Frame} [])) h
depth_frames (f ∷ fs) h = refl

module _ (room : ℕ → Bool) where
  abbrev run : State → List Token → Option State
  run z ts = steps (step room) z ts

  one : (z u : State) (t : Token) (rest : List Token) → step room z t ≡ Some u → run z (t ∷ rest) ≡ run u rest
  one z u t rest e = ap (λ o. option_and_then (λ w. run w rest) o) e

  behind_run : (z u : State) (xs ys : List Token) → run z xs ≡ Some u → run z (xs ++ ys) ≡ run u ys
  behind_run z u xs ys e = steps-append (step room) z xs ys ∙ ap (λ o. option_and_then (λ w. run w ys) o) e

  items_run : (fs : List Frame) (d : Body) (w : List ℕ) (held tokens : List Token) → IsTrue (list_all is_item tokens) → run (in_statement fs d modes.Items w held) tokens ≡ Some (in_statement fs d modes.Items w (held ++ tokens))
  items_run fs d w held [] h = ap (λ xs. Some (in_statement fs d modes.Items w xs)) (sym (append-nil held))
  items_run fs d w held (Name q n ∷ tokens) h = items_run fs d w (held ++ Name q n ∷ []) tokens h ∙ ap (λ xs. Some (in_statement fs d modes.Items w xs)) (append_assoc held (Name q n ∷ []) tokens)
  items_run fs d w held (Sign marks.ParenOpen ∷ tokens) h = items_run fs d w (held ++ Sign marks.ParenOpen ∷ []) tokens h ∙ ap (λ xs. Some (in_statement fs d modes.Items w xs)) (append_assoc held (Sign marks.ParenOpen ∷ []) tokens)
  items_run fs d w held (Sign marks.ParenClose ∷ tokens) h = items_run fs d w (held ++ Sign marks.ParenClose ∷ []) tokens h ∙ ap (λ xs. Some (in_statement fs d modes.Items w xs)) (append_assoc held (Sign marks.ParenClose ∷ []) tokens)
  items_run fs d w held (Sign marks.BraceOpen ∷ tokens) h = absurd (true≢false (sym h))
  items_run fs d w held (Sign marks.BraceClose ∷ tokens) h = absurd (true≢false (sym h))
  items_run fs d w held (Sign marks.Colon ∷ tokens) h = absurd (true≢false (sym h))
  items_run fs d w held (Sign marks.Semicolon ∷ tokens) h = absurd (true≢false (sym h))
  items_run fs d w held (Sign marks.Comma ∷ tokens) h = items_run fs d w (held ++ Sign marks.Comma ∷ []) tokens h ∙ ap (λ xs. Some (in_statement fs d modes.Items w xs)) (append_assoc held (Sign marks.Comma ∷ []) tokens)
  items_run fs d w held (Sign marks.LineEnd ∷ tokens) h = absurd (true≢false (sym h))
  items_run fs d w held (Sign marks.Broken ∷ tokens) h = absurd (true≢false (sym h))

  more_args_run : (fs : List Frame) (d : Body) (w : List ℕ) (held tokens : List Token) → IsTrue (are_more_args tokens) → run (in_statement fs d (modes.Args lasts.Name) w held) tokens ≡ Some (in_statement fs d (modes.Args lasts.Name) w (held ++ tokens))
  more_args_run fs d w held [] h = ap (λ xs. Some (in_statement fs d (modes.Args lasts.Name) w xs)) (sym (append-nil held))
  more_args_run fs d w held (Name q n ∷ tokens) h = more_args_run fs d w (held ++ Name q n ∷ []) tokens h ∙ ap (λ xs. Some (in_statement fs d (modes.Args lasts.Name) w xs)) (append_assoc held (Name q n ∷ []) tokens)
  more_args_run fs d w held (Sign marks.Comma ∷ []) h = absurd (true≢false (sym h))
  more_args_run fs d w held (Sign marks.Comma ∷ (Name q n ∷ tokens)) h =
      more_args_run fs d w ((held ++ Sign marks.Comma ∷ []) ++ Name q n ∷ []) tokens h
      ∙ ap (λ xs. Some (in_statement fs d (modes.Args lasts.Name) w xs)) (append_assoc (held ++ Sign marks.Comma ∷ []) (Name q n ∷ []) tokens ∙ append_assoc held (Sign marks.Comma ∷ []) (Name q n ∷ tokens))
  more_args_run fs d w held (Sign marks.Comma ∷ (Sign k ∷ tokens)) h = absurd (true≢false (sym h))
  more_args_run fs d w held (Sign marks.ParenOpen ∷ tokens) h = absurd (true≢false (sym h))
  more_args_run fs d w held (Sign marks.ParenClose ∷ tokens) h = absurd (true≢false (sym h))
  more_args_run fs d w held (Sign marks.BraceOpen ∷ tokens) h = absurd (true≢false (sym h))
  more_args_run fs d w held (Sign marks.BraceClose ∷ tokens) h = absurd (true≢false (sym h))
  more_args_run fs d w held (Sign marks.Colon ∷ tokens) h = absurd (true≢false (sym h))
  more_args_run fs d w held (Sign marks.Semicolon ∷ tokens) h = absurd (true≢false (sym h))
  more_args_run fs d w held (Sign marks.LineEnd ∷ tokens) h = absurd (true≢false (sym h))
  more_args_run fs d w held (Sign marks.Broken ∷ tokens) h = absurd (true≢false (sym h))

  -- all arguments and the closing parenthesis
  args_run : (fs : List Frame) (d : Body) (w : List ℕ) (tokens rest : List Token) → IsTrue (are_args tokens) → run (in_statement fs d (modes.Args lasts.Nothing) w []) (tokens ++ Sign marks.ParenClose ∷ rest) ≡ run (in_statement fs d modes.Behind w tokens) rest
  args_run fs d w [] rest h = refl
  args_run fs d w (Name q n ∷ tokens) rest h =
      behind_run (in_statement fs d (modes.Args lasts.Name) w (Name q n ∷ [])) (in_statement fs d (modes.Args lasts.Name) w (Name q n ∷ tokens)) tokens (Sign marks.ParenClose ∷ rest) (more_args_run fs d w (Name q n ∷ []) tokens h)
  args_run fs d w (Sign k ∷ tokens) rest h = absurd (true≢false (sym h))

  -- behind a complex attribute the text goes on as where a statement may begin
  complex_run : (fs : List Frame) (d : Body) (w : List ℕ) (held : List Token) (t : Token) (rest : List Token) → IsTrue (is_filled fs) → (t ≡ Sign marks.BraceOpen → ⊥) → run (in_statement fs d modes.Behind w held) (t ∷ rest) ≡ run (at_begin fs (joined d (Complex w held End)) true) (t ∷ rest)
  complex_run fs d w held (Name q n) rest e h = rw e refl
  complex_run fs d w held (Sign marks.ParenOpen) rest e h = rw e refl
  complex_run fs d w held (Sign marks.ParenClose) rest e h = rw e refl
  complex_run fs d w held (Sign marks.BraceOpen) rest e h = absurd (h refl)
  complex_run fs d w held (Sign marks.BraceClose) rest e h = rw e refl
  complex_run fs d w held (Sign marks.Colon) rest e h = rw e refl
  complex_run fs d w held (Sign marks.Semicolon) rest e h = rw e refl
  complex_run fs d w held (Sign marks.Comma) rest e h = rw e refl
  complex_run fs d w held (Sign marks.LineEnd) rest e h = rw e refl
  complex_run fs d w held (Sign marks.Broken) rest e h = rw e refl

  -- what follows statements and a closing brace
  abbrev shut_run : List Frame → Body → List Token → Option State
  shut_run fs d rest = option_and_then (λ z. run z rest) (shut fs d)

  not_brace : (b : Body) (rest : List Token) → (t : Token) × (more : List Token) × (spelling b ++ Sign marks.BraceClose ∷ rest ≡ t ∷ more) × (t ≡ Sign marks.BraceOpen → ⊥)
  not_brace End rest = (Sign marks.BraceClose, rest, refl, (λ e. cc))
  not_brace (grammar.Last w items) rest = (Name false w, Sign marks.Colon ∷ (items ++ Sign marks.BraceClose ∷ rest), refl, (λ e. cc))
  not_brace (Semi b) rest = (Sign marks.Semicolon, spelling b ++ Sign marks.BraceClose ∷ rest, refl, (λ e. cc))
  not_brace (Simple w items end b) rest = (Name false w, Sign marks.Colon ∷ ((items ++ (Sign end ∷ spelling b)) ++ Sign marks.BraceClose ∷ rest), refl, (λ e. cc))
  not_brace (Complex w args b) rest = (Name false w, Sign marks.ParenOpen ∷ ((args ++ (Sign marks.ParenClose ∷ spelling b)) ++ Sign marks.BraceClose ∷ rest), refl, (λ e. cc))
  not_brace (Group w args body b) rest = (Name false w, Sign marks.ParenOpen ∷ ((args ++ (Sign marks.ParenClose ∷ (Sign marks.BraceOpen ∷ (spelling body ++ (Sign marks.BraceClose ∷ spelling b))))) ++ Sign marks.BraceClose ∷ rest), refl, (λ e. cc))

  simple_run : (fs : List Frame) (d : Body) (w : List ℕ) (items : List Token) (end : Mark) (rest : List Token) → IsTrue (is_filled fs) → IsTrue (list_all is_item items) → IsTrue (ends_simple end)
      → run (in_statement fs d modes.Named w []) (Sign marks.Colon ∷ (items ++ Sign end ∷ rest)) ≡ run (at_begin fs (joined d (Simple w items end End)) false) rest
  simple_run fs d w items end rest e h ends =
      one (in_statement fs d modes.Named w []) (in_statement fs d modes.Items w []) (Sign marks.Colon) (items ++ Sign end ∷ rest) (rw e refl)
      ∙ behind_run (in_statement fs d modes.Items w []) (in_statement fs d modes.Items w items) items (Sign end ∷ rest) (items_run fs d w [] items h)
      ∙ by end ends
    where
      by : (k : Mark) → IsTrue (ends_simple k) → run (in_statement fs d modes.Items w items) (Sign k ∷ rest) ≡ run (at_begin fs (joined d (Simple w items k End)) false) rest
      by marks.Semicolon h = refl
      by marks.LineEnd h = refl
      by marks.ParenOpen h = absurd (true≢false (sym h))
      by marks.ParenClose h = absurd (true≢false (sym h))
      by marks.BraceOpen h = absurd (true≢false (sym h))
      by marks.BraceClose h = absurd (true≢false (sym h))
      by marks.Colon h = absurd (true≢false (sym h))
      by marks.Comma h = absurd (true≢false (sym h))
      by marks.Broken h = absurd (true≢false (sym h))

  -- the statements of a group, and its closing brace
  pub nested_run : (b : Body) (fs : List Frame) (d : Body) (semi : Bool) (rest : List Token) → IsTrue (is_filled fs) → IsTrue (is_body room (length fs) semi b) → run (at_begin fs d semi) (spelling b ++ Sign marks.BraceClose ∷ rest) ≡ shut_run fs (joined d b) rest
  nested_run End fs d semi rest e h = ap (λ x. shut_run fs x rest) (sym (joined-end d))
  nested_run (grammar.Last w items) fs d semi rest e h =
      one (in_statement fs d modes.Named w []) (in_statement fs d modes.Items w []) (Sign marks.Colon) (items ++ Sign marks.BraceClose ∷ rest) (rw e refl)
      ∙ behind_run (in_statement fs d modes.Items w []) (in_statement fs d modes.Items w items) items (Sign marks.BraceClose ∷ rest) (items_run fs d w [] items (conj_right (nat_lt 0 (length fs)) (list_all is_item items) h))
  nested_run (Semi b) fs d semi rest e h =
      let allowed = conj_left semi (is_body room (length fs) false b) h in
      one (at_begin fs d semi) (at_begin fs (joined d (Semi End)) false) (Sign marks.Semicolon) (spelling b ++ Sign marks.BraceClose ∷ rest) (rw allowed refl)
      ∙ nested_run b fs (joined d (Semi End)) false rest e (conj_right semi (is_body room (length fs) false b) h)
      ∙ ap (λ x. shut_run fs x rest) (joined-assoc d (Semi End) b)
  nested_run (Simple w items end b) fs d semi rest e h =
      let h2 = conj_right (nat_lt 0 (length fs)) (list_all is_item items && (ends_simple end && is_body room (length fs) false b)) h in
      let h3 = conj_right (list_all is_item items) (ends_simple end && is_body room (length fs) false b) h2 in
      ap (λ ts. run (in_statement fs d modes.Named w []) (Sign marks.Colon ∷ ts)) (append_assoc items (Sign end ∷ spelling b) (Sign marks.BraceClose ∷ rest))
      ∙ simple_run fs d w items end (spelling b ++ Sign marks.BraceClose ∷ rest) e (conj_left (list_all is_item items) (ends_simple end && is_body room (length fs) false b) h2) (conj_left (ends_simple end) (is_body room (length fs) false b) h3)
      ∙ nested_run b fs (joined d (Simple w items end End)) false rest e (conj_right (ends_simple end) (is_body room (length fs) false b) h3)
      ∙ ap (λ x. shut_run fs x rest) (joined-assoc d (Simple w items end End) b)
  nested_run (Complex w args b) fs d semi rest e h =
      let h2 = conj_right (nat_lt 0 (length fs)) (are_args args && is_body room (length fs) true b) h in
      let next = not_brace b rest in
      ap (λ ts. run (in_statement fs d (modes.Args lasts.Nothing) w []) ts) (append_assoc args (Sign marks.ParenClose ∷ spelling b) (Sign marks.BraceClose ∷ rest))
      ∙ args_run fs d w args (spelling b ++ Sign marks.BraceClose ∷ rest) (conj_left (are_args args) (is_body room (length fs) true b) h2)
      ∙ ap (λ ts. run (in_statement fs d modes.Behind w args) ts) next.2
      ∙ complex_run fs d w args next.0 next.1 e next.3
      ∙ ap (λ ts. run (at_begin fs (joined d (Complex w args End)) true) ts) (sym next.2)
      ∙ nested_run b fs (joined d (Complex w args End)) true rest e (conj_right (are_args args) (is_body room (length fs) true b) h2)
      ∙ ap (λ x. shut_run fs x rest) (joined-assoc d (Complex w args End) b)
  nested_run (Group w args body b) fs d semi rest e h =
      let h2 = conj_right (room (length fs)) (are_args args && (is_body room (suc (length fs)) false body && is_body room (length fs) true b)) h in
      let h3 = conj_right (are_args args) (is_body room (suc (length fs)) false body && is_body room (length fs) true b) h2 in
      let f : Frame = record { before = d; word = w; args = args } in
      let behind_body = spelling b ++ Sign marks.BraceClose ∷ rest in
      let opened : step room (in_statement fs d modes.Behind w args) (Sign marks.BraceOpen) ≡ Some (at_begin (f ∷ fs) End false) = rw (conj_left (room (length fs)) (are_args args && (is_body room (suc (length fs)) false body && is_body room (length fs) true b)) h) refl in
      ap (λ ts. run (in_statement fs d (modes.Args lasts.Nothing) w []) ts) (append_assoc args (Sign marks.ParenClose ∷ (Sign marks.BraceOpen ∷ (spelling body ++ (Sign marks.BraceClose ∷ spelling b)))) (Sign marks.BraceClose ∷ rest))
      ∙ args_run fs d w args ((Sign marks.BraceOpen ∷ (spelling body ++ (Sign marks.BraceClose ∷ spelling b))) ++ Sign marks.BraceClose ∷ rest) (conj_left (are_args args) (is_body room (suc (length fs)) false body && is_body room (length fs) true b) h2)
      ∙ one (in_statement fs d modes.Behind w args) (at_begin (f ∷ fs) End false) (Sign marks.BraceOpen) ((spelling body ++ (Sign marks.BraceClose ∷ spelling b)) ++ Sign marks.BraceClose ∷ rest) opened
      ∙ ap (λ ts. run (at_begin (f ∷ fs) End false) ts) (append_assoc (spelling body) (Sign marks.BraceClose ∷ spelling b) (Sign marks.BraceClose ∷ rest))
      ∙ nested_run body (f ∷ fs) End false behind_body refl (conj_left (is_body room (suc (length fs)) false body) (is_body room (length fs) true b) h3)
      ∙ nested_run b fs (joined d (Group w args body End)) true rest e (conj_right (is_body room (suc (length fs)) false body) (is_body room (length fs) true b) h3)
      ∙ ap (λ x. shut_run fs x rest) (joined-assoc d (Group w args body End) b)

  -- the groups of a file
  pub file_run : (b d : Body) (semi : Bool) → IsTrue (is_body room 0 semi b) → run (at_begin [] d semi) (spelling b) ≡ Some (at_begin [] (joined d b) (semi_after semi b))
  file_run End d semi h = ap (λ x. Some (at_begin [] x semi)) (sym (joined-end d))
  file_run (grammar.Last w items) d semi h = no_depth _ (conj_left (nat_lt 0 0) (list_all is_item items) h)
  file_run (Semi b) d semi h =
      let allowed = conj_left semi (is_body room 0 false b) h in
      one (at_begin [] d semi) (at_begin [] (joined d (Semi End)) false) (Sign marks.Semicolon) (spelling b) (rw allowed refl)
      ∙ file_run b (joined d (Semi End)) false (conj_right semi (is_body room 0 false b) h)
      ∙ ap (λ x. Some (at_begin [] x (semi_after false b))) (joined-assoc d (Semi End) b)
  file_run (Simple w items end b) d semi h = no_depth _ (conj_left (nat_lt 0 0) (list_all is_item items && (ends_simple end && is_body room 0 false b)) h)
  file_run (Complex w args b) d semi h = no_depth _ (conj_left (nat_lt 0 0) (are_args args && is_body room 0 true b) h)
  file_run (Group w args body b) d semi h =
      let h2 = conj_right (room 0) (are_args args && (is_body room 1 false body && is_body room 0 true b)) h in
      let h3 = conj_right (are_args args) (is_body room 1 false body && is_body room 0 true b) h2 in
      let f : Frame = record { before = d; word = w; args = args } in
      let opened : step room (in_statement [] d modes.Behind w args) (Sign marks.BraceOpen) ≡ Some (at_begin (f ∷ []) End false) = rw (conj_left (room 0) (are_args args && (is_body room 1 false body && is_body room 0 true b)) h) refl in
      args_run [] d w args (Sign marks.BraceOpen ∷ (spelling body ++ (Sign marks.BraceClose ∷ spelling b))) (conj_left (are_args args) (is_body room 1 false body && is_body room 0 true b) h2)
      ∙ one (in_statement [] d modes.Behind w args) (at_begin (f ∷ []) End false) (Sign marks.BraceOpen) (spelling body ++ (Sign marks.BraceClose ∷ spelling b)) opened
      ∙ nested_run body (f ∷ []) End false (spelling b) refl (conj_left (is_body room 1 false body) (is_body room 0 true b) h3)
      ∙ file_run b (joined d (Group w args body End)) true (conj_right (is_body room 1 false body) (is_body room 0 true b) h3)
      ∙ ap (λ x. Some (at_begin [] x (semi_after true b))) (joined-assoc d (Group w args body End) b)

  -- ---- ends

  abbrev closings : List Frame → List Token
  closings [] = []
  closings (f ∷ fs) = Sign marks.BraceClose ∷ closings fs

  record Ends (z : State) (rest : List Token) : Type 0 where
    pub last_state : State
    pub taken : run z rest ≡ Some last_state
    pub accepted : accepts last_state ≡ true

  begin_ends : (fs : List Frame) (d : Body) (semi : Bool) → Ends (at_begin fs d semi) (closings fs)
  begin_ends [] d semi = record { last_state = at_begin [] d semi; taken = refl; accepted = refl }
  begin_ends (f ∷ fs) d semi = let e = begin_ends fs (joined f.before (Group f.word f.args d End)) true in record { last_state = e.last_state; taken = e.taken; accepted = e.accepted }

  ends_behind : (z u : State) (xs ys : List Token) → run z xs ≡ Some u → Ends u ys → Ends z (xs ++ ys)
  ends_behind z u xs ys e h = record { last_state = h.last_state; taken = behind_run z u xs ys e ∙ h.taken; accepted = h.accepted }

  behind_ends : (room 0 ≡ true) → (fs : List Frame) (d : Body) (w : List ℕ) (held : List Token) → (rest : List Token) × Ends (in_statement fs d modes.Behind w held) rest
  behind_ends r [] d w held =
      let f : Frame = record { before = d; word = w; args = held } in
      let opened : step room (in_statement [] d modes.Behind w held) (Sign marks.BraceOpen) ≡ Some (at_begin (f ∷ []) End false) = rw r refl in
      let e = begin_ends (f ∷ []) End false in
      (Sign marks.BraceOpen ∷ closings (f ∷ []), record { last_state = e.last_state; taken = one (in_statement [] d modes.Behind w held) (at_begin (f ∷ []) End false) (Sign marks.BraceOpen) (closings (f ∷ [])) opened ∙ e.taken; accepted = e.accepted })
  behind_ends r (f ∷ fs) d w held = let e = begin_ends (f ∷ fs) (joined d (Complex w held End)) true in (closings (f ∷ fs), record { last_state = e.last_state; taken = e.taken; accepted = e.accepted })

  items_ends : (fs : List Frame) (d : Body) (w : List ℕ) (held : List Token) → IsTrue (is_filled fs) → Ends (in_statement fs d modes.Items w held) (closings fs)
  items_ends [] d w held h = absurd (true≢false (sym h))
  items_ends (f ∷ fs) d w held h = let e = begin_ends fs (joined f.before (Group f.word f.args (joined d (grammar.Last w held)) End)) true in record { last_state = e.last_state; taken = e.taken; accepted = e.accepted }

  args_ends : (room 0 ≡ true) → (fs : List Frame) (d : Body) (l : last.Last) (w : List ℕ) (held : List Token) → (rest : List Token) × Ends (in_statement fs d (modes.Args l) w held) rest
  args_ends r fs d lasts.Nothing w held = let e = behind_ends r fs d w held in (Sign marks.ParenClose ∷ e.0, ends_behind (in_statement fs d (modes.Args lasts.Nothing) w held) (in_statement fs d modes.Behind w held) (Sign marks.ParenClose ∷ []) e.0 refl e.1)
  args_ends r fs d lasts.Name w held = let e = behind_ends r fs d w held in (Sign marks.ParenClose ∷ e.0, ends_behind (in_statement fs d (modes.Args lasts.Name) w held) (in_statement fs d modes.Behind w held) (Sign marks.ParenClose ∷ []) e.0 refl e.1)
  args_ends r fs d lasts.Comma w held = let e = behind_ends r fs d w (held ++ Name true [] ∷ []) in (Name true [] ∷ (Sign marks.ParenClose ∷ e.0), ends_behind (in_statement fs d (modes.Args lasts.Comma) w held) (in_statement fs d modes.Behind w (held ++ Name true [] ∷ [])) (Name true [] ∷ (Sign marks.ParenClose ∷ [])) e.0 refl e.1)

  ends_by : (room 0 ≡ true) → (fs : List Frame) (d : Body) (mode : Mode) (w : List ℕ) (held : List Token) → GoodStatement fs d mode held → (rest : List Token) × Ends (in_statement fs d mode w held) rest
  ends_by r fs d (modes.Begin semi) w held g = (closings fs, by fs)
    where
      by : (gs : List Frame) → Ends (in_statement gs d (modes.Begin semi) w held) (closings gs)
      by [] = record { last_state = in_statement [] d (modes.Begin semi) w held; taken = refl; accepted = refl }
      by (f ∷ gs) = let e = begin_ends gs (joined f.before (Group f.word f.args d End)) true in record { last_state = e.last_state; taken = e.taken; accepted = e.accepted }
  ends_by r fs d modes.Named w held g = let e = args_ends r fs d lasts.Nothing w [] in (Sign marks.ParenOpen ∷ e.0, ends_behind (in_statement fs d modes.Named w held) (in_statement fs d (modes.Args lasts.Nothing) w []) (Sign marks.ParenOpen ∷ []) e.0 refl e.1)
  ends_by r fs d (modes.Args l) w held g = args_ends r fs d l w held
  ends_by r fs d modes.Behind w held g = behind_ends r fs d w held
  ends_by r fs d modes.Items w held g = (closings fs, items_ends fs d w held g.0)

  -- ---- the language

  pub again : (text : List Token) (h : Spells room text) → run start text ≡ Some (at_begin [] h.body (semi_after false h.body))
  again text h = ap (run start) h.spelled ∙ file_run h.body End false h.good

  pub recognizes : Recognizes (step room) accepts start (Spells room)
  recognizes = record {
    found = λ text z taken accepted. spells room text z taken accepted;
    again = λ text h. (at_begin [] h.body (semi_after false h.body), again text h, refl);
  }

  pub finishes : (room 0 ≡ true) → Finishes (step room) accepts start (Good room)
  finishes r = record {
    begins = start_good room;
    keeps = λ z t u g e. (from_some (HasRead room (state_text z ++ t ∷ [])) (step room z t) u (step_good room z t g) e).0;
    ends = λ z g. let e = ends_by r z.frames z.done z.mode z.word z.held g.3 in (e.0, e.1.last_state, e.1.taken, e.1.accepted);
  }

  -- where the machine stops, the text leaves the form
  pub leaves_at : (room 0 ≡ true) → (text : List Token) (place : ℕ) (z : State) → place ≤ length text → run start (take place text) ≡ Some z → Stops (step room) accepts z (drop place text) → Leaves Token (Spells room) text place
  leaves_at r text place z within taken stop = leaves (step room) accepts start (Spells room) (Good room) recognizes (finishes r) text place z within taken stop

  -- a front that is read can go on to a text of the form
  pub goes_on : (room 0 ≡ true) → (text : List Token) (z : State) → run start text ≡ Some z → (rest : List Token) × Spells room (text ++ rest)
  goes_on r text z e =
      let g = reads room text z e in
      let f = (finishes r).ends z g.0 in
      (f.0, spells room (text ++ f.0) f.1 (behind_run start z text f.0 e ∙ f.2) f.3)

  -- each text is spelled by one list of statements
  pub one_body : (text : List Token) → (a b : Spells room text) → a.body ≡ b.body
  one_body text a b =
      let same : Some (at_begin [] a.body (semi_after false a.body)) ≡ Some (at_begin [] b.body (semi_after false b.body)) = sym (again text a) ∙ again text b in
      let states : at_begin [] a.body (semi_after false a.body) ≡ at_begin [] b.body (semi_after false b.body) = cc in
      ap (λ (z : State). z.done) states
