-- What the machine has read is what its frames and its statements spell.
use Rattle.std.proofs.Common.{◌≡◌, ℕ, suc, Bool, true, false, List, [], ◌∷◌, ◌++◌, ◌&&◌, length, Option, Some, None, refl, sym, ap, ◌∙◌, subst, arith, append_assoc}
use Rattle.std.specs.Prelude.{if◌then◌else◌, nat_lt, IsTrue, IfSome, option_and_then}
use Rattle.std.specs.List.{list_all}
use Rattle.std.proofs.lemmas.List.{append-nil}
use Rattle.std.proofs.lemmas.Bool.{true≢false, lt-ltb}
use Rattle.std.proofs.lemmas.List.Folds.{list_all-append}
use Rattle.lp_spec_place.specs.Machines.{steps}
use Rattle.lp_liberty.specs.declared.mark.Mark.{Mark}
use Rattle.lp_liberty.specs.declared.mark.Mark.TheVariants as marks
use Rattle.lp_liberty.specs.declared.mark.Last as last
use Rattle.lp_liberty.specs.declared.mark.Last.TheVariants as lasts
use Rattle.lp_liberty.specs.declared.mark.Mode.{Mode}
use Rattle.lp_liberty.specs.declared.mark.Mode.TheVariants as modes
use Rattle.lp_liberty.specs.Grammar as grammar
use Rattle.lp_liberty.specs.Grammar.{Token, Name, Sign, Body, End, Semi, Simple, Complex, Group, spelling, is_item, is_name, are_args, are_more_args, ends_simple, is_body, Spells}
use Rattle.lp_liberty.specs.Machine.{is_filled}
use Rattle.lp_liberty.proofs.Joined.{is_open, semi_after, both, conj_left, conj_right, joined-end, spelling-joined, open-joined, semi-joined, body-joined}
use Rattle.lp_liberty.proofs.Zipper.{joined, Frame, State, at_begin, in_statement, shut, begin_mark, begin, named, args, behind_complex, items, behind, step_by, step, start, accepts_by, accepts}

abbrev pub frames_text : List Frame → List Token
frames_text [] = []
frames_text (f ∷ fs) = frames_text fs ++ (spelling f.before ++ (Name false f.word ∷ (Sign marks.ParenOpen ∷ (f.args ++ (Sign marks.ParenClose ∷ (Sign marks.BraceOpen ∷ []))))))

abbrev pub statement_text : Mode → List ℕ → List Token → List Token
statement_text (modes.Begin semi) w held = []
statement_text modes.Named w held = Name false w ∷ []
statement_text (modes.Args l) w held = Name false w ∷ (Sign marks.ParenOpen ∷ held)
statement_text modes.Behind w held = Name false w ∷ (Sign marks.ParenOpen ∷ (held ++ Sign marks.ParenClose ∷ []))
statement_text modes.Items w held = Name false w ∷ (Sign marks.Colon ∷ held)

abbrev pub state_text : State → List Token
state_text z = frames_text z.frames ++ (spelling z.done ++ statement_text z.mode z.word z.held)

-- arguments behind one of which another may follow
abbrev pub SomeArgs : List Token → Type 0
SomeArgs held = IsTrue (are_args held) × IsTrue (is_filled held)

abbrev pub ArgsSoFar : last.Last → List Token → Type 0
ArgsSoFar lasts.Nothing held = held ≡ []
ArgsSoFar lasts.Name held = SomeArgs held
ArgsSoFar lasts.Comma held = (front : List Token) × (held ≡ front ++ Sign marks.Comma ∷ []) × SomeArgs front

abbrev pub GoodStatement : List Frame → Body → Mode → List Token → Type 0
GoodStatement fs d (modes.Begin semi) held = semi ≡ semi_after false d
GoodStatement fs d modes.Named held = Unit {0}
GoodStatement fs d (modes.Args l) held = ArgsSoFar l held
GoodStatement fs d modes.Behind held = IsTrue (are_args held)
GoodStatement fs d modes.Items held = IsTrue (is_filled fs) × IsTrue (list_all is_item held)

-- ---- arguments

pub more_name : (held : List Token) (q : Bool) (n : List ℕ) → IsTrue (are_more_args held) → IsTrue (are_more_args (held ++ Name q n ∷ []))
more_name [] q n h = refl
more_name (Name p w ∷ held) q n h = more_name held q n h
more_name (Sign marks.Comma ∷ []) q n h = absurd (true≢false (sym h))
more_name (Sign marks.Comma ∷ (t ∷ held)) q n h = both (is_name t) (are_more_args (held ++ Name q n ∷ [])) (conj_left (is_name t) (are_more_args held) h) (more_name held q n (conj_right (is_name t) (are_more_args held) h))
more_name (Sign marks.ParenOpen ∷ held) q n h = absurd (true≢false (sym h))
more_name (Sign marks.ParenClose ∷ held) q n h = absurd (true≢false (sym h))
more_name (Sign marks.BraceOpen ∷ held) q n h = absurd (true≢false (sym h))
more_name (Sign marks.BraceClose ∷ held) q n h = absurd (true≢false (sym h))
more_name (Sign marks.Colon ∷ held) q n h = absurd (true≢false (sym h))
more_name (Sign marks.Semicolon ∷ held) q n h = absurd (true≢false (sym h))
more_name (Sign marks.LineEnd ∷ held) q n h = absurd (true≢false (sym h))
more_name (Sign marks.Broken ∷ held) q n h = absurd (true≢false (sym h))

pub more_comma : (held : List Token) (q : Bool) (n : List ℕ) → IsTrue (are_more_args held) → IsTrue (are_more_args (held ++ (Sign marks.Comma ∷ (Name q n ∷ []))))
more_comma [] q n h = refl
more_comma (Name p w ∷ held) q n h = more_comma held q n h
more_comma (Sign marks.Comma ∷ []) q n h = absurd (true≢false (sym h))
more_comma (Sign marks.Comma ∷ (t ∷ held)) q n h = both (is_name t) (are_more_args (held ++ (Sign marks.Comma ∷ (Name q n ∷ [])))) (conj_left (is_name t) (are_more_args held) h) (more_comma held q n (conj_right (is_name t) (are_more_args held) h))
more_comma (Sign marks.ParenOpen ∷ held) q n h = absurd (true≢false (sym h))
more_comma (Sign marks.ParenClose ∷ held) q n h = absurd (true≢false (sym h))
more_comma (Sign marks.BraceOpen ∷ held) q n h = absurd (true≢false (sym h))
more_comma (Sign marks.BraceClose ∷ held) q n h = absurd (true≢false (sym h))
more_comma (Sign marks.Colon ∷ held) q n h = absurd (true≢false (sym h))
more_comma (Sign marks.Semicolon ∷ held) q n h = absurd (true≢false (sym h))
more_comma (Sign marks.LineEnd ∷ held) q n h = absurd (true≢false (sym h))
more_comma (Sign marks.Broken ∷ held) q n h = absurd (true≢false (sym h))

filled_name : (held : List Token) (t : Token) → IsTrue (is_filled (held ++ t ∷ []))
filled_name [] t = refl
filled_name (x ∷ held) t = refl

arg_more : (l : last.Last) (held : List Token) (q : Bool) (n : List ℕ) → ArgsSoFar l held → SomeArgs (held ++ Name q n ∷ [])
arg_more lasts.Nothing held q n h = subst (λ (xs : List Token). SomeArgs (xs ++ Name q n ∷ [])) (sym h) (refl, refl)
arg_more lasts.Name [] q n h = (refl, refl)
arg_more lasts.Name (t ∷ held) q n h = (both (is_name t) (are_more_args (held ++ Name q n ∷ [])) (conj_left (is_name t) (are_more_args held) h.0) (more_name held q n (conj_right (is_name t) (are_more_args held) h.0)), refl)
arg_more lasts.Comma held q n h = subst (λ (xs : List Token). SomeArgs (xs ++ Name q n ∷ [])) (sym h.1) (by h.0 h.2)
  where
    by : (front : List Token) → SomeArgs front → SomeArgs ((front ++ Sign marks.Comma ∷ []) ++ Name q n ∷ [])
    by [] s = absurd (true≢false (sym s.1))
    by (t ∷ front) s =
        let all = both (is_name t) (are_more_args (front ++ (Sign marks.Comma ∷ (Name q n ∷ [])))) (conj_left (is_name t) (are_more_args front) s.0) (more_comma front q n (conj_right (is_name t) (are_more_args front) s.0)) in
        (ap are_args (append_assoc (t ∷ front) (Sign marks.Comma ∷ []) (Name q n ∷ [])) ∙ all, refl)

item_more : (held : List Token) (t : Token) → IsTrue (list_all is_item held) → IsTrue (is_item t) → IsTrue (list_all is_item (held ++ t ∷ []))
item_more held t h i = rw (list_all-append is_item held (t ∷ []), h, i) refl

depth_filled : (fs : List Frame) → IsTrue (is_filled fs) → IsTrue (nat_lt 0 (length fs))
depth_filled [] h = absurd (true≢false (sym h))
depth_filled (f ∷ fs) h = lt-ltb 0 (suc (length fs)) (omega arith)

pub some_if : {A : Type 0} (P : A → Type 0) (c : Bool) (x y : Option A) → (c ≡ true → IfSome x P) → (c ≡ false → IfSome y P) → IfSome (if c then x else y) P
some_if P true x y t e = t refl
some_if P false x y t e = e refl

pub from_some : {A : Type 0} (P : A → Type 0) (o : Option A) (x : A) → IfSome o P → o ≡ Some x → P x
from_some P (Some y) x p e = let same : y ≡ x = cc in subst P same p
from_some P None x p e = absurd cc

module _ (room : ℕ → Bool) where
  abbrev pub GoodFrames : List Frame → Type 0
  GoodFrames [] = Unit {0}
  GoodFrames (f ∷ fs) = IsTrue (is_open f.before) × IsTrue (is_body room (length fs) false f.before) × IsTrue (are_args f.args) × IsTrue (room (length fs)) × GoodFrames fs

  abbrev pub Good : State → Type 0
  Good z = GoodFrames z.frames × IsTrue (is_open z.done) × IsTrue (is_body room (length z.frames) false z.done) × GoodStatement z.frames z.done z.mode z.held

  -- a good state that has read this
  abbrev pub HasRead : List Token → State → Type 0
  HasRead text z = Good z × (state_text z ≡ text)

  -- one statement more, which is all of the body b but for its end
  statement_good : (fs : List Frame) (d b : Body) (semi : Bool) (text : List Token) → GoodFrames fs → IsTrue (is_open d) → IsTrue (is_body room (length fs) false d)
      → IsTrue (is_body room (length fs) (semi_after false d) b) → IsTrue (is_open b) → semi ≡ semi_after (semi_after false d) b → frames_text fs ++ (spelling d ++ spelling b) ≡ text → HasRead text (at_begin fs (joined d b) semi)
  statement_good fs d b semi text good plain body fine opens last spelled = (
    (good, open-joined d b plain ∙ opens, body-joined room (length fs) false d b plain body fine, last ∙ sym (semi-joined false d b plain)),
    rw (append-nil (spelling (joined d b)), spelling-joined d b plain) spelled,
  )

  shut_good : (fs : List Frame) (d b : Body) (text : List Token) → GoodFrames fs → IsTrue (is_open d) → IsTrue (is_body room (length fs) false d) → IsTrue (is_body room (length fs) (semi_after false d) b)
      → frames_text fs ++ (spelling d ++ (spelling b ++ Sign marks.BraceClose ∷ [])) ≡ text → IfSome (shut fs (joined d b)) (HasRead text)
  shut_good [] d b text good plain body fine spelled = tt
  shut_good (f ∷ fs) d b text good plain body fine spelled =
      let inner = body-joined room (suc (length fs)) false d b plain body fine in
      let one : IsTrue (is_body room (length fs) (semi_after false f.before) (Group f.word f.args (joined d b) End)) =
      both (room (length fs)) (are_args f.args && (is_body room (suc (length fs)) false (joined d b) && true)) good.3
      (both (are_args f.args) (is_body room (suc (length fs)) false (joined d b) && true) good.2
      (both (is_body room (suc (length fs)) false (joined d b)) true inner refl)) in
      let first : frames_text fs ++ (spelling f.before ++ (Name false f.word ∷ (Sign marks.ParenOpen ∷ (f.args ++ (Sign marks.ParenClose ∷ (Sign marks.BraceOpen ∷ (spelling (joined d b) ++ Sign marks.BraceClose ∷ [])))))))
      ≡ frames_text (f ∷ fs) ++ (spelling d ++ (spelling b ++ Sign marks.BraceClose ∷ [])) = rw (spelling-joined d b plain) (simp append_assoc) in
      statement_good fs f.before (Group f.word f.args (joined d b) End) true text good.4 good.0 good.1 one refl refl (first ∙ spelled)

  begin_mark_good : (fs : List Frame) (d b : Body) (semi : Bool) (k : Mark) (text : List Token) → GoodFrames fs → IsTrue (is_open d) → IsTrue (is_body room (length fs) false d) → IsTrue (is_body room (length fs) (semi_after false d) b) → IsTrue (is_open b) → semi ≡ semi_after (semi_after false d) b
      → frames_text fs ++ (spelling d ++ (spelling b ++ Sign k ∷ [])) ≡ text → IfSome (begin_mark fs (joined d b) semi k) (HasRead text)
  begin_mark_good fs d b semi marks.BraceClose text good plain body fine opens last spelled = shut_good fs d b text good plain body fine spelled
  begin_mark_good fs d b semi marks.Semicolon text good plain body fine opens last spelled =
      some_if (HasRead text) semi (Some (at_begin fs (joined (joined d b) (Semi End)) false)) None (λ e.
      statement_good fs (joined d b) (Semi End) false text good (open-joined d b plain ∙ opens) (body-joined room (length fs) false d b plain body fine)
      (both (semi_after false (joined d b)) true (semi-joined false d b plain ∙ sym last ∙ e) refl) refl refl (rw (spelling-joined d b plain) (ap (λ ts. frames_text fs ++ ts) (append_assoc (spelling d) (spelling b) (Sign marks.Semicolon ∷ [])) ∙ spelled)))
      (λ _. tt)
  begin_mark_good fs d b semi marks.ParenOpen text good plain body fine opens last spelled = tt
  begin_mark_good fs d b semi marks.ParenClose text good plain body fine opens last spelled = tt
  begin_mark_good fs d b semi marks.BraceOpen text good plain body fine opens last spelled = tt
  begin_mark_good fs d b semi marks.Colon text good plain body fine opens last spelled = tt
  begin_mark_good fs d b semi marks.Comma text good plain body fine opens last spelled = tt
  begin_mark_good fs d b semi marks.LineEnd text good plain body fine opens last spelled = tt
  begin_mark_good fs d b semi marks.Broken text good plain body fine opens last spelled = tt

  begin_good : (fs : List Frame) (d b : Body) (semi : Bool) (t : Token) (text : List Token) → GoodFrames fs → IsTrue (is_open d) → IsTrue (is_body room (length fs) false d) → IsTrue (is_body room (length fs) (semi_after false d) b) → IsTrue (is_open b) → semi ≡ semi_after (semi_after false d) b
      → frames_text fs ++ (spelling d ++ (spelling b ++ t ∷ [])) ≡ text → IfSome (begin fs (joined d b) semi t) (HasRead text)
  begin_good fs d b semi (Sign k) text good plain body fine opens last spelled = begin_mark_good fs d b semi k text good plain body fine opens last spelled
  begin_good fs d b semi (Name true w) text good plain body fine opens last spelled = tt
  begin_good fs d b semi (Name false w) text good plain body fine opens last spelled =
      ((good, open-joined d b plain ∙ opens, body-joined room (length fs) false d b plain body fine, tt), rw (spelling-joined d b plain) (ap (λ ts. frames_text fs ++ ts) (append_assoc (spelling d) (spelling b) (Name false w ∷ [])) ∙ spelled))

  named_good : (fs : List Frame) (d : Body) (w : List ℕ) (t : Token) → GoodFrames fs → IsTrue (is_open d) → IsTrue (is_body room (length fs) false d) → IfSome (named fs d w t) (HasRead ((frames_text fs ++ (spelling d ++ (Name false w ∷ []))) ++ t ∷ []))
  named_good fs d w (Name q n) good plain body = tt
  named_good fs d w (Sign marks.ParenOpen) good plain body = ((good, plain, body, refl), simp append_assoc)
  named_good fs d w (Sign marks.Colon) good plain body =
      some_if (HasRead ((frames_text fs ++ (spelling d ++ (Name false w ∷ []))) ++ Sign marks.Colon ∷ [])) (is_filled fs) (Some (in_statement fs d modes.Items w [])) None (λ e. ((good, plain, body, (e, refl)), simp append_assoc)) (λ _. tt)
  named_good fs d w (Sign marks.ParenClose) good plain body = tt
  named_good fs d w (Sign marks.BraceOpen) good plain body = tt
  named_good fs d w (Sign marks.BraceClose) good plain body = tt
  named_good fs d w (Sign marks.Semicolon) good plain body = tt
  named_good fs d w (Sign marks.Comma) good plain body = tt
  named_good fs d w (Sign marks.LineEnd) good plain body = tt
  named_good fs d w (Sign marks.Broken) good plain body = tt

  -- one token more in a statement
  grown_text : (fs : List Frame) (d : Body) (front held : List Token) (t : Token) → frames_text fs ++ (spelling d ++ (front ++ (held ++ t ∷ []))) ≡ (frames_text fs ++ (spelling d ++ (front ++ held))) ++ t ∷ []
  grown_text fs d front held t = simp append_assoc

  args_good : (fs : List Frame) (d : Body) (l : last.Last) (w : List ℕ) (held : List Token) (t : Token) → GoodFrames fs → IsTrue (is_open d) → IsTrue (is_body room (length fs) false d) → ArgsSoFar l held
      → IfSome (args fs d l w held t) (HasRead ((frames_text fs ++ (spelling d ++ statement_text (modes.Args l) w held)) ++ t ∷ []))
  args_good fs d l w held (Name q n) good plain body h = ((good, plain, body, arg_more l held q n h), grown_text fs d (Name false w ∷ (Sign marks.ParenOpen ∷ [])) held (Name q n))
  args_good fs d lasts.Name w held (Sign marks.Comma) good plain body h = ((good, plain, body, (held, refl, h)), grown_text fs d (Name false w ∷ (Sign marks.ParenOpen ∷ [])) held (Sign marks.Comma))
  args_good fs d lasts.Name w held (Sign marks.ParenClose) good plain body h = ((good, plain, body, h.0), grown_text fs d (Name false w ∷ (Sign marks.ParenOpen ∷ [])) held (Sign marks.ParenClose))
  args_good fs d lasts.Nothing w held (Sign marks.ParenClose) good plain body h = ((good, plain, body, ap are_args h), grown_text fs d (Name false w ∷ (Sign marks.ParenOpen ∷ [])) held (Sign marks.ParenClose))
  args_good fs d lasts.Name w held (Sign marks.ParenOpen) good plain body h = tt
  args_good fs d lasts.Name w held (Sign marks.BraceOpen) good plain body h = tt
  args_good fs d lasts.Name w held (Sign marks.BraceClose) good plain body h = tt
  args_good fs d lasts.Name w held (Sign marks.Colon) good plain body h = tt
  args_good fs d lasts.Name w held (Sign marks.Semicolon) good plain body h = tt
  args_good fs d lasts.Name w held (Sign marks.LineEnd) good plain body h = tt
  args_good fs d lasts.Name w held (Sign marks.Broken) good plain body h = tt
  args_good fs d lasts.Nothing w held (Sign marks.ParenOpen) good plain body h = tt
  args_good fs d lasts.Nothing w held (Sign marks.BraceOpen) good plain body h = tt
  args_good fs d lasts.Nothing w held (Sign marks.BraceClose) good plain body h = tt
  args_good fs d lasts.Nothing w held (Sign marks.Colon) good plain body h = tt
  args_good fs d lasts.Nothing w held (Sign marks.Semicolon) good plain body h = tt
  args_good fs d lasts.Nothing w held (Sign marks.Comma) good plain body h = tt
  args_good fs d lasts.Nothing w held (Sign marks.LineEnd) good plain body h = tt
  args_good fs d lasts.Nothing w held (Sign marks.Broken) good plain body h = tt
  args_good fs d lasts.Comma w held (Sign marks.ParenOpen) good plain body h = tt
  args_good fs d lasts.Comma w held (Sign marks.ParenClose) good plain body h = tt
  args_good fs d lasts.Comma w held (Sign marks.BraceOpen) good plain body h = tt
  args_good fs d lasts.Comma w held (Sign marks.BraceClose) good plain body h = tt
  args_good fs d lasts.Comma w held (Sign marks.Colon) good plain body h = tt
  args_good fs d lasts.Comma w held (Sign marks.Semicolon) good plain body h = tt
  args_good fs d lasts.Comma w held (Sign marks.Comma) good plain body h = tt
  args_good fs d lasts.Comma w held (Sign marks.LineEnd) good plain body h = tt
  args_good fs d lasts.Comma w held (Sign marks.Broken) good plain body h = tt

  behind_complex_good : (fs : List Frame) (d : Body) (w : List ℕ) (held : List Token) (t : Token) → GoodFrames fs → IsTrue (is_open d) → IsTrue (is_body room (length fs) false d) → IsTrue (are_args held)
      → IfSome (behind_complex fs d w held t) (HasRead ((frames_text fs ++ (spelling d ++ statement_text modes.Behind w held)) ++ t ∷ []))
  behind_complex_good fs d w held t good plain body h =
      some_if (HasRead ((frames_text fs ++ (spelling d ++ statement_text modes.Behind w held)) ++ t ∷ [])) (is_filled fs) (begin fs (joined d (Complex w held End)) true t) None
      (λ e. begin_good fs d (Complex w held End) true t ((frames_text fs ++ (spelling d ++ statement_text modes.Behind w held)) ++ t ∷ []) good plain body
      (both (nat_lt 0 (length fs)) (are_args held && true) (depth_filled fs e) (both (are_args held) true h refl)) refl refl (simp append_assoc))
      (λ _. tt)

  behind_good : (fs : List Frame) (d : Body) (w : List ℕ) (held : List Token) (t : Token) → GoodFrames fs → IsTrue (is_open d) → IsTrue (is_body room (length fs) false d) → IsTrue (are_args held)
      → IfSome (behind room fs d w held t) (HasRead ((frames_text fs ++ (spelling d ++ statement_text modes.Behind w held)) ++ t ∷ []))
  behind_good fs d w held (Sign marks.BraceOpen) good plain body h =
      some_if (HasRead ((frames_text fs ++ (spelling d ++ statement_text modes.Behind w held)) ++ Sign marks.BraceOpen ∷ [])) (room (length fs)) (Some (at_begin (record { before = d; word = w; args = held } ∷ fs) End false)) None
      (λ e. (((plain, body, h, e, good), refl, refl, refl), simp append_assoc)) (λ _. tt)
  behind_good fs d w held (Sign marks.ParenOpen) good plain body h = behind_complex_good fs d w held (Sign marks.ParenOpen) good plain body h
  behind_good fs d w held (Sign marks.ParenClose) good plain body h = behind_complex_good fs d w held (Sign marks.ParenClose) good plain body h
  behind_good fs d w held (Sign marks.BraceClose) good plain body h = behind_complex_good fs d w held (Sign marks.BraceClose) good plain body h
  behind_good fs d w held (Sign marks.Colon) good plain body h = behind_complex_good fs d w held (Sign marks.Colon) good plain body h
  behind_good fs d w held (Sign marks.Semicolon) good plain body h = behind_complex_good fs d w held (Sign marks.Semicolon) good plain body h
  behind_good fs d w held (Sign marks.Comma) good plain body h = behind_complex_good fs d w held (Sign marks.Comma) good plain body h
  behind_good fs d w held (Sign marks.LineEnd) good plain body h = behind_complex_good fs d w held (Sign marks.LineEnd) good plain body h
  behind_good fs d w held (Sign marks.Broken) good plain body h = behind_complex_good fs d w held (Sign marks.Broken) good plain body h
  behind_good fs d w held (Name q n) good plain body h = behind_complex_good fs d w held (Name q n) good plain body h

  items_good : (fs : List Frame) (d : Body) (w : List ℕ) (held : List Token) (t : Token) → GoodFrames fs → IsTrue (is_open d) → IsTrue (is_body room (length fs) false d) → IsTrue (is_filled fs) → IsTrue (list_all is_item held)
      → IfSome (items fs d w held t) (HasRead ((frames_text fs ++ (spelling d ++ statement_text modes.Items w held)) ++ t ∷ []))
  items_good fs d w held (Name q n) good plain body e h = ((good, plain, body, (e, item_more held (Name q n) h refl)), grown_text fs d (Name false w ∷ (Sign marks.Colon ∷ [])) held (Name q n))
  items_good fs d w held (Sign marks.Comma) good plain body e h = ((good, plain, body, (e, item_more held (Sign marks.Comma) h refl)), grown_text fs d (Name false w ∷ (Sign marks.Colon ∷ [])) held (Sign marks.Comma))
  items_good fs d w held (Sign marks.ParenOpen) good plain body e h = ((good, plain, body, (e, item_more held (Sign marks.ParenOpen) h refl)), grown_text fs d (Name false w ∷ (Sign marks.Colon ∷ [])) held (Sign marks.ParenOpen))
  items_good fs d w held (Sign marks.ParenClose) good plain body e h = ((good, plain, body, (e, item_more held (Sign marks.ParenClose) h refl)), grown_text fs d (Name false w ∷ (Sign marks.Colon ∷ [])) held (Sign marks.ParenClose))
  items_good fs d w held (Sign marks.Semicolon) good plain body e h =
      statement_good fs d (Simple w held marks.Semicolon End) false ((frames_text fs ++ (spelling d ++ statement_text modes.Items w held)) ++ Sign marks.Semicolon ∷ []) good plain body
      (both (nat_lt 0 (length fs)) (list_all is_item held && true) (depth_filled fs e) (both (list_all is_item held) true h refl)) refl refl (simp append_assoc)
  items_good fs d w held (Sign marks.LineEnd) good plain body e h =
      statement_good fs d (Simple w held marks.LineEnd End) false ((frames_text fs ++ (spelling d ++ statement_text modes.Items w held)) ++ Sign marks.LineEnd ∷ []) good plain body
      (both (nat_lt 0 (length fs)) (list_all is_item held && true) (depth_filled fs e) (both (list_all is_item held) true h refl)) refl refl (simp append_assoc)
  items_good fs d w held (Sign marks.BraceClose) good plain body e h =
      shut_good fs d (grammar.Last w held) ((frames_text fs ++ (spelling d ++ statement_text modes.Items w held)) ++ Sign marks.BraceClose ∷ []) good plain body
      (both (nat_lt 0 (length fs)) (list_all is_item held) (depth_filled fs e) h) (simp append_assoc)
  items_good fs d w held (Sign marks.BraceOpen) good plain body e h = tt
  items_good fs d w held (Sign marks.Colon) good plain body e h = tt
  items_good fs d w held (Sign marks.Broken) good plain body e h = tt

  step_good_by : (fs : List Frame) (d : Body) (mode : Mode) (w : List ℕ) (held : List Token) (t : Token) → GoodFrames fs → IsTrue (is_open d) → IsTrue (is_body room (length fs) false d) → GoodStatement fs d mode held
      → IfSome (step_by room fs d mode w held t) (HasRead ((frames_text fs ++ (spelling d ++ statement_text mode w held)) ++ t ∷ []))
  step_good_by fs d (modes.Begin semi) w held t good plain body h =
      let same : IfSome (begin fs (joined d End) semi t) (HasRead ((frames_text fs ++ (spelling d ++ [])) ++ t ∷ [])) =
      begin_good fs d End semi t ((frames_text fs ++ (spelling d ++ [])) ++ t ∷ []) good plain body refl refl h (simp (append_assoc, append-nil)) in
      subst (λ (b : Body). IfSome (begin fs b semi t) (HasRead ((frames_text fs ++ (spelling d ++ [])) ++ t ∷ []))) (joined-end d) same
  step_good_by fs d modes.Named w held t good plain body h = named_good fs d w t good plain body
  step_good_by fs d (modes.Args l) w held t good plain body h = args_good fs d l w held t good plain body h
  step_good_by fs d modes.Behind w held t good plain body h = behind_good fs d w held t good plain body h
  step_good_by fs d modes.Items w held t good plain body h = items_good fs d w held t good plain body h.0 h.1

  pub step_good : (z : State) (t : Token) → Good z → IfSome (step room z t) (HasRead (state_text z ++ t ∷ []))
  step_good z t g = step_good_by z.frames z.done z.mode z.word z.held t g.0 g.1 g.2 g.3

  pub start_good : Good start
  start_good = (tt, refl, refl, refl)

  -- what was read before, and what is read now
  read_more : (front : List Token) (z u : State) (text : List Token) → HasRead front z → steps (step room) z text ≡ Some u → HasRead (front ++ text) u
  read_more front z u [] h e = let same : z ≡ u = cc in subst (λ (xs : List Token). HasRead xs u) (sym (append-nil front)) (subst (HasRead front) same h)
  read_more front z u (t ∷ text) h e = by (step room z t) refl (step_good z t h.0) (λ v moved rest. read_more (front ++ t ∷ []) v u text moved rest)
    where
      by : (o : Option State) → step room z t ≡ o → IfSome o (HasRead (state_text z ++ t ∷ [])) → ((v : State) → HasRead (front ++ t ∷ []) v → steps (step room) v text ≡ Some u → HasRead ((front ++ t ∷ []) ++ text) u) → HasRead (front ++ t ∷ text) u
      by None stop g more = let gone : option_and_then (λ v. steps (step room) v text) None ≡ Some u = ap (λ o. option_and_then (λ v. steps (step room) v text) o) (sym stop) ∙ e in absurd cc
      by (Some v) next g more =
          let rest : steps (step room) v text ≡ Some u = ap (λ o. option_and_then (λ w. steps (step room) w text) o) (sym next) ∙ e in
          let moved : HasRead (front ++ t ∷ []) v = subst (λ (xs : List Token). HasRead (xs ++ t ∷ []) v) h.1 g in
          subst (λ (xs : List Token). HasRead xs u) (append_assoc front (t ∷ []) text) (more v moved rest)

  pub reads : (text : List Token) (u : State) → steps (step room) start text ≡ Some u → HasRead text u
  reads text u e = read_more [] start u text (start_good, refl) e

  -- an accepted text is of the form, with the statements of the state
  pub accepted_good : (mode : Mode) (fs : List Frame) → accepts_by mode fs ≡ true → (fs ≡ []) × ((semi : Bool) × (mode ≡ modes.Begin semi))
  accepted_good (modes.Begin semi) [] e = (refl, (semi, refl))
  accepted_good (modes.Begin semi) (f ∷ fs) e = absurd (true≢false (sym e))
  accepted_good modes.Named fs e = absurd (true≢false (sym e))
  accepted_good (modes.Args l) fs e = absurd (true≢false (sym e))
  accepted_good modes.Behind fs e = absurd (true≢false (sym e))
  accepted_good modes.Items fs e = absurd (true≢false (sym e))

  abbrev pub spells : (text : List Token) (z : State) → steps (step room) start text ≡ Some z → accepts z ≡ true → Spells room text
  spells text z e a =
      let h = reads text z e in
      let top = accepted_good z.mode z.frames a in
      record {
        body = z.done;
        good = subst (λ (fs : List Frame). IsTrue (is_body room (length fs) false z.done)) top.0 h.0.2;
        spelled = sym h.1 ∙ ap (λ (fs : List Frame). frames_text fs ++ (spelling z.done ++ statement_text z.mode z.word z.held)) top.0 ∙ ap (λ (m : Mode). spelling z.done ++ statement_text m z.word z.held) top.1.1 ∙ append-nil (spelling z.done);
      }
