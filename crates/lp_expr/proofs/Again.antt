-- What is an expression is read as its tree.
use Rattle.std.proofs.Common.{◌≡◌, ℕ, ◌⊎◌, inl, inr, ◌<◌, ◌≤◌, ◌==◌, Bool, true, false, not, cond, List, [], ◌∷◌, ◌++◌, Some, None, ◌&&◌, ◌||◌, refl, sym, ap, ◌∙◌, subst, arith, append_assoc}
use Rattle.std.specs.Prelude.{nat_le, nat_lt, IsTrue, option_and_then}
use Rattle.std.specs.List.{list_all}
use Rattle.std.proofs.lemmas.List.{append-nil}
use Rattle.std.proofs.lemmas.Bool.{true≢false, eqb-true, le-leb, leb-true, ltb-true}
use Rattle.lp_spec_place.specs.Machines.{steps, steps-append}
use Rattle.lp_expr.specs.declared.dialect.Dialect.{Dialect}
use Rattle.lp_expr.specs.declared.dialect.Dialect.TheVariants.{Liberty, Control}
use Rattle.lp_expr.specs.declared.dialect.Sign.{Sign}
use Rattle.lp_expr.specs.declared.dialect.Sign.TheVariants.{Caret, Star, Ampersand, Gap, Plus, Bar, TwoAmpersands, TwoBars}
use Rattle.lp_expr.specs.Grammar.{Tree, Plain, Quoted, Group, Prefixed, Postfixed, Joined, is_blank, is_inner, is_prefix, is_liberty, looseness, is_filled, sign_bytes, spelling, height, lead, are_blank, is_name, fits_gap, is_tree}
use Rattle.lp_expr.specs.Signs.{sign_at, is_half, longer}
use Rattle.lp_expr.proofs.Zipper.{Frame, Open, Pending, Left, State, Want, InName, InQuotes, Have, Half, closed, signed, behind_sign, begin, shut, on_longer, step, start, whole, result_of}
use Rattle.lp_expr.proofs.Found.{bound, both, conj_left, conj_right}

-- ---- bytes

differs : (p : ℕ → Bool) (k b : ℕ) → p k ≡ false → p b ≡ true → (k == b) ≡ false
differs p k b out is = by (k == b) refl
  where
    by : (c : Bool) → (k == b) ≡ c → (k == b) ≡ false
    by true e = absurd (true≢false (sym is ∙ ap p (sym (eqb-true k b e)) ∙ out))
    by false e = e

differs_back : (p : ℕ → Bool) (k b : ℕ) → p k ≡ false → p b ≡ true → (b == k) ≡ false
differs_back p k b out is = by (b == k) refl
  where
    by : (c : Bool) → (b == k) ≡ c → (b == k) ≡ false
    by true e = absurd (true≢false (sym is ∙ ap p (eqb-true b k e) ∙ out))
    by false e = e

inner_not_blank : (b : ℕ) → is_inner b ≡ true → is_blank b ≡ false
unfolding is_inner is_blank
inner_not_blank b e = rw (differs is_inner 32 b refl e, differs is_inner 9 b refl e, differs is_inner 10 b refl e, differs is_inner 12 b refl e, differs is_inner 13 b refl e) refl

blank_not_inner : (b : ℕ) → is_blank b ≡ true → is_inner b ≡ false
blank_not_inner b e = by (is_inner b) refl
  where
    by : (c : Bool) → is_inner b ≡ c → is_inner b ≡ false
    by true i = absurd (true≢false (sym e ∙ inner_not_blank b i))
    by false i = i

-- the first byte of an operand without blanks before it
abbrev pub Starts : Dialect → ℕ → Type 0
Starts d b = (is_inner b ≡ true) ⊎ ((is_prefix d b ≡ true) ⊎ ((b ≡ 40) ⊎ ((b ≡ 34) × (is_liberty d ≡ true))))

-- it is no blank, and nothing that follows an operand
pub record Leads (d : Dialect) (b : ℕ) : Type 0 where
  pub no_blank : is_blank b ≡ false
  pub no_postfix : (b == 39) ≡ false
  pub no_parenthesis : (b == 41) ≡ false
  pub no_sign : sign_at d b ≡ None
  pub no_ampersand : (b == 38) ≡ false
  pub no_bar : (b == 124) ≡ false

inner_leads : (d : Dialect) (b : ℕ) → is_inner b ≡ true → Leads d b
unfolding is_inner
inner_leads Liberty b e = record { no_blank = inner_not_blank b e; no_postfix = differs_back is_inner 39 b refl e; no_parenthesis = differs_back is_inner 41 b refl e; no_sign = rw (differs_back is_inner 94 b refl e, differs_back is_inner 42 b refl e, differs_back is_inner 38 b refl e, differs_back is_inner 43 b refl e, differs_back is_inner 124 b refl e) refl; no_ampersand = differs_back is_inner 38 b refl e; no_bar = differs_back is_inner 124 b refl e }
inner_leads Control b e = record { no_blank = inner_not_blank b e; no_postfix = differs_back is_inner 39 b refl e; no_parenthesis = differs_back is_inner 41 b refl e; no_sign = rw (differs_back is_inner 38 b refl e, differs_back is_inner 124 b refl e) refl; no_ampersand = differs_back is_inner 38 b refl e; no_bar = differs_back is_inner 124 b refl e }

mark_leads : (d : Dialect) → Leads d 33 × Leads d 126 × Leads d 40 × Leads d 34
unfolding is_blank
mark_leads Liberty = (record { no_blank = refl; no_postfix = refl; no_parenthesis = refl; no_sign = refl; no_ampersand = refl; no_bar = refl }, record { no_blank = refl; no_postfix = refl; no_parenthesis = refl; no_sign = refl; no_ampersand = refl; no_bar = refl }, record { no_blank = refl; no_postfix = refl; no_parenthesis = refl; no_sign = refl; no_ampersand = refl; no_bar = refl }, record { no_blank = refl; no_postfix = refl; no_parenthesis = refl; no_sign = refl; no_ampersand = refl; no_bar = refl })
mark_leads Control = (record { no_blank = refl; no_postfix = refl; no_parenthesis = refl; no_sign = refl; no_ampersand = refl; no_bar = refl }, record { no_blank = refl; no_postfix = refl; no_parenthesis = refl; no_sign = refl; no_ampersand = refl; no_bar = refl }, record { no_blank = refl; no_postfix = refl; no_parenthesis = refl; no_sign = refl; no_ampersand = refl; no_bar = refl }, record { no_blank = refl; no_postfix = refl; no_parenthesis = refl; no_sign = refl; no_ampersand = refl; no_bar = refl })

prefix_is : (d : Dialect) (b : ℕ) → is_prefix d b ≡ true → (b ≡ 33) ⊎ ((b ≡ 126) × (d ≡ Control))
prefix_is Liberty b e = inl (eqb-true b 33 e)
prefix_is Control b e = by (b == 33) refl
  where
    by : (c : Bool) → (b == 33) ≡ c → (b ≡ 33) ⊎ ((b ≡ 126) × (Control ≡ Control))
    by true h = inl (eqb-true b 33 h)
    by false h = inr (eqb-true b 126 (sym (ap (λ x. x || (b == 126)) h) ∙ e), refl)

leads : (d : Dialect) (b : ℕ) → Starts d b → Leads d b
leads d b s = elim s [
  | inl e ↦ inner_leads d b e
  | inr others ↦ elim others [
    | inl e ↦ elim (prefix_is d b e) [ inl is ↦ subst (Leads d) (sym is) (mark_leads d).0 | inr is ↦ subst (Leads d) (sym is.0) (mark_leads d).1 ]
    | inr marks ↦ elim marks [ inl is ↦ subst (Leads d) (sym is) (mark_leads d).2 | inr is ↦ subst (Leads d) (sym is.0) (mark_leads d).3 ]
  ]
]

pub no_longer : (d : Dialect) (s : Sign) (b : ℕ) → (b == 38) ≡ false → (b == 124) ≡ false → longer d s b ≡ None
no_longer Control Ampersand b e f = rw e refl
no_longer Control Bar b e f = rw f refl
no_longer Control Caret b e f = refl
no_longer Control Star b e f = refl
no_longer Control Gap b e f = refl
no_longer Control Plus b e f = refl
no_longer Control TwoAmpersands b e f = refl
no_longer Control TwoBars b e f = refl
no_longer Liberty Caret b e f = refl
no_longer Liberty _ b e f = refl

-- ---- the parts of a good tree

pub record JoinedParts (d : Dialect) (l : Tree) (gap : List ℕ) (s : Sign) (r : Tree) : Type 0 where
  pub listed : 2 ≤ looseness d s
  pub left_tree : IsTrue (is_tree d l)
  pub left_height : height d l ≤ looseness d s
  pub blank : IsTrue (are_blank gap)
  pub right_tree : IsTrue (is_tree d r)
  pub right_height : height d r < looseness d s
  pub fits : IsTrue (fits_gap s gap (lead r))

pub joined_parts : (d : Dialect) (l : Tree) (gap : List ℕ) (s : Sign) (r : Tree) → IsTrue (is_tree d (Joined l gap s r)) → JoinedParts d l gap s r
joined_parts d l gap s r h =
    let a1 = nat_le 2 (looseness d s) in
    let a2 = is_tree d l in
    let a3 = nat_le (height d l) (looseness d s) in
    let a4 = are_blank gap in
    let a5 = is_tree d r in
    let a6 = nat_lt (height d r) (looseness d s) in
    let a7 = fits_gap s gap (lead r) in
    let h2 = conj_right a1 (a2 && (a3 && (a4 && (a5 && (a6 && a7))))) h in
    let h3 = conj_right a2 (a3 && (a4 && (a5 && (a6 && a7)))) h2 in
    let h4 = conj_right a3 (a4 && (a5 && (a6 && a7))) h3 in
    let h5 = conj_right a4 (a5 && (a6 && a7)) h4 in
    let h6 = conj_right a5 (a6 && a7) h5 in
    record {
      listed = leb-true 2 (looseness d s) (conj_left a1 (a2 && (a3 && (a4 && (a5 && (a6 && a7))))) h);
      left_tree = conj_left a2 (a3 && (a4 && (a5 && (a6 && a7)))) h2;
      left_height = leb-true (height d l) (looseness d s) (conj_left a3 (a4 && (a5 && (a6 && a7))) h3);
      blank = conj_left a4 (a5 && (a6 && a7)) h4;
      right_tree = conj_left a5 (a6 && a7) h5;
      right_height = ltb-true (height d r) (looseness d s) (conj_left a6 a7 h6);
      fits = conj_right a6 a7 h6;
    }

-- ---- the first byte of a tree

-- a blank where blanks come first, else the first byte of an operand
abbrev pub FirstOf : Dialect → List ℕ → ℕ → Type 0
FirstOf d [] b = Starts d b
FirstOf d (g ∷ gap) b = is_blank b ≡ true

pub record Begins (d : Dialect) (t : Tree) : Type 0 where
  pub first_byte : ℕ
  pub rest : List ℕ
  pub spelled : spelling t ≡ first_byte ∷ rest
  pub kind : FirstOf d (lead t) first_byte

-- blanks and then a byte that starts an operand
gap_first : (d : Dialect) (gap : List ℕ) (b : ℕ) (more : List ℕ) → IsTrue (are_blank gap) → Starts d b → (c : ℕ) × (rest : List ℕ) × (gap ++ b ∷ more ≡ c ∷ rest) × FirstOf d gap c
gap_first d [] b more blank s = (b, more, refl, s)
gap_first d (g ∷ gap) b more blank s = (g, gap ++ b ∷ more, refl, conj_left (is_blank g) (are_blank gap) blank)

pub begins : (d : Dialect) (t : Tree) → IsTrue (is_tree d t) → Begins d t
begins d (Plain gap []) h = absurd (true≢false (sym (conj_right (are_blank gap) false h)))
begins d (Plain gap (b ∷ name)) h =
    let f = gap_first d gap b name (conj_left (are_blank gap) (is_name (b ∷ name)) h) (inl (conj_left (is_inner b) (list_all is_inner name) (conj_right (are_blank gap) (is_name (b ∷ name)) h))) in
    record { first_byte = f.0; rest = f.1; spelled = f.2; kind = f.3 }
begins d (Quoted gap name) h =
    let f = gap_first d gap 34 (name ++ 34 ∷ []) (conj_left (are_blank gap) (is_name name && is_liberty d) h) (inr (inr (inr (refl, conj_right (is_name name) (is_liberty d) (conj_right (are_blank gap) (is_name name && is_liberty d) h))))) in
    record { first_byte = f.0; rest = f.1; spelled = f.2; kind = f.3 }
begins d (Group gap t end) h =
    let f = gap_first d gap 40 (spelling t ++ (end ++ 41 ∷ [])) (conj_left (are_blank gap) (is_tree d t && are_blank end) h) (inr (inr (inl refl))) in
    record { first_byte = f.0; rest = f.1; spelled = f.2; kind = f.3 }
begins d (Prefixed gap m t) h =
    let f = gap_first d gap m (spelling t) (conj_left (are_blank gap) (is_prefix d m && (is_tree d t && nat_le (height d t) 1)) h) (inr (inl (conj_left (is_prefix d m) (is_tree d t && nat_le (height d t) 1) (conj_right (are_blank gap) (is_prefix d m && (is_tree d t && nat_le (height d t) 1)) h)))) in
    record { first_byte = f.0; rest = f.1; spelled = f.2; kind = f.3 }
begins d (Postfixed t gap) h =
    let inside : IsTrue (is_tree d t) = conj_left (is_tree d t) ((height d t == 0) && are_blank gap) (conj_right (is_liberty d) (is_tree d t && ((height d t == 0) && are_blank gap)) h) in
    let f = begins d t inside in
    record { first_byte = f.first_byte; rest = f.rest ++ (gap ++ 39 ∷ []); spelled = ap (λ xs. xs ++ (gap ++ 39 ∷ [])) f.spelled; kind = f.kind }
begins d (Joined l gap s r) h =
    let f = begins d l (joined_parts d l gap s r h).left_tree in
    record { first_byte = f.first_byte; rest = f.rest ++ (gap ++ (sign_bytes s ++ spelling r)); spelled = ap (λ xs. xs ++ (gap ++ (sign_bytes s ++ spelling r))) f.spelled; kind = f.kind }

-- ---- runs

-- one run behind another
chain : (d : Dialect) (z u v : State) (xs ys : List ℕ) → steps (step d) z xs ≡ Some u → steps (step d) u ys ≡ Some v → steps (step d) z (xs ++ ys) ≡ Some v
chain d z u v xs ys first second = steps-append (step d) z xs ys ∙ ap (λ o. option_and_then (λ w. steps (step d) w ys) o) first ∙ second

behind : (d : Dialect) (z u : State) (xs ys : List ℕ) → steps (step d) z xs ≡ Some u → steps (step d) z (xs ++ ys) ≡ steps (step d) u ys
behind d z u xs ys first = steps-append (step d) z xs ys ∙ ap (λ o. option_and_then (λ w. steps (step d) w ys) o) first

one : (d : Dialect) (z u : State) (b : ℕ) (ys : List ℕ) → step d z b ≡ Some u → steps (step d) z (b ∷ ys) ≡ steps (step d) u ys
one d z u b ys first = ap (λ o. option_and_then (λ w. steps (step d) w ys) o) first

wants_blanks : (d : Dialect) (fs : List Frame) (g gap : List ℕ) → IsTrue (are_blank gap) → steps (step d) (Want fs g) gap ≡ Some (Want fs (g ++ gap))
wants_blanks d fs g [] h = ap (λ xs. Some (Want fs xs)) (sym (append-nil g))
wants_blanks d fs g (b ∷ gap) h =
    let first : step d (Want fs g) b ≡ Some (Want fs (g ++ b ∷ [])) = rw (conj_left (is_blank b) (are_blank gap) h) refl in
    one d (Want fs g) (Want fs (g ++ b ∷ [])) b gap first ∙ wants_blanks d fs (g ++ b ∷ []) gap (conj_right (is_blank b) (are_blank gap) h) ∙ ap (λ xs. Some (Want fs xs)) (append_assoc g (b ∷ []) gap)

has_blanks : (d : Dialect) (fs : List Frame) (t : Tree) (g gap : List ℕ) → IsTrue (are_blank gap) → steps (step d) (Have fs t g) gap ≡ Some (Have fs t (g ++ gap))
has_blanks d fs t g [] h = ap (λ xs. Some (Have fs t xs)) (sym (append-nil g))
has_blanks d fs t g (b ∷ gap) h =
    let first : step d (Have fs t g) b ≡ Some (Have fs t (g ++ b ∷ [])) = rw (conj_left (is_blank b) (are_blank gap) h) refl in
    one d (Have fs t g) (Have fs t (g ++ b ∷ [])) b gap first ∙ has_blanks d fs t (g ++ b ∷ []) gap (conj_right (is_blank b) (are_blank gap) h) ∙ ap (λ xs. Some (Have fs t xs)) (append_assoc g (b ∷ []) gap)

name_goes_on : (d : Dialect) (fs : List Frame) (gap run name : List ℕ) → IsTrue (list_all is_inner name) → steps (step d) (InName fs gap run) name ≡ Some (InName fs gap (run ++ name))
name_goes_on d fs gap run [] h = ap (λ xs. Some (InName fs gap xs)) (sym (append-nil run))
name_goes_on d fs gap run (b ∷ name) h =
    let first : step d (InName fs gap run) b ≡ Some (InName fs gap (run ++ b ∷ [])) = rw (conj_left (is_inner b) (list_all is_inner name) h) refl in
    one d (InName fs gap run) (InName fs gap (run ++ b ∷ [])) b name first ∙ name_goes_on d fs gap (run ++ b ∷ []) name (conj_right (is_inner b) (list_all is_inner name) h) ∙ ap (λ xs. Some (InName fs gap xs)) (append_assoc run (b ∷ []) name)

quote_goes_on : (d : Dialect) (fs : List Frame) (gap run name : List ℕ) → IsTrue (list_all is_inner name) → steps (step d) (InQuotes fs gap run) name ≡ Some (InQuotes fs gap (run ++ name))
quote_goes_on d fs gap run [] h = ap (λ xs. Some (InQuotes fs gap xs)) (sym (append-nil run))
quote_goes_on d fs gap run (b ∷ name) h =
    let first : step d (InQuotes fs gap run) b ≡ Some (InQuotes fs gap (run ++ b ∷ [])) = rw (conj_left (is_inner b) (list_all is_inner name) h) refl in
    one d (InQuotes fs gap run) (InQuotes fs gap (run ++ b ∷ [])) b name first ∙ quote_goes_on d fs gap (run ++ b ∷ []) name (conj_right (is_inner b) (list_all is_inner name) h) ∙ ap (λ xs. Some (InQuotes fs gap xs)) (append_assoc run (b ∷ []) name)

-- a name that nothing goes on with is an operand
abbrev pub settle : State → State
settle (InName fs gap run) = Have fs (Plain gap run) []
settle (Want fs gap) = Want fs gap
settle (InQuotes fs gap run) = InQuotes fs gap run
settle (Have fs t gap) = Have fs t gap
settle (Half fs t gap s) = Half fs t gap s

pub step_settled : (d : Dialect) (z : State) (b : ℕ) → is_inner b ≡ false → step d z b ≡ step d (settle z) b
step_settled d (InName fs gap run) b h = rw h refl
step_settled d (Want fs gap) b h = refl
step_settled d (InQuotes fs gap run) b h = refl
step_settled d (Have fs t gap) b h = refl
step_settled d (Half fs t gap s) b h = refl

result_settled : (d : Dialect) (z : State) → result_of d z ≡ result_of d (settle z)
result_settled d (InName fs gap run) = refl
result_settled d (Want fs gap) = refl
result_settled d (InQuotes fs gap run) = refl
result_settled d (Have fs t gap) = refl
result_settled d (Half fs t gap s) = refl

-- blanks behind an operand, and a byte that no name goes on with
pub after_operand : (d : Dialect) (z : State) (fs : List Frame) (t : Tree) (gap : List ℕ) (b : ℕ) (rest : List ℕ) → settle z ≡ Have fs t [] → IsTrue (are_blank gap) → is_inner b ≡ false → steps (step d) z (gap ++ b ∷ rest) ≡ steps (step d) (Have fs t gap) (b ∷ rest)
after_operand d z fs t [] b rest is blank outer = ap (λ o. option_and_then (λ w. steps (step d) w rest) o) (step_settled d z b outer ∙ ap (λ x. step d x b) is)
after_operand d z fs t (c ∷ gap) b rest is blank outer =
    let c_blank = conj_left (is_blank c) (are_blank gap) blank in
    let first : step d z c ≡ Some (Have fs t (c ∷ [])) = step_settled d z c (blank_not_inner c c_blank) ∙ ap (λ x. step d x c) is ∙ rw c_blank refl in
    one d z (Have fs t (c ∷ [])) c (gap ++ b ∷ rest) first ∙ behind d (Have fs t (c ∷ [])) (Have fs t (c ∷ gap)) gap (b ∷ rest) (has_blanks d fs t (c ∷ []) gap (conj_right (is_blank c) (are_blank gap) blank))

-- blanks behind an operand, and anything behind them
after_blanks : (d : Dialect) (z : State) (fs : List Frame) (t : Tree) (gap rest : List ℕ) → settle z ≡ Have fs t [] → IsTrue (are_blank gap) → is_filled gap ≡ true → steps (step d) z (gap ++ rest) ≡ steps (step d) (Have fs t gap) rest
after_blanks d z fs t [] rest is blank filled = absurd (true≢false (sym filled))
after_blanks d z fs t (c ∷ gap) rest is blank filled =
    let c_blank = conj_left (is_blank c) (are_blank gap) blank in
    let first : step d z c ≡ Some (Have fs t (c ∷ [])) = step_settled d z c (blank_not_inner c c_blank) ∙ ap (λ x. step d x c) is ∙ rw c_blank refl in
    one d z (Have fs t (c ∷ [])) c (gap ++ rest) first ∙ behind d (Have fs t (c ∷ [])) (Have fs t (c ∷ gap)) gap rest (has_blanks d fs t (c ∷ []) gap (conj_right (is_blank c) (are_blank gap) blank))

-- ---- what ends where

pub loose_small : (d : Dialect) (s : Sign) → looseness d s ≤ 5
loose_small Liberty Caret = omega arith
loose_small Liberty Star = omega arith
loose_small Liberty Ampersand = omega arith
loose_small Liberty Gap = omega arith
loose_small Liberty Plus = omega arith
loose_small Liberty Bar = omega arith
loose_small Liberty TwoAmpersands = omega arith
loose_small Liberty TwoBars = omega arith
loose_small Control Caret = omega arith
loose_small Control Star = omega arith
loose_small Control Ampersand = omega arith
loose_small Control Gap = omega arith
loose_small Control Plus = omega arith
loose_small Control Bar = omega arith
loose_small Control TwoAmpersands = omega arith
loose_small Control TwoBars = omega arith

height_small : (d : Dialect) (t : Tree) → height d t ≤ 5
height_small d (Plain gap name) = omega arith
height_small d (Quoted gap name) = omega arith
height_small d (Group gap t end) = omega arith
height_small d (Prefixed gap m t) = omega arith
height_small d (Postfixed t gap) = omega arith
height_small d (Joined l gap s r) = loose_small d s

pub closed_stays : (d : Dialect) (h : ℕ) (fs : List Frame) (t : Tree) → 2 ≤ h → h < bound d fs → closed d h fs t ≡ (fs, t)
closed_stays d h [] t low under = refl
closed_stays d h (Open g ∷ fs) t low under = refl
closed_stays d h (Pending g m ∷ fs) t low under = absurd (omega arith)
closed_stays d h (Left l g s ∷ fs) t low under = by (nat_le (looseness d s) h) refl
  where
    by : (c : Bool) → nat_le (looseness d s) h ≡ c → closed d h (Left l g s ∷ fs) t ≡ (Left l g s ∷ fs, t)
    by true e = let over : looseness d s ≤ h = leb-true (looseness d s) h e in absurd (omega arith)
    by false e = rw e refl

-- reading a tree in frames arrives at an operand that ends as the tree does
pub record Arrives (d : Dialect) (fs : List Frame) (t : Tree) : Type 0 where
  pub state : State
  pub taken : steps (step d) (Want fs []) (spelling t) ≡ Some state
  pub frames : List Frame
  pub tree : Tree
  pub settled : settle state ≡ Have frames tree []
  pub ends : (h : ℕ) → height d t ≤ h → closed d h frames tree ≡ closed d h fs t
  pub exact : height d t ≡ 0 → (frames ≡ fs) × (tree ≡ t)

-- a whole operand
arrived : (d : Dialect) (fs : List Frame) (t : Tree) (z : State) → steps (step d) (Want fs []) (spelling t) ≡ Some z → settle z ≡ Have fs t [] → Arrives d fs t
arrived d fs t z taken settled = record { state = z; taken = taken; frames = fs; tree = t; settled = settled; ends = λ h low. refl; exact = λ e. (refl, refl) }

wants_parenthesis : (d : Dialect) (fs : List Frame) (gap : List ℕ) → step d (Want fs gap) 40 ≡ Some (Want (Open gap ∷ fs) [])
unfolding is_blank is_inner
wants_parenthesis Liberty fs gap = refl
wants_parenthesis Control fs gap = refl

wants_quote : (d : Dialect) (fs : List Frame) (gap : List ℕ) → is_liberty d ≡ true → step d (Want fs gap) 34 ≡ Some (InQuotes fs gap [])
unfolding is_blank is_inner
wants_quote Liberty fs gap h = refl
wants_quote Control fs gap h = absurd (true≢false (sym h))

mark_not_inner : (d : Dialect) (m : ℕ) → is_prefix d m ≡ true → is_inner m ≡ false
unfolding is_inner
mark_not_inner d m h = elim (prefix_is d m h) [ inl is ↦ rw is refl | inr is ↦ rw is.0 refl ]

wants_mark : (d : Dialect) (fs : List Frame) (gap : List ℕ) (m : ℕ) → is_prefix d m ≡ true → step d (Want fs gap) m ≡ Some (Want (Pending gap m ∷ fs) [])
wants_mark d fs gap m h = rw ((leads d m (inr (inl h))).no_blank, mark_not_inner d m h, h) refl

pub wants_name : (d : Dialect) (fs : List Frame) (gap : List ℕ) (b : ℕ) → is_inner b ≡ true → step d (Want fs gap) b ≡ Some (InName fs gap (b ∷ []))
wants_name d fs gap b h = rw (inner_not_blank b h, h) refl

inner_34 : is_inner 34 ≡ false
unfolding is_inner
inner_34 = refl

pub inner_41 : is_inner 41 ≡ false
unfolding is_inner
inner_41 = refl

inner_39 : is_inner 39 ≡ false
unfolding is_inner
inner_39 = refl

pub quote_ends : (d : Dialect) (fs : List Frame) (gap name : List ℕ) → is_filled name ≡ true → step d (InQuotes fs gap name) 34 ≡ Some (Have fs (Quoted gap name) [])
quote_ends d fs gap name h = rw (inner_34, h) refl

pub parenthesis_ends : (d : Dialect) (fs : List Frame) (t : Tree) (gap : List ℕ) → step d (Have fs t gap) 41 ≡ shut (closed d 5 fs t) gap
unfolding is_blank
parenthesis_ends d fs t gap = refl

postfix_ends : (d : Dialect) (fs : List Frame) (t : Tree) (gap : List ℕ) → is_liberty d ≡ true → step d (Have fs t gap) 39 ≡ Some (Have fs (Postfixed t gap) [])
unfolding is_blank
postfix_ends d fs t gap h = rw h refl

-- ---- signs

pub record SignAt (d : Dialect) (s : Sign) : Type 0 where
  pub byte : ℕ
  pub spelled : sign_bytes s ≡ byte ∷ []
  pub begins_sign : sign_at d byte ≡ Some s
  pub no_half : is_half d s ≡ false
  pub no_blank : is_blank byte ≡ false
  pub no_postfix : (byte == 39) ≡ false
  pub no_parenthesis : (byte == 41) ≡ false
  pub outer : is_inner byte ≡ false

-- one byte, a half, a longer sign, or blanks alone
pub data SignKind (d : Dialect) (s : Sign) : Type 0 where
  Single : SignAt d s → SignKind d s
  Ambiguous : d ≡ Control → (s ≡ Ampersand) ⊎ (s ≡ Bar) → SignKind d s
  Double : d ≡ Control → (s ≡ TwoAmpersands) ⊎ (s ≡ TwoBars) → SignKind d s
  Blanks : d ≡ Liberty → s ≡ Gap → SignKind d s

sign_kind : (d : Dialect) (s : Sign) → 2 ≤ looseness d s → SignKind d s
unfolding is_blank is_inner
sign_kind Liberty Caret h = Single (record { byte = 94; spelled = refl; begins_sign = refl; no_half = refl; no_blank = refl; no_postfix = refl; no_parenthesis = refl; outer = refl })
sign_kind Liberty Star h = Single (record { byte = 42; spelled = refl; begins_sign = refl; no_half = refl; no_blank = refl; no_postfix = refl; no_parenthesis = refl; outer = refl })
sign_kind Liberty Ampersand h = Single (record { byte = 38; spelled = refl; begins_sign = refl; no_half = refl; no_blank = refl; no_postfix = refl; no_parenthesis = refl; outer = refl })
sign_kind Liberty Plus h = Single (record { byte = 43; spelled = refl; begins_sign = refl; no_half = refl; no_blank = refl; no_postfix = refl; no_parenthesis = refl; outer = refl })
sign_kind Liberty Bar h = Single (record { byte = 124; spelled = refl; begins_sign = refl; no_half = refl; no_blank = refl; no_postfix = refl; no_parenthesis = refl; outer = refl })
sign_kind Liberty Gap h = Blanks refl refl
sign_kind Liberty TwoAmpersands h = absurd (omega arith)
sign_kind Liberty TwoBars h = absurd (omega arith)
sign_kind Control Ampersand h = Ambiguous refl (inl refl)
sign_kind Control Bar h = Ambiguous refl (inr refl)
sign_kind Control TwoAmpersands h = Double refl (inl refl)
sign_kind Control TwoBars h = Double refl (inr refl)
sign_kind Control Caret h = absurd (omega arith)
sign_kind Control Star h = absurd (omega arith)
sign_kind Control Gap h = absurd (omega arith)
sign_kind Control Plus h = absurd (omega arith)

-- a sign behind an operand that ends as the left tree does leads to the right tree's place
module _ (d : Dialect) (fs : List Frame) (l : Tree) (gap : List ℕ) (r : Tree) where
  abbrev Leads_on : Sign → Type 0
  Leads_on s = (z : State) (gs : List Frame) (t : Tree) → settle z ≡ Have gs t [] → closed d (looseness d s) gs t ≡ (fs, l) → JoinedParts d l gap s r
      → steps (step d) z (gap ++ (sign_bytes s ++ spelling r)) ≡ steps (step d) (Want (Left l gap s ∷ fs) []) (spelling r)

  single_leads : (s : Sign) → SignAt d s → Leads_on s
  single_leads s at z gs t is ended parts =
      let first : step d (Have gs t gap) at.byte ≡ Some (Want (behind_sign d s gs t gap) []) = rw (at.no_blank, at.no_postfix, at.no_parenthesis, at.begins_sign, at.no_half) refl in
      ap (λ xs. steps (step d) z (gap ++ (xs ++ spelling r))) at.spelled
      ∙ after_operand d z gs t gap at.byte (spelling r) is parts.blank at.outer
      ∙ one d (Have gs t gap) (Want (behind_sign d s gs t gap) []) at.byte (spelling r) first
      ∙ ap (λ c. steps (step d) (Want (signed s gap c) []) (spelling r)) ended

blank_differs : (k b : ℕ) → is_blank k ≡ false → is_blank b ≡ true → (b == k) ≡ false
blank_differs k b out is = differs_back is_blank k b out is

not_blank_38 : is_blank 38 ≡ false
unfolding is_blank
not_blank_38 = refl

not_blank_124 : is_blank 124 ≡ false
unfolding is_blank
not_blank_124 = refl

-- behind half of a sign, an operand leads on as if it stood behind the sign
half_leads : (d : Dialect) (gs : List Frame) (t : Tree) (gap : List ℕ) (s : Sign) (r : Tree) → Begins d r → steps (step d) (Half gs t gap s) (spelling r) ≡ steps (step d) (Want (behind_sign d s gs t gap) []) (spelling r)
half_leads d gs t gap s r f =
    let none : longer d s f.first_byte ≡ None = not_longer (lead r) f.kind in
    let same : step d (Half gs t gap s) f.first_byte ≡ step d (Want (behind_sign d s gs t gap) []) f.first_byte = ap (on_longer d gs t gap s f.first_byte) none in
    ap (steps (step d) (Half gs t gap s)) f.spelled ∙ ap (λ o. option_and_then (λ w. steps (step d) w f.rest) o) same ∙ ap (steps (step d) (Want (behind_sign d s gs t gap) [])) (sym f.spelled)
  where
    not_longer : (g : List ℕ) → FirstOf d g f.first_byte → longer d s f.first_byte ≡ None
    not_longer [] k = let known = leads d f.first_byte k in no_longer d s f.first_byte known.no_ampersand known.no_bar
    not_longer (g ∷ more) k = no_longer d s f.first_byte (blank_differs 38 f.first_byte not_blank_38 k) (blank_differs 124 f.first_byte not_blank_124 k)

ampersand_halves : (gs : List Frame) (t : Tree) (gap : List ℕ) → step Control (Have gs t gap) 38 ≡ Some (Half gs t gap Ampersand)
unfolding is_blank
ampersand_halves gs t gap = refl

bar_halves : (gs : List Frame) (t : Tree) (gap : List ℕ) → step Control (Have gs t gap) 124 ≡ Some (Half gs t gap Bar)
unfolding is_blank
bar_halves gs t gap = refl

inner_38 : is_inner 38 ≡ false
unfolding is_inner
inner_38 = refl

inner_124 : is_inner 124 ≡ false
unfolding is_inner
inner_124 = refl

module _ (fs : List Frame) (l : Tree) (gap : List ℕ) (r : Tree) (f : Begins Control r) where
  ampersand_leads : Leads_on Control fs l gap r Ampersand
  ampersand_leads z gs t is ended parts =
      after_operand Control z gs t gap 38 (spelling r) is parts.blank inner_38
      ∙ one Control (Have gs t gap) (Half gs t gap Ampersand) 38 (spelling r) (ampersand_halves gs t gap)
      ∙ half_leads Control gs t gap Ampersand r f
      ∙ ap (λ c. steps (step Control) (Want (signed Ampersand gap c) []) (spelling r)) ended

  bar_leads : Leads_on Control fs l gap r Bar
  bar_leads z gs t is ended parts =
      after_operand Control z gs t gap 124 (spelling r) is parts.blank inner_124
      ∙ one Control (Have gs t gap) (Half gs t gap Bar) 124 (spelling r) (bar_halves gs t gap)
      ∙ half_leads Control gs t gap Bar r f
      ∙ ap (λ c. steps (step Control) (Want (signed Bar gap c) []) (spelling r)) ended

  ampersands_lead : Leads_on Control fs l gap r TwoAmpersands
  ampersands_lead z gs t is ended parts =
      after_operand Control z gs t gap 38 (38 ∷ spelling r) is parts.blank inner_38
      ∙ one Control (Have gs t gap) (Half gs t gap Ampersand) 38 (38 ∷ spelling r) (ampersand_halves gs t gap)
      ∙ ap (λ c. steps (step Control) (Want (signed TwoAmpersands gap c) []) (spelling r)) ended

  bars_lead : Leads_on Control fs l gap r TwoBars
  bars_lead z gs t is ended parts =
      after_operand Control z gs t gap 124 (124 ∷ spelling r) is parts.blank inner_124
      ∙ one Control (Have gs t gap) (Half gs t gap Bar) 124 (124 ∷ spelling r) (bar_halves gs t gap)
      ∙ ap (λ c. steps (step Control) (Want (signed TwoBars gap c) []) (spelling r)) ended

gap_leads : (fs : List Frame) (l : Tree) (gap : List ℕ) (r : Tree) → Begins Liberty r → Leads_on Liberty fs l gap r Gap
gap_leads fs l gap r f z gs t is ended parts = by (lead r) refl f.kind
  where
    filled : is_filled gap ≡ true
    filled = conj_left (is_filled gap) (not (is_filled (lead r))) parts.fits

    by : (g : List ℕ) → lead r ≡ g → FirstOf Liberty g f.first_byte → steps (step Liberty) z (gap ++ spelling r) ≡ steps (step Liberty) (Want (Left l gap Gap ∷ fs) []) (spelling r)
    by (b ∷ more) e k = absurd (true≢false (sym (conj_right (is_filled gap) (not (is_filled (lead r))) parts.fits) ∙ ap (λ xs. not (is_filled xs)) e))
    by [] e k =
        let b = f.first_byte in
        let known = leads Liberty b k in
        let spaced : IsTrue (is_filled gap && true) = both (is_filled gap) true filled refl in
        let first : step Liberty (Have gs t gap) b ≡ begin Liberty (behind_sign Liberty Gap gs t gap) [] b = rw (known.no_blank, known.no_postfix, known.no_parenthesis, known.no_sign, filled) refl in
        let second : step Liberty (Want (Left l gap Gap ∷ fs) []) b ≡ begin Liberty (Left l gap Gap ∷ fs) [] b = rw known.no_blank refl in
        let same : step Liberty (Have gs t gap) b ≡ step Liberty (Want (Left l gap Gap ∷ fs) []) b = first ∙ ap (λ c. begin Liberty (signed Gap gap c) [] b) ended ∙ sym second in
        ap (λ xs. steps (step Liberty) z (gap ++ xs)) f.spelled
        ∙ after_blanks Liberty z gs t gap (b ∷ f.rest) is parts.blank filled
        ∙ ap (λ o. option_and_then (λ w. steps (step Liberty) w f.rest) o) same
        ∙ ap (steps (step Liberty) (Want (Left l gap Gap ∷ fs) [])) (sym f.spelled)

-- what holds of a sign of UPF holds of what equals it
of_control : (d : Dialect) (fs : List Frame) (l : Tree) (gap : List ℕ) (s x : Sign) (r : Tree) → Begins d r → d ≡ Control → s ≡ x → (Begins Control r → Leads_on Control fs l gap r x) → Leads_on d fs l gap r s
of_control d fs l gap s x r f p q h = subst (λ (y : Sign). Leads_on d fs l gap r y) (sym q) (subst (λ (y : Dialect). Leads_on y fs l gap r x) (sym p) (h (subst (λ (y : Dialect). Begins y r) p f)))

joined_leads : (d : Dialect) (fs : List Frame) (l : Tree) (gap : List ℕ) (s : Sign) (r : Tree) → Begins d r → SignKind d s → Leads_on d fs l gap r s
joined_leads d fs l gap s r f (Single at) = single_leads d fs l gap r s at
joined_leads d fs l gap s r f (Ambiguous language sign) = elim sign [
  | inl is ↦ of_control d fs l gap s Ampersand r f language is (λ g. ampersand_leads fs l gap r g)
  | inr is ↦ of_control d fs l gap s Bar r f language is (λ g. bar_leads fs l gap r g)
]
joined_leads d fs l gap s r f (Double language sign) = elim sign [
  | inl is ↦ of_control d fs l gap s TwoAmpersands r f language is (λ g. ampersands_lead fs l gap r g)
  | inr is ↦ of_control d fs l gap s TwoBars r f language is (λ g. bars_lead fs l gap r g)
]
joined_leads d fs l gap s r f (Blanks language sign) =
    subst (λ (y : Sign). Leads_on d fs l gap r y) (sym sign) (subst (λ (y : Dialect). Leads_on y fs l gap r Gap) (sym language) (gap_leads fs l gap r (subst (λ (y : Dialect). Begins y r) language f)))

-- ---- trees

pub arrives : (d : Dialect) (fs : List Frame) (t : Tree) → IsTrue (is_tree d t) → height d t < bound d fs → Arrives d fs t
arrives d fs (Plain gap []) h under = absurd (true≢false (sym (conj_right (are_blank gap) false h)))
arrives d fs (Plain gap (b ∷ name)) h under =
    let inner = conj_right (are_blank gap) (is_name (b ∷ name)) h in
    arrived d fs (Plain gap (b ∷ name)) (InName fs gap (b ∷ name))
    (behind d (Want fs []) (Want fs gap) gap (b ∷ name) (wants_blanks d fs [] gap (conj_left (are_blank gap) (is_name (b ∷ name)) h))
    ∙ one d (Want fs gap) (InName fs gap (b ∷ [])) b name (wants_name d fs gap b (conj_left (is_inner b) (list_all is_inner name) inner))
    ∙ name_goes_on d fs gap (b ∷ []) name (conj_right (is_inner b) (list_all is_inner name) inner))
    refl
arrives d fs (Quoted gap name) h under =
    let named = conj_left (is_name name) (is_liberty d) (conj_right (are_blank gap) (is_name name && is_liberty d) h) in
    let language = conj_right (is_name name) (is_liberty d) (conj_right (are_blank gap) (is_name name && is_liberty d) h) in
    arrived d fs (Quoted gap name) (Have fs (Quoted gap name) [])
    (behind d (Want fs []) (Want fs gap) gap (34 ∷ (name ++ 34 ∷ [])) (wants_blanks d fs [] gap (conj_left (are_blank gap) (is_name name && is_liberty d) h))
    ∙ one d (Want fs gap) (InQuotes fs gap []) 34 (name ++ 34 ∷ []) (wants_quote d fs gap language)
    ∙ behind d (InQuotes fs gap []) (InQuotes fs gap name) name (34 ∷ []) (quote_goes_on d fs gap [] name (conj_right (is_filled name) (list_all is_inner name) named))
    ∙ one d (InQuotes fs gap name) (Have fs (Quoted gap name) []) 34 [] (quote_ends d fs gap name (conj_left (is_filled name) (list_all is_inner name) named)))
    refl
arrives d fs (Group gap t end) h under =
    let inside = conj_right (are_blank gap) (is_tree d t && are_blank end) h in
    let small : height d t < 6 = let low = height_small d t in omega arith in
    let a = arrives d (Open gap ∷ fs) t (conj_left (is_tree d t) (are_blank end) inside) small in
    let shuts : step d (Have a.frames a.tree end) 41 ≡ Some (Have fs (Group gap t end) []) = parenthesis_ends d a.frames a.tree end ∙ ap (λ c. shut c end) (a.ends 5 (height_small d t)) in
    arrived d fs (Group gap t end) (Have fs (Group gap t end) [])
    (behind d (Want fs []) (Want fs gap) gap (40 ∷ (spelling t ++ (end ++ 41 ∷ []))) (wants_blanks d fs [] gap (conj_left (are_blank gap) (is_tree d t && are_blank end) h))
    ∙ one d (Want fs gap) (Want (Open gap ∷ fs) []) 40 (spelling t ++ (end ++ 41 ∷ [])) (wants_parenthesis d fs gap)
    ∙ behind d (Want (Open gap ∷ fs) []) a.state (spelling t) (end ++ 41 ∷ []) a.taken
    ∙ after_operand d a.state a.frames a.tree end 41 [] a.settled (conj_right (is_tree d t) (are_blank end) inside) inner_41
    ∙ one d (Have a.frames a.tree end) (Have fs (Group gap t end) []) 41 [] shuts)
    refl
arrives d fs (Prefixed gap m t) h under =
    let marked = conj_right (are_blank gap) (is_prefix d m && (is_tree d t && nat_le (height d t) 1)) h in
    let inside = conj_right (is_prefix d m) (is_tree d t && nat_le (height d t) 1) marked in
    let low : height d t ≤ 1 = leb-true (height d t) 1 (conj_right (is_tree d t) (nat_le (height d t) 1) inside) in
    let a = arrives d (Pending gap m ∷ fs) t (conj_left (is_tree d t) (nat_le (height d t) 1) inside) (omega arith) in
    record {
      state = a.state;
      taken = behind d (Want fs []) (Want fs gap) gap (m ∷ spelling t) (wants_blanks d fs [] gap (conj_left (are_blank gap) (is_prefix d m && (is_tree d t && nat_le (height d t) 1)) h))
          ∙ one d (Want fs gap) (Want (Pending gap m ∷ fs) []) m (spelling t) (wants_mark d fs gap m (conj_left (is_prefix d m) (is_tree d t && nat_le (height d t) 1) marked))
          ∙ a.taken;
      frames = a.frames;
      tree = a.tree;
      settled = a.settled;
      ends = λ k up. a.ends k (omega arith);
      exact = λ e. absurd (omega arith);
    }
arrives d fs (Postfixed t gap) h under =
    let language = conj_left (is_liberty d) (is_tree d t && ((height d t == 0) && are_blank gap)) h in
    let inside = conj_right (is_liberty d) (is_tree d t && ((height d t == 0) && are_blank gap)) h in
    let low = conj_right (is_tree d t) ((height d t == 0) && are_blank gap) inside in
    let zero_height : height d t ≡ 0 = eqb-true (height d t) 0 (conj_left (height d t == 0) (are_blank gap) low) in
    let a = arrives d fs t (conj_left (is_tree d t) ((height d t == 0) && are_blank gap) inside) (omega arith) in
    let same = a.exact zero_height in
    let settled : settle a.state ≡ Have fs t [] = a.settled ∙ ap (λ gs. Have gs a.tree []) same.0 ∙ ap (λ x. Have fs x []) same.1 in
    arrived d fs (Postfixed t gap) (Have fs (Postfixed t gap) [])
    (behind d (Want fs []) a.state (spelling t) (gap ++ 39 ∷ []) a.taken
    ∙ after_operand d a.state fs t gap 39 [] settled (conj_right (height d t == 0) (are_blank gap) low) inner_39
    ∙ one d (Have fs t gap) (Have fs (Postfixed t gap) []) 39 [] (postfix_ends d fs t gap language))
    refl
arrives d fs (Joined l gap s r) h under =
    let parts = joined_parts d l gap s r h in
    let listed = parts.listed in
    let left_low = parts.left_height in
    let right_low = parts.right_height in
    let a = arrives d fs l parts.left_tree (omega arith) in
    let ended : closed d (looseness d s) a.frames a.tree ≡ (fs, l) = a.ends (looseness d s) parts.left_height ∙ closed_stays d (looseness d s) fs l parts.listed under in
    let b = arrives d (Left l gap s ∷ fs) r parts.right_tree parts.right_height in
    record {
      state = b.state;
      taken = behind d (Want fs []) a.state (spelling l) (gap ++ (sign_bytes s ++ spelling r)) a.taken
          ∙ joined_leads d fs l gap s r (begins d r parts.right_tree) (sign_kind d s parts.listed) a.state a.frames a.tree a.settled ended parts
          ∙ b.taken;
      frames = b.frames;
      tree = b.tree;
      settled = b.settled;
      ends = λ k up. b.ends k (omega arith) ∙ ap (λ c. cond c (closed d k fs (Joined l gap s r)) (Left l gap s ∷ fs, r)) (le-leb (looseness d s) k up);
      exact = λ e. absurd (omega arith);
    }

-- ---- whole texts

-- an expression and blanks are accepted as that tree and these blanks
pub again : (d : Dialect) (t : Tree) (tail : List ℕ) → IsTrue (is_tree d t) → IsTrue (are_blank tail) → (z : State) × (steps (step d) start (spelling t ++ tail) ≡ Some z) × (result_of d z ≡ Some (t, tail))
again d t tail good blank = by tail refl
  where
    small : height d t < 6
    small = let low = height_small d t in omega arith

    a : Arrives d [] t
    a = arrives d [] t good small

    ended : closed d 5 a.frames a.tree ≡ ([], t)
    ended = a.ends 5 (height_small d t)

    by : (gap : List ℕ) → tail ≡ gap → (z : State) × (steps (step d) start (spelling t ++ tail) ≡ Some z) × (result_of d z ≡ Some (t, tail))
    by [] e = (a.state, ap (λ xs. steps (step d) start (spelling t ++ xs)) e ∙ behind d start a.state (spelling t) [] a.taken, result_settled d a.state ∙ ap (result_of d) a.settled ∙ ap (λ c. whole c []) ended ∙ ap (λ xs. Some (t, xs)) (sym e))
    by (c ∷ gap) e =
        let filled : is_filled tail ≡ true = ap is_filled e in
        let read : steps (step d) start (spelling t ++ tail) ≡ Some (Have a.frames a.tree tail) = behind d start a.state (spelling t) tail a.taken ∙ ap (steps (step d) a.state) (sym (append-nil tail)) ∙ after_blanks d a.state a.frames a.tree tail [] a.settled blank filled in
        (Have a.frames a.tree tail, read, ap (λ c. whole c tail) ended)
