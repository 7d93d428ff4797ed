-- What the machine has read is what its frames and its tree spell.
use Rattle.std.proofs.Common.{◌≡◌, ℕ, ◌<◌, ◌≤◌, ◌==◌, Bool, true, false, not, List, [], ◌∷◌, ◌++◌, Option, Some, None, ◌&&◌, refl, sym, ap, ◌∙◌, subst, arith, append_assoc}
use Rattle.std.specs.Prelude.{if◌then◌else◌, nat_le, nat_lt, IsTrue, IfSome, option_and_then}
use Rattle.std.specs.List.{list_all}
use Rattle.std.proofs.lemmas.List.{append-nil}
use Rattle.std.proofs.lemmas.Bool.{true≢false, eqb-true, eq-eqb, le-leb, leb-true, leb-false, lt-ltb}
use Rattle.std.proofs.lemmas.List.Folds.{list_all-append}
use Rattle.lp_expr.specs.declared.dialect.Dialect.{Dialect}
use Rattle.lp_expr.specs.declared.dialect.Dialect.TheVariants.{Liberty, Control}
use Rattle.lp_expr.specs.declared.dialect.Sign.{Sign}
use Rattle.lp_expr.specs.declared.dialect.Sign.TheVariants.{Caret, Star, Ampersand, Gap, Plus, Bar, TwoAmpersands, TwoBars}
use Rattle.lp_expr.specs.Grammar.{Tree, Plain, Quoted, Group, Prefixed, Postfixed, Joined, is_blank, is_inner, is_prefix, is_liberty, looseness, is_filled, sign_bytes, spelling, height, lead, are_blank, is_name, fits_gap, is_tree}
use Rattle.lp_spec_place.specs.Machines.{steps}
use Rattle.lp_expr.specs.Signs.{sign_at, is_half, longer}
use Rattle.lp_expr.proofs.Zipper.{Frame, Open, Pending, Left, State, Want, InName, InQuotes, Have, Half, closed, behind_sign, begin, wanting, shut, on_sign, follow, on_longer, step, start, whole, result_of}

abbrev pub frames_text : List Frame → List ℕ
frames_text [] = []
frames_text (Open g ∷ fs) = frames_text fs ++ (g ++ 40 ∷ [])
frames_text (Pending g m ∷ fs) = frames_text fs ++ (g ++ m ∷ [])
frames_text (Left l g s ∷ fs) = frames_text fs ++ (spelling l ++ (g ++ sign_bytes s))

abbrev pub state_text : State → List ℕ
state_text (Want fs gap) = frames_text fs ++ gap
state_text (InName fs gap run) = frames_text fs ++ (gap ++ run)
state_text (InQuotes fs gap run) = frames_text fs ++ (gap ++ 34 ∷ run)
state_text (Have fs t gap) = frames_text fs ++ (spelling t ++ gap)
state_text (Half fs t gap s) = frames_text fs ++ (spelling t ++ (gap ++ sign_bytes s))

-- an operand in these frames binds below this
abbrev pub bound : Dialect → List Frame → ℕ
bound d [] = 6
bound d (Open g ∷ fs) = 6
bound d (Pending g m ∷ fs) = 2
bound d (Left l g s ∷ fs) = looseness d s

-- blanks that mean "and" are filled, and no blanks follow them
abbrev pub GapFits : List Frame → List ℕ → Type 0
GapFits [] next = Unit {0}
GapFits (Open g ∷ fs) next = Unit {0}
GapFits (Pending g m ∷ fs) next = Unit {0}
GapFits (Left l g s ∷ fs) next = IsTrue (fits_gap s g next)

abbrev pub is_free : List Frame → Bool
is_free [] = true
is_free (Open g ∷ fs) = true
is_free (Pending g m ∷ fs) = true
is_free (Left l g Gap ∷ fs) = false
is_free (Left l g s ∷ fs) = true

abbrev pub GoodFrames : Dialect → List Frame → Type 0
GoodFrames d [] = Unit {0}
GoodFrames d (Open g ∷ fs) = IsTrue (are_blank g) × GapFits fs g × GoodFrames d fs
GoodFrames d (Pending g m ∷ fs) = IsTrue (are_blank g) × IsTrue (is_prefix d m) × GapFits fs g × GoodFrames d fs
GoodFrames d (Left l g s ∷ fs) = IsTrue (is_tree d l) × (height d l ≤ looseness d s) × (2 ≤ looseness d s) × (looseness d s < bound d fs) × IsTrue (are_blank g) × GapFits fs (lead l) × GoodFrames d fs

abbrev pub Good : Dialect → State → Type 0
Good d (Want fs gap) = GoodFrames d fs × IsTrue (are_blank gap) × IsTrue (is_free fs)
Good d (InName fs gap run) = GoodFrames d fs × IsTrue (are_blank gap) × IsTrue (is_name run) × GapFits fs gap
Good d (InQuotes fs gap run) = GoodFrames d fs × IsTrue (are_blank gap) × IsTrue (list_all is_inner run) × IsTrue (is_liberty d) × GapFits fs gap
Good d (Have fs t gap) = GoodFrames d fs × IsTrue (is_tree d t) × (height d t ≡ 0) × GapFits fs (lead t) × IsTrue (are_blank gap)
Good d (Half fs t gap s) = GoodFrames d fs × IsTrue (is_tree d t) × (height d t ≡ 0) × GapFits fs (lead t) × IsTrue (are_blank gap) × IsTrue (is_half d s)

-- ---- small facts

pub both : (a b : Bool) → a ≡ true → b ≡ true → (a && b) ≡ true
both a b p q = rw (p, q) refl

all_push : (p : ℕ → Bool) (xs : List ℕ) (b : ℕ) → list_all p xs ≡ true → p b ≡ true → list_all p (xs ++ b ∷ []) ≡ true
all_push p xs b h q = rw (list_all-append p xs (b ∷ []), h, q) refl

pub filled_push : (xs : List ℕ) (b : ℕ) → is_filled (xs ++ b ∷ []) ≡ true
filled_push [] b = refl
filled_push (x ∷ xs) b = refl

pub conj_left : (a b : Bool) → (a && b) ≡ true → a ≡ true
conj_left true b e = refl
conj_left false b e = absurd (true≢false (sym e))

pub conj_right : (a b : Bool) → (a && b) ≡ true → b ≡ true
conj_right true b e = e
conj_right false b e = absurd (true≢false (sym e))

-- a choice holds what both of its sides hold
pub some_if : {A : Type 0} (P : A → Type 0) (c : Bool) (x y : Option A) → (c ≡ true → IfSome x P) → (c ≡ false → IfSome y P) → IfSome (if c then x else y) P
some_if P true x y t e = t refl
some_if P false x y t e = e refl

pub from_some : {A : Type 0} (P : A → Type 0) (o : Option A) (x : A) → IfSome o P → o ≡ Some x → P x
from_some P (Some y) x p e = let same : y ≡ x = cc in subst P same p
from_some P None x p e = absurd cc

free_fits : (fs : List Frame) (gap : List ℕ) → IsTrue (is_free fs) → GapFits fs gap
free_fits [] gap h = tt
free_fits (Open g ∷ fs) gap h = tt
free_fits (Pending g m ∷ fs) gap h = tt
free_fits (Left l g Gap ∷ fs) gap h = absurd (true≢false (sym h))
free_fits (Left l g Caret ∷ fs) gap h = refl
free_fits (Left l g Star ∷ fs) gap h = refl
free_fits (Left l g Ampersand ∷ fs) gap h = refl
free_fits (Left l g Plus ∷ fs) gap h = refl
free_fits (Left l g Bar ∷ fs) gap h = refl
free_fits (Left l g TwoAmpersands ∷ fs) gap h = refl
free_fits (Left l g TwoBars ∷ fs) gap h = refl

bound_above : (d : Dialect) (fs : List Frame) → GoodFrames d fs → 2 ≤ bound d fs
bound_above d [] g = omega arith
bound_above d (Open gap ∷ fs) g = omega arith
bound_above d (Pending gap m ∷ fs) g = omega arith
bound_above d (Left l gap s ∷ fs) g = g.2

-- ---- operands that end

-- what is left when an operand ends where the text goes on at h
pub record Closed (d : Dialect) (h : ℕ) (c : List Frame × Tree) (text : List ℕ) : Type 0 where
  pub frames : GoodFrames d c.0
  pub tree : IsTrue (is_tree d c.1)
  pub below : height d c.1 ≤ h
  pub above : h < bound d c.0
  pub fits : GapFits c.0 (lead c.1)
  pub text_is : frames_text c.0 ++ spelling c.1 ≡ text

pub closed_good : (d : Dialect) (h : ℕ) (fs : List Frame) (t : Tree) → 1 ≤ h → h < 6 → GoodFrames d fs → IsTrue (is_tree d t) → height d t ≤ h → height d t < bound d fs → GapFits fs (lead t) → Closed d h (closed d h fs t) (frames_text fs ++ spelling t)
closed_good d h [] t low high good tree below under fits = record { frames = good; tree = tree; below = below; above = high; fits = tt; text_is = refl }
closed_good d h (Open g ∷ fs) t low high good tree below under fits = record { frames = good; tree = tree; below = below; above = high; fits = tt; text_is = refl }
closed_good d h (Pending g m ∷ fs) t low high good tree below under fits =
    let is : IsTrue (is_tree d (Prefixed g m t)) = both (are_blank g) (is_prefix d m && (is_tree d t && nat_le (height d t) 1)) good.0 (both (is_prefix d m) (is_tree d t && nat_le (height d t) 1) good.1 (both (is_tree d t) (nat_le (height d t) 1) tree (le-leb (height d t) 1 (omega arith)))) in
    let room : 2 ≤ bound d fs = bound_above d fs good.3 in
    let rest = closed_good d h fs (Prefixed g m t) low high good.3 is low (omega arith) good.2 in
    let same : frames_text fs ++ (g ++ m ∷ spelling t) ≡ (frames_text fs ++ (g ++ m ∷ [])) ++ spelling t = simp append_assoc in
    record { frames = rest.frames; tree = rest.tree; below = rest.below; above = rest.above; fits = rest.fits; text_is = rest.text_is ∙ same }
closed_good d h (Left l g s ∷ fs) t low high good tree below under fits =
    by (nat_le (looseness d s) h) refl (λ e. closed_good d h fs (Joined l g s t) low high good.6 is (leb-true (looseness d s) h e) good.3 good.5)
  where
    is : IsTrue (is_tree d (Joined l g s t))
    is =
        both (nat_le 2 (looseness d s)) (is_tree d l && (nat_le (height d l) (looseness d s) && (are_blank g && (is_tree d t && (nat_lt (height d t) (looseness d s) && fits_gap s g (lead t)))))) (le-leb 2 (looseness d s) good.2)
        (both (is_tree d l) (nat_le (height d l) (looseness d s) && (are_blank g && (is_tree d t && (nat_lt (height d t) (looseness d s) && fits_gap s g (lead t))))) good.0
        (both (nat_le (height d l) (looseness d s)) (are_blank g && (is_tree d t && (nat_lt (height d t) (looseness d s) && fits_gap s g (lead t)))) (le-leb (height d l) (looseness d s) good.1)
        (both (are_blank g) (is_tree d t && (nat_lt (height d t) (looseness d s) && fits_gap s g (lead t))) good.4
        (both (is_tree d t) (nat_lt (height d t) (looseness d s) && fits_gap s g (lead t)) tree
        (both (nat_lt (height d t) (looseness d s)) (fits_gap s g (lead t)) (lt-ltb (height d t) (looseness d s) under) fits)))))

    text : List ℕ
    text = (frames_text fs ++ (spelling l ++ (g ++ sign_bytes s))) ++ spelling t

    same : frames_text fs ++ (spelling l ++ (g ++ (sign_bytes s ++ spelling t))) ≡ text
    same = simp append_assoc

    by : (b : Bool) → nat_le (looseness d s) h ≡ b → (nat_le (looseness d s) h ≡ true → Closed d h (closed d h fs (Joined l g s t)) (frames_text fs ++ spelling (Joined l g s t))) → Closed d h (if b then closed d h fs (Joined l g s t) else (Left l g s ∷ fs, t)) text
    by true e more = let rest = more e in record { frames = rest.frames; tree = rest.tree; below = rest.below; above = rest.above; fits = rest.fits; text_is = rest.text_is ∙ same }
    by false e more = record { frames = good; tree = tree; below = below; above = leb-false (looseness d s) h e; fits = fits; text_is = refl }

-- ---- steps

-- a good state that has read this
abbrev pub HasRead : Dialect → List ℕ → State → Type 0
HasRead d text z = Good d z × (state_text z ≡ text)

begin_good : (d : Dialect) (fs : List Frame) (gap : List ℕ) (b : ℕ) → GoodFrames d fs → IsTrue (are_blank gap) → GapFits fs gap → IfSome (begin d fs gap b) (HasRead d (frames_text fs ++ (gap ++ b ∷ [])))
begin_good d fs gap b good blank fits =
    some_if P (is_inner b) (Some (InName fs gap (b ∷ []))) others (λ e. ((good, blank, rw e refl, fits), refl)) (λ _.
    some_if P (is_prefix d b) (Some (Want (Pending gap b ∷ fs) [])) (if b == 40 then Some (Want (Open gap ∷ fs) []) else quoted) (λ e. (((blank, e, fits, good), refl, refl), append-nil text)) (λ _.
    some_if P (b == 40) (Some (Want (Open gap ∷ fs) [])) quoted (λ e. (((blank, fits, good), refl, refl), append-nil (frames_text fs ++ (gap ++ 40 ∷ [])) ∙ ap (λ x. frames_text fs ++ (gap ++ x ∷ [])) (sym (eqb-true b 40 e)))) (λ _.
    some_if P ((b == 34) && is_liberty d) (Some (InQuotes fs gap [])) None (λ e. ((good, blank, refl, conj_right (b == 34) (is_liberty d) e, fits), ap (λ x. frames_text fs ++ (gap ++ x ∷ [])) (sym (eqb-true b 34 (conj_left (b == 34) (is_liberty d) e))))) (λ _. tt))))
  where
    text : List ℕ
    text = frames_text fs ++ (gap ++ b ∷ [])

    P : State → Type 0
    P = HasRead d text

    quoted : Option State
    quoted = if (b == 34) && is_liberty d then Some (InQuotes fs gap []) else None

    others : Option State
    others = if is_prefix d b then Some (Want (Pending gap b ∷ fs) []) else if b == 40 then Some (Want (Open gap ∷ fs) []) else quoted

wanting_good : (d : Dialect) (fs : List Frame) (gap : List ℕ) (b : ℕ) → GoodFrames d fs → IsTrue (are_blank gap) → IsTrue (is_free fs) → IfSome (wanting d fs gap b) (HasRead d (frames_text fs ++ (gap ++ b ∷ [])))
wanting_good d fs gap b good blank free =
    some_if (HasRead d (frames_text fs ++ (gap ++ b ∷ []))) (is_blank b) (Some (Want fs (gap ++ b ∷ []))) (begin d fs gap b) (λ e. ((good, all_push is_blank gap b blank e, free), refl)) (λ _. begin_good d fs gap b good blank (free_fits fs gap free))

-- an operand that ends before a sign
behind_sign_good : (d : Dialect) (s : Sign) (fs : List Frame) (t : Tree) (gap : List ℕ) → GoodFrames d fs → IsTrue (is_tree d t) → height d t ≡ 0 → GapFits fs (lead t) → IsTrue (are_blank gap) → 2 ≤ looseness d s → looseness d s < 6
    → GoodFrames d (behind_sign d s fs t gap) × (frames_text (behind_sign d s fs t gap) ≡ frames_text fs ++ (spelling t ++ (gap ++ sign_bytes s)))
behind_sign_good d s fs t gap good tree zero_height fits blank listed small =
    let room : 2 ≤ bound d fs = bound_above d fs good in
    let c = closed d (looseness d s) fs t in
    let rest = closed_good d (looseness d s) fs t (omega arith) small good tree (omega arith) (omega arith) fits in
    let first : frames_text c.0 ++ (spelling c.1 ++ (gap ++ sign_bytes s)) ≡ (frames_text c.0 ++ spelling c.1) ++ (gap ++ sign_bytes s) = simp append_assoc in
    let last : (frames_text fs ++ spelling t) ++ (gap ++ sign_bytes s) ≡ frames_text fs ++ (spelling t ++ (gap ++ sign_bytes s)) = simp append_assoc in
    ((rest.tree, rest.below, listed, rest.above, blank, rest.fits, rest.frames), first ∙ ap (λ xs. xs ++ (gap ++ sign_bytes s)) rest.text_is ∙ last)

-- what is known of a sign that a byte begins
pub record BeginsSign (d : Dialect) (b : ℕ) (s : Sign) : Type 0 where
  pub spelled : sign_bytes s ≡ b ∷ []
  pub listed : 2 ≤ looseness d s
  pub small : looseness d s < 6
  pub plain_sign : (l : Tree) (g : List ℕ) (fs : List Frame) → IsTrue (is_free (Left l g s ∷ fs))

one_sign : (d : Dialect) (b x : ℕ) (s : Sign) → sign_bytes s ≡ x ∷ [] → 2 ≤ looseness d s → looseness d s < 6 → ((l : Tree) (g : List ℕ) (fs : List Frame) → IsTrue (is_free (Left l g s ∷ fs))) → (b == x) ≡ true → BeginsSign d b s
one_sign d b x s spelled listed small free e = record { spelled = spelled ∙ ap (λ y. y ∷ []) (sym (eqb-true b x e)); listed = listed; small = small; plain_sign = free }

sign_at_good : (d : Dialect) (b : ℕ) → IfSome (sign_at d b) (BeginsSign d b)
sign_at_good Liberty b =
    some_if P (b == 94) (Some Caret) (if b == 42 then Some Star else if b == 38 then Some Ampersand else if b == 43 then Some Plus else if b == 124 then Some Bar else None) (one_sign Liberty b 94 Caret refl (omega arith) (omega arith) (λ l g fs. refl)) (λ _.
    some_if P (b == 42) (Some Star) (if b == 38 then Some Ampersand else if b == 43 then Some Plus else if b == 124 then Some Bar else None) (one_sign Liberty b 42 Star refl (omega arith) (omega arith) (λ l g fs. refl)) (λ _.
    some_if P (b == 38) (Some Ampersand) (if b == 43 then Some Plus else if b == 124 then Some Bar else None) (one_sign Liberty b 38 Ampersand refl (omega arith) (omega arith) (λ l g fs. refl)) (λ _.
    some_if P (b == 43) (Some Plus) (if b == 124 then Some Bar else None) (one_sign Liberty b 43 Plus refl (omega arith) (omega arith) (λ l g fs. refl)) (λ _.
    some_if P (b == 124) (Some Bar) None (one_sign Liberty b 124 Bar refl (omega arith) (omega arith) (λ l g fs. refl)) (λ _. tt)))))
  where
    P : Sign → Type 0
    P = BeginsSign Liberty b
sign_at_good Control b =
    some_if P (b == 38) (Some Ampersand) (if b == 124 then Some Bar else None) (one_sign Control b 38 Ampersand refl (omega arith) (omega arith) (λ l g fs. refl)) (λ _.
    some_if P (b == 124) (Some Bar) None (one_sign Control b 124 Bar refl (omega arith) (omega arith) (λ l g fs. refl)) (λ _. tt))
  where
    P : Sign → Type 0
    P = BeginsSign Control b

-- what is known of a half of a sign, and of the longer sign that a byte makes of it
pub record IsHalf (d : Dialect) (s : Sign) : Type 0 where
  pub listed : 2 ≤ looseness d s
  pub small : looseness d s < 6
  pub plain_sign : (l : Tree) (g : List ℕ) (fs : List Frame) → IsTrue (is_free (Left l g s ∷ fs))
  pub more : (b : ℕ) → IfSome (longer d s b) (λ l. (sign_bytes l ≡ sign_bytes s ++ b ∷ []) × (2 ≤ looseness d l) × (looseness d l < 6) × ((t : Tree) (g : List ℕ) (fs : List Frame) → IsTrue (is_free (Left t g l ∷ fs))))

half_good : (d : Dialect) (s : Sign) → IsTrue (is_half d s) → IsHalf d s
half_good Control Ampersand h = record { listed = omega arith; small = omega arith; plain_sign = λ l g fs. refl; more = λ b. some_if _ (b == 38) (Some TwoAmpersands) None (λ e. (ap (λ x. 38 ∷ x ∷ []) (sym (eqb-true b 38 e)), omega arith, omega arith, λ t g fs. refl)) (λ _. tt) }
half_good Control Bar h = record { listed = omega arith; small = omega arith; plain_sign = λ l g fs. refl; more = λ b. some_if _ (b == 124) (Some TwoBars) None (λ e. (ap (λ x. 124 ∷ x ∷ []) (sym (eqb-true b 124 e)), omega arith, omega arith, λ t g fs. refl)) (λ _. tt) }
half_good Control Caret h = absurd (true≢false (sym h))
half_good Control Star h = absurd (true≢false (sym h))
half_good Control Gap h = absurd (true≢false (sym h))
half_good Control Plus h = absurd (true≢false (sym h))
half_good Control TwoAmpersands h = absurd (true≢false (sym h))
half_good Control TwoBars h = absurd (true≢false (sym h))
half_good Liberty s h = absurd (true≢false (sym (liberty_whole s) ∙ ap not h))
  where
    liberty_whole : (x : Sign) → not (is_half Liberty x) ≡ true
    liberty_whole Caret = refl
    liberty_whole _ = refl

-- a closing parenthesis behind what has ended
shut_good : (d : Dialect) (c : List Frame × Tree) (gap text : List ℕ) → Closed d 5 c text → IsTrue (are_blank gap) → IfSome (shut c gap) (HasRead d (text ++ (gap ++ 41 ∷ [])))
shut_good d ([], t) gap text h blank = tt
shut_good d (Pending g m ∷ fs, t) gap text h blank = tt
shut_good d (Left l g s ∷ fs, t) gap text h blank = tt
shut_good d (Open g ∷ fs, t) gap text h blank =
    let is : IsTrue (is_tree d (Group g t gap)) = both (are_blank g) (is_tree d t && are_blank gap) h.frames.0 (both (is_tree d t) (are_blank gap) h.tree blank) in
    let same : frames_text fs ++ ((g ++ 40 ∷ (spelling t ++ (gap ++ 41 ∷ []))) ++ []) ≡ ((frames_text fs ++ (g ++ 40 ∷ [])) ++ spelling t) ++ (gap ++ 41 ∷ []) = ap (λ xs. frames_text fs ++ xs) (append-nil (g ++ 40 ∷ (spelling t ++ (gap ++ 41 ∷ [])))) ∙ simp append_assoc in
    ((h.frames.2, is, refl, h.frames.1, refl), same ∙ ap (λ xs. xs ++ (gap ++ 41 ∷ [])) h.text_is)

-- what holds where an operand stands in frames, with blanks behind it
pub record Standing (d : Dialect) (fs : List Frame) (t : Tree) (gap : List ℕ) : Type 0 where
  pub frames : GoodFrames d fs
  pub tree : IsTrue (is_tree d t)
  pub zero_height : height d t ≡ 0
  pub fits : GapFits fs (lead t)
  pub blank : IsTrue (are_blank gap)

signed_good : (d : Dialect) (fs : List Frame) (t : Tree) (gap : List ℕ) → Standing d fs t gap → (s : Sign) → 2 ≤ looseness d s → looseness d s < 6
    → GoodFrames d (behind_sign d s fs t gap) × (frames_text (behind_sign d s fs t gap) ≡ frames_text fs ++ (spelling t ++ (gap ++ sign_bytes s)))
signed_good d fs t gap h s listed small = behind_sign_good d s fs t gap h.frames h.tree h.zero_height h.fits h.blank listed small

gap_listed : (d : Dialect) → is_liberty d ≡ true → (2 ≤ looseness d Gap) × (looseness d Gap < 6)
gap_listed Liberty e = (omega arith, omega arith)
gap_listed Control e = absurd (true≢false (sym e))

on_sign_good : (d : Dialect) (fs : List Frame) (t : Tree) (gap : List ℕ) (b : ℕ) → Standing d fs t gap → (o : Option Sign) → IfSome o (BeginsSign d b) → IfSome (on_sign d fs t gap b o) (HasRead d (frames_text fs ++ (spelling t ++ (gap ++ b ∷ []))))
on_sign_good d fs t gap b h (Some s) sign =
    let after = signed_good d fs t gap h s sign.listed sign.small in
    let spelled : frames_text fs ++ (spelling t ++ (gap ++ sign_bytes s)) ≡ frames_text fs ++ (spelling t ++ (gap ++ b ∷ [])) = ap (λ xs. frames_text fs ++ (spelling t ++ (gap ++ xs))) sign.spelled in
    let free = sign.plain_sign (closed d (looseness d s) fs t).1 gap (closed d (looseness d s) fs t).0 in
    some_if (HasRead d (frames_text fs ++ (spelling t ++ (gap ++ b ∷ [])))) (is_half d s) (Some (Half fs t gap s)) (Some (Want (behind_sign d s fs t gap) []))
    (λ e. ((h.frames, h.tree, h.zero_height, h.fits, h.blank, e), spelled))
    (λ _. ((after.0, refl, free), append-nil (frames_text (behind_sign d s fs t gap)) ∙ after.1 ∙ spelled))
on_sign_good d fs t gap b h None sign =
    some_if (HasRead d text) (is_filled gap && is_liberty d) (begin d (behind_sign d Gap fs t gap) [] b) None by (λ _. tt)
  where
    text : List ℕ
    text = frames_text fs ++ (spelling t ++ (gap ++ b ∷ []))

    by : (is_filled gap && is_liberty d) ≡ true → IfSome (begin d (behind_sign d Gap fs t gap) [] b) (HasRead d text)
    by e =
        let listed = gap_listed d (conj_right (is_filled gap) (is_liberty d) e) in
        let after = signed_good d fs t gap h Gap listed.0 listed.1 in
        let fits : IsTrue (is_filled gap && true) = both (is_filled gap) true (conj_left (is_filled gap) (is_liberty d) e) refl in
        let same : frames_text (behind_sign d Gap fs t gap) ++ (b ∷ []) ≡ text = ap (λ xs. xs ++ b ∷ []) after.1 ∙ append_assoc (frames_text fs) (spelling t ++ (gap ++ [])) (b ∷ []) ∙ ap (λ xs. frames_text fs ++ xs) (append_assoc (spelling t) (gap ++ []) (b ∷ []) ∙ ap (λ xs. spelling t ++ (xs ++ b ∷ [])) (append-nil gap)) in
        subst (λ (x : List ℕ). IfSome (begin d (behind_sign d Gap fs t gap) [] b) (HasRead d x)) same (begin_good d (behind_sign d Gap fs t gap) [] b after.0 refl fits)

follow_good : (d : Dialect) (fs : List Frame) (t : Tree) (gap : List ℕ) (b : ℕ) → Standing d fs t gap → IfSome (follow d fs t gap b) (HasRead d (frames_text fs ++ (spelling t ++ (gap ++ b ∷ []))))
follow_good d fs t gap b h =
    some_if (HasRead d text) (is_blank b) (Some (Have fs t (gap ++ b ∷ []))) others (λ e. ((h.frames, h.tree, h.zero_height, h.fits, all_push is_blank gap b h.blank e), refl)) (λ _.
    some_if (HasRead d text) ((b == 39) && is_liberty d) (Some (Have fs (Postfixed t gap) [])) marks postfix (λ _.
    some_if (HasRead d text) (b == 41) (shut (closed d 5 fs t) gap) (on_sign d fs t gap b (sign_at d b)) parenthesis (λ _. on_sign_good d fs t gap b h (sign_at d b) (sign_at_good d b))))
  where
    text : List ℕ
    text = frames_text fs ++ (spelling t ++ (gap ++ b ∷ []))

    marks : Option State
    marks = if b == 41 then shut (closed d 5 fs t) gap else on_sign d fs t gap b (sign_at d b)

    others : Option State
    others = if (b == 39) && is_liberty d then Some (Have fs (Postfixed t gap) []) else marks

    postfix : ((b == 39) && is_liberty d) ≡ true → HasRead d text (Have fs (Postfixed t gap) [])
    postfix e =
        let low : (height d t == 0) ≡ true = eq-eqb (height d t) 0 h.zero_height in
        let is : IsTrue (is_tree d (Postfixed t gap)) = both (is_liberty d) (is_tree d t && ((height d t == 0) && are_blank gap)) (conj_right (b == 39) (is_liberty d) e) (both (is_tree d t) ((height d t == 0) && are_blank gap) h.tree (both (height d t == 0) (are_blank gap) low h.blank)) in
        let byte : b ≡ 39 = eqb-true b 39 (conj_left (b == 39) (is_liberty d) e) in
        ((h.frames, is, refl, h.fits, refl), ap (λ xs. frames_text fs ++ xs) (append-nil (spelling t ++ (gap ++ 39 ∷ []))) ∙ ap (λ x. frames_text fs ++ (spelling t ++ (gap ++ x ∷ []))) (sym byte))

    parenthesis : (b == 41) ≡ true → IfSome (shut (closed d 5 fs t) gap) (HasRead d text)
    parenthesis e =
        let room : 2 ≤ bound d fs = bound_above d fs h.frames in
        let low = h.zero_height in
        let c = closed_good d 5 fs t (omega arith) (omega arith) h.frames h.tree (omega arith) (omega arith) h.fits in
        let same : (frames_text fs ++ spelling t) ++ (gap ++ 41 ∷ []) ≡ text = append_assoc (frames_text fs) (spelling t) (gap ++ 41 ∷ []) ∙ ap (λ x. frames_text fs ++ (spelling t ++ (gap ++ x ∷ []))) (sym (eqb-true b 41 e)) in
        subst (λ (x : List ℕ). IfSome (shut (closed d 5 fs t) gap) (HasRead d x)) same (shut_good d (closed d 5 fs t) gap (frames_text fs ++ spelling t) c h.blank)

on_longer_good : (d : Dialect) (fs : List Frame) (t : Tree) (gap : List ℕ) (s : Sign) (b : ℕ) → Standing d fs t gap → IsHalf d s → (o : Option Sign) → longer d s b ≡ o → IfSome (on_longer d fs t gap s b o) (HasRead d (frames_text fs ++ (spelling t ++ (gap ++ (sign_bytes s ++ b ∷ [])))))
on_longer_good d fs t gap s b h half (Some l) e =
    let known = from_some (λ l. (sign_bytes l ≡ sign_bytes s ++ b ∷ []) × (2 ≤ looseness d l) × (looseness d l < 6) × ((t : Tree) (g : List ℕ) (fs : List Frame) → IsTrue (is_free (Left t g l ∷ fs)))) (longer d s b) l (half.more b) e in
    let after = signed_good d fs t gap h l known.1 known.2 in
    let c = closed d (looseness d l) fs t in
    ((after.0, refl, known.3 c.1 gap c.0), append-nil (frames_text (behind_sign d l fs t gap)) ∙ after.1 ∙ ap (λ xs. frames_text fs ++ (spelling t ++ (gap ++ xs))) known.0)
on_longer_good d fs t gap s b h half None e =
    let after = signed_good d fs t gap h s half.listed half.small in
    let c = closed d (looseness d s) fs t in
    let same : frames_text (behind_sign d s fs t gap) ++ (b ∷ []) ≡ frames_text fs ++ (spelling t ++ (gap ++ (sign_bytes s ++ b ∷ []))) = ap (λ xs. xs ++ b ∷ []) after.1 ∙ append_assoc (frames_text fs) (spelling t ++ (gap ++ sign_bytes s)) (b ∷ []) ∙ ap (λ xs. frames_text fs ++ xs) (append_assoc (spelling t) (gap ++ sign_bytes s) (b ∷ []) ∙ ap (λ xs. spelling t ++ xs) (append_assoc gap (sign_bytes s) (b ∷ []))) in
    subst (λ (x : List ℕ). IfSome (wanting d (behind_sign d s fs t gap) [] b) (HasRead d x)) same (wanting_good d (behind_sign d s fs t gap) [] b after.0 refl (half.plain_sign c.1 gap c.0))

pub step_good : (d : Dialect) (z : State) (b : ℕ) → Good d z → IfSome (step d z b) (HasRead d (state_text z ++ b ∷ []))
step_good d (Want fs gap) b h = subst (λ (x : List ℕ). IfSome (wanting d fs gap b) (HasRead d x)) (sym (append_assoc (frames_text fs) gap (b ∷ []))) (wanting_good d fs gap b h.0 h.1 h.2)
step_good d (InName fs gap run) b h =
    subst (λ (x : List ℕ). IfSome (step d (InName fs gap run) b) (HasRead d x)) same
    (some_if (HasRead d (frames_text fs ++ (gap ++ (run ++ b ∷ [])))) (is_inner b) (Some (InName fs gap (run ++ b ∷ []))) (follow d fs (Plain gap run) [] b)
    (λ e. ((h.0, h.1, both (is_filled (run ++ b ∷ [])) (list_all is_inner (run ++ b ∷ [])) (filled_push run b) (all_push is_inner run b (conj_right (is_filled run) (list_all is_inner run) h.2) e), h.3), refl))
    (λ _. subst (λ (x : List ℕ). IfSome (follow d fs (Plain gap run) [] b) (HasRead d (frames_text fs ++ x))) (append_assoc gap run (b ∷ [])) (follow_good d fs (Plain gap run) [] b (record { frames = h.0; tree = both (are_blank gap) (is_name run) h.1 h.2; zero_height = refl; fits = h.3; blank = refl }))))
  where
    same : frames_text fs ++ (gap ++ (run ++ b ∷ [])) ≡ (frames_text fs ++ (gap ++ run)) ++ b ∷ []
    same = simp append_assoc
step_good d (InQuotes fs gap run) b h =
    subst (λ (x : List ℕ). IfSome (step d (InQuotes fs gap run) b) (HasRead d x)) same
    (some_if (HasRead d text) (is_inner b) (Some (InQuotes fs gap (run ++ b ∷ []))) (if (b == 34) && is_filled run then Some (Have fs (Quoted gap run) []) else None)
    (λ e. ((h.0, h.1, all_push is_inner run b h.2 e, h.3, h.4), refl))
    (λ _. some_if (HasRead d text) ((b == 34) && is_filled run) (Some (Have fs (Quoted gap run) [])) None (λ e. (
      (h.0, both (are_blank gap) (is_name run && is_liberty d) h.1 (both (is_name run) (is_liberty d) (both (is_filled run) (list_all is_inner run) (conj_right (b == 34) (is_filled run) e) h.2) h.3), refl, h.4, refl),
      ap (λ xs. frames_text fs ++ xs) (append-nil (gap ++ 34 ∷ (run ++ 34 ∷ []))) ∙ ap (λ x. frames_text fs ++ (gap ++ 34 ∷ (run ++ x ∷ []))) (sym (eqb-true b 34 (conj_left (b == 34) (is_filled run) e))),
    )) (λ _. tt)))
  where
    text : List ℕ
    text = frames_text fs ++ (gap ++ 34 ∷ (run ++ b ∷ []))

    same : text ≡ (frames_text fs ++ (gap ++ 34 ∷ run)) ++ b ∷ []
    same = simp append_assoc
step_good d (Have fs t gap) b h =
    subst (λ (x : List ℕ). IfSome (follow d fs t gap b) (HasRead d x)) same (follow_good d fs t gap b (record { frames = h.0; tree = h.1; zero_height = h.2; fits = h.3; blank = h.4 }))
  where
    same : frames_text fs ++ (spelling t ++ (gap ++ b ∷ [])) ≡ (frames_text fs ++ (spelling t ++ gap)) ++ b ∷ []
    same = simp append_assoc
step_good d (Half fs t gap s) b h =
    subst (λ (x : List ℕ). IfSome (on_longer d fs t gap s b (longer d s b)) (HasRead d x)) same (on_longer_good d fs t gap s b (record { frames = h.0; tree = h.1; zero_height = h.2; fits = h.3; blank = h.4 }) (half_good d s h.5) (longer d s b) refl)
  where
    same : frames_text fs ++ (spelling t ++ (gap ++ (sign_bytes s ++ b ∷ []))) ≡ (frames_text fs ++ (spelling t ++ (gap ++ sign_bytes s))) ++ b ∷ []
    same = simp append_assoc

-- ---- whole texts

pub read_good : (d : Dialect) (z : State) (text : List ℕ) (u : State) → Good d z → steps (step d) z text ≡ Some u → Good d u × (state_text u ≡ state_text z ++ text)
read_good d z [] u h e = let same : z ≡ u = cc in subst (λ (x : State). Good d x × (state_text x ≡ state_text z ++ [])) same (h, sym (append-nil (state_text z)))
read_good d z (b ∷ text) u h e = by (step d z b) refl (λ v g r. read_good d v text u g r)
  where
    by : (o : Option State) → step d z b ≡ o → ((v : State) → Good d v → steps (step d) v text ≡ Some u → Good d u × (state_text u ≡ state_text v ++ text)) → Good d u × (state_text u ≡ state_text z ++ b ∷ text)
    by None stop more = let gone : option_and_then (λ v. steps (step d) v text) None ≡ Some u = ap (λ o. option_and_then (λ v. steps (step d) v text) o) (sym stop) ∙ e in absurd cc
    by (Some v) next more =
        let now = from_some (HasRead d (state_text z ++ b ∷ [])) (step d z b) v (step_good d z b h) next in
        let rest = more v now.0 (ap (λ o. option_and_then (λ w. steps (step d) w text) o) (sym next) ∙ e) in
        (rest.0, rest.1 ∙ ap (λ xs. xs ++ text) now.1 ∙ append_assoc (state_text z) (b ∷ []) text)

whole_good : (d : Dialect) (fs : List Frame) (t : Tree) (gap : List ℕ) → Standing d fs t gap → (r : Tree × List ℕ) → whole (closed d 5 fs t) gap ≡ Some r → (frames_text fs ++ (spelling t ++ gap) ≡ spelling r.0 ++ r.1) × IsTrue (is_tree d r.0) × IsTrue (are_blank r.1)
whole_good d fs t gap h r e =
    let room : 2 ≤ bound d fs = bound_above d fs h.frames in
    let low = h.zero_height in
    by (closed d 5 fs t) (closed_good d 5 fs t (omega arith) (omega arith) h.frames h.tree (omega arith) (omega arith) h.fits) e
  where
    by : (c : List Frame × Tree) → Closed d 5 c (frames_text fs ++ spelling t) → whole c gap ≡ Some r → (frames_text fs ++ (spelling t ++ gap) ≡ spelling r.0 ++ r.1) × IsTrue (is_tree d r.0) × IsTrue (are_blank r.1)
    by ([], u) k w =
        let same : (u, gap) ≡ r = cc in
        subst (λ (x : Tree × List ℕ). (frames_text fs ++ (spelling t ++ gap) ≡ spelling x.0 ++ x.1) × IsTrue (is_tree d x.0) × IsTrue (are_blank x.1)) same (sym (append_assoc (frames_text fs) (spelling t) gap) ∙ ap (λ xs. xs ++ gap) (sym k.text_is), k.tree, h.blank)
    by (f ∷ gs, u) k w = absurd cc

-- an accepted text is an expression
pub found : (d : Dialect) (text : List ℕ) (z : State) (r : Tree × List ℕ) → steps (step d) start text ≡ Some z → result_of d z ≡ Some r → (text ≡ spelling r.0 ++ r.1) × IsTrue (is_tree d r.0) × IsTrue (are_blank r.1)
found d text z r e acc = by z (read_good d start text z (tt, refl, refl) e) acc
  where
    by : (u : State) → Good d u × (state_text u ≡ text) → result_of d u ≡ Some r → (text ≡ spelling r.0 ++ r.1) × IsTrue (is_tree d r.0) × IsTrue (are_blank r.1)
    by (Want fs gap) g a = absurd cc
    by (InQuotes fs gap run) g a = absurd cc
    by (Half fs t gap s) g a = absurd cc
    by (Have fs t gap) g a = let w = whole_good d fs t gap (record { frames = g.0.0; tree = g.0.1; zero_height = g.0.2; fits = g.0.3; blank = g.0.4 }) r a in (sym g.1 ∙ w.0, w.1, w.2)
    by (InName fs gap run) g a =
        let w = whole_good d fs (Plain gap run) [] (record { frames = g.0.0; tree = both (are_blank gap) (is_name run) g.0.1 g.0.2; zero_height = refl; fits = g.0.3; blank = refl }) r a in
        (sym g.1 ∙ ap (λ xs. frames_text fs ++ xs) (sym (append-nil (gap ++ run))) ∙ w.0, w.1, w.2)
