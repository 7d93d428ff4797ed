-- The machine finds, reads again and can be led to the end of each text that it has begun: so where it stops, the text leaves the language.
use Rattle.std.proofs.Common.{◌≡◌, ℕ, ◌⊎◌, inl, inr, ◌≤◌, true, cond, List, [], ◌∷◌, ◌++◌, length, take, drop, Option, Some, None, refl, sym, ap, ◌∙◌}
use Rattle.std.specs.Prelude.{is_some, option_and_then}
use Rattle.std.proofs.lemmas.Bool.{true≢false, le-leb}
use Rattle.lp_spec_place.specs.Leaving.{Leaves}
use Rattle.lp_spec_place.specs.Machines.{steps, Stops, Recognizes, Finishes, leaves}
use Rattle.lp_expr.specs.declared.dialect.Dialect.{Dialect}
use Rattle.lp_expr.specs.declared.dialect.Sign.{Sign}
use Rattle.lp_expr.specs.Grammar.{Tree, Plain, Quoted, Group, Prefixed, Joined, is_inner, looseness, Spells, IsExpression}
use Rattle.lp_expr.specs.Signs.{longer}
use Rattle.lp_expr.proofs.Zipper.{Frame, Open, Pending, Left, State, Want, InName, InQuotes, Have, Half, closed, behind_sign, shut, on_longer, step, start, whole, result_of, accepts}
use Rattle.lp_expr.proofs.Found as finding
use Rattle.lp_expr.proofs.Again as reading

-- a closing parenthesis for each open one
abbrev pub closings : List Frame → List ℕ
closings [] = []
closings (Open g ∷ fs) = 41 ∷ closings fs
closings (Pending g m ∷ fs) = closings fs
closings (Left l g s ∷ fs) = closings fs

-- the bytes lead the state to acceptance
pub record Ends (d : Dialect) (z : State) (text : List ℕ) : Type 0 where
  pub last : State
  pub taken : steps (step d) z text ≡ Some last
  pub accepted : accepts d last ≡ true

closings_kind : (fs : List Frame) → (closings fs ≡ []) ⊎ ((rest : List ℕ) × (closings fs ≡ 41 ∷ rest))
closings_kind [] = inl refl
closings_kind (Open g ∷ fs) = inr (closings fs, refl)
closings_kind (Pending g m ∷ fs) = closings_kind fs
closings_kind (Left l g s ∷ fs) = closings_kind fs

-- two states that parentheses and the end treat alike
same_end : (d : Dialect) (z u : State) (fs : List Frame) → step d z 41 ≡ step d u 41 → accepts d z ≡ accepts d u → Ends d u (closings fs) → Ends d z (closings fs)
same_end d z u fs parenthesis end h = elim (closings_kind fs) [ inl none ↦ at_end none | inr more ↦ at_parenthesis more.0 more.1 ]
  where
    at_end : closings fs ≡ [] → Ends d z (closings fs)
    at_end none =
        let taken : Some u ≡ Some h.last = ap (steps (step d) u) (sym none) ∙ h.taken in
        let same : u ≡ h.last = cc in
        record { last = z; taken = ap (steps (step d) z) none; accepted = end ∙ ap (accepts d) same ∙ h.accepted }

    at_parenthesis : (rest : List ℕ) → closings fs ≡ 41 ∷ rest → Ends d z (closings fs)
    at_parenthesis rest is = record { last = h.last; taken = ap (steps (step d) z) is ∙ ap (λ o. option_and_then (λ w. steps (step d) w rest) o) parenthesis ∙ ap (steps (step d) u) (sym is) ∙ h.taken; accepted = h.accepted }

parenthesis_same : (d : Dialect) (fs gs : List Frame) (t u : Tree) (gap : List ℕ) → closed d 5 fs t ≡ closed d 5 gs u → step d (Have fs t gap) 41 ≡ step d (Have gs u gap) 41
parenthesis_same d fs gs t u gap e = reading.parenthesis_ends d fs t gap ∙ ap (λ c. shut c gap) e ∙ sym (reading.parenthesis_ends d gs u gap)

-- an operand and a parenthesis for each open one
have_ends : (d : Dialect) (fs : List Frame) (t : Tree) (gap : List ℕ) → Ends d (Have fs t gap) (closings fs)
have_ends d [] t gap = record { last = Have [] t gap; taken = refl; accepted = refl }
have_ends d (Open g ∷ fs) t gap =
    let rest = have_ends d fs (Group g t gap) [] in
    record { last = rest.last; taken = ap (λ o. option_and_then (λ w. steps (step d) w (closings fs)) o) (reading.parenthesis_ends d (Open g ∷ fs) t gap) ∙ rest.taken; accepted = rest.accepted }
have_ends d (Pending g m ∷ fs) t gap =
    same_end d (Have (Pending g m ∷ fs) t gap) (Have fs (Prefixed g m t) gap) fs (parenthesis_same d (Pending g m ∷ fs) fs t (Prefixed g m t) gap refl) refl (have_ends d fs (Prefixed g m t) gap)
have_ends d (Left l g s ∷ fs) t gap =
    let ended : closed d 5 (Left l g s ∷ fs) t ≡ closed d 5 fs (Joined l g s t) = ap (λ c. cond c (closed d 5 fs (Joined l g s t)) (Left l g s ∷ fs, t)) (le-leb (looseness d s) 5 (reading.loose_small d s)) in
    same_end d (Have (Left l g s ∷ fs) t gap) (Have fs (Joined l g s t) gap) fs (parenthesis_same d (Left l g s ∷ fs) fs t (Joined l g s t) gap ended) (ap (λ c. is_some (whole c gap)) ended) (have_ends d fs (Joined l g s t) gap)

name_ends : (d : Dialect) (fs : List Frame) (gap run : List ℕ) → Ends d (InName fs gap run) (closings fs)
name_ends d fs gap run = same_end d (InName fs gap run) (Have fs (Plain gap run) []) fs (reading.step_settled d (InName fs gap run) 41 reading.inner_41) refl (have_ends d fs (Plain gap run) [])

-- a byte more
first_ends : (d : Dialect) (z u : State) (b : ℕ) (text : List ℕ) → step d z b ≡ Some u → Ends d u text → Ends d z (b ∷ text)
first_ends d z u b text e h = record { last = h.last; taken = ap (λ o. option_and_then (λ w. steps (step d) w text) o) e ∙ h.taken; accepted = h.accepted }

inner_65 : is_inner 65 ≡ true
unfolding is_inner
inner_65 = refl

want_ends : (d : Dialect) (fs : List Frame) (gap : List ℕ) → Ends d (Want fs gap) (65 ∷ closings fs)
want_ends d fs gap = first_ends d (Want fs gap) (InName fs gap (65 ∷ [])) 65 (closings fs) (reading.wants_name d fs gap 65 inner_65) (name_ends d fs gap (65 ∷ []))

no_longer_65 : (d : Dialect) (s : Sign) → longer d s 65 ≡ None
no_longer_65 d s = reading.no_longer d s 65 refl refl

ends : (d : Dialect) (z : State) → (rest : List ℕ) × Ends d z rest
ends d (Want fs gap) = (65 ∷ closings fs, want_ends d fs gap)
ends d (InName fs gap run) = (closings fs, name_ends d fs gap run)
ends d (InQuotes fs gap run) =
    let longer_run = run ++ 65 ∷ [] in (
      65 ∷ (34 ∷ closings fs),
      first_ends d (InQuotes fs gap run) (InQuotes fs gap longer_run) 65 (34 ∷ closings fs) (rw inner_65 refl)
          (first_ends d (InQuotes fs gap longer_run) (Have fs (Quoted gap longer_run) []) 34 (closings fs) (reading.quote_ends d fs gap longer_run (finding.filled_push run 65)) (have_ends d fs (Quoted gap longer_run) [])),
    )
ends d (Have fs t gap) = (closings fs, have_ends d fs t gap)
ends d (Half fs t gap s) =
    let gs = behind_sign d s fs t gap in
    let e = want_ends d gs [] in
    (65 ∷ closings gs, record { last = e.last; taken = ap (λ o. option_and_then (λ w. steps (step d) w (closings gs)) (on_longer d fs t gap s 65 o)) (no_longer_65 d s) ∙ e.taken; accepted = e.accepted })

-- ---- the language

result_is : (d : Dialect) (z : State) → accepts d z ≡ true → (r : Tree × List ℕ) × (result_of d z ≡ Some r)
result_is d z e = by (result_of d z) refl e
  where
    by : (o : Option (Tree × List ℕ)) → result_of d z ≡ o → is_some o ≡ true → (r : Tree × List ℕ) × (result_of d z ≡ Some r)
    by (Some r) is h = (r, is)
    by None is h = absurd (true≢false (sym h))

abbrev pub spells : (d : Dialect) (text : List ℕ) (z : State) (r : Tree × List ℕ) → steps (step d) start text ≡ Some z → result_of d z ≡ Some r → Spells d text
spells d text z r taken is = let f = finding.found d text z r taken is in record { tree = r.0; tail = r.1; spelled = f.0; good = f.1; blank = f.2 }

pub recognizes : (d : Dialect) → Recognizes (step d) (accepts d) start (IsExpression d)
recognizes d = record {
  found = λ text z taken accepted. let r = result_is d z accepted in spells d text z r.0 taken r.1;
  again = λ text h. let a = reading.again d h.tree h.tail h.good h.blank in (a.0, ap (steps (step d) start) h.spelled ∙ a.1, ap is_some a.2);
}

pub finishes : (d : Dialect) → Finishes (step d) (accepts d) start (λ z. Unit {0})
finishes d = record { begins = tt; keeps = λ z b u g e. tt; ends = λ z g. let e = ends d z in (e.0, e.1.last, e.1.taken, e.1.accepted) }

-- where the machine stops, the text leaves the language
pub leaves_at : (d : Dialect) (text : List ℕ) (place : ℕ) (z : State) → place ≤ length text → steps (step d) start (take place text) ≡ Some z → Stops (step d) (accepts d) z (drop place text) → Leaves ℕ (IsExpression d) text place
leaves_at d text place z within taken stop = leaves (step d) (accepts d) start (IsExpression d) (λ z. Unit {0}) (recognizes d) (finishes d) text place z within taken stop

-- ---- one expression for each text

-- each text is spelled by one tree
pub one_tree : (d : Dialect) (text : List ℕ) → (a b : Spells d text) → a.tree ≡ b.tree
one_tree d text a b =
    let first = reading.again d a.tree a.tail a.good a.blank in
    let second = reading.again d b.tree b.tail b.good b.blank in
    let one : Some first.0 ≡ Some second.0 = sym (ap (steps (step d) start) a.spelled ∙ first.1) ∙ ap (steps (step d) start) b.spelled ∙ second.1 in
    let same : first.0 ≡ second.0 = cc in
    let results : Some (a.tree, a.tail) ≡ Some (b.tree, b.tail) = sym first.2 ∙ ap (result_of d) same ∙ second.2 in
    let pairs : (a.tree, a.tail) ≡ (b.tree, b.tail) = cc in
    ap (λ (p : Tree × List ℕ). p.0) pairs
