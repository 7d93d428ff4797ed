-- Statements behind statements.
use Rattle.std.proofs.Common.{◌≡◌, ℕ, suc, Bool, true, false, ◌∷◌, ◌++◌, ◌&&◌, refl, sym, ap, ◌∙◌, append_assoc}
use Rattle.std.specs.Prelude.{nat_lt, IsTrue}
use Rattle.std.specs.List.{list_all}
use Rattle.std.proofs.lemmas.Bool.{true≢false}
use Rattle.lp_liberty.specs.declared.mark.Mark.TheVariants as marks
use Rattle.lp_liberty.specs.Grammar as grammar
use Rattle.lp_liberty.specs.Grammar.{Token, Name, Sign, Body, End, Semi, Simple, Complex, Group, spelling, is_item, are_args, ends_simple, is_body}
use Rattle.lp_liberty.proofs.Zipper.{joined}

-- no attribute waits for the closing brace
abbrev pub is_open : Body → Bool
is_open End = true
is_open (grammar.Last w items) = false
is_open (Semi rest) = is_open rest
is_open (Simple w items end rest) = is_open rest
is_open (Complex w args rest) = is_open rest
is_open (Group w args body rest) = is_open rest

-- whether a semicolon may stand behind statements
abbrev pub semi_after : Bool → Body → Bool
semi_after semi End = semi
semi_after semi (grammar.Last w items) = false
semi_after semi (Semi rest) = semi_after false rest
semi_after semi (Simple w items end rest) = semi_after false rest
semi_after semi (Complex w args rest) = semi_after true rest
semi_after semi (Group w args body rest) = semi_after true rest

pub both : (a b : Bool) → a ≡ true → b ≡ true → (a && b) ≡ true
both a b p q = rw (p, q) refl

pub conj_left : (a b : Bool) → (a && b) ≡ true → a ≡ true
conj_left true b e = refl
conj_left false b e = absurd (true≢false (sym e))

pub conj_right : (a b : Bool) → (a && b) ≡ true → b ≡ true
conj_right true b e = e
conj_right false b e = absurd (true≢false (sym e))

pub joined-end : (a : Body) → joined a End ≡ a
joined-end End = refl
joined-end (grammar.Last w items) = refl
joined-end (Semi rest) = ap Semi (joined-end rest)
joined-end (Simple w items end rest) = ap (Simple w items end) (joined-end rest)
joined-end (Complex w args rest) = ap (Complex w args) (joined-end rest)
joined-end (Group w args body rest) = ap (Group w args body) (joined-end rest)

pub joined-assoc : (a b c : Body) → joined (joined a b) c ≡ joined a (joined b c)
joined-assoc End b c = refl
joined-assoc (grammar.Last w items) b c = refl
joined-assoc (Semi rest) b c = ap Semi (joined-assoc rest b c)
joined-assoc (Simple w items end rest) b c = ap (Simple w items end) (joined-assoc rest b c)
joined-assoc (Complex w args rest) b c = ap (Complex w args) (joined-assoc rest b c)
joined-assoc (Group w args body rest) b c = ap (Group w args body) (joined-assoc rest b c)

pub spelling-joined : (a b : Body) → IsTrue (is_open a) → spelling (joined a b) ≡ spelling a ++ spelling b
spelling-joined End b h = refl
spelling-joined (grammar.Last w items) b h = absurd (true≢false (sym h))
spelling-joined (Semi rest) b h = ap (λ ts. Sign marks.Semicolon ∷ ts) (spelling-joined rest b h)
spelling-joined (Simple w items end rest) b h = rw (spelling-joined rest b h) (ap (λ ts. Name false w ∷ (Sign marks.Colon ∷ ts)) (sym (append_assoc items (Sign end ∷ spelling rest) (spelling b))))
spelling-joined (Complex w args rest) b h = rw (spelling-joined rest b h) (ap (λ ts. Name false w ∷ (Sign marks.ParenOpen ∷ ts)) (sym (append_assoc args (Sign marks.ParenClose ∷ spelling rest) (spelling b))))
spelling-joined (Group w args body rest) b h =
    rw (spelling-joined rest b h) (
    ap (λ ts. Name false w ∷ (Sign marks.ParenOpen ∷ (args ++ (Sign marks.ParenClose ∷ (Sign marks.BraceOpen ∷ ts))))) (sym (append_assoc (spelling body) (Sign marks.BraceClose ∷ spelling rest) (spelling b)))
    ∙ ap (λ ts. Name false w ∷ (Sign marks.ParenOpen ∷ ts)) (sym (append_assoc args (Sign marks.ParenClose ∷ (Sign marks.BraceOpen ∷ (spelling body ++ (Sign marks.BraceClose ∷ spelling rest)))) (spelling b))))

pub open-joined : (a b : Body) → IsTrue (is_open a) → is_open (joined a b) ≡ is_open b
open-joined End b h = refl
open-joined (grammar.Last w items) b h = absurd (true≢false (sym h))
open-joined (Semi rest) b h = open-joined rest b h
open-joined (Simple w items end rest) b h = open-joined rest b h
open-joined (Complex w args rest) b h = open-joined rest b h
open-joined (Group w args body rest) b h = open-joined rest b h

pub semi-joined : (semi : Bool) (a b : Body) → IsTrue (is_open a) → semi_after semi (joined a b) ≡ semi_after (semi_after semi a) b
semi-joined semi End b h = refl
semi-joined semi (grammar.Last w items) b h = absurd (true≢false (sym h))
semi-joined semi (Semi rest) b h = semi-joined false rest b h
semi-joined semi (Simple w items end rest) b h = semi-joined false rest b h
semi-joined semi (Complex w args rest) b h = semi-joined true rest b h
semi-joined semi (Group w args body rest) b h = semi-joined true rest b h

module _ (room : ℕ → Bool) where
  pub body-joined : (n : ℕ) (semi : Bool) (a b : Body) → IsTrue (is_open a) → IsTrue (is_body room n semi a) → IsTrue (is_body room n (semi_after semi a) b) → IsTrue (is_body room n semi (joined a b))
  body-joined n semi End b h x y = y
  body-joined n semi (grammar.Last w items) b h x y = absurd (true≢false (sym h))
  body-joined n semi (Semi rest) b h x y = both semi (is_body room n false (joined rest b)) (conj_left semi (is_body room n false rest) x) (body-joined n false rest b h (conj_right semi (is_body room n false rest) x) y)
  body-joined n semi (Simple w items end rest) b h x y =
      let x2 = conj_right (nat_lt 0 n) (list_all is_item items && (ends_simple end && is_body room n false rest)) x in
      let x3 = conj_right (list_all is_item items) (ends_simple end && is_body room n false rest) x2 in
      both (nat_lt 0 n) (list_all is_item items && (ends_simple end && is_body room n false (joined rest b))) (conj_left (nat_lt 0 n) (list_all is_item items && (ends_simple end && is_body room n false rest)) x)
      (both (list_all is_item items) (ends_simple end && is_body room n false (joined rest b)) (conj_left (list_all is_item items) (ends_simple end && is_body room n false rest) x2)
      (both (ends_simple end) (is_body room n false (joined rest b)) (conj_left (ends_simple end) (is_body room n false rest) x3) (body-joined n false rest b h (conj_right (ends_simple end) (is_body room n false rest) x3) y)))
  body-joined n semi (Complex w args rest) b h x y =
      let x2 = conj_right (nat_lt 0 n) (are_args args && is_body room n true rest) x in
      both (nat_lt 0 n) (are_args args && is_body room n true (joined rest b)) (conj_left (nat_lt 0 n) (are_args args && is_body room n true rest) x)
      (both (are_args args) (is_body room n true (joined rest b)) (conj_left (are_args args) (is_body room n true rest) x2) (body-joined n true rest b h (conj_right (are_args args) (is_body room n true rest) x2) y))
  body-joined n semi (Group w args body rest) b h x y =
      let x2 = conj_right (room n) (are_args args && (is_body room (suc n) false body && is_body room n true rest)) x in
      let x3 = conj_right (are_args args) (is_body room (suc n) false body && is_body room n true rest) x2 in
      both (room n) (are_args args && (is_body room (suc n) false body && is_body room n true (joined rest b))) (conj_left (room n) (are_args args && (is_body room (suc n) false body && is_body room n true rest)) x)
      (both (are_args args) (is_body room (suc n) false body && is_body room n true (joined rest b)) (conj_left (are_args args) (is_body room (suc n) false body && is_body room n true rest) x2)
      (both (is_body room (suc n) false body) (is_body room n true (joined rest b)) (conj_left (is_body room (suc n) false body) (is_body room n true rest) x3) (body-joined n true rest b h (conj_right (is_body room (suc n) false body) (is_body room n true rest) x3) y)))
