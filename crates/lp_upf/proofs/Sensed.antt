-- An expression of one name is this name or its complement by its two values.
use Rattle.std.proofs.Common.{◌≡◌, ℕ, Bool, true, false, not, ◌||◌, List, [], ◌∷◌, ◌++◌, refl, sym, ap, ◌∙◌, length, get_or, arith}
use Rattle.std.specs.Prelude.{Some, None, bytes_eq, fold, if◌then◌else◌, slice_index_or, unwrap_or}
use Rattle.std.specs.List.{list_all}
use Rattle.std.proofs.lemmas.List.Folds.{list_all-append}
use Rattle.std.proofs.lemmas.Bool.{and_parts, true≢false}
use Rattle.lp_text.specs.Texts.{has_text, has_text-append, same_text, same_text-true, same_text_comm, true-same_text, with_text}
use Rattle.lp_tern.specs.Expression.{Expression, Variable, Constant, Complement, Both, Either, Differ, chosen, holds, variables}
use Rattle.lp_expr.specs.declared.dialect.Dialect.TheVariants.{Control}
use Rattle.lp_expr.specs.declared.step.Step.{Step}
use Rattle.lp_expr.specs.Grammar.{Spells, meaning}
use Rattle.lp_expr.specs.Denotes.{HasTooMany, Reads, number_in, occurring, texts_of}
use Rattle.lp_expr.specs.Formula.{Formula, truth}
use Rattle.lp_expr.specs.Postfix.{holds_where, postfix}
use Rattle.lp_upf.specs.Senses.{IsSenseOf, high_by, sense_by}

abbrev pub Computes : Type 0
Computes = (number : List ℕ → ℕ) (c : List Bool) (e : Expression) → truth (postfix number e) c ≡ holds_where (λ n. slice_index_or c (number n) false) e

abbrev pub OneTree : Type 0
OneTree = (text : List ℕ) (a b : Spells Control text) → a.tree ≡ b.tree

-- too many names are not one
pub too-many : (text control : List ℕ) → OneTree → HasTooMany Control text → IsSenseOf text control None
too-many text control one m = λ high s.
    let same = ap (λ t. length (occurring (meaning t))) (one text m.spells s.spells) in
    let size = ap (λ (ns : List (List ℕ)). length ns) s.only in
    let many = m.many in
    absurd (omega (arith, same, size, many))

-- ---- the names of an expression

kept : (acc xs : List (List ℕ)) (t : List ℕ) → has_text t acc ≡ true → has_text t (fold with_text acc xs) ≡ true
kept acc [] t h = h
kept acc (x ∷ xs) t h = kept (with_text acc x) xs t (by (has_text x acc))
  where
    by : (b : Bool) → has_text t (if b then acc else acc ++ x ∷ []) ≡ true
    by true = h
    by false = has_text-append t acc (x ∷ []) ∙ ap (λ (c : Bool). c || has_text t (x ∷ [])) h

here : (acc : List (List ℕ)) (x : List ℕ) → has_text x (with_text acc x) ≡ true
here acc x = by (has_text x acc) refl
  where
    or-true : (a : Bool) → (a || true) ≡ true
    or-true true = refl
    or-true false = refl

    by : (b : Bool) → has_text x acc ≡ b → has_text x (if b then acc else acc ++ x ∷ []) ≡ true
    by true e = e
    by false e = has_text-append x acc (x ∷ []) ∙ ap (λ (c : Bool). has_text x acc || (c || false)) (true-same_text x x refl) ∙ or-true (has_text x acc)

all-there : (acc xs : List (List ℕ)) → list_all (λ x. has_text x (fold with_text acc xs)) xs ≡ true
all-there acc [] = refl
all-there acc (x ∷ xs) = rw (kept (with_text acc x) xs x (here acc x)) (all-there (with_text acc x) xs)

all-one : (f : Expression) (control : List ℕ) → occurring f ≡ control ∷ [] → list_all (λ x. has_text x (control ∷ [])) (variables f) ≡ true
all-one f control e = ap (λ (ns : List (List ℕ)). list_all (λ x. has_text x ns) (variables f)) (sym e) ∙ all-there [] (variables f)

-- ---- its values

module _ (control : List ℕ) (b : Bool) where
  abbrev given : List ℕ → Bool
  given n = slice_index_or (b ∷ []) (number_in (control ∷ []) n) false

  at : (n : List ℕ) → has_text n (control ∷ []) ≡ true → given n ≡ chosen ((control, b) ∷ []) n
  at n h = by (same_text n control) refl h
    where
      by : (x : Bool) → same_text n control ≡ x → (x || false) ≡ true → given n ≡ chosen ((control, b) ∷ []) n
      by true e h =
          ap (λ (x : Bool). slice_index_or (b ∷ []) (unwrap_or (if x then Some 0 else None) 0) false) e
          ∙ sym (ap (λ (x : Bool). if x then b else false) (same_text_comm control n ∙ e))
      by false e h = absurd (true≢false (sym h))

  same : (f : Expression) → list_all (λ x. has_text x (control ∷ [])) (variables f) ≡ true → holds_where given f ≡ holds f ((control, b) ∷ [])
  same (Variable n) h = at n (and_parts (has_text n (control ∷ [])) true h).0
  same (Constant c) h = refl
  same (Complement f) h = ap not (same f h)
  same (Both f g) h = let p = and_parts (list_all (λ x. has_text x (control ∷ [])) (variables f)) (list_all (λ x. has_text x (control ∷ [])) (variables g)) (sym (list_all-append (λ x. has_text x (control ∷ [])) (variables f) (variables g)) ∙ h) in rw (same f p.0, same g p.1) refl
  same (Either f g) h = let p = and_parts (list_all (λ x. has_text x (control ∷ [])) (variables f)) (list_all (λ x. has_text x (control ∷ [])) (variables g)) (sym (list_all-append (λ x. has_text x (control ∷ [])) (variables f) (variables g)) ∙ h) in rw (same f p.0, same g p.1) refl
  same (Differ f g) h = let p = and_parts (list_all (λ x. has_text x (control ∷ [])) (variables f)) (list_all (λ x. has_text x (control ∷ [])) (variables g)) (sym (list_all-append (λ x. has_text x (control ∷ [])) (variables f) (variables g)) ∙ h) in rw (same f p.0, same g p.1) refl

  value-is : (names : List (List ℕ)) (f : Expression) (steps : List Step) → Computes → steps ≡ postfix (number_in names) f → names ≡ control ∷ [] → occurring f ≡ control ∷ [] → truth steps (b ∷ []) ≡ holds f ((control, b) ∷ [])
  value-is names f steps computes is only e =
      ap (λ (s : List Step). truth s (b ∷ [])) (is ∙ ap (λ (ns : List (List ℕ)). postfix (number_in ns) f) only)
      ∙ computes (number_in (control ∷ [])) (b ∷ []) f
      ∙ same f (all-one f control e)

-- ---- its sense

module _ (text control : List ℕ) (one : OneTree) (computes : Computes) (s : Spells Control text) where
  abbrev f : Expression
  f = meaning s.tree

  other : (ns : List (List ℕ)) → occurring f ≡ ns → (ns ≡ control ∷ [] → ⊥) → IsSenseOf text control None
  other ns e apart = λ high h. apart (sym e ∙ ap (λ t. occurring (meaning t)) (one text s h.spells) ∙ h.only)

  both : (x y : Bool) → occurring f ≡ control ∷ [] → holds f ((control, true) ∷ []) ≡ x → holds f ((control, false) ∷ []) ≡ y → IsSenseOf text control (high_by x y)
  both true false e on off = record { spells = s; only = e; on = on; off = off }
  both false true e on off = record { spells = s; only = e; on = on; off = off }
  both true true e on off = λ high h. by high (sym on ∙ ap (λ t. holds (meaning t) ((control, true) ∷ [])) (one text s h.spells) ∙ h.on) (sym off ∙ ap (λ t. holds (meaning t) ((control, false) ∷ [])) (one text s h.spells) ∙ h.off)
    where
      by : (high : Bool) → true ≡ high → true ≡ (if high then false else true) → ⊥
      by true p q = true≢false q
      by false p q = true≢false p
  both false false e on off = λ high h. by high (sym on ∙ ap (λ t. holds (meaning t) ((control, true) ∷ [])) (one text s h.spells) ∙ h.on) (sym off ∙ ap (λ t. holds (meaning t) ((control, false) ∷ [])) (one text s h.spells) ∙ h.off)
    where
      by : (high : Bool) → false ≡ high → false ≡ (if high then false else true) → ⊥
      by true p q = true≢false (sym p)
      by false p q = true≢false (sym q)

  sensed : (names : List (List ℕ)) (steps : List Step) → names ≡ occurring f → steps ≡ postfix (number_in (occurring f)) f → IsSenseOf text control (sense_by names control (truth steps (true ∷ [])) (truth steps (false ∷ [])))
  sensed [] steps named is = other [] (sym named) (λ e. absurd (omega (arith, ap (λ (ns : List (List ℕ)). length ns) e)))
  sensed (n ∷ (m ∷ ns)) steps named is = other (n ∷ (m ∷ ns)) (sym named) (λ e. absurd (omega (arith, ap (λ (xs : List (List ℕ)). length xs) e)))
  sensed (n ∷ []) steps named is = by (bytes_eq n control) refl
    where
      by : (b : Bool) → bytes_eq n control ≡ b → IsSenseOf text control (if b then high_by (truth steps (true ∷ [])) (truth steps (false ∷ [])) else None)
      by true e =
          let only : occurring f ≡ control ∷ [] = sym named ∙ ap (λ (x : List ℕ). x ∷ []) (same_text-true n control e) in
          both (truth steps (true ∷ [])) (truth steps (false ∷ [])) only
          (sym (value-is control true (occurring f) f steps computes is only only))
          (sym (value-is control false (occurring f) f steps computes is only only))
      by false e = other (n ∷ []) (sym named) (λ x. true≢false (sym (true-same_text n control (ap (λ (xs : List (List ℕ)). get_or xs 0 control) x)) ∙ e))

pub by_reading : (text control : List ℕ) (names : List (List ℕ)) (e : Formula) → OneTree → Computes → Reads Control text names e
    → IsSenseOf text control (sense_by (texts_of names e.variables) control (truth e.steps (true ∷ [])) (truth e.steps (false ∷ [])))
by_reading text control names e one computes r = sensed text control one computes r.spells (texts_of names e.variables) e.steps r.denotes.named r.denotes.stepped
