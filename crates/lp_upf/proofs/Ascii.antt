-- A control expression is ASCII, so it is no longer than its content.
use Rattle.std.proofs.Common.{◌≡◌, ℕ, ◌<◌, ◌≤◌, Bool, true, false, ◌&&◌, ◌||◌, List, [], ◌∷◌, ◌++◌, None, length, refl, sym, ap, ◌∙◌, inl, inr, arith}
use Rattle.std.specs.Prelude.{◌==◌, ltb, nat_le}
use Rattle.std.specs.List.{list_all, list_any}
use Rattle.std.proofs.lemmas.Bool.{and_parts, eqb-true, leb-true, lt-ltb, ltb-true, or_cases, true≢false}
use Rattle.std.proofs.lemmas.List.Folds.{list_all-append}
use Rattle.lp_text.specs.declared.shelf.TheConstants.{LIMIT}
use Rattle.lp_expr.specs.declared.dialect.Dialect.TheVariants.{Control}
use Rattle.lp_expr.specs.Grammar.{Spells, Tree, Plain, Quoted, Group, Prefixed, Postfixed, Joined, are_blank, is_blank, is_filled, is_inner, is_name, is_prefix, is_tree, sign_bytes, spelling}
use Rattle.lp_upf_words.specs.Elements.{bytes_after}
use Rattle.lp_spec_upf.specs.Intent.{HasSense}

abbrev are_ascii : List ℕ → Bool
are_ascii text = list_all (λ b. ltb b 128) text

both : (a b : Bool) → a ≡ true → b ≡ true → (a && b) ≡ true
both a b x y = rw (x, y) refl

joined : (xs ys : List ℕ) → are_ascii xs ≡ true → are_ascii ys ≡ true → are_ascii (xs ++ ys) ≡ true
joined xs ys h k = list_all-append (λ b. ltb b 128) xs ys ∙ both (are_ascii xs) (are_ascii ys) h k

low : (b top : ℕ) → b ≤ top → top < 128 → ltb b 128 ≡ true
low b top h k = let small : b < 128 = omega arith in lt-ltb b 128 small

is : (b n : ℕ) → n < 128 → (b == n) ≡ true → ltb b 128 ≡ true
is b n h e = let same = eqb-true b n e in let small : b < 128 = omega arith in lt-ltb b 128 small

within : (b from top : ℕ) → top < 128 → (nat_le from b && nat_le b top) ≡ true → ltb b 128 ≡ true
within b from top k e = low b top (leb-true b top (and_parts (nat_le from b) (nat_le b top) e).1) k

of_inner : (b : ℕ) → is_inner b ≡ true → ltb b 128 ≡ true
unfolding is_inner
of_inner b h =
    let lower = nat_le 97 b && nat_le b 122 in
    let upper = nat_le 65 b && nat_le b 90 in
    let digit = nat_le 48 b && nat_le b 57 in
    elim (or_cases ((((lower || upper) || digit) || (b == 95)) || (b == 91)) (b == 93) h) [
      | inr x ↦ is b 93 (omega arith) x
      | inl y ↦ elim (or_cases (((lower || upper) || digit) || (b == 95)) (b == 91) y) [
        | inr x ↦ is b 91 (omega arith) x
        | inl z ↦ elim (or_cases ((lower || upper) || digit) (b == 95) z) [
          | inr x ↦ is b 95 (omega arith) x
          | inl u ↦ elim (or_cases (lower || upper) digit u) [
            | inr x ↦ within b 48 57 (omega arith) x
            | inl v ↦ elim (or_cases lower upper v) [ inl x ↦ within b 97 122 (omega arith) x | inr x ↦ within b 65 90 (omega arith) x ]
          ]
        ]
      ]
    ]

among : (b : ℕ) (xs : List ℕ) → are_ascii xs ≡ true → list_any (λ x. x == b) xs ≡ true → ltb b 128 ≡ true
among b [] h e = absurd (true≢false (sym e))
among b (x ∷ xs) h e =
    let two = and_parts (ltb x 128) (are_ascii xs) h in
    elim (or_cases (x == b) (list_any (λ y. y == b) xs) e) [
      | inl same ↦ let eq = eqb-true x b same in let l = ltb-true x 128 two.0 in let small : b < 128 = omega arith in lt-ltb b 128 small
      | inr more ↦ among b xs two.1 more
    ]

of_blank : (b : ℕ) → is_blank b ≡ true → ltb b 128 ≡ true
unfolding is_blank
of_blank b h = among b (32 ∷ 9 ∷ 10 ∷ 12 ∷ 13 ∷ []) refl h

each : (good : ℕ → Bool) → ((b : ℕ) → good b ≡ true → ltb b 128 ≡ true) → (xs : List ℕ) → list_all good xs ≡ true → are_ascii xs ≡ true
each good of [] h = refl
each good of (x ∷ xs) h =
    let two = and_parts (good x) (list_all good xs) h in
    both (ltb x 128) (are_ascii xs) (of x two.0) (each good of xs two.1)

blanks : (gap : List ℕ) → are_blank gap ≡ true → are_ascii gap ≡ true
blanks gap h = each is_blank of_blank gap h

a_name : (name : List ℕ) → is_name name ≡ true → are_ascii name ≡ true
a_name name h = each is_inner of_inner name (and_parts (is_filled name) (list_all is_inner name) h).1

a_mark : (b : ℕ) → is_prefix Control b ≡ true → ltb b 128 ≡ true
a_mark b h = elim (or_cases (b == 33) (b == 126) h) [ inl x ↦ is b 33 (omega arith) x | inr x ↦ is b 126 (omega arith) x ]

a_tree : (t : Tree) → is_tree Control t ≡ true → are_ascii (spelling t) ≡ true
a_tree (Plain gap name) h =
    let p = and_parts (are_blank gap) (is_name name) h in
    joined gap name (blanks gap p.0) (a_name name p.1)
a_tree (Quoted gap name) h =
    let p = and_parts (are_blank gap) (is_name name && false) h in
    absurd (true≢false (sym (and_parts (is_name name) false p.1).1))
a_tree (Group gap t end) h =
    let p = and_parts (are_blank gap) (is_tree Control t && are_blank end) h in
    let q = and_parts (is_tree Control t) (are_blank end) p.1 in
    joined gap (40 ∷ (spelling t ++ (end ++ 41 ∷ []))) (blanks gap p.0)
    (joined (spelling t) (end ++ 41 ∷ []) (a_tree t q.0) (joined end (41 ∷ []) (blanks end q.1) refl))
a_tree (Prefixed gap mark t) h =
    let p = and_parts (are_blank gap) _ h in
    let q = and_parts (is_prefix Control mark) _ p.1 in
    let r = and_parts (is_tree Control t) _ q.1 in
    joined gap (mark ∷ spelling t) (blanks gap p.0) (both (ltb mark 128) (are_ascii (spelling t)) (a_mark mark q.0) (a_tree t r.0))
a_tree (Postfixed t gap) h = absurd (true≢false (sym h))
a_tree (Joined l gap sign r) h =
    let a = and_parts _ _ h in
    let b = and_parts (is_tree Control l) _ a.1 in
    let c = and_parts _ _ b.1 in
    let d = and_parts (are_blank gap) _ c.1 in
    let e = and_parts (is_tree Control r) _ d.1 in
    let f : are_ascii (sign_bytes sign) ≡ true = grind arith in
    joined (spelling l) (gap ++ (sign_bytes sign ++ spelling r)) (a_tree l b.0)
    (joined gap (sign_bytes sign ++ spelling r) (blanks gap d.0) (joined (sign_bytes sign) (spelling r) f (a_tree r e.0)))

an_expression : (text : List ℕ) → Spells Control text → are_ascii text ≡ true
an_expression text s = ap are_ascii s.spelled ∙ joined (spelling s.tree) s.tail (a_tree s.tree s.good) (blanks s.tail s.blank)

-- ASCII is its own content
itself : (text : List ℕ) → are_ascii text ≡ true → bytes_after None text ≡ text
itself [] h = refl
itself (b ∷ text) h =
    let two = and_parts (ltb b 128) (are_ascii text) h in
    rw (two.0) (ap (λ (xs : List ℕ). b ∷ xs) (itself text two.1))

-- what is longer than a file has no sense
pub too_long : (text control : List ℕ) (high : Bool) → length (bytes_after None text) ≤ LIMIT → LIMIT < length text → HasSense text control high → ⊥
too_long text control high short long h =
    let same = ap (λ (xs : List ℕ). length xs) (itself text (an_expression text h.spells)) in
    absurd (omega (arith, same, short, long))
