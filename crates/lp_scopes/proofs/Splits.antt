-- The step by the longest name is that of the last slash behind a name.
use Rattle.std.proofs.Common.{◌≡◌, ◌<◌, ◌≤◌, ℕ, zero, suc, ◌+◌, ◌-◌, Bool, true, false, List, [], ◌∷◌, length, take, drop, get_or, Option, Some, None, refl, sym, ap, ◌∙◌, arith}
use Rattle.std.specs.Prelude.{nat_lt, ◌==◌, bytes_eq, slice_index, option_map, option_and_then, if◌then◌else◌}
use Rattle.std.proofs.lemmas.Bool.{true≢false, eqb-true, eq-eqb, le-ltb, lt-ltb}
use Rattle.std.proofs.lemmas.List.{length-drop, length-take-le}
use Rattle.lp_spec_design.specs.Keys.{Name, Path}
use Rattle.lp_spec_design.specs.Netlists.{Structure, first}
use Rattle.lp_spec_design.specs.Graph.{some_of, and_more, when}
use Rattle.lp_spec_design.specs.Reads.{name-true, name-self}
use Rattle.lp_spec_origins.specs.Commands.{Scoped}
use Rattle.lp_spec_intent.specs.Names.{at, Place, places_from, behind, taken, shorter, least, step_from, path_of, instance_at}
use Rattle.lp_scopes.specs.Numbered.{or_else, split_at, last_split}

-- ---- what is behind a name

pub record IsBehind (name text rest : Name) : Type 0 where
  pub low : length name < length text
  pub is : take (length name) text ≡ name
  pub slash : get_or text (length name) 0 ≡ 47
  pub rest_is : drop (length name + 1) text ≡ rest

suc-drop : (c : ℕ) (text : Name) (n : ℕ) → drop (suc n + 1) (c ∷ text) ≡ drop (n + 1) text
suc-drop c text n = let e : suc n + 1 ≡ suc (n + 1) = omega arith in ap (λ k. drop k (c ∷ text)) e

pub behind-is : (name text rest : Name) → behind name text ≡ Some rest → IsBehind name text rest
behind-is [] [] rest e = absurd cc
behind-is [] (c ∷ text) rest e = by (c == 47) refl e
  where
    by : (t : Bool) → (c == 47) ≡ t → when t text ≡ Some rest → IsBehind [] (c ∷ text) rest
    by true f g = record { low = omega arith; is = refl; slash = eqb-true c 47 f; rest_is = cc }
    by false f g = absurd cc
behind-is (a ∷ name) [] rest e = absurd cc
behind-is (a ∷ name) (c ∷ text) rest e = by (a == c) refl e (behind-is name text rest)
  where
    by : (t : Bool) → (a == c) ≡ t → (if t then behind name text else None) ≡ Some rest → (behind name text ≡ Some rest → IsBehind name text rest) → IsBehind (a ∷ name) (c ∷ text) rest
    by true f g more =
        let b = more g in
        record {
          low = omega (arith, b.low);
          is = ap (λ x. x ∷ take (length name) text) (sym (eqb-true a c f)) ∙ ap (λ xs. a ∷ xs) b.is;
          slash = b.slash;
          rest_is = suc-drop c text (length name) ∙ b.rest_is;
        }
    by false f g more = absurd cc

pub behind-take : (text : Name) (j : ℕ) → j < length text → get_or text j 0 ≡ 47 → behind (take j text) text ≡ Some (drop (j + 1) text)
behind-take [] j h e = absurd (omega arith)
behind-take (c ∷ text) zero h e = ap (λ t. when t text) (eq-eqb c 47 e)
behind-take (c ∷ text) (suc j) h e =
    ap (λ t. if t then behind (take j text) text else None) (eq-eqb c c refl)
    ∙ behind-take text j (omega arith) e
    ∙ ap (λ xs. Some xs) (sym (suc-drop c text j))

-- ---- the last split

pub some-is : {A : Type 0} (x y : A) → Some x ≡ Some y → x ≡ y
some-is x y e = cc

none-some : {A : Type 0} (y : A) → None ≡ Some y → ⊥
none-some y e = cc

module _ {A : Type 0} where
  pub split-same : (f g : Name → Option A) (text : Name) (j : ℕ) → (get_or text j 0 ≡ 47 → f (take j text) ≡ g (take j text)) → split_at f text j ≡ split_at g text j
  split-same f g text j h = by (slice_index text j == 47) refl
    where
      by : (t : Bool) → (slice_index text j == 47) ≡ t → (if t then option_map {U = A × Name} (λ k. (k, drop (j + 1) text)) (f (take j text)) else None) ≡ (if t then option_map {U = A × Name} (λ k. (k, drop (j + 1) text)) (g (take j text)) else None)
      by true e = ap (λ (o : Option A). option_map {U = A × Name} (λ k. (k, drop (j + 1) text)) o) (h (eqb-true (slice_index text j) 47 e))
      by false e = refl

  pub last-same : (f g : Name → Option A) (text : Name) (n : ℕ) → ((j : ℕ) → j < n → split_at f text j ≡ split_at g text j) → last_split f text n ≡ last_split g text n
  last-same f g text zero h = refl
  last-same f g text (suc n) h =
      ap (λ o. or_else o (last_split f text n)) (h n (omega arith)) ∙ ap (λ o. or_else (split_at g text n) o) (last-same f g text n (λ j l. h j (omega arith)))

  pub split-none : (f : Name → Option A) (text : Name) (j : ℕ) → f (take j text) ≡ None → split_at f text j ≡ None
  split-none f text j e = by (slice_index text j == 47)
    where
      by : (t : Bool) → (if t then option_map {U = A × Name} (λ k. (k, drop (j + 1) text)) (f (take j text)) else None) ≡ None
      by true = ap (λ (o : Option A). option_map {U = A × Name} (λ k. (k, drop (j + 1) text)) o) e
      by false = refl

  pub last-none : (f : Name → Option A) (text : Name) (n : ℕ) → ((j : ℕ) → j < n → split_at f text j ≡ None) → last_split f text n ≡ None
  last-none f text zero h = refl
  last-none f text (suc n) h = ap (λ o. or_else o (last_split f text n)) (h n (omega arith)) ∙ last-none f text n (λ j l. h j (omega arith))

  -- where nothing is found from a place on, the places from there on can be left out
  pub last-low : (f : Name → Option A) (text : Name) (k more : ℕ) → ((j : ℕ) → k ≤ j → j < k + more → f (take j text) ≡ None) → last_split f text (k + more) ≡ last_split f text k
  last-low f text k zero h = let e : k + 0 ≡ k = omega arith in ap (last_split f text) e
  last-low f text k (suc more) h =
      let e : k + suc more ≡ suc (k + more) = omega arith in
      ap (last_split f text) e
      ∙ ap (λ o. or_else o (last_split f text (k + more))) (split-none f text (k + more) (h (k + more) (omega arith) (omega arith)))
      ∙ last-low f text k more (λ j l g. h j l (omega arith))

  split-rest : (f : Name → Option A) (text : Name) (j : ℕ) (y : A × Name) → split_at f text j ≡ Some y → y.1 ≡ drop (j + 1) text
  split-rest f text j y e = by (slice_index text j == 47) e
    where
      at : (o : Option A) → option_map {U = A × Name} (λ k. (k, drop (j + 1) text)) o ≡ Some y → y.1 ≡ drop (j + 1) text
      at None g = absurd cc
      at (Some k) g = ap (λ (z : A × Name). z.1) (sym (some-is (k, drop (j + 1) text) y g))

      by : (t : Bool) → (if t then option_map {U = A × Name} (λ k. (k, drop (j + 1) text)) (f (take j text)) else None) ≡ Some y → y.1 ≡ drop (j + 1) text
      by true g = at (f (take j text)) g
      by false g = absurd cc

  split-long : (f : Name → Option A) (text : Name) (j : ℕ) (y : A × Name) → j < length text → split_at f text j ≡ Some y → length y.1 + (j + 1) ≡ length text
  split-long f text j y low e =
      let l : length y.1 ≡ length text - (j + 1) = ap (λ (xs : Name). length xs) (split-rest f text j y e) ∙ length-drop (j + 1) text in
      omega arith

  last-long : (f : Name → Option A) (text : Name) (n : ℕ) (y : A × Name) → n ≤ length text → last_split f text n ≡ Some y → length text ≤ length y.1 + n
  last-long f text zero y low e = absurd cc
  last-long f text (suc n) y low e = by (split_at f text n) refl e (last-long f text n y (omega arith))
    where
      by : (o : Option (A × Name)) → split_at f text n ≡ o → or_else o (last_split f text n) ≡ Some y → (last_split f text n ≡ Some y → length text ≤ length y.1 + n) → length text ≤ length y.1 + suc n
      by None p g more = let l = more g in omega (arith, l)
      by (Some z) p g more = let l = split-long f text n y (omega arith) (p ∙ g) in omega (arith, l)

  -- ---- with one more name

  abbrev nearer : A × Name → Option (A × Name) → A × Name
  nearer x None = x
  nearer x (Some y) = if nat_lt (length y.1) (length x.1) then y else x

  module _ (f g : Name → Option A) (text : Name) (a : A) (m : ℕ) where
    abbrev here : A × Name
    here = (a, drop (m + 1) text)

    keeps : (n : ℕ) → n ≤ m + 1 → n ≤ length text → m < length text → (o : Option (A × Name)) → last_split f text n ≡ o → here ≡ nearer here o
    keeps n low fits within None e = refl
    keeps n low fits within (Some y) e =
        let l = last-long f text n y fits e in
        let d = length-drop (m + 1) text in
        let not_less : nat_lt (length y.1) (length (drop (m + 1) text)) ≡ false = le-ltb (length y.1) (length (drop (m + 1) text)) (omega (arith, l, d)) in
        ap (λ b. if b then y else here) (sym not_less)

    pub last-with : (n : ℕ) → n ≤ length text → m < n → split_at g text m ≡ Some here → ((j : ℕ) → j < n → (j ≡ m → ⊥) → split_at g text j ≡ split_at f text j) → last_split g text n ≡ Some (nearer here (last_split f text n))
    last-with zero fits low at_m others = absurd (omega arith)
    last-with (suc n) fits low at_m others = by (n == m) refl (λ l. last-with n (omega arith) l at_m (λ j k ne. others j (omega arith) ne))
      where
        later : (n ≡ m → ⊥) → m < n → last_split g text n ≡ Some (nearer here (last_split f text n)) → (o : Option (A × Name)) → split_at f text n ≡ o → or_else (split_at g text n) (last_split g text n) ≡ Some (nearer here (or_else o (last_split f text n)))
        later ne l more None p = ap (λ o. or_else o (last_split g text n)) (others n (omega arith) ne ∙ p) ∙ more
        later ne l more (Some y) p =
            let s = split-long f text n y (omega arith) p in
            let d = length-drop (m + 1) text in
            let less : nat_lt (length y.1) (length (drop (m + 1) text)) ≡ true = lt-ltb (length y.1) (length (drop (m + 1) text)) (omega (arith, s, d)) in
            ap (λ o. or_else o (last_split g text n)) (others n (omega arith) ne ∙ p) ∙ ap (λ b. Some (if b then y else here)) (sym less)

        by : (t : Bool) → (n == m) ≡ t → (m < n → last_split g text n ≡ Some (nearer here (last_split f text n))) → or_else (split_at g text n) (last_split g text n) ≡ Some (nearer here (or_else (split_at f text n) (last_split f text n)))
        by true e more =
            let is : n ≡ m = eqb-true n m e in
            ap (λ o. or_else o (last_split g text n)) (ap (split_at g text) is ∙ at_m)
            ∙ ap (λ x. Some x) (keeps (suc n) (omega arith) fits (omega arith) (last_split f text (suc n)) refl)
        by false e more =
            let ne : n ≡ m → ⊥ = λ is. true≢false (sym (eq-eqb n m is) ∙ e) in
            let l : m < n = omega arith in
            later ne l (more l) (split_at f text n) refl

-- ---- the least of what is taken

abbrev pub named : List Place → Name → Option Path
named places f = path_of (first (λ (x : Place). bytes_eq x.name f) places)

abbrev pub scoped : Path × Name → Scoped
scoped x = at x.0 x.1

named-other : (x : Place) (xs : List Place) (f : Name) → bytes_eq x.name f ≡ false → named (x ∷ xs) f ≡ named xs f
named-other x xs f e = ap (λ t. path_of (if t then Some x else first (λ (y : Place). bytes_eq y.name f) xs)) e

named-here : (x : Place) (xs : List Place) (f : Name) → bytes_eq x.name f ≡ true → named (x ∷ xs) f ≡ Some x.path
named-here x xs f e = ap (λ t. path_of (if t then Some x else first (λ (y : Place). bytes_eq y.name f) xs)) e

choice : (x : Path × Name) (o : Option (Path × Name)) → shorter (scoped x) (option_map scoped o) ≡ scoped (nearer x o)
choice x None = refl
choice x (Some y) = by (nat_lt (length y.1) (length x.1))
  where
    by : (t : Bool) → (if t then scoped y else scoped x) ≡ scoped (if t then y else x)
    by true = refl
    by false = refl

pub least-last : (text : Name) (places : List Place) → least (some_of (taken text) places) ≡ option_map scoped (last_split (named places) text (length text))
least-last text [] = ap (λ (o : Option (Path × Name)). option_map scoped o) (sym (last-none (named []) text (length text) (λ j l. split-none (named []) text j refl)))
least-last text (x ∷ xs) = by (behind x.name text) refl (least-last text xs)
  where
    rest : Option (Path × Name)
    rest = last_split (named xs) text (length text)

    apart : (j : ℕ) → (bytes_eq x.name (take j text) ≡ true → ⊥) → bytes_eq x.name (take j text) ≡ false
    apart j h = on (bytes_eq x.name (take j text)) refl
      where
        on : (t : Bool) → bytes_eq x.name (take j text) ≡ t → t ≡ false
        on true e = absurd (h e)
        on false e = refl

    by : (o : Option Name) → behind x.name text ≡ o → least (some_of (taken text) xs) ≡ option_map scoped (last_split (named xs) text (length text))
        → least (and_more (option_and_then (λ r. Some (at x.path r)) o) (some_of (taken text) xs)) ≡ option_map scoped (last_split (named (x ∷ xs)) text (length text))
    by None e more =
        let other : (j : ℕ) → j < length text → split_at (named xs) text j ≡ split_at (named (x ∷ xs)) text j =
        λ j l. split-same (named xs) (named (x ∷ xs)) text j (λ slash. sym (named-other x xs (take j text) (apart j (λ same.
        none-some (drop (j + 1) text) (sym e ∙ ap (λ n. behind n text) (name-true x.name (take j text) same) ∙ behind-take text j l slash))))) in
        more ∙ ap (λ (o : Option (Path × Name)). option_map scoped o) (last-same (named xs) (named (x ∷ xs)) text (length text) other)
    by (Some r) e more =
        let b = behind-is x.name text r e in
        let m = length x.name in
        let at_m : split_at (named (x ∷ xs)) text (length x.name) ≡ Some (x.path, drop (length x.name + 1) text) =
        ap (λ t. if t then option_map {U = Path × Name} (λ k. (k, drop (length x.name + 1) text)) (named (x ∷ xs) (take (length x.name) text)) else None) (eq-eqb (slice_index text (length x.name)) 47 b.slash)
        ∙ ap (λ (o : Option Path). option_map {U = Path × Name} (λ k. (k, drop (length x.name + 1) text)) o) (named-here x xs (take (length x.name) text) (ap (bytes_eq x.name) b.is ∙ name-self x.name)) in
        let others : (j : ℕ) → j < length text → (j ≡ length x.name → ⊥) → split_at (named (x ∷ xs)) text j ≡ split_at (named xs) text j =
        λ j l ne. split-same (named (x ∷ xs)) (named xs) text j (λ slash. named-other x xs (take j text) (apart j (λ same.
        ne (sym (ap (λ (n : Name). length n) (name-true x.name (take j text) same) ∙ length-take-le j text (omega arith)))))) in
        ap (λ o. Some (shorter (at x.path r) o)) more
        ∙ ap (λ q. Some (shorter (at x.path q) (option_map scoped (last_split (named xs) text (length text))))) (sym b.rest_is)
        ∙ ap (λ z. Some z) (choice (x.path, drop (length x.name + 1) text) (last_split (named xs) text (length text)))
        ∙ ap (λ (o : Option (Path × Name)). option_map scoped o) (sym (last-with (named xs) (named (x ∷ xs)) text x.path (length x.name) (length text) (omega arith) b.low at_m others))

-- the step of a name from an instance
pub step-last : (s : Structure) (a : Scoped) → step_from s a ≡ option_map scoped (last_split (λ f. instance_at s (at a.scope f)) a.name (length a.name))
step-last s a = least-last a.name (places_from s a.scope)
