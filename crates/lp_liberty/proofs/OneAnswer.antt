-- A text is read or refused in one way.
use Rattle.std.proofs.Common.{◌≡◌, ℕ, zero, suc, ◌<◌, ◌≤◌, ◌⊎◌, inl, inr, false, List, [], ◌∷◌, ◌++◌, length, take, drop, refl, sym, ap, ◌∙◌, subst, arith, append_assoc}
use Rattle.std.specs.Prelude.{IsTrue, nat_le}
use Rattle.std.proofs.lemmas.Bool.{true≢false, leb-true}
use Rattle.std.proofs.lemmas.List.{take-append-drop, length-map, take_all}
use Rattle.lp_spec_place.specs.Leaving.{Leaves, one_place}
use Rattle.lp_text.specs.Places.{place_in}
use Rattle.lp_model.specs.GroupsView.{GroupView}
use Rattle.lp_model.specs.Refusals.{library_refusal}
use Rattle.lp_model.specs.declared.fault.library.LibraryFault.TheVariants as faults
use Rattle.lp_model.specs.declared.fault.refusal.Refusal.{Refusal}
use Rattle.lp_model.specs.declared.fault.refusal.Refusal.TheVariants as refusals
use Rattle.lp_liberty.specs.declared.mark.Mark.TheVariants as marks
use Rattle.lp_liberty.specs.declared.mark.Context.TheVariants as contexts
use Rattle.lp_liberty.specs.Grammar.{Token, Name, Sign, Form, Limited, always, below_64, are_args, are_more_args}
use Rattle.lp_liberty.specs.Tokens.{Placed, bare}
use Rattle.lp_liberty.specs.Denotes as denotes
use Rattle.lp_liberty.specs.Denotes.{Denotes, IsTokens, are_short, index_in, KeepsLimits, LeavesForm, HasLongToken, HasDeepGroup, RefusedAs}
use Rattle.lp_liberty.proofs.Joined.{conj_left, conj_right, semi_after}
use Rattle.lp_liberty.proofs.Zipper as zip
use Rattle.lp_liberty.proofs.Found.{spells}
use Rattle.lp_liberty.proofs.Leaving.{again}
use Rattle.lp_liberty.proofs.Always.{always_steps}
use Rattle.lp_liberty.proofs.Standing.{one_listing}

limited_form : (tokens : List Token) → Limited tokens → Form tokens
limited_form tokens h = let z = zip.at_begin [] h.body (semi_after false h.body) in spells always tokens z (always_steps zip.start z tokens (again below_64 tokens h)) refl

-- ---- places

cut : {T : Type 0} (text : List T) (p q : ℕ) → p < q → q ≤ length text → (t : T) × (after more : List T) × (drop p text ≡ t ∷ after) × (take q text ≡ take p text ++ t ∷ more)
cut [] p q less within = absurd (omega arith)
cut (t ∷ text) zero (suc q) less within = (t, text, take q text, refl, refl)
cut (t ∷ text) zero zero less within = absurd (omega arith)
cut (t ∷ text) (suc p) zero less within = absurd (omega arith)
cut (t ∷ text) (suc p) (suc q) less within = let b = cut text p q (omega arith) (omega arith) in (b.0, b.1, b.2, b.3, ap (λ xs. t ∷ xs) b.4)

-- no text of the language has more of the front than up to the place
pub no_further : (language : List Token → Type 0) (text : List Token) (p q : ℕ) → Leaves Token language text p → p < q → q ≤ length text → (rest : List Token) → language (take q text ++ rest) → ⊥
no_further language text p q h less within rest l =
    let b = cut text p q less within in
    h.here b.0 b.1 b.3 (b.2 ++ rest) (subst language (ap (λ xs. xs ++ rest) b.4 ∙ append_assoc (take p text) (b.0 ∷ b.2) rest) l)

-- a text that leaves a language is none of it
not_whole : (language : List Token → Type 0) (text : List Token) (p : ℕ) → Leaves Token language text p → language text → ⊥
not_whole language text p h l = by (drop p text) refl
  where
    by : (rest : List Token) → drop p text ≡ rest → ⊥
    by [] e = h.ended e l
    by (t ∷ rest) e = h.here t rest e rest (subst language (sym (ap (λ xs. take p text ++ xs) (sym e) ∙ take-append-drop p text)) l)

-- short tokens before a number are short at each lesser one
short_at : (tokens : List Placed) (p q : ℕ) (t : Placed) (rest : List Placed) → IsTrue (are_short (take q tokens)) → p < q → drop p tokens ≡ t ∷ rest → t.size ≤ 1048576
short_at [] zero q t rest h less e = absurd cc
short_at [] (suc p) q t rest h less e = absurd cc
short_at (x ∷ tokens) p zero t rest h less e = absurd (omega arith)
short_at (x ∷ tokens) zero (suc q) t rest h less e = let same : x ≡ t = cc in subst (λ (y : Placed). y.size ≤ 1048576) same (leb-true x.size 1048576 (conj_left (nat_le x.size 1048576) (are_short (take q tokens)) h))
short_at (x ∷ tokens) (suc p) (suc q) t rest h less e = short_at tokens p q t rest (conj_right (nat_le x.size 1048576) (are_short (take q tokens)) h) (omega arith) e

within_drop : {A : Type 0} (k : ℕ) (xs : List A) (x : A) (rest : List A) → drop k xs ≡ x ∷ rest → k < length xs
within_drop zero [] x rest e = absurd cc
within_drop zero (y ∷ xs) x rest e = omega arith
within_drop (suc k) [] x rest e = absurd cc
within_drop (suc k) (y ∷ xs) x rest e = let more = within_drop k xs x rest e in omega arith

same_number : (p q : ℕ) → (p < q → ⊥) → (q < p → ⊥) → p ≡ q
same_number zero zero a b = refl
same_number zero (suc q) a b = absurd (a (omega arith))
same_number (suc p) zero a b = absurd (b (omega arith))
same_number (suc p) (suc q) a b = ap suc (same_number p q (λ h. a (omega arith)) (λ h. b (omega arith)))

-- ---- the head of a group

no_paren : (args : List Token) (xs ys : List Token) → IsTrue (are_more_args args) → args ++ Sign marks.ParenClose ∷ [] ≡ xs ++ (Sign marks.ParenOpen ∷ ys) → ⊥
no_paren [] [] ys h e = absurd cc
no_paren [] (x ∷ []) ys h e = absurd cc
no_paren [] (x ∷ (y ∷ xs)) ys h e = absurd cc
no_paren (Name q w ∷ args) [] ys h e = absurd cc
no_paren (Name q w ∷ args) (x ∷ xs) ys h e = no_paren args xs ys h (ap (drop 1) e)
no_paren (Sign marks.Comma ∷ []) xs ys h e = absurd (true≢false (sym h))
no_paren (Sign marks.Comma ∷ (Name q w ∷ args)) [] ys h e = absurd cc
no_paren (Sign marks.Comma ∷ (Name q w ∷ args)) (x ∷ []) ys h e = absurd cc
no_paren (Sign marks.Comma ∷ (Name q w ∷ args)) (x ∷ (y ∷ xs)) ys h e = no_paren args xs ys h (ap (drop 2) e)
no_paren (Sign marks.Comma ∷ (Sign k ∷ args)) xs ys h e = absurd (true≢false (sym h))
no_paren (Sign marks.ParenOpen ∷ args) xs ys h e = absurd (true≢false (sym h))
no_paren (Sign marks.ParenClose ∷ args) xs ys h e = absurd (true≢false (sym h))
no_paren (Sign marks.BraceOpen ∷ args) xs ys h e = absurd (true≢false (sym h))
no_paren (Sign marks.BraceClose ∷ args) xs ys h e = absurd (true≢false (sym h))
no_paren (Sign marks.Colon ∷ args) xs ys h e = absurd (true≢false (sym h))
no_paren (Sign marks.Semicolon ∷ args) xs ys h e = absurd (true≢false (sym h))
no_paren (Sign marks.LineEnd ∷ args) xs ys h e = absurd (true≢false (sym h))
no_paren (Sign marks.Broken ∷ args) xs ys h e = absurd (true≢false (sym h))

no_paren_args : (args : List Token) (xs ys : List Token) → IsTrue (are_args args) → args ++ Sign marks.ParenClose ∷ [] ≡ xs ++ (Sign marks.ParenOpen ∷ ys) → ⊥
no_paren_args [] xs ys h e = no_paren [] xs ys refl e
no_paren_args (Name q w ∷ args) xs ys h e = no_paren (Name q w ∷ args) xs ys h e
no_paren_args (Sign k ∷ args) xs ys h e = absurd (true≢false (sym h))

abbrev head_of : List ℕ → List Token → List Token
head_of w args = Name false w ∷ (Sign marks.ParenOpen ∷ (args ++ Sign marks.ParenClose ∷ []))

one_head : (f g : List Token) (v w : List ℕ) (a b : List Token) → IsTrue (are_args a) → IsTrue (are_args b) → f ++ head_of v a ≡ g ++ head_of w b → length f ≡ length g
one_head [] [] v w a b x y e = refl
one_head (s ∷ f) (t ∷ g) v w a b x y e = ap suc (one_head f g v w a b x y (ap (drop 1) e))
one_head [] (t ∷ []) v w a b x y e = absurd cc
one_head [] (t ∷ (u ∷ g)) v w a b x y e = absurd (no_paren_args a (g ++ Name false w ∷ []) (b ++ Sign marks.ParenClose ∷ []) x (ap (drop 2) e ∙ sym (append_assoc g (Name false w ∷ []) (Sign marks.ParenOpen ∷ (b ++ Sign marks.ParenClose ∷ [])))))
one_head (s ∷ []) [] v w a b x y e = absurd cc
one_head (s ∷ (u ∷ f)) [] v w a b x y e = absurd (no_paren_args b (f ++ Name false v ∷ []) (a ++ Sign marks.ParenClose ∷ []) y (sym (ap (drop 2) e) ∙ sym (append_assoc f (Name false v ∷ []) (Sign marks.ParenOpen ∷ (a ++ Sign marks.ParenClose ∷ [])))))

-- ---- two faults of one text

module _ (end : ℕ) (tokens : List Placed) where
  size : length (bare tokens) ≡ length tokens
  size = length-map tokens (λ (t : Placed). t.token)

  off_off : (i j : ℕ) → LeavesForm end tokens i → LeavesForm end tokens j → i ≡ j
  off_off i j a b = a.is ∙ ap (index_in end tokens) (one_place Form (bare tokens) a.number b.number a.leaves b.leaves) ∙ sym b.is

  deep_deep : (i j : ℕ) → HasDeepGroup end tokens i → HasDeepGroup end tokens j → i ≡ j
  deep_deep i j a b =
      let same = one_place Limited (bare tokens) a.number b.number a.leaves b.leaves in
      a.is ∙ ap (index_in end tokens) (one_head a.front b.front a.word b.word a.args b.args a.are_args b.are_args (sym a.head ∙ ap (λ n. take n (bare tokens)) same ∙ b.head)) ∙ sym b.is

  deep_off : (i j : ℕ) → HasDeepGroup end tokens i → LeavesForm end tokens j → ⊥
  deep_off i j a b =
      let same = same_number a.number b.number
      (λ h. no_further Limited (bare tokens) a.number b.number a.leaves h b.leaves.within b.before.goes_on.0 b.before.goes_on.1)
      (λ h. no_further Form (bare tokens) b.number a.number b.leaves h a.leaves.within a.before.0 (limited_form (take a.number (bare tokens) ++ a.before.0) a.before.1)) in
      b.leaves.here (Sign marks.BraceOpen) (brace_after a).0 (ap (λ n. drop n (bare tokens)) (sym same) ∙ (brace_after a).1) a.goes_on.0 (subst Form (ap (λ xs. xs ++ a.goes_on.0) a.brace ∙ append_assoc (take a.number (bare tokens)) (Sign marks.BraceOpen ∷ []) a.goes_on.0 ∙ ap (λ n. take n (bare tokens) ++ Sign marks.BraceOpen ∷ a.goes_on.0) same) a.goes_on.1)
    where
      one_more : (xs : List Token) (n : ℕ) (t : Token) → take (suc n) xs ≡ take n xs ++ t ∷ [] → (rest : List Token) × (drop n xs ≡ t ∷ rest)
      one_more [] zero t e = absurd cc
      one_more (x ∷ xs) zero t e = let same : x ≡ t = cc in (xs, ap (λ y. y ∷ xs) same)
      one_more [] (suc n) t e = absurd cc
      one_more (x ∷ xs) (suc n) t e = one_more xs n t (ap (drop 1) e)

      brace_after : (a : HasDeepGroup end tokens i) → (rest : List Token) × (drop a.number (bare tokens) ≡ Sign marks.BraceOpen ∷ rest)
      brace_after a = one_more (bare tokens) a.number (Sign marks.BraceOpen) a.brace

  long_long : (i j : ℕ) → HasLongToken tokens i → HasLongToken tokens j → i ≡ j
  long_long i j a b =
      let same = same_number a.number b.number
      (λ h. let s = short_at tokens a.number b.number a.token a.after b.before.short h a.here in let l = a.long in absurd (omega arith))
      (λ h. let s = short_at tokens b.number a.number b.token b.after a.before.short h b.here in let l = b.long in absurd (omega arith)) in
      let tokens_same : a.token ∷ a.after ≡ b.token ∷ b.after = sym a.here ∙ ap (λ n. drop n tokens) same ∙ b.here in
      let token_same : a.token ≡ b.token = cc in
      a.is ∙ ap (λ (t : Placed). t.at) token_same ∙ sym b.is

  -- the word of a group that is too deep may be too long itself
  long_deep : (i j : ℕ) → HasLongToken tokens i → HasDeepGroup end tokens j → i ≡ j
  long_deep i j a b =
      let within = within_drop a.number tokens a.token a.after a.here in
      let first = a.first end j b in
      let same = same_number a.number (length b.front)
      (λ h. let s = short_at tokens a.number (length b.front) a.token a.after b.short h a.here in let l = a.long in absurd (omega arith))
      (λ h. absurd (omega arith)) in
      a.is ∙ index_at a.number tokens a.token a.after a.here ∙ ap (index_in end tokens) same ∙ sym b.is
    where
      index_at : (k : ℕ) (ts : List Placed) (t : Placed) (rest : List Placed) → drop k ts ≡ t ∷ rest → t.at ≡ index_in end ts k
      index_at zero ts t rest e = ap (λ xs. index_in end xs 0) (sym e)
      index_at (suc k) [] t rest e = absurd cc
      index_at (suc k) (x ∷ ts) t rest e = index_at k ts t rest e

  long_stop : (i : ℕ) → HasLongToken tokens i → (language : List Token → Type 0) → ((ts : List Token) → Limited ts → language ts) → (p : ℕ) → IsTrue (are_short (take (suc p) tokens)) → Leaves Token language (bare tokens) p → ⊥
  long_stop i a language from p short h = by (compare_numbers p a.number)
    where
      compare_numbers : (x y : ℕ) → (x < y) ⊎ (y < suc x)
      compare_numbers zero zero = inr (omega arith)
      compare_numbers zero (suc y) = inl (omega arith)
      compare_numbers (suc x) zero = inr (omega arith)
      compare_numbers (suc x) (suc y) = elim (compare_numbers x y) [ inl l ↦ inl (omega arith) | inr l ↦ inr (omega arith) ]

      inside : a.number ≤ length (bare tokens)
      inside = let w = within_drop a.number tokens a.token a.after a.here in let s = size in omega arith

      by : (p < a.number) ⊎ (a.number < suc p) → ⊥
      by (inl less) = no_further language (bare tokens) p a.number h less inside a.before.goes_on.0 (from (take a.number (bare tokens) ++ a.before.goes_on.0) a.before.goes_on.1)
      by (inr less) = let s = short_at tokens a.number (suc p) a.token a.after short less a.here in let l = a.long in absurd (omega arith)

-- ---- whole answers

same_tokens : (text : List ℕ) (t u : List Placed) → IsTokens text t → IsTokens text u → u ≡ t
same_tokens text t u s r = one_listing contexts.Statement 0 text u t r s

pub read_once : (file : ℕ) (text : List ℕ) (groups : List GroupView) (r : Refusal) → Denotes text groups → RefusedAs file text r → r ≡ refusals.NoMemory
read_once file text groups r d (denotes.Large h) = let small = d.small in absurd (omega arith)
read_once file text groups r d (denotes.Long tokens index small s h) =
    let g = subst (λ (ts : List Placed). HasLongToken ts index) (same_tokens text d.tokens tokens d.stand s) h in
    let w = within_drop g.number d.tokens g.token g.after g.here in
    let short = short_at d.tokens g.number (length d.tokens) g.token g.after (ap are_short (take_all (length d.tokens) d.tokens (omega arith)) ∙ d.short) w g.here in
    let long = g.long in
    absurd (omega arith)
read_once file text groups r d (denotes.Deep tokens index small s h) =
    let g = subst (λ (ts : List Placed). HasDeepGroup (length text) ts index) (same_tokens text d.tokens tokens d.stand s) h in
    absurd (not_whole Limited (bare d.tokens) g.number g.leaves d.limited)
read_once file text groups r d (denotes.Off tokens index small s h) =
    let g = subst (λ (ts : List Placed). LeavesForm (length text) ts index) (same_tokens text d.tokens tokens d.stand s) h in
    absurd (not_whole Form (bare d.tokens) g.number g.leaves (limited_form (bare d.tokens) d.limited))
read_once file text groups r d denotes.NoMemory = refl

-- the refusal of a fault is the only one
abbrev OneRefusal : Refusal → Refusal → Type 0
OneRefusal r s = (r ≡ refusals.NoMemory) ⊎ ((s ≡ refusals.NoMemory) ⊎ (r ≡ s))

module _ (file : ℕ) (text : List ℕ) where
  abbrev limit : ℕ → Refusal
  limit i = library_refusal (faults.Limit file (place_in text i))

  abbrev syntax_at : ℕ → Refusal
  syntax_at i = library_refusal (faults.Syntax file (place_in text i))

  with_long : (tokens : List Placed) (i : ℕ) → length text ≤ 67108864 → IsTokens text tokens → HasLongToken tokens i → (s : Refusal) → RefusedAs file text s → OneRefusal (limit i) s
  with_long tokens i small t h s (denotes.Large g) = absurd (omega arith)
  with_long tokens i small t h s (denotes.Long others j small2 u g) = inr (inr (ap limit (long_long (length text) tokens i j h (subst (λ (ts : List Placed). HasLongToken ts j) (same_tokens text tokens others t u) g))))
  with_long tokens i small t h s (denotes.Deep others j small2 u g) = inr (inr (ap limit (long_deep (length text) tokens i j h (subst (λ (ts : List Placed). HasDeepGroup (length text) ts j) (same_tokens text tokens others t u) g))))
  with_long tokens i small t h s (denotes.Off others j small2 u g) = let k = subst (λ (ts : List Placed). LeavesForm (length text) ts j) (same_tokens text tokens others t u) g in absurd (long_stop (length text) tokens i h Form limited_form k.number k.short k.leaves)
  with_long tokens i small t h s denotes.NoMemory = inr (inl refl)

  with_deep : (tokens : List Placed) (i : ℕ) → length text ≤ 67108864 → IsTokens text tokens → HasDeepGroup (length text) tokens i → (s : Refusal) → RefusedAs file text s → OneRefusal (limit i) s
  with_deep tokens i small t h s (denotes.Large g) = absurd (omega arith)
  with_deep tokens i small t h s (denotes.Long others j small2 u g) = inr (inr (ap limit (sym (long_deep (length text) tokens j i (subst (λ (ts : List Placed). HasLongToken ts j) (same_tokens text tokens others t u) g) h))))
  with_deep tokens i small t h s (denotes.Deep others j small2 u g) = inr (inr (ap limit (deep_deep (length text) tokens i j h (subst (λ (ts : List Placed). HasDeepGroup (length text) ts j) (same_tokens text tokens others t u) g))))
  with_deep tokens i small t h s (denotes.Off others j small2 u g) = absurd (deep_off (length text) tokens i j h (subst (λ (ts : List Placed). LeavesForm (length text) ts j) (same_tokens text tokens others t u) g))
  with_deep tokens i small t h s denotes.NoMemory = inr (inl refl)

  with_off : (tokens : List Placed) (i : ℕ) → length text ≤ 67108864 → IsTokens text tokens → LeavesForm (length text) tokens i → (s : Refusal) → RefusedAs file text s → OneRefusal (syntax_at i) s
  with_off tokens i small t h s (denotes.Large g) = absurd (omega arith)
  with_off tokens i small t h s (denotes.Long others j small2 u g) = let k = subst (λ (ts : List Placed). HasLongToken ts j) (same_tokens text tokens others t u) g in absurd (long_stop (length text) tokens j k Form limited_form h.number h.short h.leaves)
  with_off tokens i small t h s (denotes.Deep others j small2 u g) = absurd (deep_off (length text) tokens j i (subst (λ (ts : List Placed). HasDeepGroup (length text) ts j) (same_tokens text tokens others t u) g) h)
  with_off tokens i small t h s (denotes.Off others j small2 u g) = inr (inr (ap syntax_at (off_off (length text) tokens i j h (subst (λ (ts : List Placed). LeavesForm (length text) ts j) (same_tokens text tokens others t u) g))))
  with_off tokens i small t h s denotes.NoMemory = inr (inl refl)

  with_large : 67108864 < length text → (s : Refusal) → RefusedAs file text s → OneRefusal (limit 0) s
  with_large h s (denotes.Large g) = inr (inr refl)
  with_large h s (denotes.Long tokens i small u g) = absurd (omega arith)
  with_large h s (denotes.Deep tokens i small u g) = absurd (omega arith)
  with_large h s (denotes.Off tokens i small u g) = absurd (omega arith)
  with_large h s denotes.NoMemory = inr (inl refl)

  pub refused_once : (r s : Refusal) → RefusedAs file text r → RefusedAs file text s → OneRefusal r s
  refused_once r s (denotes.Large h) y = with_large h s y
  refused_once r s (denotes.Long tokens i small t h) y = with_long tokens i small t h s y
  refused_once r s (denotes.Deep tokens i small t h) y = with_deep tokens i small t h s y
  refused_once r s (denotes.Off tokens i small t h) y = with_off tokens i small t h s y
  refused_once r s denotes.NoMemory y = inl refl
