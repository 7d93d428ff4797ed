-- The ranges of vectors by the texts of their names: of each name the first counts.
use Rattle.std.proofs.Common.{◌≡◌, ℕ, ◌+◌, ◌<◌, length, drop, get_or, Bool, true, false, cond, List, [], ◌∷◌, ◌++◌, map, Option, None, Some, refl, sym, ap, ◌∙◌, subst, append_assoc}
use Rattle.std.specs.Option.{is_some}
use Rattle.std.specs.Map.{lookup}
use Rattle.lp_text.specs.Texts.{same_text, same_text-true}
use Rattle.lp_model.specs.declared.netlist.BitRange.{BitRange}
use Rattle.std.specs.Option.{option_map}
use Rattle.std.proofs.lemmas.List.{map-append, drop_more}
use Rattle.std.proofs.lemmas.List.Elements.{filter_map-append}
use Rattle.lp_vwrite.specs.Layout.{range_in, vectors_among}

-- a search by a view of the keys
pub lookup-view : {K X : Type 0} (view : K → List ℕ) (name : List ℕ) (es : List (K × X)) → lookup (λ k. same_text name (view k)) es ≡ lookup (same_text name) (map (λ e. (view e.0, e.1)) es)
lookup-view view name [] = refl
lookup-view {K} {X} view name (e ∷ es) = ap (λ (o : Option X). cond (same_text name (view e.0)) (Some e.1) o) (lookup-view view name es)

abbrev pub or_else : {A : Type 0} → Option A → Option A → Option A
or_else None b = b
or_else (Some x) b = Some x

pub lookup-append : {K X : Type 0} (test : K → Bool) (xs ys : List (K × X)) → lookup test (xs ++ ys) ≡ or_else (lookup test xs) (lookup test ys)
lookup-append test [] ys = refl
lookup-append test (e ∷ xs) ys = by (test e.0) (lookup-append test xs ys)
  where
    by : (b : Bool) → lookup test (xs ++ ys) ≡ or_else (lookup test xs) (lookup test ys) → cond b (Some e.1) (lookup test (xs ++ ys)) ≡ or_else (cond b (Some e.1) (lookup test xs)) (lookup test ys)
    by true h = refl
    by false h = h

-- two tables that say the same go on to do so
pub ranges-append : (a b more : List (List ℕ × BitRange)) (t : List ℕ) → range_in a t ≡ range_in b t → range_in (a ++ more) t ≡ range_in (b ++ more) t
ranges-append a b more t h =
    lookup-append (same_text t) a more ∙ ap (λ (o : Option BitRange). or_else o (range_in more t)) h ∙ sym (lookup-append (same_text t) b more)

-- a name that has a range keeps it
pub range-again : (vs : List (List ℕ × BitRange)) (name : List ℕ) (r : BitRange) → is_some (range_in vs name) ≡ true → (t : List ℕ) → range_in vs t ≡ range_in (vs ++ (name, r) ∷ []) t
range-again vs name r h t = by (same_text t name) refl (range_in vs t) refl
  where
    by : (b : Bool) → same_text t name ≡ b → (o : Option BitRange) → range_in vs t ≡ o → range_in vs t ≡ range_in (vs ++ (name, r) ∷ []) t
    by b e (Some x) s = s ∙ sym (lookup-append (same_text t) vs ((name, r) ∷ []) ∙ ap (λ (o : Option BitRange). or_else o (range_in ((name, r) ∷ []) t)) s)
    by false e None s =
        let last : range_in ((name, r) ∷ []) t ≡ None = rw e refl in
        s ∙ sym (lookup-append (same_text t) vs ((name, r) ∷ []) ∙ ap (λ (o : Option BitRange). or_else o (range_in ((name, r) ∷ []) t)) s ∙ last)
    by true e None s =
        let here : range_in vs name ≡ None = subst (λ x. range_in vs x ≡ None) (same_text-true t name e) s in
        let no : false ≡ true = sym (ap (λ (o : Option BitRange). is_some o) here) ∙ h in
        absurd cc

-- the ranges of some declarations and of more
pub ranges-more : (old : List (List ℕ × BitRange)) (xs ys : List (List ℕ × Option BitRange)) (t : List ℕ) → range_in old t ≡ range_in (vectors_among xs) t → range_in (old ++ vectors_among ys) t ≡ range_in (vectors_among (xs ++ ys)) t
ranges-more old xs ys t h =
    ranges-append old (vectors_among xs) (vectors_among ys) t h ∙ ap (λ vs. range_in vs t) (sym (filter_map-append (λ n. option_map (λ r. (n.0, r)) n.1) xs ys))

pub none_from : {A : Type 0} (o : Option A) → is_some o ≡ false → o ≡ None
none_from None h = refl
none_from (Some x) h = absurd cc

-- a new key comes last
pub range-new : {K : Type 0} (view : K → List ℕ) (es new : List (K × BitRange)) (k : K) (r : BitRange) (vs : List (List ℕ × BitRange)) (name : List ℕ) → map (λ e. (view e.0, e.1)) es ≡ vs → view k ≡ name → new ≡ es ++ (k, r) ∷ [] → (t : List ℕ) → range_in (map (λ e. (view e.0, e.1)) new) t ≡ range_in (vs ++ (name, r) ∷ []) t
range-new {K} view es new k r vs name seen named is t =
    ap (λ (xs : List (K × BitRange)). range_in (map (λ e. (view e.0, e.1)) xs) t) is ∙ rw (map-append, seen, named) refl

-- one more declaration is taken over
module _ {X Y : Type 0} (g : X → Y) (f : Y → List ℕ × Option BitRange) (items : List X) (i : ℕ) (d : X) where
  pub ranges-step : (old new : List (List ℕ × BitRange)) (all : List ℕ → Option BitRange) → i < length items
      → ((t : List ℕ) → range_in new t ≡ range_in (old ++ vectors_among (f (g (get_or items i d)) ∷ [])) t)
      → ((t : List ℕ) → range_in (old ++ vectors_among (map f (map g (drop i items)))) t ≡ all t)
      → (t : List ℕ) → range_in (new ++ vectors_among (map f (map g (drop (i + 1) items)))) t ≡ all t
  ranges-step old new all within now before t =
      let x = f (g (get_or items i d)) in
      let rest = map f (map g (drop (i + 1) items)) in
      let behind : x ∷ rest ≡ map f (map g (drop i items)) = ap (λ (xs : List X). map f (map g xs)) (sym (drop_more items i d within)) in
      let both : vectors_among (x ∷ []) ++ vectors_among rest ≡ vectors_among (x ∷ rest) = sym (filter_map-append (λ n. option_map (λ r. (n.0, r)) n.1) (x ∷ []) rest) in
      ranges-append new (old ++ vectors_among (x ∷ [])) (vectors_among rest) t (now t) ∙ ap (λ vs. range_in vs t) (append_assoc old (vectors_among (x ∷ [])) (vectors_among rest) ∙ ap (λ vs. old ++ vs) (both ∙ ap vectors_among behind)) ∙ before t
