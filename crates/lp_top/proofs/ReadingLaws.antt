-- One more file that is read.
use Rattle.std.proofs.Common.{◌≡◌, ℕ, ◌+◌, ◌≤◌, ◌<◌, List, [], ◌∷◌, ◌++◌, length, map, take, Option, Some, None, Bor, refl, sym, ◌∙◌, ap, subst, add-one, get_or}
use Rattle.std.specs.Prelude.{Result, Ok, Err, OnOk, is_err, false}
use Rattle.std.specs.Option.{option_map, IfSome}
use Rattle.std.proofs.lemmas.Bool.{false≢true}
use Rattle.std.specs.List.{AllByRecursion}
use Rattle.std.proofs.lemmas.List.{map-append, take_more, get_or-map, length-map}
use Rattle.lp_text.specs.Shelf.{Files, count_up, content}
use Rattle.lp_plain_upf.specs.Names.{Name}
use Rattle.lp_top.specs.Reading.{count_more, IsShort, HoldsAll}

pub count_more-step : (i : ℕ) (old : Option ℕ) → option_map count_up (option_map (count_more i) old) ≡ option_map (count_more (i + 1)) old
count_more-step i None = refl
count_more-step i (Some n) = ap (λ k. Some (count_more k n)) (sym (add-one i))

all-append : (files : Files) (xs ys : List Name) → AllByRecursion (IsShort files) xs → AllByRecursion (IsShort files) ys → AllByRecursion (IsShort files) (xs ++ ys)
all-append files [] ys a b = b
all-append files (x ∷ xs) ys a b = (a.0, all-append files xs ys a.1 b)

pub holds-more : (held : Option Files) (names : List Name) (texts : List (List ℕ)) (name : Name) (text : List ℕ) → HoldsAll held names texts → IfSome held (λ files. text ≡ content files name) → length text ≤ 67108864 → HoldsAll held (names ++ name ∷ []) (texts ++ text ∷ [])
holds-more None names texts name text h e short = tt
holds-more (Some files) names texts name text h e short = (
  (λ i. h.0 i ++ e i ∷ []) ∙ sym (map-append (content files) names (name ∷ [])),
  all-append files names (name ∷ []) h.1 (subst (λ t. length t ≤ 67108864) e short, tt),
)

-- the names so far and the next one
pub names-more : (names : List (Bor (List ℕ))) (i : ℕ) (d : Bor (List ℕ)) → i < length names → take (i + 1) (map (λ n. n.now) names) ≡ take i (map (λ n. n.now) names) ++ (get_or names i d).now ∷ []
names-more names i d h =
    take_more (map (λ n. n.now) names) i d.now (subst (λ k. i < k) (sym (length-map names (λ n. n.now))) h)
    ∙ ap (λ n. take i (map (λ n. n.now) names) ++ n ∷ []) (get_or-map (λ n. n.now) names i d d.now h)

-- before the first file nothing is read
pub holds-none : (held : Option Files) → HoldsAll held [] []
holds-none None = tt
holds-none (Some files) = (refl, tt)

pub count_more-none : (old : Option ℕ) → old ≡ option_map (count_more 0) old
count_more-none None = refl
count_more-none (Some n) = refl

-- a result that is no error is Ok
pub on_ok : {A E : Type 0} (r : Result A E) (P : Type 0) → OnOk r P → is_err r ≡ false → P
on_ok (Ok a) P h e = h
on_ok (Err x) P h e = absurd (false≢true (sym e))
