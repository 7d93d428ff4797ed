-- The parts of a tree: its names, and its steps.
use Rattle.std.proofs.Common.{◌≡◌, ℕ, ◌+◌, ◌≤◌, Bool, true, false, List, [], ◌∷◌, ◌++◌, length, ◌&&◌, refl, sym, ap, ◌∙◌, arith, length-append, append_assoc, not}
use Rattle.std.specs.Prelude.{map, IsTrue, bytes_eq, if◌then◌else◌, flat_map, nat_le, ◌==◌}
use Rattle.std.specs.List.{list_all}
use Rattle.std.proofs.lemmas.List.{map-append, append-nil, length-map}
use Rattle.std.proofs.lemmas.List.Folds.{list_all-append}
use Rattle.lp_tern.specs.Expression.{Expression, Variable, Constant, variables}
use Rattle.lp_expr.specs.declared.dialect.Dialect.{Dialect}
use Rattle.lp_expr.specs.declared.dialect.Sign.{Sign}
use Rattle.lp_expr.specs.declared.dialect.Sign.TheVariants as signs
use Rattle.lp_expr.specs.declared.dialect.Part.{Part}
use Rattle.lp_expr.specs.declared.step.Step.TheVariants as steps
use Rattle.lp_expr.specs.Grammar.{Tree, Plain, Quoted, Group, Prefixed, Postfixed, Joined, spelling, is_tree, is_name, is_filled, are_blank, is_prefix, is_liberty, is_inner, height, fits_gap, lead, sign_bytes, plain, joined, meaning}
use Rattle.lp_expr.specs.Parts.{Item, Bare, Negated, Joint, tree_items, item_of, ReadsParts}
use Rattle.lp_expr.specs.Postfix.{postfix}
use Rattle.lp_expr.specs.Denotes.{item_names, is_named, are_named, operation, item_step, number_in, parts_names, parts_steps}
use Rattle.lp_expr.proofs.Found.{conj_left, conj_right}
use Rattle.lp_expr.proofs.Again.{joined_parts}

-- ---- names stand where they have to

items_named : (d : Dialect) (t : Tree) → IsTrue (is_tree d t) → list_all is_named (tree_items t) ≡ true
items_named d (Plain gap name) h = rw (conj_right (are_blank gap) (is_name name) h) refl
items_named d (Quoted gap name) h = rw (conj_left (is_name name) (is_liberty d) (conj_right (are_blank gap) (is_name name && is_liberty d) h)) refl
items_named d (Group gap t end) h = items_named d t (conj_left (is_tree d t) (are_blank end) (conj_right (are_blank gap) (is_tree d t && are_blank end) h))
items_named d (Prefixed gap m t) h =
    let inside = conj_right (is_prefix d m) (is_tree d t && nat_le (height d t) 1) (conj_right (are_blank gap) (is_prefix d m && (is_tree d t && nat_le (height d t) 1)) h) in
    rw (list_all-append is_named (tree_items t) (Negated ∷ []), items_named d t (conj_left (is_tree d t) (nat_le (height d t) 1) inside)) refl
items_named d (Postfixed t gap) h =
    let inside = conj_right (is_liberty d) (is_tree d t && ((height d t == 0) && are_blank gap)) h in
    rw (list_all-append is_named (tree_items t) (Negated ∷ []), items_named d t (conj_left (is_tree d t) ((height d t == 0) && are_blank gap) inside)) refl
items_named d (Joined l gap s r) h =
    let parts = joined_parts d l gap s r h in
    rw (list_all-append is_named (tree_items l) (tree_items r ++ Joint s ∷ []), items_named d l parts.left_tree, list_all-append is_named (tree_items r) (Joint s ∷ []), items_named d r parts.right_tree) refl

list_all-map : {A B : Type 0} (f : A → B) (p : B → Bool) (xs : List A) → list_all p (map f xs) ≡ list_all (λ x. p (f x)) xs
list_all-map f p [] = refl
list_all-map f p (x ∷ xs) = ap (λ b. p (f x) && b) (list_all-map f p xs)

pub named : (d : Dialect) (text : List ℕ) (read : List Part) → ReadsParts d text read → are_named text read ≡ true
named d text read h = sym (list_all-map (item_of text) is_named read) ∙ ap (list_all is_named) h.same ∙ items_named d h.spells.tree h.spells.good

-- ---- each part has a byte

filled_size : (xs : List ℕ) → is_filled xs ≡ true → 1 ≤ length xs
filled_size [] e = absurd cc
filled_size (x ∷ xs) e = omega arith

sign_size : (s : Sign) (gap next : List ℕ) → IsTrue (fits_gap s gap next) → 1 ≤ length gap + length (sign_bytes s)
sign_size signs.Gap gap next h = let one = filled_size gap (conj_left (is_filled gap) (not (is_filled next)) h) in omega arith
sign_size signs.Caret gap next h = omega arith
sign_size signs.Star gap next h = omega arith
sign_size signs.Ampersand gap next h = omega arith
sign_size signs.Plus gap next h = omega arith
sign_size signs.Bar gap next h = omega arith
sign_size signs.TwoAmpersands gap next h = omega arith
sign_size signs.TwoBars gap next h = omega arith

items_size : (d : Dialect) (t : Tree) → IsTrue (is_tree d t) → length (tree_items t) ≤ length (spelling t)
items_size d (Plain gap name) h = let one = filled_size name (conj_left (is_filled name) (list_all is_inner name) (conj_right (are_blank gap) (is_name name) h)) in omega (arith, length-append gap name)
items_size d (Quoted gap name) h = omega (arith, length-append gap (34 ∷ (name ++ 34 ∷ [])))
items_size d (Group gap t end) h =
    let rest = items_size d t (conj_left (is_tree d t) (are_blank end) (conj_right (are_blank gap) (is_tree d t && are_blank end) h)) in
    omega (arith, length-append gap (40 ∷ (spelling t ++ (end ++ 41 ∷ []))), length-append (spelling t) (end ++ 41 ∷ []))
items_size d (Prefixed gap m t) h =
    let inside = conj_right (is_prefix d m) (is_tree d t && nat_le (height d t) 1) (conj_right (are_blank gap) (is_prefix d m && (is_tree d t && nat_le (height d t) 1)) h) in
    let rest = items_size d t (conj_left (is_tree d t) (nat_le (height d t) 1) inside) in
    omega (arith, length-append gap (m ∷ spelling t), length-append (tree_items t) (Negated ∷ []))
items_size d (Postfixed t gap) h =
    let inside = conj_right (is_liberty d) (is_tree d t && ((height d t == 0) && are_blank gap)) h in
    let rest = items_size d t (conj_left (is_tree d t) ((height d t == 0) && are_blank gap) inside) in
    omega (arith, length-append (spelling t) (gap ++ 39 ∷ []), length-append gap (39 ∷ []), length-append (tree_items t) (Negated ∷ []))
items_size d (Joined l gap s r) h =
    let parts = joined_parts d l gap s r h in
    let left = items_size d l parts.left_tree in
    let right = items_size d r parts.right_tree in
    let sign = sign_size s gap (lead r) parts.fits in
    omega (arith, length-append (spelling l) (gap ++ (sign_bytes s ++ spelling r)), length-append gap (sign_bytes s ++ spelling r), length-append (sign_bytes s) (spelling r), length-append (tree_items l) (tree_items r ++ Joint s ∷ []), length-append (tree_items r) (Joint s ∷ []))

pub few : (d : Dialect) (text : List ℕ) (read : List Part) → ReadsParts d text read → length read ≤ length text
few d text read h =
    let items : length read ≡ length (tree_items h.spells.tree) = sym (length-map read (item_of text)) ∙ ap length h.same in
    let size = items_size d h.spells.tree h.spells.good in
    let whole : length text ≡ length (spelling h.spells.tree) + length h.spells.tail = ap length h.spells.spelled ∙ length-append (spelling h.spells.tree) h.spells.tail in
    omega arith

-- ---- the names and the steps of a tree

names-append : (xs ys : List Item) → flat_map item_names (xs ++ ys) ≡ flat_map item_names xs ++ flat_map item_names ys
names-append [] ys = refl
names-append (x ∷ xs) ys = ap (λ zs. item_names x ++ zs) (names-append xs ys) ∙ sym (append_assoc (item_names x) (flat_map item_names xs) (flat_map item_names ys))

joined_variables : (s : Sign) (e f : Expression) → variables (joined s e f) ≡ variables e ++ variables f
joined_variables signs.Caret e f = refl
joined_variables signs.Star e f = refl
joined_variables signs.Ampersand e f = refl
joined_variables signs.Gap e f = refl
joined_variables signs.Plus e f = refl
joined_variables signs.Bar e f = refl
joined_variables signs.TwoAmpersands e f = refl
joined_variables signs.TwoBars e f = refl

tree_names : (t : Tree) → flat_map item_names (tree_items t) ≡ variables (meaning t)
tree_names (Plain gap name) = append-nil (variables (plain name))
tree_names (Quoted gap name) = refl
tree_names (Group gap t end) = tree_names t
tree_names (Prefixed gap m t) = names-append (tree_items t) (Negated ∷ []) ∙ append-nil (flat_map item_names (tree_items t)) ∙ tree_names t
tree_names (Postfixed t gap) = names-append (tree_items t) (Negated ∷ []) ∙ append-nil (flat_map item_names (tree_items t)) ∙ tree_names t
tree_names (Joined l gap s r) =
    names-append (tree_items l) (tree_items r ++ Joint s ∷ []) ∙ ap (λ xs. flat_map item_names (tree_items l) ++ xs) (names-append (tree_items r) (Joint s ∷ []) ∙ append-nil (flat_map item_names (tree_items r)))
    ∙ ap (λ xs. xs ++ flat_map item_names (tree_items r)) (tree_names l) ∙ ap (λ xs. variables (meaning l) ++ xs) (tree_names r) ∙ sym (joined_variables s (meaning l) (meaning r))

flat_map-map : {A B C : Type 0} (f : A → B) (g : B → List C) (xs : List A) → flat_map g (map f xs) ≡ flat_map (λ x. g (f x)) xs
flat_map-map f g [] = refl
flat_map-map f g (x ∷ xs) = ap (λ ys. g (f x) ++ ys) (flat_map-map f g xs)

-- the names of the parts are those of the expression
pub names_of : (d : Dialect) (text : List ℕ) (read : List Part) → (h : ReadsParts d text read) → parts_names text read ≡ variables (meaning h.spells.tree)
names_of d text read h = sym (flat_map-map (item_of text) item_names read) ∙ ap (flat_map item_names) h.same ∙ tree_names h.spells.tree

bare_step : (texts : List (List ℕ)) (n : List ℕ) → item_step texts (Bare n) ∷ [] ≡ postfix (number_in texts) (plain n)
bare_step texts n = by (bytes_eq n (48 ∷ [])) (bytes_eq n (49 ∷ []))
  where
    by : (a b : Bool) → (if a then steps.Constant false else if b then steps.Constant true else steps.Variable (number_in texts n)) ∷ [] ≡ postfix (number_in texts) (if a then Constant false else if b then Constant true else Variable n)
    by true b = refl
    by false true = refl
    by false false = refl

joined_steps : (number : List ℕ → ℕ) (s : Sign) (e f : Expression) → postfix number (joined s e f) ≡ postfix number e ++ (postfix number f ++ operation s ∷ [])
joined_steps number signs.Caret e f = refl
joined_steps number signs.Star e f = refl
joined_steps number signs.Ampersand e f = refl
joined_steps number signs.Gap e f = refl
joined_steps number signs.Plus e f = refl
joined_steps number signs.Bar e f = refl
joined_steps number signs.TwoAmpersands e f = refl
joined_steps number signs.TwoBars e f = refl

tree_steps : (texts : List (List ℕ)) (t : Tree) → map (item_step texts) (tree_items t) ≡ postfix (number_in texts) (meaning t)
tree_steps texts (Plain gap name) = bare_step texts name
tree_steps texts (Quoted gap name) = refl
tree_steps texts (Group gap t end) = tree_steps texts t
tree_steps texts (Prefixed gap m t) = map-append (item_step texts) (tree_items t) (Negated ∷ []) ∙ ap (λ xs. xs ++ steps.Not ∷ []) (tree_steps texts t)
tree_steps texts (Postfixed t gap) = map-append (item_step texts) (tree_items t) (Negated ∷ []) ∙ ap (λ xs. xs ++ steps.Not ∷ []) (tree_steps texts t)
tree_steps texts (Joined l gap s r) =
    map-append (item_step texts) (tree_items l) (tree_items r ++ Joint s ∷ []) ∙ ap (λ xs. map (item_step texts) (tree_items l) ++ xs) (map-append (item_step texts) (tree_items r) (Joint s ∷ []))
    ∙ ap (λ xs. xs ++ (map (item_step texts) (tree_items r) ++ operation s ∷ [])) (tree_steps texts l) ∙ ap (λ xs. postfix (number_in texts) (meaning l) ++ (xs ++ operation s ∷ [])) (tree_steps texts r) ∙ sym (joined_steps (number_in texts) s (meaning l) (meaning r))

map-map : {A B C : Type 0} (f : A → B) (g : B → C) (xs : List A) → map g (map f xs) ≡ map (λ x. g (f x)) xs
map-map f g [] = refl
map-map f g (x ∷ xs) = ap (λ ys. g (f x) ∷ ys) (map-map f g xs)

-- the steps of the parts are those of the expression
pub steps_are : (d : Dialect) (texts : List (List ℕ)) (text : List ℕ) (read : List Part) → (h : ReadsParts d text read) → parts_steps texts text read ≡ postfix (number_in texts) (meaning h.spells.tree)
steps_are d texts text read h = sym (map-map (item_of text) (item_step texts) read) ∙ ap (map (item_step texts)) h.same ∙ tree_steps texts h.spells.tree
