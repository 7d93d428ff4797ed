-- The groups that a state of the machine shows.
use Rattle.std.proofs.Common.{◌≡◌, ℕ, zero, suc, ◌+◌, true, false, List, [], ◌∷◌, ◌++◌, length, length-append, Option, Some, None, refl, sym, ap, ◌∙◌, arith, append_assoc, add-zero, zero-add}
use Rattle.std.specs.Prelude.{IsTrue}
use Rattle.std.proofs.lemmas.List.{append-nil}
use Rattle.std.proofs.lemmas.Bool.{true≢false}
use Rattle.lp_model.specs.GroupsView.{AttrView, GroupView}
use Rattle.lp_liberty.specs.Grammar as grammar
use Rattle.lp_liberty.specs.Grammar.{Token, Name, Sign, Body, End, Semi, Simple, Complex, Group}
use Rattle.lp_liberty.specs.Meaning.{attribute, attributes, count, header, groups_in}
use Rattle.lp_liberty.proofs.Joined.{is_open}
use Rattle.lp_liberty.proofs.Zipper.{joined, Frame}

pub attributes-joined : (a b : Body) → IsTrue (is_open a) → attributes (joined a b) ≡ attributes a ++ attributes b
attributes-joined End b h = refl
attributes-joined (grammar.Last w items) b h = absurd (true≢false (sym h))
attributes-joined (Semi rest) b h = attributes-joined rest b h
attributes-joined (Simple w items end rest) b h = ap (λ xs. attribute false w items ∷ xs) (attributes-joined rest b h)
attributes-joined (Complex w args rest) b h = ap (λ xs. attribute true w args ∷ xs) (attributes-joined rest b h)
attributes-joined (Group w args body rest) b h = attributes-joined rest b h

pub groups-joined : (p : Option ℕ) (n : ℕ) (a b : Body) → IsTrue (is_open a) → groups_in p n (joined a b) ≡ groups_in p n a ++ groups_in p (n + count a) b
groups-joined p n End b h = ap (λ k. groups_in p k b) (sym (add-zero n))
groups-joined p n (grammar.Last w items) b h = absurd (true≢false (sym h))
groups-joined p n (Semi rest) b h = groups-joined p n rest b h
groups-joined p n (Simple w items end rest) b h = groups-joined p n rest b h
groups-joined p n (Complex w args rest) b h = groups-joined p n rest b h
groups-joined p n (Group w args body rest) b h =
    let behind = suc n + count body in
    let number : behind + count rest ≡ n + suc (count body + count rest) = omega arith in
    ap (λ xs. header p w args (attributes body) ∷ (groups_in (Some n) (suc n) body ++ xs)) (groups-joined p behind rest b h ∙ ap (λ k. groups_in p behind rest ++ groups_in p k b) number)
    ∙ ap (λ xs. header p w args (attributes body) ∷ xs) (sym (append_assoc (groups_in (Some n) (suc n) body) (groups_in p behind rest) (groups_in p (n + suc (count body + count rest)) b)))

pub length-groups : (p : Option ℕ) (n : ℕ) (b : Body) → length (groups_in p n b) ≡ count b
length-groups p n End = refl
length-groups p n (grammar.Last w items) = refl
length-groups p n (Semi rest) = length-groups p n rest
length-groups p n (Simple w items end rest) = length-groups p n rest
length-groups p n (Complex w args rest) = length-groups p n rest
length-groups p n (Group w args body rest) = ap suc (length-append (groups_in (Some n) (suc n) body) (groups_in p (suc n + count body) rest) ∙ (let a = length-groups (Some n) (suc n) body in let b = length-groups p (suc n + count body) rest in cc))

-- all statements, where every open group ended here
abbrev pub plug : List Frame → Body → Body
plug [] d = d
plug (f ∷ fs) d = plug fs (joined f.before (Group f.word f.args d End))

abbrev pub shown : List Frame → Body → List GroupView
shown fs d = groups_in None 0 (plug fs d)

-- the number of the first group within the innermost open one, and those of the open ones
abbrev pub base : List Frame → ℕ
base [] = 0
base (f ∷ fs) = suc (base fs + count f.before)

abbrev pub own : List Frame → Option ℕ
own [] = None
own (f ∷ fs) = Some (base fs + count f.before)

abbrev pub numbers : List Frame → List ℕ
numbers [] = []
numbers (f ∷ fs) = (base fs + count f.before) ∷ numbers fs

abbrev pub AllOpen : List Frame → Type 0
AllOpen [] = Unit {0}
AllOpen (f ∷ fs) = IsTrue (is_open f.before) × AllOpen fs

pub shown_more : (fs : List Frame) (d x : Body) → AllOpen fs → IsTrue (is_open d) → attributes x ≡ [] → shown fs (joined d x) ≡ shown fs d ++ groups_in (own fs) (base fs + count d) x
shown_more [] d x a h none = groups-joined None 0 d x h
shown_more (f ∷ fs) d x a h none =
    let k = base fs + count f.before in
    let whole = shown_more fs f.before (Group f.word f.args (joined d x) End) a.1 a.0 refl in
    let part = shown_more fs f.before (Group f.word f.args d End) a.1 a.0 refl in
    let all : attributes (joined d x) ≡ attributes d = attributes-joined d x h ∙ ap (λ xs. attributes d ++ xs) none ∙ append-nil (attributes d) in
    let head = header (own fs) f.word f.args (attributes d) in
    let behind = groups_in (Some k) (suc k + count d) x in
    whole
    ∙ ap (λ attrs. shown fs f.before ++ (header (own fs) f.word f.args attrs ∷ (groups_in (Some k) (suc k) (joined d x) ++ []))) all
    ∙ ap (λ xs. shown fs f.before ++ (head ∷ xs)) (append-nil (groups_in (Some k) (suc k) (joined d x)) ∙ groups-joined (Some k) (suc k) d x h)
    ∙ sym (append_assoc (shown fs f.before) (head ∷ groups_in (Some k) (suc k) d) behind)
    ∙ ap (λ xs. (shown fs f.before ++ (head ∷ xs)) ++ behind) (sym (append-nil (groups_in (Some k) (suc k) d)))
    ∙ ap (λ xs. xs ++ behind) (sym part)

-- the innermost open group stands behind the groups before it
pub shown_inner : (f : Frame) (fs : List Frame) (d : Body) → AllOpen (f ∷ fs) → shown (f ∷ fs) d ≡ shown fs f.before ++ (header (own fs) f.word f.args (attributes d) ∷ groups_in (Some (base fs + count f.before)) (suc (base fs + count f.before)) d)
shown_inner f fs d a =
    shown_more fs f.before (Group f.word f.args d End) a.1 a.0 refl
    ∙ ap (λ xs. shown fs f.before ++ (header (own fs) f.word f.args (attributes d) ∷ xs)) (append-nil (groups_in (Some (base fs + count f.before)) (suc (base fs + count f.before)) d))

pub length_shown : (fs : List Frame) (d : Body) → AllOpen fs → length (shown fs d) ≡ base fs + count d
length_shown [] d a = length-groups None 0 d ∙ sym (zero-add (count d))
length_shown (f ∷ fs) d a =
    let k = base fs + count f.before in
    let inner = groups_in (Some k) (suc k) d in
    let before : length (shown fs f.before) ≡ k = length_shown fs f.before a.1 in
    let size : length inner ≡ count d = length-groups (Some k) (suc k) d in
    let parts : length (shown fs f.before ++ (header (own fs) f.word f.args (attributes d) ∷ inner)) ≡ length (shown fs f.before) + suc (length inner) = length-append (shown fs f.before) (header (own fs) f.word f.args (attributes d) ∷ inner) in
    ap length (shown_inner f fs d a) ∙ parts ∙ (let sum : length (shown fs f.before) + suc (length inner) ≡ suc k + count d = omega arith in sum)

-- ---- one attribute more

abbrev pub attr_in : AttrView → GroupView → GroupView
attr_in a g = record { word = g.word; args = g.args; parent = g.parent; attrs = g.attrs ++ a ∷ [] }

abbrev pub attr_at : List GroupView → ℕ → AttrView → List GroupView
attr_at [] n a = []
attr_at (g ∷ groups) zero a = attr_in a g ∷ groups
attr_at (g ∷ groups) (suc n) a = g ∷ attr_at groups n a

attr_at-split : (xs : List GroupView) (g : GroupView) (ys : List GroupView) (n : ℕ) (a : AttrView) → length xs ≡ n → attr_at (xs ++ g ∷ ys) n a ≡ xs ++ attr_in a g ∷ ys
attr_at-split [] g ys zero a e = refl
attr_at-split [] g ys (suc n) a e = absurd (omega arith)
attr_at-split (x ∷ xs) g ys zero a e = absurd (omega arith)
attr_at-split (x ∷ xs) g ys (suc n) a e = ap (λ gs. x ∷ gs) (attr_at-split xs g ys n a (omega arith))

pub shown_attr : (f : Frame) (fs : List Frame) (d x : Body) (a : AttrView) → AllOpen (f ∷ fs) → IsTrue (is_open d) → attributes x ≡ a ∷ [] → ((p : Option ℕ) (n : ℕ) → groups_in p n x ≡ [])
    → shown (f ∷ fs) (joined d x) ≡ attr_at (shown (f ∷ fs) d) (base fs + count f.before) a
shown_attr f fs d x a o h one none =
    let k = base fs + count f.before in
    let before = shown fs f.before in
    let inner : groups_in (Some k) (suc k) (joined d x) ≡ groups_in (Some k) (suc k) d = groups-joined (Some k) (suc k) d x h ∙ ap (λ xs. groups_in (Some k) (suc k) d ++ xs) (none (Some k) (suc k + count d)) ∙ append-nil (groups_in (Some k) (suc k) d) in
    let all : attributes (joined d x) ≡ attributes d ++ a ∷ [] = attributes-joined d x h ∙ ap (λ xs. attributes d ++ xs) one in
    shown_inner f fs (joined d x) o
    ∙ ap (λ xs. before ++ (header (own fs) f.word f.args (attributes (joined d x)) ∷ xs)) inner
    ∙ ap (λ attrs. before ++ (header (own fs) f.word f.args attrs ∷ groups_in (Some k) (suc k) d)) all
    ∙ sym (attr_at-split before (header (own fs) f.word f.args (attributes d)) (groups_in (Some k) (suc k) d) k a (length_shown fs f.before o.1))
    ∙ ap (λ gs. attr_at gs k a) (sym (shown_inner f fs d o))
