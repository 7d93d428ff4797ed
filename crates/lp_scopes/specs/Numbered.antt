-- Names of power intent by the numbers of instances in place of their paths (IEEE 1801-2015, hierarchical names; the numbers are an own rule).
use Rattle.std.specs.Prelude.{ℕ, zero, suc, ◌+◌, ◌==◌, nat_eq, Bool, ◌&&◌, List, [], ◌∷◌, length, take, drop, min, max, codes, Option, Some, None, option_map, option_and_then, if◌then◌else◌, bytes_eq, slice_get, slice_index}
use Rattle.std.specs.Map.{lookup}
use Rattle.indexmap.specs.IndexMap.{insert_entry}
use Rattle.lp_text.specs.Texts.{text_at, place_of}
use Rattle.lp_model.specs.declared.graph.Inst.{Inst}
use Rattle.lp_model.specs.declared.graph.Leaf.{Leaf}
use Rattle.lp_model.specs.declared.ids.InstId.{InstId}
use Rattle.lp_spec_design.specs.Keys.{Name}

-- ---- what stands in an instance by a name, both by number

abbrev pub Key : Type 0
Key = ℕ × ℕ

abbrev pub same_key : Key → Key → Bool
same_key a b = nat_eq a.0 b.0 && nat_eq a.1 b.1

-- a module instance stands in its parent; the top in none
abbrev pub inst_key : Inst → Option Key
inst_key x = option_map (λ (q : InstId). (q.0, x.name.0)) x.parent

abbrev pub leaf_key : Leaf → Option Key
leaf_key l = Some (l.inst.0, l.name.0)

-- keys with their places
abbrev pub Entries : Type 0
Entries = List (Key × ℕ)

abbrev pub noted : Entries → Option Key → ℕ → Entries
noted es None place = es
noted es (Some k) place = insert_entry same_key es k place

abbrev pub noted_from : Entries → ℕ → List (Option Key) → Entries
noted_from es place [] = es
noted_from es place (k ∷ ks) = noted_from (noted es k place) (place + 1) ks

abbrev pub all_noted : List (Option Key) → Entries
all_noted ks = noted_from [] 0 ks

-- what stands in an instance by the text of a name
abbrev pub standing : List (List ℕ) → Entries → ℕ → Name → Option ℕ
standing texts es k name = option_and_then (λ n. lookup (same_key (k, n)) es) (place_of name texts)

-- ---- one step

abbrev pub or_else : {A : Type 0} → Option A → Option A → Option A
or_else None other = other
or_else (Some x) other = Some x

abbrev pub parent_in : Option Inst → Option ℕ
parent_in None = None
parent_in (Some x) = option_map (λ (q : InstId). q.0) x.parent

abbrev pub parent_at : List Inst → ℕ → Option ℕ
parent_at xs k = parent_in (slice_get xs k)

-- an instance by a name without steps: itself, its parent, or one that stands in it
abbrev pub stepped : List (List ℕ) → Entries → List Inst → ℕ → Name → Option ℕ
stepped texts es xs k name =
    if bytes_eq name (codes ".") then Some k
    else or_else (if bytes_eq name (codes "..") then parent_at xs k else None) (standing texts es k name)

-- an instance, and what is left of a name
abbrev pub Spot : Type 0
Spot = ℕ × Name

-- what a name before a place gives, where a slash is there, and what is behind
abbrev pub split_at : {A : Type 0} → (Name → Option A) → Name → ℕ → Option (A × Name)
split_at find text j = if slice_index text j == 47 then option_map (λ k. (k, drop (j + 1) text)) (find (take j text)) else None

-- that of the last place below a bound
abbrev pub last_split : {A : Type 0} → (Name → Option A) → Name → ℕ → Option (A × Name)
last_split find text zero = None
last_split find text (suc j) = or_else (split_at find text j) (last_split find text j)

-- no longer names than the longest are tried
abbrev pub step_by : (ℕ → Name → Option ℕ) → ℕ → Spot → Option Spot
step_by find longest a = last_split (find a.0) a.1 (min (length a.1) (longest + 1))

-- ---- the steps of a name

-- a step, unless what is left is a name as a whole
abbrev pub onward : (Spot → Option Spot) → (Spot → Bool) → Spot → Option Spot
onward step ends a = if ends a then None else step a

abbrev pub on_by : Spot → Option Spot → (Spot → Spot) → Spot
on_by a None further = a
on_by a (Some b) further = further b

-- at most one step for each byte of a text
abbrev pub walk_by : (Spot → Option Spot) → Name → Spot → Spot
walk_by on [] a = a
walk_by on (c ∷ text) a = on_by a (on a) (walk_by on text)

-- a name begins at the top where it begins with a slash, else at the scope
abbrev pub beginning_by : ℕ → Name → Spot
beginning_by k [] = (k, [])
beginning_by k (c ∷ text) = if c == 47 then (0, text) else (k, c ∷ text)

-- the longest of a length and the lengths of the names of instances
abbrev pub longest_from : List (List ℕ) → ℕ → List Inst → ℕ
longest_from texts n [] = n
longest_from texts n (x ∷ xs) = longest_from texts (max (length (text_at texts x.name.0)) n) xs

-- the longest name of an instance, `..` included
abbrev pub longest_of : List (List ℕ) → List Inst → ℕ
longest_of texts xs = longest_from texts 2 xs
