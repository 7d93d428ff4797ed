-- Runs of joints, rows of pins and statements, one after another.
use Rattle.std.proofs.Common.{inl, inr, min, ◌≡◌, ◌<◌, ◌≤◌, ◌+◌, ℕ, zero, suc, Bool, true, false, List, [], ◌∷◌, ◌++◌, map, length, take, drop, get_or, Option, Some, None, refl, sym, ap, ◌∙◌, arith}
use Rattle.std.specs.Prelude.{flat_map, nat_lt, if◌then◌else◌, slice_get}
use Rattle.std.proofs.lemmas.Bool.{ltb-true, cases_lt}
use Rattle.std.proofs.lemmas.List.{map-append, drop_more, take_all, append-nil, append_assoc}
use Rattle.lp_model.specs.declared.graph.EdgeFrom.{EdgeFrom}
use Rattle.lp_model.specs.declared.graph.PinNet.{PinNet}
use Rattle.lp_spec_design.specs.Netlists.{upward}
use Rattle.lp_spec_design.specs.Graph.{pairs, and_more, some_of, numbered}
use Rattle.lp_spec_bridge.specs.Templates.{at_start}
use Rattle.lp_spec_layout.specs.Parts.{Joint, Child, Statement, OfCell, Template}
use Rattle.lp_spec_faults.specs.Modules.{bit_count}
use Rattle.lp_model.specs.declared.netlist.Direction.{Direction}
use Rattle.lp_model.specs.declared.netlist.Direction.TheVariants.{Input, Output}
use Rattle.lp_model.specs.declared.netlist.Module.{Module}
use Rattle.lp_model.specs.declared.netlist.Port.{Port}
use Rattle.lp_spec_drivers.specs.Counts.{or_else, found}
use Rattle.lp_spec_drivers.specs.Drivers.{joint_places, pin_place}
use Rattle.lp_templates.specs.declared.run.Run.{Run}
use Rattle.lp_templates.specs.Runs.{run_joints}
use Rattle.lp_templates.specs.Views.{cell_view}
use Rattle.lp_drivers.specs.Seen.{Seen, none_seen, see_all, lower_all, known, twice_with}
use Rattle.lp_drivers.specs.Table.{own_by, twice_by, twice_there, seen_at, seen_in, input_run, input_runs}
use Rattle.lp_drivers.specs.Cells.{place_at_pin, places_by, places_at, places_inside}
use Rattle.lp_drivers.proofs.Seeing.{see-more, lower-more, lower-behind}

-- ---- runs

run-places-from : (to k n : ℕ) (from : EdgeFrom) → map (λ (j : Joint). j.0) (map (λ i. (i + to, at_start i from)) (upward n k)) ≡ upward n (k + to)
run-places-from to k zero from = refl
run-places-from to k (suc n) from =
    let place : (k + 1) + to ≡ (k + to) + 1 = omega arith in
    ap (λ r. (k + to) ∷ r) (run-places-from to (k + 1) n from ∙ ap (upward n) place)

pub run-places : (r : Run) → joint_places (run_joints r) ≡ upward r.count r.to
run-places r = let place : 0 + r.to ≡ r.to = omega arith in run-places-from r.to 0 r.count r.from ∙ ap (upward r.count) place

-- the places of runs
abbrev pub places_of : List Run → List ℕ
places_of runs = joint_places (flat_map run_joints runs)

places-first : (r : Run) (runs : List Run) → places_of (r ∷ runs) ≡ upward r.count r.to ++ places_of runs
places-first r runs = map-append (λ (j : Joint). j.0) (run_joints r) (flat_map run_joints runs) ∙ ap (λ ps. ps ++ places_of runs) (run-places r)

pub see-run : (now next : Seen) (runs : List Run) (i : ℕ) (d : Run) → i < length runs → next ≡ see_all now (upward (get_or runs i d).count (get_or runs i d).to) → see_all next (places_of (drop (i + 1) runs)) ≡ see_all now (places_of (drop i runs))
see-run now next runs i d low is =
    ap (λ m. see_all m (places_of (drop (i + 1) runs))) is
    ∙ sym (see-more now (upward (get_or runs i d).count (get_or runs i d).to) (places_of (drop (i + 1) runs)))
    ∙ ap (see_all now) (sym (places-first (get_or runs i d) (drop (i + 1) runs)))
    ∙ ap (λ rs. see_all now (places_of rs)) (sym (drop_more runs i d low))

pub lower-run : (driven : List Bool) (now next : ℕ) (runs : List Run) (i : ℕ) (d : Run) → i < length runs → next ≡ lower_all driven now (upward (get_or runs i d).count (get_or runs i d).to) → lower_all driven next (places_of (drop (i + 1) runs)) ≡ lower_all driven now (places_of (drop i runs))
lower-run driven now next runs i d low is =
    ap (λ m. lower_all driven m (places_of (drop (i + 1) runs))) is
    ∙ sym (lower-more driven now (upward (get_or runs i d).count (get_or runs i d).to) (places_of (drop (i + 1) runs)))
    ∙ ap (lower_all driven now) (sym (places-first (get_or runs i d) (drop (i + 1) runs)))
    ∙ ap (λ rs. lower_all driven now (places_of rs)) (sym (drop_more runs i d low))

-- ---- rows

-- the pins of a row, from the beginning on
no-pins : (ds : List Bool) → some_of pin_place (pairs {B = PinNet} ds []) ≡ []
no-pins [] = refl
no-pins (d ∷ ds) = refl

and-join : (o : Option ℕ) (xs ys : List ℕ) → and_more o (xs ++ ys) ≡ and_more o xs ++ ys
and-join None xs ys = refl
and-join (Some y) xs ys = refl

pub pins-more : (ds : List Bool) (row : List PinNet) (i : ℕ) (d : PinNet) → i < length row → some_of pin_place (pairs ds (take (i + 1) row)) ≡ some_of pin_place (pairs ds (take i row)) ++ place_at_pin (slice_get ds i) (get_or row i d)
pins-more ds [] i d low = absurd (omega (arith, low))
pins-more [] (x ∷ row) zero d low = refl
pins-more (b ∷ ds) (x ∷ row) zero d low = ap (and_more (pin_place (b, x))) (no-pins ds)
pins-more [] (x ∷ row) (suc i) d low = refl
pins-more (b ∷ ds) (x ∷ row) (suc i) d low =
    let size : suc i + 1 ≡ suc (i + 1) = omega arith in
    ap (λ n. some_of pin_place (pairs (b ∷ ds) (take n (x ∷ row)))) size
    ∙ ap (and_more (pin_place (b, x))) (pins-more ds row i d (omega (arith, low)))
    ∙ and-join (pin_place (b, x)) (some_of pin_place (pairs ds (take i row))) (place_at_pin (slice_get ds i) (get_or row i d))

pub see-pin : (m now next : Seen) (ds : List Bool) (row : List PinNet) (i : ℕ) (d : PinNet) → i < length row → now ≡ see_all m (some_of pin_place (pairs ds (take i row))) → next ≡ see_all now (place_at_pin (slice_get ds i) (get_or row i d))
    → next ≡ see_all m (some_of pin_place (pairs ds (take (i + 1) row)))
see-pin m now next ds row i d low was is =
    is ∙ ap (λ x. see_all x (place_at_pin (slice_get ds i) (get_or row i d))) was
    ∙ sym (see-more m (some_of pin_place (pairs ds (take i row))) (place_at_pin (slice_get ds i) (get_or row i d)))
    ∙ ap (see_all m) (sym (pins-more ds row i d low))

pub no-pins-seen : (m : Seen) (ds : List Bool) → m ≡ see_all m (some_of pin_place (pairs {B = PinNet} ds []))
no-pins-seen m ds = ap (see_all m) (sym (no-pins ds))

-- ---- statements

pub statements-more : (cells : List (List Bool)) (zs : List Statement) (i : ℕ) → flat_map (places_by cells) (take (i + 1) zs) ≡ flat_map (places_by cells) (take i zs) ++ places_at cells (slice_get zs i)
statements-more cells [] i = ap (flat_map (places_by cells)) (take-none (i + 1)) ∙ ap (λ r. flat_map (places_by cells) r ++ []) (sym (take-none i))
  where
    take-none : (n : ℕ) → take {A = Statement} n [] ≡ []
    take-none zero = refl
    take-none (suc n) = refl
statements-more cells (z ∷ zs) zero = append-nil (places_by cells z)
statements-more cells (z ∷ zs) (suc i) =
    let size : suc i + 1 ≡ suc (i + 1) = omega arith in
    ap (λ n. flat_map (places_by cells) (take n (z ∷ zs))) size
    ∙ ap (λ r. places_by cells z ++ r) (statements-more cells zs i)
    ∙ sym (append_assoc (places_by cells z) (flat_map (places_by cells) (take i zs)) (places_at cells (slice_get zs i)))

-- ---- entries that are not there

pub get-none : {A : Type 0} (xs : List A) (k : ℕ) (d : A) → slice_get xs k ≡ None → get_or xs k d ≡ d
get-none [] k d e = refl
get-none (x ∷ xs) zero d e = absurd cc
get-none (x ∷ xs) (suc k) d e = get-none xs k d e

pub get-some : {A : Type 0} (xs : List A) (k : ℕ) (d x : A) → slice_get xs k ≡ Some x → get_or xs k d ≡ x
get-some [] k d x e = cc
get-some (y ∷ xs) zero d x e = cc
get-some (y ∷ xs) (suc k) d x e = get-some xs k d x e

pub get-within : {A : Type 0} (xs : List A) (k : ℕ) (x : A) → slice_get xs k ≡ Some x → k < length xs
get-within [] k x e = cc
get-within (y ∷ xs) zero x e = omega arith
get-within (y ∷ xs) (suc k) x e = let more = get-within xs k x e in omega (arith, more)

pub no-cell : (m : Seen) (cells : List (List Bool)) (of before : ℕ) (row : List PinNet) → slice_get cells of ≡ None → m ≡ see_all m (places_by cells (OfCell (cell_view of before row)))
no-cell m cells of before row e = ap (λ ds. see_all m (some_of pin_place (pairs ds row))) (sym (get-none cells of [] e))

-- ---- statements of a module

pub seen-statement : (m now next : Seen) (cells : List (List Bool)) (zs : List Statement) (i : ℕ) → now ≡ see_all m (flat_map (places_by cells) (take i zs)) → next ≡ see_all now (places_at cells (slice_get zs i)) → next ≡ see_all m (flat_map (places_by cells) (take (i + 1) zs))
seen-statement m now next cells zs i was is =
    is ∙ ap (λ x. see_all x (places_at cells (slice_get zs i))) was
    ∙ sym (see-more m (flat_map (places_by cells) (take i zs)) (places_at cells (slice_get zs i)))
    ∙ ap (see_all m) (sym (statements-more cells zs i))

pub seen-assigns : (m now next : Seen) (cells : List (List Bool)) (x : Template) (n : ℕ) → length x.statements ≤ n → now ≡ see_all m (flat_map (places_by cells) (take n x.statements)) → next ≡ see_all now (joint_places x.assigns) → next ≡ see_all m (places_inside cells x)
seen-assigns m now next cells x n all was is =
    is ∙ ap (λ y. see_all y (joint_places x.assigns)) (was ∙ ap (λ zs. see_all m (flat_map (places_by cells) zs)) (take_all n x.statements all))
    ∙ sym (see-more m (flat_map (places_by cells) x.statements) (joint_places x.assigns))

-- ---- all modules

numbered-last : {A : Type 0} (k : ℕ) (xs : List A) (i : ℕ) (d : A) → i < length xs → numbered k (take (i + 1) xs) ≡ numbered k (take i xs) ++ (k + i, get_or xs i d) ∷ []
numbered-last k [] i d low = absurd (omega (arith, low))
numbered-last k (x ∷ xs) zero d low = let place : k ≡ k + 0 = omega arith in ap (λ n. (n, x) ∷ []) place
numbered-last {A = A} k (x ∷ xs) (suc i) d low =
    let size : suc i + 1 ≡ suc (i + 1) = omega arith in
    let place : (k + 1) + i ≡ k + suc i = omega arith in
    ap (λ n. numbered k (take n (x ∷ xs))) size
    ∙ ap (λ r. (k, x) ∷ r) (numbered-last (k + 1) xs i d (omega (arith, low)))
    ∙ ap (λ n. (k, x) ∷ (numbered (k + 1) (take i xs) ++ (n, get_or xs i d) ∷ [])) place

pub seen-module : (cells : List (List Bool)) (ms : List Module) (xs : List Template) (i : ℕ) (d : Template) (marks : Seen) → i < length xs → marks ≡ seen_at cells ms (i, get_or xs i d) → seen_in cells ms (take i xs) ++ marks ∷ [] ≡ seen_in cells ms (take (i + 1) xs)
seen-module cells ms xs i d marks low is =
    let place : 0 + i ≡ i = omega arith in
    ap (λ m. seen_in cells ms (take i xs) ++ m ∷ []) is
    ∙ ap (λ n. seen_in cells ms (take i xs) ++ seen_at cells ms (n, get_or xs i d) ∷ []) (sym place)
    ∙ sym (map-append (seen_at cells ms) (numbered 0 (take i xs)) ((0 + i, get_or xs i d) ∷ []))
    ∙ ap (map (seen_at cells ms)) (sym (numbered-last 0 xs i d low))

-- ---- below a module

pub known-none : (k : ℕ) → known 0 k ≡ None
known-none k = by (nat_lt k 0) refl
  where
    by : (b : Bool) → nat_lt k 0 ≡ b → (if b then Some k else None) ≡ None
    by true e = absurd (let low = ltb-true k 0 e in omega (arith, low))
    by false e = refl

pub no-module-seen : (seen : List Seen) (c : Child) → slice_get seen c.of ≡ None → own_by seen c ≡ None
no-module-seen seen c e = ap (λ m. twice_with m (joint_places c.inputs)) (get-none seen c.of (none_seen 0) e) ∙ known-none (lower_all [] 0 (joint_places c.inputs))

found-there : (seen : List Seen) (table : List (Option ℕ)) (zs : List Statement) (i : ℕ) → i < length zs → found (twice_by seen table) (drop i zs) ≡ or_else (twice_there seen table (slice_get zs i)) (found (twice_by seen table) (drop (i + 1) zs))
found-there seen table [] i low = absurd (omega (arith, low))
found-there seen table (z ∷ zs) zero low = refl
found-there seen table (z ∷ zs) (suc i) low =
    let size : suc i + 1 ≡ suc (i + 1) = omega arith in
    found-there seen table zs i (omega (arith, low)) ∙ ap (λ n. or_else (twice_there seen table (slice_get zs i)) (found (twice_by seen table) (drop n (z ∷ zs)))) (sym size)

pub found-here : (seen : List Seen) (table : List (Option ℕ)) (zs : List Statement) (i node : ℕ) → i < length zs → twice_there seen table (slice_get zs i) ≡ Some node → found (twice_by seen table) (drop i zs) ≡ found (twice_by seen table) zs → Some node ≡ found (twice_by seen table) zs
found-here seen table zs i node low is was = sym (ap (λ o. or_else o (found (twice_by seen table) (drop (i + 1) zs))) is) ∙ sym (found-there seen table zs i low) ∙ was

pub found-next : (seen : List Seen) (table : List (Option ℕ)) (zs : List Statement) (i : ℕ) → i < length zs → twice_there seen table (slice_get zs i) ≡ None → found (twice_by seen table) (drop i zs) ≡ found (twice_by seen table) zs → found (twice_by seen table) (drop (i + 1) zs) ≡ found (twice_by seen table) zs
found-next seen table zs i low is was = sym (ap (λ o. or_else o (found (twice_by seen table) (drop (i + 1) zs))) is) ∙ sym (found-there seen table zs i low) ∙ was

-- ---- ports of the top

runs-behind : (driven : List Bool) (least start : ℕ) (ports : List Port) → least ≤ start → lower_all driven least (input_runs start ports) ≡ least
runs-behind driven least start [] low = refl
runs-behind driven least start (p ∷ ports) low =
    lower-more driven least (input_run p.direction start (bit_count p.range)) (input_runs (start + bit_count p.range) ports)
    ∙ ap (λ n. lower_all driven n (input_runs (start + bit_count p.range) ports)) (one p.direction)
    ∙ runs-behind driven least (start + bit_count p.range) ports (omega (arith, low))
  where
    one : (d : Direction) → lower_all driven least (input_run d start (bit_count p.range)) ≡ least
    one Input = lower-behind driven least (bit_count p.range) start low
    one Output = refl

runs-cut : (driven : List Bool) (least most start : ℕ) (ports : List Port) → least ≤ most → lower_all driven least (input_runs (min start most) ports) ≡ lower_all driven least (input_runs start ports)
runs-cut driven least most start ports low = elim (cases_lt most start) [
  | inl over ↦ (runs-behind driven least (min start most) ports (omega (arith, low, over)) ∙ sym (runs-behind driven least start ports (omega (arith, low, over))))
  | inr under ↦ (let same : min start most ≡ start = omega (arith, under) in ap (λ n. lower_all driven least (input_runs n ports)) same)
]

pub port-step : (driven : List Bool) (least next start end most first : ℕ) (ports : List Port) (i : ℕ) (d : Port) → i < length ports → next ≤ most → next ≡ lower_all driven least (input_run (get_or ports i d).direction start (bit_count (get_or ports i d).range)) → end ≡ min (start + bit_count (get_or ports i d).range) most
    → lower_all driven least (input_runs start (drop i ports)) ≡ first → lower_all driven next (input_runs end (drop (i + 1) ports)) ≡ first
port-step driven least next start end most first ports i d low high is ends was =
    let p = get_or ports i d in
    let count = bit_count (get_or ports i d).range in
    ap (λ n. lower_all driven next (input_runs n (drop (i + 1) ports))) ends
    ∙ runs-cut driven next most (start + bit_count (get_or ports i d).range) (drop (i + 1) ports) high
    ∙ ap (λ n. lower_all driven n (input_runs (start + bit_count (get_or ports i d).range) (drop (i + 1) ports))) is
    ∙ sym (lower-more driven least (input_run (get_or ports i d).direction start (bit_count (get_or ports i d).range)) (input_runs (start + bit_count (get_or ports i d).range) (drop (i + 1) ports)))
    ∙ ap (λ ps. lower_all driven least (input_runs start ps)) (sym (drop_more ports i d low))
    ∙ was

-- two numbers up to a limit
pub both-up-to : (a b p n r most : ℕ) → p ≡ min most a → n ≡ min most b → r ≡ min (p + n) most → r ≡ min most (a + b)
both-up-to a b p n r most e f g = omega (arith, e, f, g)
