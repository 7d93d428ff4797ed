-- What is fed in parts.
use Rattle.std.proofs.Common.{◌≡◌, ℕ, ◌+◌, ◌-◌, ◌<◌, ◌≤◌, Bool, List, [], ◌∷◌, ◌++◌, length, drop, get_or, Option, Some, None, refl, sym, ap, ◌∙◌}
use Rattle.std.specs.Prelude.{map, flat_map, slice_get}
use Rattle.std.proofs.lemmas.List.{map-append}
use Rattle.std.proofs.lemmas.Option.{slice_get-get_or}
use Rattle.lp_model.specs.declared.graph.EdgeFrom.{EdgeFrom}
use Rattle.lp_model.specs.declared.graph.EdgeKind.{EdgeKind}
use Rattle.lp_model.specs.declared.graph.EdgeKind.TheVariants.{Assign}
use Rattle.lp_model.specs.declared.graph.PinNet.{PinNet}
use Rattle.lp_spec_design.specs.Netlists.{upward}
use Rattle.lp_spec_design.specs.Graph.{pairs, some_of, and_more, numbered}
use Rattle.lp_spec_bridge.specs.Templates.{at_start}
use Rattle.lp_spec_layout.specs.Parts.{Joint, Statement, Template}
use Rattle.lp_spec_layout.specs.Feeds.{ByEdge, Feed, joint_feed, pin_feed, input_feeds, outer_feed}
use Rattle.lp_templates.specs.declared.run.Run.{Run}
use Rattle.lp_templates.specs.Runs.{run_joints}
use Rattle.lp_spec_layout.specs.Sites as layout
use Rattle.lp_layout.specs.declared.site.Site.{Site}
use Rattle.lp_layout.specs.declared.wires.Wires.{Wires}
use Rattle.lp_layout.specs.Sites.{site_view, sites_view}
use Rattle.lp_layout.specs.Held.{word, held_from, held_feed}
use Rattle.lp_layout.specs.Wires.{taken, fed}
use Rattle.lp_layout.specs.Fed.{joint_feeds, placed_pin, placed_feeds, statement_feeds, template_feeds, feeds_at, feeds}
use Rattle.lp_layout.proofs.Lists.{upward_step, upward_start, upward_end, drop_at, drop_out, drop_past, get_behind}

pub fed_append : (w : Wires) (xs ys : List Feed) → fed w (xs ++ ys) ≡ fed (fed w xs) ys
fed_append w [] ys = refl
fed_append w (x ∷ xs) ys = fed_append (taken w x.0 x.1) xs ys

pub feeds_append : (w : Wires) (xs ys : List Feed) → fed w (map held_feed (xs ++ ys)) ≡ fed (fed w (map held_feed xs)) (map held_feed ys)
feeds_append w xs ys = ap (fed w) (map-append held_feed xs ys) ∙ fed_append w (map held_feed xs) (map held_feed ys)

-- ---- runs

-- those from one on
abbrev pub joints_behind : Run → ℕ → List Joint
joints_behind r k = map (λ i. (i + r.to, at_start i r.from)) (upward (r.count - k) k)

pub joints_begin : (r : Run) → joints_behind r 0 ≡ run_joints r
joints_begin r = ap (map (λ i. (i + r.to, at_start i r.from))) (upward_start r.count)

pub joints_step : (r : Run) (k : ℕ) → k < r.count → joints_behind r k ≡ (k + r.to, at_start k r.from) ∷ joints_behind r (k + 1)
joints_step r k low = ap (map (λ i. (i + r.to, at_start i r.from))) (upward_step r.count k low)

pub joints_end : (r : Run) → joints_behind r r.count ≡ []
joints_end r = ap (map (λ i. (i + r.to, at_start i r.from))) (upward_end r.count)

-- one more edge
pub run_more : (w next : Wires) (to from : ℕ) (kind : EdgeKind) (r : Run) (k : ℕ) {n : ℕ} {f : EdgeFrom} {goal : Wires} → k < r.count → n ≡ word (to + (k + r.to)) → f ≡ held_from (at_start from (at_start k r.from)) → next ≡ taken w n (ByEdge f kind)
    → fed w (joint_feeds to from kind (joints_behind r k)) ≡ goal → fed next (joint_feeds to from kind (joints_behind r (k + 1))) ≡ goal
run_more w next to from kind r k low here came is e =
    let rest = joint_feeds to from kind (joints_behind r (k + 1)) in
    ap (λ z. fed z rest) (is ∙ (λ i. taken w (here i) (ByEdge (came i) kind)))
    ∙ ap (λ z. fed w (joint_feeds to from kind z)) (sym (joints_step r k low))
    ∙ e

pub joints_append : (w : Wires) (to from : ℕ) (kind : EdgeKind) (xs ys : List Joint) → fed w (joint_feeds to from kind (xs ++ ys)) ≡ fed (fed w (joint_feeds to from kind xs)) (joint_feeds to from kind ys)
joints_append w to from kind xs ys = ap (λ z. fed w (map held_feed z)) (map-append (joint_feed to from kind) xs ys) ∙ feeds_append w (map (joint_feed to from kind) xs) (map (joint_feed to from kind) ys)

-- ---- rows of pins

-- those from a pin on
abbrev pub row_behind : List Bool → ℕ → ℕ → List PinNet → ℕ → List Feed
row_behind drives start leaf row k = some_of (pin_feed start leaf) (pairs (numbered k (drop k drives)) (drop k row))

pairs-out : {A B : Type 0} (xs : List A) → pairs {B = B} xs [] ≡ []
pairs-out [] = refl
pairs-out (x ∷ xs) = refl

pub row_out : (drives : List Bool) (start leaf : ℕ) (row : List PinNet) (k : ℕ) → slice_get drives k ≡ None → row_behind drives start leaf row k ≡ []
row_out drives start leaf row k e = ap (λ z. some_of (pin_feed start leaf) (pairs (numbered k z) (drop k row))) (drop_out drives k e)

pub row_open : (drives : List Bool) (start leaf : ℕ) (row : List PinNet) (k : ℕ) → slice_get row k ≡ None → row_behind drives start leaf row k ≡ []
row_open drives start leaf row k e = ap (λ z. some_of (pin_feed start leaf) (pairs (numbered k (drop k drives)) z)) (drop_out row k e) ∙ ap (some_of (pin_feed start leaf)) (pairs-out (numbered k (drop k drives)))

pub row_step : (drives : List Bool) (start leaf : ℕ) (row : List PinNet) (k : ℕ) (b : Bool) (net : PinNet) → slice_get drives k ≡ Some b → slice_get row k ≡ Some net
    → row_behind drives start leaf row k ≡ and_more (pin_feed start leaf ((k, b), net)) (row_behind drives start leaf row (k + 1))
row_step drives start leaf row k b net d r =
    ap (λ z. some_of (pin_feed start leaf) (pairs (numbered k z) (drop k row))) (drop_at drives k b d)
    ∙ ap (λ z. some_of (pin_feed start leaf) (pairs (numbered k (b ∷ drop (k + 1) drives)) z)) (drop_at row k net r)

more-append : {A : Type 0} (o : Option A) (xs : List A) → and_more o [] ++ xs ≡ and_more o xs
more-append None xs = refl
more-append (Some x) xs = refl

-- one more pin
pub row_more : (w next : Wires) (drives : List Bool) (start leaf : ℕ) (row : List PinNet) (k : ℕ) (b : Bool) {goal : Wires} → slice_get drives k ≡ Some b → next ≡ fed w (map held_feed (placed_pin start leaf k b (slice_get row k)))
    → fed w (map held_feed (row_behind drives start leaf row k)) ≡ goal → fed next (map held_feed (row_behind drives start leaf row (k + 1))) ≡ goal
row_more w next drives start leaf row k b {goal = goal} d is e = by (slice_get row k) refl
  where
    by : (o : Option PinNet) → slice_get row k ≡ o → fed next (map held_feed (row_behind drives start leaf row (k + 1))) ≡ goal
    by None r =
        let rest = row_behind drives start leaf row (k + 1) in
        let none : rest ≡ [] = row_open drives start leaf row (k + 1) (get_behind row k r) in
        ap (λ z. fed next (map held_feed z)) none
        ∙ is ∙ ap (λ o. fed w (map held_feed (placed_pin start leaf k b o))) r
        ∙ ap (λ z. fed w (map held_feed z)) (sym (row_open drives start leaf row k r))
        ∙ e
    by (Some net) r =
        let rest = row_behind drives start leaf row (k + 1) in
        let one = pin_feed start leaf ((k, b), net) in
        ap (λ z. fed z (map held_feed rest)) (is ∙ ap (λ o. fed w (map held_feed (placed_pin start leaf k b o))) r)
        ∙ sym (feeds_append w (and_more one []) rest)
        ∙ ap (λ z. fed w (map held_feed z)) (more-append one rest ∙ sym (row_step drives start leaf row k b net d r))
        ∙ e

-- ---- joints run by run

pub joints_more : (w next : Wires) (to from : ℕ) (kind : EdgeKind) (runs : List Run) (k : ℕ) (d : Run) {goal : Wires} → k < length runs → next ≡ fed w (joint_feeds to from kind (run_joints (get_or runs k d)))
    → fed w (joint_feeds to from kind (flat_map run_joints (drop k runs))) ≡ goal → fed next (joint_feeds to from kind (flat_map run_joints (drop (k + 1) runs))) ≡ goal
joints_more w next to from kind runs k d low is e =
    let rest = flat_map run_joints (drop (k + 1) runs) in
    ap (λ z. fed z (joint_feeds to from kind rest)) is
    ∙ sym (joints_append w to from kind (run_joints (get_or runs k d)) rest)
    ∙ ap (λ z. fed w (joint_feeds to from kind (flat_map run_joints z))) (sym (drop_at runs k (get_or runs k d) (slice_get-get_or runs k d low)))
    ∙ e

-- ---- lists of parts

-- what one more part feeds
pub feeds_more : {A : Type 0} (w next : Wires) (f : A → List Feed) (xs : List A) (k : ℕ) (x : A) {goal : Wires} → slice_get xs k ≡ Some x → next ≡ fed w (map held_feed (f x))
    → fed w (map held_feed (flat_map f (drop k xs))) ≡ goal → fed next (map held_feed (flat_map f (drop (k + 1) xs))) ≡ goal
feeds_more w next f xs k x at is e =
    let rest = flat_map f (drop (k + 1) xs) in
    ap (λ z. fed z (map held_feed rest)) is
    ∙ sym (feeds_append w (f x) rest)
    ∙ ap (λ z. fed w (map held_feed (flat_map f z))) (sym (drop_at xs k x at))
    ∙ e

pub feeds_done : {A : Type 0} (w : Wires) (f : A → List Feed) (xs : List A) (k : ℕ) {goal : Wires} → length xs ≤ k → fed w (map held_feed (flat_map f (drop k xs))) ≡ goal → w ≡ goal
feeds_done w f xs k past e = ap (λ z. fed w (map held_feed (flat_map f z))) (sym (drop_past xs k past)) ∙ e

-- one after the other
pub feeds_then : (w middle last : Wires) (xs ys : List Feed) → middle ≡ fed w (map held_feed xs) → last ≡ fed middle (map held_feed ys) → last ≡ fed w (map held_feed (xs ++ ys))
feeds_then w middle last xs ys first second = second ∙ ap (λ z. fed z (map held_feed ys)) first ∙ sym (feeds_append w xs ys)

pub inputs_more : (w next : Wires) (f : ℕ × Bool → Option Feed) (ports : List Bool) (k : ℕ) (b : Bool) {goal : Wires} → slice_get ports k ≡ Some b → next ≡ fed w (map held_feed (and_more (f (k, b)) []))
    → fed w (map held_feed (some_of f (numbered k (drop k ports)))) ≡ goal → fed next (map held_feed (some_of f (numbered (k + 1) (drop (k + 1) ports)))) ≡ goal
inputs_more w next f ports k b at is e =
    let rest = some_of f (numbered (k + 1) (drop (k + 1) ports)) in
    ap (λ z. fed z (map held_feed rest)) is
    ∙ sym (feeds_append w (and_more (f (k, b)) []) rest)
    ∙ ap (λ z. fed w (map held_feed z)) (more-append (f (k, b)) rest)
    ∙ ap (λ z. fed w (map held_feed (some_of f (numbered k z)))) (sym (drop_at ports k b at))
    ∙ e

pub ports_more : (w next : Wires) (f : ℕ × Bool → Feed) (ports : List Bool) (k : ℕ) (b : Bool) {goal : Wires} → slice_get ports k ≡ Some b → next ≡ fed w (held_feed (f (k, b)) ∷ [])
    → fed w (map held_feed (map f (numbered k (drop k ports)))) ≡ goal → fed next (map held_feed (map f (numbered (k + 1) (drop (k + 1) ports)))) ≡ goal
ports_more w next f ports k b at is e =
    let rest = map f (numbered (k + 1) (drop (k + 1) ports)) in
    ap (λ z. fed z (map held_feed rest)) is
    ∙ ap (λ z. fed w (map held_feed (map f (numbered k z)))) (sym (drop_at ports k b at))
    ∙ e

pub sites_more : (w next : Wires) (f : layout.Site → List Feed) (xs : List Site) (k : ℕ) (x : Site) {goal : Wires} → slice_get xs k ≡ Some x → next ≡ fed w (map held_feed (f (site_view x)))
    → fed w (map held_feed (flat_map f (sites_view (drop k xs)))) ≡ goal → fed next (map held_feed (flat_map f (sites_view (drop (k + 1) xs)))) ≡ goal
sites_more w next f xs k x at is e =
    let rest = flat_map f (sites_view (drop (k + 1) xs)) in
    ap (λ z. fed z (map held_feed rest)) is
    ∙ sym (feeds_append w (f (site_view x)) rest)
    ∙ ap (λ z. fed w (map held_feed (flat_map f (sites_view z)))) (sym (drop_at xs k x at))
    ∙ e

pub sites_done : (w : Wires) (f : layout.Site → List Feed) (xs : List Site) (k : ℕ) {goal : Wires} → length xs ≤ k → fed w (map held_feed (flat_map f (sites_view (drop k xs)))) ≡ goal → w ≡ goal
sites_done w f xs k past e = ap (λ z. fed w (map held_feed (flat_map f (sites_view z)))) (sym (drop_past xs k past)) ∙ e

-- ---- an instance

abbrev pub statements_behind : List (List Bool) → layout.Site → List Statement → ℕ → List Feed
statements_behind drives x zs k = flat_map (statement_feeds drives x) (drop k zs)

-- one more statement, where there is one
pub statement_fed : (w next : Wires) (drives : List (List Bool)) (x : layout.Site) (zs : List Statement) (k : ℕ) {goal : Wires} → next ≡ fed w (map held_feed (placed_feeds drives x (slice_get zs k)))
    → fed w (map held_feed (statements_behind drives x zs k)) ≡ goal → fed next (map held_feed (statements_behind drives x zs (k + 1))) ≡ goal
statement_fed w next drives x zs k {goal = goal} is e = by (slice_get zs k) refl
  where
    by : (o : Option Statement) → slice_get zs k ≡ o → fed next (map held_feed (statements_behind drives x zs (k + 1))) ≡ goal
    by None r =
        ap (λ z. fed next (map held_feed (flat_map (statement_feeds drives x) z))) (drop_out zs (k + 1) (get_behind zs k r))
        ∙ is ∙ ap (λ o. fed w (map held_feed (placed_feeds drives x o))) r
        ∙ ap (λ z. fed w (map held_feed (flat_map (statement_feeds drives x) z))) (sym (drop_out zs k r))
        ∙ e
    by (Some z) r = feeds_more w next (statement_feeds drives x) zs k z r (is ∙ ap (λ o. fed w (map held_feed (placed_feeds drives x o))) r) e

-- all statements, then the assigns
pub template_end : (w middle : Wires) (drives : List (List Bool)) (x : layout.Site) (t : Template) (o : Option Template) (k : ℕ) (joints : List Joint) → o ≡ Some t → length t.statements ≤ k
    → fed middle (map held_feed (statements_behind drives x t.statements k)) ≡ fed w (map held_feed (flat_map (statement_feeds drives x) t.statements)) → joints ≡ t.assigns
    → fed middle (joint_feeds x.start x.start Assign joints) ≡ fed w (map held_feed (template_feeds drives x o))
template_end w middle drives x t o k joints is past e same =
    ap (λ z. fed middle (joint_feeds x.start x.start Assign z)) same
    ∙ ap (λ z. fed z (joint_feeds x.start x.start Assign t.assigns)) (feeds_done middle (statement_feeds drives x) t.statements k past e)
    ∙ sym (feeds_append w (flat_map (statement_feeds drives x) t.statements) (map (joint_feed x.start x.start Assign) t.assigns))
    ∙ ap (λ z. fed w (map held_feed (template_feeds drives x z))) (sym is)

-- input ports, then the template
pub site_fed : (w middle : Wires) (drives : List (List Bool)) (l : layout.Layout) (x : layout.Site) (o : Option Template) → middle ≡ fed w (map held_feed (input_feeds l x x.by)) → o ≡ slice_get l.templates x.of
    → fed middle (map held_feed (template_feeds drives x o)) ≡ fed w (map held_feed (feeds_at drives l x))
site_fed w middle drives l x o is same =
    ap (λ z. fed middle (map held_feed (template_feeds drives x z))) same
    ∙ ap (λ z. fed z (map held_feed (template_feeds drives x (slice_get l.templates x.of)))) is
    ∙ sym (feeds_append w (input_feeds l x x.by) (template_feeds drives x (slice_get l.templates x.of)))

-- all instances, then the outer sides
pub all_fed : (w middle : Wires) (drives : List (List Bool)) (l : layout.Layout) (xs : List Site) (k : ℕ) → sites_view xs ≡ l.sites → length xs ≤ k
    → fed middle (map held_feed (flat_map (feeds_at drives l) (sites_view (drop k xs)))) ≡ fed w (map held_feed (flat_map (feeds_at drives l) (sites_view xs)))
    → fed middle (map held_feed (map (outer_feed l.inner) (numbered 0 l.ports))) ≡ fed w (map held_feed (feeds drives l))
all_fed w middle drives l xs k same past e =
    ap (λ z. fed z (map held_feed (map (outer_feed l.inner) (numbered 0 l.ports)))) (sites_done middle (feeds_at drives l) xs k past e)
    ∙ ap (λ z. fed (fed w (map held_feed (flat_map (feeds_at drives l) z))) (map held_feed (map (outer_feed l.inner) (numbered 0 l.ports)))) same
    ∙ sym (feeds_append w (flat_map (feeds_at drives l) l.sites) (map (outer_feed l.inner) (numbered 0 l.ports)))
