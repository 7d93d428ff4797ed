-- Marks of the targets of instances, and the count of modules without one.
use Rattle.std.proofs.Common.{◌≡◌, ◌≢◌, ℕ, zero, suc, ◌+◌, ◌<◌, ◌≤◌, ◌==◌, Bool, true, false, not, ◌&&◌, ◌||◌, cond, List, [], ◌∷◌, ◌++◌, length, take, drop, get_or, Some, None, refl, sym, ap, ◌∙◌, subst, append_assoc, append-nil, arith}
use Rattle.std.specs.Prelude.{map, filter, slice_get, slice_index_or, bytes_eq, ltb, codes, decimal, if◌then◌else◌}
use Rattle.std.specs.List.{flat_map, list_any}
use Rattle.std.specs.Option.{option_map}
use Rattle.std.proofs.lemmas.Bool.{eqb-true}
use Rattle.std.proofs.lemmas.List.{take_more, drop_more, drop_all, map-append}
use Rattle.std.proofs.lemmas.List.Folds.{list_any-append, list_all-append}
use Rattle.lp_text.specs.Texts.{text_at, distinct}
use Rattle.lp_model.specs.Agreement.{numbers_below}
use Rattle.lp_model.specs.declared.fault.netlist.NetlistFault.TheVariants as faults
use Rattle.lp_model.specs.declared.library.Library.{Library}
use Rattle.lp_model.specs.declared.netlist.Instance.{Instance}
use Rattle.lp_model.specs.declared.netlist.Module.{Module}
use Rattle.lp_model.specs.declared.netlist.Netlist.{Netlist}
use Rattle.lp_model.specs.NetlistView as nets
use Rattle.lp_model.specs.NetlistView.{InstanceView, ModuleView, instance_view, module_view, port_numbers, net_numbers, instance_numbers, assign_numbers, connections_numbers}
use Rattle.lp_spec_design.specs.Netlists.{Structure, first, is_instantiated, top_of}
use Rattle.lp_spec_faults.specs.Modules.{tops}
use Rattle.lp_places.specs.Places.{has_number}
use Rattle.lp_places.proofs.Numbers.{below-left, below-right, below-head, below-tail}
use Rattle.lp_targets.specs.Structures.{structure_of}
use Rattle.lp_targets.specs.Reports.{Report, report_of, top_told, top_report}
use Rattle.lp_targets.specs.Marks.{HasNoMarks, AddsMarks, AreMarks, targets_in, all_targets, is_free, count_free, tops_numbered}
use Rattle.lp_targets.proofs.Named.{any_same}

or_assoc : (a b c : Bool) → ((a || b) || c) ≡ (a || (b || c))
or_assoc true b c = refl
or_assoc false b c = refl

-- marks of some numbers and of more
pub adds : (a b c : List Bool) (ks js : List ℕ) → AddsMarks a b ks → AddsMarks b c js → AddsMarks a c (ks ++ js)
adds a b c ks js f g =
    λ n. g n ∙ ap (λ v. v || has_number n js) (f n) ∙ or_assoc (slice_index_or a n false) (has_number n ks) (has_number n js)
    ∙ ap (λ v. slice_index_or a n false || v) (sym (list_any-append (λ m. n == m) ks js))

pub targets-more : (xs : List Instance) (i : ℕ) (x : Instance) → i < length xs → x ≡ get_or xs i x → targets_in (take (i + 1) xs) ≡ targets_in (take i xs) ++ x.target.0 ∷ []
targets-more xs i x h is =
    ap targets_in (take_more xs i x h ∙ ap (λ y. take i xs ++ y ∷ []) (sym is))
    ∙ map-append (λ (y : Instance). y.target.0) (take i xs) (x ∷ [])

flat-more : {A B : Type 0} (f : A → List B) (xs : List A) (x : A) → flat_map f (xs ++ x ∷ []) ≡ flat_map f xs ++ f x
flat-more f [] x = append-nil (f x)
flat-more f (y ∷ xs) x = ap (λ r. f y ++ r) (flat-more f xs x) ∙ sym (append_assoc (f y) (flat_map f xs) (f x))

pub all-more : (ms : List Module) (i : ℕ) (m : Module) → i < length ms → m ≡ get_or ms i m → all_targets (take (i + 1) ms) ≡ all_targets (take i ms) ++ targets_in m.instances
all-more ms i m h is =
    ap all_targets (take_more ms i m h ∙ ap (λ y. take i ms ++ y ∷ []) (sym is))
    ∙ flat-more (λ (y : Module). targets_in y.instances) (take i ms) m

-- the count by marks
count_same : (marks : List Bool) (all : List ℕ) (ms : List Module) → ((n : ℕ) → slice_index_or marks n false ≡ has_number n all) → count_free marks ms ≡ length (filter (λ (m : Module). not (has_number m.name.0 all)) ms)
count_same marks all [] e = refl
count_same marks all (m ∷ ms) e =
    (λ i. length (cond (not (e m.name.0 i)) (m ∷ filter (λ (k : Module). not (slice_index_or marks k.name.0 false)) ms) (filter (λ (k : Module). not (slice_index_or marks k.name.0 false)) ms)))
    ∙ by (not (has_number m.name.0 all)) (count_same marks all ms e)
  where
    by : (b : Bool) → count_free marks ms ≡ length (filter (λ (k : Module). not (has_number k.name.0 all)) ms) → length (cond b (m ∷ filter (λ (k : Module). not (slice_index_or marks k.name.0 false)) ms) (filter (λ (k : Module). not (slice_index_or marks k.name.0 false)) ms)) ≡ length (cond b (m ∷ filter (λ (k : Module). not (has_number k.name.0 all)) ms) (filter (λ (k : Module). not (has_number k.name.0 all)) ms))
    by true r = ap suc r
    by false r = r

-- marks of all targets are marks of these and no others
pub marks_are : (old new : List Bool) (ks : List ℕ) → HasNoMarks old → AddsMarks old new ks → AreMarks new ks
marks_are old new ks none added = λ n. added n ∙ ap (λ b. b || has_number n ks) (none n)

pub tops_counted : (marks : List Bool) (ms : List Module) → AreMarks marks (all_targets ms) → count_free marks ms ≡ tops_numbered ms
tops_counted marks ms right = count_same marks (all_targets ms) ms right

-- ---- the first that passes a test

get_at : {A : Type 0} (xs : List A) (i : ℕ) (x : A) → i < length xs → x ≡ get_or xs i x → slice_get xs i ≡ Some x
get_at [] i x h is = absurd (omega (arith, h))
get_at (y ∷ xs) zero x h is = ap (λ z. Some z) (sym is)
get_at (y ∷ xs) (suc i) x h is = get_at xs i x (omega (arith, h)) is

pub free_here : {A : Type 0} (p : A → Bool) (xs : List A) (i : ℕ) (x : A) → i < length xs → x ≡ get_or xs i x → first p (drop i xs) ≡ first p xs → p x ≡ true → slice_get xs i ≡ first p xs
free_here p xs i x h is kept e =
    get_at xs i x h is
    ∙ sym (ap (λ b. cond b (Some x) (first p (drop (i + 1) xs))) e)
    ∙ ap (λ y. first p (y ∷ drop (i + 1) xs)) is
    ∙ sym (ap (first p) (drop_more xs i x h))
    ∙ kept

pub free_behind : {A : Type 0} (p : A → Bool) (xs : List A) (i : ℕ) (x : A) → i < length xs → x ≡ get_or xs i x → first p (drop i xs) ≡ first p xs → p x ≡ false → first p (drop (i + 1) xs) ≡ first p xs
free_behind p xs i x h is kept e =
    sym (ap (λ b. cond b (Some x) (first p (drop (i + 1) xs))) e)
    ∙ ap (λ y. first p (y ∷ drop (i + 1) xs)) is
    ∙ sym (ap (first p) (drop_more xs i x h))
    ∙ kept

pub free_nowhere : {A : Type 0} (p : A → Bool) (xs : List A) (i : ℕ) → length xs ≤ i → first p (drop i xs) ≡ first p xs → first p xs ≡ None
free_nowhere p xs i h kept = sym kept ∙ ap (first p) (drop_all i xs h)

-- where one passes there is a first
pub some_passes : {A : Type 0} (p : A → Bool) (xs : List A) → length (filter p xs) ≡ 1 → first p xs ≡ None → ⊥
some_passes p [] one none = omega (arith, one)
some_passes {A = A} p (x ∷ xs) one none = by (p x) one none (some_passes p xs)
  where
    by : (b : Bool) → length (cond b (x ∷ filter p xs) (filter p xs)) ≡ 1 → cond b (Some x) (first p xs) ≡ None → (length (filter p xs) ≡ 1 → first p xs ≡ None → ⊥) → ⊥
    by true n e rest = cc
    by false n e rest = rest n e

get_map : {A B : Type 0} (f : A → B) (xs : List A) (k : ℕ) → slice_get (map f xs) k ≡ option_map f (slice_get xs k)
get_map f [] k = refl
get_map f (x ∷ xs) zero = refl
get_map f (x ∷ xs) (suc k) = get_map f xs k

abbrev told : ℕ → Report
told n = (codes "F18 Top", decimal n ∷ [])

pub one_of_told : (count : ℕ) → top_told count ≡ None → count ≡ 1
one_of_told count e = by (count == 1) refl (e)
  where
    by : (b : Bool) → (count == 1) ≡ b → option_map told (if not b then Some count else None) ≡ None → count ≡ 1
    by true t h = eqb-true count 1 t
    by false t h = cc

-- ---- by the texts

module _ (texts : List (List ℕ)) (apart : distinct texts ≡ true) (n : Netlist) (named : numbers_below (length texts) (nets.netlist_numbers n) ≡ true) (l : Library) where
  abbrev Below : List ℕ → Type 0
  Below ks = numbers_below (length texts) ks ≡ true

  abbrev s : Structure
  s = structure_of texts n l

  targets_below : (xs : List Instance) → Below (flat_map instance_numbers xs) → Below (targets_in xs)
  targets_below [] below = refl
  targets_below (x ∷ xs) below =
      let here = below-left (length texts) (instance_numbers x) (flat_map instance_numbers xs) below in
      let behind = below-right (length texts) (instance_numbers x) (flat_map instance_numbers xs) below in
      let target : Below (x.target.0 ∷ []) = below-left (length texts) (x.target.0 ∷ []) (connections_numbers x.connections) (below-tail (length texts) x.name.0 (x.target.0 ∷ connections_numbers x.connections) here) in
      list_all-append (λ k. ltb k (length texts)) (x.target.0 ∷ []) (targets_in xs) ∙ (λ i. target i && targets_below xs behind i)

  instances_below : (m : Module) → Below (nets.module_numbers m) → Below (flat_map instance_numbers m.instances)
  instances_below m below =
      let ports = flat_map port_numbers m.ports in
      let wires = flat_map net_numbers m.nets in
      let instances = flat_map instance_numbers m.instances in
      let rest = flat_map assign_numbers m.assigns in
      below-left (length texts) instances rest (below-right (length texts) wires (instances ++ rest) (below-right (length texts) ports (wires ++ (instances ++ rest)) (below-tail (length texts) m.name.0 (ports ++ (wires ++ (instances ++ rest))) below)))

  instantiated_same : (k : ℕ) → k < length texts → (ms : List Module) → Below (flat_map nets.module_numbers ms) → list_any (λ (m : ModuleView). list_any (λ (i : InstanceView). bytes_eq i.target (text_at texts k)) m.instances) (map (module_view texts) ms) ≡ has_number k (all_targets ms)
  instantiated_same k h [] below = refl
  instantiated_same k h (m ∷ ms) below =
      let here = below-left (length texts) (nets.module_numbers m) (flat_map nets.module_numbers ms) below in
      let behind = below-right (length texts) (nets.module_numbers m) (flat_map nets.module_numbers ms) below in
      (λ i. any_same texts apart (instance_view texts) (λ (v : InstanceView). v.target) (λ (x : Instance). x.target.0) (λ x. refl) k m.instances h (targets_below m.instances (instances_below m here)) i || instantiated_same k h ms behind i)
      ∙ sym (list_any-append (λ j. k == j) (targets_in m.instances) (all_targets ms))

  tops_of : (ms : List Module) → Below (flat_map nets.module_numbers ms) → length (filter (λ (m : ModuleView). not (is_instantiated s m.name)) (map (module_view texts) ms)) ≡ length (filter (λ (m : Module). not (has_number m.name.0 (all_targets n.modules))) ms)
  tops_of [] below = refl
  tops_of (m ∷ ms) below =
      let here = below-left (length texts) (nets.module_numbers m) (flat_map nets.module_numbers ms) below in
      let behind = below-right (length texts) (nets.module_numbers m) (flat_map nets.module_numbers ms) below in
      let name = below-head (length texts) m.name.0 (flat_map port_numbers m.ports ++ (flat_map net_numbers m.nets ++ (flat_map instance_numbers m.instances ++ flat_map assign_numbers m.assigns))) here in
      (λ i. length (cond (not (instantiated_same m.name.0 name n.modules named i)) (module_view texts m ∷ filter (λ (k : ModuleView). not (is_instantiated s k.name)) (map (module_view texts) ms)) (filter (λ (k : ModuleView). not (is_instantiated s k.name)) (map (module_view texts) ms))))
      ∙ by (not (has_number m.name.0 (all_targets n.modules))) (tops_of ms behind)
    where
      by : (b : Bool) → length (filter (λ (k : ModuleView). not (is_instantiated s k.name)) (map (module_view texts) ms)) ≡ length (filter (λ (k : Module). not (has_number k.name.0 (all_targets n.modules))) ms) → length (cond b (module_view texts m ∷ filter (λ (k : ModuleView). not (is_instantiated s k.name)) (map (module_view texts) ms)) (filter (λ (k : ModuleView). not (is_instantiated s k.name)) (map (module_view texts) ms))) ≡ length (cond b (m ∷ filter (λ (k : Module). not (has_number k.name.0 (all_targets n.modules))) ms) (filter (λ (k : Module). not (has_number k.name.0 (all_targets n.modules))) ms))
      by true r = ap suc r
      by false r = r

  pub one_top : (ms : List Module) → ms ≡ n.modules → (k : ℕ) → k ≡ tops_numbered ms → k ≡ 1 → top_report s ≡ None
  one_top ms is k e one =
      let count : length (tops s) ≡ 1 = tops_of n.modules named ∙ sym (ap tops_numbered is) ∙ sym e ∙ one in
      λ i. top_told (count i)

  pub more_tops : (ms : List Module) → ms ≡ n.modules → (k : ℕ) → k ≡ tops_numbered ms → k ≢ 1 → top_report s ≡ Some (report_of texts (faults.Top k))
  more_tops ms is k e more =
      let count : length (tops s) ≡ k = tops_of n.modules named ∙ sym (ap tops_numbered is) ∙ sym e in
      (λ i. top_told (count i)) ∙ by (k == 1) refl
    where
      by : (b : Bool) → (k == 1) ≡ b → top_told k ≡ Some (report_of texts (faults.Top k))
      by true t = absurd (more (eqb-true k 1 t))
      by false t = rw t refl

  first_top : (marks : List Bool) → AreMarks marks (all_targets n.modules) → (ms : List Module) → Below (flat_map nets.module_numbers ms) → first (λ (m : ModuleView). not (is_instantiated s m.name)) (map (module_view texts) ms) ≡ option_map (module_view texts) (first (is_free marks) ms)
  first_top marks right [] below = refl
  first_top marks right (m ∷ ms) below =
      let here = below-left (length texts) (nets.module_numbers m) (flat_map nets.module_numbers ms) below in
      let behind = below-right (length texts) (nets.module_numbers m) (flat_map nets.module_numbers ms) below in
      let name = below-head (length texts) m.name.0 (flat_map port_numbers m.ports ++ (flat_map net_numbers m.nets ++ (flat_map instance_numbers m.instances ++ flat_map assign_numbers m.assigns))) here in
      let same : is_instantiated s (text_at texts m.name.0) ≡ slice_index_or marks m.name.0 false = instantiated_same m.name.0 name n.modules named ∙ sym (right m.name.0) in
      (λ i. cond (not (same i)) (Some (module_view texts m)) (first (λ (k : ModuleView). not (is_instantiated s k.name)) (map (module_view texts) ms)))
      ∙ by (is_free marks m) (first_top marks right ms behind)
    where
      by : (b : Bool) → first (λ (k : ModuleView). not (is_instantiated s k.name)) (map (module_view texts) ms) ≡ option_map (module_view texts) (first (is_free marks) ms) → cond b (Some (module_view texts m)) (first (λ (k : ModuleView). not (is_instantiated s k.name)) (map (module_view texts) ms)) ≡ option_map (module_view texts) (cond b (Some m) (first (is_free marks) ms))
      by true r = refl
      by false r = r

  -- the first module that is not marked is the top
  pub top_at : (ms : List Module) → ms ≡ n.modules → (marks : List Bool) → AreMarks marks (all_targets ms) → (k : ℕ) → slice_get ms k ≡ first (is_free marks) ms → slice_get s.modules k ≡ top_of s
  top_at ms is marks right k e =
      let right_here : AreMarks marks (all_targets n.modules) = subst (λ (xs : List Module). AreMarks marks (all_targets xs)) is right in
      let here : slice_get n.modules k ≡ first (is_free marks) n.modules = subst (λ (xs : List Module). slice_get xs k ≡ first (is_free marks) xs) is e in
      get_map (module_view texts) n.modules k ∙ ap (option_map (module_view texts)) here ∙ sym (first_top marks right_here n.modules named)

  pub one_told : top_report s ≡ None → length (tops s) ≡ 1
  one_told e = one_of_told (length (tops s)) e
