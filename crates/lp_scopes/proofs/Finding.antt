-- An instance by a name, a step of a name, and all its steps, by number and by path.
use Rattle.std.proofs.Common.{◌≡◌, ◌<◌, ◌≤◌, ℕ, zero, suc, ◌+◌, ◌-◌, Bool, true, false, List, [], ◌∷◌, ◌++◌, map, length, take, drop, get_or, codes, Option, Some, None, refl, sym, ap, ◌∙◌, subst, arith}
use Rattle.std.specs.Prelude.{is_some, bytes_eq, min, max, ◌==◌, slice_get, slice_index, option_map, if◌then◌else◌}
use Rattle.std.proofs.lemmas.Bool.{true≢false}
use Rattle.std.proofs.lemmas.Option.{slice_get-get_or}
use Rattle.std.proofs.lemmas.List.{length-take-le}
use Rattle.lp_text.specs.Texts.{text_at, same_text_comm}
use Rattle.lp_model.specs.declared.graph.Inst.{Inst}
use Rattle.lp_model.specs.declared.ids.InstId.{InstId}
use Rattle.lp_spec_design.specs.Keys.{Name, Path}
use Rattle.lp_spec_design.specs.Netlists.{Structure, first, module_at}
use Rattle.lp_spec_design.specs.Instances.{below, module_instances}
use Rattle.lp_spec_design.specs.Graph.{when}
use Rattle.lp_spec_design.specs.Reads.{name-true}
use Rattle.lp_spec_design.specs.Winners.{IsIn}
use Rattle.lp_spec_origins.specs.Commands.{Scoped}
use Rattle.lp_spec_bridge.specs.Tables.{Tables}
use Rattle.lp_spec_bridge.specs.Elaborates.{path_in}
use Rattle.lp_spec_bridge.proofs.Apart.{in-at}
use Rattle.lp_spec_intent.specs.Names.{at, Place, parent_of, instances_in, places_from, path_of, instance_at, step_from}
use Rattle.lp_spec_intent.specs.Names as names
use Rattle.lp_scopes.specs.Numbered.{inst_key, all_noted, standing, or_else, parent_in, parent_at, stepped, Spot, split_at, last_split, step_by, onward, on_by, walk_by, beginning_by, longest_from, longest_of}
use Rattle.lp_scopes.specs.Paths.{IsScoped}
use Rattle.lp_scopes.proofs.Rows.{row-path, row-count, parent-low}
use Rattle.lp_scopes.proofs.Standing.{some-is, none-some, placed, standing-is, has-standing, listed-there}
use Rattle.lp_scopes.proofs.Splits.{split-same, last-same, last-low, scoped, step-last}

-- a name that gives something in a text is one that was found there
found-at : {A : Type 0} (f : Name → Option A) (text : Name) (n : ℕ) (y : A × Name) → last_split f text n ≡ Some y → (j : ℕ) × (f (take j text) ≡ Some y.0)
found-at f text zero y e = absurd (none-some y e)
found-at f text (suc n) y e = by (split_at f text n) refl e (found-at f text n y)
  where
    head : (o : Option _) → f (take n text) ≡ o → option_map (λ k. (k, drop (n + 1) text)) o ≡ Some y → (j : ℕ) × (f (take j text) ≡ Some y.0)
    head None p g = absurd (none-some y g)
    head (Some k) p g = (n, p ∙ ap (λ (z : _ × Name). Some z.0) (some-is (k, drop (n + 1) text) y g))

    here : (t : Bool) → (if t then option_map (λ k. (k, drop (n + 1) text)) (f (take n text)) else None) ≡ Some y → (j : ℕ) × (f (take j text) ≡ Some y.0)
    here true g = head (f (take n text)) refl g
    here false g = absurd (none-some y g)

    by : (o : Option (_ × Name)) → split_at f text n ≡ o → or_else o (last_split f text n) ≡ Some y → (last_split f text n ≡ Some y → (j : ℕ) × (f (take j text) ≡ Some y.0)) → (j : ℕ) × (f (take j text) ≡ Some y.0)
    by None p g more = more g
    by (Some z) p g more = here (slice_index text n == 47) (p ∙ g)

last-map : {A B : Type 0} (h : A → B) (f : Name → Option A) (text : Name) (n : ℕ) → option_map (λ (x : A × Name). (h x.0, x.1)) (last_split f text n) ≡ last_split (λ t. option_map h (f t)) text n
last-map h f text zero = refl
last-map h f text (suc n) = by (slice_index text n == 47) (f (take n text)) (last-map h f text n)
  where
    by : (t : Bool) (o : Option _) → option_map (λ (x : _ × Name). (h x.0, x.1)) (last_split f text n) ≡ last_split (λ t. option_map h (f t)) text n
        → option_map (λ (x : _ × Name). (h x.0, x.1)) (or_else (if t then option_map (λ k. (k, drop (n + 1) text)) o else None) (last_split f text n))
        ≡ or_else (if t then option_map (λ k. (k, drop (n + 1) text)) (option_map h o) else None) (last_split (λ t. option_map h (f t)) text n)
    by false o more = more
    by true None more = more
    by true (Some k) more = refl

-- ---- names that are too long

longest-least : (texts : List (List ℕ)) (n : ℕ) (xs : List Inst) → n ≤ longest_from texts n xs
longest-least texts n [] = omega arith
longest-least texts n (x ∷ xs) = let l = longest-least texts (max (length (text_at texts x.name.0)) n) xs in omega (arith, l)

longest-has : (texts : List (List ℕ)) (n i : ℕ) (xs : List Inst) (x : Inst) → slice_get xs i ≡ Some x → length (text_at texts x.name.0) ≤ longest_from texts n xs
longest-has texts n i [] x e = absurd cc
longest-has texts n zero (y ∷ xs) x e =
    let is : y ≡ x = cc in
    let l = longest-least texts (max (length (text_at texts y.name.0)) n) xs in
    let same : length (text_at texts y.name.0) ≡ length (text_at texts x.name.0) = ap (λ (z : Inst). length (text_at texts z.name.0)) is in
    omega (arith, l, same)
longest-has texts n (suc i) (y ∷ xs) x e = longest-has texts (max (length (text_at texts y.name.0)) n) i xs x e

longer-not : (f g : Name) → length g < length f → bytes_eq f g ≡ false
longer-not f g l = by (bytes_eq f g) refl
  where
    by : (b : Bool) → bytes_eq f g ≡ b → b ≡ false
    by true e = let same : length f ≡ length g = ap (λ (x : Name). length x) (name-true f g e) in absurd (omega arith)
    by false e = refl

-- ---- the top

top-first : (s : Structure) (depth : ℕ) → 0 < depth → get_or (below s depth []) 0 [] ≡ []
top-first s zero h = absurd (omega arith)
top-first s (suc depth) h = refl

top-some : (s : Structure) (depth : ℕ) → 0 < depth → 0 < length (below s depth [])
top-some s zero h = absurd (omega arith)
top-some s (suc depth) h = omega arith

pub top-path : (s : Structure) → get_or (module_instances s) 0 [] ≡ []
unfolding module_instances
top-path s = top-first s 64 (omega arith)

pub has-top : (s : Structure) → 0 < length (module_instances s)
unfolding module_instances
has-top s = top-some s 64 (omega arith)

module _ (texts : List (List ℕ)) (s : Structure) (t : Tables) (e : IsScoped texts s t) where
  abbrev path : ℕ → Path
  path k = get_or (module_instances s) k []

  abbrev find : ℕ → Name → Option ℕ
  find k f = stepped texts (all_noted (map inst_key t.instances)) t.instances k f

  abbrev key : Spot → Scoped
  key a = at (path a.0) a.1

  standing-path : (k : ℕ) (f : Name) → k < length t.instances → option_map (λ c. get_or (module_instances s) c []) (standing texts (all_noted (map inst_key t.instances)) k f) ≡ when (is_some (module_at s (f ∷ path k))) (f ∷ path k)
  standing-path k f low = by (standing texts (all_noted (map inst_key t.instances)) k f) refl
    where
      none : (b : Bool) → is_some (module_at s (f ∷ path k)) ≡ b → standing texts (all_noted (map inst_key t.instances)) k f ≡ None → None ≡ when b (f ∷ path k)
      none true h g = absurd (true≢false (sym (has-standing texts s t e k f low h) ∙ ap is_some g))
      none false h g = refl

      by : (o : Option ℕ) → standing texts (all_noted (map inst_key t.instances)) k f ≡ o → option_map (λ c. get_or (module_instances s) c []) o ≡ when (is_some (module_at s (f ∷ path k))) (f ∷ path k)
      by None g = none (is_some (module_at s (f ∷ path k))) refl g
      by (Some c) g =
          let r = standing-is texts s t e k f c g in
          let count = row-count texts s t e.elaborates in
          let there = listed-there texts s t e f (path k) (subst (λ p. IsIn p (module_instances s)) r.1 (in-at (module_instances s) c [] (omega (arith, count, r.0)))) in
          ap (λ p. Some p) r.1 ∙ ap (λ b. when b (f ∷ path k)) (sym there)

  -- an instance by a name without steps
  pub find-path : (k : ℕ) (f : Name) → k < length t.instances → option_map (λ c. get_or (module_instances s) c []) (stepped texts (all_noted (map inst_key t.instances)) t.instances k f) ≡ instance_at s (at (get_or (module_instances s) k []) f)
  find-path k f low = on (get_or t.instances k nothing) (slice_get-get_or t.instances k nothing low)
    where
      nothing : Inst
      nothing = record { name = record { 0 = 0 }; «module» = 0; parent = None; start = 0 }

      stands : option_map (λ c. get_or (module_instances s) c []) (standing texts (all_noted (map inst_key t.instances)) k f) ≡ path_of (first (λ (z : Place). bytes_eq z.name f) (instances_in s (path k) (module_at s (path k))))
      stands = standing-path k f low ∙ sym (placed s (path k) f)

      no-parent : (b : Bool) (o other : Option ℕ) → o ≡ None → or_else (if b then o else None) other ≡ other
      no-parent true o other none = ap (λ z. or_else z other) none
      no-parent false o other none = refl

      -- past the instance itself
      up : (x : Inst) (o : Option InstId) → x.parent ≡ o → slice_get t.instances k ≡ Some x
          → option_map (λ c. get_or (module_instances s) c []) (or_else (if bytes_eq f (codes "..") then parent_at t.instances k else None) (standing texts (all_noted (map inst_key t.instances)) k f))
          ≡ path_of (first (λ (z : Place). bytes_eq z.name f) (parent_of (path k) ++ instances_in s (path k) (module_at s (path k))))
      up x None p row =
          let is : path k ≡ [] = row-path texts s t e.elaborates k x row ∙ ap (λ q. path_in texts (module_instances s) x.name.0 q) p in
          let none : parent_at t.instances k ≡ None = ap parent_in row ∙ ap (λ (q : Option InstId). option_map (λ (r : InstId). r.0) q) p in
          ap (λ o. option_map (λ c. get_or (module_instances s) c []) o) (no-parent (bytes_eq f (codes "..")) (parent_at t.instances k) (standing texts (all_noted (map inst_key t.instances)) k f) none)
          ∙ stands
          ∙ ap (λ q. path_of (first (λ (z : Place). bytes_eq z.name f) (parent_of q ++ instances_in s (path k) (module_at s (path k))))) (sym is)
      up x (Some q) p row =
          let is : path k ≡ text_at texts x.name.0 ∷ path q.0 = row-path texts s t e.elaborates k x row ∙ ap (λ r. path_in texts (module_instances s) x.name.0 r) p in
          let one : parent_at t.instances k ≡ Some q.0 = ap parent_in row ∙ ap (λ (r : Option InstId). option_map (λ (z : InstId). z.0) r) p in
          by one (bytes_eq f (codes ".."))
          ∙ ap (λ b. path_of (if b then Some (record { name = codes ".."; path = path q.0 }) else first (λ (z : Place). bytes_eq z.name f) (instances_in s (path k) (module_at s (path k))))) (same_text_comm f (codes ".."))
          ∙ ap (λ r. path_of (first (λ (z : Place). bytes_eq z.name f) (parent_of r ++ instances_in s (path k) (module_at s (path k))))) (sym is)
        where
          by : parent_at t.instances k ≡ Some q.0 → (b : Bool)
              → option_map (λ c. get_or (module_instances s) c []) (or_else (if b then parent_at t.instances k else None) (standing texts (all_noted (map inst_key t.instances)) k f))
              ≡ path_of (if b then Some (record { name = codes ".."; path = path q.0 }) else first (λ (z : Place). bytes_eq z.name f) (instances_in s (path k) (module_at s (path k))))
          by one true = ap (λ o. option_map (λ c. get_or (module_instances s) c []) (or_else o (standing texts (all_noted (map inst_key t.instances)) k f))) one
          by one false = stands

      on : (x : Inst) → slice_get t.instances k ≡ Some x → option_map (λ c. get_or (module_instances s) c []) (stepped texts (all_noted (map inst_key t.instances)) t.instances k f) ≡ instance_at s (at (get_or (module_instances s) k []) f)
      on x row =
          by (bytes_eq f (codes "."))
          ∙ ap (λ b. path_of (if b then Some (record { name = codes "."; path = path k }) else first (λ (z : Place). bytes_eq z.name f) (parent_of (path k) ++ instances_in s (path k) (module_at s (path k))))) (same_text_comm f (codes "."))
        where
          by : (b : Bool)
              → option_map (λ c. get_or (module_instances s) c []) (if b then Some k else or_else (if bytes_eq f (codes "..") then parent_at t.instances k else None) (standing texts (all_noted (map inst_key t.instances)) k f))
              ≡ path_of (if b then Some (record { name = codes "."; path = path k }) else first (λ (z : Place). bytes_eq z.name f) (parent_of (path k) ++ instances_in s (path k) (module_at s (path k))))
          by true = refl
          by false = up x x.parent refl row

  pub find-low : (k : ℕ) (f : Name) (c : ℕ) → k < length t.instances → stepped texts (all_noted (map inst_key t.instances)) t.instances k f ≡ Some c → c < length t.instances
  find-low k f c low h = by (bytes_eq f (codes ".")) h
    where
      parent : (o : Option Inst) → slice_get t.instances k ≡ o → parent_in o ≡ Some c → c < length t.instances
      parent None row g = absurd (none-some c g)
      parent (Some x) row g = from x.parent refl g
        where
          from : (q : Option InstId) → x.parent ≡ q → option_map (λ (r : InstId). r.0) q ≡ Some c → c < length t.instances
          from None p i = absurd (none-some c i)
          from (Some q) p i = let below_k = parent-low texts s t e.elaborates k x q row p in let is : q.0 ≡ c = some-is q.0 c i in omega (arith, below_k, is, low)

      rest : (b : Bool) (o : Option ℕ) → parent_at t.instances k ≡ o → or_else (if b then o else None) (standing texts (all_noted (map inst_key t.instances)) k f) ≡ Some c → c < length t.instances
      rest false o p g = (standing-is texts s t e k f c g).0
      rest true None p g = (standing-is texts s t e k f c g).0
      rest true (Some q) p g = parent (slice_get t.instances k) refl (p ∙ g)

      by : (b : Bool) → (if b then Some k else or_else (if bytes_eq f (codes "..") then parent_at t.instances k else None) (standing texts (all_noted (map inst_key t.instances)) k f)) ≡ Some c → c < length t.instances
      by true g = let is : k ≡ c = some-is k c g in omega (arith, is, low)
      by false g = rest (bytes_eq f (codes "..")) (parent_at t.instances k) refl g

  -- no name of an instance is longer than the longest
  find-long : (k : ℕ) (f : Name) → longest_of texts t.instances < length f → stepped texts (all_noted (map inst_key t.instances)) t.instances k f ≡ None
  find-long k f long =
      ap (λ b. if b then Some k else or_else (if bytes_eq f (codes "..") then parent_at t.instances k else None) (standing texts (all_noted (map inst_key t.instances)) k f)) (longer-not f (codes ".") (let two = longest-least texts 2 t.instances in omega (arith, two, long)))
      ∙ ap (λ b. or_else (if b then parent_at t.instances k else None) (standing texts (all_noted (map inst_key t.instances)) k f)) (longer-not f (codes "..") (let two = longest-least texts 2 t.instances in omega (arith, two, long)))
      ∙ by (standing texts (all_noted (map inst_key t.instances)) k f) refl
    where
      by : (o : Option ℕ) → standing texts (all_noted (map inst_key t.instances)) k f ≡ o → o ≡ None
      by None g = refl
      by (Some c) g =
          let r = standing-is texts s t e k f c g in
          let l = longest-has texts 2 c t.instances r.2 r.3 in
          let same : length (text_at texts r.2.name.0) ≡ length f = ap (λ (z : Name). length z) r.4 in
          absurd (omega (arith, l, same, long))

  -- ---- a step

  abbrev step : Spot → Option Spot
  step a = step_by (λ k f. stepped texts (all_noted (map inst_key t.instances)) t.instances k f) (longest_of texts t.instances) a

  map-two : (o : Option Spot) → option_map key o ≡ option_map scoped (option_map (λ (x : Spot). (path x.0, x.1)) o)
  map-two None = refl
  map-two (Some x) = refl

  pub step-path : (a : Spot) → a.0 < length t.instances → option_map key (step a) ≡ step_from s (key a)
  step-path a low =
      ap (λ o. option_map key o) (sym cut)
      ∙ map-two (last_split (find a.0) a.1 (length a.1))
      ∙ ap (λ (o : Option (Path × Name)). option_map scoped o) (last-map path (find a.0) a.1 (length a.1))
      ∙ ap (λ (o : Option (Path × Name)). option_map scoped o) (last-same (λ f. option_map path (find a.0 f)) (λ f. instance_at s (at (path a.0) f)) a.1 (length a.1) (λ j l. split-same (λ f. option_map path (find a.0 f)) (λ f. instance_at s (at (path a.0) f)) a.1 j (λ slash. find-path a.0 (take j a.1) low)))
      ∙ sym (step-last s (key a))
    where
      m : ℕ
      m = min (length a.1) (longest_of texts t.instances + 1)

      cut : last_split (find a.0) a.1 (length a.1) ≡ last_split (find a.0) a.1 (min (length a.1) (longest_of texts t.instances + 1))
      cut =
          let more : ℕ = length a.1 - min (length a.1) (longest_of texts t.instances + 1) in
          let all : length a.1 ≡ min (length a.1) (longest_of texts t.instances + 1) + (length a.1 - min (length a.1) (longest_of texts t.instances + 1)) = omega arith in
          ap (last_split (find a.0) a.1) all
          ∙ last-low (find a.0) a.1 (min (length a.1) (longest_of texts t.instances + 1)) (length a.1 - min (length a.1) (longest_of texts t.instances + 1))
          (λ j from to. find-long a.0 (take j a.1) (let l : length (take j a.1) ≡ j = length-take-le j a.1 (omega arith) in omega (arith, l, from, to)))

  pub step-low : (a b : Spot) → a.0 < length t.instances → step a ≡ Some b → b.0 < length t.instances
  step-low a b low h =
      let found = found-at (find a.0) a.1 (min (length a.1) (longest_of texts t.instances + 1)) b h in
      find-low a.0 (take found.0 a.1) b.0 low found.1

  pub some-top : 0 < length t.instances
  some-top = let count = row-count texts s t e.elaborates in let top = has-top s in omega (arith, count, top)

  -- ---- all steps

  module _ (ends_by : Spot → Bool) (ends : Scoped → Bool) (agree : (a : Spot) → a.0 < length t.instances → ends_by a ≡ ends (key a)) where
    abbrev on : Spot → Option Spot
    on a = onward step ends_by a

    walk-path : (text : Name) (a : Spot) → a.0 < length t.instances → key (walk_by on text a) ≡ names.walk s ends (length text) (key a)
    walk-path [] a low = refl
    walk-path (c ∷ text) a low = by (ends_by a) refl (step a) refl (λ b l. walk-path text b l)
      where
        by : (b : Bool) → ends_by a ≡ b → (o : Option Spot) → step a ≡ o → ((b : Spot) → b.0 < length t.instances → key (walk_by on text b) ≡ names.walk s ends (length text) (key b))
            → key (on_by a (if b then None else o) (walk_by on text)) ≡ (if ends (key a) then key a else names.on_by (key a) (step_from s (key a)) (names.walk s ends (length text)))
        by true f o h more = ap (λ z. if z then key a else names.on_by (key a) (step_from s (key a)) (names.walk s ends (length text))) (sym f ∙ agree a low)
        by false f None h more =
            ap (λ z. if z then key a else names.on_by (key a) None (names.walk s ends (length text))) (sym f ∙ agree a low)
            ∙ ap (λ z. if ends (key a) then key a else names.on_by (key a) z (names.walk s ends (length text))) (ap (λ o. option_map key o) (sym h) ∙ step-path a low)
        by false f (Some b) h more =
            more b (step-low a b low h)
            ∙ ap (λ z. if z then key a else names.on_by (key a) (Some (key b)) (names.walk s ends (length text))) (sym f ∙ agree a low)
            ∙ ap (λ z. if ends (key a) then key a else names.on_by (key a) z (names.walk s ends (length text))) (ap (λ o. option_map key o) (sym h) ∙ step-path a low)

    walk-low : (text : Name) (a : Spot) → a.0 < length t.instances → (walk_by on text a).0 < length t.instances
    walk-low [] a low = low
    walk-low (c ∷ text) a low = by (ends_by a) (step a) refl (λ b l. walk-low text b l)
      where
        by : (b : Bool) (o : Option Spot) → step a ≡ o → ((b : Spot) → b.0 < length t.instances → (walk_by on text b).0 < length t.instances) → (on_by a (if b then None else o) (walk_by on text)).0 < length t.instances
        by true o h more = low
        by false None h more = low
        by false (Some b) h more = more b (step-low a b low h)

    begins : (k : ℕ) (text : Name) → key (beginning_by k text) ≡ names.beginning (path k) text
    begins k [] = refl
    begins k (c ∷ text) = by (c == 47)
      where
        by : (b : Bool) → key (if b then (0, text) else (k, c ∷ text)) ≡ (if b then at [] text else at (path k) (c ∷ text))
        by true = ap (λ p. at p text) (top-path s)
        by false = refl

    begins-low : (k : ℕ) (text : Name) → k < length t.instances → (beginning_by k text).0 < length t.instances
    begins-low k [] low = low
    begins-low k (c ∷ text) low = by (c == 47)
      where
        by : (b : Bool) → (let a : Spot = if b then (0, text) else (k, c ∷ text) in a.0 < length t.instances)
        by true = some-top
        by false = low

    pub last-path : (k : ℕ) (text : Name) → k < length t.instances → key (walk_by on text (beginning_by k text)) ≡ names.last_part s ends (path k) text
    last-path k text low = walk-path text (beginning_by k text) (begins-low k text low) ∙ ap (λ a. names.walk s ends (length text) a) (begins k text)

    pub last-low-end : (k : ℕ) (text : Name) → k < length t.instances → (walk_by on text (beginning_by k text)).0 < length t.instances
    last-low-end k text low = walk-low text (beginning_by k text) (begins-low k text low)
