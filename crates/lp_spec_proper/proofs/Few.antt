-- Where no module contains itself, the limit on instances is one on the module instances by their paths.
use Rattle.std.specs.Prelude.{filter, flat_map, sum_by, bytes_eq, nat_lt, if◌then◌else◌}
use Rattle.std.specs.List.{list_any}
use Rattle.std.specs.Option.{option_map_or}
use Rattle.std.proofs.Common.{◌≡◌, ◌≤◌, ◌+◌, ◌||◌, ℕ, zero, suc, is_some, not, ◌&&◌, Bool, true, false, List, [], ◌∷◌, map, length, Option, Some, None, inl, inr, refl, sym, ap, ◌∙◌, subst, arith}
use Rattle.std.proofs.lemmas.Bool.{true≢false, false≢true, cases_Bool, or_parts, ltb-false}
use Rattle.std.proofs.lemmas.List.{length-append}
use Rattle.std.proofs.lemmas.List.Sums.{sum_by-cons}
use Rattle.lp_model.specs.declared.fault.netlist.NetlistLimit.TheVariants as limits
use Rattle.lp_model.specs.NetlistView.{InstanceView, ModuleView}
use Rattle.lp_spec_design.specs.Keys.{Path}
use Rattle.lp_spec_design.specs.Netlists.{Structure, module_named, module_at, is_instantiated, top_of}
use Rattle.lp_spec_design.specs.Instances.{children_in, children, below, module_instances}
use Rattle.lp_spec_design.specs.Graph.{some_of, and_more}
use Rattle.lp_spec_design.specs.Reads.{name-true, name-self}
use Rattle.lp_spec_design.specs.Winners.{IsIn}
use Rattle.lp_spec_design.proofs.Members.{IsApart, no-longer, any-in, of-any, of-some}
use Rattle.lp_spec_design.proofs.Sources.{first_in}
use Rattle.lp_spec_realises.specs.ProjectNetlists.{are_apart, has_names_apart}
use Rattle.lp_spec_faults.specs.Lines.{first_of}
use Rattle.lp_spec_faults.specs.Modules.{modules_in, is_within, recursive, cells_in, together, in_all, is_deeper, netlist_limits}
use Rattle.lp_spec_agreement.proofs.Apart.{same_named, module_below}
use Rattle.lp_spec_agreement.proofs.Framed.{none_passes, no_fault}

and_first : (a b : Bool) → (a && b) ≡ true → a ≡ true
and_first true b e = refl
and_first false b e = absurd (false≢true e)

module _ (s : Structure) where
  -- so many modules down from the first one is the second
  abbrev IsDown : ℕ → ModuleView → ModuleView → Type 0
  IsDown zero m k = m ≡ k
  IsDown (suc n) m k = (i : ModuleView) × IsIn i (modules_in s m) × IsDown n i k

  -- a module is in the first of a list, that in the next one, and so on
  abbrev IsUnder : ModuleView → List ModuleView → Type 0
  IsUnder k [] = Unit {0}
  IsUnder k (m ∷ above) = IsIn k (modules_in s m) × IsUnder m above

  down_more : (n : ℕ) (m i k : ModuleView) → IsDown n m i → IsIn k (modules_in s i) → IsDown (suc n) m k
  down_more zero m i k is h = (k, subst (λ z. IsIn k (modules_in s z)) (sym is) h, refl)
  down_more (suc n) m i k down h = (down.0, down.1, down_more n down.0 i k down.2 h)

  comes_down : (k m : ModuleView) (above : List ModuleView) → IsUnder k above → IsIn m above → (n : ℕ) × IsDown (suc n) m k × (suc n ≤ length above)
  comes_down k m [] under h = absurd h
  comes_down k m (i ∷ above) under (inl is) = (0, (k, subst (λ z. IsIn k (modules_in s z)) (sym is) under.0, refl), omega arith)
  comes_down k m (i ∷ above) under (inr h) =
      let more = comes_down i m above under.1 h in
      (suc more.0, down_more (suc more.0) m i k more.1 under.0, omega (arith, more.2))

  or_second : (a b : Bool) → b ≡ true → (a || b) ≡ true
  or_second true b e = refl
  or_second false b e = e

  is_found : (n steps : ℕ) (m k : ModuleView) → IsDown (suc n) m k → suc n ≤ steps → is_within s k.name steps m ≡ true
  is_found n zero m k down enough = absurd (omega arith)
  is_found zero (suc steps) m k down enough =
      any-in (λ (i : ModuleView). bytes_eq i.name k.name || is_within s k.name steps i) down.0 (modules_in s m) down.1
      (ap (λ (i : ModuleView). bytes_eq i.name k.name || is_within s k.name steps down.0) down.2 ∙ ap (λ b. b || is_within s k.name steps down.0) (name-self k.name))
  is_found (suc n) (suc steps) m k down enough =
      any-in (λ (i : ModuleView). bytes_eq i.name k.name || is_within s k.name steps i) down.0 (modules_in s m) down.1
      (or_second (bytes_eq down.0.name k.name) (is_within s k.name steps down.0) (is_found n steps down.0 k down.2 (omega arith)))

  module _ (apart : has_names_apart s.modules ≡ true) (none : first_of (recursive s) ≡ None) where
    names_apart : are_apart (map (λ (m : ModuleView). m.name) s.modules) ≡ true
    names_apart = and_first (are_apart (map (λ (m : ModuleView). m.name) s.modules)) _ apart

    inside_known : (m k : ModuleView) → IsIn k (modules_in s m) → IsIn k s.modules
    inside_known m k h =
        let x = of-some (λ (i : InstanceView). module_named s i.target) k m.instances h in
        (first_in (λ (i : ModuleView). bytes_eq i.name x.0.target) s.modules k x.2).0

    abbrev AreKnown : List ModuleView → Type 0
    AreKnown above = (m : ModuleView) → IsIn m above → IsIn m s.modules

    one_more : (k : ModuleView) (above : List ModuleView) → IsIn k s.modules → AreKnown above → AreKnown (k ∷ above)
    one_more k above here known m h = elim h [ inl is ↦ subst (λ z. IsIn z s.modules) (sym is) here | inr rest ↦ known m rest ]

    -- a module that stands above itself is the line's
    no_return : (k : ModuleView) (above : List ModuleView) → IsUnder k above → IsIn k s.modules → AreKnown above → IsApart above → list_any (λ (m : ModuleView). bytes_eq m.name k.name) above ≡ true → ⊥
    no_return k above under here known differ h =
        let m = of-any (λ (i : ModuleView). bytes_eq i.name k.name) above h in
        let is : m.0 ≡ k = same_named (λ (i : ModuleView). i.name) s.modules names_apart m.0 k (known m.0 m.1) here (name-true m.0.name k.name m.2) in
        let loop = comes_down k k above under (subst (λ z. IsIn z above) is m.1) in
        let size = no-longer above s.modules differ known in
        true≢false (sym (is_found loop.0 (length s.modules) k k loop.1 (omega (arith, loop.2, size))) ∙ no_fault (recursive s) none k here)

    is_fresh : (k : ModuleView) (above : List ModuleView) → list_any (λ (m : ModuleView). bytes_eq m.name k.name) above ≡ false → IsIn k above → ⊥
    is_fresh k above out h = true≢false (sym (any-in (λ (m : ModuleView). bytes_eq m.name k.name) k above h (name-self k.name)) ∙ out)

    -- no chain of modules is longer than there are modules
    ends : (n : ℕ) (k : ModuleView) (above : List ModuleView) → IsUnder k above → IsIn k s.modules → AreKnown above → IsApart above → length s.modules ≤ length above + n → is_deeper s n k ≡ true → ⊥
    ends zero k above under here known differ many deep =
        elim (cases_Bool (list_any (λ (m : ModuleView). bytes_eq m.name k.name) above)) [
          | inl h ↦ no_return k above under here known differ h
          | inr out ↦ let size = no-longer (k ∷ above) s.modules (is_fresh k above out, differ) (one_more k above here known) in absurd (omega (arith, size))
        ]
    ends (suc n) k above under here known differ many deep =
        elim (cases_Bool (list_any (λ (m : ModuleView). bytes_eq m.name k.name) above)) [
          | inl h ↦ no_return k above under here known differ h
          | inr out ↦
              let i = of-any (is_deeper s n) (modules_in s k) deep in
              ends n i.0 (k ∷ above) (i.1, under) (inside_known k i.0 i.1) (one_more k above here known) (is_fresh k above out, differ) (omega arith) i.2
        ]

    not_deeper : (m : ModuleView) → IsIn m s.modules → is_deeper s (length s.modules) m ≡ false
    not_deeper m h = by (is_deeper s (length s.modules) m) refl
      where
        by : (b : Bool) → is_deeper s (length s.modules) m ≡ b → b ≡ false
        by false e = refl
        by true e = absurd (ends (length s.modules) m [] tt h (λ k none. absurd none) tt (omega arith) e)

    -- ---- counting

    abbrev counted : ℕ → ModuleView → ℕ
    counted n m = together s (λ k. 1) n m

    -- the instances inside, where each has few below it
    children_few : (d n : ℕ) (q : Path) (m : ModuleView) → module_at s q ≡ Some m
        → ((r : Path) (k : ModuleView) → module_at s r ≡ Some k → is_deeper s n k ≡ false → length (below s d r) ≤ counted n k)
        → (xs : List InstanceView) → ((x : InstanceView) → IsIn x xs → IsIn x m.instances)
        → ((k : ModuleView) → IsIn k (some_of (λ (i : InstanceView). module_named s i.target) xs) → is_deeper s n k ≡ false)
        → length (flat_map (below s d) (map (λ (x : InstanceView). x.name ∷ q) (filter (λ (x : InstanceView). is_some (module_named s x.target)) xs)))
        ≤ sum_by (counted n) (some_of (λ (i : InstanceView). module_named s i.target) xs)
    children_few d n q m e few [] among flat = omega arith
    children_few d n q m e few (x ∷ xs) among flat = by (module_named s x.target) refl (λ k h. flat k h) (λ f. children_few d n q m e few xs (λ y h. among y (inr h)) f)
      where
        others : List InstanceView
        others = filter (λ (y : InstanceView). is_some (module_named s y.target)) xs

        inside : List ModuleView
        inside = some_of (λ (i : InstanceView). module_named s i.target) xs

        by : (o : Option ModuleView) → module_named s x.target ≡ o
            → ((k : ModuleView) → IsIn k (and_more (module_named s x.target) inside) → is_deeper s n k ≡ false)
            → (((k : ModuleView) → IsIn k inside → is_deeper s n k ≡ false) → length (flat_map (below s d) (map (λ (y : InstanceView). y.name ∷ q) others)) ≤ sum_by (counted n) inside)
            → length (flat_map (below s d) (map (λ (y : InstanceView). y.name ∷ q) (if is_some o then x ∷ others else others))) ≤ sum_by (counted n) (and_more o inside)
        by None is low more = more (λ k h. low k (subst (λ o. IsIn k (and_more o inside)) (sym is) h))
        by (Some k) is low more =
            let one = few (x.name ∷ q) k (module_below s apart q m e x (among x (inl refl)) ∙ is) (low k (subst (λ o. IsIn k (and_more o inside)) (sym is) (inl refl))) in
            let rest = more (λ i h. low i (subst (λ o. IsIn i (and_more o inside)) (sym is) (inr h))) in
            let both = length-append (below s d (x.name ∷ q)) (flat_map (below s d) (map (λ (y : InstanceView). y.name ∷ q) others)) in
            let sum = sum_by-cons (counted n) k inside in
            omega (arith, one, rest, both, sum)

    few_below : (d n : ℕ) (q : Path) (m : ModuleView) → module_at s q ≡ Some m → is_deeper s n m ≡ false → length (below s d q) ≤ counted n m
    few_below zero n q m e deep = omega arith
    few_below (suc d) zero q m e deep = absurd (true≢false deep)
    few_below (suc d) (suc n) q m e deep =
        let inside = children_few d n q m e (few_below d n) m.instances (λ x h. h) (λ k h. none_passes (is_deeper s n) k (modules_in s m) deep h) in
        let same : length (flat_map (below s d) (children s q)) ≡ length (flat_map (below s d) (children_in s q (Some m))) = ap (λ o. length (flat_map (below s d) (children_in s q o))) e in
        omega (arith, inside, same)

    -- all of them
    pub few_instances : first_of (netlist_limits s) ≡ None → is_some (module_at s []) ≡ true → length (module_instances s) ≤ 1000000
    unfolding module_instances
    few_instances within top = by (top_of s) refl
      where
        counted_few : in_all s (λ k. 1) ≤ 1000000
        counted_few =
            let over = no_fault (netlist_limits s) within limits.Instances (inr (inl refl)) in
            let many = (or_parts (nat_lt 1000000 (in_all s (cells_in s))) (nat_lt 1000000 (in_all s (λ k. 1))) over).1 in
            ltb-false 1000000 (in_all s (λ k. 1)) many

        by : (o : Option ModuleView) → top_of s ≡ o → length (below s 64 []) ≤ 1000000
        by None e = absurd (true≢false (sym top ∙ ap is_some e))
        by (Some m) e =
            let there = (first_in (λ (k : ModuleView). not (is_instantiated s k.name)) s.modules m e).0 in
            let few = few_below 64 (length s.modules) [] m e (not_deeper m there) in
            let all : in_all s (λ k. 1) ≡ counted (length s.modules) m = ap (λ o. option_map_or (together s (λ k. 1) (length s.modules)) o 0) e in
            omega (arith, few, all, counted_few)
