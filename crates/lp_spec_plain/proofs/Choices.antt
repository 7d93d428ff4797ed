-- Replacements of unknown supplies: two supplies that may each be on or not, and a function of pins that are joined to one of them.
use Rattle.std.proofs.Common.{◌≡◌, Bool, true, false, not, ◌||◌, ◌&&◌, cond, List, [], ◌∷◌, ◌++◌, map, Option, Some, ◌⊎◌, inl, inr, refl, sym, ◌∙◌, ap}
use Rattle.std.specs.Prelude.{filter, bytes_eq}
use Rattle.std.specs.List.{list_all, zip}
use Rattle.std.proofs.lemmas.Bool.{and_right, or_right, both_ways}
use Rattle.lp_tern.specs.declared.tern.Tern.{Tern}
use Rattle.lp_tern.specs.declared.tern.Tern.TheVariants.{Zero, One, X}
use Rattle.lp_expr.specs.Formula.{completions}
use Rattle.lp_spec_design.specs.Keys.{Name}
use Rattle.lp_spec_pins.specs.Pins.{SupplySource, FromTop, is_consistent, agree_if_same}

-- ---- lists of lists

abbrev In : List Bool → List (List Bool) → Type 0
In x [] = ⊥
In x (y ∷ ys) = (x ≡ y) ⊎ In x ys

in-left : (x : List Bool) (xs ys : List (List Bool)) → In x xs → In x (xs ++ ys)
in-left x [] ys h = absurd h
in-left x (y ∷ xs) ys (inl e) = inl e
in-left x (y ∷ xs) ys (inr h) = inr (in-left x xs ys h)

in-right : (x : List Bool) (xs ys : List (List Bool)) → In x ys → In x (xs ++ ys)
in-right x [] ys h = h
in-right x (y ∷ xs) ys h = inr (in-right x xs ys h)

in-behind : (b : Bool) (x : List Bool) (xs : List (List Bool)) → In x xs → In (b ∷ x) (map (λ c. b ∷ c) xs)
in-behind b x [] h = absurd h
in-behind b x (y ∷ xs) (inl e) = inl (ap (λ c. b ∷ c) e)
in-behind b x (y ∷ xs) (inr h) = inr (in-behind b x xs h)

-- what a value may be
abbrev May : Tern → Bool → Type 0
May Zero false = Unit {0}
May Zero true = ⊥
May One true = Unit {0}
May One false = ⊥
May X b = Unit {0}

in-completed : (t : Tern) (b : Bool) (v : List Tern) (c : List Bool) → May t b → In c (completions v) → In (b ∷ c) (completions (t ∷ v))
in-completed Zero false v c m h = in-left (false ∷ c) (map (λ x. false ∷ x) (completions v)) [] (in-behind false c (completions v) h)
in-completed Zero true v c m h = absurd m
in-completed One true v c m h = in-left (true ∷ c) (map (λ x. true ∷ x) (completions v)) [] (in-behind true c (completions v) h)
in-completed One false v c m h = absurd m
in-completed X false v c m h = in-left (false ∷ c) (map (λ x. false ∷ x) (completions v)) (map (λ x. true ∷ x) (completions v) ++ []) (in-behind false c (completions v) h)
in-completed X true v c m h = in-right (true ∷ c) (map (λ x. false ∷ x) (completions v)) (map (λ x. true ∷ x) (completions v) ++ []) (in-left (true ∷ c) (map (λ x. true ∷ x) (completions v)) [] (in-behind true c (completions v) h))

-- one that fails makes the whole fail
one_fails : (p : List Bool → Bool) (x : List Bool) (xs : List (List Bool)) → In x xs → p x ≡ false → list_all p xs ≡ false
one_fails p x [] h e = absurd h
one_fails p x (y ∷ xs) (inl same) e = ap (λ b. b && list_all p xs) (ap p (sym same) ∙ e)
one_fails p x (y ∷ xs) (inr h) e = ap (λ b. p y && b) (one_fails p x xs h e) ∙ and_right _ false refl

in-filtered : (q : List Bool → Bool) (x : List Bool) (xs : List (List Bool)) → In x xs → q x ≡ true → In x (filter q xs)
in-filtered q x [] h e = absurd h
in-filtered q x (y ∷ xs) h e = by (q y) refl h (λ more. in-filtered q x xs more e)
  where
    by : (b : Bool) → q y ≡ b → In x (y ∷ xs) → (In x xs → In x (filter q xs)) → In x (cond b (y ∷ filter q xs) (filter q xs))
    by true is (inl same) rest = inl same
    by true is (inr more) rest = inr (rest more)
    by false is (inl same) rest = absurd (both_ways (q y) is (ap q (sym same) ∙ e))
    by false is (inr more) rest = rest more

alone_passes : (p q : List Bool → Bool) (x : List Bool) → p x ≡ true → list_all p (filter q (x ∷ [])) ≡ true
alone_passes p q x e = by (q x)
  where
    by : (b : Bool) → list_all p (cond b (x ∷ []) []) ≡ true
    by true = ap (λ b. b && true) e
    by false = refl

-- ---- pins that are joined to a power or to a ground

-- the level of a pin of a kind, a power being true, whose supply is on or not
abbrev pub level_by_kind : Bool → Bool → Bool
level_by_kind k on = cond k on (not on)

-- what is chosen for all pins at once
abbrev pub chosen : Bool → Bool → List Bool → List Bool
chosen a b kinds = map (λ k. cond k a b) kinds

abbrev pub levels_of : List Bool → List Bool → List Bool
levels_of kinds bits = map (λ x. level_by_kind x.0 x.1) (zip kinds bits)

chosen-levels : (a b : Bool) (kinds : List Bool) → levels_of kinds (chosen a b kinds) ≡ map (λ k. level_by_kind k (cond k a b)) kinds
chosen-levels a b [] = refl
chosen-levels a b (k ∷ kinds) = ap (λ ls. level_by_kind k (cond k a b) ∷ ls) (chosen-levels a b kinds)

module _ (power gnd : Name) (apart : bytes_eq power gnd ≡ false) (apart_too : bytes_eq gnd power ≡ false) where
  abbrev pub source_of_kind : Bool → Option SupplySource
  source_of_kind k = Some (FromTop (cond k power gnd))

  agree_chosen : (a b k j : Bool) → agree_if_same (source_of_kind k, cond k a b) (source_of_kind j, cond j a b) ≡ true
  agree_chosen true b true true = or_right _ true refl
  agree_chosen false b true true = or_right _ true refl
  agree_chosen true b true false = ap (λ s. not s || b) apart
  agree_chosen false b true false = ap (λ s. not s || not b) apart
  agree_chosen a true false true = ap (λ s. not s || a) apart_too
  agree_chosen a false false true = ap (λ s. not s || not a) apart_too
  agree_chosen a true false false = or_right _ true refl
  agree_chosen a false false false = or_right _ true refl

  each_chosen : (a b : Bool) (f : Option SupplySource × Bool → Bool) → ((k : Bool) → f (source_of_kind k, cond k a b) ≡ true) → (kinds : List Bool) → list_all f (zip (map source_of_kind kinds) (chosen a b kinds)) ≡ true
  each_chosen a b f h [] = refl
  each_chosen a b f h (k ∷ kinds) = ap (λ x. x && list_all f (zip (map source_of_kind kinds) (chosen a b kinds))) (h k) ∙ each_chosen a b f h kinds

  chosen-consistent : (a b : Bool) (kinds : List Bool) → is_consistent (zip (map source_of_kind kinds) (chosen a b kinds)) ≡ true
  chosen-consistent a b kinds = each_chosen a b (λ x. list_all (agree_if_same x) (zip (map source_of_kind kinds) (chosen a b kinds))) (λ k. each_chosen a b (agree_if_same (source_of_kind k, cond k a b)) (λ j. agree_chosen a b k j) kinds) kinds

  module _ (tp tg : Tern) where
    abbrev pub value_of_kind : Bool → Tern
    value_of_kind k = cond k tp tg

    chosen-in : (a b : Bool) → May tp a → May tg b → (kinds : List Bool) → In (chosen a b kinds) (completions (map value_of_kind kinds))
    chosen-in a b p g [] = inl refl
    chosen-in a b p g (true ∷ kinds) = in-completed tp a (map value_of_kind kinds) (chosen a b kinds) p (chosen-in a b p g kinds)
    chosen-in a b p g (false ∷ kinds) = in-completed tg b (map value_of_kind kinds) (chosen a b kinds) g (chosen-in a b p g kinds)

    -- the function is 0 under every choice
    abbrev pub always_zero : (List Bool → Bool) → List Bool → Bool
    always_zero T kinds = list_all (λ bits. not (T (levels_of kinds bits))) (filter (λ bits. is_consistent (zip (map source_of_kind kinds) bits)) (completions (map value_of_kind kinds)))

    not_always : (T : List Bool → Bool) (kinds : List Bool) → ((a b : Bool) → T (map (λ k. level_by_kind k (cond k a b)) kinds) ≡ not (a && b)) → (a b : Bool) → May tp a → May tg b → (a && b) ≡ false → always_zero T kinds ≡ false
    not_always T kinds down a b p g off =
        one_fails (λ bits. not (T (levels_of kinds bits))) (chosen a b kinds) (filter (λ bits. is_consistent (zip (map source_of_kind kinds) bits)) (completions (map value_of_kind kinds)))
        (in-filtered (λ bits. is_consistent (zip (map source_of_kind kinds) bits)) (chosen a b kinds) (completions (map value_of_kind kinds)) (chosen-in a b p g kinds) (chosen-consistent a b kinds))
        (ap (λ ls. not (T ls)) (chosen-levels a b kinds) ∙ (ap not (down a b) ∙ ap (λ x. not (not x)) off))

  all_on : (kinds : List Bool) → completions (map (value_of_kind One One) kinds) ≡ chosen true true kinds ∷ []
  all_on [] = refl
  all_on (true ∷ kinds) = ap (λ cs. map (λ c. true ∷ c) cs ++ []) (all_on kinds)
  all_on (false ∷ kinds) = ap (λ cs. map (λ c. true ∷ c) cs ++ []) (all_on kinds)

  abbrev pub is_one : Tern → Bool
  is_one One = true
  is_one Zero = false
  is_one X = false

  -- the function is 0 whatever unknown supplies are exactly where both are on
  pub zero_where_on : (tp tg : Tern) (T : List Bool → Bool) (kinds : List Bool) → ((a b : Bool) → T (map (λ k. level_by_kind k (cond k a b)) kinds) ≡ not (a && b)) → always_zero tp tg T kinds ≡ (is_one tp && is_one tg)
  zero_where_on One One T kinds down =
      ap (λ cs. list_all (λ bits. not (T (levels_of kinds bits))) (filter (λ bits. is_consistent (zip (map source_of_kind kinds) bits)) cs)) (all_on kinds)
      ∙ alone_passes (λ bits. not (T (levels_of kinds bits))) (λ bits. is_consistent (zip (map source_of_kind kinds) bits)) (chosen true true kinds) (ap (λ ls. not (T ls)) (chosen-levels true true kinds) ∙ ap not (down true true))
  zero_where_on Zero Zero T kinds down = not_always Zero Zero T kinds down false false tt tt refl
  zero_where_on Zero One T kinds down = not_always Zero One T kinds down false true tt tt refl
  zero_where_on Zero X T kinds down = not_always Zero X T kinds down false false tt tt refl
  zero_where_on One Zero T kinds down = not_always One Zero T kinds down true false tt tt refl
  zero_where_on One X T kinds down = not_always One X T kinds down true false tt tt refl
  zero_where_on X Zero T kinds down = not_always X Zero T kinds down false false tt tt refl
  zero_where_on X One T kinds down = not_always X One T kinds down false true tt tt refl
  zero_where_on X X T kinds down = not_always X X T kinds down false false tt tt refl
