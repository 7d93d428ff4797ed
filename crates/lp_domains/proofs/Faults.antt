-- The faults of domains by numbers are those by paths.
use Rattle.std.proofs.Common.{◌≡◌, ◌<◌, ◌+◌, ℕ, suc, Bool, true, false, List, [], ◌∷◌, map, length, Option, Some, None, refl, sym, ap, ◌∙◌, arith}
use Rattle.std.specs.Prelude.{not, is_some, option_map, slice_get, if◌then◌else◌}
use Rattle.lp_text.specs.declared.names.NameId.{NameId}
use Rattle.lp_model.specs.declared.graph.Graph.{Graph}
use Rattle.lp_model.specs.declared.graph.Inst.{Inst}
use Rattle.lp_model.specs.declared.ids.SetId.{SetId}
use Rattle.lp_model.specs.declared.intent.Domain as model_domain
use Rattle.lp_model.specs.declared.intent.Intent as model
use Rattle.lp_spec_design.specs.Netlists.{Structure, first}
use Rattle.lp_spec_design.specs.Graph.{numbered}
use Rattle.lp_spec_design.specs.Intents.{Domain, Intent}
use Rattle.lp_spec_design.specs.Domains.{first_number, domain_of}
use Rattle.lp_spec_bridge.specs.Tables.{tables_of}
use Rattle.lp_spec_bridge.specs.Keyed.{Keyed, keys_of}
use Rattle.lp_spec_bridge.specs.Elaborates.{Elaborates}
use Rattle.lp_spec_faults.specs.Lines.{first_of}
use Rattle.lp_spec_faults.specs.Domains.{no_domain, no_primary}
use Rattle.lp_spec_views.specs.Views.{set_number, domain_view, intent_view}
use Rattle.lp_spec_views.specs.Ranges.{IsInRange}
use Rattle.lp_domains.specs.Listed.{listings, domains_by}
use Rattle.lp_domains.specs.Domains.{HasDomains, IsNoDomain, IsNoPrimary, unlisted_top, without_primary}
use Rattle.lp_domains.proofs.Viewed.{top-key, top-there, domains-key}

-- ---- the top

missing-top : (a : Option Inst) (b : Option (Option ℕ)) (top : NameId) → unlisted_top a b ≡ Some top → (option_map (λ (x : Inst). x.name) a ≡ Some top) × (b ≡ Some None)
missing-top None b top h = absurd cc
missing-top (Some x) None top h = absurd cc
missing-top (Some x) (Some None) top h = (h, refl)
missing-top (Some x) (Some (Some d)) top h = absurd cc

present-top : (x : Inst) (o : Option ℕ) → unlisted_top (Some x) (Some o) ≡ None → is_some o ≡ true
present-top x None h = absurd cc
present-top x (Some d) h = refl

no-domain-at : (i : Intent) → domain_of i [] ≡ None → first_of (no_domain i) ≡ Some []
no-domain-at i h = ap (λ (o : Option ℕ). if not (is_some o) then Some [] else None) h

domain-at : (i : Intent) → is_some (domain_of i []) ≡ true → first_of (no_domain i) ≡ None
domain-at i h = ap (λ (b : Bool). if not b then Some [] else None) h

-- ---- primary supplies

some-number : (k : Option SetId) → is_some (set_number k) ≡ is_some k
some-number None = refl
some-number (Some k) = refl

abbrev lacks : model_domain.Domain → Bool
lacks d = not (is_some d.primary)

abbrev misses : ℕ × Domain → Bool
misses d = not (is_some d.1.primary)

number-of : (b : Bool) (k : ℕ) (d : Domain) (rest : Option (ℕ × Domain)) → option_map (λ (x : ℕ × Domain). x.0) (if b then Some (k, d) else rest) ≡ (if b then Some k else option_map (λ (x : ℕ × Domain). x.0) rest)
number-of true k d rest = refl
number-of false k d rest = refl

numbers-agree : (s : Structure) (ks : Keyed) (k : ℕ) (ds : List model_domain.Domain) → option_map (λ (x : ℕ × Domain). x.0) (first misses (numbered k (map (domain_view s ks) ds))) ≡ first_number lacks k ds
numbers-agree s ks k [] = refl
numbers-agree s ks k (d ∷ ds) =
    number-of (misses (k, domain_view s ks d)) k (domain_view s ks d) (first misses (numbered (k + 1) (map (domain_view s ks) ds)))
    ∙ ap (λ (b : Bool). if not b then Some k else option_map (λ (x : ℕ × Domain). x.0) (first misses (numbered (k + 1) (map (domain_view s ks) ds)))) (some-number d.primary)
    ∙ ap (λ (r : Option ℕ). if lacks d then Some k else r) (numbers-agree s ks (k + 1) ds)

none-of : {A B : Type 0} (f : A → B) (o : Option A) → option_map f o ≡ None → o ≡ None
none-of f None h = refl
none-of f (Some x) h = absurd cc

first-low : {A : Type 0} (p : A → Bool) (k : ℕ) (xs : List A) (n : ℕ) → first_number p k xs ≡ Some n → n < k + length xs
first-low p k [] n h = absurd cc
first-low p k (x ∷ xs) n h = by (p x) h (first-low p (k + 1) xs n)
  where
    by : (b : Bool) → (if b then Some k else first_number p (k + 1) xs) ≡ Some n → (first_number p (k + 1) xs ≡ Some n → n < k + 1 + length xs) → n < k + suc (length xs)
    by true g later = let same : k ≡ n = cc in omega (arith, same)
    by false g later = let rest = later g in omega (arith, rest)

pub without-low : (ds : List model_domain.Domain) (n : ℕ) → without_primary ds ≡ Some n → n < length ds
without-low ds n h = let low = first-low lacks 0 ds n h in omega (arith, low)

-- ---- of an elaborated netlist

module _ (g : Graph) (i : model.Intent) (texts : List (List ℕ)) (s : Structure) (e : Elaborates texts s (tables_of g)) (r : IsInRange (tables_of g) i) where
  abbrev by_paths : Intent
  by_paths = intent_view s (keys_of s) i

  abbrev unlisted : Option NameId
  unlisted = unlisted_top (slice_get g.instances 0) (slice_get (listings (length g.instances) i.domains) 0)

  pub no-domain-key : (top : NameId) → unlisted ≡ Some top → IsNoDomain g by_paths top
  no-domain-key top h =
      let found = missing-top (slice_get g.instances 0) (slice_get (listings (length g.instances) i.domains) 0) top h in
      let none : domain_of by_paths [] ≡ None = some-is (domain_of by_paths []) None (sym (top-key texts s (tables_of g) e i r) ∙ found.1) in
      record { name = found.0; fault = no-domain-at by_paths none }
    where
      some-is : (a b : Option ℕ) → Some a ≡ Some b → a ≡ b
      some-is a b q = cc

  topped : unlisted ≡ None → is_some (domain_of by_paths []) ≡ true
  topped h =
      let there = top-there texts s (tables_of g) e i r in
      present-top there.0 (domain_of by_paths []) (sym (λ j. unlisted_top (there.1 j) (top-key texts s (tables_of g) e i r j)) ∙ h)

  primary-key : option_map (λ (x : ℕ × Domain). x.0) (first_of (no_primary by_paths)) ≡ without_primary i.domains
  primary-key = numbers-agree s (keys_of s) 0 i.domains

  pub no-primary-key : (domain : ℕ) → unlisted ≡ None → without_primary i.domains ≡ Some domain → IsNoPrimary by_paths domain
  no-primary-key domain h w = record { topped = domain-at by_paths (topped h); fault = primary-key ∙ w }

  pub domains-are : (given : List ℕ) → unlisted ≡ None → without_primary i.domains ≡ None → given ≡ domains_by (listings (length g.instances) i.domains) g.instances → HasDomains s by_paths given
  domains-are given h w is = record {
    topped = domain-at by_paths (topped h);
    primary = none-of (λ (x : ℕ × Domain). x.0) (first_of (no_primary by_paths)) (primary-key ∙ w);
    domains = ap (map (λ d. Some d)) is ∙ domains-key texts s (tables_of g) e i r (topped h);
  }
