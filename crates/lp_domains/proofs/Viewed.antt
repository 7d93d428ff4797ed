-- The domains of instances by numbers are those by paths.
use Rattle.std.proofs.Common.{◌≡◌, ◌<◌, ◌+◌, ◌==◌, ℕ, suc, Bool, true, List, [], ◌∷◌, map, length, get_or, Option, Some, None, refl, sym, ap, ◌∙◌, arith}
use Rattle.std.specs.Prelude.{is_some, slice_get, if◌then◌else◌}
use Rattle.std.specs.List.{list_all, list_any}
use Rattle.std.proofs.lemmas.Bool.{ltb-true}
use Rattle.std.proofs.lemmas.List.{length-map, get_or-map}
use Rattle.lp_model.specs.declared.graph.Inst.{Inst}
use Rattle.lp_model.specs.declared.ids.InstId.{InstId}
use Rattle.lp_model.specs.declared.intent.Domain as model_domain
use Rattle.lp_model.specs.declared.intent.Intent as model
use Rattle.lp_spec_design.specs.Keys.{Path, same_path}
use Rattle.lp_spec_design.specs.Netlists.{Structure, module_at}
use Rattle.lp_spec_design.specs.Instances.{module_instances}
use Rattle.lp_spec_design.specs.Intents.{Domain, Intent}
use Rattle.lp_spec_design.specs.Domains.{first_number, listed, or_else, domain_of}
use Rattle.lp_spec_design.specs.Reads.{one, other, path-true, path-self}
use Rattle.lp_spec_bridge.specs.Tables.{Tables}
use Rattle.lp_spec_bridge.specs.Keyed.{keys_of, path_at}
use Rattle.lp_spec_bridge.specs.Elaborates.{Elaborates}
use Rattle.lp_spec_bridge.proofs.Apart.{same-places, any-image}
use Rattle.lp_spec_bridge.proofs.Trails.{map-map}
use Rattle.lp_spec_bridge.proofs.Inputs.{map-same}
use Rattle.lp_spec_bridge.proofs.Inherited.{pass_inherits}
use Rattle.lp_spec_views.specs.Views.{domain_view, intent_view}
use Rattle.lp_spec_views.specs.Ranges.{has_instance, IsInRange}
use Rattle.lp_domains.specs.Listed.{listings, listed_by, own_or_first, own_or, domains_by}
use Rattle.lp_domains.proofs.Noted.{length-listings, listings-at}

-- ---- lists

-- lists with the same entries
pub same-entries : {A : Type 0} (xs ys : List A) (d : A) → length xs ≡ length ys → ((k : ℕ) → k < length xs → get_or xs k d ≡ get_or ys k d) → xs ≡ ys
same-entries [] [] d size same = refl
same-entries [] (y ∷ ys) d size same = absurd cc
same-entries (x ∷ xs) [] d size same = absurd cc
same-entries (x ∷ xs) (y ∷ ys) d size same =
    let rest = same-entries xs ys d (omega (arith, size)) (λ k low. same (suc k) (omega (arith, low))) in
    (λ r. same 0 (omega arith) r ∷ rest r)

-- the number of the first of a list's images that passes a test
first-image : {A B : Type 0} (p : B → Bool) (q ok : A → Bool) (f : A → B) → ((x : A) → ok x ≡ true → p (f x) ≡ q x) → (k : ℕ) (xs : List A) → list_all ok xs ≡ true → first_number p k (map f xs) ≡ first_number q k xs
first-image p q ok f agree k [] h = refl
first-image p q ok f agree k (x ∷ xs) h =
    ap (λ b. if b then Some k else first_number p (k + 1) (map f xs)) (agree x (one (ok x) (list_all ok xs) h))
    ∙ ap (λ r. if q x then Some k else r) (first-image p q ok f agree (k + 1) xs (other (ok x) (list_all ok xs) h))

-- ---- values that are there

some-own : (o : Option ℕ) → is_some o ≡ true → Some (own_or_first o) ≡ o
some-own None h = absurd cc
some-own (Some d) h = refl

some-else : (own above : Option ℕ) → is_some above ≡ true → is_some (or_else own above) ≡ true
some-else None above h = h
some-else (Some d) above h = refl

own-else : (own above : Option ℕ) → own_or_first (or_else own above) ≡ own_or own (own_or_first above)
own-else None above = refl
own-else (Some d) above = refl

-- where the top has a domain, each instance has
all-some : (i : Intent) (p : Path) → is_some (domain_of i []) ≡ true → is_some (domain_of i p) ≡ true
all-some i [] h = h
all-some i (x ∷ p) h = some-else (listed i (x ∷ p)) (domain_of i p) (all-some i p h)

-- ---- instances by number

module _ (texts : List (List ℕ)) (s : Structure) (t : Tables) (e : Elaborates texts s t) (i : model.Intent) (r : IsInRange t i) where
  pub size : length (module_instances s) ≡ length t.instances
  size =
      sym (length-map (module_instances s) (module_at s))
      ∙ ap length (sym e.modules)
      ∙ length-map t.instances (λ (x : Inst). slice_get s.modules x.module)

  abbrev by_paths : Intent
  by_paths = intent_view s (keys_of s) i

  agree : (k : ℕ) → k < length t.instances → (x : InstId) → has_instance t x ≡ true → same_path (path_at (keys_of s) k) (path_at (keys_of s) x.0) ≡ (k == x.0)
  agree k low x h =
      let high : x.0 < length t.instances = ltb-true x.0 (length t.instances) h in
      same-places same_path path-true path-self (module_instances s) k x.0 [] e.apart.instances (omega (arith, low, size)) (omega (arith, high, size))

  domain-key : (k : ℕ) → k < length t.instances → (d : model_domain.Domain) → list_all (has_instance t) d.elements ≡ true → list_any (same_path (path_at (keys_of s) k)) (domain_view s (keys_of s) d).elements ≡ list_any (λ (x : InstId). k == x.0) d.elements
  domain-key k low d h = any-image (same_path (path_at (keys_of s) k)) (λ (x : InstId). k == x.0) (has_instance t) (λ (x : InstId). path_at (keys_of s) x.0) (agree k low) d.elements h

  listed-key : (k : ℕ) → k < length t.instances → listed by_paths (path_at (keys_of s) k) ≡ listed_by i.domains k
  listed-key k low =
      first-image (λ (d : Domain). list_any (same_path (path_at (keys_of s) k)) d.elements) (λ (d : model_domain.Domain). list_any (λ (x : InstId). k == x.0) d.elements) (λ (d : model_domain.Domain). list_all (has_instance t) d.elements) (domain_view s (keys_of s)) (domain-key k low) 0 i.domains r.listed

  pub table-key : listings (length t.instances) i.domains ≡ map (listed by_paths) (module_instances s)
  table-key =
      let many = length-listings (length t.instances) i.domains in
      let few = length-map (module_instances s) (listed by_paths) in
      same-entries (listings (length t.instances) i.domains) (map (listed by_paths) (module_instances s)) None (omega (arith, many, few, size))
      (λ k low.
      let here : k < length t.instances = omega (arith, low, many) in
      listings-at (length t.instances) i.domains k here
      ∙ sym (listed-key k here)
      ∙ sym (get_or-map (listed by_paths) (module_instances s) k [] None (omega (arith, here, size))))

  pub domains-key : is_some (domain_of by_paths []) ≡ true → map (λ d. Some d) (domains_by (listings (length t.instances) i.domains) t.instances) ≡ map (domain_of by_paths) (module_instances s)
  domains-key h =
      let value = λ (p : Path). own_or_first (domain_of by_paths p) in
      ap (λ (table : List (Option ℕ)). map (λ d. Some d) (domains_by table t.instances)) table-key
      ∙ ap (map (λ d. Some d)) (pass_inherits texts s t e (Option ℕ) ℕ own_or_first own_or (listed by_paths) (λ (p : Path). own_or_first (domain_of by_paths p)) refl (λ n p. own-else (listed by_paths (n ∷ p)) (domain_of by_paths p)))
      ∙ map-map (λ d. Some d) (λ (p : Path). own_or_first (domain_of by_paths p)) (module_instances s)
      ∙ map-same (λ (p : Path). Some (own_or_first (domain_of by_paths p))) (domain_of by_paths) (module_instances s) (λ p. some-own (domain_of by_paths p) (all-some by_paths p h))

  -- the top is the first instance
  pub top-key : slice_get (listings (length t.instances) i.domains) 0 ≡ Some (domain_of by_paths [])
  unfolding module_instances
  top-key = ap (λ table. slice_get table 0) table-key

  tops : slice_get (module_instances s) 0 ≡ Some []
  unfolding module_instances
  tops = refl

  pub top-there : (x : Inst) × (slice_get t.instances 0 ≡ Some x)
  top-there = by (module_instances s) tops size
    where
      by : (ps : List Path) → slice_get ps 0 ≡ Some [] → length ps ≡ length t.instances → (x : Inst) × (slice_get t.instances 0 ≡ Some x)
      by [] h g = absurd cc
      by (p ∷ ps) h g = there t.instances g
        where
          there : (xs : List Inst) → suc (length ps) ≡ length xs → (x : Inst) × (slice_get xs 0 ≡ Some x)
          there [] q = absurd cc
          there (x ∷ xs) q = (x, refl)
