-- The instances at which domains meet are by numbers those by paths.
use Rattle.std.proofs.Common.{◌≡◌, ◌<◌, ◌+◌, ℕ, zero, suc, Bool, true, not, List, [], ◌∷◌, ◌++◌, map, length, get_or, Option, Some, None, refl, sym, ap, ◌∙◌, arith}
use Rattle.std.specs.Prelude.{slice_get}
use Rattle.std.specs.List.{list_all}
use Rattle.std.proofs.Math.ListN.{get_or-map}
use Rattle.std.proofs.Math.Seq.{get_or-append_seam}
use Rattle.std.proofs.lemmas.Bool.{ltb-true}
use Rattle.std.proofs.lemmas.List.{append_assoc, append-nil, get_or_append_left, length-map, length_push}
use Rattle.std.proofs.lemmas.Option.{slice_get_within, slice_get-get_or}
use Rattle.lp_text.specs.Texts.{text_at}
use Rattle.lp_model.specs.declared.graph.Inst.{Inst}
use Rattle.lp_model.specs.declared.ids.InstId.{InstId}
use Rattle.lp_spec_design.specs.Keys.{Path}
use Rattle.lp_spec_design.specs.Netlists.{Structure, module_at}
use Rattle.lp_spec_design.specs.Instances.{module_instances}
use Rattle.lp_spec_design.specs.Graph.{numbered}
use Rattle.lp_spec_design.specs.Intents.{Intent}
use Rattle.lp_spec_design.specs.Domains.{domain_of, same_domain, is_boundary}
use Rattle.lp_spec_design.specs.Reads.{one, other}
use Rattle.lp_spec_bridge.specs.Tables.{Tables, is_behind}
use Rattle.lp_spec_bridge.specs.Keyed.{keys_of, path_at}
use Rattle.lp_spec_bridge.specs.Elaborates.{path_in, paths_from, Elaborates}
use Rattle.lp_spec_bridge.proofs.Trails.{same-at}
use Rattle.lp_domains.specs.Boundary.{is_other, is_meeting, meetings}
use Rattle.lp_domains.proofs.Viewed.{same-entries}

-- ---- paths by their rows

module _ (texts : List (List ℕ)) where
  kept : (done : List Path) (xs : List Inst) → (more : List Path) × (done ++ more ≡ paths_from texts done xs)
  kept done [] = ([], append-nil done)
  kept done (x ∷ xs) =
      let p = path_in texts done x.name.0 x.parent in
      let rest = kept (done ++ (path_in texts done x.name.0 x.parent ∷ [])) xs in
      (p ∷ rest.0, sym (append_assoc done (path_in texts done x.name.0 x.parent ∷ []) rest.0) ∙ rest.1)

  path-kept : (done more : List Path) (name : ℕ) (parent : Option InstId) → is_behind (length done) parent ≡ true → path_in texts (done ++ more) name parent ≡ path_in texts done name parent
  path-kept done more name None h = refl
  path-kept done more name (Some q) h = ap (λ p. text_at texts name ∷ p) (get_or_append_left done more [] q.0 (ltb-true q.0 (length done) h))

  paths-at : (done : List Path) (xs : List Inst) → list_all (λ (z : ℕ × Inst). is_behind z.0 z.1.parent) (numbered (length done) xs) ≡ true → (k : ℕ) (x : Inst) → slice_get xs k ≡ Some x
      → get_or (paths_from texts done xs) (length done + k) [] ≡ path_in texts (paths_from texts done xs) x.name.0 x.parent
  paths-at done [] h k x e = absurd cc
  paths-at done (y ∷ ys) h zero x e =
      let here : y ≡ x = cc in
      let p = path_in texts done y.name.0 y.parent in
      let rest = kept (done ++ (path_in texts done y.name.0 y.parent ∷ [])) ys in
      let all : done ++ (p ∷ rest.0) ≡ paths_from texts done (y ∷ ys) = sym (append_assoc done (path_in texts done y.name.0 y.parent ∷ []) rest.0) ∙ rest.1 in
      let behind = one (is_behind (length done) y.parent) (list_all (λ (z : ℕ × Inst). is_behind z.0 z.1.parent) (numbered (length done + 1) ys)) h in
      let end : length done + zero ≡ length done = omega arith in
      let at : get_or (done ++ (p ∷ rest.0)) (length done + zero) [] ≡ p = ap (λ n. get_or (done ++ (path_in texts done y.name.0 y.parent ∷ rest.0)) n []) end ∙ get_or-append_seam done (path_in texts done y.name.0 y.parent) rest.0 [] in
      ap (λ ps. get_or ps (length done + zero) []) (sym all)
      ∙ at
      ∙ sym (path-kept done (p ∷ rest.0) y.name.0 y.parent behind)
      ∙ ap (λ ps. path_in texts ps y.name.0 y.parent) all
      ∙ ap (λ (z : Inst). path_in texts (paths_from texts done (y ∷ ys)) z.name.0 z.parent) here
  paths-at done (y ∷ ys) h (suc k) x e =
      let p = path_in texts done y.name.0 y.parent in
      let more : list_all (λ (z : ℕ × Inst). is_behind z.0 z.1.parent) (numbered (length (done ++ (p ∷ []))) ys) ≡ true =
      ap (λ n. list_all (λ (z : ℕ × Inst). is_behind z.0 z.1.parent) (numbered n ys)) (length_push done (path_in texts done y.name.0 y.parent))
      ∙ other (is_behind (length done) y.parent) (list_all (λ (z : ℕ × Inst). is_behind z.0 z.1.parent) (numbered (length done + 1) ys)) h in
      let next : length done + suc k ≡ length (done ++ (p ∷ [])) + k = omega (arith, length_push done (path_in texts done y.name.0 y.parent)) in
      ap (λ n. get_or (paths_from texts done (y ∷ ys)) n []) next ∙ paths-at (done ++ (path_in texts done y.name.0 y.parent ∷ [])) ys more k x e

-- ---- lists

abbrev pub nowhere : Inst
nowhere = record { name = record { 0 = 0 }; «module» = 0; parent = None; start = 0 }

pub numbered-at : {A B : Type 0} (f : ℕ × A → B) (n : ℕ) (xs : List A) (k : ℕ) (x : A) (d : B) → slice_get xs k ≡ Some x → get_or (map f (numbered n xs)) k d ≡ f (n + k, x)
numbered-at f n [] k x d e = absurd cc
numbered-at f n (y ∷ ys) zero x d e = let here : y ≡ x = cc in let same : n ≡ n + zero = omega arith in (λ r. f (same r, here r))
numbered-at f n (y ∷ ys) (suc k) x d e = let same : n + 1 + k ≡ n + suc k = omega arith in numbered-at f (n + 1) ys k x d e ∙ ap (λ m. f (m, x)) same

pub length-numbered : {A : Type 0} (n : ℕ) (xs : List A) → length (numbered n xs) ≡ length xs
length-numbered n [] = refl
length-numbered n (x ∷ xs) = ap suc (length-numbered (n + 1) xs)

pub behind-at : (n : ℕ) (xs : List Inst) (k : ℕ) (x : Inst) → slice_get xs k ≡ Some x → list_all (λ (z : ℕ × Inst). is_behind z.0 z.1.parent) (numbered n xs) ≡ true → is_behind (n + k) x.parent ≡ true
behind-at n [] k x e h = absurd cc
behind-at n (y ∷ ys) zero x e h =
    let here : y ≡ x = cc in
    let same : n + zero ≡ n = omega arith in
    ap (λ m. is_behind m x.parent) same ∙ ap (λ (z : Inst). is_behind n z.parent) (sym here) ∙ one (is_behind n y.parent) (list_all (λ (z : ℕ × Inst). is_behind z.0 z.1.parent) (numbered (n + 1) ys)) h
behind-at n (y ∷ ys) (suc k) x e h =
    let same : n + suc k ≡ n + 1 + k = omega arith in
    ap (λ m. is_behind m x.parent) same ∙ behind-at (n + 1) ys k x e (other (is_behind n y.parent) (list_all (λ (z : ℕ × Inst). is_behind z.0 z.1.parent) (numbered (n + 1) ys)) h)

-- ---- instances

module _ (texts : List (List ℕ)) (s : Structure) (t : Tables) (e : Elaborates texts s t) (i : Intent) (domains : List ℕ) (are : map (λ d. Some d) domains ≡ map (domain_of i) (module_instances s)) where
  pub count : length (module_instances s) ≡ length t.instances
  count =
      sym (length-map (module_instances s) (module_at s))
      ∙ ap length (sym e.modules)
      ∙ length-map t.instances (λ (x : Inst). slice_get s.modules x.module)

  many : length domains ≡ length t.instances
  many = sym (length-map domains (λ d. Some d)) ∙ ap length are ∙ length-map (module_instances s) (domain_of i) ∙ count

  pub path-here : (k : ℕ) (x : Inst) → slice_get t.instances k ≡ Some x → path_at (keys_of s) k ≡ path_in texts (module_instances s) x.name.0 x.parent
  path-here k x h =
      let front : k ≡ 0 + k = omega arith in
      ap (λ ps. get_or ps k []) (sym e.instances)
      ∙ ap (λ n. get_or (paths_from texts [] t.instances) n []) front
      ∙ paths-at texts [] t.instances e.represents.closed.instances k x h
      ∙ ap (λ ps. path_in texts ps x.name.0 x.parent) e.instances

  pub domain-here : (k : ℕ) → k < length t.instances → Some (get_or domains k 0) ≡ domain_of i (path_at (keys_of s) k)
  domain-here k low = same-at (λ d. Some d) (domain_of i) domains (module_instances s) k 0 [] are (omega (arith, low, many))

  abbrev differs : Option ℕ → Option ℕ → Bool
  differs a b = not (same_domain a b)

  pub boundary-here : (k : ℕ) (x : Inst) → slice_get t.instances k ≡ Some x → is_other domains (get_or domains k 0) x.parent ≡ is_boundary i (path_at (keys_of s) k)
  boundary-here k x h = by x.parent refl
    where
      low : k < length t.instances
      low = slice_get_within t.instances k x h

      by : (parent : Option InstId) → x.parent ≡ parent → is_other domains (get_or domains k 0) parent ≡ is_boundary i (path_at (keys_of s) k)
      by None p = ap (is_boundary i) (sym (path-here k x h ∙ ap (path_in texts (module_instances s) x.name.0) p))
      by (Some q) p =
          let here : path_at (keys_of s) k ≡ text_at texts x.name.0 ∷ path_at (keys_of s) q.0 = path-here k x h ∙ ap (path_in texts (module_instances s) x.name.0) p in
          let front : k ≡ 0 + k = omega arith in
          let behind : is_behind k (Some q) ≡ true = ap (is_behind k) (sym p) ∙ ap (λ n. is_behind n x.parent) front ∙ behind-at 0 t.instances k x h e.represents.closed.instances in
          let above : q.0 < length t.instances = omega (arith, low, ltb-true q.0 k behind) in
          (λ r. differs (domain-here k low r) (domain-here q.0 above r))
          ∙ ap (λ (p : Path). differs (domain_of i p) (domain_of i (path_at (keys_of s) q.0))) here
          ∙ ap (is_boundary i) (sym here)

  entry : (k : ℕ) → k < length t.instances → get_or (meetings domains t.instances) k true ≡ get_or (map (is_boundary i) (module_instances s)) k true
  entry k low =
      let x : Inst = get_or t.instances k nowhere in
      let there : slice_get t.instances k ≡ Some x = slice_get-get_or t.instances k nowhere low in
      let front : 0 + k ≡ k = omega arith in
      numbered-at (is_meeting domains) 0 t.instances k x true there
      ∙ ap (λ n. is_meeting domains (n, get_or t.instances k nowhere)) front
      ∙ boundary-here k x there
      ∙ sym (get_or-map (is_boundary i) (module_instances s) k [])

  pub meetings-key : meetings domains t.instances ≡ map (is_boundary i) (module_instances s)
  meetings-key =
      let left : length (meetings domains t.instances) ≡ length t.instances = length-map (numbered 0 t.instances) (is_meeting domains) ∙ length-numbered 0 t.instances in
      let right : length (map (is_boundary i) (module_instances s)) ≡ length t.instances = length-map (module_instances s) (is_boundary i) ∙ count in
      same-entries (meetings domains t.instances) (map (is_boundary i) (module_instances s)) true (left ∙ sym right) (λ k low. entry k (omega (arith, low, left)))
