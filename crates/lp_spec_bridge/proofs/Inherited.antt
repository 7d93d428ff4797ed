-- One pass over the instances gives what they inherit.
use Rattle.std.proofs.Common.{◌≡◌, ◌<◌, ◌+◌, ℕ, true, List, [], ◌∷◌, ◌++◌, map, length, get_or, Option, Some, None, refl, sym, ap, ◌∙◌}
use Rattle.std.specs.List.{list_all}
use Rattle.std.proofs.lemmas.Bool.{ltb-true}
use Rattle.std.proofs.lemmas.List.{append_assoc, append-nil, map-append, length_push, get_or-map}
use Rattle.lp_text.specs.Texts.{text_at}
use Rattle.lp_model.specs.declared.graph.Inst.{Inst}
use Rattle.lp_model.specs.declared.ids.InstId.{InstId}
use Rattle.lp_spec_design.specs.Keys.{Name, Path}
use Rattle.lp_spec_design.specs.Netlists.{Structure}
use Rattle.lp_spec_design.specs.Instances.{module_instances}
use Rattle.lp_spec_design.specs.Graph.{numbered}
use Rattle.lp_spec_design.specs.Intents.{Intent}
use Rattle.lp_spec_design.specs.Domains.{listed, or_else, domain_of}
use Rattle.lp_spec_design.specs.Reads.{one, other}
use Rattle.lp_spec_bridge.specs.Tables.{Tables, is_behind}
use Rattle.lp_spec_bridge.specs.Elaborates.{path_in, paths_from, Elaborates}
use Rattle.lp_spec_bridge.specs.Inherited.{value_in, inherited_from, inherited}

-- the paths of further instances
rest_of : List (List ℕ) → List Path → List Inst → List Path
rest_of texts done [] = []
rest_of texts done (x ∷ xs) = path_in texts done x.name.0 x.parent ∷ rest_of texts (done ++ (path_in texts done x.name.0 x.parent ∷ [])) xs

rest-behind : (texts : List (List ℕ)) (done : List Path) (xs : List Inst) → done ++ rest_of texts done xs ≡ paths_from texts done xs
unfolding rest_of
rest-behind texts done [] = append-nil done
rest-behind texts done (x ∷ xs) =
    let p = path_in texts done x.name.0 x.parent in
    sym (append_assoc done (path_in texts done x.name.0 x.parent ∷ []) (rest_of texts (done ++ (path_in texts done x.name.0 x.parent ∷ [])) xs))
    ∙ rest-behind texts (done ++ (path_in texts done x.name.0 x.parent ∷ [])) xs

module _ (texts : List (List ℕ)) (O A : Type 0) (start : O → A) (step : O → A → A) (own : Path → O) (value : Path → A) (top : value [] ≡ start (own [])) (lower : (n : Name) (p : Path) → value (n ∷ p) ≡ step (own (n ∷ p)) (value p)) where
  one-value : (done : List Path) (name : ℕ) (parent : Option InstId) → is_behind (length done) parent ≡ true → value_in start step (map value done) (own (path_in texts done name parent)) parent ≡ value (path_in texts done name parent)
  one-value done name None h = sym top
  one-value done name (Some q) h =
      let low : q.0 < length done = ltb-true q.0 (length done) h in
      let p : Path = text_at texts name ∷ get_or done q.0 [] in
      ap (step (own (text_at texts name ∷ get_or done q.0 []))) (get_or-map value done q.0 [] (start (own (text_at texts name ∷ get_or done q.0 []))) low)
      ∙ sym (lower (text_at texts name) (get_or done q.0 []))

  all-values : (done : List Path) (xs : List Inst) → list_all (λ (x : ℕ × Inst). is_behind x.0 x.1.parent) (numbered (length done) xs) ≡ true → inherited_from start step (map value done) (map own (rest_of texts done xs)) xs ≡ map value (paths_from texts done xs)
  unfolding rest_of
  all-values done [] h = refl
  all-values done (x ∷ xs) h =
      let p : Path = path_in texts done x.name.0 x.parent in
      let rest = list_all (λ (z : ℕ × Inst). is_behind z.0 z.1.parent) (numbered (length done + 1) xs) in
      let here = one-value done x.name.0 x.parent (one (is_behind (length done) x.parent) (list_all (λ (z : ℕ × Inst). is_behind z.0 z.1.parent) (numbered (length done + 1) xs)) h) in
      let more : list_all (λ (z : ℕ × Inst). is_behind z.0 z.1.parent) (numbered (length (done ++ (path_in texts done x.name.0 x.parent ∷ []))) xs) ≡ true =
      ap (λ n. list_all (λ (z : ℕ × Inst). is_behind z.0 z.1.parent) (numbered n xs)) (length_push done (path_in texts done x.name.0 x.parent))
      ∙ other (is_behind (length done) x.parent) (list_all (λ (z : ℕ × Inst). is_behind z.0 z.1.parent) (numbered (length done + 1) xs)) h in
      ap (λ v. inherited_from start step (map value done ++ (v ∷ [])) (map own (rest_of texts (done ++ (path_in texts done x.name.0 x.parent ∷ [])) xs)) xs) here
      ∙ ap (λ vs. inherited_from start step vs (map own (rest_of texts (done ++ (path_in texts done x.name.0 x.parent ∷ [])) xs)) xs) (sym (map-append value done (path_in texts done x.name.0 x.parent ∷ [])))
      ∙ all-values (done ++ (path_in texts done x.name.0 x.parent ∷ [])) xs more

pub pass_inherits : (texts : List (List ℕ)) (s : Structure) (t : Tables) → Elaborates texts s t → (O A : Type 0) (start : O → A) (step : O → A → A) (own : Path → O) (value : Path → A)
    → value [] ≡ start (own []) → ((n : Name) (p : Path) → value (n ∷ p) ≡ step (own (n ∷ p)) (value p))
    → inherited start step (map own (module_instances s)) t.instances ≡ map value (module_instances s)
pass_inherits texts s t e O A start step own value top lower =
    let paths : rest_of texts [] t.instances ≡ module_instances s = rest-behind texts [] t.instances ∙ e.instances in
    ap (λ ps. inherited_from start step [] (map own ps) t.instances) (sym paths)
    ∙ all-values texts O A start step own value top lower [] t.instances e.represents.closed.instances
    ∙ ap (map value) e.instances

pub domains_inherit : (texts : List (List ℕ)) (s : Structure) (t : Tables) → Elaborates texts s t → (i : Intent) → inherited (λ (d : Option ℕ). d) or_else (map (listed i) (module_instances s)) t.instances ≡ map (domain_of i) (module_instances s)
domains_inherit texts s t e i = pass_inherits texts s t e (Option ℕ) (Option ℕ) (λ d. d) or_else (listed i) (domain_of i) refl (λ n p. refl)
