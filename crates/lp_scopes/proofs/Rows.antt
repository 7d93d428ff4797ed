-- The path of a row of the table of instances, by that of the one in which it stands.
use Rattle.std.proofs.Common.{◌≡◌, ◌<◌, ℕ, zero, suc, ◌+◌, true, List, [], ◌∷◌, ◌++◌, length, get_or, Option, Some, None, refl, sym, ap, ◌∙◌, arith}
use Rattle.std.specs.Prelude.{slice_get}
use Rattle.std.specs.List.{list_all}
use Rattle.std.proofs.lemmas.Bool.{ltb-true}
use Rattle.std.proofs.lemmas.List.{length_push, get_or_append_left}
use Rattle.std.proofs.Math.Seq.{get_or-append_seam}
use Rattle.lp_text.specs.Texts.{text_at}
use Rattle.lp_model.specs.declared.graph.Inst.{Inst}
use Rattle.lp_model.specs.declared.ids.InstId.{InstId}
use Rattle.lp_spec_design.specs.Keys.{Path}
use Rattle.lp_spec_design.specs.Netlists.{Structure}
use Rattle.lp_spec_design.specs.Instances.{module_instances}
use Rattle.lp_spec_design.specs.Graph.{numbered}
use Rattle.lp_spec_design.specs.Reads.{one, other}
use Rattle.lp_spec_bridge.specs.Tables.{Tables, is_behind}
use Rattle.lp_spec_bridge.specs.Elaborates.{path_in, paths_from, Elaborates}

-- the paths so far stay where they are
kept : (texts : List (List ℕ)) (done : List Path) (xs : List Inst) (j : ℕ) → j < length done → get_or (paths_from texts done xs) j [] ≡ get_or done j []
kept texts done [] j h = refl
kept texts done (x ∷ xs) j h =
    let p : Path = path_in texts done x.name.0 x.parent in
    let longer : j < length (done ++ (path_in texts done x.name.0 x.parent ∷ [])) = omega (arith, length_push done (path_in texts done x.name.0 x.parent)) in
    kept texts (done ++ (path_in texts done x.name.0 x.parent ∷ [])) xs j longer ∙ get_or_append_left done (path_in texts done x.name.0 x.parent ∷ []) [] j h

count : (texts : List (List ℕ)) (done : List Path) (xs : List Inst) → length (paths_from texts done xs) ≡ length done + length xs
count texts done [] = omega arith
count texts done (x ∷ xs) =
    omega (arith, count texts (done ++ (path_in texts done x.name.0 x.parent ∷ [])) xs, length_push done (path_in texts done x.name.0 x.parent))

-- an instance has the same path by all paths as by those before it
by-all : (texts : List (List ℕ)) (done all : List Path) (name : ℕ) (parent : Option InstId) → is_behind (length done) parent ≡ true → ((j : ℕ) → j < length done → get_or all j [] ≡ get_or done j []) → path_in texts done name parent ≡ path_in texts all name parent
by-all texts done all name None h same = refl
by-all texts done all name (Some q) h same = ap (λ p. text_at texts name ∷ p) (sym (same q.0 (ltb-true q.0 (length done) h)))

row-from : (texts : List (List ℕ)) (done : List Path) (xs : List Inst) (i : ℕ) (x : Inst) → list_all (λ (z : ℕ × Inst). is_behind z.0 z.1.parent) (numbered (length done) xs) ≡ true → slice_get xs i ≡ Some x
    → get_or (paths_from texts done xs) (length done + i) [] ≡ path_in texts (paths_from texts done xs) x.name.0 x.parent
row-from texts done [] i x h e = absurd cc
row-from texts done (y ∷ xs) zero x h e =
    let is : y ≡ x = cc in
    let p : Path = path_in texts done y.name.0 y.parent in
    let more = done ++ (path_in texts done y.name.0 y.parent ∷ []) in
    let at : length done + 0 ≡ length done = omega arith in
    let low : length done < length (done ++ (path_in texts done y.name.0 y.parent ∷ [])) = omega (arith, length_push done (path_in texts done y.name.0 y.parent)) in
    ap (λ n. get_or (paths_from texts (done ++ (path_in texts done y.name.0 y.parent ∷ [])) xs) n []) at
    ∙ kept texts (done ++ (path_in texts done y.name.0 y.parent ∷ [])) xs (length done) low
    ∙ get_or-append_seam done (path_in texts done y.name.0 y.parent) [] []
    ∙ by-all texts done (paths_from texts done (y ∷ xs)) y.name.0 y.parent (one (is_behind (length done) y.parent) (list_all (λ (z : ℕ × Inst). is_behind z.0 z.1.parent) (numbered (length done + 1) xs)) h) (λ j g. kept texts done (y ∷ xs) j g)
    ∙ ap (λ (z : Inst). path_in texts (paths_from texts done (y ∷ xs)) z.name.0 z.parent) is
row-from texts done (y ∷ xs) (suc i) x h e =
    let longer : length (done ++ (path_in texts done y.name.0 y.parent ∷ [])) ≡ length done + 1 = length_push done (path_in texts done y.name.0 y.parent) in
    let rest = other (is_behind (length done) y.parent) (list_all (λ (z : ℕ × Inst). is_behind z.0 z.1.parent) (numbered (length done + 1) xs)) h in
    let at : length done + suc i ≡ length (done ++ (path_in texts done y.name.0 y.parent ∷ [])) + i = omega (arith, longer) in
    ap (λ n. get_or (paths_from texts done (y ∷ xs)) n []) at
    ∙ row-from texts (done ++ (path_in texts done y.name.0 y.parent ∷ [])) xs i x (ap (λ n. list_all (λ (z : ℕ × Inst). is_behind z.0 z.1.parent) (numbered n xs)) longer ∙ rest) e

module _ (texts : List (List ℕ)) (s : Structure) (t : Tables) (e : Elaborates texts s t) where
  pub row-path : (i : ℕ) (x : Inst) → slice_get t.instances i ≡ Some x → get_or (module_instances s) i [] ≡ path_in texts (module_instances s) x.name.0 x.parent
  row-path i x h =
      let at : 0 + i ≡ i = omega arith in
      ap (λ ps. get_or ps i []) (sym e.instances)
      ∙ ap (λ n. get_or (paths_from texts [] t.instances) n []) (sym at)
      ∙ row-from texts [] t.instances i x e.represents.closed.instances h
      ∙ ap (λ ps. path_in texts ps x.name.0 x.parent) e.instances

  pub row-count : length t.instances ≡ length (module_instances s)
  row-count = let c = count texts [] t.instances in let same = ap (λ (ps : List Path). length ps) e.instances in omega (arith, c, same)

  -- the one in which it stands comes before it
  parent-from : (k i : ℕ) (xs : List Inst) (x : Inst) (q : InstId) → list_all (λ (z : ℕ × Inst). is_behind z.0 z.1.parent) (numbered k xs) ≡ true → slice_get xs i ≡ Some x → x.parent ≡ Some q → q.0 < k + i
  parent-from k i [] x q h g f = absurd cc
  parent-from k zero (y ∷ xs) x q h g f =
      let is : y ≡ x = cc in
      let behind : is_behind k y.parent ≡ true = one (is_behind k y.parent) (list_all (λ (z : ℕ × Inst). is_behind z.0 z.1.parent) (numbered (k + 1) xs)) h in
      let low : q.0 < k = ltb-true q.0 k (ap (is_behind k) (sym (ap (λ (z : Inst). z.parent) is ∙ f)) ∙ behind) in
      omega (arith, low)
  parent-from k (suc i) (y ∷ xs) x q h g f =
      let low = parent-from (k + 1) i xs x q (other (is_behind k y.parent) (list_all (λ (z : ℕ × Inst). is_behind z.0 z.1.parent) (numbered (k + 1) xs)) h) g f in
      omega (arith, low)

  pub parent-low : (i : ℕ) (x : Inst) (q : InstId) → slice_get t.instances i ≡ Some x → x.parent ≡ Some q → q.0 < i
  parent-low i x q h f = let low = parent-from 0 i t.instances x q e.represents.closed.instances h f in omega (arith, low)
