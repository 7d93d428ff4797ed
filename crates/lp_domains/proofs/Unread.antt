-- A way that no edge has is on the way back of no reader.
use Rattle.std.proofs.Common.{◌≡◌, ◌<◌, ℕ, Bool, true, false, List, [], ◌∷◌, map, length, refl, sym, ap, ◌∙◌, arith}
use Rattle.std.specs.Prelude.{filter, nat_lt, if◌then◌else◌}
use Rattle.std.specs.List.{list_all, list_any}
use Rattle.std.proofs.lemmas.Bool.{true≢false, ltb-true}
use Rattle.lp_model.specs.declared.graph.EdgeFrom.{EdgeFrom}
use Rattle.lp_spec_design.specs.Keys.{Node, Way, AssignBit, same_way}
use Rattle.lp_spec_design.specs.Netlists.{Structure}
use Rattle.lp_spec_design.specs.Graph.{Reader, readers_of, passes}
use Rattle.lp_spec_design.specs.Reads.{one, other}
use Rattle.lp_spec_design.proofs.Members.{any-in}
use Rattle.lp_spec_bridge.specs.Tables.{Tables, has_node}
use Rattle.lp_spec_bridge.specs.Keyed.{keys_of, way_at}
use Rattle.lp_spec_bridge.specs.Names.{HasNamesApart}
use Rattle.lp_spec_bridge.specs.Elaborates.{Elaborates}
use Rattle.lp_spec_bridge.specs.Represents.{from_key}
use Rattle.lp_spec_bridge.specs.Readers.{ReaderRow, reader_with_node, readers_by}
use Rattle.lp_spec_bridge.specs.Walks.{trail_by, step_key}
use Rattle.lp_spec_bridge.proofs.Apart.{in-at, any-image, way-true, way-self}
use Rattle.lp_spec_bridge.proofs.Behind.{readers-in}
use Rattle.lp_spec_bridge.proofs.Passed.{has_step, steps-in}
use Rattle.lp_spec_bridge.proofs.Tops.{all_read}
use Rattle.lp_spec_bridge.proofs.Trails.{trail_key}
use Rattle.lp_domains.specs.Domains.{has_edge}

never : {A : Type 0} (xs : List A) → list_any (λ (x : A). false) xs ≡ false
never [] = refl
never (x ∷ xs) = never xs

module _ (texts : List (List ℕ)) (s : Structure) (t : Tables) (apart : HasNamesApart s) (e : Elaborates texts s t) (fuel : ℕ) (w : Way) (none : has_edge s w ≡ false) where
  other-way : (m : ℕ) → m < length t.edges → same_way (way_at (keys_of s) m) w ≡ false
  other-way m low = by (same_way (way_at (keys_of s) m) w) refl
    where
      by : (b : Bool) → same_way (way_at (keys_of s) m) w ≡ b → b ≡ false
      by false f = refl
      by true f =
          let same = way-true (way_at (keys_of s) m) w f in
          let there = in-at (keys_of s).ways m (AssignBit [] 0 0) (omega (arith, low, e.represents.ways)) in
          let has = any-in (same_way w) (way_at (keys_of s) m) (keys_of s).ways there (ap (same_way w) same ∙ way-self w) in
          absurd (true≢false (sym has ∙ none))

  not-passed : (k : EdgeFrom) → has_node t k ≡ true → passes s fuel w (from_key (keys_of s) k) ≡ false
  not-passed k h =
      ap (list_any (λ step. same_way step.0 w)) (sym (trail_key s (keys_of s) t e.represents fuel k h))
      ∙ any-image (λ step. same_way step.0 w) (λ step. false) (has_step t) (step_key (keys_of s)) agree (trail_by t fuel k) (steps-in s (keys_of s) t e.represents fuel k h)
      ∙ never (trail_by t fuel k)
    where
      agree : (x : ℕ × EdgeFrom) → has_step t x ≡ true → same_way (way_at (keys_of s) x.0) w ≡ false
      agree x ok = other-way x.0 (ltb-true x.0 (length t.edges) (one (nat_lt x.0 (length t.edges)) (has_node t x.1) ok))

  none-read : (xs : List (ReaderRow × EdgeFrom)) → list_all (λ (x : ReaderRow × EdgeFrom). has_node t x.1) xs ≡ true → filter (λ (r : Reader × Node). passes s fuel w r.1) (map (reader_with_node s (keys_of s) t) xs) ≡ []
  none-read [] h = refl
  none-read (x ∷ xs) h =
      let rest = none-read xs (other (has_node t x.1) (list_all (λ (y : ReaderRow × EdgeFrom). has_node t y.1) xs) h) in
      let here = not-passed x.1 (one (has_node t x.1) (list_all (λ (y : ReaderRow × EdgeFrom). has_node t y.1) xs) h) in
      ap (λ (b : Bool). if b then reader_with_node s (keys_of s) t x ∷ filter (λ (r : Reader × Node). passes s fuel w r.1) (map (reader_with_node s (keys_of s) t) xs) else filter (λ (r : Reader × Node). passes s fuel w r.1) (map (reader_with_node s (keys_of s) t) xs)) here
      ∙ rest

  pub unread : readers_of s fuel w ≡ []
  unread =
      ap (λ (xs : List (Reader × Node)). map (λ (r : Reader × Node). r.0) (filter (λ (r : Reader × Node). passes s fuel w r.1) xs)) (sym (all_read texts s t apart e))
      ∙ ap (map (λ (r : Reader × Node). r.0)) (none-read (readers_by s t) (readers-in texts s t apart e))
