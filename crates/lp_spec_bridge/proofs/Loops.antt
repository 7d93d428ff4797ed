-- Wire loops by number are those by paths.
use Rattle.std.proofs.Common.{◌≡◌, ◌<◌, ◌+◌, ℕ, suc, Bool, false, ◌||◌, List, [], ◌∷◌, ◌++◌, length, get_or, refl, sym, ap, ◌∙◌, arith}
use Rattle.std.specs.List.{list_any}
use Rattle.std.proofs.lemmas.Bool.{lt-ltb}
use Rattle.std.proofs.lemmas.List.{get_or_append_left, length-append}
use Rattle.lp_model.specs.declared.graph.EdgeFrom.TheVariants.{Node as FromNode}
use Rattle.lp_spec_design.specs.Keys.{Fixed, same_node}
use Rattle.lp_spec_design.specs.Netlists.{Structure, module_at, upward}
use Rattle.lp_spec_design.specs.Graph.{trail}
use Rattle.lp_spec_design.specs.Nodes.{inner_nodes, outer_in, fuel_of, is_on_its_way, has_wire_loop}
use Rattle.lp_spec_bridge.specs.Tables.{Tables}
use Rattle.lp_spec_bridge.specs.Keyed.{keys_of, node_at}
use Rattle.lp_spec_bridge.specs.Elaborates.{Elaborates}
use Rattle.lp_spec_bridge.specs.Walks.{is_looped_by, has_wire_loop_by}
use Rattle.lp_spec_bridge.proofs.Passed.{loop_key}

-- a test of members as a test of their places
any-places : {A : Type 0} (p : A → Bool) (q : ℕ → Bool) (xs : List A) (d : A) (start : ℕ) → ((i : ℕ) → i < length xs → p (get_or xs i d) ≡ q (start + i)) → list_any p xs ≡ list_any q (upward (length xs) start)
any-places p q [] d start h = refl
any-places p q (x ∷ xs) d start h =
    let place : start + 0 ≡ start = omega arith in
    let here : p x ≡ q start = h 0 (omega arith) ∙ ap q place in
    let more : (i : ℕ) → i < length xs → p (get_or xs i d) ≡ q ((start + 1) + i) = λ i low. let same : start + suc i ≡ (start + 1) + i = omega arith in h (suc i) (omega arith) ∙ ap q same in
    ap (λ b. b || list_any p xs) here ∙ ap (λ b. q start || b) (any-places p q xs d (start + 1) more)

module _ (texts : List (List ℕ)) (s : Structure) (t : Tables) (e : Elaborates texts s t) where
  pub fuel-key : fuel_of s ≡ length t.nodes
  unfolding fuel_of
  fuel-key = sym e.represents.count

  pub looped_key : (k : ℕ) → k < length t.nodes → is_on_its_way s (node_at (keys_of s) k) ≡ is_looped_by t k
  looped_key k low =
      ap (λ fuel. list_any (λ step. same_node step.1 (node_at (keys_of s) k)) (trail s fuel (node_at (keys_of s) k))) fuel-key
      ∙ loop_key s (keys_of s) t e.represents e.apart (length t.nodes) k (FromNode (record { 0 = k })) low (lt-ltb k (length t.nodes) low)

  pub wire_loop_key : has_wire_loop s ≡ has_wire_loop_by t
  wire_loop_key =
      any-places (is_on_its_way s) (is_looped_by t) (inner_nodes s) (Fixed false) 0 each
      ∙ ap (λ n. list_any (is_looped_by t) (upward n 0)) (sym e.inner)
    where
      each : (i : ℕ) → i < length (inner_nodes s) → is_on_its_way s (get_or (inner_nodes s) i (Fixed false)) ≡ is_looped_by t (0 + i)
      each i low =
          let size = length-append (inner_nodes s) (outer_in (module_at s [])) in
          let all : length t.nodes ≡ length (inner_nodes s ++ outer_in (module_at s [])) = e.represents.count in
          let zero_more : i ≡ 0 + i = omega arith in
          ap (is_on_its_way s) (sym (get_or_append_left (inner_nodes s) (outer_in (module_at s [])) (Fixed false) i low))
          ∙ looped_key i (omega arith)
          ∙ ap (is_looped_by t) zero_more
