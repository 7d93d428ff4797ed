-- Premises that are found by computation: that each bit that is joined is declared, and that a list of keys is an order of all that read anything.
use Rattle.std.proofs.Common.{◌≡◌, ◌<◌, ◌≤◌, ℕ, Bool, true, ◌&&◌, List, [], ◌∷◌, length, Option, Some, None, inl, inr, refl, sym, ap, ◌∙◌, subst, arith}
use Rattle.std.specs.Prelude.{slice_get}
use Rattle.std.specs.List.{list_any, list_all}
use Rattle.std.proofs.lemmas.Bool.{and_parts, cases_lt, true≢false}
use Rattle.lp_model.specs.NetlistView.{BitView, NetBit, SelectBit, ConstBit, ModuleView}
use Rattle.lp_spec_settling.specs.Settling.{has, AllIn, IsOrder, Covers, HasOrder}
use Rattle.lp_spec_design.specs.Keys.{Path, Node, Inner, Source, same_node}
use Rattle.lp_spec_design.specs.Netlists.{Structure, module_at}
use Rattle.lp_spec_design.specs.Instances.{module_instances}
use Rattle.lp_spec_design.specs.Nodes.{nodes_in, nodes_of, joined_bits, IsDeclared, DeclaresBits}
use Rattle.lp_spec_design.specs.Graph.{source_of, numbered}
use Rattle.lp_spec_design.specs.Intents.{Origin}
use Rattle.lp_spec_design.specs.Settled.{Key, At, Of, Design}
use Rattle.lp_spec_design.specs.Reads.{keys, reads, source_keys, origin_keys, node-true}
use Rattle.lp_spec_design.specs.Winners.{IsIn}
use Rattle.lp_spec_design.proofs.Members.{of-any}
use Rattle.lp_spec_design.proofs.Sources.{in_reach, sources_known}
use Rattle.lp_spec_realises.specs.ProjectNetlists.{is_declared, declares_its_bits}
use Rattle.lp_spec_agreement.proofs.Apart.{all_in}
use Rattle.lp_spec_agreement.proofs.Chains.{in_numbered}

-- ---- bits that are joined

abbrev pub declares_all : Structure → Bool
declares_all s = list_all (λ q. declares_its_bits q (module_at s q)) (module_instances s)

same_in : (k : Node) (nodes : List Node) → list_any (same_node k) nodes ≡ true → IsIn k nodes
same_in k nodes e = let found = of-any (same_node k) nodes e in subst (λ j. IsIn j nodes) (sym (node-true k found.0 found.2)) found.1

as_declared : (q : Path) (m : ModuleView) (b : BitView) → is_declared q (nodes_in q (Some m)) b ≡ true → IsDeclared q m b
as_declared q m (ConstBit b) e = tt
as_declared q m (NetBit n) e = same_in (Inner n None q) (nodes_in q (Some m)) e
as_declared q m (SelectBit n i) e = same_in (Inner n (Some i) q) (nodes_in q (Some m)) e

module _ (s : Structure) (shallow : (q : Path) → 64 ≤ length q → module_at s q ≡ None) where
  short : (q : Path) (m : ModuleView) → module_at s q ≡ Some m → length q < 64
  short q m e = elim (cases_lt (length q) 64) [
    | inl less ↦ less
    | inr more ↦ let none : None ≡ Some m = sym (shallow q more) ∙ e in absurd cc
  ]

  is_instance : (q : Path) (m : ModuleView) → module_at s q ≡ Some m → IsIn q (module_instances s)
  unfolding module_instances
  is_instance q m e = in_reach s 64 q m e (short q m e)

  pub declares : declares_all s ≡ true → DeclaresBits s
  declares all = record {
    declared = λ q m b e h.
        let here : declares_its_bits q (module_at s q) ≡ true = all_in (λ (r : Path). declares_its_bits r (module_at s r)) q (module_instances s) all (is_instance q m e) in
        as_declared q m b (all_in (is_declared q (nodes_in q (Some m))) b (joined_bits m) (ap (declares_its_bits q) (sym e) ∙ here) h);
    shallow = shallow;
  }

-- ---- orders of keys

abbrev pub are_behind : List Key → List Key → Bool
are_behind [] rest = true
are_behind (k ∷ more) rest = has keys k rest && are_behind more rest

-- newest first: each key reads only keys that stand behind it
abbrev pub is_order : (Key → List Key) → List Key → Bool
is_order from [] = true
is_order from (k ∷ rest) = are_behind (from k) rest && is_order from rest

-- all nodes and all origins are in the list
abbrev pub holds_nodes : Design → List Key → Bool
holds_nodes d order = list_all (λ (k : Node). has keys (At k) order) (nodes_of d.structure)

abbrev pub holds_origins : Design → List Key → Bool
holds_origins d order = list_all (λ (o : ℕ × Origin). has keys (Of o.0) order) (numbered 0 d.network.origins)

all_behind : (ks rest : List Key) → are_behind ks rest ≡ true → AllIn keys ks rest
all_behind [] rest e = tt
all_behind (k ∷ more) rest e = let parts = and_parts (has keys k rest) (are_behind more rest) e in (parts.0, all_behind more rest parts.1)

ordered : (from : Key → List Key) (order : List Key) → is_order from order ≡ true → IsOrder keys from order
ordered from [] e = tt
ordered from (k ∷ rest) e = let parts = and_parts (are_behind (from k) rest) (is_order from rest) e in (all_behind (from k) rest parts.0, ordered from rest parts.1)

module _ (d : Design) (declared : DeclaresBits d.structure) (order : List Key) (nodes : holds_nodes d order ≡ true) (origins : holds_origins d order ≡ true) where
  covered : Covers keys (reads d) order
  covered (At k) none = by (source_of d.structure k) refl
    where
      by : (o : Option Source) → source_of d.structure k ≡ o → source_keys d k o ≡ []
      by None e = refl
      by (Some x) e = absurd (true≢false (sym (all_in (λ (j : Node). has keys (At j) order) k (nodes_of d.structure) nodes (sources_known d.structure declared k x e)) ∙ none))
  covered (Of o) none = by (slice_get d.network.origins o) refl
    where
      by : (r : Option Origin) → slice_get d.network.origins o ≡ r → origin_keys r ≡ []
      by None e = refl
      by (Some x) e = absurd (true≢false (sym (all_in (λ (q : ℕ × Origin). has keys (Of q.0) order) (o, x) (numbered 0 d.network.origins) origins (in_numbered 0 o x d.network.origins e o (omega arith))) ∙ none))

  pub has_order : is_order (reads d) order ≡ true → HasOrder keys (reads d)
  has_order e = record { order = order; is_order = ordered (reads d) order e; covers = covered }
