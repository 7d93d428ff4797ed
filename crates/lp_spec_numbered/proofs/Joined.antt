-- Lists of places joined place by place are lists of bits joined bit by bit.
use Rattle.std.proofs.Common.{◌≡◌, ℕ, true, List, [], ◌∷◌, ◌++◌, length, refl, ◌∙◌}
use Rattle.std.specs.Prelude.{nat_lt, slice_index_or}
use Rattle.std.specs.List.{list_all}
use Rattle.std.proofs.lemmas.Bool.{and_from, lt-ltb}
use Rattle.std.proofs.lemmas.List.{map-append}
use Rattle.std.proofs.lemmas.List.Folds.{list_all-append}
use Rattle.lp_model.specs.declared.graph.EdgeFrom.{EdgeFrom}
use Rattle.lp_model.specs.declared.graph.EdgeFrom.TheVariants.{Node as FromNode}
use Rattle.lp_model.specs.NetlistView.{BitView, ConstBit, ModuleView}
use Rattle.lp_spec_design.specs.Graph.{pairs}
use Rattle.lp_spec_bridge.specs.Templates.{bits_in, has_place}
use Rattle.lp_spec_layout.specs.Parts.{Joint, BitPair, joint_bits, has_joint, IsJoined}
use Rattle.lp_templates.specs.Pieces.{joints_of}
use Rattle.lp_spec_numbered.proofs.Places.{IsPlaced, IsDriven, driven-placed, within-list, entry-or}

-- places and bits, one by one
abbrev pub ArePlaced : ModuleView → List BitView → List EdgeFrom → Type 0
ArePlaced v [] [] = Unit {0}
ArePlaced v [] (f ∷ fs) = ⊥
ArePlaced v (b ∷ bs) [] = ⊥
ArePlaced v (b ∷ bs) (f ∷ fs) = IsPlaced v b f × ArePlaced v bs fs

abbrev pub AreDriven : ModuleView → List BitView → List EdgeFrom → Type 0
AreDriven v [] [] = Unit {0}
AreDriven v [] (f ∷ fs) = ⊥
AreDriven v (b ∷ bs) [] = ⊥
AreDriven v (b ∷ bs) (f ∷ fs) = IsDriven v b f × AreDriven v bs fs

pub driven-are-placed : (v : ModuleView) (bs : List BitView) (fs : List EdgeFrom) → AreDriven v bs fs → ArePlaced v bs fs
driven-are-placed v [] [] h = tt
driven-are-placed v [] (f ∷ fs) h = absurd h
driven-are-placed v (b ∷ bs) [] h = absurd h
driven-are-placed v (b ∷ bs) (f ∷ fs) h = (driven-placed v b f h.0, driven-are-placed v bs fs h.1)

module _ (to from : ModuleView) where
  pub none-joined : IsJoined to from [] []
  none-joined = record { same = refl; within = refl }

  -- one more in front
  one-joined : (b : BitPair) (j : Joint) (bits : List BitPair) (joints : List Joint) → joint_bits to from j ≡ b → has_joint to from j ≡ true → IsJoined to from bits joints → IsJoined to from (b ∷ bits) (j ∷ joints)
  one-joined b j bits joints e h r = record { same = λ i. e i ∷ r.same i; within = and_from (has_joint to from j) (list_all (has_joint to from) joints) h r.within }

  pub more-joined : (bits more : List BitPair) (joints others : List Joint) → IsJoined to from bits joints → IsJoined to from more others → IsJoined to from (bits ++ more) (joints ++ others)
  more-joined bits more joints others r q = record {
    same = map-append (joint_bits to from) joints others ∙ (λ i. r.same i ++ q.same i);
    within = list_all-append (has_joint to from) joints others ∙ and_from (list_all (has_joint to from) joints) (list_all (has_joint to from) others) r.within q.within;
  }

  pub lists-joined : (bs cs : List BitView) (fs gs : List EdgeFrom) → AreDriven to bs fs → ArePlaced from cs gs → IsJoined to from (pairs bs cs) (joints_of fs gs)
  lists-joined [] cs [] gs d p = none-joined
  lists-joined [] cs (f ∷ fs) gs d p = absurd d
  lists-joined (b ∷ bs) cs [] gs d p = absurd d
  lists-joined (b ∷ bs) [] (f ∷ fs) [] d p = none-joined
  lists-joined (b ∷ bs) [] (f ∷ fs) (g ∷ gs) d p = absurd p
  lists-joined (b ∷ bs) (c ∷ cs) (f ∷ fs) [] d p = absurd p
  lists-joined (b ∷ bs) (c ∷ cs) (f ∷ fs) (g ∷ gs) d p =
      let here : IsDriven to b f = d.0 in
      let there : IsPlaced from c g = p.0 in
      let bit : slice_index_or (bits_in to) here.place (ConstBit true) ≡ b = entry-or (bits_in to) here.place b (ConstBit true) here.at in
      let low : nat_lt here.place (length (bits_in to)) ≡ true = lt-ltb here.place (length (bits_in to)) (within-list (bits_in to) here.place b here.at) in
      let joined = one-joined (b, c) (here.place, g) (pairs bs cs) (joints_of fs gs) (λ i. (bit i, there.bit i)) (and_from (nat_lt here.place (length (bits_in to))) (has_place from g) low there.within) (lists-joined bs cs fs gs d.1 p.1) in
      by f here.place here.is joined
    where
      by : (x : EdgeFrom) (k : ℕ) → x ≡ FromNode (record { 0 = k }) → IsJoined to from ((b, c) ∷ pairs bs cs) ((k, g) ∷ joints_of fs gs) → IsJoined to from ((b, c) ∷ pairs bs cs) (joints_of (x ∷ fs) (g ∷ gs))
      by x k e r = rw e r
