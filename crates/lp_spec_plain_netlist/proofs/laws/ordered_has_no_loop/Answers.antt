use Rattle.std.proofs.Common.{◌≡◌, true, List, [], ◌∷◌, inl, inr, subst}
use Rattle.std.proofs.lemmas.Bool.{false≢true, cases_Bool}
use Rattle.lp_spec_settling.specs.Settling.{has, IsWay}
use Rattle.lp_spec_settling.proofs.Laws.{order-no_loop}
use Rattle.lp_spec_design.specs.Settled.{Key}
use Rattle.lp_spec_design.specs.Reads.{keys, reads}
use Rattle.lp_spec_plain_module.specs.Designs.{design_of}
use Rattle.lp_spec_plain_netlist.proofs.laws.ordered_has_no_loop.Goals as goal

-- a key that reads nothing has no way
no_way : (r : Key → List Key) (k : Key) (way : List Key) (j : Key) → r k ≡ [] → IsWay keys r k way j → ⊥
no_way r k [] j e h = false≢true (subst (λ ks. has keys j ks ≡ true) e h)
no_way r k (i ∷ way) j e h = false≢true (subst (λ ks. has keys i ks ≡ true) e h.0)

pub returns : goal.returns
returns c f ordered loop =
    elim (cases_Bool (has keys loop.0 ordered.order)) [
      | inl e ↦ order-no_loop keys (reads (design_of f)) ordered.order ordered.is_order loop.0 e loop.1
      | inr e ↦ no_way (reads (design_of f)) loop.0 loop.1.0 loop.0 (ordered.covers loop.0 e) loop.1.1
    ]
