-- The views computed on a top with one block, in which a gate stands.
use Rattle.std.specs.Prelude.{◌≡◌, [], ◌∷◌, map, Some, None, codes}
use Rattle.std.proofs.Common.{refl}
use Rattle.lp_model.specs.declared.intent.Domain as model
use Rattle.lp_model.specs.declared.intent.Element.TheVariants.{Inst, Leaf, Port, Bit}
use Rattle.lp_model.specs.declared.intent.PortAttribute.{PortAttribute}
use Rattle.lp_spec_design.specs.Nodes.{computing}
use Rattle.lp_spec_design.specs.Graph.{some_of}
use Rattle.lp_spec_design.specs.Intents.{Domain, AtInstance, AtCell, AtPort, AtBit}
use Rattle.lp_spec_design.proofs.Samples.{plain}
use Rattle.lp_spec_bridge.specs.Keyed.{keys_of}
use Rattle.lp_spec_views.specs.Views.{domain_view, element_view, supply_view}

abbrev block : model.Domain
block = record {
  name = record { scope = record { 0 = 0 }; name = record { 0 = 6 } };
  elements = record { 0 = 1 } ∷ [];
  primary = Some (record { 0 = 2 });
  isolation = None;
  retention = None;
}

abbrev block_by_paths : Domain
block_by_paths = record { elements = (codes "u" ∷ []) ∷ []; primary = Some 2; isolation = None; retention = None }

domain : domain_view plain (keys_of plain) block ≡ block_by_paths
unfolding computing
domain = refl

-- an instance, a cell instance, a port and a bit of one
elements : map (element_view plain (keys_of plain)) (Inst (record { 0 = 1 }) ∷ Leaf (record { 0 = 0 }) ∷ Port (record { 0 = 1 }) 1 ∷ Bit (record { 0 = 4 }) ∷ [])
    ≡ AtInstance (codes "u" ∷ [])
    ∷ AtCell (codes "u" ∷ []) (codes "g")
    ∷ AtPort (codes "u" ∷ []) (codes "o")
    ∷ AtBit (codes "u" ∷ []) (codes "i") None
    ∷ []
unfolding computing
elements = refl

abbrev en_driven : PortAttribute
en_driven = record { port = 1; driver = Some (record { 0 = 3 }); receiver = None }

driven : some_of (supply_view plain (λ (a : PortAttribute). a.driver)) (en_driven ∷ []) ≡ record { port = codes "en"; supply = 3 } ∷ []
unfolding computing
driven = refl

-- it gives no receiver
not_received : some_of (supply_view plain (λ (a : PortAttribute). a.receiver)) (en_driven ∷ []) ≡ []
unfolding computing
not_received = refl
