-- Numbers as the tables of an elaborated netlist hold them: up to what 32 bits hold (own rule).
use Rattle.std.specs.Prelude.{ℕ, min, option_map}
use Rattle.lp_model.specs.declared.graph.EdgeFrom.{EdgeFrom}
use Rattle.lp_model.specs.declared.graph.EdgeFrom.TheVariants.{Node as FromNode, Const as FromConst}
use Rattle.lp_model.specs.declared.graph.Inst.{Inst}
use Rattle.lp_model.specs.declared.graph.Leaf.{Leaf}
use Rattle.lp_model.specs.declared.graph.PinNet.{PinNet}
use Rattle.lp_model.specs.declared.graph.PinNet.TheVariants.{Unconnected, Const as PinConst, Node as PinNode}
use Rattle.lp_model.specs.declared.ids.InstId.{InstId}
use Rattle.lp_spec_layout.specs.Feeds.{Driver, ByEdge, ByPin, ByOutside, Feed}

abbrev pub word : ℕ → ℕ
word n = min 4294967295 n

-- the number of a pin
abbrev pub byte : ℕ → ℕ
byte n = min 255 n

abbrev pub held_from : EdgeFrom → EdgeFrom
held_from (FromNode k) = FromNode (record { 0 = word k.0 })
held_from (FromConst b) = FromConst b

abbrev pub held_driver : Driver → Driver
held_driver (ByEdge from kind) = ByEdge (held_from from) kind
held_driver (ByPin pin leaf) = ByPin (byte pin) (word leaf)
held_driver ByOutside = ByOutside

abbrev pub held_feed : Feed → Feed
held_feed x = (word x.0, held_driver x.1)

abbrev pub held_pin : PinNet → PinNet
held_pin Unconnected = Unconnected
held_pin (PinConst b) = PinConst b
held_pin (PinNode k) = PinNode (record { 0 = word k.0 })

abbrev pub held_leaf : Leaf → Leaf
held_leaf l = record { inst = record { 0 = word l.inst.0 }; name = l.name; cell = l.cell; start = word l.start }

abbrev pub held_parent : InstId → InstId
held_parent p = record { 0 = word p.0 }

abbrev pub held_inst : Inst → Inst
held_inst x = record { name = x.name; «module» = x.«module»; parent = option_map held_parent x.parent; start = word x.start }
