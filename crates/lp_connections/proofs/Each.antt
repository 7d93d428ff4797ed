-- The first connection of an instance that passes a test which looks at no other connection.
use Rattle.std.proofs.Common.{◌≡◌, ℕ, ◌+◌, Bool, true, false, cond, List, [], ◌∷◌, ◌++◌, map, Option, Some, None, refl, ◌∙◌}
use Rattle.std.specs.Option.{option_map}
use Rattle.lp_text.specs.Texts.{text_at}
use Rattle.lp_model.specs.declared.bits.Bit.{Bit}
use Rattle.lp_model.specs.declared.netlist.Connection.{Connection}
use Rattle.lp_model.specs.NetlistView.{InstanceView, ModuleView, bits_view, connection_view}
use Rattle.lp_spec_design.specs.Keys.{Name}
use Rattle.lp_spec_design.specs.Netlists.{first}
use Rattle.lp_spec_faults.specs.Wires.{ConnectionAt, named_from, placed_from}
use Rattle.lp_targets.specs.Reports.{or_else}
use Rattle.lp_connections.specs.Numbered.{found_at}
use Rattle.lp_connections.proofs.Lists.{some_if_said}
use Rattle.lp_connections.proofs.SamePins.{named_at, placed_at}

-- each of a list is fit
abbrev pub AllFit : {M : Type 0} → (M → Type 0) → List M → Type 0
AllFit fits [] = Unit {0}
AllFit fits (m ∷ ms) = fits m × AllFit fits ms

module _ (texts : List (List ℕ)) (parent : ModuleView) (x : InstanceView) {R : Type 0} (p : ConnectionAt → Bool) (say : ConnectionAt → R) where
  pub named_each : (test : Connection → Bool) (told : Connection → R) (fits : Connection → Type 0) → ((k : ℕ) (before : List Name) (c : Connection) → fits c → p (named_at texts parent x k before c) ≡ test c) → ((k : ℕ) (before : List Name) (c : Connection) → say (named_at texts parent x k before c) ≡ told c) → (cs : List Connection) (k : ℕ) (before : List Name) → AllFit fits cs → option_map say (first p (named_from parent x k before (map (connection_view texts) cs))) ≡ option_map told (first test cs)
  named_each test told fits same says [] k before all = refl
  named_each test told fits same says (c ∷ cs) k before all =
      let rest = first p (named_from parent x (k + 1) (before ++ text_at texts c.port.0 ∷ []) (map (connection_view texts) cs)) in
      (λ i. option_map say (cond (same k before c all.0 i) (Some (named_at texts parent x k before c)) rest))
      ∙ some_if_said say told (test c) (named_at texts parent x k before c) c rest (first test cs) (says k before c) (named_each test told fits same says cs (k + 1) (before ++ text_at texts c.port.0 ∷ []) all.1)

  pub placed_each : {Y : Type 0} (found : ℕ → List Bit → Option Y) (told : Y → R) → ((j : ℕ) (v : List Bit) → option_map say (cond (p (placed_at texts parent x (j + 1) v)) (Some (placed_at texts parent x (j + 1) v)) None) ≡ option_map told (found j v)) → (vs : List (List Bit)) (j : ℕ) → option_map say (first p (placed_from parent x (j + 1) (map (bits_view texts) vs))) ≡ option_map told (found_at found j vs)
  placed_each found told same [] j = refl
  placed_each {Y = Y} found told same (v ∷ vs) j = by (p (placed_at texts parent x (j + 1) v)) (found j v) (same j v) (placed_each found told same vs (j + 1))
    where
      here : ConnectionAt
      here = placed_at texts parent x (j + 1) v

      rest : Option ConnectionAt
      rest = first p (placed_from parent x (j + 1 + 1) (map (bits_view texts) vs))

      by : (b : Bool) (o : Option Y) → option_map say (cond b (Some here) None) ≡ option_map told o → option_map say rest ≡ option_map told (found_at found (j + 1) vs) → option_map say (cond b (Some here) rest) ≡ option_map told (or_else o (found_at found (j + 1) vs))
      by true None e f = cc
      by true (Some y) e f = e
      by false None e f = f
      by false (Some y) e f = cc
