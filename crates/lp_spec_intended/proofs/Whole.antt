-- What a text of power intent gives, as the theorem of insertion asks it.
use Rattle.std.proofs.Common.{◌≡◌, ℕ, Bool, true, false, List, Option, Some, None, refl, sym, subst}
use Rattle.std.specs.Prelude.{if◌then◌else◌, Result, Ok, Err}
use Rattle.lp_model.specs.declared.fault.intent.IntentLimit.{IntentLimit}
use Rattle.lp_model.specs.declared.fault.intent.IntentLimit.TheVariants as limits
use Rattle.lp_model.specs.declared.intent.ScopedName.{ScopedName}
use Rattle.lp_model.specs.CommandsView.{CommandView}
use Rattle.lp_rows.specs.Network.{IsNetwork}
use Rattle.lp_spec_upf.specs.Commands as upf
use Rattle.lp_spec_design.specs.Keys.{Node, Inner, Outer, Fixed}
use Rattle.lp_spec_design.specs.Netlists.{Structure}
use Rattle.lp_spec_origins.specs.Commands.{Scoped}
use Rattle.lp_spec_faults.specs.Lines.{first_of}
use Rattle.lp_spec_faults.specs.Supplies.{intent_limits}
use Rattle.lp_spec_faultless.specs.Faults.{is_outer, HasControlsInside}
use Rattle.lp_spec_intent.specs.Made.{Made, network}
use Rattle.lp_spec_intent.specs.Faults.{NameFault}
use Rattle.lp_spec_intent.specs.Laws as intent
use Rattle.lp_spec_intent.specs.Intent.{made_by, resolved}
use Rattle.lp_spec_intent.proofs.Sound.{names-stand-inside}
use Rattle.lp_spec_resolved.specs.Supplies.{supplies_made, project_made, lists_made}
use Rattle.lp_spec_resolved.specs.Said.{IntentFault, OfLimit, named, within, intended, is_too_long, Intends}
use Rattle.lp_spec_resolved.specs.Laws.{IsDeclaredBit}
use Rattle.lp_spec_resolved.proofs.Origins.{slice-in}
use Rattle.lp_spec_resolved.proofs.Whole.{made-from, strategies-name, sets-have, controls-declared, origins-named, origins-visible, switches-kept}
use Rattle.lp_spec_written_at.specs.Sources.{IsNetBit, HasControls}
use Rattle.lp_spec_proper.specs.Insertable as proper
use Rattle.lp_spec_proper.specs.Insertable.{IsResolved}
use Rattle.lp_spec_proper.proofs.Switched.{switch-origin-is}
use Rattle.lp_spec_intended.specs.Laws.{IsGiven, IsShallow, IsDriven}
use Rattle.lp_spec_intended.proofs.Voltages.{all-low}
use Rattle.lp_spec_intended.proofs.Inputs.{all-inputs, input-origin}
use Rattle.lp_spec_intended.proofs.Network.{makes-network}

abbrev as_ok : Made → Result Made IntentFault
as_ok m = Ok m

ok-same : (m n : Made) → as_ok m ≡ Ok n → m ≡ n
ok-same m n e = cc

-- ---- limits

within-limits : (m n : Made) (o : Option IntentLimit) → first_of (intent_limits (network n)) ≡ o → as_ok m ≡ within n o → first_of (intent_limits (network m)) ≡ None
within-limits m n None f e = subst (λ x. first_of (intent_limits (network x)) ≡ None) (sym (ok-same m n e)) f
within-limits m n (Some l) f e = absurd cc

named-limits : (r : Result Made NameFault) (m : Made) → as_ok m ≡ named r → first_of (intent_limits (network m)) ≡ None
named-limits (Ok n) m e = within-limits m n (first_of (intent_limits (network n))) refl e
named-limits (Err f) m e = absurd cc

intended-limits : (s : Structure) (said : Result (List CommandView) upf.Fault) (m : Made) → as_ok m ≡ intended s said → first_of (intent_limits (network m)) ≡ None
intended-limits s (Ok cs) m e = named-limits (made_by s cs) m e
intended-limits s (Err f) m e = absurd cc

not-long : (b : Bool) (m : Made) (r : Result Made IntentFault) → as_ok m ≡ (if b then Err (OfLimit limits.Bytes) else r) → as_ok m ≡ r
not-long true m r e = absurd cc
not-long false m r e = e

pub networks-made : (s : Structure) (text : List ℕ) (m : Made) (name : Scoped → ScopedName) → Intends s text (Ok m) → IsDriven m → IsNetwork (supplies_made s name m)
networks-made s text m name x d =
    let from = made-from s text m x in
    let within = intended-limits s x.said m (not-long (is_too_long text) m (intended s x.said) x.is) in
    makes-network s name m (input-origin m (all-inputs s from.0 m from.2) d.driven d.single) (all-low s from.0 m from.2) within d.no_loop

-- ---- controls

net-bit : (s : Structure) (k : Node) → IsDeclaredBit s k → IsNetBit s k
net-bit s (Inner n i x) h = h
net-bit s (Outer n i) h = absurd h
net-bit s (Fixed b) h = absurd h

not-outer : (s : Structure) (k : Node) → IsDeclaredBit s k → is_outer k ≡ false
not-outer s (Inner n i x) h = refl
not-outer s (Outer n i) h = absurd h
not-outer s (Fixed b) h = absurd h

stands : (s : Structure) (k : Node) → intent.StandsInside s k → proper.StandsInside s k
stands s (Inner n i x) h = h
stands s (Outer n i) h = absurd h
stands s (Fixed b) h = absurd h

inside-not-outer : (s : Structure) (k : Node) → intent.StandsInside s k → is_outer k ≡ false
inside-not-outer s (Inner n i x) h = refl
inside-not-outer s (Outer n i) h = absurd h
inside-not-outer s (Fixed b) h = absurd h

module _ (s : Structure) (text : List ℕ) (m : Made) (name : Scoped → ScopedName) (margin : ℕ) (w : IsShallow s) (x : Intends s text (Ok m)) (d : IsDriven m) where
  resolved-so : IsResolved (project_made s name m margin)
  resolved-so =
      let from = made-from s text m x in
      let inside = names-stand-inside s from.0 m w.top from.2 in
      record {
        enables = λ t k i e. stands s k (inside.enables t k i e);
        saves = λ t k i e. stands s k.0 (inside.saves t k i e);
        restores = λ t k i e. stands s k.0 (inside.restores t k i e);
        isolated = λ t i. (strategies-name s text m x t i).isolates;
        sets = sets-have s text m name margin x d.driven d.single;
      }

  controls-so : HasControls (project_made s name m margin)
  controls-so = let c = controls-declared s text m x in record {
    enables = λ t k i e. net-bit s k (c.enables t k i e);
    saves = λ t k i e. net-bit s k.0 (c.saves t k i e);
    restores = λ t k i e. net-bit s k.0 (c.restores t k i e);
  }

  inside-so : HasControlsInside (project_made s name m margin)
  inside-so = record {
    strategies = λ t y k e f. not-outer s k ((controls-declared s text m x).enables y k (slice-in (resolved m).strategies t y e) f);
    switches = λ o input k high e. inside-not-outer s k (switches-kept s text m name margin w.top w.depth x o input k high e).inside;
  }

  pub given : IsGiven (project_made s name m margin) (lists_made m)
  given = record {
    resolved = resolved-so;
    controls = controls-so;
    inside = inside-so;
    origin_names = origins-named s text m name margin x;
    visible = origins-visible s text m name margin x;
    scopes = λ y i. (switches-kept s text m name margin w.top w.depth x y.origin y.input y.control y.high (switch-origin-is (project_made s name m margin) y i)).instance;
    network = networks-made s text m name x d;
  }
