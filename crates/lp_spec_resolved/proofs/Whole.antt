-- What a text gives, and what holds of it.
use Rattle.std.proofs.Common.{◌≡◌, ◌≤◌, ℕ, Bool, true, false, List, [], length, Option, Some, None, refl, sym, ap, ◌∙◌, subst}
use Rattle.std.specs.Prelude.{if◌then◌else◌, is_some, slice_get, unwrap_or, Result, Ok, Err}
use Rattle.std.specs.List.{list_all}
use Rattle.lp_model.specs.declared.fault.intent.IntentLimit.{IntentLimit}
use Rattle.lp_model.specs.declared.fault.intent.IntentLimit.TheVariants as limits
use Rattle.lp_model.specs.declared.intent.ScopedName.{ScopedName}
use Rattle.lp_model.specs.CommandsView.{CommandView}
use Rattle.lp_spec_upf.specs.Commands as upf
use Rattle.lp_spec_upf.specs.Commands.{is_visible}
use Rattle.lp_spec_upf.proofs.Once.{once}
use Rattle.lp_spec_upf.proofs.Senses as senses
use Rattle.lp_spec_design.specs.Keys.{Name, Path, Node}
use Rattle.lp_spec_design.specs.Netlists.{Structure, module_at}
use Rattle.lp_spec_design.specs.Intents.{SetNumber, Strategy, FromPort, FromSwitch}
use Rattle.lp_spec_design.specs.Winners.{IsIn}
use Rattle.lp_spec_design.proofs.Members.{of-map, of-some}
use Rattle.lp_spec_origins.specs.Commands.{Scoped, PowerSwitch, MakesSwitch}
use Rattle.lp_spec_origins.specs.Used.{is_used_set}
use Rattle.lp_spec_realises.specs.Projects.{network_of, functions_of}
use Rattle.lp_spec_faults.specs.Lines.{first_of}
use Rattle.lp_spec_faults.specs.Supplies.{intent_limits, undriven, two_sources}
use Rattle.lp_spec_intent.specs.Made.{Fact, IsStrategy, IsSwitch, Made, network_fact, network, facts, StrategyFact, strategy_fact, strategies}
use Rattle.lp_spec_intent.specs.Faults.{NameFault}
use Rattle.lp_spec_intent.specs.Intent.{made_by, settled, resolved, asked}
use Rattle.lp_spec_intent.proofs.Places.{some-same}
use Rattle.lp_spec_resolved.specs.Complete.{IsComplete}
use Rattle.lp_spec_resolved.specs.Supplies.{project_made}
use Rattle.lp_spec_resolved.specs.Said.{IntentFault, OfLimit, within, named, intended, is_too_long, Intends}
use Rattle.lp_spec_resolved.specs.Laws.{IsOfSwitch, PortsHaveTheirNames, NamesItsControls, HasSets, HasDeclaredControls}
use Rattle.lp_spec_resolved.proofs.Read.{commands-complete}
use Rattle.lp_spec_resolved.proofs.Named.{ports-apart, named-once}
use Rattle.lp_spec_intent.proofs.Sound.{names-stand-inside}
use Rattle.lp_spec_resolved.proofs.Switches.{switch-kept}
use Rattle.lp_spec_resolved.proofs.Visible.{all-visible, names-visible}
use Rattle.lp_spec_resolved.proofs.Facts.{All}
use Rattle.lp_spec_resolved.proofs.Declared.{Declares, HasDeclared, all-declared}
use Rattle.lp_spec_resolved.proofs.Kept.{all-kept}
use Rattle.lp_spec_resolved.proofs.Origins.{used-small, sets-have-origins}
use Rattle.lp_spec_resolved.proofs.Controls.{HasNamed, facts-named}

abbrev as_ok : Made → Result Made IntentFault
as_ok m = Ok m

abbrev as_made : Made → Result Made NameFault
as_made m = Ok m

ok-same : (m n : Made) → as_ok m ≡ Ok n → m ≡ n
ok-same m n e = cc

within-same : (m n : Made) (o : Option IntentLimit) → as_ok m ≡ within n o → n ≡ m
within-same m n None e = sym (ok-same m n e)
within-same m n (Some l) e = absurd cc

named-made : (r : Result Made NameFault) (m : Made) → as_ok m ≡ named r → r ≡ as_made m
named-made (Ok n) m e = ap as_made (within-same m n (first_of (intent_limits (network n))) e)
named-made (Err f) m e = absurd cc

abbrev as_said : List CommandView → Result (List CommandView) upf.Fault
as_said cs = Ok cs

-- the commands that made it
intended-made : (s : Structure) (said : Result (List CommandView) upf.Fault) (m : Made) → as_ok m ≡ intended s said → (cs : List CommandView) × (said ≡ as_said cs) × (made_by s cs ≡ Ok m)
intended-made s (Ok cs) m e = (cs, refl, named-made (made_by s cs) m e)
intended-made s (Err f) m e = absurd cc

not-long : (b : Bool) (m : Made) (r : Result Made IntentFault) → as_ok m ≡ (if b then Err (OfLimit limits.Bytes) else r) → as_ok m ≡ r
not-long true m r e = absurd cc
not-long false m r e = e

pub made-from : (s : Structure) (text : List ℕ) (m : Made) → Intends s text (Ok m) → (cs : List CommandView) × ((c : CommandView) → IsIn c cs → IsComplete c) × (made_by s cs ≡ Ok m)
made-from s text m x =
    let found = intended-made s x.said m (not-long (is_too_long text) m (intended s x.said) x.is) in
    let d = x.denotes in
    let said : upf.intent_of d.sense d.outcome ≡ as_said found.0 = sym d.is ∙ found.1 in
    (found.0, commands-complete d.sense [] d.outcome.gathered.commands d.outcome.gathered.ends d.outcome.gathered.words d.outcome.stop found.0 said, found.2)

strategy-known : (f : Fact) (x : StrategyFact) → strategy_fact f ≡ Some x → f ≡ IsStrategy x.name x.strategy
strategy-known (IsStrategy name t) x e = ap (λ (y : StrategyFact). IsStrategy y.name y.strategy) (some-same _ x e)
strategy-known f x e = absurd cc

pub strategies-name : (s : Structure) (text : List ℕ) (m : Made) → Intends s text (Ok m) → (t : Strategy) → IsIn t (resolved m).strategies → NamesItsControls t
strategies-name s text m x t i =
    let from = made-from s text m x in
    let all = facts-named s from.0 m from.1 from.2 in
    let found = of-map (λ (y : StrategyFact). settled m y.strategy) t (strategies m) i in
    let fact = of-some strategy_fact found.0 (facts m) found.1 in
    let is = subst (λ y. HasNamed y) (strategy-known fact.0 found.0 fact.2) (all fact.0 fact.1) in
    subst (λ y. NamesItsControls y) (sym found.2) (record { isolates = is.0; saves = λ k j. (is.1 k j).0; restores = λ k j. (is.1 k j).1 })

pub text-is-intended : (s : Structure) (text : List ℕ) → (r : Result Made IntentFault) × Intends s text r
text-is-intended s text = let said = senses.each text in (_, record { said = said.0; denotes = said.1; is = refl })

pub intended-once : (s : Structure) (text : List ℕ) (a b : Result Made IntentFault) → Intends s text a → Intends s text b → a ≡ b
intended-once s text a b x y =
    x.is ∙ (ap (λ said. if is_too_long text then Err (OfLimit limits.Bytes) else intended s said) (once text x.said y.said x.denotes y.denotes) ∙ sym y.is)

pub sets-have : (s : Structure) (text : List ℕ) (m : Made) (name : Scoped → ScopedName) (margin : ℕ) → Intends s text (Ok m) → first_of (undriven (asked m)) ≡ None → first_of (two_sources (asked m)) ≡ None
    → (k : SetNumber) → is_used_set (resolved m) k ≡ true → is_some (functions_of (project_made s name m margin) (Some k)) ≡ true
sets-have s text m name margin x driven single k used =
    let from = made-from s text m x in
    sets-have-origins s name m margin (all-kept s from.0 m from.2) driven single k used

pub sets-numbered : (s : Structure) (text : List ℕ) (m : Made) → Intends s text (Ok m) → HasSets m
sets-numbered s text m x =
    let from = made-from s text m x in
    let kept = all-kept s from.0 m from.2 in
    record { numbered = kept.numbered; used = λ k e. used-small m kept k e }

same-switch : (v w : PowerSwitch) → MakesSwitch v ≡ MakesSwitch w → v ≡ w
same-switch v w e = cc

switch-known : (f : Fact) (w : PowerSwitch) → network_fact f ≡ Some (MakesSwitch w) → (port : Name) × (f ≡ IsSwitch w port)
switch-known (IsSwitch v port) w e = (port, ap (λ x. IsSwitch x port) (same-switch v w (some-same _ _ e)))
switch-known f w e = absurd cc

pub controls-declared : (s : Structure) (text : List ℕ) (m : Made) → Intends s text (Ok m) → HasDeclaredControls s m
controls-declared s text m x = record {
  enables = λ t k i e. let found = strategy-of t i in (sound found.0 found.1).enables k (ap (λ (y : Strategy). y.control) (sym found.2) ∙ e);
  saves = λ t k i e. let found = strategy-of t i in (sound found.0 found.1).saves k (ap (λ (y : Strategy). y.save) (sym found.2) ∙ e);
  restores = λ t k i e. let found = strategy-of t i in (sound found.0 found.1).restores k (ap (λ (y : Strategy). y.restore) (sym found.2) ∙ e);
  switches = λ w i.
      let fact = of-some network_fact (MakesSwitch w) (facts m) i in
      let is = switch-known fact.0 w fact.2 in
      subst (λ y. HasDeclared s y) is.1 (all fact.0 fact.1);
}
  where
    all : All (HasDeclared s) (facts m)
    all = let from = made-from s text m x in all-declared s from.0 m from.2

    strategy-of : (t : Strategy) → IsIn t (resolved m).strategies → (y : StrategyFact) × IsIn y (strategies m) × (t ≡ settled m y.strategy)
    strategy-of t i = of-map (λ (y : StrategyFact). settled m y.strategy) t (strategies m) i

    sound : (y : StrategyFact) → IsIn y (strategies m) → Declares s y.strategy
    sound y i = let found = of-some strategy_fact y (facts m) i in subst (λ f. HasDeclared s f) (strategy-known found.0 y found.2) (all found.0 found.1)

pub origins-named : (s : Structure) (text : List ℕ) (m : Made) (name : Scoped → ScopedName) (margin : ℕ) → Intends s text (Ok m) → PortsHaveTheirNames (project_made s name m margin)
origins-named s text m name margin x =
    let from = made-from s text m x in
    named-once s name m margin (ports-apart s from.0 m from.2)

pub switches-kept : (s : Structure) (text : List ℕ) (m : Made) (name : Scoped → ScopedName) (margin : ℕ) → is_some (module_at s []) ≡ true → ((p : Path) → 64 ≤ length p → module_at s p ≡ None) → Intends s text (Ok m)
    → (o input : ℕ) (k : Node) (high : Bool) → slice_get (network_of (project_made s name m margin)).origins o ≡ Some (FromSwitch input k high) → IsOfSwitch s m o k high
switches-kept s text m name margin top shallow x =
    let from = made-from s text m x in
    let inside = names-stand-inside s from.0 m top from.2 in
    switch-kept s name m margin shallow inside.controls inside.scopes (controls-declared s text m x).switches

pub origins-visible : (s : Structure) (text : List ℕ) (m : Made) (name : Scoped → ScopedName) (margin : ℕ) → Intends s text (Ok m)
    → (o : ℕ) → slice_get (network_of (project_made s name m margin)).origins o ≡ Some FromPort → list_all is_visible (unwrap_or (slice_get (project_made s name m margin).origin_names o) []) ≡ true
origins-visible s text m name margin x =
    let from = made-from s text m x in
    names-visible s name m margin (all-visible s from.0 m from.1 from.2)
