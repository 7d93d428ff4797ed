-- What the laws on ends ask of a project beside: its order, pins of added cells apart, and origins behind all that is joined.
use Rattle.std.proofs.Common.{◌≡◌, ◌⊎◌, ◌<◌, ℕ, ◌==◌, Bool, true, false, ◌||◌, List, [], ◌∷◌, length, Option, Some, inl, inr, refl, sym, ap, ◌∙◌, subst}
use Rattle.std.specs.Prelude.{bytes_eq, is_some, if◌then◌else◌, option_and_then, slice_get}
use Rattle.std.specs.List.{list_any}
use Rattle.std.proofs.lemmas.Bool.{eq-eqb}
use Rattle.std.proofs.lemmas.List.Elements.{All-get_or}
use Rattle.std.proofs.lemmas.Option.{slice_get_within, get_or_from_slice_get}
use Rattle.lp_model.specs.declared.supply.Origin as model
use Rattle.lp_model.specs.declared.supply.SetOrigins.{SetOrigins}
use Rattle.lp_model.specs.NetlistView.{PortView}
use Rattle.lp_rows.specs.Network.{IsSetOf, AreOrigins}
use Rattle.lp_spec_design.specs.Keys.{Name}
use Rattle.lp_spec_design.specs.Netlists.{is_input}
use Rattle.lp_spec_design.specs.Intents.{SetNumber, PortSupply}
use Rattle.lp_spec_design.specs.Domains.{domain_of, primary_of, supply_of_port}
use Rattle.lp_spec_network.specs.Views.{kind_view, set_view}
use Rattle.lp_spec_origins.specs.Used.{handle_names, strategy_names, attribute_names, is_used_set}
use Rattle.lp_spec_realises.specs.Projects.{Project, network_of, functions_of, numbered_node}
use Rattle.lp_spec_realises.specs.Realises.{outer_supply}
use Rattle.lp_spec_realises.specs.Implements.{Lists}
use Rattle.lp_spec_agreement.proofs.Framed.{source_fuel}
use Rattle.lp_spec_faultless.specs.Faults.{IsRead}
use Rattle.lp_spec_faultless.proofs.Whole.{faultless}
use Rattle.lp_spec_voltages.proofs.Readings.{set-there}
use Rattle.lp_spec_voltages.proofs.Roots.{at-place}
use Rattle.lp_spec_hub.specs.Whole.{IsOrderly}
use Rattle.lp_spec_written_at.proofs.Either.{or-left, or-right}
use Rattle.lp_spec_written_at.proofs.Stands.{map-get}
use Rattle.lp_spec_proper.specs.Insertable.{IsInsertable, IsWithinLimits}
use Rattle.lp_spec_proper.specs.Laws.{AddedPinsAreApart, HasSupply, IsOrigin}
use Rattle.lp_spec_proper.proofs.Base.{some-is}
use Rattle.lp_spec_proper.proofs.FitCells.{sound-operator, sound-register, sound-switch}
use Rattle.lp_spec_proper.proofs.Switched.{top-set}

-- ---- sets

attribute-in : (i : List PortSupply) (n : Name) (other : Option SetNumber) (k : SetNumber) → supply_of_port i n other ≡ Some k → (list_any (attribute_names k) i ≡ true) ⊎ (other ≡ Some k)
attribute-in [] n other k e = inr e
attribute-in (a ∷ more) n other k e = by (bytes_eq a.port n) e (attribute-in more n other k)
  where
    by : (b : Bool) → (if b then Some a.supply else supply_of_port more n other) ≡ Some k → (supply_of_port more n other ≡ Some k → (list_any (attribute_names k) more ≡ true) ⊎ (other ≡ Some k)) → ((attribute_names k a || list_any (attribute_names k) more) ≡ true) ⊎ (other ≡ Some k)
    by true f later = let same : a.supply ≡ k = cc in inl (or-left (a.supply == k) (list_any (attribute_names k) more) (eq-eqb a.supply k same))
    by false f later = elim (later f) [ inl there ↦ inl (or-right (attribute_names k a) (list_any (attribute_names k) more) there) | inr is ↦ inr is ]

in-some : (i : List PortSupply) (n : Name) (k : SetNumber) → (r : SetNumber) × (supply_of_port i n (Some k) ≡ Some r)
in-some [] n k = (k, refl)
in-some (a ∷ more) n k = by (bytes_eq a.port n) (in-some more n k)
  where
    by : (b : Bool) → (r : SetNumber) × (supply_of_port more n (Some k) ≡ Some r) → (r : SetNumber) × ((if b then Some a.supply else supply_of_port more n (Some k)) ≡ Some r)
    by true more = (a.supply, refl)
    by false more = more

module _ (p : Project) (l : Lists) (switch_command : ℕ → ℕ) (read : IsRead p) (good : IsInsertable p l switch_command) (within : IsWithinLimits p l) where
  pub is-orderly : IsOrderly p l
  is-orderly = record {
    names = read.netlist.names_apart;
    fuel = source_fuel p (faultless p switch_command read good.values);
    cells = good.cells;
    locations = good.locations;
  }

  -- the functions of a set are origins
  set-origins : (k : SetNumber) (x : SetOrigins) → functions_of p (Some k) ≡ Some x → AreOrigins (length p.supplies.origins) x
  set-origins k x e =
      let at = set-there p k x e in
      let found = All-get_or (IsSetOf (length p.supplies.origins)) p.supplies.sets k (Some x) (slice_get_within p.supplies.sets k (Some x) at) read.network.sets in
      subst (IsSetOf (length p.supplies.origins)) (get_or_from_slice_get p.supplies.sets k (Some x) (Some x) at) found

  pub origin-there : (o : ℕ) → o < length p.supplies.origins → IsOrigin p o
  origin-there o less =
      let at = at-place p.supplies.origins o less in
      ap is_some (map-get (λ (x : model.Origin). kind_view (numbered_node p.structure) x.kind) p.supplies.origins o at.0 at.1)

  set-has : (k : SetNumber) (x : SetOrigins) → functions_of p (Some k) ≡ Some x → HasSupply p (slice_get (network_of p).sets k)
  set-has k x e =
      let of = set-origins k x e in
      record {
        set = set_view (Some x);
        is = map-get set_view p.supplies.sets k (Some x) (set-there p k x e);
        power = origin-there x.power.0 of.power;
        gnd = origin-there x.gnd.0 of.gnd;
      }

  used-has : (k : SetNumber) → is_used_set p.intent k ≡ true → HasSupply p (slice_get (network_of p).sets k)
  used-has k used = let x = some-is (functions_of p (Some k)) (within.resolved.sets k used) in set-has k x.0 x.1

  abbrev named_by : SetNumber → Bool
  named_by k = list_any (handle_names k) p.intent.domains

  abbrev asked_by : SetNumber → Bool
  asked_by k = list_any (strategy_names k) p.intent.strategies

  abbrev drives : SetNumber → Bool
  drives k = list_any (attribute_names k) p.intent.drivers

  abbrev receives : SetNumber → Bool
  receives k = list_any (attribute_names k) p.intent.receivers

  by-driver : (k : SetNumber) → drives k ≡ true → is_used_set p.intent k ≡ true
  by-driver k e = or-right (named_by k) (asked_by k || (drives k || receives k)) (or-right (asked_by k) (drives k || receives k) (or-left (drives k) (receives k) e))

  by-receiver : (k : SetNumber) → receives k ≡ true → is_used_set p.intent k ≡ true
  by-receiver k e = or-right (named_by k) (asked_by k || (drives k || receives k)) (or-right (asked_by k) (drives k || receives k) (or-right (drives k) (receives k) e))

  -- the environment's side of a port of the top has the supply of its attribute, else that of the domain of the top
  side-has : (i : List PortSupply) → ((k : SetNumber) → list_any (attribute_names k) i ≡ true → is_used_set p.intent k ≡ true) → (n : Name)
      → HasSupply p (option_and_then (λ k. slice_get (network_of p).sets k) (supply_of_port i n (primary_of p.intent (domain_of p.intent []))))
  side-has i used n =
      let top = top-set p l switch_command read good within in
      let found = in-some i n top.0 in
      let is : supply_of_port i n (primary_of p.intent (domain_of p.intent [])) ≡ Some found.0 = ap (supply_of_port i n) top.1 ∙ found.1 in
      subst (λ o. HasSupply p (option_and_then (λ k. slice_get (network_of p).sets k) o)) (sym is)
      (used-has found.0 (elim (attribute-in i n (Some top.0) found.0 found.1) [
        | inl there ↦ used found.0 there
        | inr same ↦ let eq : top.0 ≡ found.0 = cc in subst (λ k. is_used_set p.intent k ≡ true) eq top.2
      ]))

  pub ports-have : (q : PortView) → HasSupply p (outer_supply p q)
  ports-have q = by (is_input q)
    where
      by : (b : Bool) → HasSupply p (option_and_then (λ k. slice_get (network_of p).sets k) (supply_of_port (if b then p.intent.drivers else p.intent.receivers) q.name (primary_of p.intent (domain_of p.intent []))))
      by true = side-has p.intent.drivers by-driver q.name
      by false = side-has p.intent.receivers by-receiver q.name

  pub pins-apart : AddedPinsAreApart p l
  pins-apart = record {
    operators = λ o h. (sound-operator p l switch_command read good within o h).names;
    registers = λ k h. (sound-register p l switch_command read good within k h).names;
    switches = λ w h. (sound-switch p l switch_command read good within w h).names;
  }
