-- Which strategy wins at each side of a boundary bit (own rule, after IEEE 1801-2015: the more specific one wins).
use Rattle.std.specs.Prelude.{◌≡◌, ◌⊎◌, ℕ, ◌+◌, ◌*◌, ◌==◌, nat_lt, Bool, true, false, not, ◌&&◌, ◌||◌, List, [], ◌∷◌, length, map, filter, Option, Some, None, is_some, if◌then◌else◌, bytes_eq}
use Rattle.std.specs.List.{list_any, list_all}
use Rattle.lp_model.specs.declared.side.Side.{Side}
use Rattle.lp_model.specs.declared.side.Side.TheVariants.{Upper, Lower}
use Rattle.lp_model.specs.declared.intent.Applies.{Applies}
use Rattle.lp_model.specs.declared.intent.Applies.TheVariants.{Inputs, Outputs, Both}
use Rattle.lp_model.specs.declared.intent.StrategyKind.{StrategyKind}
use Rattle.lp_model.specs.declared.intent.StrategyKind.TheVariants.{Isolation, Shifting, Retention}
use Rattle.lp_spec_design.specs.Keys.{Path, same_path, same_index}
use Rattle.lp_spec_design.specs.Netlists.{Structure, first, is_input}
use Rattle.lp_spec_design.specs.Graph.{readers_of, numbered}
use Rattle.lp_spec_design.specs.Intents.{SetNumber, Element, AtInstance, AtCell, AtPort, AtBit, Named, BySet, ByDomain, Strategy, Intent, Network, same_set}
use Rattle.lp_spec_design.specs.Domains.{BoundaryBit, way_of, domain_of, same_domain, primary_of, reader_supply, driver}

-- ---- sides

-- the upper side is the boundary instance's own domain's, the lower side its parent's; the top has no lower side
abbrev pub side_domain : Intent → Side → BoundaryBit → Option ℕ
side_domain i Upper b = domain_of i b.path
side_domain i Lower b = by b.path
  where
    by : Path → Option ℕ
    by [] = None
    by (x ∷ p) = domain_of i p

-- on the upper side the direction is the port's, on the lower side the opposite one
abbrev pub is_input_of : Side → BoundaryBit → Bool
is_input_of Upper b = is_input b.port
is_input_of Lower b = not (is_input b.port)

-- ---- what a strategy names

abbrev pub names : BoundaryBit → Element → Bool
names b (AtInstance p) = same_path p b.path
names b (AtCell p x) = false
names b (AtPort p n) = bytes_eq n b.port.name && same_path p b.path
names b (AtBit p n j) = bytes_eq n b.port.name && (same_index j b.index && same_path p b.path)

abbrev pub is_bit : Element → Bool
is_bit (AtBit p n j) = true
is_bit _ = false

abbrev pub is_port : Element → Bool
is_port (AtPort p n) = true
is_port _ = false

abbrev pub is_listed : BoundaryBit → Option (List Element) → Bool
is_listed b None = true
is_listed b (Some elements) = list_any (names b) elements

abbrev pub takes_direction : Applies → Bool → Bool
takes_direction Inputs input = input
takes_direction Outputs input = not input
takes_direction Both input = true

abbrev pub set_of : Intent → Named → Option SetNumber
set_of i (BySet k) = Some k
set_of i (ByDomain d) = primary_of i (Some d)

-- ---- a crossing: a boundary bit with the supplies of its driver and of its readers

pub record Crossing : Type 0 where
  pub bit : BoundaryBit
  pub driver : Option SetNumber
  pub readers : List (Option SetNumber)

abbrev pub crossing : Structure → Intent → ℕ → BoundaryBit → Crossing
crossing s i fuel b = record { bit = b; driver = driver s i fuel b; readers = map (reader_supply i) (readers_of s fuel (way_of b)) }

abbrev pub same_supply : Network → Option SetNumber → Option SetNumber → Bool
same_supply n (Some a) (Some b) = same_set n a b
same_supply n _ _ = false

-- with a source, there is a driver of the same supply
abbrev pub fits_source : Network → Intent → Crossing → Strategy → Bool
fits_source n i c t = by t.source
  where
    by : Option Named → Bool
    by None = true
    by (Some x) = same_supply n c.driver (set_of i x)

-- with a sink, a reader has the same supply
abbrev pub fits_sink : Network → Intent → Strategy → Option SetNumber → Bool
fits_sink n i t r = by t.sink
  where
    by : Option Named → Bool
    by None = true
    by (Some x) = same_supply n r (set_of i x)

-- where only different supplies count, there is a driver, and a reader's supply is not the same as the driver's
abbrev pub fits_difference : Network → Crossing → Strategy → Option SetNumber → Bool
fits_difference n c t r = if t.diff then is_some c.driver && not (same_supply n r c.driver) else true

-- all that does not go by single readers
abbrev pub may_apply : Network → Intent → Side → Crossing → Strategy → Bool
may_apply n i side c t =
    is_some (side_domain i side c.bit)
    && (not (length c.readers == 0)
    && (same_domain (side_domain i side c.bit) (Some t.domain)
    && (is_listed c.bit t.elements
    && (not (list_any (names c.bit) t.excluded)
    && (takes_direction t.applies (is_input_of side c.bit)
    && fits_source n i c t)))))

abbrev pub applies : Network → Intent → Side → Crossing → Strategy → Bool
applies n i side c t = may_apply n i side c t && (list_all (fits_sink n i t) c.readers && list_all (fits_difference n c t) c.readers)

-- some readers fit and others do not, each of the two rules taken alone
abbrev pub is_split : List Bool → Bool
is_split fits = list_any (λ b. b) fits && list_any not fits

abbrev pub splits : Network → Intent → Side → Crossing → Strategy → Bool
splits n i side c t = may_apply n i side c t && (is_split (map (fits_sink n i t) c.readers) || is_split (map (fits_difference n c t) c.readers))

-- ---- rank

-- a named bit, a named port, a named instance, a domain with a direction, a domain
abbrev pub level : BoundaryBit → Strategy → ℕ
level b t = by t.elements
  where
    whole : Applies → ℕ
    whole Both = 1
    whole _ = 2

    by : Option (List Element) → ℕ
    by None = whole t.applies
    by (Some elements) = if list_any (λ e. is_bit e && names b e) elements then 5 else if list_any (λ e. is_port e && names b e) elements then 4 else 3

abbrev pub one_if : Bool → ℕ
one_if b = if b then 1 else 0

abbrev pub rank : BoundaryBit → Strategy → ℕ
rank b t = 3 * level b t + (one_if (is_some t.source) + one_if (is_some t.sink))

abbrev pub same_kind : StrategyKind → StrategyKind → Bool
same_kind Isolation Isolation = true
same_kind Shifting Shifting = true
same_kind Retention Retention = true
same_kind _ _ = false

-- the strategies of a kind that apply, with their numbers
abbrev pub applying : Network → Intent → StrategyKind → Side → Crossing → List (ℕ × Strategy)
applying n i kind side c = filter (λ x. same_kind kind x.1.kind && applies n i side c x.1) (numbered 0 i.strategies)

-- a winner is above each other one
abbrev pub beats_all : (Strategy → ℕ) → List (ℕ × Strategy) → ℕ × Strategy → Bool
beats_all ranked all x = list_all (λ y. (y.0 == x.0) || nat_lt (ranked y.1) (ranked x.1)) all

abbrev pub winner_among : (Strategy → ℕ) → List (ℕ × Strategy) → Option (ℕ × Strategy)
winner_among ranked all = first (beats_all ranked all) all

abbrev pub winner : Network → Intent → StrategyKind → Side → Crossing → Option (ℕ × Strategy)
winner n i kind side c = winner_among (rank c.bit) (applying n i kind side c)

-- it is one of the list
abbrev pub IsIn : {A : Type 0} → A → List A → Type 0
IsIn y [] = ⊥
IsIn y (x ∷ xs) = (y ≡ x) ⊎ IsIn y xs

-- two share the greatest rank
abbrev pub is_tied : (Strategy → ℕ) → List (ℕ × Strategy) → ℕ × Strategy → Bool
is_tied ranked all x = list_all (λ y. not (nat_lt (ranked x.1) (ranked y.1))) all && list_any (λ y. not (y.0 == x.0) && (ranked y.1 == ranked x.1)) all
