-- The power and ground pins of a cell by texts and joins, and by places and origins.
use Rattle.std.proofs.Common.{◌≡◌, ℕ, ◌+◌, suc, zero, Bool, true, false, not, ◌&&◌, List, [], ◌∷◌, ◌++◌, map, length, Option, Some, None, refl, sym, ap, ◌∙◌, arith}
use Rattle.std.specs.Prelude.{if◌then◌else◌, is_some, slice_get, bytes_eq, option_and_then, nat_le}
use Rattle.std.specs.List.{list_all, position}
use Rattle.std.specs.Option.{option_map}
use Rattle.lp_text.specs.Texts.{text_at}
use Rattle.lp_text.specs.declared.names.NameId.{NameId}
use Rattle.lp_expr.specs.Formula.{Formula, truth}
use Rattle.lp_model.specs.Agreement.{name_texts}
use Rattle.lp_model.specs.LibraryView.{CellView, PgPinView, cell_view, expr_view, pg_pin_view, pin_view}
use Rattle.lp_model.specs.declared.library.Cell.{Cell}
use Rattle.lp_model.specs.declared.library.PgPin.{PgPin}
use Rattle.lp_model.specs.declared.library.Pin.{Pin}
use Rattle.lp_model.specs.declared.supply.SetOrigins.{SetOrigins}
use Rattle.lp_spec_design.specs.Keys.{same_bool}
use Rattle.lp_spec_design.specs.Netlists.{first}
use Rattle.lp_spec_design.specs.Graph.{numbered, and_more, some_of}
use Rattle.lp_spec_pins.specs.Pins.{is_power}
use Rattle.lp_spec_fit.specs.Equality.{choices, once, chosen}
use Rattle.lp_spec_fit.specs.Joins.{Joins, all_joined, is_origin, ground_is, relates_to}
use Rattle.lp_spec_fit.specs.PowerDown.{is_some_off, level_where, origin_of_pin, origins_named, origins_of_sets, power_down_equals}
use Rattle.lp_choice.specs.declared.rails.Rail.{Rail}
use Rattle.lp_choice.specs.Clamps.{grounds_to, joins_to, relates}
use Rattle.lp_choice.specs.Keys.{same_key}
use Rattle.lp_choice.specs.Rails.{and_origin, down_agrees, origins_of, placed_origins, rail_of, rail_wire}
use Rattle.lp_choice.specs.Wanted.{either_off_steps, of_four, of_two, off_steps}
use Rattle.lp_choice.specs.Wires.{agree, bit_at, level, number_wire}
use Rattle.lp_choice.proofs.Joining.{chosen-bit}

and-if : (a b : Bool) → (if a then b else false) ≡ (a && b)
and-if true b = refl
and-if false b = refl

-- that a supply is not on, as steps
off-is : (a b : Bool) → truth off_steps (a ∷ b ∷ []) ≡ not ((a && b) && true)
off-is true true = refl
off-is true false = refl
off-is false true = refl
off-is false false = refl

-- that one of two supplies is not on
either-off-is : (a b c d : Bool) → truth either_off_steps (a ∷ b ∷ c ∷ d ∷ []) ≡ not ((a && b) && ((c && d) && true))
either-off-is a b c d = by a b c d
  where
    by : (p q r s : Bool) → not ((p && q) && (r && s)) ≡ not ((p && q) && ((r && s) && true))
    by true true true true = refl
    by true true true false = refl
    by true true false s = refl
    by true false r s = refl
    by false q r s = refl

to_rail : Option (ℕ × PgPinView) → Option Rail
to_rail None = None
to_rail (Some x) = Some (record { origin = x.0; power = is_power x.1.kind })

module _ (texts : List (List ℕ)) (c : Cell) (join : Joins) (f : ℕ → PgPin → Option ℕ) (h : (k : ℕ) (g : PgPin) → join k (pg_pin_view texts g) ≡ f k g) where
  abbrev seen : CellView
  seen = cell_view texts c

  abbrev origins : List (Option ℕ)
  origins = placed_origins f 0 c.pgs

  all-from : (k : ℕ) (pgs : List PgPin) → list_all (λ x. is_some (join x.0 x.1)) (numbered k (map (pg_pin_view texts) pgs)) ≡ list_all is_some (placed_origins f k pgs)
  all-from k [] = refl
  all-from k (g ∷ pgs) = λ i. is_some (h k g i) && all-from (k + 1) pgs i

  pub joined-all : all_joined seen join ≡ list_all is_some origins
  joined-all = all-from 0 c.pgs

  at : (pgs : List PgPin) (s m p o : ℕ) → m ≡ s + p → is_origin o (option_and_then (join m) (slice_get (map (pg_pin_view texts) pgs) p)) ≡ joins_to o (slice_get (placed_origins f s pgs) p)
  at [] s m p o e = refl
  at (g ∷ pgs) s m zero o e = let here : m ≡ s = omega (arith, e) in ap (is_origin o) (h m g ∙ ap (λ k. f k g) here)
  at (g ∷ pgs) s m (suc p) o e = at pgs (s + 1) m p o (omega (arith, e))

  from-first : (k : ℕ) → k ≡ 0 + k
  from-first k = omega arith

  ground : (o : ℕ) (k : Option ℕ) → ground_is seen join o k ≡ grounds_to origins o k
  ground o None = refl
  ground o (Some k) = at c.pgs 0 k k o (from-first k)

  pub relates-one : (set : SetOrigins) (q : Pin) → relates_to seen join set (pin_view texts q) ≡ relates origins set q
  relates-one set q =
      (λ i. if at c.pgs 0 q.power q.power set.power.0 (from-first q.power) i then ground set.gnd.0 q.gnd i else false)
      ∙ and-if (joins_to set.power.0 (slice_get origins q.power)) (grounds_to origins set.gnd.0 q.gnd)

  pub relates-all : (set : SetOrigins) (qs : List Pin) → list_all (relates_to seen join set) (map (pin_view texts) qs) ≡ list_all (relates origins set) qs
  relates-all set [] = refl
  relates-all set (q ∷ qs) = λ i. relates-one set q i && relates-all set qs i

  -- ---- rails

  abbrev found : ℕ → List PgPin → List ℕ → Option (ℕ × PgPinView)
  found k pgs v = option_and_then (λ (x : ℕ × PgPinView). option_and_then (λ (o : ℕ). Some (o, x.1)) (join x.0 x.1)) (first (λ (x : ℕ × PgPinView). bytes_eq x.1.name v) (numbered k (map (pg_pin_view texts) pgs)))

  rail-from : (k : ℕ) (pgs : List PgPin) (n : NameId) → to_rail (found k pgs (text_at texts n.0)) ≡ rail_of texts pgs (placed_origins f k pgs) n
  unfolding to_rail
  rail-from k [] n = refl
  rail-from k (g ∷ pgs) n = by (bytes_eq (text_at texts g.name.0) (text_at texts n.0)) (rail-from (k + 1) pgs n)
    where
      here : (o : Option ℕ) → to_rail (option_and_then (λ (p : ℕ). Some (p, pg_pin_view texts g)) o) ≡ option_map (λ p. record { origin = p; power = is_power g.kind }) o
      here None = refl
      here (Some p) = refl

      by : (b : Bool) → to_rail (found (k + 1) pgs (text_at texts n.0)) ≡ rail_of texts pgs (placed_origins f (k + 1) pgs) n
          → to_rail (option_and_then (λ (x : ℕ × PgPinView). option_and_then (λ (o : ℕ). Some (o, x.1)) (join x.0 x.1)) (if b then Some (k, pg_pin_view texts g) else first (λ (x : ℕ × PgPinView). bytes_eq x.1.name (text_at texts n.0)) (numbered (k + 1) (map (pg_pin_view texts) pgs))))
          ≡ (if b then option_map (λ p. record { origin = p; power = is_power g.kind }) (f k g) else rail_of texts pgs (placed_origins f (k + 1) pgs) n)
      by true rest = ap (λ o. to_rail (option_and_then (λ (p : ℕ). Some (p, pg_pin_view texts g)) o)) (h k g) ∙ here (f k g)
      by false rest = rest

  abbrev rail : NameId → Option Rail
  rail n = rail_of texts c.pgs origins n

  more-is : (o : Option (ℕ × PgPinView)) (rest : List ℕ) → and_more (option_and_then (λ (x : ℕ × PgPinView). Some x.0) o) rest ≡ and_origin (to_rail o) rest
  unfolding to_rail
  more-is None rest = refl
  more-is (Some x) rest = refl

  named-is : (vs : List NameId) → some_of (λ v. option_and_then (λ (x : ℕ × PgPinView). Some x.0) (origin_of_pin seen join v)) (name_texts texts vs) ≡ origins_of texts c.pgs origins vs
  named-is [] = refl
  named-is (v ∷ vs) =
      more-is (origin_of_pin seen join (text_at texts v.0)) (some_of (λ w. option_and_then (λ (x : ℕ × PgPinView). Some x.0) (origin_of_pin seen join w)) (name_texts texts vs))
      ∙ (λ i. and_origin (rail-from 0 c.pgs v i) (named-is vs i))

  level-is : (keys : List ℕ) (ch : List Bool) (o : Option (ℕ × PgPinView)) → level ch (rail_wire keys (to_rail o)) ≡ level_where (chosen same_key keys ch) o
  unfolding to_rail
  level-is keys ch None = refl
  level-is keys ch (Some x) = by (is_power x.1.kind)
    where
      bit : bit_at ch (position (λ other. same_key other x.0) keys) ≡ chosen same_key keys ch x.0
      bit = chosen-bit same_key keys ch x.0

      by : (b : Bool) → (if not b then not (bit_at ch (position (λ other. same_key other x.0) keys)) else bit_at ch (position (λ other. same_key other x.0) keys)) ≡ (if b then chosen same_key keys ch x.0 else not (chosen same_key keys ch x.0))
      by true = bit
      by false = ap not bit

  levels-are : (keys : List ℕ) (ch : List Bool) (vs : List NameId) → map (level ch) (map (λ (n : NameId). rail_wire keys (rail n)) vs) ≡ map (λ v. level_where (chosen same_key keys ch) (origin_of_pin seen join v)) (name_texts texts vs)
  levels-are keys ch [] = refl
  levels-are keys ch (v ∷ vs) = λ i.
      (ap (λ r. level ch (rail_wire keys r)) (sym (rail-from 0 c.pgs v)) ∙ level-is keys ch (origin_of_pin seen join (text_at texts v.0))) i
      ∷ levels-are keys ch vs i

  off-at : (set : SetOrigins) (keys : List ℕ) (ch : List Bool) → truth off_steps (map (level ch) (map (number_wire keys) (set.power.0 ∷ set.gnd.0 ∷ []))) ≡ is_some_off (set ∷ []) (chosen same_key keys ch)
  off-at set keys ch =
      (λ i. truth off_steps (chosen-bit same_key keys ch set.power.0 i ∷ chosen-bit same_key keys ch set.gnd.0 i ∷ []))
      ∙ off-is (chosen same_key keys ch set.power.0) (chosen same_key keys ch set.gnd.0)

  -- a wanted function that says of the values of the origins of some sets that one of them is not on
  abbrev SaysOff : List SetOrigins → Formula → Type 0
  SaysOff sets w = (keys : List ℕ) (ch : List Bool) → truth w.steps (map (level ch) (map (number_wire keys) (origins_of_sets sets))) ≡ is_some_off sets (chosen same_key keys ch)

  down-by : (sets : List SetOrigins) (w : Formula) → SaysOff sets w → (e : Option Formula) → down_agrees texts c.pgs origins (origins_of_sets sets) w e ≡ power_down_equals seen join sets (option_map (expr_view texts) e)
  down-by sets w off None = refl
  down-by sets w off (Some e) =
      (λ i. let keys = once same_key (sym (named-is e.variables) i ++ origins_of_sets sets) in
      agree e (map (λ (n : NameId). rail_wire keys (rail n)) e.variables) w (map (number_wire keys) (origins_of_sets sets)) (length keys))
      ∙ (let keys = once same_key (origins_named seen join (expr_view texts e) ++ origins_of_sets sets) in
      λ i. nat_le (length keys) 12 && list_all (λ ch. same_bool (truth e.steps (levels-are keys ch e.variables i)) (off keys ch i)) (choices (length keys)))

  pub down-is : (set : SetOrigins) (e : Option Formula) → down_agrees texts c.pgs origins (set.power.0 ∷ set.gnd.0 ∷ []) (of_two off_steps) e ≡ power_down_equals seen join (set ∷ []) (option_map (expr_view texts) e)
  down-is set e = down-by (set ∷ []) (of_two off_steps) (off-at set) e

  both-at : (a b : SetOrigins) → SaysOff (a ∷ b ∷ []) (of_four either_off_steps)
  both-at a b keys ch =
      (λ i. truth either_off_steps (chosen-bit same_key keys ch a.power.0 i ∷ chosen-bit same_key keys ch a.gnd.0 i ∷ chosen-bit same_key keys ch b.power.0 i ∷ chosen-bit same_key keys ch b.gnd.0 i ∷ []))
      ∙ either-off-is (chosen same_key keys ch a.power.0) (chosen same_key keys ch a.gnd.0) (chosen same_key keys ch b.power.0) (chosen same_key keys ch b.gnd.0)

  pub down-both : (a b : SetOrigins) (e : Option Formula) → down_agrees texts c.pgs origins (a.power.0 ∷ a.gnd.0 ∷ b.power.0 ∷ b.gnd.0 ∷ []) (of_four either_off_steps) e ≡ power_down_equals seen join (a ∷ b ∷ []) (option_map (expr_view texts) e)
  down-both a b e = down-by (a ∷ b ∷ []) (of_four either_off_steps) (both-at a b) e
