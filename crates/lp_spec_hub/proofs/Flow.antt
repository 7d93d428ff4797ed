-- Without a fault of location order, the operators before a way's edge come first in the whole plan.
use Rattle.std.proofs.Common.{◌≡◌, ◌⊎◌, ℕ, zero, suc, ◌+◌, Bool, true, false, cond, ◌||◌, List, [], ◌∷◌, ◌++◌, map, length, Option, Some, None, inl, inr, refl, sym, ap, ◌∙◌, arith}
use Rattle.std.specs.Prelude.{slice_get, option_and_then}
use Rattle.std.specs.List.{list_any}
use Rattle.std.proofs.lemmas.Bool.{true≢false, false≢true}
use Rattle.std.proofs.lemmas.Option.{slice_get_within}
use Rattle.lp_model.specs.declared.side.Side.{Side}
use Rattle.lp_model.specs.declared.side.Side.TheVariants.{Upper, Lower}
use Rattle.lp_model.specs.declared.side.Location.{Location}
use Rattle.lp_model.specs.declared.side.Location.TheVariants.{Own, Parent}
use Rattle.lp_model.specs.declared.netlist.BitRange.{BitRange}
use Rattle.lp_model.specs.declared.netlist.Direction.{Direction}
use Rattle.lp_model.specs.declared.netlist.Direction.TheVariants.{Input, Output}
use Rattle.lp_model.specs.NetlistView.{PortView}
use Rattle.lp_model.specs.LibraryView.{CellView}
use Rattle.lp_spec_design.specs.Keys.{Name, Path, same_path, same_bool, Way}
use Rattle.lp_spec_design.specs.Netlists.{first, is_input}
use Rattle.lp_spec_design.specs.Nodes.{fuel_of}
use Rattle.lp_spec_design.specs.Reads.{path-self}
use Rattle.lp_spec_design.specs.Intents.{SetNumber, Strategy}
use Rattle.lp_spec_design.specs.Domains.{BoundaryBit, boundary, node_before}
use Rattle.lp_spec_design.specs.Winners.{IsIn, crossing}
use Rattle.lp_spec_design.specs.Chains.{Operator, Clamp, Shift, side_part, rail_after, bit_of_way}
use Rattle.lp_spec_design.specs.Settled.{rail_of}
use Rattle.lp_spec_design.proofs.Members.{in-flat}
use Rattle.lp_spec_realises.specs.Projects.{Project, network_of, design_of}
use Rattle.lp_spec_realises.specs.Operators.{OperatorAt, chain_of}
use Rattle.lp_spec_realises.specs.Implements.{Lists, path_by, strategy_of, sides_of, operator_path, operator_chosen}
use Rattle.lp_spec_faults.specs.Lines.{first_of}
use Rattle.lp_spec_faults.specs.Strategies.{sides_of_bit, part_of, location_of, goes_back, some_goes_back, location_order}
use Rattle.lp_spec_written.specs.Places.{Standing, cell_numbered, standing_at, plan}
use Rattle.lp_spec_hub.specs.Spots.{on_way, is_behind}
use Rattle.lp_spec_hub.specs.Entries.{IsInFlow, HasItsCells, HasWaysApart, standing_of, IsNumber, AreFirst}
use Rattle.lp_spec_hub.proofs.Paths.{paths-differ}
use Rattle.lp_spec_hub.proofs.Whole.{way-of-plan, numbers, bit-in, of-standing}

-- ---- two parts of a chain, and the sides of their operators

abbrev sided : Side → Side → List Operator → List Operator → List Side
sided one two ps qs = map (λ o. one) ps ++ map (λ o. two) qs

data InPart (one two : Side) (ps qs : List Operator) (k : ℕ) (o : Operator) : Type 0 where
  InFirst : slice_get ps k ≡ Some o → slice_get (sided one two ps qs) k ≡ Some one → InPart one two ps qs k o
  InSecond : (n : ℕ) → k ≡ length ps + n → slice_get qs n ≡ Some o → slice_get (sided one two ps qs) k ≡ Some two → InPart one two ps qs k o

at-all : (two : Side) (qs : List Operator) (k : ℕ) (o : Operator) → slice_get qs k ≡ Some o → slice_get (map (λ (q : Operator). two) qs) k ≡ Some two
at-all two [] k o e = absurd cc
at-all two (q ∷ qs) zero o e = refl
at-all two (q ∷ qs) (suc k) o e = at-all two qs k o e

parted : (one two : Side) (ps qs : List Operator) (k : ℕ) (o : Operator) → slice_get (ps ++ qs) k ≡ Some o → InPart one two ps qs k o
parted one two [] qs k o e = InSecond k (omega arith) e (at-all two qs k o e)
parted one two (x ∷ ps) qs zero o e = InFirst e refl
parted one two (x ∷ ps) qs (suc k) o e = by (parted one two ps qs k o e)
  where
    by : InPart one two ps qs k o → InPart one two (x ∷ ps) qs (suc k) o
    by (InFirst h s) = InFirst h s
    by (InSecond n is h s) = InSecond n (omega (arith, is)) h s

-- ---- no two neighbours go back

pub none-first : {A : Type 0} (t : A → Bool) (xs : List A) → first t xs ≡ None → (x : A) → IsIn x xs → t x ≡ false
none-first t [] e x h = absurd h
none-first t (y ∷ ys) e x h = by (t y) refl e h (none-first t ys)
  where
    by : (b : Bool) → t y ≡ b → cond b (Some y) (first t ys) ≡ None → (x ≡ y) ⊎ IsIn x ys → (first t ys ≡ None → (z : _) → IsIn z ys → t z ≡ false) → t x ≡ false
    by true is e h more = absurd cc
    by false is e (inl same) more = ap t same ∙ is
    by false is e (inr h) more = more e x h

or-first : (a b : Bool) → (a || b) ≡ false → a ≡ false
or-first false b e = refl
or-first true b e = absurd (true≢false e)

or-second : (a b : Bool) → (a || b) ≡ false → b ≡ false
or-second false b e = e
or-second true b e = absurd (true≢false e)

neighbours : (p : Project) (input : Bool) (ops : List Operator) (k : ℕ) (o q : Operator) → some_goes_back p input ops ≡ false → slice_get ops k ≡ Some o → slice_get ops (suc k) ≡ Some q → goes_back input (location_of p o) (location_of p q) ≡ false
neighbours p input [] k o q none h g = absurd cc
neighbours p input (x ∷ ops) (suc k) o q none h g = neighbours p input ops k o q (or-second (list_any (λ y. goes_back input (location_of p x) (location_of p y)) ops) (some_goes_back p input ops) none) h g
neighbours p input (x ∷ []) zero o q none h g = absurd cc
neighbours p input (x ∷ y ∷ ops) zero o q none h g =
    let one : x ≡ o = inside h in
    let two : y ≡ q = inside g in
    ap (λ z. goes_back input (location_of p z) (location_of p q)) (sym one)
    ∙ (ap (λ z. goes_back input (location_of p x) (location_of p z)) (sym two)
    ∙ or-first (goes_back input (location_of p x) (location_of p y)) (list_any (λ z. goes_back input (location_of p x) (location_of p z)) ops)
    (or-first (list_any (λ z. goes_back input (location_of p x) (location_of p z)) (y ∷ ops)) (some_goes_back p input (y ∷ ops)) none))
  where
    inside : {a b : Operator} → Some a ≡ Some b → a ≡ b
    inside e = cc

-- ---- inside or outside

-- an operator of the upper side at self stands in the boundary instance
abbrev stays : Side → Location → Bool
stays Upper Own = true
stays Upper Parent = false
stays Lower location = false

inside-below : (i : Name) (x : Path) (side : Side) (location : Location) → same_path (path_by (i ∷ x) (Some side) location) (i ∷ x) ≡ stays side location
inside-below i x Upper Own = path-self (i ∷ x)
inside-below i x Upper Parent = paths-differ x (i ∷ x) (λ e. absurd (omega (arith, ap length e)))
inside-below i x Lower Own = paths-differ x (i ∷ x) (λ e. absurd (omega (arith, ap length e)))
inside-below i x Lower Parent = paths-differ x (i ∷ x) (λ e. absurd (omega (arith, ap length e)))

inside-top : (side : Side) (location : Location) → same_path (path_by [] (Some side) location) [] ≡ true
inside-top Upper Own = refl
inside-top Upper Parent = refl
inside-top Lower Own = refl
inside-top Lower Parent = refl

-- the side and the location of an operator, and where it stands by them
pub record Located (p : Project) (b : BoundaryBit) (side : Side) (o : Operator) (x : Path) : Type 0 where
  pub location : Location
  pub located : location_of p o ≡ Some location
  pub stands : x ≡ path_by b.path (Some side) location

location-by : (p : Project) (o : Operator) → location_of p o ≡ option_and_then (λ (t : Strategy). Some t.location) (slice_get p.intent.strategies (strategy_of o))
location-by p (Clamp t i) = refl
location-by p (Shift t a b) = refl

module _ (p : Project) (l : Lists) where
  pub path-at : (o : OperatorAt) (x : Option Path) (s : Standing) → standing_at p l o x ≡ Some s → x ≡ Some s.path
  path-at o None s e = absurd cc
  path-at o (Some x) s e = by (cell_numbered p (operator_chosen p l x o.operator)) e
    where
      by : (c : Option CellView) → option_and_then (λ c. Some (record { asked = o; path = x; cell = c })) c ≡ Some s → Some x ≡ Some s.path
      by None e = absurd cc
      by (Some c) e = let same : record { asked = o; path = x; cell = c } ≡ s = inside e in ap (λ (t : Standing). Some t.path) same
        where
          inside : {a b : Standing} → Some a ≡ Some b → a ≡ b
          inside e = cc

  located-at : (b : BoundaryBit) (k : ℕ) (o : Operator) (side : Side) (x : Path) → slice_get (sides_of p (crossing p.structure p.intent (fuel_of p.structure) b)) k ≡ Some side → operator_path p (record { bit = b; number = k; operator = o }) ≡ Some x → Located p b side o x
  located-at b k o side x at e = by (slice_get p.intent.strategies (strategy_of o)) refl e
    where
      by : (t : Option Strategy) → slice_get p.intent.strategies (strategy_of o) ≡ t
          → option_and_then (λ (t : Strategy). Some (path_by b.path (slice_get (sides_of p (crossing p.structure p.intent (fuel_of p.structure) b)) k) t.location)) t ≡ Some x
          → Located p b side o x
      by None is e = absurd cc
      by (Some t) is e = record {
        location = t.location;
        located = location-by p o ∙ ap (option_and_then (λ (t : Strategy). Some t.location)) is;
        stands = inside (sym e) ∙ ap (λ s. path_by b.path s t.location) at;
      }
        where
          inside : {a b : Path} → Some a ≡ Some b → a ≡ b
          inside e = cc

  upper-in : (x : Path) (q : PortView) (i : Option ℕ) → IsIn (record { bit = record { path = x; port = q; index = i }; side = Upper }) (sides_of_bit (record { path = x; port = q; index = i }))
  upper-in [] q i = inl refl
  upper-in (j ∷ x) q i = inl refl

  module _ (ordered : first_of (location_order p) ≡ None) where
    upper : (b : BoundaryBit) → IsIn b (boundary p.structure p.intent) → some_goes_back p (is_input b.port) (part_of p (record { bit = b; side = Upper })) ≡ false
    upper b h =
        none-first (location_order p).test (location_order p).places ordered (record { bit = b; side = Upper })
        (in-flat sides_of_bit b (record { bit = b; side = Upper }) (boundary p.structure p.intent) h (upper-in b.path b.port b.index))

    -- ---- a chain and its parts

    abbrev arrives : BoundaryBit → Option SetNumber
    arrives b = rail_of (design_of p) (node_before p.structure b)

    abbrev first_part : Side → BoundaryBit → List Operator
    first_part one b = side_part (network_of p) p.intent one (crossing p.structure p.intent (fuel_of p.structure) b) (arrives b)

    abbrev second_part : Side → Side → BoundaryBit → List Operator
    second_part one two b = side_part (network_of p) p.intent two (crossing p.structure p.intent (fuel_of p.structure) b) (rail_after (arrives b) (first_part one b))

    chain-at : (b : BoundaryBit) (c : Bool) → is_input b.port ≡ c → chain_of p b ≡ cond c (first_part Lower b ++ second_part Lower Upper b) (first_part Upper b ++ second_part Upper Lower b)
    chain-at b c is = ap (λ d. cond d (first_part Lower b ++ second_part Lower Upper b) (first_part Upper b ++ second_part Upper Lower b)) is

    sides-input-by : (x : Path) (n : Name) (r : Option BitRange) (i : Option ℕ) (d : Direction) → is_input (record { name = n; direction = d; range = r }) ≡ true → sides_of p (crossing p.structure p.intent (fuel_of p.structure) (record { path = x; port = record { name = n; direction = d; range = r }; index = i })) ≡ sided Lower Upper (first_part Lower (record { path = x; port = record { name = n; direction = d; range = r }; index = i })) (second_part Lower Upper (record { path = x; port = record { name = n; direction = d; range = r }; index = i }))
    sides-input-by x n r i Input is = refl
    sides-input-by x n r i Output is = absurd (false≢true is)

    sides-input : (b : BoundaryBit) → is_input b.port ≡ true → sides_of p (crossing p.structure p.intent (fuel_of p.structure) b) ≡ sided Lower Upper (first_part Lower b) (second_part Lower Upper b)
    sides-input b is = sides-input-by b.path b.port.name b.port.range b.index b.port.direction is

    sides-output-by : (x : Path) (n : Name) (r : Option BitRange) (i : Option ℕ) (d : Direction) → is_input (record { name = n; direction = d; range = r }) ≡ false → sides_of p (crossing p.structure p.intent (fuel_of p.structure) (record { path = x; port = record { name = n; direction = d; range = r }; index = i })) ≡ sided Upper Lower (first_part Upper (record { path = x; port = record { name = n; direction = d; range = r }; index = i })) (second_part Upper Lower (record { path = x; port = record { name = n; direction = d; range = r }; index = i }))
    sides-output-by x n r i Output is = refl
    sides-output-by x n r i Input is = absurd (true≢false is)

    sides-output : (b : BoundaryBit) → is_input b.port ≡ false → sides_of p (crossing p.structure p.intent (fuel_of p.structure) b) ≡ sided Upper Lower (first_part Upper b) (second_part Upper Lower b)
    sides-output b is = sides-output-by b.path b.port.name b.port.range b.index b.port.direction is

    upper-input-by : (x : Path) (n : Name) (r : Option BitRange) (i : Option ℕ) (d : Direction) → is_input (record { name = n; direction = d; range = r }) ≡ true → part_of p (record { bit = (record { path = x; port = record { name = n; direction = d; range = r }; index = i }); side = Upper }) ≡ second_part Lower Upper (record { path = x; port = record { name = n; direction = d; range = r }; index = i })
    upper-input-by x n r i Input is = refl
    upper-input-by x n r i Output is = absurd (false≢true is)

    upper-input : (b : BoundaryBit) → is_input b.port ≡ true → part_of p (record { bit = b; side = Upper }) ≡ second_part Lower Upper b
    upper-input b is = upper-input-by b.path b.port.name b.port.range b.index b.port.direction is

    upper-output-by : (x : Path) (n : Name) (r : Option BitRange) (i : Option ℕ) (d : Direction) → is_input (record { name = n; direction = d; range = r }) ≡ false → part_of p (record { bit = (record { path = x; port = record { name = n; direction = d; range = r }; index = i }); side = Upper }) ≡ first_part Upper (record { path = x; port = record { name = n; direction = d; range = r }; index = i })
    upper-output-by x n r i Output is = refl
    upper-output-by x n r i Input is = absurd (true≢false is)

    upper-output : (b : BoundaryBit) → is_input b.port ≡ false → part_of p (record { bit = b; side = Upper }) ≡ first_part Upper b
    upper-output b is = upper-output-by b.path b.port.name b.port.range b.index b.port.direction is

    -- ---- where an operator stands

    abbrev inside_of : Path → Side → Location → Bool
    inside_of [] side location = true
    inside_of (i ∷ z) side location = stays side location

    inside-by : (z : Path) (side : Side) (location : Location) → same_path (path_by z (Some side) location) z ≡ inside_of z side location
    inside-by [] side location = inside-top side location
    inside-by (i ∷ z) side location = inside-below i z side location

    inside-at : (b : BoundaryBit) (z : Path) (side : Side) (o : Operator) (x : Path) → b.path ≡ z → (at : Located p b side o x) → same_path x b.path ≡ inside_of z side at.location
    inside-at b z side o x is at = ap (λ u. same_path u b.path) at.stands ∙ (ap (λ q. same_path (path_by q (Some side) at.location) q) is ∙ inside-by z side at.location)

    at-own : (location : Location) → stays Upper location ≡ true → location ≡ Own
    at-own Own e = refl
    at-own Parent e = absurd (false≢true e)

    at-parent : (location : Location) → stays Upper location ≡ false → location ≡ Parent
    at-parent Own e = absurd (true≢false e)
    at-parent Parent e = refl

    stays-own : (location : Location) → goes_back true (Some Own) (Some location) ≡ false → stays Upper location ≡ true
    stays-own Own e = refl
    stays-own Parent e = absurd (true≢false e)

    stays-parent : (location : Location) → goes_back false (Some Parent) (Some location) ≡ false → stays Upper location ≡ false
    stays-parent Parent e = refl
    stays-parent Own e = absurd (true≢false e)

    -- two operators of a chain that follow one another, and where they stand
    pub record Following (b : BoundaryBit) (k : ℕ) (f g : Operator) (x y : Path) : Type 0 where
      pub first_is : slice_get (chain_of p b) k ≡ Some f
      pub next_is : slice_get (chain_of p b) (suc k) ≡ Some g
      pub first_at : operator_path p (record { bit = b; number = k; operator = f }) ≡ Some x
      pub next_at : operator_path p (record { bit = b; number = suc k; operator = g }) ≡ Some y

    module _ (b : BoundaryBit) (h : IsIn b (boundary p.structure p.intent)) (k : ℕ) (f g : Operator) (x y : Path) (both : Following b k f g x y) where
      -- an input: the lower part and then the upper one
      module _ (input : is_input b.port ≡ true) where
        abbrev low : List Operator
        low = first_part Lower b

        abbrev up : List Operator
        up = second_part Lower Upper b

        in-at : (n : ℕ) (o : Operator) (z : Path) (side : Side) → slice_get (sided Lower Upper low up) n ≡ Some side → operator_path p (record { bit = b; number = n; operator = o }) ≡ Some z → Located p b side o z
        in-at n o z side at e = located-at b n o side z (ap (λ r. slice_get r n) (sides-input b input) ∙ at) e

        in-order : (n : ℕ) → slice_get up n ≡ Some f → slice_get up (suc n) ≡ Some g → goes_back true (location_of p f) (location_of p g) ≡ false
        in-order n one two = neighbours p true up n f g (ap (λ r. some_goes_back p true r) (sym (upper-input b input)) ∙ (ap (λ c. some_goes_back p c (part_of p (record { bit = b; side = Upper }))) (sym input) ∙ upper b h)) one two

        in-below : (i : Name) (q : Path) → b.path ≡ i ∷ q → InPart Lower Upper low up k f → InPart Lower Upper low up (suc k) g → same_path x b.path ≡ true → same_path y b.path ≡ true
        in-below i q is (InFirst e s) next here = absurd (false≢true (sym (inside-at b (i ∷ q) Lower f x is (in-at k f x Lower s both.first_at)) ∙ here))
        in-below i q is (InSecond n at e s) (InFirst d t) here = let less = slice_get_within low (suc k) g d in absurd (omega (arith, at, less))
        in-below i q is (InSecond n at e s) (InSecond m to d t) here =
            let one = in-at k f x Upper s both.first_at in
            let two = in-at (suc k) g y Upper t both.next_at in
            let number : m ≡ suc n = omega (arith, at, to) in
            let own = at-own one.location (sym (inside-at b (i ∷ q) Upper f x is one) ∙ here) in
            let order = in-order n e (ap (slice_get up) (sym number) ∙ d) in
            inside-at b (i ∷ q) Upper g y is two
            ∙ stays-own two.location (ap (λ r. goes_back true r (Some two.location)) (ap (λ r. Some r) (sym own)) ∙ (ap (λ r. goes_back true r (Some two.location)) (sym one.located) ∙ (ap (goes_back true (location_of p f)) (sym two.located) ∙ order)))

        in-top : b.path ≡ [] → InPart Lower Upper low up (suc k) g → same_path y b.path ≡ true
        in-top is (InFirst d t) = inside-at b [] Lower g y is (in-at (suc k) g y Lower t both.next_at)
        in-top is (InSecond m to d t) = inside-at b [] Upper g y is (in-at (suc k) g y Upper t both.next_at)

        in-flow : (z : Path) → b.path ≡ z → same_path x b.path ≡ true → same_path y b.path ≡ true
        in-flow z is here = by z is (parted Lower Upper low up k f (ap (λ r. slice_get r k) (sym (chain-at b true input)) ∙ both.first_is)) (parted Lower Upper low up (suc k) g (ap (λ r. slice_get r (suc k)) (sym (chain-at b true input)) ∙ both.next_is))
          where
            by : (z : Path) → b.path ≡ z → InPart Lower Upper low up k f → InPart Lower Upper low up (suc k) g → same_path y b.path ≡ true
            by [] is one two = in-top is two
            by (i ∷ q) is one two = in-below i q is one two here

      -- an output: the upper part and then the lower one
      module _ (output : is_input b.port ≡ false) where
        abbrev upper_one : List Operator
        upper_one = first_part Upper b

        abbrev lower_one : List Operator
        lower_one = second_part Upper Lower b

        out-at : (n : ℕ) (o : Operator) (z : Path) (side : Side) → slice_get (sided Upper Lower upper_one lower_one) n ≡ Some side → operator_path p (record { bit = b; number = n; operator = o }) ≡ Some z → Located p b side o z
        out-at n o z side at e = located-at b n o side z (ap (λ r. slice_get r n) (sides-output b output) ∙ at) e

        out-order : slice_get upper_one k ≡ Some f → slice_get upper_one (suc k) ≡ Some g → goes_back false (location_of p f) (location_of p g) ≡ false
        out-order one two = neighbours p false upper_one k f g (ap (λ r. some_goes_back p false r) (sym (upper-output b output)) ∙ (ap (λ c. some_goes_back p c (part_of p (record { bit = b; side = Upper }))) (sym output) ∙ upper b h)) one two

        out-below : (i : Name) (q : Path) → b.path ≡ i ∷ q → InPart Upper Lower upper_one lower_one k f → InPart Upper Lower upper_one lower_one (suc k) g → same_path x b.path ≡ false → same_path y b.path ≡ false
        out-below i q is one (InSecond m to d t) here = inside-at b (i ∷ q) Lower g y is (out-at (suc k) g y Lower t both.next_at)
        out-below i q is (InSecond n at e s) (InFirst d t) here = let less = slice_get_within upper_one (suc k) g d in absurd (omega (arith, at, less))
        out-below i q is (InFirst e s) (InFirst d t) here =
            let one = out-at k f x Upper s both.first_at in
            let two = out-at (suc k) g y Upper t both.next_at in
            let parent = at-parent one.location (sym (inside-at b (i ∷ q) Upper f x is one) ∙ here) in
            let order = out-order e d in
            inside-at b (i ∷ q) Upper g y is two
            ∙ stays-parent two.location (ap (λ r. goes_back false r (Some two.location)) (ap (λ r. Some r) (sym parent)) ∙ (ap (λ r. goes_back false r (Some two.location)) (sym one.located) ∙ (ap (goes_back false (location_of p f)) (sym two.located) ∙ order)))

        top-inside : b.path ≡ [] → InPart Upper Lower upper_one lower_one k f → same_path x b.path ≡ true
        top-inside is (InFirst d t) = inside-at b [] Upper f x is (out-at k f x Upper t both.first_at)
        top-inside is (InSecond m to d t) = inside-at b [] Lower f x is (out-at k f x Lower t both.first_at)

        out-flow : (z : Path) → b.path ≡ z → same_path x b.path ≡ false → same_path y b.path ≡ false
        out-flow z is here = by z is (parted Upper Lower upper_one lower_one k f (ap (λ r. slice_get r k) (sym (chain-at b false output)) ∙ both.first_is)) (parted Upper Lower upper_one lower_one (suc k) g (ap (λ r. slice_get r (suc k)) (sym (chain-at b false output)) ∙ both.next_is))
          where
            by : (z : Path) → b.path ≡ z → InPart Upper Lower upper_one lower_one k f → InPart Upper Lower upper_one lower_one (suc k) g → same_path y b.path ≡ false
            by [] is one two = absurd (true≢false (sym (top-inside is one) ∙ here))
            by (i ∷ q) is one two = out-below i q is one two here

      is-false : (v : Bool) → same_bool false v ≡ true → v ≡ false
      is-false true e = absurd (false≢true e)
      is-false false e = refl

      bit-flow : (c : Bool) → is_input b.port ≡ c → same_bool (is_input b.port) (same_path x b.path) ≡ true → same_bool (is_input b.port) (same_path y b.path) ≡ true
      bit-flow true is here = ap (λ d. same_bool d (same_path y b.path)) is ∙ in-flow is b.path refl (ap (λ d. same_bool d (same_path x b.path)) (sym is) ∙ here)
      bit-flow false is here = ap (λ d. same_bool d (same_path y b.path)) is ∙ ap (same_bool false) (out-flow is b.path refl (is-false (same_path x b.path) (ap (λ d. same_bool d (same_path x b.path)) (sym is) ∙ here)))

    -- ---- the whole plan

    module _ (apart : HasWaysApart p) (cells : HasItsCells p l) where
      asked-is : (b : BoundaryBit) (k : ℕ) (o : Standing) → IsNumber p b k o → o.asked ≡ record { bit = b; number = k; operator = o.asked.operator }
      asked-is b k o n = λ i. record { bit = n.bit i; number = n.number i; operator = o.asked.operator }

      path-of : (w : Way) (b : BoundaryBit) → bit_of_way p.structure p.intent w ≡ Some b → (k : ℕ) (o : Standing) → slice_get (on_way (plan p l).operators w) k ≡ Some o → operator_path p (record { bit = b; number = k; operator = o.asked.operator }) ≡ Some o.path
      path-of w b e k o is =
          ap (operator_path p) (sym (asked-is b k o (numbers p l apart cells w b e k o is)))
          ∙ path-at o.asked (operator_path p o.asked) o (of-standing p l apart cells w b e k o is)

      behind-by : (b : BoundaryBit) (o : Standing) → o.asked.bit ≡ b → is_behind o ≡ same_bool (is_input b.port) (same_path o.path b.path)
      behind-by b o is = ap (λ (c : BoundaryBit). same_bool (is_input c.port) (same_path o.path c.path)) is

      pub in-plan : IsInFlow (plan p l).operators
      in-plan w k o next one two behind = by (bit_of_way p.structure p.intent w) refl
        where
          by : (c : Option BoundaryBit) → bit_of_way p.structure p.intent w ≡ c → is_behind next ≡ true
          by None e = let none : slice_get (standing_of p l None) k ≡ Some o = ap (λ r. slice_get r k) (sym (way-of-plan p l apart w ∙ ap (standing_of p l) e)) ∙ one in absurd cc
          by (Some b) e =
              let first = numbers p l apart cells w b e k o one in
              let second = numbers p l apart cells w b e (suc k) next two in
              behind-by b next second.bit
              ∙ bit-flow b (bit-in p l apart cells w b e) k o.asked.operator next.asked.operator o.path next.path
              (record { first_is = first.operator; next_is = second.operator; first_at = path-of w b e k o one; next_at = path-of w b e (suc k) next two })
              (is_input b.port) refl (sym (behind-by b o first.bit) ∙ behind)

-- ---- those that are done

front-get : {A : Type 0} (xs ys : List A) (k : ℕ) (x : A) → slice_get xs k ≡ Some x → slice_get (xs ++ ys) k ≡ Some x
front-get [] ys k x e = absurd cc
front-get (y ∷ xs) ys zero x e = e
front-get (y ∷ xs) ys (suc k) x e = front-get xs ys k x e

pub in-done : (all done : List Standing) → AreFirst all done → IsInFlow all → IsInFlow done
in-done all done front flows w k o next one two =
    let rest = front w in
    flows w k o next
    (ap (λ r. slice_get r k) rest.1 ∙ front-get (on_way done w) rest.0 k o one)
    (ap (λ r. slice_get r (suc k)) rest.1 ∙ front-get (on_way done w) rest.0 (suc k) next two)
