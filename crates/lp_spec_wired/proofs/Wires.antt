-- The wires that operators make have names of their own.
use Rattle.std.proofs.Common.{◌≡◌, ◌⊎◌, ◌<◌, ◌≤◌, ◌^◌, ℕ, zero, suc, ◌+◌, ◌-◌, Bool, true, false, not, ◌&&◌, cond, List, [], ◌∷◌, ◌++◌, map, length, take, Option, Some, None, inl, inr, refl, sym, ◌∙◌, ap, subst, arith}
use Rattle.std.specs.Prelude.{filter, slice_get, if◌then◌else◌, unwrap_or}
use Rattle.std.specs.List.{list_any}
use Rattle.std.proofs.lemmas.Bool.{both_ways}
use Rattle.lp_model.specs.NetlistView.{BitView, NetBit}
use Rattle.lp_spec_design.specs.Keys.{Name, Path, same_path, same_bool, Node, Inner, Outer, Fixed, Way, PortBit, same_way}
use Rattle.lp_spec_design.specs.Netlists.{first, upward, is_input}
use Rattle.lp_spec_design.specs.Domains.{BoundaryBit, boundary, way_of}
use Rattle.lp_spec_design.specs.Reads.{path-true, path-self, one, other, both}
use Rattle.lp_spec_design.specs.Winners.{IsIn}
use Rattle.lp_spec_design.proofs.Members.{of-filter}
use Rattle.lp_spec_realises.specs.Projects.{Project}
use Rattle.lp_spec_faults.specs.Modules.{is_own}
use Rattle.lp_spec_written.specs.Places.{instances, Standing}
use Rattle.lp_spec_written.specs.Nets.{Stretch, stretches, operators_there, net_count, leads_constant, is_constant, stood, is_inside, bit_of, chain_net, net_bits, nets_of, far, links, renamed}
use Rattle.lp_spec_written.specs.Written.{Additions}
use Rattle.lp_spec_hub.specs.Spots.{Behind, Before, Lead, on_way, is_behind, own_spot}
use Rattle.lp_spec_wired.specs.Names.{is_stretch, place_on, node_at, name_at, name_on, name_before, name_behind, name_by}
use Rattle.lp_spec_wired.specs.Laws.{HasChains, HasOneBit, LeadsAreApart, LeadsAreNotMade, OperatorWiresAreApart}
use Rattle.lp_spec_wired.proofs.Added.{chain-own}
use Rattle.lp_spec_wired.proofs.Lists.{first-there}
use Rattle.lp_spec_wired.proofs.Intervals.{nets-apart}
use Rattle.lp_spec_wired.proofs.Chains.{in-filter, way-true, way-self, is-of, has-stretch, net-at, not-zero, and-none}
use Rattle.lp_spec_wired.proofs.Kept.{filter-both, get-left, get-next, inner-links, own-node}

-- ---- places in a list

module _ {A : Type 0} (q : A → Bool) where
  -- so many pass before one that passes
  place-below : (xs : List A) (k : ℕ) (o : A) → slice_get xs k ≡ Some o → q o ≡ true → length (filter q (take k xs)) < length (filter q xs)
  place-below [] k o e t = absurd cc
  place-below (z ∷ xs) zero o e t = let same : z ≡ o = cc in
      subst (λ b. 0 < length (cond b (z ∷ filter q xs) (filter q xs))) (sym (ap q same ∙ t)) (omega arith)
  place-below (z ∷ xs) (suc k) o e t = by (q z) (place-below xs k o e t)
    where
      by : (b : Bool) → length (filter q (take k xs)) < length (filter q xs) → length (cond b (z ∷ filter q (take k xs)) (filter q (take k xs))) < length (cond b (z ∷ filter q xs) (filter q xs))
      by true h = omega (arith, h)
      by false h = h

  -- two that pass with as many before them stand at one place
  place-one : (xs : List A) (k l : ℕ) (o r : A) → slice_get xs k ≡ Some o → slice_get xs l ≡ Some r → q o ≡ true → q r ≡ true → length (filter q (take k xs)) ≡ length (filter q (take l xs)) → k ≡ l
  place-one [] k l o r e f t u same = absurd cc
  place-one (z ∷ xs) zero zero o r e f t u same = refl
  place-one (z ∷ xs) zero (suc l) o r e f t u same =
      let is : z ≡ o = cc in
      let more : 0 ≡ suc (length (filter q (take l xs))) = same ∙ ap (λ b. length (cond b (z ∷ filter q (take l xs)) (filter q (take l xs)))) (ap q is ∙ t) in
      absurd (omega (arith, more))
  place-one (z ∷ xs) (suc k) zero o r e f t u same =
      let is : z ≡ r = cc in
      let more : 0 ≡ suc (length (filter q (take k xs))) = sym same ∙ ap (λ b. length (cond b (z ∷ filter q (take k xs)) (filter q (take k xs)))) (ap q is ∙ u) in
      absurd (omega (arith, more))
  place-one (z ∷ xs) (suc k) (suc l) o r e f t u same = ap (λ n. suc n) (place-one xs k l o r e f t u (by (q z) same))
    where
      by : (b : Bool) → length (cond b (z ∷ filter q (take k xs)) (filter q (take k xs))) ≡ length (cond b (z ∷ filter q (take l xs)) (filter q (take l xs))) → length (filter q (take k xs)) ≡ length (filter q (take l xs))
      by true h = omega (arith, h)
      by false h = h

map-long : {A B : Type 0} (f : A → B) (xs : List A) → length (map f xs) ≡ length xs
map-long f [] = refl
map-long f (x ∷ xs) = ap (λ n. suc n) (map-long f xs)

upward-long : (c k : ℕ) → length (upward c k) ≡ c
upward-long zero k = refl
upward-long (suc c) k = ap (λ n. suc n) (upward-long c (k + 1))

nets-long : (s : Stretch) → length (net_bits s) ≡ s.count
nets-long s = map-long (λ n. NetBit n ∷ []) (nets_of s) ∙ (map-long chain_net (upward s.count s.start) ∙ upward-long s.count s.start)

-- ---- nodes

abbrev pub node_name : Node → Name
node_name (Inner n i x) = n
node_name (Outer n i) = n
node_name (Fixed b) = []

abbrev pub node_index : Node → Option ℕ
node_index (Inner n i x) = i
node_index (Outer n i) = i
node_index (Fixed b) = None

abbrev pub node_path : Node → Path
node_path (Inner n i x) = x
node_path (Outer n i) = []
node_path (Fixed b) = []

-- ---- what a place of a stretch has

-- the place of the operator that makes a net, and of the one that has the port's own bit
abbrev maker : Project → Stretch → ℕ → ℕ
maker p s j =
    if is_input s.bit.port then (if is_inside s.path s.bit then suc j else if leads_constant p.structure s.path s.bit then j - 1 else j)
    else if is_inside s.path s.bit then j - 1 else j

abbrev port_maker : BoundaryBit → ℕ → ℕ
port_maker b count = if is_input b.port then 0 else count - 1

-- the number of the net that takes the place of the bit
abbrev pub near_number : Stretch → ℕ
near_number s = if is_input s.bit.port then (s.start + s.count) - 1 else s.start

pub record AsNet (p : Project) (s : Stretch) (place : ℕ) (k : Node) : Type 0 where
  pub net : ℕ
  pub less : net < s.count
  pub is : k ≡ Inner (chain_net (s.start + net)) None s.path
  pub made : place ≡ maker p s net
  pub off : is_inside s.path s.bit ≡ true → s.start + net ≡ near_number s → ⊥
  pub later : leads_constant p.structure s.path s.bit ≡ true → 0 < net

pub record AsPort (s : Stretch) (place : ℕ) (k : Node) : Type 0 where
  pub within : is_inside s.path s.bit ≡ true
  pub is : k ≡ Inner s.bit.port.name s.bit.index s.path
  pub made : place ≡ port_maker s.bit s.count

-- the place in the links of what an operator makes
abbrev pub made_at : Stretch → ℕ → ℕ
made_at s place = if same_bool (is_input s.bit.port) (is_inside s.path s.bit) then place else suc place

module _ (p : Project) (all : List Stretch) (s : Stretch) (place : ℕ) (many : (t : Bool) → leads_constant p.structure s.path s.bit ≡ t → s.count ≡ (if t then length s.operators + 1 else length s.operators)) (low : place < length s.operators) where
  abbrev at : ℕ → Node
  at m = node_at s.path (unwrap_or (slice_get (links p all s) m) [])

  links-by : (b c : Bool) → is_input s.bit.port ≡ b → leads_constant p.structure s.path s.bit ≡ c → links p all s ≡ (if b then (if c then net_bits s else far p all s ∷ net_bits s) else net_bits s ++ (far p all s ∷ []))
  links-by b c input lead =
      ap (λ t. if t then (if leads_constant p.structure s.path s.bit then net_bits s else far p all s ∷ net_bits s) else net_bits s ++ (far p all s ∷ [])) input
      ∙ ap (λ t. if b then (if t then net_bits s else far p all s ∷ net_bits s) else net_bits s ++ (far p all s ∷ [])) lead

  maker-by : (b d c : Bool) → is_input s.bit.port ≡ b → is_inside s.path s.bit ≡ d → leads_constant p.structure s.path s.bit ≡ c → (j : ℕ)
      → maker p s j ≡ (if b then (if d then suc j else if c then j - 1 else j) else if d then j - 1 else j)
  maker-by b d c input within lead j =
      ap (λ t. if t then (if is_inside s.path s.bit then suc j else if leads_constant p.structure s.path s.bit then j - 1 else j) else if is_inside s.path s.bit then j - 1 else j) input
      ∙ (ap (λ t. if b then (if t then suc j else if leads_constant p.structure s.path s.bit then j - 1 else j) else if t then j - 1 else j) within
      ∙ ap (λ t. if b then (if d then suc j else if t then j - 1 else j) else if d then j - 1 else j) lead)

  at-is : (b d : Bool) → is_input s.bit.port ≡ b → is_inside s.path s.bit ≡ d → made_at s place ≡ (if same_bool b d then place else suc place)
  at-is b d input within = ap (λ t. if same_bool t (is_inside s.path s.bit) then place else suc place) input ∙ ap (λ t. if same_bool b t then place else suc place) within

  net-node : (l : List (List BitView)) (m j : ℕ) → links p all s ≡ l → slice_get l m ≡ Some (NetBit (chain_net (s.start + j)) ∷ []) → at m ≡ Inner (chain_net (s.start + j)) None s.path
  net-node l m j is e = ap (λ v. node_at s.path (unwrap_or (slice_get v m) [])) is ∙ ap (λ v. node_at s.path (unwrap_or v [])) e

  own-bit : is_inside s.path s.bit ≡ true → far p all s ≡ bit_of s.bit.port.name s.bit.index ∷ []
  own-bit within = ap (λ b. if b then bit_of s.bit.port.name s.bit.index ∷ [] else map (renamed all s.path) (stood p.structure s.bit)) within

  port-node : (l : List (List BitView)) (m : ℕ) → links p all s ≡ l → slice_get l m ≡ Some (bit_of s.bit.port.name s.bit.index ∷ []) → at m ≡ Inner s.bit.port.name s.bit.index s.path
  port-node l m is e = ap (λ v. node_at s.path (unwrap_or (slice_get v m) [])) is ∙ (ap (λ v. node_at s.path (unwrap_or v [])) e ∙ own-node s.bit.port.name s.bit.index s.path)

  no-constant : (b d : Bool) → is_input s.bit.port ≡ b → is_inside s.path s.bit ≡ d → (b && not d) ≡ false → leads_constant p.structure s.path s.bit ≡ false
  no-constant false d input within e = ap (λ t. t && (not (is_inside s.path s.bit) && list_any is_constant (stood p.structure s.bit))) input
  no-constant true true input within e = ap (λ t. is_input s.bit.port && (not t && list_any is_constant (stood p.structure s.bit))) within ∙ and-none (is_input s.bit.port)
  no-constant true false input within e = absurd cc

  abbrev Made : ℕ → Type 0
  Made m = AsNet p s place (at m) ⊎ AsPort s place (at m)

  -- inside an input
  input-inside : (n : ℕ) → place ≡ n → is_input s.bit.port ≡ true → is_inside s.path s.bit ≡ true → Made n
  input-inside zero is input within = inr (record {
    within = within;
    is = port-node _ 0 (inner-links p all s input within) refl;
    made = is ∙ sym (ap (λ t. if t then 0 else s.count - 1) input);
  })
  input-inside (suc n) is input within =
      let lead = no-constant true true input within refl in
      let count = many false lead in
      let small : n < s.count = omega (arith, is, count, low) in
      inl (record {
        net = n;
        less = small;
        is = net-node _ (suc n) n (inner-links p all s input within) (net-at s n (s.start + n) small refl);
        made = is ∙ sym (maker-by true true false input within lead n);
        off = λ h eq. let last : near_number s ≡ (s.start + s.count) - 1 = ap (λ t. if t then (s.start + s.count) - 1 else s.start) input in omega (arith, eq, last, is, count, low);
        later = λ h. absurd (both_ways (leads_constant p.structure s.path s.bit) lead h);
      })

  input-outside : (c : Bool) → is_input s.bit.port ≡ true → is_inside s.path s.bit ≡ false → leads_constant p.structure s.path s.bit ≡ c → Made (suc place)
  input-outside true input within lead =
      let count = many true lead in
      let small : suc place < s.count = omega (arith, count, low) in
      inl (record {
        net = suc place;
        less = small;
        is = net-node _ (suc place) (suc place) (links-by true true input lead) (net-at s (suc place) (s.start + suc place) small refl);
        made = sym (maker-by true false true input within lead (suc place) ∙ (omega arith));
        off = λ h eq. both_ways (is_inside s.path s.bit) within h;
        later = λ h. omega arith;
      })
  input-outside false input within lead =
      let count = many false lead in
      let small : place < s.count = omega (arith, count, low) in
      inl (record {
        net = place;
        less = small;
        is = net-node _ (suc place) place (links-by true false input lead) (net-at s place (s.start + place) small refl);
        made = sym (maker-by true false false input within lead place);
        off = λ h eq. both_ways (is_inside s.path s.bit) within h;
        later = λ h. absurd (both_ways (leads_constant p.structure s.path s.bit) lead h);
      })

  output-outside : is_input s.bit.port ≡ false → is_inside s.path s.bit ≡ false → Made place
  output-outside input within =
      let lead = no-constant false false input within refl in
      let count = many false lead in
      let small : place < s.count = omega (arith, count, low) in
      inl (record {
        net = place;
        less = small;
        is = net-node _ place place (links-by false false input lead) (get-left (net_bits s) (far p all s ∷ []) place _ (net-at s place (s.start + place) small refl));
        made = sym (maker-by false false false input within lead place);
        off = λ h eq. both_ways (is_inside s.path s.bit) within h;
        later = λ h. absurd (both_ways (leads_constant p.structure s.path s.bit) lead h);
      })

  output-inside : (suc place < s.count) ⊎ (s.count ≡ suc place) → is_input s.bit.port ≡ false → is_inside s.path s.bit ≡ true → Made (suc place)
  output-inside (inl small) input within =
      let lead = no-constant false true input within refl in
      inl (record {
        net = suc place;
        less = small;
        is = net-node _ (suc place) (suc place) (links-by false false input lead) (get-left (net_bits s) (far p all s ∷ []) (suc place) _ (net-at s (suc place) (s.start + suc place) small refl));
        made = sym (maker-by false true false input within lead (suc place) ∙ (omega arith));
        off = λ h eq. let first_net : near_number s ≡ s.start = ap (λ t. if t then (s.start + s.count) - 1 else s.start) input in omega (arith, eq, first_net);
        later = λ h. absurd (both_ways (leads_constant p.structure s.path s.bit) lead h);
      })
  output-inside (inr last) input within =
      let lead = no-constant false true input within refl in
      inr (record {
        within = within;
        is = port-node _ (suc place) (links-by false false input lead)
            (ap (slice_get (net_bits s ++ (far p all s ∷ []))) (sym (nets-long s ∙ last)) ∙ (get-next (net_bits s) [] (far p all s) ∙ ap (λ b. Some b) (own-bit within)));
        made = sym (ap (λ t. if t then 0 else s.count - 1) input ∙ (ap (λ c. c - 1) last ∙ (omega arith)));
      })

  far-or-next : (c n : ℕ) → suc n ≤ c → (suc n < c) ⊎ (c ≡ suc n)
  far-or-next zero n h = absurd (omega (arith, h))
  far-or-next (suc zero) zero h = inr refl
  far-or-next (suc (suc c)) zero h = inl (omega arith)
  far-or-next (suc c) (suc n) h = elim (far-or-next c n (omega (arith, h))) [ inl l ↦ inl (omega (arith, l)) | inr r ↦ inr (ap (λ k. suc k) r) ]

  makes : Made (made_at s place)
  makes = by (is_input s.bit.port) (is_inside s.path s.bit) refl refl
    where
      by : (b d : Bool) → is_input s.bit.port ≡ b → is_inside s.path s.bit ≡ d → Made (made_at s place)
      by true true input within = subst Made (sym (at-is true true input within)) (input-inside place refl input within)
      by true false input within = subst Made (sym (at-is true false input within)) (input-outside (leads_constant p.structure s.path s.bit) input within refl)
      by false true input within =
          let count = many false (no-constant false true input within refl) in
          subst Made (sym (at-is false true input within)) (output-inside (far-or-next s.count place (omega (arith, count, low))) input within)
      by false false input within = subst Made (sym (at-is false false input within)) (output-outside input within)

-- ---- the wire of an operator

module _ (p : Project) (a : Additions) (has : HasChains p a) (stand : (o : Standing) → IsIn o a.plan.operators → IsIn o.path (instances p)) (one_bit : HasOneBit p) where
  abbrev chains : List Stretch
  chains = stretches p a.plan

  abbrev here : Way → List Standing
  here w = on_way a.plan.operators w

  pub record Own (w : Way) (k : ℕ) (o : Standing) : Type 0 where
    pub s : Stretch
    pub listed : IsIn s chains
    pub found : first (is_stretch w o.path) chains ≡ Some s
    pub way_is : way_of s.bit ≡ w
    pub path_is : s.path ≡ o.path
    pub bit_is : o.asked.bit ≡ s.bit
    pub low : place_on (here w) k o.path < length s.operators

  get-in : (xs : List Standing) (k : ℕ) (o : Standing) → slice_get xs k ≡ Some o → IsIn o xs
  get-in [] k o e = absurd cc
  get-in (z ∷ xs) zero o e = let same : o ≡ z = cc in inl same
  get-in (z ∷ xs) (suc k) o e = inr (get-in xs k o e)

  pub own : (w : Way) (k : ℕ) (o : Standing) → slice_get (here w) k ≡ Some o → Own w k o
  own w k o e =
      let on = of-filter (λ (r : Standing). same_way (way_of r.asked.bit) w) o a.plan.operators (get-in (here w) k o e) in
      let its : way_of o.asked.bit ≡ w = way-true (way_of o.asked.bit) w on.1 in
      let stands : IsIn o (operators_there a.plan o.path o.asked.bit) = in-filter (λ (v : Standing). same_path v.path o.path && same_way (way_of v.asked.bit) (way_of o.asked.bit)) a.plan.operators o on.0
      (both (same_path o.path o.path) (same_way (way_of o.asked.bit) (way_of o.asked.bit)) (path-self o.path) (way-self o.asked.bit.path o.asked.bit.port.name o.asked.bit.index)) in
      let some = has-stretch p a.plan o.path o.asked.bit (stand o on.0) (has.bits o on.0) o stands in
      let it = first-there (is_stretch w o.path) chains some.0 some.1
      (both (same_path some.0.path o.path) (same_way (way_of some.0.bit) w) (ap (λ z. same_path z o.path) some.3 ∙ path-self o.path) (ap (λ (b : BoundaryBit). same_way (way_of b) w) some.2 ∙ on.1)) in
      let path : it.0.path ≡ o.path = path-true it.0.path o.path (one (same_path it.0.path o.path) _ it.2) in
      let way : way_of it.0.bit ≡ w = way-true (way_of it.0.bit) w (other (same_path it.0.path o.path) _ it.2) in
      let are : it.0.operators ≡ filter (λ (r : Standing). same_path r.path o.path) (here w) =
      (is-of p a.plan it.0 it.1).0.operators
      ∙ (ap (λ y. filter (λ (r : Standing). same_path r.path y && same_way (way_of r.asked.bit) (way_of it.0.bit)) a.plan.operators) path
      ∙ (ap (λ v. filter (λ (r : Standing). same_path r.path o.path && same_way (way_of r.asked.bit) v) a.plan.operators) way
      ∙ filter-both (λ (r : Standing). same_path r.path o.path) (λ (r : Standing). same_way (way_of r.asked.bit) w) a.plan.operators)) in
      record {
        s = it.0;
        listed = it.1;
        found = it.3;
        way_is = way;
        path_is = path;
        bit_is = one_bit.one o.asked.bit it.0.bit (has.bits o on.0) (is-of p a.plan it.0 it.1).0.bit (its ∙ sym way);
        low = subst (λ l. place_on (here w) k o.path < length l) (sym are) (place-below (λ (r : Standing). same_path r.path o.path) (here w) k o e (path-self o.path));
      }

  count-is : (s : Stretch) → IsIn s chains → 0 < length s.operators → (t : Bool) → leads_constant p.structure s.path s.bit ≡ t → s.count ≡ (if t then length s.operators + 1 else length s.operators)
  count-is s h some t lead =
      (is-of p a.plan s h).0.count
      ∙ (ap (λ b. if b then 0 else if leads_constant p.structure s.path s.bit then length s.operators + 1 else length s.operators) (not-zero (length s.operators) some)
      ∙ ap (λ b. if b then length s.operators + 1 else length s.operators) lead)

  -- the name of an operator's own wire
  pub name-is : (w : Way) (k : ℕ) (o : Standing) → slice_get (here w) k ≡ Some o → (v : Own w k o)
      → name_by p a (own_spot w k o) ≡ node_at v.s.path (unwrap_or (slice_get (links p a.chains v.s) (made_at v.s (place_on (here w) k o.path))) [])
  name-is w k o e v = by (is_behind o) refl
    where
      place : ℕ
      place = place_on (here w) k o.path

      behind-is : is_behind o ≡ same_bool (is_input v.s.bit.port) (is_inside v.s.path v.s.bit)
      behind-is = ap (λ (b : BoundaryBit). same_bool (is_input b.port) (is_inside o.path b)) v.bit_is ∙ ap (λ y. same_bool (is_input v.s.bit.port) (is_inside y v.s.bit)) (sym v.path_is)

      on-is : (m : ℕ) → name_on p a.chains w o.path m ≡ node_at v.s.path (unwrap_or (slice_get (links p a.chains v.s) m) [])
      on-is m = ap (name_at p a.chains o.path m) (ap (first (is_stretch w o.path)) has.chains ∙ v.found) ∙ ap (λ y. node_at y (unwrap_or (slice_get (links p a.chains v.s) m) [])) (sym v.path_is)

      by : (b : Bool) → is_behind o ≡ b → name_by p a (own_spot w k o) ≡ node_at v.s.path (unwrap_or (slice_get (links p a.chains v.s) (made_at v.s place)) [])
      by true is =
          ap (λ b. name_by p a (if b then Before w k else Behind w k)) is
          ∙ (ap (name_before p a.chains (here w) w k) e
          ∙ (on-is place
          ∙ ap (λ b. node_at v.s.path (unwrap_or (slice_get (links p a.chains v.s) (if b then place else suc place)) [])) (sym is ∙ behind-is)))
      by false is =
          ap (λ b. name_by p a (if b then Before w k else Behind w k)) is
          ∙ (ap (name_behind p a.chains (here w) w k) e
          ∙ (on-is (suc place)
          ∙ ap (λ b. node_at v.s.path (unwrap_or (slice_get (links p a.chains v.s) (if b then place else suc place)) [])) (sym is ∙ behind-is)))

  -- the net bit of its wire is a net of its stretch, or the port's own
  abbrev pub made_node : (w : Way) (k : ℕ) (o : Standing) → slice_get (here w) k ≡ Some o → Node
  made_node w k o e = node_at (own w k o e).s.path (unwrap_or (slice_get (links p a.chains (own w k o e).s) (made_at (own w k o e).s (place_on (here w) k o.path))) [])

  pub made-is : (w : Way) (k : ℕ) (o : Standing) (e : slice_get (here w) k ≡ Some o)
      → AsNet p (own w k o e).s (place_on (here w) k o.path) (made_node w k o e) ⊎ AsPort (own w k o e).s (place_on (here w) k o.path) (made_node w k o e)
  made-is w k o e =
      let low = (own w k o e).low in
      makes p a.chains (own w k o e).s (place_on (here w) k o.path) (count-is (own w k o e).s (own w k o e).listed (omega (arith, low))) low

  module _ (few : (s : Stretch) → IsIn s chains → s.start + s.count ≤ 2 ^ 64) (free : (b : BoundaryBit) → IsIn b (boundary p.structure p.intent) → is_own b.port.name ≡ false)
      (w v : Way) (k l : ℕ) (o r : Standing) (e : slice_get (here w) k ≡ Some o) (f : slice_get (here v) l ≡ Some r) (same : name_by p a (own_spot w k o) ≡ name_by p a (own_spot v l r)) where
    abbrev its : Own w k o
    its = own w k o e

    abbrev other_one : Own v l r
    other_one = own v l r f

    abbrev left_node : Node
    left_node = node_at its.s.path (unwrap_or (slice_get (links p a.chains its.s) (made_at its.s (place_on (here w) k o.path))) [])

    abbrev right_node : Node
    right_node = node_at other_one.s.path (unwrap_or (slice_get (links p a.chains other_one.s) (made_at other_one.s (place_on (here v) l r.path))) [])

    nodes : left_node ≡ right_node
    nodes = sym (name-is w k o e its) ∙ (same ∙ name-is v l r f other_one)

    left : AsNet p its.s (place_on (here w) k o.path) left_node ⊎ AsPort its.s (place_on (here w) k o.path) left_node
    left = made-is w k o e

    right : AsNet p other_one.s (place_on (here v) l r.path) right_node ⊎ AsPort other_one.s (place_on (here v) l r.path) right_node
    right = made-is v l r f

    -- at one place of one instance on one way
    joined : w ≡ v → o.path ≡ r.path → place_on (here w) k o.path ≡ place_on (here v) l r.path → (w ≡ v) × (k ≡ l)
    joined way path place = (
      way,
      place-one (λ (z : Standing). same_path z.path o.path) (here w) k l o r e
          (ap (λ u. slice_get (here u) l) way ∙ f) (path-self o.path) (ap (same_path r.path) path ∙ path-self r.path)
          (place ∙ (ap (λ u. place_on (here u) l r.path) (sym way) ∙ ap (place_on (here w) l) (sym path))),
    )

    mixed : (s t : Stretch) → IsIn t chains → (j : ℕ) (x y : Node) → x ≡ Inner (chain_net (s.start + j)) None s.path → y ≡ Inner t.bit.port.name t.bit.index t.path → x ≡ y → ⊥
    mixed s t h j x y is too eq =
        let names : chain_net (s.start + j) ≡ t.bit.port.name = ap node_name (sym is ∙ (eq ∙ too)) in
        both_ways (is_own t.bit.port.name) (free t.bit (is-of p a.plan t h).0.bit) (ap is_own (sym names) ∙ chain-own (s.start + j))

    by-nets : AsNet p its.s (place_on (here w) k o.path) left_node → AsNet p other_one.s (place_on (here v) l r.path) right_node → (w ≡ v) × (k ≡ l)
    by-nets x y =
        let eq : Inner (chain_net (its.s.start + x.net)) None its.s.path ≡ Inner (chain_net (other_one.s.start + y.net)) None other_one.s.path = sym x.is ∙ (nodes ∙ y.is) in
        let low = x.less in
        let less = y.less in
        let limit = few its.s its.listed in
        let bound = few other_one.s other_one.listed in
        let found = nets-apart p a.plan its.s other_one.s its.listed other_one.listed (ap node_path eq) (its.s.start + x.net) (other_one.s.start + y.net)
        (record { above = omega arith; below = omega (arith, low) }) (record { above = omega arith; below = omega (arith, less) })
        (omega (arith, low, limit)) (omega (arith, less, bound)) (ap node_name eq) in
        let start : its.s.start ≡ other_one.s.start = ap (λ (s : Stretch). s.start) found.0 in
        let number = found.1 in
        let net : x.net ≡ y.net = omega (arith, start, number) in
        joined (sym its.way_is ∙ (ap (λ (s : Stretch). way_of s.bit) found.0 ∙ other_one.way_is)) (sym its.path_is ∙ (ap (λ (s : Stretch). s.path) found.0 ∙ other_one.path_is))
        (x.made ∙ (ap (λ s. maker p s x.net) found.0 ∙ (ap (maker p other_one.s) net ∙ sym y.made)))

    by-ports : AsPort its.s (place_on (here w) k o.path) left_node → AsPort other_one.s (place_on (here v) l r.path) right_node → (w ≡ v) × (k ≡ l)
    by-ports x y =
        let eq : Inner its.s.bit.port.name its.s.bit.index its.s.path ≡ Inner other_one.s.bit.port.name other_one.s.bit.index other_one.s.path = sym x.is ∙ (nodes ∙ y.is) in
        let paths : its.s.path ≡ other_one.s.path = ap node_path eq in
        let below : its.s.bit.path ≡ other_one.s.bit.path = sym (path-true its.s.path its.s.bit.path x.within) ∙ (paths ∙ path-true other_one.s.path other_one.s.bit.path y.within) in
        let ways : way_of its.s.bit ≡ way_of other_one.s.bit = ap (λ z. PortBit z its.s.bit.port.name its.s.bit.index) below
        ∙ (ap (λ n. PortBit other_one.s.bit.path n its.s.bit.index) (ap node_name eq) ∙ ap (PortBit other_one.s.bit.path other_one.s.bit.port.name) (ap node_index eq)) in
        let bits : its.s.bit ≡ other_one.s.bit = one_bit.one its.s.bit other_one.s.bit (is-of p a.plan its.s its.listed).0.bit (is-of p a.plan other_one.s other_one.listed).0.bit ways in
        let counts : its.s.count ≡ other_one.s.count = count-by its.s its.listed
        ∙ (ap (λ z. net_count p.structure z its.s.bit (length (operators_there a.plan z its.s.bit))) paths
        ∙ (ap (λ b. net_count p.structure other_one.s.path b (length (operators_there a.plan other_one.s.path b))) bits ∙ sym (count-by other_one.s other_one.listed))) in
        joined (sym its.way_is ∙ (ways ∙ other_one.way_is)) (sym its.path_is ∙ (paths ∙ other_one.path_is))
        (x.made ∙ (ap (λ b. port_maker b its.s.count) bits ∙ (ap (port_maker other_one.s.bit) counts ∙ sym y.made)))
      where
        count-by : (s : Stretch) → IsIn s chains → s.count ≡ net_count p.structure s.path s.bit (length (operators_there a.plan s.path s.bit))
        count-by s h = (is-of p a.plan s h).0.count ∙ ap (λ os. net_count p.structure s.path s.bit (length os)) (is-of p a.plan s h).0.operators

    pub apart : (w ≡ v) × (k ≡ l)
    apart = elim left [
      | inl x ↦ elim right [ inl y ↦ by-nets x y | inr y ↦ absurd (mixed its.s other_one.s other_one.listed x.net left_node right_node x.is y.is nodes) ]
      | inr x ↦ elim right [ inl y ↦ absurd (mixed other_one.s its.s its.listed y.net right_node left_node y.is x.is (sym nodes)) | inr y ↦ by-ports x y ]
    ]

-- a constant's own net is that of no operator
module _ (p : Project) (a : Additions) (has : HasChains p a) (stand : (o : Standing) → IsIn o a.plan.operators → IsIn o.path (instances p)) (one_bit : HasOneBit p) (few : (s : Stretch) → IsIn s (stretches p a.plan) → s.start + s.count ≤ 2 ^ 64)
    (w v : Way) (l : ℕ) (o r : Standing) (e : slice_get (on_way a.plan.operators w) 0 ≡ Some o) (f : slice_get (on_way a.plan.operators v) l ≡ Some r) (leads : leads_constant p.structure o.path o.asked.bit ≡ true) where
  pub lead-name : (its : Own p a has stand one_bit w 0 o) → (0 < its.s.count) × (name_by p a (Lead w) ≡ Inner (chain_net (its.s.start + 0)) None its.s.path)
  lead-name its =
      let constant : leads_constant p.structure its.s.path its.s.bit ≡ true = ap (leads_constant p.structure its.s.path) (sym its.bit_is) ∙ (ap (λ y. leads_constant p.structure y o.asked.bit) its.path_is ∙ leads) in
      let input : is_input its.s.bit.port ≡ true = one (is_input its.s.bit.port) _ constant in
      let low = its.low in
      let count = count-is p a has stand one_bit its.s its.listed (omega (arith, low)) true constant in
      let some : 0 < its.s.count = omega (arith, count) in
      let list : links p a.chains its.s ≡ net_bits its.s =
      ap (λ t. if t then (if leads_constant p.structure its.s.path its.s.bit then net_bits its.s else far p a.chains its.s ∷ net_bits its.s) else net_bits its.s ++ (far p a.chains its.s ∷ [])) input
      ∙ ap (λ t. if t then net_bits its.s else far p a.chains its.s ∷ net_bits its.s) constant in (
        some,
        ap (name_before p a.chains (on_way a.plan.operators w) w 0) e
            ∙ (ap (name_at p a.chains o.path 0) (ap (first (is_stretch w o.path)) has.chains ∙ its.found)
            ∙ (ap (λ y. node_at y (unwrap_or (slice_get (links p a.chains its.s) 0) [])) (sym its.path_is)
            ∙ (ap (λ b. node_at its.s.path (unwrap_or (slice_get b 0) [])) list
            ∙ ap (λ b. node_at its.s.path (unwrap_or b [])) (net-at its.s 0 (its.s.start + 0) some refl)))),
      )

  lead-by : (its : Own p a has stand one_bit w 0 o) (theirs : Own p a has stand one_bit v l r) (place : ℕ) (node : Node) → AsNet p theirs.s place node ⊎ AsPort theirs.s place node → name_by p a (Lead w) ≡ node → ⊥
  lead-by its theirs place node (inl y) same =
      let name = lead-name its in
      let eq : Inner (chain_net (its.s.start + 0)) None its.s.path ≡ Inner (chain_net (theirs.s.start + y.net)) None theirs.s.path = sym name.1 ∙ (same ∙ y.is) in
      let some = name.0 in
      let less = y.less in
      let limit = few its.s its.listed in
      let bound = few theirs.s theirs.listed in
      let found = nets-apart p a.plan its.s theirs.s its.listed theirs.listed (ap node_path eq) (its.s.start + 0) (theirs.s.start + y.net)
      (record { above = omega arith; below = omega (arith, some) }) (record { above = omega arith; below = omega (arith, less) })
      (omega (arith, some, limit)) (omega (arith, less, bound)) (ap node_name eq) in
      let start : its.s.start ≡ theirs.s.start = ap (λ (s : Stretch). s.start) found.0 in
      let number = found.1 in
      let constant : leads_constant p.structure theirs.s.path theirs.s.bit ≡ true = ap (λ (s : Stretch). leads_constant p.structure s.path s.bit) (sym found.0)
      ∙ (ap (leads_constant p.structure its.s.path) (sym its.bit_is) ∙ (ap (λ y. leads_constant p.structure y o.asked.bit) its.path_is ∙ leads)) in
      let later = y.later constant in
      omega (arith, start, number, later)
  lead-by its theirs place node (inr y) same =
      let names : chain_net (its.s.start + 0) ≡ theirs.s.bit.port.name = ap node_name (sym (lead-name its).1 ∙ (same ∙ y.is)) in
      both_ways (is_own theirs.s.bit.port.name) (one_bit.free theirs.s.bit (is-of p a.plan theirs.s theirs.listed).0.bit) (ap is_own (sym names) ∙ chain-own (its.s.start + 0))

  pub lead-apart : name_by p a (Lead w) ≡ name_by p a (own_spot v l r) → ⊥
  lead-apart same =
      lead-by (own p a has stand one_bit w 0 o e) (own p a has stand one_bit v l r f) (place_on (on_way a.plan.operators v) l r.path) (made_node p a has stand one_bit v l r f) (made-is p a has stand one_bit v l r f)
      (same ∙ name-is p a has stand one_bit v l r f (own p a has stand one_bit v l r f))

pub leads-not-made : LeadsAreNotMade
leads-not-made p a has stand one_bit few w v l o r e f leads same = lead-apart p a has stand one_bit few w v l o r e f leads same

pub operator-wires-apart : OperatorWiresAreApart
operator-wires-apart p a has stand one_bit few w v k l o r e f same = apart p a has stand one_bit few one_bit.free w v k l o r e f same

pub leads-apart : LeadsAreApart
leads-apart p a has stand one_bit few w v o r e f leads too same =
    let its = own p a has stand one_bit w 0 o e in
    let theirs = own p a has stand one_bit v 0 r f in
    let left = lead-name p a has stand one_bit few w w 0 o o e e leads its in
    let right = lead-name p a has stand one_bit few v v 0 r r f f too theirs in
    let eq : Inner (chain_net (its.s.start + 0)) None its.s.path ≡ Inner (chain_net (theirs.s.start + 0)) None theirs.s.path = sym left.1 ∙ (same ∙ right.1) in
    let some = left.0 in
    let more = right.0 in
    let limit = few its.s its.listed in
    let bound = few theirs.s theirs.listed in
    let found = nets-apart p a.plan its.s theirs.s its.listed theirs.listed (ap node_path eq) (its.s.start + 0) (theirs.s.start + 0)
    (record { above = omega arith; below = omega (arith, some) }) (record { above = omega arith; below = omega (arith, more) })
    (omega (arith, some, limit)) (omega (arith, more, bound)) (ap node_name eq) in
    sym its.way_is ∙ (ap (λ (s : Stretch). way_of s.bit) found.0 ∙ theirs.way_is)
