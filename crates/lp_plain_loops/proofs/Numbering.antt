-- What is noted by numbers: the rows of drivers, and that a row has numbers of nets.
use Rattle.std.proofs.Common.{◌≡◌, ℕ, zero, suc, ◌+◌, ◌<◌, true, false, cond, List, [], ◌∷◌, ◌++◌, length, Option, None, Some, refl, sym, ap, ◌∙◌, subst, arith, take, drop, get_or}
use Rattle.std.specs.Prelude.{map, flat_map, replicate, is_some, slice_set, slice_index_or, All, option_to_list}
use Rattle.std.proofs.lemmas.Bool.{true≢false}
use Rattle.std.proofs.lemmas.List.{drop_more, get_or-map, length-map, map-set}
use Rattle.std.proofs.Math.Seq.{take-append_seam}
use Rattle.lp_order.specs.Order.{ReadsBelow}
use Rattle.lp_text.specs.declared.names.NameId.{NameId}
use Rattle.lp_expr.specs.Formula.{Formula}
use Rattle.lp_model.specs.declared.netlist.Connection.{Connection}
use Rattle.lp_model.specs.declared.netlist.Port.{Port}
use Rattle.lp_model.specs.declared.netlist.Instance.{Instance}
use Rattle.lp_model.specs.declared.netlist.Module.{Module}
use Rattle.lp_model.specs.declared.library.Pin.{Pin}
use Rattle.lp_model.specs.declared.library.Cell.{Cell}
use Rattle.std.specs.List.{AllByRecursion}
use Rattle.lp_spec_plain_module.proofs.Sources.{AllByRecursion-append}
use Rattle.lp_plain_index.specs.Places.{place_of_number}
use Rattle.lp_plain_index.specs.Cells.{cell_numbered}
use Rattle.lp_plain_index.proofs.Numbers.{place-below}
use Rattle.lp_plain_loops.specs.declared.driver.Driver.{Driver}
use Rattle.lp_plain_loops.specs.Rows.{note_at, row_of}
use Rattle.lp_plain_loops.specs.Numbered.{Entry, net_numbers, is_in, is_out, named, net_at, input_at, number_of, if_pin, name_row, function_row, function_at, output_row, driver_row, net_entries, pin_entries, cell_entries, instance_entries, port_entries, note, note_all, noted, rows, shown, all_shown}

pub note_all-append : (nets : List ℕ) (found : List (Option (List ℕ))) (es fs : List Entry) → note_all nets found (es ++ fs) ≡ note_all nets (note_all nets found es) fs
note_all-append nets found [] fs = refl
note_all-append nets found (e ∷ es) fs = note_all-append nets (note nets found e) es fs

-- one item more of a list whose items give entries
pub noting-next : {X : Type 0} (nets : List ℕ) (f : X → List Entry) (xs : List X) (i : ℕ) (d : X) (found after goal_found : List (Option (List ℕ)))
    → i < length xs → after ≡ note_all nets found (f (get_or xs i d)) → note_all nets found (flat_map f (drop i xs)) ≡ goal_found
    → note_all nets after (flat_map f (drop (i + 1) xs)) ≡ goal_found
noting-next nets f xs i d found after goal_found h e before =
    ap (λ g. note_all nets g (flat_map f (drop (i + 1) xs))) e
    ∙ sym (note_all-append nets found (f (get_or xs i d)) (flat_map f (drop (i + 1) xs)))
    ∙ ap (λ rest. note_all nets found (flat_map f rest)) (sym (drop_more xs i d h))
    ∙ before

none_shown : (nets : List ℕ) (o : Option Driver) → is_some o ≡ false → shown nets o ≡ None
none_shown nets None e = refl
none_shown nets (Some d) e = absurd (true≢false e)

-- a driver of a net that has none yet
pub noted_new : (nets : List ℕ) (found : List (Option Driver)) (place : ℕ) (d : Driver) (n : ℕ) (o : Option Driver) → place_of_number n nets ≡ Some place → place < length found → is_some (get_or found place o) ≡ false
    → all_shown nets (slice_set found place (Some d)) ≡ note nets (all_shown nets found) (n, driver_row nets d)
noted_new nets found place d n o e h none =
    let open_place : slice_index_or (all_shown nets found) place None ≡ None = get_or-map (shown nets) found place o None h ∙ none_shown nets (get_or found place o) none in
    map-set (shown nets) found place (Some d)
    ∙ sym (ap (λ z. cond (is_some z) (all_shown nets found) (slice_set (all_shown nets found) place (Some (driver_row nets d)))) open_place)
    ∙ ap (λ r. note_at (all_shown nets found) r (driver_row nets d)) (sym e)

pub taken : {A : Type 0} (xs ys : List A) (n : ℕ) → length xs ≡ n → take n (xs ++ drop (length xs) ys) ≡ xs
taken xs ys n e = subst (λ k. take k (xs ++ drop (length xs) ys) ≡ xs) e (take-append_seam xs (drop (length xs) ys))

pub all_none : (nets : List ℕ) (n : ℕ) → all_shown nets (replicate n None) ≡ replicate n None
all_none nets zero = refl
all_none nets (suc n) = ap (λ r. None ∷ r) (all_none nets n)

-- ---- the numbers of rows

abbrev IsBelow : ℕ → List ℕ → Type 0
IsBelow n row = AllByRecursion (λ b. b < n) row

abbrev FoundBelow : ℕ → List (Option (List ℕ)) → Type 0
FoundBelow n found = AllByRecursion (λ o. IsBelow n (row_of o)) found

abbrev EntriesBelow : ℕ → List Entry → Type 0
EntriesBelow n es = AllByRecursion (λ (e : Entry). IsBelow n e.1) es

module _ (nets : List ℕ) where
  abbrev count : ℕ
  count = length nets

  number_below : (n : ℕ) (r : Option ℕ) → place_of_number n nets ≡ r → IsBelow count (option_to_list r)
  number_below n None e = tt
  number_below n (Some k) e = (place-below n nets k e, tt)

  of_below : (o : Option NameId) → IsBelow count (option_to_list (number_of nets o))
  of_below None = tt
  of_below (Some n) = number_below n.0 (place_of_number n.0 nets) refl

  name_below : (pins : List Pin) (cs : List Connection) (v : NameId) → IsBelow count (name_row nets pins cs v)
  name_below pins cs v = elim (input_at pins v.0) as (λ q. IsBelow count (option_to_list (if_pin q (number_of nets (net_at cs v.0))))) [ None ↦ tt | Some q ↦ of_below (net_at cs v.0) ]

  names_below : (pins : List Pin) (cs : List Connection) (vs : List NameId) → IsBelow count (flat_map (name_row nets pins cs) vs)
  names_below pins cs [] = tt
  names_below pins cs (v ∷ vs) = AllByRecursion-append (λ b. b < count) (name_row nets pins cs v) (flat_map (name_row nets pins cs) vs) (name_below pins cs v) (names_below pins cs vs)

  function_below : (pins : List Pin) (cs : List Connection) (e : Option Formula) → IsBelow count (function_row nets pins cs e)
  function_below pins cs None = tt
  function_below pins cs (Some e) = names_below pins cs e.variables

  net_below : (o : Option NameId) (row : List ℕ) → IsBelow count row → EntriesBelow count (net_entries o row)
  net_below None row h = tt
  net_below (Some n) row h = (h, tt)

  pins_below : (pins : List Pin) (cs : List Connection) (qs : List Pin) → EntriesBelow count (flat_map (pin_entries nets pins cs) qs)
  pins_below pins cs [] = tt
  pins_below pins cs (q ∷ qs) =
      AllByRecursion-append (λ (e : Entry). IsBelow count e.1) (pin_entries nets pins cs q) (flat_map (pin_entries nets pins cs) qs)
      (elim (is_out q.direction) as (λ b. EntriesBelow count (cond b (net_entries (net_at cs q.name.0) (output_row nets pins cs q.name.0)) [])) [
        | true ↦ net_below (net_at cs q.name.0) (output_row nets pins cs q.name.0) (function_below pins cs (function_at pins q.name.0))
        | false ↦ tt
      ])
      (pins_below pins cs qs)

  cell_below : (cs : List Connection) (c : Option Cell) → EntriesBelow count (cell_entries nets cs c)
  cell_below cs None = tt
  cell_below cs (Some c) = pins_below c.pins cs c.pins

  instances_below : (cells : List Cell) (xs : List Instance) → EntriesBelow count (flat_map (instance_entries cells nets) xs)
  instances_below cells [] = tt
  instances_below cells (x ∷ xs) = AllByRecursion-append (λ (e : Entry). IsBelow count e.1) (instance_entries cells nets x) (flat_map (instance_entries cells nets) xs) (cell_below (named x.connections) (cell_numbered cells x.target.0)) (instances_below cells xs)

  ports_below : (ports : List Port) → EntriesBelow count (flat_map port_entries ports)
  ports_below [] = tt
  ports_below (p ∷ ports) =
      AllByRecursion-append (λ (e : Entry). IsBelow count e.1) (port_entries p) (flat_map port_entries ports)
      (elim (is_in p.direction) as (λ b. EntriesBelow count (cond b ((p.name.0, []) ∷ []) [])) [ true ↦ (tt, tt) | false ↦ tt ])
      (ports_below ports)

  set_below : (found : List (Option (List ℕ))) (k : ℕ) (row : List ℕ) → FoundBelow count found → IsBelow count row → FoundBelow count (slice_set found k (Some row))
  set_below [] k row h r = h
  set_below (o ∷ found) zero row h r = (r, h.1)
  set_below (o ∷ found) (suc k) row h r = (h.0, set_below found k row h.1 r)

  at_below : (found : List (Option (List ℕ))) (p : Option ℕ) (row : List ℕ) → FoundBelow count found → IsBelow count row → FoundBelow count (note_at found p row)
  at_below found None row h r = h
  at_below found (Some k) row h r = elim (is_some (slice_index_or found k None)) as (λ b. FoundBelow count (cond b found (slice_set found k (Some row)))) [ true ↦ h | false ↦ set_below found k row h r ]

  note_below : (found : List (Option (List ℕ))) (es : List Entry) → FoundBelow count found → EntriesBelow count es → FoundBelow count (note_all nets found es)
  note_below found [] h r = h
  note_below found (e ∷ es) h r = note_below (note nets found e) es (at_below found (place_of_number e.0 nets) e.1 h r.0) r.1

  none_below : (n : ℕ) → FoundBelow count (replicate n None)
  none_below zero = tt
  none_below (suc n) = (tt, none_below n)

  noted_below : (cells : List Cell) (m : Module) → FoundBelow count (noted cells nets m)
  noted_below cells m = note_below (note_all nets (replicate count None) (flat_map port_entries m.ports)) (flat_map (instance_entries cells nets) m.instances) (note_below (replicate count None) (flat_map port_entries m.ports) (none_below count) (ports_below m.ports)) (instances_below cells m.instances)

-- ---- as many rows as nets

set_length : (found : List (Option (List ℕ))) (k : ℕ) (row : Option (List ℕ)) → length (slice_set found k row) ≡ length found
set_length [] k row = refl
set_length (o ∷ found) zero row = refl
set_length (o ∷ found) (suc k) row = ap suc (set_length found k row)

at_length : (found : List (Option (List ℕ))) (p : Option ℕ) (row : List ℕ) → length (note_at found p row) ≡ length found
at_length found None row = refl
at_length found (Some k) row = elim (is_some (slice_index_or found k None)) as (λ b. length (cond b found (slice_set found k (Some row))) ≡ length found) [ true ↦ refl | false ↦ set_length found k (Some row) ]

note_length : (nets : List ℕ) (found : List (Option (List ℕ))) (es : List Entry) → length (note_all nets found es) ≡ length found
note_length nets found [] = refl
note_length nets found (e ∷ es) = note_length nets (note nets found e) es ∙ at_length found (place_of_number e.0 nets) e.1

none_length : (n : ℕ) → length (replicate {A = Option (List ℕ)} n None) ≡ n
none_length zero = refl
none_length (suc n) = ap suc (none_length n)

rows_length : (cells : List Cell) (m : Module) → length (rows cells m) ≡ length (net_numbers m)
rows_length cells m =
    let nets = net_numbers m in
    length-map (noted cells nets m) row_of
    ∙ note_length nets (note_all nets (replicate (length nets) None) (flat_map port_entries m.ports)) (flat_map (instance_entries cells nets) m.instances)
    ∙ note_length nets (replicate (length nets) None) (flat_map port_entries m.ports)
    ∙ none_length (length nets)

-- from each to all by places
first_or : (n b : ℕ) (row : List ℕ) → b < n → All (λ c. c < n) row → All (λ c. c < n) (b ∷ row)
first_or n b row h rest zero d i = h
first_or n b row h rest (suc k) d i = rest k d (omega arith)

each_all : (n : ℕ) (row : List ℕ) → IsBelow n row → All (λ b. b < n) row
each_all n [] h = λ k d i. absurd (omega arith)
each_all n (b ∷ row) h = first_or n b row h.0 (each_all n row h.1)

first_row : (n : ℕ) (row : List ℕ) (more : List (List ℕ)) → All (λ b. b < n) row → ReadsBelow n more → ReadsBelow n (row ∷ more)
first_row n row more h rest zero d i = h
first_row n row more h rest (suc k) d i = rest k d (omega arith)

found_all : (n : ℕ) (found : List (Option (List ℕ))) → FoundBelow n found → ReadsBelow n (map row_of found)
found_all n [] h = λ k d i. absurd (omega arith)
found_all n (o ∷ found) h = first_row n (row_of o) (map row_of found) (each_all n (row_of o) h.0) (found_all n found h.1)

-- as many drivers as before
pub shown_length : (nets : List ℕ) (found after : List (Option Driver)) (es : List Entry) → all_shown nets after ≡ note_all nets (all_shown nets found) es → length after ≡ length found
shown_length nets found after es e = sym (length-map after (shown nets)) ∙ ap length e ∙ note_length nets (all_shown nets found) es ∙ length-map found (shown nets)

-- each number that a row has is that of a net
pub rows_below : (cells : List Cell) (m : Module) → ReadsBelow (length (rows cells m)) (rows cells m)
rows_below cells m = subst (λ n. ReadsBelow n (rows cells m)) (sym (rows_length cells m)) (found_all (length (net_numbers m)) (noted cells (net_numbers m) m) (noted_below (net_numbers m) cells m))
