-- The two laws: what is read is an intent of the text, and an intent of a text is read.
use Rattle.std.proofs.Common.{◌≡◌, ℕ, ◌-◌, ◌≤◌, Bool, true, false, cond, not, nat_le, List, [], ◌∷◌, ◌++◌, length, take, drop, Option, Some, None, Result, Ok, Err, refl, sym, ap, subst, ◌∙◌, arith, length-append}
use Rattle.std.specs.Prelude.{codes, bytes_eq, IsTrue, IfOk, IfSome}
use Rattle.std.specs.List.{list_all, prefix_len}
use Rattle.std.proofs.lemmas.Bool.{and_parts, leb-true, le-leb}
use Rattle.std.proofs.lemmas.List.{take_at, drop_at, take-append-drop}
use Rattle.std.proofs.lemmas.Option.{cond_some, same_Some}
use Rattle.std.proofs.lemmas.Slice.Eq.{bytes_eq-Decides}
use Rattle.lp_text.specs.Micros.{micros_of}
use Rattle.lp_text.specs.declared.shelf.TheConstants.{LIMIT}
use Rattle.lp_token.specs.Tokens.{is_name_byte}
use Rattle.lp_plain_upf.specs.declared.plain.Intent.{Intent}
use Rattle.lp_plain_upf.specs.Names.{Name}
use Rattle.lp_plain_upf.specs.Names.{is_free_name}
use Rattle.lp_plain_upf.specs.Upf.{IsIntent, intent_text}
use Rattle.lp_plain_upf.specs.Reading.{◌>>=◌, expect_at, before_at, all_at, name_at, named_at, voltage_at, spelled_at, intent_at, power_pieces, gnd_pieces, set_pieces, domain_pieces, state_pieces}

-- the value of a step that did not fail
bind_some : {A B : Type 0} (o : Option A) (f : A → Option B) (y : B) → (o >>= f) ≡ Some y → (x : A) × (o ≡ Some x) × (f x ≡ Some y)
bind_some (Some x) f y e = (x, refl, e)
bind_some None f y e = absurd cc

guard_some : {A : Type 0} (b : Bool) (o : Option A) (y : A) → cond b o None ≡ Some y → b ≡ true
guard_some true o y e = refl
guard_some false o y e = absurd cc

-- pieces in front of a rest
abbrev pub followed : List (List ℕ) → List ℕ → List ℕ
followed [] rest = rest
followed (piece ∷ pieces) rest = piece ++ followed pieces rest

-- ---- one piece

expect_found : (piece bytes rest : List ℕ) → expect_at piece bytes ≡ Some rest → bytes ≡ piece ++ rest
unfolding expect_at
expect_found piece bytes rest e =
    let parts = cond_some (bytes_eq (take (length piece) bytes) piece) (drop (length piece) bytes) rest e in
    let front : take (length piece) bytes ≡ piece = (bytes_eq-Decides (take (length piece) bytes) piece).0 parts.0 in
    sym (take-append-drop (length piece) bytes) ∙ rw (front, parts.1) refl

expect_again : (piece rest : List ℕ) → expect_at piece (piece ++ rest) ≡ Some rest
unfolding expect_at
expect_again piece rest =
    let same : bytes_eq piece piece ≡ true = (bytes_eq-Decides piece piece).1 refl in
    rw (take_at piece rest (length piece) refl, drop_at piece rest (length piece) refl, same) refl

before_found : (piece bytes front : List ℕ) → before_at piece bytes ≡ Some front → bytes ≡ front ++ piece
unfolding before_at
before_found piece bytes front e =
    let at = length bytes - length piece in
    let parts = cond_some (bytes_eq (drop at bytes) piece) (take at bytes) front e in
    let back : drop at bytes ≡ piece = (bytes_eq-Decides (drop at bytes) piece).0 parts.0 in
    sym (take-append-drop at bytes) ∙ rw (back, parts.1) refl

before_again : (piece front : List ℕ) → before_at piece (front ++ piece) ≡ Some front
unfolding before_at
before_again piece front =
    let same : bytes_eq piece piece ≡ true = (bytes_eq-Decides piece piece).1 refl in
    let at : length (front ++ piece) - length piece ≡ length front = omega (arith, length-append front piece) in
    rw (at, take_at front piece (length front) refl, drop_at front piece (length front) refl, same) refl

-- ---- pieces that follow one another

all_found : (pieces : List (List ℕ)) (bytes rest : List ℕ) → all_at pieces bytes ≡ Some rest → bytes ≡ followed pieces rest
unfolding all_at
all_found [] bytes rest e = cc
all_found (piece ∷ pieces) bytes rest e =
    let a = bind_some (expect_at piece bytes) (all_at pieces) rest e in
    expect_found piece bytes a.0 a.1 ∙ ap (λ (x : List ℕ). piece ++ x) (all_found pieces a.0 rest a.2)

all_again : (pieces : List (List ℕ)) (rest : List ℕ) → all_at pieces (followed pieces rest) ≡ Some rest
unfolding all_at
all_again [] rest = refl
all_again (piece ∷ pieces) rest = rw (expect_again piece (followed pieces rest)) (all_again pieces rest)

-- ---- a name

-- the bytes of a name, which a rest ends that begins with none
run-append : (name rest : List ℕ) → list_all is_name_byte name ≡ true → prefix_len is_name_byte rest ≡ 0 → prefix_len is_name_byte (name ++ rest) ≡ length name
run-append [] rest all ends = ends
run-append (b ∷ name) rest all ends =
    let parts = and_parts (is_name_byte b) (list_all is_name_byte name) all in
    rw (parts.0, run-append name rest parts.1 ends) (omega arith)

name_found : (bytes : List ℕ) (x : Name × List ℕ) → name_at bytes ≡ Some x → (bytes ≡ x.0 ++ x.1) × IsTrue (is_free_name x.0)
unfolding name_at
name_found bytes x e =
    let len = prefix_len is_name_byte bytes in
    let read : Name × List ℕ = (take len bytes, drop len bytes) in
    let parts = cond_some (is_free_name (take len bytes)) read x e in
    subst (λ (y : Name × List ℕ). (bytes ≡ y.0 ++ y.1) × IsTrue (is_free_name y.0)) parts.1 (sym (take-append-drop len bytes), parts.0)

name_bytes : (name : Name) → IsTrue (is_free_name name) → list_all is_name_byte name ≡ true
name_bytes name free = (and_parts _ _ (and_parts _ _ free).0).1

name_again : (name rest : List ℕ) → IsTrue (is_free_name name) → prefix_len is_name_byte rest ≡ 0 → name_at (name ++ rest) ≡ Some (name, rest)
unfolding name_at
name_again name rest free ends =
    rw (run-append name rest (name_bytes name free) ends, take_at name rest (length name) refl, drop_at name rest (length name) refl, free) refl

named_found : (pieces : List (List ℕ)) (bytes : List ℕ) (x : Name × List ℕ) → named_at pieces bytes ≡ Some x → (bytes ≡ followed pieces (x.0 ++ x.1)) × IsTrue (is_free_name x.0)
unfolding named_at
named_found pieces bytes x e =
    let a = bind_some (all_at pieces bytes) name_at x e in
    let found = name_found a.0 x a.2 in
    (all_found pieces bytes a.0 a.1 ∙ ap (followed pieces) found.0, found.1)

named_again : (pieces : List (List ℕ)) (name rest : List ℕ) → IsTrue (is_free_name name) → prefix_len is_name_byte rest ≡ 0 → named_at pieces (followed pieces (name ++ rest)) ≡ Some (name, rest)
unfolding named_at
named_again pieces name rest free ends = rw (all_again pieces (name ++ rest)) (name_again name rest free ends)

-- ---- the voltage

voltage_found : (bytes : List ℕ) (v : ℕ) → voltage_at bytes ≡ Some v → (volts : List ℕ) × (bytes ≡ codes " " ++ (volts ++ codes "}\n")) × (micros_of volts ≡ Some v)
unfolding voltage_at
voltage_found bytes v e =
    let a = bind_some (expect_at (codes " ") bytes) (λ rest. before_at (codes "}\n") rest >>= micros_of) v e in
    let b = bind_some (before_at (codes "}\n") a.0) micros_of v a.2 in
    (b.0, expect_found (codes " ") bytes a.0 a.1 ∙ ap (λ (x : List ℕ). codes " " ++ x) (before_found (codes "}\n") a.0 b.0 b.1), b.2)

voltage_again : (volts : List ℕ) (v : ℕ) → micros_of volts ≡ Some v → voltage_at (codes " " ++ (volts ++ codes "}\n")) ≡ Some v
unfolding voltage_at
voltage_again volts v e = rw (expect_again (codes " ") (volts ++ codes "}\n"), before_again (codes "}\n") volts) e

-- ---- the whole text

-- what the steps read
abbrev made : Name → Name → Name → Name → Name → ℕ → Intent
made power gnd set domain state voltage = record { power = power; gnd = gnd; set = set; domain = domain; state = state; voltage = voltage }

spelled_from : (bytes : List ℕ) (power gnd set domain state : Name × List ℕ) (voltage : ℕ)
    → named_at power_pieces bytes ≡ Some power
    → named_at gnd_pieces power.1 ≡ Some gnd
    → named_at (set_pieces power.0 gnd.0) gnd.1 ≡ Some set
    → named_at (domain_pieces power.0 gnd.0) set.1 ≡ Some domain
    → named_at (state_pieces power.0 set.0) domain.1 ≡ Some state
    → voltage_at state.1 ≡ Some voltage
    → IsTrue (not (bytes_eq power.0 gnd.0))
    → spelled_at bytes ≡ Some (made power.0 gnd.0 set.0 domain.0 state.0 voltage)
unfolding spelled_at
spelled_from bytes power gnd set domain state voltage p g s d t v apart = rw (p, g, s, d, t, v, apart) refl

spelled_again : (text : List ℕ) (i : Intent) → IsIntent text i → spelled_at text ≡ Some i
unfolding power_pieces gnd_pieces set_pieces domain_pieces state_pieces
spelled_again text i h =
    let t5 : List ℕ = codes " " ++ (h.volts ++ codes "}\n") in
    let t4 : List ℕ = followed (state_pieces i.power i.set) (i.state ++ t5) in
    let t3 : List ℕ = followed (domain_pieces i.power i.gnd) (i.domain ++ t4) in
    let t2 : List ℕ = followed (set_pieces i.power i.gnd) (i.set ++ t3) in
    let t1 : List ℕ = followed gnd_pieces (i.gnd ++ t2) in
    let p = named_again power_pieces i.power t1 h.power_free refl in
    let g = named_again gnd_pieces i.gnd t2 h.gnd_free refl in
    let s = named_again (set_pieces i.power i.gnd) i.set t3 h.set_free refl in
    let d = named_again (domain_pieces i.power i.gnd) i.domain t4 h.domain_free refl in
    let t = named_again (state_pieces i.power i.set) i.state t5 h.state_free refl in
    let v = voltage_again h.volts i.voltage h.voltage in
    ap spelled_at h.spelled ∙ spelled_from (intent_text i h.volts) (i.power, t1) (i.gnd, t2) (i.set, t3) (i.domain, t4) (i.state, t5) i.voltage p g s d t v h.apart

-- an intent of a text is read
pub intent_again : (text : List ℕ) (i : Intent) → IsIntent text i → intent_at text ≡ Some i
unfolding intent_at
intent_again text i h = rw (le-leb (length text) LIMIT h.within) (spelled_again text i h)

-- the text of the steps, from the last to the first
text_of_steps : (bytes : List ℕ) (power gnd set domain state : Name × List ℕ) (volts : List ℕ)
    → bytes ≡ followed power_pieces (power.0 ++ power.1)
    → power.1 ≡ followed gnd_pieces (gnd.0 ++ gnd.1)
    → gnd.1 ≡ followed (set_pieces power.0 gnd.0) (set.0 ++ set.1)
    → set.1 ≡ followed (domain_pieces power.0 gnd.0) (domain.0 ++ domain.1)
    → domain.1 ≡ followed (state_pieces power.0 set.0) (state.0 ++ state.1)
    → state.1 ≡ codes " " ++ (volts ++ codes "}\n")
    → (voltage : ℕ) → bytes ≡ intent_text (made power.0 gnd.0 set.0 domain.0 state.0 voltage) volts
unfolding power_pieces gnd_pieces set_pieces domain_pieces state_pieces
text_of_steps bytes power gnd set domain state volts p g s d t v voltage =
    p
    ∙ ap (λ (x : List ℕ). followed power_pieces (power.0 ++ x)) (g
    ∙ ap (λ (x : List ℕ). followed gnd_pieces (gnd.0 ++ x)) (s
    ∙ ap (λ (x : List ℕ). followed (set_pieces power.0 gnd.0) (set.0 ++ x)) (d
    ∙ ap (λ (x : List ℕ). followed (domain_pieces power.0 gnd.0) (domain.0 ++ x)) (t
    ∙ ap (λ (x : List ℕ). followed (state_pieces power.0 set.0) (state.0 ++ x)) v))))

-- what the steps behind each name make
abbrev with_voltage : Name → Name → Name → Name → Name → ℕ → Option Intent
with_voltage power gnd set domain state voltage = cond (not (bytes_eq power gnd)) (Some (made power gnd set domain state voltage)) None

abbrev with_state : Name → Name → Name → Name → Name × List ℕ → Option Intent
with_state power gnd set domain state = voltage_at state.1 >>= with_voltage power gnd set domain state.0

abbrev with_domain : Name → Name → Name → Name × List ℕ → Option Intent
with_domain power gnd set domain = named_at (state_pieces power set) domain.1 >>= with_state power gnd set domain.0

abbrev with_set : Name → Name → Name × List ℕ → Option Intent
with_set power gnd set = named_at (domain_pieces power gnd) set.1 >>= with_domain power gnd set.0

abbrev with_gnd : Name → Name × List ℕ → Option Intent
with_gnd power gnd = named_at (set_pieces power gnd.0) gnd.1 >>= with_set power gnd.0

abbrev with_power : Name × List ℕ → Option Intent
with_power power = named_at gnd_pieces power.1 >>= with_gnd power.0

spelled_found : (bytes : List ℕ) (i : Intent) → length bytes ≤ LIMIT → spelled_at bytes ≡ Some i → IsIntent bytes i
unfolding spelled_at
spelled_found bytes i within e =
    let power = bind_some (named_at power_pieces bytes) with_power i e in
    let gnd = bind_some (named_at gnd_pieces power.0.1) (with_gnd power.0.0) i power.2 in
    let set = bind_some (named_at (set_pieces power.0.0 gnd.0.0) gnd.0.1) (with_set power.0.0 gnd.0.0) i gnd.2 in
    let domain = bind_some (named_at (domain_pieces power.0.0 gnd.0.0) set.0.1) (with_domain power.0.0 gnd.0.0 set.0.0) i set.2 in
    let state = bind_some (named_at (state_pieces power.0.0 set.0.0) domain.0.1) (with_state power.0.0 gnd.0.0 set.0.0 domain.0.0) i domain.2 in
    let voltage = bind_some (voltage_at state.0.1) (with_voltage power.0.0 gnd.0.0 set.0.0 domain.0.0 state.0.0) i state.2 in
    let parts = cond_some (not (bytes_eq power.0.0 gnd.0.0)) (made power.0.0 gnd.0.0 set.0.0 domain.0.0 state.0.0 voltage.0) i voltage.2 in
    let p = named_found power_pieces bytes power.0 power.1 in
    let g = named_found gnd_pieces power.0.1 gnd.0 gnd.1 in
    let s = named_found (set_pieces power.0.0 gnd.0.0) gnd.0.1 set.0 set.1 in
    let d = named_found (domain_pieces power.0.0 gnd.0.0) set.0.1 domain.0 domain.1 in
    let t = named_found (state_pieces power.0.0 set.0.0) domain.0.1 state.0 state.1 in
    let v = voltage_found state.0.1 voltage.0 voltage.1 in
    let found : IsIntent bytes (made power.0.0 gnd.0.0 set.0.0 domain.0.0 state.0.0 voltage.0) = record {
      within = within;
      volts = v.0;
      spelled = text_of_steps bytes power.0 gnd.0 set.0 domain.0 state.0 v.0 p.0 g.0 s.0 d.0 t.0 v.1 voltage.0;
      power_free = p.1;
      gnd_free = g.1;
      set_free = s.1;
      domain_free = d.1;
      state_free = t.1;
      apart = parts.0;
      voltage = v.2;
    } in
    subst (λ (j : Intent). IsIntent bytes j) {x = made power.0.0 gnd.0.0 set.0.0 domain.0.0 state.0.0 voltage.0} parts.1 found

-- what is read is an intent of the text
pub intent_found : (text : List ℕ) (i : Intent) → intent_at text ≡ Some i → IsIntent text i
unfolding intent_at
intent_found text i e =
    let within : nat_le (length text) LIMIT ≡ true = guard_some (nat_le (length text) LIMIT) (spelled_at text) i e in
    spelled_found text i (leb-true (length text) LIMIT within) (subst (λ (b : Bool). cond b (spelled_at text) None ≡ Some i) within e)

pub one_intent : (text : List ℕ) (a b : Intent) → IsIntent text a → IsIntent text b → a ≡ b
one_intent text a b p q = same_Some a b (sym (intent_again text a p) ∙ intent_again text b q)

-- ---- what the code returned

pub is_found : {E : Type 0} (text : List ℕ) (r : Result (Option Intent) E) → IfOk r (λ o. o ≡ intent_at text) → IfOk r (λ o. IfSome o (λ i. IsIntent text i))
is_found text (Ok (Some i)) e = intent_found text i (sym e)
is_found text (Ok None) e = tt
is_found text (Err f) e = tt

pub is_only : {E : Type 0} (text : List ℕ) (r : Result (Option Intent) E) → IfOk r (λ o. o ≡ intent_at text) → IfOk r (λ o. (i : Intent) → IsIntent text i → o ≡ Some i)
is_only text (Ok o) e = λ i h. e ∙ intent_again text i h
is_only text (Err f) e = tt
