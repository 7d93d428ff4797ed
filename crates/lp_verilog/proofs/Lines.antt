-- The line of a fault is the same over every table of names.
use Rattle.std.proofs.Common.{◌≡◌, ℕ, ◌≤◌, true, List, [], ◌∷◌, ◌++◌, length, refl, sym, ap, ◌∙◌, inl, inr, arith}
use Rattle.std.specs.Prelude.{unwrap_or}
use Rattle.lp_text.specs.Texts.{has_text, place_of, place_of-Some, text_at, distinct}
use Rattle.lp_text.specs.Places.{place_in}
use Rattle.lp_model.specs.declared.fault.netlist.NetlistFault.{NetlistFault}
use Rattle.lp_model.specs.declared.fault.netlist.NetlistFault.TheVariants as faults
use Rattle.lp_model.specs.declared.fault.netlist.NetlistLimit.TheVariants as limits
use Rattle.lp_model.specs.declared.fault.refusal.DesignFault.TheVariants as designs
use Rattle.lp_model.specs.declared.fault.refusal.Fault.{Fault}
use Rattle.lp_model.specs.declared.fault.refusal.Fault.TheVariants as all_faults
use Rattle.lp_model.specs.declared.fault.refusal.Refusal.TheVariants as refusals
use Rattle.lp_model.specs.FaultLines.{fault_line, line_text, place_text}
use Rattle.lp_model.specs.FaultWords.{netlist_fault_word}
use Rattle.lp_model.specs.Refusals.{netlist_refusal}
use Rattle.lp_verilog_draft.specs.declared.stop.Off.{Off}
use Rattle.lp_verilog_draft.specs.declared.stop.Off.TheVariants as offs
use Rattle.lp_verilog.specs.Reading.{Outcome, Left}
use Rattle.lp_verilog.specs.Refusing.{fault_of, StopsAt, Refuses}
use Rattle.lp_verilog.proofs.Across.{renumber, has_place, oc, same_text_at}
use Rattle.lp_verilog.proofs.Renaming.{off}
use Rattle.lp_verilog.proofs.Unique.{both, covers_left, covers_right}

abbrev pub fault : NetlistFault → Fault
fault n = all_faults.Design (designs.Netlist n)

abbrev pub line : List (List ℕ) → NetlistFault → List ℕ
line names n = fault_line names (fault n)

fault_is : (f : Fault) (n : NetlistFault) → refusals.Fault f ≡ netlist_refusal n → f ≡ fault n
fault_is f n e = cc

-- a word of a table is the text of its number there
word_text : (names : List (List ℕ)) (word : List ℕ) → has_text word names ≡ true → text_at names (unwrap_or (place_of word names) 0) ≡ word
word_text names word h =
    let p = has_place word names h in
    ap (λ o. text_at names (unwrap_or o 0)) p.1 ∙ (place_of-Some word names p.0 p.1).1

off_number : Off → ℕ
off_number (offs.Duplicate name) = name.0
off_number (offs.Lacking port) = port
off_number _ = 0

left_off : Outcome → Off
left_off (Left o at word) = o
left_off _ = offs.Syntax

left_at : Outcome → ℕ
left_at (Left o at word) = at
left_at _ = 0

left_word : Outcome → List ℕ
left_word (Left o at word) = word
left_word _ = []

module _ (a b : List (List ℕ)) (apart_a : distinct a ≡ true) (apart_b : distinct b ≡ true) (text : List ℕ) where
  same_line : (at : ℕ) (word : List ℕ) (o p : Off) → off (renumber a (a ++ b)) o ≡ off (renumber b (a ++ b)) p → (o ≡ offs.Unsupported → has_text word a ≡ true) → (p ≡ offs.Unsupported → has_text word b ≡ true) → line a (fault_of a text at word o) ≡ line b (fault_of b text at word p)
  unfolding off_number
  same_line at word offs.Syntax offs.Syntax e h k = refl
  same_line at word offs.Unsupported offs.Unsupported e h k =
      let texts : text_at a (unwrap_or (place_of word a) 0) ≡ text_at b (unwrap_or (place_of word b) 0) = word_text a word (h refl) ∙ sym (word_text b word (k refl)) in
      ap (λ t. line_text (netlist_fault_word (faults.Unsupported (place_in text at) (record { 0 = 0 }))) (place_text (place_in text at) ∷ t ∷ [])) texts
  same_line at word (offs.Duplicate n) (offs.Duplicate q) e h k =
      let numbers : renumber a (a ++ b) n.0 ≡ renumber b (a ++ b) q.0 = ap off_number e in
      let texts : text_at a n.0 ≡ text_at b q.0 = sym (same_text_at a (a ++ b) apart_a (covers_left a b) n.0) ∙ ap (text_at (a ++ b)) numbers ∙ same_text_at b (a ++ b) apart_b (covers_right a b) q.0 in
      ap (λ t. line_text (netlist_fault_word (faults.DuplicateName (place_in text at) n)) (place_text (place_in text at) ∷ t ∷ [])) texts
  same_line at word (offs.Lacking i) (offs.Lacking j) e h k = ap (λ n. line a (faults.Syntax (place_in text n))) (ap off_number e)
  same_line at word offs.Syntax offs.Unsupported e h k = absurd cc
  same_line at word offs.Syntax (offs.Duplicate q) e h k = absurd cc
  same_line at word offs.Syntax (offs.Lacking j) e h k = absurd cc
  same_line at word offs.Unsupported offs.Syntax e h k = absurd cc
  same_line at word offs.Unsupported (offs.Duplicate q) e h k = absurd cc
  same_line at word offs.Unsupported (offs.Lacking j) e h k = absurd cc
  same_line at word (offs.Duplicate n) offs.Syntax e h k = absurd cc
  same_line at word (offs.Duplicate n) offs.Unsupported e h k = absurd cc
  same_line at word (offs.Duplicate n) (offs.Lacking j) e h k = absurd cc
  same_line at word (offs.Lacking i) offs.Syntax e h k = absurd cc
  same_line at word (offs.Lacking i) offs.Unsupported e h k = absurd cc
  same_line at word (offs.Lacking i) (offs.Duplicate q) e h k = absurd cc

  stopped : (f g : Fault) → length a ≤ 4294967295 → length b ≤ 4294967295 → StopsAt a text (refusals.Fault f) → StopsAt b text (refusals.Fault g) → fault_line a f ≡ fault_line b g
  unfolding left_off left_at left_word
  stopped f g few_a few_b h k =
      let outcomes : oc (renumber a (a ++ b)) (Left h.off h.at h.word) ≡ oc (renumber b (a ++ b)) (Left k.off k.at k.word) = both a b text (Left h.off h.at h.word) (Left k.off k.at k.word) apart_a few_a apart_b few_b h.leads k.leads in
      let at : h.at ≡ k.at = ap left_at outcomes in
      let word : h.word ≡ k.word = ap left_word outcomes in
      let lines = same_line h.at h.word h.off k.off (ap left_off outcomes) h.known (λ e. ap (λ w. has_text w b) word ∙ k.known e) in
      ap (fault_line a) (fault_is f (fault_of a text h.at h.word h.off) h.fault)
      ∙ lines
      ∙ ap (λ n. line b (fault_of b text n h.word k.off)) at
      ∙ ap (λ w. line b (fault_of b text k.at w k.off)) word
      ∙ sym (ap (fault_line b) (fault_is g (fault_of b text k.at k.word k.off) k.fault))

pub one_line : (a b : List (List ℕ)) (text : List ℕ) (f g : Fault) → distinct a ≡ true → length a ≤ 4294967295 → distinct b ≡ true → length b ≤ 4294967295 → Refuses a text (refusals.Fault f) → Refuses b text (refusals.Fault g) → fault_line a f ≡ fault_line b g
one_line a b text f g apart_a few_a apart_b few_b h k =
    elim h [
      | inl x ↦ elim k [
        | inl y ↦ ap (fault_line a) (fault_is f (faults.Limit limits.Bytes) x.1) ∙ sym (ap (fault_line b) (fault_is g (faults.Limit limits.Bytes) y.1))
        | inr y ↦ let long = x.0 in let short = y.0 in absurd (omega (arith, long, short))
      ]
      | inr x ↦ elim k [
        | inl y ↦ let long = y.0 in let short = x.0 in absurd (omega (arith, long, short))
        | inr y ↦ stopped a b apart_a apart_b text f g few_a few_b x.1 y.1
      ]
    ]
