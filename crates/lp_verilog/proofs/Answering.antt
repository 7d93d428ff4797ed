-- The answers of the reader from what was read.
use Rattle.std.proofs.Common.{◌≡◌, ℕ, ◌≤◌, true, List, length, map, refl, sym, ap, ◌∙◌, subst, inr, Bor}
use Rattle.lp_text.specs.Texts.{Grown, distinct, has_text, with_text}
use Rattle.lp_model.specs.declared.netlist.Module.{Module}
use Rattle.lp_model.specs.NetlistView.{module_view}
use Rattle.lp_model.specs.declared.fault.refusal.Refusal.{Refusal}
use Rattle.lp_model.specs.declared.fault.refusal.Refusal.TheVariants as refusals
use Rattle.lp_verilog_draft.specs.declared.stop.Off.{Off}
use Rattle.lp_verilog_draft.specs.declared.stop.Off.TheVariants as offs
use Rattle.lp_verilog.specs.declared.reading.Halt.{Halt}
use Rattle.lp_verilog.specs.declared.reading.Halt.TheVariants as halts
use Rattle.lp_verilog.specs.Answers.{Halts}
use Rattle.lp_verilog_grammar.specs.Machine.{start}
use Rattle.lp_verilog.specs.Reading.{Reading, Outcome, Left, read_rest}
use Rattle.lp_verilog.specs.Denotes.{LeadsTo, Denotes}
use Rattle.lp_verilog.specs.Refusing.{fault_of, IsFault, HasWord, Refuses, HasNone}
use Rattle.lp_verilog.specs.Reads.{Reads}
use Rattle.lp_verilog.specs.Places.{FirstFault}
use Rattle.lp_verilog.proofs.Found.{found, has_put}
use Rattle.lp_verilog.proofs.Unique.{none_where_refused}

-- what is read is what the text leads to
pub leads_to : (text : List ℕ) (names mid final : List (List ℕ)) (o : Outcome) → read_rest text (length text) true text names start ≡ record { outcome = o; names = mid } → Grown mid final → LeadsTo final text o
leads_to text names mid final o e g =
    let grown = subst (λ ns. Grown ns final) (sym (ap (λ (r : Reading). r.names) e)) g in
    subst (LeadsTo final text) (ap (λ (r : Reading). r.outcome) e) (found text names final grown)

-- a word that was put into a table
pub word_put : (r : Refusal) (word : List ℕ) (old new : List (List ℕ)) → new ≡ with_text old word → HasWord r word new
word_put refusals.NoMemory word old new is = tt
word_put (refusals.Fault fault) word old new is = ap (has_text word) is ∙ has_put old word

-- a fault is the refusal of its text
pub refused : (names : List (List ℕ)) (text : List ℕ) (r : Refusal) (off : Off) (at : ℕ) (word : List ℕ) → length text ≤ 67108864 → LeadsTo names text (Left off at word) → (off ≡ offs.Unsupported → HasWord r word names) → FirstFault text at → IsFault r (fault_of names text at word off) → Refuses names text r
refused names text refusals.NoMemory off at word l leads known first is = tt
refused names text (refusals.Fault fault) off at word l leads known first is = inr (l, record { off = off; at = at; word = word; leads = leads; known = known; fault = is; first = first })

-- a halt at a token
pub left_at : (e : Halt) (off : Off) (at : ℕ) (word : Bor (List ℕ)) (names : List (List ℕ)) (reading : Reading) → e ≡ halts.Left off at word → Halts e names reading → reading ≡ record { outcome = Left off at word.now; names = names }
left_at e off at word names reading is h = subst (λ x. Halts x names reading) is h

-- a refused text denotes no netlist
pub has_none : (names : List (List ℕ)) (text : List ℕ) (r : Refusal) (off : Off) (at : ℕ) (word : List ℕ) → distinct names ≡ true → length names ≤ 4294967295 → LeadsTo names text (Left off at word) → HasNone text r
has_none names text refusals.NoMemory off at word apart few leads = tt
has_none names text (refusals.Fault fault) off at word apart few leads = λ short view reads. none_where_refused names text view off at word apart few leads reads

-- the modules as they are seen
pub reads_view : (names : List (List ℕ)) (text : List ℕ) (modules : List Module) → distinct names ≡ true → length names ≤ 4294967295 → Denotes names text modules → Reads text (map (module_view names) modules)
reads_view names text modules apart few denotes = record { names = names; modules = modules; apart = apart; few = few; denotes = denotes; seen = refl }
