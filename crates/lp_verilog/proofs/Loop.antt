-- One step of the loop that reads a text.
use Rattle.std.proofs.Common.{◌≡◌, ℕ, suc, ◌+◌, ◌<◌, Bool, false, List, [], ◌∷◌, length, drop, get_or, Some, None, Result, Ok, Err, refl, sym, ap, ◌∙◌, subst, arith}
use Rattle.std.proofs.Math.Seq.{drop-cons}
use Rattle.lp_model.specs.declared.netlist.Module.{Module}
use Rattle.lp_verilog_grammar.specs.declared.reader.Reader.{Reader}
use Rattle.lp_verilog.specs.declared.reading.Halt.{Halt}
use Rattle.lp_verilog.specs.declared.reading.Halt.TheVariants as halts
use Rattle.lp_verilog_tokens.specs.Cutting.{Piece, piece_of}
use Rattle.lp_verilog.specs.Reading.{Reading, ending, ended, turned, read_rest}
use Rattle.lp_verilog.specs.Answers.{Halts, Finishes, IsReading}

at_end : (fuel : List ℕ) (size : ℕ) (fresh : Bool) (rest : List ℕ) (names : List (List ℕ)) (m : Reader) → piece_of fresh rest ≡ None → read_rest fuel size fresh rest names m ≡ ended size names m
at_end [] size fresh rest names m e = refl
at_end (b ∷ fuel) size fresh rest names m e = ap (turned (λ r ns n. read_rest fuel size false r ns n) size rest names m) e

is_finished : (r : Result (List Module) Halt) (size : ℕ) (names : List (List ℕ)) (m : Reader) → Finishes r (ending size m) → IsReading r names (ended size names m)
is_finished (Ok modules) size names m h = ap (λ o. record { outcome = o; names = names }) h
is_finished (Err (halts.Left off place word)) size names m h = ap (λ o. record { outcome = o; names = names }) h
is_finished (Err halts.NoMemory) size names m h = tt

-- where no token is left
pub finished : (r : Result (List Module) Halt) (fuel : List ℕ) (size : ℕ) (fresh : Bool) (rest : List ℕ) (names : List (List ℕ)) (m : Reader) (all : Reading) → piece_of fresh rest ≡ None → Finishes r (ending size m) → read_rest fuel size fresh rest names m ≡ all → IsReading r names all
finished r fuel size fresh rest names m all e h kept = subst (IsReading r names) (sym (at_end fuel size fresh rest names m e) ∙ kept) (is_finished r size names m h)

-- where one is left
pub turn_at : (bytes : List ℕ) (i size : ℕ) (fresh : Bool) (rest : List ℕ) (names : List (List ℕ)) (m : Reader) (p : Piece) (all : Reading) → i < length bytes → piece_of fresh rest ≡ Some p → read_rest (drop i bytes) size fresh rest names m ≡ all → turned (λ r ns n. read_rest (drop (i + 1) bytes) size false r ns n) size rest names m (Some p) ≡ all
turn_at bytes i size fresh rest names m p all l e kept =
    let next : i + 1 ≡ suc i = omega arith in
    let front : drop i bytes ≡ get_or bytes i 0 ∷ drop (i + 1) bytes = rw next (drop-cons bytes i 0 l) in
    sym (ap (turned (λ r ns n. read_rest (drop (i + 1) bytes) size false r ns n) size rest names m) e) ∙ sym (ap (λ fuel. read_rest fuel size fresh rest names m) front) ∙ kept

-- where it cannot stand
pub halted : (e : Halt) (names : List (List ℕ)) (reading all : Reading) → Halts e names reading → reading ≡ all → Halts e names all
halted e names reading all h kept = subst (Halts e names) kept h
