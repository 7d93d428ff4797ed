-- The answer of the reader is what the text denotes.
use Rattle.std.proofs.Common.{◌≡◌, ℕ, List, Option, Result, Ok, Err, IfOk, sym, ap, ◌∙◌, subst}
use Rattle.lp_upf_words.specs.declared.mode.Stop.{Stop}
use Rattle.lp_upf_words.specs.declared.answer.WordsRead.{WordsRead}
use Rattle.lp_upf_words.specs.Bytes.{kind_of}
use Rattle.lp_upf_words.specs.Words.{Gathered, Denotes, outcome_of}
use Rattle.lp_upf_words.specs.Reading.{start, read}
use Rattle.lp_upf_words.specs.Answer.{IsFaultOf, gathered_in, ReadsWords}
use Rattle.lp_upf_words.proofs.Once.{read_denotes}

pub answered : {E : Type 0} (text : List ℕ) (names : List (List ℕ)) (r : Result WordsRead E) (g : Gathered) (stop : Option Stop) → read kind_of start text ≡ outcome_of g stop
    → IfOk r (λ w. gathered_in names w ≡ g) → IfOk r (λ w. IsFaultOf names stop w.fault) → IfOk r (ReadsWords text names)
answered text names (Err e) g stop h a f = tt
answered text names (Ok w) g stop h a f = record { stop = stop; denotes = subst (Denotes text) (h ∙ ap (λ x. outcome_of x stop) (sym a)) (read_denotes text); fault = f }
