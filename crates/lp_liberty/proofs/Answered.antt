-- The answers of the reader, from those of the list machine.
use Rattle.std.proofs.Common.{◌≡◌, ℕ, ◌≤◌, List, None, Result, Ok, Err, IfOk, length, map, refl, arith, sym, ap, ◌∙◌, subst}
use Rattle.lp_model.specs.declared.groups.Group.{Group}
use Rattle.lp_model.specs.GroupsView.{GroupView, group_view}
use Rattle.lp_liberty.specs.declared.run.Stop.{Stop}
use Rattle.lp_liberty.specs.declared.run.Stop.TheVariants as stops
use Rattle.lp_liberty.specs.Grammar.{below_64, Body, Limited}
use Rattle.lp_liberty.specs.Meaning.{groups_in}
use Rattle.lp_liberty.specs.Machine.{Reading, Whole, Stopped, Deep, Long, read_in, start}
use Rattle.lp_liberty.specs.Tokens.{Placed, tokens_of, bare}
use Rattle.lp_liberty.specs.Outcome.{IsStop}
use Rattle.lp_liberty.specs.Denotes as denotes
use Rattle.lp_liberty.specs.Denotes.{Denotes, IsTokens, index_in, LeavesForm, HasDeepGroup, HasLongToken, RefusedAs}
use Rattle.lp_liberty.specs.Stops.{StopsAt, refusal_by}
use Rattle.lp_liberty.specs.declared.mark.Context.TheVariants as contexts
use Rattle.lp_liberty.proofs.Standing.{found_tokens, one_listing}
use Rattle.lp_liberty.proofs.Leaving.{one_body}
use Rattle.lp_liberty.proofs.Reading.{Answers, reading_answers, index_here}
use Rattle.lp_liberty.proofs.Within.{indices}

stands : (text : List ℕ) → IsTokens text (tokens_of text)
stands text = found_tokens (length text) contexts.Statement 0 text (omega arith)

pub denotes_ok : (text : List ℕ) (names : List (List ℕ)) (old : List (List ℕ)) (r : Result (List Group) Stop) → length text ≤ 67108864 → IfOk r (λ groups. read_in (length text) old start (tokens_of text) ≡ Whole names groups) → IfOk r (λ groups. Denotes text (map (group_view names) groups))
denotes_ok text names old (Err stop) small h = tt
denotes_ok text names old (Ok groups) small h =
    let a : Answers text (Whole names groups) = subst (Answers text) h (reading_answers text old) in
    record { small = small; tokens = tokens_of text; stand = stands text; short = a.0; limited = a.1.0; same = a.1.1 }

stop_answers : (text : List ℕ) (old : List (List ℕ)) (r : Reading) → read_in (length text) old start (tokens_of text) ≡ r → Answers text r
stop_answers text old r e = subst (Answers text) e (reading_answers text old)

pub stops_at : (text : List ℕ) (old : List (List ℕ)) (stop : Stop) → IsStop stop (read_in (length text) old start (tokens_of text)) → StopsAt text stop
stops_at text old (stops.Syntax index) h = let a = stop_answers text old (Stopped index) h in (subst (λ i. i ≤ length text) (sym a.is) (indices text a.number), a)
stops_at text old (stops.Deep index) h = let a = stop_answers text old (Deep index) h in (subst (λ i. i ≤ length text) (sym a.is) (indices text (length a.front)), a)
stops_at text old (stops.Long index) h = let a = stop_answers text old (Long index) h in (subst (λ i. i ≤ length text) (sym (a.is ∙ index_here (length text) a.number (tokens_of text) a.token a.after a.here)) (indices text a.number), a)
stops_at text old stops.NoMemory h = tt

pub refused_as : (file : ℕ) (text : List ℕ) (stop : Stop) → length text ≤ 67108864 → StopsAt text stop → RefusedAs file text (refusal_by file text stop)
refused_as file text (stops.Syntax index) small h = denotes.Off (tokens_of text) index small (stands text) h.1
refused_as file text (stops.Deep index) small h = denotes.Deep (tokens_of text) index small (stands text) h.1
refused_as file text (stops.Long index) small h = denotes.Long (tokens_of text) index small (stands text) h.1
refused_as file text stops.NoMemory small h = denotes.NoMemory

same_groups : (text : List ℕ) (t u : List Placed) → IsTokens text t → IsTokens text u → (x : Limited (bare t)) (y : Limited (bare u)) → groups_in None 0 x.body ≡ groups_in None 0 y.body
same_groups text t u s r x y =
    let same : u ≡ t = one_listing contexts.Statement 0 text u t r s in
    ap (λ (body : Body). groups_in None 0 body) (one_body below_64 (bare t) x (along t u same y).0 ∙ (along t u same y).1)
  where
    along : (t u : List Placed) → u ≡ t → (y : Limited (bare u)) → (z : Limited (bare t)) × (z.body ≡ y.body)
    along t u same y = (record { body = y.body; good = y.good; spelled = ap bare (sym same) ∙ y.spelled }, refl)

pub one_list : (text : List ℕ) (a b : List GroupView) → Denotes text a → Denotes text b → a ≡ b
one_list text a b x y = x.same ∙ same_groups text x.tokens y.tokens x.stand y.stand x.limited y.limited ∙ sym y.same
