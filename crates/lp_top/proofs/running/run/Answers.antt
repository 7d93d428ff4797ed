use Rattle.std.proofs.Common.{◌≡◌, true, sym, ◌∙◌, subst}
use Rattle.std.proofs.lemmas.Bool.{both_ways}
use Rattle.lp_top.specs.declared.outcome.Outcome.TheVariants as outcomes
use Rattle.lp_top.specs.declared.outcome.UsageFault.TheVariants as usages
use Rattle.lp_top.specs.Words.{IsCommand, clashes, files_of}
use Rattle.lp_top.specs.Ran.{ByWords, ByFiles, ByMissed, BySaid}
use Rattle.lp_top.proofs.WordsLaws.{command-found}
use Rattle.lp_top.proofs.RunningLaws.{kept, words-good, same_command, no_command, counts-join, said-join, files-join, missed-join, completes-kept, refuses, headline-files}
use Rattle.lp_top.proofs.running.run.Goals as goal

pub returns-in-None-clause-words : goal.returns-in-None-clause-words
returns-in-None-clause-words g c =
    kept (ByWords c.args.words.now) (outcomes.Usage usages.Form) c.tell.result c.tell.ensures.kept (λ b is. no_command c.args.words.now b (sym c.in-None.ensures) is) tt

pub returns-in-None-clause-complete : goal.returns-in-None-clause-complete
returns-in-None-clause-complete g c b is apart = absurd (no_command c.args.words.now b (sym c.in-None.ensures) is)

pub returns-then-has_clash-clause-words : goal.returns-then-has_clash-clause-words
returns-then-has_clash-clause-words g c =
    let found : IsCommand c.args.words.now (files_of c.in-Some.command) = command-found c.args.words.now (files_of c.in-Some.command) (sym c.in-Some.ensures) in
    kept (ByWords c.args.words.now) (outcomes.Usage usages.Files) c.tell-then-has_clash.result c.tell-then-has_clash.ensures.kept
    (files_of c.in-Some.command, (found, sym c.has_clash.ensures ∙ c.if-has_clash.true)) tt

pub returns-then-has_clash-clause-complete : goal.returns-then-has_clash-clause-complete
returns-then-has_clash-clause-complete g c b is apart =
    let same : files_of c.in-Some.command ≡ b = same_command c.args.words.now (files_of c.in-Some.command) b (sym c.in-Some.ensures) is in
    absurd (both_ways (clashes b) apart (subst (λ x. clashes x ≡ true) same (sym c.has_clash.ensures ∙ c.if-has_clash.true)))

pub returns-clause-words : goal.returns-clause-words
returns-clause-words g c =
    let found : IsCommand c.args.words.now (files_of c.in-Some.command) = command-found c.args.words.now (files_of c.in-Some.command) (sym c.in-Some.ensures) in
    kept (ByWords c.args.words.now) c.attempt-outcome.result c.tell-2.result c.tell-2.ensures.kept
    (words-good c.args.words.now (files_of c.in-Some.command) found (sym c.has_clash.ensures ∙ c.if-has_clash.false) c.attempt-outcome.result c.attempt-outcome.ensures.no_usage) tt

pub returns-clause-files : goal.returns-clause-files
returns-clause-files g c b is apart =
    let same : files_of c.in-Some.command ≡ b = same_command c.args.words.now (files_of c.in-Some.command) b (sym c.in-Some.ensures) is in
    subst (λ x. ByFiles x (g.S.Shelf.held c.args.shelf.now) (g.S.Shelf.held c.tell-2.new.shelf) c.tell-2.result) same
    (files-join (files_of c.in-Some.command) (g.S.Shelf.held c.args.shelf.now) (g.S.Shelf.held c.tell-2.new.shelf) c.attempt-outcome.result c.tell-2.result
    (subst (λ h. ByFiles (files_of c.in-Some.command) (g.S.Shelf.held c.args.shelf.now) h c.attempt-outcome.result) (sym c.tell-2.ensures.keeps_held) c.attempt-outcome.ensures.files)
    c.tell-2.ensures.kept)

-- words that are a command whose files do not clash are no matter of this clause
pub returns-clause-unread : goal.returns-clause-unread
returns-clause-unread g c none =
    let found : IsCommand c.args.words.now (files_of c.in-Some.command) = command-found c.args.words.now (files_of c.in-Some.command) (sym c.in-Some.ensures) in
    absurd (none (files_of c.in-Some.command) found (sym c.has_clash.ensures ∙ c.if-has_clash.false))

pub returns-clause-counts : goal.returns-clause-counts
returns-clause-counts g c =
    counts-join (g.S.Shelf.faults c.args.shelf.now) (g.S.Shelf.faults c.attempt-outcome.new.shelf) (g.S.Shelf.faults c.tell-2.new.shelf) c.attempt-outcome.result c.tell-2.result
    c.attempt-outcome.ensures.counts c.tell-2.ensures.counts c.tell-2.ensures.kept

pub returns-clause-said : goal.returns-clause-said
returns-clause-said g c =
    let faults = g.S.Shelf.faults c.tell-2.new.shelf in
    let between = g.S.Shelf.faults c.attempt-outcome.new.shelf in
    let said = g.S.Shelf.said c.tell-2.new.shelf in
    said-join (g.S.Shelf.faults c.args.shelf.now) between faults (g.S.Shelf.said c.args.shelf.now) said c.attempt-outcome.result c.tell-2.result
    c.attempt-outcome.ensures.counts c.tell-2.ensures.kept
    (subst (λ s. BySaid s said between faults c.tell-2.result) c.attempt-outcome.ensures.keeps_said c.tell-2.ensures.said)

pub returns-clause-misses : goal.returns-clause-misses
returns-clause-misses g c b is apart =
    let same : files_of c.in-Some.command ≡ b = same_command c.args.words.now (files_of c.in-Some.command) b (sym c.in-Some.ensures) is in
    subst (λ x. ByMissed 1 x (g.S.Shelf.missed c.args.shelf.now) (g.S.Shelf.missed c.tell-2.new.shelf) (g.S.Shelf.calls c.args.shelf.now) (g.S.Shelf.calls c.tell-2.new.shelf) c.tell-2.result) same
    (missed-join (files_of c.in-Some.command) (g.S.Shelf.missed c.args.shelf.now) (g.S.Shelf.missed c.attempt-outcome.new.shelf) (g.S.Shelf.missed c.tell-2.new.shelf)
    (g.S.Shelf.calls c.args.shelf.now) (g.S.Shelf.calls c.attempt-outcome.new.shelf) (g.S.Shelf.calls c.tell-2.new.shelf) c.attempt-outcome.result c.tell-2.result
    c.attempt-outcome.ensures.misses c.tell-2.ensures.keeps_missed c.tell-2.ensures.counted c.tell-2.ensures.kept)

pub returns-clause-complete : goal.returns-clause-complete
returns-clause-complete g c b is apart =
    completes-kept b (g.S.Shelf.held c.args.shelf.now) (g.S.Shelf.held c.tell-2.new.shelf) (g.S.Shelf.faults c.args.shelf.now) (g.S.Shelf.faults c.tell-2.new.shelf) c.attempt-outcome.result c.tell-2.result
    (returns-clause-files g c b is apart) (returns-clause-counts g c) c.attempt-outcome.ensures.no_usage c.tell-2.ensures.kept

pub returns-clause-headline : goal.returns-clause-headline
returns-clause-headline g c b is apart =
    headline-files b (g.S.Shelf.held c.args.shelf.now) (g.S.Shelf.held c.tell-2.new.shelf) c.tell-2.result apart (returns-clause-files g c b is apart)

pub returns-in-None-clause-exact : goal.returns-in-None-clause-exact
returns-in-None-clause-exact g c b is apart = absurd (no_command c.args.words.now b (sym c.in-None.ensures) is)

pub returns-then-has_clash-clause-exact : goal.returns-then-has_clash-clause-exact
returns-then-has_clash-clause-exact g c b is apart =
    let same : files_of c.in-Some.command ≡ b = same_command c.args.words.now (files_of c.in-Some.command) b (sym c.in-Some.ensures) is in
    absurd (both_ways (clashes b) apart (subst (λ x. clashes x ≡ true) same (sym c.has_clash.ensures ∙ c.if-has_clash.true)))

pub returns-clause-exact : goal.returns-clause-exact
returns-clause-exact g c b is apart =
    refuses c.one_fault.ensures c.no_fault.ensures b (g.S.Shelf.held c.args.shelf.now) (g.S.Shelf.held c.tell-2.new.shelf) (g.S.Shelf.faults c.args.shelf.now) (g.S.Shelf.faults c.tell-2.new.shelf) c.attempt-outcome.result c.tell-2.result
    (returns-clause-files g c b is apart) (returns-clause-counts g c) c.attempt-outcome.ensures.no_usage c.tell-2.ensures.kept
