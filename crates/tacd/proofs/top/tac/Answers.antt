use Rattle.std.proofs.Common.{ℕ, ◌≡◌, ◌<◌, ◌≤◌, List, [], Option, Some, None, length, arith, IfSome}
use Rattle.tac_commands.specs.{FilesState, SinkState, Command, Outcome, outside_of, Allows, Reports, ReportsOne, Selects, UsageExactly, ReadFaultExactly, GameRefusedExactly, TextRefusedExactly, UnsoundExactly}
use Rattle.tac_commands.proofs.CommandCauses as causes
use Rattle.tac_commands.proofs.CodedOutcomes.{coded}
use Rattle.tacd.proofs.Headline.{writes_true_log}
use Rattle.tacd.proofs.PostedCash.{in_service}
use Rattle.tacd.proofs.ServiceCauses.{allowed, clock_fault, link_fault, no_clock_fault, no_link_fault}
use Rattle.tacd.proofs.top.tac.Goals as goal

-- what follows from the outcome, by the lemma that says it of each
by_outcome : {command : Option Command} {files files' : FilesState} {code : ℕ} (sink sink' : SinkState) (P : Option Command → FilesState → FilesState → ℕ → Type 0)
    → ((files files' : FilesState) (outcome : Outcome) (sink sink' : SinkState) (code : ℕ) → Reports outcome sink sink' code → (command : Option Command) → Allows command files files' outcome → P command files files' code)
    → ReportsOne (Allows command files files') sink sink' code → P command files files' code
by_outcome sink sink' P follows told = follows _ _ told.0 _ _ _ told.2 _ told.1

-- ---- the service of a game

-- where the names are told, none was selected and each word is short, so the game's file may be
may_select : (names : Option (List (List ℕ))) (name : List ℕ) (Short : Type 0) → IfSome names (λ given. given ≡ []) → IfSome names (λ _. Short) → (Short → length name ≤ 1024) →
    IfSome names (λ given. (length given < 128) × (length name ≤ 1024))
may_select None name Short fresh short within = tt
may_select (Some given) name Short fresh short within = (rw fresh (omega arith), within short)

pub serve-requires-clause-names : goal.serve-requires-clause-names
serve-requires-clause-names g c κs within =
    may_select (g.F.Files.state c.args.files.now).names c.in-Some.service.game.now _ c.requires.names c.requires.short c.in-Some.ensures.short

pub returns-in-Some-clause-outcome : goal.returns-in-Some-clause-outcome
returns-in-Some-clause-outcome g c =
    let served = c.serve.ensures.outcome in
    let before = outside_of (g.F.Files.state c.args.files.now) (g.K.Sink.state c.args.out.now) (g.N.Links.state c.args.links.now) (g.T.Ticker.state c.args.ticker.now) in
    let after = outside_of (g.F.Files.state c.serve.new.files) (g.K.Sink.state c.serve.new.out) (g.N.Links.state c.serve.new.links) (g.T.Ticker.state c.serve.new.ticker) in
    rw c.in-Some.ensures.service (served.0, allowed _ _ before after c.serve.result served.0 c.serve.ensures.names served.1, served.2)

pub returns-in-Some-clause-headline : goal.returns-in-Some-clause-headline
returns-in-Some-clause-headline g c =
    let before = outside_of (g.F.Files.state c.args.files.now) (g.K.Sink.state c.args.out.now) (g.N.Links.state c.args.links.now) (g.T.Ticker.state c.args.ticker.now) in
    let after = outside_of (g.F.Files.state c.serve.new.files) (g.K.Sink.state c.serve.new.out) (g.N.Links.state c.serve.new.links) (g.T.Ticker.state c.serve.new.ticker) in
    rw c.in-Some.ensures.service (λ zero. writes_true_log _ _ before after c.serve.result zero c.serve.ensures.outcome)

pub returns-in-Some-clause-cash : goal.returns-in-Some-clause-cash
returns-in-Some-clause-cash g c =
    let served = c.serve.ensures.outcome in
    let before = outside_of (g.F.Files.state c.args.files.now) (g.K.Sink.state c.args.out.now) (g.N.Links.state c.args.links.now) (g.T.Ticker.state c.args.ticker.now) in
    let after = outside_of (g.F.Files.state c.serve.new.files) (g.K.Sink.state c.serve.new.out) (g.N.Links.state c.serve.new.links) (g.T.Ticker.state c.serve.new.ticker) in
    in_service _ _ before after c.serve.result served.0 served.1

pub returns-in-Some-clause-prompt : goal.returns-in-Some-clause-prompt
returns-in-Some-clause-prompt g c = rw c.in-Some.ensures.service tt

pub returns-in-Some-clause-usage : goal.returns-in-Some-clause-usage
returns-in-Some-clause-usage g c = by_outcome _ _ (λ command files files' code. UsageExactly command code) causes.usage (returns-in-Some-clause-outcome g c)

pub returns-in-Some-clause-game_refused : goal.returns-in-Some-clause-game_refused
returns-in-Some-clause-game_refused g c = by_outcome _ _ GameRefusedExactly causes.game_refused (returns-in-Some-clause-outcome g c)

pub returns-in-Some-clause-text_refused : goal.returns-in-Some-clause-text_refused
returns-in-Some-clause-text_refused g c = by_outcome _ _ TextRefusedExactly causes.text_refused (returns-in-Some-clause-outcome g c)

pub returns-in-Some-clause-unsound : goal.returns-in-Some-clause-unsound
returns-in-Some-clause-unsound g c = by_outcome _ _ UnsoundExactly causes.unsound (returns-in-Some-clause-outcome g c)

pub returns-in-Some-clause-read_fault : goal.returns-in-Some-clause-read_fault
returns-in-Some-clause-read_fault g c = by_outcome _ _ (λ command. ReadFaultExactly) causes.read_fault (returns-in-Some-clause-outcome g c)

pub returns-in-Some-clause-names : goal.returns-in-Some-clause-names
returns-in-Some-clause-names g c = by_outcome _ _ Selects causes.selected (returns-in-Some-clause-outcome g c)

pub returns-in-Some-clause-link_fault : goal.returns-in-Some-clause-link_fault
returns-in-Some-clause-link_fault g c =
    let before = outside_of (g.F.Files.state c.args.files.now) (g.K.Sink.state c.args.out.now) (g.N.Links.state c.args.links.now) (g.T.Ticker.state c.args.ticker.now) in
    let after = outside_of (g.F.Files.state c.serve.new.files) (g.K.Sink.state c.serve.new.out) (g.N.Links.state c.serve.new.links) (g.T.Ticker.state c.serve.new.ticker) in
    link_fault _ _ before after c.serve.result c.serve.ensures.outcome

pub returns-in-Some-clause-clock_fault : goal.returns-in-Some-clause-clock_fault
returns-in-Some-clause-clock_fault g c =
    let before = outside_of (g.F.Files.state c.args.files.now) (g.K.Sink.state c.args.out.now) (g.N.Links.state c.args.links.now) (g.T.Ticker.state c.args.ticker.now) in
    let after = outside_of (g.F.Files.state c.serve.new.files) (g.K.Sink.state c.serve.new.out) (g.N.Links.state c.serve.new.links) (g.T.Ticker.state c.serve.new.ticker) in
    clock_fault _ _ before after c.serve.result c.serve.ensures.outcome

pub returns-in-Some-clause-complete : goal.returns-in-Some-clause-complete
returns-in-Some-clause-complete g c =
    let outcome = returns-in-Some-clause-outcome g c in
    causes.is_complete _ _ outcome.0 _ _ _ outcome.2 _ _ _ _ _ outcome.1 (returns-in-Some-clause-link_fault g c) (returns-in-Some-clause-clock_fault g c)

-- ---- other words

pub returns-in-None-clause-outcome : goal.returns-in-None-clause-outcome
returns-in-None-clause-outcome g c = rw (c.in-None.ensures.service, c.coded.ensures.code) c.run_words-code.ensures.outcome

pub returns-in-None-clause-prompt : goal.returns-in-None-clause-prompt
returns-in-None-clause-prompt g c = rw c.in-None.ensures.service c.run_words-code.ensures.prompt

pub returns-in-None-clause-usage : goal.returns-in-None-clause-usage
returns-in-None-clause-usage g c = by_outcome _ _ (λ command files files' code. UsageExactly command code) causes.usage (returns-in-None-clause-outcome g c)

pub returns-in-None-clause-game_refused : goal.returns-in-None-clause-game_refused
returns-in-None-clause-game_refused g c = by_outcome _ _ GameRefusedExactly causes.game_refused (returns-in-None-clause-outcome g c)

pub returns-in-None-clause-text_refused : goal.returns-in-None-clause-text_refused
returns-in-None-clause-text_refused g c = by_outcome _ _ TextRefusedExactly causes.text_refused (returns-in-None-clause-outcome g c)

pub returns-in-None-clause-unsound : goal.returns-in-None-clause-unsound
returns-in-None-clause-unsound g c = by_outcome _ _ UnsoundExactly causes.unsound (returns-in-None-clause-outcome g c)

pub returns-in-None-clause-read_fault : goal.returns-in-None-clause-read_fault
returns-in-None-clause-read_fault g c = by_outcome _ _ (λ command. ReadFaultExactly) causes.read_fault (returns-in-None-clause-outcome g c)

pub returns-in-None-clause-names : goal.returns-in-None-clause-names
returns-in-None-clause-names g c = by_outcome _ _ Selects causes.selected (returns-in-None-clause-outcome g c)

pub returns-in-None-clause-link_fault : goal.returns-in-None-clause-link_fault
returns-in-None-clause-link_fault g c =
    let outcome = returns-in-None-clause-outcome g c in
    no_link_fault _ (g.K.Sink.state c.args.out.now) (g.K.Sink.state c.run_words-code.new.out) _ outcome.0 (causes.no_link_code _ _ outcome.0 _ (rw c.in-None.ensures.service at outcome.1)).0 (coded outcome.0 _ _ _ outcome.2)

pub returns-in-None-clause-clock_fault : goal.returns-in-None-clause-clock_fault
returns-in-None-clause-clock_fault g c =
    let outcome = returns-in-None-clause-outcome g c in
    no_clock_fault _ (g.K.Sink.state c.args.out.now) (g.K.Sink.state c.run_words-code.new.out) _ outcome.0 (causes.no_link_code _ _ outcome.0 _ (rw c.in-None.ensures.service at outcome.1)).1 (coded outcome.0 _ _ _ outcome.2)

pub returns-in-None-clause-complete : goal.returns-in-None-clause-complete
returns-in-None-clause-complete g c =
    let outcome = returns-in-None-clause-outcome g c in
    causes.is_complete _ _ outcome.0 _ _ _ outcome.2 _ _ _ _ _ outcome.1 (returns-in-None-clause-link_fault g c) (returns-in-None-clause-clock_fault g c)
