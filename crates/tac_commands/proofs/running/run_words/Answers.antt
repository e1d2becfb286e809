use Rattle.std.proofs.Common.{ℕ, ◌≡◌, List, [], Option, Some, None, IfSome}
use Rattle.tac_commands.specs.Commands.{seen_batch}
use Rattle.tac_commands.proofs.Endings.{reports_or_stops}
use Rattle.tac_commands.proofs.PromptSteps.{prompt_command}
use Rattle.tac_commands.proofs.running.run_words.Goals as goal

-- where the names are told, none was selected and each word is short, so the names of the command are
fresh_and_short : (names : Option (List (List ℕ))) (Words Named : Type 0) → IfSome names (λ given. given ≡ []) → IfSome names (λ _. Words) → (Words → Named) →
    IfSome names (λ given. (given ≡ []) × Named)
fresh_and_short None Words Named fresh short named = tt
fresh_and_short (Some given) Words Named fresh short named = (fresh, named short)

pub run_batch-end-requires-clause-names : goal.run_batch-end-requires-clause-names
run_batch-end-requires-clause-names g c κs within =
    fresh_and_short (g.F.Files.state c.args.files.now).names _ _ c.requires.names c.requires.short c.in-Some.ensures.short

pub returns-in-Some-clause-outcome : goal.returns-in-Some-clause-outcome
returns-in-Some-clause-outcome g c = rw c.in-Some.ensures.command (reports_or_stops _ _ _ _ c.run_batch-end.result _ c.run_batch-end.ensures.ends c.finish.ensures)

pub returns-in-Some-clause-prompt : goal.returns-in-Some-clause-prompt
returns-in-Some-clause-prompt g c =
    rw c.in-Some.ensures.command (
    prompt_command (seen_batch c.in-Some.command) (g.F.Files.state c.args.files.now) (g.F.Files.state c.run_batch-end.new.files) (g.K.Sink.state c.args.out.now)
    (g.K.Sink.state c.run_batch-end.new.out) (g.K.Sink.state c.finish.new.out) c.run_batch-end.result _ c.run_batch-end.ensures.prompt c.finish.ensures
    )
