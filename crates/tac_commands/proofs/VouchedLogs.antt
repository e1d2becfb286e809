-- How a command ends that judged a log by a link.
use Rattle.std.proofs.Common.{◌≡◌, ℕ, List, refl, sym, subst, inl, inr, ◌↔◌}
use Rattle.tac_commands.specs.{FilesState, SinkState, GameFile, LoggedGame, IsSound, Flaw, IsFound, Dialect, Vouching, IsJudged, IsFlawText, Outcome, Unsound, EndsSteps, link_steps, flaw_text}
use Rattle.log_audit.specs.declared.findings.Finding.TheVariants as findings
use Rattle.link_audit.specs.declared.vouching.Vouching.TheVariants.{Whole, Cut, Not}
use Rattle.tac_commands.specs.declared.ends.End.{End}
use Rattle.tac_commands.specs.Ends.{Ends}
use Rattle.tac_commands.specs.Runs.{Runs}
use Rattle.tac_commands.specs.Steps.{Steps, Judges}
use Rattle.tac_commands.specs.VouchingTexts.{vouching_outcome}
use Rattle.tac_commands.proofs.Endings.{weaker}

-- a run ends with one outcome
pub ends_so : (due : Outcome) (steps : Steps) (files files' : FilesState) (sink sink' : SinkState) (end : End) → Runs steps files files' due →
    Ends (λ outcome. outcome ≡ due) sink sink' end → EndsSteps steps files files' sink sink' end
ends_so due steps files files' sink sink' end run ended =
    weaker (λ outcome. outcome ≡ due) (Runs steps files files') sink sink' end (λ outcome is. subst (Runs steps files files') (sym is) run) (inl ended)

module _ (game : GameFile) (log : LoggedGame) where
  -- a log is sound, and its command goes on
  pub goes_on : (IsDue : List ℕ → Type 0) (next : Steps) (files files' : FilesState) (sink sink' : SinkState) (end : End) → IsSound game log →
      EndsSteps next files files' sink sink' end → EndsSteps (Judges (IsSound game log) IsDue next) files files' sink sink' end
  goes_on IsDue next files files' sink sink' end sound ended =
      weaker (Runs next files files') (Runs (Judges (IsSound game log) IsDue next) files files') sink sink' end (λ outcome run. inl (sound, run)) ended

  -- or its flaw is reported
  pub flaw_ends : (next : Steps) (flaw : Flaw) (files : FilesState) (sink sink' : SinkState) (end : End) → (findings.Unsound flaw ≡ findings.Sound) ↔ IsSound game log → IsFound game log (findings.Unsound flaw) →
      Ends (λ outcome. outcome ≡ Unsound (flaw_text flaw)) sink sink' end → EndsSteps (Judges (IsSound game log) (IsFlawText game log) next) files files sink sink' end
  flaw_ends next flaw files sink sink' end judged found ended =
      ends_so (Unsound (flaw_text flaw)) (Judges (IsSound game log) (IsFlawText game log) next) files files sink sink' end
      (inr ((λ sound. absurd (let is : findings.Unsound flaw ≡ findings.Sound = judged.1 sound in cc), record { flaw = flaw; first = found; due = refl }), (refl, refl))) ended

  module _ (dialect : Dialect) (asked said : List ℕ) (files : FilesState) where
    runs_so : (vouching : Vouching) → IsJudged game dialect log asked said vouching → Runs (link_steps game dialect log asked said) files files (vouching_outcome vouching)
    runs_so (Whole agent lines memory) judged = inl ((agent, (judged.yes agent).0 refl), ((Whole agent lines memory, (agent, refl), judged, refl), (refl, refl)))
    runs_so (Cut agent lines after memory) judged = inl ((agent, (judged.yes agent).0 refl), ((Cut agent lines after memory, (agent, refl), judged, refl), (refl, refl)))
    runs_so (Not difference) judged = inr (((λ vouched. (judged.yes vouched.0).1 vouched.1), (difference, judged.difference, refl)), (refl, refl))

    -- what was found of a link is written
    pub vouching_ends : (vouching : Vouching) (sink sink' : SinkState) (end : End) → IsJudged game dialect log asked said vouching →
        Ends (λ outcome. outcome ≡ vouching_outcome vouching) sink sink' end → EndsSteps (link_steps game dialect log asked said) files files sink sink' end
    vouching_ends vouching sink sink' end judged ended =
        ends_so (vouching_outcome vouching) (link_steps game dialect log asked said) files files sink sink' end (runs_so vouching judged) ended
