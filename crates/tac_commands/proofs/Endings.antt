-- The outcome of a command that ended, and then was finished.
use Rattle.std.proofs.Common.{◌≡◌, ℕ, Bool, true, false, List, ◌++◌, refl, sym, subst, inl, inr, ◌==◌, ◌⊎◌, MatchBool}
use Rattle.tac_commands.specs.{SinkState, TookWhole, TookPart, Outcome, Done, Unsound, Stopped, Unread, Unwritten, Refused, refusal_end, Reports}
use Rattle.game_log.proofs.Writing.{fails_both, then_whole, then_some}
use Rattle.tac_commands.specs.declared.refusals.Refusal.{Refusal}
use Rattle.tac_commands.specs.declared.refusals.Refusal.TheVariants.{ReadFault}
use Rattle.tac_commands.specs.declared.ends.End.{End}
use Rattle.tac_commands.specs.declared.ends.End.TheVariants as ends
use Rattle.tac_commands.specs.Ends.{Ends, EndsOrStops, Stops, Finishes}

-- a write of a text failed
reports_some : (allows : Outcome → Type 0) (sink sink' : SinkState) (text : List ℕ) → allows (Done text) ⊎ allows (Unsound text) ⊎ allows (Unwritten text) → TookPart sink sink' text →
    (outcome : Outcome) × allows outcome × Reports outcome sink sink' 4
reports_some allows sink sink' text (inl done) some = (Done text, done, some)
reports_some allows sink sink' text (inr (inl unsound)) some = (Unsound text, unsound, some)
reports_some allows sink sink' text (inr (inr unwritten)) some = (Unwritten text, unwritten, some)

pub reports : (allows : Outcome → Type 0) (sink sink' sink'' : SinkState) (end : End) (code : ℕ) → Ends allows sink sink' end → Finishes end sink' sink'' code →
    (outcome : Outcome) × allows outcome × Reports outcome sink sink'' code
reports allows sink sink' sink'' ends.Done code ended finished =
    (Done ended.0, ended.1, rw finished.0 (refl, subst (λ (s : SinkState). TookWhole sink s ended.0) (sym finished.1) ended.2))
reports allows sink sink' sink'' ends.Unsound code ended finished =
    (Unsound ended.0, ended.1, rw finished.0 (refl, subst (λ (s : SinkState). TookWhole sink s ended.0) (sym finished.1) ended.2))
reports allows sink sink' sink'' ends.WriteFault code ended finished =
    rw finished.0 (reports_some allows sink sink'' ended.0 ended.1 (subst (λ (s : SinkState). TookPart sink s ended.0) (sym finished.1) ended.2))
reports allows sink sink' sink'' (ends.Refused refusal) code ended finished =
    (Refused refusal, ended.0, subst (λ (s : SinkState). Reports (Refused refusal) s sink'' code) ended.1 finished)

-- ---- a command whose text may stop after a first part

-- the first part was written, and then the line of the refusal, or not all of it
stopped_by : (b : Bool) (text line : List ℕ) (due : ℕ) (sink sink' sink'' : SinkState) (code : ℕ) → TookWhole sink sink' text →
    MatchBool b (TookPart sink' sink'' line) ((code ≡ due) × TookWhole sink' sink'' line) →
    MatchBool b (TookPart sink sink'' (text ++ line)) ((code ≡ due) × TookWhole sink sink'' (text ++ line))
stopped_by true text line due sink sink' sink'' code first told = then_some text line sink sink' sink'' first told
stopped_by false text line due sink sink' sink'' code first told = (told.0, then_whole text line sink sink' sink'' first told.1)

reports_stopped : (text : List ℕ) (refusal : Refusal) (sink sink' sink'' : SinkState) (end : End) (code : ℕ) → Stops text refusal sink sink' end → Finishes end sink' sink'' code → Reports (Stopped text refusal) sink sink'' code
reports_stopped text refusal sink sink' sink'' ends.WriteFault code stops finished =
    let both : TookPart sink sink' (text ++ (refusal_end refusal).1) = fails_both text text (refusal_end refusal).1 sink sink' refl stops in
    rw finished.0 (subst (λ (s : SinkState). TookPart sink s (text ++ (refusal_end refusal).1)) (sym finished.1) both)
reports_stopped text refusal sink sink' sink'' (ends.Refused told) code stops finished =
    let same : Reports (Refused refusal) sink' sink'' code = subst (λ (r : Refusal). Reports (Refused r) sink' sink'' code) stops.0 finished in
    stopped_by (code == 4) text (refusal_end refusal).1 (refusal_end refusal).0 sink sink' sink'' code stops.1 same
reports_stopped text refusal sink sink' sink'' end code stops finished = absurd stops

-- the replies were written whole, and then the line of the failed read, or not all of it
broken_by : (b : Bool) (replies line : List ℕ) (due : ℕ) (sink sink' sink'' : SinkState) (code : ℕ) → TookWhole sink sink' replies →
    MatchBool b (TookPart sink' sink'' line) ((code ≡ due) × TookWhole sink' sink'' line) →
    MatchBool b ((between : SinkState) × TookWhole sink between replies × TookPart between sink'' line) ((code ≡ due) × TookWhole sink sink'' (replies ++ line))
broken_by true replies line due sink sink' sink'' code first told = (sink', first, told)
broken_by false replies line due sink sink' sink'' code first told = (told.0, then_whole replies line sink sink' sink'' first told.1)

reports_broken : (replies : List ℕ) (sink sink' sink'' : SinkState) (end : End) (code : ℕ) → end ≡ ends.Refused ReadFault → TookWhole sink sink' replies → Finishes end sink' sink'' code → Reports (Unread replies) sink sink'' code
reports_broken replies sink sink' sink'' end code is whole finished =
    let told : Reports (Refused ReadFault) sink' sink'' code = subst (λ (e : End). Finishes e sink' sink'' code) is finished in
    broken_by (code == 4) replies (refusal_end ReadFault).1 (refusal_end ReadFault).0 sink sink' sink'' code whole told

pub reports_or_stops : (allows : Outcome → Type 0) (sink sink' sink'' : SinkState) (end : End) (code : ℕ) → EndsOrStops allows sink sink' end → Finishes end sink' sink'' code →
    (outcome : Outcome) × allows outcome × Reports outcome sink sink'' code
reports_or_stops allows sink sink' sink'' end code (inl ended) finished = reports allows sink sink' sink'' end code ended finished
reports_or_stops allows sink sink' sink'' end code (inr (inl stops)) finished =
    (Stopped stops.0 stops.1, stops.2, reports_stopped stops.0 stops.1 sink sink' sink'' end code stops.3 finished)
reports_or_stops allows sink sink' sink'' end code (inr (inr broken)) finished =
    (Unread broken.0, broken.1, reports_broken broken.0 sink sink' sink'' end code broken.2 broken.3 finished)

-- a command that allows some outcomes allows them also if more are allowed
ends_weaker : (P Q : Outcome → Type 0) (sink sink' : SinkState) (end : End) → ((outcome : Outcome) → P outcome → Q outcome) → Ends P sink sink' end → Ends Q sink sink' end
ends_weaker P Q sink sink' ends.Done more ended = (ended.0, more (Done ended.0) ended.1, ended.2)
ends_weaker P Q sink sink' ends.Unsound more ended = (ended.0, more (Unsound ended.0) ended.1, ended.2)
ends_weaker P Q sink sink' ends.WriteFault more ended = (ended.0, either ended.1, ended.2)
  where
    either : P (Done ended.0) ⊎ P (Unsound ended.0) ⊎ P (Unwritten ended.0) → Q (Done ended.0) ⊎ Q (Unsound ended.0) ⊎ Q (Unwritten ended.0)
    either (inl done) = inl (more (Done ended.0) done)
    either (inr (inl unsound)) = inr (inl (more (Unsound ended.0) unsound))
    either (inr (inr unwritten)) = inr (inr (more (Unwritten ended.0) unwritten))
ends_weaker P Q sink sink' (ends.Refused refusal) more ended = (more (Refused refusal) ended.0, ended.1)

pub weaker : (P Q : Outcome → Type 0) (sink sink' : SinkState) (end : End) → ((outcome : Outcome) → P outcome → Q outcome) → EndsOrStops P sink sink' end → EndsOrStops Q sink sink' end
weaker P Q sink sink' end more (inl ended) = inl (ends_weaker P Q sink sink' end more ended)
weaker P Q sink sink' end more (inr (inl stops)) = inr (inl (stops.0, stops.1, more (Stopped stops.0 stops.1) stops.2, stops.3))
weaker P Q sink sink' end more (inr (inr broken)) = inr (inr (broken.0, more (Unread broken.0) broken.1, broken.2, broken.3))
