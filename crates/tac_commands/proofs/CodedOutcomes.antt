-- The code of an outcome.
use Rattle.std.proofs.Common.{◌≡◌, ℕ, Bool, true, false, refl, sym, ◌∙◌, inl, inr, ◌==◌, ◌⊎◌, MatchBool, eqb-true}
use Rattle.tac_commands.specs.{Rose, SinkState, TookPart, Outcome, Unread, code_of, refusal_end, IsCutShort, Reports, exit_text}
use Rattle.game_log.proofs.Writing.{then_some}
use Rattle.tac_commands.specs.declared.refusals.Refusal.TheVariants.{ReadFault}

-- only the first bytes of the text that is due were written, whatever the outcome
pub cut_part : (outcome : Outcome) (sink sink' : SinkState) → IsCutShort outcome sink sink' → TookPart sink sink' (exit_text outcome)
cut_part (Unread text) sink sink' cut = then_some text (refusal_end ReadFault).1 sink cut.0 sink' cut.1 cut.2
cut_part outcome sink sink' cut = cut

-- it is 4 if the count of the sink rose, or the outcome's
abbrev pub IsCoded : SinkState → SinkState → ℕ → Outcome → Type 0
IsCoded sink sink' code outcome = ((code ≡ 4) × Rose sink.faults sink'.faults) ⊎ (code ≡ code_of outcome)

coded_by : (b : Bool) (sink sink' : SinkState) (code : ℕ) (outcome : Outcome) (Q : Type 0) → (code == 4) ≡ b → MatchBool b (IsCutShort outcome sink sink') ((code ≡ code_of outcome) × Q) →
    IsCoded sink sink' code outcome
coded_by true sink sink' code outcome Q e told = inl (eqb-true code 4 e, (cut_part outcome sink sink' told).1)
coded_by false sink sink' code outcome Q e told = inr told.0

pub coded : (outcome : Outcome) (sink sink' : SinkState) (code : ℕ) → Reports outcome sink sink' code → IsCoded sink sink' code outcome
coded outcome sink sink' code told = coded_by (code == 4) sink sink' code outcome _ refl told

module _ (sink sink' : SinkState) (code : ℕ) (outcome : Outcome) where
  -- if the outcome has the code only from its cause, so has the program
  pub explained_only : (due : ℕ) (Cause : Type 0) → (due ≡ 4 → ⊥) → (code_of outcome ≡ due → Cause) → IsCoded sink sink' code outcome → code ≡ due → Cause
  explained_only due Cause not_four cause (inl four) is = absurd (not_four (sym is ∙ four.0))
  explained_only due Cause not_four cause (inr same) is = cause (sym same ∙ is)

  -- if the outcome always has the code, or that of memory or of a failed write, the program ends with it, or a write failed
  pub explained_always : (due : ℕ) → (code_of outcome ≡ due) ⊎ (code_of outcome ≡ 7) ⊎ (code_of outcome ≡ 4) → IsCoded sink sink' code outcome → (code ≡ due) ⊎ (code ≡ 4) ⊎ (code ≡ 7)
  explained_always due either (inl four) = inr (inl four.0)
  explained_always due (inl is_due) (inr same) = inl (same ∙ is_due)
  explained_always due (inr (inl is_seven)) (inr same) = inr (inr (same ∙ is_seven))
  explained_always due (inr (inr is_four)) (inr same) = inr (inl (same ∙ is_four))

  -- 4 comes only if the count of the sink rose
  pub told_four : Reports outcome sink sink' code → code ≡ 4 → Rose sink.faults sink'.faults
  told_four told is = let test : (code == 4) ≡ true = rw is refl in (cut_part outcome sink sink' (rw test at told)).1
