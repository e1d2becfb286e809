-- When each code of a command comes.
use Rattle.std.proofs.Common.{◌≡◌, ◌≢◌, ◌<◌, ℕ, refl, sym, ◌∙◌, ap, inl, inr, arith, Option, Some, None, ◌⊎◌, IfSome}
use Rattle.tac_commands.specs.{Rose, FilesState, SinkState, LinksState, TickerState, BatchCommand, Command, Batch, Serve, service_or_batch, Outcome, Refused, code_of, outside_of, Allows, steps_of, Reports, Selects, IsQuiet, UsageExactly, ReadFaultExactly, GameRefusedExactly, TextRefusedExactly, HasRefusedGame, HasRefusedText, HasGoodFiles, HasUnsoundLog, UnsoundExactly, IsGoodEnd, IsFaultless, IsComplete, LinkFaultExactly, ClockFaultExactly}
use Rattle.tac_commands.specs.declared.refusals.Refusal.TheVariants.{Usage}
use Rattle.tac_commands.proofs.CodedOutcomes.{IsCoded, coded, explained_only, explained_always, told_four}
use Rattle.tac_commands.proofs.OwnCodes.{OwnCode, own_code, last_code}
use Rattle.tac_commands.proofs.FileCauses as causes

module _ (files files' : FilesState) (outcome : Outcome) where
  -- ---- what is known of the outcome

  read_explained : (command : Option Command) → Allows command files files' outcome → ((code_of outcome ≡ 3) × Rose files.faults files'.faults) ⊎ ((code_of outcome ≢ 3) × (files'.faults ≡ files.faults))
  read_explained None allowed = let is = ap code_of allowed.0 in inr (λ three. omega (arith, is, three), allowed.1.1)
  read_explained (Some command) allowed = causes.read_explained files' outcome (OwnCode command) (last_code command) (steps_of command) (own_code command) files allowed

  game_only : (command : Option Command) → Allows command files files' outcome → code_of outcome ≡ 2 → IfSome files.content (λ _. HasRefusedGame files.content command)
  game_only None allowed is = let one = ap code_of allowed.0 in absurd (omega (arith, one, is))
  game_only (Some command) allowed is =
      causes.refused_only files' outcome (OwnCode command) (last_code command) 2 (inl refl) (steps_of command) (own_code command) files allowed is

  text_only : (command : Option Command) → Allows command files files' outcome → code_of outcome ≡ 8 → IfSome files.content (λ _. HasRefusedText files.content command)
  text_only None allowed is = let one = ap code_of allowed.0 in absurd (omega (arith, one, is))
  text_only (Some command) allowed is =
      causes.refused_only files' outcome (OwnCode command) (last_code command) 8 (inr refl) (steps_of command) (own_code command) files allowed is

  game_due : (command : Option Command) → Allows command files files' outcome → HasRefusedGame files.content command → IsQuiet files.faults files'.faults → causes.IsCodeDue files' outcome 2
  game_due None allowed refused quiet = absurd refused
  game_due (Some command) allowed refused quiet = causes.refused_due files' outcome 2 (steps_of command) files quiet refused allowed

  text_due : (command : Option Command) → Allows command files files' outcome → HasRefusedText files.content command → IsQuiet files.faults files'.faults → causes.IsCodeDue files' outcome 8
  text_due None allowed refused quiet = absurd refused
  text_due (Some command) allowed refused quiet = causes.refused_due files' outcome 8 (steps_of command) files quiet refused allowed

  unsound_only : (command : Option Command) → Allows command files files' outcome → code_of outcome ≡ 9 → IfSome files.content (λ _. HasUnsoundLog files.content command)
  unsound_only None allowed is = let one = ap code_of allowed.0 in absurd (omega (arith, one, is))
  unsound_only (Some command) allowed is =
      causes.unsound_only files' outcome (OwnCode command) (last_code command) (steps_of command) (own_code command) files allowed is

  unsound_due : (command : Option Command) → Allows command files files' outcome → HasUnsoundLog files.content command → IsQuiet files.faults files'.faults → (code_of outcome ≡ 9) ⊎ (code_of outcome ≡ 7)
  unsound_due None allowed unsound quiet = absurd unsound
  unsound_due (Some command) allowed unsound quiet = causes.unsound_due files' outcome (steps_of command) files quiet unsound allowed

  -- if the files that are read are good, the code is one of these, and 9 only if a log is not sound
  abbrev IsReadyCode : Option Command → ℕ → Type 0
  IsReadyCode command code = (code ≡ 0) ⊎ (code ≡ 5) ⊎ (code ≡ 6) ⊎ (code ≡ 7) ⊎ ((code ≡ 9) × HasUnsoundLog files.content command) ⊎ (code ≡ 4)

  own_ready : (command : Command) (code : ℕ) → OwnCode command code → IsReadyCode (Some command) code
  own_ready (Batch command) code (inl zero) = inl zero
  own_ready (Batch command) code (inr seven) = inr (inr (inr (inl seven)))
  own_ready (Serve service) code (inl zero) = inl zero
  own_ready (Serve service) code (inr (inl five)) = inr (inl five)
  own_ready (Serve service) code (inr (inr (inl six))) = inr (inr (inl six))
  own_ready (Serve service) code (inr (inr (inr seven))) = inr (inr (inr (inl seven)))

  ready_code : (command : Option Command) → Allows command files files' outcome → HasGoodFiles files.content command → IsQuiet files.faults files'.faults → IsReadyCode command (code_of outcome)
  ready_code None allowed ready quiet = absurd ready
  ready_code (Some command) allowed ready quiet =
      either (causes.ready files' outcome (OwnCode command) (last_code command) (steps_of command) (own_code command) files quiet ready allowed)
    where
      either : OwnCode command (code_of outcome) ⊎ (code_of outcome ≡ 7) ⊎ (code_of outcome ≡ 4) ⊎ ((code_of outcome ≡ 9) × HasUnsoundLog files.content (Some command)) → IsReadyCode (Some command) (code_of outcome)
      either (inl own) = own_ready command (code_of outcome) own
      either (inr (inl seven)) = inr (inr (inr (inl seven)))
      either (inr (inr (inl four))) = inr (inr (inr (inr (inr four))))
      either (inr (inr (inr nine))) = inr (inr (inr (inr (inl nine))))

  -- ---- the codes

  -- the code is one of the last step, or of a file or an audit
  abbrev IsSomeCode : Command → ℕ → Type 0
  IsSomeCode command code = OwnCode command code ⊎ causes.IsEarlyCode files' outcome (OwnCode command) (last_code command) code

  some_code : (command : Command) → Allows (Some command) files files' outcome → IsSomeCode command (code_of outcome)
  some_code command allowed = causes.codes files' outcome (OwnCode command) (last_code command) (steps_of command) (own_code command) files allowed

  -- a command that needs no links has no code of theirs, nor has a refusal of the words
  pub no_link_code : (command : Option BatchCommand) → Allows (service_or_batch None command) files files' outcome → (code_of outcome ≢ 5) × (code_of outcome ≢ 6)
  no_link_code None allowed = let one = ap code_of allowed.0 in (λ five. omega (arith, one, five), λ six. omega (arith, one, six))
  no_link_code (Some command) allowed = let either = some_code (Batch command) allowed in (λ five. grind (arith, either, five), λ six. grind (arith, either, six))

  no_usage_code : (command : Command) → IsSomeCode command (code_of outcome) → code_of outcome ≡ 1 → ⊥
  no_usage_code command (inl own) one = (last_code command (code_of outcome) own).no_usage one
  no_usage_code command (inr early) one = grind (arith, early, one)

  module _ (sink sink' : SinkState) (code : ℕ) (told : Reports outcome sink sink' code) where
    either : IsCoded sink sink' code outcome
    either = coded outcome sink sink' code told

    usage_only : (command : Command) → Allows (Some command) files files' outcome → IsCoded sink sink' code outcome → code ≡ 1 → ⊥
    usage_only command allowed (inl four) one = let is = four.0 in absurd (omega (arith, is, one))
    usage_only command allowed (inr same) one = no_usage_code command (some_code command allowed) (sym same ∙ one)

    usage_always : outcome ≡ Refused Usage → IsCoded sink sink' code outcome → (code ≡ 1) ⊎ (code ≡ 4)
    usage_always is (inl four) = inr four.0
    usage_always is (inr same) = inl (same ∙ ap code_of is)

    pub usage : (command : Option Command) → Allows command files files' outcome → UsageExactly command code
    usage None allowed = record { only = λ one. refl; always = λ none. usage_always allowed.0 either }
    usage (Some command) allowed = record { only = λ one. absurd (usage_only command allowed either one); always = λ none. absurd (cc) }

    pub game_refused : (command : Option Command) → Allows command files files' outcome → GameRefusedExactly command files files' code
    game_refused command allowed = record {
      only = explained_only sink sink' code outcome 2 (IfSome files.content (λ _. HasRefusedGame files.content command)) (λ e. absurd (omega (arith, e))) (game_only command allowed) either;
      always = λ bad quiet. explained_always sink sink' code outcome 2 (game_due command allowed bad quiet) either;
    }

    pub text_refused : (command : Option Command) → Allows command files files' outcome → TextRefusedExactly command files files' code
    text_refused command allowed = record {
      only = explained_only sink sink' code outcome 8 (IfSome files.content (λ _. HasRefusedText files.content command)) (λ e. absurd (omega (arith, e))) (text_only command allowed) either;
      always = λ bad quiet. explained_always sink sink' code outcome 8 (text_due command allowed bad quiet) either;
    }

    or_four : (code_of outcome ≡ 9) ⊎ (code_of outcome ≡ 7) → causes.IsCodeDue files' outcome 9
    or_four (inl nine) = inl nine
    or_four (inr seven) = inr (inl seven)

    pub unsound : (command : Option Command) → Allows command files files' outcome → UnsoundExactly command files files' code
    unsound command allowed = record {
      only = explained_only sink sink' code outcome 9 (IfSome files.content (λ _. HasUnsoundLog files.content command)) (λ e. absurd (omega (arith, e))) (unsound_only command allowed) either;
      always = λ unsound quiet. explained_always sink sink' code outcome 9 (or_four (unsound_due command allowed unsound quiet)) either;
    }

    pub read_fault : (command : Option Command) → Allows command files files' outcome → ReadFaultExactly files files' code
    read_fault command allowed = record {
      only = explained_only sink sink' code outcome 3 (Rose files.faults files'.faults) (λ e. absurd (omega (arith, e))) (λ is. only_three (read_explained command allowed) is) either;
      always = λ rose. three_or_four (read_explained command allowed) either rose;
    }
      where
        only_three : ((code_of outcome ≡ 3) × Rose files.faults files'.faults) ⊎ ((code_of outcome ≢ 3) × (files'.faults ≡ files.faults)) → code_of outcome ≡ 3 → Rose files.faults files'.faults
        only_three (inl fault) is = fault.1
        only_three (inr same) is = absurd (same.0 is)

        three_or_four : ((code_of outcome ≡ 3) × Rose files.faults files'.faults) ⊎ ((code_of outcome ≢ 3) × (files'.faults ≡ files.faults)) → IsCoded sink sink' code outcome → files.faults < files'.faults → (code ≡ 3) ⊎ (code ≡ 4)
        three_or_four cause (inl four) rose = inr four.0
        three_or_four (inl fault) (inr same) rose = inl (same ∙ fault.0)
        three_or_four (inr quiet) (inr same) rose = absurd (omega (arith, quiet.1, rose))

    pub selected : (command : Option Command) → Allows command files files' outcome → Selects command files files' code
    selected None allowed = allowed.1.0
    selected (Some command) allowed =
        causes.selects files' outcome (OwnCode command) (last_code command) code (four_or_same either) (steps_of command) (own_code command) files allowed
      where
        four_or_same : IsCoded sink sink' code outcome → (code ≡ 4) ⊎ (code ≡ code_of outcome)
        four_or_same (inl four) = inl four.0
        four_or_same (inr same) = inr same

    pub is_complete : {L : Type 0} (links links' : LinksState L) (ticker ticker' : TickerState) (command : Option Command) → Allows command files files' outcome → LinkFaultExactly links links' code →
        ClockFaultExactly ticker ticker' code → IsComplete command (outside_of files sink links ticker) (outside_of files' sink' links' ticker') code
    is_complete {L} links links' ticker ticker' command allowed link clock = record { good = λ ready faultless. by_code ready faultless either }
      where
        by_own : IsFaultless (outside_of files sink links ticker) (outside_of files' sink' links' ticker') → code ≡ code_of outcome → IsReadyCode command (code_of outcome) → (code ≡ 0) ⊎ (code ≡ 7) ⊎ (code ≡ 9)
        by_own faultless same (inl zero) = inl (same ∙ zero)
        by_own faultless same (inr (inl five)) = absurd (causes.quiet_did_not_rise links.faults links'.faults faultless.links (link.only (same ∙ five)))
        by_own faultless same (inr (inr (inl six))) = absurd (causes.quiet_did_not_rise ticker.faults ticker'.faults faultless.ticker (clock.only (same ∙ six)))
        by_own faultless same (inr (inr (inr (inl seven)))) = inr (inl (same ∙ seven))
        by_own faultless same (inr (inr (inr (inr (inl nine))))) = inr (inr (same ∙ nine.0))
        by_own faultless same (inr (inr (inr (inr (inr four))))) = absurd (causes.quiet_did_not_rise sink.faults sink'.faults faultless.out (told_four sink sink' code outcome told (same ∙ four)))

        only_unsound : code_of outcome ≡ 9 → IsReadyCode command (code_of outcome) → HasUnsoundLog files.content command
        only_unsound is (inl zero) = absurd (omega (arith, is, zero))
        only_unsound is (inr (inl five)) = absurd (omega (arith, is, five))
        only_unsound is (inr (inr (inl six))) = absurd (omega (arith, is, six))
        only_unsound is (inr (inr (inr (inl seven)))) = absurd (omega (arith, is, seven))
        only_unsound is (inr (inr (inr (inr (inl nine))))) = nine.1
        only_unsound is (inr (inr (inr (inr (inr four))))) = absurd (omega (arith, is, four))

        explained_due : code ≡ code_of outcome → (code_of outcome ≡ 9) ⊎ (code_of outcome ≡ 7) → (code ≡ 9) ⊎ (code ≡ 7)
        explained_due same (inl nine) = inl (same ∙ nine)
        explained_due same (inr seven) = inr (same ∙ seven)

        by_code : HasGoodFiles files.content command → IsFaultless (outside_of files sink links ticker) (outside_of files' sink' links' ticker') → IsCoded sink sink' code outcome → IsGoodEnd files.content command code
        by_code ready faultless (inl four) = absurd (causes.quiet_did_not_rise sink.faults sink'.faults faultless.out four.1)
        by_code ready faultless (inr same) = record {
          one_of = by_own faultless same (ready_code command allowed ready faultless.files);
          only = λ nine. only_unsound (sym same ∙ nine) (ready_code command allowed ready faultless.files);
          always = λ unsound. explained_due same (unsound_due command allowed unsound faultless.files);
        }
