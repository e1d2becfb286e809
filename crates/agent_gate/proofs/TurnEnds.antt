-- How a turn ends.
use Rattle.std.proofs.Common.{◌≡◌, ℕ, ◌≢◌, [], ◌∷◌, ◌++◌, Some, Ok, Err, refl, sym, ap, ◌∙◌, subst, Result}
use Rattle.agent_gate.specs.{Held, LinkPlace, Answers, IsNext, ReadsNothing, LinkState, known_then, then_known, IsAtEnd, TakesSome, LineGot, Said, Bye, Cause, Desk, Dialect, SessionState, cause_without_line, TakesNext, Says, IsTurned, HasTurn}
use Rattle.tac_io.specs.declared.line_got.LineGot.TheVariants as gots
use Rattle.line_protocol.specs.declared.admission.Cause.TheVariants as causes

-- the next of the lines' answers never says that the agent left, or that a write failed
ends_alone : (got : LineGot) (cause : Cause) → cause_without_line got ≡ Some cause → (cause ≢ causes.Quit) × (cause ≢ causes.WriteFault)
ends_alone gots.Line cause is = absurd (cc)
ends_alone gots.TooLong cause is = absurd (cc)
ends_alone gots.End cause is = (λ e. cc, λ e. cc)
ends_alone gots.Failed cause is = (λ e. cc, λ e. cc)
ends_alone gots.Budget cause is = (λ e. cc, λ e. cc)

module _ (T : Type 0) (dialect : Dialect) (got : LineGot) (before after : SessionState) where
  no_turn : (cause : Cause) → cause_without_line got ≡ Some cause → after.desk ≡ before.desk → after.place.link.sent ≡ before.place.link.sent → IsTurned {T = T} dialect got before after (Err cause)
  no_turn causes.Quit is same quiet = absurd ((ends_alone got causes.Quit is).0 refl)
  no_turn causes.End is same quiet = (is, same, quiet)
  no_turn causes.ReadFault is same quiet = (is, same, quiet)
  no_turn causes.WriteFault is same quiet = absurd ((ends_alone got causes.WriteFault is).1 refl)
  no_turn causes.Budget is same quiet = (is, same, quiet)

-- the same answer, where nothing was read since
answers_on : (old new : LinkPlace) (link : LinkState) (got : LineGot) → Answers old new got → link.taken ≡ new.link.taken → link.left ≡ new.link.left
    → Answers old (record { held = new.held; count = new.count; link = link }) got
answers_on old new link got a taken left = record {
  more = a.more;
  gave = (taken ∙ a.gave.0, a.gave.1 ∙ ap (then_known a.more) (sym left));
  counted = a.counted;
  next = subst (λ bytes. IsNext got (old.held.unread ++ a.more) new.held (IsAtEnd bytes) new.count) (sym left) a.next;
}

-- where a session stands by all its parts
abbrev pub standing : Held → ℕ → LinkState → Desk → SessionState
standing held count link desk = record { place = record { held = held; count = count; link = link }; desk = desk }

module _ {T : Type 0} (dialect : Dialect) (before after : SessionState) where
  -- no line came
  pub turn_none : (result : Result T Cause) (cause : Cause) → result ≡ Err cause → TakesNext dialect before after (Err cause) → after.place.link.sent ≡ before.place.link.sent → HasTurn dialect before after result
  turn_none result cause is next quiet = record {
    got = next.got;
    answer = next.answer;
    within = next.within;
    turned = subst (IsTurned dialect next.got before after) (sym is) (no_turn T dialect next.got before after cause next.asked.0 next.asked.1 quiet);
  }

  -- a line came, and its reply was sent, whole or not
  module _ (said : Said) (held : Held) (link : LinkState) (count : ℕ) (next : TakesNext dialect before after (Ok said))
      (e₁ : held ≡ after.place.held) (e₂ : count ≡ after.place.count) (read : ReadsNothing after.place.link link) (quiet : after.place.link.sent ≡ before.place.link.sent) where
    turn_said : (result : Result T Cause) → ((got : LineGot) → Says dialect got before after said → IsTurned dialect got before (standing after.place.held after.place.count link after.desk) result)
        → HasTurn dialect before (standing held count link after.desk) result
    turn_said result turned =
        subst (λ (w : Held × ℕ). HasTurn dialect before (standing w.0 w.1 link after.desk) result) (λ i. (sym e₁ i, sym e₂ i))
        (record { got = next.got; answer = answers_on before.place after.place link next.got next.answer read.0 read.1; within = next.within; turned = turned next.got next.asked })

    pub turn_cut_off : TakesSome after.place.link.sent link.sent (dialect.text said ++ 10 ∷ []) → HasTurn {T = T} dialect before (standing held count link after.desk) (Err causes.WriteFault)
    turn_cut_off some = turn_said (Err causes.WriteFault) (λ got says. (said, says, subst (λ s. TakesSome s link.sent (dialect.text said ++ 10 ∷ [])) quiet some))

    pub turn_left : said ≡ Bye → link.sent ≡ known_then after.place.link.sent (dialect.text said ++ 10 ∷ []) → HasTurn {T = T} dialect before (standing held count link after.desk) (Err causes.Quit)
    turn_left is whole = turn_said (Err causes.Quit)
        (λ got says. (subst (Says dialect got before after) is says, whole ∙ ap (λ s. known_then s (dialect.text said ++ 10 ∷ [])) quiet ∙ ap (λ s. known_then before.place.link.sent (dialect.text s ++ 10 ∷ [])) is))
