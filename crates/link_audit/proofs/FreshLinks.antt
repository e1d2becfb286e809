-- A link that was seated, and whose bytes are known, came to what one came to that had these bytes to give and was sent nothing before.
use Rattle.std.proofs.Common.{◌≡◌, ℕ, List, [], ◌∷◌, ◌++◌, length, take, None, Some, refl, sym, ap, ◌∙◌, subst, arith, inl, inr, Option, append_assoc}
use Rattle.std.proofs.lemmas.List.{append_cancel_left}
use Rattle.tac_io.specs.Counts.{Rose}
use Rattle.tac_io.specs.Known.{IsAtEnd, TakesSome, known_then, then_known}
use Rattle.link_audit.specs.{LinkState, Cause, Said, Seats, Session, reply_line, lines_of, welcome_text, HostedGame, IsSeated, PlayedGame, HasBytes, fresh_link}
use Rattle.line_protocol.specs.declared.admission.Cause.TheVariants as causes
use Rattle.agent_gate.specs.Turning.{HasSessionCause}
use Rattle.agent_gate.proofs.WholeTexts.{EndsFor, ends_by, ends_for, session_text}

rose_once : Rose 0 1
rose_once = record { never_falls = omega arith; rises = omega arith; stays = λ is. absurd (omega (arith, is)) }

module _ (asked said bytes rest : List ℕ) where
  -- what became of the link, by the cause of its session's end
  abbrev quiet : LinkState
  quiet = record { taken = Some bytes; left = Some rest; sent = Some said; reads = 0; writes = 0; read_failures = Some []; write_failures = Some [] }

  abbrev left_by : Cause → LinkState
  left_by causes.Quit = quiet
  left_by causes.End = quiet
  left_by causes.ReadFault = record quiet { reads = 1; read_failures = Some (length bytes ∷ []) }
  left_by causes.WriteFault = record quiet { writes = 1; write_failures = Some (length said ∷ []) }
  left_by causes.Budget = quiet

  faults_by : (cause : Cause) → HasSessionCause (fresh_link asked) (left_by cause) cause
  faults_by causes.Quit = ((refl, refl), (refl, refl))
  faults_by causes.End = ((refl, refl), (refl, refl))
  faults_by causes.ReadFault = ((rose_once, refl), (refl, refl))
  faults_by causes.WriteFault = ((refl, refl), (rose_once, refl))
  faults_by causes.Budget = ((refl, refl), (refl, refl))

  taken_by : (cause : Cause) → (left_by cause).taken ≡ Some bytes
  taken_by causes.Quit = refl
  taken_by causes.End = refl
  taken_by causes.ReadFault = refl
  taken_by causes.WriteFault = refl
  taken_by causes.Budget = refl

  left_is : (cause : Cause) → (left_by cause).left ≡ Some rest
  left_is causes.Quit = refl
  left_is causes.End = refl
  left_is causes.ReadFault = refl
  left_is causes.WriteFault = refl
  left_is causes.Budget = refl

  sent_is : (cause : Cause) → (left_by cause).sent ≡ Some said
  sent_is causes.Quit = refl
  sent_is causes.End = refl
  sent_is causes.ReadFault = refl
  sent_is causes.WriteFault = refl
  sent_is causes.Budget = refl

-- what was left, and what was sent
pub gave_rest : (asked bytes : List ℕ) (left : Option (List ℕ)) → Some asked ≡ then_known bytes left → (rest : List ℕ) × (asked ≡ bytes ++ rest) × (left ≡ Some rest)
gave_rest asked bytes None is = absurd cc
gave_rest asked bytes (Some rest) is = (rest, cc, refl)

same_bytes : (first said text : List ℕ) → Some (first ++ said) ≡ Some (first ++ text) → said ≡ text
same_bytes first said text is = append_cancel_left first said text (let both : first ++ said ≡ first ++ text = cc in both)

module _ (before after : LinkState) (asked said : List ℕ) (has : HasBytes before after asked said) where
  sent_here : (text : List ℕ) → after.sent ≡ known_then before.sent text → said ≡ text
  sent_here text is = same_bytes has.sent_at_first said text (sym has.sent_after ∙ (is ∙ ap (λ (known : Option (List ℕ)). known_then known text) has.sent_before))

  some_here : (whole last : List ℕ) → TakesSome (known_then before.sent whole) after.sent last → TakesSome (known_then (Some []) whole) (Some said) last
  some_here whole last some = record {
    count = some.count;
    proper = some.proper;
    taken = ap Some (same_bytes has.sent_at_first said (whole ++ take some.count last)
        (sym has.sent_after ∙ (some.taken ∙ (ap (λ (known : Option (List ℕ)). known_then (known_then known whole) (take some.count last)) has.sent_before
        ∙ ap Some (append_assoc has.sent_at_first whole (take some.count last))))));
  }

  first_here : (last : List ℕ) → TakesSome before.sent after.sent last → TakesSome (Some []) (Some said) last
  first_here last some = record {
    count = some.count;
    proper = some.proper;
    taken = ap Some (sent_here (take some.count last) some.taken);
  }

module _ (hosted : HostedGame) (played : PlayedGame) (seats : Seats) (agent : ℕ) (before after : LinkState) (asked said : List ℕ) (has : HasBytes before after asked said)
    (s : IsSeated hosted played seats agent before after) where
  abbrev text : Said → List ℕ
  text = hosted.dialect.text

  abbrev session_of : LinkState → LinkState → Session
  session_of first last = record { welcome = welcome_text hosted.game agent; turns = s.turns; rest = s.rest; before = first; after = last }

  gave : (rest : List ℕ) × (asked ≡ s.bytes ++ rest) × (after.left ≡ Some rest)
  gave = gave_rest asked s.bytes after.left (sym has.had ∙ s.gave.1)

  abbrev left : Cause → LinkState
  left cause = left_by asked said s.bytes gave.0 cause

  whole_here : after.sent ≡ known_then before.sent (session_text text (welcome_text hosted.game agent) s.turns) → ◌≡◌ {A = Option (List ℕ)} (Some said) (Some (session_text text (welcome_text hosted.game agent) s.turns))
  whole_here is = ap Some (sent_here before after asked said has (session_text text (welcome_text hosted.game agent) s.turns) is)

  ends : (cause : Cause) (count : ℕ) → EndsFor cause text (session_of before after) count → EndsFor cause text (session_of (fresh_link asked) (left cause)) count
  ends causes.Quit count h = (h.0, (whole_here h.1.0, h.1.1))
  ends causes.End count h = (h.0, subst (λ (known : Option (List ℕ)). IsAtEnd known) gave.2 h.1, (whole_here h.2.0, h.2.1))
  ends causes.ReadFault count h = (h.0, (whole_here h.1.0, h.1.1))
  ends causes.Budget count h = (h.0, (whole_here h.1.0, h.1.1))
  ends causes.WriteFault count (inl none) = inl (none.0, first_here before after asked said has (welcome_text hosted.game agent) none.1, none.2)
  ends causes.WriteFault count (inr cut) = inr (
    cut.0,
    cut.1,
    cut.2,
    some_here before after asked said has (session_text text (welcome_text hosted.game agent) cut.0) (reply_line text cut.1) cut.3,
    cut.4,
  )

  -- what a link came to that had these bytes to give, and was sent nothing before
  fresh_seated : IsSeated hosted played seats agent (fresh_link asked) (left s.cause)
  fresh_seated =
      let count : ℕ = lines_of s.cause s.turns in
      let session : Session = session_of (fresh_link asked) (left s.cause) in
      record {
        cause = s.cause;
        ended = s.ended;
        bytes = s.bytes;
        gave = (taken_by asked said s.bytes gave.0 s.cause, ap Some gave.1 ∙ ap (then_known s.bytes) (sym (left_is asked said s.bytes gave.0 s.cause)));
        line = s.line;
        answers = s.answers;
        first = s.first;
        seat = s.seat;
        turns = s.turns;
        rest = s.rest;
        served = record {
          read = s.served.read;
          from = s.served.from;
          items = s.served.items;
          few = s.served.few;
          lawful = s.served.lawful;
          end = (ends_by text session s.cause count (ends s.cause count (ends_for text (session_of before after) s.cause s.served.end).0) (faults_by asked said s.bytes gave.0 s.cause)).0;
        };
        transcript = s.transcript;
      }

  -- such a link, and what it was sent
  pub fresh : (last : LinkState) × (last.sent ≡ Some said) × IsSeated hosted played seats agent (fresh_link asked) last
  fresh = (left s.cause, sent_is asked said s.bytes gave.0 s.cause, fresh_seated)
