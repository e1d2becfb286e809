-- A session under way, from turn to turn to its end.
use Rattle.std.proofs.Common.{◌≡◌, ℕ, ◌+◌, ◌^◌, ◌<◌, ◌≤◌, ◌≢◌, List, [], ◌∷◌, ◌++◌, map, length, true, false, Some, None, Ok, Err, refl, sym, ap, ◌∙◌, subst, arith, inl, inr, length-append, Option, Result, flat_map, append_assoc, append-nil}
use Rattle.std.proofs.lemmas.Grind.{flat_map-append}
use Rattle.agent_gate.specs.{answers_left, Held, LinkPlace, Answers, GaveBytes, NoReadFails, NoWriteFails, LinkState, known_then, IsAtEnd, TakesSome, LineGot, Request, RequestFault, Said, Bye, Cause, Desk, IsSameDesk, desk_caller, GameFile, Dialect, SessionState, Item, Asks, Overlong, IsItem, AreItems, Turn, Called, CallDenied, CashRead, CashDenied, Quoted, Refused, Skipped, Quit, item_of, said_of, is_leaving, has_left, AreLawful, Session, reply_line, IsServed, IsSession, HasSessionCause, lines_of, welcome_text, cause_without_line, Says, HasTurn, count_whole}
use Rattle.tac_io.specs.declared.line_got.LineGot.TheVariants as gots
use Rattle.tac_io.proofs.ByBytes.{in_turn}
use Rattle.tac_io.proofs.KnownPieces.{known_then-twice, gave_twice, last_read_fails_then, last_write_fails_then, no_read_fails_twice, no_write_fails_twice}
use Rattle.line_protocol.specs.declared.admission.Cause.TheVariants as causes
use Rattle.agent_gate.proofs.TurnEnds.{standing}
use Rattle.agent_gate.proofs.WholeTexts.{session_text, EndsFor, ends_by}
use Rattle.agent_gate.proofs.LawfulTurns.{lawful_more, has_left-more, none_lawful, zip_more}
use Rattle.agent_gate.proofs.DeskTurns.{HasMade, due_lawful, made_more, all_made}

-- ---- the next answer, whatever comes after the bytes that were taken

-- a link whose remaining bytes are known, and nothing else of it
abbrev leaving : List ℕ → LinkState
leaving left = record { taken = None; left = Some left; sent = None; reads = 0; writes = 0; read_failures = None; write_failures = None }

-- how far a link was read, if it has these bytes left
abbrev with_left : LinkPlace → List ℕ → LinkPlace
with_left place left = record { held = place.held; count = place.count; link = leaving left }

module _ (old new : LinkPlace) where
  -- an item comes from a line, or from one that is too long
  pub item_first : (may_answer : List ℕ → Result Request RequestFault → Type 0) (item : Item) (got : LineGot) (a : Answers old new got) → new.count ≤ 2 ^ 26 → IsItem may_answer (got, new.held.line) item
      → (first : LineGot × List ℕ) × IsItem may_answer first item × ((after : List ℕ) → answers_left old.held (a.more ++ after) old.count ≡ first ∷ answers_left new.held after new.count)
  item_first may_answer item gots.Line a le is = (
    (gots.Line, new.held.line),
    is,
    λ after. in_turn (with_left old (a.more ++ after)) (with_left new after) gots.Line (record { more = a.more; gave = (refl, refl); counted = a.counted; next = a.next }) le,
  )
  item_first may_answer Overlong gots.TooLong a le is = (
    (gots.TooLong, []),
    tt,
    λ after. in_turn (with_left old (a.more ++ after)) (with_left new after) gots.TooLong (record { more = a.more; gave = (refl, refl); counted = a.counted; next = a.next }) le,
  )
  item_first may_answer (Asks asked) gots.TooLong a le is = absurd is
  item_first may_answer (Asks asked) gots.End a le is = absurd is
  item_first may_answer Overlong gots.End a le is = absurd is
  item_first may_answer (Asks asked) gots.Failed a le is = absurd is
  item_first may_answer Overlong gots.Failed a le is = absurd is
  item_first may_answer (Asks asked) gots.Budget a le is = absurd is
  item_first may_answer Overlong gots.Budget a le is = absurd is

  -- the link's bytes end without another line
  pub end_comes : (got : LineGot) (a : Answers old new got) → new.count ≤ 2 ^ 26 → cause_without_line got ≡ Some causes.End
      → (answers_left old.held a.more old.count ≡ (gots.End, []) ∷ []) × IsAtEnd new.link.left
  end_comes gots.End a le is = (
    in_turn (with_left old a.more) (with_left new []) gots.End
        (record { more = a.more; gave = (refl, ap (λ l. Some l) (sym (append-nil a.more))); counted = a.counted; next = (a.next.0, a.next.1, refl) }) le,
    a.next.2,
  )
  end_comes gots.Line a le is = absurd (cc)
  end_comes gots.TooLong a le is = absurd (cc)
  end_comes gots.Failed a le is = absurd (cc)
  end_comes gots.Budget a le is = absurd (cc)

  -- the bytes that came before a failed read end without another line
  pub fault_comes : (got : LineGot) (a : Answers old new got) → new.count ≤ 2 ^ 26 → cause_without_line got ≡ Some causes.ReadFault → answers_left old.held a.more old.count ≡ (gots.End, []) ∷ []
  fault_comes gots.Failed a le is =
      in_turn (with_left old a.more) (with_left new []) gots.End
      (record { more = a.more; gave = (refl, ap (λ l. Some l) (sym (append-nil a.more))); counted = a.counted; next = (a.next.0, a.next.1, refl) }) le
  fault_comes gots.Line a le is = absurd (cc)
  fault_comes gots.TooLong a le is = absurd (cc)
  fault_comes gots.End a le is = absurd (cc)
  fault_comes gots.Budget a le is = absurd (cc)

  -- all bytes were taken that a link may give
  pub budget_comes : (got : LineGot) (a : Answers old new got) → new.count ≤ 2 ^ 26 → cause_without_line got ≡ Some causes.Budget → answers_left old.held a.more old.count ≡ (gots.Budget, []) ∷ []
  budget_comes gots.Budget a le is =
      in_turn (with_left old a.more) (with_left new []) gots.Budget
      (record { more = a.more; gave = (refl, ap (λ l. Some l) (sym (append-nil a.more))); counted = a.counted; next = a.next }) le
  budget_comes gots.Line a le is = absurd (cc)
  budget_comes gots.TooLong a le is = absurd (cc)
  budget_comes gots.End a le is = absurd (cc)
  budget_comes gots.Failed a le is = absurd (cc)

-- ---- what failed

-- a session ends for a fault of its last turn, if no call failed before that turn
pub caused_from : (before now after : LinkState) → NoReadFails before now → NoWriteFails before now → (cause : Cause) → HasSessionCause now after cause → HasSessionCause before after cause
caused_from before now after reads writes causes.Quit h = (no_read_fails_twice before now after reads h.0, no_write_fails_twice before now after writes h.1)
caused_from before now after reads writes causes.End h = (no_read_fails_twice before now after reads h.0, no_write_fails_twice before now after writes h.1)
caused_from before now after reads writes causes.ReadFault h = (last_read_fails_then before now after reads h.0, no_write_fails_twice before now after writes h.1)
caused_from before now after reads writes causes.WriteFault h = (no_read_fails_twice before now after reads h.0, last_write_fails_then before now after writes h.1)
caused_from before now after reads writes causes.Budget h = (no_read_fails_twice before now after reads h.0, no_write_fails_twice before now after writes h.1)

-- ---- which answer is `bye`

leaves : (turn : Turn) → said_of turn ≡ Bye → is_leaving turn ≡ true
leaves (Called request good position entry posted) is = absurd (cc)
leaves (CallDenied request good) is = absurd (cc)
leaves (CashRead position dollars) is = absurd (cc)
leaves CashDenied is = absurd (cc)
leaves (Quoted good board) is = absurd (cc)
leaves (Refused fault) is = absurd (cc)
leaves Skipped is = absurd (cc)
leaves Quit is = refl

stays : (turn : Turn) → said_of turn ≢ Bye → is_leaving turn ≡ false
stays (Called request good position entry posted) is = refl
stays (CallDenied request good) is = refl
stays (CashRead position dollars) is = refl
stays CashDenied is = refl
stays (Quoted good board) is = refl
stays (Refused fault) is = refl
stays Skipped is = refl
stays Quit is = absurd (is refl)

text_more : (text : Said → List ℕ) (welcome : List ℕ) (turns : List Turn) (turn : Turn) → session_text text welcome turns ++ reply_line text turn ≡ session_text text welcome (turns ++ turn ∷ [])
text_more text welcome turns turn =
    append_assoc welcome (flat_map (reply_line text) turns) (reply_line text turn)
    ∙ ap (λ l. welcome ++ (flat_map (reply_line text) turns ++ l)) (sym (append-nil (reply_line text turn)))
    ∙ ap (λ l. welcome ++ l) (sym (flat_map-append (reply_line text) turns (turn ∷ [])))

module _ (dialect : Dialect) (game : GameFile) (before : SessionState) where
  -- what is sent first
  abbrev welcome : List ℕ
  welcome = welcome_text game (desk_caller before.desk)

  -- the text of each reply
  abbrev text : Said → List ℕ
  text = dialect.text

  -- the session, by what it left
  abbrev HasSession : LinkState → Desk → ℕ → Cause → Type 0
  HasSession link desk lines cause = IsSession dialect game before (record { link = link; desk = desk; lines = lines; cause = cause })

  -- the answers that are still to come where a session stands, if these bytes are left
  abbrev to_come : SessionState → List ℕ → List (LineGot × List ℕ)
  to_come state left = answers_left state.place.held left state.place.count

  -- turns were taken, each with a line, and their replies were sent; the agent has not left
  pub record IsUnderWay (now : SessionState) (answered : ℕ) : Type 0 where
    pub more : List ℕ
    pub read : List (LineGot × List ℕ)
    pub turns : List Turn
    pub gave : GaveBytes more before.place.link now.place.link
    pub from : (next : List ℕ) → to_come before (more ++ next) ≡ read ++ to_come now next
    pub items : AreItems dialect.may_answer read (map item_of turns)
    pub many : length turns ≡ answered
    pub lawful : AreLawful turns
    pub here : has_left turns ≡ false
    pub made : HasMade turns before.desk now.desk
    pub sent_is : now.place.link.sent ≡ known_then before.place.link.sent (session_text text welcome turns)

  -- the same with one more turn, of which nothing is said of what was sent or whether the agent left
  record IsTurnOn (now : SessionState) (turns : List Turn) (turn : Turn) : Type 0 where
    pub more : List ℕ
    pub read : List (LineGot × List ℕ)
    pub gave : GaveBytes more before.place.link now.place.link
    pub from : (next : List ℕ) → to_come before (more ++ next) ≡ read ++ to_come now next
    pub items : AreItems dialect.may_answer read (map item_of (turns ++ turn ∷ []))
    pub lawful : AreLawful (turns ++ turn ∷ [])
    pub made : HasMade (turns ++ turn ∷ []) before.desk now.desk

  module _ (now : SessionState) (answered : ℕ) (u : IsUnderWay now answered) (new : SessionState) where
    gave_on : (more : List ℕ) → GaveBytes more now.place.link new.place.link → GaveBytes (u.more ++ more) before.place.link new.place.link
    gave_on more gave = gave_twice before.place.link now.place.link new.place.link u.more more u.gave gave

    on : (got : LineGot) (said : Said) (a : Answers now.place new.place got) → new.place.count ≤ 2 ^ 26 → (s : Says dialect got now new said) → IsSameDesk now.desk new.desk → IsTurnOn new u.turns s.turn
    on got said a le s same = let first = item_first now.place new.place dialect.may_answer (item_of s.turn) got a le s.asked in record {
      more = u.more ++ a.more;
      read = u.read ++ first.0 ∷ [];
      gave = gave_on a.more a.gave;
      from = λ next.
          ap (to_come before) (append_assoc u.more a.more next)
          ∙ u.from (a.more ++ next)
          ∙ ap (λ l. u.read ++ l) (first.2 next)
          ∙ sym (append_assoc u.read (first.0 ∷ []) (to_come new next));
      items = zip_more (IsItem dialect.may_answer) item_of u.read u.turns first.0 s.turn u.items first.1;
      lawful = lawful_more u.turns s.turn u.lawful (due_lawful u.turns s.turn before.desk now.desk u.made s.made.due) u.here;
      made = made_more u.turns s.turn before.desk now.desk new.desk u.made s.made same;
    }

    sent_on : (said : Said) (turn : Turn) → said_of turn ≡ said → new.place.link.sent ≡ known_then now.place.link.sent (text said ++ 10 ∷ []) → new.place.link.sent ≡ known_then before.place.link.sent (session_text text welcome (u.turns ++ turn ∷ []))
    sent_on said turn is whole =
        whole
        ∙ ap (λ w. known_then w (text said ++ 10 ∷ [])) u.sent_is
        ∙ ap (λ w. known_then (known_then before.place.link.sent (session_text text welcome u.turns)) (text w ++ 10 ∷ [])) (sym is)
        ∙ known_then-twice before.place.link.sent (session_text text welcome u.turns) (reply_line text turn)
        ∙ ap (known_then before.place.link.sent) (text_more text welcome u.turns turn)

    pub goes_on : {T : Type 0} (value : T) (t : HasTurn dialect now new (Ok value)) → IsSameDesk now.desk new.desk → IsUnderWay new (answered + 1)
    goes_on value t same = let s = t.turned.1 in let o = on t.got t.turned.0 t.answer t.within s same in record {
      more = o.more;
      read = o.read;
      turns = u.turns ++ s.turn ∷ [];
      gave = o.gave;
      from = o.from;
      items = o.items;
      many = omega (arith, length-append u.turns (s.turn ∷ []), u.many);
      lawful = o.lawful;
      here = has_left-more u.turns s.turn false u.here (stays s.turn (λ is. t.turned.2 (sym s.said ∙ is)));
      made = o.made;
      sent_is = sent_on t.turned.0 s.turn s.said t.turned.3;
    }

    few_on : (turn : Turn) → answered < 65536 → length (u.turns ++ turn ∷ []) ≤ 65536
    few_on turn lt = omega (arith, length-append u.turns (turn ∷ []), u.many)

    -- the session of these turns, as it is left
    abbrev session_with : List Turn → List (LineGot × List ℕ) → Session
    session_with turns rest = record { welcome = welcome; turns = turns; rest = rest; before = before.place.link; after = new.place.link }

    session_of : (more : List ℕ) → GaveBytes more before.place.link new.place.link → (turns : List Turn) (rest : List (LineGot × List ℕ)) (lines : ℕ) (cause : Cause)
        → IsServed dialect (to_come before more) (session_with turns rest) cause → lines ≡ lines_of cause turns → HasMade turns before.desk new.desk → HasSession new.place.link new.desk lines cause
    session_of more gave turns rest lines cause served counted made =
        record { more = more; gave = gave; turns = turns; rest = rest; served = served; counted = counted; made = all_made turns before.desk new.desk made }

    with_turn : (got : LineGot) (said : Said) (a : Answers now.place new.place got) → new.place.count ≤ 2 ^ 26 → (s : Says dialect got now new said) → IsSameDesk now.desk new.desk → answered < 65536
        → (lines : ℕ) (cause : Cause) → ((rest : List (LineGot × List ℕ)) → EndsFor cause text (session_with (u.turns ++ s.turn ∷ []) rest) lines)
        → HasSessionCause before.place.link new.place.link cause → HasSession new.place.link new.desk lines cause
    with_turn got said a le s same lt lines cause end faults = let o = on got said a le s same in
        let turns = u.turns ++ s.turn ∷ [] in let rest = to_come new [] in
        let ended = ends_by text (session_with turns rest) cause lines (end rest) faults in
        session_of o.more o.gave turns rest lines cause (record {
          read = o.read;
          from = ap (to_come before) (sym (append-nil o.more)) ∙ o.from [];
          items = o.items;
          few = few_on s.turn lt;
          lawful = o.lawful;
          end = ended.0;
        }) ended.1 o.made

    without_turn : (got : LineGot) (a : Answers now.place new.place got) → new.desk ≡ now.desk → answered < 65536 → (rest : List (LineGot × List ℕ)) → to_come now a.more ≡ rest
        → (cause : Cause) → EndsFor cause text (session_with u.turns rest) answered → HasSessionCause before.place.link new.place.link cause → HasSession new.place.link new.desk answered cause
    without_turn got a same lt rest is cause end faults =
        let ended = ends_by text (session_with u.turns rest) cause answered end faults in
        session_of (u.more ++ a.more) (gave_on a.more a.gave) u.turns rest answered cause (record {
          read = u.read;
          from = u.from a.more ∙ ap (λ l. u.read ++ l) is;
          items = u.items;
          few = omega (arith, u.many, lt);
          lawful = u.lawful;
          end = ended.0;
        }) ended.1 (subst (HasMade u.turns before.desk) (sym same) u.made)

    still_whole : new.place.link.sent ≡ now.place.link.sent → (new.place.link.sent ≡ known_then before.place.link.sent (session_text text welcome u.turns)) × (answered ≡ length u.turns)
    still_whole quiet = (quiet ∙ u.sent_is, sym u.many)

    few_turns : answered < 65536 → length u.turns < 65536
    few_turns lt = omega (arith, u.many, lt)

    pub ends : {T : Type 0} (cause : Cause) (t : HasTurn {T = T} dialect now new (Err cause)) → IsSameDesk now.desk new.desk → answered < 65536
        → HasSessionCause before.place.link new.place.link cause → HasSession new.place.link new.desk (count_whole answered cause) cause
    ends causes.Quit t same lt faults = let s = t.turned.0 in
        with_turn t.got Bye t.answer t.within s same lt (answered + 1) causes.Quit
        (λ rest. (has_left-more u.turns s.turn true u.here (leaves s.turn s.said), (sent_on Bye s.turn s.said t.turned.1, omega (arith, length-append u.turns (s.turn ∷ []), u.many)))) faults
    ends causes.End t same lt faults = let e = end_comes now.place new.place t.got t.answer t.within t.turned.0 in
        without_turn t.got t.answer t.turned.1 lt ((gots.End, []) ∷ []) e.0 causes.End ((u.here, few_turns lt, refl), e.1, still_whole t.turned.2) faults
    ends causes.ReadFault t same lt faults =
        without_turn t.got t.answer t.turned.1 lt ((gots.End, []) ∷ []) (fault_comes now.place new.place t.got t.answer t.within t.turned.0) causes.ReadFault ((u.here, few_turns lt, refl), still_whole t.turned.2) faults
    ends causes.WriteFault t same lt faults = let s = t.turned.1 in
        with_turn t.got t.turned.0 t.answer t.within s same lt answered causes.WriteFault
        (λ rest. inr (u.turns, s.turn, refl, subst (λ (w : Option (List ℕ) × Said). TakesSome w.0 new.place.link.sent (text w.1 ++ 10 ∷ [])) (λ i. (u.sent_is i, sym s.said i)) t.turned.2, sym u.many)) faults
    ends causes.Budget t same lt faults =
        without_turn t.got t.answer t.turned.1 lt ((gots.Budget, []) ∷ []) (budget_comes now.place new.place t.got t.answer t.within t.turned.0) causes.Budget
        (inr (u.here, few_turns lt, refl), still_whole t.turned.2) faults

  -- all the lines of a session were answered
  pub ends_full : (now : SessionState) (answered : ℕ) (u : IsUnderWay now answered) → answered ≡ 65536
      → HasSessionCause before.place.link now.place.link causes.Budget → HasSession now.place.link now.desk answered causes.Budget
  ends_full now answered u full faults = record {
    more = u.more;
    gave = u.gave;
    turns = u.turns;
    rest = to_come now [];
    served = record {
      read = u.read;
      from = ap (to_come before) (sym (append-nil u.more)) ∙ u.from [];
      items = u.items;
      few = omega (arith, u.many, full);
      lawful = u.lawful;
      end = (ends_by text (record { welcome = welcome; turns = u.turns; rest = to_come now []; before = before.place.link; after = now.place.link }) causes.Budget answered
          (inl (u.here, u.many ∙ full), (u.sent_is, sym u.many)) faults).0;
    };
    counted = sym u.many;
    made = all_made u.turns before.desk now.desk u.made;
  }

  -- the welcome was not sent whole, so nothing was asked
  pub ends_at_once : (link : LinkState) → GaveBytes [] before.place.link link → HasMade [] before.desk before.desk → TakesSome before.place.link.sent link.sent welcome → HasSessionCause before.place.link link causes.WriteFault
      → HasSession link before.desk 0 causes.WriteFault
  ends_at_once link gave made some faults = record {
    more = [];
    gave = gave;
    turns = [];
    rest = to_come before [];
    served = record {
      read = [];
      from = refl;
      items = tt;
      few = omega arith;
      lawful = none_lawful;
      end = (ends_by text (record { welcome = welcome; turns = []; rest = to_come before []; before = before.place.link; after = link }) causes.WriteFault 0 (inl (refl, some, refl)) faults).0;
    };
    counted = refl;
    made = all_made [] before.desk before.desk made;
  }

  pub under_way_at_first : (held : Held) (count : ℕ) (link : LinkState) → held ≡ before.place.held → count ≡ before.place.count → GaveBytes [] before.place.link link → HasMade [] before.desk before.desk
      → link.sent ≡ known_then before.place.link.sent welcome → IsUnderWay (standing held count link before.desk) 0
  under_way_at_first held count link e₁ e₂ gave made whole = record {
    more = [];
    read = [];
    turns = [];
    gave = gave;
    from = λ next i. answers_left (sym e₁ i) next (sym e₂ i);
    items = tt;
    many = refl;
    lawful = none_lawful;
    here = refl;
    made = made;
    sent_is = whole ∙ ap (known_then before.place.link.sent) (sym (append-nil welcome));
  }

  -- the same session, if its values are known by other names
  pub session_as : (link link₂ : LinkState) (after : Desk) (lines lines₂ : ℕ) (cause : Cause) → link₂ ≡ link → lines₂ ≡ lines → HasSession link after lines cause → HasSession link₂ after lines₂ cause
  session_as link link₂ after lines lines₂ cause e₁ e₂ s = subst (λ (w : LinkState × ℕ). HasSession w.0 after w.1 cause) (λ i. (sym e₁ i, sym e₂ i)) s
