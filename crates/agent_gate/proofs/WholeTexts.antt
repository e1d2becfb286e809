-- A session's end, said of its text as a whole and of its last turn: the same as by its pieces, for all sessions.
use Rattle.std.proofs.Common.{◌≡◌, ℕ, ◌-◌, List, [], ◌∷◌, ◌++◌, map, length, true, refl, sym, ap, ◌∙◌, subst, arith, inl, inr, length-append, ◌⊎◌, flat_map}
use Rattle.std.specs.List.{concat}
use Rattle.std.proofs.lemmas.List.{map-append}
use Rattle.std.proofs.lemmas.List.Concat.{concat_is}
use Rattle.std.proofs.lemmas.List.Folds.{flat_map-map}
use Rattle.agent_gate.specs.{LastWriteFails, NoWriteFails, known_then, IsAtEnd, TakesSome, Said, Cause, HasSessionCause, Session, reply_line, SendsAll, IsCutOff, ComesTo, IsUsedUp, EndsBy, lines_of, Turn, has_left}
use Rattle.tac_io.specs.declared.line_got.LineGot.TheVariants as gots
use Rattle.tac_io.proofs.KnownPieces.{known_then-nothing}
use Rattle.line_protocol.specs.declared.admission.Cause.TheVariants as causes

-- ---- the text as a whole

-- what is sent in a session of these turns
abbrev pub session_text : (Said → List ℕ) → List ℕ → List Turn → List ℕ
session_text text welcome turns = welcome ++ flat_map (reply_line text) turns

-- what is sent in a session
abbrev pub text_of : (Said → List ℕ) → Session → List ℕ
text_of text session = session_text text session.welcome session.turns

-- the session's text was sent whole, and each turn's line is counted
abbrev pub IsWhole : (Said → List ℕ) → Session → ℕ → Type 0
IsWhole text session lines = (session.after.sent ≡ known_then session.before.sent (text_of text session)) × (lines ≡ length session.turns)

-- a write failed: in the welcome, so nothing was asked; or in the line of the last turn
abbrev pub IsInterrupted : (Said → List ℕ) → Session → ℕ → Type 0
IsInterrupted text session lines =
    ((session.turns ≡ []) × TakesSome session.before.sent session.after.sent session.welcome × (lines ≡ 0))
    ⊎ ((answered : List Turn) × (last : Turn) × (session.turns ≡ answered ++ last ∷ [])
    × TakesSome (known_then session.before.sent (session_text text session.welcome answered)) session.after.sent (reply_line text last) × (lines ≡ length answered))

-- the causes of a session's end, except for the counts of faults
abbrev pub EndsFor : Cause → (Said → List ℕ) → Session → ℕ → Type 0
EndsFor causes.Quit text session lines = (has_left session.turns ≡ true) × IsWhole text session lines
EndsFor causes.End text session lines = ComesTo gots.End session × IsAtEnd session.after.left × IsWhole text session lines
EndsFor causes.ReadFault text session lines = ComesTo gots.End session × IsWhole text session lines
EndsFor causes.WriteFault text session lines = IsInterrupted text session lines
EndsFor causes.Budget text session lines = (IsUsedUp session ⊎ ComesTo gots.Budget session) × IsWhole text session lines

-- ---- from pieces to the text and back

-- the pieces of a list that end so are those of a list that ends so
maps_end : {X Y : Type 0} (f : X → Y) (xs : List X) (ys : List Y) (y : Y) → map f xs ≡ ys ++ y ∷ [] → (first : List X) × (last : X) × (xs ≡ first ++ last ∷ []) × (map f first ≡ ys) × (f last ≡ y)
maps_end f [] [] y is = absurd (cc)
maps_end f [] (z ∷ ys) y is = absurd (cc)
maps_end f (x ∷ []) [] y is = ([], x, refl, refl, cc)
maps_end f (x ∷ w ∷ xs) [] y is = absurd (cc)
maps_end f (x ∷ xs) (z ∷ ys) y is =
    let rest : map f xs ≡ ys ++ y ∷ [] = cc in
    let first : f x ≡ z = cc in
    let more = maps_end f xs ys y rest in
    (x ∷ more.0, more.1, ap (λ l. x ∷ l) more.2, (λ i. first i ∷ more.3 i), more.4)

module _ (text : Said → List ℕ) (session : Session) where
  abbrev welcome : List ℕ
  welcome = session.welcome

  abbrev turns : List Turn
  turns = session.turns

  joined : (some : List Turn) → concat (welcome ∷ map (reply_line text) some) ≡ session_text text welcome some
  joined some = ap (λ l. welcome ++ l) (concat_is (map (reply_line text) some) ∙ flat_map-map (λ x. x) (reply_line text) some)

  all_sent : session.after.sent ≡ known_then session.before.sent (text_of text session) → NoWriteFails session.before session.after → SendsAll text session
  all_sent whole quiet = (whole ∙ ap (known_then session.before.sent) (sym (joined turns)), quiet)

  whole_sent : SendsAll text session → session.after.sent ≡ known_then session.before.sent (text_of text session)
  whole_sent all = all.0 ∙ ap (known_then session.before.sent) (joined turns)

  cut_off : (lines : ℕ) → IsInterrupted text session lines → LastWriteFails session.before session.after → IsCutOff text session × (lines ≡ length turns - 1)
  cut_off lines (inl h) failed = (
    record {
      whole = [];
      last = welcome;
      pieces = ap (λ some. welcome ∷ map (reply_line text) some) h.0;
      cut = subst (λ sent. TakesSome sent session.after.sent welcome) (sym (known_then-nothing session.before.sent)) h.1;
      failed = failed;
    },
    h.2 ∙ ap (λ some. length some - 1) (sym h.0),
  )
  cut_off lines (inr h) failed = (
    record {
      whole = welcome ∷ map (reply_line text) h.0;
      last = reply_line text h.1;
      pieces = ap (λ some. welcome ∷ map (reply_line text) some) h.2 ∙ ap (λ l. welcome ∷ l) (map-append (reply_line text) h.0 (h.1 ∷ []));
      cut = subst (λ sent. TakesSome (known_then session.before.sent sent) session.after.sent (reply_line text h.1)) (sym (joined h.0)) h.3;
      failed = failed;
    },
    omega (arith, h.4, length-append h.0 (h.1 ∷ []), ap length h.2),
  )

  interrupted : IsCutOff text session → IsInterrupted text session (length turns - 1)
  interrupted cut = by_pieces cut.whole cut.pieces cut.cut
    where
      by_pieces : (whole : List (List ℕ)) → welcome ∷ map (reply_line text) turns ≡ whole ++ cut.last ∷ [] → TakesSome (known_then session.before.sent (concat whole)) session.after.sent cut.last
          → IsInterrupted text session (length turns - 1)
      by_pieces [] pieces some =
          let none : map (reply_line text) turns ≡ [] = cc in
          let first : cut.last ≡ welcome = cc in
          let empty = nothing turns none in
          inl (empty, subst (λ last. TakesSome session.before.sent session.after.sent last) first (subst (λ sent. TakesSome sent session.after.sent cut.last) (known_then-nothing session.before.sent) some), ap (λ l. length l - 1) empty)
        where
          nothing : (some : List Turn) → map (reply_line text) some ≡ [] → some ≡ []
          nothing [] is = refl
          nothing (turn ∷ more) is = absurd (cc)
      by_pieces (piece ∷ whole) pieces some =
          let rest : map (reply_line text) turns ≡ whole ++ cut.last ∷ [] = cc in
          let first : piece ≡ welcome = cc in
          let parts = maps_end (reply_line text) turns whole cut.last rest in
          let sent : concat (piece ∷ whole) ≡ session_text text welcome parts.0 = (λ i. first i ++ concat (sym parts.3 i)) ∙ joined parts.0 in
          inr (
            parts.0,
            parts.1,
            parts.2,
            subst (λ last. TakesSome (known_then session.before.sent (session_text text welcome parts.0)) session.after.sent last) (sym parts.4)
                (subst (λ taken. TakesSome (known_then session.before.sent taken) session.after.sent cut.last) sent some),
            omega (arith, length-append parts.0 (parts.1 ∷ []), ap length parts.2),
          )

  -- ---- why a session ends

  pub ends_by : (cause : Cause) (lines : ℕ) → EndsFor cause text session lines → HasSessionCause session.before session.after cause → EndsBy cause text session × (lines ≡ lines_of cause turns)
  ends_by causes.Quit lines h faults = ((h.0, all_sent h.1.0 faults.1, faults.0), h.1.1)
  ends_by causes.End lines h faults = ((h.0, h.1, all_sent h.2.0 faults.1, faults.0), h.2.1)
  ends_by causes.ReadFault lines h faults = ((h.0, all_sent h.1.0 faults.1, faults.0), h.1.1)
  ends_by causes.WriteFault lines h faults = let cut = cut_off lines h faults.1 in ((cut.0, faults.0), cut.1)
  ends_by causes.Budget lines h faults = ((h.0, all_sent h.1.0 faults.1, faults.0), h.1.1)

  pub ends_for : (cause : Cause) → EndsBy cause text session → EndsFor cause text session (lines_of cause turns) × HasSessionCause session.before session.after cause
  ends_for causes.Quit h = ((h.0, (whole_sent h.1, refl)), (h.2, h.1.1))
  ends_for causes.End h = ((h.0, h.1, (whole_sent h.2, refl)), (h.3, h.2.1))
  ends_for causes.ReadFault h = ((h.0, (whole_sent h.1, refl)), (h.2, h.1.1))
  ends_for causes.WriteFault h = let cut = h.0 in (interrupted cut, (h.1, cut.failed))
  ends_for causes.Budget h = ((h.0, (whole_sent h.1, refl)), (h.2, h.1.1))
