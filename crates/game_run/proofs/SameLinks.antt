-- `IsSeatedLink` and `IsPlayedGame` say of a game that was played what `IsSeated` and `IsPlayedOver` say.
use Rattle.std.proofs.Common.{◌≡◌, ℕ, zero, suc, List, [], ◌∷◌, ◌++◌, refl, sym, ap, ◌∙◌, subst, arith, Option, Some, None, length, map, take, slice_get, fold}
use Rattle.std.proofs.lemmas.List.{length-map}
use Rattle.game_run.specs.Prelude.{GameFile, LinkState, LinksState, Verdict, Seated, Syntax, WrongWord, Taken, Lost, Seats, seats_after, then_known, welcome_text, LineGot}
use Rattle.tac_io.specs.declared.line_got.LineGot.TheVariants as gots
use Rattle.agent_gate.specs.Served.{IsServed}
use Rattle.agent_gate.proofs.SameEnds.{columns_of, of_columns}
use Rattle.game_run.specs.Hosted.{HostedGame}
use Rattle.game_run.specs.PlayedGame.{PlayedGame}
use Rattle.game_run.specs.Admission.{free_seats, seats_given}
use Rattle.game_run.specs.LinkRuns.{CameTo, TakesLinks}
use Rattle.game_run.specs.LinkRuns.{IsSeated}
use Rattle.game_run.specs.Outcomes.{IsPlayedOver}
use Rattle.game_run.specs.PlayedLinks.{IsSeatedLink, FitsVerdict, TakenLink, AllFitVerdicts, IsPlayedGame}

pub seated_link : (hosted : HostedGame) (played : PlayedGame) (seats : Seats) (agent : ℕ) (before after : LinkState) → IsSeated hosted played seats agent before after → IsSeatedLink hosted played seats agent before after
seated_link hosted played seats agent before after is =
    let columns = columns_of is.cause hosted.dialect.text (record { welcome = welcome_text hosted.game agent; turns = is.turns; rest = is.rest; before = before; after = after }) is.served.end in
    record {
      cause = is.cause;
      ended = is.ended;
      bytes = is.bytes;
      gave = is.gave;
      first = is.line;
      lines = is.served.read;
      rest = is.rest;
      read = is.first ∙ ap (λ (l : List (LineGot × List ℕ)). (gots.Line, is.line) ∷ l) is.served.from;
      seat = is.seat;
      turns = is.turns;
      items = is.served.items;
      few = is.served.few;
      lawful = is.served.lawful;
      transcript = is.transcript;
      stopped = columns.stopped;
      reads = columns.reads;
      sent = columns.sent;
    }

pub fits_verdict : (hosted : HostedGame) (played : PlayedGame) (seats : Seats) (verdict : Verdict) (before after : LinkState) →
    CameTo (IsSeated hosted played) seats verdict before after → FitsVerdict hosted played seats verdict before after
fits_verdict hosted played seats (Seated agent) before after h = seated_link hosted played seats agent before after h
fits_verdict hosted played seats Lost before after h = h
fits_verdict hosted played seats Syntax before after h = h
fits_verdict hosted played seats WrongWord before after h = h
fits_verdict hosted played seats Taken before after h = h

pub seated_from_link : (hosted : HostedGame) (played : PlayedGame) (seats : Seats) (agent : ℕ) (before after : LinkState) → IsSeatedLink hosted played seats agent before after → IsSeated hosted played seats agent before after
seated_from_link hosted played seats agent before after is = record {
  cause = is.cause;
  ended = is.ended;
  bytes = is.bytes;
  gave = is.gave;
  line = is.first;
  answers = is.lines ++ is.rest;
  first = is.read;
  seat = is.seat;
  turns = is.turns;
  rest = is.rest;
  served = record {
    read = is.lines;
    from = refl;
    items = is.items;
    few = is.few;
    lawful = is.lawful;
    end = of_columns is.cause hosted.dialect.text (record { welcome = welcome_text hosted.game agent; turns = is.turns; rest = is.rest; before = before; after = after })
        (record { stopped = is.stopped; reads = is.reads; sent = is.sent });
  };
  transcript = is.transcript;
}

pub came_from_fit : (hosted : HostedGame) (played : PlayedGame) (seats : Seats) (verdict : Verdict) (before after : LinkState) →
    FitsVerdict hosted played seats verdict before after → CameTo (IsSeated hosted played) seats verdict before after
came_from_fit hosted played seats (Seated agent) before after h = seated_from_link hosted played seats agent before after h
came_from_fit hosted played seats Lost before after h = h
came_from_fit hosted played seats Syntax before after h = h
came_from_fit hosted played seats WrongWord before after h = h
came_from_fit hosted played seats Taken before after h = h

module _ {L : Type 0} (state : L → LinkState) (hosted : HostedGame) (played : PlayedGame) where
  -- three lists of one length, as one
  record AreZipped (given : List L) (verdicts : List Verdict) (ended : List L) (seats : Seats) : Type 0 where
    taken : List (TakenLink state)
    befores : given ≡ map (λ link. link.before) taken
    verdicts_are : verdicts ≡ map (λ link. link.verdict) taken
    afters : ended ≡ map (λ link. link.after) taken
    each : AllFitVerdicts state hosted played seats taken

  abbrev CameEach : List L → List Verdict → List L → Seats → Type 0
  CameEach given verdicts ended seats =
      (n : ℕ) (before : L) (verdict : Verdict) (after : L) → slice_get given n ≡ Some before → slice_get verdicts n ≡ Some verdict → slice_get ended n ≡ Some after →
      CameTo (IsSeated hosted played) (fold seats_after seats (take n verdicts)) verdict (state before) (state after)

  zipped : (given : List L) (verdicts : List Verdict) (ended : List L) (seats : Seats) → length given ≡ length verdicts → length ended ≡ length verdicts → CameEach given verdicts ended seats → AreZipped given verdicts ended seats
  zipped [] [] [] seats c l each = record { taken = []; befores = refl; verdicts_are = refl; afters = refl; each = tt }
  zipped [] [] (y ∷ ys) seats c l each = absurd (omega arith)
  zipped [] (v ∷ vs) ended seats c l each = absurd (omega arith)
  zipped (x ∷ xs) [] ended seats c l each = absurd (omega arith)
  zipped (x ∷ xs) (v ∷ vs) [] seats c l each = absurd (omega arith)
  zipped (x ∷ xs) (v ∷ vs) (y ∷ ys) seats c l each =
      let rest = zipped xs vs ys (seats_after seats v) (omega arith) (omega arith) (λ n b w a. each (suc n) b w a) in
      record {
        taken = (record { before = x; verdict = v; after = y }) ∷ rest.taken;
        befores = ap (λ (k : List L). x ∷ k) rest.befores;
        verdicts_are = ap (λ (k : List Verdict). v ∷ k) rest.verdicts_are;
        afters = ap (λ (k : List L). y ∷ k) rest.afters;
        each = (fits_verdict hosted played seats v (state x) (state y) (each 0 x v y refl refl refl), rest.each);
      }

  pub played_game : (links links' : LinksState L) (ended : List L) → IsPlayedOver state hosted links links' played ended → IsPlayedGame state hosted links links' played ended
  played_game links links' ended over =
      let takes = over.taken in
      let all = zipped takes.given played.verdicts ended (free_seats hosted.game) takes.came takes.left (λ n b v a. takes.each n b v a) in
      record {
        ports = takes.ports;
        taken = all.taken;
        from = takes.from ∙ ap (λ (l : List L). then_known l links'.pending) all.befores;
        verdicts = all.verdicts_are;
        left = all.afters;
        each = all.each;
        all = over.all;
        lawful = over.lawful;
      }

  -- ---- and back

  each_back : (taken : List (TakenLink state)) (seats : Seats) → AllFitVerdicts state hosted played seats taken → CameEach (map (λ link. link.before) taken) (map (λ link. link.verdict) taken) (map (λ link. link.after) taken) seats
  each_back [] seats h n before verdict after p q r = absurd cc
  each_back (link ∷ links) seats h zero before verdict after p q r =
      let is : link.before ≡ before = cc in
      let due : link.verdict ≡ verdict = cc in
      let left : link.after ≡ after = cc in
      subst (λ (b : L). CameTo (IsSeated hosted played) seats verdict (state b) (state after)) is
      (subst (λ (v : Verdict). CameTo (IsSeated hosted played) seats v (state link.before) (state after)) due
      (subst (λ (a : L). CameTo (IsSeated hosted played) seats link.verdict (state link.before) (state a)) left (came_from_fit hosted played seats link.verdict (state link.before) (state link.after) h.0)))
  each_back (link ∷ links) seats h (suc n) before verdict after p q r = each_back links (seats_after seats link.verdict) h.1 n before verdict after p q r

  pub played_over : (links links' : LinksState L) (ended : List L) → IsPlayedGame state hosted links links' played ended → IsPlayedOver state hosted links links' played ended
  played_over links links' ended game =
      let many : length played.verdicts ≡ length game.taken = ap length game.verdicts ∙ length-map game.taken (λ (link : TakenLink state). link.verdict) in
      record {
        taken = record {
          given = map (λ link. link.before) game.taken;
          from = game.from;
          came = length-map game.taken (λ (link : TakenLink state). link.before) ∙ sym many;
          left = ap length game.left ∙ length-map game.taken (λ (link : TakenLink state). link.after) ∙ sym many;
          each = subst (λ (vs : List Verdict). CameEach (map (λ link. link.before) game.taken) vs ended (free_seats hosted.game)) (sym game.verdicts)
              (subst (λ (l : List L). CameEach (map (λ link. link.before) game.taken) (map (λ link. link.verdict) game.taken) l (free_seats hosted.game)) (sym game.left)
              (each_back game.taken (free_seats hosted.game) game.each));
          ports = game.ports;
        };
        all = game.all;
        lawful = game.lawful;
      }
