-- From the links that were admitted to those that played, and to those that were left.
use Rattle.std.proofs.Common.{suc, ◌≡◌, ℕ, ◌<◌, ◌+◌, ◌-◌, ◌^◌, List, [], ◌∷◌, ◌++◌, map, length, refl, ap, sym, ◌∙◌, subst, true, false, Bool, Some, None, arith, filter, Contains, Result, Ok, Err, OnOk, OnErr, is_err, is_some, slice_index_or, Option, option_map}
use Rattle.std.proofs.lemmas.List.{length-map}
use Rattle.game_run.specs.{HasCause, Rose, GameFile, agents, ClosedGame, all_answers, count_of, held_of, link_of, LinkState, LinksState, known_then, IsAtEnd, Lines, Cause, Verdict, Seated, Syntax, WrongWord, Taken, Lost, Seats, welcome_text, IsTranscript, Dialect, free_seats, seats_given, CameTo, MayGoOn, IsGreeted, IsTurnedAway, Keeps, AreKept, AreTaken, IsSeated, IsLeftUnplayed, IsPlayedOver, IsNotPlayed, AreFilled, AreLinksOf, HostedGame, IsServedAs, IsAgentsPart, IsPlayedThrough}
use Rattle.std.proofs.lemmas.Option.{slice_get_within, slice_get-get_or, get_or_from_slice_get}
use Rattle.tac_io.specs.declared.line_got.LineGot.TheVariants as gots
use Rattle.tac_io.proofs.KnownPieces.{gave_twice}
use Rattle.game_run.specs.declared.arrivals.Arrivals.{Arrivals}
use Rattle.game_run.specs.declared.arrivals.Holder.{Holder}
use Rattle.game_run.specs.declared.arrivals.Holder.TheVariants.{Seat, Unseated}
use Rattle.game_run.specs.PlayedGame.{PlayedGame}
use Rattle.game_run.proofs.Admitting.{follows}
use Rattle.game_run.proofs.ByIndex.{takes}
use Rattle.game_run.proofs.FirstLines.{first_line, begins_with}
use Rattle.game_run.proofs.LinksBack.{filled_alike}
use Rattle.game_run.proofs.SameStart.{served_from}
use Rattle.game_run.proofs.KeptSeats.{seat_was_free, filled, links_hold, get_map}
use Rattle.game_run.proofs.Transcripts.{map_at}

-- ---- every kept holder can be given its link

module _ {L : Type 0} (state : L → LinkState) (game : GameFile) (given : List LinkState) (arrivals : Arrivals L) (kept : AreKept state game given arrivals) where
  pub all_filled : AreFilled arrivals.lines.items arrivals.holders.items
  all_filled = filled state (IsGreeted state) (λ seats agent before ls g. seat_was_free seats g.line agent g.seat) arrivals.lines.items (free_seats game) given arrivals.verdicts.items arrivals.holders.items
      (sym kept.wide) kept.links

-- ---- a game that was not played

-- what holds of a link without a seat, whatever holds of one with a seat
came_so : (Sits : Seats → ℕ → LinkState → LinkState → Type 0) (seats : Seats) (v : Verdict) (before after : LinkState) → IsTurnedAway seats v before after → CameTo Sits seats v before after
came_so Sits seats (Seated agent) before after h = absurd h
came_so Sits seats Syntax before after h = h
came_so Sits seats WrongWord before after h = h
came_so Sits seats Taken before after h = h
came_so Sits seats Lost before after h = h

module _ {L : Type 0} (state : L → LinkState) where
  left_so : (seats : Seats) (agent : ℕ) (before : LinkState) (lines : Lines L) → IsGreeted state seats agent before lines → IsLeftUnplayed seats agent before (state (link_of lines))
  left_so seats agent before lines g = (
    record {
      bytes = g.bytes;
      gave = g.gave;
      got = gots.Line;
      line = g.line;
      first = begins_with g.bytes g.line (held_of lines).unread g.first (omega (arith, g.counted, g.few)) g.short;
      due = sym g.seat;
      reads = g.reads;
    },
    g.quiet,
  )

  left_at : (lines : List (Option (Lines L))) (seats : Seats) (v : Verdict) (before : LinkState) (holder : Holder L) → Keeps state (IsGreeted state) lines seats v before holder
      → Keeps state (λ s agent b link. IsLeftUnplayed s agent b (state link)) (map (λ o. option_map (λ l. link_of l) o) lines) seats v before holder
  left_at lines seats v before (Unseated link) k = k
  left_at lines seats v before (Seat agent) k = (link_of k.0, k.1, get_map (λ o. option_map (λ l. link_of l) o) lines agent (Some k.0) k.2, left_so seats agent before k.0 k.3)

  pub not_played : (hosted : HostedGame) (links links' : LinksState L) (arrivals : Arrivals L) (ended : List L) → AreTaken state hosted.game links.pending links'.pending arrivals → MayGoOn arrivals.verdicts.items
      → AreLinksOf (map (λ o. option_map (λ l. link_of l) o) arrivals.lines.items) arrivals.holders.items ended → links'.ports ≡ known_then links.ports (hosted.port ∷ []) → Rose links.faults links'.faults
      → IsNotPlayed state hosted links links' ended
  not_played hosted links links' arrivals ended taken may back ports fault =
      let game = hosted.game in let agent_seats = map (λ o. option_map (λ l. link_of l) o) arrivals.lines.items in
      record {
        verdicts = arrivals.verdicts.items;
        more = may;
        taken = takes state hosted IsLeftUnplayed arrivals.verdicts.items links links' ended taken.given taken.from ports
            (links_hold state (λ s agent b link. IsLeftUnplayed s agent b (state link)) (CameTo IsLeftUnplayed) (λ s agent b link h. h) (came_so IsLeftUnplayed) agent_seats (free_seats game) (map state taken.given) arrivals.verdicts.items arrivals.holders.items ended
            (follows (Keeps state (IsGreeted state) arrivals.lines.items) (Keeps state (λ s agent b link. IsLeftUnplayed s agent b (state link)) agent_seats) (λ s. Unit {0}) (λ s v x y u h. tt)
            (λ s v x holder u h. left_at arrivals.lines.items s v x holder h) (free_seats game) (map state taken.given) arrivals.verdicts.items arrivals.holders.items tt taken.kept.links) back);
        fault = fault;
      }

-- ---- a game that was played

module _ {L : Type 0} (state : L → LinkState) (hosted : HostedGame) (arrivals : Arrivals L) (closed : ClosedGame) (ends : List (ℕ × Cause)) where
  -- what the game came to
  abbrev over : PlayedGame
  over = record { verdicts = arrivals.verdicts.items; ends = ends; closed = closed }

  seated_so : (seats : Seats) (agent : ℕ) (before : LinkState) (lines : Lines L) (link : L) (cause : Cause) → IsGreeted state seats agent before lines
      → Contains ends (agent, cause) → IsServedAs state hosted.dialect hosted.game closed agent lines link cause → IsSeated hosted over seats agent before (state link)
  seated_so seats agent before lines link cause g ended s = record {
    cause = cause;
    ended = ended;
    bytes = g.bytes ++ s.more;
    gave = gave_twice before (state (link_of lines)) (state link) g.bytes s.more g.gave s.gave;
    line = g.line;
    answers = all_answers [] (2 ^ 26 - count_of lines + length (held_of lines).unread) ((held_of lines).unread ++ s.more);
    first = first_line g.bytes g.line (held_of lines).unread s.more g.first (omega (arith, g.counted, g.few)) g.short
        ∙ ap (λ n. (gots.Line, g.line) ∷ all_answers [] (2 ^ 26 - n + length (held_of lines).unread) ((held_of lines).unread ++ s.more)) (sym g.counted);
    seat = g.seat;
    turns = s.turns;
    rest = s.rest;
    served = served_from before (state (link_of lines)) (state link) g.quiet.0 g.reads g.quiet.1 hosted.dialect _ (record { welcome = welcome_text hosted.game agent; turns = s.turns; rest = s.rest; before = before; after = state link }) cause s.served;
    transcript = s.transcript;
  }

  served_link : (seats : Seats) (agent : ℕ) (before : LinkState) (lines : Lines L) (o : Option L) → IsGreeted state seats agent before lines → IsAgentsPart state hosted.dialect hosted.game closed ends agent (Some lines) o
      → (link : L) × (o ≡ Some link) × IsSeated hosted over seats agent before (state link)
  served_link seats agent before lines None g part = absurd part
  served_link seats agent before lines (Some link) g part = (link, refl, seated_so seats agent before lines link part.0 g part.1 part.2)

  absent_part : (agent : ℕ) (o : Option (Lines L)) (l : Option L) → is_some o ≡ false → IsAgentsPart state hosted.dialect hosted.game closed ends agent o l → IsTranscript agent closed []
  absent_part agent None None no_lines part = part
  absent_part agent None (Some link) no_lines part = absurd part
  absent_part agent (Some lines) l no_lines part = absurd (cc)

  module _ (lines : List (Option (Lines L))) (agent_seats : List (Option L)) (wide : length lines ≡ 8) (through : IsPlayedThrough state hosted.dialect hosted.game closed lines agent_seats ends) where
    runs_at : (seats : Seats) (v : Verdict) (before : LinkState) (holder : Holder L) → Keeps state (IsGreeted state) lines seats v before holder
        → Keeps state (λ s agent b link. IsSeated hosted over s agent b (state link)) agent_seats seats v before holder
    runs_at seats v before (Unseated link) k = k
    runs_at seats v before (Seat agent) k =
        let lt : agent < 8 = let within = slice_get_within lines agent (Some k.0) k.2 in omega (arith, within, wide) in
        let part = subst (λ o. IsAgentsPart state hosted.dialect hosted.game closed ends agent o (slice_index_or agent_seats agent None)) (get_or_from_slice_get lines agent (Some k.0) None k.2) (through.each_agent agent lt) in
        let served = served_link seats agent before k.0 (slice_index_or agent_seats agent None) k.3 part in
        (served.0, k.1, slice_get-get_or agent_seats agent None (omega (arith, lt, through.wide)) ∙ ap (λ o. Some o) served.1, served.2)

    absent : (taken : List Bool) → map (λ ls. is_some ls) lines ≡ taken → (agent : ℕ) → agent < 8 → slice_index_or taken agent false ≡ false → IsTranscript agent closed []
    absent taken same agent lt free =
        absent_part agent (slice_index_or lines agent None) (slice_index_or agent_seats agent None)
        (sym (map_at (λ (ls : Option (Lines L)). is_some ls) lines agent None) ∙ (ap (λ l. slice_index_or l agent false) same ∙ free)) (through.each_agent agent lt)

  pub was_played : (before after : LinksState L) (agent_seats : List (Option L)) (links : List L) → AreTaken state hosted.game before.pending after.pending arrivals
      → (MayGoOn arrivals.verdicts.items → IsAtEnd after.pending) → after.ports ≡ known_then before.ports (hosted.port ∷ [])
      → IsPlayedThrough state hosted.dialect hosted.game closed arrivals.lines.items agent_seats ends
      → AreLinksOf agent_seats arrivals.holders.items links → IsPlayedOver state hosted before after over links
  was_played before after agent_seats links taken no_fewer ports through back =
      let lines = arrivals.lines.items in let kept = taken.kept in let verdicts = arrivals.verdicts.items in let holders = arrivals.holders.items in
      let Sits = λ (s : Seats) (agent : ℕ) (b : LinkState) (link : L). IsSeated hosted over s agent b (state link) in
      record {
        all = record { no_more = kept.no_more; no_fewer = no_fewer };
        taken = takes state hosted (IsSeated hosted over) verdicts before after links taken.given taken.from ports
            (links_hold state Sits (CameTo (IsSeated hosted over)) (λ s agent b link h. h) (came_so (IsSeated hosted over)) agent_seats (free_seats hosted.game) (map state taken.given) verdicts holders links
            (follows (Keeps state (IsGreeted state) lines) (Keeps state Sits agent_seats) (λ s. Unit {0}) (λ s v x y u h. tt)
            (λ s v x holder u h. runs_at lines agent_seats kept.wide through s v x holder h) (free_seats hosted.game) (map state taken.given) verdicts holders tt kept.links) back);
        lawful = record {
          legal_game = through.legal_game;
          each_end = through.ended ∙ ap (λ taken. filter (λ agent. slice_index_or taken agent false) agents) kept.seats;
          absent = absent lines agent_seats kept.wide through (seats_given hosted.game verdicts).taken kept.seats;
          clock_transcript = through.clock_transcript;
        };
      }

-- ---- where links are

same_lists : (xs ys : List Bool) → length xs ≡ length ys → ((k : ℕ) → k < length xs → slice_index_or xs k false ≡ slice_index_or ys k false) → xs ≡ ys
same_lists [] [] long each = refl
same_lists [] (y ∷ ys) long each = absurd (omega (arith, long))
same_lists (x ∷ xs) [] long each = absurd (omega (arith, long))
same_lists (x ∷ xs) (y ∷ ys) long each =
    let first : x ≡ y = each 0 (omega arith) in
    ap (λ z. z ∷ xs) first ∙ ap (λ l. y ∷ l) (same_lists xs ys (omega (arith, long)) (λ k lt. each (suc k) (omega (arith, lt))))

module _ {L : Type 0} (state : L → LinkState) (dialect : Dialect) (game : GameFile) (closed : ClosedGame) (ends : List (ℕ × Cause)) where
  same_part : (agent : ℕ) (o : Option (Lines L)) (l : Option L) → IsAgentsPart state dialect game closed ends agent o l → is_some o ≡ is_some l
  same_part agent None None part = refl
  same_part agent None (Some link) part = absurd part
  same_part agent (Some lines) None part = absurd part
  same_part agent (Some lines) (Some link) part = refl

  -- the links of a game that was played can be given to their holders
  pub filled_after : (lines : List (Option (Lines L))) (links : List (Option L)) (holders : List (Holder L)) → length lines ≡ 8 → IsPlayedThrough state dialect game closed lines links ends
      → AreFilled lines holders → AreFilled links holders
  filled_after lines links holders wide through filled =
      filled_alike lines links holders
      (same_lists (map (λ o. is_some o) lines) (map (λ o. is_some o) links)
      (length-map lines (λ o. is_some o) ∙ (wide ∙ (sym through.wide ∙ sym (length-map links (λ o. is_some o)))))
      (λ k lt. map_at (λ o. is_some o) lines k None
      ∙ (same_part k (slice_index_or lines k None) (slice_index_or links k None) (through.each_agent k (omega (arith, lt, length-map lines (λ o. is_some o), wide)))
      ∙ sym (map_at (λ o. is_some o) links k None)))) filled

-- ---- what an answer says

pub at_err : {T E : Type 0} (r : Result T E) (P : Type 0) → is_err r ≡ true → OnErr r P → P
at_err (Ok x) P is h = absurd (cc)
at_err (Err e) P is h = h

pub at_ok : {T E : Type 0} (r : Result T E) (P : Type 0) → is_err r ≡ false → OnOk r P → P
at_ok (Ok x) P is h = h
at_ok (Err e) P is h = absurd (cc)

pub rose_at_err : {T E : Type 0} (before now : ℕ) (r : Result T E) → is_err r ≡ true → HasCause before now r → Rose before now
rose_at_err before now (Ok x) is h = absurd (cc)
rose_at_err before now (Err e) is h = h

pub same_at_ok : {T E : Type 0} (before now : ℕ) (r : Result T E) → is_err r ≡ false → HasCause before now r → now ≡ before
same_at_ok before now (Ok x) is h = h
same_at_ok before now (Err e) is h = absurd (cc)
