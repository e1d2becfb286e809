use Rattle.std.proofs.Common.{◌≡◌, ◌+◌, ◌-◌, ℕ, List, [], ◌∷◌, map, sym, ◌∙◌, subst, arith, slice_range}
use Rattle.std.specs.Global.{Vec}
use Rattle.link_audit.specs.{Board, LINK_BYTES, SESSION_LINES, all_answers, ended_line, Dialect, Subject, AreBoards, IsAhead, subject_of, IsYesExactlyIf, HasHeard, IsFinished, IsHeard, TakesSeat, lines_at, replies_at}
use Rattle.log_audit.specs.declared.findings.Flaw.TheVariants as flaws
use Rattle.link_audit.specs.declared.causes.Ending.TheVariants.{Quit}
use Rattle.link_audit.specs.declared.hearing.Heard.TheVariants.{Through, Gone, Not}
use Rattle.link_audit.specs.declared.vouching.Difference.TheVariants.{Seat, Welcome}
use Rattle.link_audit.proofs.Cuts.{lines_here, lines_end}
use Rattle.link_audit.proofs.Accounted.{different_accounted, different_ending, gone_accounted, gone_ending, no_first, no_seat, no_welcome, not_accounted, through_accounted, through_ending}
use Rattle.link_audit.proofs.Vouched.{unvouched_end, unvouched_welcome, takes_seat}
use Rattle.link_audit.proofs.judging.account.Goals as goal

pub returns-in_default : goal.returns-in_default
returns-in_default g c =
    let dialect : Dialect = g.D.Dialect.form c.args.dialect.now in
    let game = c.args.game.now in let log = c.args.log.now in let asked : List ℕ = c.args.asked.now in let said : List ℕ = c.args.said.now in
    let none = lines_end asked 0 c.requires.short (omega arith) c.in_default.ensures in
    rw c.unlike.ensures (record {
      lines = not_accounted game dialect log asked said Seat (λ other. unvouched_end game dialect log asked said other none) (no_first game dialect log asked said none);
      ending = λ other v. absurd (unvouched_end game dialect log asked said other none v);
    })

pub returns-in_default-seat_of : goal.returns-in_default-seat_of
returns-in_default-seat_of g c =
    let dialect : Dialect = g.D.Dialect.form c.args.dialect.now in
    let game = c.args.game.now in let log = c.args.log.now in let asked : List ℕ = c.args.asked.now in let said : List ℕ = c.args.said.now in
    let end = c.in-Some.end in let line = slice_range asked 0 end in let lines = lines_at asked (end + 1) in
    let first : all_answers [] LINK_BYTES asked ≡ ended_line line ∷ lines = lines_here asked 0 c.requires.short (omega arith) end c.in-Some.ensures.0 c.in-Some.ensures.1 c.in-Some.ensures.2 in
    rw c.unlike-in_default-seat_of.ensures (record {
      lines = not_accounted game dialect log asked said Seat (λ other v. c.in_default-seat_of.ensures other (takes_seat game dialect log asked said line lines first other v))
          (no_seat game dialect log asked said line lines first c.in_default-seat_of.ensures);
      ending = λ other v. absurd (c.in_default-seat_of.ensures other (takes_seat game dialect log asked said line lines first other v));
    })

pub returns-in_default-behind_welcome : goal.returns-in_default-behind_welcome
returns-in_default-behind_welcome g c =
    let dialect : Dialect = g.D.Dialect.form c.args.dialect.now in
    let game = c.args.game.now in let log = c.args.log.now in let asked : List ℕ = c.args.asked.now in let said : List ℕ = c.args.said.now in
    let end = c.in-Some.end in let line = slice_range asked 0 end in let lines = lines_at asked (end + 1) in
    let first : all_answers [] LINK_BYTES asked ≡ ended_line line ∷ lines = lines_here asked 0 c.requires.short (omega arith) end c.in-Some.ensures.0 c.in-Some.ensures.1 c.in-Some.ensures.2 in
    let agent = c.in-Some-seat_of.agent in let seat : TakesSeat game log line agent = c.in-Some-seat_of.ensures in
    rw c.unlike-in_default-behind_welcome.ensures (record {
      lines = not_accounted game dialect log asked said Welcome (λ other. unvouched_welcome game dialect log asked said line lines first agent seat c.in_default-behind_welcome.ensures other)
          (no_welcome game dialect log asked said line lines first agent seat c.in_default-behind_welcome.ensures);
      ending = λ other v. absurd (unvouched_welcome game dialect log asked said line lines first agent seat c.in_default-behind_welcome.ensures other v);
    })

pub hear-requires-clause-posts : goal.hear-requires-clause-posts
hear-requires-clause-posts g c =
    let logged = c.head-head.ensures.logged in
    record { logged = logged; due = λ position. (c.no_flaw.ensures c.args.game.now c.args.log.now logged).0 c.requires.sound (flaws.Post position) }

pub finish-requires-clause-posts : goal.finish-requires-clause-posts
finish-requires-clause-posts g c =
    let logged = c.head-head.ensures.logged in
    record { logged = logged; due = λ position. (c.no_flaw.ensures c.args.game.now c.args.log.now logged).0 c.requires.sound (flaws.Post position) }

pub returns-in-Through : goal.returns-in-Through
returns-in-Through g c =
    let dialect : Dialect = g.D.Dialect.form c.args.dialect.now in
    let game = c.args.game.now in let log = c.args.log.now in let asked : List ℕ = c.args.asked.now in let said : List ℕ = c.args.said.now in
    let end = c.in-Some.end in let line = slice_range asked 0 end in let lines = lines_at asked (end + 1) in
    let first : all_answers [] LINK_BYTES asked ≡ ended_line line ∷ lines = lines_here asked 0 c.requires.short (omega arith) end c.in-Some.ensures.0 c.in-Some.ensures.1 c.in-Some.ensures.2 in
    let agent = c.in-Some-seat_of.agent in let seat : TakesSeat game log line agent = c.in-Some-seat_of.ensures in
    let replies = replies_at said c.in-Some-behind_welcome.told in
    let boards : List (Vec Board) = c.deref.result.now in let s : Subject = subject_of log boards agent in
    let are : AreBoards game log (map (λ (row : Vec Board). row.items) boards) =
    subst (λ (l : List (Vec Board)). AreBoards game log (map (λ (row : Vec Board). row.items) l)) (sym c.deref.ensures.value) c.in_ok-boards.ensures.boards in
    let places = c.in-Through.places in let at = c.in-Through.at in let n = c.in-Through.lines in
    let heard : IsHeard dialect s asked (end + 1) replies (Through places at n) = subst (IsHeard dialect s asked (end + 1) replies) c.in-Through.is c.in_ok-places.ensures.ahead in
    let has : HasHeard dialect s asked (end + 1) replies (Through places at n) = subst (HasHeard dialect s asked (end + 1) replies) c.in-Through.is c.in_ok-places.ensures.turns in
    let same = c.deref-in-Through.ensures.value ∙ sym c.deref.ensures.value in
    record {
      lines = through_accounted game dialect log asked said line (end + 1) first agent seat c.head-head.ensures.logged.goods (map (λ (row : Vec Board). row.items) boards) are replies c.in-Some-behind_welcome.ensures.1 c.is_ended-ended.result c.is_ended-ended.ensures
          c.count_memory-memory.result c.count_memory-memory.ensures places at n heard has c.in_ok-vouching-in-Through.vouching
          (subst (λ (l : List (Vec Board)). IsYesExactlyIf agent (IsAhead dialect (subject_of log l agent) places (lines_at asked at) [] (SESSION_LINES - n)) c.in_ok-vouching-in-Through.vouching) same c.in_ok-vouching-in-Through.ensures.yes)
          (subst (λ (l : List (Vec Board)). IsFinished dialect (subject_of log l agent) asked c.is_ended-ended.result (Through places at n) c.in_ok-vouching-in-Through.vouching) same c.in_ok-vouching-in-Through.ensures.how)
          c.in_ok-vouching-in-Through.ensures.told;
      ending = through_ending game dialect log asked said line (end + 1) first agent seat c.head-head.ensures.logged.goods (map (λ (row : Vec Board). row.items) boards) are replies c.in-Some-behind_welcome.ensures.1 c.is_ended-ended.result c.is_ended-ended.ensures
          c.count_memory-memory.result c.count_memory-memory.ensures places at n heard has c.in_ok-ending-in-Through.ending c.in_ok-ending-in-Through.ensures;
    }

pub returns-in-Gone : goal.returns-in-Gone
returns-in-Gone g c =
    let dialect : Dialect = g.D.Dialect.form c.args.dialect.now in
    let game = c.args.game.now in let log = c.args.log.now in let asked : List ℕ = c.args.asked.now in let said : List ℕ = c.args.said.now in
    let end = c.in-Some.end in let line = slice_range asked 0 end in let lines = lines_at asked (end + 1) in
    let first : all_answers [] LINK_BYTES asked ≡ ended_line line ∷ lines = lines_here asked 0 c.requires.short (omega arith) end c.in-Some.ensures.0 c.in-Some.ensures.1 c.in-Some.ensures.2 in
    let agent = c.in-Some-seat_of.agent in let seat : TakesSeat game log line agent = c.in-Some-seat_of.ensures in
    let replies = replies_at said c.in-Some-behind_welcome.told in
    let boards : List (Vec Board) = c.deref.result.now in let s : Subject = subject_of log boards agent in
    let are : AreBoards game log (map (λ (row : Vec Board). row.items) boards) =
    subst (λ (l : List (Vec Board)). AreBoards game log (map (λ (row : Vec Board). row.items) l)) (sym c.deref.ensures.value) c.in_ok-boards.ensures.boards in
    let heard : IsHeard dialect s asked (end + 1) replies (Gone c.in-Gone.lines) = subst (IsHeard dialect s asked (end + 1) replies) c.in-Gone.is c.in_ok-places.ensures.ahead in
    let has : HasHeard dialect s asked (end + 1) replies (Gone c.in-Gone.lines) = subst (HasHeard dialect s asked (end + 1) replies) c.in-Gone.is c.in_ok-places.ensures.turns in
    record {
      lines = gone_accounted game dialect log asked said line (end + 1) first agent seat c.head-head.ensures.logged.goods (map (λ (row : Vec Board). row.items) boards) are replies c.in-Some-behind_welcome.ensures.1 c.is_ended-ended.result c.is_ended-ended.ensures
          c.count_memory-memory.result c.count_memory-memory.ensures c.in-Gone.lines heard has c.vouched.result c.vouched.ensures;
      ending = gone_ending game dialect log asked said line (end + 1) first agent seat c.head-head.ensures.logged.goods (map (λ (row : Vec Board). row.items) boards) are replies c.in-Some-behind_welcome.ensures.1 c.is_ended-ended.result c.is_ended-ended.ensures
          c.count_memory-memory.result c.count_memory-memory.ensures c.in-Gone.lines has;
    }

pub returns : goal.returns
returns g c =
    let dialect : Dialect = g.D.Dialect.form c.args.dialect.now in
    let game = c.args.game.now in let log = c.args.log.now in let asked : List ℕ = c.args.asked.now in let said : List ℕ = c.args.said.now in
    let end = c.in-Some.end in let line = slice_range asked 0 end in let lines = lines_at asked (end + 1) in
    let first : all_answers [] LINK_BYTES asked ≡ ended_line line ∷ lines = lines_here asked 0 c.requires.short (omega arith) end c.in-Some.ensures.0 c.in-Some.ensures.1 c.in-Some.ensures.2 in
    let agent = c.in-Some-seat_of.agent in let seat : TakesSeat game log line agent = c.in-Some-seat_of.ensures in
    let replies = replies_at said c.in-Some-behind_welcome.told in
    let boards : List (Vec Board) = c.deref.result.now in let s : Subject = subject_of log boards agent in
    let are : AreBoards game log (map (λ (row : Vec Board). row.items) boards) =
    subst (λ (l : List (Vec Board)). AreBoards game log (map (λ (row : Vec Board). row.items) l)) (sym c.deref.ensures.value) c.in_ok-boards.ensures.boards in
    let heard : IsHeard dialect s asked (end + 1) replies (Not c.in-Not.difference) = subst (IsHeard dialect s asked (end + 1) replies) c.in-Not.is c.in_ok-places.ensures.ahead in
    let has : HasHeard dialect s asked (end + 1) replies (Not c.in-Not.difference) = subst (HasHeard dialect s asked (end + 1) replies) c.in-Not.is c.in_ok-places.ensures.turns in
    rw c.unlike-in-Not.ensures (record {
      lines = different_accounted game dialect log asked said line (end + 1) first agent seat c.head-head.ensures.logged.goods (map (λ (row : Vec Board). row.items) boards) are replies c.in-Some-behind_welcome.ensures.1 c.is_ended-ended.result c.is_ended-ended.ensures
          c.count_memory-memory.result c.count_memory-memory.ensures c.in-Not.difference heard has;
      ending = different_ending game dialect log asked said line (end + 1) first agent seat c.head-head.ensures.logged.goods (map (λ (row : Vec Board). row.items) boards) are replies c.in-Some-behind_welcome.ensures.1 c.is_ended-ended.result c.is_ended-ended.ensures
          c.count_memory-memory.result c.count_memory-memory.ensures heard Quit;
    })
