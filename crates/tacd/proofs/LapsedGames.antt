-- The code of a game whose log was written.
use Rattle.std.proofs.Common.{◌≡◌, ℕ, ◌<◌, Bool, true, false, List, zero, suc, refl, sym, subst, arith, ◌==◌, MatchBool, nat_lt}
use Rattle.std.proofs.lemmas.Bool.Decides.{nat_tests}
use Rattle.tacd.specs.{SinkState, TookWhole, TookPart, GameFile, head_of, Code, Success, code_number, Memory, Outcome, Done, Lapsed, Stopped, Reports, missed_of, IsTextOfPlayed, LogAllows, WritesLog, lapsed_code}
use Rattle.tacd.specs.declared.answer.Played.{Played}

abbrev missed : Played → ℕ
missed played = missed_of (head_of played.head)

-- the game's log was not written whole: whether ticks lapsed or not
cut_off : (game : GameFile) (played : Played) (text : List ℕ) (sink sink' : SinkState) (code count : ℕ) → IsTextOfPlayed game played text → missed played ≡ count →
    (code == 4) ≡ true → TookPart sink sink' text → (o : Outcome) × WritesLog game played o × Reports o sink sink' code
cut_off game played text sink sink' code zero log is four told =
    (Done text, (log, is), subst (λ b. MatchBool b (TookPart sink sink' text) ((code ≡ 0) × TookWhole sink sink' text)) (sym four) told)
cut_off game played text sink sink' code (suc n) log is four told =
    (Lapsed text, (log, omega (arith, is)), subst (λ b. MatchBool b (TookPart sink sink' text) ((code ≡ 6) × TookWhole sink sink' text)) (sym four) told)

kept_by : (b : Bool) (game : GameFile) (played : Played) (text : List ℕ) (sink sink' : SinkState) (code : ℕ) → IsTextOfPlayed game played text → (code ≡ 0 → missed played ≡ 0) →
    (code == 4) ≡ b → MatchBool b (TookPart sink sink' text) ((code ≡ 0) × TookWhole sink sink' text) →
    (o : Outcome) × WritesLog game played o × Reports o sink sink' code
kept_by true game played text sink sink' code log none four told = cut_off game played text sink sink' code (missed played) log refl four told
kept_by false game played text sink sink' code log none four told =
    (Done text, (log, none told.0), subst (λ b. MatchBool b (TookPart sink sink' text) ((code ≡ 0) × TookWhole sink sink' text)) (sym four) told)

-- the code stays if it is not 0, or no tick lapsed
kept : (game : GameFile) (played : Played) (sink sink' : SinkState) (code : ℕ) (outcome : Outcome) → LogAllows game played outcome → Reports outcome sink sink' code →
    (code ≡ 0 → missed played ≡ 0) → (o : Outcome) × WritesLog game played o × Reports o sink sink' code
kept game played sink sink' code (Done text) log told none = kept_by (code == 4) game played text sink sink' code log none refl told
kept game played sink sink' code (Stopped text Memory) first told none = (Stopped text Memory, first, told)
kept game played sink sink' code outcome log told none = absurd log

-- code 6 replaces 0 if a tick lapsed
lapsed : (game : GameFile) (played : Played) (sink sink' : SinkState) (outcome : Outcome) → LogAllows game played outcome → Reports outcome sink sink' 0 →
    0 < missed played → (o : Outcome) × WritesLog game played o × Reports o sink sink' 6
lapsed game played sink sink' (Done text) log told some = (Lapsed text, (log, some), (refl, told.1))
lapsed game played sink sink' (Stopped text Memory) first told some = let is = told.0 in absurd (omega (arith, is))
lapsed game played sink sink' outcome log told some = absurd log

-- the code that is returned is 6 in place of 0 if a tick lapsed
pub by_code : (game : GameFile) (played : Played) (sink sink' : SinkState) (count : ℕ) (code : Code) (outcome : Outcome) → LogAllows game played outcome →
    Reports outcome sink sink' (code_number code) → missed played ≡ count → (o : Outcome) × WritesLog game played o × Reports o sink sink' (code_number (lapsed_code code count))
by_code game played sink sink' zero Success outcome log told is = kept game played sink sink' 0 outcome log told (λ none. is)
by_code game played sink sink' (suc n) Success outcome log told is =
    let test : nat_lt 0 (suc n) ≡ true = grind (arith, nat_tests) in
    rw test (lapsed game played sink sink' outcome log told (omega (arith, is)))
by_code game played sink sink' count code outcome log told is = kept game played sink sink' (code_number code) outcome log told (λ none. absurd (omega (arith, none)))
