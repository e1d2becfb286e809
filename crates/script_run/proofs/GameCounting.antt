-- The counts of a game script with one line more.
use Rattle.std.proofs.Common.{◌≡◌, ℕ, ◌+◌, ◌<◌, ◌≤◌, Bool, true, false, cond, List, ◌∷◌, length, get_or, set, refl, sym, ap, ◌∙◌, arith, eq-eqb, ne_eqb, ◌&&◌, ◌||◌, nat_le, Result, Ok, get_or-set_same, get_or-set_other}
use Rattle.std.proofs.lemmas.List.Sums.{sum_by-cons}
use Rattle.std.proofs.lemmas.Bool.Decides.{nat_tests}
use mathlib.Core.Logic.{dite}
use native.Mathlib.Decide.{ℕ_discrete}
use Rattle.script_run.specs.{Request, RequestFault, is_tick_line, is_line_of, is_quit, count_of_agent, has_quit, limited_game_line, AreGameCounts}
use Rattle.script_run.specs.declared.game.lines.GameLine.{GameLine}
use Rattle.script_run.specs.declared.game.lines.GameLine.TheVariants.{Asks}
use Rattle.script_run.specs.declared.game.counts.GameCounts.{GameCounts}
use Rattle.script_run.proofs.Counted.{count_set}

-- a line of an agent that may stand here
pub limited_line : (lines : List GameLine) (agent : ℕ) (asked : Result Request RequestFault) → has_quit lines agent ≡ false → count_of_agent lines agent < 65536 →
    limited_game_line lines (Asks agent asked) ≡ Ok (Asks agent asked)
limited_line lines agent asked open' few = let test : nat_le 65536 (count_of_agent lines agent) ≡ false = grind (arith, nat_tests) in rw (open', test) refl

or_false : (b c : Bool) → c ≡ false → (b || c) ≡ b
or_false true c is = refl
or_false false c is = is

-- whether an agent has ended its session, by place
quit_set : (flags : List Bool) (lines : List GameLine) (agent other : ℕ) (asked : Result Request RequestFault) → agent < length flags → get_or flags agent false ≡ false →
    get_or flags agent false ≡ has_quit lines agent → get_or flags other false ≡ has_quit lines other →
    get_or (set flags agent (is_quit asked)) other false ≡ has_quit (Asks agent asked ∷ lines) other
quit_set flags lines agent other asked inside open' mine theirs = dite (ℕ_discrete agent other)
    (λ same. let here : get_or (set flags agent (is_quit asked)) other false ≡ is_quit asked = ap (λ (k : ℕ). get_or (set flags agent (is_quit asked)) k false) (sym same) ∙ get_or-set_same flags agent (is_quit asked) false inside in
    let none : has_quit lines other ≡ false = ap (has_quit lines) (sym same) ∙ (sym mine ∙ open') in
    here ∙ (sym (or_false (is_quit asked) (has_quit lines other) none) ∙ ap (λ (b : Bool). (b && is_quit asked) || has_quit lines other) (sym (eq-eqb agent other same))))
    (λ ne. get_or-set_other flags agent other (is_quit asked) false (λ is. ne (sym is))
    ∙ (theirs ∙ ap (λ (b : Bool). (b && is_quit asked) || has_quit lines other) (sym (ne_eqb agent other ne))))

-- the counts with a line more of an agent
pub counted_line : (lines : List GameLine) (counts : GameCounts) (agent : ℕ) (asked : Result Request RequestFault) → AreGameCounts lines counts → agent ≤ 7 →
    agent < length counts.of_agent → agent < length counts.has_quit → get_or counts.has_quit agent false ≡ false →
    AreGameCounts (Asks agent asked ∷ lines) (record {
      ticks = counts.ticks;
      of_agent = set counts.of_agent agent (get_or counts.of_agent agent 0 + 1);
      has_quit = set counts.has_quit agent (is_quit asked);
    })
counted_line lines counts agent asked is low inside inside' open' = record {
  ticks = let more = sum_by-cons (λ (l : GameLine). cond (is_tick_line l) 1 0) (Asks agent asked) lines in let old = is.ticks in omega (arith, more, old);
  each = λ other le. let one = count_set counts.of_agent agent other inside in let more = sum_by-cons (λ (l : GameLine). cond (is_line_of other l) 1 0) (Asks agent asked) lines in let old = is.each other le in omega (arith, one, more, old);
  ended = λ other le. quit_set counts.has_quit lines agent other asked inside' open' (is.ended agent low) (is.ended other le);
}
