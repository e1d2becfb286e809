use Rattle.std.proofs.Common.{◌≡◌, ◌+◌, ◌≤◌, ◌-◌, ℕ, drop, length}
use Rattle.tac_base.specs.declared.limits.TheConstants.{SESSION_LINES}
use Rattle.link_audit.specs.{IsAhead, IsWide, start, subject_of, Course, FinishesLog, HasCourse, behind_course, IsAheadAt, IsBehind, lines_at, replies_at}
use Rattle.link_audit.proofs.hearing.hear.Given as goal

abbrev pub invariant-loop-lines : goal.invariant-loop-lines
invariant-loop-lines g l = record {
  behind : IsBehind
      (IsAheadAt (g.D.Dialect.form l.dialect) (subject_of l.log l.boards l.agent) l.asked l.from (replies_at l.said l.told) SESSION_LINES)
      (IsAhead (g.D.Dialect.form l.dialect) (subject_of l.log l.boards l.agent) l.places (lines_at l.asked l.at) (replies_at l.said l.place) (SESSION_LINES - l.lines));
  courses : (course : Course) → IsBehind
      (HasCourse (g.D.Dialect.form l.dialect) (subject_of l.log l.boards l.agent) start (lines_at l.asked l.from) (replies_at l.said l.told) (behind_course l.lines course))
      (HasCourse (g.D.Dialect.form l.dialect) (subject_of l.log l.boards l.agent) l.places (lines_at l.asked l.at) (replies_at l.said l.place) course);
  finishes : (entries : ℕ)
      → FinishesLog (g.D.Dialect.form l.dialect) (subject_of l.log l.boards l.agent) start (lines_at l.asked l.from) (replies_at l.said l.told) entries
      → FinishesLog (g.D.Dialect.form l.dialect) (subject_of l.log l.boards l.agent) l.places (lines_at l.asked l.at) (replies_at l.said l.place) entries;
  rest : drop l.lines (lines_at l.asked l.from) ≡ lines_at l.asked l.at;
  told_so : length (replies_at l.said l.told) ≡ l.lines + length (replies_at l.said l.place);
  wide : IsWide l.places;
  within : l.at ≤ length l.asked;
  told_within : l.place ≤ length l.said;
}
