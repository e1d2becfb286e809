use Rattle.std.proofs.Common.{◌≡◌, ◌+◌, ◌≤◌, ◌-◌, ℕ, [], length}
use Rattle.tac_base.specs.declared.limits.TheConstants.{SESSION_LINES}
use Rattle.link_audit.specs.{IsAhead, IsWide, subject_of, Course, FinishesLog, HasCourse, behind_course, IsBehind, lines_at}
use Rattle.link_audit.proofs.passing.pass.Given as goal

abbrev pub invariant-loop-line : goal.invariant-loop-line
invariant-loop-line g l = record {
  behind : IsBehind
      (IsAhead (g.D.Dialect.form l.dialect) (subject_of l.log l.boards l.agent) l.reached (lines_at l.asked l.from) [] (SESSION_LINES - l.lines))
      (IsAhead (g.D.Dialect.form l.dialect) (subject_of l.log l.boards l.agent) l.places (lines_at l.asked l.at) [] (SESSION_LINES - l.line));
  courses : (course : Course) → IsBehind
      (HasCourse (g.D.Dialect.form l.dialect) (subject_of l.log l.boards l.agent) l.reached (lines_at l.asked l.from) [] (behind_course (l.line - l.lines) course))
      (HasCourse (g.D.Dialect.form l.dialect) (subject_of l.log l.boards l.agent) l.places (lines_at l.asked l.at) [] course);
  finishes : (entries : ℕ) → FinishesLog (g.D.Dialect.form l.dialect) (subject_of l.log l.boards l.agent) l.reached (lines_at l.asked l.from) [] entries
      → (k : ℕ) × (entries ≡ l.count + k) × FinishesLog (g.D.Dialect.form l.dialect) (subject_of l.log l.boards l.agent) l.places (lines_at l.asked l.at) [] k;
  since : l.lines ≤ l.line;
  wide : IsWide l.places;
  within : l.at ≤ length l.asked;
  few : l.count ≤ l.line;
}
