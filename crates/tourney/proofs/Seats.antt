-- Agents that were given a seat.
use Rattle.std.proofs.Common.{◌≡◌, ℕ, ◌+◌, List, [], ◌∷◌, true, cond, nat_lt, refl, ap, ◌∙◌, lt-ltb, arith}
use Rattle.std.specs.List.{list_any}
use Rattle.std.proofs.lemmas.List.Sums.{sum_by-cons}
use Rattle.line_protocol.specs.declared.admission.Verdict.{Verdict}
use Rattle.log_text.specs.SoundLog.{gives_seat, seatings}
use Rattle.tourney.proofs.Words.{cases}

pub given : (agent : ℕ) (verdicts : List Verdict) → nat_lt 0 (seatings verdicts agent) ≡ list_any (gives_seat agent) verdicts
given agent [] = refl
given agent (verdict ∷ verdicts) =
    ap (nat_lt 0) (sum_by-cons (λ (v : Verdict). cond (gives_seat agent v) 1 0) verdict verdicts)
    ∙ cases (gives_seat agent verdict) (λ e. rw e (some (seatings verdicts agent))) (λ n. rw n (ap (nat_lt 0) (none (seatings verdicts agent)) ∙ given agent verdicts))
  where
    some : (n : ℕ) → nat_lt 0 (1 + n) ≡ true
    some n = lt-ltb 0 (1 + n) (omega arith)

    none : (n : ℕ) → 0 + n ≡ n
    none n = omega arith
