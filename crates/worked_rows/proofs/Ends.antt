-- Why a session ends: what was sent, what the link had left, and the counts of its faults.
use Rattle.std.proofs.Common.{◌≡◌, ◌<◌, get_or, inl, inr, ℕ, true, false, List, [], ◌∷◌, length, map, Option, Some, None, refl, ap, arith, ◌++◌, codes}
use Rattle.std.specs.List.{concat}
use Rattle.tac_io.specs.States.{LinkState}
use Rattle.tac_io.specs.declared.line_got.LineGot.{LineGot}
use Rattle.tac_io.specs.declared.line_got.LineGot.TheVariants as gots
use Rattle.line_protocol.specs.declared.admission.Cause.{Cause}
use Rattle.line_protocol.specs.declared.admission.Cause.TheVariants as causes
use Rattle.line_protocol.specs.Replies.{said_text}
use Rattle.agent_gate.specs.Turns.{Turn, Skipped, Quit, has_left}
use Rattle.agent_gate.specs.SessionEnds.{StopsBy, ReadsBy, SendsBy, reply_line}
use Rattle.worked_rows.proofs.Links.{counts_rise_or_stay}

-- a link that was sent some bytes, has some left, and whose reads and writes failed after so many bytes
abbrev link : List ℕ → List ℕ → List ℕ → List ℕ → LinkState
link sent left reads writes = record {
  taken = Some [];
  left = Some left;
  sent = Some sent;
  reads = length reads;
  writes = length writes;
  read_failures = Some reads;
  write_failures = Some writes;
}

-- three calls failed before, at no byte
abbrev three : List ℕ
three = 0 ∷ 0 ∷ 0 ∷ []

-- the link before a session: three calls of each kind failed
abbrev start : LinkState
start = link [] (codes "..") three three

-- the link after a session in which no call failed
abbrev quiet : List ℕ → List ℕ → LinkState
quiet sent left = link sent left three three

-- what the bytes give if no further line comes
abbrev no_line : List (LineGot × List ℕ)
no_line = (gots.End, []) ∷ []

-- a session whose welcome is a line `hi` ended for the cause
record EndsFor (cause : Cause) (turns : List Turn) (rest : List (LineGot × List ℕ)) (after : LinkState) : Type 0 where
  stopped : StopsBy cause turns rest after
  reads : ReadsBy cause start after
  sent : SendsBy cause (codes "hi\n" ∷ map (reply_line said_text) turns) start after

-- how many bytes are known
abbrev count_known : Option (List ℕ) → ℕ
count_known None = 0
count_known (Some bytes) = length bytes

-- the fourth of the numbers that are known
abbrev fourth_known : Option (List ℕ) → ℕ
fourth_known None = 0
fourth_known (Some places) = get_or places 3 0

-- what the bytes give, without the lines
abbrev answered : List (LineGot × List ℕ) → List LineGot
answered answers = map (λ answer. answer.0) answers

one_line : 1 < 65536
one_line = omega arith

quit_after_bye : EndsFor causes.Quit (Quit ∷ []) no_line (quiet (codes "hi\nbye\n") (codes "cash\n"))
quit_after_bye = record { stopped = refl; reads = (refl, refl); sent = (refl, (refl, refl)) }

no_quit_without_it : EndsFor causes.Quit (Skipped ∷ []) no_line (quiet (codes "hi\nno toolong\n") []) → ⊥
no_quit_without_it ends = let e : false ≡ true = ends.stopped in cc

end_with_all_taken : EndsFor causes.End (Skipped ∷ []) no_line (quiet (codes "hi\nno toolong\n") [])
end_with_all_taken = record { stopped = (refl, one_line, refl, refl); reads = (refl, refl); sent = (refl, (refl, refl)) }

no_end_with_bytes_left : EndsFor causes.End (Skipped ∷ []) no_line (quiet (codes "hi\nno toolong\n") (codes "x")) → ⊥
no_end_with_bytes_left ends = let e : ◌≡◌ {A = List ℕ} (120 ∷ []) [] = ends.stopped.3 in cc

read_fault_with_bytes_left : EndsFor causes.ReadFault (Skipped ∷ []) no_line (link (codes "hi\nno toolong\n") (codes "x") (three ++ 0 ∷ []) three)
read_fault_with_bytes_left = record { stopped = (refl, one_line, refl); reads = (counts_rise_or_stay.1, refl); sent = (refl, (refl, refl)) }

-- a whole line is left without an answer, and then a read failed
no_read_fault_with_a_line_left : EndsFor causes.ReadFault (Skipped ∷ []) ((gots.Line, codes "cash") ∷ no_line) (link (codes "hi\nno toolong\n") (codes "x") (three ++ 0 ∷ []) three) → ⊥
no_read_fault_with_a_line_left ends = let e : ◌≡◌ {A = List LineGot} (gots.Line ∷ gots.End ∷ []) (gots.End ∷ []) = ap answered ends.stopped.2 in cc

end_counts_no_fault : EndsFor causes.End (Skipped ∷ []) no_line (link (codes "hi\nno toolong\n") [] (three ++ 0 ∷ []) three) → ⊥
end_counts_no_fault ends = let e : ◌≡◌ {A = ℕ} 4 3 = ends.reads.0 in omega (arith, e)

no_end_with_a_reply_unsent : EndsFor causes.End (Skipped ∷ []) no_line (quiet (codes "hi\nno too") []) → ⊥
no_end_with_a_reply_unsent ends = let e : ◌≡◌ {A = ℕ} 9 14 = ap count_known ends.sent.0 in omega (arith, e)

write_fault_cuts_the_last_line : EndsFor causes.WriteFault (Skipped ∷ []) no_line (link (codes "hi\nno too") [] three (three ++ 9 ∷ []))
write_fault_cuts_the_last_line = record {
  stopped = tt;
  reads = (refl, refl);
  sent = (codes "hi\n" ∷ [], codes "no toolong\n", 6, refl, omega arith, refl, (counts_rise_or_stay.1, refl));
}

-- a write failed after two bytes, and seven more were sent
no_session_writes_after_a_failed_write : EndsFor causes.WriteFault (Skipped ∷ []) no_line (link (codes "hi\nno too") [] three (three ++ 2 ∷ [])) → ⊥
no_session_writes_after_a_failed_write ends = let e : ◌≡◌ {A = ℕ} 2 9 = ap fourth_known ends.sent.6.1 in omega (arith, e)

-- one turn is less than all, and the bytes give their end
no_budget_after_one_turn : EndsFor causes.Budget (Skipped ∷ []) no_line (quiet (codes "hi\nno toolong\n") []) → ⊥
no_budget_after_one_turn ends = elim ends.stopped.1 [
  | inl used_up ↦ let e : ◌≡◌ {A = ℕ} 1 65536 = used_up in omega (arith, e)
  | inr comes ↦ let e : ◌≡◌ {A = List LineGot} (gots.End ∷ []) (gots.Budget ∷ []) = ap answered comes.1 in cc
]

budget_after_65536_turns : (turns : List Turn) → has_left turns ≡ false → length turns ≡ 65536
    → EndsFor causes.Budget turns no_line (quiet (concat (codes "hi\n" ∷ map (reply_line said_text) turns)) (codes "cash\n"))
budget_after_65536_turns turns stays full = record { stopped = (stays, inl full); reads = (refl, refl); sent = (refl, (refl, refl)) }

budget_with_all_bytes_used_up : EndsFor causes.Budget (Skipped ∷ []) ((gots.Budget, []) ∷ []) (quiet (codes "hi\nno toolong\n") (codes "x"))
budget_with_all_bytes_used_up = record { stopped = (refl, inr (one_line, refl)); reads = (refl, refl); sent = (refl, (refl, refl)) }
