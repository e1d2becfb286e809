-- The lines of the agents are read in their ranges as they were printed.
use Rattle.std.proofs.Common.{◌≡◌, ℕ, ◌<◌, List, ◌++◌, Ok, refl, subst, append_assoc, arith}
use Rattle.game_text.specs.{IsClient, BadLine, Remaining, ◌>>=◌, repeat, lines_of_parts, one_line, IsEndowment, endow_of, endow_text, client_of, client_text, AreClients, AreAgents, client_lines, agents_lines, endow_part, client_part, agent_part, agents_in}
use Rattle.text_forms.proofs.Reading.{Took, took_then, bind_ok, ok_is, Takes, line_takes, repeat_took}
use Rattle.text_forms.proofs.PrintedLines.{ahead}
use Rattle.text_forms.proofs.ReadAgain.{Again, line_part_again, parts_again}
use Rattle.game_text.specs.declared.agents.Agents.{Agents}
use Rattle.game_text.proofs.EndowmentLaws.{endow_is, endow_again}
use Rattle.game_text.proofs.ClientLaws.{client_is, client_again}

-- ---- what is read was printed so

endow_takes : Takes endow_part (one_line endow_text) IsEndowment
endow_takes = line_takes endow_of endow_text IsEndowment endow_is

client_takes : (agent : ℕ) → Takes (client_part agent) (one_line (client_text agent)) IsClient
client_takes agent = line_takes (client_of agent) (client_text agent) IsClient (client_is agent)

agent_takes : Takes agent_part client_lines AreClients
unfolding Takes
agent_takes agent left x e =
    let r = repeat_took (client_part agent) (one_line (client_text agent)) IsClient (client_takes agent) 8 0 left x e in
    (r.took, record { count = r.count_is; each = r.each })

pub agents_took : (left : Remaining) (x : Agents × Remaining) → agents_in left ≡ Ok x → Took left (agents_lines x.0) x.1 × AreAgents x.0
unfolding agents_in
agents_took left x e =
    let a = bind_ok (repeat 8 0 endow_part left) (λ endow. repeat 8 0 agent_part endow.1 >>= λ clients. Ok (record { endow = endow.0; clients = clients.0 }, clients.1)) x e in
    let b = bind_ok (repeat 8 0 agent_part a.0.1) (λ clients. Ok (record { endow = a.0.0; clients = clients.0 }, clients.1)) x a.2 in
    let p = repeat_took endow_part (one_line endow_text) IsEndowment endow_takes 8 0 left a.0 a.1 in
    let q = repeat_took agent_part client_lines AreClients agent_takes 8 0 a.0.1 b.0 b.1 in
    subst (λ (y : Agents × Remaining). Took left (agents_lines y.0) y.1 × AreAgents y.0) (ok_is {E = BadLine} (record { endow = a.0.0; clients = b.0.0 }, b.0.1) x b.2) (
      took_then left (lines_of_parts (one_line endow_text) 0 a.0.0) a.0.1 (lines_of_parts client_lines 0 b.0.0) b.0.1 p.took q.took,
      record { endow_count = p.count_is; endow = p.each; client_count = q.count_is; clients = q.each },
    )

-- ---- what is printed is read again

endow_part_again : Again endow_part (one_line endow_text) IsEndowment 8
endow_part_again = line_part_again endow_of endow_text IsEndowment 8 (λ agent endow lt is. endow_again agent endow (omega (arith, lt)) is)

client_part_again : (agent : ℕ) → agent < 8 → Again (client_part agent) (one_line (client_text agent)) IsClient 8
client_part_again agent small = line_part_again (client_of agent) (client_text agent) IsClient 8 (λ client wants lt is. client_again agent client wants (omega (arith, small)) (omega (arith, lt)) is)

agent_part_again : Again agent_part client_lines AreClients 8
unfolding Again
agent_part_again agent clients lt is numbers more after = parts_again (client_part agent) (one_line (client_text agent)) IsClient 8 (client_part_again agent lt) clients is.count is.each numbers more after

pub agents_again : (agents : Agents) → AreAgents agents → (numbers : List ℕ) (more : List (List ℕ)) (after : Remaining) → (m : List ℕ) × (agents_in (ahead numbers (agents_lines agents ++ more) after) ≡ Ok (agents, ahead m more after))
unfolding agents_in
agents_again agents are numbers more after =
    let rest = lines_of_parts client_lines 0 agents.clients ++ more in
    let e = parts_again endow_part (one_line endow_text) IsEndowment 8 endow_part_again agents.endow are.endow_count are.endow numbers rest after in
    let c = parts_again agent_part client_lines AreClients 8 agent_part_again agents.clients are.client_count are.clients e.0 more after in
    (c.0, rw (append_assoc (lines_of_parts (one_line endow_text) 0 agents.endow) (lines_of_parts client_lines 0 agents.clients) more, e.1, c.1) refl)
