-- The lines of one agent.
use Rattle.std.proofs.Common.{◌≡◌, ◌≢◌, ℕ, zero, suc, ◌+◌, ◌≤◌, ◌<◌, List, [], ◌∷◌, ◌++◌, length, map, take, get_or, refl, sym, ap, ◌∙◌, append_assoc, subst, arith, lit≤, All, length-append, append-nil}
use Rattle.std.specs.List.{join_with_byte}
use Rattle.std.proofs.lemmas.List.{take_more}
use Rattle.std.proofs.lemmas.List.Concat.{flat_map-cons, flat_map-append}
use Rattle.std.proofs.lemmas.List.Elements.{All-get_or}
use Rattle.game_text.specs.{Preferences, IsClient, lines_of_parts, one_line, IsEndowment, endow_text, client_text, AreClients, GameFile, IsGame, lines_of_agent, agent_line}
use Rattle.text_forms.proofs.RowLoops.{spaced, keyword_and_words}
use Rattle.text_forms.proofs.PrintedLines.{IsLine, none_is, count_parts}
use Rattle.game_text.proofs.EndowmentLaws.{endow_line}
use Rattle.game_text.proofs.ClientLaws.{client_line}

-- ---- room for a row

spaced_more : {A : Type 0} (text : A → List ℕ) (xs : List A) (i : ℕ) → i < length xs → length (spaced text (take i xs)) + 1 ≤ length (spaced text xs)
spaced_more text [] i h = absurd (omega arith)
spaced_more text (x ∷ xs) zero h = omega (arith, ap length (flat_map-cons (λ y. 32 ∷ text y) x xs))
spaced_more text (x ∷ xs) (suc i) h =
    let more = spaced_more text xs i (omega arith) in
    let front : length (spaced text (take (suc i) (x ∷ xs))) ≡ length (32 ∷ text x ++ spaced text (take i xs)) = ap length (flat_map-cons (λ y. 32 ∷ text y) x (take i xs)) in
    let whole : length (spaced text (x ∷ xs)) ≡ length (32 ∷ text x ++ spaced text xs) = ap length (flat_map-cons (λ y. 32 ∷ text y) x xs) in
    omega (arith, more, front, whole, length-append (text x) (spaced text (take i xs)), length-append (text x) (spaced text xs))

-- what stands before a word of a row is shorter than the row
pub row_more : {A : Type 0} (text : A → List ℕ) (keyword : List ℕ) (xs : List A) (i : ℕ) → i < length xs → length (keyword ++ spaced text (take i xs)) + 1 ≤ length (join_with_byte 32 (keyword ∷ map text xs))
row_more text keyword xs i h =
    let more = spaced_more text xs i h in
    rw (← keyword_and_words text keyword xs) (omega (arith, more, length-append keyword (spaced text (take i xs)), length-append keyword (spaced text xs)))

-- a word after others of a row
pub row_step : {A : Type 0} (text : A → List ℕ) (old keyword out new : List ℕ) (xs : List A) (i : ℕ) (d : A) → i < length xs → out ≡ old ++ (keyword ++ spaced text (take i xs)) → new ≡ out ++ 32 ∷ text (get_or xs i d) → new ≡ old ++ (keyword ++ spaced text (take (i + 1) xs))
row_step text old keyword out new xs i d lt before after =
    let front = spaced text (take i xs) in
    let word = 32 ∷ text (get_or xs i d) in
    let more : spaced text (take (i + 1) xs) ≡ front ++ word = ap (spaced text) (take_more xs i d lt) ∙ flat_map-append (λ y. 32 ∷ text y) (take i xs) (get_or xs i d ∷ []) ∙ ap (λ (t : List ℕ). front ++ t) (flat_map-cons (λ y. 32 ∷ text y) (get_or xs i d) [] ∙ append-nil word) in
    rw (after, before, more) (simp append_assoc)

-- ---- the lines

-- a line that is sent
pub record IsSent (line : List ℕ) : Type 0 where
  pub few : length line ≤ 236
  pub one : All (λ byte. byte ≢ 10) line

sent : (line : List ℕ) → IsLine 236 line → IsSent line
sent line is = record { few = is.short; one = none_is 10 line is.lacks }

pub endow_sent : (agent : ℕ) (endow : List ℕ) → agent ≤ 255 → IsEndowment endow → IsSent (endow_text agent endow)
endow_sent agent endow small is = sent (endow_text agent endow) (endow_line 236 agent endow (lit≤ tt) small is)

pub client_sent : (agent client : ℕ) (wants : Preferences) → agent ≤ 255 → client ≤ 255 → IsClient wants → IsSent (client_text agent client wants)
client_sent agent client wants small few is = sent (client_text agent client wants) (client_line 236 agent client wants (lit≤ tt) small few is)

-- the line of a part
part_at : {A : Type 0} (text : ℕ → A → List ℕ) (from : ℕ) (xs : List A) (i : ℕ) (d : A) → i < length xs → get_or (lines_of_parts (one_line text) from xs) i [] ≡ text (from + i) (get_or xs i d)
part_at text from [] i d h = absurd (omega arith)
part_at text from (x ∷ xs) zero d h = ap (λ (n : ℕ). text n x) (omega arith)
part_at text from (x ∷ xs) (suc i) d h =
    part_at text (from + 1) xs i d (omega arith) ∙ ap (λ (n : ℕ). text n (get_or xs i d)) (omega arith)

pub client_at : (game : GameFile) (agent n : ℕ) (d : Preferences) → n < length (get_or game.clients agent []) → agent_line game agent (suc n) ≡ client_text agent n (get_or (get_or game.clients agent []) n d)
client_at game agent n d h = part_at (client_text agent) 0 (get_or game.clients agent []) n d h ∙ ap (λ (k : ℕ). client_text agent k (get_or (get_or game.clients agent []) n d)) (omega arith)

pub nine_lines : (game : GameFile) (agent : ℕ) → IsGame game → agent < 8 → length (lines_of_agent game agent) ≡ 9
nine_lines game agent is lt =
    let clients = get_or game.clients agent [] in
    let are : AreClients clients = All-get_or AreClients game.clients agent [] (omega (arith, is.agents.client_count)) is.agents.clients in
    omega (arith, are.count, count_parts (one_line (client_text agent)) IsClient 1 (λ i x h. refl) clients 0 are.each)

-- ---- what was printed

-- a line of an agent was appended
pub record IsAppended (game : GameFile) (agent n : ℕ) (old new : List ℕ) : Type 0 where
  pub text : new ≡ old ++ agent_line game agent n
  pub len : length (agent_line game agent n) ≤ 256
  pub one_line : All (λ byte. byte ≢ 10) (agent_line game agent n)
  pub count : length (lines_of_agent game agent) ≡ 9

pub endow_appended : (game : GameFile) (agent : ℕ) (old new : List ℕ) → IsGame game → agent ≤ 7 → new ≡ old ++ endow_text agent (get_or game.endow agent []) → IsAppended game agent 0 old new
endow_appended game agent old new is low e =
    let ok = All-get_or IsEndowment game.endow agent [] (omega (arith, is.agents.endow_count)) is.agents.endow in
    let line = endow_sent agent (get_or game.endow agent []) (omega (arith, low)) ok in
    let few = line.few in
    record { text = e; len = omega (arith, few); one_line = line.one; count = nine_lines game agent is (omega (arith, low)) }

pub client_appended : (game : GameFile) (agent n : ℕ) (d : Preferences) (old new : List ℕ) → IsGame game → agent ≤ 7 → n < 8 → new ≡ old ++ client_text agent n (get_or (get_or game.clients agent []) n d) → IsAppended game agent (suc n) old new
client_appended game agent n d old new is low less e =
    let clients = get_or game.clients agent [] in
    let are : AreClients clients = All-get_or AreClients game.clients agent [] (omega (arith, is.agents.client_count)) is.agents.clients in
    let here : n < length clients = omega (arith, are.count) in
    let ok = All-get_or IsClient clients n d here are.each in
    let line = client_sent agent n (get_or clients n d) (omega (arith, low)) (omega (arith, less)) ok in
    let few = line.few in
    let same = client_at game agent n d here in
    record {
      text = e ∙ ap (λ (t : List ℕ). old ++ t) (sym same);
      len = rw same (omega (arith, few));
      one_line = subst (All (λ byte. byte ≢ 10)) (sym same) line.one;
      count = nine_lines game agent is (omega (arith, low));
    }
