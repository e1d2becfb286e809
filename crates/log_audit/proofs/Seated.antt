-- The agents in order, and those that have a seat.
use Rattle.std.proofs.Common.{◌≡◌, ℕ, zero, suc, ◌+◌, ◌<◌, ◌≤◌, Bool, true, false, cond, List, [], ◌∷◌, ◌++◌, length, take, get_or, refl, sym, ap, ◌∙◌, arith, Some, slice_get, append-nil, filter}
use Rattle.std.proofs.lemmas.List.Elements.{filter-append}
use Rattle.tac_base.specs.Goods.{agents}
use Rattle.tac_base.proofs.Agents.{agent_at}
use Rattle.std.proofs.lemmas.Option.{slice_get_read}
use Rattle.log_audit.proofs.Positions.{next_is, take_at}

-- the agent at a place of all agents is the one of that number
pub agent_is : (items : List ℕ) (k x : ℕ) → items ≡ agents → k < 8 → x ≡ get_or items k x → x ≡ k
agent_is items k x all low is = is ∙ (ap (λ (l : List ℕ). get_or l k x) all ∙ agent_at k x low)

later_agents : (k : ℕ) → k < 8 → (rest : List ℕ) × (agents ≡ take k agents ++ k ∷ rest)
later_agents zero low = (_, refl)
later_agents (suc zero) low = (_, refl)
later_agents (suc (suc zero)) low = (_, refl)
later_agents (suc (suc (suc zero))) low = (_, refl)
later_agents (suc (suc (suc (suc zero)))) low = (_, refl)
later_agents (suc (suc (suc (suc (suc zero))))) low = (_, refl)
later_agents (suc (suc (suc (suc (suc (suc zero)))))) low = (_, refl)
later_agents (suc (suc (suc (suc (suc (suc (suc zero))))))) low = (_, refl)
later_agents (suc (suc (suc (suc (suc (suc (suc (suc k)))))))) low = absurd (omega (arith, low))

-- if some are the agents that pass, and the first of them those below one that passes, that one is next
pub seated_next : (has : ℕ → Bool) (xs : List ℕ) (ended k : ℕ) → k < 8 → has k ≡ true → ended ≤ length xs → take ended xs ≡ filter has (take k agents) → xs ≡ filter has agents → slice_get xs ended ≡ Some k
seated_next has xs ended k low passes le so_far is =
    let later = later_agents k low in
    let own : filter has (k ∷ later.0) ≡ k ∷ filter has later.0 = ap (λ b. cond b (k ∷ filter has later.0) (filter has later.0)) passes in
    next_is xs (filter has later.0) ended k le (is ∙ (ap (filter has) later.1 ∙ (filter-append has (take k agents) (k ∷ later.0) ∙ (λ i. sym so_far i ++ own i))))

next_agent : (k : ℕ) → k < 8 → take (k + 1) agents ≡ take k agents ++ k ∷ []
next_agent k low = take_at agents k k (slice_get_read agents 8 k k refl low (sym (agent_at k k low)))

module _ (has : ℕ → Bool) (k : ℕ) (low : k < 8) where
  seated_by : (b : Bool) → has k ≡ b → filter has (take (k + 1) agents) ≡ filter has (take k agents) ++ cond b (k ∷ []) []
  seated_by b is = ap (filter has) (next_agent k low) ∙ (filter-append has (take k agents) (k ∷ []) ∙ ap (λ c. filter has (take k agents) ++ cond c (k ∷ []) []) is)

  -- an agent more that passes
  pub seated_more : has k ≡ true → (xs : List ℕ) (ended : ℕ) → slice_get xs ended ≡ Some k → take ended xs ≡ filter has (take k agents) → take (ended + 1) xs ≡ filter has (take (k + 1) agents)
  seated_more passes xs ended at so_far = take_at xs ended k at ∙ (ap (λ (l : List ℕ). l ++ k ∷ []) so_far ∙ sym (seated_by true passes))

  -- an agent more that does not
  pub seated_same : has k ≡ false → (xs : List ℕ) (ended : ℕ) → take ended xs ≡ filter has (take k agents) → take ended xs ≡ filter has (take (k + 1) agents)
  seated_same fails xs ended so_far = so_far ∙ sym (seated_by false fails ∙ append-nil (filter has (take k agents)))
