-- The numbers of agents, and lists of what each agent has.
use Rattle.std.proofs.Common.{◌≡◌, ℕ, zero, suc, ◌≤◌, false, true, List, [], refl, sym, ◌∙◌, arith, map, set, get_or, append-nil, if◌then◌else◌, ◌==◌, ◌≢◌, flat_map}
use Rattle.std.specs.List.{AllByRecursion}
use Rattle.std.proofs.lemmas.Bool.Decides.{nat_tests}
use Rattle.tac_base.specs.Goods.{agents, clock}

pub number_same : (n : ℕ) → (n == n) ≡ true
number_same n = grind (arith, nat_tests)

pub numbers_differ : (m n : ℕ) → m ≢ n → (m == n) ≡ false
numbers_differ m n h = grind (arith, nat_tests)

pub another : (agent a b : ℕ) → b ≡ a → (agent == a) ≡ false → (b == agent) ≡ false
another agent a b same differ = numbers_differ b agent (λ is. absurd (let t : (agent == a) ≡ true = rw (sym is ∙ same) (number_same a) in cc))

pub not_clock : (agent : ℕ) → agent ≤ 7 → (agent == clock) ≡ false
not_clock agent le = grind (arith, nat_tests)

pub agents_within : AllByRecursion (λ a. a ≤ 7) agents
agents_within =
    (omega arith, (omega arith, (omega arith, (omega arith, (omega arith, (omega arith, (omega arith, (omega arith, tt))))))))

-- what an agent has, in a list of what the agents have
pub agents_get : {T : Type 0} (agent : ℕ) (of : ℕ → T) (d : T) → agent ≤ 7 → get_or (map of agents) agent d ≡ of agent
agents_get zero of d le = refl
agents_get (suc zero) of d le = refl
agents_get (suc (suc zero)) of d le = refl
agents_get (suc (suc (suc zero))) of d le = refl
agents_get (suc (suc (suc (suc zero)))) of d le = refl
agents_get (suc (suc (suc (suc (suc zero))))) of d le = refl
agents_get (suc (suc (suc (suc (suc (suc zero)))))) of d le = refl
agents_get (suc (suc (suc (suc (suc (suc (suc zero))))))) of d le = refl
agents_get (suc (suc (suc (suc (suc (suc (suc (suc n)))))))) of d le = absurd (omega arith)

-- one agent has something new
pub agents_set : {T : Type 0} (agent : ℕ) (new : T) (old : ℕ → T) → agent ≤ 7 →
    map (λ a. if agent == a then new else old a) agents ≡ set (map old agents) agent new
agents_set zero new old le = refl
agents_set (suc zero) new old le = refl
agents_set (suc (suc zero)) new old le = refl
agents_set (suc (suc (suc zero))) new old le = refl
agents_set (suc (suc (suc (suc zero)))) new old le = refl
agents_set (suc (suc (suc (suc (suc zero))))) new old le = refl
agents_set (suc (suc (suc (suc (suc (suc zero)))))) new old le = refl
agents_set (suc (suc (suc (suc (suc (suc (suc zero))))))) new old le = refl
agents_set (suc (suc (suc (suc (suc (suc (suc (suc n)))))))) new old le = absurd (omega arith)

-- what one agent has, and nothing for the others
pub agents_pick : {T : Type 0} (agent : ℕ) (xs : List T) → agent ≤ 7 → flat_map (λ a. if agent == a then xs else []) agents ≡ xs
agents_pick zero xs le = append-nil xs
agents_pick (suc zero) xs le = append-nil xs
agents_pick (suc (suc zero)) xs le = append-nil xs
agents_pick (suc (suc (suc zero))) xs le = append-nil xs
agents_pick (suc (suc (suc (suc zero)))) xs le = append-nil xs
agents_pick (suc (suc (suc (suc (suc zero))))) xs le = append-nil xs
agents_pick (suc (suc (suc (suc (suc (suc zero)))))) xs le = append-nil xs
agents_pick (suc (suc (suc (suc (suc (suc (suc zero))))))) xs le = append-nil xs
agents_pick (suc (suc (suc (suc (suc (suc (suc (suc n)))))))) xs le = absurd (omega arith)

-- what is alike for each agent
pub agents_alike : {T : Type 0} (f g : ℕ → T) → ((a : ℕ) → a ≤ 7 → f a ≡ g a) → map f agents ≡ map g agents
agents_alike f g h = rw (h 0 (omega arith), h 1 (omega arith), h 2 (omega arith), h 3 (omega arith), h 4 (omega arith), h 5 (omega arith), h 6 (omega arith), h 7 (omega arith)) refl

pub agents_joined : {T : Type 0} (f g : ℕ → List T) → ((a : ℕ) → a ≤ 7 → f a ≡ g a) → flat_map f agents ≡ flat_map g agents
agents_joined f g h = rw (h 0 (omega arith), h 1 (omega arith), h 2 (omega arith), h 3 (omega arith), h 4 (omega arith), h 5 (omega arith), h 6 (omega arith), h 7 (omega arith)) refl
