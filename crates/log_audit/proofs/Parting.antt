-- The parts of an audit together, and the first flaw of each kind.
use Rattle.std.proofs.Common.{◌≡◌, ℕ, ◌<◌, ◌≤◌, inl, inr, refl, arith, Option, Some, None}
use mathlib.Core.Logic.{dite}
use native.Mathlib.Decide.{dec_lt}
use Rattle.log_audit.specs.{GameFile, LoggedGame, IsLogged, setup_of, IsSound, logged_history, IsSoundHead, IsFreeOf, ComesBefore, IsLower, turn_of, place_of, IsFirstFlaw, HasFairEntry, IsOnSchedule, HasDuePost, HasPost, HasDueScore, IsLowest, IsLowestBelow, IsLowestPlace, AreUnfair, IsFirstOf, HasNoneFrom, IsFirstFrom}
use Rattle.log_audit.specs.declared.findings.Flaw.{Flaw}
use Rattle.log_audit.specs.declared.findings.Flaw.TheVariants as flaws
use Rattle.log_audit.specs.declared.findings.Finding.TheVariants as findings
use Rattle.log_audit.proofs.Soundness.{sound_from_free, free_from_sound}

module _ (game : GameFile) (log : LoggedGame) where
  before_turn : (flaw other : Flaw) → ComesBefore flaw other → turn_of flaw ≤ turn_of other
  before_turn flaw other (inl lower) = omega (arith, lower)
  before_turn flaw other (inr same) = let is = same.0 in omega (arith, is)

  -- if there is no flaw of some kinds, the first one of the kinds after them is the first of all these
  pub none_before : (a b c : ℕ) (found : Option Flaw) → HasNoneFrom game log a b → a ≤ b → IsFirstFrom game log b c found → IsFirstFrom game log a c found
  none_before a b c None none le here = λ flaw low high. dite (dec_lt (turn_of flaw) b) (λ lt. none flaw low lt) (λ ge. here flaw (omega (arith, ge)) high)
  none_before a b c (Some first) none le here =
      let at = here.low in
      record {
        low = omega (arith, le, at);
        high = here.high;
        has = here.has;
        first = λ other low before. dite (dec_lt (turn_of other) b) (λ lt. none other low lt) (λ ge. here.first other (omega (arith, ge)) before);
      }

  pub first_of_all : (flaw : Flaw) → IsFirstOf game log 0 7 flaw → IsFirstFlaw game log flaw
  first_of_all flaw first = record { has = first.has; first = λ other before. first.first other (omega arith) before }

  turns : (flaw : Flaw) → turn_of flaw < 7
  turns (flaws.Entry good position) = omega arith
  turns (flaws.Clock good) = omega arith
  turns (flaws.Cash position) = omega arith
  turns (flaws.Post position) = omega arith
  turns (flaws.Unposted good position) = omega arith
  turns (flaws.Score agent) = omega arith
  turns flaws.Head = omega arith

  pub free_of_all : HasNoneFrom game log 0 7 → (flaw : Flaw) → IsFreeOf game log flaw
  free_of_all none flaw = none flaw (omega arith) (turns flaw)

  -- ---- the order

  same_place : (flaw other : Flaw) → ComesBefore flaw other → turn_of other ≤ turn_of flaw → IsLower (place_of flaw) (place_of other)
  same_place flaw other (inl lower) le = absurd (omega (arith, lower, le))
  same_place flaw other (inr same) le = same.1

  -- numbers below one, where the good is the same
  below : (n m good : ℕ) → IsLower (good, n) (good, m) → n < m
  below n m good (inl lower) = absurd (omega (arith, lower))
  below n m good (inr same) = same.1

  first_below : (n m : ℕ) → IsLower (n, 0) (m, 0) → n < m
  first_below n m (inl lower) = lower
  first_below n m (inr same) = let never = same.1 in absurd (omega (arith, never))

  -- a range of kinds may be longer than what was found
  pub longer : (a b c : ℕ) (flaw : Flaw) → b ≤ c → IsFirstOf game log a b flaw → IsFirstOf game log a c flaw
  longer a b c flaw le first = let high = first.high in record { low = first.low; high = omega (arith, high, le); has = first.has; first = first.first }

  -- if there is no flaw of the kinds before, the first of some kinds is the first of all
  pub found_first : (b c : ℕ) (flaw : Flaw) → HasNoneFrom game log 0 b → c ≤ 7 → IsFirstOf game log b c flaw → IsFirstFlaw game log flaw
  found_first b c flaw none le first = first_of_all flaw (longer 0 c 7 flaw le (none_before 0 b c (Some flaw) none (omega arith) first))

  -- ---- entries

  module _ (good position : ℕ) (unfair : AreUnfair game log good position) where
    entry_first : (other : Flaw) → ComesBefore other (flaws.Entry good position) → IsFreeOf game log other
    entry_first (flaws.Entry g p) before = λ low'. unfair.first g p low' (same_place (flaws.Entry g p) (flaws.Entry good position) before (omega arith))
    entry_first (flaws.Clock g) before = absurd (omega (arith, before_turn (flaws.Clock g) (flaws.Entry good position) before))
    entry_first (flaws.Cash p) before = absurd (omega (arith, before_turn (flaws.Cash p) (flaws.Entry good position) before))
    entry_first (flaws.Post p) before = absurd (omega (arith, before_turn (flaws.Post p) (flaws.Entry good position) before))
    entry_first (flaws.Unposted g p) before = absurd (omega (arith, before_turn (flaws.Unposted g p) (flaws.Entry good position) before))
    entry_first (flaws.Score a) before = absurd (omega (arith, before_turn (flaws.Score a) (flaws.Entry good position) before))
    entry_first flaws.Head before = absurd (omega (arith, before_turn flaws.Head (flaws.Entry good position) before))

    pub entry_found : IsFirstFlaw game log (flaws.Entry good position)
    entry_found = record { has = λ free. unfair.unfair (free unfair.low); first = entry_first }

  pub entries_free : ((good position : ℕ) → good < 28 → HasFairEntry (setup_of good game) (logged_history log good) position) → HasNoneFrom game log 0 1
  entries_free fair (flaws.Entry good position) low high = λ inside. fair good position inside
  entries_free fair (flaws.Clock g) low high = absurd (omega (arith, high))
  entries_free fair (flaws.Cash p) low high = absurd (omega (arith, high))
  entries_free fair (flaws.Post p) low high = absurd (omega (arith, high))
  entries_free fair (flaws.Unposted g p) low high = absurd (omega (arith, high))
  entries_free fair (flaws.Score a) low high = absurd (omega (arith, high))
  entries_free fair flaws.Head low high = absurd (omega (arith, high))

  -- ---- the clock

  abbrev On : ℕ → Type 0
  On good = IsOnSchedule game good (logged_history log good)

  module _ (good : ℕ) (lowest : IsLowestBelow 28 On (Some good)) where
    clock_first : (other : Flaw) → 1 ≤ turn_of other → ComesBefore other (flaws.Clock good) → IsFreeOf game log other
    clock_first (flaws.Entry g p) low before = absurd (omega (arith, low))
    clock_first (flaws.Clock g) low before = λ inside'. lowest.2 g (first_below g good (same_place (flaws.Clock g) (flaws.Clock good) before (omega arith)))
    clock_first (flaws.Cash p) low before = absurd (omega (arith, before_turn (flaws.Cash p) (flaws.Clock good) before))
    clock_first (flaws.Post p) low before = absurd (omega (arith, before_turn (flaws.Post p) (flaws.Clock good) before))
    clock_first (flaws.Unposted g p) low before = absurd (omega (arith, before_turn (flaws.Unposted g p) (flaws.Clock good) before))
    clock_first (flaws.Score a) low before = absurd (omega (arith, before_turn (flaws.Score a) (flaws.Clock good) before))
    clock_first flaws.Head low before = absurd (omega (arith, before_turn flaws.Head (flaws.Clock good) before))

    pub clock_found : IsFirstOf game log 1 2 (flaws.Clock good)
    clock_found = record { low = omega arith; high = omega arith; has = λ free. lowest.1 (free lowest.0); first = clock_first }

  pub clock_free : IsLowestBelow 28 On None → HasNoneFrom game log 1 2
  clock_free none (flaws.Entry g p) low high = absurd (omega (arith, low))
  clock_free none (flaws.Clock g) low high = λ inside. none g inside
  clock_free none (flaws.Cash p) low high = absurd (omega (arith, high))
  clock_free none (flaws.Post p) low high = absurd (omega (arith, high))
  clock_free none (flaws.Unposted g p) low high = absurd (omega (arith, high))
  clock_free none (flaws.Score a) low high = absurd (omega (arith, high))
  clock_free none flaws.Head low high = absurd (omega (arith, high))

  -- ---- cash

  -- ---- posts

  module _ (position : ℕ) (lowest : IsLowest (HasDuePost log) (Some position)) where
    post_first : (other : Flaw) → 3 ≤ turn_of other → ComesBefore other (flaws.Post position) → IsFreeOf game log other
    post_first (flaws.Entry g p) low before = absurd (omega (arith, low))
    post_first (flaws.Clock g) low before = absurd (omega (arith, low))
    post_first (flaws.Cash p) low before = absurd (omega (arith, low))
    post_first (flaws.Post p) low before = lowest.1 p (below p position 0 (same_place (flaws.Post p) (flaws.Post position) before (omega arith)))
    post_first (flaws.Unposted g p) low before = absurd (omega (arith, before_turn (flaws.Unposted g p) (flaws.Post position) before))
    post_first (flaws.Score a) low before = absurd (omega (arith, before_turn (flaws.Score a) (flaws.Post position) before))
    post_first flaws.Head low before = absurd (omega (arith, before_turn flaws.Head (flaws.Post position) before))

    pub post_found : IsFirstOf game log 3 4 (flaws.Post position)
    post_found = record { low = omega arith; high = omega arith; has = lowest.0; first = post_first }

  pub posts_free : IsLowest (HasDuePost log) None → HasNoneFrom game log 3 4
  posts_free none (flaws.Entry g p) low high = absurd (omega (arith, low))
  posts_free none (flaws.Clock g) low high = absurd (omega (arith, low))
  posts_free none (flaws.Cash p) low high = absurd (omega (arith, low))
  posts_free none (flaws.Post p) low high = none p
  posts_free none (flaws.Unposted g p) low high = absurd (omega (arith, high))
  posts_free none (flaws.Score a) low high = absurd (omega (arith, high))
  posts_free none flaws.Head low high = absurd (omega (arith, high))

  module _ (good position : ℕ) (lowest : IsLowestPlace (HasPost log) (Some (good, position))) where
    unposted_first : (other : Flaw) → 4 ≤ turn_of other → ComesBefore other (flaws.Unposted good position) → IsFreeOf game log other
    unposted_first (flaws.Entry g p) low before = absurd (omega (arith, low))
    unposted_first (flaws.Clock g) low before = absurd (omega (arith, low))
    unposted_first (flaws.Cash p) low before = absurd (omega (arith, low))
    unposted_first (flaws.Post p) low before = absurd (omega (arith, low))
    unposted_first (flaws.Unposted g p) low before = λ inside'. lowest.2 g p inside' (same_place (flaws.Unposted g p) (flaws.Unposted good position) before (omega arith))
    unposted_first (flaws.Score a) low before = absurd (omega (arith, before_turn (flaws.Score a) (flaws.Unposted good position) before))
    unposted_first flaws.Head low before = absurd (omega (arith, before_turn flaws.Head (flaws.Unposted good position) before))

    pub unposted_found : IsFirstOf game log 4 5 (flaws.Unposted good position)
    unposted_found = record { low = omega arith; high = omega arith; has = λ free. lowest.1 (free lowest.0); first = unposted_first }

  pub unposted_free : IsLowestPlace (HasPost log) None → HasNoneFrom game log 4 5
  unposted_free none (flaws.Entry g p) low high = absurd (omega (arith, low))
  unposted_free none (flaws.Clock g) low high = absurd (omega (arith, low))
  unposted_free none (flaws.Cash p) low high = absurd (omega (arith, low))
  unposted_free none (flaws.Post p) low high = absurd (omega (arith, low))
  unposted_free none (flaws.Unposted g p) low high = λ inside. none g p inside
  unposted_free none (flaws.Score a) low high = absurd (omega (arith, high))
  unposted_free none flaws.Head low high = absurd (omega (arith, high))

  -- ---- scores and the head

  module _ (agent : ℕ) (lowest : IsLowest (HasDueScore game log) (Some agent)) where
    score_first : (other : Flaw) → 5 ≤ turn_of other → ComesBefore other (flaws.Score agent) → IsFreeOf game log other
    score_first (flaws.Entry g p) low before = absurd (omega (arith, low))
    score_first (flaws.Clock g) low before = absurd (omega (arith, low))
    score_first (flaws.Cash p) low before = absurd (omega (arith, low))
    score_first (flaws.Post p) low before = absurd (omega (arith, low))
    score_first (flaws.Unposted g p) low before = absurd (omega (arith, low))
    score_first (flaws.Score a) low before = lowest.1 a (below a agent 0 (same_place (flaws.Score a) (flaws.Score agent) before (omega arith)))
    score_first flaws.Head low before = absurd (omega (arith, before_turn flaws.Head (flaws.Score agent) before))

    pub score_found : IsFirstOf game log 5 6 (flaws.Score agent)
    score_found = record { low = omega arith; high = omega arith; has = lowest.0; first = score_first }

  pub scores_free : IsLowest (HasDueScore game log) None → HasNoneFrom game log 5 6
  scores_free none (flaws.Entry g p) low high = absurd (omega (arith, low))
  scores_free none (flaws.Clock g) low high = absurd (omega (arith, low))
  scores_free none (flaws.Cash p) low high = absurd (omega (arith, low))
  scores_free none (flaws.Post p) low high = absurd (omega (arith, low))
  scores_free none (flaws.Unposted g p) low high = absurd (omega (arith, low))
  scores_free none (flaws.Score a) low high = none a
  scores_free none flaws.Head low high = absurd (omega (arith, high))

  head_first : (other : Flaw) → 6 ≤ turn_of other → ComesBefore other flaws.Head → IsFreeOf game log other
  head_first (flaws.Entry g p) low before = absurd (omega (arith, low))
  head_first (flaws.Clock g) low before = absurd (omega (arith, low))
  head_first (flaws.Cash p) low before = absurd (omega (arith, low))
  head_first (flaws.Post p) low before = absurd (omega (arith, low))
  head_first (flaws.Unposted g p) low before = absurd (omega (arith, low))
  head_first (flaws.Score a) low before = absurd (omega (arith, low))
  head_first flaws.Head low before = absurd (omega (arith, below 0 0 0 (same_place flaws.Head flaws.Head before (omega arith))))

  pub head_found : (IsSoundHead log log.head → ⊥) → IsFirstOf game log 6 7 flaws.Head
  head_found no_head = record { low = omega arith; high = omega arith; has = no_head; first = head_first }

  pub head_free : IsSoundHead log log.head → HasNoneFrom game log 6 7
  head_free sound (flaws.Entry g p) low high = absurd (omega (arith, low))
  head_free sound (flaws.Clock g) low high = absurd (omega (arith, low))
  head_free sound (flaws.Cash p) low high = absurd (omega (arith, low))
  head_free sound (flaws.Post p) low high = absurd (omega (arith, low))
  head_free sound (flaws.Unposted g p) low high = absurd (omega (arith, low))
  head_free sound (flaws.Score a) low high = absurd (omega (arith, low))
  head_free sound flaws.Head low high = sound

  -- ---- the finding

  module _ (logged : IsLogged log) where
    pub unsound_is : (flaw : Flaw) → IsFirstFlaw game log flaw → (findings.Unsound flaw ≡ findings.Sound → IsSound game log) × (IsSound game log → findings.Unsound flaw ≡ findings.Sound)
    unsound_is flaw first = ((λ is. absurd cc), (λ sound. absurd (first.has (free_from_sound game log logged sound flaw))))

    pub sound_is : ((flaw : Flaw) → IsFreeOf game log flaw) → (findings.Sound ≡ findings.Sound → IsSound game log) × (IsSound game log → findings.Sound ≡ findings.Sound)
    sound_is free = ((λ is. sound_from_free game log logged free), (λ sound. refl))
