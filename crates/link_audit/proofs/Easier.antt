-- Whoever saw less may do all that whoever saw more may do.
use Rattle.std.proofs.Common.{◌≡◌, ℕ, ◌+◌, ◌<◌, ◌≤◌, List, [], ◌∷◌, false, Ok, length, refl, sym, ap, ◌∙◌, subst, inl, inr, arith, slice_index, slice_set, get_or-set_same, get_or-set_other}
use Rattle.std.proofs.lemmas.Bool.Decides.{eqb_tells}
use Rattle.link_audit.specs.{AGENT_CALLS, CASH_READINGS, due_post, Said, logged_history, Item, Asks, Turn, Called, CallDenied, CashRead, CashDenied, Quoted, Refused, Skipped, Quit, is_leaving, reading, Subject, entry_caller, cash_caller, rest_of, ArePostedAt, HasNext, IsNextInLog, IsOver, IsWide, behind, behind_turn, IsAllowed, AreAllowed, Remains, IsEasier, IsPossible, AreNext, walked}
use Rattle.line_protocol.specs.declared.asking.Request.TheVariants as requests
use Rattle.link_audit.specs.declared.places.Places.{Places}
use Rattle.link_audit.proofs.Walking.{wide_after}

-- the agent stays by a line that does not ask to leave
pub all_stay : (Asked : Item → Type 0) (Fits : Said → Type 0) (s : Subject) (from : Places) → (Asked (Asks (Ok requests.Quit)) → ⊥) → (other : Turn) → IsPossible Asked Fits s from other → is_leaving other ≡ false
all_stay Asked Fits s from quit (Called request good position entry posted) is = refl
all_stay Asked Fits s from quit (CallDenied request good) is = refl
all_stay Asked Fits s from quit (CashRead position dollars) is = refl
all_stay Asked Fits s from quit CashDenied is = refl
all_stay Asked Fits s from quit (Quoted good board) is = refl
all_stay Asked Fits s from quit (Refused fault) is = refl
all_stay Asked Fits s from quit Skipped is = refl
all_stay Asked Fits s from quit Quit is = absurd (quit is.asked)

pub same_places : (from : Places) → IsEasier from from
same_places from = record { next = refl; made = refl; cash = refl; readings = refl; seen = λ good low. omega arith }

-- a number of each good, lower in the first list, after the same was set in both
lower_set : (xs ys : List ℕ) (g v good : ℕ) → length xs ≡ 28 → length ys ≡ 28 → g < 28 → slice_index xs good ≤ slice_index ys good → slice_index (slice_set xs g v) good ≤ slice_index (slice_set ys g v) good
lower_set xs ys g v good long long' low le = elim (eqb_tells g good) [
  | inl here ↦
      let a : slice_index (slice_set xs g v) good ≡ v = ap (λ (n : ℕ). slice_index (slice_set xs g v) n) (sym here.1) ∙ get_or-set_same xs g v 0 (omega (arith, long, low)) in
      let b : slice_index (slice_set ys g v) good ≡ v = ap (λ (n : ℕ). slice_index (slice_set ys g v) n) (sym here.1) ∙ get_or-set_same ys g v 0 (omega (arith, long', low)) in
      omega arith
  | inr away ↦
      let a = get_or-set_other xs g good v 0 (λ is. away.1 (sym is)) in
      let b = get_or-set_other ys g good v 0 (λ is. away.1 (sym is)) in
      omega (arith, a, b, le)
]

-- a number of a good was raised
pub raised : (seen : List ℕ) (g count good : ℕ) → length seen ≡ 28 → g < 28 → slice_index seen g ≤ count → slice_index seen good ≤ slice_index (slice_set seen g count) good
raised seen g count good long low le = elim (eqb_tells g good) [
  | inl here ↦
      let now : slice_index (slice_set seen g count) good ≡ count = ap (λ (n : ℕ). slice_index (slice_set seen g count) n) (sym here.1) ∙ get_or-set_same seen g count 0 (omega (arith, long, low)) in
      let was : slice_index seen good ≡ slice_index seen g = ap (λ (n : ℕ). slice_index seen n) (sym here.1) in
      omega arith
  | inr away ↦ let now = get_or-set_other seen g good count 0 (λ is. away.1 (sym is)) in omega (arith, now)
]

-- of two counts that a good's number is raised to, the lower one leaves less seen
pub lower_raised : (seen : List ℕ) (g count count' good : ℕ) → length seen ≡ 28 → g < 28 → count ≤ count' → slice_index (slice_set seen g count) good ≤ slice_index (slice_set seen g count') good
lower_raised seen g count count' good long low le = elim (eqb_tells g good) [
  | inl here ↦
      let a : slice_index (slice_set seen g count) good ≡ count = ap (λ (n : ℕ). slice_index (slice_set seen g count) n) (sym here.1) ∙ get_or-set_same seen g count 0 (omega (arith, long, low)) in
      let b : slice_index (slice_set seen g count') good ≡ count' = ap (λ (n : ℕ). slice_index (slice_set seen g count') n) (sym here.1) ∙ get_or-set_same seen g count' 0 (omega (arith, long, low)) in
      omega arith
  | inr away ↦
      let a = get_or-set_other seen g good count 0 (λ is. away.1 (sym is)) in
      let b = get_or-set_other seen g good count' 0 (λ is. away.1 (sym is)) in
      omega (arith, a, b)
]

module _ (from hard : Places) (easier : IsEasier from hard) where
  pub easy_allowed : (turn : Turn) → IsAllowed hard turn → IsAllowed from turn
  easy_allowed (Called request good position entry posted) is = (
    is.0,
    is.1,
    subst (λ (l : List ℕ). slice_index l good < AGENT_CALLS) (sym easier.made) is.2,
    (let less = easier.seen good is.1 in let forward = is.3 in omega (arith, less, forward)),
  )
  easy_allowed (CallDenied request good) is = (is.0, is.1, ap (λ (l : List ℕ). slice_index l good) easier.made ∙ is.2)
  easy_allowed (CashRead position dollars) is = subst (λ (n : ℕ). n < CASH_READINGS) (sym easier.readings) is
  easy_allowed CashDenied is = easier.readings ∙ is
  easy_allowed (Quoted good board) is = (is.0, (let less = easier.seen good is.0 in let forward = is.1 in omega (arith, less, forward)))
  easy_allowed (Refused fault) is = tt
  easy_allowed Skipped is = tt
  easy_allowed Quit is = tt

  module _ (wide : IsWide from) (wide' : IsWide hard) where
    easy_after : (turn : Turn) → IsAllowed hard turn → IsEasier (behind_turn from turn) (behind_turn hard turn)
    easy_after (Called request good position entry posted) is = record {
      next = ap (λ (l : List ℕ). slice_set l good (position + 1)) easier.next;
      made = ap (λ (l : List ℕ). slice_set l good (slice_index l good + 1)) easier.made;
      cash = ap (λ (n : ℕ). behind n (due_post good position entry) posted) easier.cash;
      readings = easier.readings;
      seen = λ g low. lower_set from.seen hard.seen good (position + 1) g wide.seen wide'.seen is.1 (easier.seen g low);
    }
    easy_after (CallDenied request good) is = easier
    easy_after (CashRead position dollars) is = record { next = easier.next; made = easier.made; cash = refl; readings = ap (λ (n : ℕ). n + 1) easier.readings; seen = easier.seen }
    easy_after CashDenied is = easier
    easy_after (Quoted good board) is = record {
      next = easier.next;
      made = easier.made;
      cash = easier.cash;
      readings = easier.readings;
      seen = λ g low. lower_set from.seen hard.seen good board.count g wide.seen wide'.seen is.0 (easier.seen g low);
    }
    easy_after (Refused fault) is = easier
    easy_after Skipped is = easier
    easy_after Quit is = easier

all_easy : (from hard : Places) (turns : List Turn) → IsEasier from hard → IsWide from → IsWide hard → AreAllowed hard turns → AreAllowed from turns
all_easy from hard [] easier wide wide' all = tt
all_easy from hard (turn ∷ turns) easier wide wide' all = (
  easy_allowed from hard easier turn all.0,
  all.1,
  all_easy (behind_turn from turn) (behind_turn hard turn) turns (easy_after from hard easier wide wide' turn all.0) (wide_after from turn wide) (wide_after hard turn wide') all.2,
)

pub easy_remains : (s : Subject) (from hard : Places) (turns : List Turn) → IsEasier from hard → IsWide from → IsWide hard → Remains s hard turns → Remains s from turns
easy_remains s from hard turns easier wide wide' all = record {
  calls = λ good low. ap (λ (l : List ℕ). rest_of entry_caller s.agent (slice_index l good) (logged_history s.log good)) easier.next ∙ all.calls good low;
  cash = ap (λ (n : ℕ). rest_of cash_caller s.agent n s.log.cash) easier.cash ∙ all.cash;
  boards = all.boards;
  allowed = all_easy from hard turns easier wide wide' all.allowed;
}

-- ---- what a turn finds

pub easy_next : (s : Subject) (from hard : Places) → IsEasier from hard → (turn : Turn) → IsNextInLog s hard turn → IsNextInLog s from turn
easy_next s from hard easier (Called request good position entry posted) is = (
  subst (λ (l : List ℕ). HasNext entry_caller s.agent (slice_index l good) (logged_history s.log good) position entry) (sym easier.next) is.0,
  subst (λ (n : ℕ). ArePostedAt s.agent s.log.cash n (due_post good position entry) posted) (sym easier.cash) is.1,
)
easy_next s from hard easier (CallDenied request good) is = tt
easy_next s from hard easier (CashRead position dollars) is = subst (λ (n : ℕ). HasNext cash_caller s.agent n s.log.cash position (reading s.agent dollars)) (sym easier.cash) is
easy_next s from hard easier CashDenied is = tt
easy_next s from hard easier (Quoted good board) is = is
easy_next s from hard easier (Refused fault) is = tt
easy_next s from hard easier Skipped is = tt
easy_next s from hard easier Quit is = tt

-- turns from harder places are turns from easier ones, and lead to easier ones
pub record AreEasy (s : Subject) (from hard : Places) (turns : List Turn) : Type 0 where
  pub allowed : AreAllowed from turns
  pub next : AreNext s from turns
  pub to : IsEasier (walked from turns) (walked hard turns)

pub easy_turns : (s : Subject) (from hard : Places) (turns : List Turn) → IsEasier from hard → IsWide from → IsWide hard → AreAllowed hard turns → AreNext s hard turns → AreEasy s from hard turns
easy_turns s from hard [] easier wide wide' all next = record { allowed = tt; next = tt; to = easier }
easy_turns s from hard (turn ∷ turns) easier wide wide' all next =
    let more = easy_turns s (behind_turn from turn) (behind_turn hard turn) turns (easy_after from hard easier wide wide' turn all.0) (wide_after from turn wide) (wide_after hard turn wide') all.2 next.1 in
    record { allowed = (easy_allowed from hard easier turn all.0, all.1, more.allowed); next = (easy_next s from hard easier turn next.0, more.next); to = more.to }

pub easier_than : (a b c : Places) → IsEasier a b → IsEasier b c → IsEasier a c
easier_than a b c one two = record {
  next = one.next ∙ two.next;
  made = one.made ∙ two.made;
  cash = one.cash ∙ two.cash;
  readings = one.readings ∙ two.readings;
  seen = λ good low. (let x = one.seen good low in let y = two.seen good low in omega (arith, x, y));
}

-- what is left is the same
pub easy_over : (s : Subject) (from hard : Places) → IsEasier from hard → IsOver s hard → IsOver s from
easy_over s from hard easier over = record {
  calls = λ good low. ap (λ (l : List ℕ). rest_of entry_caller s.agent (slice_index l good) (logged_history s.log good)) easier.next ∙ over.calls good low;
  cash = ap (λ (n : ℕ). rest_of cash_caller s.agent n s.log.cash) easier.cash ∙ over.cash;
}
