-- A turn at the front: what the log has from some places on is what the turn left, and then what it has from the places behind the turn on.
use Rattle.std.proofs.Common.{◌≡◌, ◌≢◌, ℕ, ◌+◌, ◌<◌, ◌≤◌, List, [], ◌∷◌, ◌++◌, Bool, true, cond, length, map, Some, None, refl, sym, ap, ◌∙◌, subst, arith, inl, inr, length-set, All, slice_index, slice_set, get_or-set_same, get_or-set_other}
use Rattle.std.specs.List.{cons_option}
use Rattle.std.proofs.lemmas.List.Elements.{All-cons, All-nil, All-head, All-tail}
use Rattle.std.proofs.lemmas.Bool.Decides.{eqb_tells}
use Rattle.link_audit.specs.{Board, Trade, CashEntry, nets, Post, due_post, post_for, Request, logged_history, Turn, Called, CallDenied, CashRead, CashDenied, Quoted, Refused, Skipped, Quit, made_at, cash_made, boards_shown, is_leaving, reading, Subject, entry_caller, cash_caller, rest_of, HasNext, calls_left, IsOver, IsNote, IsWide, behind, behind_turn, IsAllowed, Remains, ArePostedAt, IsNextInLog}
use Rattle.auction_rules.specs.History.{Entry}
use Rattle.trade_ledger.specs.declared.cash_calls.CashReply.TheVariants.{Done}
use Rattle.link_audit.specs.declared.places.Places.{Places}
use Rattle.link_audit.proofs.Rest.{rest_next, has_next}

-- ---- places

pub wide_after : (from : Places) (turn : Turn) → IsWide from → IsWide (behind_turn from turn)
wide_after from (Called request good position entry posted) wide = record {
  next = length-set from.next good (position + 1) ∙ wide.next;
  made = length-set from.made good (slice_index from.made good + 1) ∙ wide.made;
  seen = length-set from.seen good (position + 1) ∙ wide.seen;
}
wide_after from (CallDenied request good) wide = wide
wide_after from (CashRead position dollars) wide = record { next = wide.next; made = wide.made; seen = wide.seen }
wide_after from CashDenied wide = wide
wide_after from (Quoted good board) wide = record { next = wide.next; made = wide.made; seen = length-set from.seen good board.count ∙ wide.seen }
wide_after from (Refused fault) wide = wide
wide_after from Skipped wide = wide
wide_after from Quit wide = wide

module _ (s : Subject) where
  -- ---- a call at the front

  module _ (from : Places) (request : Request) (g position posted : ℕ) (entry : Entry) (ts : List Turn) (wide : IsWide from) (low : g < 28) where
    abbrev made_if : Bool → ℕ → List (ℕ × Entry)
    made_if b good = cons_option (cond b (Some (position, entry)) None) (made_at good ts)

    moved : (good : ℕ) → g ≡ good → slice_index (slice_set from.next g (position + 1)) good ≡ position + 1
    moved good same = ap (λ (n : ℕ). slice_index (slice_set from.next g (position + 1)) n) (sym same) ∙ get_or-set_same from.next g (position + 1) 0 (let long = wide.next in omega (arith, long, low))

    kept : (good : ℕ) → g ≢ good → slice_index (slice_set from.next g (position + 1)) good ≡ slice_index from.next good
    kept good ne = get_or-set_other from.next g good (position + 1) 0 (λ is. ne (sym is))

    call_first : HasNext entry_caller s.agent (slice_index from.next g) (logged_history s.log g) position entry
        → ((good : ℕ) → good < 28 → calls_left s (behind_turn from (Called request g position entry posted)) good ≡ made_at good ts)
        → (good : ℕ) → good < 28 → calls_left s from good ≡ made_at good (Called request g position entry posted ∷ ts)
    call_first next rest good low' = elim (eqb_tells g good) [
      | inl here ↦
          ap (calls_left s from) (sym here.1)
          ∙ (next ∙ (ap (λ (n : ℕ). (position, entry) ∷ rest_of entry_caller s.agent (position + 1) (logged_history s.log n)) here.1
          ∙ (ap (λ (n : ℕ). (position, entry) ∷ rest_of entry_caller s.agent n (logged_history s.log good)) (sym (moved good here.1))
          ∙ (ap (λ (l : List (ℕ × Entry)). (position, entry) ∷ l) (rest good low') ∙ ap (λ (b : Bool). made_if b good) (sym here.0)))))
      | inr away ↦
          ap (λ (n : ℕ). rest_of entry_caller s.agent n (logged_history s.log good)) (sym (kept good away.1))
          ∙ (rest good low' ∙ ap (λ (b : Bool). made_if b good) (sym away.0))
    ]

    -- and back
    first_next : ((good : ℕ) → good < 28 → calls_left s from good ≡ made_at good (Called request g position entry posted ∷ ts))
        → HasNext entry_caller s.agent (slice_index from.next g) (logged_history s.log g) position entry
    first_next all = elim (eqb_tells g g) [
      | inl here ↦ has_next entry_caller s.agent (logged_history s.log g) (slice_index from.next g) position entry (made_at g ts) (all g low ∙ ap (λ (b : Bool). made_if b g) here.0)
      | inr away ↦ absurd (away.1 refl)
    ]

    first_rest : ((good : ℕ) → good < 28 → calls_left s from good ≡ made_at good (Called request g position entry posted ∷ ts))
        → (good : ℕ) → good < 28 → calls_left s (behind_turn from (Called request g position entry posted)) good ≡ made_at good ts
    first_rest all good low' = elim (eqb_tells g good) [
      | inl here ↦
          let whole : calls_left s from good ≡ (position, entry) ∷ made_at good ts = all good low' ∙ ap (λ (b : Bool). made_if b good) here.0 in
          ap (λ (n : ℕ). rest_of entry_caller s.agent n (logged_history s.log good)) (moved good here.1)
          ∙ sym (rest_next entry_caller s.agent (logged_history s.log good) (slice_index from.next good) position entry (made_at good ts) whole)
      | inr away ↦
          ap (λ (n : ℕ). rest_of entry_caller s.agent n (logged_history s.log good)) (kept good away.1)
          ∙ (all good low' ∙ ap (λ (b : Bool). made_if b good) away.0)
    ]

  -- ---- posts at the front

  posts_first : (from posted : ℕ) (posts : List CashEntry) (made : List (ℕ × CashEntry)) → length posts ≤ 1 → ArePostedAt s.agent s.log.cash from posts posted
      → rest_of cash_caller s.agent (behind from posts posted) s.log.cash ≡ made → rest_of cash_caller s.agent from s.log.cash ≡ map (λ (post : CashEntry). (posted, post)) posts ++ made
  posts_first from posted [] made few at rest = rest
  posts_first from posted (post ∷ []) made few at rest = at ∙ ap (λ (l : List (ℕ × CashEntry)). (posted, post) ∷ l) rest
  posts_first from posted (post ∷ other ∷ posts) made few at rest = absurd (omega (arith, few))

  posts_next : (from posted : ℕ) (posts : List CashEntry) (made : List (ℕ × CashEntry)) → length posts ≤ 1
      → rest_of cash_caller s.agent from s.log.cash ≡ map (λ (post : CashEntry). (posted, post)) posts ++ made
      → ArePostedAt s.agent s.log.cash from posts posted × (rest_of cash_caller s.agent (behind from posts posted) s.log.cash ≡ made)
  posts_next from posted [] made few is = (tt, is)
  posts_next from posted (post ∷ []) made few is = (
    has_next cash_caller s.agent s.log.cash from posted post made is,
    sym (rest_next cash_caller s.agent s.log.cash from posted post made is),
  )
  posts_next from posted (post ∷ other ∷ posts) made few is = absurd (omega (arith, few))

  few_posts : (g position : ℕ) (entry : Entry) → length (due_post g position entry) ≤ 1
  few_posts g position entry = by_trades entry.trades
    where
      by_trades : (trades : List Trade) → length (post_for trades (record { caller = entry.caller; call = Post g position (record { dollars = nets entry.trades }); reply = Done })) ≤ 1
      by_trades [] = omega arith
      by_trades (trade ∷ trades) = omega arith

  -- ---- boards at the front

  notes_if : Bool → ℕ → Board → List Turn → List (ℕ × Board)
  notes_if b good board ts = cons_option (cond b (Some (board.count, board)) None) (boards_shown good ts)

  board_first : (g good : ℕ) (board : Board) (ts : List Turn) → IsNote s g (board.count, board) → All (IsNote s good) (boards_shown good ts)
      → All (IsNote s good) (boards_shown good (Quoted g board ∷ ts))
  unfolding notes_if
  board_first g good board ts note rest = elim (eqb_tells g good) [
    | inl here ↦ subst (λ (l : List (ℕ × Board)). All (IsNote s good) l) (ap (λ (b : Bool). notes_if b good board ts) (sym here.0))
        (All-cons (IsNote s good) (board.count, board) (boards_shown good ts) (subst (λ (n : ℕ). IsNote s n (board.count, board)) here.1 note) rest)
    | inr away ↦ subst (λ (l : List (ℕ × Board)). All (IsNote s good) l) (ap (λ (b : Bool). notes_if b good board ts) (sym away.0)) rest
  ]

  board_next : (g : ℕ) (board : Board) (ts : List Turn) → All (IsNote s g) (boards_shown g (Quoted g board ∷ ts)) → IsNote s g (board.count, board)
  unfolding notes_if
  board_next g board ts all = elim (eqb_tells g g) [
    | inl here ↦ All-head (IsNote s g) (board.count, board) (boards_shown g ts) (subst (λ (l : List (ℕ × Board)). All (IsNote s g) l) (ap (λ (b : Bool). notes_if b g board ts) here.0) all)
    | inr away ↦ absurd (away.1 refl)
  ]

  board_rest : (g good : ℕ) (board : Board) (ts : List Turn) → All (IsNote s good) (boards_shown good (Quoted g board ∷ ts)) → All (IsNote s good) (boards_shown good ts)
  unfolding notes_if
  board_rest g good board ts all = elim (eqb_tells g good) [
    | inl here ↦ All-tail (IsNote s good) (board.count, board) (boards_shown good ts) (subst (λ (l : List (ℕ × Board)). All (IsNote s good) l) (ap (λ (b : Bool). notes_if b good board ts) here.0) all)
    | inr away ↦ subst (λ (l : List (ℕ × Board)). All (IsNote s good) l) (ap (λ (b : Bool). notes_if b good board ts) away.0) all
  ]

  -- ---- a turn at the front

  pub turn_first : (from : Places) (turn : Turn) (ts : List Turn) → IsWide from → IsAllowed from turn → (is_leaving turn ≡ true → ts ≡ []) → IsNextInLog s from turn
      → Remains s (behind_turn from turn) ts → Remains s from (turn ∷ ts)
  turn_first from (Called request g position entry posted) ts wide here last next rest = record {
    calls = call_first from request g position posted entry ts wide here.1 next.0 rest.calls;
    cash = posts_first from.cash posted (due_post g position entry) (cash_made s.agent ts) (few_posts g position entry) next.1 rest.cash;
    boards = rest.boards;
    allowed = (here, last, rest.allowed);
  }
  turn_first from (CallDenied request g) ts wide here last next rest = record { calls = rest.calls; cash = rest.cash; boards = rest.boards; allowed = (here, last, rest.allowed) }
  turn_first from (CashRead position dollars) ts wide here last next rest = record {
    calls = rest.calls;
    cash = next ∙ ap (λ (l : List (ℕ × CashEntry)). (position, reading s.agent dollars) ∷ l) rest.cash;
    boards = rest.boards;
    allowed = (here, last, rest.allowed);
  }
  turn_first from CashDenied ts wide here last next rest = record { calls = rest.calls; cash = rest.cash; boards = rest.boards; allowed = (here, last, rest.allowed) }
  turn_first from (Quoted g board) ts wide here last next rest = record {
    calls = rest.calls;
    cash = rest.cash;
    boards = λ good low. board_first g good board ts next (rest.boards good low);
    allowed = (here, last, rest.allowed);
  }
  turn_first from (Refused fault) ts wide here last next rest = record { calls = rest.calls; cash = rest.cash; boards = rest.boards; allowed = (here, last, rest.allowed) }
  turn_first from Skipped ts wide here last next rest = record { calls = rest.calls; cash = rest.cash; boards = rest.boards; allowed = (here, last, rest.allowed) }
  turn_first from Quit ts wide here last next rest = record { calls = rest.calls; cash = rest.cash; boards = rest.boards; allowed = (here, last, rest.allowed) }

  -- and back
  pub record HasFirst (from : Places) (turn : Turn) (ts : List Turn) : Type 0 where
    pub allowed : IsAllowed from turn
    pub last : is_leaving turn ≡ true → ts ≡ []
    pub next : IsNextInLog s from turn
    pub rest : Remains s (behind_turn from turn) ts

  pub turn_next : (from : Places) (turn : Turn) (ts : List Turn) → IsWide from → Remains s from (turn ∷ ts) → HasFirst from turn ts
  turn_next from (Called request g position entry posted) ts wide all =
      let low = all.allowed.0.1 in
      let posts = posts_next from.cash posted (due_post g position entry) (cash_made s.agent ts) (few_posts g position entry) all.cash in record {
        allowed = all.allowed.0;
        last = all.allowed.1;
        next = (first_next from request g position posted entry ts wide low all.calls, posts.0);
        rest = record { calls = first_rest from request g position posted entry ts wide low all.calls; cash = posts.1; boards = all.boards; allowed = all.allowed.2 };
      }
  turn_next from (CallDenied request g) ts wide all =
      record { allowed = all.allowed.0; last = all.allowed.1; next = tt; rest = record { calls = all.calls; cash = all.cash; boards = all.boards; allowed = all.allowed.2 } }
  turn_next from (CashRead position dollars) ts wide all = record {
    allowed = all.allowed.0;
    last = all.allowed.1;
    next = has_next cash_caller s.agent s.log.cash from.cash position (reading s.agent dollars) (cash_made s.agent ts) all.cash;
    rest = record {
      calls = all.calls;
      cash = sym (rest_next cash_caller s.agent s.log.cash from.cash position (reading s.agent dollars) (cash_made s.agent ts) all.cash);
      boards = all.boards;
      allowed = all.allowed.2;
    };
  }
  turn_next from CashDenied ts wide all =
      record { allowed = all.allowed.0; last = all.allowed.1; next = tt; rest = record { calls = all.calls; cash = all.cash; boards = all.boards; allowed = all.allowed.2 } }
  turn_next from (Quoted g board) ts wide all = record {
    allowed = all.allowed.0;
    last = all.allowed.1;
    next = board_next g board ts (all.boards g all.allowed.0.0);
    rest = record { calls = all.calls; cash = all.cash; boards = λ good low. board_rest g good board ts (all.boards good low); allowed = all.allowed.2 };
  }
  turn_next from (Refused fault) ts wide all =
      record { allowed = all.allowed.0; last = all.allowed.1; next = tt; rest = record { calls = all.calls; cash = all.cash; boards = all.boards; allowed = all.allowed.2 } }
  turn_next from Skipped ts wide all =
      record { allowed = all.allowed.0; last = all.allowed.1; next = tt; rest = record { calls = all.calls; cash = all.cash; boards = all.boards; allowed = all.allowed.2 } }
  turn_next from Quit ts wide all =
      record { allowed = all.allowed.0; last = all.allowed.1; next = tt; rest = record { calls = all.calls; cash = all.cash; boards = all.boards; allowed = all.allowed.2 } }

  -- ---- no turn

  pub over_none : (from : Places) → IsOver s from → Remains s from []
  over_none from over = record { calls = over.calls; cash = over.cash; boards = λ good low. All-nil (IsNote s good); allowed = tt }

  pub none_over : (from : Places) → Remains s from [] → IsOver s from
  none_over from none = record { calls = none.calls; cash = none.cash }
