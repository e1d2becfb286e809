-- What a line led to, by what it was read as.
use Rattle.std.proofs.Common.{◌≡◌, ◌<◌, ◌≤◌, ℕ, List, [], length, Bool, true, false, Ok, Err, refl, sym, ap, subst, le-leb, Result, if◌then◌else◌}
use Rattle.std.proofs.lemmas.Bool.{lt-leb}
use Rattle.link_audit.specs.{LINE_BYTES, ended_line, LineGot, Request, RequestFault, Said, Dialect, Item, Asks, Overlong, IsItem, Turn, Called, CallDenied, CashRead, CashDenied, Quoted, Refused, Skipped, Quit, item_of, said_of, Subject, MayBeReadAs, IsAsked, FitsReply, IsPossible, IsEasier, IsTaken, IsStuck, IsStep, IsAnswerTo, AsksOnly, behind_turn}
use Rattle.tac_io.specs.declared.line_got.LineGot.TheVariants as gots
use Rattle.line_protocol.specs.declared.asking.Request.TheVariants as requests
use Rattle.line_protocol.specs.declared.saying.Said.TheVariants as said
use Rattle.link_audit.specs.declared.places.Places.{Places}
use Rattle.link_audit.specs.declared.stepping.Step.{Step}
use Rattle.link_audit.specs.declared.stepping.Step.TheVariants.{Stays, Leaves, Stuck}
use Rattle.link_audit.proofs.Easier.{all_stay, same_places}

module _ (s : Subject) (from : Places) where
  pub step_of : (Asked : Item → Type 0) (Fits : Said → Type 0) (to : Places) (taken : Bool) (result : Step) → (taken ≡ true → IsTaken Asked Fits s from to) → (taken ≡ false → IsStuck Asked Fits s from)
      → result ≡ (if taken then Stays else Stuck) → IsStep Asked Fits s from to result
  step_of Asked Fits to true result did not is = subst (IsStep Asked Fits s from to) (sym is) (did refl)
  step_of Asked Fits to false result did not is = subst (IsStep Asked Fits s from to) (sym is) (not refl)

  module _ (Fits : Said → Type 0) where
    -- ---- a line that is no request

    module _ (fault : RequestFault) where
      fault_only : (other : Turn) → IsPossible (λ item. item ≡ Asks (Err fault)) Fits s from other → other ≡ Refused fault
      fault_only (Called r g p e posted) is = absurd (let asked = is.asked in cc)
      fault_only (CallDenied r g) is = absurd (let asked = is.asked in cc)
      fault_only (CashRead p dollars) is = absurd (let asked = is.asked in cc)
      fault_only CashDenied is = absurd (let asked = is.asked in cc)
      fault_only (Quoted g board) is = absurd (let asked = is.asked in cc)
      fault_only (Refused other) is = let same : other ≡ fault = (let asked = is.asked in cc) in ap Refused same
      fault_only Skipped is = absurd (let asked = is.asked in cc)
      fault_only Quit is = absurd (let asked = is.asked in cc)

      pub fault_taken : Fits (said.Fault fault) → IsTaken (λ item. item ≡ Asks (Err fault)) Fits s from from
      fault_taken fit = record {
        turn = Refused fault;
        possible = record { asked = refl; fits = fit; allowed = tt; next = tt };
        stays = refl;
        to_is = refl;
        easiest = λ other is. subst (λ (t : Turn). IsEasier from (behind_turn from t)) (sym (fault_only other is)) (same_places from);
        stay = all_stay (λ item. item ≡ Asks (Err fault)) Fits s from (λ is. absurd cc);
      }

      pub fault_stuck : (Fits (said.Fault fault) → ⊥) → IsStuck (λ item. item ≡ Asks (Err fault)) Fits s from
      fault_stuck unfit other is = unfit (subst (λ (t : Turn). Fits (said_of t)) (fault_only other is) is.fits)

    -- ---- a line that is too long

    module _ (may_answer : List ℕ → Result Request RequestFault → Type 0) where
      long_only : (other : Turn) → IsPossible (IsItem may_answer (gots.TooLong, [])) Fits s from other → other ≡ Skipped
      long_only (Called r g p e posted) is = absurd is.asked
      long_only (CallDenied r g) is = absurd is.asked
      long_only (CashRead p dollars) is = absurd is.asked
      long_only CashDenied is = absurd is.asked
      long_only (Quoted g board) is = absurd is.asked
      long_only (Refused fault) is = absurd is.asked
      long_only Skipped is = refl
      long_only Quit is = absurd is.asked

      pub long_taken : Fits said.TooLong → IsTaken (IsItem may_answer (gots.TooLong, [])) Fits s from from
      long_taken fit = record {
        turn = Skipped;
        possible = record { asked = tt; fits = fit; allowed = tt; next = tt };
        stays = refl;
        to_is = refl;
        easiest = λ other is. subst (λ (t : Turn). IsEasier from (behind_turn from t)) (sym (long_only other is)) (same_places from);
        stay = all_stay (IsItem may_answer (gots.TooLong, [])) Fits s from (λ is. is);
      }

      pub long_stuck : (Fits said.TooLong → ⊥) → IsStuck (IsItem may_answer (gots.TooLong, [])) Fits s from
      long_stuck unfit other is = unfit (subst (λ (t : Turn). Fits (said_of t)) (long_only other is) is.fits)

  -- ---- a line that is read

  -- the same step, if a line asks just this
  module _ (Asked Other : Item → Type 0) (Fits : Said → Type 0) (there : (item : Item) → Asked item → Other item) (back : (turn : Turn) → Other (item_of turn) → Fits (said_of turn) → Asked (item_of turn)) where
    to_other : (turn : Turn) → IsPossible Asked Fits s from turn → IsPossible Other Fits s from turn
    to_other turn is = record { asked = there (item_of turn) is.asked; fits = is.fits; allowed = is.allowed; next = is.next }

    from_other : (turn : Turn) → IsPossible Other Fits s from turn → IsPossible Asked Fits s from turn
    from_other turn is = record { asked = back turn is.asked is.fits; fits = is.fits; allowed = is.allowed; next = is.next }

    pub step_as : (to : Places) (result : Step) → IsStep Asked Fits s from to result → IsStep Other Fits s from to result
    step_as to Stays is = record { turn = is.turn; possible = to_other is.turn is.possible; stays = is.stays; to_is = is.to_is; easiest = λ other o. is.easiest other (from_other other o); stay = λ other o. is.stay other (from_other other o) }
    step_as to Leaves is = (record { possible = to_other Quit is.0.possible; only = λ other o. is.0.only other (from_other other o) }, is.1)
    step_as to Stuck is = λ other o. is other (from_other other o)

-- what a turn was answered answers what it was asked
pub answers : (turn : Turn) (asked : Result Request RequestFault) → item_of turn ≡ Asks asked → IsAnswerTo asked (said_of turn)
answers (Called r g p e posted) asked is = let same : Ok r ≡ asked = cc in subst (λ (a : Result Request RequestFault). IsAnswerTo a (said.At p e.reply)) same tt
answers (CallDenied r g) asked is = let same : Ok r ≡ asked = cc in subst (λ (a : Result Request RequestFault). IsAnswerTo a said.Spent) same tt
answers (CashRead p dollars) asked is = let same : Ok requests.Cash ≡ asked = cc in subst (λ (a : Result Request RequestFault). IsAnswerTo a (said.Cash p dollars)) same tt
answers CashDenied asked is = let same : Ok requests.Cash ≡ asked = cc in subst (λ (a : Result Request RequestFault). IsAnswerTo a said.Spent) same tt
answers (Quoted g board) asked is = let same : Ok (requests.Quote g) ≡ asked = cc in subst (λ (a : Result Request RequestFault). IsAnswerTo a (said.Quote board)) same tt
answers (Refused fault) asked is = let same : Err fault ≡ asked = cc in subst (λ (a : Result Request RequestFault). IsAnswerTo a (said.Fault fault)) same refl
answers Skipped asked is = absurd cc
answers Quit asked is = let same : Ok requests.Quit ≡ asked = cc in subst (λ (a : Result Request RequestFault). IsAnswerTo a said.Bye) same tt

module _ (dialect : Dialect) (heard : Bool) (reply line : List ℕ) where
  -- a line of at most 512 bytes
  pub short_line : length line ≤ LINE_BYTES → ended_line line ≡ (gots.Line, line)
  short_line few = ap (λ (b : Bool). if b then (gots.Line, line) else (gots.TooLong, [])) (le-leb (length line) LINE_BYTES few)

  pub long_line : LINE_BYTES < length line → ended_line line ≡ (gots.TooLong, [])
  long_line many = ap (λ (b : Bool). if b then (gots.Line, line) else (gots.TooLong, [])) (lt-leb (length line) LINE_BYTES many)

  module _ (s : Subject) (from to : Places) (result : Step) where
    pub read_step : (asked : Result Request RequestFault) → length line ≤ LINE_BYTES → MayBeReadAs dialect.may_answer heard line asked → AsksOnly dialect heard line reply asked
        → IsStep (λ item. item ≡ Asks asked) (FitsReply dialect heard reply) s from to result
        → IsStep (IsAsked dialect heard (ended_line line)) (FitsReply dialect heard reply) s from to result
    read_step asked few may only is =
        subst (λ (l : LineGot × List ℕ). IsStep (IsAsked dialect heard l) (FitsReply dialect heard reply) s from to result) (sym (short_line few))
        (step_as s from (λ item. item ≡ Asks asked) (IsAsked dialect heard (gots.Line, line)) (FitsReply dialect heard reply)
        (λ item same. subst (IsAsked dialect heard (gots.Line, line)) (sym same) may) (λ turn is' fit. by_item turn (item_of turn) refl is' fit) to result is)
      where
        by_item : (turn : Turn) (item : Item) → item_of turn ≡ item → IsAsked dialect heard (gots.Line, line) item → FitsReply dialect heard reply (said_of turn) → item ≡ Asks asked
        by_item turn (Asks other) same is' fit = ap Asks (only other (said_of turn) is' (answers turn other same) fit)
        by_item turn Overlong same is' fit = absurd is'
