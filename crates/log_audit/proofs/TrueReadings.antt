-- A cash history is legal exactly if each of its readings is true.
use Rattle.std.proofs.Common.{◌≡◌, ℕ, List, take, refl, Some, slice_get}
use Rattle.log_audit.specs.{CashCall, Post, Read, CashReply, Done, Cash, CashEntry, IsFitCash, IsLegalCash, cash_reply_of, IsLoggedCash, IsLoggedCashEntry, IsTrueReading, HasTrueReading}

true_by : (before : List CashEntry) (e : CashEntry) (call : CashCall) → e.reply ≡ cash_reply_of before e.call → IsTrueReading before e call
true_by before e (Post good position nets) is = tt
true_by before e (Read agent) is = is

-- the readings of a legal history are true
pub true_from_legal : (cash : List CashEntry) → IsLegalCash cash → (position : ℕ) → HasTrueReading cash position
true_from_legal cash legal position e at = true_by (take position cash) e e.call (legal position e at).1

due_by : (before : List CashEntry) (caller : ℕ) (call : CashCall) (reply : CashReply) → IsLoggedCash caller call reply
    → IsTrueReading before (record { caller = caller; call = call; reply = reply }) call → IsFitCash caller call × (reply ≡ cash_reply_of before call)
due_by before caller (Post good position nets) Done logged is = (tt, refl)
due_by before caller (Post good position nets) (Cash dollars) logged is = absurd logged
due_by before caller (Read agent) Done logged is = absurd logged
due_by before caller (Read agent) (Cash dollars) logged is = (logged.1, is)

-- a history of true readings is legal
pub legal_from_true : (cash : List CashEntry) → ((position : ℕ) (e : CashEntry) → slice_get cash position ≡ Some e → IsLoggedCashEntry e)
    → ((position : ℕ) → HasTrueReading cash position) → IsLegalCash cash
legal_from_true cash logged each position e at = due_by (take position cash) e.caller e.call e.reply (logged position e at) (each position e at)
