-- On the way to the next line.
use Rattle.std.proofs.Common.{◌≡◌, ℕ, ◌+◌, ◌<◌, List, [], ◌∷◌, ◌++◌, length, refl, ap, sym, ◌∙◌, true, false, Bool, arith, length-append, append_assoc, append-nil, subst, inl, inr, ◌^◌, MatchBool}
use Rattle.std.proofs.lemmas.List.{nil_from_length}
use Rattle.tac_io.specs.{Gives, Held, LinkPlace, has_end, BeginsWithLine, Answers, IsDecided, IsKind, IsNext, GaveBytes, LinkState, known_then, then_known, IsAtEnd}
use Rattle.tac_io.specs.declared.line_got.LineGot.{LineGot}
use Rattle.tac_io.specs.declared.line_got.LineGot.TheVariants.{Line, TooLong, End, Failed, Budget}
use Rattle.tac_io.proofs.KnownPieces.{known_then-nothing, then_known-nothing, gave_twice}
use Rattle.tac_io.proofs.LineEnds.{no_end-append, no_end-front}

-- `more` was taken, and of all the bytes no line end is in those that were skipped.
pub record IsGoing (from : LinkPlace) (long : Bool) (unread : List ℕ) (count : ℕ) (now : LinkState) : Type 0 where
  pub more : List ℕ
  pub skipped : List ℕ
  pub gave : GaveBytes more from.link now
  pub counted : count ≡ from.count + length more
  pub whole : from.held.unread ++ more ≡ skipped ++ unread
  pub plain : has_end skipped ≡ false
  pub is_long : MatchBool long (512 < length skipped) (skipped ≡ [])

-- a read that gave no byte changed nothing
pub nothing_given : (old new : List ℕ) (now now' : LinkState) (n : ℕ) → Gives old new now now' n → n ≡ 0 → (now'.taken ≡ now.taken) × (now'.left ≡ now.left)
nothing_given old new now now' n gives z =
    let e : gives.more ≡ [] = nil_from_length gives.more (gives.count ∙ z) in
    (gives.gave.0 ∙ ap (known_then now.taken) e ∙ known_then-nothing now.taken, sym (gives.gave.1 ∙ ap (λ more. then_known more now'.left) e ∙ then_known-nothing now'.left))

module _ (from : LinkPlace) where
  -- no line end is in all the bytes
  pub going_none : (long : Bool) (unread : List ℕ) (count : ℕ) (now : LinkState) (going : IsGoing from long unread count now) → has_end unread ≡ false → has_end (from.held.unread ++ going.more) ≡ false
  going_none long unread count now going none = ap has_end going.whole ∙ no_end-append going.skipped unread going.plain none

  -- the bytes that were held at first decide nothing
  pub going_undecided : {A : Type 0} (long : Bool) (unread : List ℕ) (count : ℕ) (now : LinkState) (going : IsGoing from long unread count now)
      → has_end unread ≡ false → count < 2 ^ 26 → IsDecided from.held.unread from.count → A
  going_undecided long unread count now going none below (inl some) =
      let h : has_end from.held.unread ≡ false = no_end-front from.held.unread going.more (going_none long unread count now going none) in absurd (cc)
  going_undecided long unread count now going none below (inr all) = absurd (omega (arith, all, below, going.counted))

  -- a line stands after what was skipped
  pub going_line : (long : Bool) (unread : List ℕ) (count : ℕ) (now : LinkState) (line rest : List ℕ) (going : IsGoing from long unread count now) → BeginsWithLine unread line rest → BeginsWithLine (from.held.unread ++ going.more) (going.skipped ++ line) rest
  going_line long unread count now line rest going b = record {
    whole = going.whole ∙ ap (λ l. going.skipped ++ l) b.whole ∙ sym (append_assoc going.skipped line (10 ∷ rest));
    first = no_end-append going.skipped line going.plain b.first;
  }

  -- what is held of a line that is too long is dropped
  pub going_skip : (long : Bool) (unread : List ℕ) (count : ℕ) (now : LinkState) (long' : Bool) (unread' : List ℕ) → IsGoing from long unread count now → has_end unread ≡ false
      → MatchBool long' ((unread' ≡ []) × (long ≡ false → 512 < length unread)) ((unread' ≡ unread) × (long ≡ false)) → IsGoing from long' unread' count now
  going_skip long unread count now false unread' going none h = record {
    more = going.more;
    skipped = going.skipped;
    gave = going.gave;
    counted = going.counted;
    whole = going.whole ∙ ap (λ l. going.skipped ++ l) (sym h.0);
    plain = going.plain;
    is_long = subst (λ b. MatchBool b (512 < length going.skipped) (going.skipped ≡ [])) h.1 going.is_long;
  }
  going_skip long unread count now true unread' going none h = record {
    more = going.more;
    skipped = going.skipped ++ unread;
    gave = going.gave;
    counted = going.counted;
    whole = going.whole ∙ sym (append-nil (going.skipped ++ unread)) ∙ ap (λ l. (going.skipped ++ unread) ++ l) (sym h.0);
    plain = no_end-append going.skipped unread going.plain none;
    is_long = longer long going.is_long h.1;
  }
    where
      longer : (b : Bool) → MatchBool b (512 < length going.skipped) (going.skipped ≡ []) → (b ≡ false → 512 < length unread) → 512 < length (going.skipped ++ unread)
      longer true p f = omega (arith, length-append going.skipped unread)
      longer false p f = let q : 512 < length unread = f refl in omega (arith, length-append going.skipped unread)

  -- more bytes come
  pub going_fill : (long : Bool) (unread : List ℕ) (count : ℕ) (now : LinkState) (unread' : List ℕ) (now' : LinkState) (n : ℕ) → IsGoing from long unread count now
      → Gives unread unread' now now' n → IsGoing from long unread' (count + n) now'
  going_fill long unread count now unread' now' n going gives = record {
    more = going.more ++ gives.more;
    skipped = going.skipped;
    gave = gave_twice from.link now now' going.more gives.more going.gave gives.gave;
    counted = omega (arith, going.counted, gives.count, length-append going.more gives.more);
    whole = sym (append_assoc from.held.unread going.more gives.more) ∙ ap (λ l. l ++ gives.more) going.whole ∙ append_assoc going.skipped unread gives.more ∙ ap (λ l. going.skipped ++ l) (sym gives.held);
    plain = going.plain;
    is_long = going.is_long;
  }

  pub answers_line : (new : Held) (long : Bool) (count : ℕ) (now : LinkState) (n : ℕ) (got : LineGot) (unread : List ℕ) → IsGoing from long unread count now
      → BeginsWithLine unread new.line new.unread → n ≡ length new.line → IsKind got long n → Answers from (record { held = new; count = count; link = now }) got
  answers_line new long count now n got unread going b len kind = record {
    more = going.more;
    gave = going.gave;
    counted = going.counted;
    next = next_is got kind;
  }
    where
      b' : BeginsWithLine (from.held.unread ++ going.more) (going.skipped ++ new.line) new.unread
      b' = going_line long unread count now new.line new.unread going b

      size : length (going.skipped ++ new.line) ≡ length going.skipped + length new.line
      size = length-append going.skipped new.line

      long_is : long ≡ true → 512 < length going.skipped
      long_is e = subst (λ b. MatchBool b (512 < length going.skipped) (going.skipped ≡ [])) e going.is_long

      short_is : long ≡ false → going.skipped ≡ []
      short_is e = subst (λ b. MatchBool b (512 < length going.skipped) (going.skipped ≡ [])) e going.is_long

      next_is : (got : LineGot) → IsKind got long n → IsNext got (from.held.unread ++ going.more) new (IsAtEnd now.left) count
      next_is Line k = (subst (λ l. BeginsWithLine (from.held.unread ++ going.more) (l ++ new.line) new.unread) (short_is k.0) b', omega (arith, k.1, len))
      next_is TooLong k = (going.skipped ++ new.line, b', elim k [ inl e ↦ omega (arith, long_is e, size) | inr lt ↦ omega (arith, lt, len, size) ])
      next_is End k = absurd k
      next_is Failed k = absurd k
      next_is Budget k = absurd k

  pub answers_none : (new : Held) (long : Bool) (count : ℕ) (now : LinkState) (got : LineGot) (unread : List ℕ) → IsGoing from long unread count now
      → has_end unread ≡ false → ((bytes : List ℕ) → has_end bytes ≡ false → IsNext got bytes new (IsAtEnd now.left) count) → Answers from (record { held = new; count = count; link = now }) got
  answers_none new long count now got unread going none next_is = record {
    more = going.more;
    gave = going.gave;
    counted = going.counted;
    next = next_is (from.held.unread ++ going.more) (going_none long unread count now going none);
  }

  pub going_same : (long : Bool) (unread : List ℕ) (count : ℕ) (now now' : LinkState) → IsGoing from long unread count now → now'.taken ≡ now.taken → now'.left ≡ now.left → IsGoing from long unread count now'
  going_same long unread count now now' going e f = record {
    more = going.more;
    skipped = going.skipped;
    gave = (e ∙ going.gave.0, going.gave.1 ∙ ap (then_known going.more) (sym f));
    counted = going.counted;
    whole = going.whole;
    plain = going.plain;
    is_long = going.is_long;
  }
