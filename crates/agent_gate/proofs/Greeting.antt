-- The welcome, piece by piece.
use Rattle.std.proofs.Common.{◌≡◌, ℕ, ◌+◌, ◌<◌, List, [], ◌∷◌, ◌++◌, length, take, drop, get_or, sym, ap, ◌∙◌, arith, length-append, Ok, Err, Option, Result, append_assoc, append-nil, take-append-drop}
use Rattle.std.proofs.Math.Seq.{take-append-add, take-length}
use Rattle.std.proofs.lemmas.List.{take-append-le, take_more}
use Rattle.std.proofs.lemmas.Grind.{flat_map-append}
use Rattle.agent_gate.specs.{text_of, LastWriteFails, NoWriteFails, OnlySends, ReadsNothing, LinkState, known_then, TakesSome, MovesOn}
use Rattle.tac_io.proofs.KnownPieces.{known_then-twice, last_write_fails_then, no_write_fails_twice, read_nothing_twice}

-- what was sent of a part, after all that stands before it, was sent of the whole
takes_within : (told₀ told₁ told₂ : Option (List ℕ)) (done part after whole : List ℕ) → told₁ ≡ known_then told₀ done → whole ≡ (done ++ part) ++ after → TakesSome told₁ told₂ part → TakesSome told₀ told₂ whole
takes_within told₀ told₁ told₂ done part after whole before is some =
    let size : length whole ≡ length done + length part + length after = ap length is ∙ length-append (done ++ part) after ∙ ap (λ n. n + length after) (length-append done part) in
    let front : take (length done + some.count) whole ≡ done ++ take some.count part =
    ap (take (length done + some.count)) (is ∙ append_assoc done part after)
    ∙ take-append-add done (part ++ after) some.count
    ∙ ap (λ l. done ++ l) (take-append-le some.count part after (omega (arith, some.proper))) in
    record {
      count = length done + some.count;
      proper = omega (arith, some.proper, size);
      taken = some.taken ∙ ap (λ t. known_then t (take some.count part)) before ∙ known_then-twice told₀ done (take some.count part) ∙ ap (known_then told₀) (sym front);
    }

module _ (first : List ℕ) (lines : List (List ℕ)) where
  -- a text has what was not sent yet of the first line and n more
  pub record IsGreeting (n : ℕ) (text : List ℕ) (link link' : LinkState) : Type 0 where
    pub done : List ℕ
    pub known : link'.sent ≡ known_then link.sent done
    pub so_far : done ++ text ≡ (first ++ 10 ∷ []) ++ text_of (take n lines)

  one_more : (n : ℕ) → n < length lines → text_of (take (n + 1) lines) ≡ text_of (take n lines) ++ (get_or lines n [] ++ 10 ∷ [])
  one_more n lt =
      ap text_of (take_more lines n [] lt)
      ∙ flat_map-append (λ line. line ++ 10 ∷ []) (take n lines) (get_or lines n [] ∷ [])
      ∙ ap (λ l. text_of (take n lines) ++ l) (append-nil (get_or lines n [] ++ 10 ∷ []))

  pub greeting_more : (n : ℕ) (text text₂ text₃ text₄ : List ℕ) (link link' link₂ : LinkState) → IsGreeting n text link link' → MovesOn link' link₂ text text₂
      → text₃ ≡ text₂ ++ get_or lines n [] → text₄ ≡ text₃ ++ 10 ∷ [] → n < length lines → IsGreeting (n + 1) text₄ link link₂
  greeting_more n text text₂ text₃ text₄ link link' link₂ going moves line end lt = let row = get_or lines n [] in record {
    done = going.done ++ moves.first;
    known = moves.known ∙ ap (λ t. known_then t moves.first) going.known ∙ known_then-twice link.sent going.done moves.first;
    so_far =
        ap (λ l. (going.done ++ moves.first) ++ l) (end ∙ ap (λ l. l ++ 10 ∷ []) line ∙ append_assoc text₂ row (10 ∷ []))
        ∙ sym (append_assoc (going.done ++ moves.first) text₂ (row ++ 10 ∷ []))
        ∙ ap (λ l. l ++ (row ++ 10 ∷ [])) (append_assoc going.done moves.first text₂ ∙ ap (λ l. going.done ++ l) (sym moves.whole) ∙ going.so_far)
        ∙ append_assoc (first ++ 10 ∷ []) (text_of (take n lines)) (row ++ 10 ∷ [])
        ∙ ap (λ l. (first ++ 10 ∷ []) ++ l) (sym (one_more n lt));
  }

  -- the text of all lines, after those so far
  rest_of : (n : ℕ) (text : List ℕ) (link link' : LinkState) (going : IsGreeting n text link link') → text_of (first ∷ lines) ≡ (going.done ++ text) ++ text_of (drop n lines)
  rest_of n text link link' going =
      ap (λ l. (first ++ 10 ∷ []) ++ text_of l) (sym (take-append-drop n lines))
      ∙ ap (λ l. (first ++ 10 ∷ []) ++ l) (flat_map-append (λ line. line ++ 10 ∷ []) (take n lines) (drop n lines))
      ∙ sym (append_assoc (first ++ 10 ∷ []) (text_of (take n lines)) (text_of (drop n lines)))
      ∙ ap (λ l. l ++ text_of (drop n lines)) (sym going.so_far)

  greeting_cut_off : (n : ℕ) (text : List ℕ) (link link' link₂ : LinkState) → IsGreeting n text link link' → TakesSome link'.sent link₂.sent text → TakesSome link.sent link₂.sent (text_of (first ∷ lines))
  greeting_cut_off n text link link' link₂ going some = takes_within link.sent link'.sent link₂.sent going.done text (text_of (drop n lines)) (text_of (first ∷ lines)) going.known (rest_of n text link link' going) some

  greeting_whole : (n : ℕ) (text : List ℕ) (link link' link₂ : LinkState) → IsGreeting n text link link' → n ≡ length lines → link₂.sent ≡ known_then link'.sent text → link₂.sent ≡ known_then link.sent (text_of (first ∷ lines))
  greeting_whole n text link link' link₂ going all is =
      is ∙ ap (λ t. known_then t text) going.known ∙ known_then-twice link.sent going.done text
      ∙ ap (known_then link.sent) (going.so_far ∙ ap (λ l. (first ++ 10 ∷ []) ++ text_of l) (ap (λ m. take m lines) all ∙ take-length lines))

  -- an earlier piece was not sent whole
  pub greeting_stopped : (T : Type 0) {E : Type 0} (n : ℕ) (text : List ℕ) (link link' link₂ : LinkState) (e : E) → IsGreeting n text link link' → NoWriteFails link link' → ReadsNothing link link'
      → TakesSome link'.sent link₂.sent text → LastWriteFails link' link₂ → ReadsNothing link' link₂ → OnlySends {T = T} link link₂ (text_of (first ∷ lines)) (Err e)
  greeting_stopped T n text link link' link₂ e going quiet read some last still =
      (greeting_cut_off n text link link' link₂ going some, last_write_fails_then link link' link₂ quiet last, read_nothing_twice link link' link₂ read still)

  -- the last piece was sent, whole or not
  pub greeting_sent : {T E : Type 0} (n : ℕ) (text : List ℕ) (link link' link₂ : LinkState) (result : Result T E) → IsGreeting n text link link' → n ≡ length lines → NoWriteFails link link' → ReadsNothing link link'
      → OnlySends link' link₂ text result → OnlySends link link₂ (text_of (first ∷ lines)) result
  greeting_sent n text link link' link₂ (Ok x) going all quiet read sends = (greeting_whole n text link link' link₂ going all sends.0, no_write_fails_twice link link' link₂ quiet sends.1, read_nothing_twice link link' link₂ read sends.2)
  greeting_sent {T} n text link link' link₂ (Err e) going all quiet read sends = greeting_stopped T n text link link' link₂ e going quiet read sends.0 sends.1 sends.2
