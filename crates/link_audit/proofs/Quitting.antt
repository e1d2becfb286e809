-- Lines of which one may be read as `quit`, line by line.
use Rattle.std.proofs.Common.{◌≡◌, ◌<◌, ◌≤◌, ◌↔◌, ◌⊎◌, ℕ, zero, suc, List, [], ◌∷◌, false, length, take, Result, Ok, inl, inr, sym, subst}
use Rattle.link_audit.specs.{LINE_BYTES, ended_line, LineGot, Request, RequestFault, Dialect, Asks, IsItem, MayAsk, AsksToLeave, AsksOnly, HasNoLine, IsBehind, MayBeReadAs}
use Rattle.tac_io.specs.declared.line_got.LineGot.TheVariants as gots
use Rattle.line_protocol.specs.declared.asking.Request.TheVariants as requests
use Rattle.line_protocol.specs.declared.saying.Said.TheVariants as said
use Rattle.link_audit.proofs.Cuts.{no_line}
use Rattle.link_audit.proofs.Leading.{IsLast, TheLine, no_item}
use Rattle.link_audit.proofs.Steps.{long_line, short_line}

module _ (dialect : Dialect) where
  -- the line may be read as `quit`
  abbrev pub IsQuit : TheLine → Type 0
  IsQuit line = IsItem (MayAsk dialect.may_answer) line (Asks (Ok requests.Quit))

  -- ---- one line

  module _ (line : List ℕ) where
    pub long_stays : LINE_BYTES < length line → IsQuit (ended_line line) → ⊥
    long_stays many is = let here : IsQuit (gots.TooLong, []) = subst IsQuit (long_line dialect false [] line many) is in here

    pub quits_so : (asked : Result Request RequestFault) → length line ≤ LINE_BYTES → MayBeReadAs dialect.may_answer false line asked → AsksOnly dialect false line [] asked
        → (asked ≡ Ok requests.Quit) ↔ IsQuit (ended_line line)
    quits_so asked few may only = (
      (λ is. subst IsQuit (sym (short_line dialect false [] line few)) (subst (MayAsk dialect.may_answer line) is may)),
      (λ is. (let here : IsQuit (gots.Line, line) = subst IsQuit (short_line dialect false [] line few) is in sym (only (Ok requests.Quit) said.Bye here tt (λ heard. absurd (let both = heard in cc))))),
    )

  -- ---- no line is left

  none_here : (n : ℕ) → AsksToLeave dialect (take n []) → ⊥
  none_here zero asks = asks
  none_here (suc n) asks = asks

  end_stays : (got : LineGot) → IsLast got → (n : ℕ) → AsksToLeave dialect (take n ((got, []) ∷ [])) → ⊥
  end_stays got last zero asks = asks
  end_stays got last (suc n) asks = elim asks [ inl is ↦ no_item (MayAsk dialect.may_answer) got [] (Asks (Ok requests.Quit)) last is | inr more ↦ none_here n more ]

  pub none_leaves : (n : ℕ) (lines : List TheLine) → HasNoLine lines → AsksToLeave dialect (take n lines) → ⊥
  none_leaves n lines none asks = let end = no_line lines none in end_stays end.0 end.1 n (subst (λ (l : List TheLine). AsksToLeave dialect (take n l)) end.2 asks)

  -- no line has room
  pub no_room : (n : ℕ) (lines : List TheLine) → n ≡ 0 → AsksToLeave dialect (take n lines) → ⊥
  no_room n lines none asks = let here : AsksToLeave dialect (take 0 lines) = subst (λ (k : ℕ). AsksToLeave dialect (take k lines)) none asks in here

  -- ---- the next line

  module _ (lines lines' : List TheLine) (line : TheLine) (lines_are : lines ≡ line ∷ lines') (n m : ℕ) (room : n ≡ suc m) (Before : Type 0)
      (b : IsBehind Before (AsksToLeave dialect (take n lines))) where
    opened : AsksToLeave dialect (take n lines) → IsQuit line ⊎ AsksToLeave dialect (take m lines')
    opened asks = subst (λ (w : ℕ × List TheLine). AsksToLeave dialect (take w.0 w.1)) (λ i. (room i, lines_are i)) asks

    closed : IsQuit line ⊎ AsksToLeave dialect (take m lines') → AsksToLeave dialect (take n lines)
    closed asks = subst (λ (w : ℕ × List TheLine). AsksToLeave dialect (take w.0 w.1)) (λ i. (sym room i, sym lines_are i)) asks

    pub passed : (IsQuit line → ⊥) → IsBehind Before (AsksToLeave dialect (take m lines'))
    passed other = record {
      there = λ before. elim (opened (b.there before)) [ inl is ↦ absurd (other is) | inr more ↦ more ];
      back = λ asks. b.back (closed (inr asks));
    }

    pub found : IsQuit line → Before
    found is = b.back (closed (inl is))
