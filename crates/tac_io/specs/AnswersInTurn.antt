-- What one answer of the lines of a link takes from those that are still to come.
use Rattle.std.specs.Prelude.{⊤, ◌≡◌, ℕ, ◌+◌, ◌-◌, ◌++◌, List, [], ◌∷◌, length, IfSome}
use Rattle.tac_base.specs.declared.limits.TheConstants.{LINK_BYTES}
use Rattle.tac_io.specs.HeldBytes.{Held, LinkPlace}
use Rattle.tac_io.specs.declared.line_got.LineGot.{LineGot}
use Rattle.tac_io.specs.declared.line_got.LineGot.TheVariants.{Line, TooLong, End, Failed, Budget}
use Rattle.tac_io.specs.AllAnswers.{all_answers}

-- the answers that are still to come, if these bytes are held and left, and this many were taken
abbrev pub answers_left : Held → List ℕ → ℕ → List (LineGot × List ℕ)
answers_left held left count = all_answers [] (LINK_BYTES - count + length held.unread) (held.unread ++ left)

-- This answer, with its line, is the first of all, and the others follow. Bytes alone show no fault.
abbrev pub IsFirst : LineGot → List ℕ → List (LineGot × List ℕ) → List (LineGot × List ℕ) → Type 0
IsFirst Line line all others = all ≡ (Line, line) ∷ others
IsFirst TooLong line all others = all ≡ (TooLong, []) ∷ others
IsFirst End line all others = all ≡ (End, []) ∷ []
IsFirst Failed line all others = ⊤
IsFirst Budget line all others = all ≡ (Budget, []) ∷ []

-- If it is known what is left, this answer is the first of those to come, and the others follow.
abbrev pub IsInTurn : LinkPlace → LinkPlace → LineGot → Type 0
IsInTurn before after got =
    IfSome before.link.left (λ bytes. IfSome after.link.left (λ rest.
    IsFirst got after.held.line (answers_left before.held bytes before.count) (answers_left after.held rest after.count)))
