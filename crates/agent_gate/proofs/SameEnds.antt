-- The rows of `EndsBy`, read by columns, are `StopsBy`, `ReadsBy` and `SendsBy`.
use Rattle.std.proofs.Common.{◌≡◌, ℕ, ◌<◌, take, List, [], ◌∷◌, ◌++◌, refl, sym, ap, ◌∙◌, Option, Some, None, inl, inr, ◌⊎◌, length, map, append_assoc}
use Rattle.std.specs.List.{concat}
use Rattle.agent_gate.specs.Prelude.{SESSION_LINES, LinkState, known_then, TakesSome, Said, Cause}
use Rattle.tac_io.specs.declared.line_got.LineGot.TheVariants as gots
use Rattle.line_protocol.specs.declared.admission.Cause.TheVariants as causes
use Rattle.agent_gate.specs.Served.{Session, IsCutOff, IsUsedUp, ComesTo, EndsBy, pieces_of}
use Rattle.agent_gate.specs.SessionEnds.{StopsBy, ReadsBy, SendsBy}

known_twice : (known : Option (List ℕ)) (xs ys : List ℕ) → known_then (known_then known xs) ys ≡ known_then known (xs ++ ys)
known_twice None xs ys = refl
known_twice (Some zs) xs ys = ap (λ (l : List ℕ). Some l) (append_assoc zs xs ys)

-- the three columns of a session
pub record HasColumns (cause : Cause) (text : Said → List ℕ) (session : Session) : Type 0 where
  pub stopped : StopsBy cause session.turns session.rest session.after
  pub reads : ReadsBy cause session.before session.after
  pub sent : SendsBy cause (pieces_of text session) session.before session.after

pub columns_of : (cause : Cause) (text : Said → List ℕ) (session : Session) → EndsBy cause text session → HasColumns cause text session
columns_of causes.Quit text session h = record { stopped = h.0; reads = h.2; sent = h.1 }
columns_of causes.End text session h = record { stopped = (h.0.0, h.0.1, h.0.2, h.1); reads = h.3; sent = h.2 }
columns_of causes.ReadFault text session h = record { stopped = (h.0.0, h.0.1, h.0.2); reads = h.2; sent = h.1 }
columns_of causes.WriteFault text session h = record {
  stopped = tt;
  reads = h.1;
  sent = (
    h.0.whole,
    h.0.last,
    h.0.cut.count,
    h.0.pieces,
    h.0.cut.proper,
    h.0.cut.taken ∙ known_twice session.before.sent (concat h.0.whole) (take h.0.cut.count h.0.last),
    h.0.failed,
  );
}
columns_of causes.Budget text session h = record { stopped = by_why h.0; reads = h.2; sent = h.1 }
  where
    by_why : IsUsedUp session ⊎ ComesTo gots.Budget session → StopsBy causes.Budget session.turns session.rest session.after
    by_why (inl used) = (used.0, inl used.1)
    by_why (inr came) = (came.0, inr (came.1, came.2))

pub of_columns : (cause : Cause) (text : Said → List ℕ) (session : Session) → HasColumns cause text session → EndsBy cause text session
of_columns causes.Quit text session h = (h.stopped, h.sent, h.reads)
of_columns causes.End text session h = ((h.stopped.0, h.stopped.1, h.stopped.2), h.stopped.3, h.sent, h.reads)
of_columns causes.ReadFault text session h = ((h.stopped.0, h.stopped.1, h.stopped.2), h.sent, h.reads)
of_columns causes.WriteFault text session h = (
  record {
    whole = h.sent.0;
    last = h.sent.1;
    pieces = h.sent.3;
    cut = record { count = h.sent.2; proper = h.sent.4; taken = h.sent.5 ∙ sym (known_twice session.before.sent (concat h.sent.0) (take h.sent.2 h.sent.1)) };
    failed = h.sent.6;
  },
  h.reads,
)
of_columns causes.Budget text session h = (by_why h.stopped.1, h.sent, h.reads)
  where
    by_why : (length session.turns ≡ SESSION_LINES) ⊎ ((length session.turns < SESSION_LINES) × (session.rest ≡ (gots.Budget, []) ∷ [])) → IsUsedUp session ⊎ ComesTo gots.Budget session
    by_why (inl used) = inl (h.stopped.0, used)
    by_why (inr came) = inr (h.stopped.0, came.0, came.1)
