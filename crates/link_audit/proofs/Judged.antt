-- What is said of an answer, by the lines and by the cause of the session's end.
use Rattle.std.proofs.Common.{◌≡◌, ◌-◌, ℕ, List, ◌++◌, Bool, true, false, Contains, length, sym, subst, refl, arith, inl, inr, ◌∙◌}
use Rattle.line_protocol.specs.declared.admission.Cause.TheVariants as causes
use Rattle.link_audit.specs.{SESSION_LINES, Cause, GameFile, LoggedGame, Dialect, has_left, AccountsFor, AllowsCause, IsVouched, logged_ends, IsJudged, IsWholeLink, EndsSo, HasCauseOf, HasCauseFor, IsAccounted, IsEnding, MayEndBy}
use Rattle.link_audit.specs.declared.causes.Ending.{Ending}
use Rattle.link_audit.specs.declared.causes.Ending.TheVariants.{Quit, Open}
use Rattle.link_audit.specs.declared.vouching.Difference.TheVariants as differences
use Rattle.link_audit.specs.declared.vouching.Vouching.{Vouching}
use Rattle.link_audit.specs.declared.vouching.Vouching.TheVariants.{Whole, Cut, Not}
use Rattle.link_audit.proofs.Quitting.{no_room}

not_so : (b : Bool) → (b ≡ true → ⊥) → b ≡ false
not_so true none = absurd (none refl)
not_so false none = refl

-- a record allows a cause exactly if the session may have ended by it, by what the record shows of its end
module _ {game : GameFile} {dialect : Dialect} {log : LoggedGame} {agent : ℕ} {asked said : List ℕ} (account : AccountsFor game dialect log agent asked said) where
  pub may_end : (ending : Ending) → IsEnding dialect account ending → (cause : Cause) → AllowsCause account cause → MayEndBy cause ending asked
  may_end Quit is causes.Quit a = tt
  may_end Quit is causes.End a = absurd (let other = a.left is in cc)
  may_end Quit is causes.ReadFault a = absurd (let other = a.left is in cc)
  may_end Quit is causes.WriteFault a = absurd (let other = a.left is in cc)
  may_end Quit is causes.Budget a = absurd (let other = a.left is in cc)
  may_end (Open full over quits) is causes.Quit a = elim (a.quit refl) [ inl left ↦ absurd (let both : true ≡ false = sym left ∙ is.0 in cc) | inr asks ↦ is.1.2.1 asks ]
  may_end (Open full over quits) is causes.End a = not_so full (λ most. (let other = a.full is.0 (is.1.0.0 most) in cc))
  may_end (Open full over quits) is causes.ReadFault a = not_so full (λ most. (let other = a.full is.0 (is.1.0.0 most) in cc))
  may_end (Open full over quits) is causes.WriteFault a = (not_so full (λ most. (let other = a.full is.0 (is.1.0.0 most) in cc)), not_so over (λ none. a.cut refl (is.1.1.0 none)))
  may_end (Open full over quits) is causes.Budget a = a.used_up refl

  stays : has_left account.heard ≡ false → has_left account.heard ≡ true → ⊥
  stays none is = let both : true ≡ false = sym is ∙ none in cc

  differ : (b : Bool) → b ≡ false → b ≡ true → ⊥
  differ b none is = let both : true ≡ false = sym is ∙ none in cc

  pub allows : (ending : Ending) → IsEnding dialect account ending → (cause : Cause) → MayEndBy cause ending asked → AllowsCause account cause
  allows Quit is causes.Quit may = record {
    left = λ left. refl;
    quit = λ same. inl is;
    full = λ none. absurd (stays none is);
    cut = λ other. absurd cc;
    used_up = λ other. absurd cc;
  }
  allows Quit is causes.End may = absurd may
  allows Quit is causes.ReadFault may = absurd may
  allows Quit is causes.WriteFault may = absurd may
  allows Quit is causes.Budget may = absurd may
  allows (Open full over quits) is causes.Quit may = record {
    left = λ left. refl;
    quit = λ same. inr (is.1.2.0 may);
    full = λ none most. absurd (no_room dialect (SESSION_LINES - length account.heard) (account.unanswered ++ account.later) (omega (arith, most)) (is.1.2.0 may));
    cut = λ other. absurd cc;
    used_up = λ other. absurd cc;
  }
  allows (Open full over quits) is causes.End may = record {
    left = λ left. absurd (stays is.0 left);
    quit = λ other. absurd cc;
    full = λ none most. absurd (differ full may (is.1.0.1 most));
    cut = λ other. absurd cc;
    used_up = λ other. absurd cc;
  }
  allows (Open full over quits) is causes.ReadFault may = record {
    left = λ left. absurd (stays is.0 left);
    quit = λ other. absurd cc;
    full = λ none most. absurd (differ full may (is.1.0.1 most));
    cut = λ other. absurd cc;
    used_up = λ other. absurd cc;
  }
  allows (Open full over quits) is causes.WriteFault may = record {
    left = λ left. absurd (stays is.0 left);
    quit = λ other. absurd cc;
    full = λ none most. absurd (differ full may.0 (is.1.0.1 most));
    cut = λ same none. differ over may.1 (is.1.1.1 none);
    used_up = λ other. absurd cc;
  }
  allows (Open full over quits) is causes.Budget may = record {
    left = λ left. absurd (stays is.0 left);
    quit = λ other. absurd cc;
    full = λ none most. refl;
    cut = λ other. absurd cc;
    used_up = λ same. may;
  }

module _ (game : GameFile) (dialect : Dialect) (log : LoggedGame) (asked said : List ℕ) (ending : Ending) (ends : EndsSo game dialect log asked said ending) where
  vouched_by : (agent : ℕ) (account : AccountsFor game dialect log agent asked said) → HasCauseOf log asked ending agent → IsVouched game dialect log agent asked said
  vouched_by agent account has = record { account = account; cause = has.0; ended = has.1; allowed = allows account ending (ends agent account) has.0 has.2 }

  -- the head has such a cause
  pub judged : (vouching : Vouching) → IsAccounted game dialect log asked said vouching → HasCauseFor log asked ending vouching → IsJudged game dialect log asked said vouching
  unfolding vouched_by
  judged (Whole seat lines memory) j has =
      let account = (j.yes seat).0 refl in
      let v = vouched_by seat account has in
      record {
        yes = λ agent. ((λ same. subst (λ (k : ℕ). IsVouched game dialect log k asked said) same v), (λ w. (j.yes agent).1 w.account));
        whole = λ agent. ((λ same. subst (λ (k : ℕ). IsWholeLink game dialect log k asked said) same (record { vouched = v; whole = (j.whole seat account).0 refl })), (λ w. (j.whole agent w.vouched.account).1 w.whole));
        numbers = λ agent w. j.numbers agent w.account;
        difference = tt;
      }
  judged (Cut seat lines after memory) j has =
      let account = (j.yes seat).0 refl in
      let v = vouched_by seat account has in
      record {
        yes = λ agent. ((λ same. subst (λ (k : ℕ). IsVouched game dialect log k asked said) same v), (λ w. (j.yes agent).1 w.account));
        whole = λ agent. ((λ never. absurd never), (λ w. (j.whole agent w.vouched.account).1 w.whole));
        numbers = λ agent w. j.numbers agent w.account;
        difference = tt;
      }
  judged (Not difference) j has = record {
    yes = λ agent. ((λ never. absurd never), (λ w. (j.yes agent).1 w.account));
    whole = λ agent. ((λ never. absurd never), (λ w. (j.yes agent).1 w.vouched.account));
    numbers = λ agent w. tt;
    difference = j.difference;
  }

  -- it has none
  refuted : (seat : ℕ) → AccountsFor game dialect log seat asked said → ((agent : ℕ) → AccountsFor game dialect log agent asked said → seat ≡ agent) → (HasCauseOf log asked ending seat → ⊥)
      → IsJudged game dialect log asked said (Not differences.Cause)
  refuted seat account same none = record {
    yes = λ agent. ((λ never. absurd never), (λ w. not_vouched agent w));
    whole = λ agent. ((λ never. absurd never), (λ w. not_vouched agent w.vouched));
    numbers = λ agent w. tt;
    difference = record { agent = seat; account = account; none = no_cause account };
  }
    where
      no_cause : (account' : AccountsFor game dialect log seat asked said) (cause : Cause) → Contains (logged_ends log.head) (seat, cause) → AllowsCause account' cause → ⊥
      no_cause account' cause inside a = none (cause, inside, may_end account' ending (ends seat account') cause a)

      not_vouched : (agent : ℕ) → IsVouched game dialect log agent asked said → ⊥
      not_vouched agent w = subst (λ (k : ℕ). IsVouched game dialect log k asked said → ⊥) (same agent w.account) (λ w'. no_cause w'.account w'.cause w'.ended w'.allowed) w

  pub unjudged : (vouching : Vouching) → IsAccounted game dialect log asked said vouching → (HasCauseFor log asked ending vouching → ⊥) → IsJudged game dialect log asked said (Not differences.Cause)
  unjudged (Whole seat lines memory) j none = refuted seat ((j.yes seat).0 refl) (λ agent w. (j.yes agent).1 w) none
  unjudged (Cut seat lines after memory) j none = refuted seat ((j.yes seat).0 refl) (λ agent w. (j.yes agent).1 w) none
  unjudged (Not difference) j none = absurd (none tt)
