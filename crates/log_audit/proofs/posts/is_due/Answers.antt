use Rattle.std.proofs.Common.{◌≡◌, [], ◌∷◌, ◌++◌, false, refl, sym, ◌∙◌, subst}
use Rattle.log_text.specs.SoundLog.{logged_history}
use Rattle.log_audit.specs.{IsDuePost, is_posted, AreNamed}
use Rattle.log_audit.proofs.Soundness.{place_within}
use Rattle.log_audit.proofs.Naming.{post_names}
use Rattle.log_audit.proofs.posts.is_due.Goals as goal
use Rattle.log_audit.proofs.posts.is_due.Goals.{then-not-is_earned-via-then-not-is_earned, then-not-is_earned-via-else-not-is_earned+then-is_named}

pub is_named-requires : goal.is_named-requires
is_named-requires c =
    let found = c.is_earned.ensures.0 c.if-not-is_earned.false in (place_within c.args.log.now c.requires.logged c.in-Post.good c.in-Post.position found.0 found.1).1

pub returns-then-not-is_earned-clause-answer : goal.returns-then-not-is_earned-clause-answer
returns-then-not-is_earned-clause-answer c = λ before are. (
  (λ t. absurd cc),
  (λ due.
      let due' = subst (IsDuePost (logged_history c.args.log.now) before c.args.entry.now.caller) c.in-Post.is due in
      elim c.then-not-is_earned.branch [
        | then-not-is_earned-via-then-not-is_earned w ↦ (let yes = c.is_earned.ensures.1 due'.0 in let no = w.if-not-is_earned.true in absurd cc)
        | then-not-is_earned-via-else-not-is_earned+then-is_named w ↦
            (let place = place_within c.args.log.now c.requires.logged c.in-Post.good c.in-Post.position due'.0.0 due'.0.1 in
            let yes = w.if-is_named.true in let value = w.is_named.ensures.value in let named = are c.in-Post.good c.in-Post.position place.0 place.1 in let no = due'.1 in absurd cc)
      ]),
)

pub name-requires : goal.name-requires
name-requires c =
    let found = c.is_earned.ensures.0 c.if-not-is_earned.false in (place_within c.args.log.now c.requires.logged c.in-Post.good c.in-Post.position found.0 found.1).1

pub returns-else-is_named-clause-answer : goal.returns-else-is_named-clause-answer
returns-else-is_named-clause-answer c = λ before are.
    let found = c.is_earned.ensures.0 c.if-not-is_earned.false in
    let place = place_within c.args.log.now c.requires.logged c.in-Post.good c.in-Post.position found.0 found.1 in
    let free : is_posted before c.in-Post.good c.in-Post.position ≡ false = sym (are c.in-Post.good c.in-Post.position place.0 place.1) ∙ (sym c.is_named.ensures.value ∙ c.if-is_named.false) in
    ((λ t. subst (IsDuePost (logged_history c.args.log.now) before c.args.entry.now.caller) (sym c.in-Post.is) (found, free)), (λ due. refl))

pub returns-else-is_named-clause-named : goal.returns-else-is_named-clause-named
returns-else-is_named-clause-named c = λ before are t.
    let found = c.is_earned.ensures.0 c.if-not-is_earned.false in
    let place = place_within c.args.log.now c.requires.logged c.in-Post.good c.in-Post.position found.0 found.1 in
    subst (AreNamed (before ++ c.args.entry.now ∷ [])) (sym c.name.ensures)
    (post_names before c.args.entry.now c.in-Post.good c.in-Post.position c.in-Post.nets c.args.places.now c.in-Post.is c.is_named.ensures.places place.0 place.1 are)
