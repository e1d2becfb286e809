use Rattle.std.proofs.Common.{sym, ap, subst, ◌∙◌, is_some, arith}
use Rattle.std.proofs.lemmas.Bool.{false≢true}
use Rattle.game_text.specs.Accounts.{IsAccount}
use Rattle.relaxation.proofs.TableLaws.{worths_more, worths_all}
use Rattle.relaxation.proofs.worth_table.WorthTable.fill.Goals as goal
use Rattle.relaxation.proofs.worth_table.WorthTable.fill.Goals.{in-Some, in_default}

pub loop-number-preserved : goal.loop-number-preserved
loop-number-preserved c =
    let l = c.loop-number in
    let account = c.args.account.now in
    let ranges = subst IsAccount c.account.view_is c.account.invariant in
    elim c.match-package.branch [
      | in-Some w ↦
          rw w.self-is (worths_more account ranges l.number l.self.dollars w.put.new.dollars w.in-Some.choice (sym c.package.ensures.value ∙ w.in-Some.is) w.put.ensures l.invariant)
      | in_default w ↦ absurd (false≢true (sym (ap is_some w.in_default.is) ∙ c.package.ensures.variant.1 c.loop-number-test.true))
    ]

pub returns : goal.returns
returns c = worths_all c.args.account.now.clients c.loop-number.self.dollars c.loop-number.number (omega arith) c.loop-number.invariant
