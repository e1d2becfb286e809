use Rattle.std.proofs.Common.{◌≡◌, ◌+◌, ◌≤◌, ◌++◌, List, ℤ, length, sym, subst, arith, codes}
use Rattle.tac_base.specs.declared.limits.TheConstants.{REPLY_TEXT}
use Rattle.text_forms.specs.Rows.{row_text}
use Rattle.game_text.proofs.AgentLineLaws.{endow_sent}
use Rattle.game_text.proofs.agent_lines.print_endowment.Goals as goal

pub print_line-requires : goal.print_line-requires
print_line-requires c =
    let sent = endow_sent c.args.agent c.args.endow.now (omega arith) c.requires.range in
    subst (λ (ns : List ℤ). length c.args.out.now + length (row_text (codes "endow") ns) + 20 ≤ REPLY_TEXT) (sym c.endow_numbers.ensures) (omega (arith, sent.few, c.requires.room))

pub returns : goal.returns
returns c =
    let sent = endow_sent c.args.agent c.args.endow.now (omega arith) c.requires.range in
    record {
      text = subst (λ (ns : List ℤ). c.print_line.new.out ≡ c.args.out.now ++ row_text (codes "endow") ns) c.endow_numbers.ensures c.print_line.ensures;
      len = omega (arith, sent.few);
      one_line = sent.one;
    }
