use Rattle.std.proofs.Common.{◌≡◌, ◌++◌, ℤ, List, ℕ, length, ap, ◌∙◌, arith, pos, get_or, ◌∷◌, rules, take_all, length-append}
use Rattle.std.specs.Fmt.{signed_decimal}
use Rattle.text_forms.proofs.RowLoops.{spaced, keyword_and_words}
use Rattle.game_text.proofs.AgentLineLaws.{row_more, row_step}
use Rattle.game_text.proofs.agent_lines.print_line.Goals as goal

pub print_number-requires : goal.print_number-requires
print_number-requires c =
    let more = row_more signed_decimal c.args.keyword.now c.args.numbers.now c.loop-number.number-index c.loop-number-test.true in
    omega (arith, more, c.requires, ap length c.loop-number.invariant, length-append {A = ℕ})

pub loop-number-preserved : goal.loop-number-preserved
loop-number-preserved c =
    let number : c.print_number.new.out ≡ c.loop-number.out ++ 32 ∷ signed_decimal (get_or c.args.numbers.now c.loop-number.number-index (pos 0)) = search rules in
    row_step signed_decimal c.args.out.now c.args.keyword.now c.loop-number.out c.print_number.new.out c.args.numbers.now c.loop-number.number-index (pos 0) c.loop-number-test.true c.loop-number.invariant number

pub returns : goal.returns
returns c =
    c.loop-number.invariant
    ∙ ap (λ (ns : List ℤ). c.args.out.now ++ (c.args.keyword.now ++ spaced signed_decimal ns)) (take_all {A = ℤ} c.loop-number.number-index c.args.numbers.now c.loop-number-test.false)
    ∙ ap (λ (t : List ℕ). c.args.out.now ++ t) (keyword_and_words signed_decimal c.args.keyword.now c.args.numbers.now)
