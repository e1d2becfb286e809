use Rattle.std.proofs.Common.{◌≡◌, ◌<◌, ℕ, List, [], ◌∷◌, ◌++◌, length, get_or, sym, ap, ◌∙◌, arith, codes, decimal}
use Rattle.game_text.specs.OneAgent.{agent_line, lines_of_agent}
use Rattle.link_audit.specs.{whole_lines, replies_at}
use Rattle.link_audit.proofs.Welcomes.{welcome_more, welcome_not}
use Rattle.link_audit.proofs.greeting.behind_welcome.Goals as goal

pub returns-in_default : goal.returns-in_default
returns-in_default c = λ others is.
    let number : c.from.result ≡ c.args.agent = c.from.ensures ∙ c.get.ensures.value in
    let first : c.as_slice.result.now ≡ codes "welcome " ++ decimal c.args.agent =
    c.as_slice.ensures.value ∙ (c.print_numeral.ensures.value ∙ (ap (λ (t : List ℕ). t ++ decimal c.from.result) (c.push_bytes.ensures ∙ ap (λ (t : List ℕ). t ++ codes "welcome ") c.new-text.ensures) ∙ ap (λ (n : ℕ). codes "welcome " ++ decimal n) number)) in
    c.in_default.ensures (lines_of_agent c.args.game.now c.args.agent ++ others) (is ∙ ap (λ (l : List ℕ). l ∷ (lines_of_agent c.args.game.now c.args.agent ++ others)) (sym first))

pub loop-n-init : goal.loop-n-init
loop-n-init c =
    let number : c.from.result ≡ c.args.agent = c.from.ensures ∙ c.get.ensures.value in
    let first : c.as_slice.result.now ≡ codes "welcome " ++ decimal c.args.agent =
    c.as_slice.ensures.value ∙ (c.print_numeral.ensures.value ∙ (ap (λ (t : List ℕ). t ++ decimal c.from.result) (c.push_bytes.ensures ∙ ap (λ (t : List ℕ). t ++ codes "welcome ") c.new-text.ensures) ∙ ap (λ (n : ℕ). codes "welcome " ++ decimal n) number)) in
    record {
      came = c.in-Some.ensures.1 ∙ ap (λ (l : List ℕ). l ∷ replies_at c.args.said.now c.in-Some.to) first;
      within = c.in-Some.ensures.0;
      nine = λ some. absurd (omega (arith, some));
    }

pub returns-in_default-behind_line : goal.returns-in_default-behind_line
returns-in_default-behind_line c =
    let v = c.loop-n.invariant in let lines = lines_of_agent c.args.game.now c.args.agent in let n = c.loop-n.n in
    let row : c.as_slice-in-loop-n.result.now ≡ get_or lines n [] =
    c.as_slice-in-loop-n.ensures.value ∙ (c.print_agent_line.ensures.text ∙ ap (λ (t : List ℕ). t ++ agent_line c.args.game.now c.args.agent n) c.clear.ensures) in
    let low : n < length lines = (let nine = c.print_agent_line.ensures.count in let below = c.loop-n-test.true in omega (arith, nine, below)) in
    welcome_not (whole_lines c.args.said.now) (codes "welcome " ++ decimal c.args.agent) lines n c.as_slice-in-loop-n.result.now low row (replies_at c.args.said.now c.loop-n.to) v.came c.in_default-behind_line.ensures

pub loop-n-preserved : goal.loop-n-preserved
loop-n-preserved c =
    let v = c.loop-n.invariant in let lines = lines_of_agent c.args.game.now c.args.agent in let n = c.loop-n.n in
    let row : c.as_slice-in-loop-n.result.now ≡ get_or lines n [] =
    c.as_slice-in-loop-n.ensures.value ∙ (c.print_agent_line.ensures.text ∙ ap (λ (t : List ℕ). t ++ agent_line c.args.game.now c.args.agent n) c.clear.ensures) in
    let low : n < length lines = (let nine = c.print_agent_line.ensures.count in let below = c.loop-n-test.true in omega (arith, nine, below)) in
    record {
      came = welcome_more (whole_lines c.args.said.now) (codes "welcome " ++ decimal c.args.agent) lines n c.as_slice-in-loop-n.result.now low row (replies_at c.args.said.now c.loop-n.to) v.came
          (replies_at c.args.said.now c.in-Some-behind_line.next) c.in-Some-behind_line.ensures.1;
      within = c.in-Some-behind_line.ensures.0;
      nine = λ some. c.print_agent_line.ensures.count;
    }
