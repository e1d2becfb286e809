use Rattle.std.proofs.Common.{arith, sym, subst, ◌∙◌}
use Rattle.draw_maker.specs.Words.{generator}
use Rattle.draw_maker.specs.BidScripts.{IsBidScript}
use Rattle.draw_maker.proofs.DrawnScripts.{request_more, request_left, none_drawn, script_is}
use Rattle.draw_maker.proofs.ScriptLines.{bid_script}
use Rattle.draw_maker.proofs.scripts.make_script.Goals as goal

pub loop-i-init : goal.loop-i-init
loop-i-init c = record {
  text = c.new-out.ensures.items;
  left = c.new-generator.ensures ∙ none_drawn (generator c.args.seed 55);
}

pub loop-i-preserved : goal.loop-i-preserved
loop-i-preserved c = record {
  text = request_more c.args.seed c.args.count c.loop-i.i c.loop-i.generator c.draw_words.result c.loop-i.out.items c.push_request.new.out.items c.loop-i.invariant.left c.draw_words.ensures.value c.loop-i.invariant.text c.in_ok-push_request.ensures;
  left = request_left c.loop-i.i (generator c.args.seed 55) c.loop-i.generator c.draw_words.new.generator c.loop-i.invariant.left c.draw_words.ensures.left;
}

pub returns-clause-exact : goal.returns-clause-exact
returns-clause-exact c = script_is c.args.seed c.args.count c.loop-i.i c.loop-i.out.items (omega arith) c.loop-i.invariant.text

pub returns-clause-bids : goal.returns-clause-bids
returns-clause-bids c = subst (IsBidScript c.args.count) (sym (returns-clause-exact c)) (bid_script c.args.seed c.args.count)
