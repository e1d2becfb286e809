use Rattle.std.proofs.Common.{◌≡◌, ◌*◌, flat_map}
use Rattle.std.specs.List.{range_with_len}
use Rattle.text_forms.specs.Lines.{text_of}
use Rattle.draw_maker.specs.Words.{generator, after}
use Rattle.draw_maker.specs.Scripts.{made_lines, request_draws}
use Rattle.draw_maker.proofs.scripts.make_script.Given as goal

-- the requests so far, and where they left the generator
abbrev pub invariant-loop-i : goal.invariant-loop-i
invariant-loop-i l = record {
  text : l.out.items ≡ text_of (flat_map (λ i. made_lines l.count i (request_draws l.seed i)) (range_with_len 0 l.i));
  left : l.generator ≡ after (5 * l.i) (generator l.seed 55);
}
