use Rattle.std.proofs.Common.{ℕ, List, ◌++◌, ◌∙◌, ap}
use Rattle.text_forms.specs.Lines.{text_of}
use Rattle.good_worth.specs.{worths_of, head_lines}
use Rattle.good_worth.proofs.Lines.{whole}
use Rattle.good_worth.proofs.printing.print_worths.Goals as goal

pub returns : goal.returns
returns c =
    let w = c.args.worths.now in
    let v = worths_of w.base w.more.items w.less.items in
    whole v c.print_head.new.out.items c.print_base.new.out.items c.print_all_changed.new.out.items c.extend_from_slice.new.self.items
    (c.in_ok-print_head.ensures ∙ ap (λ (t : List ℕ). t ++ text_of (head_lines v)) c.new-out.ensures.items) c.in_ok-print_base.ensures c.in_ok-print_all_changed.ensures c.in_ok-extend_from_slice.ensures.items
