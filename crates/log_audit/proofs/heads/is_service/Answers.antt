use Rattle.log_audit.proofs.heads.is_service.Goals as goal

pub returns : goal.returns
returns c = (
  (λ yes. record {
    few_links = c.if-verdicts.false;
    seats_differ = c.do_seats_differ.ensures.0 c.if-not-do_seats_differ.false;
    each_end = c.are_ends.ensures.0 c.if-not-are_ends.false;
    few_missed = c.if-missed-gt-TICKS.false;
    absent = c.are_others_absent.ensures.0 yes;
  }),
  (λ service. c.are_others_absent.ensures.1 service.absent),
)
