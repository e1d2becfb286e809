use Rattle.bid_strings.proofs.Laws.{text_is, is_text, bid_again}
use Rattle.bid_strings.proofs.reading.one_spelling.Goals as goal

pub returns : goal.returns
returns c = record { found = text_is; only = is_text; bids = bid_again }
