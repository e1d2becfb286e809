use Rattle.std.proofs.Common.{subst}
use Rattle.auction_core.specs.declared.book.Book.{Book}
use Rattle.auction_core.specs.Books.{Stands}
use Rattle.auction_core.proofs.book.BookOrderBook.act.Goals as goal

pub returns-in-Hotel-clause-follows : goal.returns-in-Hotel-clause-follows
returns-in-Hotel-clause-follows c = λ setup past stands holds at.
    c.act-in-Hotel.ensures.follows setup past (subst (λ (book : Book). Stands book setup past) c.in-Hotel.is stands) holds at
