use Rattle.std.proofs.Common.{◌≡◌, ◌∙◌, ℕ, ap, sym, subst, arith, length, None, map}
use Rattle.std.proofs.lemmas.List.{length-map}
use Rattle.log_audit.specs.{AuctionHistory, all_goods, settlement_of, IsFirstFrom, HasNoneFrom, AreReplays, AreReplayed, AreUnfair}
use Rattle.log_audit.specs.declared.findings.Flaw.TheVariants as flaws
use Rattle.log_audit.proofs.Opened.{goods_of}
use Rattle.log_audit.proofs.Parting.{none_before, found_first, free_of_all, entry_found, entries_free, unsound_is, sound_is}
use Rattle.log_audit.proofs.auditing.audit_log.Goals as goal

pub returns-in-Unfair-clause-flaw : goal.returns-in-Unfair-clause-flaw
returns-in-Unfair-clause-flaw c =
    let game = c.args.game.now in let log = c.args.log.now in
    let unfair : AreUnfair game log c.in-Unfair.good c.in-Unfair.position = subst (AreReplays game log) c.in-Unfair.is c.in_ok-auctions.ensures.played in entry_found game log c.in-Unfair.good c.in-Unfair.position unfair

pub returns-in-Unfair-clause-sound : goal.returns-in-Unfair-clause-sound
returns-in-Unfair-clause-sound c =
    let game = c.args.game.now in let log = c.args.log.now in
    let unfair : AreUnfair game log c.in-Unfair.good c.in-Unfair.position = subst (AreReplays game log) c.in-Unfair.is c.in_ok-auctions.ensures.played in
    unsound_is game log c.in_ok-auctions.ensures.logged (flaws.Entry c.in-Unfair.good c.in-Unfair.position) (entry_found game log c.in-Unfair.good c.in-Unfair.position unfair)

pub returns-in-Some-clause-flaw : goal.returns-in-Some-clause-flaw
returns-in-Some-clause-flaw c =
    let game = c.args.game.now in let log = c.args.log.now in
    let replayed : AreReplayed game log c.in-Fair.auctions.items c.in-Fair.nets.items = subst (AreReplays game log) c.in-Fair.is c.in_ok-auctions.ensures.played in
    found_first game log 1 2 c.in-Some.flaw (entries_free game log replayed.fair) (omega arith) (subst (IsFirstFrom game log 1 2) c.in-Some.is c.in_ok-flaw.ensures)

pub returns-in-Some-clause-sound : goal.returns-in-Some-clause-sound
returns-in-Some-clause-sound c = unsound_is c.args.game.now c.args.log.now c.in_ok-auctions.ensures.logged c.in-Some.flaw (returns-in-Some-clause-flaw c)

pub returns-in-Some-cash_flaw-clause-flaw : goal.returns-in-Some-cash_flaw-clause-flaw
returns-in-Some-cash_flaw-clause-flaw c =
    let game = c.args.game.now in let log = c.args.log.now in
    let replayed : AreReplayed game log c.in-Fair.auctions.items c.in-Fair.nets.items = subst (AreReplays game log) c.in-Fair.is c.in_ok-auctions.ensures.played in
    let clocked : HasNoneFrom game log 1 2 = subst (IsFirstFrom game log 1 2) c.in_default.is c.in_ok-flaw.ensures in
    found_first game log 2 3 c.in-Some-cash_flaw.flaw (none_before game log 0 1 2 None (entries_free game log replayed.fair) (omega arith) clocked) (omega arith)
    (subst (IsFirstFrom game log 2 3) c.in-Some-cash_flaw.is (c.cash_flaw.ensures game))

pub returns-in-Some-cash_flaw-clause-sound : goal.returns-in-Some-cash_flaw-clause-sound
returns-in-Some-cash_flaw-clause-sound c = unsound_is c.args.game.now c.args.log.now c.in_ok-auctions.ensures.logged c.in-Some-cash_flaw.flaw (returns-in-Some-cash_flaw-clause-flaw c)

pub returns-in-Some-2-clause-flaw : goal.returns-in-Some-2-clause-flaw
returns-in-Some-2-clause-flaw c =
    let game = c.args.game.now in let log = c.args.log.now in
    let replayed : AreReplayed game log c.in-Fair.auctions.items c.in-Fair.nets.items = subst (AreReplays game log) c.in-Fair.is c.in_ok-auctions.ensures.played in
    let clocked : HasNoneFrom game log 1 2 = subst (IsFirstFrom game log 1 2) c.in_default.is c.in_ok-flaw.ensures in
    let read : HasNoneFrom game log 2 3 = subst (IsFirstFrom game log 2 3) c.in_default-cash_flaw.is (c.cash_flaw.ensures game) in
    found_first game log 3 5 c.in-Some-2.flaw (none_before game log 0 2 3 None (none_before game log 0 1 2 None (entries_free game log replayed.fair) (omega arith) clocked) (omega arith) read) (omega arith)
    (subst (IsFirstFrom game log 3 5) c.in-Some-2.is (c.in_ok-flaw-2.ensures game))

pub returns-in-Some-2-clause-sound : goal.returns-in-Some-2-clause-sound
returns-in-Some-2-clause-sound c = unsound_is c.args.game.now c.args.log.now c.in_ok-auctions.ensures.logged c.in-Some-2.flaw (returns-in-Some-2-clause-flaw c)

pub settle_auctions-accounts-requires : goal.settle_auctions-accounts-requires
settle_auctions-accounts-requires c =
    let game = c.args.game.now in let log = c.args.log.now in let good_of : AuctionHistory → ℕ = λ a. a.setup.good in
    let replayed : AreReplayed game log c.in-Fair.auctions.items c.in-Fair.nets.items = subst (AreReplays game log) c.in-Fair.is c.in_ok-auctions.ensures.played in
    let goods : map good_of c.in-Fair.auctions.items ≡ all_goods = ap (map good_of) replayed.auctions_are ∙ goods_of game log c.in_ok-auctions.ensures.logged.goods in
    ap length c.deref-2.ensures.value ∙ sym (length-map c.in-Fair.auctions.items good_of) ∙ ap length goods

pub last_flaw-requires-clause-accounts : goal.last_flaw-requires-clause-accounts
last_flaw-requires-clause-accounts c =
    let game = c.args.game.now in let log = c.args.log.now in
    let replayed : AreReplayed game log c.in-Fair.auctions.items c.in-Fair.nets.items = subst (AreReplays game log) c.in-Fair.is c.in_ok-auctions.ensures.played in
    c.settle_auctions-accounts.ensures ∙ ap settlement_of (c.deref-2.ensures.value ∙ replayed.auctions_are)

pub returns-in-Some-last_flaw-clause-flaw : goal.returns-in-Some-last_flaw-clause-flaw
returns-in-Some-last_flaw-clause-flaw c =
    let game = c.args.game.now in let log = c.args.log.now in
    let replayed : AreReplayed game log c.in-Fair.auctions.items c.in-Fair.nets.items = subst (AreReplays game log) c.in-Fair.is c.in_ok-auctions.ensures.played in
    let clocked : HasNoneFrom game log 1 2 = subst (IsFirstFrom game log 1 2) c.in_default.is c.in_ok-flaw.ensures in
    let read : HasNoneFrom game log 2 3 = subst (IsFirstFrom game log 2 3) c.in_default-cash_flaw.is (c.cash_flaw.ensures game) in
    let posted : HasNoneFrom game log 3 5 = subst (IsFirstFrom game log 3 5) c.in_default-2.is (c.in_ok-flaw-2.ensures game) in
    found_first game log 5 7 c.in-Some-last_flaw.flaw
    (none_before game log 0 3 5 None (none_before game log 0 2 3 None (none_before game log 0 1 2 None (entries_free game log replayed.fair) (omega arith) clocked) (omega arith) read) (omega arith) posted) (omega arith)
    c.in-Some-last_flaw.ensures

pub returns-in-Some-last_flaw-clause-sound : goal.returns-in-Some-last_flaw-clause-sound
returns-in-Some-last_flaw-clause-sound c = unsound_is c.args.game.now c.args.log.now c.in_ok-auctions.ensures.logged c.in-Some-last_flaw.flaw (returns-in-Some-last_flaw-clause-flaw c)

pub returns-clause-flaw : goal.returns-clause-flaw
returns-clause-flaw c =
    let game = c.args.game.now in let log = c.args.log.now in
    let replayed : AreReplayed game log c.in-Fair.auctions.items c.in-Fair.nets.items = subst (AreReplays game log) c.in-Fair.is c.in_ok-auctions.ensures.played in
    let clocked : HasNoneFrom game log 1 2 = subst (IsFirstFrom game log 1 2) c.in_default.is c.in_ok-flaw.ensures in
    let read : HasNoneFrom game log 2 3 = subst (IsFirstFrom game log 2 3) c.in_default-cash_flaw.is (c.cash_flaw.ensures game) in
    let posted : HasNoneFrom game log 3 5 = subst (IsFirstFrom game log 3 5) c.in_default-2.is (c.in_ok-flaw-2.ensures game) in
    free_of_all game log
    (none_before game log 0 5 7 None
    (none_before game log 0 3 5 None (none_before game log 0 2 3 None (none_before game log 0 1 2 None (entries_free game log replayed.fair) (omega arith) clocked) (omega arith) read) (omega arith) posted) (omega arith)
    c.in-None.ensures)

pub returns-clause-sound : goal.returns-clause-sound
returns-clause-sound c = sound_is c.args.game.now c.args.log.now c.in_ok-auctions.ensures.logged (returns-clause-flaw c)
