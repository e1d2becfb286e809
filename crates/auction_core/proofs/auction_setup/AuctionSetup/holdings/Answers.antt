use Rattle.std.proofs.Common.{◌≡◌, List, ℤ, ◌++◌, [], ◌∷◌, pos, length, ap, ◌∙◌, arith}
use Rattle.auction_rules.specs.Setup.{Setup}
use Rattle.auction_core.specs.Books.{held_by}
use Rattle.auction_core.proofs.Starting.{held_at_first}
use Rattle.auction_core.proofs.auction_setup.AuctionSetup.holdings.Goals as goal

pub returns : goal.returns
returns c =
    let inside = c.self.inside in
    let eight : length inside.endow ≡ 8 = omega (arith, c.copy_from_slice.ensures.len, ap length c.copy_from_slice.ensures.after) in
    ap (λ (xs : List ℤ). xs ++ pos 0 ∷ []) c.copy_from_slice.ensures.after
    ∙ (held_at_first inside.good inside.rules inside.endow eight ∙ ap (λ (s : Setup). held_by s []) c.self.view_is)
