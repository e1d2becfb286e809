use Rattle.std.proofs.Common.{◌≡◌, ℕ, List, length, get_or, Some, slice_get, refl, ap, ◌∙◌, subst, arith}
use Rattle.std.specs.Global.{Vec}
use Rattle.std.proofs.lemmas.List.{length-map}
use Rattle.std.proofs.lemmas.Option.{slice_get_read}
use Rattle.log_audit.specs.{Nets, logged_history, nets_by}
use Rattle.log_audit.proofs.Earned.{row_of, earned_within}
use Rattle.log_audit.proofs.posts.nets_at.Goals as goal

pub index-requires : goal.index-requires
index-requires c =
    let log = c.args.log.now in let earned = c.args.earned.now in let good = c.args.good in let row : Vec Nets = c.index-earned-from.result in
    let from : c.from.result ≡ good = c.from.ensures ∙ c.get.ensures.value in
    let is : row ≡ get_or earned good row = c.index-earned-from.is ∙ ap (λ (k : ℕ). get_or earned k row) from in
    let low = c.get.ensures.range in
    let items = row_of log earned good row c.requires.nets (earned_within log earned good c.requires.logged.goods c.requires.nets (omega (arith, low, c.get.ensures.value))) is in
    let inside = c.requires.inside in
    omega (arith, row.ok.0, ap (λ (l : List Nets). length l) items, length-map (logged_history log good) nets_by, inside)

pub returns : goal.returns
returns c =
    let log = c.args.log.now in let earned = c.args.earned.now in let good = c.args.good in let row : Vec Nets = c.index-earned-from.result in
    let from : c.from.result ≡ good = c.from.ensures ∙ c.get.ensures.value in
    let is : row ≡ get_or earned good row = c.index-earned-from.is ∙ ap (λ (k : ℕ). get_or earned k row) from in
    let low = c.get.ensures.range in
    let items = row_of log earned good row c.requires.nets (earned_within log earned good c.requires.logged.goods c.requires.nets (omega (arith, low, c.get.ensures.value))) is in
    let inside = c.requires.inside in
    let found : Nets = c.index.result.now in
    let at : slice_get row.items c.args.position ≡ Some found = slice_get_read row.items (length row.items) c.args.position found refl (omega (arith, ap (λ (l : List Nets). length l) items, length-map (logged_history log good) nets_by, inside)) c.index.ensures in
    subst (λ (l : List Nets). slice_get l c.args.position ≡ Some found) items at
