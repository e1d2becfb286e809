use Rattle.std.proofs.Common.{◌≡◌, ℕ, ◌+◌, ◌-◌, ◌<◌, true, List, [], ◌∷◌, Option, None, length-append, sym, ap, subst, ◌∙◌, rules, arith}
use Rattle.allocator.specs.Prelude.{IsAccount, stock_value, is_tree, tree_of, forest_of, holds, narrowed, fixed_at, chosen, fixed_count, IsChoice, IsCeiling}
use Rattle.dual_bound.proofs.CeilingLaws.{ceiling_narrowed}
use Rattle.dual_bound.proofs.ChoiceLaws.{count_free}
use Rattle.allocator.proofs.Claims.{all_hold_more}
use Rattle.allocator.proofs.Growing.{all_hold-push, are_trees-push, holds-split, is_tree-split, leaf_fits}
use Rattle.allocator.proofs.searching.+search.Goals as goal

-- where a feature is left to split by, fewer than 32 are fixed
few_fixed : (fixed now : List (List (Option ℕ))) (client feature : ℕ) → IsChoice fixed → fixed ≡ now → client < 8 → feature < 4 → fixed_at fixed client feature ≡ None → fixed_count now < 32
few_fixed fixed now client feature form is client_in feature_in free = subst (λ choice. fixed_count choice < 32) is (count_free fixed client feature form client_in feature_in free)

pub explore_parts-loop-value-init : goal.explore_parts-loop-value-init
explore_parts-loop-value-init t c =
    let split = c.args.split in
    let few = few_fixed c.choice.inside.fixed c.args.choice.now split.client split.feature c.choice.invariant c.choice.view_is c.requires.client c.requires.feature (subst (λ fixed. fixed_at fixed split.client split.feature ≡ None) (sym c.choice.view_is) c.requires.free) in
    let deep : c.args.level < 32 = omega (arith, c.requires.level, few) in
    search rules

pub explore_parts-loop-value-preserved : goal.explore_parts-loop-value-preserved
explore_parts-loop-value-preserved t c =
    let l = c.loop-value in
    let left = chosen c.args.choice.now in
    let client = c.args.split.client in
    let feature = c.args.split.feature in
    let child = c.in_ok-child.child in
    let total = c.explore_part.new.best.total in
    let fits : is_tree (31 - c.args.level) (tree_of child) ≡ true = subst (λ d. is_tree d (tree_of child) ≡ true) (omega arith) c.in_ok-child.ensures.fits in
    let hold : holds c.args.search.now.account.now total (narrowed left client feature l.value) (tree_of child) ≡ true =
    subst (λ n. holds c.args.search.now.account.now total n (tree_of child) ≡ true) c.with-next.ensures.left c.in_ok-child.ensures.holds in
    record {
      few = l.invariant.few;
      reached = c.in_ok-child.ensures.reached;
      grows = omega (arith, c.in_ok-child.ensures.grows, l.invariant.grows);
      stock = search rules;
      count = rw c.in_ok-push.ensures.items (length-append l.children.items (child ∷ []) ∙ omega (arith, l.invariant.count));
      hold = rw c.in_ok-push.ensures.items (all_hold-push c.args.search.now.account.now total left client feature 0 l.value l.children.items child
          (all_hold_more c.args.search.now.account.now l.best.total total left client feature 0 (forest_of l.children.items) l.invariant.hold c.in_ok-child.ensures.grows) (omega (arith, l.invariant.count)) hold);
      fit = rw c.in_ok-push.ensures.items (are_trees-push (31 - c.args.level) l.children.items child l.invariant.fit fits);
    }

pub explore-returns-then-holds-clause-fits : goal.explore-returns-then-holds-clause-fits
explore-returns-then-holds-clause-fits t c = leaf_fits (32 - c.args.level) c.leaf.result c.new-quote.result.prices c.leaf.ensures.view (c.leaf.ensures.fits (32 - c.args.level))

pub explore_part-returns-then-holds-clause-fits : goal.explore_part-returns-then-holds-clause-fits
explore_part-returns-then-holds-clause-fits t c = leaf_fits (32 - c.args.level) c.leaf.result c.args.known.now.prices c.leaf.ensures.view (c.leaf.ensures.fits (32 - c.args.level))

pub explore-returns-in_default-clause-fits : goal.explore-returns-in_default-clause-fits
explore-returns-in_default-clause-fits t c = leaf_fits (32 - c.args.level) c.leaf-in_default.result c.full_prices.result c.leaf-in_default.ensures.view (c.leaf-in_default.ensures.fits (32 - c.args.level))

pub explore_parts-returns-clause-holds : goal.explore_parts-returns-clause-holds
explore_parts-returns-clause-holds t c =
    let l = c.loop-value in
    holds-split c.args.search.now.account.now l.best.total (chosen c.args.choice.now) c.args.split.client c.args.split.feature l.children (omega (arith, l.invariant.count, c.value_count-value-end.ensures)) l.invariant.hold

pub explore_parts-returns-clause-fits : goal.explore_parts-returns-clause-fits
explore_parts-returns-clause-fits t c =
    let l = c.loop-value in
    is_tree-split c.args.level c.args.split.client c.args.split.feature l.children l.invariant.few c.requires.client c.requires.feature (omega (arith, l.invariant.count, c.value_count-value-end.ensures)) l.invariant.fit

pub explore_parts-explore_part-requires : goal.explore_parts-explore_part-requires
explore_parts-explore_part-requires t c =
    let account = c.args.search.now.account.now in
    let ranges = subst IsAccount c.account.view_is c.account.invariant in
    let level : c.args.level + 1 ≡ fixed_count c.with-next.result = omega (arith, c.requires.level, c.with-next.ensures.count) in
    let table = c.narrow.new.self.worths.dollars in
    let narrow = ceiling_narrowed account ranges (chosen c.args.choice.now) c.args.split.client c.args.split.feature c.loop-value.value c.args.left.now.worths.dollars table c.requires.ceiling c.narrow.ensures.keeps in
    let ceiling = subst (λ left. IsCeiling account left table) (sym c.with-next.ensures.left) narrow in
    (search rules, (level, (ceiling, (c.renew.ensures, c.loop-value.invariant.reached))))

pub explore-explore_parts-requires : goal.explore-explore_parts-requires
explore-explore_parts-requires t c =
    let account = c.args.search.now.account.now in
    let stock : c.new-quote.result.stock_value ≡ stock_value account.holdings c.new-quote.result.prices = c.new-quote.ensures.stock ∙ ap (stock_value account.holdings) (sym c.new-quote.ensures.prices) in
    (search rules, (c.requires.level, (c.requires.ceiling, (stock, (c.in-Some.ensures.client, (c.in-Some.ensures.feature, (c.in-Some.ensures.free, c.requires.reached)))))))
