use Rattle.std.proofs.Common.{◌≡◌, ◌<◌, ◌≤◌, ◌+◌, ◌*◌, ◌/◌, ◌∙◌, ℕ, length, string_bytes, string_len, ap, arith}
use Rattle.tac_commands.proofs.TableRuns.{all_done, ends_all, goes_all, may_select, two_more}
use Rattle.tac_commands.proofs.table_command.add_pairs.Goals as goal

pub add_pair-requires-clause-names : goal.add_pair-requires-clause-names
add_pair-requires-clause-names g c =
    let inside : 2 * c.loop-pair.pair + 1 < length c.args.names.now = omega arith in
    may_select (λ name. string_bytes name) (λ name. string_len name) (λ name. name.bytes.ok.0) c.args.names.now c.loop-pair.pair c.index-names-pair.result c.index-names-pair-in-loop-pair.result c.as_str-game.result.now c.as_str-log.result.now
    (g.F.Files.state c.loop-pair.files).names c.requires.few inside c.index-names-pair.is c.index-names-pair-in-loop-pair.is c.as_str-game.ensures.value c.as_str-log.ensures.value c.loop-pair.invariant.2

pub returns-in_err-standings-clause-fault : goal.returns-in_err-standings-clause-fault
returns-in_err-standings-clause-fault g c =
    let files = g.F.Files.state in
    let inside : 2 * c.loop-pair.pair + 1 < length c.args.names.now = omega arith in
    ends_all (λ name. string_bytes name) c.args.names.now c.loop-pair.pair c.index-names-pair.result c.index-names-pair-in-loop-pair.result c.as_str-game.result.now c.as_str-log.result.now
    (files c.args.files.now) (files c.loop-pair.files) (files c.add_pair.new.files) c.loop-pair.standings
    inside c.index-names-pair.is c.index-names-pair-in-loop-pair.is c.as_str-game.ensures.value c.as_str-log.ensures.value c.loop-pair.invariant.0
    c.from_residual.result c.in_err-standings.field-0.0 c.from_residual.ensures.1 c.in_err-standings.ensures.fault

pub loop-pair-preserved : goal.loop-pair-preserved
loop-pair-preserved g c =
    let files = g.F.Files.state in
    let inside : 2 * c.loop-pair.pair + 1 < length c.args.names.now = omega arith in
    let is = c.in_ok-standings.ensures in (
      goes_all (λ name. string_bytes name) c.args.names.now c.loop-pair.pair c.index-names-pair.result c.index-names-pair-in-loop-pair.result c.as_str-game.result.now c.as_str-log.result.now
          (files c.args.files.now) (files c.loop-pair.files) (files c.add_pair.new.files) c.loop-pair.standings
          inside c.index-names-pair.is c.index-names-pair-in-loop-pair.is c.as_str-game.ensures.value c.as_str-log.ensures.value c.loop-pair.invariant.0
          c.in_ok-standings.standings is.added is.content is.names is.quiet,
      is.games ∙ ap (λ (n : ℕ). n + 1) c.loop-pair.invariant.1,
      two_more (files c.loop-pair.files).names (files c.add_pair.new.files).names c.as_str-game.result.now c.as_str-log.result.now c.loop-pair.pair _ c.loop-pair.invariant.2 is.names,
    )

pub returns-clause-all : goal.returns-clause-all
returns-clause-all g c =
    let half : ℕ = length c.args.names.now / 2 in
    let is : c.loop-pair.pair ≡ half = omega arith in
    let within : length c.args.names.now ≤ 2 * half + 1 = omega arith in
    all_done (λ name. string_bytes name) c.args.names.now c.loop-pair.pair half _ _ _ is within c.loop-pair.invariant.0
