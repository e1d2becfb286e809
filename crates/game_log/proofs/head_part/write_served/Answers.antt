use Rattle.std.proofs.Common.{◌++◌, refl, ◌∙◌, codes, flat_map}
use Rattle.std.specs.List.{enumerate_from}
use Rattle.log_text.specs.LogText.{link_line, end_line, missed_line}
use Rattle.game_log.proofs.Writing.{gathers_both, part_first, part_second, whole_both, refused}
use Rattle.game_log.proofs.head_part.write_served.Goals as goal

pub returns-in_err-add : goal.returns-in_err-add
returns-in_err-add g c =
    let links = flat_map link_line (enumerate_from 0 c.args.verdicts.now) in
    let ends = flat_map end_line c.args.ends.now in
    let missed = missed_line c.args.missed in
    let first = codes "serve\n" in
    refused (first ++ links ++ ends ++ missed) _ _ _ _ c.from_residual.result
    (part_first (first ++ links ++ ends) missed _ _ _ (part_first (first ++ links) ends _ _ _ (part_first first links _ _ _ c.in_err-add.ensures)))
    c.from_residual.ensures.0

pub returns-in_err-write_links : goal.returns-in_err-write_links
returns-in_err-write_links g c =
    let links = flat_map link_line (enumerate_from 0 c.args.verdicts.now) in
    let ends = flat_map end_line c.args.ends.now in
    let missed = missed_line c.args.missed in
    let first = codes "serve\n" in
    refused (first ++ links ++ ends ++ missed) _ _ _ _ c.from_residual-in_err-write_links.result
    (part_first (first ++ links ++ ends) missed _ _ _ (part_first (first ++ links) ends _ _ _ (part_second first links _ _ _ _ _ c.in_ok-add.ensures c.in_err-write_links.ensures)))
    c.from_residual-in_err-write_links.ensures.0

pub returns-in_err-write_ends : goal.returns-in_err-write_ends
returns-in_err-write_ends g c =
    let links = flat_map link_line (enumerate_from 0 c.args.verdicts.now) in
    let ends = flat_map end_line c.args.ends.now in
    let missed = missed_line c.args.missed in
    let first = codes "serve\n" in
    let linked = whole_both first links _ _ _ _ _ _ c.in_ok-add.ensures c.in_ok-write_links.ensures in
    refused (first ++ links ++ ends ++ missed) _ _ _ _ c.from_residual-in_err-write_ends.result
    (part_first (first ++ links ++ ends) missed _ _ _ (part_second (first ++ links) ends _ _ _ _ _ linked c.in_err-write_ends.ensures))
    c.from_residual-in_err-write_ends.ensures.0

pub returns : goal.returns
returns g c =
    let links = flat_map link_line (enumerate_from 0 c.args.verdicts.now) in
    let ends = flat_map end_line c.args.ends.now in
    let missed = missed_line c.args.missed in
    let first = codes "serve\n" in
    let linked = whole_both first links _ _ _ _ _ _ c.in_ok-add.ensures c.in_ok-write_links.ensures in
    let ended = whole_both (first ++ links) ends _ _ _ _ _ _ linked c.in_ok-write_ends.ensures in
    gathers_both _ _ (first ++ links ++ ends) missed _ _ _ _ _ _ c.add-2.result refl (c.as_slice.ensures.value ∙ c.missed_line.ensures) ended c.add-2.ensures
