use Rattle.std.proofs.Common.{◌∙◌, ap, sym, drop, length, min}
use Rattle.tac_io.specs.declared.memory.files.MemFile.{MemFile}
use Rattle.tac_io.proofs.FilesInMemory.{file_left-given}
use Rattle.tac_io.proofs.memory.files.give_from.Goals as goal

pub returns-clause-given : goal.returns-clause-given
returns-clause-given c =
    let bytes = c.as_slice-bytes.ensures.value ∙ ap (λ (file : MemFile). file.bytes.items) (sym c.index-files-place.is) in
    file_left-given c.args.files.now c.args.place c.args.at.now c.min-start.result c.give-count.result c.index-files-place.result _ _ c.requires.within c.index-files-place.is
    (c.min-start.ensures ∙ ap (λ list. min c.args.at.now (length list)) bytes)
    (c.split_at.ensures.back ∙ ap (λ list. drop c.min-start.result list) bytes)
    c.give-count.ensures.given
