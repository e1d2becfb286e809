use Rattle.std.proofs.Common.{◌≡◌, refl, inl, inr, sym, ◌∙◌, ap, position, Some}
use Rattle.tac_io.specs.FileList.{is_named, content_of, file_left}
use Rattle.tac_io.proofs.FilesInMemory.{content_of-Some, content_of-None}
use Rattle.tac_io.proofs.memory.files.MemFilesFiles.select.Goals as goal

pub returns-in_default-clause-fails : goal.returns-in_default-clause-fails
returns-in_default-clause-fails c =
    let missing = ap (position (is_named c.args.name.now)) (sym c.deref.ensures.value) ∙ sym c.in_default.ensures in
    ((λ _. inr (content_of-None c.args.self.now.files.items c.args.name.now missing)), (λ _. refl))

pub returns-clause-found : goal.returns-clause-found
returns-clause-found c =
    let found = ap (position (is_named c.args.name.now)) (sym c.deref.ensures.value) ∙ sym c.in-Some.ensures in
    (content_of-Some c.args.self.now.files.items c.args.name.now c.in-Some.place found).1

pub returns-clause-fails : goal.returns-clause-fails
returns-clause-fails c =
    let found : content_of c.args.self.now.files.items c.args.name.now ≡ Some (file_left c.args.self.now.files.items c.in-Some.place 0) = returns-clause-found c in
    ((λ h. absurd (cc)), (λ h. elim h [ inl planned ↦ let due = c.next_fails.ensures.fails.1 planned in cc | inr none ↦ absurd (cc (found, none)) ]))
