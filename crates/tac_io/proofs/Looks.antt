-- One look more.
use Rattle.std.proofs.Common.{ℕ, ◌+◌, ◌<◌, ◌++◌, ◌∷◌, [], ap, ◌∙◌}
use Rattle.std.proofs.lemmas.Fn.{FoldsTo-push}
use Rattle.std.proofs.lemmas.List.{length_push}
use Rattle.std.proofs.lemmas.List.Elements.{All-push}
use Rattle.tac_io.specs.Looks.{SawFewer}

pub saw_fewer : {C : Type 0} (shows : C → ℕ → C → Type 0) (before between after : C) (lines made n : ℕ) → SawFewer shows before between lines made → shows between n after → n < lines → SawFewer shows before after lines (made + 1)
saw_fewer shows before between after lines made n saw look few = record {
  seen = saw.seen ++ n ∷ [];
  looks = FoldsTo-push shows before saw.seen between n after saw.looks look;
  all = length_push saw.seen n ∙ ap (λ count. count + 1) saw.all;
  fewer = All-push (λ seen. seen < lines) saw.seen n saw.fewer few;
}
