-- Files in memory: which is found, and what is left of it.
use Rattle.std.proofs.Common.{◌≡◌, ℕ, ◌<◌, ◌≤◌, ◌+◌, ◌++◌, List, [], ◌∷◌, Bool, length, drop, min, get_or, ap, sym, ◌∙◌, refl, true, false, cond, None, Some, position, slice_get, nat_lt, option_map, ltb-false, drop-drop}
use Rattle.std.specs.List.{position_or_len}
use Rattle.std.specs.Option.{option_map_or}
use Rattle.std.proofs.lemmas.Option.{slice_get_read, slice_get_past, slice_get-get_or}
use Rattle.std.proofs.lemmas.List.{drop_min}
use Rattle.std.proofs.lemmas.List.Folds.{find_at}
use Rattle.std.proofs.lemmas.List.Quantifiers.{position-Some}
use Rattle.tac_io.specs.declared.memory.files.MemFile.{MemFile}
use Rattle.tac_io.specs.FileList.{content_of, file_left, is_named}

abbrev bytes_of : MemFile → List ℕ
bytes_of file = file.bytes.items

some_is : (b : Bool) (k i : ℕ) → cond b (Some k) None ≡ Some i → k ≡ i
some_is true k i h = cc
some_is false k i h = absurd (cc)

none_is : (b : Bool) (k n : ℕ) → (b ≡ false → n ≤ k) → cond b (Some k) None ≡ None → n ≤ k
none_is true k n past h = absurd (cc)
none_is false k n past h = past refl

-- a found file has its bytes at its place
pub content_of-Some : (files : List MemFile) (name : List ℕ) (i : ℕ) → position (is_named name) files ≡ Some i → (i < length files) × (content_of files name ≡ Some (file_left files i 0))
content_of-Some [] name i h = absurd (cc)
content_of-Some (file ∷ files) name i h =
    let all : List MemFile = file ∷ files in
    let within : i < length all = (position-Some (is_named name) all i file h).0 in
    let at : slice_get all i ≡ Some (get_or all i file) = slice_get-get_or all i file within in
    let place : position_or_len (is_named name) all ≡ i = some_is (nat_lt (position_or_len (is_named name) all) (length all)) (position_or_len (is_named name) all) i h in (
      within,
      ap (option_map bytes_of) (find_at (is_named name) all ∙ ap (slice_get all) place ∙ at)
          ∙ ap (λ o. Some (drop 0 (option_map_or bytes_of o []))) (sym at),
    )

pub content_of-None : (files : List MemFile) (name : List ℕ) → position (is_named name) files ≡ None → content_of files name ≡ None
content_of-None files name h =
    ap (option_map bytes_of) (find_at (is_named name) files
    ∙ slice_get_past files (position_or_len (is_named name) files) (none_is (nat_lt (position_or_len (is_named name) files) (length files)) _ _ (ltb-false _ _) h))

-- what is left of a file that was read from the list
file_left-read : (files : List MemFile) (i at : ℕ) (file : MemFile) → i < length files → file ≡ get_or files i file → file_left files i at ≡ drop at file.bytes.items
file_left-read files i at file lt is =
    ap (λ o. drop at (option_map_or bytes_of o [])) (slice_get_read files (length files) i file refl lt is)

-- A read gives the front of what is left, and what is left then begins behind it.
pub file_left-given : (files : List MemFile) (i at start count : ℕ) (file : MemFile) (left given : List ℕ) → i < length files → file ≡ get_or files i file → start ≡ min at (length file.bytes.items)
    → left ≡ drop start file.bytes.items → left ≡ given ++ drop count left → file_left files i at ≡ given ++ file_left files i (start + count)
file_left-given files i at start count file left given lt is cut from h =
    file_left-read files i at file lt is
    ∙ sym (drop_min at file.bytes.items) ∙ ap (λ n. drop n file.bytes.items) (sym cut) ∙ sym from ∙ h
    ∙ ap (λ rest. given ++ drop count rest) from
    ∙ ap (λ rest. given ++ rest) (drop-drop count start file.bytes.items ∙ sym (file_left-read files i (start + count) file lt is))
