-- What is known, piece by piece.
use Rattle.std.proofs.Common.{subst, ◌≡◌, ℕ, ◌+◌, List, ◌++◌, take, drop, [], refl, ap, sym, ◌∙◌, append_assoc, append-nil, take-add, None, Some, Option}
use Rattle.tac_io.specs.{GaveBytes, LastReadFails, LastWriteFails, NoReadFails, NoWriteFails, ReadsNothing, SendsNothing, LinkState, Rose, failed_at, known_then, then_known}

pub known_then-nothing : {A : Type 0} (known : Option (List A)) → known_then known [] ≡ known
known_then-nothing None = refl
known_then-nothing (Some xs) = ap (λ l. Some l) (append-nil xs)

pub then_known-nothing : {A : Type 0} (known : Option (List A)) → then_known [] known ≡ known
then_known-nothing None = refl
then_known-nothing (Some xs) = refl

pub known_then-twice : {A : Type 0} (known : Option (List A)) (xs ys : List A) → known_then (known_then known xs) ys ≡ known_then known (xs ++ ys)
known_then-twice None xs ys = refl
known_then-twice (Some zs) xs ys = ap (λ l. Some l) (append_assoc zs xs ys)

pub then_known-twice : {A : Type 0} (known : Option (List A)) (xs ys : List A) → then_known xs (then_known ys known) ≡ then_known (xs ++ ys) known
then_known-twice None xs ys = refl
then_known-twice (Some zs) xs ys = ap (λ l. Some l) (sym (append_assoc xs ys zs))

-- the first d bytes, and then n more, are the first d + n
pub known_then-take : (old between new : Option (List ℕ)) (bytes : List ℕ) (d n : ℕ) → between ≡ known_then old (take d bytes) → new ≡ known_then between (take n (drop d bytes)) → new ≡ known_then old (take (d + n) bytes)
known_then-take old between new bytes d n e f =
    f ∙ ap (λ known. known_then known (take n (drop d bytes))) e
    ∙ known_then-twice old (take d bytes) (take n (drop d bytes))
    ∙ ap (known_then old) (sym (take-add d n bytes))

-- a link that gave no byte
pub gave_nothing : (before after : LinkState) → after.taken ≡ before.taken → after.left ≡ before.left → GaveBytes [] before after
gave_nothing before after taken left = (taken ∙ sym (known_then-nothing before.taken), sym (then_known-nothing after.left ∙ left))

-- what a link gave, and then what it gave after that
pub gave_twice : (before now after : LinkState) (xs ys : List ℕ) → GaveBytes xs before now → GaveBytes ys now after → GaveBytes (xs ++ ys) before after
gave_twice before now after xs ys one two = (
  two.0 ∙ ap (λ known. known_then known ys) one.0 ∙ known_then-twice before.taken xs ys,
  one.1 ∙ ap (then_known xs) two.1 ∙ then_known-twice after.left xs ys,
)

-- ---- no call failed, and then none or the last one

pub no_read_fails_twice : (before now after : LinkState) → NoReadFails before now → NoReadFails now after → NoReadFails before after
no_read_fails_twice before now after one two = (two.0 ∙ one.0, two.1 ∙ one.1)

pub no_write_fails_twice : (before now after : LinkState) → NoWriteFails before now → NoWriteFails now after → NoWriteFails before after
no_write_fails_twice before now after one two = (two.0 ∙ one.0, two.1 ∙ one.1)

pub last_read_fails_then : (before now after : LinkState) → NoReadFails before now → LastReadFails now after → LastReadFails before after
last_read_fails_then before now after one two = (subst (λ n. Rose n after.reads) one.0 two.0, two.1 ∙ ap (failed_at after.taken) one.1)

pub last_write_fails_then : (before now after : LinkState) → NoWriteFails before now → LastWriteFails now after → LastWriteFails before after
last_write_fails_then before now after one two = (subst (λ n. Rose n after.writes) one.0 two.0, two.1 ∙ ap (failed_at after.sent) one.1)

pub read_nothing_twice : (before now after : LinkState) → ReadsNothing before now → ReadsNothing now after → ReadsNothing before after
read_nothing_twice before now after one two = (two.0 ∙ one.0, two.1 ∙ one.1, no_read_fails_twice before now after one.2 two.2)

-- the last read failed, and nothing was read after it
pub last_read_fails_still : (before now after : LinkState) → LastReadFails before now → ReadsNothing now after → LastReadFails before after
last_read_fails_still before now after one two = (subst (λ n. Rose before.reads n) (sym two.2.0) one.0, two.2.1 ∙ one.1 ∙ ap (λ taken. failed_at taken before.read_failures) (sym two.0))

pub send_nothing_twice : (before now after : LinkState) → SendsNothing before now → SendsNothing now after → SendsNothing before after
send_nothing_twice before now after one two = (two.0 ∙ one.0, no_write_fails_twice before now after one.1 two.1)
