-- Texts that are gathered one after another.
use Rattle.std.proofs.Common.{◌≡◌, refl, ℕ, ◌+◌, ◌<◌, ◌≤◌, List, [], ◌∷◌, ◌++◌, length, take, drop, get_or, ap, sym, subst, ◌∙◌, append_assoc, arith, Result, Ok, Err, inl, inr, length-append, take_all, take-append-drop, append-nil, Some, slice_get, IsErr, flat_map, Option}
use Rattle.std.proofs.Math.Seq.{take-append-add}
use Rattle.std.proofs.lemmas.List.{take-append-le, take_more}
use Rattle.std.proofs.lemmas.List.Concat.{flat_map-cons}
use Rattle.std.proofs.lemmas.Grind.{flat_map-append}
use Rattle.std.proofs.lemmas.Option.{slice_get_cases}
use Rattle.tac_io.specs.Counts.{Rose}
use Rattle.game_log.specs.Prelude.{SinkState, Failed, TookWhole, TookPart, WritesPiece}
use Rattle.tac_io.specs.Known.{known_then, failed_at, TakesSome}
use Rattle.tac_io.proofs.KnownPieces.{known_then-twice}
use Rattle.game_log.specs.Gathering.{GathersWhole, GathersPart, Gathers}

pub wrote_both : (t0 t1 t2 : Option (List ℕ)) (p q : List ℕ) → t1 ≡ known_then t0 p → t2 ≡ known_then t1 q → t2 ≡ known_then t0 (p ++ q)
wrote_both t0 t1 t2 p q e f = f ∙ ap (λ (t : Option (List ℕ)). known_then t q) e ∙ known_then-twice t0 p q

-- a proper prefix of a piece is one of what the piece begins
pub some_before : (t0 t1 : Option (List ℕ)) (p q : List ℕ) → TakesSome t0 t1 p → TakesSome t0 t1 (p ++ q)
some_before t0 t1 p q s =
    let proper = s.proper in
    let within : s.count ≤ length p = omega (arith, proper) in
    record {
      count = s.count;
      proper = omega (arith, proper, length-append p q);
      taken = s.taken ∙ ap (known_then t0) (sym (take-append-le s.count p q within));
    }

-- a proper prefix of a piece after a whole one is one of both together
pub some_after : (t0 t1 t2 : Option (List ℕ)) (p q : List ℕ) → t1 ≡ known_then t0 p → TakesSome t1 t2 q → TakesSome t0 t2 (p ++ q)
some_after t0 t1 t2 p q e s =
    let proper = s.proper in
    record {
      count = length p + s.count;
      proper = omega (arith, proper, length-append p q);
      taken = wrote_both t0 t1 t2 p (take s.count q) e s.taken ∙ ap (known_then t0) (sym (take-append-add p q s.count));
    }

rose_from : (f0 f1 f2 : ℕ) → f1 ≡ f0 → Rose f1 f2 → Rose f0 f2
rose_from f0 f1 f2 e r = rw e at r

-- where the one write failed, if none failed before
failed_from : (s0 s1 s2 : SinkState) → s1.failures ≡ s0.failures → s2.failures ≡ failed_at s2.taken s1.failures → s2.failures ≡ failed_at s2.taken s0.failures
failed_from s0 s1 s2 same failed = failed ∙ ap (failed_at s2.taken) same

-- two pieces, of which the first was written whole
pub writes_both : (a b p q : List ℕ) (s0 s1 s2 : SinkState) (r : Result (Unit {0}) Failed) → a ≡ p → b ≡ q → TookWhole s0 s1 a → WritesPiece b s1 s2 r → WritesPiece (p ++ q) s0 s2 r
writes_both a b p q s0 s1 s2 (Ok done) pa qb v w =
    (wrote_both s0.taken s1.taken s2.taken p q (v.0 ∙ ap (known_then s0.taken) pa) (w.0 ∙ ap (known_then s1.taken) qb), w.1 ∙ v.1, w.2 ∙ v.2)
writes_both a b p q s0 s1 s2 (Err failed) pa qb v w =
    (some_after s0.taken s1.taken s2.taken p q (v.0 ∙ ap (known_then s0.taken) pa) (subst (TakesSome s1.taken s2.taken) qb w.0), rose_from s0.faults s1.faults s2.faults v.1 w.1, failed_from s0 s1 s2 v.2 w.2)

-- two pieces, of which the first was not written whole
pub fails_both : (a p q : List ℕ) (s0 s1 : SinkState) → a ≡ p → TookPart s0 s1 a → TookPart s0 s1 (p ++ q)
fails_both a p q s0 s1 pa w = (some_before s0.taken s1.taken p q (subst (TakesSome s0.taken s1.taken) pa w.0), w.1, w.2)

pub then_whole : (p q : List ℕ) (s0 s1 s2 : SinkState) → TookWhole s0 s1 p → TookWhole s1 s2 q → TookWhole s0 s2 (p ++ q)
then_whole p q s0 s1 s2 v w = (wrote_both s0.taken s1.taken s2.taken p q v.0 w.0, w.1 ∙ v.1, w.2 ∙ v.2)

pub then_some : (p q : List ℕ) (s0 s1 s2 : SinkState) → TookWhole s0 s1 p → TookPart s1 s2 q → TookPart s0 s2 (p ++ q)
then_some p q s0 s1 s2 v w = (some_after s0.taken s1.taken s2.taken p q v.0 w.0, rose_from s0.faults s1.faults s2.faults v.1 w.1, failed_from s0 s1 s2 v.2 w.2)

-- ---- texts that are gathered

joined : (held p written between q more held' : List ℕ) → held ++ p ≡ written ++ between → between ++ q ≡ more ++ held' → held ++ (p ++ q) ≡ (written ++ more) ++ held'
joined held p written between q more held' e f =
    sym (append_assoc held p q) ∙ ap (λ (t : List ℕ). t ++ q) e ∙ append_assoc written between q ∙ ap (λ (t : List ℕ). written ++ t) f ∙ sym (append_assoc written more held')

pub whole_both : (p q h0 h1 h2 : List ℕ) (s0 s1 s2 : SinkState) → GathersWhole p h0 h1 s0 s1 → GathersWhole q h1 h2 s1 s2 → GathersWhole (p ++ q) h0 h2 s0 s2
whole_both p q h0 h1 h2 s0 s1 s2 v w = record {
  written = v.written ++ w.written;
  split = joined h0 p v.written h1 q w.written h2 v.split w.split;
  took = then_whole v.written w.written s0 s1 s2 v.took w.took;
}

pub part_second : (p q h0 h1 : List ℕ) (s0 s1 s2 : SinkState) → GathersWhole p h0 h1 s0 s1 → GathersPart q h1 s1 s2 → GathersPart (p ++ q) h0 s0 s2
part_second p q h0 h1 s0 s1 s2 v w = record {
  written = v.written ++ w.written;
  rest = w.rest;
  split = joined h0 p v.written h1 q w.written w.rest v.split w.split;
  took = then_some v.written w.written s0 s1 s2 v.took w.took;
}

pub part_first : (p q h0 : List ℕ) (s0 s1 : SinkState) → GathersPart p h0 s0 s1 → GathersPart (p ++ q) h0 s0 s1
part_first p q h0 s0 s1 w = record {
  written = w.written;
  rest = w.rest ++ q;
  split = sym (append_assoc h0 p q) ∙ ap (λ (t : List ℕ). t ++ q) w.split ∙ append_assoc w.written w.rest q;
  took = w.took;
}

-- two texts, of which the first was gathered whole
pub gathers_both : (a b p q h0 h1 h2 : List ℕ) (s0 s1 s2 : SinkState) (r : Result (Unit {0}) Failed) → a ≡ p → b ≡ q → GathersWhole a h0 h1 s0 s1 → Gathers b h1 h2 s1 s2 r → Gathers (p ++ q) h0 h2 s0 s2 r
gathers_both a b p q h0 h1 h2 s0 s1 s2 (Ok done) pa qb v w =
    whole_both p q h0 h1 h2 s0 s1 s2 (subst (λ (t : List ℕ). GathersWhole t h0 h1 s0 s1) pa v) (subst (λ (t : List ℕ). GathersWhole t h1 h2 s1 s2) qb w)
gathers_both a b p q h0 h1 h2 s0 s1 s2 (Err failed) pa qb v w =
    part_second p q h0 h1 s0 s1 s2 (subst (λ (t : List ℕ). GathersWhole t h0 h1 s0 s1) pa v) (subst (λ (t : List ℕ). GathersPart t h1 s1 s2) qb w)

-- two texts, of which the first was not gathered whole
pub gathers_part : (a p q h0 : List ℕ) (s0 s1 : SinkState) → a ≡ p → GathersPart a h0 s0 s1 → GathersPart (p ++ q) h0 s0 s1
gathers_part a p q h0 s0 s1 pa w = part_first p q h0 s0 s1 (subst (λ (t : List ℕ). GathersPart t h0 s0 s1) pa w)

-- an answer that is no success
pub refused : (p h0 h1 : List ℕ) (s0 s1 : SinkState) (r : Result (Unit {0}) Failed) → GathersPart p h0 s0 s1 → IsErr r → Gathers p h0 h1 s0 s1 r
refused p h0 h1 s0 s1 (Ok done) w h = absurd cc
refused p h0 h1 s0 s1 (Err failed) w h = w

-- ---- from no bytes held to none

-- what is held at last is written
pub writes_gathered : (text h0 held : List ℕ) (s0 s1 s2 : SinkState) (r : Result (Unit {0}) Failed) → h0 ≡ [] → GathersWhole text h0 held s0 s1 → WritesPiece held s1 s2 r → WritesPiece text s0 s2 r
writes_gathered text h0 held s0 s1 s2 r none v w =
    subst (λ (t : List ℕ). WritesPiece t s0 s2 r) (sym v.split ∙ ap (λ (t : List ℕ). t ++ text) none) (writes_both v.written held v.written held s0 s1 s2 r refl refl v.took w)

pub fails_gathered : (text h0 : List ℕ) (s0 s1 : SinkState) → h0 ≡ [] → GathersPart text h0 s0 s1 → TookPart s0 s1 text
fails_gathered text h0 s0 s1 none w =
    subst (TookPart s0 s1) (sym w.split ∙ ap (λ (t : List ℕ). t ++ text) none) (fails_both w.written w.written w.rest s0 s1 refl w.took)

-- ---- the pieces of a list

flat_map_one : {A : Type 0} (piece : A → List ℕ) (x : A) → flat_map piece (x ∷ []) ≡ piece x
flat_map_one piece x = flat_map-cons piece x [] ∙ append-nil (piece x)

-- the pieces up to an item are those before it and its own
pub pieces_more : {A : Type 0} (piece : A → List ℕ) (xs : List A) (i : ℕ) (d : A) → i < length xs → flat_map piece (take (i + 1) xs) ≡ flat_map piece (take i xs) ++ piece (get_or xs i d)
pieces_more piece xs i d lt =
    ap (flat_map piece) (take_more xs i d lt) ∙ flat_map-append piece (take i xs) (get_or xs i d ∷ []) ∙ ap (λ (t : List ℕ). flat_map piece (take i xs) ++ t) (flat_map_one piece (get_or xs i d))

-- all pieces are those before an item, its own, and those after it
pub pieces_all : {A : Type 0} (piece : A → List ℕ) (xs : List A) (i : ℕ) (d : A) → i < length xs → flat_map piece xs ≡ flat_map piece (take i xs) ++ (piece (get_or xs i d) ++ flat_map piece (drop (i + 1) xs))
pieces_all piece xs i d lt =
    sym (ap (flat_map piece) (take-append-drop (i + 1) xs)) ∙ flat_map-append piece (take (i + 1) xs) (drop (i + 1) xs)
    ∙ ap (λ (t : List ℕ). t ++ flat_map piece (drop (i + 1) xs)) (pieces_more piece xs i d lt)
    ∙ append_assoc (flat_map piece (take i xs)) (piece (get_or xs i d)) (flat_map piece (drop (i + 1) xs))

-- ---- loops that gather a text for each item

-- the texts of the items before one
abbrev pub texts_before : {A : Type 0} → (A → List ℕ) → List A → ℕ → List ℕ
texts_before piece xs i = flat_map piece (take i xs)

-- one more text was gathered
pub gathered_next : {A : Type 0} (piece : A → List ℕ) (xs : List A) (i : ℕ) (x : A) (a h0 h1 h2 : List ℕ) (s0 s1 s2 : SinkState) → i < length xs → get_or xs i x ≡ x → a ≡ piece x → GathersWhole (texts_before piece xs i) h0 h1 s0 s1 → GathersWhole a h1 h2 s1 s2 → GathersWhole (texts_before piece xs (i + 1)) h0 h2 s0 s2
gathered_next {A = A} piece xs i x a h0 h1 h2 s0 s1 s2 lt is e before w =
    let all : flat_map piece (take (i + 1) xs) ≡ flat_map piece (take i xs) ++ a = pieces_more piece xs i x lt ∙ ap (λ (y : A). flat_map piece (take i xs) ++ piece y) is ∙ ap (λ (t : List ℕ). flat_map piece (take i xs) ++ t) (sym e) in
    subst (λ (t : List ℕ). GathersWhole t h0 h2 s0 s2) (sym all) (whole_both (flat_map piece (take i xs)) a h0 h1 h2 s0 s1 s2 before w)

-- a text was not gathered whole, which is the loop's answer
pub failed_next : {A : Type 0} (piece : A → List ℕ) (xs : List A) (i : ℕ) (x : A) (a h0 h1 h2 : List ℕ) (s0 s1 s2 : SinkState) (r : Result (Unit {0}) Failed) → i < length xs → get_or xs i x ≡ x → a ≡ piece x → GathersWhole (texts_before piece xs i) h0 h1 s0 s1 → GathersPart a h1 s1 s2 → IsErr r → Gathers (flat_map piece xs) h0 h2 s0 s2 r
failed_next {A = A} piece xs i x a h0 h1 h2 s0 s1 s2 r lt is e before w h =
    let after = flat_map piece (drop (i + 1) xs) in
    let all : flat_map piece xs ≡ flat_map piece (take i xs) ++ (a ++ after) = pieces_all piece xs i x lt ∙ ap (λ (y : A). flat_map piece (take i xs) ++ (piece y ++ after)) is ∙ ap (λ (t : List ℕ). flat_map piece (take i xs) ++ (t ++ after)) (sym e) in
    refused (flat_map piece xs) h0 h2 s0 s2 r
    (subst (λ (t : List ℕ). GathersPart t h0 s0 s2) (sym all) (part_second (flat_map piece (take i xs)) (a ++ after) h0 h1 s0 s1 s2 before (part_first a after h1 s1 s2 w)))
    h

-- the texts of all items were gathered whole
pub gathered_all : {A : Type 0} (piece : A → List ℕ) (xs : List A) (i : ℕ) (h0 h1 : List ℕ) (s0 s1 : SinkState) → length xs ≤ i → GathersWhole (texts_before piece xs i) h0 h1 s0 s1 → GathersWhole (flat_map piece xs) h0 h1 s0 s1
gathered_all {A = A} piece xs i h0 h1 s0 s1 past w = subst (λ (ys : List A). GathersWhole (flat_map piece ys) h0 h1 s0 s1) (take_all i xs past) w

-- the item of a list at a place
pub item_at : {A : Type 0} (xs : List A) (i : ℕ) → i < length xs → (x : A) × (slice_get xs i ≡ Some x) × (get_or xs i x ≡ x)
item_at xs i lt = elim ((slice_get_cases xs i).1) [
  | inl found ↦ (found.0, found.2, found.3)
  | inr past ↦ absurd (omega (arith, lt, past.0))
]
