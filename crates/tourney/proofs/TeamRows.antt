-- The rows of the teams.
use Rattle.std.proofs.Common.{◌≡◌, ℕ, ◌+◌, ◌<◌, List, [], ◌∷◌, ◌++◌, Bool, length, map, count_by, get_or, slice_get, Option, Some, None, refl, sym, ap, ◌∙◌, subst, arith, inl, inr, length-append, cond, option_map}
use Rattle.std.specs.Map.{values_of}
use Rattle.std.proofs.lemmas.Bool.{cases_lt}
use Rattle.std.proofs.lemmas.List.{length-map}
use Rattle.std.proofs.lemmas.List.Sums.{sum_by-cons}
use Rattle.std.proofs.lemmas.Option.{slice_get-map, slice_get_within, get_or_from_slice_get, slice_get-get_or}
use Rattle.std.proofs.Math.ListN.{get_or-append}
use Rattle.std.proofs.Math.Seq.{get_or-append_seam}
use Rattle.tourney.specs.{GameFile, LoggedGame, IsRow, AreRows, Kept, AreStandingsOf, tally_of, tallies_of, is_over, rank_in, IsRowAt, AreRowsBelow}
use Rattle.tourney.specs.declared.tallies.Tally.{Tally}
use Rattle.tourney.specs.declared.rows.TeamRow.{TeamRow}
use Rattle.tourney.specs.Standings.{results, teams, rank}

abbrev Entries : Type 0
Entries = List (List ℕ × Tally)

-- one row more
pub rows_more : (es : Entries) (place : ℕ) (old new : List TeamRow) (row : TeamRow) → AreRowsBelow es place old → IsRowAt es place row → new ≡ old ++ row ∷ [] → AreRowsBelow es (place + 1) new
rows_more es place old new row are is e = record {
  count = ap (λ (xs : List TeamRow). length xs) e ∙ length-append old (row ∷ []) ∙ ap (λ (n : ℕ). n + 1) are.count;
  each = λ k r at.
      let inside : k < length new = slice_get_within new k r at in
      let size : length new ≡ place + 1 = ap (λ (xs : List TeamRow). length xs) e ∙ length-append old (row ∷ []) ∙ ap (λ (n : ℕ). n + 1) are.count in
      let found : get_or new k r ≡ r = get_or_from_slice_get new k r r at in
      elim (cases_lt k place) [
        | inl below ↦
            let short : k < length old = omega (arith, below, are.count) in
            let same : get_or new k r ≡ get_or old k r = ap (λ (xs : List TeamRow). get_or xs k r) e ∙ get_or-append old (row ∷ []) r k short in
            are.each k r (slice_get-get_or old k r short ∙ ap (λ (x : TeamRow). Some x) (sym same ∙ found))
        | inr past ↦
            let last : k ≡ length old = omega (arith, past, inside, size, are.count) in
            let same : get_or new k r ≡ row = ap (λ (xs : List TeamRow). get_or xs k r) e ∙ ap (λ (n : ℕ). get_or (old ++ row ∷ []) n r) last ∙ get_or-append_seam old row [] r in
            let here : k ≡ place = last ∙ are.count in
            subst (λ (n : ℕ). IsRowAt es n r) (sym here) (subst (IsRowAt es place) (sym same ∙ found) is)
      ];
}

-- ---- of games

abbrev word_first : Entries → List (List ℕ)
word_first es = map (λ (e : List ℕ × Tally). e.0) es

values_are : (f : List ℕ → Tally) (words : List (List ℕ)) → values_of (map (λ word. (word, f word)) words) ≡ map f words
values_are f [] = refl
values_are f (word ∷ words) = ap (λ (ts : List Tally). f word ∷ ts) (values_are f words)

words_are : (f : List ℕ → Tally) (words : List (List ℕ)) → word_first (map (λ word. (word, f word)) words) ≡ words
words_are f [] = refl
words_are f (word ∷ words) = ap (λ (ws : List (List ℕ)). word ∷ ws) (words_are f words)

count_mapped : (test : Tally → Bool) (f : List ℕ → Tally) (words : List (List ℕ)) → count_by test (map f words) ≡ count_by (λ word. test (f word)) words
count_mapped test f [] = refl
count_mapped test f (word ∷ words) =
    sum_by-cons (λ (t : Tally). cond (test t) 1 0) (f word) (map f words) ∙ ap (λ (n : ℕ). cond (test (f word)) 1 0 + n) (count_mapped test f words)
    ∙ sym (sum_by-cons (λ (w : List ℕ). cond (test (f w)) 1 0) word words)

-- the tally at a place is that of the team there
tally_there : (f : List ℕ → Tally) (words : List (List ℕ)) (place : ℕ) (t : Tally) → slice_get (map f words) place ≡ Some t → f (get_or words place []) ≡ t
tally_there f words place t at = by (slice_get words place) refl (sym (slice_get-map f words place) ∙ at)
  where
    by : (o : Option (List ℕ)) → slice_get words place ≡ o → option_map f o ≡ Some t → f (get_or words place []) ≡ t
    by None e h = absurd cc
    by (Some word) e h =
        let there : get_or words place [] ≡ word = get_or_from_slice_get words place word [] e in
        let same : Some (f word) ≡ Some t = h in
        ap f there ∙ cc

row_is : (played : List (GameFile × LoggedGame)) (es : Entries) (place : ℕ) (row : TeamRow) → es ≡ tallies_of (results played) → IsRowAt es place row → IsRow played place (get_or (teams played) place []) row
row_is played es place row e is =
    let f : List ℕ → Tally = tally_of (results played) in
    let word = get_or (teams played) place [] in
    let all : values_of es ≡ map f (teams played) = ap (λ (xs : Entries). values_of xs) e ∙ values_are f (teams played) in
    let tally : Tally = record { games = row.games; total = row.total } in
    let mine : f word ≡ tally = tally_there f (teams played) place tally (sym (ap (λ (ts : List Tally). slice_get ts place) all) ∙ is.tally) in
    let ranked : rank_in es tally ≡ rank played word =
    ap (λ (ts : List Tally). 1 + count_by (is_over tally) ts) all ∙ ap (λ (n : ℕ). 1 + n) (count_mapped (is_over tally) f (teams played))
    ∙ ap (λ (t : Tally). 1 + count_by (λ other. is_over t (f other)) (teams played)) (sym mine) in
    record {
      team = is.team;
      games = sym (ap (λ (t : Tally). t.games) mine);
      total = sym (ap (λ (t : Tally). t.total) mine);
      average = is.average;
      rank = is.rank ∙ ranked;
    }

pub rows_are : (kept : Kept) (played : List (GameFile × LoggedGame)) (rows : List TeamRow) → AreStandingsOf kept played → AreRowsBelow kept.tallies (length kept.tallies) rows → AreRows played rows
rows_are kept played rows stands are = record {
  count = are.count ∙ ap (λ (es : Entries). length es) stands.tallies ∙ length-map (teams played) (λ (word : List ℕ). (word, tally_of (results played) word));
  each = λ place row at. row_is played kept.tallies place row stands.tallies (are.each place row at);
}
