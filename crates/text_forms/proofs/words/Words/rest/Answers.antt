use Rattle.std.proofs.Common.{◌≡◌, ℕ, List, [], Option, Some, None, sym, ap, ◌∙◌, Bor, option_map, MatchOption}
use Rattle.std.specs.List.{join_with_byte}
use Rattle.std.proofs.lemmas.List.Splits.{join_with_byte-slice_split}
use Rattle.text_forms.specs.Words.{words_of, words_left}
use Rattle.text_forms.proofs.words.Words.rest.Goals as goal

-- the bytes that are left are the words, joined
rest_is : (rest : Option (Bor (List ℕ))) (words : List (List ℕ)) → words_left (option_map (λ r. r.now) rest) ≡ words
    → MatchOption rest (words ≡ []) (λ line. (words ≡ words_of line.now) × (line.now ≡ join_with_byte 32 words))
rest_is None words h = sym h
rest_is (Some line) words h = (sym h, sym (join_with_byte-slice_split 32 line.now) ∙ ap (join_with_byte 32) h)

pub returns : goal.returns
returns c = rest_is c.self.inside.rest c.args.self c.self.view_is
