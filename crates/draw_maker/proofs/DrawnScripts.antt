-- A script, request by request.
use Rattle.std.proofs.Common.{◌≡◌, ℕ, ◌+◌, ◌*◌, List, [], ◌∷◌, ◌++◌, refl, sym, ap, ◌∙◌, arith, flat_map, map-id}
use Rattle.std.specs.List.{range_with_len}
use Rattle.std.proofs.lemmas.List.{flat_map_more}
use Rattle.std.proofs.lemmas.List.Concat.{flat_map-append}
use Rattle.std.proofs.lemmas.List.FromFn.{map-range_with_len_more}
use Rattle.rand_pcg.specs.Lcg.{Lcg}
use Rattle.text_forms.specs.Lines.{text_of}
use Rattle.draw_maker.specs.Words.{generator, next_words, after}
use Rattle.draw_maker.specs.Scripts.{made_lines, request_draws, made_script}
use Rattle.draw_maker.proofs.DrawnWords.{after-add}

range_more : (n : ℕ) → range_with_len 0 (n + 1) ≡ range_with_len 0 n ++ n ∷ []
range_more n =
    sym (map-id (range_with_len 0 (n + 1)))
    ∙ map-range_with_len_more (λ (k : ℕ). k) 0 n n (omega arith)
    ∙ ap (λ (ks : List ℕ). ks ++ n ∷ []) (map-id (range_with_len 0 n))

-- what is made of each of the first numbers
pub numbers_more : {A : Type 0} (made : ℕ → List A) (n : ℕ) → flat_map made (range_with_len 0 (n + 1)) ≡ flat_map made (range_with_len 0 n) ++ made n
numbers_more made n = ap (flat_map made) (range_more n) ∙ sym (flat_map_more made [] (range_with_len 0 n) n)

-- the text of the first requests of a script
abbrev pub first_requests : ℕ → ℕ → ℕ → List ℕ
first_requests seed count n = text_of (flat_map (λ i. made_lines count i (request_draws seed i)) (range_with_len 0 n))

requests_more : (seed count n : ℕ) → first_requests seed count (n + 1) ≡ first_requests seed count n ++ text_of (made_lines count n (request_draws seed n))
requests_more seed count n =
    ap text_of (numbers_more (λ i. made_lines count i (request_draws seed i)) n)
    ∙ flat_map-append (λ (line : List ℕ). line ++ 10 ∷ []) (flat_map (λ i. made_lines count i (request_draws seed i)) (range_with_len 0 n)) (made_lines count n (request_draws seed n))

pub request_more : (seed count n : ℕ) (old : Lcg) (words text new : List ℕ) → old ≡ after (5 * n) (generator seed 55) → words ≡ next_words 5 old → text ≡ first_requests seed count n → new ≡ text ++ text_of (made_lines count n words)
    → new ≡ first_requests seed count (n + 1)
request_more seed count n old words text new old-is words-are text-is new-is =
    new-is
    ∙ ap (λ (t : List ℕ). t ++ text_of (made_lines count n words)) text-is
    ∙ ap (λ (ws : List ℕ). first_requests seed count n ++ text_of (made_lines count n ws)) (words-are ∙ ap (λ (w : Lcg). next_words 5 w) old-is)
    ∙ sym (requests_more seed count n)

five_more : (n : ℕ) → 5 * n + 5 ≡ 5 * (n + 1)
five_more n = omega arith

pub request_left : (n : ℕ) (start old new : Lcg) → old ≡ after (5 * n) start → new ≡ after 5 old → new ≡ after (5 * (n + 1)) start
request_left n start old new old-is new-is =
    new-is ∙ ap (λ (w : Lcg). after 5 w) old-is ∙ sym (after-add (5 * n) 5 start) ∙ ap (λ (k : ℕ). after k start) (five_more n)

pub none_drawn : (start : Lcg) → start ≡ after (5 * 0) start
unfolding after
none_drawn start = refl

pub script_is : (seed count n : ℕ) (text : List ℕ) → n ≡ count → text ≡ first_requests seed count n → text ≡ made_script seed count
unfolding made_script
script_is seed count n text all text-is = text-is ∙ ap (first_requests seed count) all
