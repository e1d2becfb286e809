-- Reading the head of a log, its cash history and a score, case by case.
use Rattle.std.proofs.Common.{◌≡◌, ℕ, Bool, List, Result, Ok, Err, ℤ, refl, codes}
use Rattle.log_reader.specs.{TEXT_BYTES, BadLine, Remaining, repeat, Package, Tree, Verdict, Cause, Head, Serve, is_text, read_link, read_end, read_missed, read_cash_line, cash_entry_of, read_score, package_of, line_by, as_long_as, is_served, served_in, head_by, head_in, cash_in, cert_in, score_in}

-- ---- links, ends and the ticks that were missed

abbrev pub links_in : Remaining → Result (List Verdict × Remaining) BadLine
links_in left = as_long_as (codes "link") (λ place. line_by (read_link place)) 255 0 left

abbrev pub ends_in : Remaining → Result (List (ℕ × Cause) × Remaining) BadLine
ends_in left = as_long_as (codes "end") (λ _. line_by read_end) TEXT_BYTES 0 left

pub no_links : (left : Remaining) (bad : BadLine) → links_in left ≡ Err bad → served_in left ≡ Err bad
no_links left bad h = rw h refl

module _ (left : Remaining) (links : List Verdict × Remaining) (linked : links_in left ≡ Ok links) where
  pub no_ends : (bad : BadLine) → ends_in links.1 ≡ Err bad → served_in left ≡ Err bad
  no_ends bad h = rw (linked, h) refl

  module _ (ends : List (ℕ × Cause) × Remaining) (ended : ends_in links.1 ≡ Ok ends) where
    pub no_missed : (bad : BadLine) → line_by read_missed ends.1 ≡ Err bad → served_in left ≡ Err bad
    no_missed bad h = rw (linked, ended, h) refl

    pub served_is : (missed : ℕ × Remaining) → line_by read_missed ends.1 ≡ Ok missed → served_in left ≡ Ok (Serve links.0 ends.0 missed.0, missed.1)
    served_is missed h = rw (linked, ended, h) refl

-- ---- the title, and how the game was played

pub no_title : (left : Remaining) (bad : BadLine) → line_by (is_text (codes "taclog 1")) left ≡ Err bad → head_in left ≡ Err bad
unfolding head_in
no_title left bad h = rw h refl

module _ (left : Remaining) (title : Unit {0} × Remaining) (titled : line_by (is_text (codes "taclog 1")) left ≡ Ok title) where
  pub no_kind : (bad : BadLine) → line_by is_served title.1 ≡ Err bad → head_in left ≡ Err bad
  unfolding head_in
  no_kind bad h = rw (titled, h) refl

  pub head_is : (kind : Bool × Remaining) (read : Result (Head × Remaining) BadLine) → line_by is_served title.1 ≡ Ok kind → head_by kind.0 kind.1 ≡ read → head_in left ≡ read
  unfolding head_in
  head_is kind read h e = rw (titled, h) e

-- ---- the cash history

pub no_cash : (left : Remaining) (bad : BadLine) → line_by read_cash_line left ≡ Err bad → cash_in left ≡ Err bad
unfolding cash_in
no_cash left bad h = rw h refl

pub cash_is : (left : Remaining) (count : ℕ × Remaining) → line_by read_cash_line left ≡ Ok count → cash_in left ≡ repeat count.0 0 (λ _. line_by cash_entry_of) count.1
unfolding cash_in
cash_is left count h = rw h refl

-- ---- a score

abbrev pub packages_in : ℕ → Remaining → Result (List Package × Remaining) BadLine
packages_in agent left = repeat 8 0 (λ client. line_by (package_of agent client)) left

pub no_score : (agent : ℕ) (left : Remaining) (bad : BadLine) → line_by (read_score agent) left ≡ Err bad → score_in agent left ≡ Err bad
unfolding score_in
no_score agent left bad h = rw h refl

module _ (agent : ℕ) (left : Remaining) (score : (ℕ × ℤ × ℕ × ℤ) × Remaining) (scored : line_by (read_score agent) left ≡ Ok score) where
  pub no_packages : (bad : BadLine) → packages_in agent score.1 ≡ Err bad → score_in agent left ≡ Err bad
  unfolding score_in
  no_packages bad h = rw (scored, h) refl

  module _ (packages : List Package × Remaining) (packed : packages_in agent score.1 ≡ Ok packages) where
    pub no_cert : (bad : BadLine) → cert_in agent packages.1 ≡ Err bad → score_in agent left ≡ Err bad
    unfolding score_in
    no_cert bad h = rw (scored, packed, h) refl

    pub score_is : (cert : Tree × Remaining) → cert_in agent packages.1 ≡ Ok cert →
        score_in agent left ≡ Ok (record { best = score.0.0; cash = score.0.1; short = score.0.2; score = score.0.3; allocation = packages.0; tree = cert.0 }, cert.1)
    unfolding score_in
    score_is cert h = rw (scored, packed, h) refl
