-- Readers that go from line to line: the lines so far decide where they refuse, and wherever they refuse some lines would have been read.
use Rattle.std.proofs.Common.{◌≡◌, ℕ, ◌⊎◌, inl, inr, true, false, Bool, List, [], ◌∷◌, ◌++◌, Result, Ok, Err, map, refl, sym, ap, subst, ◌∙◌, append_assoc, append-nil}
use Rattle.std.specs.List.{AllByRecursion}
use Rattle.tac_base.proofs.Signed.{Lacks}
use Rattle.reading_laws.specs.Prelude.{NumberedLine, Remaining, is_comment, ◌>>=◌}

-- a line that may stand in a text, and that is never skipped
pub record IsPlain (line : List ℕ) : Type 0 where
  pub lacks : Lacks 10 line
  pub kept : is_comment line ≡ false

abbrev pub ArePlain : List (List ℕ) → Type 0
ArePlain lines = AllByRecursion IsPlain lines

-- lines before those that are left
abbrev pub onto : List NumberedLine → Remaining → Remaining
onto lines left = record left { lines = lines ++ left.lines }

-- no line is left, and the last had its end
abbrev pub ending : ℕ → Remaining
ending last = record { lines = []; last = last; ended = true }

abbrev pub bytes_of : List NumberedLine → List (List ℕ)
bytes_of lines = map (λ line. line.bytes) lines

abbrev pub Reader : Type 0 → Type 0 → Type 0
Reader A E = Remaining → Result A E

abbrev pub Step : Type 0 → Type 0 → Type 0
Step A E = Reader (A × Remaining) E

-- where nothing is looked at before it is read, and nothing is refused within what some lines begin with
abbrev pub any_line : List ℕ → Bool
any_line line = true

abbrev pub Never : {E : Type 0} → Remaining → E → List (List ℕ) → Type 0
Never left fault start = ⊥

-- IsAt: a fault is at a line. is_calm: a line is none that a step looks at to see whether it is to go on. In: the lines that are left are
-- refused so within what they begin with, while these lines would have been read there
module _ {E : Type 0} (IsAt : E → ℕ → Type 0) (is_calm : List ℕ → Bool) (In : Remaining → E → List (List ℕ) → Type 0) where
  -- the first of these is calm
  abbrev pub IsCalm : List (List ℕ) → Type 0
  IsCalm [] = Unit {0}
  IsCalm (line ∷ lines) = is_calm line ≡ true

  -- what follows some lines is calm where it stands first
  abbrev pub IsCalmAfter : List NumberedLine → List (List ℕ) → Type 0
  IsCalmAfter [] more = IsCalm more
  IsCalmAfter (line ∷ front) more = Unit {0}

  -- the next line is the same, or calm
  abbrev pub Follows : List NumberedLine → List NumberedLine → Type 0
  Follows old [] = Unit {0}
  Follows [] (line ∷ lines) = is_calm line.bytes ≡ true
  Follows (other ∷ others) (line ∷ lines) = (line ≡ other) ⊎ (is_calm line.bytes ≡ true)

  -- ---- a step that reads

  -- a step took these lines, and would have taken them whatever follows
  pub record Reads {A : Type 0} (step : Step A E) (left : Remaining) (x : A) (after : Remaining) : Type 0 where
    pub used : List NumberedLine
    pub split : left.lines ≡ used ++ after.lines
    pub rest : after ≡ record left { lines = after.lines }
    pub again : (other : Remaining) → Follows after.lines other.lines → step (onto used other) ≡ Ok (x, other)

  -- with these lines a step would read a value
  pub record Completes {A : Type 0} (step : Step A E) (front : List NumberedLine) (more : List (List ℕ)) : Type 0 where
    pub value : A
    pub plain : ArePlain more
    pub calm : IsCalmAfter front more
    pub reads : (lines : List NumberedLine) → bytes_of lines ≡ more → (other : Remaining) → IsCalm (bytes_of other.lines) → step (onto (front ++ lines) other) ≡ Ok (value, other)

  -- ---- a reader that refuses

  -- at a line, whatever follows
  pub record AtLine {A : Type 0} (read : Reader A E) (front : List NumberedLine) (left : Remaining) (fault : E) : Type 0 where
    pub line : NumberedLine
    pub lines : List NumberedLine
    pub split : left.lines ≡ front ++ line ∷ lines
    pub at : IsAt fault line.number
    pub again : (other : Remaining) → read (onto front (record other { lines = line ∷ other.lines })) ≡ Err fault

  -- at the end
  pub record AtEnd (front : List NumberedLine) (left : Remaining) (fault : E) : Type 0 where
    pub whole : left.lines ≡ front
    pub at : IsAt fault left.last

  -- within what the lines after these begin with, where the first of some more would have been read
  pub record Within (front : List NumberedLine) (more : List (List ℕ)) (left : Remaining) (fault : E) : Type 0 where
    pub lines : List NumberedLine
    pub split : left.lines ≡ front ++ lines
    pub start : List (List ℕ)
    pub others : List (List ℕ)
    pub more_is : more ≡ start ++ others
    pub refused : In (record left { lines = lines }) fault start

  pub record Refuses {A : Type 0} (read : Reader A E) (Goes : List NumberedLine → List (List ℕ) → Type 0) (left : Remaining) (fault : E) : Type 0 where
    pub front : List NumberedLine
    pub more : List (List ℕ)
    pub goes : Goes front more
    pub place : AtLine read front left fault ⊎ AtEnd front left fault ⊎ Within front more left fault

  abbrev pub Outcome : {A : Type 0} → Step A E → Remaining → Result (A × Remaining) E → Type 0
  Outcome step left (Ok x) = Reads step left x.0 x.1
  Outcome step left (Err fault) = Refuses step (Completes step) left fault

  pub record Steady {A : Type 0} (step : Step A E) : Type 0 where
    pub first : List (List ℕ)
    pub start : Completes step [] first
    pub outcome : (left : Remaining) → Outcome step left (step left)

  -- ---- lines and calm

  pub calm_append : (xs ys : List (List ℕ)) → IsCalm xs → IsCalm ys → IsCalm (xs ++ ys)
  calm_append [] ys h k = k
  calm_append (x ∷ xs) ys h k = h

  pub calm_lines : (lines others : List NumberedLine) → IsCalm (bytes_of lines) → IsCalm (bytes_of others) → IsCalm (bytes_of (lines ++ others))
  calm_lines [] others h k = k
  calm_lines (line ∷ lines) others h k = h

  follows_calm : (old new : List NumberedLine) → IsCalm (bytes_of new) → Follows old new
  follows_calm old [] h = tt
  follows_calm [] (line ∷ lines) h = h
  follows_calm (other ∷ others) (line ∷ lines) h = inr h

  follows_front : (front old lines others : List NumberedLine) (more : List (List ℕ)) → bytes_of lines ≡ more → IsCalmAfter front more → IsCalm (bytes_of others) → Follows (front ++ old) (front ++ (lines ++ others))
  follows_front [] old lines others more h calm k = follows_calm old (lines ++ others) (calm_lines lines others (subst IsCalm (sym h) calm) k)
  follows_front (line ∷ front) old lines others more h calm k = inl refl

  calm_after_append : (front : List NumberedLine) (xs ys : List (List ℕ)) → IsCalmAfter front xs → IsCalm ys → IsCalmAfter front (xs ++ ys)
  calm_after_append [] xs ys h k = calm_append xs ys h k
  calm_after_append (line ∷ front) xs ys h k = tt

  calm_after_more : (used front : List NumberedLine) (more : List (List ℕ)) → IsCalmAfter front more → IsCalmAfter (used ++ front) more
  calm_after_more [] front more h = h
  calm_after_more (line ∷ used) front more h = tt

  follows_same : (front : List NumberedLine) (line : NumberedLine) (old new : List NumberedLine) → Follows (front ++ line ∷ old) (front ++ line ∷ new)
  follows_same [] line old new = inl refl
  follows_same (first ∷ front) line old new = inl refl

  follows_after : (used old new : List NumberedLine) → Follows old new → Follows (used ++ old) (used ++ new)
  follows_after [] old new h = h
  follows_after (line ∷ used) old new h = inl refl

  -- ---- one step after another

  -- where a step refuses, so does what begins with it
  pub refuses_first : {A X : Type 0} (step : Step A E) (next : A → Reader X E) (Goes : List NumberedLine → List (List ℕ) → Type 0)
      → ((front : List NumberedLine) (more : List (List ℕ)) → Completes step front more → (others : List (List ℕ)) × Goes front (more ++ others))
      → (left : Remaining) (fault : E) → Refuses step (Completes step) left fault → Refuses (λ l. step l >>= λ x. next x.0 x.1) Goes left fault
  refuses_first {A} {X} step next Goes later left fault r =
      let l = later r.front r.more r.goes in
      let both = λ (rest : Remaining). step rest >>= λ x. next x.0 x.1 in
      record {
        front = r.front;
        more = r.more ++ l.0;
        goes = l.1;
        place = elim r.place as (λ _. AtLine both r.front left fault ⊎ AtEnd r.front left fault ⊎ Within r.front (r.more ++ l.0) left fault) [
          | inl a ↦ inl (record { line = a.line; lines = a.lines; split = a.split; at = a.at; again = λ other. rw (a.again other) refl })
          | inr p ↦ elim p as (λ _. AtLine both r.front left fault ⊎ AtEnd r.front left fault ⊎ Within r.front (r.more ++ l.0) left fault) [
            | inl a ↦ inr (inl a)
            | inr w ↦ inr (inr (record {
              lines = w.lines;
              split = w.split;
              start = w.start;
              others = w.others ++ l.0;
              more_is = ap (λ (ls : List (List ℕ)). ls ++ l.0) w.more_is ∙ append_assoc w.start w.others l.0;
              refused = w.refused;
            }))
          ]
        ];
      }

  onto_append : (front lines : List NumberedLine) (left : Remaining) → onto (front ++ lines) left ≡ onto front (onto lines left)
  onto_append front lines left = ap (λ (ls : List NumberedLine). record left { lines = ls }) (append_assoc front lines left.lines)

  -- where the lines that a step took stand, the next step begins
  goes_on : {A X : Type 0} (step : Step A E) (next : A → Reader X E) (left : Remaining) (x : A) (after : Remaining) (r : Reads step left x after) (other : Remaining) → Follows after.lines other.lines
      → (step (onto r.used other) >>= λ y. next y.0 y.1) ≡ next x other
  goes_on step next left x after r other follows = rw (r.again other follows) refl

  abbrev split_after : {A : Type 0} (step : Step A E) (left : Remaining) (x : A) (after : Remaining) (r : Reads step left x after) (front rest : List NumberedLine) → after.lines ≡ front ++ rest → left.lines ≡ (r.used ++ front) ++ rest
  split_after step left x after r front rest is = r.split ∙ ap (λ (ls : List NumberedLine). r.used ++ ls) is ∙ sym (append_assoc r.used front rest)

  -- where a later reader refuses, so does what begins with a step that read
  pub refuses_later : {A X : Type 0} (step : Step A E) (next : A → Reader X E) (Goes Later : List NumberedLine → List (List ℕ) → Type 0) (left : Remaining) (x : A) (after : Remaining) (r : Reads step left x after)
      → ((front rest : List NumberedLine) (more : List (List ℕ)) → after.lines ≡ front ++ rest → Later front more → Goes (r.used ++ front) more)
      → (fault : E) → Refuses (next x) Later after fault → Refuses (λ l. step l >>= λ y. next y.0 y.1) Goes left fault
  refuses_later {A} {X} step next Goes Later left x after r later fault l =
      let both = λ (rest : Remaining). step rest >>= λ y. next y.0 y.1 in
      let front = r.used ++ l.front in
      elim l.place as (λ _. Refuses both Goes left fault) [
        | inl a ↦ record {
          front = front;
          more = l.more;
          goes = later l.front (a.line ∷ a.lines) l.more a.split l.goes;
          place = inl (record {
            line = a.line;
            lines = a.lines;
            split = split_after step left x after r l.front (a.line ∷ a.lines) a.split;
            at = a.at;
            again = λ other.
                let next_line = record other { lines = a.line ∷ other.lines } in
                let follows = subst (λ (ls : List NumberedLine). Follows ls (l.front ++ a.line ∷ other.lines)) (sym a.split) (follows_same l.front a.line a.lines other.lines) in
                ap both (onto_append r.used l.front next_line) ∙ goes_on step next left x after r (onto l.front next_line) follows ∙ a.again other;
          });
        }
        | inr p ↦ elim p as (λ _. Refuses both Goes left fault) [
          | inl a ↦ record {
            front = front;
            more = l.more;
            goes = later l.front [] l.more (a.whole ∙ sym (append-nil l.front)) l.goes;
            place = inr (inl (record { whole = r.split ∙ ap (λ (ls : List NumberedLine). r.used ++ ls) a.whole; at = subst (λ (m : Remaining). IsAt fault m.last) r.rest a.at }));
          }
          | inr w ↦ record {
            front = front;
            more = l.more;
            goes = later l.front w.lines l.more w.split l.goes;
            place = inr (inr (record {
              lines = w.lines;
              split = split_after step left x after r l.front w.lines w.split;
              start = w.start;
              others = w.others;
              more_is = w.more_is;
              refused = subst (λ (m : Remaining). In (record m { lines = w.lines }) fault w.start) r.rest w.refused;
            }));
          }
        ]
      ]

  -- ---- steps that go on to the end of a part

  -- lines of two parts are those of the one and those of the other
  pub record Halves (lines : List NumberedLine) (xs ys : List (List ℕ)) : Type 0 where
    pub front : List NumberedLine
    pub back : List NumberedLine
    pub split : lines ≡ front ++ back
    pub front_is : bytes_of front ≡ xs
    pub back_is : bytes_of back ≡ ys

  longer : (line : NumberedLine) (x : List ℕ) (lines : List NumberedLine) (xs ys : List (List ℕ)) → line.bytes ≡ x → Halves lines xs ys → Halves (line ∷ lines) (x ∷ xs) ys
  longer line x lines xs ys same rest = record {
    front = line ∷ rest.front;
    back = rest.back;
    split = ap (λ (ls : List NumberedLine). line ∷ ls) {y = rest.front ++ rest.back} rest.split;
    front_is = ap (λ (b : List ℕ). b ∷ bytes_of rest.front) {y = x} same ∙ ap (λ (bs : List (List ℕ)). x ∷ bs) {y = xs} rest.front_is;
    back_is = rest.back_is;
  }

  pub halves : (lines : List NumberedLine) (xs ys : List (List ℕ)) → bytes_of lines ≡ xs ++ ys → Halves lines xs ys
  halves lines [] ys h = record { front = []; back = lines; split = refl; front_is = refl; back_is = h }
  halves [] (x ∷ xs) ys h = absurd cc
  halves (line ∷ lines) (x ∷ xs) ys h =
      let rest = halves lines xs ys cc in
      let same : line.bytes ≡ x = cc in
      longer line x lines xs ys same rest

  pub plain_append : (xs ys : List (List ℕ)) → ArePlain xs → ArePlain ys → ArePlain (xs ++ ys)
  plain_append [] ys h k = k
  plain_append (x ∷ xs) ys h k = (h.0, plain_append xs ys h.1 k)

  -- what completes a step, and then what completes the next from its start
  pub completes_then : {A B : Type 0} (step : Step A E) (next : A → Step B E) (each : (a : A) → Steady (next a)) (front : List NumberedLine) (more : List (List ℕ)) (c : Completes step front more)
      → Completes (λ l. step l >>= λ x. next x.0 x.1) front (more ++ (each c.value).first)
  completes_then step next each front more c =
      let first = (each c.value).first in
      let s = (each c.value).start in
      record {
        value = s.value;
        plain = plain_append more first c.plain s.plain;
        calm = calm_after_append front more first c.calm s.calm;
        reads = λ lines h other calm.
            let hs = halves lines more first h in
            let middle = onto hs.back other in
            let calm' = calm_lines hs.back other.lines (subst IsCalm (sym hs.back_is) s.calm) calm in
            let cut : onto (front ++ lines) other ≡ onto (front ++ hs.front) middle = ap (λ (ls : List NumberedLine). onto (front ++ ls) other) hs.split ∙ ap (λ (ls : List NumberedLine). onto ls other) (sym (append_assoc front hs.front hs.back)) ∙ onto_append (front ++ hs.front) hs.back other in
            ap (λ (l : Remaining). step l >>= λ x. next x.0 x.1) cut ∙ rw (c.reads hs.front hs.front_is middle calm') (s.reads hs.back hs.back_is other calm);
      }

  -- what completes a later step completes what begins with a step that read
  completes_later : {A B : Type 0} (step : Step A E) (next : A → Step B E) (left : Remaining) (x : A) (after : Remaining) (r : Reads step left x after) (front rest : List NumberedLine) (more : List (List ℕ)) → after.lines ≡ front ++ rest → Completes (next x) front more
      → Completes (λ l. step l >>= λ y. next y.0 y.1) (r.used ++ front) more
  completes_later step next left x after r front rest more is c = record {
    value = c.value;
    plain = c.plain;
    calm = calm_after_more r.used front more c.calm;
    reads = λ lines h other calm.
        let follows = subst (λ (ls : List NumberedLine). Follows ls (front ++ (lines ++ other.lines))) (sym is) (follows_front front rest lines other.lines more h c.calm calm) in
        let cut : onto ((r.used ++ front) ++ lines) other ≡ onto r.used (onto front (onto lines other)) = onto_append (r.used ++ front) lines other ∙ onto_append r.used front (onto lines other) in
        ap (λ (l : Remaining). step l >>= λ y. next y.0 y.1) cut ∙ goes_on step next left x after r (onto front (onto lines other)) follows ∙ ap (next x) (sym (onto_append front lines other)) ∙ c.reads lines h other calm;
  }

  -- a step that read, and then one that did
  reads_then : {A B : Type 0} (step : Step A E) (next : A → Step B E) (left : Remaining) (x : A) (middle : Remaining) (y : B) (after : Remaining) → Reads step left x middle → Reads (next x) middle y after → Reads (λ l. step l >>= λ z. next z.0 z.1) left y after
  reads_then step next left x middle y after r s = record {
    used = r.used ++ s.used;
    split = split_after step left x middle r s.used after.lines s.split;
    rest = s.rest ∙ ap (λ (m : Remaining). record m { lines = after.lines }) r.rest;
    again = λ other follows.
        let follows' = subst (λ (ls : List NumberedLine). Follows ls (s.used ++ other.lines)) (sym s.split) (follows_after s.used after.lines other.lines follows) in
        ap (λ (l : Remaining). step l >>= λ z. next z.0 z.1) (onto_append r.used s.used other) ∙ goes_on step next left x middle r (onto s.used other) follows' ∙ s.again other follows;
  }

  outcome_later : {A B : Type 0} (step : Step A E) (next : A → Step B E) (left : Remaining) (x : A) (after : Remaining) → Reads step left x after → (r : Result (B × Remaining) E) → Outcome (next x) after r → Outcome (λ l. step l >>= λ y. next y.0 y.1) left r
  outcome_later step next left x after r (Ok y) s = reads_then step next left x after y.0 y.1 r s
  outcome_later step next left x after r (Err fault) l =
      refuses_later step next (Completes (λ m. step m >>= λ y. next y.0 y.1)) (Completes (next x)) left x after r (completes_later step next left x after r) fault l

  outcome_then : {A B : Type 0} (step : Step A E) (next : A → Step B E) → ((a : A) → Steady (next a)) → (left : Remaining) (r : Result (A × Remaining) E) → Outcome step left r → Outcome (λ l. step l >>= λ x. next x.0 x.1) left (r >>= λ x. next x.0 x.1)
  outcome_then step next each left (Ok x) r = outcome_later step next left x.0 x.1 r (next x.0 x.1) ((each x.0).outcome x.1)
  outcome_then step next each left (Err fault) r =
      refuses_first step next (Completes (λ l. step l >>= λ x. next x.0 x.1)) (λ front more c. ((each c.value).first, completes_then step next each front more c)) left fault r

  pub steady_then : {A B : Type 0} (step : Step A E) (next : A → Step B E) → Steady step → ((a : A) → Steady (next a)) → Steady (λ l. step l >>= λ x. next x.0 x.1)
  steady_then step next s each = record {
    first = s.first ++ (each s.start.value).first;
    start = completes_then step next each [] s.first s.start;
    outcome = λ left. outcome_then step next each left (step left) (s.outcome left);
  }

  pub no_lines : (lines : List NumberedLine) → bytes_of lines ≡ [] → lines ≡ []
  no_lines [] h = refl
  no_lines (line ∷ lines) h = absurd cc

  -- a value, and no line
  pub steady_done : {A : Type 0} (x : A) → Steady (λ left. Ok (x, left))
  steady_done x = record {
    first = [];
    start = record { value = x; plain = tt; calm = tt; reads = λ lines h other calm. ap (λ (ls : List NumberedLine). Ok (x, onto ls other)) (no_lines lines h) };
    outcome = λ left. record { used = []; split = refl; rest = refl; again = λ other follows. refl };
  }

  -- ---- one line

  -- whether a line gives a value or a fault depends on the line alone
  pub record ReadsLine {A : Type 0} (step : Step A E) : Type 0 where
    pub none : (last : ℕ) (ended : Bool) → (fault : E) × (step (record { lines = []; last = last; ended = ended }) ≡ Err fault) × IsAt fault last
    pub some : (line : NumberedLine) → ((value : A) × ((other : Remaining) → step (onto (line ∷ []) other) ≡ Ok (value, other))) ⊎ ((fault : E) × IsAt fault line.number × ((other : Remaining) → step (onto (line ∷ []) other) ≡ Err fault))
    pub text : List ℕ
    pub value : A
    pub plain : IsPlain text
    pub calm : is_calm text ≡ true
    pub example : (number : ℕ) (other : Remaining) → step (onto (record { number = number; bytes = text } ∷ []) other) ≡ Ok (value, other)

  module _ {A : Type 0} (step : Step A E) (r : ReadsLine step) where
    line_start : Completes step [] (r.text ∷ [])
    line_start = record {
      value = r.value;
      plain = (r.plain, tt);
      calm = r.calm;
      reads = λ lines h other calm.
          let one = as_one lines h in
          ap (λ (ls : List NumberedLine). step (onto ls other)) one.1 ∙ r.example one.0 other;
    } where
      as_one : (lines : List NumberedLine) → bytes_of lines ≡ r.text ∷ [] → (number : ℕ) × (lines ≡ record { number = number; bytes = r.text } ∷ [])
      as_one [] h = absurd cc
      as_one (line ∷ lines) h = (line.number, let none = no_lines lines cc in let same : line.bytes ≡ r.text = cc in rw none (ap (λ (b : List ℕ). record { number = line.number; bytes = b } ∷ []) same))

    line_outcome : (last : ℕ) (ended : Bool) (lines : List NumberedLine) → let left : Remaining = record { lines = lines; last = last; ended = ended } in Outcome step left (step left)
    line_outcome last ended [] =
        let left : Remaining = record { lines = []; last = last; ended = ended } in
        let n = r.none last ended in
        subst (Outcome step left) (sym n.1) (record { front = []; more = r.text ∷ []; goes = line_start; place = inr (inl (record { whole = refl; at = n.2 })) })
    line_outcome last ended (line ∷ lines) =
        let left : Remaining = record { lines = line ∷ lines; last = last; ended = ended } in
        let after : Remaining = record { lines = lines; last = last; ended = ended } in
        elim (r.some line) as (λ _. Outcome step left (step left)) [
          | inl s ↦ subst (Outcome step left) (sym (s.1 after)) (record { used = line ∷ []; split = refl; rest = refl; again = λ other follows. s.1 other })
          | inr s ↦ subst (Outcome step left) (sym (s.2 after)) (record { front = []; more = r.text ∷ []; goes = line_start; place = inl (record { line = line; lines = lines; split = refl; at = s.1; again = s.2 }) })
        ]

    pub steady_line : Steady step
    steady_line = record { first = r.text ∷ []; start = line_start; outcome = λ left. line_outcome left.last left.ended left.lines }

  -- ---- readers of a whole text

  -- with these lines a whole text would be read
  pub record Ends {X : Type 0} (read : Reader X E) (front : List NumberedLine) (more : List (List ℕ)) : Type 0 where
    pub value : X
    pub plain : ArePlain more
    pub calm : IsCalmAfter front more
    pub reads : (lines : List NumberedLine) → bytes_of lines ≡ more → (last : ℕ) → read (onto (front ++ lines) (ending last)) ≡ Ok value

  abbrev pub OutcomeAtEnd : {X : Type 0} → Reader X E → Remaining → Result X E → Type 0
  OutcomeAtEnd read left (Ok x) = Unit {0}
  OutcomeAtEnd read left (Err fault) = Refuses read (Ends read) left fault

  pub record Closes {X : Type 0} (read : Reader X E) : Type 0 where
    pub first : List (List ℕ)
    pub start : Ends read [] first
    pub outcome : (left : Remaining) → OutcomeAtEnd read left (read left)

  pub ends_then : {A X : Type 0} (step : Step A E) (next : A → Reader X E) (each : (a : A) → Closes (next a)) (front : List NumberedLine) (more : List (List ℕ)) (c : Completes step front more)
      → Ends (λ l. step l >>= λ x. next x.0 x.1) front (more ++ (each c.value).first)
  ends_then step next each front more c =
      let first = (each c.value).first in
      let s = (each c.value).start in
      record {
        value = s.value;
        plain = plain_append more first c.plain s.plain;
        calm = calm_after_append front more first c.calm s.calm;
        reads = λ lines h last.
            let hs = halves lines more first h in
            let middle = onto hs.back (ending last) in
            let calm' = calm_lines hs.back [] (subst IsCalm (sym hs.back_is) s.calm) tt in
            let cut : onto (front ++ lines) (ending last) ≡ onto (front ++ hs.front) middle = ap (λ (ls : List NumberedLine). onto (front ++ ls) (ending last)) hs.split ∙ ap (λ (ls : List NumberedLine). onto ls (ending last)) (sym (append_assoc front hs.front hs.back)) ∙ onto_append (front ++ hs.front) hs.back (ending last) in
            ap (λ (l : Remaining). step l >>= λ x. next x.0 x.1) cut ∙ rw (c.reads hs.front hs.front_is middle calm') (s.reads hs.back hs.back_is last);
      }

  ends_later : {A X : Type 0} (step : Step A E) (next : A → Reader X E) (left : Remaining) (x : A) (after : Remaining) (r : Reads step left x after) (front rest : List NumberedLine) (more : List (List ℕ)) → after.lines ≡ front ++ rest → Ends (next x) front more
      → Ends (λ l. step l >>= λ y. next y.0 y.1) (r.used ++ front) more
  ends_later step next left x after r front rest more is c = record {
    value = c.value;
    plain = c.plain;
    calm = calm_after_more r.used front more c.calm;
    reads = λ lines h last.
        let follows = subst (λ (ls : List NumberedLine). Follows ls (front ++ (lines ++ []))) (sym is) (follows_front front rest lines [] more h c.calm tt) in
        let cut : onto ((r.used ++ front) ++ lines) (ending last) ≡ onto r.used (onto front (onto lines (ending last))) = onto_append (r.used ++ front) lines (ending last) ∙ onto_append r.used front (onto lines (ending last)) in
        ap (λ (l : Remaining). step l >>= λ y. next y.0 y.1) cut ∙ goes_on step next left x after r (onto front (onto lines (ending last))) follows ∙ ap (next x) (sym (onto_append front lines (ending last))) ∙ c.reads lines h last;
  }

  closing_later : {A X : Type 0} (step : Step A E) (next : A → Reader X E) (left : Remaining) (x : A) (after : Remaining) → Reads step left x after → (r : Result X E) → OutcomeAtEnd (next x) after r → OutcomeAtEnd (λ l. step l >>= λ y. next y.0 y.1) left r
  closing_later step next left x after r (Ok y) s = tt
  closing_later step next left x after r (Err fault) l =
      refuses_later step next (Ends (λ m. step m >>= λ y. next y.0 y.1)) (Ends (next x)) left x after r (ends_later step next left x after r) fault l

  closing_then : {A X : Type 0} (step : Step A E) (next : A → Reader X E) → ((a : A) → Closes (next a)) → (left : Remaining) (r : Result (A × Remaining) E) → Outcome step left r → OutcomeAtEnd (λ l. step l >>= λ x. next x.0 x.1) left (r >>= λ x. next x.0 x.1)
  closing_then step next each left (Ok x) r = closing_later step next left x.0 x.1 r (next x.0 x.1) ((each x.0).outcome x.1)
  closing_then step next each left (Err fault) r =
      refuses_first step next (Ends (λ l. step l >>= λ x. next x.0 x.1)) (λ front more c. ((each c.value).first, ends_then step next each front more c)) left fault r

  pub closes_then : {A X : Type 0} (step : Step A E) (next : A → Reader X E) → Steady step → ((a : A) → Closes (next a)) → Closes (λ l. step l >>= λ x. next x.0 x.1)
  closes_then step next s each = record {
    first = s.first ++ (each s.start.value).first;
    start = ends_then step next each [] s.first s.start;
    outcome = λ left. closing_then step next each left (step left) (s.outcome left);
  }

  -- nothing may be left
  pub record WantsNothing {X : Type 0} (read : Reader X E) : Type 0 where
    pub value : X
    pub done : (last : ℕ) → read (ending last) ≡ Ok value
    pub cut : (last : ℕ) → (fault : E) × (read (record { lines = []; last = last; ended = false }) ≡ Err fault) × IsAt fault last
    pub some : (line : NumberedLine) → (fault : E) × IsAt fault line.number × ((other : Remaining) → read (onto (line ∷ []) other) ≡ Err fault)

  module _ {X : Type 0} (read : Reader X E) (w : WantsNothing read) where
    end_start : Ends read [] []
    end_start = record { value = w.value; plain = tt; calm = tt; reads = λ lines h last. ap (λ (ls : List NumberedLine). read (onto ls (ending last))) (no_lines lines h) ∙ w.done last }

    end_outcome : (last : ℕ) (ended : Bool) (lines : List NumberedLine) → let left : Remaining = record { lines = lines; last = last; ended = ended } in OutcomeAtEnd read left (read left)
    end_outcome last true [] = subst (OutcomeAtEnd read (ending last)) (sym (w.done last)) tt
    end_outcome last false [] =
        let left : Remaining = record { lines = []; last = last; ended = false } in
        let c = w.cut last in
        subst (OutcomeAtEnd read left) (sym c.1) (record { front = []; more = []; goes = end_start; place = inr (inl (record { whole = refl; at = c.2 })) })
    end_outcome last ended (line ∷ lines) =
        let left : Remaining = record { lines = line ∷ lines; last = last; ended = ended } in
        let after : Remaining = record { lines = lines; last = last; ended = ended } in
        let s = w.some line in
        subst (OutcomeAtEnd read left) (sym (s.2 after)) (record { front = []; more = []; goes = end_start; place = inl (record { line = line; lines = lines; split = refl; at = s.1; again = s.2 }) })

    pub closes_end : Closes read
    closes_end = record { first = []; start = end_start; outcome = λ left. end_outcome left.last left.ended left.lines }
