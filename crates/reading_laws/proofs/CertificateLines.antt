-- The line that says how long the certificate of an agent is stands in a log only where it is due: whatever follows the lines before it is read as
-- that certificate.
use Rattle.std.proofs.Common.{◌≡◌, ℕ, zero, suc, ◌+◌, ◌<◌, ◌≤◌, ◌⊎◌, inl, inr, lit≤, Bool, true, false, eqb, List, [], ◌∷◌, ◌++◌, Option, Some, None, Result, Ok, Err, drop, refl, sym, ap, subst, ◌∙◌, arith, append_assoc, codes, decimal}
use Rattle.std.specs.List.{AllByRecursion}
use Rattle.std.proofs.lemmas.Fmt.{decimal_digit}
use Rattle.std.proofs.lemmas.List.{append_cancel_right, map-append}
use Rattle.reading_laws.specs.Prelude.{TEXT_BYTES, BadLine, Spelling, NumberedLine, Remaining, block_of, nothing_left, text_of, row, ◌>>=◌, repeat, parts_of, words_of, cert_of, tree_lines, forest_lines, Tree, leaf, split, Trees, no_trees, more, Play, Serve, cert_line, is_text, link_of_words, read_link, end_of_words, read_end, read_missed, first_is, auction_of, trade_of, read_entry, read_cash_line, cash_entry_of, read_score, package_of, read_count, line_by, begins, as_long_as, is_served, served_in, head_by, head_in, entry_in, history_in, cash_in, cert_in, score_in, log_in}
use Rattle.text_forms.proofs.Reading.{bind_ok, ok_is}
use Rattle.bound_cert.proofs.TreesAgain.{parts_again, tree_lines_lack}
use Rattle.bound_cert.proofs.TreeTexts.{cert_printed}
use Rattle.log_reader.proofs.SheetFormLaws.{count_is}
use Rattle.log_reader.proofs.Taking.{later_lines}
use Rattle.reading_laws.proofs.Steady.{Reader, Step, onto, bytes_of}
use Rattle.reading_laws.proofs.Spots.{AllLack, front_lacks}
use Rattle.reading_laws.proofs.Runs.{stops, full, goes}
use Rattle.reading_laws.proofs.Blocks.{next_block}
use Rattle.reading_laws.proofs.LogSteps.{counted, no_count, read_block}

-- a line between others
abbrev pub there : List NumberedLine → NumberedLine → Remaining → Remaining
there front line rest = onto front (onto (line ∷ []) rest)

-- ---- lists

-- an item of two lists is in the first, or in the second
in_either : {A : Type 0} (xs ys front : List A) (x : A) (rest : List A) → xs ++ ys ≡ front ++ x ∷ rest → ((back : List A) × (xs ≡ front ++ x ∷ back)) ⊎ ((back : List A) × (front ≡ xs ++ back) × (ys ≡ back ++ x ∷ rest))
in_either [] ys front x rest h = inr (front, refl, h)
in_either (y ∷ xs) ys [] x rest h = inl (xs, let same : y ≡ x = cc in rw same refl)
in_either {A} (y ∷ xs) ys (z ∷ front) x rest h =
    let same : y ≡ z = cc in
    elim (in_either xs ys front x rest cc) [
      | inl i ↦ inl (i.0, ap (λ (l : List A). y ∷ l) i.1 ∙ ap (λ (w : A). w ∷ (front ++ x ∷ i.0)) same)
      | inr i ↦ inr (i.0, ap (λ (w : A). w ∷ front) (sym same) ∙ ap (λ (l : List A). y ∷ l) i.1, i.2)
    ]

-- texts of lines without line ends are the same only if their lines are
same_lines : (xs ys : List (List ℕ)) → AllLack xs → AllLack ys → text_of xs ≡ text_of ys → xs ≡ ys
same_lines xs ys lack lack' same = append_cancel_right xs ys ([] ∷ []) (sym (parts_again xs lack) ∙ ap (parts_of 10) same ∙ parts_again ys lack')

-- ---- no line of a certificate is one

-- a line begins with another letter than `c`
abbrev IsOther : List ℕ → Type 0
IsOther [] = Unit {0}
IsOther (byte ∷ bytes) = eqb byte 99 ≡ false

abbrev AreOthers : List (List ℕ) → Type 0
AreOthers lines = AllByRecursion IsOther lines

others_append : (xs ys : List (List ℕ)) → AreOthers xs → AreOthers ys → AreOthers (xs ++ ys)
others_append [] ys h k = k
others_append (x ∷ xs) ys h k = (h.0, others_append xs ys h.1 k)

mutual
  tree_others : (tree : Tree) → AreOthers (tree_lines tree)
  tree_others (leaf []) = (refl, tt)
  tree_others (leaf (price ∷ prices)) = (refl, tt)
  tree_others (split client feature children) = (refl, forest_others children)

  forest_others : (trees : Trees) → AreOthers (forest_lines trees)
  forest_others no_trees = tt
  forest_others (more tree trees) = others_append (tree_lines tree) (forest_lines trees) (tree_others tree) (forest_others trees)

module _ (agent : ℕ) (low : agent ≤ 7) where
  -- the line that says how long the certificate of the agent is, whatever it says
  abbrev pub IsCertLine : List ℕ → Type 0
  IsCertLine line = (count : ℕ) × (line ≡ cert_line agent count)

  not_among : (lines : List (List ℕ)) → AreOthers lines → (front : List (List ℕ)) (line : List ℕ) (back : List (List ℕ)) → IsCertLine line → lines ≡ front ++ line ∷ back → ⊥
  not_among [] are [] line back is h = absurd cc
  not_among [] are (first ∷ front) line back is h = absurd cc
  not_among (x ∷ lines) are [] line back is h = absurd (let other : IsOther (cert_line agent is.0) = subst IsOther (let same : x ≡ line = cc in same ∙ is.1) are.0 in cc)
  not_among (x ∷ lines) are (first ∷ front) line back is h = not_among lines are.1 front line back is cc

  -- ---- where a reader is that succeeds, at such a line of its text

  -- it reads what follows these lines as the certificate, whatever that is
  pub record Reaches {X : Type 0} (read : Reader X BadLine) (front : List NumberedLine) : Type 0 where
    pub next : Tree × Remaining → Result X BadLine
    pub is : (cert : NumberedLine) (other : Remaining) → IsCertLine cert.bytes → read (there front cert other) ≡ (cert_in agent (onto (cert ∷ []) other) >>= next)

  -- such a line after these, and those after it
  pub record Place (front : List NumberedLine) : Type 0 where
    pub cert : NumberedLine
    pub rest : Remaining
    pub is : IsCertLine cert.bytes
    pub lack : AllLack (bytes_of (front ++ cert ∷ rest.lines))

  -- all of them
  abbrev pub whole : (front : List NumberedLine) → Place front → Remaining
  whole front p = there front p.cert p.rest

  -- or it ends before the line, and would do so with any such line there
  pub record Passes {A : Type 0} (step : Step A BadLine) (front : List NumberedLine) (p : Place front) (x : A × Remaining) : Type 0 where
    pub back : List NumberedLine
    pub left_is : x.1 ≡ there back p.cert p.rest
    pub lack : AllLack (bytes_of (back ++ p.cert ∷ p.rest.lines))
    pub again : (line : NumberedLine) (other : Remaining) → IsCertLine line.bytes → step (there front line other) ≡ Ok (x.0, there back line other)

  abbrev Met : {A : Type 0} → Step A BadLine → (front : List NumberedLine) → Place front → A × Remaining → Type 0
  Met step front p x = Reaches step front ⊎ Passes step front p x

  -- each success of a step is one of the two
  pub record Meets {A : Type 0} (step : Step A BadLine) : Type 0 where
    pub met : (front : List NumberedLine) (p : Place front) (x : A × Remaining) → step (whole front p) ≡ Ok x → Met step front p x

  -- a reader of a whole text comes to the line
  pub record MeetsAll {X : Type 0} (read : Reader X BadLine) : Type 0 where
    pub met : (front : List NumberedLine) (p : Place front) (x : X) → read (whole front p) ≡ Ok x → Reaches read front

  -- ---- one after another

  bind_bind : {A B C : Type 0} (r : Result A BadLine) (f : A → Result B BadLine) (g : B → Result C BadLine) → (r >>= f >>= g) ≡ (r >>= λ x. f x >>= g)
  bind_bind (Ok x) f g = refl
  bind_bind (Err bad) f g = refl

  reaches_first : {A X : Type 0} (step : Step A BadLine) (next : A → Reader X BadLine) (front : List NumberedLine) → Reaches step front → Reaches (λ l. step l >>= λ x. next x.0 x.1) front
  reaches_first {A} {X} step next front r =
      let follows = λ (x : A × Remaining). next x.0 x.1 in
      record { next = λ y. r.next y >>= follows; is = λ cert other is. ap (λ (s : Result (A × Remaining) BadLine). s >>= follows) (r.is cert other is) ∙ bind_bind (cert_in agent (onto (cert ∷ []) other)) r.next follows }

  -- the next step begins at the lines that are left before the line
  module _ {A X : Type 0} (step : Step A BadLine) (next : A → Reader X BadLine) (front : List NumberedLine) (p : Place front) (x : A × Remaining) (q : Passes step front p x) where
    abbrev place : Place q.back
    place = record { cert = p.cert; rest = p.rest; is = p.is; lack = q.lack }

    follows : (line : NumberedLine) (other : Remaining) → IsCertLine line.bytes → (step (there front line other) >>= λ y. next y.0 y.1) ≡ next x.0 (there q.back line other)
    follows line other is = ap (λ (s : Result (A × Remaining) BadLine). s >>= λ y. next y.0 y.1) (q.again line other is)

    reaches_later : Reaches (next x.0) q.back → Reaches (λ l. step l >>= λ y. next y.0 y.1) front
    reaches_later r = record { next = r.next; is = λ line other is. follows line other is ∙ r.is line other is }

  then_meets : {A B : Type 0} (step : Step A BadLine) (next : A → Step B BadLine) → Meets step → ((a : A) → Meets (next a)) → Meets (λ l. step l >>= λ x. next x.0 x.1)
  then_meets {A} {B} step next m each = record {
    met = λ front p y e.
        let a = bind_ok (step (whole front p)) (λ x. next x.0 x.1) y e in
        let both = λ (l : Remaining). step l >>= λ x. next x.0 x.1 in
        elim (m.met front p a.0 a.1) as (λ _. Met both front p y) [
          | inl r ↦ inl (reaches_first step next front r)
          | inr q ↦ elim ((each a.0.0).met q.back (place step next front p a.0 q) y (ap (next a.0.0) (sym q.left_is) ∙ a.2)) as (λ _. Met both front p y) [
            | inl r ↦ inl (reaches_later step next front p a.0 q r)
            | inr o ↦ inr (record { back = o.back; left_is = o.left_is; lack = o.lack; again = λ line other is. follows step next front p a.0 q line other is ∙ o.again line other is })
          ]
        ];
  }

  all_then : {A X : Type 0} (step : Step A BadLine) (next : A → Reader X BadLine) → Meets step → ((a : A) → MeetsAll (next a)) → MeetsAll (λ l. step l >>= λ x. next x.0 x.1)
  all_then {A} {X} step next m each = record {
    met = λ front p y e.
        let a = bind_ok (step (whole front p)) (λ x. next x.0 x.1) y e in
        elim (m.met front p a.0 a.1) as (λ _. Reaches (λ (l : Remaining). step l >>= λ x. next x.0 x.1) front) [
          | inl r ↦ reaches_first step next front r
          | inr q ↦ reaches_later step next front p a.0 q ((each a.0.0).met q.back (place step next front p a.0 q) y (ap (next a.0.0) (sym q.left_is) ∙ a.2))
        ];
  }

  passed : {A : Type 0} (step : Step A BadLine) (front back : List NumberedLine) (p : Place front) (value : A) (x : A × Remaining) → step (whole front p) ≡ Ok x → AllLack (bytes_of (back ++ p.cert ∷ p.rest.lines))
      → ((line : NumberedLine) (other : Remaining) → IsCertLine line.bytes → step (there front line other) ≡ Ok (value, there back line other)) → Passes step front p x
  passed step front back p value x e lack again =
      subst (Passes step front p) (ok_is {E = BadLine} (value, there back p.cert p.rest) x (sym (again p.cert p.rest p.is) ∙ e)) (record { back = back; left_is = refl; lack = lack; again = again })

  done_meets : {A : Type 0} (x : A) → Meets (λ left. Ok (x, left))
  done_meets x = record { met = λ front p y e. inr (passed (λ left. Ok (x, left)) front front p x y e p.lack (λ line other is. refl)) }

  repeat_meets : {A : Type 0} (step : ℕ → Step A BadLine) (most : ℕ) → ((i : ℕ) → i < most → Meets (step i)) → (count from : ℕ) → from + count ≤ most → Meets (repeat count from step)
  unfolding repeat
  repeat_meets step most each zero from few = done_meets []
  repeat_meets step most each (suc count) from few =
      then_meets (step from) (λ first left. repeat count (from + 1) step left >>= λ others. Ok (first ∷ others.0, others.1)) (each from (omega (arith, few)))
      (λ first. then_meets (repeat count (from + 1) step) (λ others left. Ok (first ∷ others, left)) (repeat_meets step most each count (from + 1) (omega (arith, few))) (λ others. done_meets (first ∷ others)))

  -- nothing may be left
  end_meets : {X : Type 0} (x : X) → MeetsAll (λ left. nothing_left left >>= λ done. Ok x)
  end_meets {X} x = record { met = by_front } where
    by_front : (front : List NumberedLine) (p : Place front) (y : X) → (nothing_left (whole front p) >>= λ done. Ok x) ≡ Ok y → Reaches (λ left. nothing_left left >>= λ done. Ok x) front
    by_front [] p y e = absurd cc
    by_front (line ∷ front) p y e = absurd cc

  -- ---- a line by a form that such a line does not have

  line_meets : {A : Type 0} (form : List ℕ → Option A) → ((count : ℕ) → form (cert_line agent count) ≡ None) → Meets (λ left. line_by form left)
  line_meets {A} form none = record { met = by_front } where
    refused : (line : NumberedLine) (other : Remaining) → form line.bytes ≡ None → line_by form (onto (line ∷ []) other) ≡ Err (record { line = line.number; reason = Spelling })
    refused line other h = rw h refl

    by_form : (line : NumberedLine) (front : List NumberedLine) (p : Place (line ∷ front)) (x : A × Remaining) → line_by form (whole (line ∷ front) p) ≡ Ok x → (read : Option A) → form line.bytes ≡ read → Met (λ left. line_by form left) (line ∷ front) p x
    by_form line front p x e None h = absurd (let no = refused line (there front p.cert p.rest) h in cc)
    by_form line front p x e (Some value) h = inr (passed (λ left. line_by form left) (line ∷ front) front p value x e p.lack.1 (λ other after is. rw h refl))

    by_front : (front : List NumberedLine) (p : Place front) (x : A × Remaining) → line_by form (whole front p) ≡ Ok x → Met (λ left. line_by form left) front p x
    by_front [] p x e = absurd (let no = refused p.cert p.rest (ap form p.is.1 ∙ none p.is.0) in cc)
    by_front (line ∷ front) p x e = by_form line front p x e (form line.bytes) refl

  -- ---- parts as long as the next line begins with a word that such a line does not have

  module _ {A : Type 0} (word : List ℕ) (other_word : (count : ℕ) → first_is word (words_of (cert_line agent count)) ≡ false) (step : ℕ → Step A BadLine) (each : (i : ℕ) → Meets (step i)) where
    abbrev run : ℕ → ℕ → Step (List A) BadLine
    run room from = as_long_as word step room from

    abbrev one_part : ℕ → ℕ → Step (List A) BadLine
    one_part room from left = step from left >>= λ first. run room (from + 1) first.1 >>= λ others. Ok (first.0 ∷ others.0, others.1)

    stopped : (room from : ℕ) (front : List NumberedLine) (p : Place front) (x : List A × Remaining) → run room from (whole front p) ≡ Ok x → ((line : NumberedLine) (other : Remaining) → IsCertLine line.bytes → begins word (there front line other) ≡ false) → Passes (run room from) front p x
    stopped room from front p x e none = passed (run room from) front front p [] x e p.lack (λ line other is. stops word step room from (there front line other) (none line other is))

    -- a part, and those after it
    longer : (room from : ℕ) (line : NumberedLine) (front : List NumberedLine) → first_is word (words_of line.bytes) ≡ true → Meets (one_part room from) → (p : Place (line ∷ front)) (x : List A × Remaining) → run (suc room) from (whole (line ∷ front) p) ≡ Ok x → Met (run (suc room) from) (line ∷ front) p x
    longer room from line front begun m p x e =
        let again = λ (l : NumberedLine) (other : Remaining). goes word step room from (there (line ∷ front) l other) begun in
        elim (m.met (line ∷ front) p x (sym (again p.cert p.rest) ∙ e)) as (λ _. Met (run (suc room) from) (line ∷ front) p x) [
          | inl r ↦ inl (record { next = r.next; is = λ l other is. again l other ∙ r.is l other is })
          | inr q ↦ inr (record { back = q.back; left_is = q.left_is; lack = q.lack; again = λ l other is. again l other ∙ q.again l other is })
        ]

    at_most : (from : ℕ) (line : NumberedLine) (front : List NumberedLine) (p : Place (line ∷ front)) (x : List A × Remaining) → run 0 from (whole (line ∷ front) p) ≡ Ok x → (b : Bool) → first_is word (words_of line.bytes) ≡ b → Met (run 0 from) (line ∷ front) p x
    at_most from line front p x e false h = inr (stopped 0 from (line ∷ front) p x e (λ l other is. h))
    at_most from line front p x e true h = absurd (let no = full word step from (whole (line ∷ front) p) h in cc)

    at_part : (room from : ℕ) → Meets (run room (from + 1)) → (line : NumberedLine) (front : List NumberedLine) (p : Place (line ∷ front)) (x : List A × Remaining) → run (suc room) from (whole (line ∷ front) p) ≡ Ok x → (b : Bool) → first_is word (words_of line.bytes) ≡ b
        → Met (run (suc room) from) (line ∷ front) p x
    at_part room from others line front p x e false h = inr (stopped (suc room) from (line ∷ front) p x e (λ l other is. h))
    at_part room from others line front p x e true h =
        let m = then_meets (step from) (λ first left. run room (from + 1) left >>= λ others. Ok (first ∷ others.0, others.1)) (each from)
        (λ first. then_meets (run room (from + 1)) (λ xs left. Ok (first ∷ xs, left)) others (λ xs. done_meets (first ∷ xs))) in
        longer room from line front h m p x e

    run_met : (room from : ℕ) (front : List NumberedLine) (p : Place front) (x : List A × Remaining) → run room from (whole front p) ≡ Ok x → Met (run room from) front p x
    run_met room from [] p x e = inr (stopped room from [] p x e (λ line other is. ap (λ (b : List ℕ). first_is word (words_of b)) is.1 ∙ other_word is.0))
    run_met zero from (line ∷ front) p x e = at_most from line front p x e (first_is word (words_of line.bytes)) refl
    run_met (suc room) from (line ∷ front) p x e = at_part room from (record { met = run_met room (from + 1) }) line front p x e (first_is word (words_of line.bytes)) refl

    run_meets : (room from : ℕ) → Meets (run room from)
    run_meets room from = record { met = run_met room from }

  -- ---- certificates

  -- no line is that of two agents
  one_agent : (other count counted : ℕ) → other ≤ 7 → cert_line agent count ≡ cert_line other counted → agent ≡ other
  one_agent other count counted small same =
      let one = decimal_digit agent (omega (arith, low)) in
      let two = decimal_digit other (omega (arith, small)) in
      let rest : (48 + agent) ∷ 32 ∷ decimal count ≡ (48 + other) ∷ 32 ∷ decimal counted = (λ i. sym one i ++ 32 ∷ decimal count) ∙ ap (drop 5) same ∙ (λ i. two i ++ 32 ∷ decimal counted) in
      let digit : 48 + agent ≡ 48 + other = cc in
      omega (arith, digit)

  bind_done : {A : Type 0} (r : Result A BadLine) → r ≡ (r >>= λ x. Ok x)
  bind_done (Ok x) = refl
  bind_done (Err bad) = refl

  module _ (other : ℕ) (small : other ≤ 7) where
    -- the line is the first
    at_first : (p : Place []) (x : Tree × Remaining) → cert_in other (whole [] p) ≡ Ok x → (count : Option ℕ) → read_count other p.cert.bytes ≡ count → Reaches (cert_in other) []
    at_first p x e None h = absurd (let no = no_count other small p.cert p.rest h in cc)
    at_first p x e (Some count) h =
        let same = one_agent other p.is.0 count small (sym p.is.1 ∙ (count_is other p.cert.bytes count h).0) in
        subst (λ (a : ℕ). Reaches (cert_in a) []) same (record { next = λ y. Ok y; is = λ line left is. bind_done (cert_in agent (onto (line ∷ []) left)) })

    -- it is no line of the certificate
    within : (lines front : List NumberedLine) (cert : NumberedLine) (back : List NumberedLine) (bytes : List ℕ) (tree : Tree) → IsCertLine cert.bytes → AllLack (bytes_of lines) → lines ≡ front ++ cert ∷ back → bytes ≡ text_of (bytes_of lines) → cert_of bytes ≡ Ok tree → ⊥
    within lines front cert back bytes tree is lack parts made read =
        let printed = cert_printed bytes tree read in
        let same = same_lines (tree_lines tree) (bytes_of lines) (tree_lines_lack 32 tree printed.fits) lack (sym printed.same ∙ made) in
        not_among (tree_lines tree) (tree_others tree) (bytes_of front) cert.bytes (bytes_of back) is (same ∙ ap bytes_of parts ∙ map-append (λ (l : NumberedLine). l.bytes) front (cert ∷ back))

    -- it is after the certificate
    beyond : (count : ℕ) (line : NumberedLine) (used back : List NumberedLine) (bytes : List ℕ) (tree : Tree) → read_count other line.bytes ≡ Some count → ((after : Remaining) → block_of count (onto used after) ≡ Some (bytes, after)) → cert_of bytes ≡ Ok tree
        → (l : NumberedLine) (after : Remaining) → cert_in other (there (line ∷ (used ++ back)) l after) ≡ Ok (tree, there back l after)
    beyond count line used back bytes tree h again read l after =
        ap (λ (ls : List NumberedLine). cert_in other (record after { lines = line ∷ ls })) (append_assoc used back (l ∷ after.lines)) ∙ counted other small line count (onto used (there back l after)) h ∙ rw (again (there back l after), read) refl

    later : (line : NumberedLine) (front : List NumberedLine) (p : Place (line ∷ front)) (x : Tree × Remaining) → cert_in other (whole (line ∷ front) p) ≡ Ok x → (count : Option ℕ) → read_count other line.bytes ≡ count → Met (cert_in other) (line ∷ front) p x
    later line front p x e None h = absurd (let no = no_count other small line (there front p.cert p.rest) h in cc)
    later line front p x e (Some count) h =
        let after = there front p.cert p.rest in
        let b = read_block other small line.number count after x (block_of count after) refl (sym (counted other small line count after h) ∙ e) in
        let n = next_block count after.last after.ended after.lines b.block b.found in
        let parts = map-append (λ (l : NumberedLine). l.bytes) n.used b.block.1.lines in
        let lacks = subst AllLack (ap bytes_of n.split ∙ parts) p.lack.1 in
        elim (in_either n.used b.block.1.lines front p.cert p.rest.lines (sym n.split)) as (λ _. Met (cert_in other) (line ∷ front) p x) [
          | inl i ↦ absurd (within n.used front p.cert i.0 b.block.0 x.0 p.is (front_lacks (bytes_of n.used) (bytes_of b.block.1.lines) lacks) i.1 n.bytes_are b.tree)
          | inr i ↦ inr (passed (cert_in other) (line ∷ front) i.0 p x.0 x e (subst (λ (ls : List NumberedLine). AllLack (bytes_of ls)) i.2 (later_lines (bytes_of n.used) (bytes_of b.block.1.lines) lacks)) (λ l left is.
              ap (λ (ls : List NumberedLine). cert_in other (there (line ∷ ls) l left)) i.1 ∙ beyond count line n.used i.0 b.block.0 x.0 h n.again b.tree l left))
        ]

    cert_met : (front : List NumberedLine) (p : Place front) (x : Tree × Remaining) → cert_in other (whole front p) ≡ Ok x → Met (cert_in other) front p x
    cert_met [] p x e = inl (at_first p x e (read_count other p.cert.bytes) refl)
    cert_met (line ∷ front) p x e = later line front p x e (read_count other line.bytes) refl

  -- ---- the parts of a log

  no_link : (place : ℕ) (words : List (List ℕ)) → link_of_words place (codes "cert" ∷ words) ≡ None
  no_link place [] = refl
  no_link place (number ∷ words) = refl

  no_end : (words : List (List ℕ)) → end_of_words (codes "cert" ∷ words) ≡ None
  no_end [] = refl
  no_end (number ∷ []) = refl
  no_end (number ∷ word ∷ []) = refl
  no_end (number ∷ word ∷ other ∷ words) = refl

  abbrev words_after : ℕ → List (List ℕ)
  words_after count = words_of (drop 5 (cert_line agent count))

  served_meets : Meets served_in
  unfolding read_link read_end read_missed row
  served_meets =
      then_meets (as_long_as (codes "link") (λ place. line_by (read_link place)) 255 0) _ (run_meets (codes "link") (λ count. refl) (λ place. line_by (read_link place)) (λ place. line_meets (read_link place) (λ count. no_link place (words_after count))) 255 0) (λ links.
      then_meets (as_long_as (codes "end") (λ _. line_by read_end) TEXT_BYTES 0) _ (run_meets (codes "end") (λ count. refl) (λ _. line_by read_end) (λ _. line_meets read_end (λ count. no_end (words_after count))) TEXT_BYTES 0) (λ ends.
      then_meets (λ left. line_by read_missed left) _ (line_meets read_missed (λ count. refl)) (λ missed. done_meets (Serve links ends missed))))

  head_by_meets : (served : Bool) → Meets (head_by served)
  head_by_meets false = done_meets Play
  head_by_meets true = served_meets

  head_meets : Meets head_in
  unfolding head_in
  head_meets =
      then_meets (λ left. line_by (is_text (codes "taclog 1")) left) _ (line_meets (is_text (codes "taclog 1")) (λ count. refl)) (λ title.
      then_meets (λ left. line_by is_served left) (λ served left. head_by served left) (line_meets is_served (λ count. refl)) head_by_meets)

  entry_meets : (good : ℕ) → Meets (entry_in good)
  unfolding entry_in read_entry trade_of row
  entry_meets good =
      then_meets (λ left. line_by read_entry left) _ (line_meets read_entry (λ count. refl)) (λ line.
      then_meets (as_long_as (codes "trade") (λ _. line_by (trade_of good)) 128 0) _ (run_meets (codes "trade") (λ count. refl) (λ _. line_by (trade_of good)) (λ _. line_meets (trade_of good) (λ count. refl)) 128 0) (λ trades.
      done_meets (record { caller = line.0; call = line.1; reply = line.2; trades = trades })))

  history_meets : (good : ℕ) → Meets (history_in good)
  unfolding history_in auction_of row
  history_meets good =
      then_meets (λ left. line_by (auction_of good) left) (λ count left. repeat count 0 (λ _. entry_in good) left) (line_meets (auction_of good) (λ count. refl))
      (λ count. repeat_meets (λ _. entry_in good) count (λ i less. entry_meets good) count 0 (omega arith))

  cash_meets : Meets cash_in
  unfolding cash_in read_cash_line cash_entry_of row
  cash_meets =
      then_meets (λ left. line_by read_cash_line left) (λ count left. repeat count 0 (λ _. line_by cash_entry_of) left) (line_meets read_cash_line (λ count. refl))
      (λ count. repeat_meets (λ _. line_by cash_entry_of) count (λ i less. line_meets cash_entry_of (λ count. refl)) count 0 (omega arith))

  package_meets : (other client : ℕ) → Meets (λ left. line_by (package_of other client) left)
  unfolding package_of row
  package_meets other client = line_meets (package_of other client) (λ count. refl)

  score_meets : (other : ℕ) → other ≤ 7 → Meets (score_in other)
  unfolding score_in read_score row
  score_meets other small =
      then_meets (λ left. line_by (read_score other) left) _ (line_meets (read_score other) (λ count. refl)) (λ score.
      then_meets (repeat 8 0 (λ client. line_by (package_of other client))) _ (repeat_meets (λ client. line_by (package_of other client)) 8 (λ client less. package_meets other client) 8 0 (lit≤ tt)) (λ packages.
      then_meets (cert_in other) _ (record { met = cert_met other small }) (λ tree.
      done_meets (record { best = score.0; cash = score.1; short = score.2; score = score.3; allocation = packages; tree = tree }))))

  pub log_meets : MeetsAll log_in
  unfolding log_in
  log_meets =
      all_then head_in _ head_meets (λ head.
      all_then (repeat 28 0 history_in) _ (repeat_meets history_in 28 (λ good less. history_meets good) 28 0 (lit≤ tt)) (λ histories.
      all_then cash_in _ cash_meets (λ cash.
      all_then (λ left. line_by (is_text (codes "sheet")) left) _ (line_meets (is_text (codes "sheet")) (λ count. refl)) (λ sheet.
      all_then (repeat 8 0 score_in) _ (repeat_meets score_in 8 (λ other less. score_meets other (omega (arith, less))) 8 0 (lit≤ tt)) (λ scores.
      all_then (λ left. line_by (is_text (codes "end")) left) _ (line_meets (is_text (codes "end")) (λ count. refl)) (λ end.
      end_meets (record { head = head; histories = histories; cash = cash; scores = scores })))))))
