-- How filters, maps and flat maps commute.
use Rattle.std.proofs.Common.{◌≡◌, Bool, true, false, cond, List, [], ◌∷◌, ◌++◌, map, refl, ap, ◌∙◌, Option, Some, None, IfSome, if◌then◌else◌, ◌||◌, ◌&&◌, filter, filter_map, flat_map, option_to_list}
use Rattle.std.specs.List.{AllByRecursion, cons_option, list_any}
use Rattle.std.proofs.lemmas.List.{map-append}
use Rattle.std.proofs.lemmas.List.Elements.{filter-append}
use Rattle.std.proofs.lemmas.List.Concat.{flat_map-append}
use Rattle.std.proofs.lemmas.Bool.{or_right}

pub and-true : (b : Bool) → (b && true) ≡ b
and-true true = refl
and-true false = refl

pub filter-map : {X Y : Type 0} (test : Y → Bool) (f : X → Y) (xs : List X) → filter test (map f xs) ≡ map f (filter (λ x. test (f x)) xs)
filter-map test f [] = refl
filter-map test f (x ∷ xs) = by_test (test (f x)) (filter-map test f xs)
  where
    by_test : (b : Bool) → filter test (map f xs) ≡ map f (filter (λ y. test (f y)) xs) →
        cond b (f x ∷ filter test (map f xs)) (filter test (map f xs)) ≡ map f (cond b (x ∷ filter (λ y. test (f y)) xs) (filter (λ y. test (f y)) xs))
    by_test true ih = ap (λ ys. f x ∷ ys) ih
    by_test false ih = ih

pub filter-filter : {X : Type 0} (p q : X → Bool) (xs : List X) → filter p (filter q xs) ≡ filter q (filter p xs)
filter-filter p q [] = refl
filter-filter p q (x ∷ xs) = by_tests (p x) (q x) refl refl (filter-filter p q xs)
  where
    by_tests : (a b : Bool) → p x ≡ a → q x ≡ b → filter p (filter q xs) ≡ filter q (filter p xs) →
        filter p (cond b (x ∷ filter q xs) (filter q xs)) ≡ filter q (cond a (x ∷ filter p xs) (filter p xs))
    by_tests true true s t ih = rw (s, t) (ap (λ ys. x ∷ ys) ih)
    by_tests true false s t ih = rw t ih
    by_tests false true s t ih = rw s ih
    by_tests false false s t ih = ih

-- two tests that agree on a list keep the same of it
pub filter_same : {X : Type 0} (p q : X → Bool) (xs : List X) → AllByRecursion (λ x. p x ≡ q x) xs → filter p xs ≡ filter q xs
filter_same p q [] h = refl
filter_same p q (x ∷ xs) h = rw (h.0, filter_same p q xs h.1) refl

pub filter-flat_map : {X Y : Type 0} (test : Y → Bool) (f : X → List Y) (xs : List X) → filter test (flat_map f xs) ≡ flat_map (λ x. filter test (f x)) xs
filter-flat_map test f [] = refl
filter-flat_map test f (x ∷ xs) = filter-append test (f x) (flat_map f xs) ∙ ap (λ ys. filter test (f x) ++ ys) (filter-flat_map test f xs)

pub map-flat_map : {X Y Z : Type 0} (g : Y → Z) (f : X → List Y) (xs : List X) → map g (flat_map f xs) ≡ flat_map (λ x. map g (f x)) xs
map-flat_map g f [] = refl
map-flat_map g f (x ∷ xs) = map-append g (f x) (flat_map f xs) ∙ ap (λ ys. map g (f x) ++ ys) (map-flat_map g f xs)

pub flat_map-flat_map : {X Y Z : Type 0} (g : Y → List Z) (f : X → List Y) (xs : List X) → flat_map g (flat_map f xs) ≡ flat_map (λ x. flat_map g (f x)) xs
flat_map-flat_map g f [] = refl
flat_map-flat_map g f (x ∷ xs) = flat_map-append g (f x) (flat_map f xs) ∙ ap (λ ys. flat_map g (f x) ++ ys) (flat_map-flat_map g f xs)

pub flat_map-filter : {X Y : Type 0} (f : X → List Y) (test : X → Bool) (xs : List X) → flat_map f (filter test xs) ≡ flat_map (λ x. if test x then f x else []) xs
flat_map-filter f test [] = refl
flat_map-filter f test (x ∷ xs) = by_test (test x) (flat_map-filter f test xs)
  where
    by_test : (b : Bool) → flat_map f (filter test xs) ≡ flat_map (λ y. if test y then f y else []) xs →
        flat_map f (cond b (x ∷ filter test xs) (filter test xs)) ≡ cond b (f x) [] ++ flat_map (λ y. if test y then f y else []) xs
    by_test true ih = ap (λ ys. f x ++ ys) ih
    by_test false ih = ih

pub flat_map_same : {X Y : Type 0} (f g : X → List Y) (xs : List X) → AllByRecursion (λ x. f x ≡ g x) xs → flat_map f xs ≡ flat_map g xs
flat_map_same f g [] h = refl
flat_map_same f g (x ∷ xs) h = rw (h.0, flat_map_same f g xs h.1) refl

pub flat_map_alike : {X Y : Type 0} (f g : X → List Y) (xs : List X) → ((x : X) → f x ≡ g x) → flat_map f xs ≡ flat_map g xs
flat_map_alike f g [] h = refl
flat_map_alike f g (x ∷ xs) h = rw (h x, flat_map_alike f g xs h) refl

one_kept : {Y : Type 0} (test : Y → Bool) (v : Option Y) (ys zs : List Y) → filter test ys ≡ zs → filter test (cons_option v ys) ≡ filter test (option_to_list v) ++ zs
one_kept test None ys zs h = h
one_kept test (Some y) ys zs h = by_test (test y)
  where
    by_test : (b : Bool) → cond b (y ∷ filter test ys) (filter test ys) ≡ cond b (y ∷ []) [] ++ zs
    by_test true = ap (λ ws. y ∷ ws) h
    by_test false = h

pub filter-filter_map : {X Y : Type 0} (test : Y → Bool) (f : X → Option Y) (xs : List X) → filter test (filter_map f xs) ≡ flat_map (λ x. filter test (option_to_list (f x))) xs
filter-filter_map test f [] = refl
filter-filter_map test f (x ∷ xs) = one_kept test (f x) (filter_map f xs) _ (filter-filter_map test f xs)

pub all-filter : {X : Type 0} (P : X → Type 0) (test : X → Bool) (xs : List X) → AllByRecursion P xs → AllByRecursion P (filter test xs)
all-filter P test [] h = tt
all-filter P test (x ∷ xs) h = keep (test x) (all-filter P test xs h.1)
  where
    keep : (b : Bool) → AllByRecursion P (filter test xs) → AllByRecursion P (cond b (x ∷ filter test xs) (filter test xs))
    keep true k = (h.0, k)
    keep false k = k

pub all-append : {X : Type 0} (P : X → Type 0) (xs ys : List X) → AllByRecursion P xs → AllByRecursion P ys → AllByRecursion P (xs ++ ys)
all-append P [] ys h k = k
all-append P (x ∷ xs) ys h k = (h.0, all-append P xs ys h.1 k)

pub all-if : {X : Type 0} (P : X → Type 0) (b : Bool) (xs : List X) → AllByRecursion P xs → AllByRecursion P (if b then xs else [])
all-if P true xs h = h
all-if P false xs h = tt

pub all-map : {X Y : Type 0} (P : Y → Type 0) (f : X → Y) (xs : List X) → AllByRecursion (λ x. P (f x)) xs → AllByRecursion P (map f xs)
all-map P f [] h = tt
all-map P f (x ∷ xs) h = (h.0, all-map P f xs h.1)

pub all-flat_map : {X Y : Type 0} (P : Y → Type 0) (f : X → List Y) (xs : List X) → AllByRecursion (λ x. AllByRecursion P (f x)) xs → AllByRecursion P (flat_map f xs)
all-flat_map P f [] h = tt
all-flat_map P f (x ∷ xs) h = all-append P (f x) (flat_map f xs) h.0 (all-flat_map P f xs h.1)

pub all-filter_map : {X Y : Type 0} (P : Y → Type 0) (f : X → Option Y) (xs : List X) → AllByRecursion (λ x. IfSome (f x) P) xs → AllByRecursion P (filter_map f xs)
all-filter_map P f [] h = tt
all-filter_map {Y = Y} P f (x ∷ xs) h = keep (f x) h.0 (all-filter_map P f xs h.1)
  where
    keep : (y : Option Y) → IfSome y P → AllByRecursion P (filter_map f xs) → AllByRecursion P (cons_option y (filter_map f xs))
    keep None k rest = rest
    keep (Some y) k rest = (k, rest)

pub all_alike : {X : Type 0} (P : X → Type 0) (xs : List X) → ((x : X) → P x) → AllByRecursion P xs
all_alike P [] f = tt
all_alike P (x ∷ xs) f = (f x, all_alike P xs f)

-- what passes a test has what the test shows
pub all_passing : {X : Type 0} (P : X → Type 0) (test : X → Bool) (xs : List X) → ((x : X) → test x ≡ true → P x) → AllByRecursion P (filter test xs)
all_passing P test [] f = tt
all_passing P test (x ∷ xs) f = keep (test x) refl (all_passing P test xs f)
  where
    keep : (b : Bool) → test x ≡ b → AllByRecursion P (filter test xs) → AllByRecursion P (cond b (x ∷ filter test xs) (filter test xs))
    keep true h k = (f x h, k)
    keep false h k = k

pub all-weaker : {X : Type 0} (P Q : X → Type 0) (xs : List X) → ((x : X) → P x → Q x) → AllByRecursion P xs → AllByRecursion Q xs
all-weaker P Q [] f h = tt
all-weaker P Q (x ∷ xs) f h = (f x h.0, all-weaker P Q xs f h.1)

pub filter_all : {X : Type 0} (test : X → Bool) (xs : List X) → AllByRecursion (λ x. test x ≡ true) xs → filter test xs ≡ xs
filter_all test [] h = refl
filter_all test (x ∷ xs) h = rw (h.0, filter_all test xs h.1) refl

-- ---- whether a list has something

abbrev pub some_of : {X : Type 0} → List X → Bool
some_of [] = false
some_of (x ∷ xs) = true

pub some-append : {X : Type 0} (xs ys : List X) → some_of (xs ++ ys) ≡ (some_of xs || some_of ys)
some-append [] ys = refl
some-append (x ∷ xs) ys = refl

pub any_is_some : {X : Type 0} (test : X → Bool) (xs : List X) → list_any test xs ≡ some_of (filter test xs)
any_is_some test [] = refl
any_is_some test (x ∷ xs) = by_test (test x) (any_is_some test xs)
  where
    by_test : (b : Bool) → list_any test xs ≡ some_of (filter test xs) → (b || list_any test xs) ≡ some_of (cond b (x ∷ filter test xs) (filter test xs))
    by_test true ih = refl
    by_test false ih = ih

-- what passes one test passes another
pub any-weaker : {X : Type 0} (p q : X → Bool) (xs : List X) → ((x : X) → p x ≡ true → q x ≡ true) → list_any p xs ≡ true → list_any q xs ≡ true
any-weaker p q [] f h = h
any-weaker p q (x ∷ xs) f h = by_test (p x) refl h (λ later. any-weaker p q xs f later)
  where
    by_test : (b : Bool) → p x ≡ b → (b || list_any p xs) ≡ true → (list_any p xs ≡ true → list_any q xs ≡ true) → (q x || list_any q xs) ≡ true
    by_test true is found more = rw (f x is) refl
    by_test false is found more = or_right (q x) (list_any q xs) (more found)
