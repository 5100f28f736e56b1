-- What follows of lists by recursion on them.
use Rattle.std.proofs.Common.{◌≡◌, ℕ, zero, suc, ◌<◌, Bool, true, false, ◌||◌, List, [], ◌∷◌, ◌++◌, length, map, is_some, refl, sym, ap, ◌∙◌, arith}
use Rattle.std.specs.List.{AllByRecursion, AllZip, list_any}
use Rattle.std.specs.Prelude.{slice_get}
use Rattle.plain_lemmas.proofs.Booleans.{or_weaker}

pub append_empty : {X : Type 0} (xs : List X) → xs ++ [] ≡ xs
append_empty [] = refl
append_empty (x ∷ xs) = ap (λ ys. x ∷ ys) (append_empty xs)

pub append_empty_parts : {X : Type 0} (xs ys : List X) → xs ++ ys ≡ [] → (xs ≡ []) × (ys ≡ [])
append_empty_parts [] ys h = (refl, h)
append_empty_parts (x ∷ xs) ys h = absurd (cc)

pub empty_of_length : {X : Type 0} (xs : List X) → length xs ≡ 0 → xs ≡ []
empty_of_length [] h = refl
empty_of_length (x ∷ xs) h = absurd (omega (arith, h))

-- there is an item at each place below the length, and at no other
pub is_some_within : {X : Type 0} (xs : List X) (i : ℕ) → i < length xs → is_some (slice_get xs i) ≡ true
is_some_within [] i h = absurd (omega (arith, h))
is_some_within (x ∷ xs) zero h = refl
is_some_within (x ∷ xs) (suc i) h = is_some_within xs i (omega (arith, h))

pub within_of_is_some : {X : Type 0} (xs : List X) (i : ℕ) → is_some (slice_get xs i) ≡ true → i < length xs
within_of_is_some [] i h = cc
within_of_is_some (x ∷ xs) zero h = omega arith
within_of_is_some (x ∷ xs) (suc i) h = omega (arith, within_of_is_some xs i h)

-- a weaker test passes where a test does
pub any_weaker : {X : Type 0} (f g : X → Bool) (xs : List X) → ((x : X) → f x ≡ true → g x ≡ true) → list_any f xs ≡ true → list_any g xs ≡ true
any_weaker f g [] h k = k
any_weaker f g (x ∷ xs) h k = or_weaker (f x) (list_any f xs) (g x) (list_any g xs) (h x) (any_weaker f g xs h) k

pub all_weaker : {X : Type 0} {P Q : X → Type 0} → ((x : X) → P x → Q x) → (xs : List X) → AllByRecursion P xs → AllByRecursion Q xs
all_weaker f [] h = tt
all_weaker f (x ∷ xs) h = (f x h.0, all_weaker f xs h.1)

pub all_push : {X : Type 0} (P : X → Type 0) (xs : List X) (x : X) → AllByRecursion P xs → P x → AllByRecursion P (xs ++ x ∷ [])
all_push P [] x h p = (p, tt)
all_push P (y ∷ xs) x h p = (h.0, all_push P xs x h.1 p)

pub all_map : {X Y : Type 0} (f : X → Y) (P : Y → Type 0) (xs : List X) → AllByRecursion (λ x. P (f x)) xs → AllByRecursion P (map f xs)
all_map f P [] h = tt
all_map f P (x ∷ xs) h = (h.0, all_map f P xs h.1)

pub all_of_map : {X Y : Type 0} (f : X → Y) (P : Y → Type 0) (xs : List X) → AllByRecursion P (map f xs) → AllByRecursion (λ x. P (f x)) xs
all_of_map f P [] h = tt
all_of_map f P (x ∷ xs) h = (h.0, all_of_map f P xs h.1)

pub zip_length : {X Y : Type 0} (R : X → Y → Type 0) (xs : List X) (ys : List Y) → AllZip R xs ys → length xs ≡ length ys
zip_length R [] [] all = refl
zip_length R [] (y ∷ ys) all = absurd all
zip_length R (x ∷ xs) [] all = absurd all
zip_length R (x ∷ xs) (y ∷ ys) all = ap suc (zip_length R xs ys all.1)
