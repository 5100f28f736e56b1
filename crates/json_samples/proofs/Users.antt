-- One user more.
use Rattle.std.proofs.Common.{◌≡◌, ℕ, zero, suc, ◌+◌, ◌*◌, ◌<◌, List, [], ◌∷◌, ◌++◌, length, map, refl, sym, ap, ◌∙◌, arith, append_assoc, rules}
use Rattle.std.proofs.lemmas.List.{append-nil}
use Rattle.std.specs.Fn.{iterate}
use Rattle.std.specs.List.{join_with_byte, range_with_len}
use Rattle.std.proofs.lemmas.List.FromFn.{map-range_with_len_more, length-map-range_with_len}
use Rattle.json_samples.specs.Sample.{next_state, drawn_user, users_text, comma}

iterate-add : {A : Type 0} (h : A → A) (m n k : ℕ) (x : A) → m + n ≡ k → iterate h n (iterate h m x) ≡ iterate h k x
iterate-add h zero n k x e = let f : n ≡ k = omega arith in ap (λ j. iterate h j x) f
iterate-add h (suc m) n zero x e = absurd (omega arith)
iterate-add h (suc m) n (suc k) x e = iterate-add h m n k (h x) (omega arith)

-- the state after the three draws of a user
pub three_more : (seed i : ℕ) → iterate next_state 3 (iterate next_state (3 * i) seed) ≡ iterate next_state (3 * (i + 1)) seed
three_more seed i = iterate-add next_state (3 * i) 3 (3 * (i + 1)) seed (omega arith)

comma-later : (n : ℕ) → 0 < n → comma n ≡ 44 ∷ []
comma-later n lt = search rules

join-push : (c : ℕ) (x : List ℕ) (xs : List (List ℕ)) (y : List ℕ) → join_with_byte c ((x ∷ xs) ++ y ∷ []) ≡ join_with_byte c (x ∷ xs) ++ c ∷ y
join-push c x [] y = refl
join-push c x (z ∷ zs) y = ap (λ l. x ++ c ∷ l) (join-push c z zs y) ∙ sym (append_assoc x (c ∷ join_with_byte c (z ∷ zs)) (c ∷ y))

join-more : (c : ℕ) (xs : List (List ℕ)) (y : List ℕ) → 0 < length xs → join_with_byte c (xs ++ y ∷ []) ≡ join_with_byte c xs ++ c ∷ y
join-more c [] y lt = absurd (omega arith)
join-more c (x ∷ xs) y lt = join-push c x xs y

-- the user number n, drawn from where the one before it ended
abbrev pub user_at : ℕ → ℕ → ℕ → List ℕ
user_at seed size n = drawn_user (iterate next_state (3 * n) seed) size n

pub no_users : (seed size : ℕ) → users_text seed size 0 ≡ []
unfolding users_text
no_users seed size = refl

pub more_users : (seed size n : ℕ) → users_text seed size (n + 1) ≡ users_text seed size n ++ (comma n ++ user_at seed size n)
unfolding users_text
more_users seed size zero = refl
more_users seed size (suc n) =
    let users : ℕ → List ℕ = user_at seed size in
    let later : 0 < suc n = omega arith in
    ap (join_with_byte 44) (map-range_with_len_more users 0 (suc n) (suc n) (omega arith)) ∙ join-more 44 (map users (range_with_len 0 (suc n))) (users (suc n)) (omega (arith, length-map-range_with_len users 0 (suc n))) ∙ ap (λ l. users_text seed size (suc n) ++ (l ++ users (suc n))) (sym (comma-later (suc n) later))

pub written_first : (seed size : ℕ) (text : List ℕ) → text ≡ text ++ users_text seed size 0
written_first seed size text = sym (ap (λ l. text ++ l) (no_users seed size) ∙ append-nil text)

-- a text to which the user number n was added
pub written_more : (seed size n state : ℕ) (before text with_comma with_user : List ℕ) → text ≡ before ++ users_text seed size n → with_comma ≡ text ++ comma n → with_user ≡ with_comma ++ drawn_user state size n → state ≡ iterate next_state (3 * n) seed → with_user ≡ before ++ users_text seed size (n + 1)
written_more seed size n state before text with_comma with_user a b d e =
    let user : List ℕ = user_at seed size n in
    let users : List ℕ = users_text seed size n in
    d ∙ ap (λ x. with_comma ++ drawn_user x size n) e ∙ ap (λ l. l ++ user) (b ∙ ap (λ l. l ++ comma n) a) ∙ append_assoc (before ++ users) (comma n) user ∙ append_assoc before users (comma n ++ user) ∙ sym (ap (λ l. before ++ l) (more_users seed size n))
