-- The test for names says the names.
use Rattle.std.proofs.Common.{◌≡◌, ◌≢◌, ℕ, suc, zero, ◌<◌, List, [], ◌∷◌, ◌++◌, length, slice_index, EachIndex, Bool, true, false, ◌&&◌, ◌==◌, if◌then◌else◌, arith, sym, subst, refl, codes, Some, None, append_assoc}
use Rattle.std.specs.Bool.{Decides}
use Rattle.std.specs.List.{list_all}
use Rattle.std.proofs.lemmas.Bool.{and_parts, and_from, and_left, and_right}
use Rattle.std.proofs.lemmas.Bool.Decides.{nat_tests, Decides-and, Decides-like, Decides-not}
use Rattle.std.proofs.lemmas.List.{append-nil}
use Rattle.std.proofs.lemmas.List.Folds.{list_all-append}
use Rattle.std.proofs.lemmas.Slice.Eq.{bytes_eq-Decides}
use Rattle.policy_values.specs.Name.{IsHead, IsTail, IsComponent, IsName, last, then, IsPrefix}
use Rattle.policy_values.proofs.NamePrefix.{name_prefix, name_step, name_stops}
use Rattle.json_values.specs.Names.{is_head, is_tail, is_component, is_name_after, is_name, name_of_text}

head_known : (c : ℕ) → Decides (is_head c) (IsHead c)
head_known c = (λ e. grind (arith, nat_tests), λ h. grind (arith, nat_tests))

tail_known : (c : ℕ) → Decides (is_tail c) (IsTail c)
tail_known c = (λ e. grind (arith, nat_tests), λ h. grind (arith, nat_tests))

abbrev AllTail : List ℕ → Type 0
AllTail word = EachIndex word (λ k. IsTail (slice_index word k))

tails : (cs : List ℕ) → list_all is_tail cs ≡ true → AllTail cs
tails [] e k h = absurd (omega arith)
tails (c ∷ cs) e zero h = (tail_known c).0 (and_parts (is_tail c) (list_all is_tail cs) e).0
tails (c ∷ cs) e (suc k) h = tails cs (and_parts (is_tail c) (list_all is_tail cs) e).1 k (omega arith)

tails_from : (cs : List ℕ) → AllTail cs → list_all is_tail cs ≡ true
tails_from [] h = refl
tails_from (c ∷ cs) h = and_from (is_tail c) (list_all is_tail cs) ((tail_known c).1 (h 0 (omega arith))) (tails_from cs (λ k l. h (suc k) (omega arith)))

component_known : (cs : List ℕ) → Decides (is_component cs) (IsComponent cs)
component_known cs = Decides-like (is_component cs)
    (λ (p : (0 < length cs) × ((IsHead (slice_index cs 0)) × ((AllTail cs) × (¬ cs ≡ codes "__cedar")))). record { long = p.0; head = p.1.0; each = p.1.1.0; allowed = p.1.1.1 })
    (λ c. (c.long, (c.head, (c.each, c.allowed))))
    (Decides-and _ _ (λ e. grind (arith, nat_tests), λ h. grind (arith, nat_tests)) (Decides-and _ _ (head_known (slice_index cs 0)) (Decides-and _ _ (tails cs, tails_from cs) (Decides-not _ (bytes_eq-Decides cs (codes "__cedar"))))))

prefix : (word left : List ℕ) → list_all is_tail word ≡ true → (0 < length left → IsTail (slice_index left 0) → ⊥) → IsPrefix (word ++ left) word left
prefix word left t e = record { whole = refl; each = tails word t; end = e }

none_left : 0 < length {A = ℕ} [] → IsTail (slice_index [] 0) → ⊥
none_left h t = omega arith

-- a text of letters, digits and `_` alone is a name where it is a component
word_known : (word : List ℕ) → list_all is_tail word ≡ true → Decides (is_component word) (IsName word)
word_known word t = Decides-like (is_component word) (λ c. last word c)
    (λ n. (name_prefix (word ++ []) word [] (prefix word [] t none_left) (subst IsName (sym (append-nil word)) n)).0)
    (component_known word)

-- no name has another byte behind its first letters, but for two colons
stray : (word : List ℕ) (c : ℕ) (rest : List ℕ) → list_all is_tail word ≡ true → is_tail c ≡ false → ((next : List ℕ) → c ∷ rest ≢ codes "::" ++ next) → ¬ IsName (word ++ c ∷ rest)
stray word c rest t s n = name_stops (word ++ c ∷ rest) word (c ∷ rest)
    (prefix word (c ∷ rest) t (λ h i. grind (arith, (tail_known c).1 i)))
    (λ e. cc) n

grown : (word : List ℕ) (c : ℕ) → list_all is_tail word ≡ true → is_tail c ≡ true → list_all is_tail (word ++ c ∷ []) ≡ true
grown word c t s = rw (list_all-append, t, s) refl

spoilt : (word : List ℕ) (c : ℕ) → is_tail c ≡ false → list_all is_tail (word ++ c ∷ []) ≡ false
spoilt word c s = rw (list_all-append, s) (and_right (list_all is_tail word) false refl)

no_component : (word : List ℕ) → list_all is_tail word ≡ false → is_component word ≡ false
no_component word e = rw e (and_right _ _ (and_right _ _ refl))

spoilt_on : (word : List ℕ) (c : ℕ) → list_all is_tail word ≡ false → list_all is_tail (word ++ c ∷ []) ≡ false
spoilt_on word c e = rw (list_all-append, e) refl

either_false : (b x y : Bool) → x ≡ false → y ≡ false → (if b then x else y) ≡ false
either_false true x y e f = e
either_false false x y e f = f

-- where another byte stands in the word before it, there is no name
bad : (word text : List ℕ) → list_all is_tail word ≡ false → is_name_after word text ≡ false
unfolding is_name_after
bad word [] e = no_component word e
bad word (c ∷ []) e = no_component (word ++ c ∷ []) (spoilt_on word c e)
bad word (c ∷ d ∷ rest) e = either_false (c == 58 && d == 58) _ _ (and_left _ _ (no_component word e)) (bad (word ++ c ∷ []) (d ∷ rest) (spoilt_on word c e))

one_more : (word : List ℕ) (c : ℕ) (rest : List ℕ) → (word ++ c ∷ []) ++ rest ≡ word ++ c ∷ rest
one_more word c rest = append_assoc word (c ∷ []) rest

is_false : {P : Type 0} (b : Bool) → b ≡ false → ¬ P → Decides b P
is_false b e n = (λ t. grind arith, λ p. absurd (n p))

last_known : (word : List ℕ) (c : ℕ) → list_all is_tail word ≡ true → (b : Bool) → is_tail c ≡ b → Decides (is_component (word ++ c ∷ [])) (IsName (word ++ c ∷ []))
last_known word c t true s = word_known (word ++ c ∷ []) (grown word c t s)
last_known word c t false s = is_false _ (no_component (word ++ c ∷ []) (spoilt word c s)) (stray word c [] t s (λ next e. cc))

colons_end : (rest : List ℕ) → 0 < length (58 ∷ 58 ∷ rest) → IsTail (slice_index (58 ∷ 58 ∷ rest) 0) → ⊥
colons_end rest h t = grind (arith, (tail_known 58).1 t)

colons_known : (word rest : List ℕ) (b : Bool) → list_all is_tail word ≡ true → Decides b (IsName rest) → Decides (is_component word && b) (IsName (word ++ 58 ∷ 58 ∷ rest))
colons_known word rest b t h = Decides-like (is_component word && b) (λ p. (then) word rest p.0 p.1)
    (λ n. let c = (name_prefix (word ++ 58 ∷ 58 ∷ rest) word (58 ∷ 58 ∷ rest) f n).0 in (c, (name_step (word ++ 58 ∷ 58 ∷ rest) word (58 ∷ 58 ∷ rest) rest f c refl).0 n))
    (Decides-and (is_component word) b (component_known word) h)
  where
    f : IsPrefix (word ++ 58 ∷ 58 ∷ rest) word (58 ∷ 58 ∷ rest)
    f = prefix word (58 ∷ 58 ∷ rest) t (colons_end rest)

other_known : (word : List ℕ) (c d : ℕ) (rest : List ℕ) → list_all is_tail word ≡ true → (c == 58 && d == 58) ≡ false
    → (list_all is_tail (word ++ c ∷ []) ≡ true → Decides (is_name_after (word ++ c ∷ []) (d ∷ rest)) (IsName ((word ++ c ∷ []) ++ d ∷ rest)))
    → (b : Bool) → is_tail c ≡ b → Decides (is_name_after (word ++ c ∷ []) (d ∷ rest)) (IsName (word ++ c ∷ d ∷ rest))
other_known word c d rest t e on true s = subst (λ (x : List ℕ). Decides (is_name_after (word ++ c ∷ []) (d ∷ rest)) (IsName x)) (one_more word c (d ∷ rest)) (on (grown word c t s))
other_known word c d rest t e on false s = is_false _ (bad (word ++ c ∷ []) (d ∷ rest) (spoilt word c s)) (stray word c (d ∷ rest) t s (λ next p. no_colons next p))
  where
    no_colons : (next : List ℕ) → c ∷ d ∷ rest ≡ codes "::" ++ next → ⊥
    no_colons next p = let x : c ≡ 58 = cc in let y : d ≡ 58 = cc in grind (arith, nat_tests)

pair_known : (word : List ℕ) (c d : ℕ) (rest : List ℕ) → list_all is_tail word ≡ true
    → Decides (is_name_after [] rest) (IsName rest)
    → (list_all is_tail (word ++ c ∷ []) ≡ true → Decides (is_name_after (word ++ c ∷ []) (d ∷ rest)) (IsName ((word ++ c ∷ []) ++ d ∷ rest)))
    → (b : Bool) → (c == 58 && d == 58) ≡ b → Decides (if b then is_component word && is_name_after [] rest else is_name_after (word ++ c ∷ []) (d ∷ rest)) (IsName (word ++ c ∷ d ∷ rest))
pair_known word c d rest t behind on true e =
    let x : c ≡ 58 = grind (arith, nat_tests) in let y : d ≡ 58 = grind (arith, nat_tests) in
    rw (x, y) (colons_known word rest (is_name_after [] rest) t behind)
pair_known word c d rest t behind on false e = other_known word c d rest t e on (is_tail c) refl

-- behind a word one comes to a name by the test exactly where the whole is one
after_known : (word text : List ℕ) → list_all is_tail word ≡ true → Decides (is_name_after word text) (IsName (word ++ text))
unfolding is_name_after
after_known word [] t = rw append-nil (word_known word t)
after_known word (c ∷ []) t = last_known word c t (is_tail c) refl
after_known word (c ∷ d ∷ rest) t = pair_known word c d rest t (after_known [] rest refl) (after_known (word ++ c ∷ []) (d ∷ rest)) (c == 58 && d == 58) refl

pub name_reported : (text : List ℕ) → Decides (is_name text) (IsName text)
unfolding is_name
name_reported text = after_known [] text refl

pub name_found : (text n : List ℕ) → IsName text → n ≡ text → Some n ≡ name_of_text text
name_found text n h e = rw ((name_reported text).1 h, e) refl

pub name_missing : (text : List ℕ) → ¬ IsName text → None ≡ name_of_text text
name_missing text h = missing (is_name text) refl
  where
    missing : (b : Bool) → is_name text ≡ b → None ≡ (if b then Some text else None)
    missing true e = absurd (h ((name_reported text).0 e))
    missing false e = refl
