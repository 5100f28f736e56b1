-- A union holds the names of both.
use Rattle.std.proofs.Common.{◌≡◌, ℕ, List, [], ◌∷◌, Ordering, Bool, true, false, ◌||◌, ap, sym, subst, refl}
use Rattle.std.specs.declared.cmp.Ordering.TheVariants.{Less, Equal, Greater}
use Rattle.std.specs.Ordering.{is_eq, match_ordering, ordering_reverse}
use Rattle.std.specs.BTreeSet.{insert_key}
use Rattle.std.proofs.lemmas.Cmp.{nat_list_cmp_total}
use Rattle.std.proofs.lemmas.Map.Lookups.{exact_bytes}
use Rattle.policy_values.specs.Uid.{text_cmp}
use Rattle.policy_values.specs.Ties.{equal_of}
use Rattle.schema_types.specs.Names.{has_name, AreAmong, union}
use Rattle.plain_lemmas.proofs.Booleans.{or_right_true, or_weaker_right}

pub own_reverse : (o : Ordering) → o ≡ ordering_reverse o → is_eq o ≡ true
own_reverse Less h = cc
own_reverse Equal h = refl
own_reverse Greater h = cc

pub own_text : (k : List ℕ) → is_eq (text_cmp k k) ≡ true
own_text k = own_reverse (text_cmp k k) (nat_list_cmp_total.antisymm k k)

kept_turn : (q n x : List ℕ) (xs ys : List (List ℕ)) (o : Ordering) → (has_name xs q ≡ true → has_name ys q ≡ true) → has_name (x ∷ xs) q ≡ true → has_name (match_ordering o (n ∷ x ∷ xs) (x ∷ xs) (x ∷ ys)) q ≡ true
kept_turn q n x xs ys Less f h = or_right_true (is_eq (text_cmp q n)) (has_name (x ∷ xs) q) h
kept_turn q n x xs ys Equal f h = h
kept_turn q n x xs ys Greater f h = or_weaker_right (is_eq (text_cmp q x)) (has_name xs q) (has_name ys q) f h

kept : (ms : List (List ℕ)) (n q : List ℕ) → has_name ms q ≡ true → has_name (insert_key text_cmp ms n) q ≡ true
kept [] n q h = cc
kept (m ∷ ms) n q h = kept_turn q n m ms (insert_key text_cmp ms n) (text_cmp n m) (kept ms n q) h

there_turn : (n x : List ℕ) (xs ys : List (List ℕ)) (o : Ordering) → text_cmp n x ≡ o → has_name ys n ≡ true → has_name (match_ordering o (n ∷ x ∷ xs) (x ∷ xs) (x ∷ ys)) n ≡ true
there_turn n x xs ys Less e h = ap (λ b. b || has_name (x ∷ xs) n) (own_text n)
there_turn n x xs ys Equal e h = ap (λ o. is_eq o || has_name xs n) e
there_turn n x xs ys Greater e h = or_right_true (is_eq (text_cmp n x)) (has_name ys n) h

there : (ms : List (List ℕ)) (n : List ℕ) → has_name (insert_key text_cmp ms n) n ≡ true
there [] n = ap (λ b. b || false) (own_text n)
there (m ∷ ms) n = there_turn n m ms (insert_key text_cmp ms n) (text_cmp n m) refl (there ms n)

pub union_left : (ms ns : List (List ℕ)) → AreAmong ms (union ms ns)
union_left ms [] q h = h
union_left ms (n ∷ ns) q h = union_left (insert_key text_cmp ms n) ns q (kept ms n q h)

by_first : (q n : List ℕ) (rest goal : Bool) (b : Bool) → is_eq (text_cmp q n) ≡ b → (q ≡ n → goal ≡ true) → (rest ≡ true → goal ≡ true) → (b || rest) ≡ true → goal ≡ true
by_first q n rest goal true e f g h = f (exact_bytes q n (equal_of (text_cmp q n) e))
by_first q n rest goal false e f g h = g h

pub union_right : (ms ns : List (List ℕ)) → AreAmong ns (union ms ns)
union_right ms [] q h = cc
union_right ms (n ∷ ns) q h =
    let more = insert_key text_cmp ms n in
    by_first q n (has_name ns q) (has_name (union more ns) q) (is_eq (text_cmp q n)) refl
    (λ e. union_left more ns q (subst (λ x. has_name more x ≡ true) (sym e) (there ms n)))
    (union_right more ns q) h
