-- The table of functions.
use Rattle.std.proofs.Common.{◌≡◌, ℕ, List, [], ◌∷◌, ◌++◌, Bool, true, false, ◌&&◌, ◌||◌, not, cond, if◌then◌else◌, Some, refl, sym, ap, ◌∙◌, codes}
use Rattle.std.specs.List.{list_any, list_all, IsDistinct, AllByRecursion}
use Rattle.std.specs.Option.{option_map}
use Rattle.std.specs.Ordering.{is_eq}
use Rattle.std.specs.Str.{bytes_eq}
use Rattle.std.specs.Cmp.Lexicographic.{nat_list_cmp_total}
use Rattle.std.proofs.lemmas.Bool.{and_parts, false≢true}
use Rattle.std.proofs.lemmas.Cmp.{eq_by_cmp_equiv}
use Rattle.std.proofs.lemmas.Map.Keys.{IsDistinct-head, IsDistinct-tail}
use Rattle.std.proofs.lemmas.Map.Text.{is_eq-slice_cmp}
use Rattle.std.proofs.lemmas.Map.Views.{list_any-from_Contains}
use Rattle.std.proofs.lemmas.Slice.Eq.{bytes_eq-Decides}
use Rattle.policy_values.specs.Uid.{text_cmp}
use Rattle.policy_expressions.specs.Tables.{beside}
use Rattle.policy_expressions.specs.Functions.{Functions, functions, decimal_functions, ip_functions, datetime_functions, duration_functions, function_of}
use Rattle.policy_expressions.specs.declared.functions.UnaryFunction.TheVariants as unary
use Rattle.policy_expressions.specs.declared.functions.ExtensionFunction.{ExtensionFunction}
use Rattle.policy_expressions.specs.declared.functions.ExtensionFunction.TheVariants.{Unary}
use Rattle.typing_spec.specs.Table.{typed, decimals, ranges, times, all_typed, all_extensions, functions_in, function_at, names_of, AreOnce, IsFirstRepeated}
use Rattle.plain_lemmas.proofs.Booleans.{false_of_not}

-- an entry whose name is new among those before it may stand before them
pick : (q : List ℕ) (e : List ℕ × ExtensionFunction) (prefix rest : Functions) → list_all (λ f. not (bytes_eq e.0 f.0)) prefix ≡ true
    → beside (prefix ++ e ∷ rest) q ≡ (if bytes_eq q e.0 then Some e.1 else beside (prefix ++ rest) q)
pick q e [] rest new = refl
pick q e (f ∷ prefix) rest new =
    let p = and_parts (not (bytes_eq e.0 f.0)) (list_all (λ g. not (bytes_eq e.0 g.0)) prefix) new in
    by (bytes_eq q f.0) refl (bytes_eq q e.0) refl p.0 (pick q e prefix rest p.1)
  where
    by : (b : Bool) → bytes_eq q f.0 ≡ b → (c : Bool) → bytes_eq q e.0 ≡ c → not (bytes_eq e.0 f.0) ≡ true
        → beside (prefix ++ e ∷ rest) q ≡ (if c then Some e.1 else beside (prefix ++ rest) q)
        → (if b then Some f.1 else beside (prefix ++ e ∷ rest) q) ≡ (if c then Some e.1 else (if b then Some f.1 else beside (prefix ++ rest) q))
    by true h true k n later =
        let same : e.0 ≡ f.0 = sym ((bytes_eq-Decides q e.0).0 k) ∙ (bytes_eq-Decides q f.0).0 h in
        absurd (false≢true (rw ((bytes_eq-Decides e.0 f.0).1 same) at n))
    by true h false k n later = refl
    by false h true k n later = later
    by false h false k n later = later

abbrev behind_first : Functions → Functions
behind_first [] = []
behind_first (e ∷ es) = es

-- the table has each name beside its function
same_table : (q : List ℕ) → beside (decimals ++ (ranges ++ times)) q ≡ function_of q
unfolding functions decimal_functions ip_functions datetime_functions duration_functions
same_table q =
    let prefix : Functions = behind_first decimals ++ behind_first ranges in
    ap (λ o. if bytes_eq q (codes "decimal") then Some (Unary unary.Decimal) else o)
    (pick q (codes "ip", Unary unary.Ip) (behind_first decimals) (behind_first ranges ++ times) refl
    ∙ ap (λ o. if bytes_eq q (codes "ip") then Some (Unary unary.Ip) else o)
    (pick q (codes "datetime", Unary unary.Datetime) prefix (behind_first times) refl
    ∙ ap (λ o. if bytes_eq q (codes "datetime") then Some (Unary unary.Datetime) else o)
    (pick q (codes "duration", Unary unary.Duration) prefix (behind_first (behind_first times)) refl)))

-- what is typed of a table is found by name
found_typed : (es : Functions) (q : List ℕ) → function_at (all_typed es) q ≡ option_map (typed q) (beside es q)
found_typed [] q = refl
found_typed (e ∷ es) q = rw (is_eq-slice_cmp q e.0) (by (bytes_eq q e.0) refl (found_typed es q))
  where
    by : (b : Bool) → bytes_eq q e.0 ≡ b → function_at (all_typed es) q ≡ option_map (typed q) (beside es q)
        → cond b (Some (typed e.0 e.1)) (function_at (all_typed es) q) ≡ option_map (typed q) (if b then Some e.1 else beside es q)
    by true h later = let same : q ≡ e.0 = (bytes_eq-Decides q e.0).0 h in ap (λ n. Some (typed n e.1)) (sym same)
    by false h later = later

-- a function of all extensions is that of its name, with its signature
pub all_found : (q : List ℕ) → function_at (functions_in all_extensions) q ≡ option_map (typed q) (function_of q)
all_found q = found_typed (decimals ++ (ranges ++ times)) q ∙ ap (option_map (typed q)) (same_table q)

at_middle : (P : List ℕ → Type 0) (xs ys : List (List ℕ)) (n : List ℕ) → AllByRecursion P (xs ++ n ∷ ys) → P n
at_middle P [] ys n all = all.0
at_middle P (x ∷ xs) ys n all = at_middle P xs ys n all.1

-- no name differs from itself behind names of which it is one
not_again : (before behind : List (List ℕ)) (n : List ℕ) → AreOnce (before ++ n ∷ behind) → list_any (λ m. is_eq (text_cmp n m)) before ≡ true → ⊥
not_again [] behind n once there = false≢true there
not_again (b ∷ before) behind n once there = by (is_eq (text_cmp n b)) refl (not_again before behind n (IsDistinct-tail _ b (before ++ n ∷ behind) once)) there
  where
    other : is_eq (text_cmp b n) ≡ false
    other = at_middle (λ m. is_eq (text_cmp b m) ≡ false) before behind n (IsDistinct-head _ b (before ++ n ∷ behind) once)

    by : (c : Bool) → is_eq (text_cmp n b) ≡ c → (list_any (λ m. is_eq (text_cmp n m)) before ≡ true → ⊥) → (c || list_any (λ m. is_eq (text_cmp n m)) before) ≡ true → ⊥
    by true h later t = false≢true (sym other ∙ (eq_by_cmp_equiv nat_list_cmp_total).symm b n ∙ h)
    by false h later t = later t

pub none_repeated : (names : List (List ℕ)) (n : List ℕ) → AreOnce names → IsFirstRepeated names n → ⊥
none_repeated names n once r = not_again r.before r.behind n (rw r.whole at once) (list_any-from_Contains (eq_by_cmp_equiv nat_list_cmp_total) n r.before r.earlier)

-- whether no name stands twice
is_once : List (List ℕ) → Bool
is_once [] = true
is_once (n ∷ ns) = list_all (λ m. not (is_eq (text_cmp n m))) ns && is_once ns

apart : (n : List ℕ) (ns : List (List ℕ)) → list_all (λ m. not (is_eq (text_cmp n m))) ns ≡ true → AllByRecursion (λ m. is_eq (text_cmp n m) ≡ false) ns
apart n [] e = tt
apart n (m ∷ ms) e = let p = and_parts (not (is_eq (text_cmp n m))) _ e in (false_of_not (is_eq (text_cmp n m)) p.0, apart n ms p.1)

once_by_test : (ns : List (List ℕ)) → is_once ns ≡ true → AreOnce ns
unfolding is_once IsDistinct
once_by_test [] e = tt
once_by_test (n ∷ ns) e = let p = and_parts (list_all (λ m. not (is_eq (text_cmp n m))) ns) (is_once ns) e in (apart n ns p.0, once_by_test ns p.1)

pub all_once : AreOnce (names_of (functions_in all_extensions))
unfolding is_once
all_once = once_by_test (names_of (functions_in all_extensions)) refl
