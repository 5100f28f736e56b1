-- Functions that are gathered under their names, one by one.
use Rattle.std.proofs.Common.{◌≡◌, ℕ, List, [], ◌∷◌, ◌++◌, Bool, true, false, ◌||◌, cond, Option, Some, None, is_some, refl, sym, ap, subst, ◌∙◌, ◌+◌, take, drop}
use denote.Ref.{Bor}
use Rattle.std.specs.List.{list_any, flat_map, IsDistinct}
use Rattle.std.specs.Option.{option_copied, option_or}
use Rattle.std.specs.Ordering.{is_eq}
use Rattle.std.specs.BTreeMap.{BTreeMap, get}
use Rattle.std.specs.BTreeSet.{insert_key}
use Rattle.std.specs.Cmp.Lexicographic.{nat_list_cmp_total}
use Rattle.std.proofs.lemmas.Cmp.{eq_by_cmp_equiv}
use Rattle.std.proofs.lemmas.List.{map-append, append-nil, append_assoc, take-append-drop}
use Rattle.std.proofs.lemmas.List.Concat.{flat_map-append}
use Rattle.std.proofs.lemmas.List.Folds.{find-append}
use Rattle.std.proofs.lemmas.Map.Keys.{IsDistinct-push}
use Rattle.std.proofs.lemmas.Map.Lookups.{exact_bytes}
use Rattle.std.proofs.lemmas.Map.Views.{tells_apart, Contains-from_any}
use Rattle.policy_values.specs.Uid.{text_cmp}
use Rattle.schema_types.specs.Names.{union}
use Rattle.typing_spec.specs.Types.{FunctionType, Extension}
use Rattle.typing_spec.specs.Table.{functions_in, overloading_in, function_at, names_of, AreOnce, IsFirstRepeated}
use Rattle.typing_spec.specs.ByName.{AreByName, pointed}
use Rattle.plain_lemmas.proofs.Options.{none_of_no_some}

-- the functions are under their names, and no name stands twice
pub record AreGathered (fs : List FunctionType) (entries : BTreeMap (List ℕ) (Bor FunctionType)) : Type 0 where
  pub found : AreByName fs entries
  pub once : AreOnce (names_of fs)

-- a function is found exactly where its name is among the names
named : (fs : List FunctionType) (q : List ℕ) → list_any (λ n. is_eq (text_cmp q n)) (names_of fs) ≡ is_some (function_at fs q)
named [] q = refl
named (f ∷ fs) q = by (is_eq (text_cmp q f.name)) (named fs q)
  where
    by : (b : Bool) → list_any (λ n. is_eq (text_cmp q n)) (names_of fs) ≡ is_some (function_at fs q) → (b || list_any (λ n. is_eq (text_cmp q n)) (names_of fs)) ≡ is_some (cond b (Some f) (function_at fs q))
    by true e = refl
    by false e = e

copied_some : (o : Option (Bor FunctionType)) → is_some (option_copied o) ≡ is_some o
copied_some None = refl
copied_some (Some x) = refl

-- whether the name is among the names, by the map
among : (fs : List FunctionType) (entries : BTreeMap (List ℕ) (Bor FunctionType)) → AreByName fs entries → (q : List ℕ) → list_any (λ n. is_eq (text_cmp q n)) (names_of fs) ≡ is_some (get text_cmp entries q)
among fs entries h q = named fs q ∙ ap is_some (sym (h q)) ∙ copied_some (get text_cmp entries q)

-- one function more behind the others
found_behind : (fs : List FunctionType) (f : FunctionType) (q : List ℕ) → function_at fs f.name ≡ None → function_at (fs ++ f ∷ []) q ≡ cond (is_eq (text_cmp f.name q)) (Some f) (function_at fs q)
found_behind fs f q none = find-append (λ (g : FunctionType). is_eq (text_cmp q g.name)) fs (f ∷ []) ∙ by (is_eq (text_cmp f.name q)) refl
  where
    or_none : (o : Option FunctionType) → option_or o None ≡ o
    or_none None = refl
    or_none (Some g) = refl

    by : (b : Bool) → is_eq (text_cmp f.name q) ≡ b → option_or (function_at fs q) (cond (is_eq (text_cmp q f.name)) (Some f) None) ≡ cond b (Some f) (function_at fs q)
    by true h =
        let gone : function_at fs q ≡ None = ap (function_at fs) (sym (tells_apart exact_bytes f.name q h)) ∙ none in
        rw (gone, (eq_by_cmp_equiv nat_list_cmp_total).symm q f.name, h) refl
    by false h = rw ((eq_by_cmp_equiv nat_list_cmp_total).symm q f.name, h) (or_none (function_at fs q))

pub gathered_none : (entries : BTreeMap (List ℕ) (Bor FunctionType)) → entries.entries ≡ [] → AreGathered [] entries
unfolding IsDistinct
gathered_none entries e = record { found = λ name. rw e refl; once = tt }

pub gathered_more : (fs : List FunctionType) (entries entries' : BTreeMap (List ℕ) (Bor FunctionType)) (f : Bor FunctionType) → AreGathered fs entries
    → get text_cmp entries f.now.name ≡ None
    → ((q : List ℕ) → get text_cmp entries' q ≡ cond (is_eq (text_cmp f.now.name q)) (Some f) (get text_cmp entries q))
    → AreGathered (fs ++ f.now ∷ []) entries'
gathered_more fs entries entries' f g new update = record {
  found = λ q. ap option_copied (update q) ∙ copied (is_eq (text_cmp f.now.name q)) (get text_cmp entries q) ∙ ap (λ o. cond (is_eq (text_cmp f.now.name q)) (Some f.now) o) (g.found q) ∙ sym (found_behind fs f.now q (sym (g.found f.now.name) ∙ ap option_copied new));
  once = rw (map-append (λ (h : FunctionType). h.name) fs (f.now ∷ [])) (IsDistinct-push (eq_by_cmp_equiv nat_list_cmp_total) (names_of fs) f.now.name g.once (among fs entries g.found f.now.name ∙ ap is_some new));
}
  where
    copied : (b : Bool) (o : Option (Bor FunctionType)) → option_copied (cond b (Some f) o) ≡ cond b (Some f.now) (option_copied o)
    copied true o = refl
    copied false o = refl

pub gathered_again : (fs rest : List FunctionType) (entries : BTreeMap (List ℕ) (Bor FunctionType)) (f : FunctionType) → AreGathered fs entries
    → is_some (get text_cmp entries f.name) ≡ true
    → IsFirstRepeated (names_of (fs ++ f ∷ rest)) f.name
gathered_again fs rest entries f g again = record {
  before = names_of fs;
  behind = names_of rest;
  whole = map-append (λ (g : FunctionType). g.name) fs (f ∷ rest);
  earlier = Contains-from_any (tells_apart exact_bytes) f.name (names_of fs) (among fs entries g.found f.name ∙ again);
  once = g.once;
}

pub functions_more : (es : List Extension) (e : Extension) → functions_in (es ++ e ∷ []) ≡ functions_in es ++ e.function_types
functions_more es e = flat_map-append (λ (e : Extension). e.function_types) es (e ∷ []) ∙ ap (λ r. functions_in es ++ r) (append-nil e.function_types)

union_behind : (ms xs ys : List (List ℕ)) → union ms (xs ++ ys) ≡ union (union ms xs) ys
union_behind ms [] ys = refl
union_behind ms (x ∷ xs) ys = union_behind (insert_key text_cmp ms x) xs ys

pub overloading_more : (es : List Extension) (e : Extension) → overloading_in (es ++ e ∷ []) ≡ union (overloading_in es) e.overloading
overloading_more es e =
    ap (union []) (flat_map-append (λ (e : Extension). e.overloading) es (e ∷ []) ∙ ap (λ r. flat_map (λ (e : Extension). e.overloading) es ++ r) (append-nil e.overloading))
    ∙ union_behind [] (flat_map (λ (e : Extension). e.overloading) es) e.overloading

-- the function at a place, where those before it are gathered
pub repeated_at : (fs : List (Bor FunctionType)) (i : ℕ) (x : Bor FunctionType) (entries : BTreeMap (List ℕ) (Bor FunctionType)) (name : List ℕ) → take (i + 1) fs ≡ take i fs ++ x ∷ []
    → AreGathered (pointed (take i fs)) entries → name ≡ x.now.name → is_some (get text_cmp entries name) ≡ true → IsFirstRepeated (names_of (pointed fs)) name
repeated_at fs i x entries name next g same again =
    let rest = drop (i + 1) fs in
    let split : pointed fs ≡ pointed (take i fs) ++ x.now ∷ pointed rest =
    ap pointed (sym (take-append-drop (i + 1) fs) ∙ ap (λ l. l ++ rest) next ∙ append_assoc (take i fs) (x ∷ []) rest) ∙ map-append (λ (f : Bor FunctionType). f.now) (take i fs) (x ∷ rest) in
    subst (λ l. IsFirstRepeated (names_of l) name) (sym split) (subst (λ n. IsFirstRepeated (names_of (pointed (take i fs) ++ x.now ∷ pointed rest)) n) (sym same)
    (gathered_again (pointed (take i fs)) (pointed rest) entries x.now g (subst (λ n. is_some (get text_cmp entries n) ≡ true) same again)))

pub gathered_at : (fs : List (Bor FunctionType)) (i : ℕ) (x : Bor FunctionType) (entries entries' : BTreeMap (List ℕ) (Bor FunctionType)) (name : List ℕ) → take (i + 1) fs ≡ take i fs ++ x ∷ []
    → AreGathered (pointed (take i fs)) entries → name ≡ x.now.name → is_some (get text_cmp entries name) ≡ false
    → ((q : List ℕ) → get text_cmp entries' q ≡ cond (is_eq (text_cmp name q)) (Some x) (get text_cmp entries q))
    → AreGathered (pointed (take (i + 1) fs)) entries'
gathered_at fs i x entries entries' name next g same new update =
    subst (λ l. AreGathered l entries') (sym (ap pointed next ∙ map-append (λ (f : Bor FunctionType). f.now) (take i fs) (x ∷ [])))
    (gathered_more (pointed (take i fs)) entries entries' x g (none_of_no_some (get text_cmp entries x.now.name) (subst (λ n. is_some (get text_cmp entries n) ≡ false) same new))
    (λ q. subst (λ n. get text_cmp entries' q ≡ cond (is_eq (text_cmp n q)) (Some x) (get text_cmp entries q)) same (update q)))
