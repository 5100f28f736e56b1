-- Maps that hold each value under its own key: what a look-up finds, and what an insertion makes.
use Rattle.std.proofs.Common.{◌≡◌, Bool, true, false, IfSome, cond, List, [], ◌∷◌, Some, map, refl, sym, ◌∙◌}
use Rattle.std.specs.declared.cmp.Ordering.{Ordering}
use Rattle.std.specs.declared.cmp.Ordering.TheVariants.{Less, Equal, Greater}
use Rattle.std.specs.Ordering.{is_eq, match_ordering}
use Rattle.std.specs.List.{find, AllByRecursion}
use Rattle.std.specs.List.Sorted.{IsStrictlySortedBy}
use Rattle.std.specs.Map.{keys_of, values_of, lookup}
use Rattle.std.specs.BTreeMap.{BTreeMap, is_at, get, values, insert_entry}
use Rattle.std.proofs.lemmas.Map.Views.{tells_apart}
use Rattle.policy_values.specs.Keyed.{AreAtTheirKeys, has_key, value_at, with_value}

module _ {K V : Type 0} (cmp : K → K → Ordering) (key : V → K) where
  keys_same : (ps : List (K × V)) → AllByRecursion (λ p. key p.1 ≡ p.0) ps → map key (values_of ps) ≡ keys_of ps
  keys_same [] all = refl
  keys_same (p ∷ ps) all = let later : map key (values_of ps) ≡ keys_of ps = keys_same ps all.1 in λ i. all.0 i ∷ later i

  find_same : (q : K) (ps : List (K × V)) → AllByRecursion (λ p. key p.1 ≡ p.0) ps → lookup (is_at (cmp q)) ps ≡ find (has_key cmp key q) (values_of ps)
  find_same q [] all = refl
  find_same q (p ∷ ps) all =
      let here : p.0 ≡ key p.1 = sym all.0 in
      let later : lookup (is_at (cmp q)) ps ≡ find (has_key cmp key q) (values_of ps) = find_same q ps all.1 in
      λ i. cond (is_eq (cmp q (here i))) (Some p.1) (later i)

  -- a look-up is a search through the values
  pub value_found : (entries : BTreeMap K V) → AreAtTheirKeys cmp key entries → (q : K) → get cmp entries q ≡ value_at cmp key (values entries) q
  value_found entries t q = find_same q entries.entries t.own

  -- the values' keys ascend
  pub keys_ascend : (entries : BTreeMap K V) → AreAtTheirKeys cmp key entries → IsStrictlySortedBy cmp (map key (values entries))
  keys_ascend entries t = rw (keys_same entries.entries t.own) t.ordered

  chosen : (o : Ordering) (x y z : List (K × V)) → values_of (match_ordering o x y z) ≡ match_ordering o (values_of x) (values_of y) (values_of z)
  chosen Less x y z = refl
  chosen Equal x y z = refl
  chosen Greater x y z = refl

  put_same : (v : V) (ps : List (K × V)) → AllByRecursion (λ p. key p.1 ≡ p.0) ps → values_of (insert_entry cmp ps (key v) v) ≡ with_value cmp key v (values_of ps)
  put_same v [] all = refl
  put_same v (p ∷ ps) all =
      let later : values_of (insert_entry cmp ps (key v) v) ≡ with_value cmp key v (values_of ps) = put_same v ps all.1 in
      let here : p.0 ≡ key p.1 = sym all.0 in
      chosen (cmp (key v) p.0) ((key v, v) ∷ p ∷ ps) ((p.0, v) ∷ ps) (p ∷ insert_entry cmp ps (key v) v)
      ∙ (λ i. match_ordering (cmp (key v) (here i)) (v ∷ p.1 ∷ values_of ps) (v ∷ values_of ps) (p.1 ∷ later i))

  -- an insertion puts the value at its place
  pub value_put : (entries : BTreeMap K V) → AreAtTheirKeys cmp key entries → (v : V) → values_of (insert_entry cmp entries.entries (key v) v) ≡ with_value cmp key v (values entries)
  value_put entries t v = put_same v entries.entries t.own

  own_at : (exact : (x y : K) → cmp x y ≡ Equal → x ≡ y) (v : V) (p : K × V) (ps : List (K × V)) (o : Ordering) → cmp (key v) p.0 ≡ o → AllByRecursion (λ q. key q.1 ≡ q.0) (p ∷ ps) → AllByRecursion (λ q. key q.1 ≡ q.0) (insert_entry cmp ps (key v) v) → AllByRecursion (λ q. key q.1 ≡ q.0) (match_ordering o ((key v, v) ∷ p ∷ ps) ((p.0, v) ∷ ps) (p ∷ insert_entry cmp ps (key v) v))
  own_at exact v p ps Less e all later = (refl, all)
  own_at exact v p ps Equal e all later = (exact (key v) p.0 e, all.1)
  own_at exact v p ps Greater e all later = (all.0, later)

  -- after an insertion too each value has the key that it stands at
  pub own_put : (exact : (x y : K) → cmp x y ≡ Equal → x ≡ y) (v : V) (ps : List (K × V)) → AllByRecursion (λ p. key p.1 ≡ p.0) ps → AllByRecursion (λ p. key p.1 ≡ p.0) (insert_entry cmp ps (key v) v)
  own_put exact v [] all = (refl, tt)
  own_put exact v (p ∷ ps) all = own_at exact v p ps (cmp (key v) p.0) refl all (own_put exact v ps all.1)

  -- what is found under a key has the key
  pub value_named : (exact : (x y : K) → cmp x y ≡ Equal → x ≡ y) (vs : List V) (q : K) → IfSome (value_at cmp key vs q) (λ v. key v ≡ q)
  value_named exact [] q = tt
  value_named exact (v ∷ vs) q = by_test (has_key cmp key q v) refl (value_named exact vs q) where
    by_test : (b : Bool) → has_key cmp key q v ≡ b → IfSome (value_at cmp key vs q) (λ w. key w ≡ q) → IfSome (cond b (Some v) (value_at cmp key vs q)) (λ w. key w ≡ q)
    by_test true same later = sym (tells_apart exact q (key v) same)
    by_test false other later = later
