-- The tries of what is left.
use Rattle.std.proofs.Common.{◌≡◌, ◌==◌, ◌≤◌, ◌<◌, ◌+◌, ℕ, arith, Bool, false, ◌||◌, List, [], ◌∷◌, ◌++◌, length, take, get_or, Option, Some, None, refl, sym, ap, ◌∙◌, subst}
use Rattle.std.specs.Prelude.{slice_get, IsSomeAnd, MatchOption}
use Rattle.std.specs.List.{AllZip, list_any}
use Rattle.std.specs.Option.{option_map_or}
use Rattle.std.specs.declared.vec.Vec.{Vec}
use Rattle.std.specs.declared.alloc.Global.{Global}
use Rattle.std.proofs.lemmas.List.Folds.{list_any-append}
use Rattle.std.proofs.lemmas.Option.{slice_get-get_or}
use Rattle.std.proofs.lemmas.Slice.Zip.{AllZip-left}
use Rattle.std.proofs.Math.Seq.{take-length}
use Rattle.plain_lemmas.proofs.Booleans.{or_false}
use Rattle.access_tries.specs.Edges.{Address}
use Rattle.access_tries.specs.Paths.{IsUnion}
use Rattle.access_tries.specs.Table.{Table, leads, is_marked}
use Rattle.schema_core.specs.EnvData.{EnvData, undeclared_action, unlinked_envs}
use Rattle.schema_core.specs.Schema.{SchemaData}
use Rattle.policy_set.specs.Data.{PolicyData}
use Rattle.manifest_computation.proofs.Additions.{empty_leads, empty_marks}
use Rattle.manifest_computation.proofs.Entries.{taken_one_more, zip_last}
use Rattle.live_manifest.specs.Tries.{HasTriesOf, IsTrieOr, IsUnionAt}
use Rattle.live_manifest.specs.Unions.{IsTrieOfPolicies}
use Rattle.live_manifest.proofs.Unions.{IsByFirst, asks_by, asks_first, goes_by, goes_first}

module _ (i : ℕ) where
  abbrev leads_in : Address → Vec Table Global → Bool
  leads_in es v = option_map_or (λ u. leads u es) (slice_get v.items i) false

  abbrev marked_in : Address → Vec Table Global → Bool
  marked_in es v = option_map_or (λ u. is_marked u es) (slice_get v.items i) false

  pub of_none : (vs : List (Vec Table Global)) (t : Table) → vs ≡ [] → t ≡ [] → IsUnionAt i vs t
  of_none vs t none h = subst (λ ws. IsUnionAt i ws t) (sym none) (record { paths = λ es. ap (λ u. leads u es) h ∙ empty_leads es; marks = λ es. ap (λ u. is_marked u es) h ∙ empty_marks es })

  pub of_one : (vs : List (Vec Table Global)) (v : Vec Table Global) (t : Table) → vs ≡ v ∷ [] → IsTrieOr (slice_get v.items i) t → IsUnionAt i vs t
  of_one vs v t one h = subst (λ ws. IsUnionAt i ws t) (sym one) (record { paths = λ es. path es (slice_get v.items i) h ∙ sym (or_false (leads_in es v)); marks = λ es. mark es (slice_get v.items i) h ∙ sym (or_false (marked_in es v)) })
    where
      path : (es : Address) (o : Option Table) → IsTrieOr o t → leads t es ≡ option_map_or (λ u. leads u es) o false
      path es (Some u) h = ap (λ u. leads u es) h
      path es None h = ap (λ u. leads u es) h ∙ empty_leads es

      mark : (es : Address) (o : Option Table) → IsTrieOr o t → is_marked t es ≡ option_map_or (λ u. is_marked u es) o false
      mark es (Some u) h = ap (λ u. is_marked u es) h
      mark es None h = ap (λ u. is_marked u es) h ∙ empty_marks es

  pub of_halves : (us vs ws : List (Vec Table Global)) → us ++ vs ≡ ws → (t u v : Table) → IsUnionAt i us t → IsUnionAt i vs u → IsUnion t u v → IsUnionAt i ws v
  of_halves us vs ws both t u v h k n = record {
    paths = λ es. n.paths es ∙ (λ j. h.paths es j || k.paths es j) ∙ joined (leads_in es);
    marks = λ es. n.marks es ∙ (λ j. h.marks es j || k.marks es j) ∙ joined (marked_in es);
  }
    where
      joined : (g : Vec Table Global → Bool) → (list_any g us || list_any g vs) ≡ list_any g ws
      joined g = sym (list_any-append g us vs) ∙ ap (list_any g) both

-- the union of the tries of each policy in an environment
module _ (i : ℕ) (schema : SchemaData) (env : EnvData) where
  abbrev IsOf : PolicyData → Vec Table Global → Type 0
  IsOf p v = IsSomeAnd (slice_get v.items i) (IsTrieOfPolicies schema env (p ∷ []))

  any_of : (g : List PolicyData → Bool) → g [] ≡ false → IsByFirst g → (test : Table → Bool) → ((p : PolicyData) (u : Table) → IsTrieOfPolicies schema env (p ∷ []) u → test u ≡ g (p ∷ [])) →
      (ps : List PolicyData) (vs : List (Vec Table Global)) → AllZip IsOf ps vs → list_any (λ v. option_map_or test (slice_get v.items i) false) vs ≡ g ps
  any_of g none first test same [] [] h = sym none
  any_of g none first test same [] (v ∷ vs) h = absurd h
  any_of g none first test same (p ∷ ps) [] h = absurd h
  any_of g none first test same (p ∷ ps) (v ∷ vs) h = (λ j. one (slice_get v.items i) h.0 j || any_of g none first test same ps vs h.1 j) ∙ sym (first p ps)
    where
      one : (o : Option Table) → IsSomeAnd o (IsTrieOfPolicies schema env (p ∷ [])) → option_map_or test o false ≡ g (p ∷ [])
      one (Some u) k = same p u k
      one None k = absurd k

  trie_of_all : (ps : List PolicyData) (vs : List (Vec Table Global)) → AllZip IsOf ps vs → (t : Table) → IsUnionAt i vs t → IsTrieOfPolicies schema env ps t
  trie_of_all ps vs h t n = record {
    paths = λ es. n.paths es ∙ any_of (goes_by schema env es) refl (goes_first schema env es) (λ u. leads u es) (λ p u k. k.paths es) ps vs h;
    marks = λ es. n.marks es ∙ any_of (asks_by schema env es) refl (asks_first schema env es) (λ u. is_marked u es) (λ p u k. k.marks es) ps vs h;
  }

  -- at one place
  at_place : slice_get (unlinked_envs schema) i ≡ Some env → (ps : List PolicyData) (vs : List (Vec Table Global)) → AllZip (HasTriesOf schema) ps vs → AllZip IsOf ps vs
  at_place is [] [] h = tt
  at_place is [] (v ∷ vs) h = absurd h
  at_place is (p ∷ ps) [] h = absurd h
  at_place is (p ∷ ps) (v ∷ vs) h = (one (slice_get (unlinked_envs schema) i) is (AllZip-left (λ e t. IsTrieOfPolicies schema e (p ∷ []) t) (unlinked_envs schema) v.items h.0 i), at_place is ps vs h.1)
    where
      one : (o : Option EnvData) → o ≡ Some env → MatchOption o (Unit {0}) (λ e. IsSomeAnd (slice_get v.items i) (λ t. IsTrieOfPolicies schema e (p ∷ []) t)) → IsOf p v
      one o e k = subst (λ q. MatchOption q (Unit {0}) (λ e. IsSomeAnd (slice_get v.items i) (λ t. IsTrieOfPolicies schema e (p ∷ []) t))) e k

  pub trie_at : slice_get (unlinked_envs schema) i ≡ Some env → (ps : List PolicyData) (vs : List (Vec Table Global)) → AllZip (HasTriesOf schema) ps vs → (t : Table) → IsUnionAt i vs t → IsTrieOfPolicies schema env ps t
  trie_at is ps vs h t n = trie_of_all ps vs (at_place is ps vs h) t n

-- one environment more
pub one_united : (schema : SchemaData) (n : ℕ) (ps : List PolicyData) (vs : List (Vec Table Global)) (ts us : List Table) (t : Table) → n < length (unlinked_envs schema) →
    AllZip (HasTriesOf schema) ps vs → IsUnionAt n vs t → AllZip (λ env u. IsTrieOfPolicies schema env ps u) (take n (unlinked_envs schema)) ts → us ≡ ts ++ t ∷ [] →
    AllZip (λ env u. IsTrieOfPolicies schema env ps u) (take (n + 1) (unlinked_envs schema)) us
one_united schema n ps vs ts us t below have union zip added =
    let env = get_or (unlinked_envs schema) n undeclared_action in
    let new = trie_at n schema env (slice_get-get_or (unlinked_envs schema) n undeclared_action below) ps vs have t union in
    subst (λ es. AllZip (λ env u. IsTrieOfPolicies schema env ps u) es us) (sym (taken_one_more (unlinked_envs schema) n undeclared_action below))
    (subst (AllZip (λ env u. IsTrieOfPolicies schema env ps u) (take n (unlinked_envs schema) ++ env ∷ [])) (sym added)
    (zip_last (λ env u. IsTrieOfPolicies schema env ps u) (take n (unlinked_envs schema)) ts env t zip new))

pub all_done : {X : Type 0} (xs : List X) (n : ℕ) → length xs ≤ n → n ≤ length xs → take n xs ≡ xs
all_done xs n h k = ap (λ i. take i xs) (let e : n ≡ length xs = omega (arith, h, k) in e) ∙ take-length xs

-- a list of one
pub single : {X : Type 0} (xs : List X) (x : X) → length xs ≡ 1 → x ≡ get_or xs 0 x → xs ≡ x ∷ []
single [] x h k = absurd (omega (arith, h))
single (y ∷ []) x h k = ap (λ z. z ∷ []) (sym k)
single (y ∷ z ∷ ys) x h k = absurd (omega (arith, h))

pub not_none : (n : ℕ) (b : Bool) → b ≡ (n == 0) → b ≡ false → n ≡ 0 → ⊥
not_none n b e none h = absurd (cc (sym none ∙ e ∙ ap (λ m. m == 0) h))
