-- Steps of adding conditions to a trie.
use Rattle.std.proofs.Common.{◌≡◌, ◌≤◌, ◌↔◌, suc, arith, Bool, false, ◌||◌, List, [], ◌∷◌, ◌++◌, append_assoc, map, length, Option, Some, None, Result, Ok, Err, OnOk, refl, sym, ap, ◌∙◌, subst}
use Rattle.std.specs.Prelude.{filter}
use Rattle.std.specs.List.{list_any, cons_option}
use Rattle.std.proofs.lemmas.List.{map-append}
use Rattle.std.proofs.lemmas.List.Elements.{filter-append}
use Rattle.std.proofs.lemmas.List.Folds.{list_any-append}
use Rattle.access_tries.specs.Edges.{Address}
use Rattle.access_tries.specs.Paths.{address_of, demand_of, is_prefix_of, is_same, IsLeast, IsUnion}
use Rattle.access_tries.specs.Table.{Table, leads, is_marked}
use Rattle.schema_core.specs.EnvData.{EnvData}
use Rattle.schema_core.specs.Schema.{SchemaData}
use Rattle.typing_spec.specs.Typing.{Typed}
use Rattle.policy_set.specs.Data.{PolicyData}
use Rattle.reads_spec.specs.PathTypes.{declared_part}
use Rattle.reads_spec.specs.Reads.{reads_of, reads, demands, demands_of, are_declared, declared_reads, declared_demands}
use Rattle.policy_validate.specs.AcceptanceLaws.{LeavesAll}
use Rattle.policy_validate.specs.Check.{checked}
use Rattle.policy_validate.specs.Found.{condition_in, found_conditions}
use Rattle.manifest_computation.specs.Gathered.{goes_along, asks_along, HoldSame, IsTrieLeft}
use Rattle.plain_lemmas.proofs.Booleans.{or_assoc, or_exchange, or_false}

pub both_ok : {A E : Type 0} (P Q R : Type 0) → (P → Q → R) → (r : Result A E) → OnOk r P → OnOk r Q → OnOk r R
both_ok P Q R f (Ok a) p q = f p q
both_ok P Q R f (Err e) p q = tt

pub empty_leads : (es : Address) → leads [] es ≡ false
empty_leads [] = refl
empty_leads (e ∷ es) = refl

pub empty_marks : (es : Address) → is_marked [] es ≡ false
empty_marks [] = refl
empty_marks (e ∷ es) = refl

module _ (schema : SchemaData) (env : EnvData) where
  reads_append : (ts us : List Typed) → reads_of schema env (ts ++ us) ≡ reads_of schema env ts ++ reads_of schema env us
  reads_append [] us = refl
  reads_append (t ∷ ts) us = ap (λ ps. reads schema env t ++ ps) (reads_append ts us) ∙ sym (append_assoc (reads schema env t) (reads_of schema env ts) (reads_of schema env us))

  demands_append : (ts us : List Typed) → demands_of (ts ++ us) ≡ demands_of ts ++ demands_of us
  demands_append [] us = refl
  demands_append (t ∷ ts) us = ap (λ ds. demands t ++ ds) (demands_append ts us) ∙ sym (append_assoc (demands t) (demands_of ts) (demands_of us))

  any_read : (f : Address → Bool) (ts us : List Typed) →
      list_any f (map address_of (declared_reads schema env (ts ++ us))) ≡ (list_any f (map address_of (declared_reads schema env ts)) || list_any f (map address_of (declared_reads schema env us)))
  any_read f ts us =
      ap (λ ps. list_any f (map address_of (map (declared_part schema env) ps))) (reads_append ts us)
      ∙ ap (λ ps. list_any f (map address_of ps)) (map-append (declared_part schema env) (reads_of schema env ts) (reads_of schema env us))
      ∙ ap (list_any f) (map-append address_of (declared_reads schema env ts) (declared_reads schema env us))
      ∙ list_any-append f (map address_of (declared_reads schema env ts)) (map address_of (declared_reads schema env us))

  pub any_demand : (f : Address → Bool) (ts us : List Typed) →
      list_any f (map demand_of (declared_demands schema env (ts ++ us))) ≡ (list_any f (map demand_of (declared_demands schema env ts)) || list_any f (map demand_of (declared_demands schema env us)))
  any_demand f ts us =
      ap (λ ds. list_any f (map demand_of (filter (are_declared schema env) ds))) (demands_append ts us)
      ∙ ap (λ ds. list_any f (map demand_of ds)) (filter-append (are_declared schema env) (demands_of ts) (demands_of us))
      ∙ ap (list_any f) (map-append demand_of (declared_demands schema env ts) (declared_demands schema env us))
      ∙ list_any-append f (map demand_of (declared_demands schema env ts)) (map demand_of (declared_demands schema env us))

  pub goes_append : (es : Address) (ts us : List Typed) → goes_along schema env (ts ++ us) es ≡ (goes_along schema env ts es || goes_along schema env us es)
  goes_append es ts us =
      (λ i. any_read (is_prefix_of es) ts us i || any_demand (is_prefix_of es) ts us i)
      ∙ or_exchange (list_any (is_prefix_of es) (map address_of (declared_reads schema env ts))) (list_any (is_prefix_of es) (map address_of (declared_reads schema env us)))
      (list_any (is_prefix_of es) (map demand_of (declared_demands schema env ts))) (list_any (is_prefix_of es) (map demand_of (declared_demands schema env us)))

  -- conditions whose trie is united with another may be let go of
  pub added : (ts : List Typed) (t more u : Table) → IsLeast (declared_reads schema env ts) (declared_demands schema env ts) more → IsUnion t more u → (us : List Typed) → HoldSame schema env u us t (ts ++ us)
  added ts t more u least union us = record {
    paths = λ es.
        ap (λ b. b || goes_along schema env us es) (union.paths es ∙ ap (λ b. leads t es || b) (least.paths es))
        ∙ or_assoc (leads t es) (goes_along schema env ts es) (goes_along schema env us es)
        ∙ ap (λ b. leads t es || b) (sym (goes_append es ts us));
    marks = λ es.
        ap (λ b. b || asks_along schema env us es) (union.marks es ∙ ap (λ b. is_marked t es || b) (least.marks es))
        ∙ or_assoc (is_marked t es) (asks_along schema env ts es) (asks_along schema env us es)
        ∙ ap (λ b. is_marked t es || b) (sym (any_demand (is_same es) ts us));
  }

  pub same_list : (t : Table) (ts us : List Typed) → ts ≡ us → HoldSame schema env t ts t us
  same_list t ts us h = record {
    paths = λ es. ap (λ vs. leads t es || goes_along schema env vs es) h;
    marks = λ es. ap (λ vs. is_marked t es || asks_along schema env vs es) h;
  }

  pub and_then : (t u v : Table) (ts us vs : List Typed) → HoldSame schema env t ts u us → HoldSame schema env u us v vs → HoldSame schema env t ts v vs
  and_then t u v ts us vs h k = record { paths = λ es. h.paths es ∙ k.paths es; marks = λ es. h.marks es ∙ k.marks es }

  -- a condition that was taken
  pub taken : (c : Typed) (old new : List Typed) → new ≡ old ++ c ∷ [] → (t : Table) (ts : List Typed) → HoldSame schema env t (new ++ ts) t (old ++ c ∷ ts)
  taken c old new h t ts = same_list t (new ++ ts) (old ++ c ∷ ts) (ap (λ l. l ++ ts) h ∙ append_assoc old (c ∷ []) ts)

  -- where nothing is left to be added, the trie is that of all
  pub whole : (t : Table) (ts : List Typed) → HoldSame schema env t [] [] ts → IsLeast (declared_reads schema env ts) (declared_demands schema env ts) t
  whole t ts h = record {
    paths = λ es. sym (or_false (leads t es)) ∙ h.paths es ∙ ap (λ b. b || goes_along schema env ts es) (empty_leads es);
    marks = λ es. sym (or_false (is_marked t es)) ∙ h.marks es ∙ ap (λ b. b || asks_along schema env ts es) (empty_marks es);
  }

  no_more : (ps : List PolicyData) → length (found_conditions schema env ps) ≤ length ps
  no_more [] = omega arith
  no_more (p ∷ ps) = by (condition_in (checked schema env p.condition)) (no_more ps)
    where
      by : (o : Option Typed) → length (found_conditions schema env ps) ≤ length ps → length (cons_option o (found_conditions schema env ps)) ≤ length (p ∷ ps)
      by None h = omega (arith, h)
      by (Some c) h = omega (arith, h)

  -- a policy whose condition a check leaves, and one whose check fails
  pub one_left : (p : PolicyData) (ps : List PolicyData) (c : Typed) → condition_in (checked schema env p.condition) ≡ Some c → LeavesAll schema (p ∷ ps) env ↔ LeavesAll schema ps env
  one_left p ps c h =
      let e : length (found_conditions schema env (p ∷ ps)) ≡ suc (length (found_conditions schema env ps)) = ap (λ o. length (cons_option o (found_conditions schema env ps))) h in
      ((λ k. omega (arith, sym e ∙ k)), (λ k. e ∙ ap suc k))

  pub one_fails : (p : PolicyData) (ps : List PolicyData) → condition_in (checked schema env p.condition) ≡ None → ¬ LeavesAll schema (p ∷ ps) env
  one_fails p ps h k =
      absurd (omega (arith, no_more ps, sym (ap (λ o. length (cons_option o (found_conditions schema env ps))) h) ∙ k))

  -- a step of the loop
  pub one_taken : (it rest : List PolicyData) (p : PolicyData) → it ≡ p ∷ rest → (c : Typed) → condition_in (checked schema env p.condition) ≡ Some c → (t u : Table) (old new all : List Typed) →
      HoldSame schema env t (old ++ found_conditions schema env it) [] all → ((ts : List Typed) → HoldSame schema env u (new ++ ts) t (old ++ c ∷ ts)) → HoldSame schema env u (new ++ found_conditions schema env rest) [] all
  one_taken it rest p is c h t u old new all same took =
      let left = found_conditions schema env rest in
      let found : c ∷ left ≡ found_conditions schema env it = sym (ap (found_conditions schema env) is ∙ ap (λ o. cons_option o left) h) in
      and_then u t [] (new ++ left) (old ++ found_conditions schema env it) all
      (and_then u t t (new ++ left) (old ++ c ∷ left) (old ++ found_conditions schema env it) (took left) (same_list t (old ++ c ∷ left) (old ++ found_conditions schema env it) (ap (λ l. old ++ l) found)))
      same

  pub left_next : (it rest : List PolicyData) (p : PolicyData) → it ≡ p ∷ rest → (c : Typed) → condition_in (checked schema env p.condition) ≡ Some c → (all : List PolicyData) →
      (LeavesAll schema it env ↔ LeavesAll schema all env) → LeavesAll schema rest env ↔ LeavesAll schema all env
  left_next it rest p is c h all same =
      let one = one_left p rest c h in
      ((λ k. same.0 (subst (λ l. LeavesAll schema l env) (sym is) (one.1 k))), (λ k. one.0 (subst (λ l. LeavesAll schema l env) is (same.1 k))))

  pub none_left : (it rest : List PolicyData) (p : PolicyData) → it ≡ p ∷ rest → condition_in (checked schema env p.condition) ≡ None → (all : List PolicyData) →
      (LeavesAll schema it env ↔ LeavesAll schema all env) → ¬ LeavesAll schema all env
  none_left it rest p is h all same k = one_fails p rest h (subst (λ l. LeavesAll schema l env) is (same.1 k))

  -- where nothing is left, the trie is whole once what was kept is added
  pub all_added : (it all : List PolicyData) → it ≡ [] → (kept : List Typed) (t u : Table) → HoldSame schema env t (kept ++ found_conditions schema env it) [] (found_conditions schema env all) →
      (LeavesAll schema it env ↔ LeavesAll schema all env) → ((ts : List Typed) → HoldSame schema env u ts t (kept ++ ts)) → IsTrieLeft schema env all u
  all_added it all none kept t u same left more =
      let found = found_conditions schema env it in
      record {
        trie = whole u (found_conditions schema env all)
            (and_then u u [] [] found (found_conditions schema env all) (same_list u [] found (sym (ap (found_conditions schema env) none)))
            (and_then u t [] found (kept ++ found) (found_conditions schema env all) (more found) same));
        left = left.0 (subst (λ l. LeavesAll schema l env) (sym none) refl);
      }
