-- Steps of the walk through conditions.
use Rattle.std.proofs.Common.{◌≡◌, ℕ, ◌+◌, ◌<◌, ◌≤◌, List, [], ◌++◌, map, filter, length, get_or, drop, sym, ap, ◌∙◌, subst}
use Rattle.std.specs.BTreeSet.{insert_key}
use Rattle.std.proofs.Math.ListN.{drop_of_length-le}
use Rattle.std.proofs.lemmas.List.{at_drop_more}
use Rattle.std.proofs.lemmas.List.Sums.{fold-append}
use Rattle.std.proofs.lemmas.Map.Lookups.{CmpEqualImpliesEq, exact_pairs}
use Rattle.access_tries.specs.Edges.{Address}
use Rattle.access_tries.specs.Table.{Table}
use Rattle.access_tries.specs.Paths.{IsLeast, demand_of, path_cmp}
use Rattle.plain_lemmas.proofs.Booleans.{or_false}
use Rattle.access_tries.specs.PathLaws.{exact_path}
use Rattle.schema_core.specs.EnvData.{EnvData}
use Rattle.schema_core.specs.Schema.{SchemaData}
use Rattle.policy_expressions.specs.Tree.{Tree}
use Rattle.reads_spec.specs.Paths.{AccessPath, Demand}
use Rattle.reads_spec.specs.PathTypes.{declared_part}
use Rattle.reads_spec.specs.Reads.{reads, reads_of, demands, demands_of, are_declared, declared_reads, declared_demands}
use Rattle.path_analysis.specs.Covers.{covers, Adds}
use Rattle.path_analysis.specs.PathOrder.{demand_cmp, with_demands}
use Rattle.path_analysis.proofs.Covers.{adds_next}
use Rattle.path_analysis.proofs.Declared.{same_declared}
use Rattle.path_analysis.proofs.Alike.{Alike, alike-once, alike-map, alike-filter, least_alike}

module _ (schema : SchemaData) (env : EnvData) {A : Type 0} (ts : List (Tree A)) (i : ℕ) (t : Tree A) (is : t ≡ get_or ts i t) (h : i < length ts) where
  pub reads_next : (all old new : List AccessPath) → Adds [] all old (reads_of schema env (drop i ts)) → Adds old (reads schema env t) new [] → Adds [] all new (reads_of schema env (drop (i + 1) ts))
  reads_next all old new left added =
      let rest = reads_of schema env (drop (i + 1) ts) in
      adds_next [] all old (reads schema env t) rest new
      (subst (λ l. Adds [] all old l) (at_drop_more (λ xs. reads_of schema env xs) ts i t h ∙ ap (λ u. reads schema env u ++ rest) (sym is)) left) added

  pub demands_next : (old new : List Demand) → new ≡ with_demands old (demands t) →
      (all : List Demand) → with_demands old (demands_of (drop i ts)) ≡ all → with_demands new (demands_of (drop (i + 1) ts)) ≡ all
  demands_next old new added all left =
      let rest = drop (i + 1) ts in
      ap (λ l. with_demands l (demands_of rest)) added
      ∙ sym (fold-append (insert_key demand_cmp) old (demands t) (demands_of rest))
      ∙ ap (λ u. with_demands old (demands u ++ demands_of rest)) is
      ∙ ap (λ l. with_demands old l) (sym (at_drop_more (λ xs. demands_of xs) ts i t h))
      ∙ left

exact_demand : CmpEqualImpliesEq demand_cmp
exact_demand = exact_pairs path_cmp path_cmp exact_path exact_path

-- what is read and demanded matters, and not how often
module _ (schema : SchemaData) (env : EnvData) {A : Type 0} (ts : List (Tree A)) where
  reads_alike : (ps : List AccessPath) → Adds [] (reads_of schema env ts) ps [] → (es : Address) → covers (map (declared_part schema env) ps) es ≡ covers (declared_reads schema env ts) es
  reads_alike ps h es = same_declared schema env ps (reads_of schema env ts) es (sym (or_false (covers ps es)) ∙ h.prefixes es)

  demands_alike : (ds : List Demand) → ds ≡ with_demands [] (demands_of ts) → Alike (map demand_of (filter (are_declared schema env) ds)) (map demand_of (declared_demands schema env ts))
  demands_alike ds is =
      let once = subst (λ es. Alike es (demands_of ts)) (sym is) (alike-once exact_demand (demands_of ts)) in
      alike-map demand_of (filter (are_declared schema env) ds) (declared_demands schema env ts) (alike-filter (are_declared schema env) ds (demands_of ts) once)

  -- at the end of the walk
  pub least_once : (ps : List AccessPath) (ds : List Demand) (i : ℕ) → length ts ≤ i →
      Adds [] (reads_of schema env ts) ps (reads_of schema env (drop i ts)) → with_demands ds (demands_of (drop i ts)) ≡ with_demands [] (demands_of ts) →
      (t : Table) → IsLeast (map (declared_part schema env) ps) (filter (are_declared schema env) ds) t → IsLeast (declared_reads schema env ts) (declared_demands schema env ts) t
  least_once ps ds i end reads demands t h =
      let none = sym (drop_of_length-le ts end) in
      least_alike (map (declared_part schema env) ps) (declared_reads schema env ts) (map demand_of (filter (are_declared schema env) ds)) (map demand_of (declared_demands schema env ts)) t
      (reads_alike ps (subst (λ us. Adds [] (reads_of schema env ts) ps (reads_of schema env us)) (sym none) reads)) (demands_alike ds (ap (λ us. with_demands ds (demands_of us)) none ∙ demands)) h
