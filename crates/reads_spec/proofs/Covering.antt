-- Coverage, of conditions with their typed forms.
use Rattle.std.proofs.Common.{◌≡◌, List, [], ◌∷◌, map, refl, sym, ap, ◌∙◌, subst}
use Rattle.std.specs.List.{AllByRecursion}
use Rattle.policy_values.specs.Value.{Val, truth}
use Rattle.entity_store.specs.declared.request.Request.{Request}
use Rattle.entity_store.specs.Store.{Store}
use Rattle.policy_core.specs.declared.outcome.Outcome.{Outcome}
use Rattle.policy_core.specs.declared.outcome.Outcome.TheVariants.{Value, Error}
use Rattle.policy_core.specs.Eval.{eval}
use Rattle.policy_expressions.specs.Tree.{Tree}
use Rattle.schema_core.specs.EnvData.{EnvData}
use Rattle.schema_core.specs.Schema.{SchemaData}
use Rattle.reads_spec.specs.Paths.{AccessPath, Demand, Shape}
use Rattle.reads_spec.specs.Reads.{shape_of, reads, reads_of, demands, demands_of, declared_reads, declared_demands}
use Rattle.reads_spec.specs.PathTypes.{declared_part}
use Rattle.reads_spec.specs.Restrict.{needed}
use Rattle.reads_spec.specs.Cover.{KeepsTypes, IsBooleanOrError, IsTypedOn, IsPartOf, restricted, ReadsCover}
use Rattle.reads_spec.proofs.Fitting.{root_fits}
use Rattle.reads_spec.proofs.Relation.{Setting, there, Agree}
use Rattle.reads_spec.proofs.Tops.{top, rel_top}
use Rattle.reads_spec.proofs.Within.{Kept}
use Rattle.reads_spec.proofs.Induction.{Covered, left_part, right_part, agrees}
use Rattle.reads_spec.proofs.Dropping.{of_whole, nothing_lost}
use Rattle.reads_spec.proofs.Demanded.{demands_are_read}
use Rattle.reads_spec.proofs.Order.{IsBetween, between, needed_well_formed, part_of_itself}

setting_of : (d : SchemaData) (g : EnvData) (q : Request) (whole : Store) (ps : List AccessPath) → KeepsTypes d g (map (declared_part d g) ps) q whole → (ds : List Demand) (s : Store) → IsBetween (needed ps ds q whole) whole s → Setting
setting_of d g q whole ps types ds s b = record {
  schema = d;
  env = g;
  request = q;
  whole = whole;
  roots = root_fits d g (map (declared_part d g) ps) q whole types;
  entities = of_whole d g q whole ps types;
  read = ps;
  keep = b.keep;
  enough = b.chains;
  enough_tags = b.tags;
}

-- a boolean or an error is the same on both sides
decided_same : (a : Shape) (c : Setting) (o p : Outcome) → IsBooleanOrError o → Agree a c o p → p ≡ o
decided_same a c (Value (truth b)) (Value w) h k = ap Value (is_truth w (rel_top a c (truth b) w k))
  where
    is_truth : (w : Val) → truth b ≡ top w → w ≡ truth b
    is_truth (truth x) e = sym e
    is_truth w e = absurd (cc)
decided_same a c (Value (truth b)) (Error e) h k = absurd k
decided_same a c (Error e) (Value w) h k = absurd k
decided_same a c (Error e) (Error f) h k = ap Error (sym k)
decided_same a c (Value v) p h k = absurd h

each_same : {A B : Type 0} (c : Setting) (ds : List Demand) → Kept c ds → (cs : List (Tree A × Tree B)) → AllByRecursion (IsTypedOn c.request c.whole) cs → Covered c ds (reads_of c.schema c.env (map (λ e. e.1) cs)) (demands_of (map (λ e. e.1) cs)) → map (λ e. eval e.0 c.request (there c)) cs ≡ map (λ e. eval e.0 c.request c.whole) cs
each_same c ds kept [] h k = refl
each_same c ds kept (e ∷ cs) h k =
    let ts = map (λ e. e.1) cs in
    let i = agrees c ds kept e.0 e.1 h.0.0 (left_part c ds (reads c.schema c.env e.1) (reads_of c.schema c.env ts) (demands e.1) (demands_of ts) k) in
    let a = decided_same (shape_of e.1) c (eval e.0 c.request c.whole) (eval e.0 c.request (there c)) h.0.1 i in
    let b = each_same c ds kept cs h.1 (right_part c ds (reads c.schema c.env e.1) (reads_of c.schema c.env ts) (demands e.1) (demands_of ts) k) in
    λ j. a j ∷ b j

pub covers : {A B : Type 0} → ReadsCover A B
unfolding setting_of
covers d g q whole cs types typed s low high =
    let ps = reads_of d g (map (λ e. e.1) cs) in
    let ds = demands_of (map (λ e. e.1) cs) in
    let b = between (needed ps ds q whole) whole s (needed_well_formed ps ds q whole) (subst (λ z. IsPartOf z s) (nothing_lost d g q whole ps types ds (demands_are_read d g (map (λ e. e.1) cs))) low) high in
    let c = setting_of d g q whole ps types ds s b in
    ap (λ z. map (λ e. eval e.0 q z) cs) b.is ∙ each_same c ds (record { by = b.ancestors }) cs typed (record { reads = λ p i. i; demands = λ d i. i })

-- so it is on the restricted store itself
pub restricted_same : {A B : Type 0} (d : SchemaData) (g : EnvData) (q : Request) (whole : Store) (cs : List (Tree A × Tree B)) → KeepsTypes d g (declared_reads d g (map (λ e. e.1) cs)) q whole → AllByRecursion (IsTypedOn q whole) cs → map (λ e. eval e.0 q (restricted d g (map (λ e. e.1) cs) q whole)) cs ≡ map (λ e. eval e.0 q whole) cs
restricted_same d g q whole cs types typed =
    let ts = map (λ e. e.1) cs in
    covers d g q whole cs types typed (restricted d g ts q whole) (part_of_itself (restricted d g ts q whole)) (needed (declared_reads d g ts) (declared_demands d g ts) q whole, refl)
