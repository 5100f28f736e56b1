-- Accepted conditions are covered.
use Rattle.std.proofs.Common.{◌≡◌, true, List, [], ◌∷◌, map, Option, Some, refl, sym, ap, ◌∙◌, subst, inl, inr}
use Rattle.std.specs.Prelude.{IfSome}
use Rattle.std.specs.List.{AllByRecursion}
use Rattle.std.proofs.lemmas.Bool.{and_parts}
use Rattle.policy_values.specs.Basename.{is_action_type}
use Rattle.entity_store.specs.declared.request.Request.{Request}
use Rattle.entity_store.specs.Store.{Store}
use Rattle.policy_core.specs.declared.outcome.Outcome.{Outcome}
use Rattle.policy_core.specs.Eval.{eval}
use Rattle.policy_expressions.specs.Plain.{Plain}
use Rattle.policy_expressions.specs.Tree.{Tree}
use Rattle.schema_types.specs.Ty.{Ty}
use Rattle.schema_core.specs.EnvData.{EnvData, declared_action}
use Rattle.schema_core.specs.Schema.{SchemaData}
use Rattle.typing_spec.specs.Conforms.{StoreConforms}
use Rattle.typing_spec.specs.Operands.{is_boolean}
use Rattle.typing_spec.specs.Sound.{IsOfType, Fulfils, TypingIsSound}
use Rattle.typing_spec.specs.Typing.{Typed, Typing, types}
use Rattle.typing_spec.proofs.Booleans.{by_truth}
use Rattle.typing_spec.proofs.Condition.{is_one}
use Rattle.reads_spec.specs.Conditions.{HasTyping, ConditionsAreCovered}
use Rattle.reads_spec.specs.Cover.{KeepsTypes, Prunes, IsBooleanOrError, IsTypedOn, IsPartOf, restricted}
use Rattle.reads_spec.specs.Paths.{AccessPath, Demand}
use Rattle.reads_spec.specs.PathTypes.{declared_part}
use Rattle.reads_spec.specs.Reached.{ReachedConforms}
use Rattle.reads_spec.specs.Reads.{reads, reads_of, demands, demands_of, declared_reads}
use Rattle.reads_spec.specs.Restrict.{part, kept_chain, kept_ancestor}
use Rattle.reads_spec.proofs.Carried.{typed_whole}
use Rattle.reads_spec.proofs.Covering.{covers}
use Rattle.reads_spec.proofs.Dropping.{of_whole}
use Rattle.reads_spec.proofs.Fitting.{root_fits}
use Rattle.reads_spec.proofs.Induction.{Covered, left_part}
use Rattle.reads_spec.proofs.Lists.{IsIn, in_right}
use Rattle.reads_spec.proofs.Order.{needed_well_formed}
use Rattle.reads_spec.proofs.Pruning.{prunes}
use Rattle.reads_spec.proofs.Reaching.{reached, reached_types, part_conforms}
use Rattle.reads_spec.proofs.Relation.{Setting}
use Rattle.reads_spec.proofs.Within.{Kept}
use Rattle.plain_lemmas.proofs.Booleans.{or_right_true}

-- what is typed as a boolean is one, or an error
decided : (t : Ty) (o : Outcome) → is_boolean t ≡ true → IsOfType t o → IsBooleanOrError o
decided t o h v = by_truth t IsBooleanOrError o (is_one t h) v (λ b m. tt) (λ e m. tt)

there_is : {X : Type 0} (P : X → Type 0) (o : Option X) (x : X) → o ≡ Some x → IfSome o P → P x
there_is P o x e h = subst (λ o. IfSome o P) e h

-- the conditions with their typed trees
abbrev trees : List (Plain × Typing) → List (Plain × Typed)
trees cs = map (λ c. (c.0, c.1.tree)) cs

map_trees : (cs : List (Plain × Typing)) → map (λ c. c.1) (trees cs) ≡ map (λ c. c.1.tree) cs
map_trees [] = refl
map_trees (c ∷ cs) = ap (λ ts. c.1.tree ∷ ts) (map_trees cs)

map_evals : (q : Request) (s : Store) (cs : List (Plain × Typing)) → map (λ c. eval c.0 q s) (trees cs) ≡ map (λ c. eval c.0 q s) cs
map_evals q s [] = refl
map_evals q s (c ∷ cs) = ap (λ os. eval c.0 q s ∷ os) (map_evals q s cs)

module _ (d : SchemaData) (g : EnvData) (q : Request) (whole : Store) (ps : List AccessPath) (ds : List Demand) (types : KeepsTypes d g (map (declared_part d g) ps) q whole) where
  reached_setting : Setting
  reached_setting = record {
    schema = d;
    env = g;
    request = q;
    whole = whole;
    roots = root_fits d g (map (declared_part d g) ps) q whole types;
    read = ps;
    entities = of_whole d g q whole ps types;
    keep = reached ps ds q whole;
    enough = λ x c h. (needed_well_formed ps ds q whole).of_chains x c h;
    enough_tags = λ x c h. refl;
  }

  reached_kept : Kept reached_setting ds
  unfolding reached_setting
  reached_kept = record { by = λ x y h. or_right_true (is_action_type x.entity_type) (kept_ancestor ps ds q whole x y) (and_parts (kept_chain ps q whole x []) (kept_ancestor ps ds q whole x y) h).1 }

-- each of the conditions is covered by what all read
each_covered : {A B : Type 0} (c : Setting) (cs : List (Tree A × Tree B)) (e : Tree A × Tree B) → IsIn e cs →
    (h : (p : AccessPath) → IsIn p (reads_of c.schema c.env (map (λ x. x.1) cs)) → IsIn p c.read) (ds : List Demand) → ((x : Demand) → IsIn x (demands_of (map (λ x. x.1) cs)) → IsIn x ds) → Covered c ds (reads c.schema c.env e.1) (demands e.1)
each_covered c [] e i h ds k = absurd i
each_covered c (x ∷ xs) e (inl m) h ds k =
    let all : Covered c ds (reads_of c.schema c.env (map (λ z. z.1) (x ∷ xs))) (demands_of (map (λ z. z.1) (x ∷ xs))) = record { reads = h; demands = k } in
    subst (λ z. Covered c ds (reads c.schema c.env z.1) (demands z.1)) m (left_part c ds (reads c.schema c.env x.1) (reads_of c.schema c.env (map (λ z. z.1) xs)) (demands x.1) (demands_of (map (λ z. z.1) xs)) all)
each_covered c (x ∷ xs) e (inr j) h ds k =
    each_covered c xs e j (λ p i. h p (in_right p (reads c.schema c.env x.1) (reads_of c.schema c.env (map (λ z. z.1) xs)) i)) ds (λ f i. k f (in_right f (demands x.1) (demands_of (map (λ z. z.1) xs)) i))

-- conditions that are typed on what they reach are typed on the whole
carried_all : {A B : Type 0} (d : SchemaData) (g : EnvData) (q : Request) (whole : Store) (cs : List (Tree A × Tree B)) → KeepsTypes d g (declared_reads d g (map (λ e. e.1) cs)) q whole →
    AllByRecursion (IsTypedOn q (part (reached (reads_of d g (map (λ e. e.1) cs)) (demands_of (map (λ e. e.1) cs)) q whole) whole)) cs → AllByRecursion (IsTypedOn q whole) cs
unfolding reached_setting
carried_all d g q whole cs types typed =
    let ps = reads_of d g (map (λ e. e.1) cs) in
    let ds = demands_of (map (λ e. e.1) cs) in
    let c = reached_setting d g q whole ps ds types in
    typed_whole c ds (reached_kept d g q whole ps ds types) cs typed (λ e i. each_covered c cs e i (λ p j. j) ds (λ x j. j))

pub are_covered : TypingIsSound → ConditionsAreCovered
are_covered sound d schema g q request of whole cs typed conforms s low high =
    sym (map_evals q s cs)
    ∙ covers d (declared_action g) q whole (trees cs) (reached_types d schema g q request of whole ts stored) (carried_all d (declared_action g) q whole (trees cs) (reached_types d schema g q request of whole ts stored) (all_typed cs typed)) s (subst (λ ts. IsPartOf (restricted d (declared_action g) ts q whole) s) (sym (map_trees cs)) low) high
    ∙ map_evals q whole cs
  where
    ts : List Typed
    ts = map (λ e. e.1) (trees cs)

    stored : ReachedConforms d (declared_action g) ts q whole
    stored = subst (λ ts. ReachedConforms d (declared_action g) ts q whole) (sym (map_trees cs)) conforms

    there : Store
    there = part (reached (reads_of d (declared_action g) ts) (demands_of ts) q whole) whole

    store : StoreConforms d there
    store = part_conforms d schema g q request of whole ts stored

    all_typed : (es : List (Plain × Typing)) → AllByRecursion (HasTyping d g) es → AllByRecursion (IsTypedOn q there) (trees es)
    all_typed [] h = tt
    all_typed (c ∷ es) h = (
      (
        there_is (λ r. Prunes q there c.0 r.tree) (types d (declared_action g) [] c.0) c.1 h.0.typed (prunes sound d schema g q request of there store c.0 h.0.filled h.0.keys [] tt),
        decided c.1.type (eval c.0 q there) h.0.boolean (there_is (Fulfils q there (eval c.0 q there)) (types d (declared_action g) [] c.0) c.1 h.0.typed (sound d schema g q request of there store [] tt c.0 h.0.filled h.0.keys)).value,
      ),
      all_typed es h.1,
    )
