-- Coverage: what is read is enough.
use Rattle.std.specs.Prelude.{◌≡◌, true, false, List, [], map, Option, Some, None, Ok, IsTrue}
use Rattle.std.specs.List.{AllByRecursion}
use Rattle.policy_values.specs.Value.{Val, truth, Fields, no_fields, field}
use Rattle.entity_store.specs.declared.request.Request.{Request}
use Rattle.entity_store.specs.Store.{StoredEntity, Store}
use Rattle.policy_expressions.specs.declared.kinds.Var.{Var}
use Rattle.policy_core.specs.declared.outcome.Outcome.{Outcome}
use Rattle.policy_core.specs.declared.outcome.Outcome.TheVariants.{Value, Error}
use Rattle.policy_core.specs.Eval.{variable_value, truth_of, eval}
use Rattle.policy_expressions.specs.Tree.{Tree, lit, var, slot, ite, conj, disj, unary, binary, attr, has, like, is_type, call, set, rec, Trees, no_trees, tree, Named, no_named, named}
use Rattle.type_relations.specs.Attributes.{or_none}
use Rattle.type_relations.specs.Member.{Member, Typed}
use Rattle.schema_types.specs.declared.kinds.OpenTag.TheVariants.{ClosedAttributes}
use Rattle.schema_types.specs.Ty.{Ty}
use Rattle.schema_core.specs.EnvData.{EnvData, context_type_in}
use Rattle.schema_core.specs.Faults.{IsSchema}
use Rattle.schema_core.specs.Inside.{is_held}
use Rattle.schema_core.specs.Schema.{SchemaData}
use Rattle.reads_spec.specs.Paths.{variable, AccessPath}
use Rattle.typing_spec.specs.Environment.{declared_attributes, declared_tags}
use Rattle.reads_spec.specs.PathTypes.{root_type}
use Rattle.reads_spec.specs.Reads.{declared_reads, declared_demands}
use Rattle.reads_spec.specs.Restrict.{Keep, part, kept_chain, restrict}

-- there is a type, and the value is a member of it
abbrev pub IsMemberOf : Option Ty → Val → Type 0
IsMemberOf None v = ⊥
IsMemberOf (Some t) v = Member t v

-- so is each value of the fields
abbrev pub AreMembersOf : Option Ty → Fields → Type 0
AreMembersOf o no_fields = Unit {0}
AreMembersOf o (field k v fs) = IsMemberOf o v × AreMembersOf o fs

-- an entity has no attributes but those that its type declares, each of its type, and tags of the type of
-- tags; of a type that is not declared it has neither
pub record HasTypes (schema : SchemaData) (e : StoredEntity) : Type 0 where
  pub attributes : Typed ClosedAttributes (or_none (declared_attributes schema e.uid.entity_type)) e.attrs
  pub tags : AreMembersOf (declared_tags schema e.uid.entity_type) e.tags

-- what paths read of a request and a store is of the types that the schema has for it in an environment; what
-- is required plays no part, and of the entities none but those on which a path stands
pub record KeepsTypes (schema : SchemaData) (env : EnvData) (ps : List AccessPath)
    (q : Request) (s : Store) : Type 0 where
  pub valid : IsSchema schema
  pub closed : IsTrue (is_held (context_type_in env))
  pub entries : (v : Var) → IsMemberOf (root_type schema env (variable v)) (variable_value v q)
  pub entities : AllByRecursion (λ e. kept_chain ps q s e.uid [] ≡ true → HasTypes schema e) s

module _ (q : Request) (s : Store) {A B : Type 0} where
  -- t is e wherever e is evaluated on the store; where it is not, t may have anything, such as the
  -- literal true
  abbrev mutual
    pub Prunes : Tree A → Tree B → Type 0
    Prunes (lit l a) (lit m b) = l ≡ m
    Prunes (var v a) (var w b) = v ≡ w
    Prunes (slot i a) (slot j b) = i ≡ j
    Prunes (ite x y z a) (ite x2 y2 z2 b) =
        Prunes x x2 × (truth_of (eval x q s) ≡ Ok true → Prunes y y2) ×
        (truth_of (eval x q s) ≡ Ok false → Prunes z z2)
    Prunes (conj x y a) (conj x2 y2 b) = Prunes x x2 × (truth_of (eval x q s) ≡ Ok true → Prunes y y2)
    Prunes (disj x y a) (disj x2 y2 b) = Prunes x x2 × (truth_of (eval x q s) ≡ Ok false → Prunes y y2)
    Prunes (unary o x a) (unary p x2 b) = (o ≡ p) × Prunes x x2
    Prunes (binary o x y a) (binary p x2 y2 b) = (o ≡ p) × Prunes x x2 × Prunes y y2
    Prunes (attr x n a) (attr x2 m b) = (n ≡ m) × Prunes x x2
    Prunes (has x n a) (has x2 m b) = (n ≡ m) × Prunes x x2
    Prunes (like x p a) (like x2 r b) = (p ≡ r) × Prunes x x2
    Prunes (is_type x n a) (is_type x2 m b) = (n ≡ m) × Prunes x x2
    Prunes (call f xs a) (call g ys b) = (f ≡ g) × PrunesAll xs ys
    Prunes (set xs a) (set ys b) = PrunesAll xs ys
    Prunes (rec xs a) (rec ys b) = PrunesNamed xs ys
    Prunes e t = ⊥

    pub PrunesAll : Trees A → Trees B → Type 0
    PrunesAll no_trees no_trees = Unit {0}
    PrunesAll (tree x xs) (tree y ys) = Prunes x y × PrunesAll xs ys
    PrunesAll xs ys = ⊥

    pub PrunesNamed : Named A → Named B → Type 0
    PrunesNamed no_named no_named = Unit {0}
    PrunesNamed (named k x xs) (named l y ys) = (k ≡ l) × Prunes x y × PrunesNamed xs ys
    PrunesNamed xs ys = ⊥

-- a boolean, or an error
abbrev pub IsBooleanOrError : Outcome → Type 0
IsBooleanOrError (Value (truth b)) = Unit {0}
IsBooleanOrError (Value v) = ⊥
IsBooleanOrError (Error e) = Unit {0}

-- the store restricted to what typed conditions read on the request, in an environment
abbrev pub restricted : {B : Type 0} → SchemaData → EnvData → List (Tree B) → Request → Store → Store
restricted schema env ts q s = restrict (declared_reads schema env ts) (declared_demands schema env ts) q s

-- a has some of what b has: of its entities, each with some of its ancestors, attributes and tags, and of the
-- fields of records there; all else is equal
abbrev pub IsPartOf : Store → Store → Type 0
IsPartOf a b = (keep : Keep) × (a ≡ part keep b)

-- a condition as it is written, and as it is typed
abbrev pub IsTypedOn : {A B : Type 0} → Request → Store → Tree A × Tree B → Type 0
IsTypedOn q s c = Prunes q s c.0 c.1 × IsBooleanOrError (eval c.0 q s)

-- where what the typed conditions read keeps to the types, each condition has, on each store between the one
-- restricted to what they read and the whole one, the outcome that it has on the whole one
abbrev pub ReadsCover : Type 0 → Type 0 → Type 0
ReadsCover A B =
    (schema : SchemaData) (env : EnvData) (q : Request) (whole : Store) →
    (cs : List (Tree A × Tree B)) →
    KeepsTypes schema env (declared_reads schema env (map (λ c. c.1) cs)) q whole →
    AllByRecursion (IsTypedOn q whole) cs →
    (s : Store) → IsPartOf (restricted schema env (map (λ c. c.1) cs) q whole) s → IsPartOf s whole →
    map (λ c. eval c.0 q s) cs ≡ map (λ c. eval c.0 q whole) cs
