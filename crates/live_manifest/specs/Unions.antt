-- The trie of a set of policies is the union of those of its policies.
use Rattle.std.specs.Prelude.{◌≡◌, false, List, [], ◌∷◌, ◌++◌, None}
use Rattle.policy_values.specs.Keyed.{value_at, with_value}
use Rattle.policy_values.specs.Uid.{text_cmp}
use Rattle.access_tries.specs.Paths.{IsLeast, IsUnion}
use Rattle.access_tries.specs.Edges.{Address}
use Rattle.access_tries.specs.Table.{Table, leads, is_marked}
use Rattle.schema_core.specs.EnvData.{EnvData}
use Rattle.schema_core.specs.Schema.{SchemaData}
use Rattle.policy_set.specs.Data.{PolicyData}
use Rattle.reads_spec.specs.Reads.{declared_reads, declared_demands}
use Rattle.policy_validate.specs.Typed.{typed_conditions}

-- the trie of exactly what the policies read and ask for in an environment
abbrev pub IsTrieOfPolicies : SchemaData → EnvData → List PolicyData → Table → Type 0
IsTrieOfPolicies schema env ps t = IsLeast (declared_reads schema env (typed_conditions schema env ps))
    (declared_demands schema env (typed_conditions schema env ps)) t

-- with one more policy, whose id is new, at its place or behind the others it is the union of theirs and of
-- that of the policy alone
abbrev pub TriesOfSetsAreUnions : Type 0
TriesOfSetsAreUnions =
    (schema : SchemaData) (env : EnvData) (ps : List PolicyData) (p : PolicyData) →
    value_at text_cmp (λ q. q.id) ps p.id ≡ None →
    (t u v : Table) → IsTrieOfPolicies schema env ps t → IsTrieOfPolicies schema env (p ∷ []) u →
    IsUnion t u v →
    IsTrieOfPolicies schema env (with_value text_cmp (λ q. q.id) p ps) v

-- so is the trie of two lists, one behind the other; a trie that leads nowhere is that of none
pub record ListsAreUnited (schema : SchemaData) (env : EnvData) : Type 0 where
  pub none : (t : Table) → ((es : Address) → leads t es ≡ false) →
      ((es : Address) → is_marked t es ≡ false) → IsTrieOfPolicies schema env [] t
  pub both : (ps qs : List PolicyData) (t u v : Table) → IsTrieOfPolicies schema env ps t →
      IsTrieOfPolicies schema env qs u → IsUnion t u v → IsTrieOfPolicies schema env (ps ++ qs) v

abbrev pub TriesOfListsAreUnions : Type 0
TriesOfListsAreUnions = (schema : SchemaData) (env : EnvData) → ListsAreUnited schema env
