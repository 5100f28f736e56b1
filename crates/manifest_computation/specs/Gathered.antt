-- What a trie holds, with conditions that are still to be added to it.
use Rattle.std.specs.Prelude.{◌≡◌, ℕ, Bool, ◌||◌, List, [], ◌∷◌, ◌++◌, Option, IsSomeAnd, IsTrue, map}
use Rattle.std.specs.BTreeSet.{BTreeSet, contains}
use Rattle.std.specs.List.{list_any}
use Rattle.policy_values.specs.Uid.{text_cmp}
use Rattle.policy_expressions.specs.Plain.{Plain}
use Rattle.access_tries.specs.Edges.{Address}
use Rattle.access_tries.specs.Paths.{address_of, demand_of, is_prefix_of, is_same, IsLeast}
use Rattle.access_tries.specs.Table.{Table, leads, is_marked}
use Rattle.schema_core.specs.EnvData.{EnvData}
use Rattle.schema_core.specs.Schema.{SchemaData}
use Rattle.typing_spec.specs.Typing.{Typed}
use Rattle.policy_set.specs.Data.{PolicyData}
use Rattle.policy_set.specs.PolicySet.{PolicySetData, template_at}
use Rattle.typecheck_rules.specs.Check.{check_walked, checked, condition_walked}
use Rattle.reads_spec.specs.Reads.{declared_reads, declared_demands}
use Rattle.policy_validate.specs.AcceptanceLaws.{LeavesAll}
use Rattle.policy_validate.specs.Found.{condition_in, found_conditions}

module _ (schema : SchemaData) (env : EnvData) where
  -- whether the edges are a prefix of what conditions read or ask for
  abbrev pub goes_along : List Typed → Address → Bool
  goes_along ts es = list_any (is_prefix_of es) (map address_of (declared_reads schema env ts))
      || list_any (is_prefix_of es) (map demand_of (declared_demands schema env ts))

  -- whether they are what one of them asks for
  abbrev pub asks_along : List Typed → Address → Bool
  asks_along ts es = list_any (is_same es) (map demand_of (declared_demands schema env ts))

  -- two tries hold the same, each with what conditions read and ask for beside it
  pub record HoldSame (t : Table) (ts : List Typed) (u : Table) (us : List Typed) : Type 0 where
    pub paths : (es : Address) → (leads t es || goes_along ts es) ≡ (leads u es || goes_along us es)
    pub marks : (es : Address) → (is_marked t es || asks_along ts es) ≡ (is_marked u es || asks_along us es)

  -- what the check of a part of a condition leaves, at any depth
  abbrev pub part_in : Plain → Option Typed
  part_in e = condition_in (check_walked (condition_walked schema env e))

  -- a trie, with conditions that are still to be added, holds what a condition reads and asks for
  abbrev pub IsHeld : Table → List Typed → Typed → Type 0
  IsHeld t ts c = HoldSame t (ts ++ c ∷ []) t ts

  -- so it does for the body of each template of the set that is among these
  abbrev pub AreHeld : PolicySetData → BTreeSet (List ℕ) → Table → List Typed → Type 0
  AreHeld s ids t ts = (id : List ℕ) → IsTrue (contains text_cmp ids id) →
      IsSomeAnd (template_at s id) (λ u. IsSomeAnd (part_in u.body) (IsHeld t ts))

  -- a condition was taken to the others, or added
  abbrev pub IsTaken : Table → List Typed → Table → List Typed → Typed → Type 0
  IsTaken u us t ts c = (more : List Typed) → HoldSame u (us ++ more) t (ts ++ c ∷ more)

  -- what the check of a condition leaves is there, and was taken; likewise of a part of one, at any depth
  abbrev pub IsConditionTaken : Plain → Table → List Typed → Table → List Typed → Type 0
  IsConditionTaken e u us t ts = IsSomeAnd (condition_in (checked schema env e)) (IsTaken u us t ts)

  abbrev pub IsPartTaken : Plain → Table → List Typed → Table → List Typed → Type 0
  IsPartTaken e u us t ts = IsSomeAnd (part_in e) (IsTaken u us t ts)

  -- the trie of what checks leave of policies, of which they leave each condition
  pub record IsTrieLeft (ps : List PolicyData) (t : Table) : Type 0 where
    pub trie : IsLeast (declared_reads schema env (found_conditions schema env ps))
        (declared_demands schema env (found_conditions schema env ps)) t
    pub left : LeavesAll schema ps env
