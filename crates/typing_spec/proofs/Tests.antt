-- The tests of operands are permissive subtyping.
use Rattle.std.proofs.Common.{◌≡◌, inl, ℕ, true, List, Option, Some, None, refl, sym, ap, subst, IfSome, IsSomeAnd}
use Rattle.std.specs.Cmp.{tied_itself}
use Rattle.std.specs.Ordering.{is_eq}
use Rattle.schema_types.specs.declared.kinds.OpenTag.{OpenTag}
use Rattle.schema_types.specs.declared.kinds.OpenTag.TheVariants.{OpenAttributes, ClosedAttributes}
use Rattle.schema_types.specs.declared.kinds.Primitive.TheVariants.{Bool as BoolType, Long, String}
use Rattle.schema_types.specs.Ty.{Ty, never, true_type, false_type, primitive, any_set, set_of, record_of, any_entity, entity, action, extension, no_attrs}
use Rattle.schema_types.specs.TyLaws.{ty_cmp_total}
use Rattle.schema_core.specs.EnvData.{LinkedEnvironment, declared_action}
use Rattle.schema_core.specs.Schema.{ActionData, action_at}
use Rattle.type_relations.specs.declared.mode.SubtypeMode.TheVariants.{Permissive}
use Rattle.type_relations.specs.Subtype.{SubOpen, Subtype}
use Rattle.typing_spec.specs.Operands.{is_boolean, is_long, IsTestOf, IsInhabited, TestsAreSubtyping, TypedIsInhabited}
use Rattle.typing_spec.specs.Rules.{is_string, is_set, is_entity_set}
use Rattle.typing_spec.specs.Signatures.{bool_type, long_type, string_type, same_type}
use Rattle.typing_spec.specs.Typing.{Typing, types}
use Rattle.type_relations.specs.Join.{is_entity, is_record}
use Rattle.typing_spec.proofs.Kept.{IsKept, AreKept}
use Rattle.typing_spec.proofs.KeptTypes.{types_kept}
use Rattle.typing_spec.proofs.Operators.{same_types_are_one}
use Rattle.typing_spec.proofs.Stored.{context_kept}

boolean : (t : Ty) → IsInhabited t → IsTestOf t bool_type (is_boolean t)
boolean never a = absurd a
boolean true_type a = (λ h. refl, λ h. refl)
boolean false_type a = (λ h. refl, λ h. refl)
boolean (primitive BoolType) a = (λ h. refl, λ h. refl)
boolean (primitive Long) a = (λ h. absurd (cc), λ h. absurd (cc))
boolean (primitive String) a = (λ h. absurd (cc), λ h. absurd (cc))
boolean t a = (λ h. absurd h, λ h. absurd (cc))

long : (t : Ty) → IsInhabited t → IsTestOf t long_type (is_long t)
long never a = absurd a
long true_type a = (λ h. absurd (cc), λ h. absurd (cc))
long false_type a = (λ h. absurd (cc), λ h. absurd (cc))
long (primitive BoolType) a = (λ h. absurd (cc), λ h. absurd (cc))
long (primitive Long) a = (λ h. refl, λ h. refl)
long (primitive String) a = (λ h. absurd (cc), λ h. absurd (cc))
long t a = (λ h. absurd h, λ h. absurd (cc))

string : (t : Ty) → IsInhabited t → IsTestOf t string_type (is_string t)
string never a = absurd a
string true_type a = (λ h. absurd (cc), λ h. absurd (cc))
string false_type a = (λ h. absurd (cc), λ h. absurd (cc))
string (primitive BoolType) a = (λ h. absurd (cc), λ h. absurd (cc))
string (primitive Long) a = (λ h. absurd (cc), λ h. absurd (cc))
string (primitive String) a = (λ h. refl, λ h. refl)
string t a = (λ h. absurd h, λ h. absurd (cc))

set : (t : Ty) → IsInhabited t → IsTestOf t any_set (is_set t)
set never a = absurd a
set any_set a = (λ h. refl, λ h. tt)
set (set_of t) a = (λ h. refl, λ h. tt)
set t a = (λ h. absurd h, λ h. absurd (cc))

some_entity : (t : Ty) → (t ≡ never → ⊥) → IsTestOf t any_entity (is_entity t)
some_entity never a = absurd (a refl)
some_entity any_entity a = (λ h. refl, λ h. tt)
some_entity (entity ns) a = (λ h. refl, λ h. tt)
some_entity (action n xs) a = (λ h. refl, λ h. tt)
some_entity t a = (λ h. absurd h, λ h. absurd (cc))

no_never : (t : Ty) → IsInhabited t → t ≡ never → ⊥
no_never t a e = subst IsInhabited e a

no_never_inside : (t : Ty) → IsInhabited (set_of t) → t ≡ never → ⊥
no_never_inside t a e = subst (λ u. IsInhabited (set_of u)) e a

entity_set : (t : Ty) → IsInhabited t → IsTestOf t (set_of any_entity) (is_entity_set t)
entity_set never a = absurd a
entity_set (set_of t) a = some_entity t (no_never_inside t a)
entity_set t a = (λ h. absurd h, λ h. absurd (cc))

any_open : (o : OpenTag) → SubOpen o OpenAttributes
any_open OpenAttributes = tt
any_open ClosedAttributes = tt

rec : (t : Ty) → IsInhabited t → IsTestOf t (record_of no_attrs OpenAttributes) (is_record t)
rec never a = absurd a
rec (record_of xs o) a = (λ h. refl, λ h. (any_open o, inl (tt, tt, tt)))
rec t a = (λ h. absurd h, λ h. absurd (cc))

same_itself : (t : Ty) → same_type t t ≡ true
same_itself t = ap is_eq (tied_itself ty_cmp_total t)

extended : (n : List ℕ) (t : Ty) → IsInhabited t → Subtype Permissive t (extension n) → same_type t (extension n) ≡ true
extended n never a h = absurd a
extended n (extension k) a h = subst (λ m. same_type (extension k) (extension m) ≡ true) h (same_itself (extension k))
extended n t a h = absurd h

extending : (n : List ℕ) (t : Ty) → same_type t (extension n) ≡ true → Subtype Permissive t (extension n)
extending n t h = subst (λ u. Subtype Permissive u (extension n)) (sym (same_types_are_one t (extension n) h)) refl

pub tests_are_subtyping : TestsAreSubtyping
tests_are_subtyping t a = record {
  boolean = boolean t a;
  long = long t a;
  string = string t a;
  set = set t a;
  entity = some_entity t (no_never t a);
  entity_set = entity_set t a;
  rec = rec t a;
  extension = λ n. (extended n t a, extending n t);
}

kept_inhabited : (t : Ty) → IsKept t → IsInhabited t
kept_inhabited never a = absurd a
kept_inhabited (set_of never) a = absurd a
kept_inhabited (set_of true_type) a = tt
kept_inhabited (set_of false_type) a = tt
kept_inhabited (set_of (primitive p)) a = tt
kept_inhabited (set_of any_set) a = tt
kept_inhabited (set_of (set_of t)) a = tt
kept_inhabited (set_of (record_of xs o)) a = tt
kept_inhabited (set_of any_entity) a = tt
kept_inhabited (set_of (entity ns)) a = tt
kept_inhabited (set_of (action n xs)) a = tt
kept_inhabited (set_of (extension n)) a = tt
kept_inhabited t a = tt

context_of : (env : LinkedEnvironment) (o : Option ActionData) → IsSomeAnd o (λ a. env.context ≡ a.context) → IfSome o (λ a. AreKept a.context) → AreKept env.context
context_of env None e h = absurd e
context_of env (Some a) e h = subst AreKept (sym e) h

pub typed_is_inhabited : TypedIsInhabited
typed_is_inhabited schema ok env q of cs e =
    by (types schema (declared_action env) cs e) (types_kept schema ok env (context_of env (action_at schema env.environment.action) of.context (context_kept schema ok env.environment.action)) cs e)
  where
    by : (o : Option Typing) → IfSome o (λ x. IsKept x.type) → IfSome o (λ x. IsInhabited x.type)
    by None h = tt
    by (Some x) h = kept_inhabited x.type h
