-- Types that a schema may hold are their own schema types.
use Rattle.std.proofs.Common.{◌≡◌, Bool, true, false, ◌&&◌, [], ◌∷◌, Option, Some, None, option_map, IsTrue, IfSome, refl, ap}
use Rattle.schema_types.specs.declared.kinds.OpenTag.TheVariants.{OpenAttributes, ClosedAttributes}
use Rattle.schema_types.specs.Ty.{Ty, never, true_type, false_type, primitive, any_set, set_of, record_of, any_entity, entity, action, extension, Attrs, no_attrs, attr}
use Rattle.schema_types.specs.Plain.{plain, plain_attrs, plain_first}
use Rattle.schema_core.specs.Inside.{is_held, are_held}
use Rattle.schema_core.specs.Kinds.{Kind, standard, enumerated, is_held_kind}
use Rattle.schema_core.specs.Schema.{TypeData, ActionData}
use Rattle.schema_core.specs.Laws.{IsPlainKind}

first_of : (a b : Bool) → IsTrue (a && b) → IsTrue a
first_of true b h = refl
first_of false b h = h

second_of : (a b : Bool) → IsTrue (a && b) → IsTrue b
second_of true b h = h
second_of false true h = refl
second_of false false h = h

mutual
  pub plain_held : (t : Ty) → IsTrue (is_held t) → plain t ≡ Some t
  plain_held (primitive p) h = refl
  plain_held (set_of t) h = ap (option_map set_of) (plain_held t h)
  plain_held (record_of xs ClosedAttributes) h = ap (option_map (λ ys. record_of ys ClosedAttributes)) (plain_all_held xs h)
  plain_held (record_of xs OpenAttributes) h = cc
  plain_held (entity []) h = cc
  plain_held (entity (n ∷ [])) h = refl
  plain_held (entity (m ∷ n ∷ ns)) h = cc
  plain_held (extension n) h = refl
  plain_held never h = cc
  plain_held true_type h = cc
  plain_held false_type h = cc
  plain_held any_set h = cc
  plain_held any_entity h = cc
  plain_held (action n xs) h = cc

  pub plain_all_held : (xs : Attrs) → IsTrue (are_held xs) → plain_attrs xs ≡ Some xs
  plain_all_held no_attrs h = refl
  plain_all_held (attr k t q xs) h = λ i. plain_first k q (plain_held t (first_of (is_held t) (are_held xs) h) i) (plain_all_held xs (second_of (is_held t) (are_held xs) h) i)

plain_kind : (k : Kind) → IsTrue (is_held_kind k) → IsPlainKind k
plain_kind (standard xs None) h = plain_all_held xs h
plain_kind (standard xs (Some t)) h = (plain_all_held xs (first_of (are_held xs) (is_held t) h), plain_held t (second_of (are_held xs) (is_held t) h))
plain_kind (enumerated ids) h = tt

pub plain_type : (o : Option TypeData) → IfSome (option_map (λ t. t.kind) o) (λ k. IsTrue (is_held_kind k)) → IfSome o (λ t. IsPlainKind t.kind)
plain_type None h = h
plain_type (Some t) h = plain_kind t.kind h

pub plain_context : (o : Option ActionData) → IfSome (option_map (λ a. a.context) o) (λ xs. IsTrue (are_held xs)) → IfSome o (λ a. plain_attrs a.context ≡ Some a.context)
plain_context None h = h
plain_context (Some a) h = plain_all_held a.context h
