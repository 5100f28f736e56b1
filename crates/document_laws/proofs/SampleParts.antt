-- The schema's declarations, the request and the entities of a sample, as they are read of its value; the schema.
use Rattle.std.proofs.Common.{◌≡◌, ◌^◌, ℕ, List, [], ◌∷◌, ◌++◌, length, map, true, Some, None, Ok, Err, decimal, pos, inr, refl, sym, ap, ◌∙◌, arith, append_assoc, append-nil, lt-ltb, nat_lt}
use Rattle.std.specs.Prelude.{codes}
use Rattle.std.specs.Option.{option_map_or}
use Rattle.policy_values.specs.declared.entity_uid.EntityUID.{EntityUID}
use Rattle.policy_values.specs.Value.{long, entity as an_id, no_fields, field}
use Rattle.entity_store.specs.declared.request.Request.{Request}
use Rattle.entity_store.specs.Request.{IsWhole}
use Rattle.entity_store.specs.Store.{StoredEntity}
use Rattle.schema_types.specs.declared.kinds.Primitive.TheVariants.{Long}
use Rattle.schema_types.specs.Ty.{primitive, entity, Attrs, no_attrs, attr}
use Rattle.schema_core.specs.Entries.{Declarations}
use Rattle.schema_core.specs.Kinds.{standard}
use Rattle.schema_core.specs.Schema.{SchemaData}
use Rattle.typing_spec.specs.Conforms.{EntityConforms, RequestConforms}
use Rattle.serde_json.specs.Read.{of_json}
use Rattle.json_values.specs.Names.{is_name, is_name_after}
use Rattle.json_values.specs.Values.{extension_form}
use Rattle.json_schema.specs.Schema.{entity_type_of, action_of, schema_of}
use Rattle.json_document.specs.Entities.{given_entity_of, entity_of, entities_of}
use Rattle.json_document.specs.Request.{given_request_of, request_of}
use Rattle.json_document.specs.declared.place.Place.TheVariants as place
use Rattle.document_laws.proofs.Drawn.{Drawn, IsDrawn, AreDrawn}
use Rattle.document_laws.proofs.Json.{value_in, schema_json, request_json, user_data, users_data}

abbrev pub id : List ℕ → List ℕ → EntityUID
id type eid = record { entity_type = type; eid = eid }

abbrev pub group : List ℕ
group = codes "Group"

abbrev pub user : List ℕ
user = codes "User"

abbrev pub view : EntityUID
view = id (codes "Action") (codes "view")

abbrev pub user_attributes : Attrs
user_attributes = attr (codes "level") (primitive Long) true (attr (codes "manager") (entity (user ∷ [])) true no_attrs)

abbrev pub declarations : Declarations
declarations = record {
  entity_types = record { name = group; member_of = []; kind = standard no_attrs None } ∷ record { name = user; member_of = group ∷ []; kind = standard user_attributes None } ∷ [];
  actions = record { id = view; principals = user ∷ []; resources = user ∷ []; member_of = []; context = no_attrs } ∷ [];
}

abbrev pub schema_of_sample : SchemaData
schema_of_sample = record {
  entity_types = record { name = group; descendants = user ∷ []; kind = standard no_attrs None } ∷ record { name = user; descendants = []; kind = standard user_attributes None } ∷ [];
  action_ids = record { name = view; principals = user ∷ []; resources = user ∷ []; descendants = []; context = no_attrs } ∷ [];
}

pub schema_read : schema_of (value_in (of_json schema_json)) ≡ Some declarations
unfolding schema_of entity_type_of action_of is_name is_name_after
schema_read = refl

-- ---- the request

abbrev pub request_of_sample : List ℕ → Request
request_of_sample other = record { principal = Some (id user (codes "u0")); action = Some view; resource = Some (id user (117 ∷ other)); context = Some no_fields }

pub request_read : (other : List ℕ) → request_of (Some (value_in (of_json (request_json other)))) ≡ Some (request_of_sample other)
unfolding given_request_of is_name is_name_after
request_read other = refl

pub request_whole : (other : List ℕ) → IsWhole (request_of_sample other)
request_whole other = record { principal = refl; action = refl; resource = refl; context = refl }

pub request_conforms : (other : List ℕ) → RequestConforms schema_of_sample (request_of_sample other)
request_conforms other = record { principal = refl; resource = refl; action = record { principal = refl; resource = refl; context = (tt, tt); context_ids = refl } }

-- ---- the entities

abbrev pub user_id : ℕ → EntityUID
user_id i = id user (117 ∷ decimal i)

abbrev pub user_entity : Drawn → StoredEntity
user_entity u = record {
  uid = user_id u.number;
  attrs = field (codes "level") (long (pos u.level)) (field (codes "manager") (an_id (user_id u.manager)) no_fields);
  ancestors = id group (103 ∷ decimal u.group) ∷ [];
  tags = no_fields;
}

user_read : (u : Drawn) → IsDrawn u → entity_of (user_data u) ≡ Some (user_entity u)
unfolding given_entity_of is_name is_name_after extension_form
user_read u h = let small : nat_lt u.level (2 ^ 63) ≡ true = lt-ltb _ _ (omega (arith, h.level)) in rw small refl

pub users_read : (before : List StoredEntity) (us : List Drawn) → AreDrawn us → entities_of before (users_data us) ≡ Ok (before ++ map user_entity us)
users_read before [] h = ap Ok (sym (append-nil before))
users_read before (u ∷ us) h =
    ap (λ o. option_map_or (λ e. entities_of (before ++ e ∷ []) (users_data us)) o (Err (place.Entity (length before)))) (user_read u h.0)
    ∙ users_read (before ++ user_entity u ∷ []) us h.1
    ∙ ap Ok (append_assoc before (user_entity u ∷ []) (map user_entity us))

pub user_conforms : (u : Drawn) → EntityConforms schema_of_sample (user_entity u)
user_conforms u = record {
  listed = refl;
  attributes = ((refl, (refl, tt)), (inr (tt, tt), (inr (tt, refl), tt)));
  attribute_ids = refl;
  tags = refl;
  tag_ids = refl;
  ancestors = (record { below = refl; listed = refl }, tt);
}
