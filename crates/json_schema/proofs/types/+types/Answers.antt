use Rattle.std.proofs.Common.{[], ◌∷◌, ◌++◌, map, option_map, string_bytes, ap, subst, sym, ◌∙◌}
use Rattle.std.specs.Map.{keys_of}
use Rattle.serde_json.specs.View.{view, members_view}
use Rattle.policy_values.specs.Maps.{IsNext}
use Rattle.json_schema.specs.Types.{attribute_of, attributes_of_members}
use Rattle.json_values.proofs.Ascending.{next_key, field_more, keys_more}
use Rattle.json_schema.proofs.types.+types.Goals as goal

pub read_entries-with_field-requires : goal.read_entries-with_field-requires
read_entries-with_field-requires t c =
    let done = keys_of c.loop-key.entries.entries in
    let keys = c.loop-key.invariant.keys ∙ ap (λ es. done ++ map string_bytes (keys_of es)) c.in-Some.ensures.steps in
    subst (λ k. IsNext k done) (sym c.as_str.ensures.value)
    (next_key (keys_of c.args.members.now.entries) done c.in-Some.key.now (keys_of c.next.new.self) c.iter-key-items.ensures.ordered keys)

pub read_entries-loop-key-preserved : goal.read_entries-loop-key-preserved
read_entries-loop-key-preserved t c =
    let done = c.loop-key.entries.entries in
    let key = c.in-Some.key.now in
    let member = view c.in-Some.member.now in
    let value = c.in-Some-next.next in
    let rest = c.next.new.self in
    let is = c.in_ok-entries.ensures ∙ ap (λ k. done ++ (k, value) ∷ []) c.as_str.ensures.value in
    record {
      read = field_more done _ (string_bytes key) value (attribute_of member) (attributes_of_members (members_view rest)) _ is (sym c.in-Ok.ensures ∙ c.in-Some-next.is)
          (ap (λ es. option_map (λ ys. done ++ ys) (attributes_of_members (members_view es))) (sym c.in-Some.ensures.steps) ∙ c.loop-key.invariant.read);
      keys = keys_more (map string_bytes (keys_of c.args.members.now.entries)) done _ (string_bytes key) value (map string_bytes (keys_of rest)) is
          (c.loop-key.invariant.keys ∙ ap (λ es. keys_of done ++ map string_bytes (keys_of es)) c.in-Some.ensures.steps);
    }
