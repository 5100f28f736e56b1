use Rattle.std.proofs.Common.{◌≡◌, ◌<◌, List, [], ◌∷◌, ◌++◌, false, Option, Some, None, is_some, All, length, map, option_map, IfOk, ap, subst, sym, refl, ◌∙◌, rules}
use Rattle.std.specs.Map.{keys_of, values_of}
use Rattle.std.specs.List.Sorted.{IsStrictlySortedBy}
use Rattle.std.proofs.lemmas.List.Elements.{All-head, All-tail}
use Rattle.policy_values.specs.Uid.{text_cmp}
use Rattle.policy_values.proofs.MapSteps.{next-seam}
use Rattle.json_values.specs.Lists.{with_field}
use Rattle.json_values.specs.Values.{value_of, value_entries_of, value_fields_of, value_form, value_of_members}
use Rattle.json_values.proofs.Ascending.{field_more, keys_more}
use Rattle.json_trees.specs.Places.{placed_view, said_at}
use Rattle.json_trees.proofs.Named.{said_there}
use Rattle.json_trees.proofs.Ordered.{sorted_names}
use Rattle.json_trees.proofs.Views.{tree_view-Array, tree_view-Object}
use Rattle.plain_lemmas.proofs.Options.{none_of_no_some}
use Rattle.json_trees.proofs.readings.+value.Goals as goal

none_before : {A : Type 0} (o : Option (List A)) → option_map (λ ys. [] ++ ys) o ≡ o
none_before None = refl
none_before (Some ys) = refl

pub read_value-returns-in-Array : goal.read_value-returns-in-Array
read_value-returns-in-Array t c = rw (c.in-Array.is, tree_view-Array c.in-Array.items, ← c.as_slice.ensures.value) c.read_set.ensures

pub read_value-returns-in-Object : goal.read_value-returns-in-Object
read_value-returns-in-Object t c = rw (c.in-Object.is, tree_view-Object c.in-Object.members, ← c.as_slice-in-Object.ensures.value) c.read_members.ensures

pub read_object-returns-in-Object : goal.read_object-returns-in-Object
read_object-returns-in-Object t c = rw (c.in-Object.is, tree_view-Object c.in-Object.members, ← c.as_slice.ensures.value) c.read_entries.ensures

pub read_repeated-returns : goal.read_repeated-returns
read_repeated-returns t c =
    let ms = c.args.members.now in
    let k = c.in-Some.key.now in let i = c.in-Some.place.now in
    let no : is_some c.next-2.result ≡ false = sym c.is_some.ensures ∙ c.if-is_some.false in
    let end = rw (none_of_no_some c.next-2.result no) at c.next-2.ensures.steps in
    let one : c.in_ok-places.places.entries ≡ (k, i) ∷ [] = cc (c.iter-rest.ensures.rest, c.in-Some.ensures.steps, end.0) in
    let within : All (λ n. n < length ms) (i ∷ []) = subst (λ es. All (λ n. n < length ms) (values_of es)) one c.in_ok-places.ensures.within in
    let known = said_there ms i c.index-members-place.result (All-head (λ n. n < length ms) i [] within) in
    subst (λ o. IfOk c.read_form.result (λ r. r ≡ o))
    (ap (λ d. value_form k.now d (value_fields_of d)) (sym known)
    ∙ ap (λ es. value_of_members (placed_view ms es)) (sym one)
    ∙ ap value_of_members c.in_ok-places.ensures.said)
    c.read_form.ensures

pub read_entries-with_field-requires : goal.read_entries-with_field-requires
read_entries-with_field-requires t c =
    let done = keys_of c.loop-key.fields.entries in
    next-seam done c.in-Some.key.now.now (map (λ b. b.now) (keys_of c.next.new.self))
    (subst (λ es. IsStrictlySortedBy text_cmp (done ++ map (λ b. b.now) (keys_of es))) c.in-Some.ensures.steps c.loop-key.invariant.sorted)

pub read_entries-loop-key-init : goal.read_entries-loop-key-init
read_entries-loop-key-init t c =
    let ms = c.args.members.now in
    let rest : c.into_iter-key-iterator.result ≡ c.in_ok-places.places.entries = search rules in
    record {
      read = ap (λ fs. option_map (λ rs. fs ++ rs) (value_entries_of (placed_view ms c.into_iter-key-iterator.result))) c.new-fields.ensures.empty
          ∙ none_before _
          ∙ ap (λ es. value_entries_of (placed_view ms es)) rest
          ∙ ap value_entries_of c.in_ok-places.ensures.said;
      sorted = subst (λ fs. IsStrictlySortedBy text_cmp (keys_of fs ++ map (λ b. b.now) (keys_of c.into_iter-key-iterator.result))) (sym c.new-fields.ensures.empty)
          (subst (λ es. IsStrictlySortedBy text_cmp (map (λ b. b.now) (keys_of es))) (sym rest) (sorted_names (keys_of c.in_ok-places.places.entries) c.iter-key-items.ensures.ordered));
      left = subst (λ es. All (λ i. i < length ms) (values_of es)) (sym rest) c.in_ok-places.ensures.within;
    }

pub read_entries-loop-key-preserved : goal.read_entries-loop-key-preserved
read_entries-loop-key-preserved t c =
    let ms = c.args.members.now in
    let done = c.loop-key.fields.entries in
    let key = c.in-Some.key.now.now in
    let place = c.in-Some.place.now in
    let rest = c.next.new.self in
    let left : All (λ i. i < length ms) (place ∷ values_of rest) = subst (λ es. All (λ i. i < length ms) (values_of es)) c.in-Some.ensures.steps c.loop-key.invariant.left in
    let known = said_there ms place c.index-members-place.result (All-head (λ i. i < length ms) place (values_of rest) left) in
    let value = c.in-Some-next.next in
    let is = c.in_ok-fields.ensures in
    record {
      read = field_more done _ key value (value_of (said_at ms place)) (value_entries_of (placed_view ms rest)) _ is
          (ap value_of known ∙ sym c.in-Ok.ensures ∙ c.in-Some-next.is)
          (ap (λ es. option_map (λ ys. done ++ ys) (value_entries_of (placed_view ms es))) (sym c.in-Some.ensures.steps) ∙ c.loop-key.invariant.read);
      sorted = subst (IsStrictlySortedBy text_cmp) (keys_more _ done _ key value (map (λ b. b.now) (keys_of rest)) is refl)
          (subst (λ es. IsStrictlySortedBy text_cmp (keys_of done ++ map (λ b. b.now) (keys_of es))) c.in-Some.ensures.steps c.loop-key.invariant.sorted);
      left = All-tail (λ i. i < length ms) place (values_of rest) left;
    }

pub read_entries-returns-in_default-next : goal.read_entries-returns-in_default-next
read_entries-returns-in_default-next t c =
    let ms = c.args.members.now in
    let done = c.loop-key.fields.entries in
    let key = c.in-Some.key.now.now in
    let place = c.in-Some.place.now in
    let rest = c.next.new.self in
    let left : All (λ i. i < length ms) (place ∷ values_of rest) = subst (λ es. All (λ i. i < length ms) (values_of es)) c.in-Some.ensures.steps c.loop-key.invariant.left in
    let known = said_there ms place c.index-members-place.result (All-head (λ i. i < length ms) place (values_of rest) left) in
    ap (λ o. option_map (λ ys. done ++ ys) (with_field key o (value_entries_of (placed_view ms rest)))) (sym c.in_default-next.is ∙ c.in-Ok.ensures ∙ ap value_of (sym known))
    ∙ ap (λ es. option_map (λ ys. done ++ ys) (value_entries_of (placed_view ms es))) (sym c.in-Some.ensures.steps) ∙ c.loop-key.invariant.read
