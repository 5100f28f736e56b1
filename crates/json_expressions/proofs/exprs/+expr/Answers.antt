use Rattle.std.proofs.Common.{◌≡◌, ◌+◌, List, [], ◌∷◌, ◌++◌, false, Some, is_some, ◌<◌, drop, length, length-drop, slice_index_or, take_all, rules, All, Global, map, option_map, option_and_then, IfOk, arith, ap, subst, sym, refl, ◌∙◌}
use Rattle.std.specs.Map.{keys_of, values_of}
use Rattle.std.proofs.lemmas.List.Elements.{All-head, All-tail}
use Rattle.std.proofs.lemmas.List.{drop_more}
use Rattle.json_trees.specs.Places.{placed_view, said_at}
use Rattle.json_trees.specs.Trees.{tree_view, trees_view}
use Rattle.json.specs.declared.value.Value.{Value}
use Rattle.policy_values.specs.Uid.{text_cmp}
use Rattle.std.specs.List.Sorted.{IsStrictlySortedBy}
use Rattle.json_expressions.specs.Forms.{call_tree, get_tree, has_tree, in_turn, of_one}
use Rattle.json_expressions.specs.Parts.{attr_names_of}
use Rattle.json_expressions.specs.Nesting.{all_within}
use Rattle.json_expressions.specs.Reads.{bounded, bounded_field, listed_read, on_all, on_name}
use Rattle.json_expressions.specs.Exprs.{expr_of, expr_of_members, exprs_of, named_exprs_of, named_form_tree, named_tree, operands_of, operands_behind, operands_first, placed_tree}
use Rattle.json_values.proofs.Ascending.{keys_more}
use Rattle.policy_values.proofs.MapSteps.{next-seam}
use Rattle.json_trees.proofs.Named.{said_there}
use Rattle.json_trees.proofs.Ordered.{sorted_names}
use Rattle.json_trees.proofs.Views.{tree_view-Array, tree_view-Object}
use Rattle.json_expressions.proofs.Bounds.{call_reads, get_reads, has_reads, listed_reads}
use Rattle.json_expressions.proofs.Steps.{item_more, exprs_behind, field_read, none_before, nothing_read}
use Rattle.plain_lemmas.proofs.Options.{none_of_no_some}
use Rattle.json_expressions.proofs.exprs.+expr.Goals as goal

pub read_items-loop-item-preserved : goal.read_items-loop-item-preserved
read_items-loop-item-preserved t c =
    let l = c.loop-item in
    let xs = c.args.items.now in
    let x = c.item-item.result in
    let rest = drop (l.item-index + 1) xs in
    let here : drop l.item-index xs ≡ x ∷ rest = drop_more xs l.item-index x (omega arith) ∙ ap (λ y. y ∷ rest) (sym c.item-item.is) in
    item_more bounded l.all.items _ c.in-Some.next (expr_of (tree_view x)) (exprs_of (trees_view rest)) _ c.in_ok-all.ensures (sym c.in-Ok.ensures ∙ c.in-Some.is)
    (ap (λ (ys : List (Value Global)). option_map (λ rs. l.all.items ++ rs) (option_map (map bounded) (exprs_of (trees_view ys)))) (sym here) ∙ l.invariant)

pub read_fields-with_field-requires : goal.read_fields-with_field-requires
read_fields-with_field-requires t c =
    let done = keys_of c.loop-key.fields.entries in
    next-seam done c.in-Some.key.now.now (map (λ b. b.now) (keys_of c.next.new.self))
    (subst (λ es. IsStrictlySortedBy text_cmp (done ++ map (λ b. b.now) (keys_of es))) c.in-Some.ensures.steps c.loop-key.invariant.sorted)

pub read_fields-loop-key-init : goal.read_fields-loop-key-init
read_fields-loop-key-init t c =
    let ms = c.args.members.now in
    let rest : c.into_iter-key-iterator.result ≡ c.in_ok-places.places.entries = search rules in
    record {
      read = ap (λ fs. option_map (λ rs. fs ++ rs) (option_map (map bounded_field) (named_exprs_of (placed_view ms c.into_iter-key-iterator.result)))) c.new-fields.ensures.empty
          ∙ none_before _
          ∙ ap (λ es. option_map (map bounded_field) (named_exprs_of (placed_view ms es))) rest
          ∙ ap (λ all. option_map (map bounded_field) (named_exprs_of all)) c.in_ok-places.ensures.said;
      sorted = subst (λ fs. IsStrictlySortedBy text_cmp (keys_of fs ++ map (λ b. b.now) (keys_of c.into_iter-key-iterator.result))) (sym c.new-fields.ensures.empty)
          (subst (λ es. IsStrictlySortedBy text_cmp (map (λ b. b.now) (keys_of es))) (sym rest) (sorted_names (keys_of c.in_ok-places.places.entries) c.iter-key-items.ensures.ordered));
      left = subst (λ es. All (λ i. i < length ms) (values_of es)) (sym rest) c.in_ok-places.ensures.within;
    }

pub read_fields-loop-key-preserved : goal.read_fields-loop-key-preserved
read_fields-loop-key-preserved t c =
    let ms = c.args.members.now in
    let done = c.loop-key.fields.entries in
    let key = c.in-Some.key.now.now in
    let place = c.in-Some.place.now in
    let rest = c.next.new.self in
    let left : All (λ i. i < length ms) (place ∷ values_of rest) = subst (λ es. All (λ i. i < length ms) (values_of es)) c.in-Some.ensures.steps c.loop-key.invariant.left in
    let known = said_there ms place c.index-members-place.result (All-head (λ i. i < length ms) place (values_of rest) left) in
    let member = expr_of (said_at ms place) in
    let read = c.in-Some-next.next in
    let is = c.in_ok-fields.ensures in
    record {
      read = item_more bounded_field done _ (key, read) (option_map (λ x. (key, x)) member) (named_exprs_of (placed_view ms rest)) _ is
          (field_read key read member (ap (λ d. option_map bounded (expr_of d)) known ∙ sym c.in-Ok.ensures ∙ c.in-Some-next.is))
          (ap (λ es. option_map (λ rs. done ++ rs) (option_map (map bounded_field) (named_exprs_of (placed_view ms es)))) (sym c.in-Some.ensures.steps) ∙ c.loop-key.invariant.read);
      sorted = subst (IsStrictlySortedBy text_cmp) (keys_more _ done _ key read (map (λ b. b.now) (keys_of rest)) is refl)
          (subst (λ es. IsStrictlySortedBy text_cmp (keys_of done ++ map (λ b. b.now) (keys_of es))) c.in-Some.ensures.steps c.loop-key.invariant.sorted);
      left = All-tail (λ i. i < length ms) place (values_of rest) left;
    }

pub read_fields-returns-in_default-next : goal.read_fields-returns-in_default-next
read_fields-returns-in_default-next t c =
    let ms = c.args.members.now in
    let done = c.loop-key.fields.entries in
    let key = c.in-Some.key.now.now in
    let place = c.in-Some.place.now in
    let rest = c.next.new.self in
    let left : All (λ i. i < length ms) (place ∷ values_of rest) = subst (λ es. All (λ i. i < length ms) (values_of es)) c.in-Some.ensures.steps c.loop-key.invariant.left in
    let known = said_there ms place c.index-members-place.result (All-head (λ i. i < length ms) place (values_of rest) left) in
    nothing_read done key (expr_of (said_at ms place)) (named_exprs_of (placed_view ms rest)) _
    (sym c.in_default-next.is ∙ c.in-Ok.ensures ∙ ap (λ d. option_map bounded (expr_of d)) (sym known))
    (ap (λ es. option_map (λ rs. done ++ rs) (option_map (map bounded_field) (named_exprs_of (placed_view ms es)))) (sym c.in-Some.ensures.steps) ∙ c.loop-key.invariant.read)

pub read_get-returns : goal.read_get-returns
read_get-returns t c =
    let names = c.in-Some.names.items in
    let first = operands_first (tree_view c.args.tree.now) in
    let named : attr_names_of (tree_view c.args.tree.now) ≡ Some names = sym c.in_ok-names.ensures ∙ ap (option_map (λ v. v.items)) c.in-Some.is in
    subst (λ o. IfOk c.get_all.result (λ r. r ≡ o))
    (ap (option_and_then (in_turn (on_name get_tree) names)) c.in_ok-read.ensures
    ∙ get_reads names first
    ∙ ap (λ ns. option_map bounded (named_tree ns (in_turn get_tree) first)) (sym named))
    c.get_all.ensures

pub read_has-returns : goal.read_has-returns
read_has-returns t c =
    let names = c.in-Some.names.items in
    let first = operands_first (tree_view c.args.tree.now) in
    let named : attr_names_of (tree_view c.args.tree.now) ≡ Some names = sym c.in_ok-names.ensures ∙ ap (option_map (λ v. v.items)) c.in-Some.is in
    subst (λ o. IfOk c.has_one.result (λ r. r ≡ o))
    (ap (option_and_then (of_one (on_name has_tree) names)) c.in_ok-read.ensures
    ∙ has_reads names first
    ∙ ap (λ ns. option_map bounded (named_tree ns (of_one has_tree) first)) (sym named))
    c.has_one.ensures

pub read_operands-returns : goal.read_operands-returns
read_operands-returns t c =
    subst (λ o. IfOk c.list_form.result (λ r. r ≡ o))
    (ap (option_and_then (listed_read c.args.form)) c.in_ok-reads.ensures ∙ listed_reads c.args.form (exprs_of (trees_view c.args.items.now)))
    c.list_form.ensures

pub read_called-returns : goal.read_called-returns
read_called-returns t c =
    subst (λ o. IfOk c.call.result (λ r. r ≡ o))
    (ap (option_map (λ rs. on_all (call_tree c.args.name) (all_within rs))) c.in_ok-reads.ensures ∙ call_reads c.args.name (operands_behind (tree_view c.args.tree.now)))
    c.call.ensures

pub read_several-returns : goal.read_several-returns
read_several-returns t c =
    let ms = c.args.members.now in
    let k = c.in-Some.first.now in let i = c.in-Some.first_place.now in
    let l = c.in-Some-next.second.now in let j = c.in-Some-next.second_place.now in
    let no : is_some c.next-3.result ≡ false = sym c.is_some.ensures ∙ c.if-is_some.false in
    let end = rw (none_of_no_some c.next-3.result no) at c.next-3.ensures.steps in
    let two : c.in_ok-places.places.entries ≡ (k, i) ∷ (l, j) ∷ [] =
    cc (c.iter-rest.ensures.rest, c.in-Some.ensures.steps, c.in-Some-next.ensures.steps, end.0) in
    let within : All (λ n. n < length ms) (i ∷ j ∷ []) = subst (λ es. All (λ n. n < length ms) (values_of es)) two c.in_ok-places.ensures.within in
    let loc = said_there ms i c.index-members-first_place.result (All-head (λ n. n < length ms) i (j ∷ []) within) in
    let inner = said_there ms j c.index-members-second_place.result (All-head (λ n. n < length ms) j [] (All-tail (λ n. n < length ms) i (j ∷ []) within)) in
    subst (λ o. IfOk c.read_placed.result (λ r. r ≡ o))
    (ap (λ d. option_map bounded (placed_tree k.now d l.now (expr_of (tree_view (slice_index_or ms j c.index-members-second_place.result).1)))) (sym loc)
    ∙ ap (λ d. option_map bounded (placed_tree k.now (said_at ms i) l.now (expr_of d))) (sym inner)
    ∙ ap (λ es. option_map bounded (expr_of_members (placed_view ms es))) (sym two)
    ∙ ap (λ all. option_map bounded (expr_of_members all)) c.in_ok-places.ensures.said)
    c.read_placed.ensures

pub read_several-returns-in_default-next : goal.read_several-returns-in_default-next
read_several-returns-in_default-next t c =
    let ms = c.args.members.now in
    let k = c.in-Some.first.now in let i = c.in-Some.first_place.now in
    let end = c.in_default-next.ensures.steps in
    let one : c.in_ok-places.places.entries ≡ (k, i) ∷ [] = cc (c.iter-rest.ensures.rest, c.in-Some.ensures.steps, end.0) in
    let within : All (λ n. n < length ms) (i ∷ []) = subst (λ es. All (λ n. n < length ms) (values_of es)) one c.in_ok-places.ensures.within in
    let known = said_there ms i c.index-members-first_place.result (All-head (λ n. n < length ms) i [] within) in
    subst (λ o. IfOk c.read_named_form.result (λ r. r ≡ o))
    (ap (λ d. option_map bounded (named_form_tree k.now d (operands_of d))) (sym known)
    ∙ ap (λ es. option_map bounded (expr_of_members (placed_view ms es))) (sym one)
    ∙ ap (λ all. option_map bounded (expr_of_members all)) c.in_ok-places.ensures.said)
    c.read_named_form.ensures

pub read_behind_first-returns-in-len1-up : goal.read_behind_first-returns-in-len1-up
read_behind_first-returns-in-len1-up t c =
    let ts = c.as_slice.result.now in
    rw (c.in-Array.is, tree_view-Array c.in-Array.items, ← c.as_slice.ensures.value, exprs_behind ts c.in-len1-up.len_at_least)
    (subst (λ (rest : List (Value Global)). IfOk c.read_items.result (λ o. option_map (λ v. v.items) o ≡ option_map (map bounded) (exprs_of (trees_view rest)))) (take_all _ (drop 1 ts) (omega (arith, length-drop 1 ts))) c.read_items.ensures)

pub read_expr-returns-in-Array : goal.read_expr-returns-in-Array
read_expr-returns-in-Array t c = rw (c.in-Array.is, tree_view-Array c.in-Array.items, ← c.as_slice.ensures.value) c.read_set.ensures

pub read_expr-returns-in-Object : goal.read_expr-returns-in-Object
read_expr-returns-in-Object t c = rw (c.in-Object.is, tree_view-Object c.in-Object.members, ← c.as_slice-in-Object.ensures.value) c.read_members.ensures

pub read_list-returns-in-Array : goal.read_list-returns-in-Array
read_list-returns-in-Array t c = rw (c.in-Array.is, tree_view-Array c.in-Array.items, ← c.as_slice.ensures.value) c.read_operands.ensures

pub read_record-returns-in-Object : goal.read_record-returns-in-Object
read_record-returns-in-Object t c = rw (c.in-Object.is, tree_view-Object c.in-Object.members, ← c.as_slice.ensures.value) c.read_named.ensures
