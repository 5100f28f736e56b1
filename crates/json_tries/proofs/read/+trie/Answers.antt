use Rattle.std.proofs.Common.{◌≡◌, ◌∷◌, Some, option_map, string_bytes, codes, sym, ap, ◌∙◌, ◌&&◌}
use Rattle.std.specs.Str.{bytes_eq}
use Rattle.std.proofs.lemmas.Result.{IfOk-weaker}
use Rattle.serde_json.specs.View.{view, items_view, members_view}
use Rattle.serde_json.specs.Find.{as_bool}
use Rattle.access_tries.specs.Trees.{no_branches}
use Rattle.json_tries.specs.declared.keys.Listing.TheVariants.{Fields}
use Rattle.json_tries.specs.Places.{places_of}
use Rattle.json_tries.specs.Parts.{node_places}
use Rattle.json_tries.specs.Reading.{are_names, branch_of, node_of, listed_in, tags_of, trie_of, second_in}
use Rattle.json_tries.proofs.Forms.{node_read}
use Rattle.plain_lemmas.proofs.Lists.{empty_of_length}
use Rattle.json_tries.proofs.read.+trie.Goals as goal

pub read_members-returns-in_default-next-3 : goal.read_members-returns-in_default-next-3
read_members-returns-in_default-next-3 t c =
    let one = c.in-Some in
    let two = c.in-Some-next in
    let three = c.in-Some-next-2 in
    let all = sym c.iter-rest.ensures.rest ∙ one.ensures.steps ∙ ap (λ es. (one.first.now, one.ancestors.now) ∷ es) (two.ensures.steps ∙ ap (λ es. (two.second.now, two.children.now) ∷ es) (three.ensures.steps ∙ ap (λ es. (three.third.now, three.mark.now) ∷ es) c.in_default-next-3.ensures.steps.0)) in
    let named = sym (c.if-not-are_names.ensures ∙ (λ j. are_names (c.as_str.ensures.value j) (c.as_str-2.ensures.value j) (c.as_str-3.ensures.value j))) in
    IfOk-weaker c.node.result (λ o. option_map (λ v. v.items) o ≡ node_places c.as_bool.result (option_map (λ v. v.items) c.in_ok-fields.fields) (option_map (λ v. v.items) (Some c.new.result)) (option_map (λ v. v.items) c.in_ok-roots.roots)) (λ o. option_map (λ v. v.items) o ≡ option_map places_of (node_of (members_view c.args.members.now.entries)))
    (λ o h. node_read (option_map (λ v. v.items) o) _ _ _ _ (as_bool (view three.mark.now)) (listed_in Fields (view two.children.now)) (Some no_branches) (trie_of (view one.ancestors.now)) (are_names (string_bytes one.first.now) (string_bytes two.second.now) (string_bytes three.third.now)) (node_of (members_view c.args.members.now.entries)) h c.as_bool.ensures c.in_ok-fields.ensures (ap Some c.new.ensures.items) c.in_ok-roots.ensures named (ap (λ es. node_of (members_view es)) all))
    c.node.ensures

pub read_members-returns : goal.read_members-returns
read_members-returns t c =
    let one = c.in-Some in
    let two = c.in-Some-next in
    let three = c.in-Some-next-2 in
    let four = c.in-Some-next-3 in
    let all = sym c.iter-rest.ensures.rest ∙ one.ensures.steps ∙ ap (λ es. (one.first.now, one.ancestors.now) ∷ es) (two.ensures.steps ∙ ap (λ es. (two.second.now, two.children.now) ∷ es) (three.ensures.steps ∙ ap (λ es. (three.third.now, three.mark.now) ∷ es) (four.ensures.steps ∙ ap (λ es. (four.fourth.now, four.tags.now) ∷ es) c.in-None.ensures.steps.0))) in
    let named = sym (c.if-not-are_names.ensures ∙ (λ j. are_names (c.as_str.ensures.value j) (c.as_str-2.ensures.value j) (c.as_str-3.ensures.value j))) in
    let tagged = sym (c.if-not-is_tags.ensures ∙ (λ j. bytes_eq (c.as_str-4.ensures.value j) (codes "tags"))) in
    IfOk-weaker c.node-2.result (λ o. option_map (λ v. v.items) o ≡ node_places c.as_bool-2.result (option_map (λ v. v.items) c.in_ok-fields-2.fields) (option_map (λ v. v.items) c.in_ok-tags.tags) (option_map (λ v. v.items) c.in_ok-roots-2.roots)) (λ o. option_map (λ v. v.items) o ≡ option_map places_of (node_of (members_view c.args.members.now.entries)))
    (λ o h. node_read (option_map (λ v. v.items) o) _ _ _ _ (as_bool (view three.mark.now)) (listed_in Fields (view two.children.now)) (tags_of (view four.tags.now)) (trie_of (view one.ancestors.now)) (are_names (string_bytes one.first.now) (string_bytes two.second.now) (string_bytes three.third.now) && bytes_eq (string_bytes four.fourth.now) (codes "tags")) (node_of (members_view c.args.members.now.entries)) h c.as_bool-2.ensures c.in_ok-fields-2.ensures c.in_ok-tags.ensures c.in_ok-roots-2.ensures (ap (λ b. b && bytes_eq (string_bytes four.fourth.now) (codes "tags")) named ∙ tagged) (ap (λ es. node_of (members_view es)) all))
    c.node-2.ensures

pub read_second_in-returns : goal.read_second_in-returns
read_second_in-returns t c =
    let all = sym c.deref.ensures.value ∙ sym c.iter-rest.ensures.rest ∙ c.in-Some.ensures.steps ∙ ap (λ vs. c.in-Some._key.now ∷ vs) (c.in-Some-next.ensures.steps ∙ ap (λ vs. c.in-Some-next.node.now ∷ vs) (empty_of_length c.next-2.new.self.rest.now c.in-None.ensures.steps.0)) in
    IfOk-weaker c.read_node.result (λ o. option_map (λ v. v.items) o ≡ option_map places_of (branch_of (view c.in-Some-next.node.now))) (λ o. option_map (λ v. v.items) o ≡ option_map places_of (second_in (items_view c.args.items.now.items)))
    (λ o h. h ∙ sym (ap (λ vs. option_map places_of (second_in (items_view vs))) all))
    c.read_node.ensures
