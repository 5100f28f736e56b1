use Rattle.std.proofs.Common.{◌≡◌, Bool, true, [], ◌∷◌, ap, sym, ◌∙◌, subst}
use Rattle.std.specs.Prelude.{if◌then◌else◌}
use Rattle.policy_values.specs.Value.{fields_of, no_fields}
use Rattle.reads_spec.specs.Paths.{any_tag}
use Rattle.entity_loader.specs.Asked.{asks}
use Rattle.table_loader.specs.OrderLaws.{KeysAscend}
use Rattle.table_loader.specs.RowsState.{tags_at}
use Rattle.table_loader.proofs.Loading.{at_ok}
use Rattle.table_loader.proofs.entities.tags.Goals as goal

pub returns-in_ok-map_of-in-Some-clause-found : goal.returns-in_ok-map_of-in-Some-clause-found
returns-in_ok-map_of-in-Some-clause-found g c = λ t known up.
    let all = tags_at t c.args.uid.now in
    let read : fields_of c.in_ok-entries-in-Some.entries.items ≡ all =
    at_ok (λ ts. fields_of ts.items ≡ all) c.tags-in-Some.result c.in_ok-entries-in-Some.entries c.in_ok-entries-in-Some.ensures.ok (c.tags-in-Some.ensures.answer t known) in
    let asked : asks c.args.trie.now (any_tag ∷ []) ≡ true = c.in-Some.ensures.paths [] ∙ c.in-Some.ensures.there in
    c.in_ok-map_of-in-Some.ensures (subst KeysAscend (sym read) up) ∙ read ∙ sym (ap (λ (b : Bool). if b then all else no_fields) asked)

pub returns-in-None-clause-found : goal.returns-in-None-clause-found
returns-in-None-clause-found g c = λ t known up.
    ap fields_of c.new.ensures.empty ∙
    sym (ap (λ (b : Bool). if b then tags_at t c.args.uid.now else no_fields) (c.in-None.ensures []))
