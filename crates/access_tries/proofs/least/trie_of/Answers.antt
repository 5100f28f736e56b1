use Rattle.std.proofs.Common.{is_some, sym, ap, length, ◌∙◌}
use Rattle.access_tries.specs.Table.{at_path, has_mark}
use Rattle.access_tries.proofs.Addresses.{none_in, none_of}
use Rattle.access_tries.proofs.least.trie_of.Goals as goal

pub returns-in-empty : goal.returns-in-empty
returns-in-empty c = rw c.new.ensures (rw (none_in c.args.addresses.now c.in-empty.len_below) (none_of c.args.mark))

pub returns : goal.returns
returns c =
    let fact = c.in_ok-append_node.ensures in
    let zero = fact.number.0 ∙ ap length c.new-nodes.ensures.items in
    let nodes = c.append_node.new.nodes.items in
    rw c.from_nodes.ensures (record {
      paths = λ es. ap (λ k. at_path is_some nodes k es) (sym zero) ∙ fact.present es;
      marks = λ es. ap (λ k. at_path has_mark nodes k es) (sym zero) ∙ fact.marked es;
    })
